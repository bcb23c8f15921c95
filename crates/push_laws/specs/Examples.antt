-- Worked examples of what is said of pushed commits.
use Rattle.std.specs.Prelude.{◌≡◌, refl, ℕ, List, [], ◌∷◌, ◌++◌, map, codes, Option, Some, None, Result, Ok, Err}
use Rattle.std.specs.Option.{option_map, option_to_list}
use Rattle.std.specs.Fmt.{digits}
use Rattle.sha1.specs.Sha1.{sha1, first_words, schedule, rounds, compress, hash_after, digest_bytes}
use Rattle.hex.specs.Hex.{encode_with}
use Rattle.git_objects.specs.Paths.{Bytes, Path}
use Rattle.git_objects.specs.Trees.{Leaf, FileLeaf, LinkLeaf, Flat}
use Rattle.git_objects.specs.Names.{name, body, line}
use Rattle.git_objects.specs.Commits.{commit_body, commit_name, hex}
use Rattle.git_objects.specs.Snapshots.{Snapshot, Graph, snapshot_name, add_all}
use Rattle.path_names.specs.PathTexts.{path_of}
use Rattle.path_names.specs.Quoting.{unquote}
use Rattle.filter_text.specs.Filters.{Filter, Filters, sub, onto, dir, file, exclude, join, chain, workspace, more, only}
use Rattle.filter_text.specs.Texts.{name_at, kept_name_at, target_at}
use Rattle.filter_text.specs.Reading.{word_at, pieces_at, list_at}
use Rattle.filter_text.specs.Items.{items, members}
use Rattle.workspace.specs.Workspaces.{listed, next, resolve, shown, with_leaf}
use Rattle.commit_map.specs.declared.rule.Rule.TheVariants.{One}
use Rattle.projection_laws.specs.Projections.{projection}
use Rattle.push_laws.specs.PushVerdicts.{Refusal, NoChange, BadWorkspace, Unseen, NotHeld, Blocked, Verdict, verdict}

-- what a theorem about texts of files unfolds, so that it computes
unfoldable pub reading : Option Path
unfolding items members pieces_at list_at target_at name_at kept_name_at word_at path_of unquote
reading = None

-- the same of filters for trees
unfoldable pub showing : Option Path
unfolding listed with_leaf resolve shown next
showing = None

-- the same of names
unfoldable pub naming : Option Path
unfolding commit_name commit_body encode_with body line name digits first_words schedule rounds compress hash_after digest_bytes sha1
naming = None

abbrev pub a : Bytes
a = codes "a"

abbrev pub b : Bytes
b = codes "b"

abbrev pub f : Bytes
f = codes "f"

abbrev two : Filter → Filter → Filters
two x y = more x (only y)

-- a line of text
abbrev pub text_line : Bytes → Bytes
text_line t = t ++ 10 ∷ []

-- ---- a tree with a workspace

abbrev ws : Bytes
ws = codes "ws"

abbrev deps : Bytes
deps = codes "deps"

abbrev modules : Bytes
modules = codes "modules"

abbrev josh : Bytes
josh = codes "workspace.josh"

abbrev listing : Bytes
listing = text_line (codes "deps = :/modules:[::tools/,::lib/]")

abbrev leaf : Leaf
leaf = FileLeaf (codes "1")

abbrev old : Leaf
old = FileLeaf (codes "2")

abbrev with_file : Bytes → Flat
with_file t =
    (modules ∷ codes "doc" ∷ codes "d" ∷ [], leaf)
    ∷ (modules ∷ codes "lib" ∷ codes "l" ∷ [], leaf)
    ∷ (modules ∷ codes "tools" ∷ codes "t" ∷ [], leaf)
    ∷ (ws ∷ deps ∷ codes "old" ∷ [], old)
    ∷ (ws ∷ codes "main" ∷ [], leaf)
    ∷ (ws ∷ josh ∷ [], FileLeaf t)
    ∷ []

abbrev view : Filter
view = workspace (ws ∷ [])

-- ---- commits and pushes

abbrev pub ident : Bytes
ident = codes "A <a@x> 1700000000 +0000"

-- a commit with this tree, these parents and this message
abbrev pub commit : Flat → List Bytes → Bytes → Snapshot
commit t parents m = record { tree = t; parents = parents; letter = record { author = ident; committer = ident; message = m } }

-- commits of these trees and messages, each upon the one before, the first upon a commit or none
abbrev in_line : Option Bytes → List (Flat × Bytes) → List Snapshot
in_line parent [] = []
in_line parent (x ∷ xs) = let c : Snapshot = commit x.0 (option_to_list parent) x.1 in c ∷ in_line (Some (snapshot_name c)) xs

-- what came of a push: the original trees, or the refusal with its number
abbrev pub Outcome : Type 0
Outcome = Result (List Flat) (ℕ × Refusal)

abbrev pub outcome_of : Verdict → Outcome
outcome_of (Ok ps) = Ok (map (λ p. p.original.tree) ps)
outcome_of (Err e) = Err e

abbrev pushed_of : Verdict → List Snapshot
pushed_of (Ok ps) = map (λ p. p.pushed) ps
pushed_of (Err e) = []

abbrev last_name : List Snapshot → Bytes
last_name [] = []
last_name (c ∷ []) = snapshot_name c
last_name (c ∷ d ∷ cs) = last_name (d ∷ cs)

abbrev pub originals_of : Verdict → List Snapshot
originals_of (Ok ps) = map (λ p. p.original) ps
originals_of (Err e) = []

-- the name of the commit that a filter shows for a graph's newest one
abbrev shown_head : Filter → Graph → Option Bytes
shown_head g [] = None
shown_head g (c ∷ older) = option_map (λ p. p.commit) (projection One (shown g) (c ∷ older) (snapshot_name c))

abbrev head_name : Graph → Bytes
head_name [] = []
head_name (c ∷ older) = snapshot_name c

-- a push of commits of these trees and messages, upon what is shown of a graph's newest commit
abbrev push : Filter → Graph → List (Flat × Bytes) → Verdict
push g commits xs = verdict g commits (head_name commits) (in_line (shown_head g commits) xs)

-- the outcome of a push of one tree upon a graph of one commit
abbrev push_upon : Filter → Flat → Flat → Outcome
push_upon g t n = outcome_of (push g (commit t [] (codes "1") ∷ []) ((n, codes "2") ∷ []))

-- ---- pushes of a workspace's file

abbrev longer : Bytes
longer = text_line (codes "deps = :/modules:[::tools/,::lib/,::doc/]")

abbrev faulty : Bytes
faulty = text_line (codes "deps = [")

abbrev doc : Path × Leaf
doc = (deps ∷ codes "doc" ∷ codes "d" ∷ [], leaf)

-- what is shown, with another text in the file
abbrev with_text : Bytes → Flat
with_text t =
    (deps ∷ codes "lib" ∷ codes "l" ∷ [], leaf)
    ∷ (deps ∷ codes "tools" ∷ codes "t" ∷ [], leaf)
    ∷ (codes "main" ∷ [], leaf)
    ∷ (josh ∷ [], FileLeaf t)
    ∷ []

-- what the new text shows is pushed as it stands: the file alone differs
pub widened : push_upon view (with_file listing) (doc ∷ with_text longer) ≡ Ok (with_file longer ∷ [])
unfolding reading showing naming
widened = refl

-- or it is told
pub widened_unseen : push_upon view (with_file listing) (with_text longer) ≡ Err (1, Unseen (modules ∷ codes "doc" ∷ codes "d" ∷ []))
unfolding reading showing naming
widened_unseen = refl

-- what the new text doesn't show stays
pub emptied : push_upon view (with_file listing) ((deps ∷ codes "old" ∷ [], old) ∷ (codes "main" ∷ [], leaf) ∷ (josh ∷ [], FileLeaf []) ∷ []) ≡ Ok (with_file [] ∷ [])
unfolding reading showing naming
emptied = refl

pub unreadable : push_upon view (with_file listing) (with_text faulty) ≡ Err (1, BadWorkspace)
unfolding reading showing naming
unreadable = refl

-- a link isn't read
pub link : push_upon view (with_file listing) ((codes "main" ∷ [], leaf) ∷ (josh ∷ [], LinkLeaf listing) ∷ []) ≡ Err (1, BadWorkspace)
unfolding reading showing naming
link = refl

-- without the file the workspace shows its own directory alone
pub deleted : push_upon view (with_file listing) ((deps ∷ codes "old" ∷ [], old) ∷ (codes "main" ∷ [], leaf) ∷ [])
    ≡ Ok (((modules ∷ codes "doc" ∷ codes "d" ∷ [], leaf)
    ∷ (modules ∷ codes "lib" ∷ codes "l" ∷ [], leaf)
    ∷ (modules ∷ codes "tools" ∷ codes "t" ∷ [], leaf)
    ∷ (ws ∷ deps ∷ codes "old" ∷ [], old)
    ∷ (ws ∷ codes "main" ∷ [], leaf)
    ∷ [])
    ∷ [])
unfolding reading showing naming
deleted = refl

-- a text by which the file isn't shown where it stands
pub moves_itself : push_upon view (with_file listing) ((codes "main" ∷ [], leaf) ∷ (josh ∷ [], FileLeaf (text_line (codes "x = ::ws/workspace.josh\nworkspace.josh = ::a"))) ∷ []) ≡ Err (1, BadWorkspace)
unfolding reading showing naming
moves_itself = refl

-- ---- pushes through other filters

abbrev pub g : Bytes
g = codes "g"

abbrev x : Bytes
x = codes "x"

abbrev pub k : Bytes
k = codes "k"

abbrev pub hello : Leaf
hello = FileLeaf (text_line (codes "hello"))

abbrev pub one : Leaf
one = FileLeaf (text_line (codes "1"))

abbrev pub first : Snapshot
first = commit ((a ∷ f ∷ [], hello) ∷ []) [] (text_line (codes "init"))

pub first_name : hex (snapshot_name first) ≡ codes "5990ba6163d77f77071ca2e8e9899c368dbc6eb7"
unfolding showing naming
first_name = refl

pub first_shown : option_map hex (shown_head (sub (a ∷ [])) (first ∷ [])) ≡ Some (codes "6a27ff6de5d45a65cc66723c6ae6227ea6004aa6")
unfolding showing naming
first_shown = refl

-- ...a file more, and then one less: what isn't shown stays
abbrev pub beside : Graph
beside = commit ((a ∷ f ∷ [], hello) ∷ (b ∷ k ∷ [], hello) ∷ []) [] (text_line (codes "init")) ∷ []

abbrev two_pushed : Verdict
two_pushed = push (sub (a ∷ [])) beside (((f ∷ [], hello) ∷ (g ∷ [], one) ∷ [], codes "1") ∷ ((g ∷ [], one) ∷ [], codes "2") ∷ [])

pub in_a_row : outcome_of two_pushed
    ≡ Ok (((a ∷ f ∷ [], hello) ∷ (a ∷ g ∷ [], one) ∷ (b ∷ k ∷ [], hello) ∷ []) ∷ ((a ∷ g ∷ [], one) ∷ (b ∷ k ∷ [], hello) ∷ []) ∷ [])
unfolding showing naming
in_a_row = refl

-- the originals are shown as the pushed commits
pub shown_again : shown_head (sub (a ∷ [])) (add_all beside (originals_of two_pushed)) ≡ Some (last_name (pushed_of two_pushed))
unfolding showing naming
shown_again = refl

-- upon nothing, below a directory that isn't there yet
pub upon_nothing : outcome_of (push (sub (codes "new" ∷ [])) (first ∷ []) (((x ∷ [], one) ∷ [], codes "1") ∷ []))
    ≡ Ok (((a ∷ f ∷ [], hello) ∷ (codes "new" ∷ x ∷ [], one) ∷ []) ∷ [])
unfolding showing naming
upon_nothing = refl

pub its_parent : map (λ o. o.parents) (originals_of (push (sub (codes "new" ∷ [])) (first ∷ []) (((x ∷ [], one) ∷ [], codes "1") ∷ []))) ≡ (snapshot_name first ∷ []) ∷ []
unfolding showing naming
its_parent = refl

-- a file has no directory beside it
pub no_directory_shown : shown_head (dir (a ∷ [])) (commit ((a ∷ [], one) ∷ []) [] (codes "1") ∷ []) ≡ None
unfolding showing naming
no_directory_shown = refl

pub beside_a_file : push_upon (dir (a ∷ [])) ((a ∷ [], one) ∷ []) ((a ∷ x ∷ [], one) ∷ []) ≡ Err (1, Blocked (a ∷ x ∷ []) (a ∷ []))
unfolding showing naming
beside_a_file = refl

-- `:[:exclude[::a/b/,::x/,::x],x=:/a/b]`: two pushed paths that are apart, and whose places aren't
pub by_each_other : push_upon
    (join (two (exclude (join (more (dir (a ∷ b ∷ [])) (two (dir (x ∷ [])) (file (x ∷ [])))))) (chain (two (sub (a ∷ b ∷ [])) (onto (x ∷ []))))))
    ((k ∷ [], one) ∷ []) ((a ∷ [], one) ∷ (k ∷ [], one) ∷ (x ∷ codes "z" ∷ [], one) ∷ []) ≡ Err (1, Blocked (a ∷ []) (a ∷ b ∷ codes "z" ∷ []))
unfolding showing naming
by_each_other = refl

-- `:prefix=lib`
abbrev lib : Path
lib = codes "lib" ∷ []

pub outside_of_prefix : outcome_of (push (onto lib) (first ∷ []) (((codes "lib" ∷ a ∷ f ∷ [], hello) ∷ (codes "readme" ∷ [], one) ∷ [], codes "1") ∷ []))
    ≡ Err (1, NotHeld (codes "readme" ∷ []))
unfolding showing naming
outside_of_prefix = refl

pub all_deleted : outcome_of (push (onto lib) (first ∷ []) (([], codes "1") ∷ [])) ≡ Ok ([] ∷ [])
unfolding showing naming
all_deleted = refl

pub all_deleted_shown :
    (let v : Verdict = push (onto lib) (first ∷ []) (([], codes "1") ∷ []) in shown_head (onto lib) (add_all (first ∷ []) (originals_of v)) ≡ Some (last_name (pushed_of v)))
unfolding showing naming
all_deleted_shown = refl

-- there and back: the first original tree again
pub there_and_back : outcome_of (push (sub (a ∷ [])) (first ∷ []) (((f ∷ [], FileLeaf (text_line (codes "hello world"))) ∷ [], codes "1") ∷ ((f ∷ [], hello) ∷ [], codes "2") ∷ []))
    ≡ Ok (((a ∷ f ∷ [], FileLeaf (text_line (codes "hello world"))) ∷ []) ∷ first.tree ∷ [])
unfolding showing naming
there_and_back = refl

-- a push through a filter leaves what another one shows
pub another_filter : shown_head (sub (a ∷ [])) (add_all (first ∷ []) (originals_of (push (sub (b ∷ [])) (first ∷ []) (((x ∷ [], one) ∷ [], codes "1") ∷ []))))
    ≡ shown_head (sub (a ∷ [])) (first ∷ [])
unfolding showing naming
another_filter = refl

pub no_change : push_upon (sub (a ∷ [])) first.tree ((f ∷ [], hello) ∷ []) ≡ Err (1, NoChange)
unfolding showing naming
no_change = refl

-- ---- two original trees of which one tree is shown

-- `::a/` shows nothing of a file `a`, and nothing of a file `b`: a push upon the first one is refused by what isn't shown
pub shown_alike : (let t : Flat = (a ∷ [], one) ∷ [] in let u : Flat = (b ∷ [], one) ∷ [] in shown (dir (a ∷ [])) t ≡ shown (dir (a ∷ [])) u)
unfolding showing
shown_alike = refl

pub beside_another_file : push_upon (dir (a ∷ [])) ((b ∷ [], one) ∷ []) ((a ∷ x ∷ [], one) ∷ []) ≡ Ok (((a ∷ x ∷ [], one) ∷ (b ∷ [], one) ∷ []) ∷ [])
unfolding showing naming
beside_another_file = refl

-- `:workspace=ws:exclude[::workspace.josh]` doesn't show the workspace's file: nothing is shown of a tree without it, nor of one with it,
-- whose item `y` leaves no place for a file `y`
abbrev hides_file : Filter
hides_file = chain (two (workspace (ws ∷ [])) (exclude (file (josh ∷ []))))

abbrev without_file : Flat
without_file = (k ∷ [], one) ∷ []

abbrev with_hidden_file : Flat
with_hidden_file = (ws ∷ josh ∷ [], FileLeaf (text_line (codes "y = :/m"))) ∷ []

pub hidden_alike : shown hides_file without_file ≡ shown hides_file with_hidden_file
unfolding reading showing
hidden_alike = refl

pub pushed_without_file : push_upon hides_file without_file ((codes "y" ∷ [], one) ∷ []) ≡ Ok (((k ∷ [], one) ∷ (ws ∷ codes "y" ∷ [], one) ∷ []) ∷ [])
unfolding reading showing naming
pushed_without_file = refl

pub pushed_with_hidden_file : push_upon hides_file with_hidden_file ((codes "y" ∷ [], one) ∷ []) ≡ Err (1, NotHeld (codes "y" ∷ []))
unfolding reading showing naming
pushed_with_hidden_file = refl

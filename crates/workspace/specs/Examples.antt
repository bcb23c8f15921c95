-- Worked examples.
use Rattle.std.specs.Prelude.{◌≡◌, refl, true, false, [], ◌∷◌, ◌++◌, codes, Option, Some, None}
use Rattle.git_objects.specs.Paths.{Bytes, Path}
use Rattle.git_objects.specs.Trees.{Leaf, FileLeaf, ExecLeaf, LinkLeaf, ModuleLeaf, Flat}
use Rattle.path_names.specs.PathTexts.{path_of}
use Rattle.path_names.specs.Quoting.{unquote}
use Rattle.filter_text.specs.Filters.{Filter, Filters, sub, onto, dir, file, exclude, join, chain, workspace, no_more, more, only}
use Rattle.filter_text.specs.Texts.{name_at, kept_name_at, target_at}
use Rattle.filter_text.specs.Reading.{word_at, pieces_at, list_at}
use Rattle.filter_text.specs.Items.{items, members}
use Rattle.filter_routes.specs.FaultTests.{fault}
use Rattle.filter_routes.specs.declared.fault.RouteFault.TheVariants.{Overlap}
use Rattle.workspace.specs.Giving.{leaf_gives}
use Rattle.workspace.specs.declared.giving.LeafGives.TheVariants as gives
use Rattle.workspace.specs.Workspaces.{fronts, is_unreadable, leaf_items, listed, next, place, resolve, shown, shown_place, with_leaf}

-- what a theorem about workspaces unfolds, so that it computes
unfoldable pub reading : Option Path
unfolding items members pieces_at list_at target_at name_at kept_name_at word_at path_of unquote listed with_leaf resolve shown next
reading = None

-- a line of text
abbrev text_line : Bytes → Bytes
text_line t = t ++ 10 ∷ []

abbrev two : Filter → Filter → Filters
two x y = more x (only y)

abbrev a : Bytes
a = codes "a"

abbrev b : Bytes
b = codes "b"

abbrev ws : Bytes
ws = codes "ws"

abbrev deps : Bytes
deps = codes "deps"

abbrev modules : Bytes
modules = codes "modules"

abbrev josh : Bytes
josh = codes "workspace.josh"

abbrev listing : Bytes
listing = text_line (codes "deps = :/modules:[::tools/,::lib/]")

abbrev faulty : Bytes
faulty = text_line (codes "deps = [")

abbrev leaf : Leaf
leaf = FileLeaf (codes "1")

abbrev old : Leaf
old = FileLeaf (codes "2")

-- a tree with this leaf at ws/workspace.josh
abbrev with_file : Leaf → Flat
with_file x =
    (modules ∷ codes "doc" ∷ codes "d" ∷ [], leaf)
    ∷ (modules ∷ codes "lib" ∷ codes "l" ∷ [], leaf)
    ∷ (modules ∷ codes "tools" ∷ codes "t" ∷ [], leaf)
    ∷ (ws ∷ deps ∷ codes "old" ∷ [], old)
    ∷ (ws ∷ codes "main" ∷ [], leaf)
    ∷ (ws ∷ josh ∷ [], x)
    ∷ []

-- `:workspace=ws`
abbrev view : Filter
view = workspace (ws ∷ [])

-- ---- the workspace place

pub its_place : place view ≡ Some (ws ∷ josh ∷ [])
its_place = refl

pub no_place : place (sub (ws ∷ [])) ≡ None
no_place = refl

-- `:/a:workspace=ws`, `:prefix=b:workspace=b/ws` and `:prefix=b:workspace=ws`
pub place_below : place (chain (two (sub (a ∷ [])) view)) ≡ Some (a ∷ ws ∷ josh ∷ [])
place_below = refl

pub place_above : place (chain (two (onto (b ∷ [])) (workspace (b ∷ ws ∷ [])))) ≡ Some (ws ∷ josh ∷ [])
place_above = refl

pub place_beside : place (chain (two (onto (b ∷ [])) view)) ≡ None
place_beside = refl

-- ---- the list

pub three_fronts : fronts (a ∷ b ∷ ws ∷ []) ≡ (a ∷ []) ∷ (a ∷ b ∷ []) ∷ []
three_fronts = refl

-- a workspace without items is `:[:/ws:exclude[]]`
pub without_items : listed (ws ∷ []) [] ≡ join (only (chain (two (sub (ws ∷ [])) (exclude (join no_more)))))
unfolding listed
without_items = refl

-- `a/b = :/ws` in ws: `:[:/ws:prefix=a/b,:/ws:exclude[::a/b/,::a/b,::a]]`
pub with_item : listed (ws ∷ []) ((a ∷ b ∷ [], chain (two (sub (ws ∷ [])) (onto (a ∷ b ∷ [])))) ∷ [])
    ≡ join (two (chain (two (sub (ws ∷ [])) (onto (a ∷ b ∷ []))))
    (chain (two (sub (ws ∷ [])) (exclude (join (more (dir (a ∷ b ∷ [])) (two (file (a ∷ b ∷ [])) (file (a ∷ [])))))))))
unfolding listed
with_item = refl

-- ---- the items of a leaf

pub no_leaf : is_unreadable (ws ∷ []) None ≡ false
no_leaf = refl

pub empty_text : is_unreadable (ws ∷ []) (Some (FileLeaf [])) ≡ false
unfolding reading
empty_text = refl

pub executable : is_unreadable (ws ∷ []) (Some (ExecLeaf listing)) ≡ false
unfolding reading
executable = refl

pub faulty_text : is_unreadable (ws ∷ []) (Some (FileLeaf faulty)) ≡ true
unfolding reading
faulty_text = refl

-- a link isn't read, nor is a module
pub link : is_unreadable (ws ∷ []) (Some (LinkLeaf listing)) ≡ true
link = refl

pub link_items : leaf_items (ws ∷ []) (Some (LinkLeaf listing)) ≡ []
link_items = refl

pub module_leaf : is_unreadable (ws ∷ []) (Some (ModuleLeaf listing)) ≡ true
module_leaf = refl

-- two items that clash: each shows its whole tree at its own place, but the second place lies below the first
pub clash : is_unreadable (ws ∷ []) (Some (FileLeaf (text_line (codes "a = :/x\na/b = :/y")))) ≡ true
unfolding reading
clash = refl

-- an item of the workspace's own directory, whose paths the last branch shows too
pub own_paths : is_unreadable (ws ∷ []) (Some (FileLeaf (text_line (codes "x = :/ws/sub")))) ≡ true
unfolding reading
own_paths = refl

-- ---- what a leaf gives

pub absent : leaf_gives (ws ∷ []) None ≡ gives.Absent
absent = refl

pub no_file : leaf_gives (ws ∷ []) (Some (LinkLeaf listing)) ≡ gives.NoFile
no_file = refl

pub unreadable : leaf_gives (ws ∷ []) (Some (FileLeaf faulty)) ≡ gives.Unreadable
unfolding reading
unreadable = refl

pub two_items : leaf_gives (ws ∷ []) (Some (FileLeaf (text_line (codes "a = :/x\nb = :/y")))) ≡ gives.Items 2
unfolding reading fault
two_items = refl

pub no_items : leaf_gives (ws ∷ []) (Some (FileLeaf [])) ≡ gives.Items 0
unfolding reading fault
no_items = refl

-- the second place lies below the first
pub two_clash : leaf_gives (ws ∷ []) (Some (FileLeaf (text_line (codes "a = :/x\na/b = :/y")))) ≡ gives.Unsound (Overlap 0 0 1)
unfolding reading fault
two_clash = refl

-- behind the two items is the workspace's own directory, which has the paths of the second too
pub own_clash : leaf_gives (ws ∷ []) (Some (FileLeaf (text_line (codes "a = :/x\nb = :/ws/sub")))) ≡ gives.Unsound (Overlap 0 1 2)
unfolding reading fault
own_clash = refl

-- ---- resolving

pub same_filter : with_leaf (sub (ws ∷ [])) (Some leaf) ≡ sub (ws ∷ [])
unfolding with_leaf
same_filter = refl

-- a workspace alone becomes the list, one among pieces a piece of the chain
pub alone : with_leaf view None ≡ listed (ws ∷ []) []
unfolding with_leaf
alone = refl

pub among_pieces : with_leaf (chain (more (sub (a ∷ [])) (two view (onto (b ∷ []))))) None
    ≡ chain (more (sub (a ∷ [])) (two (listed (ws ∷ []) []) (onto (b ∷ []))))
unfolding with_leaf
among_pieces = refl

pub workspace_shows : shown view (with_file (FileLeaf listing))
    ≡ (deps ∷ codes "lib" ∷ codes "l" ∷ [], leaf)
    ∷ (deps ∷ codes "tools" ∷ codes "t" ∷ [], leaf)
    ∷ (codes "main" ∷ [], leaf)
    ∷ (josh ∷ [], FileLeaf listing)
    ∷ []
unfolding reading
workspace_shows = refl

-- a file that can't be read gives no items
pub faulty_shows : shown view (with_file (FileLeaf faulty))
    ≡ (deps ∷ codes "old" ∷ [], old) ∷ (codes "main" ∷ [], leaf) ∷ (josh ∷ [], FileLeaf faulty) ∷ []
unfolding reading
faulty_shows = refl

pub link_shows : shown view (with_file (LinkLeaf listing))
    ≡ (deps ∷ codes "old" ∷ [], old) ∷ (codes "main" ∷ [], leaf) ∷ (josh ∷ [], LinkLeaf listing) ∷ []
unfolding reading
link_shows = refl

-- ---- the filter of what is pushed

pub its_shown_place : shown_place view (with_file (FileLeaf listing)) ≡ Some (josh ∷ [])
unfolding reading
its_shown_place = refl

-- the pushed file counts
pub by_pushed_file : next view (with_file (FileLeaf listing)) ((josh ∷ [], FileLeaf []) ∷ []) ≡ listed (ws ∷ []) []
unfolding reading
by_pushed_file = refl

pub without_pushed_file : next view (with_file (FileLeaf listing)) ((codes "main" ∷ [], leaf) ∷ []) ≡ listed (ws ∷ []) []
unfolding reading
without_pushed_file = refl

-- behind `:/deps` the file isn't shown, so that no push changes it
pub not_pushed : next (chain (two view (sub (deps ∷ [])))) (with_file (FileLeaf listing)) []
    ≡ resolve (chain (two view (sub (deps ∷ [])))) (with_file (FileLeaf listing))
unfolding reading
not_pushed = refl

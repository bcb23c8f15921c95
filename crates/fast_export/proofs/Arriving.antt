-- Reading and replaying an export, commit by commit.
use Rattle.std.proofs.Common.{◌≡◌, ◌⊎◌, inl, inr, ℕ, ◌+◌, ◌^◌, ◌<◌, ◌≤◌, Bool, true, false, cond, T, List, [], ◌∷◌, ◌++◌, length, map, refl, sym, ap, ◌∙◌, subst, Option, Some, None, Result, append_assoc, append-nil, arith, length-append}
use Rattle.std.specs.Prelude.{codes, if◌then◌else◌}
use Rattle.std.specs.Option.{is_some, option_and_then}
use Rattle.std.specs.List.{enumerate_from}
use Rattle.std.specs.Fmt.{decimal}
use Rattle.std.specs.Ordering.{is_eq}
use Rattle.std.specs.Cmp.{tied_itself}
use Rattle.std.specs.Cmp.Lexicographic.{nat_list_cmp_total}
use Rattle.std.specs.FinMap.{find as find_entry, put as put_entry}
use Rattle.std.specs.FinMap.Entries.{by_order}
use Rattle.git_objects.specs.Paths.{Bytes, Path, is_path}
use Rattle.git_objects.specs.Trees.{Leaf, FileLeaf, ExecLeaf, LinkLeaf, ModuleLeaf, is_leaf, Flat, IsTree}
use Rattle.git_objects.specs.Commits.{Letter}
use Rattle.git_objects.specs.Lists.{Each}
use Rattle.path_names.specs.RefNames.{is_ref_name}
use Rattle.stream_reader.specs.declared.fault.StreamFault.{StreamFault}
use Rattle.stream_reader.specs.declared.command.Command.TheVariants as commands
use Rattle.stream_reader.specs.declared.command.Change.TheVariants as changes
use Rattle.stream_reader.specs.Verdicts.{start}
use Rattle.git_objects.specs.Refs.{bytes_cmp}
use Rattle.git_objects.specs.Snapshots.{Snapshot, snapshot_name}
use Rattle.fast_import.specs.Replays.{Replay, Marked, BlobMark, CommitMark, marked, value_at, named_tree, branch, step, with_mark, with_branch, empty_base}
use Rattle.fast_export.specs.ExportTexts.{is_among}
use Rattle.fast_export.specs.Laws.{is_zero_module}
use Rattle.fast_export.proofs.Goings.{Arrives, Steps, Stepped, TooMuch, stays, goes, command_goes}
use Rattle.fast_export.proofs.ReadLines.{left, Room, data_text}
use Rattle.fast_export.proofs.Heads.{line_behind, inside, word_text, colon, merge_lines, IsMark, blob_lines, blob_turn, IsHead, IsSigned, commit_lines, commit_turn, all_text, from_lines, reset_turn, ref_plain}
use Rattle.fast_export.proofs.Changing.{IsReadable, is_change, leaf_change, leaf_text, all_turn, leaf_turn, end_turn}
use Rattle.fast_export.proofs.Building.{put_next, next_path, next_leaf}
use Rattle.fast_export.proofs.Marking.{own_number, contents, AreMarked, older_marked, newer_marked, has_tree, HasBlob}
use Rattle.fast_export.proofs.Stepping.{blob_step, IsThere, Drafting, DraftsSome, head_step, all_step, NamesLeaf, leaf_step, Committed, end_step, reset_step}
use Rattle.fast_export.proofs.Texts.{blobs_lines, leaf_mark, leaves_lines, marks_of, start_lines}

-- ---- one branch

abbrev pub One : Bytes → List (Bytes × Option Bytes) → Type 0
One ref bs = (bs ≡ []) ⊎ ((v : Option Bytes) × (bs ≡ (ref, v) ∷ []))

pub put_one : (ref : Bytes) (v : Option Bytes) (bs : List (Bytes × Option Bytes)) → One ref bs → put_entry bytes_cmp ref v bs ≡ (ref, v) ∷ []
put_one ref v bs (inl e) = ap (put_entry bytes_cmp ref v) e
put_one ref v bs (inr h) =
    ap (put_entry bytes_cmp ref v) h.1
    ∙ ap (λ o. by_order o ((ref, v) ∷ (ref, h.0) ∷ []) ((ref, v) ∷ []) ((ref, h.0) ∷ (ref, v) ∷ [])) (tied_itself nat_list_cmp_total ref)

pub unset : (s : Replay) (ref : Bytes) → s.branches ≡ (ref, None) ∷ [] → branch s ref ≡ None
unset s ref e =
    ap (λ bs. option_and_then (λ n. n) (find_entry bytes_cmp ref bs)) e
    ∙ ap (λ o. option_and_then (λ n. n) (cond (is_eq o) (Some None) None)) (tied_itself nat_list_cmp_total ref)

-- ---- between commands

-- these commits are made, and the marks that were given, which lie below top, name the blobs and the commits
pub record Standing (ref : Bytes) (made : List Snapshot) (blobs names : List (ℕ × Bytes)) (top : ℕ) (s : Replay) : Type 0 where
  pub commits : s.commits ≡ made
  pub branches : One ref s.branches
  pub files : AreMarked BlobMark blobs top s.marks
  pub heads : AreMarked CommitMark names top s.marks
  pub tags : s.tags ≡ []

-- the mark that comes next can be written
pub record Few (n top : ℕ) (t : Bytes) : Type 0 where
  pub few : top + length t ≤ n + 1
  pub some : 1 ≤ top

pub few_mark : (n top : ℕ) (t : Bytes) → Few n top t → n ≤ 2 ^ 28 → IsMark top
few_mark n top t f m = let l = f.few in record { some = f.some; small = omega arith }

few_behind : (n top : ℕ) (a b : Bytes) → Few n top (a ++ b) → Few n top b
few_behind n top a b f = let l = f.few in record { few = omega (arith, length-append a b); some = f.some }

few_more : (n top : ℕ) (a b : Bytes) → Few n top (a ++ b) → 0 < length a → Few n (top + 1) b
few_more n top a b f h = let l = f.few in record { few = omega (arith, length-append a b); some = omega arith }

-- ---- blobs

pub blob_few : (n top : ℕ) (b rest : Bytes) → Few n top (blob_lines top b rest) → Few n (top + 1) rest
blob_few n top b rest f =
    few_more n top (b ++ 10 ∷ []) rest (subst (Few n top) (sym (append_assoc b (10 ∷ []) rest)) (few_behind n top (10 ∷ []) (b ++ 10 ∷ rest) (few_behind n top (codes "data " ++ decimal (length b)) (10 ∷ (b ++ 10 ∷ rest)) (few_behind n top (10 ∷ []) (data_text b rest) (few_behind n top (codes "mark " ++ colon top) (10 ∷ data_text b rest)
    (few_behind n top (10 ∷ []) (word_text (codes "mark ") (colon top) (data_text b rest)) (few_behind n top (codes "blob") (10 ∷ word_text (codes "mark ") (colon top) (data_text b rest)) f)))))))
    (omega (arith, length-append b (10 ∷ [])))

pub blob_room : (n top : ℕ) (b rest : Bytes) → Room n (blob_lines top b rest) → Room n rest
blob_room n top b rest r = line_behind n b rest (line_behind n (codes "data " ++ decimal (length b)) (b ++ 10 ∷ rest) (line_behind n (codes "mark " ++ colon top) (data_text b rest) (line_behind n (codes "blob") (word_text (codes "mark ") (colon top) (data_text b rest)) r)))

pub blobs_arrive : (n : ℕ) (ref : Bytes) (made : List Snapshot) (fs : List Bytes) (blobs names : List (ℕ × Bytes)) (top : ℕ) (rest : Bytes) (s : Replay) →
    Room n (blobs_lines (enumerate_from top fs) rest) → Few n top (blobs_lines (enumerate_from top fs) rest) → Standing ref made blobs names top s →
    Arrives start (left n (blobs_lines (enumerate_from top fs) rest)) s start (left n rest) (Standing ref made (blobs ++ enumerate_from top fs) names (top + length (enumerate_from top fs)))
blobs_arrive n ref made [] blobs names top rest s r f h =
    let e : top ≡ top + 0 = omega arith in
    stays start (left n rest) s (Standing ref made (blobs ++ []) names (top + 0)) (subst (λ k. Standing ref made (blobs ++ []) names k s) e (subst (λ b. Standing ref made b names top s) (sym (append-nil blobs)) h))
blobs_arrive n ref made (b ∷ fs) blobs names top rest s r f h =
    let t = blobs_lines (enumerate_from (top + 1) fs) rest in
    let e : top + 1 + length (enumerate_from (top + 1) fs) ≡ top + length (enumerate_from top (b ∷ fs)) = omega arith in
    let goal = Standing ref made (blobs ++ enumerate_from top (b ∷ fs)) names (top + length (enumerate_from top (b ∷ fs))) in
    goes start start start (left n (blob_lines top b t)) (left n t) (left n rest) s (Standing ref made (blobs ++ (top, b) ∷ []) names (top + 1)) goal
    (command_goes start start (left n (blob_lines top b t)) (left n t) s (λ c. c ≡ commands.Blob (Some top) b) (Standing ref made (blobs ++ (top, b) ∷ []) names (top + 1))
    (blob_turn top n b t r (few_mark n top (blob_lines top b t) f r.most))
    (λ c k. Stepped (with_mark (Some top) (BlobMark b) (record s { blobs = s.blobs ++ b ∷ [] })) (blob_step s c top b k)
    (record { commits = h.commits; branches = h.branches; files = newer_marked BlobMark blobs top s.marks b f.some h.files; heads = older_marked CommitMark names top s.marks (BlobMark b) h.heads; tags = h.tags })))
    (λ u g. subst (λ (S : Replay → Type 0). Arrives start (left n t) u start (left n rest) S)
    (λ i. Standing ref made (append_assoc blobs ((top, b) ∷ []) (enumerate_from (top + 1) fs) i) names (e i))
    (blobs_arrive n ref made fs (blobs ++ (top, b) ∷ []) names (top + 1) rest u (blob_room n top b t r) (blob_few n top b t f) g))

-- ---- leaves

pub T-true : (b : Bool) → T b → b ≡ true
T-true true h = refl
T-true false h = absurd h

pub leaf_readable : (blobs : List (ℕ × Bytes)) (top : ℕ) (marks : List (ℕ × Marked)) (p : Path) (x : Leaf) → AreMarked BlobMark blobs top marks → top ≤ 2 ^ 30 → HasBlob (contents blobs) (p, x) → T (is_leaf x) → is_zero_module x ≡ false →
    IsReadable (leaf_mark blobs x) x × NamesLeaf marks (leaf_mark blobs x) x
leaf_readable blobs top marks p (FileLeaf b) m l h v z = let g = m b (h b refl) in let low = g.low in (record { some = g.some; small = omega arith }, g.names)
leaf_readable blobs top marks p (ExecLeaf b) m l h v z = let g = m b (h b refl) in let low = g.low in (record { some = g.some; small = omega arith }, g.names)
leaf_readable blobs top marks p (LinkLeaf b) m l h v z = let g = m b (h b refl) in let low = g.low in (record { some = g.some; small = omega arith }, g.names)
leaf_readable blobs top marks p (ModuleLeaf n) m l h v z = ((T-true (is_leaf (ModuleLeaf n)) v, z), tt)

abbrev pub NotZero : Path × Leaf → Type 0
NotZero e = is_zero_module e.1 ≡ false

pub leaves_arrive : (n : ℕ) (r : Replay) (ref : Bytes) (number : ℕ) (l : Letter) (ps : List Bytes) (blobs : List (ℕ × Bytes)) (top : ℕ) → AreMarked BlobMark blobs top r.marks → top ≤ 2 ^ 30 → (whole : Flat) → IsTree whole →
    (front es : Flat) (rest : Bytes) (s : Replay) → front ++ es ≡ whole → Each (HasBlob (contents blobs)) es → Each NotZero es → Room n (leaves_lines blobs es rest) → Drafting r ref number l ps front s →
    Arrives inside (left n (leaves_lines blobs es rest)) s inside (left n rest) (Drafting r ref number l ps whole)
leaves_arrive n r ref number l ps blobs top m most whole tree front [] rest s e h z room d =
    stays inside (left n rest) s (Drafting r ref number l ps whole) (subst (λ t. Drafting r ref number l ps t s) (sym (append-nil front) ∙ e) d)
leaves_arrive n r ref number l ps blobs top m most whole tree front ((p, x) ∷ es) rest s e h z room d =
    let t = leaves_lines blobs es rest in
    let k = leaf_mark blobs x in
    let here : IsTree (front ++ (p, x) ∷ es) = subst IsTree (sym e) tree in
    let reads = leaf_readable blobs top r.marks p x m most h.0 (next_leaf front p x es here) z.0 in
    goes inside inside inside (left n (leaves_lines blobs ((p, x) ∷ es) rest)) (left n t) (left n rest) s (Drafting r ref number l ps (front ++ (p, x) ∷ [])) (Drafting r ref number l ps whole)
    (command_goes inside inside (left n (leaves_lines blobs ((p, x) ∷ es) rest)) (left n t) s (is_change (leaf_change k p x)) (Drafting r ref number l ps (front ++ (p, x) ∷ []))
    (leaf_turn k p x n t room reads.0 (T-true (is_path p) (next_path front p x es here)))
    (λ c g. leaf_step r ref number l ps front (front ++ (p, x) ∷ []) s c k p x d (subst (λ marks. NamesLeaf marks k x) (sym d.marks) reads.1) (put_next front p x es here) g))
    (λ u g. leaves_arrive n r ref number l ps blobs top m most whole tree (front ++ (p, x) ∷ []) es rest u (append_assoc front ((p, x) ∷ []) es ∙ e) h.1 z.1 (line_behind n (codes "M " ++ leaf_text k p x) t room) g)

-- ---- lengths

pub word_longer : (w v rest : Bytes) → length rest < length (word_text w v rest)
word_longer w v rest = omega (arith, length-append (w ++ v) (10 ∷ rest))

pub data_longer : (b rest : Bytes) → length rest < length (data_text b rest)
data_longer b rest = omega (arith, length-append (codes "data " ++ decimal (length b)) (10 ∷ (b ++ 10 ∷ rest)), length-append b (10 ∷ rest))

merges_longer : (ms : List ℕ) (t : Bytes) → length t ≤ length (merge_lines ms t)
merges_longer [] t = omega arith
merges_longer (m ∷ ms) t = omega (arith, merges_longer ms t, word_longer (codes "merge ") (colon m) (merge_lines ms t))

from_longer : (ms : List ℕ) (t : Bytes) → length t ≤ length (from_lines ms t)
from_longer [] t = omega arith
from_longer (m ∷ ms) t = omega (arith, merges_longer ms t, word_longer (codes "from ") (colon m) (merge_lines ms t))

pub leaves_longer : (blobs : List (ℕ × Bytes)) (es : Flat) (rest : Bytes) → length rest ≤ length (leaves_lines blobs es rest)
leaves_longer blobs [] rest = omega arith
leaves_longer blobs (e ∷ es) rest =
    omega (arith, leaves_longer blobs es rest, length-append (codes "M " ++ leaf_text (leaf_mark blobs e.1) e.0 e.1) (10 ∷ leaves_lines blobs es rest))

all_longer : (rest : Bytes) → length rest < length (all_text rest)
all_longer rest = omega (arith, length-append (codes "deleteall") (10 ∷ rest))

pub commit_longer : (ref : Bytes) (k : ℕ) (l : Letter) (ms : List ℕ) (t : Bytes) → length (all_text t) < length (commit_lines ref k l ms t)
commit_longer ref k l ms t =
    let t3 = from_lines ms (all_text t) in
    let t4 = data_text l.message t3 in
    let t5 = word_text (codes "committer ") l.committer t4 in
    let t6 = word_text (codes "author ") l.author t5 in
    let t7 = word_text (codes "mark ") (colon k) t6 in
    omega (arith, from_longer ms (all_text t), data_longer l.message t3, word_longer (codes "committer ") l.committer t4, word_longer (codes "author ") l.author t5, word_longer (codes "mark ") (colon k) t6, word_longer (codes "commit ") ref t7)

pub room_less : (n : ℕ) (a b : Bytes) → Room n a → length b ≤ length a → Room n b
room_less n a b r h = let f = r.fits in record { fits = omega arith; most = r.most }

-- ---- a commit

pub record After (ref : Bytes) (made : List Snapshot) (blobs names : List (ℕ × Bytes)) (number : ℕ) (c : Snapshot) (s : Replay) : Type 0 where
  pub standing : Standing ref (made ++ c ∷ []) blobs (names ++ (number, snapshot_name c) ∷ []) (number + 1) s
  pub last : marked number s.marks ≡ Some (CommitMark (snapshot_name c))

pub steps_so : (o : Result Replay StreamFault) (S U : Replay → Type 0) → ((s : Replay) → S s → U s) → Steps o S → Steps o U
steps_so o S U h (Stepped s e x) = Stepped s e (h s x)
steps_so o S U h (TooMuch at which e) = TooMuch at which e

pub after_commit : (ref : Bytes) (made : List Snapshot) (blobs names : List (ℕ × Bytes)) (number : ℕ) (c : Snapshot) (r s : Replay) → 1 ≤ number → Standing ref made blobs names number r → Committed r ref number c s → After ref made blobs names number c s
after_commit ref made blobs names number c r s one h d = record {
  standing = record {
    commits = d.commits ∙ ap (λ cs. cs ++ c ∷ []) h.commits;
    branches = inr (Some (snapshot_name c), d.branches ∙ put_one ref (Some (snapshot_name c)) r.branches h.branches);
    files = subst (AreMarked BlobMark blobs (number + 1)) (sym d.marks) (older_marked BlobMark blobs number r.marks (CommitMark (snapshot_name c)) h.files);
    heads = subst (AreMarked CommitMark (names ++ (number, snapshot_name c) ∷ []) (number + 1)) (sym d.marks) (newer_marked CommitMark names number r.marks (snapshot_name c) one h.heads);
    tags = d.tags ∙ h.tags;
  };
  last = ap (marked number) d.marks ∙ ap (λ b. if b then Some (CommitMark (snapshot_name c)) else marked number r.marks) (own_number number);
}

abbrev pub AmongAll : List (ℕ × Bytes) → List Bytes → Type 0
AmongAll names ps = Each (λ p. is_among p (contents names) ≡ true) ps

parents_there : (names : List (ℕ × Bytes)) (made : List Snapshot) (s : Replay) (ps : List Bytes) → s.commits ≡ made → contents names ≡ map snapshot_name made → AmongAll names ps → Each (IsThere s names) ps
parents_there names made s [] e f h = tt
parents_there names made s (p ∷ ps) e f h =
    (record { among = h.0; tree = ap (λ cs. is_some (value_at p (map named_tree cs ++ []))) e ∙ has_tree p made (ap (is_among p) (sym f) ∙ h.0) }, parents_there names made s ps e f h.1)

parent_marks : (names : List (ℕ × Bytes)) (top : ℕ) (marks : List (ℕ × Marked)) (ps : List Bytes) → top ≤ 2 ^ 30 → AreMarked CommitMark names top marks → AmongAll names ps → Each IsMark (marks_of names ps)
parent_marks names top marks [] l m h = tt
parent_marks names top marks (p ∷ ps) l m h = let g = m p h.0 in let low = g.low in (record { some = g.some; small = omega arith }, parent_marks names top marks ps l m h.1)

pub record IsGood (blobs names : List (ℕ × Bytes)) (c : Snapshot) : Type 0 where
  pub tree : IsTree c.tree
  pub signed : IsSigned c.letter
  pub files : Each (HasBlob (contents blobs)) c.tree
  pub modules : Each NotZero c.tree
  pub parents : AmongAll names c.parents

pub body_arrives : (n : ℕ) (ref : Bytes) (made : List Snapshot) (blobs names : List (ℕ × Bytes)) (number : ℕ) (c : Snapshot) (rest : Bytes) (u : Replay) → is_ref_name ref ≡ true → IsGood blobs names c → contents names ≡ map snapshot_name made →
    IsMark number → Room n (commit_lines ref number c.letter (marks_of names c.parents) (leaves_lines blobs c.tree (10 ∷ rest))) → Standing ref made blobs names number u → (c.parents ≡ [] → branch u ref ≡ None) →
    Arrives start (left n (commit_lines ref number c.letter (marks_of names c.parents) (leaves_lines blobs c.tree (10 ∷ rest)))) u start (left n rest) (After ref made blobs names number c)
body_arrives n ref made blobs names number c rest u name good names_are mark r h none =
    goes start inside start (left n text) (left n (all_text t1)) (left n rest) u (DraftsSome u ref number c.letter c.parents) (After ref made blobs names number c)
    (command_goes start inside (left n text) (left n (all_text t1)) u (IsHead ref number c.letter ms) (DraftsSome u ref number c.letter c.parents)
    (commit_turn ref number c.letter ms n t1 r name mark good.signed (parent_marks names number u.marks c.parents most h.heads good.parents))
    (λ p g. head_step u names number ref number c.letter c.parents p h.heads (parents_there names made u c.parents h.commits names_are good.parents) none g))
    (λ v d. goes inside inside start (left n (all_text t1)) (left n t1) (left n rest) v (Drafting u ref number c.letter c.parents []) (After ref made blobs names number c)
    (command_goes inside inside (left n (all_text t1)) (left n t1) v (is_change changes.DeleteAll) (Drafting u ref number c.letter c.parents []) (all_turn n t1 room_all)
    (λ p g. all_step u ref number c.letter c.parents d.0 v p d.1 g))
    (λ w e. goes inside inside start (left n t1) (left n (10 ∷ rest)) (left n rest) w (Drafting u ref number c.letter c.parents c.tree) (After ref made blobs names number c)
    (leaves_arrive n u ref number c.letter c.parents blobs number h.files most c.tree good.tree [] c.tree (10 ∷ rest) w refl good.files good.modules room_leaves e)
    (λ x f. command_goes inside start (left n (10 ∷ rest)) (left n rest) x (λ k. k ≡ commands.CommitEnd) (After ref made blobs names number c) (end_turn n rest room_end)
    (λ p g. steps_so (step empty_base x p) (Committed u ref number c) (After ref made blobs names number c) (λ s y. after_commit ref made blobs names number c u s mark.some h y) (end_step u ref number c x p f g)))))
  where
    t1 : Bytes
    t1 = leaves_lines blobs c.tree (10 ∷ rest)

    ms : List ℕ
    ms = marks_of names c.parents

    text : Bytes
    text = commit_lines ref number c.letter ms t1

    most : number ≤ 2 ^ 30
    most = let s = mark.small in omega arith

    room_all : Room n (all_text t1)
    room_all = room_less n text (all_text t1) r (let l : length (all_text t1) < length text = commit_longer ref number c.letter ms t1 in omega arith)

    room_leaves : Room n t1
    room_leaves = line_behind n (codes "deleteall") t1 room_all

    room_end : Room n (10 ∷ rest)
    room_end = room_less n t1 (10 ∷ rest) room_leaves (leaves_longer blobs c.tree (10 ∷ rest))

-- ---- the reset before a first commit

abbrev pub Ready : Bytes → List Snapshot → List (ℕ × Bytes) → List (ℕ × Bytes) → ℕ → List Bytes → Replay → Type 0
Ready ref made blobs names top ps s = Standing ref made blobs names top s × (ps ≡ [] → branch s ref ≡ None)

pub start_arrives : (n : ℕ) (ref : Bytes) (made : List Snapshot) (blobs names : List (ℕ × Bytes)) (top : ℕ) (ps : List Bytes) (more : Bytes) (s : Replay) → is_ref_name ref ≡ true →
    Room n (start_lines ref ps (word_text (codes "commit ") ref more)) → Standing ref made blobs names top s →
    Arrives start (left n (start_lines ref ps (word_text (codes "commit ") ref more))) s start (left n (word_text (codes "commit ") ref more)) (Ready ref made blobs names top ps)
start_arrives n ref made blobs names top [] more s name r h =
    let t = word_text (codes "commit ") ref more in
    let put : put_entry bytes_cmp ref None s.branches ≡ (ref, None) ∷ [] = put_one ref None s.branches h.branches in
    command_goes start start (left n (word_text (codes "reset ") ref t)) (left n t) s (λ c. c ≡ commands.Reset ref None) (Ready ref made blobs names top [])
    (reset_turn ref n (codes "commit " ++ ref) more r name (record { plain = ref_plain ref name; seen = refl }) refl)
    (λ p g. Stepped (with_branch ref None s) (reset_step s p ref g)
    (record { commits = h.commits; branches = inr (None, put); files = h.files; heads = h.heads; tags = h.tags }, λ e. unset (with_branch ref None s) ref put))
start_arrives n ref made blobs names top (p ∷ ps) more s name r h =
    stays start (left n (word_text (codes "commit ") ref more)) s (Ready ref made blobs names top (p ∷ ps)) (h, λ e. absurd (no_parents p ps e))
  where
    no_parents : (p : Bytes) (ps : List Bytes) → p ∷ ps ≡ [] → ⊥
    no_parents p ps e = cc

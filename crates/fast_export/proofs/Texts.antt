-- An export's text, line by line.
use Rattle.std.proofs.Common.{◌≡◌, ℕ, ◌-◌, List, [], ◌∷◌, ◌++◌, length, map, refl, ap, ◌∙◌, append_assoc}
use Rattle.std.specs.Prelude.{codes, if◌then◌else◌}
use Rattle.std.specs.Option.{unwrap_or}
use Rattle.std.specs.List.{flat_map}
use Rattle.std.specs.Fmt.{decimal}
use Rattle.git_objects.specs.Paths.{Bytes, text, is_nil}
use Rattle.git_objects.specs.Trees.{Leaf, FileLeaf, ExecLeaf, LinkLeaf, ModuleLeaf, Flat}
use Rattle.git_objects.specs.Names.{leaf_mode, mode_text}
use Rattle.path_names.specs.Quoting.{quote}
use Rattle.git_objects.specs.Snapshots.{Snapshot}
use Rattle.object_store.specs.TreeObjects.{blob_of}
use Rattle.fast_export.specs.ExportTexts.{Marks, mark_of, new_blobs, line, mark_line, blob_text, leaf_ref, leaf_line, parent_lines, marks_after, commit_text, one_text, commits_text}
use Rattle.fast_export.proofs.ReadLines.{data_text}
use Rattle.fast_export.proofs.Heads.{word_text, colon, blob_lines, people_lines, merge_lines, from_lines, all_text, commit_lines}
use Rattle.fast_export.proofs.Changing.{ref_text, leaf_text}

-- ---- blobs

abbrev pub blobs_lines : List (ℕ × Bytes) → Bytes → Bytes
blobs_lines [] rest = rest
blobs_lines (b ∷ bs) rest = blob_lines b.0 b.1 (blobs_lines bs rest)

blob_parts : (w m d v e lf b rest : Bytes) → ((w ++ ((m ++ d) ++ lf)) ++ ((((v ++ e) ++ lf) ++ b) ++ lf)) ++ rest ≡ w ++ ((m ++ d) ++ (lf ++ ((v ++ e) ++ (lf ++ (b ++ (lf ++ rest))))))
blob_parts w m d v e lf b rest = simp append_assoc

blob_shape : (d e b rest : Bytes) →
    ((codes "blob\n" ++ (((codes "mark " ++ codes ":") ++ d) ++ 10 ∷ [])) ++ ((((codes "data " ++ e) ++ 10 ∷ []) ++ b) ++ 10 ∷ [])) ++ rest
    ≡ codes "blob" ++ 10 ∷ ((codes "mark " ++ (codes ":" ++ d)) ++ 10 ∷ ((codes "data " ++ e) ++ 10 ∷ (b ++ 10 ∷ rest)))
blob_shape d e b rest = blob_parts (codes "blob\n") (codes "mark " ++ codes ":") d (codes "data ") e (10 ∷ []) b rest

pub blobs_text : (bs : List (ℕ × Bytes)) (rest : Bytes) → flat_map blob_text bs ++ rest ≡ blobs_lines bs rest
blobs_text [] rest = refl
blobs_text (b ∷ bs) rest =
    append_assoc (blob_text b) (flat_map blob_text bs) rest
    ∙ ap (λ t. blob_text b ++ t) (blobs_text bs rest)
    ∙ blob_shape (decimal b.0) (decimal (length b.1)) b.1 (blobs_lines bs rest)

-- ---- leaves

abbrev pub leaf_mark : List (ℕ × Bytes) → Leaf → ℕ
leaf_mark blobs x = mark_of (unwrap_or (blob_of x) []) blobs

abbrev pub leaves_lines : List (ℕ × Bytes) → Flat → Bytes → Bytes
leaves_lines blobs [] rest = rest
leaves_lines blobs (e ∷ es) rest = (codes "M " ++ leaf_text (leaf_mark blobs e.1) e.0 e.1) ++ 10 ∷ leaves_lines blobs es rest

ref_is : (blobs : List (ℕ × Bytes)) (x : Leaf) → leaf_ref blobs x ≡ ref_text (leaf_mark blobs x) x
ref_is blobs (FileLeaf b) = refl
ref_is blobs (ExecLeaf b) = refl
ref_is blobs (LinkLeaf b) = refl
ref_is blobs (ModuleLeaf n) = refl

leaf_shape : (m r q rest : Bytes) → ((((((codes "M " ++ m) ++ codes " ") ++ r) ++ codes " ") ++ q) ++ 10 ∷ []) ++ rest ≡ (codes "M " ++ (m ++ 32 ∷ (r ++ 32 ∷ q))) ++ 10 ∷ rest
leaf_shape m r q rest = simp append_assoc

pub leaves_text : (blobs : List (ℕ × Bytes)) (es : Flat) (rest : Bytes) → flat_map (leaf_line blobs) es ++ rest ≡ leaves_lines blobs es rest
leaves_text blobs [] rest = refl
leaves_text blobs (e ∷ es) rest =
    append_assoc (leaf_line blobs e) (flat_map (leaf_line blobs) es) rest
    ∙ ap (λ t. leaf_line blobs e ++ t) (leaves_text blobs es rest)
    ∙ leaf_shape (mode_text (leaf_mode e.1)) (leaf_ref blobs e.1) (quote (text e.0)) (leaves_lines blobs es rest)
    ∙ ap (λ r. (codes "M " ++ (mode_text (leaf_mode e.1) ++ 32 ∷ (r ++ 32 ∷ quote (text e.0)))) ++ 10 ∷ leaves_lines blobs es rest) (ref_is blobs e.1)

-- ---- heads

abbrev pub marks_of : List (ℕ × Bytes) → List Bytes → List ℕ
marks_of marks ps = map (λ p. mark_of p marks) ps

merge_shape : (d rest : Bytes) → (((codes "merge " ++ codes ":") ++ d) ++ 10 ∷ []) ++ rest ≡ (codes "merge " ++ (codes ":" ++ d)) ++ 10 ∷ rest
merge_shape d rest = simp append_assoc

from_shape : (d rest : Bytes) → (((codes "from " ++ codes ":") ++ d) ++ 10 ∷ []) ++ rest ≡ (codes "from " ++ (codes ":" ++ d)) ++ 10 ∷ rest
from_shape d rest = simp append_assoc

merges_text : (marks : List (ℕ × Bytes)) (ps : List Bytes) (rest : Bytes) → flat_map (λ q. mark_line (codes "merge ") (mark_of q marks)) ps ++ rest ≡ merge_lines (marks_of marks ps) rest
merges_text marks [] rest = refl
merges_text marks (p ∷ ps) rest =
    append_assoc (mark_line (codes "merge ") (mark_of p marks)) (flat_map (λ q. mark_line (codes "merge ") (mark_of q marks)) ps) rest
    ∙ ap (λ t. mark_line (codes "merge ") (mark_of p marks) ++ t) (merges_text marks ps rest)
    ∙ merge_shape (decimal (mark_of p marks)) (merge_lines (marks_of marks ps) rest)

parents_text : (marks : List (ℕ × Bytes)) (ps : List Bytes) (rest : Bytes) → parent_lines marks ps ++ rest ≡ from_lines (marks_of marks ps) rest
parents_text marks [] rest = refl
parents_text marks (p ∷ ps) rest =
    append_assoc (mark_line (codes "from ") (mark_of p marks)) (flat_map (λ q. mark_line (codes "merge ") (mark_of q marks)) ps) rest
    ∙ ap (λ t. mark_line (codes "from ") (mark_of p marks) ++ t) (merges_text marks ps rest)
    ∙ from_shape (decimal (mark_of p marks)) (merge_lines (marks_of marks ps) rest)

-- what stands before a first commit
abbrev pub start_lines : Bytes → List Bytes → Bytes → Bytes
start_lines ref [] rest = word_text (codes "reset ") ref rest
start_lines ref (p ∷ ps) rest = rest

pub start_text : (ref : Bytes) (ps : List Bytes) (rest : Bytes) → (if is_nil ps then line (codes "reset ") ref else []) ++ rest ≡ start_lines ref ps rest
start_text ref [] rest = append_assoc (codes "reset " ++ ref) (10 ∷ []) rest
start_text ref (p ∷ ps) rest = refl

-- a commit
abbrev pub body_lines : Bytes → ℕ → Marks → Snapshot → Bytes → Bytes
body_lines ref number m c rest = commit_lines ref number c.letter (marks_of m.commits c.parents) (leaves_lines m.blobs c.tree (10 ∷ rest))

commit_parts : (s w r m d u a v c x e lf b p z l rest : Bytes) →
    (((((((s ++ ((w ++ r) ++ lf)) ++ ((m ++ d) ++ lf)) ++ ((((u ++ a) ++ lf) ++ ((v ++ c) ++ lf)) ++ ((((x ++ e) ++ lf) ++ b) ++ lf))) ++ p) ++ z) ++ l) ++ lf) ++ rest
    ≡ s ++ ((w ++ r) ++ (lf ++ ((m ++ d) ++ (lf ++ ((u ++ a) ++ (lf ++ ((v ++ c) ++ (lf ++ ((x ++ e) ++ (lf ++ (b ++ (lf ++ (p ++ (z ++ (l ++ (lf ++ rest))))))))))))))))
commit_parts s w r m d u a v c x e lf b p z l rest = simp append_assoc

-- a commit of these parts, where z stands between its parents and its leaves
pub commit_shape : (s r d a c e b p z l rest : Bytes) →
    (((((((s ++ ((codes "commit " ++ r) ++ 10 ∷ [])) ++ (((codes "mark " ++ codes ":") ++ d) ++ 10 ∷ []))
    ++ ((((codes "author " ++ a) ++ 10 ∷ []) ++ ((codes "committer " ++ c) ++ 10 ∷ [])) ++ ((((codes "data " ++ e) ++ 10 ∷ []) ++ b) ++ 10 ∷ []))) ++ p) ++ z) ++ l) ++ 10 ∷ []) ++ rest
    ≡ s ++ ((codes "commit " ++ r) ++ 10 ∷ ((codes "mark " ++ (codes ":" ++ d)) ++ 10 ∷ ((codes "author " ++ a) ++ 10 ∷ ((codes "committer " ++ c) ++ 10 ∷ ((codes "data " ++ e) ++ 10 ∷ (b ++ 10 ∷ (p ++ (z ++ (l ++ 10 ∷ rest)))))))))
commit_shape s r d a c e b p z l rest =
    commit_parts s (codes "commit ") r (codes "mark " ++ codes ":") d (codes "author ") a (codes "committer ") c (codes "data ") e (10 ∷ []) b p z l rest

pub one_commit_text : (ref : Bytes) (number : ℕ) (m : Marks) (c : Snapshot) (rest : Bytes) → commit_text ref number m c ++ rest ≡ start_lines ref c.parents (body_lines ref number m c rest)
one_commit_text ref number m c rest =
    commit_shape (if is_nil c.parents then line (codes "reset ") ref else []) ref (decimal number) c.letter.author c.letter.committer (decimal (length c.letter.message)) c.letter.message
    (parent_lines m.commits c.parents) (codes "deleteall\n") (flat_map (leaf_line m.blobs) c.tree) rest
    ∙ start_text ref c.parents _
    ∙ ap (λ t. start_lines ref c.parents (word_text (codes "commit ") ref (word_text (codes "mark ") (colon number) (people_lines c.letter.author c.letter.committer (data_text c.letter.message t)))))
    (parents_text m.commits c.parents (all_text (flat_map (leaf_line m.blobs) c.tree ++ 10 ∷ rest))
    ∙ ap (λ t. from_lines (marks_of m.commits c.parents) (all_text t)) (leaves_text m.blobs c.tree (10 ∷ rest)))

-- ---- whole histories

abbrev pub one_lines : Bytes → Marks → Snapshot → Bytes → Bytes
one_lines ref m c rest = blobs_lines (new_blobs m c.tree) (start_lines ref c.parents (body_lines ref ((marks_after m c).next - 1) (marks_after m c) c rest))

abbrev pub commits_lines : Bytes → Marks → List Snapshot → Bytes → Bytes
commits_lines ref m [] rest = rest
commits_lines ref m (c ∷ cs) rest = one_lines ref m c (commits_lines ref (marks_after m c) cs rest)

pub history_text : (ref : Bytes) (m : Marks) (cs : List Snapshot) (rest : Bytes) → commits_text ref m cs ++ rest ≡ commits_lines ref m cs rest
history_text ref m [] rest = refl
history_text ref m (c ∷ cs) rest =
    append_assoc (one_text ref m (marks_after m c) c) (commits_text ref (marks_after m c) cs) rest
    ∙ ap (λ t. one_text ref m (marks_after m c) c ++ t) (history_text ref (marks_after m c) cs rest)
    ∙ append_assoc (flat_map blob_text (new_blobs m c.tree)) (commit_text ref ((marks_after m c).next - 1) (marks_after m c) c) (commits_lines ref (marks_after m c) cs rest)
    ∙ ap (λ t. flat_map blob_text (new_blobs m c.tree) ++ t) (one_commit_text ref ((marks_after m c).next - 1) (marks_after m c) c (commits_lines ref (marks_after m c) cs rest))
    ∙ blobs_text (new_blobs m c.tree) _

-- An incremental export's text, line by line.
use Rattle.std.proofs.Common.{◌≡◌, ℕ, ◌-◌, List, [], ◌∷◌, ◌++◌, length, refl, ap, ◌∙◌, append_assoc}
use Rattle.std.specs.Prelude.{codes, if◌then◌else◌}
use Rattle.std.specs.List.{flat_map}
use Rattle.std.specs.Fmt.{decimal}
use Rattle.git_objects.specs.Paths.{Bytes, Path, text, is_nil}
use Rattle.git_objects.specs.Trees.{Flat}
use Rattle.git_objects.specs.Snapshots.{Snapshot}
use Rattle.path_names.specs.Quoting.{quote}
use Rattle.fast_export.specs.ExportTexts.{Marks, no_marks, new_blobs, line, blob_text, leaf_line}
use Rattle.fast_export.specs.Given.{with_blobs}
use Rattle.fast_export.proofs.ReadLines.{data_text}
use Rattle.fast_export.proofs.Heads.{word_text, colon, people_lines}
use Rattle.fast_export.proofs.Texts.{blobs_lines, blobs_text, commit_shape, leaves_lines, leaves_text, start_lines, start_text}
use Rattle.incremental_export.specs.ChangeTexts.{commit_ref, parent_lines, delete_line, gone, new, marks_after, commit_text, one_text, commits_text, marks_behind, changes_text}
use Rattle.incremental_export.proofs.UponParents.{from_lines, merge_lines, commit_lines}

-- ---- changes

abbrev pub deletes_lines : List Path → Bytes → Bytes
deletes_lines [] rest = rest
deletes_lines (p ∷ ps) rest = word_text (codes "D ") (quote (text p)) (deletes_lines ps rest)

deletes_text : (ps : List Path) (rest : Bytes) → flat_map delete_line ps ++ rest ≡ deletes_lines ps rest
deletes_text [] rest = refl
deletes_text (p ∷ ps) rest =
    append_assoc (delete_line p) (flat_map delete_line ps) rest
    ∙ ap (λ (t : Bytes). delete_line p ++ t) (deletes_text ps rest)
    ∙ append_assoc (codes "D " ++ quote (text p)) (10 ∷ []) (deletes_lines ps rest)

-- ---- heads

merges_text : (marks : List (ℕ × Bytes)) (ps : List Bytes) (rest : Bytes) → flat_map (λ q. line (codes "merge ") (commit_ref marks q)) ps ++ rest ≡ merge_lines marks ps rest
merges_text marks [] rest = refl
merges_text marks (p ∷ ps) rest =
    append_assoc (line (codes "merge ") (commit_ref marks p)) (flat_map (λ q. line (codes "merge ") (commit_ref marks q)) ps) rest
    ∙ ap (λ (t : Bytes). line (codes "merge ") (commit_ref marks p) ++ t) (merges_text marks ps rest)
    ∙ append_assoc (codes "merge " ++ commit_ref marks p) (10 ∷ []) (merge_lines marks ps rest)

parents_text : (marks : List (ℕ × Bytes)) (ps : List Bytes) (rest : Bytes) → parent_lines marks ps ++ rest ≡ from_lines marks ps rest
parents_text marks [] rest = refl
parents_text marks (p ∷ ps) rest =
    append_assoc (line (codes "from ") (commit_ref marks p)) (flat_map (λ q. line (codes "merge ") (commit_ref marks q)) ps) rest
    ∙ ap (λ (t : Bytes). line (codes "from ") (commit_ref marks p) ++ t) (merges_text marks ps rest)
    ∙ append_assoc (codes "from " ++ commit_ref marks p) (10 ∷ []) (merge_lines marks ps rest)

-- ---- a commit

abbrev pub change_lines : List (ℕ × Bytes) → List Path → Flat → Bytes → Bytes
change_lines blobs ds es rest = deletes_lines ds (leaves_lines blobs es (10 ∷ rest))

-- a commit, of which the blobs have marks
abbrev pub body_lines : (Bytes → Flat) → Bytes → Marks → Snapshot → Bytes → Bytes
body_lines tree_of ref m c rest = commit_lines ref m.next c.letter m.commits c.parents (change_lines m.blobs (gone tree_of c) (new tree_of c) rest)

one_commit_text : (tree_of : Bytes → Flat) (ref : Bytes) (m : Marks) (c : Snapshot) (rest : Bytes) → commit_text tree_of ref m c ++ rest ≡ start_lines ref c.parents (body_lines tree_of ref m c rest)
one_commit_text tree_of ref m c rest =
    commit_shape (if is_nil c.parents then line (codes "reset ") ref else []) ref (decimal m.next) c.letter.author c.letter.committer (decimal (length c.letter.message)) c.letter.message
    (parent_lines m.commits c.parents) (flat_map delete_line (gone tree_of c)) (flat_map (leaf_line m.blobs) (new tree_of c)) rest
    ∙ start_text ref c.parents _
    ∙ ap (λ t. start_lines ref c.parents (word_text (codes "commit ") ref (word_text (codes "mark ") (colon m.next) (people_lines c.letter.author c.letter.committer (data_text c.letter.message t)))))
    (parents_text m.commits c.parents (flat_map delete_line (gone tree_of c) ++ (flat_map (leaf_line m.blobs) (new tree_of c) ++ 10 ∷ rest))
    ∙ ap (λ t. from_lines m.commits c.parents t) (deletes_text (gone tree_of c) (flat_map (leaf_line m.blobs) (new tree_of c) ++ 10 ∷ rest)
    ∙ ap (λ t. deletes_lines (gone tree_of c) t) (leaves_text m.blobs (new tree_of c) (10 ∷ rest))))

-- ---- all commits

abbrev pub one_lines : (Bytes → Flat) → Bytes → Marks → Snapshot → Bytes → Bytes
one_lines tree_of ref m c rest = blobs_lines (new_blobs m (new tree_of c)) (start_lines ref c.parents (body_lines tree_of ref (with_blobs m (new tree_of c)) c rest))

abbrev pub commits_lines : (Bytes → Flat) → Bytes → Marks → List Snapshot → Bytes → Bytes
commits_lines tree_of ref m [] rest = rest
commits_lines tree_of ref m (c ∷ cs) rest = one_lines tree_of ref m c (commits_lines tree_of ref (marks_after tree_of m c) cs rest)

pub history_text : (tree_of : Bytes → Flat) (ref : Bytes) (m : Marks) (cs : List Snapshot) (rest : Bytes) → commits_text tree_of ref m cs ++ rest ≡ commits_lines tree_of ref m cs rest
history_text tree_of ref m [] rest = refl
history_text tree_of ref m (c ∷ cs) rest =
    let after = with_blobs m (new tree_of c) in
    let more = commits_lines tree_of ref (marks_after tree_of m c) cs rest in
    append_assoc (one_text tree_of ref m c) (commits_text tree_of ref (marks_after tree_of m c) cs) rest
    ∙ ap (λ (t : Bytes). one_text tree_of ref m c ++ t) (history_text tree_of ref (marks_after tree_of m c) cs rest)
    ∙ append_assoc (flat_map blob_text (new_blobs m (new tree_of c))) (commit_text tree_of ref after c) more
    ∙ ap (λ (t : Bytes). flat_map blob_text (new_blobs m (new tree_of c)) ++ t) (one_commit_text tree_of ref after c more)
    ∙ blobs_text (new_blobs m (new tree_of c)) _

-- ---- the whole text

abbrev pub end_lines : Bytes → ℕ → Bytes → Bytes
end_lines ref k rest = word_text (codes "reset ") ref (word_text (codes "from ") (colon k) (10 ∷ rest))

abbrev pub whole_lines : (Bytes → Flat) → Bytes → List Snapshot → Bytes → Bytes
whole_lines tree_of ref cs rest = commits_lines tree_of ref no_marks cs (end_lines ref ((marks_behind tree_of no_marks cs).next - 1) rest)

text_parts : (t w r lf v d u : Bytes) → (((t ++ ((w ++ r) ++ lf)) ++ ((v ++ d) ++ lf)) ++ lf) ++ u ≡ t ++ ((w ++ r) ++ (lf ++ ((v ++ d) ++ (lf ++ (lf ++ u)))))
text_parts t w r lf v d u = simp append_assoc

-- with a text behind it
pub changes_lines : (tree_of : Bytes → Flat) (c : Snapshot) (cs : List Snapshot) (ref rest : Bytes) → changes_text tree_of (c ∷ cs) ref ++ rest ≡ whole_lines tree_of ref (c ∷ cs) rest
unfolding changes_text
changes_lines tree_of c cs ref rest =
    let k = (marks_behind tree_of no_marks (c ∷ cs)).next - 1 in
    text_parts (commits_text tree_of ref no_marks (c ∷ cs)) (codes "reset ") ref (10 ∷ []) (codes "from " ++ codes ":") (decimal k) rest
    ∙ history_text tree_of ref no_marks (c ∷ cs) (end_lines ref k rest)

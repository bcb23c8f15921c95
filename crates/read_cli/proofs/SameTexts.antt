-- The text of commits is the same by two look-ups of trees that agree on their parents.
use Rattle.std.proofs.Common.{◌≡◌, ◌-◌, List, [], ◌∷◌, ◌++◌, flat_map, refl, ap, ◌∙◌}
use Rattle.std.specs.Prelude.{if◌then◌else◌, codes}
use Rattle.git_objects.specs.Lists.{Each}
use Rattle.git_objects.specs.Paths.{Bytes, is_nil}
use Rattle.git_objects.specs.Snapshots.{Snapshot}
use Rattle.git_objects.specs.Trees.{Flat}
use Rattle.fast_export.specs.ExportTexts.{Marks, blob_text, leaf_line, letter_lines, line, mark_line, new_blobs, no_marks}
use Rattle.fast_export.specs.Given.{with_blobs}
use Rattle.incremental_export.specs.ChangeTexts.{changes_text, commits_text, delete_line, marks_after, marks_behind, parent_lines, tree_upon, with_commit}
use Rattle.incremental_export.specs.Changes.{changed, deleted}

-- a commit upon a tree
abbrev text_upon : Bytes → Marks → Snapshot → Flat → Bytes
text_upon refname m c a =
    flat_map blob_text (new_blobs m (changed a c.tree))
    ++ ((if is_nil c.parents then line (codes "reset ") refname else [])
    ++ line (codes "commit ") refname ++ mark_line (codes "mark ") (with_blobs m (changed a c.tree)).next ++ letter_lines c.letter ++ parent_lines (with_blobs m (changed a c.tree)).commits c.parents
    ++ flat_map delete_line (deleted a c.tree) ++ flat_map (leaf_line (with_blobs m (changed a c.tree)).blobs) (changed a c.tree) ++ 10 ∷ [])

abbrev marks_upon : Marks → Snapshot → Flat → Marks
marks_upon m c a = with_commit (with_blobs m (changed a c.tree)) c

module _ (t u : Bytes → Flat) where
  -- they agree on the parents of each
  abbrev pub Agree : List Snapshot → Type 0
  Agree cs = Each (λ c. Each (λ p. t p ≡ u p) c.parents) cs

  upon-same : (ps : List Bytes) → Each (λ p. t p ≡ u p) ps → tree_upon t ps ≡ tree_upon u ps
  upon-same [] h = refl
  upon-same (p ∷ ps) h = h.0

  commits-same : (refname : Bytes) (m : Marks) (cs : List Snapshot) → Agree cs → commits_text t refname m cs ≡ commits_text u refname m cs
  commits-same refname m [] h = refl
  commits-same refname m (c ∷ cs) h =
      let e : tree_upon t c.parents ≡ tree_upon u c.parents = upon-same c.parents h.0 in
      (λ i. text_upon refname m c (e i) ++ commits_text t refname (marks_upon m c (e i)) cs)
      ∙ ap (λ (x : Bytes). text_upon refname m c (tree_upon u c.parents) ++ x) (commits-same refname (marks_after u m c) cs h.1)

  marks-same : (m : Marks) (cs : List Snapshot) → Agree cs → marks_behind t m cs ≡ marks_behind u m cs
  marks-same m [] h = refl
  marks-same m (c ∷ cs) h =
      let e : tree_upon t c.parents ≡ tree_upon u c.parents = upon-same c.parents h.0 in
      (λ i. marks_behind t (marks_upon m c (e i)) cs) ∙ marks-same (marks_after u m c) cs h.1

  pub text-same : (cs : List Snapshot) (refname : Bytes) → Agree cs → changes_text t cs refname ≡ changes_text u cs refname
  unfolding changes_text
  text-same [] refname h = refl
  text-same (c ∷ cs) refname h = λ i.
      commits-same refname no_marks (c ∷ cs) h i
      ++ line (codes "reset ") refname ++ mark_line (codes "from ") ((marks-same no_marks (c ∷ cs) h i).next - 1) ++ 10 ∷ []

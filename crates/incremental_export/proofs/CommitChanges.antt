-- What a commit changes, as it was found and as it is written.
use Rattle.std.proofs.Common.{◌≡◌, ℕ, true, false, List, [], ◌∷◌, ◌++◌, map, flat_map, length, Option, Some, None, Bor, Global, Vec, refl, sym, ap, subst, ◌∙◌, append_assoc, true≢false}
use Rattle.std.specs.Prelude.{codes, decimal, if◌then◌else◌, filter_map, slice_get}
use Rattle.std.specs.List.{cons_option, enumerate_from}
use Rattle.std.specs.Map.{lookup}
use Rattle.std.specs.Option.{option_map, option_map_or, unwrap_or}
use Rattle.std.proofs.lemmas.List.Folds.{flat_map-map}
use Rattle.git_objects.specs.Lists.{Each}
use Rattle.git_objects.specs.Paths.{Bytes, Path, is_nil, text}
use Rattle.git_objects.specs.Commits.{Commit}
use Rattle.git_objects.specs.CommitBodies.{commit_from}
use Rattle.git_objects.specs.Entries.{is_dir}
use Rattle.git_objects.specs.Trees.{Leaf, Flat}
use Rattle.git_objects.specs.declared.kind.Kind.TheVariants.{Blob, Commit as CommitKind}
use Rattle.git_objects.specs.declared.mode.Mode.{Mode}
use Rattle.git_objects.specs.declared.mode.Mode.TheVariants.{File, Exec, Link, Module, Dir}
use Rattle.git_objects.specs.declared.name.Name.{Name}
use Rattle.object_store.specs.Objects.{Object, IsStore, body_of, find_named, has, has_child}
use Rattle.object_store.specs.StoredSnapshots.{IsTreeOf, commit_named, snapshot_of}
use Rattle.object_store.specs.TreeObjects.{blob_of}
use Rattle.object_store.specs.Unfolding.{flat}
use Rattle.object_store.proofs.StoredCommits.{commit-told, stored-commit}
use Rattle.path_names.specs.Quoting.{quote}
use Rattle.path_trees.specs.Walked.{leaf_of}
use Rattle.fast_export.specs.ExportTexts.{Marks, further, leaf_line, line, mark_line, new_blobs}
use Rattle.fast_export.specs.Given.{Given, AreHeldBlobs, commit_mark, data_ref, is_named, leaf_text, marks_in, modify_line, next_of}
use Rattle.fast_export.proofs.Lookups.{blob_number}
use Rattle.fast_export.proofs.Marking.{contents}
use Rattle.incremental_export.specs.Changes.{changed, deleted}
use Rattle.incremental_export.specs.ChangeTexts.{commit_text, delete_line, gone, new, parent_lines, tree_upon}
use Rattle.incremental_export.specs.Compared.{IsHeldLeaf, leaves_behind, placed_leaf, texts_behind, tree_at}
use Rattle.incremental_export.specs.Histories.{tree_in}
use Rattle.incremental_export.specs.Written.{AreChangesOf, HasParentsIn, flat_of, front_text, line_at}
use Rattle.incremental_export.specs.declared.compare.Changes.{Changes}
use Rattle.incremental_export.specs.declared.compare.Placed.{Placed}

-- ---- the tree of the first parent

pub upon_none : (S : List Object) (ps : List Bytes) → None ≡ slice_get ps 0 → [] ≡ tree_upon (tree_in S) ps
upon_none S [] e = refl
upon_none S (p ∷ ps) e = cc

tree_is : (S : List Object) (n t : Bytes) → IsTreeOf S n t → flat S t ≡ tree_in S n
tree_is S n t h = ap (flat S) h.tree ∙ sym (ap (λ o. option_map_or (λ (c : Commit). flat S c.tree) o []) h.named)

pub upon_some : (S : List Object) (ps : List Bytes) (p t : Bytes) → Some p ≡ slice_get ps 0 → IsTreeOf S p t → flat S t ≡ tree_upon (tree_in S) ps
upon_some S [] p t e h = cc
upon_some S (q ∷ ps) p t e h = let same : p ≡ q = cc in tree_is S p t h ∙ ap (tree_in S) same

pub first_held : (S : List Object) (ps : List Bytes) (p : Bytes) → Some p ≡ slice_get ps 0 → HasParentsIn S ps → has CommitKind S p ≡ true
first_held S [] p e h = cc
first_held S (q ∷ ps) p e h = let same : p ≡ q = cc in ap (has CommitKind S) same ∙ h.0

pub told_held : (S : List Object) (n : Bytes) (o : Object) (c : Commit) → IsStore S → has CommitKind S n ≡ true → Some o ≡ find_named S n → Some c ≡ commit_from o.body → HasParentsIn S c.parents
told_held S n o c s h e f =
    let k = stored-commit S n s h in
    let read : commit_named S n ≡ Some c = ap commit_from (commit-told S n o s h e) ∙ sym f in
    let same : k.commit ≡ c = let g : Some k.commit ≡ Some c = sym k.read ∙ read in cc in
    subst (λ (d : Commit). HasParentsIn S d.parents) same k.parents

-- ---- what was found

-- as it is found between the trees of a commit and of its parent
pub the_changes : (S : List Object) (c : Commit) (x : Changes) (o : Option Name) (r : Option (Bor Name)) (t : Bytes) → option_map (λ n. n.now) r ≡ o → tree_at S o ≡ tree_upon (tree_in S) c.parents → t ≡ c.tree
    → map (λ t. t.items) x.deleted.items ≡ texts_behind [] (deleted (tree_at S (option_map (λ n. n.now) r)) (flat S t))
    → map (placed_leaf S) x.put.items ≡ leaves_behind [] (changed (tree_at S (option_map (λ n. n.now) r)) (flat S t)) → Each (IsHeldLeaf S) x.put.items → AreChangesOf S c x
the_changes S c x o r t same upon e gone new held =
    let from = ap (tree_at S) same ∙ upon in
    record {
      deleted = gone ∙ (λ i. texts_behind [] (deleted (from i) (flat S (e i))));
      put = new ∙ (λ i. leaves_behind [] (changed (from i) (flat S (e i))));
      held = held;
    }

-- ---- the line of a leaf

line_is : (S : List Object) (g : Given) (place : Bytes) (m : Mode) (n : Name) → AreHeldBlobs S g → is_dir m ≡ false → has_child S m n.0 ≡ true
    → modify_line m (data_ref m n.0 (unwrap_or (lookup (is_named n) g.blobs) 0)) place ≡ line_at (marks_in S g).blobs (place, leaf_of (body_of Blob S) m n.0)
line_is S g place File n held d h = ap (λ k. modify_line File (data_ref File n.0 k) place) (sym (blob_number S n h g.blobs held))
line_is S g place Exec n held d h = ap (λ k. modify_line Exec (data_ref Exec n.0 k) place) (sym (blob_number S n h g.blobs held))
line_is S g place Link n held d h = ap (λ k. modify_line Link (data_ref Link n.0 k) place) (sym (blob_number S n h g.blobs held))
line_is S g place Module n held d h = refl
line_is S g place Dir n held d h = absurd (true≢false d)

-- ---- the new blobs

second_blobs : List (Bytes × Leaf) → List Bytes
second_blobs es = filter_map (λ e. blob_of e.1) es

found_blobs : (S : List Object) (ps : List Placed) → filter_map (λ (e : Path × Leaf). blob_of e.1) (flat_of S ps) ≡ filter_map (λ (e : Bytes × Leaf). blob_of e.1) (map (placed_leaf S) ps)
found_blobs S [] = refl
found_blobs S (p ∷ ps) = ap (cons_option (blob_of (leaf_of (body_of Blob S) p.leaf.mode p.leaf.name.0))) (found_blobs S ps)

behind_blobs : (front : Bytes) (t : Flat) → filter_map (λ (e : Bytes × Leaf). blob_of e.1) (leaves_behind front t) ≡ filter_map (λ (e : Path × Leaf). blob_of e.1) t
behind_blobs front [] = refl
behind_blobs front (e ∷ t) = ap (cons_option (blob_of e.1)) (behind_blobs front t)

module _ (S : List Object) (c : Commit) (x : Changes) (h : AreChangesOf S c x) where
  abbrev pub new_tree : Flat
  new_tree = new (tree_in S) (snapshot_of S c)

  -- those of the leaves that were found are those of the leaves that are new
  pub new_found : (m : Marks) → new_blobs m (flat_of S x.put.items) ≡ new_blobs m new_tree
  new_found m =
      ap (λ bs. enumerate_from m.next (further (contents m.blobs) bs))
      (found_blobs S x.put.items ∙ ap (filter_map (λ (e : Bytes × Leaf). blob_of e.1)) h.put ∙ behind_blobs [] new_tree)

  -- ---- the lines

  pub deleted_lines : flat_map (λ (t : Vec ℕ Global). line (codes "D ") (quote t.items)) x.deleted.items ≡ flat_map delete_line (gone (tree_in S) (snapshot_of S c))
  deleted_lines =
      sym (flat_map-map (λ (b : Bytes). line (codes "D ") (quote b)) (λ (t : Vec ℕ Global). t.items) x.deleted.items)
      ∙ ap (flat_map (λ (b : Bytes). line (codes "D ") (quote b))) h.deleted
      ∙ flat_map-map (λ (b : Bytes). line (codes "D ") (quote b)) (λ (p : Path). [] ++ text p) (gone (tree_in S) (snapshot_of S c))

  module _ (g : Given) (marks : AreHeldBlobs S g) where
    -- a leaf's line at the text of its path
    one_line : (p : Placed) → IsHeldLeaf S p → leaf_text g p.leaf p.path.items ≡ line_at (marks_in S g).blobs (placed_leaf S p)
    one_line p k = line_is S g p.path.items p.leaf.mode p.leaf.name marks p.leaf.is_leaf k

    each_line : (ps : List Placed) → Each (IsHeldLeaf S) ps → flat_map (λ (p : Placed). leaf_text g p.leaf p.path.items) ps ≡ flat_map (line_at (marks_in S g).blobs) (map (placed_leaf S) ps)
    each_line [] k = refl
    each_line (p ∷ ps) k = λ i. one_line p k.0 i ++ each_line ps k.1 i

    pub put_lines : flat_map (λ (p : Placed). leaf_text g p.leaf p.path.items) x.put.items ≡ flat_map (leaf_line (marks_in S g).blobs) new_tree
    put_lines =
        each_line x.put.items h.held
        ∙ ap (flat_map (line_at (marks_in S g).blobs)) h.put
        ∙ flat_map-map (line_at (marks_in S g).blobs) (λ (e : Path × Leaf). ([] ++ text e.0, e.1)) new_tree

-- ---- a commit, of which the blobs were written

letter_parts : (x a b d m f : Bytes) → ((((x ++ a) ++ b) ++ d) ++ m) ++ f ≡ x ++ ((a ++ b) ++ ((d ++ m) ++ f))
letter_parts x a b d m f = simp append_assoc

pub made_text : (S : List Object) (refname : Bytes) (number : ℕ) (g : Given) (c : Commit) (x : Changes) → AreChangesOf S c x → AreHeldBlobs S g → number ≡ next_of g
    → (((front_text refname number (map commit_mark g.commits) c ++ flat_map (λ (t : Vec ℕ Global). line (codes "D ") (quote t.items)) x.deleted.items)
    ++ flat_map (λ (p : Placed). leaf_text g p.leaf p.path.items) x.put.items) ++ 10 ∷ []) ≡ commit_text (tree_in S) refname (marks_in S g) (snapshot_of S c)
made_text S refname number g c x h marks e =
    ap (λ n. ((front_text refname n (map commit_mark g.commits) c ++ flat_map (λ (t : Vec ℕ Global). line (codes "D ") (quote t.items)) x.deleted.items)
    ++ flat_map (λ (p : Placed). leaf_text g p.leaf p.path.items) x.put.items) ++ 10 ∷ []) e
    ∙ (λ i.
    ((((letter_parts first (line (codes "author ") c.letter.author) (line (codes "committer ") c.letter.committer) (line (codes "data ") (decimal (length c.letter.message))) c.letter.message (10 ∷ []) i
    ++ parent_lines (map commit_mark g.commits) c.parents) ++ deleted_lines S c x h i) ++ put_lines S c x h g marks i) ++ 10 ∷ []))
  where
    first : Bytes
    first = (if is_nil c.parents then line (codes "reset ") refname else []) ++ line (codes "commit ") refname ++ mark_line (codes "mark ") (next_of g)

-- A commit with its tree put into a store.
use Rattle.std.proofs.Common.{◌≡◌, inl, inr, true, List, map, Some, refl, sym, ap, subst, ◌∙◌}
use Rattle.git_objects.specs.Commits.{commit_body, commit_name}
use Rattle.git_objects.specs.Names.{name, tree_name}
use Rattle.git_objects.specs.Parts.{name_bytes}
use Rattle.git_objects.specs.Paths.{Bytes}
use Rattle.git_objects.specs.Snapshots.{snapshot_commit}
use Rattle.git_objects.specs.Trees.{Flat}
use Rattle.git_objects.specs.declared.kind.Kind.TheVariants.{Tree, Commit as CommitKind}
use Rattle.git_objects.specs.declared.name.Name.{Name}
use Rattle.object_store.specs.Growth.{IsGrownBy, IsOnly}
use Rattle.object_store.specs.Objects.{Object, IsStore, find_named, has}
use Rattle.object_store.specs.StoredSnapshots.{snapshot_object}
use Rattle.object_store.specs.Unfolding.{StandsFor}
use Rattle.object_store.proofs.Growth.{grown_as, grown_then, stands-grown}
use Rattle.object_store.proofs.Unfolding.{unfolding_law}
use Rattle.path_trees.specs.Made.{IsGrown, IsTreeFault}
use Rattle.path_trees.specs.declared.found.TreeFault.{TreeFault}
use Rattle.path_trees.specs.declared.found.TreeFault.TheVariants as trees
use Rattle.path_trees.proofs.MadeObjects.{clash-by, grown-by}
use Rattle.stage_nodes.specs.Closing.{HasDirectory}
use Rattle.fast_import.specs.Made.{IsDirectoryOf, IsMadeOf, IsPutFault}
use Rattle.fast_import.specs.Replays.{Draft, commit_of}
use Rattle.fast_import.specs.Replaying.{tree_fault}
use Rattle.fast_import.specs.Standing.{IsCommitIn, IsDraftOf, letter_by}
use Rattle.fast_import.proofs.Growing.{all-grown}
use Rattle.fast_import.proofs.Putting.{fault_as}
use Rattle.git_objects.specs.Lists.{Each}
use Rattle.fast_import.specs.declared.draft.Draft.{Draft as DraftNames}
use Rattle.stream_reader.specs.declared.fault.StreamFault.{StreamFault}

-- ---- trees

directory_of : (t : Flat) (o : Object) → o.kind ≡ Tree → HasDirectory t o.body → IsDirectoryOf t o
directory_of t o k h = (h.path, λ i. record { kind = k i; body = sym h.body i })

pub directories_grown : (S T : List Object) (t : Flat) → IsGrown (HasDirectory t) S T → IsGrownBy (IsDirectoryOf t) S T
directories_grown S T t g = grown-by (HasDirectory t) (IsDirectoryOf t) (directory_of t) S T g

pub directories_fault : (T : List Object) (t : Flat) (f : TreeFault) → IsTreeFault (HasDirectory t) T f → IsPutFault (IsDirectoryOf t) T (tree_fault f)
directories_fault T t (trees.Collision n) h = inr (n, refl, clash-by (HasDirectory t) (IsDirectoryOf t) (directory_of t) T n.0 h)
directories_fault T t trees.OutOfMemory h = inl refl

-- ---- the commit

module _ (S T : List Object) (v : DraftNames) (d : Draft) (h : IsDraftOf S v d) (tree : Name) (whole : IsStore T) (stands : StandsFor T tree.0 d.tree) where
  tree_is : tree_name d.tree ≡ tree.0
  tree_is = ap tree_name (sym stands.map) ∙ (unfolding_law T tree.0 whole stands.held).named

  -- the body that is put
  pub body_is : commit_body (record { tree = tree.0; parents = map name_bytes v.parts.parents.items; letter = letter_by v }) ≡ commit_body (snapshot_commit (commit_of d))
  body_is = λ i. commit_body (record { tree = sym tree_is i; parents = h.parents i; letter = h.letter i })

  abbrev put_body : Bytes
  put_body = commit_body (record { tree = tree.0; parents = map name_bytes v.parts.parents.items; letter = letter_by v })

  object_is : record { kind = CommitKind; body = put_body } ≡ snapshot_object (commit_of d)
  object_is = ap (λ (b : Bytes). record { kind = CommitKind; body = b }) body_is

  pub commit_made : (o : Object) → IsOnly CommitKind put_body o → IsMadeOf (Some d) o
  commit_made o e = inl (e ∙ object_is)

  pub commit_in : (R : List Object) (n : Name) → IsGrownBy (IsOnly CommitKind put_body) T R → n.0 ≡ name CommitKind put_body → find_named R n.0 ≡ Some (record { kind = CommitKind; body = put_body }) → IsCommitIn R (record { name = n; tree = tree }) (commit_of d)
  unfolding commit_name
  commit_in R n g e f = record {
    named = ap (name CommitKind) (sym body_is) ∙ sym e;
    held = f ∙ ap Some object_is;
    stands = stands-grown T R tree.0 d.tree g stands;
  }

  pub commit_grown : (R : List Object) → IsGrownBy (IsDirectoryOf d.tree) S T → IsGrownBy (IsOnly CommitKind put_body) T R → IsGrownBy (IsMadeOf (Some d)) S R
  commit_grown R g k = grown_then (IsMadeOf (Some d)) S T R (grown_as (IsDirectoryOf d.tree) (IsMadeOf (Some d)) S T (λ o m. inr m) g) (grown_as (IsOnly CommitKind put_body) (IsMadeOf (Some d)) T R commit_made k)

  pub commit_fault : (R : List Object) (f : StreamFault) → IsPutFault (IsOnly CommitKind put_body) R f → IsPutFault (IsMadeOf (Some d)) R f
  commit_fault R f k = fault_as (IsOnly CommitKind put_body) (IsMadeOf (Some d)) R f commit_made k

pub tree_grown : (S T : List Object) (d : Draft) → IsGrownBy (IsDirectoryOf d.tree) S T → IsGrownBy (IsMadeOf (Some d)) S T
tree_grown S T d g = grown_as (IsDirectoryOf d.tree) (IsMadeOf (Some d)) S T (λ o m. inr m) g

pub tree_clash : (T : List Object) (d : Draft) (f : StreamFault) → IsPutFault (IsDirectoryOf d.tree) T f → IsPutFault (IsMadeOf (Some d)) T f
tree_clash T d f h = fault_as (IsDirectoryOf d.tree) (IsMadeOf (Some d)) T f (λ o m. inr m) h

pub parents_there : (S T : List Object) (v : DraftNames) (d : Draft) → IsDraftOf S v d → {made : Object → Type 0} → IsGrownBy made S T → Each (λ n. has CommitKind T n ≡ true) (map name_bytes v.parts.parents.items)
parents_there S T v d h g = subst (λ (ps : List Bytes). Each (λ n. has CommitKind T n ≡ true) ps) (sym h.parents) (all-grown S T g CommitKind d.parents h.held)

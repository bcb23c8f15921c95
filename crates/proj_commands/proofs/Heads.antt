-- The commit of a ref in a state's store, and its tree there.
use Rattle.std.proofs.Common.{◌≡◌, ℕ, true, true≢false, List, Option, None, Some, IsSome, refl, sym, ap, subst, ◌∙◌}
use Rattle.std.specs.Prelude.{IfSome}
use Rattle.std.specs.FinMap.{find}
use Rattle.std.proofs.lemmas.Option.{same_Some}
use Rattle.git_objects.specs.CommitBodies.{commit_from}
use Rattle.git_objects.specs.Commits.{Commit}
use Rattle.git_objects.specs.Paths.{Bytes}
use Rattle.git_objects.specs.Refs.{bytes_cmp}
use Rattle.git_objects.specs.Snapshots.{Graph, Snapshot, tree_at}
use Rattle.git_objects.specs.declared.kind.Kind.TheVariants.{Commit as CommitKind}
use Rattle.object_store.specs.Objects.{Object, body_of, has}
use Rattle.object_store.specs.Unfolding.{flat}
use Rattle.commit_graph.specs.Graphs.{Row, place_of}
use Rattle.projection_laws.proofs.StoredGraphs.{at-row, name-is, row-at}
use Rattle.history_ground.proofs.HeadLemmas.{head-has, head-tree}
use Rattle.history_ground.proofs.ProjectLemmas.{place-named, place-within}
use Rattle.state_items.specs.Items.{Held}
use Rattle.state_items.specs.Repos.{repo}
use Rattle.repo_ground.specs.Contents.{Contents}
use Rattle.repo_ground.proofs.GroundLaws.{ground-law}
use Rattle.proj_commands.specs.Makes.{IsStateOf}
use Rattle.proj_commands.proofs.StatesShown.{head-placed}

some-place : (o : Option ℕ) → IsSome o → (i : ℕ) × (Some i ≡ o)
some-place (Some i) h = (i, refl)
some-place None h = absurd (true≢false (sym h))

module _ (items : List Bytes) (h : Held) (s : Contents) (refname n : Bytes) (w : IsStateOf items h s) (e : find bytes_cmp refname h.refs ≡ Some n) where
  abbrev S : List Object
  S = s.basis.store

  -- the commit of the ref is in the state's store
  place : (i : ℕ) × (Some i ≡ place_of n s.basis.graph)
  place = some-place (place_of n s.basis.graph) (head-placed h s refname n w.spells e)

  pub head-stored : has CommitKind S n ≡ true
  head-stored = head-has s.basis n place.0 w.ground place.1

  -- with the tree that is held
  pub tree-is : (c : Commit) → commit_from (body_of CommitKind S n) ≡ Some c → flat S c.tree ≡ tree_at (repo h).commits n
  tree-is c told =
      let rows = s.basis.graph in
      let g = w.ground.graph in
      let r = row-at S rows g place.0 (place-within n rows place.0 place.1) in
      let a = at-row S rows g place.0 r.0 r.1 in
      let named : r.0.name ≡ n = sym (name-is S rows g place.0 r.0 r.1) ∙ place-named n rows place.0 place.1 in
      let same : c ≡ a.1.commit = same_Some c a.1.commit (sym told ∙ ap (λ (m : Bytes). commit_from (body_of CommitKind S m)) (sym named) ∙ a.1.named) in
      ap (λ (d : Commit). flat S d.tree) same
      ∙ ap (λ (d : Snapshot). d.tree) a.1.is
      ∙ sym a.1.tree
      ∙ sym (head-tree s.basis n place.0 w.ground place.1 r.0.tree (subst (λ (o : Option Row). IfSome o (λ (x : Row). r.0.tree ≡ x.tree)) (sym r.1) refl))
      ∙ ap (λ (cs : Graph). tree_at cs n) (ground-law.commits h s w.spells w.ground)

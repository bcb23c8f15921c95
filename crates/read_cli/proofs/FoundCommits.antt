-- Commits that are found in a store under their names.
use Rattle.std.proofs.Common.{◌≡◌, Bool, true, false, cond, ◌||◌, true≢false, List, [], ◌∷◌, map, reverse, Option, Some, None, refl, sym, ap, subst, ◌∙◌}
use Rattle.std.specs.Option.{option_map, option_map_or}
use Rattle.std.specs.Cmp.Lexicographic.{bytes_decides}
use Rattle.std.proofs.lemmas.List.{reverse-reverse}
use Rattle.git_objects.specs.Commits.{Commit}
use Rattle.git_objects.specs.Lists.{Each}
use Rattle.git_objects.specs.Paths.{Bytes}
use Rattle.git_objects.specs.Snapshots.{Graph, Snapshot, commit_at, has, has_name, snapshot_name, tree_at}
use Rattle.object_store.specs.Objects.{Object}
use Rattle.object_store.specs.StoredSnapshots.{commit_named, snapshot_of}
use Rattle.object_store.specs.Unfolding.{flat}
use Rattle.fast_export.specs.Histories.{snapshots_at}
use Rattle.incremental_export.specs.Histories.{tree_in}
use Rattle.incremental_export.proofs.StoredUnreached.{IsFound, all_found, each_found}
use Rattle.projection_laws.proofs.HistoryLemmas.{each-reverse}

-- ---- of a store

module _ (S : List Object) where
  pub found-of : (g : Graph) → snapshots_at S (map snapshot_name (reverse g)) ≡ reverse g → Each (IsFound S) g
  found-of g h = subst (Each (IsFound S)) (reverse-reverse g) (each-reverse (IsFound S) (reverse g) (each_found _ snapshot_name (reverse g) h))

  pub snapshots-of : (g : Graph) → Each (IsFound S) g → snapshots_at S (map snapshot_name (reverse g)) ≡ reverse g
  snapshots-of g h = all_found _ snapshot_name (reverse g) (each-reverse (IsFound S) g h)

  pub own-commit : (c : Snapshot) → IsFound S c → (d : Commit) × (commit_named S (snapshot_name c) ≡ Some d)
  own-commit c h = by (commit_named S (snapshot_name c)) refl h
    where
      by : (o : Option Commit) → commit_named S (snapshot_name c) ≡ o → option_map (snapshot_of S) o ≡ Some c → (d : Commit) × (commit_named S (snapshot_name c) ≡ Some d)
      by None q e = absurd (cc)
      by (Some d) q e = (d, q)

  own-tree : (c : Snapshot) → IsFound S c → tree_in S (snapshot_name c) ≡ c.tree
  own-tree c h = by (commit_named S (snapshot_name c)) h
    where
      by : (o : Option Commit) → option_map (snapshot_of S) o ≡ Some c → option_map_or (λ (d : Commit). flat S d.tree) o [] ≡ c.tree
      by None e = absurd (cc)
      by (Some d) e = let same : snapshot_of S d ≡ c = cc in ap (λ (x : Snapshot). x.tree) same

  -- the tree of a name in the store is that in the graph
  pub tree-same : (g : Graph) → Each (IsFound S) g → (n : Bytes) → has g n ≡ true → tree_in S n ≡ tree_at g n
  tree-same [] f n h = absurd (true≢false (sym h))
  tree-same (c ∷ older) f n h = by (has_name n c) refl h (tree-same older f.1 n)
    where
      by : (b : Bool) → has_name n c ≡ b → (b || has older n) ≡ true → (has older n ≡ true → tree_in S n ≡ tree_at older n) → tree_in S n ≡ option_map_or (λ (x : Snapshot). x.tree) (cond (has_name n c) (Some c) (commit_at older n)) []
      by true q k more =
          ap (tree_in S) ((bytes_decides n (snapshot_name c)).0 q)
          ∙ own-tree c f.0
          ∙ ap (λ b. option_map_or (λ (x : Snapshot). x.tree) (cond b (Some c) (commit_at older n)) []) (sym q)
      by false q k more = more k ∙ ap (λ b. option_map_or (λ (x : Snapshot). x.tree) (cond b (Some c) (commit_at older n)) []) (sym q)

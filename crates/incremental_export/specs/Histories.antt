-- Commits of a store that are written, upon others.
use Rattle.std.specs.Prelude.{◌≡◌, ◌&&◌, Bool, true, false, not, List, [], ◌∷◌, map, replicate, Some}
use Rattle.std.specs.List.{list_all}
use Rattle.std.specs.Option.{option_map_or}
use Rattle.git_objects.specs.Lists.{Each}
use Rattle.git_objects.specs.Paths.{Bytes, same_bytes}
use Rattle.git_objects.specs.Snapshots.{snapshot_name}
use Rattle.git_objects.specs.Trees.{Flat}
use Rattle.git_objects.specs.declared.kind.Kind.TheVariants.{Commit}
use Rattle.object_store.specs.Objects.{Object, IsStore, has}
use Rattle.object_store.specs.StoredSnapshots.{commit_named}
use Rattle.object_store.specs.Unfolding.{flat}
use Rattle.fast_import.specs.Replays.{Base, value_at}
use Rattle.fast_export.specs.ExportTexts.{is_among}
use Rattle.fast_export.specs.Histories.{are_distinct, parents_in, snapshots_at}
use Rattle.incremental_export.specs.Laws.{AreNewUpon}

-- the tree of the commit of that name
abbrev pub tree_in : List Object → Bytes → Flat
tree_in S n = option_map_or (λ c. flat S c.tree) (commit_named S n) []

-- distinct commits of a store
pub record AreCommitsIn (S : List Object) (ns : List Bytes) : Type 0 where
  pub held : list_all (has Commit S) ns ≡ true
  pub distinct : are_distinct ns ≡ true

-- whether none of them has a parent that is itself or stands behind it
abbrev pub are_behind : List Object → List Bytes → Bool
are_behind S [] = true
are_behind S (n ∷ ns) = list_all (λ p. not (is_among p (n ∷ ns))) (parents_in S n) && are_behind S ns

-- a parent that isn't one of them is there, with its tree
abbrev pub IsThere : List Object → Base → List Bytes → Bytes → Type 0
IsThere S base ns p = is_among p ns ≡ false → value_at p base.commits ≡ Some (tree_in S p)

-- and no parent's name is all zeros
abbrev pub HasParents : List Object → Base → List Bytes → Bytes → Type 0
HasParents S base ns n = Each (λ p. IsThere S base ns p × (same_bytes p (replicate 20 0) ≡ false)) (parents_in S n)

-- the commits of these names can be read again upon such a base, and have these names
pub record AreNewOf (S : List Object) (base : Base) (ns : List Bytes) : Type 0 where
  pub upon : AreNewUpon (tree_in S) base [] (snapshots_at S ns)
  pub names : map snapshot_name (snapshots_at S ns) ≡ ns

-- So are commits of a store whose other parents are there.
abbrev pub StoredNewLaw : Type 0
StoredNewLaw =
    (S : List Object) (base : Base) (ns : List Bytes) → IsStore S → AreCommitsIn S ns → are_behind S ns ≡ true → Each (HasParents S base ns) ns
    → AreNewOf S base ns

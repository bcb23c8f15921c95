-- What a filter shows of a tree of the ground, and what is known of it.
use Rattle.std.specs.Prelude.{◌≡◌, ℕ, true, List, Option, Result, IfSome, IfOk, IfErr}
use Rattle.git_objects.specs.Paths.{Bytes}
use Rattle.git_objects.specs.Trees.{Flat}
use Rattle.git_objects.specs.declared.kind.Kind.TheVariants.{Tree}
use Rattle.git_objects.specs.declared.name.Name.{Name}
use Rattle.object_store.specs.Objects.{Object, has}
use Rattle.object_store.specs.Unfolding.{flat, StandsFor}
use Rattle.filter_text.specs.Filters.{Filter}
use Rattle.filter_routes.specs.Interned.{HasAt}
use Rattle.filter_routes.specs.TableValues.{Table}
use Rattle.filter_routes.specs.Lenses.{seen_through}
use Rattle.filter_routes.specs.Origins.{lens_of}
use Rattle.filter_apply.specs.Faults.{IsApplyFault}
use Rattle.filter_apply.specs.Hands.{IsShownObject}
use Rattle.filter_apply.specs.declared.fault.ApplyError.{ApplyError}
use Rattle.path_trees.specs.declared.found.Leaf.{Leaf}
use Rattle.workspace.specs.Views.{IsHeldLeaf, found_value}
use Rattle.workspace.specs.Workspaces.{resolve, shown, with_leaf}
use Rattle.projection_ground.specs.Grounds.{Extends}
use Rattle.projection_ground.specs.declared.ground.Ground.{Ground}
use Rattle.projection_ground.specs.declared.seeing.Asked.{Asked}

-- no object
abbrev pub IsNone : Object → Type 0
IsNone o = ⊥

-- The tree of a name is shown by a filter without a workspace: what is shown is in the store then, and map, graph and rule are as
-- they were.
pub record IsShownBy (f : Filter) (root : Bytes) (g g' : Ground) (result : Result Name ApplyError) : Type 0 where
  pub ok : IfOk result (λ n. StandsFor g'.store n.0 (seen_through (lens_of f) (flat g.store root)))
  pub err : IfErr result (IsApplyFault (IsShownObject f (flat g.store root)) g'.store)
  pub same : Extends (IsShownObject f (flat g.store root)) g g'
  pub map : g'.map ≡ g.map

-- The leaf, or none, is held in the store, and the number is that of the table of the filter for trees with it at the workspace place.
pub record IsNumbered (f : Filter) (S : List Object) (ts : List Table) (leaf : Option Leaf) (n : ℕ) : Type 0 where
  pub held : IsHeldLeaf S leaf
  pub there : HasAt ts (with_leaf f (found_value S leaf)) n

-- The table is that of the filter for every tree, the tree that was asked last is in the store with what the filter shows of it, and
-- the leaf has its number.
pub record IsAskedFor (f : Filter) (g : Ground) (a : Asked) : Type 0 where
  pub table : IfSome a.table (λ n. (t : Flat) → HasAt g.tables (resolve f t) n)
  pub last : IfSome a.last (λ p. (has Tree g.store p.0.0 ≡ true) × StandsFor g.store p.1.0 (shown f (flat g.store p.0.0)))
  pub leaf : IfSome a.leaf (λ p. IsNumbered f g.store g.tables p.0 p.1)

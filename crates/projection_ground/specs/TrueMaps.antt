-- Projections that are what they are from scratch, and whose commits are in a store.
use Rattle.std.specs.Prelude.{◌≡◌, ◌⊎◌, ℕ, List, [], ◌∷◌, ◌++◌, drop, Some}
use Rattle.git_objects.specs.Lists.{Each}
use Rattle.git_objects.specs.Snapshots.{Graph}
use Rattle.git_objects.specs.Paths.{Bytes}
use Rattle.object_store.specs.Objects.{Object}
use Rattle.object_store.specs.StoredSnapshots.{IsTreeOf}
use Rattle.commit_map.specs.Shown.{Shown, Entries, kept_at}
use Rattle.commit_map.specs.declared.rule.Rule.{Rule}
use Rattle.filter_text.specs.Filters.{Filter}
use Rattle.filter_text.specs.Shapes.{shape}
use Rattle.workspace.specs.Workspaces.{shown}
use Rattle.projection_laws.specs.ProjectionLaws.{AreOf, AreTrue}
use Rattle.projection_ground.specs.declared.true_maps.TrueMap.{TrueMap}

-- the commits that are kept as projections are in the store, each with its tree
abbrev pub AreHeld : List Object → Entries → Type 0
AreHeld S es = (n : Bytes) (m : Shown) → kept_at n es ≡ Some (Some m) → IsTreeOf S m.commit m.tree

-- Each entry is of a commit of the graph, is its projection from scratch, and its commit is in the store with its tree.
pub record IsTrueMap (S : List Object) (g : Graph) (k : Rule) (f : Filter) (es : Entries) : Type 0 where
  pub of : AreOf g es
  pub values : AreTrue k (shown f) g es
  pub held : AreHeld S es

abbrev pub AreTrueMaps : List Object → Graph → List TrueMap → Type 0
AreTrueMaps S g ms = Each (λ m. IsTrueMap S g m.rule (shape m.filter) m.map) ms

-- the map of a filter and a rule
abbrev pub IsMapOf : Filter → Rule → Entries → TrueMap → Type 0
IsMapOf f k es m = (shape m.filter ≡ f) × (m.rule ≡ k) × (m.map ≡ es)

-- one of the maps, which is left out then
pub record IsTakenFrom (f : Filter) (k : Rule) (old new : List TrueMap) (es : Entries) : Type 0 where
  pub map : TrueMap
  pub before : List TrueMap
  pub behind : List TrueMap
  pub all : old ≡ before ++ map ∷ behind
  pub left : new ≡ before ++ behind
  pub is : IsMapOf f k es map

-- the map of a filter and a rule, where there is one, else a map without entries
abbrev pub IsTakenOut : Filter → Rule → List TrueMap → List TrueMap → Entries → Type 0
IsTakenOut f k old new es = ((new ≡ old) × (es ≡ [])) ⊎ IsTakenFrom f k old new es

-- the last of these maps, with one of a filter and a rule behind them where there was memory for it
abbrev pub IsPutBehind : Filter → Rule → Entries → List TrueMap → List TrueMap → Type 0
IsPutBehind f k es old new =
    (n : ℕ) × ((new ≡ drop n old) ⊎ ((m : TrueMap) × IsMapOf f k es m × (new ≡ drop n old ++ m ∷ [])))

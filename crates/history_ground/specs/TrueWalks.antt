-- A walk that projects commits from scratch, and puts what they become into the store.
use Rattle.std.specs.Prelude.{◌≡◌, ℕ, List, Option, Some, None, IfSome, Result, Ok, Err}
use Rattle.std.specs.Option.{option_map}
use Rattle.git_objects.specs.Paths.{Bytes}
use Rattle.object_store.specs.Objects.{Object}
use Rattle.object_store.specs.StoredSnapshots.{IsTreeOf}
use Rattle.commit_map.specs.Shown.{Shown, shown_value}
use Rattle.commit_map.specs.declared.commit_map.Shown as code
use Rattle.filter_text.specs.Filters.{Filter}
use Rattle.projection_ground.specs.Choosing.{IsBelow}
use Rattle.projection_ground.specs.Grounds.{Extends, commits_of}
use Rattle.history_ground.specs.Heads.{IsSeenObject}
use Rattle.history_ground.specs.Making.{IsEntered}
use Rattle.projection_ground.specs.TrueMaps.{AreHeld, IsTrueMap}
use Rattle.projection_ground.specs.declared.ground.Ground.{Ground}

-- The commit at the place is projected, and what is kept is in the store with its tree; or another has to be first, and nothing is
-- kept that wasn't; nor is it after an error.
abbrev pub IsTrueStep : {E : Type 0} → Filter → ℕ → Ground → Ground → Result (Option ℕ) E → Type 0
IsTrueStep f place g g' (Ok None) = IsEntered f place g g' × AreHeld g'.store g'.map
IsTrueStep f place g g' (Ok (Some q)) = IsBelow g place q × (g'.map ≡ g.map)
IsTrueStep f place g g' (Err e) = g'.map ≡ g.map

-- What a walk from the commit of a name leaves, whose map has projections from scratch.
pub record IsTrueWalk (f : Filter) (head : Bytes) (g g' : Ground) : Type 0 where
  pub same : Extends (IsSeenObject f g head) g g'
  pub map : IsTrueMap g'.store (commits_of g) g.rule f g'.map

-- that projection, whose commit is in the store with its tree
pub record IsMade (S : List Object) (p : Option Shown) (o : Option code.Shown) : Type 0 where
  pub is : option_map shown_value o ≡ p
  pub held : IfSome o (λ s. IsTreeOf S s.commit.0 s.tree.0)

-- Objects that are taken in without an item.
use Rattle.std.specs.Prelude.{◌≡◌, ⊤, List, [], None, Some}
use Rattle.object_store.specs.Objects.{Object}
use Rattle.projection_ground.specs.Grounds.{IsGround}
use Rattle.state_items.specs.Changes.{ChangePlan, held_after, passed_by_objects}
use Rattle.state_items.specs.Items.{Held}
use Rattle.repo_ground.specs.Contents.{Contents, Spells}
use Rattle.repo_ground.specs.declared.commit.CommitError.{CommitError}
use Rattle.repo_ground.specs.declared.commit.CommitError.TheVariants.{StoreFault, Limit, OutOfMemory}

-- what is held with these objects, which weren't held before
abbrev pub held_with : Held → List Object → Held
held_with h objects = held_after h (ChangePlan objects [])

-- The state has them, and they pass no limit; all but its graph, its names and its known blobs is as it was.
pub record IsTaken (h : Held) (objects : List Object) (before after : Contents) : Type 0 where
  pub within : passed_by_objects (held_with h objects).objects None ≡ None
  pub spells : Spells (held_with h objects) after
  pub ground : IsGround after.basis
  pub same : after ≡ record before {
    basis = record before.basis { graph = after.basis.graph };
    blobs = after.blobs;
    names = after.names;
  }

-- why they aren't taken in: the first limit that they pass, or want of memory
abbrev pub IsNotTaken : Held → List Object → CommitError → Type 0
IsNotTaken h objects StoreFault = ⊥
IsNotTaken h objects (Limit q) = passed_by_objects (held_with h objects).objects None ≡ Some q
IsNotTaken h objects OutOfMemory = ⊤

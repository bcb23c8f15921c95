-- What a store says of an object that may be taken in.
use Rattle.std.specs.Prelude.{◌≡◌, List, ◌∷◌, None, true}
use Rattle.git_objects.specs.Paths.{Bytes}
use Rattle.git_objects.specs.Names.{name}
use Rattle.git_objects.specs.declared.kind.Kind.{Kind}
use Rattle.git_objects.specs.declared.kind.Kind.TheVariants.{Tree}
use Rattle.git_objects.specs.declared.name.Name.{Name}
use Rattle.object_store.specs.Objects.{Object, find_named, is_body}
use Rattle.object_store.specs.Puts.{of_body, refusal, with_object}
use Rattle.object_store.specs.Sizes.{sizes}
use Rattle.object_store.specs.Unfolding.{body_flat}
use Rattle.object_store.specs.declared.store.TreeStats.{TreeStats}
use Rattle.object_store.specs.declared.shelf.Judged.{Judged}
use Rattle.object_store.specs.declared.shelf.Judged.TheVariants.{Held, New}

-- The bytes are the body of a tree whose children are held, and these are its sizes.
abbrev pub IsTreeOf : List Object → Bytes → TreeStats → Type 0
IsTreeOf S b stats = (of_body S Tree b None ≡ None) × (stats ≡ sizes (body_flat S Tree b))

-- it is held
pub record IsHeld (S : List Object) (k : Kind) (b : Bytes) (n : Name) : Type 0 where
  pub named : n.0 ≡ name k b
  pub accepted : refusal S k b ≡ None
  pub stays : S ≡ with_object S k b

-- nothing is held under its name
pub record IsNew (S : List Object) (k : Kind) (b : Bytes) (n : Name) (stats : TreeStats) : Type 0 where
  pub named : n.0 ≡ name k b
  pub accepted : refusal S k b ≡ None
  pub joins : record { kind = k; body = b } ∷ S ≡ with_object S k b
  pub new : find_named S n.0 ≡ None
  pub whole : is_body S k b ≡ true
  pub sized : stats ≡ sizes (body_flat S k b)

abbrev pub IsJudged : List Object → Kind → Bytes → Judged → Type 0
IsJudged S k b (Held n) = IsHeld S k b n
IsJudged S k b (New n stats) = IsNew S k b n stats

-- Objects that are taken in one after another, each once.
use Rattle.std.specs.Prelude.{◌≡◌, List, [], ◌∷◌, ◌++◌, map, reverse, Some}
use Rattle.git_objects.specs.Parts.{name_bytes}
use Rattle.git_objects.specs.declared.name.Name.{Name}
use Rattle.object_store.specs.Objects.{Object, object_name, find_named, IsStore}
use Rattle.state_items.specs.Arrivals.{AreNamed}
use Rattle.state_items.specs.Growing.{grown, with_one}
use Rattle.state_items.specs.Writings.{objects_named as named}

-- each of them is in S, and what is held with it is a store
abbrev pub AreFed : List Object → List Object → List Object → Type 0
AreFed S H [] = Unit
AreFed S H (o ∷ os) = (find_named S (object_name o) ≡ Some o) × IsStore (with_one H o) × AreFed S (with_one H o) os

-- ---- names of held objects, in order of arrival

abbrev pub held_of : List Object → List Name → List Object
held_of S names = named S (reverse (map name_bytes names))

-- they are names of objects of S, which are a store of their own
pub record Holds (S : List Object) (names : List Name) : Type 0 where
  pub held : IsStore (held_of S names)
  pub named : AreNamed (held_of S names) names

-- these may be taken in
pub record IsReady (S : List Object) (names : List Name) (os : List Object) : Type 0 where
  pub whole : IsStore S
  pub holds : Holds S names
  pub fed : AreFed S (held_of S names) os

-- some were taken in, and these are left
pub record IsStep (S : List Object) (names later : List Name) (os left : List Object) : Type 0 where
  pub ready : IsReady S later left
  pub same : grown (held_of S later) left ≡ grown (held_of S names) os

-- names behind the others
abbrev pub Extends : List Name → List Name → Type 0
Extends names later = (more : List Name) × (later ≡ names ++ more)

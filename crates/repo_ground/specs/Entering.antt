-- Entering new objects among commits and blobs.
use Rattle.std.specs.Prelude.{◌≡◌, ⊤, true, List, [], ◌∷◌, ◌++◌, Option, Some, None}
use Rattle.object_store.specs.Objects.{Object, IsStore, find_named, object_name}
use Rattle.git_objects.specs.declared.name.Name.{Name}
use Rattle.state_items.specs.Items.{has_room}

-- a list, and another one that begins with it
abbrev pub IsFront : {A : Type 0} → List A → List A → Type 0
IsFront {A} before after = (more : List A) × (after ≡ before ++ more)

-- one object of the store, behind those that are held
pub record IsNewIn (S H : List Object) (n : Name) (o : Object) : Type 0 where
  pub found : find_named S n.0 ≡ Some o
  pub named : n.0 ≡ object_name o
  pub whole : IsStore (o ∷ H)
  pub room : has_room (o ∷ H) ≡ true

-- one after another
abbrev pub AreNewIn : List Object → List Object → List Name → Type 0
AreNewIn S H [] = ⊤
AreNewIn S H (n ∷ names) = (o : Object) × IsNewIn S H n o × AreNewIn S (o ∷ H) names

-- what is held with the object of a name
abbrev pub with_found : Option Object → List Object → List Object
with_found None H = H
with_found (Some o) H = o ∷ H

-- what is held with the objects of these names
abbrev pub with_all : List Object → List Object → List Name → List Object
with_all S H [] = H
with_all S H (n ∷ names) = with_all S (with_found (find_named S n.0) H) names

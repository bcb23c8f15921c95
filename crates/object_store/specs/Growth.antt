-- A store that has grown by objects of a kind.
use Rattle.std.specs.Prelude.{◌≡◌, List, ◌++◌, Contains, Some}
use Rattle.git_objects.specs.Paths.{Bytes}
use Rattle.git_objects.specs.declared.kind.Kind.{Kind}
use Rattle.object_store.specs.Objects.{Object, IsStore, find_named}
use Rattle.object_store.specs.Puts.{Collides, collision}

-- the old objects, and new ones in front of them, each of a kind
pub record IsGrownBy (made : Object → Type 0) (S S' : List Object) : Type 0 where
  pub store : IsStore S'
  pub newer : List Object
  pub above : newer ++ S ≡ S'
  pub all : (o : Object) → Contains newer o → made o

-- this one object
abbrev pub IsOnly : Kind → Bytes → Object → Type 0
IsOnly k b o = o ≡ record { kind = k; body = b }

-- another object has the name of such an object
pub record IsClash (made : Object → Type 0) (S : List Object) (n : Bytes) : Type 0 where
  pub object : Object
  pub is_made : made object
  pub held : collision object.kind object.body (find_named S n) ≡ Some (Collides n)

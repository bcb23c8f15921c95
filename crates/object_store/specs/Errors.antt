-- The code's objects and errors, as the definitions have them.
use Rattle.std.specs.Prelude.{Option, Some, None}
use Rattle.object_store.specs.Objects.{Object}
use Rattle.object_store.specs.Puts.{Refusal, NotBody, Missing, Collides}
use Rattle.object_store.specs.declared.store.ObjectRef.{ObjectRef}
use Rattle.object_store.specs.declared.store.PutError.{PutError}
use Rattle.object_store.specs.declared.store.PutError.TheVariants.{NotCanonical, MissingChild, Collision, OutOfMemory}

abbrev pub object_value : ObjectRef → Object
object_value o = record { kind = o.kind; body = o.body.now }

-- the refusal that an error tells
abbrev pub refusal_told : PutError → Option Refusal
refusal_told NotCanonical = Some NotBody
refusal_told (MissingChild n) = Some (Missing n.0)
refusal_told (Collision n) = Some (Collides n.0)
refusal_told OutOfMemory = None

-- the error that tells a refusal
abbrev pub error_of : Refusal → PutError
error_of NotBody = NotCanonical
error_of (Missing n) = MissingChild (record { 0 = n })
error_of (Collides n) = Collision (record { 0 = n })

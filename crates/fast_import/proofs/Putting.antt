-- Why an object isn't put, and a fault of putting, of one hand and of a wider one.
use Rattle.std.proofs.Common.{◌≡◌, ◌⊎◌, inl, inr, List, None, sym, subst}
use Rattle.git_objects.specs.Paths.{Bytes}
use Rattle.git_objects.specs.declared.kind.Kind.{Kind}
use Rattle.git_objects.specs.declared.name.Name.{Name}
use Rattle.object_store.specs.Errors.{refusal_told}
use Rattle.object_store.specs.Growth.{IsClash, IsGrownBy, IsOnly}
use Rattle.object_store.specs.Objects.{IsStore, Object}
use Rattle.object_store.specs.Puts.{of_body, refusal}
use Rattle.object_store.specs.declared.store.PutError.{PutError}
use Rattle.object_store.specs.declared.store.PutError.TheVariants as errors
use Rattle.object_store.proofs.Growth.{clash_as, grown_self}
use Rattle.object_store.proofs.PutObjects.{IsOnlyClash, only_clash}
use Rattle.fast_import.specs.Made.{IsPutFault}
use Rattle.stream_reader.specs.declared.fault.StreamFault.{StreamFault}
use Rattle.stream_reader.specs.declared.fault.StreamFault.TheVariants.{Collision, OutOfMemory}

pub fault_as : (made more : Object → Type 0) (S : List Object) (f : StreamFault) → ((o : Object) → made o → more o) → IsPutFault made S f → IsPutFault more S f
fault_as made more S f g (inl h) = inl h
fault_as made more S f g (inr h) = inr (h.0, h.1, clash_as made more S h.0.0 g h.2)

-- a store that refused an object which fits
module _ (S T : List Object) (k : Kind) (b : Bytes) (e : PutError) (fine : of_body S k b None ≡ None) (told : (T ≡ S) × ((e ≡ errors.OutOfMemory) ⊎ (refusal S k b ≡ refusal_told e))) where
  pub refused_fitting : (e ≡ errors.OutOfMemory) ⊎ ((n : Name) × (e ≡ errors.Collision n))
  refused_fitting = by (only_clash S k b e fine told.1)
    where
      by : IsOnlyClash S k b e → (e ≡ errors.OutOfMemory) ⊎ ((n : Name) × (e ≡ errors.Collision n))
      by (inl h) = inl h
      by (inr h) = inr (h.0, h.1)

  pub fault_fitting : (f : StreamFault) → (e ≡ errors.OutOfMemory → f ≡ OutOfMemory) → ((n : Name) → e ≡ errors.Collision n → f ≡ Collision n) → IsPutFault (IsOnly k b) T f
  fault_fitting f memory collision = by (only_clash S k b e fine told.1)
    where
      by : IsOnlyClash S k b e → IsPutFault (IsOnly k b) T f
      by (inl h) = inl (memory h)
      by (inr h) = inr (h.0, collision h.0 h.1, subst (λ (R : List Object). IsClash (IsOnly k b) R h.0.0) (sym told.0) h.2)

  pub as_before : IsStore T → IsGrownBy (IsOnly k b) S T
  as_before s = subst (λ (R : List Object). IsGrownBy (IsOnly k b) R T) told.0 (grown_self (IsOnly k b) T s)

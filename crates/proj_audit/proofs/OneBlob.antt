-- A store with one blob.
use Rattle.std.proofs.Common.{◌≡◌, true, cond, ◌||◌, List, [], sym, ap, subst, ◌∙◌}
use Rattle.std.specs.Cmp.Lexicographic.{bytes_decides}
use Rattle.git_objects.specs.Names.{name}
use Rattle.git_objects.specs.Paths.{Bytes, same_bytes}
use Rattle.git_objects.specs.declared.kind.Kind.TheVariants.{Blob}
use Rattle.object_store.specs.Objects.{Object, has, has_name, body_of}
use Rattle.object_store.specs.Puts.{with_object}

pub one-blob : (S T : List Object) (n b : Bytes) → S ≡ [] → n ≡ name Blob b → T ≡ with_object S Blob b →
    (has Blob T n ≡ true) × (body_of Blob T n ≡ b)
unfolding has has_name body_of
one-blob S T n b s e h =
    subst (λ (R : List Object). (has Blob R n ≡ true) × (body_of Blob R n ≡ b)) (sym (h ∙ ap (λ (R : List Object). with_object R Blob b) s))
    (ap (λ c. c || has Blob [] n) named, ap (λ c. cond c b []) named)
  where
    named : same_bytes (name Blob b) n ≡ true
    named = (bytes_decides (name Blob b) n).1 (sym e)

-- Reading a certificate object by object.
use Rattle.std.proofs.Common.{◌≡◌, ◌≤◌, ◌<◌, ◌+◌, ◌*◌, ◌-◌, ℕ, zero, suc, Bool, true, false, cond, min, List, [], ◌∷◌, ◌++◌, length, Option, Some, None, refl, sym, ap, ◌∙◌, arith, true≢false, append_assoc, length-append, append-nil}
use Rattle.std.proofs.lemmas.Bool.Decides.{nat_tests}
use Rattle.std.specs.Prelude.{nat_le, is_some, Result, Ok, Err}
use Rattle.std.specs.Cmp.Lexicographic.{bytes_decides}
use Rattle.std.specs.Map.{lookup}
use Rattle.std.specs.Option.{option_map}
use Rattle.git_objects.specs.CommitBodies.{strip}
use Rattle.git_objects.specs.Paths.{Bytes, same_bytes}
use Rattle.git_objects.specs.Results.{◌>>=◌, or_refuse}
use Rattle.git_objects.specs.declared.name.Name.{Name}
use Rattle.git_objects.proofs.Basics.{same_bytes-back}
use Rattle.git_objects.proofs.CommitReading.{strip-spelled}
use Rattle.git_objects.proofs.Maps.{first_some}
use Rattle.object_store.specs.Errors.{object_value}
use Rattle.object_store.specs.Objects.{Object, object_name, find_named}
use Rattle.object_store.specs.declared.store.ObjectRef.{ObjectRef}
use Rattle.proj_audit.specs.Reads.{AreNamed, AreOfText, mapped_objects}
use Rattle.proj_audit.specs.Texts.{first_line, number_from, object_from, objects, objects_within}
use Rattle.proj_audit.proofs.Finds.{find-append}
use Rattle.proj_audit.proofs.Spelling.{long, next-none, object-spelled}
use Rattle.proj_audit.proofs.Writing.{next-read, nothing-read}

-- ---- sizes

grows : (n : ℕ) (t : Bytes) → n ≤ number_from n t
grows n [] = omega arith
grows n (x ∷ t) = let h = grows (10 * n + (x - 48)) t in omega (arith, h)

-- a number that stands at its type's end stays there
pub saturates : (n : ℕ) (t : Bytes) →
    min (number_from (min n 18446744073709551615) t) 18446744073709551615 ≡ min (number_from n t) 18446744073709551615
saturates n t = by (nat_le n 18446744073709551615) refl
  where
    by : (b : Bool) → nat_le n 18446744073709551615 ≡ b →
        min (number_from (min n 18446744073709551615) t) 18446744073709551615 ≡ min (number_from n t) 18446744073709551615
    by true h = ap (λ m. min (number_from m t) 18446744073709551615) (grind (arith, nat_tests))
    by false h = let a = grows (min n 18446744073709551615) t in let b = grows n t in grind (arith, nat_tests)

-- one digit more
pub one-digit : (n m x : ℕ) (t : Bytes) → m ≡ min (min (n * 10) 18446744073709551615 + (x - 48)) 18446744073709551615 →
    min (number_from m t) 18446744073709551615 ≡ min (number_from n (x ∷ t)) 18446744073709551615
one-digit n m x t e = ap (λ k. min (number_from k t) 18446744073709551615) (e ∙ omega arith) ∙ saturates (10 * n + (x - 48)) t

-- ---- objects by their names

pub find-mapped : (es : List (Name × ObjectRef)) (k : Name) → AreNamed es →
    find_named (mapped_objects es) k.0 ≡ option_map object_value (lookup (λ (j : Name). same_bytes k.0 j.0) es)
unfolding find_named
find-mapped [] k h = refl
find-mapped (e ∷ es) k h =
    ap (λ b. cond b (Some (object_value e.1)) (find_named (mapped_objects es) k.0)) (ap (λ n. same_bytes n k.0) h.0 ∙ same_bytes-back e.0.0 k.0)
    ∙ elim (same_bytes k.0 e.0.0) as (λ b. cond b (Some (object_value e.1)) (find_named (mapped_objects es) k.0)
    ≡ option_map object_value (cond b (Some e.1) (lookup (λ (j : Name). same_bytes k.0 j.0) es))) [
      | true ↦ refl
      | false ↦ find-mapped es k h.1
    ]

find-one : (o : Object) (n : Bytes) → find_named (o ∷ []) n ≡ cond (same_bytes (object_name o) n) (Some o) None
unfolding find_named
find-one o n = refl

-- an object whose name is there already is never found
pub known-again : (held : List Object) (o : Object) → is_some (find_named held (object_name o)) ≡ true → (n : Bytes) →
    find_named held n ≡ find_named (held ++ o ∷ []) n
known-again held o h n =
    by (same_bytes (object_name o) n) refl
    ∙ sym (find-append held (o ∷ []) n ∙ ap (first_some (find_named held n)) (find-one o n))
  where
    kept : (w v : Option Object) → is_some w ≡ true → w ≡ first_some w v
    kept None v e = absurd (true≢false (sym e))
    kept (Some x) v e = refl

    none : (w : Option Object) → w ≡ first_some w None
    none None = refl
    none (Some x) = refl

    by : (b : Bool) → same_bytes (object_name o) n ≡ b → find_named held n ≡ first_some (find_named held n) (cond b (Some o) None)
    by true e = kept (find_named held n) (Some o) (ap (λ m. is_some (find_named held m)) (sym ((bytes_decides (object_name o) n).0 e)) ∙ h)
    by false e = none (find_named held n)

pub is_some-map : {A B : Type 0} (f : A → B) (w : Option A) → is_some (option_map f w) ≡ is_some w
is_some-map f None = refl
is_some-map f (Some x) = refl

pub is_none : {A : Type 0} (w : Option A) → is_some w ≡ false → w ≡ None
is_none None e = refl
is_none (Some x) e = absurd (true≢false e)

pub named-new : (es : List (Name × ObjectRef)) (k : Name) (v : ObjectRef) → AreNamed es → object_name (object_value v) ≡ k.0 →
    AreNamed (es ++ (k, v) ∷ [])
named-new [] k v h e = (e, tt)
named-new (d ∷ es) k v h e = (h.0, named-new es k v h.1 e)

-- ---- a text that is read

-- objects that were read of a text, and what is left of it
pub record IsRead (text : Bytes) (held : List Object) (rest : Bytes) : Type 0 where
  pub done : List Object
  pub fuel : ℕ
  pub enough : length rest ≤ fuel
  pub whole : length rest ≤ length text
  pub found : (n : Bytes) → find_named held n ≡ find_named done n
  pub reads : objects text ≡ (objects_within fuel (length text) rest >>= λ os. Ok (done ++ os))

first-parts : (z : Result (List Object) ℕ) → z ≡ (z >>= λ os. Ok ([] ++ os))
first-parts (Ok os) = refl
first-parts (Err n) = refl

more-parts : (z : Result (List Object) ℕ) (done : List Object) (o : Object) →
    ((z >>= λ os. Ok (o ∷ os)) >>= λ os. Ok (done ++ os)) ≡ (z >>= λ os. Ok ((done ++ o ∷ []) ++ os))
more-parts (Ok os) done o = ap Ok (sym (append_assoc done (o ∷ []) os))
more-parts (Err n) done o = refl

pub read-first : (text rest : Bytes) → strip first_line text ≡ Some rest → IsRead text [] rest
read-first text rest e = record {
  done = [];
  fuel = length text;
  enough = shorter;
  whole = shorter;
  found = λ n. refl;
  reads =
      ap (λ w. or_refuse 0 w >>= λ r. objects_within (length text) (length text) r) e
      ∙ first-parts (objects_within (length text) (length text) rest);
}
  where
    shorter : length rest ≤ length text
    shorter = omega (arith, ap length (strip-spelled first_line text rest e), length-append first_line rest)

pub read-no-first : (text : Bytes) → strip first_line text ≡ None → objects text ≡ Err 0
read-no-first text e = ap (λ w. or_refuse 0 w >>= λ r. objects_within (length text) (length text) r) e

pub object-shorter : (t r : Bytes) (o : Object) → object_from t ≡ Some (o, r) → length r < length t
object-shorter t r o e =
    let s = object-spelled t o r e in
    omega (arith, long s.0 o s.2, ap length s.1, length-append s.0 r)

pub read-more : (text rest r : Bytes) (held new : List Object) (o : Object) → IsRead text held rest → object_from rest ≡ Some (o, r) →
    ((n : Bytes) → find_named new n ≡ find_named (held ++ o ∷ []) n) → IsRead text new r
read-more text rest r held new o h e g = by h.fuel refl
  where
    shorter : length r < length rest
    shorter = object-shorter rest r o e

    by : (k : ℕ) → h.fuel ≡ k → IsRead text new r
    by zero i = absurd (omega (arith, shorter, h.enough, i))
    by (suc k) i = record {
      done = h.done ++ o ∷ [];
      fuel = k;
      enough = omega (arith, shorter, h.enough, i);
      whole = omega (arith, shorter, h.whole);
      found =
          λ n. g n
          ∙ find-append held (o ∷ []) n
          ∙ ap (λ w. first_some w (find_named (o ∷ []) n)) (h.found n)
          ∙ sym (find-append h.done (o ∷ []) n);
      reads = h.reads ∙ ap (λ m. objects_within m (length text) rest >>= λ os. Ok (h.done ++ os)) i
          ∙ ap (λ z. z >>= λ os. Ok (h.done ++ os)) (next-read k (length text) rest o r e)
          ∙ more-parts (objects_within k (length text) r) h.done o;
    }

pub read-all : (text held : List ℕ) (S : List Object) → IsRead text S held → length held ≡ 0 → AreOfText text S
read-all text [] S h e = record {
  all = h.done;
  read = h.reads ∙ ap (λ z. z >>= λ os. Ok (h.done ++ os)) (nothing-read h.fuel (length text)) ∙ ap Ok (append-nil h.done);
  found = h.found;
}
read-all text (x ∷ held) S h e = absurd (omega (arith, e))

pub read-broken : (text rest : Bytes) (S : List Object) → IsRead text S rest → (length rest ≡ 0 → ⊥) → object_from rest ≡ None →
    objects text ≡ Err (length text - length rest)
read-broken text [] S h some e = absurd (some refl)
read-broken text (x ∷ rest) S h some e = by h.fuel refl
  where
    by : (k : ℕ) → h.fuel ≡ k → objects text ≡ Err (length text - length (x ∷ rest))
    by zero i = absurd (omega (arith, h.enough, i))
    by (suc k) i =
        h.reads ∙ ap (λ m. objects_within m (length text) (x ∷ rest) >>= λ os. Ok (h.done ++ os)) i
        ∙ ap (λ z. z >>= λ os. Ok (h.done ++ os)) (next-none k (length text) x rest e)

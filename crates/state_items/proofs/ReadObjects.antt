-- Objects and refs that are read, one after another.
use Rattle.std.proofs.Common.{◌≡◌, ◌+◌, ℕ, zero, suc, Bool, true, false, not, cond, ◌&&◌, List, [], ◌∷◌, ◌++◌, length, take, drop, Option, None, Some, Result, Ok, Err, refl, sym, ap, subst, ◌∙◌}
use Rattle.std.specs.Prelude.{nat_le}
use Rattle.std.specs.Cmp.{first_so, second_so}
use Rattle.std.specs.FinMap.{put as put_entry}
use Rattle.git_objects.specs.Names.{name}
use Rattle.git_objects.specs.Paths.{Bytes}
use Rattle.git_objects.specs.Refs.{Refs, bytes_cmp}
use Rattle.git_objects.proofs.IdentSpelling.{not-false}
use Rattle.git_objects.specs.Results.{◌>>=◌, must, or_refuse}
use Rattle.git_objects.specs.declared.kind.Kind.{Kind}
use Rattle.git_objects.specs.declared.kind.Kind.TheVariants.{Commit}
use Rattle.object_store.specs.Fits.{body_fits}
use Rattle.object_store.specs.Objects.{Object, has, has_name, object_name}
use Rattle.object_store.specs.Puts.{refusal}
use Rattle.path_names.specs.RefNames.{is_ref_name}
use Rattle.state_items.specs.Fields.{Spot, Fault, BrokenAt, field, number, number_of}
use Rattle.state_items.specs.Items.{fault_of, has_room, head_field, kind_field, kind_of, object_field, objects_field, ref_field, refs_field, rises, take_object}
use Rattle.state_items.proofs.ByteLists.{AreBytes, drop-bytes, take-bytes}

-- ---- steps that were made

pub record Value {A B E : Type 0} (r : Result A E) (f : A → Result B E) (y : B) : Type 0 where
  pub value : A
  pub was : r ≡ Ok value
  pub rest : f value ≡ Ok y

no-value : {A E : Type 0} (d : E) (x : A) → Err d ≡ Ok x → ⊥
no-value d x h = cc

pub value-of : {A B E : Type 0} (r : Result A E) (f : A → Result B E) (y : B) → (r >>= f) ≡ Ok y → Value r f y
value-of (Ok x) f y e = record { value = x; was = refl; rest = e }
value-of (Err d) f y e = absurd (no-value d y e)

pub must-hold : {B E : Type 0} (d : E) (b : Bool) (f : Unit {0} → Result B E) (y : B) → (must d b >>= f) ≡ Ok y → (b ≡ true) × (f tt ≡ Ok y)
must-hold d true f y e = (refl, e)
must-hold d false f y e = absurd (no-value d y e)

abbrev pub Gives : {A E : Type 0} → Result A E → A → Type 0
Gives r x = r ≡ Ok x

pub ok-same : {A E : Type 0} (x y : A) → Gives {E = E} (Ok x) y → x ≡ y
ok-same x y e = cc

pub front-same : {A E : Type 0} (x y : A) (s t : Spot) → Gives {A = A × Spot} {E = E} (Ok (x, s)) (y, t) → x ≡ y
front-same {A = A} x y s t e = ap (λ (z : A × Spot). z.0) (ok-same (x, s) (y, t) e)

pub back-same : {A E : Type 0} (x y : A) (s t : Spot) → Gives {A = A × Spot} {E = E} (Ok (x, s)) (y, t) → s ≡ t
back-same {A = A} x y s t e = ap (λ (z : A × Spot). z.1) (ok-same (x, s) (y, t) e)

-- ---- bytes

cond-same : (c : Bool) (x y : Bytes × Spot) (d : Fault) → Gives (cond c (Ok x) (Err d)) y → x ≡ y
cond-same true x y d e = ok-same x y e
cond-same false x y d e = absurd (no-value d y e)

pub field-bytes : (n : ℕ) (s t : Spot) (b : Bytes) → field n s ≡ Ok (b, t) → AreBytes s.rest → AreBytes b × AreBytes t.rest
field-bytes n s t b e h =
    subst (λ (x : Bytes × Spot). AreBytes x.0 × AreBytes x.1.rest) (cond-same (nat_le n (length s.rest)) (take n s.rest, record { at = s.at + n; rest = drop n s.rest }) (b, t) (BrokenAt s.at) e)
    (take-bytes n s.rest h, drop-bytes n s.rest h)

pub number-bytes : (n : ℕ) (s t : Spot) (k : ℕ) → number n s ≡ Ok (k, t) → AreBytes s.rest → AreBytes t.rest
number-bytes n s t k e h =
    let r = value-of (field n s) (λ r. Ok (number_of r.0, r.1)) (k, t) e in
    subst (λ (u : Spot). AreBytes u.rest) (back-same (number_of r.value.0) k r.value.1 t r.rest) (field-bytes n s r.value.1 r.value.0 r.was h).1

kind-bytes : (s t : Spot) (k : Kind) → kind_field s ≡ Ok (k, t) → AreBytes s.rest → AreBytes t.rest
kind-bytes s t k e h =
    let x = value-of (number 1 s) (λ x. or_refuse (BrokenAt s.at) (kind_of x.0) >>= λ k. Ok (k, x.1)) (k, t) e in
    let j = value-of (or_refuse (BrokenAt s.at) (kind_of x.value.0)) (λ k. Ok (k, x.value.1)) (k, t) x.rest in
    subst (λ (u : Spot). AreBytes u.rest) (back-same j.value k x.value.1 t j.rest) (number-bytes 1 s x.value.1 x.value.0 x.was h)

-- ---- objects

-- an object that was taken in
pub record IsTaken (S : List Object) (o : Object) : Type 0 where
  pub refused : refusal S o.kind o.body ≡ None
  pub new : has_name S (object_name o) ≡ false
  pub fits : body_fits S o.kind o.body ≡ true

took : (S T : List Object) (k : Kind) (b : Bytes) (at : ℕ) → take_object S k b at (refusal S k b) ≡ Ok T → (T ≡ record { kind = k; body = b } ∷ S) × IsTaken S (record { kind = k; body = b })
took S T k b at e =
    elim (refusal S k b) as (λ x. refusal S k b ≡ x → take_object S k b at x ≡ Ok T → (T ≡ o ∷ S) × IsTaken S o) [
      | Some r ↦ λ g j. absurd (no-value (fault_of at r) T j)
      | None ↦ λ g j.
          elim (not (has_name S (name k b)) && body_fits S k b && has_room (o ∷ S)) as
          (λ c. (not (has_name S (name k b)) && body_fits S k b && has_room (o ∷ S)) ≡ c → cond c (Ok (o ∷ S)) (Err (BrokenAt at)) ≡ Ok T → (T ≡ o ∷ S) × IsTaken S o) [
            | true ↦ λ u w.
                let two = first_so (not (has_name S (name k b)) && body_fits S k b) _ u in
                (sym (ok-same (o ∷ S) T w), record { refused = g; new = not-false (has_name S (name k b)) (first_so _ _ two); fits = second_so (not (has_name S (name k b))) _ two })
            | false ↦ λ u w. absurd (no-value (BrokenAt at) T w)
          ] refl j
    ] refl e
  where
    o : Object
    o = record { kind = k; body = b }

-- one object more; of bytes, it has bytes, with bytes behind it
pub record Taken (S T : List Object) (s t : Spot) : Type 0 where
  pub object : Object
  pub same : T ≡ object ∷ S
  pub taken : IsTaken S object
  pub bytes : AreBytes s.rest → AreBytes object.body × AreBytes t.rest

pub object-taken : (S T : List Object) (s t : Spot) → object_field S s ≡ Ok (T, t) → Taken S T s t
object-taken S T s t e =
    let k = value-of (kind_field s) (λ k. number 4 k.1 >>= λ n. field n.0 n.1 >>= λ b. take_object S k.0 b.0 n.1.at (refusal S k.0 b.0) >>= λ held. Ok (held, b.1)) (T, t) e in
    let n = value-of (number 4 k.value.1) (λ n. field n.0 n.1 >>= λ b. take_object S k.value.0 b.0 n.1.at (refusal S k.value.0 b.0) >>= λ held. Ok (held, b.1)) (T, t) k.rest in
    let b = value-of (field n.value.0 n.value.1) (λ b. take_object S k.value.0 b.0 n.value.1.at (refusal S k.value.0 b.0) >>= λ held. Ok (held, b.1)) (T, t) n.rest in
    let r = value-of (take_object S k.value.0 b.value.0 n.value.1.at (refusal S k.value.0 b.value.0)) (λ held. Ok (held, b.value.1)) (T, t) b.rest in
    let w = took S r.value k.value.0 b.value.0 n.value.1.at r.was in
    record {
      object = record { kind = k.value.0; body = b.value.0 };
      same = sym (front-same r.value T b.value.1 t r.rest) ∙ w.0;
      taken = w.1;
      bytes = λ h.
          let f = field-bytes n.value.0 n.value.1 b.value.1 b.value.0 b.was (number-bytes 4 k.value.1 n.value.1 n.value.0 n.was (kind-bytes s k.value.1 k.value.0 k.was h)) in
          (f.0, subst (λ (u : Spot). AreBytes u.rest) (back-same r.value T b.value.1 t r.rest) f.1);
    }

-- what each object keeps, all keep
pub objects-keep : (P : List Object → Spot → Type 0) → ((S T : List Object) (s t : Spot) → P S s → Taken S T s t → P T t) → (n : ℕ) (S T : List Object) (s t : Spot) → P S s → objects_field n S s ≡ Ok (T, t) → P T t
objects-keep P f zero S T s t p e = subst (λ (x : List Object × Spot). P x.0 x.1) (ok-same (S, s) (T, t) e) p
objects-keep P f (suc n) S T s t p e =
    let o = value-of (object_field S s) (λ r. objects_field n r.0 r.1) (T, t) e in
    objects-keep P f n o.value.0 T o.value.1 t (f S o.value.0 s o.value.1 p (object-taken S o.value.0 s o.value.1 o.was)) o.rest

-- objects behind which others stand
abbrev pub Upon : List Object → List Object → Type 0
Upon S T = (newer : List Object) × (T ≡ newer ++ S)

pub objects-upon : (n : ℕ) (S T : List Object) (s t : Spot) → objects_field n S s ≡ Ok (T, t) → Upon S T
objects-upon n S T s t e = objects-keep (λ R _. Upon S R) (λ R Q s t u w. (w.object ∷ u.0, w.same ∙ ap (λ (x : List Object). w.object ∷ x) u.1)) n S T s t ([], refl) e

-- ---- refs

-- what setting a valid ref to a commit that is held keeps, all keep
pub refs-keep : (S : List Object) (P : Refs → Type 0) → ((m : Refs) (r n : Bytes) → P m → is_ref_name r ≡ true → has Commit S n ≡ true → P (put_entry bytes_cmp r n m)) →
    (n : ℕ) (before : Option Bytes) (m g : Refs) (s t : Spot) → P m → refs_field n S before m s ≡ Ok (g, t) → P g
refs-keep S P f zero before m g s t p e = subst P (front-same m g s t e) p
refs-keep S P f (suc n) before m g s t p e =
    let r = value-of (ref_field before s) (λ r. head_field S r.1 >>= λ h. refs_field n S (Some r.0) (put_entry bytes_cmp r.0 h.0 m) h.1) (g, t) e in
    let h = value-of (head_field S r.value.1) (λ h. refs_field n S (Some r.value.0) (put_entry bytes_cmp r.value.0 h.0 m) h.1) (g, t) r.rest in
    refs-keep S P f n (Some r.value.0) (put_entry bytes_cmp r.value.0 h.value.0 m) g h.value.1 t (f m r.value.0 h.value.0 p (valid before s r.value r.was) (held r.value.1 h.value h.was)) h.rest
  where
    valid : (before : Option Bytes) (s : Spot) (r : Bytes × Spot) → ref_field before s ≡ Ok r → is_ref_name r.0 ≡ true
    valid before s r e =
        let n = value-of (number 2 s) (λ n. field n.0 n.1 >>= λ q. must (BrokenAt n.1.at) (is_ref_name q.0 && rises before q.0) >>= λ _. Ok q) r e in
        let q = value-of (field n.value.0 n.value.1) (λ q. must (BrokenAt n.value.1.at) (is_ref_name q.0 && rises before q.0) >>= λ _. Ok q) r n.rest in
        let m = must-hold (BrokenAt n.value.1.at) (is_ref_name q.value.0 && rises before q.value.0) (λ _. Ok q.value) r q.rest in
        ap (λ (x : Bytes × Spot). is_ref_name x.0) (sym (ok-same q.value r m.1)) ∙ first_so _ _ m.0

    held : (s : Spot) (h : Bytes × Spot) → head_field S s ≡ Ok h → has Commit S h.0 ≡ true
    held s h e =
        let q = value-of (field 20 s) (λ q. must (BrokenAt s.at) (has Commit S q.0) >>= λ _. Ok q) h e in
        let m = must-hold (BrokenAt s.at) (has Commit S q.value.0) (λ _. Ok q.value) h q.rest in
        ap (λ (x : Bytes × Spot). has Commit S x.0) (sym (ok-same q.value h m.1)) ∙ m.0

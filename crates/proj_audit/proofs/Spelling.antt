-- What is read of a text is what it spells, and another text is refused where it is broken.
use Rattle.std.proofs.Common.{◌≡◌, ℕ, zero, suc, ◌-◌, ◌<◌, ◌≤◌, Bool, true, false, cond, inl, inr, List, [], ◌∷◌, ◌++◌, length, take, drop, refl, sym, ap, subst, ◌∙◌, Option, Some, None, arith, append_assoc, length-append}
use Rattle.std.specs.Prelude.{Result, Ok, Err, if◌then◌else◌, nat_le, ◌&&◌}
use Rattle.std.specs.Option.{option_map, option_and_then}
use Rattle.std.specs.List.{list_all}
use Rattle.std.specs.Cmp.{second_so}
use Rattle.std.specs.Cmp.Lexicographic.{bytes_decides}
use Rattle.std.proofs.lemmas.Bool.Decides.{nat_tests}
use Rattle.std.proofs.lemmas.List.{take-append-drop, length-take-le}
use Rattle.std.proofs.lemmas.Option.{none-some, same_Some}
use Rattle.git_objects.specs.Paths.{Bytes, same_bytes}
use Rattle.git_objects.specs.Names.{kind_word}
use Rattle.git_objects.specs.Idents.{cut_at, is_number, is_digit}
use Rattle.git_objects.specs.CommitBodies.{strip}
use Rattle.git_objects.specs.declared.kind.Kind.{Kind}
use Rattle.git_objects.specs.declared.kind.Kind.TheVariants.{Blob, Tree, Commit as CommitKind}
use Rattle.git_objects.proofs.CommitReading.{strip-read, strip-spelled}
use Rattle.git_objects.proofs.IdentSpelling.{cut-front, cut-spelled}
use Rattle.git_objects.proofs.TreeReading.{cond_some, map_some, then_some}
use Rattle.object_store.specs.Objects.{Object}
use Rattle.git_objects.specs.Results.{◌>>=◌, or_refuse}
use Rattle.proj_audit.specs.Texts.{first_line, kind_from, number_from, size_from, head_from, body_from, object_from, objects_within, objects}
use Rattle.proj_audit.specs.Spelling.{SpellsObject, SpellsObjects, SpellsCertificate, HasNone, IsBroken, IsRefused, SyntaxLaw}
use Rattle.proj_audit.proofs.Writing.{no_line_end, no_space, kind-read, body-read, next-read, nothing-read}

-- ---- one object

size-found : (d : Bytes) (n : ℕ) → is_number 20 d ≡ true → number_from 0 d ≡ n → size_from d ≡ Some n
size-found d n h e = ap (λ b. if b then Some (number_from 0 d) else None) h ∙ ap (λ m. Some m) e

-- the first line of an object
head-found : (k : Kind) (d : Bytes) (n : ℕ) → is_number 20 d ≡ true → number_from 0 d ≡ n → head_from (kind_word k ++ 32 ∷ d) ≡ Some (k, n)
head-found k d n h e =
    ap (option_and_then (λ r. option_and_then (λ k. option_map (λ n. (k, n)) (size_from r.1)) (kind_from r.0)))
    (cut-front 32 (kind_word k) d (no_space k))
    ∙ ap (option_and_then (λ k. option_map (λ n. (k, n)) (size_from d))) (kind-read k)
    ∙ ap (option_map (λ n. (k, n))) (size-found d n h e)

object-found : (a t : Bytes) (o : Object) → SpellsObject a o → object_from (a ++ t) ≡ Some (o, t)
object-found a t o s =
    ap (λ x. object_from (x ++ t)) s.spelled
    ∙ ap object_from joined
    ∙ ap (option_and_then (λ r. option_and_then (λ h. body_from h r.1) (head_from r.0)))
    (cut-front 10 (kind_word o.kind ++ 32 ∷ s.digits) (o.body ++ 10 ∷ t)
    (no_line_end o.kind s.digits (second_so (nat_le 1 (length s.digits) && nat_le (length s.digits) 20) (list_all is_digit s.digits) s.few)))
    ∙ ap (option_and_then (λ h. body_from h (o.body ++ 10 ∷ t))) (head-found o.kind s.digits (length o.body) s.few s.size)
    ∙ body-read o.kind o.body t
  where
    joined : (kind_word o.kind ++ 32 ∷ (s.digits ++ 10 ∷ (o.body ++ 10 ∷ []))) ++ t ≡ (kind_word o.kind ++ 32 ∷ s.digits) ++ 10 ∷ (o.body ++ 10 ∷ t)
    joined = simp append_assoc

word-is : (t : Bytes) (j k : Kind) (o : Option Kind) → (o ≡ Some k → kind_word k ≡ t) → cond (same_bytes t (kind_word j)) (Some j) o ≡ Some k →
    kind_word k ≡ t
word-is t j k o later e = by (same_bytes t (kind_word j)) refl e
  where
    by : (b : Bool) → same_bytes t (kind_word j) ≡ b → cond b (Some j) o ≡ Some k → kind_word k ≡ t
    by true h g = sym (ap kind_word (same_Some j k g)) ∙ sym ((bytes_decides t (kind_word j)).0 h)
    by false h g = later g

kind-spelled : (t : Bytes) (k : Kind) → kind_from t ≡ Some k → kind_word k ≡ t
kind-spelled t k e =
    word-is t Blob k (cond (same_bytes t (kind_word Tree)) (Some Tree) (cond (same_bytes t (kind_word CommitKind)) (Some CommitKind) None))
    (word-is t Tree k (cond (same_bytes t (kind_word CommitKind)) (Some CommitKind) None)
    (word-is t CommitKind k None (λ g. absurd (none-some k g)))) e

record IsHead (t : Bytes) (h : Kind × ℕ) : Type 0 where
  digits : Bytes
  few : is_number 20 digits ≡ true
  value : number_from 0 digits ≡ h.1
  spelled : t ≡ kind_word h.0 ++ 32 ∷ digits

head-spelled : (t : Bytes) (h : Kind × ℕ) → head_from t ≡ Some h → IsHead t h
head-spelled t h e =
    let r = then_some (λ r. option_and_then (λ k. option_map (λ n. (k, n)) (size_from r.1)) (kind_from r.0)) (cut_at 32 t) h e in
    let k = then_some (λ k. option_map (λ n. (k, n)) (size_from r.0.1)) (kind_from r.0.0) h r.2 in
    let n = map_some (λ n. (k.0, n)) (size_from r.0.1) h k.2 in
    let d = cond_some (is_number 20 r.0.1) (number_from 0 r.0.1) n.0 n.1 in
    record {
      digits = r.0.1;
      few = d.0;
      value = d.1 ∙ ap (λ (x : Kind × ℕ). x.1) n.2;
      spelled =
          cut-spelled 32 t r.0.0 r.0.1 r.1
          ∙ ap (λ x. x ++ 32 ∷ r.0.1) (sym (kind-spelled r.0.0 k.0 k.1))
          ∙ ap (λ (x : Kind × ℕ). kind_word x.0 ++ 32 ∷ r.0.1) n.2;
    }

if_some : {A : Type 0} (b : Bool) (x : Option A) (y : A) → (if b then x else None) ≡ Some y → (b ≡ true) × (x ≡ Some y)
if_some true x y e = (refl, e)
if_some false x y e = absurd (none-some y e)

record IsBody (h : Kind × ℕ) (t : Bytes) (o : Object) (r : Bytes) : Type 0 where
  kind : h.0 ≡ o.kind
  size : h.1 ≡ length o.body
  parted : t ≡ o.body ++ 10 ∷ r

body-spelled : (h : Kind × ℕ) (t : Bytes) (o : Object) (r : Bytes) → body_from h t ≡ Some (o, r) → IsBody h t o r
body-spelled h t o r e =
    let i = if_some (nat_le h.1 (length t)) (option_map (λ z. (record { kind = h.0; body = take h.1 t }, z)) (strip (10 ∷ []) (drop h.1 t))) (o, r) e in
    let s = map_some (λ z. (record { kind = h.0; body = take h.1 t }, z)) (strip (10 ∷ []) (drop h.1 t)) (o, r) i.1 in
    let same : record { kind = h.0; body = take h.1 t } ≡ o = ap (λ (x : Object × Bytes). x.0) s.2 in
    let bodies : take h.1 t ≡ o.body = ap (λ (x : Object). x.body) same in
    let rests : s.0 ≡ r = ap (λ (x : Object × Bytes). x.1) s.2 in
    record {
      kind = ap (λ (x : Object). x.kind) same;
      size = sym (length-take-le h.1 t (fits h.1 (length t) i.0)) ∙ ap length bodies;
      parted = sym (take-append-drop h.1 t) ∙ (λ j. bodies j ++ strip-spelled (10 ∷ []) (drop h.1 t) s.0 s.1 j) ∙ ap (λ x. o.body ++ 10 ∷ x) rests;
    }
  where
    fits : (m n : ℕ) → nat_le m n ≡ true → m ≤ n
    fits m n h = grind (arith, nat_tests)

pub object-spelled : (t : Bytes) (o : Object) (r : Bytes) → object_from t ≡ Some (o, r) → (a : Bytes) × (t ≡ a ++ r) × SpellsObject a o
object-spelled t o r e =
    let l = then_some (λ l. option_and_then (λ h. body_from h l.1) (head_from l.0)) (cut_at 10 t) (o, r) e in
    let m = then_some (λ h. body_from h l.0.1) (head_from l.0.0) (o, r) l.2 in
    let h = head-spelled l.0.0 m.0 m.1 in
    let b = body-spelled m.0 l.0.1 o r m.2 in (
      kind_word o.kind ++ 32 ∷ (h.digits ++ 10 ∷ (o.body ++ 10 ∷ [])),
      cut-spelled 10 t l.0.0 l.0.1 l.1
          ∙ (λ i. h.spelled i ++ 10 ∷ b.parted i)
          ∙ ap (λ k. (kind_word k ++ 32 ∷ h.digits) ++ 10 ∷ (o.body ++ 10 ∷ r)) b.kind
          ∙ joined h.digits,
      record { digits = h.digits; few = h.few; size = h.value ∙ b.size; spelled = refl },
    )
  where
    joined : (d : Bytes) → (kind_word o.kind ++ 32 ∷ d) ++ 10 ∷ (o.body ++ 10 ∷ r) ≡ (kind_word o.kind ++ 32 ∷ (d ++ 10 ∷ (o.body ++ 10 ∷ []))) ++ r
    joined d = simp append_assoc

-- ---- objects in a row

pub long : (a : Bytes) (o : Object) → SpellsObject a o → 0 < length a
long a o s =
    let e = ap length s.spelled in
    omega (arith, length-append (kind_word o.kind) (32 ∷ (s.digits ++ 10 ∷ (o.body ++ 10 ∷ []))), e)

-- reading one more
next-some : (n size x : ℕ) (t : Bytes) (o : Object) (r : Bytes) → object_from (x ∷ t) ≡ Some (o, r) →
    objects_within (suc n) size (x ∷ t) ≡ (objects_within n size r >>= λ os. Ok (o ∷ os))
next-some n size x t o r e = next-read n size (x ∷ t) o r e

pub next-none : (n size x : ℕ) (t : Bytes) → object_from (x ∷ t) ≡ None → objects_within (suc n) size (x ∷ t) ≡ Err (size - length (x ∷ t))
next-none n size x t e = ap (λ w. or_refuse (size - length (x ∷ t)) w >>= λ p. objects_within n size p.1 >>= λ os. Ok (p.0 ∷ os)) e

abbrev Objects : Type 0
Objects = Result (List Object) ℕ

same_objects : (a b : List Object) → (let x : Objects = Ok a in let y : Objects = Ok b in x ≡ y) → a ≡ b
same_objects a b e = cc

not_both : (a : List Object) (n : ℕ) → (let x : Objects = Err n in let y : Objects = Ok a in x ≡ y) → ⊥
not_both a n e = cc

same_place : (m n : ℕ) → (let x : Objects = Err m in let y : Objects = Err n in x ≡ y) → m ≡ n
same_place m n e = cc

more-ok : (z : Objects) (o : Object) (os : List Object) → (z >>= λ ps. Ok (o ∷ ps)) ≡ Ok os → (ps : List Object) × (z ≡ Ok ps) × (o ∷ ps ≡ os)
more-ok (Ok ps) o os e = (ps, refl, same_objects (o ∷ ps) os e)
more-ok (Err n) o os e = absurd (not_both os n e)

more-err : (z : Objects) (o : Object) (at : ℕ) → (z >>= λ ps. Ok (o ∷ ps)) ≡ Err at → z ≡ Err at
more-err (Ok ps) o at e = absurd (not_both (o ∷ ps) at (sym e))
more-err (Err n) o at e = ap (λ m. Err m) (same_place n at e)

within-spelled : (n size : ℕ) (t : Bytes) (os : List Object) → objects_within n size t ≡ Ok os → SpellsObjects t os
within-spelled n size [] os e = by (same_objects [] os (sym (nothing-read n size) ∙ e))
  where
    by : [] ≡ os → SpellsObjects [] os
    by i = subst (SpellsObjects []) i refl
within-spelled zero size (x ∷ t) os e = absurd (not_both os (size - length (x ∷ t)) e)
within-spelled (suc n) size (x ∷ t) os e = by (λ r ps. within-spelled n size r ps) (object_from (x ∷ t)) refl
  where
    by : ((r : Bytes) (ps : List Object) → objects_within n size r ≡ Ok ps → SpellsObjects r ps) → (w : Option (Object × Bytes)) →
        object_from (x ∷ t) ≡ w → SpellsObjects (x ∷ t) os
    by rec None i = absurd (not_both os (size - length (x ∷ t)) (sym (next-none n size x t i) ∙ e))
    by rec (Some (o, r)) i =
        let m = more-ok (objects_within n size r) o os (sym (next-some n size x t o r i) ∙ e) in
        let s = object-spelled (x ∷ t) o r i in
        subst (SpellsObjects (x ∷ t)) m.2 (s.0, r, s.1, s.2, rec r m.0 m.1)

within-found : (os : List Object) (n size : ℕ) (t : Bytes) → SpellsObjects t os → length t ≤ n → objects_within n size t ≡ Ok os
within-found [] n size t e l = ap (objects_within n size) e ∙ nothing-read n size
within-found (o ∷ os) zero size t (a, b, e, s, h) l = absurd (omega (arith, long a o s, ap length e, length-append a b))
within-found (o ∷ os) (suc n) size t (a, b, e, s, h) l =
    next-read n size t o b (ap object_from e ∙ object-found a b o s)
    ∙ ap (λ z. z >>= λ ps. Ok (o ∷ ps)) (within-found os n size b h (omega (arith, long a o s, ap length e, length-append a b)))

-- where reading stops
record IsStopped (t : Bytes) (size at : ℕ) : Type 0 where
  front : Bytes
  rest : Bytes
  before : List Object
  parted : t ≡ front ++ rest
  place : at ≡ size - length rest
  whole : SpellsObjects front before
  some : rest ≡ [] → ⊥
  none : HasNone rest

-- reading stops later where one more object stands in front
stopped-behind : (t a r : Bytes) (o : Object) (size at : ℕ) → t ≡ a ++ r → SpellsObject a o → IsStopped r size at → IsStopped t size at
stopped-behind t a r o size at e s later = record {
  front = a ++ later.front;
  rest = later.rest;
  before = o ∷ later.before;
  parted = e ∙ ap (λ y. a ++ y) later.parted ∙ sym (append_assoc a later.front later.rest);
  place = later.place;
  whole = (a, later.front, refl, s, later.whole);
  some = later.some;
  none = later.none;
}

within-refused : (n size : ℕ) (t : Bytes) (at : ℕ) → length t ≤ n → objects_within n size t ≡ Err at → IsStopped t size at
within-refused n size [] at l e = absurd (not_both [] at (sym e ∙ nothing-read n size))
within-refused zero size (x ∷ t) at l e = absurd (omega arith)
within-refused (suc n) size (x ∷ t) at l e = by (λ r k. within-refused n size r at k) (object_from (x ∷ t)) refl
  where
    by : ((r : Bytes) → length r ≤ n → objects_within n size r ≡ Err at → IsStopped r size at) → (w : Option (Object × Bytes)) →
        object_from (x ∷ t) ≡ w → IsStopped (x ∷ t) size at
    by rec None i = record {
      front = [];
      rest = x ∷ t;
      before = [];
      parted = refl;
      place = sym (same_place (size - length (x ∷ t)) at (sym (next-none n size x t i) ∙ e));
      whole = refl;
      some = λ z. cc;
      none = λ a b o k s. none-some (o, b) (sym i ∙ ap object_from k ∙ object-found a b o s);
    }
    by rec (Some (o, r)) i =
        let s = object-spelled (x ∷ t) o r i in
        stopped-behind (x ∷ t) s.0 r o size at s.1 s.2
        (rec r (omega (arith, long s.0 o s.2, ap length s.1, length-append s.0 r))
        (more-err (objects_within n size r) o at (sym (next-some n size x t o r i) ∙ e)))

-- ---- whole texts

-- by what stands behind the first line
abbrev behind_line : Bytes → Option Bytes → Objects
behind_line t w = or_refuse 0 w >>= λ rest. objects_within (length t) (length t) rest

no_longer : (rest : Bytes) → length rest ≤ length (first_line ++ rest)
no_longer rest = omega (arith, length-append first_line rest)

spelled : (t : Bytes) (os : List Object) → objects t ≡ Ok os → SpellsCertificate t os
spelled t os e = by (strip first_line t) refl e
  where
    by : (w : Option Bytes) → strip first_line t ≡ w → behind_line t w ≡ Ok os → SpellsCertificate t os
    by None i g = absurd (not_both os 0 g)
    by (Some rest) i g = record { rest = rest; begins = strip-spelled first_line t rest i; spelled = within-spelled (length t) (length t) rest os g }

read : (t : Bytes) (os : List Object) → SpellsCertificate t os → objects t ≡ Ok os
read t os s =
    ap (behind_line t) (ap (strip first_line) s.begins ∙ strip-read first_line s.rest)
    ∙ within-found os (length t) (length t) s.rest s.spelled (omega (arith, ap length s.begins, no_longer s.rest))

broken-behind : (t rest : Bytes) (at : ℕ) → t ≡ first_line ++ rest → IsStopped rest (length t) at → IsBroken t at
broken-behind t rest at begins s = record {
  front = first_line ++ s.front;
  rest = s.rest;
  before = s.before;
  parted = begins ∙ ap (λ x. first_line ++ x) s.parted ∙ sym (append_assoc first_line s.front s.rest);
  place =
      omega (
        arith,
        s.place,
        ap length begins,
        ap length s.parted,
        length-append first_line rest,
        length-append s.front s.rest,
        length-append first_line s.front,
      );
  whole = record { rest = s.front; begins = refl; spelled = s.whole };
  some = s.some;
  none = s.none;
}

refused : (t : Bytes) (at : ℕ) → objects t ≡ Err at → IsRefused t at
refused t at e = by (strip first_line t) refl e
  where
    by : (w : Option Bytes) → strip first_line t ≡ w → behind_line t w ≡ Err at → IsRefused t at
    by None i g = inl ((λ rest k. none-some rest (sym i ∙ ap (strip first_line) k ∙ strip-read first_line rest)), sym (same_place 0 at g))
    by (Some rest) i g =
        let begins = strip-spelled first_line t rest i in
        inr (broken-behind t rest at begins (within-refused (length t) (length t) rest at (omega (arith, ap length begins, no_longer rest)) g))

pub syntax-law : SyntaxLaw
syntax-law = record { spelled = spelled; read = read; refused = refused }

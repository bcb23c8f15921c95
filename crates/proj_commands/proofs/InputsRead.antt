-- An input that is read whole, or isn't.
use Rattle.std.proofs.Common.{◌≡◌, ◌≢◌, inl, inr, ◌^◌, ◌++◌, ◌≤◌, ◌<◌, ℕ, zero, suc, Bool, true, false, true≢false, List, [], ◌∷◌, take, length, length-append, Option, None, Some, Result, Ok, Err, IfErr, IfOk, IfSome, refl, sym, ap, subst, ◌∙◌, arith}
use Rattle.std.specs.Prelude.{◌↔◌, IsTrue, unwrap_or}
use Rattle.git_objects.specs.Paths.{Bytes}
use Rattle.git_objects.specs.declared.quantity.Quantity.TheVariants as limits
use Rattle.proj_words.specs.declared.outcome.Outcome.{Outcome}
use Rattle.proj_words.specs.declared.outcome.Outcome.TheVariants.{Limit, OutOfMemory, ReadFault, WriteFault, StoreFault}
use Rattle.proj_commands.specs.Cases.{is_verdict}
use Rattle.proj_commands.specs.Inputs.{IsUnread, ForInput}

-- a list of no more than that is its own front
pub take-all : {A : Type 0} (n : ℕ) (l : List A) → length l ≤ n → take n l ≡ l
take-all zero [] le = refl
take-all (suc n) [] le = refl
take-all zero (x ∷ l) le = absurd (omega (arith, le))
take-all {A = A} (suc n) (x ∷ l) le = let less : length l ≤ n = omega (arith, le) in ap (λ (t : List A). x ∷ t) (take-all n l less)

-- ---- what is said of an input

pub told-input : (left : Option Bytes) → IfSome left (λ l. unwrap_or left [] ≡ l)
told-input None = tt
told-input (Some l) = refl

-- what holds of every input
pub for-any : (left : Option Bytes) (Says : Bytes → Type 0) → ((all : Bytes) → Says all) → ForInput left Says
for-any left Says h = record { all = unwrap_or left []; told = told-input left; says = h (unwrap_or left []) }

-- the input that a source told, or else this one
module _ (left : Option Bytes) (Says : Bytes → Type 0) where
  pub for-told : (other : Bytes) → ((all : Bytes) → left ≡ Some all → Says all) → (left ≡ None → Says other) → ForInput left Says
  for-told other f g = by left refl
    where
      by : (x : Option Bytes) → left ≡ x → ForInput left Says
      by None e = record { all = other; told = subst (λ (x : Option Bytes). IfSome x (λ l. other ≡ l)) (sym e) tt; says = g e }
      by (Some all) e = record { all = all; told = subst (λ (x : Option Bytes). IfSome x (λ l. all ≡ l)) (sym e) refl; says = f all e }

-- what was read is the input, where there is no more of it
pub read-whole : (left : Option Bytes) (bytes : Bytes) (more : Bool) (limit : ℕ) → more ≡ false → IfSome left (λ all. bytes ≡ take limit all) → IfSome left (λ all. IsTrue more ↔ (limit < length all))
    → IfSome left (λ l. bytes ≡ l)
read-whole None bytes more limit none front long = tt
read-whole (Some all) bytes more limit none front long = front ∙ take-all limit all (no-longer (λ lt. true≢false (sym (long.1 lt) ∙ none)))
  where
    no-longer : ¬ (limit < length all) → length all ≤ limit
    no-longer apart = omega (arith, apart)

-- and where there is more, it is longer than that; one that isn't told may be what was read and one byte more
pub read-longer : (left : Option Bytes) (bytes : Bytes) (more : Bool) (limit : ℕ) → more ≡ true → IfSome left (λ all. IsTrue more ↔ (limit < length all)) → length bytes ≡ limit
    → ForInput left (λ all. limit < length all)
read-longer left bytes more limit is long full =
    for-told left (λ all. limit < length all) (bytes ++ 0 ∷ []) (λ all told. (subst (λ (x : Option Bytes). IfSome x (λ all. IsTrue more ↔ (limit < length all))) told long).0 is)
    (λ none. let n = length-append bytes (0 ∷ []) in omega (arith, n, full))

-- ---- what was read whole, or not

module _ (left : Option Bytes) (taken : Bytes) (more : Bool) (limit : ℕ) (result : Result Bytes Outcome) where
  pub input-ok : IfOk result (λ bytes. (more ≡ false) × (bytes ≡ taken)) → IfSome left (λ all. taken ≡ take limit all) → IfSome left (λ all. IsTrue more ↔ (limit < length all))
      → IfOk result (λ bytes. IfSome left (λ all. bytes ≡ all))
  input-ok = by result
    where
      by : (r : Result Bytes Outcome) → IfOk r (λ bytes. (more ≡ false) × (bytes ≡ taken)) → IfSome left (λ all. taken ≡ take limit all) → IfSome left (λ all. IsTrue more ↔ (limit < length all))
          → IfOk r (λ bytes. IfSome left (λ all. bytes ≡ all))
      by (Ok bytes) w front long = subst (λ (b : Bytes). IfSome left (λ all. b ≡ all)) (sym w.1) (read-whole left taken more limit w.0 front long)
      by (Err e) w front long = tt

  pub input-err : limit ≡ 2 ^ 29 → IfErr result (λ e. (more ≡ true) × (e ≡ Limit limits.Input None)) → IfSome left (λ all. IsTrue more ↔ (limit < length all)) → (IsTrue more → length taken ≡ limit)
      → IfErr result (IsUnread left)
  input-err same = by result
    where
      by : (r : Result Bytes Outcome) → IfErr r (λ e. (more ≡ true) × (e ≡ Limit limits.Input None)) → IfSome left (λ all. IsTrue more ↔ (limit < length all)) → (IsTrue more → length taken ≡ limit) → IfErr r (IsUnread left)
      by (Ok bytes) w long full = tt
      by (Err e) w long full = inr (inr (w.1, subst (λ (n : ℕ). ForInput left (λ all. n < length all)) same (read-longer left taken more limit w.0 long (full w.0))))

-- ---- an input that isn't read is at no fault of the output or the store

pub unread-store : (left : Option Bytes) (e : Outcome) → IsUnread left e → e ≢ StoreFault
unread-store left e (inl m) f = let no : OutOfMemory ≡ StoreFault = sym m ∙ f in cc
unread-store left e (inr (inl r)) f = let no : ReadFault ≡ StoreFault = sym r ∙ f in cc
unread-store left e (inr (inr (l, w))) f = let no : Limit limits.Input None ≡ StoreFault = sym l ∙ f in cc

pub unread-write : (left : Option Bytes) (e : Outcome) → IsUnread left e → e ≢ WriteFault
unread-write left e (inl m) f = let no : OutOfMemory ≡ WriteFault = sym m ∙ f in cc
unread-write left e (inr (inl r)) f = let no : ReadFault ≡ WriteFault = sym r ∙ f in cc
unread-write left e (inr (inr (l, w))) f = let no : Limit limits.Input None ≡ WriteFault = sym l ∙ f in cc

pub unread-other : (left : Option Bytes) (e : Outcome) → IsUnread left e → is_verdict e ≡ false
unread-other left e (inl m) = ap is_verdict m
unread-other left e (inr (inl r)) = ap is_verdict r
unread-other left e (inr (inr (l, w))) = ap is_verdict l

-- What is written as a certificate is read again.
use Rattle.std.proofs.Common.{◌≡◌, ℕ, zero, suc, ◌+◌, ◌-◌, ◌*◌, ◌/◌, ◌%◌, ◌^◌, ◌<◌, ◌≤◌, true, not, List, [], ◌∷◌, ◌++◌, length, take, drop, refl, ap, ◌∙◌, Some, None, arith, append_assoc, nat_eq, length-append}
use Rattle.std.specs.Prelude.{Ok, if◌then◌else◌, decimal, nat_le}
use Rattle.std.specs.Option.{option_map, option_and_then}
use Rattle.std.specs.List.{list_all, flat_map}
use Rattle.std.specs.Cmp.{first_so, second_so}
use Rattle.std.proofs.lemmas.Bool.Decides.{nat_tests}
use Rattle.std.proofs.lemmas.Fmt.{decimal_by_steps, length-decimal-le, decimal_nonempty}
use Rattle.git_objects.specs.Paths.{Bytes}
use Rattle.git_objects.specs.Names.{kind_word}
use Rattle.git_objects.specs.Idents.{is_digit}
use Rattle.git_objects.specs.CommitBodies.{strip}
use Rattle.git_objects.specs.declared.kind.Kind.{Kind}
use Rattle.git_objects.specs.declared.kind.Kind.TheVariants.{Blob, Tree, Commit as CommitKind}
use Rattle.git_objects.proofs.Basics.{and_both}
use Rattle.git_objects.specs.Lists.{Each}
use Rattle.git_objects.proofs.CommitReading.{strip-read}
use Rattle.git_objects.proofs.IdentSpelling.{avoids, avoids-from, cut-front}
use Rattle.git_objects.proofs.Spellings.{number-within}
use Rattle.object_store.specs.Objects.{Object}
use Rattle.git_objects.specs.Results.{◌>>=◌, or_refuse}
use Rattle.proj_audit.specs.Texts.{first_line, object_text, certificate, kind_from, number_from, size_from, head_from, body_from, object_from, objects_within, objects}

-- ---- sizes

number-last : (m : ℕ) (ds : Bytes) (d : ℕ) → number_from m (ds ++ d ∷ []) ≡ 10 * number_from m ds + (d - 48)
number-last m [] d = refl
number-last m (x ∷ ds) d = number-last (10 * m + (x - 48)) ds d

digits-last : (ds : Bytes) (d : ℕ) → list_all is_digit ds ≡ true → is_digit d ≡ true → list_all is_digit (ds ++ d ∷ []) ≡ true
digits-last [] d h g = and_both g refl
digits-last (x ∷ ds) d h g = and_both (first_so _ _ h) (digits-last ds d (second_so _ _ h) g)

digit : (n : ℕ) → n < 10 → is_digit (48 + n) ≡ true
digit n h = and_both (le_true 48 (48 + n) (omega arith)) (le_true (48 + n) 57 (omega arith))
  where
    le_true : (a b : ℕ) → a ≤ b → nat_le a b ≡ true
    le_true a b h = grind (arith, nat_tests)

record IsSpelled (n : ℕ) (ds : Bytes) : Type 0 where
  digits : list_all is_digit ds ≡ true
  value : number_from 0 ds ≡ n

decimal-spelled : (n : ℕ) → n < 2 ^ 64 → IsSpelled n (decimal n)
decimal-spelled = decimal_by_steps IsSpelled
    (λ n h. record { digits = and_both (digit n h) refl; value = one n })
    (λ n ds h p. record {
      digits = digits-last ds (48 + n % 10) p.digits (digit (n % 10) (omega arith));
      value = number-last 0 ds (48 + n % 10) ∙ more n (number_from 0 ds) p.value;
    })
  where
    one : (n : ℕ) → 10 * 0 + (48 + n - 48) ≡ n
    one n = omega arith

    more : (n m : ℕ) → m ≡ n / 10 → 10 * m + (48 + n % 10 - 48) ≡ n
    more n m e = omega arith

size-read : (n : ℕ) → n < 2 ^ 64 → size_from (decimal n) ≡ Some n
size-read n h =
    let p = decimal-spelled n h in
    ap (λ b. if b then Some (number_from 0 (decimal n)) else None)
    (number-within 20 (decimal n) (decimal_nonempty n h) (length-decimal-le 20 n (omega arith) (omega arith) h) ∙ p.digits)
    ∙ ap (λ m. Some m) p.value

-- ---- lines

digit-10 : (x : ℕ) → is_digit x ≡ true → not (nat_eq x 10) ≡ true
digit-10 x h = grind (arith, nat_tests)

pub no_line_end : (k : Kind) (ds : Bytes) → list_all is_digit ds ≡ true → avoids 10 (kind_word k ++ 32 ∷ ds) ≡ true
no_line_end Blob ds h = avoids-from 10 is_digit digit-10 ds h
no_line_end Tree ds h = avoids-from 10 is_digit digit-10 ds h
no_line_end CommitKind ds h = avoids-from 10 is_digit digit-10 ds h

pub no_space : (k : Kind) → avoids 32 (kind_word k) ≡ true
no_space Blob = refl
no_space Tree = refl
no_space CommitKind = refl

pub kind-read : (k : Kind) → kind_from (kind_word k) ≡ Some k
kind-read Blob = refl
kind-read Tree = refl
kind-read CommitKind = refl

head-read : (k : Kind) (n : ℕ) → n < 2 ^ 64 → head_from (kind_word k ++ 32 ∷ decimal n) ≡ Some (k, n)
head-read k n h =
    ap (option_and_then (λ r. option_and_then (λ k. option_map (λ n. (k, n)) (size_from r.1)) (kind_from r.0)))
    (cut-front 32 (kind_word k) (decimal n) (no_space k))
    ∙ ap (option_and_then (λ k. option_map (λ n. (k, n)) (size_from (decimal n)))) (kind-read k)
    ∙ ap (option_map (λ n. (k, n))) (size-read n h)

-- ---- bodies

take-front : (b t : Bytes) → take (length b) (b ++ t) ≡ b
take-front [] t = refl
take-front (x ∷ b) t = ap (λ (c : Bytes). x ∷ c) (take-front b t)

drop-front : (b t : Bytes) → drop (length b) (b ++ t) ≡ t
drop-front [] t = refl
drop-front (x ∷ b) t = drop-front b t

front_fits : (b t : Bytes) → nat_le (length b) (length (b ++ t)) ≡ true
front_fits b t = le_true (length b) (length (b ++ t)) (omega (arith, length-append b t))
  where
    le_true : (m n : ℕ) → m ≤ n → nat_le m n ≡ true
    le_true m n h = grind (arith, nat_tests)

pub body-read : (k : Kind) (b t : Bytes) → body_from (k, length b) (b ++ 10 ∷ t) ≡ Some (record { kind = k; body = b }, t)
body-read k b t =
    ap (λ v. if v then option_map (λ r. (record { kind = k; body = take (length b) (b ++ 10 ∷ t) }, r))
    (strip (10 ∷ []) (drop (length b) (b ++ 10 ∷ t))) else None) (front_fits b (10 ∷ t))
    ∙ (λ i. option_map (λ r. (record { kind = k; body = take-front b (10 ∷ t) i }, r)) (strip (10 ∷ []) (drop-front b (10 ∷ t) i)))

-- ---- objects

object-read : (o : Object) (t : Bytes) → length o.body < 2 ^ 64 → object_from (object_text o ++ t) ≡ Some (o, t)
object-read o t h =
    ap object_from spelled
    ∙ ap (option_and_then (λ r. option_and_then (λ h. body_from h r.1) (head_from r.0)))
    (cut-front 10 (kind_word o.kind ++ 32 ∷ decimal (length o.body)) (o.body ++ 10 ∷ t)
    (no_line_end o.kind (decimal (length o.body)) (decimal-spelled (length o.body) h).digits))
    ∙ ap (option_and_then (λ h. body_from h (o.body ++ 10 ∷ t))) (head-read o.kind (length o.body) h)
    ∙ body-read o.kind o.body t
  where
    spelled : object_text o ++ t ≡ (kind_word o.kind ++ 32 ∷ decimal (length o.body)) ++ 10 ∷ (o.body ++ 10 ∷ t)
    spelled = simp append_assoc

pub next-read : (n size : ℕ) (t : Bytes) (o : Object) (r : Bytes) → object_from t ≡ Some (o, r) →
    objects_within (suc n) size t ≡ (objects_within n size r >>= λ os. Ok (o ∷ os))
next-read n size [] o r e = cc
next-read n size (x ∷ t) o r e = ap (λ w. or_refuse (size - length (x ∷ t)) w >>= λ p. objects_within n size p.1 >>= λ os. Ok (p.0 ∷ os)) e

pub nothing-read : (n size : ℕ) → objects_within n size [] ≡ Ok []
nothing-read zero size = refl
nothing-read (suc n) size = refl

abbrev pub AreSmall : List Object → Type 0
AreSmall os = Each (λ o. length o.body < 2 ^ 64) os

text_long : (o : Object) → length o.body < length (object_text o)
text_long o =
    let digits = decimal (length o.body) in
    let line = length-append (kind_word o.kind) (32 ∷ (digits ++ 10 ∷ (o.body ++ 10 ∷ []))) in
    let size = length-append digits (10 ∷ (o.body ++ 10 ∷ [])) in
    omega (arith, line, size, length-append o.body (10 ∷ []))

within-read : (os : List Object) (n size : ℕ) → AreSmall os → length (flat_map object_text os) ≤ n →
    objects_within n size (flat_map object_text os) ≡ Ok os
within-read [] n size h l = nothing-read n size
within-read (o ∷ os) zero size h l = absurd (omega (arith, text_long o, length-append (object_text o) (flat_map object_text os)))
within-read (o ∷ os) (suc n) size h l =
    next-read n size (object_text o ++ flat_map object_text os) o (flat_map object_text os) (object-read o (flat_map object_text os) h.0)
    ∙ ap (λ z. z >>= λ ps. Ok (o ∷ ps)) (within-read os n size h.1 (omega (arith, text_long o, length-append (object_text o) (flat_map object_text os))))

small : (os : List Object) → length (flat_map object_text os) < 2 ^ 64 → AreSmall os
small [] h = tt
small (o ∷ os) h =
    let longer = length-append (object_text o) (flat_map object_text os) in
    (omega (arith, text_long o, longer), small os (omega (arith, longer)))

pub certificate-read : (os : List Object) → length (certificate os) < 2 ^ 64 → objects (certificate os) ≡ Ok os
certificate-read os h =
    ap (λ w. or_refuse 0 w >>= λ rest. objects_within (length (certificate os)) (length (certificate os)) rest)
    (strip-read first_line (flat_map object_text os))
    ∙ within-read os (length (certificate os)) (length (certificate os)) (small os (omega (arith, longer))) (omega (arith, longer))
  where
    longer : length (certificate os) ≡ length first_line + length (flat_map object_text os)
    longer = length-append first_line (flat_map object_text os)

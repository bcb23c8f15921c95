-- The test of idents and the relation that says how an ident is spelled tell the same texts.
use Rattle.std.proofs.Common.{◌≡◌, ℕ, Bool, true, false, cond, not, ◌&&◌, [], ◌∷◌, ◌++◌, Option, Some, None, refl, sym, ap, ◌∙◌, true≢false, nat_eq, arith}
use Rattle.std.specs.Option.{option_map, option_map_or}
use Rattle.std.specs.List.{list_all}
use Rattle.std.specs.Cmp.{first_so, second_so}
use Rattle.std.proofs.lemmas.Bool.Decides.{nat_tests}
use Rattle.git_objects.specs.Paths.{Bytes}
use Rattle.git_objects.specs.Idents.{is_ident, is_ident_name, is_ident_rest, is_ident_end, is_time, is_offset, is_quiet, is_number, is_digit, is_sign, cut_at, IsIdent}
use Rattle.git_objects.specs.Laws.{IdentLaw}
use Rattle.git_objects.proofs.Basics.{and_both}

-- ---- a cut is spelled

pub same_test : (x y : ℕ) → nat_eq x y ≡ true → x ≡ y
same_test x y e = grind (arith, nat_tests)

pub some_same : {A : Type 0} (x y : A) → Some x ≡ Some y → x ≡ y
some_same x y e = cc

first_of : (r s : Bytes × Bytes) → Some r ≡ Some s → r.0 ≡ s.0
first_of r s e = ap (λ (p : Bytes × Bytes). p.0) (some_same r s e)

second_of : (r s : Bytes × Bytes) → Some r ≡ Some s → r.1 ≡ s.1
second_of r s e = ap (λ (p : Bytes × Bytes). p.1) (some_same r s e)

abbrev in_front : ℕ → Option (Bytes × Bytes) → Option (Bytes × Bytes)
in_front x o = option_map (λ r. (x ∷ r.0, r.1)) o

joined_cut : (b x : ℕ) (xs u v : Bytes) (o : Option (Bytes × Bytes)) → ((p q : Bytes) → o ≡ Some (p, q) → xs ≡ p ++ b ∷ q) → in_front x o ≡ Some (u, v) → x ∷ xs ≡ u ++ b ∷ v
joined_cut b x xs u v None h e = cc
joined_cut b x xs u v (Some r) h e =
    let p : x ∷ r.0 ≡ u = first_of (x ∷ r.0, r.1) (u, v) e in
    let q : r.1 ≡ v = second_of (x ∷ r.0, r.1) (u, v) e in
    ap (λ (s : Bytes). x ∷ s) (h r.0 r.1 refl) ∙ (λ i. p i ++ b ∷ q i)

pub cut-spelled : (b : ℕ) (t u v : Bytes) → cut_at b t ≡ Some (u, v) → t ≡ u ++ b ∷ v
cut-spelled b [] u v e = cc
cut-spelled b (x ∷ xs) u v e =
    elim (nat_eq x b) as (λ w. nat_eq x b ≡ w → cond w (Some ([], xs)) (in_front x (cut_at b xs)) ≡ Some (u, v) → x ∷ xs ≡ u ++ b ∷ v) [
      | true ↦ λ s f.
          let p : [] ≡ u = first_of ([], xs) (u, v) f in
          let q : xs ≡ v = second_of ([], xs) (u, v) f in
          let z : x ≡ b = same_test x b s in
          (λ i. z i ∷ xs) ∙ (λ i. p i ++ b ∷ q i)
      | false ↦ λ s f. joined_cut b x xs u v (cut_at b xs) (cut-spelled b xs) f
    ] refl e

-- ---- what has no such byte is cut where it ends

abbrev pub avoids : ℕ → Bytes → Bool
avoids b u = list_all (λ x. not (nat_eq x b)) u

pub not-false : (c : Bool) → not c ≡ true → c ≡ false
not-false true e = absurd (true≢false (sym e))
not-false false e = refl

pub cut-front : (b : ℕ) (u v : Bytes) → avoids b u ≡ true → cut_at b (u ++ b ∷ v) ≡ Some (u, v)
cut-front b [] v h = let e : nat_eq b b ≡ true = grind (arith, nat_tests) in ap (λ w. cond w (Some ([], v)) (in_front b (cut_at b v))) e
cut-front b (x ∷ u) v h =
    ap (λ w. cond w (Some ([], u ++ b ∷ v)) (in_front x (cut_at b (u ++ b ∷ v)))) (not-false (nat_eq x b) (first_so _ _ h))
    ∙ ap (in_front x) (cut-front b u v (second_so _ _ h))

pub cut-avoids : (b : ℕ) (t u v : Bytes) → cut_at b t ≡ Some (u, v) → avoids b u ≡ true
cut-avoids b [] u v e = cc
cut-avoids b (x ∷ xs) u v e =
    elim (nat_eq x b) as (λ w. nat_eq x b ≡ w → cond w (Some ([], xs)) (in_front x (cut_at b xs)) ≡ Some (u, v) → avoids b u ≡ true) [
      | true ↦ λ s f. ap (avoids b) (sym (first_of ([], xs) (u, v) f))
      | false ↦ λ s f. avoided (cut_at b xs) (cut-avoids b xs) (ap not s) f
    ] refl e
  where
    avoided : (o : Option (Bytes × Bytes)) → ((p q : Bytes) → o ≡ Some (p, q) → avoids b p ≡ true) → not (nat_eq x b) ≡ true → in_front x o ≡ Some (u, v) → avoids b u ≡ true
    avoided None h s f = cc
    avoided (Some r) h s f = ap (avoids b) (sym (first_of (x ∷ r.0, r.1) (u, v) f)) ∙ and_both s (h r.0 r.1 refl)

pub avoids-from : (b : ℕ) (p : ℕ → Bool) → ((x : ℕ) → p x ≡ true → not (nat_eq x b) ≡ true) → (u : Bytes) → list_all p u ≡ true → avoids b u ≡ true
avoids-from b p h [] e = refl
avoids-from b p h (x ∷ u) e = and_both (h x (first_so _ _ e)) (avoids-from b p h u (second_so _ _ e))

abbrev pub quiet_byte : ℕ → Bool
quiet_byte x = not (nat_eq x 60) && not (nat_eq x 62) && not (nat_eq x 10) && not (nat_eq x 0)

pub quiet-60 : (u : Bytes) → is_quiet u ≡ true → avoids 60 u ≡ true
quiet-60 u e = avoids-from 60 quiet_byte (λ x h. first_so _ _ (first_so _ _ (first_so _ _ h))) u e

quiet-62 : (u : Bytes) → is_quiet u ≡ true → avoids 62 u ≡ true
quiet-62 u e = avoids-from 62 quiet_byte (λ x h. second_so _ _ (first_so _ _ (first_so _ _ h))) u e

digit-32 : (x : ℕ) → is_digit x ≡ true → not (nat_eq x 32) ≡ true
digit-32 x h = grind (arith, nat_tests)

pub digits-32 : (most : ℕ) (u : Bytes) → is_number most u ≡ true → avoids 32 u ≡ true
digits-32 most u e = avoids-from 32 is_digit digit-32 u (second_so _ _ e)

-- ---- from the test

some_of : {A : Type 0} (f : A → Bool) (o : Option A) → option_map_or f o false ≡ true → (r : A) × (o ≡ Some r) × (f r ≡ true)
some_of f None e = absurd (true≢false (sym e))
some_of f (Some r) e = (r, refl, e)

end_of : (t : Bytes) → is_ident_end t ≡ true → (r : Bytes) × (t ≡ 32 ∷ r) × (is_time r ≡ true)
end_of [] e = absurd (true≢false (sym e))
end_of (x ∷ t) e = (t, (λ i. same_test x 32 (first_so _ _ e) i ∷ t), second_so _ _ e)

offset_of : (t : Bytes) → is_offset t ≡ true → (s : ℕ) × (z : Bytes) × (t ≡ s ∷ z) × (is_sign s ≡ true) × (is_number 8 z ≡ true)
offset_of [] e = absurd (true≢false (sym e))
offset_of (s ∷ z) e = (s, z, refl, first_so _ _ e, second_so _ _ e)

spelled : (t : Bytes) → is_ident t ≡ true → IsIdent t
unfolding is_ident
spelled t h =
    let a = some_of (λ (r : Bytes × Bytes). is_ident_name r.0 && is_ident_rest r.1) (cut_at 60 t) h in
    let b = some_of (λ (r : Bytes × Bytes). is_quiet r.0 && is_ident_end r.1) (cut_at 62 a.0.1) (second_so _ _ a.2) in
    let c = end_of b.0.1 (second_so _ _ b.2) in
    let d = some_of (λ (r : Bytes × Bytes). is_number 18 r.0 && is_offset r.1) (cut_at 32 c.0) c.2 in
    let e = offset_of d.0.1 (second_so _ _ d.2) in
    record {
      person = a.0.0;
      email = b.0.0;
      seconds = d.0.0;
      sign = e.0;
      zone = e.1;
      spelled = cut-spelled 60 t a.0.0 a.0.1 a.1
          ∙ ap (λ (s : Bytes). a.0.0 ++ 60 ∷ s) (cut-spelled 62 a.0.1 b.0.0 b.0.1 b.1)
          ∙ ap (λ (s : Bytes). a.0.0 ++ 60 ∷ (b.0.0 ++ 62 ∷ s)) c.1
          ∙ ap (λ (s : Bytes). a.0.0 ++ 60 ∷ (b.0.0 ++ 62 ∷ 32 ∷ s)) (cut-spelled 32 c.0 d.0.0 d.0.1 d.1)
          ∙ ap (λ (s : Bytes). a.0.0 ++ 60 ∷ (b.0.0 ++ 62 ∷ 32 ∷ (d.0.0 ++ 32 ∷ s))) e.2;
      person_fits = first_so _ _ a.2;
      email_fits = first_so _ _ b.2;
      seconds_fit = first_so _ _ d.2;
      sign_fits = e.3;
      zone_fits = e.4;
    }

-- ---- to the test

time-is : (seconds zone : Bytes) (sign : ℕ) → is_number 18 seconds ≡ true → is_sign sign ≡ true → is_number 8 zone ≡ true → is_time (seconds ++ 32 ∷ sign ∷ zone) ≡ true
time-is seconds zone sign h s z =
    ap (λ o. option_map_or (λ (r : Bytes × Bytes). is_number 18 r.0 && is_offset r.1) o false) (cut-front 32 seconds (sign ∷ zone) (digits-32 18 seconds h)) ∙ and_both h (and_both s z)

rest-is : (email time : Bytes) → is_quiet email ≡ true → is_time time ≡ true → is_ident_rest (email ++ 62 ∷ 32 ∷ time) ≡ true
rest-is email time q h =
    ap (λ o. option_map_or (λ (r : Bytes × Bytes). is_quiet r.0 && is_ident_end r.1) o false) (cut-front 62 email (32 ∷ time) (quiet-62 email q)) ∙ and_both q h

told : (t : Bytes) → IsIdent t → is_ident t ≡ true
unfolding is_ident
told t i =
    let rest : Bytes = i.email ++ 62 ∷ 32 ∷ (i.seconds ++ 32 ∷ i.sign ∷ i.zone) in
    ap (λ s. option_map_or (λ (r : Bytes × Bytes). is_ident_name r.0 && is_ident_rest r.1) (cut_at 60 s) false) i.spelled
    ∙ ap (λ o. option_map_or (λ (r : Bytes × Bytes). is_ident_name r.0 && is_ident_rest r.1) o false) (cut-front 60 i.person rest (quiet-60 i.person (first_so _ _ i.person_fits)))
    ∙ and_both i.person_fits (rest-is i.email (i.seconds ++ 32 ∷ i.sign ∷ i.zone) i.email_fits (time-is i.seconds i.zone i.sign i.seconds_fit i.sign_fits i.zone_fits))

pub ident_law : IdentLaw
ident_law t = (spelled t, told t)

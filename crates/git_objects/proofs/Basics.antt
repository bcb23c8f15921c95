-- Small facts that the lemmas share.
use Rattle.std.proofs.Common.{◌≡◌, ℕ, suc, ◌<◌, get_or, Fits, w8, Bool, true, false, not, ◌&&◌, T, List, [], ◌∷◌, ◌++◌, refl, sym, ap, ◌∙◌, true≢false, nat_eq}
use Rattle.std.specs.List.{list_all}
use Rattle.std.specs.Cmp.{first_so}
use Rattle.std.specs.Cmp.Lexicographic.{bytes_decides, nat_list_eq_equiv}
use Rattle.std.proofs.lemmas.Bool.{and_right, lt-ltb}
use Rattle.git_objects.specs.Paths.{Bytes, same_bytes, is_bytes, is_component}

pub and_both : {a b : Bool} → a ≡ true → b ≡ true → (a && b) ≡ true
and_both p q = (λ i. p i && q i)

pub both : (a b : Bool) → T a → T b → T (a && b)
both true b p q = q
both false b p q = p

pub first : (a b : Bool) → T (a && b) → T a
first true b p = tt
first false b p = p

pub second : (a b : Bool) → T (a && b) → T b
second true b p = p
second false b p = absurd p

pub same_bytes-self : (c : Bytes) → same_bytes c c ≡ true
same_bytes-self c = (bytes_decides c c).1 refl

pub same_bytes-back : (c d : Bytes) → same_bytes c d ≡ same_bytes d c
same_bytes-back c d = nat_list_eq_equiv.symm c d

pub list_all-append : {A : Type 0} (p : A → Bool) (xs ys : List A) → T (list_all p xs) → T (list_all p ys) → T (list_all p (xs ++ ys))
list_all-append p [] ys h k = k
list_all-append p (x ∷ xs) ys h k = both _ _ (first _ _ h) (list_all-append p xs ys (second _ _ h) k)

abbrev pub plain : Bytes → Bool
plain c = list_all (λ x. not (nat_eq x 0) && not (nat_eq x 47)) c

pub plain-component : (c : Bytes) → is_component c ≡ true → plain c ≡ true
plain-component c h = first_so _ _ (first_so _ _ (first_so _ _ (first_so _ _ (first_so _ _ h))))

plain-slash : (d : Bytes) → plain (d ++ 47 ∷ []) ≡ false
plain-slash [] = refl
plain-slash (x ∷ d) = and_right _ _ (plain-slash d)

pub no_slash : (c d : Bytes) → is_component c ≡ true → c ≡ d ++ 47 ∷ [] → ⊥
no_slash c d h e = true≢false (sym (plain-component c h) ∙ ap plain e ∙ plain-slash d)

-- a slice of bytes has bytes
pub bytes_fit : (c : Bytes) → ((i : ℕ) → Fits w8 (get_or c i 0)) → is_bytes c ≡ true
bytes_fit [] h = refl
bytes_fit (x ∷ c) h = let f : Fits w8 x = h 0 in let lt : x < 256 = f.fits in and_both (lt-ltb x 256 lt) (bytes_fit c (λ i. h (suc i)))

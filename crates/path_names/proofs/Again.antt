-- What was quoted is read again.
use Rattle.std.proofs.Common.{◌≡◌, ◌+◌, ◌-◌, ◌*◌, ◌/◌, ◌%◌, ◌<◌, ℕ, ltb, zero, suc, true, false, cond, [], ◌∷◌, ◌++◌, length, Option, Some, None, refl, sym, ap, ◌∙◌, arith, eqb, eqb-true, leb, le-leb, subst, append_assoc, length-append}
use Rattle.std.specs.Option.{option_map}
use borrow.Author.Tests.{ltb-true}
use Rattle.std.specs.Cmp.{first_so, second_so}
use Rattle.git_objects.specs.Paths.{Bytes, is_bytes}
use Rattle.path_names.specs.Quoting.{unshort, is_hidden, octal, escape, quoted_byte, quoted_rest, quoted, Plain, Slash, First, Second, Found, passing, adding, letter, unquoted, unquote}

abbrev by : ℕ → ℕ → Found → Found
by x n o = option_map (λ (f : Bytes × ℕ). (x ∷ f.0, f.1 + n)) o

two : (x : ℕ) (o : Found) → passing (adding x o) ≡ by x 2 o
two x None = refl
two x (Some f) = let k : f.1 + 1 + 1 ≡ f.1 + 2 = omega arith in λ d. Some (x ∷ f.0, k d)

four : (x : ℕ) (o : Found) → passing (passing (passing (adding x o))) ≡ by x 4 o
four x None = refl
four x (Some f) = let k : f.1 + 1 + 1 + 1 + 1 ≡ f.1 + 4 = omega arith in λ d. Some (x ∷ f.0, k d)

-- a byte with a short escape
abbrev Reads : ℕ → Bytes → Type 0
Reads x text = (ys : Bytes) → unquoted Plain (text ++ ys) ≡ by x (length text) (unquoted Plain ys)

no_letter : (a : ℕ) → a < 4 → unshort (48 + a) ≡ None
no_letter zero h = refl
no_letter (suc zero) h = refl
no_letter (suc (suc zero)) h = refl
no_letter (suc (suc (suc zero))) h = refl
no_letter (suc (suc (suc (suc a)))) h = absurd (omega arith)

first_digit : (a : ℕ) (xs : Bytes) → a < 4 → unquoted Slash ((48 + a) ∷ xs) ≡ passing (unquoted (First a) xs)
first_digit a xs h =
    let n = no_letter a h in
    let l : leb 48 (48 + a) ≡ true = le-leb 48 (48 + a) (omega arith) in
    let u : leb (48 + a) 51 ≡ true = le-leb (48 + a) 51 (omega arith) in
    let d : 48 + a - 48 ≡ a = omega arith in
    rw (n, l, u, d) refl

second_digit : (n b : ℕ) (xs : Bytes) → b < 8 → unquoted (First n) ((48 + b) ∷ xs) ≡ passing (unquoted (Second (8 * n + b)) xs)
second_digit n b xs h =
    let l : leb 48 (48 + b) ≡ true = le-leb 48 (48 + b) (omega arith) in
    let u : leb (48 + b) 55 ≡ true = le-leb (48 + b) 55 (omega arith) in
    let d : 48 + b - 48 ≡ b = omega arith in
    rw (l, u, d) refl

last_digit : (n c : ℕ) (xs : Bytes) → c < 8 → unquoted (Second n) ((48 + c) ∷ xs) ≡ adding (8 * n + c) (unquoted Plain xs)
last_digit n c xs h =
    let l : leb 48 (48 + c) ≡ true = le-leb 48 (48 + c) (omega arith) in
    let u : leb (48 + c) 55 ≡ true = le-leb (48 + c) 55 (omega arith) in
    let d : 48 + c - 48 ≡ c = omega arith in
    rw (l, u, d) refl

octal_here : (x : ℕ) → x < 256 → Reads x (octal x)
octal_here x h ys =
    ap passing (first_digit (x / 8 / 8) ((48 + x / 8 % 8) ∷ (48 + x % 8) ∷ ys) (omega arith))
    ∙ ap (λ o. passing (passing o)) (second_digit (x / 8 / 8) (x / 8 % 8) ((48 + x % 8) ∷ ys) (omega arith))
    ∙ ap (λ o. passing (passing (passing o))) (last_digit (8 * (x / 8 / 8) + x / 8 % 8) (x % 8) ys (omega arith))
    ∙ four _ (unquoted Plain ys)
    ∙ (let k : 8 * (8 * (x / 8 / 8) + x / 8 % 8) + x % 8 ≡ x = omega arith in ap (λ y. by y 4 (unquoted Plain ys)) k)

by_test : (x b : ℕ) (letter : Option ℕ) (others : Option ℕ) → Reads b (escape b letter) → (eqb x b ≡ false → Reads x (escape x others)) → Reads x (escape x (cond (eqb x b) letter others))
by_test x b letter others h k =
    elim (eqb x b) as (λ t. eqb x b ≡ t → Reads x (escape x (cond t letter others))) [
      | true ↦ λ e. subst (λ y. Reads y (escape y letter)) (sym (eqb-true x b e)) h
      | false ↦ λ e. k e
    ] refl

byte_here : (x : ℕ) → x < 256 → Reads x (quoted_byte x)
unfolding quoted_byte
byte_here x h =
    by_test x 7 (Some 97) _ (λ ys. two 7 (unquoted Plain ys)) (λ a.
    by_test x 8 (Some 98) _ (λ ys. two 8 (unquoted Plain ys)) (λ a.
    by_test x 9 (Some 116) _ (λ ys. two 9 (unquoted Plain ys)) (λ a.
    by_test x 10 (Some 110) _ (λ ys. two 10 (unquoted Plain ys)) (λ lf.
    by_test x 11 (Some 118) _ (λ ys. two 11 (unquoted Plain ys)) (λ a.
    by_test x 12 (Some 102) _ (λ ys. two 12 (unquoted Plain ys)) (λ a.
    by_test x 13 (Some 114) _ (λ ys. two 13 (unquoted Plain ys)) (λ a.
    by_test x 34 (Some 34) _ (λ ys. two 34 (unquoted Plain ys)) (λ quote.
    by_test x 92 (Some 92) None (λ ys. two 92 (unquoted Plain ys)) (λ slash. other quote slash lf)))))))))
  where
    other : eqb x 34 ≡ false → eqb x 92 ≡ false → eqb x 10 ≡ false → Reads x (escape x None)
    other a b c =
        elim (is_hidden x) as (λ t. Reads x (cond t (octal x) (x ∷ []))) [
          | true ↦ octal_here x h
          | false ↦ λ ys. rw (a, b, c) refl
        ]

rest_again : (t rest : Bytes) → is_bytes t ≡ true → unquoted Plain (quoted_rest t ++ rest) ≡ Some (t, length (quoted_rest t))
rest_again [] rest h = refl
rest_again (x ∷ t) rest h =
    ap (unquoted Plain) (append_assoc (quoted_byte x) (quoted_rest t) rest)
    ∙ byte_here x (ltb-true x 256 (first_so (ltb x 256) (is_bytes t) h)) (quoted_rest t ++ rest)
    ∙ ap (by x (length (quoted_byte x))) (rest_again t rest (second_so (ltb x 256) (is_bytes t) h))
    ∙ (let k : length (quoted_rest t) + length (quoted_byte x) ≡ length (quoted_byte x ++ quoted_rest t) = omega (arith, length-append (quoted_byte x) (quoted_rest t)) in λ d. Some (x ∷ t, k d))

pub round_trip : (t rest : Bytes) → is_bytes t ≡ true → unquote (quoted t ++ rest) ≡ Some (t, length (quoted t))
unfolding unquote
round_trip t rest h = ap passing (rest_again t rest h) ∙ (let k : length (quoted_rest t) + 1 ≡ suc (length (quoted_rest t)) = omega arith in λ d. Some (t, k d))

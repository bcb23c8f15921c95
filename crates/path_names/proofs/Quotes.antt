-- Runs of bytes that stand for themselves between quotes.
use Rattle.std.proofs.Common.{◌≡◌, ◌+◌, ◌-◌, ◌<◌, ◌≤◌, ◌≢◌, ℕ, suc, Bool, true, false, not, cond, ◌||◌, List, [], ◌∷◌, ◌++◌, length, take, drop, get_or, true≢false, eqb-true, Option, Some, None, refl, sym, ap, ◌∙◌, arith, eqb, ltb, leb, append_assoc, append-nil}
use borrow.Author.Tests.{ltb-false, ltb-true}
use Rattle.std.proofs.lemmas.Bool.{leb-false, ne_eqb}
use Rattle.std.proofs.lemmas.List.{take_rest}
use Rattle.std.specs.List.{position, position_or_len}
use Rattle.std.proofs.lemmas.List.Sums.{prefix_len-le-length}
use Rattle.git_objects.specs.Paths.{Bytes}
use Rattle.path_names.specs.Quoting.{short, is_hidden, is_special, is_marked, octal, escape, quoted_byte, quoted_rest, Found, Plain, Slash, adding, unquoted, unquote, behind}

-- ---- the first byte that passes, or the length

module _ {X : Type 0} (p : X → Bool) where
  first_at : (xs : List X) (b : Bool) → ltb (position_or_len p xs) (length xs) ≡ b →
      position p xs ≡ cond b (Some (position_or_len p xs)) None
  first_at xs b e = λ i. cond (e i) (Some (position_or_len p xs)) None

  pub first_is : (xs : List X) (n : ℕ) → Some n ≡ position p xs → n ≡ position_or_len p xs
  first_is xs n h =
      elim (ltb (position_or_len p xs) (length xs)) as (λ b. ltb (position_or_len p xs) (length xs) ≡ b → n ≡ position_or_len p xs) [
        | true ↦ λ e. let k = first_at xs true e in cc
        | false ↦ λ e. let k = first_at xs false e in cc
      ]
      refl

  pub none_is : (xs : List X) → None ≡ position p xs → length xs ≡ position_or_len p xs
  none_is xs h =
      elim (ltb (position_or_len p xs) (length xs)) as (λ b. ltb (position_or_len p xs) (length xs) ≡ b → length xs ≡ position_or_len p xs) [
        | true ↦ λ e. let k = first_at xs true e in cc
        | false ↦ λ e. omega (arith, ltb-false (position_or_len p xs) (length xs) e, prefix_len-le-length (λ x. not (p x)) xs)
      ]
      refl

  first_passes : (xs : List X) (d : X) → 0 < length (drop (position_or_len p xs) xs) →
      p (get_or (drop (position_or_len p xs) xs) 0 d) ≡ true
  first_passes [] d h = absurd (omega arith)
  first_passes (x ∷ xs) d h =
      elim (p x) as (λ b. p x ≡ b → 0 < length (drop (cond (not b) (1 + position_or_len p xs) 0) (x ∷ xs)) →
      p (get_or (drop (cond (not b) (1 + position_or_len p xs) 0) (x ∷ xs)) 0 d) ≡ true) [
        | true ↦ λ e g. e
        | false ↦ λ e g.
            let k : 1 + position_or_len p xs ≡ suc (position_or_len p xs) = omega arith in
            rw k (first_passes xs d (rw k at g))
      ]
      refl h

  pub passes_there : (rest more : List X) (n : ℕ) (d : X) → n ≡ position_or_len p rest → more ≡ drop n rest → 1 ≤ length more → p (get_or more 0 d) ≡ true
  passes_there rest more n d e f l =
      let is : more ≡ drop (position_or_len p rest) rest = f ∙ ap (λ k. drop k rest) e in
      ap (λ m. p (get_or m 0 d)) is ∙ first_passes rest d (omega (arith, ap length is))

  pub place-le-length : (xs : List X) → position_or_len p xs ≤ length xs
  place-le-length xs = prefix_len-le-length (λ x. not (p x)) xs

-- ---- writing

-- a test that says no
or-no : (a b : Bool) → (a || b) ≡ false → (a ≡ false) × (b ≡ false)
or-no false b h = (refl, h)
or-no true b h = absurd (true≢false h)

not_test : (x b n : ℕ) (u v : Option ℕ) → leb x 31 ≡ false → ltb b 32 ≡ true → v ≡ None → cond (eqb x b) u v ≡ None
not_test x b n u v h k e =
    elim (eqb x b) as (λ t. eqb x b ≡ t → cond t u v ≡ None) [
      | true ↦ λ f. absurd (omega (arith, eqb-true x b f, leb-false x 31 h, ltb-true b 32 k))
      | false ↦ λ f. e
    ]
    refl

plain_byte : (x : ℕ) → is_special x ≡ false → quoted_byte x ≡ x ∷ []
unfolding quoted_byte
plain_byte x h =
    let tests = or-no (is_hidden x || eqb x 34) (eqb x 92) h in
    let front = or-no (is_hidden x) (eqb x 34) tests.0 in
    let low = or-no (leb x 31) (eqb x 127) front.0 in
    let other : short x ≡ None =
    not_test x 7 0 _ _ low.0 refl (not_test x 8 0 _ _ low.0 refl (not_test x 9 0 _ _ low.0 refl (not_test x 10 0 _ _ low.0 refl
    (not_test x 11 0 _ _ low.0 refl (not_test x 12 0 _ _ low.0 refl (not_test x 13 0 _ _ low.0 refl
    (λ i. cond (front.1 i) (Some 34) (cond (tests.1 i) (Some 92) None)))))))) in
    ap (escape x) other ∙ ap (λ b. cond b (octal x) (x ∷ [])) front.0

pub run_quoted : (t : Bytes) → quoted_rest t ≡ take (position_or_len is_special t) t ++ quoted_rest (drop (position_or_len is_special t) t)
run_quoted [] = refl
run_quoted (x ∷ t) =
    elim (is_special x) as (λ b. is_special x ≡ b → quoted_rest (x ∷ t) ≡ take (cond (not b) (1 + position_or_len is_special t) 0) (x ∷ t) ++ quoted_rest (drop (cond (not b) (1 + position_or_len is_special t) 0) (x ∷ t))) [
      | true ↦ λ e. refl
      | false ↦ λ e.
          let k : 1 + position_or_len is_special t ≡ suc (position_or_len is_special t) = omega arith in
          rw (k, plain_byte x e) (ap (λ r. x ∷ r) (run_quoted t))
    ]
    refl

pub special_there : (rest more : Bytes) (n : ℕ) → n ≡ position_or_len is_special rest → more ≡ drop n rest → 1 ≤ length more → is_special (get_or more 0 0) ≡ true
special_there rest more n e d l = passes_there is_special rest more n 0 e d l

pub marked_there : (rest more : Bytes) (n : ℕ) → n ≡ position_or_len is_marked rest → more ≡ drop n rest → 1 ≤ length more → is_marked (get_or more 0 0) ≡ true
marked_there rest more n e d l = passes_there is_marked rest more n 0 e d l

-- what a slice has behind its first byte
abbrev pub tail : Bytes → Bytes
tail m = take (length m - 1) (drop 1 m)

pub tail-is : (m : Bytes) → tail m ≡ drop 1 m
tail-is m = take_rest m 1

pub opened : (m : Bytes) → 1 ≤ length m → m ≡ get_or m 0 0 ∷ tail m
opened [] h = absurd (omega arith)
opened (x ∷ m) h = ap (λ r. x ∷ r) (sym (tail-is (x ∷ m)))

pub nothing : (m : Bytes) → length m < 1 → m ≡ []
nothing [] h = refl
nothing (x ∷ m) h = absurd (omega arith)

-- one more run, where nothing follows it, and where a byte that is escaped does
module _ (out rest all : Bytes) (n : ℕ) (plain more out2 : Bytes) where
  pub quoted_end : n ≡ position_or_len is_special rest → plain ≡ take n rest → more ≡ drop n rest → length more < 1 →
      out ++ quoted_rest rest ≡ all → out2 ≡ out ++ plain → out2 ++ 34 ∷ [] ≡ all
  quoted_end e p d l h o =
      (λ i. o i ++ 34 ∷ [])
      ∙ append_assoc out plain (34 ∷ [])
      ∙ (λ i. out ++ (p i ++ quoted_rest ((sym (nothing more l) ∙ d) i)))
      ∙ ap (λ k. out ++ (take k rest ++ quoted_rest (drop k rest))) e
      ∙ ap (λ r. out ++ r) (sym (run_quoted rest)) ∙ h

  pub quoted_more : n ≡ position_or_len is_special rest → plain ≡ take n rest → more ≡ drop n rest → 1 ≤ length more →
      out ++ quoted_rest rest ≡ all → out2 ≡ out ++ plain →
      (out3 : Bytes) → out3 ≡ out2 ++ quoted_byte (get_or more 0 0) → out3 ++ quoted_rest (tail more) ≡ all
  quoted_more e p d l h o out3 q =
      (λ i. q i ++ quoted_rest (tail more))
      ∙ append_assoc out2 (quoted_byte (get_or more 0 0)) (quoted_rest (tail more))
      ∙ (λ i. o i ++ quoted_rest (sym (opened more l) i))
      ∙ append_assoc out plain (quoted_rest more)
      ∙ (λ i. out ++ (p i ++ quoted_rest (d i)))
      ∙ ap (λ k. out ++ (take k rest ++ quoted_rest (drop k rest))) e
      ∙ ap (λ r. out ++ r) (sym (run_quoted rest)) ∙ h

-- ---- reading

behind_twice : (d e : Bytes) (n m : ℕ) (o : Found) → behind d n (behind e m o) ≡ behind (d ++ e) (n + m) o
behind_twice d e n m None = refl
behind_twice d e n m (Some f) =
    let k : f.1 + m + n ≡ f.1 + (n + m) = omega arith in λ i. Some (sym (append_assoc d e f.0) i, k i)

one_more : (x n : ℕ) (d : Bytes) (o : Found) → adding x (behind d n o) ≡ behind (x ∷ d) (suc n) o
one_more x n d None = refl
one_more x n d (Some f) = let k : f.1 + n + 1 ≡ f.1 + suc n = omega arith in λ i. Some (x ∷ (d ++ f.0), k i)

behind_none : (o : Found) → o ≡ behind [] 0 o
behind_none None = refl
behind_none (Some f) = let k : f.1 ≡ f.1 + 0 = omega arith in λ i. Some (f.0, k i)

plain_step : (x : ℕ) (t : Bytes) → is_marked x ≡ false → unquoted Plain (x ∷ t) ≡ adding x (unquoted Plain t)
plain_step x t h =
    let tests = or-no (eqb x 34 || eqb x 92) (eqb x 10) h in
    let front = or-no (eqb x 34) (eqb x 92) tests.0 in
    rw (front.0, front.1, tests.1) refl

pub run_unquoted : (t : Bytes) → unquoted Plain t ≡ behind (take (position_or_len is_marked t) t) (position_or_len is_marked t) (unquoted Plain (drop (position_or_len is_marked t) t))
run_unquoted [] = refl
run_unquoted (x ∷ t) =
    elim (is_marked x) as (λ b. is_marked x ≡ b → unquoted Plain (x ∷ t) ≡ behind (take (cond (not b) (1 + position_or_len is_marked t) 0) (x ∷ t)) (cond (not b) (1 + position_or_len is_marked t) 0) (unquoted Plain (drop (cond (not b) (1 + position_or_len is_marked t) 0) (x ∷ t)))) [
      | true ↦ λ e. behind_none (unquoted Plain (x ∷ t))
      | false ↦ λ e.
          let n = position_or_len is_marked t in
          let k : 1 + position_or_len is_marked t ≡ suc (position_or_len is_marked t) = omega arith in
          rw k (plain_step x t e ∙ ap (adding x) (run_unquoted t) ∙ one_more x n (take n t) (unquoted Plain (drop n t)))
    ]
    refl

-- what was read before, one more run, and what is left behind it
module _ (all : Found) (done rest : Bytes) (k n : ℕ) (plain more done2 : Bytes) where
  pub read_run : n ≡ position_or_len is_marked rest → plain ≡ take n rest → more ≡ drop n rest → all ≡ behind done k (unquoted Plain rest) →
      done2 ≡ done ++ plain → all ≡ behind done2 (k + n) (unquoted Plain more)
  read_run e p d h o =
      h ∙ ap (behind done k) (run_unquoted rest)
      ∙ ap (λ j. behind done k (behind (take j rest) j (unquoted Plain (drop j rest)))) (sym e)
      ∙ (λ i. behind done k (behind (sym p i) n (unquoted Plain (sym d i))))
      ∙ behind_twice done plain k n (unquoted Plain more)
      ∙ (λ i. behind (sym o i) (k + n) (unquoted Plain more))

-- at a quote, at a backslash, and elsewhere
module _ (all : Found) (done more : Bytes) (k : ℕ) (h : all ≡ behind done k (unquoted Plain more)) where
  pub read_end : 1 ≤ length more → get_or more 0 0 ≡ 34 → all ≡ Some (done, k + 1)
  read_end l e =
      h ∙ (λ i. behind done k (unquoted Plain (opened more l i)))
      ∙ (λ i. behind done k (unquoted Plain (e i ∷ tail more)))
      ∙ (let j : 1 + k ≡ k + 1 = omega arith in λ i. Some (append-nil done i, j i))

  pub read_slash : 1 ≤ length more → get_or more 0 0 ≡ 92 → all ≡ behind done (k + 1) (unquoted Slash (tail more))
  read_slash l e =
      h ∙ (λ i. behind done k (unquoted Plain (opened more l i)))
      ∙ (λ i. behind done k (unquoted Plain (e i ∷ tail more)))
      ∙ behind_twice done [] k 1 (unquoted Slash (tail more))
      ∙ (λ i. behind (append-nil done i) (k + 1) (unquoted Slash (tail more)))

  pub read_none : length more < 1 → all ≡ None
  read_none l = h ∙ (λ i. behind done k (unquoted Plain (nothing more l i)))

  pub read_lf : 1 ≤ length more → get_or more 0 0 ≢ 34 → get_or more 0 0 ≢ 92 → is_marked (get_or more 0 0) ≡ true → all ≡ None
  read_lf l a b m =
      h ∙ (λ i. behind done k (unquoted Plain (opened more l i)))
      ∙ (let p = ne_eqb (get_or more 0 0) 34 a in
      let q = ne_eqb (get_or more 0 0) 92 b in
      let r : eqb (get_or more 0 0) 10 ≡ true = (λ i. sym p i || sym q i || eqb (get_or more 0 0) 10) ∙ m in
      rw (p, q, r) refl)

-- behind an escape
module _ (all : Found) (done escape : Bytes) (k : ℕ) (h : all ≡ behind done k (unquoted Slash escape)) where
  pub read_bad : unquoted Slash escape ≡ None → all ≡ None
  read_bad e = h ∙ ap (behind done k) e

  pub read_byte : (byte taken : ℕ) (done2 rest : Bytes) → unquoted Slash escape ≡ behind (byte ∷ []) taken (unquoted Plain (drop taken escape)) →
      done2 ≡ done ++ byte ∷ [] → rest ≡ drop taken escape → all ≡ behind done2 (k + taken) (unquoted Plain rest)
  read_byte byte taken done2 rest e o r =
      h ∙ ap (behind done k) e ∙ behind_twice done (byte ∷ []) k taken (unquoted Plain (drop taken escape))
      ∙ (λ i. behind (sym o i) (k + taken) (unquoted Plain (sym r i)))

-- behind the opening quote
pub read_begin : (text : Bytes) → 1 ≤ length text → get_or text 0 0 ≡ 34 → unquote text ≡ behind [] 1 (unquoted Plain (tail text))
unfolding unquote
read_begin text l e = (λ i. unquote (opened text l i)) ∙ (λ i. unquote (e i ∷ tail text))

pub read_other : (text : Bytes) → 1 ≤ length text → get_or text 0 0 ≢ 34 → unquote text ≡ None
unfolding unquote
read_other text l e = (λ i. unquote (opened text l i)) ∙ rw (ne_eqb (get_or text 0 0) 34 e) refl

pub read_nothing : (text : Bytes) → length text < 1 → unquote text ≡ None
unfolding unquote
read_nothing text l = λ i. unquote (nothing text l i)

-- What is read of a text between quotes depends on that text alone.
use Rattle.std.proofs.Common.{◌≡◌, ◌+◌, ◌-◌, ℕ, true, false, cond, ◌&&◌, [], ◌∷◌, ◌++◌, length, Some, None, refl, sym, ap, ◌∙◌, arith, eqb, leb, append-nil, length-append, subst, ◌*◌}
use Rattle.std.specs.Option.{option_map}
use Rattle.git_objects.specs.Paths.{Bytes}
use Rattle.path_names.specs.Quoting.{Place, Plain, Slash, First, Second, Found, passing, adding, is_octal, letter, unshort, unquoted, unquote}
use Rattle.filter_text.specs.Texts.{begins}

-- a front of t is read so, whatever follows it
record Fronts (p : Place) (t : Bytes) (f : Bytes × ℕ) : Type 0 where
  pub front : Bytes
  pub rest : Bytes
  pub is : t ≡ front ++ rest
  pub size : length front ≡ f.1
  pub reads : (s : Bytes) → unquoted p (front ++ s) ≡ Some f

abbrev Fronted : Place → Bytes → Found → Type 0
Fronted p t None = Unit {0}
Fronted p t (Some f) = Fronts p t f

-- one byte more
abbrev grown : (Bytes → Bytes) → Found → Found
grown g o = option_map (λ f. (g f.0, f.1 + 1)) o

grow : (p q : Place) (x : ℕ) (xs : Bytes) (g : Bytes → Bytes) (o : Found) → ((s : Bytes) → unquoted p (x ∷ s) ≡ grown g (unquoted q s)) →
    Fronted q xs o → Fronted p (x ∷ xs) (grown g o)
grow p q x xs g None e ih = tt
grow p q x xs g (Some f) e ih = record {
  front = x ∷ ih.front;
  rest = ih.rest;
  is = ap (λ t. x ∷ t) ih.is;
  size = (let s = ih.size in omega arith);
  reads = λ s. e (ih.front ++ s) ∙ ap (grown g) (ih.reads s);
}

fronted : (t : Bytes) (p : Place) → Fronted p t (unquoted p t)
fronted [] p = tt
fronted (x ∷ xs) Plain =
    elim (eqb x 34) as (λ b. eqb x 34 ≡ b → Fronted Plain (x ∷ xs) (cond b (Some ([], 1)) (cond (eqb x 92) (passing (unquoted Slash xs)) (cond (eqb x 10) None (adding x (unquoted Plain xs)))))) [
      | true ↦ λ e. record { front = x ∷ []; rest = xs; is = refl; size = refl; reads = λ s. rw e refl }
      | false ↦ λ e.
          elim (eqb x 92) as (λ b. eqb x 92 ≡ b → Fronted Plain (x ∷ xs) (cond b (passing (unquoted Slash xs)) (cond (eqb x 10) None (adding x (unquoted Plain xs))))) [
            | true ↦ λ k. grow Plain Slash x xs (λ u. u) (unquoted Slash xs) (λ s. rw (e, k) refl) (fronted xs Slash)
            | false ↦ λ k.
                elim (eqb x 10) as (λ b. eqb x 10 ≡ b → Fronted Plain (x ∷ xs) (cond b None (adding x (unquoted Plain xs)))) [
                  | true ↦ λ l. tt
                  | false ↦ λ l. grow Plain Plain x xs (λ u. x ∷ u) (unquoted Plain xs) (λ s. rw (e, k, l) refl) (fronted xs Plain)
                ] refl
          ] refl
    ] refl
fronted (x ∷ xs) Slash =
    elim (unshort x) as (λ o. unshort x ≡ o → Fronted Slash (x ∷ xs) (letter x o (λ b. adding b (unquoted Plain xs)) (λ p. unquoted p xs))) [
      | Some b ↦ λ e. grow Slash Plain x xs (λ u. b ∷ u) (unquoted Plain xs)
          (λ s. ap (λ o. letter x o (λ b. adding b (unquoted Plain s)) (λ p. unquoted p s)) e) (fronted xs Plain)
      | None ↦ λ e.
          elim (leb 48 x && leb x 51) as (λ b. (leb 48 x && leb x 51) ≡ b → Fronted Slash (x ∷ xs) (cond b (passing (unquoted (First (x - 48)) xs)) None)) [
            | true ↦ λ k. grow Slash (First (x - 48)) x xs (λ u. u) (unquoted (First (x - 48)) xs)
                (λ s. ap (λ o. letter x o (λ b. adding b (unquoted Plain s)) (λ p. unquoted p s)) e
                ∙ ap (λ b. cond b (passing (unquoted (First (x - 48)) s)) None) k) (fronted xs (First (x - 48)))
            | false ↦ λ k. tt
          ] refl
    ] refl
fronted (x ∷ xs) (First n) =
    elim (is_octal x) as (λ b. is_octal x ≡ b → Fronted (First n) (x ∷ xs) (cond b (passing (unquoted (Second (8 * n + (x - 48))) xs)) None)) [
      | true ↦ λ k. grow (First n) (Second (8 * n + (x - 48))) x xs (λ u. u) (unquoted (Second (8 * n + (x - 48))) xs)
          (λ s. ap (λ b. cond b (passing (unquoted (Second (8 * n + (x - 48))) s)) None) k) (fronted xs (Second (8 * n + (x - 48))))
      | false ↦ λ k. tt
    ] refl
fronted (x ∷ xs) (Second n) =
    elim (is_octal x) as (λ b. is_octal x ≡ b → Fronted (Second n) (x ∷ xs) (cond b (adding (8 * n + (x - 48)) (unquoted Plain xs)) None)) [
      | true ↦ λ k. grow (Second n) Plain x xs (λ u. (8 * n + (x - 48)) ∷ u) (unquoted Plain xs)
          (λ s. ap (λ b. cond b (adding (8 * n + (x - 48)) (unquoted Plain s)) None) k) (fronted xs Plain)
      | false ↦ λ k. tt
    ] refl

-- the same with both quotes
pub record Quoted (t : Bytes) (f : Bytes × ℕ) : Type 0 where
  pub front : Bytes
  pub rest : Bytes
  pub is : t ≡ front ++ rest
  pub size : length front ≡ f.1
  pub reads : (s : Bytes) → unquote (front ++ s) ≡ Some f
  pub begin : (s : Bytes) → begins 34 (front ++ s) ≡ true

abbrev QuotedIf : Bytes → Found → Type 0
QuotedIf t None = Unit {0}
QuotedIf t (Some f) = Quoted t f

behind_quote : (x : ℕ) (xs : Bytes) (o : Found) → eqb x 34 ≡ true → Fronted Plain xs o → QuotedIf (x ∷ xs) (passing o)
unfolding unquote
behind_quote x xs None e ih = tt
behind_quote x xs (Some f) e ih = record {
  front = x ∷ ih.front;
  rest = ih.rest;
  is = ap (λ t. x ∷ t) ih.is;
  size = (let s = ih.size in omega arith);
  reads = λ s. ap (λ b. cond b (passing (unquoted Plain (ih.front ++ s))) None) e ∙ ap passing (ih.reads s);
  begin = λ s. e;
}

quoted_if : (t : Bytes) → QuotedIf t (unquote t)
unfolding unquote
quoted_if [] = tt
quoted_if (x ∷ xs) =
    elim (eqb x 34) as (λ b. eqb x 34 ≡ b → QuotedIf (x ∷ xs) (cond b (passing (unquoted Plain xs)) None)) [
      | true ↦ λ e. behind_quote x xs (unquoted Plain xs) e (fronted xs Plain)
      | false ↦ λ e. tt
    ] refl

pub quoted-front : (t : Bytes) (f : Bytes × ℕ) → unquote t ≡ Some f → Quoted t f
quoted-front t f e = subst (QuotedIf t) e (quoted_if t)

nothing_left : (w r : Bytes) → length (w ++ r) ≡ length w → r ≡ []
nothing_left w [] e = refl
nothing_left w (x ∷ r) e = absurd (omega (arith, length-append w (x ∷ r)))

-- a text that is quoted to its end is so, whatever follows it
pub quoted-append : (w u : Bytes) → unquote w ≡ Some (u, length w) → (s : Bytes) → unquote (w ++ s) ≡ Some (u, length w)
quoted-append w u e s =
    let q = quoted-front w (u, length w) e in
    let none = nothing_left q.front q.rest (sym (ap length q.is) ∙ sym q.size) in
    let same : w ≡ q.front = q.is ∙ ap (λ r. q.front ++ r) none ∙ append-nil q.front in
    ap (λ v. unquote (v ++ s)) same ∙ q.reads s

pub quoted-begins : (w u : Bytes) → unquote w ≡ Some (u, length w) → (s : Bytes) → begins 34 (w ++ s) ≡ true
quoted-begins w u e s =
    let q = quoted-front w (u, length w) e in
    let none = nothing_left q.front q.rest (sym (ap length q.is) ∙ sym q.size) in
    let same : w ≡ q.front = q.is ∙ ap (λ r. q.front ++ r) none ∙ append-nil q.front in
    ap (λ v. begins 34 (v ++ s)) same ∙ q.begin s

-- What the walk over pieces finds.
use Rattle.std.specs.Prelude.{◌≡◌, refl, ℕ, ◌+◌, ◌<◌, suc, zero, List, [], ◌∷◌, ◌++◌, length, slice_get, Option, Some, None, Bool, true, false, cond, Result, Ok, Err}
use Rattle.std.proofs.Common.{ap, ap₂, ◌∙◌, sym, arith, length-append, subst}
use Rattle.std.proofs.lemmas.Option.{none-some, same_Some}
use Rattle.filter_text.specs.Filters.{Filter, Filters, nop, sub, onto, dir, file, exclude, join, chain, workspace, no_more, more, pieces, pieces_in}
use Rattle.filter_routes.specs.Faults.{Piece, nodes, nodes_all, keeps, walk, FirstNotKeeping}

-- the walk goes on where the first part ends
abbrev pub walk_on : Result ℕ ℕ → List Piece → Result ℕ ℕ
walk_on (Ok m) ys = walk m ys
walk_on (Err m) ys = Err m

on-at : (b : Bool) (o : Result ℕ ℕ) (n : ℕ) (ys : List Piece) (z : Result ℕ ℕ) → z ≡ walk_on o ys → cond b z (Err n) ≡ walk_on (cond b o (Err n)) ys
on-at true o n ys z e = e
on-at false o n ys z e = refl

pub walk-app : (n : ℕ) (xs ys : List Piece) → walk n (xs ++ ys) ≡ walk_on (walk n xs) ys
walk-app n [] ys = refl
walk-app n (v ∷ xs) ys = on-at (keeps v) (walk (n + 1) xs) n ys (walk (n + 1) (xs ++ ys)) (walk-app (n + 1) xs ys)

-- where it ends
abbrev pub EndsAt : ℕ → Result ℕ ℕ → Type 0
EndsAt n (Ok m) = m ≡ n
EndsAt n (Err m) = m < n

ends-at : (b : Bool) (n k : ℕ) (o : Result ℕ ℕ) → n < k → EndsAt k o → EndsAt k (cond b o (Err n))
ends-at true n k o l h = h
ends-at false n k o l h = l

pub walk-ends : (n : ℕ) (vs : List Piece) → EndsAt (n + length vs) (walk n vs)
walk-ends n [] = omega arith
walk-ends n (v ∷ vs) =
    ends-at (keeps v) n (n + length (v ∷ vs)) (walk (n + 1) vs) (omega arith)
    (subst (λ k. EndsAt k (walk (n + 1) vs)) (omega arith) (walk-ends (n + 1) vs))

mutual
  pub nodes-count : (i : Bool) (f : Filter) → length (nodes i f) ≡ pieces f
  nodes-count i nop = refl
  nodes-count i (sub a) = refl
  nodes-count i (onto a) = refl
  nodes-count i (dir a) = refl
  nodes-count i (file a) = refl
  nodes-count i (exclude f) = omega (arith, nodes-count true f)
  nodes-count i (join fs) = omega (arith, nodes-all-count i fs)
  nodes-count i (chain fs) = nodes-all-count i fs
  nodes-count i (workspace a) = refl

  pub nodes-all-count : (i : Bool) (fs : Filters) → length (nodes_all i fs) ≡ pieces_in fs
  nodes-all-count i no_more = refl
  nodes-all-count i (more f fs) = length-append (nodes i f) (nodes_all i fs) ∙ ap₂ (λ x y. x + y) (nodes-count i f) (nodes-all-count i fs)

-- what it finds
pub record Found (n : ℕ) (vs : List Piece) (m : ℕ) : Type 0 where
  pub place : ℕ
  pub piece : Piece
  pub is_place : n + place ≡ m
  pub is_piece : slice_get vs place ≡ Some piece
  pub fails : keeps piece ≡ false
  pub before : (k : ℕ) (v : Piece) → k < place → slice_get vs k ≡ Some v → keeps v ≡ true

abbrev pub Told : ℕ → List Piece → Result ℕ ℕ → Type 0
Told n vs (Ok m) = (k : ℕ) (v : Piece) → slice_get vs k ≡ Some v → keeps v ≡ true
Told n vs (Err m) = Found n vs m

all-more : (v : Piece) (vs : List Piece) → keeps v ≡ true → ((k : ℕ) (w : Piece) → slice_get vs k ≡ Some w → keeps w ≡ true) → (k : ℕ) (w : Piece) → slice_get (v ∷ vs) k ≡ Some w → keeps w ≡ true
all-more v vs h r zero w e = subst (λ x. keeps x ≡ true) (same_Some v w e) h
all-more v vs h r (suc k) w e = r k w e

before-more : (v : Piece) (vs : List Piece) (p : ℕ) → keeps v ≡ true → ((k : ℕ) (w : Piece) → k < p → slice_get vs k ≡ Some w → keeps w ≡ true)
    → (k : ℕ) (w : Piece) → k < suc p → slice_get (v ∷ vs) k ≡ Some w → keeps w ≡ true
before-more v vs p h r zero w l e = subst (λ x. keeps x ≡ true) (same_Some v w e) h
before-more v vs p h r (suc k) w l e = r k w (omega (arith, l)) e

told-more : (n : ℕ) (v : Piece) (vs : List Piece) (o : Result ℕ ℕ) → keeps v ≡ true → Told (n + 1) vs o → Told n (v ∷ vs) o
told-more n v vs (Ok m) h t = all-more v vs h t
told-more n v vs (Err m) h t =
    record {
      place = suc t.place;
      piece = t.piece;
      is_place = omega (arith, t.is_place);
      is_piece = t.is_piece;
      fails = t.fails;
      before = before-more v vs t.place h t.before;
    }

none-before : (v : Piece) (vs : List Piece) (k : ℕ) (w : Piece) → k < 0 → slice_get (v ∷ vs) k ≡ Some w → keeps w ≡ true
none-before v vs k w l e = absurd (omega (arith, l))

told-at : (n : ℕ) (v : Piece) (vs : List Piece) (b : Bool) → keeps v ≡ b → Told (n + 1) vs (walk (n + 1) vs) → Told n (v ∷ vs) (cond b (walk (n + 1) vs) (Err n))
told-at n v vs true h t = told-more n v vs (walk (n + 1) vs) h t
told-at n v vs false h t =
    record { place = 0; piece = v; is_place = omega arith; is_piece = refl; fails = h; before = none-before v vs }

nothing-there : (k : ℕ) (v : Piece) → slice_get [] k ≡ Some v → keeps v ≡ true
nothing-there k v e = absurd (none-some v e)

pub walk-tells : (n : ℕ) (vs : List Piece) → Told n vs (walk n vs)
walk-tells n [] = nothing-there
walk-tells n (v ∷ vs) = told-at n v vs (keeps v) refl (walk-tells (n + 1) vs)

-- what the walk over a whole filter says
abbrev pub error_of : Result ℕ ℕ → Option ℕ
error_of (Ok m) = None
error_of (Err m) = Some m

first-at : (f : Filter) (o : Result ℕ ℕ) → Told 0 (nodes false f) o → FirstNotKeeping f (error_of o)
first-at f (Ok m) t = t
first-at f (Err m) t =
    let e : t.place ≡ m = omega (arith, t.is_place) in
    record {
      piece = t.piece;
      is_piece = ap (slice_get (nodes false f)) (sym e) ∙ t.is_piece;
      fails = t.fails;
      before = λ k v l. t.before k v (subst (λ x. k < x) (sym e) l);
    }

pub first-told : (f : Filter) (o : Result ℕ ℕ) → o ≡ walk 0 (nodes false f) → FirstNotKeeping f (error_of o)
first-told f o e = subst (λ x. FirstNotKeeping f (error_of x)) (sym e) (first-at f (walk 0 (nodes false f)) (walk-tells 0 (nodes false f)))

pub err-small : (f : Filter) (m : ℕ) → Err m ≡ walk 0 (nodes false f) → m < pieces f
err-small f m e = omega (arith, nodes-count false f, subst (λ o. EndsAt (0 + length (nodes false f)) o) (sym e) (walk-ends 0 (nodes false f)))

pub ok-ends : (i : Bool) (f : Filter) (n m : ℕ) → Ok m ≡ walk n (nodes i f) → m ≡ n + pieces f
ok-ends i f n m e = subst (λ o. EndsAt (n + length (nodes i f)) o) (sym e) (walk-ends n (nodes i f)) ∙ ap (λ k. n + k) (nodes-count i f)

pub join-walk : (i : Bool) (n : ℕ) (fs : Filters) → walk (n + 1) (nodes_all i fs) ≡ walk n (nodes i (join fs))
join-walk true n fs = refl
join-walk false n fs = refl

-- The places of parents, one after another.
use Rattle.std.proofs.Common.{◌≡◌, ◌+◌, ◌<◌, ℕ, zero, suc, Bool, true, List, [], ◌∷◌, ◌++◌, map, take, slice_get, Option, Some, None, All, sym, ap, subst, ◌∙◌, add-one, true≢false}
use Rattle.std.specs.List.{list_all}
use Rattle.std.specs.Option.{is_some, unwrap_or}
use Rattle.std.specs.Cmp.{first_so, second_so}
use Rattle.std.proofs.lemmas.List.{map-append}
use Rattle.std.proofs.lemmas.List.Elements.{All-push}
use Rattle.std.proofs.lemmas.Option.{none-some, same_Some}
use Rattle.git_objects.specs.Paths.{Bytes}
use Rattle.commit_graph.specs.Graphs.{Row, place_of}
use Rattle.state_items.specs.Arrivals.{place_in}

pub all-at : {A : Type 0} (p : A → Bool) (xs : List A) (i : ℕ) (x : A) → slice_get xs i ≡ Some x → list_all p xs ≡ true → p x ≡ true
all-at p [] i x e h = absurd (none-some x e)
all-at p (y ∷ ys) zero x e h = ap p (sym (same_Some y x e)) ∙ first_so _ _ h
all-at p (y ∷ ys) (suc i) x e h = all-at p ys i x e (second_so (p y) _ h)

pub not-some : {A : Type 0} (o : Option A) → None ≡ o → is_some o ≡ true → ⊥
not-some o e h = true≢false (sym h ∙ ap is_some (sym e))

take-suc-at : {A : Type 0} (x : A) (xs : List A) (i : ℕ) → slice_get xs i ≡ Some x → take (suc i) xs ≡ take i xs ++ x ∷ []
take-suc-at x [] i e = absurd (none-some x e)
take-suc-at {A = A} x (y ∷ ys) zero e = ap (λ (z : A). z ∷ []) (same_Some y x e)
take-suc-at {A = A} x (y ∷ ys) (suc i) e = ap (λ (zs : List A). y ∷ zs) (take-suc-at x ys i e)

pub take-more : {A : Type 0} (xs : List A) (i : ℕ) (x : A) → slice_get xs i ≡ Some x → take (i + 1) xs ≡ take i xs ++ x ∷ []
take-more xs i x e = ap (λ n. take n xs) (add-one i) ∙ take-suc-at x xs i e

pub place-more : (rows : List Row) (ps : List Bytes) (i : ℕ) (p : Bytes) (place : ℕ) (before after : List ℕ) → slice_get ps i ≡ Some p → Some place ≡ place_of p rows
    → before ≡ map (place_in rows) (take i ps) → after ≡ before ++ place ∷ [] → after ≡ map (place_in rows) (take (i + 1) ps)
place-more rows ps i p place before after e f h g =
    g ∙ (λ j. h j ++ ap (λ (o : Option ℕ). unwrap_or o 0) f j ∷ [])
    ∙ sym (map-append (place_in rows) (take i ps) (p ∷ []))
    ∙ ap (map (place_in rows)) (sym (take-more ps i p e))

pub places-within : (n : ℕ) (before after : List ℕ) (place : ℕ) → All (λ p. p < n) before → place < n → after ≡ before ++ place ∷ [] → All (λ p. p < n) after
places-within n before after place h l e = subst (All (λ p. p < n)) (sym e) (All-push (λ p. p < n) before place h l)

-- What `strip` says of lists.
use Rattle.std.specs.Prelude.{◌≡◌, refl, ℕ, List, [], ◌∷◌, ◌++◌, Option, Some, None, cond, Bool, true, false}
use Rattle.std.proofs.Common.{ap, ap₂, append_assoc, ◌∙◌, sym, true≢false}
use Rattle.std.proofs.lemmas.Option.{none-some, same_Some}
use Rattle.std.specs.Cmp.Lexicographic.{bytes_decides}
use Rattle.decision_lists.specs.Fronts.{and_then, proper, strip, whole}
use Rattle.git_objects.specs.Paths.{Path, same_bytes}

pub eq-self : (c : List ℕ) → same_bytes c c ≡ true
eq-self c = (bytes_decides c c).1 refl

pub eq-is : (c d : List ℕ) → same_bytes c d ≡ true → c ≡ d
eq-is c d e = (bytes_decides c d).0 e

pub eq-sym : (c d : List ℕ) → same_bytes c d ≡ same_bytes d c
eq-sym c d = same-at (same_bytes c d) (same_bytes d c) (λ e. (bytes_decides d c).1 (sym (eq-is c d e))) (λ e. (bytes_decides c d).1 (sym (eq-is d c e)))
  where
    same-at : (b b' : Bool) → (b ≡ true → b' ≡ true) → (b' ≡ true → b ≡ true) → b ≡ b'
    same-at true b' f g = sym (f refl)
    same-at false true f g = g refl
    same-at false false f g = refl

pub cond-some : (b : Bool) (o : Option Path) (r : Path) → cond b o None ≡ Some r → (b ≡ true) × (o ≡ Some r)
cond-some true o r e = (refl, e)
cond-some false o r e = absurd (none-some r e)

pub cond-yes : (b : Bool) (o : Option Path) → b ≡ true → cond b o None ≡ o
cond-yes true o e = refl
cond-yes false o e = absurd (true≢false (sym e))

pub strip-self : (s r : Path) → strip s (s ++ r) ≡ Some r
strip-self [] r = refl
strip-self (c ∷ s) r = cond-yes (same_bytes c c) (strip s (s ++ r)) (eq-self c) ∙ strip-self s r

pub strip-is : (s p r : Path) → strip s p ≡ Some r → p ≡ s ++ r
strip-is [] p r e = same_Some p r e
strip-is (c ∷ s) [] r e = absurd (none-some r e)
strip-is (c ∷ s) (d ∷ p) r e =
    let h : (same_bytes c d ≡ true) × (strip s p ≡ Some r) = cond-some (same_bytes c d) (strip s p) r e in
    ap₂ (λ x y. x ∷ y) (sym (eq-is c d h.0)) (strip-is s p r h.1)

cut-at : (b : Bool) (x y : Option Path) (f : Path → Option Path) → x ≡ and_then y f → cond b x None ≡ and_then (cond b y None) f
cut-at true x y f e = e
cut-at false x y f e = refl

-- a longer front is taken off in two steps
pub strip-two : (s v p : Path) → strip (s ++ v) p ≡ and_then (strip s p) (strip v)
strip-two [] v p = refl
strip-two (c ∷ s) v [] = refl
strip-two (c ∷ s) v (d ∷ p) = cut-at (same_bytes c d) (strip (s ++ v) p) (strip s p) (strip v) (strip-two s v p)

pub strip-in : (s v r : Path) → strip (s ++ v) (s ++ r) ≡ strip v r
strip-in s v r = strip-two s v (s ++ r) ∙ ap (λ o. and_then o (strip v)) (strip-self s r)

pub strip-past : (u w r : Path) → strip u ((u ++ w) ++ r) ≡ Some (w ++ r)
strip-past u w r = ap (strip u) (append_assoc u w r) ∙ strip-self u (w ++ r)

-- two lists of which neither begins with the other stay apart
pub strip-apart : (u t r : Path) → strip u t ≡ None → strip t u ≡ None → strip u (t ++ r) ≡ None
strip-apart [] t r e h = absurd (none-some t (sym e))
strip-apart (c ∷ u) [] r e h = absurd (none-some (c ∷ u) (sym h))
strip-apart (c ∷ u) (d ∷ t) r e h = apart-at (same_bytes c d) (same_bytes d c) (strip u t) (strip t u) (strip u (t ++ r)) (eq-sym c d) e h (strip-apart u t r)
  where
    apart-at : (b b' : Bool) (x y z : Option Path) → b ≡ b' → cond b x None ≡ None → cond b' y None ≡ None → (x ≡ None → y ≡ None → z ≡ None) → cond b z None ≡ None
    apart-at true true x y z e f g k = k f g
    apart-at true false x y z e f g k = absurd (true≢false e)
    apart-at false b' x y z e f g k = refl

pub proper-some : (o : Option Path) (r : Path) → proper o ≡ Some r → o ≡ Some r
proper-some None r e = e
proper-some (Some []) r e = absurd (none-some r e)
proper-some (Some (c ∷ q)) r e = e

pub whole-some : (o : Option Path) (r : Path) → whole o ≡ Some r → (o ≡ Some []) × (r ≡ [])
whole-some None r e = absurd (none-some r e)
whole-some (Some []) r e = (refl, sym (same_Some [] r e))
whole-some (Some (c ∷ q)) r e = absurd (none-some r e)

-- `strip` read by index.
use Rattle.std.specs.Prelude.{◌≡◌, refl, ℕ, ◌+◌, ◌<◌, ◌≤◌, List, [], ◌∷◌, length, drop, Option, Some, None, cond, Bool, true, false, is_some}
use Rattle.std.proofs.Common.{◌∙◌, ap, sym, arith, get_or, true≢false}
use Rattle.std.proofs.lemmas.List.{at_drop_more, at_drop_all, get_or_append_left}
use Rattle.std.proofs.lemmas.Option.{same_Some, slice_get-get_or}
use Rattle.decision_lists.proofs.Strip.{eq-self, strip-is}
use Rattle.decision_lists.specs.Fronts.{strip}
use Rattle.git_objects.specs.Paths.{Path, same_bytes}

cond-no : (b : Bool) (o : Option Path) → is_some o ≡ false → is_some (cond b o None) ≡ false
cond-no true o e = e
cond-no false o e = refl

pub strip-long : (s p : Path) → length p < length s → is_some (strip s p) ≡ false
strip-long [] p l = absurd (omega (arith, l))
strip-long (c ∷ s) [] l = refl
strip-long (c ∷ s) (d ∷ p) l = cond-no (same_bytes c d) (strip s p) (strip-long s p (omega (arith, l)))

pub strip-step : (s p : Path) (i : ℕ) (d : List ℕ) → i < length s → i < length p
    → strip (drop i s) (drop i p) ≡ cond (same_bytes (get_or s i d) (get_or p i d)) (strip (drop (i + 1) s) (drop (i + 1) p)) None
strip-step s p i d l m =
    at_drop_more (λ x. strip x (drop i p)) s i d l ∙ at_drop_more (λ x. strip (get_or s i d ∷ drop (i + 1) s) x) p i d m

pub strip-done : (s p : Path) (i : ℕ) → length s ≤ i → strip (drop i s) (drop i p) ≡ Some (drop i p)
strip-done s p i l = at_drop_all (λ x. strip x (drop i p)) s i l

differs-at : (s p : Path) (i : ℕ) (x y : List ℕ) (o : Option Path) → i < length s → x ≡ get_or s i x → y ≡ get_or p i y → same_bytes x y ≡ false → strip s p ≡ o → is_some o ≡ false
differs-at s p i x y None l g h n e = refl
differs-at s p i x y (Some r) l g h n e =
    let there : Some (get_or s i y) ≡ Some (get_or s i x) = sym (slice_get-get_or s i y l) ∙ slice_get-get_or s i x l in
    let same : y ≡ x = h ∙ ap (λ q. get_or q i y) (strip-is s p r e) ∙ get_or_append_left s r y i l ∙ same_Some (get_or s i y) (get_or s i x) there ∙ sym g in
    absurd (true≢false (sym (ap (same_bytes x) same ∙ eq-self x) ∙ n))

pub strip-differs : (s p : Path) (i : ℕ) (x y : List ℕ) → i < length s → x ≡ get_or s i x → y ≡ get_or p i y → same_bytes x y ≡ false → is_some (strip s p) ≡ false
strip-differs s p i x y l g h n = differs-at s p i x y (strip s p) l g h n refl

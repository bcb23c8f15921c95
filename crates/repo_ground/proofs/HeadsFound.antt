-- The commit of a ref among settings.
use Rattle.std.proofs.Common.{◌≡◌, ◌<◌, ℕ, zero, suc, true, false, cond, List, [], ◌∷◌, length, map, take, get_or, None, Some, sym, ap, ◌∙◌, arith}
use Rattle.std.specs.FinMap.{find}
use Rattle.std.specs.Ordering.{is_eq}
use Rattle.std.specs.Cmp.Lexicographic.{texts_ties}
use Rattle.std.proofs.lemmas.Option.{none-some}
use Rattle.git_objects.specs.Paths.{Bytes, same_bytes}
use Rattle.git_objects.specs.Refs.{bytes_cmp}
use Rattle.git_objects.proofs.Basics.{same_bytes-back}
use Rattle.fast_import.specs.Replaying.{setting_value}
use Rattle.fast_import.specs.declared.replayed.Setting.{Setting}

ties : (q k : Bytes) → is_eq (bytes_cmp q k) ≡ same_bytes k q
ties q k = sym (texts_ties q k) ∙ same_bytes-back q k

-- a setting of that name, none of which stands before it
pub found-at : (q : Bytes) (xs : List Setting) (i : ℕ) (d : Setting) → i < length xs → find bytes_cmp q (map setting_value (take i xs)) ≡ None → same_bytes (get_or xs i d).refname q ≡ true
    → Some (get_or xs i d).head.0 ≡ find bytes_cmp q (map setting_value xs)
found-at q [] i d l n e = absurd (omega (arith, l))
found-at q (x ∷ xs) zero d l n e = sym (ap (λ b. cond b (Some x.head.0) (find bytes_cmp q (map setting_value xs))) (ties q x.refname ∙ e))
found-at q (x ∷ xs) (suc i) d l n e =
    elim (is_eq (bytes_cmp q x.refname)) as (λ b. cond b (Some x.head.0) (find bytes_cmp q (map setting_value (take i xs))) ≡ None
    → Some (get_or xs i d).head.0 ≡ cond b (Some x.head.0) (find bytes_cmp q (map setting_value xs))) [
      | true ↦ λ k. absurd (none-some x.head.0 (sym k))
      | false ↦ λ k. found-at q xs i d (omega (arith, l)) k e
    ] n

-- a setting of another name, up to which none is found
pub not-at : (q : Bytes) (xs : List Setting) (i : ℕ) (d : Setting) → i < length xs → find bytes_cmp q (map setting_value (take i xs)) ≡ None → same_bytes (get_or xs i d).refname q ≡ false
    → find bytes_cmp q (map setting_value (take (suc i) xs)) ≡ None
not-at q [] i d l n e = absurd (omega (arith, l))
not-at q (x ∷ []) zero d l n e = ap (λ b. cond b (Some x.head.0) None) (ties q x.refname ∙ e)
not-at q (x ∷ y ∷ xs) zero d l n e = ap (λ b. cond b (Some x.head.0) None) (ties q x.refname ∙ e)
not-at q (x ∷ xs) (suc i) d l n e =
    elim (is_eq (bytes_cmp q x.refname)) as (λ b. cond b (Some x.head.0) (find bytes_cmp q (map setting_value (take i xs))) ≡ None
    → cond b (Some x.head.0) (find bytes_cmp q (map setting_value (take (suc i) xs))) ≡ None) [
      | true ↦ λ k. k
      | false ↦ λ k. not-at q xs i d (omega (arith, l)) k e
    ] n

-- One projection after another.
use Rattle.std.proofs.Common.{◌≡◌, ◌+◌, ◌<◌, ◌≤◌, ℕ, Bool, true, false, cond, List, map, drop, get_or, length, Option, Some, None, sym, ap, ◌∙◌}
use Rattle.std.specs.List.{find}
use Rattle.std.proofs.lemmas.List.{at_drop_more, at_drop_all}
use Rattle.commit_map.specs.Shown.{Shown, shown_value}
use Rattle.commit_map.specs.declared.commit_map.Shown as code

module _ (test : Shown → Bool) (ms : List code.Shown) where
  abbrev pub from : List code.Shown → Option Shown
  from xs = find test (map shown_value xs)

  pub next : (i : ℕ) (d : code.Shown) → i < length ms → from (drop i ms) ≡ cond (test (shown_value (get_or ms i d))) (Some (shown_value (get_or ms i d))) (from (drop (i + 1) ms))
  next i d l = at_drop_more from ms i d l

  pub passed-by : (i : ℕ) (d : code.Shown) → i < length ms → false ≡ test (shown_value (get_or ms i d)) → from ms ≡ from (drop i ms) → from ms ≡ from (drop (i + 1) ms)
  passed-by i d l e h = h ∙ next i d l ∙ ap (λ b. cond b (Some (shown_value (get_or ms i d))) (from (drop (i + 1) ms))) (sym e)

  pub found-here : (i : ℕ) (d : code.Shown) → i < length ms → true ≡ test (shown_value (get_or ms i d)) → from ms ≡ from (drop i ms) → from ms ≡ Some (shown_value (get_or ms i d))
  found-here i d l e h = h ∙ next i d l ∙ ap (λ b. cond b (Some (shown_value (get_or ms i d))) (from (drop (i + 1) ms))) (sym e)

  pub none-found : (i : ℕ) → length ms ≤ i → from ms ≡ from (drop i ms) → from ms ≡ None
  none-found i l h = h ∙ at_drop_all from ms i l

-- How much of a limit paths take.
use Rattle.std.proofs.Common.{◌≡◌, ℕ, ◌+◌, ◌-◌, ◌<◌, ◌≤◌, true, false, cond, ◌^◌, ◌∷◌, length, drop, get_or, Some, None, sym, ap, ◌∙◌, arith}
use Rattle.std.specs.Prelude.{nat_le}
use Rattle.std.proofs.lemmas.Bool.Decides.{nat_tests}
use Rattle.std.proofs.lemmas.List.{drop_all, drop_more}
use Rattle.git_objects.specs.Paths.{Bytes, Path}
use Rattle.stage_tree.specs.declared.limits.Measure.{Measure}
use Rattle.stage_tree.specs.declared.limits.Measure.TheVariants.{Components, Bytes as ByBytes}
use Rattle.stage_tree.specs.Limits.{cost, room_left, weight}

pub le_more : (left w n : ℕ) → w ≤ left → nat_le n (left - w) ≡ nat_le (w + n) left
le_more left w n h = grind (arith, nat_tests)

pub le_true : (n m : ℕ) → n ≤ m → nat_le n m ≡ true
le_true n m h = grind (arith, nat_tests)

pub le_false : (n m : ℕ) → m < n → nat_le n m ≡ false
le_false n m h = grind (arith, nat_tests)

pub le_holds : (n m : ℕ) → nat_le n m ≡ true → n ≤ m
le_holds n m h = grind (arith, nat_tests)

pub left_more : (left w n : ℕ) → w ≤ left → room_left (left - w) n ≡ room_left left (w + n)
left_more left w n h =
    let less : left - w - n ≡ left - (w + n) = omega arith in
    λ i. cond (le_more left w n h i) (Some (less i)) None

pub left_none : (left w n : ℕ) → left < w → None ≡ room_left left (w + n)
left_none left w n h = sym (ap (λ b. cond b (Some (left - (w + n))) None) (le_false (w + n) left (omega arith)))

-- a path by what is left of it
pub cost_drop : (m : Measure) (p : Path) (i : ℕ) (c : Bytes) → i < length p → c ≡ get_or p i c → cost m (drop i p) ≡ weight m (length c) + cost m (drop (i + 1) p)
cost_drop m p i c h e = ap (cost m) (drop_more p i c h ∙ (λ v. sym e v ∷ drop (i + 1) p))

pub cost_end : (m : Measure) (p : Path) (i : ℕ) → length p ≤ i → cost m (drop i p) ≡ 0
cost_end m p i h = ap (cost m) (drop_all i p h)

pub left_all : (left : ℕ) (n : ℕ) → n ≡ 0 → Some left ≡ room_left left n
left_all left n e =
    let same : left - 0 ≡ left = omega arith in
    sym (ap (room_left left) e ∙ ap (λ b. cond b (Some (left - 0)) None) (le_true 0 left (omega arith)) ∙ ap Some same)

pub weight_small : (m : Measure) (n : ℕ) → n < 2 ^ 63 → weight m n < 2 ^ 64
weight_small Components n h = omega arith
weight_small ByBytes n h = omega arith

pub room_less : (limit n room : ℕ) → Some room ≡ room_left limit n → room ≤ limit
room_less limit n room = elim (nat_le n limit) as (λ b. Some room ≡ cond b (Some (limit - n)) None → room ≤ limit) [
  | true ↦ λ h. let is : room ≡ limit - n = cc in omega arith
  | false ↦ λ h. absurd cc
]

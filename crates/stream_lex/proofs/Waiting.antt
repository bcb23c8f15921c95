-- Lines and blocks are read by readers, of which it is known what they wait for.
use Rattle.std.proofs.Common.{◌≡◌, ◌+◌, ◌-◌, ◌<◌, ◌≤◌, ℕ, zero, suc, Bool, true, false, length, drop, Option, Some, None, Ok, Err, refl, sym, ap, ◌∙◌, arith, subst}
use Rattle.git_objects.specs.declared.limits.TheConstants.{STREAM_BYTES}
use Rattle.stream_lex.specs.declared.stop.Wanted.{Wanted}
use Rattle.stream_lex.specs.declared.stop.Wanted.TheVariants as wants
use Rattle.stream_lex.specs.declared.stop.Stop.TheVariants.{More, Fault}
use Rattle.stream_lex.specs.Lines.{Input, Line, Lex, any_line, line_at, is_comment, block_at}
use Rattle.stream_lex.specs.Cutting.{grown, Steps, from_place, WaitsOn, IsReader}
use Rattle.stream_lex.proofs.Combining.{waits_later, waits_as}
use Rattle.stream_lex.proofs.Settling.{line_at-settles, block_at-settles}
use Rattle.stream_lex.proofs.Fuel.{line_err, line_none, line_some, line_skip, moves_some}
use Rattle.stream_lex.proofs.Advance.{any_line-steps, line_at-steps, block_at-steps}
use Rattle.stream_lex.proofs.Passing.{past_one}
use Rattle.stream_lex.proofs.Spelled.{Told, any_line-told}
use Rattle.stream_lex.proofs.BlockSpelled.{BlockTold, block_at-told}
use Rattle.stream_lex.proofs.Whole.{line_at-whole, block_at-whole}

from_here : (i : Input) → from_place i.at i ≡ i
from_here i = let n : i.at - i.at ≡ 0 = omega arith in λ k. record { at = i.at; rest = drop (n k) i.rest }

-- what begins here is waited for
line_here : (i : Input) → i.at + length i.rest ≤ STREAM_BYTES → WaitsOn (λ more. line_at false (grown more i)) i (wants.Line i.at)
line_here i h = record {
  from = omega arith;
  room = omega arith;
  few = h;
  still = λ more v a. ap (line_at false) (sym (from_here (grown more i))) ∙ a;
}

block_here : (n : ℕ) (i : Input) → i.at + length i.rest ≤ STREAM_BYTES → WaitsOn (λ more. block_at n false (grown more i)) i (wants.Block i.at n)
block_here n i h = record {
  from = omega arith;
  room = omega arith;
  few = h;
  still = λ more v a. ap (block_at n false) (sym (from_here (grown more i))) ∙ a;
}

-- behind a comment, by what is waited for there
module _ (i : Input) (w : Wanted) (e : line_at false i ≡ Err (More w)) (next : (j : Input) → length j.rest < length i.rest → line_at false j ≡ Err (More w) → WaitsOn (λ more. line_at false (grown more j)) j w) where
  behind : (l : Line) (j : Input) → any_line false i ≡ Ok (Some l, j) → (b : Bool) → is_comment l.bytes ≡ b → WaitsOn (λ more. line_at false (grown more i)) i w
  behind l j p false c = let told = line_some false i j l p c in let no : ⊥ = cc in absurd no
  behind l j p true c =
      let u = next j (moves_some false i j l p).0 (sym (line_skip false i j l p c) ∙ e) in
      waits_as (λ more. line_at false (grown more j)) (λ more. line_at false (grown more i)) i w (λ more v a. past_one i j l p c false more ∙ a)
      (waits_later (λ more. line_at false (grown more j)) i j w (subst (Steps i) p (any_line-steps false i)) u)

  one_line : (r : Lex (Option Line)) → any_line false i ≡ r → WaitsOn (λ more. line_at false (grown more i)) i w
  one_line (Ok (Some l, j)) p = behind l j p (is_comment l.bytes) refl
  one_line (Ok (None, j)) p = let told = line_none false i j p in let no : ⊥ = cc in absurd no
  one_line (Err (More v)) p =
      let told = subst (Told false i) p (any_line-told false i) in
      let same : v ≡ w = (let g = line_err false i i (More v) p in cc) in
      subst (WaitsOn (λ more. line_at false (grown more i)) i) (sym told.2 ∙ same) (line_here i told.1)
  one_line (Err (Fault f)) p = let told = line_err false i i (Fault f) p in let no : ⊥ = cc in absurd no

line_waits_within : (n : ℕ) (i : Input) → length i.rest < n → (w : Wanted) → line_at false i ≡ Err (More w) → WaitsOn (λ more. line_at false (grown more i)) i w
line_waits_within zero i h w e = absurd (omega arith)
line_waits_within (suc n) i h w e = one_line i w e (λ j k. line_waits_within n j (omega (arith, h, k)) w) (any_line false i) refl

line_at-waits : (i : Input) (w : Wanted) → line_at false i ≡ Err (More w) → WaitsOn (λ more. line_at false (grown more i)) i w
line_at-waits i w e = line_waits_within (length i.rest + 1) i (omega arith) w e

block_at-waits : (n : ℕ) (i : Input) (w : Wanted) → block_at n false i ≡ Err (More w) → WaitsOn (λ more. block_at n false (grown more i)) i w
block_at-waits n i w e =
    let told = subst (BlockTold n false i) e (block_at-told n false i) in
    subst (WaitsOn (λ more. block_at n false (grown more i)) i) (sym told.3) (block_here n i told.1)

pub line_at-reader : IsReader line_at
line_at-reader = record { settles = line_at-settles; steps = line_at-steps; told = line_at-whole; waits = line_at-waits }

pub block_at-reader : (n : ℕ) → IsReader (block_at n)
block_at-reader n = record { settles = block_at-settles n; steps = block_at-steps n; told = block_at-whole n; waits = block_at-waits n }

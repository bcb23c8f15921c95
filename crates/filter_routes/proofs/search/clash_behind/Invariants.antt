use Rattle.std.proofs.Common.{◌≡◌, ◌<◌, ℕ, false}
use Rattle.filter_routes.specs.Searching.{clash_at}
use Rattle.filter_routes.proofs.search.clash_behind.Given as goal

abbrev pub invariant-loop-second : goal.invariant-loop-second
invariant-loop-second l =
    (d : ℕ) → l.first < d → d < l.second → clash_at l.lists l.first d ≡ false

use Rattle.std.proofs.Common.{◌≡◌, ◌<◌, ℕ, false}
use Rattle.filter_routes.specs.Searching.{clash_at}
use Rattle.filter_routes.proofs.search.first_clash.Given as goal

abbrev pub invariant-loop-first : goal.invariant-loop-first
invariant-loop-first l =
    (a : ℕ) → a < l.first → (b : ℕ) → a < b → clash_at l.lists a b ≡ false

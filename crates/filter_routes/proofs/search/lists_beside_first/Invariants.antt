use Rattle.std.proofs.Common.{◌≡◌, ◌<◌, ℕ, length, take}
use Rattle.filter_text.specs.Shapes.{shapes}
use Rattle.filter_routes.specs.Faults.{PairAt}
use Rattle.filter_routes.specs.Searching.{AreListsOf}
use Rattle.filter_routes.proofs.search.lists_beside_first.Given as goal

abbrev pub invariant-loop-second : goal.invariant-loop-second
invariant-loop-second l = record {
  lists : AreListsOf (shapes (take l.second l.members)) l.lists.items;
  count : length l.lists.items ≡ l.second;
  apart : (d : ℕ) → d < l.second → PairAt (shapes l.members) 0 d → ⊥;
}

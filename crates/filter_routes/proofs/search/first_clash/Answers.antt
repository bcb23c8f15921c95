use Rattle.std.proofs.Common.{◌≡◌, ◌<◌, ℕ, false, subst}
use borrow.Author.Count.{below_more}
use Rattle.filter_routes.specs.Searching.{clash_at, ClashBehind}
use Rattle.filter_routes.proofs.Finding.{first-pair}
use Rattle.filter_routes.proofs.search.first_clash.Goals as goal

pub returns-in-Some : goal.returns-in-Some
returns-in-Some c =
    let vs = c.args.lists.now in
    let a = c.loop-first.first in
    first-pair vs a c.in-Some.second c.loop-first.invariant (subst (ClashBehind vs a) c.in-Some.is c.in_ok-second.ensures)

pub loop-first-preserved : goal.loop-first-preserved
loop-first-preserved c =
    let vs = c.args.lists.now in
    let a = c.loop-first.first in
    below_more (λ k. (b : ℕ) → k < b → clash_at vs k b ≡ false) a c.loop-first.invariant
    (subst (ClashBehind vs a) c.in_default.is c.in_ok-second.ensures)

use Rattle.std.proofs.Common.{sym, subst}
use Rattle.filter_text.specs.Shapes.{shapes}
use Rattle.filter_routes.specs.Searching.{AreListsOf, FirstClash}
use Rattle.filter_routes.proofs.Finding.{none-clash, first-clash, few-apart}
use Rattle.filter_routes.proofs.search.are_apart.Goals as goal

pub returns-then-members-lt2-clause-apart : goal.returns-then-members-lt2-clause-apart
returns-then-members-lt2-clause-apart c = few-apart c.args.members.now c.if-members-lt2.true

pub returns-in-None-clause-apart : goal.returns-in-None-clause-apart
returns-in-None-clause-apart c =
    none-clash (shapes c.args.members.now) c.as_slice.result.now
    (subst (AreListsOf (shapes c.args.members.now)) (sym c.as_slice.ensures.value) c.in_ok-lists.ensures.lists)
    (subst (FirstClash c.as_slice.result.now) c.in-None.is c.in_ok-first_clash.ensures)

pub returns-clause-pair : goal.returns-clause-pair
returns-clause-pair c =
    let fs = shapes c.args.members.now in
    c.overlap_of.ensures fs
    (first-clash c.args.number fs c.as_slice.result.now c.in-Some.first c.in-Some.second
    (subst (AreListsOf fs) (sym c.as_slice.ensures.value) c.in_ok-lists.ensures.lists)
    (subst (FirstClash c.as_slice.result.now) c.in-Some.is c.in_ok-first_clash.ensures))

use Rattle.std.proofs.Common.{sym, subst, ◌∙◌}
use Rattle.std.specs.Cmp.Lexicographic.{bytes_decides}
use Rattle.git_objects.specs.Views.{entry_value}
use Rattle.path_trees.specs.Searches.{IsFrom}
use Rattle.path_trees.proofs.Searching.{passed_by, behind_found, none_left}
use Rattle.path_trees.proofs.finder.sought.Goals as goal

pub returns-then-eq-clause-rest : goal.returns-then-eq-clause-rest
returns-then-eq-clause-rest c =
    let w = c.args.component.now in
    let e = c.in-Some.entry in
    behind_found w c.args.entries c.entries.ahead c.entries.rest c.next.new.self (entry_value e) c.entries.invariant.same c.in-Some.ensures.entry c.next.ensures.rest c.entries.invariant.from
    ((bytes_decides w e.component.now).0 (sym c.eq.ensures ∙ c.if-eq.true))

pub returns-then-precedes-clause-found : goal.returns-then-precedes-clause-found
returns-then-precedes-clause-found c =
    none_left c.args.component.now c.args.entries c.entries.ahead c.entries.rest c.next.new.self (entry_value c.in-Some.entry) c.entries.invariant.same c.in-Some.ensures.entry c.next.ensures.rest c.entries.invariant.from
    (sym c.eq.ensures ∙ c.if-eq.false) (sym c.precedes.ensures ∙ c.if-precedes.true)

pub entries-preserved : goal.entries-preserved
entries-preserved c =
    let passed = passed_by c.args.component.now c.args.entries c.entries.ahead c.entries.rest c.next.new.self (entry_value c.in-Some.entry) c.entries.invariant.same c.in-Some.ensures.entry c.next.ensures.rest c.entries.invariant.from
    (sym c.eq.ensures ∙ c.if-eq.false) (sym c.precedes.ensures ∙ c.if-precedes.false) in
    record { same = sym c.copy-rest.ensures; from = subst (IsFrom c.args.component.now c.args.entries) (sym c.copy-rest.ensures) passed }

use Rattle.std.proofs.Common.{length, sym, ap, arith, length-take}
use Rattle.git_objects.specs.Views.{entry_value}
use Rattle.git_objects.proofs.Beside.{beside, line-is, long, size}
use Rattle.git_objects.proofs.tree_view.first_beside.Goals as goal

pub overflow_sub-body : goal.overflow_sub-body
overflow_sub-body c =
    let whole = size c.args.body.now (entry_value c.in_ok-entry.entry) c.in_ok-entry.after.now (sym c.in_ok-entry.ensures) in
    omega arith

pub overflow_sub-line : goal.overflow_sub-line
overflow_sub-line c =
    let b = c.args.body.now in
    let e = entry_value c.in_ok-entry.entry in
    let r = c.in_ok-entry.after.now in
    let first = sym c.in_ok-entry.ensures in
    let line = line-is b e r first c.split_at.result.0.now c.split_at.ensures.front in
    omega (arith, ap length line, long b e r first)

pub returns-clause-other : goal.returns-clause-other
returns-clause-other c =
    let text = c.in_ok-text.ensures.cases in
    let name = c.in_ok-name.ensures.cases in
    beside c.args.body.now (entry_value c.in_ok-entry.entry) c.in_ok-entry.after.now (sym c.in_ok-entry.ensures) c.args.other.now c.split_at.result.0.now c.split_at-2.result.0.now c.in_ok-text.text.now c.in_ok-name.name.now c.in_ok-name.behind.now
    c.split_at.ensures.front c.split_at-2.ensures.front text.0 text.1 name.0 name.1 (omega (arith, ap length name.0, length-take 20 c.in_ok-text.text.now, name.2))

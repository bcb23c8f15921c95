use Rattle.std.proofs.Common.{◌≡◌, Some, sym, ap, ◌∙◌, true≢false, arith}
use Rattle.git_objects.specs.Paths.{Bytes}
use Rattle.git_objects.specs.Bodies.{entry_from}
use Rattle.git_objects.specs.Views.{entry_value}
use Rattle.git_objects.specs.declared.entry.Entry.{Entry}
use Rattle.git_objects.proofs.IdentSpelling.{some_same}
use Rattle.git_objects.proofs.TreeReading.{entry-shorter, same-first, same-taken}
use Rattle.git_objects.proofs.tree_view.after_same.Goals as goal

pub slice_bounds-line-count : goal.slice_bounds-line-count
slice_bounds-line-count c =
    let less = entry-shorter c.args.a.now (entry_value c.in_ok-after.field-0-0, c.in_ok-after.after.now) (sym c.in_ok-after.ensures) in
    omega arith

pub returns-clause-same : goal.returns-clause-same
returns-clause-same c =
    let first = sym c.in_ok-after.ensures in
    let other = c.in_ok-other_after.ensures.cases in
    let e = entry_value c.in_ok-after.field-0-0 in
    (e, first, same-first c.args.a.now c.args.b.now e c.in_ok-after.after.now first c.in_ok-other_after.other_after.now other.0 other.1)

pub returns-in_err-other_after-clause-apart : goal.returns-in_err-other_after-clause-apart
returns-in_err-other_after-clause-apart c none e r s f g =
    let first = sym c.in_ok-after.ensures in
    let read = entry_value c.in_ok-after.field-0-0 in
    let pair : (read, c.in_ok-after.after.now) ≡ (e, r) = some_same (read, c.in_ok-after.after.now) (e, r) (sym first ∙ f) in
    let there : entry_from c.args.b.now ≡ Some (read, s) = g ∙ ap (λ (p : Entry × Bytes). Some (p.0, s)) (sym pair) in
    true≢false (sym (same-taken c.args.a.now c.args.b.now read c.in_ok-after.after.now first s there) ∙ c.in_err-other_after.ensures.cases)

use Rattle.std.proofs.Common.{◌≤◌, length, arith, sym, ◌∙◌}
use Rattle.filter_unapply.proofs.Runs.{both-so, run-more, run-one}
use Rattle.filter_unapply.proofs.sifting.run_start.Goals as goal

pub entries-init : goal.entries-init
entries-init c = record {
  before = omega (arith, c.requires.some);
  alike = run-one c.stays-kept.result c.args.list.now c.args.end 0 c.index-list-first.result c.requires.some c.requires.within c.index-list-first.is (sym c.stays-kept.ensures);
}

pub entries-preserved : goal.entries-preserved
entries-preserved c =
    let before = c.entries.invariant.before in
    let within : c.entries.first ≤ length c.args.list.now = omega (arith, before, c.requires.within) in
    let same = both-so c.stays.result c.stays-kept.result c.if-stays-kept.true in
    record {
      before = omega (arith, before);
      alike = run-more c.stays-kept.result c.args.list.now c.entries.first c.args.end c.index-list-first-in-entries.result c.entries-test.true within c.index-list-first-in-entries.is (sym c.stays.ensures ∙ same) (omega (arith, before)) c.entries.invariant.alike;
    }

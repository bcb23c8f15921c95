use Rattle.std.proofs.Common.{◌-◌, [], ◌∙◌}
use Rattle.std.specs.Option.{option_copied}
use Rattle.state_items.specs.Changes.{with_refs}
use Rattle.state_items.specs.Items.{refs_field}
use Rattle.state_items.proofs.Stopping.{stop-along}
use Rattle.state_items.proofs.RefRuns.{refs-more, refs-stop}
use Rattle.state_items.proofs.ref_fields.set_refs.Goals as goal

pub loop-i-preserved : goal.loop-i-preserved
loop-i-preserved c = record {
  rest = c.loop-i.invariant.rest
      ∙ refs-more c.args.held.now.objects (option_copied c.loop-i.before) (with_refs [] c.loop-i.refs) c.loop-i.cursor c.args.count c.loop-i.i c.in-Ok.name.now (with_refs [] c.set_ref.new.refs) c.set_ref.new.cursor c.loop-i-test.true c.in-Ok.ensures.one;
  heads = c.in-Ok.ensures.heads;
  distinct = c.in-Ok.ensures.distinct;
}

pub returns-in-Err-clause-refs : goal.returns-in-Err-clause-refs
returns-in-Err-clause-refs c =
    stop-along c.in-Err.fault _ (refs_field (c.args.count - c.loop-i.i) c.args.held.now.objects (option_copied c.loop-i.before) (with_refs [] c.loop-i.refs) c.loop-i.cursor) c.loop-i.invariant.rest
    (refs-stop c.args.held.now.objects (option_copied c.loop-i.before) (with_refs [] c.loop-i.refs) c.loop-i.cursor c.args.count c.loop-i.i c.in-Err.fault c.loop-i-test.true c.in-Err.ensures.one)

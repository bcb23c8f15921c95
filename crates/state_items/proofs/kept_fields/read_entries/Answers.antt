use Rattle.std.proofs.Common.{◌-◌, ◌∙◌}
use Rattle.state_items.specs.Steps.{entries_step}
use Rattle.state_items.proofs.Stopping.{stop-along}
use Rattle.state_items.proofs.EntryRuns.{entries-more, entries-stop}
use Rattle.state_items.proofs.kept_fields.read_entries.Goals as goal

pub loop-i-preserved : goal.loop-i-preserved
loop-i-preserved c =
    c.loop-i.invariant
    ∙ entries-more c.args.held.now.objects c.loop-i.map c.loop-i.cursor c.args.count c.loop-i.i c.read_entry.new.map c.read_entry.new.cursor c.loop-i-test.true c.in-Ok.ensures

pub returns-in-Err : goal.returns-in-Err
returns-in-Err c =
    stop-along c.in-Err.fault _ (entries_step (c.args.count - c.loop-i.i) c.args.held.now.objects c.loop-i.map c.loop-i.cursor) c.loop-i.invariant
    (entries-stop c.args.held.now.objects c.loop-i.map c.loop-i.cursor c.args.count c.loop-i.i c.in-Err.fault c.loop-i-test.true c.in-Err.ensures)

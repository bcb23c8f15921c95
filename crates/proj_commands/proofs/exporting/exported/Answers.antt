-- Proves what src/exporting.rt needs of `exported`.
use Rattle.std.proofs.Common.{List, Some, sym, ap}
use Rattle.git_objects.specs.Paths.{Bytes}
use Rattle.filter_text.specs.Shapes.{shape}
use Rattle.memory_devices.specs.Turns.{SinkState, no_fault}
use Rattle.proj_io.specs.Views.{KeeperView}
use Rattle.state_items.specs.Items.{Held}
use Rattle.proj_commands.proofs.CommandsMade.{export-done, export-refused, given-quiet, quiet-made}
use Rattle.proj_commands.proofs.exporting.exported.Goals as goal
use Rattle.proj_commands.proofs.ExportRefusals.{no-read, not-store}

pub returns-in-Done-clause-made : goal.returns-in-Done-clause-made
returns-in-Done-clause-made c = λ (items : List Bytes) (h : Held) (k : KeeperView) w.
    export-done c.args.tagged h (shape c.args.subject.now.filter) c.args.subject.now.refname _ _ items c.args.state.now c.export.new.state k c.into_bytes.result
    (ap (λ (s : SinkState). Some s.bytes) c.new-out.ensures) (ap Some (sym c.into_bytes.ensures)) (c.in-Done.ensures.exported items h w)

pub returns-in-Done-clause-early : goal.returns-in-Done-clause-early
returns-in-Done-clause-early c = given-quiet c.into_bytes.result

pub returns-in_default : goal.returns-in_default
returns-in_default c =
    let q = c.requires.state in
    let made = c.export.ensures.exported in
    let write = no_fault c.export.ensures.cause in
    record {
      made = λ (items : List Bytes) (h : Held) (k : KeeperView) w.
          export-refused c.args.tagged h (shape c.args.subject.now.filter) c.args.subject.now.refname _ _ items c.args.state.now c.export.new.state k c.export.result c.in_default.not-Done write (made items h w);
      early =
          quiet-made c.export.result write (no-read _ q.0 q.1 c.args.state.now c.export.new.state _ _ c.export.result (made q.0 q.1 q.2))
          (not-store _ q.0 q.1 c.args.state.now c.export.new.state _ _ c.export.result (made q.0 q.1 q.2));
    }

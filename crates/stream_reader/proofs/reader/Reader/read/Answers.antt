use Rattle.std.proofs.Common.{◌∙◌, sym, inr}
use Rattle.stream_lex.specs.declared.stop.Stop.TheVariants as stops
use Rattle.stream_reader.specs.Readers.{reading}
use Rattle.stream_reader.proofs.Reading.{before_itself, told_command, told_end, told_halt, before_same, skipped_before, shorter}
use Rattle.stream_reader.proofs.Waiting.{still_waiting, waits_told}
use Rattle.stream_reader.proofs.reader.Reader.read.Goals as goal

pub invariant_of-self : goal.invariant_of-self
invariant_of-self c =
    (still_waiting c.self.inside.waits c.still_wanted-self-inside.result c.self.inside.progress c.self.inside.lexer c.self.invariant
    c.still_wanted-self-inside.ensures (sym c.is_some.ensures ∙ c.if-is_some.true)).1

pub returns-then-is_some : goal.returns-then-is_some
returns-then-is_some c =
    let t =
    still_waiting c.self.inside.waits c.still_wanted-self-inside.result c.self.inside.progress c.self.inside.lexer c.self.invariant
    c.still_wanted-self-inside.ensures (sym c.is_some.ensures ∙ c.if-is_some.true) in
    let here = before_same c.args.self.now c.args.self.now (reading c.self.inside.progress c.self.inside.lexer) (before_itself c.args.self.now) c.self.view_is in
    ((t.0.0, told_halt c.args.self.now (reading c.self.inside.progress c.self.inside.lexer) here (stops.More t.0.0) t.0.1), here)

pub invariant_of-self-in-Err-More : goal.invariant_of-self-in-Err-More
invariant_of-self-in-Err-More c =
    let t = rw c.in-Err-More.field-0-is at c.in-Err-More.ensures in
    waits_told (reading c.turns.self-inside.progress c.turns.self-inside.lexer) (reading c.advance.new.progress c.advance.new.lexer) c.in-Err-More.wanted t.0 t.1

pub returns-in-Ok-Gives : goal.returns-in-Ok-Gives
returns-in-Ok-Gives c =
    let t = rw c.in-Ok-Gives.field-0-is at c.in-Ok-Gives.ensures in (
      told_command c.args.self.now (reading c.turns.self-inside.progress c.turns.self-inside.lexer) c.turns.invariant.before c.in-Ok-Gives.placed c.advance.new.progress c.advance.new.lexer.input t.0,
      t.1 ∙ c.turns.invariant.before.ended,
    )

pub returns-in-Ok-Ends : goal.returns-in-Ok-Ends
returns-in-Ok-Ends c =
    let t = rw c.in-Ok-Ends.field-0-is at c.in-Ok-Ends.ensures in (
      told_end c.args.self.now (reading c.turns.self-inside.progress c.turns.self-inside.lexer) c.turns.invariant.before c.advance.new.progress c.advance.new.lexer.input t.0,
      t.1 ∙ c.turns.invariant.before.ended,
    )

pub returns-in-Err-More : goal.returns-in-Err-More
returns-in-Err-More c =
    let t = rw c.in-Err-More.field-0-is at c.in-Err-More.ensures in (
      (
        c.in-Err-More.wanted,
        told_halt c.args.self.now (reading c.turns.self-inside.progress c.turns.self-inside.lexer) c.turns.invariant.before (stops.More c.in-Err-More.wanted) t.0,
      ),
      before_same c.args.self.now (reading c.turns.self-inside.progress c.turns.self-inside.lexer) (reading c.advance.new.progress c.advance.new.lexer) c.turns.invariant.before t.1,
    )

pub returns-in-Err-Fault : goal.returns-in-Err-Fault
returns-in-Err-Fault c =
    let t = rw c.in-Err-Fault.field-0-is at c.in-Err-Fault.ensures in
    inr (
      told_halt c.args.self.now (reading c.turns.self-inside.progress c.turns.self-inside.lexer) c.turns.invariant.before (stops.Fault c.in-Err-Fault.fault) t.0,
      before_same c.args.self.now (reading c.turns.self-inside.progress c.turns.self-inside.lexer) (reading c.advance.new.progress c.advance.new.lexer) c.turns.invariant.before t.1,
    )

pub turns-smaller : goal.turns-smaller
turns-smaller c =
    let t = rw c.in-Ok-Skips.field-0-is at c.in-Ok-Skips.ensures in
    shorter (reading c.turns.self-inside.progress c.turns.self-inside.lexer) (reading c.advance.new.progress c.advance.new.lexer) t.0

pub turns-preserved : goal.turns-preserved
turns-preserved c =
    let t = rw c.in-Ok-Skips.field-0-is at c.in-Ok-Skips.ensures in
    record {
      before = skipped_before c.args.self.now (reading c.turns.self-inside.progress c.turns.self-inside.lexer) (reading c.advance.new.progress c.advance.new.lexer) c.turns.invariant.before t.0 t.1;
      free = c.turns.invariant.free;
    }

use Rattle.std.proofs.Common.{length, refl, arith}
use Rattle.proj_journal.specs.declared.window.Window.{Window}
use Rattle.proj_journal.proofs.WindowLemmas.{shown_within, shown_new, window_new}
use Rattle.proj_journal.proofs.window.Window.look.Goals as goal

pub returns-then-skip-self-clause-shown : goal.returns-then-skip-self-clause-shown
returns-then-skip-self-clause-shown g c =
    shown_within (g.D.Disk.content c.args.disk.now) c.args.self.now c.args.at c.saturating_sub-skip.result c.requires.shows (omega arith) (omega arith)

pub returns-clause-shown : goal.returns-clause-shown
returns-clause-shown g c =
    let window : Window = record { from = c.args.at; bytes = c.fill.new.bytes; count = c.in_ok-self.field-0 } in
    shown_new (g.D.Disk.content c.args.disk.now) window c.args.at (length c.fill.new.bytes.items) c.in_ok-self.ensures.bytes (omega (arith, c.requires.room, c.in_ok-self.ensures.room))

pub returns-clause-window : goal.returns-clause-window
returns-clause-window g c =
    let window : Window = record { from = c.args.at; bytes = c.fill.new.bytes; count = c.in_ok-self.field-0 } in
    record {
      within = c.in_ok-self.ensures.bound;
      room = omega (arith, c.requires.room, c.in_ok-self.ensures.room);
      shows = window_new (g.D.Disk.content c.args.disk.now) window c.args.at (length c.fill.new.bytes.items) c.in_ok-self.ensures.bytes c.in_ok-self.ensures.bound refl;
    }

-- Proves what src/lines.rt needs of `settings_of`.
use Rattle.std.proofs.Common.{◌∙◌, Some, ap, sym}
use Rattle.git_objects.specs.Paths.{Bytes}
use Rattle.proj_commands.proofs.Settings.{one-more}
use Rattle.proj_commands.proofs.lines.settings_of.Goals as goal

pub loop-i-preserved : goal.loop-i-preserved
loop-i-preserved c =
    one-more c.args.refs.now c.loop-i.i c.in_ok-copy.field-0 c.entry.result.1 (c.entry.ensures ∙ ap (λ (n : Bytes). Some (n, c.entry.result.1.0)) (sym c.in_ok-copy.ensures)) c.loop-i.heads.entries c.insert.new.self.entries c.loop-i.invariant c.in_ok-insert.ensures.entries

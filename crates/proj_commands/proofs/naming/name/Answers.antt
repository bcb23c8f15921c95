-- Proves what src/naming.rt needs of `name`.
use Rattle.filter_text.specs.Shapes.{shape}
use Rattle.fast_import.specs.Replays.{empty_base}
use Rattle.fast_import.proofs.Stopping.{within_none}
use Rattle.proj_commands.proofs.Intaking.{takes-none}
use Rattle.proj_commands.proofs.NamesGiven.{some-bytes, untold-memory}
use Rattle.proj_commands.proofs.naming.name.Goals as goal
use Rattle.proj_commands.specs.Intake.{tagged_waited}

pub returns-in-Err-clause-made : goal.returns-in-Err-clause-made
returns-in-Err-clause-made g c =
    let t = some-bytes (g.S.Source.left c.args.input.now) (g.met.S.Source.bytes c.args.input.now) in
    (t.0, t.2, untold-memory t.0 (shape c.args.filter.now) c.args.refname.now)

pub returns-in-Err-clause-early : goal.returns-in-Err-clause-early
returns-in-Err-clause-early g c = (λ q. cc, λ q. cc)

pub returns-in-Err-clause-told : goal.returns-in-Err-clause-told
returns-in-Err-clause-told g c = (λ t. t, λ t. t)

pub returns-in-Err-clause-taken : goal.returns-in-Err-clause-taken
returns-in-Err-clause-taken g c = takes-none (tagged_waited empty_base) (g.S.Source.left c.args.input.now)

-- ---- how much is taken

pub returns-in-Err-clause-within : goal.returns-in-Err-clause-within
returns-in-Err-clause-within g c = within_none (g.S.Source.left c.args.input.now)

-- Proves what src/reading.rt needs of `read_input`.
use Rattle.std.proofs.Common.{◌^◌, refl}
use Rattle.proj_commands.proofs.InputsRead.{input-err, input-ok}
use Rattle.proj_commands.proofs.reading.read_input.Goals as goal

pub returns-in-Ok-clause-ok : goal.returns-in-Ok-clause-ok
returns-in-Ok-clause-ok g c =
    let does = c.in-Ok.ensures in
    input-ok (g.S.Source.left c.args.input.now) c.in-Ok.taken.bytes c.in-Ok.taken.more (2 ^ 29) c.whole_input.result c.whole_input.ensures.ok does.bytes does.more

pub returns-in-Ok-clause-err : goal.returns-in-Ok-clause-err
returns-in-Ok-clause-err g c =
    let does = c.in-Ok.ensures in
    input-err (g.S.Source.left c.args.input.now) c.in-Ok.taken.bytes c.in-Ok.taken.more (2 ^ 29) c.whole_input.result refl c.whole_input.ensures.err does.more does.full

-- Proves what src/verifying.rt needs of `verify_text`.
use Rattle.filter_text.specs.Shapes.{shape}
use Rattle.proj_commands.proofs.Claims.{claim-lawful, unread-reported}
use Rattle.proj_commands.proofs.verifying.verify_text.Goals as goal

pub returns-in-Err-clause-made : goal.returns-in-Err-clause-made
returns-in-Err-clause-made g c = unread-reported (shape c.args.filter.now) c.args.commit.now.0 c.args.path.now (g.S.Source.left c.args.input.now) c.in-Err.outcome c.in-Err.ensures.err

pub returns-in-Err-clause-lawful : goal.returns-in-Err-clause-lawful
returns-in-Err-clause-lawful g c = λ all. claim-lawful c.proof_law.ensures (shape c.args.filter.now) c.args.commit.now.0 c.args.path.now all c.requires.usable c.path_law.ensures.path

pub returns-in-Ok-clause-lawful : goal.returns-in-Ok-clause-lawful
returns-in-Ok-clause-lawful g c = λ all. claim-lawful c.proof_law.ensures (shape c.args.filter.now) c.args.commit.now.0 c.args.path.now all c.requires.usable c.path_law.ensures.path

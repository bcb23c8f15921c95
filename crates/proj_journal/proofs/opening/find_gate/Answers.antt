use Rattle.proj_journal.proofs.Reached.{gate_known}
use Rattle.proj_journal.proofs.opening.find_gate.Goals as goal

pub returns-in-Ok-clause-gate : goal.returns-in-Ok-clause-gate
returns-in-Ok-clause-gate g c =
    gate_known (g.D.Disk.content c.args.disk.now) c.look.new.self c.args.number c.args.at c.args.size c.in-Ok.skip c.read_gate.result _ c.requires.size c.in-Ok.ensures.shown c.head.ensures c.read_gate.ensures.told

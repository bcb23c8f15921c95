use Rattle.std.proofs.Common.{arith}
use Rattle.std.proofs.lemmas.Grind.{common_steps}
use Rattle.fast_import.proofs.Keeping.{same-push}
use Rattle.fast_import.proofs.blobs.Blobs.add.Goals as goal

pub invariant_of-self-2 : goal.invariant_of-self-2
invariant_of-self-2 c =
    same-push c.self.inside.read.keys c.insert.new.self.keys c.self.inside.names.items c.push-pushed.new.self.items c.args.name c.self.invariant c.in_ok-insert.ensures.keys (grind (arith, common_steps))

use Rattle.git_objects.proofs.Basics.{bytes_fit}
use Rattle.git_objects.proofs.name.in_range.Goals as goal

pub returns-clause-bytes : goal.returns-clause-bytes
returns-clause-bytes c = bytes_fit c.args.bytes.now c.type_inv.bytes

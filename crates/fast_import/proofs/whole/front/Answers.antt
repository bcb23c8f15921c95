use Rattle.git_objects.proofs.Basics.{bytes_fit}
use Rattle.proj_io.proofs.Known.{front_bytes}
use Rattle.fast_import.proofs.whole.front.Goals as goal

pub returns-clause-bytes : goal.returns-clause-bytes
returns-clause-bytes c = front_bytes c.args.count c.args.piece.now (bytes_fit c.args.piece.now c.type_inv.piece)

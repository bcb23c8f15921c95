use Rattle.std.proofs.Common.{Some, ap}
use Rattle.git_objects.proofs.Basics.{bytes_fit}
use Rattle.proj_io.proofs.Known.{held_same}
use Rattle.memory_devices.proofs.source.SliceSource.new.Goals as goal

pub returns-clause-told : goal.returns-clause-told
returns-clause-told c = ap Some (held_same c.args.bytes.now (bytes_fit c.args.bytes.now c.type_inv.bytes))

use Rattle.std.proofs.Common.{ap}
use Rattle.git_objects.specs.Names.{tree_name}
use Rattle.git_objects.proofs.Maps.{same_flat}
use Rattle.git_objects.proofs.tree_laws.name_law.Goals as goal

pub returns : goal.returns
returns c = λ a b h g alike. ap tree_name (same_flat a b h.sorted g.sorted alike)

use Rattle.git_objects.proofs.Basics.{bytes_fit}
use Rattle.git_objects.proofs.component.is_plain.Goals as goal

pub returns-clause-bytes : goal.returns-clause-bytes
returns-clause-bytes c = bytes_fit _ c.type_inv.c

use Rattle.git_objects.proofs.Tops.{entries, listed}
use Rattle.git_objects.proofs.tree_laws.listing_law.Goals as goal

pub returns : goal.returns
returns c = λ t h. (entries t, listed t h)

use Rattle.git_objects.proofs.IdentSpelling as idents
use Rattle.git_objects.proofs.laws.ident_law.Goals as goal

pub returns : goal.returns
returns c = idents.ident_law

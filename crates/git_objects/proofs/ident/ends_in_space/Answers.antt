use Rattle.git_objects.proofs.Spellings.{ends-last}
use Rattle.git_objects.proofs.ident.ends_in_space.Goals as goal

pub returns-in-Some : goal.returns-in-Some
returns-in-Some c = ends-last c.args.text.now c.in-Some.x.now c.in-Some.ensures.item.3.0 c.in-Some.ensures.item.1

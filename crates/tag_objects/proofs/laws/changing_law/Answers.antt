use Rattle.tag_objects.proofs.TagLists.{changed_rises, found_changed, found_with}
use Rattle.tag_objects.proofs.laws.changing_law.Goals as goal

pub returns : goal.returns
returns c = record { rises = changed_rises; enough = found_changed; all_named = λ n tags ts. found_with n ts tags }

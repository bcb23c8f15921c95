use Rattle.std.proofs.Common.{◌∙◌, List, ap, map}
use Rattle.git_objects.specs.Parts.{name_bytes}
use Rattle.git_objects.specs.declared.name.Name.{Name}
use Rattle.history_ground.proofs.MadeHistories.{names-with}
use Rattle.history_ground.proofs.histories.add_name.Goals as goal

pub returns : goal.returns
returns c = ap (λ (ks : List Name). map name_bytes ks) c.in_ok-insert.ensures.keys ∙ names-with c.args.made.now.keys c.args.name

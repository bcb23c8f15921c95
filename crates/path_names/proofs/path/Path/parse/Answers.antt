use Rattle.std.proofs.Common.{◌∙◌, ap}
use Rattle.git_objects.specs.Paths.{is_path}
use Rattle.path_names.proofs.SplitParts.{is_path-parts}
use Rattle.path_names.proofs.path.Path.parse.Goals as goal

pub invariant_of-result : goal.invariant_of-result
invariant_of-result c = ap is_path c.in-Ok.ensures ∙ is_path-parts c.args.text.now c.in_ok-count.ensures.components

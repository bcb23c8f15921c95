use Rattle.std.proofs.Common.{◌≡◌, ◌++◌, true, length}
use Rattle.std.specs.List.{list_all}
use Rattle.git_objects.specs.Paths.{is_component}
use Rattle.path_names.specs.PathTexts.{parts}
use Rattle.path_names.proofs.parts.components_of.Given as goal

abbrev pub invariant-loop-part : goal.invariant-loop-part
invariant-loop-part l =
    (l.components.items ++ l.parts ≡ parts l.text)
    × (list_all is_component l.parts ≡ true)

abbrev pub decreases-loop-part : goal.decreases-loop-part
decreases-loop-part l = length l.parts

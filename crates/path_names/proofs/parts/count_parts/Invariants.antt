use Rattle.std.proofs.Common.{◌≡◌, ◌+◌, ◌&&◌, length}
use Rattle.std.specs.Prelude.{nat_le}
use Rattle.std.specs.List.{list_all}
use Rattle.git_objects.specs.Paths.{is_component}
use Rattle.path_names.specs.PathTexts.{parts}
use Rattle.path_names.proofs.parts.count_parts.Given as goal

abbrev pub invariant-loop-part : goal.invariant-loop-part
invariant-loop-part l =
    (l.count + length l.parts ≡ length (parts l.text))
    × (list_all is_component l.parts ≡ list_all is_component (parts l.text))
    × ((l.short && list_all (λ c. nat_le (length c) 255) l.parts)
    ≡ list_all (λ c. nat_le (length c) 255) (parts l.text))

abbrev pub decreases-loop-part : goal.decreases-loop-part
decreases-loop-part l = length l.parts

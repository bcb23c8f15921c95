use Rattle.std.proofs.Common.{◌≡◌, length}
use Rattle.std.specs.Option.{option_map}
use Rattle.git_objects.specs.Neighbours.{spelled_entries, is_alone}
use Rattle.git_objects.proofs.tree_view.is_alone.Given as goal

abbrev pub invariant-entries : goal.invariant-entries
invariant-entries l = option_map (is_alone l.component) (spelled_entries l.rest) ≡ option_map (is_alone l.component) (spelled_entries l.entries)

abbrev pub decreases-entries : goal.decreases-entries
decreases-entries l = length l.rest

use Rattle.std.proofs.Common.{◌≡◌, true, ◌++◌, take}
use Rattle.std.specs.List.{list_all}
use Rattle.git_objects.specs.Paths.{is_component}
use Rattle.path_names.proofs.path.add_copies.Given as goal

abbrev pub invariant-loop-component : goal.invariant-loop-component
invariant-loop-component l =
    (l.onto.items ≡ l.initial.onto.items ++ take l.component-index l.from)
    × (list_all is_component (take l.component-index l.from) ≡ true)

use Rattle.std.proofs.Common.{◌≡◌, ◌++◌, [], true, map, take}
use Rattle.std.specs.List.{list_all}
use Rattle.git_objects.specs.Bodies.{is_name}
use Rattle.git_objects.specs.Commits.{parent_lines}
use Rattle.git_objects.specs.Parts.{name_bytes}
use Rattle.git_objects.proofs.commit.add_parents.Given as goal

abbrev pub invariant-loop-parent : goal.invariant-loop-parent
invariant-loop-parent l = record {
  body : l.body.items ≡ l.fn.body.items ++ parent_lines (map name_bytes (take l.parent-index l.parents)) [];
  names : list_all is_name (map name_bytes (take l.parent-index l.parents)) ≡ true;
}

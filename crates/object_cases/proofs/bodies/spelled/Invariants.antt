use Rattle.std.proofs.Common.{◌≡◌, true, take}
use Rattle.std.specs.List.{list_all}
use Rattle.git_objects.specs.Paths.{is_component}
use Rattle.git_objects.specs.Entries.{body_text}
use Rattle.git_objects.specs.Bodies.{is_name}
use Rattle.object_cases.proofs.bodies.spelled.Given as goal

abbrev pub invariant-loop-entry : goal.invariant-loop-entry
invariant-loop-entry l = record {
  body : l.body.items ≡ body_text (take l.entry-index l.entries);
  names : list_all (λ e. is_name e.name.0) (take l.entry-index l.entries) ≡ true;
  components : list_all (λ e. is_component e.component) (take l.entry-index l.entries) ≡ true;
}

use Rattle.std.proofs.Common.{◌∙◌, sym, ap, None}
use Rattle.std.specs.Option.{option_map}
use Rattle.git_objects.specs.Parts.{name_bytes}
use Rattle.git_objects.proofs.CommitViews.{tree_first}
use Rattle.git_objects.proofs.commit_view.tree_in_commit.Goals as goal

pub returns-in-None : goal.returns-in-None
returns-in-None c c' h =
    tree_first c.args.body.now None c' (sym (ap (option_map (λ r. (name_bytes r.0, r.1.now))) c.in-None.is) ∙ c.name_field.ensures) h

pub returns-in-Some : goal.returns-in-Some
returns-in-Some c c' h =
    tree_first c.args.body.now _ c' (sym (ap (option_map (λ r. (name_bytes r.0, r.1.now))) c.in-Some.is) ∙ c.name_field.ensures) h

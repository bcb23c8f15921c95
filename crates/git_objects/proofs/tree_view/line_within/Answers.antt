use Rattle.std.proofs.Common.{sym, ap, ◌∙◌}
use Rattle.git_objects.specs.Idents.{cut_at}
use Rattle.git_objects.proofs.SharedFronts.{cut_shorter, line_end}
use Rattle.git_objects.proofs.tree_view.line_within.Goals as goal

pub overflow_sub-line : goal.overflow_sub-line
overflow_sub-line c = cut_shorter 6 c.args.body.now _ _ (sym (c.in_ok-behind.ensures ∙ ap (cut_at 0) c.split_at.ensures.back))

pub returns-clause-line : goal.returns-clause-line
returns-clause-line c e r h = line_end c.args.body.now _ _ e r h (sym (c.in_ok-behind.ensures ∙ ap (cut_at 0) c.split_at.ensures.back))

use Rattle.std.proofs.Common.{ap, ◌∙◌}
use Rattle.git_objects.specs.Entries.{body_text}
use Rattle.git_objects.proofs.TreeViews.{tree_text}
use Rattle.git_objects.proofs.tree_view.TreeView.bytes.Goals as goal

pub returns : goal.returns
returns c = tree_text c.self.inside.rest.now c.self.invariant ∙ ap body_text c.self.view_is

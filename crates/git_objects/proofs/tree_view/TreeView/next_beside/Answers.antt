use Rattle.std.proofs.Common.{List, [], ◌∷◌, Option, sym, ap, ◌∙◌}
use Rattle.std.specs.Prelude.{unwrap_or}
use Rattle.std.specs.Option.{is_some}
use Rattle.git_objects.specs.Views.{entry_value}
use Rattle.git_objects.specs.declared.entry.Entry.{Entry}
use Rattle.git_objects.proofs.TreeViews.{tree_next}
use Rattle.git_objects.proofs.tree_view.TreeView.next_beside.Goals as goal

abbrev listed : Option (List Entry) → List Entry
listed o = unwrap_or o []

pub invariant_of-self : goal.invariant_of-self
invariant_of-self c =
    ap is_some (tree_next c.self.inside.rest.now (entry_value c.in-Some.entry) c.in-Some.after.now c.in-Some.ensures.first c.self.invariant).2

pub returns-in-Some-clause-entry : goal.returns-in-Some-clause-entry
returns-in-Some-clause-entry c =
    let n = tree_next c.self.inside.rest.now (entry_value c.in-Some.entry) c.in-Some.after.now c.in-Some.ensures.first c.self.invariant in
    sym c.self.view_is ∙ ap listed n.1 ∙ ap (λ (es : List Entry). entry_value c.in-Some.entry ∷ es) (sym (ap listed n.2))

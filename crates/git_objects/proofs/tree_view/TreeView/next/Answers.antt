use Rattle.std.proofs.Common.{◌≡◌, List, [], ◌∷◌, Option, drop, sym, ap, ◌∙◌}
use Rattle.std.specs.Prelude.{unwrap_or, slice_get}
use Rattle.std.specs.Option.{is_some}
use Rattle.git_objects.specs.Views.{entry_value}
use Rattle.git_objects.specs.declared.entry.Entry.{Entry}
use Rattle.git_objects.proofs.TreeViews.{tree_next, tree_end}
use Rattle.git_objects.proofs.tree_view.TreeView.next.Goals as goal

abbrev listed : Option (List Entry) → List Entry
listed o = unwrap_or o []

pub invariant_of-self : goal.invariant_of-self
invariant_of-self c =
    let n = tree_next c.self.inside.rest.now (entry_value c.in-Some.entry) c.in-Some.after.now (sym c.in-Some.ensures) c.self.invariant in
    ap is_some n.2

pub returns-in-None-clause-entry : goal.returns-in-None-clause-entry
returns-in-None-clause-entry c =
    let none : c.args.self.now ≡ [] = sym c.self.view_is ∙ ap listed (tree_end c.self.inside.rest.now (sym c.in-None.ensures) c.self.invariant) in
    ap (λ (es : List Entry). slice_get es 0) (sym none)

pub returns-in-None-clause-rest : goal.returns-in-None-clause-rest
returns-in-None-clause-rest c =
    let none : c.args.self.now ≡ [] = sym c.self.view_is ∙ ap listed (tree_end c.self.inside.rest.now (sym c.in-None.ensures) c.self.invariant) in
    none ∙ ap (drop 1) (sym none)

pub returns-in-Some-clause-entry : goal.returns-in-Some-clause-entry
returns-in-Some-clause-entry c =
    let n = tree_next c.self.inside.rest.now (entry_value c.in-Some.entry) c.in-Some.after.now (sym c.in-Some.ensures) c.self.invariant in
    let whole : c.args.self.now ≡ entry_value c.in-Some.entry ∷ n.0 = sym c.self.view_is ∙ ap listed n.1 in
    ap (λ (es : List Entry). slice_get es 0) (sym whole)

pub returns-in-Some-clause-rest : goal.returns-in-Some-clause-rest
returns-in-Some-clause-rest c =
    let n = tree_next c.self.inside.rest.now (entry_value c.in-Some.entry) c.in-Some.after.now (sym c.in-Some.ensures) c.self.invariant in
    let whole : c.args.self.now ≡ entry_value c.in-Some.entry ∷ n.0 = sym c.self.view_is ∙ ap listed n.1 in
    ap listed n.2 ∙ ap (drop 1) (sym whole)

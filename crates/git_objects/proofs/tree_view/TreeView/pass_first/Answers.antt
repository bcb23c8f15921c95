use Rattle.std.proofs.Common.{List, [], ◌∷◌, Option, refl, sym, ap, ◌∙◌}
use Rattle.std.specs.Prelude.{unwrap_or, slice_get}
use Rattle.std.specs.Option.{is_some}
use Rattle.git_objects.specs.declared.entry.Entry.{Entry}
use Rattle.git_objects.proofs.TreeViews.{tree_next, tree_first}
use Rattle.git_objects.proofs.tree_view.TreeView.pass_first.Goals as goal

abbrev listed : Option (List Entry) → List Entry
listed o = unwrap_or o []

pub invariant_of-self : goal.invariant_of-self
invariant_of-self c =
    let first = c.in-Some.ensures.same in
    ap is_some (tree_next c.self.inside.rest.now first.0 c.in-Some.rest.now first.1 c.self.invariant).2

pub invariant_of-other : goal.invariant_of-other
invariant_of-other c =
    let first = c.in-Some.ensures.same in
    ap is_some (tree_next c.other.inside.rest.now first.0 c.in-Some.other_rest.now first.2 c.other.invariant).2

pub returns-in-Some-clause-passed : goal.returns-in-Some-clause-passed
returns-in-Some-clause-passed c t =
    let first = c.in-Some.ensures.same in
    let one = tree_next c.self.inside.rest.now first.0 c.in-Some.rest.now first.1 c.self.invariant in
    let two = tree_next c.other.inside.rest.now first.0 c.in-Some.other_rest.now first.2 c.other.invariant in (
      first.0,
      sym c.self.view_is ∙ ap listed one.1 ∙ ap (λ (es : List Entry). first.0 ∷ es) (sym (ap listed one.2)),
      sym c.other.view_is ∙ ap listed two.1 ∙ ap (λ (es : List Entry). first.0 ∷ es) (sym (ap listed two.2)),
    )

pub returns-in-None-clause-apart : goal.returns-in-None-clause-apart
returns-in-None-clause-apart c t e h k =
    let one = tree_first c.self.inside.rest.now e c.self.invariant (ap (λ (es : List Entry). slice_get es 0) c.self.view_is ∙ h) in
    let two = tree_first c.other.inside.rest.now e c.other.invariant (ap (λ (es : List Entry). slice_get es 0) c.other.view_is ∙ k) in
    c.in-None.ensures.apart refl e one.0 two.0 one.1 two.1

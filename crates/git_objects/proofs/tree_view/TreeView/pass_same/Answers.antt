use Rattle.std.proofs.Common.{List, [], ◌∷◌, ◌++◌, sym, ap, ◌∙◌, append_assoc}
use Rattle.git_objects.specs.declared.entry.Entry.{Entry}
use Rattle.git_objects.proofs.tree_view.TreeView.pass_same.Goals as goal

pub entries-preserved : goal.entries-preserved
entries-preserved c =
    let passed = c.pass_first.ensures.passed c.entries-test.true in
    let before = c.entries.invariant in (
      before.0 ++ passed.0 ∷ [],
      before.1 ∙ ap (λ (es : List Entry). before.0 ++ es) passed.1 ∙ sym (append_assoc before.0 (passed.0 ∷ []) c.pass_first.new.self),
      before.2 ∙ ap (λ (es : List Entry). before.0 ++ es) passed.2 ∙ sym (append_assoc before.0 (passed.0 ∷ []) c.pass_first.new.other),
    )

use Rattle.std.proofs.Common.{◌∙◌, ◌++◌, ap}
use Rattle.std.proofs.lemmas.Result.{on_ok_weaker}
use Rattle.git_objects.specs.Paths.{Bytes}
use Rattle.fast_export.specs.ExportTexts.{line, mark_line}
use Rattle.incremental_export.proofs.ParentRefs.{digits_ref, marked_ref}
use Rattle.incremental_export.proofs.lines.add_parent.Goals as goal

pub returns-in-Some : goal.returns-in-Some
returns-in-Some c =
    let same = ap (λ (w : Bytes). mark_line w c.in-Some.number) c.parent_word-word.ensures ∙ marked_ref c.args.parent.now c.args.marks.now.commits c.in-Some.number _ c.in-Some.ensures in
    on_ok_weaker c.add_mark_line.result (λ e. e ∙ ap (λ (t : Bytes). c.args.out.now.items ++ t) same) c.add_mark_line.ensures

pub returns-in-None : goal.returns-in-None
returns-in-None c =
    let same = (λ i. line (c.parent_word-word.ensures i) (c.hex.ensures i)) ∙ digits_ref c.args.parent.now c.args.marks.now.commits _ c.in-None.ensures in
    on_ok_weaker c.add_line.result (λ e. e ∙ ap (λ (t : Bytes). c.args.out.now.items ++ t) same) c.add_line.ensures

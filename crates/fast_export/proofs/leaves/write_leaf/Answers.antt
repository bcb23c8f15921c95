use Rattle.std.proofs.Common.{◌∙◌, ◌++◌, ap, append-nil}
use Rattle.git_objects.specs.Paths.{Bytes}
use Rattle.fast_export.specs.Given.{leaf_text}
use Rattle.fast_export.proofs.Sent.{put_as, put_behind}
use Rattle.fast_export.proofs.leaves.write_leaf.Goals as goal

pub returns-clause-put : goal.returns-clause-put
returns-clause-put g c =
    put_as _ _ _ _ _ _ _ (append-nil _ ∙ ap (leaf_text c.args.marks.now c.args.leaf) (c.deref.ensures.value ∙ c.in_ok-text.ensures))
    (put_behind _ _ _ _ _ _ _ _ c.in_ok-add_leaf_line.ensures c.send_piece.ensures.put)

pub returns-clause-whole : goal.returns-clause-whole
returns-clause-whole g c r =
    c.send_piece.ensures.whole r ∙ c.in_ok-add_leaf_line.ensures
    ∙ ap (λ (t : Bytes). c.args.kept.now.items ++ leaf_text c.args.marks.now c.args.leaf t) (c.deref.ensures.value ∙ c.in_ok-text.ensures)

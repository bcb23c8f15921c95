use Rattle.std.proofs.Common.{◌<◌, ◌++◌, ◌∙◌, ap, length, arith}
use Rattle.git_objects.specs.Paths.{Bytes}
use Rattle.fast_export.specs.Given.{Given, leaf_text}
use Rattle.fast_export.proofs.Sent.{put_err}
use Rattle.incremental_export.specs.declared.compare.Placed.{Placed}
use Rattle.incremental_export.proofs.PutTexts.{all_put, less_put, more_put, none_put, short_put}
use Rattle.incremental_export.proofs.commits.write_put.Goals as goal

abbrev put_text : Given → Placed → Bytes
put_text g p = leaf_text g p.leaf p.path.items

pub loop-placed-init : goal.loop-placed-init
loop-placed-init g c = none_put (put_text c.args.marks.now) c.args.leaves.now _ _

pub returns-in_err-add_leaf_line : goal.returns-in_err-add_leaf_line
returns-in_err-add_leaf_line g c = put_err _ _ _ _ _ _ _ c.from_residual.ensures.1 (short_put (put_text c.args.marks.now) c.args.leaves.now _ _ _ _ _ _ c.loop-placed.invariant)

pub returns-in_err-send_piece : goal.returns-in_err-send_piece
returns-in_err-send_piece g c =
    let within : c.loop-placed.placed-index < length c.args.leaves.now = omega arith in
    put_err _ _ _ _ _ c.in_err-send_piece.field-0.0 _ c.from_residual-in_err-send_piece.ensures.1
    (less_put (put_text c.args.marks.now) c.args.leaves.now _ _ _ _ _ _ _ c.loop-placed.placed-index c.placed-item.result _ within c.placed-item.is c.loop-placed.invariant
    (c.in_ok-add_leaf_line.ensures ∙ ap (λ (t : Bytes). c.loop-placed.kept.items ++ leaf_text c.args.marks.now c.placed-item.result.leaf t) c.deref.ensures.value) c.in_err-send_piece.ensures.put)

pub loop-placed-preserved : goal.loop-placed-preserved
loop-placed-preserved g c =
    let within : c.loop-placed.placed-index < length c.args.leaves.now = omega arith in
    more_put (put_text c.args.marks.now) c.args.leaves.now _ _ _ _ _ _ _ c.loop-placed.placed-index c.placed-item.result within c.placed-item.is c.loop-placed.invariant
    (c.in_ok-add_leaf_line.ensures ∙ ap (λ (t : Bytes). c.loop-placed.kept.items ++ leaf_text c.args.marks.now c.placed-item.result.leaf t) c.deref.ensures.value) c.in_ok-send_piece.ensures.put

pub returns : goal.returns
returns g c = all_put (put_text c.args.marks.now) c.args.leaves.now _ _ _ _ c.loop-placed.placed-index c.loop-placed-test.false c.loop-placed.invariant

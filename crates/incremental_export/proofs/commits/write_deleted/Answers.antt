use Rattle.std.proofs.Common.{◌<◌, ◌++◌, ◌∙◌, ℕ, Global, Vec, ap, length, arith}
use Rattle.std.specs.Prelude.{codes}
use Rattle.git_objects.specs.Paths.{Bytes}
use Rattle.path_names.specs.Quoting.{quote}
use Rattle.fast_export.specs.ExportTexts.{line}
use Rattle.fast_export.proofs.Sent.{put_err}
use Rattle.incremental_export.proofs.PutTexts.{all_put, less_put, more_put, none_put, short_put}
use Rattle.incremental_export.proofs.commits.write_deleted.Goals as goal

abbrev delete_text : Vec ℕ Global → Bytes
delete_text t = line (codes "D ") (quote t.items)

pub loop-path-init : goal.loop-path-init
loop-path-init g c = none_put delete_text c.args.paths.now _ _

pub returns-in_err-add_delete_line : goal.returns-in_err-add_delete_line
returns-in_err-add_delete_line g c = put_err _ _ _ _ _ _ _ c.from_residual.ensures.1 (short_put delete_text c.args.paths.now _ _ _ _ _ _ c.loop-path.invariant)

pub returns-in_err-send_piece : goal.returns-in_err-send_piece
returns-in_err-send_piece g c =
    let within : c.loop-path.path-index < length c.args.paths.now = omega arith in
    put_err _ _ _ _ _ c.in_err-send_piece.field-0.0 _ c.from_residual-in_err-send_piece.ensures.1
    (less_put delete_text c.args.paths.now _ _ _ _ _ _ _ c.loop-path.path-index c.path-item.result _ within c.path-item.is c.loop-path.invariant
    (c.in_ok-add_delete_line.ensures ∙ ap (λ (t : Bytes). c.loop-path.kept.items ++ line (codes "D ") (quote t)) c.deref.ensures.value) c.in_err-send_piece.ensures.put)

pub loop-path-preserved : goal.loop-path-preserved
loop-path-preserved g c =
    let within : c.loop-path.path-index < length c.args.paths.now = omega arith in
    more_put delete_text c.args.paths.now _ _ _ _ _ _ _ c.loop-path.path-index c.path-item.result within c.path-item.is c.loop-path.invariant
    (c.in_ok-add_delete_line.ensures ∙ ap (λ (t : Bytes). c.loop-path.kept.items ++ line (codes "D ") (quote t)) c.deref.ensures.value) c.in_ok-send_piece.ensures.put

pub returns : goal.returns
returns g c = all_put delete_text c.args.paths.now _ _ _ _ c.loop-path.path-index c.loop-path-test.false c.loop-path.invariant

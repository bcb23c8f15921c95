use Rattle.std.proofs.Common.{List, length, Err, ap, sym, subst, refl, ◌∙◌}
use Rattle.std.specs.Prelude.{Result}
use Rattle.std.proofs.lemmas.Result.{err_from_is_err_and}
use Rattle.filter_text.specs.Shapes.{shape}
use Rattle.fast_import.specs.declared.replayed.Made.{Made}
use Rattle.push_back.specs.declared.brought.Plan.{Plan}
use Rattle.push_back.specs.declared.fault.PushFault.{PushFault}
use Rattle.push_back.specs.declared.fault.PushFault.TheVariants.{OutOfMemory}
use Rattle.merge_push.specs.Bringing.{IsBroughtBy}
use Rattle.merge_push.specs.Originals.{ArePushed}
use Rattle.merge_push.proofs.Brought.{as-many, no-pairs}
use Rattle.merge_push.proofs.planning.brought.Goals as goal

pub pairs-requires : goal.pairs-requires
pairs-requires c =
    let f = shape c.args.filter.now in
    let g = c.args.ground.now in
    let n = c.args.head.now.0 in
    let w = c.requires.commits in
    let a = subst (λ (ms : List Made). ArePushed f g n ms w.0) (sym c.deref.ensures.value) w.1 in
    ap length c.deref-3.ensures.value ∙ as-many f g n c.args.replayed w.0 w.1 c.originals.new.ground.store c.in-Ok.names (c.in-Ok.ensures.worked w.0 a) ∙ ap length (sym c.deref-2.ensures.value)

pub returns-in_err-commits-clause-brought : goal.returns-in_err-commits-clause-brought
returns-in_err-commits-clause-brought c = λ cs k.
    let f = shape c.args.filter.now in
    let g = c.args.ground.now in
    let n = c.args.head.now.0 in
    let S = c.originals.new.ground.store in
    let p = err_from_is_err_and c.from_residual.result c.from_residual.ensures.1 in
    subst (λ (r : Result Plan PushFault). IsBroughtBy f g n cs c.args.replayed S r) (sym (p.1 ∙ ap Err p.2)) (no-pairs f g n c.args.replayed cs k S OutOfMemory refl)

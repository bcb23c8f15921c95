use Rattle.std.proofs.Common.{sym}
use Rattle.projection_ground.proofs.Asking.{shown-of}
use Rattle.projection_ground.proofs.seeing.shown_by.Goals as goal

pub shown-requires-clause-memo : goal.shown-requires-clause-memo
shown-requires-clause-memo g c = c.requires.ground.memo.each c.args.number c.in-Some.table.now (sym c.in-Some.ensures)

pub returns : goal.returns
returns g c = λ f h.
    shown-of c.args.ground.now f c.args.number c.args.root c.in-Some.table.now c.shown.new.store c.shown.new.memo c.shown.result c.requires.ground h (sym c.in-Some.ensures) c.shown.ensures.ok c.shown.ensures.err c.shown.ensures.store c.shown.ensures.true_now c.shown.ensures.others

use Rattle.std.proofs.Common.{List, sym, subst, arith}
use Rattle.std.specs.Vec.{vec_len}
use Rattle.stage_tree.specs.declared.copies.Work.{Work}
use Rattle.stage_tree.specs.declared.copies.Turn.TheVariants.{Copy, Copied}
use Rattle.stage_tree.specs.Copies.{IsCopying}
use Rattle.stage_tree.proofs.CopyDrops.{copy_begun, copy_ended, empty_works, same_copying}
use Rattle.stage_tree.proofs.copies.copies.Goals as goal

pub turns-init : goal.turns-init
turns-init c = λ h. subst (λ (v : List Work). IsCopying c.args.nodes.now c.args.nodes.now h.source v (Copy c.args.first)) (sym c.new-works.ensures.items) (copy_begun c.args.nodes.now c.args.first h)

pub returns-in-Copied-clause-ok : goal.returns-in-Copied-clause-ok
returns-in-Copied-clause-ok c = λ h.
    let none = empty_works c.turns.works.items (vec_len c.turns.works) (omega arith) c.if-is_empty.ensures in
    copy_ended c.args.nodes.now c.turns.nodes c.args.first c.in-Copied.copy h
    (subst (λ (v : List Work). IsCopying c.args.nodes.now c.turns.nodes h.source v (Copied c.in-Copied.copy)) none (subst (IsCopying c.args.nodes.now c.turns.nodes h.source c.turns.works.items) c.in-Copied.is (c.turns.invariant h)))

pub copy_turn-requires-clause-copying : goal.copy_turn-requires-clause-copying
copy_turn-requires-clause-copying c = (c.args.nodes.now, c.requires.source, c.turns.invariant c.requires)

pub turns-smaller : goal.turns-smaller
turns-smaller c = c.in-Ok.ensures.less c.args.nodes.now c.requires.source (c.turns.invariant c.requires)

pub turns-preserved : goal.turns-preserved
turns-preserved c = λ h. c.in-Ok.ensures.ok c.args.nodes.now h.source (c.turns.invariant h)

pub drop_copies-requires : goal.drop_copies-requires
drop_copies-requires c = (c.args.nodes.now, c.requires.source, same_copying c.args.nodes.now c.turns.nodes c.copy_turn.new.nodes c.requires.source c.turns.works.items c.copy_turn.new.works.items c.turns.turn c.in-Err.ensures.err c.in-Err.ensures.works (c.turns.invariant c.requires))

pub returns-in-Err-clause-err : goal.returns-in-Err-clause-err
returns-in-Err-clause-err c = c.drop_copies.ensures c.args.nodes.now c.requires.source (same_copying c.args.nodes.now c.turns.nodes c.copy_turn.new.nodes c.requires.source c.turns.works.items c.copy_turn.new.works.items c.turns.turn c.in-Err.ensures.err c.in-Err.ensures.works (c.turns.invariant c.requires))

pub returns-in-Copied-clause-err : goal.returns-in-Copied-clause-err
returns-in-Copied-clause-err c = tt

pub returns-in-Err-clause-ok : goal.returns-in-Err-clause-ok
returns-in-Err-clause-ok c = tt

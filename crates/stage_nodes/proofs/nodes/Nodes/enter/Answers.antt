use Rattle.std.proofs.Common.{refl, sym, ◌∙◌, Some, subst, arith}
use Rattle.stage_nodes.proofs.NodePlaces.{node_inside}
use Rattle.stage_nodes.specs.Ways.{HasPlace}
use Rattle.std.proofs.lemmas.Result.{err_from_is_err_and}
use Rattle.stage_nodes.proofs.OnWay.{still_same, waste_still, open_dir, leaf_blocks, child_closed, child_stored, child_still, child_dir, nothing_blocks}
use Rattle.stage_nodes.proofs.Clearing.{child_clear}
use Rattle.stage_nodes.proofs.Paying.{paid_expanded, paid_none}
use Rattle.stage_nodes.proofs.Ticking.{directory_walk}
use Rattle.stage_nodes.proofs.nodes.Nodes.enter.Goals as goal

pub returns-then-not-is_dir-clause-ok : goal.returns-then-not-is_dir-clause-ok
returns-then-not-is_dir-clause-ok g c = (
  refl,
  λ q b link at. leaf_blocks c.args.store.now c.args.self.now q b link c.args.child c.in-Some.number at c.in-Some.is c.index.result.now c.index.ensures c.in-Held.found c.in-Held.is (sym c.is_dir.ensures ∙ c.if-not-is_dir.true),
)

pub expand-requires-clause-node : goal.expand-requires-clause-node
expand-requires-clause-node g c =
    let p = c.requires.place in
    child_closed c.args.store.now c.args.self.now p.path p.component p.link c.args.child c.in-Some.number p.place c.in-Some.is c.index.result.now c.index.ensures c.requires.opened c.in-Held.found c.in-Held.is (sym c.is_dir.ensures ∙ c.if-not-is_dir.false)

pub expand-requires-clause-tree : goal.expand-requires-clause-tree
expand-requires-clause-tree g c =
    let p = c.requires.place in
    child_stored c.args.store.now c.args.self.now p.path p.component p.link c.args.child c.in-Some.number p.place c.in-Some.is c.index.result.now c.index.ensures c.requires.opened c.in-Held.found c.in-Held.is (sym c.is_dir.ensures ∙ c.if-not-is_dir.false)

pub returns-in_err-expand-in-Held-clause-err : goal.returns-in_err-expand-in-Held-clause-err
returns-in_err-expand-in-Held-clause-err g c =
    let p = err_from_is_err_and c.from_residual.result c.from_residual.ensures.1 in
    rw (p.1) (waste_still c.args.store.now c.args.self.now c.expand.new.self c.requires.opened c.in_err-expand-in-Held.ensures.err)

pub tick_siblings-requires-clause-walk : goal.tick_siblings-requires-clause-walk
tick_siblings-requires-clause-walk g c =
    let x = c.in_ok-expand-in-Held.ensures.ok in directory_walk c.expand.new.self c.in-Some.number x.kids x.directory

pub returns-in-Open-clause-ok : goal.returns-in-Open-clause-ok
returns-in-Open-clause-ok g c = (
  still_same c.args.store.now c.args.self.now c.requires.opened,
  λ q b link at. open_dir c.args.store.now c.args.self.now q b link c.args.child c.in-Some.number at c.in-Some.is c.index.result.now c.index.ensures c.in-Open.is,
)

pub returns-in_ok-expand-in-Held-clause-ok : goal.returns-in_ok-expand-in-Held-clause-ok
returns-in_ok-expand-in-Held-clause-ok g c =
    let p = c.requires.place in (
      child_still c.args.store.now c.args.self.now p.path p.component p.link c.args.child c.in-Some.number p.place c.in-Some.is c.index.result.now c.index.ensures c.requires.opened c.in-Held.found c.in-Held.is (sym c.is_dir.ensures ∙ c.if-not-is_dir.false) c.expand.new.self c.in_ok-expand-in-Held.ensures.ok c.expand.ensures.store,
      λ q b link at. child_dir c.args.store.now c.args.self.now q b link c.args.child c.in-Some.number at c.in-Some.is c.index.result.now c.index.ensures c.requires.opened c.in-Held.found c.in-Held.is (sym c.is_dir.ensures ∙ c.if-not-is_dir.false) c.expand.new.self c.in_ok-expand-in-Held.ensures.ok c.expand.ensures.store,
    )

pub returns-in_ok-expand-in-Held-clause-clear : goal.returns-in_ok-expand-in-Held-clause-clear
returns-in_ok-expand-in-Held-clause-clear g c =
    let p = c.requires.place in
    child_clear c.args.store.now c.args.self.now p.path p.component p.link c.args.child c.in-Some.number p.place c.in-Some.is c.index.result.now c.index.ensures c.requires.opened c.in-Held.found c.in-Held.is (sym c.is_dir.ensures ∙ c.if-not-is_dir.false) c.expand.new.self c.in_ok-expand-in-Held.ensures.ok c.expand.ensures.store

pub returns-in_ok-expand-in-Held-clause-paid : goal.returns-in_ok-expand-in-Held-clause-paid
returns-in_ok-expand-in-Held-clause-paid g c =
    paid_expanded c.args.store.now c.expand.ensures.store c.args.self.now c.expand.new.self c.in-Some.number c.in-Held.found (sym c.is_dir.ensures ∙ c.if-not-is_dir.false) c.in_ok-expand-in-Held.ensures.ok c.index.result.now c.index.ensures c.in-Held.is c.args.child c.in-Some.is c.args.steps.now c.tick_siblings.new.steps c.tick_siblings.ensures

pub returns-in_default-clause-ok : goal.returns-in_default-clause-ok
returns-in_default-clause-ok g c = (refl, λ q b link at. nothing_blocks c.args.store.now c.args.self.now q b link c.args.child at c.in_default.is)

pub returns-in_default-clause-err : goal.returns-in_default-clause-err
returns-in_default-clause-err g c = tt

pub returns-then-not-is_dir-clause-err : goal.returns-then-not-is_dir-clause-err
returns-then-not-is_dir-clause-err g c = tt

pub returns-in_err-expand-in-Held-clause-ok : goal.returns-in_err-expand-in-Held-clause-ok
returns-in_err-expand-in-Held-clause-ok g c = let p = err_from_is_err_and c.from_residual.result c.from_residual.ensures.1 in rw (p.1) tt

pub returns-in-Open-clause-err : goal.returns-in-Open-clause-err
returns-in-Open-clause-err g c = tt

pub returns-in_ok-expand-in-Held-clause-err : goal.returns-in_ok-expand-in-Held-clause-err
returns-in_ok-expand-in-Held-clause-err g c = tt

pub returns-in_default-clause-clear : goal.returns-in_default-clause-clear
returns-in_default-clause-clear g c = λ q h. h

pub returns-then-not-is_dir-clause-clear : goal.returns-then-not-is_dir-clause-clear
returns-then-not-is_dir-clause-clear g c = λ q h. h

pub returns-in-Open-clause-clear : goal.returns-in-Open-clause-clear
returns-in-Open-clause-clear g c = λ q h. h

pub returns-in_default-clause-paid : goal.returns-in_default-clause-paid
returns-in_default-clause-paid g c = paid_none c.args.store.now c.args.self.now c.args.child c.args.steps.now c.args.steps.now refl

pub returns-then-not-is_dir-clause-paid : goal.returns-then-not-is_dir-clause-paid
returns-then-not-is_dir-clause-paid g c = paid_none c.args.store.now c.args.self.now c.args.child c.args.steps.now c.args.steps.now refl

pub returns-in-Open-clause-paid : goal.returns-in-Open-clause-paid
returns-in-Open-clause-paid g c = paid_none c.args.store.now c.args.self.now c.args.child c.args.steps.now c.args.steps.now refl

pub returns-in_err-expand-in-Held-clause-paid : goal.returns-in_err-expand-in-Held-clause-paid
returns-in_err-expand-in-Held-clause-paid g c = paid_none c.args.store.now c.args.self.now c.args.child c.args.steps.now c.args.steps.now refl

pub returns-in_err-expand-in-Held-clause-clear : goal.returns-in_err-expand-in-Held-clause-clear
returns-in_err-expand-in-Held-clause-clear g c = let p = err_from_is_err_and c.from_residual.result c.from_residual.ensures.1 in rw (p.1) tt

pub index-requires : goal.index-requires
index-requires g c = let h : HasPlace c.args.store.now c.args.self.now (Some c.in-Some.number) = subst (HasPlace c.args.store.now c.args.self.now) c.in-Some.is c.requires.place in omega (arith, node_inside c.args.store.now c.args.self.now c.in-Some.number h)

use Rattle.std.proofs.Common.{refl, sym, ◌∙◌, Some, subst, arith}
use Rattle.stage_nodes.proofs.NodePlaces.{node_inside}
use Rattle.stage_nodes.specs.Ways.{HasPlace}
use Rattle.stage_nodes.proofs.OnWay.{still_same, waste_still, open_dir, leaf_blocks, child_closed, child_stored, child_still, child_dir, nothing_blocks}
use Rattle.std.proofs.lemmas.Result.{err_from_is_err_and}
use Rattle.stage_nodes.proofs.nodes.Nodes.entered.Goals as goal

pub expand-requires-clause-node : goal.expand-requires-clause-node
expand-requires-clause-node c =
    let p = c.requires.place in
    child_closed c.args.store.now c.args.self.now p.path p.component p.link c.args.child c.in-Some.number p.place c.in-Some.is c.index.result.now c.index.ensures c.requires.opened c.in-Held.found c.in-Held.is (sym c.is_dir.ensures ∙ c.if-not-is_dir.false)

pub expand-requires-clause-tree : goal.expand-requires-clause-tree
expand-requires-clause-tree c =
    let p = c.requires.place in
    child_stored c.args.store.now c.args.self.now p.path p.component p.link c.args.child c.in-Some.number p.place c.in-Some.is c.index.result.now c.index.ensures c.requires.opened c.in-Held.found c.in-Held.is (sym c.is_dir.ensures ∙ c.if-not-is_dir.false)

pub returns-then-not-is_dir-clause-ok : goal.returns-then-not-is_dir-clause-ok
returns-then-not-is_dir-clause-ok c = (
  refl,
  λ q b link at. leaf_blocks c.args.store.now c.args.self.now q b link c.args.child c.in-Some.number at c.in-Some.is c.index.result.now c.index.ensures c.in-Held.found c.in-Held.is (sym c.is_dir.ensures ∙ c.if-not-is_dir.true),
)

pub returns-in_err-expand-in-Held-clause-err : goal.returns-in_err-expand-in-Held-clause-err
returns-in_err-expand-in-Held-clause-err c =
    let p = err_from_is_err_and c.from_residual.result c.from_residual.ensures.1 in
    rw (p.1) (waste_still c.args.store.now c.args.self.now c.expand.new.self c.requires.opened c.in_err-expand-in-Held.ensures.err)

pub returns-in-Open-clause-ok : goal.returns-in-Open-clause-ok
returns-in-Open-clause-ok c = (
  still_same c.args.store.now c.args.self.now c.requires.opened,
  λ q b link at. open_dir c.args.store.now c.args.self.now q b link c.args.child c.in-Some.number at c.in-Some.is c.index.result.now c.index.ensures c.in-Open.is,
)

pub returns-in_ok-expand-in-Held-clause-ok : goal.returns-in_ok-expand-in-Held-clause-ok
returns-in_ok-expand-in-Held-clause-ok c =
    let p = c.requires.place in (
      child_still c.args.store.now c.args.self.now p.path p.component p.link c.args.child c.in-Some.number p.place c.in-Some.is c.index.result.now c.index.ensures c.requires.opened c.in-Held.found c.in-Held.is (sym c.is_dir.ensures ∙ c.if-not-is_dir.false) c.expand.new.self c.in_ok-expand-in-Held.ensures.ok c.expand.ensures.store,
      λ q b link at. child_dir c.args.store.now c.args.self.now q b link c.args.child c.in-Some.number at c.in-Some.is c.index.result.now c.index.ensures c.requires.opened c.in-Held.found c.in-Held.is (sym c.is_dir.ensures ∙ c.if-not-is_dir.false) c.expand.new.self c.in_ok-expand-in-Held.ensures.ok c.expand.ensures.store,
    )

pub returns-in_default-clause-ok : goal.returns-in_default-clause-ok
returns-in_default-clause-ok c = (refl, λ q b link at. nothing_blocks c.args.store.now c.args.self.now q b link c.args.child at c.in_default.is)

pub returns-in_default-clause-err : goal.returns-in_default-clause-err
returns-in_default-clause-err c = tt

pub returns-then-not-is_dir-clause-err : goal.returns-then-not-is_dir-clause-err
returns-then-not-is_dir-clause-err c = tt

pub returns-in_err-expand-in-Held-clause-ok : goal.returns-in_err-expand-in-Held-clause-ok
returns-in_err-expand-in-Held-clause-ok c = let p = err_from_is_err_and c.from_residual.result c.from_residual.ensures.1 in rw (p.1) tt

pub returns-in-Open-clause-err : goal.returns-in-Open-clause-err
returns-in-Open-clause-err c = tt

pub returns-in_ok-expand-in-Held-clause-err : goal.returns-in_ok-expand-in-Held-clause-err
returns-in_ok-expand-in-Held-clause-err c = tt

pub index-requires : goal.index-requires
index-requires c = let h : HasPlace c.args.store.now c.args.self.now (Some c.in-Some.number) = subst (HasPlace c.args.store.now c.args.self.now) c.in-Some.is c.requires.place in omega (arith, node_inside c.args.store.now c.args.self.now c.in-Some.number h)

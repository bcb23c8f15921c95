use Rattle.std.proofs.Common.{refl, sym, subst, arith}
use Rattle.git_objects.specs.Paths.{Path}
use Rattle.stage_nodes.specs.declared.nodes.Nodes.{Nodes}
use Rattle.stage_nodes.specs.Branches.{IsRemoved}
use Rattle.stage_nodes.specs.Roots.{IsOpened}
use Rattle.stage_nodes.specs.Walks.{CanPrune}
use Rattle.stage_nodes.proofs.Pruning.{pruned, prunes}
use Rattle.stage_nodes.proofs.Walking.{way_within}
use Rattle.stage_tree.proofs.Marked.{none_known}
use Rattle.stage_tree.proofs.Setting.{numbers_long, way_before}
use Rattle.stage_tree.proofs.Staging.{shows_removed, stage_of}
use Rattle.stage_tree.proofs.stage.Stage.remove.Goals as goal

pub remember_before-requires-clause-numbers : goal.remember_before-requires-clause-numbers
remember_before-requires-clause-numbers c =
    let S = c.args.store.now in
    let s = c.arrive.new.nodes in
    let p = c.components-components.result.now in
    let w = c.in_ok-way.way in
    let a = c.in_ok-way.ensures.ok in
    let within = way_within S s s p w.level w.spot.link w.spot.child a.way in
    let long = numbers_long S s s p w.level w.spot.link w.spot.child a.way c.arrive.new.last.numbers.items a.numbers in
    omega (arith, within, long)

pub invariant_of-self-then-cut_end : goal.invariant_of-self-then-cut_end
invariant_of-self-then-cut_end c =
    let S = c.args.store.now in
    let s = c.arrive.new.nodes in
    let p = c.components-components.result.now in
    let w = c.in_ok-way.way in
    let a = c.in_ok-way.ensures.ok in
    let x = c.if-cut_end.ensures.cut refl S a.way in
    record {
      stage = stage_of S c.cut_end.new.self x.removed.opened;
      last_there = c.remember_before.ensures c.cut_end.new.self a.way.place.frames x.rest x.whole (way_before S s s p w.level w.spot.link w.spot.child a.way) a.numbers a.way.place.link_is;
    }

pub returns-then-cut_end-clause-ok : goal.returns-then-cut_end-clause-ok
returns-then-cut_end-clause-ok c = λ t h.
    let S = c.args.store.now in
    let a = c.in_ok-way.ensures.ok in
    let x = c.if-cut_end.ensures.cut refl S a.way in
    let o : IsOpened S c.self.inside.nodes c.arrive.new.nodes = record { opened = a.way.still.opened; leaves = a.leaves } in
    shows_removed S c.self.inside.nodes c.arrive.new.nodes c.cut_end.new.self c.self.inside.most c.args.self.now c.args.path.now t c.self.view_is o
    (subst (λ (q : Path). IsRemoved S c.arrive.new.nodes c.cut_end.new.self q) c.components-components.ensures.components x.removed) h

-- ---- with the directories that would be left empty

pub prune-requires-clause-clear : goal.prune-requires-clause-clear
prune-requires-clause-clear c =
    let S = c.args.store.now in
    let s = c.arrive.new.nodes in
    let p = c.components-components.result.now in
    let a = c.in_ok-way.ensures.ok in
    subst (λ (v : Nodes). CanPrune v p) (sym (c.if-cut_end.ensures.same refl)) (prunes S s s p a.way.still.opened c.in_ok-way.way a.way)

removed : (c : goal.After-prune) → IsRemoved c.args.store.now c.arrive.new.nodes c.prune.new.self c.components-components.result.now
removed c =
    let S = c.args.store.now in
    let s = c.arrive.new.nodes in
    let p = c.components-components.result.now in
    let a = c.in_ok-way.ensures.ok in
    pruned S s s p a.way.still.opened c.in_ok-way.way a.way c.prune.new.self
    (subst (λ (v : Nodes). (h : CanPrune v p) → IsRemoved h.objects v c.prune.new.self p) (c.if-cut_end.ensures.same refl) c.prune.ensures)

pub invariant_of-self-else-cut_end : goal.invariant_of-self-else-cut_end
invariant_of-self-else-cut_end c = record {
  stage = stage_of c.args.store.now c.prune.new.self (removed c).opened;
  last_there = none_known c.prune.new.self c.arrive.new.last.child c.arrive.new.last.directory.items c.arrive.new.last.numbers.items c.arrive.ensures.forgotten;
}

pub returns-else-cut_end-clause-ok : goal.returns-else-cut_end-clause-ok
returns-else-cut_end-clause-ok c = λ t h.
    let S = c.args.store.now in
    let a = c.in_ok-way.ensures.ok in
    let o : IsOpened S c.self.inside.nodes c.arrive.new.nodes = record { opened = a.way.still.opened; leaves = a.leaves } in
    shows_removed S c.self.inside.nodes c.arrive.new.nodes c.prune.new.self c.self.inside.most c.args.self.now c.args.path.now t c.self.view_is o
    (subst (λ (q : Path). IsRemoved S c.arrive.new.nodes c.prune.new.self q) c.components-components.ensures.components (removed c)) h

use Rattle.std.proofs.Common.{sym, ap, ◌∙◌, arith}
use Rattle.stage_nodes.specs.Forests.{sought}
use Rattle.stage_nodes.proofs.Seeking.{passed, passed_at, ended, passed_smaller, passed_before, passed_not, passed_link}
use Rattle.stage_nodes.proofs.nodes.Nodes.seek.Goals as goal

pub index-node-requires : goal.index-node-requires
index-node-requires c =
    let s = c.args.self.now in
    omega (arith, (passed_at s.names.items s.cells.items c.siblings.link c.in-Some.number (sym c.in-Some.ensures) c.siblings.invariant.walk).2.inside)

pub is_before-requires : goal.is_before-requires
is_before-requires c =
    let s = c.args.self.now in
    (passed s.names.items s.cells.items c.siblings.link c.in-Some.number c.index-node.result.now c.in-Some.ensures c.siblings.invariant.walk c.index-node.ensures).within

pub returns-then-not-is_before-clause-place : goal.returns-then-not-is_before-clause-place
returns-then-not-is_before-clause-place c =
    let s = c.args.self.now in
    let p = passed s.names.items s.cells.items c.siblings.link c.in-Some.number c.index-node.result.now c.in-Some.ensures c.siblings.invariant.walk c.index-node.ensures in
    sym (passed_not s.names.items s.cells.items c.args.component.now c.siblings.link c.in-Some.number c.index-node.result.now p (cc)) ∙ c.siblings.invariant.same

pub siblings-smaller : goal.siblings-smaller
siblings-smaller c =
    let s = c.args.self.now in
    let p = passed s.names.items s.cells.items c.siblings.link c.in-Some.number c.index-node.result.now c.in-Some.ensures c.siblings.invariant.walk c.index-node.ensures in
    passed_smaller s.names.items s.cells.items c.args.component.now c.siblings.link c.in-Some.number c.index-node.result.now p

pub siblings-preserved : goal.siblings-preserved
siblings-preserved c =
    let s = c.args.self.now in
    let p = passed s.names.items s.cells.items c.siblings.link c.in-Some.number c.index-node.result.now c.in-Some.ensures c.siblings.invariant.walk c.index-node.ensures in
    record {
      link = passed_link s.names.items s.cells.items c.args.component.now c.siblings.link c.in-Some.number c.index-node.result.now p;
      walk = p.walk;
      same = passed_before s.names.items s.cells.items c.args.component.now c.siblings.link c.in-Some.number c.index-node.result.now p (cc) ∙ c.siblings.invariant.same;
    }

pub returns-clause-place : goal.returns-clause-place
returns-clause-place c = let s = c.args.self.now in sym (ap (sought c.args.component.now c.siblings.link) (ended s.names.items s.cells.items c.siblings.link (sym c.in_default.ensures))) ∙ c.siblings.invariant.same

use Rattle.std.proofs.Common.{List, ℕ, sym, subst, arith}
use Rattle.stage_nodes.specs.declared.nodes.Link.TheVariants.{First}
use Rattle.stage_nodes.specs.Closing.{IsTurn}
use Rattle.stage_nodes.proofs.Seeking.{passed_at}
use Rattle.stage_nodes.proofs.Turning.{turn_link, turn_walk, turn_end, turn_next, turn_below, next_smaller, below_smaller}
use Rattle.stage_nodes.proofs.nodes.Nodes.descend.Goals as goal

pub target-requires : goal.target-requires
target-requires c = turn_link c.requires.opened.0 c.args.self.now c.requires.opened.1 c.nodes.entered.items c.nodes.link c.nodes.invariant

pub index-requires : goal.index-requires
index-requires c =
    let s = c.args.self.now in
    omega (arith, (passed_at s.names.items s.cells.items c.nodes.link c.in-Some.number (sym c.in-Some.ensures) (turn_walk c.requires.opened.0 c.args.self.now c.requires.opened.1 c.nodes.entered.items c.nodes.link c.nodes.invariant)).2.inside)

pub nodes-smaller-in-Held : goal.nodes-smaller-in-Held
nodes-smaller-in-Held c = next_smaller c.requires.opened.0 c.args.self.now c.requires.opened.1 c.nodes.entered.items c.nodes.link c.nodes.invariant c.in-Some.number c.in-Some.ensures c.index.result.now c.index.ensures

pub nodes-preserved-in-Held : goal.nodes-preserved-in-Held
nodes-preserved-in-Held c = turn_next c.requires.opened.0 c.args.self.now c.requires.opened.1 c.nodes.entered.items c.nodes.link c.nodes.invariant c.in-Some.number c.in-Some.ensures c.index.result.now c.index.ensures c.in-Held.field-0 c.in-Held.is

pub nodes-smaller : goal.nodes-smaller
nodes-smaller c = below_smaller c.requires.opened.0 c.args.self.now c.requires.opened.1 c.nodes.entered.items c.nodes.link c.nodes.invariant c.in-Some.number c.in-Some.ensures c.index.result.now c.index.ensures

pub nodes-preserved : goal.nodes-preserved
nodes-preserved c = subst (λ (x : List ℕ). IsTurn c.args.self.now x (First c.in-Some.number)) (sym c.in_ok-push-in-Open.ensures.items) (turn_below c.requires.opened.0 c.args.self.now c.requires.opened.1 c.nodes.entered.items c.nodes.link c.nodes.invariant c.in-Some.number c.in-Some.ensures c.index.result.now c.index.ensures c.in-Open.is)

pub returns : goal.returns
returns c = record { link = c.nodes.link; turn = c.nodes.invariant; end = turn_end c.requires.opened.0 c.args.self.now c.requires.opened.1 c.nodes.entered.items c.nodes.link c.nodes.invariant (sym c.in_default.ensures) }

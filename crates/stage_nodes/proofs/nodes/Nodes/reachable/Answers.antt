use Rattle.std.proofs.Common.{◌≡◌, Option, ℕ, None, sym, ap, subst, arith, rules}
use Rattle.stage_nodes.specs.Forests.{forest, size}
use Rattle.stage_nodes.specs.Pools.{IsChain, Walks}
use Rattle.stage_nodes.proofs.Freeing.{number_inside}
use Rattle.stage_nodes.proofs.Counting.{all_counted, passed_free, none_left}
use Rattle.stage_nodes.proofs.nodes.Nodes.reachable.Goals as goal

pub free-init : goal.free-init
free-init c = record { walk = c.requires.pool.walk; chain = c.requires.pool.chain; counted = omega arith }

pub overflow_sub-count : goal.overflow_sub-count
overflow_sub-count c = omega (arith, all_counted c.args.self.now c.requires, c.free.invariant.counted)

pub target-top-requires : goal.target-top-requires
target-top-requires c = number_inside c.args.self.now c.in-Some.number (subst (λ (o : Option ℕ). Walks c.args.self.now o) c.in-Some.is c.free.invariant.walk)

pub free-smaller : goal.free-smaller
free-smaller c =
    let s = c.args.self.now in
    let p = passed_free s c.in-Some.number (subst (λ (o : Option ℕ). Walks s o) c.in-Some.is c.free.invariant.walk) (subst (λ (o : Option ℕ). IsChain (forest s.names.items s.cells.items o)) c.in-Some.is c.free.invariant.chain) in
    omega (arith, p.less, ap (λ (o : Option ℕ). size (forest s.names.items s.cells.items o)) c.in-Some.is, ap (λ (o : Option ℕ). size (forest s.names.items s.cells.items o)) c.target-top.ensures)

pub free-preserved : goal.free-preserved
free-preserved c =
    let s = c.args.self.now in
    let p = passed_free s c.in-Some.number (subst (λ (o : Option ℕ). Walks s o) c.in-Some.is c.free.invariant.walk) (subst (λ (o : Option ℕ). IsChain (forest s.names.items s.cells.items o)) c.in-Some.is c.free.invariant.chain) in
    record {
      walk = subst (λ (o : Option ℕ). Walks s o) (sym c.target-top.ensures) p.walk;
      chain = subst (λ (o : Option ℕ). IsChain (forest s.names.items s.cells.items o)) (sym c.target-top.ensures) p.chain;
      counted = omega (arith, all_counted s c.requires, c.free.invariant.counted, p.less, ap (λ (o : Option ℕ). size (forest s.names.items s.cells.items o)) c.in-Some.is, ap (λ (o : Option ℕ). size (forest s.names.items s.cells.items o)) c.target-top.ensures);
    }

pub returns : goal.returns
returns c =
    let s = c.args.self.now in
    let e : c.free.top ≡ None = search rules in
    omega (arith, all_counted s c.requires, c.free.invariant.counted, none_left s, ap (λ (o : Option ℕ). size (forest s.names.items s.cells.items o)) e)

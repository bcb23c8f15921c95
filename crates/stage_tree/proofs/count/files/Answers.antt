use Rattle.std.proofs.Common.{true, false, sym, ap, subst, ◌∙◌, arith}
use Rattle.std.proofs.lemmas.Result.{err_from_is_err_and}
use Rattle.std.specs.Vec.{vec_len}
use Rattle.stage_nodes.specs.declared.nodes.Content.TheVariants.{Held, Open}
use Rattle.stage_nodes.specs.Leaves.{is_held}
use Rattle.stage_nodes.proofs.Seeking.{passed_at}
use Rattle.stage_nodes.proofs.Finishing.{none_popped}
use Rattle.stage_tree.proofs.CountTurns.{AreCountable, due, turns, due_more, turns_more, all_more, all_less, count_held, count_next, count_below, files_taken, size_here, next_at, skipped_at, size_at, files_end, number_eq}
use Rattle.stage_tree.proofs.count.files.Goals as goal

pub nodes-init : goal.nodes-init
nodes-init c = record {
  here = c.requires;
  behind = subst (AreCountable c.args.store.now c.args.nodes.now c.args.but) (sym c.new-entered.ensures.items) tt;
  small = omega arith;
  sum = omega (arith, ap (due c.args.store.now c.args.nodes.now c.args.but) c.new-entered.ensures.items);
}

pub returns-in_default-pop : goal.returns-in_default-pop
returns-in_default-pop c =
    let none = none_popped c.nodes.entered.items (vec_len c.nodes.entered) (omega arith) c.in_default-pop.ensures.variant.1 in
    omega (arith, c.nodes.invariant.small, c.nodes.invariant.sum, files_end c.args.store.now c.args.nodes.now c.args.but c.nodes.link (sym c.in_default.ensures), ap (due c.args.store.now c.args.nodes.now c.args.but) none)

pub nodes-smaller-in_default : goal.nodes-smaller-in_default
nodes-smaller-in_default c = omega (arith, ap (turns c.args.store.now c.args.nodes.now c.args.but) c.in-Some-pop.ensures.items, turns_more c.args.store.now c.args.nodes.now c.args.but c.pop.new.self.items c.in-Some-pop.directory)

pub nodes-preserved-in_default : goal.nodes-preserved-in_default
nodes-preserved-in_default c =
    let r = all_less c.args.store.now c.args.nodes.now c.args.but c.pop.new.self.items c.in-Some-pop.directory (subst (AreCountable c.args.store.now c.args.nodes.now c.args.but) c.in-Some-pop.ensures.items c.nodes.invariant.behind) in
    record {
      here = r.1;
      behind = r.0;
      small = omega (arith, c.nodes.invariant.small);
      sum = omega (arith, c.nodes.invariant.small, c.nodes.invariant.sum, files_end c.args.store.now c.args.nodes.now c.args.but c.nodes.link (sym c.in_default.ensures), ap (due c.args.store.now c.args.nodes.now c.args.but) c.in-Some-pop.ensures.items, due_more c.args.store.now c.args.nodes.now c.args.but c.pop.new.self.items c.in-Some-pop.directory);
    }

pub index-requires : goal.index-requires
index-requires c =
    let s = c.args.nodes.now in
    omega (arith, (passed_at s.names.items s.cells.items c.nodes.link c.in-Some.number (sym c.in-Some.ensures) c.nodes.invariant.here.walk).2.inside)

pub found_files-requires : goal.found_files-requires
found_files-requires c = ap (is_held c.args.store.now) (sym c.in-Held.is) ∙ count_held c.args.store.now c.args.nodes.now c.args.but c.nodes.link c.nodes.invariant.here c.in-Some.number c.in-Some.ensures c.index.result.now c.index.ensures

pub nodes-smaller-in-Held : goal.nodes-smaller-in-Held
nodes-smaller-in-Held c = omega (arith, size_here c.args.store.now c.args.nodes.now c.args.but c.nodes.link c.nodes.invariant.here c.in-Some.number c.in-Some.ensures c.index.result.now c.index.ensures)

pub nodes-preserved-in-Held : goal.nodes-preserved-in-Held
nodes-preserved-in-Held c = record {
  here = count_next c.args.store.now c.args.nodes.now c.args.but c.nodes.link c.nodes.invariant.here c.in-Some.number c.in-Some.ensures c.index.result.now c.index.ensures;
  behind = c.nodes.invariant.behind;
  small = omega (arith, c.nodes.invariant.small);
  sum = omega (arith, c.nodes.invariant.sum, files_taken c.args.store.now c.args.nodes.now c.args.but c.nodes.link c.nodes.invariant.here c.in-Some.number c.in-Some.ensures c.index.result.now c.index.ensures (number_eq c.args.but c.in-Some.number true c.if-ne.ensures) (Held c.in-Held.found) c.in-Held.is, c.saturating_add-files.ensures, c.found_files.ensures);
}

pub nodes-smaller-in-Open : goal.nodes-smaller-in-Open
nodes-smaller-in-Open c = omega (arith, size_here c.args.store.now c.args.nodes.now c.args.but c.nodes.link c.nodes.invariant.here c.in-Some.number c.in-Some.ensures c.index.result.now c.index.ensures, ap (turns c.args.store.now c.args.nodes.now c.args.but) c.in_ok-push-in-Open.ensures.items, turns_more c.args.store.now c.args.nodes.now c.args.but c.nodes.entered.items c.in-Some.number)

pub nodes-preserved-in-Open : goal.nodes-preserved-in-Open
nodes-preserved-in-Open c = record {
  here = count_below c.args.store.now c.args.nodes.now c.args.but c.nodes.link c.nodes.invariant.here c.in-Some.number c.in-Some.ensures c.index.result.now c.index.ensures;
  behind = subst (AreCountable c.args.store.now c.args.nodes.now c.args.but) (sym c.in_ok-push-in-Open.ensures.items) (all_more c.args.store.now c.args.nodes.now c.args.but c.nodes.entered.items c.in-Some.number c.nodes.invariant.behind (count_next c.args.store.now c.args.nodes.now c.args.but c.nodes.link c.nodes.invariant.here c.in-Some.number c.in-Some.ensures c.index.result.now c.index.ensures));
  small = omega (arith, c.nodes.invariant.small);
  sum = omega (arith, c.nodes.invariant.sum, files_taken c.args.store.now c.args.nodes.now c.args.but c.nodes.link c.nodes.invariant.here c.in-Some.number c.in-Some.ensures c.index.result.now c.index.ensures (number_eq c.args.but c.in-Some.number true c.if-ne.ensures) Open c.in-Open.is, ap (due c.args.store.now c.args.nodes.now c.args.but) c.in_ok-push-in-Open.ensures.items, due_more c.args.store.now c.args.nodes.now c.args.but c.nodes.entered.items c.in-Some.number);
}

pub nodes-smaller : goal.nodes-smaller
nodes-smaller c = omega (arith, size_at c.args.store.now c.args.nodes.now c.args.but c.nodes.link c.nodes.invariant.here c.in-Some.number c.in-Some.ensures)

pub nodes-preserved : goal.nodes-preserved
nodes-preserved c = record {
  here = next_at c.args.store.now c.args.nodes.now c.args.but c.nodes.link c.nodes.invariant.here c.in-Some.number c.in-Some.ensures;
  behind = c.nodes.invariant.behind;
  small = omega (arith, c.nodes.invariant.small);
  sum = omega (arith, c.nodes.invariant.sum, skipped_at c.args.store.now c.args.nodes.now c.args.but c.nodes.link c.nodes.invariant.here c.in-Some.number c.in-Some.ensures (number_eq c.args.but c.in-Some.number false c.if-ne.ensures));
}

pub returns-in_err-push-in-Open : goal.returns-in_err-push-in-Open
returns-in_err-push-in-Open c = let p = err_from_is_err_and c.from_residual.result c.from_residual.ensures.1 in rw (p.1) tt

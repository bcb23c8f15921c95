use Rattle.std.proofs.Common.{List, ℕ, None, ◌≤◌, ◌+◌, ◌-◌, ◌&&◌, true, sym, ap, subst, ◌∙◌, arith}
use Rattle.std.proofs.lemmas.Result.{err_from_is_err_and}
use Rattle.std.specs.Vec.{vec_len}
use Rattle.stage_nodes.specs.declared.nodes.Content.TheVariants.{Held}
use Rattle.stage_nodes.specs.declared.nodes.Link.TheVariants.{First, Next}
use Rattle.stage_nodes.specs.Leaves.{is_held}
use Rattle.stage_tree.specs.Limits.{content_fits, fits_in}
use Rattle.stage_nodes.specs.Pools.{hanging}
use Rattle.stage_nodes.proofs.Seeking.{passed_at}
use Rattle.stage_nodes.proofs.Finishing.{none_popped}
use Rattle.stage_tree.proofs.CountTurns.{AreCountable, turns, turns_more, all_more, all_less, count_held, count_next, count_below, count_passed, size_here}
use Rattle.stage_tree.proofs.Fits.{weight_small}
use Rattle.stage_tree.proofs.FitTurns.{and_true, fits_end, held_heavy, held_light, later, left_behind, inside_of, open_light, own_is, own_read, taken, taken_more, too_heavy}
use Rattle.stage_tree.proofs.limits.siblings_fit.Goals as goal

pub nodes-init : goal.nodes-init
nodes-init c =
    let m = c.args.measure in let S = c.args.store.now in let s = c.args.nodes.now in
    let none = c.new-entered.ensures.items in
    record {
      here = c.requires.nodes;
      behind = subst (AreCountable S s None) (sym none) tt;
      spent = omega (arith, ap (taken m S s) none);
      fits = (λ i. fits_in m S c.args.room (hanging s c.args.start) && later m S s (none i) c.args.room) ∙ and_true (fits_in m S c.args.room (hanging s c.args.start));
    }

pub returns-in_default-pop : goal.returns-in_default-pop
returns-in_default-pop c =
    let m = c.args.measure in let S = c.args.store.now in let s = c.args.nodes.now in
    let none = none_popped c.nodes.entered.items (vec_len c.nodes.entered) (omega arith) c.in_default-pop.ensures.variant.1 in
    sym (λ i. fits_end m S s c.nodes.link c.nodes.room (sym c.in_default.ensures) i && later m S s (none i) c.nodes.room)
    ∙ c.nodes.invariant.fits

pub index-requires : goal.index-requires
index-requires c =
    let m = c.args.measure in let S = c.args.store.now in let s = c.args.nodes.now in
    let r = all_less S s None c.pop.new.self.items c.in-Some-pop.directory (subst (AreCountable S s None) c.in-Some-pop.ensures.items c.nodes.invariant.behind) in
    omega (arith, inside_of s.cells.items c.in-Some-pop.directory r.1.link_in)

pub weight-room-requires : goal.weight-room-requires
weight-room-requires c =
    let m = c.args.measure in let S = c.args.store.now in let s = c.args.nodes.now in
    let r = all_less S s None c.pop.new.self.items c.in-Some-pop.directory (subst (AreCountable S s None) c.in-Some-pop.ensures.items c.nodes.invariant.behind) in
    omega (arith, c.nodes.invariant.spent, ap (taken m S s) c.in-Some-pop.ensures.items, taken_more m S s c.pop.new.self.items c.in-Some-pop.directory, own_read m S s c.in-Some-pop.directory c.index.result.now (inside_of s.cells.items c.in-Some-pop.directory r.1.link_in) c.index.ensures)

pub overflow_add-room : goal.overflow_add-room
overflow_add-room c =
    let m = c.args.measure in let S = c.args.store.now in let s = c.args.nodes.now in
    let r = all_less S s None c.pop.new.self.items c.in-Some-pop.directory (subst (AreCountable S s None) c.in-Some-pop.ensures.items c.nodes.invariant.behind) in
    omega (arith, c.nodes.invariant.spent, ap (taken m S s) c.in-Some-pop.ensures.items, taken_more m S s c.pop.new.self.items c.in-Some-pop.directory, own_read m S s c.in-Some-pop.directory c.index.result.now (inside_of s.cells.items c.in-Some-pop.directory r.1.link_in) c.index.ensures, c.weight-room.ensures)

pub nodes-smaller-in_default : goal.nodes-smaller-in_default
nodes-smaller-in_default c = omega (arith, ap (turns c.args.store.now c.args.nodes.now None) c.in-Some-pop.ensures.items, turns_more c.args.store.now c.args.nodes.now None c.pop.new.self.items c.in-Some-pop.directory)

pub nodes-preserved-in_default : goal.nodes-preserved-in_default
nodes-preserved-in_default c =
    let m = c.args.measure in let S = c.args.store.now in let s = c.args.nodes.now in
    let r = all_less S s None c.pop.new.self.items c.in-Some-pop.directory (subst (AreCountable S s None) c.in-Some-pop.ensures.items c.nodes.invariant.behind) in
    record {
      here = r.1;
      behind = r.0;
      spent = omega (arith, c.nodes.invariant.spent, ap (taken m S s) c.in-Some-pop.ensures.items, taken_more m S s c.pop.new.self.items c.in-Some-pop.directory, own_read m S s c.in-Some-pop.directory c.index.result.now (inside_of s.cells.items c.in-Some-pop.directory r.1.link_in) c.index.ensures, c.weight-room.ensures);
      fits =
          (λ i. fits_in m S (c.nodes.room + c.weight-room.ensures i) (hanging s (Next c.in-Some-pop.directory)) && later m S s c.pop.new.self.items (c.nodes.room + c.weight-room.ensures i))
          ∙ left_behind m S s c.nodes.link c.nodes.room c.pop.new.self.items c.in-Some-pop.directory c.index.result.now (sym c.in_default.ensures) (inside_of s.cells.items c.in-Some-pop.directory r.1.link_in) c.index.ensures
          ∙ ap (λ (ks : List ℕ). fits_in m S c.nodes.room (hanging s c.nodes.link) && later m S s ks c.nodes.room) (sym c.in-Some-pop.ensures.items)
          ∙ c.nodes.invariant.fits;
    }

pub index-node-requires : goal.index-node-requires
index-node-requires c =
    let s = c.args.nodes.now in
    omega (arith, (passed_at s.names.items s.cells.items c.nodes.link c.in-Some.number (sym c.in-Some.ensures) c.nodes.invariant.here.walk).2.inside)

pub weight-weight-requires : goal.weight-weight-requires
weight-weight-requires c =
    let p = count_passed c.args.store.now c.args.nodes.now None c.nodes.link c.nodes.invariant.here c.in-Some.number c.in-Some.ensures c.index-node.result.now c.index-node.ensures in
    weight_small c.args.measure c.index-node.result.now.len (omega (arith, p.within, c.args.nodes.now.names.small))

pub returns-then-weight-room : goal.returns-then-weight-room
returns-then-weight-room c =
    let m = c.args.measure in let S = c.args.store.now in let s = c.args.nodes.now in
    too_heavy m S s c.nodes.link c.nodes.invariant.here c.in-Some.number c.in-Some.ensures c.index-node.result.now c.index-node.ensures c.nodes.room (later m S s c.nodes.entered.items c.nodes.room) (omega (arith, c.weight-weight.ensures))
    ∙ c.nodes.invariant.fits

pub found_fits-requires-clause-held : goal.found_fits-requires-clause-held
found_fits-requires-clause-held c = ap (is_held c.args.store.now) (sym c.in-Held.is) ∙ count_held c.args.store.now c.args.nodes.now None c.nodes.link c.nodes.invariant.here c.in-Some.number c.in-Some.ensures c.index-node.result.now c.index-node.ensures

pub returns-then-not-found_fits : goal.returns-then-not-found_fits
returns-then-not-found_fits c =
    let m = c.args.measure in let S = c.args.store.now in let s = c.args.nodes.now in
    held_heavy m S s c.nodes.link c.nodes.invariant.here c.in-Some.number c.in-Some.ensures c.index-node.result.now c.index-node.ensures c.nodes.room (later m S s c.nodes.entered.items c.nodes.room) c.in-Held.found (omega (arith, c.weight-weight.ensures)) c.in-Held.is ((λ i. content_fits m S (c.nodes.room - sym c.weight-weight.ensures i) (Held c.in-Held.found) true) ∙ sym c.if-not-found_fits.ensures)
    ∙ c.nodes.invariant.fits

pub nodes-smaller-in-Held : goal.nodes-smaller-in-Held
nodes-smaller-in-Held c = omega (arith, size_here c.args.store.now c.args.nodes.now None c.nodes.link c.nodes.invariant.here c.in-Some.number c.in-Some.ensures c.index-node.result.now c.index-node.ensures)

pub nodes-preserved-in-Held : goal.nodes-preserved-in-Held
nodes-preserved-in-Held c =
    let m = c.args.measure in let S = c.args.store.now in let s = c.args.nodes.now in
    record {
      here = count_next c.args.store.now c.args.nodes.now None c.nodes.link c.nodes.invariant.here c.in-Some.number c.in-Some.ensures c.index-node.result.now c.index-node.ensures;
      behind = c.nodes.invariant.behind;
      spent = c.nodes.invariant.spent;
      fits = held_light m S s c.nodes.link c.nodes.invariant.here c.in-Some.number c.in-Some.ensures c.index-node.result.now c.index-node.ensures c.nodes.room (later m S s c.nodes.entered.items c.nodes.room) c.in-Held.found (omega (arith, c.weight-weight.ensures)) c.in-Held.is ((λ i. content_fits m S (c.nodes.room - sym c.weight-weight.ensures i) (Held c.in-Held.found) true) ∙ sym c.if-not-found_fits.ensures) ∙ c.nodes.invariant.fits;
    }

pub nodes-smaller : goal.nodes-smaller
nodes-smaller c = omega (arith, size_here c.args.store.now c.args.nodes.now None c.nodes.link c.nodes.invariant.here c.in-Some.number c.in-Some.ensures c.index-node.result.now c.index-node.ensures, ap (turns c.args.store.now c.args.nodes.now None) c.in_ok-push-in-Open.ensures.items, turns_more c.args.store.now c.args.nodes.now None c.nodes.entered.items c.in-Some.number)

pub nodes-preserved : goal.nodes-preserved
nodes-preserved c =
    let m = c.args.measure in let S = c.args.store.now in let s = c.args.nodes.now in
    let w : c.weight-weight.result ≤ c.nodes.room = omega arith in
    record {
      here = count_below c.args.store.now c.args.nodes.now None c.nodes.link c.nodes.invariant.here c.in-Some.number c.in-Some.ensures c.index-node.result.now c.index-node.ensures;
      behind = subst (AreCountable c.args.store.now c.args.nodes.now None) (sym c.in_ok-push-in-Open.ensures.items) (all_more c.args.store.now c.args.nodes.now None c.nodes.entered.items c.in-Some.number c.nodes.invariant.behind (count_next c.args.store.now c.args.nodes.now None c.nodes.link c.nodes.invariant.here c.in-Some.number c.in-Some.ensures c.index-node.result.now c.index-node.ensures));
      spent = omega (arith, c.nodes.invariant.spent, c.weight-weight.ensures, own_is m S s c.nodes.link c.nodes.invariant.here c.in-Some.number c.in-Some.ensures c.index-node.result.now c.index-node.ensures, ap (taken m S s) c.in_ok-push-in-Open.ensures.items, taken_more m S s c.nodes.entered.items c.in-Some.number);
      fits =
          (λ i. fits_in m S (c.nodes.room - c.weight-weight.ensures i) (hanging s (First c.in-Some.number)) && later m S s (c.in_ok-push-in-Open.ensures.items i) (c.nodes.room - c.weight-weight.ensures i))
          ∙ open_light m S s c.nodes.link c.nodes.invariant.here c.in-Some.number c.in-Some.ensures c.index-node.result.now c.index-node.ensures c.nodes.room c.nodes.entered.items (omega (arith, c.weight-weight.ensures)) c.in-Open.is
          ∙ c.nodes.invariant.fits;
    }

pub found_fits-requires-clause-store : goal.found_fits-requires-clause-store
found_fits-requires-clause-store c = c.requires.store

pub returns-in_err-push-in-Open : goal.returns-in_err-push-in-Open
returns-in_err-push-in-Open c = let p = err_from_is_err_and c.from_residual.result c.from_residual.ensures.1 in rw (p.1) tt

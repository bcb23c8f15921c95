use Rattle.std.proofs.Common.{◌≡◌, ◌∙◌, sym, ap, arith, length}
use Rattle.object_store.specs.Unfolding.{flat}
use Rattle.decision_lists.specs.Entries.{Entry, base}
use Rattle.decision_lists.proofs.Locating.{base-cone}
use Rattle.filter_apply.proofs.Bases.{found_more, lengths_less}
use Rattle.filter_apply.proofs.founds.founds_of.Goals as goal

pub loop-entry-preserved : goal.loop-entry-preserved
loop-entry-preserved g c =
    let S = c.args.store.now in
    let t = flat S c.args.root.0 in
    let es = c.args.entries.now in
    let i = c.loop-entry.entry-index in
    let d = c.entry-item.result in
    let p = c.as_slice.result.now in
    let place : p ≡ base d.0 = c.as_slice.ensures.value ∙ sym (base-cone c.entry.inside.point c.entry.inside.base.items) ∙ ap (λ (x : Entry). base x.0) c.entry.view_is in
    let less = lengths_less es i d c.loop-entry-test.true c.entry-item.is in
    let as_long = ap length place in
    let paid = c.found_by-found.ensures.paid in
    let before = c.loop-entry.invariant.paid in
    record {
      found = found_more S t d p place c.found_by-found.result.0 c.found_by-found.ensures.found es i c.loop-entry.founds.items c.push.new.self.items c.loop-entry-test.true c.entry-item.is c.in_ok-push.ensures.items c.loop-entry.invariant.found;
      cursor = c.found_by-found.ensures.cursor;
      paid = omega arith;
    }

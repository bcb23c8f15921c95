use Rattle.std.proofs.Common.{◌≡◌, ◌+◌, ◌-◌, ℕ, length, ◌∷◌, [], sym, ap, ◌∙◌, subst, arith, length-append}
use Rattle.std.specs.declared.option.Option.{Option}
use Rattle.proj_disk.specs.Disks.{DiskView}
use Rattle.proj_journal.specs.declared.place.Place.{Place}
use Rattle.proj_journal.specs.declared.gate.Gate.TheVariants.{Shut, Open, Broken}
use Rattle.proj_journal.specs.Gates.{MayBeOpen}
use Rattle.proj_journal.specs.Journals.{AllFit, IsBrokenAt}
use Rattle.proj_journal.proofs.Keeping.{fit-push}
use Rattle.proj_io.specs.Stops.{adds_on}
use Rattle.proj_journal.proofs.Reached.{read_done, broken_at, reaches_more, gate_is}
use Rattle.proj_journal.specs.Windows.{IsWindow}
use Rattle.proj_journal.proofs.opening.find_records.Goals as goal

pub returns-in-Ok-Shut-clause-read : goal.returns-in-Ok-Shut-clause-read
returns-in-Ok-Shut-clause-read g c =
    let count : c.len.result ≡ length c.loop-places.places.items = omega arith in
    let gate = gate_is c.len.result c.loop-places.at c.in-Ok-Shut.field-0 Shut (g.D.Disk.content c.args.disk.now) (g.D.Disk.content c.loop-places.disk) c.in-Ok-Shut.field-0-is c.loop-places.invariant.same c.in-Ok-Shut.ensures.gate in
    read_done (g.D.Disk.content c.args.disk.now) c.loop-places.at c.len.result c.loop-places.places.items count c.loop-places.invariant.reached gate

pub returns-in-Ok-Broken-clause-broken : goal.returns-in-Ok-Broken-clause-broken
returns-in-Ok-Broken-clause-broken g c place is =
    let count : c.len.result ≡ length c.loop-places.places.items = omega arith in
    let gate = gate_is c.len.result c.loop-places.at c.in-Ok-Broken.field-0 Broken (g.D.Disk.content c.args.disk.now) (g.D.Disk.content c.loop-places.disk) c.in-Ok-Broken.field-0-is c.loop-places.invariant.same c.in-Ok-Broken.ensures.gate in
    let here : c.loop-places.at ≡ place = cc in
    subst (λ (n : ℕ). IsBrokenAt n (g.D.Disk.content c.args.disk.now)) here (broken_at (g.D.Disk.content c.args.disk.now) c.loop-places.at c.len.result c.loop-places.places.items count c.loop-places.invariant.reached gate)

pub loop-places-preserved : goal.loop-places-preserved
loop-places-preserved g c =
    let was = c.loop-places.invariant in
    let size = c.in-Ok-Open.size in
    let place : Place = record { at = c.loop-places.at + 5; size = size } in
    let o = g.D.Disk.content c.args.disk.now in
    let count : c.len.result ≡ length c.loop-places.places.items = omega arith in
    let gate = gate_is c.len.result c.loop-places.at c.in-Ok-Open.field-0 (Open size) o (g.D.Disk.content c.loop-places.disk) c.in-Ok-Open.field-0-is was.same c.in-Ok-Open.ensures.gate in
    let bounds : MayBeOpen c.len.result (c.args.size - c.loop-places.at) (Open size) = subst (MayBeOpen c.len.result (c.args.size - c.loop-places.at)) c.in-Ok-Open.field-0-is c.in-Ok-Open.ensures.bounds in
    let long = ap length c.in-Ok-push.ensures.items ∙ length-append c.loop-places.places.items (place ∷ []) in
    record {
      within = omega (arith, was.within, bounds.3);
      few = omega (arith, long, count, bounds.0);
      room = omega (arith, long, was.room, bounds.2);
      fit = subst AllFit (sym c.in-Ok-push.ensures.items) (fit-push c.loop-places.places.items place was.fit bounds.2 (omega (arith, was.room, was.few, bounds.2)));
      reached = reaches_more o c.loop-places.at c.len.result size c.loop-places.places.items c.push.new.self.items count c.in-Ok-push.ensures.items was.reached gate;
      window = subst (λ (v : Option DiskView). IsWindow v c.find_gate.new.window) was.same c.in-Ok-Open.ensures.window;
      same = c.find_gate.ensures.same ∙ was.same;
      stops = adds_on _ _ _ _ _ _ _ was.stops c.find_gate.ensures.stops;
      faults = omega (arith, was.faults, c.find_gate.ensures.cause.later);
    }

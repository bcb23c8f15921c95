use Rattle.std.proofs.Common.{◌≡◌, ◌≤◌, ◌-◌, length, Ok, subst, ◌∙◌}
use Rattle.git_objects.specs.Paths.{Bytes}
use Rattle.state_items.specs.Items.{object_field, objects_field}
use Rattle.state_items.specs.Stops.{IsStop, spot_at}
use Rattle.state_items.proofs.Stopping.{stop-along}
use Rattle.state_items.proofs.ObjectRuns.{objects-more, objects-stop}
use Rattle.state_items.proofs.objects.Objects.read.Goals as goal

pub loop-i-preserved : goal.loop-i-preserved
loop-i-preserved c =
    let inv = c.loop-i.invariant in
    let one = subst (λ (p : Bytes). object_field c.loop-i.self.incoming.objects (spot_at c.loop-i.end p) ≡ Ok (c.read_one.new.self.incoming.objects, spot_at c.in-Ok.next p)) inv.piece c.in-Ok.ensures.object in
    record {
      rest = inv.rest
          ∙ objects-more c.loop-i.self.incoming.objects (spot_at c.loop-i.end c.args.self.now.incoming.piece) c.args.count c.loop-i.i c.read_one.new.self.incoming.objects (spot_at c.in-Ok.next c.args.self.now.incoming.piece) c.loop-i-test.true one;
      within = subst (λ (p : Bytes). c.in-Ok.next ≤ length p) inv.piece c.in-Ok.ensures.within;
      held = c.in-Ok.ensures.held;
      piece = c.in-Ok.ensures.piece ∙ inv.piece;
      commits = λ n h. c.in-Ok.ensures.commits n (inv.commits n h);
    }

pub returns-in-Err-clause-objects : goal.returns-in-Err-clause-objects
returns-in-Err-clause-objects c =
    let inv = c.loop-i.invariant in
    let one = subst (λ (p : Bytes). IsStop c.in-Err.fault (object_field c.loop-i.self.incoming.objects (spot_at c.loop-i.end p))) inv.piece c.in-Err.ensures.object in
    stop-along c.in-Err.fault _ (objects_field (c.args.count - c.loop-i.i) c.loop-i.self.incoming.objects (spot_at c.loop-i.end c.args.self.now.incoming.piece)) inv.rest
    (objects-stop c.loop-i.self.incoming.objects (spot_at c.loop-i.end c.args.self.now.incoming.piece) c.args.count c.loop-i.i c.in-Err.fault c.loop-i-test.true one)

use Rattle.std.proofs.Common.{arith, sym}
use Rattle.merge_push.specs.Places.{origin_in}
use Rattle.merge_push.proofs.ParentLines.{origins-more}
use Rattle.merge_push.proofs.parents.add_origins.Goals as goal

pub loop-i-preserved : goal.loop-i-preserved
loop-i-preserved c =
    let v = c.loop-i.invariant in
    let b = v.behind in
    record {
      origins = origins-more (origin_in c.args.origins.now c.args.entered.now) c.args.commit.now.parents c.args.first c.args.places.now.items c.loop-i.i c.in-Some.parent.0
          c.loop-i.places.items c.add_origin.new.places.items b (sym c.in-Some.ensures) v.origins c.in_ok-add_origin-in-Some.ensures;
      behind = omega (arith, b);
      end = v.end;
    }

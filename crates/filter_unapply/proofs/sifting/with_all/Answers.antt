use Rattle.object_store.specs.Unfolding.{flat}
use Rattle.filter_unapply.proofs.Stages.{all-back, all-out, all-point}
use Rattle.filter_unapply.proofs.Told.{is_tree}
use Rattle.filter_unapply.proofs.sifting.with_all.Goals as goal

pub returns-then-point : goal.returns-then-point
returns-then-point c =
    let S = c.args.store.now in
    λ u s w. all-point S c.args.stage.now (flat S c.args.root.0) u (is_tree S c.store_law.ensures.store c.args.root.0 c.requires.root) s.tree c.args.point c.args.stays c.if-point.true s

pub returns-then-stays : goal.returns-then-stays
returns-then-stays c =
    let S = c.args.store.now in
    λ u s w. all-back S c.in_ok-stage.field-0 (flat S c.args.root.0) u (is_tree S c.store_law.ensures.store c.args.root.0 c.requires.root) s.tree c.args.point c.args.stays c.if-point.false c.if-stays.true c.in_ok-stage.ensures.shows

pub returns : goal.returns
returns c =
    let S = c.args.store.now in
    λ u s w. all-out S c.clear.new.self (flat S c.args.root.0) u (is_tree S c.store_law.ensures.store c.args.root.0 c.requires.root) s.tree c.args.point c.args.stays c.if-point.false c.if-stays.false (c.clear.ensures S c.store_law.ensures.store)

use Rattle.std.proofs.Common.{subst}
use Rattle.filter_routes.specs.Interned.{HasAt}
use Rattle.object_store.specs.Unfolding.{flat}
use Rattle.filter_text.specs.Shapes.{shape}
use Rattle.push_back.proofs.LaidTrees.{answer-by, answer-one, table-is}
use Rattle.push_back.proofs.trees.laid_by.Goals as goal

pub returns-clause-answer : goal.returns-clause-answer
returns-clause-answer c = λ r r2 h k.
    let g = c.args.ground.now in
    answer-by r r2 (shape c.in-Some.old.now.filter) (shape c.in-Some-get.new.now.filter) (flat g.store c.args.base.0) (flat g.store c.args.pushed.0) g.store c.laid_unless_unseen.new.store c.laid_unless_unseen.result
    (table-is g.tables r c.args.way.old c.in-Some.old.now h c.in-Some.ensures) (table-is g.tables r2 c.args.way.new c.in-Some-get.new.now k c.in-Some-get.ensures)
    c.laid_unless_unseen.ensures

-- of one table
pub returns-then-way-clause-answer : goal.returns-then-way-clause-answer
returns-then-way-clause-answer c = λ r r2 h k.
    let g = c.args.ground.now in
    let t = c.in-Some-get.new.now in
    answer-one r r2 (shape t.filter) (flat g.store c.args.base.0) (flat g.store c.args.pushed.0) g.store c.laid_within.new.store c.laid_within.result
    (table-is g.tables r c.args.way.new t (subst (HasAt g.tables r) c.if-way.true h) c.in-Some-get.ensures) (table-is g.tables r2 c.args.way.new t k c.in-Some-get.ensures)
    c.laid_within.ensures

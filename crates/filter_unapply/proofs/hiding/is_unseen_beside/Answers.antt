-- Proves what src/hiding.rt needs of `is_unseen_beside`.
use Rattle.object_store.specs.Unfolding.{flat}
use Rattle.std.proofs.Common.{◌∙◌, sym}
use Rattle.filter_text.specs.Shapes.{shape}
use Rattle.filter_unapply.proofs.Shadows.{never-unseen}
use Rattle.filter_unapply.proofs.hiding.is_unseen_beside.Goals as goal

pub returns-then-is_within-clause-unseen : goal.returns-then-is_within-clause-unseen
returns-then-is_within-clause-unseen c = λ x w.
    never-unseen (shape c.args.old.now.filter) (shape c.args.new.now.filter) (flat c.args.store.now c.args.pushed.0) c.args.shadow.now c.args.path.now x c.requires.shadow c.is_within.ensures.path
    (sym c.is_within.ensures.within ∙ c.if-is_within.true)

pub returns-then-is_within-2-clause-unseen : goal.returns-then-is_within-2-clause-unseen
returns-then-is_within-2-clause-unseen c = λ x w.
    never-unseen (shape c.args.old.now.filter) (shape c.args.new.now.filter) (flat c.args.store.now c.args.pushed.0) c.in_ok-shadow.field-0 c.args.path.now x c.in_ok-shadow.ensures c.is_within-2.ensures.path
    (sym c.is_within-2.ensures.within ∙ c.if-is_within-2.true)

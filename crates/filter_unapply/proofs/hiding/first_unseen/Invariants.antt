use Rattle.git_objects.specs.Lists.{Each}
use Rattle.git_objects.specs.Trees.{at}
use Rattle.std.proofs.Common.{◌≡◌, Some, length}
use Rattle.object_store.specs.Unfolding.{flat}
use Rattle.filter_text.specs.Shapes.{shape}
use Rattle.filter_unapply.specs.Laying.{unseen}
use Rattle.filter_unapply.specs.Shadows.{IsShadow}
use Rattle.filter_unapply.proofs.hiding.first_unseen.Given as goal

-- what is left of the base has the same first such path, and is of the base
abbrev pub invariant-leaves : goal.invariant-leaves
invariant-leaves l = record {
  left : unseen (shape l.fn.old.filter) (shape l.fn.new.filter) l.walk.left (flat l.fn.store l.fn.pushed.0)
      ≡ unseen (shape l.fn.old.filter) (shape l.fn.new.filter) (flat l.fn.store l.fn.base.0) (flat l.fn.store l.fn.pushed.0);
  shadow : IsShadow (shape l.fn.new.filter) l.shadow;
  own : Each (λ e. at (flat l.fn.store l.fn.base.0) e.0 ≡ Some e.1) l.walk.left;
}

abbrev pub decreases-leaves : goal.decreases-leaves
decreases-leaves l = length l.walk.left

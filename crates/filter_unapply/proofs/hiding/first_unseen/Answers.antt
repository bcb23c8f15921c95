use Rattle.std.proofs.Common.{◌≡◌, Some, sym, ap, subst}
use Rattle.git_objects.specs.Lists.{Each}
use Rattle.git_objects.specs.Paths.{Path}
use Rattle.git_objects.specs.Trees.{Flat, Leaf, at}
use Rattle.git_objects.proofs.Pointwise.{each_at}
use Rattle.object_store.specs.Unfolding.{flat}
use Rattle.filter_text.specs.Shapes.{shape}
use Rattle.filter_unapply.specs.Laying.{unseen}
use Rattle.filter_unapply.proofs.Told.{is_tree}
use Rattle.filter_unapply.proofs.hiding.first_unseen.Goals as goal

pub leaves-init : goal.leaves-init
leaves-init c =
    let S = c.args.store.now in
    let t = flat S c.args.base.0 in
    let same : c.in_ok-walk.walk.left ≡ t = ap (λ w. w.left) c.in_ok-walk.ensures in
    record {
      shadow = c.requires.shadow;
      left = ap (λ (u : Flat). unseen (shape c.args.old.now.filter) (shape c.args.new.now.filter) u (flat S c.args.pushed.0)) same;
      own = subst (λ (u : Flat). Each (λ (e : Path × Leaf). at t e.0 ≡ Some e.1) u) (sym same) (each_at t (is_tree S c.store_law.ensures.store c.args.base.0 c.requires.base).sorted);
    }

use Rattle.std.proofs.Common.{◌≡◌, sym, ◌∙◌, Some, None}
use Rattle.filter_unapply.specs.Laying.{below}
use Rattle.filter_unapply.specs.Laying.{pre, first_lost, first_blocked}
use Rattle.filter_unapply.proofs.Outcomes.{lost_of}
use Rattle.filter_unapply.proofs.Places.{none_lost_below}
use Rattle.filter_unapply.proofs.Rests.{below-lens, shows-under}
use Rattle.filter_unapply.proofs.laws.below_law.Goals as goal

pub returns : goal.returns
returns c = record {
  lens = below-lens;
  shows = shows-under;
  holds = λ a t n q e.
      let lost : None ≡ Some q = sym (none_lost_below a n) ∙ lost_of (first_lost (below a) n) (first_blocked (below a) (pre (below a) t n)) (pre (below a) t n) q e in
      cc;
}

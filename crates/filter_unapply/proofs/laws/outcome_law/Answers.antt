use Rattle.filter_unapply.proofs.Outcomes.{first-lost, first-block, first-way, none-is_lost, else-tree}
use Rattle.filter_unapply.proofs.laws.outcome_law.Goals as goal

pub returns : goal.returns
returns c = record {
  not_held = first-lost;
  blocked = λ f t n p q h e. first-block f t n p q h e;
  by = λ f t n p q h e. first-way f t n p q h e;
  held = none-is_lost;
  tree = else-tree;
}

use Rattle.std.proofs.Common.{◌∙◌}
use Rattle.state_items.specs.Items.{nothing}
use Rattle.repo_ground.proofs.state.State.empty.Goals as goal

pub returns : goal.returns
returns c =
    let w = c.of.ensures.spells nothing c.new-2.ensures.holds in
    record {
      spells = w.0;
      ground = w.1;
      store = c.of.ensures.store ∙ c.new-2.ensures.holds.objects;
      none = c.of.ensures.selected;
      map = c.of.ensures.map;
      memo = c.of.ensures.memo ∙ c.in_ok-memo.ensures;
      number = c.of.ensures.number;
      size = c.of.ensures.size;
    }

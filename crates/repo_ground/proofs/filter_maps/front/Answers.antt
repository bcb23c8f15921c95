-- Proves what src/filter_maps.rt needs of `front`.
use Rattle.std.proofs.Common.{◌∙◌, ap}
use Rattle.std.specs.Option.{option_map}
use Rattle.commit_map.specs.Shown.{Entries, entry_value, kept_at, shown_value}
use Rattle.repo_ground.proofs.MapFronts.{front-more, front-there}
use Rattle.repo_ground.proofs.filter_maps.front.Goals.{then-is_none+in_ok-set, else-is_none}
use Rattle.repo_ground.proofs.filter_maps.front.Goals as goal

pub loop-i-preserved : goal.loop-i-preserved
loop-i-preserved c = elim c.if-is_none.branch [
  | then-is_none+in_ok-set w ↦ λ n.
      ap (λ (m : Entries). kept_at n m) (w.front-is ∙ w.in_ok-set.ensures.ok)
      ∙ front-more c.args.map.now c.loop-i.front c.loop-i.i (entry_value c.entry-shown.result) c.loop-i.invariant c.entry-shown.ensures n
  | else-is_none w ↦ λ n.
      ap (λ (m : Entries). kept_at n m) w.front-is
      ∙ front-there (λ s. option_map shown_value s) c.get.result c.args.map.now c.loop-i.front c.loop-i.i (entry_value c.entry-shown.result) w.if-is_none.ensures c.get.ensures c.loop-i.invariant
      c.entry-shown.ensures n
]

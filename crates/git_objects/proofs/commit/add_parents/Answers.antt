use Rattle.std.proofs.Common.{[], refl, get_or}
use Rattle.git_objects.specs.Commits.{hex}
use Rattle.git_objects.specs.Parts.{name_bytes}
use Rattle.git_objects.proofs.Spellings.{parents_more}
use Rattle.git_objects.proofs.CommitViews.{names_more}
use Rattle.git_objects.proofs.commit.add_parents.Goals as goal

pub loop-parent-preserved : goal.loop-parent-preserved
loop-parent-preserved c = record {
  body = parents_more c.args.body.now.items c.loop-parent.body.items _ c.args.parents.now c.loop-parent.parent-index (record { 0 = [] }) (hex (name_bytes (get_or c.args.parents.now c.loop-parent.parent-index (record { 0 = [] }))))
      c.loop-parent-test.true c.loop-parent.invariant.body c.in_ok-add_name.ensures.body refl;
  names = names_more c.args.parents.now c.loop-parent.parent-index (record { 0 = [] }) c.loop-parent-test.true c.loop-parent.invariant.names c.in_ok-add_name.ensures.name;
}

-- Proves what src/commit.rt needs of `commit`.
use Rattle.std.proofs.Common.{List, ◌++◌, None, ap, subst}
use Rattle.std.specs.Prelude.{MatchResult}
use Rattle.projection_ground.specs.Grounds.{IsGround}
use Rattle.proj_io.specs.Stops.{OnlyAdds}
use Rattle.proj_io.specs.Views.{keeper_view}
use Rattle.state_items.specs.Appending.{are_tags}
use Rattle.state_items.specs.Changes.{objects_of}
use Rattle.tag_objects.specs.declared.tag.Tag.{Tag}
use Rattle.repo_ground.specs.Changes.{Appends, IsCommitted, IsRefused, IsStopOf, tagged_batch_plan}
use Rattle.repo_ground.proofs.state.State.commit.Goals as goal

pub commit_tagged-requires-clause-tags : goal.commit_tagged-requires-clause-tags
commit_tagged-requires-clause-tags g c = λ h blobs cs w. ap (λ (ts : List Tag). are_tags (objects_of blobs cs ++ h.objects) None ts) c.new-tags.ensures.items

pub returns-clause-state : goal.returns-clause-state
returns-clause-state g c = λ h blobs cs w.
    subst (λ (ts : List Tag). MatchResult c.commit_tagged.result
    (λ _. IsCommitted h (tagged_batch_plan h c.args.batch blobs cs ts) c.args.self.now c.commit_tagged.new.self × IsGround c.commit_tagged.new.self.basis)
    (λ e. IsRefused h (tagged_batch_plan h c.args.batch blobs cs ts) c.args.self.now c.commit_tagged.new.self e))
    c.new-tags.ensures.items (c.commit_tagged.ensures.state h blobs cs w)

pub returns-clause-items : goal.returns-clause-items
returns-clause-items g c = λ h blobs cs w.
    let seen = keeper_view g.K.Keeper.items g.K.Keeper.number g.K.Keeper.faults in
    subst (λ (ts : List Tag). Appends (tagged_batch_plan h c.args.batch blobs cs ts) (seen c.args.keeper.now) (seen c.commit_tagged.new.keeper) c.commit_tagged.result) c.new-tags.ensures.items (c.commit_tagged.ensures.items h blobs cs w)

pub returns-clause-stops : goal.returns-clause-stops
returns-clause-stops g c = (
  (λ h blobs cs w.
      subst (λ (ts : List Tag). OnlyAdds (g.K.Keeper.moment c.args.keeper.now) (g.K.Keeper.moment c.commit_tagged.new.keeper) (g.K.Keeper.left_since c.args.keeper.now) (g.K.Keeper.left_since c.commit_tagged.new.keeper)
      (IsStopOf h c.args.self.now (tagged_batch_plan h c.args.batch blobs cs ts) (g.K.Keeper.items c.args.keeper.now)))
      c.new-tags.ensures.items (c.commit_tagged.ensures.stops.0 h blobs cs w)),
  c.commit_tagged.ensures.stops.1,
)

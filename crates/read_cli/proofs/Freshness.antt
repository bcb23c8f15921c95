-- What is new upon a state, beside what is there.
use Rattle.std.proofs.Common.{◌≡◌, Bool, List, [], ◌∷◌, filter, reverse, subst, ◌∙◌}
use Rattle.git_objects.specs.Paths.{Bytes}
use Rattle.git_objects.specs.Snapshots.{Graph, tree_at}
use Rattle.object_store.proofs.Growth.{grown_as, grown_then}
use Rattle.filter_text.specs.Filters.{Filter}
use Rattle.filter_apply.specs.Faults.{IsApplyFault}
use Rattle.filter_apply.specs.declared.fault.ApplyError.{ApplyError}
use Rattle.workspace.specs.Workspaces.{shown}
use Rattle.fast_export.specs.ExportTexts.{is_among}
use Rattle.incremental_export.specs.Unreached.{unreached}
use Rattle.projection_laws.specs.Projections.{history_graph}
use Rattle.projection_ground.specs.Grounds.{Extends, commits_of}
use Rattle.projection_ground.specs.declared.ground.Ground.{Ground}
use Rattle.history_ground.specs.Histories.{IsOfHistory}
use Rattle.history_ground.proofs.TakenTurns.{fault-as}
use Rattle.tag_objects.specs.declared.tag.Tag.{Tag}
use Rattle.state_items.specs.Items.{Held}
use Rattle.repo_ground.specs.Contents.{Contents}
use Rattle.proj_commands.specs.Export.{IsMadeBeside, export_hand, tags_beside}
use Rattle.proj_commands.specs.Hands.{IsInHands}
use Rattle.proj_commands.specs.Makes.{IsStateOf}
use Rattle.proj_commands.specs.Refusals.{apply_outcome}
use Rattle.read_cli.specs.Looks.{AreFresh, AreNew, IsAtHand, IsUnshown}
use Rattle.read_cli.specs.Outputs.{new_commits, projected_graph}
use Rattle.read_cli.proofs.Looked.{fault-unshown}
use Rattle.proj_commands.proofs.Exports.{IsReached}
use Rattle.proj_commands.proofs.SeenHands.{beside-at, of-history-at}
use Rattle.proj_commands.proofs.StatesShown.{history-is, state-upon}

-- ---- upon a state

module _ (tagged : Bool) (items : List Bytes) (h : Held) (s : Contents) (f : Filter) (n : Bytes) (w : IsStateOf items h s) where
  -- after the tags
  pub reached-tags : (t : Contents) → t ≡ record s { basis = record t.basis { map = s.basis.map } } → Extends (IsMadeBeside tagged f s.basis n) s.basis t.basis → IsReached tagged items h s f n t
  reached-tags t rest x = record {
    state = state-upon items h s t f n (IsMadeBeside tagged f s.basis n) w rest x;
    grown = grown_as (IsMadeBeside tagged f s.basis n) (IsInHands (export_hand tagged h f n ∷ [])) s.basis.store t.basis.store (beside-at items h s f n w tagged) x.store;
  }

  pub tags-unshown : (t : Contents) → t ≡ record s { basis = record t.basis { map = s.basis.map } } → Extends (IsMadeBeside tagged f s.basis n) s.basis t.basis → (a : ApplyError)
      → IsApplyFault (IsMadeBeside tagged f s.basis n) t.basis.store a → IsUnshown (IsAtHand s.basis.store (export_hand tagged h f n ∷ [])) (apply_outcome a)
  tags-unshown t rest x a fault =
      fault-unshown s.basis.store (export_hand tagged h f n ∷ []) t.basis.store a (reached-tags t rest x).grown
      (fault-as (IsMadeBeside tagged f s.basis n) (IsInHands (export_hand tagged h f n ∷ [])) t.basis.store (beside-at items h s f n w tagged) a fault)

  module _ (t : Contents) (r : IsReached tagged items h s f n t) (g : Ground) (x : Extends (IsOfHistory f t.basis n) t.basis g) where
    pub history-unshown : (a : ApplyError) → IsApplyFault (IsOfHistory f t.basis n) g.store a → IsUnshown (IsAtHand s.basis.store (export_hand tagged h f n ∷ [])) (apply_outcome a)
    history-unshown a fault =
        let in_hand = of-history-at items h t f n r.state tagged in
        fault-unshown s.basis.store (export_hand tagged h f n ∷ []) g.store a
        (grown_then (IsInHands (export_hand tagged h f n ∷ [])) s.basis.store t.basis.store g.store r.grown
        (grown_as (IsOfHistory f t.basis n) (IsInHands (export_hand tagged h f n ∷ [])) t.basis.store g.store in_hand x.store))
        (fault-as (IsOfHistory f t.basis n) (IsInHands (export_hand tagged h f n ∷ [])) g.store in_hand a fault)

    -- what is new
    pub new-upon : (haves ns : List Bytes) → (let made = history_graph t.basis.rule (shown f) (commits_of t.basis) n in AreFresh g.store (tree_at made) (reverse (unreached made haves)) ns)
        → (tags left : List Tag) → tags ≡ tags_beside tagged h f n → left ≡ filter (λ t. is_among t.target.0 ns) tags → AreNew tagged h f n haves g.store ns left
    new-upon haves ns fresh tags left a b =
        let same : history_graph t.basis.rule (shown f) (commits_of t.basis) n ≡ projected_graph h f n = history-is items h t f n r.state in
        let here : AreFresh g.store (tree_at (projected_graph h f n)) (new_commits h f n haves) ns =
        subst (λ (q : Graph). AreFresh g.store (tree_at q) (reverse (unreached q haves)) ns) same fresh in
        record { fresh = here; same_tags = b ∙ (λ i. filter (λ t. is_among t.target.0 (here.named i)) (a i)) }

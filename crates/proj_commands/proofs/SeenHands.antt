-- What projections make, each by itself, is in hand.
use Rattle.std.proofs.Common.{inl, inr, true, false, Bool, List, [], ◌∷◌, Contains, ⊎_elim, subst}
use Rattle.git_objects.specs.Paths.{Bytes}
use Rattle.git_objects.specs.Snapshots.{Graph, Snapshot}
use Rattle.object_store.specs.Objects.{Object}
use Rattle.commit_map.specs.declared.rule.Rule.{Rule}
use Rattle.filter_text.specs.Filters.{Filter}
use Rattle.workspace.specs.Workspaces.{shown}
use Rattle.projection_laws.specs.Projections.{history_graph}
use Rattle.history_ground.specs.Heads.{IsSeenObject}
use Rattle.history_ground.specs.Histories.{IsOfHistory}
use Rattle.state_items.specs.Items.{Held}
use Rattle.state_items.specs.Repos.{repo}
use Rattle.repo_ground.specs.Contents.{Contents}
use Rattle.proj_commands.specs.Export.{IsMadeBeside, export_hand}
use Rattle.proj_commands.specs.Filters.{rule_by}
use Rattle.proj_commands.specs.Hands.{IsInHands, own, seen_hand}
use Rattle.proj_commands.specs.Makes.{IsStateOf}
use Rattle.proj_commands.specs.Pushing.{IsSeenOver}
use Rattle.proj_commands.proofs.InHands.{added-in, in-hands, made-in, none-in, shown-in}
use Rattle.proj_commands.proofs.StatesShown.{commits-are, history-at, rule-is}

-- ---- over what is held

module _ (h : Held) (f : Filter) (n : Bytes) where
  abbrev G : Graph
  G = (repo h).commits

  abbrev owned : List Snapshot
  owned = own h.rule f G n

  from-history : (c : Snapshot) → Contains (history_graph (rule_by h.rule) (shown f) G n) c → Contains owned c
  from-history c m = ⊎_elim (λ q. absurd (none-in c q)) (λ q. q) (added-in owned [] c m)

  seen-over : (o : Object) → IsSeenOver f n (rule_by h.rule) G o → IsInHands (seen_hand h f n ∷ []) o
  seen-over o (inl (inl m)) = in-hands (seen_hand h f n) o (shown-in f h owned o m)
  seen-over o (inl (inr m)) = in-hands (seen_hand h f n) o (made-in f h owned m.0 (from-history m.0 m.1) o m.2)
  seen-over o (inr m) = in-hands (seen_hand h f n) o (made-in f h owned m.0 m.1 o m.2)

-- ---- upon a state

module _ (items : List Bytes) (h : Held) (s : Contents) (f : Filter) (n : Bytes) (w : IsStateOf items h s) where
  pub seen-at : (o : Object) → IsSeenObject f s.basis n o → IsInHands (seen_hand h f n ∷ []) o
  seen-at o q =
      seen-over h f n o
      (subst (λ (r : Rule). IsSeenOver f n r (repo h).commits o) (rule-is h s w.spells) (subst (λ (cs : Graph). IsSeenOver f n s.basis.rule cs o) (commits-are items h s f n w) q))

  -- of an export with tags or without
  pub beside-at : (tagged : Bool) (o : Object) → IsMadeBeside tagged f s.basis n o → IsInHands (export_hand tagged h f n ∷ []) o
  beside-at true o q = seen-at o q
  beside-at false o q = absurd q

  pub of-history-at : (tagged : Bool) (o : Object) → IsOfHistory f s.basis n o → IsInHands (export_hand tagged h f n ∷ []) o
  of-history-at true o q = seen-at o (inl q)
  of-history-at false o q = history-at items h s f n w o q

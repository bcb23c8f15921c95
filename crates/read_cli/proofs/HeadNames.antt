-- The names that stand in front of what is new, upon a state.
use Rattle.std.proofs.Common.{◌≡◌, ◌⊎◌, inl, inr, Bool, true, List, [], ◌∷◌, map, Option, IsSome, append-nil, sym, subst, ◌∙◌}
use Rattle.std.specs.Prelude.{Contains, flat_map, zip}
use Rattle.std.specs.Option.{option_map}
use Rattle.std.proofs.lemmas.List.Elements.{Contains-append_cases}
use Rattle.git_objects.specs.Parts.{name_bytes}
use Rattle.git_objects.specs.Paths.{Bytes}
use Rattle.git_objects.specs.declared.name.Name.{Name}
use Rattle.object_store.specs.Growth.{IsGrownBy}
use Rattle.object_store.specs.Objects.{Object}
use Rattle.object_store.proofs.Growth.{grown_as, grown_self, grown_then}
use Rattle.commit_graph.specs.Graphs.{Row, place_of}
use Rattle.filter_apply.specs.Faults.{IsApplyFault}
use Rattle.filter_apply.specs.declared.fault.ApplyError.{ApplyError}
use Rattle.filter_text.specs.Filters.{Filter}
use Rattle.history_ground.specs.Before as before
use Rattle.history_ground.specs.Heads.{IsSeenObject}
use Rattle.history_ground.proofs.TakenTurns.{fault-as}
use Rattle.projection_ground.specs.Grounds.{Extends}
use Rattle.projection_ground.specs.declared.ground.Ground.{Ground}
use Rattle.state_items.specs.Items.{Held}
use Rattle.repo_ground.specs.Contents.{Contents}
use Rattle.proj_words.specs.declared.outcome.Outcome.{Outcome}
use Rattle.proj_words.specs.declared.outcome.Outcome.TheVariants.{Collision, OutOfMemory}
use Rattle.proj_commands.specs.Export.{export_hand}
use Rattle.proj_commands.specs.Hands.{Hand, IsInHands}
use Rattle.proj_commands.specs.Makes.{IsStateOf}
use Rattle.proj_commands.specs.Refusals.{apply_outcome}
use Rattle.proj_commands.proofs.Exports.{IsReached}
use Rattle.proj_commands.proofs.InHands.{twice-as}
use Rattle.proj_commands.proofs.Retargeting.{same-before}
use Rattle.proj_commands.proofs.SeenHands.{beside-at}
use Rattle.proj_commands.proofs.StatesShown.{state-grown}
use Rattle.read_cli.specs.Looks.{IsAtHand, IsStill, IsUnshown}
use Rattle.read_cli.specs.Outputs.{log_line, name_line}
use Rattle.read_cli.proofs.Logged.{paired}
use Rattle.read_cli.proofs.Looked.{fault-unshown}

-- ---- states that have the same items

module _ (tagged : Bool) (items : List Bytes) (h : Held) (f : Filter) (n : Bytes) where
  pub still-none : (s : Contents) → IsStateOf items h s → IsStill tagged items h s f n s
  still-none s w = record { state = w; grown = grown_self (IsInHands (export_hand tagged h f n ∷ [])) s.basis.store w.ground.graph.store }

  pub still-reached : (s t : Contents) → IsReached tagged items h s f n t → IsStill tagged items h s f n t
  still-reached s t r = record { state = r.state; grown = r.grown }

  pub still-then : (s t u : Contents) → IsStill tagged items h s f n t → IsStill tagged items h t f n u → IsStill tagged items h s f n u
  still-then s t u a b = record { state = b.state; grown = grown_then (IsInHands (export_hand tagged h f n ∷ [])) s.basis.store t.basis.store u.basis.store a.grown b.grown }

-- of the same commits
pub still-placed : (items : List Bytes) (h : Held) (s t : Contents) (n : Bytes) → IsStateOf items h s → IsStateOf items h t → IsSome (place_of n s.basis.graph) → IsSome (place_of n t.basis.graph)
still-placed items h s t n w v p = subst (λ (rows : List Row). IsSome (place_of n rows)) (w.spells.graph ∙ sym v.spells.graph) p

-- ---- why nothing is shown

module _ (S T : List Object) (ks : List Hand) (g : IsGrownBy (IsInHands ks) S T) where
  at-first : (o : Object) → IsAtHand T ks o → IsAtHand S ks o
  at-first o (inl m) = by (Contains-append_cases g.newer S o (subst (λ (U : List Object). Contains U o) (sym g.above) m))
    where
      by : Contains g.newer o ⊎ Contains S o → IsAtHand S ks o
      by (inl new) = inr (g.all o new)
      by (inr old) = inl old
  at-first o (inr k) = inr k

  -- after what was made before
  pub unshown-first : (o : Outcome) → IsUnshown (IsAtHand T ks) o → IsUnshown (IsAtHand S ks) o
  unshown-first OutOfMemory u = tt
  unshown-first (Collision k) u = twice-as (IsAtHand T ks) (IsAtHand S ks) at-first k.0 u
  unshown-first o u = absurd u

-- ---- the head

module _ (items : List Bytes) (h : Held) (s : Contents) (f : Filter) (c : Name) (w : IsStateOf items h s) where
  pub head-line : (os : List (Option Name)) → map (option_map name_bytes) os ≡ map (λ (m : Name). before.shown_before f s.basis c.0 m.0) (c ∷ [])
      → flat_map (λ e. name_line e.0.0 (option_map name_bytes e.1)) (zip (c ∷ []) os) ≡ log_line h f c.0 c.0
  head-line os b =
      paired (before.shown_before f s.basis c.0) (c ∷ []) os b
      ∙ append-nil (name_line c.0 (before.shown_before f s.basis c.0 c.0))
      ∙ (λ i. name_line c.0 (same-before items h s f c.0 w i c.0))

  pub head-fault : (g : Ground) → Extends (IsSeenObject f s.basis c.0) s.basis g → (a : ApplyError) → IsApplyFault (IsSeenObject f s.basis c.0) g.store a
      → IsUnshown (IsAtHand s.basis.store (export_hand true h f c.0 ∷ [])) (apply_outcome a)
  head-fault g x a fault =
      let seen = beside-at items h s f c.0 w true in
      fault-unshown s.basis.store (export_hand true h f c.0 ∷ []) g.store a (grown_as (IsSeenObject f s.basis c.0) (IsInHands (export_hand true h f c.0 ∷ [])) s.basis.store g.store seen x.store)
      (fault-as (IsSeenObject f s.basis c.0) (IsInHands (export_hand true h f c.0 ∷ [])) g.store seen a fault)

  pub still-seen : (g : Ground) → Extends (IsSeenObject f s.basis c.0) s.basis g → g.map ≡ s.basis.map → IsStill true items h s f c.0 (record s { basis = g })
  still-seen g x m = record {
    state = state-grown items h s f c.0 w (IsSeenObject f s.basis c.0) g [] x (append-nil s.basis.map ∙ sym m);
    grown = grown_as (IsSeenObject f s.basis c.0) (IsInHands (export_hand true h f c.0 ∷ [])) s.basis.store g.store (beside-at items h s f c.0 w true) x.store;
  }

-- What a push brings to a state, by what it brings over its ground.
use Rattle.std.proofs.Common.{◌≡◌, inl, inr, ℕ, List, [], Option, None, Some, Result, Ok, Err, append-nil, refl, sym, subst, ◌∙◌}
use Rattle.std.specs.FinMap.{find}
use Rattle.std.specs.Option.{option_map}
use Rattle.std.specs.Prelude.{IfErr, IfOk}
use Rattle.std.proofs.lemmas.Option.{same_Some}
use Rattle.git_objects.specs.Paths.{Bytes}
use Rattle.git_objects.specs.Refs.{bytes_cmp}
use Rattle.git_objects.specs.Snapshots.{Graph, tree_at}
use Rattle.object_store.specs.Growth.{IsGrownBy}
use Rattle.object_store.specs.Objects.{Object}
use Rattle.object_store.proofs.Growth.{clash_as}
use Rattle.filter_text.specs.Filters.{Filter}
use Rattle.commit_map.specs.declared.rule.Rule.{Rule}
use Rattle.projection_ground.specs.Grounds.{Extends, commits_of}
use Rattle.projection_ground.specs.declared.ground.Ground.{Ground}
use Rattle.projection_ground.proofs.Growing.{extends-as}
use Rattle.projection_laws.specs.Projections.{projection_by, projections}
use Rattle.workspace.specs.Workspaces.{shown}
use Rattle.fast_import.proofs.Putting.{fault_as}
use Rattle.push_back.specs.Waited.{IsTakenTo, plan_waited, push_waited}
use Rattle.push_back.specs.Faults.{IsPushFault}
use Rattle.push_back.specs.Planning.{IsPlanOf, IsPlanned}
use Rattle.push_laws.specs.Pushes.{PushRefusal}
use Rattle.push_back.specs.declared.fault.PushFault.{PushFault}
use Rattle.push_back.specs.declared.fault.PushFault.TheVariants as faults
use Rattle.push_back.specs.declared.brought.Plan.{Plan}
use Rattle.merge_laws.specs.Merges.{merging, shown_trees}
use Rattle.merge_push.specs.Faults.{of_push}
use Rattle.merge_push.specs.Planning.{IsMadeByMerges, IsMergePlanned}
use Rattle.merge_push.specs.Waited.{merge_waited, merges_waited}
use Rattle.merge_push.specs.declared.fault.MergeFault.{MergeFault}
use Rattle.state_items.specs.Items.{Held}
use Rattle.state_items.specs.Repos.{repo}
use Rattle.repo_ground.specs.Contents.{Contents}
use Rattle.proj_words.specs.declared.outcome.Outcome.{Outcome}
use Rattle.proj_commands.specs.Filters.{rule_by}
use Rattle.proj_commands.specs.Intake.{TakesUpTo, pushed_to}
use Rattle.proj_commands.specs.Makes.{IsStateOf}
use Rattle.proj_commands.specs.Push.{pushed_by}
use Rattle.proj_commands.specs.Pushing.{IsMadeOver, IsPlannedUpon, fault_outcome, merge_outcome}
use Rattle.proj_commands.specs.declared.pushing.Manner.{Manner}
use Rattle.proj_commands.specs.declared.pushing.Manner.TheVariants.{InLine, Merging}
use Rattle.proj_commands.proofs.StatesShown.{commits-are, rule-is, state-grown}

-- ---- how much is read

pub takes-at : (m : Manner) (h : Held) (f : Filter) (refname l n : Bytes) → Some l ≡ find bytes_cmp refname h.refs → find bytes_cmp refname h.refs ≡ Some n → (a b : Option Bytes)
    → TakesUpTo (pushed_to m h f refname l) a b → TakesUpTo (pushed_to m h f refname n) a b
takes-at m h f refname l n at is a b t = subst (λ (x : Bytes). TakesUpTo (pushed_to m h f refname x) a b) (same_Some l n (at ∙ is)) t

within : {E : Type 0} (place : Bytes → ℕ) (a b : Option Bytes) (result : Result Plan E) → IsTakenTo place a b result → TakesUpTo place a b
within place None b result t = tt
within place (Some all) b result t = (t.0, t.1, t.2)

-- ---- faults

-- a fault of a push with merges is told as that of a push
merge-outcome : (w : PushFault) → merge_outcome (of_push w) ≡ fault_outcome Merging w
merge-outcome faults.ReadFault = refl
merge-outcome (faults.Stream f) = refl
merge-outcome (faults.OtherRef at) = refl
merge-outcome (faults.NotAtHead m n) = refl
merge-outcome (faults.MergePushed n) = refl
merge-outcome (faults.NoChange n) = refl
merge-outcome (faults.BadWorkspace n) = refl
merge-outcome (faults.Unseen n p) = refl
merge-outcome (faults.NotHeld n q) = refl
merge-outcome (faults.Blocked n p q) = refl
merge-outcome (faults.TreeLimit n q) = refl
merge-outcome (faults.Collision n) = refl
merge-outcome faults.OutOfMemory = refl

-- where more is made it tells the same
push-fault-as : (refusal : Option PushRefusal) (made more : Object → Type 0) (S : List Object) → ((o : Object) → made o → more o) → (w : PushFault) → IsPushFault refusal made S w → IsPushFault refusal more S w
push-fault-as refusal made more S wider faults.ReadFault i = tt
push-fault-as refusal made more S wider (faults.Stream f) (inl e) = inl e
push-fault-as refusal made more S wider (faults.Stream f) (inr p) = inr (fault_as made more S f wider p)
push-fault-as refusal made more S wider (faults.OtherRef at) i = i
push-fault-as refusal made more S wider (faults.NotAtHead m n) i = i
push-fault-as refusal made more S wider (faults.MergePushed n) i = i
push-fault-as refusal made more S wider (faults.NoChange n) i = i
push-fault-as refusal made more S wider (faults.BadWorkspace n) i = i
push-fault-as refusal made more S wider (faults.Unseen n p) i = i
push-fault-as refusal made more S wider (faults.NotHeld n q) i = i
push-fault-as refusal made more S wider (faults.Blocked n p q) i = i
push-fault-as refusal made more S wider (faults.TreeLimit n q) i = i
push-fault-as refusal made more S wider (faults.Collision n) i = clash_as made more S n.0 wider i
push-fault-as refusal made more S wider faults.OutOfMemory i = tt

-- ---- over a ground

-- what becomes of a push in this manner
record IsPlannedBy (m : Manner) (f : Filter) (refname n all : Bytes) (g g' : Ground) (result : Result Plan PushFault) : Type 0 where
  ok : IfOk result (λ p. IsPlanOf g'.store p (pushed_by m g.rule f (commits_of g) n refname all))
  err : IfErr result (IsPushFault (pushed_by m g.rule f (commits_of g) n refname all).refusal (IsMadeOver m f refname n all g.rule (commits_of g)) g'.store)
  same : Extends (IsMadeOver m f refname n all g.rule (commits_of g)) g g'
  map : g'.map ≡ g.map

by-lines : (f : Filter) (refname n all : Bytes) (g g' : Ground) (result : Result Plan PushFault) → IsPlanned f refname n all g g' result → IsPlannedBy InLine f refname n all g g' result
by-lines f refname n all g g' result q = record { ok = q.ok; err = q.err; same = q.same; map = q.map }

module _ (f : Filter) (refname n all : Bytes) (g g' : Ground) where
  abbrev Made : Object → Type 0
  Made = IsMadeByMerges f g n (merging g.rule f (commits_of g) n refname all)

  abbrev More : Object → Type 0
  More = IsMadeOver Merging f refname n all g.rule (commits_of g)

  more : (o : Object) → Made o → More o
  more o (inl m) = inl (inl m)
  more o (inr (inl m)) = inl (inr m)
  more o (inr (inr m)) = inr m

  by-merges-ok : (p : Plan) → IsMergePlanned f refname n all g g' (Ok p) → IsPlannedBy Merging f refname n all g g' (Ok p)
  by-merges-ok p q = record { ok = q.ok; err = tt; same = extends-as Made More g g' more q.same; map = q.map }

  -- as the fault of any push
  record IsMergeErr (e : MergeFault) : Type 0 where
    fault : PushFault
    is : e ≡ of_push fault
    planned : IsPlannedBy Merging f refname n all g g' (Err fault)

  by-merges-err : (e : MergeFault) → IsMergePlanned f refname n all g g' (Err e) → IsMergeErr e
  by-merges-err e q = record {
    fault = q.err.0;
    is = q.err.1;
    planned = record {
      ok = tt;
      err = push-fault-as (merging g.rule f (commits_of g) n refname all).refusal Made More g'.store more q.err.0 q.err.2;
      same = extends-as Made More g g' more q.same;
      map = q.map;
    };
  }

-- ---- upon a state

module _ (items : List Bytes) (h : Held) (s : Contents) (f : Filter) (refname n all : Bytes) (w : IsStateOf items h s) where
  -- by what is held
  over : (P : Rule → Graph → Type 0) → P s.basis.rule (commits_of s.basis) → P (rule_by h.rule) (repo h).commits
  over P p = subst (λ (cs : Graph). P (rule_by h.rule) cs) (commits-are items h s f n w) (subst (λ (k : Rule). P k (commits_of s.basis)) (rule-is h s w.spells) p)

  -- how much of an input it takes
  pub plan-takes : (a b : Option Bytes) (result : Result Plan PushFault) → IsTakenTo (plan_waited f s.basis refname n) a b result → TakesUpTo (pushed_to InLine h f refname n) a b
  plan-takes a b result t =
      over (λ k cs. TakesUpTo (push_waited refname (option_map (λ x. x.commit) (projection_by k (shown f) [] cs n)) (shown f (tree_at cs n))) a b) (within (plan_waited f s.basis refname n) a b result t)

  pub merges-take : (a b : Option Bytes) (result : Result Plan MergeFault) → IsTakenTo (merges_waited f s.basis refname n) a b result → TakesUpTo (pushed_to Merging h f refname n) a b
  merges-take a b result t =
      over (λ k cs. TakesUpTo (merge_waited refname (option_map (λ x. x.commit) (projection_by k (shown f) [] cs n)) (shown f (tree_at cs n)) (shown_trees f cs (projections k (shown f) [] cs))) a b)
      (within (merges_waited f s.basis refname n) a b result t)

  module _ (g : Ground) where
    abbrev s2 : Contents
    s2 = record s { basis = g }

    abbrev IsUpon : Manner → Result Plan Outcome → Type 0
    IsUpon m result = IsPlannedUpon m items h f refname n all s s2 result

    of-plan : (m : Manner) (p : Plan) → IsPlannedBy m f refname n all s.basis g (Ok p) → IsUpon m (Ok p)
    of-plan m p q = record {
      given = over (λ k cs. IsPlanOf g.store p (pushed_by m k f cs n refname all)) q.ok;
      refused = tt;
      state = state-grown items h s f n w (IsMadeOver m f refname n all s.basis.rule (commits_of s.basis)) g [] q.same (append-nil s.basis.map ∙ sym q.map);
      grown = over (λ k cs. IsGrownBy (IsMadeOver m f refname n all k cs) s.basis.store g.store) q.same.store;
      same = refl;
    }

    of-fault : (m : Manner) (e : PushFault) → IsPlannedBy m f refname n all s.basis g (Err e) → IsUpon m (Err (fault_outcome m e))
    of-fault m e q = record {
      given = tt;
      refused = (e, refl, over (λ k cs. IsPushFault (pushed_by m k f cs n refname all).refusal (IsMadeOver m f refname n all k cs) g.store e) q.err);
      state = state-grown items h s f n w (IsMadeOver m f refname n all s.basis.rule (commits_of s.basis)) g [] q.same (append-nil s.basis.map ∙ sym q.map);
      grown = over (λ k cs. IsGrownBy (IsMadeOver m f refname n all k cs) s.basis.store g.store) q.same.store;
      same = refl;
    }

    told-fault : (m : Manner) (e : PushFault) (o : Outcome) (result : Result Plan Outcome) → result ≡ Err o → o ≡ fault_outcome m e → IsPlannedBy m f refname n all s.basis g (Err e) → IsUpon m result
    told-fault m e o result r q p = subst (IsUpon m) (sym r) (subst (λ (x : Outcome). IsUpon m (Err x)) (sym q) (of-fault m e p))

    -- of commits in line
    pub planned-ok : (p : Plan) (result : Result Plan Outcome) → result ≡ Ok p → IsPlanned f refname n all s.basis g (Ok p) → IsPlannedUpon InLine items h f refname n all s s2 result
    planned-ok p result e q = subst (IsUpon InLine) (sym e) (of-plan InLine p (by-lines f refname n all s.basis g (Ok p) q))

    pub planned-err : (e : PushFault) (o : Outcome) (result : Result Plan Outcome) → result ≡ Err o → o ≡ fault_outcome InLine e → IsPlanned f refname n all s.basis g (Err e)
        → IsPlannedUpon InLine items h f refname n all s s2 result
    planned-err e o result r q p = told-fault InLine e o result r q (by-lines f refname n all s.basis g (Err e) p)

    -- of such that may merge
    pub merges-ok : (p : Plan) (result : Result Plan Outcome) → result ≡ Ok p → IsMergePlanned f refname n all s.basis g (Ok p) → IsPlannedUpon Merging items h f refname n all s s2 result
    merges-ok p result e q = subst (IsUpon Merging) (sym e) (of-plan Merging p (by-merges-ok f refname n all s.basis g p q))

    pub merges-err : (e : MergeFault) (o : Outcome) (result : Result Plan Outcome) → result ≡ Err o → o ≡ merge_outcome e → IsMergePlanned f refname n all s.basis g (Err e)
        → IsPlannedUpon Merging items h f refname n all s s2 result
    merges-err e o result r q p =
        let x = by-merges-err f refname n all s.basis g e p in
        told-fault Merging x.fault o result r (q ∙ (λ i. merge_outcome (x.is i)) ∙ merge-outcome x.fault) x.planned

-- How the run of a stream ends, by whatever one command does and whatever is refused at the end.
use Rattle.std.proofs.Common.{◌≡◌, ◌⊎◌, inl, inr, List, [], ◌∷◌, ◌++◌, Option, Some, None, Result, Ok, Err, refl, sym, ap, subst, ◌∙◌}
use Rattle.std.specs.Option.{option_map, option_or}
use Rattle.std.specs.Result.{result_err}
use Rattle.object_store.specs.Growth.{IsGrownBy}
use Rattle.object_store.specs.Objects.{Object}
use Rattle.object_store.proofs.Growth.{grown_as, grown_then}
use Rattle.stream_reader.specs.Verdicts.{Verdict, stopped, with_command}
use Rattle.stream_reader.specs.declared.command.Placed.{Placed}
use Rattle.stream_reader.specs.declared.fault.StreamFault.{StreamFault}
use Rattle.stream_reader.specs.declared.fault.StreamFault.TheVariants.{OutOfMemory}
use Rattle.fast_import.specs.Made.{IsMadeAt, IsMadeBy}
use Rattle.fast_import.specs.Replaying.{Replaying}
use Rattle.fast_import.specs.Replays.{Base, Ran, Replay, gone_on, nothing_yet, ran_by}
use Rattle.fast_import.specs.Standing.{IsReplayOf}
use Rattle.fast_import.proofs.Putting.{fault_as}
use Rattle.fast_import.proofs.Running.{IsRunTo, Step, after_by, made-behind, made-front, run-on, with_all}
use Rattle.push_laws.specs.PushReplays.{StreamRefusal, Faulty}
use Rattle.push_back.specs.Replaying.{Goes, IsFreeFault, IsPushError, IsPushFault, IsRanOn, Tells}
use Rattle.push_back.specs.declared.error.PushError.{PushError}
use Rattle.push_back.specs.declared.error.PushError.TheVariants as errors
use Rattle.push_back.proofs.Running.{goes-along}

-- what a verdict tells is run from a replay on
abbrev pub ran_at : Step StreamRefusal → Replay → Verdict → Ran StreamRefusal
ran_at one r y = ran_by one (option_map Faulty y.fault) r y.commands

-- with what is refused at the end
abbrev pub closed : (Replay → Option StreamRefusal) → Ran StreamRefusal → Ran StreamRefusal
closed last x = record { tried = x.tried; state = x.state; fault = option_or x.fault (last x.state) }

-- the objects that its commands bring
abbrev pub IsMadeIn : Base → Ran StreamRefusal → Object → Type 0
IsMadeIn base x o = IsMadeBy base nothing_yet x.tried o

-- ---- errors

-- an error that tells the refusal
telling : (refusal : Option StreamRefusal) (made : Object → Type 0) (R : List Object) (e : PushError) → Tells refusal e → IsPushError refusal made R e
telling refusal made R errors.ReadFault t = tt
telling refusal made R (errors.OtherRef at) t = inl t
telling refusal made R (errors.NotAtHead m n) t = inl t
telling refusal made R (errors.FurtherParents n) t = inl t
telling refusal made R (errors.Stream f) t = inl t

-- no more is made
free_as : (refusal : Option StreamRefusal) (made more : Object → Type 0) (R : List Object) (e : PushError) → ((o : Object) → made o → more o) → IsFreeFault made R e → IsPushError refusal more R e
free_as refusal made more R errors.ReadFault g t = tt
free_as refusal made more R (errors.OtherRef at) g t = absurd t
free_as refusal made more R (errors.NotAtHead m n) g t = absurd t
free_as refusal made more R (errors.FurtherParents n) g t = absurd t
free_as refusal made more R (errors.Stream f) g t = inr (fault_as made more R f g t)

-- the refusal of a command is that of the stream
error_as : (which refusal : Option StreamRefusal) (made more : Object → Type 0) (R : List Object) (e : PushError) → ((f : StreamRefusal) → which ≡ Some f → refusal ≡ Some f) → ((o : Object) → made o → more o)
    → IsPushFault which made R e → IsPushError refusal more R e
error_as which refusal made more R e same g (inl t) = telling refusal more R e (record { which = t.which; there = same t.which t.there; same = t.same })
error_as which refusal made more R e same g (inr t) = free_as refusal made more R e g t

-- ---- a run that stops, or that has a command refused

none-some : {A : Type 0} (x : A) → ◌≡◌ {A = Option A} None (Some x) → ⊥
none-some x e = cc

closed-fault : (last : Replay → Option StreamRefusal) (y : Ran StreamRefusal) (r : Replay) (f : Option StreamRefusal) → y.state ≡ r → y.fault ≡ f → (closed last y).fault ≡ option_or f (last r)
closed-fault last y r f s e = λ i. option_or (e i) (last (s i))

went-tried : (p : Placed) (before : Replay) (next : Replay → Ran StreamRefusal) (x : Result Replay StreamRefusal) → (qs : List Placed) × ((gone_on p before next x).tried ≡ p ∷ qs)
went-tried p before next (Ok s) = ((next s).tried, refl)
went-tried p before next (Err f) = ([], refl)

went-refused : (p : Placed) (before : Replay) (next : Replay → Ran StreamRefusal) (x : Result Replay StreamRefusal) (f : StreamRefusal) → result_err x ≡ Some f → (gone_on p before next x).fault ≡ Some f
went-refused p before next (Ok s) f e = absurd (none-some f e)
went-refused p before next (Err g) f e = e

module _ (base : Base) (one : Step StreamRefusal) (last : Replay → Option StreamRefusal) (cs : List Placed) (s : Replay) (run : after_by one nothing_yet cs ≡ Ok s)
    (whole later : Verdict) (same : whole ≡ with_all cs later) (S T : List Object) (grown : IsGrownBy (IsMadeBy base nothing_yet cs) S T) (v : Replaying) where
  abbrev ending : Ran StreamRefusal
  ending = closed last (ran_at one nothing_yet whole)

  run_to : IsRunTo (ran_at one nothing_yet whole) cs (ran_at one s later)
  run_to = subst (λ (y : Verdict). IsRunTo (ran_at one nothing_yet y) cs (ran_at one s later)) (sym same) (run-on one (option_map Faulty later.fault) nothing_yet s cs later.commands run)

  made_so_far : (o : Object) → IsMadeBy base nothing_yet cs o → IsMadeIn base ending o
  made_so_far o m = subst (λ (ps : List Placed). IsMadeBy base nothing_yet ps o) (sym run_to.all_tried) (made-front base nothing_yet cs (ran_at one s later).tried o m)

  grown_so_far : IsGrownBy (IsMadeIn base ending) S T
  grown_so_far = grown_as (IsMadeBy base nothing_yet cs) (IsMadeIn base ending) S T made_so_far grown

  -- ---- the reader stops

  state_at : (f : Option StreamFault) → later ≡ stopped f → ending.state ≡ s
  state_at f e = run_to.same_state ∙ ap (λ (y : Verdict). (ran_at one s y).state) e

  fault_at : (f : Option StreamFault) → later ≡ stopped f → ending.fault ≡ option_or (option_map Faulty f) (last s)
  fault_at f e = closed-fault last (ran_at one nothing_yet whole) s (option_map Faulty f) (state_at f e) (run_to.same_fault ∙ ap (λ (y : Verdict). (ran_at one s y).fault) e)

  pub run_given : later ≡ stopped None → last s ≡ None → IsReplayOf T v s → IsRanOn base ending S T v (Ok tt)
  run_given e l k = record {
    taken = fault_at None e ∙ l;
    stands = subst (IsReplayOf T v) (sym (state_at None e)) k;
    refused = tt;
    grown = grown_so_far;
  }

  pub run_closed : later ≡ stopped None → (e : PushError) → Tells (last s) e → IsRanOn base ending S T v (Err e)
  run_closed l e t = record {
    taken = tt;
    stands = tt;
    refused = telling ending.fault (IsMadeIn base ending) T e (subst (λ (o : Option StreamRefusal). Tells o e) (sym (fault_at None l)) t);
    grown = grown_so_far;
  }

  pub run_unread : (f : StreamFault) → (f ≡ OutOfMemory) ⊎ (later ≡ stopped (Some f)) → IsRanOn base ending S T v (Err (errors.Stream f))
  run_unread f e = record { taken = tt; stands = tt; refused = by e; grown = grown_so_far }
    where
      by : (f ≡ OutOfMemory) ⊎ (later ≡ stopped (Some f)) → IsPushFault ending.fault (IsMadeIn base ending) T (errors.Stream f)
      by (inl q) = inr (inl q)
      by (inr q) = inl (record { which = Faulty f; there = fault_at (Some f) q; same = refl })

  -- ---- the source fails, or there is no memory

  pub run_unfed : (e : PushError) → (e ≡ errors.ReadFault) ⊎ (e ≡ errors.Stream OutOfMemory) → IsRanOn base ending S T v (Err e)
  run_unfed e k = record { taken = tt; stands = tt; refused = by k; grown = grown_so_far }
    where
      by : (e ≡ errors.ReadFault) ⊎ (e ≡ errors.Stream OutOfMemory) → IsPushError ending.fault (IsMadeIn base ending) T e
      by (inl q) = subst (IsPushError ending.fault (IsMadeIn base ending) T) (sym q) tt
      by (inr q) = subst (IsPushError ending.fault (IsMadeIn base ending) T) (sym q) (inr (inl refl))

  -- ---- a command is refused

  module _ (goes : Goes base one) (p : Placed) (behind : Verdict) (next : later ≡ with_command p behind) where
    abbrev went : Result Replay StreamRefusal → Ran StreamRefusal
    went y = gone_on p s (λ t. ran_at one t behind) y

    run_step : IsRunTo (ran_at one nothing_yet whole) cs (went (one s p))
    run_step = subst (λ (y : Verdict). IsRunTo (ran_at one nothing_yet whole) cs (ran_at one s y)) next run_to

    made_here : (o : Object) → IsMadeAt s p.command o → IsMadeIn base ending o
    made_here o m =
        let t = went-tried p s (λ t. ran_at one t behind) (one s p) in
        subst (λ (ps : List Placed). IsMadeBy base nothing_yet ps o) (sym (run_step.all_tried ∙ ap (λ (qs : List Placed). cs ++ qs) t.1))
        (made-behind base nothing_yet s cs p t.0 o (goes-along base one goes nothing_yet s cs run) m)

    refused_here : (f : StreamRefusal) → result_err (one s p) ≡ Some f → ending.fault ≡ Some f
    refused_here f e = ap (λ (o : Option StreamRefusal). option_or o (last (ran_at one nothing_yet whole).state)) (run_step.same_fault ∙ went-refused p s (λ t. ran_at one t behind) (one s p) f e)

    pub run_refused : (R : List Object) (w : Replaying) (e : PushError) → IsPushFault (result_err (one s p)) (IsMadeAt s p.command) R e → IsGrownBy (IsMadeAt s p.command) T R → IsRanOn base ending S R w (Err e)
    run_refused R w e k g = record {
      taken = tt;
      stands = tt;
      refused = error_as (result_err (one s p)) ending.fault (IsMadeAt s p.command) (IsMadeIn base ending) R e refused_here made_here k;
      grown = grown_then (IsMadeIn base ending) S T R grown_so_far (grown_as (IsMadeAt s p.command) (IsMadeIn base ending) T R made_here g);
    }

-- Lines `merge NAME`, one by one.
use Rattle.std.proofs.Common.{◌≡◌, ◌<◌, ◌-◌, ℕ, zero, suc, Bool, List, [], ◌∷◌, ◌++◌, Option, Some, None, Ok, Err, sym, ap, ◌∙◌, arith}
use Rattle.std.specs.Prelude.{codes}
use Rattle.stream_lex.specs.Lines.{Input}
use Rattle.stream_reader.specs.declared.commit_ref.CommitRef.{CommitRef}
use Rattle.git_objects.specs.declared.quantity.Quantity.TheVariants as limits
use Rattle.stream_reader.specs.declared.fault.StreamFault.TheVariants.{Limit}
use Rattle.stream_lex.specs.declared.stop.Stop.{Stop}
use Rattle.stream_reader.specs.declared.fault.StreamFault.{StreamFault}
use Rattle.stream_reader.specs.declared.halt.Halt.{Halt}
use Rattle.stream_reader.specs.declared.halt.Halt.TheVariants as halts
use Rattle.stream_lex.specs.declared.stop.Stop.TheVariants as stops
use Rattle.git_objects.specs.Results.{◌>>=◌}
use Rattle.stream_lex.specs.Cutting.{refuse}
use Rattle.stream_reader.specs.Reading.{Judged}
use Rattle.stream_reader.specs.Heads.{ref_line, merges, more_merges}
use Rattle.stream_reader.specs.Views.{Tells}

abbrev pub next_merge : Bool → Input → Judged (Option CommitRef × Input)
next_merge ended i = ref_line (codes "merge ") ended i

module _ (done : List CommitRef) (ended : Bool) (i : Input) where
  halts_here : (n : ℕ) (e : Stop StreamFault) → next_merge ended i ≡ Err e → merges n done ended i ≡ Err e
  halts_here zero e h = ap (λ t. t >>= λ x. more_merges done (λ r. refuse (Limit r.at limits.Parents)) x.0 ended x.1) h
  halts_here (suc n) e h = ap (λ t. t >>= λ x. more_merges done (λ r. merges n (done ++ r ∷ [])) x.0 ended x.1) h

  pub merges_none : (n : ℕ) (j : Input) → next_merge ended i ≡ Ok (None, j) → merges n done ended i ≡ Ok (done, j)
  merges_none zero j h = ap (λ t. t >>= λ x. more_merges done (λ r. refuse (Limit r.at limits.Parents)) x.0 ended x.1) h
  merges_none (suc n) j h = ap (λ t. t >>= λ x. more_merges done (λ r. merges n (done ++ r ∷ [])) x.0 ended x.1) h

  pub merges_some : (n : ℕ) (r : CommitRef) (j : Input) → 0 < n → next_merge ended i ≡ Ok (Some r, j) → merges n done ended i ≡ merges (n - 1) (done ++ r ∷ []) ended j
  merges_some zero r j l h = absurd (omega arith)
  merges_some (suc n) r j l h =
      let k : suc n - 1 ≡ n = omega arith in
      ap (λ t. t >>= λ x. more_merges done (λ r. merges n (done ++ r ∷ [])) x.0 ended x.1) h ∙ ap (λ m. merges m (done ++ r ∷ []) ended j) (sym k)

  pub merges_stop : {X Y : Type 0} (v : X → Option CommitRef × Input) (w : Y → List CommitRef × Input) (n : ℕ) (e : Halt) →
      Tells v (Err e) (next_merge ended i) → Tells w (Err e) (merges n done ended i)
  merges_stop v w n (halts.More m) h = halts_here n (stops.More m) h
  merges_stop v w n halts.Memory h = tt
  merges_stop v w n (halts.Fault f) h = halts_here n (stops.Fault f) h

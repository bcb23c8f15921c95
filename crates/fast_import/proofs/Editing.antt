-- An edit of a stage that was refused.
use Rattle.std.proofs.Common.{◌≡◌, ◌⊎◌, inl, inr, ℕ, Result, Err, IfErr, List, sym, ap, subst}
use Rattle.git_objects.specs.Results.{refused_by}
use Rattle.git_objects.specs.Trees.{Flat}
use Rattle.object_store.specs.Objects.{Object}
use Rattle.stage_tree.specs.Edits.{IsEdited}
use Rattle.stage_tree.specs.Stages.{Shows, Staged}
use Rattle.stage_tree.specs.declared.fault.StageFault.{StageFault}
use Rattle.stage_tree.specs.declared.fault.StageFault.TheVariants as edits
use Rattle.fast_import.specs.Replaying.{fault_at}
use Rattle.fast_import.specs.Standing.{IsRedrawn}
use Rattle.stream_reader.specs.declared.fault.StreamFault.{StreamFault}
use Rattle.stream_reader.specs.declared.fault.StreamFault.TheVariants.{OutOfMemory}

pub edit_refused : (S : List Object) (after : Staged) (t : Flat) (left : Result Flat StageFault) (at : ℕ) (f : StageFault) (g : StreamFault) (result : Result (Unit {0}) StageFault) → IsEdited S after t left result → result ≡ Err f → g ≡ fault_at at f
    → IsRedrawn S after (refused_by (fault_at at) left) (Err g)
edit_refused S after t left at f g result k i e = record {
  drawn = tt;
  not_drawn = subst (λ (x : StreamFault). (refused_by (fault_at at) left ≡ Err x) ⊎ (x ≡ OutOfMemory)) (sym e)
      (by (subst (λ (r : Result (Unit {0}) StageFault). IfErr r (λ x. Shows S after t × ((x ≡ edits.OutOfMemory) ⊎ (left ≡ Err x)))) i k.refused).1);
}
  where
    by : (f ≡ edits.OutOfMemory) ⊎ (left ≡ Err f) → (refused_by (fault_at at) left ≡ Err (fault_at at f)) ⊎ (fault_at at f ≡ OutOfMemory)
    by (inl m) = inr (ap (fault_at at) m)
    by (inr m) = inl (ap (refused_by (fault_at at)) m)

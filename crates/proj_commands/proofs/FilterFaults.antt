-- What is wrong with a filter decides what a text is refused for.
use Rattle.std.proofs.Common.{◌≡◌, ◌⊎◌, inl, inr, true, Some, Ok, Err, Result, refl, ap, ◌∙◌}
use Rattle.git_objects.specs.Paths.{Bytes}
use Rattle.git_objects.specs.Results.{◌>>=◌, refused_by}
use Rattle.filter_text.specs.Filters.{Filter, has_paths}
use Rattle.filter_text.specs.Limits.{read}
use Rattle.filter_text.specs.declared.filter.FilterFault.{FilterFault}
use Rattle.filter_routes.specs.FaultTests.{fault}
use Rattle.filter_routes.specs.RouteFaults.{IsRouteFault}
use Rattle.filter_routes.specs.Soundness.{IsSound}
use Rattle.filter_routes.specs.declared.fault.RouteFault.{RouteFault}
use Rattle.filter_routes.specs.declared.fault.RouteFault.TheVariants.{NotKeeping, Overlap}
use Rattle.filter_routes.specs.declared.fault.RouteFault.TheVariants as routes
use Rattle.filter_routes.proofs.FaultsTold.{fault-test-law}
use Rattle.proj_words.specs.Faults.{filter_outcome, route_outcome}
use Rattle.proj_words.specs.declared.outcome.Outcome.TheVariants.{OutOfMemory}
use Rattle.proj_commands.specs.Filters.{sound, without_fault}

refused : (text : Bytes) (f : Filter) (e : RouteFault) → read text ≡ Ok f → fault f ≡ Some e → sound text ≡ Err (route_outcome e)
unfolding sound
refused text f e r w = ap (λ (x : Result Filter FilterFault). refused_by filter_outcome x >>= λ g. without_fault g (fault g)) r ∙ ap (without_fault f) w

-- a filter without a fault is the text's
pub faultless : (text : Bytes) (f : Filter) → has_paths f ≡ true → read text ≡ Ok f → IsSound f → sound text ≡ Ok f
unfolding sound
faultless text f paths r s =
    ap (λ (x : Result Filter FilterFault). refused_by filter_outcome x >>= λ g. without_fault g (fault g)) r
    ∙ ap (without_fault f) ((fault-test-law.sound f paths).1 s)

-- and for its fault the text is refused
pub faulty : (text : Bytes) (f : Filter) (e : RouteFault) → has_paths f ≡ true → read text ≡ Ok f → IsRouteFault f e
    → (route_outcome e ≡ OutOfMemory) ⊎ (sound text ≡ Err (route_outcome e))
faulty text f (NotKeeping n) paths r w = inr (refused text f (NotKeeping n) r ((fault-test-law.not_keeping f n paths).1 w))
faulty text f (Overlap n a b) paths r w = inr (refused text f (Overlap n a b) r ((fault-test-law.overlap f n a b paths).1 w))
faulty text f routes.OutOfMemory paths r w = inl refl

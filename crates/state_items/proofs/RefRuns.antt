-- Refs of an item, one after another.
use Rattle.std.proofs.Common.{◌≡◌, ℕ, suc, ◌+◌, ◌-◌, ◌<◌, List, Option, Some, Ok, refl, ap, ◌∙◌, arith}
use Rattle.std.specs.FinMap.{put}
use Rattle.git_objects.specs.Paths.{Bytes}
use Rattle.object_store.specs.Objects.{Object}
use Rattle.git_objects.specs.Results.{◌>>=◌}
use Rattle.state_items.specs.Fields.{Spot}
use Rattle.state_items.specs.Items.{head_field, ref_field, refs_field}
use Rattle.git_objects.specs.Refs.{Refs, bytes_cmp}
use Rattle.state_items.specs.Steps.{one_ref}
use Rattle.state_items.specs.Stops.{IsStop}
use Rattle.state_items.specs.declared.fault.ItemFault.{ItemFault}
use Rattle.state_items.proofs.Stopping.{then-ok, then-stop, stop-along, together}

module _ (S : List Object) (before : Option Bytes) (refs : Refs) (s : Spot) where
  refs-one : (n : ℕ) → refs_field (suc n) S before refs s ≡ (one_ref S before refs s >>= (λ q. refs_field n S (Some q.0.0) q.0.1 q.1))
  refs-one n =
      together (ref_field before s) (λ r. head_field S r.1 >>= (λ h. Ok ((r.0, put bytes_cmp r.0 h.0 refs), h.1))) (λ q. refs_field n S (Some q.0.0) q.0.1 q.1)
      (λ r. head_field S r.1 >>= (λ h. refs_field n S (Some r.0) (put bytes_cmp r.0 h.0 refs) h.1))
      (λ r. together (head_field S r.1) (λ h. Ok ((r.0, put bytes_cmp r.0 h.0 refs), h.1)) (λ q. refs_field n S (Some q.0.0) q.0.1 q.1) (λ h. refs_field n S (Some r.0) (put bytes_cmp r.0 h.0 refs) h.1) (λ h. refl))

  one_more : (count i : ℕ) → i < count → count - i ≡ suc (count - (i + 1))
  one_more count i h = omega arith

  pub refs-more : (count i : ℕ) (name : Bytes) (after : Refs) (t : Spot) → i < count → one_ref S before refs s ≡ Ok ((name, after), t) →
      refs_field (count - i) S before refs s ≡ refs_field (count - (i + 1)) S (Some name) after t
  refs-more count i name after t h e =
      ap (λ n. refs_field n S before refs s) (one_more count i h)
      ∙ refs-one (count - (i + 1))
      ∙ then-ok (one_ref S before refs s) (λ q. refs_field (count - (i + 1)) S (Some q.0.0) q.0.1 q.1) ((name, after), t) e

  pub refs-stop : (count i : ℕ) (stop : ItemFault) → i < count → IsStop stop (one_ref S before refs s) → IsStop stop (refs_field (count - i) S before refs s)
  refs-stop count i stop h e =
      stop-along stop (refs_field (count - i) S before refs s) (one_ref S before refs s >>= (λ q. refs_field (count - (i + 1)) S (Some q.0.0) q.0.1 q.1))
      (ap (λ n. refs_field n S before refs s) (one_more count i h) ∙ refs-one (count - (i + 1)))
      (then-stop stop (one_ref S before refs s) (λ q. refs_field (count - (i + 1)) S (Some q.0.0) q.0.1 q.1) e)

  pub refs-done : (count i : ℕ) → i ≡ count → refs_field (count - i) S before refs s ≡ Ok (refs, s)
  refs-done count i h = let none : count - i ≡ 0 = omega arith in ap (λ n. refs_field n S before refs s) none

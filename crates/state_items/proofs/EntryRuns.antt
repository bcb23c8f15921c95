-- Kept projections of an item, one after another.
use Rattle.std.proofs.Common.{◌≡◌, ℕ, suc, ◌+◌, ◌-◌, ◌<◌, List, Ok, ap, ◌∙◌, arith}
use Rattle.object_store.specs.Objects.{Object}
use Rattle.commit_map.specs.Shown.{Entries}
use Rattle.state_items.specs.Fields.{Spot}
use Rattle.state_items.specs.Steps.{entries_step, entry_step}
use Rattle.state_items.specs.Stops.{IsStop}
use Rattle.state_items.specs.declared.fault.ItemFault.{ItemFault}
use Rattle.state_items.proofs.Stopping.{then-ok, then-stop, stop-along}

module _ (S : List Object) (es : Entries) (s : Spot) where
  one_more : (count i : ℕ) → i < count → count - i ≡ suc (count - (i + 1))
  one_more count i h = omega arith

  pub entries-more : (count i : ℕ) (ds : Entries) (t : Spot) → i < count → entry_step S es s ≡ Ok (ds, t) → entries_step (count - i) S es s ≡ entries_step (count - (i + 1)) S ds t
  entries-more count i ds t h e =
      ap (λ n. entries_step n S es s) (one_more count i h)
      ∙ then-ok (entry_step S es s) (λ q. entries_step (count - (i + 1)) S q.0 q.1) (ds, t) e

  pub entries-stop : (count i : ℕ) (stop : ItemFault) → i < count → IsStop stop (entry_step S es s) → IsStop stop (entries_step (count - i) S es s)
  entries-stop count i stop h e =
      stop-along stop (entries_step (count - i) S es s) (entries_step (suc (count - (i + 1))) S es s)
      (ap (λ n. entries_step n S es s) (one_more count i h))
      (then-stop stop (entry_step S es s) (λ q. entries_step (count - (i + 1)) S q.0 q.1) e)

-- Objects of an item, one after another.
use Rattle.std.proofs.Common.{◌≡◌, ℕ, suc, ◌+◌, ◌-◌, ◌<◌, List, Ok, ap, ◌∙◌, arith}
use Rattle.object_store.specs.Objects.{Object}
use Rattle.state_items.specs.Fields.{Spot}
use Rattle.state_items.specs.Items.{object_field, objects_field}
use Rattle.state_items.specs.Stops.{IsStop}
use Rattle.state_items.specs.declared.fault.ItemFault.{ItemFault}
use Rattle.state_items.proofs.Stopping.{then-ok, then-stop, stop-along}

module _ (S : List Object) (s : Spot) where
  one_more : (count i : ℕ) → i < count → count - i ≡ suc (count - (i + 1))
  one_more count i h = omega arith

  pub objects-more : (count i : ℕ) (T : List Object) (t : Spot) → i < count → object_field S s ≡ Ok (T, t) → objects_field (count - i) S s ≡ objects_field (count - (i + 1)) T t
  objects-more count i T t h e =
      ap (λ n. objects_field n S s) (one_more count i h)
      ∙ then-ok (object_field S s) (λ q. objects_field (count - (i + 1)) q.0 q.1) (T, t) e

  pub objects-stop : (count i : ℕ) (stop : ItemFault) → i < count → IsStop stop (object_field S s) → IsStop stop (objects_field (count - i) S s)
  objects-stop count i stop h e =
      stop-along stop (objects_field (count - i) S s) (objects_field (suc (count - (i + 1))) S s)
      (ap (λ n. objects_field n S s) (one_more count i h))
      (then-stop stop (object_field S s) (λ q. objects_field (count - (i + 1)) q.0 q.1) e)

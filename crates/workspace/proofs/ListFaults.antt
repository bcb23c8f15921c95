-- What the list of items gives by the first fault of it.
use Rattle.std.specs.Prelude.{◌≡◌, refl, ℕ, true, List, [], ◌∷◌, length}
use Rattle.std.proofs.Common.{ap, ◌∙◌, sym, subst, arith}
use Rattle.filter_text.specs.Filters.{Filter, has_paths}
use Rattle.filter_text.specs.Views.{item_values}
use Rattle.filter_text.specs.declared.filter.Item.{Item}
use Rattle.filter_routes.specs.Faults.{IsNotKeeping, IsOverlap}
use Rattle.filter_routes.specs.FaultTests.{fault}
use Rattle.filter_routes.specs.Soundness.{IsSound}
use Rattle.filter_routes.specs.declared.fault.RouteFault.TheVariants.{NotKeeping, Overlap}
use Rattle.filter_routes.proofs.FaultsTold.{fault-test-law}
use Rattle.workspace.specs.Giving.{list_gives}
use Rattle.workspace.specs.declared.giving.LeafGives.TheVariants as gives

length-values : (is : List Item) → length (item_values is) ≡ length is
length-values [] = refl
length-values (i ∷ is) = omega (arith, length-values is)

-- a filter that is the list of these items, and that list
module _ (f g : Filter) (is : List Item) (same : f ≡ g) (paths : has_paths g ≡ true) where
  pub sound-gives : IsSound f → gives.Items (length is) ≡ list_gives (item_values is) (fault g)
  sound-gives h =
      ap gives.Items (sym (length-values is))
      ∙ ap (list_gives (item_values is)) (sym ((fault-test-law.sound g paths).1 (subst IsSound same h)))

  pub not-keeping-gives : (n : ℕ) → IsNotKeeping f n → gives.Unsound (NotKeeping n) ≡ list_gives (item_values is) (fault g)
  not-keeping-gives n h =
      ap (list_gives (item_values is)) (sym ((fault-test-law.not_keeping g n paths).1 (subst (λ x. IsNotKeeping x n) same h)))

  pub overlap-gives : (n a b : ℕ) → IsOverlap f n a b → gives.Unsound (Overlap n a b) ≡ list_gives (item_values is) (fault g)
  overlap-gives n a b h =
      ap (list_gives (item_values is)) (sym ((fault-test-law.overlap g n a b paths).1 (subst (λ x. IsOverlap x n a b) same h)))

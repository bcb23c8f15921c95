-- How many pieces the list has that takes a workspace's place.
use Rattle.std.specs.Prelude.{◌≡◌, refl, ◌+◌, ◌*◌, ◌^◌, ◌≤◌, ◌<◌, Some, List, [], ◌∷◌, length, map, flat_map, sum_by}
use Rattle.std.proofs.Common.{arith, ap}
use Rattle.std.proofs.lemmas.List.{length-map}
use Rattle.std.proofs.lemmas.List.Sums.{sum_by-cons}
use Rattle.git_objects.specs.Lists.{Each}
use Rattle.git_objects.specs.Paths.{Bytes, Path}
use Rattle.git_objects.specs.declared.limits.TheConstants.{FILTER_COMPONENTS}
use Rattle.filter_text.specs.Filters.{Filters, no_more, more, append, only, file, pieces, pieces_in}
use Rattle.filter_text.specs.Items.{Item, items}
use Rattle.workspace.proofs.ItemRooms.{AreFew, IsShallow, items-few}
use Rattle.workspace.specs.Workspaces.{around, filters_of, fronts, listed, own_branch}
use Rattle.workspace.proofs.Lists.{filters-append}

pieces-append : (fs gs : Filters) → pieces_in (append fs gs) ≡ pieces_in fs + pieces_in gs
pieces-append no_more gs = omega arith
pieces-append (more f fs) gs = omega (arith, pieces-append fs gs)

files-pieces : (ps : List Path) → pieces_in (filters_of (map file ps)) ≡ length ps
files-pieces [] = refl
files-pieces (p ∷ ps) = omega (arith, files-pieces ps)

length-fronts : (p : Path) → length (fronts p) ≤ length p
length-fronts [] = omega arith
length-fronts (c ∷ []) = omega arith
length-fronts (c ∷ d ∷ p) = omega (arith, length-fronts (d ∷ p), length-map (fronts (d ∷ p)) (λ q. c ∷ q))

-- what keeps the paths that are comparable with a place of few components
around-few : (p : Path) → length p ≤ FILTER_COMPONENTS → pieces_in (filters_of (around p)) ≤ 2 + FILTER_COMPONENTS
around-few p h = omega (arith, h, length-fronts p, files-pieces (fronts p))

around-all-few : (is : List Item) → Each IsShallow is → pieces_in (filters_of (flat_map (λ i. around i.0) is)) ≤ (2 + FILTER_COMPONENTS) * length is
around-all-few [] h = omega arith
around-all-few (i ∷ is) h =
    omega (
      arith,
      around-few i.0 h.0,
      around-all-few is h.1,
      ap pieces_in (filters-append (around i.0) (flat_map (λ j. around j.0) is)),
      pieces-append (filters_of (around i.0)) (filters_of (flat_map (λ j. around j.0) is)),
    )

branches-pieces : (is : List Item) → pieces_in (filters_of (map (λ i. i.1) is)) ≡ sum_by (λ i. pieces i.1) is
branches-pieces [] = refl
branches-pieces (i ∷ is) = omega (arith, branches-pieces is, sum_by-cons (λ (j : Item). pieces j.1) i is)

list-few : (w : Path) (is : List Item) → AreFew is → pieces (listed w is) < 2 ^ 31
unfolding listed
list-few w is h =
    omega (
      arith,
      h.few,
      h.fit,
      around-all-few is h.shallow,
      branches-pieces is,
      pieces-append (filters_of (map (λ i. i.1) is)) (only (own_branch w is)),
    )

-- the list of the items of a text
pub text-few : (w : Path) (t : Bytes) (is : List Item) → items t ≡ Some is → pieces (listed w is) < 2 ^ 31
text-few w t is e = list-few w is (items-few t is e)

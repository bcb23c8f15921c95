-- The first fault of a filter, as a test that computes: decision lists stand in for all paths.
use Rattle.std.specs.Prelude.{◌≡◌, ◌↔◌, ℕ, ◌+◌, true, false, if◌then◌else◌, List, [], ◌∷◌, Option, Some, None}
use Rattle.std.specs.Option.{option_map, option_or}
use Rattle.filter_text.specs.Filters.{Filter, Filters, nop, sub, onto, dir, file, exclude, join, chain, workspace, no_more, more, has_paths}
use Rattle.filter_routes.specs.Faults.{Piece, IsNotKeeping, IsOverlap, keeps, nodes}
use Rattle.filter_routes.specs.Soundness.{IsSound}
use Rattle.filter_routes.specs.SoundTests.{is_clash}
use Rattle.filter_routes.specs.declared.fault.RouteFault.{RouteFault}
use Rattle.filter_routes.specs.declared.fault.RouteFault.TheVariants.{NotKeeping, Overlap}

-- of pieces numbered from n, the first that may not stand inside of its exclude
abbrev pub first_not_keeping : ℕ → List Piece → Option ℕ
first_not_keeping n [] = None
first_not_keeping n (v ∷ vs) = if keeps v then first_not_keeping (n + 1) vs else Some n

-- of branches numbered from b, the first that clashes with f
abbrev pub first_clash : Filter → ℕ → Filters → Option ℕ
first_clash f b no_more = None
first_clash f b (more g gs) = if is_clash f g then Some b else first_clash f (b + 1) gs

-- of branches numbered from a, the smallest pair that clashes
abbrev pub first_pair : ℕ → Filters → Option (ℕ × ℕ)
first_pair a no_more = None
first_pair a (more f fs) = option_or (option_map (λ b. (a, b)) (first_clash f (a + 1) fs)) (first_pair (a + 1) fs)

-- the branches of a list
abbrev pub branches_of : Filter → Filters
branches_of nop = no_more
branches_of (sub a) = no_more
branches_of (onto a) = no_more
branches_of (dir a) = no_more
branches_of (file a) = no_more
branches_of (exclude f) = no_more
branches_of (join fs) = fs
branches_of (chain fs) = no_more
branches_of (workspace a) = no_more

-- inside of an exclude branches may have paths in common
abbrev pub pair_in : Piece → Option (ℕ × ℕ)
pair_in (true, f) = None
pair_in (false, f) = first_pair 0 (branches_of f)

-- of pieces numbered from n, the first list with two branches that clash, and its smallest pair
abbrev pub first_overlap : ℕ → List Piece → Option RouteFault
first_overlap n [] = None
first_overlap n (v ∷ vs) = option_or (option_map (λ p. Overlap n p.0 p.1) (pair_in v)) (first_overlap (n + 1) vs)

-- a piece that may not stand inside of its exclude comes before two branches that clash
unfoldable pub fault : Filter → Option RouteFault
fault f = option_or (option_map NotKeeping (first_not_keeping 0 (nodes false f))) (first_overlap 0 (nodes false f))

-- the test is exact
pub record FaultTestLaw : Type 0 where
  pub sound : (f : Filter) → has_paths f ≡ true → (fault f ≡ None) ↔ IsSound f
  pub not_keeping : (f : Filter) (n : ℕ) → has_paths f ≡ true → (fault f ≡ Some (NotKeeping n)) ↔ IsNotKeeping f n
  pub overlap : (f : Filter) (n a b : ℕ) → has_paths f ≡ true → (fault f ≡ Some (Overlap n a b)) ↔ IsOverlap f n a b

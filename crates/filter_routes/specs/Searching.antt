-- What the search for the first overlap finds.
use Rattle.std.specs.Prelude.{◌≡◌, ℕ, ◌+◌, ◌<◌, List, [], ◌∷◌, length, slice_get, Option, Some, None, Bool, true, false, Result, Ok, Err, ⊤}
use Rattle.filter_text.specs.Filters.{Filters, no_more, more, join}
use Rattle.decision_lists.specs.Entries.{Entry}
use Rattle.decision_lists.specs.Cells.{any_clash, cells}
use Rattle.filter_routes.specs.Lists.{IsListOf}
use Rattle.filter_routes.specs.Faults.{Piece, PairAt, IsBefore}
use Rattle.filter_routes.specs.declared.fault.RouteFault.{RouteFault}
use Rattle.filter_routes.specs.declared.fault.RouteFault.TheVariants.{NotKeeping, Overlap, OutOfMemory}

-- the decision lists of the members, in their order
abbrev pub AreListsOf : Filters → List (List Entry) → Type 0
AreListsOf no_more [] = ⊤
AreListsOf no_more (v ∷ vs) = ⊥
AreListsOf (more f fs) [] = ⊥
AreListsOf (more f fs) (v ∷ vs) = IsListOf f v × AreListsOf fs vs

abbrev pub clash_of : Option (List Entry) → Option (List Entry) → Bool
clash_of None o = false
clash_of (Some v) None = false
clash_of (Some v) (Some w) = any_clash (cells [] v) (cells [] w)

-- whether the lists at two places clash
abbrev pub clash_at : List (List Entry) → ℕ → ℕ → Bool
clash_at vs a b = clash_of (slice_get vs a) (slice_get vs b)

-- the first list behind this place that clashes with the one there
abbrev pub ClashBehind : List (List Entry) → ℕ → Option ℕ → Type 0
ClashBehind vs a None = (b : ℕ) → a < b → clash_at vs a b ≡ false
ClashBehind vs a (Some b) = (a < b) × (b < length vs) × (clash_at vs a b ≡ true) × ((d : ℕ) → a < d → d < b → clash_at vs a d ≡ false)

-- the smallest pair of lists that clash
abbrev pub FirstClash : List (List Entry) → Option (ℕ × ℕ) → Type 0
FirstClash vs None = (a b : ℕ) → a < b → clash_at vs a b ≡ false
FirstClash vs (Some p) =
    (p.0 < p.1) × (p.1 < length vs) × (clash_at vs p.0 p.1 ≡ true) × ((c d : ℕ) → c < d → IsBefore c d p.0 p.1 → clash_at vs c d ≡ false)

-- no two branches of the list clash
abbrev pub NoPairAt : Filters → Type 0
NoPairAt fs = (a b : ℕ) → PairAt fs a b → ⊥

-- the list with this number has two branches that clash, and these are its smallest pair
abbrev pub FirstPairOf : ℕ → Filters → RouteFault → Type 0
FirstPairOf n fs (NotKeeping k) = ⊥
FirstPairOf n fs (Overlap m a b) = (m ≡ n) × PairAt fs a b × ((c d : ℕ) → IsBefore c d a b → PairAt fs c d → ⊥)
FirstPairOf n fs OutOfMemory = ⊤

-- no list outside of excludes has two branches that clash
abbrev pub NoPair : List Piece → Type 0
NoPair vs = (k : ℕ) (fs : Filters) → slice_get vs k ≡ Some (false, join fs) → NoPairAt fs

-- among pieces numbered from n the list m is the first with two branches that clash, and these are its smallest pair
pub record FirstPair (n : ℕ) (vs : List Piece) (m a b : ℕ) : Type 0 where
  pub place : ℕ
  pub branches : Filters
  pub is_place : n + place ≡ m
  pub is_list : slice_get vs place ≡ Some (false, join branches)
  pub pair : PairAt branches a b
  pub first_list : (k : ℕ) (fs : Filters) → k < place → slice_get vs k ≡ Some (false, join fs) → NoPairAt fs
  pub first_pair : (c d : ℕ) → IsBefore c d a b → PairAt branches c d → ⊥

abbrev pub Refused : ℕ → List Piece → RouteFault → Type 0
Refused n vs (NotKeeping k) = ⊥
Refused n vs (Overlap m a b) = FirstPair n vs m a b
Refused n vs OutOfMemory = ⊤

-- the number behind the pieces where no two branches clash, else the first that do
abbrev pub Searched : ℕ → List Piece → Result ℕ RouteFault → Type 0
Searched n vs (Ok m) = (m ≡ n + length vs) × NoPair vs
Searched n vs (Err fault) = Refused n vs fault

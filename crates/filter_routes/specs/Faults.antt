-- Pieces in their order, and the first fault of a filter.
use Rattle.std.specs.Prelude.{◌≡◌, ℕ, ◌<◌, suc, zero, List, [], ◌∷◌, ◌++◌, Option, Some, None, Bool, true, false, slice_get, ◌⊎◌, ◌+◌, cond, Result, Ok, Err}
use Rattle.filter_text.specs.Filters.{Filter, Filters, nop, sub, onto, dir, file, exclude, join, chain, workspace, no_more, more}
use Rattle.filter_routes.specs.Soundness.{Clash}

-- a piece, and whether it stands inside of an exclude
abbrev pub Piece : Type 0
Piece = Bool × Filter

-- the pieces: all parts of a filter but the chains, each before its parts
abbrev mutual
  pub nodes : Bool → Filter → List Piece
  nodes inside nop = (inside, nop) ∷ []
  nodes inside (sub a) = (inside, sub a) ∷ []
  nodes inside (onto a) = (inside, onto a) ∷ []
  nodes inside (dir a) = (inside, dir a) ∷ []
  nodes inside (file a) = (inside, file a) ∷ []
  nodes inside (exclude f) = (inside, exclude f) ∷ nodes true f
  nodes inside (join fs) = (inside, join fs) ∷ nodes_all inside fs
  nodes inside (chain fs) = nodes_all inside fs
  nodes inside (workspace a) = (inside, workspace a) ∷ []

  pub nodes_all : Bool → Filters → List Piece
  nodes_all inside no_more = []
  nodes_all inside (more f fs) = nodes inside f ++ nodes_all inside fs

abbrev pub member : Filters → ℕ → Option Filter
member no_more n = None
member (more f fs) zero = Some f
member (more f fs) (suc n) = member fs n

-- what may stand inside of an exclude
abbrev pub may_keep : Filter → Bool
may_keep nop = true
may_keep (sub a) = false
may_keep (onto a) = false
may_keep (dir a) = true
may_keep (file a) = true
may_keep (exclude f) = false
may_keep (join fs) = true
may_keep (chain fs) = true
may_keep (workspace a) = false

abbrev pub keeps : Piece → Bool
keeps (false, f) = true
keeps (true, f) = may_keep f

-- branches a and b of the list clash, a before b
pub record PairAt (fs : Filters) (a b : ℕ) : Type 0 where
  pub f : Filter
  pub g : Filter
  pub ordered : a < b
  pub is_f : member fs a ≡ Some f
  pub is_g : member fs b ≡ Some g
  pub clash : Clash f g

-- the piece with this number is the first that may not stand inside of its exclude
pub record IsNotKeeping (f : Filter) (n : ℕ) : Type 0 where
  pub piece : Piece
  pub is_piece : slice_get (nodes false f) n ≡ Some piece
  pub fails : keeps piece ≡ false
  pub before : (m : ℕ) (v : Piece) → m < n → slice_get (nodes false f) m ≡ Some v → keeps v ≡ true

-- a pair before another
abbrev pub IsBefore : ℕ → ℕ → ℕ → ℕ → Type 0
IsBefore c d a b = (c < a) ⊎ ((c ≡ a) × (d < b))

-- Every piece may stand where it does, the list with this number outside of excludes is the first with two branches that
-- clash, and a and b are its smallest pair.
pub record IsOverlap (f : Filter) (n a b : ℕ) : Type 0 where
  pub keeping : (m : ℕ) (v : Piece) → slice_get (nodes false f) m ≡ Some v → keeps v ≡ true
  pub branches : Filters
  pub is_list : slice_get (nodes false f) n ≡ Some (false, join branches)
  pub pair : PairAt branches a b
  pub first_list : (m c d : ℕ) (fs : Filters) → m < n → slice_get (nodes false f) m ≡ Some (false, join fs) → PairAt fs c d → ⊥
  pub first_pair : (c d : ℕ) → IsBefore c d a b → PairAt branches c d → ⊥

-- The number behind pieces that begin with the number n, where each may stand where it does; else that of the first that
-- may not.
abbrev pub walk : ℕ → List Piece → Result ℕ ℕ
walk n [] = Ok n
walk n (v ∷ vs) = cond (keeps v) (walk (n + 1) vs) (Err n)

-- the first piece that may not stand inside of its exclude, or none
abbrev pub FirstNotKeeping : Filter → Option ℕ → Type 0
FirstNotKeeping f None = (m : ℕ) (v : Piece) → slice_get (nodes false f) m ≡ Some v → keeps v ≡ true
FirstNotKeeping f (Some n) = IsNotKeeping f n

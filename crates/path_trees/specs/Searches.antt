-- Look-ups in a listing that go on where the last one ended.
use Rattle.std.specs.Prelude.{◌≡◌, Bool, true, false, cond, ◌==◌, nat_lt, List, [], ◌∷◌}
use Rattle.git_objects.specs.Entries.{AreEntries}
use Rattle.git_objects.specs.Paths.{Bytes}
use Rattle.git_objects.specs.declared.entry.Entry.{Entry}
use Rattle.path_trees.specs.Listed.{found_at}

-- whether a has the lesser byte where the two first differ; neither is a front of the other
abbrev pub precedes : Bytes → Bytes → Bool
precedes [] b = false
precedes (x ∷ a) [] = false
precedes (x ∷ a) (y ∷ b) = cond (x == y) (precedes a b) (nat_lt x y)

-- What is left of a listing has each component that is above this one as the whole listing has it.
pub record IsBehind (c : Bytes) (all rest : List Entry) : Type 0 where
  pub order : AreEntries rest
  pub above : (d : Bytes) → precedes c d ≡ true → found_at d rest ≡ found_at d all

-- and this one, too
pub record IsFrom (c : Bytes) (all rest : List Entry) : Type 0 where
  pub behind : IsBehind c all rest
  pub here : found_at c rest ≡ found_at c all

-- a whole listing, and what is left of it behind a component
pub record IsSearch (c : Bytes) (all rest : List Entry) : Type 0 where
  pub order : AreEntries all
  pub behind : IsBehind c all rest

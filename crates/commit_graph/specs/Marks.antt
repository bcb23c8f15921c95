-- Marks at the places from one on: the mark at i is that of the place `low + i`.
use Rattle.std.specs.Prelude.{◌≡◌, ℕ, ◌+◌, ◌↔◌, ◌⊎◌, Bool, false, List, length, Contains, IsTrue}
use Rattle.std.specs.List.{slice_index_or}
use Rattle.commit_graph.specs.Graphs.{Row, Reaches}

abbrev pub is_marked : List Bool → ℕ → Bool
is_marked marks i = slice_index_or marks i false

-- after the places from `low` on were marked, besides what was marked before
abbrev pub AddsMarks : ℕ → List Bool → List Bool → List ℕ → Type 0
AddsMarks low before after places = (i : ℕ) → IsTrue (is_marked after i) ↔ (IsTrue (is_marked before i) ⊎ Contains places (low + i))

-- marks of the places from `low` up to the head that say which of them the head reaches
pub record MarksReached (rows : List Row) (head low : ℕ) (marks : List Bool) : Type 0 where
  pub long : low + length marks ≡ head + 1
  pub exact : (i : ℕ) → IsTrue (is_marked marks i) ↔ Reaches rows head (low + i)

-- Soundness as a test that computes: decision lists stand in for all paths.
use Rattle.std.specs.Prelude.{◌≡◌, ◌↔◌, Bool, true, not, ◌&&◌, List, [], ◌∷◌, Some}
use Rattle.filter_text.specs.Filters.{Filter, Filters, nop, sub, onto, dir, file, exclude, join, chain, workspace, no_more, more, has_paths}
use Rattle.decision_lists.specs.Entries.{Entry, at, below}
use Rattle.decision_lists.specs.Operations.{turned, either_left, after_left}
use Rattle.decision_lists.specs.Cells.{cells, any_clash}
use Rattle.filter_routes.specs.Soundness.{IsSound, is_keeping}

-- the decision list of a filter
abbrev mutual
  pub entries : Filter → List Entry
  entries nop = (below [], Some []) ∷ []
  entries (sub a) = (below a, Some []) ∷ []
  entries (onto a) = (below [], Some a) ∷ []
  entries (dir a) = (below a, Some a) ∷ []
  entries (file a) = (at a, Some a) ∷ []
  entries (exclude f) = turned [] (entries f)
  entries (join fs) = joined fs []
  entries (chain fs) = chained fs ((below [], Some []) ∷ [])
  entries (workspace a) = (below a, Some []) ∷ []

  -- of further branches behind a list
  pub joined : Filters → List Entry → List Entry
  joined no_more es = es
  joined (more f fs) es = joined fs (either_left es (entries f))

  -- of further pieces behind a chain
  pub chained : Filters → List Entry → List Entry
  chained no_more es = es
  chained (more f fs) es = chained fs (after_left es (entries f))

-- whether two filters have one path, or paths with comparable images
abbrev pub is_clash : Filter → Filter → Bool
is_clash f g = any_clash (cells [] (entries f)) (cells [] (entries g))

-- whether a branch clashes with none of these
abbrev pub is_apart : Filter → Filters → Bool
is_apart f no_more = true
is_apart f (more g gs) = not (is_clash f g) && is_apart f gs

-- whether no two branches clash
abbrev pub are_apart : Filters → Bool
are_apart no_more = true
are_apart (more f fs) = is_apart f fs && are_apart fs

-- whether the content of each exclude is keeping, and no two branches of a list outside of an exclude clash
abbrev mutual
  pub is_sound : Filter → Bool
  is_sound nop = true
  is_sound (sub a) = true
  is_sound (onto a) = true
  is_sound (dir a) = true
  is_sound (file a) = true
  is_sound (exclude f) = is_keeping f
  is_sound (join fs) = are_sound fs && are_apart fs
  is_sound (chain fs) = are_sound fs
  is_sound (workspace a) = true

  -- whether each of them is sound
  pub are_sound : Filters → Bool
  are_sound no_more = true
  are_sound (more f fs) = is_sound f && are_sound fs

-- the test is exact
abbrev pub SoundTestLaw : Type 0
SoundTestLaw = (f : Filter) → has_paths f ≡ true → (is_sound f ≡ true) ↔ IsSound f

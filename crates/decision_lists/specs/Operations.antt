-- Operations on decision lists.
use Rattle.std.specs.Prelude.{List, [], ◌∷◌, ◌++◌, Option, Some, None, Bool, true, false, not, ◌&&◌, is_some}
use Rattle.git_objects.specs.Paths.{Path}
use Rattle.decision_lists.specs.Fronts.{strip, proper}
use Rattle.decision_lists.specs.Entries.{Cone, at, below, base, tail, Entry}

-- the cone h has all of the cone m
abbrev pub covers : Cone → Cone → Bool
covers h (at u) = is_some (tail h u)
covers (at s) (below u) = false
covers (below s) (below u) = is_some (strip s u)

-- no cone of the list has all of m
abbrev pub alive : List Cone → Cone → Bool
alive [] m = true
alive (h ∷ hs) m = not (covers h m) && alive hs m

-- the part of the cone c that the translation from its base to t sends into the cone d, with what then stands between
abbrev pub Part : Type 0
Part = Option (Cone × Path)

abbrev pub longer : Path → Option Path → Part
longer s None = None
longer s (Some v) = Some (below (s ++ v), [])

abbrev pub either_way : Path → Option Path → Option Path → Part
either_way s (Some w) o = Some (below s, w)
either_way s None o = longer s o

abbrev pub point : Path → Option Path → Part
point s None = None
point s (Some v) = Some (at (s ++ v), [])

abbrev pub same_point : Path → Option Path → Part
same_point s None = None
same_point s (Some w) = Some (at s, w)

abbrev pub pull : Cone → Path → Cone → Part
pull (below s) t (below u) = either_way s (strip u t) (strip t u)
pull (below s) t (at u) = point s (proper (strip t u))
pull (at s) t d = same_point s (tail d t)

abbrev pub onward : Option Path → Path → Option Path
onward None w = None
onward (Some t) w = Some (t ++ w)

abbrev pub put : Part → Option Path → List Entry → List Entry
put None a es = es
put (Some m) a es = (m.0, onward a m.1) ∷ es

abbrev pub pulled : Cone → Path → List Entry → List Entry
pulled c t [] = []
pulled c t (e ∷ es) = put (pull c t e.0) e.1 (pulled c t es)

abbrev pub flip_act : Path → Option Path → Option Path
flip_act s None = Some s
flip_act s (Some t) = None

-- entries that an earlier one hides are left out
abbrev pub thin_at : Bool → Entry → List Entry → List Entry → List Entry
thin_at true e es fs = e ∷ es
thin_at false e es fs = fs

abbrev pub thin : List Cone → List Entry → List Entry
thin hs [] = []
thin hs (e ∷ es) = thin_at (alive hs e.0) e (thin (e.0 ∷ hs) es) (thin hs es)

-- e ends the block, goes on, or is left out
abbrev pub picked : Bool → Bool → Entry → List Entry → List Entry → List Entry
picked true b e es fs = e ∷ []
picked false true e es fs = e ∷ es
picked false false e es fs = fs

-- the parts of c that no cone of hs has, up to one that is all of c; else c itself, dead
abbrev pub block : List Cone → Cone → List Entry → List Entry
block hs c [] = (c, None) ∷ []
block hs c (e ∷ es) = picked (covers e.0 c) (alive hs e.0) e (block (e.0 ∷ hs) c es) (block hs c es)

abbrev pub heads : List Entry → List Cone → List Cone
heads [] hs = hs
heads (e ∷ es) hs = heads es (e.0 ∷ hs)

-- what becomes of an entry: itself, untested, or a block
abbrev pub grown : List Cone → Cone → Option Path → Option (List Entry) → List Entry
grown hs c a None = (c, a) ∷ []
grown hs c a (Some ps) = block hs c ps

-- a list and g; `how` says which parts take the place of an entry, and `end` what stands behind all
abbrev pub refine : (Cone → Option Path → Option (List Entry)) → List Entry → List Cone → List Entry → List Entry
refine how end hs [] = thin hs end
refine how end hs (e ∷ es) =
    let b : List Entry = grown hs e.0 e.1 (how e.0 e.1) in b ++ refine how end (heads b hs) es

abbrev pub either_how : List Entry → Cone → Option Path → Option (List Entry)
either_how g c (Some t) = None
either_how g c None = Some (pulled c (base c) g)

abbrev pub after_how : List Entry → Cone → Option Path → Option (List Entry)
after_how g c None = None
after_how g c (Some t) = Some (pulled c t g)

-- a list keeps live entries, a chain dead ones
abbrev pub how : Bool → List Entry → Cone → Option Path → Option (List Entry)
how true g = either_how g
how false g = after_how g

-- no cone of the entries has all of c
abbrev pub alive_in : List Entry → Cone → Bool
alive_in [] c = true
alive_in (e ∷ es) c = not (covers e.0 c) && alive_in es c

-- each entry has a target
abbrev pub are_live : List Entry → Bool
are_live [] = true
are_live (e ∷ es) = is_some e.1 && are_live es

-- a list's first members and one more; a chain's first members and one more
abbrev pub either_left : List Entry → List Entry → List Entry
either_left es g = refine (either_how g) g [] es

abbrev pub after_left : List Entry → List Entry → List Entry
after_left es g = refine (after_how g) [] [] es

-- all but what a list gives an image
abbrev pub turned : List Cone → List Entry → List Entry
turned hs [] = thin hs ((below [], Some []) ∷ [])
turned hs (e ∷ es) = (e.0, flip_act (base e.0) e.1) ∷ turned (e.0 ∷ hs) es

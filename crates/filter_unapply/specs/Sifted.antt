-- What a decision list takes out of a tree, or leaves in it.
use Rattle.std.specs.Prelude.{◌≡◌, ℕ, ◌-◌, Bool, true, false, not, if◌then◌else◌, filter, is_some, is_none, take, drop, List, Option, Some, None}
use Rattle.git_objects.specs.Lists.{Each}
use Rattle.git_objects.specs.Paths.{Path}
use Rattle.git_objects.specs.Trees.{Leaf, Flat, at, standing}
use Rattle.git_objects.specs.Entries.{is_dir}
use Rattle.object_store.specs.Objects.{Object, has_child}
use Rattle.path_trees.specs.Standing.{node}
use Rattle.path_trees.specs.declared.found.Found.{Found}
use Rattle.stage_tree.specs.Stages.{Shows, Staged}
use Rattle.decision_lists.specs.Entries.{Cone, Entry, cone_of, run, tail}

-- whether a path stays that a list gives this: where it gives something, or where it gives nothing
abbrev pub stays : Bool → Option Path → Bool
stays true o = is_some o
stays false o = is_none o

-- the leaves of the paths that the list gives something, or those of the others
abbrev pub sifted : Bool → List Entry → Flat → Flat
sifted inside es t = filter (λ e. stays inside (run None es e.0)) t

-- each entry has a target, or none has one
abbrev pub AreAlike : Bool → List Entry → Type 0
AreAlike k es = Each (λ e. is_some e.1 ≡ k) es

-- so it is with those from one place up to another
abbrev pub IsRun : List Entry → ℕ → ℕ → Type 0
IsRun es i j = (k : Bool) × AreAlike k (take (j - i) (drop i es))

-- ---- one entry asked before others

abbrev pub chosen : Bool → Option Path → Option Path → Option Leaf → Option Leaf → Option Leaf
chosen inside a None whole part = part
chosen inside a (Some r) whole part = if stays inside a then whole else None

-- the leaf at a path: where the entry has it that of the whole tree, or none, and else that of a part of the tree
abbrev pub asked : Bool → Entry → Flat → Flat → Path → Option Leaf
asked inside e t u p = chosen inside e.1 (tail e.0 p) (at t p) (at u p)

-- the part with what the cone has in the whole tree
abbrev pub put_back : Cone → Flat → Flat → Path → Option Leaf
put_back c t u p = if is_some (tail c p) then at t p else at u p

-- the part without what the cone has
abbrev pub taken_out : Cone → Flat → Path → Option Leaf
taken_out c u p = if is_some (tail c p) then None else at u p

-- ---- stages

-- each leaf of a tree is one of another
abbrev pub IsWithin : Flat → Flat → Type 0
IsWithin u t = (p : Path) (x : Leaf) → at u p ≡ Some x → at t p ≡ Some x

-- over a store, a stage shows a tree with these leaves
pub record IsShown (S : List Object) (v : Staged) (o : Path → Option Leaf) : Type 0 where
  pub tree : Flat
  pub shows : Shows S v tree
  pub leaves : (p : Path) → at tree p ≡ o p

-- ---- what the code asks

-- no path of the cone has a leaf
abbrev pub IsAbsent : Cone → Flat → Type 0
IsAbsent c t = (q : Path) → is_some (tail c q) ≡ true → at t q ≡ None

-- what was found, where it is of this kind: a leaf, or a directory
abbrev pub fitted : Bool → Option Found → Option Found
fitted point None = None
fitted point (Some f) = if is_dir f.mode then (if point then None else Some f) else (if point then Some f else None)

-- what stands at a path, where it is of this kind: a leaf, or a directory
abbrev pub IsFitting : List Object → Flat → Bool → Path → Option Found → Type 0
IsFitting S t point s None = IsAbsent (cone_of point s) t
IsFitting S t point s (Some f) = (standing t s ≡ Some (node S f)) × (has_child S f.mode f.name.0 ≡ true) × (is_dir f.mode ≡ not point)

-- What is said of a push: the first refusal, or the original commits.
--
-- A push comes as the list of the commits that its stream made, in order, each with its flat tree, its parents and its letter.
-- Replaying the stream has refused before: a command for another ref, a commit or an end that isn't at the head, a merge.
-- So each commit here has the commit before it as its only parent, and the first one the projected head, or no parent where
-- nothing is projected.
use Rattle.std.specs.Prelude.{ℕ, ◌+◌, Bool, true, false, not, ◌&&◌, ◌||◌, nat_lt, if◌then◌else◌, List, [], ◌∷◌, length, Option, Some, None, Result, Ok, Err}
use Rattle.std.specs.Option.{option_and_then, option_map_or}
use Rattle.std.specs.List.{list_any}
use Rattle.git_objects.specs.Paths.{Bytes, Path, same_bytes, same_path, text}
use Rattle.git_objects.specs.Trees.{Leaf, Flat, at, same_leaf}
use Rattle.git_objects.specs.Names.{tree_name}
use Rattle.git_objects.specs.declared.limits.TheConstants.{TREE_DEPTH, TREE_FILES, TREE_PATH_BYTES}
use Rattle.git_objects.specs.declared.quantity.Quantity.{Quantity}
use Rattle.git_objects.specs.declared.quantity.Quantity.TheVariants.{Files, PathDepth, PathBytes}
use Rattle.filter_text.specs.Filters.{Filter}
use Rattle.filter_routes.specs.Images.{image}
use Rattle.git_objects.specs.Snapshots.{Snapshot, Graph, snapshot_name, tree_at}
use Rattle.workspace.specs.Workspaces.{place, split, is_unreadable, resolve, shown, shown_place, next}
use Rattle.filter_unapply.specs.Laying.{laid, unseen, Laid, LaidTree, NotHeld as LaidNotHeld, Blocked as LaidBlocked}

-- why a commit of a push is refused
pub data Refusal : Type 0 where
  -- the tree is the one before
  NoChange : Refusal
  -- the workspace's file can't be read, or moves itself
  BadWorkspace : Refusal
  -- the path that would be shown from now on isn't pushed as it stands
  Unseen : Path → Refusal
  -- no path is shown as this one
  NotHeld : Path → Refusal
  -- the first path has no place beside the second
  Blocked : Path → Path → Refusal
  -- the original tree is too large
  TreeLimit : Quantity → Refusal

-- ---- the workspace's file

-- whether both are none, or both are one leaf
abbrev pub same_found : Option Leaf → Option Leaf → Bool
same_found None None = true
same_found (Some x) (Some y) = same_leaf x y
same_found _ _ = false

-- whether both are none, or both are one path
abbrev pub same_place : Option Path → Option Path → Bool
same_place None None = true
same_place (Some p) (Some q) = same_path p q
same_place _ _ = false

-- whether n has another leaf at q, where the workspace's file is shown, than t has at the workspace place
abbrev pub is_changed : Filter → Flat → Flat → Path → Bool
is_changed f t n q = not (same_found (at n q) (option_and_then (at t) (place f)))

-- whether the leaf of n at q gives no items, or by it the file isn't shown at q
abbrev pub is_bad : Filter → Flat → Flat → Path → Bool
is_bad f t n q =
    option_map_or (λ s. is_unreadable s.directory (at n q)) (split f) false
    || not (same_place (option_and_then (image (next f t n)) (place f)) (Some q))

-- whether t's filter shows the file, and n changes it so
abbrev pub is_bad_workspace : Filter → Flat → Flat → Bool
is_bad_workspace f t n = option_map_or (λ q. is_changed f t n q && is_bad f t n q) (shown_place f t) false

-- ---- one commit

-- the first limit that a tree passes
abbrev pub passed : Flat → Option Quantity
passed u =
    if nat_lt TREE_FILES (length u) then Some Files
    else if list_any (λ e. nat_lt TREE_DEPTH (length e.0)) u then Some PathDepth
    else if list_any (λ e. nat_lt TREE_PATH_BYTES (length (text e.0))) u then Some PathBytes
    else None

-- the tree, unless it passes a limit
abbrev pub within_limits : Flat → Result Flat Refusal
within_limits u = option_map_or (λ q. Err (TreeLimit q)) (passed u) (Ok u)

-- by the first path that is unseen, and by what comes of laying
abbrev pub judged : Option Path → Laid → Result Flat Refusal
judged (Some p) l = Err (Unseen p)
judged None (LaidNotHeld q) = Err (NotHeld q)
judged None (LaidBlocked p q) = Err (Blocked p q)
judged None (LaidTree u) = within_limits u

-- the original tree of the pushed tree n, upon the original tree t; or the first refusal, where the change itself isn't asked for
abbrev pub tree_upon : Filter → Flat → Flat → Result Flat Refusal
tree_upon f t n =
    if is_bad_workspace f t n then Err BadWorkspace
    else judged (unseen (resolve f t) (next f t n) t n) (laid f t n)

-- the original tree of the pushed tree n, upon the original tree t of which `seen` is shown; or the first refusal
abbrev pub original_tree : Filter → Flat → Flat → Flat → Result Flat Refusal
original_tree f t seen n = if same_bytes (tree_name n) (tree_name seen) then Err NoChange else tree_upon f t n

-- ---- all commits

-- a pushed commit, and the original commit that is made of it
pub record Pair : Type 0 where
  pub pushed : Snapshot
  pub original : Snapshot

-- upon the original commit of the name h
abbrev pub original_of : Bytes → Snapshot → Flat → Snapshot
original_of h c u = record { tree = u; parents = h ∷ []; letter = c.letter }

-- the pairs in order, or the number of the first commit that is refused, and why
abbrev pub Verdict : Type 0
Verdict = Result (List Pair) (ℕ × Refusal)

-- one pair in front of the others, where none is refused
abbrev pub with_pair : Pair → Verdict → Verdict
with_pair p (Ok ps) = Ok (p ∷ ps)
with_pair p (Err e) = Err e

-- what follows from the tree of the commit with this number
abbrev pub upon : ℕ → Result Flat Refusal → (Flat → Verdict) → Verdict
upon n (Ok u) later = later u
upon n (Err e) later = Err (n, e)

-- of the commits from number n on; h is the original commit before them, t its tree, and `seen` what the commit before
-- them shows
abbrev pub verdict_from : Filter → ℕ → Bytes → Flat → Flat → List Snapshot → Verdict
verdict_from f n h t seen [] = Ok []
verdict_from f n h t seen (c ∷ cs) =
    upon n (original_tree f t seen c.tree)
    (λ u. let o : Snapshot = original_of h c u in
    with_pair (record { pushed = c; original = o }) (verdict_from f (n + 1) (snapshot_name o) u c.tree cs))

-- of a push on the commit h of a graph
abbrev pub verdict : Filter → Graph → Bytes → List Snapshot → Verdict
verdict f g h cs = verdict_from f 1 h (tree_at g h) (shown f (tree_at g h)) cs

-- What accepted pushes keep to.
use Rattle.std.specs.Prelude.{◌≡◌, ⊤, true, false, is_some, List, [], ◌∷◌, map, Option, Some, None, Ok}
use Rattle.std.specs.Option.{option_map, option_and_then, option_to_list}
use Rattle.git_objects.specs.Paths.{Bytes, Path, is_path, same_bytes}
use Rattle.git_objects.specs.Lists.{Each}
use Rattle.git_objects.specs.Trees.{Flat, IsTree, at}
use Rattle.git_objects.specs.Names.{tree_name}
use Rattle.filter_text.specs.Filters.{Filter}
use Rattle.filter_routes.specs.Images.{image}
use Rattle.workspace.specs.Laws.{IsUsable}
use Rattle.filter_routes.specs.Origins.{origin, lens_of}
use Rattle.git_objects.specs.Snapshots.{Snapshot, Graph, snapshot_name, is_graph, has, commit_at, tree_at, add_all}
use Rattle.workspace.specs.Workspaces.{place, resolve, shown, next, shown_place}
use Rattle.filter_unapply.specs.Laying.{pre, laid, unseen, LaidTree}
use Rattle.projection_laws.specs.Projections.{shown_of, projection}
use Rattle.commit_map.specs.Shown.{Shown}
use Rattle.commit_map.specs.declared.rule.Rule.{Rule}
use Rattle.fast_import.specs.Replays.{Ran}
use Rattle.push_laws.specs.PushReplays.{StreamRefusal, push_replay}
use Rattle.push_laws.specs.Pushes.{pushed}
use Rattle.push_laws.specs.PushVerdicts.{Pair, verdict, original_tree, is_bad_workspace, passed}

-- each commit's tree is a tree
abbrev pub AreTrees : List Snapshot → Type 0
AreTrees cs = Each (λ c. IsTree c.tree) cs

-- ---- laying

-- where the filter by which n is laid into t shows the workspace's file
abbrev pub next_place : Filter → Flat → Flat → Option Path
next_place f t n = option_and_then (image (next f t n)) (place f)

-- What is laid asks for the filter by which it was laid, where that one shows the workspace's file where the filter before
-- does, or doesn't show it either.
abbrev pub NextLaw : Type 0
NextLaw = (f : Filter) (t n u : Flat) → IsUsable f → IsTree t → IsTree n → laid f t n ≡ LaidTree u → next_place f t n ≡ shown_place f t → resolve f u ≡ next f t n

-- ---- pushes

-- one step: from the original tree t, of which `seen` is shown, by a push of n to u
pub record IsStep (f : Filter) (t n u : Flat) : Type 0 where
  -- the next filter is the one by which n was laid, and it shows n again
  pub resolved : resolve f u ≡ next f t n
  pub tree : IsTree u
  pub shown_again : shown f u ≡ n
  -- what the filter shows neither before nor after stays as it was, and so does what it hid before or hides now
  pub hidden_now : (p : Path) → image (resolve f u) p ≡ None → at u p ≡ at t p
  pub hidden_before : (p : Path) → is_some (at t p) ≡ true → image (resolve f t) p ≡ None → at u p ≡ at t p

-- each accepted commit is a step, whatever was shown before
abbrev pub StepLaw : Type 0
StepLaw = (f : Filter) (t seen n u : Flat) → IsUsable f → IsTree t → IsTree n → original_tree f t seen n ≡ Ok u → IsStep f t n u

-- of each pair and the original tree before it
abbrev pub EachStep : (Flat → Pair → Type 0) → Flat → List Pair → Type 0
EachStep P t [] = ⊤
EachStep P t (p ∷ ps) = P t p × EachStep P p.original.tree ps

-- so for each commit of an accepted push
abbrev pub StepsLaw : Type 0
StepsLaw = (f : Filter) (g : Graph) (h : Bytes) (cs : List Snapshot) (ps : List Pair) → IsUsable f → AreTrees g → AreTrees cs → verdict f g h cs ≡ Ok ps →
    EachStep (λ t p. IsStep f t p.pushed.tree p.original.tree) (tree_at g h) ps

-- a push is answered with its own commits, in order
abbrev pub PushedLaw : Type 0
PushedLaw = (f : Filter) (g : Graph) (h : Bytes) (cs : List Snapshot) (ps : List Pair) → verdict f g h cs ≡ Ok ps → map (λ p. p.pushed) ps ≡ cs

-- commits in line upon that one, or upon none
abbrev pub IsChain : Option Bytes → List Snapshot → Type 0
IsChain e [] = ⊤
IsChain e (c ∷ cs) = (c.parents ≡ option_to_list e) × IsChain (Some (snapshot_name c)) cs

-- The commits of a pushed stream are in line upon the projection, up to the first refusal.
abbrev pub ChainLaw : Type 0
ChainLaw = (refname : Bytes) (from : Option Bytes) (seen : Flat) (input : Bytes) → IsChain from (push_replay refname from seen input).state.commits

-- the commit's name, where there is a projection
abbrev pub commit_of : Option Shown → Option Bytes
commit_of o = option_map (λ s. s.commit) o

-- the original commits of pairs
abbrev pub originals : List Pair → List Snapshot
originals ps = map (λ p. p.original) ps

-- Where no commit is refused, a push makes exactly the originals of the pairs.
abbrev pub MadeLaw : Type 0
MadeLaw = (f : Filter) (g : Graph) (h refname : Bytes) (from : Option Bytes) (x : Ran StreamRefusal) (ps : List Pair) → verdict f g h x.state.commits ≡ Ok ps →
    (pushed f g h refname from x).originals ≡ originals ps

-- Each is what the graph has under its name. It is so where all these commits and their trees lie in one store.
abbrev pub AreFound : Graph → List Snapshot → Type 0
AreFound g cs = Each (λ c. commit_at g (snapshot_name c) ≡ Some c) cs

-- an accepted push, upon the projection of the commit h
pub record IsPush (k : Rule) (f : Filter) (g : Graph) (h : Bytes) (cs : List Snapshot) (ps : List Pair) : Type 0 where
  pub usable : IsUsable f
  pub graph : is_graph g ≡ true
  pub trees : AreTrees g
  pub head : has g h ≡ true
  pub pushed : AreTrees cs
  pub upon : IsChain (commit_of (projection k (shown f) g h)) cs
  pub accepted : verdict f g h cs ≡ Ok ps
  pub found : AreFound (add_all g (originals ps)) (originals ps)

-- the name of the last one, or h
abbrev pub last_of : Bytes → List Snapshot → Bytes
last_of h [] = h
last_of h (c ∷ cs) = last_of (snapshot_name c) cs

-- After a push of any length, also upon nothing, each original commit is projected to exactly its pushed commit.
abbrev pub ProjectedLaw : Type 0
ProjectedLaw = (k : Rule) (f : Filter) (g : Graph) (h : Bytes) (cs : List Snapshot) (ps : List Pair) → IsPush k f g h cs ps →
    Each (λ p. projection k (shown f) (add_all g (originals ps)) (snapshot_name p.original) ≡ Some (shown_of p.pushed)) ps

-- as long as the originals keep the leaf at the workspace place, each pushed tree that is what was shown at first is laid to the first tree
abbrev pub Returns : Filter → Flat → List Pair → Type 0
Returns f t [] = ⊤
Returns f t (p ∷ ps) = option_and_then (at p.original.tree) (place f) ≡ option_and_then (at t) (place f) →
    (p.pushed.tree ≡ shown f t → p.original.tree ≡ t) × Returns f t ps

-- in every accepted push
abbrev pub BackLaw : Type 0
BackLaw = (f : Filter) (g : Graph) (h : Bytes) (cs : List Snapshot) (ps : List Pair) → IsUsable f → AreTrees g → AreTrees cs → verdict f g h cs ≡ Ok ps → Returns f (tree_at g h) ps

-- a tree that agrees with t on what f shows of t, and on the workspace's file
pub record Agrees (f : Filter) (t u : Flat) : Type 0 where
  pub tree : IsTree u
  pub seen : (p : Path) → is_path p ≡ true → is_some (image (resolve f t) p) ≡ true → at u p ≡ at t p
  pub file : (p : Path) → place f ≡ Some p → at u p ≡ at t p

-- Commits in line upon h that agree with its tree on what another filter shows: that one projects the last of them as it
-- projects h.
abbrev pub ElsewhereLaw : Type 0
ElsewhereLaw = (k : Rule) (f : Filter) (g : Graph) (h : Bytes) (os : List Snapshot) → IsUsable f → is_graph g ≡ true → AreTrees g → has g h ≡ true → IsChain (Some h) os →
    Each (λ o. Agrees f (tree_at g h) o.tree) os → AreFound (add_all g os) os → projection k (shown f) (add_all g os) (last_of h os) ≡ projection k (shown f) g h

-- a pushed tree n that may be laid into t, of which `seen` is shown
pub record IsAdmissible (f : Filter) (t seen n : Flat) : Type 0 where
  pub change : same_bytes (tree_name n) (tree_name seen) ≡ false
  pub workspace : is_bad_workspace f t n ≡ false
  pub seen_whole : unseen (resolve f t) (next f t n) t n ≡ None
  -- each of its paths has an origin, and what results is a tree within the limits
  pub held : (q : Path) → is_some (at n q) ≡ true → is_some (origin (next f t n) q) ≡ true
  pub tree : IsTree (pre (lens_of (next f t n)) t n)
  pub small : passed (pre (lens_of (next f t n)) t n) ≡ None

-- It is accepted. So a push is accepted where each of its commits is admissible in turn.
abbrev pub AdmissibleLaw : Type 0
AdmissibleLaw = (f : Filter) (t seen n : Flat) → IsTree n → IsAdmissible f t seen n → original_tree f t seen n ≡ Ok (pre (lens_of (next f t n)) t n)

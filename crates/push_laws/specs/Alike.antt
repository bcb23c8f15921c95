-- What is told of a push depends on what is shown, and on the workspace's file.
use Rattle.std.specs.Prelude.{◌≡◌, ℕ, Bool, true, false, ◌⊎◌, List, map, Result, Ok, Err}
use Rattle.std.specs.Option.{option_and_then}
use Rattle.git_objects.specs.Paths.{Bytes}
use Rattle.git_objects.specs.Snapshots.{Snapshot}
use Rattle.git_objects.specs.Trees.{Flat, at}
use Rattle.filter_text.specs.Filters.{Filter}
use Rattle.workspace.specs.Laws.{IsUsable}
use Rattle.workspace.specs.Workspaces.{place}
use Rattle.push_laws.specs.PushLaws.{AreTrees}
use Rattle.push_laws.specs.PushVerdicts.{Refusal, NoChange, BadWorkspace, Unseen, NotHeld, Blocked, TreeLimit, Verdict, verdict_from}

-- Whether a refusal tells of what isn't shown: it names a path of the original tree, or is of that tree's size.
abbrev pub tells_unshown : Refusal → Bool
tells_unshown NoChange = false
tells_unshown BadWorkspace = false
tells_unshown (Unseen p) = true
tells_unshown (NotHeld q) = false
tells_unshown (Blocked p q) = true
tells_unshown (TreeLimit q) = true

-- the pushed commits alone, or the refusal with its number
abbrev pub told : Verdict → Result (List Snapshot) (ℕ × Refusal)
told (Ok ps) = Ok (map (λ p. p.pushed) ps)
told (Err e) = Err e

abbrev pub is_of_unshown : Verdict → Bool
is_of_unshown (Ok ps) = false
is_of_unshown (Err e) = tells_unshown e.1

-- The same is told of both, or one of both is a refusal that tells of what isn't shown.
abbrev pub SameUnlessUnshown : Verdict → Verdict → Type 0
SameUnlessUnshown v w = (is_of_unshown v ≡ true) ⊎ (is_of_unshown w ≡ true) ⊎ (told v ≡ told w)

-- Two trees have one leaf at the workspace place, or neither has one there, or there is no such place.
abbrev pub HaveOneFile : Filter → Flat → Flat → Type 0
HaveOneFile f t u = option_and_then (at t) (place f) ≡ option_and_then (at u) (place f)

-- The same commits, pushed upon two original trees that have one leaf at the workspace place, where one tree was shown before: the same is
-- told of both, unless one is refused by what isn't shown. What else the two trees have, and which commits have them, doesn't matter.
abbrev pub AlikeLaw : Type 0
AlikeLaw = (f : Filter) (n : ℕ) (h k : Bytes) (t u seen : Flat) (cs : List Snapshot) → IsUsable f → AreTrees cs → HaveOneFile f t u →
    SameUnlessUnshown (verdict_from f n h t seen cs) (verdict_from f n k u seen cs)

-- Refs that move forward.
use Rattle.std.specs.Prelude.{◌≡◌, ⊤, Bool, false, ◌||◌, if◌then◌else◌, List, [], ◌∷◌, Option, Some, None}
use Rattle.std.specs.List.{list_any}
use Rattle.std.specs.FinMap.{find as find_entry}
use Rattle.git_objects.specs.Paths.{Bytes, same_bytes}
use Rattle.git_objects.specs.Refs.{Refs, bytes_cmp}
use Rattle.git_objects.specs.Snapshots.{Snapshot, snapshot_name}
use Rattle.repo_ground.specs.declared.moves.Backward.{Backward}

-- whether a commit is among those before the commit n, over commits from the newest to the oldest
abbrev pub is_before : List Snapshot → Bytes → Bytes → Bool
is_before [] old n = false
is_before (c ∷ older) old n =
    if same_bytes (snapshot_name c) n then list_any (λ p. same_bytes p old || is_before older old p) c.parents
    else is_before older old n

-- a ref, its old commit, and its new one
pub record Move : Type 0 where
  pub refname : Bytes
  pub old : Bytes
  pub new : Bytes

-- a ref that is there already, and whose commit is neither the new one nor before it
abbrev pub backward : List Snapshot → Bytes × Bytes → Option Bytes → Option Move
backward cs e None = None
backward cs e (Some old) = if same_bytes old e.1 || is_before cs old e.1 then None else Some (record { refname = e.0; old = old; new = e.1 })

abbrev pub or_later : Option Move → Option Move → Option Move
or_later None later = later
or_later (Some m) later = Some m

-- The first of these refs that doesn't move forward.
abbrev pub first_backward : List Snapshot → Refs → Refs → Option Move
first_backward cs refs [] = None
first_backward cs refs (e ∷ es) = or_later (backward cs e (find_entry bytes_cmp e.0 refs)) (first_backward cs refs es)

-- the code's answer: that ref with its old and its new commit, or none
abbrev pub IsMove : Option Move → Option Backward → Type 0
IsMove None None = ⊤
IsMove None (Some b) = ⊥
IsMove (Some m) None = ⊥
IsMove (Some m) (Some b) = (b.refname ≡ m.refname) × (b.old_commit.0 ≡ m.old) × (b.new_commit.0 ≡ m.new)

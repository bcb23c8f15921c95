-- What a replay of sound commands gives: whole commits of blobs that are known or were read.
use Rattle.std.specs.Prelude.{◌≡◌, true, List, ◌++◌, All, Option, None}
use Rattle.std.specs.List.{list_all}
use Rattle.git_objects.specs.Paths.{Bytes, is_bytes}
use Rattle.object_store.specs.Objects.{IsStore}
use Rattle.stream_reader.specs.declared.command.Placed.{Placed}
use Rattle.stream_reader.specs.declared.fault.StreamFault.{StreamFault}
use Rattle.fast_import.specs.Replays.{Replay, heads_of, nothing_yet, ran_by, step}
use Rattle.state_items.specs.Items.{Held}
use Rattle.state_items.specs.Repos.{IsKept, repo}
use Rattle.state_items.specs.Changes.{Plan, change_plan, objects_of, passed, room_of}
use Rattle.state_items.specs.Imported.{AreApart, AreRefsTo, AreSmall, AreWhole, has_leaves, with_commits}
use Rattle.state_items.specs.KeptLaws.{IsKeptAfter, Projecting, StayLaw}
use Rattle.import_laws.specs.Bases.{base_of}
use Rattle.import_laws.specs.SoundCommands.{IsSound}

pub record IsReplayed (h : Held) (r : Replay) : Type 0 where
  pub bytes : list_all is_bytes r.blobs ≡ true
  pub commits : AreWhole (repo h).commits r.commits
  pub leaves : list_all (λ c. has_leaves (r.blobs ++ (repo h).blobs) c.tree) r.commits ≡ true
  pub heads : AreRefsTo (with_commits (repo h).commits r.commits) (heads_of r)

-- what a stream of these commands gives upon what is held, up to its first fault or to its end
abbrev pub end_of : Held → List Placed → Option StreamFault → Replay
end_of h ps end = (ran_by (step (base_of h)) end nothing_yet ps).state

-- Wherever it stops: so this, with names of which no two objects have one, is what may be brought.
abbrev pub ReplayedLaw : Type 0
ReplayedLaw = (h : Held) (ps : List Placed) (end : Option StreamFault) → IsStore h.objects
    → All (λ p. IsSound p.command) ps → IsReplayed h (end_of h ps end)

-- what that adds
abbrev pub added_by : Held → Replay → Plan
added_by h r = change_plan h (objects_of r.blobs r.commits) (heads_of r)

-- A stream of sound commands within the limits of objects, behind which no two objects have one name: the items stay
-- Kept.
abbrev pub ImportKeptLaw : Projecting → Type 0
ImportKeptLaw project = (items : List Bytes) (h : Held) (ps : List Placed) (end : Option StreamFault) → StayLaw project
    → IsKept project items h → IsStore h.objects → All (λ p. IsSound p.command) ps
    → AreApart (h.objects ++ objects_of (end_of h ps end).blobs (end_of h ps end).commits)
    → AreSmall (end_of h ps end).blobs (end_of h ps end).commits
    → passed h (room_of items) (added_by h (end_of h ps end)) ≡ None
    → IsKeptAfter project items h (added_by h (end_of h ps end))

-- The objects that a stream's commands bring.
use Rattle.std.specs.Prelude.{◌≡◌, ◌⊎◌, List, [], ◌∷◌, Option, Some, None, Result, Ok, Err, Contains}
use Rattle.git_objects.specs.Paths.{Bytes, Path}
use Rattle.git_objects.specs.Trees.{Flat, under}
use Rattle.git_objects.specs.Names.{body}
use Rattle.git_objects.specs.declared.kind.Kind.TheVariants as kinds
use Rattle.object_store.specs.Growth.{IsClash}
use Rattle.object_store.specs.Objects.{Object}
use Rattle.object_store.specs.StoredSnapshots.{snapshot_object}
use Rattle.stream_reader.specs.declared.command.Command.{Command}
use Rattle.stream_reader.specs.declared.command.Command.TheVariants as commands
use Rattle.stream_reader.specs.declared.command.Placed.{Placed}
use Rattle.stream_reader.specs.declared.fault.StreamFault.{StreamFault}
use Rattle.stream_reader.specs.declared.fault.StreamFault.TheVariants.{Collision, OutOfMemory}
use Rattle.git_objects.specs.declared.name.Name.{Name}
use Rattle.fast_import.specs.Replays.{Base, Draft, Replay, commit_of, inline_blob, step}

abbrev pub blob_object : Bytes → Object
blob_object b = record { kind = kinds.Blob; body = b }

abbrev pub tree_object : Flat → Object
tree_object t = record { kind = kinds.Tree; body = body t }

-- a directory of this tree, or the tree itself
abbrev pub IsDirectoryOf : Flat → Object → Type 0
IsDirectoryOf t o = (p : Path) × (o ≡ tree_object (under t p))

abbrev pub IsBlobAmong : List Bytes → Object → Type 0
IsBlobAmong bs o = (b : Bytes) × Contains bs b × (o ≡ blob_object b)

-- a commit that ends brings itself, its tree, and the directories of its tree
abbrev pub IsMadeOf : Option Draft → Object → Type 0
IsMadeOf None o = ⊥
IsMadeOf (Some d) o = (o ≡ snapshot_object (commit_of d)) ⊎ IsDirectoryOf d.tree o

-- of one command, where the replay has come so far
abbrev pub IsMadeAt : Replay → Command → Object → Type 0
IsMadeAt r (commands.Blob mark b) o = o ≡ blob_object b
IsMadeAt r (commands.Change c) o = IsBlobAmong (inline_blob c) o
IsMadeAt r commands.CommitEnd o = IsMadeOf r.draft o
IsMadeAt r command o = ⊥

abbrev pub IsMadeOn : {F : Type 0} → (Replay → Type 0) → Result Replay F → Type 0
IsMadeOn next (Ok s) = next s
IsMadeOn next (Err f) = ⊥

-- of commands in a row
abbrev pub IsMadeBy : Base → Replay → List Placed → Object → Type 0
IsMadeBy base r [] o = ⊥
IsMadeBy base r (p ∷ ps) o = IsMadeAt r p.command o ⊎ IsMadeOn (λ s. IsMadeBy base s ps o) (step base r p)

-- why no more is made: another object has the name of one that came up, or there is no memory
abbrev pub IsPutFault : (Object → Type 0) → List Object → StreamFault → Type 0
IsPutFault made S f = (f ≡ OutOfMemory) ⊎ ((n : Name) × (f ≡ Collision n) × IsClash made S n.0)

-- a refusal, by the replay itself or because no more is made
abbrev pub IsRefusal : {A : Type 0} → (Object → Type 0) → List Object → Result A StreamFault → StreamFault → Type 0
IsRefusal made S left f = (left ≡ Err f) ⊎ IsPutFault made S f

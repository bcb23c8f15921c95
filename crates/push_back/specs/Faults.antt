-- Why a push is refused, as the code tells it.
use Rattle.std.specs.Prelude.{◌≡◌, ◌⊎◌, ⊤, ℕ, List, Option, Some}
use Rattle.std.specs.Option.{option_map}
use Rattle.git_objects.specs.Parts.{name_bytes}
use Rattle.object_store.specs.Growth.{IsClash}
use Rattle.object_store.specs.Objects.{Object}
use Rattle.filter_apply.specs.declared.fault.ApplyError.{ApplyError}
use Rattle.filter_apply.specs.declared.fault.ApplyError.TheVariants as apply
use Rattle.fast_import.specs.Made.{IsPutFault}
use Rattle.push_laws.specs.PushReplays.{Faulty}
use Rattle.push_laws.specs.PushReplays as replays
use Rattle.push_laws.specs.PushVerdicts as verdicts
use Rattle.push_laws.specs.Pushes.{PushRefusal, StreamRefused, CommitRefused}
use Rattle.push_back.specs.declared.error.PushError.{PushError}
use Rattle.push_back.specs.declared.error.PushError.TheVariants as errors
use Rattle.push_back.specs.declared.refusal.TreeRefusal.{TreeRefusal}
use Rattle.push_back.specs.declared.refusal.TreeRefusal.TheVariants as trees
use Rattle.push_back.specs.declared.fault.PushFault.{PushFault}
use Rattle.push_back.specs.declared.fault.PushFault.TheVariants.{ReadFault, Stream, OtherRef, NotAtHead, MergePushed, NoChange, BadWorkspace, Unseen, NotHeld, Blocked, TreeLimit, Collision, OutOfMemory}

-- ---- faults of the calls below

abbrev pub of_apply : ApplyError → PushFault
of_apply (apply.Collision n) = Collision n
of_apply apply.OutOfMemory = OutOfMemory

abbrev pub of_stream : PushError → PushFault
of_stream errors.ReadFault = ReadFault
of_stream (errors.OtherRef at) = OtherRef at
of_stream (errors.NotAtHead m n) = NotAtHead m n
of_stream (errors.FurtherParents n) = MergePushed n
of_stream (errors.Stream f) = Stream f

-- of the commit of that number
abbrev pub of_original : ℕ → TreeRefusal → PushFault
of_original n trees.NoChange = NoChange n
of_original n trees.BadWorkspace = BadWorkspace n
of_original n (trees.Unseen p) = Unseen n p
of_original n (trees.NotHeld q) = NotHeld n q
of_original n (trees.Blocked p q) = Blocked n p q
of_original n (trees.TreeLimit q) = TreeLimit n q
of_original n (trees.Collision m) = Collision m
of_original n trees.OutOfMemory = OutOfMemory

-- ---- what a fault tells

-- It tells the push's refusal; or that another object has the name of one that the call makes; or the source failed, or there is no
-- memory.
abbrev pub IsPushFault : Option PushRefusal → (Object → Type 0) → List Object → PushFault → Type 0
IsPushFault refusal made S ReadFault = ⊤
IsPushFault refusal made S (Stream f) = (refusal ≡ Some (StreamRefused (Faulty f))) ⊎ IsPutFault made S f
IsPushFault refusal made S (OtherRef at) = refusal ≡ Some (StreamRefused (replays.OtherRef at))
IsPushFault refusal made S (NotAtHead m n) = refusal ≡ Some (StreamRefused (replays.NotAtHead (option_map name_bytes m) (option_map name_bytes n)))
IsPushFault refusal made S (MergePushed n) = refusal ≡ Some (StreamRefused (replays.FurtherParents n))
IsPushFault refusal made S (NoChange n) = refusal ≡ Some (CommitRefused n verdicts.NoChange)
IsPushFault refusal made S (BadWorkspace n) = refusal ≡ Some (CommitRefused n verdicts.BadWorkspace)
IsPushFault refusal made S (Unseen n p) = refusal ≡ Some (CommitRefused n (verdicts.Unseen p))
IsPushFault refusal made S (NotHeld n q) = refusal ≡ Some (CommitRefused n (verdicts.NotHeld q))
IsPushFault refusal made S (Blocked n p q) = refusal ≡ Some (CommitRefused n (verdicts.Blocked p q))
IsPushFault refusal made S (TreeLimit n q) = refusal ≡ Some (CommitRefused n (verdicts.TreeLimit q))
IsPushFault refusal made S (Collision n) = IsClash made S n.0
IsPushFault refusal made S OutOfMemory = ⊤

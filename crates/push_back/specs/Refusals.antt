-- What refusals of the code tell.
use Rattle.std.specs.Prelude.{◌≡◌, ⊤, nat_lt, if◌then◌else◌, List, Option, Some, None, Result, Err, IfOk, IfErr, IsOkAnd}
use Rattle.git_objects.specs.Trees.{Flat}
use Rattle.git_objects.specs.declared.limits.TheConstants.{TREE_DEPTH, TREE_FILES, TREE_PATH_BYTES}
use Rattle.git_objects.specs.declared.name.Name.{Name}
use Rattle.git_objects.specs.declared.quantity.Quantity.{Quantity}
use Rattle.git_objects.specs.declared.quantity.Quantity.TheVariants.{Files, PathDepth, PathBytes}
use Rattle.object_store.specs.Growth.{IsClash, IsGrownBy}
use Rattle.object_store.specs.Objects.{Object}
use Rattle.object_store.specs.Unfolding.{StandsFor}
use Rattle.object_store.specs.declared.store.TreeStats.{TreeStats}
use Rattle.filter_apply.specs.declared.fault.ApplyError.{ApplyError}
use Rattle.filter_apply.specs.declared.fault.ApplyError.TheVariants as apply
use Rattle.filter_unapply.specs.declared.fault.LayFault.{LayFault}
use Rattle.filter_unapply.specs.declared.fault.LayFault.TheVariants as lay
use Rattle.push_laws.specs.PushVerdicts.{Refusal}
use Rattle.push_laws.specs.PushVerdicts as verdicts
use Rattle.push_back.specs.declared.refusal.TreeRefusal.{TreeRefusal}
use Rattle.push_back.specs.declared.refusal.TreeRefusal.TheVariants.{NoChange, BadWorkspace, Unseen, NotHeld, Blocked, TreeLimit, Collision, OutOfMemory}

-- It tells a refusal of which this holds, or that another object has the name of one that the call makes; or there is no memory.
abbrev pub IsRefusedBy : (Refusal → Type 0) → (Object → Type 0) → List Object → TreeRefusal → Type 0
IsRefusedBy P made S NoChange = P verdicts.NoChange
IsRefusedBy P made S BadWorkspace = P verdicts.BadWorkspace
IsRefusedBy P made S (Unseen p) = P (verdicts.Unseen p)
IsRefusedBy P made S (NotHeld q) = P (verdicts.NotHeld q)
IsRefusedBy P made S (Blocked p q) = P (verdicts.Blocked p q)
IsRefusedBy P made S (TreeLimit q) = P (verdicts.TreeLimit q)
IsRefusedBy P made S (Collision n) = IsClash made S n.0
IsRefusedBy P made S OutOfMemory = ⊤

-- What comes of working out a tree, which makes objects of a kind: a tree of the store that stands for it exactly where there is
-- one, or exactly its refusal.
pub record IsTreeAnswer (v : Result Flat Refusal) (made : Object → Type 0) (S S' : List Object) (result : Result Name TreeRefusal) : Type 0 where
  pub ok : IfOk result (λ n. IsOkAnd v (StandsFor S' n.0))
  pub err : IfErr result (IsRefusedBy (λ r. v ≡ Err r) made S')
  pub grown : IsGrownBy made S S'

-- ---- faults of the calls below

abbrev pub of_lay : LayFault → TreeRefusal
of_lay (lay.NotHeld q) = NotHeld q
of_lay (lay.Blocked p q) = Blocked p q
of_lay (lay.Collision n) = Collision n
of_lay lay.OutOfMemory = OutOfMemory

abbrev pub of_apply : ApplyError → TreeRefusal
of_apply (apply.Collision n) = Collision n
of_apply apply.OutOfMemory = OutOfMemory

-- the first limit that a tree of these sizes passes
abbrev pub passed_by : TreeStats → Option Quantity
passed_by s =
    if nat_lt TREE_FILES s.files then Some Files
    else if nat_lt TREE_DEPTH s.depth then Some PathDepth
    else if nat_lt TREE_PATH_BYTES s.longest then Some PathBytes
    else None

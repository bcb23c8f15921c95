-- Why nothing is shown.
use Rattle.std.specs.Prelude.{List}
use Rattle.object_store.specs.Objects.{Object}
use Rattle.object_store.specs.Growth.{IsClash}
use Rattle.path_trees.specs.declared.found.TreeFault.{TreeFault}
use Rattle.path_trees.specs.declared.found.TreeFault.TheVariants.{Collision as TreeCollision, OutOfMemory as TreeOutOfMemory}
use Rattle.filter_apply.specs.declared.fault.ApplyError.{ApplyError}
use Rattle.filter_apply.specs.declared.fault.ApplyError.TheVariants.{Collision, OutOfMemory}

-- another object has the name of a tree that the call makes, or there is no memory
abbrev pub IsApplyFault : (Object → Type 0) → List Object → ApplyError → Type 0
IsApplyFault made S (Collision n) = IsClash made S n.0
IsApplyFault made S OutOfMemory = Unit

-- an edit's fault
abbrev pub fault_of : TreeFault → ApplyError
fault_of (TreeCollision n) = Collision n
fault_of TreeOutOfMemory = OutOfMemory

-- Why the code stops reading an item, beside what the definitions say, and where it stands in the item.
use Rattle.std.specs.Prelude.{◌≡◌, ⊤, ℕ, drop, Result, Err}
use Rattle.git_objects.specs.Paths.{Bytes}
use Rattle.state_items.specs.Fields.{Spot, Fault, BrokenAt, Clash}
use Rattle.state_items.specs.declared.fault.ItemFault.{ItemFault}
use Rattle.state_items.specs.declared.fault.ItemFault.TheVariants.{Broken, Collision, OutOfMemory}

-- the fault that the definitions have, or want of memory
abbrev pub IsStop : {A : Type 0} → ItemFault → Result A Fault → Type 0
IsStop (Broken at) read = read ≡ Err (BrokenAt at)
IsStop (Collision n) read = read ≡ Err (Clash n.0)
IsStop OutOfMemory read = ⊤

-- what follows a place of an item
abbrev pub spot_at : ℕ → Bytes → Spot
spot_at at bytes = record { at = at; rest = drop at bytes }

-- What is told of a filter that is refused.
use Rattle.std.specs.Prelude.{⊤}
use Rattle.filter_text.specs.Filters.{Filter}
use Rattle.filter_routes.specs.Faults.{IsNotKeeping, IsOverlap}
use Rattle.filter_routes.specs.declared.fault.RouteFault.{RouteFault}
use Rattle.filter_routes.specs.declared.fault.RouteFault.TheVariants.{NotKeeping, Overlap, OutOfMemory}

-- the filter has the fault; want of memory says nothing of it
abbrev pub IsRouteFault : Filter → RouteFault → Type 0
IsRouteFault f (NotKeeping n) = IsNotKeeping f n
IsRouteFault f (Overlap n a b) = IsOverlap f n a b
IsRouteFault f OutOfMemory = ⊤

-- The outcomes of faults that lower crates tell.
use Rattle.std.specs.Prelude.{Some}
use Rattle.stream_reader.specs.declared.fault.StreamFault.{StreamFault}
use Rattle.stream_reader.specs.declared.fault.StreamFault.TheVariants as streams
use Rattle.filter_text.specs.declared.filter.FilterFault.{FilterFault as TextFault}
use Rattle.filter_text.specs.declared.filter.FilterFault.TheVariants as texts
use Rattle.filter_routes.specs.declared.fault.RouteFault.{RouteFault}
use Rattle.filter_routes.specs.declared.fault.RouteFault.TheVariants as routes
use Rattle.proj_words.specs.declared.outcome.FilterWhat.TheVariants as filters
use Rattle.proj_words.specs.declared.outcome.Outcome.{Outcome}
use Rattle.proj_words.specs.declared.outcome.Outcome.TheVariants.{Syntax, Unsupported, Unresolved, BadPath, NoSource}
use Rattle.proj_words.specs.declared.outcome.Outcome.TheVariants.{FilterFault, Overlap, NotKeeping}
use Rattle.proj_words.specs.declared.outcome.Outcome.TheVariants.{OutOfMemory, Limit, Collision}

-- of a stream that is refused
abbrev pub stream_outcome : StreamFault → Outcome
stream_outcome (streams.Syntax at) = Syntax at
stream_outcome (streams.Unsupported at what) = Unsupported at what
stream_outcome (streams.Unresolved at) = Unresolved at
stream_outcome (streams.BadPath at) = BadPath at
stream_outcome (streams.NoSource at) = NoSource at
stream_outcome (streams.Limit at which) = Limit which (Some at)
stream_outcome (streams.Collision n) = Collision n
stream_outcome streams.OutOfMemory = OutOfMemory

-- of a text that is no filter
abbrev pub filter_outcome : TextFault → Outcome
filter_outcome texts.TooLong = FilterFault filters.TooLong
filter_outcome texts.TooDeep = FilterFault filters.TooDeep
filter_outcome texts.Syntax = FilterFault filters.Syntax
filter_outcome texts.WorkspacePlace = FilterFault filters.WorkspacePlace
filter_outcome texts.TooMany = FilterFault filters.TooMany
filter_outcome texts.OutOfMemory = OutOfMemory

-- of a filter that isn't sound
abbrev pub route_outcome : RouteFault → Outcome
route_outcome (routes.NotKeeping piece) = NotKeeping piece
route_outcome (routes.Overlap list first second) = Overlap list first second
route_outcome routes.OutOfMemory = OutOfMemory

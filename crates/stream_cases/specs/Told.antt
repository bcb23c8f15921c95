-- What follows what a reader tells.
use Rattle.std.specs.Prelude.{Bool, true, false, Option, Some, None, Result, Ok, Err}
use Rattle.stream_reader.specs.declared.fault.StreamFault.{StreamFault}
use Rattle.stream_reader.specs.declared.reader.Next.{Next}
use Rattle.stream_reader.specs.declared.reader.Next.TheVariants as nexts

-- behind a command the next one; else whether more must come
abbrev pub what_follows : Result Next StreamFault → Option Bool
what_follows (Ok (nexts.Command p)) = None
what_follows (Ok nexts.More) = Some true
what_follows (Ok nexts.Ended) = Some false
what_follows (Err f) = Some false

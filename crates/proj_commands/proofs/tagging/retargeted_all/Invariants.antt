use Rattle.std.specs.Iterator.Adapters.{zip_first, zip_second}
use Rattle.std.specs.Slice.Iter.{iter_rest}
use Rattle.proj_commands.proofs.Retargeting.{IsGoing}
use Rattle.proj_commands.proofs.tagging.retargeted_all.Given as goal

abbrev pub invariant-loop-tag : goal.invariant-loop-tag
invariant-loop-tag l = IsGoing l.tags l.shown (iter_rest (zip_first l.tag-iterator)) (iter_rest (zip_second l.tag-iterator)) l.found.items

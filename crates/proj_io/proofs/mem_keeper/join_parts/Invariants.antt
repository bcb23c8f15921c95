use Rattle.std.proofs.Common.{◌≡◌, ◌++◌, drop}
use Rattle.proj_io.specs.Items.{joined}
use Rattle.proj_io.proofs.mem_keeper.join_parts.Given as goal

abbrev pub invariant-loop-part : goal.invariant-loop-part
invariant-loop-part l = l.bytes.items ++ joined (drop l.part-index l.parts) ≡ joined l.parts

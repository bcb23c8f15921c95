use Rattle.std.proofs.Common.{◌≡◌, length, take}
use Rattle.proj_io.specs.Items.{joined}
use Rattle.proj_journal.proofs.parts.joined_len.Given as goal

abbrev pub invariant-loop-part : goal.invariant-loop-part
invariant-loop-part l = l.len ≡ length (joined (take l.part-index l.parts))

use Rattle.std.proofs.Common.{◌≡◌, drop}
use Rattle.filter_text.specs.Texts.{gap, gap_from}
use Rattle.filter_text.proofs.gaps.gap.Given as goal

abbrev pub invariant-loop-i : goal.invariant-loop-i
invariant-loop-i l = gap_from l.comment l.broken (drop l.i l.text) ≡ gap l.text

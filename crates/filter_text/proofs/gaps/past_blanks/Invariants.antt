use Rattle.std.proofs.Common.{◌≡◌, drop}
use Rattle.filter_text.specs.Texts.{past_blanks}
use Rattle.filter_text.proofs.gaps.past_blanks.Given as goal

abbrev pub invariant-loop-i : goal.invariant-loop-i
invariant-loop-i l = past_blanks (drop l.i l.text) ≡ past_blanks l.text

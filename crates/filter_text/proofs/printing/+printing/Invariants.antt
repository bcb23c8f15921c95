use Rattle.std.proofs.Common.{◌≡◌, drop, ◌++◌}
use Rattle.std.specs.Prelude.{nat_lt}
use Rattle.filter_text.specs.Shapes.{shapes}
use Rattle.filter_text.specs.Printing.{printed_members, printed_pieces}
use Rattle.filter_text.proofs.Prints.{printed_from}
use Rattle.filter_text.proofs.printing.+printing.Given as goal

abbrev pub invariant-add_members-loop-i : goal.invariant-add_members-loop-i
invariant-add_members-loop-i l =
    l.out.items ++ printed_from (nat_lt 0 l.i) (shapes (drop l.i l.members)) ≡ l.initial.out.items ++ printed_members (shapes l.members)

abbrev pub invariant-add_pieces-loop-m : goal.invariant-add_pieces-loop-m
invariant-add_pieces-loop-m l =
    l.out.items ++ printed_pieces (shapes (drop l.m-index l.members)) ≡ l.initial.out.items ++ printed_pieces (shapes l.members)

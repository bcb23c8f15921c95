use Rattle.std.proofs.Common.{◌≡◌, drop, ◌++◌, []}
use Rattle.decision_lists.specs.Entries.{cone_of}
use Rattle.decision_lists.specs.Operations.{block, heads, pulled}
use Rattle.decision_lists.proofs.operations.push_block.Given as goal

abbrev pub invariant-loop-e : goal.invariant-loop-e
invariant-loop-e l =
    l.out ++ block (heads l.out []) (cone_of l.point l.base) (pulled (cone_of l.point l.base) l.target (drop l.e-index l.others))
    ≡ l.initial.out ++ block (heads l.initial.out []) (cone_of l.point l.base) (pulled (cone_of l.point l.base) l.target l.others)

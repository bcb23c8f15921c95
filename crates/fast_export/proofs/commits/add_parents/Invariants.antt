use Rattle.std.proofs.Common.{◌≡◌, ◌++◌, drop, map}
use Rattle.fast_export.specs.Given.{commit_mark, parents_from}
use Rattle.fast_export.proofs.commits.add_parents.Given as goal

abbrev pub invariant-loop-i : goal.invariant-loop-i
invariant-loop-i l =
    l.out.items ++ parents_from (map commit_mark l.marks.commits) l.i (drop l.i l.commit.parents) ≡ l.fn.out.items ++ parents_from (map commit_mark l.marks.commits) 0 l.commit.parents

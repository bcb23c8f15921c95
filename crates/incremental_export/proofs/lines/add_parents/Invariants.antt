use Rattle.std.proofs.Common.{◌≡◌, ◌++◌, drop, map}
use Rattle.fast_export.specs.Given.{commit_mark}
use Rattle.incremental_export.specs.ChangeTexts.{parent_lines}
use Rattle.incremental_export.proofs.ParentRefs.{refs_from}
use Rattle.incremental_export.proofs.lines.add_parents.Given as goal

abbrev pub invariant-loop-i : goal.invariant-loop-i
invariant-loop-i l =
    l.out.items ++ refs_from (map commit_mark l.marks.commits) l.i (drop l.i l.commit.parents) ≡ l.fn.out.items ++ parent_lines (map commit_mark l.marks.commits) l.commit.parents

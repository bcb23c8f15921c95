use Rattle.std.proofs.Common.{◌≡◌, take, None}
use Rattle.filter_text.specs.Shapes.{shapes}
use Rattle.workspace.specs.Workspaces.{split_pieces}
use Rattle.workspace.proofs.parts.parts_among.Given as goal

abbrev pub invariant-loop-i : goal.invariant-loop-i
invariant-loop-i l = split_pieces (shapes (take l.i l.pieces)) ≡ None

use Rattle.std.proofs.Common.{◌≡◌, List, ◌++◌, length}
use Rattle.git_objects.specs.declared.entry.Entry.{Entry}
use Rattle.repo_ground.proofs.walk.peer.Given as goal

-- some entries were passed by
abbrev pub invariant-beside : goal.invariant-beside
invariant-beside l = (gone : List Entry) × (l.initial.beside ≡ gone ++ l.beside)

abbrev pub decreases-beside : goal.decreases-beside
decreases-beside l = length l.beside

-- Bodies of commits of their own.
use Rattle.std.specs.Prelude.{◌≡◌, List, map, Some}
use Rattle.git_objects.specs.Paths.{Bytes}
use Rattle.git_objects.specs.Commits.{Commit, Letter, commit_body}
use Rattle.git_objects.specs.CommitBodies.{commit_from}
use Rattle.commit_map.specs.Shown.{Shown}

-- the commit of a tree upon projections
abbrev pub own_commit_of : Bytes → List Shown → Letter → Commit
own_commit_of t ms letter = record { tree = t; parents = map (λ m. m.commit) ms; letter = letter }

-- its body, which is read again as that commit
pub record IsOwnBody (t : Bytes) (ms : List Shown) (letter : Letter) (b : Bytes) : Type 0 where
  pub body : b ≡ commit_body (own_commit_of t ms letter)
  pub read : commit_from b ≡ Some (own_commit_of t ms letter)

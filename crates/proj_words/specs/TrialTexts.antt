-- The texts of a trial: a stream of commits, and three pushes through filters.
use Rattle.std.specs.Prelude.{ℕ, zero, suc, ◌+◌, ◌%◌, [], ◌∷◌}
use Rattle.std.specs.Prelude.{◌++◌, length, codes, decimal, Option, Some, None}
use Rattle.git_objects.specs.Paths.{Bytes}
use Rattle.git_objects.specs.Commits.{hex}

abbrev pub main : Bytes
main = codes "refs/heads/main"

-- the line `data` with the size, and the bytes
abbrev pub sized : Bytes → Bytes
sized b = codes "data " ++ decimal (length b) ++ 10 ∷ b

-- the first lines of a commit, its seconds and its message
abbrev pub trial_head : ℕ → Bytes → Bytes
trial_head seconds message =
    codes "commit refs/heads/main\ncommitter T <t@x> " ++ decimal seconds ++ codes " +0000\n" ++ sized message

-- the i-th commit writes one of forty files
abbrev pub trial_commit : ℕ → Bytes
trial_commit i =
    trial_head (1700000000 + i) (codes "c" ++ decimal i ++ 10 ∷ [])
    ++ codes "M 100644 inline "
    ++ (97 + i % 4) ∷ (codes "/f" ++ decimal (i % 10) ++ 10 ∷ sized (decimal i ++ 10 ∷ []))

-- n commits from the i-th on
abbrev pub trial_commits : ℕ → ℕ → Bytes
trial_commits zero i = []
trial_commits (suc n) i = trial_commit i ++ trial_commits n (i + 1)

-- n commits
abbrev pub trial_stream : ℕ → Bytes
trial_stream n = trial_commits n 0

-- a push through a filter: its message, the path that it writes, and the content
pub record TrialPush : Type 0 where
  pub filter : Bytes
  pub message : Bytes
  pub path : Bytes
  pub content : Bytes

abbrev pub first_push : TrialPush
first_push = record { filter = codes ":/a"; message = codes "p1\n"; path = codes "p"; content = codes "1\n" }

abbrev pub second_push : TrialPush
second_push = record { filter = codes "::b/"; message = codes "p2\n"; path = codes "b/p"; content = codes "2\n" }

abbrev pub third_push : TrialPush
third_push = record {
  filter = codes ":[x=:/a,y=:/c]";
  message = codes "p3\n";
  path = codes "x/q";
  content = codes "3\n";
}

-- the line `from` and the digits of a name, where there is one
abbrev pub from_line : Option Bytes → Bytes
from_line None = codes ""
from_line (Some name) = codes "from " ++ hex name ++ 10 ∷ []

-- the stream of a push upon the commit of that name
abbrev pub push_stream : ℕ → TrialPush → Option Bytes → Bytes
push_stream seconds push name =
    trial_head seconds push.message
    ++ from_line name
    ++ codes "M 100644 inline " ++ push.path ++ 10 ∷ sized push.content

-- Comments that were looked at.
use Rattle.std.specs.Prelude.{◌≡◌, Bool}
use Rattle.git_objects.specs.Paths.{Bytes}
use Rattle.stream_lex.specs.Lines.{Input, line_at}
use Rattle.stream_lex.specs.Cutting.{grown}

-- j is i behind comments: the next line is the same, whatever comes and whether or not it is all
abbrev pub IsPast : Input → Input → Type 0
IsPast i j = (ended : Bool) (more : Bytes) → line_at ended (grown more i) ≡ line_at ended (grown more j)

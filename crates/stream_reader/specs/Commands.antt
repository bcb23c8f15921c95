-- The next command of a stream.
use Rattle.std.specs.Prelude.{◌+◌, ℕ, zero, suc, Bool, true, false, cond, [], length, codes, Option, Some, None, Ok, Err}
use Rattle.git_objects.specs.Paths.{Bytes, same_bytes}
use Rattle.git_objects.specs.CommitBodies.{strip}
use Rattle.stream_lex.specs.Lines.{Input, Line, line_at}
use Rattle.stream_reader.specs.declared.fault.Feature.{Feature}
use Rattle.stream_reader.specs.declared.fault.Feature.TheVariants as features
use Rattle.stream_reader.specs.declared.fault.StreamFault.TheVariants.{Syntax, Unsupported}
use Rattle.stream_lex.specs.declared.stop.Wanted.TheVariants as wants
use Rattle.stream_lex.specs.declared.stop.Stop.TheVariants as stops
use Rattle.stream_reader.specs.declared.command.Command.{Command}
use Rattle.stream_reader.specs.declared.command.Command.TheVariants as commands
use Rattle.stream_reader.specs.declared.command.Placed.{Placed}
use Rattle.stream_reader.specs.declared.progress.Manner.{Manner}
use Rattle.stream_reader.specs.declared.progress.Phase.{Phase}
use Rattle.stream_reader.specs.declared.progress.Phase.TheVariants.{Between, InCommit, Finished}
use Rattle.stream_reader.specs.declared.progress.Progress.{Progress}
use Rattle.stream_reader.specs.declared.progress.Event.{Event}
use Rattle.stream_reader.specs.declared.progress.Event.TheVariants.{Gives, Skips, Ends}
use Rattle.stream_reader.specs.Words.{first_word}
use Rattle.git_objects.specs.Results.{◌>>=◌}
use Rattle.stream_lex.specs.Cutting.{◌then◌, pure, refuse}
use Rattle.stream_reader.specs.Reading.{Reader, Read, lifted}
use Rattle.stream_reader.specs.Heads.{blob, head, reset, tag}
use Rattle.stream_reader.specs.Changes.{ChangeLine, EmptyIs, NoChange, change_line, change}

-- ---- lines between commands, by their first word

pub data CommandLine : Type 0 where
  EmptyLine : CommandLine
  BlobLine : CommandLine
  CommitLine : Bytes → CommandLine
  ResetLine : Bytes → CommandLine
  -- with no text where the line ends behind the word
  TagLine : Option Bytes → CommandLine
  IdleLine : CommandLine
  WantsDone : CommandLine
  DoneLine : CommandLine
  RefusedLine : Feature → CommandLine
  OtherLine : CommandLine

-- a feature by the first word of its lines
abbrev pub feature_by : Bytes → Option Feature
feature_by w =
    cond (same_bytes w (codes "option")) (Some features.Options)
    (cond (same_bytes w (codes "alias")) (Some features.Alias)
    (cond (same_bytes w (codes "ls")) (Some features.Ls)
    (cond (same_bytes w (codes "cat-blob")) (Some features.CatBlob)
    (cond (same_bytes w (codes "get-mark")) (Some features.GetMark)
    (cond (same_bytes w (codes "N")) (Some features.Notes) None)))))

abbrev pub refused_line : Option Feature → CommandLine
refused_line None = OtherLine
refused_line (Some f) = RefusedLine f

abbrev pub with_word : (Bytes → CommandLine) → CommandLine → Option Bytes → CommandLine
with_word make other (Some t) = make t
with_word make other None = other

-- a word, a space and a text
abbrev pub by_word : Bytes → (Bytes → CommandLine) → Bytes → CommandLine → CommandLine
by_word word make t other = with_word make other (strip word t)

abbrev pub by_text : Bytes → CommandLine → Bytes → CommandLine → CommandLine
by_text whole here t other = cond (same_bytes t whole) here other

unfoldable pub command_line : Bytes → CommandLine
command_line t =
    by_text [] EmptyLine t
    (by_text (codes "blob") BlobLine t
    (by_word (codes "commit ") CommitLine t
    (by_word (codes "reset ") ResetLine t
    (by_word (codes "progress ") (λ r. IdleLine) t
    (by_text (codes "checkpoint") IdleLine t
    (by_text (codes "feature done") WantsDone t
    (by_word (codes "feature ") (λ r. RefusedLine features.FeatureLine) t
    (by_text (codes "done") DoneLine t
    (by_word (codes "tag ") (λ r. TagLine (Some r)) t
    (by_text (codes "tag") (TagLine None) t
    (refused_line (feature_by (first_word t).0))))))))))))

-- ---- one line or one command: what it gives, and where the reading stands behind it

pub record Turn : Type 0 where
  pub event : Event
  pub progress : Progress

abbrev pub turned : Event → Phase → Manner → Turn
turned e p d = record { event = e; progress = record { phase = p; manner = d } }

-- a command whose first line stands at a place; d says how it is read
abbrev pub gives : ℕ → Phase → Manner → Command → Reader Turn
gives at p d c = pure (turned (Gives (record { at = at; command = c })) p d)

abbrev pub skips : Manner → Reader Turn
skips d = pure (turned Skips Between d)

-- the text of a tag, where one is read
abbrev pub tag_turn : ℕ → Option Bytes → Manner → Bool → Reader Turn
tag_turn at t d true = tag at t then gives at Between d
tag_turn at t d false = refuse (Unsupported at features.Tag)

abbrev pub between : CommandLine → ℕ → Manner → Reader Turn
between EmptyLine at d = skips d
between BlobLine at d = blob then gives at Between d
between (CommitLine t) at d = head at t then gives at InCommit d
between (ResetLine t) at d = reset at t then gives at Between d
between (TagLine t) at d = tag_turn at t d d.takes_tags
between IdleLine at d = skips d
between WantsDone at d = skips (record d { wants_done = true })
between DoneLine at d = gives at Finished d commands.Done
between (RefusedLine f) at d = refuse (Unsupported at f)
between OtherLine at d = refuse (Syntax at)

-- a wanted `done` is missing at the end
abbrev pub ends_at : ℕ → Manner → Bool → Reader Turn
ends_at at d true = refuse (Syntax at)
ends_at at d false = pure (turned Ends Between d)

abbrev pub at_the_end : ℕ → Manner → Reader Turn
at_the_end at d = ends_at at d d.wants_done

abbrev pub between_at : Manner → Bool → Option Line × Input → Read Turn
between_at d ended (None, i) = at_the_end i.at d ended i
between_at d ended (Some l, i) = between (command_line l.bytes) l.place d ended i

-- a line that is neither empty nor a change ends the commit and isn't taken
abbrev pub changed : ChangeLine → ℕ → Manner → Bool → Input → Input → Read Turn
changed EmptyIs at d ended before i = gives at Between d commands.CommitEnd ended i
changed NoChange at d ended before i = gives at Between d commands.CommitEnd ended before
changed k at d ended before i = (change at k then λ c. gives at InCommit d (commands.Change c)) ended i

abbrev pub in_commit_at : Manner → Bool → Input → Option Line × Input → Read Turn
in_commit_at d ended before (None, i) = gives i.at Between d commands.CommitEnd ended i
in_commit_at d ended before (Some l, i) = changed (change_line l.bytes) l.place d ended before i

abbrev pub turn_in : Phase → Manner → Reader Turn
turn_in Between d ended i = lifted (line_at ended i) >>= between_at d ended
turn_in InCommit d ended i = lifted (line_at ended i) >>= in_commit_at d ended i
turn_in Finished d ended i = Ok (turned Ends Finished d, i)

unfoldable pub turn : Progress → Reader Turn
turn p = turn_in p.phase p.manner

-- ---- the next command, behind lines that give none

-- a command, or none at the end, and where the reading stands behind it
pub record Told : Type 0 where
  pub command : Option Placed
  pub progress : Progress

abbrev pub by_event : (Progress → Reader Told) → Event → Progress → Reader Told
by_event next (Gives c) p = pure (record { command = Some c; progress = p })
by_event next Skips p = next p
by_event next Ends p = pure (record { command = None; progress = p })

abbrev pub turn_on : (Progress → Reader Told) → Turn → Reader Told
turn_on next t = by_event next t.event t.progress

-- behind fewer than n such lines
abbrev pub command_within : ℕ → Progress → Reader Told
command_within zero p ended i = Err (stops.More (wants.Line i.at))
command_within (suc n) p ended i = (turn p then turn_on (command_within n)) ended i

-- The next command of what is left, none where the stream ends, its first fault, or that more must come.
unfoldable pub read_command : Progress → Reader Told
read_command p ended i = command_within (length i.rest + 1) p ended i

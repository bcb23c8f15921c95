-- A reader that reads tags reads all else as one that refuses them.
use Rattle.std.proofs.Common.{◌≡◌, ◌∙◌, ap, refl, ℕ, Bool, true, false, Option, Some, None, Ok, Err}
use Rattle.git_objects.specs.Paths.{Bytes}
use Rattle.git_objects.specs.Results.{◌>>=◌}
use Rattle.git_objects.specs.declared.quantity.Quantity.{Quantity}
use Rattle.stream_lex.specs.Lines.{Input, Lex, Line, line_at}
use Rattle.stream_lex.specs.declared.stop.Stop.TheVariants as stops
use Rattle.stream_reader.specs.Changes.{ChangeLine, ModifyIs, DeleteIs, RenameIs, CopyIs, DeleteAllIs, NotesAre, EmptyIs, NoChange, change, change_line}
use Rattle.stream_reader.specs.Commands.{CommandLine, EmptyLine, BlobLine, CommitLine, ResetLine, TagLine, IdleLine, WantsDone, DoneLine, RefusedLine, OtherLine, Turn, between, between_at, changed, command_line, ends_at, gives, in_commit_at, turn, turn_in}
use Rattle.stream_reader.specs.Heads.{blob, head, reset}
use Rattle.stream_reader.specs.Reading.{Read, lifted}
use Rattle.stream_reader.specs.declared.command.Change.{Change}
use Rattle.stream_reader.specs.declared.command.Command.{Command}
use Rattle.stream_reader.specs.declared.command.Command.TheVariants as commands
use Rattle.stream_reader.specs.declared.fault.Feature.TheVariants as features
use Rattle.stream_reader.specs.declared.fault.StreamFault.TheVariants.{Limit, Unsupported}
use Rattle.stream_reader.specs.declared.progress.Manner.{Manner}
use Rattle.stream_reader.specs.declared.progress.Phase.{Phase}
use Rattle.stream_reader.specs.declared.progress.Phase.TheVariants.{Between, InCommit, Finished}
use Rattle.stream_reader.specs.declared.progress.Progress.{Progress}

-- what is expected next of a reader that reads tags, or refuses them, all else as it is
abbrev pub taking : Bool → Progress → Progress
taking t p = record { phase = p.phase; manner = record { wants_done = p.manner.wants_done; takes_tags = t } }

abbrev turn_taking : Bool → Turn → Turn
turn_taking t x = record { event = x.event; progress = taking t x.progress }

abbrev read_taking : Bool → Read Turn → Read Turn
read_taking t (Ok x) = Ok (turn_taking t x.0, x.1)
read_taking t (Err e) = Err e

-- Both give one thing, or the first refuses a tag.
data IsTaking (t : Bool) (plain other : Read Turn) : Type 0 where
  Same : other ≡ read_taking t plain → IsTaking t plain other
  RefusesTag : (at : ℕ) → plain ≡ Err (stops.Fault (Unsupported at features.Tag)) → IsTaking t plain other

module _ (t w ended : Bool) where
  abbrev plain : Manner
  plain = record { wants_done = w; takes_tags = false }

  abbrev other : Manner
  other = record { wants_done = w; takes_tags = t }

  given_taking : (at : ℕ) (p : Phase) (r : Read Command) → IsTaking t (r >>= λ x. gives at p plain x.0 ended x.1) (r >>= λ x. gives at p other x.0 ended x.1)
  given_taking at p (Ok x) = Same refl
  given_taking at p (Err e) = Same refl

  tag_taking : (at : ℕ) (v : Option Bytes) (i : Input) (s : Read Turn) → IsTaking t (between (TagLine v) at plain ended i) s
  tag_taking at v i s = RefusesTag at refl

  between_taking : (k : CommandLine) (at : ℕ) (i : Input) → IsTaking t (between k at plain ended i) (between k at other ended i)
  between_taking EmptyLine at i = Same refl
  between_taking BlobLine at i = given_taking at Between (blob ended i)
  between_taking (CommitLine v) at i = given_taking at InCommit (head at v ended i)
  between_taking (ResetLine v) at i = given_taking at Between (reset at v ended i)
  between_taking (TagLine v) at i = tag_taking at v i (between (TagLine v) at other ended i)
  between_taking IdleLine at i = Same refl
  between_taking WantsDone at i = Same refl
  between_taking DoneLine at i = Same refl
  between_taking (RefusedLine f) at i = Same refl
  between_taking OtherLine at i = Same refl

  end_taking : (at : ℕ) (b : Bool) (i : Input) → IsTaking t (ends_at at plain b ended i) (ends_at at other b ended i)
  end_taking at true i = Same refl
  end_taking at false i = Same refl

  line_taking : (r : Lex (Option Line)) → IsTaking t (lifted r >>= between_at plain ended) (lifted r >>= between_at other ended)
  line_taking (Ok (Some l, j)) = between_taking (command_line l.bytes) l.place j
  line_taking (Ok (None, j)) = end_taking j.at w j
  line_taking (Err e) = Same refl

  made_taking : (at : ℕ) (r : Read Change) → IsTaking t (r >>= λ x. gives at InCommit plain (commands.Change x.0) ended x.1) (r >>= λ x. gives at InCommit other (commands.Change x.0) ended x.1)
  made_taking at (Ok x) = Same refl
  made_taking at (Err e) = Same refl

  changed_taking : (k : ChangeLine) (at : ℕ) (before i : Input) → IsTaking t (changed k at plain ended before i) (changed k at other ended before i)
  changed_taking EmptyIs at before i = Same refl
  changed_taking NoChange at before i = Same refl
  changed_taking (ModifyIs v) at before i = made_taking at (change at (ModifyIs v) ended i)
  changed_taking (DeleteIs v) at before i = made_taking at (change at (DeleteIs v) ended i)
  changed_taking (RenameIs v) at before i = made_taking at (change at (RenameIs v) ended i)
  changed_taking (CopyIs v) at before i = made_taking at (change at (CopyIs v) ended i)
  changed_taking DeleteAllIs at before i = made_taking at (change at DeleteAllIs ended i)
  changed_taking NotesAre at before i = made_taking at (change at NotesAre ended i)

  inside_taking : (before : Input) (r : Lex (Option Line)) → IsTaking t (lifted r >>= in_commit_at plain ended before) (lifted r >>= in_commit_at other ended before)
  inside_taking before (Ok (Some l, j)) = changed_taking (change_line l.bytes) l.place before j
  inside_taking before (Ok (None, j)) = Same refl
  inside_taking before (Err e) = Same refl

  phase_taking : (p : Phase) (i : Input) → IsTaking t (turn_in p plain ended i) (turn_in p other ended i)
  phase_taking Between i = line_taking (line_at ended i)
  phase_taking InCommit i = inside_taking i (line_at ended i)
  phase_taking Finished i = Same refl

turns_taking : (t : Bool) (p : Progress) (ended : Bool) (i : Input) → IsTaking t (turn (taking false p) ended i) (turn (taking t p) ended i)
unfolding turn
turns_taking t p ended i = phase_taking t p.manner.wants_done ended p.phase i

-- ---- a turn of the one is a turn of the other

pub turn_same : (t : Bool) (p : Progress) (ended : Bool) (i : Input) (x : Turn) (j : Input) → turn (taking false p) ended i ≡ Ok (x, j)
    → turn (taking t p) ended i ≡ Ok (record { event = x.event; progress = taking t x.progress }, j)
turn_same t p ended i x j e = by (turns_taking t p ended i)
  where
    by : IsTaking t (turn (taking false p) ended i) (turn (taking t p) ended i) → turn (taking t p) ended i ≡ Ok (turn_taking t x, j)
    by (Same s) = s ∙ ap (read_taking t) e
    by (RefusesTag at f) = cc

pub limit_same : (t : Bool) (p : Progress) (ended : Bool) (i : Input) (at : ℕ) (which : Quantity) → turn (taking false p) ended i ≡ Err (stops.Fault (Limit at which))
    → turn (taking t p) ended i ≡ Err (stops.Fault (Limit at which))
limit_same t p ended i at which e = by (turns_taking t p ended i)
  where
    by : IsTaking t (turn (taking false p) ended i) (turn (taking t p) ended i) → turn (taking t p) ended i ≡ Err (stops.Fault (Limit at which))
    by (Same s) = s ∙ ap (read_taking t) e
    by (RefusesTag n f) = cc

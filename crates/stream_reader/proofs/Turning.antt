-- One line or one command is read by a reader.
use Rattle.std.proofs.Common.{ℕ, Bool, true, false, Option, Some, None, Err, ◌≡◌, refl}
use Rattle.git_objects.specs.Paths.{Bytes}
use Rattle.stream_lex.specs.Lines.{Input, Line}
use Rattle.stream_lex.specs.declared.stop.Wanted.{Wanted}
use Rattle.stream_lex.specs.declared.stop.Stop.TheVariants as stops
use Rattle.stream_lex.specs.Cutting.{grown, Advances}
use Rattle.stream_lex.proofs.Combining.{stays}
use Rattle.stream_reader.specs.declared.command.Command.TheVariants as commands
use Rattle.stream_reader.specs.declared.progress.Manner.{Manner}
use Rattle.stream_reader.specs.declared.progress.Phase.{Phase}
use Rattle.stream_reader.specs.declared.progress.Phase.TheVariants.{Between, InCommit, Finished}
use Rattle.stream_reader.specs.declared.progress.Progress.{Progress}
use Rattle.stream_lex.specs.Cutting.{◌then◌}
use Rattle.stream_reader.specs.Changes.{change, change_line, ChangeLine, ModifyIs, DeleteIs, RenameIs, CopyIs, DeleteAllIs, NotesAre, EmptyIs, NoChange}
use Rattle.stream_reader.specs.Commands.{command_line, gives, between, at_the_end, between_at, changed, in_commit_at, turn_in, turn}
use Rattle.stream_lex.specs.Cutting.{Agrees, IsTold, Steps, WaitsOn, IsReader}
use Rattle.stream_lex.proofs.Combining.{then-reader, pure-reader, steps_later, waits_later}
use Rattle.stream_reader.proofs.Combining.{IsOfLine, line-reader}
use Rattle.stream_reader.proofs.Composed.{change-reader, between-reader, at_the_end-reader}

-- ---- between commands

module _ (d : Manner) where
  between_settles : (ended : Bool) (more : Bytes) (o : Option Line) (j : Input) → Agrees more (between_at d false (o, j)) (between_at d ended (o, grown more j))
  between_settles ended more None j = (at_the_end-reader j.at d).settles ended more j
  between_settles ended more (Some l) j = (between-reader (command_line l.bytes) l.place d).settles ended more j

  between_steps : (ended : Bool) (i : Input) (o : Option Line) (j : Input) → Advances i j → Steps i (between_at d ended (o, j))
  between_steps ended i None j h = steps_later i j (at_the_end j.at d ended j) h ((at_the_end-reader j.at d).steps ended j)
  between_steps ended i (Some l) j h = steps_later i j (between (command_line l.bytes) l.place d ended j) h ((between-reader (command_line l.bytes) l.place d).steps ended j)

  between_told : (o : Option Line) (j : Input) → IsTold (between_at d true (o, j))
  between_told None j = (at_the_end-reader j.at d).told j
  between_told (Some l) j = (between-reader (command_line l.bytes) l.place d).told j

  between_waits : (i : Input) (o : Option Line) (j : Input) → Advances i j → (w : Wanted) → between_at d false (o, j) ≡ Err (stops.More w) → WaitsOn (λ more. between_at d false (o, grown more j)) i w
  between_waits i None j s w e = waits_later (λ more. at_the_end j.at d false (grown more j)) i j w s ((at_the_end-reader j.at d).waits j w e)
  between_waits i (Some l) j s w e =
      waits_later (λ more. between (command_line l.bytes) l.place d false (grown more j)) i j w s ((between-reader (command_line l.bytes) l.place d).waits j w e)

  between_line : IsOfLine (λ ended i. between_at d ended)
  between_line = record {
    settles = λ e more i o j. between_settles e more o j;
    steps = λ e i o j h. between_steps e i o j h;
    told = λ i o j. between_told o j;
    waits = between_waits;
  }

  -- ---- in a commit

  pub changing-reader : (k : ChangeLine) (at : ℕ) → IsReader (change at k then λ c. gives at InCommit d (commands.Change c))
  changing-reader k at = then-reader (change at k) (λ c. gives at InCommit d (commands.Change c)) (change-reader at k) (λ c. pure-reader _)

  changed_settles : (ended : Bool) (more : Bytes) (k : ChangeLine) (at : ℕ) (i j : Input) → Agrees more (changed k at d false i j) (changed k at d ended (grown more i) (grown more j))
  changed_settles ended more EmptyIs at i j = refl
  changed_settles ended more NoChange at i j = refl
  changed_settles ended more (ModifyIs t) at i j = (changing-reader (ModifyIs t) at).settles ended more j
  changed_settles ended more (DeleteIs t) at i j = (changing-reader (DeleteIs t) at).settles ended more j
  changed_settles ended more (RenameIs t) at i j = (changing-reader (RenameIs t) at).settles ended more j
  changed_settles ended more (CopyIs t) at i j = (changing-reader (CopyIs t) at).settles ended more j
  changed_settles ended more DeleteAllIs at i j = (changing-reader DeleteAllIs at).settles ended more j
  changed_settles ended more NotesAre at i j = (changing-reader NotesAre at).settles ended more j

  changing_steps : (ended : Bool) (k : ChangeLine) (at : ℕ) (i j : Input) → Advances i j → Steps i ((change at k then λ c. gives at InCommit d (commands.Change c)) ended j)
  changing_steps ended k at i j h = steps_later i j ((change at k then λ c. gives at InCommit d (commands.Change c)) ended j) h ((changing-reader k at).steps ended j)

  changed_steps : (ended : Bool) (k : ChangeLine) (at : ℕ) (i j : Input) → Advances i j → Steps i (changed k at d ended i j)
  changed_steps ended EmptyIs at i j h = h
  changed_steps ended NoChange at i j h = stays i
  changed_steps ended (ModifyIs t) at i j h = changing_steps ended (ModifyIs t) at i j h
  changed_steps ended (DeleteIs t) at i j h = changing_steps ended (DeleteIs t) at i j h
  changed_steps ended (RenameIs t) at i j h = changing_steps ended (RenameIs t) at i j h
  changed_steps ended (CopyIs t) at i j h = changing_steps ended (CopyIs t) at i j h
  changed_steps ended DeleteAllIs at i j h = changing_steps ended DeleteAllIs at i j h
  changed_steps ended NotesAre at i j h = changing_steps ended NotesAre at i j h

  changed_told : (k : ChangeLine) (at : ℕ) (i j : Input) → IsTold (changed k at d true i j)
  changed_told EmptyIs at i j = tt
  changed_told NoChange at i j = tt
  changed_told (ModifyIs t) at i j = (changing-reader (ModifyIs t) at).told j
  changed_told (DeleteIs t) at i j = (changing-reader (DeleteIs t) at).told j
  changed_told (RenameIs t) at i j = (changing-reader (RenameIs t) at).told j
  changed_told (CopyIs t) at i j = (changing-reader (CopyIs t) at).told j
  changed_told DeleteAllIs at i j = (changing-reader DeleteAllIs at).told j
  changed_told NotesAre at i j = (changing-reader NotesAre at).told j

  changing_waits : (k : ChangeLine) (at : ℕ) (i j : Input) → Advances i j → (w : Wanted) → (change at k then λ c. gives at InCommit d (commands.Change c)) false j ≡ Err (stops.More w) →
      WaitsOn (λ more. (change at k then λ c. gives at InCommit d (commands.Change c)) false (grown more j)) i w
  changing_waits k at i j s w e =
      waits_later (λ more. (change at k then λ c. gives at InCommit d (commands.Change c)) false (grown more j)) i j w s ((changing-reader k at).waits j w e)

  changed_waits : (k : ChangeLine) (at : ℕ) (i j : Input) → Advances i j → (w : Wanted) → changed k at d false i j ≡ Err (stops.More w) → WaitsOn (λ more. changed k at d false (grown more i) (grown more j)) i w
  changed_waits EmptyIs at i j s w e = let no : ⊥ = cc in absurd no
  changed_waits NoChange at i j s w e = let no : ⊥ = cc in absurd no
  changed_waits (ModifyIs t) at i j s w e = changing_waits (ModifyIs t) at i j s w e
  changed_waits (DeleteIs t) at i j s w e = changing_waits (DeleteIs t) at i j s w e
  changed_waits (RenameIs t) at i j s w e = changing_waits (RenameIs t) at i j s w e
  changed_waits (CopyIs t) at i j s w e = changing_waits (CopyIs t) at i j s w e
  changed_waits DeleteAllIs at i j s w e = changing_waits DeleteAllIs at i j s w e
  changed_waits NotesAre at i j s w e = changing_waits NotesAre at i j s w e

  commit_waits : (i : Input) (o : Option Line) (j : Input) → Advances i j → (w : Wanted) → in_commit_at d false i (o, j) ≡ Err (stops.More w) → WaitsOn (λ more. in_commit_at d false (grown more i) (o, grown more j)) i w
  commit_waits i None j s w e = let no : ⊥ = cc in absurd no
  commit_waits i (Some l) j s w e = changed_waits (change_line l.bytes) l.place i j s w e

  commit_settles : (ended : Bool) (more : Bytes) (i : Input) (o : Option Line) (j : Input) → Agrees more (in_commit_at d false i (o, j)) (in_commit_at d ended (grown more i) (o, grown more j))
  commit_settles ended more i None j = refl
  commit_settles ended more i (Some l) j = changed_settles ended more (change_line l.bytes) l.place i j

  commit_steps : (ended : Bool) (i : Input) (o : Option Line) (j : Input) → Advances i j → Steps i (in_commit_at d ended i (o, j))
  commit_steps ended i None j h = h
  commit_steps ended i (Some l) j h = changed_steps ended (change_line l.bytes) l.place i j h

  commit_told : (i : Input) (o : Option Line) (j : Input) → IsTold (in_commit_at d true i (o, j))
  commit_told i None j = tt
  commit_told i (Some l) j = changed_told (change_line l.bytes) l.place i j

  commit_line : IsOfLine (in_commit_at d)
  commit_line = record {
    settles = λ e more i o j. commit_settles e more i o j;
    steps = λ e i o j h. commit_steps e i o j h;
    told = λ i o j. commit_told i o j;
    waits = commit_waits;
  }

  turn_in-reader : (p : Phase) → IsReader (turn_in p d)
  turn_in-reader Between = line-reader (λ ended i. between_at d ended) between_line
  turn_in-reader InCommit = line-reader (in_commit_at d) commit_line
  turn_in-reader Finished = pure-reader _

pub turn-reader : (p : Progress) → IsReader (turn p)
unfolding turn
turn-reader p = turn_in-reader p.manner p.phase

-- What a reader tells, and the verdict of what is left.
use Rattle.std.proofs.Common.{◌≡◌, ◌+◌, ◌<◌, ◌≤◌, Bool, true, false, [], length, Ok, Err, refl, sym, ap, ◌∙◌, subst, inl, inr}
use Rattle.std.specs.Prelude.{Result, OnOk}
use Rattle.git_objects.specs.Paths.{Bytes}
use Rattle.git_objects.specs.declared.limits.TheConstants.{STREAM_BYTES}
use Rattle.stream_lex.specs.declared.stop.Wanted.{Wanted}
use Rattle.stream_lex.specs.declared.stop.Stop.TheVariants.{More, Fault}
use Rattle.stream_lex.specs.Lines.{Input}
use Rattle.stream_lex.specs.Cutting.{grown, Agrees, Steps, IsTold}
use Rattle.stream_lex.proofs.Passing.{grown_none}
use Rattle.stream_reader.specs.declared.fault.StreamFault.{StreamFault}
use Rattle.stream_reader.specs.declared.reader.Next.{Next}
use Rattle.stream_reader.specs.declared.reader.Next.TheVariants as nexts
use Rattle.stream_reader.specs.declared.progress.Progress.{Progress}
use Rattle.stream_reader.specs.Commands.{Told, read_command}
use Rattle.stream_reader.specs.Verdicts.{verdict_from, go_on}
use Rattle.stream_reader.specs.Readers.{Reading, MayFollow, IsBefore, TellsNext, OnCommand, OnMore, came, left, verdict_with, Follows}
use Rattle.stream_reader.proofs.Commanding.{CommandLowers, command_lowers, command-reader}
use Rattle.stream_reader.proofs.Iterating.{verdict-is}
use Rattle.stream_reader.proofs.Reading.{came_along}

-- ---- what was told is told of all that follows

pub later_told : (p : Progress) (i : Input) (ended : Bool) (more : Bytes) (x : Told × Input) → (ended ≡ true → (more ≡ []) × (true ≡ true)) → read_command p ended i ≡ Ok x →
    read_command p true (grown more i) ≡ Ok (x.0, grown more x.1)
later_told p i false more x m e = subst (λ r. Agrees more r (read_command p true (grown more i))) e ((command-reader p).settles true more i)
later_told p i true more x m e =
    subst (λ t. read_command p true (grown t i) ≡ Ok (x.0, grown t x.1)) (sym (m refl).0)
    (ap (read_command p true) (grown_none i) ∙ e ∙ (λ k. Ok (x.0, sym (grown_none x.1) k)))

later_fault : (p : Progress) (i : Input) (ended : Bool) (more : Bytes) (f : StreamFault) → (ended ≡ true → (more ≡ []) × (true ≡ true)) → read_command p ended i ≡ Err (Fault f) →
    read_command p true (grown more i) ≡ Err (Fault f)
later_fault p i false more f m e = subst (λ r. Agrees more r (read_command p true (grown more i))) e ((command-reader p).settles true more i)
later_fault p i true more f m e = subst (λ t. read_command p true (grown t i) ≡ Err (Fault f)) (sym (m refl).0) (ap (read_command p true) (grown_none i) ∙ e)

-- where the next command is the same, the verdict is
same_before : (more : Bytes) (old new : Reading) → IsBefore old new → MayFollow old more true → verdict_with more old ≡ verdict_with more new
same_before more old new h m =
    verdict-is old.progress (grown more old.input) ∙ ap (go_on verdict_from) (h.same true more m) ∙ sym (verdict-is new.progress (grown more new.input))

pub follows : (result : Result Next StreamFault) (old new : Reading) → TellsNext result old new → Follows result old new
follows (Ok (nexts.Command p)) old new h more m =
    verdict-is old.progress (grown more old.input) ∙ ap (go_on verdict_from) (later_told old.progress old.input old.ended more _ m h.0)
follows (Ok nexts.More) old new h more m = same_before more old new h.1 m
follows (Ok nexts.Ended) old new h more m =
    verdict-is old.progress (grown more old.input) ∙ ap (go_on verdict_from) (later_told old.progress old.input old.ended more _ m h.0)
follows (Err f) old new h more m =
    elim h [
      | inl e ↦ inl e
      | inr e ↦ inr (verdict-is old.progress (grown more old.input) ∙ ap (go_on verdict_from) (later_fault old.progress old.input old.ended more f m e.0))
    ]

-- ---- what is left, and what has come

pub lowers : (result : Result Next StreamFault) (old new : Reading) → TellsNext result old new → OnCommand result (left new < left old)
lowers (Ok (nexts.Command p)) old new h = subst (CommandLowers old.progress old.input) h.0 (command_lowers old.progress old.ended old.input)
lowers (Ok nexts.More) old new h = tt
lowers (Ok nexts.Ended) old new h = tt
lowers (Err f) old new h = tt

within : (p : Progress) (i : Input) (ended : Bool) (w : Wanted) → read_command p ended i ≡ Err (More w) → i.at + length i.rest ≤ STREAM_BYTES
within p i false w e = ((command-reader p).waits i w e).few
within p i true w e = absurd (subst IsTold e ((command-reader p).told i))

pub more_within : (result : Result Next StreamFault) (old new : Reading) → TellsNext result old new → OnMore result (came old ≤ STREAM_BYTES)
more_within (Ok (nexts.Command p)) old new h = tt
more_within (Ok nexts.More) old new h = within old.progress old.input old.ended h.0.0 h.0.1
more_within (Ok nexts.Ended) old new h = tt
more_within (Err f) old new h = tt

read_along : (p : Progress) (i : Input) (ended : Bool) (x : Told × Input) → read_command p ended i ≡ Ok x → x.1.at + length x.1.rest ≡ i.at + length i.rest
read_along p i ended x e = came_along i x.1 (subst (Steps i) e ((command-reader p).steps ended i))

pub came_same : (result : Result Next StreamFault) (old new : Reading) → TellsNext result old new → OnOk result (came new ≡ came old)
came_same (Ok (nexts.Command p)) old new h = read_along old.progress old.input old.ended _ h.0
came_same (Ok nexts.More) old new h = h.1.came
came_same (Ok nexts.Ended) old new h = read_along old.progress old.input old.ended _ h.0
came_same (Err f) old new h = tt

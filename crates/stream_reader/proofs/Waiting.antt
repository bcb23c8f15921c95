-- What a reader waits for.
use Rattle.std.proofs.Common.{◌≡◌, Bool, true, false, [], ◌++◌, length, Option, Some, None, Ok, Err, refl, sym, ap, ◌∙◌, arith, subst, length-append}
use Rattle.std.specs.Prelude.{IfSome}
use Rattle.std.specs.Option.{is_some}
use Rattle.git_objects.specs.Paths.{Bytes}
use Rattle.stream_lex.specs.declared.stop.Wanted.{Wanted}
use Rattle.stream_lex.specs.declared.stop.Wanted.TheVariants as wants
use Rattle.stream_lex.specs.declared.stop.Stop.TheVariants.{More, Fault}
use Rattle.stream_lex.specs.Lines.{Input, Lex, line_at, block_at}
use Rattle.stream_lex.specs.Lexing.{Lexed}
use Rattle.stream_lex.specs.Cutting.{grown, IsTold, place, from_place, more_of, still_wanted, StillWants}
use Rattle.stream_lex.proofs.Passing.{grown_none, grown_twice}
use Rattle.stream_lex.proofs.Waiting.{line_at-reader, block_at-reader}
use Rattle.stream_reader.specs.declared.progress.Progress.{Progress}
use Rattle.stream_reader.specs.Commands.{turn}
use Rattle.stream_reader.specs.Readers.{Reading, reading, WaitsFor, IsWaiting, wanted_now, IsPlace}
use Rattle.stream_reader.proofs.Turning.{turn-reader}

-- a place that is waited for is one of what the lexer holds
pub waits_place : (o : Option Wanted) (p : Progress) (l : Lexed) → IsWaiting o (reading p l) → IfSome o (λ w. IsPlace l (place w))
waits_place None p l h = tt
waits_place (Some w) p l h = record { within = h.within; from = h.from; room = h.room }

more_is : {A : Type 0} (r : Lex A) (v : Wanted) → more_of r ≡ Some v → r ≡ Err (More v)
more_is (Ok x) v e = let no : ⊥ = cc in absurd no
more_is (Err (More u)) v e = let same : u ≡ v = cc in ap (λ w. Err (More w)) same
more_is (Err (Fault f)) v e = let no : ⊥ = cc in absurd no

not_more : {A : Type 0} (r : Lex A) (v : Wanted) → IsTold r → ¬ (more_of r ≡ Some v)
not_more (Ok x) v t e = cc
not_more (Err (More u)) v t e = t
not_more (Err (Fault f)) v t e = cc

-- what is still wanted isn't there yet, and more may come
pub wanted_told : (w : Wanted) (ended : Bool) (i : Input) (v : Wanted) → still_wanted w ended i ≡ Some v → (ended ≡ false) × StillWants w i v
wanted_told (wants.Line at) false i v e = (refl, more_is (line_at false (from_place at i)) v e)
wanted_told (wants.Line at) true i v e = absurd (not_more (line_at true (from_place at i)) v (line_at-reader.told (from_place at i)) e)
wanted_told (wants.Block at n) false i v e = (refl, more_is (block_at n false (from_place at i)) v e)
wanted_told (wants.Block at n) true i v e = absurd (not_more (block_at n true (from_place at i)) v ((block_at-reader n).told (from_place at i)) e)

-- where a reader waits, more must come
pub waits_now : (o : Option Wanted) (p : Progress) (l : Lexed) (v : Wanted) → IsWaiting o (reading p l) → wanted_now o l ≡ Some v →
    (l.ended ≡ false) × (turn p l.ended l.input ≡ Err (More v))
waits_now None p l v h e = let no : ⊥ = cc in absurd no
waits_now (Some w) p l v h e =
    let t = wanted_told w l.ended l.input v e in (
      t.0,
      (λ k. turn p (t.0 k) (sym (grown_none l.input) k))
          ∙ h.still [] v (subst (λ i. StillWants w i v) (sym (grown_none l.input)) t.1),
    )

-- what more must come for is waited for
waits_before : (a : Reading) (v : Wanted) → turn a.progress false a.input ≡ Err (More v) → WaitsFor a v
waits_before a v e =
    let u = (turn-reader a.progress).waits a.input v e in
    record { from = u.from; room = u.room; within = omega (arith, u.room, u.few); still = u.still }

waits_here : (a : Reading) (v : Wanted) (ended : Bool) → turn a.progress ended a.input ≡ Err (More v) → WaitsFor a v
waits_here a v false e = waits_before a v e
waits_here a v true e = absurd (subst IsTold e ((turn-reader a.progress).told a.input))

pub waits_told : (a b : Reading) (v : Wanted) → turn a.progress a.ended a.input ≡ Err (More v) → b ≡ a → WaitsFor b v
waits_told a b v e same = subst (λ r. WaitsFor r v) (sym same) (waits_here a v a.ended e)

-- what is waited for still
pub still_waiting : (o r : Option Wanted) (p : Progress) (l : Lexed) → IsWaiting o (reading p l) → r ≡ wanted_now o l → is_some r ≡ true →
    ((v : Wanted) × (turn p l.ended l.input ≡ Err (More v))) × IsWaiting r (reading p l)
still_waiting o None p l h e s = let no : ⊥ = cc in absurd no
still_waiting o (Some v) p l h e s =
    let t = waits_now o p l v h (sym e) in ((v, t.1), waits_here (reading p l) v l.ended t.1)

-- what was waited for is waited for where more was fed
pub waits_fed : (o : Option Wanted) (p : Progress) (l m : Lexed) (more : Bytes) → m.input ≡ grown more l.input → IsWaiting o (reading p l) → IsWaiting o (reading p m)
waits_fed None p l m more e h = tt
waits_fed (Some w) p l m more e h = record {
  from = omega (arith, h.from, ap (λ (i : Input). i.at) e);
  room = omega (arith, h.room, ap (λ (i : Input). i.at) e, ap (λ (i : Input). length i.rest) e, length-append l.input.rest more);
  within = h.within;
  still = λ after v a.
      let same : grown after m.input ≡ grown (more ++ after) l.input = ap (grown after) e ∙ grown_twice more after l.input in
      ap (turn p false) same ∙ h.still (more ++ after) v (subst (λ i. StillWants w i v) same a);
}

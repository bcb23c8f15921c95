-- What is made of lines and blocks is read by readers.
use Rattle.std.proofs.Common.{◌≡◌, ℕ, Bool, true, false, Option, Some, None, Result, Ok, Err, refl, ap, subst}
use Rattle.git_objects.specs.Paths.{Bytes}
use Rattle.git_objects.specs.CommitBodies.{strip}
use Rattle.git_objects.specs.Results.{◌>>=◌}
use Rattle.stream_lex.specs.declared.stop.Stop.{Stop}
use Rattle.stream_lex.specs.declared.stop.Wanted.{Wanted}
use Rattle.stream_lex.specs.declared.stop.Stop.TheVariants as stops
use Rattle.stream_lex.specs.declared.stop.LimitFault.{LimitFault}
use Rattle.stream_lex.specs.declared.stop.LimitFault.TheVariants.{LongLine, StreamTooLong}
use Rattle.stream_lex.specs.Lines.{Input, Line, Lex, line_at, block_at}
use Rattle.stream_lex.specs.Cutting as readers
use Rattle.stream_lex.specs.Cutting.{grown, Agrees, Advances, Steps, IsTold, WaitsOn, IsReader}
use Rattle.stream_lex.proofs.Combining.{stays, bind_agrees, bind_told, bind_waits, waits_as}
use Rattle.stream_lex.proofs.Waiting.{line_at-reader, block_at-reader}
use Rattle.stream_reader.specs.Reading.{Read, Reader, lifted, line_text, line_behind, option_line, must, need_line}
use Rattle.stream_reader.specs.Blocks.{block_in, whole_block}

-- ---- lines and blocks

lifted_agrees : {A : Type 0} (more : Bytes) (r s : Lex A) → Agrees more r s → Agrees more (lifted r) (lifted s)
lifted_agrees more (Ok x) s a = ap lifted a
lifted_agrees more (Err (stops.More w)) s a = tt
lifted_agrees more (Err (stops.Fault (LongLine at))) s a = ap lifted a
lifted_agrees more (Err (stops.Fault StreamTooLong)) s a = ap lifted a

lifted_told : {A : Type 0} (r : Result A (Stop LimitFault)) → IsTold r → IsTold (lifted r)
lifted_told (Ok x) h = tt
lifted_told (Err (stops.More w)) h = h
lifted_told (Err (stops.Fault (LongLine at))) h = tt
lifted_told (Err (stops.Fault StreamTooLong)) h = tt

lifted_steps : {A : Type 0} (i : Input) (r : Lex A) → Steps i r → Steps i (lifted r)
lifted_steps i (Ok x) h = h
lifted_steps i (Err e) h = tt

lifted_more : {A : Type 0} (r : Lex A) (v : Wanted) → lifted r ≡ Err (stops.More v) → r ≡ Err (stops.More v)
lifted_more (Ok x) v e = let no : ⊥ = cc in absurd no
lifted_more (Err (stops.More u)) v e = let same : u ≡ v = cc in ap (λ w. Err (stops.More w)) same
lifted_more (Err (stops.Fault (LongLine at))) v e = let no : ⊥ = cc in absurd no
lifted_more (Err (stops.Fault StreamTooLong)) v e = let no : ⊥ = cc in absurd no

-- what is made of what a reader of lines and blocks gives waits for what this reader waits for
lifted_waits : {A : Type 0} (f : readers.Reader LimitFault A) → IsReader f → (i : Input) (v : Wanted) → lifted (f false i) ≡ Err (stops.More v) → WaitsOn (λ more. lifted (f false (grown more i))) i v
lifted_waits f h i v e =
    waits_as (λ more. f false (grown more i)) (λ more. lifted (f false (grown more i))) i v (λ more u a. ap lifted a) (h.waits i v (lifted_more (f false i) v e))

-- what is made of the next line, of what stands before it and of what stands behind it
abbrev pub OfLine : Type 0 → Type 0
OfLine A = Bool → Input → Option Line × Input → Read A

pub record IsOfLine {A : Type 0} (f : OfLine A) : Type 0 where
  pub settles : (ended : Bool) (more : Bytes) (i : Input) (o : Option Line) (j : Input) → Agrees more (f false i (o, j)) (f ended (grown more i) (o, grown more j))
  pub steps : (ended : Bool) (i : Input) (o : Option Line) (j : Input) → Advances i j → Steps i (f ended i (o, j))
  pub told : (i : Input) (o : Option Line) (j : Input) → IsTold (f true i (o, j))
  pub waits : (i : Input) (o : Option Line) (j : Input) → Advances i j → (w : Wanted) → f false i (o, j) ≡ Err (stops.More w) → WaitsOn (λ more. f false (grown more i) (o, grown more j)) i w

abbrev pub on_line : {A : Type 0} → OfLine A → Reader A
on_line f ended i = lifted (line_at ended i) >>= f ended i

line_steps : {A : Type 0} (f : OfLine A) → IsOfLine f → (ended : Bool) (i : Input) (r : Lex (Option Line)) → Steps i r → Steps i (lifted r >>= f ended i)
line_steps f h ended i (Ok x) s = h.steps ended i x.0 x.1 s
line_steps f h ended i (Err e) s = tt

pub line-reader : {A : Type 0} (f : OfLine A) → IsOfLine f → IsReader (on_line f)
line-reader f h = record {
  settles = λ e more i.
      bind_agrees more (lifted (line_at false i)) (lifted (line_at e (grown more i))) (f false i) (f e (grown more i))
      (lifted_agrees more (line_at false i) (line_at e (grown more i)) (line_at-reader.settles e more i)) (λ o j. h.settles e more i o j);
  steps = λ e i. line_steps f h e i (line_at e i) (line_at-reader.steps e i);
  told = λ i. bind_told (lifted (line_at true i)) (f true i) (lifted_told (line_at true i) (line_at-reader.told i)) (λ x. h.told i x.0 x.1);
  waits = λ i w. bind_waits i w (lifted (line_at false i)) (λ more. lifted (line_at false (grown more i))) (f false i) (λ more. f false (grown more i))
      (λ more. lifted_agrees more (line_at false i) (line_at false (grown more i)) (line_at-reader.settles false more i)) (lifted_waits line_at line_at-reader i)
      (λ o j p e. h.waits i o j (subst (Steps i) p (lifted_steps i (line_at false i) (line_at-reader.steps false i))) w e);
}

text_agrees : (more : Bytes) (l : Line) (i j : Input) (o : Option Bytes) → Agrees more (line_text l i o j) (line_text l (grown more i) o (grown more j))
text_agrees more l i j None = refl
text_agrees more l i j (Some t) = refl

text_steps : (l : Line) (i j : Input) (o : Option Bytes) → Advances i j → Steps i (line_text l i o j)
text_steps l i j None h = stays i
text_steps l i j (Some t) h = h

text_told : (l : Line) (i j : Input) (o : Option Bytes) → IsTold (line_text l i o j)
text_told l i j None = tt
text_told l i j (Some t) = tt

behind_agrees : (word more : Bytes) (i : Input) (o : Option Line) (j : Input) → Agrees more (line_behind word i (o, j)) (line_behind word (grown more i) (o, grown more j))
behind_agrees word more i None j = refl
behind_agrees word more i (Some l) j = text_agrees more l i j (strip word l.bytes)

behind_steps : (word : Bytes) (i : Input) (o : Option Line) (j : Input) → Advances i j → Steps i (line_behind word i (o, j))
behind_steps word i None j h = stays i
behind_steps word i (Some l) j h = text_steps l i j (strip word l.bytes) h

behind_told : (word : Bytes) (i : Input) (o : Option Line) (j : Input) → IsTold (line_behind word i (o, j))
behind_told word i None j = tt
behind_told word i (Some l) j = text_told l i j (strip word l.bytes)

text_never : (l : Line) (i j : Input) (o : Option Bytes) (w : Wanted) → ¬ (line_text l i o j ≡ Err (stops.More w))
text_never l i j None w e = cc
text_never l i j (Some t) w e = cc

behind_never : (word : Bytes) (i : Input) (o : Option Line) (j : Input) (w : Wanted) → ¬ (line_behind word i (o, j) ≡ Err (stops.More w))
behind_never word i None j w e = cc
behind_never word i (Some l) j w e = text_never l i j (strip word l.bytes) w e

pub option_line-reader : (word : Bytes) → IsReader (option_line word)
unfolding option_line
option_line-reader word = line-reader (λ ended. line_behind word) (record {
  settles = λ e more i o j. behind_agrees word more i o j;
  steps = λ e i o j h. behind_steps word i o j h;
  told = λ i o j. behind_told word i o j;
  waits = λ i o j s w e. absurd (behind_never word i o j w e);
})

must_agrees : (more : Bytes) (o : Option Line) (j : Input) → Agrees more (must (o, j)) (must (o, grown more j))
must_agrees more None j = refl
must_agrees more (Some l) j = refl

must_steps : (i : Input) (o : Option Line) (j : Input) → Advances i j → Steps i (must (o, j))
must_steps i None j h = tt
must_steps i (Some l) j h = h

must_told : (o : Option Line) (j : Input) → IsTold (must (o, j))
must_told None j = tt
must_told (Some l) j = tt

must_never : (o : Option Line) (j : Input) (w : Wanted) → ¬ (must (o, j) ≡ Err (stops.More w))
must_never None j w e = cc
must_never (Some l) j w e = cc

pub need_line-reader : IsReader need_line
unfolding need_line
need_line-reader = line-reader (λ ended i. must) (record {
  settles = λ e more i o j. must_agrees more o j;
  steps = λ e i o j h. must_steps i o j h;
  told = λ i o j. must_told o j;
  waits = λ i o j s w e. absurd (must_never o j w e);
})

block_agrees : (at : ℕ) (more : Bytes) (o : Option Bytes) (j : Input) → Agrees more (block_in at (o, j)) (block_in at (o, grown more j))
block_agrees at more None j = refl
block_agrees at more (Some b) j = refl

block_steps : (at : ℕ) (i : Input) (r : Lex (Option Bytes)) → Steps i r → Steps i (lifted r >>= block_in at)
block_steps at i (Ok (None, j)) h = tt
block_steps at i (Ok (Some b, j)) h = h
block_steps at i (Err e) h = tt

block_told : (at : ℕ) (o : Option Bytes) (j : Input) → IsTold (block_in at (o, j))
block_told at None j = tt
block_told at (Some b) j = tt

block_never : (at : ℕ) (o : Option Bytes) (j : Input) (w : Wanted) → ¬ (block_in at (o, j) ≡ Err (stops.More w))
block_never at None j w e = cc
block_never at (Some b) j w e = cc

pub whole_block-reader : (at n : ℕ) → IsReader (whole_block at n)
whole_block-reader at n = record {
  settles = λ e more i.
      bind_agrees more (lifted (block_at n false i)) (lifted (block_at n e (grown more i))) (block_in at) (block_in at)
      (lifted_agrees more (block_at n false i) (block_at n e (grown more i)) ((block_at-reader n).settles e more i)) (λ o j. block_agrees at more o j);
  steps = λ e i. block_steps at i (block_at n e i) ((block_at-reader n).steps e i);
  told = λ i. bind_told (lifted (block_at n true i)) (block_in at) (lifted_told (block_at n true i) ((block_at-reader n).told i)) (λ x. block_told at x.0 x.1);
  waits = λ i w. bind_waits i w (lifted (block_at n false i)) (λ more. lifted (block_at n false (grown more i))) (block_in at) (λ more. block_in at)
      (λ more. lifted_agrees more (block_at n false i) (block_at n false (grown more i)) ((block_at-reader n).settles false more i)) (lifted_waits (block_at n) (block_at-reader n) i)
      (λ o j p e. absurd (block_never at o j w e));
}

-- A stream so far: what its reader has told, and what came of it.
use Rattle.std.proofs.Common.{◌≡◌, inl, inr, ◌+◌, ◌≤◌, ℕ, true, false, List, [], ◌∷◌, ◌++◌, length, Option, Some, Result, Ok, Err, refl, sym, ap, subst, ◌∙◌, append_assoc, append-nil, arith, length-append}
use Rattle.std.specs.Prelude.{IsOkAnd, nat_lt}
use Rattle.std.specs.Io.KnownBytes.{Consumes, IsAtEnd}
use Rattle.std.proofs.KnownBytes.{Consumes-nil, Consumes-trans}
use Rattle.std.proofs.lemmas.List.Folds.{list_all-append}
use Rattle.git_objects.specs.Paths.{Bytes, is_bytes}
use Rattle.git_objects.specs.Refs.{Refs}
use Rattle.git_objects.specs.Results.{◌>>=◌}
use Rattle.git_objects.proofs.Basics.{and_both}
use Rattle.object_store.specs.Growth.{IsGrownBy}
use Rattle.object_store.specs.Objects.{Object, IsStore}
use Rattle.object_store.proofs.Growth.{grown_as, grown_self, grown_then}
use Rattle.stream_lex.specs.Lines.{Input}
use Rattle.stream_lex.proofs.Passing.{grown_twice}
use Rattle.fast_import.specs.Bases.{IsBaseIn, base_in}
use Rattle.fast_import.specs.Made.{IsMadeAt, IsMadeBy, IsMadeOn}
use Rattle.stream_lex.specs.Cutting.{grown}
use Rattle.stream_reader.specs.Readers.{IsBefore, MayFollow, Reading, came, next_command, verdict_with}
use Rattle.stream_reader.specs.Waited.{IsNear}
use Rattle.stream_reader.proofs.Following.{later_told}
use Rattle.fast_import.specs.Replays.{Base, Ran, Replay, also_tried, gone_on, nothing_yet, ran_by, step}
use Rattle.fast_import.specs.Replaying.{Replaying}
use Rattle.fast_import.specs.Standing.{IsReplayOf, IsStepped}
use Rattle.stream_reader.specs.Verdicts.{Verdict, verdict, with_command}
use Rattle.fast_import.specs.Waited.{waited_in, waited_from, waited_on, waited_told}
use Rattle.fast_import.specs.Whole.{IsFed}
use Rattle.fast_import.proofs.Growing.{base-grown, is_base-grown}
use Rattle.fast_import.proofs.Taking.{next_near, waited-is}
use Rattle.stream_reader.specs.declared.command.Placed.{Placed}
use Rattle.stream_reader.specs.declared.progress.Progress.{Progress}
use Rattle.stream_reader.specs.declared.fault.StreamFault.{StreamFault}

-- ---- commands in a row

-- what one command makes of a replay
abbrev pub Step : Type 0 → Type 0
Step F = Replay → Placed → Result Replay F

-- behind these commands, where none is refused
abbrev pub after_by : {F : Type 0} → Step F → Replay → List Placed → Result Replay F
after_by one r [] = Ok r
after_by one r (p ∷ ps) = one r p >>= λ s. after_by one s ps

abbrev pub after_all : Base → Replay → List Placed → Result Replay StreamFault
after_all base r ps = after_by (step base) r ps

abbrev pub with_all : List Placed → Verdict → Verdict
with_all cs v = record { commands = cs ++ v.commands; fault = v.fault }

-- a run that goes on behind these commands
pub record IsRunTo {F : Type 0} (y : Ran F) (ps : List Placed) (z : Ran F) : Type 0 where
  pub all_tried : y.tried ≡ ps ++ z.tried
  pub same_state : y.state ≡ z.state
  pub same_fault : y.fault ≡ z.fault

module _ {F : Type 0} (one : Step F) where
  pub after-push : (r s : Replay) (ps : List Placed) (p : Placed) → after_by one r ps ≡ Ok s → after_by one r (ps ++ p ∷ []) ≡ one s p
  after-push r s [] p e = let same : r ≡ s = cc in last (one r p) ∙ ap (λ (x : Replay). one x p) same
    where
      last : (x : Result Replay F) → (x >>= λ t. Ok t) ≡ x
      last (Ok t) = refl
      last (Err f) = refl
  after-push r s (q ∷ ps) p e = by (one r q) (λ t. after-push t s ps p) e
    where
      by : (x : Result Replay F) → ((t : Replay) → after_by one t ps ≡ Ok s → after_by one t (ps ++ p ∷ []) ≡ one s p)
          → (x >>= λ t. after_by one t ps) ≡ Ok s → (x >>= λ t. after_by one t (ps ++ p ∷ [])) ≡ one s p
      by (Ok t) next g = next t g
      by (Err f) next g = absurd cc

  run_same : (y z : Ran F) → y ≡ z → IsRunTo y [] z
  run_same y z e = record { all_tried = ap (λ (x : Ran F). x.tried) e; same_state = ap (λ (x : Ran F). x.state) e; same_fault = ap (λ (x : Ran F). x.fault) e }

  run_more : (p : Placed) (y : Ran F) (ps : List Placed) (z : Ran F) → IsRunTo y ps z → IsRunTo (also_tried p y) (p ∷ ps) z
  run_more p y ps z h = record { all_tried = ap (λ (xs : List Placed). p ∷ xs) h.all_tried; same_state = h.same_state; same_fault = h.same_fault }

  run_gone : (end : Option F) (r s : Replay) (p : Placed) (ps qs : List Placed) (x : Result Replay F) → ((t : Replay) → after_by one t ps ≡ Ok s → IsRunTo (ran_by one end t (ps ++ qs)) ps (ran_by one end s qs))
      → (x >>= λ t. after_by one t ps) ≡ Ok s → IsRunTo (gone_on p r (λ t. ran_by one end t (ps ++ qs)) x) (p ∷ ps) (ran_by one end s qs)
  run_gone end r s p ps qs (Ok t) next g = run_more p (ran_by one end t (ps ++ qs)) ps (ran_by one end s qs) (next t g)
  run_gone end r s p ps qs (Err f) next g = absurd cc

  pub run-on : (end : Option F) (r s : Replay) (ps qs : List Placed) → after_by one r ps ≡ Ok s → IsRunTo (ran_by one end r (ps ++ qs)) ps (ran_by one end s qs)
  run-on end r s [] qs e = let same : r ≡ s = cc in run_same (ran_by one end r qs) (ran_by one end s qs) (ap (λ (x : Replay). ran_by one end x qs) same)
  run-on end r s (p ∷ ps) qs e = run_gone end r s p ps qs (one r p) (λ t. run-on end t s ps qs) e

-- what commands bring, in front of others and behind others
pub made-front : (base : Base) (r : Replay) (ps qs : List Placed) (o : Object) → IsMadeBy base r ps o → IsMadeBy base r (ps ++ qs) o
made-front base r [] qs o h = absurd h
made-front base r (p ∷ ps) qs o (inl h) = inl h
made-front base r (p ∷ ps) qs o (inr h) = inr (by (step base r p) (λ s. made-front base s ps qs o) h)
  where
    by : (x : Result Replay StreamFault) → ((s : Replay) → IsMadeBy base s ps o → IsMadeBy base s (ps ++ qs) o) → IsMadeOn (λ s. IsMadeBy base s ps o) x → IsMadeOn (λ s. IsMadeBy base s (ps ++ qs) o) x
    by (Ok s) next k = next s k
    by (Err f) next k = absurd k

pub made-behind : (base : Base) (r s : Replay) (ps : List Placed) (p : Placed) (qs : List Placed) (o : Object) → after_all base r ps ≡ Ok s → IsMadeAt s p.command o → IsMadeBy base r (ps ++ p ∷ qs) o
made-behind base r s [] p qs o e h = let same : r ≡ s = cc in inl (subst (λ (x : Replay). IsMadeAt x p.command o) (sym same) h)
made-behind base r s (q ∷ ps) p qs o e h = inr (by (step base r q) (λ t g. made-behind base t s ps p qs o g h) e)
  where
    by : (x : Result Replay StreamFault) → ((t : Replay) → after_all base t ps ≡ Ok s → IsMadeBy base t (ps ++ p ∷ qs) o) → (x >>= λ t. after_all base t ps) ≡ Ok s → IsMadeOn (λ t. IsMadeBy base t (ps ++ p ∷ qs) o) x
    by (Ok t) next g = next t g
    by (Err f) next g = absurd cc

-- ---- a stream so far

-- up to which place is read of what is left, where more follows and then the end
abbrev pub waited_with : Base → Replay → Reading → Bytes → ℕ
waited_with base r rd more = waited_from (step base) r rd.progress (grown more rd.input)

-- S and before are the store and what the source had at first; T, now, rd and v are the store, the source, the reader and the
-- replay as they are.
pub record IsSoFar (begins : Progress) (base : Base) (S T : List Object) (before now : Option Bytes) (rd : Reading) (v : Replaying) : Type 0 where
  pub taken : Bytes
  pub are_bytes : is_bytes taken ≡ true
  pub gone : Consumes before now taken
  pub told : List Placed
  pub state : Replay
  pub run : after_all base nothing_yet told ≡ Ok state
  pub stands : IsReplayOf T v state
  pub same : (more : Bytes) → MayFollow rd more true → verdict begins (taken ++ more) ≡ with_all told (verdict_with more rd)
  pub grown : IsGrownBy (IsMadeBy base nothing_yet told) S T
  pub at_end : rd.ended ≡ true → IsAtEnd now
  pub came : came rd ≡ length taken
  pub waited : (more : Bytes) → MayFollow rd more true → waited_in begins base (taken ++ more) ≡ waited_with base state rd more
  pub near : (more : Bytes) → MayFollow rd more true → length taken ≤ waited_with base state rd more + 33488896

-- what was there before the stream is there still
pub is_base-so_far : (begins : Progress) (base : Base) (S T : List Object) (before now : Option Bytes) (rd : Reading) (v : Replaying) → IsSoFar begins base S T before now rd v → (commits : List (Bytes × Bytes)) (refs : Refs) (blobs : List Bytes) → IsBaseIn S commits refs blobs → IsBaseIn T commits refs blobs
is_base-so_far begins base S T before now rd v h commits refs blobs b = is_base-grown {made = IsMadeBy base nothing_yet h.told} S T h.grown commits refs blobs b

pub stepped_so_far : (begins : Progress) (S T : List Object) (before now : Option Bytes) (rd : Reading) (v : Replaying) (commits : List (Bytes × Bytes)) (refs : Refs) (blobs : List Bytes) → IsBaseIn S commits refs blobs → (h : IsSoFar begins (base_in S commits refs blobs) S T before now rd v)
    → (R : List Object) (w : Replaying) (p : Placed) (result : Result Unit StreamFault) → IsStepped (base_in T commits refs blobs) T R w h.state p result → IsStepped (base_in S commits refs blobs) T R w h.state p result
stepped_so_far begins S T before now rd v commits refs blobs b h R w p result k =
    subst (λ (x : Base). IsStepped x T R w h.state p result) (base-grown {made = IsMadeBy (base_in S commits refs blobs) nothing_yet h.told} S T h.grown commits refs blobs b) k

pub nothing_so_far : (begins : Progress) (base : Base) (S : List Object) (before : Option Bytes) (v : Replaying) → IsStore S → IsReplayOf S v nothing_yet → IsSoFar begins base S S before before (record { progress = begins; input = record { at = 0; rest = [] }; ended = false }) v
nothing_so_far begins base S before v s h = record {
  taken = [];
  are_bytes = refl;
  gone = Consumes-nil before;
  told = [];
  state = nothing_yet;
  run = refl;
  stands = h;
  same = λ more m. refl;
  grown = grown_self (IsMadeBy base nothing_yet []) S s;
  at_end = λ e. cc;
  came = refl;
  waited = λ more m. refl;
  near = λ more m. omega arith;
}

module _ (begins : Progress) (base : Base) (S T : List Object) (before now : Option Bytes) (old new : Reading) (v : Replaying) (h : IsSoFar begins base S T before now old v) where
  -- what follows behind the reading may have followed before it
  may_before : new.ended ≡ old.ended → (more : Bytes) → MayFollow new more true → MayFollow old more true
  may_before e more m q = m (e ∙ q)

  -- ---- a command that is carried out

  module _ (p : Placed) (told : next_command old ≡ Ok (record { command = Some p; progress = new.progress }, new.input)) (ended : new.ended ≡ old.ended) (came_same : came new ≡ came old) (follows : (more : Bytes) → MayFollow old more true → verdict_with more old ≡ with_command p (verdict_with more new)) where
    split : (more : Bytes) → MayFollow new more true → verdict begins (h.taken ++ more) ≡ with_all (h.told ++ p ∷ []) (verdict_with more new)
    split more m =
        h.same more (may_before ended more m)
        ∙ ap (with_all h.told) (follows more (may_before ended more m))
        ∙ ap (λ (cs : List Placed). record { commands = cs; fault = (verdict_with more new).fault }) (sym (append_assoc h.told (p ∷ []) (verdict_with more new).commands))

    -- what is left is read up to the same place
    waited_new : (s : Replay) → step base h.state p ≡ Ok s → (more : Bytes) → MayFollow new more true → waited_with base h.state old more ≡ waited_with base s new more
    waited_new s q more m =
        waited-is (step base) h.state old.progress (grown more old.input)
        ∙ ap (waited_told (waited_from (step base)) (step base) h.state)
        (later_told old.progress old.input old.ended more (record { command = Some p; progress = new.progress }, new.input) (may_before ended more m) told)
        ∙ ap (waited_on (waited_from (step base)) new.progress (grown more new.input)) q

    pub one_more : (R : List Object) (w : Replaying) → IsStepped base T R w h.state p (Ok tt) → IsSoFar begins base S R before now new w
    one_more R w k = by (step base h.state p) refl k.done
      where
        by : (x : Result Replay StreamFault) → step base h.state p ≡ x → IsOkAnd (step base h.state p) (IsReplayOf R w) → IsSoFar begins base S R before now new w
        by (Err f) q d = absurd (subst (λ (y : Result Replay StreamFault). IsOkAnd y (IsReplayOf R w)) q d)
        by (Ok s) q d = record {
          taken = h.taken;
          are_bytes = h.are_bytes;
          gone = h.gone;
          told = h.told ++ p ∷ [];
          state = s;
          run = after-push (step base) nothing_yet h.state h.told p h.run ∙ q;
          stands = subst (λ (y : Result Replay StreamFault). IsOkAnd y (IsReplayOf R w)) q d;
          same = split;
          grown = grown_then (IsMadeBy base nothing_yet (h.told ++ p ∷ [])) S T R
              (grown_as (IsMadeBy base nothing_yet h.told) (IsMadeBy base nothing_yet (h.told ++ p ∷ [])) S T (made-front base nothing_yet h.told (p ∷ [])) h.grown)
              (grown_as (IsMadeAt h.state p.command) (IsMadeBy base nothing_yet (h.told ++ p ∷ [])) T R (λ o m. made-behind base nothing_yet h.state h.told p [] o h.run m) k.grown);
          at_end = λ e. h.at_end (sym ended ∙ e);
          came = came_same ∙ h.came;
          waited = λ more m. h.waited more (may_before ended more m) ∙ waited_new s q more m;
          near = λ more m. subst (λ n. length h.taken ≤ n + 33488896) (waited_new s q more m) (h.near more (may_before ended more m));
        }

  -- ---- more of the stream

  -- where nothing was told
  waited_still : IsBefore old new → (more : Bytes) → MayFollow new more true → waited_with base h.state old more ≡ waited_with base h.state new more
  waited_still b more m =
      waited-is (step base) h.state old.progress (grown more old.input)
      ∙ ap (waited_told (waited_from (step base)) (step base) h.state) (b.same true more (may_before b.ended more m))
      ∙ sym (waited-is (step base) h.state new.progress (grown more new.input))

  waiting : IsBefore old new → ((more : Bytes) → MayFollow old more true → verdict_with more old ≡ verdict_with more new) → IsSoFar begins base S T before now new v
  waiting b follows = let ended = b.ended in record {
    taken = h.taken;
    are_bytes = h.are_bytes;
    gone = h.gone;
    told = h.told;
    state = h.state;
    run = h.run;
    stands = h.stands;
    same = λ more m. h.same more (may_before ended more m) ∙ ap (with_all h.told) (follows more (may_before ended more m));
    grown = h.grown;
    at_end = λ e. h.at_end (sym ended ∙ e);
    came = b.came ∙ h.came;
    waited = λ more m. h.waited more (may_before ended more m) ∙ waited_still b more m;
    near = λ more m. subst (λ n. length h.taken ≤ n + 33488896) (waited_still b more m) (h.near more (may_before ended more m));
  }

  -- where more is waited for, little has come
  waiting_near : IsBefore old new → IsNear old → (more : Bytes) → MayFollow new more true → length h.taken ≤ waited_with base h.state new more + 16908290
  waiting_near b n more m =
      subst (λ k. length h.taken ≤ k + 16908290) (waited_still b more m)
      (omega (arith, h.came, n more, next_near (step base) h.state old.progress (grown more old.input)))

-- bytes behind bytes
pub both_bytes : (a b : Bytes) → is_bytes a ≡ true → is_bytes b ≡ true → is_bytes (a ++ b) ≡ true
both_bytes a b h k = list_all-append (λ x. nat_lt x 256) a b ∙ and_both h k

fed_more : (begins : Progress) (base : Base) (S T : List Object) (before now later : Option Bytes) (rd new : Reading) (v : Replaying) (most : ℕ) → most ≤ 65536 → rd.ended ≡ false → (h : IsSoFar begins base S T before now rd v) →
    ((more : Bytes) → MayFollow rd more true → length h.taken ≤ waited_with base h.state rd more + 16908290) → IsFed now later rd new most → IsSoFar begins base S T before later new v
fed_more begins base S T before now later rd new v most few un h n (inl p) = record {
  taken = h.taken ++ p.bytes;
  are_bytes = both_bytes h.taken p.bytes h.are_bytes p.are_bytes;
  gone = Consumes-trans before now later h.taken p.bytes h.gone p.taken;
  told = h.told;
  state = h.state;
  run = h.run;
  stands = h.stands;
  same = λ more m.
      ap (verdict begins) (append_assoc h.taken p.bytes more)
      ∙ h.same (p.bytes ++ more) (λ e. cc)
      ∙ ap (λ (i : Input). with_all h.told (Rattle.stream_reader.specs.Verdicts.verdict_from rd.progress i)) (sym (grown_twice p.bytes more rd.input))
      ∙ ap (λ (r : Reading). with_all h.told (verdict_with more r)) (sym p.now);
  grown = h.grown;
  at_end = λ e. let no : false ≡ true = ap (λ (r : Reading). r.ended) (sym p.now) ∙ e in cc;
  came = omega (arith, ap came p.now, h.came, length-append rd.input.rest p.bytes, length-append h.taken p.bytes);
  waited = λ more m. ap (waited_in begins base) (append_assoc h.taken p.bytes more) ∙ h.waited (p.bytes ++ more) (λ e. cc) ∙ fed_waited more;
  near = λ more m. subst (λ k. length (h.taken ++ p.bytes) ≤ k + 33488896) (fed_waited more) (omega (arith, n (p.bytes ++ more) (λ e. cc), few, p.few, length-append h.taken p.bytes));
}
  where
    fed_waited : (more : Bytes) → waited_with base h.state rd (p.bytes ++ more) ≡ waited_with base h.state new more
    fed_waited more =
        ap (λ (i : Input). waited_from (step base) h.state rd.progress i) (sym (grown_twice p.bytes more rd.input))
        ∙ ap (λ (r : Reading). waited_with base h.state r more) (sym p.now)
fed_more begins base S T before now later rd new v most few un h n (inr p) = record {
  taken = h.taken;
  are_bytes = h.are_bytes;
  gone = subst (Consumes before later) (append-nil h.taken) (Consumes-trans before now later h.taken [] h.gone p.none);
  told = h.told;
  state = h.state;
  run = h.run;
  stands = h.stands;
  same = λ more m. h.same more (λ e. cc) ∙ ap (λ (r : Reading). with_all h.told (verdict_with more r)) (sym p.now);
  grown = h.grown;
  at_end = λ e. p.at_end;
  came = ap came p.now ∙ h.came;
  waited = λ more m. h.waited more (λ e. cc) ∙ ap (λ (r : Reading). waited_with base h.state r more) (sym p.now);
  near = λ more m. subst (λ k. length h.taken ≤ k + 33488896) (ap (λ (r : Reading). waited_with base h.state r more) (sym p.now)) (h.near more (λ e. cc));
}

-- more was waited for, and then fed
pub fed_waiting : (begins : Progress) (base : Base) (S T : List Object) (before now later : Option Bytes) (old rd new : Reading) (v : Replaying) (most : ℕ) → most ≤ 65536 → IsSoFar begins base S T before now old v → IsBefore old rd → IsNear old →
    ((more : Bytes) → MayFollow old more true → verdict_with more old ≡ verdict_with more rd) → rd.ended ≡ false → IsFed now later rd new most → IsSoFar begins base S T before later new v
unfolding waiting
fed_waiting begins base S T before now later old rd new v most few h b n follows un fed =
    fed_more begins base S T before now later rd new v most few un (waiting begins base S T before now old rd v h b follows) (waiting_near begins base S T before now old rd v h b n) fed

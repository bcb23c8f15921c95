-- A pushed stream so far: what its reader has told, and what came of it.
use Rattle.std.proofs.Common.{◌≡◌, inl, inr, ◌+◌, ◌≤◌, true, false, arith, length, length-append, List, [], ◌∷◌, ◌++◌, Option, Some, None, Result, Ok, Err, IfSome, refl, sym, ap, subst, ◌∙◌, append_assoc, append-nil, true≢false}
use Rattle.std.specs.Prelude.{ℕ, IsOkAnd, OnOk}
use Rattle.std.specs.Option.{unwrap_or}
use Rattle.std.specs.Io.KnownBytes.{Consumes, IsAtEnd}
use Rattle.std.proofs.KnownBytes.{Consumes-nil, Consumes-trans}
use Rattle.git_objects.specs.Paths.{Bytes, is_bytes}
use Rattle.git_objects.specs.Results.{◌>>=◌, refused_by}
use Rattle.git_objects.specs.declared.limits.TheConstants.{STREAM_BYTES}
use Rattle.object_store.specs.Growth.{IsGrownBy}
use Rattle.object_store.specs.Objects.{Object, IsStore}
use Rattle.object_store.proofs.Growth.{grown_as, grown_self, grown_then}
use Rattle.stream_lex.specs.Cutting.{grown}
use Rattle.stream_lex.specs.Lines.{Input}
use Rattle.stream_lex.proofs.Passing.{grown_twice}
use Rattle.stream_reader.specs.Readers.{IsBefore, MayFollow, Reading, came, next_command, verdict_with}
use Rattle.stream_reader.specs.Verdicts.{start, verdict, verdict_from, with_command}
use Rattle.stream_reader.specs.Waited.{IsNear}
use Rattle.stream_reader.specs.declared.command.Placed.{Placed}
use Rattle.stream_reader.specs.declared.fault.StreamFault.{StreamFault}
use Rattle.stream_reader.specs.declared.fault.StreamFault.TheVariants.{Syntax}
use Rattle.stream_reader.proofs.Following.{later_told}
use Rattle.fast_import.specs.Made.{IsMadeAt, IsMadeBy}
use Rattle.fast_import.specs.Replaying.{Replaying}
use Rattle.fast_import.specs.Replays.{Base, Replay, nothing_yet, step}
use Rattle.fast_import.specs.Standing.{IsReplayOf}
use Rattle.fast_import.specs.Waited.{waited_from, waited_on, waited_told, TakesWithin}
use Rattle.fast_import.specs.Whole.{IsFed, IsGiven}
use Rattle.fast_import.proofs.Running.{Step, after-push, after_all, after_by, both_bytes, made-behind, made-front, with_all}
use Rattle.fast_import.proofs.Taking.{next_near, waited-is}
use Rattle.push_laws.specs.PushReplays.{StreamRefusal}
use Rattle.push_back.specs.Replaying.{Goes}
use Rattle.push_back.specs.declared.error.PushError.{PushError}
use Rattle.push_back.specs.Waited.{IsTakenTo, PushStep, as_step, waited_by}

-- ---- what was read

-- A reader has told these commands, of what a source has given.
pub record IsRead (before now : Option Bytes) (rd : Reading) (commands : List Placed) : Type 0 where
  pub taken : Bytes
  pub are_bytes : is_bytes taken ≡ true
  pub gone : Consumes before now taken
  pub same : (more : Bytes) → MayFollow rd more true → verdict start (taken ++ more) ≡ with_all commands (verdict_with more rd)
  pub at_end : rd.ended ≡ true → IsAtEnd now
  pub came : came rd ≡ length taken

pub nothing_read : (before : Option Bytes) → IsRead before before (record { progress = start; input = record { at = 0; rest = [] }; ended = false }) []
nothing_read before = record { taken = []; are_bytes = refl; gone = Consumes-nil before; same = λ more m. refl; at_end = λ e. absurd (true≢false (sym e)); came = refl }

module _ (before now : Option Bytes) (old new : Reading) (cs : List Placed) (h : IsRead before now old cs) where
  may_before : new.ended ≡ old.ended → (more : Bytes) → MayFollow new more true → MayFollow old more true
  may_before e more m q = m (e ∙ q)

  -- one command more
  pub read_command : (p : Placed) → new.ended ≡ old.ended → came new ≡ came old → ((more : Bytes) → MayFollow old more true → verdict_with more old ≡ with_command p (verdict_with more new)) → IsRead before now new (cs ++ p ∷ [])
  read_command p ended came_same follows = record {
    taken = h.taken;
    are_bytes = h.are_bytes;
    gone = h.gone;
    same = λ more m.
        h.same more (may_before ended more m)
        ∙ ap (with_all cs) (follows more (may_before ended more m))
        ∙ ap (λ (ps : List Placed). record { commands = ps; fault = (verdict_with more new).fault }) (sym (append_assoc cs (p ∷ []) (verdict_with more new).commands));
    at_end = λ e. h.at_end (sym ended ∙ e);
    came = came_same ∙ h.came;
  }

  -- more is waited for
  pub read_waiting : IsBefore old new → ((more : Bytes) → MayFollow old more true → verdict_with more old ≡ verdict_with more new) → IsRead before now new cs
  read_waiting b follows = record {
    taken = h.taken;
    are_bytes = h.are_bytes;
    gone = h.gone;
    same = λ more m. h.same more (may_before b.ended more m) ∙ ap (with_all cs) (follows more (may_before b.ended more m));
    at_end = λ e. h.at_end (sym b.ended ∙ e);
    came = b.came ∙ h.came;
  }

-- before the end anything may follow
open_follows : (rd : Reading) (more : Bytes) → rd.ended ≡ false → MayFollow rd more true
open_follows rd more un e = absurd (true≢false (sym e ∙ un))

-- and was fed
pub read_fed : (before now later : Option Bytes) (rd new : Reading) (cs : List Placed) (most : ℕ) → rd.ended ≡ false → IsRead before now rd cs → IsFed now later rd new most → IsRead before later new cs
read_fed before now later rd new cs most un h (inl p) = record {
  taken = h.taken ++ p.bytes;
  are_bytes = both_bytes h.taken p.bytes h.are_bytes p.are_bytes;
  gone = Consumes-trans before now later h.taken p.bytes h.gone p.taken;
  same = λ more m.
      ap (verdict start) (append_assoc h.taken p.bytes more)
      ∙ h.same (p.bytes ++ more) (open_follows rd (p.bytes ++ more) un)
      ∙ ap (λ (i : Input). with_all cs (verdict_from rd.progress i)) (sym (grown_twice p.bytes more rd.input))
      ∙ ap (λ (r : Reading). with_all cs (verdict_with more r)) (sym p.now);
  at_end = λ e. absurd (true≢false (sym e ∙ ap (λ (r : Reading). r.ended) p.now));
  came = omega (arith, ap came p.now, h.came, length-append rd.input.rest p.bytes, length-append h.taken p.bytes);
}
read_fed before now later rd new cs most un h (inr p) = record {
  taken = h.taken;
  are_bytes = h.are_bytes;
  gone = subst (Consumes before later) (append-nil h.taken) (Consumes-trans before now later h.taken [] h.gone p.none);
  same = λ more m. h.same more (open_follows rd more un) ∙ ap (λ (r : Reading). with_all cs (verdict_with more r)) (sym p.now);
  at_end = λ e. p.at_end;
  came = ap came p.now ∙ h.came;
}

-- all that the source has

rest_none : (o : Option Bytes) → IsAtEnd o → unwrap_or o [] ≡ []
rest_none None e = refl
rest_none (Some bs) e = e

rest_bytes : (o : Option Bytes) → IfSome o (λ l. is_bytes l ≡ true) → is_bytes (unwrap_or o []) ≡ true
rest_bytes None k = refl
rest_bytes (Some bs) k = k

taken_all : (b o : Option Bytes) (taken : Bytes) → Consumes b o taken → IfSome b (λ bytes. bytes ≡ taken ++ unwrap_or o [])
taken_all None o taken g = tt
taken_all (Some bs) None taken g = absurd g
taken_all (Some bs) (Some os) taken g = g

module _ (before now : Option Bytes) (rd : Reading) (cs : List Placed) (h : IsRead before now rd cs) where
  abbrev pub rest : Bytes
  rest = unwrap_or now []

  abbrev pub all : Bytes
  all = h.taken ++ rest

  pub all_told : IfSome before (λ bytes. bytes ≡ all)
  all_told = taken_all before now h.taken h.gone

  -- what a source has left are bytes
  pub all_bytes : IfSome now (λ l. is_bytes l ≡ true) → is_bytes all ≡ true
  all_bytes k = both_bytes h.taken rest h.are_bytes (rest_bytes now k)

  pub may_rest : MayFollow rd rest true
  may_rest e = (rest_none now (h.at_end e), refl)

-- ---- what came of it

ok-same : {A E : Type 0} (x y : A) → ◌≡◌ {A = Result A E} (Ok x) (Ok y) → x ≡ y
ok-same x y e = cc

not-ok : {A E : Type 0} (f : E) (y : A) → ◌≡◌ {A = Result A E} (Err f) (Ok y) → ⊥
not-ok f y e = cc

module _ (base : Base) (one : Step StreamRefusal) (goes : Goes base one) where
  along_from : (r s : Replay) (p : Placed) (ps : List Placed) (x : Result Replay StreamRefusal) → ((t : Replay) → after_by one t ps ≡ Ok s → after_all base t ps ≡ Ok s) → one r p ≡ x → (x >>= λ t. after_by one t ps) ≡ Ok s
      → (step base r p >>= λ t. after_all base t ps) ≡ Ok s
  along_from r s p ps (Ok t) next q k = ap (λ (x : Result Replay StreamFault). x >>= λ t. after_all base t ps) (goes r t p q) ∙ next t k
  along_from r s p ps (Err f) next q k = absurd (not-ok f s k)

  -- any replay comes as far
  pub goes-along : (r s : Replay) (ps : List Placed) → after_by one r ps ≡ Ok s → after_all base r ps ≡ Ok s
  goes-along r s [] e = ap (λ (x : Replay). Ok x) (ok-same r s e)
  goes-along r s (p ∷ ps) e = along_from r s p ps (one r p) (λ t. goes-along t s ps) refl e

-- up to which place is read of what is left, where more follows and then the end
abbrev pub waited_with : PushStep → Replay → Reading → Bytes → ℕ
waited_with one r rd more = waited_from (as_step one) r rd.progress (grown more rd.input)

-- By what one command does, over a base: S and before are the store and what the source had at first; T, now, rd and v are the
-- store, the source, the reader and the replay as they are.
pub record IsRunSoFar (base : Base) (one : Step StreamRefusal) (S T : List Object) (before now : Option Bytes) (rd : Reading) (v : Replaying) : Type 0 where
  pub commands : List Placed
  pub read : IsRead before now rd commands
  pub state : Replay
  pub run : after_by one nothing_yet commands ≡ Ok state
  pub stands : IsReplayOf T v state
  pub grown : IsGrownBy (IsMadeBy base nothing_yet commands) S T
  pub waited : (more : Bytes) → MayFollow rd more true → waited_by one (read.taken ++ more) ≡ waited_with one state rd more
  pub near : (more : Bytes) → MayFollow rd more true → length read.taken ≤ waited_with one state rd more + 33488896

pub nothing_run : (base : Base) (one : Step StreamRefusal) (S : List Object) (before : Option Bytes) (v : Replaying) → IsStore S → IsReplayOf S v nothing_yet
    → IsRunSoFar base one S S before before (record { progress = start; input = record { at = 0; rest = [] }; ended = false }) v
unfolding nothing_read
nothing_run base one S before v s h = record {
  commands = [];
  read = nothing_read before;
  state = nothing_yet;
  run = refl;
  stands = h;
  grown = grown_self (IsMadeBy base nothing_yet []) S s;
  waited = λ more m. refl;
  near = λ more m. omega arith;
}

module _ (base : Base) (one : Step StreamRefusal) (S T : List Object) (before now : Option Bytes) (old : Reading) (v : Replaying) (h : IsRunSoFar base one S T before now old v) where
  -- a command was carried out
  module _ (goes : Goes base one) (p : Placed) (new : Reading) (told : next_command old ≡ Ok (record { command = Some p; progress = new.progress }, new.input)) (ended : new.ended ≡ old.ended) (came_same : came new ≡ came old) (follows : (more : Bytes) → MayFollow old more true → verdict_with more old ≡ with_command p (verdict_with more new)) where
    grown_more : (R : List Object) → IsGrownBy (IsMadeAt h.state p.command) T R → IsGrownBy (IsMadeBy base nothing_yet (h.commands ++ p ∷ [])) S R
    grown_more R g = grown_then (IsMadeBy base nothing_yet (h.commands ++ p ∷ [])) S T R
        (grown_as (IsMadeBy base nothing_yet h.commands) (IsMadeBy base nothing_yet (h.commands ++ p ∷ [])) S T (made-front base nothing_yet h.commands (p ∷ [])) h.grown)
        (grown_as (IsMadeAt h.state p.command) (IsMadeBy base nothing_yet (h.commands ++ p ∷ [])) T R (λ o m. made-behind base nothing_yet h.state h.commands p [] o (goes-along base one goes nothing_yet h.state h.commands h.run) m) g)

    follows_before : (more : Bytes) → MayFollow new more true → MayFollow old more true
    follows_before more m = may_before before now old new h.commands h.read ended more m

    -- what is left is read up to the same place
    waited_new : (s : Replay) → one h.state p ≡ Ok s → (more : Bytes) → MayFollow new more true → waited_with one h.state old more ≡ waited_with one s new more
    waited_new s q more m =
        waited-is (as_step one) h.state old.progress (grown more old.input)
        ∙ ap (waited_told (waited_from (as_step one)) (as_step one) h.state)
        (later_told old.progress old.input old.ended more (record { command = Some p; progress = new.progress }, new.input) (follows_before more m) told)
        ∙ ap (waited_on (waited_from (as_step one)) new.progress (grown more new.input)) (ap (refused_by (λ (e : StreamRefusal). Syntax p.at)) q)

    one_from : (R : List Object) (w : Replaying) (x : Result Replay StreamRefusal) → one h.state p ≡ x → IsOkAnd x (IsReplayOf R w) → IsGrownBy (IsMadeAt h.state p.command) T R → IsRunSoFar base one S R before now new w
    unfolding read_command
    one_from R w (Err f) q d g = absurd d
    one_from R w (Ok s) q d g = record {
      commands = h.commands ++ p ∷ [];
      read = read_command before now old new h.commands h.read p ended came_same follows;
      state = s;
      run = after-push one nothing_yet h.state h.commands p h.run ∙ q;
      stands = d;
      grown = grown_more R g;
      waited = λ more m. h.waited more (follows_before more m) ∙ waited_new s q more m;
      near = λ more m. subst (λ (n : ℕ). length h.read.taken ≤ n + 33488896) (waited_new s q more m) (h.near more (follows_before more m));
    }

    pub one_run : (R : List Object) (w : Replaying) → IsOkAnd (one h.state p) (IsReplayOf R w) → IsGrownBy (IsMadeAt h.state p.command) T R → IsRunSoFar base one S R before now new w
    one_run R w d g = one_from R w (one h.state p) refl d g

  -- more was waited for, and then fed
  module _ (later : Option Bytes) (rd : Reading) (most : ℕ) (few : most ≤ 65536) (b : IsBefore old rd) (n : IsNear old) (follows : (more : Bytes) → MayFollow old more true → verdict_with more old ≡ verdict_with more rd) (un : rd.ended ≡ false) where
    waiting : IsRead before now rd h.commands
    waiting = read_waiting before now old rd h.commands h.read b follows

    may_old : (more : Bytes) → MayFollow old more true
    may_old more = may_before before now old rd h.commands h.read b.ended more (open_follows rd more un)

    -- where nothing was told
    waited_still : (more : Bytes) → waited_with one h.state old more ≡ waited_with one h.state rd more
    waited_still more =
        waited-is (as_step one) h.state old.progress (grown more old.input)
        ∙ ap (waited_told (waited_from (as_step one)) (as_step one) h.state) (b.same true more (may_old more))
        ∙ sym (waited-is (as_step one) h.state rd.progress (grown more rd.input))

    -- where more is waited for, little has come
    waiting_near : (more : Bytes) → length h.read.taken ≤ waited_with one h.state rd more + 16908290
    waiting_near more =
        subst (λ (k : ℕ). length h.read.taken ≤ k + 16908290) (waited_still more)
        (omega (arith, h.read.came, n more, next_near (as_step one) h.state old.progress (grown more old.input)))

    pub fed_run : (new : Reading) → IsFed now later rd new most → IsRunSoFar base one S T before later new v
    unfolding waiting read_waiting read_fed
    fed_run new (inl p) = record {
      commands = h.commands;
      read = read_fed before now later rd new h.commands most un waiting (inl p);
      state = h.state;
      run = h.run;
      stands = h.stands;
      grown = h.grown;
      waited = λ more m.
          ap (waited_by one) (append_assoc h.read.taken p.bytes more)
          ∙ h.waited (p.bytes ++ more) (may_old (p.bytes ++ more))
          ∙ waited_still (p.bytes ++ more)
          ∙ fed_waited more;
      near = λ more m.
          subst (λ (k : ℕ). length (h.read.taken ++ p.bytes) ≤ k + 33488896) (fed_waited more)
          (omega (arith, waiting_near (p.bytes ++ more), few, p.few, length-append h.read.taken p.bytes));
    }
      where
        fed_waited : (more : Bytes) → waited_with one h.state rd (p.bytes ++ more) ≡ waited_with one h.state new more
        fed_waited more =
            ap (λ (i : Input). waited_from (as_step one) h.state rd.progress i) (sym (grown_twice p.bytes more rd.input))
            ∙ ap (λ (r : Reading). waited_with one h.state r more) (sym p.now)
    fed_run new (inr p) = record {
      commands = h.commands;
      read = read_fed before now later rd new h.commands most un waiting (inr p);
      state = h.state;
      run = h.run;
      stands = h.stands;
      grown = h.grown;
      waited = λ more m. h.waited more (may_old more) ∙ waited_still more ∙ same_waited more;
      near = λ more m. subst (λ (k : ℕ). length h.read.taken ≤ k + 33488896) (same_waited more) (omega (arith, waiting_near more));
    }
      where
        same_waited : (more : Bytes) → waited_with one h.state rd more ≡ waited_with one h.state new more
        same_waited more = ap (λ (r : Reading). waited_with one h.state r more) (sym p.now)

-- ---- how much was given

taken_by : {A E : Type 0} (waited : Bytes → ℕ) (before after : Option Bytes) (given : Bytes) → Consumes before after given → (result : Result A E)
    → length given ≤ waited (given ++ unwrap_or after []) + 33554432 → OnOk result (waited (given ++ unwrap_or after []) ≤ length given) → IsTakenTo waited before after result
taken_by waited None after given c result few least = tt
taken_by waited (Some bs) None given c result few least = absurd c
taken_by waited (Some bs) (Some cs) given c result few least =
    subst (λ (all : Bytes). (g : Bytes) × Consumes (Some bs) (Some cs) g × (length g ≤ waited all + 33554432) × OnOk result (waited all ≤ length g)) (sym c) (given, c, few, least)

module _ (base : Base) (one : Step StreamRefusal) (S T : List Object) (before now : Option Bytes) (rd : Reading) (v : Replaying) (h : IsRunSoFar base one S T before now rd v) where
  abbrev left : Bytes
  left = rest before now rd h.commands h.read

  waited_all : waited_by one (h.read.taken ++ left) ≡ waited_with one h.state rd left
  waited_all = h.waited left (may_rest before now rd h.commands h.read)

  taken_few : length h.read.taken ≤ waited_by one (h.read.taken ++ left) + 33488896
  taken_few = subst (λ (n : ℕ). length h.read.taken ≤ n + 33488896) (sym waited_all) (h.near left (may_rest before now rd h.commands h.read))

  pub run_taken : (e : PushError) → IsTakenTo {A = Unit} (waited_by one) before now (Err e)
  run_taken e = taken_by {A = Unit} (waited_by one) before now h.read.taken h.read.gone (Err e) (omega (arith, taken_few)) tt

  pub run_taken_whole : (new : Reading) → next_command rd ≡ Ok (record { command = None; progress = new.progress }, new.input) → came new ≡ came rd → {A : Type 0} (x : A) → IsTakenTo {E = PushError} (waited_by one) before now (Ok x)
  run_taken_whole new told c x =
      let here : waited_by one (h.read.taken ++ left) ≡ new.input.at =
      waited_all ∙ waited-is (as_step one) h.state rd.progress (grown left rd.input)
      ∙ ap (waited_told (waited_from (as_step one)) (as_step one) h.state) (later_told rd.progress rd.input rd.ended left (record { command = None; progress = new.progress }, new.input) (may_rest before now rd h.commands h.read) told) in
      taken_by {E = PushError} (waited_by one) before now h.read.taken h.read.gone (Ok x) (omega (arith, taken_few)) (omega (arith, here, c, h.read.came))

  -- the source fails, or there is no memory for what it gave
  pub run_taken_feeding : IsNear rd → rd.ended ≡ false → (after : Option Bytes) → IsGiven now after 65536 → (e : PushError) → IsTakenTo {A = Unit} (waited_by one) before after (Err e)
  run_taken_feeding n un after g e =
      let more : Bytes = g.0 ++ unwrap_or after [] in
      let far : waited_by one ((h.read.taken ++ g.0) ++ unwrap_or after []) ≡ waited_with one h.state rd more =
      ap (waited_by one) (append_assoc h.read.taken g.0 (unwrap_or after [])) ∙ h.waited more (open_follows rd more un) in
      taken_by {A = Unit} (waited_by one) before after (h.read.taken ++ g.0) (Consumes-trans before now after h.read.taken g.0 h.read.gone g.1) (Err e)
      (omega (arith, far, n more, next_near (as_step one) h.state rd.progress (grown more rd.input), h.read.came, g.2, length-append h.read.taken g.0)) tt

  -- no more than a stream may have, and a piece
  pub run_within : came rd ≤ STREAM_BYTES + 65536 → TakesWithin before now
  run_within w = (h.read.taken, omega (arith, w, h.read.came), h.read.gone)

  pub run_within_feeding : came rd ≤ STREAM_BYTES → (after : Option Bytes) → IsGiven now after 65536 → TakesWithin before after
  run_within_feeding w after g =
      (h.read.taken ++ g.0, omega (arith, w, g.2, h.read.came, length-append h.read.taken g.0), Consumes-trans before now after h.read.taken g.0 h.read.gone g.1)

-- A command of a push that is judged, and carried out.
use Rattle.std.proofs.Common.{◌≡◌, ℕ, true, inl, inr, List, Option, Some, None, Result, Ok, Err, refl, sym, ap, subst, ◌∙◌}
use Rattle.std.specs.Option.{option_map}
use Rattle.git_objects.specs.Parts.{name_bytes}
use Rattle.git_objects.specs.Paths.{Bytes, is_nil}
use Rattle.git_objects.proofs.Basics.{same_bytes-self}
use Rattle.object_store.specs.Unfolding.{flat}
use Rattle.stream_reader.specs.declared.command.Command.TheVariants.{Commit}
use Rattle.stream_reader.specs.declared.command.CommitHead.{CommitHead}
use Rattle.std.specs.Prelude.{IsOkAnd}
use Rattle.std.specs.Result.{result_err}
use Rattle.git_objects.specs.Results.{refused_by}
use Rattle.object_store.specs.Objects.{Object}
use Rattle.stream_reader.specs.declared.command.Placed.{Placed}
use Rattle.stream_reader.specs.declared.fault.StreamFault.{StreamFault}
use Rattle.fast_import.specs.Made.{IsMadeAt, IsRefusal}
use Rattle.fast_import.specs.Replaying.{Replaying}
use Rattle.fast_import.specs.Standing.{IsReplayOf, IsStepped}
use Rattle.fast_import.specs.Replays.{Base, Replay, named_parent, step}
use Rattle.push_back.specs.Grounds.{Ground, IsGroundIn, from_of, ground_in, push_base_in}
use Rattle.push_back.specs.Replaying.{IsAtHead, IsJudged, IsOffHead, IsPushFault, IsTriedBy, Tells, step_in, told}
use Rattle.push_back.specs.declared.error.PushError.{PushError}
use Rattle.push_back.specs.declared.error.PushError.TheVariants as errors
use Rattle.push_laws.specs.PushReplays.{StreamRefusal, Faulty, NotAtHead, OtherRef, chain_end, is_same_name}
use Rattle.push_laws.proofs.PushSteps.{not-at, on-other, taken, unresolved}

-- ---- a command that is carried out

module _ (S S' : List Object) (g : Ground) (b : IsGroundIn S g) (v : Replaying) (r : Replay) (p : Placed) (free : step_in S g r p ≡ refused_by Faulty (step (push_base_in S g) r p)) where
  went-on : (x : Result Replay StreamFault) → IsOkAnd x (IsReplayOf S' v) → IsOkAnd (refused_by Faulty x) (IsReplayOf S' v)
  went-on (Ok s) h = h
  went-on (Err f) h = absurd h

  moved : (result : Result Unit StreamFault) → IsStepped (ground_in S g) S S' v r p result → IsStepped (push_base_in S g) S S' v r p result
  moved result h = subst (λ (x : Base). IsStepped x S S' v r p result) b.same h

  pub step-done : IsStepped (ground_in S g) S S' v r p (Ok tt) → IsTriedBy (step_in S g r p) S S' v r p (Ok tt)
  step-done h = record {
    done = subst (λ (x : Result Replay StreamRefusal). IsOkAnd x (IsReplayOf S' v)) (sym free) (went-on (step (push_base_in S g) r p) (moved (Ok tt) h).done);
    refused = tt;
    grown = h.grown;
  }

  pub step-stopped : (f : StreamFault) → IsStepped (ground_in S g) S S' v r p (Err f) → IsTriedBy (step_in S g r p) S S' v r p (Err (errors.Stream f))
  step-stopped f h = record { done = tt; refused = by (moved (Err f) h).refused; grown = h.grown }
    where
      by : IsRefusal (IsMadeAt r p.command) S' (step (push_base_in S g) r p) f → IsPushFault (result_err (step_in S g r p)) (IsMadeAt r p.command) S' (errors.Stream f)
      by (inl q) = inl (record { which = Faulty f; there = ap result_err (free ∙ ap (refused_by Faulty) q); same = refl })
      by (inr q) = inr q

-- what the definition refuses, and the code tells
pub judged-refused : (v : Replaying) (g : Ground) (p : Placed) (e : PushError) (f : Replay → StreamRefusal) → ((S : List Object) (r : Replay) → IsReplayOf S v r → IsGroundIn S g → (step_in S g r p ≡ Err (f r)) × (told e ≡ Some (f r))) → IsJudged v g p (Err e)
judged-refused v g p e f h = record { passed = tt; refused = λ S r s b. let k = h S r s b in record { which = f r; there = ap result_err k.0; same = k.1 } }

pub judged-passed : (v : Replaying) (g : Ground) (p : Placed) → ((S : List Object) (r : Replay) → IsReplayOf S v r → IsGroundIn S g → step_in S g r p ≡ refused_by Faulty (step (push_base_in S g) r p)) → IsJudged v g p (Ok tt)
judged-passed v g p h = record { passed = h; refused = tt }

-- ---- a commit that isn't upon the chain's end

same-self : (o : Option Bytes) → is_same_name o o ≡ true
same-self None = refl
same-self (Some n) = same_bytes-self n

module _ (S : List Object) (g : Ground) (b : IsGroundIn S g) (r : Replay) (at : ℕ) (h : CommitHead) where
  abbrev place : Placed
  place = record { at = at; command = Commit h }

  moved-parent : (x : Result (Option Bytes) StreamFault) → named_parent (ground_in S g) r h ≡ x → named_parent (push_base_in S g) r h ≡ x
  moved-parent x e = ap (λ (y : Base). named_parent y r h) (sym b.same) ∙ e

  pub off-told : (e : PushError) → IsOffHead (ground_in S g) g.refname (from_of g) r at h e → Tells (result_err (step_in S g r place)) e
  off-told errors.ReadFault k = absurd k
  off-told (errors.OtherRef a) k = record {
    which = OtherRef at;
    there = ap result_err (on-other g.refname (from_of g) (flat S g.shown.0) r at h k.1);
    same = ap (λ n. Some (OtherRef n)) k.0;
  }
  off-told (errors.NotAtHead m n) k = record {
    which = NotAtHead (chain_end (from_of g) r) (option_map name_bytes n);
    there = ap result_err (not-at g.refname (from_of g) (flat S g.shown.0) r at h k.0 (option_map name_bytes n) (moved-parent (Ok (option_map name_bytes n)) k.1) k.3);
    same = ap (λ o. Some (NotAtHead o (option_map name_bytes n))) k.2;
  }
  off-told (errors.FurtherParents n) k = absurd k
  off-told (errors.Stream f) k = record {
    which = Faulty f;
    there = ap result_err (unresolved g.refname (from_of g) (flat S g.shown.0) r at h k.0 f (moved-parent (Err f) k.1));
    same = refl;
  }

  -- one that is, and has no further parents
  pub at-taken : IsAtHead (ground_in S g) g.refname (from_of g) r h → is_nil h.merges ≡ true → step_in S g r place ≡ refused_by Faulty (step (push_base_in S g) r place)
  at-taken k e = taken g.refname (from_of g) (flat S g.shown.0) r at h k.here (chain_end (from_of g) r) (moved-parent (Ok (chain_end (from_of g) r)) k.upon) (same-self (chain_end (from_of g) r)) e

-- A command of a push with merges that is judged, and carried out.
use Rattle.std.proofs.Common.{◌≡◌, ◌+◌, ℕ, Bool, true, false, not, length, inl, inr, List, ◌++◌, Option, Some, Result, Ok, Err, refl, sym, ap, subst, ◌∙◌}
use Rattle.std.specs.Prelude.{IsOkAnd}
use Rattle.std.specs.Option.{option_map, option_to_list}
use Rattle.std.specs.Result.{result_err}
use Rattle.git_objects.specs.Parts.{name_bytes}
use Rattle.git_objects.specs.Paths.{Bytes, same_bytes}
use Rattle.git_objects.specs.Results.{◌>>=◌, must, refused_by}
use Rattle.object_store.specs.Objects.{Object}
use Rattle.object_store.specs.Unfolding.{flat}
use Rattle.stream_reader.specs.declared.command.Command.TheVariants as commands
use Rattle.stream_reader.specs.declared.command.CommitHead.{CommitHead}
use Rattle.stream_reader.specs.declared.command.Placed.{Placed}
use Rattle.stream_reader.specs.declared.fault.StreamFault.{StreamFault}
use Rattle.fast_import.specs.Made.{IsMadeAt, IsRefusal}
use Rattle.fast_import.specs.Replaying.{Replaying}
use Rattle.fast_import.specs.Replays.{Base, Replay, begun, named_parent, step, with_merges}
use Rattle.fast_import.specs.Standing.{IsReplayOf, IsStepped}
use Rattle.push_laws.specs.PushReplays.{StreamRefusal, Faulty, FurtherParents as RepeatedParent, NotAtHead, OtherRef, chain_end, is_same_name, pushed_parent}
use Rattle.push_laws.proofs.PushSteps.{named-pushed}
use Rattle.push_back.specs.Grounds.{from_of}
use Rattle.push_back.specs.Replaying.{IsAtHead, IsOffHead, IsPushFault, IsTriedBy, Tells}
use Rattle.push_back.specs.declared.error.PushError.{PushError}
use Rattle.push_back.specs.declared.error.PushError.TheVariants as errors
use Rattle.merge_laws.specs.MergeReplays.{is_once}
use Rattle.merge_laws.specs.StreamLaws.{named}
use Rattle.merge_laws.proofs.Bases.{commit-law}
use Rattle.merge_push.specs.Grounds.{Ground, IsGroundIn, ground_in, merge_base_in, projected_in, step_in}
use Rattle.merge_push.specs.Replaying.{once_more, repeats}

-- nothing more is refused
pub once-none : (n : ℕ) (x : Result Replay StreamRefusal) → x ≡ once_more false n x
once-none n (Ok s) = refl
once-none n (Err e) = refl

-- ---- a command that is carried out

module _ (S S' : List Object) (g : Ground) (b : IsGroundIn S g) (v : Replaying) (r : Replay) (p : Placed) (again : Bool)
    (free : step_in S g r p ≡ once_more again (length r.commits + 1) (refused_by Faulty (step (merge_base_in S g) r p))) where
  moved : (result : Result Unit StreamFault) → IsStepped (ground_in S g) S S' v r p result → IsStepped (merge_base_in S g) S S' v r p result
  moved result h = subst (λ (x : Base). IsStepped x S S' v r p result) b.same h

  abbrev left : Bool → Result Replay StreamFault → Result Replay StreamRefusal
  left a x = once_more a (length r.commits + 1) (refused_by Faulty x)

  pub step-stopped : (f : StreamFault) → IsStepped (ground_in S g) S S' v r p (Err f) → IsTriedBy (step_in S g r p) S S' v r p (Err (errors.Stream f))
  step-stopped f h = record { done = tt; refused = by (moved (Err f) h).refused; grown = h.grown }
    where
      by : IsRefusal (IsMadeAt r p.command) S' (step (merge_base_in S g) r p) f → IsPushFault (result_err (step_in S g r p)) (IsMadeAt r p.command) S' (errors.Stream f)
      by (inl q) = inl (record { which = Faulty f; there = ap result_err (free ∙ ap (left again) q); same = refl })
      by (inr q) = inr q

  done-by : (x : Result Replay StreamFault) → IsOkAnd x (IsReplayOf S' v) → IsOkAnd (left false x) (IsReplayOf S' v)
  done-by (Ok s) h = h
  done-by (Err f) h = absurd h

  pub step-done : again ≡ false → IsStepped (ground_in S g) S S' v r p (Ok tt) → IsTriedBy (step_in S g r p) S S' v r p (Ok tt)
  step-done e h = record {
    done = subst (λ (x : Result Replay StreamRefusal). IsOkAnd x (IsReplayOf S' v)) (sym (free ∙ ap (λ a. left a (step (merge_base_in S g) r p)) e)) (done-by (step (merge_base_in S g) r p) (moved (Ok tt) h).done);
    refused = tt;
    grown = h.grown;
  }

  again-by : (x : Result Replay StreamFault) → IsOkAnd x (IsReplayOf S' v) → result_err (left true x) ≡ Some (RepeatedParent (length r.commits + 1))
  again-by (Ok s) h = refl
  again-by (Err f) h = absurd h

  pub step-again : again ≡ true → (n : ℕ) → n ≡ length r.commits + 1 → IsStepped (ground_in S g) S S' v r p (Ok tt) → IsTriedBy (step_in S g r p) S S' v r p (Err (errors.FurtherParents n))
  step-again e n q h = record {
    done = tt;
    refused = inl (record {
      which = RepeatedParent (length r.commits + 1);
      there = ap result_err (free ∙ ap (λ a. left a (step (merge_base_in S g) r p)) e) ∙ again-by (step (merge_base_in S g) r p) (moved (Ok tt) h).done;
      same = ap (λ m. Some (RepeatedParent m)) q;
    });
    grown = h.grown;
  }

-- ---- a commit

same-false : (b : Bool) → not (not b) ≡ b
same-false true = refl
same-false false = refl

module _ (S : List Object) (g : Ground) (b : IsGroundIn S g) (r : Replay) (at : ℕ) (h : CommitHead) where
  abbrev place : Placed
  place = record { at = at; command = commands.Commit h }

  abbrev base : Base
  base = merge_base_in S g

  abbrev refname : Bytes
  refname = g.push.refname

  abbrev from : Option Bytes
  from = from_of g.push

  -- what comes behind the ref, and behind the first parent
  abbrev tail : Option Bytes → Result Replay StreamRefusal
  tail first = refused_by Faulty (with_merges base r (option_to_list first) h.merges) >>= λ parents.
      must (RepeatedParent (length r.commits + 1)) (is_once parents) >>= λ u. Ok (begun base r h first parents)

  abbrev behind : Result (Option Bytes) StreamFault → Result Replay StreamRefusal
  behind x = refused_by Faulty x >>= λ first. must (NotAtHead (chain_end from r) first) (is_same_name (chain_end from r) first) >>= λ u. tail first

  moved-parent : (x : Result (Option Bytes) StreamFault) → named_parent (ground_in S g) r h ≡ x → pushed_parent base r h h.from ≡ x
  moved-parent x e = sym (named-pushed base r h) ∙ ap (λ (y : Base). named_parent y r h) (sym b.same) ∙ e

  on-ref : same_bytes h.refname refname ≡ true → step_in S g r place ≡ behind (pushed_parent base r h h.from)
  on-ref e = ap (λ t. must (OtherRef at) t >>= λ u. behind (pushed_parent base r h h.from)) e

  pub off-told : (e : PushError) → IsOffHead (ground_in S g) refname from r at h e → Tells (result_err (step_in S g r place)) e
  off-told errors.ReadFault k = absurd k
  off-told (errors.OtherRef a) k = record {
    which = OtherRef at;
    there = ap result_err (ap (λ t. must (OtherRef at) t >>= λ u. behind (pushed_parent base r h h.from)) k.1);
    same = ap (λ n. Some (OtherRef n)) k.0;
  }
  off-told (errors.NotAtHead m n) k = record {
    which = NotAtHead (chain_end from r) (option_map name_bytes n);
    there = ap result_err (on-ref k.0 ∙ ap behind (moved-parent (Ok (option_map name_bytes n)) k.1)
        ∙ ap (λ t. must (NotAtHead (chain_end from r) (option_map name_bytes n)) t >>= λ u. tail (option_map name_bytes n)) k.3);
    same = ap (λ o. Some (NotAtHead o (option_map name_bytes n))) k.2;
  }
  off-told (errors.FurtherParents n) k = absurd k
  off-told (errors.Stream f) k = record {
    which = Faulty f;
    there = ap result_err (on-ref k.0 ∙ ap behind (moved-parent (Err f) k.1));
    same = refl;
  }

  pub at-head : IsAtHead (ground_in S g) refname from r h → (again : Bool) → again ≡ repeats S g r h
      → step_in S g r place ≡ once_more again (length r.commits + 1) (refused_by Faulty (step base r place))
  at-head k again e =
      commit-law refname from (flat S g.push.shown.0) (projected_in S g) r at h k.here (ap (λ (y : Base). named_parent y r h) (sym b.same) ∙ k.upon)
      ∙ ap (λ t. refused_by Faulty (step base r place) >>= λ s. must (RepeatedParent (length r.commits + 1)) t >>= λ u. Ok s)
      (sym (ap not e ∙ same-false (is_once (option_to_list (chain_end from r) ++ named (ground_in S g) r h.merges))
      ∙ ap (λ (y : Base). is_once (option_to_list (chain_end from r) ++ named y r h.merges)) b.same))

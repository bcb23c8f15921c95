-- Streams without lines that merge.
use Rattle.std.specs.Prelude.{◌≡◌, refl, ◌+◌, true, List, [], ◌∷◌, length, Option, Some, None, Ok}
use Rattle.std.specs.Option.{option_to_list}
use Rattle.std.specs.List.{list_all}
use Rattle.std.proofs.Common.{sym, true≢false}
use Rattle.std.proofs.lemmas.Bool.{and_parts}
use Rattle.git_objects.specs.Paths.{Bytes, is_nil, same_bytes}
use Rattle.git_objects.specs.Results.{◌>>=◌, must, refused_by}
use Rattle.stream_reader.specs.declared.command.Command.{Command}
use Rattle.stream_reader.specs.declared.command.Command.TheVariants as commands
use Rattle.stream_reader.specs.declared.command.CommitHead.{CommitHead}
use Rattle.stream_reader.specs.declared.command.Placed.{Placed}
use Rattle.stream_reader.specs.declared.commit_ref.CommitRef.{CommitRef}
use Rattle.fast_import.specs.Replays.{Base, Replay, begun, gone_on, ran_by, with_merges}
use Rattle.push_laws.specs.PushReplays.{StreamRefusal, OtherRef, NotAtHead, FurtherParents, Faulty, chain_end, is_same_name, pushed_parent, push_command, push_step}
use Rattle.merge_laws.specs.MergeReplays.{is_once, merge_command, merge_step}
use Rattle.merge_laws.specs.StreamLaws.{is_plain, PlainLaw}

module _ (base : Base) (refname : Bytes) (from : Option Bytes) where
  -- one parent at most isn't there twice
  parents-plain : (r : Replay) (h : CommitHead) (ms : List CommitRef) → is_nil ms ≡ true → (first : Option Bytes) →
      (refused_by Faulty (with_merges base r (option_to_list first) ms) >>= λ parents. must (FurtherParents (length r.commits + 1)) (is_once parents) >>= λ x. Ok (begun base r h first parents))
      ≡ (must (FurtherParents (length r.commits + 1)) (is_nil ms) >>= λ x. Ok (begun base r h first (option_to_list first)))
  parents-plain r h [] e None = refl
  parents-plain r h [] e (Some n) = refl
  parents-plain r h (m ∷ ms) e first = absurd (true≢false (sym e))

  command-plain : (r : Replay) (p : Placed) (c : Command) → is_plain c ≡ true → merge_command base refname from r p c ≡ push_command base refname from r p c
  command-plain r p (commands.Commit h) e =
      λ i. must (OtherRef p.at) (same_bytes h.refname refname) >>= λ x. refused_by Faulty (pushed_parent base r h h.from) >>= λ first.
      must (NotAtHead (chain_end from r) first) (is_same_name (chain_end from r) first) >>= λ y. parents-plain r h h.merges e first i
  command-plain r p (commands.Reset name target) e = refl
  command-plain r p (commands.Blob m b) e = refl
  command-plain r p (commands.Change c) e = refl
  command-plain r p commands.CommitEnd e = refl
  command-plain r p (commands.Tag h) e = refl
  command-plain r p commands.Done e = refl

  ran-plain : (end : Option StreamRefusal) (ps : List Placed) (r : Replay) → list_all (λ p. is_plain p.command) ps ≡ true → ran_by (merge_step base refname from) end r ps ≡ ran_by (push_step base refname from) end r ps
  ran-plain end [] r e = refl
  ran-plain end (p ∷ ps) r e =
      let a : (is_plain p.command ≡ true) × (list_all (λ p. is_plain p.command) ps ≡ true) = and_parts (is_plain p.command) (list_all (λ p. is_plain p.command) ps) e in
      λ i. gone_on p r (λ s. ran-plain end ps s a.1 i) (command-plain r p p.command a.0 i)

pub plain-law : PlainLaw
plain-law base refname from end r ps e = ran-plain base refname from end ps r e

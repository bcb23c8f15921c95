-- The commits of a pushed stream are in line.
use Rattle.std.specs.Prelude.{◌≡◌, refl, ℕ, ◌+◌, length, List, [], ◌∷◌, ◌++◌, Option, Some, None, Result, Ok, Err}
use Rattle.std.specs.Option.{option_map, option_or, option_to_list}
use Rattle.std.specs.List.{last_or}
use Rattle.std.proofs.Common.{ap, ◌∙◌, sym, subst}
use Rattle.std.proofs.lemmas.Option.{same_Some}
use Rattle.git_objects.specs.Paths.{Bytes, is_nil, same_bytes}
use Rattle.git_objects.specs.Trees.{Flat}
use Rattle.git_objects.specs.Results.{◌>>=◌, or_refuse, refused_by}
use Rattle.git_objects.specs.Snapshots.{Snapshot, snapshot_name}
use Rattle.stream_reader.specs.declared.command.Change.{Change}
use Rattle.stream_reader.specs.declared.command.Command.{Command}
use Rattle.stream_reader.specs.declared.command.Command.TheVariants as commands
use Rattle.stream_reader.specs.declared.command.CommitHead.{CommitHead}
use Rattle.stream_reader.specs.declared.command.Placed.{Placed}
use Rattle.stream_reader.specs.declared.command.TagHead.{TagHead}
use Rattle.stream_reader.specs.declared.fault.StreamFault.{StreamFault}
use Rattle.stream_reader.specs.declared.fault.StreamFault.TheVariants.{Syntax}
use Rattle.stream_reader.specs.Verdicts.{start, verdict}
use Rattle.fast_import.specs.Replays.{Base, Draft, Marked, Replay, TagMark, begun, command_step, commit_of, committed, edited, gone_on, inline_blob, known, nothing_yet, ran_by, said, step, tag_of, tagged, with_branch, with_mark}
use Rattle.tag_objects.specs.TagLists.{put_tag}
use Rattle.push_laws.specs.PushLaws.{ChainLaw, IsChain}
use Rattle.push_laws.proofs.Refusing.{at_head, passed, same-names, unmerged}
use Rattle.push_laws.specs.PushReplays.{StreamRefusal, Faulty, OtherRef, NotAtHead, FurtherParents, chain_end, is_same_name, push_base, push_command, push_step, pushed_parent}

-- ---- one commit more

abbrev end_of : Option Bytes → List Snapshot → Option Bytes
end_of from cs = option_or (option_map snapshot_name (last_or None cs)) from

last-some : (c : Snapshot) (cs : List Snapshot) → (d : Snapshot) × (last_or (Some c) cs ≡ Some d)
last-some c [] = (c, refl)
last-some c (d ∷ cs) = last-some d cs

ends : (from : Option Bytes) (d : Snapshot) (cs : List Snapshot) → end_of from (d ∷ cs) ≡ end_of (Some (snapshot_name d)) cs
ends from d [] = refl
ends from d (c ∷ cs) =
    let z = last-some c cs in
    ap (λ o. option_or (option_map snapshot_name o) from) z.1 ∙ sym (ap (λ o. option_or (option_map snapshot_name o) (Some (snapshot_name d))) z.1)

chain-more : (from : Option Bytes) (cs : List Snapshot) (c : Snapshot) → IsChain from cs → c.parents ≡ option_to_list (end_of from cs) → IsChain from (cs ++ c ∷ [])
chain-more from [] c h e = (e, tt)
chain-more from (d ∷ cs) c h e = (h.0, chain-more (Some (snapshot_name d)) cs c h.1 (e ∙ ap option_to_list (ends from d cs)))

-- ---- one command

-- the commits are in line, and the one that is being made stands upon their end
record IsGood (from : Option Bytes) (r : Replay) : Type 0 where
  chain : IsChain from r.commits
  drafted : (d : Draft) → r.draft ≡ Some d → d.parents ≡ option_to_list (chain_end from r)

abbrev went : Replay → Result Replay StreamRefusal
went r = Ok r

module _ (base : Base) (refname : Bytes) (from : Option Bytes) where
  marked-good : (mark : Option ℕ) (x : Marked) (r : Replay) → IsGood from r → IsGood from (with_mark mark x r)
  marked-good None x r g = g
  marked-good (Some n) x r g = record { chain = g.chain; drafted = g.drafted }

  is-made : (r s : Replay) → IsGood from r → went r ≡ went s → IsGood from s
  is-made r s g e = by cc
    where
      by : r ≡ s → IsGood from s
      by k = subst (IsGood from) k g

  edit-good : (r s : Replay) (d : Draft) (c : Change) (x : Result Flat StreamFault) → IsGood from r → r.draft ≡ Some d
      → refused_by Faulty (x >>= λ t. Ok (record r { blobs = r.blobs ++ inline_blob c; draft = Some (record d { tree = t }) })) ≡ Ok s → IsGood from s
  edit-good r s d c (Ok t) g i e =
      is-made (record r { blobs = r.blobs ++ inline_blob c; draft = Some (record d { tree = t }) }) s (record {
        chain = g.chain;
        drafted = λ d2 k. sym (ap (λ (z : Draft). z.parents) (same_Some (record d { tree = t }) d2 k)) ∙ g.drafted d i;
      }) e
  edit-good r s d c (Err f) g i e = cc

  change-good : (r s : Replay) (at : ℕ) (c : Change) (o : Option Draft) → IsGood from r → r.draft ≡ o
      → refused_by Faulty (or_refuse (Syntax at) o >>= λ d. edited base r at d.tree c >>= λ t. Ok (record r { blobs = r.blobs ++ inline_blob c; draft = Some (record d { tree = t }) })) ≡ Ok s
      → IsGood from s
  change-good r s at c None g i e = cc
  change-good r s at c (Some d) g i e = edit-good r s d c (edited base r at d.tree c) g i e

  end-good : (r s : Replay) (at : ℕ) (o : Option Draft) → IsGood from r → r.draft ≡ o → refused_by Faulty (or_refuse (Syntax at) o >>= λ d. Ok (committed r d)) ≡ Ok s → IsGood from s
  end-good r s at None g i e = cc
  end-good r s at (Some d) g i e =
      is-made (committed r d) s (marked-good d.head.mark _ _ (record {
        chain = chain-more from r.commits (commit_of d) g.chain (g.drafted d i);
        drafted = λ d2 k. cc;
      })) e

  reset-good : (r s : Replay) (name : Bytes) (x : Result (Option Bytes) StreamFault) → IsGood from r → refused_by Faulty (x >>= λ n. Ok (with_branch name n r)) ≡ Ok s → IsGood from s
  reset-good r s name (Ok n) g e = is-made (with_branch name n r) s (record { chain = g.chain; drafted = g.drafted }) e
  reset-good r s name (Err f) g e = cc

  tag-good : (r s : Replay) (h : TagHead) (x : Result Bytes StreamFault) → IsGood from r → refused_by Faulty (x >>= λ n. Ok (tagged h n r)) ≡ Ok s → IsGood from s
  tag-good r s h (Ok n) g e =
      is-made (tagged h n r) s (marked-good h.mark TagMark (record r { tags = put_tag (tag_of h n) r.tags }) (record { chain = g.chain; drafted = g.drafted })) e
  tag-good r s h (Err f) g e = cc

  begun-good : (r : Replay) (h : CommitHead) (first : Option Bytes) → IsGood from r → chain_end from r ≡ first → IsGood from (begun base r h first (option_to_list first))
  begun-good r h first g i = record {
    chain = g.chain;
    drafted = λ d k. sym (ap (λ (z : Draft). z.parents) (same_Some _ d k)) ∙ ap option_to_list (sym i);
  }

  parent-good : (r s : Replay) (h : CommitHead) (x : Result (Option Bytes) StreamRefusal) → IsGood from r → (x >>= λ first. at_head base from r h first) ≡ Ok s → IsGood from s
  parent-good r s h (Ok first) g e =
      let a = passed (NotAtHead (chain_end from r) first) (is_same_name (chain_end from r) first) (unmerged base r h first) s e in
      let b = passed (FurtherParents (length r.commits + 1)) (is_nil h.merges) (went (begun base r h first (option_to_list first))) s a.1 in
      is-made (begun base r h first (option_to_list first)) s (begun-good r h first g (same-names (chain_end from r) first a.0)) b.1
  parent-good r s h (Err f) g e = cc

  as-is : (r s : Replay) (p : Placed) (c : Command) → p.command ≡ c → refused_by Faulty (step base r p) ≡ Ok s → refused_by Faulty (command_step base r p.at c) ≡ Ok s
  as-is r s p c i e = ap (λ z. refused_by Faulty (command_step base r p.at z)) (sym i) ∙ e

  command-good : (r s : Replay) (p : Placed) (c : Command) → IsGood from r → p.command ≡ c → push_command base refname from r p c ≡ Ok s → IsGood from s
  command-good r s p (commands.Commit h) g i e =
      let x : Result (Option Bytes) StreamRefusal = refused_by Faulty (pushed_parent base r h h.from) in
      parent-good r s h x g (passed (OtherRef p.at) (same_bytes h.refname refname) (x >>= λ first. at_head base from r h first) s e).1
  command-good r s p (commands.Reset name target) g i e =
      reset-good r s name (said base r target) g
      (as-is r s p (commands.Reset name target) i (passed (OtherRef p.at) (same_bytes name refname) (refused_by Faulty (step base r p)) s e).1)
  command-good r s p (commands.Blob mark b) g i e =
      is-made _ s (marked-good mark _ _ (record { chain = g.chain; drafted = g.drafted })) (as-is r s p (commands.Blob mark b) i e)
  command-good r s p (commands.Change c) g i e = change-good r s p.at c r.draft g refl (as-is r s p (commands.Change c) i e)
  command-good r s p commands.CommitEnd g i e = end-good r s p.at r.draft g refl (as-is r s p commands.CommitEnd i e)
  command-good r s p (commands.Tag h) g i e = tag-good r s h (known base r h.from) g (as-is r s p (commands.Tag h) i e)
  command-good r s p commands.Done g i e = is-made r s g (as-is r s p commands.Done i e)

  -- ---- a whole stream

  ran-good : (end : Option StreamRefusal) (ps : List Placed) (r : Replay) → IsGood from r → IsGood from (ran_by (push_step base refname from) end r ps).state
  ran-good end [] r g = g
  ran-good end (p ∷ ps) r g = by (λ s. ran-good end ps s) (push_step base refname from r p) refl
    where
      by : ((s : Replay) → IsGood from s → IsGood from (ran_by (push_step base refname from) end s ps).state) → (x : Result Replay StreamRefusal) → push_step base refname from r p ≡ x → IsGood from (gone_on p r (λ s. ran_by (push_step base refname from) end s ps) x).state
      by later (Ok s) i = later s (command-good r s p p.command g refl i)
      by later (Err f) i = g

nothing-good : (from : Option Bytes) → IsGood from nothing_yet
nothing-good from = record { chain = tt; drafted = λ d k. cc }

pub chain-law : ChainLaw
chain-law refname from seen input =
    (ran-good (push_base refname from seen) refname from (option_map Faulty (verdict start input).fault) (verdict start input).commands nothing_yet (nothing-good from)).chain

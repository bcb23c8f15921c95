-- The heads that a stream sets stand in byte order.
use Rattle.std.proofs.Common.{◌≡◌, ℕ, T, List, [], ◌∷◌, ◌++◌, Option, Some, None, Ok, Err, refl, subst}
use Rattle.std.specs.Cmp.Lexicographic.{nat_list_cmp_total}
use Rattle.std.specs.FinMap.{is_sorted}
use Rattle.std.specs.FinMap.Entries.{is_sorted-put}
use Rattle.std.specs.Option.{option_to_list}
use Rattle.git_objects.specs.Paths.{Bytes}
use Rattle.git_objects.specs.Refs.{bytes_cmp}
use Rattle.git_objects.specs.Results.{◌>>=◌, or_refuse}
use Rattle.git_objects.specs.Snapshots.{snapshot_name}
use Rattle.git_objects.proofs.Basics.{both, first, second}
use Rattle.tag_objects.specs.TagLists.{put_tag}
use Rattle.fast_import.specs.Replays.{Base, BlobMark, CommitMark, Marked, Replay, begun, commit_of, committed, command_step, edited, first_parent, gone_on, heads_of, inline_blob, nothing_yet, ran_by, said, step, with_branch, with_mark, with_merges, TagMark, known, tag_of, tagged}
use Rattle.fast_import.proofs.Heading.{Branches, below-heads, heads}
use Rattle.stream_reader.specs.declared.command.Command.{Command}
use Rattle.stream_reader.specs.declared.command.Command.TheVariants as commands
use Rattle.stream_reader.specs.declared.command.Placed.{Placed}
use Rattle.stream_reader.specs.declared.fault.StreamFault.{StreamFault}
use Rattle.stream_reader.specs.declared.fault.StreamFault.TheVariants.{Syntax}
use Rattle.state_items.proofs.ReadObjects.{ok-same, value-of}

heads-sorted : (bs : Branches) → T (is_sorted bytes_cmp bs) → T (is_sorted bytes_cmp (heads bs))
heads-sorted [] h = tt
heads-sorted ((k, None) ∷ bs) h = heads-sorted bs (second _ _ h)
heads-sorted ((k, Some c) ∷ bs) h = both _ _ (below-heads k bs (first _ _ h)) (heads-sorted bs (second _ _ h))

-- the branches stand in byte order
abbrev IsSorted : Replay → Type 0
IsSorted r = T (is_sorted bytes_cmp r.branches)

mark-sorted : (m : Option ℕ) (x : Marked) (r : Replay) → IsSorted r → IsSorted (with_mark m x r)
mark-sorted None x r i = i
mark-sorted (Some n) x r i = i

branch-sorted : (refname : Bytes) (n : Option Bytes) (r : Replay) → IsSorted r → IsSorted (with_branch refname n r)
branch-sorted refname n r i = is_sorted-put bytes_cmp nat_list_cmp_total refname n r.branches i

module _ (base : Base) where
  step-sorted : (r q : Replay) (at : ℕ) (k : Command) → IsSorted r → command_step base r at k ≡ Ok q → IsSorted q
  step-sorted r q at (commands.Blob m b) i e =
      subst IsSorted (ok-same (with_mark m (BlobMark b) (record r { blobs = r.blobs ++ b ∷ [] })) q e) (mark-sorted m (BlobMark b) (record r { blobs = r.blobs ++ b ∷ [] }) i)
  step-sorted r q at (commands.Commit d) i e =
      let f = value-of (first_parent base r d) (λ first. with_merges base r (option_to_list first) d.merges >>= λ parents. Ok (begun base r d first parents)) q e in
      let m = value-of (with_merges base r (option_to_list f.value) d.merges) (λ parents. Ok (begun base r d f.value parents)) q f.rest in
      subst IsSorted (ok-same (begun base r d f.value m.value) q m.rest) i
  step-sorted r q at (commands.Change x) i e =
      let d = value-of (or_refuse (Syntax at) r.draft) (λ d. edited base r at d.tree x >>= λ t. Ok (record r { blobs = r.blobs ++ inline_blob x; draft = Some (record d { tree = t }) })) q e in
      let t = value-of (edited base r at d.value.tree x) (λ t. Ok (record r { blobs = r.blobs ++ inline_blob x; draft = Some (record d.value { tree = t }) })) q d.rest in
      subst IsSorted (ok-same (record r { blobs = r.blobs ++ inline_blob x; draft = Some (record d.value { tree = t.value }) }) q t.rest) i
  step-sorted r q at commands.CommitEnd i e =
      let d = value-of (or_refuse (Syntax at) r.draft) (λ d. Ok (committed r d)) q e in
      let c = commit_of d.value in
      subst IsSorted (ok-same (committed r d.value) q d.rest)
      (mark-sorted d.value.head.mark (CommitMark (snapshot_name c)) _
      (branch-sorted d.value.head.refname (Some (snapshot_name c)) (record r { commits = r.commits ++ c ∷ []; draft = None }) i))
  step-sorted r q at (commands.Reset refname from) i e =
      let n = value-of (said base r from) (λ n. Ok (with_branch refname n r)) q e in
      subst IsSorted (ok-same (with_branch refname n.value r) q n.rest) (branch-sorted refname n.value r i)
  step-sorted r q at (commands.Tag g) i e =
      let n = value-of (known base r g.from) (λ n. Ok (tagged g n r)) q e in
      subst IsSorted (ok-same (tagged g n.value r) q n.rest) (mark-sorted g.mark TagMark (record r { tags = put_tag (tag_of g n.value) r.tags }) i)
  step-sorted r q at commands.Done i e = subst IsSorted (ok-same r q e) i

  ran-sorted : (ps : List Placed) (end : Option StreamFault) (r : Replay) → IsSorted r → IsSorted (ran_by (step base) end r ps).state
  ran-sorted [] end r i = i
  ran-sorted (p ∷ ps) end r i =
      elim (step base r p) as (λ x. step base r p ≡ x → IsSorted (gone_on p r (λ s. ran_by (step base) end s ps) x).state) [
        | Ok q ↦ λ e. ran-sorted ps end q (step-sorted r q p.at p.command i e)
        | Err f ↦ λ e. i
      ] refl

  pub sorted-heads : (ps : List Placed) (end : Option StreamFault) → T (is_sorted bytes_cmp (heads_of (ran_by (step base) end nothing_yet ps).state))
  sorted-heads ps end = heads-sorted (ran_by (step base) end nothing_yet ps).state.branches (ran-sorted ps end nothing_yet tt)

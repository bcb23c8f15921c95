-- What a replay of small commands gives is within the limits of objects.
use Rattle.std.proofs.Common.{◌≡◌, ℕ, Bool, true, ◌&&◌, List, [], ◌∷◌, ◌++◌, length, map, All, Option, None, Some, Ok, Err, refl, subst}
use Rattle.std.specs.Prelude.{nat_le}
use Rattle.std.specs.Cmp.{first_so, second_so}
use Rattle.std.specs.List.{list_all}
use Rattle.std.specs.Option.{option_to_list, unwrap_or}
use Rattle.std.proofs.lemmas.List.Elements.{All-head, All-tail}
use Rattle.git_objects.specs.Lists.{Each}
use Rattle.git_objects.specs.Paths.{Bytes}
use Rattle.git_objects.specs.Results.{◌>>=◌, or_refuse}
use Rattle.git_objects.specs.Snapshots.{Snapshot}
use Rattle.git_objects.specs.Trees.{Flat, LeafNode, put, remove, standing}
use Rattle.git_objects.specs.declared.limits.TheConstants.{BLOB_BYTES, MESSAGE_BYTES}
use Rattle.git_objects.proofs.Basics.{and_both}
use Rattle.object_store.specs.Fits.{tree_fits}
use Rattle.tag_objects.specs.TagLists.{put_tag}
use Rattle.fast_import.specs.Replays.{Base, BlobMark, CommitMark, Draft, Marked, Replay, begun, commit_of, committed, command_step, edited, few_files, first_parent, given_bytes, gone_on, inline_blob, leaf_of, named_tree, nothing_yet, ran_by, said, step, tree_of, tree_upon, with_branch, with_mark, with_merges, within_paths, TagMark, known, tag_of, tagged}
use Rattle.stream_reader.specs.declared.command.BlobRef.TheVariants as blobs
use Rattle.stream_reader.specs.declared.command.Change.{Change}
use Rattle.stream_reader.specs.declared.command.Change.TheVariants as changes
use Rattle.stream_reader.specs.declared.command.Command.{Command}
use Rattle.stream_reader.specs.declared.command.Command.TheVariants as commands
use Rattle.stream_reader.specs.declared.command.CommitHead.{CommitHead}
use Rattle.stream_reader.specs.declared.command.Placed.{Placed}
use Rattle.stream_reader.specs.declared.fault.StreamFault.{StreamFault}
use Rattle.stream_reader.specs.declared.fault.StreamFault.TheVariants.{NoSource, Syntax}
use Rattle.state_items.specs.Items.{Held}
use Rattle.state_items.specs.Repos.{repo}
use Rattle.state_items.proofs.ReadObjects.{ok-same, value-of}
use Rattle.state_items.proofs.TreesHeld.{each-both}
use Rattle.import_laws.specs.Bases.{base_of}
use Rattle.import_laws.specs.SmallCommands.{IsSmall, IsSmallChange}
use Rattle.import_laws.specs.SmallReplays.{SmallLaw}
use Rattle.import_laws.proofs.TreeReplaying.{all-both, each-named, refuse-value, value-each}
use Rattle.import_laws.proofs.SmallEdits.{IsSmallTree, few-value, fits-small, leaf-good, moved-small, nothing-small, put-small, remove-small, small-fits, within-good}

abbrev pub is_short : Bytes → Bool
is_short b = nat_le (length b) BLOB_BYTES

abbrev is_small : Snapshot → Bool
is_small c = tree_fits c.tree && nat_le (length c.letter.message) MESSAGE_BYTES

record IsSmallDraft (d : Draft) : Type 0 where
  message : nat_le (length d.head.message) MESSAGE_BYTES ≡ true
  tree : tree_fits d.tree ≡ true

abbrev IfSmallDraft : Option Draft → Type 0
IfSmallDraft None = Unit
IfSmallDraft (Some d) = IsSmallDraft d

pub inline-short : (c : Change) → IsSmallChange c → list_all is_short (inline_blob c) ≡ true
inline-short (changes.Modify m (blobs.Inline b) p) v = and_both v.0 refl
inline-short (changes.Modify m (blobs.Mark n) p) v = refl
inline-short (changes.Modify m (blobs.Digits n) p) v = refl
inline-short (changes.Delete p) v = refl
inline-short (changes.Rename a p) v = refl
inline-short (changes.Copy a p) v = refl
inline-short changes.DeleteAll v = refl

module _ (h : Held) (base_fits : list_all (λ c. tree_fits c.tree) (repo h).commits ≡ true) where
  abbrev base : Base
  base = base_of h

  record Small (r : Replay) : Type 0 where
    blobs_short : list_all is_short r.blobs ≡ true
    commits_small : list_all is_small r.commits ≡ true
    draft_small : IfSmallDraft r.draft

  small-trees : (cs : List Snapshot) → list_all is_small cs ≡ true → Each (λ c. tree_fits c.tree ≡ true) cs
  small-trees [] g = tt
  small-trees (c ∷ cs) g = (first_so _ _ (first_so _ _ g), small-trees cs (second_so (is_small c) _ g))

  base-trees : (cs : List Snapshot) → list_all (λ c. tree_fits c.tree) cs ≡ true → Each (λ c. tree_fits c.tree ≡ true) cs
  base-trees [] g = tt
  base-trees (c ∷ cs) g = (first_so _ _ g, base-trees cs (second_so (tree_fits c.tree) _ g))

  tree-small : (r : Replay) (n : Bytes) (t : Flat) → Small r → tree_of base r n ≡ Some t → tree_fits t ≡ true
  tree-small r n t i e =
      value-each (λ t. tree_fits t ≡ true) n (map named_tree r.commits ++ map named_tree (repo h).commits) t
      (each-both (λ e. tree_fits e.1 ≡ true) (map named_tree r.commits) (map named_tree (repo h).commits) (each-named (λ t. tree_fits t ≡ true) r.commits (small-trees r.commits i.commits_small))
      (each-named (λ t. tree_fits t ≡ true) (repo h).commits (base-trees (repo h).commits base_fits))) e

  upon-small : (r : Replay) (x : Option Bytes) → Small r → tree_fits (tree_upon base r x) ≡ true
  upon-small r None i = refl
  upon-small r (Some n) i =
      elim (tree_of base r n) as (λ o. tree_of base r n ≡ o → tree_fits (unwrap_or o []) ≡ true) [ None ↦ λ e. refl | Some t ↦ λ e. tree-small r n t i e ] refl

  begun-small : (r q : Replay) (d : CommitHead) → nat_le (length d.message) MESSAGE_BYTES ≡ true → Small r → command_step base r 0 (commands.Commit d) ≡ Ok q → Small q
  begun-small r q d w i e =
      let f = value-of (first_parent base r d) (λ first. with_merges base r (option_to_list first) d.merges >>= λ parents. Ok (begun base r d first parents)) q e in
      let m = value-of (with_merges base r (option_to_list f.value) d.merges) (λ parents. Ok (begun base r d f.value parents)) q f.rest in
      subst Small (ok-same (begun base r d f.value m.value) q m.rest)
      (record { blobs_short = i.blobs_short; commits_small = i.commits_small; draft_small = record { message = w; tree = upon-small r f.value i } })

  mark-small : (m : Option ℕ) (x : Marked) (r : Replay) → Small r → Small (with_mark m x r)
  mark-small None x r i = i
  mark-small (Some n) x r i = record { blobs_short = i.blobs_short; commits_small = i.commits_small; draft_small = i.draft_small }

  edited-small : (r : Replay) (at : ℕ) (t u : Flat) (c : Change) → IsSmallChange c → IsSmallTree t → edited base r at t c ≡ Ok u → IsSmallTree u
  edited-small r at t u (changes.Modify m x p) v g e =
      let b = value-of (given_bytes base r at m x) (λ b. few_files at (put t p (LeafNode (leaf_of m b)))) u e in
      let f = few-value at (put t p (LeafNode (leaf_of m b.value))) u b.rest in
      subst IsSmallTree f.1 (put-small t p (LeafNode (leaf_of m b.value)) g (leaf-good p (leaf_of m b.value) v.1) f.0)
  edited-small r at t u (changes.Delete p) v g e = subst IsSmallTree (ok-same (remove t p) u e) (remove-small t p g)
  edited-small r at t u (changes.Rename a p) v g e =
      let x = value-of (or_refuse (NoSource at) (standing t a)) (λ x. within_paths at p x >>= λ _. Ok (put (remove t a) p x)) u e in
      let w = value-of (within_paths at p x.value) (λ _. Ok (put (remove t a) p x.value)) u x.rest in
      subst IsSmallTree (ok-same (put (remove t a) p x.value) u w.rest)
      (moved-small t a p x.value g (refuse-value (NoSource at) (standing t a) x.value x.was) (within-good at p x.value w.value w.was))
  edited-small r at t u (changes.Copy a p) v g e =
      let x = value-of (or_refuse (NoSource at) (standing t a)) (λ x. within_paths at p x >>= λ _. few_files at (put t p x)) u e in
      let w = value-of (within_paths at p x.value) (λ _. few_files at (put t p x.value)) u x.rest in
      let f = few-value at (put t p x.value) u w.rest in
      subst IsSmallTree f.1 (put-small t p x.value g (within-good at p x.value w.value w.was) f.0)
  edited-small r at t u changes.DeleteAll v g e = subst IsSmallTree (ok-same [] u e) nothing-small

  step-small : (r q : Replay) (at : ℕ) (c : Command) → IsSmall c → Small r → command_step base r at c ≡ Ok q → Small q
  step-small r q at (commands.Blob m b) v i e =
      let next : Replay = record r { blobs = r.blobs ++ b ∷ [] } in
      subst Small (ok-same (with_mark m (BlobMark b) next) q e)
      (mark-small m (BlobMark b) next (record { blobs_short = all-both is_short r.blobs (b ∷ []) i.blobs_short (and_both v refl); commits_small = i.commits_small; draft_small = i.draft_small }))
  step-small r q at (commands.Commit d) v i e = begun-small r q d v i e
  step-small r q at (commands.Change c) v i e =
      let d = value-of (or_refuse (Syntax at) r.draft) (λ d. edited base r at d.tree c >>= λ t. Ok (record r { blobs = r.blobs ++ inline_blob c; draft = Some (record d { tree = t }) })) q e in
      let t = value-of (edited base r at d.value.tree c) (λ t. Ok (record r { blobs = r.blobs ++ inline_blob c; draft = Some (record d.value { tree = t }) })) q d.rest in
      let w : IsSmallDraft d.value = subst IfSmallDraft (refuse-value (Syntax at) r.draft d.value d.was) i.draft_small in
      let next : Replay = record r { blobs = r.blobs ++ inline_blob c; draft = Some (record d.value { tree = t.value }) } in
      subst Small (ok-same next q t.rest) (record {
        blobs_short = all-both is_short r.blobs (inline_blob c) i.blobs_short (inline-short c v);
        commits_small = i.commits_small;
        draft_small = record { message = w.message; tree = small-fits t.value (edited-small r at d.value.tree t.value c v (fits-small d.value.tree w.tree) t.was) };
      })
  step-small r q at commands.CommitEnd v i e =
      let d = value-of (or_refuse (Syntax at) r.draft) (λ d. Ok (committed r d)) q e in
      let w : IsSmallDraft d.value = subst IfSmallDraft (refuse-value (Syntax at) r.draft d.value d.was) i.draft_small in
      subst Small (ok-same (committed r d.value) q d.rest)
      (mark-small d.value.head.mark (CommitMark _) _ (record {
        blobs_short = i.blobs_short;
        commits_small = all-both is_small r.commits (commit_of d.value ∷ []) i.commits_small (and_both (and_both w.tree w.message) refl);
        draft_small = tt;
      }))
  step-small r q at (commands.Reset refname from) v i e =
      let n = value-of (said base r from) (λ n. Ok (with_branch refname n r)) q e in
      subst Small (ok-same (with_branch refname n.value r) q n.rest) (record { blobs_short = i.blobs_short; commits_small = i.commits_small; draft_small = i.draft_small })
  step-small r q at (commands.Tag g) v i e =
      let n = value-of (known base r g.from) (λ n. Ok (tagged g n r)) q e in
      subst Small (ok-same (tagged g n.value r) q n.rest) (mark-small g.mark TagMark (record r { tags = put_tag (tag_of g n.value) r.tags }) (record { blobs_short = i.blobs_short; commits_small = i.commits_small; draft_small = i.draft_small }))
  step-small r q at commands.Done v i e = subst Small (ok-same r q e) i

  ran-small : (ps : List Placed) (end : Option StreamFault) (r : Replay) → Small r → All (λ p. IsSmall p.command) ps → Small (ran_by (step base) end r ps).state
  ran-small [] end r i v = i
  ran-small (p ∷ ps) end r i v =
      elim (step base r p) as (λ o. step base r p ≡ o → Small (gone_on p r (λ s. ran_by (step base) end s ps) o).state) [
        | Ok q ↦ λ e. ran-small ps end q (step-small r q p.at p.command (All-head (λ p. IsSmall p.command) p ps v) i e) (All-tail (λ p. IsSmall p.command) p ps v)
        | Err f ↦ λ e. i
      ] refl

pub small-law : SmallLaw
small-law h ps end fits v =
    let i = ran-small h fits ps end nothing_yet (record { blobs_short = refl; commits_small = refl; draft_small = tt }) v in
    record { blobs = i.blobs_short; commits = i.commits_small }

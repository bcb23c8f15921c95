-- What an incremental export writes with tags is read again upon a base.
use Rattle.std.proofs.Common.{◌≡◌, ◌^◌, ◌≤◌, ℕ, true, List, [], ◌∷◌, ◌++◌, length, map, refl, sym, ap, ◌∙◌, subst, Result, Ok, append-nil, arith}
use Rattle.std.specs.Option.{is_some}
use Rattle.git_objects.specs.Lists.{Each}
use Rattle.git_objects.specs.Paths.{Bytes}
use Rattle.git_objects.specs.Results.{◌>>=◌, must, or_refuse}
use Rattle.git_objects.specs.Snapshots.{Snapshot, snapshot_name}
use Rattle.git_objects.specs.Trees.{Flat}
use Rattle.path_names.specs.RefNames.{is_ref_name}
use Rattle.stream_reader.specs.Commands.{turn}
use Rattle.stream_reader.specs.Verdicts.{start, tagged_start}
use Rattle.stream_reader.specs.declared.command.Placed.{Placed}
use Rattle.stream_reader.specs.declared.command.TagHead.{TagHead}
use Rattle.stream_reader.specs.declared.fault.StreamFault.{StreamFault}
use Rattle.stream_reader.specs.declared.fault.StreamFault.TheVariants.{Unresolved}
use Rattle.tag_objects.specs.TagLists.{put_tag, with_tags}
use Rattle.tag_objects.specs.Tags.{tags_text}
use Rattle.tag_objects.specs.declared.tag.Tag.{Tag}
use Rattle.tag_objects.proofs.TagOrder.{put_in_order}
use Rattle.fast_import.specs.Replays.{Base, Replay, TagMark, command_step, heads_of, named_tree, nothing_yet, ran_in, reached, step, tag_of, tagged, tagged_given, tagged_replay, target_name, tree_of, value_at, with_mark}
use Rattle.fast_export.specs.ExportTexts.{is_among}
use Rattle.fast_export.specs.Laws.{has_no_zero, head_at_last}
use Rattle.fast_export.specs.TagLaws.{AreTagsOf, IsTagOf}
use Rattle.fast_export.proofs.Changing.{last_turn}
use Rattle.fast_export.proofs.Goings.{Reads, Read, Limited, NoLimit, is_command, later}
use Rattle.fast_export.proofs.ReadLines.{left}
use Rattle.fast_export.proofs.ReadingAgain.{head_is, left_whole, room_of}
use Rattle.fast_export.proofs.TagReads.{IsRead, tag_lines, tag_turn_reads}
use Rattle.fast_export.proofs.TagsAgain.{given_is, holds, no_tags, same_tag, tag_longer, tags_lines, tags_text_lines, writable}
use Rattle.incremental_export.specs.Changes.{ChangingLaw}
use Rattle.incremental_export.specs.ChangeTexts.{changes_text}
use Rattle.incremental_export.specs.Laws.{AreNewUpon}
use Rattle.incremental_export.specs.TagLaws.{IsTaggedUpon, TaggedUponLaw, tagged_changes}
use Rattle.incremental_export.proofs.UponGoings.{on_end, on_told, on_told_limit, result}
use Rattle.incremental_export.proofs.UponReading.{end_room, has_tree, whole_arrives}
use Rattle.incremental_export.proofs.UponTexts.{changes_lines, whole_lines}

module _ (base : Base) where
  one_step : (cs : List Snapshot) (s : Replay) (us : List Tag) (t : Tag) (p : Placed) → s.commits ≡ cs → is_among t.target.0 (map snapshot_name cs) ≡ true → IsRead t p.command →
      step base (holds s us) p ≡ Ok (holds s (put_tag t us))
  one_step cs s us t p e among k =
      let h : TagHead = k.0 in
      let tree : is_some (value_at t.target.0 (map named_tree s.commits ++ base.commits)) ≡ true =
      ap (λ (ds : List Snapshot). is_some (value_at t.target.0 (map named_tree ds ++ base.commits))) e ∙ has_tree t.target.0 cs base.commits among in
      ap (command_step base (holds s us) p.at) k.1
      ∙ ap (λ x. (or_refuse (Unresolved h.from.at) (target_name base (holds s us) x) >>= λ n. must (Unresolved h.from.at) (is_some (tree_of base (holds s us) n)) >>= λ u. Ok n) >>= λ n. Ok (tagged h n (holds s us))) k.2.from
      ∙ ap (λ b. (must (Unresolved h.from.at) b >>= λ u. Ok t.target.0) >>= λ n. Ok (tagged h n (holds s us))) tree
      ∙ ap (λ m. Ok (with_mark m TagMark (holds s (put_tag (tag_of h t.target.0) us)))) k.2.mark
      ∙ ap (λ (u : Tag). Ok (holds s (put_tag u us))) (same_tag t h k.2)

  tags_arrive : (n : ℕ) (cs : List Snapshot) (s : Replay) → s.commits ≡ cs → n ≤ 2 ^ 28 → (us ts : List Tag) (rest : Bytes) → Each (IsTagOf cs) ts → length (tags_lines ts rest) ≤ n →
      NoLimit (result base true start (left n (tags_lines ts rest)) (holds s us)) →
      result base true start (left n (tags_lines ts rest)) (holds s us) ≡ result base true start (left n rest) (holds s (with_tags us ts))
  tags_arrive n cs s e most us [] rest h l none = refl
  tags_arrive n cs s e most us (t ∷ ts) rest h l none =
      by (λ m. tags_arrive n cs s e most (put_tag t us) ts rest h.1 (let longer = tag_longer t (tags_lines ts rest) in omega arith) m)
      (tag_turn_reads t n (tags_lines ts rest) (room_of n (tags_lines (t ∷ ts) rest) l most) (writable cs t h.0))
    where
      after : Bytes
      after = tags_lines ts rest

      by : (NoLimit (result base true start (left n after) (holds s (put_tag t us))) →
          result base true start (left n after) (holds s (put_tag t us)) ≡ result base true start (left n rest) (holds s (with_tags us (t ∷ ts)))) →
          Reads (turn tagged_start true (left n (tag_lines t after))) (is_command (IsRead t) tagged_start) (left n after) →
          result base true start (left n (tag_lines t after)) (holds s us) ≡ result base true start (left n rest) (holds s (with_tags us (t ∷ ts)))
      by next (Limited at which f) = absurd (none at which (on_told_limit base tagged_start (left n (tag_lines t after)) (holds s us) at which f))
      by next (Read x f g) =
          let there : result base true start (left n (tag_lines t after)) (holds s us) ≡ result base true start (left n after) (holds s (put_tag t us)) =
          on_told base tagged_start tagged_start (left n (tag_lines t after)) (left n after) (holds s us) g.0 (f ∙ ap (λ y. Ok (y, left n after)) g.1)
          ∙ ap (later (result base true start (left n after))) (one_step cs s us t g.0 e h.0.target g.2) in
          there ∙ next (subst NoLimit there none)

  -- ---- the law

  abbrev Left : Bytes → Result Replay StreamFault
  Left t = reached (ran_in tagged_start base t).state (ran_in tagged_start base t).fault

  -- what a stream gives with its tags, by the state that replaying leaves
  left_is : (t : Bytes) → tagged_replay base t ≡ (Left t >>= λ s. Ok (tagged_given s))
  left_is t = given_is (ran_in tagged_start base t).state (ran_in tagged_start base t).fault

  free_before : (t : Bytes) → NoLimit (tagged_replay base t) → NoLimit (Left t)
  free_before t none at which e = none at which (left_is t ∙ ap (λ o. o >>= λ s. Ok (tagged_given s)) e)

  again_by : (text : Bytes) (cs : List Snapshot) (ref : Bytes) (ts : List Tag) (q : Replay) → Left text ≡ Ok q → q.commits ≡ cs → heads_of q ≡ head_at_last ref cs → q.tags ≡ ts → IsTaggedUpon base text cs ref ts
  again_by text cs ref ts q e commits heads tags = record {
    given = tagged_given q;
    read = left_is text ∙ ap (λ o. o >>= λ s. Ok (tagged_given s)) e;
    commits = commits;
    heads = heads;
    tags = tags;
  }

  module _ (turning : ChangingLaw) (tree_of : Bytes → Flat) where
    text_lines : (c : Snapshot) (cs : List Snapshot) (ref : Bytes) (ts : List Tag) → tagged_changes tree_of (c ∷ cs) ref ts ≡ whole_lines tree_of ref (c ∷ cs) (tags_lines ts [])
    text_lines c cs ref ts = changes_lines tree_of c cs ref (tags_text ts) ∙ ap (λ (u : Bytes). whole_lines tree_of ref (c ∷ cs) u) (sym (append-nil (tags_text ts)) ∙ tags_text_lines ts [])

    some_again : (c : Snapshot) (cs : List Snapshot) (ref : Bytes) (ts : List Tag) → AreNewUpon tree_of base [] (c ∷ cs) → is_ref_name ref ≡ true → has_no_zero (c ∷ cs) ≡ true → AreTagsOf (c ∷ cs) ts →
        length (tagged_changes tree_of (c ∷ cs) ref ts) ≤ 2 ^ 28 → NoLimit (Left (tagged_changes tree_of (c ∷ cs) ref ts)) → IsTaggedUpon base (tagged_changes tree_of (c ∷ cs) ref ts) (c ∷ cs) ref ts
    some_again c cs ref ts h name z tags most none =
        let t = whole_lines tree_of ref (c ∷ cs) (tags_lines ts []) in
        let n = length t in
        let same = text_lines c cs ref ts in
        let input : result base true start (left n t) nothing_yet ≡ Left (tagged_changes tree_of (c ∷ cs) ref ts) = ap (λ i. result base true start i nothing_yet) (left_whole t) ∙ ap Left (sym same) in
        let small : n ≤ 2 ^ 28 = subst (λ (t : Bytes). length t ≤ 2 ^ 28) same most in
        let free : NoLimit (result base true start (left n t) nothing_yet) = subst NoLimit (sym input) none in
        let a = whole_arrives turning tree_of base n ref c cs (tags_lines ts []) name h z (omega arith) small true free in
        let d = a.such in
        let bare : a.state ≡ holds a.state [] = λ i. record a.state { tags = d.tags i } in
        let at_tags : result base true start (left n t) nothing_yet ≡ result base true start (left n (tags_lines ts [])) (holds a.state []) = a.same ∙ ap (λ (s : Replay). result base true start (left n (tags_lines ts [])) s) bare in
        let within : length (tags_lines ts []) ≤ n = let f = (end_room turning tree_of base n ref c cs (tags_lines ts []) (omega arith) small).fits in omega arith in
        let there = tags_arrive n (c ∷ cs) a.state d.commits small [] ts [] tags.each within (subst NoLimit at_tags free) in
        again_by (tagged_changes tree_of (c ∷ cs) ref ts) (c ∷ cs) ref ts (holds a.state (with_tags [] ts))
        (sym input ∙ at_tags ∙ there ∙ on_end base true start (left n []) (holds a.state (with_tags [] ts)) start (left n []) (last_turn n (room_of n [] (omega arith) small)))
        d.commits (head_is ref c cs a.state d) (put_in_order ts tags.order)

    nothing_again : (ref : Bytes) → IsTaggedUpon base (tagged_changes tree_of [] ref []) [] ref []
    unfolding changes_text
    nothing_again ref =
        again_by [] [] ref [] nothing_yet (on_end base true start (left 0 []) nothing_yet start (left 0 []) (last_turn 0 (room_of 0 [] (omega arith) (omega arith)))) refl refl refl

pub tagged_upon : ChangingLaw → TaggedUponLaw
tagged_upon turning tree_of base [] ref ts h name z tags most none =
    subst (λ (ts : List Tag). IsTaggedUpon base (tagged_changes tree_of [] ref ts) [] ref ts) (sym (no_tags ts tags.each)) (nothing_again base turning tree_of ref)
tagged_upon turning tree_of base (c ∷ cs) ref ts h name z tags most none =
    some_again base turning tree_of c cs ref ts h name z tags most (free_before base (tagged_changes tree_of (c ∷ cs) ref ts) none)

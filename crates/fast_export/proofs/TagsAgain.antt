-- What is exported with tags is read again.
use Rattle.std.proofs.Common.{◌≡◌, ◌^◌, ◌<◌, ◌≤◌, ℕ, true, false, ◌||◌, List, [], ◌∷◌, ◌++◌, length, map, refl, sym, ap, ◌∙◌, subst, Option, Some, None, Result, Ok, append_assoc, append-nil, arith, length-append}
use Rattle.std.specs.Prelude.{codes}
use Rattle.std.specs.Option.{is_some}
use Rattle.std.specs.Fmt.{decimal}
use Rattle.std.specs.Cmp.Lexicographic.{bytes_decides}
use Rattle.git_objects.specs.Bodies.{is_name}
use Rattle.git_objects.specs.Commits.{commit_name, hex}
use Rattle.git_objects.specs.Lists.{Each}
use Rattle.git_objects.specs.Paths.{Bytes, same_bytes}
use Rattle.git_objects.specs.Results.{◌>>=◌, must, or_refuse}
use Rattle.git_objects.specs.Snapshots.{Snapshot, snapshot_name}
use Rattle.git_objects.proofs.Digests.{name-is_name}
use Rattle.path_names.specs.RefNames.{is_ref_name}
use Rattle.stream_reader.specs.Commands.{turn}
use Rattle.stream_reader.specs.Verdicts.{start, tagged_start}
use Rattle.stream_reader.specs.declared.command.Placed.{Placed}
use Rattle.stream_reader.specs.declared.command.TagHead.{TagHead}
use Rattle.stream_reader.specs.declared.fault.StreamFault.{StreamFault}
use Rattle.stream_reader.specs.declared.fault.StreamFault.TheVariants.{Unresolved}
use Rattle.tag_objects.specs.TagLists.{put_tag, with_tags}
use Rattle.tag_objects.specs.Tags.{tag_text, tags_text}
use Rattle.tag_objects.specs.declared.tag.Tag.{Tag}
use Rattle.tag_objects.proofs.TagOrder.{put_in_order}
use Rattle.fast_import.specs.Replays.{Replay, TagMark, command_step, empty_base, heads_of, named_tree, nothing_yet, outcome_of, ran_in, reached, step, tag_of, tagged, tagged_given, tagged_replay, target_name, tree_of, value_at, with_mark}
use Rattle.fast_export.specs.ExportTexts.{export_text, is_among}
use Rattle.fast_export.specs.Laws.{IsHistory, has_no_zero, head_at_last}
use Rattle.fast_export.specs.TagLaws.{AreTagsOf, IsTagOf, IsTaggedAgain, TaggedAgainLaw, tagged_text}
use Rattle.fast_export.proofs.Changing.{last_turn}
use Rattle.fast_export.proofs.Goings.{Reads, Read, Limited, NoLimit, is_command, later, on_end, on_told, on_told_limit, result}
use Rattle.fast_export.proofs.Heads.{word_text}
use Rattle.fast_export.proofs.Marking.{has_tree}
use Rattle.fast_export.proofs.Arriving.{word_longer}
use Rattle.fast_export.proofs.ReadLines.{data_text, left}
use Rattle.fast_export.proofs.ReadingAgain.{end_room, export_lines, head_is, left_whole, room_of, whole_arrives, whole_lines}
use Rattle.fast_export.proofs.TagReads.{IsHeadOf, IsRead, IsWritable, behind_lines, tag_lines, tag_text_lines, tag_turn_reads}

-- ---- the texts of tags

abbrev pub tags_lines : List Tag → Bytes → Bytes
tags_lines [] rest = rest
tags_lines (t ∷ ts) rest = tag_lines t (tags_lines ts rest)

pub tags_text_lines : (ts : List Tag) (rest : Bytes) → tags_text ts ++ rest ≡ tags_lines ts rest
tags_text_lines [] rest = refl
tags_text_lines (t ∷ ts) rest =
    append_assoc (tag_text t) (tags_text ts) rest
    ∙ ap (λ (x : Bytes). tag_text t ++ x) (tags_text_lines ts rest)
    ∙ tag_text_lines t (tags_lines ts rest)

pub tag_longer : (t : Tag) (rest : Bytes) → length rest < length (tag_lines t rest)
tag_longer t rest =
    let d = data_text t.message rest in
    let g = word_text (codes "tagger ") t.tagger d in
    let a = word_longer (codes "tag ") t.name (behind_lines t rest) in
    let b = word_longer (codes "from ") (hex t.target.0) g in
    let c = word_longer (codes "tagger ") t.tagger d in
    omega (arith, length-append (codes "data " ++ decimal (length t.message)) (10 ∷ (t.message ++ 10 ∷ rest)), length-append t.message (10 ∷ rest))

-- ---- what is known of tags of commits

snapshot_is : (c : Snapshot) → is_name (snapshot_name c) ≡ true
unfolding commit_name
snapshot_is c = name-is_name _ _

among_named : (n : Bytes) (cs : List Snapshot) → is_among n (map snapshot_name cs) ≡ true → is_name n ≡ true
among_named n [] e = absurd cc
among_named n (c ∷ cs) e =
    elim (same_bytes n (snapshot_name c)) as (λ b. same_bytes n (snapshot_name c) ≡ b → (b || is_among n (map snapshot_name cs)) ≡ true → is_name n ≡ true) [
      | true ↦ λ f g. ap is_name ((bytes_decides n (snapshot_name c)).0 f) ∙ snapshot_is c
      | false ↦ λ f g. among_named n cs g
    ] refl e

pub writable : (cs : List Snapshot) (t : Tag) → IsTagOf cs t → IsWritable t
writable cs t h = record { name = h.name; tagger = h.tagger; target = among_named t.target.0 cs h.target; some = h.some }

-- ---- one tag

abbrev pub holds : Replay → List Tag → Replay
holds s us = record s { tags = us }

pub same_tag : (t : Tag) (h : TagHead) → IsHeadOf t h → tag_of h t.target.0 ≡ t
same_tag t h k = λ i. record { name = k.name i; target = t.target; tagger = k.tagger i; message = k.message i }

one_step : (cs : List Snapshot) (s : Replay) (us : List Tag) (t : Tag) (p : Placed) → s.commits ≡ cs → is_among t.target.0 (map snapshot_name cs) ≡ true → IsRead t p.command →
    step empty_base (holds s us) p ≡ Ok (holds s (put_tag t us))
one_step cs s us t p e among k =
    let h : TagHead = k.0 in
    let tree : is_some (value_at t.target.0 (map named_tree s.commits ++ [])) ≡ true = ap (λ (ds : List Snapshot). is_some (value_at t.target.0 (map named_tree ds ++ []))) e ∙ has_tree t.target.0 cs among in
    ap (command_step empty_base (holds s us) p.at) k.1
    ∙ ap (λ x. (or_refuse (Unresolved h.from.at) (target_name empty_base (holds s us) x) >>= λ n. must (Unresolved h.from.at) (is_some (tree_of empty_base (holds s us) n)) >>= λ u. Ok n) >>= λ n. Ok (tagged h n (holds s us))) k.2.from
    ∙ ap (λ b. (must (Unresolved h.from.at) b >>= λ u. Ok t.target.0) >>= λ n. Ok (tagged h n (holds s us))) tree
    ∙ ap (λ m. Ok (with_mark m TagMark (holds s (put_tag (tag_of h t.target.0) us)))) k.2.mark
    ∙ ap (λ (u : Tag). Ok (holds s (put_tag u us))) (same_tag t h k.2)

-- ---- all tags

tags_arrive : (n : ℕ) (cs : List Snapshot) (s : Replay) → s.commits ≡ cs → n ≤ 2 ^ 28 → (us ts : List Tag) (rest : Bytes) → Each (IsTagOf cs) ts → length (tags_lines ts rest) ≤ n →
    NoLimit (result true start (left n (tags_lines ts rest)) (holds s us)) → result true start (left n (tags_lines ts rest)) (holds s us) ≡ result true start (left n rest) (holds s (with_tags us ts))
tags_arrive n cs s e most us [] rest h l none = refl
tags_arrive n cs s e most us (t ∷ ts) rest h l none =
    by (λ m. tags_arrive n cs s e most (put_tag t us) ts rest h.1 (let longer = tag_longer t (tags_lines ts rest) in omega arith) m)
    (tag_turn_reads t n (tags_lines ts rest) (room_of n (tags_lines (t ∷ ts) rest) l most) (writable cs t h.0))
  where
    after : Bytes
    after = tags_lines ts rest

    by : (NoLimit (result true start (left n after) (holds s (put_tag t us))) → result true start (left n after) (holds s (put_tag t us)) ≡ result true start (left n rest) (holds s (with_tags us (t ∷ ts)))) →
        Reads (turn tagged_start true (left n (tag_lines t after))) (is_command (IsRead t) tagged_start) (left n after) →
        result true start (left n (tag_lines t after)) (holds s us) ≡ result true start (left n rest) (holds s (with_tags us (t ∷ ts)))
    by next (Limited at which f) = absurd (none at which (on_told_limit tagged_start (left n (tag_lines t after)) (holds s us) at which f))
    by next (Read x f g) =
        let there : result true start (left n (tag_lines t after)) (holds s us) ≡ result true start (left n after) (holds s (put_tag t us)) =
        on_told tagged_start tagged_start (left n (tag_lines t after)) (left n after) (holds s us) g.0 (f ∙ ap (λ y. Ok (y, left n after)) g.1)
        ∙ ap (later (result true start (left n after))) (one_step cs s us t g.0 e h.0.target g.2) in
        there ∙ next (subst NoLimit there none)

-- ---- the law

pub given_is : (s : Replay) (f : Option StreamFault) → (outcome_of s f >>= λ g. Ok (record { replayed = g; tags = s.tags })) ≡ (reached s f >>= λ s. Ok (tagged_given s))
given_is s None = refl
given_is s (Some f) = refl

abbrev Left : Bytes → Result Replay StreamFault
Left t = reached (ran_in tagged_start empty_base t).state (ran_in tagged_start empty_base t).fault

-- what a stream gives with its tags, by the state that replaying leaves
left_is : (t : Bytes) → tagged_replay empty_base t ≡ (Left t >>= λ s. Ok (tagged_given s))
left_is t = given_is (ran_in tagged_start empty_base t).state (ran_in tagged_start empty_base t).fault

free_before : (t : Bytes) → NoLimit (tagged_replay empty_base t) → NoLimit (Left t)
free_before t none at which e = none at which (left_is t ∙ ap (λ o. o >>= λ s. Ok (tagged_given s)) e)

again_by : (cs : List Snapshot) (ref : Bytes) (ts : List Tag) (q : Replay) → Left (tagged_text cs ref ts) ≡ Ok q → q.commits ≡ cs → heads_of q ≡ head_at_last ref cs → q.tags ≡ ts → IsTaggedAgain cs ref ts
again_by cs ref ts q e commits heads tags = record {
  given = tagged_given q;
  read = left_is (tagged_text cs ref ts) ∙ ap (λ o. o >>= λ s. Ok (tagged_given s)) e;
  commits = commits;
  heads = heads;
  tags = tags;
}

text_lines : (c : Snapshot) (cs : List Snapshot) (ref : Bytes) (ts : List Tag) → tagged_text (c ∷ cs) ref ts ≡ whole_lines ref (c ∷ cs) (tags_lines ts [])
text_lines c cs ref ts = export_lines c cs ref (tags_text ts) ∙ ap (λ (u : Bytes). whole_lines ref (c ∷ cs) u) (sym (append-nil (tags_text ts)) ∙ tags_text_lines ts [])

some_again : (c : Snapshot) (cs : List Snapshot) (ref : Bytes) (ts : List Tag) → IsHistory [] (c ∷ cs) → is_ref_name ref ≡ true → has_no_zero (c ∷ cs) ≡ true → AreTagsOf (c ∷ cs) ts → length (tagged_text (c ∷ cs) ref ts) ≤ 2 ^ 28 →
    NoLimit (Left (tagged_text (c ∷ cs) ref ts)) → IsTaggedAgain (c ∷ cs) ref ts
some_again c cs ref ts h name z tags most none =
    let t = whole_lines ref (c ∷ cs) (tags_lines ts []) in
    let n = length t in
    let same = text_lines c cs ref ts in
    let input : result true start (left n t) nothing_yet ≡ Left (tagged_text (c ∷ cs) ref ts) = ap (λ i. result true start i nothing_yet) (left_whole t) ∙ ap Left (sym same) in
    let small : n ≤ 2 ^ 28 = subst (λ (t : Bytes). length t ≤ 2 ^ 28) same most in
    let free : NoLimit (result true start (left n t) nothing_yet) = subst NoLimit (sym input) none in
    let a = whole_arrives n ref c cs (tags_lines ts []) name h z (omega arith) small true free in
    let d = a.such in
    let bare : a.state ≡ holds a.state [] = λ i. record a.state { tags = d.tags i } in
    let at_tags : result true start (left n t) nothing_yet ≡ result true start (left n (tags_lines ts [])) (holds a.state []) = a.same ∙ ap (λ (s : Replay). result true start (left n (tags_lines ts [])) s) bare in
    let within : length (tags_lines ts []) ≤ n = let f = (end_room n ref c cs (tags_lines ts []) (omega arith) small).fits in omega arith in
    let there = tags_arrive n (c ∷ cs) a.state d.commits small [] ts [] tags.each within (subst NoLimit at_tags free) in
    again_by (c ∷ cs) ref ts (holds a.state (with_tags [] ts))
    (sym input ∙ at_tags ∙ there ∙ on_end true start (left n []) (holds a.state (with_tags [] ts)) start (left n []) (last_turn n (room_of n [] (omega arith) small)))
    d.commits (head_is ref c cs a.state d) (put_in_order ts tags.order)

pub no_tags : (ts : List Tag) → Each (IsTagOf []) ts → ts ≡ []
no_tags [] h = refl
no_tags (t ∷ ts) h = absurd (never (h.0).target)
  where
    never : false ≡ true → ⊥
    never e = cc

nothing_again : (ref : Bytes) → IsTaggedAgain [] ref []
unfolding export_text
nothing_again ref = again_by [] ref [] nothing_yet (on_end true start (left 0 []) nothing_yet start (left 0 []) (last_turn 0 (room_of 0 [] (omega arith) (omega arith)))) refl refl refl

pub tagged_again_law : TaggedAgainLaw
tagged_again_law [] ref ts h name z tags most none = subst (IsTaggedAgain [] ref) (sym (no_tags ts tags.each)) (nothing_again ref)
tagged_again_law (c ∷ cs) ref ts h name z tags most none = some_again c cs ref ts h name z tags most (free_before (tagged_text (c ∷ cs) ref ts) none)

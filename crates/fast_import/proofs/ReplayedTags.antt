-- What the tags of a replay are, command by command.
use Rattle.std.proofs.Common.{◌≡◌, Bool, true, false, ℕ, List, [], ◌∷◌, ◌++◌, map, Option, Some, None, Result, Ok, Err, refl, subst}
use Rattle.std.specs.Prelude.{◌≤◌, if◌then◌else◌, length}
use Rattle.std.specs.FinMap.Entries.{by_order}
use Rattle.std.specs.Option.{is_some, option_to_list}
use Rattle.std.specs.declared.cmp.Ordering.{Ordering}
use Rattle.std.specs.declared.cmp.Ordering.TheVariants.{Less, Equal, Greater}
use Rattle.git_objects.specs.Idents.{is_ident}
use Rattle.git_objects.specs.Lists.{Each}
use Rattle.git_objects.specs.Paths.{Bytes, same_bytes}
use Rattle.git_objects.specs.Refs.{bytes_cmp}
use Rattle.git_objects.specs.Results.{◌>>=◌, or_refuse, must}
use Rattle.git_objects.specs.Snapshots.{Snapshot, snapshot_name}
use Rattle.git_objects.specs.declared.limits.TheConstants.{MESSAGE_BYTES}
use Rattle.stream_lex.specs.Lines.{Input}
use Rattle.stream_reader.specs.Laws.{SpellingLaw}
use Rattle.stream_reader.specs.Spelling.{Spells, SpellsAll, behind}
use Rattle.stream_reader.specs.Verdicts.{Verdict, from_start, tagged_start, verdict}
use Rattle.stream_reader.specs.declared.command.Command.{Command}
use Rattle.stream_reader.specs.declared.command.Command.TheVariants as commands
use Rattle.stream_reader.specs.declared.command.Placed.{Placed}
use Rattle.stream_reader.specs.declared.command.TagHead.{TagHead}
use Rattle.stream_reader.specs.declared.commit_ref.CommitRef.{CommitRef}
use Rattle.stream_reader.specs.declared.fault.StreamFault.{StreamFault}
use Rattle.stream_reader.specs.declared.fault.StreamFault.TheVariants.{Syntax, Unresolved}
use Rattle.stream_reader.specs.declared.progress.Manner.{Manner}
use Rattle.stream_reader.specs.declared.progress.Phase.{Phase}
use Rattle.stream_reader.specs.declared.progress.Phase.TheVariants.{Between, InCommit, Finished}
use Rattle.stream_reader.specs.declared.progress.Progress.{Progress}
use Rattle.tag_objects.specs.Laws.{PuttingLaw}
use Rattle.tag_objects.specs.TagLists.{put_tag}
use Rattle.tag_objects.specs.TagNames.{is_tag_name}
use Rattle.tag_objects.specs.declared.tag.Tag.{Tag}
use Rattle.fast_import.specs.Replays.{Base, BlobMark, Draft, Marked, Replay, TagMark, TaggedReplayed, begun, command_step, commit_of, committed, edited, entered, first_parent, gone_on, inline_blob, known, named_tree, nothing_yet, outcome_of, ran_by, ran_in, said, step, tag_of, tagged, tagged_given, target_name, tree_of, value_at, with_branch, with_mark, with_merges}
use Rattle.fast_import.specs.TagLaws.{AreReplayedTags, IsReplayedTag, ReplayedTagsLaw}

-- ---- what a reader gives

-- what a tag that is read has
pub record IsReadTag (h : TagHead) : Type 0 where
  pub name : is_tag_name h.name ≡ true
  pub tagger : is_ident h.tagger ≡ true
  pub message : length h.message ≤ MESSAGE_BYTES

abbrev IsRead : Command → Type 0
IsRead (commands.Tag h) = IsReadTag h
IsRead c = Unit {0}

one_read : (d : Manner) (p : Phase) (i : Input) (at : ℕ) (c : Command) (j : Input) → Spells d p i at c j → IsRead c
one_read d Between i at (commands.Tag h) j s = let t = s.3 in record { name = t.named; tagger = t.ident; message = t.message.within }
one_read d InCommit i at (commands.Tag h) j s = absurd s
one_read d Finished i at (commands.Tag h) j s = absurd s
one_read d p i at (commands.Blob m b) j s = tt
one_read d p i at (commands.Commit h) j s = tt
one_read d p i at (commands.Change c) j s = tt
one_read d p i at commands.CommitEnd j s = tt
one_read d p i at (commands.Reset r f) j s = tt
one_read d p i at commands.Done j s = tt

all_read : (cs : List Placed) (p : Progress) (i : Input) → SpellsAll cs p i → Each (λ c. IsRead c.command) cs
all_read [] p i s = tt
all_read (c ∷ cs) p i s =
    let q = s.0 in let k = s.1 in let j = s.2 in
    (one_read q.manner q.phase k c.at c.command j s.4, all_read cs (behind q c.command) j s.5)

-- ---- one more tag, and one more commit

put_each : (P : Tag → Type 0) (t : Tag) (us : List Tag) → P t → Each P us → Each P (put_tag t us)
put_each P t [] h g = (h, tt)
put_each P t (u ∷ us) h g = by (bytes_cmp t.name u.name) (put_each P t us h g.1)
  where
    by : (o : Ordering) → Each P (put_tag t us) → Each P (by_order o (t ∷ u ∷ us) (t ∷ us) (u ∷ put_tag t us))
    by Less k = (h, g)
    by Equal k = (h, g.1)
    by Greater k = (g.0, k)

first_or : {A : Type 0} (b : Bool) (x : A) (o p : Option A) → (is_some o ≡ true → is_some p ≡ true) → is_some (if b then Some x else o) ≡ true → is_some (if b then Some x else p) ≡ true
first_or true x o p f h = refl
first_or false x o p f h = f h

still_there : (base : Base) (cs : List Snapshot) (c : Snapshot) (n : Bytes) → is_some (value_at n (map named_tree cs ++ base.commits)) ≡ true → is_some (value_at n (map named_tree (cs ++ c ∷ []) ++ base.commits)) ≡ true
still_there base [] c n h = by (same_bytes (snapshot_name c) n)
  where
    by : (b : Bool) → is_some (if b then Some c.tree else value_at n base.commits) ≡ true
    by true = refl
    by false = h
still_there base (d ∷ cs) c n h =
    first_or (same_bytes (snapshot_name d) n) d.tree (value_at n (map named_tree cs ++ base.commits)) (value_at n (map named_tree (cs ++ c ∷ []) ++ base.commits)) (still_there base cs c n) h

each_still : (base : Base) (cs : List Snapshot) (c : Snapshot) (ts : List Tag) → Each (IsReplayedTag base cs) ts → Each (IsReplayedTag base (cs ++ c ∷ [])) ts
each_still base cs c [] h = tt
each_still base cs c (t ∷ ts) h =
    (record { name = h.0.name; target = still_there base cs c t.target.0 h.0.target; tagger = h.0.tagger; message = h.0.message }, each_still base cs c ts h.1)

-- ---- one command

module _ (law : PuttingLaw) (base : Base) where
  abbrev Holds : Replay → Type 0
  Holds r = AreReplayedTags base r.commits r.tags

  mark_holds : (m : Option ℕ) (x : Marked) (r : Replay) → Holds r → Holds (with_mark m x r)
  mark_holds None x r h = h
  mark_holds (Some n) x r h = h

  -- a commit that a line names is there
  known_there : (r : Replay) (c : CommitRef) (n : Bytes) → known base r c ≡ Ok n → is_some (tree_of base r n) ≡ true
  known_there r c n e = by (target_name base r c.target) e
    where
      here : (m : Bytes) (b : Bool) → is_some (tree_of base r m) ≡ b → (must (Unresolved c.at) b >>= λ _. Ok m) ≡ Ok n → is_some (tree_of base r n) ≡ true
      here m true q g = let same : m ≡ n = cc in subst (λ (k : Bytes). is_some (tree_of base r k) ≡ true) same q
      here m false q g = let no : ⊥ = cc in absurd no

      by : (o : Option Bytes) → (or_refuse (Unresolved c.at) o >>= λ m. must (Unresolved c.at) (is_some (tree_of base r m)) >>= λ _. Ok m) ≡ Ok n → is_some (tree_of base r n) ≡ true
      by None g = let no : ⊥ = cc in absurd no
      by (Some m) g = here m (is_some (tree_of base r m)) refl g

  tag_holds : (r : Replay) (h : TagHead) (n : Bytes) → IsReadTag h → Holds r → is_some (tree_of base r n) ≡ true → Holds (tagged h n r)
  tag_holds r h n k i e =
      mark_holds h.mark TagMark (record r { tags = put_tag (tag_of h n) r.tags })
      (record {
        order = law.rises (tag_of h n) r.tags i.order;
        each = put_each (IsReplayedTag base r.commits) (tag_of h n) r.tags (record { name = k.name; target = e; tagger = k.tagger; message = k.message }) i.each;
      })

  commit_holds : (r : Replay) (d : Draft) → Holds r → Holds (committed r d)
  commit_holds r d h = by d.head.mark
    where
      by : (m : Option ℕ) → Holds (entered d.head.refname m (commit_of d) (record r { draft = None }))
      by None = record { order = h.order; each = each_still base r.commits (commit_of d) r.tags h.each }
      by (Some n) = record { order = h.order; each = each_still base r.commits (commit_of d) r.tags h.each }

  -- the state behind a command that isn't refused
  abbrev HoldsOn : Result Replay StreamFault → Type 0
  HoldsOn (Ok s) = Holds s
  HoldsOn (Err f) = Unit {0}

  bind_holds : {A : Type 0} (x : Result A StreamFault) (f : A → Result Replay StreamFault) → ((a : A) → HoldsOn (f a)) → HoldsOn (x >>= f)
  bind_holds (Ok a) f k = k a
  bind_holds (Err e) f k = tt

  step_holds : (r : Replay) (at : ℕ) (c : Command) → IsRead c → Holds r → HoldsOn (command_step base r at c)
  step_holds r at (commands.Blob m b) k i = mark_holds m (BlobMark b) (record r { blobs = r.blobs ++ b ∷ [] }) i
  step_holds r at (commands.Commit h) k i =
      bind_holds (first_parent base r h) (λ first. with_merges base r (option_to_list first) h.merges >>= λ parents. Ok (begun base r h first parents))
      (λ first. bind_holds (with_merges base r (option_to_list first) h.merges) (λ parents. Ok (begun base r h first parents)) (λ parents. i))
  step_holds r at (commands.Change c) k i =
      bind_holds (or_refuse (Syntax at) r.draft) (λ d. edited base r at d.tree c >>= λ t. Ok (record r { blobs = r.blobs ++ inline_blob c; draft = Some (record d { tree = t }) }))
      (λ d. bind_holds (edited base r at d.tree c) (λ t. Ok (record r { blobs = r.blobs ++ inline_blob c; draft = Some (record d { tree = t }) })) (λ t. i))
  step_holds r at commands.CommitEnd k i = bind_holds (or_refuse (Syntax at) r.draft) (λ d. Ok (committed r d)) (λ d. commit_holds r d i)
  step_holds r at (commands.Reset refname from) k i = bind_holds (said base r from) (λ n. Ok (with_branch refname n r)) (λ n. i)
  step_holds r at (commands.Tag h) k i = by (known base r h.from) refl
    where
      by : (x : Result Bytes StreamFault) → known base r h.from ≡ x → HoldsOn (x >>= λ n. Ok (tagged h n r))
      by (Ok n) e = tag_holds r h n k i (known_there r h.from n e)
      by (Err f) e = tt
  step_holds r at commands.Done k i = i

  -- ---- commands in a row

  run_holds : (ps : List Placed) (end : Option StreamFault) (r : Replay) → Each (λ p. IsRead p.command) ps → Holds r → Holds (ran_by (step base) end r ps).state
  run_holds [] end r k i = i
  run_holds (p ∷ ps) end r k i = by (step base r p) (step_holds r p.at p.command k.0 i) (λ s h. run_holds ps end s k.1 h)
    where
      by : (x : Result Replay StreamFault) → HoldsOn x → ((s : Replay) → Holds s → Holds (ran_by (step base) end s ps).state) → Holds (gone_on p r (λ s. ran_by (step base) end s ps) x).state
      by (Ok s) h next = next s h
      by (Err f) h next = i

-- ---- a whole stream

-- a replay without a fault is one of a stream that is read without a fault
read_whole : (base : Base) (ps : List Placed) (end : Option StreamFault) (r : Replay) → (ran_by (step base) end r ps).fault ≡ None → end ≡ None
read_whole base [] end r e = e
read_whole base (p ∷ ps) end r e = by (step base r p) (λ s. read_whole base ps end s) e
  where
    by : (x : Result Replay StreamFault) → ((s : Replay) → (ran_by (step base) end s ps).fault ≡ None → end ≡ None) → (gone_on p r (λ s. ran_by (step base) end s ps) x).fault ≡ None → end ≡ None
    by (Ok s) next h = next s h
    by (Err f) next h = let no : ⊥ = cc in absurd no

tags_from : (P : TaggedReplayed → Type 0) (r : Replay) (f : Option StreamFault) (g : TaggedReplayed) → (outcome_of r f >>= λ x. Ok (record { replayed = x; tags = r.tags })) ≡ Ok g → (f ≡ None → P (tagged_given r)) → P g
tags_from P r None g e h = let same : tagged_given r ≡ g = cc in subst P same (h refl)
tags_from P r (Some f) g e h = let no : ⊥ = cc in absurd no

pub replayed_tags : PuttingLaw → SpellingLaw → ReplayedTagsLaw
replayed_tags put spelling base all g e =
    let v : Verdict = verdict tagged_start all in
    tags_from (λ (x : TaggedReplayed). AreReplayedTags base x.replayed.commits x.tags) (ran_in tagged_start base all).state (ran_in tagged_start base all).fault g e
    (λ q. let w : v.fault ≡ None = read_whole base v.commands v.fault nothing_yet q in
    run_holds put base v.commands v.fault nothing_yet
    (all_read v.commands tagged_start (from_start all) ((spelling.whole tagged_start all v.commands).0 (λ i. record { commands = v.commands; fault = w i })))
    (record { order = refl; each = tt }))

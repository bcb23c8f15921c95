-- What an incremental export writes is read again upon a base.
use Rattle.std.proofs.Common.{◌≡◌, inl, ℕ, ◌+◌, ◌-◌, ◌^◌, ◌<◌, ◌≤◌, Bool, true, false, cond, not, ◌||◌, T, List, [], ◌∷◌, ◌++◌, length, map, filter, refl, sym, ap, ◌∙◌, subst, Some, Ok, append_assoc, append-nil, arith, length-append}
use Rattle.std.specs.Prelude.{codes, if◌then◌else◌}
use Rattle.std.specs.Option.{is_none, is_some}
use Rattle.std.specs.List.{list_all}
use Rattle.std.specs.Cmp.{first_so, second_so}
use Rattle.git_objects.specs.Lists.{Each}
use Rattle.git_objects.specs.Paths.{Bytes, Path, is_path, same_bytes}
use Rattle.git_objects.specs.Results.{◌>>=◌}
use Rattle.git_objects.specs.Snapshots.{Snapshot, snapshot_name}
use Rattle.git_objects.specs.Trees.{Flat, IsTree, at, is_leaf}
use Rattle.git_objects.proofs.Basics.{first, second, same_bytes-back}
use Rattle.git_objects.proofs.IdentSpelling.{not-false}
use Rattle.path_names.specs.RefNames.{is_ref_name}
use Rattle.stream_reader.specs.Verdicts.{start}
use Rattle.fast_import.specs.Replays.{Base, BlobMark, CommitMark, Replay, given_by, marked, named_tree, nothing_yet, ran, replay, value_at, with_branch}
use Rattle.fast_export.specs.ExportTexts.{Marks, is_among, further, new_blobs, no_marks}
use Rattle.fast_export.specs.Given.{with_blobs}
use Rattle.fast_export.specs.Laws.{has_no_zero, is_zero_module}
use Rattle.fast_export.proofs.Arriving.{After, Few, One, T-true, Ready, Standing, few_mark, leaves_longer, put_one, room_less, word_longer}
use Rattle.fast_export.proofs.Changing.{last_turn, skip_turn}
use Rattle.fast_export.proofs.Goings.{NoLimit, Stepped}
use Rattle.fast_export.proofs.Heads.{IsMark, colon, is_reset, reset_from_turn, word_text}
use Rattle.fast_export.proofs.Marking.{blobs_marked, contents, leaf_blobs, none_marked}
use Rattle.fast_export.proofs.ReadLines.{Room, left}
use Rattle.fast_export.proofs.ReadingAgain.{Done, blobs_few, blobs_room, few_next, head_is, last_among, last_of, left_whole, outcome_is, room_of, start_longer}
use Rattle.fast_export.proofs.Texts.{leaves_lines, start_lines}
use Rattle.incremental_export.specs.Changes.{ChangingLaw, changed, deleted, stands_in}
use Rattle.incremental_export.specs.ChangeTexts.{changes_text, commits_text, gone, marks_after, marks_behind, new, tree_upon}
use Rattle.incremental_export.specs.Laws.{AreNewUpon, IsParent, IsReadUpon, ReadUponLaw}
use Rattle.incremental_export.proofs.UponChanges.{deletes_longer}
use Rattle.incremental_export.proofs.UponCommits.{IsGood, IsSound, blobs_arrive, body_arrives, commit_longer, start_arrives}
use Rattle.incremental_export.proofs.UponGoings.{Arrives, arrives_so, command_goes, goes, on_end, result, skips}
use Rattle.incremental_export.proofs.UponSteps.{reset_number_step}
use Rattle.incremental_export.proofs.UponTexts.{body_lines, change_lines, changes_lines, commits_lines, end_lines, history_text, one_lines, whole_lines}

change_longer : (blobs : List (ℕ × Bytes)) (ds : List Path) (es : Flat) (rest : Bytes) → length (10 ∷ rest) ≤ length (change_lines blobs ds es rest)
change_longer blobs ds es rest = omega (arith, leaves_longer blobs es (10 ∷ rest), deletes_longer ds (leaves_lines blobs es (10 ∷ rest)))

-- ---- what is known of a commit's changes

each_kept : {A : Type 0} (P : A → Type 0) (q : A → Bool) (xs : List A) → Each P xs → Each P (filter q xs)
each_kept P q [] h = tt
each_kept P q (x ∷ xs) h = elim (q x) as (λ b. Each P (cond b (x ∷ filter q xs) (filter q xs))) [ true ↦ (h.0, each_kept P q xs h.1) | false ↦ each_kept P q xs h.1 ]

all_paths : (t : Flat) → T (list_all (λ e. is_path e.0) t) → Each (λ e. is_path e.0 ≡ true) t
all_paths [] h = tt
all_paths (e ∷ t) h = (T-true (is_path e.0) (first (is_path e.0) _ h), all_paths t (second (is_path e.0) _ h))

firsts : (t : Flat) → Each (λ e. is_path e.0 ≡ true) t → Each (λ p. is_path p ≡ true) (map (λ e. e.0) t)
firsts [] h = tt
firsts (e ∷ t) h = (h.0, firsts t h.1)

pub deletes_are : (a b : Flat) → IsTree a → Each (λ p. is_path p ≡ true) (deleted a b)
deletes_are a b h = firsts (filter (λ e. is_none (at b e.0)) a) (each_kept (λ e. is_path e.0 ≡ true) (λ e. is_none (at b e.0)) a (all_paths a h.paths))

all_sound : (t : Flat) → T (list_all (λ e. is_path e.0) t) → T (list_all (λ e. is_leaf e.1) t) → list_all (λ e. not (is_zero_module e.1)) t ≡ true → Each IsSound t
all_sound [] p l z = tt
all_sound (e ∷ t) p l z = (
  record { path = first (is_path e.0) _ p; leaf = first (is_leaf e.1) _ l; zero = not-false (is_zero_module e.1) (first_so _ _ z) },
  all_sound t (second (is_path e.0) _ p) (second (is_leaf e.1) _ l) (second_so _ _ z),
)

puts_are : (a b : Flat) → IsTree b → list_all (λ e. not (is_zero_module e.1)) b ≡ true → Each IsSound (changed a b)
puts_are a b h z = each_kept IsSound (λ e. not (stands_in a e)) b (all_sound b h.paths h.leaves z)

empty_tree : IsTree []
empty_tree = record { sorted = tt; paths = tt; leaves = tt; apart = tt }

upon_tree : (tree_of : Bytes → Flat) (base : Base) (made : List Snapshot) (ps : List Bytes) → Each (IsParent tree_of base made) ps → IsTree (tree_upon tree_of ps)
upon_tree tree_of base made [] h = empty_tree
upon_tree tree_of base made (p ∷ ps) h = h.0.tree

module _ (turning : ChangingLaw) (tree_of : Bytes → Flat) (base : Base) where
  pub good_of : (made : List Snapshot) (m : Marks) (c : Snapshot) (cs : List Snapshot) → AreNewUpon tree_of base made (c ∷ cs) → has_no_zero (c ∷ cs) ≡ true →
      IsGood tree_of base made (m.blobs ++ new_blobs m (new tree_of c)) c
  good_of made m c cs h z =
      let upon = upon_tree tree_of base made c.parents h.3 in
      record {
        signed = record { by = h.1; of = h.2 };
        deletes = deletes_are (tree_upon tree_of c.parents) c.tree upon;
        files = blobs_marked m.blobs m.next (new tree_of c);
        puts = puts_are (tree_upon tree_of c.parents) c.tree h.0 (first_so _ _ z);
        parents = h.3;
        turned = turning (tree_upon tree_of c.parents) c.tree upon h.0;
      }

-- ---- one commit

module _ (tree_of : Bytes → Flat) (base : Base) (n : ℕ) (ref : Bytes) (made : List Snapshot) (m : Marks) (c : Snapshot) (rest : Bytes) where
  abbrev number : ℕ
  number = m.next + length (new_blobs m (new tree_of c))

  abbrev blobs : List (ℕ × Bytes)
  blobs = m.blobs ++ new_blobs m (new tree_of c)

  abbrev lines : Bytes
  lines = body_lines tree_of ref (with_blobs m (new tree_of c)) c rest

  abbrev text : Bytes
  text = start_lines ref c.parents (body_lines tree_of ref (with_blobs m (new tree_of c)) c rest)

  one_few : Few n m.next (one_lines tree_of ref m c rest) → Few n (m.next + length (new_blobs m (new tree_of c))) text
  one_few f = blobs_few n (further (contents m.blobs) (leaf_blobs (new tree_of c))) m.next text f

  one_room : Room n (one_lines tree_of ref m c rest) → Room n text
  one_room r = blobs_room n (further (contents m.blobs) (leaf_blobs (new tree_of c))) m.next text r

  one_longer : length rest < length text
  one_longer =
      let t = change_lines blobs (gone tree_of c) (new tree_of c) rest in
      let a : length (10 ∷ rest) ≤ length t = change_longer blobs (gone tree_of c) (new tree_of c) rest in
      let b : length t < length lines = commit_longer ref number c.letter m.commits c.parents t in
      let d : length lines ≤ length text = start_longer ref c.parents lines in
      omega arith

  one_arrives : (s : Replay) → is_ref_name ref ≡ true → IsGood tree_of base made (m.blobs ++ new_blobs m (new tree_of c)) c → Room n (one_lines tree_of ref m c rest) → Few n m.next (one_lines tree_of ref m c rest) →
      Standing ref made m.blobs m.commits m.next s →
      Arrives base start (left n (one_lines tree_of ref m c rest)) s start (left n rest)
      (After ref made (m.blobs ++ new_blobs m (new tree_of c)) m.commits (m.next + length (new_blobs m (new tree_of c))) c)
  one_arrives s name good r f h =
      let r1 = one_room r in
      let f1 = one_few f in
      let r2 : Room n lines = room_less n text lines r1 (start_longer ref c.parents lines) in
      let goal : Replay → Type 0 = After ref made blobs m.commits number c in
      goes base start start start (left n (one_lines tree_of ref m c rest)) (left n text) (left n rest) s (Standing ref made blobs m.commits number) goal
      (blobs_arrive base n ref made (further (contents m.blobs) (leaf_blobs (new tree_of c))) m.blobs m.commits m.next text s r f h)
      (λ u g. goes base start start start (left n text) (left n lines) (left n rest) u (Ready ref made blobs m.commits number c.parents) goal
      (start_arrives base n ref made blobs m.commits number c.parents _ u name r1 g)
      (λ v k. body_arrives tree_of base n ref made blobs m.commits number c rest v name good (few_mark n number text f1 r.most) r2 k.0 k.1))

-- ---- all commits

record Whole (tree_of : Bytes → Flat) (ref : Bytes) (made : List Snapshot) (m : Marks) (c : Snapshot) (cs : List Snapshot) (s : Replay) : Type 0 where
  commits : s.commits ≡ made ++ c ∷ cs
  branches : One ref s.branches
  tags : s.tags ≡ []
  number : ℕ
  same : (marks_behind tree_of m (c ∷ cs)).next - 1 ≡ number
  mark : IsMark number
  last : marked number s.marks ≡ Some (CommitMark (snapshot_name (last_of c cs)))

module _ (turning : ChangingLaw) (tree_of : Bytes → Flat) (base : Base) where
  commits_arrive : (n : ℕ) (ref : Bytes) (made : List Snapshot) (m : Marks) (c : Snapshot) (cs : List Snapshot) (rest : Bytes) (s : Replay) → is_ref_name ref ≡ true → AreNewUpon tree_of base made (c ∷ cs) →
      has_no_zero (c ∷ cs) ≡ true → Room n (commits_lines tree_of ref m (c ∷ cs) rest) → Few n m.next (commits_lines tree_of ref m (c ∷ cs) rest) → Standing ref made m.blobs m.commits m.next s →
      Arrives base start (left n (commits_lines tree_of ref m (c ∷ cs) rest)) s start (left n rest) (Whole tree_of ref made m c cs)
  commits_arrive n ref made m c [] rest s name h z r f st =
      let k = number tree_of base n ref made m c rest in
      let e : k + 1 - 1 ≡ k = omega arith in
      arrives_so base start start (left n (one_lines tree_of ref m c rest)) (left n rest) s (After ref made (m.blobs ++ new_blobs m (new tree_of c)) m.commits k c) (Whole tree_of ref made m c [])
      (λ u a. record {
        commits = a.standing.commits;
        branches = a.standing.branches;
        tags = a.standing.tags;
        number = k;
        same = e;
        mark = few_mark n k (text tree_of base n ref made m c rest) (one_few tree_of base n ref made m c rest f) r.most;
        last = a.last;
      })
      (one_arrives tree_of base n ref made m c rest s name (good_of turning tree_of base made m c [] h z) r f st)
  commits_arrive n ref made m c (d ∷ ds) rest s name h z r f st =
      let k = m.next + length (new_blobs m (new tree_of c)) in
      let t = commits_lines tree_of ref (marks_after tree_of m c) (d ∷ ds) rest in
      let all = text tree_of base n ref made m c t in
      let longer : length t < length all = one_longer tree_of base n ref made m c t in
      let few = few_next n k all t (one_few tree_of base n ref made m c t f) longer in
      let room = room_less n all t (one_room tree_of base n ref made m c t r) (omega arith) in
      goes base start start start (left n (one_lines tree_of ref m c t)) (left n t) (left n rest) s (After ref made (m.blobs ++ new_blobs m (new tree_of c)) m.commits k c) (Whole tree_of ref made m c (d ∷ ds))
      (one_arrives tree_of base n ref made m c t s name (good_of turning tree_of base made m c (d ∷ ds) h z) r f st)
      (λ u a. arrives_so base start start (left n t) (left n rest) u (Whole tree_of ref (made ++ c ∷ []) (marks_after tree_of m c) d ds) (Whole tree_of ref made m c (d ∷ ds))
      (λ v w. record { commits = w.commits ∙ append_assoc made (c ∷ []) (d ∷ ds); branches = w.branches; tags = w.tags; number = w.number; same = w.same; mark = w.mark; last = w.last })
      (commits_arrive n ref (made ++ c ∷ []) (marks_after tree_of m c) d ds rest u name h.4 (second_so _ _ z) room few a.standing))

-- ---- the last reset, and the end

pub has_tree : (p : Bytes) (cs : List Snapshot) (es : List (Bytes × Flat)) → is_among p (map snapshot_name cs) ≡ true → is_some (value_at p (map named_tree cs ++ es)) ≡ true
has_tree p [] es h = absurd cc
has_tree p (c ∷ cs) es h =
    elim (same_bytes (snapshot_name c) p) as (λ t. same_bytes (snapshot_name c) p ≡ t → is_some (if t then Some c.tree else value_at p (map named_tree cs ++ es)) ≡ true) [
      | true ↦ λ e. refl
      | false ↦ λ e. let f : same_bytes p (snapshot_name c) ≡ false = same_bytes-back p (snapshot_name c) ∙ e in
          has_tree p cs es (ap (λ t. t || is_among p (map snapshot_name cs)) (sym f) ∙ h)
    ] refl

end_arrives : (tree_of : Bytes → Flat) (base : Base) (n : ℕ) (ref : Bytes) (m : Marks) (c : Snapshot) (cs : List Snapshot) (k : ℕ) (rest : Bytes) (s : Replay) → is_ref_name ref ≡ true → Room n (end_lines ref k rest) →
    (w : Whole tree_of ref [] m c cs s) → k ≡ w.number → Arrives base start (left n (end_lines ref k rest)) s start (left n (10 ∷ rest)) (Done ref c cs)
end_arrives tree_of base n ref m c cs k rest s name r w e =
    let nm = snapshot_name (last_of c cs) in
    let last : marked k s.marks ≡ Some (CommitMark nm) = ap (λ k. marked k s.marks) e ∙ w.last in
    let tree : is_some (value_at nm (map named_tree s.commits ++ base.commits)) ≡ true =
    ap (λ (ds : List Snapshot). is_some (value_at nm (map named_tree ds ++ base.commits))) w.commits ∙ has_tree nm (c ∷ cs) base.commits (last_among c cs) in
    command_goes base start start (left n (end_lines ref k rest)) (left n (10 ∷ rest)) s (is_reset ref k) (Done ref c cs)
    (reset_from_turn ref k n (10 ∷ rest) r name (subst IsMark (sym e) w.mark))
    (λ p g. Stepped (with_branch ref (Some nm) s) (reset_number_step base s k p ref nm last tree g) (record { commits = w.commits; branches = put_one ref (Some nm) s.branches w.branches; tags = w.tags }))

lines_longer : (tree_of : Bytes → Flat) (ref : Bytes) (m : Marks) (cs : List Snapshot) (rest : Bytes) → length rest ≤ length (commits_text tree_of ref m cs ++ rest)
lines_longer tree_of ref m cs rest = omega (arith, length-append (commits_text tree_of ref m cs) rest)

module _ (turning : ChangingLaw) (tree_of : Bytes → Flat) (base : Base) (n : ℕ) (ref : Bytes) (c : Snapshot) (cs : List Snapshot) (rest : Bytes) where
  abbrev k : ℕ
  k = (marks_behind tree_of no_marks (c ∷ cs)).next - 1

  few : length (whole_lines tree_of ref (c ∷ cs) rest) ≤ n → Few n 1 (whole_lines tree_of ref (c ∷ cs) rest)
  few l = record { few = omega arith; some = omega arith }

  longer : length (end_lines ref k rest) ≤ length (whole_lines tree_of ref (c ∷ cs) rest)
  longer = subst (λ (t : Bytes). length (end_lines ref k rest) ≤ length t) (history_text tree_of ref no_marks (c ∷ cs) (end_lines ref k rest)) (lines_longer tree_of ref no_marks (c ∷ cs) (end_lines ref k rest))

  room : length (whole_lines tree_of ref (c ∷ cs) rest) ≤ n → n ≤ 2 ^ 28 → Room n (end_lines ref k rest)
  room l most = let a = longer in room_of n (end_lines ref k rest) (omega arith) most

  pub end_room : length (whole_lines tree_of ref (c ∷ cs) rest) ≤ n → n ≤ 2 ^ 28 → Room n (10 ∷ rest)
  end_room l most =
      let f = (room l most).fits in
      let a = word_longer (codes "reset ") ref (word_text (codes "from ") (colon k) (10 ∷ rest)) in
      let b = word_longer (codes "from ") (colon k) (10 ∷ rest) in
      room_of n (10 ∷ rest) (omega arith) most

  pub whole_arrives : is_ref_name ref ≡ true → AreNewUpon tree_of base [] (c ∷ cs) → has_no_zero (c ∷ cs) ≡ true → length (whole_lines tree_of ref (c ∷ cs) rest) ≤ n → n ≤ 2 ^ 28 →
      Arrives base start (left n (whole_lines tree_of ref (c ∷ cs) rest)) nothing_yet start (left n rest) (Done ref c cs)
  whole_arrives name h z l most =
      goes base start start start (left n (whole_lines tree_of ref (c ∷ cs) rest)) (left n (end_lines ref k rest)) (left n rest) nothing_yet (Whole tree_of ref [] no_marks c cs) (Done ref c cs)
      (commits_arrive turning tree_of base n ref [] no_marks c cs (end_lines ref k rest) nothing_yet name h z (room_of n (whole_lines tree_of ref (c ∷ cs) rest) l most) (few l)
      (record { commits = refl; branches = inl refl; files = none_marked BlobMark 1 []; heads = none_marked CommitMark 1 []; tags = refl }))
      (λ s w. goes base start start start (left n (end_lines ref k rest)) (left n (10 ∷ rest)) (left n rest) s (Done ref c cs) (Done ref c cs)
      (end_arrives tree_of base n ref no_marks c cs k rest s name (room l most) w w.same)
      (λ u d. skips base start start (left n (10 ∷ rest)) (left n rest) u (Done ref c cs) d (skip_turn n rest (end_room l most))))

-- ---- the law

-- what replaying gives, by the state that it leaves
replay_is : (base : Base) (t : Bytes) → replay base t ≡ (result base false start (left (length t) t) nothing_yet >>= λ s. Ok (given_by s))
replay_is base t = outcome_is (ran base t).state (ran base t).fault ∙ ap (λ i. result base false start i nothing_yet >>= λ s. Ok (given_by s)) (sym (left_whole t))

no_limit_before : (base : Base) (t : Bytes) → NoLimit (replay base t) → NoLimit (result base false start (left (length t) t) nothing_yet)
no_limit_before base t none at which e = none at which (replay_is base t ∙ ap (λ o. o >>= λ s. Ok (given_by s)) e)

some_again : ChangingLaw → (tree_of : Bytes → Flat) (base : Base) (c : Snapshot) (cs : List Snapshot) (ref : Bytes) → AreNewUpon tree_of base [] (c ∷ cs) → is_ref_name ref ≡ true → has_no_zero (c ∷ cs) ≡ true →
    length (changes_text tree_of (c ∷ cs) ref) ≤ 2 ^ 28 → NoLimit (replay base (changes_text tree_of (c ∷ cs) ref)) → IsReadUpon base (changes_text tree_of (c ∷ cs) ref) (c ∷ cs) ref
some_again turning tree_of base c cs ref h name z most none =
    let t = whole_lines tree_of ref (c ∷ cs) [] in
    let n = length t in
    let same : changes_text tree_of (c ∷ cs) ref ≡ t = sym (append-nil (changes_text tree_of (c ∷ cs) ref)) ∙ changes_lines tree_of c cs ref [] in
    let small : n ≤ 2 ^ 28 = subst (λ (t : Bytes). length t ≤ 2 ^ 28) same most in
    let a = whole_arrives turning tree_of base n ref c cs [] name h z (omega arith) small false (no_limit_before base t (subst (λ (t : Bytes). NoLimit (replay base t)) same none)) in
    record {
      replayed = given_by a.state;
      read = ap (replay base) same ∙ replay_is base t
          ∙ ap (λ o. o >>= λ s. Ok (given_by s)) (a.same ∙ on_end base false start (left n []) a.state start (left n []) (last_turn n (room_of n [] (omega arith) small)));
      commits = a.such.commits;
      heads = head_is ref c cs a.state a.such;
    }

none_again : (tree_of : Bytes → Flat) (base : Base) (ref : Bytes) → IsReadUpon base (changes_text tree_of [] ref) [] ref
unfolding changes_text
none_again tree_of base ref = record {
  replayed = given_by nothing_yet;
  read = replay_is base [] ∙ ap (λ o. o >>= λ s. Ok (given_by s)) (on_end base false start (left 0 []) nothing_yet start (left 0 []) (last_turn 0 (room_of 0 [] (omega arith) (omega arith))));
  commits = refl;
  heads = refl;
}

pub read_upon : ChangingLaw → ReadUponLaw
read_upon turning tree_of base [] ref h name z most none = none_again tree_of base ref
read_upon turning tree_of base (c ∷ cs) ref h name z most none = some_again turning tree_of base c cs ref h name z most none

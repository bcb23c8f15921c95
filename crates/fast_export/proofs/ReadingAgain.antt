-- What is exported is read again.
use Rattle.std.proofs.Common.{inr, Err, Result, ◌⊎◌, ◌≡◌, inl, ℕ, ◌+◌, ◌-◌, ◌^◌, ◌<◌, ◌≤◌, Bool, true, false, not, ◌||◌, List, [], ◌∷◌, ◌++◌, length, map, refl, sym, ap, ◌∙◌, subst, Option, Some, None, Ok, append_assoc, append-nil, arith, length-append}
use Rattle.std.specs.Prelude.{codes}
use Rattle.std.specs.Option.{is_some, option_map, option_to_list}
use Rattle.std.specs.List.{list_all, enumerate_from, last_or, filter_map}
use Rattle.std.specs.Fmt.{decimal}
use Rattle.std.specs.Cmp.{first_so, second_so}
use Rattle.git_objects.specs.Paths.{Bytes, same_bytes}
use Rattle.git_objects.specs.declared.quantity.Quantity.{Quantity}
use Rattle.git_objects.specs.Trees.{Flat}
use Rattle.git_objects.specs.Lists.{Each}
use Rattle.git_objects.specs.Results.{◌>>=◌}
use Rattle.git_objects.proofs.Basics.{same_bytes-self}
use Rattle.git_objects.proofs.IdentSpelling.{not-false}
use Rattle.path_names.specs.RefNames.{is_ref_name}
use Rattle.stream_lex.specs.Lines.{Input}
use Rattle.stream_reader.specs.declared.fault.StreamFault.{StreamFault}
use Rattle.stream_reader.specs.declared.fault.StreamFault.TheVariants.{Syntax, Unsupported, Unresolved, BadPath, NoSource, Limit, Collision, OutOfMemory}
use Rattle.stream_reader.specs.declared.progress.Event.TheVariants.{Skips}
use Rattle.stream_reader.specs.declared.progress.Progress.{Progress}
use Rattle.stream_reader.specs.Commands.{turn}
use Rattle.stream_reader.specs.Verdicts.{start, from_start}
use Rattle.git_objects.specs.Snapshots.{Snapshot, snapshot_name}
use Rattle.fast_import.specs.Replays.{Replayed, Replay, BlobMark, CommitMark, marked, value_at, named_tree, with_branch, given_by, heads_of, outcome_of, ran, reached, replay, nothing_yet, empty_base}
use Rattle.fast_export.specs.ExportTexts.{Marks, no_marks, is_among, new_blobs, further, marks_after, marks_behind, commits_text, export_text}
use Rattle.fast_export.specs.Laws.{IsHistory, is_zero_module, has_no_zero, head_at_last, IsReadAgain, ReadingAgainLaw}
use Rattle.fast_export.proofs.Goings.{Reads, Read, Limited, result, NoLimit, Arrives, Stepped, goes, command_goes, on_skip, on_end, on_limit}
use Rattle.fast_export.proofs.Manners.{taking}
use Rattle.fast_export.proofs.ReadLines.{left, Room}
use Rattle.fast_export.proofs.Heads.{word_text, colon, IsMark, head_lines, commit_lines, all_text, is_reset, reset_from_turn}
use Rattle.fast_export.proofs.Changing.{skip_turn, last_turn}
use Rattle.fast_export.proofs.Marking.{or_right, contents, none_marked, found, has_tree, blobs_marked, contents_append, leaf_blobs}
use Rattle.fast_export.proofs.Stepping.{reset_number_step}
use Rattle.fast_export.proofs.Texts.{blobs_lines, leaves_lines, marks_of, start_lines, body_lines, one_lines, commits_lines, history_text}
use Rattle.fast_export.proofs.Arriving.{One, put_one, Standing, Few, few_mark, blob_few, blob_room, blobs_arrive, NotZero, word_longer, leaves_longer, commit_longer, room_less, After, AmongAll, IsGood, body_arrives, Ready, start_arrives}

-- ---- behind the blobs of a commit

pub blobs_few : (n : ℕ) (fs : List Bytes) (top : ℕ) (rest : Bytes) → Few n top (blobs_lines (enumerate_from top fs) rest) → Few n (top + length (enumerate_from top fs)) rest
blobs_few n [] top rest f = let e : top ≡ top + 0 = omega arith in subst (λ k. Few n k rest) e f
blobs_few n (b ∷ fs) top rest f =
    let e : top + 1 + length (enumerate_from (top + 1) fs) ≡ top + length (enumerate_from top (b ∷ fs)) = omega arith in
    subst (λ k. Few n k rest) e (blobs_few n fs (top + 1) rest (blob_few n top b (blobs_lines (enumerate_from (top + 1) fs) rest) f))

pub blobs_room : (n : ℕ) (fs : List Bytes) (top : ℕ) (rest : Bytes) → Room n (blobs_lines (enumerate_from top fs) rest) → Room n rest
blobs_room n [] top rest r = r
blobs_room n (b ∷ fs) top rest r = blobs_room n fs (top + 1) rest (blob_room n top b (blobs_lines (enumerate_from (top + 1) fs) rest) r)

pub start_longer : (ref : Bytes) (ps : List Bytes) (t : Bytes) → length t ≤ length (start_lines ref ps t)
start_longer ref [] t = omega (arith, word_longer (codes "reset ") ref t)
start_longer ref (p ∷ ps) t = omega arith

-- ---- histories

abbrev Listed : List Bytes → List (ℕ × Bytes) → Type 0
Listed before names = (p : Bytes) → is_among p before ≡ true → is_among p (contents names) ≡ true

among_all : (before : List Bytes) (names : List (ℕ × Bytes)) (ps : List Bytes) → Listed before names → list_all (λ p. is_among p before) ps ≡ true → AmongAll names ps
among_all before names [] l h = tt
among_all before names (p ∷ ps) l h = (l p (first_so _ _ h), among_all before names ps l (second_so _ _ h))

no_zeros : (t : Flat) → list_all (λ e. not (is_zero_module e.1)) t ≡ true → Each NotZero t
no_zeros [] h = tt
no_zeros (e ∷ t) h = (not-false (is_zero_module e.1) (first_so _ _ h), no_zeros t (second_so _ _ h))

marks_same : (names : List (ℕ × Bytes)) (x : ℕ × Bytes) (ps : List Bytes) → AmongAll names ps → marks_of (names ++ x ∷ []) ps ≡ marks_of names ps
marks_same names x [] h = refl
marks_same names x (p ∷ ps) h = λ i. found p names (x ∷ []) h.0 i ∷ marks_same names x ps h.1 i

-- ---- one commit

abbrev number_of : Marks → Snapshot → ℕ
number_of m c = m.next + length (new_blobs m c.tree)

module _ (n : ℕ) (ref : Bytes) (made : List Snapshot) (m : Marks) (c : Snapshot) (rest : Bytes) where
  abbrev number : ℕ
  number = m.next + length (new_blobs m c.tree)

  abbrev blobs : List (ℕ × Bytes)
  blobs = m.blobs ++ new_blobs m c.tree

  abbrev lines : Bytes
  lines = commit_lines ref number c.letter (marks_of m.commits c.parents) (leaves_lines blobs c.tree (10 ∷ rest))

  body_is : AmongAll m.commits c.parents → body_lines ref ((marks_after m c).next - 1) (marks_after m c) c rest ≡ lines
  body_is h =
      let k : number + 1 - 1 ≡ number = omega arith in
      λ i. commit_lines ref (k i) c.letter (marks_same m.commits (number, snapshot_name c) c.parents h i) (leaves_lines blobs c.tree (10 ∷ rest))

  one_is : AmongAll m.commits c.parents → one_lines ref m c rest ≡ blobs_lines (new_blobs m c.tree) (start_lines ref c.parents lines)
  one_is h = ap (λ t. blobs_lines (new_blobs m c.tree) (start_lines ref c.parents t)) (body_is h)

  one_few : Few n m.next (blobs_lines (new_blobs m c.tree) (start_lines ref c.parents lines)) → Few n number (start_lines ref c.parents lines)
  one_few f = blobs_few n (further (contents m.blobs) (leaf_blobs c.tree)) m.next (start_lines ref c.parents lines) f

  one_room : Room n (blobs_lines (new_blobs m c.tree) (start_lines ref c.parents lines)) → Room n (start_lines ref c.parents lines)
  one_room r = blobs_room n (further (contents m.blobs) (leaf_blobs c.tree)) m.next (start_lines ref c.parents lines) r

  one_longer : length rest < length (start_lines ref c.parents lines)
  one_longer =
      let t1 = leaves_lines blobs c.tree (10 ∷ rest) in
      let a : length (10 ∷ rest) ≤ length t1 = leaves_longer blobs c.tree (10 ∷ rest) in
      let b : length (all_text t1) < length lines = commit_longer ref number c.letter (marks_of m.commits c.parents) t1 in
      let d : length lines ≤ length (start_lines ref c.parents lines) = start_longer ref c.parents lines in
      omega (arith, length-append (codes "deleteall") (10 ∷ t1))

  pub one_arrives : (s : Replay) → is_ref_name ref ≡ true → IsGood blobs m.commits c → contents m.commits ≡ map snapshot_name made → Room n (blobs_lines (new_blobs m c.tree) (start_lines ref c.parents lines)) →
      Few n m.next (blobs_lines (new_blobs m c.tree) (start_lines ref c.parents lines)) → Standing ref made m.blobs m.commits m.next s →
      Arrives start (left n (blobs_lines (new_blobs m c.tree) (start_lines ref c.parents lines))) s start (left n rest) (After ref made blobs m.commits number c)
  one_arrives s name good names_are r f h =
      let t1 = start_lines ref c.parents lines in
      let r1 = one_room r in
      let f1 = one_few f in
      let r2 : Room n lines = room_less n t1 lines r1 (start_longer ref c.parents lines) in
      goes start start start (left n (blobs_lines (new_blobs m c.tree) t1)) (left n t1) (left n rest) s (Standing ref made blobs m.commits number) (After ref made blobs m.commits number c)
      (blobs_arrive n ref made (further (contents m.blobs) (leaf_blobs c.tree)) m.blobs m.commits m.next t1 s r f h)
      (λ u g. goes start start start (left n t1) (left n lines) (left n rest) u (Ready ref made blobs m.commits number c.parents) (After ref made blobs m.commits number c)
      (start_arrives n ref made blobs m.commits number c.parents (head_lines number c.letter (marks_of m.commits c.parents) (leaves_lines blobs c.tree (10 ∷ rest))) u name r1 g)
      (λ v k. body_arrives n ref made blobs m.commits number c rest v name good names_are (few_mark n number t1 f1 r.most) r2 k.0 k.1))

-- ---- all commits

abbrev pub last_of : Snapshot → List Snapshot → Snapshot
last_of c [] = c
last_of c (d ∷ cs) = last_of d cs

pub record Whole (ref : Bytes) (made : List Snapshot) (m : Marks) (c : Snapshot) (cs : List Snapshot) (s : Replay) : Type 0 where
  pub commits : s.commits ≡ made ++ c ∷ cs
  pub branches : One ref s.branches
  pub tags : s.tags ≡ []
  pub number : ℕ
  pub same : (marks_behind m (c ∷ cs)).next - 1 ≡ number
  pub mark : IsMark number
  pub last : marked number s.marks ≡ Some (CommitMark (snapshot_name (last_of c cs)))

map_append : (cs ds : List Snapshot) → map snapshot_name (cs ++ ds) ≡ map snapshot_name cs ++ map snapshot_name ds
map_append [] ds = refl
map_append (c ∷ cs) ds = ap (λ ns. snapshot_name c ∷ ns) (map_append cs ds)

names_more : (names : List (ℕ × Bytes)) (made : List Snapshot) (k : ℕ) (c : Snapshot) → contents names ≡ map snapshot_name made → contents (names ++ (k, snapshot_name c) ∷ []) ≡ map snapshot_name (made ++ c ∷ [])
names_more names made k c h = contents_append names ((k, snapshot_name c) ∷ []) ∙ ap (λ ns. ns ++ snapshot_name c ∷ []) h ∙ sym (map_append made (c ∷ []))

among_end : (p q : Bytes) (xs : List Bytes) → (same_bytes p q || is_among p xs) ≡ true → is_among p (xs ++ q ∷ []) ≡ true
among_end p q [] h = h
among_end p q (x ∷ xs) h =
    elim (same_bytes p x) as (λ b. (same_bytes p q || (b || is_among p xs)) ≡ true → (b || is_among p (xs ++ q ∷ [])) ≡ true) [ true ↦ λ e. refl | false ↦ λ e. among_end p q xs e ] h

or_also : (a b c : Bool) → (a || b) ≡ true → (b ≡ true → c ≡ true) → (a || c) ≡ true
or_also true b c h f = refl
or_also false b c h f = f h

listed_more : (before : List Bytes) (names : List (ℕ × Bytes)) (k : ℕ) (q : Bytes) → Listed before names → Listed (q ∷ before) (names ++ (k, q) ∷ [])
listed_more before names k q l p h =
    ap (is_among p) (contents_append names ((k, q) ∷ []))
    ∙ among_end p q (contents names) (or_also (same_bytes p q) (is_among p before) (is_among p (contents names)) h (l p))

arrives_so : (p q : Progress) (i j : Input) (r : Replay) (S U : Replay → Type 0) → ((s : Replay) → S s → U s) → Arrives p i r q j S → Arrives p i r q j U
arrives_so p q i j r S U h a t n = let x = a t n in record { state = x.state; same = x.same; such = h x.state x.such }

pub few_next : (n k : ℕ) (a b : Bytes) → Few n k a → length b < length a → Few n (k + 1) b
few_next n k a b f h = let l = f.few in record { few = omega arith; some = omega arith }

-- a history's first commit
good_of : (before : List Bytes) (m : Marks) (c : Snapshot) (cs : List Snapshot) → IsHistory before (c ∷ cs) → has_no_zero (c ∷ cs) ≡ true → Listed before m.commits → IsGood (m.blobs ++ new_blobs m c.tree) m.commits c
good_of before m c cs h z listed = record {
  tree = h.0;
  signed = record { by = h.1; of = h.2 };
  files = blobs_marked m.blobs m.next c.tree;
  modules = no_zeros c.tree (first_so _ _ z);
  parents = among_all before m.commits c.parents listed h.3;
}

first_few : (n : ℕ) (ref : Bytes) (m : Marks) (c : Snapshot) (rest : Bytes) → AmongAll m.commits c.parents → Few n m.next (one_lines ref m c rest) → Few n (number_of m c) (start_lines ref c.parents (lines n ref [] m c rest))
first_few n ref m c rest h f = one_few n ref [] m c rest (subst (Few n m.next) (one_is n ref [] m c rest h) f)

first_room : (n : ℕ) (ref : Bytes) (m : Marks) (c : Snapshot) (rest : Bytes) → AmongAll m.commits c.parents → Room n (one_lines ref m c rest) → Room n (start_lines ref c.parents (lines n ref [] m c rest))
first_room n ref m c rest h r = one_room n ref [] m c rest (subst (Room n) (one_is n ref [] m c rest h) r)

first_arrives : (n : ℕ) (ref : Bytes) (made : List Snapshot) (m : Marks) (c : Snapshot) (rest : Bytes) (s : Replay) → is_ref_name ref ≡ true → IsGood (m.blobs ++ new_blobs m c.tree) m.commits c → contents m.commits ≡ map snapshot_name made →
    Room n (one_lines ref m c rest) → Few n m.next (one_lines ref m c rest) → Standing ref made m.blobs m.commits m.next s →
    Arrives start (left n (one_lines ref m c rest)) s start (left n rest) (After ref made (m.blobs ++ new_blobs m c.tree) m.commits (number_of m c) c)
first_arrives n ref made m c rest s name good names_are r f st =
    let e = one_is n ref made m c rest good.parents in
    subst (λ (t : Bytes). Arrives start (left n t) s start (left n rest) (After ref made (m.blobs ++ new_blobs m c.tree) m.commits (number_of m c) c)) (sym e)
    (one_arrives n ref made m c rest s name good names_are (subst (Room n) e r) (subst (Few n m.next) e f) st)

pub commits_arrive : (n : ℕ) (ref : Bytes) (before : List Bytes) (made : List Snapshot) (m : Marks) (c : Snapshot) (cs : List Snapshot) (rest : Bytes) (s : Replay) → is_ref_name ref ≡ true → IsHistory before (c ∷ cs) →
    has_no_zero (c ∷ cs) ≡ true → Listed before m.commits → contents m.commits ≡ map snapshot_name made → Room n (commits_lines ref m (c ∷ cs) rest) → Few n m.next (commits_lines ref m (c ∷ cs) rest) →
    Standing ref made m.blobs m.commits m.next s →
    Arrives start (left n (commits_lines ref m (c ∷ cs) rest)) s start (left n rest) (Whole ref made m c cs)
commits_arrive n ref before made m c [] rest s name h z listed names_are r f st =
    let good = good_of before m c [] h z listed in
    let k = number_of m c in
    let e : k + 1 - 1 ≡ k = omega arith in
    let few = first_few n ref m c rest good.parents f in
    arrives_so start start (left n (one_lines ref m c rest)) (left n rest) s (After ref made (m.blobs ++ new_blobs m c.tree) m.commits k c) (Whole ref made m c [])
    (λ u a. record { commits = a.standing.commits; branches = a.standing.branches; tags = a.standing.tags; number = k; same = e; mark = few_mark n k (start_lines ref c.parents (lines n ref [] m c rest)) few r.most; last = a.last })
    (first_arrives n ref made m c rest s name good names_are r f st)
commits_arrive n ref before made m c (d ∷ ds) rest s name h z listed names_are r f st =
    let good = good_of before m c (d ∷ ds) h z listed in
    let k = number_of m c in
    let t = commits_lines ref (marks_after m c) (d ∷ ds) rest in
    let all = start_lines ref c.parents (lines n ref [] m c t) in
    let longer : length t < length all = one_longer n ref [] m c t in
    let few = few_next n k all t (first_few n ref m c t good.parents f) longer in
    let room = room_less n all t (first_room n ref m c t good.parents r) (omega arith) in
    goes start start start (left n (one_lines ref m c t)) (left n t) (left n rest) s (After ref made (m.blobs ++ new_blobs m c.tree) m.commits k c) (Whole ref made m c (d ∷ ds))
    (first_arrives n ref made m c t s name good names_are r f st)
    (λ u a. arrives_so start start (left n t) (left n rest) u (Whole ref (made ++ c ∷ []) (marks_after m c) d ds) (Whole ref made m c (d ∷ ds))
    (λ v w. record { commits = w.commits ∙ append_assoc made (c ∷ []) (d ∷ ds); branches = w.branches; tags = w.tags; number = w.number; same = w.same; mark = w.mark; last = w.last })
    (commits_arrive n ref (snapshot_name c ∷ before) (made ++ c ∷ []) (marks_after m c) d ds rest u name h.4 (second_so _ _ z) (listed_more before m.commits k (snapshot_name c) listed)
    (names_more m.commits made k c names_are) room few a.standing))

-- ---- the last reset, and the end

pub last_among : (c : Snapshot) (cs : List Snapshot) → is_among (snapshot_name (last_of c cs)) (map snapshot_name (c ∷ cs)) ≡ true
last_among c [] = ap (λ b. b || false) (same_bytes-self (snapshot_name c))
last_among c (d ∷ cs) = or_right (same_bytes (snapshot_name (last_of d cs)) (snapshot_name c)) _ (last_among d cs)

pub record Done (ref : Bytes) (c : Snapshot) (cs : List Snapshot) (s : Replay) : Type 0 where
  pub commits : s.commits ≡ c ∷ cs
  pub branches : s.branches ≡ (ref, Some (snapshot_name (last_of c cs))) ∷ []
  pub tags : s.tags ≡ []

abbrev end_lines : Bytes → ℕ → Bytes → Bytes
end_lines ref k rest = word_text (codes "reset ") ref (word_text (codes "from ") (colon k) (10 ∷ rest))

end_arrives : (n : ℕ) (ref : Bytes) (m : Marks) (c : Snapshot) (cs : List Snapshot) (k : ℕ) (rest : Bytes) (s : Replay) → is_ref_name ref ≡ true → Room n (end_lines ref k rest) → (w : Whole ref [] m c cs s) → k ≡ w.number →
    Arrives start (left n (end_lines ref k rest)) s start (left n (10 ∷ rest)) (Done ref c cs)
end_arrives n ref m c cs k rest s name r w e =
    let nm = snapshot_name (last_of c cs) in
    let last : marked k s.marks ≡ Some (CommitMark nm) = ap (λ k. marked k s.marks) e ∙ w.last in
    let tree : is_some (value_at nm (map named_tree s.commits ++ [])) ≡ true = ap (λ (ds : List Snapshot). is_some (value_at nm (map named_tree ds ++ []))) w.commits ∙ has_tree nm (c ∷ cs) (last_among c cs) in
    command_goes start start (left n (end_lines ref k rest)) (left n (10 ∷ rest)) s (is_reset ref k) (Done ref c cs)
    (reset_from_turn ref k n (10 ∷ rest) r name (subst IsMark (sym e) w.mark))
    (λ p g. Stepped (with_branch ref (Some nm) s) (reset_number_step s k p ref nm last tree g) (record { commits = w.commits; branches = put_one ref (Some nm) s.branches w.branches; tags = w.tags }))

skips : (p q : Progress) (i j : Input) (r : Replay) (S : Replay → Type 0) → S r → Reads (turn (taking false p) true i) (λ t. t ≡ record { event = Skips; progress = q }) j → Arrives p i r q j S
skips p q i j r S h (Read x e g) t n = record { state = r; same = on_skip t p i r q j (e ∙ (λ k. Ok (g k, j))); such = h }
skips p q i j r S h (Limited at which e) t n = absurd (n at which (on_limit t p i r at which e))

pub room_of : (n : ℕ) (t : Bytes) → length t ≤ n → n ≤ 2 ^ 28 → Room n t
room_of n t h k = record { fits = h; most = k }

abbrev pub whole_lines : Bytes → List Snapshot → Bytes → Bytes
whole_lines ref cs rest = commits_lines ref no_marks cs (end_lines ref ((marks_behind no_marks cs).next - 1) rest)

lines_longer : (ref : Bytes) (m : Marks) (cs : List Snapshot) (rest : Bytes) → length rest ≤ length (commits_text ref m cs ++ rest)
lines_longer ref m cs rest = omega (arith, length-append (commits_text ref m cs) rest)

module _ (n : ℕ) (ref : Bytes) (c : Snapshot) (cs : List Snapshot) (rest : Bytes) where
  abbrev k : ℕ
  k = (marks_behind no_marks (c ∷ cs)).next - 1

  never : false ≡ true → ⊥
  never e = cc

  few : length (whole_lines ref (c ∷ cs) rest) ≤ n → Few n 1 (whole_lines ref (c ∷ cs) rest)
  few l = record { few = omega arith; some = omega arith }

  longer : length (end_lines ref k rest) ≤ length (whole_lines ref (c ∷ cs) rest)
  longer = subst (λ (t : Bytes). length (end_lines ref k rest) ≤ length t) (history_text ref no_marks (c ∷ cs) (end_lines ref k rest)) (lines_longer ref no_marks (c ∷ cs) (end_lines ref k rest))

  room : length (whole_lines ref (c ∷ cs) rest) ≤ n → n ≤ 2 ^ 28 → Room n (end_lines ref k rest)
  room l most = let a = longer in room_of n (end_lines ref k rest) (omega arith) most

  pub end_room : length (whole_lines ref (c ∷ cs) rest) ≤ n → n ≤ 2 ^ 28 → Room n (10 ∷ rest)
  end_room l most =
      let f = (room l most).fits in
      let a = word_longer (codes "reset ") ref (word_text (codes "from ") (colon k) (10 ∷ rest)) in
      let b = word_longer (codes "from ") (colon k) (10 ∷ rest) in
      room_of n (10 ∷ rest) (omega arith) most

  pub whole_arrives : is_ref_name ref ≡ true → IsHistory [] (c ∷ cs) → has_no_zero (c ∷ cs) ≡ true → length (whole_lines ref (c ∷ cs) rest) ≤ n → n ≤ 2 ^ 28 →
      Arrives start (left n (whole_lines ref (c ∷ cs) rest)) nothing_yet start (left n rest) (Done ref c cs)
  whole_arrives name h z l most =
      goes start start start (left n (whole_lines ref (c ∷ cs) rest)) (left n (end_lines ref k rest)) (left n rest) nothing_yet (Whole ref [] no_marks c cs) (Done ref c cs)
      (commits_arrive n ref [] [] no_marks c cs (end_lines ref k rest) nothing_yet name h z (λ p e. absurd (never e)) refl (room_of n (whole_lines ref (c ∷ cs) rest) l most) (few l)
      (record { commits = refl; branches = inl refl; files = none_marked BlobMark 1 []; heads = none_marked CommitMark 1 []; tags = refl }))
      (λ s w. goes start start start (left n (end_lines ref k rest)) (left n (10 ∷ rest)) (left n rest) s (Done ref c cs) (Done ref c cs)
      (end_arrives n ref no_marks c cs k rest s name (room l most) w w.same)
      (λ u d. skips start start (left n (10 ∷ rest)) (left n rest) u (Done ref c cs) d (skip_turn n rest (end_room l most))))

-- ---- the law

export_parts : (t w r lf v d u : Bytes) → (((t ++ ((w ++ r) ++ lf)) ++ ((v ++ d) ++ lf)) ++ lf) ++ u ≡ t ++ ((w ++ r) ++ (lf ++ ((v ++ d) ++ (lf ++ (lf ++ u)))))
export_parts t w r lf v d u = simp append_assoc

-- with a text behind it
pub export_lines : (c : Snapshot) (cs : List Snapshot) (ref rest : Bytes) → export_text (c ∷ cs) ref ++ rest ≡ whole_lines ref (c ∷ cs) rest
unfolding export_text
export_lines c cs ref rest =
    let k = (marks_behind no_marks (c ∷ cs)).next - 1 in
    export_parts (commits_text ref no_marks (c ∷ cs)) (codes "reset ") ref (10 ∷ []) (codes "from " ++ codes ":") (decimal k) rest
    ∙ history_text ref no_marks (c ∷ cs) (end_lines ref k rest)

pub left_whole : (t : Bytes) → left (length t) t ≡ from_start t
left_whole t = let e : length t - length t ≡ 0 = omega arith in λ i. record { at = e i; rest = t }

last_is : (c : Snapshot) (cs : List Snapshot) → last_or (Some c) cs ≡ Some (last_of c cs)
last_is c [] = refl
last_is c (d ∷ cs) = last_is d cs

pub head_is : (ref : Bytes) (c : Snapshot) (cs : List Snapshot) (s : Replay) → Done ref c cs s → heads_of s ≡ head_at_last ref (c ∷ cs)
head_is ref c cs s d =
    ap (λ (bs : List (Bytes × Option Bytes)). filter_map (λ b. option_map (λ n. (b.0, n)) b.1) bs) d.branches
    ∙ ap (λ o. option_to_list (option_map (λ c. (ref, snapshot_name c)) o)) (sym (last_is c cs))

pub outcome_is : (s : Replay) (f : Option StreamFault) → outcome_of s f ≡ (reached s f >>= λ s. Ok (given_by s))
outcome_is s None = refl
outcome_is s (Some f) = refl

-- what replaying gives, by the state that it leaves
replay_is : (t : Bytes) → replay empty_base t ≡ (result false start (left (length t) t) nothing_yet >>= λ s. Ok (given_by s))
replay_is t = outcome_is (ran empty_base t).state (ran empty_base t).fault ∙ ap (λ i. result false start i nothing_yet >>= λ s. Ok (given_by s)) (sym (left_whole t))

no_limit_before : (t : Bytes) → NoLimit (replay empty_base t) → NoLimit (result false start (left (length t) t) nothing_yet)
no_limit_before t none at which e = none at which (replay_is t ∙ ap (λ o. o >>= λ s. Ok (given_by s)) e)

some_again : (c : Snapshot) (cs : List Snapshot) (ref : Bytes) → IsHistory [] (c ∷ cs) → is_ref_name ref ≡ true → has_no_zero (c ∷ cs) ≡ true → length (export_text (c ∷ cs) ref) ≤ 2 ^ 28 →
    NoLimit (replay empty_base (export_text (c ∷ cs) ref)) → IsReadAgain (c ∷ cs) ref
some_again c cs ref h name z most none =
    let t = whole_lines ref (c ∷ cs) [] in
    let n = length t in
    let same : export_text (c ∷ cs) ref ≡ t = sym (append-nil (export_text (c ∷ cs) ref)) ∙ export_lines c cs ref [] in
    let small : n ≤ 2 ^ 28 = subst (λ (t : Bytes). length t ≤ 2 ^ 28) same most in
    let a = whole_arrives n ref c cs [] name h z (omega arith) small false (no_limit_before t (subst (λ (t : Bytes). NoLimit (replay empty_base t)) same none)) in
    record {
      replayed = given_by a.state;
      read = ap (replay empty_base) same ∙ replay_is t
          ∙ ap (λ o. o >>= λ s. Ok (given_by s)) (a.same ∙ on_end false start (left n []) a.state start (left n []) (last_turn n (room_of n [] (omega arith) small)));
      commits = a.such.commits;
      heads = head_is ref c cs a.state a.such;
    }

none_again : (ref : Bytes) → IsReadAgain [] ref
unfolding export_text
none_again ref = record {
  replayed = given_by nothing_yet;
  read = replay_is [] ∙ ap (λ o. o >>= λ s. Ok (given_by s)) (on_end false start (left 0 []) nothing_yet start (left 0 []) (last_turn 0 (room_of 0 [] (omega arith) (omega arith))));
  commits = refl;
  heads = refl;
}

-- every fault that reading an export meets is a limit
pub read_or_limited : (cs : List Snapshot) (ref : Bytes) → IsHistory [] cs → is_ref_name ref ≡ true → has_no_zero cs ≡ true → length (export_text cs ref) ≤ 2 ^ 28 →
    IsReadAgain cs ref ⊎ ((at : ℕ) × (which : Quantity) × (replay empty_base (export_text cs ref) ≡ Err (Limit at which)))
read_or_limited [] ref h name z most = inl (none_again ref)
read_or_limited (c ∷ cs) ref h name z most = by (replay empty_base (export_text (c ∷ cs) ref)) refl
  where
    again : NoLimit (replay empty_base (export_text (c ∷ cs) ref)) → IsReadAgain (c ∷ cs) ref
    again none = some_again c cs ref h name z most none

    given : (x : Replayed) → replay empty_base (export_text (c ∷ cs) ref) ≡ Ok x → NoLimit (replay empty_base (export_text (c ∷ cs) ref))
    given x e at which g = cc

    by : (o : Result Replayed StreamFault) → replay empty_base (export_text (c ∷ cs) ref) ≡ o → IsReadAgain (c ∷ cs) ref ⊎ ((at : ℕ) × (which : Quantity) × (replay empty_base (export_text (c ∷ cs) ref) ≡ Err (Limit at which)))
    by (Ok x) e = inl (again (given x e))
    by (Err (Limit at which)) e = inr (at, which, e)
    by (Err (Syntax at)) e = inl (again (λ a w g. cc))
    by (Err (Unsupported at what)) e = inl (again (λ a w g. cc))
    by (Err (Unresolved at)) e = inl (again (λ a w g. cc))
    by (Err (BadPath at)) e = inl (again (λ a w g. cc))
    by (Err (NoSource at)) e = inl (again (λ a w g. cc))
    by (Err (Collision n)) e = inl (again (λ a w g. cc))
    by (Err OutOfMemory) e = inl (again (λ a w g. cc))

pub read_again : (cs : List Snapshot) (ref : Bytes) → IsHistory [] cs → is_ref_name ref ≡ true → has_no_zero cs ≡ true → length (export_text cs ref) ≤ 2 ^ 28 → NoLimit (replay empty_base (export_text cs ref)) → IsReadAgain cs ref
read_again [] ref h name z most none = none_again ref
read_again (c ∷ cs) ref h name z most none = some_again c cs ref h name z most none

pub reading_again_law : ReadingAgainLaw
reading_again_law cs ref h name z most none = read_again cs ref h name z most none

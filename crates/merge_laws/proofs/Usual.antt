-- Streams without merges, and without a reset to digits: the wider base changes nothing.
use Rattle.std.specs.Prelude.{◌≡◌, refl, ℕ, ◌+◌, ◌==◌, Bool, true, false, not, cond, List, [], ◌∷◌, ◌++◌, length, map, Option, Some, None, Result, Ok, Err}
use Rattle.std.specs.Option.{is_some, option_and_then, option_map, option_or, option_to_list, unwrap_or}
use Rattle.std.specs.List.{list_all}
use Rattle.std.specs.FinMap.{find as find_entry, put as put_entry}
use Rattle.std.specs.FinMap.Entries.{by_order}
use Rattle.std.specs.Ordering.{eq_by_cmp}
use Rattle.std.specs.declared.cmp.Ordering.TheVariants.{Less, Equal, Greater}
use Rattle.std.proofs.Common.{◌⊎◌, inl, inr, ap, ◌∙◌, sym, subst, true≢false}
use Rattle.std.proofs.lemmas.Bool.{and_from, and_parts}
use Rattle.git_objects.specs.Lists.{Each}
use Rattle.git_objects.specs.Paths.{Bytes, is_nil, same_bytes}
use Rattle.git_objects.specs.Refs.{bytes_cmp}
use Rattle.git_objects.specs.Results.{◌>>=◌, must, or_refuse, refused_by}
use Rattle.git_objects.specs.Snapshots.{Snapshot, snapshot_name, tree_at}
use Rattle.git_objects.specs.Trees.{Flat, LeafNode, put}
use Rattle.git_objects.specs.declared.mode.Mode.{Mode}
use Rattle.git_objects.specs.declared.mode.Mode.TheVariants.{File, Exec, Link, Module, Dir}
use Rattle.git_objects.proofs.Basics.{same_bytes-self}
use Rattle.stream_reader.specs.declared.command.BlobRef.{BlobRef}
use Rattle.stream_reader.specs.declared.command.BlobRef.TheVariants as blobs
use Rattle.stream_reader.specs.declared.command.Change.{Change}
use Rattle.stream_reader.specs.declared.command.Change.TheVariants as changes
use Rattle.stream_reader.specs.declared.command.Command.{Command}
use Rattle.stream_reader.specs.declared.command.Command.TheVariants as commands
use Rattle.stream_reader.specs.declared.command.CommitHead.{CommitHead}
use Rattle.stream_reader.specs.declared.command.Placed.{Placed}
use Rattle.stream_reader.specs.declared.commit_ref.CommitRef.{CommitRef}
use Rattle.stream_reader.specs.declared.commit_ref.Target.{Target}
use Rattle.stream_reader.specs.declared.commit_ref.Target.TheVariants as targets
use Rattle.stream_reader.specs.declared.fault.StreamFault.{StreamFault}
use Rattle.stream_reader.specs.declared.fault.StreamFault.TheVariants.{Syntax, Unresolved}
use Rattle.stream_reader.specs.Verdicts.{start, verdict}
use Rattle.fast_import.specs.Replays.{Base, BlobMark, CommitMark, Draft, Marked, Ran, Replay, TagMark, begun, branch, command_step, commit_of, committed, edited, few_files, first_parent, given_bytes, gone_on, inline_blob, known, leaf_of, marked, marked_commit, named_tree, nothing_yet, ran_by, said, tag_of, tagged, target_name, tree_of, tree_upon, value_at, with_branch, with_mark, with_merges}
use Rattle.fast_import.proofs.Resolving.{value-append}
use Rattle.tag_objects.specs.TagLists.{put_tag}
use Rattle.projection_laws.proofs.HistoryLemmas.{map-append}
use Rattle.push_laws.proofs.PushSteps.{goes-on}
use Rattle.push_laws.proofs.Refusing.{same-names}
use Rattle.push_laws.specs.PushReplays.{StreamRefusal, Faulty, OtherRef, NotAtHead, FurtherParents, at_the_end, chain_end, is_same_name, push_base, push_replay, push_step, pushed_parent}
use Rattle.workspace.specs.Workspaces.{shown}
use Rattle.commit_map.specs.Shown.{Entries}
use Rattle.projection_laws.specs.Projections.{projection, projections}
use Rattle.push_laws.specs.PushLaws.{commit_of as commit_of_shown}
use Rattle.push_laws.specs.Pushes.{StreamRefused, refusal_of}
use Rattle.push_laws.proofs.Chains.{chain-law}
use Rattle.merge_laws.specs.Merges.{shown_trees}
use Rattle.merge_laws.specs.MergeVerdicts.{begun as begun_upon, made_from, merge_verdict}
use Rattle.merge_laws.specs.MergeReplays.{merge_base, merge_replay}
use Rattle.merge_laws.specs.StreamLaws.{SamePushLaw, UsualLaw, is_by_digits, is_plain, is_usual}
use Rattle.merge_laws.proofs.Bases.{end-cases, front, or-there, tree-is}
use Rattle.merge_laws.proofs.Binding.{bind-ok, must-ok, ok-same, refuse-ok}
use Rattle.merge_laws.proofs.Chains.{in-line-law, made-law}
use Rattle.merge_laws.proofs.Plain.{plain-law}
use Rattle.merge_laws.proofs.Untagged.{is_untagged, untagged}

module _ (refname : Bytes) (from : Option Bytes) (seen : Flat) where
  abbrev narrow : Base
  narrow = push_base refname from seen

  abbrev wide : List (Bytes × Flat) → Base
  wide es = merge_base refname from seen es

  abbrev made_trees : Replay → List (Bytes × Flat)
  made_trees r = map named_tree r.commits

  -- a commit of the stream, or the projection
  abbrev IsOwn : Replay → Bytes → Type 0
  IsOwn r n = (is_some (value_at n (made_trees r)) ≡ true) ⊎ (from ≡ Some n)

  front-alone : (o : Option Bytes) (n : Bytes) → o ≡ Some n → value_at n (map (λ m. (m, seen)) (option_to_list o)) ≡ Some seen
  front-alone None n e = absurd cc
  front-alone (Some m) n e = let same : m ≡ n = cc in subst (λ (x : Bytes). value_at n ((x, seen) ∷ []) ≡ Some seen) (sym same) (ap (λ b. cond b (Some seen) None) (same_bytes-self n))

  narrow-is : (r : Replay) (n : Bytes) → tree_of narrow r n ≡ option_or (value_at n (made_trees r)) (value_at n narrow.commits)
  narrow-is r n = value-append n (made_trees r) narrow.commits

  either-there : (x y : Option Flat) → (is_some x ≡ true) ⊎ (y ≡ Some seen) → is_some (option_or x y) ≡ true
  either-there x y (inl k) = or-there x y k
  either-there None y (inr k) = ap is_some k
  either-there (Some t) y (inr k) = refl

  as-narrow : (x : Option Flat) (n : Bytes) → (is_some x ≡ true) ⊎ (from ≡ Some n) → (is_some x ≡ true) ⊎ (value_at n narrow.commits ≡ Some seen)
  as-narrow x n (inl k) = inl k
  as-narrow x n (inr k) = inr (front-alone from n k)

  as-wide : (es : List (Bytes × Flat)) (x : Option Flat) (n : Bytes) → (is_some x ≡ true) ⊎ (from ≡ Some n) → (is_some x ≡ true) ⊎ (value_at n (wide es).commits ≡ Some seen)
  as-wide es x n (inl k) = inl k
  as-wide es x n (inr k) = inr (front refname from seen from n k es)

  own-narrow : (r : Replay) (n : Bytes) → IsOwn r n → is_some (tree_of narrow r n) ≡ true
  own-narrow r n k = ap is_some (narrow-is r n) ∙ either-there (value_at n (made_trees r)) (value_at n narrow.commits) (as-narrow (value_at n (made_trees r)) n k)

  own-wide : (es : List (Bytes × Flat)) (r : Replay) (n : Bytes) → IsOwn r n → is_some (tree_of (wide es) r n) ≡ true
  own-wide es r n k = ap is_some (tree-is refname from seen es r n) ∙ either-there (value_at n (made_trees r)) (value_at n (wide es).commits) (as-wide es (value_at n (made_trees r)) n k)

  -- ---- branches and marks are of the stream's own commits

  abbrev IfOwn : Replay → Option Bytes → Type 0
  IfOwn r None = Unit
  IfOwn r (Some n) = IsOwn r n

  abbrev IfOwnMark : Replay → Marked → Type 0
  IfOwnMark r (BlobMark b) = Unit
  IfOwnMark r (CommitMark n) = IsOwn r n
  IfOwnMark r TagMark = Unit

  record AreOwn (r : Replay) : Type 0 where
    branches : Each (λ b. IfOwn r b.1) r.branches
    marks : Each (λ m. IfOwnMark r m.1) r.marks

  -- they stay so when commits are made
  module _ (r s : Replay) (more : List Snapshot) (e : s.commits ≡ r.commits ++ more) where
    own-more : (n : Bytes) → IsOwn r n → IsOwn s n
    own-more n (inr k) = inr k
    own-more n (inl k) =
        inl (ap (λ (cs : List Snapshot). is_some (value_at n (map named_tree cs))) e ∙ ap (λ (es : List (Bytes × Flat)). is_some (value_at n es)) (map-append named_tree r.commits more)
        ∙ ap is_some (value-append n (map named_tree r.commits) (map named_tree more)) ∙ or-there (value_at n (map named_tree r.commits)) (value_at n (map named_tree more)) k)

    branches-more : (bs : List (Bytes × Option Bytes)) → Each (λ b. IfOwn r b.1) bs → Each (λ b. IfOwn s b.1) bs
    branches-more [] h = tt
    branches-more ((m, None) ∷ bs) h = (tt, branches-more bs h.1)
    branches-more ((m, Some n) ∷ bs) h = (own-more n h.0, branches-more bs h.1)

    marks-more : (ms : List (ℕ × Marked)) → Each (λ m. IfOwnMark r m.1) ms → Each (λ m. IfOwnMark s m.1) ms
    marks-more [] h = tt
    marks-more ((i, BlobMark b) ∷ ms) h = (tt, marks-more ms h.1)
    marks-more ((i, CommitMark n) ∷ ms) h = (own-more n h.0, marks-more ms h.1)
    marks-more ((i, TagMark) ∷ ms) h = (tt, marks-more ms h.1)

  none-more : (xs : List Snapshot) → xs ≡ xs ++ []
  none-more [] = refl
  none-more (x ∷ xs) = ap (λ z. x ∷ z) (none-more xs)

  -- the same branches and marks
  still-own : (r s : Replay) → AreOwn r → s.commits ≡ r.commits → s.branches ≡ r.branches → s.marks ≡ r.marks → AreOwn s
  still-own r s i c b m =
      let e : s.commits ≡ r.commits ++ [] = c ∙ none-more r.commits in
      record {
        branches = subst (Each (λ x. IfOwn s x.1)) (sym b) (branches-more r s [] e r.branches i.branches);
        marks = subst (Each (λ x. IfOwnMark s x.1)) (sym m) (marks-more r s [] e r.marks i.marks);
      }

  put-own : (r : Replay) (k : Bytes) (o : Option Bytes) (bs : List (Bytes × Option Bytes)) → IfOwn r o → Each (λ b. IfOwn r b.1) bs → Each (λ b. IfOwn r b.1) (put_entry bytes_cmp k o bs)
  put-own r k o [] i h = (i, tt)
  put-own r k o (b ∷ bs) i h =
      elim (bytes_cmp k b.0) as (λ x. Each (λ b. IfOwn r b.1) (by_order x ((k, o) ∷ b ∷ bs) ((b.0, o) ∷ bs) (b ∷ put_entry bytes_cmp k o bs))) [
        | Less ↦ (i, h)
        | Equal ↦ (i, h.1)
        | Greater ↦ (h.0, put-own r k o bs i h.1)
      ]

  marked-own : (m : Option ℕ) (x : Marked) (r : Replay) → IfOwnMark r x → AreOwn r → AreOwn (with_mark m x r)
  marked-own None x r k i = i
  marked-own (Some n) x r k i = record { branches = i.branches; marks = (k, i.marks) }

  branch-own : (r : Replay) (name : Bytes) (o : Option Bytes) → IfOwn r o → AreOwn r → AreOwn (with_branch name o r)
  branch-own r name o k i = record { branches = put-own r name o r.branches k i.branches; marks = i.marks }

  -- the last commit is there
  last-there : (cs : List Snapshot) (c : Snapshot) → is_some (value_at (snapshot_name c) (map named_tree (cs ++ c ∷ []))) ≡ true
  last-there [] c = ap (λ b. is_some (cond b (Some c.tree) None)) (same_bytes-self (snapshot_name c))
  last-there (d ∷ cs) c = by (same_bytes (snapshot_name d) (snapshot_name c)) (last-there cs c)
    where
      by : (b : Bool) → is_some (value_at (snapshot_name c) (map named_tree (cs ++ c ∷ []))) ≡ true → is_some (cond b (Some d.tree) (value_at (snapshot_name c) (map named_tree (cs ++ c ∷ [])))) ≡ true
      by true h = refl
      by false h = h

  committed-own : (r : Replay) (d : Draft) → AreOwn r → AreOwn (committed r d)
  committed-own r d i =
      let c : Snapshot = commit_of d in
      let next : Replay = record r { commits = r.commits ++ c ∷ []; draft = None } in
      let own : IsOwn next (snapshot_name c) = inl (last-there r.commits c) in
      let j : AreOwn next = record { branches = branches-more r next (c ∷ []) refl r.branches i.branches; marks = marks-more r next (c ∷ []) refl r.marks i.marks } in
      marked-own d.head.mark (CommitMark (snapshot_name c)) _ own (branch-own next d.head.refname (Some (snapshot_name c)) own j)

  -- ---- what a line names

  branch-is : (r : Replay) (name : Bytes) (bs : List (Bytes × Option Bytes)) → Each (λ b. IfOwn r b.1) bs → IfOwn r (option_and_then (λ n. n) (find_entry bytes_cmp name bs))
  branch-is r name [] h = tt
  branch-is r name (b ∷ bs) h =
      elim (eq_by_cmp bytes_cmp name b.0) as (λ t. IfOwn r (option_and_then (λ n. n) (cond t (Some b.1) (find_entry bytes_cmp name bs)))) [
        | true ↦ h.0
        | false ↦ branch-is r name bs h.1
      ]

  mark-is : (r : Replay) (i : ℕ) (ms : List (ℕ × Marked)) → Each (λ m. IfOwnMark r m.1) ms → IfOwn r (option_and_then marked_commit (marked i ms))
  mark-is r i [] h = tt
  mark-is r i ((j, x) ∷ ms) h =
      elim (j == i) as (λ t. IfOwn r (option_and_then marked_commit (cond t (Some x) (marked i ms)))) [
        | true ↦ of-mark x h.0
        | false ↦ mark-is r i ms h.1
      ]
    where
      of-mark : (x : Marked) → IfOwnMark r x → IfOwn r (marked_commit x)
      of-mark (BlobMark b) k = tt
      of-mark (CommitMark n) k = k
      of-mark TagMark k = tt

  ref-is : (r : Replay) (name : Bytes) (o : Option Bytes) → ((n : Bytes) → o ≡ Some n → from ≡ Some n) → IfOwn r (find_entry bytes_cmp name (map (λ n. (refname, n)) (option_to_list o)))
  ref-is r name None h = tt
  ref-is r name (Some n) h =
      elim (eq_by_cmp bytes_cmp name refname) as (λ t. IfOwn r (cond t (Some n) None)) [
        | true ↦ inr (h n refl)
        | false ↦ tt
      ]

  or-own : (r : Replay) (a b : Option Bytes) → IfOwn r a → IfOwn r b → IfOwn r (option_or a b)
  or-own r None b h k = k
  or-own r (Some n) b h k = h

  target-own : (r : Replay) (c : CommitRef) (t : Target) → is_by_digits (Some (record c { target = t })) ≡ false → AreOwn r → IfOwn r (target_name narrow r t)
  target-own r c (targets.Mark n) e i = mark-is r n r.marks i.marks
  target-own r c (targets.Digits n) e i = absurd (true≢false e)
  target-own r c (targets.Ref name) e i = or-own r (branch r name) (find_entry bytes_cmp name narrow.refs) (branch-is r name r.branches i.branches) (ref-is r name from (λ n e. e))

  -- ---- one command

  module _ (es : List (Bytes × Flat)) where
    target-same : (r : Replay) (t : Target) → target_name (wide es) r t ≡ target_name narrow r t
    target-same r (targets.Mark n) = refl
    target-same r (targets.Digits n) = refl
    target-same r (targets.Ref n) = refl

    known-by : (r : Replay) (at : ℕ) (o : Option Bytes) → IfOwn r o →
        (or_refuse (Unresolved at) o >>= λ n. must (Unresolved at) (is_some (tree_of (wide es) r n)) >>= λ u. Ok n)
        ≡ (or_refuse (Unresolved at) o >>= λ n. must (Unresolved at) (is_some (tree_of narrow r n)) >>= λ u. Ok n)
    known-by r at None k = refl
    known-by r at (Some n) k = ap (λ b. must (Unresolved at) b >>= λ u. Ok n) (own-wide es r n k ∙ sym (own-narrow r n k))

    said-same : (r : Replay) (o : Option CommitRef) → is_by_digits o ≡ false → AreOwn r → said (wide es) r o ≡ said narrow r o
    said-same r None e i = refl
    said-same r (Some c) e i =
        ap (λ (x : Result Bytes StreamFault). x >>= λ n. Ok (Some n))
        (ap (λ o. or_refuse (Unresolved c.at) o >>= λ n. must (Unresolved c.at) (is_some (tree_of (wide es) r n)) >>= λ u. Ok n) (target-same r c.target)
        ∙ known-by r c.at (target_name narrow r c.target) (target-own r c c.target e i))

    parent-same : (r : Replay) (h : CommitHead) (o : Option CommitRef) → pushed_parent (wide es) r h o ≡ pushed_parent narrow r h o
    parent-same r h None = refl
    parent-same r h (Some c) = λ i. or_refuse (Unresolved c.at) (target-same r c.target i) >>= λ n. Ok (Some n)

    -- the chain's end has the same tree
    by-end : (x y z : Option Flat) → (is_some x ≡ true) ⊎ ((y ≡ Some seen) × (z ≡ Some seen)) → option_or x y ≡ option_or x z
    by-end None y z (inl k) = absurd (true≢false (sym k))
    by-end (Some t) y z (inl k) = refl
    by-end x y z (inr k) = ap (option_or x) (k.0 ∙ sym k.1)

    end-same : (r : Replay) (n : Bytes) → chain_end from r ≡ Some n → tree_of (wide es) r n ≡ tree_of narrow r n
    end-same r n e =
        tree-is refname from seen es r n ∙ by-end (value_at n (made_trees r)) (value_at n (wide es).commits) (value_at n narrow.commits) (both (end-cases refname from seen r n e)) ∙ sym (narrow-is r n)
      where
        both : IsOwn r n → (is_some (value_at n (made_trees r)) ≡ true) ⊎ ((value_at n (wide es).commits ≡ Some seen) × (value_at n narrow.commits ≡ Some seen))
        both (inl k) = inl k
        both (inr k) = inr (front refname from seen from n k es, front-alone from n k)

    upon-same : (r : Replay) (first : Option Bytes) → chain_end from r ≡ first → tree_upon (wide es) r first ≡ tree_upon narrow r first
    upon-same r None e = refl
    upon-same r (Some n) e = ap (λ (o : Option Flat). unwrap_or o []) (end-same r n e)

    at-head : (r : Replay) (h : CommitHead) (first : Option Bytes) (b : Bool) → is_same_name (chain_end from r) first ≡ b
        → (must (NotAtHead (chain_end from r) first) b >>= λ u. must (FurtherParents (length r.commits + 1)) (is_nil h.merges) >>= λ w. Ok (begun (wide es) r h first (option_to_list first)))
        ≡ (must (NotAtHead (chain_end from r) first) b >>= λ u. must (FurtherParents (length r.commits + 1)) (is_nil h.merges) >>= λ w. Ok (begun narrow r h first (option_to_list first)))
    at-head r h first true e =
        λ i. must (FurtherParents (length r.commits + 1)) (is_nil h.merges) >>= λ w.
        Ok (record r { draft = Some (record { head = h; parents = option_to_list first; tree = upon-same r first (same-names (chain_end from r) first e) i }) })
    at-head r h first false e = refl

    bytes-same : (r : Replay) (at : ℕ) (m : Mode) (b : BlobRef) → given_bytes (wide es) r at m b ≡ given_bytes narrow r at m b
    bytes-same r at m (blobs.Inline x) = refl
    bytes-same r at m (blobs.Mark n) = refl
    bytes-same r at File (blobs.Digits n) = refl
    bytes-same r at Exec (blobs.Digits n) = refl
    bytes-same r at Link (blobs.Digits n) = refl
    bytes-same r at Module (blobs.Digits n) = refl
    bytes-same r at Dir (blobs.Digits n) = refl

    edited-same : (r : Replay) (at : ℕ) (t : Flat) (c : Change) → edited (wide es) r at t c ≡ edited narrow r at t c
    edited-same r at t (changes.Modify m b p) = λ i. bytes-same r at m b i >>= λ b. few_files at (put t p (LeafNode (leaf_of m b)))
    edited-same r at t (changes.Delete p) = refl
    edited-same r at t (changes.Rename p q) = refl
    edited-same r at t (changes.Copy p q) = refl
    edited-same r at t changes.DeleteAll = refl

    not-is : (b : Bool) → not b ≡ true → b ≡ false
    not-is true e = absurd (true≢false (sym e))
    not-is false e = refl

    command-same : (r : Replay) (at : ℕ) (c : Command) → is_usual c ≡ true → is_untagged c ≡ true → AreOwn r
        → push_step (wide es) refname from r (record { at = at; command = c }) ≡ push_step narrow refname from r (record { at = at; command = c })
    command-same r at (commands.Commit h) u v w =
        λ i. must (OtherRef at) (same_bytes h.refname refname) >>= λ x. refused_by Faulty (parent-same r h h.from i) >>= λ first. at-head r h first (is_same_name (chain_end from r) first) refl i
    command-same r at (commands.Reset name target) u v w =
        λ i. must (OtherRef at) (same_bytes name refname) >>= λ x. refused_by Faulty (said-same r target (not-is (is_by_digits target) u) w i >>= λ n. Ok (with_branch name n r))
    command-same r at (commands.Blob m b) u v w = refl
    command-same r at (commands.Change c) u v w =
        λ i. refused_by Faulty (or_refuse (Syntax at) r.draft >>= λ d. edited-same r at d.tree c i >>= λ t. Ok (record r { blobs = r.blobs ++ inline_blob c; draft = Some (record d { tree = t }) }))
    command-same r at commands.CommitEnd u v w = refl
    command-same r at (commands.Tag h) u v w = absurd (true≢false (sym v))
    command-same r at commands.Done u v w = refl

  -- ---- what one command leaves

  said-own : (r : Replay) (o : Option CommitRef) (x : Option Bytes) → is_by_digits o ≡ false → AreOwn r → said narrow r o ≡ Ok x → IfOwn r x
  said-own r None x e i q = subst (IfOwn r) (ok-same None x (Ok None) refl q) tt
  said-own r (Some c) x e i q =
      let a = bind-ok (known narrow r c) (λ n. Ok (Some n)) x q in
      let b = bind-ok (or_refuse (Unresolved c.at) (target_name narrow r c.target)) (λ n. must (Unresolved c.at) (is_some (tree_of narrow r n)) >>= λ u. Ok n) a.0 a.1 in
      let d = must-ok (Unresolved c.at) (is_some (tree_of narrow r b.0)) (λ u. Ok b.0) a.0 b.2 in
      let same : b.0 ≡ a.0 = ok-same b.0 a.0 (Ok b.0) refl d.1 in
      let k : IsOwn r b.0 = subst (IfOwn r) (refuse-ok (Unresolved c.at) (target_name narrow r c.target) b.0 b.1) (target-own r c c.target e i) in
      subst (IfOwn r) (ap Some same ∙ ok-same (Some a.0) x (Ok (Some a.0)) refl a.2) k

  step-own : (r s : Replay) (at : ℕ) (c : Command) → is_usual c ≡ true → AreOwn r → command_step narrow r at c ≡ Ok s → AreOwn s
  step-own r s at (commands.Blob m b) u i e =
      let next : Replay = record r { blobs = r.blobs ++ b ∷ [] } in
      subst AreOwn (ok-same (with_mark m (BlobMark b) next) s (Ok (with_mark m (BlobMark b) next)) refl e) (marked-own m (BlobMark b) next tt (still-own r next i refl refl refl))
  step-own r s at (commands.Commit h) u i e =
      let a = bind-ok (first_parent narrow r h) _ s e in
      let b = bind-ok (with_merges narrow r (option_to_list a.0) h.merges) _ s a.2 in
      let next : Replay = begun narrow r h a.0 b.0 in
      subst AreOwn (ok-same next s (Ok next) refl b.2) (still-own r next i refl refl refl)
  step-own r s at (commands.Change c) u i e =
      let a = bind-ok (or_refuse (Syntax at) r.draft) _ s e in
      let b = bind-ok (edited narrow r at a.0.tree c) _ s a.2 in
      let next : Replay = record r { blobs = r.blobs ++ inline_blob c; draft = Some (record a.0 { tree = b.0 }) } in
      subst AreOwn (ok-same next s (Ok next) refl b.2) (still-own r next i refl refl refl)
  step-own r s at commands.CommitEnd u i e =
      let a = bind-ok (or_refuse (Syntax at) r.draft) _ s e in
      subst AreOwn (ok-same (committed r a.0) s (Ok (committed r a.0)) refl a.2) (committed-own r a.0 i)
  step-own r s at (commands.Reset name target) u i e =
      let a = bind-ok (said narrow r target) _ s e in
      subst AreOwn (ok-same (with_branch name a.0 r) s (Ok (with_branch name a.0 r)) refl a.2)
      (branch-own r name a.0 (said-own r target a.0 (not-false (is_by_digits target) u) i a.1) i)
    where
      not-false : (b : Bool) → not b ≡ true → b ≡ false
      not-false true e = absurd (true≢false (sym e))
      not-false false e = refl
  step-own r s at (commands.Tag h) u i e =
      let a = bind-ok (known narrow r h.from) (λ n. Ok (tagged h n r)) s e in
      let next : Replay = record r { tags = put_tag (tag_of h a.0) r.tags } in
      subst AreOwn (ok-same (tagged h a.0 r) s (Ok (tagged h a.0 r)) refl a.2) (marked-own h.mark TagMark next tt (still-own r next i refl refl refl))
  step-own r s at commands.Done u i e = subst AreOwn (ok-same r s (Ok r) refl e) i

  -- ---- a whole stream

  ran-same : (es : List (Bytes × Flat)) (end : Option StreamRefusal) (r : Replay) (ps : List Placed) → list_all (λ p. is_usual p.command) ps ≡ true
      → list_all (λ p. is_untagged p.command) ps ≡ true → AreOwn r → ran_by (push_step (wide es) refname from) end r ps ≡ ran_by (push_step narrow refname from) end r ps
  ran-same es end r [] u v i = refl
  ran-same es end r (p ∷ ps) u v i =
      let a : (is_usual p.command ≡ true) × (list_all (λ p. is_usual p.command) ps ≡ true) = and_parts (is_usual p.command) (list_all (λ p. is_usual p.command) ps) u in
      let b : (is_untagged p.command ≡ true) × (list_all (λ p. is_untagged p.command) ps ≡ true) = and_parts (is_untagged p.command) (list_all (λ p. is_untagged p.command) ps) v in
      ap (gone_on p r (λ s. ran_by (push_step (wide es) refname from) end s ps)) (command-same es r p.at p.command a.0 b.0 i)
      ∙ by (push_step narrow refname from r p) refl (λ s e. ran-same es end s ps a.1 b.1 (step-own r s p.at p.command a.0 i (goes-on refname from seen r s p e)))
    where
      by : (x : Result Replay StreamRefusal) → push_step narrow refname from r p ≡ x
          → ((s : Replay) → push_step narrow refname from r p ≡ Ok s → ran_by (push_step (wide es) refname from) end s ps ≡ ran_by (push_step narrow refname from) end s ps)
          → gone_on p r (λ s. ran_by (push_step (wide es) refname from) end s ps) x ≡ gone_on p r (λ s. ran_by (push_step narrow refname from) end s ps) x
      by (Ok s) e h = ap (λ (y : Ran StreamRefusal). record { tried = p ∷ y.tried; state = y.state; fault = y.fault }) (h s e)
      by (Err f) e h = refl

usual-plain : (c : Command) → is_usual c ≡ true → is_plain c ≡ true
usual-plain (commands.Commit h) e = e
usual-plain (commands.Reset name target) e = refl
usual-plain (commands.Blob m b) e = refl
usual-plain (commands.Change c) e = refl
usual-plain commands.CommitEnd e = refl
usual-plain (commands.Tag h) e = refl
usual-plain commands.Done e = refl

all-plain : (ps : List Placed) → list_all (λ p. is_usual p.command) ps ≡ true → list_all (λ p. is_plain p.command) ps ≡ true
all-plain [] e = refl
all-plain (p ∷ ps) e =
    let a : (is_usual p.command ≡ true) × (list_all (λ p. is_usual p.command) ps ≡ true) = and_parts (is_usual p.command) (list_all (λ p. is_usual p.command) ps) e in
    and_from (is_plain p.command) (list_all (λ p. is_plain p.command) ps) (usual-plain p.command a.0) (all-plain ps a.1)

pub usual-law : UsualLaw
usual-law refname from seen es input u =
    let ps : List Placed = (verdict start input).commands in
    let end : Option StreamRefusal = option_map Faulty (verdict start input).fault in
    ap (at_the_end refname from)
    (plain-law (merge_base refname from seen es) refname from end nothing_yet ps (all-plain ps u)
    ∙ ran-same refname from seen es end nothing_yet ps u (untagged input) (record { branches = tt; marks = tt }))

pub same-push-law : SamePushLaw
same-push-law k f g h refname input i u a =
    let ks : Entries = projections k (shown f) [] g in
    let from : Option Bytes = commit_of_shown (projection k (shown f) g h) in
    let seen : Flat = shown f (tree_at g h) in
    let same : merge_replay refname from seen (shown_trees f g ks) input ≡ push_replay refname from seen input = usual-law refname from seen (shown_trees f g ks) input u in
    let cs : List Snapshot = (push_replay refname from seen input).state.commits in
    let line = chain-law refname from seen input in
    record {
      stream = same;
      originals = ap (λ (x : Ran StreamRefusal). made_from k f (begun_upon k f g h) x.state.commits) same ∙ made-law k f g h cs i line a;
      refusal = ap (λ (x : Ran StreamRefusal). option_or (option_map StreamRefused x.fault) (refusal_of (merge_verdict k f g h x.state.commits))) same
          ∙ ap (λ v. option_or (option_map StreamRefused (push_replay refname from seen input).fault) (refusal_of v)) (in-line-law k f g h cs i line a);
    }

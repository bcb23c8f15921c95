-- What a stream stands upon: where a push goes on so does any replay, and the trees of other projections don't matter.
use Rattle.std.specs.Prelude.{◌≡◌, refl, ℕ, ◌+◌, length, nat_lt, Bool, true, false, cond, List, [], ◌∷◌, ◌++◌, map, Option, Some, None, Result, Ok, Err}
use Rattle.std.specs.Option.{is_some, option_map, option_or, option_to_list, unwrap_or}
use Rattle.std.specs.List.{cons_option, last_or}
use Rattle.std.proofs.Common.{◌⊎◌, inl, inr, ap, ◌∙◌, sym, subst}
use Rattle.git_objects.specs.Paths.{Bytes, same_bytes}
use Rattle.git_objects.specs.Results.{◌>>=◌, must, or_refuse, refused_by}
use Rattle.git_objects.specs.Snapshots.{Snapshot, snapshot_name}
use Rattle.git_objects.specs.Trees.{Flat}
use Rattle.git_objects.specs.declared.limits.TheConstants.{PARENTS}
use Rattle.git_objects.specs.declared.quantity.Quantity.TheVariants.{Parents}
use Rattle.git_objects.specs.declared.mode.Mode.{Mode}
use Rattle.git_objects.specs.declared.mode.Mode.TheVariants.{File, Exec, Link, Module, Dir}
use Rattle.git_objects.proofs.Basics.{same_bytes-self}
use Rattle.stream_reader.specs.declared.command.BlobRef.{BlobRef}
use Rattle.stream_reader.specs.declared.command.BlobRef.TheVariants as blobs
use Rattle.stream_reader.specs.declared.command.Change.{Change}
use Rattle.stream_reader.specs.declared.command.Change.TheVariants as changes
use Rattle.stream_reader.specs.declared.command.Command.{Command}
use Rattle.stream_reader.specs.declared.command.Command.TheVariants as commands
use Rattle.stream_reader.specs.declared.command.CommitHead.{CommitHead}
use Rattle.stream_reader.specs.declared.command.Placed.{Placed}
use Rattle.stream_reader.specs.declared.commit_ref.CommitRef.{CommitRef}
use Rattle.stream_reader.specs.declared.commit_ref.Target.{Target}
use Rattle.stream_reader.specs.declared.commit_ref.Target.TheVariants as targets
use Rattle.stream_reader.specs.declared.fault.StreamFault.{StreamFault}
use Rattle.stream_reader.specs.declared.fault.StreamFault.TheVariants.{Limit, Syntax, Unresolved}
use Rattle.stream_reader.specs.Verdicts.{start, verdict}
use Rattle.fast_import.specs.Replays.{Base, Ran, Replay, begun, branch, edited, few_files, given_bytes, gone_on, inline_blob, known, leaf_of, named_parent, named_tree, nothing_yet, one_more, ran_by, said, step, target_name, tree_of, tree_upon, value_at, tagged, with_branch, with_merges}
use Rattle.git_objects.specs.Trees.{LeafNode, put}
use Rattle.object_store.specs.Objects.{Object}
use Rattle.fast_import.specs.Made.{IsMadeBy, IsMadeOn}
use Rattle.fast_import.proofs.Resolving.{value-append}
use Rattle.push_laws.proofs.PushSteps.{named-pushed, not-refused}
use Rattle.push_laws.proofs.Refusing.{same-names}
use Rattle.push_laws.specs.PushReplays.{StreamRefusal, Faulty, OtherRef, NotAtHead, FurtherParents, at_the_end, chain_end, is_same_name, pushed_parent}
use Rattle.merge_laws.proofs.Binding.{bind-ok, must-ok, ok-same, refuse-ok}
use Rattle.merge_laws.specs.MergeReplays.{is_once, merge_base, merge_step}
use Rattle.merge_laws.specs.StreamLaws.{CommitLaw, GoesOnLaw, NamesLaw, TriedLaw, named}

-- ---- looking up

value-here : (n : Bytes) (t : Flat) (es : List (Bytes × Flat)) → value_at n ((n, t) ∷ es) ≡ Some t
value-here n t es = ap (λ b. cond b (Some t) (value_at n es)) (same_bytes-self n)

-- the first of a list that has an end
last-valued : (cs : List Snapshot) (o : Option Snapshot) (c : Snapshot) → last_or o cs ≡ Some c → (o ≡ Some c) ⊎ (is_some (value_at (snapshot_name c) (map named_tree cs)) ≡ true)
last-valued [] o c e = inl e
last-valued (d ∷ cs) o c e = by (last-valued cs (Some d) c e)
  where
    there : (b : Bool) → is_some (value_at (snapshot_name c) (map named_tree cs)) ≡ true → is_some (cond b (Some d.tree) (value_at (snapshot_name c) (map named_tree cs))) ≡ true
    there true h = refl
    there false h = h

    by : (Some d ≡ Some c) ⊎ (is_some (value_at (snapshot_name c) (map named_tree cs)) ≡ true) → (o ≡ Some c) ⊎ (is_some (value_at (snapshot_name c) (map named_tree (d ∷ cs))) ≡ true)
    by (inl q) = let same : d ≡ c = cc in inr (subst (λ (x : Snapshot). is_some (value_at (snapshot_name x) (map named_tree (d ∷ cs))) ≡ true) same (ap is_some (value-here (snapshot_name d) d.tree (map named_tree cs))))
    by (inr q) = inr (there (same_bytes (snapshot_name d) (snapshot_name c)) q)

or-some : (x y z : Option Flat) → is_some x ≡ true → option_or x y ≡ option_or x z
or-some None y z e = absurd cc
or-some (Some t) y z e = refl

pub or-there : (x y : Option Flat) → is_some x ≡ true → is_some (option_or x y) ≡ true
or-there None y e = absurd cc
or-there (Some t) y e = refl

pub or-same : (x y z : Option Flat) → is_some y ≡ is_some z → is_some (option_or x y) ≡ is_some (option_or x z)
or-same None y z e = e
or-same (Some t) y z e = refl

module _ (refname : Bytes) (from : Option Bytes) (seen : Flat) where
  pub front : (o : Option Bytes) (n : Bytes) → o ≡ Some n → (es : List (Bytes × Flat)) → value_at n (map (λ m. (m, seen)) (option_to_list o) ++ es) ≡ Some seen
  front None n e es = absurd cc
  front (Some m) n e es = let same : m ≡ n = cc in subst (λ (x : Bytes). value_at n ((x, seen) ∷ es) ≡ Some seen) (sym same) (value-here n seen es)

  abbrev base : List (Bytes × Flat) → Base
  base projected = merge_base refname from seen projected

  -- a look-up is first among the commits of the stream
  pub tree-is : (es : List (Bytes × Flat)) (r : Replay) (n : Bytes) → tree_of (base es) r n ≡ option_or (value_at n (map named_tree r.commits)) (value_at n (base es).commits)
  tree-is es r n = value-append n (map named_tree r.commits) (base es).commits

  -- the chain's end is one of these, or the projection
  pub end-cases : (r : Replay) (n : Bytes) → chain_end from r ≡ Some n → (is_some (value_at n (map named_tree r.commits)) ≡ true) ⊎ (from ≡ Some n)
  end-cases r n e = by (last_or None r.commits) refl e
    where
      by : (o : Option Snapshot) → last_or None r.commits ≡ o → option_or (option_map snapshot_name o) from ≡ Some n → (is_some (value_at n (map named_tree r.commits)) ≡ true) ⊎ (from ≡ Some n)
      by None q k = inr k
      by (Some c) q k = let same : snapshot_name c ≡ n = cc in one same (last-valued r.commits None c q)
        where
          one : snapshot_name c ≡ n → (None ≡ Some c) ⊎ (is_some (value_at (snapshot_name c) (map named_tree r.commits)) ≡ true) → (is_some (value_at n (map named_tree r.commits)) ≡ true) ⊎ (from ≡ Some n)
          one s (inl x) = absurd cc
          one s (inr x) = inl (subst (λ (m : Bytes). is_some (value_at m (map named_tree r.commits)) ≡ true) s x)

  end-known : (es : List (Bytes × Flat)) (r : Replay) (n : Bytes) → chain_end from r ≡ Some n → is_some (tree_of (base es) r n) ≡ true
  end-known es r n e = ap is_some (tree-is es r n) ∙ by (end-cases r n e) (value_at n (map named_tree r.commits)) refl
    where
      by : (is_some (value_at n (map named_tree r.commits)) ≡ true) ⊎ (from ≡ Some n) → (x : Option Flat) → value_at n (map named_tree r.commits) ≡ x → is_some (option_or x (value_at n (base es).commits)) ≡ true
      by (inl k) x q = or-there x (value_at n (base es).commits) (ap is_some (sym q) ∙ k)
      by (inr k) None q = ap is_some (front from n k es)
      by (inr k) (Some t) q = refl

  -- what comes behind a commit's first parent
  abbrev rest : List (Bytes × Flat) → Replay → CommitHead → Option Bytes → Result Replay StreamFault
  rest ds r h first = with_merges (base ds) r (option_to_list first) h.merges >>= λ parents. Ok (begun (base ds) r h first parents)

  -- the same in a push
  abbrev tail : List (Bytes × Flat) → Replay → CommitHead → Option Bytes → Result Replay StreamRefusal
  tail ds r h first = refused_by Faulty (with_merges (base ds) r (option_to_list first) h.merges) >>= λ parents.
      must (FurtherParents (length r.commits + 1)) (is_once parents) >>= λ u. Ok (begun (base ds) r h first parents)

  -- ---- where a push goes on, so does any replay

  module _ (es : List (Bytes × Flat)) where
    said-first : (r : Replay) (h : CommitHead) (first : Option Bytes) (o : Option CommitRef) → pushed_parent (base es) r h o ≡ Ok first → is_same_name (chain_end from r) first ≡ true
        → (said (base es) r o >>= λ n. Ok (option_or n (branch r h.refname))) ≡ Ok first
    said-first r h first None e k = e
    said-first r h first (Some c) e k = by (target_name (base es) r c.target) e
      where
        by : (t : Option Bytes) → (or_refuse (Unresolved c.at) t >>= λ n. Ok (Some n)) ≡ Ok first →
            ((or_refuse (Unresolved c.at) t >>= λ n. must (Unresolved c.at) (is_some (tree_of (base es) r n)) >>= λ u. Ok n) >>= λ n. Ok (Some n)) >>= (λ n. Ok (option_or n (branch r h.refname))) ≡ Ok first
        by None q = absurd cc
        by (Some n) q =
            let same : first ≡ Some n = cc in
            ap (λ b. ((must (Unresolved c.at) b >>= λ u. Ok n) >>= λ n. Ok (Some n)) >>= (λ n. Ok (option_or n (branch r h.refname)))) (end-known es r n (same-names (chain_end from r) first k ∙ same))
            ∙ ap (λ z. Ok z) (sym same)

    commit-on : (r s : Replay) (at : ℕ) (h : CommitHead) → merge_step (base es) refname from r (record { at = at; command = commands.Commit h }) ≡ Ok s
        → step (base es) r (record { at = at; command = commands.Commit h }) ≡ Ok s
    commit-on r s at h e = on-ref (same_bytes h.refname refname) e
      where
        once : (b : Bool) (x : Replay) → (must (FurtherParents (length r.commits + 1)) b >>= λ u. Ok x) ≡ Ok s → x ≡ s
        once true x q = cc
        once false x q = absurd cc

        merged : (first : Option Bytes) (m : Result (List Bytes) StreamFault) →
            (refused_by Faulty m >>= λ parents. must (FurtherParents (length r.commits + 1)) (is_once parents) >>= λ u. Ok (begun (base es) r h first parents)) ≡ Ok s
            → (m >>= λ parents. Ok (begun (base es) r h first parents)) ≡ Ok s
        merged first (Ok parents) q = ap (λ z. Ok z) (once (is_once parents) (begun (base es) r h first parents) q)
        merged first (Err f) q = absurd cc

        at-end : (first : Option Bytes) → pushed_parent (base es) r h h.from ≡ Ok first → (b : Bool) → is_same_name (chain_end from r) first ≡ b
            → (must (NotAtHead (chain_end from r) first) b >>= λ u. tail es r h first) ≡ Ok s → step (base es) r (record { at = at; command = commands.Commit h }) ≡ Ok s
        at-end first p true k q =
            ap (λ (x : Result (Option Bytes) StreamFault). x >>= λ first. rest es r h first) (said-first r h first h.from p k)
            ∙ merged first (with_merges (base es) r (option_to_list first) h.merges) q
        at-end first p false k q = absurd cc

        on-parent : (x : Result (Option Bytes) StreamFault) → pushed_parent (base es) r h h.from ≡ x
            → (refused_by Faulty x >>= λ first. must (NotAtHead (chain_end from r) first) (is_same_name (chain_end from r) first) >>= λ u. tail es r h first) ≡ Ok s
            → step (base es) r (record { at = at; command = commands.Commit h }) ≡ Ok s
        on-parent (Ok first) p q = at-end first p (is_same_name (chain_end from r) first) refl q
        on-parent (Err f) p q = absurd cc

        on-ref : (b : Bool) → (must (OtherRef at) b >>= λ u. refused_by Faulty (pushed_parent (base es) r h h.from) >>= λ first.
            must (NotAtHead (chain_end from r) first) (is_same_name (chain_end from r) first) >>= λ w. tail es r h first) ≡ Ok s
            → step (base es) r (record { at = at; command = commands.Commit h }) ≡ Ok s
        on-ref true q = on-parent (pushed_parent (base es) r h h.from) refl q
        on-ref false q = absurd cc

    same-self : (o : Option Bytes) → is_same_name o o ≡ true
    same-self None = refl
    same-self (Some n) = same_bytes-self n

    append-back : (xs ys zs : List Bytes) → (xs ++ ys) ++ zs ≡ xs ++ (ys ++ zs)
    append-back [] ys zs = refl
    append-back (x ∷ xs) ys zs = ap (λ z. x ∷ z) (append-back xs ys zs)

    append-none : (xs : List Bytes) → xs ≡ xs ++ []
    append-none [] = refl
    append-none (x ∷ xs) = ap (λ z. x ∷ z) (append-none xs)

    more-is : (at : ℕ) (ps : List Bytes) (n : Bytes) (qs : List Bytes) (b : Bool) → cond b (Ok (ps ++ n ∷ [])) (Err (Limit at Parents)) ≡ Ok qs → ps ++ n ∷ [] ≡ qs
    more-is at ps n qs true e = cc
    more-is at ps n qs false e = cc

    -- the parents are the names that the lines give
    named-of : (r : Replay) (ps : List Bytes) (ms : List CommitRef) (qs : List Bytes) → with_merges (base es) r ps ms ≡ Ok qs → qs ≡ ps ++ named (base es) r ms
    named-of r ps [] qs e = let same : ps ≡ qs = cc in sym same ∙ append-none ps
    named-of r ps (m ∷ ms) qs e =
        let a = bind-ok (known (base es) r m) (λ n. one_more m.at ps n >>= λ more. with_merges (base es) r more ms) qs e in
        let b = bind-ok (or_refuse (Unresolved m.at) (target_name (base es) r m.target)) (λ n. must (Unresolved m.at) (is_some (tree_of (base es) r n)) >>= λ x. Ok n) a.0 a.1 in
        let c = must-ok (Unresolved m.at) (is_some (tree_of (base es) r b.0)) (λ x. Ok b.0) a.0 b.2 in
        let same : b.0 ≡ a.0 = ok-same b.0 a.0 (Ok b.0) refl c.1 in
        let there : target_name (base es) r m.target ≡ Some a.0 = refuse-ok (Unresolved m.at) (target_name (base es) r m.target) b.0 b.1 ∙ ap Some same in
        let d = bind-ok (one_more m.at ps a.0) (λ more. with_merges (base es) r more ms) qs a.2 in
        named-of r d.0 ms qs d.2
        ∙ ap (λ z. z ++ named (base es) r ms) (sym (more-is m.at ps a.0 d.0 (nat_lt (length ps) PARENTS) d.1))
        ∙ append-back ps (a.0 ∷ []) (named (base es) r ms)
        ∙ ap (λ o. ps ++ cons_option o (named (base es) r ms)) (sym there)

    pub commit-as : (r : Replay) (at : ℕ) (h : CommitHead) → same_bytes h.refname refname ≡ true → named_parent (base es) r h ≡ Ok (chain_end from r)
        → merge_step (base es) refname from r (record { at = at; command = commands.Commit h })
        ≡ (refused_by Faulty (step (base es) r (record { at = at; command = commands.Commit h })) >>= λ s.
        must (FurtherParents (length r.commits + 1)) (is_once (option_to_list (chain_end from r) ++ named (base es) r h.merges)) >>= λ u. Ok s)
    commit-as r at h here parent =
        let first : Option Bytes = chain_end from r in
        let said : pushed_parent (base es) r h h.from ≡ Ok first = sym (named-pushed (base es) r h) ∙ parent in
        (λ i. must (OtherRef at) (here i) >>= λ u. refused_by Faulty (said i) >>= λ x. must (NotAtHead first x) (is_same_name first x) >>= λ w. tail es r h x)
        ∙ ap (λ b. must (NotAtHead first first) b >>= λ w. tail es r h first) (same-self first)
        ∙ by (with_merges (base es) r (option_to_list first) h.merges) refl
        ∙ sym (ap (λ (x : Result (Option Bytes) StreamFault). refused_by Faulty (x >>= λ first. rest es r h first) >>= λ s.
        must (FurtherParents (length r.commits + 1)) (is_once (option_to_list (chain_end from r) ++ named (base es) r h.merges)) >>= λ u. Ok s)
        (said-first r h first h.from said (same-self first)))
      where
        by : (m : Result (List Bytes) StreamFault) → with_merges (base es) r (option_to_list (chain_end from r)) h.merges ≡ m →
            (refused_by Faulty m >>= λ parents. must (FurtherParents (length r.commits + 1)) (is_once parents) >>= λ u. Ok (begun (base es) r h (chain_end from r) parents))
            ≡ (refused_by Faulty (m >>= λ parents. Ok (begun (base es) r h (chain_end from r) parents)) >>= λ s.
            must (FurtherParents (length r.commits + 1)) (is_once (option_to_list (chain_end from r) ++ named (base es) r h.merges)) >>= λ u. Ok s)
        by (Ok ps) e =
            ap (λ ns. must (FurtherParents (length r.commits + 1)) (is_once ns) >>= λ u. Ok (begun (base es) r h (chain_end from r) ps)) (named-of r (option_to_list (chain_end from r)) h.merges ps e)
        by (Err f) e = refl

    reset-on : (r s : Replay) (at : ℕ) (x : Result Replay StreamFault) (b : Bool) → (must (OtherRef at) b >>= λ u. refused_by Faulty x) ≡ Ok s → x ≡ Ok s
    reset-on r s at x true e = not-refused x s e
    reset-on r s at x false e = absurd cc

    pub goes-on : (r s : Replay) (p : Placed) → merge_step (base es) refname from r p ≡ Ok s → step (base es) r p ≡ Ok s
    goes-on r s p e = by p.command e
      where
        by : (c : Command) → merge_step (base es) refname from r (record { at = p.at; command = c }) ≡ Ok s → step (base es) r (record { at = p.at; command = c }) ≡ Ok s
        by (commands.Commit h) k = commit-on r s p.at h k
        by (commands.Reset name target) k = reset-on r s p.at (step (base es) r (record { at = p.at; command = commands.Reset name target })) (same_bytes name refname) k
        by (commands.Blob mark b) k = not-refused _ s k
        by (commands.Change c) k = not-refused _ s k
        by commands.CommitEnd k = not-refused _ s k
        by (commands.Tag h) k = not-refused _ s k
        by commands.Done k = not-refused _ s k

  -- ---- other trees of the same names

  module _ (es fs : List (Bytes × Flat)) (same : (n : Bytes) → is_some (value_at n es) ≡ is_some (value_at n fs)) where
    has-same : (r : Replay) (n : Bytes) → is_some (tree_of (base es) r n) ≡ is_some (tree_of (base fs) r n)
    has-same r n =
        let front_of : List (Bytes × Flat) = map (λ m. (m, seen)) (option_to_list from) in
        ap is_some (tree-is es r n)
        ∙ or-same (value_at n (map named_tree r.commits)) (value_at n (base es).commits) (value_at n (base fs).commits)
        (ap is_some (value-append n front_of es)
        ∙ or-same (value_at n front_of) (value_at n es) (value_at n fs) (same n)
        ∙ ap is_some (sym (value-append n front_of fs)))
        ∙ ap is_some (sym (tree-is fs r n))

    -- but the chain's end has the same tree
    end-same : (r : Replay) (n : Bytes) → chain_end from r ≡ Some n → tree_of (base es) r n ≡ tree_of (base fs) r n
    end-same r n e = tree-is es r n ∙ by (end-cases r n e) ∙ sym (tree-is fs r n)
      where
        by : (is_some (value_at n (map named_tree r.commits)) ≡ true) ⊎ (from ≡ Some n)
            → option_or (value_at n (map named_tree r.commits)) (value_at n (base es).commits) ≡ option_or (value_at n (map named_tree r.commits)) (value_at n (base fs).commits)
        by (inl k) = or-some (value_at n (map named_tree r.commits)) (value_at n (base es).commits) (value_at n (base fs).commits) k
        by (inr k) = ap (option_or (value_at n (map named_tree r.commits))) (front from n k es ∙ sym (front from n k fs))

    target-same : (r : Replay) (t : Target) → target_name (base es) r t ≡ target_name (base fs) r t
    target-same r (targets.Mark n) = refl
    target-same r (targets.Digits n) = refl
    target-same r (targets.Ref n) = refl

    known-same : (r : Replay) (c : CommitRef) → known (base es) r c ≡ known (base fs) r c
    known-same r c = λ i. or_refuse (Unresolved c.at) (target-same r c.target i) >>= λ n. must (Unresolved c.at) (has-same r n i) >>= λ u. Ok n

    said-same : (r : Replay) (o : Option CommitRef) → said (base es) r o ≡ said (base fs) r o
    said-same r None = refl
    said-same r (Some c) = λ i. known-same r c i >>= λ n. Ok (Some n)

    merges-same : (r : Replay) (ps : List Bytes) (ms : List CommitRef) → with_merges (base es) r ps ms ≡ with_merges (base fs) r ps ms
    merges-same r ps [] = refl
    merges-same r ps (m ∷ ms) = λ i. known-same r m i >>= λ n. one_more m.at ps n >>= λ more. merges-same r more ms i

    parent-same : (r : Replay) (h : CommitHead) (o : Option CommitRef) → pushed_parent (base es) r h o ≡ pushed_parent (base fs) r h o
    parent-same r h None = refl
    parent-same r h (Some c) = λ i. or_refuse (Unresolved c.at) (target-same r c.target i) >>= λ n. Ok (Some n)

    upon-same : (r : Replay) (first : Option Bytes) → chain_end from r ≡ first → tree_upon (base es) r first ≡ tree_upon (base fs) r first
    upon-same r None e = refl
    upon-same r (Some n) e = ap (λ (o : Option Flat). unwrap_or o []) (end-same r n e)

    tail-same : (r : Replay) (h : CommitHead) (first : Option Bytes) → chain_end from r ≡ first → tail es r h first ≡ tail fs r h first
    tail-same r h first e = λ i. refused_by Faulty (merges-same r (option_to_list first) h.merges i) >>= λ parents.
        must (FurtherParents (length r.commits + 1)) (is_once parents) >>= λ u. Ok (record r { draft = Some (record { head = h; parents = parents; tree = upon-same r first e i }) })

    at-head : (r : Replay) (h : CommitHead) (first : Option Bytes) (b : Bool) → is_same_name (chain_end from r) first ≡ b
        → (must (NotAtHead (chain_end from r) first) b >>= λ u. tail es r h first) ≡ (must (NotAtHead (chain_end from r) first) b >>= λ u. tail fs r h first)
    at-head r h first true e = tail-same r h first (same-names (chain_end from r) first e)
    at-head r h first false e = refl

    digits-same : (r : Replay) (at : ℕ) (m : Mode) (b : BlobRef) → given_bytes (base es) r at m b ≡ given_bytes (base fs) r at m b
    digits-same r at m (blobs.Inline x) = refl
    digits-same r at m (blobs.Mark n) = refl
    digits-same r at File (blobs.Digits n) = refl
    digits-same r at Exec (blobs.Digits n) = refl
    digits-same r at Link (blobs.Digits n) = refl
    digits-same r at Module (blobs.Digits n) = refl
    digits-same r at Dir (blobs.Digits n) = refl

    edited-same : (r : Replay) (at : ℕ) (t : Flat) (c : Change) → edited (base es) r at t c ≡ edited (base fs) r at t c
    edited-same r at t (changes.Modify m b p) = λ i. digits-same r at m b i >>= λ b. few_files at (put t p (LeafNode (leaf_of m b)))
    edited-same r at t (changes.Delete p) = refl
    edited-same r at t (changes.Rename p q) = refl
    edited-same r at t (changes.Copy p q) = refl
    edited-same r at t changes.DeleteAll = refl

    pub command-same : (r : Replay) (at : ℕ) (c : Command) → merge_step (base es) refname from r (record { at = at; command = c }) ≡ merge_step (base fs) refname from r (record { at = at; command = c })
    command-same r at (commands.Commit h) =
        λ i. must (OtherRef at) (same_bytes h.refname refname) >>= λ u. refused_by Faulty (parent-same r h h.from i) >>= λ first. at-head r h first (is_same_name (chain_end from r) first) refl i
    command-same r at (commands.Reset name target) =
        λ i. must (OtherRef at) (same_bytes name refname) >>= λ u. refused_by Faulty (said-same r target i >>= λ n. Ok (with_branch name n r))
    command-same r at (commands.Blob m b) = refl
    command-same r at (commands.Change c) =
        λ i. refused_by Faulty (or_refuse (Syntax at) r.draft >>= λ d. edited-same r at d.tree c i >>= λ t. Ok (record r { blobs = r.blobs ++ inline_blob c; draft = Some (record d { tree = t }) }))
    command-same r at commands.CommitEnd = refl
    command-same r at (commands.Tag h) = λ i. refused_by Faulty (known-same r h.from i >>= λ n. Ok (tagged h n r))
    command-same r at commands.Done = refl

    pub ran-same : (end : Option StreamRefusal) (r : Replay) (ps : List Placed) → ran_by (merge_step (base es) refname from) end r ps ≡ ran_by (merge_step (base fs) refname from) end r ps
    ran-same end r [] = refl
    ran-same end r (p ∷ ps) = λ i. gone_on p r (λ s. ran-same end s ps i) (command-same r p.at p.command i)

-- ---- what the commands make that were tried

none-made : (x : Result Replay StreamFault) → IsMadeOn (λ s. ⊥) x → ⊥
none-made (Ok s) h = h
none-made (Err f) h = h

module _ (refname : Bytes) (from : Option Bytes) (seen : Flat) (es fs : List (Bytes × Flat)) (same : (n : Bytes) → is_some (value_at n es) ≡ is_some (value_at n fs)) (end : Option StreamRefusal) (o : Object) where
  abbrev ran_on : Replay → List Placed → Ran StreamRefusal
  ran_on r ps = ran_by (merge_step (merge_base refname from seen es) refname from) end r ps

  pub tried-same : (r : Replay) (ps : List Placed) → IsMadeBy (merge_base refname from seen es) r (ran_on r ps).tried o → IsMadeBy (merge_base refname from seen fs) r (ran_on r ps).tried o
  tried-same r [] h = h
  tried-same r (p ∷ ps) h = by (merge_step (merge_base refname from seen es) refname from r p) refl h (λ s. tried-same s ps)
    where
      by : (x : Result Replay StreamRefusal) → merge_step (merge_base refname from seen es) refname from r p ≡ x
          → IsMadeBy (merge_base refname from seen es) r (gone_on p r (λ s. ran_on s ps) x).tried o
          → ((s : Replay) → IsMadeBy (merge_base refname from seen es) s (ran_on s ps).tried o → IsMadeBy (merge_base refname from seen fs) s (ran_on s ps).tried o)
          → IsMadeBy (merge_base refname from seen fs) r (gone_on p r (λ s. ran_on s ps) x).tried o
      by (Ok s) e (inl a) later = inl a
      by (Ok s) e (inr b) later =
          inr (subst (IsMadeOn (λ q. IsMadeBy (merge_base refname from seen fs) q (ran_on s ps).tried o))
          (sym (goes-on refname from seen fs r s p (sym (command-same refname from seen es fs same r p.at p.command) ∙ e)))
          (later s (subst (IsMadeOn (λ q. IsMadeBy (merge_base refname from seen es) q (ran_on s ps).tried o)) (goes-on refname from seen es r s p e) b)))
      by (Err f) e (inl a) later = inl a
      by (Err f) e (inr b) later = absurd (none-made (step (merge_base refname from seen es) r p) b)

pub goes-on-law : GoesOnLaw
goes-on-law refname from seen projected r s p e = goes-on refname from seen projected r s p e

pub names-law : NamesLaw
names-law refname from seen es fs input same =
    λ i. at_the_end refname from (ran-same refname from seen es fs same (option_map Faulty (verdict start input).fault) nothing_yet (verdict start input).commands i)

pub tried-law : TriedLaw
tried-law refname from seen es fs input same o h =
    let end : Option StreamRefusal = option_map Faulty (verdict start input).fault in
    subst (λ x. IsMadeBy (merge_base refname from seen fs) nothing_yet x.tried o) (names-law refname from seen es fs input same)
    (tried-same refname from seen es fs same end o nothing_yet (verdict start input).commands h)

pub commit-law : CommitLaw
commit-law refname from seen projected r at h here parent = commit-as refname from seen projected r at h here parent

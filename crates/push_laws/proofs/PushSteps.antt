-- What a push refuses, and what it does as any replay does.
use Rattle.std.proofs.Common.{◌≡◌, ◌⊎◌, inl, inr, ◌+◌, ℕ, true, false, cond, List, [], ◌∷◌, length, map, Option, Some, None, Result, Ok, Err, refl, sym, ap, subst, ◌∙◌, arith}
use Rattle.std.specs.Prelude.{◌==◌}
use Rattle.std.specs.List.{last_or}
use Rattle.std.proofs.lemmas.Bool.{eqb-true}
use Rattle.std.specs.Option.{is_some, option_map, option_or, option_to_list}
use Rattle.git_objects.specs.Paths.{Bytes, is_nil, same_bytes}
use Rattle.git_objects.specs.Results.{◌>>=◌, must, or_refuse, refused_by}
use Rattle.git_objects.specs.Snapshots.{Snapshot, snapshot_name}
use Rattle.git_objects.specs.Trees.{Flat}
use Rattle.git_objects.proofs.Basics.{same_bytes-self}
use Rattle.stream_reader.specs.declared.command.Command.{Command}
use Rattle.stream_reader.specs.declared.command.Command.TheVariants as commands
use Rattle.stream_reader.specs.declared.command.CommitHead.{CommitHead}
use Rattle.stream_reader.specs.declared.command.Placed.{Placed}
use Rattle.stream_reader.specs.declared.commit_ref.CommitRef.{CommitRef}
use Rattle.stream_reader.specs.declared.fault.StreamFault.{StreamFault}
use Rattle.stream_reader.specs.declared.fault.StreamFault.TheVariants.{Unresolved}
use Rattle.fast_import.specs.Replays.{Base, Replay, begun, branch, named_parent, named_tree, said, step, target_name, tree_of, value_at, with_merges}
use Rattle.fast_import.proofs.Resolving.{value-append}
use Rattle.push_laws.specs.PushReplays.{StreamRefusal, Faulty, OtherRef, NotAtHead, FurtherParents, chain_end, is_same_name, push_base, push_step, pushed_parent}
use Rattle.push_laws.proofs.Refusing.{at_head, passed, same-names, unmerged}

-- ---- what isn't refused

pub not-refused : {A : Type 0} (x : Result A StreamFault) (s : A) → refused_by Faulty x ≡ Ok s → x ≡ Ok s
not-refused (Ok y) s e = let same : y ≡ s = cc in ap (λ z. Ok z) same
not-refused (Err f) s e = absurd cc

-- a parent by the definition of pushes is one by that of replays
named-by : (base : Base) (r : Replay) (h : CommitHead) (from : Option CommitRef) → named_parent base r (record h { from = from }) ≡ pushed_parent base r h from
named-by base r h None = refl
named-by base r h (Some c) = refl

pub named-pushed : (base : Base) (r : Replay) (h : CommitHead) → named_parent base r h ≡ pushed_parent base r h h.from
named-pushed base r h = named-by base r h h.from

no-merges : {A : Type 0} (xs : List A) → is_nil xs ≡ true → xs ≡ []
no-merges [] e = refl
no-merges (x ∷ xs) e = absurd cc

pub nil-empty : {A : Type 0} (xs : List A) → (length xs == 0) ≡ true → is_nil xs ≡ true
nil-empty [] e = refl
nil-empty (x ∷ xs) e = let no : length (x ∷ xs) ≡ 0 = eqb-true (length (x ∷ xs)) 0 e in absurd (omega arith)

-- ---- the chain's end is known

abbrev IsKnown : Bytes → List (Bytes × Flat) → Type 0
IsKnown n cs = is_some (value_at n cs) ≡ true

known-front : (n : Bytes) (c : Bytes × Flat) (cs : List (Bytes × Flat)) → IsKnown n cs → IsKnown n (c ∷ cs)
known-front n c cs h = elim (same_bytes c.0 n) as (λ b. is_some (cond b (Some c.1) (value_at n cs)) ≡ true) [ true ↦ refl | false ↦ h ]

known-here : (n : Bytes) (t : Flat) (cs : List (Bytes × Flat)) → IsKnown n ((n, t) ∷ cs)
known-here n t cs = ap (λ b. is_some (cond b (Some t) (value_at n cs))) (same_bytes-self n)

last-known : (cs : List Snapshot) (o : Option Snapshot) (c : Snapshot) → last_or o cs ≡ Some c → (o ≡ Some c) ⊎ IsKnown (snapshot_name c) (map named_tree cs)
last-known [] o c e = inl e
last-known (d ∷ cs) o c e = by (last-known cs (Some d) c e)
  where
    by : (Some d ≡ Some c) ⊎ IsKnown (snapshot_name c) (map named_tree cs) → (o ≡ Some c) ⊎ IsKnown (snapshot_name c) (map named_tree (d ∷ cs))
    by (inl q) = let same : d ≡ c = cc in inr (subst (λ (x : Snapshot). IsKnown (snapshot_name c) (map named_tree (x ∷ cs))) (sym same) (known-here (snapshot_name c) c.tree (map named_tree cs)))
    by (inr q) = inr (known-front (snapshot_name c) (named_tree d) (map named_tree cs) q)

known-either : (x y : Option Flat) → (is_some x ≡ true) ⊎ (is_some y ≡ true) → is_some (option_or x y) ≡ true
known-either None y (inl e) = absurd cc
known-either None y (inr e) = e
known-either (Some t) y e = refl

module _ (refname : Bytes) (from : Option Bytes) (shown : Flat) where
  abbrev base : Base
  base = push_base refname from shown

  from-known : (o : Option Bytes) (n : Bytes) → o ≡ Some n → IsKnown n (push_base refname o shown).commits
  from-known None n e = absurd cc
  from-known (Some m) n e = let same : m ≡ n = cc in subst (λ (x : Bytes). IsKnown n ((x, shown) ∷ [])) (sym same) (known-here n shown [])

  end-known : (r : Replay) (n : Bytes) → chain_end from r ≡ Some n → is_some (tree_of base r n) ≡ true
  end-known r n e = ap is_some (value-append n (map named_tree r.commits) base.commits) ∙ known-either (value_at n (map named_tree r.commits)) (value_at n base.commits) (by (last_or None r.commits) refl e)
    where
      by : (o : Option Snapshot) → last_or None r.commits ≡ o → option_or (option_map snapshot_name o) from ≡ Some n → IsKnown n (map named_tree r.commits) ⊎ IsKnown n base.commits
      by None q k = inr (from-known from n k)
      by (Some c) q k = let same : snapshot_name c ≡ n = cc in one same (last-known r.commits None c q)
        where
          one : snapshot_name c ≡ n → (None ≡ Some c) ⊎ IsKnown (snapshot_name c) (map named_tree r.commits) → IsKnown n (map named_tree r.commits) ⊎ IsKnown n base.commits
          one s (inl x) = absurd cc
          one s (inr x) = inl (subst (λ (m : Bytes). IsKnown m (map named_tree r.commits)) s x)

  -- ---- a commit

  module _ (r : Replay) (at : ℕ) (h : CommitHead) where
    abbrev place : Placed
    place = record { at = at; command = commands.Commit h }

    abbrev what : Result Replay StreamRefusal
    what = push_step base refname from r place

    pub on-other : same_bytes h.refname refname ≡ false → what ≡ Err (OtherRef at)
    on-other e = ap (λ b. must (OtherRef at) b >>= λ u. refused_by Faulty (pushed_parent base r h h.from) >>= λ first. at_head base from r h first) e

    module _ (here : same_bytes h.refname refname ≡ true) where
      on-ref : what ≡ (refused_by Faulty (pushed_parent base r h h.from) >>= λ first. at_head base from r h first)
      on-ref = ap (λ b. must (OtherRef at) b >>= λ u. refused_by Faulty (pushed_parent base r h h.from) >>= λ first. at_head base from r h first) here

      pub unresolved : (f : StreamFault) → named_parent base r h ≡ Err f → what ≡ Err (Faulty f)
      unresolved f e = on-ref ∙ ap (λ (x : Result (Option Bytes) StreamFault). refused_by Faulty x >>= λ first. at_head base from r h first) (sym (named-pushed base r h) ∙ e)

      module _ (first : Option Bytes) (parent : named_parent base r h ≡ Ok first) where
        on-parent : what ≡ at_head base from r h first
        on-parent = on-ref ∙ ap (λ (x : Result (Option Bytes) StreamFault). refused_by Faulty x >>= λ first. at_head base from r h first) (sym (named-pushed base r h) ∙ parent)

        pub not-at : is_same_name (chain_end from r) first ≡ false → what ≡ Err (NotAtHead (chain_end from r) first)
        not-at e = on-parent ∙ ap (λ b. must (NotAtHead (chain_end from r) first) b >>= λ u. unmerged base r h first) e

        module _ (at_end : is_same_name (chain_end from r) first ≡ true) where
          on-end : what ≡ unmerged base r h first
          on-end = on-parent ∙ ap (λ b. must (NotAtHead (chain_end from r) first) b >>= λ u. unmerged base r h first) at_end

          pub merged : is_nil h.merges ≡ false → what ≡ Err (FurtherParents (length r.commits + 1))
          merged e = on-end ∙ ap (λ b. must (FurtherParents (length r.commits + 1)) b >>= λ u. Ok (begun base r h first (option_to_list first))) e

          -- the first parent of any replay is the same
          said-first : (o : Option CommitRef) → pushed_parent base r h o ≡ Ok first → (said base r o >>= λ n. Ok (option_or n (branch r h.refname))) ≡ Ok first
          said-first None e = e
          said-first (Some c) e = by (target_name base r c.target) e
            where
              by : (t : Option Bytes) → (or_refuse (Unresolved c.at) t >>= λ n. Ok (Some n)) ≡ Ok first →
                  ((or_refuse (Unresolved c.at) t >>= λ n. must (Unresolved c.at) (is_some (tree_of base r n)) >>= λ u. Ok n) >>= λ n. Ok (Some n)) >>= (λ n. Ok (option_or n (branch r h.refname))) ≡ Ok first
              by None q = absurd cc
              by (Some n) q =
                  let same : first ≡ Some n = cc in
                  ap (λ b. ((must (Unresolved c.at) b >>= λ u. Ok n) >>= λ n. Ok (Some n)) >>= (λ n. Ok (option_or n (branch r h.refname)))) (end-known r n (same-names (chain_end from r) first at_end ∙ same))
                  ∙ ap (λ z. Ok z) (sym same)

          pub taken : is_nil h.merges ≡ true → what ≡ refused_by Faulty (step base r place)
          taken e =
              on-end
              ∙ ap (λ b. must (FurtherParents (length r.commits + 1)) b >>= λ u. Ok (begun base r h first (option_to_list first))) e
              ∙ sym (ap (refused_by Faulty) (
              ap (λ (x : Result (Option Bytes) StreamFault). x >>= λ first. with_merges base r (option_to_list first) h.merges >>= λ parents. Ok (begun base r h first parents)) (said-first h.from (sym (named-pushed base r h) ∙ parent))
              ∙ ap (λ (ms : List CommitRef). with_merges base r (option_to_list first) ms >>= λ parents. Ok (begun base r h first parents)) (no-merges h.merges e)
              ))

  -- ---- a reset and the others

  pub reset-other : (r : Replay) (at : ℕ) (name : Bytes) (target : Option CommitRef) → same_bytes name refname ≡ false → push_step base refname from r (record { at = at; command = commands.Reset name target }) ≡ Err (OtherRef at)
  reset-other r at name target e = ap (λ b. must (OtherRef at) b >>= λ u. refused_by Faulty (step base r (record { at = at; command = commands.Reset name target }))) e

  pub reset-taken : (r : Replay) (at : ℕ) (name : Bytes) (target : Option CommitRef) → same_bytes name refname ≡ true →
      push_step base refname from r (record { at = at; command = commands.Reset name target }) ≡ refused_by Faulty (step base r (record { at = at; command = commands.Reset name target }))
  reset-taken r at name target e = ap (λ b. must (OtherRef at) b >>= λ u. refused_by Faulty (step base r (record { at = at; command = commands.Reset name target }))) e

  -- ---- where a push goes on, so does any replay

  commit-on : (r s : Replay) (at : ℕ) (h : CommitHead) → push_step base refname from r (record { at = at; command = commands.Commit h }) ≡ Ok s → step base r (record { at = at; command = commands.Commit h }) ≡ Ok s
  commit-on r s at h e =
      let x : Result (Option Bytes) StreamRefusal = refused_by Faulty (pushed_parent base r h h.from) in
      let a = passed (OtherRef at) (same_bytes h.refname refname) (x >>= λ first. at_head base from r h first) s e in
      by a.0 (pushed_parent base r h h.from) refl a.1
    where
      by : same_bytes h.refname refname ≡ true → (y : Result (Option Bytes) StreamFault) → pushed_parent base r h h.from ≡ y → (refused_by Faulty y >>= λ first. at_head base from r h first) ≡ Ok s
          → step base r (record { at = at; command = commands.Commit h }) ≡ Ok s
      by here (Err f) i k = absurd cc
      by here (Ok first) i k =
          let b = passed (NotAtHead (chain_end from r) first) (is_same_name (chain_end from r) first) (unmerged base r h first) s k in
          let d = passed (FurtherParents (length r.commits + 1)) (is_nil h.merges) (Ok (begun base r h first (option_to_list first))) s b.1 in
          not-refused (step base r (record { at = at; command = commands.Commit h })) s (sym (taken r at h here first (named-pushed base r h ∙ i) b.0 d.0) ∙ e)

  pub goes-on : (r s : Replay) (p : Placed) → push_step base refname from r p ≡ Ok s → step base r p ≡ Ok s
  goes-on r s p e = by p.command e
    where
      by : (c : Command) → push_step base refname from r (record { at = p.at; command = c }) ≡ Ok s → step base r (record { at = p.at; command = c }) ≡ Ok s
      by (commands.Commit h) k = commit-on r s p.at h k
      by (commands.Reset name target) k = not-refused _ s (passed (OtherRef p.at) (same_bytes name refname) (refused_by Faulty (step base r (record { at = p.at; command = commands.Reset name target }))) s k).1
      by (commands.Blob mark b) k = not-refused _ s k
      by (commands.Change c) k = not-refused _ s k
      by commands.CommitEnd k = not-refused _ s k
      by (commands.Tag h) k = not-refused _ s k
      by commands.Done k = not-refused _ s k

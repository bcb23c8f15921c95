-- What names of commits stand for, in the code and in the replay.
use Rattle.std.proofs.Common.{◌≡◌, ◌⊎◌, inl, inr, ◌+◌, ◌<◌, ℕ, true, false, cond, List, [], ◌∷◌, ◌++◌, drop, get_or, length, map, Option, Some, None, Result, Ok, Err, IfSome, refl, sym, ap, subst, ◌∙◌, arith}
use Rattle.std.proofs.lemmas.List.{at_drop_more}
use Rattle.std.specs.FinMap.{find}
use Rattle.std.specs.List.{last_or}
use Rattle.std.specs.Option.{option_map, option_or}
use Rattle.git_objects.specs.Parts.{name_bytes}
use Rattle.git_objects.specs.Lists.{Each}
use Rattle.git_objects.specs.Paths.{Bytes, same_bytes}
use Rattle.git_objects.specs.Trees.{Flat}
use Rattle.git_objects.specs.Snapshots.{Snapshot, snapshot_name}
use Rattle.git_objects.specs.declared.kind.Kind.TheVariants.{Tree}
use Rattle.git_objects.specs.Results.{◌>>=◌}
use Rattle.git_objects.proofs.Basics.{same_bytes-back}
use Rattle.git_objects.specs.Refs.{bytes_cmp}
use Rattle.git_objects.specs.declared.name.Name.{Name}
use Rattle.object_store.specs.Objects.{Object, has}
use Rattle.object_store.specs.StoredSnapshots.{IsTreeOf}
use Rattle.object_store.specs.Unfolding.{flat}
use Rattle.fast_import.specs.Bases.{IsBaseIn, base_in}
use Rattle.fast_import.specs.Replays.{Base, Replay, branch, first_parent, known, named_parent, named_tree, one_merge, one_more, said, target_name, tree_of, value_at, with_merges}
use Rattle.fast_import.specs.Replaying.{Replaying, is_named, tree_made}
use Rattle.fast_import.specs.Standing.{AreCommitsIn, IsReplayOf}
use Rattle.fast_import.specs.declared.replayed.Made.{Made}
use Rattle.stream_reader.specs.declared.command.CommitHead.{CommitHead}
use Rattle.stream_reader.specs.declared.commit_ref.CommitRef.{CommitRef}
use Rattle.stream_reader.specs.declared.fault.StreamFault.{StreamFault}
use Rattle.stream_reader.specs.declared.fault.StreamFault.TheVariants.{OutOfMemory}
use Rattle.stream_reader.specs.declared.commit_ref.Target.{Target}
use Rattle.stream_reader.specs.declared.commit_ref.Target.TheVariants as targets
use Rattle.fast_import.proofs.Heading.{branch-heads}

module _ (S : List Object) (v : Replaying) (r : Replay) (h : IsReplayOf S v r) where
  pub branch-is : (n : Bytes) → find bytes_cmp n v.branches ≡ branch r n
  branch-is n = ap (find bytes_cmp n) h.branches ∙ sym (branch-heads n r.branches h.sorted)

  -- a ref that the stream has set
  pub ref_set : (base : Base) (t : Target) (n : Bytes) (o : Option Name) (x : Name) → t ≡ targets.Ref n → option_map name_bytes o ≡ find bytes_cmp n v.branches → o ≡ Some x → Some x.0 ≡ target_name base r t
  ref_set base t n o x e q is =
      let here : branch r n ≡ Some x.0 = sym (branch-is n) ∙ sym q ∙ ap (option_map name_bytes) is in
      sym (ap (target_name base r) e ∙ ap (λ (b : Option Bytes). option_or b (find bytes_cmp n base.refs)) here)

  -- a ref that it hasn't
  pub ref_stored : (base : Base) (t : Target) (n : Bytes) (o : Option Name) (b : Option Bytes) → t ≡ targets.Ref n → option_map name_bytes o ≡ find bytes_cmp n v.branches → o ≡ None → b ≡ find bytes_cmp n base.refs → b ≡ target_name base r t
  ref_stored base t n o b e q is s =
      let here : branch r n ≡ None = sym (branch-is n) ∙ sym q ∙ ap (option_map name_bytes) is in
      s ∙ sym (ap (target_name base r) e ∙ ap (λ (x : Option Bytes). option_or x (find bytes_cmp n base.refs)) here)

-- ---- the commits that were made

-- the last of them
pub last-made : (S : List Object) (ms : List Made) (cs : List Snapshot) (o : Option Made) (p : Option Snapshot) → AreCommitsIn S ms cs → option_map (λ (m : Made). m.name.0) o ≡ option_map snapshot_name p →
    option_map (λ (m : Made). m.name.0) (last_or o ms) ≡ option_map snapshot_name (last_or p cs)
last-made S [] [] o p h e = e
last-made S [] (c ∷ cs) o p h e = absurd h
last-made S (m ∷ ms) [] o p h e = absurd h
last-made S (m ∷ ms) (c ∷ cs) o p h e = last-made S ms cs (Some m) (Some c) h.1 (ap Some (sym h.0.named))

pub count-made : (S : List Object) (ms : List Made) (cs : List Snapshot) → AreCommitsIn S ms cs → length ms ≡ length cs
count-made S [] [] h = refl
count-made S [] (c ∷ cs) h = absurd h
count-made S (m ∷ ms) [] h = absurd h
count-made S (m ∷ ms) (c ∷ cs) h = omega (arith, count-made S ms cs h.1)

-- ---- trees of commits

pub value-append : {A : Type 0} (n : Bytes) (xs ys : List (Bytes × A)) → value_at n (xs ++ ys) ≡ option_or (value_at n xs) (value_at n ys)
value-append n [] ys = refl
value-append n (x ∷ xs) ys = elim (same_bytes x.0 n) as (λ b. cond b (Some x.1) (value_at n (xs ++ ys)) ≡ option_or (cond b (Some x.1) (value_at n xs)) (value_at n ys)) [ true ↦ refl | false ↦ value-append n xs ys ]

value-map : (S : List Object) (n : Bytes) (cs : List (Bytes × Bytes)) → value_at n (map (λ e. (e.0, flat S e.1)) cs) ≡ option_map (flat S) (value_at n cs)
value-map S n [] = refl
value-map S n (c ∷ cs) = elim (same_bytes c.0 n) as (λ b. cond b (Some (flat S c.1)) (value_at n (map (λ e. (e.0, flat S e.1)) cs)) ≡ option_map (flat S) (cond b (Some c.1) (value_at n cs))) [ true ↦ refl | false ↦ value-map S n cs ]

tree_there : List Object → Option Name → Option Flat
tree_there S o = option_map (λ t. flat S t.0) o

made-tree : (S : List Object) (n : Name) (ms : List Made) (cs : List Snapshot) → AreCommitsIn S ms cs → option_map (λ t. flat S t.0) (tree_made n ms) ≡ value_at n.0 (map named_tree cs)
made-tree S n [] [] h = refl
made-tree S n [] (c ∷ cs) h = absurd h
made-tree S n (m ∷ ms) [] h = absurd h
made-tree S n (m ∷ ms) (c ∷ cs) h =
    elim (same_bytes n.0 m.name.0) as (λ b. option_map (λ t. flat S t.0) (cond b (Some m.tree) (tree_made n ms)) ≡ cond b (Some c.tree) (value_at n.0 (map named_tree cs))) [
      | true ↦ ap Some h.0.stands.map
      | false ↦ made-tree S n ms cs h.1
    ]
    ∙ ap (λ b. cond b (Some c.tree) (value_at n.0 (map named_tree cs))) (same_bytes-back n.0 m.name.0 ∙ ap (λ (x : Bytes). same_bytes x n.0) (sym h.0.named))

made-held : (S : List Object) (n : Name) (ms : List Made) (cs : List Snapshot) → AreCommitsIn S ms cs → IfSome (tree_made n ms) (λ t. has Tree S t.0 ≡ true)
made-held S n [] cs h = tt
made-held S n (m ∷ ms) [] h = absurd h
made-held S n (m ∷ ms) (c ∷ cs) h = elim (is_named n m.name) as (λ b. IfSome (cond b (Some m.tree) (tree_made n ms)) (λ t. has Tree S t.0 ≡ true)) [ true ↦ h.0.stands.held | false ↦ made-held S n ms cs h.1 ]

value-held : (S : List Object) (n : Bytes) (cs : List (Bytes × Bytes)) → Each (λ e. IsTreeOf S e.0 e.1) cs → IfSome (value_at n cs) (λ t. has Tree S t ≡ true)
value-held S n [] h = tt
value-held S n (c ∷ cs) h = elim (same_bytes c.0 n) as (λ b. IfSome (cond b (Some c.1) (value_at n cs)) (λ t. has Tree S t ≡ true)) [ true ↦ h.0.held | false ↦ value-held S n cs h.1 ]

-- of a commit that the stream has made
pub tree_of_made : (S : List Object) (v : Replaying) (r : Replay) → IsReplayOf S v r → (base : Base) (n t : Name) → tree_made n v.commits ≡ Some t → Some (flat S t.0) ≡ tree_of base r n.0
tree_of_made S v r h base n t e =
    let here : value_at n.0 (map named_tree r.commits) ≡ Some (flat S t.0) = sym (made-tree S n v.commits r.commits h.commits) ∙ ap (option_map (λ (u : Name). flat S u.0)) e in
    sym (value-append n.0 (map named_tree r.commits) base.commits ∙ ap (λ (o : Option Flat). option_or o (value_at n.0 base.commits)) here)

-- of one that was there
pub tree_of_old : (S : List Object) (v : Replaying) (r : Replay) → IsReplayOf S v r → (commits : List (Bytes × Bytes)) (refs : List (Bytes × Bytes)) (blobs : List Bytes) (n : Name) (o : Option Name)
    → tree_made n v.commits ≡ None → option_map name_bytes o ≡ value_at n.0 commits → option_map (λ t. flat S t.0) o ≡ tree_of (base_in S commits refs blobs) r n.0
tree_of_old S v r h commits refs blobs n o e q =
    let here : value_at n.0 (map named_tree r.commits) ≡ None = sym (made-tree S n v.commits r.commits h.commits) ∙ ap (option_map (λ (u : Name). flat S u.0)) e in
    twice o
    ∙ ap (option_map (flat S)) q
    ∙ sym (value-append n.0 (map named_tree r.commits) (base_in S commits refs blobs).commits ∙ ap (λ (x : Option Flat). option_or x (value_at n.0 (base_in S commits refs blobs).commits)) here ∙ value-map S n.0 commits)
  where
    twice : (o : Option Name) → option_map (λ t. flat S t.0) o ≡ option_map (flat S) (option_map name_bytes o)
    twice None = refl
    twice (Some t) = refl

pub held_made : (S : List Object) (v : Replaying) (r : Replay) → IsReplayOf S v r → (n t : Name) → tree_made n v.commits ≡ Some t → has Tree S t.0 ≡ true
held_made S v r h n t e = subst (λ (o : Option Name). IfSome o (λ u. has Tree S u.0 ≡ true)) e (made-held S n v.commits r.commits h.commits)

pub held_old : (S : List Object) (commits : List (Bytes × Bytes)) (refs : List (Bytes × Bytes)) (blobs : List Bytes) → IsBaseIn S commits refs blobs → (n : Name) (o : Option Name) → option_map name_bytes o ≡ value_at n.0 commits → IfSome o (λ t. has Tree S t.0 ≡ true)
held_old S commits refs blobs b n o q = by o (subst (λ (x : Option Bytes). IfSome x (λ t. has Tree S t ≡ true)) (sym q) (value-held S n.0 commits b.trees))
  where
    by : (o : Option Name) → IfSome (option_map name_bytes o) (λ t. has Tree S t ≡ true) → IfSome o (λ t. has Tree S t.0 ≡ true)
    by None h = tt
    by (Some t) h = h

-- ---- parents

pub parent_none : (base : Base) (r : Replay) (h : CommitHead) → h.from ≡ None → named_parent base r h ≡ Ok (branch r h.refname)
parent_none base r h e = ap (λ (f : Option CommitRef). named_parent base r (record h { from = f })) e

-- without a line `from`, the branch's commit
pub upon_branch : (base : Base) (r : Replay) (h : CommitHead) → said base r h.from ≡ Ok None → first_parent base r h ≡ Ok (branch r h.refname)
upon_branch base r h e = ap (λ (x : Result (Option Bytes) StreamFault). x >>= λ n. Ok (option_or n (branch r h.refname))) e

-- with the lines `merge` from one of them on
module _ (base : Base) (r : Replay) where
  merge_then : (ps : List Bytes) (m : CommitRef) (ms : List CommitRef) → with_merges base r ps (m ∷ ms) ≡ (one_merge base r ps m >>= λ more. with_merges base r more ms)
  merge_then ps m ms = by (known base r m)
    where
      by : (x : Result Bytes StreamFault) → (x >>= λ n. one_more m.at ps n >>= λ more. with_merges base r more ms) ≡ ((x >>= λ n. one_more m.at ps n) >>= λ more. with_merges base r more ms)
      by (Ok n) = refl
      by (Err f) = refl

  module _ (ms : List CommitRef) (i : ℕ) (m : CommitRef) (ps : List Bytes) (left : Result (List Bytes) StreamFault) (so_far : left ≡ with_merges base r ps (drop i ms)) (in_list : i < length ms) (is_item : m ≡ get_or ms i m) where
    merges_from : left ≡ (one_merge base r ps m >>= λ more. with_merges base r more (drop (i + 1) ms))
    merges_from =
        so_far
        ∙ at_drop_more (with_merges base r ps) ms i m in_list
        ∙ ap (λ (x : CommitRef). with_merges base r ps (x ∷ drop (i + 1) ms)) (sym is_item)
        ∙ merge_then ps m (drop (i + 1) ms)

    pub merge_added : (qs : List Bytes) → one_merge base r ps m ≡ Ok qs → left ≡ with_merges base r qs (drop (i + 1) ms)
    merge_added qs e = merges_from ∙ ap (λ (x : Result (List Bytes) StreamFault). x >>= λ more. with_merges base r more (drop (i + 1) ms)) e

    pub merge_refused : (f : StreamFault) → (one_merge base r ps m ≡ Err f) ⊎ (f ≡ OutOfMemory) → (left ≡ Err f) ⊎ (f ≡ OutOfMemory)
    merge_refused f (inl e) = inl (merges_from ∙ ap (λ (x : Result (List Bytes) StreamFault). x >>= λ more. with_merges base r more (drop (i + 1) ms)) e)
    merge_refused f (inr e) = inr e

-- The blobs and trees of a replay of sound commands stay good.
use Rattle.std.proofs.Common.{◌≡◌, ℕ, ◌^◌, Bool, true, false, cond, ◌||◌, T, List, [], ◌∷◌, ◌++◌, length, map, Option, None, Some, Ok, Err, refl, sym, ap, subst, ◌∙◌, true≢false}
use Rattle.std.specs.Prelude.{if◌then◌else◌, nat_le, find, ◌==◌}
use Rattle.std.specs.Cmp.{first_so, second_so}
use Rattle.std.specs.Cmp.Lexicographic.{bytes_decides}
use Rattle.std.specs.List.{list_all, list_any}
use Rattle.std.specs.Option.{option_and_then, option_map, option_or, option_to_list, unwrap_or}
use Rattle.std.proofs.lemmas.Bool.{or_right}
use Rattle.git_objects.specs.Paths.{Bytes, Path, is_bytes, is_path, same_bytes}
use Rattle.git_objects.specs.Trees.{Leaf, Flat, IsTree, Node, LeafNode, TreeNode, at, is_leaf, put, remove, rests, under, if_full, standing}
use Rattle.git_objects.specs.Names.{name}
use Rattle.git_objects.specs.Bodies.{is_name}
use Rattle.git_objects.specs.declared.kind.Kind.TheVariants.{Blob}
use Rattle.git_objects.specs.declared.mode.Mode.{Mode}
use Rattle.git_objects.specs.declared.mode.Mode.TheVariants.{File, Exec, Link, Module, Dir}
use Rattle.git_objects.specs.Lists.{Each}
use Rattle.git_objects.proofs.Basics.{and_both, same_bytes-self}
use Rattle.git_objects.proofs.Pointwise.{IsNode, from-T, leaf_at, put-tree, remove-tree}
use Rattle.git_objects.proofs.Under.{under-tree}
use Rattle.stream_reader.specs.declared.command.Command.{Command}
use Rattle.stream_reader.specs.declared.command.Command.TheVariants as commands
use Rattle.stream_reader.specs.declared.command.CommitHead.{CommitHead}
use Rattle.stream_reader.specs.declared.command.Change.{Change}
use Rattle.stream_reader.specs.declared.command.Change.TheVariants as changes
use Rattle.stream_reader.specs.declared.command.BlobRef.{BlobRef}
use Rattle.stream_reader.specs.declared.command.BlobRef.TheVariants as blobs
use Rattle.stream_reader.specs.declared.fault.StreamFault.{StreamFault}
use Rattle.stream_reader.specs.declared.fault.StreamFault.TheVariants.{Syntax, Unresolved, NoSource, Limit}
use Rattle.git_objects.specs.declared.quantity.Quantity.TheVariants.{Files}
use Rattle.git_objects.specs.Snapshots.{Snapshot, snapshot_name}
use Rattle.git_objects.specs.Results.{◌>>=◌, or_refuse}
use Rattle.tag_objects.specs.TagLists.{put_tag}
use Rattle.fast_import.specs.Replays.{Base, BlobMark, CommitMark, Draft, Marked, Replay, begun, blob_named, commit_of, committed, command_step, edited, few_files, first_parent, given_bytes, inline_blob, leaf_of, marked, marked_blob, named_tree, nothing_yet, said, tree_of, tree_upon, value_at, with_branch, with_mark, with_merges, within_paths, TagMark, known, tag_of, tagged}
use Rattle.state_items.specs.Imported.{has_leaves}
use Rattle.import_laws.specs.SoundCommands.{IsSound, IsSoundBlob, IsSoundChange, IsSoundFile}
use Rattle.git_objects.specs.declared.name.Name.{Name}
use Rattle.state_items.proofs.Bringing.{T-from, any-back}
use Rattle.import_laws.proofs.EditLeaves.{IsGood, is_in, leaf_in, leaves-below, leaves-more, leaves-put, leaves-remove}
use Rattle.state_items.proofs.Imports.{any-cases, any-front}
use Rattle.state_items.proofs.ReadObjects.{ok-same, value-of}
use Rattle.state_items.proofs.TreesHeld.{each-both}

-- ---- what is looked up

some-same : {A : Type 0} (x y : A) → Some x ≡ Some y → x ≡ y
some-same x y e = cc

-- the trees that a name may have
pub value-each : (P : Flat → Type 0) (n : Bytes) (es : List (Bytes × Flat)) (t : Flat) → Each (λ e. P e.1) es → value_at n es ≡ Some t → P t
value-each P n [] t h e = let no-tree : None ≡ Some t = e in cc
value-each P n (d ∷ es) t h e =
    elim (same_bytes d.0 n) as (λ b. (if b then Some d.1 else value_at n es) ≡ Some t → P t) [
      | true ↦ λ k. subst P (some-same d.1 t k) h.0
      | false ↦ λ k. value-each P n es t h.1 k
    ] e

pub each-named : (P : Flat → Type 0) (cs : List Snapshot) → Each (λ c. P c.tree) cs → Each (λ e. P e.1) (map named_tree cs)
each-named P [] h = tt
each-named P (c ∷ cs) h = (h.0, each-named P cs h.1)

abbrev pub IsMark : List Bytes → Marked → Type 0
IsMark pool (BlobMark b) = is_in pool b ≡ true
IsMark pool (CommitMark n) = Unit
IsMark pool TagMark = Unit

pub refuse-value : {A E : Type 0} (e : E) (o : Option A) (x : A) → or_refuse e o ≡ Ok x → o ≡ Some x
refuse-value e None x h = let no-value : Err e ≡ Ok x = h in cc
refuse-value e (Some y) x h = ap (λ z. Some z) (ok-same y x h)

mark-in : (pool : List Bytes) (n : ℕ) (ms : List (ℕ × Marked)) (b : Bytes) → Each (λ m. IsMark pool m.1) ms → option_and_then marked_blob (marked n ms) ≡ Some b → is_in pool b ≡ true
mark-in pool n [] b h e = let no-blob : None ≡ Some b = e in cc
mark-in pool n (m ∷ ms) b h e =
    elim (m.0 == n) as (λ t. option_and_then marked_blob (if t then Some m.1 else marked n ms) ≡ Some b → is_in pool b ≡ true) [
      | true ↦ λ k. of m.1 h.0 k
      | false ↦ λ k. mark-in pool n ms b h.1 k
    ] e
  where
    of : (x : Marked) → IsMark pool x → marked_blob x ≡ Some b → is_in pool b ≡ true
    of (BlobMark c) g k = ap (is_in pool) (sym (some-same c b k)) ∙ g
    of (CommitMark c) g k = let no-blob : None ≡ Some b = k in cc
    of TagMark g k = let no-blob : None ≡ Some b = k in cc

found-in : (p : Bytes → Bool) (xs : List Bytes) (b : Bytes) → find p xs ≡ Some b → is_in xs b ≡ true
found-in p [] b e = let no-blob : None ≡ Some b = e in cc
found-in p (x ∷ xs) b e =
    elim (p x) as (λ t. cond t (Some x) (find p xs) ≡ Some b → (same_bytes b x || is_in xs b) ≡ true) [
      | true ↦ λ k. ap (λ t. t || is_in xs b) (ap (λ y. same_bytes y x) (sym (some-same x b k)) ∙ same_bytes-self x)
      | false ↦ λ k. or_right (same_bytes b x) (is_in xs b) (found-in p xs b k)
    ] e

in-bytes : (xs : List Bytes) (b : Bytes) → list_all is_bytes xs ≡ true → is_in xs b ≡ true → is_bytes b ≡ true
in-bytes [] b h e = absurd (true≢false (sym e))
in-bytes (x ∷ xs) b h e =
    elim (same_bytes b x) as (λ t. same_bytes b x ≡ t → (t || is_in xs b) ≡ true → is_bytes b ≡ true) [
      | true ↦ λ g k. ap is_bytes ((bytes_decides b x).0 g) ∙ first_so _ _ h
      | false ↦ λ g k. in-bytes xs b (second_so (is_bytes x) _ h) k
    ] refl e

pub all-both : {A : Type 0} (f : A → Bool) (xs ys : List A) → list_all f xs ≡ true → list_all f ys ≡ true → list_all f (xs ++ ys) ≡ true
all-both f [] ys h g = g
all-both f (x ∷ xs) ys h g = and_both (first_so _ _ h) (all-both f xs ys (second_so (f x) _ h) g)

-- ---- trees

-- what stands at a path
standing-good : (pool : List Bytes) (t : Flat) (p : Path) (x : Node) → IsGood pool t → standing t p ≡ Some x → IsNode x × (list_all (λ e. leaf_in pool e.1) (rests x) ≡ true)
standing-good pool t p x g e =
    elim (at t p) as (λ o. at t p ≡ o → option_or (option_map LeafNode o) (if_full (under t p)) ≡ Some x → IsNode x × (list_all (λ e. leaf_in pool e.1) (rests x) ≡ true)) [
      | Some y ↦ λ k w. subst (λ z. IsNode z × (list_all (λ e. leaf_in pool e.1) (rests z) ≡ true)) (some-same (LeafNode y) x w)
          (leaf_at is_leaf t p y g.0.leaves k, and_both (from-T _ (leaf_at (leaf_in pool) t p y (T-from _ g.1) k)) refl)
      | None ↦ λ k w. full (under t p) (under-tree t p g.0) (leaves-below (leaf_in pool) t p g.1) w
    ] refl e
  where
    full : (u : Flat) → IsTree u → has_leaves pool u ≡ true → if_full u ≡ Some x → IsNode x × (list_all (λ e. leaf_in pool e.1) (rests x) ≡ true)
    full [] w l k = let no-node : None ≡ Some x = k in cc
    full (d ∷ u) w l k = subst (λ z. IsNode z × (list_all (λ e. leaf_in pool e.1) (rests z) ≡ true)) (some-same (TreeNode (d ∷ u)) x k) (w, l)

put-good : (pool : List Bytes) (t : Flat) (p : Path) (x : Node) → IsGood pool t → is_path p ≡ true → IsNode x → list_all (λ e. leaf_in pool e.1) (rests x) ≡ true → IsGood pool (put t p x)
put-good pool t p x g h n l = (put-tree t p x g.0 (T-from _ h) n, leaves-put (leaf_in pool) t p x g.1 l)

remove-good : (pool : List Bytes) (t : Flat) (p : Path) → IsGood pool t → IsGood pool (remove t p)
remove-good pool t p g = (remove-tree t p g.0, leaves-remove (leaf_in pool) t p g.1)

empty-good : (pool : List Bytes) → IsGood pool []
empty-good pool = (record { sorted = tt; paths = tt; leaves = tt; apart = tt }, refl)

pub few-same : (at : ℕ) (t u : Flat) → few_files at t ≡ Ok u → t ≡ u
few-same at t u e =
    elim (nat_le (length t) (2 ^ 20)) as (λ b. (if b then Ok t else Err (Limit at Files)) ≡ Ok u → t ≡ u) [
      | true ↦ λ k. ok-same t u k
      | false ↦ λ k. absurd (no-tree (Limit at Files) u k)
    ] e
  where
    no-tree : (d : StreamFault) (u : Flat) → Err d ≡ Ok u → ⊥
    no-tree d u k = cc

-- ---- a larger pool

abbrev IsWithin : List Bytes → List Bytes → Type 0
IsWithin p q = (b : Bytes) → is_in p b ≡ true → is_in q b ≡ true

more-good : (p q : List Bytes) → IsWithin p q → (t : Flat) → IsGood p t → IsGood q t
more-good p q f t g = (g.0, leaves-more p q f t g.1)

each-good : {A : Type 0} (tree : A → Flat) (p q : List Bytes) → IsWithin p q → (xs : List A) → Each (λ (x : A). IsGood p (tree x)) xs → Each (λ (x : A). IsGood q (tree x)) xs
each-good tree p q f [] g = tt
each-good tree p q f (x ∷ xs) g = (more-good p q f (tree x) g.0, each-good tree p q f xs g.1)

each-mark : (p q : List Bytes) → IsWithin p q → (ms : List (ℕ × Marked)) → Each (λ m. IsMark p m.1) ms → Each (λ m. IsMark q m.1) ms
each-mark p q f [] g = tt
each-mark p q f ((n, BlobMark b) ∷ ms) g = (f b g.0, each-mark p q f ms g.1)
each-mark p q f ((n, CommitMark c) ∷ ms) g = (tt, each-mark p q f ms g.1)
each-mark p q f ((n, TagMark) ∷ ms) g = (tt, each-mark p q f ms g.1)

abbrev pub IfGood : List Bytes → Option Draft → Type 0
IfGood p None = Unit
IfGood p (Some d) = IsGood p d.tree

more-draft : (p q : List Bytes) → IsWithin p q → (o : Option Draft) → IfGood p o → IfGood q o
more-draft p q f None g = tt
more-draft p q f (Some d) g = more-good p q f d.tree g

-- ---- what stays true

-- the blobs that were read or known before
abbrev pub pool : Base → Replay → List Bytes
pool base r = r.blobs ++ base.blobs

-- blobs are bytes, and the trees of commits and the one of the commit that is being made are of these blobs
pub record AreGood (base : Base) (r : Replay) : Type 0 where
  pub bytes : list_all is_bytes r.blobs ≡ true
  pub trees : Each (λ c. IsGood (pool base r) c.tree) r.commits
  pub marks : Each (λ m. IsMark (pool base r) m.1) r.marks
  pub drafted : IfGood (pool base r) r.draft

pub nothing-good : (base : Base) → AreGood base nothing_yet
nothing-good base = record { bytes = refl; trees = tt; marks = tt; drafted = tt }

inline-bytes : (c : Change) → IsSoundChange c → list_all is_bytes (inline_blob c) ≡ true
inline-bytes (changes.Modify File (blobs.Inline b) p) v = and_both v.0 refl
inline-bytes (changes.Modify Exec (blobs.Inline b) p) v = and_both v.0 refl
inline-bytes (changes.Modify Link (blobs.Inline b) p) v = and_both v.0 refl
inline-bytes (changes.Modify Module (blobs.Inline b) p) v = absurd v.0
inline-bytes (changes.Modify Dir (blobs.Inline b) p) v = absurd v.0
inline-bytes (changes.Modify m (blobs.Mark n) p) v = refl
inline-bytes (changes.Modify m (blobs.Digits n) p) v = refl
inline-bytes (changes.Delete p) v = refl
inline-bytes (changes.Rename a p) v = refl
inline-bytes (changes.Copy a p) v = refl
inline-bytes changes.DeleteAll v = refl

-- where the blobs that are known before are bytes, and the trees are of these
module _ (base : Base) (known_bytes : list_all is_bytes base.blobs ≡ true) (known_trees : Each (λ e. IsGood base.blobs e.1) base.commits) where
  pool-bytes : (r : Replay) → AreGood base r → list_all is_bytes (pool base r) ≡ true
  pool-bytes r i = all-both is_bytes r.blobs base.blobs i.bytes known_bytes

  tree-good : (r : Replay) (n : Bytes) (t : Flat) → AreGood base r → tree_of base r n ≡ Some t → IsGood (pool base r) t
  tree-good r n t i e =
      value-each (IsGood (pool base r)) n (map named_tree r.commits ++ base.commits) t
      (each-both (λ e. IsGood (pool base r) e.1) (map named_tree r.commits) base.commits (each-named (IsGood (pool base r)) r.commits i.trees)
      (each-good (λ (e : Bytes × Flat). e.1) base.blobs (pool base r) (λ b k. any-back (same_bytes b) r.blobs base.blobs k) base.commits known_trees)) e

  upon-good : (r : Replay) (x : Option Bytes) → AreGood base r → IsGood (pool base r) (tree_upon base r x)
  upon-good r None i = empty-good (pool base r)
  upon-good r (Some n) i =
      elim (tree_of base r n) as (λ o. tree_of base r n ≡ o → IsGood (pool base r) (unwrap_or o [])) [
        | None ↦ λ e. empty-good (pool base r)
        | Some t ↦ λ e. tree-good r n t i e
      ] refl

  -- a commit begins
  begun-good : (r q : Replay) (d : CommitHead) → AreGood base r → command_step base r 0 (commands.Commit d) ≡ Ok q → AreGood base q
  begun-good r q d i e =
      let f = value-of (first_parent base r d) (λ first. with_merges base r (option_to_list first) d.merges >>= λ parents. Ok (begun base r d first parents)) q e in
      let m = value-of (with_merges base r (option_to_list f.value) d.merges) (λ parents. Ok (begun base r d f.value parents)) q f.rest in
      subst (AreGood base) (ok-same (begun base r d f.value m.value) q m.rest) (record { bytes = i.bytes; trees = i.trees; marks = i.marks; drafted = upon-good r f.value i })

  -- ---- blobs and marks

  grown-in : (r : Replay) (bs : List Bytes) (b : Bytes) → is_in (pool base r) b ≡ true → is_in ((r.blobs ++ bs) ++ base.blobs) b ≡ true
  grown-in r bs b e =
      any-cases (same_bytes b) r.blobs base.blobs (is_in ((r.blobs ++ bs) ++ base.blobs) b ≡ true) e
      (λ k. bytes-front (same_bytes b) (r.blobs ++ bs) base.blobs (bytes-front (same_bytes b) r.blobs bs k))
      (λ k. any-back (same_bytes b) (r.blobs ++ bs) base.blobs k)
    where
      bytes-front : (p : Bytes → Bool) (xs ys : List Bytes) → list_any p xs ≡ true → list_any p (xs ++ ys) ≡ true
      bytes-front p xs ys h = any-front p xs ys h

  new-in : (r : Replay) (b : Bytes) → is_in ((r.blobs ++ b ∷ []) ++ base.blobs) b ≡ true
  new-in r b = any-front (same_bytes b) (r.blobs ++ b ∷ []) base.blobs (any-back (same_bytes b) r.blobs (b ∷ []) (ap (λ t. t || false) (same_bytes-self b)))

  grow : (r : Replay) (bs : List Bytes) → AreGood base r → list_all is_bytes bs ≡ true → AreGood base (record r { blobs = r.blobs ++ bs })
  grow r bs i v =
      let up = grown-in r bs in
      let more : List Bytes = (r.blobs ++ bs) ++ base.blobs in
      record {
        bytes = all-both is_bytes r.blobs bs i.bytes v;
        trees = each-good (λ (c : Snapshot). c.tree) (pool base r) more up r.commits i.trees;
        marks = each-mark (pool base r) more up r.marks i.marks;
        drafted = more-draft (pool base r) more up r.draft i.drafted;
      }

  mark-good : (r : Replay) (m : Option ℕ) (x : Marked) → AreGood base r → IsMark (pool base r) x → AreGood base (with_mark m x r)
  mark-good r None x i k = i
  mark-good r (Some n) x i k = record { bytes = i.bytes; trees = i.trees; marks = (k, i.marks); drafted = i.drafted }

  -- ---- changes

  file-given : (r : Replay) (at : ℕ) (m : Mode) (x : BlobRef) (p : Path) (b : Bytes) → AreGood base r → IsSoundFile x →
      ((n : Name) → given_bytes base r at m (blobs.Digits n) ≡ or_refuse (Unresolved at) (blob_named base r n.0)) → given_bytes base r at m x ≡ Ok b →
      (is_bytes b ≡ true) × (is_in ((r.blobs ++ inline_blob (changes.Modify m x p)) ++ base.blobs) b ≡ true)
  file-given r at m (blobs.Inline c) p b i v d e =
      let same : c ≡ b = ok-same c b e in
      (ap is_bytes (sym same) ∙ v, ap (is_in ((r.blobs ++ c ∷ []) ++ base.blobs)) (sym same) ∙ new-in r c)
  file-given r at m (blobs.Mark n) p b i v d e =
      let there = mark-in (pool base r) n r.marks b i.marks (refuse-value (Unresolved at) (option_and_then marked_blob (marked n r.marks)) b e) in
      (in-bytes (pool base r) b (pool-bytes r i) there, grown-in r [] b there)
  file-given r at m (blobs.Digits n) p b i v d e =
      let there = found-in (λ b. same_bytes (name Blob b) n.0) (pool base r) b (refuse-value (Unresolved at) (blob_named base r n.0) b (sym (d n) ∙ e)) in
      (in-bytes (pool base r) b (pool-bytes r i) there, grown-in r [] b there)

  abbrev IsLeafIn : List Bytes → Leaf → Type 0
  IsLeafIn q x = T (is_leaf x) × (leaf_in q x ≡ true)

  leaf-given : (r : Replay) (at : ℕ) (m : Mode) (x : BlobRef) (p : Path) (b : Bytes) → AreGood base r → IsSoundBlob m x → given_bytes base r at m x ≡ Ok b →
      IsLeafIn ((r.blobs ++ inline_blob (changes.Modify m x p)) ++ base.blobs) (leaf_of m b)
  leaf-given r at File x p b i v e = let g = file-given r at File x p b i v (λ n. refl) e in (T-from _ g.0, and_both g.1 refl)
  leaf-given r at Exec x p b i v e = let g = file-given r at Exec x p b i v (λ n. refl) e in (T-from _ g.0, and_both g.1 refl)
  leaf-given r at Link x p b i v e = let g = file-given r at Link x p b i v (λ n. refl) e in (T-from _ g.0, and_both g.1 refl)
  leaf-given r at Module (blobs.Inline c) p b i v e = absurd v
  leaf-given r at Module (blobs.Mark n) p b i v e = absurd v
  leaf-given r at Module (blobs.Digits n) p b i v e = (T-from _ (ap is_name (sym (ok-same n.0 b e)) ∙ v), refl)
  leaf-given r at Dir x p b i v e = absurd v

  after : Replay → Change → List Bytes
  after r c = (r.blobs ++ inline_blob c) ++ base.blobs

  up : (r : Replay) (c : Change) (t : Flat) → IsGood (pool base r) t → IsGood (after r c) t
  unfolding after
  up r c t g = more-good (pool base r) ((r.blobs ++ inline_blob c) ++ base.blobs) (grown-in r (inline_blob c)) t g

  edited-good : (r : Replay) (at : ℕ) (t u : Flat) (c : Change) → AreGood base r → IsSoundChange c → IsGood (pool base r) t → edited base r at t c ≡ Ok u → IsGood (after r c) u
  unfolding after
  edited-good r at t u (changes.Modify m x p) i v g e =
      let c : Change = changes.Modify m x p in
      let b = value-of (given_bytes base r at m x) (λ b. few_files at (put t p (LeafNode (leaf_of m b)))) u e in
      let l = leaf-given r at m x p b.value i v.0 b.was in
      subst (IsGood (after r c)) (few-same at (put t p (LeafNode (leaf_of m b.value))) u b.rest)
      (put-good (after r c) t p (LeafNode (leaf_of m b.value)) (up r c t g) v.1 l.0 (and_both l.1 refl))
  edited-good r at t u (changes.Delete p) i v g e =
      subst (IsGood (after r (changes.Delete p))) (ok-same (remove t p) u e) (remove-good (after r (changes.Delete p)) t p (up r (changes.Delete p) t g))
  edited-good r at t u (changes.Rename a p) i v g e =
      let c : Change = changes.Rename a p in
      let x = value-of (or_refuse (NoSource at) (standing t a)) (λ x. within_paths at p x >>= λ _. Ok (put (remove t a) p x)) u e in
      let w = value-of (within_paths at p x.value) (λ _. Ok (put (remove t a) p x.value)) u x.rest in
      let n = standing-good (after r c) t a x.value (up r c t g) (refuse-value (NoSource at) (standing t a) x.value x.was) in
      subst (IsGood (after r c)) (ok-same (put (remove t a) p x.value) u w.rest)
      (put-good (after r c) (remove t a) p x.value (remove-good (after r c) t a (up r c t g)) v n.0 n.1)
  edited-good r at t u (changes.Copy a p) i v g e =
      let c : Change = changes.Copy a p in
      let x = value-of (or_refuse (NoSource at) (standing t a)) (λ x. within_paths at p x >>= λ _. few_files at (put t p x)) u e in
      let w = value-of (within_paths at p x.value) (λ _. few_files at (put t p x.value)) u x.rest in
      let n = standing-good (after r c) t a x.value (up r c t g) (refuse-value (NoSource at) (standing t a) x.value x.was) in
      subst (IsGood (after r c)) (few-same at (put t p x.value) u w.rest) (put-good (after r c) t p x.value (up r c t g) v n.0 n.1)
  edited-good r at t u changes.DeleteAll i v g e = subst (IsGood (after r changes.DeleteAll)) (ok-same [] u e) (empty-good (after r changes.DeleteAll))

  after-good : (r : Replay) (c : Change) (u : Flat) → IsGood (after r c) u → IsGood ((r.blobs ++ inline_blob c) ++ base.blobs) u
  unfolding after
  after-good r c u g = g

  -- ---- one command

  committed-good : (r : Replay) (d : Draft) → AreGood base r → IsGood (pool base r) d.tree → AreGood base (committed r d)
  committed-good r d i g =
      let n = snapshot_name (commit_of d) in
      let next : Replay = with_branch d.head.refname (Some n) (record r { commits = r.commits ++ commit_of d ∷ []; draft = None }) in
      mark-good next d.head.mark (CommitMark n)
      (record { bytes = i.bytes; trees = each-both (λ c. IsGood (pool base r) c.tree) r.commits (commit_of d ∷ []) i.trees (g, tt); marks = i.marks; drafted = tt }) tt

  pub step-good : (r q : Replay) (at : ℕ) (c : Command) → IsSound c → AreGood base r → command_step base r at c ≡ Ok q → AreGood base q
  step-good r q at (commands.Blob m b) v i e =
      let next : Replay = record r { blobs = r.blobs ++ b ∷ [] } in
      subst (AreGood base) (ok-same (with_mark m (BlobMark b) next) q e) (mark-good next m (BlobMark b) (grow r (b ∷ []) i (and_both v refl)) (new-in r b))
  step-good r q at (commands.Commit d) v i e = begun-good r q d i e
  step-good r q at (commands.Change c) v i e =
      let d = value-of (or_refuse (Syntax at) r.draft) (λ d. edited base r at d.tree c >>= λ t. Ok (record r { blobs = r.blobs ++ inline_blob c; draft = Some (record d { tree = t }) })) q e in
      let t = value-of (edited base r at d.value.tree c) (λ t. Ok (record r { blobs = r.blobs ++ inline_blob c; draft = Some (record d.value { tree = t }) })) q d.rest in
      let g : IsGood (pool base r) d.value.tree = subst (IfGood (pool base r)) (refuse-value (Syntax at) r.draft d.value d.was) i.drafted in
      let next : Replay = record r { blobs = r.blobs ++ inline_blob c; draft = Some (record d.value { tree = t.value }) } in
      let more = grow r (inline_blob c) i (inline-bytes c v) in
      subst (AreGood base) (ok-same next q t.rest) (record {
        bytes = more.bytes;
        trees = more.trees;
        marks = more.marks;
        drafted = after-good r c t.value (edited-good r at d.value.tree t.value c i v g t.was);
      })
  step-good r q at commands.CommitEnd v i e =
      let d = value-of (or_refuse (Syntax at) r.draft) (λ d. Ok (committed r d)) q e in
      subst (AreGood base) (ok-same (committed r d.value) q d.rest) (committed-good r d.value i (subst (IfGood (pool base r)) (refuse-value (Syntax at) r.draft d.value d.was) i.drafted))
  step-good r q at (commands.Reset refname from) v i e =
      let n = value-of (said base r from) (λ n. Ok (with_branch refname n r)) q e in
      subst (AreGood base) (ok-same (with_branch refname n.value r) q n.rest) (record { bytes = i.bytes; trees = i.trees; marks = i.marks; drafted = i.drafted })
  step-good r q at (commands.Tag g) v i e =
      let n = value-of (known base r g.from) (λ n. Ok (tagged g n r)) q e in
      subst (AreGood base) (ok-same (tagged g n.value r) q n.rest) (mark-good (record r { tags = put_tag (tag_of g n.value) r.tags }) g.mark TagMark (record { bytes = i.bytes; trees = i.trees; marks = i.marks; drafted = i.drafted }) tt)
  step-good r q at commands.Done v i e = subst (AreGood base) (ok-same r q e) i

-- The leaves of edited trees, and of the trees that are held.
use Rattle.std.proofs.Common.{◌≡◌, Bool, true, false, not, cond, ◌&&◌, ◌||◌, List, [], ◌∷◌, ◌++◌, filter, None, Some, refl, sym, ap, subst, ◌∙◌, true≢false}
use Rattle.std.specs.Cmp.{first_so, second_so}
use Rattle.std.specs.List.{cons_option, list_all, list_any}
use Rattle.std.specs.Option.{option_map, option_to_list}
use Rattle.std.specs.FinMap.{put as put_entry}
use Rattle.std.specs.FinMap.Entries.{by_order}
use Rattle.std.specs.declared.cmp.Ordering.TheVariants.{Less, Equal, Greater}
use Rattle.std.proofs.lemmas.Bool.{or_right}
use Rattle.git_objects.specs.Paths.{Bytes, Path, comparable, is_bytes, is_prefix, path_cmp, same_bytes}
use Rattle.git_objects.specs.Trees.{Leaf, FileLeaf, ExecLeaf, LinkLeaf, ModuleLeaf, Flat, IsTree, Node, moved, put, put_all, remove, rest_below, rests, under, without}
use Rattle.git_objects.specs.declared.entry.Entry.{Entry}
use Rattle.git_objects.specs.declared.kind.Kind.{Kind}
use Rattle.git_objects.specs.declared.kind.Kind.TheVariants.{Blob, Tree, Commit as CommitKind}
use Rattle.git_objects.specs.declared.mode.Mode.{Mode}
use Rattle.git_objects.specs.declared.mode.Mode.TheVariants.{File, Exec, Link, Module, Dir}
use Rattle.git_objects.specs.Lists.{Each}
use Rattle.git_objects.proofs.Basics.{and_both, same_bytes-self}
use Rattle.object_store.specs.Objects.{Object, IsStore, body_of, has, has_child, is_body, is_named, HasChildren}
use Rattle.object_store.specs.Unfolding.{below, flat, node_of}
use Rattle.object_store.proofs.Held.{named_kind}
use Rattle.object_store.proofs.Unfolding.{unfolding_law}
use Rattle.path_trees.proofs.Grown.{body-above}
use Rattle.git_objects.specs.Snapshots.{Snapshot}
use Rattle.git_objects.proofs.SharedFronts.{listed}
use Rattle.object_store.specs.StoredSnapshots.{blob_in, blobs_in, snapshot_of, snapshots_in}
use Rattle.object_store.specs.TreeObjects.{leaf_objects}
use Rattle.object_store.proofs.FlatParts.{entries_map}
use Rattle.object_store.proofs.StoredCommits.{commit-held}
use Rattle.object_store.proofs.Children.{object-children}
use Rattle.state_items.specs.Imported.{has_leaves}
use Rattle.state_items.proofs.Bringing.{any-back}

-- ---- edits

module _ (f : Leaf → Bool) where
  abbrev pub all_leaves : Flat → Bool
  all_leaves t = list_all (λ e. f e.1) t

  leaves-entry : (p : Path) (x : Leaf) (t : Flat) → all_leaves t ≡ true → f x ≡ true → all_leaves (put_entry path_cmp p x t) ≡ true
  leaves-entry p x [] h g = ap (λ b. b && true) g
  leaves-entry p x (e ∷ t) h g =
      let first : f e.1 ≡ true = first_so _ _ h in
      let rest : all_leaves t ≡ true = second_so (f e.1) _ h in
      let more = leaves-entry p x t rest g in
      elim (path_cmp p e.0) as (λ o. all_leaves (by_order o ((p, x) ∷ e ∷ t) ((e.0, x) ∷ t) (e ∷ put_entry path_cmp p x t)) ≡ true) [
        | Less ↦ λ i. g i && (first i && rest i)
        | Equal ↦ λ i. g i && rest i
        | Greater ↦ λ i. first i && more i
      ]

  leaves-all : (p : Path) (es t : Flat) → all_leaves es ≡ true → all_leaves t ≡ true → all_leaves (put_all p es t) ≡ true
  leaves-all p [] t h g = g
  leaves-all p (e ∷ es) t h g = leaves-entry (p ++ e.0) e.1 (put_all p es t) (leaves-all p es t (second_so (f e.1) _ h) g) (first_so _ _ h)

  leaves-filter : (q : Path × Leaf → Bool) (t : Flat) → all_leaves t ≡ true → all_leaves (filter q t) ≡ true
  leaves-filter q [] h = refl
  leaves-filter q (e ∷ t) h =
      let first : f e.1 ≡ true = first_so _ _ h in
      let rest = leaves-filter q t (second_so (f e.1) _ h) in
      elim (q e) as (λ b. all_leaves (cond b (e ∷ filter q t) (filter q t)) ≡ true) [ true ↦ λ i. first i && rest i | false ↦ rest ]

  pub leaves-put : (t : Flat) (p : Path) (x : Node) → all_leaves t ≡ true → all_leaves (rests x) ≡ true → all_leaves (put t p x) ≡ true
  unfolding put
  leaves-put t p x h g = leaves-all p (rests x) (without t p) g (leaves-filter (λ e. not (comparable p e.0)) t h)

  pub leaves-remove : (t : Flat) (p : Path) → all_leaves t ≡ true → all_leaves (remove t p) ≡ true
  unfolding remove
  leaves-remove t p h = leaves-filter (λ e. not (is_prefix p e.0)) t h

  pub leaves-below : (t : Flat) (p : Path) → all_leaves t ≡ true → all_leaves (under t p) ≡ true
  leaves-below [] p h = refl
  leaves-below (e ∷ t) p h =
      let first : f e.1 ≡ true = first_so _ _ h in
      let rest = leaves-below t p (second_so (f e.1) _ h) in
      elim (rest_below p e.0) as (λ o. all_leaves (cons_option (moved o e.1) (under t p)) ≡ true) [ None ↦ rest | Some q ↦ λ i. first i && rest i ]

  leaves-both : (a b : Flat) → all_leaves a ≡ true → all_leaves b ≡ true → all_leaves (a ++ b) ≡ true
  leaves-both [] b h g = g
  leaves-both (e ∷ a) b h g = and_both (first_so _ _ h) (leaves-both a b (second_so (f e.1) _ h) g)

  leaves-under-name : (c : Bytes) (t : Flat) → all_leaves t ≡ true → all_leaves (below c t) ≡ true
  leaves-under-name c [] h = refl
  leaves-under-name c (e ∷ t) h = and_both (first_so _ _ h) (leaves-under-name c t (second_so (f e.1) _ h))

-- whether a leaf's blob is one of these
abbrev pub leaf_in : List Bytes → Leaf → Bool
leaf_in pool x = list_all (λ o. list_any (same_bytes o.body) pool) (leaf_objects x)

abbrev pub is_in : List Bytes → Bytes → Bool
is_in pool b = list_any (same_bytes b) pool

pub leaf-more : (pool more : List Bytes) → ((b : Bytes) → is_in pool b ≡ true → is_in more b ≡ true) → (x : Leaf) → leaf_in pool x ≡ true → leaf_in more x ≡ true
leaf-more pool more f (FileLeaf b) h = and_both (f b (first_so _ _ h)) refl
leaf-more pool more f (ExecLeaf b) h = and_both (f b (first_so _ _ h)) refl
leaf-more pool more f (LinkLeaf b) h = and_both (f b (first_so _ _ h)) refl
leaf-more pool more f (ModuleLeaf n) h = refl

pub leaves-more : (pool more : List Bytes) → ((b : Bytes) → is_in pool b ≡ true → is_in more b ≡ true) → (t : Flat) → has_leaves pool t ≡ true → has_leaves more t ≡ true
leaves-more pool more f [] h = refl
leaves-more pool more f (e ∷ t) h = and_both (leaf-more pool more f e.1 (first_so _ _ h)) (leaves-more pool more f t (second_so (leaf_in pool e.1) _ h))

-- ---- trees that are held

module _ (pool : List Bytes) where
  abbrev Shows : List Object → Type 0
  Shows R = (n : Bytes) → has Blob R n ≡ true → is_in pool (body_of Blob R n) ≡ true

  shows-older : (o : Object) (R : List Object) → IsStore (o ∷ R) → Shows (o ∷ R) → Shows R
  unfolding has
  shows-older o R s f n h = ap (is_in pool) (sym (body-above (o ∷ []) R Blob n s h)) ∙ f n (or_right (is_named Blob o n) _ h)

  part-leaves : (R : List Object) → Shows R → ((n : Bytes) → has Tree R n ≡ true → has_leaves pool (flat R n) ≡ true) → (m : Mode) (n c : Bytes) → has_child R m n ≡ true →
      has_leaves pool (below c (rests (node_of (body_of Blob R) (flat R) m n))) ≡ true
  part-leaves R f t File n c h = ap (λ b. (b && true) && true) (f n h)
  part-leaves R f t Exec n c h = ap (λ b. (b && true) && true) (f n h)
  part-leaves R f t Link n c h = ap (λ b. (b && true) && true) (f n h)
  part-leaves R f t Module n c h = refl
  part-leaves R f t Dir n c h = leaves-under-name (leaf_in pool) c (flat R n) (t n (first_so _ _ h))

  entries-leaves : (R : List Object) → Shows R → ((n : Bytes) → has Tree R n ≡ true → has_leaves pool (flat R n) ≡ true) → (es : List Entry) → HasChildren R es → has_leaves pool (entries_map R es) ≡ true
  entries-leaves R f t [] h = refl
  entries-leaves R f t (e ∷ es) h =
      leaves-both (leaf_in pool) (below e.component (rests (node_of (body_of Blob R) (flat R) e.mode e.name.0))) (entries_map R es) (part-leaves R f t e.mode e.name.0 e.component h.0) (entries-leaves R f t es h.1)

  flat-leaves : (R : List Object) → IsStore R → Shows R → (n : Bytes) → has Tree R n ≡ true → has_leaves pool (flat R n) ≡ true
  unfolding has flat
  flat-leaves [] s f n h = absurd (true≢false (sym h))
  flat-leaves (o ∷ R) s f n h =
      let older = shows-older o R s f in
      elim (is_named Tree o n) as (λ t. is_named Tree o n ≡ t → (t || has Tree R n) ≡ true → has_leaves pool (cond t (entries_map R (listed o.body)) (flat R n)) ≡ true) [
        | true ↦ λ e g. entries-leaves R older (flat-leaves R s.2 older) (listed o.body) (object-children R o n s.0 e)
        | false ↦ λ e g. flat-leaves R s.2 older n g
      ] refl h

  -- a valid tree of such leaves
  abbrev pub IsGood : Flat → Type 0
  IsGood t = IsTree t × (has_leaves pool t ≡ true)

  trees-one : (R : List Object) (k : Kind) (b : Bytes) → IsStore (record { kind = k; body = b } ∷ R) → Shows R → Each (λ c. IsGood c.tree) (snapshots_in R) → Each (λ c. IsGood c.tree) (snapshots_in (record { kind = k; body = b } ∷ R))
  trees-one R Blob b s f h = h
  trees-one R Tree b s f h = h
  trees-one R CommitKind b s f h =
      let w = commit-held R b s.0 in
      subst (λ (cs : List Snapshot). Each (λ c. IsGood c.tree) (cs ++ snapshots_in R)) (sym (ap (λ o. option_to_list (option_map (snapshot_of R) o)) w.read))
      (((unfolding_law R w.commit.tree s.2 w.tree).tree, flat-leaves R s.2 f w.commit.tree w.tree), h)

  trees-good : (R : List Object) → IsStore R → Shows R → Each (λ c. IsGood c.tree) (snapshots_in R)
  trees-good [] s f = tt
  trees-good (o ∷ R) s f = let older = shows-older o R s f in trees-one R o.kind o.body s older (trees-good R s.2 older)

shown-one : (H : List Object) (o : Object) (n : Bytes) → (has Blob H n ≡ true → is_in (blobs_in H) (body_of Blob H n) ≡ true) → has Blob (o ∷ H) n ≡ true → is_in (blobs_in (o ∷ H)) (body_of Blob (o ∷ H) n) ≡ true
unfolding has body_of
shown-one H o n f h =
    elim (is_named Blob o n) as (λ t. is_named Blob o n ≡ t → (t || has Blob H n) ≡ true → is_in (blob_in o.kind o.body ++ blobs_in H) (cond t o.body (body_of Blob H n)) ≡ true) [
      | true ↦ λ e g. ap (λ k. is_in (blob_in k o.body ++ blobs_in H) o.body) (named_kind Blob o n e) ∙ ap (λ t. t || is_in (blobs_in H) o.body) (same_bytes-self o.body)
      | false ↦ λ e g. any-back (same_bytes (body_of Blob H n)) (blob_in o.kind o.body) (blobs_in H) (f g)
    ] refl h

shown : (H : List Object) (n : Bytes) → has Blob H n ≡ true → is_in (blobs_in H) (body_of Blob H n) ≡ true
unfolding has
shown [] n h = absurd (true≢false (sym h))
shown (o ∷ H) n h = shown-one H o n (shown H n) h

-- the commits of a store have valid trees of known blobs
pub held-trees : (H : List Object) → IsStore H → Each (λ c. IsGood (blobs_in H) c.tree) (snapshots_in H)
held-trees H s = trees-good (blobs_in H) H s (shown H)

-- and known blobs are bytes
bytes-one : (H : List Object) (k : Kind) (b : Bytes) → is_body H k b ≡ true → list_all is_bytes (blobs_in H) ≡ true → list_all is_bytes (blob_in k b ++ blobs_in H) ≡ true
bytes-one H Blob b h g = and_both h g
bytes-one H Tree b h g = g
bytes-one H CommitKind b h g = g

pub held-bytes : (H : List Object) → IsStore H → list_all is_bytes (blobs_in H) ≡ true
held-bytes [] s = refl
held-bytes (o ∷ H) s = bytes-one H o.kind o.body s.0 (held-bytes H s.2)

-- Originals in a store, and their rows behind a graph's.
use Rattle.std.proofs.Math.Seq.{take-append_seam}
use Rattle.std.proofs.lemmas.List.{length-append}
use Rattle.std.proofs.Common.{add-one, ◌≡◌, ◌<◌, ◌+◌, inl, inr, ℕ, zero, suc, Bool, true, false, cond, List, [], ◌∷◌, ◌++◌, length, map, take, slice_get, All, Option, Some, None, IfSome, IsSome, refl, sym, ap, subst, ◌∙◌, arith, true≢false}
use Rattle.std.specs.Option.{is_some, option_map}
use Rattle.std.specs.Cmp.Lexicographic.{bytes_decides}
use Rattle.std.proofs.lemmas.List.Elements.{All-tail}
use Rattle.std.proofs.lemmas.Option.{same_Some, slice_get_within}
use Rattle.git_objects.specs.Commits.{Commit}
use Rattle.git_objects.specs.CommitBodies.{commit_from}
use Rattle.git_objects.specs.Names.{tree_name}
use Rattle.git_objects.specs.Paths.{Bytes, same_bytes}
use Rattle.git_objects.specs.Snapshots.{Snapshot, Graph, commit_at, has, snapshot_commit, snapshot_name}
use Rattle.git_objects.specs.declared.kind.Kind.TheVariants.{Commit as CommitKind}
use Rattle.object_store.specs.Objects.{Object, IsStore}
use Rattle.object_store.specs.Objects as objects
use Rattle.object_store.specs.StoredSnapshots.{commit_named, snapshot_object, snapshot_of}
use Rattle.object_store.specs.Unfolding.{flat}
use Rattle.object_store.proofs.Parts.{found-has}
use Rattle.object_store.proofs.Unfolding.{unfolding_law}
use Rattle.commit_graph.specs.Graphs.{Row, place_of}
use Rattle.commit_graph.proofs.Places.{absent, graph-push, slice_get-push}
use Rattle.projection_laws.specs.StoredGraphs.{IsGraphIn, IsRowIn, graph_of, name_at, snapshot_named}
use Rattle.projection_laws.proofs.Reached.{commit-older}
use Rattle.projection_laws.proofs.StoredGraphs.{at-row, name-is, older-all, older-has, older-place, older-suc, row-at}
use Rattle.history_ground.proofs.ProjectLemmas.{place-named, place-within}
use Rattle.fast_import.specs.Standing.{IsCommitIn}
use Rattle.fast_import.specs.declared.replayed.Made.{Made}
use Rattle.merge_push.specs.Originals.{IsReadAgain}
use Rattle.merge_push.specs.Progressing.{row_of}

-- ---- a commit of the store

module _ (S : List Object) (m : Made) (o : Snapshot) (s : IsStore S) (k : IsCommitIn S m o) where
  pub in-store : objects.has CommitKind S m.name.0 ≡ true
  in-store = (found-has S CommitKind m.name.0 (snapshot_object o) k.held refl).0

  pub tree-named : tree_name o.tree ≡ m.tree.0
  tree-named = ap tree_name (sym k.stands.map) ∙ (unfolding_law S m.tree.0 s k.stands.held).named

  module _ (again : IsReadAgain o) where
    pub read-as : commit_named S m.name.0 ≡ Some (snapshot_commit o)
    read-as = ap commit_from (found-has S CommitKind m.name.0 (snapshot_object o) k.held refl).1 ∙ again

    pub snapshot-is : snapshot_named S m.name.0 ≡ Some o
    snapshot-is =
        ap (option_map (snapshot_of S)) read-as
        ∙ ap (λ t. Some (record { tree = t; parents = o.parents; letter = o.letter })) (ap (flat S) tree-named ∙ k.stands.map)

-- ---- names at places

pub name-push : (rows : List Row) (r : Row) (p : ℕ) → p < length rows → name_at (rows ++ r ∷ []) p ≡ name_at rows p
name-push [] r p l = absurd (omega (arith, l))
name-push (q ∷ rows) r zero l = refl
name-push (q ∷ rows) r (suc p) l = name-push rows r p (omega (arith, l))

pub name-last : (rows : List Row) (r : Row) → name_at (rows ++ r ∷ []) (length rows) ≡ r.name
name-last [] r = refl
name-last (q ∷ rows) r = name-last rows r

get-row : (rows : List Row) (p : ℕ) → p < length rows → (r : Row) × (slice_get rows p ≡ Some r)
get-row [] p l = absurd (omega (arith, l))
get-row (q ∷ rows) zero l = (q, refl)
get-row (q ∷ rows) (suc p) l = get-row rows p (omega (arith, l))

-- a name that is told of a place
pub name-told : (rows : List Row) (p : ℕ) (n : Bytes) → p < length rows → IfSome (slice_get rows p) (λ r. n ≡ r.name) → n ≡ name_at rows p
name-told [] p n l h = absurd (omega (arith, l))
name-told (q ∷ rows) zero n l h = h
name-told (q ∷ rows) (suc p) n l h = name-told rows p n (omega (arith, l)) h

pub name-placed : (rows : List Row) (p : ℕ) (n : Bytes) → p < length rows → IfSome (slice_get rows p) (λ r. n ≡ r.name) → IsSome (place_of n rows)
name-placed rows p n l h = by (place_of n rows) refl
  where
    r : (r : Row) × (slice_get rows p ≡ Some r)
    r = get-row rows p l

    named : r.0.name ≡ n
    named = sym (subst (λ o. IfSome o (λ x. n ≡ x.name)) r.1 h)

    by : (o : Option ℕ) → place_of n rows ≡ o → IsSome (place_of n rows)
    by None e = absurd (true≢false (sym ((bytes_decides r.0.name n).1 named) ∙ absent (λ (x : Row). same_bytes x.name n) rows e p r.0 r.1))
    by (Some i) e = ap is_some e

names-push : (rows : List Row) (r : Row) (ps : List ℕ) → All (λ p. p < length rows) ps → map (name_at (rows ++ r ∷ [])) ps ≡ map (name_at rows) ps
names-push rows r [] h = refl
names-push rows r (p ∷ ps) h =
    let first : p < length rows = h 0 p (omega arith) in
    λ i. name-push rows r p first i ∷ names-push rows r ps (All-tail (λ q. q < length rows) p ps h) i

pub last-row : (rows : List Row) (r : Row) → slice_get (rows ++ r ∷ []) (length rows) ≡ Some r
last-row [] r = refl
last-row (q ∷ rows) r = last-row rows r

-- ---- one row more

row-push : (S : List Object) (rows : List Row) (r q : Row) → All (λ p. p < length rows) q.parents → IsRowIn S rows q → IsRowIn S (rows ++ r ∷ []) q
row-push S rows r q below w = record {
  commit = w.commit;
  held = w.held;
  named = w.named;
  tree = w.tree;
  parents = w.parents ∙ sym (names-push rows r q.parents below);
  tree_held = w.tree_held;
}

-- below the length of the rows
within : (rows : List Row) (i : ℕ) (ps : List ℕ) → i < length rows → All (λ p. p < i) ps → All (λ p. p < length rows) ps
within rows i ps l h j d e = let below = h j d e in omega (arith, l, below)

module _ (S : List Object) (rows : List Row) (g : IsGraphIn S rows) (m : Made) (o : Snapshot) (k : IsCommitIn S m o) (again : IsReadAgain o) where
  -- a commit of the graph of this name is this one
  pub there-is : (p : ℕ) → Some p ≡ place_of m.name.0 rows → commit_at (graph_of S rows) (snapshot_name o) ≡ Some o
  there-is p e =
      let l = place-within m.name.0 rows p e in
      let r = row-at S rows g p l in
      let a = at-row S rows g p r.0 r.1 in
      let named : r.0.name ≡ m.name.0 = sym (name-is S rows g p r.0 r.1) ∙ place-named m.name.0 rows p e in
      let same : a.0 ≡ o = same_Some a.0 o (sym a.1.found ∙ ap (snapshot_named S) named ∙ snapshot-is S m o g.store k again) in
      ap (commit_at (graph_of S rows)) (k.named ∙ sym named)
      ∙ ap (λ (x : Graph). commit_at x r.0.name) (sym (older-all S rows g))
      ∙ commit-older S rows g (length rows) (omega arith) p r.0 a.0 r.1 l a.1
      ∙ ap Some same

  pub there-has : (p : ℕ) → Some p ≡ place_of m.name.0 rows → has (graph_of S rows) (snapshot_name o) ≡ true
  there-has p e =
      let l = place-within m.name.0 rows p e in
      let r = row-at S rows g p l in
      let named : r.0.name ≡ m.name.0 = sym (name-is S rows g p r.0 r.1) ∙ place-named m.name.0 rows p e in
      ap (has (graph_of S rows)) (k.named ∙ sym named)
      ∙ ap (λ (x : Graph). has x r.0.name) (sym (older-all S rows g))
      ∙ older-has S rows g (length rows) (omega arith) p r.0 r.1 l

  -- and its row has the tree
  pub there-tree : (p : ℕ) → Some p ≡ place_of m.name.0 rows → (r : Row) → slice_get rows p ≡ Some r → flat S r.tree ≡ o.tree
  there-tree p e r q =
      let w = g.each p r q in
      let named : r.name ≡ m.name.0 = sym (name-is S rows g p r q) ∙ place-named m.name.0 rows p e in
      let same : w.commit ≡ snapshot_commit o = same_Some w.commit (snapshot_commit o) (sym w.named ∙ ap (commit_named S) named ∙ read-as S m o g.store k again) in
      ap (flat S) (sym w.tree ∙ ap (λ (c : Commit). c.tree) same ∙ tree-named S m o g.store k) ∙ k.stands.map

  module _ (ps : List ℕ) (parents : o.parents ≡ map (name_at rows) ps) (below : All (λ p. p < length rows) ps) (new : place_of m.name.0 rows ≡ None) where
    pub rows-more : IsGraphIn S (rows ++ row_of m ps ∷ [])
    rows-more = record {
      store = g.store;
      graph = graph-push rows (row_of m ps) g.graph new below;
      each = λ j q e. elim (slice_get-push rows (row_of m ps) j q e) [
        | inl old ↦ row-push S rows (row_of m ps) q (within rows j q.parents (slice_get_within rows j q old) (g.graph.placed j q old)) (g.each j q old)
        | inr own ↦ subst (IsRowIn S (rows ++ row_of m ps ∷ [])) own.1 (record {
          commit = snapshot_commit o;
          held = in-store S m o g.store k;
          named = read-as S m o g.store k again;
          tree = tree-named S m o g.store k;
          parents = parents ∙ sym (names-push rows (row_of m ps) ps below);
          tree_held = k.stands.held;
        })
      ];
    }

    -- the newest commit is this one
    pub graph-more : graph_of S (rows ++ row_of m ps ∷ []) ≡ o ∷ graph_of S rows
    graph-more =
        let more : List Row = rows ++ row_of m ps ∷ [] in
        let a = at-row S more rows-more (length rows) (row_of m ps) (last-row rows (row_of m ps)) in
        let same : a.0 ≡ o = same_Some a.0 o (sym a.1.found ∙ snapshot-is S m o g.store k again) in
        let long : length more ≡ suc (length rows) = length-append rows (row_of m ps ∷ []) ∙ add-one (length rows) in
        sym (older-all S more rows-more)
        ∙ ap (λ n. graph_of S (take n more)) long
        ∙ older-suc S more rows-more (length rows) (row_of m ps) a.0 (last-row rows (row_of m ps)) a.1
        ∙ (λ i. same i ∷ graph_of S (take-append_seam rows (row_of m ps ∷ []) i))

    pub new-has : has (graph_of S rows) (snapshot_name o) ≡ false
    new-has = by (has (graph_of S rows) (snapshot_name o)) refl
      where
        by : (b : Bool) → has (graph_of S rows) (snapshot_name o) ≡ b → has (graph_of S rows) (snapshot_name o) ≡ false
        by false e = e
        by true e =
            let q = older-place S rows g (length rows) (omega arith) (snapshot_name o) (ap (λ (x : Graph). has x (snapshot_name o)) (older-all S rows g) ∙ e) in
            let named : q.1.name ≡ m.name.0 = q.4 ∙ k.named in
            absurd (true≢false (sym ((bytes_decides q.1.name m.name.0).1 named) ∙ absent (λ (r : Row). same_bytes r.name m.name.0) rows new q.0 q.1 q.3))

-- The graph that rows stand for, and its commits by their places.
use Rattle.std.proofs.Common.{◌≡◌, ℕ, zero, suc, ◌+◌, ◌<◌, ◌≤◌, inl, inr, Bool, true, false, ◌||◌, List, [], ◌∷◌, ◌++◌, map, length, take, reverse, slice_get, get_or, Some, All, refl, sym, ap, ◌∙◌, arith, true≢false, add-one, ◌-◌}
use Rattle.std.specs.List.{filter_map, cons_option, list_all}
use Rattle.std.specs.Option.{option_map, option_map_or}
use Rattle.std.specs.Cmp.Lexicographic.{bytes_decides}
use Rattle.std.proofs.lemmas.Bool.{and_from, cases_lt}
use Rattle.std.proofs.lemmas.List.{take_more, take_all, reverse-append}
use Rattle.std.proofs.lemmas.List.Elements.{All-tail}
use Rattle.std.proofs.lemmas.Option.{same_Some, slice_get-get_or, slice_get_within, get_or_from_slice_get}
use Rattle.git_objects.specs.Paths.{Bytes}
use Rattle.git_objects.specs.Commits.{Commit}
use Rattle.git_objects.specs.CommitBodies.{IsCommitBody}
use Rattle.git_objects.specs.Snapshots.{Snapshot, Graph, snapshot_name, has_name, has, is_graph}
use Rattle.git_objects.specs.declared.kind.Kind.TheVariants.{Tree, Commit as CommitKind}
use Rattle.object_store.specs.Objects.{Object, body_of}
use Rattle.object_store.specs.Objects as objects
use Rattle.object_store.specs.Unfolding.{flat}
use Rattle.object_store.specs.StoredSnapshots.{commit_named, snapshot_of}
use Rattle.commit_graph.specs.Graphs.{Row}
use Rattle.projection_laws.specs.StoredGraphs.{name_at, IsGraphIn, snapshot_named, graph_of}
use Rattle.projection_laws.proofs.GraphLemmas.{graph-from, has-newer, has-self}
use Rattle.projection_laws.proofs.HeldCommits.{IsHeld, held}

-- the commit of a row, with its flat tree
pub record IsAt (S : List Object) (rows : List Row) (r : Row) (c : Snapshot) : Type 0 where
  pub commit : Commit
  pub held : objects.has CommitKind S r.name ≡ true
  pub named : commit_named S r.name ≡ Some commit
  pub spelled : IsCommitBody commit (body_of CommitKind S r.name)
  pub found : snapshot_named S r.name ≡ Some c
  pub is : snapshot_of S commit ≡ c
  pub name : snapshot_name c ≡ r.name
  pub parents : c.parents ≡ map (name_at rows) r.parents
  pub tree : flat S r.tree ≡ c.tree
  pub tree_held : objects.has Tree S r.tree ≡ true

module _ (S : List Object) (rows : List Row) (g : IsGraphIn S rows) where
  pub at-row : (i : ℕ) (r : Row) → slice_get rows i ≡ Some r → (c : Snapshot) × IsAt S rows r c
  at-row i r e =
      let w = g.each i r e in
      let h : IsHeld S r.name w.commit = held S r.name w.commit g.store w.held w.named in (
        snapshot_of S w.commit,
        record {
          commit = w.commit;
          held = w.held;
          named = w.named;
          spelled = h.spelled;
          found = ap (option_map (snapshot_of S)) w.named;
          is = refl;
          name = h.named;
          parents = w.parents;
          tree = ap (flat S) (sym w.tree);
          tree_held = w.tree_held;
        },
      )

  -- the graph of the commits before a place
  abbrev pub older : ℕ → Graph
  older k = graph_of S (take k rows)

  pub older-all : older (length rows) ≡ graph_of S rows
  older-all = ap (graph_of S) (take_all (length rows) rows (omega arith))

  pub older-suc : (i : ℕ) (r : Row) (c : Snapshot) → slice_get rows i ≡ Some r → IsAt S rows r c → older (suc i) ≡ c ∷ older i
  unfolding graph_of
  older-suc i r c e a =
      ap (λ (xs : List Row). graph_of S xs)
      (ap (λ n. take n rows) (sym (add-one i)) ∙ take_more rows i r (slice_get_within rows i r e) ∙ ap (λ (x : Row). take i rows ++ x ∷ []) (get_or_from_slice_get rows i r r e))
      ∙ ap (filter_map (λ (x : Row). snapshot_named S x.name)) (reverse-append (take i rows) (r ∷ []))
      ∙ ap (λ o. cons_option o (filter_map (λ (x : Row). snapshot_named S x.name) (reverse (take i rows)))) a.found

  nobody : Row
  nobody = record { name = []; tree = []; parents = [] }

  pub row-at : (i : ℕ) → i < length rows → (r : Row) × (slice_get rows i ≡ Some r)
  row-at i l = (get_or rows i nobody, slice_get-get_or rows i nobody l)

  pub name-is : (i : ℕ) (r : Row) → slice_get rows i ≡ Some r → name_at rows i ≡ r.name
  name-is i r e = ap (λ o. option_map_or (λ (x : Row). x.name) o []) e

  -- the commit at a place is in the graph of those before a later one
  pub older-has : (k : ℕ) → k ≤ length rows → (i : ℕ) (r : Row) → slice_get rows i ≡ Some r → i < k → has (older k) r.name ≡ true
  older-has zero l i r e b = absurd (omega (arith, b))
  older-has (suc k) l i r e b =
      let w = row-at k (omega (arith, l)) in
      let a = at-row k w.0 w.1 in
      ap (λ (h : Graph). has h r.name) (older-suc k w.0 a.0 w.1 a.1)
      ∙ elim (cases_lt i k) as (λ o. has (a.0 ∷ older k) r.name ≡ true) [
        | inl q ↦ has-newer a.0 (older k) r.name (older-has k (omega (arith, l)) i r e q)
        | inr q ↦
            let here : i ≡ k = omega (arith, b, q) in
            let same : w.0 ≡ r = same_Some w.0 r (sym w.1 ∙ ap (slice_get rows) (sym here) ∙ e) in
            ap (has (a.0 ∷ older k)) (ap (λ (x : Row). x.name) (sym same) ∙ sym a.1.name) ∙ has-self a.0 (older k)
      ]

  -- and each commit of that graph stands at such a place
  pub older-place : (k : ℕ) → k ≤ length rows → (n : Bytes) → has (older k) n ≡ true → (i : ℕ) × (r : Row) × (i < k) × (slice_get rows i ≡ Some r) × (r.name ≡ n)
  unfolding graph_of
  older-place zero l n h = absurd (true≢false (sym h))
  older-place (suc k) l n h =
      let w = row-at k (omega (arith, l)) in
      let a = at-row k w.0 w.1 in
      by w.0 w.1 a.0 a.1 (has_name n a.0) refl (older-place k (omega (arith, l)) n) (sym (ap (λ (x : Graph). has x n) (older-suc k w.0 a.0 w.1 a.1)) ∙ h)
    where
      by : (r : Row) → slice_get rows k ≡ Some r → (c : Snapshot) → IsAt S rows r c → (b : Bool) → has_name n c ≡ b
          → (has (older k) n ≡ true → (i : ℕ) × (r : Row) × (i < k) × (slice_get rows i ≡ Some r) × (r.name ≡ n)) → (b || has (older k) n) ≡ true
          → (i : ℕ) × (r : Row) × (i < suc k) × (slice_get rows i ≡ Some r) × (r.name ≡ n)
      by r e c a true q rest f = (k, r, omega arith, e, sym (a.name) ∙ sym ((bytes_decides n (snapshot_name c)).0 q))
      by r e c a false q rest f =
          let p = rest f in
          let b : p.0 < suc k = let x = p.2 in omega (arith, x) in
          (p.0, p.1, b, p.3, p.4)

  parents-in : (k : ℕ) → k ≤ length rows → (ps : List ℕ) → All (λ p. p < k) ps → list_all (has (older k)) (map (name_at rows) ps) ≡ true
  parents-in k l [] h = refl
  parents-in k l (p ∷ ps) h =
      let below : p < k = h 0 p (omega arith) in
      let w = row-at p (omega (arith, below, l)) in
      and_from (has (older k) (name_at rows p)) (list_all (has (older k)) (map (name_at rows) ps))
      (ap (has (older k)) (name-is p w.0 w.1) ∙ older-has k l p w.0 w.1 below)
      (parents-in k l ps (All-tail (λ q. q < k) p ps h))

  pub older-graph : (k : ℕ) → k ≤ length rows → is_graph (older k) ≡ true
  unfolding graph_of
  older-graph zero l = refl
  older-graph (suc k) l =
      let l' : k ≤ length rows = omega (arith, l) in
      let w = row-at k (omega (arith, l)) in
      let a = at-row k w.0 w.1 in
      ap is_graph (older-suc k w.0 a.0 w.1 a.1)
      ∙ graph-from a.0 (older k) (new l' w.0 w.1 a.0 a.1 (has (older k) (snapshot_name a.0)) refl)
      (ap (list_all (has (older k))) a.1.parents ∙ parents-in k l' w.0.parents (g.graph.placed k w.0 w.1)) (older-graph k l')
    where
      new : k ≤ length rows → (r : Row) → slice_get rows k ≡ Some r → (c : Snapshot) → IsAt S rows r c → (b : Bool) → has (older k) (snapshot_name c) ≡ b → b ≡ false
      new l r e c a true h =
          let p = older-place k l (snapshot_name c) h in
          let same : p.0 ≡ k = g.graph.distinct p.0 k p.1 r p.3 e (p.4 ∙ a.name) in
          let below : p.0 < k = p.2 in
          absurd (omega (arith, same, below))
      new l r e c a false h = refl

  pub whole-graph : is_graph (graph_of S rows) ≡ true
  whole-graph = ap is_graph (sym older-all) ∙ older-graph (length rows) (omega arith)

  -- the graph is that of the commits before a place, the commit there, and newer ones
  pub split-from : (m i : ℕ) (r : Row) (c : Snapshot) → i + suc m ≤ length rows → slice_get rows i ≡ Some r → IsAt S rows r c → (newer : Graph) × (older (i + suc m) ≡ newer ++ c ∷ older i)
  split-from zero i r c l e a = ([], ap older (let q : i + suc zero ≡ suc i = omega arith in q) ∙ older-suc i r c e a)
  split-from (suc m) i r c l e a =
      let w = row-at (i + suc m) (omega (arith, l)) in
      let b = at-row (i + suc m) w.0 w.1 in
      let x = split-from m i r c (omega (arith, l)) e a in
      (b.0 ∷ x.0, ap older (let q : i + suc (suc m) ≡ suc (i + suc m) = omega arith in q) ∙ older-suc (i + suc m) w.0 b.0 w.1 b.1 ∙ ap (λ (y : Graph). b.0 ∷ y) x.1)

  pub split-at : (i : ℕ) (r : Row) (c : Snapshot) → slice_get rows i ≡ Some r → IsAt S rows r c → (newer : Graph) × (graph_of S rows ≡ newer ++ c ∷ older i)
  split-at i r c e a =
      let l : i < length rows = slice_get_within rows i r e in
      let m : ℕ = length rows - suc i in
      let q : i + suc m ≡ length rows = omega (arith, l) in
      let x = split-from m i r c (omega (arith, q)) e a in
      (x.0, sym older-all ∙ ap older (sym q) ∙ x.1)

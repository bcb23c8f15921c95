-- Where a push with merges begins over a ground.
use Rattle.std.proofs.Common.{◌≡◌, ◌<◌, ◌+◌, ℕ, zero, suc, Bool, true, false, cond, List, [], ◌∷◌, length, map, reverse, find, filter_map, slice_get, Option, Some, None, IfSome, IsSome, refl, sym, ap, subst, ◌∙◌, arith, true≢false, add-one}
use Rattle.std.specs.Option.{is_some, option_map, option_map_or, option_or, unwrap_or}
use Rattle.std.specs.List.{cons_option}
use Rattle.std.proofs.lemmas.List.{length-map, reverse-reverse}
use Rattle.std.proofs.lemmas.Option.{none-some, same_Some}
use Rattle.indexmap.proofs.ReorderLemmas.{map-reverse}
use Rattle.git_objects.specs.Lists.{Each}
use Rattle.git_objects.specs.Paths.{Bytes}
use Rattle.git_objects.specs.Snapshots.{Snapshot, Graph, has, snapshot_name, tree_at}
use Rattle.git_objects.specs.Trees.{Flat, IsTree}
use Rattle.object_store.specs.Objects.{Object}
use Rattle.object_store.specs.Unfolding.{flat}
use Rattle.object_store.proofs.Unfolding.{unfolding_law}
use Rattle.commit_graph.specs.Graphs.{Row, place_of}
use Rattle.commit_map.specs.Shown.{Entries, Shown, kept_at}
use Rattle.commit_map.specs.declared.rule.Rule.{Rule}
use Rattle.filter_text.specs.Filters.{Filter}
use Rattle.workspace.specs.Workspaces.{shown}
use Rattle.projection_laws.specs.Projections.{known_at, projection, projections}
use Rattle.projection_laws.specs.StoredGraphs.{IsGraphIn, graph_of, name_at, snapshot_named}
use Rattle.projection_laws.proofs.HistoryLemmas.{each-reverse}
use Rattle.projection_laws.proofs.StoredGraphs.{at-row, name-is, older-all, older-place, row-at, whole-graph}
use Rattle.projection_ground.specs.Choosing.{KeepsAll}
use Rattle.projection_ground.specs.Grounds.{IsGround, commits_of}
use Rattle.projection_ground.specs.declared.ground.Ground.{Ground}
use Rattle.history_ground.specs.Origins.{AreFirsts, Firsts, first_at, first_of, first_place, is_shown_by}
use Rattle.history_ground.proofs.HeadLemmas.{head-tree, head-tree-has}
use Rattle.history_ground.proofs.ProjectLemmas.{head-there, place-named, place-within}
use Rattle.merge_laws.specs.MergeVerdicts.{Tie, begun, is_tied, origin_of}
use Rattle.merge_laws.proofs.Merging.{entries-true}
use Rattle.merge_push.specs.Places.{origin_in}
use Rattle.merge_push.specs.Progressing.{HasTrueMap, IsProgress}

-- ---- names by places

abbrev at-place : {A : Type 0} → (A → Bytes) → List A → ℕ → Bytes
at-place f xs i = option_map_or f (slice_get xs i) []

abbrev first-one : List Bytes → Bytes
first-one [] = []
first-one (n ∷ ns) = n

abbrev others : List Bytes → List Bytes
others [] = []
others (n ∷ ns) = ns

same-place : {A B : Type 0} (f : A → Bytes) (g : B → Bytes) (xs : List A) (ys : List B) → map f xs ≡ map g ys → (i : ℕ) → at-place f xs i ≡ at-place g ys i
same-place f g [] [] e i = refl
same-place f g [] (y ∷ ys) e i = absurd cc
same-place f g (x ∷ xs) [] e i = absurd cc
same-place f g (x ∷ xs) (y ∷ ys) e zero = ap first-one e
same-place f g (x ∷ xs) (y ∷ ys) e (suc i) = same-place f g xs ys (ap others e) i

found-at : {A : Type 0} (p : A → Bool) (f : A → Bytes) (xs : List A) → option_map f (find p xs) ≡ option_map (at-place f xs) (first_at p xs)
found-at p f [] = refl
found-at p f (x ∷ xs) = by (p x) (found-at p f xs)
  where
    shifted : (o : Option ℕ) → option_map (at-place f xs) o ≡ option_map (at-place f (x ∷ xs)) (option_map (λ n. n + 1) o)
    shifted None = refl
    shifted (Some n) = ap (λ i. Some (at-place f (x ∷ xs) i)) (sym (add-one n))

    by : (b : Bool) → option_map f (find p xs) ≡ option_map (at-place f xs) (first_at p xs) → option_map f (cond b (Some x) (find p xs)) ≡ option_map (at-place f (x ∷ xs)) (cond b (Some 0) (option_map (λ n. n + 1) (first_at p xs)))
    by true h = refl
    by false h = h ∙ shifted (first_at p xs)

first-within : {A : Type 0} (p : A → Bool) (xs : List A) (i : ℕ) → first_at p xs ≡ Some i → i < length xs
first-within p [] i e = absurd (none-some i e)
first-within p (x ∷ xs) i e = by (p x) (first_at p xs) (first-within p xs) e
  where
    by : (b : Bool) (o : Option ℕ) → ((j : ℕ) → o ≡ Some j → j < length xs) → cond b (Some 0) (option_map (λ n. n + 1) o) ≡ Some i → i < suc (length xs)
    by true o h q = let z : 0 ≡ i = same_Some 0 i q in omega (arith, z)
    by false None h q = absurd (none-some i q)
    by false (Some j) h q = let z : j + 1 ≡ i = same_Some (j + 1) i q in let l = h j refl in omega (arith, z, l)

-- ---- the names of a graph's commits, the oldest first

each-get : {A : Type 0} (P : A → Type 0) (xs : List A) → ((i : ℕ) (x : A) → slice_get xs i ≡ Some x → P x) → Each P xs
each-get P [] h = tt
each-get P (x ∷ xs) h = (h 0 x refl, each-get P xs (λ i y e. h (suc i) y e))

-- a commit that has the row's name
record IsNamed (S : List Object) (r : Row) : Type 0 where
  commit : Snapshot
  found : snapshot_named S r.name ≡ Some commit
  name : snapshot_name commit ≡ r.name

all-named : (S : List Object) (rs : List Row) → Each (IsNamed S) rs → map snapshot_name (filter_map (λ r. snapshot_named S r.name) rs) ≡ map (λ r. r.name) rs
all-named S [] h = refl
all-named S (r ∷ rs) h =
    ap (λ o. map snapshot_name (cons_option o (filter_map (λ r. snapshot_named S r.name) rs))) h.0.found
    ∙ (λ i. h.0.name i ∷ all-named S rs h.1 i)

graph-names : (S : List Object) (rows : List Row) → IsGraphIn S rows → map snapshot_name (graph_of S rows) ≡ reverse (map (λ r. r.name) rows)
unfolding graph_of
graph-names S rows g =
    all-named S (reverse rows) (each-reverse (IsNamed S) rows (each-get (IsNamed S) rows (λ i r e. let a = at-row S rows g i r e in record { commit = a.0; found = a.1.found; name = a.1.name })))
    ∙ map-reverse (λ (r : Row). r.name) rows

entry-names : (k : Rule) (sh : Flat → Flat) (g : Graph) → map (λ (e : Tie). e.0) (projections k sh [] g) ≡ map snapshot_name g
entry-names k sh [] = refl
entry-names k sh (c ∷ g) = ap (λ ns. snapshot_name c ∷ ns) (entry-names k sh g)

-- ---- a ground that keeps the projection of each commit

module _ (f : Filter) (os : Firsts) (g : Ground) (w : IsGround g) (keeps : KeepsAll g) (t : HasTrueMap f g) (first : AreFirsts f g g.store os) where
  abbrev ks : Entries
  ks = projections g.rule (shown f) [] (commits_of g)

  in-order : map (λ (e : Tie). e.0) (reverse ks) ≡ map (λ (r : Row). r.name) g.graph
  in-order =
      map-reverse (λ (e : Tie). e.0) ks
      ∙ ap reverse (entry-names g.rule (shown f) (commits_of g) ∙ graph-names g.store g.graph w.graph)
      ∙ reverse-reverse (map (λ (r : Row). r.name) g.graph)

  as-long : length (reverse ks) ≡ length g.graph
  as-long = sym (length-map (reverse ks) (λ (e : Tie). e.0)) ∙ ap length in-order ∙ length-map g.graph (λ (r : Row). r.name)

  or-none : (o : Option ℕ) → option_or o None ≡ o
  or-none None = refl
  or-none (Some n) = refl

  origin-is : (n : Bytes) → origin_in os [] n ≡ first_place ks n
  origin-is n = or-none (option_map (λ x. x.place) (first_of n os)) ∙ first.first n

  same-names : (o : Option ℕ) → option_map (at-place (λ (e : Tie). e.0) (reverse ks)) o ≡ option_map (name_at g.graph) o
  same-names None = refl
  same-names (Some i) = ap Some (same-place (λ (e : Tie). e.0) (λ (r : Row). r.name) (reverse ks) g.graph in-order i)

  origins-start : (n : Bytes) → option_map (λ (e : Tie). e.0) (origin_of ks n) ≡ option_map (name_at g.graph) (origin_in os [] n)
  origins-start n =
      found-at (is_tied n) (λ (e : Tie). e.0) (reverse ks)
      ∙ same-names (first_place ks n)
      ∙ ap (option_map (name_at g.graph)) (sym (origin-is n))

  within-start : (n : Bytes) (p : ℕ) → origin_in os [] n ≡ Some p → p < length g.graph
  within-start n p e = subst (λ i. p < i) as-long (first-within (is_shown_by n) (reverse ks) p (sym (origin-is n) ∙ e))

  kept-start : (n : Bytes) → has (commits_of g) n ≡ true → known_at g.map n ≡ known_at ks n
  kept-start n h = by (kept_at n g.map) refl
    where
      there : IsSome (kept_at n g.map)
      there =
          let q = older-place g.store g.graph w.graph (length g.graph) (omega arith) n (ap (λ (x : Graph). has x n) (older-all g.store g.graph w.graph) ∙ h) in
          subst (λ (y : Bytes). IsSome (kept_at y g.map)) (name-is g.store g.graph w.graph q.0 q.1 q.3 ∙ q.4) (keeps q.0 q.2)

      by : (o : Option (Option Shown)) → kept_at n g.map ≡ o → known_at g.map n ≡ known_at ks n
      by None e = absurd (true≢false (sym there ∙ ap is_some e))
      by (Some v) e = ap (λ (x : Option (Option Shown)). unwrap_or x None) e ∙ t.values n v e h

  module _ (n : Bytes) (place : ℕ) (e : Some place ≡ place_of n g.graph) where
    row : (r : Row) × (slice_get g.graph place ≡ Some r)
    row = row-at g.store g.graph w.graph place (place-within n g.graph place e)

    tree-of-row : (r : Row) → slice_get g.graph place ≡ Some r → tree_at (commits_of g) n ≡ flat g.store r.tree
    tree-of-row r q = head-tree g n place w e r.tree (subst (λ o. IfSome o (λ x. r.tree ≡ x.tree)) (sym q) refl)

    tree-good : IsTree (tree_at (commits_of g) n)
    tree-good =
        let there = head-tree-has g n place w e row.0.tree (subst (λ o. IfSome o (λ x. row.0.tree ≡ x.tree)) (sym row.1) refl) in
        subst IsTree (sym (tree-of-row row.0 row.1)) (unfolding_law g.store row.0.tree w.graph.store there).tree

    pub progress-start : IsProgress f os g place [] (begun g.rule f (commits_of g) n)
    progress-start = record {
      ground = w;
      graph = refl;
      keeps = keeps;
      of = t.of;
      kept = kept-start;
      known = λ m h. refl;
      each = entries-true g.rule (shown f) (commits_of g) (whole-graph g.store g.graph w.graph);
      head_there = head-there g n w (ap is_some (sym e));
      there = place-within n g.graph place e;
      head = place-named n g.graph place e;
      tree = λ r q. sym (tree-of-row r q);
      is_tree = tree-good;
      origins = origins-start;
      within = within-start;
    }

-- A push that has come a commit further, over a ground that has the original.
use Rattle.std.proofs.Common.{◌≡◌, ◌<◌, ◌≤◌, ◌+◌, ℕ, Bool, true, false, cond, List, [], ◌∷◌, ◌++◌, length, map, reverse, slice_get, find, All, Option, Some, None, IsSome, refl, sym, ap, ap₂, subst, ◌∙◌, arith, true≢false, nat_lt}
use Rattle.std.specs.Option.{is_some, option_map, option_or, unwrap_or}
use Rattle.std.specs.Cmp.Lexicographic.{bytes_decides}
use Rattle.std.proofs.lemmas.Bool.{ltb-false, ltb-true}
use Rattle.std.proofs.lemmas.List.{length-append}
use Rattle.std.proofs.lemmas.Option.{none-some, same_Some}
use Rattle.git_objects.specs.Lists.{Each}
use Rattle.git_objects.specs.Paths.{Bytes, same_bytes}
use Rattle.git_objects.specs.Snapshots.{Snapshot, Graph, add, commit_at, has, has_name, is_graph, snapshot_name}
use Rattle.git_objects.specs.Trees.{Flat, IsTree}
use Rattle.git_objects.proofs.Basics.{same_bytes-self}
use Rattle.object_store.specs.Objects.{Object}
use Rattle.object_store.specs.Unfolding.{flat}
use Rattle.object_store.proofs.Growth.{flat-grown}
use Rattle.commit_graph.specs.Graphs.{Row, place_of}
use Rattle.commit_map.specs.Shown.{Entries, Shown, kept_at}
use Rattle.commit_map.specs.declared.rule.Rule.{Rule}
use Rattle.filter_text.specs.Filters.{Filter}
use Rattle.workspace.specs.Laws.{IsUsable}
use Rattle.workspace.specs.Workspaces.{shown}
use Rattle.projection_laws.specs.ProjectionLaws.{AreOf}
use Rattle.projection_laws.specs.Projections.{known_at, projection, shown_of}
use Rattle.projection_laws.specs.StoredGraphs.{graph_of, name_at}
use Rattle.projection_laws.proofs.GraphLemmas.{add-keeps}
use Rattle.projection_laws.proofs.HistoryLemmas.{each-map, reverse-more}
use Rattle.projection_laws.proofs.ProjectionLemmas.{projection-added}
use Rattle.projection_laws.proofs.StoredGraphs.{whole-graph}
use Rattle.projection_ground.specs.Choosing.{KeepsAll, names_at}
use Rattle.projection_ground.specs.Grounds.{Extends, IsGround}
use Rattle.projection_ground.specs.declared.ground.Ground.{Ground}
use Rattle.projection_ground.proofs.Filling.{kept-append, kept-front, kept-new}
use Rattle.projection_ground.proofs.Growing.{commits-same}
use Rattle.projection_ground.proofs.TrueEntries.{rows-newer}
use Rattle.history_ground.specs.Origins.{Firsts, first_of}
use Rattle.history_ground.proofs.ProjectLemmas.{place-named, place-within}
use Rattle.fast_import.specs.Standing.{IsCommitIn}
use Rattle.fast_import.specs.declared.replayed.Made.{Made}
use Rattle.push_laws.specs.PushLaws.{IsStep, commit_of}
use Rattle.push_laws.specs.PushVerdicts.{tree_upon}
use Rattle.push_laws.proofs.Stepping.{upon-step}
use Rattle.std.specs.Prelude.{Ok}
use Rattle.merge_laws.specs.MergeLaws.{IsJoined, projected_names}
use Rattle.merge_laws.specs.MergeVerdicts.{Progress, Tie, after, choice_upon, is_new, is_tied, joined, origin_of, ties}
use Rattle.merge_laws.proofs.Merging.{Holds, holds-after, known-new, one, there-before}
use Rattle.merge_push.specs.Originals.{IsReadAgain}
use Rattle.merge_push.specs.Places.{Places, origin_in, place_at, with_place}
use Rattle.merge_push.specs.Progressing.{IsProgress, row_of}
use Rattle.merge_push.proofs.Placing.{place-with}
use Rattle.merge_push.proofs.Stored.{graph-more, last-row, name-last, name-push, new-has, rows-more, there-has, there-is, there-tree}

-- ---- origins with one commit more

or-back : {A : Type 0} (x y z : Option A) → option_or x (option_or y z) ≡ option_or (option_or x y) z
or-back None y z = refl
or-back (Some a) y z = refl

find-append : {A : Type 0} (p : A → Bool) (xs ys : List A) → find p (xs ++ ys) ≡ option_or (find p xs) (find p ys)
find-append p [] ys = refl
find-append p (x ∷ xs) ys = by (p x) (find-append p xs ys)
  where
    by : (b : Bool) → find p (xs ++ ys) ≡ option_or (find p xs) (find p ys) → cond b (Some x) (find p (xs ++ ys)) ≡ option_or (cond b (Some x) (find p xs)) (find p ys)
    by true h = refl
    by false h = h

-- the new commit's original is the origin where there was none
origin-more : (ks : Entries) (n : Bytes) (x : Shown) (m : Bytes) → origin_of ((n, Some x) ∷ ks) m ≡ option_or (origin_of ks m) (cond (same_bytes m x.commit) (Some (n, Some x)) None)
origin-more ks n x m = ap (find (is_tied m)) (reverse-more (n, Some x) ks) ∙ find-append (is_tied m) (reverse ks) ((n, Some x) ∷ [])

map-or : {A B : Type 0} (f : A → B) (x y : Option A) → option_map f (option_or x y) ≡ option_or (option_map f x) (option_map f y)
map-or f None y = refl
map-or f (Some a) y = refl

module _ (rows rows' : List Row) (os : Firsts) (es : Places) (ks : Entries)
    (front : (p : ℕ) → p < length rows → name_at rows' p ≡ name_at rows p)
    (origins : (n : Bytes) → option_map (λ (e : Tie). e.0) (origin_of ks n) ≡ option_map (name_at rows) (origin_in os es n))
    (within : (n : Bytes) (p : ℕ) → origin_in os es n ≡ Some p → p < length rows)
    (n : Bytes) (x : Shown) (place : ℕ) (named : name_at rows' place ≡ n) (l : place < length rows') (more : length rows ≤ length rows') where
  origin-with : (m : Bytes) → origin_in os (with_place es x.commit place) m ≡ option_or (origin_in os es m) (cond (same_bytes m x.commit) (Some place) None)
  origin-with m = ap (option_or (option_map (λ y. y.place) (first_of m os))) (place-with m es x.commit place) ∙ or-back (option_map (λ y. y.place) (first_of m os)) (place_at m es) (cond (same_bytes m x.commit) (Some place) None)

  still : (m : Bytes) (o : Option ℕ) → origin_in os es m ≡ o → option_map (name_at rows') o ≡ option_map (name_at rows) o
  still m None e = refl
  still m (Some p) e = ap Some (front p (within m p e))

  last : (b : Bool) → option_map (λ (e : Tie). e.0) (cond b (Some (n, Some x)) None) ≡ option_map (name_at rows') (cond b (Some place) None)
  last true = ap Some (sym named)
  last false = refl

  pub origins-more : (m : Bytes) → option_map (λ (e : Tie). e.0) (origin_of ((n, Some x) ∷ ks) m) ≡ option_map (name_at rows') (origin_in os (with_place es x.commit place) m)
  origins-more m =
      ap (option_map (λ (e : Tie). e.0)) (origin-more ks n x m)
      ∙ map-or (λ (e : Tie). e.0) (origin_of ks m) (cond (same_bytes m x.commit) (Some (n, Some x)) None)
      ∙ ap₂ option_or (origins m ∙ sym (still m (origin_in os es m) refl)) (last (same_bytes m x.commit))
      ∙ sym (map-or (name_at rows') (origin_in os es m) (cond (same_bytes m x.commit) (Some place) None))
      ∙ ap (option_map (name_at rows')) (sym (origin-with m))

  pub within-more : (m : Bytes) (p : ℕ) → origin_in os (with_place es x.commit place) m ≡ Some p → p < length rows'
  within-more m p e = by (origin_in os es m) refl (same_bytes m x.commit) (sym (origin-with m) ∙ e)
    where
      by : (o : Option ℕ) → origin_in os es m ≡ o → (b : Bool) → option_or o (cond b (Some place) None) ≡ Some p → p < length rows'
      by (Some q) h b k = let same : q ≡ p = cc in let below = within m q h in omega (arith, same, below, more)
      by None h true k = subst (λ y. y < length rows') (same_Some place p k) l
      by None h false k = absurd (none-some p k)

-- ---- entries behind others

kept-longer : (n : Bytes) (xs ys : Entries) → IsSome (kept_at n xs) → IsSome (kept_at n (xs ++ ys))
kept-longer n xs ys h = by (kept_at n xs) refl
  where
    by : (o : Option (Option Shown)) → kept_at n xs ≡ o → IsSome (kept_at n (xs ++ ys))
    by None e = absurd (true≢false (sym h ∙ ap is_some e))
    by (Some v) e = ap is_some (kept-front n xs ys v e)

-- of another commit the same is known
known-other : (n m : Bytes) (v : Option Shown) (es : Entries) → same_bytes n m ≡ false → known_at (es ++ (m, v) ∷ []) n ≡ known_at es n
known-other n m v es e = by (kept_at n es) refl
  where
    by : (o : Option (Option Shown)) → kept_at n es ≡ o → known_at (es ++ (m, v) ∷ []) n ≡ known_at es n
    by None q = ap (λ (x : Option (Option Shown)). unwrap_or x None) (kept-append n es ((m, v) ∷ []) q ∙ ap (λ b. cond b (Some v) None) e ∙ sym q)
    by (Some x) q = ap (λ (y : Option (Option Shown)). unwrap_or y None) (kept-front n es ((m, v) ∷ []) x q ∙ sym q)

-- ---- the truth of what is known

module _ (f : Filter) (w : IsUsable f) (os : Firsts) (g : Ground) (before : ℕ) (es : Places) (s : Progress) (p : IsProgress f os g before es s) (c : Snapshot) (u : Flat)
    (j : IsJoined (projected_names s.known) (commit_of (known_at s.known s.head)) c) (change : is_new (choice_upon g.rule s (ties s c) c) ≡ true) (tree : IsTree c.tree) (laid : tree_upon f s.tree c.tree ≡ Ok u) where
  abbrev pub o : Snapshot
  o = joined s c u

  abbrev pub G : Graph
  G = add s.graph o

  abbrev P : Bytes → Option Shown
  P n = projection g.rule (shown f) G n

  stays : (n : Bytes) → has s.graph n ≡ true → P n ≡ projection g.rule (shown f) s.graph n
  stays n h = projection-added g.rule (shown f) (o ∷ []) s.graph n h

  pub step : IsStep f s.tree c.tree u
  step = upon-step f s.tree c.tree u w p.is_tree tree laid

  module _ (whole : is_graph G ≡ true) (found : commit_at G (snapshot_name o) ≡ Some o) where
    holds : Holds g.rule f w G whole s
    holds = record {
      head = p.head_there;
      tree = p.is_tree;
      entries = each-map (λ e. (e.1 ≡ projection g.rule (shown f) s.graph e.0) × (has s.graph e.0 ≡ true)) (λ e. (e.1 ≡ P e.0) × (has s.graph e.0 ≡ true)) (λ e x. (x.0 ∙ sym (stays e.0 x.1), x.1)) s.known p.each;
      known = λ n h. p.known n h ∙ sym (stays n h);
    }

    pub mine : P (snapshot_name o) ≡ Some (shown_of c)
    mine = one g.rule f w G whole s c u (o ∷ []) refl holds change step.shown_again found j

    pub held-after : Holds g.rule f w G whole (after s c o)
    held-after = holds-after g.rule f w G whole s c u holds step.tree mine

-- ---- over a store that has grown

module _ (f : Filter) (os : Firsts) (g : Ground) (before : ℕ) (es : Places) (s : Progress) (p : IsProgress f os g before es s) (made : Object → Type 0) (h : Ground) (a : Extends made g h) (m : h.map ≡ g.map) where
  pub progress-grown : IsProgress f os h before es s
  progress-grown = record {
    ground = a.ground;
    graph = commits-same made g h p.ground a ∙ p.graph;
    keeps = λ q l. subst (λ (x : Option (Option Shown)). IsSome x) (λ i. kept_at (name_at (sym a.graph i) q) (sym m i)) (p.keeps q (subst (λ (rows : List Row). q < length rows) a.graph l));
    of = subst (AreOf s.graph) (sym m) p.of;
    kept = λ n y. ap (λ (xs : Entries). known_at xs n) m ∙ p.kept n y;
    known = λ n y. p.known n y ∙ ap (λ (k : Rule). projection k (shown f) s.graph n) (sym a.rule);
    each = subst (λ (k : Rule). Each (λ e. (e.1 ≡ projection k (shown f) s.graph e.0) × (has s.graph e.0 ≡ true)) s.known) (sym a.rule) p.each;
    head_there = p.head_there;
    there = subst (λ (rows : List Row). before < length rows) (sym a.graph) p.there;
    head = ap (λ (rows : List Row). name_at rows before) a.graph ∙ p.head;
    tree = λ r e.
        let old : slice_get g.graph before ≡ Some r = ap (λ (rows : List Row). slice_get rows before) (sym a.graph) ∙ e in
        flat-grown g.store h.store r.tree a.store (p.ground.graph.each before r old).tree_held ∙ p.tree r old;
    is_tree = p.is_tree;
    origins = λ n. p.origins n ∙ ap (λ (rows : List Row). option_map (name_at rows) (origin_in os es n)) (sym a.graph);
    within = λ n q e. subst (λ (rows : List Row). q < length rows) (sym a.graph) (p.within n q e);
  }

-- ---- with the original entered

module _ (f : Filter) (w : IsUsable f) (os : Firsts) (g : Ground) (before : ℕ) (es : Places) (s : Progress) (p : IsProgress f os g before es s) (c : Snapshot) (u : Flat)
    (j : IsJoined (projected_names s.known) (commit_of (known_at s.known s.head)) c) (change : is_new (choice_upon g.rule s (ties s c) c) ≡ true) (tree : IsTree c.tree) (laid : tree_upon f s.tree c.tree ≡ Ok u)
    (m : Made) (k : IsCommitIn g.store m (joined s c u)) (again : IsReadAgain (joined s c u)) where
  abbrev orig : Snapshot
  orig = joined s c u

  rows-graph : Graph
  rows-graph = graph_of g.store g.graph

  -- it was there before
  module _ (place : ℕ) (e : Some place ≡ place_of m.name.0 g.graph) where
    in-graph : has s.graph (snapshot_name orig) ≡ true
    in-graph = ap (λ (x : Graph). has x (snapshot_name orig)) (sym p.graph) ∙ there-has g.store g.graph p.ground.graph m orig k again place e

    same-graph : add s.graph orig ≡ s.graph
    same-graph = ap (λ b. cond b s.graph (orig ∷ s.graph)) in-graph

    whole : is_graph (add s.graph orig) ≡ true
    whole = ap is_graph (same-graph ∙ sym p.graph) ∙ whole-graph g.store g.graph p.ground.graph

    found : commit_at (add s.graph orig) (snapshot_name orig) ≡ Some orig
    found = ap (λ (x : Graph). commit_at x (snapshot_name orig)) (same-graph ∙ sym p.graph) ∙ there-is g.store g.graph p.ground.graph m orig k again place e

    held : Holds g.rule f w (add s.graph orig) whole (after s c orig)
    held = held-after f w os g before es s p c u j change tree laid whole found

    named : name_at g.graph place ≡ snapshot_name orig
    named = place-named m.name.0 g.graph place e ∙ sym k.named

    kept-still : (n : Bytes) → has (add s.graph orig) n ≡ true → known_at g.map n ≡ known_at ((snapshot_name orig, Some (shown_of c)) ∷ s.known) n
    kept-still n h =
        p.kept n (subst (λ (x : Graph). has x n ≡ true) same-graph h)
        ∙ p.known n (subst (λ (x : Graph). has x n ≡ true) same-graph h)
        ∙ ap (λ (x : Graph). projection g.rule (shown f) x n) (sym same-graph)
        ∙ sym (held.known n h)

    pub progress-there : IsProgress f os g place (with_place es (snapshot_name c) place) (after s c orig)
    progress-there = record {
      ground = p.ground;
      graph = p.graph ∙ sym same-graph;
      keeps = p.keeps;
      of = subst (λ (x : Graph). AreOf x g.map) (sym same-graph) p.of;
      kept = kept-still;
      known = held.known;
      each = held.entries;
      head_there = held.head;
      there = place-within m.name.0 g.graph place e;
      head = named;
      tree = λ r q. there-tree g.store g.graph p.ground.graph m orig k again place e r q;
      is_tree = held.tree;
      origins = origins-more g.graph g.graph os es s.known (λ q l. refl) p.origins p.within (snapshot_name orig) (shown_of c) place named (place-within m.name.0 g.graph place e) (omega arith);
      within = within-more g.graph g.graph os es s.known (λ q l. refl) p.origins p.within (snapshot_name orig) (shown_of c) place named (place-within m.name.0 g.graph place e) (omega arith);
    }

  -- it stands behind the others now
  module _ (ps : List ℕ) (parents : orig.parents ≡ names_at g.graph ps) (below : All (λ q. q < length g.graph) ps) (new : place_of m.name.0 g.graph ≡ None) where
    abbrev rows : List Row
    rows = g.graph ++ row_of m ps ∷ []

    abbrev entries : Entries
    entries = g.map ++ (m.name.0, Some (shown_of c)) ∷ []

    abbrev pub wider : Ground
    wider = record g { graph = rows; map = entries }

    wider-rows : graph_of g.store rows ≡ orig ∷ s.graph
    wider-rows = graph-more g.store g.graph p.ground.graph m orig k again ps parents below new ∙ ap (λ (x : Graph). orig ∷ x) p.graph

    not-in : has s.graph (snapshot_name orig) ≡ false
    not-in = ap (λ (x : Graph). has x (snapshot_name orig)) (sym p.graph) ∙ new-has g.store g.graph p.ground.graph m orig k again ps parents below new

    more-graph : add s.graph orig ≡ orig ∷ s.graph
    more-graph = ap (λ b. cond b s.graph (orig ∷ s.graph)) not-in

    pub wider-ground : IsGround wider
    wider-ground =
        let r = rows-more g.store g.graph p.ground.graph m orig k again ps parents below new in
        record { graph = r; memo = p.ground.memo; maps = rows-newer g.store g.graph (row_of m ps ∷ []) g.true_maps r p.ground.maps }

    whole-more : is_graph (add s.graph orig) ≡ true
    whole-more = ap is_graph (more-graph ∙ sym wider-rows) ∙ whole-graph g.store rows wider-ground.graph

    found-more : commit_at (add s.graph orig) (snapshot_name orig) ≡ Some orig
    found-more = ap (λ (x : Graph). commit_at x (snapshot_name orig)) more-graph ∙ ap (λ b. cond b (Some orig) (commit_at s.graph (snapshot_name orig))) (same_bytes-self (snapshot_name orig))

    held-more : Holds g.rule f w (add s.graph orig) whole-more (after s c orig)
    held-more = held-after f w os g before es s p c u j change tree laid whole-more found-more

    lacked : kept_at m.name.0 g.map ≡ None
    lacked = by (kept_at m.name.0 g.map) refl
      where
        by : (x : Option (Option Shown)) → kept_at m.name.0 g.map ≡ x → kept_at m.name.0 g.map ≡ None
        by None q = q
        by (Some v) q = absurd (true≢false (sym (ap (has s.graph) k.named ∙ p.of m.name.0 v q) ∙ not-in))

    long : length rows ≡ length g.graph + 1
    long = length-append g.graph (row_of m ps ∷ [])

    front-of : (q : ℕ) → q < length g.graph → name_at rows q ≡ name_at g.graph q
    front-of q l = name-push g.graph (row_of m ps) q l

    last-named : name_at rows (length g.graph) ≡ snapshot_name orig
    last-named = name-last g.graph (row_of m ps) ∙ sym k.named

    keeps-more : KeepsAll wider
    keeps-more q l = by (nat_lt q (length g.graph)) refl
      where
        by : (b : Bool) → nat_lt q (length g.graph) ≡ b → IsSome (kept_at (name_at rows q) entries)
        by true e =
            let below : q < length g.graph = ltb-true q (length g.graph) e in
            subst (λ (n : Bytes). IsSome (kept_at n entries)) (sym (front-of q below)) (kept-longer (name_at g.graph q) g.map ((m.name.0, Some (shown_of c)) ∷ []) (p.keeps q below))
        by false e =
            let above : length g.graph ≤ q = ltb-false q (length g.graph) e in
            let here : length g.graph ≡ q = omega (arith, above, l, long) in
            subst (λ (n : Bytes). IsSome (kept_at n entries)) (sym (name-last g.graph (row_of m ps)) ∙ ap (name_at rows) here)
            (subst (λ (x : Option (Option Shown)). IsSome x) (sym (kept-append m.name.0 g.map ((m.name.0, Some (shown_of c)) ∷ []) lacked ∙ kept-new m.name.0 (Some (shown_of c)))) refl)

    of-more : AreOf (add s.graph orig) entries
    of-more n v e = by (kept_at n g.map) refl
      where
        here : (b : Bool) → same_bytes n m.name.0 ≡ b → cond b (Some (Some (shown_of c))) None ≡ Some v → has (add s.graph orig) n ≡ true
        here true q x = subst (λ (y : Bytes). has (add s.graph orig) y ≡ true) (k.named ∙ sym ((bytes_decides n m.name.0).0 q)) held-more.head
        here false q x = absurd (none-some v x)

        by : (x : Option (Option Shown)) → kept_at n g.map ≡ x → has (add s.graph orig) n ≡ true
        by None q = here (same_bytes n m.name.0) refl (sym (kept-append n g.map ((m.name.0, Some (shown_of c)) ∷ []) q) ∙ e)
        by (Some y) q = add-keeps s.graph orig n (p.of n y q)

    kept-more : (n : Bytes) → has (add s.graph orig) n ≡ true → known_at entries n ≡ known_at ((snapshot_name orig, Some (shown_of c)) ∷ s.known) n
    kept-more n h = by (has_name n orig) refl
      where
        by : (b : Bool) → has_name n orig ≡ b → known_at entries n ≡ known_at ((snapshot_name orig, Some (shown_of c)) ∷ s.known) n
        by true q =
            let same : n ≡ snapshot_name orig = (bytes_decides n (snapshot_name orig)).0 q in
            ap (known_at entries) (same ∙ k.named)
            ∙ ap (λ (x : Option (Option Shown)). unwrap_or x None) (kept-append m.name.0 g.map ((m.name.0, Some (shown_of c)) ∷ []) lacked ∙ kept-new m.name.0 (Some (shown_of c)))
            ∙ sym (ap (known_at ((snapshot_name orig, Some (shown_of c)) ∷ s.known)) same ∙ known-new (snapshot_name orig) (Some (shown_of c)) s.known)
        by false q =
            known-other n m.name.0 (Some (shown_of c)) g.map (ap (same_bytes n) (sym k.named) ∙ q)
            ∙ p.kept n (there-before s.graph orig n q h)
            ∙ sym (ap (λ b. unwrap_or (cond b (Some (Some (shown_of c))) (kept_at n s.known)) None) q)

    pub progress-more : IsProgress f os wider (length g.graph) (with_place es (snapshot_name c) (length g.graph)) (after s c orig)
    progress-more = record {
      ground = wider-ground;
      graph = wider-rows ∙ sym more-graph;
      keeps = keeps-more;
      of = of-more;
      kept = kept-more;
      known = held-more.known;
      each = held-more.entries;
      head_there = held-more.head;
      there = omega (arith, long);
      head = last-named;
      tree = λ r q.
          let same : row_of m ps ≡ r = same_Some (row_of m ps) r (sym (last-row g.graph (row_of m ps)) ∙ q) in
          ap (λ (x : Row). flat g.store x.tree) (sym same) ∙ k.stands.map;
      is_tree = held-more.tree;
      origins = origins-more g.graph rows os es s.known front-of p.origins p.within (snapshot_name orig) (shown_of c) (length g.graph) last-named (omega (arith, long)) (omega (arith, long));
      within = within-more g.graph rows os es s.known front-of p.origins p.within (snapshot_name orig) (shown_of c) (length g.graph) last-named (omega (arith, long)) (omega (arith, long));
    }

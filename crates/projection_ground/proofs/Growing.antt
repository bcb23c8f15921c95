-- What stays when a store and the tables grow.
use Rattle.std.proofs.Common.{◌≡◌, ℕ, zero, suc, ◌<◌, ◌≤◌, ◌+◌, ◌⊎◌, inl, inr, Bool, true, false, List, [], ◌∷◌, ◌++◌, length, slice_get, Some, None, cond, ◌||◌, true≢false, refl, sym, ap, subst, ◌∙◌, arith, append-nil, append_assoc, take}
use Rattle.std.specs.Option.{option_map}
use Rattle.std.proofs.lemmas.List.{length-append}
use Rattle.std.proofs.lemmas.Option.{none-some, same_Some, slice_get_within}
use Rattle.git_objects.specs.Commits.{Commit}
use Rattle.git_objects.specs.Paths.{Bytes}
use Rattle.git_objects.specs.CommitBodies.{commit_from}
use Rattle.git_objects.specs.declared.kind.Kind.TheVariants.{Tree, Commit as CommitKind}
use Rattle.object_store.specs.Objects.{Object, IsStore, has, body_of, is_named}
use Rattle.git_objects.specs.Snapshots.{Graph}
use Rattle.object_store.specs.Unfolding.{flat}
use Rattle.object_store.specs.Growth.{IsGrownBy}
use Rattle.object_store.specs.StoredSnapshots.{IsTreeOf, commit_named, snapshot_of}
use Rattle.object_store.proofs.Growth.{grown_self, grown_then, grown_as, has-grown, flat-grown}
use Rattle.path_trees.proofs.Grown.{body-above}
use Rattle.commit_map.specs.Shown.{Entries}
use Rattle.commit_map.specs.declared.rule.Rule.{Rule}
use Rattle.commit_graph.specs.Graphs.{Row}
use Rattle.filter_text.specs.Filters.{Filter, same_filter}
use Rattle.filter_text.specs.Shapes.{shape}
use Rattle.filter_text.proofs.Equals.{filter-equal}
use Rattle.filter_routes.specs.Interned.{HasAt, HasNone, Interns}
use Rattle.filter_routes.specs.TableValues.{Table}
use Rattle.filter_routes.proofs.Interning.{other-at}
use Rattle.filter_cache.specs.Memos.{Memo}
use Rattle.filter_apply.specs.Truth.{IsTrueFor, AreTrueFor}
use Rattle.projection_laws.specs.StoredGraphs.{IsRowIn, IsGraphIn, graph_of, snapshot_named}
use Rattle.projection_laws.proofs.HistoryLemmas.{each-map}
use Rattle.projection_laws.proofs.StoredGraphs.{at-row, older-suc, older-all, row-at}
use Rattle.projection_ground.specs.Grounds.{IsGround, commits_of, AreInFront, Extends}
use Rattle.projection_ground.specs.TrueMaps.{AreHeld, AreTrueMaps, IsTrueMap}
use Rattle.projection_ground.specs.declared.ground.Ground.{Ground}
use Rattle.projection_ground.specs.declared.true_maps.TrueMap.{TrueMap}

-- ---- the store

module _ {made : Object → Type 0} (S T : List Object) (g : IsGrownBy made S T) where
  pub commit-grown : (n : Bytes) → has CommitKind S n ≡ true → commit_named T n ≡ commit_named S n
  commit-grown n h =
      ap commit_from (subst (λ (R : List Object). body_of CommitKind R n ≡ body_of CommitKind S n) g.above (body-above g.newer S CommitKind n (subst IsStore (sym g.above) g.store) h))

  row-grown : (rows : List Row) (r : Row) → IsRowIn S rows r → IsRowIn T rows r
  row-grown rows r w = record {
    commit = w.commit;
    held = has-grown S T CommitKind r.name g w.held;
    named = commit-grown r.name w.held ∙ w.named;
    tree = w.tree;
    parents = w.parents;
    tree_held = has-grown S T Tree r.tree g w.tree_held;
  }

  pub graph-grown : (rows : List Row) → IsGraphIn S rows → IsGraphIn T rows
  graph-grown rows w = record { store = g.store; graph = w.graph; each = λ i r e. row-grown rows r (w.each i r e) }

  pub snapshot-grown : (rows : List Row) (r : Row) → IsRowIn S rows r → snapshot_named T r.name ≡ snapshot_named S r.name
  snapshot-grown rows r w =
      ap (option_map (snapshot_of T)) (commit-grown r.name w.held ∙ w.named)
      ∙ ap Some (let tree : flat T w.commit.tree ≡ flat S w.commit.tree = ap (flat T) w.tree ∙ flat-grown S T r.tree g w.tree_held ∙ ap (flat S) (sym w.tree) in λ i. record { tree = tree i; parents = w.commit.parents; letter = w.commit.letter })
      ∙ sym (ap (option_map (snapshot_of S)) w.named)

  pub older-grown : (rows : List Row) (w : IsGraphIn S rows) (k : ℕ) → k ≤ length rows → graph_of T (take k rows) ≡ graph_of S (take k rows)
  unfolding graph_of
  older-grown rows w zero l = refl
  older-grown rows w (suc k) l =
      let r = row-at S rows w k (omega (arith, l)) in
      let a = at-row S rows w k r.0 r.1 in
      let v = graph-grown rows w in
      let b = at-row T rows v k r.0 r.1 in
      let same : b.0 ≡ a.0 = same_Some b.0 a.0 (sym b.1.found ∙ snapshot-grown rows r.0 (w.each k r.0 r.1) ∙ a.1.found) in
      older-suc T rows v k r.0 b.0 r.1 b.1
      ∙ (λ i. same i ∷ older-grown rows w k (omega (arith, l)) i)
      ∙ sym (older-suc S rows w k r.0 a.0 r.1 a.1)

  pub graph-same : (rows : List Row) → IsGraphIn S rows → graph_of T rows ≡ graph_of S rows
  graph-same rows w =
      sym (older-all T rows (graph-grown rows w)) ∙ older-grown rows w (length rows) (omega arith) ∙ older-all S rows w

-- ---- true maps

no-body : (S : List Object) (n : Bytes) → has CommitKind S n ≡ false → commit_named S n ≡ None
unfolding has body_of commit_from
no-body [] n h = refl
no-body (o ∷ S) n h =
    elim (is_named CommitKind o n) as (λ b. (b || has CommitKind S n) ≡ false → commit_from (cond b o.body (body_of CommitKind S n)) ≡ None) [
      | true ↦ λ e. absurd (true≢false e)
      | false ↦ λ e. no-body S n e
    ] h

-- what reads as a commit is one
pub commit-there : (S : List Object) (n : Bytes) (c : Commit) → commit_named S n ≡ Some c → has CommitKind S n ≡ true
commit-there S n c e = by (has CommitKind S n) refl
  where
    by : (b : Bool) → has CommitKind S n ≡ b → b ≡ true
    by true h = refl
    by false h = absurd (none-some c (sym (no-body S n h) ∙ e))

pub tree-of-grown : {made : Object → Type 0} (S T : List Object) (n t : Bytes) → IsGrownBy made S T → IsTreeOf S n t → IsTreeOf T n t
tree-of-grown S T n t g w = record {
  commit = w.commit;
  named = commit-grown S T g n (commit-there S n w.commit w.named) ∙ w.named;
  tree = w.tree;
  held = has-grown S T Tree t g w.held;
}

pub held-grown : {made : Object → Type 0} (S T : List Object) (es : Entries) → IsGrownBy made S T → AreHeld S es → AreHeld T es
held-grown S T es g h = λ n m e. tree-of-grown S T m.commit m.tree g (h n m e)

pub true-map-grown : {made : Object → Type 0} (S T : List Object) (g : Graph) (k : Rule) (f : Filter) (es : Entries) → IsGrownBy made S T → IsTrueMap S g k f es → IsTrueMap T g k f es
true-map-grown S T g k f es a w = record { of = w.of; values = w.values; held = held-grown S T es a w.held }

-- the true maps of a graph's commits in a store that has grown
pub maps-grown : {made : Object → Type 0} (S T : List Object) → IsGrownBy made S T → (rows : List Row) → IsGraphIn S rows → (ms : List TrueMap) → AreTrueMaps S (graph_of S rows) ms → AreTrueMaps T (graph_of T rows) ms
maps-grown S T a rows w ms h =
    subst (λ (x : Graph). AreTrueMaps T x ms) (sym (graph-same S T a rows w))
    (each-map (λ m. IsTrueMap S (graph_of S rows) m.rule (shape m.filter) m.map) (λ m. IsTrueMap T (graph_of S rows) m.rule (shape m.filter) m.map)
    (λ m x. true-map-grown S T (graph_of S rows) m.rule (shape m.filter) m.map a x) ms h)

-- ---- the tables

find-number : (ts : List Table) (f : Filter) → ((n : ℕ) × HasAt ts f n) ⊎ HasNone ts f
find-number [] f = inr (λ n h. none-some h.0 h.1)
find-number (t ∷ ts) f = by (same_filter (shape t.filter) f) refl (find-number ts f)
  where
    none : same_filter (shape t.filter) f ≡ false → HasNone ts f → HasNone (t ∷ ts) f
    none e h zero k = other-at (t ∷ ts) zero t f refl e k
    none e h (suc n) k = h n k

    by : (b : Bool) → same_filter (shape t.filter) f ≡ b → ((n : ℕ) × HasAt ts f n) ⊎ HasNone ts f → ((n : ℕ) × HasAt (t ∷ ts) f n) ⊎ HasNone (t ∷ ts) f
    by true e o = inl (0, (t, refl, filter-equal (shape t.filter) f e))
    by false e (inl h) = inl (suc h.0, h.1)
    by false e (inr h) = inr (none e h)

pub interned-front : (old new : List Table) (f : Filter) (n : ℕ) → Interns old new f n → AreInFront old new
interned-front old new f n h = elim (find-number old f) as (λ o. AreInFront old new) [
  | inl m ↦ ([], append-nil old ∙ sym (h.known m.0 m.1))
  | inr m ↦ let w = h.fresh m in (w.1.0 ∷ [], sym w.1.1)
]

pub front-self : (ts : List Table) → AreInFront ts ts
front-self ts = ([], append-nil ts)

front-then : (ts us vs : List Table) → AreInFront ts us → AreInFront us vs → AreInFront ts vs
front-then ts us vs a b = (a.0 ++ b.0, sym (append_assoc ts a.0 b.0) ∙ ap (λ (xs : List Table). xs ++ b.0) a.1 ∙ b.1)

get-front : (ts more : List Table) (n : ℕ) (t : Table) → slice_get ts n ≡ Some t → slice_get (ts ++ more) n ≡ Some t
get-front [] more n t e = absurd (none-some t e)
get-front (x ∷ ts) more zero t e = e
get-front (x ∷ ts) more (suc n) t e = get-front ts more n t e

get-within : (ts more : List Table) (n : ℕ) → n < length ts → slice_get (ts ++ more) n ≡ slice_get ts n
get-within [] more n l = absurd (omega (arith, l))
get-within (x ∷ ts) more zero l = refl
get-within (x ∷ ts) more (suc n) l = get-within ts more n (omega (arith, l))

pub has-front : (ts us : List Table) (f : Filter) (n : ℕ) → AreInFront ts us → HasAt ts f n → HasAt us f n
has-front ts us f n a h = (h.0, subst (λ (vs : List Table). slice_get vs n ≡ Some h.0) a.1 (get-front ts a.0 n h.0 h.1), h.2)

pub has-within : (ts : List Table) (f : Filter) (n : ℕ) → HasAt ts f n → n < length ts
has-within ts f n h = slice_get_within ts n h.0 h.1

-- ---- the memo

pub true-tables : (S : List Object) (ts us : List Table) (memo : Memo) → AreInFront ts us → AreTrueFor S ts memo → AreTrueFor S us memo
true-tables S ts us memo a h = record {
  each = λ n t e. record {
    whole = λ tree shown held. (at-front n t e (h.within n 0 tree shown held)).whole tree shown held;
    routes = λ i tree shown held. (at-front n t e (h.within n (i + 1) tree shown held)).routes i tree shown held;
    joins = h.joins;
  };
  within = λ n part tree shown held.
      let l : n < length ts = h.within n part tree shown held in
      let q : length us ≡ length ts + length a.0 = ap length (sym a.1) ∙ length-append ts a.0 in
      omega (arith, l, q);
  joins = h.joins;
}
  where
    at-front : (n : ℕ) (t : Table) → slice_get us n ≡ Some t → n < length ts → IsTrueFor S t n memo
    at-front n t e l = h.each n t (sym (get-within ts a.0 n l) ∙ subst (λ (vs : List Table). slice_get vs n ≡ Some t) (sym a.1) e)

-- ---- grounds

pub extends-self : (made : Object → Type 0) (g : Ground) → IsGround g → Extends made g g
extends-self made g h = record { graph = refl; rule = refl; tables = front-self g.tables; store = grown_self made g.store h.graph.store; ground = h }

pub extends-then : (made : Object → Type 0) (f g h : Ground) → Extends made f g → Extends made g h → Extends made f h
extends-then made f g h a b = record {
  graph = b.graph ∙ a.graph;
  rule = b.rule ∙ a.rule;
  tables = front-then f.tables g.tables h.tables a.tables b.tables;
  store = grown_then made f.store g.store h.store a.store b.store;
  ground = b.ground;
}

pub extends-as : (made more : Object → Type 0) (g h : Ground) → ((o : Object) → made o → more o) → Extends made g h → Extends more g h
extends-as made more g h f a = record { graph = a.graph; rule = a.rule; tables = a.tables; store = grown_as made more g.store h.store f a.store; ground = a.ground }

-- with other kept projections
pub extends-map : (made : Object → Type 0) (g h : Ground) (es : Entries) → Extends made g h → Extends made g (record h { map = es })
extends-map made g h es a = record { graph = a.graph; rule = a.rule; tables = a.tables; store = a.store; ground = record { graph = a.ground.graph; memo = a.ground.memo; maps = a.ground.maps } }

-- the ground with more tables
pub ground-tables : (made : Object → Type 0) (g : Ground) (ts : List Table) → IsGround g → AreInFront g.tables ts → Extends made g (record g { tables = ts })
ground-tables made g ts h a = record {
  graph = refl;
  rule = refl;
  tables = a;
  store = grown_self made g.store h.graph.store;
  ground = record { graph = h.graph; memo = true-tables g.store g.tables ts g.memo a h.memo; maps = h.maps };
}

-- the commits are as they were
pub commits-same : (made : Object → Type 0) (g h : Ground) → IsGround g → Extends made g h → commits_of h ≡ commits_of g
commits-same made g h w a = ap (graph_of h.store) a.graph ∙ graph-same g.store h.store a.store g.graph w.graph

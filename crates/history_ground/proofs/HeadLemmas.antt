-- What is shown of a head.
use Rattle.std.proofs.Common.{◌≡◌, inl, inr, ℕ, true, List, [], ◌∷◌, length, slice_get, Contains, Option, Some, None, IfSome, IfOk, IfErr, Result, Ok, Err, IsSome, refl, sym, ap, subst, ◌∙◌, arith}
use Rattle.std.specs.Option.{option_map, option_map_or}
use Rattle.git_objects.specs.Names.{tree_name}
use Rattle.git_objects.specs.Paths.{Bytes}
use Rattle.git_objects.specs.Snapshots.{Snapshot, Graph, commit_at, tree_at}
use Rattle.git_objects.specs.Trees.{Flat}
use Rattle.git_objects.specs.declared.kind.Kind.TheVariants.{Tree, Commit as CommitKind}
use Rattle.git_objects.specs.declared.name.Name.{Name}
use Rattle.object_store.specs.Objects.{Object, IsStore, has}
use Rattle.object_store.specs.StoredSnapshots.{IsTreeOf}
use Rattle.object_store.specs.Unfolding.{StandsFor, flat}
use Rattle.object_store.proofs.Growth.{flat-grown, has-grown}
use Rattle.object_store.proofs.Unfolding.{unfolding_law}
use Rattle.commit_graph.specs.Graphs.{Row, place_of}
use Rattle.commit_map.specs.Shown.{Entries, Shown, shown_value}
use Rattle.commit_map.specs.declared.rule.Rule.{Rule}
use Rattle.commit_map.specs.declared.commit_map.Shown as code
use Rattle.filter_text.specs.Filters.{Filter}
use Rattle.filter_apply.specs.Faults.{IsApplyFault}
use Rattle.filter_apply.specs.declared.fault.ApplyError.{ApplyError}
use Rattle.workspace.specs.Workspaces.{resolve, shown}
use Rattle.projection_laws.specs.ProjectionLaws.{IsOf}
use Rattle.projection_laws.specs.Projections.{history_graph, own_commits, projection}
use Rattle.projection_laws.proofs.GraphLemmas.{found}
use Rattle.projection_laws.proofs.ProjectionLemmas.{projection-of}
use Rattle.projection_laws.proofs.Reached.{commit-older}
use Rattle.projection_laws.proofs.StoredGraphs.{at-row, name-is, older-all, row-at}
use Rattle.projection_ground.specs.Asked.{IsNone, IsShownBy}
use Rattle.projection_ground.specs.Grounds.{IsGround, Extends, IsShownOf, commits_of}
use Rattle.history_ground.specs.Heads.{IsSeen, IsSeenObject}
use Rattle.projection_ground.specs.TrueMaps.{IsTrueMap}
use Rattle.projection_ground.specs.declared.ground.Ground.{Ground}
use Rattle.projection_ground.proofs.Asking.{shown-behind, shown-is}
use Rattle.projection_ground.proofs.Growing.{commits-same, extends-as, extends-then, true-map-grown}
use Rattle.history_ground.proofs.ProjectLemmas.{head-there, place-named, place-within}
use Rattle.history_ground.proofs.TakenTurns.{fault-as}
use Rattle.projection_ground.proofs.TurnLemmas.{seen-fault, seen-same, tree-held}

-- ---- the commit

module _ (g : Ground) (n : Bytes) (place : ℕ) (w : IsGround g) (e : Some place ≡ place_of n g.graph) where
  pub head-has : has CommitKind g.store n ≡ true
  head-has =
      let r = row-at g.store g.graph w.graph place (place-within n g.graph place e) in
      let a = at-row g.store g.graph w.graph place r.0 r.1 in
      ap (has CommitKind g.store) (sym (place-named n g.graph place e) ∙ name-is g.store g.graph w.graph place r.0 r.1) ∙ a.1.held

  module _ (tree : Bytes) (h : IfSome (slice_get g.graph place) (λ r. tree ≡ r.tree)) where
    pub head-tree-has : has Tree g.store tree ≡ true
    head-tree-has = tree-held g place tree w (place-within n g.graph place e) h

    pub head-tree : tree_at (commits_of g) n ≡ flat g.store tree
    head-tree =
        let l = place-within n g.graph place e in
        let r = row-at g.store g.graph w.graph place l in
        let a = at-row g.store g.graph w.graph place r.0 r.1 in
        let named : n ≡ r.0.name = sym (place-named n g.graph place e) ∙ name-is g.store g.graph w.graph place r.0 r.1 in
        let found : commit_at (commits_of g) r.0.name ≡ Some a.0 = ap (λ (x : Graph). commit_at x r.0.name) (sym (older-all g.store g.graph w.graph)) ∙ commit-older g.store g.graph w.graph (length g.graph) (omega arith) place r.0 a.0 r.1 l a.1 in
        let same : tree ≡ r.0.tree = subst (λ o. IfSome o (λ (x : Row). tree ≡ x.tree)) r.1 h in
        ap (λ (m : Bytes). tree_at (commits_of g) m) named
        ∙ ap (λ (o : Option Snapshot). option_map_or (λ (c : Snapshot). c.tree) o []) found
        ∙ sym (ap (flat g.store) same ∙ a.1.tree)

-- ---- its tree, behind more tables

module _ (f : Filter) (g h k : Ground) (n : Bytes) (place : ℕ) (w : IsGround g) (e : Some place ≡ place_of n g.graph) (root : Bytes) (t : IfSome (slice_get g.graph place) (λ r. root ≡ r.tree))
    (a : Extends IsNone g h) (m : h.map ≡ g.map) where
  pub root-held : has Tree h.store root ≡ true
  root-held = has-grown g.store h.store Tree root a.store (head-tree-has g n place w e root t)

  module _ (r : Result Name ApplyError) (s : IsShownBy (resolve f (flat h.store root)) root h k r) where
    behind : IsShownBy (resolve f (flat g.store root)) root g k r
    behind =
        let there : has Tree g.store root ≡ true = head-tree-has g n place w e root t in
        shown-behind (resolve f (flat g.store root)) root g h k r there a m
        (subst (λ (u : Flat). IsShownBy (resolve f u) root h k r) (flat-grown g.store h.store root a.store there) s)

    pub head-shown : IfOk r (λ x. StandsFor k.store x.0 (shown f (tree_at (commits_of g) n)))
    head-shown =
        subst (λ (u : Flat). IfOk r (λ (x : Name). StandsFor k.store x.0 u)) (sym (shown-is f (flat g.store root)) ∙ ap (shown f) (sym (head-tree g n place w e root t))) behind.ok

    pub head-map : k.map ≡ g.map
    head-map = behind.map

    pub head-same : Extends (IsShownOf f (commits_of g)) g k
    head-same = seen-same f g k place root r w (place-within n g.graph place e) t behind

    pub head-fault : IfErr r (IsApplyFault (IsShownOf f (commits_of g)) k.store)
    head-fault = by r refl
      where
        by : (x : Result Name ApplyError) → r ≡ x → IfErr x (IsApplyFault (IsShownOf f (commits_of g)) k.store)
        by (Ok y) q = tt
        by (Err y) q = seen-fault f g k place root r w (place-within n g.graph place e) t behind y q

-- ---- one call after another

module _ (f : Filter) (g : Ground) (n : Bytes) (w : IsGround g) where
  tree-object : (o : Object) → IsShownOf f (commits_of g) o → IsSeenObject f g n o
  tree-object o x = inl (inl x)

  pub trees : (h : Ground) → Extends (IsShownOf f (commits_of g)) g h → Extends (IsSeenObject f g n) g h
  trees h a = extends-as (IsShownOf f (commits_of g)) (IsSeenObject f g n) g h tree-object a

  pub trees-fault : (S : List Object) (e : ApplyError) → IsApplyFault (IsShownOf f (commits_of g)) S e → IsApplyFault (IsSeenObject f g n) S e
  trees-fault S e x = fault-as (IsShownOf f (commits_of g)) (IsSeenObject f g n) S tree-object e x

  module _ (h : Ground) (a : Extends (IsSeenObject f g n) g h) where
    commits : commits_of h ≡ commits_of g
    commits = commits-same (IsSeenObject f g n) g h w a

    pub head-still : IsSome (place_of n g.graph) → IsSome (place_of n h.graph)
    head-still x = subst (λ (rows : List Row). IsSome (place_of n rows)) (sym a.graph) x

    -- trees that are shown of the same commits
    tree-more : (o : Object) → IsShownOf f (commits_of h) o → IsSeenObject f g n o
    tree-more o x = tree-object o (subst (λ (y : Graph). IsShownOf f y o) commits x)

    pub more-trees : (k : Ground) → Extends (IsShownOf f (commits_of h)) h k → Extends (IsSeenObject f g n) g k
    more-trees k b = extends-then (IsSeenObject f g n) g h k a (extends-as (IsShownOf f (commits_of h)) (IsSeenObject f g n) h k tree-more b)

    pub more-trees-fault : (S : List Object) (e : ApplyError) → IsApplyFault (IsShownOf f (commits_of h)) S e → IsApplyFault (IsSeenObject f g n) S e
    more-trees-fault S e x = fault-as (IsShownOf f (commits_of h)) (IsSeenObject f g n) S tree-more e x

    -- what projecting the same commits makes
    seen-more : (o : Object) → IsSeenObject f h n o → IsSeenObject f g n o
    seen-more o (inl (inl x)) = tree-more o x
    seen-more o (inl (inr x)) =
        let still : history_graph h.rule (shown f) (commits_of h) n ≡ history_graph g.rule (shown f) (commits_of g) n = λ i. history_graph (a.rule i) (shown f) (commits i) n in
        inl (inr (x.0, subst (λ (y : Graph). Contains y x.0) still x.1, x.2))
    seen-more o (inr x) =
        let still : own_commits h.rule (shown f) (commits_of h) (n ∷ []) ≡ own_commits g.rule (shown f) (commits_of g) (n ∷ []) = λ i. own_commits (a.rule i) (shown f) (commits i) (n ∷ []) in
        inr (x.0, subst (λ (y : List Snapshot). Contains y x.0) still x.1, x.2)

    pub more-seen : (k : Ground) → Extends (IsSeenObject f h n) h k → Extends (IsSeenObject f g n) g k
    more-seen k b = extends-then (IsSeenObject f g n) g h k a (extends-as (IsSeenObject f h n) (IsSeenObject f g n) h k seen-more b)

    pub more-seen-fault : (S : List Object) (e : ApplyError) → IsApplyFault (IsSeenObject f h n) S e → IsApplyFault (IsSeenObject f g n) S e
    more-seen-fault S e x = fault-as (IsSeenObject f h n) (IsSeenObject f g n) S seen-more e x

    -- a map of projections of the same commits
    pub more-map : (S : List Object) (es : Entries) → IsTrueMap S (commits_of h) h.rule f es → IsTrueMap S (commits_of g) g.rule f es
    more-map S es t = subst (λ (k : Rule). IsTrueMap S (commits_of g) k f es) a.rule (subst (λ (y : Graph). IsTrueMap S y h.rule f es) commits t)

    pub still-map : (es : Entries) → IsTrueMap g.store (commits_of g) g.rule f es → IsTrueMap h.store (commits_of h) h.rule f es
    still-map es t =
        subst (λ (k : Rule). IsTrueMap h.store (commits_of h) k f es) (sym a.rule)
        (subst (λ (y : Graph). IsTrueMap h.store y g.rule f es) (sym commits) (true-map-grown g.store h.store (commits_of g) g.rule f es a.store t))

-- ---- the commit that it is projected to

module _ (f : Filter) (g : Ground) (n : Bytes) (w : IsGround g) (there : IsSome (place_of n g.graph)) where
  pub seen-none : (S : List Object) (tree : Name) → None ≡ projection g.rule (shown f) (commits_of g) n → StandsFor S tree.0 (shown f (tree_at (commits_of g) n)) → IsSeen f g n S (record { from = None; tree = tree })
  seen-none S tree p s = record { projected = ap (option_map (λ (x : Shown). x.commit)) p; stands = s; there = tt }

  module _ (S : List Object) (x : code.Shown) (p : Some (shown_value x) ≡ projection g.rule (shown f) (commits_of g) n) where
    -- its tree is what is shown of the head
    tree-named : x.tree.0 ≡ tree_name (shown f (tree_at (commits_of g) n))
    tree-named =
        let c = found (commits_of g) n (head-there g n w there) in
        let at : tree_at (commits_of g) n ≡ c.0.tree = ap (λ (o : Option Snapshot). option_map_or (λ (d : Snapshot). d.tree) o []) c.1 in
        let of : x.tree.0 ≡ tree_name (shown f c.0.tree) = subst (IsOf (shown f c.0.tree)) (sym p) (projection-of g.rule (shown f) (commits_of g) n c.0 c.1) in
        of ∙ ap (λ (t : Flat). tree_name (shown f t)) (sym at)

    pub seen-some : (tree : Name) → IsStore S → StandsFor S tree.0 (shown f (tree_at (commits_of g) n)) → IsTreeOf S x.commit.0 x.tree.0 → IsSeen f g n S (record { from = Some x.commit; tree = tree })
    seen-some tree store s t = record {
      projected = ap (option_map (λ (y : Shown). y.commit)) p;
      stands = s;
      there = subst (IsTreeOf S x.commit.0) (tree-named ∙ ap tree_name (sym s.map) ∙ (unfolding_law S tree.0 store s.held).named) t;
    }

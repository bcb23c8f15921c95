-- The projections of all commits of a graph, one after another.
use Rattle.std.proofs.Common.{◌≡◌, ◌⊎◌, inl, inr, ℕ, zero, suc, ◌+◌, ◌<◌, ◌≤◌, Bool, true, false, cond, ◌||◌, true≢false, add-one, arith, List, [], ◌∷◌, ◌++◌, length, map, reverse, slice_get, Contains, Option, Some, None, IfSome, IsSome, refl, sym, ap, subst, ◌∙◌}
use Rattle.std.specs.List.{list_any}
use Rattle.std.specs.Option.{option_map, option_to_list}
use Rattle.std.specs.Cmp.Lexicographic.{bytes_decides}
use Rattle.std.proofs.lemmas.List.{length-append}
use Rattle.std.proofs.lemmas.List.Elements.{Contains-append_cases, Contains-append_left, Contains-append_right}
use Rattle.git_objects.specs.Lists.{Each}
use Rattle.git_objects.specs.Paths.{Bytes, same_bytes}
use Rattle.git_objects.specs.Snapshots.{Snapshot, Graph, snapshot_name, add, add_all, has, has_name, is_graph, is_wanted, wanted_below}
use Rattle.git_objects.specs.Snapshots as snapshots
use Rattle.git_objects.specs.Trees.{Flat}
use Rattle.object_store.specs.Objects.{Object}
use Rattle.object_store.specs.StoredSnapshots.{IsTreeOf, snapshot_object}
use Rattle.commit_graph.specs.Graphs.{Row, place_of}
use Rattle.commit_graph.proofs.Places.{absent}
use Rattle.commit_map.specs.Shown.{Entries, Shown, shown_value}
use Rattle.commit_map.specs.declared.commit_map.Shown as code
use Rattle.commit_map.specs.declared.rule.Rule.{Rule}
use Rattle.filter_apply.specs.Faults.{IsApplyFault}
use Rattle.filter_apply.specs.declared.fault.ApplyError.{ApplyError}
use Rattle.filter_text.specs.Filters.{Filter}
use Rattle.workspace.specs.Workspaces.{shown}
use Rattle.projection_laws.specs.Projections.{choice_of, own_commit, own_commits, projected, projection, projection_by, projections}
use Rattle.projection_laws.specs.StoredGraphs.{name_at, graph_of}
use Rattle.projection_laws.proofs.HistoryLemmas.{any-behind, any-append, reverse-more}
use Rattle.projection_laws.proofs.StoredGraphs.{at-row, name-is, older-all, older-suc, row-at, split-at, whole-graph}
use Rattle.projection_ground.specs.Asked.{IsNone}
use Rattle.projection_ground.specs.Choosing.{commits_before}
use Rattle.projection_ground.specs.Grounds.{Extends, IsGround, IsShownOf, commits_of}
use Rattle.projection_ground.specs.TrueMaps.{IsTrueMap}
use Rattle.projection_ground.specs.declared.ground.Ground.{Ground}
use Rattle.projection_ground.proofs.Asking.{extends-none}
use Rattle.projection_ground.proofs.Filling.{projection-at}
use Rattle.projection_ground.proofs.Growing.{commits-same, extends-as, extends-self, extends-then, tree-of-grown}
use Rattle.history_ground.specs.Heads.{IsSeenObject}
use Rattle.history_ground.specs.Origins.{AreFirsts, First, Firsts, IsProjected, IsProjectionObject, first_at, is_shown_by, with_first}
use Rattle.history_ground.specs.TrueWalks.{IsMade, IsTrueWalk}
use Rattle.history_ground.proofs.FirstLookups.{AreFirstIn, each-with, firsts-more, firsts-still}
use Rattle.history_ground.proofs.TakenTurns.{fault-as}
use Rattle.history_ground.proofs.TrueHeads.{tables-still}
use Rattle.history_ground.proofs.Waiting.{has-named}

-- ---- what projecting one commit makes, projecting all makes too

pub nothing-in : {A : Type 0} (x : A) → Contains [] x → ⊥
nothing-in x y = let l : y.0 < 0 = y.1 in absurd (omega (arith, l))

module _ (k : Rule) (s : Flat → Flat) where
  -- the commit of its own that the newest one becomes, if it does
  abbrev newest : Graph → Snapshot → List Snapshot
  newest older c = option_to_list (own_commit (choice_of k s older (projections k s [] older) c))

  -- of more commits more become their own
  own-more : (g : Graph) (vs ws : List Bytes) → ((n : Bytes) → list_any (same_bytes n) vs ≡ true → list_any (same_bytes n) ws ≡ true) → (d : Snapshot) → Contains (own_commits k s g vs) d → Contains (own_commits k s g ws) d
  own-more [] vs ws up d h = h
  own-more (c ∷ older) vs ws up d h =
      elim (Contains-append_cases (own_commits k s older (wanted_below vs c)) (cond (is_wanted vs c) (newest older c) []) d h) [
        | inl x ↦ Contains-append_left (own_commits k s older (wanted_below ws c)) (cond (is_wanted ws c) (newest older c) []) d (own-more older (wanted_below vs c) (wanted_below ws c) below d x)
        | inr x ↦ Contains-append_right (own_commits k s older (wanted_below ws c)) (cond (is_wanted ws c) (newest older c) []) d (here (is_wanted vs c) refl x)
      ]
    where
      here : (b : Bool) → is_wanted vs c ≡ b → Contains (cond b (newest older c) []) d → Contains (cond (is_wanted ws c) (newest older c) []) d
      here true e x = subst (λ b. Contains (cond b (newest older c) []) d) (sym (up (snapshot_name c) e)) x
      here false e x = absurd (nothing-in d x)

      below : (n : Bytes) → list_any (same_bytes n) (wanted_below vs c) ≡ true → list_any (same_bytes n) (wanted_below ws c) ≡ true
      below n x = by (is_wanted vs c) refl x
        where
          -- in what is wanted below, whether or not the commit is
          behind : (b : Bool) → list_any (same_bytes n) ws ≡ true → list_any (same_bytes n) (cond b (c.parents ++ ws) ws) ≡ true
          behind true y = any-behind (same_bytes n) c.parents ws y
          behind false y = y

          either : (p q r : Bool) → (p || q) ≡ true → (q ≡ true → r ≡ true) → (p || r) ≡ true
          either true q r y f = refl
          either false q r y f = f y

          by : (b : Bool) → is_wanted vs c ≡ b → list_any (same_bytes n) (cond b (c.parents ++ vs) vs) ≡ true → list_any (same_bytes n) (wanted_below ws c) ≡ true
          by true e y =
              subst (λ b. list_any (same_bytes n) (cond b (c.parents ++ ws) ws) ≡ true) (sym (up (snapshot_name c) e))
              (any-append (same_bytes n) c.parents ws
              ∙ either (list_any (same_bytes n) c.parents) (list_any (same_bytes n) vs) (list_any (same_bytes n) ws) (sym (any-append (same_bytes n) c.parents vs) ∙ y) (up n))
          by false e y = behind (is_wanted ws c) (up n y)

-- the commits of a graph that was added to
pub added-from : (cs : List Snapshot) (g : Graph) (d : Snapshot) → Contains (add_all g cs) d → Contains g d ⊎ Contains cs d
added-from [] g d h = inl h
added-from (c ∷ cs) g d h =
    elim (added-from cs (add g c) d h) [
      | inl x ↦ one (snapshots.has g (snapshot_name c)) x
      | inr x ↦ inr (Contains-append_right (c ∷ []) cs d x)
    ]
  where
    one : (b : Bool) → Contains (cond b g (c ∷ g)) d → Contains g d ⊎ Contains (c ∷ cs) d
    one true x = inl x
    one false x = elim (Contains-append_cases (c ∷ []) g d x) [ inl y ↦ inr (Contains-append_left (c ∷ []) cs d y) | inr y ↦ inl y ]

-- a graph's commits are among their names
among-names : (g : Graph) (n : Bytes) → has g n ≡ true → list_any (same_bytes n) (map snapshot_name g) ≡ true
among-names [] n h = h
among-names (c ∷ g) n h = by (has_name n c) h (among-names g n)
  where
    by : (b : Bool) → (b || has g n) ≡ true → (has g n ≡ true → list_any (same_bytes n) (map snapshot_name g) ≡ true) → (b || list_any (same_bytes n) (map snapshot_name g)) ≡ true
    by true e f = refl
    by false e f = f e

one-of : (m n : Bytes) (ws : List Bytes) → list_any (same_bytes n) ws ≡ true → list_any (same_bytes m) (n ∷ []) ≡ true → list_any (same_bytes m) ws ≡ true
one-of m n ws h e = by (same_bytes m n) refl e
  where
    by : (b : Bool) → same_bytes m n ≡ b → (b || false) ≡ true → list_any (same_bytes m) ws ≡ true
    by true q x = ap (λ (j : Bytes). list_any (same_bytes j) ws) ((bytes_decides m n).0 q) ∙ h
    by false q x = absurd (true≢false (sym x))

-- the commits of their own that a commit and its ancestors become are among those that all commits become
pub own-of-all : (k : Rule) (s : Flat → Flat) (g : Graph) (n : Bytes) → has g n ≡ true → (d : Snapshot) → Contains (own_commits k s g (n ∷ [])) d → Contains (own_commits k s g (map snapshot_name g)) d
own-of-all k s g n there d m = own-more k s g (n ∷ []) (map snapshot_name g) (λ j. one-of j n (map snapshot_name g) (among-names g n there)) d m

module _ (f : Filter) (g : Ground) (n : Bytes) (there : has (commits_of g) n ≡ true) where
  own-all : (d : Snapshot) → Contains (own_commits g.rule (shown f) (commits_of g) (n ∷ [])) d → Contains (own_commits g.rule (shown f) (commits_of g) (map snapshot_name (commits_of g))) d
  own-all = own-of-all g.rule (shown f) (commits_of g) n there

  seen-projection : (o : Object) → IsSeenObject f g n o → IsProjectionObject f g o
  seen-projection o (inl (inl x)) = inl x
  seen-projection o (inl (inr x)) =
      inr (x.0, own-all x.0 (elim (added-from (own_commits g.rule (shown f) (commits_of g) (n ∷ [])) [] x.0 x.1) [ inl y ↦ absurd (nothing-in x.0 y) | inr y ↦ y ]), x.2)
  seen-projection o (inr x) = inr (x.0, own-all x.0 x.1, x.2)

-- ---- what the commits before a place are projected to

pub place-there : (rows : List Row) (n : Bytes) (i : ℕ) (r : Row) → slice_get rows i ≡ Some r → r.name ≡ n → IsSome (place_of n rows)
place-there rows n i r e q = by (place_of n rows) refl
  where
    by : (o : Option ℕ) → place_of n rows ≡ o → IsSome o
    by (Some j) h = refl
    by None h = absurd (true≢false (sym ((bytes_decides r.name n).1 q) ∙ absent (λ (s : Row). same_bytes s.name n) rows h i r e))

-- the oldest first
abbrev pub entries_before : Filter → Ground → ℕ → Entries
entries_before f g p = reverse (projections g.rule (shown f) [] (commits_before g p))

module _ (f : Filter) (g : Ground) (w : IsGround g) where
  entries-none : entries_before f g 0 ≡ []
  unfolding graph_of
  entries-none = refl

  entries-all : entries_before f g (length g.graph) ≡ reverse (projections g.rule (shown f) [] (commits_of g))
  entries-all = ap (λ (y : Graph). reverse (projections g.rule (shown f) [] y)) (older-all g.store g.graph w.graph)

  entries-more : (p : ℕ) → p < length g.graph → entries_before f g (p + 1) ≡ entries_before f g p ++ (name_at g.graph p, projection g.rule (shown f) (commits_of g) (name_at g.graph p)) ∷ []
  entries-more p l =
      let r = row-at g.store g.graph w.graph p l in
      let a = at-row g.store g.graph w.graph p r.0 r.1 in
      let c : Snapshot = a.0 in
      let before : Graph = commits_before g p in
      let parts = split-at g.store g.graph w.graph p r.0 c r.1 a.1 in
      let named : snapshot_name c ≡ name_at g.graph p = a.1.name ∙ sym (name-is g.store g.graph w.graph p r.0 r.1) in
      let es : Entries = projections g.rule (shown f) [] before in
      let v : Option Shown = projected (choice_of g.rule (shown f) before es c) in
      let value : v ≡ projection g.rule (shown f) (commits_of g) (name_at g.graph p) =
      sym (projection-at g.rule (shown f) [] parts.0 before c (ap is_graph (sym parts.1) ∙ whole-graph g.store g.graph w.graph) refl)
      ∙ ap (λ (y : Graph). projection_by g.rule (shown f) [] y (snapshot_name c)) (sym parts.1)
      ∙ ap (projection_by g.rule (shown f) [] (commits_of g)) named in
      ap (entries_before f g) (add-one p)
      ∙ ap (λ (y : Graph). reverse (projections g.rule (shown f) [] y)) (older-suc g.store g.graph w.graph p r.0 c r.1 a.1)
      ∙ reverse-more (snapshot_name c, v) es
      ∙ (λ i. reverse es ++ (named i, value i) ∷ [])

  entries-length : (p : ℕ) → p ≤ length g.graph → length (entries_before f g p) ≡ p
  entries-length zero l = ap length entries-none
  entries-length (suc p) l =
      ap (λ n. length (entries_before f g n)) (sym (add-one p)) ∙ ap length (entries-more p (omega (arith, l)))
      ∙ length-append (entries_before f g p) ((name_at g.graph p, projection g.rule (shown f) (commits_of g) (name_at g.graph p)) ∷ [])
      ∙ ap (λ n. n + 1) (entries-length p (omega (arith, l))) ∙ add-one p

-- ---- one commit after another

-- the commits before a place are projected, and these are the first ones
pub record AreProjected (f : Filter) (g h : Ground) (p : ℕ) (os : Firsts) : Type 0 where
  pub done : IsProjected f g h
  pub first : AreFirstIn (entries_before f g p) os
  pub there : Each (λ e. IsTreeOf h.store e.0 e.1.tree) os

-- behind more tables
pub projected-tables : (f : Filter) (g h : Ground) → IsGround g → Extends IsNone g h → h.map ≡ g.map → IsTrueMap g.store (commits_of g) g.rule f g.map → IsProjected f g h
projected-tables f g h w a m t = record { same = extends-none (IsProjectionObject f g) g h a; map = (tables-still f [] g h w a m t).map }

pub projected-start : (f : Filter) (g h : Ground) → IsGround g → IsProjected f g h → AreProjected f g h 0 []
projected-start f g h w d = record {
  done = d;
  first = λ n. ap (first_at (is_shown_by n)) (sym (entries-none f g w));
  there = tt;
}

pub projected-end : (f : Filter) (g h : Ground) (p : ℕ) (os : Firsts) → IsGround g → p ≡ length g.graph → AreProjected f g h p os → AreFirsts f g h.store os
projected-end f g h p os w e v = record {
  first = λ n. v.first n ∙ ap (λ (es : Entries). first_at (is_shown_by n) es) (ap (entries_before f g) e ∙ entries-all f g w);
  there = v.there;
}

-- of no commits
pub projected-nothing : (f : Filter) (g : Ground) → IsGround g → IsTrueMap g.store (commits_of g) g.rule f g.map → length g.graph ≡ 0 → AreFirsts f g g.store []
projected-nothing f g w t e = projected-end f g g 0 [] w (sym e) (projected-start f g g w (projected-tables f g g w (extends-self IsNone g w) refl t))

module _ (f : Filter) (g h : Ground) (w : IsGround g) (v : IsProjected f g h) where
  commits : commits_of h ≡ commits_of g
  commits = commits-same (IsProjectionObject f g) g h w v.same

  pub map-still : IsTrueMap h.store (commits_of h) h.rule f h.map
  map-still = subst (λ (k : Rule). IsTrueMap h.store (commits_of h) k f h.map) (sym v.same.rule) (subst (λ (y : Graph). IsTrueMap h.store y g.rule f h.map) (sym commits) v.map)

  module _ (p : ℕ) (n : Bytes) (l : p < length g.graph) (e : IfSome (slice_get h.graph p) (λ r. n ≡ r.name)) where
    named : n ≡ name_at g.graph p
    named =
        let r = row-at g.store g.graph w.graph p l in
        subst (λ o. IfSome o (λ (x : Row). n ≡ x.name)) (ap (λ (rows : List Row). slice_get rows p) v.same.graph ∙ r.1) e ∙ sym (name-is g.store g.graph w.graph p r.0 r.1)

    pub named-there : IsSome (place_of n h.graph)
    named-there =
        let r = row-at g.store g.graph w.graph p l in
        subst (λ (rows : List Row). IsSome (place_of n rows)) (sym v.same.graph)
        (place-there g.graph n p r.0 r.1 (sym (named ∙ name-is g.store g.graph w.graph p r.0 r.1)))

    has-it : has (commits_of h) n ≡ true
    has-it = ap (has (commits_of h)) named ∙ ap (λ (y : Graph). has y (name_at g.graph p)) commits ∙ has-named g w p l

    abbrev IsProjectedBy : Rule → Graph → Object → Type 0
    IsProjectedBy k y o = IsShownOf f y o ⊎ ((c : Snapshot) × Contains (own_commits k (shown f) y (map snapshot_name y)) c × (snapshot_object c ≡ o))

    object-more : (o : Object) → IsSeenObject f h n o → IsProjectionObject f g o
    object-more o x = moved (seen-projection f h n has-it o x)
      where
        moved : IsProjectionObject f h o → IsProjectionObject f g o
        moved y = subst (λ (k : Rule). IsProjectedBy k (commits_of g) o) v.same.rule (subst (λ (z : Graph). IsProjectedBy h.rule z o) commits y)

    pub fault-more : (S : List Object) (x : ApplyError) → IsApplyFault (IsSeenObject f h n) S x → IsApplyFault (IsProjectionObject f g) S x
    fault-more S x y = fault-as (IsSeenObject f h n) (IsProjectionObject f g) S object-more x y

    module _ (k : Ground) (x : IsTrueWalk f n h k) where
      pub walked-on : IsProjected f g k
      walked-on = record {
        same = extends-then (IsProjectionObject f g) g h k v.same (extends-as (IsSeenObject f h n) (IsProjectionObject f g) h k object-more x.same);
        map = subst (λ (j : Rule). IsTrueMap k.store (commits_of g) j f k.map) v.same.rule (subst (λ (y : Graph). IsTrueMap k.store y h.rule f k.map) commits x.map);
      }

      module _ (os : Firsts) (so : AreProjected f g h p os) (o : Option code.Shown) (made : IsMade k.store (projection h.rule (shown f) (commits_of h) n) o) where
        value : option_map shown_value o ≡ projection g.rule (shown f) (commits_of g) (name_at g.graph p)
        value = made.is ∙ (λ i. projection (v.same.rule i) (shown f) (commits i) (named i))

        still-there : Each (λ (e : Bytes × First). IsTreeOf k.store e.0 e.1.tree) os
        still-there = each-grown os so.there
          where
            each-grown : (es : Firsts) → Each (λ (e : Bytes × First). IsTreeOf h.store e.0 e.1.tree) es → Each (λ (e : Bytes × First). IsTreeOf k.store e.0 e.1.tree) es
            each-grown [] y = tt
            each-grown (e ∷ es) y = (tree-of-grown h.store k.store e.0 e.1.tree x.same.store y.0, each-grown es y.1)

        pub projected-none : o ≡ None → AreProjected f g k (p + 1) os
        projected-none q = record {
          done = walked-on;
          first = subst (λ (es : Entries). AreFirstIn es os) (sym (entries-more f g w p l ∙ ap (λ (u : Option Shown). entries_before f g p ++ (name_at g.graph p, u) ∷ []) (sym value ∙ ap (option_map shown_value) q)))
              (firsts-still (entries_before f g p) os (name_at g.graph p) so.first);
          there = still-there;
        }

        pub projected-some : (s : code.Shown) → o ≡ Some s → AreProjected f g k (p + 1) (with_first os s.commit.0 (record { place = p; tree = s.tree.0 }))
        projected-some s q = record {
          done = walked-on;
          first = subst (λ (es : Entries). AreFirstIn es (with_first os s.commit.0 (record { place = p; tree = s.tree.0 })))
              (sym (entries-more f g w p l ∙ ap (λ (u : Option Shown). entries_before f g p ++ (name_at g.graph p, u) ∷ []) (sym value ∙ ap (option_map shown_value) q)))
              (firsts-more (entries_before f g p) os (name_at g.graph p) (shown_value s) (record { place = p; tree = s.tree.0 }) (sym (entries-length f g w p (omega (arith, l)))) so.first);
          there = each-with (λ e. IsTreeOf k.store e.0 e.1.tree) os s.commit.0 (record { place = p; tree = s.tree.0 }) still-there
              (subst (λ y. IfSome y (λ (t : code.Shown). IsTreeOf k.store t.commit.0 t.tree.0)) q made.held);
        }

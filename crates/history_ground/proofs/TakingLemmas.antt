-- A history whose commits are taken in one after another.
use Rattle.std.proofs.Common.{◌≡◌, ◌↔◌, inl, inr, ℕ, zero, suc, ◌<◌, ◌≤◌, Bool, true, false, cond, ◌||◌, List, [], ◌∷◌, ◌++◌, map, take, drop, get_or, length, Option, Some, None, IsSome, Contains, refl, sym, ap, subst, ◌∙◌, arith, append_assoc, true≢false}
use Rattle.std.specs.List.{cons_option, filter_map, list_any, slice_index_or}
use Rattle.std.specs.List.Sorted.{IsStrictlyIncreasing}
use Rattle.std.specs.Option.{is_some, option_to_list}
use Rattle.std.proofs.lemmas.List.Elements.{Contains-get_or}
use Rattle.std.proofs.lemmas.Option.{none-some}
use Rattle.git_objects.specs.Paths.{Bytes, same_bytes}
use Rattle.git_objects.specs.Lists.{Each}
use Rattle.git_objects.specs.Snapshots.{Snapshot, Graph, snapshot_name, has, is_graph, add, add_all}
use Rattle.git_objects.proofs.Basics.{same_bytes-self}
use Rattle.object_store.specs.Objects.{Object}
use Rattle.commit_graph.specs.Graphs.{Row, Reaches, Itself, Through}
use Rattle.commit_graph.proofs.Reaching.{reaches-down}
use Rattle.commit_map.specs.Shown.{Shown, Entries, kept_at}
use Rattle.filter_text.specs.Filters.{Filter}
use Rattle.filter_apply.specs.Faults.{IsApplyFault}
use Rattle.filter_apply.specs.declared.fault.ApplyError.{ApplyError}
use Rattle.workspace.specs.Workspaces.{shown}
use Rattle.projection_laws.specs.Projections.{Choice, New, choice_of, history_graph, known_at, own_commit, projected, projection_by, projections}
use Rattle.projection_laws.specs.StoredGraphs.{name_at, snapshot_named}
use Rattle.projection_laws.specs.Histories.{AreMade}
use Rattle.projection_laws.proofs.HistoryLemmas.{any-append, filter-append, fold-append, map-append}
use Rattle.projection_laws.proofs.OwnCommits.{among, apart, choice-is, choice_at, none-among, one-option, own-history, own_at}
use Rattle.projection_laws.proofs.Reached.{any-place}
use Rattle.projection_laws.proofs.Rising.{each-all, rises, Rises, rises-split}
use Rattle.projection_laws.proofs.StoredGraphs.{at-row, name-is, older, row-at, split-at, whole-graph}
use Rattle.projection_ground.specs.Choosing.{Agree, commits_before}
use Rattle.projection_ground.specs.Grounds.{IsGround, Extends, IsShownOf, commits_of}
use Rattle.projection_ground.specs.Asked.{IsAskedFor}
use Rattle.history_ground.specs.Histories.{IsOfHistory}
use Rattle.history_ground.specs.Making.{AreThere, IsBecome, IsTurnObject, IsReady, IsTaken}
use Rattle.projection_ground.specs.declared.ground.Ground.{Ground}
use Rattle.projection_ground.specs.declared.seeing.Asked.{Asked}
use Rattle.projection_ground.proofs.Filling.{kept-each, newer-known, projection-at}
use Rattle.projection_ground.proofs.Growing.{commits-same, extends-as, extends-self, extends-then}
use Rattle.history_ground.proofs.MadeHistories.{among-made, contains-all, nothing-made}
use Rattle.history_ground.proofs.TakenTurns.{fault-as}
use Rattle.projection_ground.proofs.TurnLemmas.{before-same, contains-here, placed, some-placed}
use Rattle.history_ground.proofs.WalkLemmas.{snapshot-same}

reaches-then : (rs : List Row) (i p j : ℕ) → Reaches rs i p → Reaches rs p j → Reaches rs i j
reaches-then rs _ _ j (Itself i) x = x
reaches-then rs _ _ j (Through i q p r e c u) x = Through i q j r e c (reaches-then rs q p j u x)

each-parts : (P : ℕ → Type 0) (xs : List ℕ) (p : ℕ) (ys : List ℕ) → Each P (xs ++ p ∷ ys) → Each P xs × P p × Each P ys
each-parts P [] p ys h = (tt, h.0, h.1)
each-parts P (x ∷ xs) p ys h = let r = each-parts P xs p ys h.1 in ((h.0, r.0), r.1, r.2)

-- the element at an index, with those before and behind it
pub split-take : (xs : List ℕ) (i d : ℕ) → i < length xs → xs ≡ take i xs ++ get_or xs i d ∷ drop (suc i) xs
split-take [] i d l = absurd (omega (arith, l))
split-take (x ∷ xs) zero d l = refl
split-take (x ∷ xs) (suc i) d l = ap (λ ys. x ∷ ys) (split-take xs i d (omega (arith, l)))

-- the entry of the commit at a place, from scratch
abbrev pub entry_at : Filter → Ground → ℕ → Bytes × Option Shown
entry_at f g p = (name_at g.graph p, projected (choice_at g.rule (shown f) g.store g.graph p))

abbrev pub own_of : Filter → Ground → ℕ → Option Snapshot
own_of f g p = own_at g.rule (shown f) g.store g.graph p

-- the commits at these places are projected, and what they become is in the store under these names
pub record IsTaking (f : Filter) (head : ℕ) (g h : Ground) (asked : Asked) (ps : List ℕ) (ns : List Bytes) : Type 0 where
  pub same : Extends (IsOfHistory f g (name_at g.graph head)) g h
  pub asked_for : IsAskedFor f h asked
  pub map : h.map ≡ map (entry_at f g) ps
  pub held : AreThere h.store h.map
  pub made : AreMade h.store (add_all [] (filter_map (own_of f g) ps)) ns

pub taking-start : (f : Filter) (head : ℕ) (g : Ground) (asked : Asked) → IsGround g → g.map ≡ [] → IsAskedFor f g asked → IsTaking f head g g asked [] []
taking-start f head g asked w e a = record {
  same = extends-self (IsOfHistory f g (name_at g.graph head)) g w;
  asked_for = a;
  map = e;
  held = λ n m q. absurd (none-some (Some m) (sym (ap (kept_at n) e) ∙ q));
  made = nothing-made g.store;
}

module _ (f : Filter) (g : Ground) (w : IsGround g) where
  -- ---- the entries are true

  entry-true : (p : ℕ) → p < length g.graph → projected (choice_at g.rule (shown f) g.store g.graph p) ≡ projection_by g.rule (shown f) [] (commits_of g) (name_at g.graph p)
  entry-true p l =
      let r = row-at g.store g.graph w.graph p l in
      let a = at-row g.store g.graph w.graph p r.0 r.1 in
      let x = split-at g.store g.graph w.graph p r.0 a.0 r.1 a.1 in
      ap projected (choice-is g.store g.graph w.graph g.rule (shown f) p r.0 a.0 r.1 a.1)
      ∙ sym (projection-at g.rule (shown f) [] x.0 (older g.store g.graph w.graph p) a.0 (ap is_graph (sym x.1) ∙ whole-graph g.store g.graph w.graph) refl)
      ∙ ap (λ (y : Graph). projection_by g.rule (shown f) [] y (snapshot_name a.0)) (sym x.1)
      ∙ ap (projection_by g.rule (shown f) [] (commits_of g)) (a.1.name ∙ sym (name-is g.store g.graph w.graph p r.0 r.1))

  entries-true : (ps : List ℕ) → Each (λ p. p < length g.graph) ps → Each (λ (e : Bytes × Option Shown). e.1 ≡ projection_by g.rule (shown f) [] (commits_of g) e.0) (map (entry_at f g) ps)
  entries-true [] h = tt
  entries-true (p ∷ ps) h = (entry-true p h.0, entries-true ps h.1)

  agree-at : (ps : List ℕ) (p : ℕ) → Each (λ p. p < length g.graph) ps → p < length g.graph → Agree (map (entry_at f g) ps) (projections g.rule (shown f) [] (commits_before g p)) (commits_before g p)
  agree-at ps p b l = λ n o h e.
      let r = row-at g.store g.graph w.graph p l in
      let a = at-row g.store g.graph w.graph p r.0 r.1 in
      let x = split-at g.store g.graph w.graph p r.0 a.0 r.1 a.1 in
      let q : commits_of g ≡ (x.0 ++ a.0 ∷ []) ++ commits_before g p = x.1 ∙ sym (append_assoc x.0 (a.0 ∷ []) (commits_before g p)) in
      kept-each (λ m v. v ≡ projection_by g.rule (shown f) [] (commits_of g) m) n (map (entry_at f g) ps) o (entries-true ps b) e
      ∙ ap (λ (y : Graph). known_at (projections g.rule (shown f) [] y) n) q
      ∙ newer-known g.rule (shown f) [] (x.0 ++ a.0 ∷ []) (commits_before g p) n (ap is_graph (sym q) ∙ whole-graph g.store g.graph w.graph) h

  -- ---- what is kept

  kept-none : (n : Bytes) (ps : List ℕ) → Each (λ q. same_bytes n (name_at g.graph q) ≡ false) ps → kept_at n (map (entry_at f g) ps) ≡ None
  kept-none n [] h = refl
  kept-none n (p ∷ ps) h = ap (λ b. cond b (Some (entry_at f g p).1) (kept_at n (map (entry_at f g) ps))) h.0 ∙ kept-none n ps h.1

  kept-some : (n : Bytes) (ps : List ℕ) → list_any (λ j. same_bytes n (name_at g.graph j)) ps ≡ true → IsSome (kept_at n (map (entry_at f g) ps))
  kept-some n [] h = h
  kept-some n (p ∷ ps) h = by (same_bytes n (name_at g.graph p)) h (kept-some n ps)
    where
      by : (b : Bool) → (b || list_any (λ j. same_bytes n (name_at g.graph j)) ps) ≡ true → (list_any (λ j. same_bytes n (name_at g.graph j)) ps ≡ true → IsSome (kept_at n (map (entry_at f g) ps)))
          → IsSome (cond b (Some (entry_at f g p).1) (kept_at n (map (entry_at f g) ps)))
      by true e k = refl
      by false e k = k e

  -- ---- the places of a head and of all that it reaches

  module _ (head : ℕ) (l : head < length g.graph) (v : List ℕ) (rising : IsStrictlyIncreasing v) (exact : (i : ℕ) → Contains v i ↔ Reaches g.graph head i) where
    places-in : Each (λ q. q < length g.graph) v
    places-in = each-all (λ x. x < length g.graph) v (λ i d m.
        let down : slice_index_or v i d ≤ head = reaches-down g.graph w.graph.graph head (slice_index_or v i d) ((exact (slice_index_or v i d)).0 (Contains-get_or v i d m)) in omega (arith, down, l))

    history-is : history_graph g.rule (shown f) (commits_of g) (name_at g.graph head) ≡ add_all [] (filter_map (own_of f g) v)
    history-is = ap (add_all []) (own-history g.store g.graph w.graph g.rule (shown f) head l v rising exact)

    pub taking-end : (h : Ground) (asked : Asked) (ps : List ℕ) (ns : List Bytes) → ps ≡ v → IsTaking f head g h asked ps ns → AreMade h.store (history_graph g.rule (shown f) (commits_of g) (name_at g.graph head)) ns
    taking-end h asked ps ns e t = subst (λ (M : Graph). AreMade h.store M ns) (ap (λ xs. add_all [] (filter_map (own_of f g) xs)) e ∙ sym history-is) t.made

    module _ (ps : List ℕ) (p : ℕ) (rest : List ℕ) (e : v ≡ ps ++ p ∷ rest) (h : Ground) (asked : Asked) (ns : List Bytes) (t : IsTaking f head g h asked ps ns) where
      inside : Each (λ q. q < length g.graph) ps × (p < length g.graph) × Each (λ q. q < length g.graph) rest
      inside = each-parts (λ q. q < length g.graph) ps p rest (subst (Each (λ q. q < length g.graph)) e places-in)

      order : Each (λ q. q < p) ps × Each (λ q. p < q) rest
      order = rises-split ps p rest (subst Rises e (rises v rising))

      reached : Reaches g.graph head p
      reached = (exact p).0 (subst (λ (xs : List ℕ). Contains xs p) (sym e) (contains-here ps rest p))

      apart-before : (qs : List ℕ) → Each (λ q. q < p) qs → Each (λ q. q < length g.graph) qs → Each (λ q. same_bytes (name_at g.graph p) (name_at g.graph q) ≡ false) qs
      apart-before [] x y = tt
      apart-before (q ∷ qs) x y = let b : q < p = x.0 in (apart g.store g.graph w.graph p q inside.1 y.0 (λ z. omega (arith, z, b)), apart-before qs x.1 y.1)

      apart-behind : (q : ℕ) → q < p → (qs : List ℕ) → Each (λ x. p < x) qs → Each (λ x. x < length g.graph) qs → Each (λ x. (x < length g.graph) × (q ≡ x → ⊥)) qs
      apart-behind q b [] x y = tt
      apart-behind q b (z ∷ qs) x y = let c : p < z = x.0 in ((y.0, (λ k. omega (arith, k, b, c))), apart-behind q b qs x.1 y.1)

      or-false : (a b : Bool) → b ≡ false → (a || b) ≡ true → a ≡ true
      or-false true b x y = refl
      or-false false b x y = sym x ∙ y

      among-before : (q : ℕ) → Reaches g.graph p q → q < p → among g.graph q ps ≡ true
      among-before q u b =
          let m : q < length g.graph = let y = inside.1 in omega (arith, b, y) in
          or-false (among g.graph q ps) (among g.graph q (p ∷ rest))
          (none-among g.store g.graph w.graph q m (p ∷ rest) ((inside.1, (λ k. omega (arith, k, b))), apart-behind q b rest order.1 inside.2))
          (sym (any-append (λ j. same_bytes (name_at g.graph q) (name_at g.graph j)) ps (p ∷ rest))
          ∙ ap (among g.graph q) (sym e)
          ∙ any-place (name_at g.graph) (same_bytes (name_at g.graph q)) v q ((exact q).1 (reaches-then g.graph head p q reached u)) (same_bytes-self (name_at g.graph q)))

      pub ready : IsReady h p ns
      ready = record {
        there = subst (λ (rows : List Row). p < length rows) (sym t.same.graph) inside.1;
        lacked = (λ i. kept_at (name_at (t.same.graph i) p) (t.map i)) ∙ kept-none (name_at g.graph p) ps (apart-before ps order.0 inside.0);
        kept = λ q u b.
            (λ i. is_some (kept_at (name_at (t.same.graph i) q) (t.map i)))
            ∙ kept-some (name_at g.graph q) ps (among-before q (subst (λ (rows : List Row). Reaches rows p q) t.same.graph u) b);
        held = t.held;
        named = t.made.held;
      }

      -- what it becomes is what it becomes from scratch
      choice-same : (x : Choice) → IsBecome f h p x → x ≡ choice_at g.rule (shown f) g.store g.graph p
      choice-same x is =
          let made = IsOfHistory f g (name_at g.graph head) in
          let lp = inside.1 in
          let c = some-placed g p w lp in
          let pl = placed g p c.0 w lp c.1 in
          let older-is : commits_before h p ≡ commits_before g p = before-same made g h p w (omega (arith, lp)) t.same in
          let ks : Entries = projections g.rule (shown f) [] (commits_before g p) in
          let named : snapshot_named h.store (name_at h.graph p) ≡ Some c.0 = ap (λ (rows : List Row). snapshot_named h.store (name_at rows p)) t.same.graph ∙ snapshot-same g h made p c.0 w t.same pl in
          let agree : Agree h.map ks (commits_before h p) =
          subst (λ (y : Graph). Agree h.map ks y) (sym older-is) (subst (λ (es : Entries). Agree es ks (commits_before g p)) (sym t.map) (agree-at ps p inside.0 lp)) in
          sym (is c.0 named ks agree)
          ∙ (λ i. choice_of (t.same.rule i) (shown f) (older-is i) ks c.0)
          ∙ sym (choice-is g.store g.graph w.graph g.rule (shown f) p pl.row c.0 pl.there pl.at)

      -- a commit that is new here is in the history
      abbrev M : Graph
      M = add_all [] (filter_map (own_of f g) ps)

      fresh-in : (d : Snapshot) (b : Bool) → has M (snapshot_name d) ≡ b → b ≡ false → Contains (cond b M (d ∷ M)) d
      fresh-in d true q x = absurd (true≢false x)
      fresh-in d false q x = (0, omega arith, refl)

      history-here : (d : Snapshot) → own_of f g p ≡ Some d → history_graph g.rule (shown f) (commits_of g) (name_at g.graph head) ≡ add_all (add M d) (filter_map (own_of f g) rest)
      history-here d q =
          history-is
          ∙ ap (λ xs. add_all [] (filter_map (own_of f g) xs)) e
          ∙ ap (add_all []) (filter-append (own_of f g) ps (p ∷ rest))
          ∙ ap (λ o. add_all [] (filter_map (own_of f g) ps ++ cons_option o (filter_map (own_of f g) rest))) q
          ∙ fold-append add [] (filter_map (own_of f g) ps) (d ∷ filter_map (own_of f g) rest)

      object-of : (o : Object) → IsTurnObject f h p ns o → IsOfHistory f g (name_at g.graph head) o
      object-of o (inl x) = inl (subst (λ (y : Graph). IsShownOf f y o) (commits-same (IsOfHistory f g (name_at g.graph head)) g h w t.same) x)
      object-of o (inr x) =
          let d = x.0 in
          let own : own_of f g p ≡ Some d = ap own_commit (sym (choice-same (New d) x.1)) in
          let new : has M (snapshot_name d) ≡ false = sym (among-made h.store M ns (snapshot_name d) t.made) ∙ x.2 in
          inr (
            d,
            subst (λ (y : Graph). Contains y d) (sym (history-here d own)) (contains-all (filter_map (own_of f g) rest) (add M d) d (fresh-in d (has M (snapshot_name d)) refl new)),
            x.3,
          )

      module _ (k : Ground) (a : Extends (IsTurnObject f h p ns) h k) where
        pub taking-same : Extends (IsOfHistory f g (name_at g.graph head)) g k
        taking-same = extends-then (IsOfHistory f g (name_at g.graph head)) g h k t.same (extends-as (IsTurnObject f h p ns) (IsOfHistory f g (name_at g.graph head)) h k object-of a)

        pub taking-fault : (e : ApplyError) → IsApplyFault (IsTurnObject f h p ns) k.store e → IsApplyFault (IsOfHistory f g (name_at g.graph head)) k.store e
        taking-fault e x = fault-as (IsTurnObject f h p ns) (IsOfHistory f g (name_at g.graph head)) k.store object-of e x

        pub taking-more : (now : Asked) (ns' qs : List Bytes) (zs : List ℕ) → zs ≡ ps ++ p ∷ [] → qs ≡ ns' → IsAskedFor f k now → IsTaken f p h k ns ns' → IsTaking f head g k now zs qs
        taking-more now ns' qs zs z q b x =
            let own : own_commit x.entered.choice ≡ own_of f g p = ap own_commit (choice-same x.entered.choice x.entered.is) in
            subst (λ (ys : List ℕ). IsTaking f head g k now ys qs) (sym z) (subst (IsTaking f head g k now (ps ++ p ∷ [])) (sym q) (record {
              same = taking-same;
              asked_for = b;
              map = x.entered.map
                  ∙ (λ i. t.map i ++ (name_at (t.same.graph i) p, projected (choice-same x.entered.choice x.entered.is i)) ∷ [])
                  ∙ sym (map-append (entry_at f g) ps (p ∷ []));
              held = x.entered.held;
              made = subst (λ (y : Graph). AreMade k.store y ns')
                  (ap (λ o. add_all M (option_to_list o)) own
                  ∙ ap (add_all M) (one-option (own_of f g p))
                  ∙ sym (fold-append add [] (filter_map (own_of f g) ps) (cons_option (own_of f g p) []))
                  ∙ ap (add_all []) (sym (filter-append (own_of f g) ps (p ∷ []))))
                  (x.made M t.made);
            }))

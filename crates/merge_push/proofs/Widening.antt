-- Grounds whose graph and map grew, and originals that were added.
use Rattle.std.proofs.Common.{◌≡◌, inl, inr, ◌<◌, ℕ, Bool, true, false, List, [], ◌∷◌, ◌++◌, length, map, slice_get, All, Option, Some, None, IfSome, Result, Ok, Err, refl, sym, ap, subst, ◌∙◌, arith, append-nil, append_assoc, nat_le, true≢false}
use Rattle.std.proofs.lemmas.List.{length-map}
use Rattle.git_objects.specs.Paths.{Bytes}
use Rattle.git_objects.specs.Names.{tree_name}
use Rattle.git_objects.specs.Results.{◌>>=◌, must}
use Rattle.git_objects.specs.Snapshots.{Snapshot, snapshot_name}
use Rattle.git_objects.specs.Trees.{Flat, IsTree}
use Rattle.git_objects.specs.declared.limits.TheConstants.{PARENTS}
use Rattle.git_objects.specs.declared.name.Name.{Name}
use Rattle.git_objects.specs.declared.quantity.Quantity.TheVariants.{Parents}
use Rattle.object_store.specs.Objects.{Object, IsStore, has}
use Rattle.git_objects.specs.declared.kind.Kind.TheVariants.{Tree}
use Rattle.std.proofs.lemmas.Option.{none-some}
use Rattle.projection_laws.proofs.StoredGraphs.{older-all, older-place, row-at}
use Rattle.projection_laws.specs.ProjectionLaws.{AreOf}
use Rattle.projection_ground.specs.Grounds.{commits_of}
use Rattle.commit_graph.proofs.Places.{absent}
use Rattle.commit_map.specs.Shown.{kept_at}
use Rattle.std.specs.Cmp.Lexicographic.{bytes_decides}
use Rattle.git_objects.specs.Paths.{same_bytes}
use Rattle.git_objects.specs.Snapshots.{Graph}
use Rattle.git_objects.specs.Snapshots.{has as has-commit}
use Rattle.object_store.specs.Unfolding.{flat}
use Rattle.object_store.proofs.Growth.{grown_as, grown_self, grown_then}
use Rattle.object_store.proofs.Unfolding.{unfolding_law}
use Rattle.commit_graph.specs.Graphs.{Row, place_of}
use Rattle.commit_map.specs.Shown.{Entries, Shown}
use Rattle.filter_text.specs.Filters.{Filter}
use Rattle.workspace.specs.Laws.{IsUsable}
use Rattle.projection_laws.specs.Projections.{shown_of}
use Rattle.projection_ground.specs.Choosing.{is_own_by, names_at}
use Rattle.projection_ground.specs.Grounds.{IsGround}
use Rattle.projection_ground.specs.declared.ground.Ground.{Ground}
use Rattle.filter_routes.specs.TableValues.{Table}
use Rattle.projection_ground.specs.Grounds.{AreInFront}
use Rattle.projection_ground.proofs.Growing.{front-self}
use Rattle.projection_ground.proofs.TrueEntries.{rows-newer}
use Rattle.history_ground.specs.Origins.{Firsts}
use Rattle.fast_import.specs.Standing.{IsCommitIn}
use Rattle.fast_import.specs.declared.replayed.Made.{Made}
use Rattle.push_laws.specs.PushVerdicts.{NoChange, Refusal, TreeLimit, tree_upon}
use Rattle.push_back.specs.Originals.{Grows}
use Rattle.push_back.specs.declared.refusal.TreeRefusal.{TreeRefusal}
use Rattle.push_back.specs.declared.refusal.TreeRefusal.TheVariants as trees
use Rattle.push_back.proofs.OneOriginal.{commit-in-grown, ok-and}
use Rattle.merge_laws.specs.MergeVerdicts.{Progress, after, choice_upon, is_new, joined, original, tied_names, ties}
use Rattle.merge_laws.proofs.Merging.{IsTaken, taken}
use Rattle.merge_push.specs.Originals.{IsMadeOne, IsOriginal, IsReadAgain, original_upon}
use Rattle.merge_push.specs.Places.{Places, with_place}
use Rattle.merge_push.specs.Progressing.{IsAddedTo, IsEnteredAs, IsHalfEntered, IsNext, IsProgress, Widens, made_as, row_of}
use Rattle.merge_push.proofs.Progressed.{progress-grown, progress-more, progress-there}
use Rattle.merge_push.proofs.Stored.{rows-more, tree-named}
use Rattle.merge_push.proofs.Tied.{own-is, places, places-in, places-named}

-- ---- grounds that grow

front-then : (ts us vs : List Table) → AreInFront ts us → AreInFront us vs → AreInFront ts vs
front-then ts us vs a b = (a.0 ++ b.0, sym (append_assoc ts a.0 b.0) ∙ ap (λ (xs : List Table). xs ++ b.0) a.1 ∙ b.1)

pub widens-self : (made : Object → Type 0) (g : Ground) → IsGround g → Widens made g g
widens-self made g w = record {
  rows = ([], append-nil g.graph);
  entries = ([], append-nil g.map);
  rule = refl;
  tables = front-self g.tables;
  store = grown_self made g.store w.graph.store;
  ground = w;
}

pub widens-then : (made : Object → Type 0) (g h k : Ground) → Widens made g h → Widens made h k → Widens made g k
widens-then made g h k a b = record {
  rows = (a.rows.0 ++ b.rows.0, sym (append_assoc g.graph a.rows.0 b.rows.0) ∙ ap (λ (xs : List Row). xs ++ b.rows.0) a.rows.1 ∙ b.rows.1);
  entries = (a.entries.0 ++ b.entries.0, sym (append_assoc g.map a.entries.0 b.entries.0) ∙ ap (λ (xs : Entries). xs ++ b.entries.0) a.entries.1 ∙ b.entries.1);
  rule = b.rule ∙ a.rule;
  tables = front-then g.tables h.tables k.tables a.tables b.tables;
  store = grown_then made g.store h.store k.store a.store b.store;
  ground = b.ground;
}

pub widens-as : (made more : Object → Type 0) (g h : Ground) → ((o : Object) → made o → more o) → Widens made g h → Widens more g h
widens-as made more g h f a = record { rows = a.rows; entries = a.entries; rule = a.rule; tables = a.tables; store = grown_as made more g.store h.store f a.store; ground = a.ground }

pub widens-grows : (made : Object → Type 0) (g h : Ground) → Grows made g h → Widens made g h
widens-grows made g h a = record {
  rows = ([], append-nil g.graph ∙ sym a.extends.graph);
  entries = ([], append-nil g.map ∙ sym a.map);
  rule = a.extends.rule;
  tables = a.extends.tables;
  store = a.extends.store;
  ground = a.extends.ground;
}

-- with rows and entries behind
wide : (made : Object → Type 0) (g : Ground) (rows : List Row) (entries : Entries) → IsGround g → IsGround (record g { graph = g.graph ++ rows; map = g.map ++ entries }) → Widens made g (record g { graph = g.graph ++ rows; map = g.map ++ entries })
wide made g rows entries w v = record {
  rows = (rows, refl);
  entries = (entries, refl);
  rule = refl;
  tables = front-self g.tables;
  store = grown_self made g.store w.graph.store;
  ground = v;
}

as-named : (S : List Object) (m : Made) (c : Snapshot) → IsStore S → IsCommitIn S m c → IsCommitIn S (made_as m.name c) c
as-named S m c s k =
    let named : m.tree.0 ≡ tree_name c.tree = sym (tree-named S m c s k) in
    record {
      named = k.named;
      held = k.held;
      stands = record { held = ap (has Tree S) (sym named) ∙ k.stands.held; map = ap (flat S) (sym named) ∙ k.stands.map };
    }

-- nothing is kept of a commit that has no place
pub lacks : (g : Ground) (graph : Graph) → IsGround g → commits_of g ≡ graph → AreOf graph g.map → (n : Bytes) → place_of n g.graph ≡ None → kept_at n g.map ≡ None
lacks g graph w same of n e = by (kept_at n g.map) refl
  where
    by : (o : Option (Option Shown)) → kept_at n g.map ≡ o → kept_at n g.map ≡ None
    by None q = q
    by (Some v) q =
        let there : has-commit (commits_of g) n ≡ true = ap (λ (x : Graph). has-commit x n) same ∙ of n v q in
        let p = older-place g.store g.graph w.graph (length g.graph) (omega arith) n (ap (λ (x : Graph). has-commit x n) (older-all g.store g.graph w.graph) ∙ there) in
        absurd (true≢false (sym ((bytes_decides p.1.name n).1 p.4) ∙ absent (λ (r : Row). same_bytes r.name n) g.graph e p.0 p.1 p.3))

pub row-tree : (g : Ground) (p : ℕ) (t : Bytes) → IsGround g → p < length g.graph → IfSome (slice_get g.graph p) (λ r. t ≡ r.tree) → has Tree g.store t ≡ true
row-tree g p t w l h =
    let r = row-at g.store g.graph w.graph p l in
    let same : t ≡ r.0.tree = subst (λ o. IfSome o (λ x. t ≡ x.tree)) r.1 h in
    ap (has Tree g.store) same ∙ (w.graph.each p r.0 r.1).tree_held

-- ---- the original that the code works out is the definition's

module _ (f : Filter) (w : IsUsable f) (os : Firsts) (g : Ground) (before : ℕ) (es : Places) (s : Progress) (m : Made) (c : Snapshot) (x : IsNext f os g before es s m c) where
  abbrev pub ps : List ℕ
  ps = places f os g before es s x.progress c

  abbrev upon : Bool → Bool → List Bytes → Result Snapshot Refusal
  upon b d ns = must NoChange b >>= λ y. tree_upon f s.tree c.tree >>= λ u. must (TreeLimit Parents) d >>= λ z. Ok (record { tree = u; parents = ns; letter = c.letter })

  pub same-value : original_upon f (is_own_by g ps c.tree c.letter) s.tree (names_at g.graph ps) c ≡ original g.rule f s c
  same-value =
      (λ i. original_upon f (own-is f os g before es s x.progress c x.joined i) s.tree (places-named f os g before es s x.progress c i) c)
      ∙ ap (λ n. upon (is_new (choice_upon g.rule s (ties s c) c)) (nat_le n PARENTS) (tied_names (ties s c))) (length-map (ties s c) (λ e. e.0))

  pub base-is : (t : Name) → IfSome (slice_get g.graph before) (λ r. t.0 ≡ r.tree) → flat g.store t.0 ≡ s.tree
  base-is t h = by (slice_get g.graph before) refl h
    where
      by : (o : Option Row) → slice_get g.graph before ≡ o → IfSome o (λ r. t.0 ≡ r.tree) → flat g.store t.0 ≡ s.tree
      by None e k = let r = row-at g.store g.graph x.progress.ground.graph before x.progress.there in absurd (none-some r.0 (sym e ∙ r.1))
      by (Some r) e k = ap (flat g.store) k ∙ x.progress.tree r e

  -- what came of it
  pub as-original : (t : Name) → IfSome (slice_get g.graph before) (λ r. t.0 ≡ r.tree) → (qs : List ℕ) → qs ≡ ps → (h : Ground) (r : Result Made TreeRefusal)
      → IsOriginal f (flat g.store t.0) c (original_upon f (is_own_by g qs c.tree c.letter) (flat g.store t.0) (names_at g.graph qs) c) g h r → IsOriginal f s.tree c (original g.rule f s c) g h r
  as-original t k qs e h r a =
      subst (λ v. IsOriginal f s.tree c v g h r) same-value
      (subst (λ (ys : List ℕ). IsOriginal f s.tree c (original_upon f (is_own_by g ys c.tree c.letter) s.tree (names_at g.graph ys) c) g h r) e
      (subst (λ (y : Flat). IsOriginal f y c (original_upon f (is_own_by g qs c.tree c.letter) y (names_at g.graph qs) c) g h r) (base-is t k) a))

  abbrev pub made : Object → Type 0
  made = IsMadeOne f s.tree c (original g.rule f s c)

  -- there was no memory for the places
  pub no-places : (b : ℕ) (ys : Places) (ns ms : List Name) → IsAddedTo f os s c g g b ys ns ms (Err trees.OutOfMemory)
  no-places b ys ns ms = record { ok = tt; err = tt; same = widens-self made g x.progress.ground }

  -- it is refused
  pub refused : (h : Ground) (e : TreeRefusal) (b : ℕ) (ys : Places) (ns ms : List Name) → IsOriginal f s.tree c (original g.rule f s c) g h (Err e) → IsAddedTo f os s c g h b ys ns ms (Err e)
  refused h e b ys ns ms a = record { ok = tt; err = a.err; same = widens-grows made g h a.same }

  module _ (h : Ground) (n : Made) (a : IsOriginal f s.tree c (original g.rule f s c) g h (Ok n)) where
    made-one : (o : Snapshot) × (original g.rule f s c ≡ Ok o) × (IsCommitIn h.store n o × IsReadAgain o)
    made-one = ok-and (original g.rule f s c) (λ o. IsCommitIn h.store n o × IsReadAgain o) a.ok

    abbrev o : Snapshot
    o = made-one.0

    parts : IsTaken g.rule f s c o
    parts = taken g.rule f s c o made-one.1

    pub now : IsProgress f os h before es s
    now = progress-grown f os g before es s x.progress made h a.same.extends a.same.map

    same-rule : h.rule ≡ g.rule
    same-rule = a.same.extends.rule

    change : is_new (choice_upon h.rule s (ties s c) c) ≡ true
    change = ap (λ k. is_new (choice_upon k s (ties s c) c)) same-rule ∙ parts.change

    c-tree : IsTree c.tree
    c-tree = subst IsTree x.standing.stands.map (unfolding_law g.store m.tree.0 x.progress.ground.graph.store x.standing.stands.held).tree

    in-h : IsCommitIn h.store n (joined s c parts.u)
    in-h = subst (λ (y : Snapshot). IsCommitIn h.store n y) (sym parts.same) made-one.2.0

    again-h : IsReadAgain (joined s c parts.u)
    again-h = subst IsReadAgain (sym parts.same) made-one.2.1

    grown : Widens made g h
    grown = widens-grows made g h a.same

    module _ (qs : List ℕ) (e : qs ≡ ps) where
      parents-are : (joined s c parts.u).parents ≡ names_at h.graph qs
      parents-are = sym (places-named f os g before es s x.progress c) ∙ (λ i. names_at (sym a.same.extends.graph i) (sym e i))

      pub below : All (λ q. q < length h.graph) qs
      below = subst (λ (ys : List ℕ). All (λ q. q < length h.graph) ys) (sym e) (subst (λ (rows : List Row). All (λ q. q < length rows) ps) (sym a.same.extends.graph) (places-in f os g before es s x.progress c))

      -- its row is behind the others, without its projection
      half-ground : place_of n.name.0 h.graph ≡ None → IsGround (record h { graph = h.graph ++ row_of n qs ∷ [] })
      half-ground new =
          let r = rows-more h.store h.graph now.ground.graph n (joined s c parts.u) in-h again-h qs parents-are below new in
          record { graph = r; memo = now.ground.memo; maps = rows-newer h.store h.graph (row_of n qs ∷ []) h.true_maps r now.ground.maps }

      pub half : (k : Ground) → IsHalfEntered n qs h k → (b : ℕ) (ys : Places) (ns ms : List Name) → IsAddedTo f os s c g k b ys ns ms (Err trees.OutOfMemory)
      half k q b ys ns ms = record { ok = tt; err = tt; same = widens-then made g h k grown (by q) }
        where
          by : IsHalfEntered n qs h k → Widens made h k
          by (inl z) = subst (λ (y : Ground). Widens made h y) (sym z) (widens-self made h now.ground)
          by (inr z) =
              subst (λ (y : Ground). Widens made h y) (sym z.1) (record {
                rows = (row_of n qs ∷ [], refl);
                entries = ([], append-nil h.map);
                rule = refl;
                tables = front-self h.tables;
                store = grown_self made h.store now.ground.graph.store;
                ground = half-ground z.0;
              })

      module _ (k : Ground) (place : ℕ) (q : IsEnteredAs n qs m h k place) where
        shown-is : shown_of c ≡ record { commit = m.name.0; tree = m.tree.0 }
        shown-is = λ i. record { commit = x.standing.named i; tree = tree-named g.store m c x.progress.ground.graph.store x.standing i }

        abbrev At : Ground → ℕ → Bytes → Snapshot → Type 0
        At y b name d = IsProgress f os y b (with_place es name b) (after s c d) × Widens made h y

        entered : At k place m.name.0 o
        entered = subst (At k place m.name.0) parts.same (subst (λ (name : Bytes). At k place name (joined s c parts.u)) x.standing.named (by q))
          where
            by : IsEnteredAs n qs m h k place → At k place (snapshot_name c) (joined s c parts.u)
            by (inl z) =
                subst (λ (y : Ground). At y place (snapshot_name c) (joined s c parts.u)) (sym z.1)
                (progress-there f w os h before es s now c parts.u x.joined change c-tree parts.tree n in-h again-h place z.0, widens-self made h now.ground)
            by (inr z) =
                let p = progress-more f w os h before es s now c parts.u x.joined change c-tree parts.tree n in-h again-h qs parents-are below z.0 in
                subst (λ (y : Ground). At y place (snapshot_name c) (joined s c parts.u)) (sym z.2)
                (subst (λ (b : ℕ). At (record h { graph = h.graph ++ row_of n qs ∷ []; map = h.map ++ (n.name.0, Some (record { commit = m.name.0; tree = m.tree.0 })) ∷ [] }) b (snapshot_name c) (joined s c parts.u)) (sym z.1)
                (subst (λ (v : Shown). At (record h { graph = h.graph ++ row_of n qs ∷ []; map = h.map ++ (n.name.0, Some v) ∷ [] }) (length h.graph) (snapshot_name c) (joined s c parts.u)) shown-is
                (p, wide made h (row_of n qs ∷ []) ((n.name.0, Some (shown_of c)) ∷ []) now.ground p.ground)))

        pub entered-wide : Widens made g k
        entered-wide = widens-then made g h k grown entered.1

        -- there was no memory behind it
        pub no-room : (b : ℕ) (ys : Places) (ns ms : List Name) → IsAddedTo f os s c g k b ys ns ms (Err trees.OutOfMemory)
        no-room b ys ns ms = record { ok = tt; err = tt; same = entered-wide }

        pub added : (ys : Places) → ys ≡ with_place es m.name.0 place → (ns ms : List Name) → ms ≡ ns ++ n.name ∷ [] → IsAddedTo f os s c g k place ys ns ms (Ok tt)
        added ys e ns ms l = record {
          ok = record {
            commit = o;
            is = ap (λ r. original r f s c) (entered.1.rule ∙ same-rule) ∙ made-one.1;
            progress = subst (λ (z : Places). IsProgress f os k place z (after s c o)) (sym e) entered.0;
            name = n.name;
            standing = as-named k.store n o entered.1.ground.graph.store (commit-in-grown h.store k.store n o entered.1.store made-one.2.0);
            names = l;
          };
          err = tt;
          same = entered-wide;
        }

-- The projection of a head from scratch, with the commit that it is.
use Rattle.std.proofs.Common.{◌≡◌, true, List, Option, Some, None, IfSome, sym, ap, subst, ◌∙◌}
use Rattle.std.specs.Option.{option_map}
use Rattle.git_objects.specs.Paths.{Bytes}
use Rattle.git_objects.specs.Snapshots.{Graph, has}
use Rattle.object_store.specs.Objects.{Object}
use Rattle.object_store.specs.StoredSnapshots.{IsTreeOf}
use Rattle.commit_map.specs.Shown.{Entries, kept_at, shown_value}
use Rattle.commit_map.specs.declared.commit_map.Shown as code
use Rattle.commit_map.specs.declared.rule.Rule.{Rule}
use Rattle.filter_text.specs.Filters.{Filter}
use Rattle.workspace.specs.Workspaces.{shown}
use Rattle.projection_laws.specs.Projections.{projection}
use Rattle.projection_ground.specs.Asked.{IsNone}
use Rattle.projection_ground.specs.Grounds.{IsGround, Extends, commits_of}
use Rattle.history_ground.specs.Heads.{IsSeenObject}
use Rattle.projection_ground.specs.TrueMaps.{IsPutBehind, IsTakenOut, IsTrueMap}
use Rattle.history_ground.specs.TrueWalks.{IsMade, IsTrueWalk}
use Rattle.projection_ground.specs.declared.ground.Ground.{Ground}
use Rattle.projection_ground.specs.declared.true_maps.TrueMap.{TrueMap}
use Rattle.projection_ground.proofs.Asking.{extends-none}
use Rattle.projection_ground.proofs.Growing.{commits-same}
use Rattle.history_ground.proofs.HeadLemmas.{more-map, more-seen, still-map}
use Rattle.projection_ground.proofs.TrueEntries.{true-behind, true-out}

-- what a map of projections from scratch has of a commit
pub made-kept : (S : List Object) (g : Graph) (k : Rule) (f : Filter) (es : Entries) → IsTrueMap S g k f es → (n : Bytes) → has g n ≡ true → (o : Option code.Shown)
    → Some (option_map shown_value o) ≡ kept_at n es → IsMade S (projection k (shown f) g n) o
made-kept S g k f es t n there o e = record { is = t.values n (option_map shown_value o) (sym e) there; held = by o e }
  where
    by : (o : Option code.Shown) → Some (option_map shown_value o) ≡ kept_at n es → IfSome o (λ s. IsTreeOf S s.commit.0 s.tree.0)
    by None q = tt
    by (Some s) q = t.held n (shown_value s) (sym q)

-- the commit of a projection that was made
pub made-held : (S : List Object) (p : _) (o : Option code.Shown) (s : code.Shown) → IsMade S p o → o ≡ Some s → IsTreeOf S s.commit.0 s.tree.0 × (Some (shown_value s) ≡ p)
made-held S p o s w e = (subst (λ x. IfSome x (λ s. IsTreeOf S s.commit.0 s.tree.0)) e w.held, sym (ap (option_map shown_value) e) ∙ w.is)

-- the projection of the same commits
pub projection-same : (f : Filter) (n : Bytes) (g h : Ground) → IsGround g → Extends (IsSeenObject f g n) g h → projection h.rule (shown f) (commits_of h) n ≡ projection g.rule (shown f) (commits_of g) n
projection-same f n g h w a = λ i. projection (a.rule i) (shown f) (commits-same (IsSeenObject f g n) g h w a i) n

-- ---- a walk from a head

-- one call after another
module _ (f : Filter) (n : Bytes) (g h : Ground) (w : IsGround g) (a : Extends (IsSeenObject f g n) g h) (m : h.map ≡ g.map) (t : IsTrueMap g.store (commits_of g) g.rule f g.map) where
  pub walk-map : IsTrueMap h.store (commits_of h) h.rule f h.map
  walk-map = subst (IsTrueMap h.store (commits_of h) h.rule f) (sym m) (still-map f g n w h a g.map t)

  pub walk-still : IsTrueWalk f n g h
  walk-still = record { same = a; map = more-map f g n w h a h.store h.map walk-map }

  pub walk-then : (k : Ground) → IsTrueWalk f n h k → IsTrueWalk f n g k
  walk-then k x = record { same = more-seen f g n w h a k x.same; map = more-map f g n w h a k.store k.map x.map }

-- behind more tables
pub tables-still : (f : Filter) (n : Bytes) (g h : Ground) → IsGround g → Extends IsNone g h → h.map ≡ g.map → IsTrueMap g.store (commits_of g) g.rule f g.map → IsTrueWalk f n g h
tables-still f n g h w a m t = walk-still f n g h w (extends-none (IsSeenObject f g n) g h a) m t

-- ---- with the map of the filter in the place of the kept one

module _ (f : Filter) (g : Ground) (left : List TrueMap) (es : Entries) (w : IsGround g) (out : IsTakenOut f g.rule g.true_maps left es) where
  abbrev inner : Ground
  inner = record g { map = es; true_maps = left }

  pub inner-ground : IsGround inner
  inner-ground = record { graph = w.graph; memo = w.memo; maps = (true-out g.store (commits_of g) f g.rule g.true_maps left es out w.maps).0 }

  pub inner-map : IsTrueMap g.store (commits_of g) g.rule f es
  inner-map = (true-out g.store (commits_of g) f g.rule g.true_maps left es out w.maps).1

  -- and put back
  pub inner-put : (made : Object → Type 0) (k : Ground) (kept : Entries) (ms : List TrueMap) → Extends made inner k → IsTrueMap k.store (commits_of g) g.rule f k.map → IsPutBehind f g.rule k.map k.true_maps ms
      → Extends made g (record k { map = kept; true_maps = ms })
  inner-put made k kept ms x t put = record {
    graph = x.graph;
    rule = x.rule;
    tables = x.tables;
    store = x.store;
    ground = record {
      graph = x.ground.graph;
      memo = x.ground.memo;
      maps = true-behind k.store (commits_of k) f g.rule k.map k.true_maps ms put x.ground.maps
          (subst (λ (y : Graph). IsTrueMap k.store y g.rule f k.map) (sym (commits-same made inner k inner-ground x)) t);
    };
  }

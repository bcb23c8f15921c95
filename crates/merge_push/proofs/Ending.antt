-- Originals over a ground whose map was filled up, and the ground as it was before.
use Rattle.std.proofs.Math.Seq.{take-append_seam}
use Rattle.std.proofs.lemmas.List.{length-append}
use Rattle.std.proofs.Common.{◌≡◌, inl, inr, ◌≤◌, ◌+◌, List, [], length, take, IfErr, IfOk, Result, Ok, Err, sym, ap, subst, ◌∙◌, arith, append-nil}
use Rattle.std.specs.Global.{Vec}
use Rattle.git_objects.specs.Paths.{Bytes}
use Rattle.git_objects.specs.Snapshots.{Snapshot, Graph}
use Rattle.git_objects.specs.declared.name.Name.{Name}
use Rattle.object_store.specs.Objects.{Object}
use Rattle.object_store.specs.StoredSnapshots.{IsTreeOf}
use Rattle.object_store.proofs.Growth.{clash_as, grown_as}
use Rattle.commit_graph.specs.Graphs.{Row}
use Rattle.commit_map.specs.Shown.{Entries}
use Rattle.commit_map.specs.declared.rule.Rule.{Rule}
use Rattle.filter_apply.specs.Faults.{IsApplyFault}
use Rattle.filter_apply.specs.declared.fault.ApplyError.{ApplyError}
use Rattle.filter_apply.specs.declared.fault.ApplyError.TheVariants as apply
use Rattle.filter_text.specs.Filters.{Filter}
use Rattle.workspace.specs.Workspaces.{shown}
use Rattle.projection_laws.specs.Projections.{projection, projections}
use Rattle.projection_laws.specs.StoredGraphs.{IsGraphIn, graph_of}
use Rattle.projection_laws.proofs.HistoryLemmas.{each-map}
use Rattle.projection_ground.specs.Grounds.{Extends, IsGround, IsShownOf, commits_of}
use Rattle.projection_ground.specs.TrueMaps.{AreTrueMaps, IsPutBehind, IsTakenOut, IsTrueMap}
use Rattle.projection_ground.specs.declared.ground.Ground.{Ground}
use Rattle.projection_ground.specs.declared.true_maps.TrueMap.{TrueMap}
use Rattle.projection_ground.proofs.Growing.{commits-same, graph-grown, graph-same, maps-grown, tree-of-grown, true-map-grown}
use Rattle.projection_ground.proofs.TrueEntries.{true-behind, true-out}
use Rattle.history_ground.specs.Origins.{AreFirsts, Firsts, first_place}
use Rattle.fast_import.specs.declared.replayed.Made.{Made}
use Rattle.fast_import.proofs.Growing.{commits-grown}
use Rattle.push_laws.specs.PushLaws.{commit_of}
use Rattle.push_back.specs.Refusals.{of_apply}
use Rattle.push_back.specs.declared.refusal.OriginalError.{OriginalError}
use Rattle.push_back.proofs.LaidTrees.{refused-as}
use Rattle.merge_laws.specs.MergeLaws.{AreJoined, projected_names}
use Rattle.merge_laws.specs.MergeVerdicts.{begun, verdict_from}
use Rattle.merge_push.specs.Originals.{AreOriginals, ArePushed, AreWorkedOut, IsMadeFor, IsMadeOver, IsMadeUponHead, IsOriginalError}
use Rattle.merge_push.specs.Progressing.{HasTrueMap, IsFilledUp, Widens}
use Rattle.merge_push.proofs.Widening.{widens-as, widens-then}

-- ---- a ground whose map was filled up

module _ (f : Filter) (n : Bytes) (g h : Ground) (w : IsGround g) (x : IsFilledUp f g h) where
  same-commits : commits_of h ≡ commits_of g
  same-commits = commits-same (IsShownOf f (commits_of g)) g h w x.same

  both : (P : Rule × Graph → Type 0) → P (g.rule, commits_of g) → P (h.rule, commits_of h)
  both P p = subst P (λ i. (sym x.same.rule i, sym same-commits i)) p

  back : (P : Rule × Graph → Type 0) → P (h.rule, commits_of h) → P (g.rule, commits_of g)
  back P p = subst P (λ i. (x.same.rule i, same-commits i)) p

  pub firsts-filled : (os : Firsts) → AreFirsts f g g.store os → AreFirsts f h h.store os
  firsts-filled os a = record {
    first = λ m. a.first m ∙ sym (λ i. first_place (projections (x.same.rule i) (shown f) [] (same-commits i)) m);
    there = each-map (λ e. IsTreeOf g.store e.0 e.1.tree) (λ e. IsTreeOf h.store e.0 e.1.tree) (λ e y. tree-of-grown g.store h.store e.0 e.1.tree x.same.store y) os a.there;
  }

  pub pushed-filled : (ms : List Made) (cs : List Snapshot) → ArePushed f g n ms cs → ArePushed f h n ms cs
  pushed-filled ms cs a = record {
    standing = commits-grown g.store h.store x.same.store ms cs a.standing;
    read_again = a.read_again;
    joined = both (λ z. AreJoined (projected_names (projections z.0 (shown f) [] z.1)) (commit_of (projection z.0 (shown f) z.1 n)) cs) a.joined;
  }

  module _ (cs : List Snapshot) where
    shown-object : (o : Object) → IsShownOf f (commits_of g) o → IsMadeOver f g n cs o
    shown-object o y = inl y

    made-object : (o : Object) → IsMadeUponHead f h n cs o → IsMadeOver f g n cs o
    made-object o y = inr (back (λ z. IsMadeFor z.0 f (begun z.0 f z.1 n) cs o) y)

    pub widens-filled : Widens (IsMadeOver f g n cs) g h
    widens-filled = record {
      rows = ([], append-nil g.graph ∙ sym x.same.graph);
      entries = x.entries;
      rule = x.same.rule;
      tables = x.same.tables;
      store = grown_as (IsShownOf f (commits_of g)) (IsMadeOver f g n cs) g.store h.store shown-object x.same.store;
      ground = x.same.ground;
    }

    pub not-filled : (e : ApplyError) → IsApplyFault (IsShownOf f (commits_of g)) h.store e → AreWorkedOut f g n cs (IsMadeOver f g n cs) h.store (Err (record { n = 1; refusal = of_apply e }))
    not-filled (apply.Collision m) y = record { ok = tt; err = clash_as (IsShownOf f (commits_of g)) (IsMadeOver f g n cs) h.store m.0 shown-object y }
    not-filled apply.OutOfMemory y = record { ok = tt; err = tt }

    module _ (l : Ground) (r : Result (Vec Name) OriginalError) (a : AreWorkedOut f h n cs (IsMadeUponHead f h n cs) l.store r) (v : Widens (IsMadeUponHead f h n cs) h l) where
      err-of : (q : Result (Vec Name) OriginalError) → IfErr q (IsOriginalError h.rule f (begun h.rule f (commits_of h) n) cs (IsMadeUponHead f h n cs) l.store)
          → IfErr q (IsOriginalError g.rule f (begun g.rule f (commits_of g) n) cs (IsMadeOver f g n cs) l.store)
      err-of (Ok ns) y = tt
      err-of (Err e) y =
          back (λ z. IsOriginalError z.0 f (begun z.0 f z.1 n) cs (IsMadeOver f g n cs) l.store e)
          (refused-as (λ r. verdict_from h.rule f 1 (begun h.rule f (commits_of h) n) cs ≡ Err (e.n, r)) (λ r. verdict_from h.rule f 1 (begun h.rule f (commits_of h) n) cs ≡ Err (e.n, r)) (IsMadeUponHead f h n cs) (IsMadeOver f g n cs) l.store (λ r z. z) made-object e.refusal y)

      pub worked-filled : AreWorkedOut f g n cs (IsMadeOver f g n cs) l.store r
      worked-filled = record {
        ok = back (λ z. IfOk r (λ ns. AreOriginals z.0 f (begun z.0 f z.1 n) cs l.store ns.items)) a.ok;
        err = err-of r a.err;
      }

      pub widened : Widens (IsMadeOver f g n cs) g l
      widened = widens-then (IsMadeOver f g n cs) g h l widens-filled (widens-as (IsMadeUponHead f h n cs) (IsMadeOver f g n cs) h l made-object v)

-- ---- graph and map are cut

pub cut-rows : (made : Object → Type 0) (g l : Ground) → Widens made g l → take (length g.graph) l.graph ≡ g.graph
cut-rows made g l a = ap (take (length g.graph)) (sym a.rows.1) ∙ take-append_seam g.graph a.rows.0

pub cut-entries : (made : Object → Type 0) (g l : Ground) → Widens made g l → take (length g.map) l.map ≡ g.map
cut-entries made g l a = ap (take (length g.map)) (sym a.entries.1) ∙ take-append_seam g.map a.entries.0

pub rows-long : (made : Object → Type 0) (g l : Ground) → Widens made g l → length g.graph ≤ length l.graph
rows-long made g l a = let q : length l.graph ≡ length g.graph + length a.rows.0 = ap length (sym a.rows.1) ∙ length-append g.graph a.rows.0 in omega (arith, q)

pub cut : (made : Object → Type 0) (g l : Ground) → IsGround g → Widens made g l → (rows : List Row) (entries : Entries) → rows ≡ take (length g.graph) l.graph → entries ≡ take (length g.map) l.map
    → Widens made g (record l { graph = rows; map = entries; true_maps = [] })
cut made g l w a rows entries p q =
    let r : rows ≡ g.graph = p ∙ cut-rows made g l a in
    record {
      rows = ([], append-nil g.graph ∙ sym r);
      entries = ([], append-nil g.map ∙ sym (q ∙ cut-entries made g l a));
      rule = a.rule;
      tables = a.tables;
      store = a.store;
      ground = record { graph = subst (IsGraphIn l.store) (sym r) (graph-grown g.store l.store a.store g.graph w.graph); memo = a.ground.memo; maps = tt };
    }

-- ---- the map of true projections is taken out, and put back

module _ (f : Filter) (n : Bytes) (g : Ground) (left : List TrueMap) (es : Entries) (w : IsGround g) (out : IsTakenOut f g.rule g.true_maps left es) where
  abbrev pub inner : Ground
  inner = record g { map = es; true_maps = [] }

  pub inner-ground : IsGround inner
  inner-ground = record { graph = w.graph; memo = w.memo; maps = tt }

  true-map : IsTrueMap g.store (commits_of g) g.rule f es
  true-map = (true-out g.store (commits_of g) f g.rule g.true_maps left es out w.maps).1

  pub inner-map : HasTrueMap f inner
  inner-map = record { of = true-map.of; values = true-map.values }

  pub inner-firsts : (os : Firsts) → AreFirsts f g g.store os → AreFirsts f inner inner.store os
  inner-firsts os a = record { first = a.first; there = a.there }

  pub inner-pushed : (ms : List Made) (cs : List Snapshot) → ArePushed f g n ms cs → ArePushed f inner n ms cs
  inner-pushed ms cs a = record { standing = a.standing; read_again = a.read_again; joined = a.joined }

  pub inner-worked : (cs : List Snapshot) (S : List Object) (r : Result (Vec Name) OriginalError) → AreWorkedOut f inner n cs (IsMadeOver f inner n cs) S r → AreWorkedOut f g n cs (IsMadeOver f g n cs) S r
  inner-worked cs S r a = record { ok = a.ok; err = a.err }

  pub put-back : (made : Object → Type 0) (k : Ground) (ms : List TrueMap) (kept : Entries) → Widens made inner (record k { true_maps = [] }) → k.graph ≡ g.graph → k.map ≡ es → IsPutBehind f g.rule k.map left ms
      → Extends made g (record k { map = kept; true_maps = ms })
  put-back made k ms kept a q m put =
      let same : commits_of k ≡ commits_of g = ap (graph_of k.store) q ∙ graph-same g.store k.store a.store g.graph w.graph in
      let left-true = (true-out g.store (commits_of g) f g.rule g.true_maps left es out w.maps).0 in
      let all = maps-grown g.store k.store a.store g.graph w.graph left left-true in
      record {
        graph = q;
        rule = a.rule;
        tables = a.tables;
        store = a.store;
        ground = record {
          graph = a.ground.graph;
          memo = a.ground.memo;
          maps = true-behind k.store (commits_of k) f g.rule k.map left ms put
              (subst (λ (rows : List Row). AreTrueMaps k.store (graph_of k.store rows) left) (sym q) all)
              (subst (λ (c : Graph). IsTrueMap k.store c g.rule f k.map) (sym same) (subst (IsTrueMap k.store (commits_of g) g.rule f) (sym m) (true-map-grown g.store k.store (commits_of g) g.rule f es a.store true-map)));
        };
      }

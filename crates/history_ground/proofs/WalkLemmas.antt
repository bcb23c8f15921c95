-- A walk: the commits that wait, and what is kept.
use Rattle.std.proofs.Common.{◌≡◌, ℕ, ◌+◌, ◌<◌, ◌≤◌, true, List, [], ◌∷◌, ◌++◌, length, reverse, Option, Some, None, IsSome, Ok, refl, sym, ap, subst, ◌∙◌, append_assoc, arith}
use Rattle.std.proofs.lemmas.List.{length-append}
use Rattle.git_objects.specs.Paths.{Bytes}
use Rattle.git_objects.specs.Snapshots.{Snapshot, Graph, snapshot_name, has, is_graph, ancestors}
use Rattle.object_store.specs.Objects.{Object}
use Rattle.commit_graph.specs.Graphs.{Row}
use Rattle.commit_map.specs.Shown.{Shown, Entries, kept_at}
use Rattle.filter_text.specs.Filters.{Filter}
use Rattle.filter_apply.specs.Faults.{IsApplyFault}
use Rattle.filter_apply.specs.declared.fault.ApplyError.{ApplyError}
use Rattle.workspace.specs.Workspaces.{shown}
use Rattle.projection_laws.specs.Projections.{choice_of, projected, projection_by, projections}
use Rattle.projection_laws.specs.Filled.{IsFilled, lacking}
use Rattle.projection_laws.specs.StoredGraphs.{name_at, snapshot_named}
use Rattle.projection_laws.proofs.StoredGraphs.{name-is, split-at, whole-graph}
use Rattle.projection_ground.specs.Choosing.{Agree, commits_before, IsBelow}
use Rattle.projection_ground.specs.Grounds.{IsGround, commits_of, Extends, IsShownOf}
use Rattle.projection_ground.specs.Asked.{IsAskedFor}
use Rattle.projection_ground.specs.declared.seeing.Asked.{Asked}
use Rattle.history_ground.specs.Walks.{IsProjectedTo, IsSettled, IsStep, IsUnsettled, IsWalked}
use Rattle.projection_ground.specs.declared.ground.Ground.{Ground}
use Rattle.projection_ground.proofs.Growing.{commits-same, extends-as, extends-self, extends-then, snapshot-grown}
use Rattle.projection_ground.proofs.Filling.{filled-agrees, filled-more, filled-none, projection-at, weigh-set, none-front}
use Rattle.projection_ground.proofs.TurnLemmas.{IsPlaced, before-same, placed, some-placed}
use Rattle.history_ground.proofs.Waiting.{IsStack, IsWaiting, latest, left_in, less-below, less-more, waiting-below, waiting-end, waiting-more, waiting-start}

pub snapshot-same : (g h : Ground) (made : Object → Type 0) (place : ℕ) (c : Snapshot) (w : IsGround g) → Extends made g h → (p : IsPlaced g place c) → snapshot_named h.store (name_at g.graph place) ≡ Some c
snapshot-same g h made place c w a p =
    ap (snapshot_named h.store) (name-is g.store g.graph w.graph place p.row p.there)
    ∙ snapshot-grown g.store h.store a.store g.graph p.row (w.graph.each place p.row p.there) ∙ p.at.found

pub walked-nothing : (f : Filter) (head : Bytes) (g : Ground) (s : ℕ) → IsGround g → IsWalked f head g g s s
walked-nothing f head g s w = record {
  same = extends-self (IsShownOf f (commits_of g)) g w;
  map = filled-none g.rule (shown f) g.map (commits_of g) head;
  few = omega arith;
  counted = refl;
}

-- ---- what a step leaves

module _ (f : Filter) (head : Bytes) (g h k : Ground) (w : IsGround g) (s t u : ℕ) (walked : IsWalked f head g h s t) where
  G : Graph
  G = commits_of g

  same-commits : commits_of h ≡ commits_of g
  same-commits = commits-same (IsShownOf f (commits_of g)) g h w walked.same

  grows : Extends (IsShownOf f (commits_of h)) h k → Extends (IsShownOf f (commits_of g)) g k
  grows a = extends-then (IsShownOf f (commits_of g)) g h k walked.same (extends-as (IsShownOf f (commits_of h)) (IsShownOf f (commits_of g)) h k (λ o x. subst (λ (y : Graph). IsShownOf f y o) same-commits x) a)

  pub walked-unsettled : Extends (IsShownOf f (commits_of h)) h k → IsUnsettled h k t u → IsWalked f head g k s u
  walked-unsettled a n = record {
    same = grows a;
    map = subst (IsFilled g.rule (shown f) (commits_of g) head g.map) (sym n.map) walked.map;
    few = subst (λ (es : Entries). u + lacking es (ancestors (commits_of g) head) ≤ s + lacking g.map (ancestors (commits_of g) head)) (sym n.map)
        (let x = walked.few in let y = n.step in omega (arith, x, y));
    counted = (let x = walked.counted in let y = n.step in let z : length k.map ≡ length h.map = ap length n.map in omega (arith, x, y, z));
  }

  module _ (place : ℕ) (l : place < length g.graph) (ancestor : has (ancestors (commits_of g) head) (name_at g.graph place) ≡ true) (lacks : kept_at (name_at g.graph place) h.map ≡ None) where
    value-is : (v : Option Shown) → IsProjectedTo f h place v → v ≡ projection_by g.rule (shown f) g.map (commits_of g) (name_at g.graph place)
    value-is v is =
        let c = some-placed g place w l in
        let p = placed g place c.0 w l c.1 in
        let x = split-at g.store g.graph w.graph place p.row c.0 p.there p.at in
        let older-is : commits_before h place ≡ commits_before g place = before-same (IsShownOf f (commits_of g)) g h place w (omega (arith, l)) walked.same in
        let whole : is_graph (commits_of g) ≡ true = whole-graph g.store g.graph w.graph in
        let ks : Entries = projections g.rule (shown f) g.map (commits_before g place) in
        let name : snapshot_name c.0 ≡ name_at g.graph place = p.at.name ∙ sym (name-is g.store g.graph w.graph place p.row p.there) in
        let agree = filled-agrees g.rule (shown f) g.map (commits_of g) head h.map walked.map (x.0 ++ c.0 ∷ []) (commits_before g place) (x.1 ∙ sym (append_assoc x.0 (c.0 ∷ []) (commits_before g place))) whole in
        let named : snapshot_named h.store (name_at h.graph place) ≡ Some c.0 =
        ap (λ (rows : List Row). snapshot_named h.store (name_at rows place)) walked.same.graph ∙ snapshot-same g h (IsShownOf f (commits_of g)) place c.0 w walked.same p in
        let here = is c.0 named ks (subst (λ (x : Graph). Agree h.map ks x) (sym older-is) agree) in
        let old : kept_at (snapshot_name c.0) g.map ≡ None = ap (λ m. kept_at m g.map) name ∙ none-front (name_at g.graph place) g.map walked.map.added (ap (kept_at (name_at g.graph place)) walked.map.behind ∙ lacks) in
        sym here
        ∙ (λ i. projected (choice_of (walked.same.rule i) (shown f) (older-is i) ks c.0))
        ∙ sym (projection-at g.rule (shown f) g.map x.0 (commits_before g place) c.0 (ap is_graph (sym x.1) ∙ whole) old)
        ∙ ap (λ (y : Graph). projection_by g.rule (shown f) g.map y (snapshot_name c.0)) (sym x.1)
        ∙ ap (projection_by g.rule (shown f) g.map (commits_of g)) name

    pub walked-settled : Extends (IsShownOf f (commits_of h)) h k → IsSettled f place h k t u → IsWalked f head g k s u
    walked-settled a n =
        let map-is : k.map ≡ h.map ++ (name_at g.graph place, n.value) ∷ [] = n.map ∙ ap (λ (rows : List Row). h.map ++ (name_at rows place, n.value) ∷ []) walked.same.graph in
        let set = weigh-set 1 h.map (name_at g.graph place) n.value (ancestors (commits_of g) head) ancestor lacks in
        record {
          same = grows a;
          map = subst (IsFilled g.rule (shown f) (commits_of g) head g.map) (sym map-is)
              (filled-more g.rule (shown f) g.map (commits_of g) head h.map walked.map (name_at g.graph place) n.value ancestor lacks (value-is n.value n.is));
          few = subst (λ (es : Entries). u + lacking es (ancestors (commits_of g) head) ≤ s + lacking g.map (ancestors (commits_of g) head)) (sym map-is)
              (let x = walked.few in let y = n.step in omega (arith, x, y, set));
          counted = (let x = walked.counted in let y = n.step in let z : length k.map ≡ length h.map + 1 = ap length map-is ∙ length-append h.map ((name_at g.graph place, n.value) ∷ []) in omega (arith, x, y, z));
        }

-- ---- the loop

pub record IsWalking (f : Filter) (head : ℕ) (g h : Ground) (s t : ℕ) (asked : Asked) (waiting : List ℕ) : Type 0 where
  pub walked : IsWalked f (name_at g.graph head) g h s t
  pub asked_for : IsAskedFor f h asked
  pub waits : IsWaiting g head h.map waiting

pub walking-start : (f : Filter) (head : ℕ) (g : Ground) (s : ℕ) (asked : Asked) → IsGround g → head < length g.graph → kept_at (name_at g.graph head) g.map ≡ None → IsAskedFor f g asked → IsWalking f head g g s s asked (head ∷ [])
walking-start f head g s asked w l e a = record {
  walked = walked-nothing f (name_at g.graph head) g s w;
  asked_for = a;
  waits = waiting-start g w head l e;
}

-- ---- one turn of the loop

module _ (f : Filter) (head : ℕ) (g h k : Ground) (w : IsGround g) (s t u : ℕ) (asked now : Asked) (xs ys : List ℕ) (p : ℕ) (e : xs ≡ ys ++ p ∷ []) (v : IsWalking f head g h s t asked xs)
    (a : Extends (IsShownOf f (commits_of h)) h k) (b : IsAskedFor f k now) where
  stack : IsStack g (name_at g.graph head) h.map (p ∷ reverse ys)
  stack = latest g w head h.map xs ys p e v.waits

  pub place-in : p < length h.graph
  place-in = subst (λ (rows : List Row). p < length rows) (sym v.walked.same.graph) stack.0

  pub lacks-still : kept_at (name_at h.graph p) h.map ≡ None
  lacks-still = ap (λ (rows : List Row). kept_at (name_at rows p) h.map) v.walked.same.graph ∙ stack.2

  pub walked-below : IsUnsettled h k t u → IsWalked f (name_at g.graph head) g k s u
  walked-below n = walked-unsettled f (name_at g.graph head) g h k w s t u v.walked a n

  pub walking-below : (q : ℕ) (zs : List ℕ) → zs ≡ ys ++ (p ∷ q ∷ []) → IsBelow h p q → IsUnsettled h k t u → IsWalking f head g k s u now zs
  walking-below q zs z below n = record {
    walked = walked-below n;
    asked_for = b;
    waits = subst (λ (es : Entries). IsWaiting g head es zs) (sym n.map) (waiting-below g w head h.map xs ys p e v.waits h v.walked.same.graph refl q zs z below);
  }

  pub smaller-below : (q : ℕ) (zs : List ℕ) (m : ℕ) → zs ≡ ys ++ (p ∷ q ∷ []) → IsBelow h p q → IsUnsettled h k t u → left_in g head m k.map zs < left_in g head m h.map xs
  smaller-below q zs m z below n =
      subst (λ (es : Entries). left_in g head m es zs < left_in g head m h.map xs) (sym n.map) (less-below g w head h.map xs ys p e v.waits h v.walked.same.graph refl q zs z below m)

  map-is : (n : IsSettled f p h k t u) → k.map ≡ h.map ++ (name_at g.graph p, n.value) ∷ []
  map-is n = n.map ∙ ap (λ (rows : List Row). h.map ++ (name_at rows p, n.value) ∷ []) v.walked.same.graph

  pub walking-settled : IsSettled f p h k t u → IsWalking f head g k s u now ys
  walking-settled n = record {
    walked = walked-settled f (name_at g.graph head) g h k w s t u v.walked p stack.0 stack.1 stack.2 a n;
    asked_for = b;
    waits = subst (λ (es : Entries). IsWaiting g head es ys) (sym (map-is n)) (waiting-more g w head h.map xs ys p e v.waits n.value);
  }

  pub smaller-settled : IsSettled f p h k t u → left_in g head (length g.graph) k.map ys < left_in g head (length g.graph) h.map xs
  smaller-settled n =
      subst (λ (es : Entries). left_in g head (length g.graph) es ys < left_in g head (length g.graph) h.map xs) (sym (map-is n)) (less-more g w head h.map xs ys p e v.waits n.value)

-- at the end
pub walk-end : (f : Filter) (head : ℕ) (g h : Ground) (s t : ℕ) (asked : Asked) (xs : List ℕ) → xs ≡ [] → IsWalking f head g h s t asked xs → IsSome (kept_at (name_at g.graph head) h.map)
walk-end f head g h s t asked xs e v = waiting-end g head h.map xs e v.waits

-- what a step's result tells
pub step-below : (f : Filter) (p q : ℕ) (g h : Ground) (s t : ℕ) (o : Option ℕ) → IsStep {E = ApplyError} f p g h s t (Ok o) → o ≡ Some q → IsBelow g p q × IsUnsettled g h s t
step-below f p q g h s t o x e = subst (λ y. IsStep {E = ApplyError} f p g h s t (Ok y)) e x

pub step-settled : (f : Filter) (p : ℕ) (g h : Ground) (s t : ℕ) (o : Option ℕ) → IsStep {E = ApplyError} f p g h s t (Ok o) → o ≡ None → IsSettled f p g h s t
step-settled f p g h s t o x e = subst (λ y. IsStep {E = ApplyError} f p g h s t (Ok y)) e x

-- a fault of a step is one of the walk
pub fault-same : (f : Filter) (g h k : Ground) (w : IsGround g) → Extends (IsShownOf f (commits_of g)) g h → (e : ApplyError) → IsApplyFault (IsShownOf f (commits_of h)) k.store e → IsApplyFault (IsShownOf f (commits_of g)) k.store e
fault-same f g h k w a e x = subst (λ (y : Graph). IsApplyFault (IsShownOf f y) k.store e) (commits-same (IsShownOf f (commits_of g)) g h w a) x

-- A walk that projects commits from scratch, and puts what they become into the store.
use Rattle.std.proofs.Common.{◌≡◌, inl, inr, ℕ, ◌<◌, true, append_assoc, arith, List, [], ◌∷◌, ◌++◌, length, Option, Some, None, OnOk, Ok, Err, Result, Contains, refl, sym, ap, subst, ◌∙◌, reverse}
use Rattle.git_objects.specs.CommitBodies.{commit_from}
use Rattle.git_objects.specs.Names.{name, tree_name}
use Rattle.git_objects.specs.Paths.{Bytes}
use Rattle.git_objects.specs.Snapshots.{Snapshot, Graph, snapshot_commit, snapshot_name, has, is_graph, ancestors}
use Rattle.git_objects.specs.declared.kind.Kind.TheVariants.{Tree, Commit as CommitKind}
use Rattle.object_store.specs.Growth.{IsOnly}
use Rattle.object_store.specs.Objects.{Object, body_of, find_named}
use Rattle.object_store.specs.StoredSnapshots.{IsTreeOf, commit_named}
use Rattle.object_store.proofs.Growth.{has-grown}
use Rattle.object_store.proofs.Parts.{found-has}
use Rattle.object_store.specs.Objects as objects
use Rattle.commit_graph.specs.Graphs.{Row}
use Rattle.commit_map.specs.Shown.{Shown, Entries, kept_at, shown_value}
use Rattle.commit_map.specs.declared.commit_map.Shown as code
use Rattle.filter_apply.specs.Faults.{IsApplyFault}
use Rattle.filter_apply.specs.declared.fault.ApplyError.{ApplyError}
use Rattle.filter_text.specs.Filters.{Filter}
use Rattle.workspace.specs.Workspaces.{shown}
use Rattle.projection_laws.specs.Projections.{Choice, New, choice_of, own_commits, projected, projection, projection_by, projections, known_at}
use Rattle.projection_laws.specs.StoredGraphs.{name_at, snapshot_named}
use Rattle.projection_laws.proofs.StoredGraphs.{name-is, split-at, whole-graph}
use Rattle.projection_ground.specs.Asked.{IsAskedFor}
use Rattle.projection_ground.specs.Choosing.{Agree, commits_before, IsBelow}
use Rattle.projection_ground.specs.Grounds.{IsGround, Extends, IsShownOf, commits_of}
use Rattle.history_ground.specs.Heads.{IsSeenObject}
use Rattle.history_ground.specs.Making.{AreThere, IsBecome, IsEntered, IsTurnObject}
use Rattle.projection_ground.specs.TrueMaps.{AreHeld, IsTrueMap}
use Rattle.history_ground.specs.TrueWalks.{IsTrueStep, IsTrueWalk}
use Rattle.projection_ground.specs.Turns.{IsNew}
use Rattle.projection_ground.specs.declared.ground.Ground.{Ground}
use Rattle.projection_ground.specs.declared.seeing.Asked.{Asked}
use Rattle.projection_ground.proofs.Filling.{newer-known, projection-at}
use Rattle.projection_ground.proofs.Growing.{commits-same, extends-as, extends-self, extends-then, true-map-grown}
use Rattle.projection_ground.proofs.OwnPlaces.{has-behind, own-in}
use Rattle.history_ground.proofs.TakenTurns.{become, body-name, entered-new, fault-as, held-new, held-there, new-one, tree-name}
use Rattle.projection_ground.proofs.TrueEntries.{entry-more}
use Rattle.projection_ground.proofs.TurnLemmas.{IsPlaced, before-same, placed, some-placed}
use Rattle.history_ground.proofs.Waiting.{IsStack, IsWaiting, has-named, latest, left_in, less-below, less-more, waiting-below, waiting-more, waiting-start}
use Rattle.history_ground.proofs.WalkLemmas.{snapshot-same}

-- ---- one commit, where the map has projections from scratch

module _ (f : Filter) (made : Object → Type 0) (g h : Ground) (w : IsGround g) (a : Extends made g h) (t : IsTrueMap h.store (commits_of g) g.rule f h.map) (p : ℕ) (l : p < length g.graph) where
  abbrev before : Graph
  before = commits_before g p

  abbrev known : Entries
  known = projections g.rule (shown f) [] before

  one : (c : Snapshot) × (snapshot_named g.store (name_at g.graph p) ≡ Some c)
  one = some-placed g p w l

  at : IsPlaced g p one.0
  at = placed g p one.0 w l one.1

  parts : (newer : Graph) × (commits_of g ≡ newer ++ one.0 ∷ before)
  parts = split-at g.store g.graph w.graph p at.row one.0 at.there at.at

  whole : is_graph (parts.0 ++ one.0 ∷ before) ≡ true
  whole = ap is_graph (sym parts.1) ∙ whole-graph g.store g.graph w.graph

  named : snapshot_name one.0 ≡ name_at g.graph p
  named = at.at.name ∙ sym (name-is g.store g.graph w.graph p at.row at.there)

  agrees : Agree h.map known before
  agrees = λ n o hn e.
      let q : commits_of g ≡ (parts.0 ++ one.0 ∷ []) ++ before = parts.1 ∙ sym (append_assoc parts.0 (one.0 ∷ []) before) in
      t.values n o e (ap (λ (y : Graph). has y n) q ∙ has-behind (parts.0 ++ one.0 ∷ []) before n hn)
      ∙ ap (λ (y : Graph). known_at (projections g.rule (shown f) [] y) n) q
      ∙ newer-known g.rule (shown f) [] (parts.0 ++ one.0 ∷ []) before n (ap is_graph (sym q) ∙ whole-graph g.store g.graph w.graph) hn

  choice-is : (x : Choice) → IsBecome f h p x → choice_of g.rule (shown f) before known one.0 ≡ x
  choice-is x is =
      let older-is : commits_before h p ≡ before = before-same made g h p w (omega (arith, l)) a in
      let found : snapshot_named h.store (name_at h.graph p) ≡ Some one.0 = ap (λ (rows : List Row). snapshot_named h.store (name_at rows p)) a.graph ∙ snapshot-same g h made p one.0 w a at in
      sym (λ i. choice_of (a.rule i) (shown f) (older-is i) known one.0)
      ∙ is one.0 found known (subst (λ (y : Graph). Agree h.map known y) (sym older-is) agrees)

  -- what it becomes is its projection from scratch
  pub value-is : (x : Choice) → IsBecome f h p x → projected x ≡ projection g.rule (shown f) (commits_of g) (name_at g.graph p)
  value-is x is =
      sym (ap projected (choice-is x is))
      ∙ sym (projection-at g.rule (shown f) [] parts.0 before one.0 whole refl)
      ∙ ap (λ (y : Graph). projection_by g.rule (shown f) [] y (snapshot_name one.0)) (sym parts.1)
      ∙ ap (projection_by g.rule (shown f) [] (commits_of g)) named

  -- a commit of its own is among those that projecting makes
  pub own-is : (n : Bytes) (d : Snapshot) → has (ancestors (commits_of g) n) (name_at g.graph p) ≡ true → IsBecome f h p (New d) → Contains (own_commits g.rule (shown f) (commits_of g) (n ∷ [])) d
  own-is n d x is =
      subst (λ (y : Graph). Contains (own_commits g.rule (shown f) y (n ∷ [])) d) (sym parts.1)
      (own-in g.rule (shown f) parts.0 before one.0 d (n ∷ []) whole
      (ap (has (ancestors (parts.0 ++ one.0 ∷ before) n)) named ∙ ap (λ (y : Graph). has (ancestors y n) (name_at g.graph p)) (sym parts.1) ∙ x)
      (choice-is (New d) is))

  -- what a turn makes is of what projecting the head makes
  pub turn-seen : (n : Bytes) → has (ancestors (commits_of g) n) (name_at g.graph p) ≡ true → (o : Object) → IsTurnObject f h p [] o → IsSeenObject f g n o
  turn-seen n x o (inl s) = inl (inl (subst (λ (y : Graph). IsShownOf f y o) (commits-same made g h w a) s))
  turn-seen n x o (inr d) = inr (d.0, own-is n d.0 x d.1, d.3)

  -- the map has one projection from scratch more
  pub map-more : (k : Ground) → IsEntered f p h k → AreHeld k.store k.map → IsTrueMap k.store (commits_of g) g.rule f k.map
  map-more k e held =
      let v : Option Shown = projected e.choice in
      let is : k.map ≡ h.map ++ (name_at g.graph p, v) ∷ [] = e.map ∙ ap (λ (rows : List Row). h.map ++ (name_at rows p, v) ∷ []) a.graph in
      let there : has (commits_of g) (name_at g.graph p) ≡ true = has-named g w p l in
      record {
        of = subst (λ (es : Entries). (n : Bytes) (o : Option Shown) → kept_at n es ≡ Some o → has (commits_of g) n ≡ true) (sym is)
            (entry-more (λ n o. has (commits_of g) n ≡ true) h.map (name_at g.graph p) v t.of there);
        values = subst (λ (es : Entries). (n : Bytes) (o : Option Shown) → kept_at n es ≡ Some o → has (commits_of g) n ≡ true → o ≡ projection g.rule (shown f) (commits_of g) n) (sym is)
            (entry-more (λ n o. has (commits_of g) n ≡ true → o ≡ projection g.rule (shown f) (commits_of g) n) h.map (name_at g.graph p) v t.values (λ x. value-is e.choice e.is));
        held = held;
      }

-- ---- a step

module _ (f : Filter) (g h : Ground) (place : ℕ) (w : IsGround g) (a : Extends (IsShownOf f (commits_of g)) g h) (m : h.map ≡ g.map) (there : place < length g.graph) (held : AreHeld g.store g.map)
    (s : code.Shown) (b : Bytes) (t : (c : Snapshot) → snapshot_named g.store (name_at g.graph place) ≡ Some c → IsNew f g h place c s b) where
  there-held : AreThere g.store g.map
  there-held = held-there g.store g.map held

  abbrev n : IsNew f g h place (some-placed g place w there).0 s b
  n = new-one f g h place w a m there there-held s b t

  pub put-object : (o : Object) → IsOnly CommitKind b o → IsTurnObject f g place [] o
  put-object o x = inr (n.commit, become f g h place w a m there there-held s b t, refl, ap (λ q. record { kind = CommitKind; body = q }) (sym n.body) ∙ sym x)

  module _ (k : Ground) (u : Extends (IsOnly CommitKind b) h k) where
    pub put-same : Extends (IsTurnObject f g place []) g k
    put-same =
        extends-then (IsTurnObject f g place []) g h k (extends-as (IsShownOf f (commits_of g)) (IsTurnObject f g place []) g h (λ o x. inl x) a)
        (extends-as (IsOnly CommitKind b) (IsTurnObject f g place []) h k put-object u)

    module _ (q : k.map ≡ h.map ++ (name_at h.graph place, Some (shown_value s)) ∷ []) (found : find_named k.store (name CommitKind b) ≡ Some (record { kind = CommitKind; body = b })) where
      abbrev is : name CommitKind b ≡ snapshot_name n.commit
      is = body-name f g h place w a m there there-held s b t

      there-now : (objects.has CommitKind k.store (name CommitKind b) ≡ true) × (body_of CommitKind k.store (name CommitKind b) ≡ b)
      there-now = found-has k.store CommitKind (name CommitKind b) (record { kind = CommitKind; body = b }) found refl

      tree-now : IsTreeOf k.store (snapshot_name n.commit) (tree_name n.commit.tree)
      tree-now = record {
        commit = snapshot_commit n.commit;
        named = ap (commit_named k.store) (sym is) ∙ ap commit_from there-now.1 ∙ n.read;
        tree = refl;
        held = has-grown h.store k.store Tree (tree_name n.commit.tree) u.store (ap (objects.has Tree h.store) (sym (tree-name f g h place w a m there there-held s b t)) ∙ n.tree.held);
      }

      pub put-entered : IsEntered f place g k × AreHeld k.store k.map
      put-entered = (
        entered-new f g h place w a m there there-held s b t k q put-same.store (ap (objects.has CommitKind k.store) (sym is) ∙ there-now.0),
        held-new f g h place w a m there there-held s b t k q put-same.store tree-now held,
      )

-- the commit that was put is there
pub put-there : {T : Type 0} (h k : Ground) (es : Entries) (b : Bytes) → find_named h.store (name CommitKind b) ≡ Some (record { kind = CommitKind; body = b })
    → (r : Result T ApplyError) → OnOk r (k ≡ record h { map = es }) → OnOk r (find_named k.store (name CommitKind b) ≡ Some (record { kind = CommitKind; body = b }))
put-there h k es b found (Err x) q = tt
put-there h k es b found (Ok x) q = ap (λ (y : Ground). find_named y.store (name CommitKind b)) q ∙ found

-- ---- the loop

pub record IsMaking (f : Filter) (head : ℕ) (g h : Ground) (asked : Asked) (waiting : List ℕ) : Type 0 where
  pub walked : IsTrueWalk f (name_at g.graph head) g h
  pub asked_for : IsAskedFor f h asked
  pub waits : IsWaiting g head h.map waiting

pub making-start : (f : Filter) (head : ℕ) (g : Ground) (asked : Asked) → IsGround g → head < length g.graph → kept_at (name_at g.graph head) g.map ≡ None → IsTrueMap g.store (commits_of g) g.rule f g.map
    → IsAskedFor f g asked → IsMaking f head g g asked (head ∷ [])
making-start f head g asked w l e t a = record {
  walked = record { same = extends-self (IsSeenObject f g (name_at g.graph head)) g w; map = t };
  asked_for = a;
  waits = waiting-start g w head l e;
}

module _ (f : Filter) (head : ℕ) (g h k : Ground) (w : IsGround g) (asked now : Asked) (xs ys : List ℕ) (p : ℕ) (e : xs ≡ ys ++ p ∷ []) (v : IsMaking f head g h asked xs) where
  abbrev made : Object → Type 0
  made = IsSeenObject f g (name_at g.graph head)

  stack : IsStack g (name_at g.graph head) h.map (p ∷ reverse ys)
  stack = latest g w head h.map xs ys p e v.waits

  pub making-place : p < length h.graph
  making-place = subst (λ (rows : List Row). p < length rows) (sym v.walked.same.graph) stack.0

  pub making-lacks : kept_at (name_at h.graph p) h.map ≡ None
  making-lacks = ap (λ (rows : List Row). kept_at (name_at rows p) h.map) v.walked.same.graph ∙ stack.2

  seen-object : (o : Object) → IsTurnObject f h p [] o → made o
  seen-object = turn-seen f made g h w v.walked.same v.walked.map p stack.0 (name_at g.graph head) stack.1

  pub making-fault : (x : ApplyError) → IsApplyFault (IsTurnObject f h p []) k.store x → IsApplyFault made k.store x
  making-fault x y = fault-as (IsTurnObject f h p []) made k.store seen-object x y

  module _ (a : Extends (IsTurnObject f h p []) h k) where
    same-now : Extends made g k
    same-now = extends-then made g h k v.walked.same (extends-as (IsTurnObject f h p []) made h k seen-object a)

    pub walked-still : k.map ≡ h.map → IsTrueWalk f (name_at g.graph head) g k
    walked-still m = record {
      same = same-now;
      map = subst (IsTrueMap k.store (commits_of g) g.rule f) (sym m) (true-map-grown h.store k.store (commits_of g) g.rule f h.map a.store v.walked.map);
    }

    pub walked-more : IsEntered f p h k → AreHeld k.store k.map → IsTrueWalk f (name_at g.graph head) g k
    walked-more n held = record { same = same-now; map = map-more f made g h w v.walked.same v.walked.map p stack.0 k n held }

    pub making-below : (q : ℕ) (zs : List ℕ) → zs ≡ ys ++ (p ∷ q ∷ []) → IsBelow h p q → k.map ≡ h.map → IsAskedFor f k now → IsMaking f head g k now zs
    making-below q zs z below m b = record {
      walked = walked-still m;
      asked_for = b;
      waits = subst (λ (es : Entries). IsWaiting g head es zs) (sym m) (waiting-below g w head h.map xs ys p e v.waits h v.walked.same.graph refl q zs z below);
    }

    map-is : (n : IsEntered f p h k) → k.map ≡ h.map ++ (name_at g.graph p, projected n.choice) ∷ []
    map-is n = n.map ∙ ap (λ (rows : List Row). h.map ++ (name_at rows p, projected n.choice) ∷ []) v.walked.same.graph

    pub making-more : IsEntered f p h k × AreHeld k.store k.map → IsAskedFor f k now → IsMaking f head g k now ys
    making-more n b = record {
      walked = walked-more n.0 n.1;
      asked_for = b;
      waits = subst (λ (es : Entries). IsWaiting g head es ys) (sym (map-is n.0)) (waiting-more g w head h.map xs ys p e v.waits (projected n.0.choice));
    }

    pub smaller-more : IsEntered f p h k → left_in g head (length g.graph) k.map ys < left_in g head (length g.graph) h.map xs
    smaller-more n =
        subst (λ (es : Entries). left_in g head (length g.graph) es ys < left_in g head (length g.graph) h.map xs) (sym (map-is n)) (less-more g w head h.map xs ys p e v.waits (projected n.choice))

  pub smaller-still : (q : ℕ) (zs : List ℕ) (m : ℕ) → zs ≡ ys ++ (p ∷ q ∷ []) → IsBelow h p q → k.map ≡ h.map → left_in g head m k.map zs < left_in g head m h.map xs
  smaller-still q zs m z below s =
      subst (λ (es : Entries). left_in g head m es zs < left_in g head m h.map xs) (sym s) (less-below g w head h.map xs ys p e v.waits h v.walked.same.graph refl q zs z below m)

-- what a step's result tells
pub true-below : (f : Filter) (p q : ℕ) (g h : Ground) (o : Option ℕ) → IsTrueStep {E = ApplyError} f p g h (Ok o) → o ≡ Some q → IsBelow g p q × (h.map ≡ g.map)
true-below f p q g h o x e = subst (λ y. IsTrueStep {E = ApplyError} f p g h (Ok y)) e x

pub true-entered : (f : Filter) (p : ℕ) (g h : Ground) (o : Option ℕ) → IsTrueStep {E = ApplyError} f p g h (Ok o) → o ≡ None → IsEntered f p g h × AreHeld h.store h.map
true-entered f p g h o x e = subst (λ y. IsTrueStep {E = ApplyError} f p g h (Ok y)) e x

-- where branches join
pub true-from : {E : Type 0} (f : Filter) (place : ℕ) (g h k : Ground) (r q : Result (Option ℕ) E) → k ≡ h → q ≡ r → IsTrueStep f place g h r → IsTrueStep f place g k q
true-from f place g h k r q a b x = subst (λ y. IsTrueStep f place g y q) (sym a) (subst (λ y. IsTrueStep f place g h y) (sym b) x)

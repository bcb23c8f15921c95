-- A turn of a walk.
use Rattle.std.proofs.Common.{◌≡◌, ℕ, suc, ◌<◌, ◌≤◌, true, List, [], ◌∷◌, ◌++◌, map, take, length, slice_get, Some, IfSome, IfOk, IfErr, Result, Ok, Err, All, Contains, refl, sym, ap, subst, ◌∙◌, arith}
use Rattle.std.specs.Option.{option_map_or}
use Rattle.std.proofs.lemmas.List.{length-map}
use Rattle.std.proofs.lemmas.Option.{same_Some}
use Rattle.git_objects.specs.Paths.{Bytes}
use Rattle.git_objects.specs.Trees.{Flat}
use Rattle.git_objects.specs.Names.{name, tree_name}
use Rattle.git_objects.specs.Commits.{Letter, commit_body, commit_name}
use Rattle.git_objects.specs.Snapshots.{Snapshot, Graph, snapshot_commit, snapshot_name}
use Rattle.git_objects.specs.declared.kind.Kind.TheVariants.{Tree, Commit as CommitKind}
use Rattle.object_store.specs.Objects.{Object, has}
use Rattle.object_store.specs.Unfolding.{flat, StandsFor}
use Rattle.object_store.specs.StoredSnapshots.{commit_named}
use Rattle.object_store.proofs.Unfolding.{unfolding_law}
use Rattle.commit_graph.specs.Graphs.{Row, Reaches}
use Rattle.commit_map.specs.Shown.{Shown, Entries, kept_at, shown_value}
use Rattle.commit_map.specs.declared.commit_map.Shown as code
use Rattle.filter_text.specs.Filters.{Filter}
use Rattle.git_objects.specs.declared.name.Name.{Name}
use Rattle.filter_routes.specs.Lenses.{seen_through}
use Rattle.filter_routes.specs.Origins.{lens_of}
use Rattle.filter_apply.specs.Faults.{IsApplyFault}
use Rattle.filter_apply.specs.Hands.{IsShownObject}
use Rattle.filter_apply.specs.declared.fault.ApplyError.{ApplyError}
use Rattle.filter_apply.specs.declared.fault.ApplyError.TheVariants.{Collision, OutOfMemory}
use Rattle.object_store.proofs.Growth.{clash_as}
use Rattle.workspace.specs.Workspaces.{resolve, shown}
use Rattle.projection_laws.specs.Projections.{Choice, New, choice_of, chosen, leads, members, own}
use Rattle.projection_laws.specs.StoredGraphs.{name_at, graph_of, snapshot_named}
use Rattle.projection_laws.specs.Made.{own_commit_of}
use Rattle.projection_laws.specs.Projections as projections
use Rattle.projection_laws.proofs.StoredGraphs.{IsAt, at-row, name-is, older, row-at, split-at}
use Rattle.projection_ground.specs.Choosing.{parents_at, names_at, commits_before, Agree, AreKept, IsBelow, IsChoice, IsLacked, leads_at}
use Rattle.projection_ground.specs.declared.choosing.Choice as choices
use Rattle.projection_ground.specs.declared.choosing.Choice.TheVariants.{Below, Nothing, Member, New as CodeNew}
use Rattle.projection_ground.specs.Grounds.{IsGround, commits_of, Extends, IsShownOf}
use Rattle.projection_ground.specs.Asked.{IsShownBy}
use Rattle.projection_ground.specs.Turns.{Becomes, IsNew, IsOwn, IsOwnTurn, IsTurn, IsTurnUpon}
use Rattle.projection_ground.specs.declared.ground.Ground.{Ground}
use Rattle.projection_ground.specs.declared.turning.Turn.{Turn}
use Rattle.projection_ground.specs.declared.turning.Turn.TheVariants as turns
use Rattle.projection_ground.proofs.Growing.{commit-grown, extends-as, older-grown}
use Rattle.projection_ground.proofs.Asking.{shown-is}
use Rattle.projection_ground.proofs.Leading.{members-agree}

-- ---- the commit at a place

-- its row
pub record IsPlaced (g : Ground) (place : ℕ) (c : Snapshot) : Type 0 where
  pub row : Row
  pub there : slice_get g.graph place ≡ Some row
  pub at : IsAt g.store g.graph row c

pub placed : (g : Ground) (place : ℕ) (c : Snapshot) → IsGround g → place < length g.graph → snapshot_named g.store (name_at g.graph place) ≡ Some c → IsPlaced g place c
placed g place c w l e =
    let r = row-at g.store g.graph w.graph place l in
    let a = at-row g.store g.graph w.graph place r.0 r.1 in
    let same : a.0 ≡ c = same_Some a.0 c (sym a.1.found ∙ ap (snapshot_named g.store) (sym (name-is g.store g.graph w.graph place r.0 r.1)) ∙ e) in
    record { row = r.0; there = r.1; at = subst (IsAt g.store g.graph r.0) same a.1 }

-- there is one
pub some-placed : (g : Ground) (place : ℕ) → IsGround g → place < length g.graph → (c : Snapshot) × (snapshot_named g.store (name_at g.graph place) ≡ Some c)
some-placed g place w l =
    let r = row-at g.store g.graph w.graph place l in
    let a = at-row g.store g.graph w.graph place r.0 r.1 in
    (a.0, ap (snapshot_named g.store) (name-is g.store g.graph w.graph place r.0 r.1) ∙ a.1.found)

pub contains-here : {A : Type 0} (xs ys : List A) (x : A) → Contains (xs ++ x ∷ ys) x
contains-here [] ys x = (0, omega arith, refl)
contains-here (y ∷ xs) ys x =
    let w = contains-here xs ys x in
    let l : w.0 < length (xs ++ x ∷ ys) = w.1 in
    (suc w.0, omega (arith, l), w.2)

pub among-commits : (g : Ground) (place : ℕ) (c : Snapshot) → IsGround g → IsPlaced g place c → Contains (commits_of g) c
among-commits g place c w p =
    let s = split-at g.store g.graph w.graph place p.row c p.there p.at in
    subst (λ (x : Graph). Contains x c) (sym s.1) (contains-here s.0 (older g.store g.graph w.graph place) c)

pub parents-named : (g : Ground) (place : ℕ) (c : Snapshot) → IsPlaced g place c → names_at g.graph (parents_at g.graph place) ≡ c.parents
parents-named g place c p = ap (λ o. names_at g.graph (option_map_or (λ (r : Row). r.parents) o [])) p.there ∙ sym p.at.parents

pub few-parents : (g : Ground) (place : ℕ) → IsGround g → place < length g.graph → (ps : List ℕ) → ps ≡ parents_at g.graph place → length ps ≤ 16
few-parents g place w l ps e =
    let r = row-at g.store g.graph w.graph place l in
    let a = at-row g.store g.graph w.graph place r.0 r.1 in
    let few : length a.1.commit.parents ≤ 16 = a.1.spelled.few in
    let q : a.1.commit.parents ≡ map (name_at g.graph) r.0.parents = ap (λ (x : Snapshot). x.parents) a.1.is ∙ a.1.parents in
    let s : ps ≡ r.0.parents = e ∙ ap (λ o. option_map_or (λ (x : Row). x.parents) o []) r.1 in
    let n : length ps ≡ length a.1.commit.parents = ap length s ∙ sym (length-map r.0.parents (name_at g.graph)) ∙ ap length (sym q) in
    omega (arith, few, n)

pub tree-held : (g : Ground) (place : ℕ) (t : Bytes) → IsGround g → place < length g.graph → IfSome (slice_get g.graph place) (λ r. t ≡ r.tree) → has Tree g.store t ≡ true
tree-held g place t w l h =
    let r = row-at g.store g.graph w.graph place l in
    let a = at-row g.store g.graph w.graph place r.0 r.1 in
    ap (has Tree g.store) (subst (λ o. IfSome o (λ (x : Row). t ≡ x.tree)) r.1 h) ∙ a.1.tree_held

pub tree-is : (g : Ground) (place : ℕ) (c : Snapshot) (t : Bytes) → IsPlaced g place c → IfSome (slice_get g.graph place) (λ r. t ≡ r.tree) → flat g.store t ≡ c.tree
tree-is g place c t p h = ap (flat g.store) (subst (λ o. IfSome o (λ (x : Row). t ≡ x.tree)) p.there h) ∙ p.at.tree

pub commit-held : (g : Ground) (place : ℕ) (n : Bytes) → IsGround g → place < length g.graph → IfSome (slice_get g.graph place) (λ r. n ≡ r.name) → has CommitKind g.store n ≡ true
commit-held g place n w l h =
    let r = row-at g.store g.graph w.graph place l in
    let a = at-row g.store g.graph w.graph place r.0 r.1 in
    ap (has CommitKind g.store) (subst (λ o. IfSome o (λ (x : Row). n ≡ x.name)) r.1 h) ∙ a.1.held

pub name-at-is : (g : Ground) (place : ℕ) (n : Bytes) → IsGround g → place < length g.graph → IfSome (slice_get g.graph place) (λ r. n ≡ r.name) → n ≡ name_at g.graph place
name-at-is g place n w l h =
    let r = row-at g.store g.graph w.graph place l in
    subst (λ o. IfSome o (λ (x : Row). n ≡ x.name)) r.1 h ∙ sym (name-is g.store g.graph w.graph place r.0 r.1)

-- ---- what stays while the ground grows

pub below-same : (g h : Ground) (place q : ℕ) → h.graph ≡ g.graph → h.map ≡ g.map → IsBelow h place q → IsBelow g place q
below-same g h place q e m b = record {
  before = b.before;
  reached = subst (λ (rows : List Row). Reaches rows place q) e b.reached;
  lacked = (λ i. kept_at (name_at (sym e i) q) (sym m i)) ∙ b.lacked;
}

pub before-same : (made : Object → Type 0) (g h : Ground) (place : ℕ) → IsGround g → place ≤ length g.graph → Extends made g h → commits_before h place ≡ commits_before g place
before-same made g h place w l a = ap (λ (rows : List Row). graph_of h.store (take place rows)) a.graph ∙ older-grown g.store h.store a.store g.graph w.graph place l

pub agree-same : (made : Object → Type 0) (g h : Ground) (place : ℕ) (ks : Entries) → IsGround g → place ≤ length g.graph → Extends made g h → h.map ≡ g.map → Agree g.map ks (commits_before g place) → Agree h.map ks (commits_before h place)
agree-same made g h place ks w l a m k =
    subst (λ (older : Graph). Agree h.map ks older) (sym (before-same made g h place w l a)) (subst (λ (es : Entries). Agree es ks (commits_before g place)) (sym m) k)

-- ---- the turn

module _ (made : Object → Type 0) (f : Filter) (g h : Ground) (place : ℕ) (c : Snapshot) (w : IsGround g) (l : place < length g.graph) (a : Extends made g h) (m : h.map ≡ g.map) (p : IsPlaced g place c)
    (kept : AreKept g (parents_at g.graph place)) (low : All (λ q. q < place) (parents_at g.graph place)) (tree : Bytes) (stands : StandsFor h.store tree (shown f c.tree))
    (ms : List Shown) (are : ms ≡ members g.map (names_at g.graph (parents_at g.graph place))) where
  there : place ≤ length g.graph
  there = omega (arith, l)

  -- what was chosen is the commit's choice
  same-choice : (ks : Entries) → Agree g.map ks (commits_before g place) → choice_of g.rule (shown f) (commits_before g place) ks c ≡ chosen h.rule (leads_at h place ks) (flat h.store tree) c.letter ms
  same-choice ks k =
      let names : names_at g.graph (parents_at g.graph place) ≡ c.parents = parents-named g place c p in
      let all : members ks c.parents ≡ ms = ap (members ks) (sym names) ∙ sym (members-agree g place w there ks k (parents_at g.graph place) low kept) ∙ sym are in
      (λ i. chosen g.rule (leads (commits_before g place) ks (sym names i)) (sym stands.map i) c.letter (all i))
      ∙ (λ i. chosen (sym a.rule i) (λ x. leads (sym (before-same made g h place w there a) i) ks (names_at (sym a.graph i) (parents_at (sym a.graph i) place)) x) (flat h.store tree) c.letter ms)

  named : tree_name (flat h.store tree) ≡ tree
  named = (unfolding_law h.store tree a.ground.graph.store stands.held).named

  new-turn : (s : code.Shown) (b : Bytes) → Becomes f g place c (New (own (flat h.store tree) c.letter ms)) → IsOwn tree ms c.letter s b → IsNew f g h place c s b
  unfolding commit_name
  new-turn s b k o =
      let d : Snapshot = own (flat h.store tree) c.letter ms in
      let same : own_commit_of tree ms c.letter ≡ snapshot_commit d = (λ i. record { tree = sym named i; parents = map (λ (x : Shown). x.commit) ms; letter = c.letter }) in
      let name-is : s.commit.0 ≡ snapshot_name d = o.name ∙ ap (name CommitKind) (o.body.body ∙ ap commit_body same) in
      record {
        commit = d;
        becomes = k;
        names = (λ i. record { commit = name-is i; tree = (o.tree ∙ sym named) i });
        body = o.body.body ∙ ap commit_body same;
        read = o.body.read ∙ ap Some same;
        tree = record { held = ap (has Tree h.store) o.tree ∙ stands.held; map = ap (flat h.store) o.tree };
      }

  pub turn-upon : (t : Turn) → IsTurnUpon h place tree c.letter ms t → IsTurn f g h place c t
  turn-upon (turns.Below q) x = below-same g h place q a.graph m x
  turn-upon (turns.Kept o) x = λ ks k. same-choice ks k ∙ x ks (agree-same made g h place ks w there a m k)
  turn-upon (turns.New s b) x = new-turn s b.items (λ ks k. same-choice ks k ∙ x.0 ks (agree-same made g h place ks w there a m k)) x.1

-- ---- choices

pub choice-below : (g : Ground) (place : ℕ) (ps : List ℕ) (d : Snapshot) (v : Entries → Choice) (x : choices.Choice) (q : ℕ) → IsChoice g place ps d v x → x ≡ Below q → IsLacked g ps q
choice-below g place ps d v x q h e = subst (IsChoice g place ps d v) e h

pub choice-nothing : (g : Ground) (place : ℕ) (ps : List ℕ) (d : Snapshot) (v : Entries → Choice) (x : choices.Choice) → IsChoice g place ps d v x → x ≡ Nothing → (ks : Entries) → Agree g.map ks (commits_before g place) → v ks ≡ projections.Nothing
choice-nothing g place ps d v x h e = subst (IsChoice g place ps d v) e h

pub choice-member : (g : Ground) (place : ℕ) (ps : List ℕ) (d : Snapshot) (v : Entries → Choice) (x : choices.Choice) (m : code.Shown) → IsChoice g place ps d v x → x ≡ Member m → (ks : Entries) → Agree g.map ks (commits_before g place) → v ks ≡ projections.Member (shown_value m)
choice-member g place ps d v x m h e = subst (IsChoice g place ps d v) e h

pub choice-new : (g : Ground) (place : ℕ) (ps : List ℕ) (d : Snapshot) (v : Entries → Choice) (x : choices.Choice) → IsChoice g place ps d v x → x ≡ CodeNew → (ks : Entries) → Agree g.map ks (commits_before g place) → v ks ≡ New d
choice-new g place ps d v x h e = subst (IsChoice g place ps d v) e h

own-upon : (g : Ground) (place : ℕ) (tree : Bytes) (letter : Letter) (ms : List Shown) →
    ((ks : Entries) → Agree g.map ks (commits_before g place) → chosen g.rule (leads_at g place ks) (flat g.store tree) letter ms ≡ New (own (flat g.store tree) letter ms)) →
    (t : Turn) → IsOwnTurn tree ms letter t → IsTurnUpon g place tree letter ms t
own-upon g place tree letter ms h (turns.Below q) o = absurd o
own-upon g place tree letter ms h (turns.Kept x) o = absurd o
own-upon g place tree letter ms h (turns.New s b) o = (h, o)

pub made-upon : {E : Type 0} (g : Ground) (place : ℕ) (tree : Bytes) (letter : Letter) (ms : List Shown) (r : Result Turn E) →
    ((ks : Entries) → Agree g.map ks (commits_before g place) → chosen g.rule (leads_at g place ks) (flat g.store tree) letter ms ≡ New (own (flat g.store tree) letter ms)) →
    IfOk r (IsOwnTurn tree ms letter) → IfOk r (IsTurnUpon g place tree letter ms)
made-upon g place tree letter ms (Ok t) h o = own-upon g place tree letter ms h t o
made-upon g place tree letter ms (Err e) h o = tt

-- ---- what is shown

shown-hand : (f : Filter) (G : Graph) (c : Snapshot) (t : Flat) → Contains G c → t ≡ c.tree → (o : Object) → IsShownObject (resolve f t) t o → IsShownOf f G o
shown-hand f G c t m e o h = (c, m, subst (λ (u : Flat). IsShownObject (resolve f u) u o) e h)

module _ (f : Filter) (g h : Ground) (place : ℕ) (root : Bytes) (r : Result Name ApplyError) (w : IsGround g) (l : place < length g.graph) (t : IfSome (slice_get g.graph place) (λ x. root ≡ x.tree))
    (s : IsShownBy (resolve f (flat g.store root)) root g h r) where
  hand : (o : Object) → IsShownObject (resolve f (flat g.store root)) (flat g.store root) o → IsShownOf f (commits_of g) o
  hand o =
      let c = some-placed g place w l in
      let p = placed g place c.0 w l c.1 in
      shown-hand f (commits_of g) c.0 (flat g.store root) (among-commits g place c.0 w p) (tree-is g place c.0 root p t) o

  pub seen-same : Extends (IsShownOf f (commits_of g)) g h
  seen-same = extends-as (IsShownObject (resolve f (flat g.store root)) (flat g.store root)) (IsShownOf f (commits_of g)) g h hand s.same

  pub seen-fault : (e : ApplyError) → r ≡ Err e → IsApplyFault (IsShownOf f (commits_of g)) h.store e
  seen-fault e q = by e (subst (λ x. IfErr x (IsApplyFault (IsShownObject (resolve f (flat g.store root)) (flat g.store root)) h.store)) q s.err)
    where
      by : (e : ApplyError) → IsApplyFault (IsShownObject (resolve f (flat g.store root)) (flat g.store root)) h.store e → IsApplyFault (IsShownOf f (commits_of g)) h.store e
      by (Collision n) x = clash_as (IsShownObject (resolve f (flat g.store root)) (flat g.store root)) (IsShownOf f (commits_of g)) h.store n.0 hand x
      by OutOfMemory x = tt

pub handed-on : {T E : Type 0} (Q : E → Type 0) (r : Result T E) (d e : E) → r ≡ Err d → d ≡ e → Q e → IfErr r Q
handed-on Q r d e q s x = subst (λ y. IfErr y Q) (sym q) (subst Q (sym s) x)

pub seen-stands : (f : Filter) (g h : Ground) (place : ℕ) (c : Snapshot) (root tree : Bytes) → IsPlaced g place c → IfSome (slice_get g.graph place) (λ x. root ≡ x.tree)
    → StandsFor h.store tree (seen_through (lens_of (resolve f (flat g.store root))) (flat g.store root)) → StandsFor h.store tree (shown f c.tree)
seen-stands f g h place c root tree p t s =
    subst (λ (u : Flat). StandsFor h.store tree (shown f u)) (tree-is g place c root p t) (subst (StandsFor h.store tree) (sym (shown-is f (flat g.store root))) s)

pub named-grown : (made : Object → Type 0) (g h : Ground) (place : ℕ) (c : Snapshot) (w : IsGround g) → Extends made g h → (p : IsPlaced g place c) → commit_named h.store (name_at h.graph place) ≡ Some p.at.commit
named-grown made g h place c w a p =
    ap (commit_named h.store) (ap (λ (rows : List Row). name_at rows place) a.graph ∙ name-is g.store g.graph w.graph place p.row p.there)
    ∙ commit-grown g.store h.store a.store p.row.name p.at.held ∙ p.at.named

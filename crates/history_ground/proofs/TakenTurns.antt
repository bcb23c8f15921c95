-- A commit that is projected, and what it becomes put into the store.
use Rattle.std.proofs.Common.{◌≡◌, inl, inr, ℕ, ◌<◌, Bool, true, false, cond, ◌||◌, List, [], ◌∷◌, ◌++◌, length, map, Option, Some, None, IfSome, IfErr, OnOk, Result, Ok, Err, unwrap_or, refl, sym, ap, subst, ◌∙◌, true≢false}
use Rattle.std.specs.List.{cons_option, filter_map, list_all}
use Rattle.std.specs.Option.{is_some, option_map, option_to_list}
use Rattle.std.specs.Cmp.Lexicographic.{bytes_decides}
use Rattle.std.proofs.lemmas.Bool.{and_parts}
use Rattle.std.proofs.lemmas.Option.{none-some, same_Some}
use Rattle.git_objects.specs.Paths.{Bytes, same_bytes}
use Rattle.git_objects.specs.Lists.{Each}
use Rattle.git_objects.specs.Names.{name, tree_name}
use Rattle.git_objects.specs.Commits.{commit_name}
use Rattle.git_objects.specs.Snapshots.{Snapshot, snapshot_commit, snapshot_name, add_all}
use Rattle.git_objects.specs.declared.kind.Kind.TheVariants.{Tree, Commit as CommitKind}
use Rattle.object_store.specs.Objects.{Object, has}
use Rattle.object_store.specs.Growth.{IsGrownBy}
use Rattle.object_store.specs.StoredSnapshots.{IsTreeOf}
use Rattle.object_store.specs.Unfolding.{flat}
use Rattle.object_store.proofs.Growth.{clash_as, has-grown, stands-grown}
use Rattle.commit_map.specs.Shown.{Shown, Entries, kept_at, shown_value}
use Rattle.commit_map.specs.declared.commit_map.Shown as code
use Rattle.filter_text.specs.Filters.{Filter}
use Rattle.filter_apply.specs.Faults.{IsApplyFault}
use Rattle.filter_apply.specs.declared.fault.ApplyError.{ApplyError}
use Rattle.filter_apply.specs.declared.fault.ApplyError.TheVariants.{Collision, OutOfMemory}
use Rattle.workspace.specs.Workspaces.{shown}
use Rattle.projection_laws.specs.Projections.{Member, New, known_at, leads, members, own_commit, projected, shown_of}
use Rattle.projection_laws.specs.StoredGraphs.{name_at, snapshot_named}
use Rattle.projection_laws.specs.Histories.{AreMade, is_among}
use Rattle.projection_laws.proofs.HistoryLemmas.{each-distinct, member-of, new-parents}
use Rattle.projection_ground.specs.Choosing.{commits_before, IsBelow}
use Rattle.projection_ground.specs.Grounds.{IsGround, Extends, IsShownOf, commits_of}
use Rattle.projection_ground.specs.Asked.{IsNone}
use Rattle.history_ground.specs.Making.{with_name, AreThere, IsAdded, IsFit, IsTakenIn, IsBecome, IsTurnObject, IsEntered, IsReady, IsTaken}
use Rattle.projection_ground.specs.TrueMaps.{AreHeld}
use Rattle.projection_ground.specs.Turns.{Becomes, IsNew, kept_choice}
use Rattle.projection_ground.specs.declared.ground.Ground.{Ground}
use Rattle.projection_ground.specs.declared.turning.Turn.TheVariants as turns
use Rattle.projection_ground.proofs.Filling.{kept-append, kept-front}
use Rattle.projection_ground.proofs.OwnChoices.{agrees-itself}
use Rattle.filter_apply.proofs.Truths.{are_grown}
use Rattle.projection_ground.proofs.Growing.{commit-there, extends-as, extends-map, extends-then, front-self, graph-grown, held-grown, maps-grown}
use Rattle.history_ground.proofs.MadeHistories.{IsIn, found-in, made-grown, made-more}
use Rattle.object_store.proofs.PutObjects.{commit_fits}
use Rattle.history_ground.proofs.Steps.{Turns, kept-projected}
use Rattle.projection_ground.proofs.TurnLemmas.{some-placed}

-- ---- a ground with a store that has grown

pub extends-store : (made : Object → Type 0) (g : Ground) (T : List Object) → IsGround g → IsGrownBy made g.store T → Extends made g (record g { store = T })
extends-store made g T w a = record {
  graph = refl;
  rule = refl;
  tables = front-self g.tables;
  store = a;
  ground = record {
    graph = graph-grown g.store T a g.graph w.graph;
    memo = are_grown g.store T g.tables g.memo a w.memo;
    maps = maps-grown g.store T a g.graph w.graph g.true_maps w.maps;
  };
}

pub extends-kept : (made : Object → Type 0) (g h k : Ground) (es : Entries) → Extends made g h → k ≡ record h { map = es } → Extends made g k
extends-kept made g h k es a e = subst (λ (x : Ground). Extends made g x) (sym e) (extends-map made g h es a)

-- after the call that keeps an entry
pub kept-either : {T : Type 0} (made : Object → Type 0) (g h k : Ground) (es : Entries) (r : Result T ApplyError) → Extends made g h → OnOk r (k ≡ record h { map = es }) → IfErr r (λ e. IsApplyFault IsNone h.store e × (k ≡ h)) → Extends made g k
kept-either made g h k es (Ok x) a e f = extends-kept made g h k es a e
kept-either made g h k es (Err x) a e f = subst (λ (y : Ground). Extends made g y) (sym f.1) a

pub fault-as : (made more : Object → Type 0) (S : List Object) → ((o : Object) → made o → more o) → (e : ApplyError) → IsApplyFault made S e → IsApplyFault more S e
fault-as made more S f (Collision n) x = clash_as made more S n.0 f x
fault-as made more S f OutOfMemory x = tt

pub fault-either : {T : Type 0} (made more : Object → Type 0) (S : List Object) → ((o : Object) → made o → more o) → (r : Result T ApplyError) → IfErr r (IsApplyFault made S) → IfErr r (IsApplyFault more S)
fault-either made more S f (Ok x) h = tt
fault-either made more S f (Err e) h = fault-as made more S f e h

-- ---- what is kept is in the store

-- so is each of these projections that is kept
abbrev pub Keeps : (Shown → Type 0) → Entries → Type 0
Keeps P es = (n : Bytes) (m : Shown) → kept_at n es ≡ Some (Some m) → P m

keeps-more : (P : Shown → Type 0) (es : Entries) (n : Bytes) (v : Option Shown) → Keeps P es → IfSome v P → Keeps P (es ++ (n, v) ∷ [])
keeps-more P es n v h k = λ q m e. by q m e (kept_at q es) refl
  where
    here : (q : Bytes) (m : Shown) (b : Bool) → cond b (Some v) None ≡ Some (Some m) → P m
    here q m true e = subst (λ o. IfSome o P) (same_Some v (Some m) e) k
    here q m false e = absurd (none-some (Some m) e)

    by : (q : Bytes) (m : Shown) → kept_at q (es ++ (n, v) ∷ []) ≡ Some (Some m) → (o : Option (Option Shown)) → kept_at q es ≡ o → P m
    by q m e None i = here q m (same_bytes q n) (sym (kept-append q es ((n, v) ∷ []) i) ∙ e)
    by q m e (Some o) i = h q m (i ∙ sym (kept-front q es ((n, v) ∷ []) o i) ∙ e)

there-grown : {made : Object → Type 0} (S T : List Object) (es : Entries) → IsGrownBy made S T → AreThere S es → AreThere T es
there-grown S T es g h = λ n m e. has-grown S T CommitKind m.commit g (h n m e)

pub held-there : (S : List Object) (es : Entries) → AreHeld S es → AreThere S es
held-there S es h = λ n m e. let w = h n m e in commit-there S m.commit w.commit w.named

module _ (P : Shown → Type 0) (es : Entries) (h : Keeps P es) where
  known-keep : (ns : List Bytes) → Each P (filter_map (known_at es) ns)
  known-keep [] = tt
  known-keep (n ∷ ns) = by (kept_at n es) refl (known-keep ns)
    where
      by : (o : Option (Option Shown)) → kept_at n es ≡ o → Each P (filter_map (known_at es) ns) → Each P (cons_option (unwrap_or o None) (filter_map (known_at es) ns))
      by None e k = k
      by (Some None) e k = k
      by (Some (Some m)) e k = (h n m e, k)

  members-keep : (ns : List Bytes) → Each P (members es ns)
  members-keep ns = each-distinct P [] (filter_map (known_at es) ns) tt (known-keep ns)

commits-held : (S : List Object) (ms : List Shown) → Each (λ (m : Shown). has CommitKind S m.commit ≡ true) ms → Each (λ n. has CommitKind S n ≡ true) (map (λ (m : Shown). m.commit) ms)
commits-held S [] h = tt
commits-held S (m ∷ ms) h = (h.0, commits-held S ms h.1)

pub one-held : (S : List Object) (ns : List Bytes) (n : Bytes) → list_all (has CommitKind S) ns ≡ true → is_among n ns ≡ true → has CommitKind S n ≡ true
one-held S [] n h e = absurd (true≢false (sym e))
one-held S (m ∷ ns) n h e = let w = and_parts (has CommitKind S m) (list_all (has CommitKind S) ns) h in by (same_bytes n m) refl e w.0 (one-held S ns n w.1)
  where
    by : (b : Bool) → same_bytes n m ≡ b → (b || is_among n ns) ≡ true → has CommitKind S m ≡ true → (is_among n ns ≡ true → has CommitKind S n ≡ true) → has CommitKind S n ≡ true
    by true q e x k = ap (has CommitKind S) ((bytes_decides n m).0 q) ∙ x
    by false q e x k = k e

-- ---- a turn

module _ (f : Filter) (g h : Ground) (place : ℕ) (w : IsGround g) (a : Extends (IsShownOf f (commits_of g)) g h) (m : h.map ≡ g.map) (there : place < length g.graph) (held : AreThere g.store g.map) where
  member-keeps : (P : Shown → Type 0) → Keeps P g.map → (x : Shown) → IsBecome f g place (Member x) → P x
  member-keeps P keeps x is =
      let c = some-placed g place w there in
      member-of g.rule P (leads (commits_before g place) g.map c.0.parents) (shown f c.0.tree) c.0.letter (members g.map c.0.parents) x
      (members-keep P g.map keeps c.0.parents) (is c.0 c.1 g.map (agrees-itself g.map (commits_before g place)))

  parents-held : (d : Snapshot) → IsBecome f g place (New d) → Each (λ n. has CommitKind g.store n ≡ true) d.parents
  parents-held d is =
      let c = some-placed g place w there in
      subst (Each (λ n. has CommitKind g.store n ≡ true))
      (sym (new-parents g.rule (leads (commits_before g place) g.map c.0.parents) (shown f c.0.tree) c.0.letter (members g.map c.0.parents) d (is c.0 c.1 g.map (agrees-itself g.map (commits_before g place)))))
      (commits-held g.store (members g.map c.0.parents) (members-keep (λ (y : Shown). has CommitKind g.store y.commit ≡ true) g.map held c.0.parents))

  grown-parents : (ps : List Bytes) → Each (λ n. has CommitKind g.store n ≡ true) ps → Each (λ n. has CommitKind h.store n ≡ true) ps
  grown-parents [] x = tt
  grown-parents (p ∷ ps) x = (has-grown g.store h.store CommitKind p a.store x.0, grown-parents ps x.1)

  map-is : (k : Ground) (v u : Option Shown) → u ≡ v → k.map ≡ h.map ++ (name_at h.graph place, u) ∷ [] → k.map ≡ g.map ++ (name_at g.graph place, v) ∷ []
  map-is k v u e q = q ∙ (λ i. m i ++ (name_at (a.graph i) place, e i) ∷ [])

  -- ---- it becomes nothing, or what a parent is projected to

  module _ (k : Ground) (o : Option code.Shown) (t : Turns f g h place (turns.Kept o)) (e : k ≡ record h { map = h.map ++ (name_at h.graph place, option_map shown_value o) ∷ [] }) where
    kept-keeps : (P : Shown → Type 0) → Keeps P g.map → IfSome (option_map shown_value o) P
    kept-keeps P keeps = by o t
      where
        by : (o : Option code.Shown) → Turns f g h place (turns.Kept o) → IfSome (option_map shown_value o) P
        by None t = tt
        by (Some x) t = member-keeps P keeps (shown_value x) t

    map-now : k.map ≡ h.map ++ (name_at h.graph place, option_map shown_value o) ∷ []
    map-now = ap (λ (x : Ground). x.map) e

    store-now : k.store ≡ h.store
    store-now = ap (λ (x : Ground). x.store) e

    kept-more : (P : Shown → Type 0) → Keeps P g.map → Keeps P k.map
    kept-more P keeps =
        subst (Keeps P) (sym map-now) (keeps-more P h.map (name_at h.graph place) (option_map shown_value o) (subst (Keeps P) (sym m) keeps) (kept-keeps P keeps))

    pub entered-kept : IsEntered f place g k
    entered-kept = record {
      choice = kept_choice o;
      is = t;
      map = map-is k (projected (kept_choice o)) (option_map shown_value o) (sym (kept-projected o)) map-now;
      held = kept-more (λ (x : Shown). has CommitKind k.store x.commit ≡ true) (subst (λ (T : List Object). AreThere T g.map) (sym store-now) (there-grown g.store h.store g.map a.store held));
    }

    pub held-kept : AreHeld g.store g.map → AreHeld k.store k.map
    held-kept trees = kept-more (λ (x : Shown). IsTreeOf k.store x.commit x.tree) (subst (λ (T : List Object). AreHeld T g.map) (sym store-now) (held-grown g.store h.store g.map a.store trees))

  -- ---- it becomes a commit of its own

  module _ (s : code.Shown) (b : Bytes) (t : (c : Snapshot) → snapshot_named g.store (name_at g.graph place) ≡ Some c → IsNew f g h place c s b) where
    pub new-one : IsNew f g h place (some-placed g place w there).0 s b
    new-one = t (some-placed g place w there).0 (some-placed g place w there).1

    pub become : IsBecome f g place (New new-one.commit)
    become = λ c e. subst (λ (x : Snapshot). Becomes f g place x (New new-one.commit)) (same_Some (some-placed g place w there).0 c (sym (some-placed g place w there).1 ∙ e)) new-one.becomes

    pub body-name : name CommitKind b ≡ snapshot_name new-one.commit
    unfolding commit_name
    body-name = ap (name CommitKind) new-one.body

    pub tree-name : s.tree.0 ≡ tree_name new-one.commit.tree
    tree-name = ap (λ (x : Shown). x.tree) new-one.names

    pub fits : IsFit h.store s.commit.0 b
    fits = record {
      body = commit_fits h.store (snapshot_commit new-one.commit) b (ap (has Tree h.store) (sym tree-name) ∙ new-one.tree.held) (grown-parents new-one.commit.parents (parents-held new-one.commit become)) new-one.read;
      named = ap (λ (x : Shown). x.commit) new-one.names ∙ sym body-name;
    }

    new-more : (P : Shown → Type 0) → Keeps P g.map → (k : Ground) → k.map ≡ h.map ++ (name_at h.graph place, Some (shown_value s)) ∷ [] → P (shown_of new-one.commit) → Keeps P k.map
    new-more P keeps k q x =
        subst (Keeps P) (sym (map-is k (Some (shown_of new-one.commit)) (Some (shown_value s)) (ap Some new-one.names) q))
        (keeps-more P g.map (name_at g.graph place) (Some (shown_of new-one.commit)) keeps x)

    pub entered-new : (k : Ground) → k.map ≡ h.map ++ (name_at h.graph place, Some (shown_value s)) ∷ [] → {made : Object → Type 0} → IsGrownBy made g.store k.store → has CommitKind k.store (snapshot_name new-one.commit) ≡ true → IsEntered f place g k
    entered-new k q grown there-now = record {
      choice = New new-one.commit;
      is = become;
      map = map-is k (Some (shown_of new-one.commit)) (Some (shown_value s)) (ap Some new-one.names) q;
      held = new-more (λ (x : Shown). has CommitKind k.store x.commit ≡ true) (there-grown g.store k.store g.map grown held) k q there-now;
    }

    pub held-new : (k : Ground) → k.map ≡ h.map ++ (name_at h.graph place, Some (shown_value s)) ∷ [] → {made : Object → Type 0} → IsGrownBy made g.store k.store
        → IsTreeOf k.store (snapshot_name new-one.commit) (tree_name new-one.commit.tree) → AreHeld g.store g.map → AreHeld k.store k.map
    held-new k q grown there-now trees = new-more (λ (x : Shown). IsTreeOf k.store x.commit x.tree) (held-grown g.store k.store g.map grown trees) k q there-now

-- ---- a turn of a history, whose commits so far have these names

module _ (f : Filter) (g h : Ground) (place : ℕ) (w : IsGround g) (a : Extends (IsShownOf f (commits_of g)) g h) (m : h.map ≡ g.map) (ns : List Bytes) (ready : IsReady g place ns) where
  pub never-below : (q : ℕ) → IsBelow g place q → ⊥
  never-below q b = true≢false (sym (ready.kept q b.reached b.before) ∙ ap is_some b.lacked)

  pub turn-object : (o : Object) → IsShownOf f (commits_of g) o → IsTurnObject f g place ns o
  turn-object o x = inl x

  none-own : (o : Option code.Shown) → own_commit (kept_choice o) ≡ None
  none-own None = refl
  none-own (Some x) = refl

  pub taken-kept : (k : Ground) (o : Option code.Shown) → Turns f g h place (turns.Kept o) → k ≡ record h { map = h.map ++ (name_at h.graph place, option_map shown_value o) ∷ [] } → IsTaken f place g k ns ns
  unfolding entered-kept
  taken-kept k o t e = record {
    entered = entered-kept f g h place w a m ready.there ready.held k o t e;
    made = λ M x. subst (λ (T : List Object). AreMade T (add_all M (option_to_list (own_commit (kept_choice o)))) ns) (sym (ap (λ (x : Ground). x.store) e))
        (subst (λ c. AreMade h.store (add_all M (option_to_list c)) ns) (sym (none-own o)) (made-grown g.store h.store a.store w.graph.store M ns x));
  }

  pub kept-ok : {T : Type 0} (k : Ground) (o : Option code.Shown) → Turns f g h place (turns.Kept o) → (r : Result T ApplyError) → OnOk r (k ≡ record h { map = h.map ++ (name_at h.graph place, option_map shown_value o) ∷ [] }) → OnOk r (IsTaken f place g k ns ns)
  kept-ok k o t (Ok x) e = taken-kept k o t e
  kept-ok k o t (Err x) e = tt

  module _ (s : code.Shown) (b : Bytes) (t : (c : Snapshot) → snapshot_named g.store (name_at g.graph place) ≡ Some c → IsNew f g h place c s b) where
    abbrev n : IsNew f g h place (some-placed g place w ready.there).0 s b
    n = new-one f g h place w a m ready.there ready.held s b t

    named : name CommitKind b ≡ snapshot_name n.commit
    named = body-name f g h place w a m ready.there ready.held s b t

    pub made-object : (o : Object) → IsAdded ns b o → IsTurnObject f g place ns o
    made-object o x = inr (
      n.commit,
      become f g h place w a m ready.there ready.held s b t,
      subst (λ q. is_among q ns ≡ false) named x.0,
      ap (λ q. record { kind = CommitKind; body = q }) (sym n.body) ∙ sym x.1,
    )

    module _ (k : Ground) (ns' : List Bytes) (u : Extends (IsAdded ns b) h k) (x : IsTakenIn k.store ns ns' b) (q : k.map ≡ h.map ++ (name_at h.graph place, Some (shown_value s)) ∷ []) where
      grown : IsGrownBy (IsTurnObject f g place ns) g.store k.store
      grown = (extends-then (IsTurnObject f g place ns) g h k (extends-as (IsShownOf f (commits_of g)) (IsTurnObject f g place ns) g h turn-object a) (extends-as (IsAdded ns b) (IsTurnObject f g place ns) h k made-object u)).store

      stored : is_among (snapshot_name n.commit) ns ≡ false → IsIn k.store n.commit
      stored e =
          let stands = stands-grown h.store k.store s.tree.0 n.commit.tree u.store n.tree in
          found-in k.store n.commit b (x.found (ap (λ y. is_among y ns) named ∙ e)) n.body n.read
          (subst (λ y. flat k.store y ≡ n.commit.tree) (tree-name f g h place w a m ready.there ready.held s b t) stands.map)

      new-held : has CommitKind k.store (snapshot_name n.commit) ≡ true
      new-held = by (is_among (snapshot_name n.commit) ns) refl
        where
          by : (c : Bool) → is_among (snapshot_name n.commit) ns ≡ c → has CommitKind k.store (snapshot_name n.commit) ≡ true
          by true e = has-grown g.store k.store CommitKind (snapshot_name n.commit) grown (one-held g.store ns (snapshot_name n.commit) ready.named e)
          by false e = (stored e).held

      pub taken-made : IsTaken f place g k ns ns'
      unfolding entered-new
      taken-made = record {
        entered = entered-new f g h place w a m ready.there ready.held s b t k q grown new-held;
        made = λ M y. made-more k.store M ns ns' n.commit (made-grown g.store k.store grown w.graph.store M ns y) (x.names ∙ ap (with_name ns) named) stored;
      }

    pub made-ok : {T : Type 0} (k : Ground) (ns' : List Bytes) → Extends (IsAdded ns b) h k → (r : Result T ApplyError) → OnOk r (IsTakenIn k.store ns ns' b) → OnOk r (k.map ≡ h.map ++ (name_at h.graph place, Some (shown_value s)) ∷ []) → OnOk r (IsTaken f place g k ns ns')
    made-ok k ns' u (Ok y) x q = taken-made k ns' u x q
    made-ok k ns' u (Err y) x q = tt

    pub same-made : (k : Ground) → Extends (IsAdded ns b) h k → Extends (IsTurnObject f g place ns) g k
    same-made k u = extends-then (IsTurnObject f g place ns) g h k (extends-as (IsShownOf f (commits_of g)) (IsTurnObject f g place ns) g h turn-object a) (extends-as (IsAdded ns b) (IsTurnObject f g place ns) h k made-object u)

  pub same-turn : Extends (IsTurnObject f g place ns) g h
  same-turn = extends-as (IsShownOf f (commits_of g)) (IsTurnObject f g place ns) g h turn-object a

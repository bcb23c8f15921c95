-- The original of a pushed commit, as it is worked out and put into a store.
use Rattle.std.proofs.Common.{◌≡◌, ◌<◌, ◌≤◌, inl, inr, ℕ, Bool, true, false, List, [], ◌∷◌, length, map, All, Some, None, Result, Ok, Err, IfOk, IfErr, IsOkAnd, refl, sym, ap, subst, ◌∙◌, arith, nat_le}
use Rattle.std.proofs.lemmas.Bool.Decides.{nat_tests}
use Rattle.std.proofs.lemmas.List.Elements.{All-tail}
use Rattle.std.proofs.lemmas.List.{length-map}
use Rattle.git_objects.specs.CommitBodies.{commit_from}
use Rattle.git_objects.specs.Commits.{Commit, Letter, commit_body}
use Rattle.git_objects.specs.Lists.{Each}
use Rattle.git_objects.specs.Names.{name}
use Rattle.git_objects.specs.Paths.{Bytes}
use Rattle.git_objects.specs.Results.{◌>>=◌, must}
use Rattle.git_objects.specs.Snapshots.{Snapshot, snapshot_commit}
use Rattle.git_objects.specs.Trees.{Flat}
use Rattle.git_objects.specs.declared.kind.Kind.TheVariants.{Tree, Commit as CommitKind}
use Rattle.git_objects.specs.declared.limits.TheConstants.{PARENTS}
use Rattle.git_objects.specs.declared.name.Name.{Name}
use Rattle.git_objects.specs.declared.quantity.Quantity.TheVariants.{Parents}
use Rattle.object_store.specs.Growth.{IsGrownBy, IsOnly}
use Rattle.object_store.specs.Objects.{Object, find_named, has}
use Rattle.object_store.specs.Puts.{of_body}
use Rattle.object_store.specs.StoredSnapshots.{commit_named, snapshot_object}
use Rattle.object_store.specs.Unfolding.{StandsFor, flat}
use Rattle.object_store.proofs.Growth.{clash_as, stands-grown}
use Rattle.object_store.proofs.PutObjects.{commit_fits}
use Rattle.object_store.proofs.Unfolding.{unfolding_law}
use Rattle.commit_graph.specs.Graphs.{Row}
use Rattle.commit_map.specs.Shown.{Shown, shown_value}
use Rattle.commit_map.specs.declared.commit_map.Shown as code
use Rattle.filter_apply.specs.Faults.{IsApplyFault}
use Rattle.filter_apply.specs.declared.fault.ApplyError.{ApplyError}
use Rattle.filter_apply.specs.declared.fault.ApplyError.TheVariants as apply
use Rattle.filter_text.specs.Filters.{Filter}
use Rattle.filter_unapply.specs.Hands.{IsLaidMade}
use Rattle.workspace.specs.Workspaces.{next}
use Rattle.projection_laws.specs.Made.{IsOwnBody, own_commit_of}
use Rattle.projection_laws.specs.StoredGraphs.{IsGraphIn, name_at}
use Rattle.projection_laws.proofs.StoredGraphs.{name-is, row-at}
use Rattle.projection_ground.specs.Choosing.{is_own_by, names_at}
use Rattle.projection_ground.specs.Grounds.{IsGround}
use Rattle.projection_ground.specs.declared.ground.Ground.{Ground}
use Rattle.fast_import.specs.Standing.{IsCommitIn}
use Rattle.fast_import.specs.declared.replayed.Made.{Made}
use Rattle.push_laws.specs.PushVerdicts.{NoChange, Refusal, TreeLimit, tree_upon}
use Rattle.push_back.specs.Originals.{Grows}
use Rattle.push_back.specs.Refusals.{IsRefusedBy, IsTreeAnswer, of_apply}
use Rattle.push_back.specs.declared.refusal.TreeRefusal.{TreeRefusal}
use Rattle.push_back.specs.declared.refusal.TreeRefusal.TheVariants as trees
use Rattle.push_back.proofs.LaidTrees.{grows-as, grows-self, grows-store, grows-then, refused-as}
use Rattle.push_back.proofs.OneOriginal.{commit-in-grown, ok-and, original-in}
use Rattle.merge_push.specs.Originals.{IsMadeOne, IsMadeUpon, IsOriginal, IsPut, IsReadAgain, original_upon}
use Rattle.merge_push.proofs.Stored.{read-as}

-- the commits at places are in the store
pub named-has : (S : List Object) (rows : List Row) → IsGraphIn S rows → (ps : List ℕ) → All (λ p. p < length rows) ps → Each (λ n. has CommitKind S n ≡ true) (map (name_at rows) ps)
named-has S rows g [] h = tt
named-has S rows g (p ∷ ps) h =
    let r = row-at S rows g p (h 0 p (omega arith)) in
    (ap (has CommitKind S) (name-is S rows g p r.0 r.1) ∙ (g.each p r.0 r.1).held, named-has S rows g ps (All-tail (λ q. q < length rows) p ps h))

pub values-named : (ms : List code.Shown) → map (λ (m : Shown). m.commit) (map shown_value ms) ≡ map (λ (m : code.Shown). m.commit.0) ms
values-named [] = refl
values-named (m ∷ ms) = ap (λ ns. m.commit.0 ∷ ns) (values-named ms)

pub as-many : (ms : List code.Shown) (f : ℕ → Bytes) (ps : List ℕ) → map (λ (m : code.Shown). m.commit.0) ms ≡ map f ps → length ms ≡ length ps
as-many ms f ps e = sym (length-map ms (λ (m : code.Shown). m.commit.0)) ∙ ap length e ∙ length-map ps f

-- ---- the commit that is put

module _ (g : Ground) (w : IsGround g) (m : Made) (c : Snapshot) (k : IsCommitIn g.store m c) (again : IsReadAgain c) (tree : Name) (held : has Tree g.store tree.0 ≡ true) (ps : List ℕ) (ms : List code.Shown)
    (named : map (λ (x : code.Shown). x.commit.0) ms ≡ names_at g.graph ps) where
  abbrev S : List Object
  S = g.store

  abbrev pub put : Snapshot
  put = record { tree = flat S tree.0; parents = names_at g.graph ps; letter = c.letter }

  commit-is : own_commit_of tree.0 (map shown_value ms) c.letter ≡ snapshot_commit put
  commit-is = λ i. record { tree = sym (unfolding_law S tree.0 w.graph.store held).named i; parents = (values-named ms ∙ named) i; letter = c.letter }

  module _ (b : Bytes) (body : (d : Commit) → commit_named S m.name.0 ≡ Some d → IsOwnBody tree.0 (map shown_value ms) d.letter b) where
    own : IsOwnBody tree.0 (map shown_value ms) c.letter b
    own = body (snapshot_commit c) (read-as S m c w.graph.store k again)

    pub body-is : b ≡ commit_body (snapshot_commit put)
    body-is = own.body ∙ ap commit_body commit-is

    pub put-again : IsReadAgain put
    put-again = ap commit_from (sym body-is) ∙ own.read ∙ ap Some commit-is

    pub body-fits : All (λ p. p < length g.graph) ps → of_body S CommitKind b None ≡ None
    body-fits below =
        commit_fits S (own_commit_of tree.0 (map shown_value ms) c.letter) b held
        (subst (Each (λ n. has CommitKind S n ≡ true)) (sym (values-named ms ∙ named)) (named-has S g.graph w.graph ps below)) own.read

    only-put : (x : Object) → IsOnly CommitKind b x → x ≡ snapshot_object put
    only-put x e = e ∙ ap (λ (z : Bytes). record { kind = CommitKind; body = z }) body-is

    module _ (R : Ground) (z : R ≡ record g { store = R.store }) (grown : IsGrownBy (IsOnly CommitKind b) S R.store) where
      put-grows : Grows (λ x. x ≡ snapshot_object put) g R
      put-grows = grows-as (IsOnly CommitKind b) (λ x. x ≡ snapshot_object put) g R only-put (grows-store (IsOnly CommitKind b) g R w z grown)

      not-put : (x : ApplyError) → IsApplyFault (IsOnly CommitKind b) R.store x → IsRefusedBy (λ r. ⊥) (λ y. y ≡ snapshot_object put) R.store (of_apply x)
      not-put (apply.Collision n) v = clash_as (IsOnly CommitKind b) (λ y. y ≡ snapshot_object put) R.store n.0 only-put v
      not-put apply.OutOfMemory v = tt

      pub put-failed : (x : ApplyError) → IsApplyFault (IsOnly CommitKind b) R.store x → IsPut put g R (Err (of_apply x))
      put-failed x v = record { ok = tt; err = not-put x v; same = put-grows }

      pub put-done : (n : Name) → n.0 ≡ name CommitKind b → find_named R.store (name CommitKind b) ≡ Some (record { kind = CommitKind; body = b }) → IsPut put g R (Ok (record { name = n; tree = tree }))
      put-done n e x = record {
        ok = (original-in R.store (record { name = n; tree = tree }) put b body-is e x (stands-grown S R.store tree.0 put.tree grown (record { held = held; map = refl })), put-again);
        err = tt;
        same = put-grows;
      }

pub put-nothing : (o : Snapshot) (g : Ground) → IsGround g → IsPut o g g (Err trees.OutOfMemory)
put-nothing o g w = record { ok = tt; err = tt; same = grows-self (λ x. x ≡ snapshot_object o) g w }

-- ---- the original

module _ (f : Filter) (g : Ground) (w : IsGround g) (own : Bool) (t : Flat) (ns : List Bytes) (m : Made) (c : Snapshot) (k : IsCommitIn g.store m c) where
  abbrev pub value : Result Snapshot Refusal
  value = original_upon f own t ns c

  abbrev made : Object → Type 0
  made = IsMadeOne f t c value

  abbrev upon : Bool → Result Flat Refusal → Bool → Result Snapshot Refusal
  upon b r d = must NoChange b >>= λ x. r >>= λ u. must (TreeLimit Parents) d >>= λ y. Ok (record { tree = u; parents = ns; letter = c.letter })

  abbrev few : Bool
  few = nat_le (length ns) PARENTS

  pub no-original : IsOriginal f t c value g g (Err trees.OutOfMemory)
  no-original = record { ok = tt; err = tt; same = grows-self made g w }

  pub not-own : own ≡ false → IsOriginal f t c value g g (Err trees.NoChange)
  not-own e = record { ok = tt; err = ap (λ b. upon b (tree_upon f t c.tree) few) e; same = grows-self made g w }

  module _ (yes : own ≡ true) (T : Ground) (r : Result Name TreeRefusal)
      (a : IsTreeAnswer (tree_upon f t (flat g.store m.tree.0)) (IsLaidMade (next f t (flat g.store m.tree.0)) t (flat g.store m.tree.0)) g.store T.store r)
      (e : Grows (IsLaidMade (next f t (flat g.store m.tree.0)) t (flat g.store m.tree.0)) g T) where
    answer : IsTreeAnswer (tree_upon f t c.tree) (IsLaidMade (next f t c.tree) t c.tree) g.store T.store r
    answer = subst (λ (n : Flat). IsTreeAnswer (tree_upon f t n) (IsLaidMade (next f t n) t n) g.store T.store r) k.stands.map a

    of-laid : (o : Object) → IsLaidMade (next f t c.tree) t c.tree o → made o
    of-laid o x = inl x

    pub tree-grows : Grows made g T
    tree-grows = grows-as (IsLaidMade (next f t c.tree) t c.tree) made g T of-laid (subst (λ (n : Flat). Grows (IsLaidMade (next f t n) t n) g T) k.stands.map e)

    pub still : IsCommitIn T.store m c
    still = commit-in-grown g.store T.store m c e.extends.store k

    pub no-tree : (x : TreeRefusal) → r ≡ Err x → IsOriginal f t c value g T (Err x)
    no-tree x q = record {
      ok = tt;
      err =
          refused-as (λ y. tree_upon f t c.tree ≡ Err y) (λ y. value ≡ Err y) (IsLaidMade (next f t c.tree) t c.tree) made T.store
          (λ y z. λ i. upon (yes i) (z i) few) of-laid x
          (subst (λ (y : Result Name TreeRefusal). IfErr y (IsRefusedBy (λ z. tree_upon f t c.tree ≡ Err z) (IsLaidMade (next f t c.tree) t c.tree) T.store)) q answer.err);
      same = tree-grows;
    }

    module _ (tree : Name) (q : r ≡ Ok tree) where
      known : (u : Flat) × (tree_upon f t c.tree ≡ Ok u) × StandsFor T.store tree.0 u
      known = ok-and (tree_upon f t c.tree) (StandsFor T.store tree.0) (subst (λ (y : Result Name TreeRefusal). IfOk y (λ n. IsOkAnd (tree_upon f t c.tree) (StandsFor T.store n.0))) q answer.ok)

      pub tree-has : has Tree T.store tree.0 ≡ true
      tree-has = known.2.held

      pub too-many : few ≡ false → IsOriginal f t c value g T (Err (trees.TreeLimit Parents))
      too-many d = record { ok = tt; err = λ i. upon (yes i) (known.1 i) (d i); same = tree-grows }

      module _ (d : few ≡ true) where
        abbrev orig : Snapshot
        orig = record { tree = flat T.store tree.0; parents = ns; letter = c.letter }

        value-is : value ≡ Ok orig
        value-is = (λ i. upon (yes i) (known.1 i) (d i)) ∙ ap (λ (u : Flat). Ok (record { tree = u; parents = ns; letter = c.letter })) (sym known.2.map)

        put-made : (x : Object) → x ≡ snapshot_object orig → made x
        put-made x z = inr (subst (λ (v : Result Snapshot Refusal). IsMadeUpon v (λ u. ⊥) x) (sym value-is) (inl z))

        module _ (R : Ground) (o : Result Made TreeRefusal) (p : IsPut orig T R o) where
          ok-of : (y : Result Made TreeRefusal) → IfOk y (λ n. IsCommitIn R.store n orig × IsReadAgain orig) → IfOk y (λ n. IsOkAnd value (λ v. IsCommitIn R.store n v × IsReadAgain v))
          ok-of (Ok n) h = subst (λ (v : Result Snapshot Refusal). IsOkAnd v (λ x. IsCommitIn R.store n x × IsReadAgain x)) (sym value-is) h
          ok-of (Err x) h = tt

          err-of : (y : Result Made TreeRefusal) → IfErr y (IsRefusedBy (λ r. ⊥) (λ x. x ≡ snapshot_object orig) R.store) → IfErr y (IsRefusedBy (λ r. value ≡ Err r) made R.store)
          err-of (Ok n) h = tt
          err-of (Err x) h = refused-as (λ r. ⊥) (λ r. value ≡ Err r) (λ y. y ≡ snapshot_object orig) made R.store (λ y z. absurd z) put-made x h

          pub whole : IsOriginal f t c value g R o
          whole = record {
            ok = ok-of o p.ok;
            err = err-of o p.err;
            same = grows-then made g T R tree-grows (grows-as (λ x. x ≡ snapshot_object orig) made T R put-made p.same);
          }

-- ---- the tests of the code

-- what is told of a commit of its own is of the pushed one
pub is-own : (g : Ground) (ps : List ℕ) (m : Made) (c : Snapshot) → IsCommitIn g.store m c → (b : Bool) → b ≡ true → ((l : Letter) → b ≡ is_own_by g ps (flat g.store m.tree.0) l) → is_own_by g ps c.tree c.letter ≡ true
is-own g ps m c k b e h = ap (λ (t : Flat). is_own_by g ps t c.letter) (sym k.stands.map) ∙ sym (h c.letter) ∙ e

pub many : (f : ℕ → Bytes) (ps : List ℕ) → PARENTS < length ps → nat_le (length (map f ps)) PARENTS ≡ false
many f ps l = ap (λ n. nat_le n PARENTS) (length-map ps f) ∙ (let q : 16 < length ps = l in grind (arith, nat_tests))

pub not-many : (f : ℕ → Bytes) (ps : List ℕ) → length ps ≤ PARENTS → nat_le (length (map f ps)) PARENTS ≡ true
not-many f ps l = ap (λ n. nat_le n PARENTS) (length-map ps f) ∙ (let q : length ps ≤ 16 = l in grind (arith, nat_tests))

-- the commits at the places are those of the older ground
pub moved : (f : Filter) (g h : Ground) (ps : List ℕ) (c : Snapshot) {made : Object → Type 0} → Grows made g h → (tree : Name) (k : Ground) (r : Result Made TreeRefusal)
    → IsPut (record { tree = flat h.store tree.0; parents = names_at h.graph ps; letter = c.letter }) h k r → IsPut (record { tree = flat h.store tree.0; parents = names_at g.graph ps; letter = c.letter }) h k r
moved f g h ps c a tree k r p = subst (λ (rows : List Row). IsPut (record { tree = flat h.store tree.0; parents = names_at rows ps; letter = c.letter }) h k r) a.extends.graph p

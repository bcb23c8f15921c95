-- The original of one pushed commit, put into a store.
use Rattle.std.proofs.Common.{◌≡◌, inl, inr, true, List, [], ◌∷◌, Some, None, Result, Ok, Err, IfOk, IfErr, IsOkAnd, refl, sym, ap, subst, ◌∙◌}
use Rattle.std.proofs.lemmas.Option.{same_Some}
use Rattle.git_objects.specs.Paths.{Bytes}
use Rattle.git_objects.specs.Trees.{Flat}
use Rattle.git_objects.specs.Names.{name, tree_name}
use Rattle.git_objects.specs.Commits.{Commit, commit_body, commit_name, letter_text}
use Rattle.git_objects.specs.CommitBodies.{commit_from}
use Rattle.git_objects.specs.Snapshots.{Snapshot, snapshot_commit}
use Rattle.git_objects.specs.declared.kind.Kind.TheVariants.{Tree, Commit as CommitKind}
use Rattle.git_objects.specs.declared.name.Name.{Name}
use Rattle.object_store.specs.Growth.{IsGrownBy, IsOnly}
use Rattle.object_store.specs.Objects.{Object, IsStore, find_named, has}
use Rattle.object_store.specs.Puts.{of_body}
use Rattle.object_store.specs.StoredSnapshots.{commit_named, snapshot_object}
use Rattle.object_store.specs.Unfolding.{StandsFor, flat}
use Rattle.object_store.proofs.Growth.{clash_as, found-grown, stands-grown}
use Rattle.object_store.proofs.Parts.{found-has}
use Rattle.object_store.proofs.StoredCommits.{stored-commit}
use Rattle.object_store.proofs.Unfolding.{unfolding_law}
use Rattle.filter_text.specs.Filters.{Filter}
use Rattle.filter_apply.specs.Faults.{IsApplyFault}
use Rattle.filter_apply.specs.declared.fault.ApplyError.{ApplyError}
use Rattle.filter_apply.specs.declared.fault.ApplyError.TheVariants as apply
use Rattle.filter_unapply.specs.Hands.{IsLaidMade}
use Rattle.workspace.specs.Workspaces.{next}
use Rattle.projection_laws.specs.Made.{IsOwnBody}
use Rattle.projection_laws.proofs.HeldCommits.{held}
use Rattle.projection_ground.specs.Grounds.{IsGround}
use Rattle.projection_ground.specs.declared.ground.Ground.{Ground}
use Rattle.object_store.proofs.PutObjects.{commit_fits}
use Rattle.fast_import.specs.Standing.{IsCommitIn}
use Rattle.fast_import.specs.declared.replayed.Made.{Made}
use Rattle.push_laws.specs.PushVerdicts.{Refusal, original_of, original_tree}
use Rattle.push_back.specs.Originals.{Grows, IsMadeOne, IsMadeUpon, IsOriginal}
use Rattle.push_back.specs.Refusals.{IsRefusedBy, IsTreeAnswer, of_apply}
use Rattle.push_back.specs.declared.refusal.TreeRefusal.{TreeRefusal}
use Rattle.push_back.specs.declared.refusal.TreeRefusal.TheVariants.{OutOfMemory}
use Rattle.push_back.proofs.LaidTrees.{grows-as, grows-store, grows-then, refused-as}
use Rattle.push_back.proofs.Letters.{body-same, commit_with, letter-same}

-- ---- commits of a store

pub commit-has : (S : List Object) (m : Made) (c : Snapshot) → IsCommitIn S m c → has CommitKind S m.name.0 ≡ true
commit-has S m c k = (found-has S CommitKind m.name.0 (snapshot_object c) k.held refl).0

pub commit-in-grown : {made : Object → Type 0} (S T : List Object) (m : Made) (c : Snapshot) → IsGrownBy made S T → IsCommitIn S m c → IsCommitIn T m c
commit-in-grown S T m c g k = record {
  named = k.named;
  held = found-grown S T m.name.0 (snapshot_object c) g k.held;
  stands = stands-grown S T m.tree.0 c.tree g k.stands;
}

-- what is read of it says the same
record IsReadAs (S : List Object) (m : Made) (c : Snapshot) : Type 0 where
  commit : Commit
  read : commit_named S m.name.0 ≡ Some commit
  letter : letter_text commit.letter ≡ letter_text c.letter

read-as : (S : List Object) (m : Made) (c : Snapshot) → IsStore S → IsCommitIn S m c → IsReadAs S m c
read-as S m c s k =
    let w = found-has S CommitKind m.name.0 (snapshot_object c) k.held refl in
    let y = stored-commit S m.name.0 s w.0 in
    let h = held S m.name.0 y.commit s w.0 y.read in
    record { commit = y.commit; read = y.read; letter = letter-same y.commit (snapshot_commit c) (h.spelled.spelled ∙ w.1) }

-- ---- its body

-- the parents of the body are the commit alone, whatever its tree is called
pub record IsBodyUpon (S : List Object) (m : Made) (tree h b : Bytes) : Type 0 where
  pub read : Commit
  pub known : commit_named S m.name.0 ≡ Some read
  pub body : b ≡ commit_body (commit_with tree (h ∷ []) read.letter)
  pub back : commit_from b ≡ Some (commit_with tree (h ∷ []) read.letter)

module _ (S : List Object) (m : Made) (c : Snapshot) (s : IsStore S) (k : IsCommitIn S m c) where
  pub body-upon : (tree below h b : Bytes) → ((d : Commit) → commit_named S m.name.0 ≡ Some d → IsOwnBody tree (record { commit = h; tree = below } ∷ []) d.letter b) → IsBodyUpon S m tree h b
  body-upon tree below h b w =
      let y = read-as S m c s k in
      let o = w y.commit y.read in
      record { read = y.commit; known = y.read; body = o.body; back = o.read }

  pub body-is : (tree h b : Bytes) (u : Flat) → StandsFor S tree u → IsBodyUpon S m tree h b → b ≡ commit_body (snapshot_commit (original_of h c u))
  body-is tree h b u t w =
      let y = read-as S m c s k in
      let same : y.commit ≡ w.read = same_Some y.commit w.read (sym y.read ∙ w.known) in
      let letter : letter_text w.read.letter ≡ letter_text c.letter = ap (λ (d : Commit). letter_text d.letter) (sym same) ∙ y.letter in
      let named : tree ≡ tree_name u = sym (unfolding_law S tree s t.held).named ∙ ap tree_name t.map in
      w.body ∙ body-same tree (h ∷ []) w.read.letter c.letter letter ∙ ap (λ n. commit_body (commit_with n (h ∷ []) c.letter)) named

  pub body-fits : (tree h b : Bytes) → has Tree S tree ≡ true → has CommitKind S h ≡ true → IsBodyUpon S m tree h b → of_body S CommitKind b None ≡ None
  body-fits tree h b t g w = commit_fits S (commit_with tree (h ∷ []) w.read.letter) b t (g, tt) w.back

-- ---- the commit that was put

pub original-in : (R : List Object) (m : Made) (o : Snapshot) (b : Bytes) → b ≡ commit_body (snapshot_commit o) → m.name.0 ≡ name CommitKind b → find_named R (name CommitKind b) ≡ Some (record { kind = CommitKind; body = b })
    → StandsFor R m.tree.0 o.tree → IsCommitIn R m o
unfolding commit_name
original-in R m o b e n k t = record {
  named = ap (name CommitKind) (sym e) ∙ sym n;
  held = ap (find_named R) n ∙ k ∙ ap (λ (x : Bytes). Some (record { kind = CommitKind; body = x })) e;
  stands = t;
}

pub ok-and : {A E : Type 0} (r : Result A E) (P : A → Type 0) → IsOkAnd r P → (u : A) × (r ≡ Ok u) × P u
ok-and (Ok u) P h = (u, refl, h)
ok-and (Err e) P h = absurd h

-- ---- the steps of the call

module _ (f : Filter) (h : Bytes) (t seen : Flat) (m : Made) (c : Snapshot) (g : Ground) (w : IsGround g) (k : IsCommitIn g.store m c) where
  abbrev value : Result Flat Refusal
  value = original_tree f t seen c.tree

  abbrev laid-made : Object → Type 0
  laid-made = IsLaidMade (next f t c.tree) t c.tree

  abbrev one-made : Object → Type 0
  one-made = IsMadeOne f h t seen c

  of-laid : (o : Object) → laid-made o → one-made o
  of-laid o x = inl x

  module _ (T : Ground) (r : Result Name TreeRefusal)
      (a : IsTreeAnswer (original_tree f t seen (flat g.store m.tree.0)) (IsLaidMade (next f t (flat g.store m.tree.0)) t (flat g.store m.tree.0)) g.store T.store r)
      (e : Grows (IsLaidMade (next f t (flat g.store m.tree.0)) t (flat g.store m.tree.0)) g T) where
    answer : IsTreeAnswer value laid-made g.store T.store r
    answer = subst (λ (n : Flat). IsTreeAnswer (original_tree f t seen n) (IsLaidMade (next f t n) t n) g.store T.store r) k.stands.map a

    grows : Grows laid-made g T
    grows = subst (λ (n : Flat). Grows (IsLaidMade (next f t n) t n) g T) k.stands.map e

    pub tree-grows : Grows one-made g T
    tree-grows = grows-as laid-made one-made g T of-laid grows

    pub still : IsCommitIn T.store m c
    still = commit-in-grown g.store T.store m c grows.extends.store k

    pub no-tree : (x : TreeRefusal) → r ≡ Err x → IsOriginal f h t seen c g T (Err x)
    no-tree x q = record {
      ok = tt;
      err =
          refused-as (λ y. value ≡ Err y) (λ y. value ≡ Err y) laid-made one-made T.store (λ y z. z) of-laid x
          (subst (λ (y : Result Name TreeRefusal). IfErr y (IsRefusedBy (λ z. value ≡ Err z) laid-made T.store)) q answer.err);
      same = tree-grows;
    }

    pub no-memory : IsOriginal f h t seen c g T (Err OutOfMemory)
    no-memory = record { ok = tt; err = tt; same = tree-grows }

    module _ (tree : Name) (q : r ≡ Ok tree) where
      pub known : (u : Flat) × (value ≡ Ok u) × StandsFor T.store tree.0 u
      known = ok-and value (StandsFor T.store tree.0) (subst (λ (y : Result Name TreeRefusal). IfOk y (λ n. IsOkAnd value (StandsFor T.store n.0))) q answer.ok)

      pub tree-has : has Tree T.store tree.0 ≡ true
      tree-has = known.2.held

      module _ (b : Bytes) (y : IsBodyUpon T.store m tree.0 h b) where
        pub body-known : b ≡ commit_body (snapshot_commit (original_of h c known.0))
        body-known = body-is T.store m c grows.extends.ground.graph.store still tree.0 h b known.0 known.2 y

        only-made : (o : Object) → IsOnly CommitKind b o → one-made o
        only-made o x =
            inr (subst (λ (v : Result Flat Refusal). IsMadeUpon h c v (λ u. ⊥) o) (sym known.1) (inl (x ∙ ap (λ (z : Bytes). record { kind = CommitKind; body = z }) body-known)))

        module _ (R : Ground) (z : R ≡ record T { store = R.store }) (put : IsGrownBy (IsOnly CommitKind b) T.store R.store) where
          pub put-grows : Grows one-made g R
          put-grows =
              grows-then one-made g T R tree-grows
              (grows-as (IsOnly CommitKind b) one-made T R only-made (grows-store (IsOnly CommitKind b) T R grows.extends.ground z put))

          not-put : (x : ApplyError) → IsApplyFault (IsOnly CommitKind b) R.store x → IsRefusedBy (λ v. value ≡ Err v) one-made R.store (of_apply x)
          not-put (apply.Collision n) v = clash_as (IsOnly CommitKind b) one-made R.store n.0 only-made v
          not-put apply.OutOfMemory v = tt

          pub put-failed : (x : ApplyError) → IsApplyFault (IsOnly CommitKind b) R.store x → IsOriginal f h t seen c g R (Err (of_apply x))
          put-failed x v = record { ok = tt; err = not-put x v; same = put-grows }

          pub put-done : (n : Name) → n.0 ≡ name CommitKind b → find_named R.store (name CommitKind b) ≡ Some (record { kind = CommitKind; body = b }) → IsOriginal f h t seen c g R (Ok (record { name = n; tree = tree }))
          put-done n v x = record {
            ok =
                subst (λ (y : Result Flat Refusal). IsOkAnd y (λ u. IsCommitIn R.store (record { name = n; tree = tree }) (original_of h c u))) (sym known.1)
                (original-in R.store (record { name = n; tree = tree }) (original_of h c known.0) b body-known v x (stands-grown T.store R.store tree.0 known.0 put known.2));
            err = tt;
            same = put-grows;
          }

-- Commits of a graph that are in a store, while the store grows and with one more.
use Rattle.std.proofs.Common.{◌≡◌, Bool, true, false, cond, List, [], ◌∷◌, ◌++◌, map, reverse, Some, Contains, refl, sym, ap, ap₂, subst, ◌∙◌, true≢false}
use Rattle.std.specs.List.{cons_option, filter_map, list_all, list_any}
use Rattle.std.specs.Option.{option_map}
use Rattle.std.proofs.lemmas.Bool.{and_parts, and_from}
use Rattle.std.proofs.lemmas.List.Elements.{Contains-append_right}
use Rattle.git_objects.specs.Paths.{Bytes, same_bytes}
use Rattle.git_objects.specs.Names.{name, tree_name}
use Rattle.git_objects.specs.Commits.{commit_body, commit_name}
use Rattle.git_objects.specs.CommitBodies.{commit_from}
use Rattle.git_objects.specs.Parts.{name_bytes}
use Rattle.git_objects.specs.declared.name.Name.{Name}
use Rattle.git_objects.specs.Snapshots.{Snapshot, Graph, snapshot_commit, snapshot_name, has_name, add, add_all}
use Rattle.git_objects.specs.Snapshots as snapshots
use Rattle.git_objects.specs.declared.kind.Kind.TheVariants.{Commit as CommitKind}
use Rattle.object_store.specs.Objects.{Object, IsStore, find_named, has}
use Rattle.object_store.specs.Growth.{IsGrownBy, IsOnly}
use Rattle.object_store.specs.Unfolding.{flat}
use Rattle.object_store.specs.StoredSnapshots.{snapshot_of}
use Rattle.object_store.proofs.Growth.{has-grown, flat-grown}
use Rattle.object_store.proofs.Parts.{found-has}
use Rattle.object_store.proofs.StoredCommits.{stored-commit}
use Rattle.projection_laws.specs.StoredGraphs.{snapshot_named}
use Rattle.projection_laws.specs.Histories.{AreMade, is_among}
use Rattle.projection_laws.proofs.HistoryLemmas.{any-reverse, filter-append, map-append, reverse-more, same-image}
use Rattle.history_ground.specs.Making.{with_name, IsAdded, IsTakenIn}
use Rattle.projection_ground.proofs.Growing.{commit-grown}

-- ---- a store that grows

module _ {made : Object → Type 0} (S T : List Object) (g : IsGrownBy made S T) (s : IsStore S) where
  named-grown : (n : Bytes) → has CommitKind S n ≡ true → snapshot_named T n ≡ snapshot_named S n
  named-grown n h =
      let w = stored-commit S n s h in
      let tree : flat T w.commit.tree ≡ flat S w.commit.tree = flat-grown S T w.commit.tree g w.tree in
      ap (option_map (snapshot_of T)) (commit-grown S T g n h ∙ w.read)
      ∙ ap Some (λ i. record { tree = tree i; parents = w.commit.parents; letter = w.commit.letter })
      ∙ sym (ap (option_map (snapshot_of S)) w.read)

  names-grown : (ns : List Bytes) → list_all (has CommitKind S) ns ≡ true → filter_map (snapshot_named T) ns ≡ filter_map (snapshot_named S) ns
  names-grown [] h = refl
  names-grown (n ∷ ns) h =
      let w = and_parts (has CommitKind S n) (list_all (has CommitKind S) ns) h in
      ap₂ cons_option (named-grown n w.0) (names-grown ns w.1)

  pub held-grown : (ns : List Bytes) → list_all (has CommitKind S) ns ≡ true → list_all (has CommitKind T) ns ≡ true
  held-grown [] h = refl
  held-grown (n ∷ ns) h =
      let w = and_parts (has CommitKind S n) (list_all (has CommitKind S) ns) h in
      and_from (has CommitKind T n) (list_all (has CommitKind T) ns) (has-grown S T CommitKind n g w.0) (held-grown ns w.1)

  pub made-grown : (M : Graph) (ns : List Bytes) → AreMade S M ns → AreMade T M ns
  made-grown M ns a = record { names = a.names; held = held-grown ns a.held; snapshots = names-grown ns a.held ∙ a.snapshots }

-- ---- one commit more

pub nothing-made : (S : List Object) → AreMade S [] []
nothing-made S = record { names = refl; held = refl; snapshots = refl }

-- whether a name is among those of the commits
pub among-made : (S : List Object) (M : Graph) (ns : List Bytes) (n : Bytes) → AreMade S M ns → is_among n ns ≡ snapshots.has M n
among-made S M ns n a =
    ap (is_among n) a.names ∙ same-image (same_bytes n) (has_name n) snapshot_name (λ c. refl) (reverse M) ∙ any-reverse (has_name n) M

all-behind : (p : Bytes → Bool) (ns : List Bytes) (n : Bytes) → list_all p ns ≡ true → p n ≡ true → list_all p (ns ++ n ∷ []) ≡ true
all-behind p [] n h e = and_from (p n) true e refl
all-behind p (m ∷ ns) n h e = let w = and_parts (p m) (list_all p ns) h in and_from (p m) (list_all p (ns ++ n ∷ [])) w.0 (all-behind p ns n w.1 e)

-- a commit in the store
pub record IsIn (T : List Object) (d : Snapshot) : Type 0 where
  pub held : has CommitKind T (snapshot_name d) ≡ true
  pub found : snapshot_named T (snapshot_name d) ≡ Some d

pub found-in : (T : List Object) (d : Snapshot) (b : Bytes) → find_named T (name CommitKind b) ≡ Some (record { kind = CommitKind; body = b }) → b ≡ commit_body (snapshot_commit d) → commit_from b ≡ Some (snapshot_commit d)
    → flat T (tree_name d.tree) ≡ d.tree → IsIn T d
unfolding commit_name
found-in T d b f e r t =
    let n : name CommitKind b ≡ snapshot_name d = ap (name CommitKind) e in
    let w = found-has T CommitKind (snapshot_name d) (record { kind = CommitKind; body = b }) (ap (find_named T) (sym n) ∙ f) refl in
    record {
      held = w.0;
      found =
          ap (λ o. option_map (snapshot_of T) o) (ap commit_from w.1 ∙ r)
          ∙ (λ i. Some (record { tree = t i; parents = d.parents; letter = d.letter }));
    }

made-behind : (T : List Object) (M : Graph) (ns : List Bytes) (d : Snapshot) → AreMade T M ns → IsIn T d → AreMade T (d ∷ M) (ns ++ snapshot_name d ∷ [])
made-behind T M ns d a w = record {
  names = (λ i. a.names i ++ snapshot_name d ∷ []) ∙ sym (map-append snapshot_name (reverse M) (d ∷ [])) ∙ ap (map snapshot_name) (sym (reverse-more d M));
  held = all-behind (has CommitKind T) ns (snapshot_name d) a.held w.held;
  snapshots =
      filter-append (snapshot_named T) ns (snapshot_name d ∷ [])
      ∙ (λ i. a.snapshots i ++ cons_option (w.found i) [])
      ∙ sym (reverse-more d M);
}

-- with that commit, unless its name is there
pub made-more : (T : List Object) (M : Graph) (ns ns' : List Bytes) (d : Snapshot) → AreMade T M ns → ns' ≡ with_name ns (snapshot_name d) → (is_among (snapshot_name d) ns ≡ false → IsIn T d) → AreMade T (add M d) ns'
made-more T M ns ns' d a e w = by (snapshots.has M (snapshot_name d)) refl
  where
    at : is_among (snapshot_name d) ns ≡ snapshots.has M (snapshot_name d)
    at = among-made T M ns (snapshot_name d) a

    by : (b : Bool) → snapshots.has M (snapshot_name d) ≡ b → AreMade T (cond (snapshots.has M (snapshot_name d)) M (d ∷ M)) ns'
    by true q =
        subst (λ (x : List Bytes). AreMade T (cond (snapshots.has M (snapshot_name d)) M (d ∷ M)) x) (sym (e ∙ ap (λ b. cond b ns (ns ++ snapshot_name d ∷ [])) (at ∙ q)))
        (subst (λ b. AreMade T (cond b M (d ∷ M)) ns) (sym q) a)
    by false q =
        subst (λ (x : List Bytes). AreMade T (cond (snapshots.has M (snapshot_name d)) M (d ∷ M)) x) (sym (e ∙ ap (λ b. cond b ns (ns ++ snapshot_name d ∷ [])) (at ∙ q)))
        (subst (λ b. AreMade T (cond b M (d ∷ M)) (ns ++ snapshot_name d ∷ [])) (sym q) (made-behind T M ns d a (w (at ∙ q))))

-- ---- names in a set

names-among : (n : Name) (ks : List Name) → list_any (λ (j : Name). same_bytes n.0 j.0) ks ≡ is_among n.0 (map name_bytes ks)
names-among n ks = sym (same-image (same_bytes n.0) (λ (j : Name). same_bytes n.0 j.0) name_bytes (λ j. refl) ks)

pub names-with : (ks : List Name) (n : Name) → map name_bytes (cond (list_any (λ (j : Name). same_bytes n.0 j.0) ks) ks (ks ++ n ∷ [])) ≡ with_name (map name_bytes ks) n.0
names-with ks n = by (list_any (λ (j : Name). same_bytes n.0 j.0) ks) ∙ ap (λ b. cond b (map name_bytes ks) (map name_bytes ks ++ n.0 ∷ [])) (names-among n ks)
  where
    by : (b : Bool) → map name_bytes (cond b ks (ks ++ n ∷ [])) ≡ cond b (map name_bytes ks) (map name_bytes ks ++ n.0 ∷ [])
    by true = refl
    by false = map-append name_bytes ks (n ∷ [])

pub taken-there : (T : List Object) (ks : List Name) (n : Name) (b : Bytes) → n.0 ≡ name CommitKind b → list_any (λ (j : Name). same_bytes n.0 j.0) ks ≡ true → IsTakenIn T (map name_bytes ks) (map name_bytes ks) b
taken-there T ks n b e h =
    let there : is_among (name CommitKind b) (map name_bytes ks) ≡ true = ap (λ q. is_among q (map name_bytes ks)) (sym e) ∙ sym (names-among n ks) ∙ h in
    record {
      names = sym (ap (λ x. cond x (map name_bytes ks) (map name_bytes ks ++ name CommitKind b ∷ [])) there);
      found = λ f. absurd (true≢false (sym there ∙ f));
    }

pub added : (ks : List Name) (n : Name) (b : Bytes) → n.0 ≡ name CommitKind b → list_any (λ (j : Name). same_bytes n.0 j.0) ks ≡ false → (o : Object) → IsOnly CommitKind b o → IsAdded (map name_bytes ks) b o
added ks n b e h o x = (ap (λ q. is_among q (map name_bytes ks)) (sym e) ∙ sym (names-among n ks) ∙ h, x)

-- ---- graphs with more commits

contains-add : (M : Graph) (c d : Snapshot) → Contains M d → Contains (add M c) d
contains-add M c d h = by (snapshots.has M (snapshot_name c))
  where
    by : (b : Bool) → Contains (cond b M (c ∷ M)) d
    by true = h
    by false = Contains-append_right (c ∷ []) M d h

pub contains-all : (cs : List Snapshot) (M : Graph) (d : Snapshot) → Contains M d → Contains (add_all M cs) d
contains-all [] M d h = h
contains-all (c ∷ cs) M d h = contains-all cs (add M c) d (contains-add M c d h)

-- Blobs and commits of a store.
use Rattle.std.proofs.Common.{◌≡◌, ℕ, zero, suc, ◌<◌, ◌≤◌, Bool, true, List, [], ◌∷◌, ◌++◌, ◌+◌, map, length, get_or, drop, refl, sym, ap, ◌∙◌, arith, Some}
use Rattle.std.proofs.lemmas.Option.{same_Some}
use Rattle.std.proofs.lemmas.Bool.{and_from}
use Rattle.std.specs.Cmp.{first_so, second_so}
use Rattle.std.specs.List.{list_all}
use Rattle.std.specs.Option.{option_map}
use Rattle.git_objects.specs.Paths.{Bytes}
use Rattle.git_objects.specs.Parts.{name_bytes}
use Rattle.git_objects.specs.Snapshots.{Snapshot}
use Rattle.git_objects.specs.declared.kind.Kind.TheVariants.{Commit as CommitKind}
use Rattle.git_objects.specs.declared.name.Name.{Name}
use Rattle.object_store.specs.Objects.{Object, find_named, has, IsStore}
use Rattle.object_store.specs.StoredSnapshots.{IsTreeOf, snapshot_object, snapshot_of}
use Rattle.object_store.specs.TreeObjects.{tree_objects}
use Rattle.object_store.specs.Unfolding.{flat}
use Rattle.object_store.proofs.Parts.{found-has}
use Rattle.fast_import.specs.Standing.{AreBlobsIn}
use Rattle.projection_laws.specs.StoredGraphs.{snapshot_named}
use Rattle.state_items.specs.Changes.{blob_object, commit_objects}
use Rattle.repo_ground.specs.Changes.{AreNamedIn}
use Rattle.repo_ground.specs.StoredObjects.{stored_objects}
use Rattle.repo_ground.proofs.TreeLaw.{tree_law-stored}

-- a commit's objects are those of its stored tree, and then the commit
pub commit-spelled : (S : List Object) (n t : Bytes) (c : Snapshot) → IsStore S → IsTreeOf S n t → snapshot_named S n ≡ Some c → commit_objects c ≡ stored_objects S t ++ snapshot_object c ∷ []
commit-spelled S n t c s h e =
    let same : snapshot_of S h.commit ≡ c = same_Some (snapshot_of S h.commit) c (sym (ap (option_map (snapshot_of S)) h.named) ∙ e) in
    ap (λ (os : List Object). os ++ snapshot_object c ∷ [])
    (ap (λ (x : Snapshot). tree_objects x.tree) (sym same) ∙ ap (λ (k : Bytes). tree_objects (flat S k)) (sym h.tree) ∙ tree_law-stored S t s h.held)

-- ---- names in a list

pub named-at : (p : Bytes → Bool) (names : List Name) (k : ℕ) (d : Name) → k < length names → list_all p (map name_bytes names) ≡ true → p (get_or names k d).0 ≡ true
named-at p [] k d lt h = absurd (omega arith)
named-at p (x ∷ names) zero d lt h = first_so _ _ h
named-at p (x ∷ names) (suc k) d lt h = named-at p names k d (omega arith) (second_so (p x.0) _ h)

-- the commit of the name at a place, and those behind it
pub record IsNextCommit (S : List Object) (n : Name) (k : ℕ) (cs : List Snapshot) : Type 0 where
  pub commit : Snapshot
  pub named : snapshot_named S n.0 ≡ Some commit
  pub found : find_named S n.0 ≡ Some (snapshot_object commit)
  pub left : drop k cs ≡ commit ∷ drop (k + 1) cs

pub next-commit : (S : List Object) (names : List Name) (cs : List Snapshot) (k : ℕ) (d : Name) → k < length names → AreNamedIn S names cs → IsNextCommit S (get_or names k d) k cs
next-commit S [] cs k d lt h = absurd (omega arith)
next-commit S (n ∷ names) [] k d lt h = absurd h
next-commit S (n ∷ names) (c ∷ cs) zero d lt h = record { commit = c; named = h.0; found = h.1; left = refl }
next-commit S (n ∷ names) (c ∷ cs) (suc k) d lt h =
    let r = next-commit S names cs k d (omega arith) h.2 in
    record { commit = r.commit; named = r.named; found = r.found; left = r.left ∙ ap (λ (i : ℕ). r.commit ∷ drop i (c ∷ cs)) (let q : suc (k + 1) ≡ suc k + 1 = omega arith in q) }

-- the blob of the name at a place, and those behind it
pub record IsNextBlob (S : List Object) (n : Name) (k : ℕ) (bs : List Bytes) : Type 0 where
  pub blob : Bytes
  pub found : find_named S n.0 ≡ Some (blob_object blob)
  pub left : drop k bs ≡ blob ∷ drop (k + 1) bs

pub next-blob : (S : List Object) (names : List Name) (bs : List Bytes) (k : ℕ) (d : Name) → k < length names → AreBlobsIn S names bs → IsNextBlob S (get_or names k d) k bs
next-blob S [] bs k d lt h = absurd (omega arith)
next-blob S (n ∷ names) [] k d lt h = absurd h
next-blob S (n ∷ names) (b ∷ bs) zero d lt h = record { blob = b; found = h.0; left = refl }
next-blob S (n ∷ names) (b ∷ bs) (suc k) d lt h =
    let r = next-blob S names bs k d (omega arith) h.1 in
    record { blob = r.blob; found = r.found; left = r.left ∙ ap (λ (i : ℕ). r.blob ∷ drop i (b ∷ bs)) (let q : suc (k + 1) ≡ suc k + 1 = omega arith in q) }

pub blobs-end : (S : List Object) (names : List Name) (bs : List Bytes) (k : ℕ) → length names ≤ k → AreBlobsIn S names bs → drop k bs ≡ []
blobs-end S [] [] zero l h = refl
blobs-end S [] [] (suc k) l h = refl
blobs-end S [] (b ∷ bs) k l h = absurd h
blobs-end S (n ∷ names) [] k l h = absurd h
blobs-end S (n ∷ names) (b ∷ bs) zero l h = absurd (omega (arith, l))
blobs-end S (n ∷ names) (b ∷ bs) (suc k) l h = blobs-end S names bs k (omega (arith, l)) h.1

pub commits-end : (S : List Object) (names : List Name) (cs : List Snapshot) (k : ℕ) → length names ≤ k → AreNamedIn S names cs → drop k cs ≡ []
commits-end S [] [] zero l h = refl
commits-end S [] [] (suc k) l h = refl
commits-end S [] (c ∷ cs) k l h = absurd h
commits-end S (n ∷ names) [] k l h = absurd h
commits-end S (n ∷ names) (c ∷ cs) zero l h = absurd (omega (arith, l))
commits-end S (n ∷ names) (c ∷ cs) (suc k) l h = commits-end S names cs k (omega (arith, l)) h.2

-- ---- they are in the store

pub commits-stored : (S : List Object) (names : List Name) (cs : List Snapshot) → IsStore S → AreNamedIn S names cs → list_all (has CommitKind S) (map name_bytes names) ≡ true
commits-stored S [] cs s h = refl
commits-stored S (n ∷ names) [] s h = absurd h
commits-stored S (n ∷ names) (c ∷ cs) s h =
    and_from (has CommitKind S n.0) (list_all (has CommitKind S) (map name_bytes names)) (has-of S n.0 c h.1) (commits-stored S names cs s h.2)
  where
    has-of : (S : List Object) (m : Bytes) (x : Snapshot) → find_named S m ≡ Some (snapshot_object x) → has CommitKind S m ≡ true
    has-of S m x e = (found-has S CommitKind m (snapshot_object x) e refl).0

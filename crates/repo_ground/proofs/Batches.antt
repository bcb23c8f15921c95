-- The objects of a batch may be taken in.
use Rattle.std.proofs.Common.{◌≡◌, ◌<◌, ℕ, zero, suc, arith, length, true, false, cond, List, [], ◌∷◌, slice_get, Some, Contains, refl, sym, ap, subst, ◌∙◌}
use Rattle.std.proofs.lemmas.Option.{none-some, same_Some}
use Rattle.std.specs.Option.{option_map}
use Rattle.git_objects.specs.Paths.{Bytes}
use Rattle.git_objects.specs.Snapshots.{Snapshot, snapshot_name}
use Rattle.git_objects.specs.Commits.{commit_name}
use Rattle.git_objects.specs.Names.{name}
use Rattle.git_objects.specs.declared.kind.Kind.TheVariants.{Blob, Commit as CommitKind}
use Rattle.git_objects.specs.declared.name.Name.{Name}
use Rattle.object_store.specs.Objects.{Object, find_named, has_name, object_name, IsStore}
use Rattle.object_store.specs.StoredSnapshots.{snapshot_object, snapshot_of}
use Rattle.object_store.specs.Unfolding.{StandsFor}
use Rattle.object_store.proofs.Parts.{find-name, found-has}
use Rattle.object_store.proofs.StoredCommits.{stored-commit}
use Rattle.fast_import.specs.Standing.{AreBlobsIn}
use Rattle.projection_laws.specs.StoredGraphs.{snapshot_named}
use Rattle.state_items.specs.Appending.{AreNew}
use Rattle.state_items.specs.Changes.{blob_object, fresh}
use Rattle.repo_ground.specs.Changes.{AreNamedIn}
use Rattle.repo_ground.specs.Growing.{AreFed}

-- what is new is taken in one after another, where each is in the store
pub fed-from : (S H os : List Object) → IsStore H → AreNew H (fresh H os) → ((o : Object) → Contains os o → find_named S (object_name o) ≡ Some o) → AreFed S H os
unfolding fresh
fed-from S H [] s n f = tt
fed-from S H (o ∷ os) s n f =
    let here = f o (0, (let q : 0 < suc (length os) = omega arith in q), refl) in
    let later : (x : Object) → Contains os x → find_named S (object_name x) ≡ Some x = λ x m. f x (suc m.0, (let b = m.1 in let q : suc m.0 < suc (length os) = omega (arith, b) in q), m.2) in
    elim (has_name H (object_name o)) as (λ b. has_name H (object_name o) ≡ b → AreNew H (cond b (fresh H os) (o ∷ fresh (o ∷ H) os))
    → (find_named S (object_name o) ≡ Some o) × IsStore (cond b H (o ∷ H)) × AreFed S (cond b H (o ∷ H)) os) [
      | true ↦ λ e g. (here, s, fed-from S H os s g later)
      | false ↦ λ e g. (here, (g.0, e, s), fed-from S (o ∷ H) os (g.0, e, s) g.3 later)
    ] refl n

-- a blob of the batch is in the store
pub blob-stored : (S : List Object) (names : List Name) (bs : List Bytes) → AreBlobsIn S names bs → (b : Bytes) (i : ℕ) → slice_get bs i ≡ Some b → find_named S (name Blob b) ≡ Some (blob_object b)
blob-stored S [] [] h b i e = absurd (none-some b e)
blob-stored S [] (x ∷ bs) h b i e = absurd h
blob-stored S (n ∷ names) [] h b i e = absurd h
blob-stored S (n ∷ names) (x ∷ bs) h b zero e =
    let same : x ≡ b = same_Some x b e in
    subst (λ (y : Bytes). find_named S (name Blob y) ≡ Some (blob_object y)) same (ap (find_named S) (find-name S n.0 (blob_object x) h.0) ∙ h.0)
blob-stored S (n ∷ names) (x ∷ bs) h b (suc i) e = blob-stored S names bs h.1 b i e

-- a commit of the batch is in the store, and its tree
pub record IsCommitStored (S : List Object) (c : Snapshot) : Type 0 where
  pub found : find_named S (snapshot_name c) ≡ Some (snapshot_object c)
  pub tree : Bytes
  pub stands : StandsFor S tree c.tree

one-stored : (S : List Object) (n : Name) (c : Snapshot) → IsStore S → snapshot_named S n.0 ≡ Some c → find_named S n.0 ≡ Some (snapshot_object c) → IsCommitStored S c
unfolding commit_name
one-stored S n c s e f =
    let w = stored-commit S n.0 s (found-has S CommitKind n.0 (snapshot_object c) f refl).0 in
    let same : snapshot_of S w.commit ≡ c = same_Some (snapshot_of S w.commit) c (sym (ap (option_map (snapshot_of S)) w.read) ∙ e) in
    record {
      found = ap (find_named S) (find-name S n.0 (snapshot_object c) f) ∙ f;
      tree = w.commit.tree;
      stands = record { held = w.tree; map = ap (λ (x : Snapshot). x.tree) same };
    }

pub commit-stored : (S : List Object) (names : List Name) (cs : List Snapshot) → IsStore S → AreNamedIn S names cs → (c : Snapshot) (i : ℕ) → slice_get cs i ≡ Some c → IsCommitStored S c
commit-stored S [] [] s h c i e = absurd (none-some c e)
commit-stored S [] (x ∷ cs) s h c i e = absurd h
commit-stored S (n ∷ names) [] s h c i e = absurd h
commit-stored S (n ∷ names) (x ∷ cs) s h c zero e = subst (IsCommitStored S) (same_Some x c e) (one-stored S n x s h.0 h.1)
commit-stored S (n ∷ names) (x ∷ cs) s h c (suc i) e = commit-stored S names cs s h.2 c i e

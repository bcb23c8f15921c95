-- Commits of a store under their names, each with what it changes.
use Rattle.std.proofs.Common.{◌≡◌, ℕ, ◌+◌, List, [], ◌∷◌, ◌++◌, length, map, flat_map, refl, sym, ap, subst, ◌∙◌, append_assoc, append-nil}
use Rattle.std.proofs.lemmas.List.{map-append}
use Rattle.std.specs.Option.{option_map}
use Rattle.std.proofs.lemmas.List.Elements.{filter_map-append}
use Rattle.git_objects.specs.Paths.{Bytes}
use Rattle.git_objects.specs.Commits.{Commit}
use Rattle.git_objects.specs.Snapshots.{Snapshot}
use Rattle.git_objects.specs.Trees.{Flat}
use Rattle.git_objects.specs.declared.name.Name.{Name}
use Rattle.object_store.specs.Objects.{Object}
use Rattle.object_store.specs.StoredSnapshots.{commit_named, snapshot_of}
use Rattle.fast_export.specs.ExportTexts.{Marks, blob_text}
use Rattle.fast_export.specs.Given.{Given, AreGivenIn, commit_names, marks_in, next_of, with_blobs}
use Rattle.fast_export.specs.Histories.{snapshots_at}
use Rattle.fast_export.proofs.StoredHistories.{IsStoredCommit, mark_given, one_commit, with_commit}
use Rattle.fast_export.proofs.WrittenBlobs.{blobs_text}
use Rattle.incremental_export.specs.ChangeTexts.{commit_text, commits_text, marks_after, marks_behind, one_text}
use Rattle.incremental_export.specs.Histories.{tree_in}
use Rattle.incremental_export.specs.Written.{AreChangesOf, flat_of}
use Rattle.incremental_export.specs.declared.compare.Changes.{Changes}
use Rattle.incremental_export.proofs.CommitChanges.{new_found, new_tree}

-- ---- one commit

module _ (S : List Object) (n : Name) (c : Commit) (stored : IsStoredCommit S n.0 c) (x : Changes) (changes : AreChangesOf S c x) (g : Given) where
  abbrev after_blobs : Marks
  after_blobs = with_blobs (marks_in S g) (new_tree S c x changes)

  with_found : with_blobs (marks_in S g) (flat_of S x.put.items) ≡ after_blobs
  with_found =
      let e = new_found S c x changes (marks_in S g) in
      λ i. record { next = (marks_in S g).next + length (e i); blobs = (marks_in S g).blobs ++ e i; commits = (marks_in S g).commits }

  -- the blobs, and what follows them
  pub commit_begun : (refname : Bytes) → blobs_text (marks_in S g) (flat_of S x.put.items) ++ commit_text (tree_in S) refname after_blobs (snapshot_of S c) ≡ commits_text (tree_in S) refname (marks_in S g) (snapshots_at S (n.0 ∷ []))
  commit_begun refname =
      (λ i. flat_map blob_text (new_found S c x changes (marks_in S g) i) ++ commit_text (tree_in S) refname after_blobs (snapshot_of S c))
      ∙ sym (append-nil (one_text (tree_in S) refname (marks_in S g) (snapshot_of S c)))
      ∙ ap (commits_text (tree_in S) refname (marks_in S g)) (sym (one_commit S n.0 c stored))

  module _ (h : Given) (blobs : marks_in S h ≡ with_blobs (marks_in S g) (flat_of S x.put.items)) where
    pub commit_put : (refname : Bytes) → blobs_text (marks_in S g) (flat_of S x.put.items) ++ commit_text (tree_in S) refname (marks_in S h) (snapshot_of S c) ≡ commits_text (tree_in S) refname (marks_in S g) (snapshots_at S (n.0 ∷ []))
    commit_put refname = ap (λ (m : Marks). blobs_text (marks_in S g) (flat_of S x.put.items) ++ commit_text (tree_in S) refname m (snapshot_of S c)) (blobs ∙ with_found) ∙ commit_begun refname

    module _ (i : Given) (commit : i ≡ record h { commits = h.commits ++ (n, next_of h) ∷ [] }) where
      pub marks_put : marks_in S i ≡ marks_behind (tree_in S) (marks_in S g) (snapshots_at S (n.0 ∷ []))
      marks_put =
          mark_given S h i n commit
          ∙ (λ j. with_commit ((blobs ∙ with_found) j) (sym stored.named j))
          ∙ ap (marks_behind (tree_in S) (marks_in S g)) (sym (one_commit S n.0 c stored))

pub still_given : (S : List Object) (n : Name) (h i : Given) → i ≡ record h { commits = h.commits ++ (n, next_of h) ∷ [] } → AreGivenIn S h → AreGivenIn S i
still_given S n h i commit given = subst (AreGivenIn S) (sym commit) (record { held = given.held; trees = given.trees })

pub names_put : (n : Name) (g h i : Given) → h.commits ≡ g.commits → i ≡ record h { commits = h.commits ++ (n, next_of h) ∷ [] } → commit_names i ≡ commit_names g ++ n ∷ []
names_put n g h i same commit = ap commit_names commit ∙ map-append (λ (e : Name × ℕ). e.0) h.commits ((n, next_of h) ∷ []) ∙ ap (λ es. map (λ (e : Name × ℕ). e.0) es ++ n ∷ []) same

-- ---- one commit behind others

at_append : (S : List Object) (ns ms : List Bytes) → snapshots_at S (ns ++ ms) ≡ snapshots_at S ns ++ snapshots_at S ms
at_append S ns ms = filter_map-append (λ (n : Bytes). option_map (snapshot_of S) (commit_named S n)) ns ms

module _ (tree_of : Bytes → Flat) where
  text_append : (refname : Bytes) (m : Marks) (cs ds : List Snapshot) → commits_text tree_of refname m (cs ++ ds) ≡ commits_text tree_of refname m cs ++ commits_text tree_of refname (marks_behind tree_of m cs) ds
  text_append refname m [] ds = refl
  text_append refname m (c ∷ cs) ds =
      ap (λ (t : Bytes). one_text tree_of refname m c ++ t) (text_append refname (marks_after tree_of m c) cs ds)
      ∙ sym (append_assoc (one_text tree_of refname m c) _ _)

  behind_append : (m : Marks) (cs ds : List Snapshot) → marks_behind tree_of m (cs ++ ds) ≡ marks_behind tree_of (marks_behind tree_of m cs) ds
  behind_append m [] ds = refl
  behind_append m (c ∷ cs) ds = behind_append (marks_after tree_of m c) cs ds

  pub texts_behind : (S : List Object) (refname : Bytes) (m : Marks) (ns ms : List Bytes)
      → commits_text tree_of refname m (snapshots_at S (ns ++ ms)) ≡ commits_text tree_of refname m (snapshots_at S ns) ++ commits_text tree_of refname (marks_behind tree_of m (snapshots_at S ns)) (snapshots_at S ms)
  texts_behind S refname m ns ms = ap (commits_text tree_of refname m) (at_append S ns ms) ∙ text_append refname m (snapshots_at S ns) (snapshots_at S ms)

  pub marks_further : (S : List Object) (m : Marks) (ns ms : List Bytes) → marks_behind tree_of m (snapshots_at S (ns ++ ms)) ≡ marks_behind tree_of (marks_behind tree_of m (snapshots_at S ns)) (snapshots_at S ms)
  marks_further S m ns ms = ap (marks_behind tree_of m) (at_append S ns ms) ∙ behind_append m (snapshots_at S ns) (snapshots_at S ms)

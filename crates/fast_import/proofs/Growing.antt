-- What stands over a store stands over one that has grown.
use Rattle.std.proofs.Common.{◌≡◌, true, false, cond, ◌||◌, List, [], ◌∷◌, map, Option, Some, None, refl, sym, ap, subst, ◌∙◌, true≢false}
use Rattle.std.specs.Prelude.{nat_eq}
use Rattle.std.specs.Map.{lookup}
use Rattle.git_objects.specs.Lists.{Each}
use Rattle.git_objects.specs.Paths.{Bytes}
use Rattle.git_objects.specs.Refs.{Refs}
use Rattle.git_objects.specs.Commits.{Commit}
use Rattle.git_objects.specs.CommitBodies.{commit_from}
use Rattle.git_objects.specs.Snapshots.{Snapshot}
use Rattle.git_objects.specs.Trees.{Flat}
use Rattle.git_objects.specs.declared.kind.Kind.{Kind}
use Rattle.git_objects.specs.declared.kind.Kind.TheVariants.{Blob, Tree, Commit as CommitKind}
use Rattle.git_objects.specs.declared.name.Name.{Name}
use Rattle.object_store.specs.Growth.{IsGrownBy}
use Rattle.object_store.specs.Objects.{Object, IsStore, body_of, has, is_named}
use Rattle.object_store.specs.StoredSnapshots.{IsTreeOf, commit_named, snapshot_object}
use Rattle.object_store.specs.Unfolding.{flat}
use Rattle.object_store.proofs.Growth.{flat-grown, found-grown, has-grown, stands-grown}
use Rattle.path_trees.proofs.Grown.{body-above}
use Rattle.stage_tree.specs.Stages.{Shows, Staged}
use Rattle.stage_tree.proofs.Shown.{grown_store}
use Rattle.fast_import.specs.Bases.{IsBaseIn, base_in}
use Rattle.fast_import.specs.Made.{blob_object}
use Rattle.fast_import.specs.Replays.{Draft, Marked, BlobMark, CommitMark, TagMark, Replay}
use Rattle.fast_import.specs.Replaying.{Replaying}
use Rattle.fast_import.specs.Standing.{AreBlobsIn, AreCommitsIn, IsDraftIn, IsDraftOf, IsMarkIn, IsReplayOf}
use Rattle.fast_import.specs.declared.draft.Draft.{Draft as DraftNames}
use Rattle.fast_import.specs.declared.marks.Marked.{Marked as MarkedName}
use Rattle.fast_import.specs.declared.marks.Marked.TheVariants as names
use Rattle.fast_import.specs.declared.replayed.Made.{Made}

-- ---- bodies

body-none : (k : Kind) (S : List Object) (n : Bytes) → has k S n ≡ false → body_of k S n ≡ []
unfolding has body_of
body-none k [] n h = refl
body-none k (o ∷ S) n h =
    elim (is_named k o n) as (λ b. (b || has k S n) ≡ false → cond b o.body (body_of k S n) ≡ []) [
      | true ↦ λ g. absurd (true≢false g)
      | false ↦ λ g. body-none k S n g
    ] h

no_commit : commit_from [] ≡ None
unfolding commit_from
no_commit = refl

-- what reads as a commit is one
pub commit-has : (S : List Object) (n : Bytes) (c : Commit) → commit_named S n ≡ Some c → has CommitKind S n ≡ true
commit-has S n c e =
    elim (has CommitKind S n) as (λ b. has CommitKind S n ≡ b → b ≡ true) [
      | true ↦ λ h. refl
      | false ↦ λ h. let no : None ≡ Some c = sym no_commit ∙ ap commit_from (sym (body-none CommitKind S n h)) ∙ e in cc
    ] refl

abbrev pair : Bytes → Flat → Bytes × Flat
pair n t = (n, t)

module _ {made : Object → Type 0} (S T : List Object) (g : IsGrownBy made S T) where
  pub body-grown : (k : Kind) (n : Bytes) → has k S n ≡ true → body_of k T n ≡ body_of k S n
  body-grown k n h = subst (λ (R : List Object). body_of k R n ≡ body_of k S n) g.above (body-above g.newer S k n (subst IsStore (sym g.above) g.store) h)

  -- ---- what is there before a stream

  tree-grown : (n t : Bytes) → IsTreeOf S n t → IsTreeOf T n t
  tree-grown n t h = record {
    commit = h.commit;
    named = ap commit_from (body-grown CommitKind n (commit-has S n h.commit h.named)) ∙ h.named;
    tree = h.tree;
    held = has-grown S T Tree t g h.held;
  }

  trees-grown : (cs : List (Bytes × Bytes)) → Each (λ e. IsTreeOf S e.0 e.1) cs → Each (λ e. IsTreeOf T e.0 e.1) cs
  trees-grown [] h = tt
  trees-grown (c ∷ cs) h = (tree-grown c.0 c.1 h.0, trees-grown cs h.1)

  pub all-grown : (k : Kind) (ns : List Bytes) → Each (λ n. has k S n ≡ true) ns → Each (λ n. has k T n ≡ true) ns
  all-grown k [] h = tt
  all-grown k (n ∷ ns) h = (has-grown S T k n g h.0, all-grown k ns h.1)

  pub is_base-grown : (commits : List (Bytes × Bytes)) (refs : Refs) (blobs : List Bytes) → IsBaseIn S commits refs blobs → IsBaseIn T commits refs blobs
  is_base-grown commits refs blobs b = record { trees = trees-grown commits b.trees; heads = b.heads; contents = all-grown Blob blobs b.contents }

  flats-grown : (cs : List (Bytes × Bytes)) → Each (λ e. IsTreeOf S e.0 e.1) cs → map {B = Bytes × Flat} (λ e. (e.0, flat T e.1)) cs ≡ map {B = Bytes × Flat} (λ e. (e.0, flat S e.1)) cs
  flats-grown [] h = refl
  flats-grown (c ∷ cs) h =
      ap (λ (t : Flat). pair c.0 t ∷ map {B = Bytes × Flat} (λ e. (e.0, flat T e.1)) cs) (flat-grown S T c.1 g h.0.held)
      ∙ ap (λ (xs : List (Bytes × Flat)). pair c.0 (flat S c.1) ∷ xs) (flats-grown cs h.1)

  bodies-grown : (ns : List Bytes) → Each (λ n. has Blob S n ≡ true) ns → map (body_of Blob T) ns ≡ map (body_of Blob S) ns
  bodies-grown [] h = refl
  bodies-grown (n ∷ ns) h = λ i. body-grown Blob n h.0 i ∷ bodies-grown ns h.1 i

  pub base-grown : (commits : List (Bytes × Bytes)) (refs : Refs) (blobs : List Bytes) → IsBaseIn S commits refs blobs → base_in T commits refs blobs ≡ base_in S commits refs blobs
  base-grown commits refs blobs b = λ i. record { commits = flats-grown commits b.trees i; refs = refs; blobs = bodies-grown blobs b.contents i }

  -- ---- a replay

  pub blobs-grown : (ns : List Name) (bs : List Bytes) → AreBlobsIn S ns bs → AreBlobsIn T ns bs
  blobs-grown [] [] h = tt
  blobs-grown [] (b ∷ bs) h = absurd h
  blobs-grown (n ∷ ns) [] h = absurd h
  blobs-grown (n ∷ ns) (b ∷ bs) h = (found-grown S T n.0 (blob_object b) g h.0, blobs-grown ns bs h.1)

  pub commits-grown : (ms : List Made) (cs : List Snapshot) → AreCommitsIn S ms cs → AreCommitsIn T ms cs
  commits-grown [] [] h = tt
  commits-grown [] (c ∷ cs) h = absurd h
  commits-grown (m ∷ ms) [] h = absurd h
  commits-grown (m ∷ ms) (c ∷ cs) h = (
    record { named = h.0.named; held = found-grown S T m.name.0 (snapshot_object c) g h.0.held; stands = stands-grown S T m.tree.0 c.tree g h.0.stands },
    commits-grown ms cs h.1,
  )

  mark-grown : (x : Option MarkedName) (y : Option Marked) → IsMarkIn S x y → IsMarkIn T x y
  mark-grown None None h = tt
  mark-grown None (Some y) h = absurd h
  mark-grown (Some (names.Blob n)) None h = absurd h
  mark-grown (Some (names.Commit n)) None h = absurd h
  mark-grown (Some names.Tag) None h = absurd h
  mark-grown (Some (names.Blob n)) (Some (BlobMark b)) h = found-grown S T n.0 (blob_object b) g h
  mark-grown (Some (names.Blob n)) (Some (CommitMark c)) h = absurd h
  mark-grown (Some (names.Commit n)) (Some (BlobMark b)) h = absurd h
  mark-grown (Some (names.Commit n)) (Some (CommitMark c)) h = h
  mark-grown (Some (names.Blob n)) (Some TagMark) h = absurd h
  mark-grown (Some (names.Commit n)) (Some TagMark) h = absurd h
  mark-grown (Some names.Tag) (Some (BlobMark b)) h = absurd h
  mark-grown (Some names.Tag) (Some (CommitMark c)) h = absurd h
  mark-grown (Some names.Tag) (Some TagMark) h = tt

  pub shows-grown : (v : Staged) (t : Flat) → Shows S v t → Shows T v t
  shows-grown v t h = subst (λ (R : List Object). Shows R v t) g.above (grown_store g.newer S v t (subst IsStore (sym g.above) g.store) h)

  pub draft-grown : (v : DraftNames) (d : Draft) → IsDraftOf S v d → IsDraftOf T v d
  draft-grown v d h = record { of_branch = h.of_branch; with_mark = h.with_mark; letter = h.letter; parents = h.parents; held = all-grown CommitKind d.parents h.held; few = h.few; stage = shows-grown v.stage d.tree h.stage }

  drafts-grown : (v : Option DraftNames) (d : Option Draft) → IsDraftIn S v d → IsDraftIn T v d
  drafts-grown None None h = tt
  drafts-grown None (Some d) h = absurd h
  drafts-grown (Some v) None h = absurd h
  drafts-grown (Some v) (Some d) h = draft-grown v d h

  heads-grown : (hs : Refs) → Each (λ e. has CommitKind S e.1 ≡ true) hs → Each (λ e. has CommitKind T e.1 ≡ true) hs
  heads-grown [] h = tt
  heads-grown (e ∷ hs) h = (has-grown S T CommitKind e.1 g h.0, heads-grown hs h.1)

  pub replay-grown : (v : Replaying) (r : Replay) → IsReplayOf S v r → IsReplayOf T v r
  replay-grown v r h = record {
    blobs = blobs-grown v.blobs r.blobs h.blobs;
    commits = commits-grown v.commits r.commits h.commits;
    branches = h.branches;
    sorted = h.sorted;
    held = heads-grown v.branches h.held;
    marks = λ n. mark-grown (lookup (nat_eq n) v.marks) (Rattle.fast_import.specs.Replays.marked n r.marks) (h.marks n);
    draft = drafts-grown v.draft r.draft h.draft;
    tags = h.tags;
  }

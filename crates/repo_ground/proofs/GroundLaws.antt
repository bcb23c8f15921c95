-- The ground of a state has the commits that are held, and a stream may name what is held.
use Rattle.std.proofs.Common.{◌≡◌, true, List, [], ◌∷◌, ◌++◌, map, reverse, Option, Some, refl, sym, ap, subst, ◌∙◌}
use Rattle.std.specs.List.{cons_option, filter_map}
use Rattle.std.specs.Option.{option_map, option_to_list}
use Rattle.std.proofs.lemmas.List.{reverse-append}
use Rattle.git_objects.specs.Paths.{Bytes}
use Rattle.git_objects.specs.Names.{name}
use Rattle.git_objects.specs.Commits.{Commit, commit_name}
use Rattle.git_objects.specs.CommitBodies.{IsCommitBody, commit_from}
use Rattle.git_objects.specs.Snapshots.{Snapshot, snapshot_name}
use Rattle.git_objects.specs.Trees.{Flat}
use Rattle.git_objects.specs.declared.kind.Kind.{Kind}
use Rattle.git_objects.specs.declared.kind.Kind.TheVariants.{Blob, Tree, Commit as CommitKind}
use Rattle.git_objects.proofs.CommitReading.{commit_law}
use Rattle.object_store.specs.Objects.{Object, IsStore, body_of, has, is_body}
use Rattle.object_store.specs.StoredSnapshots.{blobs_in, snapshot_in, snapshot_of, snapshots_in}
use Rattle.object_store.specs.Unfolding.{flat}
use Rattle.object_store.proofs.FlatParts.{flat-part}
use Rattle.object_store.proofs.Parts.{AreIn, found-has}
use Rattle.object_store.proofs.StoredCommits.{IsHeldCommit, commit-held}
use Rattle.object_store.proofs.Unfolding.{unfolding_law}
use Rattle.commit_graph.specs.Graphs.{Row}
use Rattle.fast_import.specs.Bases.{base_in}
use Rattle.fast_import.specs.Replays.{named_tree}
use Rattle.projection_laws.specs.StoredGraphs.{graph_of, snapshot_named}
use Rattle.projection_ground.specs.Grounds.{IsGround, commits_of}
use Rattle.state_items.specs.Arrivals.{blobs_of, commit_row, rows_of, with_blob_name, with_commit, with_row}
use Rattle.state_items.specs.Items.{Held}
use Rattle.state_items.specs.Repos.{repo}
use Rattle.repo_ground.specs.Contents.{Contents, Spells}
use Rattle.repo_ground.specs.Laws.{GroundLaw, trees_of}
use Rattle.repo_ground.specs.Selecting.{IsPutAway}
use Rattle.repo_ground.proofs.RowsGround.{are-in}

-- ---- one commit

-- a commit that is read of a body has the body's name
pub snapshot-named : (H : List Object) (b : Bytes) (h : IsHeldCommit H b) → IsStore H → snapshot_name (snapshot_of H h.commit) ≡ name CommitKind b
unfolding commit_name
snapshot-named H b h s =
    let spelled : IsCommitBody h.commit b = (commit_law b h.commit h.bytes).0 h.read in
    ap (λ (t : Bytes). commit_name (record { tree = t; parents = h.commit.parents; letter = h.commit.letter })) (unfolding_law H h.commit.tree s h.tree).named
    ∙ ap (name CommitKind) spelled.spelled

snapshot-part : (S H : List Object) (c : Commit) → IsStore S → IsStore H → AreIn S H → has Tree H c.tree ≡ true → snapshot_of S c ≡ snapshot_of H c
snapshot-part S H c s h i t =
    ap (λ (f : Flat). record { tree = f; parents = c.parents; letter = c.letter }) (sym (flat-part S H c.tree s h i t))

-- the commit of an object that the store has
pub snapshot-found : (S H : List Object) (b : Bytes) (h : IsHeldCommit H b) → IsStore S → IsStore H → AreIn S (record { kind = CommitKind; body = b } ∷ H)
    → snapshot_named S (name CommitKind b) ≡ Some (snapshot_of H h.commit)
snapshot-found S H b h s w i =
    ap (option_map (snapshot_of S)) (ap commit_from (found-has S CommitKind (name CommitKind b) (record { kind = CommitKind; body = b }) i.0 refl).1 ∙ h.read)
    ∙ ap Some (snapshot-part S H h.commit s w i.1 h.tree)

-- ---- all commits

abbrev graph_by : List Object → List Row → List Snapshot
graph_by S rows = filter_map (λ r. snapshot_named S r.name) (reverse rows)

commits-step : (S H : List Object) (k : Kind) (b : Bytes) → IsStore S → IsStore H → is_body H k b ≡ true → AreIn S (record { kind = k; body = b } ∷ H)
    → graph_by S (rows_of H) ≡ snapshots_in H → graph_by S (with_row (rows_of H) k b) ≡ snapshot_in H k b ++ snapshots_in H
commits-step S H Blob b s h w i e = e
commits-step S H Tree b s h w i e = e
commits-step S H CommitKind b s h w i e =
    let c = commit-held H b w in
    let r : Row = commit_row (rows_of H) (name CommitKind b) c.commit in
    ap (λ (o : Option Commit). graph_by S (with_commit (rows_of H) (name CommitKind b) o)) c.read
    ∙ ap (filter_map (λ (x : Row). snapshot_named S x.name)) (reverse-append (rows_of H) (r ∷ []))
    ∙ (λ j. cons_option (snapshot-found S H b c s h i j) (e j))
    ∙ sym (ap (λ (o : Option Commit). option_to_list (option_map (snapshot_of H) o) ++ snapshots_in H) c.read)

commits-by : (S H : List Object) → IsStore S → IsStore H → AreIn S H → graph_by S (rows_of H) ≡ snapshots_in H
unfolding rows_of
commits-by S [] s h i = refl
commits-by S (o ∷ H) s h i = commits-step S H o.kind o.body s h.2 h.0 i (commits-by S H s h.2 i.1)

-- a store that has what is held has the commits that are held
pub commits-held : (S H : List Object) → IsStore S → IsStore H → AreIn S H → graph_of S (rows_of H) ≡ snapshots_in H
unfolding graph_of
commits-held S H s h i = commits-by S H s h i

-- ---- their trees

abbrev trees_by : List Object → List Row → List (Bytes × Flat)
trees_by S rows = map (λ e. (e.0, flat S e.1)) (trees_of rows)

trees-step : (S H : List Object) (k : Kind) (b : Bytes) → IsStore S → IsStore H → is_body H k b ≡ true → AreIn S (record { kind = k; body = b } ∷ H)
    → trees_by S (rows_of H) ≡ map named_tree (snapshots_in H) → trees_by S (with_row (rows_of H) k b) ≡ map named_tree (snapshot_in H k b ++ snapshots_in H)
trees-step S H Blob b s h w i e = e
trees-step S H Tree b s h w i e = e
trees-step S H CommitKind b s h w i e =
    let c = commit-held H b w in
    let r : Row = commit_row (rows_of H) (name CommitKind b) c.commit in
    ap (λ (o : Option Commit). trees_by S (with_commit (rows_of H) (name CommitKind b) o)) c.read
    ∙ ap (λ (rows : List Row). map (λ (x : Bytes × Bytes). (x.0, flat S x.1)) (map (λ (x : Row). (x.name, x.tree)) rows)) (reverse-append (rows_of H) (r ∷ []))
    ∙ (λ j. (sym (snapshot-named H b c h) j, sym (flat-part S H c.commit.tree s h i.1 c.tree) j) ∷ e j)
    ∙ sym (ap (λ (o : Option Commit). map named_tree (option_to_list (option_map (snapshot_of H) o) ++ snapshots_in H)) c.read)

trees-held : (S H : List Object) → IsStore S → IsStore H → AreIn S H → trees_by S (rows_of H) ≡ map named_tree (snapshots_in H)
unfolding rows_of
trees-held S [] s h i = refl
trees-held S (o ∷ H) s h i = trees-step S H o.kind o.body s h.2 h.0 i (trees-held S H s h.2 i.1)

-- ---- blobs

blobs-step : (S H : List Object) (k : Kind) (b : Bytes) → AreIn S (record { kind = k; body = b } ∷ H)
    → map (body_of Blob S) (reverse (blobs_of H)) ≡ blobs_in H → map (body_of Blob S) (reverse (with_blob_name (blobs_of H) k b)) ≡ blobs_in (record { kind = k; body = b } ∷ H)
blobs-step S H Blob b i e =
    ap (map (body_of Blob S)) (reverse-append (blobs_of H) (name Blob b ∷ []))
    ∙ (λ j. (found-has S Blob (name Blob b) (record { kind = Blob; body = b }) i.0 refl).1 j ∷ e j)
blobs-step S H Tree b i e = e
blobs-step S H CommitKind b i e = e

blobs-held : (S H : List Object) → AreIn S H → map (body_of Blob S) (reverse (blobs_of H)) ≡ blobs_in H
unfolding blobs_of
blobs-held S [] i = refl
blobs-held S (o ∷ H) i = blobs-step S H o.kind o.body i (blobs-held S H i.1)

-- ---- the law

ground-commits : (h : Held) (s : Contents) → Spells h s → IsGround s.basis → commits_of s.basis ≡ (repo h).commits
ground-commits h s w g =
    ap (graph_of s.basis.store) w.graph ∙ commits-held s.basis.store h.objects g.graph.store w.store (are-in s.basis.store h.objects w.within)

ground-base : (h : Held) (s : Contents) → Spells h s → IsGround s.basis
    → base_in s.basis.store (trees_of s.basis.graph) h.refs (reverse s.blobs)
    ≡ record { commits = map named_tree (repo h).commits; refs = h.refs; blobs = (repo h).blobs }
ground-base h s w g =
    let i : AreIn s.basis.store h.objects = are-in s.basis.store h.objects w.within in
    let trees : trees_by s.basis.store s.basis.graph ≡ map named_tree (snapshots_in h.objects) =
    ap (trees_by s.basis.store) w.graph ∙ trees-held s.basis.store h.objects g.graph.store w.store i in
    let blobs : map (body_of Blob s.basis.store) (reverse s.blobs) ≡ blobs_in h.objects =
    ap (λ (ns : List Bytes). map (body_of Blob s.basis.store) (reverse ns)) w.known ∙ blobs-held s.basis.store h.objects i in
    λ j. record { commits = trees j; refs = h.refs; blobs = blobs j }

pub ground-law : GroundLaw
ground-law = record { commits = ground-commits; base = ground-base }

-- ---- no map

-- the ground of a state in which no filter is selected any more is a ground still
pub ground-away : {before after : Contents} → IsGround before.basis → IsPutAway before after → IsGround after.basis
ground-away g a = subst (λ (s : Contents). IsGround s.basis) (sym a.same) (record { graph = g.graph; memo = g.memo; maps = g.maps })

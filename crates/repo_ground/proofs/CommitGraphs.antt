-- The commits of a store are a graph.
use Rattle.std.proofs.Common.{◌≡◌, Bool, true, false, ◌&&◌, ◌||◌, List, [], ◌∷◌, ◌++◌, map, reverse, Option, refl, sym, ap, ap₂, subst, ◌∙◌, true≢false}
use Rattle.std.specs.Bool.{if◌then◌else◌}
use Rattle.std.specs.Cmp.Lexicographic.{bytes_decides}
use Rattle.std.specs.List.{list_all}
use Rattle.std.proofs.lemmas.Bool.{and_from}
use Rattle.std.proofs.lemmas.List.{map-append, reverse-append}
use Rattle.git_objects.specs.Lists.{Each}
use Rattle.git_objects.specs.Paths.{Bytes, same_bytes}
use Rattle.git_objects.specs.Names.{name}
use Rattle.git_objects.specs.Bodies.{is_name}
use Rattle.git_objects.specs.Commits.{Commit}
use Rattle.git_objects.specs.Snapshots.{Snapshot, snapshot_name, is_graph, is_wanted, reached, wanted_below}
use Rattle.git_objects.specs.Snapshots as graphs
use Rattle.git_objects.specs.declared.kind.Kind.{Kind}
use Rattle.git_objects.specs.declared.kind.Kind.TheVariants.{Blob, Tree, Commit as CommitKind}
use Rattle.git_objects.proofs.Basics.{same_bytes-back}
use Rattle.git_objects.proofs.Digests.{name-is_name}
use Rattle.commit_graph.specs.Graphs.{Row}
use Rattle.object_store.specs.Objects.{Object, IsStore, has, has_name, object_name, same_kind}
use Rattle.object_store.specs.StoredSnapshots.{snapshot_in, snapshot_of, snapshots_in}
use Rattle.object_store.proofs.Held.{has_name-from}
use Rattle.object_store.proofs.StoredCommits.{IsHeldCommit, commit-held}
use Rattle.projection_laws.proofs.GraphLemmas.{graph-from, has-newer}
use Rattle.state_items.specs.Arrivals.{commit_row, rows_of, with_commit, with_row}
use Rattle.state_items.proofs.Bringing as bringing

abbrev nothing : Object → Type 0
nothing o = ⊥

-- a commit has its body's name
own-name : (H : List Object) (b : Bytes) → IsStore H → (w : IsHeldCommit H b) → snapshot_name (snapshot_of H w.commit) ≡ name CommitKind b
own-name H b s w = bringing.own-name nothing (λ o d x y e. absurd x) H b s w

commit-in : (H : List Object) (b : Bytes) (w : IsHeldCommit H b) → snapshot_in H CommitKind b ≡ snapshot_of H w.commit ∷ []
commit-in H b w = bringing.commit-in nothing (λ o d x y e. absurd x) H b w

-- ---- names

has-one : (n : Bytes) (H : List Object) (k : Kind) (b : Bytes) → IsStore (record { kind = k; body = b } ∷ H) → graphs.has (snapshots_in H) n ≡ has CommitKind H n
    → graphs.has (snapshots_in (record { kind = k; body = b } ∷ H)) n ≡ has CommitKind (record { kind = k; body = b } ∷ H) n
unfolding has
has-one n H Blob b s e = e
has-one n H Tree b s e = e
has-one n H CommitKind b s e =
    let w = commit-held H b s.0 in
    ap (λ (cs : List Snapshot). graphs.has (cs ++ snapshots_in H) n) (commit-in H b w)
    ∙ ap₂ (λ x y. x || y) (same_bytes-back n (snapshot_name (snapshot_of H w.commit)) ∙ ap (λ m. same_bytes m n) (own-name H b s.2 w)) e

-- a name is that of a commit among them exactly where the store has a commit of it
pub has-commit : (n : Bytes) (H : List Object) → IsStore H → graphs.has (snapshots_in H) n ≡ has CommitKind H n
unfolding has
has-commit n [] s = refl
has-commit n (o ∷ H) s = has-one n H o.kind o.body s (has-commit n H s.2)

-- ---- the graph

all-there : (H : List Object) → IsStore H → (ps : List Bytes) → Each (λ p. has CommitKind H p ≡ true) ps → list_all (graphs.has (snapshots_in H)) ps ≡ true
all-there H s [] h = refl
all-there H s (p ∷ ps) h = and_from (graphs.has (snapshots_in H) p) (list_all (graphs.has (snapshots_in H)) ps) (has-commit p H s ∙ h.0) (all-there H s ps h.1)

not-there : (H : List Object) (n : Bytes) → IsStore H → has_name H n ≡ false → graphs.has (snapshots_in H) n ≡ false
not-there H n s e = has-commit n H s ∙ by (has CommitKind H n) refl
  where
    by : (b : Bool) → has CommitKind H n ≡ b → b ≡ false
    by true g = sym (has_name-from CommitKind H n g) ∙ e
    by false g = refl

graph-one : (H : List Object) (k : Kind) (b : Bytes) → IsStore (record { kind = k; body = b } ∷ H) → is_graph (snapshots_in H) ≡ true
    → is_graph (snapshots_in (record { kind = k; body = b } ∷ H)) ≡ true
graph-one H Blob b s h = h
graph-one H Tree b s h = h
graph-one H CommitKind b s h =
    let w = commit-held H b s.0 in
    ap (λ (cs : List Snapshot). is_graph (cs ++ snapshots_in H)) (commit-in H b w)
    ∙ graph-from (snapshot_of H w.commit) (snapshots_in H)
    (not-there H (snapshot_name (snapshot_of H w.commit)) s.2 (ap (has_name H) (own-name H b s.2 w) ∙ s.1))
    (all-there H s.2 w.commit.parents w.parents) h

pub stored-graph : (H : List Object) → IsStore H → is_graph (snapshots_in H) ≡ true
stored-graph [] s = refl
stored-graph (o ∷ H) s = graph-one H o.kind o.body s (stored-graph H s.2)

-- ---- rows

names-one : (H : List Object) (k : Kind) (b : Bytes) → IsStore (record { kind = k; body = b } ∷ H) → map snapshot_name (reverse (snapshots_in H)) ≡ map (λ (r : Row). r.name) (rows_of H)
    → map snapshot_name (reverse (snapshots_in (record { kind = k; body = b } ∷ H))) ≡ map (λ (r : Row). r.name) (with_row (rows_of H) k b)
names-one H Blob b s e = e
names-one H Tree b s e = e
names-one H CommitKind b s e =
    let w = commit-held H b s.0 in
    let c : Snapshot = snapshot_of H w.commit in
    let r : Row = commit_row (rows_of H) (name CommitKind b) w.commit in
    ap (λ (cs : List Snapshot). map snapshot_name (reverse (cs ++ snapshots_in H))) (commit-in H b w)
    ∙ ap (map snapshot_name) (reverse-append (c ∷ []) (snapshots_in H))
    ∙ map-append snapshot_name (reverse (snapshots_in H)) (c ∷ [])
    ∙ (λ i. e i ++ own-name H b s.2 w i ∷ [])
    ∙ sym (map-append (λ (x : Row). x.name) (rows_of H) (r ∷ []))
    ∙ ap (λ (o : Option Commit). map (λ (x : Row). x.name) (with_commit (rows_of H) (name CommitKind b) o)) (sym w.read)

-- the commits from the oldest to the newest have the names of the rows
pub names-are : (H : List Object) → IsStore H → map snapshot_name (reverse (snapshots_in H)) ≡ map (λ (r : Row). r.name) (rows_of H)
unfolding rows_of
names-are [] s = refl
names-are (o ∷ H) s = names-one H o.kind o.body s (names-are H s.2)

-- ---- names

-- a commit that is there has a name
pub name-there : (n : Bytes) (H : List Object) → has CommitKind H n ≡ true → is_name n ≡ true
unfolding has
name-there n [] e = absurd (true≢false (sym e))
name-there n (o ∷ H) e = by (λ k. name-there n H k) (same_kind CommitKind o.kind) (same_bytes (object_name o) n) refl e
  where
    by : (has CommitKind H n ≡ true → is_name n ≡ true) → (a b : Bool) → same_bytes (object_name o) n ≡ b → ((a && b) || has CommitKind H n) ≡ true → is_name n ≡ true
    by later true true q f = subst (λ (m : Bytes). is_name m ≡ true) ((bytes_decides (object_name o) n).0 q) (name-is_name o.kind o.body)
    by later true false q f = later f
    by later false b q f = later f

-- ---- ancestors

-- they are commits of the graph
pub reached-has : (g : List Snapshot) (wanted : List Bytes) (n : Bytes) → graphs.has (reached g wanted) n ≡ true → graphs.has g n ≡ true
reached-has [] wanted n h = h
reached-has (c ∷ g) wanted n h = by (λ k. reached-has g (wanted_below wanted c) n k) (is_wanted wanted c) h
  where
    or-by : (graphs.has (reached g (wanted_below wanted c)) n ≡ true → graphs.has g n ≡ true) → (a : Bool) → (a || graphs.has (reached g (wanted_below wanted c)) n) ≡ true → (a || graphs.has g n) ≡ true
    or-by later true f = refl
    or-by later false f = later f

    by : (graphs.has (reached g (wanted_below wanted c)) n ≡ true → graphs.has g n ≡ true) → (b : Bool) → graphs.has ((if b then c ∷ [] else []) ++ reached g (wanted_below wanted c)) n ≡ true → graphs.has (c ∷ g) n ≡ true
    by later true f = or-by later (graphs.has_name n c) f
    by later false f = has-newer c g n (later f)

-- Commits of a batch that get rows, one after another.
use Rattle.std.proofs.Common.{◌≡◌, ℕ, ◌<◌, ◌≤◌, ◌+◌, true, false, ◌&&◌, ◌||◌, List, [], ◌∷◌, ◌++◌, reverse, length, get_or, drop, Option, Some, None, refl, sym, ap, subst, ◌∙◌, true≢false}
use Rattle.std.specs.Cmp.{first_so, second_so}
use Rattle.std.specs.Cmp.Lexicographic.{bytes_decides}
use Rattle.std.specs.List.{list_all, list_any}
use Rattle.std.specs.Option.{is_some, option_map, option_to_list}
use Rattle.std.proofs.lemmas.Bool.{and_from, or_left, or_right}
use Rattle.std.proofs.lemmas.List.Folds.{list_any-append}
use Rattle.std.proofs.lemmas.Option.{same_Some}
use Rattle.git_objects.specs.Lists.{Each}
use Rattle.git_objects.specs.Paths.{Bytes, same_bytes}
use Rattle.git_objects.specs.Names.{name}
use Rattle.git_objects.specs.Commits.{Commit, commit_body, commit_name}
use Rattle.git_objects.specs.CommitBodies.{commit_from}
use Rattle.git_objects.specs.Snapshots.{Snapshot, snapshot_commit, snapshot_name}
use Rattle.git_objects.specs.declared.kind.Kind.{Kind}
use Rattle.git_objects.specs.declared.kind.Kind.TheVariants.{Blob, Tree, Commit as CommitKind}
use Rattle.git_objects.specs.declared.name.Name.{Name}
use Rattle.git_objects.proofs.Basics.{same_bytes-self}
use Rattle.object_store.specs.Objects.{Object, IsStore, find_named, has, is_body, same_kind}
use Rattle.object_store.specs.StoredSnapshots.{commit_named, snapshot_in, snapshot_object, snapshot_of, snapshots_in}
use Rattle.object_store.proofs.Parts.{AreIn, find-name, found-has}
use Rattle.object_store.proofs.StoredCommits.{commit-held, stored-commit}
use Rattle.commit_graph.specs.Graphs.{Row, place_of}
use Rattle.projection_laws.specs.StoredGraphs.{IsGraphIn, snapshot_named}
use Rattle.state_items.specs.Arrivals.{HasParents, commit_row, rows_of, with_commit, with_row}
use Rattle.state_items.specs.Imported.{AreWhole, is_among}
use Rattle.state_items.proofs.RowsHeld.{some-place}
use Rattle.repo_ground.specs.Changes.{AreNamedIn}
use Rattle.repo_ground.specs.Entering.{IsFront}
use Rattle.repo_ground.specs.Reaching.{AreEntered, HasCommits, IsNext, MayEnter}
use Rattle.repo_ground.proofs.Entered.{drop-at}
use Rattle.repo_ground.proofs.FreshNames.{front-of}
use Rattle.repo_ground.proofs.GroundLaws.{snapshot-found, snapshot-named}
use Rattle.repo_ground.proofs.RowsGround.{ArePlaced, one-more}
use Rattle.repo_ground.proofs.StoredCommits.{commits-end, next-commit}

-- ---- rows behind others

pub placed-front : (rows more : List Row) (n : Bytes) → is_some (place_of n rows) ≡ true → is_some (place_of n (rows ++ more)) ≡ true
placed-front rows more n h =
    some-place (λ (r : Row). same_bytes r.name n) (rows ++ more)
    ∙ list_any-append (λ (r : Row). same_bytes r.name n) rows more
    ∙ or_left (list_any (λ (r : Row). same_bytes r.name n) rows) (list_any (λ (r : Row). same_bytes r.name n) more) (sym (some-place (λ (r : Row). same_bytes r.name n) rows) ∙ h)

placed-last : (rows : List Row) (r : Row) → is_some (place_of r.name (rows ++ r ∷ [])) ≡ true
placed-last rows r =
    some-place (λ (q : Row). same_bytes q.name r.name) (rows ++ r ∷ [])
    ∙ list_any-append (λ (q : Row). same_bytes q.name r.name) rows (r ∷ [])
    ∙ or_right (list_any (λ (q : Row). same_bytes q.name r.name) rows) (same_bytes r.name r.name || false) (or_left (same_bytes r.name r.name) false (same_bytes-self r.name))

pub entered-front : (S : List Object) (rows more : List Row) (cs : List Snapshot) → AreEntered S rows cs → AreEntered S (rows ++ more) cs
entered-front S rows more [] h = tt
entered-front S rows more (c ∷ cs) h = (record { stored = h.0.stored; placed = placed-front rows more (snapshot_name c) h.0.placed }, h.1, entered-front S rows more cs h.2)

pub placed-among : (S : List Object) (rows : List Row) (cs : List Snapshot) (n : Bytes) → AreEntered S rows cs → is_among cs n ≡ true → is_some (place_of n rows) ≡ true
placed-among S rows [] n h e = absurd (true≢false (sym e))
placed-among S rows (c ∷ cs) n h e =
    elim (same_bytes (snapshot_name c) n) as (λ b. same_bytes (snapshot_name c) n ≡ b → (b || is_among cs n) ≡ true → is_some (place_of n rows) ≡ true) [
      | true ↦ λ q k. ap (λ m. is_some (place_of m rows)) (sym ((bytes_decides (snapshot_name c) n).0 q)) ∙ h.0.placed
      | false ↦ λ q k. placed-among S rows cs n h.2 k
    ] refl e

all-placed : (S : List Object) (rows : List Row) (cs : List Snapshot) (ps : List Bytes) → AreEntered S rows cs → list_all (is_among cs) ps ≡ true → ArePlaced rows ps
all-placed S rows cs [] h e = tt
all-placed S rows cs (p ∷ ps) h e = (placed-among S rows cs p h (first_so _ _ e), all-placed S rows cs ps h (second_so (is_among cs p) _ e))

placed-all : (rows : List Row) (ps : List Bytes) → ArePlaced rows ps → list_all (λ p. is_some (place_of p rows)) ps ≡ true
placed-all rows [] h = refl
placed-all rows (p ∷ ps) h = and_from (is_some (place_of p rows)) (list_all (λ q. is_some (place_of q rows)) ps) h.0 (placed-all rows ps h.1)

-- ---- the commits of what is held

among-step : (H : List Object) (n : Bytes) (k : Kind) (b : Bytes) → IsStore H → is_body H k b ≡ true → (has CommitKind H n ≡ true → is_among (snapshots_in H) n ≡ true)
    → ((same_kind CommitKind k && same_bytes (name k b) n) || has CommitKind H n) ≡ true → is_among (snapshot_in H k b ++ snapshots_in H) n ≡ true
among-step H n Blob b s w f e = f e
among-step H n Tree b s w f e = f e
among-step H n CommitKind b s w f e =
    let c = commit-held H b w in
    ap (λ (o : Option Commit). is_among (option_to_list (option_map (snapshot_of H) o) ++ snapshots_in H) n) c.read
    ∙ ap (λ m. same_bytes m n || is_among (snapshots_in H) n) (snapshot-named H b c s)
    ∙ elim (same_bytes (name CommitKind b) n) as (λ t. (t || has CommitKind H n) ≡ true → (t || is_among (snapshots_in H) n) ≡ true) [
      | true ↦ λ g. refl
      | false ↦ f
    ] e

-- a commit that is held is one of the commits
has-among : (H : List Object) (n : Bytes) → IsStore H → has CommitKind H n ≡ true → is_among (snapshots_in H) n ≡ true
unfolding has
has-among [] n s e = absurd (true≢false (sym e))
has-among (o ∷ H) n s e = among-step H n o.kind o.body s.2 s.0 (has-among H n s.2) e

all-among : (H : List Object) (ps : List Bytes) → IsStore H → Each (λ p. has CommitKind H p ≡ true) ps → list_all (is_among (snapshots_in H)) ps ≡ true
all-among H [] s h = refl
all-among H (p ∷ ps) s h = and_from (is_among (snapshots_in H) p) (list_all (is_among (snapshots_in H)) ps) (has-among H p s h.0) (all-among H ps s h.1)

held-step : (S H : List Object) (k : Kind) (b : Bytes) → IsStore S → IsStore H → is_body H k b ≡ true → AreIn S (record { kind = k; body = b } ∷ H) → AreEntered S (rows_of H) (snapshots_in H)
    → AreEntered S (with_row (rows_of H) k b) (snapshot_in H k b ++ snapshots_in H)
held-step S H Blob b t s w i h = h
held-step S H Tree b t s w i h = h
held-step S H CommitKind b t s w i h =
    let c = commit-held H b w in
    let d : Snapshot = snapshot_of H c.commit in
    let r : Row = commit_row (rows_of H) (name CommitKind b) c.commit in
    let own : snapshot_name d ≡ name CommitKind b = snapshot-named H b c s in
    subst (λ (o : Option Commit). AreEntered S (with_commit (rows_of H) (name CommitKind b) o) (option_to_list (option_map (snapshot_of H) o) ++ snapshots_in H)) (sym c.read) (
      record {
        stored = ap (snapshot_named S) own ∙ snapshot-found S H b c t s i;
        placed = ap (λ m. is_some (place_of m (rows_of H ++ r ∷ []))) own ∙ placed-last (rows_of H) r;
      },
      all-among H c.commit.parents s c.parents,
      entered-front S (rows_of H) (r ∷ []) (snapshots_in H) h,
    )

-- the commits that are held have rows
pub held-entered : (S H : List Object) → IsStore S → IsStore H → AreIn S H → AreEntered S (rows_of H) (snapshots_in H)
unfolding rows_of
held-entered S [] t s i = tt
held-entered S (o ∷ H) t s i = held-step S H o.kind o.body t s.2 s.0 i (held-entered S H t s.2 i.1)

-- ---- one commit more

module _ (S : List Object) (rows : List Row) (known : List Snapshot) (n : Name) (c : Snapshot) (w : IsNext S rows known n c) where
  own-name : snapshot_name c ≡ n.0
  unfolding commit_name
  own-name = find-name S n.0 (snapshot_object c) w.found

  -- where it has a row, and the others have what they had
  pub next-has : (after : List Row) → IsFront rows after → IsGraphIn S after → is_some (place_of n.0 after) ≡ true → HasCommits S after (c ∷ known)
  next-has after f g p = record {
    graph = g;
    each = (
      record { stored = ap (snapshot_named S) own-name ∙ w.named; placed = ap (λ m. is_some (place_of m after)) own-name ∙ p },
      w.parents,
      subst (λ (rs : List Row). AreEntered S rs known) (sym f.1) (entered-front S rows f.0 known w.has.each),
    );
  }

  -- the commit of its body
  pub record IsRead (b : Bytes) : Type 0 where
    pub commit : Commit
    pub read : commit_from b ≡ Some commit
    pub named : name CommitKind b ≡ n.0
    pub stored : has CommitKind S n.0 ≡ true
    pub told : commit_named S n.0 ≡ Some commit
    pub tree : has Tree S commit.tree ≡ true
    pub placed : ArePlaced rows commit.parents

  next-read : IsRead (commit_body (snapshot_commit c))
  next-read =
      let f = found-has S CommitKind n.0 (snapshot_object c) w.found refl in
      let h = stored-commit S n.0 w.has.graph.store f.0 in
      let same : snapshot_of S h.commit ≡ c = same_Some (snapshot_of S h.commit) c (sym (ap (option_map (snapshot_of S)) h.read) ∙ w.named) in
      record {
        commit = h.commit;
        read = ap commit_from (sym f.1) ∙ h.read;
        named = find-name S n.0 (snapshot_object c) w.found;
        stored = f.0;
        told = h.read;
        tree = h.tree;
        placed = subst (ArePlaced rows) (ap (λ (x : Snapshot). x.parents) (sym same)) (all-placed S rows known c.parents w.has.each w.parents);
      }

  pub next-of : (o : Object) → find_named S n.0 ≡ Some o → (o.kind ≡ CommitKind) × IsRead o.body
  next-of o e =
      let same : snapshot_object c ≡ o = same_Some (snapshot_object c) o (sym w.found ∙ e) in
      (ap (λ (x : Object). x.kind) (sym same), subst IsRead (ap (λ (x : Object). x.body) same) next-read)

  -- its parents have places
  pub next-parents : (b : Bytes) → IsRead b → HasParents rows (commit_from b)
  next-parents b r = subst (λ (o : Option Commit). HasParents rows o) (sym r.read) (placed-all rows r.commit.parents r.placed)

  -- the rows with it are a graph, and have its name
  pub next-rows : (b : Bytes) → IsRead b → place_of n.0 rows ≡ None → IsGraphIn S (with_row rows CommitKind b) × (is_some (place_of n.0 (with_row rows CommitKind b)) ≡ true)
  next-rows b r new =
      let row : Row = commit_row rows n.0 r.commit in
      subst (λ (o : Option Commit). IsGraphIn S (with_commit rows (name CommitKind b) o) × (is_some (place_of n.0 (with_commit rows (name CommitKind b) o)) ≡ true)) (sym r.read)
      (subst (λ (m : Bytes). IsGraphIn S (rows ++ commit_row rows m r.commit ∷ []) × (is_some (place_of n.0 (rows ++ commit_row rows m r.commit ∷ [])) ≡ true)) (sym r.named)
      (one-more S rows n.0 r.commit w.has.graph r.stored r.told r.tree r.placed new, placed-last rows row))

  pub next-entered : (o : Object) → find_named S n.0 ≡ Some o → place_of n.0 rows ≡ None → (after : List Row) → IsFront rows after → after ≡ with_row rows CommitKind o.body → HasCommits S after (c ∷ known)
  next-entered o e new after f q =
      let r = next-rows o.body (next-of o e).1 new in
      next-has after f (subst (IsGraphIn S) (sym q) r.0) (ap (λ (rs : List Row). is_some (place_of n.0 rs)) q ∙ r.1)

-- ---- one after another

-- so many names are entered
pub record IsEnteringCommits (S : List Object) (names : List Name) (known cs : List Snapshot) (k : ℕ) (rows : List Row) : Type 0 where
  pub now : List Snapshot
  pub may : MayEnter S rows now (drop k names) (drop k cs)
  pub same : reverse (drop k cs) ++ now ≡ reverse cs ++ known

module _ (S : List Object) (names : List Name) (known cs : List Snapshot) where
  pub commits-first : (rows : List Row) → MayEnter S rows known names cs → IsEnteringCommits S names known cs 0 rows
  commits-first rows m = record { now = known; may = m; same = refl }

  pub record IsNextName (rows : List Row) (k : ℕ) (d : Name) (now : List Snapshot) : Type 0 where
    pub commit : Snapshot
    pub next : IsNext S rows now (get_or names k d) commit
    pub left : (after : List Row) → HasCommits S after (commit ∷ now) → IsEnteringCommits S names known cs (k + 1) after

  pub commits-next : (rows : List Row) (k : ℕ) (d : Name) → k < length names → AreNamedIn S names cs → (e : IsEnteringCommits S names known cs k rows) → IsNextName rows k d e.now
  commits-next rows k d l named e =
      let x = next-commit S names cs k d l named in
      let left : AreNamedIn S (get_or names k d ∷ drop (k + 1) names) (x.commit ∷ drop (k + 1) cs) =
      subst (AreNamedIn S (get_or names k d ∷ drop (k + 1) names)) x.left (subst (λ (ns : List Name). AreNamedIn S ns (drop k cs)) (drop-at names k d l) e.may.named) in
      let whole : AreWhole e.now (x.commit ∷ drop (k + 1) cs) = subst (AreWhole e.now) x.left e.may.whole in
      record {
        commit = x.commit;
        next = record { has = e.may.has; named = x.named; found = x.found; parents = whole.1 };
        left = λ after h. record {
          now = x.commit ∷ e.now;
          may = record { has = h; named = left.2; whole = whole.2 };
          same = sym (front-of x.commit (drop (k + 1) cs) e.now) ∙ ap (λ (xs : List Snapshot). reverse xs ++ e.now) (sym x.left) ∙ e.same;
        };
      }

  pub commits-last : (rows : List Row) (k : ℕ) → length names ≤ k → AreNamedIn S names cs → IsEnteringCommits S names known cs k rows → HasCommits S rows (reverse cs ++ known)
  commits-last rows k l named e =
      subst (HasCommits S rows) (ap (λ (xs : List Snapshot). reverse xs ++ e.now) (sym (commits-end S names cs k l named)) ∙ e.same) e.may.has

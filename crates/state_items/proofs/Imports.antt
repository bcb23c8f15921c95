-- What is held after a change that brings blobs and commits.
use Rattle.std.proofs.Common.{◌≡◌, Bool, true, false, cond, ◌&&◌, ◌||◌, List, [], ◌∷◌, ◌++◌, map, reverse, Contains, Some, refl, sym, ap, subst, ◌∙◌, true≢false}
use Rattle.std.specs.Prelude.{if◌then◌else◌}
use Rattle.std.specs.Cmp.{first_so, second_so}
use Rattle.std.specs.Cmp.Lexicographic.{bytes_decides}
use Rattle.std.specs.List.{flat_map, list_all, list_any}
use Rattle.std.specs.Option.{option_map, option_to_list}
use Rattle.std.proofs.lemmas.Bool.{or_right}
use Rattle.std.proofs.lemmas.List.Elements.{All-contains_itself}
use Rattle.git_objects.specs.Paths.{Bytes, is_nil, same_bytes}
use Rattle.git_objects.specs.Trees.{Flat}
use Rattle.git_objects.specs.Names.{name}
use Rattle.git_objects.specs.Commits.{Commit, commit_body}
use Rattle.git_objects.specs.CommitBodies.{commit_from}
use Rattle.git_objects.specs.declared.kind.Kind.{Kind}
use Rattle.git_objects.specs.declared.kind.Kind.TheVariants.{Blob, Tree, Commit as CommitKind}
use Rattle.git_objects.specs.Lists.{Each}
use Rattle.git_objects.proofs.Basics.{same_bytes-self}
use Rattle.git_objects.proofs.CommitReading.{spelled_law}
use Rattle.object_store.specs.Objects.{Object, IsStore, body_of, has, has_name, is_body, is_named, object_name, same_kind}
use Rattle.object_store.specs.Unfolding.{flat}
use Rattle.object_store.proofs.Held.{named_kind}
use Rattle.state_items.specs.Changes.{fresh, moved, with_refs, ChangePlan, NoPlan, change_plan, held_after, blob_object, commit_objects, objects_of}
use Rattle.state_items.specs.Growing.{grown, with_one}
use Rattle.state_items.proofs.Growing.{grown-all, in-self, known-grown, AreKnown, grown-append, grown-fresh}
use Rattle.git_objects.specs.Refs.{Refs}
use Rattle.git_objects.specs.Snapshots.{Snapshot, snapshot_commit}
use Rattle.object_store.specs.StoredSnapshots.{blobs_in, snapshot_in, snapshot_object, snapshot_of, snapshots_in}
use Rattle.state_items.specs.Repos.{has_tree, is_tree_of, is_used}
use Rattle.object_store.specs.TreeObjects.{tree_objects}
use Rattle.object_store.proofs.FlatParts.{flat-part}
use Rattle.object_store.proofs.Parts.{AreIn, part-has}
use Rattle.object_store.proofs.StoredCommits.{commit-held}
use Rattle.state_items.specs.Items.{Held}
use Rattle.state_items.specs.Imported.{AreWhole, ImportedLaw, IsBrought, IsImported, IsWhole, is_among, with_blobs, with_commits}
use Rattle.state_items.proofs.Bringing.{IsBringing, among-has, any-back, blobs-brought, commits-brought, tree-all-held}
use Rattle.state_items.proofs.RefsSet.{refs-set}
use Rattle.state_items.proofs.TreeParts.{each-all}
use Rattle.state_items.proofs.TreesHeld.{IsIn, each-back, each-both, each-front}
use Rattle.state_items.proofs.TreesAdded.{AreAdded, added-both, all-in, hand-all, store-added}

-- ---- what is used stays used

pub any-front : {A : Type 0} (p : A → Bool) (xs ys : List A) → list_any p xs ≡ true → list_any p (xs ++ ys) ≡ true
any-front p [] ys h = absurd (true≢false (sym h))
any-front p (x ∷ xs) ys h = elim (p x) as (λ b. (b || list_any p xs) ≡ true → (b || list_any p (xs ++ ys)) ≡ true) [ true ↦ λ g. refl | false ↦ λ g. any-front p xs ys g ] h

used-more : (xs cs : List Snapshot) (k : Kind) (b : Bytes) → is_used cs k b ≡ true → is_used (xs ++ cs) k b ≡ true
used-more xs cs Blob b h = refl
used-more xs cs Tree b h = any-back (λ c. has_tree b (tree_objects c.tree)) xs cs h
used-more xs cs CommitKind b h = refl

used-grown : (H os : List Object) (k : Kind) (b : Bytes) → is_used (snapshots_in H) k b ≡ true → is_used (snapshots_in (grown H os)) k b ≡ true
used-grown H [] k b h = h
used-grown H (o ∷ os) k b h =
    used-grown (with_one H o) os k b
    (elim (has_name H (object_name o)) as (λ t. is_used (snapshots_in (cond t H (o ∷ H))) k b ≡ true) [ true ↦ h | false ↦ used-more (snapshot_in H o.kind o.body) (snapshots_in H) k b h ])

abbrev AreUsed : List Snapshot → List Object → Type 0
AreUsed cs os = Each (λ o. is_used cs o.kind o.body ≡ true) os

all-grown : (cs : List Snapshot) (H os : List Object) → list_all (λ o. is_used cs o.kind o.body) H ≡ true → AreUsed cs os → list_all (λ o. is_used cs o.kind o.body) (grown H os) ≡ true
all-grown cs H [] h g = h
all-grown cs H (o ∷ os) h g =
    all-grown cs (with_one H o) os
    (elim (has_name H (object_name o)) as (λ t. list_all (λ o. is_used cs o.kind o.body) (cond t H (o ∷ H)) ≡ true) [ true ↦ h | false ↦ ap (λ t. t && list_all (λ o. is_used cs o.kind o.body) H) g.0 ∙ h ])
    g.1

old-used : (H os xs : List Object) → list_all (λ o. is_used (snapshots_in H) o.kind o.body) xs ≡ true → list_all (λ o. is_used (snapshots_in (grown H os)) o.kind o.body) xs ≡ true
old-used H os [] h = refl
old-used H os (o ∷ xs) h =
    ap (λ t. t && list_all (λ o. is_used (snapshots_in (grown H os)) o.kind o.body) xs) (used-grown H os o.kind o.body (first_so _ _ h))
    ∙ old-used H os xs (second_so (is_used (snapshots_in H) o.kind o.body) _ h)

-- ---- a commit that is held has its snapshot

own : (o : Object) (G : List Object) (n : Bytes) → is_named CommitKind o n ≡ true → o.body ≡ body_of CommitKind (o ∷ G) n
unfolding body_of
own o G n e = sym (ap (λ b. cond b o.body (body_of CommitKind G n)) e)

commit-shows : (S : List Object) (q : Flat → Bool) (n : Bytes) (c : Commit) → IsStore S → commit_from (body_of CommitKind S n) ≡ Some c → q (flat S c.tree) ≡ true →
    (G : List Object) → IsStore G → AreIn S G → has CommitKind G n ≡ true → list_any (λ s. q s.tree) (snapshots_in G) ≡ true
unfolding has
commit-shows S q n c s r h [] g i t = absurd (true≢false (sym t))
commit-shows S q n c s r h (o ∷ G) g i t =
    elim (is_named CommitKind o n) as (λ b. is_named CommitKind o n ≡ b → (b || has CommitKind G n) ≡ true → list_any (λ s. q s.tree) (snapshot_in G o.kind o.body ++ snapshots_in G) ≡ true) [
      | true ↦ λ e k.
          let kind = named_kind CommitKind o n e in
          let held = commit-held G o.body (ap (λ j. is_body G j o.body) (sym kind) ∙ g.0) in
          let body : o.body ≡ body_of CommitKind S n = own o G n e ∙ (part-has S (o ∷ G) CommitKind n i t).1 in
          let same : held.commit ≡ c = let f : Some held.commit ≡ Some c = sym held.read ∙ ap commit_from body ∙ r in cc in
          let shown : q (flat G held.commit.tree) ≡ true =
          ap q (flat-part S G held.commit.tree s g.2 i.1 held.tree ∙ ap (λ (d : Commit). flat S d.tree) same) ∙ h in
          let list : list_any (λ s. q s.tree) (option_to_list (option_map (snapshot_of G) (commit_from o.body))) ≡ true =
          ap (λ m. list_any (λ s. q s.tree) (option_to_list (option_map (snapshot_of G) m))) held.read ∙ ap (λ b. b || false) shown in
          any-front (λ s. q s.tree) (snapshot_in G o.kind o.body) (snapshots_in G) (ap (λ j. list_any (λ s. q s.tree) (snapshot_in G j o.body)) kind ∙ list)
      | false ↦ λ e k. any-back (λ s. q s.tree) (snapshot_in G o.kind o.body) (snapshots_in G) (commit-shows S q n c s r h G g.2 i.1 k)
    ] refl t

-- ---- a tree among its own objects

tree-more : (o : Object) (xs ys : List Object) → Each (λ x. same_kind Tree x.kind ≡ true → has_tree x.body xs ≡ true) ys → Each (λ x. same_kind Tree x.kind ≡ true → has_tree x.body (o ∷ xs) ≡ true) ys
tree-more o xs [] h = tt
tree-more o xs (y ∷ ys) h = (λ k. or_right (is_tree_of y.body o) _ (h.0 k), tree-more o xs ys h.1)

tree-self : (xs : List Object) → Each (λ x. same_kind Tree x.kind ≡ true → has_tree x.body xs ≡ true) xs
tree-self [] = tt
tree-self (o ∷ xs) = (λ k. ap (λ t. t || has_tree o.body xs) ((λ i. k i && same_bytes-self o.body i)), tree-more o xs xs (tree-self xs))

one-used : (cs : List Snapshot) (k : Kind) (b : Bytes) → (same_kind Tree k ≡ true → list_any (λ (q : Snapshot). has_tree b (tree_objects q.tree)) cs ≡ true) → is_used cs k b ≡ true
one-used cs Blob b f = refl
one-used cs Tree b f = f refl
one-used cs CommitKind b f = refl

module _ (hand : Object → Type 0) (apart : (o d : Object) → hand o → hand d → object_name o ≡ object_name d → o ≡ d) (G : List Object) (s : IsStore G) where
  blobs-used : (bs : List Bytes) → AreUsed (snapshots_in G) (map blob_object bs)
  blobs-used [] = tt
  blobs-used (b ∷ bs) = (refl, blobs-used bs)

  trees-used : (c : Snapshot) (xs : List Object) → ((q : Flat → Bool) → q c.tree ≡ true → list_any (λ k. q k.tree) (snapshots_in G) ≡ true) →
      Each (λ x. same_kind Tree x.kind ≡ true → has_tree x.body (tree_objects c.tree) ≡ true) xs → AreUsed (snapshots_in G) xs
  trees-used c [] f h = tt
  trees-used c (x ∷ xs) f h = (one-used (snapshots_in G) x.kind x.body (λ k. f (λ t. has_tree x.body (tree_objects t)) (h.0 k)), trees-used c xs f h.1)

  commit-used : (c : Snapshot) → IsWhole c → Each (IsIn G) (commit_objects c) → AreUsed (snapshots_in G) (commit_objects c)
  commit-used c w i =
      let os = tree_objects c.tree in
      let o = snapshot_object c in
      let n = object_name o in
      let last : IsIn G o = (each-back (IsIn G) os (o ∷ []) i).0 in
      let tree = tree-all-held hand apart G s c.tree w.tree (each-front (IsIn G) os (o ∷ []) i) in
      let read : commit_from (body_of CommitKind G n) ≡ Some (snapshot_commit c) = ap commit_from last.body ∙ spelled_law (commit_body (snapshot_commit c)) (snapshot_commit c) w.body in
      each-both (λ x. is_used (snapshots_in G) x.kind x.body ≡ true) os (o ∷ [])
      (trees-used c os (λ q e. commit-shows G q n (snapshot_commit c) s read (ap q tree.1 ∙ e) G s (in-self G s) last.held) (tree-self os))
      (refl, tt)

  commits-used : (cs known : List Snapshot) → AreWhole known cs → Each (IsIn G) (flat_map commit_objects cs) → AreUsed (snapshots_in G) (flat_map commit_objects cs)
  commits-used [] known w i = tt
  commits-used (c ∷ cs) known w i =
      each-both (λ x. is_used (snapshots_in G) x.kind x.body ≡ true) (commit_objects c) (flat_map commit_objects cs)
      (commit-used c w.0 (each-front (IsIn G) (commit_objects c) (flat_map commit_objects cs) i))
      (commits-used cs (c ∷ known) w.2 (each-back (IsIn G) (commit_objects c) (flat_map commit_objects cs) i))

-- ---- the plan

plan-after : (h : Held) (f : List Object) (m : Refs) → held_after h (if is_nil f && is_nil m then NoPlan else ChangePlan f m) ≡ record h { objects = reverse f ++ h.objects; refs = with_refs h.refs m }
plan-after h [] [] = refl
plan-after h [] (e ∷ m) = refl
plan-after h (o ∷ f) m = refl

pub change-after : (h : Held) (os : List Object) (es : Refs) → held_after h (change_plan h os es) ≡ record h { objects = grown h.objects os; refs = with_refs h.refs (moved h.refs es) }
change-after h os es =
    plan-after h (fresh h.objects os) (moved h.refs es)
    ∙ ap (λ (G : List Object). record h { objects = G; refs = with_refs h.refs (moved h.refs es) }) (sym (grown-fresh h.objects os))

-- ---- the law

pub any-cases : (p : Bytes → Bool) (xs ys : List Bytes) (R : Type 0) → list_any p (xs ++ ys) ≡ true → (list_any p xs ≡ true → R) → (list_any p ys ≡ true → R) → R
any-cases p [] ys R e f g = g e
any-cases p (x ∷ xs) ys R e f g =
    elim (p x) as (λ b. (b || list_any p (xs ++ ys)) ≡ true → ((b || list_any p xs) ≡ true → R) → R) [
      | true ↦ λ k u. u refl
      | false ↦ λ k u. any-cases p xs ys R k u g
    ] e f

among-blobs : (b : Bytes) (bs : List Bytes) (G : List Object) → AreKnown G (map blob_object bs) → list_any (same_bytes b) bs ≡ true → has_name G (name Blob b) ≡ true
among-blobs b [] G k e = absurd (true≢false (sym e))
among-blobs b (x ∷ bs) G k e =
    elim (same_bytes b x) as (λ t. same_bytes b x ≡ t → (t || list_any (same_bytes b) bs) ≡ true → has_name G (name Blob b) ≡ true) [
      | true ↦ λ g j. ap (λ (y : Bytes). has_name G (name Blob y)) ((bytes_decides b x).0 g) ∙ k.0
      | false ↦ λ g j. among-blobs b bs G k.1 j
    ] refl e

held-blob-one : (b : Bytes) (H : List Object) (k : Kind) (x : Bytes) → (list_any (same_bytes b) (blobs_in H) ≡ true → has_name H (name Blob b) ≡ true) → list_any (same_bytes b) (blobs_in (record { kind = k; body = x } ∷ H)) ≡ true →
    has_name (record { kind = k; body = x } ∷ H) (name Blob b) ≡ true
unfolding has_name
held-blob-one b H Blob x f e =
    elim (same_bytes b x) as (λ t. same_bytes b x ≡ t → (t || list_any (same_bytes b) (blobs_in H)) ≡ true → (same_bytes (name Blob x) (name Blob b) || has_name H (name Blob b)) ≡ true) [
      | true ↦ λ g j. ap (λ t. t || has_name H (name Blob b)) (ap (λ (y : Bytes). same_bytes (name Blob x) (name Blob y)) ((bytes_decides b x).0 g) ∙ same_bytes-self (name Blob x))
      | false ↦ λ g j. or_right (same_bytes (name Blob x) (name Blob b)) (has_name H (name Blob b)) (f j)
    ] refl e
held-blob-one b H Tree x f e = or_right (same_bytes (name Tree x) (name Blob b)) (has_name H (name Blob b)) (f e)
held-blob-one b H CommitKind x f e = or_right (same_bytes (name CommitKind x) (name Blob b)) (has_name H (name Blob b)) (f e)

pub held-blob : (b : Bytes) (H : List Object) → list_any (same_bytes b) (blobs_in H) ≡ true → has_name H (name Blob b) ≡ true
held-blob b [] e = absurd (true≢false (sym e))
held-blob b (o ∷ H) e = held-blob-one b H o.kind o.body (held-blob b H) e

module _ (h : Held) (bs : List Bytes) (cs : List Snapshot) (es : Refs) (w : IsBrought h bs cs) where
  abbrev H : List Object
  H = h.objects

  abbrev B : List Object
  B = map blob_object bs

  abbrev C : List Object
  C = flat_map commit_objects cs

  unfoldable pub hand : Object → Type 0
  hand o = Contains (H ++ objects_of bs cs) o

  pub apart : (o d : Object) → hand o → hand d → object_name o ≡ object_name d → o ≡ d
  unfolding hand
  apart = w.apart

  pub hands : Each hand (H ++ (B ++ C))
  unfolding hand
  hands = each-all (Contains (H ++ (B ++ C))) (H ++ (B ++ C)) (All-contains_itself (H ++ (B ++ C)))

  abbrev pub in_H : Each hand H
  in_H = each-front hand H (B ++ C) hands

  abbrev pub in_all : Each hand (B ++ C)
  in_all = each-back hand H (B ++ C) hands

  abbrev G1 : List Object
  G1 = grown H B

  blobs : IsBringing hand apart H B (with_blobs (blobs_in H) bs) (snapshots_in H)
  blobs = blobs-brought hand apart bs H in_H (each-front hand B C in_all) w.bytes

  pool-known : (b : Bytes) → list_any (same_bytes b) (bs ++ blobs_in H) ≡ true → has_name G1 (name Blob b) ≡ true
  pool-known b e =
      any-cases (same_bytes b) bs (blobs_in H) (has_name G1 (name Blob b) ≡ true) e (among-blobs b bs G1 (grown-all H B)) (λ k. known-grown H B (name Blob b) (held-blob b H k))

  commits : IsBringing hand apart G1 C (blobs_in G1) (with_commits (snapshots_in G1) cs)
  commits =
      commits-brought hand apart (bs ++ blobs_in H) cs (snapshots_in H) G1 (store-added H B w.store blobs.added) (hand-all hand apart B H (each-front hand B C in_all) in_H) (each-back hand B C in_all) w.commits
      (λ n e. among-has hand apart n G1 (store-added H B w.store blobs.added) (ap (λ (k : List Snapshot). is_among k n) blobs.commits ∙ e))
      w.leaves pool-known

  abbrev G : List Object
  G = grown H (B ++ C)

  pub added : AreAdded H (B ++ C)
  added = added-both H B C blobs.added commits.added

  pub store : IsStore G
  store = store-added H (B ++ C) w.store added

  used : list_all (λ o. is_used (snapshots_in H) o.kind o.body) H ≡ true → list_all (λ o. is_used (snapshots_in G) o.kind o.body) G ≡ true
  used e =
      let there : Each (IsIn G) (B ++ C) = all-in hand apart (B ++ C) H in_all in_H in
      all-grown (snapshots_in G) H (B ++ C) (old-used H (B ++ C) H e)
      (each-both (λ x. is_used (snapshots_in G) x.kind x.body ≡ true) B C (blobs-used hand apart G store bs) (commits-used hand apart G store cs (snapshots_in H) w.commits (each-back (IsIn G) B C there)))

  abbrev g : Held
  g = record h { objects = G; refs = with_refs h.refs (moved h.refs es) }

  pub brought : IsImported h g bs cs es
  brought = record {
    store = store;
    blobs = ap blobs_in (grown-append H B C) ∙ commits.blobs ∙ blobs.blobs;
    commits = ap snapshots_in (grown-append H B C) ∙ commits.commits ∙ ap (λ (k : List Snapshot). with_commits k cs) blobs.commits;
    refs = λ r. refs-set r h.refs es;
    kept = refl;
    rule = refl;
    nothing_more = used;
  }

  pub imported : IsImported h (held_after h (change_plan h (objects_of bs cs) es)) bs cs es
  imported = subst (λ (k : Held). IsImported h k bs cs es) (sym (change-after h (objects_of bs cs) es)) brought

pub imported-law : ImportedLaw
imported-law h bs cs es w = imported h bs cs es w

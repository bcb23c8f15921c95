-- Blobs and commits that are brought, as a state sees them.
use Rattle.std.proofs.Common.{◌≡◌, ℕ, zero, suc, Bool, true, false, cond, ◌&&◌, ◌||◌, T, List, [], ◌∷◌, ◌++◌, map, reverse, Option, Some, None, refl, sym, ap, subst, ◌∙◌, true≢false, le_refl}
use Rattle.std.specs.Prelude.{if◌then◌else◌}
use Rattle.std.specs.Cmp.{first_so, second_so}
use Rattle.std.specs.Cmp.Lexicographic.{bytes_decides}
use Rattle.std.specs.List.{cons_option, flat_map, list_all, list_any}
use Rattle.std.specs.Option.{option_map, option_to_list}
use Rattle.std.proofs.lemmas.Bool.{or_right}
use Rattle.git_objects.specs.Paths.{Bytes, is_bytes, same_bytes}
use Rattle.git_objects.specs.Trees.{Leaf, FileLeaf, ExecLeaf, LinkLeaf, ModuleLeaf, Flat, IsTree, at, moved, rest_below, under}
use Rattle.git_objects.specs.Names.{body, depth, name, tops, tree_name}
use Rattle.git_objects.specs.Commits.{commit_body, commit_name}
use Rattle.git_objects.specs.declared.kind.Kind.{Kind}
use Rattle.git_objects.specs.declared.kind.Kind.TheVariants.{Blob, Tree, Commit as CommitKind}
use Rattle.git_objects.specs.Lists.{Each}
use Rattle.git_objects.proofs.Basics.{same_bytes-self}
use Rattle.git_objects.proofs.CommitReading.{commit_law, spelled_law}
use Rattle.git_objects.proofs.Pointwise.{from-T, leaf_at}
use Rattle.object_store.specs.Objects.{Object, IsStore, has, has_name, object_name}
use Rattle.object_store.specs.Unfolding.{flat}
use Rattle.object_store.proofs.Held.{has-above}
use Rattle.object_store.proofs.Unfolding.{unfolding_law}
use Rattle.state_items.specs.Changes.{fresh, blob_object, commit_objects}
use Rattle.state_items.specs.Growing.{grown, with_one}
use Rattle.state_items.proofs.Growing.{known-grown, grown-append, grown-fresh}
use Rattle.git_objects.specs.Snapshots.{Snapshot, snapshot_commit, snapshot_name}
use Rattle.object_store.specs.StoredSnapshots.{blob_in, blobs_in, snapshot_in, snapshot_object, snapshot_of, snapshots_in}
use Rattle.object_store.specs.TreeObjects.{leaf_objects, objects_at, objects_within, tree_objects}
use Rattle.object_store.proofs.StoredCommits.{IsHeldCommit, commit-body, commit-held}
use Rattle.state_items.specs.Imported.{AreWhole, IsWhole, has_leaves, is_among, with_blobs, with_commits}
use Rattle.state_items.proofs.TreesHeld.{IsIn, each-back, each-both, each-front, map-held}
use Rattle.state_items.proofs.TreesAdded.{AreAdded, added-both, all-in, hand-all, store-added, tree-added}

pub any-back : {A : Type 0} (p : A → Bool) (xs ys : List A) → list_any p ys ≡ true → list_any p (xs ++ ys) ≡ true
any-back p [] ys h = h
any-back p (x ∷ xs) ys h = or_right (p x) _ (any-back p xs ys h)

-- ---- objects that bring no commit, and no blob that isn't held

abbrev pub IsPart : List Object → Kind → Bytes → Type 0
IsPart H Blob b = has_name H (name Blob b) ≡ true
IsPart H Tree b = Unit
IsPart H CommitKind b = ⊥

abbrev pub AreParts : List Object → List Object → Type 0
AreParts H os = Each (λ o. IsPart H o.kind o.body) os

part-up : (H : List Object) (o : Object) (k : Kind) (b : Bytes) → IsPart H k b → IsPart (o ∷ H) k b
unfolding has_name
part-up H o Blob b h = or_right (same_bytes (object_name o) (name Blob b)) (has_name H (name Blob b)) h
part-up H o Tree b h = tt
part-up H o CommitKind b h = h

parts-up : (H : List Object) (o : Object) (os : List Object) → AreParts H os → AreParts (o ∷ H) os
parts-up H o [] h = tt
parts-up H o (x ∷ os) h = (part-up H o x.kind x.body h.0, parts-up H o os h.1)

-- what is seen of these stays
record IsSame (H G : List Object) : Type 0 where
  commits : snapshots_in G ≡ snapshots_in H
  blobs : blobs_in G ≡ blobs_in H

part-one : (H : List Object) (k : Kind) (b : Bytes) → IsPart H k b → has_name H (name k b) ≡ false → IsSame H (record { kind = k; body = b } ∷ H)
part-one H Blob b p h = absurd (true≢false (sym p ∙ h))
part-one H Tree b p h = record { commits = refl; blobs = refl }
part-one H CommitKind b p h = absurd p

parts-grown : (os H : List Object) → AreParts H os → IsSame H (grown H os)
parts-grown [] H p = record { commits = refl; blobs = refl }
parts-grown (o ∷ os) H p =
    elim (has_name H (object_name o)) as (λ t. has_name H (object_name o) ≡ t → IsSame H (grown (cond t H (o ∷ H)) os)) [
      | true ↦ λ e. parts-grown os H p.1
      | false ↦ λ e.
          let one = part-one H o.kind o.body p.0 e in
          let rest = parts-grown os (o ∷ H) (parts-up H o os p.1) in
          record { commits = rest.commits ∙ one.commits; blobs = rest.blobs ∙ one.blobs }
    ] refl

-- ---- the objects of a tree whose blobs are held

unfoldable pub leaf_known : List Bytes → Leaf → Bool
leaf_known pool x = list_all (λ o. list_any (same_bytes o.body) pool) (leaf_objects x)

pub T-from : (b : Bool) → b ≡ true → T b
T-from b h = subst T (sym h) tt

pub leaves-under : (f : Leaf → Bool) (t : Flat) (c : Bytes) → list_all (λ e. f e.1) t ≡ true → list_all (λ e. f e.1) (under t (c ∷ [])) ≡ true
leaves-under f [] c h = refl
leaves-under f (e ∷ t) c h =
    let rest = leaves-under f t c (second_so (f e.1) _ h) in
    elim (rest_below (c ∷ []) e.0) as (λ o. list_all (λ e. f e.1) (cons_option (moved o e.1) (under t (c ∷ []))) ≡ true) [
      | None ↦ rest
      | Some q ↦ (λ i. first_so (f e.1) _ h i && rest i)
    ]

module _ (H : List Object) (pool : List Bytes) (known : (b : Bytes) → list_any (same_bytes b) pool ≡ true → has_name H (name Blob b) ≡ true) where
  leaf-parts : (x : Leaf) → leaf_known pool x ≡ true → AreParts H (leaf_objects x)
  unfolding leaf_known
  leaf-parts (FileLeaf b) h = (known b (first_so _ _ h), tt)
  leaf-parts (ExecLeaf b) h = (known b (first_so _ _ h), tt)
  leaf-parts (LinkLeaf b) h = (known b (first_so _ _ h), tt)
  leaf-parts (ModuleLeaf n) h = tt

  at-parts : (o : Option Leaf) (os : List Object) → ((x : Leaf) → o ≡ Some x → leaf_known pool x ≡ true) → AreParts H os → AreParts H (objects_at o os)
  at-parts None os h p = p
  at-parts (Some x) os h p = leaf-parts x (h x refl)

  one-part : ℕ → Flat → Bytes → List Object
  one-part k t c = objects_at (at t (c ∷ [])) (objects_within k (under t (c ∷ [])))

  each-part : (k : ℕ) (t : Flat) → list_all (λ e. leaf_known pool e.1) t ≡ true → ((u : Flat) → list_all (λ e. leaf_known pool e.1) u ≡ true → AreParts H (objects_within k u)) → (ds : List Bytes) → AreParts H (flat_map (one-part k t) ds)
  unfolding one-part
  each-part k t h f [] = tt
  each-part k t h f (c ∷ ds) =
      each-both (λ o. IsPart H o.kind o.body) (one-part k t c) (flat_map (one-part k t) ds)
      (at-parts (at t (c ∷ [])) (objects_within k (under t (c ∷ []))) (λ x e. from-T _ (leaf_at (leaf_known pool) t (c ∷ []) x (T-from _ h) e))
      (f (under t (c ∷ [])) (leaves-under (leaf_known pool) t c h)))
      (each-part k t h f ds)

  within-parts : (k : ℕ) (t : Flat) → list_all (λ e. leaf_known pool e.1) t ≡ true → AreParts H (objects_within k t)
  unfolding one-part
  within-parts zero t h = tt
  within-parts (suc k) t h =
      each-both (λ o. IsPart H o.kind o.body) (flat_map (one-part k t) (tops t)) (record { kind = Tree; body = body t } ∷ []) (each-part k t h (λ u g. within-parts k u g) (tops t)) (tt, tt)

  tree-parts : (t : Flat) → has_leaves pool t ≡ true → AreParts H (tree_objects t)
  unfolding tree_objects leaf_known
  tree-parts t h = within-parts (suc (depth t)) t h

-- ---- blobs and commits that are there

-- two tests that follow from each other
same-test : (a b : Bool) → (a ≡ true → b ≡ true) → (b ≡ true → a ≡ true) → a ≡ b
same-test true b f g = sym (f refl)
same-test false true f g = g refl
same-test false false f g = refl

not-true : (b : Bool) → (b ≡ true → ⊥) → b ≡ false
not-true true f = absurd (f refl)
not-true false f = refl

module _ (hand : Object → Type 0) (apart : (o d : Object) → hand o → hand d → object_name o ≡ object_name d → o ≡ d) where
  same-object : (o d : Object) → hand o → hand d → same_bytes (object_name o) (object_name d) ≡ true → o ≡ d
  same-object o d h g e = apart o d h g ((bytes_decides (object_name o) (object_name d)).0 e)

  other-kind : (o d : Object) → hand o → hand d → (o.kind ≡ d.kind → ⊥) → same_bytes (object_name o) (object_name d) ≡ false
  other-kind o d h g differ = not-true _ (λ e. differ (ap (λ (x : Object). x.kind) (same-object o d h g e)))

  blob-one : (b : Bytes) (H : List Object) (k : Kind) (x : Bytes) → hand (blob_object b) → hand (record { kind = k; body = x }) →
      (same_bytes (name k x) (name Blob b) || list_any (same_bytes b) (blobs_in H)) ≡ list_any (same_bytes b) (blob_in k x ++ blobs_in H)
  blob-one b H Blob x p q =
      ap (λ t. t || list_any (same_bytes b) (blobs_in H))
      (same-test (same_bytes (name Blob x) (name Blob b)) (same_bytes b x)
      (λ e. (bytes_decides b x).1 (ap (λ (o : Object). o.body) (sym (same-object (blob_object x) (blob_object b) q p e))))
      (λ e. ap (λ y. same_bytes (name Blob x) (name Blob y)) ((bytes_decides b x).0 e) ∙ same_bytes-self (name Blob x)))
  blob-one b H Tree x p q = ap (λ t. t || list_any (same_bytes b) (blobs_in H)) (other-kind (record { kind = Tree; body = x }) (blob_object b) q p (λ e. cc))
  blob-one b H CommitKind x p q = ap (λ t. t || list_any (same_bytes b) (blobs_in H)) (other-kind (record { kind = CommitKind; body = x }) (blob_object b) q p (λ e. cc))

  blob-there : (b : Bytes) (H : List Object) → hand (blob_object b) → Each hand H → has_name H (name Blob b) ≡ list_any (same_bytes b) (blobs_in H)
  unfolding has_name
  blob-there b [] p h = refl
  blob-there b (o ∷ H) p h = ap (λ t. same_bytes (object_name o) (name Blob b) || t) (blob-there b H p h.1) ∙ blob-one b H o.kind o.body p h.0

  -- ---- commits

  pub own-name : (H : List Object) (b : Bytes) → IsStore H → (w : IsHeldCommit H b) → snapshot_name (snapshot_of H w.commit) ≡ name CommitKind b
  unfolding commit_name
  own-name H b s w =
      let d = w.commit in
      ap (λ (t : Bytes). name CommitKind (commit_body (record { tree = t; parents = d.parents; letter = d.letter }))) (unfolding_law H d.tree s w.tree).named
      ∙ ap (name CommitKind) ((commit_law b d w.bytes).0 w.read).spelled

  pub commit-in : (H : List Object) (b : Bytes) (w : IsHeldCommit H b) → snapshot_in H CommitKind b ≡ snapshot_of H w.commit ∷ []
  commit-in H b w = ap (λ o. option_to_list (option_map (snapshot_of H) o)) w.read

  abbrev is_it : Bytes → Snapshot → Bool
  is_it n k = same_bytes (snapshot_name k) n

  pub commit-one : (n : Bytes) (H : List Object) (b : Bytes) → IsStore H → IsHeldCommit H b → list_any (is_it n) (snapshot_in H CommitKind b ++ snapshots_in H) ≡ (same_bytes (name CommitKind b) n || is_among (snapshots_in H) n)
  commit-one n H b s w =
      ap (λ (cs : List Snapshot). list_any (is_it n) (cs ++ snapshots_in H)) (commit-in H b w)
      ∙ ap (λ m. same_bytes m n || is_among (snapshots_in H) n) (own-name H b s w)

  -- a commit among the state's is held
  has-one : (n : Bytes) (H : List Object) (k : Kind) (b : Bytes) → IsStore (record { kind = k; body = b } ∷ H) → (is_among (snapshots_in H) n ≡ true → has CommitKind H n ≡ true) →
      is_among (snapshots_in (record { kind = k; body = b } ∷ H)) n ≡ true → has CommitKind (record { kind = k; body = b } ∷ H) n ≡ true
  unfolding has
  has-one n H Blob b s f e = f e
  has-one n H Tree b s f e = f e
  has-one n H CommitKind b s f e =
      elim (same_bytes (name CommitKind b) n) as (λ t. (t || is_among (snapshots_in H) n) ≡ true → (t || has CommitKind H n) ≡ true) [
        | true ↦ λ g. refl
        | false ↦ f
      ] (sym (commit-one n H b s.2 (commit-held H b s.0)) ∙ e)

  pub among-has : (n : Bytes) (H : List Object) → IsStore H → is_among (snapshots_in H) n ≡ true → has CommitKind H n ≡ true
  among-has n [] s e = absurd (true≢false (sym e))
  among-has n (o ∷ H) s e = has-one n H o.kind o.body s (among-has n H s.2) e

  there-one : (c : Snapshot) (H : List Object) (k : Kind) (b : Bytes) → hand (snapshot_object c) → hand (record { kind = k; body = b }) → IsStore (record { kind = k; body = b } ∷ H) →
      (same_bytes (name k b) (object_name (snapshot_object c)) || is_among (snapshots_in H) (object_name (snapshot_object c))) ≡ list_any (is_it (object_name (snapshot_object c))) (snapshot_in H k b ++ snapshots_in H)
  there-one c H Blob b p q s = ap (λ t. t || is_among (snapshots_in H) (object_name (snapshot_object c))) (other-kind (record { kind = Blob; body = b }) (snapshot_object c) q p (λ e. cc))
  there-one c H Tree b p q s = ap (λ t. t || is_among (snapshots_in H) (object_name (snapshot_object c))) (other-kind (record { kind = Tree; body = b }) (snapshot_object c) q p (λ e. cc))
  there-one c H CommitKind b p q s = sym (commit-one (object_name (snapshot_object c)) H b s.2 (commit-held H b s.0))

  commit-there : (c : Snapshot) (H : List Object) → hand (snapshot_object c) → Each hand H → IsStore H → has_name H (object_name (snapshot_object c)) ≡ is_among (snapshots_in H) (object_name (snapshot_object c))
  unfolding has_name
  commit-there c [] p h s = refl
  commit-there c (o ∷ H) p h s =
      ap (λ t. same_bytes (object_name o) (object_name (snapshot_object c)) || t) (commit-there c H p h.1 s.2) ∙ there-one c H o.kind o.body p h.0 s

  -- ---- brought

  -- objects that are brought, and what is seen then
  pub record IsBringing (H os : List Object) (bs : List Bytes) (cs : List Snapshot) : Type 0 where
    pub added : AreAdded H os
    pub blobs : blobs_in (grown H os) ≡ bs
    pub commits : snapshots_in (grown H os) ≡ cs

  blob-seen : (H : List Object) (b : Bytes) → hand (blob_object b) → Each hand H → blobs_in (with_one H (blob_object b)) ≡ (if list_any (same_bytes b) (blobs_in H) then blobs_in H else b ∷ blobs_in H)
  blob-seen H b p h =
      elim (has_name H (name Blob b)) as (λ t. blobs_in (cond t H (blob_object b ∷ H)) ≡ (if t then blobs_in H else b ∷ blobs_in H)) [ true ↦ refl | false ↦ refl ]
      ∙ ap (λ t. if t then blobs_in H else b ∷ blobs_in H) (blob-there b H p h)

  blob-unseen : (H : List Object) (b : Bytes) → snapshots_in (with_one H (blob_object b)) ≡ snapshots_in H
  blob-unseen H b = elim (has_name H (name Blob b)) as (λ t. snapshots_in (cond t H (blob_object b ∷ H)) ≡ snapshots_in H) [ true ↦ refl | false ↦ refl ]

  pub blobs-brought : (bs : List Bytes) (H : List Object) → Each hand H → Each hand (map blob_object bs) → list_all is_bytes bs ≡ true → IsBringing H (map blob_object bs) (with_blobs (blobs_in H) bs) (snapshots_in H)
  blobs-brought [] H h p v = record { added = tt; blobs = refl; commits = refl }
  blobs-brought (b ∷ bs) H h p v =
      let G = with_one H (blob_object b) in
      let rest = blobs-brought bs G (hand-all hand apart (blob_object b ∷ []) H (p.0, tt) h) p.1 (second_so (is_bytes b) _ v) in
      record {
        added = (first_so (is_bytes b) _ v, rest.added);
        blobs = rest.blobs ∙ ap (λ (k : List Bytes). with_blobs k bs) (blob-seen H b p.0 h);
        commits = rest.commits ∙ blob-unseen H b;
      }

  tree-all-added : (t : Flat) (w : IsTree t) (H : List Object) → Each hand (tree_objects t) → Each hand H → AreAdded H (tree_objects t)
  unfolding tree_objects
  tree-all-added t w H p h = tree-added hand apart (depth t) t w (le_refl _) p H h

  pub tree-all-held : (G : List Object) → IsStore G → (t : Flat) → IsTree t → Each (IsIn G) (tree_objects t) → (has Tree G (tree_name t) ≡ true) × (flat G (tree_name t) ≡ t)
  unfolding tree_objects
  tree-all-held G s t w i = map-held G s (depth t) t w (le_refl _) i

  pub has-grown : (k : Kind) (H os : List Object) (n : Bytes) → has k H n ≡ true → has k (grown H os) n ≡ true
  has-grown k H os n h = ap (λ (G : List Object). has k G n) (grown-fresh H os) ∙ has-above (reverse (fresh H os)) H k n h

  each-grown : (H os : List Object) (ps : List Bytes) → Each (λ p. has CommitKind H p ≡ true) ps → Each (λ p. has CommitKind (grown H os) p ≡ true) ps
  each-grown H os [] h = tt
  each-grown H os (p ∷ ps) h = (has-grown CommitKind H os p h.0, each-grown H os ps h.1)

  -- a commit that is one of the state's
  commit-shown : (T : List Object) (c : Snapshot) → IsWhole c → flat T (tree_name c.tree) ≡ c.tree → snapshot_in T CommitKind (commit_body (snapshot_commit c)) ≡ c ∷ []
  commit-shown T c w e =
      ap (λ o. option_to_list (option_map (snapshot_of T) o)) (spelled_law (commit_body (snapshot_commit c)) (snapshot_commit c) w.body)
      ∙ ap (λ (t : Flat). record { tree = t; parents = c.parents; letter = c.letter } ∷ []) e

  pub own-object : (c : Snapshot) → snapshot_name c ≡ object_name (snapshot_object c)
  unfolding commit_name
  own-object c = refl

  commit-seen : (T : List Object) (c : Snapshot) → IsWhole c → flat T (tree_name c.tree) ≡ c.tree → hand (snapshot_object c) → Each hand T → IsStore T →
      snapshots_in (with_one T (snapshot_object c)) ≡ (if is_among (snapshots_in T) (snapshot_name c) then snapshots_in T else c ∷ snapshots_in T)
  commit-seen T c w e p h s =
      let o = snapshot_object c in
      elim (has_name T (object_name o)) as (λ t. snapshots_in (cond t T (o ∷ T)) ≡ (if t then snapshots_in T else c ∷ snapshots_in T)) [
        | true ↦ refl
        | false ↦ ap (λ (cs : List Snapshot). cs ++ snapshots_in T) (commit-shown T c w e)
      ]
      ∙ ap (λ t. if t then snapshots_in T else c ∷ snapshots_in T) (commit-there c T p h s ∙ ap (is_among (snapshots_in T)) (sym (own-object c)))

  commit-unseen : (T : List Object) (c : Snapshot) → blobs_in (with_one T (snapshot_object c)) ≡ blobs_in T
  commit-unseen T c = elim (has_name T (object_name (snapshot_object c))) as (λ t. blobs_in (cond t T (snapshot_object c ∷ T)) ≡ blobs_in T) [ true ↦ refl | false ↦ refl ]

  commit-brought : (c : Snapshot) (H : List Object) → IsStore H → Each hand H → Each hand (commit_objects c) → IsWhole c → Each (λ p. has CommitKind H p ≡ true) c.parents → AreParts H (tree_objects c.tree) →
      IsBringing H (commit_objects c) (blobs_in H) (if is_among (snapshots_in H) (snapshot_name c) then snapshots_in H else c ∷ snapshots_in H)
  commit-brought c H s h p w ps parts =
      let os = tree_objects c.tree in
      let o = snapshot_object c in
      let front = each-front hand os (o ∷ []) p in
      let last = (each-back hand os (o ∷ []) p).0 in
      let T = grown H os in
      let added : AreAdded H os = tree-all-added c.tree w.tree H front h in
      let store : IsStore T = store-added H os s added in
      let hands : Each hand T = hand-all hand apart os H front h in
      let held = tree-all-held T store c.tree w.tree (all-in hand apart os H front h) in
      let same : IsSame H T = parts-grown os H parts in
      let whole : grown H (commit_objects c) ≡ with_one T o = grown-append H os (o ∷ []) in
      let body = commit-body T (commit_body (snapshot_commit c))
      (record { commit = snapshot_commit c; read = spelled_law (commit_body (snapshot_commit c)) (snapshot_commit c) w.body; bytes = w.bytes; tree = held.0; parents = each-grown H os c.parents ps }) in
      record {
        added = added-both H os (o ∷ []) added (body, tt);
        blobs = ap blobs_in whole ∙ commit-unseen T c ∙ same.blobs;
        commits = ap snapshots_in whole ∙ commit-seen T c w held.1 last hands store ∙ ap (λ (k : List Snapshot). if is_among k (snapshot_name c) then k else c ∷ k) same.commits;
      }

  each-parent : (known : List Snapshot) (H : List Object) → ((n : Bytes) → is_among known n ≡ true → has CommitKind H n ≡ true) → (ps : List Bytes) → list_all (is_among known) ps ≡ true → Each (λ p. has CommitKind H p ≡ true) ps
  each-parent known H f [] e = tt
  each-parent known H f (p ∷ ps) e = (f p (first_so _ _ e), each-parent known H f ps (second_so (is_among known p) _ e))

  module _ (pool : List Bytes) where
    pub commits-brought : (cs known : List Snapshot) (H : List Object) → IsStore H → Each hand H → Each hand (flat_map commit_objects cs) → AreWhole known cs → ((n : Bytes) → is_among known n ≡ true → has CommitKind H n ≡ true) →
        list_all (λ (c : Snapshot). has_leaves pool c.tree) cs ≡ true → ((b : Bytes) → list_any (same_bytes b) pool ≡ true → has_name H (name Blob b) ≡ true) →
        IsBringing H (flat_map commit_objects cs) (blobs_in H) (with_commits (snapshots_in H) cs)
    commits-brought [] known H s h p w f l g = record { added = tt; blobs = refl; commits = refl }
    commits-brought (c ∷ cs) known H s h p w f l g =
        let os = commit_objects c in
        let more = flat_map commit_objects cs in
        let front = each-front hand os more p in
        let one = commit-brought c H s h front w.0 (each-parent known H f c.parents w.1) (tree-parts H pool g c.tree (first_so _ _ l)) in
        let G = grown H os in
        let new : IsIn G (snapshot_object c) = (each-back (IsIn G) (tree_objects c.tree) (snapshot_object c ∷ []) (all-in hand apart os H front h)).0 in
        let among : (n : Bytes) → is_among (c ∷ known) n ≡ true → has CommitKind G n ≡ true =
        λ n. elim (same_bytes (snapshot_name c) n) as (λ t. same_bytes (snapshot_name c) n ≡ t → (t || is_among known n) ≡ true → has CommitKind G n ≡ true) [
          | true ↦ λ e k. ap (has CommitKind G) (sym ((bytes_decides (snapshot_name c) n).0 e) ∙ own-object c) ∙ new.held
          | false ↦ λ e k. has-grown CommitKind H os n (f n k)
        ] refl in
        let rest = commits-brought cs (c ∷ known) G (store-added H os s one.added) (hand-all hand apart os H front h) (each-back hand os more p) w.2 among (second_so (has_leaves pool c.tree) _ l)
        (λ b e. known-grown H os (name Blob b) (g b e)) in
        record {
          added = added-both H os more one.added rest.added;
          blobs = ap blobs_in (grown-append H os more) ∙ rest.blobs ∙ one.blobs;
          commits = ap snapshots_in (grown-append H os more) ∙ rest.commits ∙ ap (λ (k : List Snapshot). with_commits k cs) one.commits;
        }

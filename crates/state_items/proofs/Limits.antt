-- What is new in a change is within the limits of objects, and may be added.
use Rattle.std.proofs.Common.{◌≡◌, ℕ, zero, suc, ◌≤◌, ◌^◌, Bool, true, false, cond, ◌&&◌, ◌||◌, max, List, [], ◌∷◌, ◌++◌, length, map, reverse, Option, Some, None, refl, sym, ap, subst, ◌∙◌, true≢false, arith, le_refl, length-append}
use borrow.Author.Tests.{leb-true}
use Rattle.std.specs.Prelude.{if◌then◌else◌, nat_le}
use Rattle.std.specs.Cmp.{first_so, second_so}
use Rattle.std.specs.Cmp.Lexicographic.{bytes_decides}
use Rattle.std.specs.List.{cons_option, flat_map, list_all, list_any}
use Rattle.std.specs.Option.{option_map_or}
use Rattle.std.proofs.lemmas.Bool.{le-leb, or_right}
use Rattle.git_objects.specs.Paths.{Bytes, Path, is_nil, same_bytes, text}
use Rattle.git_objects.specs.Trees.{Leaf, FileLeaf, ExecLeaf, LinkLeaf, ModuleLeaf, Flat, IsTree, at, moved as moved_rest, rest_below, under}
use Rattle.git_objects.specs.Names.{depth, name, tops}
use Rattle.git_objects.specs.Commits.{commit_body}
use Rattle.git_objects.specs.CommitBodies.{commit_from}
use Rattle.git_objects.specs.declared.kind.Kind.{Kind}
use Rattle.git_objects.specs.declared.kind.Kind.TheVariants.{Blob, Tree, Commit as CommitKind}
use Rattle.git_objects.specs.Lists.{Each}
use Rattle.git_objects.proofs.Basics.{and_both, same_bytes-self}
use Rattle.git_objects.proofs.Bodies.{depth-under}
use Rattle.git_objects.proofs.CommitReading.{spelled_law}
use Rattle.git_objects.proofs.Pointwise.{from-T, leaf_at}
use Rattle.git_objects.proofs.Under.{under-tree}
use Rattle.path_names.specs.RefNames.{is_ref_name}
use Rattle.object_store.specs.Objects.{Object, IsStore, has, has_name, object_name}
use Rattle.object_store.specs.Sizes.{longest}
use Rattle.object_store.specs.Unfolding.{flat}
use Rattle.object_store.proofs.Unfolding.{growing_law}
use Rattle.state_items.specs.Changes.{fresh, moved, ChangePlan, NoPlan, blob_object, commit_objects, objects_of}
use Rattle.state_items.specs.Growing.{grown}
use Rattle.state_items.proofs.Growing.{grown-fresh}
use Rattle.git_objects.specs.Refs.{Refs}
use Rattle.object_store.specs.Fits.{body_fits, tree_fits, tree_map}
use Rattle.git_objects.specs.Snapshots.{Snapshot, snapshot_commit}
use Rattle.object_store.specs.StoredSnapshots.{blobs_in, snapshot_object, snapshots_in}
use Rattle.object_store.specs.TreeObjects.{leaf_objects, objects_at, objects_within, tree_objects}
use Rattle.state_items.proofs.RefsMoved.{keys-moved, moved-set, values-moved}
use Rattle.state_items.proofs.ReadFields.{AreSet}
use Rattle.state_items.specs.Items.{Held}
use Rattle.state_items.specs.Appending.{AreNew, IsAddition, are_refs}
use Rattle.state_items.specs.Imported.{AreWhole, ChangeLaw, IsWhole, has_leaves, is_among, with_commits}
use Rattle.state_items.proofs.Bringing.{T-from, among-has, leaves-under}
use Rattle.state_items.proofs.Imports as imports
use Rattle.state_items.proofs.Imports.{any-cases, held-blob}
use Rattle.state_items.proofs.TreesHeld.{IsIn, among, each-back, each-both, each-front, each-pick, each-top, map-held, no-tops, parts, tree_object}
use Rattle.state_items.proofs.TreesAdded.{AreAdded, all-in}

-- ---- what lies below a component is no larger

text-longer : (c : Bytes) (p : Path) → length (text p) ≤ length (text (c ∷ p))
text-longer c [] = omega arith
text-longer c (d ∷ p) = omega (arith, length-append c (47 ∷ text (d ∷ p)))

length-under : (t : Flat) (c : Bytes) → length (under t (c ∷ [])) ≤ length t
length-under [] c = omega arith
length-under (e ∷ t) c =
    let rest = length-under t c in
    elim (rest_below (c ∷ []) e.0) as (λ o. length (cons_option (moved_rest o e.1) (under t (c ∷ []))) ≤ suc (length t)) [
      | None ↦ omega (arith, rest)
      | Some q ↦ omega (arith, rest)
    ]

max-right : (a b c : ℕ) → c ≤ b → c ≤ max a b
max-right a b c h = omega arith

max-both : (a b c d : ℕ) → a ≤ c → b ≤ d → max a b ≤ max c d
max-both a b c d h g = omega arith

longest-under : (t : Flat) (c : Bytes) → longest (under t (c ∷ [])) ≤ longest t
longest-under [] c = omega arith
longest-under (([], x) ∷ t) c = max-right 0 (longest t) (longest (under t (c ∷ []))) (longest-under t c)
longest-under ((d ∷ [], x) ∷ t) c =
    let rest = max-right (length (text (d ∷ []))) (longest t) (longest (under t (c ∷ []))) (longest-under t c) in
    elim (same_bytes c d) as (λ b. longest (cons_option (moved_rest (cond b None None) x) (under t (c ∷ []))) ≤ max (length (text (d ∷ []))) (longest t)) [ true ↦ rest | false ↦ rest ]
longest-under ((d ∷ f ∷ q, x) ∷ t) c =
    let rest = longest-under t c in
    elim (same_bytes c d) as (λ b. longest (cons_option (moved_rest (cond b (Some (f ∷ q)) None) x) (under t (c ∷ []))) ≤ max (length (text (d ∷ f ∷ q))) (longest t)) [
      | true ↦ max-both (length (text (f ∷ q))) (longest (under t (c ∷ []))) (length (text (d ∷ f ∷ q))) (longest t) (text-longer d (f ∷ q)) rest
      | false ↦ max-right (length (text (d ∷ f ∷ q))) (longest t) (longest (under t (c ∷ []))) rest
    ]

fits-under : (t : Flat) (c : Bytes) → tree_fits t ≡ true → tree_fits (under t (c ∷ [])) ≡ true
fits-under t c h =
    let u = under t (c ∷ []) in
    let x = leb-true (length t) (2 ^ 20) (first_so _ _ (first_so _ _ h)) in
    let y = leb-true (depth t) 1024 (second_so (nat_le (length t) (2 ^ 20)) _ (first_so _ _ h)) in
    let z = leb-true (longest t) 16384 (second_so (nat_le (length t) (2 ^ 20) && nat_le (depth t) 1024) _ h) in
    let l = length-under t c in
    let d = depth-under (depth t) t c (omega arith) in
    let g = longest-under t c in
    (λ i. le-leb (length u) (2 ^ 20) (omega (arith, l, x)) i && le-leb (depth u) 1024 (omega (arith, d, y)) i && le-leb (longest u) 16384 (omega (arith, g, z)) i)

-- ---- objects within their limits

-- a blob was held before, or is short
abbrev blob_fits : List Object → Bytes → Bool
blob_fits H0 b = has_name H0 (name Blob b) || nat_le (length b) (2 ^ 24)

-- by what is held before and at last
abbrev IsFit : List Object → List Object → Kind → Bytes → Type 0
IsFit H0 G Blob b = blob_fits H0 b ≡ true
IsFit H0 G Tree b = tree_fits (flat G (name Tree b)) ≡ true
IsFit H0 G CommitKind b = option_map_or (λ c. nat_le (length c.letter.message) (2 ^ 20)) (commit_from b) false ≡ true

abbrev AreFit : List Object → List Object → List Object → Type 0
AreFit H0 G os = Each (λ o. IsFit H0 G o.kind o.body) os

-- the tree that arrived last
last-map : (H : List Object) (b : Bytes) → flat (record { kind = Tree; body = b } ∷ H) (name Tree b) ≡ tree_map H b
unfolding flat
last-map H b = ap (λ t. cond t (tree_map H b) (flat H (name Tree b))) (same_bytes-self (name Tree b))

last-has : (H : List Object) (b : Bytes) → has Tree (record { kind = Tree; body = b } ∷ H) (name Tree b) ≡ true
unfolding has
last-has H b = ap (λ t. t || has Tree H (name Tree b)) (same_bytes-self (name Tree b))

module _ (H0 G : List Object) (s : IsStore G) where
  fits-now : (H : List Object) (k : Kind) (b : Bytes) (os : List Object) → G ≡ grown (record { kind = k; body = b } ∷ H) os → ((n : Bytes) → has_name H0 n ≡ true → has_name H n ≡ true) → has_name H (name k b) ≡ false →
      IsFit H0 G k b → body_fits H k b ≡ true
  fits-now H Blob b os e up new fits =
      elim (has_name H0 (name Blob b)) as (λ t. has_name H0 (name Blob b) ≡ t → (t || nat_le (length b) (2 ^ 24)) ≡ true → nat_le (length b) (2 ^ 24) ≡ true) [
        | true ↦ λ g k. absurd (true≢false (sym (up (name Blob b) g) ∙ new))
        | false ↦ λ g k. k
      ] refl fits
  fits-now H Tree b os e up new fits =
      let o : Object = record { kind = Tree; body = b } in
      let newer = reverse (fresh (o ∷ H) os) in
      let all : G ≡ newer ++ (o ∷ H) = e ∙ grown-fresh (o ∷ H) os in
      ap tree_fits (sym (last-map H b) ∙ sym (growing_law newer (o ∷ H) (name Tree b) (subst IsStore all s) (last-has H b)) ∙ ap (λ (T : List Object). flat T (name Tree b)) (sym all)) ∙ fits
  fits-now H CommitKind b os e up new fits = fits

  up-one : (H : List Object) (o : Object) → ((n : Bytes) → has_name H0 n ≡ true → has_name H n ≡ true) → (n : Bytes) → has_name H0 n ≡ true → has_name (o ∷ H) n ≡ true
  unfolding has_name
  up-one H o up n e = or_right (same_bytes (object_name o) n) (has_name H n) (up n e)

  new-from : (os H : List Object) → G ≡ grown H os → ((n : Bytes) → has_name H0 n ≡ true → has_name H n ≡ true) → AreAdded H os → AreFit H0 G os → AreNew H (fresh H os)
  unfolding fresh
  new-from [] H e up a f = tt
  new-from (o ∷ os) H e up a f =
      elim (has_name H (object_name o)) as (λ t. has_name H (object_name o) ≡ t → G ≡ grown (cond t H (o ∷ H)) os → AreAdded (cond t H (o ∷ H)) os → AreNew H (cond t (fresh H os) (o ∷ fresh (o ∷ H) os))) [
        | true ↦ λ k g r. new-from os H g up r f.1
        | false ↦ λ k g r. (a.0, fits-now H o.kind o.body os g up k f.0, k, new-from os (o ∷ H) g (up-one H o up) r f.1)
      ] refl e a.1

  -- ---- the objects of a tree

  leaf_fits : Leaf → Bool
  leaf_fits x = list_all (λ o. blob_fits H0 o.body) (leaf_objects x)

  leaf-fit : (x : Leaf) → leaf_fits x ≡ true → AreFit H0 G (leaf_objects x)
  unfolding leaf_fits
  leaf-fit (FileLeaf b) h = (first_so _ _ h, tt)
  leaf-fit (ExecLeaf b) h = (first_so _ _ h, tt)
  leaf-fit (LinkLeaf b) h = (first_so _ _ h, tt)
  leaf-fit (ModuleLeaf n) h = tt

  at-fit : (o : Option Leaf) (os : List Object) → Each (IsIn G) (objects_at o os) → ((x : Leaf) → o ≡ Some x → leaf_fits x ≡ true) → (Each (IsIn G) os → AreFit H0 G os) → AreFit H0 G (objects_at o os)
  at-fit None os i h f = f i
  at-fit (Some x) os i h f = leaf-fit x (h x refl)

  parts-fit : (f : Bytes → List Object) (all ds : List Bytes) → ((c : Bytes) → among c all ≡ true → AreFit H0 G (f c)) → Each (λ c. among c all ≡ true) ds → AreFit H0 G (flat_map f ds)
  parts-fit f all [] one e = tt
  parts-fit f all (c ∷ ds) one e = each-both (λ o. IsFit H0 G o.kind o.body) (f c) (flat_map f ds) (one c e.0) (parts-fit f all ds one e.1)

  fit-from : (k : ℕ) (t : Flat) → IsTree t → depth t ≤ k → Each (IsIn G) (objects_within (suc k) t) → tree_fits t ≡ true → ((c : Bytes) → among c (tops t) ≡ true → AreFit H0 G (parts k t c)) → AreFit H0 G (objects_within (suc k) t)
  fit-from k t h d i g one =
      each-both (λ o. IsFit H0 G o.kind o.body) (flat_map (parts k t) (tops t)) (tree_object t ∷ []) (parts-fit (parts k t) (tops t) (tops t) one (each-top (tops t)))
      (ap tree_fits (map-held G s k t h d i).1 ∙ g, tt)

  tree-fit : (k : ℕ) (t : Flat) → IsTree t → depth t ≤ k → Each (IsIn G) (objects_within (suc k) t) → tree_fits t ≡ true → list_all (λ e. leaf_fits e.1) t ≡ true → AreFit H0 G (objects_within (suc k) t)
  tree-fit zero t h d i g l = fit-from zero t h d i g (λ c e. absurd (true≢false (sym e ∙ ap (among c) (no-tops t d))))
  tree-fit (suc k) t h d i g l =
      fit-from (suc k) t h d i g (λ c e.
      let u = under t (c ∷ []) in
      at-fit (at t (c ∷ [])) (objects_within (suc k) u)
      (each-pick (IsIn G) (parts (suc k) t) (tops t) c (each-front (IsIn G) (flat_map (parts (suc k) t) (tops t)) (tree_object t ∷ []) i) e)
      (λ x q. from-T _ (leaf_at leaf_fits t (c ∷ []) x (T-from _ l) q))
      (λ w. tree-fit k u (under-tree t (c ∷ []) h) (depth-under k t c d) w (fits-under t c g) (leaves-under leaf_fits t c l)))

  tree-all-fit : (t : Flat) → IsTree t → Each (IsIn G) (tree_objects t) → tree_fits t ≡ true → list_all (λ e. leaf_fits e.1) t ≡ true → AreFit H0 G (tree_objects t)
  unfolding tree_objects
  tree-all-fit t h i g l = tree-fit (depth t) t h (le_refl _) i g l

  -- ---- blobs and commits

  module _ (pool : List Bytes) (short : (b : Bytes) → list_any (same_bytes b) pool ≡ true → blob_fits H0 b ≡ true) where
    leaf-short : (x : Leaf) → list_all (λ o. list_any (same_bytes o.body) pool) (leaf_objects x) ≡ true → leaf_fits x ≡ true
    unfolding leaf_fits
    leaf-short (FileLeaf b) h = and_both (short b (first_so _ _ h)) refl
    leaf-short (ExecLeaf b) h = and_both (short b (first_so _ _ h)) refl
    leaf-short (LinkLeaf b) h = and_both (short b (first_so _ _ h)) refl
    leaf-short (ModuleLeaf n) h = refl

    leaves-short : (t : Flat) → has_leaves pool t ≡ true → list_all (λ e. leaf_fits e.1) t ≡ true
    leaves-short [] h = refl
    leaves-short (e ∷ t) h = and_both (leaf-short e.1 (first_so _ _ h)) (leaves-short t (second_so (list_all (λ o. list_any (same_bytes o.body) pool) (leaf_objects e.1)) _ h))

    commit-fit : (c : Snapshot) → IsWhole c → has_leaves pool c.tree ≡ true → (tree_fits c.tree && nat_le (length c.letter.message) (2 ^ 20)) ≡ true → Each (IsIn G) (commit_objects c) → AreFit H0 G (commit_objects c)
    commit-fit c w l g i =
        let os = tree_objects c.tree in
        let o = snapshot_object c in
        each-both (λ x. IsFit H0 G x.kind x.body) os (o ∷ []) (tree-all-fit c.tree w.tree (each-front (IsIn G) os (o ∷ []) i) (first_so _ _ g) (leaves-short c.tree l))
        (ap (λ d. option_map_or (λ c. nat_le (length c.letter.message) (2 ^ 20)) d false) (spelled_law (commit_body (snapshot_commit c)) (snapshot_commit c) w.body) ∙ second_so (tree_fits c.tree) _ g, tt)

    commits-fit : (cs known : List Snapshot) → AreWhole known cs → list_all (λ (c : Snapshot). has_leaves pool c.tree) cs ≡ true → list_all (λ (c : Snapshot). tree_fits c.tree && nat_le (length c.letter.message) (2 ^ 20)) cs ≡ true →
        Each (IsIn G) (flat_map commit_objects cs) → AreFit H0 G (flat_map commit_objects cs)
    commits-fit [] known w l g i = tt
    commits-fit (c ∷ cs) known w l g i =
        each-both (λ x. IsFit H0 G x.kind x.body) (commit_objects c) (flat_map commit_objects cs)
        (commit-fit c w.0 (first_so _ _ l) (first_so _ _ g) (each-front (IsIn G) (commit_objects c) (flat_map commit_objects cs) i))
        (commits-fit cs (c ∷ known) w.2 (second_so (has_leaves pool c.tree) _ l) (second_so (tree_fits c.tree && nat_le (length c.letter.message) (2 ^ 20)) _ g)
        (each-back (IsIn G) (commit_objects c) (flat_map commit_objects cs) i))

  blobs-fit : (bs : List Bytes) → list_all (λ b. nat_le (length b) (2 ^ 24)) bs ≡ true → AreFit H0 G (map blob_object bs)
  blobs-fit [] h = tt
  blobs-fit (b ∷ bs) h = (or_right (has_name H0 (name Blob b)) _ (first_so _ _ h), blobs-fit bs (second_so (nat_le (length b) (2 ^ 24)) _ h))

-- ---- refs

refs-are : (G : List Object) (before : Option Bytes) (rs : Refs) → AreSet G before rs → are_refs G before rs ≡ true
refs-are G before [] h = refl
refs-are G before (r ∷ rs) h = and_both (and_both (and_both h.0.valid h.0.rising) h.0.head) (refs-are G (Some r.0) rs h.1)

heads-held : (G : List Object) (cs : List Snapshot) (es : Refs) → ((n : Bytes) → is_among cs n ≡ true → has CommitKind G n ≡ true) → list_all (λ (e : Bytes × Bytes). is_among cs e.1) es ≡ true → list_all (λ (e : Bytes × Bytes). has CommitKind G e.1) es ≡ true
heads-held G cs [] f h = refl
heads-held G cs (e ∷ es) f h = and_both (f e.1 (first_so _ _ h)) (heads-held G cs es f (second_so (is_among cs e.1) _ h))

-- ---- the plan

plan-added : (h : Held) (f : List Object) (m : Refs) → AreNew h.objects f → are_refs (reverse f ++ h.objects) None m ≡ true → IsAddition h (if is_nil f && is_nil m then NoPlan else ChangePlan f m)
plan-added h [] [] a r = tt
plan-added h [] (e ∷ m) a r = (a, r)
plan-added h (o ∷ f) m a r = (a, r)

among-short : (b : Bytes) (bs : List Bytes) → list_all (λ b. nat_le (length b) (2 ^ 24)) bs ≡ true → list_any (same_bytes b) bs ≡ true → nat_le (length b) (2 ^ 24) ≡ true
among-short b [] h e = absurd (true≢false (sym e))
among-short b (x ∷ bs) h e =
    elim (same_bytes b x) as (λ t. same_bytes b x ≡ t → (t || list_any (same_bytes b) bs) ≡ true → nat_le (length b) (2 ^ 24) ≡ true) [
      | true ↦ λ g k. ap (λ (y : Bytes). nat_le (length y) (2 ^ 24)) ((bytes_decides b x).0 g) ∙ first_so _ _ h
      | false ↦ λ g k. among-short b bs (second_so (nat_le (length x) (2 ^ 24)) _ h) k
    ] refl e

pub change-law : ChangeLaw
change-law h bs cs es w small refs =
    let H = h.objects in
    let os = objects_of bs cs in
    let B = map blob_object bs in
    let C = flat_map commit_objects cs in
    let hand = imports.hand h bs cs es w in
    let apart = imports.apart h bs cs es w in
    let G : List Object = grown H os in
    let store : IsStore G = imports.store h bs cs es w in
    let there : Each (IsIn G) os = all-in hand apart os H (imports.in_all h bs cs es w) (imports.in_H h bs cs es w) in
    let short : (b : Bytes) → list_any (same_bytes b) (bs ++ blobs_in H) ≡ true → blob_fits H b ≡ true =
    λ b e. any-cases (same_bytes b) bs (blobs_in H) (blob_fits H b ≡ true) e
    (λ k. or_right (has_name H (name Blob b)) _ (among-short b bs small.blobs k))
    (λ k. ap (λ t. t || nat_le (length b) (2 ^ 24)) (held-blob b H k)) in
    let fit : AreFit H G os =
    each-both (λ x. IsFit H G x.kind x.body) B C (blobs-fit H G store bs small.blobs)
    (commits-fit H G store (bs ++ blobs_in H) short cs (snapshots_in H) w.commits w.leaves small.commits (each-back (IsIn G) B C there)) in
    let same : G ≡ reverse (fresh H os) ++ H = grown-fresh H os in
    let heads : list_all (λ (e : Bytes × Bytes). has CommitKind G e.1) es ≡ true = heads-held G (with_commits (snapshots_in H) cs) es (λ n e. among-has hand apart n G store (ap (λ (k : List Snapshot). is_among k n) (imports.brought h bs cs es w).commits ∙ e)) refs.heads in
    let set : AreSet G None (moved h.refs es) = moved-set G h.refs es (keys-moved is_ref_name h.refs es refs.names) (values-moved (has CommitKind G) h.refs es heads) in
    plan-added h (fresh H os) (moved h.refs es) (new-from H G store os H refl (λ n e. e) (imports.added h bs cs es w) fit)
    (refs-are (reverse (fresh H os) ++ H) None (moved h.refs es) (subst (λ (T : List Object). AreSet T None (moved h.refs es)) same set))

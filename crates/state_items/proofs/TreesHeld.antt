-- A tree whose objects are all held is unfolded to itself, and its objects may be held one after another.
use Rattle.std.proofs.Common.{◌≡◌, ℕ, zero, suc, ◌≤◌, Bool, true, false, cond, ◌&&◌, ◌||◌, List, [], ◌∷◌, ◌++◌, map, max, Option, Some, None, refl, sym, ap, subst, ◌∙◌, true≢false, arith}
use Rattle.std.specs.Cmp.Lexicographic.{bytes_decides}
use Rattle.std.specs.List.{flat_map, list_any}
use Rattle.std.specs.Option.{option_map, unwrap_or}
use Rattle.std.proofs.lemmas.Bool.{or_right}
use Rattle.git_objects.specs.Paths.{Bytes, Path, is_path, same_bytes, same_path}
use Rattle.git_objects.specs.Trees.{Leaf, FileLeaf, ExecLeaf, LinkLeaf, ModuleLeaf, Flat, IsTree, LeafNode, at, rests, under}
use Rattle.git_objects.specs.Names.{add_top, body, depth, leaf_mode, leaf_name, name, tops, tree_name}
use Rattle.git_objects.specs.declared.kind.Kind.TheVariants.{Tree}
use Rattle.git_objects.specs.Lists.{Each}
use Rattle.git_objects.proofs.Basics.{same_bytes-self}
use Rattle.git_objects.proofs.Bodies.{body-within, depth-under}
use Rattle.git_objects.proofs.Maps.{same_flat}
use Rattle.git_objects.proofs.Pointwise.{all_at, at_apart, each_at}
use Rattle.git_objects.proofs.Tops.{entries, entry_of, mode_at, name_at}
use Rattle.git_objects.proofs.Tops as tops_of
use Rattle.git_objects.proofs.TreeReading.{spelled_law}
use Rattle.git_objects.proofs.Under.{at-under, at-under_nil, under-tree}
use Rattle.git_objects.proofs.SharedFronts.{listed}
use Rattle.object_store.specs.Objects.{Object, IsStore, body_of, has, object_name}
use Rattle.object_store.specs.Unfolding.{flat}
use Rattle.object_store.proofs.Unfolding.{node, unfolding_law}
use Rattle.path_trees.specs.Listed.{entry_at, found, found_at}
use Rattle.path_trees.proofs.Grown.{joined_in}
use Rattle.path_trees.proofs.Levels.{at-joined, at-joined_nil, rests_of}
use Rattle.object_store.specs.TreeObjects.{leaf_objects, objects_at, objects_within}
use Rattle.object_store.proofs.FlatParts.{flat-unfolds}

-- ---- parts of lists

pub each-front : {A : Type 0} (P : A → Type 0) (a b : List A) → Each P (a ++ b) → Each P a
each-front P [] b h = tt
each-front P (x ∷ a) b h = (h.0, each-front P a b h.1)

pub each-back : {A : Type 0} (P : A → Type 0) (a b : List A) → Each P (a ++ b) → Each P b
each-back P [] b h = h
each-back P (x ∷ a) b h = each-back P a b h.1

pub each-both : {A : Type 0} (P : A → Type 0) (a b : List A) → Each P a → Each P b → Each P (a ++ b)
each-both P [] b h g = g
each-both P (x ∷ a) b h g = (h.0, each-both P a b h.1 g)

abbrev pub among : Bytes → List Bytes → Bool
among c ds = list_any (same_bytes c) ds

pub each-pick : (P : Object → Type 0) (f : Bytes → List Object) (ds : List Bytes) (c : Bytes) → Each P (flat_map f ds) → among c ds ≡ true → Each P (f c)
each-pick P f [] c h e = absurd (true≢false (sym e))
each-pick P f (d ∷ ds) c h e =
    elim (same_bytes c d) as (λ b. same_bytes c d ≡ b → (b || list_any (same_bytes c) ds) ≡ true → Each P (f c)) [
      | true ↦ λ g k. subst (λ x. Each P (f x)) (sym ((bytes_decides c d).0 g)) (each-front P (f d) (flat_map f ds) h)
      | false ↦ λ g k. each-pick P f ds c (each-back P (f d) (flat_map f ds) h) k
    ] refl e

-- ---- first components

pub no-tops : (t : Flat) → depth t ≤ 0 → tops t ≡ []
no-tops [] h = refl
no-tops (([], x) ∷ t) h = no-tops t (right-le 0 (depth t) h)
  where
    right-le : (a b : ℕ) → max a b ≤ 0 → b ≤ 0
    right-le a b h = omega arith
no-tops ((c ∷ q, x) ∷ t) h = absurd (no-suc (left-le _ (depth t) h))
  where
    left-le : (a b : ℕ) → max a b ≤ 0 → a ≤ 0
    left-le a b h = omega arith

    no-suc : {n : ℕ} → suc n ≤ 0 → ⊥
    no-suc h = omega arith

among-first : (c d : Bytes) (ds : List Bytes) → same_bytes c d ≡ true → among c (add_top d ds) ≡ true
among-first c d [] e = ap (λ b. b || false) e
among-first c d (f ∷ ds) e =
    elim (same_bytes d f) as (λ b. same_bytes d f ≡ b → list_any (same_bytes c) (cond b (f ∷ ds) (d ∷ f ∷ ds)) ≡ true) [
      | true ↦ λ g. ap (λ b. b || list_any (same_bytes c) ds) (ap (same_bytes c) (sym ((bytes_decides d f).0 g)) ∙ e)
      | false ↦ λ g. ap (λ b. b || (same_bytes c f || list_any (same_bytes c) ds)) e
    ] refl

among-other : (c d : Bytes) (ds : List Bytes) → same_bytes c d ≡ false → among c (add_top d ds) ≡ among c ds
among-other c d [] e = ap (λ b. b || false) e
among-other c d (f ∷ ds) e =
    elim (same_bytes d f) as (λ b. list_any (same_bytes c) (cond b (f ∷ ds) (d ∷ f ∷ ds)) ≡ (same_bytes c f || list_any (same_bytes c) ds)) [
      | true ↦ refl
      | false ↦ ap (λ b. b || (same_bytes c f || list_any (same_bytes c) ds)) e
    ]

-- a path that has a leaf begins with a first component
pub top-at : (t : Flat) (c : Bytes) (r : Path) (x : Leaf) → at t (c ∷ r) ≡ Some x → among c (tops t) ≡ true
top-at [] c r x e = cc
top-at (([], y) ∷ t) c r x e = top-at t c r x e
top-at ((d ∷ q, y) ∷ t) c r x e =
    elim (same_bytes c d) as (λ b. same_bytes c d ≡ b → cond (b && same_path r q) (Some y) (at t (c ∷ r)) ≡ Some x → among c (add_top d (tops t)) ≡ true) [
      | true ↦ λ g k. among-first c d (tops t) g
      | false ↦ λ g k. among-other c d (tops t) g ∙ top-at t c r x k
    ] refl e

-- and each of them begins one
pub record Begins (t : Flat) (c : Bytes) : Type 0 where
  pub rest : Path
  pub leaf : Leaf
  pub there : at t (c ∷ rest) ≡ Some leaf

begins-from : (t s : Flat) (c : Bytes) → Each (λ e. at t e.0 ≡ Some e.1) s → among c (tops s) ≡ true → Begins t c
begins-from t [] c g e = absurd (true≢false (sym e))
begins-from t (([], y) ∷ s) c g e = begins-from t s c g.1 e
begins-from t ((d ∷ q, y) ∷ s) c g e =
    elim (same_bytes c d) as (λ b. same_bytes c d ≡ b → Begins t c) [
      | true ↦ λ k. record { rest = q; leaf = y; there = ap (λ (x : Bytes). at t (x ∷ q)) ((bytes_decides c d).0 k) ∙ g.0 }
      | false ↦ λ k. begins-from t s c g.1 (sym (among-other c d (tops s) k) ∙ e)
    ] refl

pub begins : (t : Flat) (c : Bytes) → IsTree t → among c (tops t) ≡ true → Begins t c
begins t c h e = begins-from t t c (each_at t h.sorted) e

pub each-top : (ds : List Bytes) → Each (λ c. among c ds ≡ true) ds
each-top [] = tt
each-top (d ∷ ds) = (ap (λ b. b || list_any (same_bytes d) ds) (same_bytes-self d), later ds ds d (each-top ds))
  where
    later : (xs all : List Bytes) (d : Bytes) → Each (λ c. among c all ≡ true) xs → Each (λ c. among c (d ∷ all) ≡ true) xs
    later [] all d h = tt
    later (x ∷ xs) all d h = (or_right (same_bytes x d) (list_any (same_bytes x) all) h.0, later xs all d h.1)

-- ---- what stands at a first component

abbrev rests_at : Option Leaf → Flat → Flat
rests_at (Some x) u = ([], x) ∷ []
rests_at None u = u

none-other : (o : Option Leaf) → ((x : Leaf) → o ≡ Some x → ⊥) → None ≡ o
none-other None h = refl
none-other (Some x) h = absurd (h x refl)

at-child : (t : Flat) (c : Bytes) (r : Path) → IsTree t → at (rests_at (at t (c ∷ [])) (under t (c ∷ []))) r ≡ at t (c ∷ r)
at-child t c r h = by (at t (c ∷ [])) r refl
  where
    longer : (d : Bytes) (q : Path) → c ∷ [] ≡ c ∷ d ∷ q → ⊥
    longer d q k = cc

    by : (o : Option Leaf) (r : Path) → at t (c ∷ []) ≡ o → at (rests_at o (under t (c ∷ []))) r ≡ at t (c ∷ r)
    by (Some x) [] e = sym e
    by (Some x) (d ∷ q) e =
        none-other (at t (c ∷ d ∷ q)) (λ y g. longer d q (at_apart t h.apart (c ∷ []) (c ∷ d ∷ q) x y e g (ap (λ b. (b && true) || (same_bytes c c && false)) (same_bytes-self c))))
    by None [] e = at-under_nil t (c ∷ []) ∙ sym e
    by None (d ∷ q) e = at-under t (c ∷ []) d q

found-in : (n : ℕ) (t : Flat) (c : Bytes) (ds : List Bytes) → found_at c (map (entry_of n t) ds) ≡ cond (among c ds) (Some (found (entry_of n t c))) None
found-in n t c [] = refl
found-in n t c (d ∷ ds) =
    elim (same_bytes c d) as (λ b. same_bytes c d ≡ b →
    option_map found (cond b (Some (entry_of n t d)) (entry_at c (map (entry_of n t) ds))) ≡ cond (b || list_any (same_bytes c) ds) (Some (found (entry_of n t c))) None) [
      | true ↦ λ e. ap (λ x. Some (found (entry_of n t x))) (sym ((bytes_decides c d).0 e))
      | false ↦ λ e. found-in n t c ds
    ] refl

-- ---- a tree is unfolded to itself

-- an object that is held under its name
pub record IsIn (G : List Object) (o : Object) : Type 0 where
  pub held : has o.kind G (object_name o) ≡ true
  pub body : body_of o.kind G (object_name o) ≡ o.body

abbrev pub parts : ℕ → Flat → Bytes → List Object
parts k t c = objects_at (at t (c ∷ [])) (objects_within k (under t (c ∷ [])))

abbrev pub tree_object : Flat → Object
tree_object t = record { kind = Tree; body = body t }

module _ (G : List Object) (s : IsStore G) where
  leaf-held : (x : Leaf) → Each (IsIn G) (leaf_objects x) → node G (leaf_mode x) (leaf_name x) ≡ LeafNode x
  leaf-held (FileLeaf b) h = ap (λ b. LeafNode (FileLeaf b)) h.0.body
  leaf-held (ExecLeaf b) h = ap (λ b. LeafNode (ExecLeaf b)) h.0.body
  leaf-held (LinkLeaf b) h = ap (λ b. LeafNode (LinkLeaf b)) h.0.body
  leaf-held (ModuleLeaf n) h = refl

  child-held : (o : Option Leaf) (u : Flat) (os : List Object) → Each (IsIn G) (objects_at o os) → (o ≡ None → flat G (tree_name u) ≡ u) → rests (node G (mode_at o) (name_at o (tree_name u))) ≡ rests_at o u
  child-held None u os h f = f refl
  child-held (Some x) u os h f = ap rests (leaf-held x h)

  same-at : (t : Flat) (h : IsTree t) → ((c : Bytes) → among c (tops t) ≡ true → rests (node G (mode_at (at t (c ∷ []))) (name_at (at t (c ∷ [])) (tree_name (under t (c ∷ []))))) ≡ rests_at (at t (c ∷ [])) (under t (c ∷ []))) →
      (p : Path) → at (joined_in G (entries t)) p ≡ at t p
  same-at t h f [] = at-joined_nil G (entries t) ∙ none-other (at t []) (λ x e. all_at is_path t [] x h.paths e)
  same-at t h f (c ∷ r) =
      at-joined G c r (entries t) (tops_of.listed t h).body.entries
      ∙ ap (λ o. at (rests_of G o) r) (found-in (depth t) t c (tops t))
      ∙ elim (among c (tops t)) as (λ b. among c (tops t) ≡ b → at (rests_of G (cond b (Some (found (entry_of (depth t) t c))) None)) r ≡ at t (c ∷ r)) [
        | true ↦ λ e.
            ap (λ (b : Bytes). at (rests (node G (mode_at (at t (c ∷ []))) (name_at (at t (c ∷ [])) (name Tree b)))) r) (body-within (depth t) (under t (c ∷ [])) (depth-under (depth t) t c (omega arith)))
            ∙ ap (λ (u : Flat). at u r) (f c e)
            ∙ at-child t c r h
        | false ↦ λ e. none-other (at t (c ∷ r)) (λ x g. true≢false (sym (top-at t c r x g) ∙ e))
      ] refl

  map-from : (k : ℕ) (t : Flat) (h : IsTree t) → Each (IsIn G) (objects_within (suc k) t) →
      ((c : Bytes) → among c (tops t) ≡ true → rests (node G (mode_at (at t (c ∷ []))) (name_at (at t (c ∷ [])) (tree_name (under t (c ∷ []))))) ≡ rests_at (at t (c ∷ [])) (under t (c ∷ []))) →
      (has Tree G (tree_name t) ≡ true) × (flat G (tree_name t) ≡ t)
  map-from k t h i f =
      let last : IsIn G (tree_object t) = (each-back (IsIn G) (flat_map (parts k t) (tops t)) (tree_object t ∷ []) i).0 in
      let n = tree_name t in
      let read : listed (body_of Tree G n) ≡ entries t = ap listed last.body ∙ ap (λ o. unwrap_or o []) (spelled_law (body t) (entries t) (tops_of.listed t h).body) in
      let unfolded : flat G n ≡ joined_in G (entries t) = flat-unfolds G n s last.held ∙ ap (joined_in G) read in
      let sorted : IsTree (joined_in G (entries t)) = subst IsTree unfolded (unfolding_law G n s last.held).tree in
      (last.held, unfolded ∙ same_flat (joined_in G (entries t)) t sorted.sorted h.sorted (same-at t h f))

  pub map-held : (k : ℕ) (t : Flat) → IsTree t → depth t ≤ k → Each (IsIn G) (objects_within (suc k) t) → (has Tree G (tree_name t) ≡ true) × (flat G (tree_name t) ≡ t)
  map-held zero t h d i = map-from zero t h i (λ c e. absurd (true≢false (sym e ∙ ap (among c) (no-tops t d))))
  map-held (suc k) t h d i =
      map-from (suc k) t h i (λ c e.
      let u = under t (c ∷ []) in
      let below = each-pick (IsIn G) (parts (suc k) t) (tops t) c (each-front (IsIn G) (flat_map (parts (suc k) t) (tops t)) (tree_object t ∷ []) i) e in
      child-held (at t (c ∷ [])) u (objects_within (suc k) u) below
      (λ none. (map-held k u (under-tree t (c ∷ []) h) (depth-under k t c d) (subst (λ o. Each (IsIn G) (objects_at o (objects_within (suc k) u))) none below)).1))

-- What the objects of a tree are: blobs of its leaves, and trees of what lies below a path.
use Rattle.std.proofs.Common.{◌≡◌, ℕ, zero, suc, true, false, cond, T, List, [], ◌∷◌, map, flat_map, All, Contains, Option, Some, None, refl, ap, subst}
use Rattle.std.specs.List.{cons_option, list_all}
use Rattle.std.specs.List.{flat_map as flat_map_of}
use Rattle.std.proofs.lemmas.List.Elements.{All-contains_itself, All-head, All-nil, All-cons, All-tail, Contains-append_left, Contains-append_right}
use Rattle.git_objects.specs.Lists.{Each}
use Rattle.git_objects.specs.Paths.{Bytes, Path, is_path, same_bytes}
use Rattle.git_objects.specs.Trees.{Leaf, Flat, IsTree, at, moved, rest_below, under}
use Rattle.git_objects.specs.Names.{depth, tops}
use Rattle.git_objects.proofs.Basics.{second}
use Rattle.git_objects.proofs.Under.{under_cons, under-tree}
use Rattle.object_store.specs.Hands.{IsComponentOf, IsLeafOf, IsTreeMade, tree_object}
use Rattle.object_store.specs.Objects.{Object}
use Rattle.object_store.specs.TreeObjects.{leaf_objects, objects_at, objects_within, tree_objects}
use Rattle.state_items.proofs.TreesHeld.{each-both}

-- ---- members

pub each-all : {A : Type 0} (P : A → Type 0) (xs : List A) → All P xs → Each P xs
each-all P [] h = tt
each-all P (x ∷ xs) h = (All-head P x xs h, each-all P xs (All-tail P x xs h))

pub all-each : {A : Type 0} (P : A → Type 0) (xs : List A) → Each P xs → All P xs
all-each P [] h = All-nil P
all-each P (x ∷ xs) h = All-cons P x xs h.0 (all-each P xs h.1)

pub each-member : {A : Type 0} (xs : List A) → Each (Contains xs) xs
each-member xs = each-all (Contains xs) xs (All-contains_itself xs)

pub each-map : {A : Type 0} (P Q : A → Type 0) (xs : List A) → ((x : A) → P x → Q x) → Each P xs → Each Q xs
each-map P Q [] f h = tt
each-map P Q (x ∷ xs) f h = (f x h.0, each-map P Q xs f h.1)

-- ---- what lies below a path

-- the leaves there are leaves of the tree, and the paths there are ends of its paths
leaves-below : (P : Leaf → Type 0) (t : Flat) (p : Path) → Each (λ e. P e.1) t → Each (λ e. P e.1) (under t p)
leaves-below P [] p h = tt
leaves-below P (e ∷ t) p h =
    elim (rest_below p e.0) as (λ o. Each (λ e. P e.1) (cons_option (moved o e.1) (under t p))) [
      | None ↦ leaves-below P t p h.1
      | Some q ↦ (h.0, leaves-below P t p h.1)
    ]

abbrev IfEach : (Bytes → Type 0) → Option Path → Type 0
IfEach P None = Unit
IfEach P (Some q) = Each P q

end-each : (P : Bytes → Type 0) (p q : Path) → Each P q → IfEach P (rest_below p q)
end-each P [] [] h = tt
end-each P [] (d ∷ q) h = h
end-each P (c ∷ p) [] h = tt
end-each P (c ∷ p) (d ∷ q) h = elim (same_bytes c d) as (λ b. IfEach P (cond b (rest_below p q) None)) [ true ↦ end-each P p q h.1 | false ↦ tt ]

components-below : (P : Bytes → Type 0) (t : Flat) (p : Path) → Each (λ e. Each P e.0) t → Each (λ e. Each P e.0) (under t p)
components-below P [] p h = tt
components-below P (e ∷ t) p h =
    elim (rest_below p e.0) as (λ o. IfEach P o → Each (λ e. Each P e.0) (cons_option (moved o e.1) (under t p))) [
      | None ↦ λ g. components-below P t p h.1
      | Some q ↦ λ g. (g, components-below P t p h.1)
    ] (end-each P p e.0 h.0)

-- nothing is in front of a tree's own paths
pub under-nothing : (t : Flat) → T (list_all (λ e. is_path e.0) t) → under t [] ≡ t
under-nothing [] h = refl
under-nothing (([], x) ∷ t) h = absurd h
under-nothing ((c ∷ q, x) ∷ t) h = ap (λ (u : Flat). (c ∷ q, x) ∷ u) (under-nothing t (second (is_path (c ∷ q)) _ h))

-- ---- the tree's own leaves and components

own-leaves : (t : Flat) → Each (λ e. IsLeafOf t e.1) t
own-leaves t = from t (each-member (map (λ e. e.1) t))
  where
    from : (s : Flat) → Each (IsLeafOf t) (map (λ (e : Path × Leaf). e.1) s) → Each (λ e. IsLeafOf t e.1) s
    from [] h = tt
    from (e ∷ s) h = (h.0, from s h.1)

own-components : (t : Flat) → Each (λ e. Each (IsComponentOf t) e.0) t
own-components [] = tt
own-components (e ∷ t) = (
  each-map (Contains e.0) (IsComponentOf (e ∷ t)) e.0 (λ c m. Contains-append_left e.0 (flat_map (λ e. e.0) t) c m) (each-member e.0),
  later t (own-components t),
)
  where
    later : (s : Flat) → Each (λ e. Each (IsComponentOf t) e.0) s → Each (λ d. Each (IsComponentOf (e ∷ t)) d.0) s
    later [] h = tt
    later (d ∷ s) h = (each-map (IsComponentOf t) (IsComponentOf (e ∷ t)) d.0 (λ c m. Contains-append_right e.0 (flat_map (λ e. e.0) t) c m) h.0, later s h.1)

-- what lies below a path is made of these
pub below-made : (t : Flat) (p : Path) → IsTree t → IsTreeMade (IsLeafOf t) (IsComponentOf t) (tree_object (under t p))
below-made t p h = (
  under t p,
  record { tree = under-tree t p h; all_leaves = leaves-below (IsLeafOf t) t p (own-leaves t); all_components = components-below (IsComponentOf t) t p (own-components t) },
  refl,
)

-- ---- its objects

module _ (Q : Object → Type 0) where
  leaf-below : (P : Leaf → Type 0) (t : Flat) (c : Bytes) → Each (λ e. P e.1) t → (x : Leaf) → at t (c ∷ []) ≡ Some x → P x
  leaf-below P [] c h x e = let no : None ≡ Some x = e in cc
  leaf-below P (d ∷ t) c h x e =
      elim (Rattle.git_objects.specs.Paths.same_path (c ∷ []) d.0) as (λ b. cond b (Some d.1) (at t (c ∷ [])) ≡ Some x → P x) [
        | true ↦ λ k. subst P (same d.1 x k) h.0
        | false ↦ λ k. leaf-below P t c h.1 x k
      ] e
    where
      same : (x y : Leaf) → Some x ≡ Some y → x ≡ y
      same x y e = cc

  at-each : (o : Option Leaf) (os : List Object) → ((x : Leaf) → o ≡ Some x → Each Q (leaf_objects x)) → Each Q os → Each Q (objects_at o os)
  at-each None os f h = h
  at-each (Some x) os f h = f x refl

  tops-each : (f : Bytes → List Object) (ds : List Bytes) → ((c : Bytes) → Each Q (f c)) → Each Q (flat_map_of f ds)
  tops-each f [] g = tt
  tops-each f (c ∷ ds) g = each-both Q (f c) (flat_map_of f ds) (g c) (tops-each f ds g)

  within-each : (k : ℕ) (t : Flat) → Each (λ e. Each Q (leaf_objects e.1)) t → Q (tree_object t) → ((p : Path) → Q (tree_object (under t p))) → Each Q (objects_within k t)
  within-each zero t l r f = tt
  within-each (suc k) t l r f =
      each-both Q (flat_map_of (λ c. objects_at (at t (c ∷ [])) (objects_within k (under t (c ∷ [])))) (tops t)) (tree_object t ∷ [])
      (tops-each (λ c. objects_at (at t (c ∷ [])) (objects_within k (under t (c ∷ [])))) (tops t)
      (λ c. at-each (at t (c ∷ [])) (objects_within k (under t (c ∷ []))) (leaf-below (λ x. Each Q (leaf_objects x)) t c l)
      (within-each k (under t (c ∷ [])) (leaves-below (λ x. Each Q (leaf_objects x)) t (c ∷ []) l) (f (c ∷ [])) (λ p. subst (λ (u : Flat). Q (tree_object u)) (under_cons t c p) (f (c ∷ p))))))
      (r, tt)

  -- blobs of its leaves, and trees of what lies below a path of it
  pub tree-each : (t : Flat) → IsTree t → Each (λ e. Each Q (leaf_objects e.1)) t → ((p : Path) → Q (tree_object (under t p))) → Each Q (tree_objects t)
  unfolding tree_objects
  tree-each t h l f = within-each (suc (depth t)) t l (subst (λ (u : Flat). Q (tree_object u)) (under-nothing t h.paths) (f [])) f

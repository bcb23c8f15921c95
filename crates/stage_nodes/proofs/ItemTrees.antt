-- The items of a forest stand for the leaves that it has.
use Rattle.std.proofs.Common.{◌≡◌, Bool, true, false, cond, T, List, [], ◌∷◌, ◌++◌, Option, Some, None, refl, sym, ap, subst, ◌∙◌}
use Rattle.std.specs.FinMap.{is_sorted}
use Rattle.std.specs.Cmp.Lexicographic.{bytes_decides}
use Rattle.git_objects.specs.Paths.{Bytes, Path, same_bytes, path_cmp}
use Rattle.git_objects.specs.Trees.{Leaf, Flat, at, rests}
use Rattle.git_objects.proofs.Basics.{same_bytes-back}
use Rattle.git_objects.proofs.Maps.{first_some, after, at_rest, at-put_all, sorted-put_all}
use Rattle.object_store.specs.Objects.{Object}
use Rattle.path_trees.specs.Standing.{node}
use Rattle.stage_nodes.specs.declared.nodes.Content.{Content}
use Rattle.stage_nodes.specs.declared.nodes.Content.TheVariants.{Held, Open}
use Rattle.stage_nodes.specs.Forests.{Forest, Nil, Bin, Sound}
use Rattle.stage_nodes.specs.Directories.{any}
use Rattle.stage_nodes.specs.Leaves.{leaf_in, leaf_below, is_held}
use Rattle.stage_nodes.specs.Items.{Items, items, items_at, items_behind, tree_of, AreHeld}
use Rattle.stage_nodes.proofs.PutLeaves.{beyond_none}

module _ (S : List Object) where
  pub tree_sorted : (es : Items) → T (is_sorted path_cmp (tree_of S es))
  tree_sorted [] = tt
  tree_sorted (e ∷ es) = sorted-put_all e.0 (rests (node S e.1)) (tree_of S es) (tree_sorted es)

  at_none : (es : Flat) → None ≡ at_rest es None
  at_none es = refl

  tree_nil : (c : Bytes) (xs ys : Items) → at (tree_of S (items_behind c xs ++ ys)) [] ≡ at (tree_of S ys) []
  tree_nil c [] ys = refl
  tree_nil c (x ∷ xs) ys = at-put_all (c ∷ x.0) (rests (node S x.1)) (tree_of S (items_behind c xs ++ ys)) [] ∙ tree_nil c xs ys

  pick : (b : Bool) (es : Flat) (r : Option Path) (a o : Option Leaf) → first_some (at_rest es (cond b r None)) (cond b (first_some a o) o) ≡ cond b (first_some (first_some (at_rest es r) a) o) o
  pick true es r a o = by (at_rest es r)
    where
      by : (x : Option Leaf) → first_some x (first_some a o) ≡ first_some (first_some x a) o
      by None = refl
      by (Some x) = refl
  pick false es r a o = refl

  pub tree_cons : (c : Bytes) (xs ys : Items) (d : Bytes) (q : Path) → at (tree_of S (items_behind c xs ++ ys)) (d ∷ q) ≡ cond (same_bytes c d) (first_some (at (tree_of S xs) q) (at (tree_of S ys) (d ∷ q))) (at (tree_of S ys) (d ∷ q))
  tree_cons c [] ys d q = elim (same_bytes c d) as (λ b. at (tree_of S ys) (d ∷ q) ≡ cond b (at (tree_of S ys) (d ∷ q)) (at (tree_of S ys) (d ∷ q))) [ true ↦ refl | false ↦ refl ]
  tree_cons c (x ∷ xs) ys d q =
      at-put_all (c ∷ x.0) (rests (node S x.1)) (tree_of S (items_behind c xs ++ ys)) (d ∷ q)
      ∙ ap (first_some (at_rest (rests (node S x.1)) (cond (same_bytes c d) (after x.0 q) None))) (tree_cons c xs ys d q)
      ∙ pick (same_bytes c d) (rests (node S x.1)) (after x.0 q) (at (tree_of S xs) q) (at (tree_of S ys) (d ∷ q))
      ∙ ap (λ o. cond (same_bytes c d) (first_some o (at (tree_of S ys) (d ∷ q))) (at (tree_of S ys) (d ∷ q))) (sym (at-put_all x.0 (rests (node S x.1)) (tree_of S xs) q))

  some_none : (o : Option Leaf) → first_some o None ≡ o
  some_none None = refl
  some_none (Some x) = refl

  -- the leaf at each path
  pub tree_leaf : (F : Forest) (p : Path) → Sound any F → at (tree_of S (items F)) p ≡ leaf_in S F p
  tree_leaf Nil p s = refl
  tree_leaf (Bin k c x l r) [] s = tree_nil c (items_at x (items l)) (items r) ∙ tree_leaf r [] s.3 ∙ none_here r
    where
      none_here : (F : Forest) → leaf_in S F [] ≡ None
      none_here Nil = refl
      none_here (Bin i d y m n) = refl
  tree_leaf (Bin k c x l r) (d ∷ q) s =
      tree_cons c (items_at x (items l)) (items r) d q
      ∙ ap (λ b. cond b (first_some (at (tree_of S (items_at x (items l))) q) (at (tree_of S (items r)) (d ∷ q))) (at (tree_of S (items r)) (d ∷ q))) (same_bytes-back c d)
      ∙ (λ i. cond (same_bytes d c) (first_some (here x (λ z. tree_leaf l z s.2) i) (tree_leaf r (d ∷ q) s.3 i)) (tree_leaf r (d ∷ q) s.3 i))
      ∙ elim (same_bytes d c) as (λ b. same_bytes d c ≡ b → cond b (first_some (leaf_below S x (leaf_in S l) q) (leaf_in S r (d ∷ q))) (leaf_in S r (d ∷ q)) ≡ cond b (leaf_below S x (leaf_in S l) q) (leaf_in S r (d ∷ q))) [
        | true ↦ λ e. ap (first_some (leaf_below S x (leaf_in S l) q)) (ap (λ (b : Bytes). leaf_in S r (b ∷ q)) ((bytes_decides d c).0 e) ∙ beyond_none S c r q s.1) ∙ some_none (leaf_below S x (leaf_in S l) q)
        | false ↦ λ e. refl
      ] refl
    where
      here : (x : Content) → ((z : Path) → at (tree_of S (items l)) z ≡ leaf_in S l z) → at (tree_of S (items_at x (items l))) q ≡ leaf_below S x (leaf_in S l) q
      here Open h = h q
      here (Held f) h = at-put_all [] (rests (node S f)) [] q ∙ some_none (at (rests (node S f)) q)

  -- all that the items name is held where all that the nodes name is
  are_held : (c : Bytes) (xs ys : Items) → AreHeld S (items_behind c xs ++ ys) → AreHeld S xs × AreHeld S ys
  are_held c [] ys h = (tt, h)
  are_held c (x ∷ xs) ys h = let r = are_held c xs ys h.1 in ((h.0, r.0), r.1)

  pub held_sound : (F : Forest) → Sound any F → AreHeld S (items F) → Sound (is_held S) F
  held_sound Nil s h = tt
  held_sound (Bin k c x l r) s h =
      let g = are_held c (items_at x (items l)) (items r) h in
      by x s.0.filled g.0 (λ u. held_sound l s.2 u) (held_sound r s.3 g.1)
    where
      by : (x : Content) → Rattle.stage_nodes.specs.Forests.IsFilled x l → AreHeld S (items_at x (items l)) → (AreHeld S (items l) → Sound (is_held S) l) → Sound (is_held S) r → Sound (is_held S) (Bin k c x l r)
      by (Held f) e u v w = (record { component = s.0.component; filled = e; content = u.0 }, s.1, subst (Sound (is_held S)) (sym e) tt, w)
      by Open e u v w = (record { component = s.0.component; filled = e; content = refl }, s.1, v u, w)

  held_back : (c : Bytes) (xs ys : Items) → AreHeld S xs → AreHeld S ys → AreHeld S (items_behind c xs ++ ys)
  held_back c [] ys h g = g
  held_back c (x ∷ xs) ys h g = (h.0, held_back c xs ys h.1 g)

  pub sound_held : (F : Forest) → Sound (is_held S) F → AreHeld S (items F)
  sound_held Nil s = tt
  sound_held (Bin k c x l r) s = held_back c (items_at x (items l)) (items r) (by x s.0.content (sound_held l s.2)) (sound_held r s.3)
    where
      by : (x : Content) → is_held S x ≡ true → AreHeld S (items l) → AreHeld S (items_at x (items l))
      by (Held f) e u = (e, tt)
      by Open e u = u

-- Two trees without a clash are a tree together.
use Rattle.std.proofs.Common.{◌≡◌, Bool, true, false, cond, ◌||◌, ◌⊎◌, inl, inr, T, [], ◌∷◌, ◌++◌, refl, sym, ap, ◌∙◌, Option, Some, None, true≢false}
use Rattle.std.specs.Option.{option_map, option_or}
use Rattle.std.specs.FinMap.{is_sorted}
use Rattle.git_objects.specs.Paths.{Path, is_nil, same_path, path_cmp, is_path, is_prefix, comparable}
use Rattle.git_objects.specs.Trees.{Leaf, is_leaf, Flat, IsTree, at, under, put_all}
use Rattle.git_objects.proofs.Order.{path_decides}
use Rattle.git_objects.proofs.Maps.{first_some, same_flat, sorted-put_all}
use Rattle.git_objects.proofs.Pointwise.{all_at, leaf_at, at_apart, tree_from}
use Rattle.git_objects.proofs.Under.{at-under, at-under_nil, under-tree}
use Rattle.path_trees.specs.Clashes.{first_comparable, clash, together}
use Rattle.path_trees.specs.Laws.{TogetherLaw}
use Rattle.path_trees.proofs.Clashing.{at-together}
use Rattle.path_trees.proofs.Apart.{neither, unmapped}

-- ---- no path of one is comparable with a path of the other

first_apart : (p : Path) (b : Flat) (q : Path) (y : Leaf) → first_comparable p b ≡ None → at b q ≡ Some y → comparable p q ≡ false
first_apart p [] q y h g = cc
first_apart p (e ∷ b) q y h g =
    elim (comparable p e.0) as (λ v. comparable p e.0 ≡ v → cond v (Some e.0) (first_comparable p b) ≡ None → comparable p q ≡ false) [
      | true ↦ λ k w. cc
      | false ↦ λ k w. elim (same_path q e.0) as (λ v. same_path q e.0 ≡ v → cond v (Some e.1) (at b q) ≡ Some y → comparable p q ≡ false) [
        | true ↦ λ m _. ap (comparable p) ((path_decides q e.0).0 m) ∙ k
        | false ↦ λ m u. first_apart p b q y w u
      ] refl g
    ] refl h

pub clash_apart : (a b : Flat) (p q : Path) (x y : Leaf) → clash a b ≡ None → at a p ≡ Some x → at b q ≡ Some y → comparable p q ≡ false
clash_apart [] b p q x y h g k = cc
clash_apart (e ∷ a) b p q x y h g k =
    let r = neither (option_map {U = Path × Path} (λ q. (e.0, q)) (first_comparable e.0 b)) (clash a b) h in
    elim (same_path p e.0) as (λ v. same_path p e.0 ≡ v → cond v (Some e.1) (at a p) ≡ Some x → comparable p q ≡ false) [
      | true ↦ λ m _. ap (λ s. comparable s q) ((path_decides p e.0).0 m) ∙ first_apart e.0 b q y (unmapped _ (first_comparable e.0 b) r.0) k
      | false ↦ λ m u. clash_apart a b p q x y r.1 u k
    ] refl g

-- ---- it is a tree

either : (x y : Option Leaf) (z : Leaf) → first_some x y ≡ Some z → (x ≡ Some z) ⊎ (y ≡ Some z)
either None y z h = inr h
either (Some x) y z h = inl h

other_way : (p q : Path) → comparable p q ≡ comparable q p
other_way p q = by (is_prefix p q) (is_prefix q p)
  where
    by : (a b : Bool) → (a || b) ≡ (b || a)
    by true true = refl
    by true false = refl
    by false true = refl
    by false false = refl

module _ (a b : Flat) (h : IsTree a) (g : IsTree b) (c : clash a b ≡ None) where
  source : (q : Path) (x : Leaf) → at (together a b) q ≡ Some x → (at a q ≡ Some x) ⊎ (at b q ≡ Some x)
  source q x e = either (at a q) (at b q) x (sym (at-together a b q) ∙ e)

  pub together_sorted : T (is_sorted path_cmp (together a b))
  unfolding together
  together_sorted = sorted-put_all [] a b g.sorted

  valid : (q : Path) (x : Leaf) → at (together a b) q ≡ Some x → T (is_path q)
  valid q x e = elim (source q x e) [ inl i ↦ all_at is_path a q x h.paths i | inr i ↦ all_at is_path b q x g.paths i ]

  leaf : (q : Path) (x : Leaf) → at (together a b) q ≡ Some x → T (is_leaf x)
  leaf q x e = elim (source q x e) [ inl i ↦ leaf_at is_leaf a q x h.leaves i | inr i ↦ leaf_at is_leaf b q x g.leaves i ]

  apart : (p q : Path) (x y : Leaf) → at (together a b) p ≡ Some x → at (together a b) q ≡ Some y → comparable p q ≡ true → p ≡ q
  apart p q x y e f k = elim (source p x e) [
    | inl i ↦ elim (source q y f) [
      | inl j ↦ at_apart a h.apart p q x y i j k
      | inr j ↦ absurd (true≢false (sym k ∙ clash_apart a b p q x y c i j))
    ]
    | inr i ↦ elim (source q y f) [
      | inl j ↦ absurd (true≢false (sym (other_way q p ∙ k) ∙ clash_apart a b q p y x c j i))
      | inr j ↦ at_apart b g.apart p q x y i j k
    ]
  ]

  pub together_tree : IsTree (together a b)
  together_tree = tree_from (together a b) together_sorted valid leaf apart

  -- what lies below a path
  pub under_together : (q : Path) → under (together a b) q ≡ together (under a q) (under b q)
  unfolding together
  under_together q = same_flat (under (together a b) q) (put_all [] (under a q) (under b q)) (under-tree (together a b) q together_tree).sorted (sorted-put_all [] (under a q) (under b q) (under-tree b q g).sorted) by
    where
      by : (r : Path) → at (under (together a b) q) r ≡ at (put_all [] (under a q) (under b q)) r
      by [] = at-under_nil (together a b) q ∙ sym (at-together (under a q) (under b q) [] ∙ (λ i. first_some (at-under_nil a q i) (at-under_nil b q i)))
      by (d ∷ r) =
          at-under (together a b) q d r ∙ at-together a b (q ++ d ∷ r)
          ∙ (λ i. first_some (sym (at-under a q d r) i) (sym (at-under b q d r) i))
          ∙ sym (at-together (under a q) (under b q) (d ∷ r))

-- ---- with a tree that has no path

no_more : (o : Option Leaf) → first_some o None ≡ o
no_more None = refl
no_more (Some x) = refl

pub together_nothing : (a : Flat) → IsTree a → together a [] ≡ a
unfolding together
together_nothing a h = same_flat (put_all [] a []) a (sorted-put_all [] a [] tt) h.sorted (λ q. at-together a [] q ∙ no_more (at a q))

pub nothing_together : (b : Flat) → together [] b ≡ b
unfolding together
nothing_together b = refl

pub nothing_clashes : (a : Flat) → clash a [] ≡ None
nothing_clashes [] = refl
nothing_clashes (e ∷ a) = nothing_clashes a

pub no_path : (t : Flat) → true ≡ is_nil t → t ≡ []
no_path [] h = refl
no_path (e ∷ t) h = absurd (true≢false h)

-- ---- the law

either_or : (x y : Option Leaf) → first_some x y ≡ option_or x y
either_or None y = refl
either_or (Some x) y = refl

pub together_law : TogetherLaw
together_law a b h g c = record {
  apart = λ p q x y. clash_apart a b p q x y c;
  tree = together_tree a b h g c;
  leaves = λ p. at-together a b p ∙ either_or (at a p) (at b p);
}

-- What a move leaves of a flat tree.
use Rattle.std.proofs.Common.{◌≡◌, Bool, true, false, cond, ◌&&◌, ◌||◌, [], ◌∷◌, ◌++◌, length, Option, Some, None, refl, sym, ap, ◌∙◌, arith, true≢false, length-append, append-nil}
use Rattle.std.specs.Option.{option_map, option_or}
use Rattle.git_objects.specs.Paths.{Bytes, Path, comparable, is_prefix, same_bytes}
use Rattle.git_objects.specs.Trees.{Flat, IsTree, Leaf, Node as FlatNode, LeafNode, TreeNode, at, if_full, put, remove, rests, standing, under}
use Rattle.git_objects.proofs.Basics.{same_bytes-back, same_bytes-self}
use Rattle.git_objects.proofs.Maps.{after, at-put, at-remove, at_rest, first_some}
use Rattle.git_objects.proofs.Order.{path_decides}
use Rattle.git_objects.proofs.Pointwise.{at_apart}
use Rattle.git_objects.proofs.Under.{at-under, at-under_nil}

-- ---- paths

prefix_more : (p q r : Path) → is_prefix p q ≡ true → is_prefix p (q ++ r) ≡ true
prefix_more [] q r h = refl
prefix_more (c ∷ p) [] r h = absurd (true≢false (sym h))
prefix_more (c ∷ p) (d ∷ q) r h = elim (same_bytes c d) as (λ b. (b && is_prefix p q) ≡ true → (b && is_prefix p (q ++ r)) ≡ true) [ true ↦ λ g. prefix_more p q r g | false ↦ λ g. g ] h

prefix_self : (p r : Path) → is_prefix p (p ++ r) ≡ true
prefix_self [] r = refl
prefix_self (c ∷ p) r = ap (λ b. b && is_prefix p (p ++ r)) (same_bytes-self c) ∙ prefix_self p r

-- paths with a common continuation
two_prefixes : (p s y : Path) → is_prefix p y ≡ true → is_prefix s y ≡ true → comparable p s ≡ true
two_prefixes [] s y h g = refl
two_prefixes (c ∷ p) [] y h g = refl
two_prefixes (c ∷ p) (d ∷ s) [] h g = absurd (true≢false (sym h))
two_prefixes (c ∷ p) (d ∷ s) (e ∷ y) h g =
    elim (same_bytes c e) as (λ b. same_bytes c e ≡ b → (b && is_prefix p y) ≡ true → comparable (c ∷ p) (d ∷ s) ≡ true) [
      | true ↦ λ u v. elim (same_bytes d e) as (λ b. same_bytes d e ≡ b → (b && is_prefix s y) ≡ true → comparable (c ∷ p) (d ∷ s) ≡ true) [
        | true ↦ λ w z.
            let cd : same_bytes c d ≡ true = ap (same_bytes c) ((Rattle.std.specs.Cmp.Lexicographic.bytes_decides d e).0 w) ∙ u in
            (λ i. (cd i && is_prefix p s) || ((same_bytes-back d c ∙ cd) i && is_prefix s p)) ∙ two_prefixes p s y v z
        | false ↦ λ w z. absurd (true≢false (sym z))
      ] refl g
      | false ↦ λ u v. absurd (true≢false (sym v))
    ] refl h

after_none : (p y : Path) → is_prefix p y ≡ false → after p y ≡ None
after_none [] y h = absurd (true≢false h)
after_none (c ∷ p) [] h = refl
after_none (c ∷ p) (d ∷ y) h = elim (same_bytes c d) as (λ b. (b && is_prefix p y) ≡ false → cond b (after p y) None ≡ None) [ true ↦ λ g. after_none p y g | false ↦ λ g. refl ] h

-- what comes behind a prefix, where the two aren't the same
after_some : (p y : Path) → is_prefix p y ≡ true → (r : Path) × (after p y ≡ Some r) × (y ≡ p ++ r)
after_some [] y h = (y, refl, refl)
after_some (c ∷ p) [] h = absurd (true≢false (sym h))
after_some (c ∷ p) (d ∷ y) h =
    elim (same_bytes c d) as (λ b. same_bytes c d ≡ b → (b && is_prefix p y) ≡ true → (r : Path) × (cond b (after p y) None ≡ Some r) × (d ∷ y ≡ c ∷ p ++ r)) [
      | true ↦ λ w g. let k = after_some p y g in (k.0, k.1, λ i. sym ((Rattle.std.specs.Cmp.Lexicographic.bytes_decides c d).0 w) i ∷ k.2 i)
      | false ↦ λ w g. absurd (true≢false (sym g))
    ] refl h

or_false : (a b : Bool) → (a || b) ≡ false → (a ≡ false) × (b ≡ false)
or_false true b h = absurd (true≢false h)
or_false false b h = (refl, h)

left_true : (a b : Bool) → a ≡ true → (a || b) ≡ true
left_true a b h = ap (λ v. v || b) h

-- ---- what stands at a path

module _ (t : Flat) (s : Path) (tree : IsTree t) where
  nothing_further : (x : Leaf) → at t s ≡ Some x → (d : Bytes) (r : Path) → at t (s ++ d ∷ r) ≡ None
  nothing_further x h d r = by (at t (s ++ d ∷ r)) refl
    where
      by : (o : Option Leaf) → at t (s ++ d ∷ r) ≡ o → o ≡ None
      by None e = refl
      by (Some z) e =
          let same : s ≡ s ++ d ∷ r = at_apart t tree.apart s (s ++ d ∷ r) x z h e (left_true (is_prefix s (s ++ d ∷ r)) (is_prefix (s ++ d ∷ r) s) (prefix_self s (d ∷ r))) in
          absurd (omega (arith, ap length same, length-append s (d ∷ r)))

  by_leaf : (n : FlatNode) (o : Option Leaf) → at t s ≡ o → option_or (option_map LeafNode o) (if_full (under t s)) ≡ Some n → (r : Path) → at (rests n) r ≡ at t (s ++ r)
  by_leaf n (Some x) e h [] = let is : LeafNode x ≡ n = cc in ap (λ m. at (rests m) []) (sym is) ∙ sym e ∙ ap (at t) (sym (append-nil s))
  by_leaf n (Some x) e h (d ∷ r) = let is : LeafNode x ≡ n = cc in ap (λ m. at (rests m) (d ∷ r)) (sym is) ∙ sym (nothing_further x e d r)
  by_leaf n None e h r = by (under t s) refl h r
    where
      by : (u : Flat) → under t s ≡ u → if_full u ≡ Some n → (r : Path) → at (rests n) r ≡ at t (s ++ r)
      by [] g k r = absurd cc
      by (d ∷ u) g k [] = let is : TreeNode (d ∷ u) ≡ n = cc in ap (λ m. at (rests m) []) (sym is) ∙ ap (λ (v : Flat). at v []) (sym g) ∙ at-under_nil t s ∙ sym e ∙ ap (at t) (sym (append-nil s))
      by (d ∷ u) g k (c ∷ r) = let is : TreeNode (d ∷ u) ≡ n = cc in ap (λ m. at (rests m) (c ∷ r)) (sym is) ∙ ap (λ (v : Flat). at v (c ∷ r)) (sym g) ∙ at-under t s c r

  -- its leaves by the rests of their paths
  pub standing_rests : (n : FlatNode) → standing t s ≡ Some n → (r : Path) → at (rests n) r ≡ at t (s ++ r)
  standing_rests n h = by_leaf n (at t s) refl h

  -- where a leaf is, something stands
  pub standing_some : (r : Path) (x : Leaf) → at t (s ++ r) ≡ Some x → (n : FlatNode) × (standing t s ≡ Some n)
  standing_some r x h = by (at t s) refl
    where
      by : (o : Option Leaf) → at t s ≡ o → (n : FlatNode) × (option_or (option_map LeafNode o) (if_full (under t s)) ≡ Some n)
      by (Some y) e = (LeafNode y, refl)
      by None e = more (under t s) refl r h
        where
          more : (u : Flat) → under t s ≡ u → (r : Path) → at t (s ++ r) ≡ Some x → (n : FlatNode) × (if_full u ≡ Some n)
          more (d ∷ u) g r k = (TreeNode (d ∷ u), refl)
          more [] g [] k = absurd (let w : None ≡ Some x = sym e ∙ ap (at t) (sym (append-nil s)) ∙ k in cc)
          more [] g (c ∷ r) k = absurd (let w : None ≡ Some x = ap (λ (v : Flat). at v (c ∷ r)) (sym g) ∙ at-under t s c r ∙ k in cc)

  -- where no leaf is, nothing stands
  pub standing_none : ((y : Path) → is_prefix s y ≡ true → at t y ≡ None) → standing t s ≡ None
  standing_none h =
      (λ i. option_or (option_map LeafNode ((ap (at t) (sym (append-nil s)) ∙ h (s ++ []) (prefix_self s [])) i)) (if_full (under t s)))
      ∙ ap if_full (empty (under t s) (λ r. nothing r))
    where
      nothing : (r : Path) → at (under t s) r ≡ None
      nothing [] = at-under_nil t s
      nothing (d ∷ r) = at-under t s d r ∙ h (s ++ d ∷ r) (prefix_self s (d ∷ r))

      empty : (u : Flat) → ((r : Path) → at u r ≡ None) → u ≡ []
      empty [] g = refl
      empty (e ∷ u) g = absurd (let w : Some e.1 ≡ None = sym (ap (λ b. cond b (Some e.1) (at u e.0)) ((path_decides e.0 e.0).1 refl)) ∙ g e.0 in cc)

  -- no leaf stands on the way to a leaf
  way_none : (r : Path) (x : Leaf) → at t (s ++ r) ≡ Some x → (y : Path) → is_prefix y s ≡ true → is_prefix s y ≡ false → at t y ≡ None
  way_none r x h y g k = by (at t y) refl
    where
      by : (o : Option Leaf) → at t y ≡ o → o ≡ None
      by None e = refl
      by (Some z) e =
          let same : y ≡ s ++ r = at_apart t tree.apart y (s ++ r) z x e h (left_true (is_prefix y (s ++ r)) (is_prefix (s ++ r) y) (prefix_more y s r g)) in
          absurd (true≢false (sym (ap (is_prefix s) same ∙ prefix_self s r) ∙ k))

  -- ---- a leaf in its place, and then the move

  module _ (r : Path) (x : Leaf) (leaf : at t (s ++ r) ≡ Some x) (p : Path) (n : FlatNode) (l : Leaf) where
    abbrev left : Flat
    left = put t s (LeafNode l)

    beside : (y : Path) → is_prefix s y ≡ false → at left y ≡ at (remove t s) y
    beside y g =
        at-put t s (LeafNode l) y
        ∙ ap (λ o. first_some (at_rest (([], l) ∷ []) o) (cond (comparable s y) None (at t y))) (after_none s y g)
        ∙ ap (λ b. cond (b || is_prefix y s) None (at t y)) g
        ∙ by (is_prefix y s) refl
        ∙ sym (ap (λ b. cond b None (at t y)) g)
        ∙ sym (at-remove t s y)
      where
        by : (b : Bool) → is_prefix y s ≡ b → cond b None (at t y) ≡ at t y
        by true e = sym (way_none r x leaf y e g)
        by false e = refl

    nothing_below : (y : Path) (d : Bytes) (q : Path) → after s y ≡ Some (d ∷ q) → is_prefix s y ≡ true → at left y ≡ at (remove t s) y
    nothing_below y d q e g =
        at-put t s (LeafNode l) y
        ∙ ap (λ o. first_some (at_rest (([], l) ∷ []) o) (cond (comparable s y) None (at t y))) e
        ∙ ap (λ b. cond (b || is_prefix y s) None (at t y)) g
        ∙ sym (ap (λ b. cond b None (at t y)) g)
        ∙ sym (at-remove t s y)

    -- what isn't comparable with the target
    same_apart : comparable p s ≡ true → (y : Path) → comparable p y ≡ false → at left y ≡ at (remove t s) y
    same_apart h y g = by (is_prefix s y) refl
      where
        none_equal : (q : Path) → after s y ≡ Some q → y ≡ s ++ q → is_prefix s y ≡ true → at left y ≡ at (remove t s) y
        none_equal [] e f k = absurd (true≢false (sym (ap (comparable p) (f ∙ append-nil s) ∙ h) ∙ g))
        none_equal (d ∷ q) e f k = nothing_below y d q e k

        by : (b : Bool) → is_prefix s y ≡ b → at left y ≡ at (remove t s) y
        by false e = beside y e
        by true e = let k = after_some s y e in none_equal k.0 k.1 k.2 e

    -- where one path begins with the other nothing is left to be removed
    pub moved_over : comparable p s ≡ true → (y : Path) → at (put left p n) y ≡ at (put (remove t s) p n) y
    moved_over h y =
        at-put left p n y
        ∙ ap (first_some (at_rest (rests n) (after p y))) (by (comparable p y) refl)
        ∙ sym (at-put (remove t s) p n y)
      where
        by : (b : Bool) → comparable p y ≡ b → cond b None (at left y) ≡ cond b None (at (remove t s) y)
        by true e = refl
        by false e = same_apart h y e

    pub moved_apart : comparable p s ≡ false → (y : Path) → at (remove (put left p n) s) y ≡ at (put (remove t s) p n) y
    moved_apart h y = at-remove (put left p n) s y ∙ by (is_prefix s y) refl ∙ sym (at-put (remove t s) p n y)
      where
        none_twice : (b : Bool) (o : Option Leaf) → o ≡ None → None ≡ cond b None o
        none_twice true o w = refl
        none_twice false o w = sym w

        not_below : is_prefix s y ≡ true → (b : Bool) → is_prefix p y ≡ b → is_prefix p y ≡ false
        not_below e true k = absurd (true≢false (sym (two_prefixes p s y k e) ∙ h))
        not_below e false k = k

        by : (b : Bool) → is_prefix s y ≡ b → cond b None (at (put left p n) y) ≡ first_some (at_rest (rests n) (after p y)) (cond (comparable p y) None (at (remove t s) y))
        by true e =
            none_twice (comparable p y) (at (remove t s) y) (at-remove t s y ∙ ap (λ b. cond b None (at t y)) e)
            ∙ sym (ap (λ o. first_some (at_rest (rests n) o) (cond (comparable p y) None (at (remove t s) y))) (after_none p y (not_below e (is_prefix p y) refl)))
        by false e = at-put left p n y ∙ ap (λ o. first_some (at_rest (rests n) (after p y)) (cond (comparable p y) None o)) (beside y e)

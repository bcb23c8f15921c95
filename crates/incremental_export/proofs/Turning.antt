-- The changes from a tree to another one turn it into that.
use Rattle.std.proofs.Common.{◌≡◌, Bool, true, false, cond, not, ◌&&◌, ◌||◌, T, List, [], ◌∷◌, refl, sym, ap, ◌∙◌, Option, Some, None, filter, map, true≢false}
use Rattle.std.specs.Option.{is_none, option_map_or}
use Rattle.std.specs.FinMap.{is_sorted}
use Rattle.git_objects.specs.Lists.{Each}
use Rattle.git_objects.specs.Paths.{Path, same_path, is_prefix, comparable, path_cmp}
use Rattle.git_objects.specs.Trees.{Flat, IsTree, Leaf, LeafNode, at, no_comparable, put, remove, same_leaf, without}
use Rattle.git_objects.proofs.Basics.{same_bytes-self}
use Rattle.git_objects.proofs.Maps.{at-put_entry, at-remove, at-without, put-leaf, same_flat, sorted-put, sorted-remove}
use Rattle.git_objects.proofs.Order.{path_decides}
use Rattle.git_objects.proofs.Pointwise.{at_apart, each_at, leaf-is}
use Rattle.incremental_export.proofs.Comparing.{each_kept}
use Rattle.incremental_export.specs.Changes.{ChangingLaw, changed, deleted, stands_in, with_all, without_all}

prefix-self : (p : Path) → is_prefix p p ≡ true
prefix-self [] = refl
prefix-self (c ∷ p) = ap (λ b. b && is_prefix p p) (same_bytes-self c) ∙ prefix-self p

prefix-comparable : (p q : Path) → is_prefix p q ≡ true → comparable p q ≡ true
prefix-comparable p q h = ap (λ b. b || is_prefix q p) h

-- ---- removals

sorted-without_all : (ps : List Path) (t : Flat) → T (is_sorted path_cmp t) → T (is_sorted path_cmp (without_all ps t))
sorted-without_all [] t h = h
sorted-without_all (p ∷ ps) t h = sorted-without_all ps (remove t p) (sorted-remove t p h)

-- what isn't there doesn't come by removals
still_none : (ps : List Path) (t : Flat) (q : Path) → at t q ≡ None → at (without_all ps t) q ≡ None
still_none [] t q h = h
still_none (p ∷ ps) t q h =
    still_none ps (remove t p) q (at-remove t p q ∙ elim (is_prefix p q) as (λ b. cond b None (at t q) ≡ None) [ true ↦ refl | false ↦ h ])

-- a path that b doesn't have is removed
removed : (b s t : Flat) (q : Path) (x : Leaf) → at s q ≡ Some x → at b q ≡ None → at (without_all (deleted s b) t) q ≡ None
removed b [] t q x h n = cc
removed b (e ∷ s) t q x h n =
    elim (is_none (at b e.0)) as (λ k. is_none (at b e.0) ≡ k
    → at (without_all (map (λ d. d.0) (cond k (e ∷ filter (λ d. is_none (at b d.0)) s) (filter (λ d. is_none (at b d.0)) s))) t) q ≡ None) [
      | true ↦ λ _. elim (same_path q e.0) as (λ k. same_path q e.0 ≡ k → cond k (Some e.1) (at s q) ≡ Some x → at (without_all (deleted s b) (remove t e.0)) q ≡ None) [
        | true ↦ λ i _. still_none (deleted s b) (remove t e.0) q
            (at-remove t e.0 q ∙ ap (λ k. cond k None (at t q)) (ap (λ p. is_prefix p q) (sym ((path_decides q e.0).0 i)) ∙ prefix-self q))
        | false ↦ λ i g. removed b s (remove t e.0) q x g n
      ] refl h
      | false ↦ λ k. elim (same_path q e.0) as (λ m. same_path q e.0 ≡ m → cond m (Some e.1) (at s q) ≡ Some x → at (without_all (deleted s b) t) q ≡ None) [
        | true ↦ λ i _. absurd (true≢false (sym (ap is_none n) ∙ ap (λ p. is_none (at b p)) ((path_decides q e.0).0 i) ∙ k))
        | false ↦ λ i g. removed b s t q x g n
      ] refl h
    ] refl

-- and one that b has too stays
stays : (a b s t : Flat) (q : Path) (x y : Leaf) → T (no_comparable a) → Each (λ e. at a e.0 ≡ Some e.1) s → at a q ≡ Some x → at b q ≡ Some y
    → at (without_all (deleted s b) t) q ≡ at t q
stays a b [] t q x y u g h k = refl
stays a b (e ∷ s) t q x y u g h k =
    elim (is_none (at b e.0)) as (λ m. is_none (at b e.0) ≡ m
    → at (without_all (map (λ d. d.0) (cond m (e ∷ filter (λ d. is_none (at b d.0)) s) (filter (λ d. is_none (at b d.0)) s))) t) q ≡ at t q) [
      | true ↦ λ m. stays a b s (remove t e.0) q x y u g.1 h k ∙ at-remove t e.0 q ∙ ap (λ c. cond c None (at t q)) (other m)
      | false ↦ λ m. stays a b s t q x y u g.1 h k
    ] refl
  where
    other : is_none (at b e.0) ≡ true → is_prefix e.0 q ≡ false
    other m = elim (is_prefix e.0 q) as (λ c. is_prefix e.0 q ≡ c → c ≡ false) [
      | true ↦ λ i.
          let same = at_apart a u e.0 q e.1 x g.0 h (prefix-comparable e.0 q i) in
          absurd (true≢false (sym m ∙ ap (λ p. is_none (at b p)) same ∙ ap is_none k))
      | false ↦ λ i. refl
    ] refl

-- ---- what is put

sorted-with_all : (es t : Flat) → T (is_sorted path_cmp t) → T (is_sorted path_cmp (with_all es t))
sorted-with_all [] t h = h
sorted-with_all (e ∷ es) t h = sorted-with_all es (put t e.0 (LeafNode e.1)) (sorted-put t e.0 (LeafNode e.1) h)

at-leaf : (t : Flat) (p q : Path) (x : Leaf) → at (put t p (LeafNode x)) q ≡ cond (same_path q p) (Some x) (cond (comparable p q) None (at t q))
at-leaf t p q x = ap (λ (u : Flat). at u q) (put-leaf t p x) ∙ at-put_entry q p x (without t p) ∙ ap (cond (same_path q p) (Some x)) (at-without t p q)

-- a leaf of b that is put changes nothing where the tree answers as b does
still_same : (b t : Flat) (q p : Path) (x : Leaf) → T (no_comparable b) → at b p ≡ Some x → at t q ≡ at b q → at (put t p (LeafNode x)) q ≡ at b q
still_same b t q p x u h g =
    at-leaf t p q x
    ∙ elim (same_path q p) as (λ k. same_path q p ≡ k → cond k (Some x) (cond (comparable p q) None (at t q)) ≡ at b q) [
      | true ↦ λ i. sym (ap (at b) ((path_decides q p).0 i) ∙ h)
      | false ↦ λ i. elim (comparable p q) as (λ k. comparable p q ≡ k → cond k None (at t q) ≡ at b q) [
        | true ↦ λ c. sym (elim (at b q) as (λ o. at b q ≡ o → o ≡ None) [
          | None ↦ λ _. refl
          | Some y ↦ λ e. absurd (true≢false (sym ((path_decides q p).1 (sym (at_apart b u p q x y h e c))) ∙ i))
        ] refl)
        | false ↦ λ c. g
      ] refl
    ] refl

all_same : (b es t : Flat) (q : Path) → T (no_comparable b) → Each (λ e. at b e.0 ≡ Some e.1) es → at t q ≡ at b q → at (with_all es t) q ≡ at b q
all_same b [] t q u h g = g
all_same b (e ∷ es) t q u h g = all_same b es (put t e.0 (LeafNode e.1)) q u h.1 (still_same b t q e.0 e.1 u h.0 g)

-- where one is put, the tree answers as b does
reached : (b es t : Flat) (q : Path) (x : Leaf) → T (no_comparable b) → Each (λ e. at b e.0 ≡ Some e.1) es → at es q ≡ Some x → at (with_all es t) q ≡ at b q
reached b [] t q x u h g = cc
reached b (e ∷ es) t q x u h g =
    elim (same_path q e.0) as (λ k. same_path q e.0 ≡ k → cond k (Some e.1) (at es q) ≡ Some x → at (with_all (e ∷ es) t) q ≡ at b q) [
      | true ↦ λ i _. all_same b es (put t e.0 (LeafNode e.1)) q u h.1
          (at-leaf t e.0 q e.1 ∙ ap (λ k. cond k (Some e.1) (cond (comparable e.0 q) None (at t q))) i ∙ sym (ap (at b) ((path_decides q e.0).0 i) ∙ h.0))
      | false ↦ λ i w. reached b es (put t e.0 (LeafNode e.1)) q x u h.1 w
    ] refl g

-- ---- a test of leaves

kept-at : (f : Path × Leaf → Bool) (t : Flat) (q : Path) (x : Leaf) → at t q ≡ Some x → f (q, x) ≡ true → at (filter f t) q ≡ Some x
kept-at f [] q x h g = cc
kept-at f (e ∷ t) q x h g =
    elim (same_path q e.0) as (λ k. same_path q e.0 ≡ k → cond k (Some e.1) (at t q) ≡ Some x → at (cond (f e) (e ∷ filter f t) (filter f t)) q ≡ Some x) [
      | true ↦ λ i w. here i w
      | false ↦ λ i w. elim (f e) as (λ m. at (cond m (e ∷ filter f t) (filter f t)) q ≡ Some x) [
        | true ↦ ap (λ k. cond k (Some e.1) (at (filter f t) q)) i ∙ kept-at f t q x w g
        | false ↦ kept-at f t q x w g
      ]
    ] refl h
  where
    here : same_path q e.0 ≡ true → Some e.1 ≡ Some x → at (cond (f e) (e ∷ filter f t) (filter f t)) q ≡ Some x
    here i w =
        let leaf : e.1 ≡ x = cc in
        let is : f e ≡ true = (λ j. f ((sym ((path_decides q e.0).0 i)) j, leaf j)) ∙ g in
        ap (λ m. at (cond m (e ∷ filter f t) (filter f t)) q) is ∙ ap (λ k. cond k (Some e.1) (at (filter f t) q)) i ∙ w

-- ---- the law

new-each : (a b : Flat) → IsTree b → Each (λ e. at b e.0 ≡ Some e.1) (changed a b)
new-each a b v = each_kept (λ e. not (stands_in a e)) (λ e. at b e.0 ≡ Some e.1) b (each_at b v.sorted)

-- a path that b doesn't have
gone-same : (a b : Flat) (q : Path) → IsTree a → IsTree b → at b q ≡ None → at (with_all (changed a b) (without_all (deleted a b) a)) q ≡ at b q
gone-same a b q u v n = all_same b (changed a b) (without_all (deleted a b) a) q v.apart (new-each a b v) (nothing (at a q) refl ∙ sym n)
  where
    nothing : (o : Option Leaf) → at a q ≡ o → at (without_all (deleted a b) a) q ≡ None
    nothing None e = still_none (deleted a b) a q e
    nothing (Some x) e = removed b a a q x e n

-- one that a doesn't have so
new-same : (a b : Flat) (q : Path) (y : Leaf) → IsTree b → at b q ≡ Some y → stands_in a (q, y) ≡ false
    → at (with_all (changed a b) (without_all (deleted a b) a)) q ≡ at b q
new-same a b q y v e f =
    reached b (changed a b) (without_all (deleted a b) a) q y v.apart (new-each a b v) (kept-at (λ d. not (stands_in a d)) b q y e (ap not f))

-- and one that both have
old-same : (a b : Flat) (q : Path) (y : Leaf) → IsTree a → IsTree b → at b q ≡ Some y → stands_in a (q, y) ≡ true
    → at (with_all (changed a b) (without_all (deleted a b) a)) q ≡ at b q
old-same a b q y u v e f =
    all_same b (changed a b) (without_all (deleted a b) a) q v.apart (new-each a b v) (by (at a q) refl f)
  where
    by : (o : Option Leaf) → at a q ≡ o → option_map_or (same_leaf y) o false ≡ true → at (without_all (deleted a b) a) q ≡ at b q
    by None i g = absurd (true≢false (sym g))
    by (Some x) i g = stays a b a a q x y u.apart (each_at a u.sorted) i e ∙ i ∙ ap Some (sym (leaf-is y x g)) ∙ sym e

pub changing : ChangingLaw
changing a b u v =
    same_flat (with_all (changed a b) (without_all (deleted a b) a)) b
    (sorted-with_all (changed a b) (without_all (deleted a b) a) (sorted-without_all (deleted a b) a u.sorted)) v.sorted
    (λ q. by q (at b q) refl)
  where
    by : (q : Path) (o : Option Leaf) → at b q ≡ o → at (with_all (changed a b) (without_all (deleted a b) a)) q ≡ at b q
    by q None e = gone-same a b q u v e
    by q (Some y) e = elim (stands_in a (q, y)) as (λ k. stands_in a (q, y) ≡ k → at (with_all (changed a b) (without_all (deleted a b) a)) q ≡ at b q) [
      | true ↦ λ f. old-same a b q y u v e f
      | false ↦ λ f. new-same a b q y v e f
    ] refl

-- The least of pairs of comparable paths.
use Rattle.std.proofs.Common.{◌≡◌, ◌⊎◌, inl, inr, Bool, true, false, cond, T, List, [], ◌∷◌, Option, Some, None, refl, sym, ap, ◌∙◌, true≢false}
use Rattle.std.specs.Prelude.{is_some}
use Rattle.std.specs.Option.{option_map, option_or}
use Rattle.std.specs.declared.cmp.Ordering.{Ordering}
use Rattle.std.specs.declared.cmp.Ordering.TheVariants.{Less, Equal, Greater}
use Rattle.std.specs.Ordering.{is_lt, ordering_reverse, ordering_then}
use Rattle.std.specs.Cmp.{IsTotalOrder}
use Rattle.std.specs.Cmp.Lexicographic.{lists_total, slice_cmp}
use Rattle.std.specs.FinMap.{is_sorted}
use Rattle.git_objects.specs.Lists.{Each}
use Rattle.git_objects.specs.Paths.{Path, comparable, path_cmp, same_path}
use Rattle.git_objects.specs.Trees.{Leaf, Flat, at}
use Rattle.git_objects.specs.declared.kind.Kind.TheVariants.{Tree}
use Rattle.git_objects.specs.declared.name.Name.{Name}
use Rattle.git_objects.proofs.Basics.{first, second}
use Rattle.git_objects.proofs.Order.{path_cmp-antisymmetric, path_cmp-total, path_decides}
use Rattle.object_store.specs.Objects.{Object, IsStore, has}
use Rattle.object_store.specs.Unfolding.{flat}
use Rattle.path_trees.specs.Clashes.{clash, first_comparable}
use Rattle.filter_routes.proofs.TreeEntries.{not_before}
use Rattle.filter_unapply.specs.Blocks.{IsLeast, lesser, pair_cmp, with_clashes}
use Rattle.filter_unapply.specs.Laying.{first_path}
use Rattle.filter_unapply.specs.Parts.{any_at}
use Rattle.filter_unapply.proofs.Firsts.{first-first, first-none, first-passes}
use Rattle.filter_unapply.proofs.Told.{is_tree}
use Rattle.filter_unapply.proofs.Somes.{or-left, or-right, some-of, some-or}

-- ---- pairs in order

pub pair-total : IsTotalOrder pair_cmp
pair-total = record {
  antisymm = λ x y. lists.antisymm (x.0 ∷ x.1 ∷ []) (y.0 ∷ y.1 ∷ []);
  trans = λ x y z. lists.trans (x.0 ∷ x.1 ∷ []) (y.0 ∷ y.1 ∷ []) (z.0 ∷ z.1 ∷ []);
  congr = λ x y z. lists.congr (x.0 ∷ x.1 ∷ []) (y.0 ∷ y.1 ∷ []) (z.0 ∷ z.1 ∷ []);
}
  where
    lists : IsTotalOrder (slice_cmp path_cmp)
    lists = lists_total path_cmp-total

not-less : (o : Ordering) → is_lt o ≡ false → o ≡ Less → ⊥
not-less o e k = true≢false (sym (ap is_lt k) ∙ e)

pub pair-not : (p p' q q' : Path) → is_lt (path_cmp p p') ≡ false → (p ≡ p' → is_lt (path_cmp q q') ≡ false) → is_lt (pair_cmp (p, q) (p', q')) ≡ false
pair-not p p' q q' f g = by (path_cmp p p') refl f
  where
    last : (o : Ordering) → is_lt o ≡ false → is_lt (ordering_then o Equal) ≡ false
    last Less e = absurd (true≢false e)
    last Equal e = refl
    last Greater e = refl

    by : (o : Ordering) → path_cmp p p' ≡ o → is_lt o ≡ false → is_lt (ordering_then o (ordering_then (path_cmp q q') Equal)) ≡ false
    by Less k e = absurd (true≢false e)
    by Equal k e = last (path_cmp q q') (g (path_cmp-antisymmetric p p' k))
    by Greater k e = refl

-- z not before x, and y before x: then z is not before y
not-before-less : (x y z : Path × Path) → pair_cmp y x ≡ Less → is_lt (pair_cmp z x) ≡ false → is_lt (pair_cmp z y) ≡ false
not-before-less x y z l n = by (pair_cmp z y) refl
  where
    by : (o : Ordering) → pair_cmp z y ≡ o → is_lt o ≡ false
    by Less k = absurd (not-less (pair_cmp z x) n (pair-total.trans z y x k l))
    by Equal k = refl
    by Greater k = refl

-- y not before x, and z not before y: then z is not before x
not-before-both : (x y z : Path × Path) → is_lt (pair_cmp y x) ≡ false → is_lt (pair_cmp z y) ≡ false → is_lt (pair_cmp z x) ≡ false
not-before-both x y z n m = by (pair_cmp y x) refl (pair_cmp z x) refl
  where
    back : pair_cmp y x ≡ Greater → pair_cmp x y ≡ Less
    back k = pair-total.antisymm x y ∙ ap ordering_reverse k

    by : (v : Ordering) → pair_cmp y x ≡ v → (o : Ordering) → pair_cmp z x ≡ o → is_lt o ≡ false
    by v i Equal k = refl
    by v i Greater k = refl
    by Less i Less k = absurd (not-less (pair_cmp y x) n i)
    by Equal i Less k =
        let same : pair_cmp x y ≡ Equal = pair-total.antisymm x y ∙ ap ordering_reverse i in
        absurd (not-less (pair_cmp z y) m (moved same))
      where
        moved : pair_cmp x y ≡ Equal → pair_cmp z y ≡ Less
        moved e = pair-total.antisymm z y ∙ ap ordering_reverse (sym (pair-total.congr x y z e)) ∙ sym (pair-total.antisymm z x) ∙ k
    by Greater i Less k = absurd (not-less (pair_cmp z y) m (pair-total.trans z x y k (back i)))

-- ---- the least of which something holds

pub least-as : (H G : Path → Path → Type 0) (o : Option (Path × Path)) → ((p q : Path) → H p q → G p q) → ((p q : Path) → G p q → H p q) → IsLeast H o → IsLeast G o
least-as H G None f g l = λ p q h. l p q (g p q h)
least-as H G (Some x) f g l = (f x.0 x.1 l.0, λ p q h. l.1 p q (g p q h))

pub least-or : (H G : Path → Path → Type 0) (o v : Option (Path × Path)) → IsLeast H o → IsLeast G v → IsLeast (λ p q. H p q ⊎ G p q) (lesser o v)
least-or H G None v h g = least-as G (λ p q. H p q ⊎ G p q) v (λ p q k. inr k) (λ p q k. only p q k) g
  where
    only : (p q : Path) → H p q ⊎ G p q → G p q
    only p q (inl k) = absurd (h p q k)
    only p q (inr k) = k
least-or H G (Some x) None h g = (inl h.0, λ p q k. by p q k)
  where
    by : (p q : Path) → H p q ⊎ G p q → is_lt (pair_cmp (p, q) x) ≡ false
    by p q (inl k) = h.1 p q k
    by p q (inr k) = absurd (g p q k)
least-or H G (Some x) (Some y) h g = by (is_lt (pair_cmp y x)) refl
  where
    less : (o : Ordering) → is_lt o ≡ true → o ≡ Less
    less Less e = refl
    less Equal e = absurd (true≢false (sym e))
    less Greater e = absurd (true≢false (sym e))

    first-less : is_lt (pair_cmp y x) ≡ true → (p q : Path) → H p q ⊎ G p q → is_lt (pair_cmp (p, q) y) ≡ false
    first-less e p q (inl k) = not-before-less x y (p, q) (less (pair_cmp y x) e) (h.1 p q k)
    first-less e p q (inr k) = g.1 p q k

    not-first : is_lt (pair_cmp y x) ≡ false → (p q : Path) → H p q ⊎ G p q → is_lt (pair_cmp (p, q) x) ≡ false
    not-first e p q (inl k) = h.1 p q k
    not-first e p q (inr k) = not-before-both x y (p, q) e (g.1 p q k)

    by : (b : Bool) → is_lt (pair_cmp y x) ≡ b → IsLeast (λ p q. H p q ⊎ G p q) (cond b (Some y) (Some x))
    by true e = (inr g.0, first-less e)
    by false e = (inl h.0, not-first e)

-- ---- the first clash

-- a path of each tree, which are comparable
pub record Meets (a : Flat) (o : Path → Option Leaf) (p q : Path) : Type 0 where
  pub path : is_some (at a p) ≡ true
  pub by : is_some (o q) ≡ true
  pub near : comparable p q ≡ true

comparable-first : (p : Path) (b : Flat) → first_comparable p b ≡ first_path (λ q. comparable p q) b
comparable-first p [] = refl
comparable-first p (d ∷ b) = ap (λ o. cond (comparable p d.0) (Some d.0) o) (comparable-first p b)

module _ (b : Flat) (sb : T (is_sorted path_cmp b)) where
  at-first : (d : Path × Leaf) (a : Flat) → is_some (at (d ∷ a) d.0) ≡ true
  at-first d a = ap (λ v. is_some (cond v (Some d.1) (at a d.0))) ((path_decides d.0 d.0).1 refl)

  at-later : (d : Path × Leaf) (a : Flat) (p : Path) → is_some (at a p) ≡ true → is_some (at (d ∷ a) p) ≡ true
  at-later d a p e = by (same_path p d.0)
    where
      by : (v : Bool) → is_some (cond v (Some d.1) (at a p)) ≡ true
      by true = refl
      by false = e

  at-either : (d : Path × Leaf) (a : Flat) (p : Path) → is_some (at (d ∷ a) p) ≡ true → (p ≡ d.0) ⊎ (is_some (at a p) ≡ true)
  at-either d a p e = by (same_path p d.0) refl e
    where
      by : (v : Bool) → same_path p d.0 ≡ v → is_some (cond v (Some d.1) (at a p)) ≡ true → (p ≡ d.0) ⊎ (is_some (at a p) ≡ true)
      by true i g = inl ((path_decides p d.0).0 i)
      by false i g = inr g

  pub clash-least : (a : Flat) → T (is_sorted path_cmp a) → IsLeast (Meets a (λ q. at b q)) (clash a b)
  clash-least [] s = λ p q h. true≢false (sym h.path)
  clash-least (d ∷ a) s = by (first_comparable d.0 b) refl (clash-least a (second _ _ s))
    where
      none-near : first_comparable d.0 b ≡ None → (p q : Path) → Meets (d ∷ a) (λ q. at b q) p q → Meets a (λ q. at b q) p q
      none-near e p q h = at-p (at-either d a p h.path)
        where
          at-p : (p ≡ d.0) ⊎ (is_some (at a p) ≡ true) → Meets a (λ q. at b q) p q
          at-p (inr k) = record { path = k; by = h.by; near = h.near }
          at-p (inl k) =
              let y = some-of (at b q) h.by in
              absurd (true≢false (sym h.near ∙ ap (λ r. comparable r q) k ∙ first-none (λ q. comparable d.0 q) b (sym (comparable-first d.0 b) ∙ e) q y.0 y.1))

      least-at : (q : Path) → first_comparable d.0 b ≡ Some q → (p r : Path) → Meets (d ∷ a) (λ q. at b q) p r → is_lt (pair_cmp (p, r) (d.0, q)) ≡ false
      least-at q e p r h =
          let x = some-of (at (d ∷ a) p) h.path in
          let y = some-of (at b r) h.by in
          pair-not p d.0 r q (not_before d a (first _ _ s) p x.0 x.1)
          (λ i. first-first (λ q. comparable d.0 q) b sb q (sym (comparable-first d.0 b) ∙ e) r y.0 y.1 (ap (λ v. comparable v r) (sym i) ∙ h.near))

      by : (o : Option Path) → first_comparable d.0 b ≡ o → IsLeast (Meets a (λ q. at b q)) (clash a b) →
          IsLeast (Meets (d ∷ a) (λ q. at b q)) (option_or (option_map {U = Path × Path} (λ q. (d.0, q)) o) (clash a b))
      by None e later = least-as (Meets a (λ q. at b q)) (Meets (d ∷ a) (λ q. at b q)) (clash a b) (λ p q h. record { path = at-later d a p h.path; by = h.by; near = h.near }) (none-near e) later
      by (Some q) e later =
          let k = first-passes (λ q. comparable d.0 q) b q (sym (comparable-first d.0 b) ∙ e) in
          (record { path = at-first d a; by = k.0; near = k.1 }, least-at q e)

-- ---- the first clashes of one tree with others

module _ (S : List Object) (s : IsStore S) (a : Name) (h : has Tree S a.0 ≡ true) where
  pub clash-meets : (n : Name) → has Tree S n.0 ≡ true → IsLeast (Meets (flat S a.0) (λ q. at (flat S n.0) q)) (clash (flat S a.0) (flat S n.0))
  clash-meets n g = clash-least (flat S n.0) (is_tree S s n.0 g).sorted (flat S a.0) (is_tree S s a.0 h).sorted

  pub clashes-least : (H : Path → Path → Type 0) (o : Option (Path × Path)) (ns : List Name) → Each (λ n. has Tree S n.0 ≡ true) ns → IsLeast H o →
      IsLeast (λ p q. H p q ⊎ Meets (flat S a.0) (any_at S ns) p q) (with_clashes S a ns o)
  clashes-least H o [] t l = least-as H (λ p q. H p q ⊎ Meets (flat S a.0) (any_at S []) p q) o (λ p q k. inl k) (λ p q k. only p q k) l
    where
      only : (p q : Path) → H p q ⊎ Meets (flat S a.0) (any_at S []) p q → H p q
      only p q (inl k) = k
      only p q (inr k) = absurd (true≢false (sym k.by))
  clashes-least H o (n ∷ ns) t l =
      least-as _ _ (with_clashes S a (n ∷ ns) o) there back
      (clashes-least (λ p q. H p q ⊎ Meets (flat S a.0) (λ q. at (flat S n.0) q) p q) (lesser o (clash (flat S a.0) (flat S n.0))) ns t.1
      (least-or H (Meets (flat S a.0) (λ q. at (flat S n.0) q)) o (clash (flat S a.0) (flat S n.0)) l (clash-meets n t.0)))
    where
      there : (p q : Path) → (H p q ⊎ Meets (flat S a.0) (λ q. at (flat S n.0) q) p q) ⊎ Meets (flat S a.0) (any_at S ns) p q → H p q ⊎ Meets (flat S a.0) (any_at S (n ∷ ns)) p q
      there p q (inl (inl k)) = inl k
      there p q (inl (inr k)) = inr (record { path = k.path; by = or-left (at (flat S n.0) q) (any_at S ns q) k.by; near = k.near })
      there p q (inr k) = inr (record { path = k.path; by = or-right (at (flat S n.0) q) (any_at S ns q) k.by; near = k.near })

      back : (p q : Path) → H p q ⊎ Meets (flat S a.0) (any_at S (n ∷ ns)) p q → (H p q ⊎ Meets (flat S a.0) (λ q. at (flat S n.0) q) p q) ⊎ Meets (flat S a.0) (any_at S ns) p q
      back p q (inl k) = inl (inl k)
      back p q (inr k) = at-q (some-or (at (flat S n.0) q) (any_at S ns q) k.by)
        where
          at-q : (is_some (at (flat S n.0) q) ≡ true) ⊎ (is_some (any_at S ns q) ≡ true) → (H p q ⊎ Meets (flat S a.0) (λ q. at (flat S n.0) q) p q) ⊎ Meets (flat S a.0) (any_at S ns) p q
          at-q (inl e) = inl (inr (record { path = k.path; by = e; near = k.near }))
          at-q (inr e) = inr (record { path = k.path; by = e; near = k.near })

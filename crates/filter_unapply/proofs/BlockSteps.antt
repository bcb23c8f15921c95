-- The first block of parts, one part after another.
use Rattle.std.proofs.Common.{◌≡◌, ◌⊎◌, inl, inr, true, List, [], ◌∷◌, ◌++◌, Option, Some, None, refl, sym, ap, subst, ◌∙◌, true≢false}
use Rattle.std.proofs.lemmas.Option.{none-some}
use Rattle.std.specs.Prelude.{is_some}
use Rattle.std.specs.Option.{option_or}
use Rattle.git_objects.specs.Lists.{Each}
use Rattle.git_objects.specs.Paths.{Path, comparable}
use Rattle.git_objects.specs.Trees.{Leaf, at}
use Rattle.git_objects.specs.declared.kind.Kind.TheVariants.{Tree}
use Rattle.git_objects.specs.declared.name.Name.{Name}
use Rattle.git_objects.proofs.Pointwise.{at_apart}
use Rattle.object_store.specs.Objects.{Object, IsStore, has}
use Rattle.object_store.specs.Unfolding.{flat}
use Rattle.path_trees.specs.Clashes.{clash}
use Rattle.filter_unapply.specs.Blocks.{IsLeast, lesser, with_clashes}
use Rattle.filter_unapply.specs.Parts.{AreApart, IsBlockIn, any_at, with_parts}
use Rattle.filter_unapply.proofs.Leasts.{Meets, clash-meets, clashes-least, least-as, least-or}
use Rattle.filter_unapply.proofs.PartLists.{any-app, or-assoc}
use Rattle.filter_unapply.proofs.Told.{is_tree}
use Rattle.filter_unapply.proofs.Somes.{or-left, or-right, some-of, some-or}

-- a path of the first parts, and another path of all that is comparable with it
pub record IsBlockUpTo (S : List Object) (k : Name) (all ns : List Name) (p q : Path) : Type 0 where
  pub path : is_some (any_at S ns p) ≡ true
  pub by : is_some (with_parts S k all q) ≡ true
  pub comparable : comparable p q ≡ true
  pub other : p ≡ q → ⊥

any-both : (S : List Object) (xs ys : List Name) (p : Path) → any_at S (xs ++ ys) p ≡ option_or (any_at S xs p) (any_at S ys p)
any-both S [] ys p = refl
any-both S (x ∷ xs) ys p = ap (option_or (at (flat S x.0) p)) (any-both S xs ys p) ∙ or-assoc (at (flat S x.0) p) (any_at S xs p) (any_at S ys p)

or-none-both : (x y : Option Leaf) → option_or x y ≡ None → (x ≡ None) × (y ≡ None)
or-none-both None y e = (refl, e)
or-none-both (Some x) y e = absurd (none-some x (sym e))

apart-split : (S : List Object) (xs ys : List Name) → AreApart S (xs ++ ys) → (p : Path) (x : Leaf) → any_at S xs p ≡ Some x → any_at S ys p ≡ None
apart-split S [] ys a p x e = absurd (none-some x e)
apart-split S (n ∷ xs) ys a p x e = by (at (flat S n.0) p) refl (λ g. apart-split S xs ys a.1 p x g) e
  where
    by : (o : Option Leaf) → at (flat S n.0) p ≡ o → (any_at S xs p ≡ Some x → any_at S ys p ≡ None) → option_or o (any_at S xs p) ≡ Some x → any_at S ys p ≡ None
    by None k later g = later g
    by (Some y) k later g = (or-none-both (any_at S xs p) (any_at S ys p) (sym (any-both S xs ys p) ∙ a.0 p y k)).1

apart-rest : (S : List Object) (xs ys : List Name) → AreApart S (xs ++ ys) → AreApart S ys
apart-rest S [] ys a = a
apart-rest S (n ∷ xs) ys a = apart-rest S xs ys a.1

each-split : (P : Name → Type 0) (xs ys : List Name) → Each P (xs ++ ys) → Each P xs × Each P ys
each-split P [] ys h = (tt, h)
each-split P (n ∷ xs) ys h = let r = each-split P xs ys h.1 in ((h.0, r.0), r.1)

module _ (S : List Object) (s : IsStore S) (kept a : Name) (xs ys : List Name) (hk : has Tree S kept.0 ≡ true) (trees : Each (λ n. has Tree S n.0 ≡ true) (xs ++ a ∷ ys))
    (apart : AreApart S (xs ++ a ∷ ys)) (other : (p : Path) (x : Leaf) → at (flat S kept.0) p ≡ Some x → any_at S (xs ++ a ∷ ys) p ≡ None) where
  abbrev whole : List Name
  whole = xs ++ a ∷ ys

  abbrev mid : Path → Path → Type 0
  mid p q = ((IsBlockUpTo S kept whole xs p q ⊎ Meets (flat S a.0) (any_at S xs) p q) ⊎ Meets (flat S a.0) (any_at S ys) p q) ⊎ Meets (flat S a.0) (λ q. at (flat S kept.0) q) p q

  in-all : (q : Path) → is_some (any_at S whole q) ≡ true → is_some (with_parts S kept whole q) ≡ true
  in-all q e = or-right (at (flat S kept.0) q) (any_at S whole q) e

  in-first : (q : Path) → is_some (any_at S xs q) ≡ true → is_some (any_at S whole q) ≡ true
  in-first q e = ap is_some (any-both S xs (a ∷ ys) q) ∙ or-left (any_at S xs q) (any_at S (a ∷ ys) q) e

  in-rest : (q : Path) → is_some (any_at S (a ∷ ys) q) ≡ true → is_some (any_at S whole q) ≡ true
  in-rest q e = ap is_some (any-both S xs (a ∷ ys) q) ∙ or-right (any_at S xs q) (any_at S (a ∷ ys) q) e

  in-own : (q : Path) → is_some (at (flat S a.0) q) ≡ true → is_some (any_at S (a ∷ ys) q) ≡ true
  in-own q e = or-left (at (flat S a.0) q) (any_at S ys q) e

  now : (p : Path) → is_some (at (flat S a.0) p) ≡ true → is_some (any_at S (xs ++ a ∷ []) p) ≡ true
  now p e = ap is_some (any-app S xs a p) ∙ or-right (any_at S xs p) (at (flat S a.0) p) e

  not-none : (o : Option Leaf) → is_some o ≡ true → o ≡ None → ⊥
  not-none o e k = true≢false (sym e ∙ ap is_some k)

  there : (p q : Path) → mid p q → IsBlockUpTo S kept whole (xs ++ a ∷ []) p q
  there p q (inl (inl (inl k))) = record { path = ap is_some (any-app S xs a p) ∙ or-left (any_at S xs p) (at (flat S a.0) p) k.path; by = k.by; comparable = k.comparable; other = k.other }
  there p q (inl (inl (inr k))) =
      let x = some-of (any_at S xs q) k.by in
      record {
        path = now p k.path;
        by = in-all q (in-first q k.by);
        comparable = k.near;
        other = λ i. not-none (any_at S (a ∷ ys) q) (in-own q (subst (λ r. is_some (at (flat S a.0) r) ≡ true) i k.path)) (apart-split S xs (a ∷ ys) apart q x.0 x.1);
      }
  there p q (inl (inr k)) =
      let x = some-of (at (flat S a.0) p) k.path in
      record {
        path = now p k.path;
        by = in-all q (in-rest q (or-right (at (flat S a.0) q) (any_at S ys q) k.by));
        comparable = k.near;
        other = λ i. not-none (any_at S ys q) k.by (ap (any_at S ys) (sym i) ∙ (apart-rest S xs (a ∷ ys) apart).0 p x.0 x.1);
      }
  there p q (inr k) =
      let x = some-of (at (flat S kept.0) q) k.by in
      record {
        path = now p k.path;
        by = or-left (at (flat S kept.0) q) (any_at S whole q) k.by;
        comparable = k.near;
        other = λ i. not-none (any_at S whole q) (in-rest q (in-own q (subst (λ r. is_some (at (flat S a.0) r) ≡ true) i k.path))) (other q x.0 x.1);
      }

  -- the other path's tree
  place-of : (p q : Path) → is_some (at (flat S a.0) p) ≡ true → is_some (with_parts S kept whole q) ≡ true → comparable p q ≡ true → (p ≡ q → ⊥) → mid p q
  place-of p q k e c n = at-kept (some-or (at (flat S kept.0) q) (any_at S whole q) e)
    where
      at-own : (is_some (at (flat S a.0) q) ≡ true) ⊎ (is_some (any_at S ys q) ≡ true) → mid p q
      at-own (inr i) = inl (inr (record { path = k; by = i; near = c }))
      at-own (inl i) =
          let x = some-of (at (flat S a.0) p) k in
          let y = some-of (at (flat S a.0) q) i in
          absurd (n (at_apart (flat S a.0) (is_tree S s a.0 (each-split (λ n. has Tree S n.0 ≡ true) xs (a ∷ ys) trees).1.0).apart p q x.0 y.0 x.1 y.1 c))

      at-list : (is_some (any_at S xs q) ≡ true) ⊎ (is_some (any_at S (a ∷ ys) q) ≡ true) → mid p q
      at-list (inl i) = inl (inl (inr (record { path = k; by = i; near = c })))
      at-list (inr i) = at-own (some-or (at (flat S a.0) q) (any_at S ys q) i)

      at-kept : (is_some (at (flat S kept.0) q) ≡ true) ⊎ (is_some (any_at S whole q) ≡ true) → mid p q
      at-kept (inl i) = inr (record { path = k; by = i; near = c })
      at-kept (inr i) = at-list (some-or (any_at S xs q) (any_at S (a ∷ ys) q) (sym (ap is_some (any-both S xs (a ∷ ys) q)) ∙ i))

  back : (p q : Path) → IsBlockUpTo S kept whole (xs ++ a ∷ []) p q → mid p q
  back p q k = by (some-or (any_at S xs p) (at (flat S a.0) p) (sym (ap is_some (any-app S xs a p)) ∙ k.path))
    where
      by : (is_some (any_at S xs p) ≡ true) ⊎ (is_some (at (flat S a.0) p) ≡ true) → mid p q
      by (inl e) = inl (inl (inl (record { path = e; by = k.by; comparable = k.comparable; other = k.other })))
      by (inr e) = place-of p q e k.by k.comparable k.other

  pub block-step : (o : Option (Path × Path)) → IsLeast (IsBlockUpTo S kept whole xs) o →
      IsLeast (IsBlockUpTo S kept whole (xs ++ a ∷ [])) (lesser (with_clashes S a ys (with_clashes S a xs o)) (clash (flat S a.0) (flat S kept.0)))
  block-step o l =
      let t = each-split (λ n. has Tree S n.0 ≡ true) xs (a ∷ ys) trees in
      let h = t.1.0 in
      let H1 : Path → Path → Type 0 = λ p q. IsBlockUpTo S kept whole xs p q ⊎ Meets (flat S a.0) (any_at S xs) p q in
      let H2 : Path → Path → Type 0 = λ p q. H1 p q ⊎ Meets (flat S a.0) (any_at S ys) p q in
      least-as mid (IsBlockUpTo S kept whole (xs ++ a ∷ [])) (lesser (with_clashes S a ys (with_clashes S a xs o)) (clash (flat S a.0) (flat S kept.0))) there back
      (least-or H2 (Meets (flat S a.0) (λ q. at (flat S kept.0) q)) (with_clashes S a ys (with_clashes S a xs o)) (clash (flat S a.0) (flat S kept.0))
      (clashes-least S s a h H1 (with_clashes S a xs o) ys t.1.1 (clashes-least S s a h (IsBlockUpTo S kept whole xs) o xs t.0 l))
      (clash-meets S s a h kept hk))

pub no-block : (S : List Object) (k : Name) (ms : List Name) → IsLeast (IsBlockUpTo S k ms []) None
no-block S k ms p q h = true≢false (sym h.path)

pub last-block : (S : List Object) (k : Name) (ms ns : List Name) (o : Option (Path × Path)) → ns ≡ ms → IsLeast (IsBlockUpTo S k ms ns) o → IsLeast (IsBlockIn S k ms) o
last-block S k ms ns o e l =
    least-as (IsBlockUpTo S k ms ns) (IsBlockIn S k ms) o
    (λ p q h. record { path = ap (λ m. is_some (any_at S m p)) (sym e) ∙ h.path; by = h.by; comparable = h.comparable; other = h.other })
    (λ p q h. record { path = ap (λ m. is_some (any_at S m p)) e ∙ h.path; by = h.by; comparable = h.comparable; other = h.other }) l

pub block-more : (S : List Object) → IsStore S → (kept a : Name) (xs ys ms next : List Name) → xs ++ a ∷ ys ≡ ms → next ≡ xs ++ a ∷ [] → has Tree S kept.0 ≡ true → (o r : Option (Path × Path)) →
    r ≡ lesser (with_clashes S a ys (with_clashes S a xs o)) (clash (flat S a.0) (flat S kept.0)) →
    Each (λ n. has Tree S n.0 ≡ true) ms → AreApart S ms → ((p : Path) (x : Leaf) → at (flat S kept.0) p ≡ Some x → any_at S ms p ≡ None) →
    IsLeast (IsBlockUpTo S kept ms xs) o → IsLeast (IsBlockUpTo S kept ms next) r
block-more S s kept a xs ys ms next e f hk o r g =
    subst (λ (ps : List Name). Each (λ n. has Tree S n.0 ≡ true) ps → AreApart S ps → ((p : Path) (x : Leaf) → at (flat S kept.0) p ≡ Some x → any_at S ps p ≡ None) →
    IsLeast (IsBlockUpTo S kept ps xs) o → IsLeast (IsBlockUpTo S kept ps next) r) e
    (λ t p u l.
    subst (λ (v : Option (Path × Path)). IsLeast (IsBlockUpTo S kept (xs ++ a ∷ ys) next) v) (sym g)
    (subst (λ (ns : List Name). IsLeast (IsBlockUpTo S kept (xs ++ a ∷ ys) ns) (lesser (with_clashes S a ys (with_clashes S a xs o)) (clash (flat S a.0) (flat S kept.0)))) (sym f)
    (block-step S s kept a xs ys hk t p u o l)))

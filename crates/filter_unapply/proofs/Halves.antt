-- Parts put together in two halves.
use Rattle.std.proofs.Common.{arith, ℕ, ◌-◌, ◌<◌, length, take, drop, ◌≡◌, ◌⊎◌, inl, inr, true, List, [], ◌∷◌, ◌++◌, Option, Some, None, Result, Ok, Err, refl, sym, ap, subst, ◌∙◌}
use Rattle.std.proofs.lemmas.List.{length-drop, length-take, take-append-drop, take_all}
use Rattle.std.proofs.lemmas.Option.{none-some}
use Rattle.std.specs.Prelude.{is_some, IfOk}
use Rattle.std.specs.Option.{option_or}
use Rattle.git_objects.specs.Lists.{Each}
use Rattle.git_objects.specs.Paths.{Bytes, Path}
use Rattle.git_objects.specs.Trees.{Leaf, Flat, at}
use Rattle.git_objects.specs.declared.kind.Kind.TheVariants.{Tree}
use Rattle.git_objects.specs.declared.name.Name.{Name}
use Rattle.object_store.specs.Growth.{IsGrownBy}
use Rattle.object_store.specs.Objects.{Object, has}
use Rattle.object_store.specs.Unfolding.{flat}
use Rattle.object_store.proofs.Growth.{flat-grown, grown_as, grown_then, has-grown}
use Rattle.filter_unapply.specs.StoredLeaves.{HasLeaves}
use Rattle.filter_unapply.specs.Hands.{IsIn, IsMadeOf}
use Rattle.filter_unapply.specs.Parts.{AreApart, IsNear, IsOfAny, IsPair, IsWhole, any_at}
use Rattle.filter_unapply.specs.declared.fault.LayFault.{LayFault}
use Rattle.filter_unapply.proofs.MadeTrees.{known-as}
use Rattle.filter_unapply.proofs.PartLists.{any-grown, apart-grown, clash-near, each-grown, or-assoc, or-none, or-parts}
use Rattle.filter_unapply.proofs.Somes.{some-of}

first-none : (x y : Option Leaf) → option_or x y ≡ None → x ≡ None
first-none None y e = refl
first-none (Some x) y e = e

second-none : (x y : Option Leaf) → option_or x y ≡ None → y ≡ None
second-none None y e = e
second-none (Some x) y e = absurd (none-some x (sym e))

pub each-first : (P : Name → Type 0) (ms ns : List Name) → Each P (ms ++ ns) → Each P ms
each-first P [] ns h = tt
each-first P (m ∷ ms) ns h = (h.0, each-first P ms ns h.1)

pub each-second : (P : Name → Type 0) (ms ns : List Name) → Each P (ms ++ ns) → Each P ns
each-second P [] ns h = h
each-second P (m ∷ ms) ns h = each-second P ms ns h.1

module _ (S : List Object) where
  any-both : (ms ns : List Name) (p : Path) → any_at S (ms ++ ns) p ≡ option_or (any_at S ms p) (any_at S ns p)
  any-both [] ns p = refl
  any-both (m ∷ ms) ns p = ap (option_or (at (flat S m.0) p)) (any-both ms ns p) ∙ or-assoc (at (flat S m.0) p) (any_at S ms p) (any_at S ns p)

  pub apart-first : (ms ns : List Name) → AreApart S (ms ++ ns) → AreApart S ms
  apart-first [] ns a = tt
  apart-first (m ∷ ms) ns a = (λ p x e. first-none (any_at S ms p) (any_at S ns p) (sym (any-both ms ns p) ∙ a.0 p x e), apart-first ms ns a.1)

  pub apart-second : (ms ns : List Name) → AreApart S (ms ++ ns) → AreApart S ns
  apart-second [] ns a = a
  apart-second (m ∷ ms) ns a = apart-second ms ns a.1

  apart-both : (ms ns : List Name) → AreApart S (ms ++ ns) → (p : Path) (x : Leaf) → any_at S ms p ≡ Some x → any_at S ns p ≡ None
  apart-both [] ns a p x e = absurd (none-some x e)
  apart-both (m ∷ ms) ns a p x e = by (apart-both ms ns a.1 p x) (or-parts (at (flat S m.0) p) (any_at S ms p) x e)
    where
      by : (any_at S ms p ≡ Some x → any_at S ns p ≡ None) → (at (flat S m.0) p ≡ Some x) ⊎ (any_at S ms p ≡ Some x) → any_at S ns p ≡ None
      by f (inl g) = second-none (any_at S ms p) (any_at S ns p) (sym (any-both ms ns p) ∙ a.0 p x g)
      by f (inr g) = f g

  module _ (ms ns : List Name) (apart : AreApart S (ms ++ ns)) where
    pub known-first : (p : Path) (x : Leaf) → IsOfAny S ms p x → IsOfAny S (ms ++ ns) p x
    known-first p x e = any-both ms ns p ∙ ap (λ o. option_or o (any_at S ns p)) e

    pub known-second : (p : Path) (x : Leaf) → IsOfAny S ns p x → IsOfAny S (ms ++ ns) p x
    known-second p x e = any-both ms ns p ∙ by (any_at S ms p) refl
      where
        by : (o : Option Leaf) → any_at S ms p ≡ o → option_or (any_at S ms p) (any_at S ns p) ≡ Some x
        by None k = ap (λ o. option_or o (any_at S ns p)) k ∙ e
        by (Some y) k = absurd (none-some x (sym (apart-both ms ns apart p y k) ∙ e))

    -- two comparable paths of a half are paths of all
    near-as : (l : List Name) → ((p : Path) (x : Leaf) → IsOfAny S l p x → IsOfAny S (ms ++ ns) p x) → (p : Path) × (q : Path) × IsNear S l p q → (p : Path) × (q : Path) × IsNear S (ms ++ ns) p q
    near-as l f (p, q, w) =
        let x = some-of (any_at S l p) w.path in
        let y = some-of (any_at S l q) w.by in
        (p, q, record { path = ap is_some (f p x.0 x.1); by = ap is_some (f q y.0 y.1); comparable = w.comparable; other = w.other })

    pub near-first : (p : Path) × (q : Path) × IsNear S ms p q → (p : Path) × (q : Path) × IsNear S (ms ++ ns) p q
    near-first w = near-as ms known-first w

    pub near-second : (p : Path) × (q : Path) × IsNear S ns p q → (p : Path) × (q : Path) × IsNear S (ms ++ ns) p q
    near-second w = near-as ns known-second w

    -- the trees of both halves
    module _ (a b : Flat) (f : (p : Path) → at a p ≡ any_at S ms p) (g : (p : Path) → at b p ≡ any_at S ns p) where
      pub known-pair : (p : Path) (x : Leaf) → IsIn a p x ⊎ IsIn b p x → IsOfAny S (ms ++ ns) p x
      known-pair p x (inl e) = known-first p x (sym (f p) ∙ e)
      known-pair p x (inr e) = known-second p x (sym (g p) ∙ e)

      pub pair-whole : (R : List Object) (r : Option Name) → IsPair a b R r → IsWhole S (ms ++ ns) R r
      pair-whole R (Some n) h = record { held = h.held; leaves = λ p. h.leaves p ∙ (λ i. option_or (f p i) (g p i)) ∙ sym (any-both ms ns p) }
      pair-whole R None c =
          let r = clash-near a b c in
          let x = some-of (at a r.0) r.2 in
          let y = some-of (at b r.1) r.3 in (
            r.0,
            r.1,
            record {
              path = ap is_some (known-pair r.0 x.0 (inl x.1));
              by = ap is_some (known-pair r.1 y.0 (inr y.1));
              comparable = r.4;
              other = λ i. none-some y.0 (sym (apart-both ms ns apart r.0 x.0 (sym (f r.0) ∙ x.1)) ∙ sym (g r.0) ∙ ap (at b) i ∙ y.1);
            },
          )

-- ---- a list in two halves, of which the second is joined after the first

abbrev Trees : List Object → List Name → Type 0
Trees S ns = Each (λ n. has Tree S n.0 ≡ true) ns

abbrev pub IsOfBothTrees : Flat → Flat → Path → Leaf → Type 0
IsOfBothTrees a b p x = IsIn a p x ⊎ IsIn b p x

module _ (S : List Object) (all ms ns : List Name) (split : ms ++ ns ≡ all) (trees : Trees S all) (apart : AreApart S all) where
  apart-two : AreApart S (ms ++ ns)
  apart-two = subst (AreApart S) (sym split) apart

  trees-second : Trees S ns
  trees-second = each-second (λ n. has Tree S n.0 ≡ true) ms ns (subst (Trees S) (sym split) trees)

  pub half-trees : Trees S ms
  half-trees = each-first (λ n. has Tree S n.0 ≡ true) ms ns (subst (Trees S) (sym split) trees)

  pub half-apart : AreApart S ms
  half-apart = apart-first S ms ns apart-two

  pub half-made : (o : Object) → IsMadeOf (IsOfAny S ms) o → IsMadeOf (IsOfAny S all) o
  half-made = known-as (IsOfAny S ms) (IsOfAny S all) (λ p x e. subst (λ l. IsOfAny S l p x) split (known-first S ms ns apart-two p x e))

  pub half-near : (p : Path) × (q : Path) × IsNear S ms p q → (p : Path) × (q : Path) × IsNear S all p q
  half-near w = subst (λ l. (p : Path) × (q : Path) × IsNear S l p q) split (near-first S ms ns apart-two w)

  pub half-grown : (T : List Object) → IsGrownBy (IsMadeOf (IsOfAny S ms)) S T → IsGrownBy (IsMadeOf (IsOfAny S all)) S T
  half-grown T g = grown_as (IsMadeOf (IsOfAny S ms)) (IsMadeOf (IsOfAny S all)) S T half-made g

  module _ (T : List Object) (g : IsGrownBy (IsMadeOf (IsOfAny S ms)) S T) where
    later-any : (p : Path) → any_at T ns p ≡ any_at S ns p
    later-any = any-grown S T g ns trees-second

    pub later-trees : Trees T ns
    later-trees = each-grown S T g ns trees-second

    pub later-apart : AreApart T ns
    later-apart = apart-grown S T g ns trees-second (apart-second S ms ns apart-two)

    pub later-made : (o : Object) → IsMadeOf (IsOfAny T ns) o → IsMadeOf (IsOfAny S all) o
    later-made = known-as (IsOfAny T ns) (IsOfAny S all) (λ p x e. subst (λ l. IsOfAny S l p x) split (known-second S ms ns apart-two p x (sym (later-any p) ∙ e)))

    pub later-near : (p : Path) × (q : Path) × IsNear T ns p q → (p : Path) × (q : Path) × IsNear S all p q
    later-near (p, q, w) =
        subst (λ l. (p : Path) × (q : Path) × IsNear S l p q) split
        (near-second S ms ns apart-two
        (p, q, record { path = ap is_some (sym (later-any p)) ∙ w.path; by = ap is_some (sym (later-any q)) ∙ w.by; comparable = w.comparable; other = w.other }))

    module _ (R : List Object) (k : IsGrownBy (IsMadeOf (IsOfAny T ns)) T R) where
      pub later-grown : IsGrownBy (IsMadeOf (IsOfAny S all)) S R
      later-grown = grown_then (IsMadeOf (IsOfAny S all)) S T R (half-grown T g) (grown_as (IsMadeOf (IsOfAny T ns)) (IsMadeOf (IsOfAny S all)) T R later-made k)

      -- the trees of both are put together
      module _ (a b : Bytes) (h : HasLeaves T a (any_at S ms)) (l : HasLeaves R b (any_at T ns)) where
        first-leaves : (p : Path) → at (flat R a) p ≡ any_at S ms p
        first-leaves p = ap (λ (u : Flat). at u p) (flat-grown T R a k h.held) ∙ h.leaves p

        second-leaves : (p : Path) → at (flat R b) p ≡ any_at S ns p
        second-leaves p = l.leaves p ∙ later-any p

        pub first-held : has Tree R a ≡ true
        first-held = has-grown T R Tree a k h.held

        pub both-made : (o : Object) → IsMadeOf (IsOfBothTrees (flat R a) (flat R b)) o → IsMadeOf (IsOfAny S all) o
        both-made = known-as (IsOfBothTrees (flat R a) (flat R b)) (IsOfAny S all)
            (λ p x e. subst (λ l. IsOfAny S l p x) split (known-pair S ms ns apart-two (flat R a) (flat R b) first-leaves second-leaves p x e))

        pub both-whole : (Q : List Object) (r : Result (Option Name) LayFault) → IfOk r (IsPair (flat R a) (flat R b) Q) → IfOk r (IsWhole S all Q)
        both-whole Q (Ok r) e = subst (λ l. IsWhole S l Q r) split (pair-whole S ms ns apart-two (flat R a) (flat R b) first-leaves second-leaves Q r e)
        both-whole Q (Err f) e = tt

        pub both-grown : (Q : List Object) → IsGrownBy (IsMadeOf (IsOfBothTrees (flat R a) (flat R b))) R Q → IsGrownBy (IsMadeOf (IsOfAny S all)) S Q
        both-grown Q e = grown_then (IsMadeOf (IsOfAny S all)) S R Q later-grown (grown_as (IsMadeOf (IsOfBothTrees (flat R a) (flat R b))) (IsMadeOf (IsOfAny S all)) R Q both-made e)

-- ---- a single tree

pub alone-leaves : (S : List Object) (n : Name) → has Tree S n.0 ≡ true → HasLeaves S n.0 (any_at S (n ∷ []))
alone-leaves S n h = record { held = h; leaves = λ p. sym (or-none (at (flat S n.0) p)) }

pub one-leaves : (S : List Object) (ns : List Name) (n : Name) → ns ≡ n ∷ [] → has Tree S n.0 ≡ true → HasLeaves S n.0 (any_at S ns)
one-leaves S ns n e h = subst (λ l. HasLeaves S n.0 (any_at S l)) (sym e) (alone-leaves S n h)

-- ---- answers by cases

pub some-whole : (S : List Object) (ns : List Name) (R : List Object) (o : Option Name) (n : Name) → o ≡ Some n → IsWhole S ns R o → HasLeaves R n.0 (any_at S ns)
some-whole S ns R o n e h = subst (IsWhole S ns R) e h

pub none-whole : (S : List Object) (ns : List Name) (R : List Object) (o : Option Name) → o ≡ None → IsWhole S ns R o → (p : Path) × (q : Path) × IsNear S ns p q
none-whole S ns R o e h = subst (IsWhole S ns R) e h

-- ---- a list at a place in it

pub record Halved (all : List Name) (m : ℕ) : Type 0 where
  pub split : take m all ++ take (length all - m) (drop m all) ≡ all
  pub some : 0 < length (take m all)
  pub less : length (take m all) < length all
  pub some-second : 0 < length (take (length all - m) (drop m all))
  pub less-second : length (take (length all - m) (drop m all)) < length all

pub halved : (all : List Name) (m : ℕ) → 0 < m → m < length all → Halved all m
halved all m l k =
    let whole : take (length all - m) (drop m all) ≡ drop m all = take_all (length all - m) (drop m all) (omega (arith, length-drop m all)) in
    let first : length (take m all) ≡ m = length-take m all ∙ omega arith in
    let second : length (take (length all - m) (drop m all)) ≡ length all - m = ap length whole ∙ length-drop m all in
    record {
      split = ap (λ (r : List Name). take m all ++ r) whole ∙ take-append-drop m all;
      some = omega arith;
      less = omega arith;
      some-second = omega arith;
      less-second = omega arith;
    }

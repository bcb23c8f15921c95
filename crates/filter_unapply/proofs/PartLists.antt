-- Lists of trees without a path in common.
use Rattle.std.proofs.Common.{◌≡◌, ◌⊎◌, inl, inr, ℕ, ◌+◌, ◌<◌, Bool, true, false, cond, List, [], ◌∷◌, ◌++◌, take, length, Option, Some, None, refl, sym, ap, subst, ◌∙◌, true≢false}
use Rattle.std.proofs.lemmas.Option.{none-some}
use Rattle.std.specs.Prelude.{is_some}
use Rattle.std.specs.Option.{option_and_then, option_map, option_or}
use Rattle.git_objects.specs.Lists.{Each}
use Rattle.git_objects.specs.Paths.{Bytes, Path, comparable, same_path}
use Rattle.git_objects.specs.Trees.{Leaf, Flat, IsTree, at}
use Rattle.git_objects.specs.declared.kind.Kind.TheVariants.{Tree}
use Rattle.git_objects.specs.declared.name.Name.{Name}
use Rattle.git_objects.proofs.Order.{path_decides}
use Rattle.object_store.specs.Growth.{IsGrownBy}
use Rattle.object_store.specs.Objects.{Object, has}
use Rattle.object_store.specs.Unfolding.{flat, StandsFor}
use Rattle.object_store.proofs.Growth.{flat-grown, has-grown}
use Rattle.path_trees.specs.Clashes.{IsShared, clash, first_comparable, together}
use Rattle.path_trees.proofs.Together.{together_law}
use Rattle.decision_lists.specs.Backward.{route_cells}
use Rattle.decision_lists.specs.Cells.{cells}
use Rattle.decision_lists.specs.Entries.{Entry}
use Rattle.filter_unapply.specs.StoredLeaves.{HasLeaves}
use Rattle.filter_unapply.specs.Hands.{IsIn, IsMadeOf}
use Rattle.filter_unapply.specs.Parts.{AreApart, AreParts, IsAdded, any_at}
use Rattle.filter_unapply.specs.Routed.{IsTakenOrIn, forward, taken}
use Rattle.filter_unapply.proofs.Cellwise.{forward-whole, route-alone, taken-more}
use Rattle.filter_unapply.proofs.MadeTrees.{directory-made}

-- ---- options

pub or-assoc : {A : Type 0} (x y z : Option A) → option_or x (option_or y z) ≡ option_or (option_or x y) z
or-assoc None y z = refl
or-assoc (Some x) y z = refl

pub or-none : {A : Type 0} (x : Option A) → option_or x None ≡ x
or-none None = refl
or-none (Some x) = refl

pub or-parts : {A : Type 0} (x y : Option A) (z : A) → option_or x y ≡ Some z → (x ≡ Some z) ⊎ (y ≡ Some z)
or-parts None y z e = inr e
or-parts (Some x) y z e = inl e

-- ---- one more tree

pub any-app : (S : List Object) (ns : List Name) (m : Name) (p : Path) → any_at S (ns ++ m ∷ []) p ≡ option_or (any_at S ns p) (at (flat S m.0) p)
any-app S [] m p = or-none (at (flat S m.0) p)
any-app S (n ∷ ns) m p = ap (option_or (at (flat S n.0) p)) (any-app S ns m p) ∙ or-assoc (at (flat S n.0) p) (any_at S ns p) (at (flat S m.0) p)

none-of : {A : Type 0} (o : Option A) → ((x : A) → o ≡ Some x → ⊥) → o ≡ None
none-of None f = refl
none-of (Some x) f = absurd (f x refl)

pub apart-app : (S : List Object) (ns : List Name) (m : Name) → AreApart S ns → ((p : Path) (x : Leaf) → at (flat S m.0) p ≡ Some x → any_at S ns p ≡ None) → AreApart S (ns ++ m ∷ [])
apart-app S [] m a f = (λ p x e. refl, tt)
apart-app S (n ∷ ns) m a f = (
  λ p x e.
      any-app S ns m p ∙ ap (λ o. option_or o (at (flat S m.0) p)) (a.0 p x e)
      ∙ none-of (at (flat S m.0) p) (λ y i. none-some x (sym (f p y i) ∙ ap (λ o. option_or o (any_at S ns p)) e)),
  apart-app S ns m a.1 (λ p x e. later (at (flat S n.0) p) (any_at S ns p) (f p x e)),
)
  where
    later : (x y : Option Leaf) → option_or x y ≡ None → y ≡ None
    later None y e = e
    later (Some x) y e = absurd (none-some x (sym e))

pub each-app : (P : Name → Type 0) (ns : List Name) (m : Name) → Each P ns → P m → Each P (ns ++ m ∷ [])
each-app P [] m h g = (g, tt)
each-app P (n ∷ ns) m h g = (h.0, each-app P ns m h.1 g)

-- ---- a store that has grown

module _ {made : Object → Type 0} (S T : List Object) (g : IsGrownBy made S T) where
  pub each-grown : (ns : List Name) → Each (λ n. has Tree S n.0 ≡ true) ns → Each (λ n. has Tree T n.0 ≡ true) ns
  each-grown [] h = tt
  each-grown (n ∷ ns) h = (has-grown S T Tree n.0 g h.0, each-grown ns h.1)

  pub any-grown : (ns : List Name) → Each (λ n. has Tree S n.0 ≡ true) ns → (p : Path) → any_at T ns p ≡ any_at S ns p
  any-grown [] h p = refl
  any-grown (n ∷ ns) h p = (λ i. option_or (at (flat-grown S T n.0 g h.0 i) p) (any-grown ns h.1 p i))

  pub apart-grown : (ns : List Name) → Each (λ n. has Tree S n.0 ≡ true) ns → AreApart S ns → AreApart T ns
  apart-grown [] h a = tt
  apart-grown (n ∷ ns) h a =
      (λ p x e. any-grown ns h.1 p ∙ a.0 p x (ap (λ (u : Flat). at u p) (sym (flat-grown S T n.0 g h.0)) ∙ e), apart-grown ns h.1 a.1)

  pub parts-grown : (ns : List Name) (o : Path → Option Leaf) → AreParts S ns o → AreParts T ns o
  parts-grown ns o a = record { trees = each-grown ns a.trees; apart = apart-grown ns a.trees a.apart; leaves = λ p. any-grown ns a.trees p ∙ a.leaves p }

-- ---- the part of one route more

pub parts-more : {made : Object → Type 0} (S T : List Object) → IsGrownBy made S T → (es : List Entry) (i : ℕ) → i < length es → (n : Flat) (ns : List Name) (m : Name) →
    AreParts S ns (taken (cells [] (take i es)) n) → HasLeaves T m.0 (taken (route_cells es i) n) → AreParts T (ns ++ m ∷ []) (taken (cells [] (take (i + 1) es)) n)
parts-more S T g es i l n ns m a h =
    let b = parts-grown S T g ns (taken (cells [] (take i es)) n) a in
    record {
      trees = each-app (λ k. has Tree T k.0 ≡ true) ns m b.trees h.held;
      apart = apart-app T ns m b.apart (λ p x e. b.leaves p ∙ alone p (forward (route_cells es i) p) refl x (sym (h.leaves p) ∙ e));
      leaves = λ p. any-app T ns m p ∙ (λ j. option_or (b.leaves p j) (h.leaves p j)) ∙ sym (taken-more es i n p l);
    }
  where
    alone : (p : Path) (o : Option Path) → forward (route_cells es i) p ≡ o → (x : Leaf) → taken (route_cells es i) n p ≡ Some x → taken (cells [] (take i es)) n p ≡ None
    alone p None k x e = absurd (none-some x (sym (ap (option_and_then (at n)) k) ∙ e))
    alone p (Some q) k x e = ap (option_and_then (at n)) (route-alone es i p q k)

-- a part that is the empty tree may be left out
pub parts-added : {made : Object → Type 0} (S T : List Object) → IsGrownBy made S T → (es : List Entry) (i : ℕ) → i < length es → (n : Flat) (ns : List Name) (m none : Name) → StandsFor T none.0 [] →
    AreParts S ns (taken (cells [] (take i es)) n) → HasLeaves T m.0 (taken (route_cells es i) n) → (after : List Name) → IsAdded none m ns after → AreParts T after (taken (cells [] (take (i + 1) es)) n)
parts-added S T g es i l n ns m none e a h after (inl k) = subst (λ v. AreParts T v (taken (cells [] (take (i + 1) es)) n)) (sym k) (parts-more S T g es i l n ns m a h)
parts-added S T g es i l n ns m none e a h after (inr k) =
    let b = parts-grown S T g ns (taken (cells [] (take i es)) n) a in
    subst (λ v. AreParts T v (taken (cells [] (take (i + 1) es)) n)) (sym k.1)
    (record { trees = b.trees; apart = b.apart; leaves = λ p. b.leaves p ∙ sym (or-none (taken (cells [] (take i es)) n p)) ∙ ap (option_or (taken (cells [] (take i es)) n p)) (nothing p) ∙ sym (taken-more es i n p l) })
  where
    nothing : (p : Path) → None ≡ taken (route_cells es i) n p
    nothing p = ap (λ (u : Flat). at u p) (sym e.map ∙ ap (flat T) (sym k.0)) ∙ h.leaves p

-- ---- two trees put together

module _ (a b : Flat) (h : IsTree a) (g : IsTree b) (c : clash a b ≡ None) where
  pub shared-made : (o : Object) → o.kind ≡ Tree → IsShared a b o.body → IsMadeOf (λ p x. IsIn a p x ⊎ IsIn b p x) o
  shared-made o k w =
      let t = together_law a b h g c in
      directory-made (λ p x. IsIn a p x ⊎ IsIn b p x) (together a b) t.tree (λ p x e. or-parts (at a p) (at b p) x (sym (t.leaves p) ∙ e)) w.above o k w.body

  pub pair-leaves : (S : List Object) (n : Bytes) → StandsFor S n (together a b) → HasLeaves S n (λ p. option_or (at a p) (at b p))
  pair-leaves S n s = record { held = s.held; leaves = λ p. ap (λ (u : Flat). at u p) s.map ∙ (together_law a b h g c).leaves p }

-- a clash is of two comparable paths
first-near : (p : Path) (b : Flat) → is_some (first_comparable p b) ≡ true → (q : Path) × (is_some (at b q) ≡ true) × (comparable p q ≡ true)
first-near p [] e = absurd (true≢false (sym e))
first-near p (d ∷ b) e = by (comparable p d.0) refl (λ k. first-near p b k) e
  where
    own : (q : Path) → same_path q q ≡ true
    own q = (path_decides q q).1 refl

    deeper : (q : Path) → is_some (at b q) ≡ true → is_some (at (d ∷ b) q) ≡ true
    deeper q k = more (same_path q d.0)
      where
        more : (v : Bool) → is_some (cond v (Some d.1) (at b q)) ≡ true
        more true = refl
        more false = k

    by : (v : Bool) → comparable p d.0 ≡ v → (is_some (first_comparable p b) ≡ true → (q : Path) × (is_some (at b q) ≡ true) × (comparable p q ≡ true)) →
        is_some (cond v (Some d.0) (first_comparable p b)) ≡ true → (q : Path) × (is_some (at (d ∷ b) q) ≡ true) × (comparable p q ≡ true)
    by true k later g = (d.0, ap (λ v. is_some (cond v (Some d.1) (at b d.0))) (own d.0), k)
    by false k later g = let r = later g in (r.0, deeper r.0 r.1, r.2)

pub clash-near : (a b : Flat) → is_some (clash a b) ≡ true → (p : Path) × (q : Path) × (is_some (at a p) ≡ true) × (is_some (at b q) ≡ true) × (comparable p q ≡ true)
clash-near [] b e = absurd (true≢false (sym e))
clash-near (d ∷ a) b e = by (first_comparable d.0 b) refl (λ k. clash-near a b k) e
  where
    here : is_some (at (d ∷ a) d.0) ≡ true
    here = ap (λ v. is_some (cond v (Some d.1) (at a d.0))) ((path_decides d.0 d.0).1 refl)

    deeper : (q : Path) → is_some (at a q) ≡ true → is_some (at (d ∷ a) q) ≡ true
    deeper q k = more (same_path q d.0)
      where
        more : (v : Bool) → is_some (cond v (Some d.1) (at a q)) ≡ true
        more true = refl
        more false = k

    by : (o : Option Path) → first_comparable d.0 b ≡ o → (is_some (clash a b) ≡ true → (p : Path) × (q : Path) × (is_some (at a p) ≡ true) × (is_some (at b q) ≡ true) × (comparable p q ≡ true)) →
        is_some (option_or (option_map {U = Path × Path} (λ q. (d.0, q)) o) (clash a b)) ≡ true → (p : Path) × (q : Path) × (is_some (at (d ∷ a) p) ≡ true) × (is_some (at b q) ≡ true) × (comparable p q ≡ true)
    by None k later g = let r = later g in (r.0, r.1, deeper r.0 r.2, r.3, r.4)
    by (Some q) k later g = let r = first-near d.0 b (ap is_some k) in (d.0, r.0, here, r.1, r.2)

pub none-clash : (o : Option (Path × Path)) (a b : Flat) → o ≡ clash a b → false ≡ is_some o → clash a b ≡ None
none-clash None a b e f = sym e
none-clash (Some x) a b e f = absurd (true≢false (sym f))

-- ---- taken by one route, so by all

pub taken-whole : (es : List Entry) (i : ℕ) (n : Flat) → i < length es → (p : Path) (x : Leaf) → IsTakenOrIn (route_cells es i) n p x → IsTakenOrIn (cells [] es) n p x
taken-whole es i n l p x (inl e) = inl e
taken-whole es i n l p x (inr e) = inr (by (forward (route_cells es i) p) refl)
  where
    by : (o : Option Path) → forward (route_cells es i) p ≡ o → taken (cells [] es) n p ≡ Some x
    by None k = absurd (none-some x (sym (ap (option_and_then (at n)) k) ∙ e))
    by (Some q) k = ap (option_and_then (at n)) (forward-whole es i p q l k ∙ sym k) ∙ e

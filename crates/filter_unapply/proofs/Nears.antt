-- Two comparable paths of a tree and parts are a block, one way or the other.
use Rattle.std.proofs.Common.{◌≡◌, ◌⊎◌, inl, inr, Bool, true, false, ◌||◌, List, [], ◌∷◌, Option, Some, None, Result, Ok, Err, refl, sym, ap, subst, ◌∙◌, true≢false}
use Rattle.std.specs.Prelude.{IfErr, IfOk, is_some}
use Rattle.std.specs.Option.{option_or}
use Rattle.git_objects.specs.Lists.{Each}
use Rattle.git_objects.specs.Paths.{Path, is_path, is_prefix}
use Rattle.git_objects.specs.Trees.{Leaf, Flat, at}
use Rattle.git_objects.specs.declared.kind.Kind.TheVariants.{Tree}
use Rattle.git_objects.specs.declared.name.Name.{Name}
use Rattle.git_objects.proofs.Pointwise.{all_at, at_apart, from-T}
use Rattle.object_store.specs.Growth.{IsGrownBy}
use Rattle.object_store.specs.Objects.{Object, IsStore, has}
use Rattle.object_store.specs.Unfolding.{flat}
use Rattle.object_store.proofs.Growth.{clash_as, flat-grown}
use Rattle.filter_unapply.specs.Blocks.{IsLeast}
use Rattle.filter_unapply.specs.Hands.{IsFaultBy, IsMadeOf, IsPutFault}
use Rattle.filter_unapply.specs.Laying.{Laid, Blocked, LaidTree}
use Rattle.filter_unapply.specs.Parts.{IsAmong, IsBlockIn, IsNear, IsWhole, any_at, with_parts}
use Rattle.filter_unapply.specs.Stored.{IsLaidTree}
use Rattle.filter_unapply.specs.StoredLeaves.{HasLeaves}
use Rattle.filter_unapply.specs.declared.fault.LayFault.{LayFault}
use Rattle.filter_unapply.specs.declared.fault.LayFault.TheVariants.{NotHeld as NotHeldFault, Blocked as BlockedFault, Collision, OutOfMemory}
use Rattle.filter_unapply.proofs.Leasts.{least-as}
use Rattle.filter_unapply.proofs.PartLists.{any-grown}
use Rattle.filter_unapply.proofs.Told.{is_tree}
use Rattle.filter_unapply.proofs.Somes.{some-of, some-or}

swap : (a b : Bool) → (b || a) ≡ (a || b)
swap true true = refl
swap true false = refl
swap false true = refl
swap false false = refl

pub near-block : (S : List Object) → IsStore S → (k : Name) (ns : List Name) → has Tree S k.0 ≡ true → (p : Path) × (q : Path) × IsNear S (k ∷ ns) p q → IsLeast (IsBlockIn S k ns) None → ⊥
near-block S s k ns h (p, q, w) none = by (some-or (at (flat S k.0) p) (any_at S ns p) w.path) (some-or (at (flat S k.0) q) (any_at S ns q) w.by)
  where
    by : (is_some (at (flat S k.0) p) ≡ true) ⊎ (is_some (any_at S ns p) ≡ true) → (is_some (at (flat S k.0) q) ≡ true) ⊎ (is_some (any_at S ns q) ≡ true) → ⊥
    by (inr e) g = none p q (record { path = e; by = w.by; comparable = w.comparable; other = w.other })
    by (inl e) (inr g) = none q p (record { path = g; by = w.path; comparable = swap (is_prefix p q) (is_prefix q p) ∙ w.comparable; other = λ i. w.other (sym i) })
    by (inl e) (inl g) =
        let x = some-of (at (flat S k.0) p) e in
        let y = some-of (at (flat S k.0) q) g in
        w.other (at_apart (flat S k.0) (is_tree S s k.0 h).apart p q x.0 y.0 x.1 y.1 w.comparable)

-- the answer that isn't a tree
pub joined-none : (S : List Object) (k : Name) (ns : List Name) (R : List Object) (o : Option Name) → ((n : Name) → o ≡ Some n → ⊥) → IsWhole S (k ∷ ns) R o → (p : Path) × (q : Path) × IsNear S (k ∷ ns) p q
joined-none S k ns R None f h = h
joined-none S k ns R (Some n) f h = absurd (f n refl)

-- the same blocks in a store that has grown
pub block-grown : {made : Object → Type 0} (S R : List Object) → IsGrownBy made S R → (k : Name) (ns : List Name) → has Tree S k.0 ≡ true → Each (λ n. has Tree S n.0 ≡ true) ns → (o : Option (Path × Path)) →
    IsLeast (IsBlockIn R k ns) o → IsLeast (IsBlockIn S k ns) o
block-grown S R g k ns h t o l =
    least-as (IsBlockIn R k ns) (IsBlockIn S k ns) o
    (λ p q b. record { path = ap is_some (sym (any-grown S R g ns t p)) ∙ b.path; by = ap is_some (sym (all q)) ∙ b.by; comparable = b.comparable; other = b.other })
    (λ p q b. record { path = ap is_some (any-grown S R g ns t p) ∙ b.path; by = ap is_some (all q) ∙ b.by; comparable = b.comparable; other = b.other }) l
  where
    all : (p : Path) → with_parts R k ns p ≡ with_parts S k ns p
    all p = (λ i. option_or (at (flat-grown S R k.0 g h i) p) (any-grown S R g ns t p i))

-- ---- paths

any-path : (S : List Object) → IsStore S → (ns : List Name) → Each (λ n. has Tree S n.0 ≡ true) ns → (p : Path) → is_some (any_at S ns p) ≡ true → is_path p ≡ true
any-path S s [] t p e = absurd (true≢false (sym e))
any-path S s (n ∷ ns) t p e = by (some-or (at (flat S n.0) p) (any_at S ns p) e) (λ g. any-path S s ns t.1 p g)
  where
    by : (is_some (at (flat S n.0) p) ≡ true) ⊎ (is_some (any_at S ns p) ≡ true) → (is_some (any_at S ns p) ≡ true → is_path p ≡ true) → is_path p ≡ true
    by (inl g) later = let x = some-of (at (flat S n.0) p) g in from-T (is_path p) (all_at is_path (flat S n.0) p x.0 (is_tree S s n.0 t.0).paths x.1)
    by (inr g) later = later g

pub parts-path : (S : List Object) → IsStore S → (k : Name) (ns : List Name) → has Tree S k.0 ≡ true → Each (λ n. has Tree S n.0 ≡ true) ns → (p : Path) → is_some (with_parts S k ns p) ≡ true → is_path p ≡ true
parts-path S s k ns h t p e = any-path S s (k ∷ ns) (h, t) p e

pub block-path : (S : List Object) → IsStore S → (ns : List Name) → Each (λ n. has Tree S n.0 ≡ true) ns → (p : Path) → is_some (any_at S ns p) ≡ true → is_path p ≡ true
block-path S s ns t p e = any-path S s ns t p e

-- ---- answers

pub put-told : (l : Laid) (S : List Object) (k : Name) (ns : List Name) (more : Object → Type 0) → ((o : Object) → IsMadeOf (IsAmong S k ns) o → more o) → ((p q : Path) → IsLeast (IsBlockIn S k ns) (Some (p, q)) → l ≡ Blocked p q) →
    (R : List Object) (r : Result Name LayFault) → IfErr r (IsPutFault S k ns R) → IfErr r (IsFaultBy l more R)
put-told l S k ns more f g R (Ok n) h = tt
put-told l S k ns more f g R (Err (NotHeldFault q)) h = absurd h
put-told l S k ns more f g R (Err (BlockedFault p q)) h = g p q h
put-told l S k ns more f g R (Err (Collision n)) h = clash_as (IsMadeOf (IsAmong S k ns)) more R n.0 f h
put-told l S k ns more f g R (Err OutOfMemory) h = h

pub tree-told : (l : Laid) (u : Flat) (R : List Object) (r : Result Name LayFault) (o : Path → Option Leaf) → ((n : Name) → HasLeaves R n.0 o → (l ≡ LaidTree u) × (flat R n.0 ≡ u)) → IfOk r (λ n. HasLeaves R n.0 o) → IfOk r (IsLaidTree R l)
tree-told l u R (Err e) o f h = tt
tree-told l u R (Ok n) o f h = let g = f n h in subst (λ k. IsLaidTree R k n) (sym g.0) (record { held = h.held; map = g.1 })

pub nothing-some : {A : Type 0} (o : Option A) → ((x : A) → o ≡ Some x → ⊥) → None ≡ o
nothing-some None f = refl
nothing-some (Some x) f = absurd (f x refl)

-- Trees that calls make, as objects of a hand.
use Rattle.std.proofs.Common.{◌≡◌, true, List, Some, Result, Ok, Err, sym, ap, subst, ◌∙◌}
use Rattle.std.specs.Prelude.{IfErr}
use Rattle.std.specs.Result.{IsErrAnd}
use Rattle.git_objects.specs.Paths.{Bytes, Path, is_path}
use Rattle.git_objects.proofs.Pointwise.{all_at, from-T}
use Rattle.filter_unapply.specs.Laying.{Laid}
use Rattle.git_objects.specs.Trees.{Leaf, Flat, IsTree, at, under}
use Rattle.git_objects.specs.Names.{body}
use Rattle.git_objects.specs.declared.kind.Kind.TheVariants.{Tree}
use Rattle.object_store.specs.Objects.{Object}
use Rattle.object_store.proofs.Growth.{clash_as}
use Rattle.path_trees.specs.Made.{IsOnWay, IsTreeFault}
use Rattle.path_trees.proofs.MadeObjects.{clash-by}
use Rattle.path_trees.specs.declared.found.TreeFault.{TreeFault}
use Rattle.path_trees.specs.declared.found.TreeFault.TheVariants.{Collision as TreeCollision, OutOfMemory as TreeOutOfMemory}
use Rattle.filter_unapply.specs.Hands.{IsFaultBy, IsFaultOf, IsMadeOf}
use Rattle.filter_unapply.specs.Stored.{fault_of}
use Rattle.filter_unapply.specs.declared.fault.LayFault.{LayFault}
use Rattle.filter_unapply.specs.declared.fault.LayFault.TheVariants.{NotHeld, Blocked, Collision, OutOfMemory}

-- ---- trees of some bodies

module _ (made : Bytes → Type 0) (more : Object → Type 0) (f : (o : Object) → o.kind ≡ Tree → made o.body → more o) where
  pub fault-by : (S : List Object) (e : TreeFault) → IsTreeFault made S e → IsFaultOf more S (fault_of e)
  fault-by S (TreeCollision n) h = clash-by made more f S n.0 h
  fault-by S TreeOutOfMemory h = tt

  pub err-by : {A : Type 0} (S : List Object) (r : Result A LayFault) (e : TreeFault) → IsErrAnd r (λ x. x ≡ fault_of e) → IsTreeFault made S e → IfErr r (IsFaultOf more S)
  err-by S (Ok n) e f h = tt
  err-by S (Err x) e f h = subst (IsFaultOf more S) (sym f) (fault-by S e h)

-- ---- a wider hand

module _ (made more : Object → Type 0) (f : (o : Object) → made o → more o) where
  pub fault-as : (S : List Object) (e : LayFault) → IsFaultOf made S e → IsFaultOf more S e
  fault-as S (NotHeld q) h = h
  fault-as S (Blocked p q) h = h
  fault-as S (Collision n) h = clash_as made more S n.0 f h
  fault-as S OutOfMemory h = h

  pub err-as : {A : Type 0} (S : List Object) (r : Result A LayFault) → IfErr r (IsFaultOf made S) → IfErr r (IsFaultOf more S)
  err-as S (Ok n) h = tt
  err-as S (Err e) h = fault-as S e h

pub known-as : (known more : Path → Leaf → Type 0) → ((p : Path) (x : Leaf) → known p x → more p x) → (o : Object) → IsMadeOf known o → IsMadeOf more o
known-as known more f o h = record { tree = h.tree; above = h.above; is_tree = h.is_tree; all_known = λ p x e. f p x (h.all_known p x e); is_object = h.is_object }

-- each path of a tree is a path
pub path-known : (known more : Path → Leaf → Type 0) → ((p : Path) (x : Leaf) → is_path p ≡ true → known p x → more p x) → (o : Object) → IsMadeOf known o → IsMadeOf more o
path-known known more f o h = record {
  tree = h.tree;
  above = h.above;
  is_tree = h.is_tree;
  all_known = λ p x e. f p x (from-T (is_path p) (all_at is_path h.tree p x h.is_tree.paths e)) (h.all_known p x e);
  is_object = h.is_object;
}

-- a fault of a hand tells a collision with an object of it
pub fault-told : (l : Laid) (made more : Object → Type 0) → ((o : Object) → made o → more o) → (S : List Object) (e : LayFault) → IsFaultOf made S e → IsFaultBy l more S e
fault-told l made more f S (NotHeld q) h = absurd h
fault-told l made more f S (Blocked p q) h = absurd h
fault-told l made more f S (Collision n) h = clash_as made more S n.0 f h
fault-told l made more f S OutOfMemory h = h

pub err-told : {A : Type 0} (l : Laid) (made more : Object → Type 0) → ((o : Object) → made o → more o) → (S : List Object) (r : Result A LayFault) (e : LayFault) → IsErrAnd r (λ x. x ≡ e) → IsFaultOf made S e → IfErr r (IsFaultBy l more S)
err-told l made more f S (Ok n) e g h = tt
err-told l made more f S (Err x) e g h = fault-told l made more f S x (subst (IsFaultOf made S) (sym g) h)

-- ---- directories on the way to a path

module _ (known : Path → Leaf → Type 0) (t : Flat) (g : IsTree t) (h : (p : Path) (x : Leaf) → at t p ≡ Some x → known p x) where
  pub directory-made : (above : Path) (o : Object) → o.kind ≡ Tree → body (under t above) ≡ o.body → IsMadeOf known o
  directory-made above o k e = record { tree = t; above = above; is_tree = g; all_known = h; is_object = λ i. record { kind = k i; body = sym e i } }

  pub way-made : (p : Path) (o : Object) → o.kind ≡ Tree → IsOnWay t p o.body → IsMadeOf known o
  way-made p o k w = directory-made w.above o k w.body

-- ---- a fault that is handed on

pub err-again : {A : Type 0} (made more : Object → Type 0) → ((o : Object) → made o → more o) → (S : List Object) (r : Result A LayFault) (e : LayFault) → IsErrAnd r (λ x. x ≡ e) → IsFaultOf made S e → IfErr r (IsFaultOf more S)
err-again made more f S (Ok n) e g h = tt
err-again made more f S (Err x) e g h = fault-as made more f S x (subst (IsFaultOf made S) (sym g) h)

-- a tree is known by its leaves, whatever store it is read from
pub same-known : (t u : Flat) → t ≡ u → (o : Object) → IsMadeOf (λ p x. at t p ≡ Some x) o → IsMadeOf (λ p x. at u p ≡ Some x) o
same-known t u e = known-as (λ p x. at t p ≡ Some x) (λ p x. at u p ≡ Some x) (λ p x i. ap (λ (v : Flat). at v p) (sym e) ∙ i)

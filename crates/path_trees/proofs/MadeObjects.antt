-- Trees that calls make, as objects that are made by any rule.
use Rattle.std.proofs.Common.{◌≡◌, zero, suc, arith, true, false, cond, List, [], ◌∷◌, ◌++◌, Option, Some, None, Contains, refl, subst}
use Rattle.git_objects.specs.Paths.{Bytes}
use Rattle.git_objects.specs.Names.{name}
use Rattle.git_objects.specs.declared.kind.Kind.TheVariants.{Tree}
use Rattle.object_store.specs.Objects.{Object, IsStore, find_named}
use Rattle.object_store.specs.Puts.{Collides, collision, same_object}
use Rattle.object_store.specs.Growth.{IsGrownBy, IsClash}
use Rattle.path_trees.specs.Made.{AreMade, IsGrown, IsCollision}

all_made : (made : Bytes → Type 0) (os : List Object) (o : Object) → AreMade made os → Contains os o → (o.kind ≡ Tree) × made o.body
all_made made [] o h m = absurd (omega (arith, m.1))
all_made made (x ∷ os) o h (zero, l, e) = subst (λ (y : Object). (y.kind ≡ Tree) × made y.body) e (h.0, h.1)
all_made made (x ∷ os) o h (suc i, l, e) = all_made made os o h.2 (i, omega (arith, l), e)

-- a collision is told by the object's own name
collides_at : (b n : Bytes) (o : Option Object) → collision Tree b o ≡ Some (Collides n) → name Tree b ≡ n
collides_at b n None e = cc
collides_at b n (Some x) e =
    elim (same_object Tree b x) as (λ t. cond t None (Some (Collides (name Tree b))) ≡ Some (Collides n) → name Tree b ≡ n) [ true ↦ λ g. cc | false ↦ λ g. cc ] e

clash_name : (R : List Object) (n b : Bytes) → collision Tree b (find_named R (name Tree b)) ≡ Some (Collides n) → collision Tree b (find_named R n) ≡ Some (Collides n)
clash_name R n b e = subst (λ (m : Bytes). collision Tree b (find_named R m) ≡ Some (Collides n)) (collides_at b n (find_named R (name Tree b)) e) e

module _ (made : Bytes → Type 0) (more : Object → Type 0) (f : (o : Object) → o.kind ≡ Tree → made o.body → more o) where
  pub grown-by : (S T : List Object) → IsGrown made S T → IsGrownBy more S T
  grown-by S T g = record {
    store = g.store;
    newer = g.newer;
    above = g.above;
    all = λ o m. let h = all_made made g.newer o g.trees m in f o h.0 h.1;
  }

  pub grown-trees : (S T : List Object) → IsStore T → (newer : List Object) → newer ++ S ≡ T → AreMade made newer → IsGrownBy more S T
  grown-trees S T s newer e g = record { store = s; newer = newer; above = e; all = λ o m. let h = all_made made newer o g m in f o h.0 h.1 }

  pub clash-by : (S : List Object) (n : Bytes) → IsCollision made S n → IsClash more S n
  clash-by S n h = record {
    object = record { kind = Tree; body = h.body };
    is_made = f (record { kind = Tree; body = h.body }) refl h.is_made;
    held = clash_name S n h.body h.held;
  }

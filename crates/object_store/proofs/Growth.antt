-- What a store that has grown still holds, and what is put into it.
use Rattle.std.proofs.Common.{◌≡◌, ◌⊎◌, inl, inr, arith, true, false, cond, List, [], ◌∷◌, ◌++◌, Some, Contains, refl, sym, ap, subst, ◌∙◌, append_assoc, true≢false}
use Rattle.std.specs.Option.{is_some}
use Rattle.std.specs.Cmp.Lexicographic.{bytes_decides}
use Rattle.std.proofs.lemmas.List.Elements.{Contains-append_cases}
use Rattle.git_objects.specs.Paths.{Bytes, same_bytes}
use Rattle.git_objects.specs.Trees.{Flat}
use Rattle.git_objects.specs.declared.kind.Kind.{Kind}
use Rattle.git_objects.specs.declared.kind.Kind.TheVariants.{Tree}
use Rattle.object_store.specs.Objects.{Object, object_name, find_named, has, has_name, IsStore}
use Rattle.object_store.specs.Unfolding.{flat, StandsFor}
use Rattle.object_store.proofs.Finding.{found_name}
use Rattle.object_store.proofs.Held.{has-above}
use Rattle.object_store.proofs.Unfolding.{growing_law}
use Rattle.object_store.specs.Growth.{IsGrownBy, IsClash}

other_name : (o x : Object) (T : List Object) (n : Bytes) → has_name T (object_name x) ≡ false → find_named T n ≡ Some o → same_bytes (object_name x) n ≡ false
other_name o x T n apart h =
    elim (same_bytes (object_name x) n) as (λ b. same_bytes (object_name x) n ≡ b → b ≡ false) [
      | true ↦ λ e. absurd (true≢false (sym (found_name T n ∙ ap is_some h) ∙ ap (has_name T) (sym ((bytes_decides (object_name x) n).0 e)) ∙ apart))
      | false ↦ λ e. refl
    ] refl

pub found-above : (newer S : List Object) (n : Bytes) (o : Object) → IsStore (newer ++ S) → find_named S n ≡ Some o → find_named (newer ++ S) n ≡ Some o
unfolding find_named
found-above [] S n o s h = h
found-above (x ∷ newer) S n o s h =
    let below = found-above newer S n o s.2 h in
    ap (λ b. cond b (Some x) (find_named (newer ++ S) n)) (other_name o x (newer ++ S) n s.1 below) ∙ below

pub grown_self : (made : Object → Type 0) (S : List Object) → IsStore S → IsGrownBy made S S
grown_self made S s = record { store = s; newer = []; above = refl; all = λ o m. none o m }
  where
    none : (o : Object) → Contains [] o → made o
    none o m = absurd (omega (arith, m.1))

pub grown_then : (made : Object → Type 0) (S T R : List Object) → IsGrownBy made S T → IsGrownBy made T R → IsGrownBy made S R
grown_then made S T R g h = record {
  store = h.store;
  newer = h.newer ++ g.newer;
  above = append_assoc h.newer g.newer S ∙ ap (λ (q : List Object). h.newer ++ q) g.above ∙ h.above;
  all = λ o m. by o (Contains-append_cases h.newer g.newer o m);
}
  where
    by : (o : Object) → Contains h.newer o ⊎ Contains g.newer o → made o
    by o (inl m) = h.all o m
    by o (inr m) = g.all o m

pub grown_as : (made more : Object → Type 0) (S T : List Object) → ((o : Object) → made o → more o) → IsGrownBy made S T → IsGrownBy more S T
grown_as made more S T f g = record { store = g.store; newer = g.newer; above = g.above; all = λ o m. f o (g.all o m) }

pub found-grown : {made : Object → Type 0} (S T : List Object) (n : Bytes) (o : Object) → IsGrownBy made S T → find_named S n ≡ Some o → find_named T n ≡ Some o
found-grown S T n o g h =
    subst (λ (R : List Object). find_named R n ≡ Some o) g.above (found-above g.newer S n o (subst IsStore (sym g.above) g.store) h)

pub has-grown : {made : Object → Type 0} (S T : List Object) (k : Kind) (n : Bytes) → IsGrownBy made S T → has k S n ≡ true → has k T n ≡ true
has-grown S T k n g h = subst (λ (R : List Object). has k R n ≡ true) g.above (has-above g.newer S k n h)

pub flat-grown : {made : Object → Type 0} (S T : List Object) (n : Bytes) → IsGrownBy made S T → has Tree S n ≡ true → flat T n ≡ flat S n
flat-grown S T n g h = subst (λ (R : List Object). flat R n ≡ flat S n) g.above (growing_law g.newer S n (subst IsStore (sym g.above) g.store) h)

pub stands-grown : {made : Object → Type 0} (S T : List Object) (n : Bytes) (t : Flat) → IsGrownBy made S T → StandsFor S n t → StandsFor T n t
stands-grown S T n t g h = record { held = has-grown S T Tree n g h.held; map = flat-grown S T n g h.held ∙ h.map }

pub clash_as : (made more : Object → Type 0) (S : List Object) (n : Bytes) → ((o : Object) → made o → more o) → IsClash made S n → IsClash more S n
clash_as made more S n f h = record { object = h.object; is_made = f h.object h.is_made; held = h.held }

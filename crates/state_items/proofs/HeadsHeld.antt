-- Refs whose commits are held.
use Rattle.std.proofs.Common.{◌≡◌, arith, zero, Bool, true, false, cond, ◌&&◌, List, [], ◌∷◌, Option, Some, None, refl, sym, ap, ◌∙◌}
use Rattle.std.specs.Prelude.{Contains, IfSome}
use Rattle.std.specs.Option.{option_map}
use Rattle.std.specs.Ordering.{eq_by_cmp}
use Rattle.std.proofs.lemmas.List.Elements.{Contains-append_right}
use Rattle.std.proofs.lemmas.Option.{same_Some}
use Rattle.git_objects.specs.Parts.{name_bytes}
use Rattle.git_objects.specs.declared.name.Name.{Name}
use Rattle.std.specs.declared.cmp.Ordering.{Ordering}
use Rattle.std.specs.declared.cmp.Ordering.TheVariants.{Less, Equal, Greater}
use Rattle.std.specs.FinMap.{find, put}
use Rattle.std.specs.FinMap.Entries.{by_order}
use Rattle.git_objects.specs.Paths.{Bytes}
use Rattle.git_objects.specs.declared.kind.Kind.TheVariants.{Commit}
use Rattle.object_store.specs.Objects.{Object, has}
use Rattle.git_objects.specs.Refs.{Refs, bytes_cmp}
use Rattle.state_items.specs.Steps.{are_heads}

both : (a b : Bool) → a ≡ true → b ≡ true → (a && b) ≡ true
both a b p q = ap (λ x. x && b) p ∙ q

left : (a b : Bool) → (a && b) ≡ true → a ≡ true
left true b h = refl
left false b h = h

right : (a b : Bool) → (a && b) ≡ true → b ≡ true
right true b h = h
right false b h = absurd (cc h)

pub are_heads-put : (S : List Object) (refs : Refs) (r n : Bytes) → are_heads S refs ≡ true → has Commit S n ≡ true → are_heads S (put bytes_cmp r n refs) ≡ true
are_heads-put S [] r n h g = both (has Commit S n) true g refl
are_heads-put S (e ∷ refs) r n h g =
    let one = left (has Commit S e.1) (are_heads S refs) h in
    let rest = right (has Commit S e.1) (are_heads S refs) h in
    elim (bytes_cmp r e.0) as (λ (o : Ordering). are_heads S (by_order o ((r, n) ∷ e ∷ refs) ((e.0, n) ∷ refs) (e ∷ put bytes_cmp r n refs)) ≡ true) [
      | Less ↦ both (has Commit S n) (are_heads S (e ∷ refs)) g h
      | Equal ↦ both (has Commit S n) (are_heads S refs) g rest
      | Greater ↦ both (has Commit S e.1) (are_heads S (put bytes_cmp r n refs)) one (are_heads-put S refs r n rest g)
    ]

-- heads stay where commits stay held
pub are_heads-more : (S T : List Object) (refs : Refs) → ((n : Bytes) → has Commit S n ≡ true → has Commit T n ≡ true) → are_heads S refs ≡ true → are_heads T refs ≡ true
are_heads-more S T [] more h = refl
are_heads-more S T (e ∷ refs) more h =
    both (has Commit T e.1) (are_heads T refs) (more e.1 (left (has Commit S e.1) (are_heads S refs) h)) (are_heads-more S T refs more (right (has Commit S e.1) (are_heads S refs) h))

-- what is found is there
pub find-there : (refs : Refs) (r n : Bytes) → find bytes_cmp r refs ≡ Some n → (q : Bytes) × Contains refs (q, n)
find-there [] r n h = cc
find-there (e ∷ refs) r n h =
    elim (eq_by_cmp bytes_cmp r e.0) as (λ b. cond b (Some e.1) (find bytes_cmp r refs) ≡ Some n → (q : Bytes) × Contains (e ∷ refs) (q, n)) [
      | true ↦ λ g. (e.0, (zero, omega arith, ap (λ x. (e.0, x)) (same_Some e.1 n g)))
      | false ↦ λ g. let t = find-there refs r n g in (t.0, Contains-append_right (e ∷ []) refs (t.0, n) t.1)
    ] h

-- the commit of a ref is held
pub found-held : (S : List Object) (refs : Refs) (r : Bytes) (result : Option Name) → option_map name_bytes result ≡ find bytes_cmp r refs → ((q n : Bytes) → Contains refs (q, n) → has Commit S n ≡ true)
    → IfSome result (λ n. has Commit S n.0 ≡ true)
found-held S refs r None e h = tt
found-held S refs r (Some n) e h = let t = find-there refs r n.0 (sym e) in h t.0 n.0 t.1

-- One more object behind the others in the arena.
use Rattle.std.proofs.Common.{◌≡◌, ◌+◌, ◌-◌, ◌≤◌, ℕ, true, false, List, [], ◌∷◌, ◌++◌, length, take, drop, reverse, None, Result, Ok, Err, refl, sym, ap, subst, ◌∙◌, arith, length-append, length-drop}
use Rattle.std.specs.List.{slice_range}
use Rattle.std.specs.Option.{is_some}
use Rattle.std.specs.Result.{is_err, OnOk}
use Rattle.std.proofs.lemmas.List.{reverse-append, take-append-le, drop-append-le, map-append}
use Rattle.std.proofs.Math.Seq.{drop-append_seam}
use Rattle.git_objects.specs.Paths.{Bytes}
use Rattle.git_objects.specs.Names.{name}
use Rattle.git_objects.specs.declared.kind.Kind.{Kind}
use Rattle.git_objects.specs.declared.name.Name.{Name}
use Rattle.object_store.specs.Objects.{Object, object_name, find_named, has_name, is_body, IsStore}
use Rattle.object_store.specs.Places.{arrived_objects, placed, placed_objects, IsPlaced, ArePlaced, AreSized, HoldsStore}
use Rattle.object_store.specs.Sizes.{sizes}
use Rattle.object_store.specs.Unfolding.{body_flat}
use Rattle.object_store.specs.declared.shelf.Place.{Place}
use Rattle.object_store.specs.declared.store.TreeStats.{TreeStats}
use Rattle.object_store.proofs.Finding.{found_name, nothing-placed}
use Rattle.object_store.proofs.Sizes.{flat-new, sized-newer, sized-push}

-- a part in front stays when something is appended
part-append : (arena more : Bytes) (at len : ℕ) → at + len ≤ length arena → slice_range (arena ++ more) at (at + len) ≡ slice_range arena at (at + len)
part-append arena more at len h =
    let a : at ≤ length arena = omega arith in
    let b : (at + len) - at ≤ length (drop at arena) = omega (arith, length-drop at arena) in
    ap (take ((at + len) - at)) (drop-append-le at arena more a) ∙ take-append-le ((at + len) - at) (drop at arena) more b

pub placed-append : (arena more : Bytes) (p : Place) → p.at + p.len ≤ length arena → placed (arena ++ more) p ≡ placed arena p
placed-append arena more p h = ap (λ (b : Bytes). record { kind = p.kind; body = b }) (part-append arena more p.at p.len h)

pub objects-append : (arena more : Bytes) (es : List (Name × Place)) → ArePlaced arena es → arrived_objects (arena ++ more) es ≡ arrived_objects arena es
objects-append arena more [] h = refl
objects-append arena more (e ∷ es) h = λ i. placed-append arena more e.1 h.0.within i ∷ objects-append arena more es h.1 i

IsPlaced-append : (arena more : Bytes) (e : Name × Place) → IsPlaced arena e → IsPlaced (arena ++ more) e
IsPlaced-append arena more e h = record {
  within = let w = h.within in omega (arith, length-append arena more);
  named = ap object_name (placed-append arena more e.1 h.within) ∙ h.named;
}

pub ArePlaced-append : (arena more : Bytes) (es : List (Name × Place)) → ArePlaced arena es → ArePlaced (arena ++ more) es
ArePlaced-append arena more [] h = tt
ArePlaced-append arena more (e ∷ es) h = (IsPlaced-append arena more e h.0, ArePlaced-append arena more es h.1)

pub ArePlaced-push : (arena : Bytes) (es : List (Name × Place)) (e : Name × Place) → ArePlaced arena es → IsPlaced arena e → ArePlaced arena (es ++ e ∷ [])
ArePlaced-push arena [] e h g = (g, tt)
ArePlaced-push arena (d ∷ es) e h g = (h.0, ArePlaced-push arena es e h.1 g)

module _ (kind : Kind) (key : Name) (arena body : Bytes) (stats : TreeStats) (es : List (Name × Place)) where
  abbrev pub new_place : Place
  new_place = record { kind = kind; at = length arena; len = length body; stats = stats }

  abbrev pub new_object : Object
  new_object = record { kind = kind; body = body }

  placed-new : placed (arena ++ body) new_place ≡ new_object
  placed-new =
      let n : (length arena + length body) - length arena ≡ length body = omega arith in
      ap (λ (b : Bytes). record { kind = kind; body = b }) (ap (take ((length arena + length body) - length arena)) (drop-append_seam arena body) ∙ ap (λ k. take k body) n ∙ take-all body)
    where
      take-all : (b : Bytes) → take (length b) b ≡ b
      take-all [] = refl
      take-all (x ∷ b) = ap (λ (c : Bytes). x ∷ c) (take-all b)

  pub objects-new : ArePlaced arena es → placed_objects (arena ++ body) (es ++ (key, new_place) ∷ []) ≡ new_object ∷ placed_objects arena es
  objects-new h =
      ap reverse (map-append (λ (e : Name × Place). placed (arena ++ body) e.1) es ((key, new_place) ∷ []) ∙ (λ i. objects-append arena body es h i ++ placed-new i ∷ []))
      ∙ reverse-append (arrived_objects arena es) (new_object ∷ [])

  pub holds-new : HoldsStore arena es → key.0 ≡ name kind body → find_named (placed_objects arena es) key.0 ≡ None → is_body (placed_objects arena es) kind body ≡ true → stats ≡ sizes (body_flat (placed_objects arena es) kind body) →
      HoldsStore (arena ++ body) (es ++ (key, new_place) ∷ [])
  holds-new h n f b z =
      let S = placed_objects arena es in
      let fresh : has_name S key.0 ≡ false = found_name S key.0 ∙ ap is_some f in
      record {
        placed = ArePlaced-push (arena ++ body) es (key, new_place) (ArePlaced-append arena body es h.placed)
            (record { within = omega (arith, length-append arena body); named = ap object_name placed-new ∙ sym n });
        store = subst IsStore (sym (objects-new h.placed)) (b, ap (has_name S) (sym n) ∙ fresh, h.store);
        sized = subst (λ (R : List Object). AreSized R (es ++ (key, new_place) ∷ [])) (sym (objects-new h.placed))
            (sized-push (new_object ∷ S) es (key, new_place) (sized-newer S new_object key.0 es (sym n) (nothing-placed arena es key h f) h.sized) (z ∙ ap sizes (sym (flat-new S kind body key.0 n fresh))));
      }

  -- the same of an arena and of places that are equal to these
  pub held-added : (arena' : Bytes) (es' : List (Name × Place)) → arena' ≡ arena ++ body → es' ≡ es ++ (key, new_place) ∷ [] → HoldsStore arena es → key.0 ≡ name kind body →
      find_named (placed_objects arena es) key.0 ≡ None → is_body (placed_objects arena es) kind body ≡ true → stats ≡ sizes (body_flat (placed_objects arena es) kind body) → HoldsStore arena' es'
  held-added arena' es' p q h n f b z = subst (λ (d : Bytes × List (Name × Place)). HoldsStore d.0 d.1) (sym (λ i. (p i, q i))) (holds-new h n f b z)

  pub objects-added : (arena' : Bytes) (es' : List (Name × Place)) → arena' ≡ arena ++ body → es' ≡ es ++ (key, new_place) ∷ [] → HoldsStore arena es →
      placed_objects arena' es' ≡ new_object ∷ placed_objects arena es
  objects-added arena' es' p q h = (λ i. placed_objects (p i) (q i)) ∙ objects-new h.placed

pub from_ok : {T E X : Type 0} (r : Result T E) → false ≡ is_err r → OnOk r X → X
from_ok (Ok x) e h = h
from_ok (Err x) e h = cc

-- A store in an arena of which a piece is written behind the objects, or has an object that is entered.
use Rattle.std.proofs.Common.{◌≡◌, ◌+◌, ◌-◌, ◌≤◌, ℕ, false, true, List, [], ◌∷◌, ◌++◌, length, take, drop, reverse, replicate, None, refl, sym, ap, subst, ◌∙◌, arith, length-append, length-drop}
use Rattle.std.specs.List.{slice_range}
use Rattle.std.specs.Option.{is_some}
use Rattle.std.proofs.lemmas.List.{reverse-append, take-append-le, take-append-drop, length-take-le, map-append, drop-drop, take_all}
use Rattle.std.proofs.Math.Seq.{take-append-add, drop-append_seam}
use Rattle.git_objects.specs.Paths.{Bytes}
use Rattle.git_objects.specs.Names.{name}
use Rattle.git_objects.specs.declared.kind.Kind.{Kind}
use Rattle.git_objects.specs.declared.name.Name.{Name}
use Rattle.object_store.specs.Objects.{Object, object_name, find_named, has_name, is_body, IsStore}
use Rattle.object_store.specs.Places.{arrived_objects, placed, placed_objects, AreBelow, ArePlaced, AreSized, HoldsStore}
use Rattle.object_store.specs.Filling.{written}
use Rattle.object_store.specs.Sizes.{sizes}
use Rattle.object_store.specs.Unfolding.{body_flat}
use Rattle.object_store.specs.declared.shelf.Place.{Place}
use Rattle.object_store.specs.declared.store.TreeStats.{TreeStats}
use Rattle.object_store.proofs.Adding.{placed-append, objects-append, ArePlaced-append, ArePlaced-push}
use Rattle.object_store.proofs.Finding.{found_name, nothing-placed}
use Rattle.object_store.proofs.Sizes.{flat-new, sized-newer, sized-push}

-- ---- bytes behind the arena

pub objects-longer : (arena more : Bytes) (es : List (Name × Place)) → HoldsStore arena es → placed_objects (arena ++ more) es ≡ placed_objects arena es
objects-longer arena more es h = ap reverse (objects-append arena more es h.placed)

pub holds-longer : (arena more : Bytes) (es : List (Name × Place)) → HoldsStore arena es → HoldsStore (arena ++ more) es
holds-longer arena more es h = record {
  placed = ArePlaced-append arena more es h.placed;
  store = subst IsStore (sym (objects-longer arena more es h)) h.store;
  sized = subst (λ (S : List Object). AreSized S es) (sym (objects-longer arena more es h)) h.sized;
}

pub all-below : (arena : Bytes) (es : List (Name × Place)) → ArePlaced arena es → AreBelow (length arena) es
all-below arena [] h = tt
all-below arena (e ∷ es) h = (h.0.within, all-below arena es h.1)

-- ---- bytes in place of those from a place on, which is above all objects

module _ (arena : Bytes) (from : ℕ) (within : from ≤ length arena) where
  abbrev front : Bytes
  front = take from arena

  abbrev back : Bytes
  back = drop from arena

  front-placed : (p : Place) → p.at + p.len ≤ from → placed arena p ≡ placed front p
  front-placed p h =
      ap (λ (a : Bytes). placed a p) (sym (take-append-drop from arena))
      ∙ placed-append front back p (subst (λ n. p.at + p.len ≤ n) (sym (length-take-le from arena within)) h)

  front-objects : (es : List (Name × Place)) → AreBelow from es → arrived_objects arena es ≡ arrived_objects front es
  front-objects [] b = refl
  front-objects (e ∷ es) b = λ i. front-placed e.1 b.0 i ∷ front-objects es b.1 i

  front-are : (es : List (Name × Place)) → AreBelow from es → ArePlaced arena es → ArePlaced front es
  front-are [] b h = tt
  front-are (e ∷ es) b h =
      (record { within = subst (λ n. e.1.at + e.1.len ≤ n) (sym (length-take-le from arena within)) b.0; named = ap object_name (sym (front-placed e.1 b.0)) ∙ h.0.named }, front-are es b.1 h.1)

  holds-front : (es : List (Name × Place)) → AreBelow from es → HoldsStore arena es → HoldsStore front es
  holds-front es b h =
      let same : placed_objects arena es ≡ placed_objects front es = ap reverse (front-objects es b) in
      record { placed = front-are es b h.placed; store = subst IsStore same h.store; sized = subst (λ (S : List Object). AreSized S es) same h.sized }

  pub holds-written : (more : Bytes) (es : List (Name × Place)) → AreBelow from es → HoldsStore arena es → HoldsStore (front ++ more) es
  holds-written more es b h = holds-longer front more es (holds-front es b h)

  pub objects-written : (more : Bytes) (es : List (Name × Place)) → AreBelow from es → HoldsStore arena es → placed_objects (front ++ more) es ≡ placed_objects arena es
  objects-written more es b h = objects-longer front more es (holds-front es b h) ∙ ap reverse (sym (front-objects es b))

  pub piece-written : (more : Bytes) → drop from (front ++ more) ≡ more
  piece-written more = ap (λ n. drop n (front ++ more)) (sym (length-take-le from arena within)) ∙ drop-append_seam front more

  -- what a Vec holds whose elements from that place on were lent
  pub refilled : (len : ℕ) → len ≡ length arena → (w : Bytes) →
      take len ((front ++ (w ++ drop (length w) back)) ++ drop (length (front ++ (w ++ drop (length w) back))) arena) ≡ front ++ written back w
  refilled len whole w =
      let y : Bytes = w ++ drop (length w) back in
      let a : length front ≡ from = length-take-le from arena within in
      let b : length back ≡ length arena - from = length-drop from arena in
      let l : length y ≡ length w + (length back - length w) = length-append w (drop (length w) back) ∙ ap (λ n. length w + n) (length-drop (length w) back) in
      let r : length (front ++ y) ≡ length front + length y = length-append front y in
      let fits : length arena ≤ length (front ++ y) = omega arith in
      let sum : length arena ≡ length front + length back = omega arith in
      ap (λ n. take n ((front ++ y) ++ drop (length (front ++ y)) arena)) whole
      ∙ take-append-le (length arena) (front ++ y) (drop (length (front ++ y)) arena) fits
      ∙ ap (λ n. take n (front ++ y)) sum
      ∙ take-append-add front y (length back)

  pub written-within : (w : Bytes) → from ≤ length (front ++ written back w)
  written-within w = let a : length front ≡ from = length-take-le from arena within in omega (arith, length-append front (written back w))

-- ---- an object that stands in the arena

module _ (kind : Kind) (key : Name) (arena : Bytes) (at len : ℕ) (stats : TreeStats) (es : List (Name × Place)) where
  abbrev pub place : Place
  place = record { kind = kind; at = at; len = len; stats = stats }

  abbrev body : Bytes
  body = slice_range arena at (at + len)

  abbrev object : Object
  object = record { kind = kind; body = body }

  pub objects-entered : placed_objects arena (es ++ (key, place) ∷ []) ≡ object ∷ placed_objects arena es
  objects-entered = ap reverse (map-append (λ (e : Name × Place). placed arena e.1) es ((key, place) ∷ [])) ∙ reverse-append (arrived_objects arena es) (object ∷ [])

  pub holds-entered : at + len ≤ length arena → HoldsStore arena es → key.0 ≡ name kind body → find_named (placed_objects arena es) key.0 ≡ None
      → is_body (placed_objects arena es) kind body ≡ true → stats ≡ sizes (body_flat (placed_objects arena es) kind body) → HoldsStore arena (es ++ (key, place) ∷ [])
  holds-entered w h n f b z =
      let S = placed_objects arena es in
      let fresh : has_name S key.0 ≡ false = found_name S key.0 ∙ ap is_some f in
      record {
        placed = ArePlaced-push arena es (key, place) h.placed (record { within = w; named = sym n });
        store = subst IsStore (sym objects-entered) (b, ap (has_name S) (sym n) ∙ fresh, h.store);
        sized = subst (λ (R : List Object). AreSized R (es ++ (key, place) ∷ [])) (sym objects-entered)
            (sized-push (object ∷ S) es (key, place) (sized-newer S object key.0 es (sym n) (nothing-placed arena es key h f) h.sized) (z ∙ ap sizes (sym (flat-new S kind body key.0 n fresh))));
      }

-- a part of a piece, as a part of the arena
pub part-of-piece : (arena : Bytes) (from at len : ℕ) → slice_range arena (from + at) (from + at + len) ≡ take len (drop at (drop from arena))
part-of-piece arena from at len =
    let n : (from + at + len) - (from + at) ≡ len = omega arith in
    ap (λ k. take k (drop (from + at) arena)) n ∙ ap (take len) (sym (drop-drop at from arena))

-- ---- zeros behind the arena

pub filled : (arena : Bytes) (size n m : ℕ) → n ≡ length arena → m ≡ length arena → take (n + size) arena ++ replicate ((n + size) - m) 0 ≡ arena ++ replicate size 0
filled arena size n m h k =
    let all : length arena ≤ n + size = omega arith in
    let rest : (n + size) - m ≡ size = omega arith in
    (λ i. take_all (n + size) arena all i ++ replicate (rest i) 0)

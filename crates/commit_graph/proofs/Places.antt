-- Places of commits, and the graphs that adding and cutting leave.
use Rattle.std.proofs.Common.{◌≡◌, ℕ, zero, suc, ◌+◌, ◌<◌, ◌≤◌, ◌^◌, Bool, true, false, cond, not, ◌⊎◌, inl, inr, List, [], ◌∷◌, ◌++◌, length, take, slice_get, position, Some, None, All, refl, sym, ap, subst, ◌∙◌, arith, true≢false, length-append, nat_lt}
use borrow.Author.Tests.{ltb-false}
use Rattle.std.specs.List.{position_or_len}
use Rattle.std.specs.Map.{keys_of, lookup}
use Rattle.std.specs.Cmp.Lexicographic.{bytes_decides}
use Rattle.std.proofs.lemmas.List.{length-take, map-append}
use Rattle.std.proofs.lemmas.List.Sums.{fails_before_first}
use Rattle.std.proofs.lemmas.Option.{none-some, same_Some, slice_get_within, get_or_from_slice_get}
use Rattle.std.proofs.lemmas.Map.{NonePasses, lookup-none}
use Rattle.indexmap.specs.IndexMap.{IndexMap, insert_entry}
use Rattle.indexmap.proofs.CallerLemmas.{insert_entry-new}
use Rattle.git_objects.specs.Paths.{Bytes, same_bytes}
use Rattle.git_objects.specs.declared.name.Name.{Name}
use Rattle.git_objects.proofs.Basics.{same_bytes-back}
use Rattle.commit_graph.specs.Graphs.{Row, IsGraph, place_of}
use Rattle.commit_graph.specs.Nodes.{row, rows, HoldsGraph}
use Rattle.commit_graph.specs.declared.graph.Node.{Node}

-- ---- elements by their places

pub slice_get-take : {A : Type 0} (n : ℕ) (xs : List A) (i : ℕ) (x : A) → slice_get (take n xs) i ≡ Some x → slice_get xs i ≡ Some x
slice_get-take zero xs i x e = absurd (none-some x e)
slice_get-take (suc n) [] i x e = e
slice_get-take (suc n) (y ∷ ys) zero x e = e
slice_get-take (suc n) (y ∷ ys) (suc i) x e = slice_get-take n ys i x e

pub slice_get-push : {A : Type 0} (xs : List A) (y : A) (i : ℕ) (x : A) → slice_get (xs ++ y ∷ []) i ≡ Some x → (slice_get xs i ≡ Some x) ⊎ ((i ≡ length xs) × (y ≡ x))
slice_get-push [] y zero x e = inr (refl, same_Some y x e)
slice_get-push [] y (suc i) x e = absurd (none-some x e)
slice_get-push (z ∷ zs) y zero x e = inl e
slice_get-push (z ∷ zs) y (suc i) x e = elim (slice_get-push zs y i x e) [ inl a ↦ inl a | inr b ↦ inr (ap suc b.0, b.1) ]

none-long : {A : Type 0} (p : A → Bool) (xs : List A) → position p xs ≡ None → length xs ≤ position_or_len p xs
none-long p xs h =
    let n = position_or_len p xs in
    elim (nat_lt n (length xs)) as (λ b. nat_lt n (length xs) ≡ b → cond b (Some n) None ≡ None → length xs ≤ n) [
      | true ↦ λ e g. absurd (none-some n (sym g))
      | false ↦ λ e g. ltb-false n (length xs) e
    ] refl h

-- where the test finds no place, no element passes it
pub absent : {A : Type 0} (p : A → Bool) (xs : List A) → position p xs ≡ None → (i : ℕ) (x : A) → slice_get xs i ≡ Some x → p x ≡ false
absent p xs h i x e =
    let l = slice_get_within xs i x e in
    let n = none-long p xs h in
    ap p (sym (get_or_from_slice_get xs i x x e)) ∙ fails_before_first p xs i x (omega (arith, l, n))

-- ---- graphs

not-named : (n : Bytes) (rs : List Row) → place_of n rs ≡ None → (i : ℕ) (r : Row) → slice_get rs i ≡ Some r → r.name ≡ n → ⊥
not-named n rs h i r e q = true≢false (sym ((bytes_decides r.name n).1 q) ∙ absent (λ (s : Row). same_bytes s.name n) rs h i r e)

pub graph-nil : IsGraph []
graph-nil = record { placed = λ i r e. absurd (none-some r e); distinct = λ i j r s e f q. absurd (none-some r e) }

pub graph-push : (rs : List Row) (r : Row) → IsGraph rs → place_of r.name rs ≡ None → All (λ p. p < length rs) r.parents → IsGraph (rs ++ r ∷ [])
graph-push rs r g fresh below = record {
  placed = λ i s e. elim (slice_get-push rs r i s e) [
    | inl a ↦ g.placed i s a
    | inr b ↦ subst (λ (t : Row). All (λ p. p < i) t.parents) b.1 (subst (λ n. All (λ p. p < n) r.parents) (sym b.0) below)
  ];
  distinct = λ i j s t e f q. elim (slice_get-push rs r i s e) [
    | inl a ↦ elim (slice_get-push rs r j t f) [
      | inl b ↦ g.distinct i j s t a b q
      | inr b ↦ absurd (not-named r.name rs fresh i s a (q ∙ ap (λ (u : Row). u.name) (sym b.1)))
    ]
    | inr a ↦ elim (slice_get-push rs r j t f) [
      | inl b ↦ absurd (not-named r.name rs fresh j t b (sym q ∙ ap (λ (u : Row). u.name) (sym a.1)))
      | inr b ↦ a.0 ∙ sym b.0
    ]
  ];
}

pub graph-take : (n : ℕ) (rs : List Row) → IsGraph rs → IsGraph (take n rs)
graph-take n rs g = record {
  placed = λ i r e. g.placed i r (slice_get-take n rs i r e);
  distinct = λ i j r s e f q. g.distinct i j r s (slice_get-take n rs i r e) (slice_get-take n rs j s f) q;
}

-- ---- by names

first-rows : (n : Name) (es : List (Name × Node)) → position_or_len (λ (k : Name). same_bytes n.0 k.0) (keys_of es) ≡ position_or_len (λ (r : Row). same_bytes r.name n.0) (rows es)
first-rows n [] = refl
first-rows n (e ∷ es) = λ i. cond (not (same_bytes-back n.0 e.0.0 i)) (1 + first-rows n es i) 0

same-length : (es : List (Name × Node)) → length (keys_of es) ≡ length (rows es)
same-length [] = refl
same-length (e ∷ es) = ap suc (same-length es)

pub place-rows : (n : Name) (es : List (Name × Node)) → position (λ (k : Name). same_bytes n.0 k.0) (keys_of es) ≡ place_of n.0 (rows es)
place-rows n es = λ i. cond (nat_lt (first-rows n es i) (same-length es i)) (Some (first-rows n es i)) None

none-passes : (n : Name) (es : List (Name × Node)) → ((i : ℕ) (r : Row) → slice_get (rows es) i ≡ Some r → same_bytes r.name n.0 ≡ false) → NonePasses (λ (k : Name). same_bytes n.0 k.0) es
none-passes n [] h = tt
none-passes n (e ∷ es) h = (same_bytes-back n.0 e.0.0 ∙ h 0 (row e) refl, none-passes n es (λ i r q. h (suc i) r q))

pub lookup-fresh : (n : Name) (es : List (Name × Node)) → place_of n.0 (rows es) ≡ None → lookup (λ (k : Name). same_bytes n.0 k.0) es ≡ None
lookup-fresh n es h = lookup-none (λ (k : Name). same_bytes n.0 k.0) es (none-passes n es (absent (λ (r : Row). same_bytes r.name n.0) (rows es) h))

abbrev pub same_name : Name → Name → Bool
same_name x y = same_bytes x.0 y.0

-- the rows after the insert of a new name
pub rows-insert : {S : Type 0} (m : IndexMap Name Node S) (es : List (Name × Node)) (n : Name) (v : Node) → es ≡ insert_entry same_name m.entries n v → place_of n.0 (rows m.entries) ≡ None →
    rows es ≡ rows m.entries ++ row (n, v) ∷ []
rows-insert m es n v e h =
    ap rows (e ∙ insert_entry-new same_name m n v (lookup-fresh n m.entries h)) ∙ map-append row m.entries ((n, v) ∷ [])

-- ---- what the code holds

pub holds-nil : HoldsGraph []
holds-nil = record { graph = graph-nil; few = omega arith }

pub holds-push : (rs : List Row) (r : Row) → HoldsGraph rs → place_of r.name rs ≡ None → All (λ p. p < length rs) r.parents → length rs < 2 ^ 30 → HoldsGraph (rs ++ r ∷ [])
holds-push rs r h fresh below room = record { graph = graph-push rs r h.graph fresh below; few = omega (arith, room, length-append rs (r ∷ [])) }

pub holds-take : (n : ℕ) (rs : List Row) → HoldsGraph rs → HoldsGraph (take n rs)
holds-take n rs h = record { graph = graph-take n rs h.graph; few = let few = h.few in omega (arith, few, length-take n rs) }

-- Distinct ref names, and copies of refs one pair behind the other.
use Rattle.std.proofs.Common.{◌≡◌, ℕ, zero, suc, ◌+◌, ◌<◌, List, [], ◌∷◌, ◌++◌, take, drop, slice_get, Some, None, sym, ap, subst, ◌∙◌, arith, true≢false}
use Rattle.std.specs.List.{IsDistinct}
use Rattle.std.specs.Map.{keys_of, lookup}
use Rattle.std.specs.Cmp.Lexicographic.{bytes_decides, nat_list_eq_equiv}
use Rattle.std.proofs.lemmas.List.{take_more}
use Rattle.std.proofs.lemmas.Map.Keys.{apart_from_distinct}
use Rattle.std.proofs.lemmas.Option.{none-some, same_Some, slice_get_within, get_or_from_slice_get}
use Rattle.indexmap.specs.IndexMap.{IndexMap, insert_entry}
use Rattle.indexmap.proofs.CallerLemmas.{insert_entry-new}
use Rattle.indexmap.proofs.MapLemmas.{absent_before}
use Rattle.git_objects.specs.Paths.{Bytes, same_bytes}
use Rattle.git_objects.specs.declared.name.Name.{Name}
use Rattle.ref_store.specs.Refs.{AreDistinct}
use Rattle.ref_store.specs.Pairs.{pair, pairs}

key-at : (es : List (Bytes × Name)) (i : ℕ) (r : Bytes × Bytes) → slice_get (pairs es) i ≡ Some r → slice_get (keys_of es) i ≡ Some r.0
key-at [] i r e = absurd (none-some r e)
key-at (d ∷ es) zero r e = ap Some (ap (λ (t : Bytes × Bytes). t.0) (same_Some (pair d) r e))
key-at (d ∷ es) (suc i) r e = key-at es i r e

apart : (es : List (Bytes × Name)) → IsDistinct same_bytes (keys_of es) → (i j : ℕ) (r s : Bytes × Bytes) → slice_get (pairs es) i ≡ Some r → slice_get (pairs es) j ≡ Some s → r.0 ≡ s.0 → i < j → ⊥
apart es d i j r s e f q l =
    let ks = keys_of es in
    let inside = slice_get_within ks j s.0 (key-at es j s f) in
    let other = apart_from_distinct same_bytes ks i j [] d l inside in
    let at_i = get_or_from_slice_get ks i r.0 [] (key-at es i r e) in
    let at_j = get_or_from_slice_get ks j s.0 [] (key-at es j s f) in
    true≢false (sym ((bytes_decides r.0 s.0).1 q) ∙ (λ k. same_bytes (sym at_i k) (sym at_j k)) ∙ other)

pub distinct-pairs : (es : List (Bytes × Name)) → IsDistinct same_bytes (keys_of es) → AreDistinct (pairs es)
distinct-pairs es d i j r s e f q =
    let up = apart es d i j r s e f q in
    let down = apart es d j i s r f e (sym q) in
    omega (arith, up, down)

-- ---- one more pair

split-at : {A : Type 0} (xs : List A) (i : ℕ) (x : A) → slice_get xs i ≡ Some x → take i xs ++ x ∷ drop (suc i) xs ≡ xs
split-at [] i x e = absurd (none-some x e)
split-at (y ∷ ys) zero x e = ap (λ z. z ∷ ys) (sym (same_Some y x e))
split-at (y ∷ ys) (suc i) x e = ap (λ zs. y ∷ zs) (split-at ys i x e)

pub copy-more : {S : Type 0} (m : IndexMap Bytes Name S) (es fs : List (Bytes × Name)) (i : ℕ) (k : Bytes) (v : Name) → IsDistinct same_bytes (keys_of es) → m.entries ≡ take i es → slice_get es i ≡ Some (k, v) →
    fs ≡ insert_entry same_bytes m.entries k v → fs ≡ take (i + 1) es
copy-more m es fs i k v d is e f =
    let whole = split-at es i (k, v) e in
    let absent : lookup (same_bytes k) (take i es) ≡ None =
    absent_before nat_list_eq_equiv (take i es) (drop (suc i) es) (k, v) (subst (λ (ds : List (Bytes × Name)). IsDistinct same_bytes (keys_of ds)) (sym whole) d) in
    f
    ∙ insert_entry-new same_bytes m k v (ap (λ (ds : List (Bytes × Name)). lookup (same_bytes k) ds) is ∙ absent)
    ∙ (λ j. is j ++ sym (get_or_from_slice_get es i (k, v) (k, v) e) j ∷ [])
    ∙ sym (take_more es i (k, v) (slice_get_within es i (k, v) e))

-- The places of commits with new entries.
use Rattle.std.proofs.Common.{◌≡◌, ◌<◌, ◌≤◌, ℕ, zero, suc, slice_get, position, Bool, true, false, cond, List, [], ◌∷◌, drop, Option, Some, None, IfSome, is_some, refl, sym, ap, ◌∙◌, arith, true≢false}
use Rattle.std.specs.Option.{option_map}
use Rattle.std.specs.List.{cons_option, filter_map}
use Rattle.std.specs.Cmp.Lexicographic.{bytes_decides}
use Rattle.std.proofs.lemmas.List.Quantifiers.{position-Some}
use Rattle.std.proofs.lemmas.Option.{get_or_from_slice_get}
use Rattle.git_objects.specs.Paths.{Bytes, same_bytes}
use Rattle.commit_graph.specs.Graphs.{Row, place_of}
use Rattle.commit_graph.proofs.Places.{absent}
use Rattle.commit_map.specs.Shown.{Entries, Shown, kept_at}
use Rattle.repo_ground.specs.Contents.{Contents}
use Rattle.repo_ground.specs.Keeping.{AreFrom, new_entries, new_entry, unheld}
use Rattle.projection_ground.proofs.Filling.{kept-each}

-- ---- lists

-- before a place that isn't behind the first element that passes a test none passes it
before-first : {A : Type 0} (p : A → Bool) (xs : List A) (low i : ℕ) (x : A) → IfSome (position p xs) (λ k. low ≤ k) → i < low → slice_get xs i ≡ Some x → p x ≡ false
before-first p xs low i x w l e = by (position p xs) refl w
  where
    by : (o : Option ℕ) → position p xs ≡ o → IfSome o (λ k. low ≤ k) → p x ≡ false
    by None q h = absent p xs q i x e
    by (Some k) q h = ap p (sym (get_or_from_slice_get xs i x x e)) ∙ (position-Some p xs k x q).2 i (omega (arith, l, h))

-- elements that give nothing are left out
none-before : {A B : Type 0} (f : A → Option B) (xs : List A) (low : ℕ) → ((i : ℕ) (x : A) → i < low → slice_get xs i ≡ Some x → f x ≡ None)
    → filter_map f (drop low xs) ≡ filter_map f xs
none-before f xs zero h = refl
none-before f [] (suc low) h = refl
none-before f (x ∷ xs) (suc low) h =
    none-before f xs low (λ i y l e. h (suc i) y (omega (arith, l)) e) ∙ sym (ap (λ o. cons_option o (filter_map f xs)) (h zero x (omega arith) refl))

-- ---- the lowest place

-- the rows before that place have no new entries
pub news-from : (s : Contents) (fresh : Entries) (low : ℕ) → ((n : Bytes) → kept_at n fresh ≡ kept_at n (unheld s)) → AreFrom s.basis.graph low fresh
    → filter_map (new_entry s) (drop low s.basis.graph) ≡ new_entries s
news-from s fresh low same w = none-before (new_entry s) s.basis.graph low (λ i r l e. by i r l e (kept_at r.name fresh) refl)
  where
    by : (i : ℕ) (r : Row) → i < low → slice_get s.basis.graph i ≡ Some r → (o : Option (Option Shown)) → kept_at r.name fresh ≡ o → new_entry s r ≡ None
    by i r l e None q = ap (λ o. cond (is_some o) (option_map (λ v. (r.name, v)) (kept_at r.name s.basis.map)) None) (sym (same r.name) ∙ q)
    by i r l e (Some v) q =
        let itself : same_bytes r.name r.name ≡ true = (bytes_decides r.name r.name).1 refl in
        let from : IfSome (place_of r.name s.basis.graph) (λ p. low ≤ p) = kept-each (λ n o. IfSome (place_of n s.basis.graph) (λ p. low ≤ p)) r.name fresh v w q in
        absurd (true≢false (sym itself ∙ before-first (λ (x : Row). same_bytes x.name r.name) s.basis.graph low i r from l e))

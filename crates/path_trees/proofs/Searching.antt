-- What is left of a listing behind a component.
use Rattle.std.proofs.Common.{◌≡◌, ℕ, zero, suc, ◌<◌, ◌≤◌, ◌⊎◌, inl, inr, Bool, true, false, cond, ◌==◌, nat_lt, List, [], ◌∷◌, ◌++◌, length, min, drop, slice_get, Some, None, refl, sym, ap, subst, ◌∙◌, arith, true≢false, append-nil}
use Rattle.std.specs.Option.{option_map}
use Rattle.std.specs.Ordering.{nat_cmp, ordering_then}
use Rattle.std.specs.declared.cmp.Ordering.TheVariants.{Equal, Greater}
use Rattle.std.specs.Cmp.{nat_cmp_is}
use Rattle.std.specs.Cmp.Lexicographic.{slice_cmp, bytes_decides}
use Rattle.std.proofs.lemmas.Bool.{eq-eqb, eqb-true, lt-ltb, ltb-true}
use Rattle.std.proofs.lemmas.Option.{none-some, same_Some}
use Rattle.git_objects.specs.Entries.{AreEntries, Before, dir_key, entry_component, entry_dir, is_dir}
use Rattle.git_objects.specs.Paths.{Bytes, same_bytes}
use Rattle.git_objects.specs.declared.entry.Entry.{Entry}
use Rattle.path_trees.specs.Listed.{entry_at, found, found_at}
use Rattle.path_trees.specs.Searches.{precedes, IsBehind, IsFrom, IsSearch}

-- ---- components below others

-- how two bytes in front decide
heads : (x y : ℕ) (r : Bool) → cond (x == y) r (nat_lt x y) ≡ true → ((x ≡ y) × (r ≡ true)) ⊎ (x < y)
heads x y r h = by (x == y) refl h
  where
    by : (b : Bool) → (x == y) ≡ b → cond b r (nat_lt x y) ≡ true → ((x ≡ y) × (r ≡ true)) ⊎ (x < y)
    by true e k = inl (eqb-true x y e, k)
    by false e k = inr (ltb-true x y k)

same_heads : (x y : ℕ) (r : Bool) → x ≡ y → cond (x == y) r (nat_lt x y) ≡ r
same_heads x y r e = ap (λ b. cond b r (nat_lt x y)) (eq-eqb x y e)

less_heads : (x y : ℕ) (r : Bool) → x < y → cond (x == y) r (nat_lt x y) ≡ true
less_heads x y r l = by (x == y) refl
  where
    by : (b : Bool) → (x == y) ≡ b → cond b r (nat_lt x y) ≡ true
    by true e = let same = eqb-true x y e in absurd (omega arith)
    by false e = lt-ltb x y l

none_below : (a : Bytes) → precedes a [] ≡ false
none_below [] = refl
none_below (x ∷ a) = refl

-- where the shorter one ends, none is below the other
pub below_end : (a b : Bytes) (i : ℕ) → min (length a) (length b) ≤ i → precedes (drop i a) (drop i b) ≡ false
below_end [] b zero l = refl
below_end [] b (suc i) l = refl
below_end (x ∷ a) [] zero l = refl
below_end (x ∷ a) [] (suc i) l = none_below (drop i a)
below_end (x ∷ a) (y ∷ b) zero l = absurd (omega arith)
below_end (x ∷ a) (y ∷ b) (suc i) l = below_end a b i (omega arith)

pub not_below : (c : Bytes) → precedes c c ≡ false
not_below [] = refl
not_below (x ∷ c) = same_heads x x (precedes c c) refl ∙ not_below c

below_then : (a b c : Bytes) → precedes a b ≡ true → precedes b c ≡ true → precedes a c ≡ true
below_then [] b c h k = absurd (true≢false (sym h))
below_then (x ∷ a) [] c h k = absurd (true≢false (sym h))
below_then (x ∷ a) (y ∷ b) [] h k = absurd (true≢false (sym k))
below_then (x ∷ a) (y ∷ b) (z ∷ c) h k = by (below_then a b c) (heads x y (precedes a b) h) (heads y z (precedes b c) k)
  where
    by : (precedes a b ≡ true → precedes b c ≡ true → precedes a c ≡ true) → ((x ≡ y) × (precedes a b ≡ true)) ⊎ (x < y) → ((y ≡ z) × (precedes b c ≡ true)) ⊎ (y < z) → cond (x == z) (precedes a c) (nat_lt x z) ≡ true
    by then (inl m) (inl n) = same_heads x z (precedes a c) (m.0 ∙ n.0) ∙ then m.1 n.1
    by then (inl m) (inr l) = let same = m.0 in less_heads x z (precedes a c) (omega arith)
    by then (inr l) (inl n) = let same = n.0 in less_heads x z (precedes a c) (omega arith)
    by then (inr l) (inr m) = less_heads x z (precedes a c) (omega arith)

-- it stands before, whatever follows the two
below_before : (c d u v : Bytes) → precedes c d ≡ true → slice_cmp nat_cmp (d ++ u) (c ++ v) ≡ Greater
below_before [] d u v h = absurd (true≢false (sym h))
below_before (x ∷ c) [] u v h = absurd (true≢false (sym h))
below_before (x ∷ c) (y ∷ d) u v h = by (below_before c d u v) (heads x y (precedes c d) h)
  where
    by : (precedes c d ≡ true → slice_cmp nat_cmp (d ++ u) (c ++ v) ≡ Greater) → ((x ≡ y) × (precedes c d ≡ true)) ⊎ (x < y) → slice_cmp nat_cmp (y ∷ d ++ u) (x ∷ c ++ v) ≡ Greater
    by rest (inl m) = ap (λ o. ordering_then o (slice_cmp nat_cmp (d ++ u) (c ++ v))) (sym (nat_cmp_is y x Equal (sym m.0))) ∙ rest m.1
    by rest (inr l) = ap (λ o. ordering_then o (slice_cmp nat_cmp (d ++ u) (c ++ v))) (sym (nat_cmp_is y x Greater l))

keys_before : (c d : Bytes) (s t : Bool) → precedes c d ≡ true → slice_cmp nat_cmp (dir_key d s) (dir_key c t) ≡ Greater
keys_before c d s t h = (λ i. slice_cmp nat_cmp (key_is d s i) (key_is c t i)) ∙ below_before c d (tail s) (tail t) h
  where
    tail : Bool → Bytes
    tail true = 47 ∷ []
    tail false = []

    key_is : (b : Bytes) (s : Bool) → dir_key b s ≡ b ++ tail s
    key_is b true = refl
    key_is b false = sym (append-nil b)

-- ---- one entry passed

other : (c d : Bytes) → (c ≡ d → ⊥) → same_bytes c d ≡ false
other c d h = by (same_bytes c d) refl
  where
    by : (b : Bool) → same_bytes c d ≡ b → b ≡ false
    by true e = absurd (h ((bytes_decides c d).0 e))
    by false e = refl

-- an entry that the component is not below is of none above it
behind_next : (c : Bytes) (all es : List Entry) (e : Entry) → precedes c e.component ≡ false → IsBehind c all (e ∷ es) → IsBehind c all es
behind_next c all es e n h = record {
  order = h.order.2;
  above = λ d b. ap (λ v. option_map found (cond v (Some e) (entry_at d es))) (sym (other d e.component (λ same. true≢false (sym b ∙ ap (precedes c) same ∙ n)))) ∙ h.above d b;
}

-- no entry behind one that the component is below has the component
pub none_later : (c : Bytes) (e : Entry) (es : List Entry) → precedes c e.component ≡ true → Before entry_component entry_dir e es → found_at c es ≡ None
none_later c e [] b h = refl
none_later c e (d ∷ es) b h = ap (λ v. option_map found (cond v (Some d) (entry_at c es))) (other c d.component apart) ∙ none_later c e es b h.2
  where
    apart : c ≡ d.component → ⊥
    apart same =
        let order = sym (keys_before c e.component (is_dir e.mode) (is_dir d.mode) b) ∙ ap (λ x. slice_cmp nat_cmp (dir_key e.component (is_dir e.mode)) (dir_key x (is_dir d.mode))) same ∙ h.0 in cc

module _ (c : Bytes) (all ahead rest more : List Entry) (e : Entry) (same : ahead ≡ rest) (first : Some e ≡ slice_get ahead 0) (after : more ≡ drop 1 ahead) (from : IsFrom c all rest) where
  rest_is : rest ≡ e ∷ more
  rest_is = by rest (first ∙ ap (λ (es : List Entry). slice_get es 0) same) (after ∙ ap (drop 1) same)
    where
      by : (es : List Entry) → Some e ≡ slice_get es 0 → more ≡ drop 1 es → es ≡ e ∷ more
      by [] f a = absurd (none-some e (sym f))
      by (d ∷ es) f a = λ i. sym (same_Some e d f) i ∷ sym a i

  at_entry : IsFrom c all (e ∷ more)
  at_entry = subst (IsFrom c all) rest_is from

  pub passed_by : same_bytes c e.component ≡ false → precedes c e.component ≡ false → IsFrom c all more
  passed_by s n = record {
    behind = behind_next c all more e n at_entry.behind;
    here = ap (λ v. option_map found (cond v (Some e) (entry_at c more))) (sym s) ∙ at_entry.here;
  }

  pub behind_found : c ≡ e.component → IsBehind c all more
  behind_found here = behind_next c all more e (ap (precedes c) (sym here) ∙ not_below c) at_entry.behind

  pub none_left : same_bytes c e.component ≡ false → precedes c e.component ≡ true → None ≡ found_at c all
  none_left s b =
      sym (none_later c e more b at_entry.behind.order.1)
      ∙ ap (λ v. option_map found (cond v (Some e) (entry_at c more))) (sym s)
      ∙ at_entry.here

-- ---- where a search begins and ends

-- what is left serves, where the component is above the last one
pub from_rest : (last c : Bytes) (all rest : List Entry) → precedes last c ≡ true → IsBehind last all rest → IsFrom c all rest
from_rest last c all rest b h = record {
  behind = record { order = h.order; above = λ d k. h.above d (below_then last c d b k) };
  here = h.above c b;
}

pub behind_then : (c : Bytes) (all from rest : List Entry) → IsFrom c all from → IsBehind c from rest → IsBehind c all rest
behind_then c all from rest f h = record { order = h.order; above = λ d b. h.above d b ∙ f.behind.above d b }

-- a search that has taken no step
pub at_front : (all rest : List Entry) → rest ≡ all → AreEntries all → IsSearch [] all rest
at_front all rest same h = record { order = h; behind = subst (IsBehind [] all) (sym same) (record { order = h; above = λ d b. refl }) }

-- Look-ups and settings, in the code's map and in the pairs.
use Rattle.std.proofs.Common.{◌≡◌, ℕ, zero, suc, Bool, true, false, cond, ◌⊎◌, inl, inr, List, [], ◌∷◌, length, slice_get, Some, None, refl, sym, ap, ◌∙◌, true≢false}
use Rattle.std.specs.Option.{option_map}
use Rattle.std.specs.Map.{lookup}
use Rattle.std.specs.Cmp.Lexicographic.{bytes_decides}
use Rattle.std.proofs.lemmas.Option.{none-some, same_Some}
use Rattle.indexmap.specs.IndexMap.{insert_entry}
use Rattle.git_objects.specs.Paths.{Bytes, same_bytes}
use Rattle.git_objects.specs.declared.name.Name.{Name}
use Rattle.git_objects.proofs.Basics.{same_bytes-self, same_bytes-back}
use Rattle.ref_store.specs.Refs.{head_of, with_head, AreDistinct}
use Rattle.ref_store.specs.Pairs.{name_bytes, pair, pairs}

pub head-lookup : (n : Bytes) (es : List (Bytes × Name)) → option_map name_bytes (lookup (same_bytes n) es) ≡ head_of (pairs es) n
head-lookup n [] = refl
head-lookup n (e ∷ es) =
    elim (same_bytes n e.0) as (λ b. option_map name_bytes (cond b (Some e.1) (lookup (same_bytes n) es)) ≡ cond b (Some e.1.0) (head_of (pairs es) n)) [
      | true ↦ refl
      | false ↦ head-lookup n es
    ]
    ∙ ap (λ b. cond b (Some e.1.0) (head_of (pairs es) n)) (same_bytes-back n e.0)

pub pairs-insert : (n : Bytes) (c : Name) (es : List (Bytes × Name)) → pairs (insert_entry same_bytes es n c) ≡ with_head (pairs es) n c.0
pairs-insert n c [] = refl
pairs-insert n c (e ∷ es) =
    elim (same_bytes n e.0) as (λ b. pairs (cond b ((e.0, c) ∷ es) (e ∷ insert_entry same_bytes es n c)) ≡ cond b ((e.0, c.0) ∷ pairs es) (pair e ∷ with_head (pairs es) n c.0)) [
      | true ↦ refl
      | false ↦ ap (λ (rs : List (Bytes × Bytes)). pair e ∷ rs) (pairs-insert n c es)
    ]
    ∙ ap (λ b. cond b ((e.0, c.0) ∷ pairs es) (pair e ∷ with_head (pairs es) n c.0)) (same_bytes-back n e.0)

-- ---- what a setting leaves

pub head-set : (refs : List (Bytes × Bytes)) (n c : Bytes) → head_of (with_head refs n c) n ≡ Some c
head-set [] n c = ap (λ b. cond b (Some c) None) (same_bytes-self n)
head-set (r ∷ refs) n c =
    elim (same_bytes r.0 n) as (λ b. same_bytes r.0 n ≡ b → head_of (cond b ((r.0, c) ∷ refs) (r ∷ with_head refs n c)) n ≡ Some c) [
      | true ↦ λ e. ap (λ b. cond b (Some c) (head_of refs n)) e
      | false ↦ λ e. ap (λ b. cond b (Some r.1) (head_of (with_head refs n c) n)) e ∙ head-set refs n c
    ] refl

pub head-others : (refs : List (Bytes × Bytes)) (n c m : Bytes) → same_bytes n m ≡ false → head_of (with_head refs n c) m ≡ head_of refs m
head-others [] n c m h = ap (λ b. cond b (Some c) None) h
head-others (r ∷ refs) n c m h =
    elim (same_bytes r.0 n) as (λ b. same_bytes r.0 n ≡ b → head_of (cond b ((r.0, c) ∷ refs) (r ∷ with_head refs n c)) m ≡ cond (same_bytes r.0 m) (Some r.1) (head_of refs m)) [
      | true ↦ λ e.
          let other : same_bytes r.0 m ≡ false = ap (λ k. same_bytes k m) ((bytes_decides r.0 n).0 e) ∙ h in
          ap (λ b. cond b (Some c) (head_of refs m)) other ∙ ap (λ b. cond b (Some r.1) (head_of refs m)) (sym other)
      | false ↦ λ e. ap (cond (same_bytes r.0 m) (Some r.1)) (head-others refs n c m h)
    ] refl

-- no pair has that ref name
abbrev IsNew : List (Bytes × Bytes) → Bytes → Type 0
IsNew refs n = (j : ℕ) (s : Bytes × Bytes) → slice_get refs j ≡ Some s → s.0 ≡ n → ⊥

-- a pair after a setting has the ref name that stood at its place, or is the new one behind all
abbrev Stands : List (Bytes × Bytes) → Bytes → ℕ → Bytes × Bytes → Type 0
Stands refs n i r = ((s : Bytes × Bytes) × (slice_get refs i ≡ Some s) × (s.0 ≡ r.0)) ⊎ ((i ≡ length refs) × (r.0 ≡ n) × IsNew refs n)

new-behind : (q : Bytes × Bytes) (refs : List (Bytes × Bytes)) (n : Bytes) → same_bytes q.0 n ≡ false → IsNew refs n → IsNew (q ∷ refs) n
new-behind q refs n h new zero s e f = true≢false (sym ((bytes_decides q.0 n).1 (ap (λ (t : Bytes × Bytes). t.0) (same_Some q s e) ∙ f)) ∙ h)
new-behind q refs n h new (suc j) s e f = new j s e f

stands : (refs : List (Bytes × Bytes)) (n c : Bytes) (i : ℕ) (r : Bytes × Bytes) → slice_get (with_head refs n c) i ≡ Some r → Stands refs n i r
stands [] n c zero r e = inr (refl, ap (λ (t : Bytes × Bytes). t.0) (sym (same_Some (n, c) r e)), λ j s f _. none-some s f)
stands [] n c (suc i) r e = absurd (none-some r e)
stands (q ∷ refs) n c i r e = by (same_bytes q.0 n) refl i (λ k f. stands refs n c k r f) e
  where
    by : (b : Bool) → same_bytes q.0 n ≡ b → (k : ℕ) → ((l : ℕ) → slice_get (with_head refs n c) l ≡ Some r → Stands refs n l r) → slice_get (cond b ((q.0, c) ∷ refs) (q ∷ with_head refs n c)) k ≡ Some r → Stands (q ∷ refs) n k r
    by true h zero rest f = inl (q, refl, ap (λ (t : Bytes × Bytes). t.0) (same_Some (q.0, c) r f))
    by true h (suc k) rest f = inl (r, f, refl)
    by false h zero rest f = inl (q, refl, ap (λ (t : Bytes × Bytes). t.0) (same_Some q r f))
    by false h (suc k) rest f = elim (rest k f) [
      | inl s ↦ inl (s.0, s.1, s.2)
      | inr w ↦ inr (ap suc w.0, w.1, new-behind q refs n h w.2)
    ]

pub distinct-set : (refs : List (Bytes × Bytes)) (n c : Bytes) → AreDistinct refs → AreDistinct (with_head refs n c)
distinct-set refs n c d i j r s e f q =
    elim (stands refs n c i r e) [
      | inl a ↦ elim (stands refs n c j s f) [
        | inl b ↦ d i j a.0 b.0 a.1 b.1 (a.2 ∙ q ∙ sym b.2)
        | inr b ↦ absurd (b.2 i a.0 a.1 (a.2 ∙ q ∙ b.1))
      ]
      | inr a ↦ elim (stands refs n c j s f) [
        | inl b ↦ absurd (a.2 j b.0 b.1 (b.2 ∙ sym q ∙ a.1))
        | inr b ↦ a.0 ∙ sym b.0
      ]
    ]

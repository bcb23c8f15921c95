-- The keys of two entries are compared by fronts of one length, and then by what is left.
use Rattle.std.proofs.Common.{◌≡◌, ℕ, zero, suc, ◌≤◌, Bool, true, false, [], ◌∷◌, ◌++◌, length, take, drop, refl, sym, ap, ◌∙◌, arith, append-nil}
use Rattle.std.specs.declared.cmp.Ordering.{Ordering}
use Rattle.std.specs.declared.cmp.Ordering.TheVariants.{Less, Equal, Greater}
use Rattle.std.specs.Ordering.{nat_cmp, ordering_then}
use Rattle.std.specs.Cmp.Lexicographic.{slice_cmp}
use Rattle.git_objects.specs.Paths.{Bytes}
use Rattle.git_objects.specs.Entries.{dir_key}
use Rattle.git_objects.proofs.Texts.{then_assoc}

-- a key is the component and what stands behind it
pub key_joined : (c s : Bytes) (v : Bool) → s ≡ dir_key [] v → c ++ s ≡ dir_key c v
key_joined c s true e = ap (λ (t : Bytes). c ++ t) e
key_joined c s false e = ap (λ (t : Bytes). c ++ t) e ∙ append-nil c

fronts : (n : ℕ) (c d s t : Bytes) → n ≤ length c → n ≤ length d
    → slice_cmp nat_cmp (c ++ s) (d ++ t) ≡ ordering_then (slice_cmp nat_cmp (take n c) (take n d)) (slice_cmp nat_cmp (drop n c ++ s) (drop n d ++ t))
fronts zero c d s t p q = refl
fronts (suc n) [] d s t p q = absurd (omega arith)
fronts (suc n) (x ∷ c) [] s t p q = absurd (omega arith)
fronts (suc n) (x ∷ c) (y ∷ d) s t p q =
    ap (ordering_then (nat_cmp x y)) (fronts n c d s t (omega arith) (omega arith))
    ∙ then_assoc (nat_cmp x y) (slice_cmp nat_cmp (take n c) (take n d)) (slice_cmp nat_cmp (drop n c ++ s) (drop n d ++ t))

module _ (n : ℕ) (c d : Bytes) (v w : Bool) (p : n ≤ length c) (q : n ≤ length d) where
  abbrev front : Ordering
  front = slice_cmp nat_cmp (take n c) (take n d)

  keys_fronts : slice_cmp nat_cmp (dir_key c v) (dir_key d w) ≡ ordering_then front (slice_cmp nat_cmp (dir_key (drop n c) v) (dir_key (drop n d) w))
  keys_fronts =
      sym (λ i. slice_cmp nat_cmp (key_joined c (dir_key [] v) v refl i) (key_joined d (dir_key [] w) w refl i))
      ∙ fronts n c d (dir_key [] v) (dir_key [] w) p q
      ∙ (λ i. ordering_then front (slice_cmp nat_cmp (key_joined (drop n c) (dir_key [] v) v refl i) (key_joined (drop n d) (dir_key [] w) w refl i)))

  pub front_ties : Equal ≡ front → slice_cmp nat_cmp (dir_key (drop n c) v) (dir_key (drop n d) w) ≡ slice_cmp nat_cmp (dir_key c v) (dir_key d w)
  front_ties e = ap (λ o. ordering_then o (slice_cmp nat_cmp (dir_key (drop n c) v) (dir_key (drop n d) w))) e ∙ sym keys_fronts

  pub front_decides : (front ≡ Equal → ⊥) → front ≡ slice_cmp nat_cmp (dir_key c v) (dir_key d w)
  front_decides h = decided front _ h ∙ sym keys_fronts
    where
      decided : (o r : Ordering) → (o ≡ Equal → ⊥) → o ≡ ordering_then o r
      decided Less r h = refl
      decided Equal r h = absurd (h refl)
      decided Greater r h = refl

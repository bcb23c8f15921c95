-- The order of components' bytes.
use Rattle.std.proofs.Common.{◌≡◌, ℕ, ◌≤◌, Bool, true, false, [], ◌∷◌, length, refl, sym, ap, ◌∙◌, arith, true≢false}
use Rattle.std.specs.declared.cmp.Ordering.{Ordering}
use Rattle.std.specs.declared.cmp.Ordering.TheVariants.{Less, Equal, Greater}
use Rattle.std.specs.Ordering.{nat_cmp, ordering_reverse, ordering_then, is_lt}
use Rattle.std.specs.Cmp.{nat_cmp_total}
use Rattle.std.specs.Cmp.Lexicographic.{bytes_decides, nat_list_cmp_total, slice_cmp}
use Rattle.std.specs.FinMap.{slice_cmp-IsAntisymmetric, nat_cmp-IsAntisymmetric}
use Rattle.git_objects.specs.Paths.{Bytes, same_bytes}
use Rattle.git_objects.specs.Entries.{dir_key}
use Rattle.git_objects.proofs.Basics.{same_bytes-back}
use Rattle.stage_nodes.specs.Forests.{bytes_cmp}

own_reverse : (o : Ordering) → o ≡ ordering_reverse o → o ≡ Equal
own_reverse Less h = absurd cc
own_reverse Equal h = refl
own_reverse Greater h = absurd cc

pub cmp_self : (c : Bytes) → bytes_cmp c c ≡ Equal
cmp_self c = own_reverse (bytes_cmp c c) (nat_list_cmp_total.antisymm c c)

less_not_equal : Less ≡ Equal → ⊥
less_not_equal h = cc

pub less_apart : (c d : Bytes) → bytes_cmp c d ≡ Less → same_bytes c d ≡ false
less_apart c d h = by (same_bytes c d) refl
  where
    by : (b : Bool) → same_bytes c d ≡ b → same_bytes c d ≡ false
    by true e = absurd (less_not_equal (sym h ∙ ap (λ x. bytes_cmp x d) ((bytes_decides c d).0 e) ∙ cmp_self d))
    by false e = e

pub less_apart_back : (c d : Bytes) → bytes_cmp c d ≡ Less → same_bytes d c ≡ false
less_apart_back c d h = same_bytes-back d c ∙ less_apart c d h

pub less_trans : (c d e : Bytes) → bytes_cmp c d ≡ Less → bytes_cmp d e ≡ Less → bytes_cmp c e ≡ Less
less_trans c d e h g = nat_list_cmp_total.trans c d e h g

other_order : (o : Ordering) → is_lt o ≡ false → (o ≡ Equal → ⊥) → ordering_reverse o ≡ Less
other_order Less h n = absurd (true≢false h)
other_order Equal h n = absurd (n refl)
other_order Greater h n = refl

-- a sibling that is not before a component, and is another, is behind it
pub less_back : (c d : Bytes) → is_lt (bytes_cmp d c) ≡ false → same_bytes c d ≡ false → bytes_cmp c d ≡ Less
less_back c d h s =
    nat_list_cmp_total.antisymm c d
    ∙ other_order (bytes_cmp d c) h (λ e. true≢false (sym ((bytes_decides c d).1 (sym (slice_cmp-IsAntisymmetric nat_cmp-IsAntisymmetric _ _ e))) ∙ s))

-- ---- what stands behind another component by its bytes, in Git's order

key_first : (x : ℕ) (a : Bytes) (v : Bool) → dir_key (x ∷ a) v ≡ x ∷ dir_key a v
key_first x a true = refl
key_first x a false = refl

then_not : (o p q r : Ordering) → p ≡ ordering_reverse o → ordering_then o r ≡ Less → (r ≡ Less → is_lt q ≡ false) → is_lt (ordering_then p q) ≡ false
then_not Less p q r e h g = ap (λ (t : Ordering). is_lt (ordering_then t q)) e
then_not Equal p q r e h g = ap (λ (t : Ordering). is_lt (ordering_then t q)) e ∙ g h
then_not Greater p q r e h g = absurd cc

-- it stands behind a file, and behind a directory whose component is as long
pub keys_kept : (a c : Bytes) (v w : Bool) → (v ≡ true → length c ≤ length a) → bytes_cmp a c ≡ Less → is_lt (slice_cmp nat_cmp (dir_key c w) (dir_key a v)) ≡ false
keys_kept [] [] v w g h = absurd cc
keys_kept [] (y ∷ c) true w g h = absurd (omega (arith, g refl))
keys_kept [] (y ∷ c) false w g h = ap (λ (k : Bytes). is_lt (slice_cmp nat_cmp k [])) (key_first y c w)
keys_kept (x ∷ a) [] v w g h = absurd cc
keys_kept (x ∷ a) (y ∷ c) v w g h =
    (λ i. is_lt (slice_cmp nat_cmp (key_first y c w i) (key_first x a v i)))
    ∙ then_not (nat_cmp x y) (nat_cmp y x) (slice_cmp nat_cmp (dir_key c w) (dir_key a v)) (bytes_cmp a c) (nat_cmp_total.antisymm y x) h (keys_kept a c v w (λ e. omega (arith, g e)))

-- and the other way: what stands behind it in Git's order, by its bytes. It does where it is a file, and where its
-- component is as long
pub bytes_kept : (a c : Bytes) (v w : Bool) → (w ≡ true → length a ≤ length c) → slice_cmp nat_cmp (dir_key a v) (dir_key c w) ≡ Less → same_bytes a c ≡ false → bytes_cmp a c ≡ Less
bytes_kept a c v w g h n = less_back a c (by (bytes_cmp c a) refl) n
  where
    by : (o : Ordering) → bytes_cmp c a ≡ o → is_lt (bytes_cmp c a) ≡ false
    by Less e = absurd (true≢false (sym (ap is_lt h) ∙ keys_kept c a w v g e))
    by Equal e = ap is_lt e
    by Greater e = ap is_lt e

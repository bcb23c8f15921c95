-- Refs in order of arrival, and in byte order.
use Rattle.std.proofs.Common.{◌≡◌, ℕ, zero, suc, true, false, cond, T, [], ◌∷◌, slice_get, Option, Some, None, refl, sym, ap, ◌∙◌, arith}
use Rattle.std.specs.Option.{option_or}
use Rattle.std.specs.FinMap.{find, put, is_sorted, slice_cmp-IsAntisymmetric, nat_cmp-IsAntisymmetric}
use Rattle.std.specs.FinMap.Entries.{find-put, is_sorted-put, same_entries}
use Rattle.std.specs.Cmp.Lexicographic.{bytes_decides, nat_list_cmp_total, texts_ties}
use Rattle.git_objects.specs.Paths.{Bytes, same_bytes}
use Rattle.git_objects.specs.Refs.{Refs, bytes_cmp}
use Rattle.git_objects.proofs.Basics.{same_bytes-back}
use Rattle.ref_store.specs.Refs.{head_of, with_head, AreDistinct}
use Rattle.ref_store.proofs.Heads.{head-set, head-others, distinct-set}
use Rattle.state_items.specs.Changes.{with_refs}

-- ---- refs without a name

none-of : (n : Bytes) (rs : Refs) → ((j : ℕ) (s : Bytes × Bytes) → slice_get rs j ≡ Some s → s.0 ≡ n → ⊥) → head_of rs n ≡ None
none-of n [] h = refl
none-of n (r ∷ rs) h =
    let later = none-of n rs (λ j s e. h (suc j) s e) in
    elim (same_bytes r.0 n) as (λ b. same_bytes r.0 n ≡ b → cond b (Some r.1) (head_of rs n) ≡ None) [
      | true ↦ λ e. absurd (h zero r refl ((bytes_decides r.0 n).0 e))
      | false ↦ λ e. later
    ] refl

first-alone : (r : Bytes × Bytes) (rs : Refs) → AreDistinct (r ∷ rs) → head_of rs r.0 ≡ None
first-alone r rs d = none-of r.0 rs (λ j s e q. zero-suc j (d zero (suc j) r s refl e (sym q)))
  where
    zero-suc : (j : ℕ) → zero ≡ suc j → ⊥
    zero-suc j e = omega arith

rest-distinct : (r : Bytes × Bytes) (rs : Refs) → AreDistinct (r ∷ rs) → AreDistinct rs
rest-distinct r rs d i j a b e f q = less i j (d (suc i) (suc j) a b e f q)
  where
    less : (i j : ℕ) → suc i ≡ suc j → i ≡ j
    less i j e = omega arith

-- ---- found

find-arrived : (q : Bytes) (rs m : Refs) → AreDistinct rs → find bytes_cmp q (with_refs m rs) ≡ option_or (head_of rs q) (find bytes_cmp q m)
find-arrived q [] m d = refl
find-arrived q (r ∷ rs) m d =
    find-arrived q rs (put bytes_cmp r.0 r.1 m) (rest-distinct r rs d)
    ∙ ap (option_or (head_of rs q)) (find-put bytes_cmp nat_list_cmp_total q r.0 r.1 m ∙ ap (λ b. cond b (Some r.1) (find bytes_cmp q m)) (sym (texts_ties q r.0) ∙ same_bytes-back q r.0))
    ∙ elim (same_bytes r.0 q) as (λ b. same_bytes r.0 q ≡ b → option_or (head_of rs q) (cond b (Some r.1) (find bytes_cmp q m)) ≡ option_or (cond b (Some r.1) (head_of rs q)) (find bytes_cmp q m)) [
      | true ↦ λ e. ap (λ o. option_or o (Some r.1)) (ap (head_of rs) (sym ((bytes_decides r.0 q).0 e)) ∙ first-alone r rs d)
      | false ↦ λ e. refl
    ] refl

-- the commit of a ref is found in the refs by their byte order
pub head-found : (q : Bytes) (rs : Refs) → AreDistinct rs → head_of rs q ≡ find bytes_cmp q (with_refs [] rs)
head-found q rs d = sym (find-arrived q rs [] d ∙ or-none (head_of rs q))
  where
    or-none : (o : Option Bytes) → option_or o None ≡ o
    or-none None = refl
    or-none (Some x) = refl

sorted-arrived : (rs m : Refs) → T (is_sorted bytes_cmp m) → T (is_sorted bytes_cmp (with_refs m rs))
sorted-arrived [] m h = h
sorted-arrived (r ∷ rs) m h = sorted-arrived rs (put bytes_cmp r.0 r.1 m) (is_sorted-put bytes_cmp nat_list_cmp_total r.0 r.1 m h)

-- a ref that is set, in byte order
pub sorted-head : (rs : Refs) (n c : Bytes) → AreDistinct rs → with_refs [] (with_head rs n c) ≡ put bytes_cmp n c (with_refs [] rs)
sorted-head rs n c d =
    same_entries bytes_cmp nat_list_cmp_total (slice_cmp-IsAntisymmetric nat_cmp-IsAntisymmetric) (with_refs [] (with_head rs n c)) (put bytes_cmp n c (with_refs [] rs))
    (sorted-arrived (with_head rs n c) [] tt) (is_sorted-put bytes_cmp nat_list_cmp_total n c (with_refs [] rs) (sorted-arrived rs [] tt)) same
  where
    or-none : (o : Option Bytes) → option_or o None ≡ o
    or-none None = refl
    or-none (Some x) = refl

    set : (q : Bytes) → head_of (with_head rs n c) q ≡ cond (same_bytes n q) (Some c) (head_of rs q)
    set q =
        elim (same_bytes n q) as (λ b. same_bytes n q ≡ b → head_of (with_head rs n c) q ≡ cond b (Some c) (head_of rs q)) [
          | true ↦ λ e. ap (head_of (with_head rs n c)) (sym ((bytes_decides n q).0 e)) ∙ head-set rs n c
          | false ↦ λ e. head-others rs n c q e
        ] refl

    found : (q : Bytes) (ts : Refs) → AreDistinct ts → find bytes_cmp q (with_refs [] ts) ≡ head_of ts q
    found q ts t = find-arrived q ts [] t ∙ or-none (head_of ts q)

    same : (q : Bytes) → find bytes_cmp q (with_refs [] (with_head rs n c)) ≡ find bytes_cmp q (put bytes_cmp n c (with_refs [] rs))
    same q =
        found q (with_head rs n c) (distinct-set rs n c d)
        ∙ set q
        ∙ (λ i. cond ((same_bytes-back n q ∙ texts_ties q n) i) (Some c) (sym (found q rs d) i))
        ∙ sym (find-put bytes_cmp nat_list_cmp_total q n c (with_refs [] rs))

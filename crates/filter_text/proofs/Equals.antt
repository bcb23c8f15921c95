-- The test of sameness.
use Rattle.std.proofs.Common.{◌≡◌, true, true≢false, [], ◌∷◌, refl, sym, ap}
use Rattle.std.specs.Cmp.{first_so, second_so}
use Rattle.std.specs.Cmp.Lexicographic.{bytes_decides}
use Rattle.git_objects.specs.Paths.{Path, same_bytes, same_path}
use Rattle.git_objects.proofs.Basics.{and_both, same_bytes-self}
use Rattle.filter_text.specs.Filters.{Filter, Filters, nop, sub, onto, dir, file, exclude, join, chain, workspace, no_more, more, same_filter, same_filters}

path-equal : (p q : Path) → same_path p q ≡ true → p ≡ q
path-equal [] [] h = refl
path-equal [] (d ∷ q) h = absurd (true≢false (sym h))
path-equal (c ∷ p) [] h = absurd (true≢false (sym h))
path-equal (c ∷ p) (d ∷ q) h =
    let c_is : c ≡ d = (bytes_decides c d).0 (first_so (same_bytes c d) (same_path p q) h) in
    let p_is = path-equal p q (second_so (same_bytes c d) (same_path p q) h) in
    λ i. c_is i ∷ p_is i

path-same : (p : Path) → same_path p p ≡ true
path-same [] = refl
path-same (c ∷ p) = and_both (same_bytes-self c) (path-same p)

mutual
  pub filter-equal : (f g : Filter) → same_filter f g ≡ true → f ≡ g
  filter-equal nop nop h = refl
  filter-equal (sub p) (sub q) h = ap sub (path-equal p q h)
  filter-equal (onto p) (onto q) h = ap onto (path-equal p q h)
  filter-equal (dir p) (dir q) h = ap dir (path-equal p q h)
  filter-equal (file p) (file q) h = ap file (path-equal p q h)
  filter-equal (exclude f) (exclude g) h = ap exclude (filter-equal f g h)
  filter-equal (join fs) (join gs) h = ap join (filters-equal fs gs h)
  filter-equal (chain fs) (chain gs) h = ap chain (filters-equal fs gs h)
  filter-equal (workspace p) (workspace q) h = ap workspace (path-equal p q h)
  filter-equal f g h = absurd (true≢false (sym h))

  filters-equal : (fs gs : Filters) → same_filters fs gs ≡ true → fs ≡ gs
  filters-equal no_more no_more h = refl
  filters-equal (more f fs) (more g gs) h =
      let f_is = filter-equal f g (first_so (same_filter f g) (same_filters fs gs) h) in
      let fs_is = filters-equal fs gs (second_so (same_filter f g) (same_filters fs gs) h) in
      λ i. more (f_is i) (fs_is i)
  filters-equal fs gs h = absurd (true≢false (sym h))

mutual
  pub filter-same : (f : Filter) → same_filter f f ≡ true
  filter-same nop = refl
  filter-same (sub p) = path-same p
  filter-same (onto p) = path-same p
  filter-same (dir p) = path-same p
  filter-same (file p) = path-same p
  filter-same (exclude f) = filter-same f
  filter-same (join fs) = filters-same fs
  filter-same (chain fs) = filters-same fs
  filter-same (workspace p) = path-same p

  filters-same : (fs : Filters) → same_filters fs fs ≡ true
  filters-same no_more = refl
  filters-same (more f fs) = and_both (filter-same f) (filters-same fs)

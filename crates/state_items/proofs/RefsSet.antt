-- Refs after some were set: those that name their commit already needn't be set.
use Rattle.std.proofs.Common.{◌≡◌, Bool, true, false, cond, not, T, [], ◌∷◌, filter, Option, Some, None, refl, sym, ap, subst, ◌∙◌, true≢false}
use Rattle.std.specs.Option.{option_map_or, option_or}
use Rattle.std.specs.Ordering.{eq_by_cmp, is_eq, is_lt}
use Rattle.std.specs.declared.cmp.Ordering.{Ordering}
use Rattle.std.specs.declared.cmp.Ordering.TheVariants.{Less, Equal, Greater}
use Rattle.std.specs.FinMap.{find, put, is_sorted, slice_cmp-IsAntisymmetric, nat_cmp-IsAntisymmetric}
use Rattle.std.specs.FinMap.Entries.{below_all, find-put, is_sorted-put}
use Rattle.std.specs.Cmp.Lexicographic.{bytes_decides, nat_list_cmp_total}
use Rattle.git_objects.specs.Paths.{Bytes, same_bytes}
use Rattle.git_objects.proofs.Basics.{both, first, second}
use Rattle.git_objects.specs.Refs.{Refs, bytes_cmp}
use Rattle.state_items.specs.Changes.{is_moved, moved, with_refs}

-- ---- order

pub sorted-with : (es m : Refs) → T (is_sorted bytes_cmp m) → T (is_sorted bytes_cmp (with_refs m es))
sorted-with [] m h = h
sorted-with (e ∷ es) m h = sorted-with es (put bytes_cmp e.0 e.1 m) (is_sorted-put bytes_cmp nat_list_cmp_total e.0 e.1 m h)

pub below-filter : (k : Bytes) (p : Bytes × Bytes → Bool) (m : Refs) → T (below_all bytes_cmp k m) → T (below_all bytes_cmp k (filter p m))
below-filter k p [] h = tt
below-filter k p (d ∷ m) h =
    elim (p d) as (λ b. T (below_all bytes_cmp k (cond b (d ∷ filter p m) (filter p m)))) [
      | true ↦ both _ _ (first _ _ h) (below-filter k p m (second _ _ h))
      | false ↦ below-filter k p m (second _ _ h)
    ]

pub sorted-filter : (p : Bytes × Bytes → Bool) (m : Refs) → T (is_sorted bytes_cmp m) → T (is_sorted bytes_cmp (filter p m))
sorted-filter p [] h = tt
sorted-filter p (d ∷ m) h =
    elim (p d) as (λ b. T (is_sorted bytes_cmp (cond b (d ∷ filter p m) (filter p m)))) [
      | true ↦ both _ _ (below-filter d.0 p m (first _ _ h)) (sorted-filter p m (second _ _ h))
      | false ↦ sorted-filter p m (second _ _ h)
    ]

-- ---- found

not-less : (o : Ordering) → T (is_lt o) → is_eq o ≡ false
not-less Less h = refl
not-less Equal h = absurd h
not-less Greater h = absurd h

find-below : (r : Bytes) (m : Refs) → T (below_all bytes_cmp r m) → find bytes_cmp r m ≡ None
find-below r [] h = refl
find-below r (d ∷ m) h = ap (λ b. cond b (Some d.1) (find bytes_cmp r m)) (not-less (bytes_cmp r d.0) (first _ _ h)) ∙ find-below r m (second _ _ h)

tied : (o : Ordering) → is_eq o ≡ true → o ≡ Equal
tied Less h = absurd (true≢false (sym h))
tied Equal h = refl
tied Greater h = absurd (true≢false (sym h))

same-key : (r k : Bytes) → eq_by_cmp bytes_cmp r k ≡ true → r ≡ k
same-key r k e = slice_cmp-IsAntisymmetric nat_cmp-IsAntisymmetric r k (tied (bytes_cmp r k) e)

none-later : (r : Bytes) (e : Bytes × Bytes) (es : Refs) → eq_by_cmp bytes_cmp r e.0 ≡ true → T (below_all bytes_cmp e.0 es) → find bytes_cmp r es ≡ None
none-later r e es t h = find-below r es (subst (λ (k : Bytes). T (below_all bytes_cmp k es)) (sym (same-key r e.0 t)) h)

pub find-with : (r : Bytes) (es base : Refs) → T (is_sorted bytes_cmp es) → find bytes_cmp r (with_refs base es) ≡ option_or (find bytes_cmp r es) (find bytes_cmp r base)
find-with r [] base h = refl
find-with r (e ∷ es) base h =
    find-with r es (put bytes_cmp e.0 e.1 base) (second _ _ h)
    ∙ ap (option_or (find bytes_cmp r es)) (find-put bytes_cmp nat_list_cmp_total r e.0 e.1 base)
    ∙ elim (eq_by_cmp bytes_cmp r e.0) as (λ b. eq_by_cmp bytes_cmp r e.0 ≡ b →
    option_or (find bytes_cmp r es) (cond b (Some e.1) (find bytes_cmp r base)) ≡ option_or (cond b (Some e.1) (find bytes_cmp r es)) (find bytes_cmp r base)) [
      | true ↦ λ t. ap (λ o. option_or o (Some e.1)) (none-later r e es t (first _ _ h))
      | false ↦ λ t. refl
    ] refl

found-same : (n : Bytes) (o : Option Bytes) → not (option_map_or (same_bytes n) o false) ≡ false → o ≡ Some n
found-same n None e = absurd (true≢false e)
found-same n (Some m) e = ap Some (sym ((bytes_decides n m).0 (by (same_bytes n m) e)))
  where
    by : (b : Bool) → not b ≡ false → b ≡ true
    by true h = refl
    by false h = absurd (true≢false h)

find-moved : (r : Bytes) (refs m : Refs) → T (is_sorted bytes_cmp m) → option_or (find bytes_cmp r (filter (is_moved refs) m)) (find bytes_cmp r refs) ≡ option_or (find bytes_cmp r m) (find bytes_cmp r refs)
find-moved r refs [] h = refl
find-moved r refs (d ∷ m) h =
    let later = filter (is_moved refs) m in
    let rest = find-moved r refs m (second _ _ h) in
    elim (eq_by_cmp bytes_cmp r d.0) as (λ t. eq_by_cmp bytes_cmp r d.0 ≡ t →
    option_or (find bytes_cmp r (cond (is_moved refs d) (d ∷ later) later)) (find bytes_cmp r refs) ≡ option_or (cond t (Some d.1) (find bytes_cmp r m)) (find bytes_cmp r refs)) [
      | true ↦ λ t. elim (is_moved refs d) as (λ b. is_moved refs d ≡ b → option_or (find bytes_cmp r (cond b (d ∷ later) later)) (find bytes_cmp r refs) ≡ Some d.1) [
        | true ↦ λ g. ap (λ b. option_or (cond b (Some d.1) (find bytes_cmp r later)) (find bytes_cmp r refs)) t
        | false ↦ λ g.
            rest ∙ ap (λ o. option_or o (find bytes_cmp r refs)) (none-later r d m t (first _ _ h)) ∙ ap (λ (k : Bytes). find bytes_cmp k refs) (same-key r d.0 t) ∙ found-same d.1 (find bytes_cmp d.0 refs) g
      ] refl
      | false ↦ λ t. elim (is_moved refs d) as (λ b. option_or (find bytes_cmp r (cond b (d ∷ later) later)) (find bytes_cmp r refs) ≡ option_or (find bytes_cmp r m) (find bytes_cmp r refs)) [
        | true ↦ ap (λ b. option_or (cond b (Some d.1) (find bytes_cmp r later)) (find bytes_cmp r refs)) t ∙ rest
        | false ↦ rest
      ]
    ] refl

pub refs-set : (r : Bytes) (refs es : Refs) → find bytes_cmp r (with_refs refs (moved refs es)) ≡ option_or (find bytes_cmp r (with_refs [] es)) (find bytes_cmp r refs)
refs-set r refs es =
    let sorted = sorted-with es [] tt in
    find-with r (moved refs es) refs (sorted-filter (is_moved refs) (with_refs [] es) sorted) ∙ find-moved r refs (with_refs [] es) sorted

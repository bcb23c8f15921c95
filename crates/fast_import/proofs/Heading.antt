-- Branches that are set, beside branches that are set or unset.
use Rattle.std.proofs.Common.{◌≡◌, Bool, true, false, cond, T, List, [], ◌∷◌, Option, Some, None, refl, sym, ap, subst, ◌∙◌}
use Rattle.std.specs.List.{filter_map}
use Rattle.std.specs.Map.{remove_entry}
use Rattle.std.specs.Option.{option_and_then, option_map}
use Rattle.std.specs.Ordering.{is_eq, is_lt, match_ordering}
use Rattle.std.specs.declared.cmp.Ordering.{Ordering}
use Rattle.std.specs.declared.cmp.Ordering.TheVariants.{Less, Equal, Greater}
use Rattle.std.specs.Cmp.Lexicographic.{nat_list_cmp_total}
use Rattle.std.specs.FinMap.{find, put, is_sorted, slice_cmp-IsAntisymmetric, nat_cmp-IsAntisymmetric}
use Rattle.std.specs.FinMap.Entries.{below_all, by_order}
use Rattle.std.specs.Map.{lookup}
use Rattle.std.specs.BTreeMap.{insert_entry}
use Rattle.git_objects.specs.Paths.{Bytes}
use Rattle.git_objects.specs.Refs.{Refs, bytes_cmp}
use Rattle.git_objects.specs.declared.name.Name.{Name}
use Rattle.git_objects.specs.Parts.{name_bytes}
use Rattle.git_objects.proofs.Basics.{both, first, second}
use Rattle.fast_import.specs.Replaying.{head_values, without_ref}

-- ---- the code's map as refs

pub found-heads : (n : Bytes) (es : List (Bytes × Name)) → option_map name_bytes (lookup (λ k. is_eq (bytes_cmp n k)) es) ≡ find bytes_cmp n (head_values es)
found-heads n [] = refl
found-heads n (e ∷ es) = elim (is_eq (bytes_cmp n e.0)) as (λ b. option_map name_bytes (cond b (Some e.1) (lookup (λ k. is_eq (bytes_cmp n k)) es)) ≡ cond b (Some e.1.0) (find bytes_cmp n (head_values es))) [ true ↦ refl | false ↦ found-heads n es ]

pub put-heads : (n : Bytes) (c : Name) (es : List (Bytes × Name)) → head_values (insert_entry bytes_cmp es n c) ≡ put bytes_cmp n c.0 (head_values es)
put-heads n c [] = refl
put-heads n c (e ∷ es) =
    elim (bytes_cmp n e.0) as (λ (o : Ordering). head_values (match_ordering o ((n, c) ∷ e ∷ es) ((e.0, c) ∷ es) (e ∷ insert_entry bytes_cmp es n c))
    ≡ by_order o ((n, c.0) ∷ (e.0, e.1.0) ∷ head_values es) ((e.0, c.0) ∷ head_values es) ((e.0, e.1.0) ∷ put bytes_cmp n c.0 (head_values es))) [
      | Less ↦ refl
      | Equal ↦ refl
      | Greater ↦ ap (λ (t : Refs). (e.0, e.1.0) ∷ t) (put-heads n c es)
    ]

pub removed-heads : (n : Bytes) (es : List (Bytes × Name)) → head_values (remove_entry (λ k. is_eq (bytes_cmp n k)) es) ≡ without_ref n (head_values es)
removed-heads n [] = refl
removed-heads n (e ∷ es) = elim (is_eq (bytes_cmp n e.0)) as (λ b. head_values (cond b es (e ∷ remove_entry (λ k. is_eq (bytes_cmp n k)) es)) ≡ cond b (head_values es) ((e.0, e.1.0) ∷ without_ref n (head_values es))) [ true ↦ refl | false ↦ ap (λ (rs : Refs). (e.0, e.1.0) ∷ rs) (removed-heads n es) ]

-- ---- refs that are set, of branches that are set or unset

abbrev pub Branches : Type 0
Branches = List (Bytes × Option Bytes)

abbrev pub heads : Branches → Refs
heads bs = filter_map (λ b. option_map (λ n. (b.0, n)) b.1) bs

less : (o : Ordering) → T (is_lt o) → o ≡ Less
less Less h = refl
less Equal h = absurd h
less Greater h = absurd h

is_less : (o : Ordering) → o ≡ Less → T (is_lt o)
is_less o e = subst (λ (r : Ordering). T (is_lt r)) (sym e) tt

below-less : {X : Type 0} (x y : Bytes) (es : List (Bytes × X)) → bytes_cmp x y ≡ Less → T (below_all bytes_cmp y es) → T (below_all bytes_cmp x es)
below-less x y [] p h = tt
below-less x y (e ∷ es) p h = both _ _ (is_less _ (nat_list_cmp_total.trans x y e.0 p (less _ (first _ _ h)))) (below-less x y es p (second _ _ h))

below-tied : {X : Type 0} (x y : Bytes) (es : List (Bytes × X)) → bytes_cmp x y ≡ Equal → T (below_all bytes_cmp y es) → T (below_all bytes_cmp x es)
below-tied x y [] p h = tt
below-tied x y (e ∷ es) p h = both _ _ (is_less _ (nat_list_cmp_total.congr x y e.0 p ∙ less _ (first _ _ h))) (below-tied x y es p (second _ _ h))

pub below-heads : (n : Bytes) (bs : Branches) → T (below_all bytes_cmp n bs) → T (below_all bytes_cmp n (heads bs))
below-heads n [] h = tt
below-heads n ((k, None) ∷ bs) h = below-heads n bs (second _ _ h)
below-heads n ((k, Some c) ∷ bs) h = both _ _ (first _ _ h) (below-heads n bs (second _ _ h))

put-below : (n c : Bytes) (hs : Refs) → T (below_all bytes_cmp n hs) → put bytes_cmp n c hs ≡ (n, c) ∷ hs
put-below n c [] h = refl
put-below n c (e ∷ hs) h = ap (λ (o : Ordering). by_order o ((n, c) ∷ e ∷ hs) ((e.0, c) ∷ hs) (e ∷ put bytes_cmp n c hs)) (less _ (first _ _ h))

without-below : (n : Bytes) (hs : Refs) → T (below_all bytes_cmp n hs) → without_ref n hs ≡ hs
without-below n [] h = refl
without-below n (e ∷ hs) h = ap (λ (o : Ordering). cond (is_eq o) hs (e ∷ without_ref n hs)) (less _ (first _ _ h)) ∙ ap (λ (rs : Refs). e ∷ rs) (without-below n hs (second _ _ h))

find-below : (n : Bytes) (hs : Refs) → T (below_all bytes_cmp n hs) → find bytes_cmp n hs ≡ None
find-below n [] h = refl
find-below n (e ∷ hs) h = ap (λ (o : Ordering). cond (is_eq o) (Some e.1) (find bytes_cmp n hs)) (less _ (first _ _ h)) ∙ find-below n hs (second _ _ h)

same_ref : (n k : Bytes) → bytes_cmp n k ≡ Equal → n ≡ k
same_ref n k e = slice_cmp-IsAntisymmetric nat_cmp-IsAntisymmetric n k e

-- a branch that is set
put_here : (n c k : Bytes) (x : Option Bytes) (bs : Branches) → bytes_cmp n k ≡ Equal → T (below_all bytes_cmp k bs) → (k, c) ∷ heads bs ≡ put bytes_cmp n c (heads ((k, x) ∷ bs))
put_here n c k None bs q b = ap (λ (m : Bytes). (m, c) ∷ heads bs) (sym (same_ref n k q)) ∙ sym (put-below n c (heads bs) (below-heads n bs (below-tied n k bs q b)))
put_here n c k (Some d) bs q b = sym (ap (λ (o : Ordering). by_order o ((n, c) ∷ (k, d) ∷ heads bs) ((k, c) ∷ heads bs) ((k, d) ∷ put bytes_cmp n c (heads bs))) q)

put_there : (n c k : Bytes) (x : Option Bytes) (bs : Branches) → bytes_cmp n k ≡ Greater → heads (put bytes_cmp n (Some c) bs) ≡ put bytes_cmp n c (heads bs)
    → heads ((k, x) ∷ put bytes_cmp n (Some c) bs) ≡ put bytes_cmp n c (heads ((k, x) ∷ bs))
put_there n c k None bs q h = h
put_there n c k (Some d) bs q h =
    ap (λ (rs : Refs). (k, d) ∷ rs) h
    ∙ sym (ap (λ (o : Ordering). by_order o ((n, c) ∷ (k, d) ∷ heads bs) ((k, c) ∷ heads bs) ((k, d) ∷ put bytes_cmp n c (heads bs))) q)

pub heads-put : (n c : Bytes) (bs : Branches) → T (is_sorted bytes_cmp bs) → heads (put bytes_cmp n (Some c) bs) ≡ put bytes_cmp n c (heads bs)
heads-put n c [] s = refl
heads-put n c ((k, x) ∷ bs) s =
    let rest = heads-put n c bs (second _ _ s) in
    elim (bytes_cmp n k) as (λ (o : Ordering). bytes_cmp n k ≡ o → heads (by_order o ((n, Some c) ∷ (k, x) ∷ bs) ((k, Some c) ∷ bs) ((k, x) ∷ put bytes_cmp n (Some c) bs)) ≡ put bytes_cmp n c (heads ((k, x) ∷ bs))) [
      | Less ↦ λ q. sym (put-below n c (heads ((k, x) ∷ bs)) (below-heads n ((k, x) ∷ bs) (both _ _ (is_less _ q) (below-less n k bs q (first _ _ s)))))
      | Equal ↦ λ q. put_here n c k x bs q (first _ _ s)
      | Greater ↦ λ q. put_there n c k x bs q rest
    ] refl

-- a branch that is unset
unset_here : (n k : Bytes) (x : Option Bytes) (bs : Branches) → bytes_cmp n k ≡ Equal → T (below_all bytes_cmp k bs) → heads bs ≡ without_ref n (heads ((k, x) ∷ bs))
unset_here n k None bs q b = sym (without-below n (heads bs) (below-heads n bs (below-tied n k bs q b)))
unset_here n k (Some d) bs q b = sym (ap (λ (o : Ordering). cond (is_eq o) (heads bs) ((k, d) ∷ without_ref n (heads bs))) q)

unset_there : (n k : Bytes) (x : Option Bytes) (bs : Branches) → bytes_cmp n k ≡ Greater → heads (put bytes_cmp n None bs) ≡ without_ref n (heads bs)
    → heads ((k, x) ∷ put bytes_cmp n None bs) ≡ without_ref n (heads ((k, x) ∷ bs))
unset_there n k None bs q h = h
unset_there n k (Some d) bs q h = ap (λ (rs : Refs). (k, d) ∷ rs) h ∙ sym (ap (λ (o : Ordering). cond (is_eq o) (heads bs) ((k, d) ∷ without_ref n (heads bs))) q)

pub heads-unset : (n : Bytes) (bs : Branches) → T (is_sorted bytes_cmp bs) → heads (put bytes_cmp n None bs) ≡ without_ref n (heads bs)
heads-unset n [] s = refl
heads-unset n ((k, x) ∷ bs) s =
    let rest = heads-unset n bs (second _ _ s) in
    elim (bytes_cmp n k) as (λ (o : Ordering). bytes_cmp n k ≡ o → heads (by_order o ((n, None) ∷ (k, x) ∷ bs) ((k, None) ∷ bs) ((k, x) ∷ put bytes_cmp n None bs)) ≡ without_ref n (heads ((k, x) ∷ bs))) [
      | Less ↦ λ q. sym (without-below n (heads ((k, x) ∷ bs)) (below-heads n ((k, x) ∷ bs) (both _ _ (is_less _ q) (below-less n k bs q (first _ _ s)))))
      | Equal ↦ λ q. unset_here n k x bs q (first _ _ s)
      | Greater ↦ λ q. unset_there n k x bs q rest
    ] refl

-- what a branch names
find_here : (n k : Bytes) (x : Option Bytes) (bs : Branches) → is_eq (bytes_cmp n k) ≡ true → T (below_all bytes_cmp k bs) → x ≡ find bytes_cmp n (heads ((k, x) ∷ bs))
find_here n k None bs q b = sym (find-below n (heads bs) (below-heads n bs (below-tied n k bs (tied (bytes_cmp n k) q) b)))
  where
    tied : (o : Ordering) → is_eq o ≡ true → o ≡ Equal
    tied Less e = absurd cc
    tied Equal e = refl
    tied Greater e = absurd cc
find_here n k (Some d) bs q b = sym (ap (λ (t : Bool). cond t (Some d) (find bytes_cmp n (heads bs))) q)

find_there : (n k : Bytes) (x : Option Bytes) (bs : Branches) → is_eq (bytes_cmp n k) ≡ false → find bytes_cmp n (heads ((k, x) ∷ bs)) ≡ find bytes_cmp n (heads bs)
find_there n k None bs q = refl
find_there n k (Some d) bs q = ap (λ (t : Bool). cond t (Some d) (find bytes_cmp n (heads bs))) q

pub branch-heads : (n : Bytes) (bs : Branches) → T (is_sorted bytes_cmp bs) → option_and_then (λ m. m) (find bytes_cmp n bs) ≡ find bytes_cmp n (heads bs)
branch-heads n [] s = refl
branch-heads n ((k, x) ∷ bs) s =
    let rest = branch-heads n bs (second _ _ s) in
    elim (is_eq (bytes_cmp n k)) as (λ (t : Bool). is_eq (bytes_cmp n k) ≡ t → option_and_then (λ m. m) (cond t (Some x) (find bytes_cmp n bs)) ≡ find bytes_cmp n (heads ((k, x) ∷ bs))) [
      | true ↦ λ q. find_here n k x bs q (first _ _ s)
      | false ↦ λ q. rest ∙ sym (find_there n k x bs q)
    ] refl

-- Tags that are put one behind another in the order of their names.
use Rattle.std.proofs.Common.{◌≡◌, true, List, [], ◌∷◌, ◌++◌, Some, None, refl, sym, ap, ◌∙◌, append_assoc, append-nil}
use Rattle.std.specs.Cmp.{first_so, second_so}
use Rattle.std.specs.Cmp.Lexicographic.{nat_list_cmp_total}
use Rattle.std.specs.FinMap.Entries.{by_order}
use Rattle.std.specs.Ordering.{ordering_reverse}
use Rattle.std.specs.declared.cmp.Ordering.TheVariants.{Less, Greater}
use Rattle.git_objects.specs.Lists.{Each}
use Rattle.git_objects.specs.Paths.{Bytes}
use Rattle.git_objects.specs.Refs.{bytes_cmp}
use Rattle.tag_objects.specs.TagLists.{put_tag, rise, with_tags}
use Rattle.tag_objects.proofs.TagLists.{less}
use Rattle.tag_objects.specs.declared.tag.Tag.{Tag}

-- whatever stands behind a name stands behind the tag
abbrev IsBefore : Bytes → Tag → Type 0
IsBefore n u = (m : Bytes) → bytes_cmp n m ≡ Less → bytes_cmp m u.name ≡ Greater

back : (n m : Bytes) → bytes_cmp n m ≡ Less → bytes_cmp m n ≡ Greater
back n m e = nat_list_cmp_total.antisymm m n ∙ ap ordering_reverse e

put_last : (t : Tag) (us : List Tag) → Each (λ u. bytes_cmp t.name u.name ≡ Greater) us → put_tag t us ≡ us ++ t ∷ []
put_last t [] h = refl
put_last t (u ∷ us) h =
    ap (λ o. by_order o (t ∷ u ∷ us) (t ∷ us) (u ∷ put_tag t us)) h.0
    ∙ ap (λ (ts : List Tag). u ∷ ts) (put_last t us h.1)

all_greater : (n : Bytes) (t : Tag) (us : List Tag) → bytes_cmp n t.name ≡ Less → Each (IsBefore n) us → Each (λ u. bytes_cmp t.name u.name ≡ Greater) us
all_greater n t [] e h = tt
all_greater n t (u ∷ us) e h = (h.0 t.name e, all_greater n t us e h.1)

before_next : (n : Bytes) (t : Tag) (us : List Tag) → bytes_cmp n t.name ≡ Less → Each (IsBefore n) us → Each (IsBefore t.name) (us ++ t ∷ [])
before_next n t [] e h = ((λ m f. back t.name m f), tt)
before_next n t (u ∷ us) e h = ((λ m f. h.0 m (nat_list_cmp_total.trans n t.name m e f)), before_next n t us e h.1)

all_behind : (n : Bytes) (us ts : List Tag) → Each (IsBefore n) us → rise (Some n) ts ≡ true → with_tags us ts ≡ us ++ ts
all_behind n us [] h r = sym (append-nil us)
all_behind n us (t ∷ ts) h r =
    let e : bytes_cmp n t.name ≡ Less = less (bytes_cmp n t.name) (first_so _ _ r) in
    ap (λ vs. with_tags vs ts) (put_last t us (all_greater n t us e h))
    ∙ all_behind t.name (us ++ t ∷ []) ts (before_next n t us e h) (second_so _ _ r)
    ∙ append_assoc us (t ∷ []) ts

-- tags in byte order are what they give, put one after another
pub put_in_order : (ts : List Tag) → rise None ts ≡ true → with_tags [] ts ≡ ts
put_in_order [] r = refl
put_in_order (t ∷ ts) r = all_behind t.name (t ∷ []) ts ((λ m f. back t.name m f), tt) r

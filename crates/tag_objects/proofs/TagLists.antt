-- What lists of tags have: names that rise, and the tag of each name.
use Rattle.std.proofs.Common.{◌≡◌, Bool, true, false, not, List, [], ◌∷◌, Option, Some, None, refl, sym, ap, ◌∙◌, true≢false}
use Rattle.std.specs.Prelude.{if◌then◌else◌}
use Rattle.std.specs.Cmp.{first_so, second_so, tied_itself}
use Rattle.std.specs.Cmp.Lexicographic.{bytes_decides, nat_list_cmp_total}
use Rattle.std.specs.FinMap.{nat_cmp-IsAntisymmetric, slice_cmp-IsAntisymmetric}
use Rattle.std.specs.FinMap.Entries.{by_order}
use Rattle.std.specs.Option.{option_map_or, option_or}
use Rattle.std.specs.Ordering.{is_eq, is_lt, ordering_reverse}
use Rattle.std.specs.declared.cmp.Ordering.{Ordering}
use Rattle.std.specs.declared.cmp.Ordering.TheVariants.{Less, Equal, Greater}
use Rattle.git_objects.specs.Paths.{Bytes, same_bytes}
use Rattle.git_objects.specs.Refs.{bytes_cmp}
use Rattle.git_objects.proofs.Basics.{and_both}
use Rattle.tag_objects.specs.TagLists.{changed, is_changed, put_tag, rise, says_same, tag_named, with_tags}
use Rattle.tag_objects.specs.declared.tag.Tag.{Tag}

-- ---- names in order

pub less : (o : Ordering) → is_lt o ≡ true → o ≡ Less
less Less e = refl
less Equal e = absurd cc
less Greater e = absurd cc

pub below : (a b : Bytes) → bytes_cmp a b ≡ Less → is_lt (bytes_cmp a b) ≡ true
below a b e = ap is_lt e

pub over : (a b : Bytes) → bytes_cmp a b ≡ Greater → bytes_cmp b a ≡ Less
over a b e = nat_list_cmp_total.antisymm b a ∙ ap ordering_reverse e

pub one_name : (a b : Bytes) → bytes_cmp a b ≡ Equal → a ≡ b
one_name a b e = slice_cmp-IsAntisymmetric nat_cmp-IsAntisymmetric a b e

-- where names don't tie they differ
pub apart : (a b : Bytes) → is_eq (bytes_cmp a b) ≡ false → same_bytes a b ≡ false
apart a b e =
    elim (same_bytes a b) as (λ v. same_bytes a b ≡ v → v ≡ false) [
      | true ↦ λ f. absurd (true≢false (ap is_eq (sym (tied_itself nat_list_cmp_total b)) ∙ ap (λ (x : Bytes). is_eq (bytes_cmp x b)) (sym ((bytes_decides a b).0 f)) ∙ e))
      | false ↦ λ f. refl
    ] refl

-- ---- one more

-- a greater name isn't the one that a smaller has
greater_other : (n : Bytes) (t u : Tag) → bytes_cmp t.name u.name ≡ Greater → same_bytes u.name n ≡ true → same_bytes t.name n ≡ false
greater_other n t u e f = ap (same_bytes t.name) (sym ((bytes_decides u.name n).0 f)) ∙ apart t.name u.name (ap is_eq e)

pub found_put : (n : Bytes) (t : Tag) (us : List Tag) → tag_named n (put_tag t us) ≡ if same_bytes t.name n then Some t else tag_named n us
found_put n t [] = refl
found_put n t (u ∷ us) =
    elim (bytes_cmp t.name u.name) as (λ o. bytes_cmp t.name u.name ≡ o → tag_named n (by_order o (t ∷ u ∷ us) (t ∷ us) (u ∷ put_tag t us)) ≡ if same_bytes t.name n then Some t else (if same_bytes u.name n then Some u else tag_named n us)) [
      | Less ↦ λ e. refl
      | Equal ↦ λ e. same (same_bytes t.name n) (same_bytes u.name n) (ap (λ a. same_bytes a n) (sym (one_name t.name u.name e)))
      | Greater ↦ λ e. other (found_put n t us) (same_bytes u.name n) (λ f. greater_other n t u e f)
    ] refl
  where
    same : (a b : Bool) → b ≡ a → (if a then Some t else tag_named n us) ≡ if a then Some t else (if b then Some u else tag_named n us)
    same true b h = refl
    same false b h = ap (λ b. if b then Some u else tag_named n us) (sym h)

    other : tag_named n (put_tag t us) ≡ (if same_bytes t.name n then Some t else tag_named n us) → (b : Bool) → (b ≡ true → same_bytes t.name n ≡ false) → (if b then Some u else tag_named n (put_tag t us)) ≡ if same_bytes t.name n then Some t else (if b then Some u else tag_named n us)
    other k true h = ap (λ a. if a then Some t else Some u) (sym (h refl))
    other k false h = k

-- ---- several

tail_rises : (n : Bytes) (ts : List Tag) → rise (Some n) ts ≡ true → rise None ts ≡ true
tail_rises n [] r = refl
tail_rises n (t ∷ ts) r = second_so _ _ r

pub later_none : (m n : Bytes) (ts : List Tag) → bytes_cmp m n ≡ Less → rise (Some n) ts ≡ true → tag_named m ts ≡ None
later_none m n [] e r = refl
later_none m n (t ∷ ts) e r =
    let l : bytes_cmp n t.name ≡ Less = less (bytes_cmp n t.name) (first_so _ _ r) in
    let k : bytes_cmp m t.name ≡ Less = nat_list_cmp_total.trans m n t.name e l in
    ap (λ b. if b then Some t else tag_named m ts) (apart t.name m (ap is_eq (nat_list_cmp_total.antisymm t.name m ∙ ap ordering_reverse k)))
    ∙ later_none m t.name ts k (second_so _ _ r)

own_none : (n : Bytes) (ts : List Tag) → rise (Some n) ts ≡ true → tag_named n ts ≡ None
own_none n [] r = refl
own_none n (t ∷ ts) r =
    let l : bytes_cmp n t.name ≡ Less = less (bytes_cmp n t.name) (first_so _ _ r) in
    ap (λ b. if b then Some t else tag_named n ts) (apart t.name n (ap is_eq (nat_list_cmp_total.antisymm t.name n ∙ ap ordering_reverse l)))
    ∙ later_none n t.name ts l (second_so _ _ r)

-- where a tag has that name none behind it has
named_none : (n : Bytes) (t : Tag) (ts : List Tag) → rise (Some t.name) ts ≡ true → same_bytes t.name n ≡ true → tag_named n ts ≡ None
named_none n t ts r e = ap (λ (m : Bytes). tag_named m ts) (sym ((bytes_decides t.name n).0 e)) ∙ own_none t.name ts r

pub found_with : (n : Bytes) (cs us : List Tag) → rise None cs ≡ true → tag_named n (with_tags us cs) ≡ option_or (tag_named n cs) (tag_named n us)
found_with n [] us r = refl
found_with n (c ∷ cs) us r =
    found_with n cs (put_tag c us) (tail_rises c.name cs r) ∙ ap (option_or (tag_named n cs)) (found_put n c us) ∙ join (same_bytes c.name n) (λ e. named_none n c cs r e)
  where
    join : (b : Bool) → (b ≡ true → tag_named n cs ≡ None) → option_or (tag_named n cs) (if b then Some c else tag_named n us) ≡ option_or (if b then Some c else tag_named n cs) (tag_named n us)
    join true h = ap (λ o. option_or o (Some c)) (h refl)
    join false h = refl

-- ---- those that change

pub found_named : (n : Bytes) (us : List Tag) (u : Tag) → tag_named n us ≡ Some u → same_bytes u.name n ≡ true
found_named n [] u e = absurd cc
found_named n (v ∷ us) u e =
    elim (same_bytes v.name n) as (λ b. same_bytes v.name n ≡ b → (if b then Some v else tag_named n us) ≡ Some u → same_bytes u.name n ≡ true) [
      | true ↦ λ f g. let s : v ≡ u = cc in ap (λ (t : Tag). same_bytes t.name n) (sym s) ∙ f
      | false ↦ λ f g. found_named n us u g
    ] refl e

pub all_same : (t u : Tag) → same_bytes u.name t.name ≡ true → says_same t u ≡ true → u ≡ t
all_same t u e f =
    let a = (bytes_decides u.name t.name).0 e in
    let b = (bytes_decides t.target.0 u.target.0).0 (first_so _ _ (first_so _ _ f)) in
    let c = (bytes_decides t.tagger u.tagger).0 (second_so _ _ (first_so _ _ f)) in
    let d = (bytes_decides t.message u.message).0 (second_so _ _ f) in
    λ i. record { name = a i; target = record { 0 = sym b i }; tagger = sym c i; message = sym d i }

none_changed : (n : Bytes) (tags ts : List Tag) → tag_named n ts ≡ None → tag_named n (changed tags ts) ≡ None
none_changed n tags [] e = refl
none_changed n tags (t ∷ ts) e =
    elim (same_bytes t.name n) as (λ b. same_bytes t.name n ≡ b → (if b then Some t else tag_named n ts) ≡ None → tag_named n (changed tags (t ∷ ts)) ≡ None) [
      | true ↦ λ f g. absurd cc
      | false ↦ λ f g. kept (is_changed tags t) f (none_changed n tags ts g)
    ] refl e
  where
    kept : (b : Bool) → same_bytes t.name n ≡ false → tag_named n (changed tags ts) ≡ None → tag_named n (if b then t ∷ changed tags ts else changed tags ts) ≡ None
    kept true f g = ap (λ b. if b then Some t else tag_named n (changed tags ts)) f ∙ g
    kept false f g = g

-- a tag that doesn't change is there
still_there : (tags : List Tag) (t : Tag) → is_changed tags t ≡ false → tag_named t.name tags ≡ Some t
still_there tags t e = by (tag_named t.name tags) refl e
  where
    by : (o : Option Tag) → tag_named t.name tags ≡ o → option_map_or (λ u. not (says_same t u)) o true ≡ false → tag_named t.name tags ≡ Some t
    by None f g = absurd cc
    by (Some u) f g = f ∙ ap Some (all_same t u (found_named t.name tags u f) (held (says_same t u) g))
      where
        held : (b : Bool) → not b ≡ false → b ≡ true
        held true h = refl
        held false h = absurd cc

pub found_changed : (n : Bytes) (tags ts : List Tag) → rise None ts ≡ true → option_or (tag_named n (changed tags ts)) (tag_named n tags) ≡ option_or (tag_named n ts) (tag_named n tags)
found_changed n tags [] r = refl
found_changed n tags (t ∷ ts) r = by (is_changed tags t) refl (same_bytes t.name n) refl (found_changed n tags ts (tail_rises t.name ts r))
  where
    old : Option Tag
    old = tag_named n tags

    by : (c : Bool) → is_changed tags t ≡ c → (b : Bool) → same_bytes t.name n ≡ b → option_or (tag_named n (changed tags ts)) old ≡ option_or (tag_named n ts) old →
        option_or (tag_named n (if c then t ∷ changed tags ts else changed tags ts)) old ≡ option_or (if same_bytes t.name n then Some t else tag_named n ts) old
    by true e true f h = ap (λ b. option_or (if b then Some t else tag_named n (changed tags ts)) old) f ∙ ap (λ b. option_or (if b then Some t else tag_named n ts) old) (sym f)
    by true e false f h =
        ap (λ b. option_or (if b then Some t else tag_named n (changed tags ts)) old) f ∙ h ∙ ap (λ b. option_or (if b then Some t else tag_named n ts) old) (sym f)
    by false e true f h =
        ap (λ o. option_or o old) (none_changed n tags ts (named_none n t ts r f))
        ∙ ap (λ (m : Bytes). tag_named m tags) (sym ((bytes_decides t.name n).0 f)) ∙ still_there tags t e
        ∙ ap (λ b. option_or (if b then Some t else tag_named n ts) old) (sym f)
    by false e false f h = h ∙ ap (λ b. option_or (if b then Some t else tag_named n ts) old) (sym f)

pub rise_from : (n m : Bytes) (ts : List Tag) → bytes_cmp n m ≡ Less → rise (Some m) ts ≡ true → rise (Some n) ts ≡ true
rise_from n m [] e r = refl
rise_from n m (t ∷ ts) e r =
    and_both (below n t.name (nat_list_cmp_total.trans n m t.name e (less (bytes_cmp m t.name) (first_so _ _ r)))) (second_so _ _ r)

changed_from : (n : Bytes) (tags ts : List Tag) → rise (Some n) ts ≡ true → rise (Some n) (changed tags ts) ≡ true
changed_from n tags [] r = refl
changed_from n tags (t ∷ ts) r =
    let l : bytes_cmp n t.name ≡ Less = less (bytes_cmp n t.name) (first_so _ _ r) in
    let k = changed_from t.name tags ts (second_so _ _ r) in
    elim (is_changed tags t) as (λ b. rise (Some n) (if b then t ∷ changed tags ts else changed tags ts) ≡ true) [
      | true ↦ and_both (below n t.name l) k
      | false ↦ rise_from n t.name (changed tags ts) l k
    ]

pub changed_rises : (tags ts : List Tag) → rise None ts ≡ true → rise None (changed tags ts) ≡ true
changed_rises tags [] r = refl
changed_rises tags (t ∷ ts) r =
    let k = changed_from t.name tags ts r in
    elim (is_changed tags t) as (λ b. rise None (if b then t ∷ changed tags ts else changed tags ts) ≡ true) [ true ↦ k | false ↦ tail_rises t.name (changed tags ts) k ]

-- ---- order

put_from : (n : Bytes) (t : Tag) (us : List Tag) → bytes_cmp n t.name ≡ Less → rise (Some n) us ≡ true → rise (Some n) (put_tag t us) ≡ true
put_from n t [] e r = and_both (below n t.name e) refl
put_from n t (u ∷ us) e r =
    elim (bytes_cmp t.name u.name) as (λ o. bytes_cmp t.name u.name ≡ o → rise (Some n) (by_order o (t ∷ u ∷ us) (t ∷ us) (u ∷ put_tag t us)) ≡ true) [
      | Less ↦ λ f. and_both (below n t.name e) (and_both (below t.name u.name f) (second_so _ _ r))
      | Equal ↦ λ f. and_both (below n t.name e) (ap (λ (m : Bytes). rise (Some m) us) (one_name t.name u.name f) ∙ second_so _ _ r)
      | Greater ↦ λ f. and_both (first_so _ _ r) (put_from u.name t us (over t.name u.name f) (second_so _ _ r))
    ] refl

pub put_rises : (t : Tag) (us : List Tag) → rise None us ≡ true → rise None (put_tag t us) ≡ true
put_rises t [] r = refl
put_rises t (u ∷ us) r =
    elim (bytes_cmp t.name u.name) as (λ o. bytes_cmp t.name u.name ≡ o → rise None (by_order o (t ∷ u ∷ us) (t ∷ us) (u ∷ put_tag t us)) ≡ true) [
      | Less ↦ λ f. and_both (below t.name u.name f) r
      | Equal ↦ λ f. ap (λ (m : Bytes). rise (Some m) us) (one_name t.name u.name f) ∙ r
      | Greater ↦ λ f. put_from u.name t us (over t.name u.name f) r
    ] refl

pub with_rises : (ts us : List Tag) → rise None us ≡ true → rise None (with_tags us ts) ≡ true
with_rises [] us r = r
with_rises (t ∷ ts) us r = with_rises ts (put_tag t us) (put_rises t us r)

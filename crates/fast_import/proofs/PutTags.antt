-- A tag whose name is above all others is put behind them.
use Rattle.std.proofs.Common.{◌≡◌, true, List, [], ◌∷◌, ◌++◌, Option, Some, None, Result, Ok, Err, OnOk, OnErr, refl, sym, ap, ◌∙◌}
use Rattle.std.specs.Cmp.{first_so, second_so}
use Rattle.std.specs.List.{last_or}
use Rattle.std.specs.Option.{option_map, option_map_or}
use Rattle.std.specs.Ordering.{is_lt}
use Rattle.git_objects.specs.Refs.{bytes_cmp}
use Rattle.git_objects.proofs.Basics.{and_both}
use Rattle.tag_objects.specs.TagLists.{put_tag, rise, with_tags}
use Rattle.tag_objects.specs.declared.tag.Tag.{Tag}
use Rattle.tag_objects.proofs.TagLists.{put_rises}
use Rattle.tag_objects.proofs.TagOrder.{put_in_order}
use Rattle.fast_import.specs.Replaying.{is_behind}

-- names rise where one comes that is above the last
on-rises : (o : Option Tag) (ts : List Tag) (t : Tag) → rise (option_map (λ u. u.name) o) ts ≡ true → option_map_or (λ u. is_lt (bytes_cmp u.name t.name)) (last_or o ts) true ≡ true
    → rise (option_map (λ u. u.name) o) (ts ++ t ∷ []) ≡ true
on-rises None [] t r h = refl
on-rises (Some u) [] t r h = and_both h refl
on-rises None (v ∷ ts) t r h = on-rises (Some v) ts t r h
on-rises (Some u) (v ∷ ts) t r h = and_both (first_so _ _ r) (on-rises (Some v) ts t (second_so _ _ r) h)

pub behind-rises : (ts : List Tag) (t : Tag) → rise None ts ≡ true → is_behind t.name ts ≡ true → rise None (ts ++ t ∷ []) ≡ true
behind-rises ts t r h = on-rises None ts t r h

with-one : (us ts : List Tag) (t : Tag) → with_tags us (ts ++ t ∷ []) ≡ put_tag t (with_tags us ts)
with-one us [] t = refl
with-one us (u ∷ ts) t = with-one (put_tag u us) ts t

pub put-behind : (ts : List Tag) (t : Tag) → rise None ts ≡ true → is_behind t.name ts ≡ true → ts ++ t ∷ [] ≡ put_tag t ts
put-behind ts t r h =
    sym (put_in_order (ts ++ t ∷ []) (behind-rises ts t r h)) ∙ with-one [] ts t ∙ ap (put_tag t) (put_in_order ts r)

-- names rise whether a tag was put or not
pub put-rises : {E : Type 0} (result : Result (Unit {0}) E) (t : Tag) (us ts : List Tag) → rise None us ≡ true → OnOk result (ts ≡ put_tag t us) → OnErr result (ts ≡ us) → rise None ts ≡ true
put-rises (Ok u) t us ts r ok err = ap (rise None) ok ∙ put_rises t us r
put-rises (Err e) t us ts r ok err = ap (rise None) err ∙ r

-- What an item does to the tags.
use Rattle.std.proofs.Common.{◌≡◌, ℕ, zero, suc, Bool, true, false, ◌&&◌, ◌||◌, List, [], ◌∷◌, length, Option, None, Some, Ok, refl, sym, ap, subst, ◌∙◌}
use Rattle.std.specs.Prelude.{◌+◌, ◌==◌, if◌then◌else◌}
use Rattle.std.specs.List.{list_any}
use Rattle.git_objects.specs.Paths.{Bytes}
use Rattle.git_objects.specs.Results.{◌>>=◌, must, or_refuse, refused_by}
use Rattle.object_store.specs.Objects.{Object}
use Rattle.tag_objects.specs.TagLists.{put_tag, rise}
use Rattle.tag_objects.specs.declared.tag.Tag.{Tag}
use Rattle.tag_objects.proofs.TagLists.{put_rises}
use Rattle.state_items.specs.Fields.{BrokenAt, Spot, number, start}
use Rattle.state_items.specs.Items.{ChangeItem, Held, ItemKind, KeptItem, OldKeptItem, RuleItem, TagItem, change_part, ended_with, entries_field, item_fits, item_kind, item_kind_field, kept_part, nothing, objects_field, part, read_from, read_item, read_items, read_one, refs_field, rule_field, tag_field, tag_part, tags_field, text_field}
use Rattle.state_items.specs.TaggedLaws.{OldItemsLaw, has_tags}
use Rattle.state_items.proofs.ReadEntries.{ended-value, refused-value}
use Rattle.state_items.proofs.ReadFields.{byte-front, spot, then-ok}
use Rattle.state_items.proofs.ReadObjects.{front-same, must-hold, value-of}

-- ---- tags that are read

-- what a tag that is put keeps, all keep
tags-keep : (P : List Tag → Type 0) → ((t : Tag) (us : List Tag) → P us → P (put_tag t us)) → (n : ℕ) (S : List Object) (before : Option Bytes) (us after : List Tag) (s t : Spot) → P us → tags_field n S before us s ≡ Ok (after, t) → P after
tags-keep P f zero S before us after s t h e = subst P (front-same us after s t e) h
tags-keep P f (suc n) S before us after s t h e =
    let r = value-of (tag_field S before s) (λ r. tags_field n S (Some r.0.name) (put_tag r.0 us) r.1) (after, t) e in
    tags-keep P f n S (Some r.value.0.name) (put_tag r.value.0 us) after r.value.1 t (f r.value.0 us h) r.rest

tag_part-keeps : (P : List Tag → Type 0) → ((t : Tag) (us : List Tag) → P us → P (put_tag t us)) → (h g : Held) (s : Spot) → P h.tags → tag_part h s ≡ Ok g → P g.tags
tag_part-keeps P f h g s w e =
    let n = value-of (number 4 s)
    (λ n. objects_field n.0 h.objects n.1 >>= λ o. number 4 o.1 >>= λ m. refs_field m.0 o.0 None h.refs m.1 >>= λ r. number 4 r.1 >>= λ k. tags_field k.0 o.0 None h.tags k.1 >>= λ x. ended_with (record h { objects = o.0; refs = r.0; tags = x.0 }) x.1) g e in
    let o = value-of (objects_field n.value.0 h.objects n.value.1)
    (λ o. number 4 o.1 >>= λ m. refs_field m.0 o.0 None h.refs m.1 >>= λ r. number 4 r.1 >>= λ k. tags_field k.0 o.0 None h.tags k.1 >>= λ x. ended_with (record h { objects = o.0; refs = r.0; tags = x.0 }) x.1) g n.rest in
    let m = value-of (number 4 o.value.1)
    (λ m. refs_field m.0 o.value.0 None h.refs m.1 >>= λ r. number 4 r.1 >>= λ k. tags_field k.0 o.value.0 None h.tags k.1 >>= λ x. ended_with (record h { objects = o.value.0; refs = r.0; tags = x.0 }) x.1) g o.rest in
    let r = value-of (refs_field m.value.0 o.value.0 None h.refs m.value.1)
    (λ r. number 4 r.1 >>= λ k. tags_field k.0 o.value.0 None h.tags k.1 >>= λ x. ended_with (record h { objects = o.value.0; refs = r.0; tags = x.0 }) x.1) g m.rest in
    let k = value-of (number 4 r.value.1) (λ k. tags_field k.0 o.value.0 None h.tags k.1 >>= λ x. ended_with (record h { objects = o.value.0; refs = r.value.0; tags = x.0 }) x.1) g r.rest in
    let x = value-of (tags_field k.value.0 o.value.0 None h.tags k.value.1) (λ x. ended_with (record h { objects = o.value.0; refs = r.value.0; tags = x.0 }) x.1) g k.rest in
    subst (λ (q : Held). P q.tags) (ended-value (record h { objects = o.value.0; refs = r.value.0; tags = x.value.0 }) g x.value.1 x.rest) (tags-keep P f k.value.0 o.value.0 None h.tags x.value.0 k.value.1 x.value.1 w x.was)

-- ---- the other kinds

abbrev brings : ItemKind → Bool
brings ChangeItem = false
brings OldKeptItem = false
brings KeptItem = false
brings RuleItem = false
brings TagItem = true

change-same : (h g : Held) (s : Spot) → change_part h s ≡ Ok g → h.tags ≡ g.tags
change-same h g s e =
    let n = value-of (number 4 s)
    (λ n. objects_field n.0 h.objects n.1 >>= λ o. number 4 o.1 >>= λ m. refs_field m.0 o.0 None h.refs m.1 >>= λ r. ended_with (record h { objects = o.0; refs = r.0 }) r.1) g e in
    let o = value-of (objects_field n.value.0 h.objects n.value.1) (λ o. number 4 o.1 >>= λ m. refs_field m.0 o.0 None h.refs m.1 >>= λ r. ended_with (record h { objects = o.0; refs = r.0 }) r.1) g n.rest in
    let m = value-of (number 4 o.value.1) (λ m. refs_field m.0 o.value.0 None h.refs m.1 >>= λ r. ended_with (record h { objects = o.value.0; refs = r.0 }) r.1) g o.rest in
    let r = value-of (refs_field m.value.0 o.value.0 None h.refs m.value.1) (λ r. ended_with (record h { objects = o.value.0; refs = r.0 }) r.1) g m.rest in
    ap (λ (q : Held). q.tags) (ended-value (record h { objects = o.value.0; refs = r.value.0 }) g r.value.1 r.rest)

kept-same : (h g : Held) (rule : ℕ) (s : Spot) → kept_part h rule s ≡ Ok g → h.tags ≡ g.tags
kept-same h g rule s e =
    let t = value-of (text_field s) (λ t. number 4 t.1 >>= λ n. entries_field n.0 h.objects t.0 rule h.kept n.1 >>= λ kept. ended_with (record h { kept = kept.0 }) kept.1) g e in
    let n = value-of (number 4 t.value.1) (λ n. entries_field n.0 h.objects t.value.0 rule h.kept n.1 >>= λ kept. ended_with (record h { kept = kept.0 }) kept.1) g t.rest in
    let k = value-of (entries_field n.value.0 h.objects t.value.0 rule h.kept n.value.1) (λ kept. ended_with (record h { kept = kept.0 }) kept.1) g n.rest in
    ap (λ (q : Held). q.tags) (ended-value (record h { kept = k.value.0 }) g k.value.1 k.rest)

part-same : (h g : Held) (kind : ItemKind) (s : Spot) → brings kind ≡ false → part h kind s ≡ Ok g → h.tags ≡ g.tags
part-same h g ChangeItem s b e = change-same h g s e
part-same h g OldKeptItem s b e = kept-same h g 1 s e
part-same h g KeptItem s b e = let k = value-of (rule_field s) (λ k. kept_part h k.0 k.1) g e in kept-same h g k.value.0 k.value.1 k.rest
part-same h g RuleItem s b e =
    let k = value-of (rule_field s) (λ k. ended_with (record h { rule = k.0 }) k.1) g e in
    ap (λ (q : Held). q.tags) (ended-value (record h { rule = k.value.0 }) g k.value.1 k.rest)
part-same h g TagItem s b e = absurd cc

-- ---- an item

part-rises : (h g : Held) (kind : ItemKind) (s : Spot) → rise None h.tags ≡ true → part h kind s ≡ Ok g → rise None g.tags ≡ true
part-rises h g ChangeItem s r e = ap (rise None) (sym (part-same h g ChangeItem s refl e)) ∙ r
part-rises h g OldKeptItem s r e = ap (rise None) (sym (part-same h g OldKeptItem s refl e)) ∙ r
part-rises h g KeptItem s r e = ap (rise None) (sym (part-same h g KeptItem s refl e)) ∙ r
part-rises h g RuleItem s r e = ap (rise None) (sym (part-same h g RuleItem s refl e)) ∙ r
part-rises h g TagItem s r e = tag_part-keeps (λ us. rise None us ≡ true) (λ t us w. put_rises t us w) h g s r e

pub item-rises : (h g : Held) (item : Bytes) → rise None h.tags ≡ true → read_item h item ≡ Ok g → rise None g.tags ≡ true
unfolding read_item
item-rises h g item r e = let k = value-of (item_kind_field (start item)) (λ k. part h k.0 k.1) g e in part-rises h g k.value.0 k.value.1 r k.rest

-- ---- items without tags

-- a kind that brings tags is that of the bytes 2 and 4
kind-by : (a b c d x : Bool) (k : ItemKind) → (if a then Some ChangeItem else (if b then Some OldKeptItem else (if c then Some KeptItem else (if d then Some RuleItem else (if x then Some TagItem else None))))) ≡ Some k → x ≡ false → brings k ≡ false
kind-by true b c d x k e h = let same : ChangeItem ≡ k = cc in ap brings (sym same)
kind-by false true c d x k e h = let same : OldKeptItem ≡ k = cc in ap brings (sym same)
kind-by false false true d x k e h = let same : KeptItem ≡ k = cc in ap brings (sym same)
kind-by false false false true x k e h = let same : RuleItem ≡ k = cc in ap brings (sym same)
kind-by false false false false true k e h = absurd cc
kind-by false false false false false k e h = absurd cc

given : (at : ℕ) (o : Option ItemKind) (s : Spot) (r : ItemKind × Spot) → (or_refuse (BrokenAt at) o >>= λ kind. Ok (kind, s)) ≡ Ok r → o ≡ Some r.0
given at None s r e = absurd cc
given at (Some k) s r e = let same : (k, s) ≡ r = cc in ap (λ (x : ItemKind × Spot). Some x.0) same

kind-of : (item : Bytes) (r : ItemKind × Spot) → has_tags item ≡ false → item_kind_field (start item) ≡ Ok r → brings r.0 ≡ false
kind-of [] r h e = absurd cc
kind-of (f ∷ []) r h e =
    let m = must-hold (BrokenAt 0) (f == 1 || f == 2) (λ _. number 1 (spot 1 []) >>= λ k. or_refuse (BrokenAt 1) (item_kind f k.0) >>= λ kind. Ok (kind, k.1)) r
    (sym (then-ok (number 1 (spot 0 (f ∷ []))) (λ f. must (BrokenAt 0) (f.0 == 1 || f.0 == 2) >>= λ _. number 1 f.1 >>= λ k. or_refuse (BrokenAt f.1.at) (item_kind f.0 k.0) >>= λ kind. Ok (kind, k.1)) (f, spot 1 []) (byte-front 0 f [])) ∙ e) in
    absurd (no m.1)
  where
    no : (number 1 (spot 1 []) >>= λ k. or_refuse (BrokenAt 1) (item_kind f k.0) >>= λ kind. Ok (kind, k.1)) ≡ Ok r → ⊥
    no q = cc
kind-of (f ∷ x ∷ rest) r h e =
    let m = must-hold (BrokenAt 0) (f == 1 || f == 2) (λ _. number 1 (spot 1 (x ∷ rest)) >>= λ k. or_refuse (BrokenAt 1) (item_kind f k.0) >>= λ kind. Ok (kind, k.1)) r
    (sym (then-ok (number 1 (spot 0 (f ∷ x ∷ rest))) (λ f. must (BrokenAt 0) (f.0 == 1 || f.0 == 2) >>= λ _. number 1 f.1 >>= λ k. or_refuse (BrokenAt f.1.at) (item_kind f.0 k.0) >>= λ kind. Ok (kind, k.1)) (f, spot 1 (x ∷ rest)) (byte-front 0 f (x ∷ rest))) ∙ e) in
    let k : (or_refuse (BrokenAt 1) (item_kind f x) >>= λ kind. Ok (kind, spot 2 rest)) ≡ Ok r =
    sym (then-ok (number 1 (spot 1 (x ∷ rest))) (λ k. or_refuse (BrokenAt 1) (item_kind f k.0) >>= λ kind. Ok (kind, k.1)) (x, spot 2 rest) (byte-front 1 x rest)) ∙ m.1 in
    kind-by (f == 1 && x == 1) (f == 1 && x == 2) (f == 2 && x == 2) (f == 2 && x == 3) (f == 2 && x == 4) r.0 (given 1 (item_kind f x) (spot 2 rest) r k) h

item-same : (h g : Held) (item : Bytes) → has_tags item ≡ false → read_item h item ≡ Ok g → h.tags ≡ g.tags
unfolding read_item
item-same h g item b e =
    let k = value-of (item_kind_field (start item)) (λ k. part h k.0 k.1) g e in part-same h g k.value.0 k.value.1 (kind-of item k.value b k.was) k.rest

or-false : (a b : Bool) → (a || b) ≡ false → (a ≡ false) × (b ≡ false)
or-false true b h = absurd cc
or-false false b h = (refl, h)

from-same : (items : List Bytes) (number size : ℕ) (h g : Held) → list_any has_tags items ≡ false → read_from number size h items ≡ Ok g → h.tags ≡ g.tags
from-same [] number size h g b e = let same : h ≡ g = cc in ap (λ (q : Held). q.tags) same
from-same (item ∷ items) number size h g b e =
    let c = or-false (has_tags item) (list_any has_tags items) b in
    let k = value-of (read_one number size h item) (λ after. read_from (number + 1) (size + length item) after items) g e in
    let f = must-hold (number, BrokenAt 0) (item_fits number size item) (λ _. refused_by (λ f. (number, f)) (read_item h item)) k.value k.was in
    item-same h k.value item c.0 (refused-value (λ f. (number, f)) (read_item h item) k.value f.1) ∙ from-same items (number + 1) (size + length item) k.value g c.1 k.rest

pub old-items-law : OldItemsLaw
unfolding read_items
old-items-law items h b e = sym (from-same items 0 0 nothing h b e)

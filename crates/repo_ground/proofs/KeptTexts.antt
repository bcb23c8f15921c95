-- What is kept is kept for canonical texts.
use Rattle.std.proofs.Common.{◌≡◌, ◌+◌, ℕ, zero, suc, true, false, ◌&&◌, not, Bool, List, [], ◌∷◌, ◌++◌, length, map, Result, Ok, Err, if◌then◌else◌, refl, sym, ap, subst, ◌∙◌, true≢false}
use Rattle.std.specs.Prelude.{◌==◌}
use Rattle.std.specs.Cmp.{first_so, second_so}
use Rattle.std.specs.Cmp.Lexicographic.{bytes_decides}
use Rattle.std.specs.List.{filter, list_all, list_any}
use Rattle.std.proofs.lemmas.Bool.{and_parts}
use Rattle.git_objects.specs.Paths.{Bytes, same_bytes}
use Rattle.git_objects.specs.Results.{◌>>=◌, must, refused_by}
use Rattle.git_objects.specs.declared.kind.Kind.TheVariants.{Commit}
use Rattle.git_objects.proofs.Basics.{and_both}
use Rattle.object_store.specs.Objects.{Object, has}
use Rattle.state_items.specs.Fields.{Spot, BrokenAt, ended, field, number, start}
use Rattle.state_items.specs.Items.{ChangeItem, Held, ItemKind, Kept, KeptItem, OldKeptItem, RuleItem, TagItem, change_part, ended_with, entries_field, entry_field, is_canonical, is_of, item_fits, item_kind_field, kept_part, nothing, objects_field, part, read_from, read_item, read_items, read_one, refs_field, result_field, rule_field, tag_part, tags_field, text_field}
use Rattle.state_items.specs.KeptMaps.{entries_for, is_for}
use Rattle.state_items.proofs.ReadObjects.{front-same, must-hold, ok-same, value-of}
use Rattle.std.specs.declared.option.Option.TheVariants.{None}

abbrev AreCanonical : List Kept → Type 0
AreCanonical kept = list_all (λ e. is_canonical e.filter) kept ≡ true

all-last : (xs : List Kept) (x : Kept) → AreCanonical xs → is_canonical x.filter ≡ true → AreCanonical (xs ++ x ∷ [])
all-last [] x a h = and_both h refl
all-last (y ∷ xs) x a h = and_both (first_so _ _ a) (all-last xs x (second_so (is_canonical y.filter) _ a) h)

ended-same : (h g : Held) (s : Spot) → ended_with h s ≡ Ok g → h ≡ g
ended-same h g s e = let d = value-of (ended s) (λ _. Ok h) g e in ok-same h g d.rest

ended-kept : (h g : Held) (s : Spot) → AreCanonical h.kept → ended_with h s ≡ Ok g → AreCanonical g.kept
ended-kept h g s a e = subst (λ (k : Held). AreCanonical k.kept) (ended-same h g s e) a

text-canonical : (s t : Spot) (text : Bytes) → text_field s ≡ Ok (text, t) → is_canonical text ≡ true
text-canonical s t text e =
    let n = value-of (number 2 s) (λ n. field n.0 n.1 >>= λ q. must (BrokenAt n.1.at) (is_canonical q.0) >>= λ _. Ok q) (text, t) e in
    let q = value-of (field n.value.0 n.value.1) (λ q. must (BrokenAt n.value.1.at) (is_canonical q.0) >>= λ _. Ok q) (text, t) n.rest in
    let m = must-hold (BrokenAt n.value.1.at) (is_canonical q.value.0) (λ _. Ok q.value) (text, t) q.rest in
    ap (λ (x : Bytes × Spot). is_canonical x.0) (sym (ok-same q.value (text, t) m.1)) ∙ m.0

entry-text : (S : List Object) (text : Bytes) (rule : ℕ) (kept : List Kept) (s t : Spot) (e : Kept) → entry_field S text rule kept s ≡ Ok (e, t) → text ≡ e.filter
entry-text S text rule kept s t e q =
    let n = value-of (field 20 s)
    (λ n. must (BrokenAt s.at) (has Commit S n.0 && not (list_any (is_of text rule n.0) kept)) >>= λ _. result_field n.1 >>= λ r. Ok (record { filter = text; rule = rule; original = n.0; result = r.0 }, r.1)) (e, t) q in
    let k = must-hold (BrokenAt s.at) (has Commit S n.value.0 && not (list_any (is_of text rule n.value.0) kept))
    (λ _. result_field n.value.1 >>= λ r. Ok (record { filter = text; rule = rule; original = n.value.0; result = r.0 }, r.1)) (e, t) n.rest in
    let r = value-of (result_field n.value.1) (λ r. Ok (record { filter = text; rule = rule; original = n.value.0; result = r.0 }, r.1)) (e, t) k.1 in
    let made : Kept = record { filter = text; rule = rule; original = n.value.0; result = r.value.0 } in
    ap (λ (x : Kept). x.filter) (front-same made e r.value.1 t r.rest)

entries-kept : (n : ℕ) (S : List Object) (text : Bytes) (rule : ℕ) (kept after : List Kept) (s t : Spot) → is_canonical text ≡ true → AreCanonical kept
    → entries_field n S text rule kept s ≡ Ok (after, t) → AreCanonical after
entries-kept zero S text rule kept after s t c a e = subst AreCanonical (front-same kept after s t e) a
entries-kept (suc n) S text rule kept after s t c a e =
    let x = value-of (entry_field S text rule kept s) (λ x. entries_field n S text rule (kept ++ x.0 ∷ []) x.1) (after, t) e in
    entries-kept n S text rule (kept ++ x.value.0 ∷ []) after x.value.1 t c
    (all-last kept x.value.0 a (ap is_canonical (sym (entry-text S text rule kept s x.value.1 x.value.0 x.was)) ∙ c)) x.rest

change-kept : (h g : Held) (s : Spot) → AreCanonical h.kept → change_part h s ≡ Ok g → AreCanonical g.kept
change-kept h g s a e =
    let n = value-of (number 4 s)
    (λ n. objects_field n.0 h.objects n.1 >>= λ o. number 4 o.1 >>= λ m. refs_field m.0 o.0 None h.refs m.1 >>= λ r. ended_with (record h { objects = o.0; refs = r.0 }) r.1) g e in
    let o = value-of (objects_field n.value.0 h.objects n.value.1) (λ o. number 4 o.1 >>= λ m. refs_field m.0 o.0 None h.refs m.1 >>= λ r. ended_with (record h { objects = o.0; refs = r.0 }) r.1) g n.rest in
    let m = value-of (number 4 o.value.1) (λ m. refs_field m.0 o.value.0 None h.refs m.1 >>= λ r. ended_with (record h { objects = o.value.0; refs = r.0 }) r.1) g o.rest in
    let r = value-of (refs_field m.value.0 o.value.0 None h.refs m.value.1) (λ r. ended_with (record h { objects = o.value.0; refs = r.0 }) r.1) g m.rest in
    let last : Held = record h { objects = o.value.0; refs = r.value.0 } in
    ended-kept last g r.value.1 a r.rest

tag-kept : (h g : Held) (s : Spot) → AreCanonical h.kept → tag_part h s ≡ Ok g → AreCanonical g.kept
tag-kept h g s a e =
    let n = value-of (number 4 s)
    (λ n. objects_field n.0 h.objects n.1 >>= λ o. number 4 o.1 >>= λ m. refs_field m.0 o.0 None h.refs m.1 >>= λ r. number 4 r.1 >>= λ k. tags_field k.0 o.0 None h.tags k.1 >>= λ x. ended_with (record h { objects = o.0; refs = r.0; tags = x.0 }) x.1) g e in
    let o = value-of (objects_field n.value.0 h.objects n.value.1) (λ o. number 4 o.1 >>= λ m. refs_field m.0 o.0 None h.refs m.1 >>= λ r. number 4 r.1 >>= λ k. tags_field k.0 o.0 None h.tags k.1 >>= λ x. ended_with (record h { objects = o.0; refs = r.0; tags = x.0 }) x.1) g n.rest in
    let m = value-of (number 4 o.value.1) (λ m. refs_field m.0 o.value.0 None h.refs m.1 >>= λ r. number 4 r.1 >>= λ k. tags_field k.0 o.value.0 None h.tags k.1 >>= λ x. ended_with (record h { objects = o.value.0; refs = r.0; tags = x.0 }) x.1) g o.rest in
    let r = value-of (refs_field m.value.0 o.value.0 None h.refs m.value.1) (λ r. number 4 r.1 >>= λ k. tags_field k.0 o.value.0 None h.tags k.1 >>= λ x. ended_with (record h { objects = o.value.0; refs = r.0; tags = x.0 }) x.1) g m.rest in
    let k = value-of (number 4 r.value.1) (λ k. tags_field k.0 o.value.0 None h.tags k.1 >>= λ x. ended_with (record h { objects = o.value.0; refs = r.value.0; tags = x.0 }) x.1) g r.rest in
    let x = value-of (tags_field k.value.0 o.value.0 None h.tags k.value.1) (λ x. ended_with (record h { objects = o.value.0; refs = r.value.0; tags = x.0 }) x.1) g k.rest in
    let last : Held = record h { objects = o.value.0; refs = r.value.0; tags = x.value.0 } in
    ended-kept last g x.value.1 a x.rest

kept-kept : (h g : Held) (rule : ℕ) (s : Spot) → AreCanonical h.kept → kept_part h rule s ≡ Ok g → AreCanonical g.kept
kept-kept h g rule s a e =
    let t = value-of (text_field s) (λ t. number 4 t.1 >>= λ n. entries_field n.0 h.objects t.0 rule h.kept n.1 >>= λ kept. ended_with (record h { kept = kept.0 }) kept.1) g e in
    let n = value-of (number 4 t.value.1) (λ n. entries_field n.0 h.objects t.value.0 rule h.kept n.1 >>= λ kept. ended_with (record h { kept = kept.0 }) kept.1) g t.rest in
    let k = value-of (entries_field n.value.0 h.objects t.value.0 rule h.kept n.value.1) (λ kept. ended_with (record h { kept = kept.0 }) kept.1) g n.rest in
    ended-kept (record h { kept = k.value.0 }) g k.value.1
    (entries-kept n.value.0 h.objects t.value.0 rule h.kept k.value.0 n.value.1 k.value.1 (text-canonical s t.value.1 t.value.0 t.was) a k.was) k.rest

part-kept : (h g : Held) (kind : ItemKind) (s : Spot) → AreCanonical h.kept → part h kind s ≡ Ok g → AreCanonical g.kept
part-kept h g ChangeItem s a e = change-kept h g s a e
part-kept h g OldKeptItem s a e = kept-kept h g 1 s a e
part-kept h g KeptItem s a e = let k = value-of (rule_field s) (λ k. kept_part h k.0 k.1) g e in kept-kept h g k.value.0 k.value.1 a k.rest
part-kept h g RuleItem s a e =
    let k = value-of (rule_field s) (λ k. ended_with (record h { rule = k.0 }) k.1) g e in ended-kept (record h { rule = k.value.0 }) g k.value.1 a k.rest
part-kept h g TagItem s a e = tag-kept h g s a e

item-kept : (h g : Held) (item : Bytes) → AreCanonical h.kept → read_item h item ≡ Ok g → AreCanonical g.kept
unfolding read_item
item-kept h g item a e = let k = value-of (item_kind_field (start item)) (λ k. part h k.0 k.1) g e in part-kept h g k.value.0 k.value.1 a k.rest

said-value : {A E F : Type 0} (say : E → F) (r : Result A E) (x : A) → refused_by say r ≡ Ok x → r ≡ Ok x
said-value say (Ok y) x e = cc
said-value say (Err d) x e = cc

from-kept : (items : List Bytes) (number size : ℕ) (h g : Held) → AreCanonical h.kept → read_from number size h items ≡ Ok g → AreCanonical g.kept
from-kept [] number size h g a e = let same : h ≡ g = cc in subst (λ (x : Held). AreCanonical x.kept) same a
from-kept (item ∷ items) number size h g a e =
    let k = value-of (read_one number size h item) (λ after. read_from (number + 1) (size + length item) after items) g e in
    let f = must-hold (number, BrokenAt 0) (item_fits number size item) (λ _. refused_by (λ f. (number, f)) (read_item h item)) k.value k.was in
    from-kept items (number + 1) (size + length item) k.value g (item-kept h k.value item a (said-value (λ f. (number, f)) (read_item h item) k.value f.1)) k.rest

read-kept : (items : List Bytes) (h : Held) → read_items items ≡ Ok h → AreCanonical h.kept
unfolding read_items
read-kept items h e = from-kept items 0 0 nothing h refl e

-- for a text that isn't canonical
none-for : (text : Bytes) (rule : ℕ) (kept : List Kept) → AreCanonical kept → is_canonical text ≡ false → entries_for text rule kept ≡ []
none-for text rule [] a n = refl
none-for text rule (k ∷ kept) a n = by (is_for text rule k) refl (none-for text rule kept (second_so (is_canonical k.filter) _ a) n)
  where
    by : (b : Bool) → is_for text rule k ≡ b → entries_for text rule kept ≡ [] → entries_for text rule (k ∷ kept) ≡ []
    by true e rest =
        let same = (bytes_decides k.filter text).0 (and_parts (same_bytes k.filter text) (k.rule == rule) e).0 in
        absurd (true≢false (sym (first_so _ _ a) ∙ ap is_canonical same ∙ n))
    by false e rest =
        ap (λ (b : Bool). map (λ (x : Kept). (x.original, x.result)) (if b then k ∷ filter (is_for text rule) kept else filter (is_for text rule) kept)) e ∙ rest

pub no-entries : (items : List Bytes) (h : Held) (text : Bytes) (rule : ℕ) → read_items items ≡ Ok h → is_canonical text ≡ false → entries_for text rule h.kept ≡ []
no-entries items h text rule read n = none-for text rule h.kept (read-kept items h read) n

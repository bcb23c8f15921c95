-- An item in parts: bodies between parts of its heads.
use Rattle.std.proofs.Common.{◌≡◌, ◌≤◌, ◌+◌, ◌*◌, ℕ, zero, suc, List, [], ◌∷◌, ◌++◌, length, take, drop, refl, sym, ap, ◌∙◌, arith, append_assoc, length-append}
use Rattle.std.specs.Int.{to_be_bytes, w32}
use Rattle.std.specs.List.{flat_map}
use Rattle.git_objects.specs.Paths.{Bytes}
use Rattle.git_objects.specs.Refs.{Refs}
use Rattle.object_store.specs.Objects.{Object}
use Rattle.tag_objects.specs.declared.tag.Tag.{Tag}
use Rattle.state_items.specs.Items.{change_text, object_text, ref_text, tag_item_text, tagged_change_text, text_with}
use Rattle.state_items.specs.Writings.{heads_text, heads_with, object_head, tagged_heads_text}

-- each body behind the next five bytes of the heads, and then what is left of these
abbrev pub woven : List Object → Bytes → Bytes
woven [] heads = heads
woven (o ∷ os) heads = take 5 heads ++ (o.body ++ woven os (drop 5 heads))

woven-heads : (os : List Object) (tail : Bytes) → woven os (flat_map object_head os ++ tail) ≡ flat_map object_text os ++ tail
woven-heads [] tail = refl
woven-heads (o ∷ os) tail =
    ap (λ (t : Bytes). object_head o ++ t) (ap (λ (t : Bytes). o.body ++ t) (woven-heads os tail) ∙ sym (append_assoc o.body (flat_map object_text os) tail))

-- the bodies between the heads, behind the first two bytes and before what stands behind the objects
woven-any : (f k : ℕ) (os : List Object) (heads tail : Bytes) → heads ≡ f ∷ k ∷ (to_be_bytes w32 (length os) ++ (flat_map object_head os ++ tail)) →
    take 6 heads ++ woven os (drop 6 heads) ≡ f ∷ k ∷ (to_be_bytes w32 (length os) ++ (flat_map object_text os ++ tail))
woven-any f k os heads tail is =
    let front : Bytes = f ∷ k ∷ to_be_bytes w32 (length os) in
    ap (λ (t : Bytes). take 6 t ++ woven os (drop 6 t)) is ∙ ap (λ (t : Bytes). front ++ t) (woven-heads os tail)

woven-plain : (os : List Object) (rs : Refs) (heads : Bytes) → heads ≡ heads_text os rs → take 6 heads ++ woven os (drop 6 heads) ≡ change_text os rs
unfolding change_text heads_text
woven-plain os rs heads is =
    let count = to_be_bytes w32 (length os) in
    let number = to_be_bytes w32 (length rs) in
    let last = flat_map ref_text rs in
    woven-any 1 1 os heads (number ++ last) (is ∙ ap (λ (t : Bytes). 1 ∷ 1 ∷ t) (append_assoc (count ++ flat_map object_head os) number last ∙ append_assoc count (flat_map object_head os) (number ++ last)))
    ∙ ap (λ (t : Bytes). 1 ∷ 1 ∷ t) (sym (append_assoc (count ++ flat_map object_text os) number last ∙ append_assoc count (flat_map object_text os) (number ++ last)))

tail-shape : (a b c d e f : Bytes) → ((((a ++ b) ++ c) ++ d) ++ e) ++ f ≡ a ++ (b ++ (((c ++ d) ++ e) ++ f))
tail-shape a b c d e f = simp append_assoc

woven-tagged : (os : List Object) (rs : Refs) (ts : List Tag) (heads : Bytes) → heads ≡ tagged_heads_text os rs ts → take 6 heads ++ woven os (drop 6 heads) ≡ tagged_change_text os rs ts
unfolding tagged_change_text tagged_heads_text
woven-tagged os rs ts heads is =
    let count = to_be_bytes w32 (length os) in
    let number = to_be_bytes w32 (length rs) in
    let refs = flat_map ref_text rs in
    let more = to_be_bytes w32 (length ts) in
    let last = flat_map tag_item_text ts in
    woven-any 2 4 os heads (((number ++ refs) ++ more) ++ last) (is ∙ ap (λ (t : Bytes). 2 ∷ 4 ∷ t) (tail-shape count (flat_map object_head os) number refs more last))
    ∙ ap (λ (t : Bytes). 2 ∷ 4 ∷ t) (sym (tail-shape count (flat_map object_text os) number refs more last))

pub woven-item : (os : List Object) (rs : Refs) (ts : List Tag) (heads : Bytes) → heads ≡ heads_with os rs ts → take 6 heads ++ woven os (drop 6 heads) ≡ text_with os rs ts
woven-item os rs [] heads is = woven-plain os rs heads is
woven-item os rs (t ∷ ts) heads is = woven-tagged os rs (t ∷ ts) heads is

-- nothing stands behind the end of a list
pub none_left : {X : Type 0} (xs : List X) (i : ℕ) → length xs ≤ i → drop i xs ≡ []
none_left [] zero le = refl
none_left [] (suc i) le = refl
none_left (x ∷ xs) zero le = absurd (omega arith)
none_left (x ∷ xs) (suc i) le = none_left xs i (omega arith)

-- ---- lengths

five-each : (os : List Object) → 5 * length os ≤ length (flat_map object_text os)
five-each [] = omega arith
five-each (o ∷ os) = omega (arith, five-each os, length-append (object_text o) (flat_map object_text os))

-- an item has ten bytes, and five for each object
pub item-five : (os : List Object) (rs : Refs) → 10 + 5 * length os ≤ length (change_text os rs)
unfolding change_text
item-five os rs =
    let a = to_be_bytes w32 (length os) in
    let b = flat_map object_text os in
    let c = to_be_bytes w32 (length rs) in
    let d = flat_map ref_text rs in
    omega (arith, five-each os, length-append (a ++ b ++ c) d, length-append (a ++ b) c, length-append a b)

pub five-heads : (os : List Object) → 5 * length os ≡ length (flat_map object_head os)
five-heads [] = refl
five-heads (o ∷ os) = omega (arith, five-heads os, length-append (object_head o) (flat_map object_head os))

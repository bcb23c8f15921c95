-- Lengths of items.
use Rattle.std.proofs.Common.{◌≡◌, ◌+◌, ◌≤◌, ◌<◌, ◌^◌, true, List, [], ◌∷◌, ◌++◌, length, arith, length-append}
use borrow.Author.Tests.{leb-true}
use Rattle.std.specs.Prelude.{nat_le}
use Rattle.std.specs.Cmp.{first_so, second_so}
use Rattle.git_objects.specs.Paths.{Bytes}
use Rattle.path_names.specs.RefNames.{is_ref_name}
use Rattle.std.specs.Int.{to_be_bytes, w16, w32}
use Rattle.std.specs.List.{flat_map}
use Rattle.object_store.specs.Objects.{Object}
use Rattle.state_items.specs.Items.{change_text, object_text, ref_text}
use Rattle.git_objects.specs.Refs.{Refs}

some-objects : (os : List Object) → length os ≤ length (flat_map object_text os)
some-objects [] = omega arith
some-objects (o ∷ os) = omega (arith, some-objects os, length-append (object_text o) (flat_map object_text os))

some-refs : (rs : Refs) → length rs ≤ length (flat_map ref_text rs)
some-refs [] = omega arith
some-refs (r ∷ rs) =
    omega (arith, some-refs rs, length-append (ref_text r) (flat_map ref_text rs), length-append (to_be_bytes w16 (length r.0) ++ r.0) r.1, length-append (to_be_bytes w16 (length r.0)) r.0)

-- an item has more bytes than objects and refs
pub item-long : (os : List Object) (rs : Refs) → length os + length rs ≤ length (change_text os rs)
unfolding change_text
item-long os rs =
    let a = to_be_bytes w32 (length os) in
    let b = flat_map object_text os in
    let c = to_be_bytes w32 (length rs) in
    let d = flat_map ref_text rs in
    omega (arith, some-objects os, some-refs rs, length-append (a ++ b ++ c) d, length-append (a ++ b) c, length-append a b)

pub item-some : (os : List Object) (rs : Refs) → 0 < length (change_text os rs)
unfolding change_text
item-some os rs = omega arith

pub objects-long : (os : List Object) (rs : Refs) → length (flat_map object_text os) ≤ length (change_text os rs)
unfolding change_text
objects-long os rs =
    let a = to_be_bytes w32 (length os) in
    let b = flat_map object_text os in
    let c = to_be_bytes w32 (length rs) in
    let d = flat_map ref_text rs in
    omega (arith, length-append (a ++ b ++ c) d, length-append (a ++ b) c, length-append a b)

-- a ref name has at most 1,024 bytes
pub ref-short : (t : Bytes) → is_ref_name t ≡ true → length t < 2 ^ 16
unfolding is_ref_name
ref-short t h =
    let few = leb-true (length t) 1024
    (second_so (nat_le 6 (length t)) _ (first_so _ _ (first_so _ _ (first_so _ _ (first_so _ _ (first_so _ _ (first_so _ _ (first_so _ _ (first_so _ _ h))))))))) in
    omega (arith, few)

use Rattle.std.proofs.Common.{ℕ, arith, ap, length, length-append, map}
use Rattle.std.proofs.lemmas.List.{length-map}
use Rattle.object_store.specs.Errors.{object_value}
use Rattle.ref_store.specs.Pairs.{pair, pairs}
use Rattle.state_items.proofs.TagFields.{tagged_long}
use Rattle.state_items.proofs.Weaving.{five-heads}
use Rattle.state_items.proofs.writing.tagged_heads.Goals as goal

pub write_number-requires : goal.write_number-requires
write_number-requires c =
    let long = (tagged_long (map object_value c.args.objects.now) (pairs c.args.refs.now) c.args.tags.now).all in
    omega (arith, c.requires.size, length-map c.args.objects.now object_value, long)

pub write_number-requires-2 : goal.write_number-requires-2
write_number-requires-2 c =
    let long = (tagged_long (map object_value c.args.objects.now) (pairs c.args.refs.now) c.args.tags.now).all in
    omega (arith, c.requires.size, length-map c.args.refs.now pair, long)

pub write_number-requires-3 : goal.write_number-requires-3
write_number-requires-3 c =
    let long = (tagged_long (map object_value c.args.objects.now) (pairs c.args.refs.now) c.args.tags.now).all in
    omega (arith, c.requires.size, long)

pub returns-clause-room : goal.returns-clause-room
returns-clause-room c =
    omega (arith, ap length c.in_ok-extend_from_slice.ensures.items, ap length c.in_ok-write_number.ensures, ap length c.in_ok-write_heads.ensures, ap length c.in_ok-write_number-2.ensures, ap length c.in_ok-write_refs.ensures, ap length c.in_ok-write_number-3.ensures, ap length c.in_ok-write_tags.ensures, length-append {A = ℕ}, length-map c.args.objects.now object_value, five-heads (map object_value c.args.objects.now))

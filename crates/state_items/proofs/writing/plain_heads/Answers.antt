use Rattle.std.proofs.Common.{ℕ, arith, ap, length, length-append, map}
use Rattle.std.proofs.lemmas.List.{length-map}
use Rattle.object_store.specs.Errors.{object_value}
use Rattle.ref_store.specs.Pairs.{pair, pairs}
use Rattle.state_items.proofs.Lengths.{item-long}
use Rattle.state_items.proofs.Weaving.{five-heads, item-five}
use Rattle.state_items.proofs.writing.plain_heads.Goals as goal

pub write_number-requires : goal.write_number-requires
write_number-requires c =
    omega (arith, c.requires, length-map c.args.objects.now object_value, item-long (map object_value c.args.objects.now) (pairs c.args.refs.now))

pub write_number-requires-2 : goal.write_number-requires-2
write_number-requires-2 c =
    omega (arith, c.requires, length-map c.args.refs.now pair, item-long (map object_value c.args.objects.now) (pairs c.args.refs.now))

pub add_refs-requires : goal.add_refs-requires
add_refs-requires c =
    omega (arith, c.requires, length-map c.args.objects.now object_value, item-five (map object_value c.args.objects.now) (pairs c.args.refs.now))

pub returns-clause-room : goal.returns-clause-room
returns-clause-room c =
    omega (arith, ap length c.in_ok-extend_from_slice.ensures.items, ap length c.in_ok-write_number.ensures, ap length c.in_ok-write_heads.ensures, ap length c.in_ok-write_number-2.ensures, ap length c.in_ok-write_refs.ensures, length-append {A = ℕ}, length-map c.args.objects.now object_value, five-heads (map object_value c.args.objects.now))

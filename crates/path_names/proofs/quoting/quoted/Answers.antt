use Rattle.std.proofs.Common.{◌∙◌, arith}
use Rattle.path_names.specs.Quoting.{is_special}
use Rattle.path_names.proofs.Quotes.{place-le-length, quoted_end, quoted_more, special_there}
use Rattle.path_names.proofs.quoting.quoted.Goals as goal

pub split_at-requires : goal.split_at-requires
split_at-requires c = omega (arith, place-le-length is_special c.loop-out.rest.now, c.plain_len.ensures)

pub add_escaped-requires : goal.add_escaped-requires
add_escaped-requires c = special_there _ _ _ c.plain_len.ensures c.split_at.ensures.back c.in-len1-up.len_at_least

pub loop-out-preserved : goal.loop-out-preserved
loop-out-preserved c =
    quoted_more c.loop-out.out.items c.loop-out.rest.now _ c.plain_len.result c.split_at.result.0.now c.split_at.result.1.now _
    c.plain_len.ensures c.split_at.ensures.front c.split_at.ensures.back c.in-len1-up.len_at_least c.loop-out.invariant
    c.in_ok-extend_from_slice.ensures.items _ c.in_ok-add_escaped.ensures

pub returns : goal.returns
returns c =
    c.in_ok-push-2.ensures.items
    ∙ quoted_end c.loop-out.out.items c.loop-out.rest.now _ c.plain_len.result c.split_at.result.0.now c.split_at.result.1.now _
    c.plain_len.ensures c.split_at.ensures.front c.split_at.ensures.back c.in_default.len_below c.loop-out.invariant
    c.in_ok-extend_from_slice.ensures.items

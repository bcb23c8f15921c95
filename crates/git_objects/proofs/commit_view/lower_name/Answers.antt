use Rattle.std.proofs.Common.{◌*◌, ◌+◌, refl, ◌∙◌, arith, length-set}
use Rattle.hex.specs.Hex.{encode_with}
use Rattle.git_objects.proofs.LowerDigits.{all_digits, digits_more, none_lower}
use Rattle.git_objects.proofs.commit_view.lower_name.Goals as goal

pub pairs-init : goal.pairs-init
unfolding encode_with
pairs-init c = (refl, refl)

pub returns-in_default : goal.returns-in_default
returns-in_default c = none_lower c.args.text.now (2 * c.pairs.i) (omega arith) c.in_default.ensures.none

pub returns-in_default-lower_digit : goal.returns-in_default-lower_digit
returns-in_default-lower_digit c = none_lower c.args.text.now (2 * c.pairs.i + 1) (omega arith) c.in_default-lower_digit.ensures.none

pub pairs-preserved : goal.pairs-preserved
pairs-preserved c =
    let long = c.pairs.invariant.0 in (
      length-set c.pairs.bytes c.pairs.i (c.in-Some.high * 16 + c.in-Some-lower_digit.low) ∙ long,
      digits_more c.pairs.bytes c.args.text.now c.pairs.i c.in-Some.high c.in-Some-lower_digit.low (omega (arith, long)) (omega arith) c.in-Some.ensures.value.0 c.in-Some-lower_digit.ensures.value.0 c.in-Some.ensures.value.1 c.in-Some-lower_digit.ensures.value.1 c.pairs.invariant.1,
    )

pub returns : goal.returns
returns c = all_digits c.pairs.bytes c.args.text.now c.pairs.i c.if-text-ne40.false c.name_bytes_law.ensures.name c.pairs.invariant.0 (omega arith) c.pairs.invariant.1

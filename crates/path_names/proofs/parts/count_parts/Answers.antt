use Rattle.std.proofs.Common.{◌≡◌, ◌+◌, length, arith, ap}
use Rattle.path_names.proofs.SplitParts.{few_parts}
use Rattle.path_names.proofs.parts.count_parts.Goals as goal

pub overflow_add-count : goal.overflow_add-count
overflow_add-count c =
    let bound = few_parts c.args.text.now in
    let left : length c.loop-part.parts ≡ length c.next.new.self + 1 = omega (arith, ap length c.in-Some.ensures) in
    omega arith

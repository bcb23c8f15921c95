use Rattle.std.proofs.Common.{◌≡◌, ◌-◌, ◌+◌, length, arith}
use Rattle.proj_disk.proofs.Writes.{marked_now, marked_before}
use Rattle.proj_disk.proofs.mem_disk.mark_last.Goals as goal

pub returns-then-is_none : goal.returns-then-is_none
returns-then-is_none c =
    let long : length c.args.writes.now.items ≡ c.len-count.result - 1 + 1 = omega arith in
    marked_now _ _ _ _ long c.index_mut-last.ensures.value c.if-is_none.ensures

pub returns-else-is_none : goal.returns-else-is_none
returns-else-is_none c =
    let long : length c.args.writes.now.items ≡ c.len-count.result - 1 + 1 = omega arith in
    marked_before _ _ _ _ long c.index_mut-last.ensures.value c.if-is_none.ensures

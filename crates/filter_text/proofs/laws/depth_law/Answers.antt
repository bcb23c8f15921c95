use Rattle.std.proofs.Common.{◌+◌, ◌≤◌, take, arith}
use Rattle.filter_text.proofs.Depths.{opens, closes, deep-front, front-deep}
use Rattle.filter_text.proofs.laws.depth_law.Goals as goal

pub returns : goal.returns
returns c = record {
  front = λ t h.
      let f = deep-front 0 0 t h in
      let less : 17 + (0 + closes (take f.0 t)) ≤ 0 + opens (take f.0 t) = f.1 in
      let same : 17 + closes (take f.0 t) ≤ opens (take f.0 t) = omega arith in
      (f.0, same);
  deep = λ t n h.
      let less : 17 + closes (take n t) ≤ opens (take n t) = h in
      let same : 17 + (0 + closes (take n t)) ≤ 0 + opens (take n t) = omega arith in
      front-deep n 0 0 t same;
}

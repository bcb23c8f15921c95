use Rattle.std.proofs.Common.{◌≡◌, drop, true}
use Rattle.filter_text.specs.Filters.{append, have_paths}
use Rattle.filter_text.specs.Shapes.{shapes}
use Rattle.filter_text.proofs.values.+copying.Given as goal

abbrev pub invariant-copy_all-loop-m : goal.invariant-copy_all-loop-m
invariant-copy_all-loop-m l = record {
  copies : append (shapes l.copies.items) (shapes (drop l.m-index l.members)) ≡ shapes l.members;
  paths : have_paths (shapes l.copies.items) ≡ true;
}

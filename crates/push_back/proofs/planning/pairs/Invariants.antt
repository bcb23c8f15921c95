use Rattle.std.proofs.Common.{◌≡◌, map, take}
use Rattle.fast_import.specs.declared.replayed.Made.{Made}
use Rattle.push_back.specs.declared.brought.Pair.{Pair}
use Rattle.push_back.proofs.planning.pairs.Given as goal

-- the pairs of the commits so far
abbrev pub invariant-loop-i : goal.invariant-loop-i
invariant-loop-i l = record {
  pushed : map (λ (p : Pair). p.pushed) l.pairs.items ≡ map (λ (m : Made). m.name) (take l.i l.pushed);
  originals : map (λ (p : Pair). p.original) l.pairs.items ≡ take l.i l.originals;
}

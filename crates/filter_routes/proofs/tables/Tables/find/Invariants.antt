use Rattle.std.proofs.Common.{◌<◌, ℕ}
use Rattle.filter_text.specs.Shapes.{shape}
use Rattle.filter_routes.specs.Interned.{HasAt}
use Rattle.filter_routes.proofs.tables.Tables.find.Given as goal

abbrev pub invariant-loop-i : goal.invariant-loop-i
invariant-loop-i l = (n : ℕ) → n < l.i → HasAt l.self (shape l.filter) n → ⊥

use Rattle.std.proofs.Common.{◌≡◌, drop}
use Rattle.filter_unapply.specs.Shadows.{is_apart}
use Rattle.filter_unapply.proofs.hiding.is_apart.Given as goal

abbrev pub invariant-loop-entry : goal.invariant-loop-entry
invariant-loop-entry l = is_apart (drop l.entry-index l.entries) l.cone.0 ≡ is_apart l.entries l.cone.0

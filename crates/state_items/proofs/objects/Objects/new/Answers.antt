use Rattle.std.proofs.Common.{ap}
use Rattle.object_store.specs.Places.{Intake}
use Rattle.state_items.proofs.RowsHeld.{nothing-held}
use Rattle.state_items.proofs.objects.Objects.new.Goals as goal

pub returns-clause-held : goal.returns-clause-held
returns-clause-held c = nothing-held c.new.result.objects c.new-2.result.keys c.new-3.result c.new-4.result.keys (ap (λ (s : Intake). s.objects) c.new.ensures) c.new-2.ensures.len c.new-3.ensures c.new-4.ensures.len

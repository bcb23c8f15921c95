use Rattle.std.proofs.Common.{refl, ap}
use Rattle.object_store.specs.Places.{Intake}
use Rattle.state_items.proofs.Gathering.{holds-nothing}
use Rattle.state_items.proofs.reading.Reading.new.Goals as goal

pub returns-clause-holds : goal.returns-clause-holds
returns-clause-holds c =
    holds-nothing c.new.result.incoming.objects c.new.result.names.keys c.new.result.graph c.new.result.blobs.keys c.new-2.result c.new-3.result 1 c.new-4.result.items c.new.result.incoming.piece
    c.new.ensures.held (ap (λ (s : Intake). s.objects) c.new.ensures.objects) c.new-2.ensures c.new-3.ensures refl c.new-4.ensures.items

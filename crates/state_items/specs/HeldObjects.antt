-- What the code holds of objects.
use Rattle.state_items.specs.Arrivals.{AreHeld}
use Rattle.state_items.specs.declared.objects.Objects.{Objects}

abbrev pub HoldsObjects : Objects → Type 0
HoldsObjects o = AreHeld o.incoming.objects o.names.keys o.graph o.blobs.keys

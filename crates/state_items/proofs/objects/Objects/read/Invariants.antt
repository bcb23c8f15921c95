use Rattle.std.proofs.Common.{◌≡◌, ◌-◌, ◌≤◌, true, List, ℕ, length}
use Rattle.git_objects.specs.declared.kind.Kind.TheVariants.{Commit}
use Rattle.object_store.specs.Objects.{has}
use Rattle.state_items.specs.Arrivals.{AreHeld}
use Rattle.state_items.specs.Items.{objects_field}
use Rattle.state_items.specs.Stops.{spot_at}
use Rattle.state_items.proofs.objects.Objects.read.Given as goal

-- what is left to read gives what all was to give
abbrev pub invariant-loop-i : goal.invariant-loop-i
invariant-loop-i l = record {
  rest : objects_field l.count l.fn.self.incoming.objects (spot_at l.at l.fn.self.incoming.piece) ≡ objects_field (l.count - l.i) l.self.incoming.objects (spot_at l.end l.fn.self.incoming.piece);
  within : l.end ≤ length l.fn.self.incoming.piece;
  held : AreHeld l.self.incoming.objects l.self.names.keys l.self.graph l.self.blobs.keys;
  piece : l.self.incoming.piece ≡ l.fn.self.incoming.piece;
  commits : (n : List ℕ) → has Commit l.fn.self.incoming.objects n ≡ true → has Commit l.self.incoming.objects n ≡ true;
}

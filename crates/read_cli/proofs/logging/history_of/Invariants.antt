use Rattle.std.proofs.Common.{◌≡◌, map, take}
use Rattle.git_objects.specs.Parts.{name_bytes}
use Rattle.projection_laws.specs.StoredGraphs.{name_at}
use Rattle.read_cli.proofs.logging.history_of.Given as goal

abbrev pub invariant-loop-place : goal.invariant-loop-place
invariant-loop-place l = map name_bytes l.names.items ≡ map (name_at l.ground.graph) (take l.place-index l.place-items)

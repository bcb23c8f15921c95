use Rattle.stage_nodes.specs.Closing.{IsStoring, IsTurn, opens}
use Rattle.stage_nodes.specs.Ways.{kids_of}
use Rattle.stage_nodes.proofs.nodes.Nodes.finish.Given as goal

abbrev pub invariant-directories : goal.invariant-directories
invariant-directories l = record {
  storing : IsStoring l.initial.store l.store l.initial.self l.self;
  turn : IsTurn l.self l.entered.items l.link;
}

abbrev pub decreases-directories : goal.decreases-directories
decreases-directories l = opens (kids_of l.self)

use Rattle.std.proofs.Common.{sym, arith}
use Rattle.std.proofs.lemmas.List.Folds.{list_any_none}
use Rattle.commit_map.specs.Shown.{shown_value}
use Rattle.projection_laws.specs.Projections.{is_shown_as}
use Rattle.projection_laws.specs.StoredGraphs.{name_at}
use Rattle.projection_ground.proofs.choosing.is_among.Goals as goal

pub returns : goal.returns
returns c =
    let g = c.args.ground.now in
    sym (list_any_none (λ p. is_shown_as g.map (shown_value c.args.m.now) (name_at g.graph p)) c.args.places.now (λ k d l. c.loop-i.invariant k d (omega arith) l))

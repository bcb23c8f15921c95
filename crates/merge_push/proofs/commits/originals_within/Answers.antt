use Rattle.std.proofs.Common.{ap, take, ◌∙◌}
use Rattle.filter_text.specs.Shapes.{shape}
use Rattle.merge_push.specs.Originals.{IsMadeOver}
use Rattle.merge_push.proofs.Ending.{cut}
use Rattle.merge_push.proofs.commits.originals_within.Goals as goal

pub returns-clause-same : goal.returns-clause-same
returns-clause-same c = λ cs k.
    let g = c.args.ground.now in
    let l = c.originals_filled-result.new.ground in
    cut (IsMadeOver (shape c.args.filter.now) g c.args.head.now.0 cs) g l c.requires.ground (c.originals_filled-result.ensures.same cs k) c.truncate.new.self c.truncate-2.new.self
    (c.truncate.ensures ∙ ap (λ j. take j l.graph) c.len-commits_before.ensures.len) (c.truncate-2.ensures ∙ ap (λ j. take j l.map) c.len-known_before.ensures)

use Rattle.std.proofs.Common.{◌∙◌}
use Rattle.history_ground.proofs.Standing.{stands-nowhere, stands-searched}
use Rattle.history_ground.proofs.before.stands_among.Goals as goal

pub returns-in-None : goal.returns-in-None
returns-in-None c = stands-nowhere c.args.ground.now c.requires.ground c.args.places.now c.requires.placed c.args.name.now.0 c.in-None.ensures.place

pub returns-in-Some : goal.returns-in-Some
returns-in-Some c =
    c.is_ok.ensures.value
    ∙ stands-searched c.args.ground.now c.requires.ground c.args.places.now c.requires.placed c.args.name.now.0 c.in-Some.place c.in-Some.ensures.place c.requires.rising c.binary_search.result c.binary_search.ensures.position

use Rattle.std.proofs.Common.{sym, ◌∙◌}
use Rattle.filter_text.specs.Shapes.{shape}
use Rattle.history_ground.proofs.Befores.{made-there, walk-at}
use Rattle.history_ground.proofs.Standing.{stands-somewhere}
use Rattle.history_ground.proofs.before.shown_among.Goals as goal

pub made_to-requires-clause-head : goal.made_to-requires-clause-head
made_to-requires-clause-head c =
    let g = c.args.ground.now in
    let ps = c.args.places.now in
    let n = c.args.name.now.0 in
    stands-somewhere g c.requires.ground ps c.requires.placed n (sym c.stands_among.ensures ∙ c.if-not-stands_among.false)

pub returns-in_err-shown-clause-walked : goal.returns-in_err-shown-clause-walked
returns-in_err-shown-clause-walked c =
    let g = c.args.ground.now in
    let ps = c.args.places.now in
    let n = c.args.name.now.0 in
    walk-at (shape c.args.filter.now) g c.made_to.new.ground ps n (sym c.stands_among.ensures ∙ c.if-not-stands_among.false) c.made_to.ensures.walked

pub returns-in_default-clause-walked : goal.returns-in_default-clause-walked
returns-in_default-clause-walked c =
    let g = c.args.ground.now in
    let ps = c.args.places.now in
    let n = c.args.name.now.0 in
    walk-at (shape c.args.filter.now) g c.made_to.new.ground ps n (sym c.stands_among.ensures ∙ c.if-not-stands_among.false) c.made_to.ensures.walked

pub returns-clause-there : goal.returns-clause-there
returns-clause-there c = made-there c.made_to.new.ground.store _ c.in_ok-shown.field-0 c.in-Some.shown c.in_ok-shown.ensures.ok c.in-Some.is

pub returns-clause-walked : goal.returns-clause-walked
returns-clause-walked c =
    let g = c.args.ground.now in
    let ps = c.args.places.now in
    let n = c.args.name.now.0 in
    walk-at (shape c.args.filter.now) g c.made_to.new.ground ps n (sym c.stands_among.ensures ∙ c.if-not-stands_among.false) c.made_to.ensures.walked

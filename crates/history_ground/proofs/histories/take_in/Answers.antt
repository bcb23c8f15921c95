use Rattle.std.proofs.Common.{map, subst}
use Rattle.git_objects.specs.Parts.{name_bytes}
use Rattle.filter_text.specs.Shapes.{shape}
use Rattle.history_ground.specs.Making.{IsAdded, IsTurnObject}
use Rattle.projection_ground.specs.Turns.{IsTurn}
use Rattle.projection_ground.proofs.Asking.{asked-grown}
use Rattle.projection_ground.proofs.Growing.{extends-self}
use Rattle.history_ground.proofs.Steps.{turn-below}
use Rattle.history_ground.proofs.TakenTurns.{fault-either, fits, kept-either, kept-ok, made-object, made-ok, never-below, same-made}
use Rattle.history_ground.proofs.histories.take_in.Goals as goal

pub unreachable-requires : goal.unreachable-requires
unreachable-requires c =
    let f = shape c.args.filter.now in
    let g = c.args.ground.now in
    let h = c.take_turn.new.ground in
    never-below f g h c.args.place c.requires.ground c.take_turn.ensures.same c.take_turn.ensures.map (map name_bytes c.args.made.now.keys) c.requires.ready c.in-Below.field-0
    (turn-below f g h c.args.place c.in_ok-take_turn.field-0 c.in-Below.field-0 c.requires.ground c.requires.ready.there c.in_ok-take_turn.ensures.ok c.in-Below.is)

pub keep_made-requires-clause-fit : goal.keep_made-requires-clause-fit
keep_made-requires-clause-fit c =
    let f = shape c.args.filter.now in
    let g = c.args.ground.now in
    let h = c.take_turn.new.ground in
    fits f g h c.args.place c.requires.ground c.take_turn.ensures.same c.take_turn.ensures.map c.requires.ready.there c.requires.ready.held c.in-New.shown c.in-New.body.items
    (λ d e. subst (IsTurn f g h c.args.place d) c.in-New.is (c.in_ok-take_turn.ensures.ok d e))

pub returns-in-Kept-clause-ok : goal.returns-in-Kept-clause-ok
returns-in-Kept-clause-ok c =
    let f = shape c.args.filter.now in
    let g = c.args.ground.now in
    let h = c.take_turn.new.ground in
    kept-ok f g h c.args.place c.requires.ground c.take_turn.ensures.same c.take_turn.ensures.map (map name_bytes c.args.made.now.keys) c.requires.ready c.keep.new.ground c.in-Kept.shown
    (λ d e. subst (IsTurn f g h c.args.place d) c.in-Kept.is (c.in_ok-take_turn.ensures.ok d e)) c.keep.result c.keep.ensures.ok

pub returns-in-Kept-clause-asked : goal.returns-in-Kept-clause-asked
returns-in-Kept-clause-asked c =
    let f = shape c.args.filter.now in
    let g = c.args.ground.now in
    let h = c.take_turn.new.ground in
    let made = IsTurnObject f g c.args.place (map name_bytes c.args.made.now.keys) in
    asked-grown f h c.keep.new.ground made c.take_turn.new.asked
    (kept-either made h h c.keep.new.ground _ c.keep.result (extends-self made h c.take_turn.ensures.same.ground) c.keep.ensures.ok c.keep.ensures.err) c.take_turn.ensures.asked

pub returns-in-New-clause-ok : goal.returns-in-New-clause-ok
returns-in-New-clause-ok c =
    let f = shape c.args.filter.now in
    let g = c.args.ground.now in
    let h = c.take_turn.new.ground in
    made-ok f g h c.args.place c.requires.ground c.take_turn.ensures.same c.take_turn.ensures.map (map name_bytes c.args.made.now.keys) c.requires.ready c.in-New.shown c.in-New.body.items
    (λ d e. subst (IsTurn f g h c.args.place d) c.in-New.is (c.in_ok-take_turn.ensures.ok d e))
    c.keep_made.new.ground (map name_bytes c.keep_made.new.made.keys) c.keep_made.ensures.same c.keep_made.result c.keep_made.ensures.taken c.keep_made.ensures.map

pub returns-in-New-clause-same : goal.returns-in-New-clause-same
returns-in-New-clause-same c =
    let f = shape c.args.filter.now in
    let g = c.args.ground.now in
    let h = c.take_turn.new.ground in
    same-made f g h c.args.place c.requires.ground c.take_turn.ensures.same c.take_turn.ensures.map (map name_bytes c.args.made.now.keys) c.requires.ready c.in-New.shown c.in-New.body.items
    (λ d e. subst (IsTurn f g h c.args.place d) c.in-New.is (c.in_ok-take_turn.ensures.ok d e)) c.keep_made.new.ground c.keep_made.ensures.same

pub returns-in-New-clause-asked : goal.returns-in-New-clause-asked
returns-in-New-clause-asked c =
    let f = shape c.args.filter.now in
    asked-grown f c.take_turn.new.ground c.keep_made.new.ground (IsAdded (map name_bytes c.args.made.now.keys) c.in-New.body.items) c.take_turn.new.asked c.keep_made.ensures.same c.take_turn.ensures.asked

pub returns-in-New-clause-err : goal.returns-in-New-clause-err
returns-in-New-clause-err c =
    let f = shape c.args.filter.now in
    let g = c.args.ground.now in
    let h = c.take_turn.new.ground in
    let ns = map name_bytes c.args.made.now.keys in
    fault-either (IsAdded ns c.in-New.body.items) (IsTurnObject f g c.args.place ns) c.keep_made.new.ground.store
    (made-object f g h c.args.place c.requires.ground c.take_turn.ensures.same c.take_turn.ensures.map ns c.requires.ready c.in-New.shown c.in-New.body.items
    (λ d e. subst (IsTurn f g h c.args.place d) c.in-New.is (c.in_ok-take_turn.ensures.ok d e))) c.keep_made.result c.keep_made.ensures.err

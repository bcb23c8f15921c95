use Rattle.std.proofs.Common.{ap}
use Rattle.std.proofs.lemmas.Result.{err_from_is_err_and}
use Rattle.stage_tree.proofs.Marked.{none_known}
use Rattle.stage_tree.proofs.Setting.{child_set, remembered}
use Rattle.stage_tree.proofs.sets.put_last.Goals as goal

pub returns-in_err-number-clause-ok : goal.returns-in_err-number-clause-ok
returns-in_err-number-clause-ok c =
    let p = err_from_is_err_and c.from_residual.result c.from_residual.ensures.1 in
    rw (p.1) tt

pub returns-in_err-number-clause-err : goal.returns-in_err-number-clause-err
returns-in_err-number-clause-err c =
    let p = err_from_is_err_and c.from_residual.result c.from_residual.ensures.1 in
    rw (p.1) c.in_err-number.ensures.err

pub returns-in_err-number-clause-child : goal.returns-in_err-number-clause-child
returns-in_err-number-clause-child c = none_known c.put_on.new.nodes c.args.last.now.child c.args.last.now.directory.items c.args.last.now.numbers.items c.requires.forgotten

pub returns-clause-ok : goal.returns-clause-ok
returns-clause-ok c = λ S w held. (c.in_ok-number.number, c.in_ok-number.ensures.ok S w held)

pub returns-clause-child : goal.returns-clause-child
returns-clause-child c =
    let s = c.args.nodes.now in let p = c.args.components.now in let w = c.args.way in let k = c.in_ok-number.number in
    let way = c.requires.way.1 in
    remembered c.put_on.new.nodes c.remember.new.self.child c.remember.new.self.directory.items _ c.remember.new.self.numbers.items c.args.last.now.numbers.items k c.remember.ensures.child (ap (λ n. n.items) c.remember.ensures.numbers)
    (child_set c.requires.way.0 s c.put_on.new.nodes p c.args.last.now.numbers.items w.level w.spot.link w.spot.child c.args.found k way c.requires.way.3 (c.in_ok-number.ensures.ok c.requires.way.0 way c.requires.way.2))

pub put_on-requires-clause-way : goal.put_on-requires-clause-way
put_on-requires-clause-way c = (c.requires.way.0, c.requires.way.1, c.requires.way.2)

pub put_on-requires-clause-components : goal.put_on-requires-clause-components
put_on-requires-clause-components c = c.requires.components

use Rattle.std.proofs.Common.{refl}
use Rattle.fast_import.specs.Replaying.{setting_value}
use Rattle.repo_ground.proofs.TestedMoves.{moves-back, moves-on, new-placed}
use Rattle.repo_ground.proofs.moves.backward_at.Goals as goal

pub forward-requires-clause-new_is_there : goal.forward-requires-clause-new_is_there
forward-requires-clause-new_is_there c =
    let q = c.requires.may in
    new-placed q.0 c.args.graph.now q.1 c.args.refs.now q.2 (setting_value c.args.setting.now) q.3 c.in-Some.old.0 c.in-Some.ensures

pub returns-then-branch : goal.returns-then-branch
returns-then-branch c = λ S cs sorted m.
    moves-on S c.args.graph.now cs c.args.refs.now sorted (setting_value c.args.setting.now) m c.in-Some.old.0 c.in-Some.ensures
    c.in_ok-forward-in-Some.field-0 c.in_ok-forward-in-Some.ensures c.if-branch.true

pub returns-in_ok-refname-in-Some : goal.returns-in_ok-refname-in-Some
returns-in_ok-refname-in-Some c = λ S cs sorted m.
    moves-back S c.args.graph.now cs c.args.refs.now sorted (setting_value c.args.setting.now) m c.in-Some.old.0 c.in-Some.ensures
    c.in_ok-forward-in-Some.field-0 c.in_ok-forward-in-Some.ensures c.if-branch.false
    (record { refname = c.in_ok-refname-in-Some.refname; old_commit = c.in-Some.old; new_commit = c.args.setting.now.head }) c.in_ok-refname-in-Some.ensures refl refl

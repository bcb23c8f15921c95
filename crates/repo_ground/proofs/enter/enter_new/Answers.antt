use Rattle.std.proofs.Common.{◌≡◌, None, true, sym, ap, ◌∙◌}
use Rattle.std.specs.Option.{is_some}
use Rattle.std.proofs.lemmas.Result.{on_ok_weaker}
use Rattle.commit_graph.specs.Graphs.{place_of}
use Rattle.object_store.specs.Errors.{object_value}
use Rattle.repo_ground.proofs.CommitsEntered.{next-entered, next-has, next-of, next-parents}
use Rattle.repo_ground.proofs.Entered.{front-none}
use Rattle.repo_ground.proofs.Reaching.{none-of}
use Rattle.repo_ground.proofs.enter.enter_new.Goals as goal

pub returns-then-is_some-clause-entered : goal.returns-then-is_some-clause-entered
returns-then-is_some-clause-entered c = λ known d w.
    let placed : is_some (place_of c.args.key.0 c.args.graph.now) ≡ true = ap is_some (sym c.index_of.ensures.place) ∙ sym c.is_some.ensures ∙ c.if-is_some.true in
    next-has c.args.store.now c.args.graph.now known c.args.key d w c.args.graph.now (front-none c.args.graph.now) w.has.graph placed

pub enter_commit-requires-clause-parents : goal.enter_commit-requires-clause-parents
enter_commit-requires-clause-parents c =
    let q = c.requires.next in
    let o = object_value c.in-Some.object in
    next-parents c.args.store.now c.args.graph.now q.0 c.args.key q.1 q.2 o.body (next-of c.args.store.now c.args.graph.now q.0 c.args.key q.1 q.2 o (sym c.in-Some.ensures.object)).1

pub enter_commit-requires-clause-named : goal.enter_commit-requires-clause-named
enter_commit-requires-clause-named c =
    let q = c.requires.next in
    sym (next-of c.args.store.now c.args.graph.now q.0 c.args.key q.1 q.2 (object_value c.in-Some.object) (sym c.in-Some.ensures.object)).1.named

pub returns-in-Some-clause-entered : goal.returns-in-Some-clause-entered
returns-in-Some-clause-entered c =
    let new : place_of c.args.key.0 c.args.graph.now ≡ None = sym c.index_of.ensures.place ∙ none-of c.index_of.result (sym c.is_some.ensures ∙ c.if-is_some.false) in
    on_ok_weaker c.enter_commit.result
    (λ e known d w. next-entered c.args.store.now c.args.graph.now known c.args.key d w (object_value c.in-Some.object) (sym c.in-Some.ensures.object) new c.enter_commit.new.graph c.enter_commit.ensures.front e)
    c.enter_commit.ensures.rows

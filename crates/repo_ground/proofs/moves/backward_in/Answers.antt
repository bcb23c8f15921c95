use Rattle.std.proofs.Common.{List, ◌++◌, None, ap, map, reverse, subst, sym, ◌∙◌}
use Rattle.std.specs.Result.{IfOk}
use Rattle.fast_import.specs.Replaying.{setting_value}
use Rattle.fast_import.specs.declared.replayed.Setting.{Setting}
use Rattle.git_objects.specs.declared.name.Name.{Name}
use Rattle.repo_ground.specs.Moves.{IsMove, first_backward}
use Rattle.repo_ground.specs.Reaching.{MayEnter, MayTest}
use Rattle.repo_ground.proofs.TestedMoves.{may-test}
use Rattle.repo_ground.proofs.moves.backward_in.Goals as goal

pub enter_commits-requires : goal.enter_commits-requires
enter_commits-requires c =
    let q = c.requires.may in
    record { may = (q.0, q.2, subst (λ (ns : List Name). MayEnter c.args.store.now c.args.graph.now q.0 ns q.2) (sym c.deref-2.ensures.value) q.3.enter) }

pub backward_among-requires : goal.backward_among-requires
backward_among-requires c =
    let q = c.requires.may in
    let S = c.args.store.now in
    let enter = subst (λ (ns : List Name). MayEnter S c.args.graph.now q.0 ns q.2) (sym c.deref-2.ensures.value) q.3.enter in
    let has = c.in_ok-enter_commits.ensures.entered q.0 q.2 enter in
    let test = may-test S c.args.graph.now c.enter_commits.new.graph q.0 q.2 c.args.refs.now q.1 c.args.batch.now q.3 c.in_ok-enter_commits.ensures.front has in
    record {
      may = (
        S,
        reverse q.2 ++ q.0,
        q.1,
        subst (λ (xs : List Setting). MayTest S c.enter_commits.new.graph (reverse q.2 ++ q.0) c.args.refs.now q.1 (map setting_value xs)) (sym c.deref-3.ensures.value) test,
      );
    }

pub returns-clause-first : goal.returns-clause-first
returns-clause-first c = λ known sorted cs m.
    let S = c.args.store.now in
    let enter = subst (λ (ns : List Name). MayEnter S c.args.graph.now known ns cs) (sym c.deref-2.ensures.value) m.enter in
    let has = c.in_ok-enter_commits.ensures.entered known cs enter in
    let test = may-test S c.args.graph.now c.enter_commits.new.graph known cs c.args.refs.now sorted c.args.batch.now m c.in_ok-enter_commits.ensures.front has in
    subst (λ (xs : List Setting). IfOk c.backward_among.result (IsMove (first_backward (reverse cs ++ known) sorted (map setting_value xs)))) c.deref-3.ensures.value
    (c.backward_among.ensures S (reverse cs ++ known) sorted
    (subst (λ (xs : List Setting). MayTest S c.enter_commits.new.graph (reverse cs ++ known) c.args.refs.now sorted (map setting_value xs)) (sym c.deref-3.ensures.value) test))

pub returns-then-are_settled-clause-first : goal.returns-then-are_settled-clause-first
returns-then-are_settled-clause-first c = λ known sorted cs m.
    let e = ap (λ (xs : List Setting). first_backward (reverse cs ++ known) sorted (map setting_value xs)) (sym c.deref.ensures.value) ∙ c.are_settled.ensures c.if-are_settled.true (reverse cs ++ known) sorted m.old.found in
    subst (λ o. IsMove o None) (sym e) tt

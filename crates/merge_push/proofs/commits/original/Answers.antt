use Rattle.std.proofs.Common.{true, false, ◌∙◌, ap, sym, subst, Err}
use Rattle.std.specs.Prelude.{Result}
use Rattle.std.proofs.lemmas.Result.{err_from_is_err_and}
use Rattle.object_store.specs.Unfolding.{flat}
use Rattle.filter_text.specs.Shapes.{shape}
use Rattle.projection_laws.specs.StoredGraphs.{name_at}
use Rattle.projection_ground.specs.Choosing.{is_own_by, names_at}
use Rattle.fast_import.specs.declared.replayed.Made.{Made}
use Rattle.push_back.specs.declared.refusal.TreeRefusal.{TreeRefusal}
use Rattle.merge_push.specs.Originals.{IsOriginal, original_upon}
use Rattle.merge_push.proofs.Puts.{is-own, many, moved, no-tree, not-many, still, too-many, tree-has, whole}
use Rattle.merge_push.proofs.commits.original.Goals as goal

pub returns-in_err-tree : goal.returns-in_err-tree
returns-in_err-tree c = λ d k again.
    let f = shape c.args.filter.now in
    let g = c.args.ground.now in
    let t = flat g.store c.args.base.0 in
    let ps = c.args.parents.now in
    let own = is_own_by g ps d.tree d.letter in
    let ns = names_at g.graph ps in
    let yes = is-own g ps c.args.pushed.now d k c.in_ok-is_own_upon.field-0 c.if-not-branch.false c.in_ok-is_own_upon.ensures in
    let p = err_from_is_err_and c.from_residual-in_err-tree.result c.from_residual-in_err-tree.ensures.1 in
    subst (λ (r : Result Made TreeRefusal). IsOriginal f t d (original_upon f own t ns d) g c.tree_upon.new.ground r) (sym (p.1 ∙ ap Err p.2))
    (no-tree f g c.requires.ground own t ns c.args.pushed.now d k yes c.tree_upon.new.ground c.tree_upon.result c.tree_upon.ensures.answer c.tree_upon.ensures.same c.in_err-tree.field-0.0 c.in_err-tree.was)

pub returns-then-parents-gt-PARENTS : goal.returns-then-parents-gt-PARENTS
returns-then-parents-gt-PARENTS c = λ d k again.
    let f = shape c.args.filter.now in
    let g = c.args.ground.now in
    let t = flat g.store c.args.base.0 in
    let ps = c.args.parents.now in
    let own = is_own_by g ps d.tree d.letter in
    let yes = is-own g ps c.args.pushed.now d k c.in_ok-is_own_upon.field-0 c.if-not-branch.false c.in_ok-is_own_upon.ensures in
    too-many f g c.requires.ground own t (names_at g.graph ps) c.args.pushed.now d k yes c.tree_upon.new.ground c.tree_upon.result c.tree_upon.ensures.answer c.tree_upon.ensures.same c.in_ok-tree.tree c.in_ok-tree.was
    (many (name_at g.graph) ps c.if-parents-gt-PARENTS.true)

pub put_original-requires-clause-tree : goal.put_original-requires-clause-tree
put_original-requires-clause-tree c =
    let f = shape c.args.filter.now in
    let g = c.args.ground.now in
    let ps = c.args.parents.now in
    let w = c.requires.pushed in
    let own = is_own_by g ps w.0.tree w.0.letter in
    let yes = is-own g ps c.args.pushed.now w.0 w.1 c.in_ok-is_own_upon.field-0 c.if-not-branch.false c.in_ok-is_own_upon.ensures in
    tree-has f g c.requires.ground own (flat g.store c.args.base.0) (names_at g.graph ps) c.args.pushed.now w.0 w.1 yes c.tree_upon.new.ground c.tree_upon.result c.tree_upon.ensures.answer c.tree_upon.ensures.same c.in_ok-tree.tree c.in_ok-tree.was

pub put_original-requires-clause-pushed : goal.put_original-requires-clause-pushed
put_original-requires-clause-pushed c =
    let f = shape c.args.filter.now in
    let g = c.args.ground.now in
    let ps = c.args.parents.now in
    let w = c.requires.pushed in
    let own = is_own_by g ps w.0.tree w.0.letter in
    let yes = is-own g ps c.args.pushed.now w.0 w.1 c.in_ok-is_own_upon.field-0 c.if-not-branch.false c.in_ok-is_own_upon.ensures in
    (w.0, still f g c.requires.ground own (flat g.store c.args.base.0) (names_at g.graph ps) c.args.pushed.now w.0 w.1 yes c.tree_upon.new.ground c.tree_upon.result c.tree_upon.ensures.answer c.tree_upon.ensures.same, w.2)

pub returns : goal.returns
returns c = λ d k again.
    let f = shape c.args.filter.now in
    let g = c.args.ground.now in
    let h = c.tree_upon.new.ground in
    let t = flat g.store c.args.base.0 in
    let ps = c.args.parents.now in
    let own = is_own_by g ps d.tree d.letter in
    let ns = names_at g.graph ps in
    let yes = is-own g ps c.args.pushed.now d k c.in_ok-is_own_upon.field-0 c.if-not-branch.false c.in_ok-is_own_upon.ensures in
    let there = still f g c.requires.ground own t ns c.args.pushed.now d k yes h c.tree_upon.result c.tree_upon.ensures.answer c.tree_upon.ensures.same in
    whole f g c.requires.ground own t ns c.args.pushed.now d k yes h c.tree_upon.result c.tree_upon.ensures.answer c.tree_upon.ensures.same c.in_ok-tree.tree c.in_ok-tree.was (not-many (name_at g.graph) ps c.if-parents-gt-PARENTS.false)
    c.put_original.new.ground c.put_original.result (moved f g h ps d c.tree_upon.ensures.same c.in_ok-tree.tree c.put_original.new.ground c.put_original.result (c.put_original.ensures d there again))

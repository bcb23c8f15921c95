use Rattle.std.proofs.Common.{refl, sym, ap, subst, ◌∙◌, Err, Result}
use Rattle.std.proofs.lemmas.Result.{err_from_is_err_and}
use Rattle.git_objects.specs.Names.{name}
use Rattle.git_objects.specs.declared.kind.Kind.TheVariants.{Commit}
use Rattle.object_store.specs.Unfolding.{flat}
use Rattle.object_store.proofs.Growth.{has-grown}
use Rattle.filter_text.specs.Shapes.{shape}
use Rattle.fast_import.specs.declared.replayed.Made.{Made}
use Rattle.push_back.specs.Originals.{IsOriginal}
use Rattle.push_back.specs.declared.refusal.TreeRefusal.{TreeRefusal}
use Rattle.push_back.proofs.OneOriginal.{body-fits, body-upon, commit-has, no-memory, no-tree, put-done, put-failed, still, tree-has}
use Rattle.push_back.proofs.commits.original.Goals as goal

pub returns-in_err-tree : goal.returns-in_err-tree
returns-in_err-tree c = λ d k.
    let g = c.args.ground.now in
    let T = c.original_tree.new.ground in
    let f = shape c.args.filter.now in
    let t = flat g.store c.args.before.tree.0 in
    let s = flat g.store c.args.seen.0 in
    let p = err_from_is_err_and c.from_residual.result c.from_residual.ensures.1 in
    subst (λ (r : Result Made TreeRefusal). IsOriginal f c.args.before.name.0 t s d g T r) (sym (p.1 ∙ ap Err p.2))
    (no-tree f c.args.before.name.0 t s c.args.pushed.now d g c.requires.ground k T c.original_tree.result c.original_tree.ensures.answer c.original_tree.ensures.same c.in_err-tree.field-0.0 c.in_err-tree.was)

pub own_body-requires-clause-commit : goal.own_body-requires-clause-commit
own_body-requires-clause-commit c =
    let g = c.args.ground.now in
    let w = c.requires.pushed in
    has-grown g.store c.original_tree.new.ground.store Commit c.args.pushed.now.name.0 c.original_tree.ensures.answer.grown (commit-has g.store c.args.pushed.now w.0 w.1)

pub returns-in_err-body : goal.returns-in_err-body
returns-in_err-body c = λ d k.
    let g = c.args.ground.now in
    let T = c.original_tree.new.ground in
    let f = shape c.args.filter.now in
    let t = flat g.store c.args.before.tree.0 in
    let s = flat g.store c.args.seen.0 in
    let p = err_from_is_err_and c.from_residual-in_err-body.result c.from_residual-in_err-body.ensures.1 in
    subst (λ (r : Result Made TreeRefusal). IsOriginal f c.args.before.name.0 t s d g T r) (sym (p.1 ∙ ap Err p.2))
    (no-memory f c.args.before.name.0 t s c.args.pushed.now d g c.requires.ground k T c.original_tree.result c.original_tree.ensures.answer c.original_tree.ensures.same)

pub put_commit-requires : goal.put_commit-requires
put_commit-requires c =
    let g = c.args.ground.now in
    let T = c.original_tree.new.ground in
    let f = shape c.args.filter.now in
    let t = flat g.store c.args.before.tree.0 in
    let s = flat g.store c.args.seen.0 in
    let h = c.args.before.name.0 in
    let m = c.args.pushed.now in
    let w = c.requires.pushed in
    let there = still f h t s m w.0 g c.requires.ground w.1 T c.original_tree.result c.original_tree.ensures.answer c.original_tree.ensures.same in
    let store = c.original_tree.ensures.same.extends.ground.graph.store in
    body-fits T.store m w.0 store there c.in_ok-tree.tree.0 h c.in_ok-body.body.items
    (tree-has f h t s m w.0 g c.requires.ground w.1 T c.original_tree.result c.original_tree.ensures.answer c.original_tree.ensures.same c.in_ok-tree.tree c.in_ok-tree.was)
    (has-grown g.store T.store Commit h c.original_tree.ensures.answer.grown c.requires.head)
    (body-upon T.store m w.0 store there c.in_ok-tree.tree.0 c.args.before.tree.0 h c.in_ok-body.body.items c.in_ok-body.ensures)

pub returns-in_err-put_commit : goal.returns-in_err-put_commit
returns-in_err-put_commit c = λ d k.
    let g = c.args.ground.now in
    let T = c.original_tree.new.ground in
    let f = shape c.args.filter.now in
    let t = flat g.store c.args.before.tree.0 in
    let s = flat g.store c.args.seen.0 in
    let h = c.args.before.name.0 in
    let m = c.args.pushed.now in
    let there = still f h t s m d g c.requires.ground k T c.original_tree.result c.original_tree.ensures.answer c.original_tree.ensures.same in
    let body = body-upon T.store m d c.original_tree.ensures.same.extends.ground.graph.store there c.in_ok-tree.tree.0 c.args.before.tree.0 h c.in_ok-body.body.items c.in_ok-body.ensures in
    let p = err_from_is_err_and c.from_residual-in_err-put_commit.result c.from_residual-in_err-put_commit.ensures.1 in
    subst (λ (r : Result Made TreeRefusal). IsOriginal f h t s d g (record T { store = c.put_commit.new.store }) r) (sym (p.1 ∙ ap Err p.2))
    (put-failed f h t s m d g c.requires.ground k T c.original_tree.result c.original_tree.ensures.answer c.original_tree.ensures.same c.in_ok-tree.tree c.in_ok-tree.was c.in_ok-body.body.items body
    (record T { store = c.put_commit.new.store }) refl c.put_commit.ensures.store c.in_err-put_commit.field-0.0 c.in_err-put_commit.ensures.err)

pub returns : goal.returns
returns c = λ d k.
    let g = c.args.ground.now in
    let T = c.original_tree.new.ground in
    let f = shape c.args.filter.now in
    let t = flat g.store c.args.before.tree.0 in
    let s = flat g.store c.args.seen.0 in
    let h = c.args.before.name.0 in
    let m = c.args.pushed.now in
    let there = still f h t s m d g c.requires.ground k T c.original_tree.result c.original_tree.ensures.answer c.original_tree.ensures.same in
    let body = body-upon T.store m d c.original_tree.ensures.same.extends.ground.graph.store there c.in_ok-tree.tree.0 c.args.before.tree.0 h c.in_ok-body.body.items c.in_ok-body.ensures in
    put-done f h t s m d g c.requires.ground k T c.original_tree.result c.original_tree.ensures.answer c.original_tree.ensures.same c.in_ok-tree.tree c.in_ok-tree.was c.in_ok-body.body.items body
    (record T { store = c.put_commit.new.store }) refl c.put_commit.ensures.store c.name_of-name.result (c.name_of-name.ensures ∙ ap (name Commit) c.deref.ensures.value) c.in_ok-put_commit.ensures.ok

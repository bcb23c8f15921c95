use Rattle.std.proofs.Common.{inl, subst}
use Rattle.std.proofs.lemmas.Result.{err_from_is_err_and}
use Rattle.git_objects.specs.Paths.{Path}
use Rattle.path_trees.specs.Standing.{node}
use Rattle.stage_tree.specs.Edits.{IsEdited, set_in}
use Rattle.stage_tree.proofs.stage.Stage.set.Goals as goal

pub returns-in_err-path : goal.returns-in_err-path
returns-in_err-path c = λ t h.
    let p = err_from_is_err_and c.from_residual.result c.from_residual.ensures.1 in
    rw (p.1) (record { done = tt; refused = (h, inl p.2) })

pub returns : goal.returns
returns c = λ t h.
    subst (λ (q : Path). IsEdited {A = Unit {0}} c.args.store.now c.set_owned.new.self t (set_in t q (node c.args.store.now (record { mode = c.args.leaf.mode; name = c.args.leaf.name }))) c.set_owned.result) c.in_ok-path.ensures
    (c.set_owned.ensures t h)

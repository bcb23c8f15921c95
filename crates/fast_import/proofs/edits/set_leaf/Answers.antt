use Rattle.path_trees.specs.Standing.{node}
use Rattle.stage_tree.specs.Edits.{set_in}
use Rattle.fast_import.proofs.Editing.{edit_refused}
use Rattle.fast_import.proofs.edits.set_leaf.Goals as goal

pub returns-in-Err : goal.returns-in-Err
returns-in-Err c = λ t h.
    edit_refused c.args.store.now c.set_owned.new.self t (set_in t c.args.path (node c.args.store.now (record { mode = c.args.leaf.mode; name = c.args.leaf.name }))) c.args.at c.in-Err.fault c.fault_at.result c.set_owned.result (c.set_owned.ensures t h) c.in-Err.is c.fault_at.ensures

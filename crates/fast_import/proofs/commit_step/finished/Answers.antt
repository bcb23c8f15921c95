use Rattle.std.proofs.Common.{IfErr, Result, sym, subst}
use Rattle.git_objects.specs.declared.name.Name.{Name}
use Rattle.path_trees.specs.Made.{IsTreeFault}
use Rattle.path_trees.specs.declared.found.TreeFault.{TreeFault}
use Rattle.stage_nodes.specs.Closing.{HasDirectory}
use Rattle.fast_import.specs.Made.{IsDirectoryOf, IsPutFault}
use Rattle.fast_import.proofs.Ending.{directories_fault, directories_grown}
use Rattle.fast_import.proofs.commit_step.finished.Goals as goal

pub returns-in-Err-clause-err : goal.returns-in-Err-clause-err
returns-in-Err-clause-err c = λ t h.
    subst (IsPutFault (IsDirectoryOf t) c.finish.new.store) (sym c.tree_fault.ensures) (directories_fault c.finish.new.store t c.in-Err.fault (subst (λ (r : Result Name TreeFault). IfErr r (IsTreeFault (HasDirectory t) c.finish.new.store)) c.in-Err.is (c.finish.ensures t h).refused))

pub returns-in-Err-clause-store : goal.returns-in-Err-clause-store
returns-in-Err-clause-store c = λ t h. directories_grown c.args.store.now c.finish.new.store t ((c.finish.ensures t h).grown)

pub returns-in-Ok-clause-store : goal.returns-in-Ok-clause-store
returns-in-Ok-clause-store c = λ t h. directories_grown c.args.store.now c.finish.new.store t ((c.finish.ensures t h).grown)

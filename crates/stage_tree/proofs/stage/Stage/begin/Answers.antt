use Rattle.std.proofs.Common.{sym, ◌∙◌}
use Rattle.std.proofs.lemmas.Result.{err_from_is_err_and}
use Rattle.stage_tree.proofs.Staging.{begun, begun_nodes, begun_shows}
use Rattle.stage_tree.proofs.Fewer.{stats_files}
use Rattle.stage_tree.proofs.Marked.{none_known}
use Rattle.stage_tree.proofs.stage.Stage.begin.Goals as goal

pub invariant_of-result : goal.invariant_of-result
invariant_of-result c = let o = c.in_ok-of_root.ensures in record { stage = begun c.in_ok-of_root.field-0 c.args.root o; last_there = none_known c.in_ok-of_root.field-0 c.new.result.child c.new.result.directory.items c.new.result.numbers.items c.new.ensures }

pub returns-clause-nodes : goal.returns-clause-nodes
returns-clause-nodes c = begun_nodes c.in_ok-of_root.field-0 c.args.root c.in_ok-of_root.ensures

pub returns-clause-shows : goal.returns-clause-shows
returns-clause-shows c =
    begun_shows c.in_ok-of_root.field-0 c.args.root c.in_ok-of_root.ensures c.args.store.now c.in-Some.stats.files
    (stats_files c.args.store.now c.args.root.0 c.in-Some.stats c.requires (sym c.in-Some.is ∙ c.stats.ensures)) c.store_law.ensures.store c.requires

pub returns-in_err-of_root-clause-shows : goal.returns-in_err-of_root-clause-shows
returns-in_err-of_root-clause-shows c = let p = err_from_is_err_and c.from_residual.result c.from_residual.ensures.1 in rw (p.1) tt

pub returns-in_err-of_root-clause-nodes : goal.returns-in_err-of_root-clause-nodes
returns-in_err-of_root-clause-nodes c = let p = err_from_is_err_and c.from_residual.result c.from_residual.ensures.1 in rw (p.1) tt

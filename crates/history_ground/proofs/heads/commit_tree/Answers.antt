-- Proves what src/heads.rt needs of `commit_tree`.
use Rattle.std.proofs.Common.{sym}
use Rattle.history_ground.proofs.HeadLemmas.{head-tree, head-tree-has}
use Rattle.history_ground.proofs.heads.commit_tree.Goals as goal

pub returns-clause-held : goal.returns-clause-held
returns-clause-held c = head-tree-has c.args.ground.now c.args.head.now.0 c.in-Some.place c.requires.ground c.in-Some.ensures.place c.tree.result.0 c.tree.ensures

pub returns-clause-tree : goal.returns-clause-tree
returns-clause-tree c = sym (head-tree c.args.ground.now c.args.head.now.0 c.in-Some.place c.requires.ground c.in-Some.ensures.place c.tree.result.0 c.tree.ensures)

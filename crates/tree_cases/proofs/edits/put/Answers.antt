use Rattle.git_objects.specs.Trees.{put}
use Rattle.path_trees.specs.Standing.{node}
use Rattle.tree_cases.proofs.edits.put.Goals as goal

pub returns-in-Ok : goal.returns-in-Ok
returns-in-Ok c =
    let t = c.requires.shows.0 in
    (put t c.args.to.now (node c.args.store.now c.in-Some-entry_at.found), c.in-Ok.ensures.ok t c.requires.shows.1)

pub returns-in-Err : goal.returns-in-Err
returns-in-Err c = (c.requires.shows.0, c.in-Err.ensures.err c.requires.shows.0 c.requires.shows.1)

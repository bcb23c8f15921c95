use Rattle.std.proofs.Common.{ap, subst, ◌∙◌}
use Rattle.std.proofs.lemmas.Result.{err_from_is_err_and}
use Rattle.git_objects.specs.Paths.{Path, is_path}
use Rattle.git_objects.specs.Trees.{put}
use Rattle.git_objects.proofs.Basics.{and_both}
use Rattle.path_trees.specs.Standing.{node}
use Rattle.stage_tree.specs.Stages.{Shows, staged}
use Rattle.stage_tree.proofs.Marked.{none_known, rooted_in}
use Rattle.stage_tree.proofs.Setting.{path_components, put_done, shows_unmoved, wasted_unmoved}
use Rattle.stage_tree.proofs.Staging.{stage_of}
use Rattle.stage_tree.proofs.stage.Stage.put.Goals as goal

pub arrive-requires-clause-marked : goal.arrive-requires-clause-marked
arrive-requires-clause-marked c = c.self.invariant

pub arrive-requires-clause-held : goal.arrive-requires-clause-held
arrive-requires-clause-held c = rooted_in c.args.store.now c.self.inside.nodes c.self.inside.most c.args.self.now c.self.view_is c.requires.shows.0 c.requires.shows.1

pub arrive-requires-clause-path : goal.arrive-requires-clause-path
arrive-requires-clause-path c = ap is_path c.components-components.ensures.components ∙ c.components-components.ensures.path

pub invariant_of-self : goal.invariant_of-self
invariant_of-self c = record { stage = c.in_err-way.ensures.err.stage; last_there = none_known c.arrive.new.nodes c.arrive.new.last.child c.arrive.new.last.directory.items c.arrive.new.last.numbers.items c.arrive.ensures.forgotten }

pub returns-in_err-way-clause-err : goal.returns-in_err-way-clause-err
returns-in_err-way-clause-err c =
    let p = err_from_is_err_and c.from_residual.result c.from_residual.ensures.1 in
    rw (p.1) (λ t h. shows_unmoved c.args.store.now c.self.inside.nodes c.self.inside.most c.args.self.now c.self.view_is t h c.arrive.new.nodes c.in_err-way.ensures.err)

pub put_last-requires-clause-way : goal.put_last-requires-clause-way
put_last-requires-clause-way c = (c.args.store.now, c.in_ok-way.ensures.ok.way, and_both c.requires.found c.name_bytes_law.ensures.name, c.in_ok-way.ensures.ok.numbers)

pub put_last-requires-clause-components : goal.put_last-requires-clause-components
put_last-requires-clause-components c = path_components c.components-components.result.now (ap is_path c.components-components.ensures.components ∙ c.components-components.ensures.path)

pub put_last-requires-clause-forgotten : goal.put_last-requires-clause-forgotten
put_last-requires-clause-forgotten c = c.arrive.ensures.forgotten

pub invariant_of-self-in_err-put_last : goal.invariant_of-self-in_err-put_last
invariant_of-self-in_err-put_last c = record {
  stage = (wasted_unmoved c.args.store.now c.self.inside.nodes c.self.inside.most c.args.self.now c.self.view_is c.requires.shows.0 c.requires.shows.1 c.arrive.new.nodes c.components-components.result.now c.arrive.new.last.numbers.items c.in_ok-way.way.level c.in_ok-way.way.spot.link c.in_ok-way.way.spot.child c.in_ok-way.ensures.ok c.put_last.new.nodes c.in_err-put_last.ensures.err).stage;
  last_there = c.put_last.ensures.child;
}

pub returns-in_err-put_last-clause-err : goal.returns-in_err-put_last-clause-err
returns-in_err-put_last-clause-err c =
    let p = err_from_is_err_and c.from_residual-in_err-put_last.result c.from_residual-in_err-put_last.ensures.1 in
    rw (p.1) (λ t h. shows_unmoved c.args.store.now c.self.inside.nodes c.self.inside.most c.args.self.now c.self.view_is t h c.put_last.new.nodes (wasted_unmoved c.args.store.now c.self.inside.nodes c.self.inside.most c.args.self.now c.self.view_is t h c.arrive.new.nodes c.components-components.result.now c.arrive.new.last.numbers.items c.in_ok-way.way.level c.in_ok-way.way.spot.link c.in_ok-way.way.spot.child c.in_ok-way.ensures.ok c.put_last.new.nodes c.in_err-put_last.ensures.err))

pub invariant_of-self-2 : goal.invariant_of-self-2
invariant_of-self-2 c =
    let made = c.in_ok-put_last.ensures.ok c.args.store.now c.in_ok-way.ensures.ok.way (and_both c.requires.found c.name_bytes_law.ensures.name) in
    record { stage = stage_of c.args.store.now c.put_last.new.nodes made.1.opened; last_there = c.put_last.ensures.child }

pub returns-clause-ok : goal.returns-clause-ok
returns-clause-ok c = λ t h.
    let made = c.in_ok-put_last.ensures.ok c.args.store.now c.in_ok-way.ensures.ok.way (and_both c.requires.found c.name_bytes_law.ensures.name) in
    subst (λ (q : Path). Shows c.args.store.now (staged c.put_last.new.nodes 4294967295) (put t q (node c.args.store.now c.args.found))) c.components-components.ensures.components
    (put_done c.args.store.now c.self.inside.nodes c.self.inside.most c.args.self.now c.self.view_is t h c.arrive.new.nodes c.components-components.result.now c.arrive.new.last.numbers.items c.in_ok-way.way.level c.in_ok-way.way.spot.link c.in_ok-way.way.spot.child c.in_ok-way.ensures.ok (ap is_path c.components-components.ensures.components ∙ c.components-components.ensures.path) c.args.found c.requires.found c.name_bytes_law.ensures.name c.put_last.new.nodes made.0 made.1)

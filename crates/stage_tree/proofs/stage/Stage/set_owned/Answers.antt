use Rattle.std.proofs.Common.{Ok, Err, ap, subst, ◌∙◌}
use Rattle.std.proofs.lemmas.Result.{err_from_is_err_and}
use Rattle.git_objects.specs.Paths.{Path, is_path}
use Rattle.git_objects.proofs.Basics.{and_both}
use Rattle.path_trees.specs.Standing.{node}
use Rattle.stage_tree.specs.Edits.{IsEdited, set_in}
use Rattle.stage_tree.specs.Stages.{staged}
use Rattle.stage_tree.proofs.Marked.{none_known, rooted_in}
use Rattle.stage_tree.proofs.Setting.{arrived_unmoved, wasted_unmoved, arrived_at, arrived_most, set_done, set_refused, memory_refused, path_components}
use Rattle.stage_tree.proofs.Staging.{stage_of}
use Rattle.stage_tree.proofs.stage.Stage.set_owned.Goals as goal

pub arrive-requires-clause-marked : goal.arrive-requires-clause-marked
arrive-requires-clause-marked c = c.self.invariant

pub arrive-requires-clause-held : goal.arrive-requires-clause-held
arrive-requires-clause-held c = rooted_in c.args.store.now c.self.inside.nodes c.self.inside.most c.args.self.now c.self.view_is c.requires.shows.0 c.requires.shows.1

pub arrive-requires-clause-path : goal.arrive-requires-clause-path
arrive-requires-clause-path c = ap is_path (c.deref.ensures.value ∙ c.into_components-components.ensures.components) ∙ c.into_components-components.ensures.path

pub invariant_of-self : goal.invariant_of-self
invariant_of-self c = record { stage = c.in_err-way.ensures.err.stage; last_there = none_known c.arrive.new.nodes c.arrive.new.last.child c.arrive.new.last.directory.items c.arrive.new.last.numbers.items c.arrive.ensures.forgotten }

pub returns-in_err-way : goal.returns-in_err-way
returns-in_err-way c = λ t h.
    let p = err_from_is_err_and c.from_residual.result c.from_residual.ensures.1 in
    rw (p.1) (memory_refused c.args.store.now c.self.inside.nodes c.self.inside.most c.args.self.now c.self.view_is t h c.arrive.new.nodes p.0 (set_in t c.args.path (node c.args.store.now (record { mode = c.args.leaf.mode; name = c.args.leaf.name }))) c.in_err-way.ensures.err p.2)

pub most_with_leaf-requires-clause-opened : goal.most_with_leaf-requires-clause-opened
most_with_leaf-requires-clause-opened c = c.in_ok-way.ensures.ok.way.still.opened

pub most_with_leaf-requires-clause-place : goal.most_with_leaf-requires-clause-place
most_with_leaf-requires-clause-place c =
    let w = c.in_ok-way.ensures.ok.way in
    record { path = w.before; component = w.component; link = c.in_ok-way.way.spot.link; place = w.place }

pub most_with_leaf-requires-clause-most : goal.most_with_leaf-requires-clause-most
most_with_leaf-requires-clause-most c = arrived_most c.args.store.now c.self.inside.nodes c.self.inside.most c.args.self.now c.self.view_is c.requires.shows.0 c.requires.shows.1 c.arrive.new.nodes c.deref.result.now c.arrive.new.last.numbers.items c.in_ok-way.way.level c.in_ok-way.way.spot.link c.in_ok-way.way.spot.child c.in_ok-way.ensures.ok

pub invariant_of-self-in_err-most : goal.invariant_of-self-in_err-most
invariant_of-self-in_err-most c = record {
  stage = stage_of c.args.store.now c.arrive.new.nodes c.in_ok-way.ensures.ok.way.still.opened;
  last_there = none_known c.arrive.new.nodes c.arrive.new.last.child c.arrive.new.last.directory.items c.arrive.new.last.numbers.items c.arrive.ensures.forgotten;
}

pub returns-in_err-most : goal.returns-in_err-most
returns-in_err-most c = λ t h.
    let p = err_from_is_err_and c.from_residual-in_err-most.result c.from_residual-in_err-most.ensures.1 in
    rw (p.1, p.2)
    (subst (λ (q : Path). IsEdited {A = Unit {0}} c.args.store.now (staged c.arrive.new.nodes c.self.inside.most) t (set_in t q (node c.args.store.now (record { mode = c.args.leaf.mode; name = c.args.leaf.name }))) (Err c.in_err-most.field-0.0)) (c.deref.ensures.value ∙ c.into_components-components.ensures.components)
    (set_refused c.args.store.now c.self.inside.nodes c.self.inside.most c.args.self.now c.self.view_is t h c.arrive.new.nodes c.deref.result.now c.arrive.new.last.numbers.items c.in_ok-way.way.level c.in_ok-way.way.spot.link c.in_ok-way.way.spot.child c.in_ok-way.ensures.ok (ap is_path (c.deref.ensures.value ∙ c.into_components-components.ensures.components) ∙ c.into_components-components.ensures.path) (record { mode = c.args.leaf.mode; name = c.args.leaf.name }) c.requires.leaf c.name_bytes_law.ensures.name c.args.leaf.is_leaf c.arrive.new.nodes c.in_err-most.field-0.0 (arrived_unmoved c.args.store.now c.self.inside.nodes c.self.inside.most c.args.self.now c.self.view_is t h c.arrive.new.nodes c.deref.result.now c.arrive.new.last.numbers.items c.in_ok-way.way.level c.in_ok-way.way.spot.link c.in_ok-way.way.spot.child c.in_ok-way.ensures.ok) c.in_err-most.ensures.err))

pub put_kept-requires-clause-way : goal.put_kept-requires-clause-way
put_kept-requires-clause-way c =
    let a = arrived_at c.args.store.now c.self.inside.nodes c.arrive.new.nodes c.deref.result.now c.into_components-components.result.items c.arrive.new.last.numbers.items c.in_ok-way.way.level c.in_ok-way.way.spot.link c.in_ok-way.way.spot.child c.deref.ensures.value c.in_ok-way.ensures.ok in
    (c.args.store.now, a.way, and_both c.requires.leaf c.name_bytes_law.ensures.name, a.numbers)

pub put_kept-requires-clause-components : goal.put_kept-requires-clause-components
put_kept-requires-clause-components c = path_components c.into_components-components.result.items (ap is_path c.into_components-components.ensures.components ∙ c.into_components-components.ensures.path)

pub put_kept-requires-clause-forgotten : goal.put_kept-requires-clause-forgotten
put_kept-requires-clause-forgotten c = c.arrive.ensures.forgotten

pub invariant_of-self-in_err-put_kept : goal.invariant_of-self-in_err-put_kept
invariant_of-self-in_err-put_kept c = record {
  stage = (wasted_unmoved c.args.store.now c.self.inside.nodes c.self.inside.most c.args.self.now c.self.view_is c.requires.shows.0 c.requires.shows.1 c.arrive.new.nodes c.deref.result.now c.arrive.new.last.numbers.items c.in_ok-way.way.level c.in_ok-way.way.spot.link c.in_ok-way.way.spot.child c.in_ok-way.ensures.ok c.put_kept.new.nodes c.in_err-put_kept.ensures.err).stage;
  last_there = c.put_kept.ensures.child;
}

pub returns-in_err-put_kept : goal.returns-in_err-put_kept
returns-in_err-put_kept c = λ t h.
    let p = err_from_is_err_and c.from_residual-in_err-put_kept.result c.from_residual-in_err-put_kept.ensures.1 in
    rw (p.1) (memory_refused c.args.store.now c.self.inside.nodes c.self.inside.most c.args.self.now c.self.view_is t h c.put_kept.new.nodes p.0 (set_in t c.args.path (node c.args.store.now (record { mode = c.args.leaf.mode; name = c.args.leaf.name }))) (wasted_unmoved c.args.store.now c.self.inside.nodes c.self.inside.most c.args.self.now c.self.view_is t h c.arrive.new.nodes c.deref.result.now c.arrive.new.last.numbers.items c.in_ok-way.way.level c.in_ok-way.way.spot.link c.in_ok-way.way.spot.child c.in_ok-way.ensures.ok c.put_kept.new.nodes c.in_err-put_kept.ensures.err) p.2)

pub invariant_of-self-2 : goal.invariant_of-self-2
invariant_of-self-2 c =
    let a = arrived_at c.args.store.now c.self.inside.nodes c.arrive.new.nodes c.deref.result.now c.into_components-components.result.items c.arrive.new.last.numbers.items c.in_ok-way.way.level c.in_ok-way.way.spot.link c.in_ok-way.way.spot.child c.deref.ensures.value c.in_ok-way.ensures.ok in
    let made = c.in_ok-put_kept.ensures.ok c.args.store.now a.way (and_both c.requires.leaf c.name_bytes_law.ensures.name) in
    record { stage = stage_of c.args.store.now c.put_kept.new.nodes made.1.opened; last_there = c.put_kept.ensures.child }

pub returns : goal.returns
returns c = λ t h.
    let a = arrived_at c.args.store.now c.self.inside.nodes c.arrive.new.nodes c.deref.result.now c.into_components-components.result.items c.arrive.new.last.numbers.items c.in_ok-way.way.level c.in_ok-way.way.spot.link c.in_ok-way.way.spot.child c.deref.ensures.value c.in_ok-way.ensures.ok in
    let made = c.in_ok-put_kept.ensures.ok c.args.store.now a.way (and_both c.requires.leaf c.name_bytes_law.ensures.name) in
    subst (λ (q : Path). IsEdited {A = Unit {0}} c.args.store.now (staged c.put_kept.new.nodes c.in_ok-most.most) t (set_in t q (node c.args.store.now (record { mode = c.args.leaf.mode; name = c.args.leaf.name }))) (Ok tt)) c.into_components-components.ensures.components
    (set_done c.args.store.now c.self.inside.nodes c.self.inside.most c.args.self.now c.self.view_is t h c.arrive.new.nodes c.into_components-components.result.items c.arrive.new.last.numbers.items c.in_ok-way.way.level c.in_ok-way.way.spot.link c.in_ok-way.way.spot.child a (ap is_path c.into_components-components.ensures.components ∙ c.into_components-components.ensures.path) (record { mode = c.args.leaf.mode; name = c.args.leaf.name }) c.requires.leaf c.name_bytes_law.ensures.name c.args.leaf.is_leaf tt c.put_kept.new.nodes made.0 made.1 c.in_ok-most.most c.in_ok-most.ensures.ok)

use Rattle.std.proofs.Common.{List, sym, ap, ◌∙◌, length, Some, refl}
use Rattle.std.specs.Prelude.{nat_lt}
use Rattle.stage_nodes.specs.declared.nodes.Link.TheVariants.{First, Next}
use Rattle.stage_nodes.specs.Frames.{pointed}
use Rattle.stage_nodes.specs.declared.nodes.Node.{Node}
use Rattle.stage_nodes.proofs.Freeing.{number_inside, child_inside, length_pointed, handed_on, handed_less, given, given_less}
use Rattle.stage_nodes.proofs.nodes.Nodes.free_one.Goals as goal

pub target-requires : goal.target-requires
target-requires c = number_inside c.args.self.now c.args.number c.requires.walk

pub target-rest-requires : goal.target-rest-requires
target-rest-requires c = child_inside c.args.self.now c.args.number c.in-Some.child c.requires.walk c.in-Some.ensures

pub point-requires : goal.point-requires
point-requires c = number_inside c.args.self.now c.args.number c.requires.walk

pub point-requires-in-Some : goal.point-requires-in-Some
point-requires-in-Some c =
    ap (nat_lt c.in-Some.child) (ap length c.point.ensures.cells ∙ length_pointed c.args.self.now.cells.items (First c.args.number) c.target-rest.result)
    ∙ child_inside c.args.self.now c.args.number c.in-Some.child c.requires.walk c.in-Some.ensures

pub target-rest-requires-in-None : goal.target-rest-requires-in-None
target-rest-requires-in-None c = number_inside c.args.self.now c.args.number c.requires.walk

pub point-requires-in-None : goal.point-requires-in-None
point-requires-in-None c = number_inside c.args.self.now c.args.number c.requires.walk

pub returns-in-Some-clause-turn : goal.returns-in-Some-clause-turn
returns-in-Some-clause-turn c = handed_on c.args.self.now c.point-in-Some.new.self c.args.number c.in-Some.child c.requires (sym c.in-Some.ensures)
    (ap (λ v. v.items) (c.point-in-Some.ensures.names ∙ c.point.ensures.names)) (c.point-in-Some.ensures.free ∙ c.point.ensures.free)
    (c.point-in-Some.ensures.cells ∙ ap (λ (v : List Node). pointed v (Next c.in-Some.child) (Some c.args.number)) (c.point.ensures.cells ∙ ap (pointed c.args.self.now.cells.items (First c.args.number)) c.target-rest.ensures))

pub returns-in-Some-clause-less : goal.returns-in-Some-clause-less
returns-in-Some-clause-less c = handed_less c.args.self.now c.point-in-Some.new.self c.args.number c.in-Some.child c.requires (sym c.in-Some.ensures)
    (ap (λ v. v.items) (c.point-in-Some.ensures.names ∙ c.point.ensures.names)) (c.point-in-Some.ensures.free ∙ c.point.ensures.free)
    (c.point-in-Some.ensures.cells ∙ ap (λ (v : List Node). pointed v (Next c.in-Some.child) (Some c.args.number)) (c.point.ensures.cells ∙ ap (pointed c.args.self.now.cells.items (First c.args.number)) c.target-rest.ensures))

pub returns-in-None-clause-turn : goal.returns-in-None-clause-turn
returns-in-None-clause-turn c = given c.args.self.now (record { cells = c.point-in-None.new.self.cells; names = c.point-in-None.new.self.names; free = Some c.args.number }) c.args.number c.target-rest-in-None.result c.requires (sym c.in-None.ensures)
    (ap (λ v. v.items) c.point-in-None.ensures.names) c.target-rest-in-None.ensures refl c.point-in-None.ensures.cells

pub returns-in-None-clause-less : goal.returns-in-None-clause-less
returns-in-None-clause-less c = given_less c.args.self.now (record { cells = c.point-in-None.new.self.cells; names = c.point-in-None.new.self.names; free = Some c.args.number }) c.args.number c.target-rest-in-None.result c.requires (sym c.in-None.ensures)
    (ap (λ v. v.items) c.point-in-None.ensures.names) c.target-rest-in-None.ensures refl c.point-in-None.ensures.cells

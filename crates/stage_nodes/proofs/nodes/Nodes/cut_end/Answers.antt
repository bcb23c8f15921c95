use Rattle.std.proofs.Common.{sym, ◌∙◌}
use Rattle.stage_nodes.proofs.Pruning.{none_cut, whole_cut, whole_cut_at, whole_link}
use Rattle.stage_nodes.proofs.Walking.{way_within}
use Rattle.stage_nodes.proofs.nodes.Nodes.cut_end.Goals as goal

pub reached-requires : goal.reached-requires
reached-requires c = way_within c.requires.0 c.args.self.now c.args.self.now c.args.components.now c.args.way.level c.args.way.spot.link c.args.way.spot.child c.requires.1

pub returns-in_default-clause-cut : goal.returns-in_default-clause-cut
returns-in_default-clause-cut c = λ e S w. none_cut S c.args.self.now c.args.self.now c.args.components.now w.still.opened c.args.way w c.in_default.ensures

pub is_alone-requires : goal.is_alone-requires
is_alone-requires c = whole_link c.requires.0 c.args.self.now c.args.self.now c.args.components.now c.requires.1.still.opened c.args.way c.requires.1 c.in-Some.child c.in-Some.ensures

pub cut-requires : goal.cut-requires
cut-requires c = whole_cut c.requires.0 c.args.self.now c.args.self.now c.args.components.now c.requires.1.still.opened c.args.way c.requires.1 c.in-Some.child c.in-Some.ensures (sym c.is_alone.ensures ∙ c.if-is_alone.false)

pub returns-clause-cut : goal.returns-clause-cut
returns-clause-cut c = λ e S w.
    whole_cut_at S c.args.self.now c.args.self.now c.args.components.now w.still.opened c.args.way w c.in-Some.child c.in-Some.ensures c.cut.new.self (sym c.is_alone.ensures ∙ c.if-is_alone.false) c.cut.ensures

use Rattle.std.proofs.Common.{ℕ, Option, sym, ap, subst, ◌∙◌}
use Rattle.stage_nodes.proofs.Seeking.{inside_link}
use Rattle.std.proofs.lemmas.Option.{slice_get_within}
use Rattle.stage_nodes.specs.Pools.{IsPutBefore}
use Rattle.stage_nodes.proofs.Replacing.{behind_of, spot_link, old_inside, old_link, can_free_old, put_only, put_over}
use Rattle.stage_nodes.proofs.nodes.Nodes.replace.Goals as goal

pub target-behind-requires : goal.target-behind-requires
target-behind-requires c = spot_link c.args.self.now c.args.link c.args.child c.args.number c.requires

pub put_before-requires-clause-link : goal.put_before-requires-clause-link
put_before-requires-clause-link c = spot_link c.args.self.now c.args.link c.args.child c.args.number c.requires

pub put_before-requires-in-Some-clause-link : goal.put_before-requires-in-Some-clause-link
put_before-requires-in-Some-clause-link c = spot_link c.args.self.now c.args.link c.args.child c.args.number c.requires

pub target-behind-requires-in-Some : goal.target-behind-requires-in-Some
target-behind-requires-in-Some c = old_inside c.args.self.now c.args.link c.args.child c.args.number c.requires c.in-Some.old c.in-Some.is

pub point-requires : goal.point-requires
point-requires c =
    let put : IsPutBefore c.args.self.now c.put_before-in-Some.new.self c.args.link (behind_of c.args.self.now.cells.items c.args.link c.args.child) c.args.number =
    subst (λ (o : Option ℕ). IsPutBefore c.args.self.now c.put_before-in-Some.new.self c.args.link o c.args.number) (c.target-behind-in-Some.ensures ∙ ap (behind_of c.args.self.now.cells.items c.args.link) (sym c.in-Some.is)) c.put_before-in-Some.ensures in
    old_link c.args.self.now c.args.link c.args.child c.args.number c.requires c.put_before-in-Some.new.self put c.in-Some.old c.in-Some.is

pub free_all-requires : goal.free_all-requires
free_all-requires c =
    let put : IsPutBefore c.args.self.now c.put_before-in-Some.new.self c.args.link (behind_of c.args.self.now.cells.items c.args.link c.args.child) c.args.number =
    subst (λ (o : Option ℕ). IsPutBefore c.args.self.now c.put_before-in-Some.new.self c.args.link o c.args.number) (c.target-behind-in-Some.ensures ∙ ap (behind_of c.args.self.now.cells.items c.args.link) (sym c.in-Some.is)) c.put_before-in-Some.ensures in
    can_free_old c.args.self.now c.args.link c.args.child c.args.number c.requires c.put_before-in-Some.new.self put c.in-Some.old c.in-Some.is c.point.new.self c.point.new.self c.point.ensures.cells (ap (λ v. v.items) c.point.ensures.names) c.point.ensures.free

pub returns-in-None : goal.returns-in-None
returns-in-None c = λ h.
    let put : IsPutBefore c.args.self.now c.put_before.new.self c.args.link (behind_of c.args.self.now.cells.items c.args.link c.args.child) c.args.number =
    subst (λ (o : Option ℕ). IsPutBefore c.args.self.now c.put_before.new.self c.args.link o c.args.number) (c.target-behind.ensures ∙ ap (behind_of c.args.self.now.cells.items c.args.link) (sym c.in-None.is)) c.put_before.ensures in
    put_only c.args.self.now c.args.link c.args.child c.args.number h c.put_before.new.self put c.in-None.is

pub returns-in-Some : goal.returns-in-Some
returns-in-Some c = λ h.
    let put : IsPutBefore c.args.self.now c.put_before-in-Some.new.self c.args.link (behind_of c.args.self.now.cells.items c.args.link c.args.child) c.args.number =
    subst (λ (o : Option ℕ). IsPutBefore c.args.self.now c.put_before-in-Some.new.self c.args.link o c.args.number) (c.target-behind-in-Some.ensures ∙ ap (behind_of c.args.self.now.cells.items c.args.link) (sym c.in-Some.is)) c.put_before-in-Some.ensures in
    put_over c.args.self.now c.args.link c.args.child c.args.number h c.put_before-in-Some.new.self put c.in-Some.old c.in-Some.is c.point.new.self c.free_all.new.self c.point.ensures.cells (ap (λ v. v.items) c.point.ensures.names) c.point.ensures.free c.free_all.ensures

pub put_before-requires-clause-number : goal.put_before-requires-clause-number
put_before-requires-clause-number c = inside_link c.args.self.now.names.items c.args.self.now.cells.items c.args.number (slice_get_within c.args.self.now.cells.items c.args.number c.requires.node c.requires.there)

pub put_before-requires-in-Some-clause-number : goal.put_before-requires-in-Some-clause-number
put_before-requires-in-Some-clause-number c = inside_link c.args.self.now.names.items c.args.self.now.cells.items c.args.number (slice_get_within c.args.self.now.cells.items c.args.number c.requires.node c.requires.there)

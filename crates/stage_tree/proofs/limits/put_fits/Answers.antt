use Rattle.std.proofs.Common.{sym, ap, ◌∙◌, arith}
use Rattle.stage_nodes.specs.declared.nodes.Content.{Content}
use Rattle.stage_nodes.specs.declared.nodes.Content.TheVariants.{Held, Open}
use Rattle.stage_tree.specs.Limits.{content_fits, cost, fits_in, limit_of, room_left}
use Rattle.stage_tree.proofs.Fits.{room_less}
use Rattle.stage_nodes.proofs.Finishing.{on_ok}
use Rattle.stage_nodes.proofs.NodePlaces.{v, node_inside, read_content, read_held}
use Rattle.stage_tree.proofs.PutFits.{children_hang, children_countable, no_room_left, node_put_fits, limit_low}
use Rattle.stage_tree.proofs.limits.put_fits.Goals as goal

pub returns-in_default : goal.returns-in_default
returns-in_default c = λ h t n g. no_room_left c.args.store.now c.requires.store c.args.nodes.now c.args.number h t n g c.args.measure (limit_of c.args.measure) c.args.to.now (c.in_default.ensures ∙ ap (λ l. room_left l (cost c.args.measure c.args.to.now)) c.limit.ensures)

pub index-requires : goal.index-requires
index-requires c = omega (arith, node_inside c.args.store.now c.args.nodes.now c.args.number c.requires.place)

pub found_fits-requires-clause-room : goal.found_fits-requires-clause-room
found_fits-requires-clause-room c = omega (arith, room_less (limit_of c.args.measure) (cost c.args.measure c.args.to.now) c.in-Some.room (c.in-Some.ensures ∙ ap (λ l. room_left l (cost c.args.measure c.args.to.now)) c.limit.ensures), limit_low c.args.measure)

pub found_fits-requires-clause-held : goal.found_fits-requires-clause-held
found_fits-requires-clause-held c = read_held c.args.store.now c.args.nodes.now c.args.number c.requires.place c.index.result.now c.index.ensures c.in-Held.found c.in-Held.is

pub siblings_fit-requires-clause-nodes : goal.siblings_fit-requires-clause-nodes
siblings_fit-requires-clause-nodes c = children_countable c.args.store.now c.args.nodes.now c.args.number c.requires.place c.requires.opened

pub siblings_fit-requires-clause-room : goal.siblings_fit-requires-clause-room
siblings_fit-requires-clause-room c = omega (arith, room_less (limit_of c.args.measure) (cost c.args.measure c.args.to.now) c.in-Some.room (c.in-Some.ensures ∙ ap (λ l. room_left l (cost c.args.measure c.args.to.now)) c.limit.ensures), limit_low c.args.measure)

pub returns-in-Held : goal.returns-in-Held
returns-in-Held c = λ h t n g.
    let S = c.args.store.now in let s = c.args.nodes.now in let k = c.args.number in let m = c.args.measure in
    let is = read_content S s k h c.index.result.now c.index.ensures (Held c.in-Held.found) c.in-Held.is in
    c.found_fits.ensures
    ∙ sym (ap (λ (x : Content). content_fits m S c.in-Some.room x (fits_in m S c.in-Some.room (v S s k h).children)) is)
    ∙ node_put_fits S c.requires.store s k h t n g m (limit_of c.args.measure) c.in-Some.room c.args.to.now (c.in-Some.ensures ∙ ap (λ l. room_left l (cost c.args.measure c.args.to.now)) c.limit.ensures)

pub returns-in-Open : goal.returns-in-Open
returns-in-Open c =
    let S = c.args.store.now in let s = c.args.nodes.now in let k = c.args.number in let m = c.args.measure in
    on_ok c.siblings_fit.result (λ fits e h t n g.
    e ∙ ap (fits_in m S c.in-Some.room) (children_hang S s k h c.requires.opened)
    ∙ sym (ap (λ (x : Content). content_fits m S c.in-Some.room x (fits_in m S c.in-Some.room (v S s k h).children)) (read_content S s k h c.index.result.now c.index.ensures Open c.in-Open.is))
    ∙ node_put_fits S c.requires.store s k h t n g m (limit_of c.args.measure) c.in-Some.room c.args.to.now (c.in-Some.ensures ∙ ap (λ l. room_left l (cost c.args.measure c.args.to.now)) c.limit.ensures))
    c.siblings_fit.ensures

pub found_fits-requires-clause-store : goal.found_fits-requires-clause-store
found_fits-requires-clause-store c = c.requires.store

pub siblings_fit-requires-clause-store : goal.siblings_fit-requires-clause-store
siblings_fit-requires-clause-store c = c.requires.store

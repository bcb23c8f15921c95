use Rattle.std.proofs.Common.{◌≡◌, None, true, not, drop, ap, subst, ◌∙◌, arith}
use Rattle.stage_nodes.proofs.NodePlaces.{node_inside}
use Rattle.std.specs.Prelude.{slice_set}
use Rattle.std.specs.Cmp.{second_so}
use Rattle.std.specs.List.{list_all}
use Rattle.git_objects.specs.Paths.{is_component, is_nil}
use Rattle.stage_nodes.specs.declared.nodes.Node.{Node}
use Rattle.stage_nodes.specs.declared.nodes.Content.{Content}
use Rattle.stage_nodes.specs.declared.nodes.Content.TheVariants.{Held}
use Rattle.stage_tree.specs.Renames.{IsGraft, stand_in}
use Rattle.stage_nodes.proofs.Opening.{read_node}
use Rattle.stage_nodes.proofs.Walking.{stop_within}
use Rattle.stage_tree.proofs.Relocating.{n, move_inside, base_t, walk_t, clear_t, back_inside, move_failed, has_spot, is_moved}
use Rattle.stage_tree.proofs.renames.relocate.Goals as goal

pub set-requires : goal.set-requires
set-requires g c = move_inside c.args.nodes.now c.args.number c.args.to.now c.requires.node

pub walk-way-requires-clause-nodes : goal.walk-way-requires-clause-nodes
walk-way-requires-clause-nodes g c =
    let h = c.requires.node in
    let s = c.args.nodes.now in let k = c.args.number in let p = c.args.to.now in
    let valid : list_all is_component p ≡ true = second_so (not (is_nil p)) (list_all is_component p) c.requires.path in
    let r : c.index-source.result.now ≡ (n s k p h).node = read_node s.cells.items k c.index-source.result.now (n s k p h).node c.index-source.ensures (n s k p h).there in
    let cells : c.set.new.self.cells.items ≡ slice_set s.cells.items k (record (n s k p h).node { content = Held stand_in; first = None }) = c.set.ensures.cells ∙ (λ i. slice_set s.cells.items k (record (r i) { content = Held (c.stand_in.ensures i); first = None })) in
    walk_t s k p h c.set.new.self cells (ap (λ v. v.items) c.set.ensures.names) c.set.ensures.free

pub graft-requires-clause-pool : goal.graft-requires-clause-pool
graft-requires-clause-pool g c =
    let h = c.requires.node in
    let s = c.args.nodes.now in let k = c.args.number in let p = c.args.to.now in let w = c.walk-way.result in
    let valid : list_all is_component p ≡ true = second_so (not (is_nil p)) (list_all is_component p) c.requires.path in
    let r : c.index-source.result.now ≡ (n s k p h).node = read_node s.cells.items k c.index-source.result.now (n s k p h).node c.index-source.ensures (n s k p h).there in
    let cells : c.set.new.self.cells.items ≡ slice_set s.cells.items k (record (n s k p h).node { content = Held stand_in; first = None }) = c.set.ensures.cells ∙ (λ i. slice_set s.cells.items k (record (r i) { content = Held (c.stand_in.ensures i); first = None })) in
    (base_t s k p h c.set.new.self cells (ap (λ v. v.items) c.set.ensures.names) c.set.ensures.free).pool

pub graft-requires-clause-level : goal.graft-requires-clause-level
graft-requires-clause-level g c =
    let h = c.requires.node in
    let s = c.args.nodes.now in let k = c.args.number in let p = c.args.to.now in let w = c.walk-way.result in
    let valid : list_all is_component p ≡ true = second_so (not (is_nil p)) (list_all is_component p) c.requires.path in
    let r : c.index-source.result.now ≡ (n s k p h).node = read_node s.cells.items k c.index-source.result.now (n s k p h).node c.index-source.ensures (n s k p h).there in
    let cells : c.set.new.self.cells.items ≡ slice_set s.cells.items k (record (n s k p h).node { content = Held stand_in; first = None }) = c.set.ensures.cells ∙ (λ i. slice_set s.cells.items k (record (r i) { content = Held (c.stand_in.ensures i); first = None })) in
    stop_within h.objects c.set.new.self p w.level w.spot.link w.spot.child (c.walk-way.ensures (walk_t s k p h c.set.new.self cells (ap (λ v. v.items) c.set.ensures.names) c.set.ensures.free) (clear_t s k p h c.set.new.self cells (ap (λ v. v.items) c.set.ensures.names) c.set.ensures.free p h.clear))

pub replace-requires : goal.replace-requires
replace-requires g c =
    let h = c.requires.node in
    let s = c.args.nodes.now in let k = c.args.number in let p = c.args.to.now in let w = c.walk-way.result in
    let valid : list_all is_component p ≡ true = second_so (not (is_nil p)) (list_all is_component p) c.requires.path in
    let r : c.index-source.result.now ≡ (n s k p h).node = read_node s.cells.items k c.index-source.result.now (n s k p h).node c.index-source.ensures (n s k p h).there in
    let cells : c.set.new.self.cells.items ≡ slice_set s.cells.items k (record (n s k p h).node { content = Held stand_in; first = None }) = c.set.ensures.cells ∙ (λ i. slice_set s.cells.items k (record (r i) { content = Held (c.stand_in.ensures i); first = None })) in
    has_spot s k p h c.set.new.self cells (ap (λ v. v.items) c.set.ensures.names) c.set.ensures.free w.level w.spot.link w.spot.child (c.walk-way.ensures (walk_t s k p h c.set.new.self cells (ap (λ v. v.items) c.set.ensures.names) c.set.ensures.free) (clear_t s k p h c.set.new.self cells (ap (λ v. v.items) c.set.ensures.names) c.set.ensures.free p h.clear)) c.graft.new.nodes c.in-Ok.top (subst (λ (x : Content). IsGraft c.set.new.self c.graft.new.nodes (drop w.level p) x (n s k p h).node.first c.in-Ok.top) (n s k p h).cell.content (subst (λ (v : Node). IsGraft c.set.new.self c.graft.new.nodes (drop w.level p) v.content v.first c.in-Ok.top) r c.in-Ok.ensures.ok)) valid

pub set-requires-in-Err : goal.set-requires-in-Err
set-requires-in-Err g c =
    let h = c.requires.node in
    let s = c.args.nodes.now in let k = c.args.number in let p = c.args.to.now in
    let valid : list_all is_component p ≡ true = second_so (not (is_nil p)) (list_all is_component p) c.requires.path in
    let r : c.index-source.result.now ≡ (n s k p h).node = read_node s.cells.items k c.index-source.result.now (n s k p h).node c.index-source.ensures (n s k p h).there in
    let cells : c.set.new.self.cells.items ≡ slice_set s.cells.items k (record (n s k p h).node { content = Held stand_in; first = None }) = c.set.ensures.cells ∙ (λ i. slice_set s.cells.items k (record (r i) { content = Held (c.stand_in.ensures i); first = None })) in
    back_inside s k p h c.set.new.self cells (ap (λ v. v.items) c.set.ensures.names) c.set.ensures.free c.graft.new.nodes c.in-Err.ensures.err

pub returns-in-Ok-clause-ok : goal.returns-in-Ok-clause-ok
returns-in-Ok-clause-ok g c = λ h.
    let s = c.args.nodes.now in let k = c.args.number in let p = c.args.to.now in let w = c.walk-way.result in
    let valid : list_all is_component p ≡ true = second_so (not (is_nil p)) (list_all is_component p) c.requires.path in
    let r : c.index-source.result.now ≡ (n s k p h).node = read_node s.cells.items k c.index-source.result.now (n s k p h).node c.index-source.ensures (n s k p h).there in
    let cells : c.set.new.self.cells.items ≡ slice_set s.cells.items k (record (n s k p h).node { content = Held stand_in; first = None }) = c.set.ensures.cells ∙ (λ i. slice_set s.cells.items k (record (r i) { content = Held (c.stand_in.ensures i); first = None })) in
    is_moved s k p h c.set.new.self cells (ap (λ v. v.items) c.set.ensures.names) c.set.ensures.free w.level w.spot.link w.spot.child (c.walk-way.ensures (walk_t s k p h c.set.new.self cells (ap (λ v. v.items) c.set.ensures.names) c.set.ensures.free) (clear_t s k p h c.set.new.self cells (ap (λ v. v.items) c.set.ensures.names) c.set.ensures.free p h.clear)) c.graft.new.nodes c.in-Ok.top (subst (λ (x : Content). IsGraft c.set.new.self c.graft.new.nodes (drop w.level p) x (n s k p h).node.first c.in-Ok.top) (n s k p h).cell.content (subst (λ (v : Node). IsGraft c.set.new.self c.graft.new.nodes (drop w.level p) v.content v.first c.in-Ok.top) r c.in-Ok.ensures.ok)) valid c.replace.new.self c.replace.ensures

pub returns-in-Err-clause-err : goal.returns-in-Err-clause-err
returns-in-Err-clause-err g c = λ h.
    let s = c.args.nodes.now in let k = c.args.number in let p = c.args.to.now in let w = c.walk-way.result in
    let valid : list_all is_component p ≡ true = second_so (not (is_nil p)) (list_all is_component p) c.requires.path in
    let r : c.index-source.result.now ≡ (n s k p h).node = read_node s.cells.items k c.index-source.result.now (n s k p h).node c.index-source.ensures (n s k p h).there in
    let cells : c.set.new.self.cells.items ≡ slice_set s.cells.items k (record (n s k p h).node { content = Held stand_in; first = None }) = c.set.ensures.cells ∙ (λ i. slice_set s.cells.items k (record (r i) { content = Held (c.stand_in.ensures i); first = None })) in
    move_failed s k p h c.set.new.self cells (ap (λ v. v.items) c.set.ensures.names) c.set.ensures.free c.graft.new.nodes c.in-Err.ensures.err c.set-in-Err.new.self
    (c.set-in-Err.ensures.cells ∙ ap (slice_set c.graft.new.nodes.cells.items k) r) (ap (λ v. v.items) c.set-in-Err.ensures.names) c.set-in-Err.ensures.free

pub returns-in-Ok-clause-err : goal.returns-in-Ok-clause-err
returns-in-Ok-clause-err g c = tt

pub returns-in-Err-clause-ok : goal.returns-in-Err-clause-ok
returns-in-Err-clause-ok g c = tt

pub returns-in-Ok-clause-few : goal.returns-in-Ok-clause-few
returns-in-Ok-clause-few g c = omega (arith, c.graft.ensures.few)

pub returns-in-Err-clause-few : goal.returns-in-Err-clause-few
returns-in-Err-clause-few g c = omega (arith, c.graft.ensures.few)

pub walk-way-requires-clause-path : goal.walk-way-requires-clause-path
walk-way-requires-clause-path g c = c.requires.path

pub index-source-requires : goal.index-source-requires
index-source-requires g c = let n = c.requires.node in omega (arith, node_inside n.objects c.args.nodes.now c.args.number (record { path = n.path; component = n.component; link = n.link; place = n.place }))

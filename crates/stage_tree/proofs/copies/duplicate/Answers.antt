use Rattle.std.proofs.Common.{◌≡◌, true, not, drop, sym, ap, subst, ◌∙◌, arith}
use Rattle.std.specs.Cmp.{second_so}
use Rattle.std.specs.List.{list_all}
use Rattle.std.proofs.lemmas.Result.{err_from_is_err_and}
use Rattle.git_objects.specs.Paths.{is_component, is_nil}
use Rattle.stage_nodes.specs.declared.nodes.Node.{Node}
use Rattle.stage_nodes.specs.declared.nodes.Content.{Content}
use Rattle.stage_tree.specs.Copies.{CanCopy}
use Rattle.stage_tree.specs.Renames.{IsGraft}
use Rattle.stage_nodes.proofs.OnWay.{waste_still}
use Rattle.stage_nodes.proofs.Opening.{read_node}
use Rattle.stage_nodes.proofs.Walking.{stop_within}
use Rattle.stage_tree.proofs.Duplicating.{copied_as, n, node_inside, can_copy, walkable, copy_can_free, copy_failed, has_spot, is_duplicated}
use Rattle.stage_tree.proofs.copies.duplicate.Goals as goal

pub index-node-requires : goal.index-node-requires
index-node-requires g c = omega (arith, node_inside c.args.nodes.now c.args.number c.args.to.now c.requires.node)

pub walk-way-requires-clause-nodes : goal.walk-way-requires-clause-nodes
walk-way-requires-clause-nodes g c = walkable c.args.nodes.now c.args.number c.args.to.now c.requires.node

pub copies-requires : goal.copies-requires
copies-requires g c =
    let h = c.requires.node in
    let s = c.args.nodes.now in let k = c.args.number in let p = c.args.to.now in let w = c.walk-way.result in
    let valid : list_all is_component p ≡ true = second_so (not (is_nil p)) (list_all is_component p) c.requires.path in
    let r : c.index-node.result.now ≡ (n s k p h).node = read_node s.cells.items k c.index-node.result.now (n s k p h).node c.index-node.ensures (n s k p h).there in
    subst (CanCopy s) (sym (ap (λ (v : Node). v.first) r)) (can_copy s k p h)

pub returns-in_err-first-clause-err : goal.returns-in_err-first-clause-err
returns-in_err-first-clause-err g c =
    let p = err_from_is_err_and c.from_residual.result c.from_residual.ensures.1 in
    rw (p.1) (λ h. waste_still h.objects c.args.nodes.now c.copies.new.nodes h.opened c.in_err-first.ensures.err)

pub graft-requires-clause-pool : goal.graft-requires-clause-pool
graft-requires-clause-pool g c =
    let h = c.requires.node in
    let s = c.args.nodes.now in let k = c.args.number in let p = c.args.to.now in let w = c.walk-way.result in
    let valid : list_all is_component p ≡ true = second_so (not (is_nil p)) (list_all is_component p) c.requires.path in
    let r : c.index-node.result.now ≡ (n s k p h).node = read_node s.cells.items k c.index-node.result.now (n s k p h).node c.index-node.ensures (n s k p h).there in
    (copied_as s c.copies.new.nodes c.index-node.result.now.first (n s k p h).node.first c.in_ok-first.first (ap (λ (v : Node). v.first) r) c.in_ok-first.ensures.ok (can_copy s k p h)).pool

pub graft-requires-clause-level : goal.graft-requires-clause-level
graft-requires-clause-level g c =
    let h = c.requires.node in
    let s = c.args.nodes.now in let k = c.args.number in let p = c.args.to.now in let w = c.walk-way.result in
    let valid : list_all is_component p ≡ true = second_so (not (is_nil p)) (list_all is_component p) c.requires.path in
    let r : c.index-node.result.now ≡ (n s k p h).node = read_node s.cells.items k c.index-node.result.now (n s k p h).node c.index-node.ensures (n s k p h).there in
    stop_within h.objects s p w.level w.spot.link w.spot.child (c.walk-way.ensures (walkable s k p h) h.clear)

pub replace-requires : goal.replace-requires
replace-requires g c =
    let h = c.requires.node in
    let s = c.args.nodes.now in let k = c.args.number in let p = c.args.to.now in let w = c.walk-way.result in
    let valid : list_all is_component p ≡ true = second_so (not (is_nil p)) (list_all is_component p) c.requires.path in
    let r : c.index-node.result.now ≡ (n s k p h).node = read_node s.cells.items k c.index-node.result.now (n s k p h).node c.index-node.ensures (n s k p h).there in
    has_spot s k p h c.copies.new.nodes c.in_ok-first.first (copied_as s c.copies.new.nodes c.index-node.result.now.first (n s k p h).node.first c.in_ok-first.first (ap (λ (v : Node). v.first) r) c.in_ok-first.ensures.ok (can_copy s k p h)) w.level w.spot.link w.spot.child (c.walk-way.ensures (walkable s k p h) h.clear) c.graft.new.nodes c.in-Ok.top (subst (λ (x : Content). IsGraft c.copies.new.nodes c.graft.new.nodes (drop w.level p) x c.in_ok-first.first c.in-Ok.top) (ap (λ (v : Node). v.content) r ∙ (n s k p h).cell.content) c.in-Ok.ensures.ok) valid

pub free_all-requires : goal.free_all-requires
free_all-requires g c =
    let h = c.requires.node in
    let s = c.args.nodes.now in let k = c.args.number in let p = c.args.to.now in let w = c.walk-way.result in
    let valid : list_all is_component p ≡ true = second_so (not (is_nil p)) (list_all is_component p) c.requires.path in
    let r : c.index-node.result.now ≡ (n s k p h).node = read_node s.cells.items k c.index-node.result.now (n s k p h).node c.index-node.ensures (n s k p h).there in
    copy_can_free s k p h c.copies.new.nodes c.in_ok-first.first (copied_as s c.copies.new.nodes c.index-node.result.now.first (n s k p h).node.first c.in_ok-first.first (ap (λ (v : Node). v.first) r) c.in_ok-first.ensures.ok (can_copy s k p h)) c.graft.new.nodes c.in-Err.ensures.err

pub returns-in-Ok-clause-ok : goal.returns-in-Ok-clause-ok
returns-in-Ok-clause-ok g c = λ h.
    let s = c.args.nodes.now in let k = c.args.number in let p = c.args.to.now in let w = c.walk-way.result in
    let valid : list_all is_component p ≡ true = second_so (not (is_nil p)) (list_all is_component p) c.requires.path in
    let r : c.index-node.result.now ≡ (n s k p h).node = read_node s.cells.items k c.index-node.result.now (n s k p h).node c.index-node.ensures (n s k p h).there in
    is_duplicated s k p h c.copies.new.nodes c.in_ok-first.first (copied_as s c.copies.new.nodes c.index-node.result.now.first (n s k p h).node.first c.in_ok-first.first (ap (λ (v : Node). v.first) r) c.in_ok-first.ensures.ok (can_copy s k p h)) w.level w.spot.link w.spot.child (c.walk-way.ensures (walkable s k p h) h.clear) c.graft.new.nodes c.in-Ok.top (subst (λ (x : Content). IsGraft c.copies.new.nodes c.graft.new.nodes (drop w.level p) x c.in_ok-first.first c.in-Ok.top) (ap (λ (v : Node). v.content) r ∙ (n s k p h).cell.content) c.in-Ok.ensures.ok) valid c.replace.new.self c.replace.ensures

pub returns-in-Err-clause-err : goal.returns-in-Err-clause-err
returns-in-Err-clause-err g c = λ h.
    let s = c.args.nodes.now in let k = c.args.number in let p = c.args.to.now in let w = c.walk-way.result in
    let valid : list_all is_component p ≡ true = second_so (not (is_nil p)) (list_all is_component p) c.requires.path in
    let r : c.index-node.result.now ≡ (n s k p h).node = read_node s.cells.items k c.index-node.result.now (n s k p h).node c.index-node.ensures (n s k p h).there in
    copy_failed s k p h c.copies.new.nodes c.in_ok-first.first (copied_as s c.copies.new.nodes c.index-node.result.now.first (n s k p h).node.first c.in_ok-first.first (ap (λ (v : Node). v.first) r) c.in_ok-first.ensures.ok (can_copy s k p h)) c.graft.new.nodes c.in-Err.ensures.err c.free_all.new.self c.free_all.ensures

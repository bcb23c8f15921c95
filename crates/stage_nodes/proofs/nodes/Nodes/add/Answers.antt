use Rattle.std.proofs.Common.{◌≡◌, ◌+◌, ◌++◌, length, refl, sym, ap, length-append, ◌∙◌, arith}
use Rattle.std.specs.Prelude.{slice_range}
use Rattle.git_objects.specs.Paths.{Bytes}
use Rattle.std.proofs.lemmas.Result.{err_from_is_err_and}
use Rattle.stage_nodes.specs.declared.nodes.Nodes.{Nodes}
use Rattle.stage_nodes.specs.Pools.{IsSame}
use Rattle.stage_nodes.proofs.Pools.{range_pushed}
use Rattle.stage_nodes.proofs.Expanding.{same_pool, past_added, past_same}
use Rattle.stage_nodes.proofs.nodes.Nodes.add.Goals as goal

pub add_part-requires-clause-pool : goal.add_part-requires-clause-pool
add_part-requires-clause-pool c =
    let s = c.args.self.now in
    let t : Nodes = record s { names = c.extend_from_slice.new.self } in
    let grown : s.names.items ++ c.args.component.now ≡ t.names.items = sym c.in_ok-extend_from_slice.ensures.items in
    let same : IsSame s t = record { cells = refl; free = refl; names = record { more = c.args.component.now; front = grown } } in
    same_pool s t same c.requires

pub add_part-requires-clause-within : goal.add_part-requires-clause-within
add_part-requires-clause-within c = omega (arith, ap length c.in_ok-extend_from_slice.ensures.items, length-append c.args.self.now.names.items c.args.component.now, c.len-at.ensures)

pub returns-clause-ok : goal.returns-clause-ok
returns-clause-ok c =
    let s = c.args.self.now in
    let t : Nodes = record s { names = c.extend_from_slice.new.self } in
    let grown : s.names.items ++ c.args.component.now ≡ t.names.items = sym c.in_ok-extend_from_slice.ensures.items in
    let same : IsSame s t = record { cells = refl; free = refl; names = record { more = c.args.component.now; front = grown } } in
    let at : c.len-at.result ≡ length s.names.items = omega (arith, c.len-at.ensures) in
    let part : slice_range t.names.items c.len-at.result (c.len-at.result + length c.args.component.now) ≡ c.args.component.now =
    ap (λ (b : Bytes). slice_range b c.len-at.result (c.len-at.result + length c.args.component.now)) (sym grown)
    ∙ range_pushed s.names.items c.args.component.now c.len-at.result (length c.args.component.now) at refl in
    past_added s t c.add_part.new.self c.requires same c.args.component.now _ part c.args.content c.args.first c.add_part.result c.add_part.ensures.ok

pub returns-clause-err : goal.returns-clause-err
returns-clause-err c =
    let s = c.args.self.now in
    let t : Nodes = record s { names = c.extend_from_slice.new.self } in
    let grown : s.names.items ++ c.args.component.now ≡ t.names.items = sym c.in_ok-extend_from_slice.ensures.items in
    let same : IsSame s t = record { cells = refl; free = refl; names = record { more = c.args.component.now; front = grown } } in
    past_same s t c.add_part.new.self c.add_part.result same c.add_part.ensures.err

pub returns-in_err-extend_from_slice-clause-ok : goal.returns-in_err-extend_from_slice-clause-ok
returns-in_err-extend_from_slice-clause-ok c = let p = err_from_is_err_and c.from_residual.result c.from_residual.ensures.1 in rw (p.1) tt

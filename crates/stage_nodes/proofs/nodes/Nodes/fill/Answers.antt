use Rattle.std.proofs.Common.{◌≡◌, ◌++◌, [], append-nil, refl, sym, ap, ◌∙◌}
use Rattle.git_objects.specs.Paths.{Bytes}
use Rattle.git_objects.specs.Entries.{body_text}
use Rattle.std.proofs.lemmas.Result.{err_from_is_err_and}
use Rattle.stage_nodes.specs.declared.nodes.Nodes.{Nodes}
use Rattle.stage_nodes.specs.Forests.{Nil}
use Rattle.stage_nodes.specs.Pools.{IsSame}
use Rattle.stage_nodes.proofs.Expanding.{nothing_filled, same_filled, same_directory, past_ok, past_err}
use Rattle.stage_nodes.proofs.nodes.Nodes.fill.Goals as goal

pub fill_parts-requires-clause-directory : goal.fill_parts-requires-clause-directory
fill_parts-requires-clause-directory c =
    let s = c.args.self.now in
    let t : Nodes = record s { names = c.extend_from_slice.new.self } in
    let grown : s.names.items ++ body_text c.args.entries ≡ t.names.items = ap (λ (b : Bytes). s.names.items ++ b) (sym c.bytes.ensures) ∙ sym c.in_ok-extend_from_slice.ensures.items in
    let same : IsSame s t = record { cells = refl; free = refl; names = record { more = body_text c.args.entries; front = grown } } in
    same_directory s t same c.args.directory Nil c.requires.directory

pub fill_parts-requires-clause-bytes : goal.fill_parts-requires-clause-bytes
fill_parts-requires-clause-bytes c =
    let s = c.args.self.now in
    let t : Nodes = record s { names = c.extend_from_slice.new.self } in
    let grown : s.names.items ++ body_text c.args.entries ≡ t.names.items = ap (λ (b : Bytes). s.names.items ++ b) (sym c.bytes.ensures) ∙ sym c.in_ok-extend_from_slice.ensures.items in
    let same : IsSame s t = record { cells = refl; free = refl; names = record { more = body_text c.args.entries; front = grown } } in
    (s.names.items, sym grown)

pub returns-clause-ok : goal.returns-clause-ok
returns-clause-ok c =
    let s = c.args.self.now in
    let t : Nodes = record s { names = c.extend_from_slice.new.self } in
    let grown : s.names.items ++ body_text c.args.entries ≡ t.names.items = ap (λ (b : Bytes). s.names.items ++ b) (sym c.bytes.ensures) ∙ sym c.in_ok-extend_from_slice.ensures.items in
    let same : IsSame s t = record { cells = refl; free = refl; names = record { more = body_text c.args.entries; front = grown } } in
    past_ok s t c.fill_parts.new.self c.args.directory c.args.entries c.fill_parts.result c.requires.directory.pool same c.fill_parts.ensures.ok

pub returns-clause-err : goal.returns-clause-err
returns-clause-err c =
    let s = c.args.self.now in
    let t : Nodes = record s { names = c.extend_from_slice.new.self } in
    let grown : s.names.items ++ body_text c.args.entries ≡ t.names.items = ap (λ (b : Bytes). s.names.items ++ b) (sym c.bytes.ensures) ∙ sym c.in_ok-extend_from_slice.ensures.items in
    let same : IsSame s t = record { cells = refl; free = refl; names = record { more = body_text c.args.entries; front = grown } } in
    past_err s t c.fill_parts.new.self c.args.directory c.fill_parts.result c.requires.directory.pool same c.fill_parts.ensures.err

pub returns-in_err-extend_from_slice-clause-ok : goal.returns-in_err-extend_from_slice-clause-ok
returns-in_err-extend_from_slice-clause-ok c = let p = err_from_is_err_and c.from_residual.result c.from_residual.ensures.1 in rw (p.1) tt

pub returns-in_err-extend_from_slice-clause-err : goal.returns-in_err-extend_from_slice-clause-err
returns-in_err-extend_from_slice-clause-err c =
    let p = err_from_is_err_and c.from_residual.result c.from_residual.ensures.1 in
    let s = c.args.self.now in
    let t : Nodes = record s { names = c.extend_from_slice.new.self } in
    let same : IsSame s t = record { cells = refl; free = refl; names = record { more = []; front = append-nil s.names.items ∙ sym c.in_err-extend_from_slice.ensures.items } } in
    rw (p.1) (record { done = []; filling = same_filled s s t c.args.directory [] (nothing_filled s c.args.directory c.requires.directory) same })

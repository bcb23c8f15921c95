use Rattle.std.proofs.Common.{sym, ap, ◌∙◌, arith}
use Rattle.object_store.specs.Sizes.{held_number}
use Rattle.stage_tree.proofs.CopyEdits.{open_files, held_files}
use Rattle.stage_nodes.proofs.Finishing.{on_ok}
use Rattle.stage_tree.proofs.PutFits.{children_countable}
use Rattle.stage_nodes.proofs.NodePlaces.{node_inside, read_held}
use Rattle.stage_tree.proofs.copies.node_files.Goals as goal

pub index-requires : goal.index-requires
index-requires c = omega (arith, node_inside c.args.store.now c.args.nodes.now c.args.number c.requires.place)

pub found_files-requires : goal.found_files-requires
found_files-requires c = read_held c.args.store.now c.args.nodes.now c.args.number c.requires.place c.index.result.now c.index.ensures c.in-Held.found c.in-Held.is

pub files-requires : goal.files-requires
files-requires c = children_countable c.args.store.now c.args.nodes.now c.args.number c.requires.place c.requires.opened

pub returns-in-Held : goal.returns-in-Held
returns-in-Held c = c.found_files.ensures ∙ ap held_number (sym (held_files c.args.store.now c.args.nodes.now c.args.number c.requires.place c.index.result.now c.index.ensures c.in-Held.found c.in-Held.is))

pub returns-in-Open : goal.returns-in-Open
returns-in-Open c = on_ok c.files.result (λ n e. e ∙ ap held_number (sym (open_files c.args.store.now c.args.nodes.now c.args.number c.requires.place c.index.result.now c.index.ensures c.in-Open.is))) c.files.ensures

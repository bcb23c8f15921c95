use Rattle.std.proofs.Common.{subst}
use Rattle.stage_tree.specs.Copies.{IsCopying}
use Rattle.stage_tree.proofs.CopyDrops.{copied_can_free, drop_copied, drop_source}
use Rattle.stage_tree.proofs.copies.drop_copies.Goals as goal

pub drop_waiting-requires : goal.drop_waiting-requires
drop_waiting-requires c =
    let s0 = c.requires.0 in let source = c.requires.1 in
    (s0, source, drop_source s0 c.args.nodes.now source c.args.works.items c.in-Copy.field-0 (subst (IsCopying s0 c.args.nodes.now source c.args.works.items) c.in-Copy.is c.requires.2))

pub returns-in-Copy : goal.returns-in-Copy
returns-in-Copy c = λ s0 source h.
    c.drop_waiting.ensures s0 source (drop_source s0 c.args.nodes.now source c.args.works.items c.in-Copy.field-0 (subst (IsCopying s0 c.args.nodes.now source c.args.works.items) c.in-Copy.is h))

pub free_all-requires : goal.free_all-requires
free_all-requires c =
    let s0 = c.requires.0 in let source = c.requires.1 in
    copied_can_free s0 c.args.nodes.now source c.args.works.items c.in-Copied.copies (subst (IsCopying s0 c.args.nodes.now source c.args.works.items) c.in-Copied.is c.requires.2)

pub drop_waiting-requires-in-Copied : goal.drop_waiting-requires-in-Copied
drop_waiting-requires-in-Copied c =
    let s0 = c.requires.0 in let source = c.requires.1 in
    (s0, source, drop_copied s0 c.args.nodes.now source c.args.works.items c.in-Copied.copies (subst (IsCopying s0 c.args.nodes.now source c.args.works.items) c.in-Copied.is c.requires.2) c.free_all.new.self c.free_all.ensures)

pub returns-in-Copied : goal.returns-in-Copied
returns-in-Copied c = λ s0 source h.
    c.drop_waiting-in-Copied.ensures s0 source (drop_copied s0 c.args.nodes.now source c.args.works.items c.in-Copied.copies (subst (IsCopying s0 c.args.nodes.now source c.args.works.items) c.in-Copied.is h) c.free_all.new.self c.free_all.ensures)

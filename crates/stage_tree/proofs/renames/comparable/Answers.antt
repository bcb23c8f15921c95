use Rattle.std.proofs.Common.{refl, ◌∙◌, arith}
use Rattle.git_objects.specs.Paths.{same_bytes}
use Rattle.path_trees.proofs.Lookups.{read_at}
use Rattle.stage_tree.proofs.Comparing.{of_eq, of_ne, one_ended, one_other, one_same}
use Rattle.stage_tree.proofs.renames.comparable.Goals as goal

pub returns-then-ne : goal.returns-then-ne
returns-then-ne c =
    let a = c.args.a.now in let b = c.args.b.now in
    let own = read_at a a c.loop-i.i c.index-a-i.result c.bytes.result.now refl c.bytes.ensures.bytes c.index-a-i.is in
    let other = read_at b b c.loop-i.i c.index-b-i.result c.bytes-in-loop-i.result.now refl c.bytes-in-loop-i.ensures.bytes c.index-b-i.is in
    one_other a b c.loop-i.i c.bytes.result.now c.bytes-in-loop-i.result.now (omega (arith, c.min-i-end.ensures)) (omega (arith, c.min-i-end.ensures)) own other (of_ne (same_bytes c.bytes.result.now c.bytes-in-loop-i.result.now) c.if-ne.ensures)
    ∙ c.loop-i.invariant

pub loop-i-preserved : goal.loop-i-preserved
loop-i-preserved c =
    let a = c.args.a.now in let b = c.args.b.now in
    let own = read_at a a c.loop-i.i c.index-a-i.result c.bytes.result.now refl c.bytes.ensures.bytes c.index-a-i.is in
    let other = read_at b b c.loop-i.i c.index-b-i.result c.bytes-in-loop-i.result.now refl c.bytes-in-loop-i.ensures.bytes c.index-b-i.is in
    one_same a b c.loop-i.i c.bytes.result.now c.bytes-in-loop-i.result.now (omega (arith, c.min-i-end.ensures)) (omega (arith, c.min-i-end.ensures)) own other (of_eq (same_bytes c.bytes.result.now c.bytes-in-loop-i.result.now) c.if-ne.ensures)
    ∙ c.loop-i.invariant

pub returns : goal.returns
returns c = one_ended c.args.a.now c.args.b.now c.loop-i.i (omega (arith, c.min-i-end.ensures)) ∙ c.loop-i.invariant

use Rattle.std.proofs.Common.{arith, ◌∙◌, ap, sym}
use Rattle.std.proofs.lemmas.Slice.{between_to_end}
use Rattle.stream_lex.specs.Lines.{short_block, block_end}
use Rattle.stream_lex.specs.Views.{input}
use Rattle.stream_lex.proofs.Scan.{got_block}
use Rattle.stream_lex.proofs.BlockCases.{few_over, few, over, there, end_more, end_ended, end_other, end_over, end_lf}
use Rattle.stream_lex.proofs.blocks.block.Goals as goal

pub returns-then-i-at-clause-told : goal.returns-then-i-at-clause-told
returns-then-i-at-clause-told c = few_over _ _ _ _ c.if-size-i.true (omega arith)

pub returns-then-not-ended-clause-told : goal.returns-then-not-ended-clause-told
returns-then-not-ended-clause-told c =
    few _ _ _ _ c.if-size-i.true (omega arith) ∙ ap (λ e. short_block c.args.size e (input c.args.i)) c.if-not-ended.true

pub returns-then-size-i-clause-told : goal.returns-then-size-i-clause-told
returns-then-size-i-clause-told c =
    few _ _ _ _ c.if-size-i.true (omega arith) ∙ ap (λ e. short_block c.args.size e (input c.args.i)) c.if-not-ended.false

pub returns-then-size-at-clause-told : goal.returns-then-size-at-clause-told
returns-then-size-at-clause-told c = over _ _ _ _ c.if-size-i.false (omega arith)

pub returns-then-not-ended-2-clause-told : goal.returns-then-not-ended-2-clause-told
returns-then-not-ended-2-clause-told c =
    there _ _ _ _ c.if-size-i.false (omega arith) c.split_at.result.0.now c.split_at.result.1.now c.split_at.ensures.front c.split_at.ensures.back
    ∙ ap (λ e. block_end e c.args.size c.split_at.result.0.now c.split_at.result.1.now (input c.args.i)) c.if-not-ended-2.true
    ∙ end_more _ _ _ _ c.split_at.result.1.now (omega arith)

pub returns-then-x-ne10-clause-told : goal.returns-then-x-ne10-clause-told
returns-then-x-ne10-clause-told c =
    there _ _ _ _ c.if-size-i.false (omega arith) c.split_at.result.0.now c.split_at.result.1.now c.split_at.ensures.front c.split_at.ensures.back
    ∙ end_other _ _ _ _ _ c.split_at.result.1.now (omega arith) c.if-x-ne10.true

pub returns-then-size-at-2-clause-told : goal.returns-then-size-at-2-clause-told
returns-then-size-at-2-clause-told c =
    there _ _ _ _ c.if-size-i.false (omega arith) c.split_at.result.0.now c.split_at.result.1.now c.split_at.ensures.front c.split_at.ensures.back
    ∙ end_over _ _ _ _ _ c.split_at.result.1.now (omega arith) c.if-x-ne10.false (omega arith)

pub returns-else-not-ended-2-clause-told : goal.returns-else-not-ended-2-clause-told
returns-else-not-ended-2-clause-told c =
    there _ _ _ _ c.if-size-i.false (omega arith) c.split_at.result.0.now c.split_at.result.1.now c.split_at.ensures.front c.split_at.ensures.back
    ∙ ap (λ e. block_end e c.args.size c.split_at.result.0.now c.split_at.result.1.now (input c.args.i)) c.if-not-ended-2.false
    ∙ end_ended _ _ _ _ c.split_at.result.1.now (omega arith)

pub returns-else-size-at-2-clause-told : goal.returns-else-size-at-2-clause-told
returns-else-size-at-2-clause-told c =
    there _ _ _ _ c.if-size-i.false (omega arith) c.split_at.result.0.now c.split_at.result.1.now c.split_at.ensures.front c.split_at.ensures.back
    ∙ end_lf _ _ _ _ _ c.split_at.result.1.now (omega arith) c.if-x-ne10.false (omega arith)
    ∙ ap (got_block c.split_at.result.0.now _) (sym (between_to_end c.split_at.result.1.now 1 _ (omega arith)))

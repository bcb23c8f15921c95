use Rattle.std.proofs.Common.{◌∙◌, Ok, ap, sym, refl}
use Rattle.stream_lex.specs.Lines.{block_at}
use Rattle.stream_lex.specs.Views.{input, maybe_bytes}
use Rattle.stream_lex.proofs.Passing.{slice_at}
use Rattle.stream_lex.proofs.BlockSpelled.{block_none}
use Rattle.stream_lex.proofs.lexer.Lexer.block.Goals as goal

pub returns-in-Ok-None-default : goal.returns-in-Ok-None-default
returns-in-Ok-None-default c =
    let l = c.self.inside in
    let f = c.in-Ok-None-default in
    let told = f.ensures.told ∙ ap (λ o. Ok (maybe_bytes o, input f.field-0-1)) f.field-0-0-is in
    let same =
    (λ k. block_at c.args.size (sym c.self.view_is k).ended (sym c.self.view_is k).input)
    ∙ ap (block_at c.args.size l.ended) (sym (slice_at l.base l.bytes.items c.deref.result.now l.used c.deref.ensures.value)) in
    (block_none c.args.size _ _ (input f.field-0-1) (same ∙ told), refl)

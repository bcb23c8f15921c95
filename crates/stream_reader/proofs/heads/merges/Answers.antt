use Rattle.std.proofs.Common.{◌∙◌, sym, ap, arith}
use Rattle.stream_lex.specs.Views.{input}
use Rattle.stream_reader.specs.Heads.{merges}
use Rattle.stream_reader.specs.Views.{Tells, with_rest}
use Rattle.stream_reader.proofs.Merging.{merges_some, merges_stop}
use Rattle.stream_reader.proofs.heads.merges.Goals as goal
use Rattle.std.proofs.Common.{Err, Ok, subst, ◌-◌}

pub returns-in-Err-clause-told : goal.returns-in-Err-clause-told
returns-in-Err-clause-told c =
    subst (λ r. Tells with_rest (Err c.in-Err.halt) r) (sym c.merges.invariant.same)
    (merges_stop c.merges.refs.items c.args.ended (input c.merges.i) with_rest with_rest c.merges.left c.in-Err.halt c.in-Err.ensures.told)

pub merges-preserved : goal.merges-preserved
merges-preserved c = record {
  same =
      c.merges.invariant.same
      ∙ merges_some c.merges.refs.items c.args.ended (input c.merges.i) c.merges.left c.in-Some.found (input c.in-Ok.after) (omega (arith, c.if-left-eq0.false))
      (c.in-Ok.ensures.told ∙ ap (λ o. Ok (o, input c.in-Ok.after)) c.in-Some.is)
      ∙ ap (λ d. merges (c.merges.left - 1) d c.args.ended (input c.in-Ok.after)) (sym c.in-Ok-push.ensures.items);
  within = c.in-Ok.ensures.within;
}

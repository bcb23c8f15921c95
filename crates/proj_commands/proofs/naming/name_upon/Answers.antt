-- Proves what src/naming.rt needs of `name_upon`.
use Rattle.std.proofs.Common.{List, Result, Ok, Err, sym, ap, subst}
use Rattle.git_objects.specs.Paths.{Bytes}
use Rattle.fast_import.specs.Replays.{empty_base}
use Rattle.fast_import.specs.declared.replayed.Setting.{Setting}
use Rattle.filter_text.specs.Shapes.{shape}
use Rattle.proj_words.specs.declared.outcome.Outcome.{Outcome}
use Rattle.proj_words.specs.declared.outcome.Outcome.TheVariants as outcomes
use Rattle.proj_commands.specs.Cases.{NameCase}
use Rattle.proj_commands.specs.Makes.{IsReportOf}
use Rattle.proj_commands.specs.StreamsGiven.{IsGiven}
use Rattle.proj_commands.proofs.NamesGiven.{counts-by, passed-count, passed-neither, passed-whole}
use Rattle.proj_commands.proofs.naming.name_upon.Goals as goal
use Rattle.proj_commands.specs.Import.{tagged_ran}

pub returns-in_err-heads-clause-made : goal.returns-in_err-heads-clause-made
returns-in_err-heads-clause-made g c =
    let t = c.in_err-heads.ensures.given in
    let f = shape c.args.filter.now in
    let n = c.args.refname.now in (
      t.0,
      t.2,
      passed-whole Bytes c.from_residual.result c.in_err-heads.field-0.0 c.from_residual.ensures.1 (λ (r : Result Bytes Outcome). IsReportOf (Ok (NameCase f n (tagged_ran empty_base t.0))) r) (t.4 f n),
    )

pub returns-in_err-heads-clause-early : goal.returns-in_err-heads-clause-early
returns-in_err-heads-clause-early g c =
    let n = c.in_err-heads.ensures.early in
    passed-neither _ c.from_residual.result c.in_err-heads.field-0.0 c.from_residual.ensures.1 (λ q. n.0 (ap Err q)) (λ q. n.1 (ap Err q))

pub returns-in_err-heads-clause-told : goal.returns-in_err-heads-clause-told
returns-in_err-heads-clause-told g c = c.in_err-heads.ensures.told

pub returns-in_err-heads-clause-read : goal.returns-in_err-heads-clause-read
returns-in_err-heads-clause-read g c =
    passed-count _ c.from_residual.result c.in_err-heads.field-0.0 c.from_residual.ensures.1 (g.S.Source.faults c.args.input.now) (g.S.Source.faults c.take_stream.new.input) _ outcomes.ReadFault c.in_err-heads.ensures.read
    (λ q. ap Err q)

pub head_line-requires-clause-given : goal.head_line-requires-clause-given
head_line-requires-clause-given g c =
    let t = c.in_ok-heads.ensures.given in
    (t.0, t.1, subst (λ (hs : List Setting). IsGiven t.0 c.take_stream.new.state hs) (sym c.deref.ensures.value) t.3)

pub returns-clause-made : goal.returns-clause-made
returns-clause-made g c =
    let t = c.in_ok-heads.ensures.given in
    (t.0, t.2, c.head_line.ensures.made t.0 t.1 (subst (λ (hs : List Setting). IsGiven t.0 c.take_stream.new.state hs) (sym c.deref.ensures.value) t.3))

pub returns-clause-early : goal.returns-clause-early
returns-clause-early g c = let e = c.head_line.ensures.early in (e.1, e.2)

pub returns-clause-told : goal.returns-clause-told
returns-clause-told g c = c.in_ok-heads.ensures.told

pub returns-clause-read : goal.returns-clause-read
returns-clause-read g c = counts-by (g.S.Source.faults c.args.input.now) (g.S.Source.faults c.take_stream.new.input) _ _ c.in_ok-heads.ensures.read (λ q. absurd (c.head_line.ensures.early.0 q))

pub take_stream-requires : goal.take_stream-requires
take_stream-requires g c = c.requires.empty

pub returns-in_err-heads-clause-taken : goal.returns-in_err-heads-clause-taken
returns-in_err-heads-clause-taken g c = c.in_err-heads.ensures.taken

pub returns-clause-taken : goal.returns-clause-taken
returns-clause-taken g c = c.in_ok-heads.ensures.taken

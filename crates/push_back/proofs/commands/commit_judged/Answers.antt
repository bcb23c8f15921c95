use Rattle.std.proofs.Common.{List, sym, ap, ◌∙◌}
use Rattle.git_objects.specs.Paths.{is_nil}
use Rattle.stream_reader.specs.declared.command.Command.TheVariants.{Commit}
use Rattle.stream_reader.specs.declared.commit_ref.CommitRef.{CommitRef}
use Rattle.push_laws.proofs.PushSteps.{nil-empty}
use Rattle.push_back.proofs.Judging.{at-taken, judged-passed, off-told}
use Rattle.push_back.proofs.commands.commit_judged.Goals as goal

pub returns-in-Err-clause-judged : goal.returns-in-Err-clause-judged
returns-in-Err-clause-judged c = record {
  passed = tt;
  refused = λ S r s b. off-told S c.args.base.now b r c.args.at c.args.head.now c.in-Err.error (c.in-Err.ensures.refused S r s);
}

pub returns-clause-judged : goal.returns-clause-judged
returns-clause-judged c =
    let g = c.args.base.now in
    let h = c.args.head.now in
    judged-passed c.args.replay.now g (record { at = c.args.at; command = Commit h }) (λ S r s b.
    at-taken S g b r c.args.at h (c.in-Ok.ensures.passed S r s)
    (ap (λ (ms : List CommitRef). is_nil ms) (sym c.refs.ensures) ∙ nil-empty c.refs.result.now (sym c.is_empty.ensures ∙ c.if-not-is_empty.false)))

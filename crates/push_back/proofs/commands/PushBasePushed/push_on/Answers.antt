use Rattle.push_back.proofs.Judging.{step-done, step-stopped}
use Rattle.push_back.proofs.commands.PushBasePushed.push_on.Goals as goal

pub returns-in-Err-step-clause-stepped : goal.returns-in-Err-step-clause-stepped
returns-in-Err-step-clause-stepped c = λ r h.
    step-stopped c.args.store.now c.step.new.store c.args.self.now c.requires.base c.step.new.self r c.args.placed (c.in-Ok.ensures.judged.passed c.args.store.now r h c.requires.base) c.in-Err-step.fault (c.in-Err-step.ensures r h)

pub returns-in-Ok-step-clause-stepped : goal.returns-in-Ok-step-clause-stepped
returns-in-Ok-step-clause-stepped c = λ r h.
    step-done c.args.store.now c.step.new.store c.args.self.now c.requires.base c.step.new.self r c.args.placed (c.in-Ok.ensures.judged.passed c.args.store.now r h c.requires.base) (c.in-Ok-step.ensures r h)

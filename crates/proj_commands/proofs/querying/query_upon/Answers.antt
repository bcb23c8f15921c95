-- Proves what src/querying.rt needs of `query_upon`.
use Rattle.std.proofs.Common.{subst, sym}
use Rattle.state_items.specs.Changes.{NoPlan}
use Rattle.proj_commands.specs.Cases.{query_case}
use Rattle.proj_commands.specs.Makes.{IsMadeOf}
use Rattle.proj_commands.specs.Queries.{sound_of}
use Rattle.proj_commands.specs.declared.querying.JudgedQuery.{JudgedQuery}
use Rattle.proj_commands.proofs.querying.query_upon.Goals as goal

pub returns-in-Tags-clause-made : goal.returns-in-Tags-clause-made
returns-in-Tags-clause-made c = λ items h store w.
    subst (λ (q : JudgedQuery). IsMadeOf (query_case h (sound_of q)) items h c.args.state.now c.tags_upon.new.state store store NoPlan c.tags_upon.result) (sym c.in-Tags.is) (c.tags_upon.ensures.made items h store w)

pub returns-in-Audit-clause-made : goal.returns-in-Audit-clause-made
returns-in-Audit-clause-made c = λ items h store w.
    subst (λ (q : JudgedQuery). IsMadeOf (query_case h (sound_of q)) items h c.args.state.now c.args.state.now store store NoPlan c.audited.result) (sym c.in-Audit.is) (c.audited.ensures.made items h store w)

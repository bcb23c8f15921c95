-- Proves what src/querying.rt needs of `judge_query`.
use Rattle.std.proofs.Common.{ap, sym}
use Rattle.proj_words.specs.Views.{query_of}
use Rattle.proj_words.specs.declared.words.Query.{Query}
use Rattle.proj_commands.specs.Audit.{path_by}
use Rattle.proj_commands.specs.Queries.{AuditOf, TagsOf, sound_query}
use Rattle.proj_commands.proofs.JudgedCases.{filter-refused}
use Rattle.proj_commands.proofs.querying.judge_query.Goals as goal

pub returns-in_err-subject-in-Tags-clause-err : goal.returns-in_err-subject-in-Tags-clause-err
returns-in_err-subject-in-Tags-clause-err c =
    filter-refused c.in-Tags.filter.now (λ f. TagsOf f c.in-Tags.refname.now) (sound_query (query_of c.args.query)) (sym (ap (λ (q : Query). sound_query (query_of q)) c.in-Tags.is))
    c.from_residual.result c.in_err-subject-in-Tags.field-0.0 c.from_residual.ensures.1 c.in_err-subject-in-Tags.ensures.err

pub returns-in_err-subject-in-Audit-clause-err : goal.returns-in_err-subject-in-Audit-clause-err
returns-in_err-subject-in-Audit-clause-err c =
    filter-refused c.in-Audit.filter.now (λ f. AuditOf f c.in-Audit.refname.now (path_by c.in-Audit.path.now)) (sound_query (query_of c.args.query)) (sym (ap (λ (q : Query). sound_query (query_of q)) c.in-Audit.is))
    c.from_residual-in_err-subject-in-Audit.result c.in_err-subject-in-Audit.field-0.0 c.from_residual-in_err-subject-in-Audit.ensures.1 c.in_err-subject-in-Audit.ensures.err

-- Proves what src/judging.rt needs of `judge`.
use Rattle.std.proofs.Common.{sym, refl, ap}
use Rattle.proj_words.specs.Views.{command_of, query_of}
use Rattle.proj_words.specs.Words.{As, Project, Push, PushMerges, Export, ExportTags, Name, Verify}
use Rattle.proj_commands.proofs.JudgedCases.{query-refused, text-refused}
use Rattle.proj_commands.proofs.judging.judge.Goals as goal

pub returns-in_err-subject-in-Project-clause-err : goal.returns-in_err-subject-in-Project-clause-err
returns-in_err-subject-in-Project-clause-err c =
    let t = c.in-Project.filter.now in
    text-refused (Project c.in-Project.refname.now t) (command_of c.args.asked) t (sym (ap command_of c.in-Project.is)) refl c.from_residual.result c.in_err-subject-in-Project.field-0.0 c.from_residual.ensures.1 c.in_err-subject-in-Project.ensures.err

pub returns-in_err-subject-in-Push-clause-err : goal.returns-in_err-subject-in-Push-clause-err
returns-in_err-subject-in-Push-clause-err c =
    let t = c.in-Push.filter.now in
    text-refused (Push c.in-Push.refname.now t) (command_of c.args.asked) t (sym (ap command_of c.in-Push.is)) refl c.from_residual-in_err-subject-in-Push.result c.in_err-subject-in-Push.field-0.0 c.from_residual-in_err-subject-in-Push.ensures.1 c.in_err-subject-in-Push.ensures.err

pub returns-in_err-subject-in-PushMerges-clause-err : goal.returns-in_err-subject-in-PushMerges-clause-err
returns-in_err-subject-in-PushMerges-clause-err c =
    let t = c.in-PushMerges.filter.now in
    text-refused (PushMerges c.in-PushMerges.refname.now t) (command_of c.args.asked) t (sym (ap command_of c.in-PushMerges.is)) refl c.from_residual-in_err-subject-in-PushMerges.result c.in_err-subject-in-PushMerges.field-0.0 c.from_residual-in_err-subject-in-PushMerges.ensures.1 c.in_err-subject-in-PushMerges.ensures.err

pub returns-in_err-subject-in-Export-clause-err : goal.returns-in_err-subject-in-Export-clause-err
returns-in_err-subject-in-Export-clause-err c =
    let t = c.in-Export.filter.now in
    text-refused (Export c.in-Export.refname.now t) (command_of c.args.asked) t (sym (ap command_of c.in-Export.is)) refl c.from_residual-in_err-subject-in-Export.result c.in_err-subject-in-Export.field-0.0 c.from_residual-in_err-subject-in-Export.ensures.1 c.in_err-subject-in-Export.ensures.err

pub returns-in_err-subject-in-ExportTags-clause-err : goal.returns-in_err-subject-in-ExportTags-clause-err
returns-in_err-subject-in-ExportTags-clause-err c =
    let t = c.in-ExportTags.filter.now in
    text-refused (ExportTags c.in-ExportTags.refname.now t) (command_of c.args.asked) t (sym (ap command_of c.in-ExportTags.is)) refl c.from_residual-in_err-subject-in-ExportTags.result c.in_err-subject-in-ExportTags.field-0.0 c.from_residual-in_err-subject-in-ExportTags.ensures.1 c.in_err-subject-in-ExportTags.ensures.err

pub returns-in_err-subject-in-Name-clause-err : goal.returns-in_err-subject-in-Name-clause-err
returns-in_err-subject-in-Name-clause-err c =
    let t = c.in-Name.filter.now in
    text-refused (Name c.in-Name.refname.now t) (command_of c.args.asked) t (sym (ap command_of c.in-Name.is)) refl c.from_residual-in_err-subject-in-Name.result c.in_err-subject-in-Name.field-0.0 c.from_residual-in_err-subject-in-Name.ensures.1 c.in_err-subject-in-Name.ensures.err

pub returns-in_err-query-in-Ask-clause-err : goal.returns-in_err-query-in-Ask-clause-err
returns-in_err-query-in-Ask-clause-err c =
    query-refused (query_of c.in-Ask.query) (command_of c.args.asked) (sym (ap command_of c.in-Ask.is)) c.from_residual-in_err-query-in-Ask.result c.in_err-query-in-Ask.field-0.0 c.from_residual-in_err-query-in-Ask.ensures.1 c.in_err-query-in-Ask.ensures.err

pub returns-in_err-filter-in-Verify-clause-err : goal.returns-in_err-filter-in-Verify-clause-err
returns-in_err-filter-in-Verify-clause-err c =
    let t = c.in-Verify.filter.now in
    text-refused (Verify c.in-Verify.commit.now t c.in-Verify.path.now) (command_of c.args.asked) t (sym (ap command_of c.in-Verify.is)) refl c.from_residual-in_err-filter-in-Verify.result c.in_err-filter-in-Verify.field-0.0 c.from_residual-in_err-filter-in-Verify.ensures.1 c.in_err-filter-in-Verify.ensures.err

pub returns-in_err-subject-in-AsProject-clause-err : goal.returns-in_err-subject-in-AsProject-clause-err
returns-in_err-subject-in-AsProject-clause-err c =
    let t = c.in-AsProject.filter.now in
    text-refused (As c.in-AsProject.user.now (Project c.in-AsProject.refname.now t)) (command_of c.args.asked) t (sym (ap command_of c.in-AsProject.is)) refl c.from_residual-in_err-subject-in-AsProject.result c.in_err-subject-in-AsProject.field-0.0 c.from_residual-in_err-subject-in-AsProject.ensures.1 c.in_err-subject-in-AsProject.ensures.err

pub returns-in_err-subject-in-AsPush-clause-err : goal.returns-in_err-subject-in-AsPush-clause-err
returns-in_err-subject-in-AsPush-clause-err c =
    let t = c.in-AsPush.filter.now in
    text-refused (As c.in-AsPush.user.now (Push c.in-AsPush.refname.now t)) (command_of c.args.asked) t (sym (ap command_of c.in-AsPush.is)) refl c.from_residual-in_err-subject-in-AsPush.result c.in_err-subject-in-AsPush.field-0.0 c.from_residual-in_err-subject-in-AsPush.ensures.1 c.in_err-subject-in-AsPush.ensures.err

pub returns-in_err-subject-in-AsExport-clause-err : goal.returns-in_err-subject-in-AsExport-clause-err
returns-in_err-subject-in-AsExport-clause-err c =
    let t = c.in-AsExport.filter.now in
    text-refused (As c.in-AsExport.user.now (Export c.in-AsExport.refname.now t)) (command_of c.args.asked) t (sym (ap command_of c.in-AsExport.is)) refl c.from_residual-in_err-subject-in-AsExport.result c.in_err-subject-in-AsExport.field-0.0 c.from_residual-in_err-subject-in-AsExport.ensures.1 c.in_err-subject-in-AsExport.ensures.err

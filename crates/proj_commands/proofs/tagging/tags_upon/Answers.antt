-- Proves what src/tagging.rt needs of `tags_upon`.
use Rattle.std.proofs.Common.{Err, ap, sym, subst, ◌∙◌}
use Rattle.std.specs.List.{flat_map}
use Rattle.filter_text.specs.Shapes.{shape}
use Rattle.git_objects.specs.Paths.{Bytes}
use Rattle.state_items.specs.Changes.{NoPlan}
use Rattle.proj_words.specs.declared.outcome.Outcome.{Outcome}
use Rattle.proj_words.specs.declared.outcome.Outcome.TheVariants.{OutOfMemory}
use Rattle.proj_commands.specs.Cases.{query_case}
use Rattle.proj_commands.specs.Makes.{IsMadeOf}
use Rattle.proj_commands.specs.Queries.{TagsOf}
use Rattle.proj_commands.specs.Lines.{tag_line}
use Rattle.proj_commands.proofs.NamesGiven.{passed-whole}
use Rattle.proj_commands.proofs.StatesShown.{head-placed}
use Rattle.proj_commands.proofs.TagsMade.{no-memory, unshown, whole}
use Rattle.proj_commands.proofs.tagging.tags_upon.Goals as goal

pub shown_tags-requires-clause-head : goal.shown_tags-requires-clause-head
shown_tags-requires-clause-head c =
    let q = c.requires.state in
    head-placed q.1 c.args.state.now c.args.subject.now.refname c.in-Some.head.0 q.2.spells (sym (c.in-Some.ensures.held q.1 q.2.spells))

pub returns-in-Err-clause-made : goal.returns-in-Err-clause-made
returns-in-Err-clause-made c = λ items h store w.
    let s = c.args.state.now in
    let f = shape c.args.subject.now.filter in
    let r = c.args.subject.now.refname in
    let t = c.shown_tags.new.state in
    let d = c.in-Err.ensures in
    subst (λ (o : Outcome). IsMadeOf (query_case h (TagsOf f r)) items h s t store store NoPlan (Err o)) (sym c.apply_outcome.ensures)
    (unshown items h s f r w c.in-Some.head.0 (sym (c.in-Some.ensures.held h w.spells)) t d.rest d.same c.in-Err.error d.err store)

pub returns-in_err-report-clause-made : goal.returns-in_err-report-clause-made
returns-in_err-report-clause-made c = λ items h store w.
    let s = c.args.state.now in
    let f = shape c.args.subject.now.filter in
    let r = c.args.subject.now.refname in
    let t = c.shown_tags.new.state in
    let d = c.in-Ok.ensures in
    passed-whole Bytes c.from_residual.result OutOfMemory c.from_residual.ensures.1 (IsMadeOf (query_case h (TagsOf f r)) items h s t store store NoPlan)
    (no-memory items h s f r w c.in-Some.head.0 (sym (c.in-Some.ensures.held h w.spells)) t d.rest d.same store)

pub returns-clause-made : goal.returns-clause-made
returns-clause-made c = λ items h store w.
    let s = c.args.state.now in
    let f = shape c.args.subject.now.filter in
    let r = c.args.subject.now.refname in
    let t = c.shown_tags.new.state in
    let d = c.in-Ok.ensures in
    whole items h s f r w c.in-Some.head.0 (sym (c.in-Some.ensures.held h w.spells)) t d.rest d.same c.in-Ok.tags.items (d.ok items h w)
    c.of.result (c.of.ensures ∙ c.in_ok-report.ensures ∙ ap (flat_map tag_line) c.deref.ensures.value) store

-- Proves what src/named.rt needs of `name_lines`.
use Rattle.std.proofs.Common.{◌++◌, ◌∷◌, [], true, sym, subst, ◌∙◌}
use Rattle.std.specs.Prelude.{flat_map}
use Rattle.filter_text.specs.Shapes.{shape}
use Rattle.git_objects.specs.Paths.{Bytes}
use Rattle.repo_ground.specs.Contents.{Contents}
use Rattle.proj_commands.specs.Export.{export_hand}
use Rattle.proj_commands.specs.Lines.{tag_line}
use Rattle.read_cli.specs.Looks.{IsAtHand, IsUnshown}
use Rattle.read_cli.proofs.Freshness.{reached-tags, tags-unshown}
use Rattle.read_cli.proofs.HeadNames.{still-placed, still-reached, still-then, unshown-first}
use Rattle.read_cli.proofs.named.name_lines.Goals as goal

pub shown_tags-requires-clause-state : goal.shown_tags-requires-clause-state
shown_tags-requires-clause-state c =
    let q = c.requires.state in
    (q.0, q.1, (c.in-Ok.ensures.ok q.0 q.1 q.2).1.state)

pub shown_tags-requires-clause-head : goal.shown_tags-requires-clause-head
shown_tags-requires-clause-head c =
    let q = c.requires.state in
    still-placed q.0 q.1 c.args.state.now c.head_lines.new.state c.args.head.now.0 q.2 (c.in-Ok.ensures.ok q.0 q.1 q.2).1.state c.requires.head

pub returns-in-Err-shown_tags-clause-err : goal.returns-in-Err-shown_tags-clause-err
returns-in-Err-shown_tags-clause-err c = λ items h w.
    let s : Contents = c.args.state.now in
    let t : Contents = c.head_lines.new.state in
    let f = shape c.args.filter.now in
    let n : Bytes = c.args.head.now.0 in
    let still = (c.in-Ok.ensures.ok items h w).1 in
    let does = c.in-Err-shown_tags.ensures in
    unshown-first s.basis.store t.basis.store (export_hand true h f n ∷ []) still.grown c.apply_outcome.result
    (subst (IsUnshown (IsAtHand t.basis.store (export_hand true h f n ∷ []))) (sym c.apply_outcome.ensures)
    (tags-unshown true items h t f n still.state c.shown_tags.new.state does.rest does.same c.in-Err-shown_tags.error does.err))

pub returns-clause-ok : goal.returns-clause-ok
returns-clause-ok c = λ items h w.
    let s : Contents = c.args.state.now in
    let t : Contents = c.head_lines.new.state in
    let u : Contents = c.shown_tags.new.state in
    let f = shape c.args.filter.now in
    let n : Bytes = c.args.head.now.0 in
    let first = c.in-Ok.ensures.ok items h w in
    let does = c.in-Ok-shown_tags.ensures in
    let tags = c.deref.ensures.value ∙ does.ok items h first.1.state in (
      c.in-Ok-with_tags.ensures ∙ (λ i. first.0 i ++ (flat_map tag_line (tags i) ++ 10 ∷ [])),
      still-then true items h f n s t u first.1 (still-reached true items h f n t u (reached-tags true items h t f n first.1.state u does.rest does.same)),
    )

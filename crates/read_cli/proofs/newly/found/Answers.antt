-- Proves what src/newly.rt needs of `found`.
use Rattle.std.proofs.Common.{Bool, ◌∷◌, [], map, subst}
use Rattle.filter_text.specs.Shapes.{shape}
use Rattle.git_objects.specs.Parts.{name_bytes}
use Rattle.git_objects.specs.Paths.{Bytes}
use Rattle.repo_ground.specs.Contents.{Contents}
use Rattle.proj_commands.specs.Export.{export_hand}
use Rattle.read_cli.specs.Looks.{AreNew, IsAtHand, IsUnshown}
use Rattle.read_cli.specs.Outputs.{has_tags}
use Rattle.read_cli.proofs.HeadNames.{still-placed, unshown-first}
use Rattle.read_cli.proofs.newly.found.Goals as goal

pub fresh-requires-clause-state : goal.fresh-requires-clause-state
fresh-requires-clause-state c =
    let q = c.requires.state in
    (q.0, q.1, (c.in-Ok.ensures.ok q.0 q.1 q.2).1.state)

pub fresh-requires-clause-head : goal.fresh-requires-clause-head
fresh-requires-clause-head c =
    let q = c.requires.state in
    still-placed q.0 q.1 c.args.state.now c.lines_before.new.state c.args.head.now.0 q.2 (c.in-Ok.ensures.ok q.0 q.1 q.2).1.state c.requires.head

pub returns-in-Err-fresh-clause-err : goal.returns-in-Err-fresh-clause-err
returns-in-Err-fresh-clause-err c = λ items h w.
    let s : Contents = c.args.state.now in
    let t : Contents = c.lines_before.new.state in
    let f = shape c.args.subject.now.filter in
    let n : Bytes = c.args.head.now.0 in
    let still = (c.in-Ok.ensures.ok items h w).1 in
    unshown-first s.basis.store t.basis.store (export_hand (has_tags c.args.beside) h f n ∷ []) still.grown c.in-Err-fresh.outcome
    (subst (λ (b : Bool). IsUnshown (IsAtHand t.basis.store (export_hand b h f n ∷ [])) c.in-Err-fresh.outcome) c.has_tags.ensures (c.in-Err-fresh.ensures.err items h still.state))

pub returns-in-Ok-fresh-clause-ok : goal.returns-in-Ok-fresh-clause-ok
returns-in-Ok-fresh-clause-ok c = λ items h w.
    let f = shape c.args.subject.now.filter in
    let n : Bytes = c.args.head.now.0 in
    let first = c.in-Ok.ensures.ok items h w in (
      first.0,
      subst (λ (b : Bool). AreNew b h f n (map name_bytes c.args.haves.now) c.fresh.new.state.basis.store (map name_bytes c.in-Ok-fresh.names.items) c.in-Ok-fresh.tags.items) c.has_tags.ensures
          (c.in-Ok-fresh.ensures.ok items h first.1.state),
    )

-- Proves what src/newly.rt needs of `fresh`.
use Rattle.std.proofs.Common.{List, IsSome, ap, filter, map, sym, subst, [], ◌∷◌, ◌∙◌}
use Rattle.git_objects.specs.Paths.{Bytes}
use Rattle.git_objects.specs.Parts.{name_bytes}
use Rattle.git_objects.specs.declared.name.Name.{Name}
use Rattle.commit_graph.specs.Graphs.{Row, place_of}
use Rattle.filter_text.specs.Shapes.{shape}
use Rattle.fast_export.specs.ExportTexts.{is_among}
use Rattle.tag_objects.specs.declared.tag.Tag.{Tag}
use Rattle.repo_ground.specs.Contents.{Contents}
use Rattle.repo_ground.specs.contracts.state.State.{the_view}
use Rattle.proj_commands.specs.Export.{export_hand}
use Rattle.proj_commands.specs.Makes.{IsStateOf}
use Rattle.read_cli.specs.Looks.{IsAtHand, IsUnshown}
use Rattle.proj_commands.proofs.Exports.{IsReached}
use Rattle.read_cli.proofs.Freshness.{history-unshown, new-upon, reached-tags, tags-unshown}
use Rattle.read_cli.proofs.newly.fresh.Goals.{in-Err-tags_of, in-Ok-tags_of}
use Rattle.read_cli.proofs.newly.fresh.Goals as goal

pub returns-in-Err-clause-err : goal.returns-in-Err-clause-err
returns-in-Err-clause-err c = λ items h w.
    let s : Contents = c.args.state.now in
    let f = shape c.args.subject.now.filter in
    let n : Bytes = c.args.head.now.0 in
    let tagged = c.args.tagged in
    subst (IsUnshown (IsAtHand s.basis.store (export_hand tagged h f n ∷ []))) (sym c.apply_outcome.ensures)
    (tags-unshown tagged items h s f n w c.tags_beside.new.state c.in-Err.ensures.rest c.in-Err.ensures.same c.in-Err.error c.in-Err.ensures.err)

pub fresh_names-requires-clause-ground : goal.fresh_names-requires-clause-ground
fresh_names-requires-clause-ground c =
    let q = c.requires.state in
    let u = reached-tags c.args.tagged q.0 q.1 c.args.state.now (shape c.args.subject.now.filter) c.args.head.now.0 q.2 c.tags_beside.new.state c.in-Ok.ensures.rest c.in-Ok.ensures.same in
    (subst (IsStateOf q.0 q.1) (sym c.state.view_is) u.state).ground

pub fresh_names-requires-clause-head : goal.fresh_names-requires-clause-head
fresh_names-requires-clause-head c =
    subst (λ (x : Contents). IsSome (place_of c.args.head.now.0 x.basis.graph)) (sym c.state.view_is)
    (subst (λ (rows : List Row). IsSome (place_of c.args.head.now.0 rows)) (sym c.in-Ok.ensures.same.graph) c.requires.head)

pub returns-in-Err-fresh_names-clause-err : goal.returns-in-Err-fresh_names-clause-err
returns-in-Err-fresh_names-clause-err c = λ items h w.
    let s : Contents = c.args.state.now in
    let v : Contents = the_view c.state.inside in
    let f = shape c.args.subject.now.filter in
    let n : Bytes = c.args.head.now.0 in
    let tagged = c.args.tagged in
    let u : IsReached tagged items h s f n v = subst (IsReached tagged items h s f n) (sym c.state.view_is) (reached-tags tagged items h s f n w c.tags_beside.new.state c.in-Ok.ensures.rest c.in-Ok.ensures.same) in
    subst (IsUnshown (IsAtHand s.basis.store (export_hand tagged h f n ∷ []))) (sym c.apply_outcome-in-Err-fresh_names.ensures)
    (history-unshown tagged items h s f n w v u c.fresh_names.new.ground c.in-Err-fresh_names.ensures.same c.in-Err-fresh_names.error c.in-Err-fresh_names.ensures.err)

pub returns-clause-ok : goal.returns-clause-ok
returns-clause-ok c = λ items h w.
    let s : Contents = c.args.state.now in
    let v : Contents = the_view c.state.inside in
    let f = shape c.args.subject.now.filter in
    let n : Bytes = c.args.head.now.0 in
    let tagged = c.args.tagged in
    let u : IsReached tagged items h s f n v = subst (IsReached tagged items h s f n) (sym c.state.view_is) (reached-tags tagged items h s f n w c.tags_beside.new.state c.in-Ok.ensures.rest c.in-Ok.ensures.same) in
    elim c.match-tags_of.branch [
      | in-Err-tags_of k ↦ rw k.result-is tt
      | in-Ok-tags_of k ↦
          rw k.result-is
          (new-upon tagged items h s f n w v u c.fresh_names.new.ground c.in-Ok-fresh_names.ensures.same (map name_bytes c.args.haves.now) (map name_bytes c.in-Ok-fresh_names.names.items) c.in-Ok-fresh_names.ensures.ok
          c.in-Ok.tags.items k.in-Ok-tags_of.tags.items (c.in-Ok.ensures.ok items h w)
          (k.in-Ok-tags_of.ensures ∙ ap (λ (xs : List Name). filter (λ (t : Tag). is_among t.target.0 (map name_bytes xs)) c.in-Ok.tags.items) c.deref.ensures.value))
    ]

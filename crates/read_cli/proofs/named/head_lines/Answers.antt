-- Proves what src/named.rt needs of `head_lines`.
use Rattle.std.proofs.Common.{Option, List, ap, sym, subst, ◌∷◌, [], ◌∙◌, true}
use Rattle.std.specs.Prelude.{flat_map, zip}
use Rattle.std.specs.Option.{option_map}
use Rattle.filter_text.specs.Shapes.{shape}
use Rattle.git_objects.specs.Parts.{name_bytes}
use Rattle.git_objects.specs.declared.name.Name.{Name}
use Rattle.repo_ground.specs.Contents.{Contents}
use Rattle.repo_ground.specs.contracts.state.State.{the_view}
use Rattle.proj_commands.specs.Export.{export_hand}
use Rattle.proj_commands.specs.Makes.{IsStateOf}
use Rattle.read_cli.specs.Looks.{IsAtHand, IsStill, IsUnshown}
use Rattle.read_cli.specs.Outputs.{name_line}
use Rattle.read_cli.proofs.HeadNames.{head-fault, head-line, still-seen}
use Rattle.read_cli.proofs.named.head_lines.Goals as goal

pub returns-in-Err-clause-err : goal.returns-in-Err-clause-err
returns-in-Err-clause-err c = λ items h w.
    let v : Contents = the_view c.state.inside in
    let f = shape c.args.filter.now in
    let m : Name = c.args.head.now in
    subst (λ (x : Contents). IsUnshown (IsAtHand x.basis.store (export_hand true h f m.0 ∷ [])) c.apply_outcome.result) c.state.view_is
    (subst (IsUnshown (IsAtHand v.basis.store (export_hand true h f m.0 ∷ []))) (sym c.apply_outcome.ensures)
    (head-fault items h v f m (subst (IsStateOf items h) (sym c.state.view_is) w) c.shown_before.new.ground c.in-Err.ensures.same c.in-Err.error c.in-Err.ensures.err))

pub returns-clause-ok : goal.returns-clause-ok
returns-clause-ok c = λ items h w.
    let v : Contents = the_view c.state.inside in
    let f = shape c.args.filter.now in
    let m : Name = c.args.head.now in
    let st = subst (IsStateOf items h) (sym c.state.view_is) w in
    let g = c.shown_before.new.ground in (
      c.in-Ok-log_lines.ensures
          ∙ ap (λ (xs : List (Option Name)). flat_map (λ e. name_line e.0.0 (option_map name_bytes e.1)) (zip (m ∷ []) xs)) c.deref.ensures.value
          ∙ head-line items h v f m st c.in-Ok.shown.items c.in-Ok.ensures.ok,
      subst (λ (x : Contents). IsStill true items h x f m.0 (record v { basis = g })) c.state.view_is (still-seen items h v f m st g c.in-Ok.ensures.same c.in-Ok.ensures.map),
    )

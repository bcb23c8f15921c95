-- Proves what src/tagging.rt needs of `shown_tags`.
use Rattle.std.proofs.Common.{ap, map, sym, subst, ◌∙◌}
use Rattle.std.specs.Prelude.{zip}
use Rattle.std.specs.List.{filter_map}
use Rattle.std.specs.Option.{option_map}
use Rattle.filter_text.specs.Shapes.{shape}
use Rattle.git_objects.specs.Parts.{name_bytes}
use Rattle.repo_ground.specs.Contents.{Contents}
use Rattle.repo_ground.specs.contracts.state.State.{the_view}
use Rattle.tag_objects.specs.declared.tag.Tag.{Tag}
use Rattle.proj_commands.specs.Makes.{IsStateOf}
use Rattle.proj_commands.specs.Tags.{retargeted_one}
use Rattle.proj_commands.proofs.Retargeting.{tags-shown}
use Rattle.proj_commands.proofs.tagging.shown_tags.Goals as goal

pub returns-clause-ok : goal.returns-clause-ok
returns-clause-ok c = λ items h w.
    let v : Contents = the_view c.state.inside in
    let s = subst (IsStateOf items h) (sym c.state.view_is) w in
    c.in_ok-tags.ensures
    ∙ (λ i. filter_map retargeted_one (zip (c.tags-2.ensures i) (map (option_map name_bytes) (c.deref-2.ensures.value i))))
    ∙ tags-shown items h v (shape c.args.filter.now) c.args.head.now.0 s c.deref.result.now c.in_ok-shown.shown.items
    (c.deref.ensures.value ∙ c.in_ok-commits.ensures ∙ ap (map (λ (t : Tag). t.target)) (c.tags.ensures ∙ sym (ap (λ (x : Contents). x.tags) c.state.view_is))) c.in_ok-shown.ensures.ok

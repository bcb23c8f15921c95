-- Proves what src/keep.rt needs of `is_passed`.
use Rattle.std.proofs.Common.{sym, ap, subst, ◌∙◌}
use Rattle.std.specs.Option.{is_some}
use Rattle.std.proofs.lemmas.List.{length-map}
use Rattle.git_objects.specs.Parts.{name_bytes}
use Rattle.state_items.specs.Changes.{passed_by_item, passed_by_objects}
use Rattle.repo_ground.specs.Contents.{Contents, Spells, room_in}
use Rattle.repo_ground.proofs.Rules.{commits-number, objects-number}
use Rattle.repo_ground.proofs.state.State.is_passed.Goals as goal

-- src/keep.rt:98:5
pub returns : goal.returns
returns c = λ h bytes w e.
    let s : Spells h _ = subst (Spells h) (sym c.self.view_is) w in
    c.is_some.ensures
    ∙ ap is_some (c.first_passed.ensures.first h.objects bytes (c.len-commits.ensures.len ∙ commits-number h _ s) (c.len.ensures.len ∙ sym (length-map c.self.inside.held.keys name_bytes) ∙ objects-number h _ s) e)
    ∙ ap (λ (v : Contents). is_some (passed_by_objects h.objects (passed_by_item (room_in v) bytes))) c.self.view_is

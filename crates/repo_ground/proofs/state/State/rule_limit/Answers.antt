-- Proves what src/rule.rt needs of `rule_limit`.
use Rattle.std.proofs.Common.{◌+◌, ◌<◌, ◌≤◌, refl, sym, ap, subst, ◌∙◌}
use Rattle.std.proofs.lemmas.List.{length-map}
use Rattle.git_objects.specs.Parts.{name_bytes}
use Rattle.git_objects.specs.declared.limits.TheConstants.{ITEMS, STORE_BYTES}
use Rattle.state_items.specs.Changes.{RulePlan, passed}
use Rattle.state_items.specs.Items.{rule_text}
use Rattle.repo_ground.specs.Contents.{Contents, Spells, room_in}
use Rattle.repo_ground.proofs.Rules.{commits-number, may-append, objects-number}
use Rattle.repo_ground.proofs.state.State.rule_limit.Goals as goal

-- src/rule.rt:56:5
pub returns-clause-limit : goal.returns-clause-limit
returns-clause-limit c = λ h k w.
    let s : Spells h _ = subst (Spells h) (sym c.self.view_is) w in
    c.first_passed.ensures.first h.objects (rule_text k) (c.len-commits.ensures.len ∙ commits-number h _ s) (c.len.ensures.len ∙ sym (length-map c.self.inside.held.keys name_bytes) ∙ objects-number h _ s) refl
    ∙ ap (λ (v : Contents). passed h (room_in v) (RulePlan k)) c.self.view_is

-- src/rule.rt:56:5
pub returns-clause-room : goal.returns-clause-room
returns-clause-room c = λ e.
    let h = c.requires.spells.0 in
    let s : Spells h _ = subst (Spells h) (sym c.self.view_is) c.requires.spells.1 in
    let none = sym (c.first_passed.ensures.first h.objects (rule_text 1) (c.len-commits.ensures.len ∙ commits-number h _ s) (c.len.ensures.len ∙ sym (length-map c.self.inside.held.keys name_bytes) ∙ objects-number h _ s) refl) ∙ e in
    let m = may-append h.objects _ (rule_text 1) none in
    (subst (λ (v : Contents). v.number < ITEMS) c.self.view_is m.items, subst (λ (v : Contents). v.size + 3 ≤ STORE_BYTES) c.self.view_is m.store)

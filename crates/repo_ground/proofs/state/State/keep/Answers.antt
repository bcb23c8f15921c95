-- Proves what src/keep.rt needs of `keep`.
use Rattle.std.proofs.Common.{◌≡◌, ◌+◌, ◌<◌, ℕ, Some, length, sym, ap, subst, ◌∙◌}
use Rattle.git_objects.specs.Paths.{Bytes}
use Rattle.commit_map.specs.Rules.{rule_number}
use Rattle.filter_text.specs.Printing.{printed}
use Rattle.filter_text.specs.Shapes.{shape}
use Rattle.repo_ground.specs.Changes.{IsCommitted}
use Rattle.repo_ground.specs.Contents.{Contents, Spells}
use Rattle.repo_ground.specs.Keeping.{AreOfGraph, IsItemOf, keep_plan}
use Rattle.repo_ground.specs.contracts.state.State.{the_view}
use Rattle.repo_ground.proofs.Keeping.{keep-committed, plan-some, with_kept}
use Rattle.repo_ground.proofs.state.State.keep.Goals as goal

-- src/keep.rt:52:37
pub append-requires-clause-some : goal.append-requires-clause-some
append-requires-clause-some g c =
    let h = c.requires.state.spells.0 in
    let p = keep_plan h c.args.self.now (printed (shape c.args.filter.now)) in
    let made = subst (λ o. IsItemOf h c.args.self.now p o) c.in-Ok-Some.field-0-is (c.in-Ok-Some.ensures.item h c.requires.state.spells.1) in
    subst (λ (t : Bytes). 0 < length t) (sym c.deref.ensures.value) (plan-some (keep_plan h c.args.self.now (printed (shape c.args.filter.now))) c.in-Ok-Some.item.items made.0)

-- src/keep.rt:33:5
pub returns-clause-state : goal.returns-clause-state
returns-clause-state g c = λ h w.
    let v : Contents = the_view c.self.inside in
    let text : Bytes = printed (shape c.args.filter.now) in
    let item : Bytes = c.in-Ok-Some.item.items in
    let made = subst (λ (x : Contents). IsItemOf h x (keep_plan h x text) (Some c.in-Ok-Some.item)) (sym c.self.view_is)
    (subst (λ o. IsItemOf h c.args.self.now (keep_plan h c.args.self.now text) o) c.in-Ok-Some.field-0-is (c.in-Ok-Some.ensures.item h w)) in
    let chosen = subst (λ (x : Contents). x.selected ≡ Some (text, rule_number x.basis.rule)) (sym c.self.view_is) c.requires.state.selected in
    let done = keep-committed h v text item (subst (Spells h) (sym c.self.view_is) w) (subst AreOfGraph (sym c.self.view_is) c.requires.state.originals) chosen made.0 made.1 in
    let at = subst (λ (x : Contents). IsCommitted h (keep_plan h x text) x (with_kept v (length item))) c.self.view_is done in
    subst (λ (n : ℕ). IsCommitted h (keep_plan h c.args.self.now text) c.args.self.now (record v { kept = n; number = v.number + 1; size = v.size + c.len.result })) (sym c.len-self-inside.ensures)
    (subst (λ (n : ℕ). IsCommitted h (keep_plan h c.args.self.now text) c.args.self.now (with_kept v n)) (sym (c.len.ensures ∙ sym c.deref.ensures.len ∙ ap length c.deref.ensures.value)) at)

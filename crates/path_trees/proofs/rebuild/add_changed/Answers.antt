use Rattle.std.proofs.Common.{◌≡◌, not, ◌∷◌, ◌++◌, sym, subst, ap, ◌∙◌}
use Rattle.std.proofs.lemmas.Bool.{not-true, not-false}
use Rattle.git_objects.specs.Entries.{AreEntries, body_text}
use Rattle.git_objects.specs.Paths.{Bytes}
use Rattle.git_objects.specs.Views.{entry_value}
use Rattle.path_trees.specs.Listed.{changed}
use Rattle.path_trees.proofs.Rebuilding.{next_entry, on_ok, order_next, text_behind, text_with, text_without}
use Rattle.path_trees.proofs.rebuild.add_changed.Goals as goal
use Rattle.path_trees.proofs.rebuild.add_changed.Goals.{then-ne+in_ok-waiting+else-is_none+in_ok-add_entry, else-ne}

pub returns-then-precedes : goal.returns-then-precedes
returns-then-precedes c =
    let next = next_entry c.entries.ahead c.entries.rest c.next.new.self (entry_value c.in-Some.entry) c.entries.invariant.same c.in-Some.ensures.entry c.next.ensures.rest in
    let b = c.add_before.new.body.items in
    let text = text_behind next c.args.component.now c.entries.body.items c.entries.waiting c.entries.invariant.text (not-true _ (sym c.ne.ensures ∙ c.if-ne.true)) b c.in_ok-waiting.waiting c.in_ok-waiting.ensures
    (c.is_none.ensures ∙ ap not c.if-is_none.true) (sym c.precedes.ensures ∙ c.if-precedes.true) c.entries.invariant.order in
    on_ok c.extend_from_slice.result c.extend_from_slice.new.self.items b c.bytes.result.now _ (ap (λ t. b ++ t) c.bytes.ensures ∙ text) c.extend_from_slice.ensures.items

pub entries-preserved : goal.entries-preserved
entries-preserved c = record { same = sym c.copy-rest.ensures; order = subst AreEntries (sym c.copy-rest.ensures) (order_next next c.entries.invariant.order); text = text }
  where
    w : Bytes
    w = c.args.component.now

    next : c.entries.rest ≡ entry_value c.in-Some.entry ∷ c.next.new.self
    next = next_entry c.entries.ahead c.entries.rest c.next.new.self (entry_value c.in-Some.entry) c.entries.invariant.same c.in-Some.ensures.entry c.next.ensures.rest

    text : c.if-ne.body.items ++ body_text (changed w c.if-ne.waiting c.copy-rest.result) ≡ c.args.body.now.items ++ body_text (changed w c.args.change c.args.entries)
    text = elim c.if-ne.branch [
      | then-ne+in_ok-waiting+else-is_none+in_ok-add_entry t ↦
          (λ i. (t.body-is i).items ++ body_text (changed w (t.waiting-is i) (c.copy-rest.ensures i)))
          ∙ ap (λ b. b ++ body_text (changed w t.in_ok-waiting.waiting c.next.new.self)) t.in_ok-add_entry.ensures
          ∙ text_with next w c.entries.body.items c.entries.waiting c.entries.invariant.text (not-true _ (sym c.ne.ensures ∙ t.if-ne.true)) t.add_before.new.body.items t.in_ok-waiting.waiting t.in_ok-waiting.ensures
      | else-ne t ↦
          (λ i. (t.body-is i).items ++ body_text (changed w (t.waiting-is i) (c.copy-rest.ensures i)))
          ∙ text_without next w c.entries.body.items c.entries.waiting c.entries.invariant.text (not-false _ (sym c.ne.ensures ∙ t.if-ne.false))
    ]

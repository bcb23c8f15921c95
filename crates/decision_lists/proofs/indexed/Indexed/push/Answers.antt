use Rattle.std.proofs.Common.{nat_eq, ◌++◌, ◌∷◌, [], ◌&&◌, is_some, sym, ap, ◌∙◌, subst}
use Rattle.std.specs.HashMap.{get}
use Rattle.decision_lists.specs.Index.{IsIndex}
use Rattle.decision_lists.specs.Operations.{are_live}
use Rattle.decision_lists.proofs.Indexing.{live-more}
use Rattle.decision_lists.proofs.indexed.Indexed.push.Goals as goal

pub invariant_of-self-in-Ok-push : goal.invariant_of-self-in-Ok-push
invariant_of-self-in-Ok-push c =
    let x = c.self.inside in
    let y = c.add.new.self in
    record {
      index = subst (λ es. IsIndex (get nat_eq y.places) y.clean es)
          (ap (λ es. es ++ c.args.entry ∷ []) c.as_slice.ensures.value ∙ sym c.in-Ok-push.ensures.items) c.in-Ok.ensures;
      targets = c.stays_live-live.ensures ∙ ap (λ b. b && is_some c.args.entry.1) c.self.invariant.targets
          ∙ sym (live-more x.entries.items c.args.entry) ∙ ap are_live (sym c.in-Ok-push.ensures.items);
    }

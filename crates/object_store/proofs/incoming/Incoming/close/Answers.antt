use Rattle.std.proofs.Common.{ℕ, sym, subst, ◌∙◌, le_of_eq}
use Rattle.object_store.specs.Places.{AreBelow}
use Rattle.object_store.proofs.Pieces.{all-below}
use Rattle.object_store.proofs.incoming.Incoming.close.Goals as goal

pub invariant_of-self : goal.invariant_of-self
invariant_of-self c =
    let at_end = c.len-self-inside.ensures ∙ c.self.inside.arena.ok.0 in
    record {
      store = c.self.invariant.store;
      within = le_of_eq at_end;
      below = λ _. subst (λ (n : ℕ). AreBelow n c.self.inside.places.entries) (sym at_end) (all-below _ _ c.self.invariant.store.placed);
    }

use Rattle.std.proofs.Common.{◌≡◌, true, IfSome, Option, Some, None, refl, ap, sym, ◌∙◌}
use Rattle.std.specs.Option.{option_map, option_and_then}
use Rattle.object_store.specs.Objects.{has_child}
use Rattle.object_store.specs.Unfolding.{flat}
use Rattle.path_trees.specs.Standing.{node}
use Rattle.path_trees.specs.Listed.{found_at, listed}
use Rattle.path_trees.specs.declared.found.Found.{Found}
use Rattle.path_trees.proofs.Lookups.{step_down, step_held}
use Rattle.path_trees.proofs.lookup.entry_in.Goals as goal

pub returns-clause-found : goal.returns-clause-found
returns-clause-found c =
    ap (option_map (node c.args.store.now)) c.found_in.ensures.found
    ∙ sym (step_down c.args.store.now c.found_in.ensures.store c.args.directory.0 (flat c.args.store.now c.args.directory.0) c.args.component.now (record { held = c.requires; map = refl })).0

pub returns-clause-held : goal.returns-clause-held
returns-clause-held c = by c.found_in.result c.found_in.ensures.found
  where
    by : (o : Option Found) → o ≡ option_and_then (found_at c.args.component.now) (listed c.args.store.now c.args.directory.0) → IfSome o (λ f. has_child c.args.store.now f.mode f.name.0 ≡ true)
    by None e = tt
    by (Some f) e = step_held c.args.store.now c.found_in.ensures.store c.args.directory.0 c.args.component.now f c.requires e

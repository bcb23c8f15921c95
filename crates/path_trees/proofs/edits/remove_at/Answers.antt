use Rattle.std.proofs.Common.{◌≡◌, true, false, [], Option, Some, None, refl, ap, sym, ◌∙◌}
use Rattle.std.specs.Option.{is_none, is_some, option_map}
use Rattle.git_objects.specs.Trees.{Node}
use Rattle.object_store.specs.Unfolding.{flat}
use Rattle.object_store.proofs.Unfolding.{flat_good}
use Rattle.path_trees.specs.Standing.{node}
use Rattle.path_trees.specs.declared.found.Found.{Found}
use Rattle.path_trees.proofs.Lookups.{clear_way, remove_nothing}
use Rattle.path_trees.proofs.edits.remove_at.Goals as goal

something : (f : Found → Node) (o : Option Found) → is_some o ≡ true → is_none (option_map f o) ≡ false
something f None h = cc
something f (Some x) h = refl

nothing : (f : Found → Node) (o : Option Found) → is_some o ≡ false → option_map f o ≡ None
nothing f None h = refl
nothing f (Some x) h = cc

pub returns-then-is_none-clause-ok : goal.returns-then-is_none-clause-ok
returns-then-is_none-clause-ok c =
    let S = c.args.store.now in
    record {
      held = c.requires;
      map = sym (remove_nothing (flat S c.args.root.0) c.args.path.now (flat_good S c.store_law.ensures.store c.args.root.0 c.requires).tree
          (sym c.entry_at.ensures.found ∙ nothing (node S) c.entry_at.result c.if-is_none.ensures));
    }

pub returns-then-is_none-clause-store : goal.returns-then-is_none-clause-store
returns-then-is_none-clause-store c = record { store = c.store_law.ensures.store; newer = []; above = refl; trees = tt }

pub edited-requires-clause-clear : goal.edited-requires-clause-clear
edited-requires-clause-clear c =
    let S = c.args.store.now in
    clear_way (flat S c.args.root.0) c.args.path.now (flat_good S c.store_law.ensures.store c.args.root.0 c.requires).tree
    (ap is_none (sym c.entry_at.ensures.found) ∙ something (node S) c.entry_at.result c.if-is_none.ensures)

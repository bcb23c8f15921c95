use Rattle.std.proofs.Common.{◌∙◌, ◌++◌, ◌∷◌, [], Some, None, refl, sym, ap, subst}
use Rattle.git_objects.specs.Paths.{Bytes}
use Rattle.git_objects.specs.Views.{entry_value}
use Rattle.object_store.specs.Unfolding.{entry_flat}
use Rattle.path_trees.specs.declared.pairs.Pair.{Pair}
use Rattle.path_trees.proofs.Walks.{tree_held}
use Rattle.incremental_export.specs.Compared.{IsFound, IsHeldPair, IsPairDone}
use Rattle.incremental_export.proofs.ComparedEntries.{listed_held, new_leaf}
use Rattle.incremental_export.proofs.compare.Changes.add_pair.Goals as goal

pub returns-then-not-is_dir : goal.returns-then-not-is_dir
returns-then-not-is_dir c =
    let S = c.args.store.now in
    let held = subst (IsHeldPair S) c.in-Both.is c.requires.held in
    let found = new_leaf S c.in-Both.old c.in-Both.new held (sym c.if-not-is_dir.ensures) c.args.front.now.items c.args.self.now c.put_entry-then-not-is_dir.new.self in
    subst (λ (p : Pair). IsPairDone S p c.args.front.now.items c.args.front.now.items None c.args.self.now c.put_entry-then-not-is_dir.new.self) (sym c.in-Both.is) (
      refl,
      found (subst (λ (k : Bytes). IsFound S k [] (entry_flat S (entry_value c.in-Both.new)) c.args.self.now c.put_entry-then-not-is_dir.new.self) c.deref-then-not-is_dir.ensures.value
          c.in_ok-put_entry-in-Both.ensures),
    )

pub returns-in_ok-push-in-Both : goal.returns-in_ok-push-in-Both
returns-in_ok-push-in-Both c =
    let S = c.args.store.now in
    let held = subst (IsHeldPair S) c.in-Both.is c.requires.held in
    let d = sym c.if-not-is_dir.ensures in
    subst (λ (p : Pair). IsPairDone S p c.args.front.now.items c.push.new.self.items (Some c.level_at.result) c.args.self.now c.args.self.now) (sym c.in-Both.is) (
      refl,
      c.in_ok-push-in-Both.ensures.items ∙ ap (λ (x : Bytes). x ++ 47 ∷ []) c.in_ok-extend_from_slice-in-Both.ensures.items,
      d,
      c.level_at.ensures.front ∙ c.len.ensures ∙ c.push.new.self.ok.0,
      listed_held S c.in-Both.old.name.0 c.level_at.result.left c.requires.store (tree_held S c.in-Both.old.mode c.in-Both.old.name.0 (held.3 ∙ d) held.0) c.level_at.ensures.left,
      c.level_at.ensures.right,
    )

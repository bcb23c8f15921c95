use Rattle.std.proofs.Common.{◌≡◌, ◌++◌, ◌∷◌, [], drop, reverse, refl, ap, sym, subst, ◌∙◌}
use Rattle.git_objects.specs.Paths.{Bytes}
use Rattle.git_objects.specs.Views.{entry_value}
use Rattle.git_objects.specs.declared.kind.Kind.TheVariants.{Blob}
use Rattle.object_store.specs.Objects.{body_of}
use Rattle.path_trees.specs.Walked.{AreLevels, left_in, leaf_of}
use Rattle.path_trees.proofs.Walks.{closed, opened, next_child, next_component, at_leaf, at_directory, leaf_step, components_path, all_more, tree_held}
use Rattle.path_trees.proofs.walk.next_leaf.Goals as goal

pub levels-preserved-in_default-next : goal.levels-preserved-in_default-next
levels-preserved-in_default-next c =
    let r = closed c.args.store.now c.levels.levels.items c.pop.new.self.items c.in-Some.level c.levels.components.items c.go_up.new.components.items c.in-Some.ensures.items c.in_default-next.ensures.entry c.levels.invariant.levels c.go_up.ensures.directory in
    record { levels = r.0; components = c.go_up.ensures.components; same = r.1 ∙ c.levels.invariant.same }

pub levels-smaller-in_default-next : goal.levels-smaller-in_default-next
levels-smaller-in_default-next c =
    (closed c.args.store.now c.levels.levels.items c.pop.new.self.items c.in-Some.level c.levels.components.items c.go_up.new.components.items c.in-Some.ensures.items c.in_default-next.ensures.entry c.levels.invariant.levels c.go_up.ensures.directory).2

pub returns-in_err-copied-clause-levels : goal.returns-in_err-copied-clause-levels
returns-in_err-copied-clause-levels c = opened c.args.store.now c.levels.levels.items c.pop.new.self.items c.in-Some.level c.next.new.self (entry_value c.in-Some-next.entry) c.in-Some.ensures.items c.in-Some-next.ensures.entry c.in-Some-next.ensures.rest c.levels.invariant.levels c.push.new.self.items c.in_ok-push.ensures.items

pub copied-requires : goal.copied-requires
copied-requires c = next_component c.args.store.now c.levels.levels.items c.pop.new.self.items c.in-Some.level c.next.new.self (entry_value c.in-Some-next.entry) c.in-Some.ensures.items c.in-Some-next.ensures.entry c.in-Some-next.ensures.rest c.levels.invariant.levels

pub returns-in_err-push-2-clause-levels : goal.returns-in_err-push-2-clause-levels
returns-in_err-push-2-clause-levels c = opened c.args.store.now c.levels.levels.items c.pop.new.self.items c.in-Some.level c.next.new.self (entry_value c.in-Some-next.entry) c.in-Some.ensures.items c.in-Some-next.ensures.entry c.in-Some-next.ensures.rest c.levels.invariant.levels c.push.new.self.items c.in_ok-push.ensures.items

pub of-requires : goal.of-requires
of-requires c =
    let S = c.args.store.now in
    let path : c.push-in-Some.new.self.items ≡ c.levels.components.items ++ c.in-Some-next.entry.component.now ∷ [] = c.in_ok-push-2.ensures.items ∙ ap (λ (x : Bytes). c.levels.components.items ++ x ∷ []) c.in_ok-copied.ensures in
    components_path c.levels.components.items c.push-in-Some.new.self.items c.in-Some-next.entry.component.now path
    (all_more c.levels.components.items c.push-in-Some.new.self.items c.in-Some-next.entry.component.now path c.levels.invariant.components (next_component S c.levels.levels.items c.pop.new.self.items c.in-Some.level c.next.new.self (entry_value c.in-Some-next.entry) c.in-Some.ensures.items c.in-Some-next.ensures.entry c.in-Some-next.ensures.rest c.levels.invariant.levels))

pub returns-then-not-is_dir-clause-held : goal.returns-then-not-is_dir-clause-held
returns-then-not-is_dir-clause-held c = next_child c.args.store.now c.levels.levels.items c.pop.new.self.items c.in-Some.level c.next.new.self (entry_value c.in-Some-next.entry) c.in-Some.ensures.items c.in-Some-next.ensures.entry c.in-Some-next.ensures.rest c.levels.invariant.levels

pub returns-then-not-is_dir-clause-levels : goal.returns-then-not-is_dir-clause-levels
returns-then-not-is_dir-clause-levels c = opened c.args.store.now c.levels.levels.items c.pop.new.self.items c.in-Some.level c.next.new.self (entry_value c.in-Some-next.entry) c.in-Some.ensures.items c.in-Some-next.ensures.entry c.in-Some-next.ensures.rest c.levels.invariant.levels c.push.new.self.items c.in_ok-push.ensures.items

pub entries_at-requires : goal.entries_at-requires
entries_at-requires c = tree_held c.args.store.now c.in-Some-next.entry.mode c.in-Some-next.entry.name.0 (sym c.if-not-is_dir.ensures) (next_child c.args.store.now c.levels.levels.items c.pop.new.self.items c.in-Some.level c.next.new.self (entry_value c.in-Some-next.entry) c.in-Some.ensures.items c.in-Some-next.ensures.entry c.in-Some-next.ensures.rest c.levels.invariant.levels)

pub levels-preserved : goal.levels-preserved
levels-preserved c =
    let S = c.args.store.now in
    let path : c.push-in-Some.new.self.items ≡ c.levels.components.items ++ c.in-Some-next.entry.component.now ∷ [] = c.in_ok-push-2.ensures.items ∙ ap (λ (x : Bytes). c.levels.components.items ++ x ∷ []) c.in_ok-copied.ensures in
    let r = at_directory S c.levels.levels.items c.pop.new.self.items c.in-Some.level c.next.new.self (entry_value c.in-Some-next.entry) c.in-Some.ensures.items c.in-Some-next.ensures.entry c.in-Some-next.ensures.rest c.levels.invariant.levels c.entries_at.ensures.store (sym c.if-not-is_dir.ensures) c.entries_at.result c.entries_at.ensures.listed c.levels.components.items c.push-in-Some.new.self.items path c.push.new.self.items c.push-in-Some-2.new.self.items c.in_ok-push.ensures.items c.in_ok-push-3.ensures.items in
    record {
      levels = r.0;
      components = all_more c.levels.components.items c.push-in-Some.new.self.items c.in-Some-next.entry.component.now path c.levels.invariant.components (next_component S c.levels.levels.items c.pop.new.self.items c.in-Some.level c.next.new.self (entry_value c.in-Some-next.entry) c.in-Some.ensures.items c.in-Some-next.ensures.entry c.in-Some-next.ensures.rest c.levels.invariant.levels);
      same = r.1 ∙ c.levels.invariant.same;
    }

pub levels-smaller : goal.levels-smaller
levels-smaller c =
    let S = c.args.store.now in
    let path : c.push-in-Some.new.self.items ≡ c.levels.components.items ++ c.in-Some-next.entry.component.now ∷ [] = c.in_ok-push-2.ensures.items ∙ ap (λ (x : Bytes). c.levels.components.items ++ x ∷ []) c.in_ok-copied.ensures in
    (at_directory S c.levels.levels.items c.pop.new.self.items c.in-Some.level c.next.new.self (entry_value c.in-Some-next.entry) c.in-Some.ensures.items c.in-Some-next.ensures.entry c.in-Some-next.ensures.rest c.levels.invariant.levels c.entries_at.ensures.store (sym c.if-not-is_dir.ensures) c.entries_at.result c.entries_at.ensures.listed c.levels.components.items c.push-in-Some.new.self.items path c.push.new.self.items c.push-in-Some-2.new.self.items c.in_ok-push.ensures.items c.in_ok-push-3.ensures.items).2

pub returns-in_err-push-3-clause-levels : goal.returns-in_err-push-3-clause-levels
returns-in_err-push-3-clause-levels c = subst (AreLevels c.args.store.now) (sym c.in_err-push-3.ensures.items) (opened c.args.store.now c.levels.levels.items c.pop.new.self.items c.in-Some.level c.next.new.self (entry_value c.in-Some-next.entry) c.in-Some.ensures.items c.in-Some-next.ensures.entry c.in-Some-next.ensures.rest c.levels.invariant.levels c.push.new.self.items c.in_ok-push.ensures.items)

pub returns-then-not-is_dir-clause-leaf : goal.returns-then-not-is_dir-clause-leaf
returns-then-not-is_dir-clause-leaf c =
    let S = c.args.store.now in
    let path : c.push-in-Some.new.self.items ≡ c.levels.components.items ++ c.in-Some-next.entry.component.now ∷ [] = c.in_ok-push-2.ensures.items ∙ ap (λ (x : Bytes). c.levels.components.items ++ x ∷ []) c.in_ok-copied.ensures in
    let all : c.of.result ≡ c.levels.components.items ++ c.in-Some-next.entry.component.now ∷ [] = c.of.ensures ∙ path in
    leaf_step (left_in S (reverse c.args.levels.now.items) (reverse c.args.components.items)) (left_in S (reverse c.push.new.self.items) (drop 1 (reverse c.of.result)))
    (c.of.result, leaf_of (body_of Blob S) c.in-Some-next.entry.mode c.in-Some-next.entry.name.0) _
    (sym c.levels.invariant.same ∙ at_leaf S c.levels.levels.items c.pop.new.self.items c.in-Some.level c.next.new.self (entry_value c.in-Some-next.entry) c.in-Some.ensures.items c.in-Some-next.ensures.entry c.in-Some-next.ensures.rest c.levels.invariant.levels (sym c.if-not-is_dir.ensures) c.levels.components.items c.of.result all c.push.new.self.items c.in_ok-push.ensures.items) refl

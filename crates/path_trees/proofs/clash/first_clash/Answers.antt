use Rattle.std.proofs.Common.{◌≡◌, length, arith, List, [], ◌∷◌, ◌++◌, Some, None, refl, sym, ap, ◌∙◌}
use Rattle.std.specs.Cmp.{first_so, second_so}
use Rattle.git_objects.specs.Paths.{Bytes}
use Rattle.git_objects.specs.Entries.{is_dir}
use Rattle.git_objects.specs.Views.{entry_value}
use Rattle.git_objects.specs.declared.entry.Entry.{Entry}
use Rattle.path_trees.specs.Listed.{found_at}
use Rattle.path_trees.specs.declared.clash.Level.{Level}
use Rattle.path_trees.proofs.ClashSteps.{clash_left, first_level, closed, next_child, next_component, found_child, passed, entered, clashed}
use Rattle.path_trees.proofs.Walks.{all_more, components_path, tree_held}
use Rattle.path_trees.proofs.clash.first_clash.Goals as goal

no_levels : (ls : List Level) → length ls ≡ 0 → ls ≡ []
no_levels [] h = refl
no_levels (l ∷ ls) h = absurd (omega arith)

pub levels-init : goal.levels-init
levels-init c =
    let S = c.args.store.now in
    let items : c.push.new.self.items ≡ [] ++ c.level_at.result ∷ [] = c.in_ok-push.ensures.items ∙ ap (λ (ls : List Level). ls ++ c.level_at.result ∷ []) c.new-levels.ensures.items in
    let root = first_level S c.level_at.ensures.store c.args.a.now.0 c.args.b.now.0 c.level_at.result c.requires.first c.requires.second c.level_at.ensures.left c.level_at.ensures.right c.push.new.self.items items in
    record { levels = root.0; components = ap (Rattle.std.specs.List.list_all Rattle.git_objects.specs.Paths.is_component) c.new-components.ensures.items; same = refl }

pub levels-smaller-in_default-next : goal.levels-smaller-in_default-next
levels-smaller-in_default-next c =
    let S = c.args.store.now in
    (closed S c.levels.levels.items c.pop.new.self.items c.in-Some.level c.levels.components.items c.go_up.new.components.items c.in-Some.ensures.items c.in_default-next.ensures.entry c.levels.invariant.levels c.go_up.ensures.directory).2

pub levels-preserved-in_default-next : goal.levels-preserved-in_default-next
levels-preserved-in_default-next c =
    let S = c.args.store.now in
    let r = closed S c.levels.levels.items c.pop.new.self.items c.in-Some.level c.levels.components.items c.go_up.new.components.items c.in-Some.ensures.items c.in_default-next.ensures.entry c.levels.invariant.levels c.go_up.ensures.directory in
    record { levels = r.0; components = c.go_up.ensures.components; same = r.1 ∙ c.levels.invariant.same }

pub levels-smaller-in_default-found : goal.levels-smaller-in_default-found
levels-smaller-in_default-found c =
    let S = c.args.store.now in
    let n : found_at c.in-Some-next.entry.component.now c.in-Some.level.right ≡ None = sym c.in_default-found.ensures.found in
    let items = c.in_ok-push-2.ensures.items ∙ ap (λ (fs : List Entry). let top : Level = record { left = c.next.new.self; right = fs } in c.pop.new.self.items ++ top ∷ []) c.in_default-found.ensures.same in
    (passed S c.level_at.ensures.store c.levels.levels.items c.pop.new.self.items c.in-Some.level c.next.new.self (entry_value c.in-Some-next.entry) c.in-Some.ensures.items c.in-Some-next.ensures.entry c.in-Some-next.ensures.rest c.levels.invariant.levels n c.levels.components.items c.push-in-Some.new.self.items items).2

pub levels-preserved-in_default-found : goal.levels-preserved-in_default-found
levels-preserved-in_default-found c =
    let S = c.args.store.now in
    let n : found_at c.in-Some-next.entry.component.now c.in-Some.level.right ≡ None = sym c.in_default-found.ensures.found in
    let items = c.in_ok-push-2.ensures.items ∙ ap (λ (fs : List Entry). let top : Level = record { left = c.next.new.self; right = fs } in c.pop.new.self.items ++ top ∷ []) c.in_default-found.ensures.same in
    let r = passed S c.level_at.ensures.store c.levels.levels.items c.pop.new.self.items c.in-Some.level c.next.new.self (entry_value c.in-Some-next.entry) c.in-Some.ensures.items c.in-Some-next.ensures.entry c.in-Some-next.ensures.rest c.levels.invariant.levels n c.levels.components.items c.push-in-Some.new.self.items items in
    record { levels = r.0; components = c.levels.invariant.components; same = r.1 ∙ c.levels.invariant.same }

pub copied-requires : goal.copied-requires
copied-requires c =
    let S = c.args.store.now in
    next_component S c.level_at.ensures.store c.levels.levels.items c.pop.new.self.items c.in-Some.level c.next.new.self (entry_value c.in-Some-next.entry) c.in-Some.ensures.items c.in-Some-next.ensures.entry c.in-Some-next.ensures.rest c.levels.invariant.levels

pub clash_at-requires-clause-left : goal.clash_at-requires-clause-left
clash_at-requires-clause-left c =
    let S = c.args.store.now in
    next_child S c.level_at.ensures.store c.levels.levels.items c.pop.new.self.items c.in-Some.level c.next.new.self (entry_value c.in-Some-next.entry) c.in-Some.ensures.items c.in-Some-next.ensures.entry c.in-Some-next.ensures.rest c.levels.invariant.levels

pub clash_at-requires-clause-right : goal.clash_at-requires-clause-right
clash_at-requires-clause-right c =
    let S = c.args.store.now in
    let k : found_at c.in-Some-next.entry.component.now c.in-Some.level.right ≡ Some c.in-Some-found.found = sym c.in-Some-found.ensures.found in
    found_child S c.level_at.ensures.store c.levels.levels.items c.pop.new.self.items c.in-Some.level c.next.new.self (entry_value c.in-Some-next.entry) c.in-Some.ensures.items c.in-Some-next.ensures.entry c.in-Some-next.ensures.rest c.levels.invariant.levels c.in-Some-found.found k

pub clash_at-requires-clause-path : goal.clash_at-requires-clause-path
clash_at-requires-clause-path c =
    let S = c.args.store.now in
    let path : c.push-in-Some-2.new.self.items ≡ c.levels.components.items ++ c.in-Some-next.entry.component.now ∷ [] = c.in_ok-push-3.ensures.items ∙ ap (λ (x : Bytes). c.levels.components.items ++ x ∷ []) c.in_ok-copied.ensures in
    components_path c.levels.components.items c.push-in-Some-2.new.self.items c.in-Some-next.entry.component.now path (all_more c.levels.components.items c.push-in-Some-2.new.self.items c.in-Some-next.entry.component.now path c.levels.invariant.components (next_component S c.level_at.ensures.store c.levels.levels.items c.pop.new.self.items c.in-Some.level c.next.new.self (entry_value c.in-Some-next.entry) c.in-Some.ensures.items c.in-Some-next.ensures.entry c.in-Some-next.ensures.rest c.levels.invariant.levels))

pub returns-then-not-are_directories : goal.returns-then-not-are_directories
returns-then-not-are_directories c =
    let S = c.args.store.now in
    let items : c.push.new.self.items ≡ [] ++ c.level_at.result ∷ [] = c.in_ok-push.ensures.items ∙ ap (λ (ls : List Level). ls ++ c.level_at.result ∷ []) c.new-levels.ensures.items in
    let root = first_level S c.level_at.ensures.store c.args.a.now.0 c.args.b.now.0 c.level_at.result c.requires.first c.requires.second c.level_at.ensures.left c.level_at.ensures.right c.push.new.self.items items in
    let whole = ap (clash_left S c.push.new.self.items) c.new-components.ensures.items ∙ root.1 in
    let k : found_at c.in-Some-next.entry.component.now c.in-Some.level.right ≡ Some c.in-Some-found.found = sym c.in-Some-found.ensures.found in
    let path : c.push-in-Some-2.new.self.items ≡ c.levels.components.items ++ c.in-Some-next.entry.component.now ∷ [] = c.in_ok-push-3.ensures.items ∙ ap (λ (x : Bytes). c.levels.components.items ++ x ∷ []) c.in_ok-copied.ensures in
    sym (sym whole ∙ sym c.levels.invariant.same ∙ clashed S c.level_at.ensures.store c.levels.levels.items c.pop.new.self.items c.in-Some.level c.next.new.self (entry_value c.in-Some-next.entry) c.in-Some.ensures.items c.in-Some-next.ensures.entry c.in-Some-next.ensures.rest c.levels.invariant.levels c.in-Some-found.found k c.levels.components.items c.push-in-Some-2.new.self.items path c.in_ok-clash_at.field-0 c.in_ok-clash_at.ensures)

pub level_at-requires-in-Some-clause-left : goal.level_at-requires-in-Some-clause-left
level_at-requires-in-Some-clause-left c =
    let S = c.args.store.now in
    tree_held S c.in-Some-next.entry.mode c.in-Some-next.entry.name.0 (first_so (is_dir c.in-Some-next.entry.mode) (is_dir c.in-Some-found.found.mode) (sym c.if-not-are_directories.ensures)) (next_child S c.level_at.ensures.store c.levels.levels.items c.pop.new.self.items c.in-Some.level c.next.new.self (entry_value c.in-Some-next.entry) c.in-Some.ensures.items c.in-Some-next.ensures.entry c.in-Some-next.ensures.rest c.levels.invariant.levels)

pub level_at-requires-in-Some-clause-right : goal.level_at-requires-in-Some-clause-right
level_at-requires-in-Some-clause-right c =
    let S = c.args.store.now in
    let k : found_at c.in-Some-next.entry.component.now c.in-Some.level.right ≡ Some c.in-Some-found.found = sym c.in-Some-found.ensures.found in
    tree_held S c.in-Some-found.found.mode c.in-Some-found.found.name.0 (second_so (is_dir c.in-Some-next.entry.mode) (is_dir c.in-Some-found.found.mode) (sym c.if-not-are_directories.ensures)) (found_child S c.level_at.ensures.store c.levels.levels.items c.pop.new.self.items c.in-Some.level c.next.new.self (entry_value c.in-Some-next.entry) c.in-Some.ensures.items c.in-Some-next.ensures.entry c.in-Some-next.ensures.rest c.levels.invariant.levels c.in-Some-found.found k)

pub levels-smaller : goal.levels-smaller
levels-smaller c =
    let S = c.args.store.now in
    let k : found_at c.in-Some-next.entry.component.now c.in-Some.level.right ≡ Some c.in-Some-found.found = sym c.in-Some-found.ensures.found in
    let path : c.push-in-Some-2.new.self.items ≡ c.levels.components.items ++ c.in-Some-next.entry.component.now ∷ [] = c.in_ok-push-3.ensures.items ∙ ap (λ (x : Bytes). c.levels.components.items ++ x ∷ []) c.in_ok-copied.ensures in
    let items = c.in_ok-push-2.ensures.items ∙ ap (λ (fs : List Entry). let top : Level = record { left = c.next.new.self; right = fs } in c.pop.new.self.items ++ top ∷ []) c.in-Some-found.ensures.same in
    (entered S c.level_at.ensures.store c.levels.levels.items c.pop.new.self.items c.in-Some.level c.next.new.self (entry_value c.in-Some-next.entry) c.in-Some.ensures.items c.in-Some-next.ensures.entry c.in-Some-next.ensures.rest c.levels.invariant.levels c.in-Some-found.found k (first_so (is_dir c.in-Some-next.entry.mode) (is_dir c.in-Some-found.found.mode) (sym c.if-not-are_directories.ensures)) (second_so (is_dir c.in-Some-next.entry.mode) (is_dir c.in-Some-found.found.mode) (sym c.if-not-are_directories.ensures)) c.level_at-in-Some.result c.level_at-in-Some.ensures.left c.level_at-in-Some.ensures.right c.levels.components.items c.push-in-Some-2.new.self.items path c.push-in-Some.new.self.items c.push-in-Some-3.new.self.items items c.in_ok-push-4.ensures.items).2

pub levels-preserved : goal.levels-preserved
levels-preserved c =
    let S = c.args.store.now in
    let k : found_at c.in-Some-next.entry.component.now c.in-Some.level.right ≡ Some c.in-Some-found.found = sym c.in-Some-found.ensures.found in
    let path : c.push-in-Some-2.new.self.items ≡ c.levels.components.items ++ c.in-Some-next.entry.component.now ∷ [] = c.in_ok-push-3.ensures.items ∙ ap (λ (x : Bytes). c.levels.components.items ++ x ∷ []) c.in_ok-copied.ensures in
    let items = c.in_ok-push-2.ensures.items ∙ ap (λ (fs : List Entry). let top : Level = record { left = c.next.new.self; right = fs } in c.pop.new.self.items ++ top ∷ []) c.in-Some-found.ensures.same in
    let r = entered S c.level_at.ensures.store c.levels.levels.items c.pop.new.self.items c.in-Some.level c.next.new.self (entry_value c.in-Some-next.entry) c.in-Some.ensures.items c.in-Some-next.ensures.entry c.in-Some-next.ensures.rest c.levels.invariant.levels c.in-Some-found.found k (first_so (is_dir c.in-Some-next.entry.mode) (is_dir c.in-Some-found.found.mode) (sym c.if-not-are_directories.ensures)) (second_so (is_dir c.in-Some-next.entry.mode) (is_dir c.in-Some-found.found.mode) (sym c.if-not-are_directories.ensures)) c.level_at-in-Some.result c.level_at-in-Some.ensures.left c.level_at-in-Some.ensures.right c.levels.components.items c.push-in-Some-2.new.self.items path c.push-in-Some.new.self.items c.push-in-Some-3.new.self.items items c.in_ok-push-4.ensures.items in
    record { levels = r.0; components = all_more c.levels.components.items c.push-in-Some-2.new.self.items c.in-Some-next.entry.component.now path c.levels.invariant.components (next_component S c.level_at.ensures.store c.levels.levels.items c.pop.new.self.items c.in-Some.level c.next.new.self (entry_value c.in-Some-next.entry) c.in-Some.ensures.items c.in-Some-next.ensures.entry c.in-Some-next.ensures.rest c.levels.invariant.levels); same = r.1 ∙ c.levels.invariant.same }

pub returns : goal.returns
returns c =
    let S = c.args.store.now in
    let items : c.push.new.self.items ≡ [] ++ c.level_at.result ∷ [] = c.in_ok-push.ensures.items ∙ ap (λ (ls : List Level). ls ++ c.level_at.result ∷ []) c.new-levels.ensures.items in
    let root = first_level S c.level_at.ensures.store c.args.a.now.0 c.args.b.now.0 c.level_at.result c.requires.first c.requires.second c.level_at.ensures.left c.level_at.ensures.right c.push.new.self.items items in
    let whole = ap (clash_left S c.push.new.self.items) c.new-components.ensures.items ∙ root.1 in
    let n : length c.levels.levels.items ≡ 0 = omega (arith, c.in_default.ensures.cases.0) in
    sym (sym whole ∙ sym c.levels.invariant.same ∙ ap (λ (ls : List Level). clash_left S ls c.levels.components.items) (no_levels c.levels.levels.items n))

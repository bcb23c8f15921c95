use Rattle.std.proofs.Common.{◌≡◌, true, List, [], ◌∷◌, ◌++◌, reverse, Option, Some, None, refl, sym, ap, subst, ◌∙◌}
use Rattle.std.proofs.lemmas.List.{reverse-reverse}
use Rattle.std.specs.Option.{is_some}
use Rattle.git_objects.specs.Paths.{Path}
use Rattle.git_objects.specs.Trees.{rests}
use Rattle.git_objects.specs.declared.entry.Entry.{Entry}
use Rattle.path_trees.specs.Standing.{node}
use Rattle.path_trees.specs.Walked.{IsStep, behind, left_in, placed_leaf, walked}
use Rattle.path_trees.specs.declared.found.Leaf.{Leaf as FoundLeaf}
use Rattle.path_trees.proofs.Apart.{rests_full}
use Rattle.path_trees.proofs.FirstPaths.{step_path, some_step}
use Rattle.path_trees.proofs.Walks.{first_level, listed_good, tree_held, dir_rests}
use Rattle.path_trees.proofs.clash.first_path.Goals as goal

pub next_leaf-requires-clause-levels : goal.next_leaf-requires-clause-levels
next_leaf-requires-clause-levels c =
    let S = c.args.store.now in
    let held = tree_held S c.args.found.now.mode c.args.found.now.name.0 (sym c.if-not-is_dir.ensures) c.requires.held in
    let g = listed_good S c.args.found.now.name.0 c.entries_at.result c.entries_at.ensures.store held c.entries_at.ensures.listed in
    let items : c.push.new.self.items ≡ [] ++ c.entries_at.result ∷ [] = c.in_ok-push.ensures.items ∙ ap (λ (ls : List (List Entry)). ls ++ c.entries_at.result ∷ []) c.new-levels.ensures.items in
    first_level S c.entries_at.result c.push.new.self.items items g.0

pub unreachable-requires : goal.unreachable-requires
unreachable-requires c =
    let S = c.args.store.now in
    let held = tree_held S c.args.found.now.mode c.args.found.now.name.0 (sym c.if-not-is_dir.ensures) c.requires.held in
    let g = listed_good S c.args.found.now.name.0 c.entries_at.result c.entries_at.ensures.store held c.entries_at.ensures.listed in
    let items : c.push.new.self.items ≡ [] ++ c.entries_at.result ∷ [] = c.in_ok-push.ensures.items ∙ ap (λ (ls : List (List Entry)). ls ++ c.entries_at.result ∷ []) c.new-levels.ensures.items in
    let t = rests (node S c.args.found.now) in
    let l = left_in S (reverse c.push.new.self.items) (reverse c.args.components.items) in
    let same : l ≡ behind c.args.components.items t ++ [] =
    ap (λ (ls : List (List Entry)). left_in S (reverse ls) (reverse c.args.components.items)) items
    ∙ (λ i. behind (reverse-reverse c.args.components.items i) ((sym g.1 ∙ sym (dir_rests S c.args.found.now.mode c.args.found.now.name.0 (sym c.if-not-is_dir.ensures))) i) ++ []) in
    some_step c.args.components.items t l (walked S c.next_leaf.new.levels.items None) same (rests_full S c.entries_at.ensures.store c.args.found.now.mode c.args.found.now.name.0 c.requires.held)
    (subst (λ (o : Option (Path × FoundLeaf)). IsStep l (is_some o) (walked S c.next_leaf.new.levels.items o)) c.in-None.is c.in_ok-path.ensures.leaf)

pub returns : goal.returns
returns c =
    let S = c.args.store.now in
    let held = tree_held S c.args.found.now.mode c.args.found.now.name.0 (sym c.if-not-is_dir.ensures) c.requires.held in
    let g = listed_good S c.args.found.now.name.0 c.entries_at.result c.entries_at.ensures.store held c.entries_at.ensures.listed in
    let items : c.push.new.self.items ≡ [] ++ c.entries_at.result ∷ [] = c.in_ok-push.ensures.items ∙ ap (λ (ls : List (List Entry)). ls ++ c.entries_at.result ∷ []) c.new-levels.ensures.items in
    let t = rests (node S c.args.found.now) in
    let l = left_in S (reverse c.push.new.self.items) (reverse c.args.components.items) in
    let same : l ≡ behind c.args.components.items t ++ [] =
    ap (λ (ls : List (List Entry)). left_in S (reverse ls) (reverse c.args.components.items)) items
    ∙ (λ i. behind (reverse-reverse c.args.components.items i) ((sym g.1 ∙ sym (dir_rests S c.args.found.now.mode c.args.found.now.name.0 (sym c.if-not-is_dir.ensures))) i) ++ []) in
    step_path c.args.components.items t l (placed_leaf S (c.in-Some.path, c.in-Some.field-0-1)) true (walked S c.next_leaf.new.levels.items (Some (c.in-Some.path, c.in-Some.field-0-1))) same refl
    (subst (λ (o : Option (Path × FoundLeaf)). IsStep l (is_some o) (walked S c.next_leaf.new.levels.items o)) c.in-Some.is c.in_ok-path.ensures.leaf)

use Rattle.std.proofs.Common.{◌≡◌, List, [], ◌∷◌, ◌++◌, None, sym, ap, ◌∙◌}
use Rattle.git_objects.specs.declared.entry.Entry.{Entry}
use Rattle.git_objects.specs.Trees.{Flat}
use Rattle.path_trees.specs.Walked.{Walked}
use Rattle.path_trees.proofs.Walks.{first_level, first_left, listed_good}
use Rattle.path_trees.proofs.walk.Walk.new.Goals as goal

pub invariant_of-result : goal.invariant_of-result
invariant_of-result c =
    let S = c.args.store.now in
    let g = listed_good S c.args.root.0 c.entries_at.result c.entries_at.ensures.store c.requires c.entries_at.ensures.listed in
    let items : c.push.new.self.items ≡ [] ++ c.entries_at.result ∷ [] = c.in_ok-push.ensures.items ∙ ap (λ (ls : List (List Entry)). ls ++ c.entries_at.result ∷ []) c.new-levels.ensures.items in
    record { open_levels = first_level S c.entries_at.result c.push.new.self.items items g.0; held_leaf = tt }

pub returns : goal.returns
returns c =
    let S = c.args.store.now in
    let g = listed_good S c.args.root.0 c.entries_at.result c.entries_at.ensures.store c.requires c.entries_at.ensures.listed in
    let items : c.push.new.self.items ≡ [] ++ c.entries_at.result ∷ [] = c.in_ok-push.ensures.items ∙ ap (λ (ls : List (List Entry)). ls ++ c.entries_at.result ∷ []) c.new-levels.ensures.items in
    ap (λ (t : Flat). let w : Walked = record { current = None; left = t } in w) (first_left S c.entries_at.result c.push.new.self.items items ∙ sym g.1)

use Rattle.std.proofs.Common.{◌∙◌, ◌++◌, ◌∷◌, [], List, Option, ap, subst}
use Rattle.incremental_export.specs.Compared.{IsPairDone}
use Rattle.incremental_export.specs.declared.compare.Level.{Level}
use Rattle.incremental_export.proofs.ComparedLevels.{begun, closed, entered, held_pair, passed}
use Rattle.incremental_export.proofs.compare.tree_changes.Goals as goal

pub levels-init : goal.levels-init
levels-init c =
    begun c.args.store.now c.level_at.ensures.store c.args.from c.args.to.now.0 c.level_at.result c.requires.from c.requires.to c.level_at.ensures.left c.level_at.ensures.right
    c.push.new.self.items c.new-front.result.items c.new-changes.result
    (c.in_ok-push.ensures.items ∙ ap (λ (ls : List Level). ls ++ c.level_at.result ∷ []) c.new-levels.ensures.items)
    c.level_at.ensures.front c.new-front.ensures.items c.new-changes.ensures.deleted c.new-changes.ensures.put

-- ---- both directories are read to their ends

pub levels-preserved-in_default-next_pair : goal.levels-preserved-in_default-next_pair
levels-preserved-in_default-next_pair c =
    (closed c.level_at.ensures.store c.pop.new.self.items c.in-Some.level c.levels.invariant c.in-Some.ensures.items c.truncate.ensures.items c.pass_same.new.self c.pass_same.new.other c.pass_same.ensures.same
    c.in_default-next_pair.ensures.pair).0

-- ---- a pair

pub add_pair-requires-clause-held : goal.add_pair-requires-clause-held
add_pair-requires-clause-held c =
    held_pair c.level_at.ensures.store c.pop.new.self.items c.in-Some.level c.levels.invariant c.in-Some.ensures.items c.truncate.ensures.items c.pass_same.new.self c.pass_same.new.other c.pass_same.ensures.same
    c.in-Some-next_pair.pair c.next_pair.new.left c.next_pair.new.right c.in-Some-next_pair.ensures.pair c.in-Some-next_pair.ensures.rest c.pass_same.ensures.apart

-- that gives its changes

pub levels-preserved-in_default-2 : goal.levels-preserved-in_default-2
levels-preserved-in_default-2 c =
    let found = subst (λ (o : Option Level). IsPairDone c.args.store.now c.in-Some-next_pair.pair c.truncate.new.self.items c.add_pair.new.front.items o c.levels.changes c.add_pair.new.self) c.in_default-2.is c.in_ok-level.ensures in
    (passed c.level_at.ensures.store c.pop.new.self.items c.in-Some.level c.levels.invariant c.in-Some.ensures.items c.truncate.ensures.items c.pass_same.new.self c.pass_same.new.other c.pass_same.ensures.same
    c.in-Some-next_pair.pair c.next_pair.new.left c.next_pair.new.right c.in-Some-next_pair.ensures.pair c.in-Some-next_pair.ensures.rest c.push-in-Some.new.self.items c.add_pair.new.front.items c.add_pair.new.self c.in_ok-push-2.ensures.items found).0

pub levels-smaller-in_default-2 : goal.levels-smaller-in_default-2
levels-smaller-in_default-2 c =
    let found = subst (λ (o : Option Level). IsPairDone c.args.store.now c.in-Some-next_pair.pair c.truncate.new.self.items c.add_pair.new.front.items o c.levels.changes c.add_pair.new.self) c.in_default-2.is c.in_ok-level.ensures in
    (passed c.level_at.ensures.store c.pop.new.self.items c.in-Some.level c.levels.invariant c.in-Some.ensures.items c.truncate.ensures.items c.pass_same.new.self c.pass_same.new.other c.pass_same.ensures.same
    c.in-Some-next_pair.pair c.next_pair.new.left c.next_pair.new.right c.in-Some-next_pair.ensures.pair c.in-Some-next_pair.ensures.rest c.push-in-Some.new.self.items c.add_pair.new.front.items c.add_pair.new.self c.in_ok-push-2.ensures.items found).1

-- or of two directories

pub levels-preserved : goal.levels-preserved
levels-preserved c =
    let found = subst (λ (o : Option Level). IsPairDone c.args.store.now c.in-Some-next_pair.pair c.truncate.new.self.items c.add_pair.new.front.items o c.levels.changes c.add_pair.new.self) c.in-Some-2.is c.in_ok-level.ensures in
    (entered c.level_at.ensures.store c.pop.new.self.items c.in-Some.level c.levels.invariant c.in-Some.ensures.items c.truncate.ensures.items c.pass_same.new.self c.pass_same.new.other c.pass_same.ensures.same
    c.in-Some-next_pair.pair c.next_pair.new.left c.next_pair.new.right c.in-Some-next_pair.ensures.pair c.in-Some-next_pair.ensures.rest c.pass_same.ensures.apart c.add_pair.new.front.items c.in-Some-2.level c.add_pair.new.self found
    c.push-in-Some.new.self.items c.push-in-Some-2.new.self.items c.in_ok-push-2.ensures.items c.in_ok-push-3.ensures.items).0

pub levels-smaller : goal.levels-smaller
levels-smaller c =
    let found = subst (λ (o : Option Level). IsPairDone c.args.store.now c.in-Some-next_pair.pair c.truncate.new.self.items c.add_pair.new.front.items o c.levels.changes c.add_pair.new.self) c.in-Some-2.is c.in_ok-level.ensures in
    (entered c.level_at.ensures.store c.pop.new.self.items c.in-Some.level c.levels.invariant c.in-Some.ensures.items c.truncate.ensures.items c.pass_same.new.self c.pass_same.new.other c.pass_same.ensures.same
    c.in-Some-next_pair.pair c.next_pair.new.left c.next_pair.new.right c.in-Some-next_pair.ensures.pair c.in-Some-next_pair.ensures.rest c.pass_same.ensures.apart c.add_pair.new.front.items c.in-Some-2.level c.add_pair.new.self found
    c.push-in-Some.new.self.items c.push-in-Some-2.new.self.items c.in_ok-push-2.ensures.items c.in_ok-push-3.ensures.items).1

use Rattle.std.proofs.Common.{◌⊎◌, subst}
use Rattle.object_store.specs.Unfolding.{flat}
use Rattle.path_trees.specs.Clashes.{IsShared}
use Rattle.path_trees.specs.Made.{IsTreeFault}
use Rattle.filter_unapply.specs.Hands.{IsIn, IsMadeOf}
use Rattle.path_trees.proofs.MadeObjects.{clash-by, grown-by}
use Rattle.filter_unapply.proofs.PartLists.{none-clash, pair-leaves, shared-made}
use Rattle.filter_unapply.proofs.Told.{is_tree}
use Rattle.filter_unapply.proofs.parts.pair.Goals as goal

pub returns-in-Ok-clause-ok : goal.returns-in-Ok-clause-ok
returns-in-Ok-clause-ok c =
    let S = c.args.store.now in
    let a = flat S c.args.a.0 in
    let b = flat S c.args.b.0 in
    let h = is_tree S c.store_law.ensures.store c.args.a.0 c.requires.first in
    let g = is_tree S c.store_law.ensures.store c.args.b.0 c.requires.second in
    let none = none-clash c.in_ok-first_clash.field-0 a b c.in_ok-first_clash.ensures c.if-is_some.ensures in
    pair-leaves a b h g none c.join_apart.new.store c.in-Ok.name.0 c.in-Ok.ensures.ok

pub returns-in-Ok-clause-store : goal.returns-in-Ok-clause-store
returns-in-Ok-clause-store c =
    let S = c.args.store.now in
    let a = flat S c.args.a.0 in
    let b = flat S c.args.b.0 in
    let h = is_tree S c.store_law.ensures.store c.args.a.0 c.requires.first in
    let g = is_tree S c.store_law.ensures.store c.args.b.0 c.requires.second in
    let none = none-clash c.in_ok-first_clash.field-0 a b c.in_ok-first_clash.ensures c.if-is_some.ensures in
    grown-by (IsShared a b) (IsMadeOf (λ p x. IsIn a p x ⊎ IsIn b p x)) (shared-made a b h g none) S c.join_apart.new.store c.join_apart.ensures.store

pub returns-in-Err-Collision-clause-err : goal.returns-in-Err-Collision-clause-err
returns-in-Err-Collision-clause-err c =
    let S = c.args.store.now in
    let a = flat S c.args.a.0 in
    let b = flat S c.args.b.0 in
    let h = is_tree S c.store_law.ensures.store c.args.a.0 c.requires.first in
    let g = is_tree S c.store_law.ensures.store c.args.b.0 c.requires.second in
    let none = none-clash c.in_ok-first_clash.field-0 a b c.in_ok-first_clash.ensures c.if-is_some.ensures in
    clash-by (IsShared a b) (IsMadeOf (λ p x. IsIn a p x ⊎ IsIn b p x)) (shared-made a b h g none) c.join_apart.new.store c.in-Err-Collision.name.0 (subst (IsTreeFault (IsShared a b) c.join_apart.new.store) c.in-Err-Collision.field-0-is c.in-Err-Collision.ensures.err)

pub returns-in-Err-Collision-clause-store : goal.returns-in-Err-Collision-clause-store
returns-in-Err-Collision-clause-store c =
    let S = c.args.store.now in
    let a = flat S c.args.a.0 in
    let b = flat S c.args.b.0 in
    let h = is_tree S c.store_law.ensures.store c.args.a.0 c.requires.first in
    let g = is_tree S c.store_law.ensures.store c.args.b.0 c.requires.second in
    let none = none-clash c.in_ok-first_clash.field-0 a b c.in_ok-first_clash.ensures c.if-is_some.ensures in
    grown-by (IsShared a b) (IsMadeOf (λ p x. IsIn a p x ⊎ IsIn b p x)) (shared-made a b h g none) S c.join_apart.new.store c.join_apart.ensures.store

pub returns-in-Err-OutOfMemory-clause-store : goal.returns-in-Err-OutOfMemory-clause-store
returns-in-Err-OutOfMemory-clause-store c =
    let S = c.args.store.now in
    let a = flat S c.args.a.0 in
    let b = flat S c.args.b.0 in
    let h = is_tree S c.store_law.ensures.store c.args.a.0 c.requires.first in
    let g = is_tree S c.store_law.ensures.store c.args.b.0 c.requires.second in
    let none = none-clash c.in_ok-first_clash.field-0 a b c.in_ok-first_clash.ensures c.if-is_some.ensures in
    grown-by (IsShared a b) (IsMadeOf (λ p x. IsIn a p x ⊎ IsIn b p x)) (shared-made a b h g none) S c.join_apart.new.store c.join_apart.ensures.store

pub join_apart-requires-clause-apart : goal.join_apart-requires-clause-apart
join_apart-requires-clause-apart c =
    let S = c.args.store.now in
    none-clash c.in_ok-first_clash.field-0 (flat S c.args.a.0) (flat S c.args.b.0) c.in_ok-first_clash.ensures c.if-is_some.ensures

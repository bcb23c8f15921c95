use Rattle.std.proofs.Common.{◌≡◌, List, [], ◌∷◌, ◌++◌, length, get_or, Some, sym, ap, ◌∙◌, subst, arith}
use Rattle.std.specs.Prelude.{slice_get}
use Rattle.object_store.specs.Unfolding.{flat}
use Rattle.object_store.proofs.Unfolding.{flat_good}
use Rattle.path_trees.specs.declared.join.Shared.{Shared}
use Rattle.path_trees.proofs.Placed.{AreOpened, none_opened, got, this_placed, one_opened, less_pending, all_opened}
use Rattle.path_trees.proofs.join.shared_directories.Goals as goal

pub directories-init : goal.directories-init
directories-init c =
    let S = c.args.store.now in
    let root : Shared = record { left = c.args.a; right = c.args.b } in
    let items : c.push.new.self.items ≡ root ∷ [] = c.in_ok-push.ensures.items ∙ ap (λ (x : List Shared). x ++ root ∷ []) c.new-directories.ensures.items in
    subst (λ (x : List Shared). AreOpened S (flat S c.args.a.0) (flat S c.args.b.0) root x c.new-firsts.result.items) (sym items)
    (rw c.new-firsts.ensures.items (none_opened S (flat S c.args.a.0) (flat S c.args.b.0) root c.requires))

pub add_shared-requires-clause-left : goal.add_shared-requires-clause-left
add_shared-requires-clause-left c =
    let S = c.args.store.now in
    let s = c.store_law.ensures.store in
    let root : Shared = record { left = c.args.a; right = c.args.b } in
    let same : c.len-in-directories-2.result ≡ length c.directories.firsts.items = omega arith in
    let this : slice_get c.directories.directories.items (length c.directories.firsts.items) ≡ Some c.index.result.now =
    got c.directories.directories.items (length c.directories.firsts.items) c.index.result.now (omega arith) (c.index.ensures ∙ ap (λ k. get_or c.directories.directories.items k c.index.result.now) same) in
    (this_placed S s (flat S c.args.a.0) (flat S c.args.b.0) (flat_good S s c.args.a.0 c.requires.left.held).tree (flat_good S s c.args.b.0 c.requires.right.held).tree root c.directories.directories.items c.directories.firsts.items c.directories.invariant c.index.result.now this).left.held

pub add_shared-requires-clause-right : goal.add_shared-requires-clause-right
add_shared-requires-clause-right c =
    let S = c.args.store.now in
    let s = c.store_law.ensures.store in
    let root : Shared = record { left = c.args.a; right = c.args.b } in
    let same : c.len-in-directories-2.result ≡ length c.directories.firsts.items = omega arith in
    let this : slice_get c.directories.directories.items (length c.directories.firsts.items) ≡ Some c.index.result.now =
    got c.directories.directories.items (length c.directories.firsts.items) c.index.result.now (omega arith) (c.index.ensures ∙ ap (λ k. get_or c.directories.directories.items k c.index.result.now) same) in
    (this_placed S s (flat S c.args.a.0) (flat S c.args.b.0) (flat_good S s c.args.a.0 c.requires.left.held).tree (flat_good S s c.args.b.0 c.requires.right.held).tree root c.directories.directories.items c.directories.firsts.items c.directories.invariant c.index.result.now this).right.held

pub directories-smaller : goal.directories-smaller
directories-smaller c =
    let S = c.args.store.now in
    let s = c.store_law.ensures.store in
    let root : Shared = record { left = c.args.a; right = c.args.b } in
    let same : c.len-in-directories-2.result ≡ length c.directories.firsts.items = omega arith in
    let this : slice_get c.directories.directories.items (length c.directories.firsts.items) ≡ Some c.index.result.now =
    got c.directories.directories.items (length c.directories.firsts.items) c.index.result.now (omega arith) (c.index.ensures ∙ ap (λ k. get_or c.directories.directories.items k c.index.result.now) same) in
    less_pending S s (flat S c.args.a.0) (flat S c.args.b.0) (flat_good S s c.args.a.0 c.requires.left.held).tree (flat_good S s c.args.b.0 c.requires.right.held).tree root c.directories.directories.items c.directories.firsts.items c.directories.invariant c.index.result.now this
    c.add_shared.new.directories.items c.push-in-directories.new.self.items c.in_ok-add_shared.ensures (c.in_ok-push-2.ensures.items ∙ (let last : c.len-in-directories-3.result ≡ length c.directories.directories.items = omega arith in λ i. c.directories.firsts.items ++ last i ∷ []))

pub directories-preserved : goal.directories-preserved
directories-preserved c =
    let S = c.args.store.now in
    let s = c.store_law.ensures.store in
    let root : Shared = record { left = c.args.a; right = c.args.b } in
    let same : c.len-in-directories-2.result ≡ length c.directories.firsts.items = omega arith in
    let this : slice_get c.directories.directories.items (length c.directories.firsts.items) ≡ Some c.index.result.now =
    got c.directories.directories.items (length c.directories.firsts.items) c.index.result.now (omega arith) (c.index.ensures ∙ ap (λ k. get_or c.directories.directories.items k c.index.result.now) same) in
    one_opened S s (flat S c.args.a.0) (flat S c.args.b.0) (flat_good S s c.args.a.0 c.requires.left.held).tree (flat_good S s c.args.b.0 c.requires.right.held).tree root c.directories.directories.items c.directories.firsts.items c.directories.invariant c.index.result.now this
    c.add_shared.new.directories.items c.push-in-directories.new.self.items c.in_ok-add_shared.ensures (c.in_ok-push-2.ensures.items ∙ (let last : c.len-in-directories-3.result ≡ length c.directories.directories.items = omega arith in λ i. c.directories.firsts.items ++ last i ∷ []))

pub returns-clause-all : goal.returns-clause-all
returns-clause-all c =
    let S = c.args.store.now in
    all_opened S (flat S c.args.a.0) (flat S c.args.b.0) (record { left = c.args.a; right = c.args.b }) c.directories.directories.items c.directories.firsts.items c.directories.invariant (omega arith)

use Rattle.std.proofs.Common.{◌∙◌, ap, sym, subst}
use Rattle.git_objects.specs.Paths.{Path}
use Rattle.git_objects.specs.Trees.{TreeNode, put}
use Rattle.object_store.specs.Unfolding.{flat}
use Rattle.filter_unapply.specs.Laying.{laid_through, Blocked}
use Rattle.filter_unapply.specs.Laying.{below}
use Rattle.filter_unapply.specs.Stored.{IsLeafInWay}
use Rattle.filter_unapply.proofs.Places.{laid_put}
use Rattle.filter_unapply.proofs.Told.{told_tree, told_grown, told_err, is_tree, has_directory, first_in_way}
use Rattle.filter_unapply.proofs.below.replaced.Goals as goal

pub returns-in-Some-clause-err : goal.returns-in-Some-clause-err
returns-in-Some-clause-err c =
    let S = c.args.store.now in
    first_in_way c.args.place.now (flat S c.args.base.0) (flat S c.args.pushed.0) c.args.first.now c.in-Some.by c.leaf_in_way.ensures.path
    (is_tree S c.store_law.ensures.store c.args.base.0 c.requires.base) (is_tree S c.store_law.ensures.store c.args.pushed.0 c.requires.pushed) c.requires.first
    (subst (IsLeafInWay (flat S c.args.base.0) c.args.place.now) c.in-Some.is c.in_ok-by.ensures.leaf)
    ∙ ap (λ (r : Path). Blocked r c.in-Some.by) (sym c.in_ok-path.ensures)

pub put_at-requires-clause-found : goal.put_at-requires-clause-found
put_at-requires-clause-found c = let S = c.args.store.now in has_directory S c.store_law.ensures.store c.args.pushed.0 c.requires.pushed c.args.first.now c.requires.first

pub returns-in_err-put_at-clause-err : goal.returns-in_err-put_at-clause-err
returns-in_err-put_at-clause-err c =
    let S = c.args.store.now in
    let t = flat S c.args.base.0 in
    let n = flat S c.args.pushed.0 in
    let way = subst (IsLeafInWay t c.args.place.now) c.in_default.is c.in_ok-by.ensures.leaf in
    told_err (laid_through (below c.args.place.now) t n) c.args.place.now (put t c.args.place.now (TreeNode n))
    (laid_put c.args.place.now t n c.leaf_in_way.ensures.path (is_tree S c.store_law.ensures.store c.args.base.0 c.requires.base) (is_tree S c.store_law.ensures.store c.args.pushed.0 c.requires.pushed) way)
    c.put_at.new.store c.from_residual-in_err-put_at.result c.in_err-put_at.field-0.0 c.from_residual-in_err-put_at.ensures.1 c.in_err-put_at.ensures.err

pub returns-in_err-put_at-clause-store : goal.returns-in_err-put_at-clause-store
returns-in_err-put_at-clause-store c =
    let S = c.args.store.now in
    let t = flat S c.args.base.0 in
    let n = flat S c.args.pushed.0 in
    let way = subst (IsLeafInWay t c.args.place.now) c.in_default.is c.in_ok-by.ensures.leaf in
    told_grown (laid_through (below c.args.place.now) t n) c.args.place.now (put t c.args.place.now (TreeNode n))
    (laid_put c.args.place.now t n c.leaf_in_way.ensures.path (is_tree S c.store_law.ensures.store c.args.base.0 c.requires.base) (is_tree S c.store_law.ensures.store c.args.pushed.0 c.requires.pushed) way)
    c.put_at.new.store S c.put_at.ensures.store

pub returns-clause-ok : goal.returns-clause-ok
returns-clause-ok c =
    let S = c.args.store.now in
    let t = flat S c.args.base.0 in
    let n = flat S c.args.pushed.0 in
    let way = subst (IsLeafInWay t c.args.place.now) c.in_default.is c.in_ok-by.ensures.leaf in
    told_tree (laid_through (below c.args.place.now) t n) c.args.place.now (put t c.args.place.now (TreeNode n))
    (laid_put c.args.place.now t n c.leaf_in_way.ensures.path (is_tree S c.store_law.ensures.store c.args.base.0 c.requires.base) (is_tree S c.store_law.ensures.store c.args.pushed.0 c.requires.pushed) way)
    c.put_at.new.store c.in_ok-put_at.field-0 c.in_ok-put_at.ensures.ok

pub returns-clause-store : goal.returns-clause-store
returns-clause-store c =
    let S = c.args.store.now in
    let t = flat S c.args.base.0 in
    let n = flat S c.args.pushed.0 in
    let way = subst (IsLeafInWay t c.args.place.now) c.in_default.is c.in_ok-by.ensures.leaf in
    told_grown (laid_through (below c.args.place.now) t n) c.args.place.now (put t c.args.place.now (TreeNode n))
    (laid_put c.args.place.now t n c.leaf_in_way.ensures.path (is_tree S c.store_law.ensures.store c.args.base.0 c.requires.base) (is_tree S c.store_law.ensures.store c.args.pushed.0 c.requires.pushed) way)
    c.put_at.new.store S c.put_at.ensures.store

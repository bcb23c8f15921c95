use Rattle.std.proofs.Common.{◌≡◌, Some, subst, sym, ap, ◌∙◌, append-nil}
use Rattle.git_objects.specs.Paths.{is_path}
use Rattle.git_objects.specs.Trees.{put}
use Rattle.object_store.specs.Unfolding.{flat}
use Rattle.path_trees.specs.Made.{IsOnWay}
use Rattle.path_trees.specs.Standing.{node}
use Rattle.filter_unapply.specs.Hands.{IsMadeOf}
use Rattle.filter_unapply.specs.Moved.{IsHeldAt, moved}
use Rattle.filter_unapply.proofs.Fittings.{leaves-of}
use Rattle.path_trees.proofs.MadeObjects.{grown-by}
use Rattle.filter_unapply.proofs.MadeTrees.{err-by}
use Rattle.filter_unapply.proofs.Moves.{full-name, names-differ, put-leaves, put-made}
use Rattle.filter_unapply.proofs.moving.moved.Goals as goal

pub held_at-requires-clause-full : goal.held_at-requires-clause-full
held_at-requires-clause-full c =
    full-name c.args.store.now c.store_law.ensures.store c.args.part.0 c.args.none.0 c.requires.part c.requires.none (names-differ c.args.part.0 c.args.none.0 c.if-eq.ensures)

pub returns-in_err-put_at-clause-err : goal.returns-in_err-put_at-clause-err
returns-in_err-put_at-clause-err c =
    let S = c.args.store.now in
    let n = c.args.part.0 in
    let to = c.args.to.now in
    let from = c.args.from.now in
    let f = c.in-Some.found in
    let q = c.in_ok-path.path in
    let k : IsHeldAt S (flat S n) c.args.point from (Some f) = subst (IsHeldAt S (flat S n) c.args.point from) c.in-Some.is c.in_ok-found.ensures.found in
    let j = c.in_ok-path.ensures ∙ append-nil to in
    err-by (IsOnWay (put (flat S c.args.none.0) q (node S f)) q) (IsMadeOf (λ p x. moved c.args.point from to (flat S n) p ≡ Some x))
    (put-made S c.store_law.ensures.store n c.requires.part c.args.point from c.requires.within to c.requires.solid f k (flat S c.args.none.0) q c.requires.none.map j (ap is_path (sym c.path.view_is) ∙ c.path.invariant))
    c.put_at.new.store c.from_residual-in_err-put_at.result c.in_err-put_at.field-0.0 c.from_residual-in_err-put_at.ensures.1 c.in_err-put_at.ensures.err

pub returns-in_err-put_at-clause-store : goal.returns-in_err-put_at-clause-store
returns-in_err-put_at-clause-store c =
    let S = c.args.store.now in
    let n = c.args.part.0 in
    let to = c.args.to.now in
    let from = c.args.from.now in
    let f = c.in-Some.found in
    let q = c.in_ok-path.path in
    let k : IsHeldAt S (flat S n) c.args.point from (Some f) = subst (IsHeldAt S (flat S n) c.args.point from) c.in-Some.is c.in_ok-found.ensures.found in
    let j = c.in_ok-path.ensures ∙ append-nil to in
    grown-by (IsOnWay (put (flat S c.args.none.0) q (node S f)) q) (IsMadeOf (λ p x. moved c.args.point from to (flat S n) p ≡ Some x))
    (put-made S c.store_law.ensures.store n c.requires.part c.args.point from c.requires.within to c.requires.solid f k (flat S c.args.none.0) q c.requires.none.map j (ap is_path (sym c.path.view_is) ∙ c.path.invariant))
    S c.put_at.new.store c.put_at.ensures.store

pub returns-clause-ok : goal.returns-clause-ok
returns-clause-ok c =
    let S = c.args.store.now in
    let n = c.args.part.0 in
    let to = c.args.to.now in
    let from = c.args.from.now in
    let f = c.in-Some.found in
    let q = c.in_ok-path.path in
    let k : IsHeldAt S (flat S n) c.args.point from (Some f) = subst (IsHeldAt S (flat S n) c.args.point from) c.in-Some.is c.in_ok-found.ensures.found in
    let j = c.in_ok-path.ensures ∙ append-nil to in
    leaves-of c.put_at.new.store c.in_ok-put_at.field-0.0 (put (flat S c.args.none.0) q (node S f)) (moved c.args.point from to (flat S n)) c.in_ok-put_at.ensures.ok
    (put-leaves S c.store_law.ensures.store n c.requires.part c.args.point from c.requires.within to c.requires.solid f k (flat S c.args.none.0) q c.requires.none.map j)

pub returns-clause-store : goal.returns-clause-store
returns-clause-store c =
    let S = c.args.store.now in
    let n = c.args.part.0 in
    let to = c.args.to.now in
    let from = c.args.from.now in
    let f = c.in-Some.found in
    let q = c.in_ok-path.path in
    let k : IsHeldAt S (flat S n) c.args.point from (Some f) = subst (IsHeldAt S (flat S n) c.args.point from) c.in-Some.is c.in_ok-found.ensures.found in
    let j = c.in_ok-path.ensures ∙ append-nil to in
    grown-by (IsOnWay (put (flat S c.args.none.0) q (node S f)) q) (IsMadeOf (λ p x. moved c.args.point from to (flat S n) p ≡ Some x))
    (put-made S c.store_law.ensures.store n c.requires.part c.args.point from c.requires.within to c.requires.solid f k (flat S c.args.none.0) q c.requires.none.map j (ap is_path (sym c.path.view_is) ∙ c.path.invariant))
    S c.put_at.new.store c.put_at.ensures.store

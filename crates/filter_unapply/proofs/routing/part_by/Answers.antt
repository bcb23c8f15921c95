use Rattle.std.proofs.Common.{◌≡◌, inl, inr, true, [], Some, sym, ap, subst, ◌∙◌}
use Rattle.git_objects.specs.Paths.{Path}
use Rattle.git_objects.specs.Trees.{Flat, at}
use Rattle.object_store.specs.Unfolding.{flat}
use Rattle.object_store.proofs.Growth.{grown_as, grown_then, stands-grown}
use Rattle.decision_lists.specs.Backward.{IsWayBack}
use Rattle.decision_lists.specs.Cells.{cells_at}
use Rattle.decision_lists.specs.Entries.{cone_of}
use Rattle.decision_lists.specs.Operations.{heads}
use Rattle.filter_unapply.specs.Hands.{IsIn, IsMadeOf}
use Rattle.filter_unapply.specs.Moved.{moved}
use Rattle.filter_unapply.specs.Routed.{IsTakenOrIn, taken}
use Rattle.filter_unapply.specs.Sifted.{sifted}
use Rattle.filter_unapply.proofs.Cellwise.{inside-cone, part-leaves}
use Rattle.filter_unapply.proofs.Fittings.{leaves-as}
use Rattle.filter_unapply.proofs.MadeTrees.{err-again, err-as, known-as}
use Rattle.filter_unapply.proofs.routing.part_by.Goals as goal

pub returns-in_err-inside-clause-err : goal.returns-in_err-inside-clause-err
returns-in_err-inside-clause-err c =
    let n = flat c.args.store.now c.args.pushed.0 in
    let known = IsTakenOrIn (cells_at (cone_of c.args.point c.args.base.now) (Some c.args.target.now) (heads c.args.holes.now []) []) n in
    err-again (IsMadeOf (IsIn n)) (IsMadeOf known) (known-as (IsIn n) known (λ p x e. inl e)) c.sifted.new.store
    c.from_residual-in_err-inside.result c.in_err-inside.field-0.0 c.from_residual-in_err-inside.ensures.1 c.in_err-inside.ensures.err

pub returns-in_err-inside-clause-store : goal.returns-in_err-inside-clause-store
returns-in_err-inside-clause-store c =
    let n = flat c.args.store.now c.args.pushed.0 in
    let known = IsTakenOrIn (cells_at (cone_of c.args.point c.args.base.now) (Some c.args.target.now) (heads c.args.holes.now []) []) n in
    grown_as (IsMadeOf (IsIn n)) (IsMadeOf known) c.args.store.now c.sifted.new.store (known-as (IsIn n) known (λ p x e. inl e)) c.sifted.ensures.store

pub moved-requires-clause-none : goal.moved-requires-clause-none
moved-requires-clause-none c = stands-grown c.args.store.now c.sifted.new.store c.args.none.0 [] c.sifted.ensures.store c.requires.none

pub moved-requires-clause-within : goal.moved-requires-clause-within
moved-requires-clause-within c =
    let S = c.args.store.now in
    let R = c.sifted.new.store in
    let b = c.args.point in
    let s = c.args.base.now in
    let t = c.args.target.now in
    let hs = heads c.args.holes.now [] in
    let n = flat S c.args.pushed.0 in
    let w : IsWayBack c.as_slice.result.now (cells_at (cone_of b s) (Some t) hs []) = subst (λ es. IsWayBack es (cells_at (cone_of b s) (Some t) hs [])) (sym c.as_slice.ensures.value) c.in_ok-way.ensures in
    λ p x e. inside-cone b s t hs c.as_slice.result.now w n p x (ap (λ (u : Flat). at u p) (sym c.in_ok-inside.ensures.ok.map) ∙ e)

pub returns-clause-ok : goal.returns-clause-ok
returns-clause-ok c =
    let S = c.args.store.now in
    let R = c.sifted.new.store in
    let b = c.args.point in
    let s = c.args.base.now in
    let t = c.args.target.now in
    let hs = heads c.args.holes.now [] in
    let n = flat S c.args.pushed.0 in
    let w : IsWayBack c.as_slice.result.now (cells_at (cone_of b s) (Some t) hs []) = subst (λ es. IsWayBack es (cells_at (cone_of b s) (Some t) hs [])) (sym c.as_slice.ensures.value) c.in_ok-way.ensures in
    let same : flat R c.in_ok-inside.inside.0 ≡ sifted true c.as_slice.result.now n = c.in_ok-inside.ensures.ok.map in
    let leaves : (p : Path) → moved b t s (flat R c.in_ok-inside.inside.0) p ≡ taken (cells_at (cone_of b s) (Some t) hs []) n p =
    λ p. ap (λ (u : Flat). moved b t s u p) same ∙ part-leaves b s t hs c.as_slice.result.now w n p in
    leaves-as c.moved.new.store c.moved.result (moved b t s (flat R c.in_ok-inside.inside.0)) (taken (cells_at (cone_of b s) (Some t) hs []) n) leaves c.moved.ensures.ok

pub returns-clause-err : goal.returns-clause-err
returns-clause-err c =
    let S = c.args.store.now in
    let R = c.sifted.new.store in
    let b = c.args.point in
    let s = c.args.base.now in
    let t = c.args.target.now in
    let hs = heads c.args.holes.now [] in
    let n = flat S c.args.pushed.0 in
    let w : IsWayBack c.as_slice.result.now (cells_at (cone_of b s) (Some t) hs []) = subst (λ es. IsWayBack es (cells_at (cone_of b s) (Some t) hs [])) (sym c.as_slice.ensures.value) c.in_ok-way.ensures in
    let same : flat R c.in_ok-inside.inside.0 ≡ sifted true c.as_slice.result.now n = c.in_ok-inside.ensures.ok.map in
    let leaves : (p : Path) → moved b t s (flat R c.in_ok-inside.inside.0) p ≡ taken (cells_at (cone_of b s) (Some t) hs []) n p =
    λ p. ap (λ (u : Flat). moved b t s u p) same ∙ part-leaves b s t hs c.as_slice.result.now w n p in
    let more = IsTakenOrIn (cells_at (cone_of b s) (Some t) hs []) n in
    err-as (IsMadeOf (λ p x. moved b t s (flat R c.in_ok-inside.inside.0) p ≡ Some x)) (IsMadeOf more)
    (known-as (λ p x. moved b t s (flat R c.in_ok-inside.inside.0) p ≡ Some x) more (λ p x e. inr (sym (leaves p) ∙ e))) c.moved.new.store c.moved.result c.moved.ensures.err

pub returns-clause-store : goal.returns-clause-store
returns-clause-store c =
    let S = c.args.store.now in
    let R = c.sifted.new.store in
    let b = c.args.point in
    let s = c.args.base.now in
    let t = c.args.target.now in
    let hs = heads c.args.holes.now [] in
    let n = flat S c.args.pushed.0 in
    let w : IsWayBack c.as_slice.result.now (cells_at (cone_of b s) (Some t) hs []) = subst (λ es. IsWayBack es (cells_at (cone_of b s) (Some t) hs [])) (sym c.as_slice.ensures.value) c.in_ok-way.ensures in
    let same : flat R c.in_ok-inside.inside.0 ≡ sifted true c.as_slice.result.now n = c.in_ok-inside.ensures.ok.map in
    let leaves : (p : Path) → moved b t s (flat R c.in_ok-inside.inside.0) p ≡ taken (cells_at (cone_of b s) (Some t) hs []) n p =
    λ p. ap (λ (u : Flat). moved b t s u p) same ∙ part-leaves b s t hs c.as_slice.result.now w n p in
    let more = IsTakenOrIn (cells_at (cone_of b s) (Some t) hs []) n in
    grown_then (IsMadeOf more) S R c.moved.new.store
    (grown_as (IsMadeOf (IsIn n)) (IsMadeOf more) S R (known-as (IsIn n) more (λ p x e. inl e)) c.sifted.ensures.store)
    (grown_as (IsMadeOf (λ p x. moved b t s (flat R c.in_ok-inside.inside.0) p ≡ Some x)) (IsMadeOf more) R c.moved.new.store
    (known-as (λ p x. moved b t s (flat R c.in_ok-inside.inside.0) p ≡ Some x) more (λ p x e. inr (sym (leaves p) ∙ e))) c.moved.ensures.store)

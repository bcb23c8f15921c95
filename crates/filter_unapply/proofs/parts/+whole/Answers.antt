use Rattle.std.proofs.Common.{rules, ◌-◌, ◌/◌, arith, length, take, drop}
use Rattle.object_store.specs.Unfolding.{flat}
use Rattle.filter_unapply.specs.Hands.{IsMadeOf}
use Rattle.filter_unapply.specs.Parts.{IsOfAny}
use Rattle.filter_unapply.proofs.Halves.{Halved, IsOfBothTrees, both-grown, both-made, both-whole, first-held, half-apart, half-grown, half-made, half-near, half-trees, halved, later-apart, later-grown, later-made, later-near, later-trees, none-whole, some-whole}
use Rattle.filter_unapply.proofs.MadeTrees.{err-again, err-as}
use Rattle.filter_unapply.proofs.parts.+whole.Goals as goal

pub whole-requires : goal.whole-requires
whole-requires t c =
    let S = c.args.store.now in
    let all = c.args.parts.now in
    let m = length all / 2 in
    let h : Halved all m = halved all m (omega (arith, c.requires.some, c.if-parts-eq1.false)) (omega (arith, c.requires.some, c.if-parts-eq1.false)) in
    let less = h.less in
    (search rules, (h.some, (half-trees S all (take m all) (take (length all - m) (drop m all)) h.split c.requires.parts c.requires.apart, half-apart S all (take m all) (take (length all - m) (drop m all)) h.split c.requires.parts c.requires.apart)))

pub returns-in_err-left-clause-err : goal.returns-in_err-left-clause-err
returns-in_err-left-clause-err t c =
    let S = c.args.store.now in
    let all = c.args.parts.now in
    let m = length all / 2 in
    let h : Halved all m = halved all m (omega (arith, c.requires.some, c.if-parts-eq1.false)) (omega (arith, c.requires.some, c.if-parts-eq1.false)) in
    err-again (IsMadeOf (IsOfAny S (take m all))) (IsMadeOf (IsOfAny S all)) (half-made S all (take m all) (take (length all - m) (drop m all)) h.split c.requires.parts c.requires.apart) c.whole.new.store
    c.from_residual.result c.in_err-left.field-0.0 c.from_residual.ensures.1 c.in_err-left.ensures.err

pub returns-in_err-left-clause-store : goal.returns-in_err-left-clause-store
returns-in_err-left-clause-store t c =
    let S = c.args.store.now in
    let all = c.args.parts.now in
    let m = length all / 2 in
    let h : Halved all m = halved all m (omega (arith, c.requires.some, c.if-parts-eq1.false)) (omega (arith, c.requires.some, c.if-parts-eq1.false)) in
    half-grown S all (take m all) (take (length all - m) (drop m all)) h.split c.requires.parts c.requires.apart c.whole.new.store c.in_err-left.ensures.store

pub returns-in_default-clause-ok : goal.returns-in_default-clause-ok
returns-in_default-clause-ok t c =
    let S = c.args.store.now in
    let all = c.args.parts.now in
    let m = length all / 2 in
    let h : Halved all m = halved all m (omega (arith, c.requires.some, c.if-parts-eq1.false)) (omega (arith, c.requires.some, c.if-parts-eq1.false)) in
    half-near S all (take m all) (take (length all - m) (drop m all)) h.split c.requires.parts c.requires.apart
    (none-whole S (take m all) c.whole.new.store c.in_ok-left.field-0 c.in_default.is c.in_ok-left.ensures.ok)

pub returns-in_default-clause-store : goal.returns-in_default-clause-store
returns-in_default-clause-store t c =
    let S = c.args.store.now in
    let all = c.args.parts.now in
    let m = length all / 2 in
    let h : Halved all m = halved all m (omega (arith, c.requires.some, c.if-parts-eq1.false)) (omega (arith, c.requires.some, c.if-parts-eq1.false)) in
    half-grown S all (take m all) (take (length all - m) (drop m all)) h.split c.requires.parts c.requires.apart c.whole.new.store c.in_ok-left.ensures.store

pub whole-requires-2 : goal.whole-requires-2
whole-requires-2 t c =
    let S = c.args.store.now in
    let all = c.args.parts.now in
    let m = length all / 2 in
    let h : Halved all m = halved all m (omega (arith, c.requires.some, c.if-parts-eq1.false)) (omega (arith, c.requires.some, c.if-parts-eq1.false)) in
    let less = h.less-second in
    (search rules, (h.some-second, (later-trees S all (take m all) (take (length all - m) (drop m all)) h.split c.requires.parts c.requires.apart c.whole.new.store c.in_ok-left.ensures.store, later-apart S all (take m all) (take (length all - m) (drop m all)) h.split c.requires.parts c.requires.apart c.whole.new.store c.in_ok-left.ensures.store)))

pub returns-in_err-right-clause-err : goal.returns-in_err-right-clause-err
returns-in_err-right-clause-err t c =
    let S = c.args.store.now in
    let all = c.args.parts.now in
    let m = length all / 2 in
    let h : Halved all m = halved all m (omega (arith, c.requires.some, c.if-parts-eq1.false)) (omega (arith, c.requires.some, c.if-parts-eq1.false)) in
    err-again (IsMadeOf (IsOfAny c.whole.new.store (take (length all - m) (drop m all)))) (IsMadeOf (IsOfAny S all)) (later-made S all (take m all) (take (length all - m) (drop m all)) h.split c.requires.parts c.requires.apart c.whole.new.store c.in_ok-left.ensures.store) c.whole-2.new.store
    c.from_residual-in_err-right.result c.in_err-right.field-0.0 c.from_residual-in_err-right.ensures.1 c.in_err-right.ensures.err

pub returns-in_err-right-clause-store : goal.returns-in_err-right-clause-store
returns-in_err-right-clause-store t c =
    let S = c.args.store.now in
    let all = c.args.parts.now in
    let m = length all / 2 in
    let h : Halved all m = halved all m (omega (arith, c.requires.some, c.if-parts-eq1.false)) (omega (arith, c.requires.some, c.if-parts-eq1.false)) in
    later-grown S all (take m all) (take (length all - m) (drop m all)) h.split c.requires.parts c.requires.apart c.whole.new.store c.in_ok-left.ensures.store c.whole-2.new.store c.in_err-right.ensures.store

pub returns-in_default-2-clause-ok : goal.returns-in_default-2-clause-ok
returns-in_default-2-clause-ok t c =
    let S = c.args.store.now in
    let all = c.args.parts.now in
    let m = length all / 2 in
    let h : Halved all m = halved all m (omega (arith, c.requires.some, c.if-parts-eq1.false)) (omega (arith, c.requires.some, c.if-parts-eq1.false)) in
    later-near S all (take m all) (take (length all - m) (drop m all)) h.split c.requires.parts c.requires.apart c.whole.new.store c.in_ok-left.ensures.store
    (none-whole c.whole.new.store (take (length all - m) (drop m all)) c.whole-2.new.store c.in_ok-right.field-0 c.in_default-2.is c.in_ok-right.ensures.ok)

pub returns-in_default-2-clause-store : goal.returns-in_default-2-clause-store
returns-in_default-2-clause-store t c =
    let S = c.args.store.now in
    let all = c.args.parts.now in
    let m = length all / 2 in
    let h : Halved all m = halved all m (omega (arith, c.requires.some, c.if-parts-eq1.false)) (omega (arith, c.requires.some, c.if-parts-eq1.false)) in
    later-grown S all (take m all) (take (length all - m) (drop m all)) h.split c.requires.parts c.requires.apart c.whole.new.store c.in_ok-left.ensures.store c.whole-2.new.store c.in_ok-right.ensures.store

pub pair-requires-clause-first : goal.pair-requires-clause-first
pair-requires-clause-first t c =
    let S = c.args.store.now in
    let all = c.args.parts.now in
    let m = length all / 2 in
    let h : Halved all m = halved all m (omega (arith, c.requires.some, c.if-parts-eq1.false)) (omega (arith, c.requires.some, c.if-parts-eq1.false)) in
    first-held S all (take m all) (take (length all - m) (drop m all)) h.split c.requires.parts c.requires.apart c.whole.new.store c.in_ok-left.ensures.store c.whole-2.new.store c.in_ok-right.ensures.store c.in-Some.left.0 c.in-Some-2.right.0
    (some-whole S (take m all) c.whole.new.store c.in_ok-left.field-0 c.in-Some.left c.in-Some.is c.in_ok-left.ensures.ok)
    (some-whole c.whole.new.store (take (length all - m) (drop m all)) c.whole-2.new.store c.in_ok-right.field-0 c.in-Some-2.right c.in-Some-2.is c.in_ok-right.ensures.ok)

pub returns-clause-ok : goal.returns-clause-ok
returns-clause-ok t c =
    let S = c.args.store.now in
    let all = c.args.parts.now in
    let m = length all / 2 in
    let h : Halved all m = halved all m (omega (arith, c.requires.some, c.if-parts-eq1.false)) (omega (arith, c.requires.some, c.if-parts-eq1.false)) in
    both-whole S all (take m all) (take (length all - m) (drop m all)) h.split c.requires.parts c.requires.apart c.whole.new.store c.in_ok-left.ensures.store c.whole-2.new.store c.in_ok-right.ensures.store c.in-Some.left.0 c.in-Some-2.right.0
    (some-whole S (take m all) c.whole.new.store c.in_ok-left.field-0 c.in-Some.left c.in-Some.is c.in_ok-left.ensures.ok)
    (some-whole c.whole.new.store (take (length all - m) (drop m all)) c.whole-2.new.store c.in_ok-right.field-0 c.in-Some-2.right c.in-Some-2.is c.in_ok-right.ensures.ok)
    c.pair.new.store c.pair.result c.pair.ensures.ok

pub returns-clause-err : goal.returns-clause-err
returns-clause-err t c =
    let S = c.args.store.now in
    let all = c.args.parts.now in
    let m = length all / 2 in
    let h : Halved all m = halved all m (omega (arith, c.requires.some, c.if-parts-eq1.false)) (omega (arith, c.requires.some, c.if-parts-eq1.false)) in
    err-as (IsMadeOf (IsOfBothTrees (flat c.whole-2.new.store c.in-Some.left.0) (flat c.whole-2.new.store c.in-Some-2.right.0))) (IsMadeOf (IsOfAny S all))
    (both-made S all (take m all) (take (length all - m) (drop m all)) h.split c.requires.parts c.requires.apart c.whole.new.store c.in_ok-left.ensures.store c.whole-2.new.store c.in_ok-right.ensures.store c.in-Some.left.0 c.in-Some-2.right.0
    (some-whole S (take m all) c.whole.new.store c.in_ok-left.field-0 c.in-Some.left c.in-Some.is c.in_ok-left.ensures.ok)
    (some-whole c.whole.new.store (take (length all - m) (drop m all)) c.whole-2.new.store c.in_ok-right.field-0 c.in-Some-2.right c.in-Some-2.is c.in_ok-right.ensures.ok))
    c.pair.new.store c.pair.result c.pair.ensures.err

pub returns-clause-store : goal.returns-clause-store
returns-clause-store t c =
    let S = c.args.store.now in
    let all = c.args.parts.now in
    let m = length all / 2 in
    let h : Halved all m = halved all m (omega (arith, c.requires.some, c.if-parts-eq1.false)) (omega (arith, c.requires.some, c.if-parts-eq1.false)) in
    both-grown S all (take m all) (take (length all - m) (drop m all)) h.split c.requires.parts c.requires.apart c.whole.new.store c.in_ok-left.ensures.store c.whole-2.new.store c.in_ok-right.ensures.store c.in-Some.left.0 c.in-Some-2.right.0
    (some-whole S (take m all) c.whole.new.store c.in_ok-left.field-0 c.in-Some.left c.in-Some.is c.in_ok-left.ensures.ok)
    (some-whole c.whole.new.store (take (length all - m) (drop m all)) c.whole-2.new.store c.in_ok-right.field-0 c.in-Some-2.right c.in-Some-2.is c.in_ok-right.ensures.ok)
    c.pair.new.store c.pair.ensures.store

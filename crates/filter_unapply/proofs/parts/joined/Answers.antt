use Rattle.std.proofs.Common.{[], ◌∷◌, refl}
use Rattle.object_store.specs.Unfolding.{flat}
use Rattle.object_store.proofs.Growth.{grown_self}
use Rattle.filter_unapply.specs.Hands.{IsMadeOf}
use Rattle.filter_unapply.specs.Parts.{IsAmong, IsOfAny}
use Rattle.filter_unapply.proofs.Halves.{IsOfBothTrees, alone-leaves, both-grown, both-made, both-whole, first-held, later-grown, later-made, later-near, none-whole, some-whole}
use Rattle.filter_unapply.proofs.MadeTrees.{err-again, err-as}
use Rattle.filter_unapply.proofs.parts.joined.Goals as goal

pub returns-in_err-whole-clause-err : goal.returns-in_err-whole-clause-err
returns-in_err-whole-clause-err c =
    let S = c.args.store.now in
    let k = c.args.kept in
    let ns = c.args.parts.now in
    let g = grown_self (IsMadeOf (IsOfAny S (k ∷ []))) S c.store_law.ensures.store in
    err-again (IsMadeOf (IsOfAny S ns)) (IsMadeOf (IsAmong S k ns)) (later-made S (k ∷ ns) (k ∷ []) ns refl (c.requires.kept, c.requires.parts) (c.requires.other, c.requires.apart) S g) c.whole.new.store
    c.from_residual.result c.in_err-whole.field-0.0 c.from_residual.ensures.1 c.in_err-whole.ensures.err

pub returns-in_err-whole-clause-store : goal.returns-in_err-whole-clause-store
returns-in_err-whole-clause-store c =
    let S = c.args.store.now in
    let k = c.args.kept in
    let ns = c.args.parts.now in
    let g = grown_self (IsMadeOf (IsOfAny S (k ∷ []))) S c.store_law.ensures.store in
    later-grown S (k ∷ ns) (k ∷ []) ns refl (c.requires.kept, c.requires.parts) (c.requires.other, c.requires.apart) S g c.whole.new.store c.whole.ensures.store

pub returns-in_default-clause-ok : goal.returns-in_default-clause-ok
returns-in_default-clause-ok c =
    let S = c.args.store.now in
    let k = c.args.kept in
    let ns = c.args.parts.now in
    let g = grown_self (IsMadeOf (IsOfAny S (k ∷ []))) S c.store_law.ensures.store in
    later-near S (k ∷ ns) (k ∷ []) ns refl (c.requires.kept, c.requires.parts) (c.requires.other, c.requires.apart) S g
    (none-whole S ns c.whole.new.store c.in_ok-whole.field-0 c.in_default.is c.in_ok-whole.ensures.ok)

pub returns-in_default-clause-store : goal.returns-in_default-clause-store
returns-in_default-clause-store c =
    let S = c.args.store.now in
    let k = c.args.kept in
    let ns = c.args.parts.now in
    let g = grown_self (IsMadeOf (IsOfAny S (k ∷ []))) S c.store_law.ensures.store in
    later-grown S (k ∷ ns) (k ∷ []) ns refl (c.requires.kept, c.requires.parts) (c.requires.other, c.requires.apart) S g c.whole.new.store c.whole.ensures.store

pub pair-requires-clause-first : goal.pair-requires-clause-first
pair-requires-clause-first c =
    let S = c.args.store.now in
    let k = c.args.kept in
    let ns = c.args.parts.now in
    let R = c.whole.new.store in
    let g = grown_self (IsMadeOf (IsOfAny S (k ∷ []))) S c.store_law.ensures.store in
    first-held S (k ∷ ns) (k ∷ []) ns refl (c.requires.kept, c.requires.parts) (c.requires.other, c.requires.apart) S g R c.whole.ensures.store k.0 c.in-Some.whole.0
    (alone-leaves S k c.requires.kept) (some-whole S ns R c.in_ok-whole.field-0 c.in-Some.whole c.in-Some.is c.in_ok-whole.ensures.ok)

pub returns-clause-ok : goal.returns-clause-ok
returns-clause-ok c =
    let S = c.args.store.now in
    let k = c.args.kept in
    let ns = c.args.parts.now in
    let R = c.whole.new.store in
    let g = grown_self (IsMadeOf (IsOfAny S (k ∷ []))) S c.store_law.ensures.store in
    both-whole S (k ∷ ns) (k ∷ []) ns refl (c.requires.kept, c.requires.parts) (c.requires.other, c.requires.apart) S g R c.whole.ensures.store k.0 c.in-Some.whole.0
    (alone-leaves S k c.requires.kept) (some-whole S ns R c.in_ok-whole.field-0 c.in-Some.whole c.in-Some.is c.in_ok-whole.ensures.ok)
    c.pair.new.store c.pair.result c.pair.ensures.ok

pub returns-clause-err : goal.returns-clause-err
returns-clause-err c =
    let S = c.args.store.now in
    let k = c.args.kept in
    let ns = c.args.parts.now in
    let R = c.whole.new.store in
    let g = grown_self (IsMadeOf (IsOfAny S (k ∷ []))) S c.store_law.ensures.store in
    err-as (IsMadeOf (IsOfBothTrees (flat R k.0) (flat R c.in-Some.whole.0))) (IsMadeOf (IsAmong S k ns))
    (both-made S (k ∷ ns) (k ∷ []) ns refl (c.requires.kept, c.requires.parts) (c.requires.other, c.requires.apart) S g R c.whole.ensures.store k.0 c.in-Some.whole.0
    (alone-leaves S k c.requires.kept) (some-whole S ns R c.in_ok-whole.field-0 c.in-Some.whole c.in-Some.is c.in_ok-whole.ensures.ok))
    c.pair.new.store c.pair.result c.pair.ensures.err

pub returns-clause-store : goal.returns-clause-store
returns-clause-store c =
    let S = c.args.store.now in
    let k = c.args.kept in
    let ns = c.args.parts.now in
    let R = c.whole.new.store in
    let g = grown_self (IsMadeOf (IsOfAny S (k ∷ []))) S c.store_law.ensures.store in
    both-grown S (k ∷ ns) (k ∷ []) ns refl (c.requires.kept, c.requires.parts) (c.requires.other, c.requires.apart) S g R c.whole.ensures.store k.0 c.in-Some.whole.0
    (alone-leaves S k c.requires.kept) (some-whole S ns R c.in_ok-whole.field-0 c.in-Some.whole c.in-Some.is c.in_ok-whole.ensures.ok)
    c.pair.new.store c.pair.ensures.store

use Rattle.std.proofs.Common.{◌≡◌, [], sym, ap, subst, ◌∙◌, append-nil}
use Rattle.object_store.specs.Unfolding.{flat}
use Rattle.decision_lists.specs.Entries.{base, cone_of}
use Rattle.decision_lists.proofs.Locating.{base-cone}
use Rattle.filter_apply.specs.Founds.{IsFoundAt}
use Rattle.filter_unapply.proofs.Moves.{no-component}
use Rattle.filter_unapply.proofs.Stages.{asked-all, asked-back, asked-out, on-as}
use Rattle.filter_unapply.proofs.sifting.with_entry.Goals as goal

pub returns-then-is_empty : goal.returns-then-is_empty
returns-then-is_empty c =
    let S = c.args.store.now in
    let t = flat S c.args.root.0 in
    let e = c.args.entry.now in
    let b = c.entry.inside.point in
    let none : [] ≡ c.entry.inside.base.items = sym (no-component c.as_slice.result.now c.if-is_empty.ensures) ∙ c.as_slice.ensures.value in
    let cone : cone_of b [] ≡ e.0 = ap (cone_of b) none ∙ ap (λ v. v.0) c.entry.view_is in
    on-as _ _ c.with_all.result (λ f u s w. asked-all S c.with_all.new.stage c.args.inside e t u (cone_of b []) cone c.stays-stays.result (sym c.stays-stays.ensures) (f u s w)) c.with_all.ensures

pub put_back-requires-clause-found : goal.put_back-requires-clause-found
put_back-requires-clause-found c =
    let S = c.args.store.now in
    let t = flat S c.args.root.0 in
    let e = c.args.entry.now in
    let b = c.entry.inside.point in
    let q = c.in_ok-path.path in
    let cone : cone_of b q ≡ e.0 = ap (cone_of b) (c.in_ok-path.ensures ∙ append-nil c.as_slice-2.result.now ∙ c.as_slice-2.ensures.value) ∙ ap (λ v. v.0) c.entry.view_is in
    subst (λ p. IsFoundAt S t p c.args.found) (sym (ap base cone) ∙ base-cone b q) c.requires.found

pub taken_out-requires-clause-found : goal.taken_out-requires-clause-found
taken_out-requires-clause-found c =
    let S = c.args.store.now in
    let t = flat S c.args.root.0 in
    let e = c.args.entry.now in
    let b = c.entry.inside.point in
    let q = c.in_ok-path.path in
    let cone : cone_of b q ≡ e.0 = ap (cone_of b) (c.in_ok-path.ensures ∙ append-nil c.as_slice-2.result.now ∙ c.as_slice-2.ensures.value) ∙ ap (λ v. v.0) c.entry.view_is in
    subst (λ p. IsFoundAt S t p c.args.found) (sym (ap base cone) ∙ base-cone b q) c.requires.found

pub returns-then-stays : goal.returns-then-stays
returns-then-stays c =
    let S = c.args.store.now in
    let t = flat S c.args.root.0 in
    let e = c.args.entry.now in
    let b = c.entry.inside.point in
    let q = c.in_ok-path.path in
    let cone : cone_of b q ≡ e.0 = ap (cone_of b) (c.in_ok-path.ensures ∙ append-nil c.as_slice-2.result.now ∙ c.as_slice-2.ensures.value) ∙ ap (λ v. v.0) c.entry.view_is in
    on-as _ _ c.put_back.result (λ f u s w. asked-back S c.put_back.new.stage c.args.inside e t u (cone_of b q) cone (sym c.stays-stays.ensures ∙ c.if-stays.true) (f u s w)) c.put_back.ensures

pub returns : goal.returns
returns c =
    let S = c.args.store.now in
    let t = flat S c.args.root.0 in
    let e = c.args.entry.now in
    let b = c.entry.inside.point in
    let q = c.in_ok-path.path in
    let cone : cone_of b q ≡ e.0 = ap (cone_of b) (c.in_ok-path.ensures ∙ append-nil c.as_slice-2.result.now ∙ c.as_slice-2.ensures.value) ∙ ap (λ v. v.0) c.entry.view_is in
    on-as _ _ c.taken_out.result (λ f u s w. asked-out S c.taken_out.new.stage c.args.inside e t u (cone_of b q) cone (sym c.stays-stays.ensures ∙ c.if-stays.false) (f u s w)) c.taken_out.ensures

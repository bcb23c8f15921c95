use Rattle.std.proofs.Common.{sym, inr, ◌∙◌, inl}
use Rattle.std.proofs.lemmas.Result.{err_from_is_err_and}
use Rattle.stage_tree.proofs.PutFits.{deep_test, in_limits, long_test, too_deep, too_long}
use Rattle.stage_tree.proofs.limits.within.Goals as goal

pub returns-then-not-branch : goal.returns-then-not-branch
returns-then-not-branch c = λ h t n g.
    let p = c.args.to.now in
    record { passed = tt; refused = inr (too_deep p n (sym (deep_test p n) ∙ sym (c.in_ok-put_fits.ensures h t n g) ∙ c.if-not-branch.true)) }

pub returns-then-not-branch-2 : goal.returns-then-not-branch-2
returns-then-not-branch-2 c = λ h t n g.
    let p = c.args.to.now in
    record {
      passed = tt;
      refused = inr (too_long p n (sym (deep_test p n) ∙ sym (c.in_ok-put_fits.ensures h t n g) ∙ c.if-not-branch.false) (sym (long_test p n c.requires.path) ∙ sym (c.in_ok-put_fits-2.ensures h t n g) ∙ c.if-not-branch-2.true));
    }

pub returns : goal.returns
returns c = λ h t n g.
    let p = c.args.to.now in
    record {
      passed = in_limits p n (sym (deep_test p n) ∙ sym (c.in_ok-put_fits.ensures h t n g) ∙ c.if-not-branch.false) (sym (long_test p n c.requires.path) ∙ sym (c.in_ok-put_fits-2.ensures h t n g) ∙ c.if-not-branch-2.false);
      refused = tt;
    }

pub returns-in_err-put_fits : goal.returns-in_err-put_fits
returns-in_err-put_fits c = let p = err_from_is_err_and c.from_residual.result c.from_residual.ensures.1 in rw (p.1) (λ h t n g. record { passed = tt; refused = inl p.2 })

pub returns-in_err-put_fits-2 : goal.returns-in_err-put_fits-2
returns-in_err-put_fits-2 c = let p = err_from_is_err_and c.from_residual-in_err-put_fits-2.result c.from_residual-in_err-put_fits-2.ensures.1 in rw (p.1) (λ h t n g. record { passed = tt; refused = inl p.2 })

pub put_fits-requires-clause-store : goal.put_fits-requires-clause-store
put_fits-requires-clause-store c = c.requires.store

pub put_fits-requires-clause-opened : goal.put_fits-requires-clause-opened
put_fits-requires-clause-opened c = c.requires.opened

pub put_fits-requires-clause-place : goal.put_fits-requires-clause-place
put_fits-requires-clause-place c = c.requires.place

pub put_fits-requires-2-clause-store : goal.put_fits-requires-2-clause-store
put_fits-requires-2-clause-store c = c.requires.store

pub put_fits-requires-2-clause-opened : goal.put_fits-requires-2-clause-opened
put_fits-requires-2-clause-opened c = c.requires.opened

pub put_fits-requires-2-clause-place : goal.put_fits-requires-2-clause-place
put_fits-requires-2-clause-place c = c.requires.place

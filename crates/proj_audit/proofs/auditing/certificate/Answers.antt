use Rattle.std.proofs.Common.{◌≡◌, drop, add-one, sym, subst}
use Rattle.std.specs.Prelude.{ℕ}
use Rattle.proj_audit.specs.Steps.{needed_values}
use Rattle.proj_audit.specs.Texts.{certificate}
use Rattle.proj_audit.proofs.Gathered.{with_rest, one-more, all-written}
use Rattle.proj_audit.proofs.auditing.certificate.Goals as goal

pub loop-needed-preserved : goal.loop-needed-preserved
loop-needed-preserved c =
    let ns = c.args.objects.now in
    let k = c.loop-needed.needed-index in
    subst (λ (i : ℕ). with_rest c.add_object.new.text.items (drop i ns) ≡ certificate (needed_values ns)) (sym (add-one k))
    (one-more ns k c.needed-item.result c.loop-needed.text.items c.add_object.new.text.items
    (certificate (needed_values ns)) c.loop-needed-test.true c.needed-item.is c.in_ok-add_object.ensures c.loop-needed.invariant)

pub returns : goal.returns
returns c =
    let ns = c.args.objects.now in
    all-written ns c.loop-needed.needed-index c.loop-needed.text.items
    (certificate (needed_values ns)) c.loop-needed-test.false c.loop-needed.invariant

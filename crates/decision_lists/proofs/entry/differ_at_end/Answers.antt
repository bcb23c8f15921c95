use Rattle.std.proofs.Common.{◌≡◌, ◌-◌, arith, ap₂, sym, ◌∙◌, Bool, true, false, not, refl, true≢false, length}
use Rattle.git_objects.specs.Paths.{same_bytes}
use Rattle.decision_lists.proofs.ByIndex.{strip-differs}
use Rattle.decision_lists.proofs.entry.differ_at_end.Goals as goal

no-of : (b : Bool) → not b ≡ true → b ≡ false
no-of true e = absurd (true≢false (sym e))
no-of false e = refl

pub returns-then-count-gt0 : goal.returns-then-count-gt0
returns-then-count-gt0 c h =
    let s = c.args.front.now in
    let x = c.index-front-count.result in
    let y = c.index-path-count.result in
    strip-differs s c.args.path.now (length s - 1) x y (omega arith) c.index-front-count.is c.index-path-count.is
    (ap₂ same_bytes (sym c.bytes.ensures.bytes) (sym c.bytes-then-count-gt0.ensures.bytes) ∙ no-of _ (sym c.ne.ensures ∙ h))

-- Proves what src/naming.rt needs of `head_among`.
use Rattle.std.proofs.Common.{ℕ, map, take, Some, sym, ap, ◌∙◌, add-one}
use Rattle.std.specs.FinMap.{find}
use Rattle.git_objects.specs.Paths.{same_bytes}
use Rattle.git_objects.specs.Refs.{bytes_cmp}
use Rattle.fast_import.specs.Replaying.{setting_value}
use Rattle.fast_import.specs.declared.replayed.Setting.{Setting}
use Rattle.repo_ground.proofs.HeadsFound.{found-at, not-at}
use Rattle.proj_commands.proofs.naming.head_among.Goals as goal

pub returns-then-eq : goal.returns-then-eq
returns-then-eq c =
    let q = c.args.refname.now in
    ap (λ (x : Setting). Some x.head.0) c.set-item.is
    ∙ found-at q c.args.heads.now c.loop-set.set-index c.set-item.result c.loop-set-test.true c.loop-set.invariant
    (ap (λ (x : Setting). same_bytes x.refname q) (sym c.set-item.is) ∙ sym c.eq.ensures ∙ c.if-eq.true)

pub loop-set-preserved : goal.loop-set-preserved
loop-set-preserved c =
    let q = c.args.refname.now in
    let heads = c.args.heads.now in
    ap (λ (k : ℕ). find bytes_cmp q (map setting_value (take k heads))) (add-one c.loop-set.set-index)
    ∙ not-at q heads c.loop-set.set-index c.set-item.result c.loop-set-test.true c.loop-set.invariant
    (ap (λ (x : Setting). same_bytes x.refname q) (sym c.set-item.is) ∙ sym c.eq.ensures ∙ c.if-eq.false)

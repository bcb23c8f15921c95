use Rattle.std.proofs.Common.{[], ◌-◌, refl, sym, ap, ◌∙◌, take, drop, arith, subst}
use Rattle.git_objects.specs.Paths.{Bytes}
use Rattle.git_objects.specs.SharedFronts.{SharesFront}
use Rattle.git_objects.proofs.SharedFronts.{fronts_left, passes_line, shares_more}
use Rattle.git_objects.proofs.tree_view.after_lines.Goals as goal

pub lines-init : goal.lines-init
lines-init c = (c.requires.first, c.requires.second, c.requires.same, record { entries = []; first = refl; second = refl; first_left = c.requires.a_body; second_left = c.requires.b_body })

pub lines-preserved : goal.lines-preserved
lines-preserved c =
    let n = c.in-Some.line in
    let x = c.lines.rest.now in
    let y = c.lines.other_rest.now in
    let before = c.lines.invariant in
    let shares = before.3 in
    let some = c.in-Some.ensures.size.0 in
    let most = c.in-Some.ensures.size.1 in
    let same = fronts_left n c.lines.left x y most before.2 in
    let more = shares_more c.args.a.now c.args.b.now x y n shares (passes_line x y n c.lines.left shares.first_left shares.second_left some most before.0 before.2 c.in-Some.ensures.line) in
    let one = sym c.split_at.ensures.back in
    let two = sym c.split_at-in-Some.ensures.back in (
      omega (arith, c.split_at.ensures.back_len, before.0),
      omega (arith, c.split_at-in-Some.ensures.back_len, before.1),
      ap (take (c.lines.left - n)) (sym one) ∙ same ∙ ap (take (c.lines.left - n)) two,
      subst (λ (s : Bytes). SharesFront c.args.a.now c.args.b.now c.split_at.result.1.now s) two (subst (λ (r : Bytes). SharesFront c.args.a.now c.args.b.now r (drop n y)) one more),
    )

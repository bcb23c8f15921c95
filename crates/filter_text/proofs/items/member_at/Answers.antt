use Rattle.std.proofs.Common.{◌∙◌, ap, sym, arith}
use Rattle.filter_text.specs.Texts.{target_at}
use Rattle.filter_text.specs.Views.{target_read}
use Rattle.filter_text.proofs.Shorter.{less_some, target_shorter}
use Rattle.filter_text.proofs.items.member_at.Goals as goal

pub sized_member-requires : goal.sized_member-requires
sized_member-requires c =
    let t = c.args.text.now in
    omega (
      arith,
      less_some 0 t (target_at t) (c.in-Some.target, c.in-Some.rest.now) (target_shorter t)
          (sym c.in_ok-target_at.ensures ∙ ap target_read c.in-Some.is),
    )

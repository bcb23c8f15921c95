use Rattle.std.proofs.Common.{sym, ap, ◌∙◌, length, take, drop, arith, length-drop}
use Rattle.std.proofs.lemmas.List.{drop-drop}
use Rattle.git_objects.proofs.SharedFronts.{fronts_more}
use Rattle.git_objects.proofs.tree_view.common_front.Goals as goal

pub groups-preserved : goal.groups-preserved
groups-preserved c =
    let n = c.groups.front in
    let before = c.groups.invariant in
    let more = c.in-Some.ensures in
    let a = c.args.a.now in
    let b = c.args.b.now in (
      omega (arith, before.0, more.1, ap length before.2, length-drop n a),
      omega (arith, before.1, more.2, ap length before.3, length-drop n b),
      more.3 ∙ ap (drop 8) before.2 ∙ drop-drop 8 n a,
      more.4 ∙ ap (drop 8) before.3 ∙ drop-drop 8 n b,
      fronts_more n 8 a b before.4 (sym (ap (take 8) before.2) ∙ more.0 ∙ ap (take 8) before.3),
    )

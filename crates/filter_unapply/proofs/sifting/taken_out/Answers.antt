use Rattle.std.proofs.Common.{Some, None, sym, subst, ◌∙◌}
use Rattle.object_store.specs.Unfolding.{flat}
use Rattle.decision_lists.specs.Entries.{cone_of}
use Rattle.filter_unapply.specs.Sifted.{IsFitting}
use Rattle.filter_unapply.proofs.Fittings.{fits}
use Rattle.filter_unapply.proofs.Stages.{out-absent, out-found}
use Rattle.filter_unapply.proofs.Told.{is_tree}
use Rattle.filter_unapply.proofs.sifting.taken_out.Goals as goal

pub returns-in_ok-remove : goal.returns-in_ok-remove
returns-in_ok-remove c =
    let S = c.args.store.now in
    let t = flat S c.args.root.0 in
    let tree = is_tree S c.store_law.ensures.store c.args.root.0 c.requires.root in
    let k : IsFitting S t c.args.point c.args.path.now (Some c.in-Some.field-0) = subst (IsFitting S t c.args.point c.args.path.now) (sym c.fitted.ensures ∙ c.in-Some.is) (fits S t c.args.point c.args.path.now c.args.found tree c.requires.found) in
    λ u s w. out-found S c.remove.new.self t u tree w c.args.point c.args.path.now c.in-Some.field-0 k (c.in_ok-remove.ensures.ok u s)

pub returns-in_default : goal.returns-in_default
returns-in_default c =
    let S = c.args.store.now in
    let t = flat S c.args.root.0 in
    let tree = is_tree S c.store_law.ensures.store c.args.root.0 c.requires.root in
    let k : IsFitting S t c.args.point c.args.path.now None = subst (IsFitting S t c.args.point c.args.path.now) (sym c.fitted.ensures ∙ c.in_default.is) (fits S t c.args.point c.args.path.now c.args.found tree c.requires.found) in
    λ u s w. out-absent S c.args.stage.now t u w (cone_of c.args.point c.args.path.now) k s

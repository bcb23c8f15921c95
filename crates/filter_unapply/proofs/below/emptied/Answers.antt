use Rattle.std.proofs.Common.{◌≡◌, sym, [], refl}
use Rattle.git_objects.specs.Trees.{remove}
use Rattle.object_store.specs.Unfolding.{flat}
use Rattle.filter_unapply.specs.Laying.{laid_through, LaidTree}
use Rattle.filter_unapply.specs.Laying.{below}
use Rattle.filter_unapply.proofs.Told.{told_tree, told_grown, told_err, nothing_there, leaf_there, directory_there}
use Rattle.filter_unapply.proofs.below.emptied.Goals.{in_default-via-in-Some+else-is_dir, in_default-via-in_default}
use Rattle.filter_unapply.proofs.below.emptied.Goals as goal

pub returns-in_err-remove_at-in-Some-clause-err : goal.returns-in_err-remove_at-in-Some-clause-err
returns-in_err-remove_at-in-Some-clause-err c =
    let S = c.args.store.now in
    let t = flat S c.args.base.0 in
    let gone = directory_there S c.store_law.ensures.store c.args.base.0 c.requires c.args.place.now c.in-Some.found (sym c.if-is_dir.ensures) c.in-Some.ensures.found in
    told_err (laid_through (below c.args.place.now) t []) c.args.place.now (remove t c.args.place.now) gone c.remove_at.new.store
    c.from_residual.result c.in_err-remove_at-in-Some.field-0.0 c.from_residual.ensures.1 c.in_err-remove_at-in-Some.ensures.err

pub returns-in_err-remove_at-in-Some-clause-store : goal.returns-in_err-remove_at-in-Some-clause-store
returns-in_err-remove_at-in-Some-clause-store c =
    let S = c.args.store.now in
    let t = flat S c.args.base.0 in
    let gone = directory_there S c.store_law.ensures.store c.args.base.0 c.requires c.args.place.now c.in-Some.found (sym c.if-is_dir.ensures) c.in-Some.ensures.found in
    told_grown (laid_through (below c.args.place.now) t []) c.args.place.now (remove t c.args.place.now) gone c.remove_at.new.store S c.remove_at.ensures.store

pub returns-in_ok-remove_at-in-Some-clause-ok : goal.returns-in_ok-remove_at-in-Some-clause-ok
returns-in_ok-remove_at-in-Some-clause-ok c =
    let S = c.args.store.now in
    let t = flat S c.args.base.0 in
    let gone = directory_there S c.store_law.ensures.store c.args.base.0 c.requires c.args.place.now c.in-Some.found (sym c.if-is_dir.ensures) c.in-Some.ensures.found in
    told_tree (laid_through (below c.args.place.now) t []) c.args.place.now (remove t c.args.place.now) gone c.remove_at.new.store
    c.in_ok-remove_at-in-Some.field-0 c.in_ok-remove_at-in-Some.ensures.ok

pub returns-in_ok-remove_at-in-Some-clause-store : goal.returns-in_ok-remove_at-in-Some-clause-store
returns-in_ok-remove_at-in-Some-clause-store c =
    let S = c.args.store.now in
    let t = flat S c.args.base.0 in
    let gone = directory_there S c.store_law.ensures.store c.args.base.0 c.requires c.args.place.now c.in-Some.found (sym c.if-is_dir.ensures) c.in-Some.ensures.found in
    told_grown (laid_through (below c.args.place.now) t []) c.args.place.now (remove t c.args.place.now) gone c.remove_at.new.store S c.remove_at.ensures.store

pub returns-in_default-clause-ok : goal.returns-in_default-clause-ok
returns-in_default-clause-ok c =
    let S = c.args.store.now in
    let t = flat S c.args.base.0 in
    let same : laid_through (below c.args.place.now) t [] ≡ LaidTree t = elim c.in_default.branch [
      | in_default-via-in-Some+else-is_dir w ↦ leaf_there S c.store_law.ensures.store c.args.base.0 c.requires c.args.place.now w.in-Some.found (sym w.if-is_dir.ensures) w.in-Some.ensures.found
      | in_default-via-in_default w ↦ nothing_there S c.store_law.ensures.store c.args.base.0 c.requires c.args.place.now w.in_default.ensures.found
    ] in
    told_tree (laid_through (below c.args.place.now) t []) c.args.place.now t same S c.args.base (record { held = c.requires; map = refl })

use Rattle.std.proofs.Common.{rules, ◌≡◌, true, ℕ, ◌+◌, subst, arith, IfOk, get_or, None}
use Rattle.std.proofs.lemmas.Option.{slice_get-get_or}
use Rattle.git_objects.specs.declared.kind.Kind.TheVariants.{Tree}
use Rattle.object_store.specs.Objects.{has}
use Rattle.object_store.specs.Unfolding.{flat}
use Rattle.object_store.proofs.Growth.{has-grown, flat-grown}
use Rattle.path_trees.specs.Levels.{IsDirectory}
use Rattle.filter_text.specs.Shapes.{shape}
use Rattle.filter_apply.specs.Faults.{IsApplyFault}
use Rattle.filter_apply.specs.Hands.{IsJoinedObject, IsShownObject}
use Rattle.filter_apply.specs.Ranges.{map_of, seen_between}
use Rattle.filter_apply.specs.Founds.{AreFoundAt}
use Rattle.filter_apply.proofs.Bases.{founds_grown}
use Rattle.filter_apply.proofs.Handing.{err_told}
use Rattle.filter_apply.proofs.Shows.{both_grown, half_fault, left_held, right_held, halves_apart, halves_ok, halves_err, halves_store}
use Rattle.filter_apply.proofs.Truths.{true_grown, true_joined, keeps_same, keeps_then}
use Rattle.filter_apply.proofs.routes.+shown_between.Goals as goal

pub returns-then-last-first-eq1-clause-ok : goal.returns-then-last-first-eq1-clause-ok
returns-then-last-first-eq1-clause-ok g t c =
    let range = c.requires.range in
    let one = c.if-last-first-eq1.true in
    let next : c.args.first + 1 ≡ c.args.last = omega arith in
    subst (λ (n : ℕ). IfOk c.shown_by.result (IsDirectory c.shown_by.new.store (seen_between (shape c.args.table.now.filter) c.args.table.now.routes c.args.first n (flat c.args.store.now c.args.root.0)))) next c.shown_by.ensures.ok

pub shown_by-requires-clause-found : goal.shown_by-requires-clause-found
shown_by-requires-clause-found g t c =
    let range = c.requires.range in
    let within = c.requires.within in
    let as_many = c.requires.founds.as_many in
    c.requires.founds.each c.args.first (get_or c.args.founds.now c.args.first None) (slice_get-get_or c.args.founds.now c.args.first None (omega arith))

pub shown_between-requires-2 : goal.shown_between-requires-2
shown_between-requires-2 g t c κs within =
    let S0 = c.args.store.now in
    let S1 = c.shown_between.new.store in
    let made = IsShownObject (shape c.args.table.now.filter) (flat S0 c.args.root.0) in
    let held : has Tree S1 c.args.root.0 ≡ true = has-grown {made = made} S0 S1 Tree c.args.root.0 c.in_ok-left.ensures.store c.requires.root in
    let founds : AreFoundAt S1 (flat S1 c.args.root.0) c.args.table.now.routes c.args.founds.now =
    founds_grown {made = made} S0 S1 (flat S0 c.args.root.0) (flat S1 c.args.root.0) c.args.table.now.routes c.args.founds.now (flat-grown {made = made} S0 S1 c.args.root.0 c.in_ok-left.ensures.store c.requires.root) c.in_ok-left.ensures.store c.requires.founds in
    let above = c.middle_of-middle.ensures.above in
    let below = c.middle_of-middle.ensures.below in
    let range = c.requires.range in
    (search rules, (search rules, (held, (founds, (below, (c.requires.within, c.in_ok-left.ensures.true_now))))))

pub returns-in_err-right-clause-err : goal.returns-in_err-right-clause-err
returns-in_err-right-clause-err g t c =
    let S0 = c.args.store.now in
    let S1 = c.shown_between.new.store in
    let S2 = c.shown_between-2.new.store in
    err_told (IsApplyFault (IsShownObject (shape c.args.table.now.filter) (flat S0 c.args.root.0)) S2) c.from_residual-in_err-right.result c.in_err-right.field-0.0 c.from_residual-in_err-right.ensures.1
    (half_fault (shape c.args.table.now.filter) c.args.table.now.routes c.table_law.ensures.list c.table_law.ensures.sound c.table_law.ensures.paths S0 S1 S2 c.args.root.0 c.store_law.ensures.store c.requires.root c.in_ok-left.ensures.store c.in_err-right.ensures.store c.in_err-right.field-0.0 c.in_err-right.ensures.err)

pub returns-in_err-right-clause-store : goal.returns-in_err-right-clause-store
returns-in_err-right-clause-store g t c =
    let S0 = c.args.store.now in
    let S1 = c.shown_between.new.store in
    let S2 = c.shown_between-2.new.store in
    both_grown (shape c.args.table.now.filter) c.args.table.now.routes c.table_law.ensures.list c.table_law.ensures.sound c.table_law.ensures.paths S0 S1 S2 c.args.root.0 c.store_law.ensures.store c.requires.root c.in_ok-left.ensures.store c.in_err-right.ensures.store

pub joined-requires-clause-first : goal.joined-requires-clause-first
joined-requires-clause-first g t c =
    let S0 = c.args.store.now in
    let S1 = c.shown_between.new.store in
    let S2 = c.shown_between-2.new.store in
    left_held (shape c.args.table.now.filter) c.args.table.now.routes c.table_law.ensures.list c.table_law.ensures.sound c.table_law.ensures.paths S0 S1 S2 c.args.root.0 c.store_law.ensures.store c.requires.root c.in_ok-left.ensures.store c.in_ok-right.ensures.store c.args.first c.middle_of-middle.result c.args.last c.in_ok-left.left c.in_ok-right.right c.in_ok-left.ensures.ok c.in_ok-right.ensures.ok

pub joined-requires-clause-second : goal.joined-requires-clause-second
joined-requires-clause-second g t c =
    let S0 = c.args.store.now in
    let S1 = c.shown_between.new.store in
    let S2 = c.shown_between-2.new.store in
    right_held (shape c.args.table.now.filter) c.args.table.now.routes c.table_law.ensures.list c.table_law.ensures.sound c.table_law.ensures.paths S0 S1 S2 c.args.root.0 c.store_law.ensures.store c.requires.root c.in_ok-left.ensures.store c.in_ok-right.ensures.store c.args.first c.middle_of-middle.result c.args.last c.in_ok-left.left c.in_ok-right.right c.in_ok-left.ensures.ok c.in_ok-right.ensures.ok

pub joined-requires-clause-apart : goal.joined-requires-clause-apart
joined-requires-clause-apart g t c =
    let S0 = c.args.store.now in
    let S1 = c.shown_between.new.store in
    let S2 = c.shown_between-2.new.store in
    halves_apart (shape c.args.table.now.filter) c.args.table.now.routes c.table_law.ensures.list c.table_law.ensures.sound c.table_law.ensures.paths S0 S1 S2 c.args.root.0 c.store_law.ensures.store c.requires.root c.in_ok-left.ensures.store c.in_ok-right.ensures.store c.args.first c.middle_of-middle.result c.args.last c.in_ok-left.left c.in_ok-right.right c.in_ok-left.ensures.ok c.in_ok-right.ensures.ok

pub returns-clause-ok : goal.returns-clause-ok
returns-clause-ok g t c =
    let S0 = c.args.store.now in
    let S1 = c.shown_between.new.store in
    let S2 = c.shown_between-2.new.store in
    let above = c.middle_of-middle.ensures.above in
    let below = c.middle_of-middle.ensures.below in
    halves_ok (shape c.args.table.now.filter) c.args.table.now.routes c.table_law.ensures.list c.table_law.ensures.sound c.table_law.ensures.paths S0 S1 S2 c.args.root.0 c.store_law.ensures.store c.requires.root c.in_ok-left.ensures.store c.in_ok-right.ensures.store c.args.first c.middle_of-middle.result c.args.last c.in_ok-left.left c.in_ok-right.right c.in_ok-left.ensures.ok c.in_ok-right.ensures.ok c.joined.new.store c.joined.result (omega arith) (omega arith) c.joined.ensures.ok

pub returns-clause-err : goal.returns-clause-err
returns-clause-err g t c =
    let S0 = c.args.store.now in
    let S1 = c.shown_between.new.store in
    let S2 = c.shown_between-2.new.store in
    halves_err (shape c.args.table.now.filter) c.args.table.now.routes c.table_law.ensures.list c.table_law.ensures.sound c.table_law.ensures.paths S0 S1 S2 c.args.root.0 c.store_law.ensures.store c.requires.root c.in_ok-left.ensures.store c.in_ok-right.ensures.store c.args.first c.middle_of-middle.result c.args.last c.in_ok-left.left c.in_ok-right.right c.in_ok-left.ensures.ok c.in_ok-right.ensures.ok c.joined.new.store c.joined.result c.joined.ensures.err

pub returns-clause-store : goal.returns-clause-store
returns-clause-store g t c =
    let S0 = c.args.store.now in
    let S1 = c.shown_between.new.store in
    let S2 = c.shown_between-2.new.store in
    halves_store (shape c.args.table.now.filter) c.args.table.now.routes c.table_law.ensures.list c.table_law.ensures.sound c.table_law.ensures.paths S0 S1 S2 c.args.root.0 c.store_law.ensures.store c.requires.root c.in_ok-left.ensures.store c.in_ok-right.ensures.store c.args.first c.middle_of-middle.result c.args.last c.in_ok-left.left c.in_ok-right.right c.in_ok-left.ensures.ok c.in_ok-right.ensures.ok c.joined.new.store c.joined.ensures.store

pub returns-in_err-right-clause-others : goal.returns-in_err-right-clause-others
returns-in_err-right-clause-others g t c =
    keeps_then c.args.id c.args.memo.now c.shown_between.new.memo c.shown_between-2.new.memo c.in_ok-left.ensures.others c.in_err-right.ensures.others

pub returns-clause-true_now : goal.returns-clause-true_now
returns-clause-true_now g t c =
    let S2 = c.shown_between-2.new.store in
    let S3 = c.joined.new.store in
    let memo = c.shown_between-2.new.memo in
    true_joined c.args.table.now c.args.id S3 memo c.joined.new.memo c.joined.ensures.entries c.joined.ensures.joins
    (true_grown c.args.table.now c.args.id {made = IsJoinedObject (map_of S2 c.in_ok-left.left) (map_of S2 c.in_ok-right.right)} S2 S3 memo c.joined.ensures.store c.in_ok-right.ensures.true_now)

pub returns-clause-others : goal.returns-clause-others
returns-clause-others g t c =
    keeps_then c.args.id c.args.memo.now c.shown_between.new.memo c.joined.new.memo c.in_ok-left.ensures.others
    (keeps_then c.args.id c.shown_between.new.memo c.shown_between-2.new.memo c.joined.new.memo c.in_ok-right.ensures.others
    (keeps_same c.args.id c.shown_between-2.new.memo c.joined.new.memo c.joined.ensures.entries))

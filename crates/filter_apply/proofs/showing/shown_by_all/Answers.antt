use Rattle.std.proofs.Common.{◌≡◌, ◌∙◌, length, IfOk, sym, ap, subst, arith, List}
use Rattle.git_objects.specs.Trees.{Flat}
use Rattle.object_store.specs.Unfolding.{flat}
use Rattle.object_store.proofs.Unfolding.{flat_good}
use Rattle.path_trees.specs.Levels.{IsDirectory}
use Rattle.decision_lists.specs.Entries.{Entry}
use Rattle.filter_text.specs.Shapes.{shape}
use Rattle.filter_apply.specs.Founds.{base_lengths}
use Rattle.filter_apply.specs.Ranges.{seen_between}
use Rattle.filter_apply.proofs.Bases.{one_length}
use Rattle.filter_apply.proofs.Shows.{all_seen, none_seen, paid}
use Rattle.filter_apply.proofs.showing.shown_by_all.Goals as goal

pub returns-then-count-eq0-clause-ok : goal.returns-then-count-eq0-clause-ok
returns-then-count-eq0-clause-ok g c =
    let S = c.args.store.now in
    let t = flat S c.args.root.0 in
    let f = shape c.args.table.now.filter in
    let es = c.args.table.now.routes in
    let none : length es ≡ 0 = ap length (sym c.entries-entries.ensures.entries) ∙ c.if-count-eq0.true in
    none_seen f es c.entries-entries.ensures.list c.entries-entries.ensures.sound c.entries-entries.ensures.paths t (flat_good S c.store_law.ensures.store c.args.root.0 c.requires.root).tree (omega arith)

pub returns-then-count-eq0-clause-few : goal.returns-then-count-eq0-clause-few
returns-then-count-eq0-clause-few g c = paid (shape c.args.table.now.filter) c.args.table.now.routes c.args.steps.now c.args.steps.now c.entries-entries.ensures.list.one (λ _. omega arith)

pub returns-clause-ok : goal.returns-clause-ok
returns-clause-ok g c =
    let S = c.args.store.now in
    let t = flat S c.args.root.0 in
    let f = shape c.args.table.now.filter in
    let es = c.args.table.now.routes in
    subst (λ (u : Flat). IfOk c.shown_between.result (IsDirectory c.shown_between.new.store u))
    (ap (λ (ds : List Entry). seen_between f es 0 (length ds) t) c.entries-entries.ensures.entries ∙ all_seen f es c.entries-entries.ensures.list c.entries-entries.ensures.sound c.entries-entries.ensures.paths t (flat_good S c.store_law.ensures.store c.args.root.0 c.requires.root).tree) c.shown_between.ensures.ok

pub returns-in_err-founds-clause-few : goal.returns-in_err-founds-clause-few
returns-in_err-founds-clause-few g c =
    let es = c.args.table.now.routes in
    let same = ap base_lengths c.entries-entries.ensures.entries in
    let few = c.founds_of.ensures.few in
    paid (shape c.args.table.now.filter) es c.args.steps.now c.founds_of.new.steps c.entries-entries.ensures.list.one (λ e. let one = one_length es e in omega arith)

pub returns-clause-few : goal.returns-clause-few
returns-clause-few g c =
    let es = c.args.table.now.routes in
    let same = ap base_lengths c.entries-entries.ensures.entries in
    let few = c.founds_of.ensures.few in
    paid (shape c.args.table.now.filter) es c.args.steps.now c.shown_between.new.steps c.entries-entries.ensures.list.one
    (λ e. let one = one_length es e in let no_more = c.shown_between.ensures.few (ap length c.entries-entries.ensures.entries ∙ e) in omega arith)

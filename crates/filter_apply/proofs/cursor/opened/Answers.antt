use Rattle.std.proofs.Common.{Some, sym, refl, ap, ◌∙◌}
use Rattle.path_trees.proofs.Walks.{listed_good}
use Rattle.filter_apply.proofs.Places.{dir_held}
use Rattle.object_store.specs.Unfolding.{flat}
use Rattle.object_store.proofs.Unfolding.{flat_good}
use Rattle.filter_apply.proofs.Cursors.{below_nothing, below_no_directory, opened_at}
use Rattle.filter_apply.proofs.cursor.opened.Goals as goal

pub returns-in_err-found-clause-none : goal.returns-in_err-found-clause-none
returns-in_err-found-clause-none g c =
    let S = c.args.store.now in
    let tree = (flat_good S c.found_at.ensures.store c.args.root.0 c.requires).tree in
    λ none. below_nothing (flat S c.args.root.0) c.args.parent.now tree c.in_err-found.ensures.found

pub returns-then-not-is_dir-clause-none : goal.returns-then-not-is_dir-clause-none
returns-then-not-is_dir-clause-none g c =
    let S = c.args.store.now in
    let tree = (flat_good S c.found_at.ensures.store c.args.root.0 c.requires).tree in
    λ none. below_no_directory S c.found_at.ensures.store (flat S c.args.root.0) c.args.parent.now tree c.in_ok-found.found c.in_ok-found.ensures.found (sym c.is_dir.ensures ∙ c.if-not-is_dir.true)

pub new-finder-requires : goal.new-finder-requires
new-finder-requires g c =
    let S = c.args.store.now in
    let held = dir_held S c.in_ok-found.found.mode c.in_ok-found.found.name.0 (sym c.is_dir.ensures ∙ c.if-not-is_dir.false) c.in_ok-found.ensures.held in
    (listed_good S c.in_ok-found.found.name.0 c.entries_at.result c.found_at.ensures.store held c.entries_at.ensures.listed).0.entries

pub returns-clause-cursor : goal.returns-clause-cursor
returns-clause-cursor g c =
    let S = c.args.store.now in
    let tree = (flat_good S c.found_at.ensures.store c.args.root.0 c.requires).tree in
    let at = opened_at S c.found_at.ensures.store (flat S c.args.root.0) c.args.parent.now tree c.in_ok-found.found c.in_ok-found.ensures.found c.new-finder.result (sym c.is_dir.ensures ∙ c.if-not-is_dir.false) c.in_ok-found.ensures.held
    (c.entries_at.ensures.listed ∙ ap Some (sym c.new-finder.ensures)) in
    (record { listed = at }, refl)

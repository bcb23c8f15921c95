use Rattle.std.proofs.Common.{◌≡◌, ◌∙◌, sym, ap, not, slice_get, Some}
use Rattle.std.specs.Option.{option_map}
use Rattle.git_objects.specs.Trees.{rests}
use Rattle.object_store.specs.Unfolding.{flat}
use Rattle.object_store.proofs.Unfolding.{flat_good}
use Rattle.object_store.proofs.Growth.{grown_as}
use Rattle.path_trees.specs.Standing.{node}
use Rattle.path_trees.proofs.Placed.{got}
use Rattle.decision_lists.specs.Entries.{cone_of}
use Rattle.filter_apply.specs.Faults.{IsApplyFault}
use Rattle.filter_apply.specs.Hands.{IsPartObject}
use Rattle.filter_apply.specs.Parts.{is_below, is_wide}
use Rattle.filter_apply.proofs.Places.{dir_held}
use Rattle.filter_apply.proofs.Deciding.{wrong_kind, right_leaf, right_tree, tree_handed, whole_rests, same_bool, other_bool}
use Rattle.filter_apply.proofs.Handing.{err_told, fault_as}
use Rattle.filter_apply.proofs.parts.part_in.Goals as goal

pub returns-then-is_dir-entry-clause-ok : goal.returns-then-is_dir-entry-clause-ok
returns-then-is_dir-entry-clause-ok g c =
    let S = c.args.store.now in
    let get : slice_get c.args.entries.now c.args.route ≡ Some (cone_of c.entry.inside.point c.entry.inside.base.items, option_map (λ t. t.items) c.entry.inside.target) =
    got c.args.entries.now c.args.route c.index-entries-route.result c.requires.route c.index-entries-route.is ∙ ap Some (sym c.entry.view_is) in
    wrong_kind c.args.entries.now c.args.route c.entry.inside.point c.entry.inside.base.items (option_map (λ t. t.items) c.entry.inside.target) get
    S c.args.found c.requires.store c.requires.held
    (sym c.is_dir.ensures ∙ same_bool c.is_dir.result c.entry.inside.point c.if-is_dir-entry.true)

pub returns-then-entry-clause-ok : goal.returns-then-entry-clause-ok
returns-then-entry-clause-ok g c =
    let S = c.args.store.now in
    let get : slice_get c.args.entries.now c.args.route ≡ Some (cone_of c.entry.inside.point c.entry.inside.base.items, option_map (λ t. t.items) c.entry.inside.target) =
    got c.args.entries.now c.args.route c.index-entries-route.result c.requires.route c.index-entries-route.is ∙ ap Some (sym c.entry.view_is) in
    right_leaf c.args.entries.now c.args.route c.entry.inside.point c.entry.inside.base.items (option_map (λ t. t.items) c.entry.inside.target) get
    S c.args.found c.requires.store c.requires.held
    (sym c.is_dir.ensures ∙ other_bool c.is_dir.result c.entry.inside.point c.if-is_dir-entry.false ∙ ap not c.if-entry.true) c.if-entry.true c.requires.thin

pub without_holes-requires-clause-root : goal.without_holes-requires-clause-root
without_holes-requires-clause-root g c =
    dir_held c.args.store.now c.args.found.mode c.args.found.name.0 (sym c.is_dir.ensures ∙ other_bool c.is_dir.result c.entry.inside.point c.if-is_dir-entry.false ∙ ap not c.if-entry.false) c.requires.held

pub without_holes-requires-clause-cone : goal.without_holes-requires-clause-cone
without_holes-requires-clause-cone g c =
    let get : slice_get c.args.entries.now c.args.route ≡ Some (cone_of c.entry.inside.point c.entry.inside.base.items, option_map (λ t. t.items) c.entry.inside.target) =
    got c.args.entries.now c.args.route c.index-entries-route.result c.requires.route c.index-entries-route.is ∙ ap Some (sym c.entry.view_is) in
    ap is_below get ∙ ap (λ b. is_wide (cone_of b c.entry.inside.base.items)) c.if-entry.false

pub returns-in_err-name-clause-err : goal.returns-in_err-name-clause-err
returns-in_err-name-clause-err g c =
    let S = c.args.store.now in
    let get : slice_get c.args.entries.now c.args.route ≡ Some (cone_of c.entry.inside.point c.entry.inside.base.items, option_map (λ t. t.items) c.entry.inside.target) =
    got c.args.entries.now c.args.route c.index-entries-route.result c.requires.route c.index-entries-route.is ∙ ap Some (sym c.entry.view_is) in
    let dir = sym c.is_dir.ensures ∙ other_bool c.is_dir.result c.entry.inside.point c.if-is_dir-entry.false ∙ ap not c.if-entry.false in
    err_told (IsApplyFault (IsPartObject (rests (node S c.args.found))) c.without_holes.new.store) c.from_residual.result c.in_err-name.field-0.0 c.from_residual.ensures.1
    (fault_as (IsPartObject (flat S c.args.found.name.0)) (IsPartObject (rests (node S c.args.found))) c.without_holes.new.store c.in_err-name.field-0.0
    (tree_handed c.args.entries.now c.args.route c.entry.inside.point c.entry.inside.base.items (option_map (λ t. t.items) c.entry.inside.target) get
    S c.args.found c.requires.store c.requires.held dir) c.in_err-name.ensures.err)

pub returns-in_err-name-clause-store : goal.returns-in_err-name-clause-store
returns-in_err-name-clause-store g c =
    let S = c.args.store.now in
    let get : slice_get c.args.entries.now c.args.route ≡ Some (cone_of c.entry.inside.point c.entry.inside.base.items, option_map (λ t. t.items) c.entry.inside.target) =
    got c.args.entries.now c.args.route c.index-entries-route.result c.requires.route c.index-entries-route.is ∙ ap Some (sym c.entry.view_is) in
    let dir = sym c.is_dir.ensures ∙ other_bool c.is_dir.result c.entry.inside.point c.if-is_dir-entry.false ∙ ap not c.if-entry.false in
    grown_as (IsPartObject (flat S c.args.found.name.0)) (IsPartObject (rests (node S c.args.found))) S c.without_holes.new.store
    (tree_handed c.args.entries.now c.args.route c.entry.inside.point c.entry.inside.base.items (option_map (λ t. t.items) c.entry.inside.target) get
    S c.args.found c.requires.store c.requires.held dir) c.in_err-name.ensures.store

pub returns-clause-ok : goal.returns-clause-ok
returns-clause-ok g c =
    let S = c.args.store.now in
    let get : slice_get c.args.entries.now c.args.route ≡ Some (cone_of c.entry.inside.point c.entry.inside.base.items, option_map (λ t. t.items) c.entry.inside.target) =
    got c.args.entries.now c.args.route c.index-entries-route.result c.requires.route c.index-entries-route.is ∙ ap Some (sym c.entry.view_is) in
    let dir = sym c.is_dir.ensures ∙ other_bool c.is_dir.result c.entry.inside.point c.if-is_dir-entry.false ∙ ap not c.if-entry.false in
    whole_rests (option_map (node c.without_holes.new.store) c.whole.result) (flat c.without_holes.new.store c.in_ok-name.name.0) (flat_good c.without_holes.new.store c.whole.ensures.store c.in_ok-name.name.0 c.in_ok-name.ensures.ok.held).tree c.whole.ensures.found
    ∙ c.in_ok-name.ensures.ok.map
    ∙ right_tree c.args.entries.now c.args.route c.entry.inside.point c.entry.inside.base.items (option_map (λ t. t.items) c.entry.inside.target) get
    S c.args.found c.requires.store c.requires.held dir c.if-entry.false

pub returns-clause-store : goal.returns-clause-store
returns-clause-store g c =
    let S = c.args.store.now in
    let get : slice_get c.args.entries.now c.args.route ≡ Some (cone_of c.entry.inside.point c.entry.inside.base.items, option_map (λ t. t.items) c.entry.inside.target) =
    got c.args.entries.now c.args.route c.index-entries-route.result c.requires.route c.index-entries-route.is ∙ ap Some (sym c.entry.view_is) in
    let dir = sym c.is_dir.ensures ∙ other_bool c.is_dir.result c.entry.inside.point c.if-is_dir-entry.false ∙ ap not c.if-entry.false in
    grown_as (IsPartObject (flat S c.args.found.name.0)) (IsPartObject (rests (node S c.args.found))) S c.without_holes.new.store
    (tree_handed c.args.entries.now c.args.route c.entry.inside.point c.entry.inside.base.items (option_map (λ t. t.items) c.entry.inside.target) get
    S c.args.found c.requires.store c.requires.held dir) c.in_ok-name.ensures.store

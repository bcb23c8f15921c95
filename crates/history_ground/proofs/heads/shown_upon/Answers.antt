use Rattle.std.proofs.Common.{sym, ap, ◌∙◌}
use Rattle.std.specs.Option.{option_map}
use Rattle.std.proofs.lemmas.Result.{err_from_is_err_and}
use Rattle.git_objects.specs.Snapshots.{tree_at}
use Rattle.object_store.proofs.Growth.{stands-grown}
use Rattle.commit_map.specs.Shown.{shown_value}
use Rattle.filter_text.specs.Shapes.{shape}
use Rattle.filter_apply.specs.Faults.{IsApplyFault}
use Rattle.workspace.specs.Workspaces.{shown}
use Rattle.projection_ground.specs.Grounds.{commits_of}
use Rattle.history_ground.specs.Heads.{IsSeenObject}
use Rattle.history_ground.proofs.HeadLemmas.{more-seen-fault, seen-none, seen-some, trees}
use Rattle.history_ground.proofs.TrueHeads.{made-held, projection-same, walk-map, walk-still, walk-then}
use Rattle.projection_ground.proofs.TurnLemmas.{handed-on}
use Rattle.history_ground.proofs.heads.shown_upon.Goals as goal

pub returns-in_err-tree-clause-walked : goal.returns-in_err-tree-clause-walked
returns-in_err-tree-clause-walked c =
    let f = shape c.args.filter.now in
    let g = c.args.ground.now in
    let n = c.args.head.now.0 in
    let h = c.shown_first.new.ground in
    walk-still f n g h c.requires.ground (trees f g n c.requires.ground h c.shown_first.ensures.same) c.shown_first.ensures.map c.requires.map

pub made_to-requires-clause-map : goal.made_to-requires-clause-map
made_to-requires-clause-map c =
    let f = shape c.args.filter.now in
    let g = c.args.ground.now in
    let n = c.args.head.now.0 in
    let h = c.shown_first.new.ground in
    walk-map f n g h c.requires.ground (trees f g n c.requires.ground h c.shown_first.ensures.same) c.shown_first.ensures.map c.requires.map

pub returns-in_err-shown-clause-walked : goal.returns-in_err-shown-clause-walked
returns-in_err-shown-clause-walked c =
    let f = shape c.args.filter.now in
    let g = c.args.ground.now in
    let n = c.args.head.now.0 in
    let h = c.shown_first.new.ground in
    walk-then f n g h c.requires.ground (trees f g n c.requires.ground h c.shown_first.ensures.same) c.shown_first.ensures.map c.requires.map c.made_to.new.ground c.made_to.ensures.walked

pub returns-in_err-shown-clause-err : goal.returns-in_err-shown-clause-err
returns-in_err-shown-clause-err c =
    let f = shape c.args.filter.now in
    let g = c.args.ground.now in
    let n = c.args.head.now.0 in
    let h = c.shown_first.new.ground in
    let S = c.made_to.new.ground.store in
    let p = err_from_is_err_and c.from_residual-in_err-shown.result c.from_residual-in_err-shown.ensures.1 in
    handed-on (IsApplyFault (IsSeenObject f g n) S) c.from_residual-in_err-shown.result p.0 c.in_err-shown.field-0.0 p.1 p.2
    (more-seen-fault f g n c.requires.ground h (trees f g n c.requires.ground h c.shown_first.ensures.same) S c.in_err-shown.field-0.0 c.in_err-shown.ensures.err)

pub returns-in_default-clause-ok : goal.returns-in_default-clause-ok
returns-in_default-clause-ok c =
    let f = shape c.args.filter.now in
    let g = c.args.ground.now in
    let n = c.args.head.now.0 in
    let h = c.shown_first.new.ground in
    let k = c.made_to.new.ground in
    let a = trees f g n c.requires.ground h c.shown_first.ensures.same in
    seen-none f g n c.requires.ground c.requires.head k.store c.in_ok-tree.tree
    (sym (ap (option_map shown_value) c.in_default.is) ∙ c.in_ok-shown.ensures.ok.is ∙ projection-same f n g h c.requires.ground a)
    (stands-grown h.store k.store c.in_ok-tree.tree.0 (shown f (tree_at (commits_of g) n)) c.made_to.ensures.walked.same.store c.in_ok-tree.ensures.ok)

pub returns-in_default-clause-walked : goal.returns-in_default-clause-walked
returns-in_default-clause-walked c =
    let f = shape c.args.filter.now in
    let g = c.args.ground.now in
    let n = c.args.head.now.0 in
    let h = c.shown_first.new.ground in
    walk-then f n g h c.requires.ground (trees f g n c.requires.ground h c.shown_first.ensures.same) c.shown_first.ensures.map c.requires.map c.made_to.new.ground c.made_to.ensures.walked

pub returns-clause-ok : goal.returns-clause-ok
returns-clause-ok c =
    let f = shape c.args.filter.now in
    let g = c.args.ground.now in
    let n = c.args.head.now.0 in
    let h = c.shown_first.new.ground in
    let k = c.made_to.new.ground in
    let a = trees f g n c.requires.ground h c.shown_first.ensures.same in
    let made = made-held k.store _ c.in_ok-shown.field-0 c.in-Some.shown c.in_ok-shown.ensures.ok c.in-Some.is in
    seen-some f g n c.requires.ground c.requires.head k.store c.in-Some.shown (made.1 ∙ projection-same f n g h c.requires.ground a) c.in_ok-tree.tree c.made_to.ensures.walked.same.ground.graph.store
    (stands-grown h.store k.store c.in_ok-tree.tree.0 (shown f (tree_at (commits_of g) n)) c.made_to.ensures.walked.same.store c.in_ok-tree.ensures.ok) made.0

pub returns-clause-walked : goal.returns-clause-walked
returns-clause-walked c =
    let f = shape c.args.filter.now in
    let g = c.args.ground.now in
    let n = c.args.head.now.0 in
    let h = c.shown_first.new.ground in
    walk-then f n g h c.requires.ground (trees f g n c.requires.ground h c.shown_first.ensures.same) c.shown_first.ensures.map c.requires.map c.made_to.new.ground c.made_to.ensures.walked

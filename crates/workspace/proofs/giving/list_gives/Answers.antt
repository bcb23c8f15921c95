use Rattle.std.proofs.Common.{subst}
use Rattle.filter_text.specs.Shapes.{shape}
use Rattle.filter_text.specs.Views.{item_values}
use Rattle.filter_routes.specs.RouteFaults.{IsRouteFault}
use Rattle.workspace.specs.Workspaces.{listed}
use Rattle.workspace.proofs.ListFaults.{not-keeping-gives, overlap-gives, sound-gives}
use Rattle.workspace.proofs.giving.list_gives.Goals as goal

pub returns-in-Ok : goal.returns-in-Ok
returns-in-Ok c =
    let f = shape c.in_ok-list.list in
    let is = c.args.items.now in
    sound-gives f (listed c.args.directory.now (item_values is)) is c.in_ok-list.ensures c.requires.paths c.in-Ok.ensures.sound

pub returns-in-Err-NotKeeping : goal.returns-in-Err-NotKeeping
returns-in-Err-NotKeeping c =
    let f = shape c.in_ok-list.list in
    let is = c.args.items.now in
    not-keeping-gives f (listed c.args.directory.now (item_values is)) is c.in_ok-list.ensures c.requires.paths
    c.in-Err-NotKeeping.piece (subst (IsRouteFault f) c.in-Err-NotKeeping.field-0-is c.in-Err-NotKeeping.ensures.fault)

pub returns : goal.returns
returns c =
    let f = shape c.in_ok-list.list in
    let is = c.args.items.now in
    overlap-gives f (listed c.args.directory.now (item_values is)) is c.in_ok-list.ensures c.requires.paths
    c.in-Err-Overlap.list c.in-Err-Overlap.first c.in-Err-Overlap.second
    (subst (IsRouteFault f) c.in-Err-Overlap.field-0-is c.in-Err-Overlap.ensures.fault)

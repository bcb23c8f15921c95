use Rattle.std.proofs.Common.{map}
use Rattle.git_objects.specs.Parts.{name_bytes}
use Rattle.history_ground.specs.Making.{IsAdded}
use Rattle.history_ground.proofs.TakenTurns.{extends-store, kept-either}
use Rattle.history_ground.proofs.histories.keep_made.Goals as goal

pub returns-in_err-add_made-clause-same : goal.returns-in_err-add_made-clause-same
returns-in_err-add_made-clause-same c = extends-store (IsAdded (map name_bytes c.args.made.now.keys) c.args.body.items) c.args.ground.now c.add_made.new.store c.requires.ground c.add_made.ensures.store

pub returns-clause-same : goal.returns-clause-same
returns-clause-same c =
    let made = IsAdded (map name_bytes c.args.made.now.keys) c.args.body.items in
    kept-either made c.args.ground.now _ c.keep.new.ground _ c.keep.result (extends-store made c.args.ground.now c.add_made.new.store c.requires.ground c.add_made.ensures.store) c.keep.ensures.ok c.keep.ensures.err

use Rattle.std.proofs.Common.{◌≡◌, true, [], Result, Ok, Err, refl, sym, subst}
use Rattle.git_objects.specs.Trees.{Flat}
use Rattle.fast_import.specs.Bases.{base_in}
use Rattle.fast_import.specs.Replays.{edited, given_bytes}
use Rattle.fast_import.specs.Standing.{IsChanged, IsRedrawn}
use Rattle.stream_reader.specs.Replayable.{is_replayable}
use Rattle.stream_reader.specs.declared.command.Change.{Change}
use Rattle.stream_reader.specs.declared.command.Change.TheVariants as changes
use Rattle.stream_reader.specs.declared.command.Command.TheVariants as commands
use Rattle.stream_reader.specs.declared.fault.StreamFault.{StreamFault}
use Rattle.fast_import.proofs.Changing.{copy_is, given_child, modify_done, none_given, redrawn_changed, rename_is}
use Rattle.fast_import.proofs.Growing.{shows-grown}
use Rattle.fast_import.proofs.replay.Replay.edited.Goals as goal

pub set_leaf-requires-clause-leaf : goal.set_leaf-requires-clause-leaf
set_leaf-requires-clause-leaf g c =
    let S = c.args.store.now in
    let base = base_in S (g.B.Base.commits c.args.base.now) (g.B.Base.refs c.args.base.now) (g.B.Base.blobs c.args.base.now) in
    given_child c.given.new.store c.in-Modify.mode c.in-Modify.blob c.in-Ok.name (given_bytes base c.requires.so_far.0 c.args.at c.in-Modify.mode c.in-Modify.blob)
    (subst (λ (x : Change). is_replayable (commands.Change x) ≡ true) c.in-Modify.is c.requires.fit) (c.in-Ok.ensures c.requires.so_far.0 c.requires.so_far.1).leaf

pub set_leaf-requires-clause-stage : goal.set_leaf-requires-clause-stage
set_leaf-requires-clause-stage g c =
    (c.requires.stage.0, shows-grown c.args.store.now c.given.new.store (c.in-Ok.ensures c.requires.so_far.0 c.requires.so_far.1).grown c.args.stage.now c.requires.stage.0 c.requires.stage.1)

pub returns-in-Err : goal.returns-in-Err
returns-in-Err g c = λ r t h k.
    let S = c.args.store.now in
    let base = base_in S (g.B.Base.commits c.args.base.now) (g.B.Base.refs c.args.base.now) (g.B.Base.blobs c.args.base.now) in
    subst (λ (x : Change). IsChanged S c.given.new.store c.given.new.self c.args.stage.now r x (edited base r c.args.at t x) (Err c.in-Err.fault)) (sym c.in-Modify.is)
    (none_given base S c.given.new.store c.given.new.self c.args.stage.now r t c.args.at c.in-Modify.mode c.in-Modify.blob c.in-Modify.path c.in-Err.fault (c.in-Err.ensures r h))

pub returns-in-Modify : goal.returns-in-Modify
returns-in-Modify g c = λ r t h k.
    let S = c.args.store.now in
    let base = base_in S (g.B.Base.commits c.args.base.now) (g.B.Base.refs c.args.base.now) (g.B.Base.blobs c.args.base.now) in
    let given = c.in-Ok.ensures r h in
    subst (λ (x : Change). IsChanged S c.given.new.store c.given.new.self c.set_leaf.new.stage r x (edited base r c.args.at t x) c.set_leaf.result) (sym c.in-Modify.is)
    (modify_done base S c.given.new.store c.given.new.self c.set_leaf.new.stage r t c.args.at c.in-Modify.mode c.in-Modify.blob c.in-Modify.path c.in-Ok.name
    (subst (λ (x : Change). is_replayable (commands.Change x) ≡ true) c.in-Modify.is c.requires.fit) given c.set_leaf.result (c.set_leaf.ensures t (shows-grown S c.given.new.store given.grown c.args.stage.now t k)))

pub returns-in-Delete : goal.returns-in-Delete
returns-in-Delete g c = λ r t h k.
    let S = c.args.store.now in
    let base = base_in S (g.B.Base.commits c.args.base.now) (g.B.Base.refs c.args.base.now) (g.B.Base.blobs c.args.base.now) in
    subst (λ (x : Change). IsChanged S S c.args.self.now c.remove_path.new.stage r x (edited base r c.args.at t x) c.remove_path.result) (sym c.in-Delete.is)
    (redrawn_changed S c.args.self.now c.remove_path.new.stage r (changes.Delete c.in-Delete.path) (edited base r c.args.at t (changes.Delete c.in-Delete.path)) refl c.requires.store h c.remove_path.result (c.remove_path.ensures t k))

pub returns-in-Rename : goal.returns-in-Rename
returns-in-Rename g c = λ r t h k.
    let S = c.args.store.now in
    let base = base_in S (g.B.Base.commits c.args.base.now) (g.B.Base.refs c.args.base.now) (g.B.Base.blobs c.args.base.now) in
    subst (λ (x : Change). IsChanged S S c.args.self.now c.move_path.new.stage r x (edited base r c.args.at t x) c.move_path.result) (sym c.in-Rename.is)
    (redrawn_changed S c.args.self.now c.move_path.new.stage r (changes.Rename c.in-Rename.from c.in-Rename.to) (edited base r c.args.at t (changes.Rename c.in-Rename.from c.in-Rename.to)) refl c.requires.store h c.move_path.result
    (subst (λ (l : Result Flat StreamFault). IsRedrawn S c.move_path.new.stage l c.move_path.result) (rename_is base r c.args.at t c.in-Rename.from c.in-Rename.to) (c.move_path.ensures t k)))

pub returns-in-Copy : goal.returns-in-Copy
returns-in-Copy g c = λ r t h k.
    let S = c.args.store.now in
    let base = base_in S (g.B.Base.commits c.args.base.now) (g.B.Base.refs c.args.base.now) (g.B.Base.blobs c.args.base.now) in
    subst (λ (x : Change). IsChanged S S c.args.self.now c.copy_path.new.stage r x (edited base r c.args.at t x) c.copy_path.result) (sym c.in-Copy.is)
    (redrawn_changed S c.args.self.now c.copy_path.new.stage r (changes.Copy c.in-Copy.from c.in-Copy.to) (edited base r c.args.at t (changes.Copy c.in-Copy.from c.in-Copy.to)) refl c.requires.store h c.copy_path.result
    (subst (λ (l : Result Flat StreamFault). IsRedrawn S c.copy_path.new.stage l c.copy_path.result) (copy_is base r c.args.at t c.in-Copy.from c.in-Copy.to) (c.copy_path.ensures t k)))

pub returns : goal.returns
returns g c = λ r t h k.
    let S = c.args.store.now in
    let base = base_in S (g.B.Base.commits c.args.base.now) (g.B.Base.refs c.args.base.now) (g.B.Base.blobs c.args.base.now) in
    subst (λ (x : Change). IsChanged S S c.args.self.now c.clear.new.self r x (edited base r c.args.at t x) (Ok tt)) (sym c.in-DeleteAll.is)
    (redrawn_changed S c.args.self.now c.clear.new.self r changes.DeleteAll (Ok []) refl c.requires.store h (Ok tt) (record { drawn = c.clear.ensures S k.store; not_drawn = tt }))

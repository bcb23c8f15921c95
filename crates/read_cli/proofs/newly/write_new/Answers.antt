-- Proves what src/newly.rt needs of `write_new`.
use Rattle.std.proofs.Common.{map}
use Rattle.git_objects.specs.Parts.{name_bytes}
use Rattle.fast_export.specs.Histories.{snapshots_at}
use Rattle.incremental_export.specs.ChangeTexts.{changes_text}
use Rattle.incremental_export.specs.Histories.{tree_in}
use Rattle.tag_objects.specs.Tags.{tags_text}
use Rattle.proj_commands.proofs.WrittenTags.{front-behind, front-first}
use Rattle.read_cli.proofs.newly.write_new.Goals as goal

pub returns-in-Err-Fault-clause-given : goal.returns-in-Err-Fault-clause-given
returns-in-Err-Fault-clause-given g c =
    front-first (g.O.Sink.written c.args.out.now) (g.O.Sink.written c.write_changes.new.sink)
    (changes_text (tree_in c.args.store.now) (snapshots_at c.args.store.now (map name_bytes c.args.names.now)) c.args.refname.now) (tags_text c.args.tags.now) c.in-Err-Fault.ensures.front

pub returns-in-Err-OutOfMemory-clause-given : goal.returns-in-Err-OutOfMemory-clause-given
returns-in-Err-OutOfMemory-clause-given g c =
    front-first (g.O.Sink.written c.args.out.now) (g.O.Sink.written c.write_changes.new.sink)
    (changes_text (tree_in c.args.store.now) (snapshots_at c.args.store.now (map name_bytes c.args.names.now)) c.args.refname.now) (tags_text c.args.tags.now) c.in-Err-OutOfMemory.ensures.front

pub returns-in-Err-Failed-clause-given : goal.returns-in-Err-Failed-clause-given
returns-in-Err-Failed-clause-given g c =
    front-behind (g.O.Sink.written c.args.out.now) (g.O.Sink.written c.write_changes.new.sink) (g.O.Sink.written c.write_tags.new.sink)
    (changes_text (tree_in c.args.store.now) (snapshots_at c.args.store.now (map name_bytes c.args.names.now)) c.args.refname.now) (tags_text c.args.tags.now) c.in-Ok.ensures.text c.in-Err-Failed.ensures.front

pub returns-in-Err-OutOfMemory-write_tags-clause-given : goal.returns-in-Err-OutOfMemory-write_tags-clause-given
returns-in-Err-OutOfMemory-write_tags-clause-given g c =
    front-behind (g.O.Sink.written c.args.out.now) (g.O.Sink.written c.write_changes.new.sink) (g.O.Sink.written c.write_tags.new.sink)
    (changes_text (tree_in c.args.store.now) (snapshots_at c.args.store.now (map name_bytes c.args.names.now)) c.args.refname.now) (tags_text c.args.tags.now) c.in-Ok.ensures.text c.in-Err-OutOfMemory-write_tags.ensures.front

-- Proves what src/exporting.rt needs of `write_tagged`.
use Rattle.std.proofs.Common.{map}
use Rattle.git_objects.specs.Parts.{name_bytes}
use Rattle.fast_export.specs.ExportTexts.{export_text}
use Rattle.fast_export.specs.Histories.{snapshots_at}
use Rattle.tag_objects.specs.Tags.{tags_text}
use Rattle.proj_commands.proofs.WrittenTags.{front-behind, front-first}
use Rattle.proj_commands.proofs.exporting.write_tagged.Goals as goal

pub returns-in-Err-clause-front : goal.returns-in-Err-clause-front
returns-in-Err-clause-front g c =
    front-first (g.O.Sink.written c.args.out.now) (g.O.Sink.written c.write_history.new.sink) (export_text (snapshots_at c.args.store.now (map name_bytes c.args.names.now)) c.args.refname.now) (tags_text c.args.tags.now)
    c.in-Err.ensures.front

pub returns-in-Err-Failed-clause-front : goal.returns-in-Err-Failed-clause-front
returns-in-Err-Failed-clause-front g c =
    front-behind (g.O.Sink.written c.args.out.now) (g.O.Sink.written c.write_history.new.sink) (g.O.Sink.written c.write_tags.new.sink)
    (export_text (snapshots_at c.args.store.now (map name_bytes c.args.names.now)) c.args.refname.now) (tags_text c.args.tags.now) c.in-Ok.ensures.text c.in-Err-Failed.ensures.front

pub returns-in-Err-OutOfMemory-clause-front : goal.returns-in-Err-OutOfMemory-clause-front
returns-in-Err-OutOfMemory-clause-front g c =
    front-behind (g.O.Sink.written c.args.out.now) (g.O.Sink.written c.write_history.new.sink) (g.O.Sink.written c.write_tags.new.sink)
    (export_text (snapshots_at c.args.store.now (map name_bytes c.args.names.now)) c.args.refname.now) (tags_text c.args.tags.now) c.in-Ok.ensures.text c.in-Err-OutOfMemory.ensures.front

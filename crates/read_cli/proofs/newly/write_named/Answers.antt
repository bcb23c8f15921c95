-- Proves what src/newly.rt needs of `write_named`.
use Rattle.std.proofs.Common.{◌++◌, map}
use Rattle.git_objects.specs.Parts.{name_bytes}
use Rattle.fast_export.specs.Histories.{snapshots_at}
use Rattle.incremental_export.specs.ChangeTexts.{changes_text}
use Rattle.incremental_export.specs.Histories.{tree_in}
use Rattle.proj_io.specs.Views.{sink_view}
use Rattle.tag_objects.specs.Tags.{tags_text}
use Rattle.proj_commands.proofs.WrittenTags.{front-first}
use Rattle.read_cli.proofs.Looked.{given-behind}
use Rattle.read_cli.proofs.newly.write_named.Goals as goal

pub returns-in-Err-Failed-clause-given : goal.returns-in-Err-Failed-clause-given
returns-in-Err-Failed-clause-given g c =
    front-first (g.O.Sink.written c.args.out.now) (g.O.Sink.written c.write_whole.new.sink) c.args.lines.now
    (changes_text (tree_in c.args.store.now) (snapshots_at c.args.store.now (map name_bytes c.args.names.now)) c.args.refname.now ++ tags_text c.args.tags.now) c.in-Err-Failed.ensures.err

pub returns-in-Err-OutOfMemory-clause-given : goal.returns-in-Err-OutOfMemory-clause-given
returns-in-Err-OutOfMemory-clause-given g c =
    front-first (g.O.Sink.written c.args.out.now) (g.O.Sink.written c.write_whole.new.sink) c.args.lines.now
    (changes_text (tree_in c.args.store.now) (snapshots_at c.args.store.now (map name_bytes c.args.names.now)) c.args.refname.now ++ tags_text c.args.tags.now) c.in-Err-OutOfMemory.ensures.err

pub returns-in-Ok-clause-given : goal.returns-in-Ok-clause-given
returns-in-Ok-clause-given g c =
    let seen = sink_view g.O.Sink.written g.O.Sink.faults g.O.Sink.refusals in
    given-behind c.args.lines.now
    (changes_text (tree_in c.args.store.now) (snapshots_at c.args.store.now (map name_bytes c.args.names.now)) c.args.refname.now ++ tags_text c.args.tags.now)
    (seen c.args.out.now) (seen c.write_whole.new.sink) (seen c.write_new.new.out) c.write_new.result c.write_new.ensures.outcome c.in-Ok.ensures.ok c.write_new.ensures.given

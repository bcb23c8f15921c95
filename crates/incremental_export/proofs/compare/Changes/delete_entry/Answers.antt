use Rattle.std.proofs.Common.{◌∙◌, sym}
use Rattle.std.proofs.lemmas.Result.{on_ok_weaker}
use Rattle.incremental_export.proofs.ComparedEntries.{gone_directory}
use Rattle.incremental_export.proofs.compare.Changes.delete_entry.Goals as goal

pub returns-then-is_dir : goal.returns-then-is_dir
returns-then-is_dir c =
    on_ok_weaker c.delete_below.result
    (gone_directory c.args.store.now c.requires.store c.args.entry.now (sym c.if-is_dir.ensures) c.requires.entry c.args.front.now c.deref.result.now (c.deref.ensures.value ∙ c.in_ok-inner.ensures)
    c.args.self.now c.delete_below.new.self)
    c.delete_below.ensures

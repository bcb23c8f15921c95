use Rattle.std.proofs.Common.{◌∙◌, sym}
use Rattle.std.proofs.lemmas.Result.{on_ok_weaker}
use Rattle.incremental_export.proofs.ComparedEntries.{new_directory}
use Rattle.incremental_export.proofs.compare.Changes.put_entry.Goals as goal

pub returns-then-is_dir : goal.returns-then-is_dir
returns-then-is_dir c =
    on_ok_weaker c.put_below.result
    (new_directory c.args.store.now c.requires.store c.args.entry.now (sym c.if-is_dir.ensures) c.requires.entry c.args.front.now c.deref.result.now (c.deref.ensures.value ∙ c.in_ok-inner.ensures)
    c.args.self.now c.put_below.new.self)
    c.put_below.ensures

use Rattle.std.proofs.Common.{◌∙◌, length, sym, subst}
use Rattle.std.specs.Io.KnownBytes.{Appends}
use Rattle.std.proofs.KnownBytes.{Appends-nil}
use Rattle.fast_export.proofs.Exported.{front_of, not_empty, text_of}
use Rattle.incremental_export.proofs.ChangesExported.{empty_text}
use Rattle.incremental_export.proofs.export.write_changes.Goals as goal

pub returns-then-is_empty-clause-text : goal.returns-then-is_empty-clause-text
returns-then-is_empty-clause-text g c =
    subst (Appends (g.O.Sink.written c.args.sink.now) (g.O.Sink.written c.args.sink.now))
    (sym (empty_text c.args.store.now c.args.commits.now c.args.refname.now (sym c.is_empty.ensures ∙ c.if-is_empty.true)))
    (Appends-nil (g.O.Sink.written c.args.sink.now))

pub write_text-requires-clause-some : goal.write_text-requires-clause-some
write_text-requires-clause-some g c = not_empty (length c.args.commits.now) (sym c.is_empty.ensures ∙ c.if-is_empty.false)

pub returns-clause-text : goal.returns-clause-text
returns-clause-text g c = text_of _ _ _ _ _ _ c.in_ok-kept.ensures.items c.write_text.ensures.none c.write_text.ensures.put

pub returns-clause-front : goal.returns-clause-front
returns-clause-front g c = front_of _ _ _ _ _ _ c.in_ok-kept.ensures.items c.write_text.ensures.put

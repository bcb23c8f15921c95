use Rattle.std.proofs.Common.{◌∙◌, ◌-◌, ℕ, map, ap, append-nil}
use Rattle.git_objects.specs.Parts.{name_bytes}
use Rattle.fast_export.specs.ExportTexts.{Marks}
use Rattle.fast_export.specs.Histories.{snapshots_at}
use Rattle.fast_export.proofs.Sent.{put_as, put_before, put_err, put_short, put_stop, put_then}
use Rattle.incremental_export.specs.Histories.{tree_in}
use Rattle.incremental_export.proofs.ChangesExported.{rest_text, whole_text}
use Rattle.incremental_export.proofs.export.write_text.Goals as goal

pub returns-in_err-write_commits-clause-put : goal.returns-in_err-write_commits-clause-put
returns-in_err-write_commits-clause-put g c =
    let rest = rest_text (tree_in c.args.store.now) (snapshots_at c.args.store.now (map name_bytes c.args.commits.now)) c.args.refname.now in
    put_err _ _ _ _ _ c.in_err-write_commits.field-0.0 _ c.from_residual.ensures.1 (put_as _ _ _ _ _ _ _ rest.1 (put_stop _ _ _ _ _ _ rest.0 _ c.in_err-write_commits.ensures.put))

pub returns-in_err-add_last-clause-put : goal.returns-in_err-add_last-clause-put
returns-in_err-add_last-clause-put g c =
    let rest = rest_text (tree_in c.args.store.now) (snapshots_at c.args.store.now (map name_bytes c.args.commits.now)) c.args.refname.now in
    put_err _ _ _ _ _ _ _ c.from_residual-in_err-add_last.ensures.1 (put_as _ _ _ _ _ _ _ rest.1 (put_short _ _ _ _ _ _ rest.0 c.in_ok-write_commits.ensures.put))

pub returns-clause-put : goal.returns-clause-put
returns-clause-put g c =
    let some = c.requires.some in
    let last = ap (λ (n : ℕ). n - 1) (c.next.ensures ∙ ap (λ (m : Marks). m.next) c.in_ok-write_commits.ensures.marks) in
    let whole = whole_text c.args.store.now c.args.commits.now c.args.refname.now (c.next.result - 1) (c.in_ok-write_commits.ensures.store some) c.requires.commits.held some last in
    put_as _ _ _ _ _ _ _ (append-nil _ ∙ whole) (put_then _ _ _ _ _ _ _ _ _ (put_before _ _ _ _ _ _ _ c.in_ok-add_last.ensures c.in_ok-write_commits.ensures.put) c.send.ensures.put)

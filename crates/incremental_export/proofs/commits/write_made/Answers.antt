use Rattle.std.proofs.Common.{ℕ, Global, Vec, [], ◌∷◌, ap}
use Rattle.std.specs.Prelude.{codes, flat_map}
use Rattle.git_objects.specs.Paths.{Bytes}
use Rattle.path_names.specs.Quoting.{quote}
use Rattle.fast_export.specs.ExportTexts.{line}
use Rattle.fast_export.specs.Given.{Given, leaf_text}
use Rattle.fast_export.proofs.Sent.{put_as, put_before, put_err, put_short, put_stop, put_then}
use Rattle.incremental_export.specs.declared.compare.Placed.{Placed}
use Rattle.incremental_export.proofs.CommitChanges.{made_text}
use Rattle.incremental_export.proofs.commits.write_made.Goals as goal

abbrev delete_text : Vec ℕ Global → Bytes
delete_text t = line (codes "D ") (quote t.items)

abbrev put_text : Given → Placed → Bytes
put_text g p = leaf_text g p.leaf p.path.items

pub returns-in_err-write_front : goal.returns-in_err-write_front
returns-in_err-write_front g c =
    let whole = made_text c.args.store.now c.args.refname.now c.next.result c.args.marks.now c.args.commit.now c.args.changes.now c.requires.changes c.requires.marks c.next.ensures in
    put_err _ _ _ _ _ c.in_err-write_front.field-0.0 _ c.from_residual.ensures.1
    (put_as _ _ _ _ _ _ _ whole (put_stop _ _ _ [] _ _ _ _ (put_stop _ _ _ [] _ _ _ _ (put_stop _ _ _ _ _ _ _ _ c.in_err-write_front.ensures))))

pub returns-in_err-write_deleted : goal.returns-in_err-write_deleted
returns-in_err-write_deleted g c =
    let whole = made_text c.args.store.now c.args.refname.now c.next.result c.args.marks.now c.args.commit.now c.args.changes.now c.requires.changes c.requires.marks c.next.ensures in
    put_err _ _ _ _ _ c.in_err-write_deleted.field-0.0 _ c.from_residual-in_err-write_deleted.ensures.1
    (put_as _ _ _ _ _ _ _ whole (put_stop _ _ _ [] _ _ _ _ (put_stop _ _ _ _ _ _ _ _
    (put_then _ _ _ _ _ _ _ _ _ c.in_ok-write_front.ensures (put_as _ _ _ _ _ _ _ (ap (flat_map delete_text) c.deref.ensures.value) c.in_err-write_deleted.ensures)))))

pub returns-in_err-write_put : goal.returns-in_err-write_put
returns-in_err-write_put g c =
    let whole = made_text c.args.store.now c.args.refname.now c.next.result c.args.marks.now c.args.commit.now c.args.changes.now c.requires.changes c.requires.marks c.next.ensures in
    put_err _ _ _ _ _ c.in_err-write_put.field-0.0 _ c.from_residual-in_err-write_put.ensures.1
    (put_as _ _ _ _ _ _ _ whole (put_stop _ _ _ _ _ _ _ _ (put_then _ _ _ _ _ _ _ _ _
    (put_then _ _ _ _ _ _ _ _ _ c.in_ok-write_front.ensures (put_as _ _ _ _ _ _ _ (ap (flat_map delete_text) c.deref.ensures.value) c.in_ok-write_deleted.ensures))
    (put_as _ _ _ _ _ _ _ (ap (flat_map (put_text c.args.marks.now)) c.deref-2.ensures.value) c.in_err-write_put.ensures))))

pub returns-in_err-push : goal.returns-in_err-push
returns-in_err-push g c =
    let whole = made_text c.args.store.now c.args.refname.now c.next.result c.args.marks.now c.args.commit.now c.args.changes.now c.requires.changes c.requires.marks c.next.ensures in
    put_err _ _ _ _ _ _ _ c.from_residual-in_err-push.ensures.1
    (put_as _ _ _ _ _ _ _ whole (put_short _ _ _ _ _ _ _ (put_then _ _ _ _ _ _ _ _ _
    (put_then _ _ _ _ _ _ _ _ _ c.in_ok-write_front.ensures (put_as _ _ _ _ _ _ _ (ap (flat_map delete_text) c.deref.ensures.value) c.in_ok-write_deleted.ensures))
    (put_as _ _ _ _ _ _ _ (ap (flat_map (put_text c.args.marks.now)) c.deref-2.ensures.value) c.in_ok-write_put.ensures))))

pub returns : goal.returns
returns g c =
    let whole = made_text c.args.store.now c.args.refname.now c.next.result c.args.marks.now c.args.commit.now c.args.changes.now c.requires.changes c.requires.marks c.next.ensures in
    put_as _ _ _ _ _ _ _ whole (put_before _ _ _ _ _ _ _ c.in_ok-push.ensures.items (put_then _ _ _ _ _ _ _ _ _
    (put_then _ _ _ _ _ _ _ _ _ c.in_ok-write_front.ensures (put_as _ _ _ _ _ _ _ (ap (flat_map delete_text) c.deref.ensures.value) c.in_ok-write_deleted.ensures))
    (put_as _ _ _ _ _ _ _ (ap (flat_map (put_text c.args.marks.now)) c.deref-2.ensures.value) c.in_ok-write_put.ensures)))

use Rattle.std.proofs.Common.{◌∙◌, append-nil, List, [], ap, sym, subst}
use Rattle.std.specs.Map.{lookup}
use Rattle.git_objects.specs.Lists.{Each}
use Rattle.git_objects.specs.declared.kind.Kind.TheVariants.{Tree}
use Rattle.object_store.specs.Objects.{has}
use Rattle.object_store.proofs.StoredCommits.{commit-read}
use Rattle.fast_export.specs.Given.{is_named, marks_in, with_blobs}
use Rattle.fast_export.proofs.Sent.{put_as, put_err, put_none, put_short, put_stop, put_then}
use Rattle.fast_export.proofs.StoredHistories.{told_commit}
use Rattle.fast_export.proofs.WrittenBlobs.{blobs_text}
use Rattle.incremental_export.specs.Compared.{IsHeldLeaf, IsHeldTree}
use Rattle.incremental_export.specs.Written.{flat_of}
use Rattle.incremental_export.specs.declared.compare.Placed.{Placed}
use Rattle.incremental_export.proofs.CommitChanges.{the_changes, told_held}
use Rattle.incremental_export.proofs.StoredChanges.{commit_begun, commit_put, marks_put, names_put, still_given}
use Rattle.incremental_export.proofs.WantedNames.{never_gone}
use Rattle.incremental_export.proofs.commits.write_commit.Goals as goal

pub unreachable-requires : goal.unreachable-requires
unreachable-requires g c = never_gone c.args.store.now c.args.name.now.0 c.in_default.ensures.store c.requires.commit c.in_default.ensures.object

pub unreachable-requires-in_default-of : goal.unreachable-requires-in_default-of
unreachable-requires-in_default-of g c =
    commit-read c.args.store.now c.args.name.now.0 _ c.in-Some.ensures.store c.requires.commit c.in-Some.ensures.object (sym c.in_default-of.ensures.commit)

pub tree_upon-requires : goal.tree_upon-requires
tree_upon-requires g c = told_held c.args.store.now c.args.name.now.0 _ c.in-Some-of.commit c.in-Some.ensures.store c.requires.commit c.in-Some.ensures.object c.in-Some-of.ensures.commit

pub tree_changes-requires-clause-from : goal.tree_changes-requires-clause-from
tree_changes-requires-clause-from g c = subst (IsHeldTree c.args.store.now) (sym c.as_ref.ensures.value) c.tree_upon.ensures.held

pub tree_changes-requires-clause-to : goal.tree_changes-requires-clause-to
tree_changes-requires-clause-to g c =
    let stored = told_commit c.args.store.now c.args.name.now.0 _ c.in-Some-of.commit c.in-Some.ensures.store c.requires.commit c.in-Some.ensures.object c.in-Some-of.ensures.commit in
    ap (has Tree c.args.store.now) c.tree.ensures ∙ stored.tree

pub write_blobs-requires-clause-leaves : goal.write_blobs-requires-clause-leaves
write_blobs-requires-clause-leaves g c = subst (Each (IsHeldLeaf c.args.store.now)) (sym {A = List Placed} c.deref.ensures.value) c.in_ok-changes.ensures.held

pub write_blobs-requires-clause-marks : goal.write_blobs-requires-clause-marks
write_blobs-requires-clause-marks g c = c.requires.given

pub write_made-requires-clause-changes : goal.write_made-requires-clause-changes
write_made-requires-clause-changes g c =
    let S = c.args.store.now in
    let stored = told_commit S c.args.name.now.0 _ c.in-Some-of.commit c.in-Some.ensures.store c.requires.commit c.in-Some.ensures.object c.in-Some-of.ensures.commit in
    let changes = the_changes S c.in-Some-of.commit c.in_ok-changes.changes c.tree_upon.result c.as_ref.result c.tree.result.0 c.as_ref.ensures.value c.tree_upon.ensures.tree c.tree.ensures
    c.in_ok-changes.ensures.deleted c.in_ok-changes.ensures.put c.in_ok-changes.ensures.held in
    changes

pub write_made-requires-clause-marks : goal.write_made-requires-clause-marks
write_made-requires-clause-marks g c = c.in_ok-write_blobs.ensures.given.held

pub add_commit-requires : goal.add_commit-requires
add_commit-requires g c = ap (lookup (is_named c.args.name.now)) c.in_ok-write_blobs.ensures.commits ∙ c.requires.new

pub returns-in_err-changes-clause-put : goal.returns-in_err-changes-clause-put
returns-in_err-changes-clause-put g c = put_err _ _ _ _ _ _ _ c.from_residual.ensures.1 (put_none _ _ _ _)

pub returns-in_err-write_blobs-clause-put : goal.returns-in_err-write_blobs-clause-put
returns-in_err-write_blobs-clause-put g c =
    let S = c.args.store.now in
    let stored = told_commit S c.args.name.now.0 _ c.in-Some-of.commit c.in-Some.ensures.store c.requires.commit c.in-Some.ensures.object c.in-Some-of.ensures.commit in
    let changes = the_changes S c.in-Some-of.commit c.in_ok-changes.changes c.tree_upon.result c.as_ref.result c.tree.result.0 c.as_ref.ensures.value c.tree_upon.ensures.tree c.tree.ensures
    c.in_ok-changes.ensures.deleted c.in_ok-changes.ensures.put c.in_ok-changes.ensures.held in
    put_err _ _ _ _ _ c.in_err-write_blobs.field-0.0 _ c.from_residual-in_err-write_blobs.ensures.1
    (put_as _ _ _ _ _ _ _ (commit_begun S c.args.name.now c.in-Some-of.commit stored c.in_ok-changes.changes changes c.args.marks.now c.args.refname.now)
    (put_stop _ _ _ _ _ _ _ _ (put_as _ _ _ _ _ _ _ (ap (λ ps. blobs_text (marks_in S c.args.marks.now) (flat_of S ps)) c.deref.ensures.value) c.in_err-write_blobs.ensures.put)))

pub returns-in_err-write_made-clause-put : goal.returns-in_err-write_made-clause-put
returns-in_err-write_made-clause-put g c =
    let S = c.args.store.now in
    let stored = told_commit S c.args.name.now.0 _ c.in-Some-of.commit c.in-Some.ensures.store c.requires.commit c.in-Some.ensures.object c.in-Some-of.ensures.commit in
    let changes = the_changes S c.in-Some-of.commit c.in_ok-changes.changes c.tree_upon.result c.as_ref.result c.tree.result.0 c.as_ref.ensures.value c.tree_upon.ensures.tree c.tree.ensures
    c.in_ok-changes.ensures.deleted c.in_ok-changes.ensures.put c.in_ok-changes.ensures.held in
    let blobs = c.in_ok-write_blobs.ensures.marks ∙ ap (λ ps. with_blobs (marks_in S c.args.marks.now) (flat_of S ps)) c.deref.ensures.value in
    put_err _ _ _ _ _ c.in_err-write_made.field-0.0 _ c.from_residual-in_err-write_made.ensures.1
    (put_as _ _ _ _ _ _ _ (commit_put S c.args.name.now c.in-Some-of.commit stored c.in_ok-changes.changes changes c.args.marks.now c.write_blobs.new.marks blobs c.args.refname.now)
    (put_then _ _ _ _ _ _ _ _ _ (put_as _ _ _ _ _ _ _ (ap (λ ps. blobs_text (marks_in S c.args.marks.now) (flat_of S ps)) c.deref.ensures.value) c.in_ok-write_blobs.ensures.put) c.in_err-write_made.ensures))

pub returns-in_err-add_commit-clause-put : goal.returns-in_err-add_commit-clause-put
returns-in_err-add_commit-clause-put g c =
    let S = c.args.store.now in
    let stored = told_commit S c.args.name.now.0 _ c.in-Some-of.commit c.in-Some.ensures.store c.requires.commit c.in-Some.ensures.object c.in-Some-of.ensures.commit in
    let changes = the_changes S c.in-Some-of.commit c.in_ok-changes.changes c.tree_upon.result c.as_ref.result c.tree.result.0 c.as_ref.ensures.value c.tree_upon.ensures.tree c.tree.ensures
    c.in_ok-changes.ensures.deleted c.in_ok-changes.ensures.put c.in_ok-changes.ensures.held in
    let blobs = c.in_ok-write_blobs.ensures.marks ∙ ap (λ ps. with_blobs (marks_in S c.args.marks.now) (flat_of S ps)) c.deref.ensures.value in
    put_err _ _ _ _ _ _ _ c.from_residual-in_err-add_commit.ensures.1
    (put_as _ _ _ _ _ _ _ (append-nil _ ∙ commit_put S c.args.name.now c.in-Some-of.commit stored c.in_ok-changes.changes changes c.args.marks.now c.write_blobs.new.marks blobs c.args.refname.now)
    (put_short _ _ _ _ _ _ [] (put_then _ _ _ _ _ _ _ _ _ (put_as _ _ _ _ _ _ _ (ap (λ ps. blobs_text (marks_in S c.args.marks.now) (flat_of S ps)) c.deref.ensures.value) c.in_ok-write_blobs.ensures.put) c.in_ok-write_made.ensures)))

pub returns-clause-put : goal.returns-clause-put
returns-clause-put g c =
    let S = c.args.store.now in
    let stored = told_commit S c.args.name.now.0 _ c.in-Some-of.commit c.in-Some.ensures.store c.requires.commit c.in-Some.ensures.object c.in-Some-of.ensures.commit in
    let changes = the_changes S c.in-Some-of.commit c.in_ok-changes.changes c.tree_upon.result c.as_ref.result c.tree.result.0 c.as_ref.ensures.value c.tree_upon.ensures.tree c.tree.ensures
    c.in_ok-changes.ensures.deleted c.in_ok-changes.ensures.put c.in_ok-changes.ensures.held in
    let blobs = c.in_ok-write_blobs.ensures.marks ∙ ap (λ ps. with_blobs (marks_in S c.args.marks.now) (flat_of S ps)) c.deref.ensures.value in
    put_as _ _ _ _ _ _ _ (commit_put S c.args.name.now c.in-Some-of.commit stored c.in_ok-changes.changes changes c.args.marks.now c.write_blobs.new.marks blobs c.args.refname.now)
    (put_then _ _ _ _ _ _ _ _ _ (put_as _ _ _ _ _ _ _ (ap (λ ps. blobs_text (marks_in S c.args.marks.now) (flat_of S ps)) c.deref.ensures.value) c.in_ok-write_blobs.ensures.put) c.in_ok-write_made.ensures)

pub returns-clause-marks : goal.returns-clause-marks
returns-clause-marks g c =
    let S = c.args.store.now in
    let stored = told_commit S c.args.name.now.0 _ c.in-Some-of.commit c.in-Some.ensures.store c.requires.commit c.in-Some.ensures.object c.in-Some-of.ensures.commit in
    let changes = the_changes S c.in-Some-of.commit c.in_ok-changes.changes c.tree_upon.result c.as_ref.result c.tree.result.0 c.as_ref.ensures.value c.tree_upon.ensures.tree c.tree.ensures
    c.in_ok-changes.ensures.deleted c.in_ok-changes.ensures.put c.in_ok-changes.ensures.held in
    let blobs = c.in_ok-write_blobs.ensures.marks ∙ ap (λ ps. with_blobs (marks_in S c.args.marks.now) (flat_of S ps)) c.deref.ensures.value in
    marks_put S c.args.name.now c.in-Some-of.commit stored c.in_ok-changes.changes changes c.args.marks.now c.write_blobs.new.marks blobs c.add_commit.new.self c.in_ok-add_commit.ensures.ok

pub returns-clause-given : goal.returns-clause-given
returns-clause-given g c = still_given c.args.store.now c.args.name.now c.write_blobs.new.marks c.add_commit.new.self c.in_ok-add_commit.ensures.ok c.in_ok-write_blobs.ensures.given

pub returns-clause-names : goal.returns-clause-names
returns-clause-names g c = names_put c.args.name.now c.args.marks.now c.write_blobs.new.marks c.add_commit.new.self c.in_ok-write_blobs.ensures.commits c.in_ok-add_commit.ensures.ok

pub returns-clause-store : goal.returns-clause-store
returns-clause-store g c = c.in-Some.ensures.store

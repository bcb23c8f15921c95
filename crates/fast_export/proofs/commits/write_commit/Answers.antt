use Rattle.std.proofs.Common.{◌≡◌, ◌∙◌, List, sym, ap, Some, None, true}
use Rattle.git_objects.specs.Paths.{Bytes}
use Rattle.std.proofs.lemmas.Result.{on_ok_weaker}
use Rattle.git_objects.specs.declared.kind.Kind.TheVariants.{Commit as CommitKind, Tree}
use Rattle.object_store.specs.Objects.{Object, IsStore, find_named, has}
use Rattle.object_store.specs.Unfolding.{flat}
use Rattle.object_store.proofs.Parts.{find-has}
use Rattle.object_store.proofs.StoredCommits.{commit-read}
use Rattle.fast_export.specs.Given.{marks_in, with_blobs}
use Rattle.fast_export.proofs.Sent.{put_as, put_err, put_short, put_stop, put_then, whenever}
use Rattle.fast_export.proofs.StoredHistories.{commit_begun, commit_put, marks_put, still_written, told_commit, tree_has_marks}
use Rattle.fast_export.proofs.WrittenBlobs.{blobs_text}
use Rattle.fast_export.proofs.commits.write_commit.Goals as goal

never : (S : List Object) (n : Bytes) → IsStore S → has CommitKind S n ≡ true → None ≡ find_named S n → ⊥
never S n s h e = let f : None ≡ Some _ = e ∙ find-has S CommitKind n s h in cc

pub unreachable-requires : goal.unreachable-requires
unreachable-requires g c = never c.args.store.now c.args.name.now.0 c.in_default.ensures.store c.requires.commit c.in_default.ensures.object

pub unreachable-requires-in_default-of : goal.unreachable-requires-in_default-of
unreachable-requires-in_default-of g c =
    commit-read c.args.store.now c.args.name.now.0 _ c.in-Some.ensures.store c.requires.commit c.in-Some.ensures.object (sym c.in_default-of.ensures.commit)

pub write_new_blobs-requires-clause-tree : goal.write_new_blobs-requires-clause-tree
write_new_blobs-requires-clause-tree g c =
    let stored = told_commit c.args.store.now c.args.name.now.0 _ c.in-Some-of.commit c.in-Some.ensures.store c.requires.commit c.in-Some.ensures.object c.in-Some-of.ensures.commit in
    ap (has Tree c.args.store.now) c.tree.ensures ∙ stored.tree

pub write_made-requires-clause-tree : goal.write_made-requires-clause-tree
write_made-requires-clause-tree g c =
    (told_commit c.args.store.now c.args.name.now.0 _ c.in-Some-of.commit c.in-Some.ensures.store c.requires.commit c.in-Some.ensures.object c.in-Some-of.ensures.commit).tree

pub returns-in_err-write_new_blobs-clause-put : goal.returns-in_err-write_new_blobs-clause-put
returns-in_err-write_new_blobs-clause-put g c =
    let S = c.args.store.now in
    let stored = told_commit S c.args.name.now.0 _ c.in-Some-of.commit c.in-Some.ensures.store c.requires.commit c.in-Some.ensures.object c.in-Some-of.ensures.commit in
    put_err _ _ _ _ _ c.in_err-write_new_blobs.field-0.0 _ c.from_residual.ensures.1
    (put_as _ _ _ _ _ _ _ (commit_begun S c.args.name.now c.in-Some-of.commit stored c.args.marks.now c.args.refname.now c.tree.result.0 c.tree.ensures)
    (put_stop _ _ _ _ _ _ _ _ c.in_err-write_new_blobs.ensures.put))

pub returns-in_err-add_commit-clause-put : goal.returns-in_err-add_commit-clause-put
returns-in_err-add_commit-clause-put g c =
    let S = c.args.store.now in
    let stored = told_commit S c.args.name.now.0 _ c.in-Some-of.commit c.in-Some.ensures.store c.requires.commit c.in-Some.ensures.object c.in-Some-of.ensures.commit in
    put_err _ _ _ _ _ _ _ c.from_residual-in_err-add_commit.ensures.1
    (put_as _ _ _ _ _ _ _ (commit_begun S c.args.name.now c.in-Some-of.commit stored c.args.marks.now c.args.refname.now c.tree.result.0 c.tree.ensures)
    (put_short _ _ _ _ _ _ _ c.in_ok-write_new_blobs.ensures.put))

pub returns-clause-put : goal.returns-clause-put
returns-clause-put g c =
    let S = c.args.store.now in
    let stored = told_commit S c.args.name.now.0 _ c.in-Some-of.commit c.in-Some.ensures.store c.requires.commit c.in-Some.ensures.object c.in-Some-of.ensures.commit in
    let blobs = c.in_ok-write_new_blobs.ensures.marks ∙ ap (λ (n : Bytes). with_blobs (marks_in S c.args.marks.now) (flat S n)) c.tree.ensures in
    put_as _ _ _ _ _ _ _
    (commit_put S c.args.name.now c.in-Some-of.commit stored c.args.marks.now c.write_new_blobs.new.marks c.add_commit.new.self blobs c.in_ok-add_commit.ensures.ok c.args.refname.now c.next-number.result c.next-number.ensures)
    (put_then _ _ _ _ _ _ _ _ _ (put_as _ _ _ _ _ _ _ (ap (λ (n : Bytes). blobs_text (marks_in S c.args.marks.now) (flat S n)) c.tree.ensures) c.in_ok-write_new_blobs.ensures.put) c.write_made.ensures.put)

pub returns-clause-marks : goal.returns-clause-marks
returns-clause-marks g c =
    let S = c.args.store.now in
    let stored = told_commit S c.args.name.now.0 _ c.in-Some-of.commit c.in-Some.ensures.store c.requires.commit c.in-Some.ensures.object c.in-Some-of.ensures.commit in
    let blobs = c.in_ok-write_new_blobs.ensures.marks ∙ ap (λ (n : Bytes). with_blobs (marks_in S c.args.marks.now) (flat S n)) c.tree.ensures in
    whenever c.write_made.result _ (marks_put S c.args.name.now c.in-Some-of.commit stored c.args.marks.now c.write_new_blobs.new.marks c.add_commit.new.self blobs c.in_ok-add_commit.ensures.ok)

pub write_made-requires-clause-marked : goal.write_made-requires-clause-marked
write_made-requires-clause-marked g c =
    let S = c.args.store.now in
    let blobs = c.in_ok-write_new_blobs.ensures.marks ∙ ap (λ (n : Bytes). with_blobs (marks_in S c.args.marks.now) (flat S n)) c.tree.ensures in
    let all = still_written S c.args.name.now c.in-Some-of.commit c.args.marks.now c.write_new_blobs.new.marks c.add_commit.new.self c.args.kept.now.lines blobs c.in_ok-add_commit.ensures.ok c.requires.given c.in_ok-write_new_blobs.ensures.given in
    record { store = c.in-Some.ensures.store; held = all.given.held }

pub write_made-requires-clause-marks : goal.write_made-requires-clause-marks
write_made-requires-clause-marks g c =
    let S = c.args.store.now in
    let blobs = c.in_ok-write_new_blobs.ensures.marks ∙ ap (λ (n : Bytes). with_blobs (marks_in S c.args.marks.now) (flat S n)) c.tree.ensures in
    tree_has_marks S c.args.name.now c.in-Some-of.commit.tree c.args.marks.now c.write_new_blobs.new.marks c.add_commit.new.self blobs c.in_ok-add_commit.ensures.ok

pub write_made-requires-clause-known : goal.write_made-requires-clause-known
write_made-requires-clause-known g c =
    let S = c.args.store.now in
    let blobs = c.in_ok-write_new_blobs.ensures.marks ∙ ap (λ (n : Bytes). with_blobs (marks_in S c.args.marks.now) (flat S n)) c.tree.ensures in
    (still_written S c.args.name.now c.in-Some-of.commit c.args.marks.now c.write_new_blobs.new.marks c.add_commit.new.self c.args.kept.now.lines blobs c.in_ok-add_commit.ensures.ok c.requires.given c.in_ok-write_new_blobs.ensures.given).lines

pub returns-clause-given : goal.returns-clause-given
returns-clause-given g c =
    let S = c.args.store.now in
    let blobs = c.in_ok-write_new_blobs.ensures.marks ∙ ap (λ (n : Bytes). with_blobs (marks_in S c.args.marks.now) (flat S n)) c.tree.ensures in
    let all = still_written S c.args.name.now c.in-Some-of.commit c.args.marks.now c.write_new_blobs.new.marks c.add_commit.new.self c.args.kept.now.lines blobs c.in_ok-add_commit.ensures.ok c.requires.given c.in_ok-write_new_blobs.ensures.given in
    on_ok_weaker c.write_made.result (λ k. record { given = all.given; lines = k }) c.write_made.ensures.known

use Rattle.std.proofs.Common.{◌≡◌, ℕ, ◌++◌, List, [], ◌∷◌, codes, decimal, flat_map, length, map, ap, append_assoc}
use Rattle.std.specs.Prelude.{if◌then◌else◌}
use Rattle.git_objects.specs.Paths.{Bytes, is_nil}
use Rattle.git_objects.specs.Commits.{Commit}
use Rattle.object_store.specs.Objects.{Object}
use Rattle.object_store.specs.StoredSnapshots.{snapshot_of}
use Rattle.object_store.specs.Unfolding.{flat}
use Rattle.fast_export.specs.ExportTexts.{commit_text, leaf_line, line, mark_line}
use Rattle.fast_export.specs.Given.{Given, commit_mark, front_text, marks_in}
use Rattle.fast_export.specs.MarkedStores.{blobs_of}
use Rattle.fast_export.proofs.ParentLines.{all_parents}
use Rattle.fast_export.proofs.Sent.{put_as, put_before, put_err, put_short, put_stop, put_then}
use Rattle.fast_export.proofs.commits.write_made.Goals as goal

letter_parts : (x a b d m f : Bytes) → ((((x ++ a) ++ b) ++ d) ++ m) ++ f ≡ x ++ ((a ++ b) ++ ((d ++ m) ++ f))
letter_parts x a b d m f = simp append_assoc

module _ (S : List Object) (refname : Bytes) (number : ℕ) (g : Given) (c : Commit) where
  abbrev first : Bytes
  first = (if is_nil c.parents then line (codes "reset ") refname else []) ++ line (codes "commit ") refname ++ mark_line (codes "mark ") number

  abbrev leaves : Bytes
  leaves = flat_map (leaf_line (marks_in S g).blobs) (flat S c.tree)

  whole : (front_text refname number (map commit_mark g.commits) c ++ leaves) ++ 10 ∷ [] ≡ commit_text refname number (marks_in S g) (snapshot_of S c)
  whole =
      (λ i. (((letter_parts first (line (codes "author ") c.letter.author) (line (codes "committer ") c.letter.committer) (line (codes "data ") (decimal (length c.letter.message))) c.letter.message (10 ∷ []) i
      ++ all_parents (map commit_mark g.commits) c.parents i) ++ codes "deleteall\n") ++ leaves) ++ 10 ∷ [])

pub returns-in_err-write_front-clause-put : goal.returns-in_err-write_front-clause-put
returns-in_err-write_front-clause-put g c =
    put_err _ _ _ _ _ c.in_err-write_front.field-0.0 _ c.from_residual.ensures.1
    (put_as _ _ _ _ _ _ _ (whole c.args.marked.now.store.now c.args.refname.now c.args.number c.args.marked.now.marks.now c.args.commit.now)
    (put_stop _ _ _ [] _ _ _ _ (put_stop _ _ _ _ _ _ _ _ c.in_err-write_front.ensures)))

pub returns-in_err-write_lines-clause-put : goal.returns-in_err-write_lines-clause-put
returns-in_err-write_lines-clause-put g c =
    put_err _ _ _ _ _ c.in_err-write_lines.field-0.0 _ c.from_residual-in_err-write_lines.ensures.1
    (put_as _ _ _ _ _ _ _ (whole c.args.marked.now.store.now c.args.refname.now c.args.number c.args.marked.now.marks.now c.args.commit.now)
    (put_stop _ _ _ _ _ _ _ _ (put_then _ _ _ _ _ _ _ _ _ c.in_ok-write_front.ensures (put_as _ _ _ _ _ _ _ (ap (λ n. flat_map (leaf_line (blobs_of c.args.marked.now)) (flat c.args.marked.now.store.now n)) c.tree.ensures) c.in_err-write_lines.ensures.put))))

pub returns-in_err-push-clause-put : goal.returns-in_err-push-clause-put
returns-in_err-push-clause-put g c =
    put_err _ _ _ _ _ _ _ c.from_residual-in_err-push.ensures.1
    (put_as _ _ _ _ _ _ _ (whole c.args.marked.now.store.now c.args.refname.now c.args.number c.args.marked.now.marks.now c.args.commit.now)
    (put_short _ _ _ _ _ _ _ (put_then _ _ _ _ _ _ _ _ _ c.in_ok-write_front.ensures (put_as _ _ _ _ _ _ _ (ap (λ n. flat_map (leaf_line (blobs_of c.args.marked.now)) (flat c.args.marked.now.store.now n)) c.tree.ensures) c.in_ok-write_lines.ensures.put))))

pub returns-clause-put : goal.returns-clause-put
returns-clause-put g c =
    put_as _ _ _ _ _ _ _ (whole c.args.marked.now.store.now c.args.refname.now c.args.number c.args.marked.now.marks.now c.args.commit.now)
    (put_before _ _ _ _ _ _ _ c.in_ok-push.ensures.items (put_then _ _ _ _ _ _ _ _ _ c.in_ok-write_front.ensures (put_as _ _ _ _ _ _ _ (ap (λ n. flat_map (leaf_line (blobs_of c.args.marked.now)) (flat c.args.marked.now.store.now n)) c.tree.ensures) c.in_ok-write_lines.ensures.put)))

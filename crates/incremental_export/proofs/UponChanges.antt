-- Reading and replaying the lines of a commit's changes.
use Rattle.std.proofs.Common.{◌≡◌, ℕ, ◌≤◌, true, List, [], ◌∷◌, ◌++◌, length, refl, sym, ap, subst, arith, length-append}
use Rattle.std.specs.Prelude.{codes}
use Rattle.git_objects.specs.Paths.{Bytes, Path, is_path, text}
use Rattle.git_objects.specs.Trees.{Leaf, Flat, LeafNode, put, remove}
use Rattle.git_objects.specs.Commits.{Letter}
use Rattle.git_objects.specs.Lists.{Each}
use Rattle.path_names.specs.Quoting.{quote}
use Rattle.stream_lex.specs.Cutting.{judged, pure}
use Rattle.stream_lex.specs.Lines.{Input}
use Rattle.stream_reader.specs.Changes.{DeleteIs, change}
use Rattle.stream_reader.specs.Commands.{turn}
use Rattle.stream_reader.specs.PathWords.{last_path}
use Rattle.stream_reader.specs.declared.command.Change.TheVariants as changes
use Rattle.stream_reader.proofs.SpelledChanges.{delete_again}
use Rattle.fast_import.specs.Replays.{Base, Marked, Replay}
use Rattle.fast_export.proofs.Changing.{IsReadable, changed_reads, inside_turn, is_change, last_says, leaf_change, leaf_line_is, leaf_text, leaf_turn, quote_plain}
use Rattle.fast_export.proofs.Goings.{Reads, is_command, judged_reads, then_reads}
use Rattle.fast_export.proofs.Heads.{inside, line_behind, pure_reads, word_text}
use Rattle.fast_export.proofs.ReadLines.{IsLine, Room, left}
use Rattle.fast_export.proofs.Stepping.{Drafting, NamesLeaf}
use Rattle.fast_export.proofs.Texts.{leaf_mark, leaves_lines}
use Rattle.incremental_export.specs.Changes.{with_all, without_all}
use Rattle.incremental_export.proofs.UponGoings.{Arrives, command_goes, goes, stays}
use Rattle.incremental_export.proofs.UponParents.{Starts}
use Rattle.incremental_export.proofs.UponSteps.{delete_step, put_step}
use Rattle.incremental_export.proofs.UponTexts.{change_lines, deletes_lines}

-- ---- a path that is deleted

delete_line_is : (p : Path) → IsLine (codes "D " ++ quote (text p))
delete_line_is p = record { plain = quote_plain (text p); seen = refl }

delete_reads : (at : ℕ) (p : Path) (i : Input) → is_path p ≡ true → Reads (change at (DeleteIs (quote (text p))) true i) (λ d. d ≡ changes.Delete p) i
unfolding change
delete_reads at p i h =
    then_reads (judged (last_path at (quote (text p)))) (λ q. pure (changes.Delete q)) i i i (λ q. q ≡ p) (λ d. d ≡ changes.Delete p)
    (judged_reads (last_path at (quote (text p))) i (λ q. q ≡ p) (last_says at p h))
    (λ q e. pure_reads (changes.Delete q) i (λ d. d ≡ changes.Delete p) (ap changes.Delete e))

delete_turn : (p : Path) (n : ℕ) (rest : Bytes) → Room n (word_text (codes "D ") (quote (text p)) rest) → is_path p ≡ true →
    Reads (turn inside true (left n (word_text (codes "D ") (quote (text p)) rest))) (is_command (is_change (changes.Delete p)) inside) (left n rest)
delete_turn p n rest r h =
    inside_turn n (codes "D " ++ quote (text p)) rest (DeleteIs (quote (text p))) (is_command (is_change (changes.Delete p)) inside) (left n rest) r (delete_line_is p) (delete_again (quote (text p)))
    (λ at. changed_reads (change at (DeleteIs (quote (text p)))) (left n rest) (left n rest) at (changes.Delete p) (delete_reads at p (left n rest) h))

-- ---- leaves that are put

-- a leaf whose line can be read, and whose mark names its blob
pub record IsPuttable (blobs : List (ℕ × Bytes)) (marks : List (ℕ × Marked)) (e : Path × Leaf) : Type 0 where
  pub path : is_path e.0 ≡ true
  pub reads : IsReadable (leaf_mark blobs e.1) e.1
  pub names : NamesLeaf marks (leaf_mark blobs e.1) e.1

-- the lines of changes begin with none that names a parent
pub change_starts : (blobs : List (ℕ × Bytes)) (marks : List (ℕ × Marked)) (ds : List Path) (es : Flat) (rest : Bytes) → Each (IsPuttable blobs marks) es → Starts (change_lines blobs ds es rest)
change_starts blobs marks [] [] rest h = record { first = []; rest = rest; same = refl; line = record { plain = refl; seen = refl }; no_from = refl; no_merge = refl }
change_starts blobs marks [] (e ∷ es) rest h = record {
  first = codes "M " ++ leaf_text (leaf_mark blobs e.1) e.0 e.1;
  rest = leaves_lines blobs es (10 ∷ rest);
  same = refl;
  line = leaf_line_is (leaf_mark blobs e.1) e.0 e.1 h.0.reads;
  no_from = refl;
  no_merge = refl;
}
change_starts blobs marks (p ∷ ds) es rest h = record {
  first = codes "D " ++ quote (text p);
  rest = change_lines blobs ds es rest;
  same = refl;
  line = delete_line_is p;
  no_from = refl;
  no_merge = refl;
}

-- ---- all changes

module _ (base : Base) (n : ℕ) (r : Replay) (ref : Bytes) (number : ℕ) (l : Letter) (ps : List Bytes) where
  abbrev Drafts : Flat → Replay → Type 0
  Drafts t s = Drafting r ref number l ps t s

  pub deletes_arrive : (ds : List Path) (t : Flat) (rest : Bytes) (s : Replay) → Each (λ p. is_path p ≡ true) ds → Room n (deletes_lines ds rest) → Drafting r ref number l ps t s →
      Arrives base inside (left n (deletes_lines ds rest)) s inside (left n rest) (Drafting r ref number l ps (without_all ds t))
  deletes_arrive [] t rest s h room d = stays base inside (left n rest) s (Drafts t) d
  deletes_arrive (p ∷ ds) t rest s h room d =
      let more = deletes_lines ds rest in
      goes base inside inside inside (left n (deletes_lines (p ∷ ds) rest)) (left n more) (left n rest) s (Drafts (remove t p)) (Drafts (without_all (p ∷ ds) t))
      (command_goes base inside inside (left n (deletes_lines (p ∷ ds) rest)) (left n more) s (is_change (changes.Delete p)) (Drafts (remove t p))
      (delete_turn p n more room h.0) (λ c g. delete_step base r ref number l ps t s c p d g))
      (λ u g. deletes_arrive ds (remove t p) rest u h.1 (line_behind n (codes "D " ++ quote (text p)) more room) g)

  pub puts_arrive : (blobs : List (ℕ × Bytes)) (es t : Flat) (rest : Bytes) (s : Replay) → Each (IsPuttable blobs r.marks) es → Room n (leaves_lines blobs es rest) → Drafting r ref number l ps t s →
      Arrives base inside (left n (leaves_lines blobs es rest)) s inside (left n rest) (Drafting r ref number l ps (with_all es t))
  puts_arrive blobs [] t rest s h room d = stays base inside (left n rest) s (Drafts t) d
  puts_arrive blobs ((p, x) ∷ es) t rest s h room d =
      let more = leaves_lines blobs es rest in
      let k = leaf_mark blobs x in
      let next = put t p (LeafNode x) in
      goes base inside inside inside (left n (leaves_lines blobs ((p, x) ∷ es) rest)) (left n more) (left n rest) s (Drafts next) (Drafts (with_all ((p, x) ∷ es) t))
      (command_goes base inside inside (left n (leaves_lines blobs ((p, x) ∷ es) rest)) (left n more) s (is_change (leaf_change k p x)) (Drafts next)
      (leaf_turn k p x n more room h.0.reads h.0.path)
      (λ c g. put_step base r ref number l ps t s c k p x d (subst (λ marks. NamesLeaf marks k x) (sym d.marks) h.0.names) g))
      (λ u g. puts_arrive blobs es next rest u h.1 (line_behind n (codes "M " ++ leaf_text k p x) more room) g)

-- ---- lengths

pub deletes_longer : (ds : List Path) (rest : Bytes) → length rest ≤ length (deletes_lines ds rest)
deletes_longer [] rest = omega arith
deletes_longer (p ∷ ds) rest = omega (arith, deletes_longer ds rest, length-append (codes "D " ++ quote (text p)) (10 ∷ deletes_lines ds rest))

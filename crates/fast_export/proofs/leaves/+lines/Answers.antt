use Rattle.std.proofs.Common.{rules, ◌≡◌, ◌∙◌, ◌++◌, true, [], Ok, refl, sym, ap, true≢false}
use Rattle.git_objects.specs.Paths.{Bytes}
use Rattle.git_objects.specs.Entries.{is_dir}
use Rattle.git_objects.specs.Views.{entry_value}
use Rattle.object_store.specs.Unfolding.{flat}
use Rattle.path_trees.proofs.Walks.{tree_held}
use Rattle.fast_export.specs.Known.{lines_behind}
use Rattle.fast_export.specs.MarkedStores.{blobs_of}
use Rattle.fast_export.proofs.LinesBehind.{behind_is, directory_lines, leaf_lines}
use Rattle.fast_export.proofs.Exported.{unit_err}
use Rattle.fast_export.proofs.Marked.{directory_marks}
use Rattle.fast_export.proofs.Sent.{put_as, put_result}
use Rattle.fast_export.proofs.WrittenLeaves.{entry_child, entry_marks, known_added, known_text, less_entry_lines, more_entry_lines, no_entry_lines}
use Rattle.fast_export.proofs.leaves.+lines.Goals as goal

-- ---- a directory

pub write_directory-returns-in-Some-clause-put : goal.write_directory-returns-in-Some-clause-put
write_directory-returns-in-Some-clause-put g t c =
    let text = known_text c.args.marked.now.store.now (blobs_of c.args.marked.now) c.args.tree c.args.front.now c.in-Some.text.now c.args.kept.now.lines c.requires.known c.in-Some.ensures in
    put_as _ _ _ _ _ _ _ text c.put_piece.ensures.put

pub write_directory-returns-in-Some-clause-whole : goal.write_directory-returns-in-Some-clause-whole
write_directory-returns-in-Some-clause-whole g t c r =
    let text = known_text c.args.marked.now.store.now (blobs_of c.args.marked.now) c.args.tree c.args.front.now c.in-Some.text.now c.args.kept.now.lines c.requires.known c.in-Some.ensures in
    c.put_piece.ensures.whole r ∙ ap (λ (x : Bytes). c.args.kept.now.text.items ++ x) text

pub write_directory-returns-then-whole-clause-known : goal.write_directory-returns-then-whole-clause-known
write_directory-returns-then-whole-clause-known g t c =
    let lines = lines_behind (blobs_of c.args.marked.now) c.args.front.now (flat c.args.marked.now.store.now c.args.tree.0) in
    let text = behind_is c.args.kept.now.text.items lines c.deref.result.now c.len-start.result (c.len-start.ensures ∙ c.args.kept.now.text.ok.0) (c.deref.ensures.value ∙ c.in_ok-whole.ensures.whole (ap Ok c.if-whole.true)) in
    known_added c.args.marked.now.store.now (blobs_of c.args.marked.now) c.args.tree c.args.front.now _ c.write_lines.new.kept.lines c.add.new.self c.in_ok-whole.ensures.known c.requires.marks text c.add.ensures

-- ---- an entry

pub write_entry-write_directory-requires : goal.write_entry-write_directory-requires
write_entry-write_directory-requires g t c κs within =
    let d : is_dir c.args.entry.now.mode ≡ true = sym c.is_dir.ensures ∙ c.if-is_dir.true in
    let marks = directory_marks c.args.marked.now.store.now (blobs_of c.args.marked.now) (entry_value c.args.entry.now) d c.requires.marks in
    (search rules, (search rules, (c.requires.marked, (tree_held c.args.marked.now.store.now c.args.entry.now.mode c.args.entry.now.name.0 d c.requires.entry, (marks, c.requires.known)))))

pub write_entry-returns-then-is_dir-clause-put : goal.write_entry-returns-then-is_dir-clause-put
write_entry-returns-then-is_dir-clause-put g t c =
    let d : is_dir c.args.entry.now.mode ≡ true = sym c.is_dir.ensures ∙ c.if-is_dir.true in
    put_as _ _ _ _ _ _ _
    (directory_lines c.args.marked.now.store.now (blobs_of c.args.marked.now) c.args.front.now c.deref.result.now c.args.entry.now.component.now c.args.entry.now.mode c.args.entry.now.name.0 c.requires.marked.store
    (tree_held c.args.marked.now.store.now c.args.entry.now.mode c.args.entry.now.name.0 d c.requires.entry) d (c.deref.ensures.value ∙ c.in_ok-inner.ensures))
    c.write_directory.ensures.put

pub write_entry-returns-then-is_dir-clause-whole : goal.write_entry-returns-then-is_dir-clause-whole
write_entry-returns-then-is_dir-clause-whole g t c r =
    let d : is_dir c.args.entry.now.mode ≡ true = sym c.is_dir.ensures ∙ c.if-is_dir.true in
    c.write_directory.ensures.whole r
    ∙ ap (λ (x : Bytes). c.args.kept.now.text.items ++ x)
    (directory_lines c.args.marked.now.store.now (blobs_of c.args.marked.now) c.args.front.now c.deref.result.now c.args.entry.now.component.now c.args.entry.now.mode c.args.entry.now.name.0 c.requires.marked.store
    (tree_held c.args.marked.now.store.now c.args.entry.now.mode c.args.entry.now.name.0 d c.requires.entry) d (c.deref.ensures.value ∙ c.in_ok-inner.ensures))

pub write_entry-returns-clause-put : goal.write_entry-returns-clause-put
write_entry-returns-clause-put g t c =
    let line = leaf_lines c.args.marked.now.store.now c.args.marked.now.marks.now c.args.front.now (c.args.front.now ++ c.args.entry.now.component.now) c.args.entry.now.component.now c.args.entry.now.mode c.args.entry.now.name c.requires.marked.held
    (sym c.is_dir.ensures ∙ c.if-is_dir.false) c.requires.entry refl in
    put_as _ _ _ _ _ _ _ line c.write_leaf.ensures.put

pub write_entry-returns-clause-whole : goal.write_entry-returns-clause-whole
write_entry-returns-clause-whole g t c r =
    let line = leaf_lines c.args.marked.now.store.now c.args.marked.now.marks.now c.args.front.now (c.args.front.now ++ c.args.entry.now.component.now) c.args.entry.now.component.now c.args.entry.now.mode c.args.entry.now.name c.requires.marked.held
    (sym c.is_dir.ensures ∙ c.if-is_dir.false) c.requires.entry refl in
    c.write_leaf.ensures.whole r ∙ ap (λ (x : Bytes). c.args.kept.now.text.items ++ x) line

-- ---- one entry after another

pub write_lines-entries-init : goal.write_lines-entries-init
write_lines-entries-init g t c =
    (([], no_entry_lines _ _ c.args.marked.now.store.now (blobs_of c.args.marked.now) c.args.front.now c.args.tree.0 c.entries_of-left.result c.requires.marked.store c.requires.tree c.entries_of-left.ensures.listed c.requires.marks), c.requires.known)

pub write_lines-write_entry-requires : goal.write_lines-write_entry-requires
write_lines-write_entry-requires g t c κs within =
    let S = c.args.marked.now.store.now in
    let blobs = blobs_of c.args.marked.now in
    let p = c.entries.invariant.0.1 in
    let child = entry_child S blobs c.args.front.now c.entries.left (entry_value c.in-Some.entry) c.next.new.self c.in-Some.ensures.entry c.in-Some.ensures.rest p.children in
    let marks = entry_marks S blobs c.args.front.now c.entries.left (entry_value c.in-Some.entry) c.next.new.self c.in-Some.ensures.entry c.in-Some.ensures.rest p.marks in
    (search rules, (search rules, (c.requires.marked, (child, (marks, c.entries.invariant.1)))))

pub write_lines-returns-in_err-stays-clause-put : goal.write_lines-returns-in_err-stays-clause-put
write_lines-returns-in_err-stays-clause-put g t c =
    let p = c.entries.invariant.0.1 in
    put_result _ _ _ _ _ _ _ (unit_err c.from_residual-in_err-stays.result c.in_err-stays.field-0.0 c.from_residual-in_err-stays.ensures.1)
    (less_entry_lines c.args.marked.now.store.now (blobs_of c.args.marked.now) c.args.front.now c.entries.left (entry_value c.in-Some.entry) c.next.new.self c.in-Some.ensures.entry c.in-Some.ensures.rest _ _ _ _ _ _ _ _ _ p _ c.in_err-stays.ensures.put)

pub write_lines-entries-preserved-then-whole : goal.write_lines-entries-preserved-then-whole
write_lines-entries-preserved-then-whole g t c =
    let p = c.entries.invariant.0.1 in (
      (
        _,
        more_entry_lines c.args.marked.now.store.now (blobs_of c.args.marked.now) c.args.front.now c.entries.left (entry_value c.in-Some.entry) c.next.new.self c.in-Some.ensures.entry c.in-Some.ensures.rest _ _ _ _ _ _ _ _ _ p
            c.in_ok-stays.stays c.in_ok-stays.ensures.put (λ s. (c.if-whole.true, c.in_ok-stays.ensures.whole (ap Ok s))),
      ),
      c.in_ok-stays.ensures.known,
    )

pub write_lines-entries-preserved : goal.write_lines-entries-preserved
write_lines-entries-preserved g t c =
    let p = c.entries.invariant.0.1 in (
      (
        _,
        more_entry_lines c.args.marked.now.store.now (blobs_of c.args.marked.now) c.args.front.now c.entries.left (entry_value c.in-Some.entry) c.next.new.self c.in-Some.ensures.entry c.in-Some.ensures.rest _ _ _ _ _ _ _ _ _ p
            c.entries.whole c.in_ok-stays.ensures.put (λ s. absurd (true≢false (sym s ∙ c.if-whole.false))),
      ),
      c.in_ok-stays.ensures.known,
    )

use Rattle.std.proofs.Common.{◌≡◌, ◌∙◌, true, false, [], flat_map, sym, ap, append-nil, refl}
use Rattle.git_objects.specs.Entries.{is_dir}
use Rattle.git_objects.specs.Views.{entry_value}
use Rattle.object_store.specs.Unfolding.{flat}
use Rattle.fast_export.specs.ExportTexts.{blob_text}
use Rattle.path_trees.specs.declared.found.Leaf.{Leaf as FoundLeaf}
use Rattle.fast_export.specs.Given.{marks_in, one_leaf, with_blobs}
use Rattle.fast_export.proofs.Marked.{none_new, tree_given, tree_marked}
use Rattle.fast_export.proofs.NewBlobs.{with_nothing}
use Rattle.fast_export.proofs.Sent.{put_as, put_err, put_idle, put_short}
use Rattle.fast_export.proofs.WrittenBlobs.{all_done, blobs_text, directory_new, leaf_new, less_entries, more_entries, no_entries}
use Rattle.fast_export.proofs.blobs.+write_new_blobs.Goals as goal

pub returns-then-has_tree-clause-put : goal.returns-then-has_tree-clause-put
returns-then-has_tree-clause-put g t c =
    let marked = tree_marked c.args.store.now (marks_in c.args.store.now c.args.marks.now).blobs c.args.tree c.args.marks.now.trees (sym c.has_tree.ensures ∙ c.if-has_tree.true) c.requires.marks.trees in
    put_as _ _ _ _ _ _ _ (sym (ap (flat_map blob_text) (none_new (marks_in c.args.store.now c.args.marks.now) (flat c.args.store.now c.args.tree.0) marked))) (put_idle _ _)

pub returns-then-has_tree-clause-marks : goal.returns-then-has_tree-clause-marks
returns-then-has_tree-clause-marks g t c =
    let marked = tree_marked c.args.store.now (marks_in c.args.store.now c.args.marks.now).blobs c.args.tree c.args.marks.now.trees (sym c.has_tree.ensures ∙ c.if-has_tree.true) c.requires.marks.trees in
    sym (with_nothing (marks_in c.args.store.now c.args.marks.now) (flat c.args.store.now c.args.tree.0) (none_new (marks_in c.args.store.now c.args.marks.now) (flat c.args.store.now c.args.tree.0) marked))

pub entries-init : goal.entries-init
entries-init g t c = ([], no_entries _ _ c.args.store.now c.args.tree.0 c.entries_of-left.result c.args.marks.now c.requires.store c.requires.tree c.entries_of-left.ensures.listed c.requires.marks)

pub entries-preserved-in-Continue-1 : goal.entries-preserved-in-Continue-1
entries-preserved-in-Continue-1 g t c =
    let S = c.args.store.now in
    let e = entry_value c.in-Some.entry in
    let d : is_dir e.mode ≡ true = sym c.is_dir.ensures ∙ c.if-is_dir.true in (
      _,
      more_entries S c.entries.left e c.next.new.self c.in-Some.ensures.entry c.in-Some.ensures.rest _ _ (flat S e.name.0) _ _ _ _ _ _ _ _ _ (λ m. directory_new S e m d) c.entries.invariant.1
          c.in_ok-write_new_blobs.ensures.put c.in_ok-write_new_blobs.ensures.marks c.in_ok-write_new_blobs.ensures.given c.in_ok-write_new_blobs.ensures.commits,
    )

pub returns-in_err-write_new_blobs-clause-put : goal.returns-in_err-write_new_blobs-clause-put
returns-in_err-write_new_blobs-clause-put g t c =
    let S = c.args.store.now in
    let e = entry_value c.in-Some.entry in
    let d : is_dir e.mode ≡ true = sym c.is_dir.ensures ∙ c.if-is_dir.true in
    put_err _ _ _ _ _ _ _ c.from_residual.ensures.1
    (less_entries S c.entries.left e c.next.new.self c.in-Some.ensures.entry c.in-Some.ensures.rest _ _ (flat S e.name.0) _ _ _ _ _ _ _ _ c.entries.marks (λ m. directory_new S e m d) _ c.entries.invariant.1 c.in_err-write_new_blobs.ensures.put)

pub entries-preserved : goal.entries-preserved
entries-preserved g t c =
    let S = c.args.store.now in
    let e = entry_value c.in-Some.entry in
    let d : is_dir e.mode ≡ false = sym c.is_dir.ensures ∙ c.if-is_dir.false in
    let leaf : FoundLeaf = record { mode = e.mode; name = e.name; is_leaf = d } in (
      _,
      more_entries S c.entries.left e c.next.new.self c.in-Some.ensures.entry c.in-Some.ensures.rest _ _ (one_leaf S leaf) _ _ _ _ _ _ _ _ _ (λ m. leaf_new S e leaf m d refl refl) c.entries.invariant.1
          c.in_ok-write_new_blob.ensures.put c.in_ok-write_new_blob.ensures.marks c.in_ok-write_new_blob.ensures.given c.in_ok-write_new_blob.ensures.commits,
    )

pub returns-in_err-write_new_blob-clause-put : goal.returns-in_err-write_new_blob-clause-put
returns-in_err-write_new_blob-clause-put g t c =
    let S = c.args.store.now in
    let e = entry_value c.in-Some.entry in
    let d : is_dir e.mode ≡ false = sym c.is_dir.ensures ∙ c.if-is_dir.false in
    let leaf : FoundLeaf = record { mode = e.mode; name = e.name; is_leaf = d } in
    put_err _ _ _ _ _ _ _ c.from_residual-in_err-write_new_blob.ensures.1
    (less_entries S c.entries.left e c.next.new.self c.in-Some.ensures.entry c.in-Some.ensures.rest _ _ (one_leaf S leaf) _ _ _ _ _ _ _ _ c.entries.marks (λ m. leaf_new S e leaf m d refl refl) _ c.entries.invariant.1
    c.in_err-write_new_blob.ensures.put)

pub returns-in_err-add_tree-clause-put : goal.returns-in_err-add_tree-clause-put
returns-in_err-add_tree-clause-put g t c =
    let S = c.args.store.now in
    let p = c.entries.invariant.1 in
    let all = all_done _ _ _ _ S _ _ c.entries.left _ _ c.in_default.ensures.entry p in
    put_err _ _ _ _ _ _ _ c.from_residual-in_err-add_tree.ensures.1
    (put_as _ _ _ _ _ _ _ (append-nil _ ∙ ap (blobs_text (marks_in S c.args.marks.now)) all) (put_short _ _ _ _ _ _ [] p.put))

pub returns-clause-given : goal.returns-clause-given
returns-clause-given g t c =
    let S = c.args.store.now in
    let p = c.entries.invariant.1 in
    let all = all_done _ _ _ _ S _ _ c.entries.left _ _ c.in_default.ensures.entry p in
    tree_given S c.args.marks.now c.entries.marks c.add_tree.new.self c.args.tree (p.marks ∙ ap (with_blobs (marks_in S c.args.marks.now)) all) p.given c.in_ok-add_tree.ensures

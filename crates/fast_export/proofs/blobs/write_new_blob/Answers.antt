use Rattle.std.proofs.Common.{◌≡◌, ℕ, ◌∙◌, [], ◌∷◌, List, Some, None, flat_map, sym, ap, append-nil, true, false}
use Rattle.std.specs.Option.{is_some}
use Rattle.git_objects.specs.Paths.{Bytes}
use Rattle.git_objects.specs.Entries.{is_dir}
use Rattle.git_objects.specs.declared.kind.Kind.TheVariants.{Blob}
use Rattle.git_objects.specs.declared.mode.Mode.{Mode}
use Rattle.object_store.specs.Objects.{Object, IsStore, body_of, find_named, has_child}
use Rattle.object_store.proofs.Parts.{find-has}
use Rattle.fast_export.specs.ExportTexts.{Marks, blob_text}
use Rattle.stream_reader.specs.Changes.{is_module}
use Rattle.fast_export.specs.Given.{Given, marks_in, one_leaf}
use Rattle.fast_export.proofs.Marked.{given_more}
use Rattle.fast_export.proofs.NewBlobs.{blob_given, blob_held, known_blob, leaf_blob, new_blob, with_nothing}
use Rattle.fast_export.proofs.Sent.{put_as, put_err, put_idle, put_short}
use Rattle.fast_export.proofs.blobs.write_new_blob.Goals as goal

-- nothing is written
no_text : (m : Marks) (k : List (ℕ × Bytes)) → k ≡ [] → [] ≡ flat_map blob_text k
no_text m k e = sym (ap (flat_map blob_text) e)

-- the blob that is found
found : (S : List Object) (m : Mode) (n : Bytes) → is_dir m ≡ false → is_module m ≡ false → has_child S m n ≡ true → IsStore S → find_named S n ≡ Some (record { kind = Blob; body = body_of Blob S n })
found S m n d h g s = find-has S Blob n s (leaf_blob S m n d h g).0

none : (o : Object) → None ≡ Some o → ⊥
none o e = cc

body_is : (o p : Object) → Some o ≡ Some p → o.body ≡ p.body
body_is o p e = cc

-- the text of one blob
one_text : (k : List (ℕ × Bytes)) (n l : ℕ) (b d : Bytes) → k ≡ (n, b) ∷ [] → l ≡ n → d ≡ b → blob_text (l, d) ≡ flat_map blob_text k
one_text k n l b d e f h = (λ i. blob_text (f i, h i)) ∙ sym (append-nil (blob_text (n, b))) ∙ sym (ap (flat_map blob_text) e)

pub unreachable-requires : goal.unreachable-requires
unreachable-requires g c =
    let S = c.args.store.now in
    let here = found S c.args.leaf.mode c.args.leaf.name.0 c.args.leaf.is_leaf (sym c.is_module.ensures ∙ c.if-is_module.false) c.requires.leaf c.in-None.ensures.store in
    none _ (c.in-None.ensures.object ∙ here)

pub returns-then-is_some-clause-put : goal.returns-then-is_some-clause-put
returns-then-is_some-clause-put g c =
    let known = known_blob c.args.store.now c.args.marks.now [] c.args.leaf.mode c.args.leaf.name c.requires.marks.held c.args.leaf.is_leaf (sym c.is_module.ensures ∙ c.if-is_module.false) c.requires.leaf
    (ap is_some (sym c.blob.ensures) ∙ sym c.is_some.ensures ∙ c.if-is_some.true) in
    put_as _ _ _ _ _ _ _ (no_text (marks_in c.args.store.now c.args.marks.now) _ known) (put_idle _ _)

pub returns-then-is_some-clause-marks : goal.returns-then-is_some-clause-marks
returns-then-is_some-clause-marks g c =
    let known = known_blob c.args.store.now c.args.marks.now [] c.args.leaf.mode c.args.leaf.name c.requires.marks.held c.args.leaf.is_leaf (sym c.is_module.ensures ∙ c.if-is_module.false) c.requires.leaf
    (ap is_some (sym c.blob.ensures) ∙ sym c.is_some.ensures ∙ c.if-is_some.true) in
    sym (with_nothing (marks_in c.args.store.now c.args.marks.now) (one_leaf c.args.store.now c.args.leaf) known)

pub returns-in_err-write_blob-in-Some-clause-put : goal.returns-in_err-write_blob-in-Some-clause-put
returns-in_err-write_blob-in-Some-clause-put g c =
    let S = c.args.store.now in
    let blob = sym c.is_module.ensures ∙ c.if-is_module.false in
    let here = found S c.args.leaf.mode c.args.leaf.name.0 c.args.leaf.is_leaf blob c.requires.leaf c.in-Some.ensures.store in
    let new = new_blob S c.args.marks.now [] c.args.leaf.mode c.args.leaf.name c.requires.marks.held c.args.leaf.is_leaf blob c.requires.leaf
    (ap is_some (sym c.blob.ensures) ∙ sym c.is_some.ensures ∙ c.if-is_some.false) in
    put_err _ _ _ _ _ c.in_err-write_blob-in-Some.field-0.0 _ c.from_residual.ensures.1
    (put_as _ _ _ _ _ _ _ (one_text _ _ _ _ _ new c.next.ensures (body_is _ _ (c.in-Some.ensures.object ∙ here))) c.in_err-write_blob-in-Some.ensures)

pub returns-in_err-add_blob-in-Some-clause-put : goal.returns-in_err-add_blob-in-Some-clause-put
returns-in_err-add_blob-in-Some-clause-put g c =
    let S = c.args.store.now in
    let blob = sym c.is_module.ensures ∙ c.if-is_module.false in
    let here = found S c.args.leaf.mode c.args.leaf.name.0 c.args.leaf.is_leaf blob c.requires.leaf c.in-Some.ensures.store in
    let new = new_blob S c.args.marks.now [] c.args.leaf.mode c.args.leaf.name c.requires.marks.held c.args.leaf.is_leaf blob c.requires.leaf
    (ap is_some (sym c.blob.ensures) ∙ sym c.is_some.ensures ∙ c.if-is_some.false) in
    put_err _ _ _ _ _ _ _ c.from_residual-in_err-add_blob-in-Some.ensures.1
    (put_as _ _ _ _ _ _ _ (append-nil _ ∙ one_text _ _ _ _ _ new c.next.ensures (body_is _ _ (c.in-Some.ensures.object ∙ here))) (put_short _ _ _ _ _ _ [] c.in_ok-write_blob-in-Some.ensures))

pub returns-clause-put : goal.returns-clause-put
returns-clause-put g c =
    let S = c.args.store.now in
    let blob = sym c.is_module.ensures ∙ c.if-is_module.false in
    let here = found S c.args.leaf.mode c.args.leaf.name.0 c.args.leaf.is_leaf blob c.requires.leaf c.in-Some.ensures.store in
    let new = new_blob S c.args.marks.now [] c.args.leaf.mode c.args.leaf.name c.requires.marks.held c.args.leaf.is_leaf blob c.requires.leaf
    (ap is_some (sym c.blob.ensures) ∙ sym c.is_some.ensures ∙ c.if-is_some.false) in
    put_as _ _ _ _ _ _ _ (one_text _ _ _ _ _ new c.next.ensures (body_is _ _ (c.in-Some.ensures.object ∙ here))) c.in_ok-write_blob-in-Some.ensures

pub returns-clause-marks : goal.returns-clause-marks
returns-clause-marks g c =
    blob_given c.args.store.now c.args.marks.now [] c.args.leaf.mode c.args.leaf.name c.requires.marks.held c.args.leaf.is_leaf (sym c.is_module.ensures ∙ c.if-is_module.false) c.requires.leaf
    c.add_blob.new.self (ap is_some (sym c.blob.ensures) ∙ sym c.is_some.ensures ∙ c.if-is_some.false) c.in_ok-add_blob-in-Some.ensures.ok

pub returns-clause-given : goal.returns-clause-given
returns-clause-given g c =
    let marks = blob_given c.args.store.now c.args.marks.now [] c.args.leaf.mode c.args.leaf.name c.requires.marks.held c.args.leaf.is_leaf (sym c.is_module.ensures ∙ c.if-is_module.false) c.requires.leaf
    c.add_blob.new.self (ap is_some (sym c.blob.ensures) ∙ sym c.is_some.ensures ∙ c.if-is_some.false) c.in_ok-add_blob-in-Some.ensures.ok in
    let held = blob_held c.args.store.now c.args.marks.now [] c.args.leaf.mode c.args.leaf.name c.requires.marks.held c.args.leaf.is_leaf (sym c.is_module.ensures ∙ c.if-is_module.false) c.requires.leaf
    c.add_blob.new.self c.in_ok-add_blob-in-Some.ensures.ok in
    given_more c.args.store.now c.args.marks.now c.add_blob.new.self (one_leaf c.args.store.now c.args.leaf) c.requires.marks held (ap (λ (x : Given). x.trees) c.in_ok-add_blob-in-Some.ensures.ok) marks

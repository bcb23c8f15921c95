-- How far the blobs of a tree are written.
use Rattle.std.proofs.Common.{◌≡◌, ℕ, ◌+◌, true, false, List, [], ◌∷◌, ◌++◌, length, slice_get, drop, Option, Some, None, Result, Ok, Err, flat_map, refl, sym, ap, subst, ◌∙◌, append_assoc, append-nil}
use Rattle.git_objects.specs.Paths.{Bytes, Path}
use Rattle.git_objects.specs.Trees.{Leaf, Flat}
use Rattle.git_objects.specs.declared.kind.Kind.TheVariants.{Blob, Tree}
use Rattle.object_store.specs.Objects.{Object, IsStore, body_of, has}
use Rattle.object_store.specs.Unfolding.{flat}
use Rattle.path_trees.specs.Walked.{Walked, leaf_of}
use Rattle.path_trees.specs.declared.found.Leaf.{Leaf as FoundLeaf}
use Rattle.fast_export.specs.ExportTexts.{Marks, blob_text, new_blobs}
use Rattle.fast_export.specs.Given.{Given, AreGivenIn, marks_in, one_leaf, with_blobs}
use Rattle.fast_export.specs.Sending.{IsPut}
use Rattle.fast_export.specs.declared.error.ExportError.{ExportError}
use Rattle.object_store.specs.Objects.{HasChildren}
use Rattle.object_store.specs.Unfolding.{below, entry_flat}
use Rattle.object_store.proofs.Children.{first-child, tree-children}
use Rattle.object_store.proofs.FlatParts.{flat-unfolds}
use Rattle.path_trees.proofs.Walks.{dir_rests, leaf_rests}
use Rattle.git_objects.specs.Entries.{is_dir}
use Rattle.git_objects.specs.declared.entry.Entry.{Entry}
use Rattle.git_objects.proofs.SharedFronts.{listed}
use Rattle.fast_export.proofs.LinesBehind.{first_of_left, joined_in, none_of_left}
use Rattle.fast_export.proofs.Marked.{new_below}
use Rattle.fast_export.proofs.NewBlobs.{with_append, texts_append, with_nothing}
use Rattle.fast_export.specs.declared.error.ExportError.TheVariants.{OutOfMemory}
use Rattle.fast_export.proofs.Sent.{put_as, put_idle, put_short, put_stop, put_then}
use Rattle.fast_import.proofs.WalkedLeaves.{IsPassed, none_passed}

-- ---- the blobs of the leaves that are passed

abbrev pub blobs_text : Marks → Flat → Bytes
blobs_text m t = flat_map blob_text (new_blobs m t)

pub record AreWritten {O : Type 0} (tells : O → Type 0) (written : O → Option Bytes) (faults refusals : O → ℕ) (a b : O) (k l : Bytes) (S : List Object) (t done left : Flat) (g h : Given) : Type 0 where
  pub passed : IsPassed S t done left
  pub put : IsPut tells written faults refusals a b k l (blobs_text (marks_in S g) done) (Ok tt)
  pub marks : marks_in S h ≡ with_blobs (marks_in S g) done
  pub given : AreGivenIn S h
  pub commits : h.commits ≡ g.commits

-- one leaf more
one_more : (S : List Object) (g h : Given) (done : Flat) (e : Path × Leaf) (leaf : FoundLeaf) → marks_in S h ≡ with_blobs (marks_in S g) done → leaf_of (body_of Blob S) leaf.mode leaf.name.0 ≡ e.1
    → blobs_text (marks_in S g) done ++ blobs_text (marks_in S h) (one_leaf S leaf) ≡ blobs_text (marks_in S g) (done ++ e ∷ [])
one_more S g h done e leaf m same =
    (λ i. blobs_text (marks_in S g) done ++ blobs_text (m i) ((e.0, same i) ∷ []))
    ∙ sym (texts_append (marks_in S g) done (e ∷ []))

with_one : (S : List Object) (g h i : Given) (done : Flat) (e : Path × Leaf) (leaf : FoundLeaf) → marks_in S h ≡ with_blobs (marks_in S g) done → leaf_of (body_of Blob S) leaf.mode leaf.name.0 ≡ e.1
    → marks_in S i ≡ with_blobs (marks_in S h) (one_leaf S leaf) → marks_in S i ≡ with_blobs (marks_in S g) (done ++ e ∷ [])
with_one S g h i done e leaf m same n = n ∙ (λ j. with_blobs (m j) ((e.0, same j) ∷ [])) ∙ sym (with_append (marks_in S g) done (e ∷ []))

module _ {O : Type 0} {tells : O → Type 0} {written : O → Option Bytes} {faults refusals : O → ℕ} where
  pub none_written : (a : O) (k : Bytes) (S : List Object) (n : Bytes) (w : Walked) (g : Given) → IsStore S → has Tree S n ≡ true → w ≡ record { current = None; left = flat S n } → AreGivenIn S g
      → AreWritten tells written faults refusals a a k k S (flat S n) [] w.left g g
  none_written a k S n w g s h e given = record {
    passed = none_passed S n w s h e;
    put = put_idle a k;
    marks = sym (with_nothing (marks_in S g) [] refl);
    given = given;
    commits = refl;
  }

  pub more_written : (a b c : O) (k l m : Bytes) (S : List Object) (t done before left : Flat) (e : Path × Leaf) (leaf : FoundLeaf) (g h i : Given) → AreWritten tells written faults refusals a b k l S t done before g h
      → IsPassed S t (done ++ e ∷ []) left → leaf_of (body_of Blob S) leaf.mode leaf.name.0 ≡ e.1 → IsPut tells written faults refusals b c l m (blobs_text (marks_in S h) (one_leaf S leaf)) (Ok tt)
      → marks_in S i ≡ with_blobs (marks_in S h) (one_leaf S leaf) → AreGivenIn S i → i.commits ≡ h.commits → AreWritten tells written faults refusals a c k m S t (done ++ e ∷ []) left g i
  more_written a b c k l m S t done before left e leaf g h i p passed same q marks given commits = record {
    passed = passed;
    put = put_as a c k m _ _ (Ok tt) (one_more S g h done e leaf p.marks same) (put_then a b c k l m _ _ (Ok tt) p.put q);
    marks = with_one S g h i done e leaf p.marks same marks;
    given = given;
    commits = commits ∙ p.commits;
  }

  -- an error in the middle
  pub less_written : (a b c : O) (k l m : Bytes) (S : List Object) (t done before left : Flat) (e : Path × Leaf) (leaf : FoundLeaf) (g h : Given) (f : ExportError) → AreWritten tells written faults refusals a b k l S t done before g h
      → IsPassed S t (done ++ e ∷ []) left → leaf_of (body_of Blob S) leaf.mode leaf.name.0 ≡ e.1 → IsPut tells written faults refusals b c l m (blobs_text (marks_in S h) (one_leaf S leaf)) (Err f)
      → IsPut tells written faults refusals a c k m (blobs_text (marks_in S g) t) (Err f)
  less_written a b c k l m S t done before left e leaf g h f p passed same q =
      let one = put_as a c k m _ _ (Err f) (one_more S g h done e leaf p.marks same) (put_then a b c k l m _ _ (Err f) p.put q) in
      put_as a c k m _ _ (Err f) (sym (texts_append (marks_in S g) (done ++ e ∷ []) left) ∙ ap (blobs_text (marks_in S g)) passed.parts)
      (put_stop a c k m m _ (blobs_text (with_blobs (marks_in S g) (done ++ e ∷ [])) left) f one)

  pub short_written : (a b : O) (k l m : Bytes) (S : List Object) (t done left : Flat) (g h : Given) → AreWritten tells written faults refusals a b k l S t done left g h → IsPut tells written faults refusals a b k m (blobs_text (marks_in S g) t) (Err OutOfMemory)
  short_written a b k l m S t done left g h p =
      put_as a b k m _ _ (Err OutOfMemory) (sym (texts_append (marks_in S g) done left) ∙ ap (blobs_text (marks_in S g)) p.passed.parts)
      (put_short a b k l m _ (blobs_text (with_blobs (marks_in S g) done) left) p.put)

-- ---- the same, entry by entry

pub record AreEntriesWritten {O : Type 0} (tells : O → Type 0) (written : O → Option Bytes) (faults refusals : O → ℕ) (a b : O) (k l : Bytes) (S : List Object) (t done : Flat) (left : List Entry) (g h : Given) : Type 0 where
  pub parts : done ++ joined_in S left ≡ t
  pub children : HasChildren S left
  pub put : IsPut tells written faults refusals a b k l (blobs_text (marks_in S g) done) (Ok tt)
  pub marks : marks_in S h ≡ with_blobs (marks_in S g) done
  pub given : AreGivenIn S h
  pub commits : h.commits ≡ g.commits

-- what has the same new blobs gives the same marks
same_marks : (m : Marks) (t u : Flat) → new_blobs m t ≡ new_blobs m u → with_blobs m t ≡ with_blobs m u
same_marks m t u e = λ i. record { next = m.next + length (e i); blobs = m.blobs ++ e i; commits = m.commits }

-- the new blobs of an entry
pub leaf_new : (S : List Object) (e : Entry) (leaf : FoundLeaf) (m : Marks) → is_dir e.mode ≡ false → leaf.mode ≡ e.mode → leaf.name.0 ≡ e.name.0 → new_blobs m (one_leaf S leaf) ≡ new_blobs m (entry_flat S e)
leaf_new S e leaf m d mode name =
    (λ i. new_blobs m (([], leaf_of (body_of Blob S) (mode i) (name i)) ∷ []))
    ∙ ap (λ (t : Flat). new_blobs m (below e.component t)) (sym (leaf_rests S e.mode e.name.0 d))

pub directory_new : (S : List Object) (e : Entry) (m : Marks) → is_dir e.mode ≡ true → new_blobs m (flat S e.name.0) ≡ new_blobs m (entry_flat S e)
directory_new S e m d = new_below m e.component (flat S e.name.0) ∙ ap (λ (t : Flat). new_blobs m (below e.component t)) (sym (dir_rests S e.mode e.name.0 d))

module _ (S : List Object) (left : List Entry) (e : Entry) (rest : List Entry) (first : Some e ≡ slice_get left 0) (drops : rest ≡ drop 1 left) (done t u : Flat) where
  -- one entry more is done
  pub parts_more : done ++ joined_in S left ≡ t → (done ++ entry_flat S e) ++ joined_in S rest ≡ t
  parts_more p = append_assoc done (entry_flat S e) (joined_in S rest) ∙ ap (λ (es : List Entry). done ++ joined_in S es) (sym (first_of_left left rest e first drops)) ∙ p

  pub children_more : HasChildren S left → HasChildren S rest
  children_more c = subst (HasChildren S) (sym drops) (first-child S left e first c).1

  module _ {O : Type 0} {tells : O → Type 0} {written : O → Option Bytes} {faults refusals : O → ℕ} (a b c : O) (k l m : Bytes) (g h i : Given) (same : (m : Marks) → new_blobs m u ≡ new_blobs m (entry_flat S e)) where
    so_far : AreEntriesWritten tells written faults refusals a b k l S t done left g h → (r : Result Unit ExportError) → IsPut tells written faults refusals b c l m (blobs_text (marks_in S h) u) r
        → IsPut tells written faults refusals a c k m (blobs_text (marks_in S g) (done ++ entry_flat S e)) r
    so_far p r q =
        put_as a c k m _ _ r
        ((λ j. blobs_text (marks_in S g) done ++ flat_map blob_text (same (marks_in S h) j))
        ∙ (λ j. blobs_text (marks_in S g) done ++ blobs_text (p.marks j) (entry_flat S e))
        ∙ sym (texts_append (marks_in S g) done (entry_flat S e)))
        (put_then a b c k l m _ _ r p.put q)

    pub more_entries : AreEntriesWritten tells written faults refusals a b k l S t done left g h → IsPut tells written faults refusals b c l m (blobs_text (marks_in S h) u) (Ok tt)
        → marks_in S i ≡ with_blobs (marks_in S h) u → AreGivenIn S i → i.commits ≡ h.commits → AreEntriesWritten tells written faults refusals a c k m S t (done ++ entry_flat S e) rest g i
    more_entries p q marks given commits = record {
      parts = parts_more p.parts;
      children = children_more p.children;
      put = so_far p (Ok tt) q;
      marks = marks ∙ same_marks (marks_in S h) u (entry_flat S e) (same (marks_in S h)) ∙ (λ j. with_blobs (p.marks j) (entry_flat S e)) ∙ sym (with_append (marks_in S g) done (entry_flat S e));
      given = given;
      commits = commits ∙ p.commits;
    }

    pub less_entries : (f : ExportError) → AreEntriesWritten tells written faults refusals a b k l S t done left g h → IsPut tells written faults refusals b c l m (blobs_text (marks_in S h) u) (Err f)
        → IsPut tells written faults refusals a c k m (blobs_text (marks_in S g) t) (Err f)
    less_entries f p q =
        put_as a c k m _ _ (Err f) (sym (texts_append (marks_in S g) (done ++ entry_flat S e) (joined_in S rest)) ∙ ap (blobs_text (marks_in S g)) (parts_more p.parts))
        (put_stop a c k m m _ (blobs_text (with_blobs (marks_in S g) (done ++ entry_flat S e)) (joined_in S rest)) f (so_far p (Err f) q))

module _ {O : Type 0} {tells : O → Type 0} {written : O → Option Bytes} {faults refusals : O → ℕ} where
  pub no_entries : (a : O) (k : Bytes) (S : List Object) (n : Bytes) (left : List Entry) (g : Given) → IsStore S → has Tree S n ≡ true → left ≡ listed (body_of Tree S n) → AreGivenIn S g
      → AreEntriesWritten tells written faults refusals a a k k S (flat S n) [] left g g
  no_entries a k S n left g s h e given = record {
    parts = ap (joined_in S) e ∙ sym (flat-unfolds S n s h);
    children = subst (HasChildren S) (sym e) (tree-children S n s h);
    put = put_idle a k;
    marks = sym (with_nothing (marks_in S g) [] refl);
    given = given;
    commits = refl;
  }

  pub all_done : (a b : O) (k l : Bytes) (S : List Object) (t done : Flat) (left : List Entry) (g h : Given) → None ≡ slice_get left 0 → AreEntriesWritten tells written faults refusals a b k l S t done left g h → done ≡ t
  all_done a b k l S t done left g h e p = sym (append-nil done) ∙ ap (λ (es : List Entry). done ++ joined_in S es) (sym (none_of_left left e)) ∙ p.parts

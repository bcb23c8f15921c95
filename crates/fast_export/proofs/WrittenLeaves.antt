-- How far the lines of a tree's leaves are written.
use Rattle.std.proofs.Common.{◌≡◌, inl, inr, ⊎_elim, ℕ, Bool, true, false, cond, List, [], ◌∷◌, ◌++◌, slice_get, drop, Option, Some, None, Result, Ok, Err, refl, sym, ap, subst, ◌∙◌, append_assoc, append-nil}
use Rattle.std.specs.Prelude.{if◌then◌else◌}
use Rattle.std.specs.Cmp.Lexicographic.{bytes_decides}
use Rattle.std.specs.Map.{lookup}
use Rattle.std.specs.Option.{option_and_then, option_map}
use Rattle.std.proofs.lemmas.Grind.{flat_map-append}
use Rattle.git_objects.specs.Paths.{Bytes, Path, same_bytes, text}
use Rattle.git_objects.specs.Trees.{Leaf, Flat}
use Rattle.git_objects.specs.declared.entry.Entry.{Entry}
use Rattle.git_objects.specs.declared.kind.Kind.TheVariants.{Blob, Tree}
use Rattle.git_objects.specs.declared.name.Name.{Name}
use Rattle.git_objects.proofs.SharedFronts.{listed}
use Rattle.indexmap.specs.IndexMap.{insert_entry}
use Rattle.object_store.specs.Objects.{Object, HasChildren, IsStore, body_of, has, has_child}
use Rattle.object_store.specs.Unfolding.{entry_flat, flat}
use Rattle.object_store.proofs.Children.{first-child, tree-children}
use Rattle.object_store.proofs.FlatParts.{flat-unfolds}
use Rattle.path_trees.specs.Walked.{Walked, leaf_of}
use Rattle.path_trees.specs.declared.found.Leaf.{Leaf as FoundLeaf}
use Rattle.fast_export.specs.Given.{Given, AreHeldBlobs, HasMarks, is_named, leaf_text, marks_in}
use Rattle.fast_export.specs.Known.{AreKnown, IsAdded, IsKnown, found_lines, line_behind, lines_behind}
use Rattle.fast_export.specs.declared.known.Lines.{Lines}
use Rattle.fast_export.specs.Sending.{IsPut}
use Rattle.fast_export.specs.declared.error.ExportError.{ExportError}
use Rattle.fast_export.specs.declared.error.ExportError.TheVariants.{OutOfMemory}
use Rattle.fast_export.proofs.LinesBehind.{first_of_left, joined_in, line_is, none_of_left}
use Rattle.fast_export.proofs.Marked.{marks_parts}
use Rattle.fast_export.proofs.Sent.{put_as, put_idle, put_short, put_stop, put_then}
use Rattle.fast_export.proofs.WrittenBlobs.{children_more, parts_more}
use Rattle.fast_import.proofs.WalkedLeaves.{IsPassed, none_passed}

pub path_here : (o : Option (Path × Leaf)) (e : Path × Leaf) (p : Path) → o ≡ Some e → option_map (λ (e : Path × Leaf). e.0) o ≡ Some p → e.0 ≡ p
path_here o e p at f = let g : Some e.0 ≡ Some p = sym (ap (option_map (λ (e : Path × Leaf). e.0)) at) ∙ f in cc

abbrev pub lines_text : List Object → Given → Bytes → Flat → Bytes
lines_text S g front t = lines_behind (marks_in S g).blobs front t

pub record AreLinesWritten {O : Type 0} (tells : O → Type 0) (written : O → Option Bytes) (faults refusals : O → ℕ) (a b : O) (k l : Bytes) (S : List Object) (front : Bytes) (t done left : Flat) (g : Given) : Type 0 where
  pub passed : IsPassed S t done left
  pub put : IsPut tells written faults refusals a b k l (lines_text S g front done) (Ok tt)

module _ (front : Bytes) where
  pub one_line : (S : List Object) (g : Given) (e : Path × Leaf) (p : Path) (leaf : FoundLeaf) → AreHeldBlobs S g → has_child S leaf.mode leaf.name.0 ≡ true → leaf_of (body_of Blob S) leaf.mode leaf.name.0 ≡ e.1 → e.0 ≡ p → (spelled : Bytes) → spelled ≡ text p
      → leaf_text g leaf (front ++ spelled) ≡ lines_text S g front (e ∷ [])
  one_line S g e p leaf held child same at spelled spells =
      ap (λ (t : Bytes). leaf_text g leaf (front ++ t)) spells
      ∙ line_is S g front p leaf.mode leaf.name held leaf.is_leaf child
      ∙ (λ i. line_behind (marks_in S g).blobs front (sym at i, same i))
      ∙ sym (append-nil (line_behind (marks_in S g).blobs front e))

  module _ {O : Type 0} {tells : O → Type 0} {written : O → Option Bytes} {faults refusals : O → ℕ} where
    pub no_lines : (a : O) (k : Bytes) (S : List Object) (n : Bytes) (w : Walked) (g : Given) → IsStore S → has Tree S n ≡ true → w ≡ record { current = None; left = flat S n }
        → AreLinesWritten tells written faults refusals a a k k S front (flat S n) [] w.left g
    no_lines a k S n w g s h e = record { passed = none_passed S n w s h e; put = put_idle a k }

    line_put : (a b c : O) (k l m : Bytes) (S : List Object) (g : Given) (done : Flat) (e : Path × Leaf) (text : Bytes) (r : Result Unit ExportError) → IsPut tells written faults refusals a b k l (lines_text S g front done) (Ok tt)
        → text ≡ lines_text S g front (e ∷ []) → IsPut tells written faults refusals b c l m text r → IsPut tells written faults refusals a c k m (lines_text S g front (done ++ e ∷ [])) r
    line_put a b c k l m S g done e text r p same q =
        put_as a c k m _ _ r
        (ap (λ (t : Bytes). lines_text S g front done ++ t) same ∙ sym (flat_map-append (line_behind (marks_in S g).blobs front) done (e ∷ [])))
        (put_then a b c k l m _ text r p q)

    pub more_lines : (a b c : O) (k l m : Bytes) (S : List Object) (t done before left : Flat) (e : Path × Leaf) (text : Bytes) (g : Given) → AreLinesWritten tells written faults refusals a b k l S front t done before g
        → IsPassed S t (done ++ e ∷ []) left → text ≡ lines_text S g front (e ∷ []) → IsPut tells written faults refusals b c l m text (Ok tt) → AreLinesWritten tells written faults refusals a c k m S front t (done ++ e ∷ []) left g
    more_lines a b c k l m S t done before left e text g p passed same q = record { passed = passed; put = line_put a b c k l m S g done e text (Ok tt) p.put same q }

    pub less_lines : (a b c : O) (k l m : Bytes) (S : List Object) (t done before left : Flat) (e : Path × Leaf) (text : Bytes) (g : Given) (f : ExportError) → AreLinesWritten tells written faults refusals a b k l S front t done before g
        → IsPassed S t (done ++ e ∷ []) left → text ≡ lines_text S g front (e ∷ []) → IsPut tells written faults refusals b c l m text (Err f) → IsPut tells written faults refusals a c k m (lines_text S g front t) (Err f)
    less_lines a b c k l m S t done before left e text g f p passed same q =
        put_as a c k m _ _ (Err f) (sym (flat_map-append (line_behind (marks_in S g).blobs front) (done ++ e ∷ []) left) ∙ ap (lines_text S g front) passed.parts)
        (put_stop a c k m m _ (lines_text S g front left) f (line_put a b c k l m S g done e text (Err f) p.put same q))

    pub short_lines : (a b : O) (k l m : Bytes) (S : List Object) (t done left : Flat) (g : Given) → AreLinesWritten tells written faults refusals a b k l S front t done left g → IsPut tells written faults refusals a b k m (lines_text S g front t) (Err OutOfMemory)
    short_lines a b k l m S t done left g p =
        put_as a b k m _ _ (Err OutOfMemory) (sym (flat_map-append (line_behind (marks_in S g).blobs front) done left) ∙ ap (lines_text S g front) p.passed.parts)
        (put_short a b k l m _ (lines_text S g front left) p.put)

-- ---- the same, entry by entry

pub record AreEntryLinesWritten {O : Type 0} (tells : O → Type 0) (written : O → Option Bytes) (faults refusals : O → ℕ) (a b : O) (k l : Bytes) (S : List Object) (blobs : List (ℕ × Bytes)) (front : Bytes) (t done : Flat) (left : List Entry) (whole : Bool) : Type 0 where
  pub parts : done ++ joined_in S left ≡ t
  pub children : HasChildren S left
  pub marks : HasMarks blobs (joined_in S left)
  pub put : IsPut tells written faults refusals a b k l (lines_behind blobs front done) (Ok tt)
  pub kept : whole ≡ true → l ≡ k ++ lines_behind blobs front done

module _ (S : List Object) (blobs : List (ℕ × Bytes)) (front : Bytes) (left : List Entry) (e : Entry) (rest : List Entry) (first : Some e ≡ slice_get left 0) (drops : rest ≡ drop 1 left) where
  -- what is left is the entry's, and what is left then
  left_parts : joined_in S left ≡ entry_flat S e ++ joined_in S rest
  left_parts = ap (joined_in S) (first_of_left left rest e first drops)

  pub entry_marks : HasMarks blobs (joined_in S left) → HasMarks blobs (entry_flat S e)
  entry_marks h = (marks_parts blobs (entry_flat S e) (joined_in S rest) (subst (HasMarks blobs) left_parts h)).0

  pub entry_child : HasChildren S left → has_child S e.mode e.name.0 ≡ true
  entry_child h = (first-child S left e first h).0

  module _ {O : Type 0} {tells : O → Type 0} {written : O → Option Bytes} {faults refusals : O → ℕ} (a b c : O) (k l m : Bytes) (t done : Flat) (whole : Bool) (p : AreEntryLinesWritten tells written faults refusals a b k l S blobs front t done left whole) where
    both : (r : Result Unit ExportError) → IsPut tells written faults refusals b c l m (lines_behind blobs front (entry_flat S e)) r → IsPut tells written faults refusals a c k m (lines_behind blobs front (done ++ entry_flat S e)) r
    both r q = put_as a c k m _ _ r (sym (flat_map-append (line_behind blobs front) done (entry_flat S e))) (put_then a b c k l m _ _ r p.put q)

    pub more_entry_lines : (next : Bool) → IsPut tells written faults refusals b c l m (lines_behind blobs front (entry_flat S e)) (Ok tt) → (next ≡ true → (whole ≡ true) × (m ≡ l ++ lines_behind blobs front (entry_flat S e)))
        → AreEntryLinesWritten tells written faults refusals a c k m S blobs front t (done ++ entry_flat S e) rest next
    more_entry_lines next q kept = record {
      parts = parts_more S left e rest first drops done t [] p.parts;
      children = children_more S left e rest first drops done t [] p.children;
      marks = (marks_parts blobs (entry_flat S e) (joined_in S rest) (subst (HasMarks blobs) left_parts p.marks)).1;
      put = both (Ok tt) q;
      kept = λ w. (kept w).1 ∙ ap (λ (x : Bytes). x ++ lines_behind blobs front (entry_flat S e)) (p.kept (kept w).0)
          ∙ append_assoc k (lines_behind blobs front done) (lines_behind blobs front (entry_flat S e))
          ∙ ap (λ (x : Bytes). k ++ x) (sym (flat_map-append (line_behind blobs front) done (entry_flat S e)));
    }

    pub less_entry_lines : (f : ExportError) → IsPut tells written faults refusals b c l m (lines_behind blobs front (entry_flat S e)) (Err f) → IsPut tells written faults refusals a c k m (lines_behind blobs front t) (Err f)
    less_entry_lines f q =
        put_as a c k m _ _ (Err f) (sym (flat_map-append (line_behind blobs front) (done ++ entry_flat S e) (joined_in S rest)) ∙ ap (lines_behind blobs front) (parts_more S left e rest first drops done t [] p.parts))
        (put_stop a c k m m _ (lines_behind blobs front (joined_in S rest)) f (both (Err f) q))

module _ {O : Type 0} {tells : O → Type 0} {written : O → Option Bytes} {faults refusals : O → ℕ} where
  pub no_entry_lines : (a : O) (k : Bytes) (S : List Object) (blobs : List (ℕ × Bytes)) (front n : Bytes) (left : List Entry) → IsStore S → has Tree S n ≡ true → left ≡ listed (body_of Tree S n) → HasMarks blobs (flat S n)
      → AreEntryLinesWritten tells written faults refusals a a k k S blobs front (flat S n) [] left true
  no_entry_lines a k S blobs front n left s h e marks =
      let parts : joined_in S left ≡ flat S n = ap (joined_in S) e ∙ sym (flat-unfolds S n s h) in
      record {
        parts = parts;
        children = subst (HasChildren S) (sym e) (tree-children S n s h);
        marks = subst (HasMarks blobs) (sym parts) marks;
        put = put_idle a k;
        kept = λ _. sym (append-nil k);
      }

  pub all_entry_lines : (a b : O) (k l : Bytes) (S : List Object) (blobs : List (ℕ × Bytes)) (front : Bytes) (t done : Flat) (left : List Entry) (whole : Bool) → None ≡ slice_get left 0 → AreEntryLinesWritten tells written faults refusals a b k l S blobs front t done left whole → done ≡ t
  all_entry_lines a b k l S blobs front t done left whole e p = sym (append-nil done) ∙ ap (λ (es : List Entry). done ++ joined_in S es) (sym (none_of_left left e)) ∙ p.parts

-- ---- a text that is put, and maybe kept

-- the text that is found is that of the directory
pub known_text : (S : List Object) (blobs : List (ℕ × Bytes)) (n : Name) (front t : Bytes) (es : List (Name × Lines)) → AreKnown S blobs es → Some t ≡ found_lines n front es → t ≡ lines_behind blobs front (flat S n.0)
known_text S blobs n front t [] h e = cc
known_text S blobs n front t (d ∷ es) h e =
    elim (is_named n d.0) as (λ b. is_named n d.0 ≡ b → Some t ≡ option_and_then (λ l. cond (same_bytes l.front.items front) (Some l.text.items) None) (cond b (Some d.1) (lookup (is_named n) es)) → t ≡ lines_behind blobs front (flat S n.0)) [
      | true ↦ λ same f. here same f
      | false ↦ λ _ f. known_text S blobs n front t es h.1 f
    ] refl e
  where
    inside : {x y : Bytes} → Some x ≡ Some y → x ≡ y
    inside g = cc

    here : is_named n d.0 ≡ true → Some t ≡ cond (same_bytes d.1.front.items front) (Some d.1.text.items) None → t ≡ lines_behind blobs front (flat S n.0)
    here same f =
        elim (same_bytes d.1.front.items front) as (λ b. same_bytes d.1.front.items front ≡ b → Some t ≡ cond b (Some d.1.text.items) None → t ≡ lines_behind blobs front (flat S n.0)) [
          | true ↦ λ k g. inside g ∙ h.0.text ∙ (λ i. lines_behind blobs ((bytes_decides d.1.front.items front).0 k i) (flat S (sym ((bytes_decides n.0 d.0.0).0 same) i)))
          | false ↦ λ k g. cc
        ] refl f

-- lines of a directory that are added are true
pub known_added : (S : List Object) (blobs : List (ℕ × Bytes)) (n : Name) (front t : Bytes) (old new : List (Name × Lines)) → AreKnown S blobs old → HasMarks blobs (flat S n.0) → t ≡ lines_behind blobs front (flat S n.0)
    → IsAdded n front t old new → AreKnown S blobs new
known_added S blobs n front t old new h marks e (inl none) = subst (AreKnown S blobs) (sym none) tt
known_added S blobs n front t old new h marks e (inr (l, f, g, r)) =
    let own : IsKnown S blobs (n, l) = record { marks = marks; text = g ∙ e ∙ ap (λ (x : Bytes). lines_behind blobs x (flat S n.0)) (sym f) } in
    ⊎_elim (λ k. subst (AreKnown S blobs) (sym k) (put old h own)) (λ k. subst (AreKnown S blobs) (sym k) (put [] tt own)) r
  where
    put : {l : Lines} (es : List (Name × Lines)) → AreKnown S blobs es → IsKnown S blobs (n, l) → AreKnown S blobs (insert_entry is_named es n l)
    put [] h k = (k, tt)
    put {l} (d ∷ es) h k =
        elim (is_named n d.0) as (λ b. is_named n d.0 ≡ b → AreKnown S blobs (if b then (d.0, l) ∷ es else d ∷ insert_entry is_named es n l)) [
          | true ↦ λ same. let q = (bytes_decides n.0 d.0.0).0 same in (record { marks = subst (λ (x : Bytes). HasMarks blobs (flat S x)) q k.marks; text = k.text ∙ ap (λ (x : Bytes). lines_behind blobs l.front.items (flat S x)) q }, h.1)
          | false ↦ λ _. (h.0, put es h.1 k)
        ] refl

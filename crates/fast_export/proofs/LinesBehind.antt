-- Lines of a directory, behind what stands in front of its paths.
use Rattle.std.proofs.Common.{◌≡◌, ℕ, true, false, List, [], ◌∷◌, ◌++◌, slice_get, drop, take, length, ◌-◌, arith, Some, None, refl, sym, ap, subst, ◌∙◌, append_assoc, append-nil, true≢false}
use Rattle.std.specs.Prelude.{codes, unwrap_or}
use Rattle.std.specs.Map.{lookup}
use Rattle.std.specs.Option.{is_some}
use Rattle.std.proofs.lemmas.Grind.{common_steps}
use Rattle.git_objects.specs.Lists.{Each}
use Rattle.git_objects.specs.Paths.{Bytes, Path, is_nil, text}
use Rattle.git_objects.specs.Trees.{Flat, rests}
use Rattle.git_objects.specs.Names.{leaf_mode, mode_text}
use Rattle.git_objects.specs.Entries.{is_dir}
use Rattle.git_objects.specs.Bodies.{tree_entries}
use Rattle.git_objects.specs.declared.entry.Entry.{Entry}
use Rattle.git_objects.specs.declared.kind.Kind.TheVariants.{Blob, Tree}
use Rattle.git_objects.specs.declared.mode.Mode.{Mode}
use Rattle.git_objects.specs.declared.mode.Mode.TheVariants.{File, Exec, Link, Module, Dir}
use Rattle.git_objects.specs.declared.name.Name.{Name}
use Rattle.git_objects.proofs.SharedFronts.{listed}
use Rattle.object_store.specs.Objects.{Object, IsStore, body_of, find_named, has, has_child}
use Rattle.object_store.specs.Unfolding.{below, entry_flat, flat, joined, node_of}
use Rattle.object_store.proofs.FlatParts.{flat-unfolds}
use Rattle.object_store.proofs.Parts.{find-has}
use Rattle.path_names.specs.Quoting.{quote}
use Rattle.path_trees.specs.Walked.{leaf_of}
use Rattle.path_trees.proofs.Trees.{stored_tree}
use Rattle.fast_export.specs.ExportTexts.{leaf_ref, line}
use Rattle.fast_export.specs.Given.{Given, AreHeldBlobs, data_ref, is_named, marks_in, modify_line}
use Rattle.fast_export.specs.Known.{line_behind, lines_behind}
use Rattle.fast_export.proofs.Lookups.{blob_number}

abbrev pub joined_in : List Object → List Entry → Flat
joined_in S es = joined (body_of Blob S) (flat S) es

pub joined_append : (S : List Object) (es fs : List Entry) → joined_in S (es ++ fs) ≡ joined_in S es ++ joined_in S fs
joined_append S [] fs = refl
joined_append S (e ∷ es) fs = ap (λ (t : Flat). entry_flat S e ++ t) (joined_append S es fs) ∙ sym (append_assoc (entry_flat S e) (joined_in S es) (joined_in S fs))

-- ---- paths of a tree aren't empty

abbrev pub AreSome : Flat → Type 0
AreSome t = Each (λ e. is_nil e.0 ≡ false) t

some_append : (t u : Flat) → AreSome t → AreSome u → AreSome (t ++ u)
some_append [] u h g = g
some_append (e ∷ t) u h g = (h.0, some_append t u h.1 g)

some_below : (c : Bytes) (t : Flat) → AreSome (below c t)
some_below c [] = tt
some_below c (e ∷ t) = (refl, some_below c t)

some_joined : (S : List Object) (es : List Entry) → AreSome (joined_in S es)
some_joined S [] = tt
some_joined S (e ∷ es) = some_append (entry_flat S e) (joined_in S es) (some_below e.component (rests (node_of (body_of Blob S) (flat S) e.mode e.name.0))) (some_joined S es)

some_flat : (S : List Object) (n : Bytes) → IsStore S → has Tree S n ≡ true → AreSome (flat S n)
some_flat S n s h = subst AreSome (sym (flat-unfolds S n s h)) (some_joined S (listed (body_of Tree S n)))

-- ---- a component more in front

text_behind : (c : Bytes) (p : Path) → is_nil p ≡ false → text (c ∷ p) ≡ c ++ 47 ∷ text p
text_behind c [] h = absurd (true≢false h)
text_behind c (d ∷ p) h = refl

regrouped : (front c t : Bytes) → front ++ (c ++ 47 ∷ t) ≡ ((front ++ c) ++ 47 ∷ []) ++ t
regrouped front c t = simp append_assoc

place_behind : (front c : Bytes) (p : Path) → is_nil p ≡ false → front ++ text (c ∷ p) ≡ ((front ++ c) ++ 47 ∷ []) ++ text p
place_behind front c p h = ap (λ (t : Bytes). front ++ t) (text_behind c p h) ∙ regrouped front c (text p)

module _ (blobs : List (ℕ × Bytes)) (front c : Bytes) where
  lines_below : (t : Flat) → AreSome t → lines_behind blobs ((front ++ c) ++ 47 ∷ []) t ≡ lines_behind blobs front (below c t)
  lines_below [] h = refl
  lines_below (e ∷ t) h =
      λ i. line (codes "M " ++ mode_text (leaf_mode e.1) ++ codes " " ++ leaf_ref blobs e.1 ++ codes " ") (quote (sym (place_behind front c e.0 h.0) i)) ++ lines_below t h.1 i

-- the lines of an entry that is a directory
pub directory_lines : (S : List Object) (blobs : List (ℕ × Bytes)) (front inner : Bytes) (c : Bytes) (m : Mode) (n : Bytes) → IsStore S → has Tree S n ≡ true → is_dir m ≡ true → inner ≡ (front ++ c) ++ 47 ∷ []
    → lines_behind blobs inner (flat S n) ≡ lines_behind blobs front (below c (rests (node_of (body_of Blob S) (flat S) m n)))
directory_lines S blobs front inner c File n s h d e = absurd (true≢false (sym d))
directory_lines S blobs front inner c Exec n s h d e = absurd (true≢false (sym d))
directory_lines S blobs front inner c Link n s h d e = absurd (true≢false (sym d))
directory_lines S blobs front inner c Module n s h d e = absurd (true≢false (sym d))
directory_lines S blobs front inner c Dir n s h d e = ap (λ (f : Bytes). lines_behind blobs f (flat S n)) e ∙ lines_below blobs front c (flat S n) (some_flat S n s h)

-- the line of a leaf, as it is written
pub line_is : (S : List Object) (g : Given) (front : Bytes) (p : Path) (m : Mode) (n : Name) → AreHeldBlobs S g → is_dir m ≡ false → has_child S m n.0 ≡ true
    → modify_line m (data_ref m n.0 (unwrap_or (lookup (is_named n) g.blobs) 0)) (front ++ text p) ≡ line_behind (marks_in S g).blobs front (p, leaf_of (body_of Blob S) m n.0)
line_is S g front p File n held d h = ap (λ k. modify_line File (data_ref File n.0 k) (front ++ text p)) (sym (blob_number S n h g.blobs held))
line_is S g front p Exec n held d h = ap (λ k. modify_line Exec (data_ref Exec n.0 k) (front ++ text p)) (sym (blob_number S n h g.blobs held))
line_is S g front p Link n held d h = ap (λ k. modify_line Link (data_ref Link n.0 k) (front ++ text p)) (sym (blob_number S n h g.blobs held))
line_is S g front p Module n held d h = refl
line_is S g front p Dir n held d h = absurd (true≢false d)

-- the lines of an entry that is a leaf
pub leaf_lines : (S : List Object) (g : Given) (front place c : Bytes) (m : Mode) (n : Name) → AreHeldBlobs S g → is_dir m ≡ false → has_child S m n.0 ≡ true → place ≡ front ++ c
    → modify_line m (data_ref m n.0 (unwrap_or (lookup (is_named n) g.blobs) 0)) place ≡ lines_behind (marks_in S g).blobs front (below c (rests (node_of (body_of Blob S) (flat S) m n.0)))
leaf_lines S g front place c m n held d h e =
    ap (λ (p : Bytes). modify_line m (data_ref m n.0 (unwrap_or (lookup (is_named n) g.blobs) 0)) p) e
    ∙ line_is S g front (c ∷ []) m n held d h
    ∙ one S (marks_in S g).blobs front c m n.0 d
  where
    one : (S : List Object) (blobs : List (ℕ × Bytes)) (front c : Bytes) (m : Mode) (n : Bytes) → is_dir m ≡ false
        → line_behind blobs front (c ∷ [], leaf_of (body_of Blob S) m n) ≡ lines_behind blobs front (below c (rests (node_of (body_of Blob S) (flat S) m n)))
    one S blobs front c File n d = sym (append-nil _)
    one S blobs front c Exec n d = sym (append-nil _)
    one S blobs front c Link n d = sym (append-nil _)
    one S blobs front c Module n d = sym (append-nil _)
    one S blobs front c Dir n d = absurd (true≢false d)

-- ---- the first of what is left

pub first_of_left : (left rest : List Entry) (e : Entry) → Some e ≡ slice_get left 0 → rest ≡ drop 1 left → left ≡ e ∷ rest
first_of_left [] rest e h g = cc
first_of_left (d ∷ ds) rest e h g = let same : e ≡ d = cc in λ i. sym same i ∷ sym g i

pub none_of_left : (left : List Entry) → None ≡ slice_get left 0 → left ≡ []
none_of_left [] h = refl
none_of_left (e ∷ es) h = cc

-- ---- what a tree lists

pub found_body : (S : List Object) (n : Bytes) (o : Object) → IsStore S → has Tree S n ≡ true → Some o ≡ find_named S n → o.body ≡ body_of Tree S n
found_body S n o s h e = let f : Some o ≡ Some _ = e ∙ find-has S Tree n s h in cc

pub found_never : (S : List Object) (n : Bytes) → IsStore S → has Tree S n ≡ true → None ≡ find_named S n → ⊥
found_never S n s h e = let f : None ≡ Some _ = e ∙ find-has S Tree n s h in cc

pub body_lists : (S : List Object) (n : Bytes) → IsStore S → has Tree S n ≡ true → is_some (tree_entries (body_of Tree S n)) ≡ true
body_lists S n s h = ap is_some (stored_tree S s n h).1.read

-- ---- what stands behind a front

pub behind_is : (kept front all : Bytes) (n : ℕ) → n ≡ length kept → all ≡ kept ++ front → take (length all - n) (drop n all) ≡ front
behind_is kept front all n e f = rest n all ∙ (λ i. drop (e i) (f i)) ∙ dropped kept front
  where
    rest : (n : ℕ) (xs : Bytes) → take (length xs - n) (drop n xs) ≡ drop n xs
    rest n xs = grind (arith, common_steps)

    dropped : (xs ys : Bytes) → drop (length xs) (xs ++ ys) ≡ ys
    dropped [] ys = refl
    dropped (x ∷ xs) ys = dropped xs ys

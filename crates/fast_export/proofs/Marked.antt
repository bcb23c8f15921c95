-- What has a mark keeps it, and its lines stay.
use Rattle.std.proofs.Common.{◌≡◌, ℕ, true, false, ◌||◌, List, [], ◌∷◌, ◌++◌, Some, None, refl, sym, ap, subst, ◌∙◌}
use Rattle.std.specs.Prelude.{if◌then◌else◌, codes, decimal}
use Rattle.std.specs.List.{cons_option, enumerate_from, list_any}
use Rattle.std.specs.Cmp.Lexicographic.{bytes_decides}
use Rattle.git_objects.specs.Lists.{Each}
use Rattle.git_objects.specs.Paths.{Bytes, text}
use Rattle.git_objects.specs.Trees.{Leaf, FileLeaf, ExecLeaf, LinkLeaf, ModuleLeaf, Flat}
use Rattle.git_objects.specs.Names.{leaf_mode, mode_text}
use Rattle.git_objects.specs.Entries.{is_dir}
use Rattle.git_objects.specs.declared.entry.Entry.{Entry}
use Rattle.git_objects.specs.declared.name.Name.{Name}
use Rattle.indexmap.specs.IndexSet.{insert_key}
use Rattle.object_store.specs.Objects.{Object}
use Rattle.object_store.specs.Unfolding.{below, entry_flat, flat}
use Rattle.path_names.specs.Quoting.{quote}
use Rattle.path_trees.proofs.Walks.{dir_rests}
use Rattle.object_store.specs.TreeObjects.{blob_of}
use Rattle.fast_export.specs.ExportTexts.{Marks, further, is_among, leaf_ref, line, new_blobs}
use Rattle.fast_export.specs.Given.{Given, AreGivenIn, AreHeldBlobs, HasMark, HasMarks, is_named, marks_in, with_blobs}
use Rattle.fast_export.specs.Known.{AreKnown, IsKnown, lines_behind}
use Rattle.fast_export.specs.declared.known.Lines.{Lines}
use Rattle.fast_export.proofs.Marking.{HasBlob, among_front, blobs_marked, contents, contents_append, each_so, found, leaf_blobs}

-- ---- more marks

marks_stay : (ms ns : List (ℕ × Bytes)) (t : Flat) → HasMarks ms t → HasMarks (ms ++ ns) t
marks_stay ms ns t h = each_so (λ e. HasMark ms e.1) (λ e. HasMark (ms ++ ns) e.1) t (λ e k b same. ap (is_among b) (contents_append ms ns) ∙ among_front b (contents ms) (contents ns) (k b same)) h

-- the blobs of a tree have marks once its new blobs do
pub all_marked : (m : Marks) (t : Flat) → HasMarks (with_blobs m t).blobs t
all_marked m t = blobs_marked m.blobs m.next t

ref_stays : (ms ns : List (ℕ × Bytes)) (x : Leaf) → HasMark ms x → leaf_ref (ms ++ ns) x ≡ leaf_ref ms x
ref_stays ms ns (FileLeaf b) h = ap (λ n. codes ":" ++ decimal n) (found b ms ns (h b refl))
ref_stays ms ns (ExecLeaf b) h = ap (λ n. codes ":" ++ decimal n) (found b ms ns (h b refl))
ref_stays ms ns (LinkLeaf b) h = ap (λ n. codes ":" ++ decimal n) (found b ms ns (h b refl))
ref_stays ms ns (ModuleLeaf n) h = refl

lines_stay : (ms ns : List (ℕ × Bytes)) (front : Bytes) (t : Flat) → HasMarks ms t → lines_behind (ms ++ ns) front t ≡ lines_behind ms front t
lines_stay ms ns front [] h = refl
lines_stay ms ns front (e ∷ t) h =
    λ i. line (codes "M " ++ mode_text (leaf_mode e.1) ++ codes " " ++ ref_stays ms ns e.1 h.0 i ++ codes " ") (quote (front ++ text e.0)) ++ lines_stay ms ns front t h.1 i

pub known_stay : (S : List Object) (ms ns : List (ℕ × Bytes)) (es : List (Name × Lines)) → AreKnown S ms es → AreKnown S (ms ++ ns) es
known_stay S ms ns es h = each_so (IsKnown S ms) (IsKnown S (ms ++ ns)) es (λ e k. record { marks = marks_stay ms ns (flat S e.0.0) k.marks; text = k.text ∙ sym (lines_stay ms ns e.1.front.items (flat S e.0.0) k.marks) }) h

-- ---- trees whose blobs have marks

abbrev pub AreAllMarked : List Object → List (ℕ × Bytes) → List Name → Type 0
AreAllMarked S ms ns = Each (λ n. HasMarks ms (flat S n.0)) ns

pub given_more : (S : List Object) (g h : Given) (t : Flat) → AreGivenIn S g → AreHeldBlobs S h → h.trees ≡ g.trees → marks_in S h ≡ with_blobs (marks_in S g) t → AreGivenIn S h
given_more S g h t given held same m = record {
  held = held;
  trees =
      subst (AreAllMarked S (marks_in S h).blobs) (sym same)
      (subst (λ (ms : List (ℕ × Bytes)). AreAllMarked S ms g.trees) (sym (ap (λ (x : Marks). x.blobs) m))
      (each_so (λ n. HasMarks (marks_in S g).blobs (flat S n.0)) (λ n. HasMarks (with_blobs (marks_in S g) t).blobs (flat S n.0)) g.trees (λ n k. marks_stay (marks_in S g).blobs (new_blobs (marks_in S g) t) (flat S n.0) k) given.trees));
}

pub tree_marked : (S : List Object) (ms : List (ℕ × Bytes)) (n : Name) (ks : List Name) → list_any (is_named n) ks ≡ true → AreAllMarked S ms ks → HasMarks ms (flat S n.0)
tree_marked S ms n [] e h = absurd cc
tree_marked S ms n (k ∷ ks) e h =
    elim (is_named n k) as (λ b. is_named n k ≡ b → (b || list_any (is_named n) ks) ≡ true → HasMarks ms (flat S n.0)) [
      | true ↦ λ same _. subst (λ (x : Bytes). HasMarks ms (flat S x)) (sym ((bytes_decides n.0 k.0).0 same)) h.0
      | false ↦ λ _ f. tree_marked S ms n ks f h.1
    ] refl e

each_pushed : {A : Type 0} (P : A → Type 0) (xs : List A) (x : A) → Each P xs → P x → Each P (xs ++ x ∷ [])
each_pushed P [] x h p = (p, tt)
each_pushed P (y ∷ xs) x h p = (h.0, each_pushed P xs x h.1 p)

pub tree_added : (S : List Object) (ms : List (ℕ × Bytes)) (n : Name) (ks : List Name) → AreAllMarked S ms ks → HasMarks ms (flat S n.0) → AreAllMarked S ms (insert_key is_named ks n)
tree_added S ms n ks h p =
    elim (list_any (is_named n) ks) as (λ b. AreAllMarked S ms (if b then ks else ks ++ n ∷ [])) [
      | true ↦ h
      | false ↦ each_pushed (λ k. HasMarks ms (flat S k.0)) ks n h p
    ]

-- ---- no new blobs

none_further : (others : List Bytes) (t : Flat) → Each (HasBlob others) t → further others (leaf_blobs t) ≡ []
none_further others [] h = refl
none_further others (e ∷ t) h =
    elim (blob_of e.1) as (λ o. blob_of e.1 ≡ o → further others (cons_option o (leaf_blobs t)) ≡ []) [
      | None ↦ λ _. none_further others t h.1
      | Some b ↦ λ k. ap (λ v. if v then further others (leaf_blobs t) else b ∷ further (b ∷ others) (leaf_blobs t)) (h.0 b k) ∙ none_further others t h.1
    ] refl

pub none_new : (m : Marks) (t : Flat) → HasMarks m.blobs t → new_blobs m t ≡ []
none_new m t h = ap (enumerate_from m.next) (none_further (contents m.blobs) t h)

-- ---- parts of a tree

pub marks_parts : (ms : List (ℕ × Bytes)) (t u : Flat) → HasMarks ms (t ++ u) → HasMarks ms t × HasMarks ms u
marks_parts ms [] u h = (tt, h)
marks_parts ms (e ∷ t) u h = let r = marks_parts ms t u h.1 in ((h.0, r.0), r.1)

pub marks_below : (ms : List (ℕ × Bytes)) (c : Bytes) (t : Flat) → HasMarks ms (below c t) → HasMarks ms t
marks_below ms c [] h = tt
marks_below ms c (e ∷ t) h = (h.0, marks_below ms c t h.1)

blobs_below : (c : Bytes) (t : Flat) → leaf_blobs (below c t) ≡ leaf_blobs t
blobs_below c [] = refl
blobs_below c (e ∷ t) = ap (cons_option (blob_of e.1)) (blobs_below c t)

pub new_below : (m : Marks) (c : Bytes) (t : Flat) → new_blobs m t ≡ new_blobs m (below c t)
new_below m c t = ap (λ bs. enumerate_from m.next (further (contents m.blobs) bs)) (sym (blobs_below c t))

-- a directory's blobs are those of its entry
pub directory_marks : (S : List Object) (ms : List (ℕ × Bytes)) (e : Entry) → is_dir e.mode ≡ true → HasMarks ms (entry_flat S e) → HasMarks ms (flat S e.name.0)
directory_marks S ms e d h = marks_below ms e.component (flat S e.name.0) (subst (λ (t : Flat). HasMarks ms (below e.component t)) (dir_rests S e.mode e.name.0 d) h)

-- a tree whose blobs were written is added
pub tree_given : (S : List Object) (g h i : Given) (n : Name) → marks_in S h ≡ with_blobs (marks_in S g) (flat S n.0) → AreGivenIn S h → i ≡ record h { trees = insert_key is_named h.trees n } → AreGivenIn S i
tree_given S g h i n marks given e =
    subst (AreGivenIn S) (sym e)
    (record {
      held = given.held;
      trees = tree_added S (marks_in S h).blobs n h.trees given.trees (subst (λ (m : Marks). HasMarks m.blobs (flat S n.0)) (sym marks) (all_marked (marks_in S g) (flat S n.0)));
    })

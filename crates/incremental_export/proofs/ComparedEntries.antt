-- What is found of entries that are compared: of directories, behind their components, and of leaves.
use Rattle.std.proofs.Common.{◌≡◌, true, false, cond, not, ◌&&◌, List, [], ◌∷◌, ◌++◌, Some, None, map, refl, sym, ap, subst, ◌∙◌, true≢false}
use Rattle.std.specs.Option.{is_none, option_map_or, unwrap_or}
use Rattle.git_objects.specs.Names.{leaf_mode, leaf_name}
use Rattle.git_objects.specs.Paths.{Bytes, Path}
use Rattle.git_objects.specs.Trees.{Flat, Leaf, same_leaf}
use Rattle.git_objects.specs.Entries.{is_dir}
use Rattle.git_objects.specs.Views.{entry_value}
use Rattle.git_objects.specs.declared.entry.Entry.{Entry}
use Rattle.git_objects.specs.declared.kind.Kind.TheVariants.{Blob, Tree}
use Rattle.git_objects.specs.declared.mode.Mode.{Mode}
use Rattle.git_objects.specs.declared.mode.Mode.TheVariants.{Dir, Exec, File, Link, Module}
use Rattle.git_objects.specs.declared.tree_view.EntryView.{EntryView}
use Rattle.git_objects.proofs.Basics.{same_bytes-self}
use Rattle.git_objects.proofs.Pointwise.{leaf-is}
use Rattle.object_store.specs.Objects.{IsStore, Object, body_of, has, has_child}
use Rattle.object_store.specs.Unfolding.{below, entry_flat, flat}
use Rattle.path_trees.specs.Listed.{listed}
use Rattle.path_trees.specs.Walked.{leaf_of}
use Rattle.path_trees.proofs.Trees.{tree_listed}
use Rattle.path_trees.proofs.Walks.{dir_rests, leaf_named, leaf_rests, tree_held}
use Rattle.path_trees.specs.declared.pairs.Pair.TheVariants.{Both}
use Rattle.incremental_export.specs.Changes.{changed, deleted}
use Rattle.incremental_export.specs.Compared.{IsFound, IsHeldPair, leaves_behind, placed_leaf, texts_behind}
use Rattle.incremental_export.specs.declared.compare.Changes.{Changes}
use Rattle.incremental_export.proofs.Comparing.{AreSome, all_changed, deleted_told, put_told}
use Rattle.incremental_export.proofs.ComparedListings.{flat_some}

-- trees that give the same changes have the same found
pub found_as : (S : List Object) (front inner : Bytes) (a b t u : Flat) (x y : Changes) → texts_behind inner (deleted t u) ≡ texts_behind front (deleted a b)
    → leaves_behind inner (changed t u) ≡ leaves_behind front (changed a b) → IsFound S inner t u x y → IsFound S front a b x y
found_as S front inner a b t u x y h g f = record {
  deleted = f.deleted ∙ ap (λ (l : List Bytes). map (λ t. t.items) x.deleted.items ++ l) h;
  put = f.put ∙ ap (λ (l : List (Bytes × Leaf)). map (placed_leaf S) x.put.items ++ l) g;
  held = f.held;
}

-- ---- directories

found_below : (S : List Object) (front inner c : Bytes) (a b : Flat) (x y : Changes) → inner ≡ (front ++ c) ++ 47 ∷ [] → AreSome a → AreSome b → IsFound S inner a b x y
    → IsFound S front (below c a) (below c b) x y
found_below S front inner c a b x y e h g f =
    found_as S front inner (below c a) (below c b) a b x y
    (ap (λ (k : Bytes). texts_behind k (deleted a b)) e ∙ sym (deleted_told.inner front c a b h g))
    (ap (λ (k : Bytes). leaves_behind k (changed a b)) e ∙ sym (put_told.inner front c a b h g)) f

module _ (S : List Object) (s : IsStore S) (e : EntryView) (d : is_dir e.mode ≡ true) (h : has_child S e.mode e.name.0 ≡ true) (front inner : Bytes) (place : inner ≡ (front ++ e.component.now) ++ 47 ∷ []) (x y : Changes) where
  some : AreSome (flat S e.name.0)
  some = flat_some S e.name.0 s (tree_held S e.mode e.name.0 d h)

  flat_is : below e.component.now (flat S e.name.0) ≡ entry_flat S (entry_value e)
  flat_is = ap (below e.component.now) (sym (dir_rests S e.mode e.name.0 d))

  pub gone_directory : IsFound S inner (flat S e.name.0) [] x y → IsFound S front (entry_flat S (entry_value e)) [] x y
  gone_directory f = subst (λ (t : Flat). IsFound S front t [] x y) flat_is (found_below S front inner e.component.now (flat S e.name.0) [] x y place some tt f)

  pub new_directory : IsFound S inner [] (flat S e.name.0) x y → IsFound S front [] (entry_flat S (entry_value e)) x y
  new_directory f = subst (λ (t : Flat). IsFound S front [] t x y) flat_is (found_below S front inner e.component.now [] (flat S e.name.0) x y place tt some f)

-- what a held tree lists
pub listed_held : (S : List Object) (n : Bytes) (es : List Entry) → IsStore S → has Tree S n ≡ true → es ≡ unwrap_or (listed S n) [] → listed S n ≡ Some es
listed_held S n es s h e = let r = tree_listed S n s h in r.1 ∙ ap Some (sym (e ∙ ap (λ o. unwrap_or o []) r.1))

-- ---- leaves

leaf_flat : (S : List Object) (e : EntryView) → is_dir e.mode ≡ false → entry_flat S (entry_value e) ≡ (e.component.now ∷ [], leaf_of (body_of Blob S) e.mode e.name.0) ∷ []
leaf_flat S e d = ap (below e.component.now) (leaf_rests S e.mode e.name.0 d)

mode_of : (blob : Bytes → Bytes) (m : Mode) (n : Bytes) → is_dir m ≡ false → leaf_mode (leaf_of blob m n) ≡ m
mode_of blob File n d = refl
mode_of blob Exec n d = refl
mode_of blob Link n d = refl
mode_of blob Module n d = refl
mode_of blob Dir n d = absurd (true≢false d)

one_deleted : (c : Bytes) (x y : Leaf) → deleted ((c ∷ [], x) ∷ []) ((c ∷ [], y) ∷ []) ≡ []
one_deleted c x y = ap (λ b. map (λ (e : Path × Leaf). e.0) (cond (is_none (cond (b && true) (Some y) None)) ((c ∷ [], x) ∷ []) [])) (same_bytes-self c)

one_changed : (c : Bytes) (x y : Leaf) → same_leaf y x ≡ false → changed ((c ∷ [], x) ∷ []) ((c ∷ [], y) ∷ []) ≡ (c ∷ [], y) ∷ []
one_changed c x y h =
    ap (λ b. cond (not (option_map_or (same_leaf y) (cond (b && true) (Some x) None) false)) ((c ∷ [], y) ∷ []) []) (same_bytes-self c)
    ∙ ap (λ b. cond (not b) ((c ∷ [], y) ∷ []) []) h

-- of two leaves of one component, of which neither is the other, the second is new
module _ (S : List Object) (e f : EntryView) (h : IsHeldPair S (Both e f)) (d : is_dir f.mode ≡ false) where
  other_d : is_dir e.mode ≡ false
  other_d = h.3 ∙ d

  others : same_leaf (leaf_of (body_of Blob S) f.mode f.name.0) (leaf_of (body_of Blob S) e.mode e.name.0) ≡ false
  others = elim (same_leaf (leaf_of (body_of Blob S) f.mode f.name.0) (leaf_of (body_of Blob S) e.mode e.name.0)) as (λ b.
      same_leaf (leaf_of (body_of Blob S) f.mode f.name.0) (leaf_of (body_of Blob S) e.mode e.name.0) ≡ b → b ≡ false) [
        | true ↦ λ k.
            let same = leaf-is (leaf_of (body_of Blob S) f.mode f.name.0) (leaf_of (body_of Blob S) e.mode e.name.0) k in
            let m : e.mode ≡ f.mode = sym (mode_of (body_of Blob S) e.mode e.name.0 other_d) ∙ ap leaf_mode (sym same) ∙ mode_of (body_of Blob S) f.mode f.name.0 d in
            let n : e.name.0 ≡ f.name.0 = sym (leaf_named S e.mode e.name.0 h.0 other_d) ∙ ap leaf_name (sym same) ∙ leaf_named S f.mode f.name.0 h.1 d in
            absurd (h.4 (λ i. record { mode = m i; component = h.2 i; name = record { 0 = n i } }))
        | false ↦ λ k. refl
      ] refl

  e_flat : entry_flat S (entry_value e) ≡ (f.component.now ∷ [], leaf_of (body_of Blob S) e.mode e.name.0) ∷ []
  e_flat = leaf_flat S e other_d ∙ (λ i. (h.2 i ∷ [], leaf_of (body_of Blob S) e.mode e.name.0) ∷ [])

  pub new_leaf : (front : Bytes) (a b : Changes) → IsFound S front [] (entry_flat S (entry_value f)) a b → IsFound S front (entry_flat S (entry_value e)) (entry_flat S (entry_value f)) a b
  new_leaf front a b g =
      found_as S front front (entry_flat S (entry_value e)) (entry_flat S (entry_value f)) [] (entry_flat S (entry_value f)) a b
      (ap (texts_behind front) (sym ((λ i. deleted (e_flat i) (leaf_flat S f d i)) ∙ one_deleted f.component.now (leaf_of (body_of Blob S) e.mode e.name.0) (leaf_of (body_of Blob S) f.mode f.name.0))))
      (ap (leaves_behind front) (all_changed (entry_flat S (entry_value f)) ∙ leaf_flat S f d
      ∙ sym ((λ i. changed (e_flat i) (leaf_flat S f d i)) ∙ one_changed f.component.now (leaf_of (body_of Blob S) e.mode e.name.0) (leaf_of (body_of Blob S) f.mode f.name.0) others)))
      g

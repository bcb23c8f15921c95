-- What is found of two trees that are compared, by leaves and by entries.
use Rattle.std.proofs.Common.{◌≡◌, true, List, [], ◌∷◌, ◌++◌, None, map, refl, sym, ap, subst, ◌∙◌, append-nil, append_assoc}
use Rattle.std.proofs.lemmas.List.{map-append}
use Rattle.git_objects.specs.Lists.{Each}
use Rattle.git_objects.specs.Paths.{Bytes, Path, text}
use Rattle.git_objects.specs.Trees.{Flat, Leaf}
use Rattle.git_objects.specs.declared.kind.Kind.TheVariants.{Blob, Tree}
use Rattle.object_store.specs.Objects.{IsStore, Object, body_of, has, has_child}
use Rattle.object_store.specs.Unfolding.{flat}
use Rattle.path_trees.specs.Walked.{Walked, leaf_of}
use Rattle.fast_import.proofs.WalkedLeaves.{IsPassed, none_passed}
use Rattle.incremental_export.specs.Compared.{IsFound, IsHeldLeaf, leaves_behind, placed_leaf, texts_behind}
use Rattle.incremental_export.specs.declared.compare.Changes.{Changes}
use Rattle.incremental_export.specs.declared.compare.Placed.{Placed}
use Rattle.incremental_export.proofs.Comparing.{all_changed, all_deleted, each_append}

-- ---- leaf by leaf

-- the paths of these leaves are added, and the others are left
pub record AreGone (S : List Object) (front : Bytes) (t done left : Flat) (before after : Changes) : Type 0 where
  pub passed : IsPassed S t done left
  pub deleted : map (λ t. t.items) after.deleted.items ≡ map (λ t. t.items) before.deleted.items ++ texts_behind front (map (λ e. e.0) done)
  pub put : after.put ≡ before.put

-- these leaves are added, and the others are left
pub record AreNew (S : List Object) (front : Bytes) (t done left : Flat) (before after : Changes) : Type 0 where
  pub passed : IsPassed S t done left
  pub deleted : after.deleted ≡ before.deleted
  pub put : map (placed_leaf S) after.put.items ≡ map (placed_leaf S) before.put.items ++ leaves_behind front done
  pub held : Each (IsHeldLeaf S) before.put.items → Each (IsHeldLeaf S) after.put.items

pub pushed : {V W : Type 0} (f : V → W) (xs ys : List V) (v : V) → ys ≡ xs ++ v ∷ [] → map f ys ≡ map f xs ++ f v ∷ []
pushed f xs ys v h = ap (map f) h ∙ map-append f xs (v ∷ [])

-- the text of a leaf's path, as it is put together
pub text_here : (front : Bytes) (e : Path × Leaf) (p : Path) (spelled lent both : Bytes) → e.0 ≡ p → spelled ≡ text p → lent ≡ spelled → both ≡ front ++ lent → both ≡ front ++ text e.0
text_here front e p spelled lent both at h k g = g ∙ ap (λ (t : Bytes). front ++ t) (k ∙ h ∙ ap text (sym at))

texts_more : (front : Bytes) (done : Flat) (e : Path × Leaf) → texts_behind front (map (λ e. e.0) done) ++ (front ++ text e.0) ∷ [] ≡ texts_behind front (map (λ e. e.0) (done ++ e ∷ []))
texts_more front [] e = refl
texts_more front (d ∷ done) e = ap (λ (l : List Bytes). (front ++ text d.0) ∷ l) (texts_more front done e)

leaves_more : (front : Bytes) (done : Flat) (e : Path × Leaf) → leaves_behind front done ++ (front ++ text e.0, e.1) ∷ [] ≡ leaves_behind front (done ++ e ∷ [])
leaves_more front [] e = refl
leaves_more front (d ∷ done) e = ap (λ (l : List (Bytes × Leaf)). (front ++ text d.0, d.1) ∷ l) (leaves_more front done e)

module _ (S : List Object) (front : Bytes) where
  pub none_gone : (n : Bytes) (w : Walked) (a : Changes) → IsStore S → has Tree S n ≡ true → w ≡ record { current = None; left = flat S n } → AreGone S front (flat S n) [] w.left a a
  none_gone n w a s h e = record { passed = none_passed S n w s h e; deleted = sym (append-nil (map (λ t. t.items) a.deleted.items)); put = refl }

  pub more_gone : (t done left rest : Flat) (a b c : Changes) (e : Path × Leaf) (x : Bytes) → AreGone S front t done left a b → IsPassed S t (done ++ e ∷ []) rest
      → map (λ t. t.items) c.deleted.items ≡ map (λ t. t.items) b.deleted.items ++ x ∷ [] → x ≡ front ++ text e.0 → c.put ≡ b.put → AreGone S front t (done ++ e ∷ []) rest a c
  more_gone t done left rest a b c e x g p h k same = record {
    passed = p;
    deleted = h ∙ (λ i. g.deleted i ++ k i ∷ [])
        ∙ append_assoc (map (λ t. t.items) a.deleted.items) (texts_behind front (map (λ e. e.0) done)) ((front ++ text e.0) ∷ [])
        ∙ ap (λ (l : List Bytes). map (λ t. t.items) a.deleted.items ++ l) (texts_more front done e);
    put = same ∙ g.put;
  }

  pub all_gone : (t done left : Flat) (a b : Changes) → AreGone S front t done left a b → done ≡ t → IsFound S front t [] a b
  all_gone t done left a b g e = record {
    deleted = g.deleted ∙ ap (λ (ps : List Path). map (λ t. t.items) a.deleted.items ++ texts_behind front ps) (ap (map (λ e. e.0)) e ∙ sym (all_deleted t));
    put = ap (λ p. map (placed_leaf S) p.items) g.put ∙ sym (append-nil (map (placed_leaf S) a.put.items));
    held = λ h. subst (λ p. Each (IsHeldLeaf S) p.items) (sym g.put) h;
  }

  pub none_new : (n : Bytes) (w : Walked) (a : Changes) → IsStore S → has Tree S n ≡ true → w ≡ record { current = None; left = flat S n } → AreNew S front (flat S n) [] w.left a a
  none_new n w a s h e = record { passed = none_passed S n w s h e; deleted = refl; put = sym (append-nil (map (placed_leaf S) a.put.items)); held = λ g. g }

  pub more_new : (t done left rest : Flat) (a b c : Changes) (e : Path × Leaf) (x : Placed) → AreNew S front t done left a b → IsPassed S t (done ++ e ∷ []) rest
      → c.put.items ≡ b.put.items ++ x ∷ [] → x.path.items ≡ front ++ text e.0 → has_child S x.leaf.mode x.leaf.name.0 ≡ true → leaf_of (body_of Blob S) x.leaf.mode x.leaf.name.0 ≡ e.1
      → c.deleted ≡ b.deleted → AreNew S front t (done ++ e ∷ []) rest a c
  more_new t done left rest a b c e x g p h k child leaf same = record {
    passed = p;
    deleted = same ∙ g.deleted;
    put = pushed (placed_leaf S) b.put.items c.put.items x h
        ∙ (λ i. g.put i ++ (k i, leaf i) ∷ [])
        ∙ append_assoc (map (placed_leaf S) a.put.items) (leaves_behind front done) ((front ++ text e.0, e.1) ∷ [])
        ∙ ap (λ (l : List (Bytes × Leaf)). map (placed_leaf S) a.put.items ++ l) (leaves_more front done e);
    held = λ held. subst (Each (IsHeldLeaf S)) (sym h) (each_append (IsHeldLeaf S) b.put.items (x ∷ []) (g.held held) (child, tt));
  }

  pub all_new : (t done left : Flat) (a b : Changes) → AreNew S front t done left a b → done ≡ t → IsFound S front [] t a b
  all_new t done left a b g e = record {
    deleted = ap (λ d. map (λ t. t.items) d.items) g.deleted ∙ sym (append-nil (map (λ t. t.items) a.deleted.items));
    put = g.put ∙ ap (λ (u : Flat). map (placed_leaf S) a.put.items ++ leaves_behind front u) (e ∙ sym (all_changed t));
    held = g.held;
  }

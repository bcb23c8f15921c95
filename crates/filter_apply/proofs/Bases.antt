-- What was found at places of a tree.
use Rattle.std.proofs.Common.{◌≡◌, ℕ, zero, suc, ◌+◌, ◌<◌, T, List, [], ◌∷◌, ◌++◌, length, take, drop, slice_get, get_or, Option, Some, None, refl, sym, ap, subst, ◌∙◌, arith, add-one, append-nil}
use Rattle.std.specs.Option.{option_map, option_or}
use Rattle.std.specs.FinMap.{is_sorted}
use Rattle.std.proofs.lemmas.List.{take_more}
use Rattle.std.proofs.lemmas.List.Sums.{sum_by-cons}
use Rattle.std.proofs.lemmas.Option.{none-some, same_Some}
use Rattle.std.proofs.Math.Seq.{drop-cons}
use Rattle.git_objects.specs.Paths.{Path, path_cmp}
use Rattle.git_objects.specs.Trees.{Leaf, Flat, IsTree, Node, LeafNode, TreeNode, at, under, rests, standing, if_full}
use Rattle.git_objects.proofs.Under.{under-tree}
use Rattle.object_store.specs.Objects.{Object, IsStore}
use Rattle.object_store.specs.Growth.{IsGrownBy}
use Rattle.object_store.specs.Hands.{IsLeafOf, IsComponentOf}
use Rattle.path_trees.specs.declared.found.Found.{Found}
use Rattle.path_trees.proofs.Grown.{child-above, node-above}
use Rattle.decision_lists.specs.Entries.{Entry, base}
use Rattle.filter_apply.specs.Founds.{IsFoundAt, AreFoundAt, base_lengths}
use Rattle.filter_apply.specs.Hands.{IsPartObject}
use Rattle.filter_apply.specs.Parts.{base_in}
use Rattle.filter_apply.proofs.Overs.{IsOver, over_own, over_from, over_under, made_as, leaf_over, part_over}

-- ---- one more entry

module _ (S : List Object) (t : Flat) (d : Entry) (p : Path) (place : p ≡ base d.0) (found : Option Found) (at_place : IsFoundAt S t p found) where
  here : IsFoundAt S t (base d.0) found
  here = subst (λ (q : Path). IsFoundAt S t q found) place at_place

  last_found : (ds : List Entry) (fs : List (Option Found)) → length fs ≡ length ds → ((j : ℕ) (g : Option Found) → slice_get fs j ≡ Some g → IsFoundAt S t (base_in (slice_get ds j)) g) →
      (j : ℕ) (g : Option Found) → slice_get (fs ++ found ∷ []) j ≡ Some g → IsFoundAt S t (base_in (slice_get (ds ++ d ∷ []) j)) g
  last_found [] [] l h zero g e = subst (IsFoundAt S t (base d.0)) (same_Some found g e) here
  last_found [] [] l h (suc j) g e = absurd (none-some g e)
  last_found [] (f ∷ fs) l h j g e = absurd (omega arith)
  last_found (x ∷ ds) [] l h j g e = absurd (omega arith)
  last_found (x ∷ ds) (f ∷ fs) l h zero g e = h 0 g e
  last_found (x ∷ ds) (f ∷ fs) l h (suc j) g e = last_found ds fs (omega arith) (λ k. h (suc k)) j g e

  one_longer : (ds : List Entry) (fs : List (Option Found)) → length fs ≡ length ds → length (fs ++ found ∷ []) ≡ length (ds ++ d ∷ [])
  one_longer [] [] l = refl
  one_longer [] (f ∷ fs) l = absurd (omega arith)
  one_longer (x ∷ ds) [] l = absurd (omega arith)
  one_longer (x ∷ ds) (f ∷ fs) l = ap suc (one_longer ds fs (omega arith))

  pub found_more : (es : List Entry) (i : ℕ) (fs gs : List (Option Found)) → i < length es → d ≡ get_or es i d → gs ≡ fs ++ found ∷ [] → AreFoundAt S t (take i es) fs → AreFoundAt S t (take (i + 1) es) gs
  found_more es i fs gs l e more are =
      let longer : take i es ++ d ∷ [] ≡ take (i + 1) es = ap (λ (x : Entry). take i es ++ x ∷ []) e ∙ sym (take_more es i d l) in
      subst (λ (w : List Entry × List (Option Found)). AreFoundAt S t w.0 w.1) (λ k. (longer k, sym more k))
      (record { as_many = one_longer (take i es) fs are.as_many; each = last_found (take i es) fs are.as_many are.each })

pub lengths_less : (es : List Entry) (i : ℕ) (d : Entry) → i < length es → d ≡ get_or es i d → base_lengths (drop i es) ≡ length (base d.0) + base_lengths (drop (i + 1) es)
lengths_less es i d l e =
    ap base_lengths (drop-cons es i d l)
    ∙ sum_by-cons (λ (x : Entry). length (base x.0)) (get_or es i d) (drop (suc i) es)
    ∙ (λ j. length (base (sym e j).0) + base_lengths (drop (sym (add-one i) j) es))

pub one_length : (es : List Entry) → length es ≡ 1 → base_lengths es ≡ length (base_in (slice_get es 0))
one_length [] l = absurd (omega arith)
one_length (e ∷ []) l = omega arith
one_length (e ∷ d ∷ es) l = absurd (omega arith)

-- ---- a store that has grown

pub found_grown : {made : Object → Type 0} (S S' : List Object) (t : Flat) (p : Path) (o : Option Found) → IsGrownBy made S S' → IsFoundAt S t p o → IsFoundAt S' t p o
found_grown S S' t p None g h = record { stands = h.stands; held = tt }
found_grown S S' t p (Some f) g h =
    subst (λ (R : List Object). IsFoundAt R t p (Some f)) g.above
    (record {
      stands = ap Some (node-above g.newer S f.mode f.name.0 (subst IsStore (sym g.above) g.store) h.held) ∙ h.stands;
      held = child-above g.newer S f.mode f.name.0 (subst IsStore (sym g.above) g.store) h.held;
    })

pub founds_grown : {made : Object → Type 0} (S S' : List Object) (t u : Flat) (es : List Entry) (fs : List (Option Found)) → u ≡ t → IsGrownBy made S S' → AreFoundAt S t es fs → AreFoundAt S' u es fs
founds_grown S S' t u es fs same g are =
    subst (λ (v : Flat). AreFoundAt S' v es fs) (sym same)
    (record { as_many = are.as_many; each = λ i o e. found_grown S S' t (base_in (slice_get es i)) o g (are.each i o e) })

-- ---- what is made of what was found

module _ (t : Flat) (p : Path) (h : IsTree t) (n : Node) (stands : Some n ≡ standing t p) where
  abbrev IsOwn : Node → Type 0
  IsOwn m = T (is_sorted path_cmp (rests m)) × IsOver (IsLeafOf t) (IsComponentOf t) (rests m)

  of_leaf : (x : Leaf) → at t p ≡ Some x → IsOwn (LeafNode x)
  of_leaf x e = (tt, over_from (IsLeafOf t) (IsComponentOf t) t (([], x) ∷ []) by (over_own t))
    where
      by : (q : Path) (y : Leaf) → at (([], x) ∷ []) q ≡ Some y → (a : Path) × (at t (a ++ q) ≡ Some y)
      by [] y k = (p, ap (at t) (append-nil p) ∙ e ∙ k)
      by (c ∷ q) y k = absurd (none-some y k)

  own : IsOwn n
  own = by (at t p) (under t p) refl refl (sym stands)
    where
      by : (o : Option Leaf) (w : Flat) → at t p ≡ o → under t p ≡ w → option_or (option_map LeafNode o) (if_full w) ≡ Some n → IsOwn n
      by (Some x) w e k m = subst IsOwn (same_Some (LeafNode x) n m) (of_leaf x e)
      by None [] e k m = absurd (none-some n m)
      by None (y ∷ w) e k m =
          subst IsOwn (ap TreeNode k ∙ same_Some (TreeNode (y ∷ w)) n m)
          ((under-tree t p h).sorted, over_under (IsLeafOf t) (IsComponentOf t) t p (over_own t))

  pub node_handed : (o : Object) → IsPartObject (rests n) o → IsPartObject t o
  node_handed =
      made_as (IsLeafOf (rests n)) (IsLeafOf t) (IsComponentOf (rests n)) (IsComponentOf t)
      (leaf_over (IsLeafOf t) (IsComponentOf t) (rests n) own.0 own.1) (part_over (IsLeafOf t) (IsComponentOf t) (rests n) own.0 own.1)

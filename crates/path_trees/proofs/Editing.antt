-- An edit at a path, directory by directory.
use Rattle.std.proofs.Common.{◌≡◌, Bool, true, false, cond, ◌&&◌, ◌||◌, T, List, [], ◌∷◌, ◌++◌, Option, Some, None, refl, sym, ap, ◌∙◌, true≢false, le_refl, append_assoc, append-nil}
use Rattle.std.specs.Cmp.Lexicographic.{bytes_decides}
use Rattle.git_objects.specs.Paths.{Bytes, Path, same_bytes, is_path, is_component, is_prefix, comparable}
use Rattle.git_objects.specs.Trees.{Flat, IsTree, at, Node, rests, under, put, remove}
use Rattle.git_objects.specs.Names.{body, depth}
use Rattle.git_objects.specs.Entries.{body_text}
use Rattle.git_objects.specs.declared.entry.Entry.{Entry}
use Rattle.git_objects.proofs.Basics.{same_bytes-self, same_bytes-back}
use Rattle.git_objects.proofs.Maps.{first_some, after, at_rest, at-put, at-remove, same_flat}
use Rattle.git_objects.proofs.Pointwise.{IsNode, put-tree, remove-tree}
use Rattle.git_objects.proofs.Under.{at-under, at-under_nil, under-tree}
use Rattle.object_store.specs.Objects.{Object, IsStore}
use Rattle.object_store.proofs.Unfolding.{IsHeld, IsFlat}
use Rattle.path_trees.specs.Standing.{IsClear}
use Rattle.path_trees.specs.Listed.{changed}
use Rattle.path_trees.specs.declared.found.Found.{Found}
use Rattle.path_trees.proofs.Grown.{joined_in}
use Rattle.path_trees.proofs.Listings.{OnFound}
use Rattle.path_trees.proofs.Levels.{rests_of, at-joined_nil, at-changed}
use Rattle.path_trees.proofs.Trees.{AreGood, good-changed, good_flat}

-- ---- paths that go on from one

pub front_comparable : (q x y : Path) → comparable (q ++ x) (q ++ y) ≡ comparable x y
front_comparable [] x y = refl
front_comparable (c ∷ q) x y = ap (λ b. (b && is_prefix (q ++ x) (q ++ y)) || (b && is_prefix (q ++ y) (q ++ x))) (same_bytes-self c) ∙ front_comparable q x y

apart_heads : (c d : Bytes) (r s : Path) → same_bytes d c ≡ false → comparable (c ∷ r) (d ∷ s) ≡ false
apart_heads c d r s h = (λ i. (same_bytes-back c d i && is_prefix r s) || (same_bytes d c && is_prefix s r)) ∙ ap (λ b. (b && is_prefix r s) || (b && is_prefix s r)) h

after_front : (p r : Path) → after p (p ++ r) ≡ Some r
after_front [] r = refl
after_front (c ∷ p) r = ap (λ b. cond b (after p (p ++ r)) None) (same_bytes-self c) ∙ after_front p r

prefix_front : (p r : Path) → is_prefix p (p ++ r) ≡ true
prefix_front [] r = refl
prefix_front (c ∷ p) r = ap (λ b. b && is_prefix p (p ++ r)) (same_bytes-self c) ∙ prefix_front p r

-- a path that goes on is no prefix
longer_after : (q : Path) (c : Bytes) (r : Path) → after (q ++ c ∷ r) q ≡ None
longer_after [] c r = refl
longer_after (d ∷ q) c r = ap (λ b. cond b (after (q ++ c ∷ r) q) None) (same_bytes-self d) ∙ longer_after q c r

longer_prefix : (q : Path) (c : Bytes) (r : Path) → is_prefix (q ++ c ∷ r) q ≡ false
longer_prefix [] c r = refl
longer_prefix (d ∷ q) c r = ap (λ b. b && is_prefix (q ++ c ∷ r) q) (same_bytes-self d) ∙ longer_prefix q c r

longer_comparable : (q : Path) (c : Bytes) (r : Path) → comparable (q ++ c ∷ r) q ≡ true
longer_comparable [] c r = refl
longer_comparable (d ∷ q) c r = ap (λ b. (b && is_prefix (q ++ c ∷ r) q) || (b && is_prefix q (q ++ c ∷ r))) (same_bytes-self d) ∙ longer_comparable q c r

no_after : (p q : Path) → comparable p q ≡ false → after p q ≡ None
no_after [] q h = absurd (true≢false h)
no_after (c ∷ p) [] h = refl
no_after (c ∷ p) (d ∷ q) h =
    elim (same_bytes c d) as (λ b. (b && is_prefix p q) || (b && is_prefix q p) ≡ false → cond b (after p q) None ≡ None) [
      | true ↦ λ g. no_after p q g
      | false ↦ λ g. refl
    ] (ap (λ b. (same_bytes c d && is_prefix p q) || (b && is_prefix q p)) (same_bytes-back c d) ∙ h)

no_prefix : (a b : Bool) → (a || b) ≡ false → a ≡ false
no_prefix true b h = h
no_prefix false b h = refl

-- ---- an edit at a path

-- The map u is t but at the path and what is comparable with it, and no leaf stands above the path.
pub record IsEdit (t : Flat) (p : Path) (u : Flat) : Type 0 where
  pub tree : IsTree u
  pub beside : (q : Path) → comparable p q ≡ false → at u q ≡ at t q
  pub clear : IsClear u p

put_clear : (t : Flat) (p : Path) (x : Node) → IsClear (put t p x) p
put_clear t p x q c r e =
    at-put t p x q
    ∙ ap (λ o. first_some (at_rest (rests x) o) (cond (comparable p q) None (at t q))) (ap (λ s. after s q) (sym e) ∙ longer_after q c r)
    ∙ ap (λ b. cond b None (at t q)) (ap (λ s. comparable s q) (sym e) ∙ longer_comparable q c r)

pub put_edit : (t : Flat) (p : Path) (x : Node) → IsTree t → T (is_path p) → IsNode x → IsEdit t p (put t p x)
put_edit t p x h v u = record {
  tree = put-tree t p x h v u;
  beside = λ q e. at-put t p x q ∙ (λ i. first_some (at_rest (rests x) (no_after p q e i)) (cond (e i) None (at t q)));
  clear = put_clear t p x;
}

pub remove_edit : (t : Flat) (p : Path) → IsTree t → IsClear t p → IsEdit t p (remove t p)
remove_edit t p h v = record {
  tree = remove-tree t p h;
  beside = λ q e. at-remove t p q ∙ ap (λ b. cond b None (at t q)) (no_prefix (is_prefix p q) (is_prefix q p) e);
  clear = λ q c r e. at-remove t p q ∙ ap (λ b. cond b None (at t q)) (ap (λ s. is_prefix s q) (sym e) ∙ longer_prefix q c r) ∙ v q c r e;
}

-- what stands at the path and below it then
first_nothing : (b : Bool) (o : Option Rattle.git_objects.specs.Trees.Leaf) (z : Option Rattle.git_objects.specs.Trees.Leaf) → b ≡ true → first_some o (cond b None z) ≡ o
first_nothing b None z e = ap (λ c. cond c None z) e
first_nothing b (Some x) z e = refl

comparable_front : (p r : Path) → comparable p (p ++ r) ≡ true
comparable_front p r = ap (λ b. b || is_prefix (p ++ r) p) (prefix_front p r)

pub put_part : (t : Flat) (p : Path) (x : Node) (r : Path) → at (rests x) r ≡ at (put t p x) (p ++ r)
put_part t p x r = sym (
    at-put t p x (p ++ r)
    ∙ ap (λ o. first_some (at_rest (rests x) o) (cond (comparable p (p ++ r)) None (at t (p ++ r)))) (after_front p r)
    ∙ first_nothing (comparable p (p ++ r)) (at (rests x) r) (at t (p ++ r)) (comparable_front p r))

pub remove_part : (t : Flat) (p : Path) (r : Path) → None ≡ at (remove t p) (p ++ r)
remove_part t p r = sym (at-remove t p (p ++ r) ∙ ap (λ b. cond b None (at t (p ++ r))) (prefix_front p r))

-- ---- one level

module _ (t : Flat) (p : Path) (u : Flat) (edit : IsEdit t p u) (q : Path) (c : Bytes) (r : Path) (path : q ++ c ∷ r ≡ p) (S : List Object) (s : IsStore S) (es : List Entry) (good : AreGood S es) (map : joined_in S es ≡ under t q)
    (k : is_component c ≡ true) (o : Option Found) (h : OnFound (IsHeld S) c o) (part : (x : Path) → at (rests_of S o) x ≡ at u ((q ++ c ∷ []) ++ x)) where
  abbrev new : List Entry
  new = changed c o es

  pub new_good : AreGood S new
  new_good = good-changed S c o es k h good

  new_flat : IsFlat (joined_in S new) (body_text new)
  new_flat = good_flat S new s new_good

  level_at : (d : Bytes) (x : Path) → at (joined_in S new) (d ∷ x) ≡ at u (q ++ d ∷ x)
  level_at d x =
      at-changed S c o es good.entries new_good.entries d x
      ∙ elim (same_bytes d c) as (λ b. same_bytes d c ≡ b → cond b (at (rests_of S o) x) (at (joined_in S es) (d ∷ x)) ≡ at u (q ++ d ∷ x)) [
        | true ↦ λ e. part x ∙ ap (at u) (append_assoc q (c ∷ []) x) ∙ ap (λ y. at u (q ++ y ∷ x)) (sym ((bytes_decides d c).0 e))
        | false ↦ λ e.
            ap (λ m. at m (d ∷ x)) map ∙ at-under t q d x
            ∙ sym (edit.beside (q ++ d ∷ x) (ap (λ y. comparable y (q ++ d ∷ x)) (sym path) ∙ front_comparable q (c ∷ r) (d ∷ x) ∙ apart_heads c d r x e))
      ] refl

  pub level_map : joined_in S new ≡ under u q
  level_map = same_flat (joined_in S new) (under u q) new_flat.tree.sorted (under-tree u q edit.tree).sorted by
    where
      by : (x : Path) → at (joined_in S new) x ≡ at (under u q) x
      by [] = at-joined_nil S new ∙ sym (at-under_nil u q)
      by (d ∷ x) = level_at d x ∙ sym (at-under u q d x)

  pub level_body : body (under u q) ≡ body_text new
  unfolding body
  level_body = ap body (sym level_map) ∙ new_flat.bodied (depth (joined_in S new)) (le_refl _)

  -- what stands at q and below it
  pub level_part : (x : Path) → at (under u q) x ≡ at u (q ++ x)
  level_part [] = at-under_nil u q ∙ sym (ap (at u) (append-nil q) ∙ edit.clear q c r path)
  level_part (d ∷ x) = at-under u q d x

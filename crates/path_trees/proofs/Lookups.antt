-- What stands at a path is what its entry stands for, and the way down to it.
use Rattle.std.proofs.Common.{◌≡◌, ℕ, zero, suc, ◌+◌, ◌<◌, ◌≤◌, Bool, true, false, cond, not, ◌&&◌, ◌||◌, List, [], ◌∷◌, ◌++◌, length, get_or, drop, IfSome, Option, Some, None, refl, sym, ap, subst, ◌∙◌, true≢false, arith, length-append, append-nil, add-one}
use Rattle.std.specs.Option.{option_map, option_or, option_and_then, is_none}
use Rattle.std.specs.Cmp.Lexicographic.{bytes_decides}
use Rattle.std.specs.Cmp.{first_so, second_so}
use Rattle.std.proofs.lemmas.Bool.{not-true}
use Rattle.std.proofs.Math.Seq.{drop-cons}
use Rattle.git_objects.specs.Paths.{Bytes, Path, same_bytes, is_path, is_nil, is_prefix, comparable}
use Rattle.git_objects.specs.Trees.{Leaf, Flat, IsTree, LeafNode, TreeNode, at, under, remove, standing, if_full}
use Rattle.git_objects.specs.declared.entry.Entry.{Entry}
use Rattle.git_objects.specs.declared.name.Name.{Name}
use Rattle.git_objects.specs.declared.kind.Kind.TheVariants.{Tree}
use Rattle.git_objects.specs.declared.mode.Mode.{Mode}
use Rattle.git_objects.specs.declared.mode.Mode.TheVariants.{File, Exec, Link, Module, Dir}
use Rattle.git_objects.specs.Bodies.{is_name}
use Rattle.git_objects.proofs.Maps.{same_flat, at-remove, sorted-remove}
use Rattle.git_objects.proofs.Basics.{same_bytes-self}
use Rattle.git_objects.proofs.Pointwise.{all_at, at_apart}
use Rattle.git_objects.proofs.Under.{at-under, at-under_nil, under_cons, under-tree}
use Rattle.object_store.specs.Objects.{Object, has, has_child, body_of, IsStore}
use Rattle.object_store.specs.Unfolding.{flat, StandsFor}
use Rattle.object_store.proofs.Unfolding.{AreHeld, IsFull, flat_good}
use Rattle.path_trees.specs.Standing.{node, IsClear}
use Rattle.path_trees.specs.Listed.{entry_at, found, found_at, listed, directory_of}
use Rattle.path_trees.specs.Levels.{IsDirectory}
use Rattle.path_trees.specs.declared.found.Found.{Found}
use Rattle.path_trees.proofs.Grown.{joined_in}
use Rattle.path_trees.proofs.Levels.{rests_of, at-joined, at-joined_nil}
use Rattle.path_trees.proofs.Trees.{tree_listed}

-- ---- below one path and then another

pub under_nil : (t : Flat) → IsTree t → under t [] ≡ t
under_nil t h = same_flat (under t []) t (under-tree t [] h).sorted h.sorted by
  where
    nowhere : (o : Option Leaf) → at t [] ≡ o → o ≡ None
    nowhere None e = refl
    nowhere (Some x) e = absurd (all_at is_path t [] x h.paths e)

    by : (q : Path) → at (under t []) q ≡ at t q
    by [] = at-under_nil t [] ∙ sym (nowhere (at t []) refl)
    by (d ∷ r) = at-under t [] d r

pub under_front : (t : Flat) (q p : Path) → IsTree t → under t (q ++ p) ≡ under (under t q) p
under_front t [] p h = ap (λ u. under u p) (sym (under_nil t h))
under_front t (d ∷ q) p h =
    under_cons t d (q ++ p)
    ∙ under_front (under t (d ∷ [])) q p (under-tree t (d ∷ []) h)
    ∙ ap (λ u. under u p) (sym (under_cons t d q))

-- ---- what is found is held

pub found_held : (S : List Object) (c : Bytes) (es : List Entry) (f : Found) → AreHeld S es → found_at c es ≡ Some f → (has_child S f.mode f.name.0 ≡ true) × (is_name f.name.0 ≡ true)
found_held S c [] f h e = cc
found_held S c (d ∷ es) f h e =
    elim (same_bytes c d.component) as (λ b. option_map found (cond b (Some d) (entry_at c es)) ≡ Some f → (has_child S f.mode f.name.0 ≡ true) × (is_name f.name.0 ≡ true)) [
      | true ↦ λ g. let same : found d ≡ f = cc in subst (λ (x : Found). (has_child S x.mode x.name.0 ≡ true) × (is_name x.name.0 ≡ true)) same (h.0.child, h.0.name)
      | false ↦ λ g. found_held S c es f h.1 g
    ] e

-- ---- one level

module _ (S : List Object) (s : IsStore S) where
  flat_nil : (n : Bytes) → has Tree S n ≡ true → at (flat S n) [] ≡ None
  flat_nil n h = let r = tree_listed S n s h in ap (λ t. at t []) r.3 ∙ at-joined_nil S r.0

  -- the map of a directory is what it is a directory of
  dir_map : (u : Flat) (c n : Bytes) → IsTree u → has Tree S n ≡ true → ((x : Bytes) (r : Path) → at u (c ∷ x ∷ r) ≡ at (flat S n) (x ∷ r)) → flat S n ≡ under u (c ∷ [])
  dir_map u c n h k e = same_flat (flat S n) (under u (c ∷ [])) (flat_good S s n k).tree.sorted (under-tree u (c ∷ []) h).sorted by
    where
      by : (q : Path) → at (flat S n) q ≡ at (under u (c ∷ [])) q
      by [] = flat_nil n k ∙ sym (at-under_nil u (c ∷ []))
      by (x ∷ r) = sym (at-under u (c ∷ []) x r ∙ e x r)

  pub empty_map : (u : Flat) (c : Bytes) → IsTree u → ((x : Bytes) (r : Path) → at u (c ∷ x ∷ r) ≡ None) → under u (c ∷ []) ≡ []
  empty_map u c h e = same_flat (under u (c ∷ [])) [] (under-tree u (c ∷ []) h).sorted tt by
    where
      by : (q : Path) → at (under u (c ∷ [])) q ≡ None
      by [] = at-under_nil u (c ∷ [])
      by (x ∷ r) = at-under u (c ∷ []) x r ∙ e x r

  -- what a found thing makes of the place below it
  is_place : (u : Flat) (c : Bytes) (o : Option Found) → IsTree u → ((f : Found) → o ≡ Some f → has_child S f.mode f.name.0 ≡ true) → ((r : Path) → at u (c ∷ r) ≡ at (rests_of S o) r) →
      (standing u (c ∷ []) ≡ option_map (node S) o) × IsDirectory S (under u (c ∷ [])) (option_and_then directory_of o)
  is_place u c None h k e = ((λ i. option_or (option_map LeafNode (e [] i)) (if_full (empty_map u c h (λ x r. e (x ∷ r)) i))), empty_map u c h (λ x r. e (x ∷ r)))
  is_place u c (Some f) h k e = by f.mode f.name (k f refl) e
    where
      leaf : (y : Leaf) → ((r : Path) → at u (c ∷ r) ≡ at (([], y) ∷ []) r) → (standing u (c ∷ []) ≡ Some (LeafNode y)) × (under u (c ∷ []) ≡ [])
      leaf y g = (ap (λ o. option_or (option_map LeafNode o) (if_full (under u (c ∷ [])))) (g []), empty_map u c h (λ x r. g (x ∷ r)))

      full : (t : Flat) → IsFull t → if_full t ≡ Some (TreeNode t)
      full [] g = absurd g
      full (d ∷ t) g = refl

      directory : (n : Bytes) → has_child S Dir n ≡ true → ((r : Path) → at u (c ∷ r) ≡ at (flat S n) r) → (standing u (c ∷ []) ≡ Some (TreeNode (flat S n))) × StandsFor S n (under u (c ∷ []))
      directory n i g =
          let held = first_so (has Tree S n) (not (is_nil (body_of Tree S n))) i in
          let same = dir_map u c n h held (λ x r. g (x ∷ r)) in (
            (λ j. option_or (option_map LeafNode ((g [] ∙ flat_nil n held) j)) (if_full (sym same j)))
                ∙ full (flat S n) ((flat_good S s n held).full (not-true (is_nil (body_of Tree S n)) (second_so (has Tree S n) (not (is_nil (body_of Tree S n))) i))),
            record { held = held; map = same },
          )

      by : (m : Mode) (n : Name) → has_child S m n.0 ≡ true → ((r : Path) → at u (c ∷ r) ≡ at (rests_of S (Some (record { mode = m; name = n }))) r) →
          (standing u (c ∷ []) ≡ Some (node S (record { mode = m; name = n }))) × IsDirectory S (under u (c ∷ [])) (directory_of (record { mode = m; name = n }))
      by File n i g = leaf _ g
      by Exec n i g = leaf _ g
      by Link n i g = leaf _ g
      by Module n i g = leaf _ g
      by Dir n i g = directory n.0 i g

  -- what a component has in the tree of that name
  pub step_down : (n : Bytes) (u : Flat) (c : Bytes) → StandsFor S n u →
      (standing u (c ∷ []) ≡ option_map (node S) (option_and_then (found_at c) (listed S n))) × IsDirectory S (under u (c ∷ [])) (option_and_then directory_of (option_and_then (found_at c) (listed S n)))
  step_down n u c d =
      let r = tree_listed S n s d.held in
      let map : u ≡ joined_in S r.0 = sym d.map ∙ r.3 in
      let place = is_place u c (found_at c r.0) (subst IsTree d.map (flat_good S s n d.held).tree) (λ f e. (found_held S c r.0 f r.2.held e).0) (λ x. ap (λ t. at t (c ∷ x)) map ∙ at-joined S c x r.0 r.2.entries) in
      subst (λ (o : Option (List Entry)). (standing u (c ∷ []) ≡ option_map (node S) (option_and_then (found_at c) o)) × IsDirectory S (under u (c ∷ [])) (option_and_then directory_of (option_and_then (found_at c) o))) (sym r.1) place

  pub step_held : (n c : Bytes) (f : Found) → has Tree S n ≡ true → Some f ≡ option_and_then (found_at c) (listed S n) → has_child S f.mode f.name.0 ≡ true
  step_held n c f h e =
      let r = tree_listed S n s h in
      (found_held S c r.0 f r.2.held (sym (ap (option_and_then (found_at c)) r.1) ∙ sym e)).0

-- ---- along a path

pub standing_down : (t : Flat) (c : Bytes) (rest : Path) → is_nil rest ≡ false → standing t (c ∷ rest) ≡ standing (under t (c ∷ [])) rest
standing_down t c [] h = absurd (true≢false h)
standing_down t c (d ∷ r) h = λ i. option_or (option_map LeafNode (sym (at-under t (c ∷ []) d r) i)) (if_full (under_cons t c (d ∷ r) i))

standing_nothing : (r : Path) → standing [] r ≡ None
standing_nothing r = refl

-- what an answer on the way down says of the rest of the path
abbrev pub IsWay : List Object → Flat → Bytes → Path → Option Name → Type 0
IsWay S t c rest None = standing t (c ∷ rest) ≡ None
IsWay S t c rest (Some n) = (has Tree S n.0 ≡ true) × (standing (flat S n.0) rest ≡ standing t (c ∷ rest))

way_from : (S : List Object) (t : Flat) (c : Bytes) (rest : Path) (o : Option Name) → is_nil rest ≡ false → IsDirectory S (under t (c ∷ [])) o → IsWay S t c rest o
way_from S t c rest None h d = standing_down t c rest h ∙ ap (λ u. standing u rest) d
way_from S t c rest (Some n) h d = (d.held, ap (λ u. standing u rest) d.map ∙ sym (standing_down t c rest h))

pub way : (S : List Object) (n c : Bytes) (rest : Path) (o : Option Name) → IsStore S → has Tree S n ≡ true → is_nil rest ≡ false → o ≡ option_and_then directory_of (option_and_then (found_at c) (listed S n)) → IsWay S (flat S n) c rest o
way S n c rest o s h f e = way_from S (flat S n) c rest o f (subst (IsDirectory S (under (flat S n) (c ∷ []))) (sym e) (step_down S s n (flat S n) c (record { held = h; map = refl })).1)

-- ---- in the loop

dropped_at : (p : Path) (i : ℕ) (c : Bytes) → i < length p → c ≡ get_or p i c → drop i p ≡ c ∷ drop (i + 1) p
dropped_at p i c h e = drop-cons p i c h ∙ (λ j. sym e j ∷ drop (sym (add-one i) j) p)

not_last : (p : Path) (i : ℕ) → i < length p → is_nil (drop i p) ≡ false
not_last [] i h = absurd (omega arith)
not_last (c ∷ p) zero h = refl
not_last (c ∷ p) (suc i) h = not_last p i (omega arith)

module _ (S : List Object) (t : Flat) (p : Path) (n : Bytes) (i : ℕ) (held : has Tree S n ≡ true) (rest : standing (flat S n) (drop i p) ≡ standing t p) (c : Bytes) (o : Option Name) (s : IsStore S) where
  pub loop_way : i + 1 < length p → c ≡ get_or p i c → o ≡ option_and_then directory_of (option_and_then (found_at c) (listed S n)) → IsWay S (flat S n) c (drop (i + 1) p) o
  loop_way h e f = way S n c (drop (i + 1) p) o s held (not_last p (i + 1) h) f

  here : i < length p → c ≡ get_or p i c → standing (flat S n) (c ∷ drop (i + 1) p) ≡ standing t p
  here h e = ap (standing (flat S n)) (sym (dropped_at p i c h e)) ∙ rest

  pub way_on : (m : Name) → i + 1 < length p → c ≡ get_or p i c → o ≡ Some m → o ≡ option_and_then directory_of (option_and_then (found_at c) (listed S n)) → (has Tree S m.0 ≡ true) × (standing (flat S m.0) (drop (i + 1) p) ≡ standing t p)
  way_on m h e k f =
      let w = subst (IsWay S (flat S n) c (drop (i + 1) p)) k (loop_way h e f) in
      (w.0, w.1 ∙ here (omega arith) e)

  pub way_ends : i + 1 < length p → c ≡ get_or p i c → o ≡ None → o ≡ option_and_then directory_of (option_and_then (found_at c) (listed S n)) → None ≡ standing t p
  way_ends h e k f = sym (subst (IsWay S (flat S n) c (drop (i + 1) p)) k (loop_way h e f)) ∙ here (omega arith) e

  pub way_last : (o : Option Found) → i + 1 ≡ length p → c ≡ get_or p i c → o ≡ option_and_then (found_at c) (listed S n) → option_map (node S) o ≡ standing t p
  way_last o h e f =
      ap (option_map (node S)) f
      ∙ sym (step_down S s n (flat S n) c (record { held = held; map = refl })).0
      ∙ ap (λ r. standing (flat S n) (c ∷ r)) (sym (drop-all p (i + 1) (omega arith)))
      ∙ here (omega arith) e
    where
      drop-all : (p : Path) (k : ℕ) → length p ≤ k → drop k p ≡ []
      drop-all [] zero h = refl
      drop-all [] (suc k) h = refl
      drop-all (c ∷ p) zero h = absurd (omega arith)
      drop-all (c ∷ p) (suc k) h = drop-all p k (omega arith)

  pub found_last : (o : Option Found) → o ≡ option_and_then (found_at c) (listed S n) → IfSome o (λ f. has_child S f.mode f.name.0 ≡ true)
  found_last None f = tt
  found_last (Some x) f = step_held S s n c x held f

-- a component that was read from a path
pub read_at : (q p : Path) (i : ℕ) (x b : Bytes) → q ≡ p → b ≡ x → x ≡ get_or q i x → b ≡ get_or p i b
read_at q p i x b e f g = f ∙ g ∙ (λ j. get_or (e j) i (sym f j))

pub path_long : (p : Path) → is_path p ≡ true → 1 ≤ length p
path_long [] h = absurd (true≢false (sym h))
path_long (c ∷ p) h = omega arith

-- ---- nothing stands at a path, or no leaf on the way to it

longer_not : (q : Path) (d : Bytes) (s : Path) → q ≡ q ++ d ∷ s → ⊥
longer_not q d s e = let n = ap length e in let m = length-append q (d ∷ s) in omega arith

front_prefix : (q r : Path) → comparable q (q ++ r) ≡ true
front_prefix [] r = refl
front_prefix (c ∷ q) r = ap (λ b. (b && is_prefix q (q ++ r)) || (b && is_prefix (q ++ r) q)) (same_bytes-self c) ∙ front_prefix q r

-- nothing is below a leaf
pub leaf_under : (t : Flat) (q : Path) (x : Leaf) → IsTree t → at t q ≡ Some x → under t q ≡ []
leaf_under t q x h e = same_flat (under t q) [] (under-tree t q h).sorted tt by
  where
    nowhere : (d : Bytes) (s : Path) (o : Option Leaf) → at t (q ++ d ∷ s) ≡ o → o ≡ None
    nowhere d s None g = refl
    nowhere d s (Some y) g = absurd (longer_not q d s (at_apart t h.apart q (q ++ d ∷ s) x y e g (front_prefix q (d ∷ s))))

    by : (r : Path) → at (under t q) r ≡ None
    by [] = at-under_nil t q
    by (d ∷ s) = at-under t q d s ∙ nowhere d s (at t (q ++ d ∷ s)) refl

standing_none : (t : Flat) (q : Path) (c : Bytes) (r : Path) → IsTree t → under t q ≡ [] → standing t (q ++ c ∷ r) ≡ None
standing_none t q c r h e =
    (λ i. option_or (option_map LeafNode (sym (at-under t q c r) i)) (if_full (under_front t q (c ∷ r) h i)))
    ∙ ap (λ u. standing u (c ∷ r)) e

pub clear_way : (t : Flat) (p : Path) → IsTree t → is_none (standing t p) ≡ false → IsClear t p
clear_way t p h e q c r path = by (at t q) refl
  where
    by : (o : Option Leaf) → at t q ≡ o → o ≡ None
    by None g = refl
    by (Some x) g = absurd (true≢false (sym (ap is_none (ap (standing t) (sym path) ∙ standing_none t q c r h (leaf_under t q x h g))) ∙ e))

pub nothing_at : (o : Option Leaf) (t : Flat) → option_or (option_map LeafNode o) (if_full t) ≡ None → (o ≡ None) × (t ≡ [])
nothing_at None [] e = (refl, refl)
nothing_at None (d ∷ t) e = cc
nothing_at (Some x) t e = cc

rest_of : (p q : Path) → is_prefix p q ≡ true → (r : Path) × (q ≡ p ++ r)
rest_of [] q h = (q, refl)
rest_of (c ∷ p) [] h = absurd (true≢false (sym h))
rest_of (c ∷ p) (d ∷ q) h =
    let r = rest_of p q (second_so (same_bytes c d) (is_prefix p q) h) in
    (r.0, λ i. sym ((bytes_decides c d).0 (first_so (same_bytes c d) (is_prefix p q) h)) i ∷ r.1 i)

pub remove_nothing : (t : Flat) (p : Path) → IsTree t → standing t p ≡ None → remove t p ≡ t
remove_nothing t p h e = same_flat (remove t p) t (sorted-remove t p h.sorted) h.sorted (λ q. at-remove t p q ∙ by q (is_prefix p q) refl)
  where
    none : (at t p ≡ None) × (under t p ≡ [])
    none = nothing_at (at t p) (under t p) e

    below : (r : Path) → None ≡ at t (p ++ r)
    below [] = sym (ap (at t) (append-nil p) ∙ none.0)
    below (d ∷ s) = ap (λ u. at u (d ∷ s)) (sym none.1) ∙ at-under t p d s

    by : (q : Path) (b : Bool) → is_prefix p q ≡ b → cond b None (at t q) ≡ at t q
    by q true g = let r = rest_of p q g in below r.0 ∙ ap (at t) (sym r.1)
    by q false g = refl

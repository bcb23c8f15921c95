-- The directories that two trees both have a path in, level by level.
use Rattle.std.proofs.Common.{◌≡◌, ℕ, zero, suc, ◌+◌, ◌*◌, ◌<◌, ◌≤◌, inl, inr, true, false, List, [], ◌∷◌, ◌++◌, length, get_or, drop, Some, None, refl, sym, ap, subst, ◌∙◌, arith, length-append, append_assoc, append-nil}
use Rattle.std.specs.Prelude.{slice_get}
use Rattle.std.specs.Option.{option_and_then, unwrap_or}
use Rattle.std.proofs.lemmas.Bool.{cases_lt}
use Rattle.std.proofs.lemmas.List.{drop-append-le}
use Rattle.std.proofs.lemmas.Option.{slice_get-get_or, slice_get_within}
use Rattle.std.proofs.Math.Seq.{drop-append_seam}
use Rattle.git_objects.specs.Paths.{Bytes, Path, is_nil}
use Rattle.git_objects.specs.Trees.{Flat, IsTree, under}
use Rattle.git_objects.specs.Entries.{AreEntries}
use Rattle.git_objects.specs.declared.entry.Entry.{Entry}
use Rattle.git_objects.specs.declared.name.Name.{Name}
use Rattle.git_objects.specs.declared.mode.Mode.TheVariants.{Dir}
use Rattle.git_objects.specs.declared.kind.Kind.TheVariants.{Tree}
use Rattle.git_objects.specs.Lists.{Each}
use Rattle.object_store.specs.Objects.{Object, IsStore, has, has_child}
use Rattle.object_store.specs.Unfolding.{flat, below, StandsFor}
use Rattle.object_store.proofs.Unfolding.{node, IsFull, AreHeld, flat_good}
use Rattle.path_trees.specs.Clashes.{clash}
use Rattle.path_trees.specs.Listed.{found_at, listed, directory_of}
use Rattle.path_trees.specs.Merged.{Side, OnLeft, OnBoth, merged, shared}
use Rattle.path_trees.specs.Joins.{listing_of, IsPlaced, IsLinked, AreLinked}
use Rattle.path_trees.specs.Levels.{IsDirectory}
use Rattle.path_trees.specs.declared.join.Shared.{Shared}
use Rattle.path_trees.proofs.Grown.{joined_in}
use Rattle.path_trees.proofs.Trees.{AreGood, tree_listed}
use Rattle.path_trees.proofs.Lookups.{under_front, step_down}
use Rattle.path_trees.proofs.Walks.{held_dir, dir_rests, lengths, lengths-append, lengths-below}
use Rattle.path_trees.proofs.Apart.{ArePairs, are_pairs, each_found}
use Rattle.path_trees.proofs.Merging.{IsCommon, merged_common, by_merge, IsAhead}

-- ---- what a directory of both lists

-- two listings without a clash
pub record IsOpen (S : List Object) (d : Shared) (es fs : List Entry) : Type 0 where
  pub left_listed : listed S d.left.0 ≡ Some es
  pub right_listed : listed S d.right.0 ≡ Some fs
  pub left_good : AreGood S es
  pub right_good : AreGood S fs
  pub left_map : flat S d.left.0 ≡ joined_in S es
  pub right_map : flat S d.right.0 ≡ joined_in S fs
  pub pairs : ArePairs S es fs
  pub listing : listing_of S d ≡ merged es fs

pub opened : (S : List Object) (d : Shared) → IsStore S → has Tree S d.left.0 ≡ true → has Tree S d.right.0 ≡ true → clash (flat S d.left.0) (flat S d.right.0) ≡ None → (es : List Entry) × (fs : List Entry) × IsOpen S d es fs
opened S d s h g c =
    let l = tree_listed S d.left.0 s h in
    let r = tree_listed S d.right.0 s g in (
      l.0,
      r.0,
      record {
        left_listed = l.1;
        right_listed = r.1;
        left_good = l.2;
        right_good = r.2;
        left_map = l.3;
        right_map = r.3;
        pairs = are_pairs S s l.0 r.0 l.2 r.2 ((λ i. clash (sym l.3 i) (sym r.3 i)) ∙ c);
        listing = λ i. merged (unwrap_or (l.1 i) []) (unwrap_or (r.1 i) []);
      },
    )

full_not_nil : (t : Flat) → IsFull t → is_nil t ≡ false
full_not_nil [] h = absurd h
full_not_nil (e ∷ t) h = refl

module _ (S : List Object) (s : IsStore S) (a b : Flat) (tree_a : IsTree a) (tree_b : IsTree b) where
  flat_full : (n : Bytes) → has_child S Dir n ≡ true → is_nil (flat S n) ≡ false
  flat_full n h = let k = held_dir S Dir n refl h in full_not_nil (flat S n) ((flat_good S s n k.0).full k.1)

  child_stands : (t : Flat) (h : IsTree t) (n : Bytes) (q : Path) (c : Bytes) (m : Name) (es : List Entry) → StandsFor S n (under t q) → listed S n ≡ Some es → found_at c es ≡ Some (record { mode = Dir; name = m }) → StandsFor S m.0 (under t (q ++ c ∷ []))
  child_stands t h n q c m es k l f =
      subst (StandsFor S m.0) (sym (under_front t q (c ∷ []) h))
      (subst (IsDirectory S (under (under t q) (c ∷ []))) (ap (λ o. option_and_then directory_of (option_and_then (found_at c) o)) l ∙ ap (option_and_then directory_of) f) (step_down S s n (under t q) c k).1)

  child_placed : (d : Shared) (p : IsPlaced S a b d) (es fs : List Entry) → IsOpen S d es fs → (e : Shared) → IsCommon S es fs e → IsPlaced S a b e
  child_placed d p es fs o e k =
      let left = child_stands a tree_a d.left.0 p.path k.component e.left es p.left o.left_listed k.left in
      let right = child_stands b tree_b d.right.0 p.path k.component e.right fs p.right o.right_listed k.right in
      record {
        path = p.path ++ k.component ∷ [];
        left = left;
        right = right;
        left_full = ap is_nil (sym left.map) ∙ flat_full e.left.0 k.left_child;
        right_full = ap is_nil (sym right.map) ∙ flat_full e.right.0 k.right_child;
        clear = (λ i. clash (sym left.map i) (sym right.map i)) ∙ k.clear;
      }

  each_placed : (d : Shared) (p : IsPlaced S a b d) (es fs : List Entry) → IsOpen S d es fs → (ds : List Shared) → Each (λ e. IsCommon S es fs e) ds → Each (λ e. IsPlaced S a b e) ds
  each_placed d p es fs o [] h = tt
  each_placed d p es fs o (e ∷ ds) h = (child_placed d p es fs o e h.0, each_placed d p es fs o ds h.1)

  pub placed_open : (d : Shared) → IsPlaced S a b d → (es : List Entry) × (fs : List Entry) × IsOpen S d es fs
  placed_open d p = opened S d s p.left.held p.right.held ((λ i. clash (p.left.map i) (p.right.map i)) ∙ p.clear)

  pub below_placed : (d : Shared) → IsPlaced S a b d → Each (λ e. IsPlaced S a b e) (shared (listing_of S d))
  below_placed d p =
      let r = placed_open d p in
      subst (λ (ps : List Side). Each (λ e. IsPlaced S a b e) (shared ps)) (sym r.2.listing)
      (each_placed d p r.0 r.1 r.2 (shared (merged r.0 r.1))
      (merged_common S r.0 r.1 r.0 r.1 r.2.left_good.entries r.2.right_good.entries r.2.pairs r.2.left_good.held r.2.right_good.held (each_found S s r.0 r.2.left_good.entries) (each_found S s r.1 r.2.right_good.entries)))

-- ---- a measure

abbrev pub pending : List Object → List Shared → ℕ
pending S [] = 0
pending S (d ∷ ds) = 1 + 2 * lengths (flat S d.left.0) + pending S ds

pub pending-append : (S : List Object) (a b : List Shared) → pending S (a ++ b) ≡ pending S a + pending S b
pending-append S [] b = omega arith
pending-append S (d ∷ a) b = let h = pending-append S a b in omega arith

some_path : (t : Flat) → IsFull t → 1 ≤ length t
some_path [] h = absurd h
some_path (x ∷ t) h = omega arith

module _ (S : List Object) (s : IsStore S) where
  abbrev IsLess : List Entry → List Entry → List Side → Type 0
  IsLess es fs ps = ArePairs S es fs → AreHeld S es → AreHeld S fs → AreEntries es → AreEntries fs → pending S (shared ps) ≤ 2 * lengths (joined_in S es)

  less_both : (e f : Entry) (es fs : List Entry) (ps : List Side) → Rattle.git_objects.specs.Entries.git_cmp Rattle.git_objects.specs.Entries.entry_component Rattle.git_objects.specs.Entries.entry_dir e f ≡ Rattle.std.specs.declared.cmp.Ordering.TheVariants.Equal → IsLess es fs ps → IsLess (e ∷ es) (f ∷ fs) (OnBoth e f ∷ ps)
  less_both e f es fs ps k more p h g u v =
      let dirs = p.0.0 ((Rattle.std.specs.Cmp.Lexicographic.bytes_decides e.component f.component).1 (Rattle.path_trees.proofs.Merging.same_place e f u.0 v.0 k)) in
      let held = held_dir S e.mode e.name.0 dirs.0 h.0.child in
      let full = some_path (flat S e.name.0) ((flat_good S s e.name.0 held.0).full held.1) in
      let n1 : lengths (joined_in S (e ∷ es)) ≡ lengths (below e.component (flat S e.name.0)) + lengths (joined_in S es) = ap (λ (t : Flat). lengths (below e.component t ++ joined_in S es)) (dir_rests S e.mode e.name.0 dirs.0) ∙ lengths-append (below e.component (flat S e.name.0)) (joined_in S es) in
      let n2 : lengths (below e.component (flat S e.name.0)) ≡ length (flat S e.name.0) + lengths (flat S e.name.0) = lengths-below e.component (flat S e.name.0) in
      let n3 : pending S (shared ps) ≤ 2 * lengths (joined_in S es) = more (Rattle.path_trees.proofs.Merging.others S f es fs p.1) h.1 g.1 u.2 v.2 in
      omega arith

  less_left : (e : Entry) (es fs : List Entry) (ps : List Side) → IsAhead e fs → IsLess es fs ps → IsLess (e ∷ es) fs (OnLeft e ∷ ps)
  less_left e es fs ps a more p h g u v =
      let t = Rattle.git_objects.specs.Trees.rests (node S e.mode e.name.0) in
      let n1 : lengths (joined_in S (e ∷ es)) ≡ lengths (below e.component t) + lengths (joined_in S es) = lengths-append (below e.component t) (joined_in S es) in
      let n3 : pending S (shared ps) ≤ 2 * lengths (joined_in S es) = more p.1 h.1 g u.2 v in
      omega arith

  merged_less : (es fs : List Entry) → IsLess es fs (merged es fs)
  merged_less es fs = by_merge IsLess (λ p h g u v. omega arith) less_left (λ f es fs ps a more p h g u v. more (Rattle.path_trees.proofs.Merging.others S f es fs p) h g.1 u v.2) less_both es fs

  -- what a directory has below it weighs less than it
  pub below_less : (a b : Flat) → IsTree a → IsTree b → (d : Shared) → IsPlaced S a b d → pending S (shared (listing_of S d)) < 1 + 2 * lengths (flat S d.left.0)
  below_less a b h g d p =
      let r = placed_open S s a b h g d p in
      let n1 : pending S (shared (merged r.0 r.1)) ≤ 2 * lengths (joined_in S r.0) = merged_less r.0 r.1 r.2.pairs r.2.left_good.held r.2.right_good.held r.2.left_good.entries r.2.right_good.entries in
      let n2 : pending S (shared (listing_of S d)) ≡ pending S (shared (merged r.0 r.1)) = ap (λ (ps : List Side). pending S (shared ps)) r.2.listing in
      let n3 : lengths (flat S d.left.0) ≡ lengths (joined_in S r.0) = ap lengths r.2.left_map in
      omega arith

-- ---- lists

get_more : {A : Type 0} (xs ys : List A) (k : ℕ) → k < length xs → slice_get (xs ++ ys) k ≡ slice_get xs k
get_more [] ys k h = absurd (omega arith)
get_more (x ∷ xs) ys zero h = refl
get_more (x ∷ xs) ys (suc k) h = get_more xs ys k (omega arith)

get_next : {A : Type 0} (xs : List A) (y : A) → slice_get (xs ++ y ∷ []) (length xs) ≡ Some y
get_next [] y = refl
get_next (x ∷ xs) y = get_next xs y

each_get : {A : Type 0} (P : A → Type 0) (xs : List A) (k : ℕ) (x : A) → Each P xs → slice_get xs k ≡ Some x → P x
each_get P [] k x h e = cc
each_get P (y ∷ xs) zero x h e = let same : y ≡ x = cc in subst P same h.0
each_get P (y ∷ xs) (suc k) x h e = each_get P xs k x h.1 e

each_append : {A : Type 0} (P : A → Type 0) (xs ys : List A) → Each P xs → Each P ys → Each P (xs ++ ys)
each_append P [] ys h g = g
each_append P (x ∷ xs) ys h g = (h.0, each_append P xs ys h.1 g)

pub drop_got : {A : Type 0} (xs : List A) (k : ℕ) (x : A) → slice_get xs k ≡ Some x → drop k xs ≡ x ∷ drop (suc k) xs
drop_got [] k x h = cc
drop_got (y ∷ xs) zero x h = let same : y ≡ x = cc in ap (λ z. z ∷ xs) same
drop_got (y ∷ xs) (suc k) x h = drop_got xs k x h

pub got : {A : Type 0} (xs : List A) (k : ℕ) (x : A) → k < length xs → x ≡ get_or xs k x → slice_get xs k ≡ Some x
got xs k x h e = slice_get-get_or xs k x h ∙ ap Some (sym e)

-- ---- in the loop

-- the first of these are opened
pub record AreOpened (S : List Object) (a b : Flat) (root : Shared) (all : List Shared) (firsts : List ℕ) : Type 0 where
  pub within : length firsts ≤ length all
  pub first : slice_get all 0 ≡ Some root
  pub placed : Each (λ d. IsPlaced S a b d) all
  pub linked : (k : ℕ) (d : Shared) (first : ℕ) → slice_get all k ≡ Some d → slice_get firsts k ≡ Some first → (first ≤ length all) × IsLinked S all k d first

pub none_opened : (S : List Object) (a b : Flat) (root : Shared) → IsPlaced S a b root → AreOpened S a b root (root ∷ []) []
none_opened S a b root p = record { within = omega arith; first = refl; placed = (p, tt); linked = λ k d first e f. cc }

module _ (S : List Object) (s : IsStore S) (a b : Flat) (tree_a : IsTree a) (tree_b : IsTree b) (root : Shared) (all : List Shared) (firsts : List ℕ) (so : AreOpened S a b root all firsts) (d : Shared) (this : slice_get all (length firsts) ≡ Some d) where
  abbrev more : List Shared
  more = shared (listing_of S d)

  pub this_placed : IsPlaced S a b d
  this_placed = each_get (λ d. IsPlaced S a b d) all (length firsts) d so.placed this

  is_within : length firsts < length all
  is_within = slice_get_within all (length firsts) d this

  old_linked : (k : ℕ) (e : Shared) (first : ℕ) → k < length firsts → slice_get (all ++ more) k ≡ Some e → slice_get (firsts ++ length all ∷ []) k ≡ Some first → (first ≤ length (all ++ more)) × IsLinked S (all ++ more) k e first
  old_linked k e first l g f =
      let r = so.linked k e first (sym (get_more all more k (omega (arith, is_within))) ∙ g) (sym (get_more firsts (length all ∷ []) k l) ∙ f) in (
        omega (arith, length-append all more, r.0),
        record {
          later = r.1.later;
          within = omega (arith, length-append all more, r.0);
          others = r.1.others ++ more;
          run = drop-append-le first all more r.0 ∙ ap (λ (x : List Shared). x ++ more) r.1.run ∙ append_assoc (shared (listing_of S e)) r.1.others more;
        },
      )

  new_linked : (k : ℕ) (e : Shared) (first : ℕ) → k ≡ length firsts → slice_get (all ++ more) k ≡ Some e → slice_get (firsts ++ length all ∷ []) k ≡ Some first → (first ≤ length (all ++ more)) × IsLinked S (all ++ more) k e first
  new_linked k e first l g f =
      let own : Some e ≡ Some d = sym g ∙ ap (slice_get (all ++ more)) l ∙ get_more all more (length firsts) is_within ∙ this in
      let at_end : Some first ≡ Some (length all) = sym f ∙ ap (slice_get (firsts ++ length all ∷ [])) l ∙ get_next firsts (length all) in
      let same : e ≡ d = cc in
      let place : first ≡ length all = cc in (
        omega (arith, length-append all more, place),
        record {
          later = omega (arith, place, l, is_within);
          within = omega (arith, length-append all more, place);
          others = [];
          run = ap (λ i. drop i (all ++ more)) place ∙ drop-append_seam all more ∙ ap (λ (x : Shared). shared (listing_of S x)) (sym same) ∙ sym (append-nil (shared (listing_of S e)));
        },
      )

  linked : (k : ℕ) (e : Shared) (first : ℕ) → slice_get (all ++ more) k ≡ Some e → slice_get (firsts ++ length all ∷ []) k ≡ Some first → (first ≤ length (all ++ more)) × IsLinked S (all ++ more) k e first
  linked k e first g f = elim (cases_lt k (length firsts)) [
    | inl l ↦ old_linked k e first l g f
    | inr l ↦
        let n = slice_get_within (firsts ++ length all ∷ []) k first f in
        new_linked k e first (omega (arith, length-append firsts (length all ∷ []), n, l)) g f
  ]

  pub one_opened : (all' : List Shared) (firsts' : List ℕ) → all' ≡ all ++ more → firsts' ≡ firsts ++ length all ∷ [] → AreOpened S a b root all' firsts'
  one_opened all' firsts' h g = subst (λ (x : List Shared). AreOpened S a b root x firsts') (sym h) (subst (λ (x : List ℕ). AreOpened S a b root (all ++ more) x) (sym g) (record {
    within = omega (arith, length-append all more, length-append firsts (length all ∷ []), is_within);
    first = get_more all more 0 (omega (arith, is_within)) ∙ so.first;
    placed = each_append (λ d. IsPlaced S a b d) all more so.placed (below_placed S s a b tree_a tree_b d this_placed);
    linked = linked;
  }))

  pub less_pending : (all' : List Shared) (firsts' : List ℕ) → all' ≡ all ++ more → firsts' ≡ firsts ++ length all ∷ [] → pending S (drop (length firsts') all') < pending S (drop (length firsts) all)
  less_pending all' firsts' h g =
      let n : length firsts' ≡ suc (length firsts) = ap length g ∙ omega (arith, length-append firsts (length all ∷ [])) in
      let e1 : pending S (drop (length firsts) all) ≡ 1 + 2 * lengths (flat S d.left.0) + pending S (drop (suc (length firsts)) all) = ap (pending S) (drop_got all (length firsts) d this) in
      let e2 : pending S (drop (length firsts') all') ≡ pending S (drop (suc (length firsts)) all) + pending S more =
      (λ i. pending S (drop (n i) (h i))) ∙ ap (pending S) (drop-append-le (suc (length firsts)) all more (omega (arith, is_within))) ∙ pending-append S (drop (suc (length firsts)) all) more in
      let e3 = below_less S s a b tree_a tree_b d this_placed in
      omega arith

pub all_opened : (S : List Object) (a b : Flat) (root : Shared) (all : List Shared) (firsts : List ℕ) → AreOpened S a b root all firsts → length all ≤ length firsts → AreLinked S a b root all firsts
all_opened S a b root all firsts so h = record {
  count = omega (arith, so.within, h);
  first = so.first;
  placed = λ k d e. each_get (λ d. IsPlaced S a b d) all k d so.placed e;
  linked = λ k d first e f. (so.linked k d first e f).1;
}

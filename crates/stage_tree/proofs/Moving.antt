-- What stands at a path moved to another.
use Rattle.std.proofs.Common.{◌≡◌, ℕ, ◌+◌, ◌≢◌, ◌⊎◌, inl, inr, Bool, true, false, cond, ◌==◌, List, [], ◌∷◌, ◌++◌, length, replicate, take, Option, Some, None, Result, IsOkAnd, Ok, Err, refl, sym, ap, subst, ◌∙◌, arith, true≢false, append_assoc, length-append}
use Rattle.std.proofs.lemmas.Bool.Decides.{eqb_tells}
use Rattle.std.proofs.lemmas.List.{take_all}
use Rattle.git_objects.specs.Paths.{Path, comparable, is_prefix}
use Rattle.git_objects.specs.Results.{◌>>=◌, or_refuse}
use Rattle.git_objects.specs.Trees.{Flat, IsTree, Leaf, ModuleLeaf, Node as FlatNode, at, put, remove, standing}
use Rattle.object_store.specs.Objects.{Object, IsStore}
use Rattle.path_trees.specs.Standing.{node}
use Rattle.stage_tree.specs.declared.fault.StageFault.{StageFault}
use Rattle.stage_tree.specs.declared.fault.StageFault.TheVariants.{NoSource, OutOfMemory}
use Rattle.stage_nodes.specs.declared.nodes.Nodes.{Nodes}
use Rattle.stage_nodes.specs.declared.ways.Way.{Way}
use Rattle.stage_nodes.specs.Branches.{IsRemoved, Stands, reached}
use Rattle.stage_tree.specs.Edits.{copied, few_files, renamed, within_paths}
use Rattle.stage_tree.specs.Standings.{Holds, IsNodeAt}
use Rattle.stage_nodes.specs.Ways.{IsOpen, IsPlaceOf, IsStill, IsWay, kids_of}
use Rattle.stage_tree.specs.Renames.{CanMove, IsEditedTo, IsMoved, IsSource, sourced, stand_in}
use Rattle.stage_nodes.specs.Walks.{CanPrune, IsCleared, IsStop, IsWalkable, is_clear}
use Rattle.stage_nodes.proofs.OnWay.{still_on, still_same}
use Rattle.stage_tree.proofs.MoveFlats.{moved_apart, moved_over, standing_none, standing_rests, standing_some}
use Rattle.stage_nodes.proofs.NodePlaces.{place_leaf, v}
use Rattle.stage_nodes.proofs.Removing.{nothing_below}
use Rattle.stage_nodes.proofs.SomeLeaf.{some_leaf}
use Rattle.stage_nodes.proofs.Walking.{way_of}

-- ---- the end of a walk

cond_some : (b : Bool) (o : Option ℕ) (x : ℕ) → Some x ≡ cond b o None → (b ≡ true) × (o ≡ Some x)
cond_some true o x h = (refl, sym h)
cond_some false o x h = absurd cc

no_more : (b : Path) → length b ≡ 0 → b ≡ []
no_more [] h = refl
no_more (c ∷ b) h = absurd (omega arith)

pub node_at : (S : List Object) (s : Nodes) (p : Path) (w : Way) → IsStop S s p w.level w.spot.link w.spot.child → (k : ℕ) → Some k ≡ reached (length p) w → IsNodeAt S s p k
node_at S s p w h k e = record {
  place = record { path = h.before; component = h.component; link = w.spot.link; place = subst (IsPlaceOf S s h.before h.component w.spot.link) at_end.1 h.place };
  path = ap (λ (b : Path). h.before ++ h.component ∷ b) (sym behind_none) ∙ h.path;
}
  where
    at_end : (w.level + 1 ≡ length p) × (w.spot.child ≡ Some k)
    at_end =
        let q = cond_some (w.level + 1 == length p) w.spot.child k e in
        (by (eqb_tells (w.level + 1) (length p)) q.0, q.1)
      where
        by : (((w.level + 1 == length p) ≡ true) × (w.level + 1 ≡ length p)) ⊎ (((w.level + 1 == length p) ≡ false) × (w.level + 1 ≢ length p)) → (w.level + 1 == length p) ≡ true → w.level + 1 ≡ length p
        by (inl u) g = u.1
        by (inr u) g = absurd (true≢false (sym g ∙ u.0))

    behind_none : h.behind ≡ []
    behind_none = no_more h.behind (omega (arith, ap length h.path, length-append h.before (h.component ∷ h.behind), h.level_is, at_end.0))

-- the nodes, once the ways to both paths are clear
module _ (S : List Object) (s0 s1 s2 : Nodes) (p q : Path) (a : IsCleared S s0 s1 p) (b : IsCleared S s1 s2 q) where
  pub both_still : IsStill S s0 s2
  both_still = still_on S s0 s1 s2 a.still b.still

  pub both_stand : (t : Flat) → Stands S s0 t → Stands S s2 t
  both_stand t st y = both_still.leaves y ∙ st y

  pub first_clear : is_clear (kids_of s2) p ≡ true
  first_clear = b.kept p a.clear

  abbrev pub both_walk : IsWalkable s2
  both_walk = record { objects = S; directory = both_still.opened.directory; sound = both_still.opened.sound }

-- no node is there
pub nothing_there : (S : List Object) (s : Nodes) (p : Path) (w : Way) → IsOpen S s → IsStop S s p w.level w.spot.link w.spot.child → None ≡ reached (length p) w → (t : Flat) → IsTree t → Stands S s t → standing t p ≡ None
nothing_there S s p w o h e t tree st =
    standing_none t p tree (λ y g.
    nothing_below S s s s p (length p) (omega arith) (still_same S s o) (λ f u z. ap (λ (q : Path). at (remove f q) z) all)
    w (subst (λ (q : Path). IsWay S s s q w.level w.spot.link w.spot.child) (sym all) (way_of S s p w.level w.spot.link w.spot.child o h))
    e t st y (ap (λ (q : Path). is_prefix q y) all ∙ g))
  where
    all : take (length p) p ≡ p
    all = take_all (length p) p (omega arith)

abbrev stand_in_leaf : Leaf
stand_in_leaf = ModuleLeaf (replicate 20 0)

-- a node stands for something
module _ (S : List Object) (store : IsStore S) (s : Nodes) (p : Path) (k : ℕ) (h : IsNodeAt S s p k) (t : Flat) (tree : IsTree t) (st : Stands S s t) where
  abbrev one : (q : Path) × (y : Leaf) × (Rattle.stage_nodes.specs.Leaves.leaf_below S (v S s k h.place).content (Rattle.stage_nodes.specs.Leaves.leaf_in S (v S s k h.place).children) q ≡ Some y)
  one = some_leaf S store (v S s k h.place).content (v S s k h.place).children (v S s k h.place).sound.0.filled (v S s k h.place).sound.0.content (v S s k h.place).sound.2

  abbrev own : Path
  own = h.place.path ++ h.place.component ∷ []

  leaf_there : at t (own ++ one.0) ≡ Some one.1
  leaf_there = ap (at t) (append_assoc h.place.path (h.place.component ∷ []) one.0) ∙ sym (place_leaf S s k h.place t st one.0) ∙ one.2

  pub leaf_at_path : at t (p ++ one.0) ≡ Some one.1
  leaf_at_path = ap (λ (q : Path). at t (q ++ one.0)) (sym h.path) ∙ leaf_there

  pub stands_there : (n : FlatNode) × (standing t p ≡ Some n)
  stands_there = standing_some t p tree one.0 one.1 leaf_at_path

  pub holds_there : (n : FlatNode) → standing t p ≡ Some n → Holds S s h.place t n
  holds_there n e = record { tree = tree; stands = st; there = ap (standing t) h.path ∙ e }

  -- ---- the move

  module _ (n : FlatNode) (e : standing t p ≡ Some n) (o : IsOpen S s) (to : Path) (clear : is_clear (kids_of s) to ≡ true) where
    abbrev pub can_move : CanMove s k to
    can_move = record { objects = S; opened = o; path = h.place.path; component = h.place.component; link = h.place.link; place = h.place.place; clear = clear }

    module _ (u : Nodes) (moved : IsMoved s u k to can_move) where
      put_stands : Stands S u (put (put t own (node S stand_in)) to n)
      put_stands = moved.puts t st n (λ r. standing_rests t p tree n e r ∙ ap (λ (q : Path). at t (q ++ r)) (sym h.path) ∙ ap (at t) (append_assoc h.place.path (h.place.component ∷ []) r))

      put_at : Stands S u (put (put t p (node S stand_in)) to n)
      put_at y = put_stands y ∙ ap (λ (q : Path). at (put (put t q (node S stand_in)) to n) y) h.path

      pub stands_over : comparable to p ≡ true → Stands S u (put (remove t p) to n)
      stands_over c y = put_at y ∙ moved_over t p tree one.0 one.1 leaf_at_path to n stand_in_leaf c y

      module _ (c : comparable to p ≡ false) (way : is_clear (kids_of s) p ≡ true) where
        abbrev pub can_prune : CanPrune u p
        can_prune = record { objects = S; opened = moved.opened; clear = moved.clear p c way }

        pub stands_apart : (w : Nodes) → IsRemoved S u w p → Stands S w (put (remove t p) to n)
        stands_apart w r y = r.removes (put (put t p (node S stand_in)) to n) put_at y ∙ moved_apart t p tree one.0 one.1 leaf_at_path to n stand_in_leaf c y

-- ---- what is left

pub same_left : (S : List Object) (s0 s' : Nodes) (a b : Result Flat StageFault) (r : Result (Unit {0}) StageFault) → a ≡ b → IsEditedTo S s0 s' a r → IsEditedTo S s0 s' b r
same_left S s0 s' a b r e = subst (λ x. IsEditedTo S s0 s' x r) e

pub done_so : (S : List Object) (s0 s' : Nodes) (a : Result Flat StageFault) (t : Flat) → a ≡ Ok t → IsOpen S s' → Stands S s' t → IsEditedTo S s0 s' a (Ok tt)
done_so S s0 s' a t e o st = record { done = subst (λ x. IsOkAnd x (λ u. IsOpen S s' × Stands S s' u)) (sym e) (o, st); refused = tt }

module _ (t : Flat) (s p : Path) where
  pub nothing_sourced : standing t s ≡ None → sourced t s p ≡ Err NoSource
  nothing_sourced e = ap (λ (o : Option FlatNode). or_refuse NoSource o >>= λ x. within_paths p x >>= λ _. Ok x) e

  -- what is refused as a source is refused by an edit that goes on with one
  goes_on : (f : FlatNode → Result Flat StageFault) → (or_refuse NoSource (standing t s) >>= λ x. within_paths p x >>= λ _. f x) ≡ (sourced t s p >>= f)
  goes_on f = by (standing t s)
    where
      more : (n : FlatNode) (r : Result (Unit {0}) StageFault) → (r >>= λ _. f n) ≡ ((r >>= λ _. Ok n) >>= f)
      more n (Ok u) = refl
      more n (Err e) = refl

      by : (o : Option FlatNode) → (or_refuse NoSource o >>= λ x. within_paths p x >>= λ _. f x) ≡ ((or_refuse NoSource o >>= λ x. within_paths p x >>= λ _. Ok x) >>= f)
      by None = refl
      by (Some n) = more n (within_paths p n)

  pub not_renamed : (e : StageFault) → (e ≡ OutOfMemory) ⊎ (sourced t s p ≡ Err e) → (e ≡ OutOfMemory) ⊎ (renamed t s p ≡ Err e)
  not_renamed e (inl g) = inl g
  not_renamed e (inr g) = inr (goes_on (λ x. Ok (put (remove t s) p x)) ∙ ap (λ r. r >>= λ x. Ok (put (remove t s) p x)) g)

  pub not_copied : (e : StageFault) → (e ≡ OutOfMemory) ⊎ (sourced t s p ≡ Err e) → (e ≡ OutOfMemory) ⊎ (copied t s p ≡ Err e)
  not_copied e (inl g) = inl g
  not_copied e (inr g) = inr (goes_on (λ x. few_files (put t p x)) ∙ ap (λ r. r >>= λ x. few_files (put t p x)) g)

  module _ (n : FlatNode) (e : standing t s ≡ Some n) where
    pub judged_so : (e f : StageFault) → e ≡ f → (f ≡ OutOfMemory) ⊎ (within_paths p n ≡ Err f) → (e ≡ OutOfMemory) ⊎ (sourced t s p ≡ Err e)
    judged_so x f h (inl g) = inl (h ∙ g)
    judged_so x f h (inr g) = inr (ap (λ (o : Option FlatNode). or_refuse NoSource o >>= λ y. within_paths p y >>= λ _. Ok y) e ∙ ap (λ r. r >>= λ _. Ok n) g ∙ ap Err (sym h))

    pub left_so : within_paths p n ≡ Ok tt → renamed t s p ≡ Ok (put (remove t s) p n)
    left_so h = ap (λ (o : Option FlatNode). or_refuse NoSource o >>= λ x. within_paths p x >>= λ _. Ok (put (remove t s) p x)) e ∙ ap (λ r. r >>= λ _. Ok (put (remove t s) p n)) h

-- ---- a source that was found

module _ (S : List Object) (s s' : Nodes) (p q : Path) (k : ℕ) (h : IsSource S s s' p q k) where
  pub source_stands : (t : Flat) → Stands S s t → Stands S s' t
  source_stands t st y = h.still.leaves y ∙ st y

  abbrev pub source_moves : CanMove s' k q
  source_moves = record { objects = S; opened = h.still.opened; path = h.at.place.path; component = h.at.place.component; link = h.at.place.link; place = h.at.place.place; clear = h.target_clear }

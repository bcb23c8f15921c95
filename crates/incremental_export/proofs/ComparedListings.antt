-- Two listings that are compared along their merge: each step gives its own changes, and what both list gives none.
use Rattle.std.proofs.Common.{◌≡◌, ◌≢◌, ℕ, ◌+◌, ◌<◌, ◌≤◌, Bool, true, false, cond, not, T, List, [], ◌∷◌, ◌++◌, length, drop, Some, None, refl, sym, ap, subst, ◌∙◌, append-nil, arith, true≢false}
use Rattle.std.specs.Prelude.{slice_get}
use Rattle.std.specs.List.{list_all}
use Rattle.std.specs.FinMap.{is_sorted, slice_cmp-IsAntisymmetric, nat_cmp-IsAntisymmetric}
use Rattle.std.specs.declared.cmp.Ordering.TheVariants.{Less, Equal}
use Rattle.std.specs.Ordering.{nat_cmp}
use Rattle.std.specs.Cmp.{tied_itself}
use Rattle.std.specs.Cmp.Lexicographic.{nat_list_cmp_total, slice_cmp}
use Rattle.std.proofs.lemmas.Bool.{not-true}
use Rattle.git_objects.specs.Lists.{Each}
use Rattle.git_objects.specs.Paths.{Bytes, Path, is_component, is_nil, is_path, key, path_cmp, same_path}
use Rattle.git_objects.specs.Trees.{Flat, at, rests}
use Rattle.git_objects.specs.Entries.{AreEntries, Before, dir_key, entry_component, entry_dir, git_cmp, is_dir}
use Rattle.git_objects.specs.Views.{entry_value}
use Rattle.git_objects.specs.declared.entry.Entry.{Entry}
use Rattle.git_objects.specs.declared.kind.Kind.TheVariants.{Tree}
use Rattle.git_objects.specs.declared.tree_view.EntryView.{EntryView}
use Rattle.git_objects.proofs.Basics.{first, no_slash, second}
use Rattle.git_objects.proofs.Order.{path_decides}
use Rattle.git_objects.proofs.Pointwise.{from-T}
use Rattle.object_store.specs.Objects.{IsStore, Object, has, has_child}
use Rattle.object_store.specs.Unfolding.{below, entry_flat, flat}
use Rattle.object_store.proofs.Unfolding.{AreHeld, IsFull, flat_good, node}
use Rattle.path_trees.specs.Merged.{OnBoth, OnLeft, OnRight, Side, merged, pair_value}
use Rattle.path_trees.specs.declared.pairs.Pair.{Pair}
use Rattle.path_trees.specs.declared.pairs.Pair.TheVariants.{Both, Left, Right}
use Rattle.path_trees.proofs.Apart.{rests_full}
use Rattle.path_trees.proofs.Grown.{joined_in}
use Rattle.path_trees.proofs.Merging.{IsAhead, by_merge, same_place}
use Rattle.path_trees.proofs.Trees.{AreGood, good_flat}
use Rattle.path_trees.proofs.Walks.{dir_rests, leaf_rests, lengths, lengths-append, lengths-below, tree_held}
use Rattle.incremental_export.specs.Compared.{IsHeldPair, left_flat, right_flat}
use Rattle.incremental_export.proofs.Comparing.{AreApart, AreSome, AreTold, IsAway, at_second, each_append, each_as}

-- ---- the first component, with the `/` that follows

abbrev pub top : Path → Bytes
top [] = []
top (c ∷ p) = key c p

abbrev pub entry_key : Entry → Bytes
entry_key e = dir_key e.component (entry_dir e)

abbrev AreUnder : Bytes → Flat → Type 0
AreUnder k t = Each (λ x. top x.0 ≡ k) t

some_paths : (t : Flat) → T (list_all (λ e. is_path e.0) t) → AreSome t
some_paths [] h = tt
some_paths (e ∷ t) h = (not-true (is_nil e.0) (from-T (not (is_nil e.0)) (first (not (is_nil e.0)) _ (first (is_path e.0) _ h))), some_paths t (second (is_path e.0) _ h))

pub flat_some : (S : List Object) (n : Bytes) → IsStore S → has Tree S n ≡ true → AreSome (flat S n)
flat_some S n s h = some_paths (flat S n) (flat_good S s n h).tree.paths

under_below : (c : Bytes) (t : Flat) → AreSome t → AreUnder (c ++ 47 ∷ []) (below c t)
under_below c [] h = tt
under_below c (e ∷ t) h = (here e.0 h.0, under_below c t h.1)
  where
    here : (p : Path) → is_nil p ≡ false → key c p ≡ c ++ 47 ∷ []
    here [] n = absurd (true≢false n)
    here (d ∷ p) n = refl

entry_under : (S : List Object) (e : Entry) → IsStore S → has_child S e.mode e.name.0 ≡ true → AreUnder (entry_key e) (entry_flat S e)
entry_under S e s h = elim (is_dir e.mode) as (λ b. is_dir e.mode ≡ b → AreUnder (dir_key e.component b) (entry_flat S e)) [
  | true ↦ λ d. subst (λ (t : Flat). AreUnder (e.component ++ 47 ∷ []) (below e.component t)) (sym (dir_rests S e.mode e.name.0 d))
      (under_below e.component (flat S e.name.0) (flat_some S e.name.0 s (tree_held S e.mode e.name.0 d h)))
  | false ↦ λ d. subst (λ (t : Flat). AreUnder e.component (below e.component t)) (sym (leaf_rests S e.mode e.name.0 d)) (refl, tt)
] refl

at_other : (t : Flat) (k : Bytes) (p : Path) → AreUnder k t → (top p ≡ k → ⊥) → at t p ≡ None
at_other [] k p h n = refl
at_other (e ∷ t) k p h n = elim (same_path p e.0) as (λ b. same_path p e.0 ≡ b → cond b (Some e.1) (at t p) ≡ None) [
  | true ↦ λ i. absurd (n (ap top ((path_decides p e.0).0 i) ∙ h.0))
  | false ↦ λ i. at_other t k p h.1 n
] refl

under_away : (a b : Flat) (k l : Bytes) → AreUnder k a → AreUnder l b → (k ≡ l → ⊥) → IsAway a b
under_away a b k l g h n = each_as (λ x. top x.0 ≡ k) (λ x. at b x.0 ≡ None) a (λ x i. at_other b l x.0 h (λ j. n (sym i ∙ j))) g

-- ---- entries of other places

abbrev pub Differ : Entry → Entry → Type 0
Differ e f = entry_key e ≡ entry_key f → ⊥

entries_apart : (S : List Object) (e f : Entry) → IsStore S → has_child S e.mode e.name.0 ≡ true → has_child S f.mode f.name.0 ≡ true → Differ e f
    → AreApart (entry_flat S e) (entry_flat S f)
entries_apart S e f s h g n =
    let a = entry_under S e s h in
    let b = entry_under S f s g in
    record {
      first = under_away (entry_flat S e) (entry_flat S f) (entry_key e) (entry_key f) a b n;
      second = under_away (entry_flat S f) (entry_flat S e) (entry_key f) (entry_key e) b a (λ k. n (sym k));
    }

away_nothing : (a : Flat) → IsAway a []
away_nothing [] = tt
away_nothing (e ∷ a) = (refl, away_nothing a)

away_append : (a b c : Flat) → IsAway a b → IsAway a c → IsAway a (b ++ c)
away_append [] b c h g = tt
away_append (e ∷ a) b c h g = (at_second b c e.0 h.0 ∙ g.0, away_append a b c h.1 g.1)

joined_apart : (S : List Object) (e : Entry) (fs : List Entry) → IsStore S → has_child S e.mode e.name.0 ≡ true → AreHeld S fs → Each (λ f. Differ e f) fs
    → AreApart (entry_flat S e) (joined_in S fs)
joined_apart S e [] s h g d = record { first = away_nothing (entry_flat S e); second = tt }
joined_apart S e (f ∷ fs) s h g d =
    let a = entries_apart S e f s h g.0.child d.0 in
    let b = joined_apart S e fs s h g.1 d.1 in
    record {
      first = away_append (entry_flat S e) (entry_flat S f) (joined_in S fs) a.first b.first;
      second = each_append (λ x. at (entry_flat S e) x.0 ≡ None) (entry_flat S f) (joined_in S fs) a.second b.second;
    }

-- ---- Git's order

less_equal : {A : Type 0} → Less ≡ Equal → A
less_equal h = cc

less_differs : (e f : Entry) → git_cmp entry_component entry_dir e f ≡ Less → Differ e f
less_differs e f h k = less_equal (sym h ∙ ap (λ x. slice_cmp nat_cmp x (entry_key f)) k ∙ tied_itself nat_list_cmp_total (entry_key f))

behind_differs : (e f : Entry) (fs : List Entry) → git_cmp entry_component entry_dir e f ≡ Less → Before entry_component entry_dir f fs → Each (λ g. Differ e g) fs
behind_differs e f [] h b = tt
behind_differs e f (g ∷ fs) h b = (less_differs e g (nat_list_cmp_total.trans (entry_key e) (entry_key f) (entry_key g) h b.0), behind_differs e f fs h b.2)

ahead_differs : (e : Entry) (fs : List Entry) → IsAhead e fs → AreEntries fs → Each (λ g. Differ e g) fs
ahead_differs e [] h g = tt
ahead_differs e (f ∷ fs) h g = (less_differs e f h, behind_differs e f fs h g.1)

before_differs : (e : Entry) (es : List Entry) → Before entry_component entry_dir e es → Each (λ g. Differ e g) es
before_differs e [] h = tt
before_differs e (f ∷ es) h = (less_differs e f h.0, before_differs e es h.2)

same_keys : (e f : Entry) → git_cmp entry_component entry_dir e f ≡ Equal → entry_key e ≡ entry_key f
same_keys e f h = slice_cmp-IsAntisymmetric nat_cmp-IsAntisymmetric _ _ h

same_differs : (e f : Entry) (gs : List Entry) → entry_key e ≡ entry_key f → Each (λ g. Differ f g) gs → Each (λ g. Differ e g) gs
same_differs e f gs k h = each_as (λ g. Differ f g) (λ g. Differ e g) gs (λ g n i. n (sym k ∙ i)) h

-- ---- listings whose first entries are passed

good_rest : (S : List Object) (e : Entry) (es : List Entry) → AreGood S (e ∷ es) → AreGood S es
good_rest S e es g = record { entries = g.entries.2; held = g.held.1 }

pub good_behind : (S : List Object) (ds es : List Entry) → AreGood S (ds ++ es) → AreGood S es
good_behind S [] es g = g
good_behind S (d ∷ ds) es g = good_behind S ds es (good_rest S d (ds ++ es) g)

entry_sorted : (S : List Object) (e : Entry) (es : List Entry) → IsStore S → AreGood S (e ∷ es) → T (is_sorted path_cmp (entry_flat S e))
entry_sorted S e es s g =
    let one : AreGood S (e ∷ []) = record { entries = (g.entries.0, tt, tt); held = (g.held.0, tt) } in
    subst (λ (t : Flat). T (is_sorted path_cmp t)) (append-nil (entry_flat S e)) (good_flat S (e ∷ []) s one).tree.sorted

module _ (S : List Object) (s : IsStore S) where
  -- an entry is apart from those behind it
  own_apart : (e : Entry) (es : List Entry) → AreGood S (e ∷ es) → AreApart (entry_flat S e) (joined_in S es)
  own_apart e es g = joined_apart S e es s g.held.0.child g.held.1 (before_differs e es g.entries.1)

  ahead_apart : (e : Entry) (es fs : List Entry) → AreGood S (e ∷ es) → AreGood S fs → IsAhead e fs → AreApart (entry_flat S e) (joined_in S fs)
  ahead_apart e es fs g h a = joined_apart S e fs s g.held.0.child h.held (ahead_differs e fs a h.entries)

  same_apart : (e f : Entry) (es fs : List Entry) → AreGood S (e ∷ es) → AreGood S (f ∷ fs) → entry_key e ≡ entry_key f → AreApart (entry_flat S e) (joined_in S fs)
  same_apart e f es fs g h k = joined_apart S e fs s g.held.0.child h.held.1 (same_differs e f fs k (before_differs f fs h.entries.1))

  module _ {X : Type 0} (told : Bytes → Flat → Flat → List X) (law : AreTold told) (front : Bytes) where
    -- what both list at the front gives nothing
    pub told_same : (ds es fs : List Entry) → AreGood S (ds ++ es) → AreGood S (ds ++ fs) → told front (joined_in S (ds ++ es)) (joined_in S (ds ++ fs)) ≡ told front (joined_in S es) (joined_in S fs)
    told_same [] es fs g h = refl
    told_same (d ∷ ds) es fs g h =
        law.both front (entry_flat S d) (entry_flat S d) (joined_in S (ds ++ es)) (joined_in S (ds ++ fs)) (own_apart d (ds ++ fs) h) (own_apart d (ds ++ es) g)
        ∙ ap (λ (xs : List X). xs ++ told front (joined_in S (ds ++ es)) (joined_in S (ds ++ fs))) (law.same front (entry_flat S d) (entry_sorted S d (ds ++ es) s g))
        ∙ told_same ds es fs (good_rest S d (ds ++ es) g) (good_rest S d (ds ++ fs) h)

-- ---- the first step of a merge

abbrev lefts : List Side → List Entry
lefts [] = []
lefts (OnLeft e ∷ ps) = e ∷ lefts ps
lefts (OnRight f ∷ ps) = lefts ps
lefts (OnBoth e f ∷ ps) = e ∷ lefts ps

abbrev rights : List Side → List Entry
rights [] = []
rights (OnLeft e ∷ ps) = rights ps
rights (OnRight f ∷ ps) = f ∷ rights ps
rights (OnBoth e f ∷ ps) = f ∷ rights ps

abbrev IsBegun : List Entry → List Entry → List Side → Type 0
IsBegun es fs [] = Unit
IsBegun es fs (OnLeft e ∷ ps) = IsAhead e fs
IsBegun es fs (OnRight f ∷ ps) = IsAhead f es
IsBegun es fs (OnBoth e f ∷ ps) = git_cmp entry_component entry_dir e f ≡ Equal

abbrev IsMerge : List Entry → List Entry → List Side → Type 0
IsMerge es fs ps = (lefts ps ≡ es) × (rights ps ≡ fs) × IsBegun es fs ps

is_merge : (es fs : List Entry) → IsMerge es fs (merged es fs)
is_merge = by_merge IsMerge (refl, refl, tt)
    (λ e es fs ps a p. (ap (λ (l : List Entry). e ∷ l) p.0, p.1, a))
    (λ f es fs ps a p. (p.0, ap (λ (l : List Entry). f ∷ l) p.1, a))
    (λ e f es fs ps k p. (ap (λ (l : List Entry). e ∷ l) p.0, ap (λ (l : List Entry). f ∷ l) p.1, k))

-- this pair is taken from the front of two listings
abbrev pub IsTaken : Pair → List Entry → List Entry → List Entry → List Entry → Type 0
IsTaken (Left e) es fs es' fs' = (es ≡ entry_value e ∷ es') × (fs ≡ fs') × IsAhead (entry_value e) fs
IsTaken (Right f) es fs es' fs' = (es ≡ es') × (fs ≡ entry_value f ∷ fs') × IsAhead (entry_value f) es
IsTaken (Both e f) es fs es' fs' = (es ≡ entry_value e ∷ es') × (fs ≡ entry_value f ∷ fs') × (git_cmp entry_component entry_dir (entry_value e) (entry_value f) ≡ Equal)

pub none_taken : (es fs : List Entry) → None ≡ slice_get (merged es fs) 0 → (es ≡ []) × (fs ≡ [])
none_taken es fs h = by (merged es fs) (is_merge es fs) h
  where
    by : (ps : List Side) → IsMerge es fs ps → None ≡ slice_get ps 0 → (es ≡ []) × (fs ≡ [])
    by [] m g = (sym m.0, sym m.1)
    by (p ∷ ps) m g = cc

pub pair_taken : (es fs es' fs' : List Entry) (p : Pair) → Some (pair_value p) ≡ slice_get (merged es fs) 0 → merged es' fs' ≡ drop 1 (merged es fs) → IsTaken p es fs es' fs'
pair_taken es fs es' fs' p h g =
    let m = is_merge es' fs' in
    by p (merged es fs) (is_merge es fs) h (ap lefts (sym g) ∙ m.0) (ap rights (sym g) ∙ m.1)
  where
    by : (p : Pair) (ps : List Side) → IsMerge es fs ps → Some (pair_value p) ≡ slice_get ps 0 → lefts (drop 1 ps) ≡ es' → rights (drop 1 ps) ≡ fs' → IsTaken p es fs es' fs'
    by p [] m k l r = cc
    by (Left e) (OnLeft d ∷ ps) m k l r =
        let same : entry_value e ≡ d = cc in
        (sym m.0 ∙ (λ i. sym same i ∷ l i), sym m.1 ∙ r, subst (λ x. IsAhead x fs) (sym same) m.2)
    by (Left e) (OnRight d ∷ ps) m k l r = cc
    by (Left e) (OnBoth c d ∷ ps) m k l r = cc
    by (Right f) (OnLeft d ∷ ps) m k l r = cc
    by (Right f) (OnRight d ∷ ps) m k l r =
        let same : entry_value f ≡ d = cc in
        (sym m.0 ∙ l, sym m.1 ∙ (λ i. sym same i ∷ r i), subst (λ x. IsAhead x es) (sym same) m.2)
    by (Right f) (OnBoth c d ∷ ps) m k l r = cc
    by (Both e f) (OnLeft d ∷ ps) m k l r = cc
    by (Both e f) (OnRight d ∷ ps) m k l r = cc
    by (Both e f) (OnBoth c d ∷ ps) m k l r =
        let one : entry_value e ≡ c = cc in
        let other : entry_value f ≡ d = cc in
        (sym m.0 ∙ (λ i. sym one i ∷ l i), sym m.1 ∙ (λ i. sym other i ∷ r i), (λ i. git_cmp entry_component entry_dir (one i) (other i)) ∙ m.2)

-- how many components the paths of two listings have
abbrev pub read : List Object → List Entry → List Entry → ℕ
read S es fs = lengths (joined_in S es) + lengths (joined_in S fs)

module _ (S : List Object) (s : IsStore S) (es fs es' fs' : List Entry) (left : AreGood S es) (right : AreGood S fs) where
  -- what is left is good, too
  pub taken_good : (p : Pair) → IsTaken p es fs es' fs' → AreGood S es' × AreGood S fs'
  taken_good (Left e) t = (good_rest S (entry_value e) es' (subst (AreGood S) t.0 left), subst (AreGood S) t.1 right)
  taken_good (Right f) t = (subst (AreGood S) t.0 left, good_rest S (entry_value f) fs' (subst (AreGood S) t.1 right))
  taken_good (Both e f) t = (good_rest S (entry_value e) es' (subst (AreGood S) t.0 left), good_rest S (entry_value f) fs' (subst (AreGood S) t.1 right))

  -- the pair gives its own changes
  pub told_taken : {X : Type 0} (told : Bytes → Flat → Flat → List X) → AreTold told → (front : Bytes) (p : Pair) → IsTaken p es fs es' fs'
      → told front (joined_in S es) (joined_in S fs) ≡ told front (left_flat S p) (right_flat S p) ++ told front (joined_in S es') (joined_in S fs')
  told_taken told law front (Left e) t =
      (λ i. told front (joined_in S (t.0 i)) (joined_in S (t.1 i)))
      ∙ law.left front (entry_flat S (entry_value e)) (joined_in S es') (joined_in S fs')
      (ahead_apart S s (entry_value e) es' fs' (subst (AreGood S) t.0 left) (subst (AreGood S) t.1 right) (subst (IsAhead (entry_value e)) t.1 t.2))
  told_taken told law front (Right f) t =
      (λ i. told front (joined_in S (t.0 i)) (joined_in S (t.1 i)))
      ∙ law.right front (entry_flat S (entry_value f)) (joined_in S es') (joined_in S fs')
      (ahead_apart S s (entry_value f) fs' es' (subst (AreGood S) t.1 right) (subst (AreGood S) t.0 left) (subst (IsAhead (entry_value f)) t.0 t.2))
  told_taken told law front (Both e f) t =
      let k = same_keys (entry_value e) (entry_value f) t.2 in
      let g = subst (AreGood S) t.0 left in
      let h = subst (AreGood S) t.1 right in
      (λ i. told front (joined_in S (t.0 i)) (joined_in S (t.1 i)))
      ∙ law.both front (entry_flat S (entry_value e)) (entry_flat S (entry_value f)) (joined_in S es') (joined_in S fs')
      (same_apart S s (entry_value e) (entry_value f) es' fs' g h k) (same_apart S s (entry_value f) (entry_value e) fs' es' h g (sym k))

  -- the store has what it names
  pub taken_held : (p : Pair) → IsTaken p es fs es' fs' → ((e : Entry) → slice_get es 0 ≡ Some e → slice_get fs 0 ≢ Some e) → IsHeldPair S p
  taken_held (Left e) t n = (subst (AreGood S) t.0 left).held.0.child
  taken_held (Right f) t n = (subst (AreGood S) t.1 right).held.0.child
  taken_held (Both e f) t n =
      let g = subst (AreGood S) t.0 left in
      let h = subst (AreGood S) t.1 right in
      let same = same_place (entry_value e) (entry_value f) g.entries.0 h.entries.0 t.2 in (
        g.held.0.child,
        h.held.0.child,
        same,
        one_kind e.component.now (is_dir e.mode) (is_dir f.mode) g.entries.0 (same_keys (entry_value e) (entry_value f) t.2 ∙ ap (λ c. dir_key c (is_dir f.mode)) (sym same)),
        (λ k. n (entry_value e) (ap (λ (l : List Entry). slice_get l 0) t.0) (ap (λ (l : List Entry). slice_get l 0) t.1 ∙ ap Some (sym k))),
      )
    where
      one_kind : (c : Bytes) (a b : Bool) → is_component c ≡ true → dir_key c a ≡ dir_key c b → a ≡ b
      one_kind c true true h k = refl
      one_kind c false false h k = refl
      one_kind c true false h k = absurd (no_slash c c h (sym k))
      one_kind c false true h k = absurd (no_slash c c h k)

  -- ---- how much there is to read

  entry_long : (e : Entry) → has_child S e.mode e.name.0 ≡ true → 1 + lengths (rests (node S e.mode e.name.0)) ≤ lengths (entry_flat S e)
  entry_long e h =
      let t = rests (node S e.mode e.name.0) in
      let n = lengths-below e.component t in
      let more = some_path t (rests_full S s e.mode e.name.0 h) in
      omega arith
    where
      some_path : (t : Flat) → IsFull t → 1 ≤ length t
      some_path [] h = absurd h
      some_path (x ∷ t) h = omega arith

  first_read : (e : Entry) (ds all : List Entry) → all ≡ e ∷ ds → has_child S e.mode e.name.0 ≡ true → 1 + lengths (rests (node S e.mode e.name.0)) + lengths (joined_in S ds) ≤ lengths (joined_in S all)
  first_read e ds all k h =
      let n = ap (λ (l : List Entry). lengths (joined_in S l)) k ∙ lengths-append (entry_flat S e) (joined_in S ds) in
      let more = entry_long e h in
      omega arith

  pub taken_less : (p : Pair) → IsTaken p es fs es' fs' → read S es' fs' < read S es fs
  taken_less (Left e) t =
      let a = first_read (entry_value e) es' es t.0 (subst (AreGood S) t.0 left).held.0.child in
      let b : lengths (joined_in S fs) ≡ lengths (joined_in S fs') = ap (λ (l : List Entry). lengths (joined_in S l)) t.1 in
      omega arith
  taken_less (Right f) t =
      let a : lengths (joined_in S es) ≡ lengths (joined_in S es') = ap (λ (l : List Entry). lengths (joined_in S l)) t.0 in
      let b = first_read (entry_value f) fs' fs t.1 (subst (AreGood S) t.1 right).held.0.child in
      omega arith
  taken_less (Both e f) t =
      let a = first_read (entry_value e) es' es t.0 (subst (AreGood S) t.0 left).held.0.child in
      let b = first_read (entry_value f) fs' fs t.1 (subst (AreGood S) t.1 right).held.0.child in
      omega arith

  -- two directories and what is left are less by two
  pub entered_less : (e f : EntryView) → IsTaken (Both e f) es fs es' fs' → is_dir e.mode ≡ true → is_dir f.mode ≡ true
      → 2 + (lengths (flat S e.name.0) + lengths (flat S f.name.0)) + read S es' fs' ≤ read S es fs
  entered_less e f t d k =
      let a = first_read (entry_value e) es' es t.0 (subst (AreGood S) t.0 left).held.0.child in
      let b = first_read (entry_value f) fs' fs t.1 (subst (AreGood S) t.1 right).held.0.child in
      let m : lengths (rests (node S e.mode e.name.0)) ≡ lengths (flat S e.name.0) = ap lengths (dir_rests S e.mode e.name.0 d) in
      let n : lengths (rests (node S f.mode f.name.0)) ≡ lengths (flat S f.name.0) = ap lengths (dir_rests S f.mode f.name.0 k) in
      omega arith

pub read_behind : (S : List Object) (ds es : List Entry) → lengths (joined_in S es) ≤ lengths (joined_in S (ds ++ es))
read_behind S [] es = omega arith
read_behind S (d ∷ ds) es =
    let h = read_behind S ds es in
    let n = lengths-append (entry_flat S d) (joined_in S (ds ++ es)) in
    omega arith

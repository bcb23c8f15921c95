-- The first clash of two trees, directory by directory.
use Rattle.std.proofs.Common.{◌≡◌, ℕ, ◌+◌, ◌*◌, ◌<◌, ◌≤◌, true, List, [], ◌∷◌, ◌++◌, reverse, drop, Option, Some, None, refl, sym, ap, subst, ◌∙◌, arith, append_assoc}
use Rattle.std.proofs.lemmas.List.{reverse-append, reverse-reverse}
use Rattle.std.specs.Prelude.{slice_get, length}
use Rattle.std.specs.Option.{option_map, option_or}
use Rattle.git_objects.specs.Paths.{Bytes, Path, is_component}
use Rattle.git_objects.specs.Trees.{Flat, rests}
use Rattle.git_objects.specs.Entries.{is_dir, AreEntries}
use Rattle.git_objects.specs.declared.entry.Entry.{Entry}
use Rattle.git_objects.specs.declared.kind.Kind.TheVariants.{Tree}
use Rattle.object_store.specs.Objects.{Object, IsStore, has, has_child}
use Rattle.object_store.specs.Unfolding.{flat, below}
use Rattle.object_store.proofs.Unfolding.{node, IsFull}
use Rattle.path_trees.specs.Clashes.{clash}
use Rattle.path_trees.specs.Listed.{found_at, listed}
use Rattle.path_trees.specs.Paired.{pair_behind}
use Rattle.path_trees.specs.declared.clash.Level.{Level}
use Rattle.path_trees.specs.declared.found.Found.{Found}
use Rattle.path_trees.proofs.Grown.{joined_in}
use Rattle.path_trees.proofs.Levels.{rests_of}
use Rattle.path_trees.proofs.Trees.{AreGood}
use Rattle.path_trees.proofs.Walks.{lengths, lengths-append, lengths-below, dir_rests, listed_good, held_dir}
use Rattle.path_trees.proofs.Lookups.{found_held}
use Rattle.path_trees.proofs.Apart.{rests_full}
use Rattle.path_trees.proofs.Clashing.{behind, clash-joined, or_assoc, map_or}

abbrev pub AreOpenLevels : List Object → List Level → Type 0
AreOpenLevels S [] = Unit
AreOpenLevels S (l ∷ ls) = AreGood S l.left × AreGood S l.right × AreOpenLevels S ls

-- the first clash of what is left in open directories, the deepest first, and of the components of its path, the last first
abbrev pub clash_in : List Object → List Level → Path → Option (Path × Path)
clash_in S [] r = None
clash_in S (l ∷ up) r = option_or (option_map (pair_behind (reverse r)) (clash (joined_in S l.left) (joined_in S l.right))) (clash_in S up (drop 1 r))

abbrev pub clash_left : List Object → List Level → Path → Option (Path × Path)
clash_left S levels components = clash_in S (reverse levels) (reverse components)

-- a measure
abbrev pub steps_left : List Object → List Level → ℕ
steps_left S [] = 0
steps_left S (l ∷ ls) = 1 + 2 * lengths (joined_in S l.left) + steps_left S ls

-- ---- one entry

nothing_right : (t : Flat) → clash t [] ≡ None
nothing_right [] = refl
nothing_right (e ∷ t) = nothing_right t

behind_twice : (p : Path) (c : Bytes) (o : Option (Path × Path)) → option_map (pair_behind p) (option_map (behind c) o) ≡ option_map (pair_behind (p ++ c ∷ [])) o
behind_twice p c None = refl
behind_twice p c (Some x) = λ i. Some (sym (append_assoc p (c ∷ []) x.0) i, sym (append_assoc p (c ∷ []) x.1) i)

module _ (S : List Object) (e : Entry) (es fs : List Entry) (up : List Level) (r : Path) (h : AreEntries fs) where
  abbrev own : Option (Path × Path)
  own = clash (rests (node S e.mode e.name.0)) (rests_of S (found_at e.component fs))

  pub entry_step : clash_in S (record { left = e ∷ es; right = fs } ∷ up) r ≡ option_or (option_map (pair_behind (reverse r ++ e.component ∷ [])) own) (clash_in S (record { left = es; right = fs } ∷ up) r)
  entry_step =
      ap (λ o. option_or (option_map (pair_behind (reverse r)) o) (clash_in S up (drop 1 r))) (clash-joined S e es fs h)
      ∙ ap (λ o. option_or o (clash_in S up (drop 1 r))) (map_or (pair_behind (reverse r)) (option_map (behind e.component) own) (clash (joined_in S es) (joined_in S fs)) ∙ ap (λ o. option_or o (option_map (pair_behind (reverse r)) (clash (joined_in S es) (joined_in S fs)))) (behind_twice (reverse r) e.component own))
      ∙ sym (or_assoc (option_map (pair_behind (reverse r ++ e.component ∷ [])) own) (option_map (pair_behind (reverse r)) (clash (joined_in S es) (joined_in S fs))) (clash_in S up (drop 1 r)))

  -- the second tree has nothing there
  pub none_step : found_at e.component fs ≡ None → clash_in S (record { left = e ∷ es; right = fs } ∷ up) r ≡ clash_in S (record { left = es; right = fs } ∷ up) r
  none_step n =
      entry_step
      ∙ ap (λ o. option_or (option_map (pair_behind (reverse r ++ e.component ∷ [])) (clash (rests (node S e.mode e.name.0)) (rests_of S o))) (clash_in S (record { left = es; right = fs } ∷ up) r)) n
      ∙ ap (λ o. option_or (option_map (pair_behind (reverse r ++ e.component ∷ [])) o) (clash_in S (record { left = es; right = fs } ∷ up) r)) (nothing_right (rests (node S e.mode e.name.0)))

  -- both have a directory
  pub dir_step : (f : Found) → found_at e.component fs ≡ Some f → is_dir e.mode ≡ true → is_dir f.mode ≡ true → (gs hs : List Entry) → flat S e.name.0 ≡ joined_in S gs → flat S f.name.0 ≡ joined_in S hs →
      clash_in S (record { left = gs; right = hs } ∷ record { left = es; right = fs } ∷ up) (e.component ∷ r) ≡ clash_in S (record { left = e ∷ es; right = fs } ∷ up) r
  dir_step f k d g gs hs m l = sym (
      entry_step
      ∙ (λ i. option_or (option_map (pair_behind (sym (reverse-append (e.component ∷ []) r) i)) (both i)) (clash_in S (record { left = es; right = fs } ∷ up) r)))
    where
      both : own ≡ clash (joined_in S gs) (joined_in S hs)
      both = (λ i. clash (dir_rests S e.mode e.name.0 d i) (rests_of S (k i))) ∙ (λ i. clash (m i) ((dir_rests S f.mode f.name.0 g ∙ l) i))

  -- one of them has a leaf there
  pub leaf_step : (f : Found) → found_at e.component fs ≡ Some f → (x : Path × Path) → Some x ≡ option_map (pair_behind (reverse r ++ e.component ∷ [])) (clash (rests (node S e.mode e.name.0)) (rests (node S f.mode f.name.0))) →
      clash_in S (record { left = e ∷ es; right = fs } ∷ up) r ≡ Some x
  leaf_step f k x h =
      entry_step
      ∙ ap (λ o. option_or (option_map (pair_behind (reverse r ++ e.component ∷ [])) (clash (rests (node S e.mode e.name.0)) (rests_of S o))) (clash_in S (record { left = es; right = fs } ∷ up) r)) k
      ∙ ap (λ o. option_or o (clash_in S (record { left = es; right = fs } ∷ up) r)) (sym h)

-- ---- levels as the code has them, the roots' first

turned : {A : Type 0} (xs : List A) (x : A) → reverse (xs ++ x ∷ []) ≡ x ∷ reverse xs
turned xs x = reverse-append xs (x ∷ [])

left_open : (S : List Object) (levels : List Level) (l : Level) (components : Path) → clash_left S (levels ++ l ∷ []) components ≡ clash_in S (l ∷ reverse levels) (reverse components)
left_open S levels l components = ap (λ (ls : List Level). clash_in S ls (reverse components)) (turned levels l)

open_append : (S : List Object) (a : List Level) (l : Level) → AreOpenLevels S a → AreGood S l.left → AreGood S l.right → AreOpenLevels S (a ++ l ∷ [])
open_append S [] l h g k = (g, k, tt)
open_append S (x ∷ a) l h g k = (h.0, h.1, open_append S a l h.2 g k)

open_front : (S : List Object) (a : List Level) (l : Level) → AreOpenLevels S (a ++ l ∷ []) → AreOpenLevels S a × AreGood S l.left × AreGood S l.right
open_front S [] l h = (tt, h.0, h.1)
open_front S (x ∷ a) l h = let r = open_front S a l h.2 in ((h.0, h.1, r.0), r.1, r.2)

steps-append : (S : List Object) (a : List Level) (l : Level) → steps_left S (a ++ l ∷ []) ≡ steps_left S a + (1 + 2 * lengths (joined_in S l.left))
steps-append S [] l = omega arith
steps-append S (x ∷ a) l = let h = steps-append S a l in omega arith

none_left : (es : List Entry) → None ≡ slice_get es 0 → es ≡ []
none_left [] h = refl
none_left (e ∷ es) h = cc

split_first : (ds es : List Entry) (e : Entry) → Some e ≡ slice_get ds 0 → es ≡ drop 1 ds → ds ≡ e ∷ es
split_first [] es e h g = cc
split_first (d ∷ ds) es e h g = let same : e ≡ d = cc in λ i. sym same i ∷ sym g i

some_path : (t : Flat) → IsFull t → 1 ≤ length t
some_path [] h = absurd h
some_path (x ∷ t) h = omega arith

-- a directory that is read to its end is left
pub closed : (S : List Object) (all rest : List Level) (level : Level) (components up : Path) → all ≡ rest ++ level ∷ [] → None ≡ slice_get level.left 0 → AreOpenLevels S all → reverse up ≡ drop 1 (reverse components) →
    AreOpenLevels S rest × (clash_left S rest up ≡ clash_left S all components) × (steps_left S rest < steps_left S all)
closed S all rest level components up e n h u =
    let last : Level = record { left = []; right = level.right } in
    let split : all ≡ rest ++ last ∷ [] = e ∙ ap (λ (l : List Entry). let x : Level = record { left = l; right = level.right } in rest ++ x ∷ []) (none_left level.left n) in
    let w : steps_left S all ≡ steps_left S rest + (1 + 2 * lengths (joined_in S [])) = ap (steps_left S) split ∙ steps-append S rest last in (
      (open_front S rest last (subst (AreOpenLevels S) split h)).0,
      ap (clash_in S (reverse rest)) u ∙ sym (ap (λ (ls : List Level). clash_left S ls components) split ∙ left_open S rest last components),
      omega arith,
    )

module _ (S : List Object) (s : IsStore S) (all rest : List Level) (level : Level) (es : List Entry) (e : Entry) (is_split : all ≡ rest ++ level ∷ []) (first : Some e ≡ slice_get level.left 0) (others : es ≡ drop 1 level.left) (good : AreOpenLevels S all) where
  abbrev here : Level
  here = record { left = e ∷ es; right = level.right }

  abbrev next : Level
  next = record { left = es; right = level.right }

  split : all ≡ rest ++ here ∷ []
  split = is_split ∙ ap (λ (l : List Entry). let x : Level = record { left = l; right = level.right } in rest ++ x ∷ []) (split_first level.left es e first others)

  parts : AreOpenLevels S rest × AreGood S (e ∷ es) × AreGood S level.right
  parts = open_front S rest here (subst (AreOpenLevels S) split good)

  pub next_child : has_child S e.mode e.name.0 ≡ true
  next_child = parts.1.held.0.child

  pub found_child : (f : Found) → found_at e.component level.right ≡ Some f → has_child S f.mode f.name.0 ≡ true
  found_child f h = (found_held S e.component level.right f parts.2.held h).0

  pub next_component : is_component e.component ≡ true
  next_component = parts.1.entries.0

  after_good : (after : List Level) → after ≡ rest ++ next ∷ [] → AreOpenLevels S after
  after_good after h = subst (AreOpenLevels S) (sym h) (open_append S rest next parts.0 (record { entries = parts.1.entries.2; held = parts.1.held.1 }) parts.2)

  all_is : (components : Path) → clash_left S all components ≡ clash_in S (here ∷ reverse rest) (reverse components)
  all_is components = ap (λ (ls : List Level). clash_left S ls components) split ∙ left_open S rest here components

  after_is : (components : Path) (after : List Level) → after ≡ rest ++ next ∷ [] → clash_left S after components ≡ clash_in S (next ∷ reverse rest) (reverse components)
  after_is components after h = ap (λ (ls : List Level). clash_left S ls components) h ∙ left_open S rest next components

  -- the second tree has nothing of this component
  pub passed : found_at e.component level.right ≡ None → (components : Path) (after : List Level) → after ≡ rest ++ next ∷ [] → AreOpenLevels S after × (clash_left S after components ≡ clash_left S all components) × (steps_left S after < steps_left S all)
  passed n components after h =
      let t = rests (node S e.mode e.name.0) in
      let more = some_path t (rests_full S s e.mode e.name.0 next_child) in
      let w1 : steps_left S all ≡ steps_left S rest + (1 + 2 * lengths (joined_in S (e ∷ es))) = ap (steps_left S) split ∙ steps-append S rest here in
      let w2 : steps_left S after ≡ steps_left S rest + (1 + 2 * lengths (joined_in S es)) = ap (steps_left S) h ∙ steps-append S rest next in
      let n1 : lengths (joined_in S (e ∷ es)) ≡ lengths (below e.component t) + lengths (joined_in S es) = lengths-append (below e.component t) (joined_in S es) in
      let n2 : lengths (below e.component t) ≡ length t + lengths t = lengths-below e.component t in (
        after_good after h,
        after_is components after h ∙ sym (none_step S e es level.right (reverse rest) (reverse components) parts.2.entries n) ∙ sym (all_is components),
        omega arith,
      )

  -- both have a directory
  pub entered : (f : Found) → found_at e.component level.right ≡ Some f → is_dir e.mode ≡ true → is_dir f.mode ≡ true → (child : Level) → listed S e.name.0 ≡ Some child.left → listed S f.name.0 ≡ Some child.right →
      (components path : Path) → path ≡ components ++ e.component ∷ [] → (after final : List Level) → after ≡ rest ++ next ∷ [] → final ≡ after ++ child ∷ [] →
      AreOpenLevels S final × (clash_left S final path ≡ clash_left S all components) × (steps_left S final < steps_left S all)
  entered f k d g child l r components path p after final h i =
      let held = held_dir S e.mode e.name.0 d next_child in
      let other = held_dir S f.mode f.name.0 g (found_child f k) in
      let left = listed_good S e.name.0 child.left s held.0 l in
      let right = listed_good S f.name.0 child.right s other.0 r in
      let more = some_path (flat S e.name.0) ((Rattle.object_store.proofs.Unfolding.flat_good S s e.name.0 held.0).full held.1) in
      let w1 : steps_left S all ≡ steps_left S rest + (1 + 2 * lengths (joined_in S (e ∷ es))) = ap (steps_left S) split ∙ steps-append S rest here in
      let w2 : steps_left S final ≡ steps_left S after + (1 + 2 * lengths (joined_in S child.left)) = ap (steps_left S) i ∙ steps-append S after child in
      let w3 : steps_left S after ≡ steps_left S rest + (1 + 2 * lengths (joined_in S es)) = ap (steps_left S) h ∙ steps-append S rest next in
      let n1 : lengths (joined_in S (e ∷ es)) ≡ lengths (below e.component (flat S e.name.0)) + lengths (joined_in S es) = ap (λ (t : Flat). lengths (below e.component t ++ joined_in S es)) (dir_rests S e.mode e.name.0 d) ∙ lengths-append (below e.component (flat S e.name.0)) (joined_in S es) in
      let n2 : lengths (below e.component (flat S e.name.0)) ≡ length (flat S e.name.0) + lengths (flat S e.name.0) = lengths-below e.component (flat S e.name.0) in
      let n3 : lengths (flat S e.name.0) ≡ lengths (joined_in S child.left) = ap lengths left.1 in (
        subst (AreOpenLevels S) (sym i) (open_append S after child (after_good after h) left.0 right.0),
        ap (λ (ls : List Level). clash_left S ls path) i
            ∙ left_open S after child path
            ∙ (λ j. clash_in S (child ∷ (ap reverse h ∙ turned rest next) j) ((ap reverse p ∙ turned components e.component) j))
            ∙ dir_step S e es level.right (reverse rest) (reverse components) parts.2.entries f k d g child.left child.right left.1 right.1
            ∙ sym (all_is components),
        omega arith,
      )

  -- one of them has a leaf there
  pub clashed : (f : Found) → found_at e.component level.right ≡ Some f → (components path : Path) → path ≡ components ++ e.component ∷ [] → (x : Path × Path) →
      Some x ≡ option_map (pair_behind path) (clash (rests (node S e.mode e.name.0)) (rests (node S f.mode f.name.0))) → clash_left S all components ≡ Some x
  clashed f k components path p x h =
      all_is components
      ∙ leaf_step S e es level.right (reverse rest) (reverse components) parts.2.entries f k x
      (h ∙ ap (λ (q : Path). option_map (pair_behind q) (clash (rests (node S e.mode e.name.0)) (rests (node S f.mode f.name.0)))) (p ∙ (λ i. sym (reverse-reverse components) i ++ e.component ∷ [])))

-- ---- the roots

or_none : (o : Option (Path × Path)) → option_or o None ≡ o
or_none None = refl
or_none (Some x) = refl

nothing_behind : (o : Option (Path × Path)) → option_map (pair_behind []) o ≡ o
nothing_behind None = refl
nothing_behind (Some x) = refl

pub first_level : (S : List Object) (s : IsStore S) (a b : Bytes) (l : Level) → has Tree S a ≡ true → has Tree S b ≡ true → listed S a ≡ Some l.left → listed S b ≡ Some l.right → (levels : List Level) → levels ≡ [] ++ l ∷ [] →
    AreOpenLevels S levels × (clash_left S levels [] ≡ clash (flat S a) (flat S b))
first_level S s a b l h g i j levels e =
    let left = listed_good S a l.left s h i in
    let right = listed_good S b l.right s g j in (
      subst (AreOpenLevels S) (sym e) (left.0, right.0, tt),
      ap (λ (ls : List Level). clash_left S ls []) e
          ∙ or_none (option_map (pair_behind []) (clash (joined_in S l.left) (joined_in S l.right)))
          ∙ nothing_behind (clash (joined_in S l.left) (joined_in S l.right))
          ∙ (λ k. clash (sym left.1 k) (sym right.1 k)),
    )

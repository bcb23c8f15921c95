-- What is left of open directories, entry by entry.
use Rattle.std.proofs.Common.{Bool, ◌≡◌, ℕ, ◌+◌, ◌*◌, ◌<◌, ◌≤◌, true, false, not, List, [], ◌∷◌, ◌++◌, length, drop, reverse, Some, None, refl, sym, ap, subst, ◌∙◌, true≢false, arith, append_assoc}
use Rattle.std.specs.Prelude.{slice_get}
use Rattle.std.specs.List.{list_all}
use Rattle.std.specs.Option.{is_some}
use Rattle.std.specs.Cmp.{first_so, second_so}
use Rattle.std.proofs.lemmas.Bool.{not-true}
use Rattle.std.proofs.lemmas.List.{reverse-append, reverse-reverse}
use Rattle.git_objects.specs.Paths.{Bytes, Path, is_nil, is_component, is_path}
use Rattle.git_objects.specs.Trees.{Leaf, Flat, rests}
use Rattle.git_objects.specs.declared.entry.Entry.{Entry}
use Rattle.git_objects.specs.declared.kind.Kind.TheVariants.{Blob, Tree}
use Rattle.git_objects.specs.declared.mode.Mode.{Mode}
use Rattle.git_objects.specs.declared.mode.Mode.TheVariants.{File, Exec, Link, Module, Dir}
use Rattle.git_objects.specs.Entries.{is_dir}
use Rattle.git_objects.specs.Names.{leaf_name}
use Rattle.object_store.proofs.Held.{body_named}
use Rattle.git_objects.proofs.Basics.{and_both}
use Rattle.object_store.specs.Objects.{Object, body_of, has, has_child, IsStore}
use Rattle.object_store.specs.Unfolding.{flat, below}
use Rattle.object_store.proofs.Unfolding.{node, IsFull, flat_good}
use Rattle.path_trees.specs.Listed.{listed}
use Rattle.path_trees.specs.Walked.{Walked, IsStep, leaf_of, behind, left_in, AreStored, AreLevels}
use Rattle.path_trees.proofs.Grown.{joined_in}
use Rattle.path_trees.proofs.Trees.{AreGood, good_stored, stored_good, tree_listed}

-- ---- paths behind a path

behind-append : (p : Path) (a b : Flat) → behind p (a ++ b) ≡ behind p a ++ behind p b
behind-append p [] b = refl
behind-append p (e ∷ a) b = ap (λ (t : Flat). (p ++ e.0, e.1) ∷ t) (behind-append p a b)

behind-below : (p : Path) (c : Bytes) (t : Flat) → behind p (below c t) ≡ behind (p ++ c ∷ []) t
behind-below p c [] = refl
behind-below p c (e ∷ t) = λ i. (sym (append_assoc p (c ∷ []) e.0) i, e.1) ∷ behind-below p c t i

behind-nothing : (t : Flat) → behind [] t ≡ t
behind-nothing [] = refl
behind-nothing (e ∷ t) = ap (λ (s : Flat). e ∷ s) (behind-nothing t)

-- ---- one entry

pub leaf_rests : (S : List Object) (m : Mode) (n : Bytes) → is_dir m ≡ false → rests (node S m n) ≡ ([], leaf_of (body_of Blob S) m n) ∷ []
leaf_rests S File n h = refl
leaf_rests S Exec n h = refl
leaf_rests S Link n h = refl
leaf_rests S Module n h = refl
leaf_rests S Dir n h = absurd (true≢false h)

pub dir_rests : (S : List Object) (m : Mode) (n : Bytes) → is_dir m ≡ true → rests (node S m n) ≡ flat S n
dir_rests S File n h = absurd (true≢false (sym h))
dir_rests S Exec n h = absurd (true≢false (sym h))
dir_rests S Link n h = absurd (true≢false (sym h))
dir_rests S Module n h = absurd (true≢false (sym h))
dir_rests S Dir n h = refl

module _ (S : List Object) (e : Entry) (es : List Entry) (up : List (List Entry)) (r : Path) where
  -- a leaf is the next
  pub leaf_next : is_dir e.mode ≡ false → left_in S ((e ∷ es) ∷ up) r ≡ (reverse r ++ e.component ∷ [], leaf_of (body_of Blob S) e.mode e.name.0) ∷ left_in S (es ∷ up) r
  leaf_next h = ap (λ (t : Flat). behind (reverse r) (below e.component t ++ joined_in S es) ++ left_in S up (drop 1 r)) (leaf_rests S e.mode e.name.0 h)

  -- a directory is opened
  pub dir_next : (fs : List Entry) → is_dir e.mode ≡ true → flat S e.name.0 ≡ joined_in S fs → left_in S ((e ∷ es) ∷ up) r ≡ left_in S (fs ∷ es ∷ up) (e.component ∷ r)
  dir_next fs h m =
      ap (λ (t : Flat). behind (reverse r) (below e.component t ++ joined_in S es) ++ left_in S up (drop 1 r)) (dir_rests S e.mode e.name.0 h ∙ m)
      ∙ ap (λ (t : Flat). t ++ left_in S up (drop 1 r)) (behind-append (reverse r) (below e.component (joined_in S fs)) (joined_in S es) ∙ ap (λ (t : Flat). t ++ behind (reverse r) (joined_in S es)) (behind-below (reverse r) e.component (joined_in S fs)))
      ∙ append_assoc (behind (reverse r ++ e.component ∷ []) (joined_in S fs)) (behind (reverse r) (joined_in S es)) (left_in S up (drop 1 r))
      ∙ ap (λ (p : Path). behind p (joined_in S fs) ++ (behind (reverse r) (joined_in S es) ++ left_in S up (drop 1 r))) (sym (reverse-append (e.component ∷ []) r))

-- ---- levels as the code has them, the root's first

turned : {A : Type 0} (xs : List A) (x : A) → reverse (xs ++ x ∷ []) ≡ x ∷ reverse xs
turned xs x = reverse-append xs (x ∷ [])

abbrev pub left : List Object → List (List Entry) → Path → Flat
left S levels components = left_in S (reverse levels) (reverse components)

left-open : (S : List Object) (levels : List (List Entry)) (es : List Entry) (components : Path) → left S (levels ++ es ∷ []) components ≡ left_in S (es ∷ reverse levels) (reverse components)
left-open S levels es components = ap (λ (ls : List (List Entry)). left_in S ls (reverse components)) (turned levels es)

-- ---- steps

levels-append : (S : List Object) (a : List (List Entry)) (es : List Entry) → AreLevels S a → AreStored S es → AreLevels S (a ++ es ∷ [])
levels-append S [] es h g = (g, tt)
levels-append S (x ∷ a) es h g = (h.0, levels-append S a es h.1 g)

levels-front : (S : List Object) (a : List (List Entry)) (es : List Entry) → AreLevels S (a ++ es ∷ []) → AreLevels S a × AreStored S es
levels-front S [] es h = (tt, h.0)
levels-front S (x ∷ a) es h = let r = levels-front S a es h.1 in ((h.0, r.0), r.1)

-- ---- a measure

-- components of all paths
abbrev pub lengths : Flat → ℕ
lengths [] = 0
lengths (e ∷ t) = length e.0 + lengths t

abbrev pub weight : List Object → List (List Entry) → ℕ
weight S [] = 0
weight S (es ∷ levels) = 1 + 2 * lengths (joined_in S es) + weight S levels

pub lengths-append : (a b : Flat) → lengths (a ++ b) ≡ lengths a + lengths b
lengths-append [] b = omega arith
lengths-append (e ∷ a) b = let h = lengths-append a b in omega arith

pub lengths-below : (c : Bytes) (t : Flat) → lengths (below c t) ≡ length t + lengths t
lengths-below c [] = refl
lengths-below c (e ∷ t) = let h = lengths-below c t in omega arith

weight-append : (S : List Object) (a : List (List Entry)) (es : List Entry) → weight S (a ++ es ∷ []) ≡ weight S a + (1 + 2 * lengths (joined_in S es))
weight-append S [] es = omega arith
weight-append S (x ∷ a) es = let h = weight-append S a es in omega arith

-- ---- the first level

pub first_level : (S : List Object) (es : List Entry) (levels : List (List Entry)) → levels ≡ [] ++ es ∷ [] → AreGood S es → AreLevels S levels
first_level S es levels e g = subst (AreLevels S) (sym e) (stored_good S es g, tt)

append-nothing : (t : Flat) → t ++ [] ≡ t
append-nothing [] = refl
append-nothing (e ∷ t) = ap (λ (s : Flat). e ∷ s) (append-nothing t)

pub first_left : (S : List Object) (es : List Entry) (levels : List (List Entry)) → levels ≡ [] ++ es ∷ [] → left_in S (reverse levels) [] ≡ joined_in S es
first_left S es levels e = ap (λ (ls : List (List Entry)). left_in S (reverse ls) []) e ∙ append-nothing (behind [] (joined_in S es)) ∙ behind-nothing (joined_in S es)

-- what a tree lists, once it is known
pub listed_good : (S : List Object) (n : Bytes) (es : List Entry) → IsStore S → has Tree S n ≡ true → listed S n ≡ Some es → AreGood S es × (flat S n ≡ joined_in S es)
listed_good S n es s h e =
    let r = tree_listed S n s h in
    let same : r.0 ≡ es = some_same (sym r.1 ∙ e) in
    subst (λ (l : List Entry). AreGood S l × (flat S n ≡ joined_in S l)) same (r.2, r.3)
  where
    some_same : {a b : List Entry} → Some a ≡ Some b → a ≡ b
    some_same g = cc

pub never_none : (S : List Object) (n : Bytes) → IsStore S → has Tree S n ≡ true → None ≡ listed S n → ⊥
never_none S n s h e = let r = tree_listed S n s h in apart (e ∙ r.1)
  where
    apart : {x : List Entry} → None ≡ Some x → ⊥
    apart g = cc

-- ---- the name of a leaf

pub leaf_named : (S : List Object) (m : Mode) (n : Bytes) → has_child S m n ≡ true → is_dir m ≡ false → leaf_name (leaf_of (body_of Blob S) m n) ≡ n
leaf_named S File n h d = body_named Blob S n h
leaf_named S Exec n h d = body_named Blob S n h
leaf_named S Link n h d = body_named Blob S n h
leaf_named S Module n h d = refl
leaf_named S Dir n h d = absurd (true≢false d)

-- ---- one turn

-- a directory's tree
pub held_dir : (S : List Object) (m : Mode) (n : Bytes) → is_dir m ≡ true → has_child S m n ≡ true → (has Tree S n ≡ true) × (is_nil (body_of Tree S n) ≡ false)
held_dir S File n d h = absurd (true≢false (sym d))
held_dir S Exec n d h = absurd (true≢false (sym d))
held_dir S Link n d h = absurd (true≢false (sym d))
held_dir S Module n d h = absurd (true≢false (sym d))
held_dir S Dir n d h = (first_so (has Tree S n) (not (is_nil (body_of Tree S n))) h, not-true (is_nil (body_of Tree S n)) (second_so (has Tree S n) (not (is_nil (body_of Tree S n))) h))

pub tree_held : (S : List Object) (m : Mode) (n : Bytes) → is_dir m ≡ true → has_child S m n ≡ true → has Tree S n ≡ true
tree_held S m n d h = (held_dir S m n d h).0

none_left : (level : List Entry) → None ≡ slice_get level 0 → level ≡ []
none_left [] h = refl
none_left (e ∷ es) h = cc

split_first : (level es : List Entry) (e : Entry) → Some e ≡ slice_get level 0 → es ≡ drop 1 level → level ≡ e ∷ es
split_first [] es e h g = cc
split_first (d ∷ ds) es e h g = let same : e ≡ d = cc in λ i. sym same i ∷ sym g i

-- a directory that is read to its end is left
pub closed : (S : List Object) (all rest : List (List Entry)) (level : List Entry) (components up : Path) → all ≡ rest ++ level ∷ [] → None ≡ slice_get level 0 → AreLevels S all → reverse up ≡ drop 1 (reverse components) →
    AreLevels S rest × (left S rest up ≡ left S all components) × (weight S rest < weight S all)
closed S all rest level components up e n h u =
    let split : all ≡ rest ++ [] ∷ [] = e ∙ ap (λ (l : List Entry). rest ++ l ∷ []) (none_left level n) in
    let w : weight S all ≡ weight S rest + (1 + 2 * lengths (joined_in S [])) = ap (weight S) split ∙ weight-append S rest [] in (
      (levels-front S rest [] (subst (AreLevels S) split h)).0,
      ap (left_in S (reverse rest)) u ∙ sym (ap (λ (ls : List (List Entry)). left S ls components) split ∙ left-open S rest [] components),
      omega arith,
    )

module _ (S : List Object) (all rest : List (List Entry)) (level es : List Entry) (e : Entry) (is_split : all ≡ rest ++ level ∷ []) (first : Some e ≡ slice_get level 0) (others : es ≡ drop 1 level) (good : AreLevels S all) where
  split : all ≡ rest ++ (e ∷ es) ∷ []
  split = is_split ∙ ap (λ (l : List Entry). rest ++ l ∷ []) (split_first level es e first others)

  parts : AreLevels S rest × AreStored S (e ∷ es)
  parts = levels-front S rest (e ∷ es) (subst (AreLevels S) split good)

  open_good : AreGood S (e ∷ es)
  open_good = good_stored S (e ∷ es) parts.1

  pub opened : (after : List (List Entry)) → after ≡ rest ++ es ∷ [] → AreLevels S after
  opened after h = subst (AreLevels S) (sym h) (levels-append S rest es parts.0 (stored_good S es (record { entries = open_good.entries.2; held = open_good.held.1 })))

  pub next_child : has_child S e.mode e.name.0 ≡ true
  next_child = open_good.held.0.child

  pub next_component : is_component e.component ≡ true
  next_component = open_good.entries.0

  left_is : (components : Path) → left S all components ≡ left_in S ((e ∷ es) ∷ reverse rest) (reverse components)
  left_is components = ap (λ (ls : List (List Entry)). left S ls components) split ∙ left-open S rest (e ∷ es) components

  -- a leaf
  pub at_leaf : is_dir e.mode ≡ false → (components path : Path) → path ≡ components ++ e.component ∷ [] → (after : List (List Entry)) → after ≡ rest ++ es ∷ [] →
      left S all components ≡ (path, leaf_of (body_of Blob S) e.mode e.name.0) ∷ left_in S (reverse after) (drop 1 (reverse path))
  at_leaf d components path p after a =
      left_is components
      ∙ leaf_next S e es (reverse rest) (reverse components) d
      ∙ (λ i. (reverse-reverse components i ++ e.component ∷ [], leaf_of (body_of Blob S) e.mode e.name.0) ∷ left_in S (sym (turned rest es) i) (sym (ap (drop 1) (turned components e.component)) i))
      ∙ (λ i. (sym p i, leaf_of (body_of Blob S) e.mode e.name.0) ∷ left_in S (reverse (sym a i)) (drop 1 (reverse (sym p i))))

  -- a directory
  pub at_directory : IsStore S → is_dir e.mode ≡ true → (fs : List Entry) → listed S e.name.0 ≡ Some fs → (components path : Path) → path ≡ components ++ e.component ∷ [] → (after final : List (List Entry)) → after ≡ rest ++ es ∷ [] → final ≡ after ++ fs ∷ [] →
      AreLevels S final × (left S final path ≡ left S all components) × (weight S final < weight S all)
  at_directory s d fs l components path p after final a f =
      let held = held_dir S e.mode e.name.0 d next_child in
      let listing = listed_good S e.name.0 fs s held.0 l in
      let more = some_path (flat S e.name.0) ((flat_good S s e.name.0 held.0).full held.1) in
      let w1 : weight S all ≡ weight S rest + (1 + 2 * lengths (joined_in S (e ∷ es))) = ap (weight S) split ∙ weight-append S rest (e ∷ es) in
      let w2 : weight S final ≡ weight S after + (1 + 2 * lengths (joined_in S fs)) = ap (weight S) f ∙ weight-append S after fs in
      let w3 : weight S after ≡ weight S rest + (1 + 2 * lengths (joined_in S es)) = ap (weight S) a ∙ weight-append S rest es in
      let n1 : lengths (joined_in S (e ∷ es)) ≡ lengths (below e.component (flat S e.name.0)) + lengths (joined_in S es) = ap (λ (t : Flat). lengths (below e.component t ++ joined_in S es)) (dir_rests S e.mode e.name.0 d) ∙ lengths-append (below e.component (flat S e.name.0)) (joined_in S es) in
      let n2 : lengths (below e.component (flat S e.name.0)) ≡ length (flat S e.name.0) + lengths (flat S e.name.0) = lengths-below e.component (flat S e.name.0) in
      let n3 : lengths (flat S e.name.0) ≡ lengths (joined_in S fs) = ap lengths listing.1 in (
        subst (AreLevels S) (sym f) (levels-append S after fs (opened after a) (stored_good S fs listing.0)),
        ap (λ (ls : List (List Entry)). left S ls path) f
            ∙ left-open S after fs path
            ∙ (λ i. left_in S (fs ∷ (ap reverse a ∙ turned rest es) i) ((ap reverse p ∙ turned components e.component) i))
            ∙ sym (dir_next S e es (reverse rest) (reverse components) fs d listing.1)
            ∙ sym (left_is components),
        omega arith,
      )
    where
      some_path : (t : Flat) → IsFull t → 1 ≤ length t
      some_path [] h = absurd h
      some_path (x ∷ t) h = omega arith

-- the path of a leaf
pub components_path : (p q : Path) (c : Bytes) → q ≡ p ++ c ∷ [] → list_all is_component q ≡ true → is_path q ≡ true
components_path [] q c e h = subst (λ (x : Path). list_all is_component x ≡ true → is_path x ≡ true) (sym e) (λ g. g) h
components_path (d ∷ p) q c e h = subst (λ (x : Path). list_all is_component x ≡ true → is_path x ≡ true) (sym e) (λ g. g) h

-- ---- valid components

pub all_front : (p q : Path) → list_all is_component (p ++ q) ≡ true → list_all is_component p ≡ true
all_front [] q h = refl
all_front (c ∷ p) q h = and_both (first_so (is_component c) (list_all is_component (p ++ q)) h) (all_front p q (second_so (is_component c) (list_all is_component (p ++ q)) h))

pub all_more : (p q : Path) (c : Bytes) → q ≡ p ++ c ∷ [] → list_all is_component p ≡ true → is_component c ≡ true → list_all is_component q ≡ true
all_more p q c e h k = ap (list_all is_component) e ∙ by p h
  where
    by : (p : Path) → list_all is_component p ≡ true → list_all is_component (p ++ c ∷ []) ≡ true
    by [] g = and_both k refl
    by (d ∷ p) g = and_both (first_so (is_component d) (list_all is_component p) g) (by p (second_so (is_component d) (list_all is_component p) g))

pub all_of_path : (p : Path) → is_path p ≡ true → list_all is_component p ≡ true
all_of_path [] h = refl
all_of_path (c ∷ p) h = h

pub leaf_step : (l t : Flat) (e : Path × Leaf) (v : Walked) → l ≡ e ∷ t → v ≡ record { current = Some e; left = t } → IsStep l true v
leaf_step l t e v h g = subst (λ (m : Flat). IsStep m true v) (sym h) (refl, g)

-- ---- a step that was made

pub step_some : (l : Flat) (more : Bool) (v : Walked) → IsStep l more v → more ≡ true → (is_some v.current ≡ true) × (length v.left < length l)
step_some [] more v h e = absurd (true≢false (sym e ∙ h.0))
step_some (x ∷ t) more v h e =
    let n : length v.left ≡ length t = ap (λ (w : Walked). length w.left) h.1 in
    (ap (λ (w : Walked). is_some w.current) h.1, omega arith)

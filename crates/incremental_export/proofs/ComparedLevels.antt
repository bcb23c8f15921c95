-- Two trees that are compared directory by directory: what is found so far, and what is left in open directories.
use Rattle.std.proofs.Common.{◌≡◌, ◌≢◌, ℕ, zero, suc, ◌+◌, ◌*◌, ◌<◌, ◌≤◌, true, List, [], ◌∷◌, ◌++◌, length, drop, take, reverse, map, Bor, Option, Some, None, refl, sym, ap, subst, ◌∙◌, append_assoc, append-nil, arith}
use Rattle.std.specs.Prelude.{slice_get}
use Rattle.std.specs.Option.{option_map}
use Rattle.std.proofs.Math.Seq.{take-length}
use Rattle.std.proofs.lemmas.List.{length-append, length-take-le, reverse-append, take-append-le}
use Rattle.git_objects.specs.Lists.{Each}
use Rattle.git_objects.specs.Paths.{Bytes}
use Rattle.git_objects.specs.Trees.{Flat, Leaf}
use Rattle.git_objects.specs.Entries.{is_dir}
use Rattle.git_objects.specs.Views.{entry_value}
use Rattle.git_objects.specs.declared.entry.Entry.{Entry}
use Rattle.git_objects.specs.declared.kind.Kind.TheVariants.{Tree}
use Rattle.git_objects.specs.declared.name.Name.{Name}
use Rattle.git_objects.specs.declared.tree_view.EntryView.{EntryView}
use Rattle.object_store.specs.Objects.{IsStore, Object, has}
use Rattle.object_store.specs.Unfolding.{below, entry_flat, flat}
use Rattle.path_trees.specs.Listed.{listed, listed_at}
use Rattle.path_trees.specs.Merged.{merged, pair_value}
use Rattle.path_trees.specs.declared.pairs.Pair.{Pair}
use Rattle.path_trees.specs.declared.pairs.Pair.TheVariants.{Both, Left, Right}
use Rattle.path_trees.proofs.Grown.{joined_in}
use Rattle.path_trees.proofs.Trees.{AreGood}
use Rattle.path_trees.proofs.Walks.{dir_rests, lengths, listed_good, tree_held}
use Rattle.incremental_export.specs.Compared.{IsHeldLeaf, IsHeldPair, IsHeldTree, IsPairDone, left_flat, placed_leaf, right_flat, tree_at}
use Rattle.incremental_export.specs.declared.compare.Changes.{Changes}
use Rattle.incremental_export.specs.declared.compare.Level.{Level}
use Rattle.incremental_export.proofs.Comparing.{AreTold, deleted_told, put_told, told_deleted, told_put}
use Rattle.incremental_export.proofs.ComparedEntries.{listed_held}
use Rattle.incremental_export.proofs.ComparedListings.{IsTaken, entered_less, flat_some, good_behind, none_taken, pair_taken, read, read_behind, taken_good, taken_held, taken_less, told_same, told_taken}

-- what is left of open directories, the deepest first, whose fronts are those of one text
abbrev pub left_by : {X : Type 0} → (Bytes → Flat → Flat → List X) → List Object → List Level → Bytes → List X
left_by told S [] front = []
left_by told S (l ∷ up) front = told (take l.front front) (joined_in S l.left) (joined_in S l.right) ++ left_by told S up front

-- their children are held, and each has a front that isn't longer than that of a deeper one
abbrev pub AreOpen : List Object → ℕ → List Level → Type 0
AreOpen S n [] = Unit
AreOpen S n (l ∷ up) = AreGood S l.left × AreGood S l.right × (l.front ≤ n) × AreOpen S l.front up

-- a measure
abbrev pub work : List Object → List Level → ℕ
work S [] = 0
work S (l ∷ up) = 1 + 2 * read S l.left l.right + work S up

-- what is found, with what is left of open directories, the root's first, is all
pub record AreCompared (S : List Object) (levels : List Level) (front : Bytes) (found : Changes) (a b : Flat) : Type 0 where
  pub open_levels : AreOpen S (length front) (reverse levels)
  pub deleted : map (λ t. t.items) found.deleted.items ++ left_by told_deleted S (reverse levels) front ≡ told_deleted [] a b
  pub put : map (placed_leaf S) found.put.items ++ left_by told_put S (reverse levels) front ≡ told_put [] a b
  pub held : Each (IsHeldLeaf S) found.put.items

-- ---- fronts

take_take : (m n : ℕ) (xs : Bytes) → m ≤ n → take m (take n xs) ≡ take m xs
take_take zero n xs h = refl
take_take (suc m) zero xs h = absurd (omega arith)
take_take (suc m) (suc n) [] h = refl
take_take (suc m) (suc n) (x ∷ xs) h = ap (λ (l : Bytes). x ∷ l) (take_take m n xs (omega arith))

left_as : {X : Type 0} (told : Bytes → Flat → Flat → List X) (S : List Object) (up : List Level) (n : ℕ) (a b : Bytes) → AreOpen S n up → take n a ≡ take n b → left_by told S up a ≡ left_by told S up b
left_as told S [] n a b h e = refl
left_as told S (l ∷ up) n a b h e =
    let same : take l.front a ≡ take l.front b = sym (take_take l.front n a h.2) ∙ ap (take l.front) e ∙ take_take l.front n b h.2 in
    λ i. told (same i) (joined_in S l.left) (joined_in S l.right) ++ left_as told S up l.front a b h.3 same i

-- ---- one turn

-- of a directory that is open: the front of its paths, and what is left when what both list is passed over
record IsTurn (S : List Object) (level : Level) (up : List Level) (front cut : Bytes) (left right : List Entry) : Type 0 where
  pub good : AreOpen S (length front) (level ∷ up)
  pub is_cut : cut ≡ take level.front front
  pub before : List Entry
  pub same_left : level.left ≡ before ++ left
  pub same_right : level.right ≡ before ++ right

module _ {S : List Object} (s : IsStore S) {level : Level} {up : List Level} {front cut : Bytes} {left right : List Entry} (t : IsTurn S level up front cut left right) where
  cut_long : length cut ≡ level.front
  cut_long = ap length t.is_cut ∙ length-take-le level.front front t.good.2

  cut_whole : take level.front cut ≡ take level.front front
  cut_whole = ap (take level.front) t.is_cut ∙ take_take level.front level.front front (omega arith)

  cut_cut : take level.front cut ≡ cut
  cut_cut = cut_whole ∙ sym t.is_cut

  good_left : AreGood S left
  good_left = good_behind S t.before left (subst (AreGood S) t.same_left t.good.0)

  good_right : AreGood S right
  good_right = good_behind S t.before right (subst (AreGood S) t.same_right t.good.1)

  open_up : AreOpen S (length cut) up
  open_up = subst (λ n. AreOpen S n up) (sym cut_long) t.good.3

  here : {X : Type 0} (told : Bytes → Flat → Flat → List X) → AreTold told → left_by told S (level ∷ up) front ≡ told cut (joined_in S left) (joined_in S right) ++ left_by told S up cut
  here told law =
      (λ i. told (sym t.is_cut i) (joined_in S (t.same_left i)) (joined_in S (t.same_right i)) ++ left_as told S up level.front front cut t.good.3 (sym cut_whole) i)
      ∙ ap (λ xs. xs ++ left_by told S up cut) (told_same S s told law cut t.before left right (subst (AreGood S) t.same_left t.good.0) (subst (AreGood S) t.same_right t.good.1))

  less_read : read S left right ≤ read S level.left level.right
  less_read =
      let a = read_behind S t.before left in
      let b = read_behind S t.before right in
      let c = ap (λ (l : List Entry). lengths (joined_in S l)) t.same_left in
      let d = ap (λ (l : List Entry). lengths (joined_in S l)) t.same_right in
      omega arith

  -- both are read to their ends
  none_left : {X : Type 0} (told : Bytes → Flat → Flat → List X) → AreTold told → None ≡ slice_get (merged left right) 0 → left_by told S (level ∷ up) front ≡ left_by told S up cut
  none_left told law h =
      let n = none_taken left right h in
      here told law
      ∙ (λ i. told cut (joined_in S (n.0 i)) (joined_in S (n.1 i)) ++ left_by told S up cut)
      ∙ ap (λ xs. xs ++ left_by told S up cut) (law.nothing cut)

  module _ (p : Pair) (left' right' : List Entry) (taken : IsTaken p left right left' right') where
    abbrev after : Level
    after = record { left = left'; right = right'; front = level.front }

    rest_good : AreGood S left' × AreGood S right'
    rest_good = taken_good S s left right left' right' good_left good_right p taken

    -- the pair gives its changes
    done_left : {X : Type 0} (told : Bytes → Flat → Flat → List X) → AreTold told → left_by told S (level ∷ up) front ≡ told cut (left_flat S p) (right_flat S p) ++ left_by told S (after ∷ up) cut
    done_left told law =
        here told law
        ∙ ap (λ xs. xs ++ left_by told S up cut) (told_taken S s left right left' right' good_left good_right told law cut p taken)
        ∙ append_assoc (told cut (left_flat S p) (right_flat S p)) (told cut (joined_in S left') (joined_in S right')) (left_by told S up cut)
        ∙ ap (λ (k : Bytes). told cut (left_flat S p) (right_flat S p) ++ (told k (joined_in S left') (joined_in S right') ++ left_by told S up cut)) (sym cut_cut)

    done_open : AreOpen S (length cut) (after ∷ up)
    done_open = (rest_good.0, rest_good.1, subst (λ n. level.front ≤ n) (sym cut_long) (omega arith), t.good.3)

    done_work : work S (after ∷ up) < work S (level ∷ up)
    done_work =
        let a = taken_less S s left right left' right' good_left good_right p taken in
        let b = less_read in
        omega arith

  -- or it is two directories, into which the walk goes down
  module _ (e f : EntryView) (left' right' : List Entry) (taken : IsTaken (Both e f) left right left' right') (held : IsHeldPair S (Both e f)) (child : Level) (inner : Bytes)
      (place : inner ≡ (cut ++ f.component.now) ++ 47 ∷ []) (d : is_dir f.mode ≡ true) (long : child.front ≡ length inner)
      (first : listed S e.name.0 ≡ Some child.left) (second : listed S f.name.0 ≡ Some child.right) where
    abbrev next : Level
    next = record { left = left'; right = right'; front = level.front }

    other_d : is_dir e.mode ≡ true
    other_d = held.3 ∙ d

    first_has : has Tree S e.name.0 ≡ true
    first_has = tree_held S e.mode e.name.0 other_d held.0

    second_has : has Tree S f.name.0 ≡ true
    second_has = tree_held S f.mode f.name.0 d held.1

    first_good : AreGood S child.left × (flat S e.name.0 ≡ joined_in S child.left)
    first_good = listed_good S e.name.0 child.left s first_has first

    second_good : AreGood S child.right × (flat S f.name.0 ≡ joined_in S child.right)
    second_good = listed_good S f.name.0 child.right s second_has second

    inner_cut : take level.front inner ≡ take level.front cut
    inner_cut =
        ap (take level.front) (place ∙ append_assoc cut f.component.now (47 ∷ []))
        ∙ take-append-le level.front cut (f.component.now ++ 47 ∷ []) (subst (λ n. level.front ≤ n) (sym cut_long) (omega arith))

    inner_whole : take child.front inner ≡ inner
    inner_whole = ap (λ n. take n inner) long ∙ take-length inner

    two : {X : Type 0} (told : Bytes → Flat → Flat → List X) → AreTold told
        → told cut (entry_flat S (entry_value e)) (entry_flat S (entry_value f)) ≡ told (take child.front inner) (joined_in S child.left) (joined_in S child.right)
    two told law =
        (λ i. told cut (below (held.2 i) (dir_rests S e.mode e.name.0 other_d i)) (below f.component.now (dir_rests S f.mode f.name.0 d i)))
        ∙ law.inner cut f.component.now (flat S e.name.0) (flat S f.name.0) (flat_some S e.name.0 s first_has) (flat_some S f.name.0 s second_has)
        ∙ (λ i. told ((sym place ∙ sym inner_whole) i) (first_good.1 i) (second_good.1 i))

    down_left : {X : Type 0} (told : Bytes → Flat → Flat → List X) → AreTold told → left_by told S (level ∷ up) front ≡ left_by told S (child ∷ next ∷ up) inner
    down_left told law =
        done_left (Both e f) left' right' taken told law
        ∙ (λ i. two told law i ++ (told (sym inner_cut i) (joined_in S left') (joined_in S right') ++ left_as told S up level.front cut inner t.good.3 (sym inner_cut) i))

    deeper : level.front ≤ child.front
    deeper =
        let n : length inner ≡ length (cut ++ f.component.now) + 1 = ap length place ∙ length-append (cut ++ f.component.now) (47 ∷ []) in
        let m : length (cut ++ f.component.now) ≡ length cut + length f.component.now = length-append cut f.component.now in
        let k : length cut ≡ level.front = cut_long in
        omega arith

    down_open : AreOpen S (length inner) (child ∷ next ∷ up)
    down_open =
        let r = taken_good S s left right left' right' good_left good_right (Both e f) taken in
        let own : child.front ≤ length inner = omega arith in
        (first_good.0, second_good.0, own, (r.0, r.1, deeper, t.good.3))

    down_work : work S (child ∷ next ∷ up) < work S (level ∷ up)
    down_work =
        let a = entered_less S s left right left' right' good_left good_right e f taken other_d d in
        let b = less_read in
        let m = ap lengths first_good.1 in
        let n = ap lengths second_good.1 in
        omega arith

-- ---- the levels as the code has them, the root's first

turned : {A : Type 0} (xs : List A) (x : A) → reverse (xs ++ x ∷ []) ≡ x ∷ reverse xs
turned xs x = reverse-append xs (x ∷ [])

found_more : {X : Type 0} (before more own left all total : List X) → more ≡ before ++ own → all ≡ own ++ left → before ++ all ≡ total → more ++ left ≡ total
found_more before more own left all total h g e = ap (λ xs. xs ++ left) h ∙ append_assoc before own left ∙ ap (λ xs. before ++ xs) (sym g) ∙ e

module _ {S : List Object} (s : IsStore S) {all : List Level} (rest : List Level) (level : Level) {front cut : Bytes} {found : Changes} {a b : Flat} (is : AreCompared S all front found a b)
    (split : all ≡ rest ++ level ∷ []) (is_cut : cut ≡ take level.front front) (left right : List Entry) (same : (ds : List Entry) × (level.left ≡ ds ++ left) × (level.right ≡ ds ++ right)) where
  backward : reverse all ≡ level ∷ reverse rest
  backward = ap reverse split ∙ turned rest level

  turn : IsTurn S level (reverse rest) front cut left right
  turn = record {
    good = subst (AreOpen S (length front)) backward is.open_levels;
    is_cut = is_cut;
    before = same.0;
    same_left = same.1;
    same_right = same.2;
  }

  deleted_is : map (λ t. t.items) found.deleted.items ++ left_by told_deleted S (level ∷ reverse rest) front ≡ told_deleted [] a b
  deleted_is = ap (λ (ls : List Level). map (λ t. t.items) found.deleted.items ++ left_by told_deleted S ls front) (sym backward) ∙ is.deleted

  put_is : map (placed_leaf S) found.put.items ++ left_by told_put S (level ∷ reverse rest) front ≡ told_put [] a b
  put_is = ap (λ (ls : List Level). map (placed_leaf S) found.put.items ++ left_by told_put S ls front) (sym backward) ∙ is.put

  -- both directories are read to their ends
  pub closed : None ≡ slice_get (merged left right) 0 → AreCompared S rest cut found a b × (work S (reverse rest) < work S (reverse all))
  closed h =
      let w : work S (reverse all) ≡ work S (level ∷ reverse rest) = ap (work S) backward in (
        record {
          open_levels = open_up s turn;
          deleted = ap (λ (l : List Bytes). map (λ t. t.items) found.deleted.items ++ l) (sym (none_left s turn told_deleted deleted_told h)) ∙ deleted_is;
          put = ap (λ (l : List (Bytes × Leaf)). map (placed_leaf S) found.put.items ++ l) (sym (none_left s turn told_put put_told h)) ∙ put_is;
          held = is.held;
        },
        omega arith,
      )

  module _ (p : Pair) (left' right' : List Entry) (first : Some (pair_value p) ≡ slice_get (merged left right) 0) (others : merged left' right' ≡ drop 1 (merged left right)) where
    abbrev later : Level
    later = record { left = left'; right = right'; front = level.front }

    taken : IsTaken p left right left' right'
    taken = pair_taken left right left' right' p first others

    -- what the pair names is held
    pub held_pair : ((e : Entry) → slice_get left 0 ≡ Some e → slice_get right 0 ≢ Some e) → IsHeldPair S p
    held_pair apart = taken_held S s left right left' right' (good_left s turn) (good_right s turn) p taken apart

    -- the pair gives its changes
    pub passed : (after : List Level) (inner : Bytes) (more : Changes) → after ≡ rest ++ later ∷ [] → IsPairDone S p cut inner None found more
        → AreCompared S after inner more a b × (work S (reverse after) < work S (reverse all))
    passed after inner more h is_done =
        let f = is_done.1 in
        let back : reverse after ≡ later ∷ reverse rest = ap reverse h ∙ turned rest later in
        let w1 : work S (reverse all) ≡ work S (level ∷ reverse rest) = ap (work S) backward in
        let w2 : work S (reverse after) ≡ work S (later ∷ reverse rest) = ap (work S) back in
        let w3 = done_work s turn p left' right' taken in (
          subst (λ (k : Bytes). AreCompared S after k more a b) (sym is_done.0) (record {
            open_levels = subst (AreOpen S (length cut)) (sym back) (done_open s turn p left' right' taken);
            deleted = ap (λ (ls : List Level). map (λ t. t.items) more.deleted.items ++ left_by told_deleted S ls cut) back
                ∙ found_more (map (λ t. t.items) found.deleted.items) (map (λ t. t.items) more.deleted.items) (told_deleted cut (left_flat S p) (right_flat S p)) (left_by told_deleted S (later ∷ reverse rest) cut)
                (left_by told_deleted S (level ∷ reverse rest) front) (told_deleted [] a b) f.deleted
                (done_left s turn p left' right' taken told_deleted deleted_told) deleted_is;
            put = ap (λ (ls : List Level). map (placed_leaf S) more.put.items ++ left_by told_put S ls cut) back
                ∙ found_more (map (placed_leaf S) found.put.items) (map (placed_leaf S) more.put.items) (told_put cut (left_flat S p) (right_flat S p)) (left_by told_put S (later ∷ reverse rest) cut)
                (left_by told_put S (level ∷ reverse rest) front) (told_put [] a b) f.put
                (done_left s turn p left' right' taken told_put put_told) put_is;
            held = f.held is.held;
          }),
          omega arith,
        )

    -- or the walk goes down into two directories
    pub entered : ((e : Entry) → slice_get left 0 ≡ Some e → slice_get right 0 ≢ Some e) → (inner : Bytes) (child : Level) (more : Changes) → IsPairDone S p cut inner (Some child) found more
        → (after final : List Level) → after ≡ rest ++ later ∷ [] → final ≡ after ++ child ∷ [] → AreCompared S final inner more a b × (work S (reverse final) < work S (reverse all))
    entered apart inner child more is_done after final h g = by p (held_pair apart) taken is_done
      where
        by : (p : Pair) → IsHeldPair S p → IsTaken p left right left' right' → IsPairDone S p cut inner (Some child) found more → AreCompared S final inner more a b × (work S (reverse final) < work S (reverse all))
        by (Left e) held t d = absurd d
        by (Right f) held t d = absurd d
        by (Both e f) held t d =
            let back : reverse final ≡ child ∷ later ∷ reverse rest = ap reverse g ∙ turned after child ∙ ap (λ (ls : List Level). child ∷ ls) (ap reverse h ∙ turned rest later) in
            let w1 : work S (reverse all) ≡ work S (level ∷ reverse rest) = ap (work S) backward in
            let w2 : work S (reverse final) ≡ work S (child ∷ later ∷ reverse rest) = ap (work S) back in
            let w3 = down_work s turn e f left' right' t held child inner d.1 d.2 d.3 d.4 d.5 in (
              subst (λ (c : Changes). AreCompared S final inner c a b) (sym d.0) (record {
                open_levels = subst (AreOpen S (length inner)) (sym back) (down_open s turn e f left' right' t held child inner d.1 d.2 d.3 d.4 d.5);
                deleted = ap (λ (ls : List Level). map (λ t. t.items) found.deleted.items ++ left_by told_deleted S ls inner) back
                    ∙ ap (λ (l : List Bytes). map (λ t. t.items) found.deleted.items ++ l)
                    (sym (down_left s turn e f left' right' t held child inner d.1 d.2 d.3 d.4 d.5 told_deleted deleted_told))
                    ∙ deleted_is;
                put = ap (λ (ls : List Level). map (placed_leaf S) found.put.items ++ left_by told_put S ls inner) back
                    ∙ ap (λ (l : List (Bytes × Leaf)). map (placed_leaf S) found.put.items ++ l)
                    (sym (down_left s turn e f left' right' t held child inner d.1 d.2 d.3 d.4 d.5 told_put put_told))
                    ∙ put_is;
                held = is.held;
              }),
              omega arith,
            )

-- ---- the whole trees

module _ (S : List Object) (s : IsStore S) (from : Option (Bor Name)) (to : Bytes) (level : Level) (held : IsHeldTree S (option_map (λ n. n.now) from)) (has_to : has Tree S to ≡ true)
    (is_left : level.left ≡ listed_at S (option_map (λ n. n.now.0) from)) (is_right : listed S to ≡ Some level.right) where
  root_left : AreGood S level.left × (tree_at S (option_map (λ n. n.now) from) ≡ joined_in S level.left)
  root_left = by from held is_left
    where
      by : (from : Option (Bor Name)) → IsHeldTree S (option_map (λ n. n.now) from) → level.left ≡ listed_at S (option_map (λ n. n.now.0) from)
          → AreGood S level.left × (tree_at S (option_map (λ n. n.now) from) ≡ joined_in S level.left)
      by None h e = (subst (AreGood S) (sym e) (record { entries = tt; held = tt }), sym (ap (joined_in S) e))
      by (Some n) h e = listed_good S n.now.0 level.left s h (listed_held S n.now.0 level.left s h e)

  root_right : AreGood S level.right × (flat S to ≡ joined_in S level.right)
  root_right = listed_good S to level.right s has_to is_right

  pub begun : (levels : List Level) (front : Bytes) (found : Changes) → levels ≡ [] ++ level ∷ [] → level.front ≡ 0 → front ≡ [] → found.deleted.items ≡ [] → found.put.items ≡ []
      → AreCompared S levels front found (tree_at S (option_map (λ n. n.now) from)) (flat S to)
  begun levels front found e z f d p = record {
    open_levels = subst (λ (ls : List Level). AreOpen S (length front) (reverse ls)) (sym e) (root_left.0, root_right.0, omega arith, tt);
    deleted = whole told_deleted (map (λ t. t.items) found.deleted.items) (ap (map (λ t. t.items)) d);
    put = whole told_put (map (placed_leaf S) found.put.items) (ap (map (placed_leaf S)) p);
    held = subst (Each (IsHeldLeaf S)) (sym p) tt;
  }
    where
      whole : {X : Type 0} (told : Bytes → Flat → Flat → List X) (xs : List X) → xs ≡ [] → xs ++ left_by told S (reverse levels) front ≡ told [] (tree_at S (option_map (λ n. n.now) from)) (flat S to)
      whole told xs n =
          (λ i. n i ++ left_by told S (reverse (e i)) (f i))
          ∙ append-nil (told (take level.front []) (joined_in S level.left) (joined_in S level.right))
          ∙ (λ i. told (take (z i) []) (sym root_left.1 i) (sym root_right.1 i))

pub ended : (S : List Object) (levels : List Level) (front : Bytes) (found : Changes) (a b : Flat) → AreCompared S levels front found a b → length levels ≡ 0
    → (map (λ t. t.items) found.deleted.items ≡ told_deleted [] a b) × (map (placed_leaf S) found.put.items ≡ told_put [] a b)
ended S [] front found a b is n = (sym (append-nil (map (λ t. t.items) found.deleted.items)) ∙ is.deleted, sym (append-nil (map (placed_leaf S) found.put.items)) ∙ is.put)
ended S (l ∷ levels) front found a b is n = absurd (omega arith)

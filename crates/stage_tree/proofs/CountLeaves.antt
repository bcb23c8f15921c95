-- As many files as the nodes have leaves.
use Rattle.std.proofs.Common.{◌≡◌, ℕ, ◌+◌, ◌≤◌, Bool, true, false, cond, ◌==◌, T, List, [], ◌∷◌, ◌++◌, length, Option, Some, None, refl, sym, ap, ◌∙◌, arith, append-nil}
use Rattle.std.specs.Option.{is_some}
use Rattle.std.specs.Ordering.{is_lt, is_eq}
use Rattle.std.specs.declared.cmp.Ordering.{Ordering}
use Rattle.std.specs.declared.cmp.Ordering.TheVariants.{Less, Equal, Greater}
use Rattle.std.specs.FinMap.{find, is_sorted}
use Rattle.std.specs.FinMap.Entries.{below_all, length-put}
use Rattle.std.proofs.lemmas.Bool.Decides.{nat_tests}
use Rattle.git_objects.specs.Paths.{Bytes, Path, path_cmp}
use Rattle.git_objects.specs.Trees.{Flat, IsTree, Node as FlatNode, LeafNode, TreeNode, at, rests, put_all}
use Rattle.git_objects.specs.Bodies.{is_name}
use Rattle.git_objects.proofs.Basics.{first, second, same_bytes-self}
use Rattle.git_objects.proofs.Maps.{after, at_rest, first_some, at-put_all, find-at, same_flat, sorted-put_all}
use Rattle.git_objects.proofs.Order.{path_cmp-total, path_ties}
use Rattle.git_objects.proofs.Pointwise.{IsNode}
use Rattle.object_store.specs.Objects.{Object, IsStore, has_child}
use Rattle.std.specs.Cmp.{first_so, second_so}
use Rattle.path_trees.specs.Standing.{node}
use Rattle.path_trees.specs.declared.found.Found.{Found}
use Rattle.stage_nodes.specs.declared.nodes.Content.{Content}
use Rattle.stage_nodes.specs.declared.nodes.Content.TheVariants.{Held, Open}
use Rattle.stage_nodes.specs.Forests.{Forest, Nil, Bin, one, count, Sound}
use Rattle.stage_nodes.specs.Frames.{Frame, Below, Behind, plug, count_up}
use Rattle.stage_nodes.specs.Leaves.{leaf_in, is_held}
use Rattle.stage_nodes.specs.Items.{Items, items, items_at, items_behind, tree_of, AreHeld}
use Rattle.stage_tree.specs.Counts.{content_files, files, files_but, is_number}
use Rattle.stage_nodes.proofs.ItemTrees.{tree_cons, tree_leaf, tree_sorted, sound_held}
use Rattle.stage_nodes.proofs.OnWay.{sound_any}
use Rattle.stage_nodes.proofs.PutLeaves.{after_split, beyond_none}
use Rattle.stage_tree.proofs.Staging.{node_is}

-- ---- a block put where nothing is

not_equal : (o : Ordering) → T (is_lt o) → is_eq o ≡ false
not_equal Less h = refl
not_equal Equal h = absurd h
not_equal Greater h = absurd h

none_behind : (p : Path) (t : Flat) → T (below_all path_cmp p t) → at t p ≡ None
none_behind p [] h = refl
none_behind p (e ∷ t) h = ap (λ b. cond b (Some e.1) (at t p)) (sym (path_ties p e.0) ∙ not_equal (path_cmp p e.0) (first _ _ h)) ∙ none_behind p t (second _ _ h)

own_rest : (p r : Path) → after p (p ++ r) ≡ Some r
own_rest p r = ap (λ (q : Path). after q (p ++ r)) (sym (append-nil p)) ∙ after_split p [] r

put_length : (p : Path) (es t : Flat) → T (is_sorted path_cmp es) → T (is_sorted path_cmp t) → ((q : Path) → at t (p ++ q) ≡ None) → length (put_all p es t) ≡ length es + length t
put_length p [] t h g n = omega arith
put_length p (e ∷ es) t h g n =
    let absent : find path_cmp (p ++ e.0) (put_all p es t) ≡ None =
    find-at (put_all p es t) (p ++ e.0) ∙ at-put_all p es t (p ++ e.0) ∙ (λ i. first_some (at_rest es (own_rest p e.0 i)) (n e.0 i)) ∙ ap (λ o. first_some o None) (none_behind e.0 es (first _ _ h)) in
    omega (arith, length-put path_cmp path_cmp-total (p ++ e.0) e.1 (put_all p es t) (sorted-put_all p es t g), ap (λ o. cond (is_some o) (length (put_all p es t)) (length (put_all p es t) + 1)) absent, put_length p es t (second _ _ h) g n)

module _ (S : List Object) (st : IsStore S) where
  rests_sorted : (f : Found) → is_held S (Held f) ≡ true → T (is_sorted path_cmp (rests (node S f)))
  rests_sorted f h = by (node S f) (node_is S f st (first_so (has_child S f.mode f.name.0) (is_name f.name.0) h) (second_so (has_child S f.mode f.name.0) (is_name f.name.0) h))
    where
      by : (x : FlatNode) → IsNode x → T (is_sorted path_cmp (rests x))
      by (LeafNode y) n = tt
      by (TreeNode t) n = n.sorted

  -- no item stands below another
  abbrev AreApart : Items → Type 0
  AreApart [] = Unit
  AreApart (e ∷ es) = ((q : Path) → at (tree_of S es) (e.0 ++ q) ≡ None) × AreApart es

  none_cons : (c : Bytes) (xs ys : Items) (q : Path) → at (tree_of S xs) q ≡ None → at (tree_of S ys) (c ∷ q) ≡ None → at (tree_of S (items_behind c xs ++ ys)) (c ∷ q) ≡ None
  none_cons c xs ys q h g =
      tree_cons S c xs ys c q
      ∙ ap (λ b. cond b (first_some (at (tree_of S xs) q) (at (tree_of S ys) (c ∷ q))) (at (tree_of S ys) (c ∷ q))) (same_bytes-self c)
      ∙ (λ i. first_some (h i) (g i))

  apart_behind : (c : Bytes) (xs ys : Items) → AreApart xs → AreApart ys → ((q : Path) → at (tree_of S ys) (c ∷ q) ≡ None) → AreApart (items_behind c xs ++ ys)
  apart_behind c [] ys h g n = g
  apart_behind c (x ∷ xs) ys h g n = (λ q. none_cons c xs ys (x.0 ++ q) (h.0 q) (n (x.0 ++ q)), apart_behind c xs ys h.1 g n)

  none_beyond : (c : Bytes) (r : Forest) → Rattle.stage_nodes.specs.Forests.Beyond c r → Sound (is_held S) r → (q : Path) → at (tree_of S (items r)) (c ∷ q) ≡ None
  none_beyond c r b s q = tree_leaf S r (c ∷ q) (sound_any (is_held S) r s) ∙ beyond_none S c r q b

  apart_items : (F : Forest) → Sound (is_held S) F → AreApart (items F)
  apart_items Nil s = tt
  apart_items (Bin k c x l r) s = apart_behind c (items_at x (items l)) (items r) (by x (apart_items l s.2)) (apart_items r s.3) (none_beyond c r s.1 s.3)
    where
      by : (x : Content) → AreApart (items l) → AreApart (items_at x (items l))
      by (Held f) h = (λ q. refl, tt)
      by Open h = h

  length_behind : (c : Bytes) (xs ys : Items) → AreApart xs → AreHeld S xs → ((q : Path) → at (tree_of S ys) (c ∷ q) ≡ None) → length (tree_of S (items_behind c xs ++ ys)) ≡ length (tree_of S xs) + length (tree_of S ys)
  length_behind c [] ys h a n = omega arith
  length_behind c (x ∷ xs) ys h a n =
      omega (
        arith,
        put_length (c ∷ x.0) (rests (node S x.1)) (tree_of S (items_behind c xs ++ ys)) (rests_sorted x.1 a.0) (tree_sorted S (items_behind c xs ++ ys)) (λ q. none_cons c xs ys (x.0 ++ q) (h.0 q) (n (x.0 ++ q))),
        put_length x.0 (rests (node S x.1)) (tree_of S xs) (rests_sorted x.1 a.0) (tree_sorted S xs) h.0,
        length_behind c xs ys h.1 a.1 n,
      )

  items_length : (F : Forest) → Sound (is_held S) F → length (tree_of S (items F)) ≡ files S F
  items_length Nil s = refl
  items_length (Bin k c x l r) s =
      omega (
        arith,
        length_behind c (items_at x (items l)) (items r) (apart x (apart_items l s.2)) (held x s.0.content (sound_held S l s.2)) (none_beyond c r s.1 s.3),
        here x s.0.content (items_length l s.2),
        items_length r s.3,
      )
    where
      apart : (x : Content) → AreApart (items l) → AreApart (items_at x (items l))
      apart (Held f) h = (λ q. refl, tt)
      apart Open h = h

      held : (x : Content) → is_held S x ≡ true → AreHeld S (items l) → AreHeld S (items_at x (items l))
      held (Held f) e h = (e, tt)
      held Open e h = h

      here : (x : Content) → is_held S x ≡ true → length (tree_of S (items l)) ≡ files S l → length (tree_of S (items_at x (items l))) ≡ content_files S x (files S l)
      here (Held f) e h = omega (arith, put_length [] (rests (node S f)) [] (rests_sorted f e) tt (λ q. refl))
      here Open e h = h

  -- the files of the tree that a forest stands for
  pub length_files : (F : Forest) → Sound (is_held S) F → (t : Flat) → IsTree t → ((p : Path) → leaf_in S F p ≡ at t p) → length t ≡ files S F
  length_files F s t tree h = ap length (same_flat t (tree_of S (items F)) tree.sorted (tree_sorted S (items F)) (λ p. sym (h p) ∙ sym (tree_leaf S F p (sound_any (is_held S) F s)))) ∙ items_length F s

-- ---- a forest without one node

module _ (S : List Object) where
  number_apart : (k i : ℕ) → one (k == i) ≡ 0 → (i == k) ≡ false
  number_apart k i h = grind (arith, nat_tests)

  pub but_none : (k : ℕ) (F : Forest) → count k F ≡ 0 → files_but S (Some k) F ≡ files S F
  but_none k Nil h = refl
  but_none k (Bin i c x l r) h = (λ j. cond (number_apart k i (omega (arith, h)) j) 0 (content_files S x (but_none k l (omega (arith, h)) j)) + but_none k r (omega (arith, h)) j)

  abbrev pub files_up : List Frame → ℕ
  files_up [] = 0
  files_up (Below k c r ∷ up) = files S r + files_up up
  files_up (Behind k c x l ∷ up) = content_files S x (files S l) + files_up up

  pub files_plug : (up : List Frame) (X : Forest) → files S (plug up X) ≡ files_up up + files S X
  files_plug [] X = omega arith
  files_plug (Below k c r ∷ up) X = omega (arith, files_plug up (Bin k c Open X r))
  files_plug (Behind k c x l ∷ up) X = omega (arith, files_plug up (Bin k c x l X))

  pub but_plug : (k : ℕ) (up : List Frame) (X : Forest) → count_up k up ≡ 0 → files_but S (Some k) (plug up X) ≡ files_up up + files_but S (Some k) X
  but_plug k [] X h = omega arith
  but_plug k (Below i c r ∷ up) X h =
      omega (arith, but_plug k up (Bin i c Open X r) (omega (arith, h)), ap (λ b. cond b 0 (files_but S (Some k) X)) (number_apart k i (omega (arith, h))), but_none k r (omega (arith, h)))
  but_plug k (Behind i c x l ∷ up) X h =
      omega (arith, but_plug k up (Bin i c x l X) (omega (arith, h)), ap (λ b. cond b 0 (content_files S x (files_but S (Some k) l))) (number_apart k i (omega (arith, h))), ap (content_files S x) (but_none k l (omega (arith, h))))

  pub but_few : (o : Option ℕ) (F : Forest) → files_but S o F ≤ files S F
  but_few o Nil = omega arith
  but_few o (Bin k c x l r) = omega (arith, by (is_number o k), content x (but_few o l), but_few o r)
    where
      by : (b : Bool) → cond b 0 (content_files S x (files_but S o l)) ≤ content_files S x (files_but S o l)
      by true = omega arith
      by false = omega arith

      content : (x : Content) → files_but S o l ≤ files S l → content_files S x (files_but S o l) ≤ content_files S x (files S l)
      content (Held f) h = omega arith
      content Open h = h

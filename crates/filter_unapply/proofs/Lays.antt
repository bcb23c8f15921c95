-- What a table's list takes apart is what its filter lays.
use Rattle.git_objects.proofs.Levels.{ArePaths}
use Rattle.std.proofs.Common.{◌≡◌, ◌⊎◌, inl, inr, Bool, true, false, cond, not, ◌&&◌, T, List, [], ◌∷◌, Option, Some, None, refl, sym, ap, subst, ◌∙◌, true≢false}
use Rattle.std.proofs.lemmas.Option.{none-some}
use Rattle.std.specs.Prelude.{filter, is_none, is_some}
use Rattle.std.specs.Cmp.{first_so, second_so, tied_itself}
use Rattle.std.specs.Option.{option_and_then, option_or}
use Rattle.std.specs.declared.cmp.Ordering.{Ordering}
use Rattle.std.specs.declared.cmp.Ordering.TheVariants.{Less, Equal, Greater}
use Rattle.std.specs.Ordering.{is_lt, ordering_then}
use Rattle.std.specs.FinMap.{is_sorted}
use Rattle.git_objects.specs.Lists.{Each}
use Rattle.git_objects.specs.Paths.{Bytes, Path, comparable, is_path, path_cmp, same_path}
use Rattle.git_objects.specs.Trees.{Leaf, Flat, IsTree, at}
use Rattle.git_objects.specs.declared.name.Name.{Name}
use Rattle.git_objects.proofs.Order.{path_cmp-total, path_decides}
use Rattle.git_objects.proofs.Pointwise.{all_at, from-T}
use Rattle.object_store.specs.Objects.{Object, IsStore}
use Rattle.object_store.specs.Unfolding.{flat}
use Rattle.decision_lists.specs.Cells.{cells, origin as cell_origin}
use Rattle.decision_lists.specs.Entries.{Entry, run}
use Rattle.decision_lists.proofs.Cells.{cell-of, origin-none, origin-some, run-of}
use Rattle.decision_lists.proofs.Locating.{has-path}
use Rattle.decision_lists.proofs.Valid.{full-path, valid-path}
use Rattle.filter_text.specs.Filters.{Filter, has_paths}
use Rattle.filter_routes.specs.Images.{image}
use Rattle.filter_routes.specs.Lenses.{IsLens}
use Rattle.filter_routes.specs.Lists.{IsListOf}
use Rattle.filter_routes.specs.Origins.{lens_of, origin}
use Rattle.filter_routes.specs.Soundness.{IsSound}
use Rattle.filter_routes.proofs.Carried.{same_on_paths}
use Rattle.filter_routes.proofs.Inverse.{the_law as lens_law}
use Rattle.filter_routes.proofs.TreeEntries.{each_entry}
use Rattle.filter_unapply.specs.Blocks.{IsLeast, pair_cmp}
use Rattle.filter_unapply.specs.Laying.{hidden, pre, first_path, first_lost, is_other, is_blocked, first_blocked, Blocked, LaidTree, NotHeld, laid_from, laid_through}
use Rattle.filter_unapply.specs.Parts.{IsBlockIn, any_at, with_parts}
use Rattle.filter_unapply.specs.Routed.{IsOfBoth, forward, taken, unplaced}
use Rattle.filter_unapply.specs.Sifted.{sifted}
use Rattle.filter_unapply.specs.Stored.{first_of}
use Rattle.filter_unapply.specs.StoredLeaves.{HasLeaves}
use Rattle.filter_unapply.proofs.Cellwise.{forward-is}
use Rattle.filter_unapply.proofs.Firsts.{blocked-some, first-at, first-passes}
use Rattle.filter_unapply.proofs.HandTrees.{IsKnown}
use Rattle.filter_unapply.proofs.HiddenLeaves.{at-hidden}
use Rattle.filter_unapply.proofs.Lawful.{at-image, at-kept, free, pre-paths, pre-sorted}
use Rattle.filter_unapply.proofs.Fittings.{sifted-within}
use Rattle.filter_unapply.proofs.PartLists.{or-parts}
use Rattle.filter_unapply.proofs.Told.{is_tree}
use Rattle.filter_unapply.proofs.Somes.{some-of}

-- ---- lists

filter-same : (g h : Path × Leaf → Bool) (t : Flat) → Each (λ e. g e ≡ h e) t → filter g t ≡ filter h t
filter-same g h [] is = refl
filter-same g h (e ∷ t) is = λ i. cond (is.0 i) (e ∷ filter-same g h t is.1 i) (filter-same g h t is.1 i)

first-filter : (g : Path → Bool) (t : Flat) → first_of (filter (λ e. g e.0) t) ≡ first_path g t
first-filter g [] = refl
first-filter g (e ∷ t) = by (g e.0) (first-filter g t)
  where
    by : (b : Bool) → first_of (filter (λ e. g e.0) t) ≡ first_path g t → first_of (cond b (e ∷ filter (λ e. g e.0) t) (filter (λ e. g e.0) t)) ≡ cond b (Some e.0) (first_path g t)
    by true r = refl
    by false r = r

is-some : {A : Type 0} (o : Option A) (x : A) → o ≡ Some x → is_some o ≡ true
is-some o x e = ap is_some e

none-or : {A : Type 0} (o : Option A) → option_or None o ≡ o
none-or o = refl

module _ (f : Filter) (v : has_paths f ≡ true) (s : IsSound f) (es : List Entry) (l : IsListOf f es) where
  is : IsLens (lens_of f)
  is = lens_law.lens f v s

  run-image : (p : Path) → is_path p ≡ true → run None es p ≡ image f p
  run-image p h = l.gives p (full-path p h)

  forward-image : (p : Path) → is_path p ≡ true → forward (cells [] es) p ≡ image f p
  forward-image p h = forward-is es [] p refl ∙ run-image p h

  -- the list finds an origin exactly where there is one
  origin-there : (q : Path) → is_path q ≡ true → is_none (cell_origin (cells [] es) q) ≡ is_none (origin f q)
  origin-there q h = by (cell_origin (cells [] es) q) refl (origin f q) refl
    where
      by : (o : Option Path) → cell_origin (cells [] es) q ≡ o → (u : Option Path) → origin f q ≡ u → is_none (cell_origin (cells [] es) q) ≡ is_none (origin f q)
      by None i None j = ap is_none (i ∙ sym j)
      by (Some p) i (Some r) j = ap is_none i ∙ sym (ap is_none j)
      by (Some p) i None j =
          let g = origin-some (cells [] es) q p i in
          let w = has-path es [] p q l.fine (valid-path q h) g in
          absurd (none-some p (sym j ∙ is.image_origin p q w (sym (run-image p w) ∙ run-of es [] p q g)))
      by None i (Some r) j =
          let w = is.origin_path r q h j in
          absurd (origin-none (cells [] es) q r i (cell-of es [] r q tt (run-image r w ∙ is.origin_image r q h j)))

  -- what a list's leaves are known as
  pub both-known : (t n : Flat) (p : Path) (x : Leaf) → is_path p ≡ true → IsOfBoth es t n p x → IsKnown f t n p x
  both-known t n p x h (inl e) = inl e
  both-known t n p x h (inr (inl e)) = inr (inl e)
  both-known t n p x h (inr (inr e)) = by (image f p) refl (sym (ap (option_and_then (at n)) (forward-image p h)) ∙ e)
    where
      by : (o : Option Path) → image f p ≡ o → option_and_then (at n) (image f p) ≡ Some x → IsKnown f t n p x
      by None i g = absurd (none-some x (sym (ap (option_and_then (at n)) i) ∙ g))
      by (Some q) i g = inr (inr (q, is.image_origin p q h i, sym (ap (option_and_then (at n)) i) ∙ g))

  module _ (t n : Flat) (ht : IsTree t) (hn : IsTree n) where
    path-in : (u : Flat) → ArePaths u → (p : Path) (x : Leaf) → at u p ≡ Some x → is_path p ≡ true
    path-in u h p x e = from-T (is_path p) (all_at is_path u p x h e)

    pub first-lost : first_of (unplaced (cells [] es) n) ≡ first_lost (lens_of f) n
    first-lost =
        ap first_of (filter-same (λ e. is_none (cell_origin (cells [] es) e.0)) (λ e. is_none (origin f e.0)) n
        (each_entry (λ e. is_none (cell_origin (cells [] es) e.0) ≡ is_none (origin f e.0)) n hn.sorted (λ d e. origin-there d.0 (path-in n hn.paths d.0 d.1 e))))
        ∙ first-filter (λ q. is_none (origin f q)) n

    pub not-held : (u : Flat) (q : Path) → u ≡ unplaced (cells [] es) n → Some q ≡ first_of u → laid_through (lens_of f) t n ≡ NotHeld q
    not-held u q i e = ap (λ o. laid_from o (first_blocked (lens_of f) (pre (lens_of f) t n)) (pre (lens_of f) t n)) (sym first-lost ∙ ap first_of (sym i) ∙ sym e)

    kept-same : sifted false es t ≡ hidden (lens_of f) t
    kept-same =
        filter-same (λ e. is_none (run None es e.0)) (λ e. is_none (image f e.0)) t
        (each_entry (λ e. is_none (run None es e.0) ≡ is_none (image f e.0)) t ht.sorted (λ d e. ap is_none (run-image d.0 (path-in t ht.paths d.0 d.1 e))))

    at-sift : (p : Path) → at (sifted false es t) p ≡ cond (is_none (image f p)) (at t p) None
    at-sift p = ap (λ (u : Flat). at u p) kept-same ∙ at-hidden (lens_of f) t p

    -- a path that is kept takes nothing from what is pushed
    pub kept-alone : (p : Path) (x : Leaf) → at (sifted false es t) p ≡ Some x → taken (cells [] es) n p ≡ None
    kept-alone p x e = by (image f p) refl (sym (at-sift p) ∙ e)
      where
        path : is_path p ≡ true
        path = elim (is_path p) as (λ b. is_path p ≡ b → b ≡ true) [
          | true ↦ λ k. refl
          | false ↦ λ k. absurd (none-at (at t p) (sym (at-sift p) ∙ e) k)
        ] refl
          where
            none-at : (o : Option Leaf) → cond (is_none (image f p)) (at t p) None ≡ Some x → is_path p ≡ false → ⊥
            none-at o g k = there (is_none (image f p)) g
              where
                there : (b : Bool) → cond b (at t p) None ≡ Some x → ⊥
                there true m = true≢false (sym (path-in t ht.paths p x m) ∙ k)
                there false m = none-some x m

        by : (o : Option Path) → image f p ≡ o → cond (is_none (image f p)) (at t p) None ≡ Some x → taken (cells [] es) n p ≡ None
        by None i g = ap (option_and_then (at n)) (forward-image p path ∙ i)
        by (Some q) i g = absurd (none-some x (sym (ap (λ o. cond (is_none o) (at t p) None) i) ∙ g))

    abbrev u : Flat
    u = pre (lens_of f) t n

    -- the tree and the parts together are what is laid
    whole : (p : Path) → is_path p ≡ true → option_or (at (sifted false es t) p) (taken (cells [] es) n p) ≡ at u p
    whole p h = (λ i. option_or (at-sift p i) (option_and_then (at n) (forward-image p h i))) ∙ by (image f p) refl
      where
        by : (o : Option Path) → image f p ≡ o → option_or (cond (is_none (image f p)) (at t p) None) (option_and_then (at n) (image f p)) ≡ at u p
        by None i =
            ap (λ o. option_or (cond (is_none o) (at t p) None) (option_and_then (at n) o)) i
            ∙ right (at t p) ∙ sym (at-kept (lens_of f) is t n hn.paths p h i)
          where
            right : (o : Option Leaf) → option_or o None ≡ o
            right None = refl
            right (Some x) = refl
        by (Some q) i = ap (λ o. option_or (cond (is_none o) (at t p) None) (option_and_then (at n) o)) i ∙ sym (at-image (lens_of f) is t n hn.paths p q h i)

    taken-image : (p : Path) → is_path p ≡ true → is_some (taken (cells [] es) n p) ≡ true → is_some (image f p) ≡ true
    taken-image p h e = by (image f p) (sym (ap (λ o. is_some (option_and_then (at n) o)) (forward-image p h)) ∙ e)
      where
        by : (o : Option Path) → is_some (option_and_then (at n) o) ≡ true → is_some o ≡ true
        by None g = absurd (true≢false (sym g))
        by (Some q) g = refl

    image-taken : (p : Path) → is_path p ≡ true → is_some (at u p) ≡ true → is_some (image f p) ≡ true → is_some (taken (cells [] es) n p) ≡ true
    image-taken p h e k =
        let q = some-of (image f p) k in
        ap (λ o. is_some (option_and_then (at n) o)) (forward-image p h ∙ q.1) ∙ ap is_some (sym (at-image (lens_of f) is t n hn.paths p q.0 h q.1)) ∙ e

    module _ (S : List Object) (k : Name) (ns : List Name) (hk : (p : Path) → at (flat S k.0) p ≡ at (sifted false es t) p) (hp : (p : Path) → any_at S ns p ≡ taken (cells [] es) n p) where
      parts-whole : (p : Path) → is_path p ≡ true → with_parts S k ns p ≡ at u p
      parts-whole p h = (λ i. option_or (hk p i) (hp p i)) ∙ whole p h

      pub laid-tree-is : (R : List Object) → IsStore R → (m : Bytes) → HasLeaves R m (with_parts S k ns) → None ≡ first_of (unplaced (cells [] es) n) →
          (laid_through (lens_of f) t n ≡ LaidTree u) × (flat R m ≡ u)
      laid-tree-is R r m h e =
          let g = is_tree R r m h.held in
          let same : flat R m ≡ u = same_on_paths (flat R m) u g.sorted (pre-sorted (lens_of f) is t n ht.sorted) g.paths (pre-paths (lens_of f) is t n ht.paths hn.paths) (λ p v. h.leaves p ∙ parts-whole p v) in
          ((λ i. laid_from ((sym first-lost ∙ sym e) i) (free (lens_of f) u (subst IsTree same g) i) u), same)

      -- a block of the parts is a block of what is laid
      block-test : (p q : Path) → is_path p ≡ true → is_path q ≡ true → IsBlockIn S k ns p q → (is_some (at u p) ≡ true) × (is_some (image f p) ≡ true) × (is_some (at u q) ≡ true) × (is_other p q ≡ true)
      block-test p q vp vq b =
          let i : is_some (taken (cells [] es) n p) ≡ true = sym (ap is_some (hp p)) ∙ b.path in (
            ap is_some (sym (parts-whole p vp)) ∙ right (at (flat S k.0) p) (any_at S ns p) b.path,
            taken-image p vp i,
            ap is_some (sym (parts-whole q vq)) ∙ b.by,
            (λ j. b.comparable j && not (differs p q b.other j)),
          )
        where
          right : (x y : Option Leaf) → is_some y ≡ true → is_some (option_or x y) ≡ true
          right None y e = e
          right (Some x) y e = refl

          differs : (p q : Path) → (p ≡ q → ⊥) → same_path p q ≡ false
          differs p q g = elim (same_path p q) as (λ b. same_path p q ≡ b → b ≡ false) [ true ↦ λ j. absurd (g ((path_decides p q).0 j)) | false ↦ λ j. refl ] refl

      test-block : (p q : Path) → is_path p ≡ true → is_path q ≡ true → is_some (at u p) ≡ true → is_some (image f p) ≡ true → is_some (at u q) ≡ true → is_other p q ≡ true → IsBlockIn S k ns p q
      test-block p q vp vq a i b o = record {
        path = ap is_some (hp p) ∙ image-taken p vp a i;
        by = ap is_some (parts-whole q vq) ∙ b;
        comparable = first_so (comparable p q) (not (same_path p q)) o;
        other = λ e. true≢false (sym (second_so (comparable p q) (not (same_path p q)) o) ∙ ap not ((path_decides p q).1 e));
      }

      u-path : (p : Path) (x : Leaf) → at u p ≡ Some x → is_path p ≡ true
      u-path p x e = path-in u (pre-paths (lens_of f) is t n ht.paths hn.paths) p x e

      pub blocked-is : (p q : Path) → is_path p ≡ true → is_path q ≡ true → None ≡ first_of (unplaced (cells [] es) n) → IsLeast (IsBlockIn S k ns) (Some (p, q)) → laid_through (lens_of f) t n ≡ Blocked p q
      blocked-is p q vp vq e least =
          let b = block-test p q vp vq least.0 in
          let x = some-of (at u p) b.0 in
          let y = some-of (at u q) b.2 in
          let other : is_some (first_path (is_other p) u) ≡ true = ap is_some second in
          let blocks : is_blocked (lens_of f) u p ≡ true = (λ j. b.1 j && other j) in
          (λ i. laid_from ((sym first-lost ∙ sym e) i) (blocked-some (lens_of f) u p q (first-at (is_blocked (lens_of f) u) u p x.0 sorted firsts x.1 blocks) second i) u)
        where
          sorted : T (is_sorted path_cmp u)
          sorted = pre-sorted (lens_of f) is t n ht.sorted

          not-less-first : (r s : Path) → is_lt (pair_cmp (r, s) (p, q)) ≡ false → is_lt (path_cmp r p) ≡ false
          not-less-first r s g = by (path_cmp r p) g
            where
              by : (o : Ordering) → is_lt (ordering_then o (ordering_then (path_cmp s q) Equal)) ≡ false → is_lt o ≡ false
              by Less h = absurd (true≢false h)
              by Equal h = refl
              by Greater h = refl

          not-less-second : (s : Path) → is_lt (pair_cmp (p, s) (p, q)) ≡ false → is_lt (path_cmp s q) ≡ false
          not-less-second s g = by (path_cmp s q) (ap (λ o. is_lt (ordering_then o (ordering_then (path_cmp s q) Equal))) (sym (tied_itself path_cmp-total p)) ∙ g)
            where
              by : (o : Ordering) → is_lt (ordering_then o Equal) ≡ false → is_lt o ≡ false
              by Less h = absurd (true≢false h)
              by Equal h = refl
              by Greater h = refl

          second : first_path (is_other p) u ≡ Some q
          second =
              let b = block-test p q vp vq least.0 in
              let y = some-of (at u q) b.2 in
              first-at (is_other p) u q y.0 sorted
              (each_entry (λ d. is_other p d.0 ≡ true → is_lt (path_cmp d.0 q) ≡ false) u sorted
              (λ d g o. not-less-second d.0 (least.1 p d.0 (test-block p d.0 vp (u-path d.0 d.1 g) b.0 b.1 (ap is_some g) o))))
              y.1 b.3

          firsts : Each (λ d. is_blocked (lens_of f) u d.0 ≡ true → is_lt (path_cmp d.0 p) ≡ false) u
          firsts = each_entry (λ d. is_blocked (lens_of f) u d.0 ≡ true → is_lt (path_cmp d.0 p) ≡ false) u sorted at-entry
            where
              at-entry : (d : Path × Leaf) → at u d.0 ≡ Some d.1 → is_blocked (lens_of f) u d.0 ≡ true → is_lt (path_cmp d.0 p) ≡ false
              at-entry d g o =
                  let i = first_so (is_some (image f d.0)) (is_some (first_path (is_other d.0) u)) o in
                  let r = some-of (first_path (is_other d.0) u) (second_so (is_some (image f d.0)) (is_some (first_path (is_other d.0) u)) o) in
                  let w = first-passes (is_other d.0) u r.0 r.1 in
                  let z = some-of (at u r.0) w.0 in
                  not-less-first d.0 r.0 (least.1 d.0 r.0 (test-block d.0 r.0 (u-path d.0 d.1 g) (u-path r.0 z.0 z.1) (ap is_some g) i w.0 w.1))

    -- what the tree and the parts have is known
    pub among-both : (S : List Object) (k : Name) (ns : List Name) → ((p : Path) → at (flat S k.0) p ≡ at (sifted false es t) p) → ((p : Path) → any_at S ns p ≡ taken (cells [] es) n p) →
        (p : Path) (x : Leaf) → with_parts S k ns p ≡ Some x → IsOfBoth es t n p x
    among-both S k ns hk hp p x e = by (or-parts (at (flat S k.0) p) (any_at S ns p) x e)
      where
        by : (at (flat S k.0) p ≡ Some x) ⊎ (any_at S ns p ≡ Some x) → IsOfBoth es t n p x
        by (inl g) = inl (sifted-within false es t p x (sym (hk p) ∙ g))
        by (inr g) = inr (inr (sym (hp p) ∙ g))

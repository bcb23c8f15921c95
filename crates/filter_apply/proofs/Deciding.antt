-- Which entry decides for a path, and what its part is.
use Rattle.std.proofs.Common.{◌≡◌, ℕ, zero, suc, ◌<◌, Bool, true, false, cond, not, ◌&&◌, T, List, [], ◌∷◌, ◌++◌, take, filter, slice_get, Option, Some, None, refl, sym, ap, subst, ◌∙◌, arith, true≢false, append-nil}
use Rattle.std.specs.Bool.{beq}
use Rattle.std.specs.Option.{is_some}
use Rattle.git_objects.specs.Paths.{Path, is_path}
use Rattle.git_objects.specs.Trees.{Flat, IsTree, Node, LeafNode, TreeNode, rests, standing, if_full}
use Rattle.git_objects.specs.Entries.{is_dir}
use Rattle.git_objects.proofs.Pointwise.{all_at}
use Rattle.object_store.specs.Objects.{Object, IsStore, has_child}
use Rattle.object_store.specs.Unfolding.{flat}
use Rattle.object_store.proofs.Unfolding.{flat_good}
use Rattle.path_trees.specs.Standing.{node}
use Rattle.path_trees.specs.declared.found.Found.{Found}
use Rattle.decision_lists.specs.Fronts.{strip, proper, whole}
use Rattle.decision_lists.specs.Entries.{base, cone_of, Entry}
use Rattle.decision_lists.specs.Operations.{covers}
use Rattle.decision_lists.specs.Cells.{free_in}
use Rattle.decision_lists.specs.Lists.{Thin}
use Rattle.decision_lists.proofs.Strip.{strip-self}
use Rattle.decision_lists.proofs.Clash.{below-has}
use Rattle.filter_routes.proofs.TreeEntries.{each_entry}
use Rattle.filter_apply.specs.Hands.{IsPartObject}
use Rattle.filter_apply.specs.Parts.{base_in, decides, part_in, rests_of}
use Rattle.filter_apply.proofs.Cones.{in_cone, filter-each, filter-none, thin_apart}
use Rattle.filter_apply.proofs.Places.{dir_node, leaf_node, dir_held, standing-root}

-- ---- the entry that decides

-- it has the path, and no entry before it does
pub decides-is : (es : List Entry) (i : ℕ) (e : Entry) (p : Path) → slice_get es i ≡ Some e → decides es i p ≡ (in_cone e.0 p && free_in (take i es) p)
decides-is [] i e p k = cc
decides-is (d ∷ es) zero e p k =
    let same : d ≡ e = cc in
    ap (λ (x : Entry). in_cone x.0 p) same ∙ sym (and-true (in_cone e.0 p))
  where
    and-true : (b : Bool) → (b && true) ≡ b
    and-true true = refl
    and-true false = refl
decides-is (d ∷ es) (suc i) e p k =
    ap (λ b. not (in_cone d.0 p) && b) (decides-is es i e p k)
    ∙ swap (not (in_cone d.0 p)) (in_cone e.0 p) (free_in (take i es) p)
  where
    swap : (a b c : Bool) → (a && (b && c)) ≡ (b && (a && c))
    swap true b c = refl
    swap false true c = refl
    swap false false c = refl

-- ---- the part of an entry

full : (p : Path) → T (is_path p) → proper (Some p) ≡ Some p
full [] v = absurd v
full (c ∷ p) v = refl

not_whole : (p : Path) → T (is_path p) → whole (Some p) ≡ None
not_whole [] v = absurd v
not_whole (c ∷ p) v = refl

module _ (es : List Entry) (i : ℕ) (b : Bool) (s : Path) (a : Option Path) (get : slice_get es i ≡ Some (cone_of b s, a)) where
  base-is : base_in (slice_get es i) ≡ s
  base-is = ap base_in get ∙ base-of b s
    where
      base-of : (b : Bool) (s : Path) → base (cone_of b s) ≡ s
      base-of true s = refl
      base-of false s = refl

  abbrev pub test : Path → Bool
  test r = decides es i (base_in (slice_get es i) ++ r)

  test-is : (r : Path) → test r ≡ (in_cone (cone_of b s) (s ++ r) && free_in (take i es) (s ++ r))
  test-is r = ap (λ q. decides es i (q ++ r)) base-is ∙ decides-is es i (cone_of b s, a) (s ++ r) get

  module _ (S : List Object) (f : Found) (store : IsStore S) (held : has_child S f.mode f.name.0 ≡ true) where
    abbrev pub u : Flat
    u = flat S f.name.0

    abbrev part : Flat
    part = part_in es i (rests (node S f))

    u-tree : is_dir f.mode ≡ true → IsTree u
    u-tree d = (flat_good S store f.name.0 (dir_held S f.mode f.name.0 d held)).tree

    of_node : (n : Node) → node S f ≡ n → part ≡ filter (λ e. test e.0) (rests n)
    of_node n e = ap (λ (m : Node). part_in es i (rests m)) e

    of_dir : is_dir f.mode ≡ true → part ≡ filter (λ e. test e.0) u
    of_dir d = of_node (TreeNode u) (dir_node S f.mode f.name.0 d)

    -- what stands there is not of the cone's kind
    pub wrong_kind : is_dir f.mode ≡ b → [] ≡ part
    wrong_kind k = by b k (λ r. test-is r)
      where
        by : (v : Bool) → is_dir f.mode ≡ v → ((r : Path) → test r ≡ (in_cone (cone_of v s) (s ++ r) && free_in (take i es) (s ++ r))) → [] ≡ part
        by true d is = sym (of_dir d ∙ filter-none test u (each_entry (λ e. test e.0 ≡ false) u (u-tree d).sorted
            (λ e g. is e.0 ∙ ap (λ o. is_some (whole o) && free_in (take i es) (s ++ e.0)) (strip-self s e.0) ∙ ap (λ o. is_some o && free_in (take i es) (s ++ e.0)) (not_whole e.0 (all_at is_path u e.0 e.1 (u-tree d).paths g)))))
        by false d is = let x = leaf_node S f.mode f.name.0 d in
            sym (of_node (LeafNode x.0) x.1 ∙ filter-none test (([], x.0) ∷ []) (is [] ∙ ap (λ o. is_some (proper o) && free_in (take i es) (s ++ [])) (strip-self s []), tt))

    -- a leaf for a single path
    pub right_leaf : is_dir f.mode ≡ false → b ≡ true → Thin [] es → rests (node S f) ≡ part
    right_leaf d k thin =
        let x = leaf_node S f.mode f.name.0 d in
        ap rests x.1 ∙ sym (of_node (LeafNode x.0) x.1 ∙ ap (λ v. cond v (([], x.0) ∷ []) []) (decided))
      where
        free_before : (j : ℕ) → (ds : List Entry) → ((m : ℕ) (e : Entry) → slice_get ds m ≡ Some e → in_cone e.0 s ≡ false) → free_in ds s ≡ true
        free_before j [] g = refl
        free_before j (e ∷ ds) g = λ l. not (g 0 e refl l) && free_before j ds (λ m. g (suc m)) l

        within : (m n : ℕ) (ds : List Entry) (e : Entry) → slice_get (take n ds) m ≡ Some e → (m < n) × (slice_get ds m ≡ Some e)
        within m zero ds e g = cc
        within m (suc n) [] e g = cc
        within zero (suc n) (d ∷ ds) e g = (omega arith, g)
        within (suc m) (suc n) (d ∷ ds) e g = let r = within m n ds e g in (omega (arith, r.0), r.1)

        none_before : (m : ℕ) (e : Entry) → slice_get (take i es) m ≡ Some e → in_cone e.0 s ≡ false
        none_before m e g =
            let r = within m i es e g in
            ap (λ (v : Bool). covers e.0 (cone_of v s)) (sym k) ∙ thin_apart [] es m i e (cone_of b s, a) thin r.1 get r.0

        decided : test [] ≡ true
        decided =
            test-is []
            ∙ ap (λ q. in_cone (cone_of b s) q && free_in (take i es) q) (append-nil s)
            ∙ ap (λ v. in_cone (cone_of b s) s && v) (free_before i (take i es) none_before)
            ∙ ap (λ (v : Bool). in_cone (cone_of v s) s && true) k
            ∙ ap (λ o. is_some (whole o) && true) (ap (strip s) (sym (append-nil s)) ∙ strip-self s [])

    -- a directory for all below a path
    pub right_tree : is_dir f.mode ≡ true → b ≡ false → filter (λ e. free_in (take i es) (base_in (slice_get es i) ++ e.0)) u ≡ part
    right_tree d k = sym (of_dir d ∙ filter-each test (λ r. free_in (take i es) (base_in (slice_get es i) ++ r)) u (each_entry (λ e. test e.0 ≡ free_in (take i es) (base_in (slice_get es i) ++ e.0)) u (u-tree d).sorted
        (λ e g.
        test-is e.0
        ∙ ap (λ (v : Bool). in_cone (cone_of v s) (s ++ e.0) && free_in (take i es) (s ++ e.0)) k
        ∙ ap (λ o. is_some o && free_in (take i es) (s ++ e.0)) (below-has s e.0 (full e.0 (all_at is_path u e.0 e.1 (u-tree d).paths g)))
        ∙ ap (λ q. free_in (take i es) (q ++ e.0)) (sym base-is))))

    -- what is made of the directory is made of what was found
    pub tree_handed : is_dir f.mode ≡ true → (o : Object) → IsPartObject u o → IsPartObject (rests (node S f)) o
    tree_handed d o = subst (λ (n : Node). IsPartObject (rests n) o) (sym (dir_node S f.mode f.name.0 d))

-- a whole tree by the rests of its paths
pub whole_rests : (o : Option Node) (v : Flat) → IsTree v → o ≡ standing v [] → rests_of o ≡ v
whole_rests o v h e = ap rests_of (e ∙ standing-root v h) ∙ by v
  where
    by : (w : Flat) → rests_of (if_full w) ≡ w
    by [] = refl
    by (x ∷ w) = refl

pub same_bool : (a b : Bool) → beq a b ≡ true → a ≡ b
same_bool true true e = refl
same_bool true false e = absurd (true≢false (sym e))
same_bool false true e = absurd (true≢false (sym e))
same_bool false false e = refl

pub other_bool : (a b : Bool) → beq a b ≡ false → a ≡ not b
other_bool true true e = absurd (true≢false e)
other_bool true false e = refl
other_bool false true e = refl
other_bool false false e = absurd (true≢false e)

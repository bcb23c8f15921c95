-- A part of a tree taken from one place to another.
use Rattle.std.proofs.Common.{◌≡◌, Bool, true, false, cond, not, T, List, [], ◌∷◌, ◌++◌, Option, Some, None, length, refl, sym, ap, subst, ◌∙◌, true≢false, append-nil, arith}
use Rattle.std.proofs.lemmas.Bool.{ne_eqb}
use Rattle.std.proofs.lemmas.Option.{none-some}
use Rattle.std.specs.Prelude.{◌==◌, is_some}
use Rattle.std.specs.Cmp.{first_so}
use Rattle.std.specs.Option.{option_and_then}
use Rattle.std.specs.Cmp.Lexicographic.{bytes_decides}
use Rattle.git_objects.specs.Entries.{is_dir}
use Rattle.git_objects.specs.Names.{tree_name}
use Rattle.git_objects.specs.Paths.{Bytes, Path, comparable, is_nil, is_path, same_bytes}
use Rattle.git_objects.specs.Trees.{Leaf, Flat, at, is_leaf, IsTree, put, rests, standing, under}
use Rattle.git_objects.specs.declared.kind.Kind.TheVariants.{Tree}
use Rattle.git_objects.specs.declared.mode.Mode.{Mode}
use Rattle.git_objects.specs.declared.mode.Mode.TheVariants.{File, Exec, Link, Module, Dir}
use Rattle.git_objects.proofs.Maps.{first_some, at_rest, at-put}
use Rattle.git_objects.proofs.Order.{path_decides}
use Rattle.git_objects.proofs.Pointwise.{IsNode, leaf_at, put-tree}
use Rattle.git_objects.proofs.Under.{at-under, at-under_nil}
use Rattle.object_store.specs.Objects.{Object, IsStore, body_of, has, has_child}
use Rattle.object_store.specs.Unfolding.{flat, StandsFor}
use Rattle.object_store.proofs.Unfolding.{unfolding_law}
use Rattle.path_trees.specs.Made.{IsOnWay}
use Rattle.path_trees.specs.Standing.{node}
use Rattle.path_trees.specs.declared.found.Found.{Found}
use Rattle.filter_routes.proofs.Carried.{first_none, nowhere}
use Rattle.decision_lists.specs.Entries.{cone_of, decide, tail}
use Rattle.decision_lists.specs.Fronts.{strip, proper, whole}
use Rattle.decision_lists.specs.Lists.{Solid}
use Rattle.decision_lists.proofs.Strip.{strip-is, strip-self}
use Rattle.filter_unapply.specs.StoredLeaves.{HasLeaves}
use Rattle.filter_unapply.specs.Hands.{IsMadeOf}
use Rattle.filter_unapply.specs.Moved.{IsHeldAt, IsHolding, fits, moved}
use Rattle.filter_unapply.specs.Sifted.{IsFitting}
use Rattle.filter_unapply.specs.Stored.{first_of}
use Rattle.filter_unapply.proofs.MadeTrees.{way-made}
use Rattle.filter_unapply.proofs.Places.{leaf_stands}
use Rattle.filter_unapply.proofs.Sieves.{after-strip, directory_stands}
use Rattle.filter_unapply.proofs.Told.{dir_node, has_directory, is_tree, leaf_node}

-- what stands behind a front, where it is of the kind
abbrev tail-from : Bool → Option Path → Option Path
tail-from true o = whole o
tail-from false o = proper o

pub no-component : {A : Type 0} (p : List A) → true ≡ (length p == 0) → p ≡ []
no-component [] e = refl
no-component (c ∷ p) e = absurd (true≢false (e ∙ ne_eqb (length (c ∷ p)) 0 (λ i. absurd (omega arith))))

-- ---- names

pub empty-name : (S : List Object) (s : IsStore S) (n m : Bytes) → has Tree S n ≡ true → StandsFor S m [] → flat S n ≡ [] → n ≡ m
empty-name S s n m h g e =
    sym (unfolding_law S n s h).named ∙ ap tree_name (e ∙ sym g.map) ∙ (unfolding_law S m s g.held).named

nil-is : (t : Flat) → is_nil t ≡ true → t ≡ []
nil-is [] e = refl
nil-is (d ∷ t) e = absurd (true≢false (sym e))

-- other bytes, another name
pub names-differ : (a b : Bytes) → false ≡ same_bytes a b → a ≡ b → ⊥
names-differ a b e i = true≢false (sym ((bytes_decides a b).1 i) ∙ sym e)

pub full-name : (S : List Object) (s : IsStore S) (n m : Bytes) → has Tree S n ≡ true → StandsFor S m [] → (n ≡ m → ⊥) → is_nil (flat S n) ≡ false
full-name S s n m h g other = elim (is_nil (flat S n)) as (λ b. is_nil (flat S n) ≡ b → b ≡ false) [
  | true ↦ λ k. absurd (other (empty-name S s n m h g (nil-is (flat S n) k)))
  | false ↦ λ k. refl
] refl

-- ---- what stands at an address

module _ (S : List Object) (s : IsStore S) (n : Bytes) (h : has Tree S n ≡ true) (point : Bool) (from : Path)
    (within : (p : Path) (x : Leaf) → at (flat S n) p ≡ Some x → is_some (tail (cone_of point from) p) ≡ true) where
  abbrev u : Flat
  u = flat S n

  rest-of : (b : Bool) (p : Path) → is_some (tail (cone_of b from) p) ≡ true → (r : Path) × (p ≡ from ++ r) × (fits b r ≡ true)
  rest-of true p e = by (strip from p) refl e
    where
      by : (o : Option Path) → strip from p ≡ o → is_some (whole o) ≡ true → (r : Path) × (p ≡ from ++ r) × (fits true r ≡ true)
      by None k g = absurd (true≢false (sym g))
      by (Some []) k g = ([], strip-is from p [] k, refl)
      by (Some (c ∷ r)) k g = absurd (true≢false (sym g))
  rest-of false p e = by (strip from p) refl e
    where
      by : (o : Option Path) → strip from p ≡ o → is_some (proper o) ≡ true → (r : Path) × (p ≡ from ++ r) × (fits false r ≡ true)
      by None k g = absurd (true≢false (sym g))
      by (Some []) k g = absurd (true≢false (sym g))
      by (Some (c ∷ r)) k g = (c ∷ r, strip-is from p (c ∷ r) k, refl)

  tail-of : (b : Bool) (r : Path) → fits b r ≡ true → is_some (tail (cone_of b from) (from ++ r)) ≡ true
  tail-of true [] e = ap (λ o. is_some (whole o)) (strip-self from [])
  tail-of true (c ∷ r) e = absurd (true≢false (sym e))
  tail-of false [] e = absurd (true≢false (sym e))
  tail-of false (c ∷ r) e = ap (λ o. is_some (proper o)) (strip-self from (c ∷ r))

  pub nothing-held : IsHeldAt S u point from None → (q : Path) → at u q ≡ None
  nothing-held f q = by (at u q) refl
    where
      by : (o : Option Leaf) → at u q ≡ o → at u q ≡ None
      by None e = e
      by (Some x) e = let r = rest-of point q (within q x e) in ap (at u) r.1 ∙ f r.0 r.2

  none-at : at u [] ≡ None
  none-at = nowhere u [] (is_tree S s n h).paths refl

  -- all paths of a tree
  pub all-held : from ≡ [] → is_nil u ≡ false → IsHolding S u point from (record { mode = Dir; name = record { 0 = n } })
  all-held e f = record { held = there u refl f; kind = is-below; leaves = λ r. by r }
    where
      there : (t : Flat) → u ≡ t → is_nil t ≡ false → has_child S Dir n ≡ true
      there [] i g = absurd (true≢false g)
      there (d ∷ t) i g = has_directory S s n h d.0 (ap first_of i)

      one : (t : Flat) → is_nil t ≡ false → (p : Path) × (x : Leaf) × (at t p ≡ Some x)
      one [] g = absurd (true≢false g)
      one (d ∷ t) g = (d.0, d.1, ap (λ b. cond b (Some d.1) (at t d.0)) ((path_decides d.0 d.0).1 refl))

      is-below : true ≡ not point
      is-below = elim point as (λ b. point ≡ b → true ≡ not b) [
        | true ↦ λ k.
            let d = one u f in
            let r = rest-of true d.0 (subst (λ b. is_some (tail (cone_of b from) d.0) ≡ true) k (within d.0 d.1 d.2)) in
            absurd (only d.0 d.1 r.0 d.2 (r.1 ∙ ap (λ a. a ++ r.0) e) r.2)
        | false ↦ λ k. refl
      ] refl
        where
          only : (p : Path) (x : Leaf) (r : Path) → at u p ≡ Some x → p ≡ r → fits true r ≡ true → ⊥
          only p x [] i j k = none-some x (sym none-at ∙ ap (at u) (sym j) ∙ i)
          only p x (c ∷ r) i j k = true≢false (sym k)

      by : (r : Path) → at u r ≡ cond (fits point r) (at u (from ++ r)) None
      by r = own r ∙ (λ i. cond (fits (is-point i) r) (at u (sym e i ++ r)) None)
        where
          is-point : false ≡ point
          is-point = elim point as (λ b. true ≡ not b → false ≡ b) [ true ↦ λ k. absurd (true≢false k) | false ↦ λ k. refl ] is-below

          own : (r : Path) → at u r ≡ cond (fits false r) (at u r) None
          own [] = none-at
          own (c ∷ r) = refl

  -- what fits there
  pub fitting-held : (o : Option Found) → IsFitting S u point from o → IsHeldAt S u point from o
  fitting-held None f = λ r e. f (from ++ r) (tail-of point r e)
  fitting-held (Some f) k = record { held = k.1; kind = k.2; leaves = λ r. by point k.0 k.2 r }
    where
      by : (b : Bool) → standing u from ≡ Some (node S f) → is_dir f.mode ≡ not b → (r : Path) → at (rests (node S f)) r ≡ cond (fits b r) (at u (from ++ r)) None
      by true e i r =
          let x = leaf_node S f.mode f.name.0 i in
          ap (λ m. at (rests m) r) x.1 ∙ point-at x.0 (leaf_stands u from x.0 (e ∙ ap Some x.1)) r
        where
          point-at : (x : Leaf) → at u from ≡ Some x → (r : Path) → at (([], x) ∷ []) r ≡ cond (fits true r) (at u (from ++ r)) None
          point-at x j [] = sym j ∙ ap (at u) (sym (append-nil from))
          point-at x j (c ∷ r) = refl
      by false e i r =
          let m = dir_node S f.mode f.name.0 i in
          let d = directory_stands u from (flat S f.name.0) (e ∙ ap Some m) in
          ap (λ m. at (rests m) r) m ∙ ap (λ v. at v r) (sym d.1) ∙ below-at r
        where
          below-at : (r : Path) → at (under u from) r ≡ cond (fits false r) (at u (from ++ r)) None
          below-at [] = at-under_nil u from
          below-at (c ∷ r) = at-under u from c r

  -- ---- put elsewhere

  module _ (to : Path) (solid : Solid (cone_of point to)) where
    pub moved-nothing : ((q : Path) → at u q ≡ None) → (p : Path) → at [] p ≡ moved point from to u p
    moved-nothing f p = by (decide (tail (cone_of point to) p) (Some from) None)
      where
        by : (o : Option Path) → None ≡ option_and_then (at u) o
        by None = refl
        by (Some q) = sym (f q)

    module _ (f : Found) (k : IsHolding S u point from f) where
      held-rest : (b : Bool) (o : Option Path) → point ≡ b → at_rest (rests (node S f)) o ≡ option_and_then (at u) (decide (tail-from b o) (Some from) None)
      held-rest b None e = by b
        where
          by : (b : Bool) → None ≡ option_and_then (at u) (decide (tail-from b None) (Some from) None)
          by true = refl
          by false = refl
      held-rest b (Some r) e = k.leaves r ∙ ap (λ b. cond (fits b r) (at u (from ++ r)) None) e ∙ by b r
        where
          by : (b : Bool) (r : Path) → cond (fits b r) (at u (from ++ r)) None ≡ option_and_then (at u) (decide (tail-from b (Some r)) (Some from) None)
          by true [] = refl
          by true (c ∷ r) = refl
          by false [] = refl
          by false (c ∷ r) = refl

      tail-is-from : (b : Bool) (p : Path) → tail-from b (strip to p) ≡ tail (cone_of b to) p
      tail-is-from true p = refl
      tail-is-from false p = refl

      clear : (b : Bool) → cond b (at [] []) None ≡ at [] []
      clear true = refl
      clear false = refl

      pub placed-leaves : (p : Path) → at (put [] to (node S f)) p ≡ moved point from to u p
      placed-leaves p =
          at-put [] to (node S f) p
          ∙ (λ i. first_some (at_rest (rests (node S f)) (after-strip to p i)) (clear (comparable to p) i))
          ∙ first_none (at_rest (rests (node S f)) (strip to p))
          ∙ held-rest point (strip to p) refl
          ∙ ap (λ o. option_and_then (at u) (decide o (Some from) None)) (tail-is-from point p)

      pub placed-all : to ≡ [] → HasLeaves S f.name.0 (moved point from to u)
      placed-all e =
          let d : is_dir f.mode ≡ true = k.kind ∙ ap not is-point in
          record {
            held = dir-held f.mode d k.held;
            leaves = λ p.
                ap (λ m. at (rests m) p) (sym (dir_node S f.mode f.name.0 d))
                ∙ held-rest point (Some p) refl
                ∙ ap (λ o. option_and_then (at u) (decide o (Some from) None)) (none-front point p)
                ∙ ap (λ a. moved point from a u p) (sym e);
          }
        where
          none-front : (b : Bool) (p : Path) → tail-from b (Some p) ≡ tail (cone_of b []) p
          none-front true p = refl
          none-front false p = refl

          none-path : (b : Bool) → Solid (cone_of b []) → b ≡ false
          none-path true g = absurd (true≢false (sym g))
          none-path false g = refl

          is-point : point ≡ false
          is-point = none-path point (subst (λ a. Solid (cone_of point a)) e solid)

          dir-held : (m : Mode) → is_dir m ≡ true → has_child S m f.name.0 ≡ true → has Tree S f.name.0 ≡ true
          dir-held File i g = absurd (true≢false (sym i))
          dir-held Exec i g = absurd (true≢false (sym i))
          dir-held Link i g = absurd (true≢false (sym i))
          dir-held Module i g = absurd (true≢false (sym i))
          dir-held Dir i g = first_so (has Tree S f.name.0) (not (is_nil (body_of Tree S f.name.0))) g

      pub placed-tree : T (is_path to) → IsTree (put [] to (node S f))
      placed-tree v = put-tree [] to (node S f) nothing v (is-node (is_dir f.mode) refl)
        where
          nothing : IsTree []
          nothing = record { sorted = tt; paths = tt; leaves = tt; apart = tt }

          dir-tree : (m : Mode) → has_child S m f.name.0 ≡ true → is_dir m ≡ true → IsTree (flat S f.name.0)
          dir-tree File g i = absurd (true≢false (sym i))
          dir-tree Exec g i = absurd (true≢false (sym i))
          dir-tree Link g i = absurd (true≢false (sym i))
          dir-tree Module g i = absurd (true≢false (sym i))
          dir-tree Dir g i = is_tree S s f.name.0 (first_so (has Tree S f.name.0) (not (is_nil (body_of Tree S f.name.0))) g)

          is-node : (b : Bool) → is_dir f.mode ≡ b → IsNode (node S f)
          is-node true i = subst IsNode (sym (dir_node S f.mode f.name.0 i)) (dir-tree f.mode k.held i)
          is-node false i =
              let x = leaf_node S f.mode f.name.0 i in
              let here : Some x.0 ≡ cond (fits point []) (at u (from ++ [])) None = ap (λ m. at (rests m) []) (sym x.1) ∙ k.leaves [] in
              subst IsNode (sym x.1) (leaf-of x.0 (fits point []) here)
            where
              leaf-of : (x : Leaf) (b : Bool) → Some x ≡ cond b (at u (from ++ [])) None → T (is_leaf x)
              leaf-of x true j = leaf_at is_leaf u (from ++ []) x (is_tree S s n h).leaves (sym j)
              leaf-of x false j = absurd (none-some x (sym j))

      -- put into the empty tree
      module _ (t : Flat) (q : Path) (i : t ≡ []) (j : q ≡ to) where
        same : put t q (node S f) ≡ put [] to (node S f)
        same = λ k. put (i k) (j k) (node S f)

        pub put-leaves : (p : Path) → at (put t q (node S f)) p ≡ moved point from to u p
        put-leaves p = ap (λ (v : Flat). at v p) same ∙ placed-leaves p

        pub put-made : is_path q ≡ true → (o : Object) → o.kind ≡ Tree → IsOnWay (put t q (node S f)) q o.body → IsMadeOf (λ p x. moved point from to u p ≡ Some x) o
        put-made v =
            way-made (λ p x. moved point from to u p ≡ Some x) (put t q (node S f)) (subst IsTree (sym same) (placed-tree (subst T (sym (ap is_path (sym j) ∙ v)) tt)))
            (λ p x e. sym (put-leaves p) ∙ e) q

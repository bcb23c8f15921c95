-- One entry of a decision list asked of a tree.
use Rattle.std.proofs.Common.{◌≡◌, Bool, true, false, cond, ◌&&◌, ◌||◌, [], ◌∷◌, ◌++◌, Option, Some, None, refl, sym, ap, ◌∙◌, true≢false, append-nil}
use Rattle.std.specs.Prelude.{is_some}
use Rattle.std.specs.Option.{option_map, option_or}
use Rattle.std.proofs.lemmas.Option.{none-some}
use Rattle.git_objects.specs.Paths.{Bytes, Path, same_bytes, same_path, is_prefix, comparable}
use Rattle.git_objects.specs.Trees.{Leaf, Flat, at, IsTree, LeafNode, TreeNode, under, put, remove, if_full, standing}
use Rattle.git_objects.proofs.Maps.{first_some, at_rest, after, at-put, at-remove}
use Rattle.git_objects.proofs.Order.{path_decides}
use Rattle.git_objects.proofs.Pointwise.{at_apart}
use Rattle.git_objects.proofs.Under.{at-under, at-under_nil}
use Rattle.filter_routes.proofs.Carried.{first_none}
use Rattle.decision_lists.specs.Entries.{Cone, cone_of, at as at_cone, below as below_cone, tail}
use Rattle.decision_lists.specs.Fronts.{strip, proper, whole}
use Rattle.decision_lists.proofs.Strip.{strip-is, strip-self}
use Rattle.filter_unapply.specs.Sifted.{IsAbsent, put_back, taken_out}

-- ---- fronts

pub after-strip : (p q : Path) → after p q ≡ strip p q
after-strip [] q = refl
after-strip (c ∷ p) [] = refl
after-strip (c ∷ p) (d ∷ q) = ap (λ o. cond (same_bytes c d) o None) (after-strip p q)

pub prefix-strip : (p q : Path) → is_prefix p q ≡ is_some (strip p q)
prefix-strip [] q = refl
prefix-strip (c ∷ p) [] = refl
prefix-strip (c ∷ p) (d ∷ q) = elim (same_bytes c d) as (λ b. (b && is_prefix p q) ≡ is_some (cond b (strip p q) None)) [ true ↦ prefix-strip p q | false ↦ refl ]

front-near : (s q : Path) → is_some (strip s q) ≡ true → comparable s q ≡ true
front-near s q h = ap (λ b. b || is_prefix q s) (prefix-strip s q ∙ h)

strip-own : (s q : Path) → s ≡ q → strip s q ≡ Some []
strip-own s q e = ap (strip s) (sym e ∙ sym (append-nil s)) ∙ strip-self s []

strip-front : (s r : Path) → comparable s (s ++ r) ≡ true
strip-front s r = front-near s (s ++ r) (ap is_some (strip-self s r))

prefix-longer : (q s r : Path) → is_prefix q s ≡ true → is_prefix q (s ++ r) ≡ true
prefix-longer [] s r h = refl
prefix-longer (c ∷ q) [] r h = absurd (true≢false (sym h))
prefix-longer (c ∷ q) (d ∷ s) r h = elim (same_bytes c d) as (λ b. (b && is_prefix q s) ≡ true → (b && is_prefix q (s ++ r)) ≡ true) [ true ↦ λ g. prefix-longer q s r g | false ↦ λ g. g ] h

-- ---- what stands at a path

pub directory_stands : (t : Flat) (s : Path) (u : Flat) → standing t s ≡ Some (TreeNode u) → (at t s ≡ None) × (under t s ≡ u) × (under t s ≡ [] → ⊥)
directory_stands t s u e = by (at t s) (under t s) refl refl e
  where
    by : (o : Option Leaf) (v : Flat) → at t s ≡ o → under t s ≡ v → option_or (option_map LeafNode o) (if_full v) ≡ Some (TreeNode u) → (at t s ≡ None) × (under t s ≡ u) × (under t s ≡ [] → ⊥)
    by None [] i j g = cc
    by None (d ∷ v) i j g = let same : d ∷ v ≡ u = cc in (i, j ∙ same, λ k. let no : d ∷ v ≡ [] = sym j ∙ k in cc)
    by (Some x) v i j g = cc

point-only : (s q : Path) → is_some (whole (strip s q)) ≡ true → s ≡ q
point-only s q h = by (strip s q) refl h
  where
    by : (o : Option Path) → strip s q ≡ o → is_some (whole o) ≡ true → s ≡ q
    by None e g = absurd (true≢false (sym g))
    by (Some []) e g = sym (strip-is s q [] e ∙ append-nil s)
    by (Some (c ∷ r)) e g = absurd (true≢false (sym g))

below-only : (s q : Path) → is_some (proper (strip s q)) ≡ true → (c : Bytes) × (r : Path) × (q ≡ s ++ c ∷ r)
below-only s q h = by (strip s q) refl h
  where
    by : (o : Option Path) → strip s q ≡ o → is_some (proper o) ≡ true → (c : Bytes) × (r : Path) × (q ≡ s ++ c ∷ r)
    by None e g = absurd (true≢false (sym g))
    by (Some []) e g = absurd (true≢false (sym g))
    by (Some (c ∷ r)) e g = (c, r, strip-is s q (c ∷ r) e)

absent-point : (t : Flat) (s : Path) → at t s ≡ None → IsAbsent (at_cone s) t
absent-point t s e q h = ap (at t) (sym (point-only s q h)) ∙ e

absent-below : (t : Flat) (s : Path) → ((c : Bytes) (r : Path) → at t (s ++ c ∷ r) ≡ None) → IsAbsent (below_cone s) t
absent-below t s f q h = let x = below-only s q h in ap (at t) x.2 ∙ f x.0 x.1

none-below : (t : Flat) (s : Path) → under t s ≡ [] → (c : Bytes) (r : Path) → at t (s ++ c ∷ r) ≡ None
none-below t s e c r = sym (at-under t s c r) ∙ ap (λ u. at u (c ∷ r)) e

pub nothing-absent : (b : Bool) (t : Flat) (s : Path) → standing t s ≡ None → IsAbsent (cone_of b s) t
nothing-absent b t s e = by b (both (at t s) (under t s) e)
  where
    both : (o : Option Leaf) (u : Flat) → option_or (option_map LeafNode o) (if_full u) ≡ None → (o ≡ None) × (u ≡ [])
    both None [] g = (refl, refl)
    both None (d ∷ u) g = cc
    both (Some x) u g = cc

    by : (b : Bool) → (at t s ≡ None) × (under t s ≡ []) → IsAbsent (cone_of b s) t
    by true h = absent-point t s h.0
    by false h = absent-below t s (none-below t s h.1)

-- a leaf is alone
none-near : (t : Flat) → IsTree t → (s q : Path) (x : Leaf) → at t s ≡ Some x → comparable s q ≡ true → (s ≡ q → ⊥) → at t q ≡ None
none-near t h s q x e c n = by (at t q) refl
  where
    by : (o : Option Leaf) → at t q ≡ o → at t q ≡ None
    by None g = g
    by (Some y) g = absurd (n (at_apart t h.apart s q x y e g c))

longer : (s : Path) (c : Bytes) (r : Path) → s ≡ s ++ c ∷ r → ⊥
longer s c r e = let no : Some [] ≡ Some (c ∷ r) = sym (strip-own s (s ++ c ∷ r) e) ∙ strip-self s (c ∷ r) in cc

pub leaf-absent : (t : Flat) (s : Path) (x : Leaf) → IsTree t → at t s ≡ Some x → IsAbsent (below_cone s) t
leaf-absent t s x h e = absent-below t s (λ c r. none-near t h s (s ++ c ∷ r) x e (strip-front s (c ∷ r)) (longer s c r))

pub directory-absent : (t : Flat) (s : Path) (u : Flat) → standing t s ≡ Some (TreeNode u) → IsAbsent (at_cone s) t
directory-absent t s u e = absent-point t s (directory_stands t s u e).0

-- ---- a part of a tree

module _ (t u : Flat) (h : IsTree t) (within : (p : Path) (x : Leaf) → at u p ≡ Some x → at t p ≡ Some x) where
  pub none-within : (q : Path) → at t q ≡ None → at u q ≡ None
  none-within q e = by (at u q) refl
    where
      by : (o : Option Leaf) → at u q ≡ o → at u q ≡ None
      by None g = g
      by (Some x) g = absurd (none-some x (sym e ∙ within q x g))

  -- nothing to be put back
  pub back-absent : (c : Cone) → IsAbsent c t → (q : Path) → at u q ≡ put_back c t u q
  back-absent c f q = elim (is_some (tail c q)) as (λ b. is_some (tail c q) ≡ b → at u q ≡ cond b (at t q) (at u q)) [
    | true ↦ λ k. none-within q (f q k) ∙ sym (f q k)
    | false ↦ λ k. refl
  ] refl

  pub back-leaf : (s : Path) (x : Leaf) → at t s ≡ Some x → (q : Path) → at (put u s (LeafNode x)) q ≡ put_back (at_cone s) t u q
  back-leaf s x e q =
      at-put u s (LeafNode x) q
      ∙ ap (λ o. first_some (at_rest (([], x) ∷ []) o) (cond (comparable s q) None (at u q))) (after-strip s q)
      ∙ by (strip s q) refl
    where
      clear : (s ≡ q → ⊥) → cond (comparable s q) None (at u q) ≡ at u q
      clear n = elim (comparable s q) as (λ b. comparable s q ≡ b → cond b None (at u q) ≡ at u q) [
        | true ↦ λ k. sym (none-within q (none-near t h s q x e k n))
        | false ↦ λ k. refl
      ] refl

      by : (o : Option Path) → strip s q ≡ o → first_some (at_rest (([], x) ∷ []) o) (cond (comparable s q) None (at u q)) ≡ cond (is_some (whole (strip s q))) (at t q) (at u q)
      by None k = clear (λ i. none-some [] (sym k ∙ strip-own s q i)) ∙ ap (λ o. cond (is_some (whole o)) (at t q) (at u q)) (sym k)
      by (Some []) k = sym e ∙ ap (at t) (sym (strip-is s q [] k ∙ append-nil s)) ∙ ap (λ o. cond (is_some (whole o)) (at t q) (at u q)) (sym k)
      by (Some (c ∷ r)) k = clear (λ i. let no : Some [] ≡ Some (c ∷ r) = sym (strip-own s q i) ∙ k in cc) ∙ ap (λ o. cond (is_some (whole o)) (at t q) (at u q)) (sym k)

  -- no leaf on the way to a directory
  above-none : (s q : Path) (v : Flat) → standing t s ≡ Some (TreeNode v) → comparable s q ≡ true → strip s q ≡ None → at t q ≡ None
  above-none s q v e c k = by (at t q) refl
    where
      first-below : (u : Flat) → (under t s ≡ u) → (u ≡ [] → ⊥) → (r : Path) × (x : Leaf) × (at u r ≡ Some x)
      first-below [] i n = absurd (n refl)
      first-below (d ∷ u) i n = (d.0, d.1, ap (λ b. cond b (Some d.1) (at u d.0)) (own d.0))
        where
          own : (p : Path) → same_path p p ≡ true
          own p = (path_decides p p).1 refl

      by : (o : Option Leaf) → at t q ≡ o → at t q ≡ None
      by None g = g
      by (Some y) g =
          let d = directory_stands t s v e in
          let b = first-below (under t s) refl d.2 in
          absurd (meets b.0 b.1 y g b.2)
        where
          none-at-nil : (x : Leaf) → at (under t s) [] ≡ Some x → ⊥
          none-at-nil x i = none-some x (sym (at-under_nil t s) ∙ i)

          prefix-of : is_prefix q s ≡ true
          prefix-of = elim (is_prefix s q) as (λ b. is_prefix s q ≡ b → (b || is_prefix q s) ≡ true → is_prefix q s ≡ true) [
            | true ↦ λ j _. absurd (true≢false (sym j ∙ prefix-strip s q ∙ ap is_some k))
            | false ↦ λ j l. l
          ] refl c

          meets : (r : Path) (x y : Leaf) → at t q ≡ Some y → at (under t s) r ≡ Some x → ⊥
          meets [] x y i j = none-at-nil x j
          meets (f ∷ r) x y i j =
              let there : at t (s ++ f ∷ r) ≡ Some x = sym (at-under t s f r) ∙ j in
              let near : comparable q (s ++ f ∷ r) ≡ true = ap (λ b. b || is_prefix (s ++ f ∷ r) q) (prefix-longer q s (f ∷ r) prefix-of) in
              let same : q ≡ s ++ f ∷ r = at_apart t h.apart q (s ++ f ∷ r) y x i there near in
              none-some (f ∷ r) (sym k ∙ ap (strip s) same ∙ strip-self s (f ∷ r))

  pub back-directory : (s : Path) (v : Flat) → standing t s ≡ Some (TreeNode v) → (q : Path) → at (put u s (TreeNode v)) q ≡ put_back (below_cone s) t u q
  back-directory s v e q =
      let d = directory_stands t s v e in
      at-put u s (TreeNode v) q
      ∙ (λ i. first_some (at_rest (sym d.1 i) (after-strip s q i)) (cond (comparable s q) None (at u q)))
      ∙ by d.0 (strip s q) refl
    where
      near : (o : Option Path) → strip s q ≡ o → is_some o ≡ true → comparable s q ≡ true
      near o k i = front-near s q (ap is_some k ∙ i)

      by : at t s ≡ None → (o : Option Path) → strip s q ≡ o → first_some (at_rest (under t s) o) (cond (comparable s q) None (at u q)) ≡ cond (is_some (proper (strip s q))) (at t q) (at u q)
      by n None k =
          elim (comparable s q) as (λ b. comparable s q ≡ b → cond b None (at u q) ≡ at u q) [
            | true ↦ λ c. sym (none-within q (above-none s q v e c k))
            | false ↦ λ c. refl
          ] refl
          ∙ ap (λ o. cond (is_some (proper o)) (at t q) (at u q)) (sym k)
      by n (Some []) k =
          (λ i. first_some (at-under_nil t s i) (cond (near (Some []) k refl i) None (at u q)))
          ∙ sym (none-within q (ap (at t) (strip-is s q [] k ∙ append-nil s) ∙ n))
          ∙ ap (λ o. cond (is_some (proper o)) (at t q) (at u q)) (sym k)
      by n (Some (c ∷ r)) k =
          (λ i. first_some (at-under t s c r i) (cond (near (Some (c ∷ r)) k refl i) None (at u q)))
          ∙ first_none (at t (s ++ c ∷ r)) ∙ ap (at t) (sym (strip-is s q (c ∷ r) k))
          ∙ ap (λ o. cond (is_some (proper o)) (at t q) (at u q)) (sym k)

-- ---- taken out

module _ (u : Flat) where
  pub out-absent : (c : Cone) → IsAbsent c u → (q : Path) → at u q ≡ taken_out c u q
  out-absent c f q = elim (is_some (tail c q)) as (λ b. is_some (tail c q) ≡ b → at u q ≡ cond b None (at u q)) [
    | true ↦ λ k. f q k
    | false ↦ λ k. refl
  ] refl

  pub removed-at : (s q : Path) → at (remove u s) q ≡ cond (is_some (strip s q)) None (at u q)
  removed-at s q = at-remove u s q ∙ ap (λ b. cond b None (at u q)) (prefix-strip s q)

  pub out-leaf : (s : Path) (x : Leaf) → IsTree u → at u s ≡ Some x → (q : Path) → at (remove u s) q ≡ taken_out (at_cone s) u q
  out-leaf s x h e q = removed-at s q ∙ by (strip s q) refl
    where
      by : (o : Option Path) → strip s q ≡ o → cond (is_some (strip s q)) None (at u q) ≡ cond (is_some (whole (strip s q))) None (at u q)
      by None k = ap (λ o. cond (is_some o) None (at u q)) k ∙ ap (λ o. cond (is_some (whole o)) None (at u q)) (sym k)
      by (Some []) k = ap (λ o. cond (is_some o) None (at u q)) k ∙ ap (λ o. cond (is_some (whole o)) None (at u q)) (sym k)
      by (Some (c ∷ r)) k =
          ap (λ o. cond (is_some o) None (at u q)) k
          ∙ sym (none-near u h s q x e (front-near s q (ap is_some k)) (λ i. let no : Some [] ≡ Some (c ∷ r) = sym (strip-own s q i) ∙ k in cc))
          ∙ ap (λ o. cond (is_some (whole o)) None (at u q)) (sym k)

  pub out-directory : (s : Path) (v : Flat) → standing u s ≡ Some (TreeNode v) → (q : Path) → at (remove u s) q ≡ taken_out (below_cone s) u q
  out-directory s v e q = removed-at s q ∙ by (strip s q) refl
    where
      by : (o : Option Path) → strip s q ≡ o → cond (is_some (strip s q)) None (at u q) ≡ cond (is_some (proper (strip s q))) None (at u q)
      by None k = ap (λ o. cond (is_some o) None (at u q)) k ∙ ap (λ o. cond (is_some (proper o)) None (at u q)) (sym k)
      by (Some []) k =
          ap (λ o. cond (is_some o) None (at u q)) k
          ∙ sym (ap (at u) (strip-is s q [] k ∙ append-nil s) ∙ (directory_stands u s v e).0)
          ∙ ap (λ o. cond (is_some (proper o)) None (at u q)) (sym k)
      by (Some (c ∷ r)) k = ap (λ o. cond (is_some o) None (at u q)) k ∙ ap (λ o. cond (is_some (proper o)) None (at u q)) (sym k)

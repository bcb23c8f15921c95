-- What is seen through parts of a lens.
use Rattle.std.proofs.Common.{◌≡◌, Bool, true, false, cond, ◌||◌, [], ◌∷◌, Option, Some, None, refl, sym, ap, ap₂, subst, ◌∙◌}
use Rattle.std.specs.Option.{option_map, option_or}
use Rattle.std.proofs.lemmas.Option.{none-some, same_Some}
use Rattle.git_objects.specs.Lists.{Each}
use Rattle.git_objects.specs.Paths.{Path, is_path, comparable}
use Rattle.git_objects.specs.Trees.{Leaf, Flat, IsTree, at}
use Rattle.git_objects.proofs.Maps.{at_rest, same_flat}
use Rattle.git_objects.proofs.Pointwise.{at_apart}
use Rattle.filter_routes.specs.Lenses.{Lens, IsLens, seen_through}
use Rattle.filter_routes.proofs.Carried.{same_on_paths}
use Rattle.filter_routes.proofs.SeenTrees.{at-seen, seen-tree, seen_from}
use Rattle.filter_routes.proofs.TreeEntries.{each_entry}
use Rattle.decision_lists.proofs.Strip.{cond-some, cond-yes}
use Rattle.path_trees.specs.Clashes.{clash, first_comparable, together}
use Rattle.path_trees.proofs.Together.{together_law}
use Rattle.filter_apply.specs.Ranges.{passed, restricted}

passed-some : (k : Path → Bool) (o : Option Path) (p : Path) → passed k o ≡ Some p → (o ≡ Some p) × (k p ≡ true)
passed-some k None p e = absurd (none-some p e)
passed-some k (Some r) p e =
    let w = cond-some (k r) (Some r) p e in
    (w.1, subst (λ (x : Path). k x ≡ true) (same_Some r p w.1) w.0)

pub restricted-lens : (k : Path → Bool) (f : Lens) → IsLens f → IsLens (restricted k f)
restricted-lens k f is = record {
  image_path = λ p q v e. is.image_path p q v (cond-some (k p) (f.image p) q e).1;
  image_origin = λ p q v e. let w = cond-some (k p) (f.image p) q e in ap (passed k) (is.image_origin p q v w.1) ∙ cond-yes (k p) (Some p) w.0;
  origin_path = λ p q v e. is.origin_path p q v (passed-some k (f.origin q) p e).0;
  origin_image = λ p q v e. let w = passed-some k (f.origin q) p e in cond-yes (k p) (f.image p) w.1 ∙ is.origin_image p q v w.0;
  apart = λ p r q s v w e g c. is.apart p r q s v w (cond-some (k p) (f.image p) q e).1 (cond-some (k r) (f.image r) s g).1 c;
}

-- ---- maps that are apart

first-none : (p : Path) (b : Flat) → Each (λ e. comparable p e.0 ≡ false) b → first_comparable p b ≡ None
first-none p [] h = refl
first-none p (e ∷ b) h = ap (λ v. cond v (Some e.0) (first_comparable p b)) h.0 ∙ first-none p b h.1

clash-none : (a b : Flat) → Each (λ d. Each (λ e. comparable d.0 e.0 ≡ false) b) a → clash a b ≡ None
clash-none [] b h = refl
clash-none (d ∷ a) b h = (λ i. option_or (option_map (λ q. (d.0, q)) (first-none d.0 b h.0 i)) (clash-none a b h.1 i))

module _ (f : Lens) (is : IsLens f) (t : Flat) (h : IsTree t) where
  abbrev pub seen : (Path → Bool) → Flat
  seen k = seen_through (restricted k f) t

  pub seen-is-tree : (k : Path → Bool) → IsTree (seen k)
  seen-is-tree k = seen-tree (restricted k f) (restricted-lens k f is) t h

  -- what is seen at a path comes from one that passes the test
  pub from-passed : (k : Path → Bool) (q : Path) (x : Leaf) → at (seen k) q ≡ Some x → (p : Path) × (is_path p ≡ true) × (k p ≡ true) × (f.image p ≡ Some q) × (at t p ≡ Some x)
  from-passed k q x e =
      let w = seen_from (restricted k f) (restricted-lens k f is) t h q x e in
      let c = cond-some (k w.0) (f.image w.0) q w.2 in
      (w.0, w.1, c.0, c.1, w.3)

  pub seen-at : (k : Path → Bool) (q : Path) → is_path q ≡ true → at (seen k) q ≡ at_rest t (passed k (f.origin q))
  seen-at k q v = at-seen (restricted k f) (restricted-lens k f is) t h.paths q v

  pub no-clash : (k l : Path → Bool) → ((p : Path) → k p ≡ true → l p ≡ true → ⊥) → clash (seen k) (seen l) ≡ None
  no-clash k l apart = clash-none (seen k) (seen l)
      (each_entry (λ d. Each (λ e. comparable d.0 e.0 ≡ false) (seen l)) (seen k) (seen-is-tree k).sorted
      (λ d g. each_entry (λ e. comparable d.0 e.0 ≡ false) (seen l) (seen-is-tree l).sorted (λ e j. by d e g j (comparable d.0 e.0) refl)))
    where
      by : (d e : Path × Leaf) → at (seen k) d.0 ≡ Some d.1 → at (seen l) e.0 ≡ Some e.1 → (b : Bool) → comparable d.0 e.0 ≡ b → comparable d.0 e.0 ≡ false
      by d e g j false c = c
      by d e g j true c =
          let a = from-passed k d.0 d.1 g in
          let b = from-passed l e.0 e.1 j in
          let same : a.0 ≡ b.0 = at_apart t h.apart a.0 b.0 d.1 e.1 a.4 b.4 (is.apart a.0 b.0 d.0 e.0 a.1 b.1 a.3 b.3 c) in
          absurd (apart b.0 (subst (λ (p : Path). k p ≡ true) same a.2) b.2)

  either-at : (b c : Bool) (p : Path) → option_or (at_rest t (cond b (Some p) None)) (at_rest t (cond c (Some p) None)) ≡ at_rest t (cond (b || c) (Some p) None)
  either-at true true p = twice (at t p)
    where
      twice : (o : Option Leaf) → option_or o o ≡ o
      twice None = refl
      twice (Some x) = refl
  either-at true false p = alone (at t p)
    where
      alone : (o : Option Leaf) → option_or o None ≡ o
      alone None = refl
      alone (Some x) = refl
  either-at false c p = refl

  pub both-seen : (k l m : Path → Bool) → ((p : Path) → (k p || l p) ≡ m p) → ((p : Path) → k p ≡ true → l p ≡ true → ⊥) → together (seen k) (seen l) ≡ seen m
  both-seen k l m all apart =
      let law = together_law (seen k) (seen l) (seen-is-tree k) (seen-is-tree l) (no-clash k l apart) in
      same_on_paths (together (seen k) (seen l)) (seen m) law.tree.sorted (seen-is-tree m).sorted law.tree.paths (seen-is-tree m).paths
      (λ q v. law.leaves q ∙ ap₂ option_or (seen-at k q v) (seen-at l q v) ∙ by (f.origin q) ∙ sym (seen-at m q v))
    where
      by : (o : Option Path) → option_or (at_rest t (passed k o)) (at_rest t (passed l o)) ≡ at_rest t (passed m o)
      by None = refl
      by (Some p) = either-at (k p) (l p) p ∙ ap (λ b. at_rest t (cond b (Some p) None)) (all p)

  pub seen-nothing : (k : Path → Bool) → ((p q : Path) → is_path p ≡ true → k p ≡ true → f.image p ≡ Some q → ⊥) → seen k ≡ []
  seen-nothing k none = same_flat (seen k) [] (seen-is-tree k).sorted tt (λ q. by q (at (seen k) q) refl)
    where
      by : (q : Path) (o : Option Leaf) → at (seen k) q ≡ o → at (seen k) q ≡ None
      by q None e = e
      by q (Some x) e = let w = from-passed k q x e in absurd (none w.0 q w.1 w.2 w.3)

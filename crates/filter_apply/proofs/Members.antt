-- Members of lists and of trees.
use Rattle.std.proofs.Common.{◌≡◌, zero, suc, true, false, cond, ◌⊎◌, inl, inr, T, List, [], ◌∷◌, ◌++◌, map, Contains, Some, refl, sym, subst, arith}
use Rattle.std.specs.List.{flat_map}
use Rattle.std.specs.FinMap.{is_sorted}
use Rattle.std.proofs.lemmas.List.Elements.{Contains-append_left, Contains-append_right, Contains-append_cases}
use Rattle.git_objects.specs.Lists.{Each}
use Rattle.git_objects.specs.Paths.{Path, same_path, path_cmp}
use Rattle.git_objects.specs.Trees.{Leaf, Flat, at}
use Rattle.git_objects.proofs.Order.{path_decides}
use Rattle.git_objects.proofs.Pointwise.{each_at}

module _ {A : Type 0} where
  pub none_in : (d : A) → Contains [] d → ⊥
  none_in d (k, h, e) = omega arith

  pub here_or_later : (c : A) (cs : List A) (d : A) → Contains (c ∷ cs) d → (c ≡ d) ⊎ Contains cs d
  here_or_later c cs d (zero, h, e) = inl e
  here_or_later c cs d (suc k, h, e) = inr (k, omega arith, e)

  pub first_in : (c : A) (cs : List A) → Contains (c ∷ cs) c
  first_in c cs = (0, omega arith, refl)

  pub later_in : (c : A) (cs : List A) (d : A) → Contains cs d → Contains (c ∷ cs) d
  later_in c cs d h = Contains-append_right (c ∷ []) cs d h

  pub each-in : (P : A → Type 0) (xs : List A) (x : A) → Each P xs → Contains xs x → P x
  each-in P [] x e h = absurd (none_in x h)
  each-in P (y ∷ xs) x e h = elim (here_or_later y xs x h) [
    | inl same ↦ subst P same e.0
    | inr later ↦ each-in P xs x e.1 later
  ]

  pub in-each : (P : A → Type 0) (xs : List A) → ((x : A) → Contains xs x → P x) → Each P xs
  in-each P [] h = tt
  in-each P (x ∷ xs) h = (h x (first_in x xs), in-each P xs (λ y c. h y (later_in x xs y c)))

  pub each-as : (P Q : A → Type 0) (xs : List A) → ((x : A) → P x → Q x) → Each P xs → Each Q xs
  each-as P Q [] h e = tt
  each-as P Q (x ∷ xs) h e = (h x e.0, each-as P Q xs h e.1)

  pub each-app : (P : A → Type 0) (xs ys : List A) → Each P xs → Each P ys → Each P (xs ++ ys)
  each-app P [] ys e f = f
  each-app P (x ∷ xs) ys e f = (e.0, each-app P xs ys e.1 f)

  pub each-left : (P : A → Type 0) (xs ys : List A) → Each P (xs ++ ys) → Each P xs
  each-left P [] ys e = tt
  each-left P (x ∷ xs) ys e = (e.0, each-left P xs ys e.1)

  pub each-right : (P : A → Type 0) (xs ys : List A) → Each P (xs ++ ys) → Each P ys
  each-right P [] ys e = e
  each-right P (x ∷ xs) ys e = each-right P xs ys e.1

module _ {A B : Type 0} (f : A → B) where
  pub in-map : (xs : List A) (x : A) → Contains xs x → Contains (map f xs) (f x)
  in-map [] x h = absurd (none_in x h)
  in-map (y ∷ xs) x h = elim (here_or_later y xs x h) [
    | inl same ↦ subst (λ (z : A). Contains (map f (y ∷ xs)) (f z)) same (first_in (f y) (map f xs))
    | inr later ↦ later_in (f y) (map f xs) (f x) (in-map xs x later)
  ]

  pub of-map : (xs : List A) (z : B) → Contains (map f xs) z → (x : A) × Contains xs x × (f x ≡ z)
  of-map [] z h = absurd (none_in z h)
  of-map (y ∷ xs) z h = elim (here_or_later (f y) (map f xs) z h) [
    | inl same ↦ (y, first_in y xs, same)
    | inr later ↦ let r = of-map xs z later in (r.0, later_in y xs r.0 r.1, r.2)
  ]

module _ {A B : Type 0} (f : A → List B) where
  pub in-flat_map : (xs : List A) (x : A) (z : B) → Contains xs x → Contains (f x) z → Contains (flat_map f xs) z
  in-flat_map [] x z h g = absurd (none_in x h)
  in-flat_map (y ∷ xs) x z h g = elim (here_or_later y xs x h) [
    | inl same ↦ Contains-append_left (f y) (flat_map f xs) z (subst (λ (w : A). Contains (f w) z) (sym same) g)
    | inr later ↦ Contains-append_right (f y) (flat_map f xs) z (in-flat_map xs x z later g)
  ]

  pub of-flat_map : (xs : List A) (z : B) → Contains (flat_map f xs) z → (x : A) × Contains xs x × Contains (f x) z
  of-flat_map [] z h = absurd (none_in z h)
  of-flat_map (y ∷ xs) z h = elim (Contains-append_cases (f y) (flat_map f xs) z h) [
    | inl a ↦ (y, first_in y xs, a)
    | inr later ↦ let r = of-flat_map xs z later in (r.0, later_in y xs r.0 r.1, r.2)
  ]

-- ---- of flat maps

pub in-flat : (t : Flat) (p : Path) (x : Leaf) → at t p ≡ Some x → Contains t (p, x)
in-flat [] p x e = cc
in-flat (d ∷ t) p x e =
    elim (same_path p d.0) as (λ b. same_path p d.0 ≡ b → cond b (Some d.1) (at t p) ≡ Some x → Contains (d ∷ t) (p, x)) [
      | true ↦ λ i g.
          let leaf : d.1 ≡ x = cc in
          let same : d ≡ (p, x) = λ k. (sym ((path_decides p d.0).0 i) k, leaf k) in
          subst (λ (c : Path × Leaf). Contains (d ∷ t) c) same (first_in d t)
      | false ↦ λ i g. later_in d t (p, x) (in-flat t p x g)
    ] refl e

pub of-flat : (t : Flat) → T (is_sorted path_cmp t) → (d : Path × Leaf) → Contains t d → at t d.0 ≡ Some d.1
of-flat t s d h = each-in (λ d. at t d.0 ≡ Some d.1) t d (each_at t s) h

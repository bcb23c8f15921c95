-- What is laid below a path is what the filter `:/a` lays, and its bodies are of the hand of a call.
use Rattle.std.proofs.Common.{◌≡◌, inl, inr, true, false, cond, List, [], ◌∷◌, ◌++◌, Option, Some, None, Result, Ok, Err, refl, sym, ap, ◌∙◌}
use Rattle.std.specs.Prelude.{IfErr}
use Rattle.git_objects.specs.Paths.{Path, is_path, same_bytes}
use Rattle.git_objects.specs.Trees.{Leaf, Flat, IsTree, at, rest_below}
use Rattle.git_objects.specs.declared.kind.Kind.TheVariants.{Tree}
use Rattle.git_objects.proofs.Pointwise.{all_at, from-T}
use Rattle.object_store.specs.Growth.{IsGrownBy}
use Rattle.object_store.specs.Objects.{Object}
use Rattle.path_trees.specs.Made.{IsGrown}
use Rattle.path_trees.proofs.MadeObjects.{clash-by, grown-by}
use Rattle.decision_lists.specs.Fronts.{proper, strip}
use Rattle.filter_text.specs.Filters.{Filter, has_paths, sub}
use Rattle.filter_routes.specs.Images.{image}
use Rattle.filter_routes.specs.Lenses.{IsLens}
use Rattle.filter_routes.specs.Origins.{lens_of}
use Rattle.filter_routes.specs.Soundness.{IsSound}
use Rattle.filter_routes.proofs.Inverse.{the_law as lens_law}
use Rattle.filter_unapply.specs.Hands.{IsFaultBy, IsLaidMade}
use Rattle.filter_unapply.specs.Laying.{Laid, LaidTree, NotHeld, Blocked, below, laid_through, pre}
use Rattle.filter_unapply.specs.Stored.{IsLaidBody, IsLayFault}
use Rattle.filter_unapply.specs.declared.fault.LayFault.{LayFault}
use Rattle.filter_unapply.specs.declared.fault.LayFault.TheVariants as faults
use Rattle.filter_unapply.proofs.HandTrees.{IsKnown, laid-made}
use Rattle.filter_unapply.proofs.Lawful.{at-image, at-kept, laid-tree, parts}
use Rattle.filter_unapply.proofs.MadeTrees.{way-made}

rest-is : (a p : Path) → rest_below a p ≡ proper (strip a p)
rest-is [] [] = refl
rest-is [] (d ∷ p) = refl
rest-is (c ∷ a) [] = refl
rest-is (c ∷ a) (d ∷ p) =
    elim (same_bytes c d) as (λ b. cond b (rest_below a p) None ≡ proper (cond b (strip a p) None)) [
      | true ↦ rest-is a p
      | false ↦ refl
    ]

-- the filter as a lens
pub below-is : (a : Path) → below a ≡ lens_of (sub a)
below-is a = λ i. record { image = λ p. rest-is a p i; origin = λ q. Some (a ++ q) }

module _ (f : Filter) (v : has_paths f ≡ true) (s : IsSound f) (t n : Flat) (ht : IsTree t) (hn : IsTree n) where
  is : IsLens (lens_of f)
  is = lens_law.lens f v s

  abbrev u : Flat
  u = pre (lens_of f) t n

  -- each leaf that is laid is one of the two trees'
  laid-known : (p : Path) (x : Leaf) → is_path p ≡ true → at u p ≡ Some x → IsKnown f t n p x
  laid-known p x w e = by (image f p) refl
    where
      by : (o : Option Path) → image f p ≡ o → IsKnown f t n p x
      by None i = inl (sym (at-kept (lens_of f) is t n hn.paths p w i) ∙ e)
      by (Some q) i = inr (inr (q, is.image_origin p q w i, sym (at-image (lens_of f) is t n hn.paths p q w i) ∙ e))

  abbrev Made : Object → Type 0
  Made = IsLaidMade f t n

  -- the bodies of a laid tree's directories on a way
  pub body-made : (a : Path) (l : Laid) → laid_through (lens_of f) t n ≡ l → (o : Object) → o.kind ≡ Tree → IsLaidBody l a o.body → Made o
  body-made a (NotHeld q) e o k h = absurd h
  body-made a (Blocked p q) e o k h = absurd h
  body-made a (LaidTree w) e o k h =
      let same : u ≡ w = (parts (lens_of f) is t n w e).2 in
      let tree : IsTree w = laid-tree (lens_of f) is t n w ht hn e in
      let known : (p : Path) (x : Leaf) → at w p ≡ Some x → IsKnown f t n p x = λ p x g. laid-known p x (from-T (is_path p) (all_at is_path w p x tree.paths g)) (ap (λ (z : Flat). at z p) same ∙ g) in
      laid-made f t n o (way-made (IsKnown f t n) w tree known a o k h)

  module _ (a : Path) where
    abbrev l : Laid
    l = laid_through (lens_of f) t n

    pub below-grown : (S R : List Object) → IsGrown (IsLaidBody l a) S R → IsGrownBy Made S R
    below-grown S R g = grown-by (IsLaidBody l a) Made (body-made a l refl) S R g

    below-fault : (R : List Object) (e : LayFault) → IsLayFault l a R e → IsFaultBy l Made R e
    below-fault R (faults.NotHeld q) h = h
    below-fault R (faults.Blocked p q) h = h
    below-fault R (faults.Collision m) h = clash-by (IsLaidBody l a) Made (body-made a l refl) R m.0 h
    below-fault R faults.OutOfMemory h = tt

    pub below-err : {A : Type 0} (R : List Object) (r : Result A LayFault) → IfErr r (IsLayFault l a R) → IfErr r (IsFaultBy l Made R)
    below-err R (Ok x) h = tt
    below-err R (Err e) h = below-fault R e h

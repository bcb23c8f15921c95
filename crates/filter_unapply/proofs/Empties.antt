-- The empty tree, taken in.
use Rattle.std.proofs.Common.{◌≡◌, Bool, true, false, cond, List, [], ◌∷◌, None, refl, sym, subst}
use Rattle.git_objects.specs.Paths.{Bytes}
use Rattle.git_objects.specs.Names.{name}
use Rattle.git_objects.specs.declared.kind.Kind.TheVariants.{Tree}
use Rattle.object_store.specs.Growth.{IsGrownBy, IsOnly}
use Rattle.object_store.specs.Objects.{Object, IsStore, has_name}
use Rattle.object_store.specs.Puts.{of_body}
use Rattle.object_store.specs.Unfolding.{StandsFor}
use Rattle.path_trees.specs.Levels.{IsTaken}
use Rattle.path_trees.proofs.Taken.{IsIn, taken}
use Rattle.path_trees.proofs.Trees.{AreGood, good_fits}
use Rattle.path_trees.proofs.MadeObjects.{grown-trees}

nothing-good : (S : List Object) → AreGood S []
nothing-good S = record { entries = tt; held = tt }

pub empty-fits : (S : List Object) → of_body S Tree [] None ≡ None
empty-fits S = good_fits S [] (nothing-good S)

is-in : (S R : List Object) → IsStore S → IsTaken S [] R → IsIn (λ b. b ≡ []) S R [] []
is-in S R s t = taken (λ b. b ≡ []) S R [] [] s refl (nothing-good S) refl t

pub empty-stands : (S R : List Object) (n : Bytes) → IsStore S → n ≡ name Tree [] → IsTaken S [] R → StandsFor R n []
empty-stands S R n s e t = let i = is-in S R s t in subst (λ n. StandsFor R n []) (sym e) (record { held = i.held; map = i.map })

pub empty-grown : (S R : List Object) → IsStore S → IsStore R → IsTaken S [] R → IsGrownBy (IsOnly Tree []) S R
empty-grown S R s r t =
    let i = is-in S R s t in
    grown-trees (λ b. b ≡ []) (IsOnly Tree []) (λ o k e. λ j. record { kind = k j; body = e j }) S R r i.newer i.above i.trees

-- it was a store before
pub old-store : (S R : List Object) → IsStore R → IsTaken S [] R → IsStore S
old-store S R r t = by (has_name S (name Tree [])) (subst IsStore t.1 r)
  where
    by : (b : Bool) → IsStore (cond b S (record { kind = Tree; body = [] } ∷ S)) → IsStore S
    by true h = h
    by false h = h.2

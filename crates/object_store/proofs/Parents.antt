-- A commit's parents, one after another.
use Rattle.std.proofs.Common.{◌≡◌, ℕ, zero, suc, true, false, cond, List, [], ◌∷◌, drop, Option, Some, refl, sym, ap, ◌∙◌}
use Rattle.std.specs.Prelude.{slice_get}
use Rattle.std.specs.Option.{option_map_or}
use Rattle.git_objects.specs.Paths.{Bytes}
use Rattle.git_objects.specs.declared.kind.Kind.TheVariants.{Commit}
use Rattle.object_store.specs.Objects.{Object, has, missing_parent}

-- the parent at i is held, or there is none
pub missing-next : (S : List Object) (ps : List Bytes) (i : ℕ) (o : Option Bytes) → o ≡ slice_get ps i → option_map_or (has Commit S) o true ≡ true → missing_parent S (drop (suc i) ps) ≡ missing_parent S (drop i ps)
missing-next S [] zero o e h = refl
missing-next S [] (suc i) o e h = refl
missing-next S (p ∷ ps) zero o e h = sym (ap (λ b. cond b (missing_parent S ps) (Some p)) (ap (λ q. option_map_or (has Commit S) q true) (sym e) ∙ h))
missing-next S (p ∷ ps) (suc i) o e h = missing-next S ps i o e h

-- the parent at i is the first that isn't held
pub missing-here : (S : List Object) (ps : List Bytes) (i : ℕ) (p : Bytes) → Some p ≡ slice_get ps i → has Commit S p ≡ false → missing_parent S (drop i ps) ≡ Some p
missing-here S [] i p e h = cc
missing-here S (q ∷ ps) zero p e h =
    ap (λ b. cond b (missing_parent S ps) (Some q)) (ap (λ o. option_map_or (has Commit S) o true) (sym e) ∙ h) ∙ sym e
missing-here S (q ∷ ps) (suc i) p e h = missing-here S ps i p e h

-- Objects that are found under their names.
use Rattle.std.proofs.Common.{◌≡◌, true, false, cond, List, [], ◌∷◌, ◌++◌, refl, sym, ap, ◌∙◌, Some, arith}
use Rattle.std.specs.Prelude.{Contains}
use Rattle.std.specs.Cmp.Lexicographic.{bytes_decides}
use Rattle.std.proofs.lemmas.List.Elements.{Contains-append_right}
use Rattle.git_objects.specs.Paths.{Bytes, same_bytes}
use Rattle.git_objects.proofs.Maps.{first_some}
use Rattle.object_store.specs.Objects.{Object, object_name, find_named}

pub found : (os : List Object) (n : Bytes) (o : Object) → find_named os n ≡ Some o → (Contains os o) × (object_name o ≡ n)
unfolding find_named
found [] n o e = cc
found (p ∷ os) n o e =
    elim (same_bytes (object_name p) n) as (λ b. same_bytes (object_name p) n ≡ b → cond b (Some p) (find_named os n) ≡ Some o →
    (Contains (p ∷ os) o) × (object_name o ≡ n)) [
      | true ↦ λ k h. let same : p ≡ o = cc in ((0, omega arith, same), ap object_name (sym same) ∙ (bytes_decides (object_name p) n).0 k)
      | false ↦ λ k h. let r = found os n o h in (Contains-append_right (p ∷ []) os o r.0, r.1)
    ] refl e

pub find-append : (a b : List Object) (n : Bytes) → find_named (a ++ b) n ≡ first_some (find_named a n) (find_named b n)
unfolding find_named
find-append [] b n = refl
find-append (o ∷ a) b n =
    elim (same_bytes (object_name o) n) as (λ t. cond t (Some o) (find_named (a ++ b) n) ≡ first_some (cond t (Some o) (find_named a n)) (find_named b n)) [
      | true ↦ refl
      | false ↦ find-append a b n
    ]

-- What lies in a cone that no entry of a list meets has no image.
use Rattle.std.proofs.Common.{◌≡◌, ◌∙◌, ◌&&◌, ◌||◌, Bool, false, true, [], ◌∷◌, List, Option, Some, None, refl, sym, ap, true≢false, inl, inr}
use Rattle.std.specs.Prelude.{◌⊎◌, is_some}
use Rattle.std.specs.Option.{is_none, option_map_or}
use Rattle.git_objects.specs.Paths.{Path, is_path}
use Rattle.git_objects.specs.Trees.{Flat, Leaf}
use Rattle.decision_lists.specs.Entries.{Cone, Entry, decide, run, tail}
use Rattle.decision_lists.specs.Operations.{covers}
use Rattle.decision_lists.proofs.Clash.{alive-parts, nested}
use Rattle.filter_text.specs.Filters.{Filter}
use Rattle.filter_routes.specs.Images.{image}
use Rattle.filter_routes.specs.Lists.{IsListOf}
use Rattle.decision_lists.proofs.Valid.{full-path}
use Rattle.filter_unapply.specs.Laying.{differs_at, is_unseen}
use Rattle.filter_unapply.specs.Shadows.{IsShadow, ShowsNone, is_apart, is_within}

neither : (a b : Bool) → (a || b) ≡ false → (a ≡ false) × (b ≡ false)
neither true b e = absurd (true≢false e)
neither false b e = (refl, e)

module _ (c d : Cone) (p : Path) (no : covers c d ≡ false) (nor : covers d c ≡ false) where
  never : (covers c d ≡ true) ⊎ (covers d c ≡ true) → ⊥
  never (inl k) = true≢false (sym k ∙ no)
  never (inr k) = true≢false (sym k ∙ nor)

  by : (o o' : Option Path) → tail c p ≡ o → tail d p ≡ o' → is_some o' ≡ true → tail c p ≡ None
  by None o' e e' h = e
  by (Some r) None e e' h = absurd (true≢false (sym h))
  by (Some r) (Some r') e e' h = absurd (never (nested c d p r r' e e'))

  not-in-both : is_some (tail d p) ≡ true → tail c p ≡ None
  not-in-both h = by (tail c p) (tail d p) refl refl h

gives-none : (o : Option Path) (more : Option Path) → more ≡ None → decide o None more ≡ None
gives-none None more e = e
gives-none (Some r) more e = refl

run-none : (es : List Entry) (c : Cone) (p : Path) → is_apart es c ≡ true → is_some (tail c p) ≡ true → run None es p ≡ None
run-none [] c p a h = refl
run-none ((d, None) ∷ es) c p a h = gives-none (tail d p) (run None es p) (run-none es c p a h)
run-none ((d, Some t) ∷ es) c p a h =
    let k = alive-parts (covers d c || covers c d) (is_apart es c) a in
    let n = neither (covers d c) (covers c d) k.0 in
    ap (λ o. decide o (Some t) (run None es p)) (not-in-both d c p n.0 n.1 h) ∙ run-none es c p k.1 h

pub shows-none : (f : Filter) (es : List Entry) (c : Cone) → IsListOf f es → is_apart es c ≡ true → ShowsNone f c
shows-none f es c list apart p valid h = sym (list.gives p (full-path p valid)) ∙ run-none es c p apart h

-- a leaf in such a cone isn't unseen
pub never-unseen : (r r2 : Filter) (n : Flat) (o : Option Entry) (p : Path) (x : Leaf) → IsShadow r2 o → is_path p ≡ true → is_within o p ≡ true → false ≡ is_unseen r r2 n (p, x)
never-unseen r r2 n None p x shadow valid h = absurd (true≢false (sym h))
never-unseen r r2 n (Some e) p x shadow valid h =
    sym (ap (λ i. is_none (image r p) && option_map_or (differs_at n x) i false) (shadow p valid h) ∙ and-none (is_none (image r p)))
  where
    and-none : (b : Bool) → (b && false) ≡ false
    and-none true = refl
    and-none false = refl

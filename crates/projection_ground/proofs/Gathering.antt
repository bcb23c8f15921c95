-- Projections of parents, one after another.
use Rattle.std.proofs.Common.{◌≡◌, ◌+◌, ℕ, Bool, true, false, cond, ◌||◌, List, [], ◌∷◌, ◌++◌, map, drop, get_or, length, ◌<◌, Option, Some, None, refl, sym, ap, ◌∙◌}
use Rattle.std.specs.List.{filter_map, cons_option, list_any}
use Rattle.std.proofs.lemmas.List.{map-append, drop_more}
use Rattle.git_objects.specs.Paths.{Bytes, same_bytes}
use Rattle.commit_map.specs.Shown as shown
use Rattle.commit_map.specs.Shown.{shown_value}
use Rattle.commit_map.specs.declared.commit_map.Shown.{Shown}
use Rattle.projection_laws.specs.Projections.{add_shown, distinct_from, is_same}
use Rattle.projection_ground.specs.Choosing.{with_known}

-- whether one of these has the name of a projection
abbrev pub among : Shown → List Shown → Bool
among p xs = list_any (λ (q : Shown). same_bytes p.commit.0 q.commit.0) xs

any-map : (p : shown.Shown) (xs : List Shown) → list_any (is_same p) (map shown_value xs) ≡ list_any (λ (q : Shown). same_bytes p.commit q.commit.0) xs
any-map p [] = refl
any-map p (x ∷ xs) = ap (λ b. same_bytes p.commit x.commit.0 || b) (any-map p xs)

pub with-old : (p : Shown) (xs : List Shown) → among p xs ≡ true → map shown_value xs ≡ add_shown (map shown_value xs) (shown_value p)
with-old p xs h = sym (ap (λ b. cond b (map shown_value xs) (map shown_value xs ++ shown_value p ∷ [])) (any-map (shown_value p) xs ∙ h))

pub with-new : (p : Shown) (xs : List Shown) → among p xs ≡ false → map shown_value (xs ++ p ∷ []) ≡ add_shown (map shown_value xs) (shown_value p)
with-new p xs h =
    map-append shown_value xs (p ∷ [])
    ∙ sym (ap (λ b. cond b (map shown_value xs) (map shown_value xs ++ shown_value p ∷ [])) (any-map (shown_value p) xs ∙ h))

with-cons : (before : List shown.Shown) (o : Option shown.Shown) (ps : List shown.Shown) → distinct_from (with_known before o) ps ≡ distinct_from before (cons_option o ps)
with-cons before None ps = refl
with-cons before (Some p) ps = refl

-- one place more
pub gather-step : (found : ℕ → Option shown.Shown) (ps : List ℕ) (i d : ℕ) (before after : List shown.Shown) → i < length ps → after ≡ with_known before (found (get_or ps i d)) →
    distinct_from after (filter_map found (drop (i + 1) ps)) ≡ distinct_from before (filter_map found (drop i ps))
gather-step found ps i d before after l e =
    ap (λ bs. distinct_from bs (filter_map found (drop (i + 1) ps))) e
    ∙ with-cons before (found (get_or ps i d)) (filter_map found (drop (i + 1) ps))
    ∙ sym (ap (λ qs. distinct_from before (filter_map found qs)) (drop_more ps i d l))

pub filter-names : (f : ℕ → Bytes) (found : Bytes → Option shown.Shown) (ps : List ℕ) → filter_map found (map f ps) ≡ filter_map (λ p. found (f p)) ps
filter-names f found [] = refl
filter-names f found (p ∷ ps) = ap (cons_option (found (f p))) (filter-names f found ps)

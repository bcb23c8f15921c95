-- The first entries of a map, taken over one by one.
use Rattle.std.proofs.Common.{◌≡◌, ◌+◌, ℕ, zero, suc, slice_get, Bool, true, false, cond, [], ◌∷◌, ◌++◌, take, Option, Some, None, refl, sym, ap, ◌∙◌, arith, true≢false}
use Rattle.std.specs.Option.{unwrap_or, is_some, option_map}
use Rattle.std.proofs.lemmas.Option.{none-some}
use Rattle.std.specs.Cmp.Lexicographic.{bytes_decides}
use Rattle.git_objects.specs.Paths.{Bytes, same_bytes}
use Rattle.commit_map.specs.Rules.{rule_number}
use Rattle.commit_map.specs.declared.rule.Rule.{Rule}
use Rattle.commit_map.specs.declared.rule.Rule.TheVariants as rules
use Rattle.commit_map.specs.Shown.{Entries, Shown, kept_at}
use Rattle.state_items.specs.Items.{is_rule}

-- ---- the first entries of a map

-- the first of two answers that there is
abbrev either : Option (Option Shown) → Option (Option Shown) → Option (Option Shown)
either (Some a) b = Some a
either None b = b

kept-both : (n : Bytes) (xs ys : Entries) → kept_at n (xs ++ ys) ≡ either (kept_at n xs) (kept_at n ys)
kept-both n [] ys = refl
kept-both n (x ∷ xs) ys =
    elim (same_bytes n x.0) as (λ b. cond b (Some x.1) (kept_at n (xs ++ ys)) ≡ either (cond b (Some x.1) (kept_at n xs)) (kept_at n ys)) [
      | true ↦ refl
      | false ↦ kept-both n xs ys
    ]

take-suc : (i : ℕ) (xs : Entries) (e : Bytes × Option Shown) → slice_get xs i ≡ Some e → take (suc i) xs ≡ take i xs ++ e ∷ []
take-suc i [] e h = absurd (none-some e h)
take-suc zero (x ∷ xs) e h = ap (λ (o : Option (Bytes × Option Shown)). unwrap_or o x ∷ []) h
take-suc (suc i) (x ∷ xs) e h = ap (λ (q : Entries). x ∷ q) (take-suc i xs e h)

plus-one : (i : ℕ) → i + 1 ≡ suc i
plus-one i = omega arith

take-one : (i : ℕ) (xs : Entries) (e : Bytes × Option Shown) → slice_get xs i ≡ Some e → take (i + 1) xs ≡ take i xs ++ e ∷ []
take-one i xs e h = ap (λ (j : ℕ). take j xs) (plus-one i) ∙ take-suc i xs e h

-- an entry that isn't there is put behind
pub front-more : (map front : Entries) (i : ℕ) (e : Bytes × Option Shown) → ((n : Bytes) → kept_at n front ≡ kept_at n (take i map)) → slice_get map i ≡ Some e
    → (n : Bytes) → kept_at n (front ++ e ∷ []) ≡ kept_at n (take (i + 1) map)
front-more map front i e w h n =
    kept-both n front (e ∷ []) ∙ ap (λ o. either o (kept_at n (e ∷ []))) (w n) ∙ sym (kept-both n (take i map) (e ∷ [])) ∙ ap (kept_at n) (sym (take-one i map e h))

-- an entry that is there is passed over
pub front-same : (map front : Entries) (i : ℕ) (e : Bytes × Option Shown) (o : Option Shown) → ((n : Bytes) → kept_at n front ≡ kept_at n (take i map)) → slice_get map i ≡ Some e
    → kept_at e.0 front ≡ Some o → (n : Bytes) → kept_at n front ≡ kept_at n (take (i + 1) map)
front-same map front i e o w h k n = by (same_bytes n e.0) refl ∙ ap (λ a. either a (kept_at n (e ∷ []))) (w n) ∙ sym (kept-both n (take i map) (e ∷ [])) ∙ ap (kept_at n) (sym (take-one i map e h))
  where
    none : (a : Option (Option Shown)) → a ≡ either a None
    none (Some a) = refl
    none None = refl

    by : (b : Bool) → same_bytes n e.0 ≡ b → kept_at n front ≡ either (kept_at n front) (kept_at n (e ∷ []))
    by true q =
        let there : kept_at n front ≡ Some o = ap (λ m. kept_at m front) ((bytes_decides n e.0).0 q) ∙ k in
        there ∙ ap (λ a. either a (kept_at n (e ∷ []))) (sym there)
    by false q = none (kept_at n front) ∙ ap (λ b. either (kept_at n front) (cond b (Some e.1) None)) (sym q)

pub front-there : {X : Type 0} (f : X → Option Shown) (a : Option X) (map front : Entries) (i : ℕ) (e : Bytes × Option Shown) → is_some a ≡ true → option_map f a ≡ kept_at e.0 front
    → ((n : Bytes) → kept_at n front ≡ kept_at n (take i map)) → slice_get map i ≡ Some e → (n : Bytes) → kept_at n front ≡ kept_at n (take (i + 1) map)
front-there f None map front i e h g w s = absurd (true≢false (sym h))
front-there f (Some o) map front i e h g w s = front-same map front i e (f o) w s (sym g)

-- ---- rules

pub rule-known : (r : Rule) → is_rule (rule_number r) ≡ true
rule-known rules.One = refl
rule-known rules.Two = refl

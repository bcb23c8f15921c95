-- Where the originals of pushed commits stand, looked up and added.
use Rattle.std.specs.Prelude.{◌≡◌, refl, ℕ, Bool, true, false, cond, is_some, List, [], ◌∷◌, ◌++◌, Option, Some, None}
use Rattle.std.specs.Option.{option_or}
use Rattle.std.specs.Map.{lookup}
use Rattle.std.specs.Cmp.Lexicographic.{bytes_decides}
use Rattle.std.proofs.Common.{ap, sym, ◌∙◌, true≢false}
use Rattle.std.proofs.lemmas.Option.{none-some}
use Rattle.indexmap.specs.IndexMap.{insert_entry}
use Rattle.git_objects.specs.Paths.{Bytes, same_bytes}
use Rattle.git_objects.specs.declared.name.Name.{Name}
use Rattle.merge_push.specs.Places.{Places, place_at, place_values, with_place}

abbrev is_key : Bytes → Name → Bool
is_key n j = same_bytes n j.0

pub place-lookup : (n : Bytes) (es : List (Name × ℕ)) → lookup (is_key n) es ≡ place_at n (place_values es)
place-lookup n [] = refl
place-lookup n (e ∷ es) = ap (λ (o : Option ℕ). cond (same_bytes n e.0.0) (Some e.1) o) (place-lookup n es)

-- one that isn't there goes behind the others
pub place-behind : (k : Name) (v : ℕ) (es : List (Name × ℕ)) → place_at k.0 (place_values es) ≡ None
    → place_values (insert_entry (λ (m n : Name). same_bytes m.0 n.0) es k v) ≡ place_values es ++ (k.0, v) ∷ []
place-behind k v [] h = refl
place-behind k v (e ∷ es) h = by (λ f. place-behind k v es f) (same_bytes k.0 e.0.0) h
  where
    by : (place_at k.0 (place_values es) ≡ None → place_values (insert_entry (λ (m n : Name). same_bytes m.0 n.0) es k v) ≡ place_values es ++ (k.0, v) ∷ [])
        → (b : Bool) → cond b (Some e.1) (place_at k.0 (place_values es)) ≡ None
        → place_values (cond b ((e.0, v) ∷ es) (e ∷ insert_entry (λ (m n : Name). same_bytes m.0 n.0) es k v)) ≡ (e.0.0, e.1) ∷ (place_values es ++ (k.0, v) ∷ [])
    by rest true f = absurd (none-some e.1 (sym f))
    by rest false f = ap (λ (others : Places). (e.0.0, e.1) ∷ others) (rest f)

none-is : {A : Type 0} (o : Option A) → is_some o ≡ false → o ≡ None
none-is None k = refl
none-is (Some x) k = absurd (true≢false k)

-- one more that isn't there
pub place-added : (ps es : Places) (n : Bytes) (p : ℕ) (o : Option ℕ) → es ≡ ps → o ≡ place_at n ps → is_some o ≡ false
    → (place_at n es ≡ None) × (es ++ (n, p) ∷ [] ≡ with_place ps n p)
place-added ps es n p o same e k =
    let none : place_at n ps ≡ None = sym e ∙ none-is o k in (
      ap (place_at n) same ∙ none,
      ap (λ (ys : Places). ys ++ (n, p) ∷ []) same ∙ sym (ap (λ (x : Option ℕ). cond (is_some x) ps (ps ++ (n, p) ∷ [])) none),
    )

or-none : {A : Type 0} (o : Option A) → o ≡ option_or o None
or-none None = refl
or-none (Some x) = refl

or-some : {A : Type 0} (o p : Option A) (y : A) → o ≡ Some y → o ≡ option_or o p
or-some None p y e = absurd (none-some y e)
or-some (Some x) p y e = refl

place-append : (n : Bytes) (es more : Places) → place_at n (es ++ more) ≡ option_or (place_at n es) (place_at n more)
place-append n [] more = refl
place-append n (e ∷ es) more = by (same_bytes n e.0) (place-append n es more)
  where
    by : (b : Bool) → place_at n (es ++ more) ≡ option_or (place_at n es) (place_at n more) → cond b (Some e.1) (place_at n (es ++ more)) ≡ option_or (cond b (Some e.1) (place_at n es)) (place_at n more)
    by true h = refl
    by false h = h

-- what is said of a commit with one more
pub place-with : (m : Bytes) (es : Places) (n : Bytes) (p : ℕ) → place_at m (with_place es n p) ≡ option_or (place_at m es) (cond (same_bytes m n) (Some p) None)
place-with m es n p = by (place_at n es) refl
  where
    there : (y : ℕ) → place_at n es ≡ Some y → (b : Bool) → same_bytes m n ≡ b → place_at m es ≡ option_or (place_at m es) (cond b (Some p) None)
    there y e true q = or-some (place_at m es) (Some p) y (ap (λ (j : Bytes). place_at j es) ((bytes_decides m n).0 q) ∙ e)
    there y e false q = or-none (place_at m es)

    by : (o : Option ℕ) → place_at n es ≡ o → place_at m (cond (is_some o) es (es ++ (n, p) ∷ [])) ≡ option_or (place_at m es) (cond (same_bytes m n) (Some p) None)
    by None e = place-append m es ((n, p) ∷ [])
    by (Some y) e = there y e (same_bytes m n) refl

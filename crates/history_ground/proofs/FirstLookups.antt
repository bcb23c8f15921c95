-- Look-ups of projections, and of the first commits that have them.
use Rattle.std.specs.Prelude.{◌≡◌, refl, ℕ, ◌+◌, suc, Bool, true, false, cond, is_some, length, List, [], ◌∷◌, ◌++◌, Option, Some, None}
use Rattle.std.specs.Option.{option_map, option_or}
use Rattle.std.specs.Map.{lookup}
use Rattle.std.specs.Cmp.Lexicographic.{bytes_decides}
use Rattle.std.proofs.Common.{ap, sym, ◌∙◌, add-one, true≢false}
use Rattle.std.proofs.lemmas.Option.{none-some}
use Rattle.indexmap.specs.IndexMap.{insert_entry}
use Rattle.git_objects.specs.Lists.{Each}
use Rattle.git_objects.specs.Paths.{Bytes, same_bytes}
use Rattle.git_objects.specs.declared.name.Name.{Name}
use Rattle.commit_map.specs.Shown.{Entries, Shown}
use Rattle.projection_laws.proofs.HistoryLemmas.{each-append}
use Rattle.history_ground.specs.Origins.{First, Firsts, first_at, first_of, first_value, first_values, is_shown_by, with_first}
use Rattle.history_ground.specs.declared.origins.First.{First as FirstNames}

abbrev pub is_key : Bytes → Name → Bool
is_key n j = same_bytes n j.0

pub first-lookup : (n : Bytes) (es : List (Name × FirstNames)) → option_map first_value (lookup (is_key n) es) ≡ first_of n (first_values es)
first-lookup n [] = refl
first-lookup n (e ∷ es) =
    elim (same_bytes n e.0.0) as (λ b. option_map first_value (cond b (Some e.1) (lookup (is_key n) es)) ≡ cond b (Some (first_value e.1)) (first_of n (first_values es))) [
      | true ↦ refl
      | false ↦ first-lookup n es
    ]

-- one that isn't there goes behind the others
pub first-behind : (k : Name) (v : FirstNames) (es : List (Name × FirstNames)) → first_of k.0 (first_values es) ≡ None
    → first_values (insert_entry (λ (m n : Name). same_bytes m.0 n.0) es k v) ≡ first_values es ++ (k.0, first_value v) ∷ []
first-behind k v [] h = refl
first-behind k v (e ∷ es) h = by (λ f. first-behind k v es f) (same_bytes k.0 e.0.0) h
  where
    by : (first_of k.0 (first_values es) ≡ None → first_values (insert_entry (λ (m n : Name). same_bytes m.0 n.0) es k v) ≡ first_values es ++ (k.0, first_value v) ∷ [])
        → (b : Bool) → cond b (Some (first_value e.1)) (first_of k.0 (first_values es)) ≡ None
        → first_values (cond b ((e.0, v) ∷ es) (e ∷ insert_entry (λ (m n : Name). same_bytes m.0 n.0) es k v)) ≡ (e.0.0, first_value e.1) ∷ (first_values es ++ (k.0, first_value v) ∷ [])
    by rest true f = absurd (none-some (first_value e.1) (sym f))
    by rest false f = ap (λ (others : Firsts). (e.0.0, first_value e.1) ∷ others) (rest f)

none-first : {A B : Type 0} (f : A → B) (o : Option A) (p : Option B) → option_map f o ≡ p → is_some o ≡ false → p ≡ None
none-first f None p e k = sym e
none-first f (Some x) p e k = absurd (true≢false k)

-- one more that isn't there
pub first-added : (os es : Firsts) (n : Bytes) (x : First) (o : Option FirstNames) → es ≡ os → option_map first_value o ≡ first_of n os → is_some o ≡ false
    → (first_of n es ≡ None) × (es ++ (n, x) ∷ [] ≡ with_first os n x)
first-added os es n x o same e k =
    let none : first_of n os ≡ None = none-first first_value o (first_of n os) e k in (
      ap (first_of n) same ∙ none,
      ap (λ (ys : Firsts). ys ++ (n, x) ∷ []) same ∙ sym (ap (λ (p : Option First). cond (is_some p) os (os ++ (n, x) ∷ [])) none),
    )

-- ---- one more

or-none : {A : Type 0} (o : Option A) → o ≡ option_or o None
or-none None = refl
or-none (Some x) = refl

or-some : {A : Type 0} (o p : Option A) (y : A) → o ≡ Some y → o ≡ option_or o p
or-some None p y e = absurd (none-some y e)
or-some (Some x) p y e = refl

map-or : {A B : Type 0} (f : A → B) (o p : Option A) → option_map f (option_or o p) ≡ option_or (option_map f o) (option_map f p)
map-or f None p = refl
map-or f (Some x) p = refl

first-append : (n : Bytes) (os more : Firsts) → first_of n (os ++ more) ≡ option_or (first_of n os) (first_of n more)
first-append n [] more = refl
first-append n (o ∷ os) more = by (same_bytes n o.0) (first-append n os more)
  where
    by : (b : Bool) → first_of n (os ++ more) ≡ option_or (first_of n os) (first_of n more) → cond b (Some o.1) (first_of n (os ++ more)) ≡ option_or (cond b (Some o.1) (first_of n os)) (first_of n more)
    by true h = refl
    by false h = h

-- what is said of a projection with one more
first-with : (m : Bytes) (os : Firsts) (n : Bytes) (x : First) → first_of m (with_first os n x) ≡ option_or (first_of m os) (cond (same_bytes m n) (Some x) None)
first-with m os n x = by (first_of n os) refl
  where
    there : (y : First) → first_of n os ≡ Some y → (b : Bool) → same_bytes m n ≡ b → first_of m os ≡ option_or (first_of m os) (cond b (Some x) None)
    there y e true q = or-some (first_of m os) (Some x) y (ap (λ (j : Bytes). first_of j os) ((bytes_decides m n).0 q) ∙ e)
    there y e false q = or-none (first_of m os)

    by : (o : Option First) → first_of n os ≡ o → first_of m (cond (is_some o) os (os ++ (n, x) ∷ [])) ≡ option_or (first_of m os) (cond (same_bytes m n) (Some x) None)
    by None e = first-append m os ((n, x) ∷ [])
    by (Some y) e = there y e (same_bytes m n) refl

-- the place of the first that passes, with one more behind
first-at-more : {A : Type 0} (test : A → Bool) (xs : List A) (x : A) → first_at test (xs ++ x ∷ []) ≡ option_or (first_at test xs) (cond (test x) (Some (length xs)) None)
first-at-more test [] x = refl
first-at-more test (y ∷ ys) x = by (test y) (first-at-more test ys x)
  where
    shifted : (o : Option ℕ) (b : Bool) → option_map (λ n. n + 1) (option_or o (cond b (Some (length ys)) None)) ≡ option_or (option_map (λ n. n + 1) o) (cond b (Some (suc (length ys))) None)
    shifted (Some n) b = refl
    shifted None true = ap (λ (n : ℕ). Some n) (add-one (length ys))
    shifted None false = refl

    by : (b : Bool) → first_at test (ys ++ x ∷ []) ≡ option_or (first_at test ys) (cond (test x) (Some (length ys)) None)
        → cond b (Some 0) (option_map (λ n. n + 1) (first_at test (ys ++ x ∷ []))) ≡ option_or (cond b (Some 0) (option_map (λ n. n + 1) (first_at test ys))) (cond (test x) (Some (suc (length ys))) None)
    by true h = refl
    by false h = ap (option_map (λ n. n + 1)) h ∙ shifted (first_at test ys) (test x)

-- ---- first commits of entries, the oldest first

-- exactly the place of the first commit with each projection
abbrev pub AreFirstIn : Entries → Firsts → Type 0
AreFirstIn es os = (n : Bytes) → option_map (λ (x : First). x.place) (first_of n os) ≡ first_at (is_shown_by n) es

-- with one that is projected to nothing
pub firsts-still : (es : Entries) (os : Firsts) (c : Bytes) → AreFirstIn es os → AreFirstIn (es ++ (c, None) ∷ []) os
firsts-still es os c h = λ n. h n ∙ or-none (first_at (is_shown_by n) es) ∙ sym (first-at-more (is_shown_by n) es (c, None))

-- with one that is projected to a commit
pub firsts-more : (es : Entries) (os : Firsts) (c : Bytes) (s : Shown) (x : First) → x.place ≡ length es → AreFirstIn es os → AreFirstIn (es ++ (c, Some s) ∷ []) (with_first os s.commit x)
firsts-more es os c s x e h = λ n.
    ap (option_map (λ (y : First). y.place)) (first-with n os s.commit x)
    ∙ map-or (λ (y : First). y.place) (first_of n os) (cond (same_bytes n s.commit) (Some x) None)
    ∙ (λ i. option_or (h n i) (placed (same_bytes n s.commit) i))
    ∙ sym (first-at-more (is_shown_by n) es (c, Some s))
  where
    placed : (b : Bool) → option_map (λ (y : First). y.place) (cond b (Some x) None) ≡ cond b (Some (length es)) None
    placed true = ap (λ (n : ℕ). Some n) e
    placed false = refl

pub each-with : (P : Bytes × First → Type 0) (os : Firsts) (n : Bytes) (x : First) → Each P os → P (n, x) → Each P (with_first os n x)
each-with P os n x h k = by (is_some (first_of n os))
  where
    by : (b : Bool) → Each P (cond b os (os ++ (n, x) ∷ []))
    by true = h
    by false = each-append P os ((n, x) ∷ []) h (k, tt)

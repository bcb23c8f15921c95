-- Commits one by one, and what is known of each.
use Rattle.std.proofs.Common.{◌≡◌, ℕ, zero, suc, ◌+◌, ◌<◌, Bool, true, false, cond, ◌||◌, List, [], ◌∷◌, ◌++◌, length, map, take, drop, get_or, take-append-drop, Some, None, refl, sym, ap, ◌∙◌, arith, true≢false}
use Rattle.std.specs.List.{list_all}
use Rattle.std.specs.Map.{lookup}
use Rattle.std.specs.Cmp.{first_so, second_so}
use Rattle.std.proofs.lemmas.List.{map-append}
use Rattle.git_objects.specs.Paths.{Bytes, same_bytes}
use Rattle.git_objects.specs.Parts.{name_bytes}
use Rattle.git_objects.specs.declared.kind.Kind.TheVariants.{Commit as CommitKind}
use Rattle.git_objects.specs.declared.name.Name.{Name}
use Rattle.git_objects.proofs.Basics.{same_bytes-back}
use Rattle.git_objects.proofs.IdentSpelling.{not-false}
use Rattle.object_store.specs.Objects.{Object, has}
use Rattle.fast_export.specs.ExportTexts.{is_among}
use Rattle.fast_export.specs.Given.{Given, commit_names, is_named}
use Rattle.fast_export.specs.Histories.{IsHistoryIn, are_distinct}

pub split_at : {A : Type 0} (xs : List A) (i : ℕ) (d : A) → i < length xs → xs ≡ take i xs ++ get_or xs i d ∷ drop (suc i) xs
split_at [] i d h = absurd (omega arith)
split_at (x ∷ xs) zero d h = refl
split_at (x ∷ xs) (suc i) d h = ap (λ ys. x ∷ ys) (split_at xs i d (omega arith))

pub take_more : {A : Type 0} (xs : List A) (i : ℕ) (d : A) → i < length xs → take (i + 1) xs ≡ take i xs ++ get_or xs i d ∷ []
take_more [] i d h = absurd (omega arith)
take_more (x ∷ xs) zero d h = let e : 0 + 1 ≡ suc zero = omega arith in ap (λ n. take n (x ∷ xs)) e
take_more (x ∷ xs) (suc i) d h = let e : suc i + 1 ≡ suc (i + 1) = omega arith in ap (λ n. take n (x ∷ xs)) e ∙ ap (λ ys. x ∷ ys) (take_more xs i d (omega arith))

all_behind : (p : Bytes → Bool) (xs : List Bytes) (y : Bytes) (ys : List Bytes) → list_all p (xs ++ y ∷ ys) ≡ true → p y ≡ true
all_behind p [] y ys h = first_so _ _ h
all_behind p (x ∷ xs) y ys h = all_behind p xs y ys (second_so _ _ h)

neither : (a b : Bool) → (a || b) ≡ false → (a ≡ false) × (b ≡ false)
neither true b h = absurd (true≢false h)
neither false b h = (refl, h)

not_behind : (x y : Bytes) (xs ys : List Bytes) → is_among x (xs ++ y ∷ ys) ≡ false → same_bytes x y ≡ false
not_behind x y [] ys h = (neither _ _ h).0
not_behind x y (z ∷ xs) ys h = not_behind x y xs ys (neither _ _ h).1

-- what comes later isn't among what came before
not_before : (xs : List Bytes) (y : Bytes) (ys : List Bytes) → are_distinct (xs ++ y ∷ ys) ≡ true → is_among y xs ≡ false
not_before [] y ys h = refl
not_before (x ∷ xs) y ys h =
    let one : same_bytes y x ≡ false = same_bytes-back y x ∙ not_behind x y xs ys (not-false _ (first_so _ _ h)) in
    (λ i. one i || not_before xs y ys (second_so _ _ h) i)

-- a name that isn't there has no mark
pub no_mark : (n : Name) (es : List (Name × ℕ)) → is_among n.0 (map name_bytes (map (λ (e : Name × ℕ). e.0) es)) ≡ false → lookup (is_named n) es ≡ None
no_mark n [] h = refl
no_mark n (e ∷ es) h =
    let k = neither _ _ h in
    (λ i. cond (k.0 i) (Some e.1) (lookup (is_named n) es)) ∙ no_mark n es k.1

module _ (S : List Object) (names : List Name) (history : IsHistoryIn S (map name_bytes names)) (i : ℕ) (d : Name) (within : i < length names) where
  abbrev n : Name
  n = get_or names i d

  parts : map name_bytes names ≡ map name_bytes (take i names) ++ n.0 ∷ map name_bytes (drop (suc i) names)
  parts =
      ap (map name_bytes) (split_at names i d within) ∙ map-append name_bytes (take i names) (n ∷ drop (suc i) names)

  pub commit_held : has CommitKind S n.0 ≡ true
  commit_held = all_behind (has CommitKind S) (map name_bytes (take i names)) n.0 (map name_bytes (drop (suc i) names)) (ap (list_all (has CommitKind S)) (sym parts) ∙ history.held)

  pub commit_new : (g : Given) → commit_names g ≡ take i names → lookup (is_named n) g.commits ≡ None
  commit_new g e =
      no_mark n g.commits
      (ap (λ (ns : List Name). is_among n.0 (map name_bytes ns)) e
      ∙ not_before (map name_bytes (take i names)) n.0 (map name_bytes (drop (suc i) names)) (ap are_distinct (sym parts) ∙ history.distinct))

  pub one_name : take (i + 1) names ≡ take i names ++ n ∷ []
  one_name = take_more names i d within

  pub names_more : map name_bytes (take (i + 1) names) ≡ map name_bytes (take i names) ++ n.0 ∷ []
  names_more = ap (map name_bytes) one_name ∙ map-append name_bytes (take i names) (n ∷ [])

  -- all that is listed, from the next on
  pub names_left : map name_bytes names ≡ map name_bytes (take (i + 1) names) ++ map name_bytes (drop (i + 1) names)
  names_left = ap (map name_bytes) (sym (take-append-drop (i + 1) names)) ∙ map-append name_bytes (take (i + 1) names) (drop (i + 1) names)

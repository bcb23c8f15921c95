-- Names that are wanted, in a set that grows, and what is left of a list of commits.
use Rattle.std.proofs.Common.{◌≡◌, ℕ, zero, suc, ◌+◌, ◌-◌, ◌<◌, ◌≤◌, Bool, true, false, cond, ◌||◌, List, [], ◌∷◌, ◌++◌, length, map, take, drop, get_or, reverse, Some, None, refl, sym, ap, ◌∙◌, append_assoc, append-nil, arith}
use Rattle.std.specs.List.{list_any, list_all}
use Rattle.std.specs.Option.{option_map_or}
use Rattle.std.specs.Cmp.{first_so, second_so}
use Rattle.std.specs.Cmp.Lexicographic.{bytes_decides}
use Rattle.std.proofs.lemmas.List.{map-append, drop_all, drop-map, take-map, take_all, take_more, reverse-append, length-map}
use Rattle.std.proofs.lemmas.List.Folds.{list_any-append}
use Rattle.std.proofs.Math.Seq.{drop-cons}
use Rattle.git_objects.specs.Paths.{Bytes, same_bytes}
use Rattle.git_objects.specs.Parts.{name_bytes}
use Rattle.git_objects.specs.Commits.{Commit}
use Rattle.git_objects.specs.CommitBodies.{commit_from}
use Rattle.git_objects.specs.declared.kind.Kind.TheVariants.{Commit as CommitKind}
use Rattle.git_objects.specs.declared.name.Name.{Name}
use Rattle.indexmap.specs.IndexSet.{insert_key}
use Rattle.object_store.specs.Objects.{Object, IsStore, find_named, has}
use Rattle.object_store.proofs.Parts.{find-has}
use Rattle.object_store.proofs.StoredCommits.{commit-told}
use Rattle.fast_export.specs.ExportTexts.{is_among}
use Rattle.fast_export.specs.Given.{is_named}
use Rattle.fast_export.specs.Histories.{parents_in}
use Rattle.incremental_export.specs.Unreached.{AreSame, left_of}

-- ---- a name more

abbrev names_of : List Name → List Bytes
names_of ks = map name_bytes ks

pub among_names : (n : Name) (ks : List Name) → list_any (is_named n) ks ≡ is_among n.0 (names_of ks)
among_names n [] = refl
among_names n (k ∷ ks) = ap (λ b. same_bytes n.0 k.0 || b) (among_names n ks)

or_same : (a b : Bool) → (a ≡ true → b ≡ true) → (a || b) ≡ b
or_same true b h = sym (h refl)
or_same false b h = refl

or_last : (a b : Bool) → (b || (a || false)) ≡ (a || b)
or_last true true = refl
or_last true false = refl
or_last false true = refl
or_last false false = refl

-- a name that a set gets is among its names
pub name_added : (ks : List Name) (k : Name) (m : Bytes) → is_among m (names_of (insert_key is_named ks k)) ≡ (same_bytes m k.0 || is_among m (names_of ks))
name_added ks k m = by (list_any (is_named k) ks) refl
  where
    by : (b : Bool) → list_any (is_named k) ks ≡ b → is_among m (names_of (cond b ks (ks ++ k ∷ []))) ≡ (same_bytes m k.0 || is_among m (names_of ks))
    by true e = sym (or_same (same_bytes m k.0) (is_among m (names_of ks)) (λ h. ap (λ (x : Bytes). is_among x (names_of ks)) ((bytes_decides m k.0).0 h) ∙ sym (among_names k ks) ∙ e))
    by false e =
        ap (is_among m) (map-append name_bytes ks (k ∷ []))
        ∙ list_any-append (same_bytes m) (names_of ks) (k.0 ∷ [])
        ∙ or_last (same_bytes m k.0) (is_among m (names_of ks))

exchanged : (a b c : Bool) → (b || (a || c)) ≡ ((a || b) || c)
exchanged true true c = refl
exchanged true false c = refl
exchanged false b c = refl

-- of names that a set gets one more is in it
pub more_added : (ns : List Bytes) (i : ℕ) (n : Bytes) (old new all : List Bytes) → drop i ns ≡ n ∷ drop (i + 1) ns → AreSame (drop i ns ++ old) all
    → ((m : Bytes) → is_among m new ≡ (same_bytes m n || is_among m old)) → AreSame (drop (i + 1) ns ++ new) all
more_added ns i n old new all e h added m =
    list_any-append (same_bytes m) (drop (i + 1) ns) new
    ∙ ap (λ b. is_among m (drop (i + 1) ns) || b) (added m)
    ∙ exchanged (same_bytes m n) (is_among m (drop (i + 1) ns)) (is_among m old)
    ∙ sym (list_any-append (same_bytes m) (n ∷ drop (i + 1) ns) old)
    ∙ ap (λ (l : List Bytes). is_among m (l ++ old)) (sym e)
    ∙ h m

pub all_added : (ns : List Bytes) (i : ℕ) (new all : List Bytes) → length ns ≤ i → AreSame (drop i ns ++ new) all → AreSame new all
all_added ns i new all l h m = ap (λ (k : List Bytes). is_among m (k ++ new)) (sym (drop_all i ns l)) ∙ h m

-- the next name of a list
pub next_name : (ks : List Name) (i : ℕ) (d : Name) → i < length ks → drop i (names_of ks) ≡ (get_or ks i d).0 ∷ drop (i + 1) (names_of ks)
next_name ks i d h =
    let more : suc i ≡ i + 1 = omega arith in
    drop-map name_bytes i ks ∙ ap names_of (drop-cons ks i d h) ∙ ap (λ l. (get_or ks i d).0 ∷ l) (ap (λ j. names_of (drop j ks)) more ∙ sym (drop-map name_bytes (i + 1) ks))

-- ---- a commit's parents

pub told_parents : (S : List Object) (n : Bytes) (o : Object) (c : Commit) → IsStore S → has CommitKind S n ≡ true → Some o ≡ find_named S n → Some c ≡ commit_from o.body → c.parents ≡ parents_in S n
told_parents S n o c s h e f = ap (λ r. option_map_or (λ (d : Commit). d.parents) r []) (f ∙ ap commit_from (sym (commit-told S n o s h e)))

pub never_gone : (S : List Object) (n : Bytes) → IsStore S → has CommitKind S n ≡ true → None ≡ find_named S n → ⊥
never_gone S n s h e = let f : None ≡ Some _ = e ∙ find-has S CommitKind n s h in cc

-- ---- what is left

pub behind_same : (ps a b : List Bytes) → AreSame a b → AreSame (ps ++ a) (ps ++ b)
behind_same [] a b h n = h n
behind_same (p ∷ ps) a b h n = ap (λ t. same_bytes n p || t) (behind_same ps a b h n)

left_same : (S : List Object) (a b ns : List Bytes) → AreSame a b → left_of S a ns ≡ left_of S b ns
left_same S a b [] h = refl
left_same S a b (n ∷ older) h = λ i. cond (h n i) (left_same S (parents_in S n ++ a) (parents_in S n ++ b) older (behind_same (parents_in S n) a b h) i) (n ∷ left_same S a b older h i)

-- what is left of a list that is passed from its end: what was found so far, the newest first, and what is left of the rest
pub record IsLeftOf (S : List Object) (haves wanted found : List Bytes) (ns : List Bytes) (i : ℕ) : Type 0 where
  pub all : found ++ left_of S wanted (reverse (take i ns)) ≡ left_of S haves (reverse ns)
  pub within : i ≤ length ns

pub commit_there : (S : List Object) (ks : List Name) (i : ℕ) (d : Name) → list_all (has CommitKind S) (names_of ks) ≡ true → i < length ks → has CommitKind S (get_or ks i d).0 ≡ true
commit_there S [] i d h l = absurd (omega arith)
commit_there S (k ∷ ks) zero d h l = first_so _ _ h
commit_there S (k ∷ ks) (suc i) d h l = commit_there S ks i d (second_so _ _ h) (omega arith)

module _ (S : List Object) (haves : List Bytes) (ks : List Name) where
  pub none_passed : (wanted : List Bytes) → AreSame wanted haves → (found : List Name) → found ≡ [] → IsLeftOf S haves wanted (names_of found) (names_of ks) (length ks)
  none_passed wanted same found e = record {
    all =
        ap (λ (l : List Name). names_of l ++ left_of S wanted (reverse (take (length ks) (names_of ks)))) e
        ∙ ap (λ (l : List Bytes). left_of S wanted (reverse l)) (take_all (length ks) (names_of ks) (let l : length (names_of ks) ≡ length ks = length-map ks name_bytes in omega arith))
        ∙ left_same S wanted haves (reverse (names_of ks)) same;
    within = let l : length (names_of ks) ≡ length ks = length-map ks name_bytes in omega arith;
  }

  module _ (wanted : List Bytes) (found : List Name) (i : ℕ) (d : Name) (some : 0 < i) where
    abbrev n : Name
    n = get_or ks (i - 1) d

    last : i ≤ length (names_of ks) → reverse (take i (names_of ks)) ≡ n.0 ∷ reverse (take (i - 1) (names_of ks))
    last h =
        let e : i ≡ i - 1 + 1 = omega arith in
        let l : length (names_of ks) ≡ length ks = length-map ks name_bytes in
        let within : i - 1 < length ks = omega arith in
        ap (λ j. reverse (take j (names_of ks))) e
        ∙ ap reverse (take-map name_bytes (i - 1 + 1) ks ∙ ap names_of (take_more ks (i - 1) d within) ∙ map-append name_bytes (take (i - 1) ks) (n ∷ []) ∙ ap (λ (xs : List Bytes). xs ++ n.0 ∷ []) (sym (take-map name_bytes (i - 1) ks)))
        ∙ reverse-append (take (i - 1) (names_of ks)) (n.0 ∷ [])

    by_test : (b : Bool) → is_among n.0 wanted ≡ b → (rest : List Bytes)
        → left_of S wanted (n.0 ∷ rest) ≡ cond b (left_of S (parents_in S n.0 ++ wanted) rest) (n.0 ∷ left_of S wanted rest)
    by_test b e rest = ap (λ t. cond t (left_of S (parents_in S n.0 ++ wanted) rest) (n.0 ∷ left_of S wanted rest)) e

    -- a commit that is wanted
    pub one_wanted : (more : List Bytes) → IsLeftOf S haves wanted (names_of found) (names_of ks) i → is_among n.0 wanted ≡ true → AreSame more (parents_in S n.0 ++ wanted)
        → IsLeftOf S haves more (names_of found) (names_of ks) (i - 1)
    one_wanted more h e same = record {
      all =
          ap (λ (l : List Bytes). names_of found ++ l) (
          left_same S more (parents_in S n.0 ++ wanted) (reverse (take (i - 1) (names_of ks))) same
          ∙ sym (by_test true e (reverse (take (i - 1) (names_of ks))))
          ∙ ap (left_of S wanted) (sym (last h.within))
          )
          ∙ h.all;
      within = let w = h.within in omega arith;
    }

    -- and one that isn't
    pub one_left : (more : List Name) → IsLeftOf S haves wanted (names_of found) (names_of ks) i → is_among n.0 wanted ≡ false → more ≡ found ++ n ∷ [] → IsLeftOf S haves wanted (names_of more) (names_of ks) (i - 1)
    one_left more h e pushed = record {
      all =
          ap (λ (l : List Name). names_of l ++ left_of S wanted (reverse (take (i - 1) (names_of ks)))) pushed
          ∙ ap (λ (l : List Bytes). l ++ left_of S wanted (reverse (take (i - 1) (names_of ks)))) (map-append name_bytes found (n ∷ []))
          ∙ append_assoc (names_of found) (n.0 ∷ []) (left_of S wanted (reverse (take (i - 1) (names_of ks))))
          ∙ ap (λ (l : List Bytes). names_of found ++ l) (sym (by_test false e (reverse (take (i - 1) (names_of ks)))) ∙ ap (left_of S wanted) (sym (last h.within)))
          ∙ h.all;
      within = let w = h.within in omega arith;
    }

  -- all are passed
  pub all_passed : (wanted : List Bytes) (found : List Name) (i : ℕ) → i ≡ 0 → IsLeftOf S haves wanted (names_of found) (names_of ks) i → names_of found ≡ left_of S haves (reverse (names_of ks))
  all_passed wanted found i e h = sym (append-nil (names_of found)) ∙ ap (λ j. names_of found ++ left_of S wanted (reverse (take j (names_of ks)))) (sym e) ∙ h.all

-- What isn't reached in a graph, by the names of a store's commits.
use Rattle.std.proofs.Common.{◌≡◌, suc, ◌≤◌, Bool, true, false, cond, List, [], ◌∷◌, ◌++◌, length, map, reverse, filter_map, Option, Some, None, refl, sym, ap, subst, ◌∙◌, arith}
use Rattle.std.specs.List.{cons_option}
use Rattle.std.specs.Option.{option_map, option_map_or}
use Rattle.std.proofs.lemmas.List.{map-append, length-map, reverse-append, reverse-reverse}
use Rattle.git_objects.specs.Lists.{Each}
use Rattle.git_objects.specs.Paths.{Bytes}
use Rattle.git_objects.specs.Commits.{Commit}
use Rattle.git_objects.specs.Snapshots.{Graph, Snapshot, is_wanted, snapshot_name, wanted_below}
use Rattle.object_store.specs.Objects.{Object}
use Rattle.object_store.specs.StoredSnapshots.{commit_named, snapshot_of}
use Rattle.fast_export.specs.Histories.{parents_in, snapshots_at}
use Rattle.incremental_export.specs.Unreached.{StoredUnreachedLaw, left_of, unreached, unreached_in}

-- ---- lists

pub map-reverse : {A B : Type 0} (f : A → B) (xs : List A) → map f (reverse xs) ≡ reverse (map f xs)
map-reverse f [] = refl
map-reverse f (x ∷ xs) =
    ap (map f) (reverse-append (x ∷ []) xs)
    ∙ map-append f (reverse xs) (x ∷ [])
    ∙ ap (λ ys. ys ++ f x ∷ []) (map-reverse f xs)
    ∙ sym (reverse-append (f x ∷ []) (map f xs))

each_append : {A : Type 0} (P : A → Type 0) (xs ys : List A) → Each P xs → Each P ys → Each P (xs ++ ys)
each_append P [] ys h g = g
each_append P (x ∷ xs) ys h g = (h.0, each_append P xs ys h.1 g)

each_reverse : {A : Type 0} (P : A → Type 0) (xs : List A) → Each P xs → Each P (reverse xs)
each_reverse P [] h = tt
each_reverse P (x ∷ xs) h = subst (Each P) (sym (reverse-append (x ∷ []) xs)) (each_append P (reverse xs) (x ∷ []) (each_reverse P xs h.1) (h.0, tt))

-- ---- what is found of each is found of all

module _ {A B : Type 0} (f : A → Option B) (name : B → A) where
  few : (ns : List A) → length (filter_map f ns) ≤ length ns
  few [] = omega arith
  few (n ∷ ns) = by (f n) (few ns)
    where
      by : (o : Option B) → length (filter_map f ns) ≤ length ns → length (cons_option o (filter_map f ns)) ≤ suc (length ns)
      by None h = omega arith
      by (Some y) h = omega arith

  not_more : (x : B) (xs : List B) → filter_map f (map name xs) ≡ x ∷ xs → ⊥
  not_more x xs h =
      let l : length (filter_map f (map name xs)) ≤ length (map name xs) = few (map name xs) in
      let e : length (map name xs) ≡ length xs = length-map xs name in
      let k : length (filter_map f (map name xs)) ≡ suc (length xs) = ap length h in
      absurd (omega arith)

  pub each_found : (xs : List B) → filter_map f (map name xs) ≡ xs → Each (λ x. f (name x) ≡ Some x) xs
  each_found [] h = tt
  each_found (x ∷ xs) h = by (f (name x)) refl h (each_found xs)
    where
      by : (o : Option B) → f (name x) ≡ o → cons_option o (filter_map f (map name xs)) ≡ x ∷ xs
          → (filter_map f (map name xs) ≡ xs → Each (λ x. f (name x) ≡ Some x) xs) → (f (name x) ≡ Some x) × Each (λ x. f (name x) ≡ Some x) xs
      by None e k more = absurd (not_more x xs k)
      by (Some y) e k more = (let same : y ≡ x = cc in e ∙ ap Some same, more (cc))

  pub all_found : (xs : List B) → Each (λ x. f (name x) ≡ Some x) xs → filter_map f (map name xs) ≡ xs
  all_found [] h = refl
  all_found (x ∷ xs) h = λ i. cons_option (h.0 i) (all_found xs h.1 i)

-- ---- commits

-- the store has it, under its name
abbrev pub IsFound : List Object → Snapshot → Type 0
IsFound S c = option_map (snapshot_of S) (commit_named S (snapshot_name c)) ≡ Some c

pub own_parents : (S : List Object) (c : Snapshot) → IsFound S c → parents_in S (snapshot_name c) ≡ c.parents
own_parents S c h = by (commit_named S (snapshot_name c)) h
  where
    by : (o : Option Commit) → option_map (snapshot_of S) o ≡ Some c → option_map_or (λ (d : Commit). d.parents) o [] ≡ c.parents
    by None e = absurd (cc)
    by (Some d) e = let same : snapshot_of S d ≡ c = cc in ap (λ (x : Snapshot). x.parents) same

-- what is left, by names
names_left : (S : List Object) (g : Graph) (wanted : List Bytes) → Each (IsFound S) g → left_of S wanted (map snapshot_name g) ≡ map snapshot_name (unreached g wanted)
names_left S [] wanted h = refl
names_left S (c ∷ older) wanted h =
    ap (λ ps. cond (is_wanted wanted c) (left_of S (ps ++ wanted) (map snapshot_name older)) (snapshot_name c ∷ left_of S wanted (map snapshot_name older))) (own_parents S c h.0)
    ∙ by (is_wanted wanted c) (names_left S older (c.parents ++ wanted) h.1) (names_left S older wanted h.1)
  where
    by : (b : Bool) → left_of S (c.parents ++ wanted) (map snapshot_name older) ≡ map snapshot_name (unreached older (c.parents ++ wanted))
        → left_of S wanted (map snapshot_name older) ≡ map snapshot_name (unreached older wanted)
        → cond b (left_of S (c.parents ++ wanted) (map snapshot_name older)) (snapshot_name c ∷ left_of S wanted (map snapshot_name older))
        ≡ map snapshot_name (cond b [] (c ∷ []) ++ unreached older (cond b (c.parents ++ wanted) wanted))
    by true p q = p
    by false p q = ap (λ (ns : List Bytes). snapshot_name c ∷ ns) q

each_unreached : (P : Snapshot → Type 0) (g : Graph) (wanted : List Bytes) → Each P g → Each P (unreached g wanted)
each_unreached P [] wanted h = tt
each_unreached P (c ∷ older) wanted h = by (is_wanted wanted c) (each_unreached P older (wanted_below wanted c) h.1)
  where
    by : (b : Bool) → Each P (unreached older (wanted_below wanted c)) → Each P (cond b [] (c ∷ []) ++ unreached older (wanted_below wanted c))
    by true k = k
    by false k = (h.0, k)

pub stored_unreached_law : StoredUnreachedLaw
stored_unreached_law S g haves h = (names, ap (snapshots_at S) names ∙ all_found _ snapshot_name (reverse (unreached g haves)) (each_reverse (IsFound S) (unreached g haves) (each_unreached (IsFound S) g haves held)))
  where
    held : Each (IsFound S) g
    held = subst (Each (IsFound S)) (reverse-reverse g) (each_reverse (IsFound S) (reverse g) (each_found _ snapshot_name (reverse g) h))

    names : unreached_in S haves (map snapshot_name (reverse g)) ≡ map snapshot_name (reverse (unreached g haves))
    names =
        ap (λ ns. reverse (left_of S haves (reverse ns))) (map-reverse snapshot_name g)
        ∙ ap (λ ns. reverse (left_of S haves ns)) (reverse-reverse (map snapshot_name g))
        ∙ ap reverse (names_left S g haves held)
        ∙ sym (map-reverse snapshot_name (unreached g haves))

-- The names of a graph's commits that are in a store, the oldest first.
use Rattle.std.proofs.Common.{◌≡◌, ◌≤◌, Bool, true, false, not, ◌||◌, List, [], ◌∷◌, ◌++◌, map, reverse, length, Option, Some, None, refl, sym, ap, subst, ◌∙◌, arith}
use Rattle.std.specs.List.{cons_option, filter_map, list_all}
use Rattle.std.specs.Option.{option_map, option_map_or}
use Rattle.std.proofs.lemmas.Bool.{and_parts, and_from}
use Rattle.std.proofs.lemmas.List.{length-map, reverse-reverse}
use Rattle.std.proofs.lemmas.Option.{none-some, same_Some}
use Rattle.git_objects.specs.Paths.{Bytes, same_bytes}
use Rattle.git_objects.specs.Commits.{Commit}
use Rattle.git_objects.specs.Lists.{Each}
use Rattle.git_objects.specs.Snapshots.{Snapshot, Graph, snapshot_name, has_name, has, is_graph}
use Rattle.git_objects.proofs.Basics.{same_bytes-back}
use Rattle.object_store.specs.Objects.{Object}
use Rattle.object_store.specs.StoredSnapshots.{commit_named, snapshot_of}
use Rattle.projection_laws.specs.StoredGraphs.{snapshot_named}
use Rattle.projection_laws.specs.Histories.{is_among, is_distinct, parents_named, is_ordered, OrderLaw}
use Rattle.projection_laws.proofs.GraphLemmas.{IsGrown, grown}
use Rattle.projection_laws.proofs.HistoryLemmas.{any-append, any-reverse, each-reverse, map-append, reverse-more, same-image}

-- ---- each name is found as its commit

shorter : {A B : Type 0} (f : A → Option B) (xs : List A) → length (filter_map f xs) ≤ length xs
shorter {B = B} f [] = omega arith
shorter {B = B} f (x ∷ xs) = by (f x) (shorter f xs)
  where
    by : (o : Option B) → length (filter_map f xs) ≤ length xs → length (cons_option o (filter_map f xs)) ≤ length (x ∷ xs)
    by None h = omega (arith, h)
    by (Some y) h = omega (arith, h)

module _ {A B : Type 0} (f : A → Option B) where
  abbrev Pairs : List A → List B → Type 0
  Pairs [] [] = Unit
  Pairs [] (d ∷ ds) = ⊥
  Pairs (c ∷ cs) [] = ⊥
  Pairs (c ∷ cs) (d ∷ ds) = (f c ≡ Some d) × Pairs cs ds

  pairs : (cs : List A) (ds : List B) → filter_map f cs ≡ ds → length cs ≡ length ds → Pairs cs ds
  pairs [] [] e l = tt
  pairs [] (d ∷ ds) e l = cc
  pairs (c ∷ cs) [] e l = cc
  pairs (c ∷ cs) (d ∷ ds) e l = by (f c) refl e (pairs cs ds)
    where
      by : (o : Option B) → f c ≡ o → cons_option o (filter_map f cs) ≡ d ∷ ds → (filter_map f cs ≡ ds → length cs ≡ length ds → Pairs cs ds) → (f c ≡ Some d) × Pairs cs ds
      by None i q k =
          let s = shorter f cs in
          let m : length (filter_map f cs) ≡ length (d ∷ ds) = ap length q in
          absurd (omega (arith, s, m, l))
      by (Some y) i q k =
          let here : y ≡ d = cc in
          let rest : filter_map f cs ≡ ds = cc in
          (i ∙ ap Some here, k rest (omega (arith, l)))

found-each : (S : List Object) (cs : List Snapshot) → Pairs (snapshot_named S) (map snapshot_name cs) cs → Each (λ c. snapshot_named S (snapshot_name c) ≡ Some c) cs
found-each S [] h = tt
found-each S (c ∷ cs) h = (h.0, found-each S cs h.1)

-- ---- one name more

distinct-more : (ns : List Bytes) (n : Bytes) → is_distinct ns ≡ true → is_among n ns ≡ false → is_distinct (ns ++ n ∷ []) ≡ true
distinct-more [] n h e = refl
distinct-more (m ∷ ns) n h e =
    let w = and_parts (not (is_among m ns)) (is_distinct ns) h in
    let x = or-parts (same_bytes n m) (is_among n ns) e in
    and_from (not (is_among m (ns ++ n ∷ []))) (is_distinct (ns ++ n ∷ []))
    (ap not (any-append (same_bytes m) ns (n ∷ []) ∙ ap (λ b. is_among m ns || (b || false)) (same_bytes-back m n ∙ x.0) ∙ or-none (is_among m ns)) ∙ w.0)
    (distinct-more ns n w.1 x.1)
  where
    or-parts : (a b : Bool) → (a || b) ≡ false → (a ≡ false) × (b ≡ false)
    or-parts true b q = cc
    or-parts false b q = (refl, q)

    or-none : (a : Bool) → (a || false) ≡ a
    or-none true = refl
    or-none false = refl

ordered-more : (S : List Object) (before ns : List Bytes) (n : Bytes) → is_ordered S before ns ≡ true → list_all (λ p. is_among p ns || is_among p before) (parents_named S n) ≡ true → is_ordered S before (ns ++ n ∷ []) ≡ true
ordered-more S before [] n h k = and_from (list_all (λ p. is_among p before) (parents_named S n)) true k refl
ordered-more S before (m ∷ ns) n h k =
    let w = and_parts (list_all (λ p. is_among p before) (parents_named S m)) (is_ordered S (m ∷ before) ns) h in
    and_from (list_all (λ p. is_among p before) (parents_named S m)) (is_ordered S (m ∷ before) (ns ++ n ∷ [])) w.0
    (ordered-more S (m ∷ before) ns n w.1 ((λ i. list_all (λ p. turn (same_bytes p m) (is_among p ns) (is_among p before) i) (parents_named S n)) ∙ k))
  where
    turn : (a b c : Bool) → (b || (a || c)) ≡ ((a || b) || c)
    turn true true c = refl
    turn true false c = refl
    turn false true c = refl
    turn false false c = refl

parents-are : (S : List Object) (c : Snapshot) → snapshot_named S (snapshot_name c) ≡ Some c → parents_named S (snapshot_name c) ≡ c.parents
parents-are S c e = by (commit_named S (snapshot_name c)) e
  where
    by : (o : Option Commit) → option_map (snapshot_of S) o ≡ Some c → option_map_or (λ (d : Commit). d.parents) o [] ≡ c.parents
    by None q = absurd (none-some c q)
    by (Some d) q = ap (λ (x : Snapshot). x.parents) (same_Some (snapshot_of S d) c q)

abbrev names : Graph → List Bytes
names g = map snapshot_name (reverse g)

among-names : (g : Graph) (n : Bytes) → is_among n (names g) ≡ has g n
among-names g n = same-image (same_bytes n) (has_name n) snapshot_name (λ c. refl) (reverse g) ∙ any-reverse (has_name n) g

in-order : (S : List Object) (g : Graph) → is_graph g ≡ true → Each (λ c. snapshot_named S (snapshot_name c) ≡ Some c) g → (is_distinct (names g) ≡ true) × (is_ordered S [] (names g) ≡ true)
in-order S [] h f = (refl, refl)
in-order S (c ∷ g) h f =
    let w : IsGrown c g = grown c g h in
    let r = in-order S g w.graph f.1 in
    let more : names (c ∷ g) ≡ names g ++ snapshot_name c ∷ [] = ap (map snapshot_name) (reverse-more c g) ∙ map-append snapshot_name (reverse g) (c ∷ []) in (
      ap is_distinct more ∙ distinct-more (names g) (snapshot_name c) r.0 (among-names g (snapshot_name c) ∙ w.new),
      ap (is_ordered S []) more ∙ ordered-more S [] (names g) (snapshot_name c) r.1 (
          ap (list_all (λ p. is_among p (names g) || false)) (parents-are S c f.0)
          ∙ (λ i. list_all (λ p. same p i) c.parents)
          ∙ w.parents
          ),
    )
  where
    or-none : (a : Bool) → (a || false) ≡ a
    or-none true = refl
    or-none false = refl

    same : (p : Bytes) → (is_among p (names g) || false) ≡ has g p
    same p = or-none (is_among p (names g)) ∙ among-names g p

pub the_order : OrderLaw
the_order = λ S g ns h a.
    let cs : List Snapshot = reverse g in
    let found = found-each S cs (pairs (snapshot_named S) (map snapshot_name cs) cs (ap (filter_map (snapshot_named S)) (sym a.names) ∙ a.snapshots) (length-map cs snapshot_name)) in
    let w = in-order S g h (subst (Each (λ c. snapshot_named S (snapshot_name c) ≡ Some c)) (reverse-reverse g) (each-reverse (λ c. snapshot_named S (snapshot_name c) ≡ Some c) cs found)) in
    record {
      held = a.held;
      distinct = ap is_distinct a.names ∙ w.0;
      ordered = ap (is_ordered S []) a.names ∙ w.1;
    }

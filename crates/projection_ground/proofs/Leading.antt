-- Whether a projection leads the others, from what is kept.
use Rattle.std.proofs.Common.{◌≡◌, ℕ, zero, suc, ◌<◌, ◌≤◌, ◌↔◌, Bool, true, false, cond, ◌||◌, List, [], ◌∷◌, map, length, slice_get, get_or, Option, Some, None, IsSome, unwrap_or, All, Contains, refl, sym, ap, subst, ◌∙◌, arith, true≢false}
use Rattle.std.specs.List.{find, filter_map, cons_option, list_all, list_any}
use Rattle.std.specs.Option.{option_map, option_map_or}
use Rattle.std.proofs.lemmas.Bool.{and_parts}
use Rattle.std.proofs.lemmas.List.Elements.{All-contains, All-head, All-tail, Contains-get_or}
use Rattle.std.proofs.lemmas.List.Folds.{list_all-map}
use Rattle.std.proofs.lemmas.Option.{slice_get-get_or}
use Rattle.git_objects.specs.Paths.{Bytes}
use Rattle.git_objects.specs.Snapshots.{Graph, has}
use Rattle.git_objects.proofs.Basics.{and_both}
use Rattle.commit_graph.specs.Graphs.{Row, Reaches, Through}
use Rattle.commit_graph.proofs.Reaching.{reaches-down}
use Rattle.commit_map.specs.Shown.{Shown, Entries, kept_at}
use Rattle.commit_map.specs.Shown as shown
use Rattle.commit_map.specs.declared.commit_map.Shown as code
use Rattle.projection_laws.specs.Projections.{distinct, is_same, is_shown_as, is_reached, known_at, leads, members}
use Rattle.projection_laws.specs.StoredGraphs.{name_at}
use Rattle.projection_laws.proofs.StoredGraphs.{row-at, name-is, older-has}
use Rattle.projection_laws.proofs.Reached.{any-reached, same-reached}
use Rattle.projection_ground.specs.Choosing.{parents_at, names_at, commits_before, reaches_each, Agree, AreKept, IsBehind, IsBelow, IsLacked, IsTest, leads_upon}
use Rattle.projection_ground.specs.Grounds.{IsGround}
use Rattle.projection_ground.specs.declared.choosing.Test.{Test}
use Rattle.projection_ground.specs.declared.choosing.Test.TheVariants.{Is, Lacks}
use Rattle.projection_ground.specs.declared.ground.Ground.{Ground}
use Rattle.projection_ground.proofs.Lacks.{find-some}

-- ---- what agrees

known-some : (o : Option (Option Shown)) (x : Option Shown) → IsSome o → ((p : Option Shown) → o ≡ Some p → p ≡ x) → unwrap_or o None ≡ x
known-some None x k h = absurd (true≢false (sym k))
known-some (Some p) x k h = h p refl

pub known-agrees : (es ks : Entries) (older : Graph) (n : Bytes) → Agree es ks older → has older n ≡ true → IsSome (kept_at n es) → known_at es n ≡ known_at ks n
known-agrees es ks older n a h k = known-some (kept_at n es) (known_at ks n) k (λ p e. a n p h e)

shown-agrees : (es ks : Entries) (older : Graph) (m : Shown) (n : Bytes) → Agree es ks older → has older n ≡ true → IsSome (kept_at n es) → is_shown_as es m n ≡ is_shown_as ks m n
shown-agrees es ks older m n a h k = ap (λ o. option_map_or (is_same m) o false) (known-agrees es ks older n a h k)

any-same : {A : Type 0} (f g : A → Bool) (xs : List A) → All (λ x. f x ≡ g x) xs → list_any f xs ≡ list_any g xs
any-same f g [] h = refl
any-same f g (x ∷ xs) h = λ i. All-head (λ y. f y ≡ g y) x xs h i || any-same f g xs (All-tail (λ y. f y ≡ g y) x xs h) i

find-same : {A : Type 0} (f g : A → Bool) (xs : List A) → All (λ x. f x ≡ g x) xs → find f xs ≡ find g xs
find-same f g [] h = refl
find-same f g (x ∷ xs) h = λ i. cond (All-head (λ y. f y ≡ g y) x xs h i) (Some x) (find-same f g xs (All-tail (λ y. f y ≡ g y) x xs h) i)

find-map : {A B : Type 0} (f : A → B) (test : B → Bool) (xs : List A) → find test (map f xs) ≡ option_map f (find (λ x. test (f x)) xs)
find-map f test [] = refl
find-map f test (x ∷ xs) = by (test (f x)) (find-map f test xs)
  where
    by : (b : Bool) → find test (map f xs) ≡ option_map f (find (λ x. test (f x)) xs) → cond b (Some (f x)) (find test (map f xs)) ≡ option_map f (cond b (Some x) (find (λ x. test (f x)) xs))
    by true e = refl
    by false e = e

filter-map-same : {A B C : Type 0} (f : A → B) (p q : B → Option C) (xs : List A) → All (λ x. p (f x) ≡ q (f x)) xs → filter_map p (map f xs) ≡ filter_map q (map f xs)
filter-map-same f p q [] h = refl
filter-map-same f p q (x ∷ xs) h = λ i. cons_option (All-head (λ y. p (f y) ≡ q (f y)) x xs h i) (filter-map-same f p q xs (All-tail (λ y. p (f y) ≡ q (f y)) x xs h) i)

all-same : {A : Type 0} (f g : A → Bool) (xs : List A) → ((x : A) → f x ≡ g x) → list_all f xs ≡ list_all g xs
all-same f g xs h = ap (λ t. list_all t xs) (λ i x. h x i)

all-up : {A : Type 0} (f g : A → Bool) (xs : List A) → ((x : A) → f x ≡ true → g x ≡ true) → list_all f xs ≡ true → list_all g xs ≡ true
all-up f g [] up h = refl
all-up f g (x ∷ xs) up h = let w = and_parts (f x) (list_all f xs) h in and_both (up x w.0) (all-up f g xs up w.1)

only-one : (x y : ℕ) → Contains (x ∷ []) y → x ≡ y
only-one x y c = by c.0 c.1 c.2
  where
    by : (i : ℕ) → i < 1 → get_or (x ∷ []) i y ≡ y → x ≡ y
    by zero l e = e
    by (suc i) l e = absurd (omega (arith, l))

-- ---- over a ground

module _ (g : Ground) (place : ℕ) (w : IsGround g) (there : place ≤ length g.graph) (ks : Entries) (a : Agree g.map ks (commits_before g place)) where
  older-in : (p : ℕ) → p < place → has (commits_before g place) (name_at g.graph p) ≡ true
  older-in p b =
      let r = row-at g.store g.graph w.graph p (omega (arith, b, there)) in
      ap (has (commits_before g place)) (name-is g.store g.graph w.graph p r.0 r.1) ∙ older-has g.store g.graph w.graph place (omega (arith, there)) p r.0 r.1 b

  pub places-agree : (m : Shown) (ps : List ℕ) → All (λ p. p < place) ps → AreKept g ps → All (λ p. is_shown_as g.map m (name_at g.graph p) ≡ is_shown_as ks m (name_at g.graph p)) ps
  places-agree m ps b k i d l = shown-agrees g.map ks (commits_before g place) m (name_at g.graph (get_or ps i d)) a (older-in (get_or ps i d) (b i d l)) (k i d l)

  pub members-agree : (ps : List ℕ) → All (λ p. p < place) ps → AreKept g ps → members g.map (names_at g.graph ps) ≡ members ks (names_at g.graph ps)
  members-agree ps b k =
      ap distinct (filter-map-same (name_at g.graph) (known_at g.map) (known_at ks) ps
      (λ i d l. known-agrees g.map ks (commits_before g place) (name_at g.graph (get_or ps i d)) a (older-in (get_or ps i d) (b i d l)) (k i d l)))

  -- no parent is projected to m
  pub leads-none : (m : Shown) (ps : List ℕ) → All (λ p. p < place) ps → AreKept g ps → None ≡ find (λ p. is_shown_as g.map m (name_at g.graph p)) ps → false ≡ leads (commits_before g place) ks (names_at g.graph ps) m
  leads-none m ps b k e =
      ap (λ o. option_map_or (λ p. list_all (is_reached (commits_before g place) ks p) (members ks (names_at g.graph ps))) o false)
      (ap (option_map (name_at g.graph)) (e ∙ find-same (λ p. is_shown_as g.map m (name_at g.graph p)) (λ p. is_shown_as ks m (name_at g.graph p)) ps (places-agree m ps b k))
      ∙ sym (find-map (name_at g.graph) (is_shown_as ks m) ps))

  -- what is found among places that a commit reaches is reached
  pub window-true : (ms : List code.Shown) (first : ℕ) (places : List ℕ) → first < place → ((i : ℕ) → Contains places i → Reaches g.graph first i) → All (λ p. p < place) places → AreKept g places
      → true ≡ list_all (λ x. list_any (λ p. is_shown_as g.map (shown.shown_value x) (name_at g.graph p)) places) ms → true ≡ reaches_each g place first (map shown.shown_value ms) ks
  window-true ms first places below reach low held e =
      sym (all-up (λ x. list_any (λ p. is_shown_as g.map x (name_at g.graph p)) places) (is_reached (commits_before g place) ks (name_at g.graph first)) (map shown.shown_value ms)
      (λ x h. any-reached g.store g.graph w.graph first place below (omega (arith, there)) places reach (is_shown_as ks x)
      (sym (any-same (λ p. is_shown_as g.map x (name_at g.graph p)) (λ p. is_shown_as ks x (name_at g.graph p)) places (places-agree x places low held)) ∙ h))
      (list_all-map (λ x. list_any (λ p. is_shown_as g.map x (name_at g.graph p)) places) shown.shown_value ms ∙ sym e))

  -- what is reached is found among all places that a commit reaches
  pub window-whole : (ms : List code.Shown) (first : ℕ) (places : List ℕ) → first < place → ((i : ℕ) → Contains places i ↔ Reaches g.graph first i) → All (λ p. p < place) places → AreKept g places
      → list_all (λ x. list_any (λ p. is_shown_as g.map (shown.shown_value x) (name_at g.graph p)) places) ms ≡ reaches_each g place first (map shown.shown_value ms) ks
  window-whole ms first places below exact low held =
      sym (list_all-map (λ x. list_any (λ p. is_shown_as g.map x (name_at g.graph p)) places) shown.shown_value ms)
      ∙ all-same (λ x. list_any (λ p. is_shown_as g.map x (name_at g.graph p)) places) (is_reached (commits_before g place) ks (name_at g.graph first)) (map shown.shown_value ms)
      (λ x. any-same (λ p. is_shown_as g.map x (name_at g.graph p)) (λ p. is_shown_as ks x (name_at g.graph p)) places (places-agree x places low held)
      ∙ same-reached g.store g.graph w.graph first place below (omega (arith, there)) places exact (is_shown_as ks x))

  -- the first that is projected to m, and what it reaches
  pub leads-some : (m : Shown) (ps : List ℕ) (ms : List code.Shown) (first : ℕ) → All (λ p. p < place) ps → AreKept g ps → Some first ≡ find (λ p. is_shown_as g.map m (name_at g.graph p)) ps
      → map shown.shown_value ms ≡ members g.map (names_at g.graph ps) → reaches_each g place first (map shown.shown_value ms) ks ≡ leads (commits_before g place) ks (names_at g.graph ps) m
  leads-some m ps ms first b k e same =
      ap (list_all (is_reached (commits_before g place) ks (name_at g.graph first))) (same ∙ members-agree ps b k)
      ∙ ap (λ o. option_map_or (λ p. list_all (is_reached (commits_before g place) ks p) (members ks (names_at g.graph ps))) o false)
      (ap (option_map (name_at g.graph)) (e ∙ find-same (λ p. is_shown_as g.map m (name_at g.graph p)) (λ p. is_shown_as ks m (name_at g.graph p)) ps (places-agree m ps b k))
      ∙ sym (find-map (name_at g.graph) (is_shown_as ks m) ps))

-- the places that a commit below reaches are below
pub reached-below : (g : Ground) (place first : ℕ) (places : List ℕ) → IsGround g → first < place → ((i : ℕ) → Contains places i → Reaches g.graph first i) → All (λ p. p < place) places
reached-below g place first places w b reach i d l =
    let down : get_or places i d ≤ first = reaches-down g.graph w.graph.graph first (get_or places i d) (reach (get_or places i d) (Contains-get_or places i d l)) in
    omega (arith, down, b)

-- a test of what the first that is projected to m reaches tells whether m leads
pub test-first : (g : Ground) (place : ℕ) (m : Shown) (ps : List ℕ) (ms : List code.Shown) (first : ℕ) → IsGround g → IsBehind g ps place → AreKept g ps → Some first ≡ find (λ p. is_shown_as g.map m (name_at g.graph p)) ps
    → map shown.shown_value ms ≡ members g.map (names_at g.graph ps) → (t : Test) → IsTest g place (first ∷ []) (reaches_each g place first (map shown.shown_value ms)) t → IsTest g place ps (λ ks. leads_upon g place ps ks m) t
test-first g place m ps ms first w b k e same (Is v) h = λ ks a. h ks a ∙ leads-some g place w b.within ks a m ps ms first b.behind k e same
test-first g place m ps ms first w b k e same (Lacks q) h = record {
  parent = first;
  among = (find-some (λ p. is_shown_as g.map m (name_at g.graph p)) ps first (sym e)).0;
  reached = subst (λ p. Reaches g.graph p q) (sym (only-one first h.parent h.among)) h.reached;
  lacked = h.lacked;
}

-- a place before which a list's places stand, for one of them
pub behind-one : (g : Ground) (place : ℕ) (ps : List ℕ) (p : ℕ) → IsBehind g ps place → Contains ps p → IsBehind g (p ∷ []) place
behind-one g place ps p b c = record { within = b.within; behind = λ i d l. subst (λ q. q < place) (only-one p (get_or (p ∷ []) i d) (Contains-get_or (p ∷ []) i d l)) (All-contains (λ q. q < place) ps p b.behind c) }

-- What a parent reaches comes before a commit, which reaches it too.
pub lacked-below : (g : Ground) (place q : ℕ) → IsGround g → place < length g.graph → All (λ p. p < place) (parents_at g.graph place) → IsLacked g (parents_at g.graph place) q → IsBelow g place q
lacked-below g place q w t low x = record {
  before =
      let b : x.parent < place = All-contains (λ p. p < place) (parents_at g.graph place) x.parent low x.among in
      let down : q ≤ x.parent = reaches-down g.graph w.graph.graph x.parent q x.reached in
      omega (arith, down, b);
  reached =
      let d : Row = record { name = []; tree = []; parents = [] } in
      let r : slice_get g.graph place ≡ Some (get_or g.graph place d) = slice_get-get_or g.graph place d t in
      Through place x.parent q (get_or g.graph place d) r (subst (λ o. Contains (option_map_or (λ (r : Row). r.parents) o []) x.parent) r x.among) x.reached;
  lacked = x.lacked;
}

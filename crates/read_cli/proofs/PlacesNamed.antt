-- The places of a commit and its ancestors are those of their names, parents first.
use Rattle.std.proofs.Common.{◌≡◌, ◌↔◌, ◌⊎◌, inl, inr, ℕ, zero, suc, ◌+◌, ◌<◌, ◌≤◌, Bool, true, false, cond, ◌||◌, true≢false, List, [], ◌∷◌, ◌++◌, map, reverse, length, take, slice_get, get_or, All, Contains, Option, Some, IfSome, refl, sym, ap, subst, ◌∙◌, arith}
use Rattle.std.specs.List.{list_any}
use Rattle.std.specs.List.Sorted.{IsStrictlyIncreasing}
use Rattle.std.specs.Cmp.Lexicographic.{bytes_decides}
use Rattle.std.proofs.lemmas.Bool.{or_left, or_right}
use Rattle.std.proofs.lemmas.List.{take_more}
use Rattle.std.proofs.lemmas.List.Elements.{All-contains_itself}
use Rattle.git_objects.specs.Parts.{name_bytes}
use Rattle.git_objects.specs.declared.name.Name.{Name}
use Rattle.git_objects.specs.Lists.{Each}
use Rattle.git_objects.specs.Paths.{Bytes, same_bytes}
use Rattle.git_objects.specs.Snapshots.{Graph, Snapshot, ancestors, is_wanted, reached, snapshot_name, wanted_below}
use Rattle.git_objects.proofs.Basics.{same_bytes-self}
use Rattle.object_store.specs.Objects.{Object}
use Rattle.commit_graph.specs.Graphs.{Reaches, Row}
use Rattle.commit_graph.proofs.Reaching.{reaches-down}
use Rattle.projection_laws.specs.StoredGraphs.{IsGraphIn, graph_of, name_at}
use Rattle.projection_laws.proofs.HistoryLemmas.{any-reverse, each-append, each-map, map-append, reverse-more, same-image}
use Rattle.projection_laws.proofs.Reached.{same-reached}
use Rattle.projection_laws.proofs.Rising.{Rises, each-all, rises}
use Rattle.projection_laws.proofs.StoredGraphs.{IsAt, at-row, name-is, older, older-all, older-suc, row-at}

-- ---- lists of numbers

abbrev In : ℕ → List ℕ → Type 0
In x [] = ⊥
In x (y ∷ ys) = (y ≡ x) ⊎ In x ys

each-in : (P : ℕ → Type 0) (xs : List ℕ) (x : ℕ) → Each P xs → In x xs → P x
each-in P [] x h k = absurd k
each-in P (y ∷ ys) x h (inl e) = subst P e h.0
each-in P (y ∷ ys) x h (inr k) = each-in P ys x h.1 k

rises-more : (xs : List ℕ) (k : ℕ) → Rises xs → Each (λ i. i < k) xs → Rises (xs ++ k ∷ [])
rises-more [] k r b = (tt, tt)
rises-more (x ∷ xs) k r b = (each-append (λ y. x < y) xs (k ∷ []) r.0 (b.0, tt), rises-more xs k r.1 b.1)

-- without the first of each
keep : (x y : ℕ) (xs ys : List ℕ) → Each (λ z. x < z) xs → x ≡ y → ((i : ℕ) → In i (x ∷ xs) → In i (y ∷ ys)) → (i : ℕ) → In i xs → In i ys
keep x y xs ys h e f i k = by (f i (inr k))
  where
    by : In i (y ∷ ys) → In i ys
    by (inr a) = a
    by (inl a) = let l : x < i = each-in (λ z. x < z) xs i h k in absurd (omega (arith, l, e, a))

first-same : (x y : ℕ) (xs ys : List ℕ) → Each (λ z. x < z) xs → Each (λ z. y < z) ys → In x (y ∷ ys) → In y (x ∷ xs) → x ≡ y
first-same x y xs ys r s (inl a) h = sym a
first-same x y xs ys r s (inr a) (inl b) = b
first-same x y xs ys r s (inr a) (inr b) =
    let p : y < x = each-in (λ z. y < z) ys x s a in
    let q : x < y = each-in (λ z. x < z) xs y r b in
    absurd (omega (arith, p, q))

-- two that rise with the same numbers are one
same-rising : (xs ys : List ℕ) → Rises xs → Rises ys → ((i : ℕ) → In i xs → In i ys) → ((i : ℕ) → In i ys → In i xs) → xs ≡ ys
same-rising [] [] r s f g = refl
same-rising [] (y ∷ ys) r s f g = absurd (g y (inl refl))
same-rising (x ∷ xs) [] r s f g = absurd (f x (inl refl))
same-rising (x ∷ xs) (y ∷ ys) r s f g =
    let e : x ≡ y = first-same x y xs ys r.0 s.0 (f x (inl refl)) (g y (inl refl)) in
    let t : xs ≡ ys = same-rising xs ys r.1 s.1 (keep x y xs ys r.0 e f) (keep y x ys xs s.0 (sym e) g) in
    λ i. e i ∷ t i

module _ (f : ℕ → Bytes) (test : Bytes → Bool) where
  any-in : (ps : List ℕ) → list_any (λ i. test (f i)) ps ≡ true → (p : ℕ) × In p ps × (test (f p) ≡ true)
  any-in [] e = absurd (true≢false (sym e))
  any-in (q ∷ ps) e = by (test (f q)) refl e (any-in ps)
    where
      by : (b : Bool) → test (f q) ≡ b → (b || list_any (λ i. test (f i)) ps) ≡ true → (list_any (λ i. test (f i)) ps ≡ true → (p : ℕ) × In p ps × (test (f p) ≡ true)) → (p : ℕ) × In p (q ∷ ps) × (test (f p) ≡ true)
      by true h g k = (q, inl refl, h)
      by false h g k = let w = k g in (w.0, inr w.1, w.2)

  in-any : (ps : List ℕ) (p : ℕ) → In p ps → test (f p) ≡ true → list_any (λ i. test (f i)) ps ≡ true
  in-any [] p h t = absurd h
  in-any (q ∷ ps) p (inl e) t = or_left (test (f q)) (list_any (λ i. test (f i)) ps) (ap (λ i. test (f i)) e ∙ t)
  in-any (q ∷ ps) p (inr h) t = or_right (test (f q)) (list_any (λ i. test (f i)) ps) (in-any ps p h t)

-- ---- places

module _ (S : List Object) (rows : List Row) (g : IsGraphIn S rows) where
  -- commits that stand at places before k, which rise
  record IsPlaced (k : ℕ) (cs : List Snapshot) : Type 0 where
    places : List ℕ
    rising : Rises places
    below : Each (λ i. i < k) places
    named : map (name_at rows) places ≡ map snapshot_name (reverse cs)

  further : (k : ℕ) (ps : List ℕ) → Each (λ i. i < k) ps → Each (λ i. i < suc k) ps
  further k ps h = each-map (λ i. i < k) (λ i. i < suc k) (λ i l. omega (arith, l)) ps h

  placed-more : (k : ℕ) (r : Row) (c : Snapshot) (cs : List Snapshot) → slice_get rows k ≡ Some r → IsAt S rows r c → (b : Bool) → IsPlaced k cs → IsPlaced (suc k) (cond b (c ∷ []) [] ++ cs)
  placed-more k r c cs e a false p = record { places = p.places; rising = p.rising; below = further k p.places p.below; named = p.named }
  placed-more k r c cs e a true p =
      let last : name_at rows k ≡ snapshot_name c = name-is S rows g k r e ∙ sym a.name in
      record {
        places = p.places ++ k ∷ [];
        rising = rises-more p.places k p.rising p.below;
        below = each-append (λ i. i < suc k) p.places (k ∷ []) (further k p.places p.below) (omega arith, tt);
        named =
            map-append (name_at rows) p.places (k ∷ [])
            ∙ (λ i. p.named i ++ last i ∷ [])
            ∙ sym (map-append snapshot_name (reverse cs) (c ∷ []))
            ∙ ap (map snapshot_name) (sym (reverse-more c cs));
      }

  placed : (k : ℕ) → k ≤ length rows → (ws : List Bytes) → IsPlaced k (reached (older S rows g k) ws)
  unfolding graph_of
  placed zero l ws = record { places = []; rising = tt; below = tt; named = refl }
  placed (suc k) l ws =
      let w = row-at S rows g k (omega (arith, l)) in
      let a = at-row S rows g k w.0 w.1 in
      subst (λ (x : Graph). IsPlaced (suc k) (reached x ws)) (sym (older-suc S rows g k w.0 a.0 w.1 a.1))
      (placed-more k w.0 a.0 (reached (older S rows g k) (wanted_below ws a.0)) w.1 a.1 (is_wanted ws a.0) (placed k (omega (arith, l)) (wanted_below ws a.0)))

  one : (i j : ℕ) → i < length rows → j < length rows → name_at rows i ≡ name_at rows j → i ≡ j
  one i j a b e =
      let r = row-at S rows g i a in
      let s = row-at S rows g j b in
      g.graph.distinct i j r.0 s.0 r.1 s.1 (sym (name-is S rows g i r.0 r.1) ∙ e ∙ name-is S rows g j s.0 s.1)

  -- the name that is told of a place
  pub name-told : (i : ℕ) (n : Bytes) → i < length rows → IfSome (slice_get rows i) (λ (r : Row). n ≡ r.name) → n ≡ name_at rows i
  name-told i n l h =
      let r = row-at S rows g i l in
      subst (λ (o : Option Row). IfSome o (λ (x : Row). n ≡ x.name)) r.1 h ∙ sym (name-is S rows g i r.0 r.1)

  -- one name more
  pub name-more : (ps : List ℕ) (i : ℕ) → i < length ps → (ns ms : List Name) (m : Name) → ms ≡ ns ++ m ∷ [] → m.0 ≡ name_at rows (get_or ps i 0) → map name_bytes ns ≡ map (name_at rows) (take i ps)
      → map name_bytes ms ≡ map (name_at rows) (take (i + 1) ps)
  name-more ps i l ns ms m e told h =
      ap (map name_bytes) e
      ∙ map-append name_bytes ns (m ∷ [])
      ∙ (λ j. h j ++ told j ∷ [])
      ∙ sym (map-append (name_at rows) (take i ps) (get_or ps i 0 ∷ []))
      ∙ ap (map (name_at rows)) (sym (take_more ps i 0 l))

  abbrev Names : List ℕ → (Bytes → Bool) → Bool
  Names ps test = list_any (λ i. test (name_at rows i)) ps

  within : (xs ys : List ℕ) → Each (λ i. i < length rows) xs → Each (λ i. i < length rows) ys → ((test : Bytes → Bool) → Names xs test ≡ Names ys test) → (i : ℕ) → In i xs → In i ys
  within xs ys a b same i k =
      let n = name_at rows i in
      let f = any-in (name_at rows) (same_bytes n) ys (sym (same (same_bytes n)) ∙ in-any (name_at rows) (same_bytes n) xs i k (same_bytes-self n)) in
      let e : i ≡ f.0 = one i f.0 (each-in (λ j. j < length rows) xs i a k) (each-in (λ j. j < length rows) ys f.0 b f.1) ((bytes_decides n (name_at rows f.0)).0 f.2) in
      subst (λ j. In j ys) (sym e) f.1

  module _ (h : ℕ) (l : h < length rows) (ps : List ℕ) (up : IsStrictlyIncreasing ps) (exact : (i : ℕ) → Contains ps i ↔ Reaches rows h i) where
    pub ps-below : All (λ p. p < length rows) ps
    ps-below i d m =
        let down = reaches-down rows g.graph h (get_or ps i d) ((exact (get_or ps i d)).0 (All-contains_itself ps i d m)) in
        omega (arith, down, l)

    pub names-placed : map (name_at rows) ps ≡ map snapshot_name (reverse (ancestors (graph_of S rows) (name_at rows h)))
    names-placed =
        let k : ℕ = length rows in
        let p = placed (length rows) (omega arith) (name_at rows h ∷ []) in
        let A : List Snapshot = reached (older S rows g (length rows)) (name_at rows h ∷ []) in
        let all : (test : Bytes → Bool) → Names ps test ≡ Names p.places test = λ test.
        same-reached S rows g h (length rows) l (omega arith) ps exact test
        ∙ sym (any-reverse (λ d. test (snapshot_name d)) A)
        ∙ sym (same-image test (λ d. test (snapshot_name d)) snapshot_name (λ d. refl) (reverse A))
        ∙ ap (list_any test) (sym p.named)
        ∙ same-image test (λ i. test (name_at rows i)) (name_at rows) (λ i. refl) p.places
        in
        let low = each-all (λ q. q < length rows) ps ps-below in
        let same : ps ≡ p.places =
        same-rising ps p.places (rises ps up) p.rising (within ps p.places low p.below all) (within p.places ps p.below low (λ test. sym (all test)))
        in
        ap (map (name_at rows)) same
        ∙ p.named
        ∙ ap (λ (x : Graph). map snapshot_name (reverse (ancestors x (name_at rows h)))) (older-all S rows g)

-- What a commit reaches in a graph, by names and by places.
use Rattle.std.proofs.Common.{◌≡◌, ℕ, zero, suc, ◌<◌, ◌≤◌, Bool, true, false, cond, ◌||◌, ◌⊎◌, ◌↔◌, inl, inr, List, [], ◌∷◌, ◌++◌, map, length, slice_get, get_or, Some, Contains, refl, sym, ap, subst, ◌∙◌, arith, true≢false}
use Rattle.std.specs.List.{list_all, list_any}
use Rattle.std.specs.Cmp.Lexicographic.{bytes_decides}
use Rattle.std.proofs.lemmas.Bool.{and_parts, or_left, or_right, cases_lt}
use Rattle.std.proofs.lemmas.List.Elements.{All-contains}
use Rattle.std.proofs.lemmas.List.Folds.{list_any_at}
use Rattle.std.proofs.lemmas.Option.{same_Some}
use Rattle.git_objects.specs.Paths.{Bytes, same_bytes}
use Rattle.git_objects.specs.Lists.{Each}
use Rattle.git_objects.specs.Snapshots.{Snapshot, Graph, snapshot_name, has_name, has, commit_at, is_graph, is_wanted, wanted_below, reached, ancestors}
use Rattle.git_objects.proofs.Basics.{same_bytes-self}
use Rattle.object_store.specs.Objects.{Object}
use Rattle.commit_graph.specs.Graphs.{Row, Reaches, Itself, Through}
use Rattle.commit_graph.proofs.Reaching.{reaches-on}
use Rattle.projection_laws.specs.StoredGraphs.{name_at, IsGraphIn, graph_of, snapshot_named}
use Rattle.projection_laws.proofs.GraphLemmas.{IsGrown, grown}
use Rattle.projection_laws.proofs.HistoryLemmas.{any-append, any-behind, each-map, reached-has, reached-in}
use Rattle.projection_laws.proofs.StoredGraphs.{IsAt, at-row, older, older-suc, row-at, name-is, older-has, older-place, older-graph}

-- ---- by names

all-each : (test : Bytes → Bool) (ns : List Bytes) → list_all test ns ≡ true → Each (λ n. test n ≡ true) ns
all-each test [] h = tt
all-each test (n ∷ ns) h = let w = and_parts (test n) (list_all test ns) h in (w.0, all-each test ns w.1)

pub has-each : (g : Graph) (cs : List Snapshot) (n : Bytes) → Each (λ d. has g (snapshot_name d) ≡ true) cs → has cs n ≡ true → has g n ≡ true
has-each g [] n h e = absurd (true≢false (sym e))
has-each g (d ∷ cs) n h e = by (has_name n d) refl e (has-each g cs n h.1)
  where
    by : (b : Bool) → has_name n d ≡ b → (b || has cs n) ≡ true → (has cs n ≡ true → has g n ≡ true) → has g n ≡ true
    by true q f k = ap (has g) ((bytes_decides n (snapshot_name d)).0 q) ∙ h.0
    by false q f k = k f

parents-wanted : (g : Graph) (ps ws : List Bytes) (front : List Snapshot) → list_all (has g) ps ≡ true → Each (λ n. list_any (same_bytes n) ws ≡ true) ps → Each (λ n. has (front ++ reached g ws) n ≡ true) ps
parents-wanted g [] ws front h k = tt
parents-wanted g (p ∷ ps) ws front h k =
    let w = and_parts (has g p) (list_all (has g) ps) h in
    (any-behind (has_name p) front (reached g ws) (reached-has g ws p w.0 k.0), parents-wanted g ps ws front w.1 k.1)

wanted-front : (ps ws : List Bytes) → Each (λ n. list_any (same_bytes n) (ps ++ ws) ≡ true) ps
wanted-front [] ws = tt
wanted-front (n ∷ ps) ws = (
  or_left (same_bytes n n) (list_any (same_bytes n) (ps ++ ws)) (same_bytes-self n),
  each-map (λ m. list_any (same_bytes m) (ps ++ ws) ≡ true) (λ m. list_any (same_bytes m) (n ∷ ps ++ ws) ≡ true) (λ m h. or_right (same_bytes m n) (list_any (same_bytes m) (ps ++ ws)) h) ps (wanted-front ps ws),
)

-- with a commit its parents are reached
pub reached-closed : (g : Graph) → is_graph g ≡ true → (ws : List Bytes) (n : Bytes) (c : Snapshot) → commit_at g n ≡ Some c → has (reached g ws) n ≡ true → Each (λ p. has (reached g ws) p ≡ true) c.parents
reached-closed [] s ws n c e h = absurd (true≢false (sym h))
reached-closed (d ∷ g) s ws n c e h =
    let w : IsGrown d g = grown d g s in
    by w (has_name n d) refl (is_wanted ws d) refl (λ q r. reached-closed g w.graph (wanted_below ws d) n c q r) e h
  where
    all : Bool → List Snapshot
    all b = cond b (d ∷ []) [] ++ reached g (wanted_below ws d)

    -- the newest isn't reached among the others
    not-older : IsGrown d g → (vs : List Bytes) → has (reached g vs) (snapshot_name d) ≡ true → ⊥
    not-older w vs r = true≢false (sym (has-each g (reached g vs) (snapshot_name d) (reached-in g vs) r) ∙ w.new)

    itself : IsGrown d g → (b : Bool) → is_wanted ws d ≡ b → has (cond b (d ∷ []) [] ++ reached g (wanted_below ws d)) (snapshot_name d) ≡ true → Each (λ p. has (cond b (d ∷ []) [] ++ reached g (wanted_below ws d)) p ≡ true) d.parents
    itself w true q r =
        parents-wanted g d.parents (wanted_below ws d) (d ∷ []) w.parents
        (subst (λ vs. Each (λ n. list_any (same_bytes n) vs ≡ true) d.parents) (sym (ap (λ b. cond b (d.parents ++ ws) ws) q)) (wanted-front d.parents ws))
    itself w false q r = absurd (not-older w (wanted_below ws d) r)

    front : (b : Bool) (ns : List Bytes) → Each (λ p. has (reached g (wanted_below ws d)) p ≡ true) ns → Each (λ p. has (cond b (d ∷ []) [] ++ reached g (wanted_below ws d)) p ≡ true) ns
    front b ns h = each-map (λ p. has (reached g (wanted_below ws d)) p ≡ true) (λ p. has (cond b (d ∷ []) [] ++ reached g (wanted_below ws d)) p ≡ true) (λ p k. any-behind (has_name p) (cond b (d ∷ []) []) (reached g (wanted_below ws d)) k) ns h

    among : (b : Bool) → has_name n d ≡ false → has (cond b (d ∷ []) [] ++ reached g (wanted_below ws d)) n ≡ true → has (reached g (wanted_below ws d)) n ≡ true
    among true q r = sym (ap (λ b. b || has (reached g (wanted_below ws d)) n) q) ∙ r
    among false q r = r

    by : IsGrown d g → (b : Bool) → has_name n d ≡ b → (v : Bool) → is_wanted ws d ≡ v
        → (commit_at g n ≡ Some c → has (reached g (wanted_below ws d)) n ≡ true → Each (λ p. has (reached g (wanted_below ws d)) p ≡ true) c.parents)
        → cond b (Some d) (commit_at g n) ≡ Some c → has (reached (d ∷ g) ws) n ≡ true → Each (λ p. has (reached (d ∷ g) ws) p ≡ true) c.parents
    by w true q v u k e h =
        let same : d ≡ c = same_Some d c e in
        let name : n ≡ snapshot_name d = (bytes_decides n (snapshot_name d)).0 q in
        subst (λ (x : Snapshot). Each (λ p. has (reached (d ∷ g) ws) p ≡ true) x.parents) same
        (itself w (is_wanted ws d) refl (ap (has (reached (d ∷ g) ws)) (sym name) ∙ h))
    by w false q v u k e h = front (is_wanted ws d) c.parents (k e (among (is_wanted ws d) q h))

-- ---- by places

each-get : (f : ℕ → Bytes) (test : Bytes → Type 0) (ps : List ℕ) (k p : ℕ) → k < length ps → Each test (map f ps) → test (f (get_or ps k p))
each-get f test [] k p l h = absurd (omega (arith, l))
each-get f test (q ∷ ps) zero p l h = h.0
each-get f test (q ∷ ps) (suc k) p l h = each-get f test ps k p (omega (arith, l)) h.1

each-place : (f : ℕ → Bytes) (test : Bytes → Type 0) (ps : List ℕ) (p : ℕ) → Each test (map f ps) → Contains ps p → test (f p)
each-place f test ps p h c = subst (λ x. test (f x)) c.2 (each-get f test ps c.0 p c.1 h)

-- the place of a name among names at places
place-among : (f : ℕ → Bytes) (n : Bytes) (ps : List ℕ) → list_any (same_bytes n) (map f ps) ≡ true → (p : ℕ) × Contains ps p × (n ≡ f p)
place-among f n [] h = absurd (true≢false (sym h))
place-among f n (q ∷ ps) h = by (same_bytes n (f q)) refl (place-among f n ps) h
  where
    by : (b : Bool) → same_bytes n (f q) ≡ b → (list_any (same_bytes n) (map f ps) ≡ true → (p : ℕ) × Contains ps p × (n ≡ f p)) → (b || list_any (same_bytes n) (map f ps)) ≡ true → (p : ℕ) × Contains (q ∷ ps) p × (n ≡ f p)
    by true e k h = (q, (0, omega arith, refl), (bytes_decides n (f q)).0 e)
    by false e k h =
        let w = k h in
        let l : w.1.0 < length ps = w.1.1 in
        (w.0, (suc w.1.0, omega (arith, l), w.1.2), w.2)

pub wanted-cases : (n : Bytes) (xs ys : List Bytes) → list_any (same_bytes n) (xs ++ ys) ≡ true → (list_any (same_bytes n) xs ≡ true) ⊎ (list_any (same_bytes n) ys ≡ true)
wanted-cases n xs ys h = by (list_any (same_bytes n) xs) refl (sym (any-append (same_bytes n) xs ys) ∙ h)
  where
    by : (b : Bool) → list_any (same_bytes n) xs ≡ b → (b || list_any (same_bytes n) ys) ≡ true → (list_any (same_bytes n) xs ≡ true) ⊎ (list_any (same_bytes n) ys ≡ true)
    by true e h = inl e
    by false e h = inr h

-- a test that holds of one of the names holds of one of the commits
any-commit : (test : Bytes → Bool) (cs : List Snapshot) (n : Bytes) → has cs n ≡ true → test n ≡ true → list_any (λ d. test (snapshot_name d)) cs ≡ true
any-commit test [] n h t = h
any-commit test (d ∷ cs) n h t = by (has_name n d) refl h (λ k. any-commit test cs n k t)
  where
    by : (b : Bool) → has_name n d ≡ b → (b || has cs n) ≡ true → (has cs n ≡ true → list_any (λ d. test (snapshot_name d)) cs ≡ true) → (test (snapshot_name d) || list_any (λ d. test (snapshot_name d)) cs) ≡ true
    by true e h k = or_left (test (snapshot_name d)) (list_any (λ d. test (snapshot_name d)) cs) (ap test (sym ((bytes_decides n (snapshot_name d)).0 e)) ∙ t)
    by false e h k = or_right (test (snapshot_name d)) (list_any (λ d. test (snapshot_name d)) cs) (k h)

pub commit-any : {P : Snapshot → Type 0} (test : Bytes → Bool) (cs : List Snapshot) → Each P cs → list_any (λ d. test (snapshot_name d)) cs ≡ true → (d : Snapshot) × P d × (test (snapshot_name d) ≡ true)
commit-any test [] h e = absurd (true≢false (sym e))
commit-any {P = P} test (d ∷ cs) h e = by (test (snapshot_name d)) refl e (commit-any test cs h.1)
  where
    by : (b : Bool) → test (snapshot_name d) ≡ b → (b || list_any (λ d. test (snapshot_name d)) cs) ≡ true
        → (list_any (λ d. test (snapshot_name d)) cs ≡ true → (d : Snapshot) × P d × (test (snapshot_name d) ≡ true)) → (d : Snapshot) × P d × (test (snapshot_name d) ≡ true)
    by true q f k = (d, h.0, q)
    by false q f k = k f

pub place-any : (f : ℕ → Bytes) (test : Bytes → Bool) (ps : List ℕ) → list_any (λ i. test (f i)) ps ≡ true → (p : ℕ) × Contains ps p × (test (f p) ≡ true)
place-any f test [] e = absurd (true≢false (sym e))
place-any f test (q ∷ ps) e = by (test (f q)) refl e (place-any f test ps)
  where
    by : (b : Bool) → test (f q) ≡ b → (b || list_any (λ i. test (f i)) ps) ≡ true → (list_any (λ i. test (f i)) ps ≡ true → (p : ℕ) × Contains ps p × (test (f p) ≡ true)) → (p : ℕ) × Contains (q ∷ ps) p × (test (f p) ≡ true)
    by true h g k = (q, (0, omega arith, refl), h)
    by false h g k =
        let w = k g in
        let l : w.1.0 < length ps = w.1.1 in
        (w.0, (suc w.1.0, omega (arith, l), w.1.2), w.2)

pub any-place : (f : ℕ → Bytes) (test : Bytes → Bool) (ps : List ℕ) (p : ℕ) → Contains ps p → test (f p) ≡ true → list_any (λ i. test (f i)) ps ≡ true
any-place f test ps p c t = list_any_at (λ i. test (f i)) ps c.0 p c.1 (ap (λ i. test (f i)) c.2 ∙ t)

same-bool : (a b : Bool) → (a ≡ true → b ≡ true) → (b ≡ true → a ≡ true) → a ≡ b
same-bool true b f g = sym (f refl)
same-bool false true f g = absurd (true≢false (sym (g refl)))
same-bool false false f g = refl

module _ (S : List Object) (rows : List Row) (g : IsGraphIn S rows) where
  -- what holds of a commit's parents with it holds of all that it reaches
  pub reaches-keep : (test : Bytes → Type 0) → ((i : ℕ) (r : Row) → slice_get rows i ≡ Some r → test r.name → Each test (map (name_at rows) r.parents)) →
      (i j : ℕ) → Reaches rows i j → test (name_at rows i) → test (name_at rows j)
  reaches-keep test closed _ _ (Itself i) h = h
  reaches-keep test closed _ _ (Through i p j r e c u) h =
      reaches-keep test closed p j u (each-place (name_at rows) test r.parents p (closed i r e (subst test (name-is S rows g i r e) h)) c)

  -- the commits up to a place that are wanted are reached from the head
  abbrev Wants : ℕ → ℕ → List Bytes → Type 0
  Wants h k ws = (i : ℕ) (r : Row) → slice_get rows i ≡ Some r → i < k → list_any (same_bytes r.name) ws ≡ true → Reaches rows h i

  abbrev pub IsReached : ℕ → ℕ → Snapshot → Type 0
  IsReached h k d = (j : ℕ) × (j < k) × (name_at rows j ≡ snapshot_name d) × Reaches rows h j

  reached-further : (h k : ℕ) (d : Snapshot) → IsReached h k d → IsReached h (suc k) d
  reached-further h k d w = (w.0, (let l : w.0 < k = w.1 in omega (arith, l)), w.2, w.3)

  reached-reaches : (h k : ℕ) → k ≤ length rows → (ws : List Bytes) → Wants h k ws → Each (IsReached h k) (reached (older S rows g k) ws)
  unfolding graph_of
  reached-reaches h zero l ws f = tt
  reached-reaches h (suc k) l ws f =
      let w = row-at S rows g k (omega (arith, l)) in
      let a = at-row S rows g k w.0 w.1 in
      subst (λ (x : Graph). Each (IsReached h (suc k)) (reached x ws)) (sym (older-suc S rows g k w.0 a.0 w.1 a.1))
      (by w.0 w.1 a.0 a.1 (is_wanted ws a.0) refl (λ vs q. reached-reaches h k (omega (arith, l)) vs q))
    where
      itself : (r : Row) → slice_get rows k ≡ Some r → (c : Snapshot) → IsAt S rows r c → is_wanted ws c ≡ true → Reaches rows h k
      itself r e c a q = f k r e (omega arith) (ap (λ n. list_any (same_bytes n) ws) (sym a.name) ∙ q)

      parents : (r : Row) → slice_get rows k ≡ Some r → (c : Snapshot) → IsAt S rows r c → Reaches rows h k → Wants h k (c.parents ++ ws)
      parents r e c a u i s d b q = elim (wanted-cases s.name c.parents ws q) as (λ o. Reaches rows h i) [
        | inl y ↦
            let p = place-among (name_at rows) s.name r.parents (sym (ap (list_any (same_bytes s.name)) a.parents) ∙ y) in
            let below : p.0 < k = All-contains (λ x. x < k) r.parents p.0 (g.graph.placed k r e) p.1 in
            let t = row-at S rows g p.0 (omega (arith, below, l)) in
            let same : p.0 ≡ i = g.graph.distinct p.0 i t.0 s t.1 d (sym (name-is S rows g p.0 t.0 t.1) ∙ sym p.2) in
            reaches-on rows h k i r u e (subst (Contains r.parents) same p.1)
        | inr y ↦ f i s d (omega (arith, b)) y
      ]

      by : (r : Row) → slice_get rows k ≡ Some r → (c : Snapshot) → IsAt S rows r c → (b : Bool) → is_wanted ws c ≡ b
          → ((vs : List Bytes) → Wants h k vs → Each (IsReached h k) (reached (older S rows g k) vs))
          → Each (IsReached h (suc k)) (cond (is_wanted ws c) (c ∷ []) [] ++ reached (older S rows g k) (cond (is_wanted ws c) (c.parents ++ ws) ws))
      by r e c a true q rest =
          let u = itself r e c a q in
          subst (λ b. Each (IsReached h (suc k)) (cond b (c ∷ []) [] ++ reached (older S rows g k) (cond b (c.parents ++ ws) ws))) (sym q) (
            (k, omega arith, name-is S rows g k r e ∙ sym a.name, u),
            each-map (IsReached h k) (IsReached h (suc k)) (reached-further h k) (reached (older S rows g k) (c.parents ++ ws)) (rest (c.parents ++ ws) (parents r e c a u)),
          )
      by r e c a false q rest =
          subst (λ b. Each (IsReached h (suc k)) (cond b (c ∷ []) [] ++ reached (older S rows g k) (cond b (c.parents ++ ws) ws))) (sym q)
          (each-map (IsReached h k) (IsReached h (suc k)) (reached-further h k) (reached (older S rows g k) ws) (rest ws (λ i s d b y. f i s d (omega (arith, b)) y)))

  one-wanted : (h k : ℕ) → h < k → k ≤ length rows → Wants h k (name_at rows h ∷ [])
  one-wanted h k b l i r e c q =
      let t = row-at S rows g h (omega (arith, b, l)) in
      let named : r.name ≡ name_at rows h = single (same_bytes r.name (name_at rows h)) refl q in
      subst (Reaches rows h) (g.graph.distinct h i t.0 r t.1 e (sym (name-is S rows g h t.0 t.1) ∙ sym named)) (Itself h)
    where
      single : (b : Bool) → same_bytes r.name (name_at rows h) ≡ b → (b || false) ≡ true → r.name ≡ name_at rows h
      single true y z = (bytes_decides r.name (name_at rows h)).0 y
      single false y z = absurd (true≢false (sym z))

  -- each ancestor stands at a place that is reached
  pub ancestors-reach : (h k : ℕ) → h < k → k ≤ length rows → Each (IsReached h k) (ancestors (older S rows g k) (name_at rows h))
  ancestors-reach h k b l = reached-reaches h k l (name_at rows h ∷ []) (one-wanted h k b l)

  -- the commit of a row, where the graph of the commits before a later place has it
  pub commit-older : (k : ℕ) → k ≤ length rows → (i : ℕ) (r : Row) (c : Snapshot) → slice_get rows i ≡ Some r → i < k → IsAt S rows r c → commit_at (older S rows g k) r.name ≡ Some c
  unfolding graph_of
  commit-older zero l i r c e b a = absurd (omega (arith, b))
  commit-older (suc k) l i r c e b a =
      let w = row-at S rows g k (omega (arith, l)) in
      let x = at-row S rows g k w.0 w.1 in
      ap (λ (y : Graph). commit_at y r.name) (older-suc S rows g k w.0 x.0 w.1 x.1)
      ∙ by w.0 w.1 x.0 x.1 (has_name r.name x.0) refl (λ q. commit-older k (omega (arith, l)) i r c e q a)
    where
      by : (s : Row) → slice_get rows k ≡ Some s → (d : Snapshot) → IsAt S rows s d → (v : Bool) → has_name r.name d ≡ v → (i < k → commit_at (older S rows g k) r.name ≡ Some c)
          → cond (has_name r.name d) (Some d) (commit_at (older S rows g k) r.name) ≡ Some c
      by s q d y true t rest =
          let name : r.name ≡ s.name = (bytes_decides r.name (snapshot_name d)).0 t ∙ y.name in
          let here : i ≡ k = g.graph.distinct i k r s e q name in
          let same : r ≡ s = same_Some r s (sym e ∙ ap (slice_get rows) here ∙ q) in
          let one : Some c ≡ Some d = sym a.found ∙ ap (λ (z : Row). snapshot_named S z.name) same ∙ y.found in
          ap (λ v. cond v (Some d) (commit_at (older S rows g k) r.name)) t ∙ sym one
      by s q d y false t rest =
          ap (λ v. cond v (Some d) (commit_at (older S rows g k) r.name)) t
          ∙ rest (elim (cases_lt i k) as (λ o. i < k) [
            | inl z ↦ z
            | inr z ↦
                let here : i ≡ k = omega (arith, b, z) in
                let same : r ≡ s = same_Some r s (sym e ∙ ap (slice_get rows) here ∙ q) in
                absurd (true≢false (sym (ap (same_bytes r.name) (y.name ∙ ap (λ (z : Row). z.name) (sym same)) ∙ same_bytes-self r.name) ∙ t))
          ])

  -- what is reached in the graph is reached by places
  pub reaches-reached : (k : ℕ) → k ≤ length rows → (ws : List Bytes) (i j : ℕ) → i < k → Reaches rows i j → has (reached (older S rows g k) ws) (name_at rows i) ≡ true → has (reached (older S rows g k) ws) (name_at rows j) ≡ true
  reaches-reached k l ws i j b u h =
      reaches-keep (λ n. has (reached (older S rows g k) ws) n ≡ true) (λ x r e t.
      let p = older-place S rows g k l r.name (has-each (older S rows g k) (reached (older S rows g k) ws) r.name (reached-in (older S rows g k) ws) t) in
      let here : p.0 ≡ x = g.graph.distinct p.0 x p.1 r p.3 e p.4 in
      let a = at-row S rows g x r e in
      subst (Each (λ n. has (reached (older S rows g k) ws) n ≡ true)) a.1.parents
      (reached-closed (older S rows g k) (older-graph S rows g k l) ws r.name a.0 (commit-older k l x r a.0 e (subst (λ y. y < k) here p.2) a.1) t))
      i j u h

  -- a test that holds of a place that a commit reaches holds of one of its ancestors
  pub any-reached : (h k : ℕ) → h < k → k ≤ length rows → (ps : List ℕ) → ((i : ℕ) → Contains ps i → Reaches rows h i) → (test : Bytes → Bool) →
      list_any (λ i. test (name_at rows i)) ps ≡ true → list_any (λ d. test (snapshot_name d)) (ancestors (older S rows g k) (name_at rows h)) ≡ true
  any-reached h k b l ps reach test e =
      let G : Graph = older S rows g k in
      let w = row-at S rows g h (omega (arith, b, l)) in
      let p = place-any (name_at rows) test ps e in
      let start : has (ancestors G (name_at rows h)) (name_at rows h) ≡ true =
      reached-has G (name_at rows h ∷ []) (name_at rows h) (ap (has G) (name-is S rows g h w.0 w.1) ∙ older-has S rows g k l h w.0 w.1 b) (or_left (same_bytes (name_at rows h) (name_at rows h)) false (same_bytes-self (name_at rows h))) in
      any-commit test (ancestors G (name_at rows h)) (name_at rows p.0) (reaches-reached k l (name_at rows h ∷ []) h p.0 b (reach p.0 p.1) start) p.2

  -- a test holds of one of the places that a commit reaches exactly where it holds of one of its ancestors
  pub same-reached : (h k : ℕ) → h < k → k ≤ length rows → (ps : List ℕ) → ((i : ℕ) → Contains ps i ↔ Reaches rows h i) → (test : Bytes → Bool) →
      list_any (λ i. test (name_at rows i)) ps ≡ list_any (λ d. test (snapshot_name d)) (ancestors (older S rows g k) (name_at rows h))
  same-reached h k b l ps exact test =
      same-bool _ _
      (any-reached h k b l ps (λ i. (exact i).0) test)
      (λ e.
      let d = commit-any test (ancestors (older S rows g k) (name_at rows h)) (ancestors-reach h k b l) e in
      any-place (name_at rows) test ps d.1.0 ((exact d.1.0).1 d.1.3) (ap test d.1.2 ∙ d.2))

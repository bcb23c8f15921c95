-- Which commits are before another, and which places its row reaches.
use Rattle.std.proofs.Common.{◌≡◌, ℕ, ◌<◌, ◌⊎◌, ◌↔◌, inl, inr, Bool, true, false, cond, ◌||◌, List, [], ◌∷◌, map, slice_get, get_or, Option, Some, None, Contains, refl, sym, ap, subst, ◌∙◌, arith, true≢false}
use Rattle.std.specs.List.{list_all, list_any}
use Rattle.std.specs.Option.{is_some, option_map, option_map_or}
use Rattle.std.specs.Cmp.Lexicographic.{bytes_decides}
use Rattle.std.proofs.lemmas.Bool.{or_cases, or_left, or_right}
use Rattle.std.proofs.lemmas.List.Elements.{All-contains}
use Rattle.std.proofs.lemmas.List.Folds.{Any-from_list_any, list_any_at, list_all-map}
use Rattle.std.proofs.lemmas.List.Quantifiers.{position-Some}
use Rattle.std.proofs.lemmas.Option.{same_Some, slice_get-get_or, slice_get_within}
use Rattle.git_objects.specs.Paths.{Bytes, same_bytes}
use Rattle.git_objects.specs.Snapshots.{Snapshot, snapshot_name}
use Rattle.commit_graph.specs.Graphs.{Row, place_of, Reaches, Itself, Through}
use Rattle.object_store.specs.Objects.{Object}
use Rattle.object_store.specs.StoredSnapshots.{commit_named, snapshot_of}
use Rattle.projection_laws.specs.StoredGraphs.{name_at, IsGraphIn}
use Rattle.state_items.specs.Imported.{is_among}
use Rattle.state_items.proofs.Naming.{any-map}
use Rattle.state_items.proofs.ParentPlaces.{all-at}
use Rattle.repo_ground.specs.Moves.{is_before}
use Rattle.repo_ground.specs.Reaching.{AreEntered, HasCommits, IsEntered}

-- ---- rows at places

-- the row at a place has that name
pub record IsRowAt (rows : List Row) (n : Bytes) (i : ℕ) : Type 0 where
  pub row : Row
  pub at : slice_get rows i ≡ Some row
  pub named : row.name ≡ n

pub row-at : (n : Bytes) (rows : List Row) (i : ℕ) → place_of n rows ≡ Some i → IsRowAt rows n i
row-at n rows i h =
    let none : Row = record { name = []; tree = []; parents = [] } in
    let w = position-Some (λ (r : Row). same_bytes r.name n) rows i none h in
    record { row = get_or rows i none; at = slice_get-get_or rows i none w.0; named = (bytes_decides (get_or rows i none).name n).0 w.1 }

pub some-of : {A : Type 0} (o : Option A) → is_some o ≡ true → (x : A) × (o ≡ Some x)
some-of None h = absurd (true≢false (sym h))
some-of (Some x) h = (x, refl)

pub none-of : {A : Type 0} (o : Option A) → is_some o ≡ false → o ≡ None
none-of None h = refl
none-of (Some x) h = absurd (true≢false h)

-- the row of a commit, which has its name, and at whose places its parents are
pub record IsRowOf (rows : List Row) (c : Snapshot) : Type 0 where
  pub place : ℕ
  pub row : Row
  pub at : slice_get rows place ≡ Some row
  pub named : row.name ≡ snapshot_name c
  pub parents : c.parents ≡ map (name_at rows) row.parents

row-of : (S : List Object) (rows : List Row) (c : Snapshot) → IsGraphIn S rows → IsEntered S rows c → IsRowOf rows c
row-of S rows c g e =
    let p = some-of (place_of (snapshot_name c) rows) e.placed in
    let r = row-at (snapshot_name c) rows p.0 p.1 in
    let w = g.each p.0 r.row r.at in
    let named : commit_named S (snapshot_name c) ≡ Some w.commit = ap (commit_named S) (sym r.named) ∙ w.named in
    let same : snapshot_of S w.commit ≡ c = same_Some (snapshot_of S w.commit) c (sym (ap (option_map (snapshot_of S)) named) ∙ e.stored) in
    record { place = p.0; row = r.row; at = r.at; named = r.named; parents = ap (λ (x : Snapshot). x.parents) (sym same) ∙ w.parents }

name-of : (rows : List Row) (i : ℕ) (r : Row) → slice_get rows i ≡ Some r → name_at rows i ≡ r.name
name-of rows i r e = ap (λ (o : Option Row). option_map_or (λ r. r.name) o []) e

pub get-member : {A : Type 0} (xs : List A) (x : A) (m : Contains xs x) → slice_get xs m.0 ≡ Some x
get-member xs x m = slice_get-get_or xs m.0 x m.1 ∙ ap Some m.2

-- the one step that leads on from a place, where it isn't the other place itself
pub record IsStepTo (rows : List Row) (i j : ℕ) : Type 0 where
  pub row : Row
  pub place : ℕ
  pub at : slice_get rows i ≡ Some row
  pub among : Contains row.parents place
  pub on : Reaches rows place j

first-step : (rows : List Row) (i j : ℕ) → Reaches rows i j → (i ≡ j) ⊎ IsStepTo rows i j
first-step rows _ _ (Itself i) = inl refl
first-step rows _ _ (Through i p j r e c u) = inr (record { row = r; place = p; at = e; among = c; on = u })

-- ---- before a commit, and reached from its row

module _ (S : List Object) (rows : List Row) (g : IsGraphIn S rows) where
  -- the row of a parent
  parent-row : (i p : ℕ) (r : Row) → slice_get rows i ≡ Some r → Contains r.parents p → (t : Row) × (slice_get rows p ≡ Some t) × (name_at rows p ≡ t.name)
  parent-row i p r e c =
      let below : p < i = All-contains (λ q. q < i) r.parents p (g.graph.placed i r e) c in
      let within = slice_get_within rows i r e in
      let at = slice_get-get_or rows p r (omega (arith, below, within)) in
      (get_or rows p r, at, name-of rows p (get_or rows p r) at)

  -- the parents of a commit are at the places of the row with its name
  parents-of : (c : Snapshot) → IsEntered S rows c → (i : ℕ) (r : Row) → slice_get rows i ≡ Some r → same_bytes (snapshot_name c) r.name ≡ true → c.parents ≡ map (name_at rows) r.parents
  parents-of c n i r e q =
      let w = row-of S rows c g n in
      let here : w.place ≡ i = g.graph.distinct w.place i w.row r w.at e (w.named ∙ (bytes_decides (snapshot_name c) r.name).0 q) in
      let same : w.row ≡ r = same_Some w.row r (sym w.at ∙ ap (slice_get rows) here ∙ e) in
      w.parents ∙ ap (λ (x : Row). map (name_at rows) x.parents) same

  module _ (old : Bytes) (j : ℕ) (s : Row) (there : slice_get rows j ≡ Some s) (named : s.name ≡ old) where
    -- whether a parent is the old commit or comes behind it
    abbrev leads : List Snapshot → Bytes → Bool
    leads older p = same_bytes p old || is_before older old p

    before-one : (older : List Snapshot) → ((p : ℕ) (t : Row) → slice_get rows p ≡ Some t → is_before older old t.name ≡ true → Reaches rows p j) →
        (c : Snapshot) → IsEntered S rows c → (i : ℕ) (r : Row) → slice_get rows i ≡ Some r → same_bytes (snapshot_name c) r.name ≡ true → list_any (leads older) c.parents ≡ true → Reaches rows i j
    before-one older rest c n i r e q h =
        let all : list_any (λ p. leads older (name_at rows p)) r.parents ≡ true =
        sym (any-map (leads older) (name_at rows) r.parents) ∙ ap (list_any (leads older)) (sym (parents-of c n i r e q)) ∙ h in
        let a = Any-from_list_any (λ p. leads older (name_at rows p)) r.parents all in
        let p : ℕ = a.1 in
        let m : Contains r.parents p = (a.0, a.2, a.3) in
        let t = parent-row i p r e m in
        elim (or_cases (same_bytes (name_at rows p) old) (is_before older old (name_at rows p)) a.4) as (λ o. Reaches rows i j) [
          | inl y ↦
              let same : p ≡ j = g.graph.distinct p j t.0 s t.1 there (sym t.2 ∙ (bytes_decides (name_at rows p) old).0 y ∙ sym named) in
              Through i p j r e m (subst (Reaches rows p) same (Itself p))
          | inr y ↦ Through i p j r e m (rest p t.0 t.1 (ap (is_before older old) (sym t.2) ∙ y))
        ]

    -- a commit reaches what is before it
    before-reaches : (cs : List Snapshot) → AreEntered S rows cs → (i : ℕ) (r : Row) → slice_get rows i ≡ Some r → is_before cs old r.name ≡ true → Reaches rows i j
    before-reaches [] a i r e h = absurd (true≢false (sym h))
    before-reaches (c ∷ older) a i r e h =
        elim (same_bytes (snapshot_name c) r.name) as (λ b. same_bytes (snapshot_name c) r.name ≡ b → cond b (list_any (leads older) c.parents) (is_before older old r.name) ≡ true → Reaches rows i j) [
          | true ↦ λ q k. before-one older (λ p t f l. before-reaches older a.2 p t f l) c a.0 i r e q k
          | false ↦ λ q k. before-reaches older a.2 i r e k
        ] refl h

    -- where a parent's row leads to the old commit
    leads-from : (older : List Snapshot) → ((i : ℕ) (r : Row) → slice_get rows i ≡ Some r → is_among older r.name ≡ true → (p : ℕ) → Contains r.parents p → Reaches rows p j → is_before older old r.name ≡ true) →
        (p : ℕ) (t : Row) → slice_get rows p ≡ Some t → name_at rows p ≡ t.name → is_among older (name_at rows p) ≡ true → Reaches rows p j → leads older (name_at rows p) ≡ true
    leads-from older rest p t f k h u =
        elim (first-step rows p j u) as (λ o. leads older (name_at rows p) ≡ true) [
          | inl e ↦
              let same : name_at rows p ≡ old = ap (name_at rows) e ∙ name-of rows j s there ∙ named in
              or_left (same_bytes (name_at rows p) old) (is_before older old (name_at rows p)) ((bytes_decides (name_at rows p) old).1 same)
          | inr w ↦
              let same : w.row ≡ t = same_Some w.row t (sym w.at ∙ f) in
              let among : Contains t.parents w.place = subst (λ (x : Row). Contains x.parents w.place) same w.among in
              or_right (same_bytes (name_at rows p) old) (is_before older old (name_at rows p))
              (ap (is_before older old) k ∙ rest p t f (ap (is_among older) (sym k) ∙ h) w.place among w.on)
        ]

    reached-one : (older : List Snapshot) → ((i : ℕ) (r : Row) → slice_get rows i ≡ Some r → is_among older r.name ≡ true → (p : ℕ) → Contains r.parents p → Reaches rows p j → is_before older old r.name ≡ true) →
        (c : Snapshot) → IsEntered S rows c → list_all (is_among older) c.parents ≡ true → (i : ℕ) (r : Row) → slice_get rows i ≡ Some r → same_bytes (snapshot_name c) r.name ≡ true →
        (p : ℕ) → Contains r.parents p → Reaches rows p j → list_any (leads older) c.parents ≡ true
    reached-one older rest c n all i r e q p m u =
        let parents = parents-of c n i r e q in
        let t = parent-row i p r e m in
        let each : list_all (λ x. is_among older (name_at rows x)) r.parents ≡ true = sym (list_all-map (is_among older) (name_at rows) r.parents) ∙ ap (list_all (is_among older)) (sym parents) ∙ all in
        let known : is_among older (name_at rows p) ≡ true = all-at (λ x. is_among older (name_at rows x)) r.parents m.0 p (get-member r.parents p m) each in
        let lead : leads older (name_at rows p) ≡ true = leads-from older rest p t.0 t.1 t.2 known u in
        ap (list_any (leads older)) parents
        ∙ any-map (leads older) (name_at rows) r.parents
        ∙ list_any_at (λ x. leads older (name_at rows x)) r.parents m.0 p m.1 (ap (λ x. leads older (name_at rows x)) m.2 ∙ lead)

    -- what a commit's parents reach is before it
    reached-before : (cs : List Snapshot) → AreEntered S rows cs → (i : ℕ) (r : Row) → slice_get rows i ≡ Some r → is_among cs r.name ≡ true → (p : ℕ) → Contains r.parents p → Reaches rows p j → is_before cs old r.name ≡ true
    reached-before [] a i r e k p m u = absurd (true≢false (sym k))
    reached-before (c ∷ older) a i r e k p m u =
        elim (same_bytes (snapshot_name c) r.name) as (λ b. same_bytes (snapshot_name c) r.name ≡ b → (b || is_among older r.name) ≡ true → cond b (list_any (leads older) c.parents) (is_before older old r.name) ≡ true) [
          | true ↦ λ q l. reached-one older (λ x y f z o d v. reached-before older a.2 x y f z o d v) c a.0 a.1 i r e q p m u
          | false ↦ λ q l. reached-before older a.2 i r e l p m u
        ] refl k

    -- a commit reaches the old one exactly where it is the old one or behind it
    reaches-moved : (cs : List Snapshot) → AreEntered S rows cs → (k : ℕ) (r : Row) → slice_get rows k ≡ Some r → is_among cs r.name ≡ true → Reaches rows k j ↔ ((same_bytes old r.name || is_before cs old r.name) ≡ true)
    reaches-moved cs a k r e n = (
      λ u. elim (first-step rows k j u) as (λ o. (same_bytes old r.name || is_before cs old r.name) ≡ true) [
        | inl f ↦
            let same : old ≡ r.name = sym named ∙ sym (name-of rows j s there) ∙ ap (name_at rows) (sym f) ∙ name-of rows k r e in
            or_left (same_bytes old r.name) (is_before cs old r.name) ((bytes_decides old r.name).1 same)
        | inr w ↦
            let same : w.row ≡ r = same_Some w.row r (sym w.at ∙ e) in
            let among : Contains r.parents w.place = subst (λ (x : Row). Contains x.parents w.place) same w.among in
            or_right (same_bytes old r.name) (is_before cs old r.name) (reached-before cs a k r e n w.place among w.on)
      ],
      λ h. elim (or_cases (same_bytes old r.name) (is_before cs old r.name) h) as (λ o. Reaches rows k j) [
        | inl y ↦
            let same : k ≡ j = g.graph.distinct k j r s e there (sym ((bytes_decides old r.name).0 y) ∙ sym named) in
            subst (Reaches rows k) same (Itself k)
        | inr y ↦ before-reaches cs a k r e y
      ],
    )

-- a commit reaches another by their places exactly where it is the other one or behind it
pub moved-on : (S : List Object) (rows : List Row) (cs : List Snapshot) → HasCommits S rows cs → (old new : Bytes) → is_among cs new ≡ true → (i j : ℕ) → place_of old rows ≡ Some i → place_of new rows ≡ Some j
    → Reaches rows j i ↔ ((same_bytes old new || is_before cs old new) ≡ true)
moved-on S rows cs h old new n i j p q =
    let s = row-at old rows i p in
    let r = row-at new rows j q in
    subst (λ (m : Bytes). Reaches rows j i ↔ ((same_bytes old m || is_before cs old m) ≡ true)) r.named
    (reaches-moved S rows h.graph old i s.row s.at s.named cs h.each j r.row r.at (ap (is_among cs) r.named ∙ n))

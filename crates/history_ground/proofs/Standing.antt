-- Commits that stand at places.
use Rattle.std.proofs.Common.{◌≡◌, ℕ, ◌<◌, ◌≤◌, ◌↔◌, inl, inr, Bool, true, false, List, length, get_or, slice_get, Option, Some, None, IsSome, Result, Ok, Err, All, Contains, refl, sym, subst, ◌∙◌, arith, true≢false}
use Rattle.std.specs.List.Sorted.{IsBinarySearchResult, IsStrictlyIncreasing}
use Rattle.std.specs.Ordering.{nat_cmp}
use Rattle.std.specs.Result.{MatchResult, is_ok}
use Rattle.std.specs.Cmp.Lexicographic.{bytes_decides}
use Rattle.std.proofs.lemmas.Bool.{cases_lt}
use Rattle.std.proofs.lemmas.List.{get_or_default}
use Rattle.std.proofs.lemmas.List.Elements.{All-contains, All-contains_itself}
use Rattle.std.proofs.lemmas.List.Kept.{AllPairs-from_increasing}
use Rattle.std.proofs.lemmas.List.Sorted.{searched}
use Rattle.git_objects.specs.Paths.{Bytes, same_bytes}
use Rattle.git_objects.specs.Snapshots.{ancestors, has}
use Rattle.commit_graph.specs.Graphs.{Row, Reaches, place_of}
use Rattle.commit_graph.proofs.Places.{absent}
use Rattle.commit_graph.proofs.Reaching.{reaches-down}
use Rattle.projection_laws.specs.StoredGraphs.{name_at}
use Rattle.projection_laws.proofs.Reached.{any-place, place-any, same-reached}
use Rattle.projection_laws.proofs.StoredGraphs.{name-is, older-all, row-at}
use Rattle.projection_ground.specs.Grounds.{IsGround, commits_of}
use Rattle.projection_ground.specs.declared.ground.Ground.{Ground}
use Rattle.history_ground.specs.Before.{stands_at}
use Rattle.history_ground.proofs.ProjectLemmas.{place-named, place-within}

-- ---- places that ascend

ascends : (xs : List ℕ) → IsStrictlyIncreasing xs → (i j : ℕ) → i ≤ j → j < length xs → get_or xs i 0 ≤ get_or xs j 0
ascends xs r i j a l = elim (cases_lt i j) as (λ o. get_or xs i 0 ≤ get_or xs j 0) [
  | inl b ↦ let q = AllPairs-from_increasing xs r i j 0 b l in omega (arith, q)
  | inr b ↦ let same : i ≡ j = omega (arith, a, b) in subst (λ k. get_or xs i 0 ≤ get_or xs k 0) same (omega arith)
]

-- ---- the place of a name among them

module _ (g : Ground) (w : IsGround g) (ps : List ℕ) (placed : All (λ p. p < length g.graph) ps) (n : Bytes) where
  -- a place among them whose commit has the name
  standing : stands_at g.graph ps n ≡ true → (p : ℕ) × Contains ps p × (r : Row) × (slice_get g.graph p ≡ Some r) × (n ≡ r.name)
  standing e =
      let p = place-any (name_at g.graph) (same_bytes n) ps e in
      let r = row-at g.store g.graph w.graph p.0 (All-contains (λ q. q < length g.graph) ps p.0 placed p.1) in
      (p.0, p.1, r.0, r.1, (bytes_decides n (name_at g.graph p.0)).0 p.2 ∙ name-is g.store g.graph w.graph p.0 r.0 r.1)

  pub stands-nowhere : None ≡ place_of n g.graph → false ≡ stands_at g.graph ps n
  stands-nowhere e = by (stands_at g.graph ps n) refl
    where
      by : (b : Bool) → stands_at g.graph ps n ≡ b → false ≡ b
      by false q = refl
      by true q =
          let s = standing q in
          absurd (true≢false (sym ((bytes_decides s.2.name n).1 (sym s.4)) ∙ absent (λ (r : Row). same_bytes r.name n) g.graph (sym e) s.0 s.2 s.3))

  pub stands-somewhere : stands_at g.graph ps n ≡ true → IsSome (place_of n g.graph)
  stands-somewhere s = by (place_of n g.graph) refl
    where
      by : (o : Option ℕ) → place_of n g.graph ≡ o → IsSome o
      by (Some p) q = refl
      by None q = absurd (true≢false (sym s ∙ sym (stands-nowhere (sym q))))

  module _ (p : ℕ) (e : Some p ≡ place_of n g.graph) where
    stands-found : Contains ps p → stands_at g.graph ps n ≡ true
    stands-found c = any-place (name_at g.graph) (same_bytes n) ps p c ((bytes_decides n (name_at g.graph p)).1 (sym (place-named n g.graph p e)))

    -- no other place has the name
    stands-here : stands_at g.graph ps n ≡ true → Contains ps p
    stands-here q =
        let s = standing q in
        let r = row-at g.store g.graph w.graph p (place-within n g.graph p e) in
        let same : s.0 ≡ p = w.graph.graph.distinct s.0 p s.2 r.0 s.3 r.1 (sym s.4 ∙ sym (place-named n g.graph p e) ∙ name-is g.store g.graph w.graph p r.0 r.1) in
        subst (Contains ps) same s.1

    pub stands-searched : IsStrictlyIncreasing ps → (r : Result ℕ ℕ) → IsBinarySearchResult (λ y. nat_cmp y p) ps r → is_ok r ≡ stands_at g.graph ps n
    stands-searched up r h = by r (searched ps p r h (ascends ps up))
      where
        by : (r : Result ℕ ℕ) → MatchResult r (λ i. (i < length ps) × (get_or ps i 0 ≡ p)) (λ i. (i ≤ length ps) × ((k : ℕ) → k < i → get_or ps k 0 < p) × ((k : ℕ) → i ≤ k → k < length ps → p < get_or ps k 0)) → is_ok r ≡ stands_at g.graph ps n
        by (Ok i) x = sym (stands-found (i, x.0, get_or_default ps i p 0 x.0 ∙ x.1))
        by (Err i) x = none (stands_at g.graph ps n) refl
          where
            none : (b : Bool) → stands_at g.graph ps n ≡ b → false ≡ b
            none false q = refl
            none true q =
                let c = stands-here q in
                let at : get_or ps c.0 0 ≡ p = get_or_default ps c.0 0 p c.1 ∙ c.2 in
                absurd (elim (cases_lt c.0 i) as (λ o. ⊥) [
                  | inl l ↦ let b = x.1 c.0 l in omega (arith, b, at)
                  | inr l ↦ let b = x.2 c.0 l c.1 in omega (arith, b, at)
                ])

-- ---- the places of a head and its ancestors

-- a head's place, and the places that it reaches
pub record IsLine (h : Bytes) (ps : List ℕ) (rows : List Row) : Type 0 where
  pub place : ℕ
  pub there : place < length rows
  pub named : name_at rows place ≡ h
  pub exact : (i : ℕ) → Contains ps i ↔ Reaches rows place i

pub line-of : (h : Bytes) (xs ps : List ℕ) (rows : List Row) (p : ℕ) → Some p ≡ place_of h rows → ps ≡ xs → ((i : ℕ) → Contains xs i ↔ Reaches rows p i) → IsLine h ps rows
line-of h xs ps rows p e q x = subst (λ (ys : List ℕ). IsLine h ys rows) (sym q) (record { place = p; there = place-within h rows p e; named = place-named h rows p e; exact = x })

module _ (g : Ground) (w : IsGround g) (h : Bytes) (ps : List ℕ) (v : IsLine h ps g.graph) where
  pub line-placed : All (λ p. p < length g.graph) ps
  line-placed i d l =
      let down = reaches-down g.graph w.graph.graph v.place (get_or ps i d) ((v.exact (get_or ps i d)).0 (All-contains_itself ps i d l)) in
      let there = v.there in
      omega (arith, down, there)

  -- what stands there is the head or an ancestor of it
  pub line-stands : (n : Bytes) → stands_at g.graph ps n ≡ has (ancestors (commits_of g) h) n
  line-stands n =
      same-reached g.store g.graph w.graph v.place (length g.graph) v.there (omega arith) ps v.exact (same_bytes n)
      ∙ (λ i. has (ancestors (older-all g.store g.graph w.graph i) (v.named i)) n)

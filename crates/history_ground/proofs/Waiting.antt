-- The commits that wait in a walk.
use Rattle.std.proofs.Common.{◌≡◌, ℕ, ◌+◌, ◌<◌, ◌⊎◌, inl, inr, true, false, List, [], ◌∷◌, ◌++◌, length, reverse, Option, Some, None, IsSome, All, refl, sym, ap, subst, ◌∙◌, ◌||◌, get_or, arith, true≢false}
use Rattle.std.specs.Option.{is_some}
use Rattle.std.proofs.lemmas.List.{reverse-append}
use Rattle.std.proofs.lemmas.List.Elements.{All-cons, All-tail}
use Rattle.git_objects.specs.Paths.{Bytes}
use Rattle.git_objects.specs.Snapshots.{Graph, has, ancestors}
use Rattle.git_objects.proofs.Basics.{same_bytes-self}
use Rattle.commit_graph.specs.Graphs.{Row, Reaches}
use Rattle.commit_map.specs.Shown.{Shown, Entries, kept_at}
use Rattle.projection_laws.specs.Filled.{weighing}
use Rattle.projection_laws.specs.StoredGraphs.{name_at}
use Rattle.projection_laws.proofs.StoredGraphs.{row-at, name-is, older-all, older-has}
use Rattle.projection_laws.proofs.HistoryLemmas.{reached-has}
use Rattle.projection_laws.proofs.Reached.{reaches-reached}
use Rattle.projection_ground.specs.Choosing.{IsBelow}
use Rattle.projection_ground.specs.Grounds.{IsGround, commits_of}
use Rattle.projection_ground.specs.declared.ground.Ground.{Ground}
use Rattle.projection_ground.proofs.Filling.{kept-append, kept-new, kept-front, kept-other, weigh-set}

-- ---- the waiting commits, the latest first

-- Each is an ancestor of the head of which nothing is kept, and stands before those that came earlier.
abbrev pub IsStack : Ground → Bytes → Entries → List ℕ → Type 0
IsStack g n es [] = Unit
IsStack g n es (p ∷ ps) = (p < length g.graph) × (has (ancestors (commits_of g) n) (name_at g.graph p) ≡ true) × (kept_at (name_at g.graph p) es ≡ None) × All (λ q. p < q) ps × IsStack g n es ps

-- the first that came
abbrev pub EndsIn : ℕ → List ℕ → Type 0
EndsIn h [] = ⊥
EndsIn h (p ∷ []) = p ≡ h
EndsIn h (p ∷ q ∷ ps) = EndsIn h (q ∷ ps)

abbrev pub first_of : List ℕ → ℕ
first_of [] = 0
first_of (p ∷ ps) = p

-- ---- names

pub has-named : (g : Ground) (w : IsGround g) (p : ℕ) → p < length g.graph → has (commits_of g) (name_at g.graph p) ≡ true
has-named g w p l =
    let r = row-at g.store g.graph w.graph p l in
    ap (has (commits_of g)) (name-is g.store g.graph w.graph p r.0 r.1)
    ∙ ap (λ (x : Graph). has x r.0.name) (sym (older-all g.store g.graph w.graph))
    ∙ older-has g.store g.graph w.graph (length g.graph) (omega arith) p r.0 r.1 l

pub named-itself : (g : Ground) (w : IsGround g) (p : ℕ) → p < length g.graph → has (ancestors (commits_of g) (name_at g.graph p)) (name_at g.graph p) ≡ true
named-itself g w p l =
    reached-has (commits_of g) (name_at g.graph p ∷ []) (name_at g.graph p) (has-named g w p l)
    (ap (λ b. b || false) (same_bytes-self (name_at g.graph p)))

reached-named : (g : Ground) (w : IsGround g) (n : Bytes) (p q : ℕ) → p < length g.graph → Reaches g.graph p q → has (ancestors (commits_of g) n) (name_at g.graph p) ≡ true → has (ancestors (commits_of g) n) (name_at g.graph q) ≡ true
reached-named g w n p q l u h =
    subst (λ (x : Graph). has (ancestors x n) (name_at g.graph p) ≡ true → has (ancestors x n) (name_at g.graph q) ≡ true) (older-all g.store g.graph w.graph)
    (reaches-reached g.store g.graph w.graph (length g.graph) (omega arith) (n ∷ []) p q l u) h

distinct-names : (g : Ground) (w : IsGround g) (p q : ℕ) → p < length g.graph → q < length g.graph → p < q → name_at g.graph q ≡ name_at g.graph p → ⊥
distinct-names g w p q l m b e =
    let r = row-at g.store g.graph w.graph p l in
    let s = row-at g.store g.graph w.graph q m in
    let same : q ≡ p = w.graph.graph.distinct q p s.0 r.0 s.1 r.1 (sym (name-is g.store g.graph w.graph q s.0 s.1) ∙ e ∙ name-is g.store g.graph w.graph p r.0 r.1) in
    absurd (omega (arith, same, b))

-- ---- steps of the stack

stack-start : (g : Ground) (w : IsGround g) (p : ℕ) → p < length g.graph → kept_at (name_at g.graph p) g.map ≡ None → IsStack g (name_at g.graph p) g.map (p ∷ [])
stack-start g w p l e = (l, named-itself g w p l, e, (λ i d b. absurd (omega (arith, b))), tt)

stack-below : (g h : Ground) (w : IsGround g) (n : Bytes) (p q : ℕ) (ps : List ℕ) → h.graph ≡ g.graph → IsBelow h p q → IsStack g n h.map (p ∷ ps) → IsStack g n h.map (q ∷ p ∷ ps)
stack-below g h w n p q ps e b s =
    let l : q < length g.graph = let x = b.before in let y = s.0 in omega (arith, x, y) in (
      l,
      reached-named g w n p q s.0 (subst (λ (rows : List Row). Reaches rows p q) e b.reached) s.1,
      ap (λ (rows : List Row). kept_at (name_at rows q) h.map) (sym e) ∙ b.lacked,
      All-cons (λ x. q < x) p ps b.before (λ i d k. let x : p < get_or ps i d = s.3 i d k in let y = b.before in omega (arith, x, y)),
      s,
    )

others-stay : (g : Ground) (w : IsGround g) (n : Bytes) (es : Entries) (p : ℕ) (v : Option Shown) → p < length g.graph → (ps : List ℕ) → All (λ q. p < q) ps → IsStack g n es ps → IsStack g n (es ++ (name_at g.graph p, v) ∷ []) ps
others-stay g w n es p v l [] b s = tt
others-stay g w n es p v l (q ∷ ps) b s = (
  s.0,
  s.1,
  kept-other (name_at g.graph q) (name_at g.graph p) v es s.2 (distinct-names g w p q l s.0 (b 0 q (omega arith))),
  s.3,
  others-stay g w n es p v l ps (All-tail (λ x. p < x) q ps b) s.4,
)

stack-settled : (g : Ground) (w : IsGround g) (n : Bytes) (es : Entries) (p : ℕ) (ps : List ℕ) (v : Option Shown) → IsStack g n es (p ∷ ps) → IsStack g n (es ++ (name_at g.graph p, v) ∷ []) ps
stack-settled g w n es p ps v s = others-stay g w n es p v s.0 ps s.3 s.4

ends-settled : (g : Ground) (h p : ℕ) (ps : List ℕ) (es : Entries) (v : Option Shown) → kept_at (name_at g.graph p) es ≡ None → EndsIn h (p ∷ ps) → IsSome (kept_at (name_at g.graph h) (es ++ (name_at g.graph p, v) ∷ [])) ⊎ EndsIn h ps
ends-settled g h p [] es v e k =
    inl (ap (λ m. is_some (kept_at (name_at g.graph m) (es ++ (name_at g.graph p, v) ∷ []))) (sym k) ∙ ap is_some (kept-append (name_at g.graph p) es ((name_at g.graph p, v) ∷ []) e ∙ kept-new (name_at g.graph p) v))
ends-settled g h p (q ∷ ps) es v e k = inr k

some-front : (n : Bytes) (es more : Entries) → IsSome (kept_at n es) → IsSome (kept_at n (es ++ more))
some-front n es more h = by (kept_at n es) refl h
  where
    by : (o : Option (Option Shown)) → kept_at n es ≡ o → IsSome o → IsSome (kept_at n (es ++ more))
    by None e k = absurd (true≢false (sym k))
    by (Some v) e k = ap is_some (kept-front n es more v e)

-- ---- a walk from the commit at a place

-- They are such commits, and the head is the first of them, unless something is kept of it.
pub record IsWaiting (g : Ground) (head : ℕ) (es : Entries) (waiting : List ℕ) : Type 0 where
  pub stack : IsStack g (name_at g.graph head) es (reverse waiting)
  pub ends : IsSome (kept_at (name_at g.graph head) es) ⊎ EndsIn head (reverse waiting)

pub waiting-start : (g : Ground) (w : IsGround g) (head : ℕ) → head < length g.graph → kept_at (name_at g.graph head) g.map ≡ None → IsWaiting g head g.map (head ∷ [])
waiting-start g w head l e = record { stack = stack-start g w head l e; ends = inr refl }

-- at the end
pub waiting-end : (g : Ground) (head : ℕ) (es : Entries) (xs : List ℕ) → xs ≡ [] → IsWaiting g head es xs → IsSome (kept_at (name_at g.graph head) es)
waiting-end g head es xs e v = by (subst (λ (ys : List ℕ). IsSome (kept_at (name_at g.graph head) es) ⊎ EndsIn head (reverse ys)) e v.ends)
  where
    by : IsSome (kept_at (name_at g.graph head) es) ⊎ ⊥ → IsSome (kept_at (name_at g.graph head) es)
    by (inl x) = x
    by (inr x) = absurd x

-- the latest that waits
top : (xs ys : List ℕ) (p : ℕ) → xs ≡ ys ++ p ∷ [] → reverse xs ≡ p ∷ reverse ys
top xs ys p e = ap reverse e ∙ reverse-append ys (p ∷ [])

-- what the commits weigh of which nothing is kept, and the place of the latest that waits
abbrev pub left_in : Ground → ℕ → ℕ → Entries → List ℕ → ℕ
left_in g head m es waiting = weighing m es (ancestors (commits_of g) (name_at g.graph head)) + first_of (reverse waiting)

module _ (g : Ground) (w : IsGround g) (head : ℕ) (es : Entries) (xs ys : List ℕ) (p : ℕ) (e : xs ≡ ys ++ p ∷ []) (v : IsWaiting g head es xs) where
  pub latest : IsStack g (name_at g.graph head) es (p ∷ reverse ys)
  latest = subst (IsStack g (name_at g.graph head) es) (top xs ys p e) v.stack

  ends-top : IsSome (kept_at (name_at g.graph head) es) ⊎ EndsIn head (p ∷ reverse ys)
  ends-top = subst (λ (ps : List ℕ). IsSome (kept_at (name_at g.graph head) es) ⊎ EndsIn head ps) (top xs ys p e) v.ends

  -- ---- another has to be projected first

  module _ (h : Ground) (rows : h.graph ≡ g.graph) (map : h.map ≡ es) (q : ℕ) (zs : List ℕ) (z : zs ≡ ys ++ (p ∷ q ∷ [])) (below : IsBelow h p q) where
    rev : reverse zs ≡ q ∷ p ∷ reverse ys
    rev = ap reverse z ∙ reverse-append ys (p ∷ q ∷ [])

    on-stack : IsStack g (name_at g.graph head) es (q ∷ p ∷ reverse ys)
    on-stack =
        subst (λ (x : Entries). IsStack g (name_at g.graph head) x (q ∷ p ∷ reverse ys)) map
        (stack-below g h w (name_at g.graph head) p q (reverse ys) rows below (subst (λ (x : Entries). IsStack g (name_at g.graph head) x (p ∷ reverse ys)) (sym map) latest))

    pub waiting-below : IsWaiting g head es zs
    waiting-below = record {
      stack = subst (IsStack g (name_at g.graph head) es) (sym rev) on-stack;
      ends = subst (λ (ps : List ℕ). IsSome (kept_at (name_at g.graph head) es) ⊎ EndsIn head ps) (sym rev) ends-top;
    }

    pub less-below : (m : ℕ) → left_in g head m es zs < left_in g head m es xs
    less-below m =
        let one : first_of (reverse zs) ≡ q = ap first_of rev in
        let two : first_of (reverse xs) ≡ p = ap first_of (top xs ys p e) in
        let less : q < p = below.before in
        omega (arith, one, two, less)

  -- ---- the latest is projected

  module _ (o : Option Shown) where
    abbrev more : Entries
    more = es ++ (name_at g.graph p, o) ∷ []

    ends-more : IsSome (kept_at (name_at g.graph head) es) ⊎ EndsIn head (p ∷ reverse ys) → IsSome (kept_at (name_at g.graph head) more) ⊎ EndsIn head (reverse ys)
    ends-more (inl x) = inl (some-front (name_at g.graph head) es ((name_at g.graph p, o) ∷ []) x)
    ends-more (inr x) = ends-settled g head p (reverse ys) es o latest.2 x

    pub waiting-more : IsWaiting g head more ys
    waiting-more = record {
      stack = stack-settled g w (name_at g.graph head) es p (reverse ys) o latest;
      ends = ends-more ends-top;
    }

    first-small : (ps : List ℕ) → IsStack g (name_at g.graph head) es ps → first_of ps < length g.graph
    first-small [] x = let l : p < length g.graph = latest.0 in omega (arith, l)
    first-small (q ∷ ps) x = x.0

    pub less-more : left_in g head (length g.graph) more ys < left_in g head (length g.graph) es xs
    less-more =
        let set = weigh-set (length g.graph) es (name_at g.graph p) o (ancestors (commits_of g) (name_at g.graph head)) latest.1 latest.2 in
        let low = first-small (reverse ys) latest.4 in
        omega (arith, set, low)

-- What a sweep of marks down from a head finds.
use Rattle.std.proofs.Common.{◌≡◌, ℕ, zero, suc, ◌+◌, ◌-◌, ◌<◌, ◌≤◌, ◌==◌, Bool, true, false, ◌⊎◌, ◌↔◌, inl, inr, List, [], ◌∷◌, ◌++◌, length, take, set, replicate, slice_get, None, Some, Contains, refl, sym, ap, subst, ◌∙◌, arith, get_or, true≢false, get_or-set_same, get_or-set_other, length-set, length-append}
use Rattle.std.proofs.lemmas.Bool.{eqb-true, eqb-false}
use Rattle.std.proofs.lemmas.List.{take_more, take_all, take-append-le, get_or_past, get_or_default, get_or_append_left, length-replicate}
use Rattle.std.proofs.Math.Seq.{get_or-append_seam}
use Rattle.std.proofs.lemmas.List.Elements.{All-contains, Contains-get_or, Contains-push, Contains-append_left, Contains-push_cases}
use Rattle.std.proofs.lemmas.Option.{none-some, same_Some, slice_get-get_or}
use Rattle.std.specs.Option.{IfSome}
use Rattle.std.specs.List.Sorted.{IsStrictlyIncreasing}
use Rattle.commit_graph.specs.Graphs.{Row, IsGraph, Reaches, Itself, Through}
use Rattle.commit_graph.specs.Marks.{is_marked, AddsMarks, MarksReached}

-- ---- reaching

-- a commit leads only to earlier places, and to its own
pub reaches-down : (rs : List Row) → IsGraph rs → (i j : ℕ) → Reaches rs i j → j ≤ i
reaches-down rs g _ _ (Itself i) = omega arith
reaches-down rs g _ _ (Through i p j r e c u) =
    let below : p < i = All-contains (λ q. q < i) r.parents p (g.placed i r e) c in
    let down = reaches-down rs g p j u in
    omega (arith, below, down)

-- what is reached leads on to its parents
pub reaches-on : (rs : List Row) (i j p : ℕ) (r : Row) → Reaches rs i j → slice_get rs j ≡ Some r → Contains r.parents p → Reaches rs i p
reaches-on rs _ _ p r (Itself i) e c = Through i p p r e c (Itself p)
reaches-on rs _ _ p r (Through i q j s f d u) e c = Through i q p s f d (reaches-on rs q j p r u e c)

-- ---- marking

pub marks-push : (low : ℕ) (before ms : List Bool) (ps : List ℕ) (p : ℕ) → AddsMarks low before ms ps → low ≤ p → p < low + length ms → AddsMarks low before (set ms (p - low) true) (ps ++ p ∷ [])
marks-push low before ms ps p h f l i =
    elim (i == p - low) as (λ b. (i == p - low) ≡ b → (is_marked (set ms (p - low) true) i ≡ true) ↔ ((is_marked before i ≡ true) ⊎ Contains (ps ++ p ∷ []) (low + i))) [
      | true ↦ λ e.
          let same : i ≡ p - low = eqb-true i (p - low) e in
          let there : low + i ≡ p = omega (arith, same, f) in (
            λ _. inr (subst (λ n. Contains (ps ++ p ∷ []) n) (sym there) (Contains-push ps p)),
            λ _. ap (is_marked (set ms (p - low) true)) same ∙ get_or-set_same ms (p - low) true false (omega (arith, f, l)),
          )
      | false ↦ λ e.
          let other : is_marked (set ms (p - low) true) i ≡ is_marked ms i = get_or-set_other ms (p - low) i true false (eqb-false i (p - low) e) in (
            λ m. elim ((h i).0 (sym other ∙ m)) [ inl b ↦ inl b | inr c ↦ inr (Contains-append_left ps (p ∷ []) (low + i) c) ],
            λ w. other ∙ (h i).1 (elim w [
              | inl b ↦ inl b
              | inr c ↦ elim (Contains-push_cases ps p (low + i) c) [ inl d ↦ inr d | inr q ↦ absurd (eqb-false i (p - low) e (omega (arith, q))) ]
            ]),
          )
    ] refl

-- a place before the first mark marks nothing
marks-pass : (low : ℕ) (before ms : List Bool) (ps : List ℕ) (p : ℕ) → AddsMarks low before ms ps → p < low → AddsMarks low before ms (ps ++ p ∷ [])
marks-pass low before ms ps p h f i = (
  λ m. elim ((h i).0 m) [ inl b ↦ inl b | inr c ↦ inr (Contains-append_left ps (p ∷ []) (low + i) c) ],
  λ w. (h i).1 (elim w [
    | inl b ↦ inl b
    | inr c ↦ elim (Contains-push_cases ps p (low + i) c) [ inl d ↦ inr d | inr q ↦ absurd (omega (arith, q, f)) ]
  ]),
)

pub marks-more : (low : ℕ) (before ms : List Bool) (ps : List ℕ) (k : ℕ) → AddsMarks low before ms (take k ps) → k < length ps → low ≤ get_or ps k 0 → get_or ps k 0 < low + length ms →
    AddsMarks low before (set ms (get_or ps k 0 - low) true) (take (k + 1) ps)
marks-more low before ms ps k h l f m = subst (AddsMarks low before (set ms (get_or ps k 0 - low) true)) (sym (take_more ps k 0 l)) (marks-push low before ms (take k ps) (get_or ps k 0) h f m)

pub marks-past : (low : ℕ) (before ms : List Bool) (ps : List ℕ) (k : ℕ) → AddsMarks low before ms (take k ps) → k < length ps → get_or ps k 0 < low → AddsMarks low before ms (take (k + 1) ps)
marks-past low before ms ps k h l f = subst (AddsMarks low before ms) (sym (take_more ps k 0 l)) (marks-pass low before ms (take k ps) (get_or ps k 0) h f)

none-marked : (n j : ℕ) → is_marked (replicate n false) j ≡ false
none-marked zero j = refl
none-marked (suc n) zero = refl
none-marked (suc n) (suc j) = none-marked n j

pub mark-read : (ms : List Bool) (j : ℕ) (v b : Bool) → j < length ms → v ≡ get_or ms j v → v ≡ b → is_marked ms j ≡ b
mark-read ms j v b l e f = get_or_default ms j false v l ∙ sym e ∙ f

-- a slice that is written whole
pub take-front : {A : Type 0} (n : ℕ) (xs ys : List A) → length xs ≡ n → take n (xs ++ ys) ≡ xs
take-front n xs ys e = take-append-le n xs ys (omega (arith, e)) ∙ take_all n xs (omega (arith, e))

-- ---- the sweep

-- the places from i on that are marked have those of their parents marked that stand at `low` or behind it
pub record IsSweeping (rs : List Row) (head low : ℕ) (ms : List Bool) (i : ℕ) : Type 0 where
  pub long : low + length ms ≡ head + 1
  pub start : is_marked ms (head - low) ≡ true
  pub sound : (j : ℕ) → is_marked ms j ≡ true → Reaches rs head (low + j)
  pub closed : (k p : ℕ) (r : Row) → i ≤ low + k → is_marked ms k ≡ true → slice_get rs (low + k) ≡ Some r → Contains r.parents (low + p) → is_marked ms p ≡ true

start-set : (rs : List Row) (head low : ℕ) (ms : List Bool) → low ≤ head → low + length ms ≡ head + 1 → ((j : ℕ) → is_marked ms j ≡ false) → IsSweeping rs head low (set ms (head - low) true) (head + 1)
start-set rs head low ms f n none = record {
  long = let k = length-set ms (head - low) true in omega (arith, k, n);
  start = get_or-set_same ms (head - low) true false (omega (arith, n, f));
  sound = λ j m. elim (j == head - low) as (λ b. (j == head - low) ≡ b → Reaches rs head (low + j)) [
    | true ↦ λ e.
        let same : j ≡ head - low = eqb-true j (head - low) e in
        let there : low + j ≡ head = omega (arith, same, f) in
        subst (Reaches rs head) (sym there) (Itself head)
    | false ↦ λ e. absurd (true≢false (sym m ∙ get_or-set_other ms (head - low) j true false (eqb-false j (head - low) e) ∙ none j))
  ] refl;
  closed = λ k p r l m e c.
      let size = length-set ms (head - low) true in
      let past : length (set ms (head - low) true) ≤ k = omega (arith, l, n, size) in
      absurd (true≢false (sym m ∙ get_or_past (set ms (head - low) true) k false past));
}

pub sweep-start : (rs : List Row) (head low : ℕ) (ms : List Bool) → low ≤ head → ms ≡ replicate (head - low + 1) false → IsSweeping rs head low (set ms (head - low) true) (head + 1)
sweep-start rs head low ms f e =
    let n : length (replicate (head - low + 1) false) ≡ head - low + 1 = length-replicate (head - low + 1) false in
    subst (λ (bs : List Bool). IsSweeping rs head low (set bs (head - low) true) (head + 1)) (sym e)
    (start-set rs head low (replicate (head - low + 1) false) f (omega (arith, n, f)) (none-marked (head - low + 1)))

pub sweep-skip : (rs : List Row) (head low : ℕ) (ms : List Bool) (i : ℕ) → low < i → IsSweeping rs head low ms i → is_marked ms (i - 1 - low) ≡ false → IsSweeping rs head low ms (i - 1)
sweep-skip rs head low ms i z s f = record {
  long = s.long;
  start = s.start;
  sound = s.sound;
  closed = λ k p r l m e c. elim (low + k == i - 1) as (λ b. (low + k == i - 1) ≡ b → is_marked ms p ≡ true) [
    | true ↦ λ q.
        let at : low + k ≡ i - 1 = eqb-true (low + k) (i - 1) q in
        let here : k ≡ i - 1 - low = omega (arith, at) in
        absurd (true≢false (sym m ∙ ap (is_marked ms) here ∙ f))
    | false ↦ λ q. let other = eqb-false (low + k) (i - 1) q in s.closed k p r (omega (arith, l, other)) m e c
  ] refl;
}

mark-row : (rs : List Row) (head low : ℕ) (ms new : List Bool) (i : ℕ) (ps : List ℕ) (r : Row) → IsGraph rs → low < i → IsSweeping rs head low ms i → is_marked ms (i - 1 - low) ≡ true → length new ≡ length ms → AddsMarks low ms new ps →
    slice_get rs (i - 1) ≡ Some r → ps ≡ r.parents → IsSweeping rs head low new (i - 1)
mark-row rs head low ms new i ps r g z s here n add at is =
    let kept : (j : ℕ) → is_marked ms j ≡ true → is_marked new j ≡ true = λ j m. (add j).1 (inl m) in
    let there : low + (i - 1 - low) ≡ i - 1 = omega (arith, z) in
    record {
      long = let k = s.long in omega (arith, n, k);
      start = kept (head - low) s.start;
      sound = λ j m. elim ((add j).0 m) [
        | inl b ↦ s.sound j b
        | inr c ↦ reaches-on rs head (i - 1) (low + j) r (subst (Reaches rs head) there (s.sound (i - 1 - low) here)) at (subst (λ qs. Contains qs (low + j)) is c)
      ];
      closed = λ k p t l m e c. elim (low + k == i - 1) as (λ b. (low + k == i - 1) ≡ b → is_marked new p ≡ true) [
        | true ↦ λ q.
            let same : r ≡ t = same_Some r t (sym at ∙ ap (slice_get rs) (sym (eqb-true (low + k) (i - 1) q)) ∙ e) in
            (add p).1 (inr (subst (λ qs. Contains qs (low + p)) (sym (is ∙ ap (λ (u : Row). u.parents) same)) c))
        | false ↦ λ q. elim ((add k).0 m) [
          | inl b ↦ let other = eqb-false (low + k) (i - 1) q in kept p (s.closed k p t (omega (arith, l, other)) b e c)
          | inr d ↦
              let below : low + k < i - 1 = All-contains (λ u. u < i - 1) r.parents (low + k) (g.placed (i - 1) r at) (subst (λ qs. Contains qs (low + k)) is d) in
              absurd (omega (arith, l, below))
        ]
      ] refl;
    }

pub sweep-mark : (rs : List Row) (head low : ℕ) (ms new : List Bool) (i : ℕ) (ps : List ℕ) → IsGraph rs → low < i → i - 1 < length rs → IsSweeping rs head low ms i → is_marked ms (i - 1 - low) ≡ true →
    IfSome (slice_get rs (i - 1)) (λ r. ps ≡ r.parents) → length new ≡ length ms → AddsMarks low ms new ps → IsSweeping rs head low new (i - 1)
sweep-mark rs head low ms new i ps g z there s here is n add =
    elim (slice_get rs (i - 1)) as (λ o. slice_get rs (i - 1) ≡ o → IfSome o (λ r. ps ≡ r.parents) → IsSweeping rs head low new (i - 1)) [
      | None ↦ λ e _. absurd (none-some (get_or rs (i - 1) (record { name = []; tree = []; parents = [] })) (sym e ∙ slice_get-get_or rs (i - 1) (record { name = []; tree = []; parents = [] }) there))
      | Some r ↦ λ e q. mark-row rs head low ms new i ps r g z s here n add e q
    ] refl is

arrive : (rs : List Row) (head low : ℕ) (ms : List Bool) → IsGraph rs → IsSweeping rs head low ms low → (i j : ℕ) → Reaches rs i j → low ≤ j → is_marked ms (i - low) ≡ true → is_marked ms (j - low) ≡ true
arrive rs head low ms g s _ _ (Itself i) l m = m
arrive rs head low ms g s _ _ (Through i p j r e c u) l m =
    let below : p < i = All-contains (λ q. q < i) r.parents p (g.placed i r e) c in
    let down = reaches-down rs g p j u in
    let here : low + (i - low) ≡ i = omega (arith, below, down, l) in
    let next : low + (p - low) ≡ p = omega (arith, down, l) in
    arrive rs head low ms g s p j u l (s.closed (i - low) (p - low) r (omega (arith, here)) m (ap (slice_get rs) here ∙ e) (subst (Contains r.parents) (sym next) c))

pub sweep-end : (rs : List Row) (head low i : ℕ) (ms : List Bool) → IsGraph rs → IsSweeping rs head low ms i → i ≤ low → MarksReached rs head low ms
sweep-end rs head low i ms g s h =
    let all : IsSweeping rs head low ms low = record {
      long = s.long;
      start = s.start;
      sound = s.sound;
      closed = λ k p r l. s.closed k p r (omega (arith, h));
    } in
    record {
      long = s.long;
      exact = λ j. (
        s.sound j,
        λ u.
            let at : low + j - low ≡ j = omega arith in
            subst (λ n. is_marked ms n ≡ true) at (arrive rs head low ms g all head (low + j) u (omega arith) s.start),
      );
    }

-- ---- the marked places, listed

-- the marked places from `low` on and below i, ascending
pub record IsListing (low : ℕ) (ms : List Bool) (found : List ℕ) (i : ℕ) : Type 0 where
  pub rising : IsStrictlyIncreasing found
  pub exact : (k : ℕ) → Contains found k ↔ ((low ≤ k) × (k < i) × (is_marked ms (k - low) ≡ true))

pub list-start : (low : ℕ) (ms : List Bool) → IsListing low ms [] low
list-start low ms = record {
  rising = λ k l. absurd (omega (arith, l));
  exact = λ k. (λ c. let l = c.1 in absurd (omega (arith, l)), λ w. let f = w.0 in let l = w.1 in absurd (omega (arith, f, l)));
}

rising-push : (xs : List ℕ) (y : ℕ) → IsStrictlyIncreasing xs → ((k : ℕ) → Contains xs k → k < y) → IsStrictlyIncreasing (xs ++ y ∷ [])
rising-push xs y h below k l =
    let n : length (xs ++ y ∷ []) ≡ length xs + 1 = length-append xs (y ∷ []) in
    let here : k < length xs = omega (arith, l, n) in
    let front : get_or (xs ++ y ∷ []) k 0 ≡ get_or xs k 0 = get_or_append_left xs (y ∷ []) 0 k here in
    elim (k + 1 == length xs) as (λ b. (k + 1 == length xs) ≡ b → get_or (xs ++ y ∷ []) k 0 < get_or (xs ++ y ∷ []) (k + 1) 0) [
      | true ↦ λ e.
          let last : get_or (xs ++ y ∷ []) (k + 1) 0 ≡ y = ap (λ j. get_or (xs ++ y ∷ []) j 0) (eqb-true (k + 1) (length xs) e) ∙ get_or-append_seam xs y [] 0 in
          let less = below (get_or xs k 0) (Contains-get_or xs k 0 here) in
          omega (arith, front, last, less)
      | false ↦ λ e.
          let other = eqb-false (k + 1) (length xs) e in
          let in' : k + 1 < length xs = omega (arith, here, other) in
          let next : get_or (xs ++ y ∷ []) (k + 1) 0 ≡ get_or xs (k + 1) 0 = get_or_append_left xs (y ∷ []) 0 (k + 1) in' in
          let less = h k in' in
          omega (arith, front, next, less)
    ] refl

pub list-take : (low : ℕ) (ms : List Bool) (found : List ℕ) (i : ℕ) → low ≤ i → IsListing low ms found i → is_marked ms (i - low) ≡ true → IsListing low ms (found ++ i ∷ []) (i + 1)
list-take low ms found i f s m = record {
  rising = rising-push found i s.rising (λ k c. ((s.exact k).0 c).1);
  exact = λ k. (
    λ c. elim (Contains-push_cases found i k c) [
      | inl d ↦ let w = (s.exact k).0 d in let l = w.1 in (w.0, omega (arith, l), w.2)
      | inr e ↦ (omega (arith, e, f), omega (arith, e), subst (λ n. is_marked ms (n - low) ≡ true) e m)
    ],
    λ w. elim (k == i) as (λ b. (k == i) ≡ b → Contains (found ++ i ∷ []) k) [
      | true ↦ λ e. subst (Contains (found ++ i ∷ [])) (sym (eqb-true k i e)) (Contains-push found i)
      | false ↦ λ e. let other = eqb-false k i e in let l = w.1 in Contains-append_left found (i ∷ []) k ((s.exact k).1 (w.0, omega (arith, l, other), w.2))
    ] refl,
  );
}

pub list-skip : (low : ℕ) (ms : List Bool) (found : List ℕ) (i : ℕ) → IsListing low ms found i → is_marked ms (i - low) ≡ false → IsListing low ms found (i + 1)
list-skip low ms found i s f = record {
  rising = s.rising;
  exact = λ k. (
    λ c. let w = (s.exact k).0 c in let l = w.1 in (w.0, omega (arith, l), w.2),
    λ w. elim (k == i) as (λ b. (k == i) ≡ b → Contains found k) [
      | true ↦ λ e. absurd (true≢false (sym w.2 ∙ ap (λ n. is_marked ms (n - low)) (eqb-true k i e) ∙ f))
      | false ↦ λ e. let other = eqb-false k i e in let l = w.1 in (s.exact k).1 (w.0, omega (arith, l, other), w.2)
    ] refl,
  );
}

pub list-end : (rs : List Row) (head low : ℕ) (ms : List Bool) (found : List ℕ) (i : ℕ) → IsGraph rs → MarksReached rs head low ms → IsListing low ms found i → head < i → (k : ℕ) → Contains found k ↔ ((low ≤ k) × Reaches rs head k)
list-end rs head low ms found i g m s l k = (
  λ c.
      let w = (s.exact k).0 c in
      let f = w.0 in
      let at : low + (k - low) ≡ k = omega (arith, f) in
      (w.0, subst (Reaches rs head) at ((m.exact (k - low)).0 w.2)),
  λ u.
      let down = reaches-down rs g head k u.1 in
      let f = u.0 in
      let at : low + (k - low) ≡ k = omega (arith, f) in
      (s.exact k).1 (u.0, omega (arith, down, l), (m.exact (k - low)).1 (subst (Reaches rs head) (sym at) u.1)),
)

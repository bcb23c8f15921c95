-- The projection of a head.
use Rattle.std.proofs.Common.{◌≡◌, ℕ, ◌+◌, ◌<◌, ◌≤◌, true, List, [], length, get_or, Option, Some, None, IsSome, Result, Ok, Err, IfOk, refl, sym, ap, subst, ◌∙◌, arith, true≢false}
use Rattle.std.specs.Option.{option_map_or}
use Rattle.std.specs.Cmp.Lexicographic.{bytes_decides}
use Rattle.std.proofs.lemmas.Option.{slice_get-get_or}
use Rattle.std.proofs.lemmas.List.Quantifiers.{position-Some}
use Rattle.git_objects.specs.Paths.{Bytes, same_bytes}
use Rattle.git_objects.specs.Snapshots.{Graph, has, ancestors}
use Rattle.commit_graph.specs.Graphs.{Row, place_of}
use Rattle.commit_map.specs.Shown.{Shown, Entries, kept_at}
use Rattle.filter_text.specs.Filters.{Filter}
use Rattle.filter_apply.specs.Faults.{IsApplyFault}
use Rattle.filter_apply.specs.declared.fault.ApplyError.{ApplyError}
use Rattle.workspace.specs.Workspaces.{shown}
use Rattle.projection_laws.specs.Projections.{projection_by}
use Rattle.projection_laws.specs.Filled.{IsFilled, lacking}
use Rattle.projection_laws.specs.StoredGraphs.{name_at}
use Rattle.projection_ground.specs.Grounds.{IsGround, commits_of, Extends, IsShownOf}
use Rattle.projection_ground.specs.Asked.{IsNone}
use Rattle.history_ground.specs.Walks.{IsWalked}
use Rattle.projection_ground.specs.declared.ground.Ground.{Ground}
use Rattle.projection_ground.proofs.Growing.{commits-same, extends-as, extends-then}
use Rattle.projection_ground.proofs.Filling.{entry-wins, filled-value}
use Rattle.history_ground.proofs.Waiting.{has-named}

-- what holds of a result's value, by what holds of it
pub ok-still : {T E : Type 0} (P Q : T → Type 0) → (r : Result T E) → ((x : T) → P x → Q x) → IfOk r P → IfOk r Q
ok-still P Q (Ok x) f h = f x h
ok-still P Q (Err e) f h = tt

nobody : Row
nobody = record { name = []; tree = []; parents = [] }

pub place-within : (n : Bytes) (rows : List Row) (i : ℕ) → Some i ≡ place_of n rows → i < length rows
place-within n rows i e = (position-Some (λ (r : Row). same_bytes r.name n) rows i nobody (sym e)).0

pub place-named : (n : Bytes) (rows : List Row) (i : ℕ) → Some i ≡ place_of n rows → name_at rows i ≡ n
place-named n rows i e =
    let w = position-Some (λ (r : Row). same_bytes r.name n) rows i nobody (sym e) in
    ap (λ o. option_map_or (λ (r : Row). r.name) o []) (slice_get-get_or rows i nobody w.0) ∙ (bytes_decides (get_or rows i nobody).name n).0 w.1

some-place : (o : Option ℕ) → IsSome o → (i : ℕ) × (Some i ≡ o)
some-place None h = absurd (true≢false (sym h))
some-place (Some i) h = (i, refl)

pub head-there : (g : Ground) (n : Bytes) → IsGround g → IsSome (place_of n g.graph) → has (commits_of g) n ≡ true
head-there g n w h =
    let p = some-place (place_of n g.graph) h in
    ap (has (commits_of g)) (sym (place-named n g.graph p.0 p.1)) ∙ has-named g w p.0 (place-within n g.graph p.0 p.1)

-- a head of which something is kept
pub kept-head : (k : Ground) (f : Filter) (n : Bytes) (o : Option Shown) → IsGround k → IsSome (place_of n k.graph) → Some o ≡ kept_at n k.map → o ≡ projection_by k.rule (shown f) k.map (commits_of k) n
kept-head k f n o w h e = sym (entry-wins k.rule (shown f) k.map (commits_of k) n o (head-there k n w h) (sym e))

-- ---- a walk behind more tables

module _ (f : Filter) (head : Bytes) (g h k : Ground) (place : ℕ) (w : IsGround g) (a : Extends IsNone g h) (m : h.map ≡ g.map) (n : name_at h.graph place ≡ head) (s t : ℕ) (x : IsWalked f (name_at h.graph place) h k s t) where
  commits : commits_of h ≡ commits_of g
  commits = commits-same IsNone g h w a

  pub whole-same : Extends (IsShownOf f (commits_of g)) g k
  whole-same =
      extends-then (IsShownOf f (commits_of g)) g h k (extends-as IsNone (IsShownOf f (commits_of g)) g h (λ o y. absurd y) a)
      (extends-as (IsShownOf f (commits_of h)) (IsShownOf f (commits_of g)) h k (λ o y. subst (λ (z : Graph). IsShownOf f z o) commits y) x.same)

  pub whole-map : IsFilled g.rule (shown f) (commits_of g) head g.map k.map
  whole-map =
      subst (λ (es : Entries). IsFilled g.rule (shown f) (commits_of g) head es k.map) m
      (subst (λ b. IsFilled g.rule (shown f) (commits_of g) b h.map k.map) n
      (subst (λ (z : Graph). IsFilled g.rule (shown f) z (name_at h.graph place) h.map k.map) commits
      (subst (λ j. IsFilled j (shown f) (commits_of h) (name_at h.graph place) h.map k.map) a.rule x.map)))

  pub whole-counted : t + length g.map ≡ s + length k.map
  whole-counted = ap (λ (es : Entries). t + length es) (sym m) ∙ x.counted

  pub whole-few : t ≤ s + lacking g.map (ancestors (commits_of g) head)
  whole-few =
      let all : lacking h.map (ancestors (commits_of h) (name_at h.graph place)) ≡ lacking g.map (ancestors (commits_of g) head) = (λ i. lacking (m i) (ancestors (commits i) (n i))) in
      let few = x.few in
      omega (arith, few, all)

  pub whole-fault : (e : ApplyError) → IsApplyFault (IsShownOf f (commits_of h)) k.store e → IsApplyFault (IsShownOf f (commits_of g)) k.store e
  whole-fault e y = subst (λ (z : Graph). IsApplyFault (IsShownOf f z) k.store e) commits y

  pub whole-ok : (o : Option Shown) → has (commits_of g) head ≡ true → Some o ≡ kept_at head k.map → o ≡ projection_by g.rule (shown f) g.map (commits_of g) head
  whole-ok o there e = filled-value g.rule (shown f) g.map (commits_of g) head k.map whole-map head o there (sym e)

  pub whole-kept : IsSome (kept_at (name_at h.graph place) k.map) → IsSome (kept_at head k.map)
  whole-kept y = subst (λ b. IsSome (kept_at b k.map)) n y

pub lacks-head : (g h : Ground) (place : ℕ) (head : Bytes) → h.graph ≡ g.graph → h.map ≡ g.map → Some place ≡ place_of head g.graph → None ≡ kept_at head g.map → kept_at (name_at h.graph place) h.map ≡ None
lacks-head g h place head e m p k =
    (λ i. kept_at (name_at (e i) place) (m i)) ∙ ap (λ b. kept_at b g.map) (place-named head g.graph place p) ∙ sym k

pub named-head : (g h : Ground) (place : ℕ) (head : Bytes) → h.graph ≡ g.graph → Some place ≡ place_of head g.graph → name_at h.graph place ≡ head
named-head g h place head e p = ap (λ (rows : List Row). name_at rows place) e ∙ place-named head g.graph place p

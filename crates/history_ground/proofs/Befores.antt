-- Projections of a head's ancestors, one after another.
use Rattle.std.proofs.Common.{◌≡◌, inl, inr, ℕ, Bool, true, false, cond, ◌||◌, true≢false, List, [], ◌∷◌, ◌++◌, map, Contains, Option, Some, None, IfSome, refl, sym, ap, subst, ◌∙◌}
use Rattle.std.specs.List.{list_any}
use Rattle.std.specs.Option.{option_map, option_to_list}
use Rattle.std.specs.Cmp.Lexicographic.{bytes_decides}
use Rattle.std.proofs.lemmas.List.Elements.{Contains-append_cases, Contains-append_left, Contains-append_right}
use Rattle.git_objects.specs.Lists.{Each}
use Rattle.git_objects.specs.Parts.{name_bytes}
use Rattle.git_objects.specs.Paths.{Bytes, same_bytes}
use Rattle.git_objects.specs.Snapshots.{Snapshot, Graph, ancestors, has, has_name, is_graph, is_wanted, reached, snapshot_name, wanted_below}
use Rattle.git_objects.specs.Trees.{Flat}
use Rattle.git_objects.specs.declared.kind.Kind.TheVariants.{Commit as CommitKind}
use Rattle.git_objects.specs.declared.name.Name.{Name}
use Rattle.object_store.specs.Objects.{Object}
use Rattle.object_store.specs.Objects as objects
use Rattle.object_store.proofs.Growth.{has-grown}
use Rattle.commit_map.specs.Shown.{Shown}
use Rattle.commit_map.specs.declared.commit_map.Shown as code
use Rattle.commit_map.specs.declared.rule.Rule.{Rule}
use Rattle.filter_apply.specs.Faults.{IsApplyFault}
use Rattle.filter_apply.specs.declared.fault.ApplyError.{ApplyError}
use Rattle.filter_text.specs.Filters.{Filter}
use Rattle.workspace.specs.Workspaces.{shown}
use Rattle.projection_laws.specs.Projections.{choice_of, own_commit, own_commits, projection, projections}
use Rattle.projection_laws.proofs.GraphLemmas.{grown, has-newer, has-self, other}
use Rattle.projection_laws.proofs.HistoryLemmas.{any-in-front, each-append, each-map, map-append, reached-has, reached-in}
use Rattle.projection_laws.proofs.Reached.{has-each, wanted-cases}
use Rattle.projection_laws.proofs.StoredGraphs.{whole-graph}
use Rattle.projection_ground.specs.Grounds.{IsGround, commits_of}
use Rattle.projection_ground.specs.TrueMaps.{IsTrueMap}
use Rattle.projection_ground.specs.declared.ground.Ground.{Ground}
use Rattle.projection_ground.proofs.Growing.{commit-there, commits-same, extends-as}
use Rattle.history_ground.specs.Before.{IsSeenAt, IsWalkAt, shown_at, shown_before, stands_at}
use Rattle.history_ground.specs.Heads.{IsSeenObject}
use Rattle.history_ground.specs.TrueWalks.{IsMade, IsTrueWalk}
use Rattle.history_ground.proofs.AllProjections.{added-from, nothing-in}
use Rattle.history_ground.proofs.HeadLemmas.{more-map, more-seen, more-seen-fault}
use Rattle.history_ground.proofs.Standing.{IsLine, line-stands}
use Rattle.history_ground.proofs.TakenTurns.{fault-as}
use Rattle.history_ground.proofs.TrueHeads.{made-held}

-- ---- what projecting an ancestor makes, projecting the head makes too

-- each that is wanted and there is reached from what else is wanted
abbrev Covers : Graph → List Bytes → List Bytes → Type 0
Covers g vs ws = (n : Bytes) → list_any (same_bytes n) vs ≡ true → has g n ≡ true → has (reached g ws) n ≡ true

-- behind a commit of another name
skip : (c : Snapshot) (g : Graph) (n : Bytes) (b : Bool) → has_name n c ≡ false → has (cond b (c ∷ []) [] ++ g) n ≡ true → has g n ≡ true
skip c g n true e h = sym (ap (λ x. x || has g n) e) ∙ h
skip c g n false e h = h

module _ (k : Rule) (s : Flat → Flat) where
  -- the commit of its own that the newest one becomes, if it does
  abbrev newest : Graph → Snapshot → List Snapshot
  newest older c = option_to_list (own_commit (choice_of k s older (projections k s [] older) c))

  own-covered : (g : Graph) → is_graph g ≡ true → (vs ws : List Bytes) → Covers g vs ws → (d : Snapshot) → Contains (own_commits k s g vs) d → Contains (own_commits k s g ws) d
  own-covered [] v vs ws up d h = h
  own-covered (c ∷ older) v vs ws up d h =
      elim (Contains-append_cases (own_commits k s older (wanted_below vs c)) (cond (is_wanted vs c) (newest older c) []) d h) [
        | inl x ↦ Contains-append_left (own_commits k s older (wanted_below ws c)) (cond (is_wanted ws c) (newest older c) []) d (own-covered older (grown c older v).graph (wanted_below vs c) (wanted_below ws c) below d x)
        | inr x ↦ Contains-append_right (own_commits k s older (wanted_below ws c)) (cond (is_wanted ws c) (newest older c) []) d (here (is_wanted vs c) refl x)
      ]
    where
      -- the newest one isn't reached among the older ones
      reached-newest : (b : Bool) → has (cond b (c ∷ []) [] ++ reached older (wanted_below ws c)) (snapshot_name c) ≡ true → b ≡ true
      reached-newest true x = refl
      reached-newest false x =
          absurd (true≢false (sym (has-each older (reached older (wanted_below ws c)) (snapshot_name c) (reached-in older (wanted_below ws c)) x) ∙ (grown c older v).new))

      wanted-too : is_wanted vs c ≡ true → is_wanted ws c ≡ true
      wanted-too e = reached-newest (is_wanted ws c) (up (snapshot_name c) e (has-self c older))

      here : (b : Bool) → is_wanted vs c ≡ b → Contains (cond b (newest older c) []) d → Contains (cond (is_wanted ws c) (newest older c) []) d
      here true e x = subst (λ b. Contains (cond b (newest older c) []) d) (sym (wanted-too e)) x
      here false e x = absurd (nothing-in d x)

      still : (n : Bytes) → list_any (same_bytes n) vs ≡ true → has older n ≡ true → has (reached older (wanted_below ws c)) n ≡ true
      still n x y = skip c (reached older (wanted_below ws c)) n (is_wanted ws c) (other older c n (grown c older v).new y) (up n x (has-newer c older n y))

      below : Covers older (wanted_below vs c) (wanted_below ws c)
      below n x y = by (is_wanted vs c) refl x
        where
          by : (b : Bool) → is_wanted vs c ≡ b → list_any (same_bytes n) (cond b (c.parents ++ vs) vs) ≡ true → has (reached older (wanted_below ws c)) n ≡ true
          by true e z = elim (wanted-cases n c.parents vs z) [
            | inl a ↦ reached-has older (wanted_below ws c) n y
                (subst (λ b. list_any (same_bytes n) (cond b (c.parents ++ ws) ws) ≡ true) (sym (wanted-too e)) (any-in-front (same_bytes n) c.parents ws a))
            | inr a ↦ still n a y
          ]
          by false e z = still n z y

module _ (f : Filter) (g : Ground) (w : IsGround g) (h n : Bytes) (a : has (ancestors (commits_of g) h) n ≡ true) where
  covers : Covers (commits_of g) (n ∷ []) (h ∷ [])
  covers m e x = by (same_bytes m n) refl e
    where
      by : (b : Bool) → same_bytes m n ≡ b → (b || false) ≡ true → has (reached (commits_of g) (h ∷ [])) m ≡ true
      by true q y = ap (has (reached (commits_of g) (h ∷ []))) ((bytes_decides m n).0 q) ∙ a
      by false q y = absurd (true≢false (sym y))

  own-before : (d : Snapshot) → Contains (own_commits g.rule (shown f) (commits_of g) (n ∷ [])) d → Contains (own_commits g.rule (shown f) (commits_of g) (h ∷ [])) d
  own-before = own-covered g.rule (shown f) (commits_of g) (whole-graph g.store g.graph w.graph) (n ∷ []) (h ∷ []) covers

  seen-before : (o : Object) → IsSeenObject f g n o → IsSeenObject f g h o
  seen-before o (inl (inl x)) = inl (inl x)
  seen-before o (inl (inr x)) =
      inr (x.0, own-before x.0 (elim (added-from (own_commits g.rule (shown f) (commits_of g) (n ∷ [])) [] x.0 x.1) [ inl y ↦ absurd (nothing-in x.0 y) | inr y ↦ y ]), x.2)
  seen-before o (inr x) = inr (x.0, own-before x.0 x.1, x.2)

-- ---- one commit after another

-- these are the projections of commits that are the head or an ancestor of it, which are in the store
pub record AreBefore (f : Filter) (h : Bytes) (g k : Ground) (ns : List Name) (os : List (Option Name)) : Type 0 where
  pub walked : IsTrueWalk f h g k
  pub are : map (option_map name_bytes) os ≡ map (λ (n : Name). shown_before f g h n.0) ns
  pub there : Each (λ o. IfSome o (λ (n : Name). objects.has CommitKind k.store n.0 ≡ true)) os

pub before-start : (f : Filter) (h : Bytes) (g k : Ground) → IsTrueWalk f h g k → AreBefore f h g k [] []
before-start f h g k v = record { walked = v; are = refl; there = tt }

-- a map of projections of the same commits
pub walked-map : (f : Filter) (h : Bytes) (g k : Ground) → IsGround g → IsTrueWalk f h g k → IsTrueMap k.store (commits_of k) k.rule f k.map
walked-map f h g k w v =
    subst (λ (j : Rule). IsTrueMap k.store (commits_of k) j f k.map) (sym v.same.rule)
    (subst (λ (y : Graph). IsTrueMap k.store y g.rule f k.map) (sym (commits-same (IsSeenObject f g h) g k w v.same)) v.map)

module _ (f : Filter) (h : Bytes) (g k : Ground) (w : IsGround g) (ps : List ℕ) (line : IsLine h ps g.graph) (v : IsTrueWalk f h g k) where
  pub line-still : IsLine h ps k.graph
  line-still = subst (IsLine h ps) (sym v.same.graph) line

  object-before : (o : Object) → IsSeenAt f k ps o → IsSeenObject f k h o
  object-before o x = seen-before f k v.same.ground h x.0 (sym (line-stands k v.same.ground h ps line-still x.0) ∙ x.1) o x.2

  pub fault-before : (S : List Object) (e : ApplyError) → IsApplyFault (IsSeenAt f k ps) S e → IsApplyFault (IsSeenObject f g h) S e
  fault-before S e x = more-seen-fault f g h w k v.same S e (fault-as (IsSeenAt f k ps) (IsSeenObject f k h) S object-before e x)

  value-before : (n : Bytes) → shown_at f k ps n ≡ shown_before f g h n
  value-before n =
      let commits : commits_of k ≡ commits_of g = commits-same (IsSeenObject f g h) g k w v.same in
      ap (λ b. cond b (option_map (λ s. s.commit) (projection k.rule (shown f) (commits_of k) n)) None) (line-stands k v.same.ground h ps line-still n)
      ∙ (λ i. cond (has (ancestors (commits i) h) n) (option_map (λ s. s.commit) (projection (v.same.rule i) (shown f) (commits i) n)) None)

  module _ (m : Ground) (x : IsWalkAt f ps k m) where
    pub walk-before : IsTrueWalk f h g m
    walk-before = record {
      same = more-seen f g h w k v.same m (extends-as (IsSeenAt f k ps) (IsSeenObject f k h) k m object-before x.same);
      map = more-map f g h w k v.same m.store m.map x.map;
    }

    pub before-more : (ns : List Name) (os : List (Option Name)) → AreBefore f h g k ns os → (n : Name) (o : Option Name) → option_map name_bytes o ≡ shown_at f k ps n.0
        → IfSome o (λ (c : Name). objects.has CommitKind m.store c.0 ≡ true) → AreBefore f h g m (ns ++ n ∷ []) (os ++ o ∷ [])
    before-more ns os b n o e there = record {
      walked = walk-before;
      are =
          map-append (option_map name_bytes) os (o ∷ [])
          ∙ (λ i. b.are i ++ (e ∙ value-before n.0) i ∷ [])
          ∙ sym (map-append (λ (c : Name). shown_before f g h c.0) ns (n ∷ []));
      there =
          each-append (λ o. IfSome o (λ (c : Name). objects.has CommitKind m.store c.0 ≡ true)) os (o ∷ [])
          (each-map (λ o. IfSome o (λ (c : Name). objects.has CommitKind k.store c.0 ≡ true)) (λ o. IfSome o (λ (c : Name). objects.has CommitKind m.store c.0 ≡ true)) grown-too os b.there)
          (there, tt);
    }
      where
        grown-too : (o : Option Name) → IfSome o (λ (c : Name). objects.has CommitKind k.store c.0 ≡ true) → IfSome o (λ (c : Name). objects.has CommitKind m.store c.0 ≡ true)
        grown-too None y = tt
        grown-too (Some c) y = has-grown k.store m.store CommitKind c.0 x.same.store y

-- ---- the one that is projected

-- what projecting one leaves that stands at one of these places
pub walk-at : (f : Filter) (g m : Ground) (ps : List ℕ) (n : Bytes) → stands_at g.graph ps n ≡ true → IsTrueWalk f n g m → IsWalkAt f ps g m
walk-at f g m ps n s v = record { same = extends-as (IsSeenObject f g n) (IsSeenAt f g ps) g m (λ o x. (n, s, x)) v.same; map = v.map }

-- its projection is in the store
pub made-there : (S : List Object) (p : Option Shown) (o : Option code.Shown) (s : code.Shown) → IsMade S p o → o ≡ Some s → objects.has CommitKind S s.commit.0 ≡ true
made-there S p o s w e = let t = (made-held S p o s w e).0 in commit-there S s.commit.0 t.commit t.named

-- The commits of their own of a history, by the places of the commits that become them.
use Rattle.std.proofs.Common.{◌≡◌, ℕ, zero, suc, ◌<◌, ◌≤◌, ◌↔◌, ◌⊎◌, inl, inr, Bool, true, false, cond, ◌||◌, List, [], ◌∷◌, ◌++◌, length, reverse, take, slice_get, Option, Some, None, Contains, refl, sym, ap, subst, ◌∙◌, arith, true≢false, append-nil}
use Rattle.std.specs.List.{cons_option, filter_map, list_any, slice_index_or}
use Rattle.std.specs.List.Sorted.{IsStrictlyIncreasing}
use Rattle.std.specs.Option.{option_map_or, option_to_list}
use Rattle.std.specs.Cmp.Lexicographic.{bytes_decides}
use Rattle.std.proofs.lemmas.Bool.{cases_lt}
use Rattle.std.proofs.lemmas.Grind.{reverse_onto}
use Rattle.std.proofs.lemmas.List.{reverse-reverse}
use Rattle.std.proofs.lemmas.List.Elements.{Contains-get_or}
use Rattle.git_objects.specs.Paths.{Bytes, same_bytes}
use Rattle.git_objects.specs.Lists.{Each}
use Rattle.git_objects.specs.Trees.{Flat}
use Rattle.git_objects.specs.Snapshots.{Snapshot, Graph, snapshot_name, has_name, has, is_graph, is_wanted, reached}
use Rattle.git_objects.proofs.Basics.{same_bytes-self}
use Rattle.object_store.specs.Objects.{Object}
use Rattle.commit_graph.specs.Graphs.{Row, Reaches}
use Rattle.commit_graph.proofs.Reaching.{reaches-down}
use Rattle.commit_map.specs.declared.rule.Rule.{Rule}
use Rattle.projection_laws.specs.Projections.{Choice, Nothing, choice_of, own_commit, own_commits, projections}
use Rattle.projection_laws.specs.StoredGraphs.{name_at, IsGraphIn, graph_of, snapshot_named}
use Rattle.projection_laws.proofs.GraphLemmas.{IsGrown, grown, other}
use Rattle.projection_laws.proofs.HistoryLemmas.{any-reverse, filter-append, reached-in}
use Rattle.projection_laws.proofs.StoredGraphs.{IsAt, at-row, older, older-suc, older-all, row-at, name-is, older-has, older-graph}
use Rattle.projection_laws.proofs.Reached.{has-each, same-reached}
use Rattle.projection_laws.proofs.Rising.{Falls, falls, rises, each-all}

-- what becomes of the commit at a place
abbrev pub choice_at : Rule → (Flat → Flat) → List Object → List Row → ℕ → Choice
choice_at k s S rows p = option_map_or (choice_of k s (graph_of S (take p rows)) (projections k s [] (graph_of S (take p rows)))) (snapshot_named S (name_at rows p)) Nothing

-- the commit of its own, if it becomes one
abbrev pub own_at : Rule → (Flat → Flat) → List Object → List Row → ℕ → Option Snapshot
own_at k s S rows p = own_commit (choice_at k s S rows p)

-- whether the commit at a place stands at one of these
abbrev pub among : List Row → ℕ → List ℕ → Bool
among rows i ps = list_any (λ j. same_bytes (name_at rows i) (name_at rows j)) ps

pub one-option : {A : Type 0} (o : Option A) → option_to_list o ≡ cons_option o []
one-option None = refl
one-option (Some x) = refl

module _ (S : List Object) (rows : List Row) (g : IsGraphIn S rows) where
  -- names at different places
  pub apart : (i j : ℕ) → i < length rows → j < length rows → (i ≡ j → ⊥) → same_bytes (name_at rows i) (name_at rows j) ≡ false
  apart i j l m e = by (same_bytes (name_at rows i) (name_at rows j)) refl
    where
      by : (b : Bool) → same_bytes (name_at rows i) (name_at rows j) ≡ b → b ≡ false
      by true q =
          let r = row-at S rows g i l in
          let s = row-at S rows g j m in
          absurd (e (g.graph.distinct i j r.0 s.0 r.1 s.1 (sym (name-is S rows g i r.0 r.1) ∙ (bytes_decides (name_at rows i) (name_at rows j)).0 q ∙ name-is S rows g j s.0 s.1)))
      by false q = refl

  -- a place that none of these is
  pub none-among : (i : ℕ) → i < length rows → (ps : List ℕ) → Each (λ p. (p < length rows) × (i ≡ p → ⊥)) ps → among rows i ps ≡ false
  none-among i l [] h = refl
  none-among i l (p ∷ ps) h = (λ j. apart i p l h.0.0 h.0.1 j || none-among i l ps h.1 j)

  falls-none : (n : ℕ) (ps : List ℕ) → n < length rows → Falls n ps → among rows n ps ≡ false
  falls-none n ps l f = none-among n l ps (below n ps f (omega arith))
    where
      below : (m : ℕ) (ps : List ℕ) → Falls m ps → m ≤ n → Each (λ p. (p < length rows) × (n ≡ p → ⊥)) ps
      below m [] f b = tt
      below m (p ∷ ps) f b = let q : p < m = f.0 in ((omega (arith, q, b, l), (λ e. omega (arith, q, b, e))), below p ps f.1 (omega (arith, q, b)))

  module _ (k : Rule) (s : Flat → Flat) where
    abbrev own : ℕ → Option Snapshot
    own p = own_at k s S rows p

    pub choice-is : (i : ℕ) (r : Row) (c : Snapshot) → slice_get rows i ≡ Some r → IsAt S rows r c → choice_at k s S rows i ≡ choice_of k s (older S rows g i) (projections k s [] (older S rows g i)) c
    choice-is i r c e a =
        ap (λ o. option_map_or (choice_of k s (older S rows g i) (projections k s [] (older S rows g i))) o Nothing)
        (ap (snapshot_named S) (name-is S rows g i r e) ∙ a.found)

    own-last : (ps : List ℕ) (n : ℕ) (cs : List Snapshot) (o : Option Snapshot) → cs ≡ filter_map own (reverse ps) → o ≡ own n → cs ++ option_to_list o ≡ filter_map own (reverse (n ∷ ps))
    own-last ps n cs o e h =
        (λ i. e i ++ option_to_list (h i))
        ∙ ap (λ xs. filter_map own (reverse ps) ++ xs) (one-option (own n))
        ∙ sym (filter-append own (reverse ps) (n ∷ []))
        ∙ ap (filter_map own) (sym (reverse_onto ps n []))

    -- the commits of their own of those before a place, where these places are those of the commits that are wanted with all that
    -- they reach
    abbrev Lists : ℕ → Type 0
    Lists n = (ws : List Bytes) (ps : List ℕ) → Falls n ps → ((i : ℕ) → i < n → has (reached (older S rows g n) ws) (name_at rows i) ≡ among rows i ps)
        → own_commits k s (older S rows g n) ws ≡ filter_map own (reverse ps)

    pub own-places : (n : ℕ) → n ≤ length rows → (ws : List Bytes) (ps : List ℕ) → Falls n ps
        → ((i : ℕ) → i < n → has (reached (older S rows g n) ws) (name_at rows i) ≡ among rows i ps)
        → own_commits k s (older S rows g n) ws ≡ filter_map own (reverse ps)
    unfolding graph_of
    own-places zero l ws [] f h = refl
    own-places zero l ws (p ∷ ps) f h = let q = f.0 in absurd (omega (arith, q))
    own-places (suc n) l ws ps f h =
        let w = row-at S rows g n (omega (arith, l)) in
        let a = at-row S rows g n w.0 w.1 in
        let e = older-suc S rows g n w.0 a.0 w.1 a.1 in
        ap (λ (x : Graph). own_commits k s x ws) e
        ∙ by w.0 w.1 a.0 a.1 (λ vs qs x y. own-places n (omega (arith, l)) vs qs x y) (is_wanted ws a.0) refl ps f (λ i b. ap (λ (x : Graph). has (reached x ws) (name_at rows i)) (sym e) ∙ h i b)
      where
        low : n ≤ length rows
        low = omega (arith, l)

        G : Graph
        G = older S rows g n

        ch : Snapshot → Choice
        ch c = choice_of k s (older S rows g n) (projections k s [] (older S rows g n)) c

        new : (r : Row) → slice_get rows n ≡ Some r → (c : Snapshot) → IsAt S rows r c → IsGrown c (older S rows g n)
        new r e c a = grown c (older S rows g n) (ap (λ (x : Graph). is_graph x) (sym (older-suc S rows g n r c e a)) ∙ older-graph S rows g (suc n) l)

        named : (r : Row) → slice_get rows n ≡ Some r → (c : Snapshot) → IsAt S rows r c → name_at rows n ≡ snapshot_name c
        named r e c a = name-is S rows g n r e ∙ sym a.name

        -- the older commits don't have its name
        unreached : (c : Snapshot) → IsGrown c (older S rows g n) → (vs : List Bytes) (b : Bool) → has (reached (older S rows g n) vs) (snapshot_name c) ≡ b → b ≡ false
        unreached c v vs true q = absurd (true≢false (sym (has-each (older S rows g n) (reached (older S rows g n) vs) (snapshot_name c) (reached-in (older S rows g n) vs) q) ∙ v.new))
        unreached c v vs false q = refl

        -- it doesn't have their names
        older-other : (r : Row) → slice_get rows n ≡ Some r → (c : Snapshot) → IsAt S rows r c → (i : ℕ) → i < n → has_name (name_at rows i) c ≡ false
        older-other r e c a i b =
            let x = row-at S rows g i (omega (arith, b, l)) in
            other (older S rows g n) c (name_at rows i) (new r e c a).new (ap (has (older S rows g n)) (name-is S rows g i x.0 x.1) ∙ older-has S rows g n low i x.0 x.1 b)

        by : (r : Row) → slice_get rows n ≡ Some r → (c : Snapshot) → IsAt S rows r c → Lists n → (b : Bool) → is_wanted ws c ≡ b → (ps : List ℕ) → Falls (suc n) ps
            → ((i : ℕ) → i < suc n → has (cond (is_wanted ws c) (c ∷ []) [] ++ reached (older S rows g n) (cond (is_wanted ws c) (c.parents ++ ws) ws)) (name_at rows i) ≡ among rows i ps)
            → own_commits k s (older S rows g n) (cond (is_wanted ws c) (c.parents ++ ws) ws) ++ cond (is_wanted ws c) (option_to_list (own_commit (ch c))) [] ≡ filter_map own (reverse ps)
        by r e c a ih true q [] f h =
            absurd (true≢false (sym (ap (λ b. has (cond b (c ∷ []) [] ++ reached (older S rows g n) (cond b (c.parents ++ ws) ws)) (name_at rows n)) q
            ∙ ap (λ b. b || has (reached (older S rows g n) (c.parents ++ ws)) (name_at rows n)) (ap (λ m. same_bytes m (snapshot_name c)) (named r e c a) ∙ same_bytes-self (snapshot_name c))) ∙ h n (omega arith)))
        by r e c a ih true q (p ∷ ps) f h = elim (cases_lt p n) as (λ o. own_commits k s (older S rows g n) (cond (is_wanted ws c) (c.parents ++ ws) ws) ++ cond (is_wanted ws c) (option_to_list (own_commit (ch c))) [] ≡ filter_map own (reverse (p ∷ ps))) [
          | inl b ↦
              absurd (true≢false (sym (ap (λ b. has (cond b (c ∷ []) [] ++ reached (older S rows g n) (cond b (c.parents ++ ws) ws)) (name_at rows n)) q
              ∙ ap (λ b. b || has (reached (older S rows g n) (c.parents ++ ws)) (name_at rows n)) (ap (λ m. same_bytes m (snapshot_name c)) (named r e c a) ∙ same_bytes-self (snapshot_name c)))
              ∙ h n (omega arith) ∙ falls-none n (p ∷ ps) (omega (arith, l)) (b, f.1)))
          | inr b ↦
              let top : p < suc n = f.0 in
              let here : n ≡ p = omega (arith, top, b) in
              ap (λ b. own_commits k s (older S rows g n) (cond b (c.parents ++ ws) ws) ++ cond b (option_to_list (own_commit (ch c))) []) q
              ∙ own-last ps n (own_commits k s (older S rows g n) (c.parents ++ ws)) (own_commit (ch c))
              (ih (c.parents ++ ws) ps (subst (λ m. Falls m ps) (sym here) f.1) (λ i m.
              ap (λ b. b || has (reached (older S rows g n) (c.parents ++ ws)) (name_at rows i)) (sym (older-other r e c a i m))
              ∙ ap (λ b. has (cond b (c ∷ []) [] ++ reached (older S rows g n) (cond b (c.parents ++ ws) ws)) (name_at rows i)) (sym q)
              ∙ h i (omega (arith, m))
              ∙ ap (λ b. b || among rows i ps) (apart i p (omega (arith, m, l)) (omega (arith, here, l)) (λ z. omega (arith, z, m, here)))))
              (ap own_commit (sym (choice-is n r c e a)))
              ∙ ap (λ m. filter_map own (reverse (m ∷ ps))) here
        ]
        by r e c a ih false q [] f h =
            ap (λ b. own_commits k s (older S rows g n) (cond b (c.parents ++ ws) ws) ++ cond b (option_to_list (own_commit (ch c))) []) q
            ∙ append-nil (own_commits k s (older S rows g n) ws)
            ∙ ih ws [] tt (λ i m. ap (λ b. has (cond b (c ∷ []) [] ++ reached (older S rows g n) (cond b (c.parents ++ ws) ws)) (name_at rows i)) (sym q) ∙ h i (omega (arith, m)))
        by r e c a ih false q (p ∷ ps) f h =
            ap (λ b. own_commits k s (older S rows g n) (cond b (c.parents ++ ws) ws) ++ cond b (option_to_list (own_commit (ch c))) []) q
            ∙ append-nil (own_commits k s (older S rows g n) ws)
            ∙ ih ws (p ∷ ps) (lower (cases_lt p n), f.1) (λ i m. ap (λ b. has (cond b (c ∷ []) [] ++ reached (older S rows g n) (cond b (c.parents ++ ws) ws)) (name_at rows i)) (sym q) ∙ h i (omega (arith, m)))
          where
            not-here : among rows n (p ∷ ps) ≡ false
            not-here =
                sym (h n (omega arith))
                ∙ ap (λ b. has (cond b (c ∷ []) [] ++ reached (older S rows g n) (cond b (c.parents ++ ws) ws)) (name_at rows n)) q
                ∙ ap (has (reached (older S rows g n) ws)) (named r e c a)
                ∙ unreached c (new r e c a) ws (has (reached (older S rows g n) ws) (snapshot_name c)) refl

            lower : (p < n) ⊎ (n ≤ p) → p < n
            lower (inl b) = b
            lower (inr b) =
                let top : p < suc n = f.0 in
                let here : n ≡ p = omega (arith, top, b) in
                absurd (true≢false (sym (ap (λ b. b || among rows n ps) (ap (λ m. same_bytes (name_at rows n) (name_at rows m)) (sym here) ∙ same_bytes-self (name_at rows n))) ∙ not-here))

    -- of a commit and all that it reaches
    pub own-history : (head : ℕ) → head < length rows → (ps : List ℕ) → IsStrictlyIncreasing ps → ((i : ℕ) → Contains ps i ↔ Reaches rows head i)
        → own_commits k s (graph_of S rows) (name_at rows head ∷ []) ≡ filter_map own ps
    own-history head l ps rising exact =
        ap (λ (x : Graph). own_commits k s x (name_at rows head ∷ [])) (sym (older-all S rows g))
        ∙ own-places (length rows) (omega arith) (name_at rows head ∷ []) (reverse ps)
        (falls (length rows) ps (rises ps rising) (each-all (λ x. x < length rows) ps (λ i d m.
        let down : slice_index_or ps i d ≤ head = reaches-down rows g.graph head (slice_index_or ps i d) ((exact (slice_index_or ps i d)).0 (Contains-get_or ps i d m)) in omega (arith, down, l))))
        (λ i m.
        sym (same-reached S rows g head (length rows) l (omega arith) ps exact (same_bytes (name_at rows i)))
        ∙ sym (any-reverse (λ j. same_bytes (name_at rows i) (name_at rows j)) ps))
        ∙ ap (filter_map own) (reverse-reverse ps)

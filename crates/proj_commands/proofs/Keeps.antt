-- What is kept of a projection.
use Rattle.std.proofs.Common.{◌≡◌, ◌+◌, ◌*◌, ◌<◌, ◌≤◌, ◌^◌, ℕ, zero, suc, inl, inr, Bool, true, false, not, cond, ◌&&◌, ◌||◌, List, [], ◌∷◌, ◌++◌, length, drop, take, map, reverse, slice_get, Option, Some, None, IsSome, append-nil, refl, sym, ap, subst, ◌∙◌, arith, true≢false, eq-eqb}
use Rattle.std.specs.Prelude.{◌⊎◌, ◌==◌}
use Rattle.std.specs.Bool.{if◌then◌else◌}
use Rattle.std.specs.Cmp.{first_so, second_so}
use Rattle.std.specs.List.{filter_map, list_any}
use Rattle.std.specs.Option.{is_none, is_some, option_map, unwrap_or}
use Rattle.std.proofs.lemmas.List.{drop_at, length-map, length-reverse, take_all}
use Rattle.std.proofs.lemmas.Option.{none-some, same_Some}
use Rattle.git_objects.specs.Bodies.{is_name}
use Rattle.git_objects.specs.Lists.{Each}
use Rattle.git_objects.specs.Paths.{Bytes, is_nil, same_bytes}
use Rattle.git_objects.specs.Snapshots.{Graph, ancestors, has, snapshot_name}
use Rattle.git_objects.specs.Trees.{Flat}
use Rattle.git_objects.specs.declared.kind.Kind.TheVariants.{Commit}
use Rattle.git_objects.proofs.Basics.{same_bytes-self}
use Rattle.object_store.specs.Objects as objects
use Rattle.commit_graph.specs.Graphs.{Row, place_of}
use Rattle.commit_map.specs.Rules.{rule_number}
use Rattle.commit_map.specs.Shown.{Entries, Shown, kept_at}
use Rattle.commit_map.specs.declared.rule.Rule.{Rule}
use Rattle.filter_text.specs.Filters.{Filter}
use Rattle.filter_text.specs.Printing.{printed}
use Rattle.workspace.specs.Workspaces.{shown}
use Rattle.projection_laws.specs.Filled.{IsFilled}
use Rattle.projection_laws.specs.Projections.{choice_of, known_at, projected, projection_by, projections}
use Rattle.projection_ground.specs.Grounds.{Extends, IsGround, IsShownOf, commits_of}
use Rattle.projection_ground.specs.declared.ground.Ground.{Ground}
use Rattle.state_items.specs.Changes.{KeepPlan, NoPlan, entry_of, held_after, passed}
use Rattle.state_items.specs.Items.{Held, is_canonical, is_of, is_rule}
use Rattle.state_items.specs.Arrivals.{rows_of}
use Rattle.state_items.specs.KeptMaps.{entries_at, entries_for}
use Rattle.state_items.specs.Repos.{repo}
use Rattle.state_items.proofs.Canonicals.{canonical-law}
use Rattle.state_items.proofs.KeptHeld.{known}
use Rattle.state_items.proofs.RowsHeld.{place-there, rows-graph, rows-number, some-place}
use Rattle.state_items.proofs.TreeParts.{all-each, each-map}
use Rattle.repo_ground.specs.Contents.{Contents, Spells, entries_in, is_selected, room_in}
use Rattle.repo_ground.specs.Keeping.{AreNamed, AreOfGraph, keep_plan, may_keep, new_entries, news, unheld}
use Rattle.repo_ground.specs.Selecting.{IsSelected}
use Rattle.projection_ground.proofs.Filling.{kept-each}
use Rattle.projection_ground.proofs.Filling.{kept-append}
use Rattle.repo_ground.proofs.Keeping.{spells-kept, with_kept}
use Rattle.repo_ground.proofs.Reaching.{some-of}
use Rattle.repo_ground.proofs.MapFronts.{rule-known}
use Rattle.proj_commands.specs.Filters.{entries_of, recalled}
use Rattle.proj_commands.specs.Makes.{HoldsEntry, IsKeepOf, IsKeepPlanOf, IsStateOf}
use Rattle.proj_commands.specs.Project.{in_order_of}
use Rattle.repo_ground.proofs.CommitGraphs.{has-commit, name-there, names-are, reached-has}
use Rattle.repo_ground.proofs.Lengths.{few-commits, kept-short, none-passed}
use Rattle.proj_commands.proofs.NewRows.{IsNew, all-new, entries_by, few-entries, fine-entries, in-order}
use Rattle.proj_commands.proofs.SoundTexts.{canonical-short}
use Rattle.proj_commands.proofs.StatesShown.{commits-are, rule-is, state-grown}

-- ---- projections with these kept

-- entries that agree give the same projections
pub projections-agree : (k : Rule) (see : Flat → Flat) (a b : Entries) → ((m : Bytes) → kept_at m a ≡ kept_at m b) → (g : Graph) → projections k see a g ≡ projections k see b g
projections-agree k see a b e [] = refl
projections-agree k see a b e (c ∷ g) =
    let older = projections-agree k see a b e g in
    λ i. (snapshot_name c, unwrap_or (e (snapshot_name c) i) (projected (choice_of k see g (older i) c))) ∷ older i

none-is : {A : Type 0} (o : Option A) → is_none o ≡ true → o ≡ None
none-is None e = refl
none-is (Some x) e = absurd (true≢false (sym e))

not-false : (b : Bool) → true ≡ not b → b ≡ false
not-false true e = absurd (true≢false e)
not-false false e = refl

not-true : (b : Bool) → false ≡ not b → b ≡ true
not-true true e = refl
not-true false e = absurd (true≢false (sym e))

none-of : {A : Type 0} (p : A → Bool) (xs : List A) → Each (λ x. p x ≡ false) xs → list_any p xs ≡ false
none-of p [] h = refl
none-of p (x ∷ xs) h = λ i. h.0 i || none-of p xs h.1 i

same-self : (text : Bytes) (rule : ℕ) → (same_bytes text text && rule == rule) ≡ true
same-self text rule = λ i. same_bytes-self text i && eq-eqb rule rule refl i

row-there : (rows : List Row) (i : ℕ) (q : Row) → slice_get rows i ≡ Some q → list_any (λ (r : Row). same_bytes r.name q.name) rows ≡ true
row-there [] i q e = absurd (none-some q e)
row-there (r ∷ rows) zero q e =
    ap (λ (m : Bytes). same_bytes r.name m || list_any (λ (x : Row). same_bytes x.name q.name) rows) (ap (λ (x : Row). x.name) (sym (same_Some r q e)))
    ∙ ap (λ (b : Bool). b || list_any (λ (x : Row). same_bytes x.name q.name) rows) (same_bytes-self r.name)
row-there (r ∷ rows) (suc i) q e =
    ap (λ (b : Bool). same_bytes r.name q.name || b) (row-there rows i q e) ∙ or-true (same_bytes r.name q.name)
  where
    or-true : (a : Bool) → (a || true) ≡ true
    or-true true = refl
    or-true false = refl

-- ---- a filter that is selected first

module _ (items : List Bytes) (h : Held) (s : Contents) (f : Filter) (w : IsStateOf items h s) (first : s.selected ≡ None) (s1 : Contents) (c : IsSelected (printed f) s s1) where
  other : s1 ≡ s → ⊥
  other e = none-some (printed f, rule_number s.basis.rule) (sym first ∙ ap (λ (x : Contents). x.selected) (sym e) ∙ c.selected)

  agree : (m : Bytes) → kept_at m s1.basis.map ≡ kept_at m (entries_of h f)
  agree m = by c.map
    where
      by : (s1 ≡ s) ⊎ ((k : Held) (n : Bytes) → Spells k s → kept_at n s1.basis.map ≡ kept_at n (entries_for (printed f) k.rule k.kept)) → kept_at m s1.basis.map ≡ kept_at m (entries_of h f)
      by (inl e) = absurd (other e)
      by (inr k) = k h m w.spells

  all-held : s1.kept ≡ length s1.basis.map
  all-held = by c.held
    where
      by : (s1 ≡ s) ⊎ (s1.kept ≡ length s1.basis.map) → s1.kept ≡ length s1.basis.map
      by (inl e) = absurd (other e)
      by (inr k) = k

  pub room-same : room_in s1 ≡ room_in s
  room-same = ap room_in c.same

  -- the state is one of these items still
  pub state-selected : IsStateOf items h s1
  state-selected = record {
    current = record { read = w.current.read; number = ap (λ (x : Contents). x.number) c.same ∙ w.current.number; size = ap (λ (x : Contents). x.size) c.same ∙ w.current.size };
    spells = c.spells h w.spells;
    ground = subst (λ (x : Contents). IsGround x.basis) (sym c.same) (record { graph = w.ground.graph; memo = w.ground.memo; maps = w.ground.maps });
  }

  -- ---- and a projection upon it

  module _ (n : Bytes) (g : Ground) (filled : IsFilled s1.basis.rule (shown f) (commits_of s1.basis) n s1.basis.map g.map) (x : Extends (IsShownOf f (commits_of s1.basis)) s1.basis g) where
    abbrev pub after : Contents
    after = record s1 { basis = g }

    abbrev old : Entries
    old = s1.basis.map

    abbrev added : Entries
    added = filled.added

    pub state-projected : IsStateOf items h after
    state-projected = state-grown items h s1 f n state-selected (IsShownOf f (commits_of s1.basis)) g added x filled.behind

    graph-is : g.graph ≡ rows_of h.objects
    graph-is = x.graph ∙ state-selected.spells.graph

    unheld-are : unheld after ≡ added
    unheld-are = (λ i. drop (all-held i) (sym filled.behind i)) ∙ drop_at old added (length old) refl

    new-are : new_entries after ≡ entries_by old added g.graph
    new-are = λ i. filter_map (λ (r : Row). cond (is_some (kept_at r.name (unheld-are i))) (option_map (λ v. (r.name, v)) (kept_at r.name (sym filled.behind i))) None) g.graph

    -- ---- of the graph

    placed : (e : Bytes × Option Shown) → has (ancestors (commits_of s1.basis) n) e.0 ≡ true → IsSome (place_of e.0 g.graph)
    placed e m =
        ap (λ (rows : List Row). is_some (place_of e.0 rows)) graph-is
        ∙ place-there e.0 h.objects w.spells.store
        ∙ sym (has-commit e.0 h.objects w.spells.store)
        ∙ ap (λ (q : Graph). has q e.0) (sym (commits-are items h s1 f n state-selected))
        ∙ reached-has (commits_of s1.basis) (n ∷ []) e.0 m

    pub of-graph : AreOfGraph after
    of-graph =
        subst (λ (es : Entries). Each (λ e. IsSome (place_of e.0 g.graph)) es) (sym unheld-are)
        (each-map (λ e. has (ancestors (commits_of s1.basis) n) e.0 ≡ true) (λ e. IsSome (place_of e.0 g.graph)) added placed filled.among)

    -- ---- values

    recalled-as : (m : Bytes) → projection_by s1.basis.rule (shown f) old (commits_of s1.basis) m ≡ recalled (entries_of h f) h.rule f (repo h).commits m
    recalled-as m =
        ap (λ (ks : Entries). known_at ks m) (projections-agree s1.basis.rule (shown f) old (entries_of h f) agree (commits_of s1.basis))
        ∙ (λ i. projection_by (rule-is h s1 state-selected.spells i) (shown f) (entries_of h f) (commits-are items h s1 f n state-selected i) m)

    pub head-recalled : projection_by s1.basis.rule (shown f) s1.basis.map (commits_of s1.basis) n ≡ recalled (entries_of h f) h.rule f (repo h).commits n
    head-recalled = recalled-as n

    unkept : (e : Bytes × Option Shown) → IsNew old added e → kept_at e.0 old ≡ None
    unkept e k =
        let o = some-of (kept_at e.0 added) k.there in
        kept-each (λ m v. kept_at m old ≡ None) e.0 added o.0 filled.lacked o.1

    value-is : (e : Bytes × Option Shown) → IsNew old added e → e.1 ≡ recalled (entries_of h f) h.rule f (repo h).commits e.0
    value-is e k =
        let o = some-of (kept_at e.0 added) k.there in
        same_Some e.1 o.0 (sym k.value ∙ kept-append e.0 old added (unkept e k) ∙ o.1)
        ∙ kept-each (λ m v. v ≡ projection_by s1.basis.rule (shown f) old (commits_of s1.basis) m) e.0 added o.0 filled.values o.1
        ∙ recalled-as e.0

    fresh-one : (m : Bytes) → kept_at m old ≡ None → list_any (is_of (printed f) h.rule m) h.kept ≡ false
    fresh-one m e = not-false (list_any (is_of (printed f) h.rule m) h.kept) (sym (ap is_none (sym (agree m) ∙ e)) ∙ known (printed f) h.rule m h.kept)

    -- ---- rows

    there : (i : ℕ) (q : Row) → slice_get g.graph i ≡ Some q → objects.has Commit h.objects q.name ≡ true
    there i q e =
        sym (place-there q.name h.objects w.spells.store)
        ∙ ap (λ (rows : List Row). is_some (place_of q.name rows)) (sym graph-is)
        ∙ some-place (λ (r : Row). same_bytes r.name q.name) g.graph
        ∙ row-there g.graph i q e

    apart : (i j : ℕ) (r q : Row) → slice_get g.graph i ≡ Some r → slice_get g.graph j ≡ Some q → r.name ≡ q.name → i ≡ j
    apart = subst (λ (rows : List Row). (i j : ℕ) (r q : Row) → slice_get rows i ≡ Some r → slice_get rows j ≡ Some q → r.name ≡ q.name → i ≡ j) (sym graph-is) (rows-graph h.objects w.spells.store).distinct

    unkept-row : (i : ℕ) (q : Row) → slice_get g.graph i ≡ Some q → IsSome (kept_at q.name added) → list_any (is_of (printed f) h.rule q.name) h.kept ≡ false
    unkept-row i q e k =
        let o = some-of (kept_at q.name added) k in
        fresh-one q.name (kept-each (λ m v. kept_at m old ≡ None) q.name added o.0 filled.lacked o.1)

    rows-length : length g.graph ≡ length (repo h).commits
    rows-length =
        sym (length-map g.graph (λ (r : Row). r.name))
        ∙ ap (λ (rows : List Row). length (map (λ (r : Row). r.name) rows)) graph-is
        ∙ ap length (sym (names-are h.objects w.spells.store))
        ∙ length-map (reverse (repo h).commits) snapshot_name
        ∙ length-reverse (repo h).commits

    rule-good : is_rule h.rule ≡ true
    rule-good = ap is_rule (sym w.spells.rule) ∙ rule-known s.basis.rule

    -- ---- the entries that are to be kept

    abbrev es : Entries
    es = entries_by old added g.graph

    pub record IsKeepable : Type 0 where
      pub some : (es ≡ []) → ⊥
      pub canonical : is_canonical (printed f) ≡ true
      pub within : passed h (room_in s) (KeepPlan h.rule (printed f) es) ≡ None

    keep-of : IsKeepable → AreNamed es → IsKeepOf h f (room_in s) es
    keep-of k named = record {
      canonical = k.canonical;
      some = k.some;
      order =
          ap (in_order_of (map (λ e. e.0) es)) (names-are h.objects w.spells.store ∙ ap (map (λ (r : Row). r.name)) (sym graph-is)) ∙ in-order old added g.graph;
      fresh = none-of (λ e. list_any (is_of (printed f) h.rule e.0) h.kept) es
          (each-map (IsNew old added) (λ e. list_any (is_of (printed f) h.rule e.0) h.kept ≡ false) es (λ e m. fresh-one e.0 (unkept e m)) (all-new old added g.graph));
      values = all-each (λ e. e.1 ≡ recalled (entries_of h f) h.rule f (repo h).commits e.0) es
          (each-map (IsNew old added) (λ e. e.1 ≡ recalled (entries_of h f) h.rule f (repo h).commits e.0) es value-is (all-new old added g.graph));
      within = k.within;
      addition = (rule-good, k.canonical, (canonical-law.of_text (printed f) k.canonical).1.short, fine-entries old added h.objects h.rule (printed f) g.graph h.kept there apart unkept-row named);
    }

    -- ---- the head's entry

    named-one : (e : Bytes × Option Shown) → IsNew old added e → is_name e.0 ≡ true
    named-one e k =
        let o = some-of (kept_at e.0 added) k.there in
        let m : has (ancestors (commits_of s1.basis) n) e.0 ≡ true = kept-each (λ m v. has (ancestors (commits_of s1.basis) n) m ≡ true) e.0 added o.0 filled.among o.1 in
        name-there e.0 h.objects
        (sym (has-commit e.0 h.objects w.spells.store) ∙ ap (λ (q : Graph). has q e.0) (sym (commits-are items h s1 f n state-selected)) ∙ reached-has (commits_of s1.basis) (n ∷ []) e.0 m)

    fits : is_canonical (printed f) ≡ true → AreNamed es → (room_in s).number < 2 ^ 20 → (room_in s).size + 61 * length (repo h).commits + 8192 ≤ 2 ^ 31
        → passed h (room_in s) (KeepPlan h.rule (printed f) es) ≡ None
    fits canonical named number size =
        let short = kept-short h.rule (printed f) es (each-map (IsNew old added) (λ e. is_name e.0 ≡ true) es named-one (all-new old added g.graph)) named in
        let text = canonical-short (printed f) canonical in
        let few = few-entries old added g.graph in
        let many = few-commits h.objects w.spells.room in
        let counted = ap length graph-is ∙ rows-number h.objects w.spells.store in
        none-passed h (room_in s) h.rule (printed f) es w.spells.room (omega (arith, short, text, few, many, counted)) number (omega (arith, short, text, few, rows-length, size))

    selected-now : after.selected ≡ Some (printed f, h.rule)
    selected-now = c.selected ∙ ap (λ (k : ℕ). Some (printed f, k)) w.spells.rule

    -- what is held then has the head's entry
    head-there : IsSome (kept_at n g.map) → list_any (is_of (printed f) h.rule n) (h.kept ++ map (entry_of h.rule (printed f)) (new_entries after)) ≡ true
    head-there found =
        let o = some-of (kept_at n g.map) found in
        let kept = spells-kept h after (printed f) 0 state-projected.spells of-graph selected-now in
        let same : kept_at n (entries_in (with_kept after 0) (printed f) h.rule) ≡ Some o.0 =
        ap (λ p. kept_at n (cond (is_selected p (printed f) h.rule) (take (length g.map) g.map) (entries_at h.rule (printed f) after.maps))) selected-now
        ∙ ap (λ (b : Bool). kept_at n (cond b (take (length g.map) g.map) (entries_at h.rule (printed f) after.maps))) (same-self (printed f) h.rule)
        ∙ ap (kept_at n) (take_all (length g.map) g.map (omega arith))
        ∙ o.1 in
        not-true (list_any (is_of (printed f) h.rule n) (h.kept ++ map (entry_of h.rule (printed f)) (new_entries after)))
        (sym (ap is_none (sym (kept.entries (printed f) h.rule n rule-good) ∙ same)) ∙ known (printed f) h.rule n (h.kept ++ map (entry_of h.rule (printed f)) (new_entries after)))

    -- ---- the plan

    keepable : may_keep h after (printed f) ≡ true → IsKeepable
    keepable e =
        let a : Bool = not (is_nil (new_entries after)) in
        let b : Bool = is_canonical (printed f) in
        let d : Bool = is_none (passed h (room_in after) (news h after (printed f))) in
        let ab = first_so (a && b) d e in
        record {
          some = λ q. true≢false (sym (first_so a b ab) ∙ ap (λ (xs : Entries). not (is_nil xs)) (new-are ∙ q));
          canonical = second_so a b ab;
          within = (λ i. passed h (sym room-same i) (KeepPlan h.rule (printed f) (sym new-are i))) ∙ none-is (passed h (room_in after) (news h after (printed f))) (second_so (a && b) d e);
        }

    module _ (found : IsSome (kept_at n g.map)) (named : is_canonical (printed f) ≡ true → AreNamed (new_entries after)) where
      named-here : is_canonical (printed f) ≡ true → AreNamed es
      named-here e = subst AreNamed new-are (named e)

      holds : HoldsEntry h f n (room_in s) (keep_plan h after (printed f))
      holds canonical number size = by (may_keep h after (printed f)) refl
        where
          nil : (xs : Entries) → not (is_nil xs) ≡ false → xs ≡ []
          nil [] e = refl
          nil (y ∷ xs) e = absurd (true≢false e)

          and-none : (a : Bool) → ((a && true) && true) ≡ a
          and-none true = refl
          and-none false = refl

          by : (b : Bool) → may_keep h after (printed f) ≡ b
              → list_any (is_of (printed f) h.rule n) (held_after h (if b then news h after (printed f) else NoPlan)).kept ≡ true
          by true e = head-there found
          by false e =
              let none : passed h (room_in after) (news h after (printed f)) ≡ None =
              (λ i. passed h (room-same i) (KeepPlan h.rule (printed f) (new-are i))) ∙ fits canonical (named-here canonical) number size in
              let empty : new_entries after ≡ [] =
              nil (new_entries after)
              (sym (and-none (not (is_nil (new_entries after)))) ∙ (λ i. (not (is_nil (new_entries after)) && sym canonical i) && is_none (sym none i)) ∙ e) in
              ap (list_any (is_of (printed f) h.rule n)) (sym (append-nil h.kept) ∙ ap (λ (xs : Entries). h.kept ++ map (entry_of h.rule (printed f)) xs) (sym empty)) ∙ head-there found

      pub keep-planned : IsKeepPlanOf h f n (room_in s) (keep_plan h after (printed f))
      keep-planned = record { plan = by (may_keep h after (printed f)) refl; holds = holds }
        where
          by : (b : Bool) → may_keep h after (printed f) ≡ b
              → ((if b then news h after (printed f) else NoPlan) ≡ NoPlan)
              ⊎ ((xs : Entries) × ((if b then news h after (printed f) else NoPlan) ≡ KeepPlan h.rule (printed f) xs) × IsKeepOf h f (room_in s) xs)
          by false e = inl refl
          by true e = let k = keepable e in inr (es, ap (KeepPlan h.rule (printed f)) new-are, keep-of k (named-here k.canonical))

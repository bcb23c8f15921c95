-- The tags that are shown beside a history are tags of its commits.
use Rattle.std.proofs.Common.{◌≡◌, Bool, true, false, ◌||◌, ◌&&◌, List, [], ◌∷◌, ◌++◌, map, reverse, Option, Some, None, refl, sym, ap, subst, ◌∙◌}
use Rattle.std.specs.Prelude.{if◌then◌else◌, replicate}
use Rattle.std.specs.Cmp.{first_so, second_so}
use Rattle.std.specs.Cmp.Lexicographic.{bytes_decides}
use Rattle.std.specs.List.{cons_option, filter_map, list_any}
use Rattle.std.specs.Option.{option_map}
use Rattle.std.proofs.lemmas.List.{reverse-append}
use Rattle.std.proofs.lemmas.List.Elements.{filter_map-append}
use Rattle.std.proofs.lemmas.List.Folds.{list_any-append}
use Rattle.git_objects.specs.Idents.{is_ident}
use Rattle.git_objects.specs.Lists.{Each}
use Rattle.git_objects.specs.Paths.{Bytes, same_bytes}
use Rattle.git_objects.specs.Refs.{bytes_cmp}
use Rattle.git_objects.specs.Snapshots.{Graph, Snapshot, ancestors, has, has_name, is_graph, snapshot_name}
use Rattle.git_objects.specs.declared.kind.Kind.TheVariants.{Commit}
use Rattle.git_objects.proofs.Basics.{and_both, same_bytes-self}
use Rattle.std.specs.declared.cmp.Ordering.TheVariants.{Less}
use Rattle.object_store.specs.Objects.{Object}
use Rattle.object_store.specs.Objects as objects
use Rattle.filter_text.specs.Filters.{Filter}
use Rattle.workspace.specs.Workspaces.{shown}
use Rattle.commit_map.specs.Shown.{Shown}
use Rattle.projection_laws.specs.ProjectionLaws.{HistoryLaw}
use Rattle.projection_laws.specs.Projections.{add_shown, distinct_from, is_same, known_at, projections, shown_of}
use Rattle.projection_laws.specs.Projections as projecting
use Rattle.fast_export.specs.ExportTexts.{is_among}
use Rattle.fast_export.specs.TagLaws.{AreTagsOf, IsTagOf}
use Rattle.tag_objects.specs.TagLists.{rise}
use Rattle.tag_objects.specs.TagNames.{is_tag_name}
use Rattle.tag_objects.specs.declared.tag.Tag.{Tag}
use Rattle.tag_objects.proofs.TagLists.{below, less, rise_from}
use Rattle.state_items.specs.Appending.{are_tags}
use Rattle.state_items.specs.Items.{Held}
use Rattle.state_items.specs.Repos.{repo}
use Rattle.state_items.proofs.HeldTags.{first-of, rise-of}
use Rattle.proj_commands.specs.Export.{exported}
use Rattle.proj_commands.specs.Filters.{projected, rule_by}
use Rattle.proj_commands.specs.Tags.{retargeted, shown_tag, shown_tags}

-- ---- a history lists each projection by its name

or-left : (a b : Bool) → a ≡ true → (a || b) ≡ true
or-left true b h = refl
or-left false b h = absurd cc

or-right : (a b : Bool) → b ≡ true → (a || b) ≡ true
or-right true b h = refl
or-right false b h = h

either : (a b : Bool) {P : Type 0} → (a || b) ≡ true → (a ≡ true → P) → (b ≡ true → P) → P
either true b h f g = f refl
either false b h f g = g h

as-same : (p q : Shown) (qs : List Shown) → is_same p q ≡ true → list_any (is_same q) qs ≡ true → list_any (is_same p) qs ≡ true
as-same p q qs e h = ap (λ (n : Bytes). list_any (λ s. same_bytes n s.commit) qs) ((bytes_decides p.commit q.commit).0 e) ∙ h

added-old : (p q : Shown) (before : List Shown) → list_any (is_same p) before ≡ true → list_any (is_same p) (add_shown before q) ≡ true
added-old p q before h =
    elim (list_any (is_same q) before) as (λ b. list_any (is_same p) (if b then before else before ++ q ∷ []) ≡ true) [
      | true ↦ h
      | false ↦ list_any-append (is_same p) before (q ∷ []) ∙ or-left (list_any (is_same p) before) _ h
    ]

added-new : (p q : Shown) (before : List Shown) → is_same p q ≡ true → list_any (is_same p) (add_shown before q) ≡ true
added-new p q before e =
    elim (list_any (is_same q) before) as (λ b. list_any (is_same q) before ≡ b → list_any (is_same p) (if b then before else before ++ q ∷ []) ≡ true) [
      | true ↦ λ h. as-same p q before e h
      | false ↦ λ h. list_any-append (is_same p) before (q ∷ []) ∙ or-right (list_any (is_same p) before) _ (or-left (is_same p q) false e)
    ] refl

stays-distinct : (p : Shown) (qs before : List Shown) → list_any (is_same p) before ≡ true → list_any (is_same p) (distinct_from before qs) ≡ true
stays-distinct p [] before h = h
stays-distinct p (q ∷ qs) before h = stays-distinct p qs (add_shown before q) (added-old p q before h)

comes-distinct : (p : Shown) (qs before : List Shown) → list_any (is_same p) qs ≡ true → list_any (is_same p) (distinct_from before qs) ≡ true
comes-distinct p [] before h = absurd cc
comes-distinct p (q ∷ qs) before h =
    either (is_same p q) (list_any (is_same p) qs) h (λ e. stays-distinct p qs (add_shown before q) (added-new p q before e)) (λ e. comes-distinct p qs (add_shown before q) e)

-- ---- of a commit that is among some

among-gives : (f : Snapshot → Option Shown) (n : Bytes) (p : Shown) (cs : Graph) → ((c : Snapshot) → same_bytes n (snapshot_name c) ≡ true → f c ≡ Some p) → list_any (has_name n) cs ≡ true
    → list_any (is_same p) (filter_map f (reverse cs)) ≡ true
among-gives f n p [] h e = absurd cc
among-gives f n p (c ∷ cs) h e =
    ap (λ (ds : List Snapshot). list_any (is_same p) (filter_map f ds)) (reverse-append (c ∷ []) cs)
    ∙ ap (list_any (is_same p)) (filter_map-append f (reverse cs) (c ∷ []))
    ∙ list_any-append (is_same p) (filter_map f (reverse cs)) (filter_map f (c ∷ []))
    ∙ either (has_name n c) (list_any (has_name n) cs) e
    (λ d. or-right (list_any (is_same p) (filter_map f (reverse cs))) _ (ap (λ o. list_any (is_same p) (cons_option o [])) (h c d) ∙ or-left (is_same p p) false (same_bytes-self p.commit)))
    (λ d. or-left (list_any (is_same p) (filter_map f (reverse cs))) _ (among-gives f n p cs h d))

any-names : (p : Shown) (cs : List Snapshot) → list_any (is_same p) (map shown_of cs) ≡ true → is_among p.commit (map snapshot_name cs) ≡ true
any-names p [] e = absurd cc
any-names p (c ∷ cs) e =
    either (same_bytes p.commit (snapshot_name c)) (list_any (is_same p) (map shown_of cs)) e (λ d. or-left (same_bytes p.commit (snapshot_name c)) _ d)
    (λ d. or-right (same_bytes p.commit (snapshot_name c)) _ (any-names p cs d))

module _ (law : HistoryLaw) (h : Held) (f : Filter) (n : Bytes) (good : is_graph (repo h).commits ≡ true) where
  abbrev G : Graph
  G = (repo h).commits

  shown-at : Snapshot → Option Shown
  shown-at c = known_at (projections (rule_by h.rule) (shown f) [] G) (snapshot_name c)

  in-history : (m : Bytes) (p : Shown) → has (ancestors G n) m ≡ true → projected h f m ≡ Some p → list_any (is_same p) (projecting.history (rule_by h.rule) (shown f) G n) ≡ true
  unfolding shown-at
  in-history m p a e =
      comes-distinct p (filter_map shown-at (reverse (ancestors G n))) []
      (among-gives shown-at m p (ancestors G n) (λ c d. ap (λ (k : Bytes). known_at (projections (rule_by h.rule) (shown f) [] G) k) (sym ((bytes_decides m (snapshot_name c)).0 d)) ∙ e) a)

  named-in : (m : Bytes) (p : Shown) → has (ancestors G n) m ≡ true → projected h f m ≡ Some p → is_among p.commit (map snapshot_name (exported h f n)) ≡ true
  named-in m p a e = any-names p (exported h f n) (ap (list_any (is_same p)) (law.commits (rule_by h.rule) (shown f) G n good) ∙ in-history m p a e)

  -- ---- tags

  -- what is known of a tag that is shown
  record IsShown (t u : Tag) : Type 0 where
    name : u.name ≡ t.name
    tagger : u.tagger ≡ t.tagger
    target : is_among u.target.0 (map snapshot_name (exported h f n)) ≡ true

  is-shown : (t u : Tag) → shown_tag h f n t ≡ Some u → IsShown t u
  is-shown t u e = by (has (ancestors G n) t.target.0) refl (projected h f t.target.0) refl e
    where
      by : (b : Bool) → has (ancestors G n) t.target.0 ≡ b → (o : Option Shown) → projected h f t.target.0 ≡ o → option_map (retargeted t) (if b then option_map (λ s. s.commit) o else None) ≡ Some u → IsShown t u
      by false a o p g = absurd cc
      by true a None p g = absurd cc
      by true a (Some s) p g =
          let same : retargeted t s.commit ≡ u = cc in
          subst (IsShown t) same (record { name = refl; tagger = refl; target = named-in t.target.0 s a p })

  rises-from : (m : Bytes) (ts : List Tag) → rise (Some m) ts ≡ true → rise (Some m) (filter_map (shown_tag h f n) ts) ≡ true
  rises-from m [] r = refl
  rises-from m (t ∷ ts) r = by (shown_tag h f n t) refl (less (bytes_cmp m t.name) (first_so _ _ r)) (rises-from t.name ts (second_so _ _ r))
    where
      by : (o : Option Tag) → shown_tag h f n t ≡ o → bytes_cmp m t.name ≡ Less → rise (Some t.name) (filter_map (shown_tag h f n) ts) ≡ true
          → rise (Some m) (cons_option o (filter_map (shown_tag h f n) ts)) ≡ true
      by None e l d = rise_from m t.name (filter_map (shown_tag h f n) ts) l d
      by (Some u) e l d =
          let s = (is-shown t u e).name in
          and_both (below m u.name (ap (bytes_cmp m) s ∙ l)) (ap (λ (k : Bytes). rise (Some k) (filter_map (shown_tag h f n) ts)) s ∙ d)

  shown-rise : (ts : List Tag) → rise None ts ≡ true → rise None (filter_map (shown_tag h f n) ts) ≡ true
  shown-rise [] r = refl
  shown-rise (t ∷ ts) r = by (shown_tag h f n t) refl (rises-from t.name ts r)
    where
      none-first : (us : List Tag) → rise (Some t.name) us ≡ true → rise None us ≡ true
      none-first [] d = refl
      none-first (u ∷ us) d = second_so _ _ d

      by : (o : Option Tag) → shown_tag h f n t ≡ o → rise (Some t.name) (filter_map (shown_tag h f n) ts) ≡ true → rise None (cons_option o (filter_map (shown_tag h f n) ts)) ≡ true
      by None e d = none-first (filter_map (shown_tag h f n) ts) d
      by (Some u) e d = ap (λ (k : Bytes). rise (Some k) (filter_map (shown_tag h f n) ts)) (is-shown t u e).name ∙ d

  -- a name, and an ident
  record IsSound (t : Tag) : Type 0 where
    name : is_tag_name t.name ≡ true
    tagger : is_ident t.tagger ≡ true

  each-of : (ts : List Tag) → Each IsSound ts → Each (λ t. same_bytes t.target.0 (replicate 20 0) ≡ false) (filter_map (shown_tag h f n) ts) → Each (IsTagOf (exported h f n)) (filter_map (shown_tag h f n) ts)
  each-of [] s z = tt
  each-of (t ∷ ts) s z = by (shown_tag h f n t) refl z (λ y. each-of ts s.1 y)
    where
      by : (o : Option Tag) → shown_tag h f n t ≡ o → Each (λ t. same_bytes t.target.0 (replicate 20 0) ≡ false) (cons_option o (filter_map (shown_tag h f n) ts))
          → (Each (λ t. same_bytes t.target.0 (replicate 20 0) ≡ false) (filter_map (shown_tag h f n) ts) → Each (IsTagOf (exported h f n)) (filter_map (shown_tag h f n) ts))
          → Each (IsTagOf (exported h f n)) (cons_option o (filter_map (shown_tag h f n) ts))
      by None e y later = later y
      by (Some u) e y later =
          let i = is-shown t u e in (
            record {
              name = ap is_tag_name i.name ∙ s.0.name;
              tagger = ap is_ident i.tagger ∙ s.0.tagger;
              target = i.target;
              some = y.0;
            },
            later y.1,
          )

  each-sound : (S : List Object) (before : Option Bytes) (ts : List Tag) → are_tags S before ts ≡ true → Each IsSound ts
  each-sound S before [] w = tt
  each-sound S before (t ∷ ts) w =
      let a = first-of S before t ts w in
      let b = first_so (is_tag_name t.name && objects.has Commit S t.target.0 && is_ident t.tagger) _ a.right in
      let c = first_so (is_tag_name t.name && objects.has Commit S t.target.0) _ b in (
        record { name = first_so (is_tag_name t.name) _ c; tagger = second_so (is_tag_name t.name && objects.has Commit S t.target.0) _ b },
        each-sound S (Some t.name) ts a.rest,
      )

  -- tags of the exported commits, in byte order
  pub are-tags : are_tags h.objects None h.tags ≡ true → Each (λ t. same_bytes t.target.0 (replicate 20 0) ≡ false) (shown_tags h f n) → AreTagsOf (exported h f n) (shown_tags h f n)
  are-tags w z = record {
    order = shown-rise h.tags (rise-of h.objects None h.tags w);
    each = each-of h.tags (each-sound h.objects None h.tags w) z;
  }

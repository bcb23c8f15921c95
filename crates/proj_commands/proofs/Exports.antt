-- What became of an export.
use Rattle.std.proofs.Common.{◌≡◌, ◌⊎◌, ℕ, inl, inr, Bool, not, ◌&&◌, true, false, cond, length, ◌++◌, ◌≤◌, Contains, Err, List, [], ◌∷◌, map, reverse, take, Option, Some, None, Result, Ok, append-nil, refl, sym, ap, subst, ◌∙◌, true≢false}
use Rattle.std.specs.Prelude.{◌≢◌}
use Rattle.std.specs.List.{last_or, list_all}
use Rattle.std.specs.Option.{option_map}
use Rattle.std.specs.Cmp.{first_so, second_so}
use Rattle.std.specs.FinMap.{find}
use Rattle.std.specs.Ordering.{eq_by_cmp, is_eq}
use Rattle.std.specs.declared.cmp.Ordering.{Ordering}
use Rattle.std.specs.declared.cmp.Ordering.TheVariants.{Equal, Greater, Less}
use Rattle.std.proofs.lemmas.List.Elements.{Contains-append_cases}
use Rattle.std.proofs.lemmas.Option.{none-some}
use Rattle.std.specs.Io.KnownBytes.{Appends, Keeps}
use Rattle.git_objects.specs.Paths.{Bytes}
use Rattle.git_objects.specs.Refs.{Refs, bytes_cmp}
use Rattle.git_objects.specs.Results.{◌>>=◌, or_refuse}
use Rattle.git_objects.specs.Snapshots.{Graph, Snapshot, is_graph}
use Rattle.git_objects.specs.declared.limits.TheConstants.{STREAM_BYTES}
use Rattle.git_objects.specs.declared.name.Name.{Name}
use Rattle.git_objects.specs.declared.quantity.Quantity.{Quantity}
use Rattle.object_store.specs.Growth.{IsGrownBy}
use Rattle.object_store.specs.Objects.{IsStore, Object}
use Rattle.object_store.proofs.Growth.{grown_as, grown_self, grown_then}
use Rattle.filter_text.specs.Filters.{Filter}
use Rattle.filter_apply.specs.Faults.{IsApplyFault}
use Rattle.filter_apply.specs.declared.fault.ApplyError.{ApplyError}
use Rattle.filter_apply.specs.declared.fault.ApplyError.TheVariants as shows
use Rattle.workspace.specs.Workspaces.{shown}
use Rattle.path_names.specs.RefNames.{is_ref_name}
use Rattle.stream_reader.specs.declared.fault.StreamFault.TheVariants.{Limit}
use Rattle.tag_objects.specs.Tags.{tags_text}
use Rattle.tag_objects.specs.declared.tag.Tag.{Tag}
use Rattle.tag_objects.proofs.TagLists.{one_name}
use Rattle.fast_import.specs.Replays.{empty_base, tagged_replay}
use Rattle.fast_export.specs.ExportTexts.{export_text}
use Rattle.fast_export.specs.Histories.{IsHistoryIn, StoredHistoryLaw, are_distinct, are_ordered, parents_in, snapshots_at}
use Rattle.fast_export.specs.Laws.{IsHistory, has_no_zero}
use Rattle.fast_export.specs.TagLaws.{AreTagsOf, TaggedAgainLaw, tagged_text}
use Rattle.projection_laws.specs.Histories.{AreMade, OrderLaw, is_among, is_distinct, is_ordered}
use Rattle.projection_laws.specs.ProjectionLaws.{HistoryLaw}
use Rattle.projection_laws.specs.Projections.{history_graph, shown_of}
use Rattle.projection_ground.specs.Grounds.{Extends, commits_of}
use Rattle.history_ground.specs.Histories.{IsOfHistory}
use Rattle.projection_ground.specs.declared.ground.Ground.{Ground}
use Rattle.proj_io.specs.Views.{SinkView}
use Rattle.state_items.specs.Changes.{NoPlan}
use Rattle.state_items.specs.Hands.{IsTwice}
use Rattle.state_items.specs.Items.{Held}
use Rattle.state_items.specs.ReadHeld.{IsSoundHeld}
use Rattle.state_items.specs.Repos.{repo}
use Rattle.state_items.proofs.ReadEntries.{read-law}
use Rattle.state_items.proofs.Twices.{clash-twice}
use Rattle.repo_ground.specs.Contents.{Contents, room_in}
use Rattle.proj_words.specs.declared.outcome.Outcome.{Outcome}
use Rattle.proj_words.specs.declared.outcome.Outcome.TheVariants.{Collision, Done, OutOfMemory, UnknownRef, WriteFault}
use Rattle.proj_commands.specs.Cases.{Case, ExportCase, head_of}
use Rattle.proj_commands.specs.Filters.{history, rule_by}
use Rattle.proj_commands.specs.Hands.{IsInHands}
use Rattle.proj_commands.specs.Export.{EndsAtProjection, IsExportOf, IsMadeBeside, IsReadAgain, IsReadBack, export_hand, export_output, exported, tags_beside}
use Rattle.proj_commands.specs.Refusals.{apply_outcome}
use Rattle.proj_commands.specs.Tags.{shown_tags}
use Rattle.proj_commands.specs.Steps.{IsLawful}
use Rattle.proj_commands.specs.Makes.{IsAtHand, IsExported, IsFlowed, IsStateOf, hands_of, step_in, Fronts}
use Rattle.proj_commands.proofs.CasePlans.{all-one}
use Rattle.repo_ground.proofs.CommitGraphs.{stored-graph}
use Rattle.proj_commands.proofs.SeenHands.{beside-at, of-history-at}
use Rattle.proj_commands.proofs.ShownTags.{are-tags}
use Rattle.proj_commands.proofs.StatesShown.{commits-are, history-is, state-grown, state-upon}
use Rattle.proj_commands.proofs.InHands.{twice-as}

-- ---- names in order

distinct-as : (ns : List Bytes) → are_distinct ns ≡ is_distinct ns
distinct-as [] = refl
distinct-as (n ∷ ns) = ap (λ (b : Bool). not (is_among n ns) && b) (distinct-as ns)

ordered-as : (S : List Object) (before ns : List Bytes) → are_ordered S before ns ≡ is_ordered S before ns
ordered-as S before [] = refl
ordered-as S before (n ∷ ns) = ap (λ (b : Bool). list_all (λ p. is_among p before) (parents_in S n) && b) (ordered-as S (n ∷ before) ns)

-- the names of a graph that is made may be exported
pub history-in : OrderLaw → (S : List Object) (g : Graph) (ns : List Bytes) → is_graph g ≡ true → AreMade S g ns → IsHistoryIn S ns
history-in law S g ns w m =
    let o = law S g ns w m in
    record { held = o.held; distinct = distinct-as ns ∙ o.distinct; ordered = ordered-as S [] ns ∙ o.ordered }

-- ---- the last commit

last-mapped : {A B : Type 0} (f : A → B) (xs : List A) (o : Option A) → option_map f (last_or o xs) ≡ last_or (option_map f o) (map f xs)
last-mapped f [] o = refl
last-mapped f (x ∷ xs) o = last-mapped f xs (Some x)

-- it is the projection of the head
pub ends-at : HistoryLaw → (h : Held) (f : Filter) (n : Bytes) → IsStore h.objects → EndsAtProjection h f n
ends-at law h f n store apart =
    let whole : is_graph (repo h).commits ≡ true = stored-graph h.objects store in
    last-mapped shown_of (history h.rule f (repo h).commits n) None
    ∙ ap (last_or None) (law.commits (rule_by h.rule) (shown f) (repo h).commits n whole)
    ∙ law.last (rule_by h.rule) (shown f) (repo h).commits n whole apart

-- ---- nothing written

pub keeps-self : (o : Option Bytes) → Keeps o o
keeps-self None = tt
keeps-self (Some xs) = refl

appends-none : (o : Option Bytes) → Appends o o []
appends-none None = tt
appends-none (Some xs) = sym (append-nil xs)

-- ---- it is read again

tied : (o : Ordering) → is_eq o ≡ true → o ≡ Equal
tied Less h = absurd (true≢false (sym h))
tied Equal h = refl
tied Greater h = absurd (true≢false (sym h))

pub found-name : (refs : Refs) (r n : Bytes) → list_all (λ e. is_ref_name e.0) refs ≡ true → find bytes_cmp r refs ≡ Some n → is_ref_name r ≡ true
found-name [] r n h e = absurd (none-some n e)
found-name (x ∷ refs) r n h e = by (λ k. found-name refs r n (second_so (is_ref_name x.0) _ h) k) (eq_by_cmp bytes_cmp r x.0) refl e
  where
    by : (find bytes_cmp r refs ≡ Some n → is_ref_name r ≡ true) → (b : Bool) → eq_by_cmp bytes_cmp r x.0 ≡ b → cond b (Some x.1) (find bytes_cmp r refs) ≡ Some n → is_ref_name r ≡ true
    by later true same g = ap is_ref_name (one_name r x.0 (tied (bytes_cmp r x.0) same)) ∙ first_so (is_ref_name x.0) _ h
    by later false same g = later g

module _ (law : TaggedAgainLaw) (refname : Bytes) (named : is_ref_name refname ≡ true) (cs : List Snapshot) (history : IsHistory [] cs) (zeros : has_no_zero cs ≡ true) where
  with-tags : (ts : List Tag) → AreTagsOf cs ts → length (tagged_text cs refname ts) ≤ STREAM_BYTES → ((at : ℕ) (which : Quantity) → tagged_replay empty_base (tagged_text cs refname ts) ≢ Err (Limit at which))
      → IsReadAgain (tagged_text cs refname ts) cs refname ts
  with-tags ts tags short limits =
      let r = law cs refname ts history named zeros tags short limits in
      record { given = r.given; read = r.read; commits = r.commits; heads = r.heads; tags = r.tags }

  -- without tags nothing stands behind the history
  without-tags : length (export_text cs refname) ≤ STREAM_BYTES → ((at : ℕ) (which : Quantity) → tagged_replay empty_base (export_text cs refname) ≢ Err (Limit at which))
      → IsReadAgain (export_text cs refname) cs refname []
  without-tags short limits =
      let same = append-nil (export_text cs refname) in
      subst (λ (t : Bytes). IsReadAgain t cs refname []) same
      (with-tags [] (record { order = refl; each = tt }) (subst (λ (t : Bytes). length t ≤ STREAM_BYTES) (sym same) short)
      (λ at which e. limits at which (subst (λ (t : Bytes). tagged_replay empty_base t ≡ Err (Limit at which)) same e)))

read-back : HistoryLaw → TaggedAgainLaw → (tagged : Bool) (h : Held) (f : Filter) (refname n : Bytes) → IsStore h.objects → IsSoundHeld h → find bytes_cmp refname h.refs ≡ Some n → IsHistory [] (exported h f n)
    → IsReadBack tagged h f refname n
read-back law again true h f refname n store sound e history zeros targets short limits =
    with-tags again refname (found-name h.refs refname n sound.names e) (exported h f n) history zeros (shown_tags h f n) (are-tags law h f n (stored-graph h.objects store) sound.tags targets) short limits
read-back law again false h f refname n store sound e history zeros targets short limits =
    without-tags again refname (found-name h.refs refname n sound.names e) (exported h f n) history zeros short limits

-- what is written
as-output : (tagged : Bool) (h : Held) (f : Filter) (refname n : Bytes) (cs : List Snapshot) (ts : List Tag) → cs ≡ exported h f n → ts ≡ tags_beside tagged h f n
    → export_text cs refname ++ tags_text ts ≡ export_output tagged h f refname n
as-output true h f refname n cs ts a b = λ i. export_text (a i) refname ++ tags_text (b i)
as-output false h f refname n cs ts a b = (λ i. export_text (a i) refname ++ tags_text (b i)) ∙ append-nil (export_text (exported h f n) refname)

-- ---- no ref

module _ (tagged : Bool) (items : List Bytes) (h : Held) (s : Contents) (f : Filter) (refname : Bytes) (w : IsStateOf items h s) where
  abbrev asked : Result Case Outcome
  asked = head_of refname h.refs >>= λ m. Ok (ExportCase tagged h f refname m)

  pub no-ref : find bytes_cmp refname h.refs ≡ None → (before : SinkView) → IsExported asked items h s s before before UnknownRef
  no-ref e before =
      subst (λ (o : Option Bytes). IsExported (or_refuse UnknownRef o >>= λ m. Ok (ExportCase tagged h f refname m)) items h s s before before UnknownRef) (sym e)
      (record { flowed = (refl, tt, keeps-self before.written); lawful = λ done. absurd (let no : ⊥ = cc in no); state = w; grown = grown_self (IsInHands []) s.basis.store w.ground.graph.store })

-- ---- a state with a ground that has grown

-- it is one of these items still, and what has come is in hand
pub record IsReached (tagged : Bool) (items : List Bytes) (h : Held) (s : Contents) (f : Filter) (n : Bytes) (t : Contents) : Type 0 where
  pub state : IsStateOf items h t
  pub grown : IsGrownBy (IsInHands (export_hand tagged h f n ∷ [])) s.basis.store t.basis.store

module _ (tagged : Bool) (items : List Bytes) (h : Held) (s : Contents) (f : Filter) (refname n : Bytes) (w : IsStateOf items h s) (e : find bytes_cmp refname h.refs ≡ Some n) where
  abbrev came : Result Case Outcome
  came = Ok (ExportCase tagged h f refname n)

  -- after the tags
  pub reached-tags : (t : Contents) → t ≡ record s { basis = record t.basis { map = s.basis.map } } → Extends (IsMadeBeside tagged f s.basis n) s.basis t.basis → IsReached tagged items h s f n t
  reached-tags t rest x = record {
    state = state-upon items h s t f n (IsMadeBeside tagged f s.basis n) w rest x;
    grown = grown_as (IsMadeBeside tagged f s.basis n) (IsInHands (hands_of came)) s.basis.store t.basis.store (beside-at items h s f n w tagged) x.store;
  }

  -- and after the history upon them
  reached-history : (t : Contents) → IsReached tagged items h s f n t → (g : Ground) → Extends (IsOfHistory f t.basis n) t.basis g → g.map ≡ t.basis.map → IsReached tagged items h s f n (record t { basis = g })
  reached-history t r g x m = record {
    state = state-grown items h t f n r.state (IsOfHistory f t.basis n) g [] x (append-nil t.basis.map ∙ sym m);
    grown =
        grown_then (IsInHands (hands_of came)) s.basis.store t.basis.store g.store r.grown
        (grown_as (IsOfHistory f t.basis n) (IsInHands (hands_of came)) t.basis.store g.store (of-history-at items h t f n r.state tagged) x.store);
  }

  -- what became of it, by what was written
  became : (t : Contents) → IsReached tagged items h s f n t → (before after : SinkView) (outcome : Outcome) → IsFlowed (IsAtHand s.basis.store came) (step_in (room_in s) came) before after outcome
      → (outcome ≡ Done → IsExportOf tagged h f refname n) → IsExported (asked tagged items h s f refname w) items h s t before after outcome
  became t r before after outcome flow lawful =
      subst (λ (o : Option Bytes). IsExported (or_refuse UnknownRef o >>= λ m. Ok (ExportCase tagged h f refname m)) items h s t before after outcome) (sym e)
      (record {
        flowed = flow;
        lawful = λ done. all-one (IsLawful items NoPlan) (ExportCase tagged h f refname n) (lawful done);
        state = r.state;
        grown = r.grown;
      })

  undone : (t : Contents) → IsReached tagged items h s f n t → (before after : SinkView) (outcome : Outcome) → outcome ≢ Done → IsFlowed (IsAtHand s.basis.store came) (step_in (room_in s) came) before after outcome
      → IsExported (asked tagged items h s f refname w) items h s t before after outcome
  undone t r before after outcome apart flow = became t r before after outcome flow (λ done. absurd (apart done))

  -- ---- nothing is written

  unshown : (t : Contents) → IsReached tagged items h s f n t → (before : SinkView) (a : ApplyError) → ((k : Name) → a ≡ shows.Collision k → IsTwice (IsAtHand s.basis.store came) k.0)
      → IsExported (asked tagged items h s f refname w) items h s t before before (apply_outcome a)
  unshown t r before (shows.Collision k) twice = undone t r before before (Collision k) (λ no. cc) (inr (twice k refl), tt, keeps-self before.written)
  unshown t r before shows.OutOfMemory twice = undone t r before before OutOfMemory (λ no. cc) (0, appends-none before.written)

  fault-twice : (made : Object → Type 0) (S T : List Object) (a : ApplyError) → ((o : Object) → Contains S o ⊎ made o → IsAtHand s.basis.store came o) → IsGrownBy made S T → IsApplyFault made T a → (k : Name) → a ≡ shows.Collision k
      → IsTwice (IsAtHand s.basis.store came) k.0
  fault-twice made S T a there g fault k is =
      twice-as (λ o. Contains S o ⊎ made o) (IsAtHand s.basis.store came) there k.0 (clash-twice made S T k.0 g (subst (IsApplyFault made T) is fault))

  pub tags-fault : (t : Contents) → t ≡ record s { basis = record t.basis { map = s.basis.map } } → Extends (IsMadeBeside tagged f s.basis n) s.basis t.basis → (before : SinkView) (a : ApplyError)
      → IsApplyFault (IsMadeBeside tagged f s.basis n) t.basis.store a → IsExported (asked tagged items h s f refname w) items h s t before before (apply_outcome a)
  tags-fault t rest x before a fault =
      unshown t (reached-tags t rest x) before a (fault-twice (IsMadeBeside tagged f s.basis n) s.basis.store t.basis.store a there x.store fault)
    where
      there : (o : Object) → Contains s.basis.store o ⊎ IsMadeBeside tagged f s.basis n o → IsAtHand s.basis.store came o
      there o (inl m) = inl m
      there o (inr m) = inr (beside-at items h s f n w tagged o m)

  module _ (t : Contents) (r : IsReached tagged items h s f n t) where
    at-hand : (o : Object) → Contains t.basis.store o → IsAtHand s.basis.store came o
    at-hand o m = by (Contains-append_cases r.grown.newer s.basis.store o (subst (λ (S : List Object). Contains S o) (sym r.grown.above) m))
      where
        by : Contains r.grown.newer o ⊎ Contains s.basis.store o → IsAtHand s.basis.store came o
        by (inl new) = inr (r.grown.all o new)
        by (inr old) = inl old

    module _ (g : Ground) (x : Extends (IsOfHistory f t.basis n) t.basis g) (m : g.map ≡ t.basis.map) where
      pub history-fault : (before : SinkView) (a : ApplyError) → IsApplyFault (IsOfHistory f t.basis n) g.store a → IsExported (asked tagged items h s f refname w) items h s (record t { basis = g }) before before (apply_outcome a)
      history-fault before a fault =
          unshown (record t { basis = g }) (reached-history t r g x m) before a (fault-twice (IsOfHistory f t.basis n) t.basis.store g.store a there x.store fault)
        where
          there : (o : Object) → Contains t.basis.store o ⊎ IsOfHistory f t.basis n o → IsAtHand s.basis.store came o
          there o (inl old) = at-hand o old
          there o (inr new) = inr (of-history-at items h t f n r.state tagged o new)

      -- ---- what is written

      module _ (names : List Bytes) (made : AreMade g.store (history_graph t.basis.rule (shown f) (commits_of t.basis) n) names) (tags : List Tag) (beside : tags ≡ tags_beside tagged h f n) where
        -- the commits that are exported
        same-commits : snapshots_at g.store names ≡ exported h f n
        same-commits = made.snapshots ∙ ap (λ (q : Graph). reverse q) (history-is items h t f n r.state)

        same-text : export_text (snapshots_at g.store names) refname ++ tags_text tags ≡ export_output tagged h f refname n
        same-text = as-output tagged h f refname n (snapshots_at g.store names) tags same-commits beside

        module _ (law : HistoryLaw) (stored : StoredHistoryLaw) (again : TaggedAgainLaw) (within : IsHistoryIn g.store names) where
          lawful : IsExportOf tagged h f refname n
          lawful = record {
            last = ends-at law h f n w.spells.store;
            again = read-back law again tagged h f refname n w.spells.store (read-law.sound items h w.current.read) e (subst (IsHistory []) same-commits (stored g.store names x.store.store within).history);
          }

          pub whole : (before after : SinkView) → Appends before.written after.written (export_text (snapshots_at g.store names) refname ++ tags_text tags)
              → IsExported (asked tagged items h s f refname w) items h s (record t { basis = g }) before after Done
          whole before after a =
              became (record t { basis = g }) (reached-history t r g x m) before after Done (subst (λ (b : Bytes). Appends before.written after.written b) same-text a) (λ done. lawful)

        fronts : (before after : SinkView) → ((k : ℕ) × Appends before.written after.written (take k (export_text (snapshots_at g.store names) refname ++ tags_text tags))) → Fronts (export_output tagged h f refname n) before after
        fronts before after a = (a.0, subst (λ (b : Bytes). Appends before.written after.written (take a.0 b)) same-text a.1)

        pub failed : (before after : SinkView) → ((k : ℕ) × Appends before.written after.written (take k (export_text (snapshots_at g.store names) refname ++ tags_text tags)))
            → IsExported (asked tagged items h s f refname w) items h s (record t { basis = g }) before after WriteFault
        failed before after a = undone (record t { basis = g }) (reached-history t r g x m) before after WriteFault (λ no. cc) (fronts before after a)

        pub short : (before after : SinkView) → ((k : ℕ) × Appends before.written after.written (take k (export_text (snapshots_at g.store names) refname ++ tags_text tags)))
            → IsExported (asked tagged items h s f refname w) items h s (record t { basis = g }) before after OutOfMemory
        short before after a = undone (record t { basis = g }) (reached-history t r g x m) before after OutOfMemory (λ no. cc) (fronts before after a)

-- ---- what is asked for

pub exportable : HistoryLaw → OrderLaw → (items : List Bytes) (h : Held) (s : Contents) (f : Filter) (n : Bytes) → IsStateOf items h s → (S : List Object) (ns : List Bytes)
    → AreMade S (history_graph s.basis.rule (shown f) (commits_of s.basis) n) ns → IsHistoryIn S ns
exportable law order items h s f n w S ns m =
    let whole : is_graph (commits_of s.basis) ≡ true = ap is_graph (commits-are items h s f n w) ∙ stored-graph h.objects w.spells.store in
    history-in order S (history_graph s.basis.rule (shown f) (commits_of s.basis) n) ns (law.graph s.basis.rule (shown f) (commits_of s.basis) n whole) m

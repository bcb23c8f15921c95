-- What a trial shows of a ref's commit: its projection, and its history.
use Rattle.std.proofs.Common.{◌≡◌, inl, inr, false, List, [], ◌∷◌, ◌++◌, ℕ, length, map, reverse, Contains, Option, Some, None, Result, Ok, Err, append-nil, sym, ap, subst, ◌∙◌}
use Rattle.std.specs.FinMap.{find}
use Rattle.std.specs.Option.{option_map}
use Rattle.std.specs.Prelude.{◌⊎◌, decimal}
use Rattle.std.proofs.lemmas.List.{length-map, length-reverse}
use Rattle.git_objects.specs.Parts.{name_bytes}
use Rattle.git_objects.specs.Paths.{Bytes}
use Rattle.git_objects.specs.Refs.{bytes_cmp}
use Rattle.git_objects.specs.Results.{◌>>=◌, or_refuse, refused_by}
use Rattle.git_objects.specs.Snapshots.{Graph, snapshot_name}
use Rattle.git_objects.specs.declared.name.Name.{Name}
use Rattle.object_store.specs.Objects.{Object}
use Rattle.object_store.proofs.Growth.{grown_as}
use Rattle.commit_graph.specs.Graphs.{Row}
use Rattle.commit_map.specs.Shown.{Shown}
use Rattle.commit_map.specs.declared.rule.Rule.{Rule}
use Rattle.filter_apply.specs.Faults.{IsApplyFault}
use Rattle.filter_apply.specs.declared.fault.ApplyError.{ApplyError}
use Rattle.filter_apply.specs.declared.fault.ApplyError.TheVariants as shows
use Rattle.filter_text.specs.Filters.{Filter}
use Rattle.filter_text.specs.Printing.{printed}
use Rattle.workspace.specs.Workspaces.{shown}
use Rattle.projection_laws.specs.Histories.{AreMade}
use Rattle.projection_laws.specs.Projections.{history_graph, projection}
use Rattle.projection_ground.specs.Grounds.{Extends, commits_of}
use Rattle.history_ground.specs.Heads.{IsSeen, IsSeenObject}
use Rattle.history_ground.specs.Histories.{IsOfHistory}
use Rattle.projection_ground.specs.declared.ground.Ground.{Ground}
use Rattle.history_ground.specs.declared.heads.Seen.{Seen}
use Rattle.push_laws.specs.Pushes.{pushing}
use Rattle.state_items.specs.Items.{Held}
use Rattle.state_items.specs.Repos.{repo}
use Rattle.repo_ground.specs.Contents.{Contents}
use Rattle.proj_words.specs.Words.{Export}
use Rattle.proj_words.specs.declared.outcome.Outcome.{Outcome}
use Rattle.proj_words.specs.declared.outcome.Outcome.TheVariants.{OutOfMemory, UnknownRef}
use Rattle.proj_commands.specs.Cases.{Case, ExportCase, PushCase, break_outcome, head_of, loaded}
use Rattle.proj_commands.specs.Steps.{case}
use Rattle.proj_commands.specs.Push.{push_case}
use Rattle.proj_commands.specs.declared.lines.Telling.TheVariants.{Both}
use Rattle.proj_commands.specs.Filters.{history, projected, rule_by, sound}
use Rattle.proj_commands.specs.Hands.{Hand, IsInHands}
use Rattle.proj_commands.specs.Makes.{IsStateOf, hands_of}
use Rattle.proj_commands.specs.Pushing.{IsSeenOver}
use Rattle.proj_commands.specs.Refusals.{apply_outcome}
use Rattle.proj_cli.specs.Trials.{history_line}
use Rattle.proj_cli.specs.Trying.{IsEnded, IsFrom, IsTried, from_of, line_of}
use Rattle.repo_ground.proofs.CommitGraphs.{names-are}
use Rattle.proj_commands.proofs.InHands.{in-hands, twice-at, twice-as}
use Rattle.proj_commands.proofs.PushHands.{push_hand, seen-in}
use Rattle.proj_commands.proofs.StatesShown.{commits-are, history-at, history-is, rule-is, state-grown}
use Rattle.proj_cli.proofs.TrialSteps.{brought-on, ended-on, hands-left, hands-right, unsound-ended}
use Rattle.proj_commands.specs.declared.pushing.Manner.TheVariants.{InLine}

-- ---- a ground that has grown

module _ (items : List Bytes) (h : Held) (hands ks : List Hand) (s : Contents) (f : Filter) (n : Bytes) (w : IsTried items h hands s) (made : Object → Type 0)
    (within : (o : Object) → made o → IsInHands ks o) (g : Ground) (x : Extends made s.basis g) where
  pub shown-tried : g.map ≡ s.basis.map → IsTried items h (hands ++ ks) (record s { basis = g })
  shown-tried m = record {
    state = state-grown items h s f n w.state made g [] x (append-nil s.basis.map ∙ sym m);
    brought = brought-on hands ks s.basis.store g.store w.brought (grown_as made (IsInHands ks) s.basis.store g.store within x.store);
  }

  pub shown-ended : {A : Type 0} (r : Result A Outcome) (a : ApplyError) → IsApplyFault made g.store a → IsEnded (hands ++ ks) r (apply_outcome a)
  shown-ended r (shows.Collision k) clash =
      inr (twice-as (λ o. Contains s.basis.store o ⊎ IsInHands ks o) (IsInHands (hands ++ ks)) at k.0 (twice-at made (IsInHands ks) s.basis.store g.store k.0 within x.store clash))
    where
      at : (o : Object) → Contains s.basis.store o ⊎ IsInHands ks o → IsInHands (hands ++ ks) o
      at o (inl there) = hands-left hands ks o (w.brought o there)
      at o (inr q) = hands-right hands ks o q
  shown-ended r shows.OutOfMemory clash = tt

-- ---- the projection of a ref's commit

pub no-head : (ks : List Hand) (h : Held) (f : Filter) (refname : Bytes) → find bytes_cmp refname h.refs ≡ None → IsEnded ks (from_of h f refname) UnknownRef
no-head ks h f refname e = ap (λ (o : Option Bytes). or_refuse UnknownRef o >>= λ n. Ok (option_map (λ (s : Shown). s.commit) (projected h f n))) e

module _ (items : List Bytes) (h : Held) (hands : List Hand) (s : Contents) (f : Filter) (refname n all : Bytes) (w : IsTried items h hands s)
    (e : find bytes_cmp refname h.refs ≡ Some n) where
  came-push : push_case InLine Both h f refname all ≡ Ok (PushCase InLine Both h f refname n (pushing (rule_by h.rule) f (repo h).commits n refname all))
  came-push = ap (λ (o : Option Bytes). or_refuse UnknownRef o >>= λ m. Ok (PushCase InLine Both h f refname m (pushing (rule_by h.rule) f (repo h).commits m refname all))) e

  pub seen-at : (o : Object) → IsSeenObject f s.basis n o → IsInHands (hands_of (push_case InLine Both h f refname all)) o
  seen-at o q =
      let over = subst (λ (r : Rule). IsSeenOver f n r (repo h).commits o) (rule-is h s w.state.spells) (subst (λ (cs : Graph). IsSeenOver f n s.basis.rule cs o) (commits-are items h s f n w.state) q) in
      subst (λ (r : Result Case Outcome). IsInHands (hands_of r) o) (sym came-push) (in-hands (push_hand InLine h f refname n all) o (seen-in InLine h f refname n all (λ c q. q) o over))

  from-is : (S : List Object) (seen : Seen) → IsSeen f s.basis n S seen → from_of h f refname ≡ Ok (option_map name_bytes seen.from)
  from-is S seen p =
      ap (λ (o : Option Bytes). or_refuse UnknownRef o >>= λ m. Ok (option_map (λ (q : Shown). q.commit) (projected h f m))) e
      ∙ ap (λ (o : Option Bytes). Ok o)
      (sym (p.projected ∙ (λ i. option_map (λ (q : Shown). q.commit) (projection (rule-is h s w.state.spells i) (shown f) (commits-are items h s f n w.state i) n))))

  module _ (g : Ground) (x : Extends (IsSeenObject f s.basis n) s.basis g) where
    pub head-seen : (seen : Seen) → IsSeen f s.basis n g.store seen → g.map ≡ s.basis.map
        → IsFrom items h (hands ++ hands_of (push_case InLine Both h f refname all)) (from_of h f refname) (record s { basis = g }) (Ok seen.from)
    head-seen seen p m = (from-is g.store seen p, shown-tried items h hands (hands_of (push_case InLine Both h f refname all)) s f n w (IsSeenObject f s.basis n) seen-at g x m)

    pub head-unseen : (a : ApplyError) → IsApplyFault (IsSeenObject f s.basis n) g.store a → IsEnded (hands ++ hands_of (push_case InLine Both h f refname all)) (from_of h f refname) (apply_outcome a)
    head-unseen a q = shown-ended items h hands (hands_of (push_case InLine Both h f refname all)) s f n w (IsSeenObject f s.basis n) seen-at g x (from_of h f refname) a q

-- ---- the line of a history

pub no-line : (ks : List Hand) (h : Held) (refname text : Bytes) → find bytes_cmp refname h.refs ≡ None → IsEnded ks (line_of h refname text) UnknownRef
no-line ks h refname text e = ap (λ (o : Option Bytes). or_refuse UnknownRef o >>= λ n. history_line h n text) e

line-at : (h : Held) (refname text n : Bytes) → find bytes_cmp refname h.refs ≡ Some n → line_of h refname text ≡ history_line h n text
line-at h refname text n e = ap (λ (o : Option Bytes). or_refuse UnknownRef o >>= λ m. history_line h m text) e

pub line-unsound : (ks : List Hand) (h : Held) (refname text n : Bytes) (e : Outcome) → find bytes_cmp refname h.refs ≡ Some n → (e ≡ OutOfMemory) ⊎ (sound text ≡ Err e)
    → IsEnded ks (line_of h refname text) e
line-unsound ks h refname text n e q bad =
    subst (λ (r : Result Bytes Outcome). IsEnded ks r e) (sym (line-at h refname text n q))
    (ended-on ks (sound text) (λ f. Ok (printed f ++ 32 ∷ (decimal (length (history h.rule f (repo h).commits n)) ++ 10 ∷ []))) e (unsound-ended ks text e bad))

module _ (items : List Bytes) (h : Held) (hands : List Hand) (s : Contents) (f : Filter) (refname text n : Bytes) (w : IsTried items h hands s)
    (e : find bytes_cmp refname h.refs ≡ Some n) (judged : sound text ≡ Ok f) where
  abbrev came : Result Case Outcome
  came = case (Export refname text) (loaded items) []

  came-export : came ≡ Ok (ExportCase false h f refname n)
  came-export =
      ap (λ (r : Result Filter Outcome). r >>= λ k. loaded items >>= λ l. head_of refname l.refs >>= λ m. Ok (ExportCase false l k refname m)) judged
      ∙ ap (λ (r : Result Held Outcome). r >>= λ l. head_of refname l.refs >>= λ m. Ok (ExportCase false l f refname m)) (ap (refused_by break_outcome) w.state.current.read)
      ∙ ap (λ (o : Option Bytes). or_refuse UnknownRef o >>= λ m. Ok (ExportCase false h f refname m)) e

  pub of-history : (o : Object) → IsOfHistory f s.basis n o → IsInHands (hands_of came) o
  of-history o q = subst (λ (r : Result Case Outcome). IsInHands (hands_of r) o) (sym came-export) (history-at items h s f n w.state o q)

  pub line-is : (S : List Object) (names : List Name) → AreMade S (history_graph s.basis.rule (shown f) (commits_of s.basis) n) (map name_bytes names)
      → line_of h refname text ≡ Ok (printed f ++ 32 ∷ (decimal (length names) ++ 10 ∷ []))
  line-is S names made =
      line-at h refname text n e
      ∙ ap (λ (r : Result Filter Outcome). r >>= λ k. Ok (printed k ++ 32 ∷ (decimal (length (history h.rule k (repo h).commits n)) ++ 10 ∷ []))) judged
      ∙ ap (λ (k : ℕ). Ok (printed f ++ 32 ∷ (decimal k ++ 10 ∷ []))) (sym count)
    where
      count : length names ≡ length (history h.rule f (repo h).commits n)
      count =
          sym (length-map names name_bytes)
          ∙ ap length made.names
          ∙ length-map (reverse (history_graph s.basis.rule (shown f) (commits_of s.basis) n)) snapshot_name
          ∙ ap (λ (q : Graph). length (reverse q)) (history-is items h s f n w.state)

  module _ (g : Ground) (x : Extends (IsOfHistory f s.basis n) s.basis g) where
    pub line-tried : g.map ≡ s.basis.map → IsTried items h (hands ++ hands_of came) (record s { basis = g })
    line-tried m = shown-tried items h hands (hands_of came) s f n w (IsOfHistory f s.basis n) of-history g x m

    pub line-ended : (a : ApplyError) → IsApplyFault (IsOfHistory f s.basis n) g.store a → IsEnded (hands ++ hands_of came) (line_of h refname text) (apply_outcome a)
    line-ended a q = shown-ended items h hands (hands_of came) s f n w (IsOfHistory f s.basis n) of-history g x (line_of h refname text) a q

-- ---- the number of commits

pub commits-counted : (items : List Bytes) (h : Held) (s : Contents) → IsStateOf items h s → length s.basis.graph ≡ length (repo h).commits
commits-counted items h s w =
    sym (length-map s.basis.graph (λ (r : Row). r.name))
    ∙ ap (λ (rows : List Row). length (map (λ (r : Row). r.name) rows)) w.spells.graph
    ∙ ap length (sym (names-are h.objects w.spells.store))
    ∙ length-map (reverse (repo h).commits) snapshot_name
    ∙ length-reverse (repo h).commits

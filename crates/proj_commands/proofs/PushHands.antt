-- What a push makes is in hand.
use Rattle.std.proofs.Common.{◌≡◌, inl, inr, ℕ, Bool, true, false, cond, List, [], ◌∷◌, ◌++◌, Contains, Option, None, Some, Result, Ok, Err, ⊎_elim, refl, sym, ◌∙◌}
use Rattle.std.specs.List.{flat_map}
use Rattle.std.specs.Option.{option_map, option_map_or}
use Rattle.std.proofs.lemmas.List.Elements.{Contains-append_left, Contains-append_right, Contains-push}
use Rattle.git_objects.specs.Lists.{Each}
use Rattle.git_objects.specs.Paths.{Bytes}
use Rattle.git_objects.specs.Results.{◌>>=◌, or_refuse, refused_by}
use Rattle.git_objects.specs.Snapshots.{Graph, Snapshot, commit_at, has, has_name, snapshot_name, tree_at}
use Rattle.git_objects.specs.Trees.{Flat, IsTree, Leaf}
use Rattle.object_store.specs.Hands.{IsComponentOf, IsLeafOf}
use Rattle.object_store.specs.Objects.{Object}
use Rattle.object_store.specs.StoredSnapshots.{snapshot_object}
use Rattle.filter_text.specs.Filters.{Filter, Filters, nop, sub, onto, dir, file, exclude, join, chain, workspace, no_more, more}
use Rattle.filter_apply.specs.Hands.{parts_in, parts_in_all}
use Rattle.filter_apply.specs.Hands as shows
use Rattle.filter_apply.proofs.Members.{in-flat_map}
use Rattle.filter_apply.proofs.Overs.{made_as}
use Rattle.filter_unapply.specs.Hands.{IsComponentOfTwo, IsLaidMade, IsLeafOfTwo, IsNamedIn, IsNamedInAny}
use Rattle.workspace.specs.Workspaces.{next, resolve, shown}
use Rattle.commit_map.specs.declared.rule.Rule.{Rule}
use Rattle.projection_laws.specs.Projections.{history_graph, projection, projections}
use Rattle.projection_ground.specs.Grounds.{IsShownOf}
use Rattle.stream_reader.specs.declared.command.Command.{Command}
use Rattle.stream_reader.specs.declared.command.Command.TheVariants as commands
use Rattle.stream_reader.specs.declared.command.Placed.{Placed}
use Rattle.stream_reader.specs.declared.fault.StreamFault.TheVariants.{Syntax}
use Rattle.stream_reader.specs.Verdicts.{start, verdict}
use Rattle.fast_import.specs.Made.{IsMadeAt, IsMadeBy, IsMadeOf}
use Rattle.fast_import.specs.Replays.{Base, Draft, Replay, committed, nothing_yet, ran_by, step}
use Rattle.push_back.specs.Originals.{IsMadeFor, IsMadeUpon}
use Rattle.push_laws.specs.PushReplays.{StreamRefusal, Faulty, push_base, push_step}
use Rattle.push_laws.specs.PushVerdicts.{Refusal, original_of, original_tree}
use Rattle.push_laws.specs.Pushes.{Pushing, made_from, made_upon}
use Rattle.push_laws.proofs.PushSteps.{goes-on}
use Rattle.merge_laws.specs.MergeReplays.{merge_base, merge_step}
use Rattle.merge_laws.specs.MergeVerdicts.{Progress, after, begun, original}
use Rattle.merge_laws.specs.MergeVerdicts as merges
use Rattle.merge_laws.specs.Merges.{shown_trees}
use Rattle.merge_laws.proofs.Bases.{goes-on-law}
use Rattle.merge_push.specs.Originals as merged
use Rattle.state_items.specs.Items.{Held}
use Rattle.state_items.specs.Repos.{repo}
use Rattle.proj_commands.specs.Cases.{PushCase}
use Rattle.proj_commands.specs.declared.lines.Telling.TheVariants.{Both}
use Rattle.proj_commands.specs.Filters.{rule_by}
use Rattle.proj_commands.specs.Hands.{CommitMade, Hand, IsInHand, IsInHands, TreeMade, all_components, all_leaves, blobs_read, command_components, components_for, own}
use Rattle.proj_commands.specs.Steps.{hand}
use Rattle.proj_commands.specs.Push.{laid_parts, merged_parts, own_for, parts_behind, parts_pushed, parts_upon, pushed_upon}
use Rattle.proj_commands.specs.Pushing.{AreSeenOver, IsMadeOver, IsSeenOver}
use Rattle.proj_commands.specs.declared.pushing.Manner.{Manner}
use Rattle.proj_commands.specs.declared.pushing.Manner.TheVariants.{InLine, Merging}
use Rattle.proj_commands.proofs.InHands.{added-in, here, in-hands, none-in, there}
use Rattle.history_ground.proofs.AllProjections.{own-of-all}
use Rattle.proj_commands.proofs.StreamHands.{IsBrought, brought-in-hand, component-in-hand, leaf-in-hand, run-brought}

-- ---- parts of filters

mutual
  named-part : (f : Filter) (c : Bytes) → IsNamedIn f c → Contains (parts_in f) c
  named-part nop c w = absurd w
  named-part (sub a) c w = w
  named-part (onto a) c w = w
  named-part (dir a) c w = w
  named-part (file a) c w = w
  named-part (exclude f) c w = named-part f c w
  named-part (join fs) c w = named-parts fs c w
  named-part (chain fs) c w = named-parts fs c w
  named-part (workspace a) c w = w

  named-parts : (fs : Filters) (c : Bytes) → IsNamedInAny fs c → Contains (parts_in_all fs) c
  named-parts no_more c w = absurd w
  named-parts (more f fs) c (inl w) = Contains-append_left (parts_in f) (parts_in_all fs) c (named-part f c w)
  named-parts (more f fs) c (inr w) = Contains-append_right (parts_in f) (parts_in_all fs) c (named-parts fs c w)

-- ---- the stream

-- By what a push makes of one command, where it makes what any replay does, and ends a commit as that does.
module _ (base : Base) (one : Replay → Placed → Result Replay StreamRefusal) (done : (r q : Replay) (p : Placed) → one r p ≡ Ok q → step base r p ≡ Ok q)
    (ends : (r : Replay) (at : ℕ) → one r (record { at = at; command = commands.CommitEnd }) ≡ refused_by Faulty (or_refuse (Syntax at) r.draft >>= λ d. Ok (committed r d))) where
  -- a commit that is ended is never refused
  none-ended : (r : Replay) (at : ℕ) (f : StreamRefusal) (o : Object) (d : Option Draft) → refused_by Faulty (or_refuse (Syntax at) d >>= λ d. Ok (committed r d)) ≡ Err f → IsMadeOf d o → ⊥
  none-ended r at f o None e made = made
  none-ended r at f o (Some d) e made = let no : Ok (committed r d) ≡ Err f = e in cc

  -- a refused command brings nothing but what it reads
  refused-one : (r : Replay) (p : Placed) (f : StreamRefusal) (o : Object) → one r p ≡ Err f → IsMadeAt r p.command o → IsBrought (blobs_read p.command) r.commits o
  refused-one r p f o e made = by p.command e made
    where
      by : (c : Command) → one r (record { at = p.at; command = c }) ≡ Err f → IsMadeAt r c o → IsBrought (blobs_read c) r.commits o
      by (commands.Blob m b) q w = inl (b, Contains-push [] b, w)
      by (commands.Commit h) q w = absurd w
      by (commands.Change c) q w = inl w
      by commands.CommitEnd q w = absurd (none-ended r p.at f o r.draft (sym (ends r p.at) ∙ q) w)
      by (commands.Reset name target) q w = absurd w
      by (commands.Tag h) q w = absurd w
      by commands.Done q w = absurd w

  stream-brought : (end : Option StreamRefusal) (ps : List Placed) (o : Object) → IsMadeBy base nothing_yet (ran_by one end nothing_yet ps).tried o
      → IsBrought (flat_map (λ p. blobs_read p.command) (ran_by one end nothing_yet ps).tried) (ran_by one end nothing_yet ps).state.commits o
  stream-brought end ps o made = run-brought base one done refused-one end ps nothing_yet o made

-- ---- trees in hand

-- its leaves and the components of its paths
pub record IsTreeIn (k : Hand) (t : Flat) : Type 0 where
  pub leaves : (x : Leaf) → IsLeafOf t x → Contains (all_leaves k) x
  pub components : (b : Bytes) → IsComponentOf t b → Contains (all_components k) b

pub commit-tree-in : (k : Hand) (c : Snapshot) → Contains k.commits c → IsTreeIn k c.tree
commit-tree-in k c m = record { leaves = leaf-in-hand k c m; components = component-in-hand k c m }

pub head-tree-in : (k : Hand) (g : Graph) (n : Bytes) → ((c : Snapshot) → Contains g c → Contains k.commits c) → IsTreeIn k (tree_at g n)
head-tree-in k [] n f = record { leaves = λ x m. absurd (none-in x m); components = λ b m. absurd (none-in b m) }
head-tree-in k (c ∷ g) n f = by (has_name n c) (head-tree-in k g n (λ d m. f d (there c g d m)))
  where
    by : (b : Bool) → IsTreeIn k (tree_at g n) → IsTreeIn k (option_map_or (λ (d : Snapshot). d.tree) (cond b (Some c) (commit_at g n)) [])
    by true later = commit-tree-in k c (f c (here c g))
    by false later = later

-- ---- what is laid

module _ (k : Hand) where
  laid-in : (f : Filter) (t n : Flat) (o : Object) → IsTreeIn k t → IsTreeIn k n → ((b : Bytes) → Contains (parts_in f) b → Contains (all_components k) b) → IsLaidMade f t n o → IsInHand k o
  laid-in f t n o a b parts w = TreeMade (made_as (IsLeafOfTwo t n) (Contains (all_leaves k)) (IsComponentOfTwo f t n) (Contains (all_components k)) leaf component o w)
    where
      leaf : (x : Leaf) → IsLeafOfTwo t n x → Contains (all_leaves k) x
      leaf x (inl m) = a.leaves x m
      leaf x (inr m) = b.leaves x m

      component : (c : Bytes) → IsComponentOfTwo f t n c → Contains (all_components k) c
      component c (inl m) = a.components c m
      component c (inr (inl m)) = b.components c m
      component c (inr (inr m)) = parts c (named-part f c m)

  abbrev Made : List Snapshot → Type 0
  Made os = (c : Snapshot) → Contains os c → Contains k.commits c

  abbrev Parts : List Bytes → Type 0
  Parts bs = (b : Bytes) → Contains bs b → Contains (all_components k) b

  -- the original, or what comes behind it
  upon-in : (h : Bytes) (c : Snapshot) (o : Object) (later : Flat → Type 0) (originals : Flat → List Snapshot) (parts : Flat → List Bytes)
      → ((u : Flat) → Contains k.commits (original_of h c u) → Made (originals u) → Parts (parts u) → later u → IsInHand k o)
      → (x : Result Flat Refusal) → Made (made_upon h c x originals) → Parts (parts_upon x parts) → IsMadeUpon h c x later o → IsInHand k o
  upon-in h c o later originals parts next (Err e) made ps w = absurd w
  upon-in h c o later originals parts next (Ok u) made ps (inl e) = CommitMade (original_of h c u) (made (original_of h c u) (here (original_of h c u) (originals u))) e
  upon-in h c o later originals parts next (Ok u) made ps (inr w) =
      next u (made (original_of h c u) (here (original_of h c u) (originals u))) (λ d m. made d (there (original_of h c u) (originals u) d m)) ps w

  made-for-in : (f : Filter) (h : Bytes) (t seen : Flat) (cs : List Snapshot) (o : Object) → IsTreeIn k t → Made cs → Made (made_from f h t seen cs) → Parts (laid_parts f t seen cs)
      → IsMadeFor f h t seen cs o → IsInHand k o
  made-for-in f h t seen [] o a pushed made parts w = absurd w
  made-for-in f h t seen (c ∷ cs) o a pushed made parts (inl w) =
      laid-in (next f t c.tree) t c.tree o a (commit-tree-in k c (pushed c (here c cs)))
      (λ b m. parts b (Contains-append_left (parts_in (next f t c.tree)) (parts_upon (original_tree f t seen c.tree) (λ u. laid_parts f u c.tree cs)) b m)) w
  made-for-in f h t seen (c ∷ cs) o a pushed made parts (inr w) =
      upon-in h c o (λ u. IsMadeFor f (snapshot_name (original_of h c u)) u c.tree cs o) (λ u. made_from f (snapshot_name (original_of h c u)) u c.tree cs) (λ u. laid_parts f u c.tree cs)
      (λ u there_is made' parts' v.
      made-for-in f (snapshot_name (original_of h c u)) u c.tree cs o (commit-tree-in k (original_of h c u) there_is) (λ d m. pushed d (there c cs d m)) made' parts' v)
      (original_tree f t seen c.tree) made
      (λ b m. parts b (Contains-append_right (parts_in (next f t c.tree)) (parts_upon (original_tree f t seen c.tree) (λ u. laid_parts f u c.tree cs)) b m)) w

  -- the same where commits may merge
  behind-in : (o : Object) (later : Snapshot → Type 0) (originals : Snapshot → List Snapshot) (parts : Snapshot → List Bytes)
      → ((u : Snapshot) → Contains k.commits u → Made (originals u) → Parts (parts u) → later u → IsInHand k o)
      → (x : Result Snapshot Refusal) → Made (merges.made_upon x originals) → Parts (parts_behind x parts) → merged.IsMadeUpon x later o → IsInHand k o
  behind-in o later originals parts next (Err e) made ps w = absurd w
  behind-in o later originals parts next (Ok u) made ps (inl e) = CommitMade u (made u (here u (originals u))) e
  behind-in o later originals parts next (Ok u) made ps (inr w) = next u (made u (here u (originals u))) (λ d m. made d (there u (originals u) d m)) ps w

  merged-in : (r : Rule) (f : Filter) (s : Progress) (cs : List Snapshot) (o : Object) → IsTreeIn k s.tree → Made cs → Made (merges.made_from r f s cs) → Parts (merged_parts r f s cs)
      → merged.IsMadeFor r f s cs o → IsInHand k o
  merged-in r f s [] o a pushed made parts w = absurd w
  merged-in r f s (c ∷ cs) o a pushed made parts (inl w) =
      laid-in (next f s.tree c.tree) s.tree c.tree o a (commit-tree-in k c (pushed c (here c cs)))
      (λ b m. parts b (Contains-append_left (parts_in (next f s.tree c.tree)) (parts_behind (original r f s c) (λ u. merged_parts r f (after s c u) cs)) b m)) w
  merged-in r f s (c ∷ cs) o a pushed made parts (inr w) =
      behind-in o (λ u. merged.IsMadeFor r f (after s c u) cs o) (λ u. merges.made_from r f (after s c u) cs) (λ u. merged_parts r f (after s c u) cs)
      (λ u there_is made' parts' v. merged-in r f (after s c u) cs o (commit-tree-in k u there_is) (λ d m. pushed d (there c cs d m)) made' parts' v)
      (original r f s c) made
      (λ b m. parts b (Contains-append_right (parts_in (next f s.tree c.tree)) (parts_behind (original r f s c) (λ u. merged_parts r f (after s c u) cs)) b m)) w

  -- ---- what is shown

  pub shown-in-hand : (g : Filter) (t : Flat) (o : Object) → IsTreeIn k t → Parts (parts_in g) → shows.IsShownObject g t o → IsInHand k o
  shown-in-hand g t o a parts w = TreeMade (made_as (IsLeafOf t) (Contains (all_leaves k)) (shows.IsNamedIn g t) (Contains (all_components k)) a.leaves component o w)
    where
      component : (c : Bytes) → shows.IsNamedIn g t c → Contains (all_components k) c
      component c (inl m) = a.components c m
      component c (inr m) = parts c m

-- ---- a push

module _ (m : Manner) (h : Held) (f : Filter) (refname n all : Bytes) where
  abbrev G : Graph
  G = (repo h).commits

  abbrev pub push_here : Pushing
  push_here = pushed_upon m h f n refname all

  abbrev pub push_hand : Hand
  push_hand = hand (PushCase m Both h f refname n push_here)

  abbrev owned : List Snapshot
  owned = own_for m h f n

  abbrev streamed : List Snapshot
  streamed = push_here.stream.state.commits

  abbrev before : List Snapshot
  before = G ++ push_here.originals ++ owned

  held-in : (c : Snapshot) → Contains G c → Contains push_hand.commits c
  held-in c q = Contains-append_left before streamed c (Contains-append_left (G ++ push_here.originals) owned c (Contains-append_left G push_here.originals c q))

  original-in : (c : Snapshot) → Contains push_here.originals c → Contains push_hand.commits c
  original-in c q = Contains-append_left before streamed c (Contains-append_left (G ++ push_here.originals) owned c (Contains-append_right G push_here.originals c q))

  own-in : (c : Snapshot) → Contains owned c → Contains push_hand.commits c
  own-in c q = Contains-append_left before streamed c (Contains-append_right (G ++ push_here.originals) owned c q)

  streamed-in : (c : Snapshot) → Contains streamed c → Contains push_hand.commits c
  streamed-in c q = Contains-append_right before streamed c q

  abbrev given : List Bytes
  given = flat_map (λ p. command_components p.command) push_here.stream.tried

  abbrev laid : List Bytes
  laid = parts_pushed m h f n streamed

  components_of : Snapshot → List Bytes
  components_of c = flat_map (λ e. e.0) c.tree

  parts_for : Snapshot → List Bytes
  parts_for c = parts_in (resolve f c.tree)

  named-in : (b : Bytes) → Contains push_hand.components b → Contains (all_components push_hand) b
  unfolding components_of
  named-in b q = Contains-append_left push_hand.components (flat_map components_of push_hand.commits) b q

  laid-part : (b : Bytes) → Contains laid b → Contains (all_components push_hand) b
  laid-part b q = named-in b (Contains-append_right given (components_for f G ++ laid) b (Contains-append_right (components_for f G) laid b q))

  resolved-part : (c : Snapshot) → Contains G c → (b : Bytes) → Contains (parts_in (resolve f c.tree)) b → Contains (all_components push_hand) b
  unfolding parts_for
  resolved-part c there_is b q =
      named-in b
      (Contains-append_right given (components_for f G ++ laid) b
      (Contains-append_left (components_for f G) laid b (Contains-append_right (parts_in f) (flat_map parts_for G) b (in-flat_map parts_for G c b there_is q))))

  commit-in : (c : Snapshot) (o : Object) → Contains push_hand.commits c → snapshot_object c ≡ o → IsInHand push_hand o
  commit-in c o q e = CommitMade c q (sym e)

  from-history : (c : Snapshot) → Contains (history_graph (rule_by h.rule) (shown f) G n) c → Contains (own h.rule f G n) c
  from-history c q = ⊎_elim (λ x. absurd (none-in c x)) (λ x. x) (added-in (own h.rule f G n) [] c q)

  shown-over : (o : Object) → IsShownOf f G o → IsInHand push_hand o
  shown-over o q = shown-in-hand push_hand (resolve f q.0.tree) q.0.tree o (commit-tree-in push_hand q.0 (held-in q.0 q.1)) (resolved-part q.0 q.1) q.2

  -- What projecting the commit makes is in hand, where the commits of their own are that it and its ancestors become.
  pub seen-in : ((c : Snapshot) → Contains (own h.rule f G n) c → Contains (own_for m h f n) c) → (o : Object) → IsSeenOver f n (rule_by h.rule) G o → IsInHand push_hand o
  seen-in owns o (inl (inl q)) = shown-over o q
  seen-in owns o (inl (inr q)) = commit-in q.0 o (own-in q.0 (owns q.0 (from-history q.0 q.1))) q.2
  seen-in owns o (inr q) = commit-in q.0 o (own-in q.0 (owns q.0 q.1)) q.2

module _ (h : Held) (f : Filter) (refname n all : Bytes) where
  -- the projection of the head
  abbrev from : Option Bytes
  from = option_map (λ s. s.commit) (projection (rule_by h.rule) (shown f) (repo h).commits n)

  abbrev seen : Flat
  seen = shown f (tree_at (repo h).commits n)

  in-line : Each (λ c. IsTree c.tree) (push_here InLine h f refname n all).stream.state.commits → (o : Object) → IsMadeOver InLine f refname n all (rule_by h.rule) (repo h).commits o
      → IsInHand (push_hand InLine h f refname n all) o
  in-line trees o (inl q) = seen-in InLine h f refname n all (λ c x. x) o q
  in-line trees o (inr (inl q)) =
      let k : Hand = push_hand InLine h f refname n all in
      let base : Base = push_base refname from seen in
      brought-in-hand k k.blobs (push_here InLine h f refname n all).stream.state.commits o (λ b x. x) (streamed-in InLine h f refname n all) trees
      (stream-brought base (push_step base refname from) (λ r s p e. goes-on refname from seen r s p e) (λ r at. refl) (option_map Faulty (verdict start all).fault) (verdict start all).commands o q)
  in-line trees o (inr (inr q)) =
      let k : Hand = push_hand InLine h f refname n all in
      made-for-in k f n (tree_at (repo h).commits n) seen (push_here InLine h f refname n all).stream.state.commits o (head-tree-in k (repo h).commits n (held-in InLine h f refname n all))
      (streamed-in InLine h f refname n all) (original-in InLine h f refname n all) (laid-part InLine h f refname n all) q

  -- the projections of all commits
  abbrev projected : List (Bytes × Flat)
  projected = shown_trees f (repo h).commits (projections (rule_by h.rule) (shown f) [] (repo h).commits)

  all-seen : (o : Object) → AreSeenOver f (rule_by h.rule) (repo h).commits o → IsInHand (push_hand Merging h f refname n all) o
  all-seen o (inl q) = shown-over Merging h f refname n all o q
  all-seen o (inr q) = commit-in Merging h f refname n all q.0 o (own-in Merging h f refname n all q.0 q.1) q.2

  merging : has (repo h).commits n ≡ true → Each (λ c. IsTree c.tree) (push_here Merging h f refname n all).stream.state.commits → (o : Object)
      → IsMadeOver Merging f refname n all (rule_by h.rule) (repo h).commits o → IsInHand (push_hand Merging h f refname n all) o
  merging placed trees o (inl (inl q)) = seen-in Merging h f refname n all (own-of-all (rule_by h.rule) (shown f) (repo h).commits n placed) o q
  merging placed trees o (inl (inr q)) = all-seen o q
  merging placed trees o (inr (inl q)) =
      let k : Hand = push_hand Merging h f refname n all in
      let base : Base = merge_base refname from seen projected in
      brought-in-hand k k.blobs (push_here Merging h f refname n all).stream.state.commits o (λ b x. x) (streamed-in Merging h f refname n all) trees
      (stream-brought base (merge_step base refname from) (λ r s p e. goes-on-law refname from seen projected r s p e) (λ r at. refl) (option_map Faulty (verdict start all).fault) (verdict start all).commands o q)
  merging placed trees o (inr (inr q)) =
      let k : Hand = push_hand Merging h f refname n all in
      merged-in k (rule_by h.rule) f (begun (rule_by h.rule) f (repo h).commits n) (push_here Merging h f refname n all).stream.state.commits o
      (head-tree-in k (repo h).commits n (held-in Merging h f refname n all)) (streamed-in Merging h f refname n all) (original-in Merging h f refname n all) (laid-part Merging h f refname n all) q

  -- what is made is in hand, where the trees of the pushed commits are such
  pub made-in-hand : (m : Manner) → has (repo h).commits n ≡ true → Each (λ c. IsTree c.tree) (push_here m h f refname n all).stream.state.commits → (o : Object)
      → IsMadeOver m f refname n all (rule_by h.rule) (repo h).commits o → IsInHands (push_hand m h f refname n all ∷ []) o
  made-in-hand InLine placed trees o w = in-hands (push_hand InLine h f refname n all) o (in-line trees o w)
  made-in-hand Merging placed trees o w = in-hands (push_hand Merging h f refname n all) o (merging placed trees o w)

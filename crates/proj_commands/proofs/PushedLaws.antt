-- What a push that is committed has done.
use Rattle.std.proofs.Common.{◌≡◌, ◌+◌, ◌≤◌, ℕ, zero, suc, Bool, true, false, cond, ◌||◌, List, [], ◌∷◌, ◌++◌, map, length, Option, None, Some, Result, Ok, Err, refl, sym, ap, ap₂, subst, ◌∙◌, true≢false, arith}
use Rattle.std.specs.Prelude.{unwrap_or}
use Rattle.std.specs.Cmp.Lexicographic.{bytes_decides, texts_ties}
use Rattle.std.specs.FinMap.{find}
use Rattle.std.specs.List.{last_or, list_all}
use Rattle.std.specs.Option.{option_and_then, option_map, option_map_or, option_or}
use Rattle.std.specs.Ordering.{is_eq}
use Rattle.std.proofs.lemmas.Option.{none-some}
use Rattle.git_objects.specs.Lists.{Each}
use Rattle.git_objects.specs.Paths.{Bytes, Path, is_bytes, same_bytes}
use Rattle.git_objects.specs.Refs.{Refs, bytes_cmp}
use Rattle.git_objects.specs.Snapshots.{Graph, Snapshot, add, add_all, commit_at, has, has_name, is_graph, snapshot_name, tree_at}
use Rattle.git_objects.specs.Trees.{Flat, IsTree, at}
use Rattle.git_objects.proofs.Basics.{same_bytes-back, same_bytes-self}
use Rattle.object_store.specs.Objects.{IsStore, Object}
use Rattle.filter_text.specs.Filters.{Filter}
use Rattle.workspace.specs.Laws.{IsUsable}
use Rattle.workspace.specs.Workspaces.{place, shown}
use Rattle.commit_graph.specs.Graphs.{Row}
use Rattle.commit_map.specs.declared.rule.Rule.{Rule}
use Rattle.projection_laws.specs.Projections.{projection, projections, shown_of}
use Rattle.projection_laws.specs.StoredGraphs.{IsGraphIn, graph_of, snapshot_named}
use Rattle.projection_laws.proofs.GraphLemmas.{has-newer, has-self}
use Rattle.projection_laws.proofs.StoredGraphs.{at-row, older, older-all, older-suc, row-at}
use Rattle.push_laws.specs.PushLaws.{Agrees, AreFound, AreTrees, EachStep, IsChain, IsStep, Returns, commit_of, last_of, originals}
use Rattle.push_laws.specs.PushReplays.{StreamRefusal}
use Rattle.push_laws.specs.PushVerdicts.{Pair, Refusal, Verdict, original_of, original_tree, upon, verdict, verdict_from, with_pair}
use Rattle.push_laws.specs.Pushes.{Pushing, StreamRefused, CommitRefused, refusal_of}
use Rattle.push_laws.proofs.Chains.{chain-law}
use Rattle.push_laws.proofs.Pushing.{back-law, elsewhere-law, made-law, projected-law, pushed-law, steps-law}
use Rattle.push_laws.specs.Given.{AreBrought, IsGiven, IsGivenCommit, blobs_in}
use Rattle.push_laws.proofs.BroughtOriginals.{brought-law}
use Rattle.push_laws.proofs.GivenStreams.{given-law}
use Rattle.merge_laws.specs.MergeLaws.{AreTied}
use Rattle.merge_laws.specs.MergeVerdicts.{merge_verdict}
use Rattle.merge_laws.specs.Merges.{shown_trees}
use Rattle.merge_laws.proofs.Bringing as merge_bringing
use Rattle.merge_laws.proofs.Joining.{pushed-joined-law}
use Rattle.merge_laws.proofs.Merging as merge_laws
use Rattle.state_items.specs.Changes.{held_after, with_refs}
use Rattle.state_items.specs.Imported.{IsBrought, has_leaves}
use Rattle.state_items.specs.Items.{Held}
use Rattle.state_items.specs.Repos.{repo}
use Rattle.state_items.proofs.Imports.{imported-law}
use Rattle.state_items.proofs.ReadObjects.{ok-same}
use Rattle.import_laws.proofs.EditLeaves.{held-trees}
use Rattle.proj_commands.specs.Push.{push_plan, pushed_by, AreParents, ArePairs, GiveBack, IsPushed}
use Rattle.proj_commands.specs.Filters.{projected, rule_by}
use Rattle.proj_commands.specs.declared.pushing.Manner.{Manner}
use Rattle.proj_commands.specs.declared.pushing.Manner.TheVariants.{InLine, Merging}
use Rattle.repo_ground.proofs.CommitGraphs.{stored-graph}
use Rattle.proj_commands.proofs.Staying.{with-added}

-- ---- an accepted push

pub record IsAccepted (o : Option StreamRefusal) (v : Verdict) : Type 0 where
  pub whole : o ≡ None
  pub pairs : List Pair
  pub verdict_is : v ≡ Ok pairs

pub accepted : (o : Option StreamRefusal) (v : Verdict) → option_or (option_map StreamRefused o) (refusal_of v) ≡ None → IsAccepted o v
accepted None (Ok ps) e = record { whole = refl; pairs = ps; verdict_is = refl }
accepted None (Err x) e = absurd (none-some (CommitRefused x.0 x.1) (sym e))
accepted (Some y) v e = absurd (none-some (StreamRefused y) (sym e))

-- a pair whose original stands upon a commit, with the pushed commit's letter
record IsLine (m : Manner) (before : Bytes) (p : Pair) : Type 0 where
  parents : AreParents m before p.original.parents
  letter : p.original.letter ≡ p.pushed.letter

abbrev AreLines : Manner → Bytes → List Pair → Type 0
AreLines m b [] = Unit {0}
AreLines m b (p ∷ ps) = IsLine m b p × AreLines m (snapshot_name p.original) ps

-- ---- pairs in line

abbrev pair_of : Bytes → Snapshot → Flat → Pair
pair_of h c u = record { pushed = c; original = original_of h c u }

line-first : (h : Bytes) (c : Snapshot) (u : Flat) (ps : List Pair) (v : Verdict) → ((qs : List Pair) → v ≡ Ok qs → AreLines InLine (snapshot_name (original_of h c u)) qs)
    → with_pair (pair_of h c u) v ≡ Ok ps → AreLines InLine h ps
line-first h c u ps (Ok qs) later e = subst (AreLines InLine h) (ok-same (pair_of h c u ∷ qs) ps e) (record { parents = refl; letter = refl }, later qs refl)
line-first h c u ps (Err x) later e = let no : Err x ≡ Ok ps = e in cc

line-one : (k : ℕ) (h : Bytes) (c : Snapshot) (ps : List Pair) (next : Flat → Verdict) (r : Result Flat Refusal) → ((u : Flat) (qs : List Pair) → next u ≡ Ok qs → AreLines InLine (snapshot_name (original_of h c u)) qs)
    → upon k r (λ u. with_pair (pair_of h c u) (next u)) ≡ Ok ps → AreLines InLine h ps
line-one k h c ps next (Ok u) later e = line-first h c u ps (next u) (later u) e
line-one k h c ps next (Err x) later e = let v : Verdict = Err (k, x) in let no : v ≡ Ok ps = e in cc

lines-of : (f : Filter) (cs : List Snapshot) (k : ℕ) (h : Bytes) (t seen : Flat) (ps : List Pair) → verdict_from f k h t seen cs ≡ Ok ps → AreLines InLine h ps
lines-of f [] k h t seen ps e = subst (AreLines InLine h) (ok-same [] ps e) tt
lines-of f (c ∷ cs) k h t seen ps e =
    line-one k h c ps (λ u. verdict_from f (k + 1) (snapshot_name (original_of h c u)) u c.tree cs) (original_tree f t seen c.tree)
    (λ u qs q. lines-of f cs (k + 1) (snapshot_name (original_of h c u)) u c.tree qs q) e

in-line : (h : Bytes) (ps : List Pair) → AreLines InLine h ps → IsChain (Some h) (originals ps)
in-line h [] w = tt
in-line h (p ∷ ps) w = (w.0.parents, in-line (snapshot_name p.original) ps w.1)

-- ---- pairs that may merge

tied-lines : (b : Bytes) (ps : List Pair) → AreTied b ps → AreLines Merging b ps
tied-lines b [] w = tt
tied-lines b (p ∷ ps) w = (record { parents = (w.0.others, w.0.parents); letter = w.0.letter }, tied-lines (snapshot_name p.original) ps w.1)

-- ---- there and back

same-file : (t u : Flat) (o : Option Path) → ((p : Path) → o ≡ Some p → at u p ≡ at t p) → option_and_then (at u) o ≡ option_and_then (at t) o
same-file t u None w = refl
same-file t u (Some p) w = w p refl

back-from : (f : Filter) (t : Flat) (ps : List Pair) → Returns f t ps → GiveBack f t (map (λ p. p.pushed) ps) (originals ps)
back-from f t [] r = tt
back-from f t (p ∷ ps) r = λ same.
    let x = r (same-file t p.original.tree (place f) same) in
    (x.0, back-from f t ps x.1)

-- ---- the last of them

last-some : (o : Snapshot) (os : List Snapshot) (m : Option Bytes) → unwrap_or (option_or (option_map snapshot_name (last_or (Some o) os)) m) [] ≡ last_of (snapshot_name o) os
last-some o [] m = refl
last-some o (p ∷ os) m = last-some p os m

last-name : (n : Bytes) (os : List Snapshot) → unwrap_or (option_or (option_map snapshot_name (last_or None os)) (Some n)) [] ≡ last_of n os
last-name n [] = refl
last-name n (o ∷ os) = last-some o os (Some n)

last-there : (o : Snapshot) (os : List Snapshot) → last_or (Some o) os ≡ None → ⊥
last-there o [] e = none-some o (sym e)
last-there o (p ∷ os) e = last-there p os e

-- none is last where there is none
none-last : (os : List Snapshot) → last_or None os ≡ None → os ≡ []
none-last [] e = refl
none-last (o ∷ os) e = absurd (last-there o os e)

-- ---- commits by their names

has-kept : (os : List Snapshot) (g : Graph) (n : Bytes) → has g n ≡ true → has (add_all g os) n ≡ true
has-kept [] g n e = e
has-kept (o ∷ os) g n e = has-kept os (add g o) n (by (has g (snapshot_name o)))
  where
    by : (b : Bool) → has (cond b g (o ∷ g)) n ≡ true
    by true = e
    by false = has-newer o g n e

pub has-added : (os : List Snapshot) (g : Graph) → Each (λ o. has (add_all g os) (snapshot_name o) ≡ true) os
has-added [] g = tt
has-added (o ∷ os) g = (has-kept os (add g o) (snapshot_name o) (by (has g (snapshot_name o)) refl), has-added os (add g o))
  where
    by : (b : Bool) → has g (snapshot_name o) ≡ b → has (cond b g (o ∷ g)) (snapshot_name o) ≡ true
    by true e = e
    by false e = has-self o g

each-added : (P : Snapshot → Type 0) (os : List Snapshot) (g : Graph) → Each P g → Each P os → Each P (add_all g os)
each-added P [] g a b = a
each-added P (o ∷ os) g a b = each-added P os (add g o) (by (has g (snapshot_name o))) b.1
  where
    by : (x : Bool) → Each P (cond x g (o ∷ g))
    by true = a
    by false = (b.0, a)

-- that the store has a commit under its own name
abbrev pub IsNamedIn : List Object → Snapshot → Type 0
IsNamedIn S c = snapshot_named S (snapshot_name c) ≡ Some c

module _ (S : List Object) where
  found-one : (g : Graph) (o : Snapshot) → Each (IsNamedIn S) g → IsNamedIn S o → has g (snapshot_name o) ≡ true → commit_at g (snapshot_name o) ≡ Some o
  found-one [] o w k e = absurd (true≢false (sym e))
  found-one (c ∷ g) o w k e = by (λ f. found-one g o w.1 k f) (has_name (snapshot_name o) c) refl e
    where
      by : (has g (snapshot_name o) ≡ true → commit_at g (snapshot_name o) ≡ Some o) → (b : Bool) → has_name (snapshot_name o) c ≡ b → (b || has g (snapshot_name o)) ≡ true → cond b (Some c) (commit_at g (snapshot_name o)) ≡ Some o
      by later true q f = sym w.0 ∙ ap (snapshot_named S) (sym ((bytes_decides (snapshot_name o) (snapshot_name c)).0 q)) ∙ k
      by later false q f = later f

  found-each : (g : Graph) (os : List Snapshot) → Each (IsNamedIn S) g → Each (IsNamedIn S) os → Each (λ o. has g (snapshot_name o) ≡ true) os → AreFound g os
  found-each g [] w a b = tt
  found-each g (o ∷ os) w a b = (found-one g o w a.0 b.0, found-each g os w a.1 b.1)

  pub are-found : (g : Graph) (os : List Snapshot) → Each (IsNamedIn S) g → Each (IsNamedIn S) os → AreFound (add_all g os) os
  are-found g os w a = found-each (add_all g os) os (each-added (IsNamedIn S) os g w a) a (has-added os g)

  none-named : Each (IsNamedIn S) (graph_of S [])
  unfolding graph_of
  none-named = tt

  -- the commits of rows are there
  older-named : (rows : List Row) (w : IsGraphIn S rows) (k : ℕ) → k ≤ length rows → Each (IsNamedIn S) (older S rows w k)
  older-named rows w zero le = none-named
  older-named rows w (suc k) le =
      let r = row-at S rows w k (omega (arith, le)) in
      let c = at-row S rows w k r.0 r.1 in
      subst (Each (IsNamedIn S)) (sym (older-suc S rows w k r.0 c.0 r.1 c.1)) (ap (snapshot_named S) c.1.name ∙ c.1.found, older-named rows w k (omega (arith, le)))

  pub graph-named : (rows : List Row) → IsGraphIn S rows → Each (IsNamedIn S) (graph_of S rows)
  graph-named rows w = subst (Each (IsNamedIn S)) (older-all S rows w) (older-named rows w (length rows) (omega arith))

-- ---- a push

each-tree : (cs : List Snapshot) (P : Flat → Type 0) → Each (λ c. IsTree c.tree × P c.tree) cs → AreTrees cs
each-tree [] P w = tt
each-tree (c ∷ cs) P w = (w.0.0, each-tree cs P w.1)

pub held-are-trees : (h : Held) → IsStore h.objects → AreTrees (repo h).commits
held-are-trees h s = each-tree (repo h).commits (λ t. has_leaves (repo h).blobs t ≡ true) (held-trees h.objects s)

-- the tree of a head, and its blobs are known
head-good : (blobs : List Bytes) (g : Graph) (n : Bytes) → Each (λ c. IsTree c.tree × (has_leaves blobs c.tree ≡ true)) g → IsTree (tree_at g n) × (has_leaves blobs (tree_at g n) ≡ true)
head-good blobs [] n w = (record { sorted = tt; paths = tt; leaves = tt; apart = tt }, refl)
head-good blobs (c ∷ g) n w = by (head-good blobs g n w.1) (has_name n c)
  where
    by : IsTree (tree_at g n) × (has_leaves blobs (tree_at g n) ≡ true) → (b : Bool) → IsTree (option_map_or (λ (d : Snapshot). d.tree) (cond b (Some c) (commit_at g n)) []) × (has_leaves blobs (option_map_or (λ (d : Snapshot). d.tree) (cond b (Some c) (commit_at g n)) []) ≡ true)
    by later true = w.0
    by later false = later

pub head-tree : (h : Held) (n : Bytes) → IsStore h.objects → IsTree (tree_at (repo h).commits n) × (has_leaves (repo h).blobs (tree_at (repo h).commits n) ≡ true)
head-tree h n s = head-good (repo h).blobs (repo h).commits n (held-trees h.objects s)

tied : (q k : Bytes) → q ≡ k → is_eq (bytes_cmp q k) ≡ true
tied q k e = sym (texts_ties q k) ∙ same_bytes-back q k ∙ ap (λ (x : Bytes). same_bytes k x) e ∙ same_bytes-self k

-- the verdict on pushed commits, by their manner
abbrev pub verdict_by : Manner → Rule → Filter → Graph → Bytes → List Snapshot → Verdict
verdict_by InLine k f g h cs = verdict f g h cs
verdict_by Merging k f g h cs = merge_verdict k f g h cs

-- ---- what holds of a push by its manner

module _ (k : Rule) (f : Filter) (G : Graph) (refname n all : Bytes) where
  abbrev by : Manner → Pushing
  by m = pushed_by m k f G n refname all

  -- the commits of its stream
  abbrev cs : Manner → List Snapshot
  cs m = (by m).stream.state.commits

  abbrev from : Option Bytes
  from = commit_of (projection k (shown f) G n)

  abbrev seen : Flat
  seen = shown f (tree_at G n)

  taken : (m : Manner) → (by m).refusal ≡ None → IsAccepted (by m).stream.fault (verdict_by m k f G n (cs m))
  taken InLine e = accepted (by InLine).stream.fault (verdict f G n (cs InLine)) e
  taken Merging e = accepted (by Merging).stream.fault (merge_verdict k f G n (cs Merging)) e

  -- what its stream gives
  pub given-by : (m : Manner) → IsTree seen → list_all is_bytes (blobs_in seen) ≡ true → is_bytes all ≡ true → IsGiven (blobs_in seen) (by m).stream.state
  given-by InLine t b e = given-law refname from seen all t b e
  given-by Merging t b e = merge_bringing.given-law refname from seen (shown_trees f G (projections k (shown f) [] G)) all t b e

  module _ (ps : List Pair) where
    abbrev IsVerdict : Manner → Type 0
    IsVerdict m = verdict_by m k f G n (cs m) ≡ Ok ps

    made-by : (m : Manner) → IsVerdict m → (by m).originals ≡ originals ps
    made-by InLine e = made-law f G n refname from (by InLine).stream ps e
    made-by Merging e = merge_laws.made-law k f G n (cs Merging) ps e

    pushed-for : (m : Manner) → IsVerdict m → map (λ p. p.pushed) ps ≡ cs m
    pushed-for InLine e = pushed-law f G n (cs InLine) ps e
    pushed-for Merging e = merge_laws.pushed-law k f G n (cs Merging) ps e

    lines-by : (m : Manner) → IsVerdict m → AreLines m n ps
    lines-by InLine e = lines-of f (cs InLine) 1 n (tree_at G n) seen ps e
    lines-by Merging e = tied-lines n ps (merge_laws.tied-law k f G n (cs Merging) ps e)

    steps-by : (m : Manner) → IsVerdict m → IsUsable f → AreTrees G → AreTrees (cs m) → EachStep (λ t p. IsStep f t p.pushed.tree p.original.tree) (tree_at G n) ps
    steps-by InLine e u t w = steps-law f G n (cs InLine) ps u t w e
    steps-by Merging e u t w = merge_laws.steps-law k f G n (cs Merging) ps u t w e

    -- its originals may be brought
    brought-for : (m : Manner) → IsVerdict m → (known : List Bytes) → IsUsable f → is_graph G ≡ true → AreTrees G → has G n ≡ true → has_leaves known (tree_at G n) ≡ true
        → Each (IsGivenCommit ((by m).stream.state.blobs ++ blobs_in seen)) (cs m) → AreBrought G ((by m).stream.state.blobs ++ known) (originals ps)
    brought-for InLine e known u g t h b w = brought-law f G n (by InLine).stream.state.blobs known (cs InLine) ps u t h b w e
    brought-for Merging e known u g t h b w = merge_bringing.brought-law k f G n (by Merging).stream.state.blobs known (cs Merging) ps u g t h b w e

    -- where the graph is one of trees, and has the originals by their names
    module _ (u : IsUsable f) (g : is_graph G ≡ true) (t : AreTrees G) (h : has G n ≡ true) (found : AreFound (add_all G (originals ps)) (originals ps)) where
      projected-by : (m : Manner) → IsVerdict m → AreTrees (cs m) → Each (λ p. projection k (shown f) (add_all G (originals ps)) (snapshot_name p.original) ≡ Some (shown_of p.pushed)) ps
      projected-by InLine e w = projected-law k f G n (cs InLine) ps (record {
        usable = u;
        graph = g;
        trees = t;
        head = h;
        pushed = w;
        upon = chain-law refname from seen all;
        accepted = e;
        found = found;
      })
      projected-by Merging e w = merge_laws.merged-law k f G n (cs Merging) ps (record {
        usable = u;
        graph = g;
        trees = t;
        head = h;
        pushed = w;
        upon = pushed-joined-law k f G n refname all;
        accepted = e;
        found = found;
      })

    -- ---- of commits in line alone

    chain-by : (m : Manner) → m ≡ InLine → IsVerdict m → IsChain (Some n) (originals ps)
    chain-by InLine i e = in-line n ps (lines-by InLine e)
    chain-by Merging i e = let no : Merging ≡ InLine = i in cc

    back-by : (m : Manner) → m ≡ InLine → IsVerdict m → IsUsable f → AreTrees G → AreTrees (cs m) → GiveBack f (tree_at G n) (map (λ p. p.pushed) ps) (originals ps)
    back-by InLine i e u t w = back-from f (tree_at G n) ps (back-law f G n (cs InLine) ps u t w e)
    back-by Merging i e u t w = let no : Merging ≡ InLine = i in cc

-- ---- a push upon a state

module _ (m : Manner) (h : Held) (f : Filter) (refname n all : Bytes) where
  abbrev G : Graph
  G = (repo h).commits

  abbrev k : Rule
  k = rule_by h.rule

  abbrev x : Pushing
  x = pushed_by m k f G n refname all

  -- its originals may be brought, where it isn't refused
  pub brought-by : IsUsable f → IsStore h.objects → has G n ≡ true → x.refusal ≡ None → Each (IsGivenCommit (x.stream.state.blobs ++ blobs_in (shown f (tree_at G n)))) x.stream.state.commits
      → AreBrought G (x.stream.state.blobs ++ (repo h).blobs) x.originals
  brought-by u s placed e w =
      let v = taken k f G refname n all m e in
      subst (AreBrought G (x.stream.state.blobs ++ (repo h).blobs)) (sym (made-by k f G refname n all v.pairs m v.verdict_is))
      (brought-for k f G refname n all v.pairs m v.verdict_is (repo h).blobs u (stored-graph h.objects s) (held-are-trees h s) placed (head-tree h n s).1 w)

  -- a push that isn't refused, whose originals and the commits before are those of a store by their names
  pub record IsTaken (S : List Object) : Type 0 where
    pub usable : IsUsable f
    pub store : IsStore h.objects
    pub at_ref : find bytes_cmp refname h.refs ≡ Some n
    pub placed : has G n ≡ true
    pub named : Each (IsNamedIn S) G
    pub trees : AreTrees x.stream.state.commits
    pub accepted : x.refusal ≡ None
    pub own : Each (IsNamedIn S) x.originals

  -- the state after it has its originals too, and the ref at the last of them
  record IsAfter (g : Held) : Type 0 where
    rule : g.rule ≡ h.rule
    commits : (repo g).commits ≡ add_all G x.originals
    head : find bytes_cmp refname g.refs ≡ option_or (option_map snapshot_name (last_or None x.originals)) (Some n)

  module _ (S : List Object) (w : IsTaken S) where
    given : IsAccepted x.stream.fault (verdict_by m k f G n x.stream.state.commits)
    given = taken k f G refname n all m w.accepted

    ps : List Pair
    ps = given.pairs

    verdict-is : verdict_by m k f G n x.stream.state.commits ≡ Ok ps
    unfolding ps
    verdict-is = given.verdict_is

    graph : is_graph G ≡ true
    graph = stored-graph h.objects w.store

    graph-trees : AreTrees G
    graph-trees = held-are-trees h w.store

    made : x.originals ≡ originals ps
    made = made-by k f G refname n all ps m verdict-is

    found : AreFound (add_all G (originals ps)) (originals ps)
    found = subst (λ (os : List Snapshot). AreFound (add_all G os) os) made (are-found S G x.originals w.named w.own)

    abbrev IsProjectedIn : Graph → Pair → Type 0
    IsProjectedIn g p = projection k (shown f) g (snapshot_name p.original) ≡ Some (shown_of p.pushed)

    -- pairs one by one
    pairs-from : (g : Held) (b : Bytes) (t : Flat) (qs : List Pair) → AreLines m b qs → EachStep (λ t p. IsStep f t p.pushed.tree p.original.tree) t qs
        → Each (λ p. projected g f (snapshot_name p.original) ≡ Some (shown_of p.pushed)) qs → ArePairs m g f b t (map (λ p. p.pushed) qs) (map (λ p. p.original) qs)
    pairs-from g b t [] l s p = tt
    pairs-from g b t (q ∷ qs) l s p =
        (record { parents = l.0.parents; letter = l.0.letter; step = s.0; projected = p.0 }, pairs-from g (snapshot_name q.original) q.original.tree qs l.1 s.1 p.1)

    module _ (g : Held) (a : IsAfter g) where
      -- what is projected then is projected over the commits before and the originals
      projected-over : (q : Filter) (m : Bytes) → projected g q m ≡ projection k (shown q) (add_all G (originals ps)) m
      projected-over q m = ap₂ (λ (r : ℕ) (cs : Graph). projection (rule_by r) (shown q) cs m) a.rule (a.commits ∙ ap (add_all G) made)

      projected-each : (qs : List Pair) → Each (IsProjectedIn (add_all G (originals ps))) qs → Each (λ p. projected g f (snapshot_name p.original) ≡ Some (shown_of p.pushed)) qs
      projected-each [] e = tt
      projected-each (p ∷ qs) e = (projected-over f (snapshot_name p.original) ∙ e.0, projected-each qs e.1)

      pairs : ArePairs m g f n (tree_at G n) x.stream.state.commits x.originals
      pairs =
          subst (ArePairs m g f n (tree_at G n) x.stream.state.commits) (sym made)
          (subst (λ (cs : List Snapshot). ArePairs m g f n (tree_at G n) cs (originals ps)) (pushed-for k f G refname n all ps m verdict-is)
          (pairs-from g n (tree_at G n) ps (lines-by k f G refname n all ps m verdict-is) (steps-by k f G refname n all ps m verdict-is w.usable graph-trees w.trees)
          (projected-each ps (projected-by k f G refname n all ps w.usable graph graph-trees w.placed found m verdict-is w.trees))))

      back : m ≡ InLine → GiveBack f (tree_at G n) x.stream.state.commits x.originals
      back i =
          subst (GiveBack f (tree_at G n) x.stream.state.commits) (sym made)
          (subst (λ (cs : List Snapshot). GiveBack f (tree_at G n) cs (originals ps)) (pushed-for k f G refname n all ps m verdict-is)
          (back-by k f G refname n all ps m i verdict-is w.usable graph-trees w.trees))

      others : m ≡ InLine → (q : Filter) → IsUsable q → Each (λ o. Agrees q (tree_at G n) o.tree) x.originals → projected g q (unwrap_or (find bytes_cmp refname g.refs) []) ≡ projected h q n
      others i q u e =
          ap (λ (o : Option Bytes). projected g q (unwrap_or o [])) a.head
          ∙ ap (projected g q) (last-name n x.originals ∙ ap (last_of n) made)
          ∙ projected-over q (last_of n (originals ps))
          ∙ elsewhere-law k q G n (originals ps) u graph graph-trees w.placed (chain-by k f G refname n all ps m i verdict-is)
          (subst (Each (λ o. Agrees q (tree_at G n) o.tree)) made e) found

      pushed-after : IsPushed m h g f refname n x
      pushed-after = record { head = a.head; pairs = pairs; back = back; others = others }

    -- the ref's new commit is found
    new-head : (m : Bytes) (refs : Refs) → option_or (find bytes_cmp refname (with_refs [] ((refname, m) ∷ []))) (find bytes_cmp refname refs) ≡ Some m
    new-head m refs = ap (λ (b : Bool). option_or (cond b (Some m) None) (find bytes_cmp refname refs)) (tied refname refname refl)

    after : (o : Option Snapshot) → last_or None x.originals ≡ o → IsBrought h x.stream.state.blobs x.originals → IsAfter (held_after h (push_plan h refname x o))
    after None e b =
        let none = none-last x.originals e in
        record { rule = refl; commits = ap (add_all G) (sym none); head = w.at_ref ∙ sym (ap (λ (o : Option Snapshot). option_or (option_map snapshot_name o) (Some n)) e) }
    after (Some c) e b =
        let i = imported-law h x.stream.state.blobs x.originals ((refname, snapshot_name c) ∷ []) b in
        record {
          rule = i.rule;
          commits = i.commits ∙ with-added x.originals G;
          head = i.refs refname ∙ new-head (snapshot_name c) h.refs ∙ sym (ap (λ (o : Option Snapshot). option_or (option_map snapshot_name o) (Some n)) e);
        }

    -- it is done
    pub pushed : IsBrought h x.stream.state.blobs x.originals → IsPushed m h (held_after h (push_plan h refname x (last_or None x.originals))) f refname n x
    pushed b = pushed-after (held_after h (push_plan h refname x (last_or None x.originals))) (after (last_or None x.originals) refl b)

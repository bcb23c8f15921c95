-- The command `push`: a stream upon the projection of a ref's commit, taken back, of commits in line, or of such that may merge.
use Rattle.std.specs.FinMap.{find as find_entry}
use Rattle.std.specs.List.{last_or, flat_map}
use Rattle.std.specs.Option.{option_map, option_or}
use Rattle.std.specs.Prelude.{Result, Ok, Option, Some, None, ℕ, Err, [], ◌∷◌, ◌++◌, List, ◌≡◌, ⊤, map, unwrap_or, zip}
use Rattle.git_objects.specs.Commits.{hex}
use Rattle.git_objects.specs.Lists.{Each}
use Rattle.git_objects.specs.Paths.{Bytes, Path}
use Rattle.git_objects.specs.Refs.{bytes_cmp}
use Rattle.git_objects.specs.Results.{◌>>=◌}
use Rattle.git_objects.specs.Snapshots.{Graph, Snapshot, snapshot_name, tree_at}
use Rattle.git_objects.specs.Trees.{Flat, at}
use Rattle.git_objects.specs.declared.name.Name.{Name as NameOf}
use Rattle.filter_text.specs.Filters.{Filter}
use Rattle.workspace.specs.Laws.{IsUsable}
use Rattle.workspace.specs.Workspaces.{next, place, shown}
use Rattle.commit_map.specs.declared.rule.Rule.{Rule}
use Rattle.projection_laws.specs.Projections.{own_commits, shown_of}
use Rattle.state_items.specs.Changes.{NoPlan, Plan, change_plan, objects_of, Room}
use Rattle.state_items.specs.Items.{Held}
use Rattle.state_items.specs.Repos.{repo}
use Rattle.push_laws.specs.PushLaws.{IsStep, Agrees}
use Rattle.push_laws.specs.PushReplays.{StreamRefusal, OtherRef as OnOtherRef, NotAtHead as IsNotAtHead, FurtherParents as IsMerge, Faulty}
use Rattle.push_laws.specs.PushVerdicts.{Refusal, NoChange as IsUnchanged, BadWorkspace as IsBadWorkspace, Unseen as IsUnseen, NotHeld as IsNotHeld, Blocked as IsBlocked, TreeLimit, original_tree}
use Rattle.push_laws.specs.Pushes.{pushing, PushRefusal, StreamRefused, CommitRefused, Pushing}
use Rattle.merge_laws.specs.MergeVerdicts.{Progress, after, begun, original}
use Rattle.merge_laws.specs.Merges.{merging}
use Rattle.filter_apply.specs.Hands.{parts_in}
use Rattle.proj_words.specs.Faults.{stream_outcome}
use Rattle.proj_words.specs.declared.outcome.Outcome.TheVariants.{OtherRef, NotAtHead, MergePushed, RepeatedParent, Limit, NoChange, BadWorkspace, Unseen, NotHeld, Blocked}
use Rattle.proj_words.specs.declared.outcome.Outcome.{Outcome}
use Rattle.proj_commands.specs.Cases.{head_of, Case, PushCase, Made, within}
use Rattle.proj_commands.specs.Filters.{rule_by, projected}
use Rattle.proj_commands.specs.Hands.{Hand, components_for, hand_of, own}
use Rattle.proj_commands.specs.declared.lines.Telling.{Telling}
use Rattle.proj_commands.specs.declared.pushing.Manner.{Manner}
use Rattle.proj_commands.specs.declared.pushing.Manner.TheVariants.{InLine, Merging}
use Rattle.proj_commands.specs.declared.lines.Telling.TheVariants.{Both, PushedAlone}

-- the push of a stream to a ref that is at the commit n of a graph, in this manner
abbrev pub pushed_by : Manner → Rule → Filter → Graph → Bytes → Bytes → Bytes → Pushing
pushed_by InLine k f g n refname input = pushing k f g n refname input
pushed_by Merging k f g n refname input = merging k f g n refname input

-- upon what is held
abbrev pub pushed_upon : Manner → Held → Filter → Bytes → Bytes → Bytes → Pushing
pushed_upon m h f n refname input = pushed_by m (rule_by h.rule) f (repo h).commits n refname input

abbrev pub push_case : Manner → Telling → Held → Filter → Bytes → Bytes → Result Case Outcome
push_case m w h f refname input = head_of refname h.refs >>= λ n. Ok (PushCase m w h f refname n (pushed_upon m h f n refname input))

-- ---- refusals

abbrev pub name_or_none : Option Bytes → Option NameOf
name_or_none None = None
name_or_none (Some n) = Some (record { 0 = n })

-- of a commit that has further parents, or, where it may have some, of one that has a parent twice
abbrev pub parents_refusal : Manner → ℕ → Outcome
parents_refusal InLine n = MergePushed n
parents_refusal Merging n = RepeatedParent n

abbrev pub stream_refusal : Manner → StreamRefusal → Outcome
stream_refusal m (OnOtherRef at) = OtherRef at
stream_refusal m (IsNotAtHead expected got) = NotAtHead (name_or_none expected) (name_or_none got)
stream_refusal m (IsMerge n) = parents_refusal m n
stream_refusal m (Faulty e) = stream_outcome e

-- of the pushed commit of that number
abbrev pub commit_refusal : ℕ → Refusal → Outcome
commit_refusal n IsUnchanged = NoChange n
commit_refusal n IsBadWorkspace = BadWorkspace n
commit_refusal n (IsUnseen p) = Unseen n p
commit_refusal n (IsNotHeld p) = NotHeld n p
commit_refusal n (IsBlocked p q) = Blocked n p q
commit_refusal n (TreeLimit q) = Limit q None

abbrev pub push_outcome : Manner → PushRefusal → Outcome
push_outcome m (StreamRefused e) = stream_refusal m e
push_outcome m (CommitRefused n e) = commit_refusal n e

abbrev pub no_refusal : Manner → Option PushRefusal → Result (Unit {0}) Outcome
no_refusal m None = Ok tt
no_refusal m (Some e) = Err (push_outcome m e)

-- ---- what is written, and what is new

-- What is told of a pushed commit and its original, by their names: the digits of both, or those of the pushed commit alone.
abbrev pub told_digits : Telling → Bytes → Bytes → Bytes
told_digits Both m n = hex m ++ 32 ∷ (hex n ++ 10 ∷ [])
told_digits PushedAlone m n = hex m ++ 10 ∷ []

abbrev pub told_line : Telling → Snapshot × Snapshot → Bytes
told_line w c = told_digits w (snapshot_name c.0) (snapshot_name c.1)

-- a push of no commits changes nothing; else its ref is at the last original
abbrev pub push_plan : Held → Bytes → Pushing → Option Snapshot → Plan
push_plan h refname p None = NoPlan
push_plan h refname p (Some c) = change_plan h (objects_of p.stream.state.blobs p.originals) ((refname, snapshot_name c) ∷ [])

-- what comes of it, or the first refusal: of the push, and of the limits of the state
abbrev pub push_made : Manner → Telling → Room → Held → Bytes → Pushing → Result Made Outcome
push_made m w room h refname p = do
  _ ← no_refusal m p.refusal
  within room h (flat_map (told_line w) (zip p.stream.state.commits p.originals)) (push_plan h refname p (last_or None p.originals))

-- ---- objects in hand

abbrev pub parts_upon : Result Flat Refusal → (Flat → List Bytes) → List Bytes
parts_upon (Ok u) later = later u
parts_upon (Err e) later = []

-- The components of the filters by which pushed commits are laid, up to the first that is refused. t is the original tree before them,
-- and `seen` what the commit before them shows.
abbrev pub laid_parts : Filter → Flat → Flat → List Snapshot → List Bytes
laid_parts f t seen [] = []
laid_parts f t seen (c ∷ cs) = parts_in (next f t c.tree) ++ parts_upon (original_tree f t seen c.tree) (λ u. laid_parts f u c.tree cs)

abbrev pub parts_behind : Result Snapshot Refusal → (Snapshot → List Bytes) → List Bytes
parts_behind (Ok o) later = later o
parts_behind (Err e) later = []

-- the same of commits that may merge
abbrev pub merged_parts : Rule → Filter → Progress → List Snapshot → List Bytes
merged_parts k f s [] = []
merged_parts k f s (c ∷ cs) = parts_in (next f s.tree c.tree) ++ parts_behind (original k f s c) (λ o. merged_parts k f (after s c o) cs)

-- of the commits that are pushed to the commit n
abbrev pub parts_pushed : Manner → Held → Filter → Bytes → List Snapshot → List Bytes
parts_pushed InLine h f n cs = laid_parts f (tree_at (repo h).commits n) (shown f (tree_at (repo h).commits n)) cs
parts_pushed Merging h f n cs = merged_parts (rule_by h.rule) f (begun (rule_by h.rule) f (repo h).commits n) cs

-- The commits of their own that commits are projected to: the commit n and its ancestors; and where what is pushed may merge, all that
-- are held.
abbrev pub own_for : Manner → Held → Filter → Bytes → List Snapshot
own_for InLine h f n = own h.rule f (repo h).commits n
own_for Merging h f n = own_commits (rule_by h.rule) (shown f) (repo h).commits (map snapshot_name (repo h).commits)

abbrev pub push_hand : Manner → Held → Filter → Bytes → Pushing → Hand
push_hand m h f n p =
    hand_of h.objects ((repo h).commits ++ p.originals ++ own_for m h f n) p.base p.stream
    (components_for f (repo h).commits ++ parts_pushed m h f n p.stream.state.commits)

-- ---- what a push that is done has done

-- A commit's parents are that one, and where it may merge others behind it.
abbrev pub AreParents : Manner → Bytes → List Bytes → Type 0
AreParents InLine before ps = ps ≡ before ∷ []
AreParents Merging before ps = (others : List Bytes) × (ps ≡ before ∷ others)

-- A pushed commit and the original that was made of it, upon the original of this name and tree: what is hidden stays, and in the new
-- state the original is projected, from scratch over all commits, to exactly the pushed commit.
pub record IsPair (m : Manner) (g : Held) (f : Filter) (before : Bytes) (t : Flat) (c o : Snapshot) : Type 0 where
  pub parents : AreParents m before o.parents
  pub letter : o.letter ≡ c.letter
  pub step : IsStep f t c.tree o.tree
  pub projected : projected g f (snapshot_name o) ≡ Some (shown_of c)

-- each upon the original before it
abbrev pub ArePairs : Manner → Held → Filter → Bytes → Flat → List Snapshot → List Snapshot → Type 0
ArePairs m g f before t [] [] = ⊤
ArePairs m g f before t (c ∷ cs) (o ∷ os) = IsPair m g f before t c o × ArePairs m g f (snapshot_name o) o.tree cs os
ArePairs m g f before t [] (o ∷ os) = ⊥
ArePairs m g f before t (c ∷ cs) [] = ⊥

-- A tree has the workspace's file as another has it; so it is wherever the filter has no workspace.
abbrev pub HasFileOf : Filter → Flat → Flat → Type 0
HasFileOf f t u = (p : Path) → place f ≡ Some p → at u p ≡ at t p

-- As long as the originals have the workspace's file as the tree has it that was there at first: where a pushed tree is what was shown of
-- that tree, its original's is that tree.
abbrev pub GiveBack : Filter → Flat → List Snapshot → List Snapshot → Type 0
GiveBack f t (c ∷ cs) (o ∷ os) = HasFileOf f t o.tree → (c.tree ≡ shown f t → o.tree ≡ t) × GiveBack f t cs os
GiveBack f t cs os = ⊤

-- From the state h to the state g, by a push to a ref that was at the commit n.
pub record IsPushed (m : Manner) (h g : Held) (f : Filter) (refname n : Bytes) (p : Pushing) : Type 0 where
  -- the ref is at the last original, or where it was
  pub head : find_entry bytes_cmp refname g.refs ≡ option_or (option_map snapshot_name (last_or None p.originals)) (Some n)
  -- each pushed commit has an original that projects to exactly this commit
  pub pairs : ArePairs m g f n (tree_at (repo h).commits n) p.stream.state.commits p.originals
  -- without merges, a pushed tree that is what was shown at first gives the first tree back
  pub back : m ≡ InLine → GiveBack f (tree_at (repo h).commits n) p.stream.state.commits p.originals
  -- and where no original changes anything that another filter shows of the tree before, the ref's projection by this filter stays
  pub others : m ≡ InLine → (k : Filter) → IsUsable k → Each (λ o. Agrees k (tree_at (repo h).commits n) o.tree) p.originals
      → projected g k (unwrap_or (find_entry bytes_cmp refname g.refs) []) ≡ projected h k n

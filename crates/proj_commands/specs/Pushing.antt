-- A push upon a state.
use Rattle.std.specs.Prelude.{◌≡◌, ◌⊎◌, List, [], ◌∷◌, map, Contains, IfOk, IfErr, None, Result}
use Rattle.std.specs.List.{flat_map}
use Rattle.git_objects.specs.Paths.{Bytes}
use Rattle.git_objects.specs.Snapshots.{Snapshot, Graph, snapshot_name, tree_at}
use Rattle.object_store.specs.Growth.{IsGrownBy}
use Rattle.object_store.specs.Objects.{Object}
use Rattle.object_store.specs.StoredSnapshots.{snapshot_object}
use Rattle.filter_text.specs.Filters.{Filter}
use Rattle.workspace.specs.Workspaces.{shown}
use Rattle.commit_map.specs.declared.rule.Rule.{Rule}
use Rattle.projection_laws.specs.Projections.{history_graph, own_commits}
use Rattle.projection_ground.specs.Grounds.{IsShownOf}
use Rattle.fast_import.specs.Made.{IsMadeBy}
use Rattle.fast_import.specs.Replaying.{setting_value}
use Rattle.fast_import.specs.Replays.{nothing_yet}
use Rattle.push_back.specs.Faults.{IsPushFault}
use Rattle.push_back.specs.Originals.{IsMadeFor}
use Rattle.merge_laws.specs.MergeVerdicts.{begun}
use Rattle.merge_push.specs.Originals.{IsMadeFor as IsMadeForMerges}
use Rattle.merge_push.specs.declared.fault.MergeFault.{MergeFault}
use Rattle.merge_push.specs.declared.fault.MergeFault.TheVariants as merges
use Rattle.push_back.specs.Planning.{IsPlanOf}
use Rattle.push_back.specs.declared.fault.PushFault.{PushFault}
use Rattle.push_back.specs.declared.fault.PushFault.TheVariants as faults
use Rattle.push_back.specs.declared.brought.Plan.{Plan}
use Rattle.state_items.specs.Items.{Held}
use Rattle.state_items.specs.Repos.{repo}
use Rattle.repo_ground.specs.Contents.{Contents}
use Rattle.repo_ground.specs.declared.commit.Batch.{Batch}
use Rattle.proj_words.specs.Faults.{stream_outcome}
use Rattle.proj_words.specs.declared.outcome.Outcome.{Outcome}
use Rattle.proj_words.specs.declared.outcome.Outcome.TheVariants.{ReadFault, OtherRef, NotAtHead, RepeatedParent, NoChange, BadWorkspace, Unseen, NotHeld, Blocked, Limit, Collision, OutOfMemory}
use Rattle.proj_commands.specs.Filters.{rule_by}
use Rattle.proj_commands.specs.Makes.{IsStateOf}
use Rattle.proj_commands.specs.Push.{parents_refusal, pushed_by, pushed_upon, told_digits}
use Rattle.proj_commands.specs.declared.lines.Telling.{Telling}
use Rattle.proj_commands.specs.declared.pushing.Manner.{Manner}
use Rattle.proj_commands.specs.declared.pushing.Manner.TheVariants.{InLine, Merging}

-- why a push brings nothing, by its manner
abbrev pub fault_outcome : Manner → PushFault → Outcome
fault_outcome w faults.ReadFault = ReadFault
fault_outcome w (faults.Stream f) = stream_outcome f
fault_outcome w (faults.OtherRef at) = OtherRef at
fault_outcome w (faults.NotAtHead m n) = NotAtHead m n
fault_outcome w (faults.MergePushed n) = parents_refusal w n
fault_outcome w (faults.NoChange n) = NoChange n
fault_outcome w (faults.BadWorkspace n) = BadWorkspace n
fault_outcome w (faults.Unseen n p) = Unseen n p
fault_outcome w (faults.NotHeld n q) = NotHeld n q
fault_outcome w (faults.Blocked n p q) = Blocked n p q
fault_outcome w (faults.TreeLimit n q) = Limit q None
fault_outcome w (faults.Collision n) = Collision n
fault_outcome w faults.OutOfMemory = OutOfMemory

-- why a push with merges does
abbrev pub merge_outcome : MergeFault → Outcome
merge_outcome merges.ReadFault = ReadFault
merge_outcome (merges.Stream f) = stream_outcome f
merge_outcome (merges.OtherRef at) = OtherRef at
merge_outcome (merges.NotAtHead m n) = NotAtHead m n
merge_outcome (merges.RepeatedParent n) = RepeatedParent n
merge_outcome (merges.NoChange n) = NoChange n
merge_outcome (merges.BadWorkspace n) = BadWorkspace n
merge_outcome (merges.Unseen n p) = Unseen n p
merge_outcome (merges.NotHeld n q) = NotHeld n q
merge_outcome (merges.Blocked n p q) = Blocked n p q
merge_outcome (merges.TreeLimit n q) = Limit q None
merge_outcome (merges.Collision n) = Collision n
merge_outcome merges.OutOfMemory = OutOfMemory

-- what projecting the commit n from scratch makes, by a rule over a graph
abbrev pub IsSeenOver : Filter → Bytes → Rule → Graph → Object → Type 0
IsSeenOver f n r cs o =
    (IsShownOf f cs o ⊎ ((c : Snapshot) × Contains (history_graph r (shown f) cs n) c × (snapshot_object c ≡ o)))
    ⊎ ((c : Snapshot) × Contains (own_commits r (shown f) cs (n ∷ [])) c × (snapshot_object c ≡ o))

-- what projecting all commits from scratch makes, by a rule over a graph
abbrev pub AreSeenOver : Filter → Rule → Graph → Object → Type 0
AreSeenOver f r cs o = IsShownOf f cs o ⊎ ((c : Snapshot) × Contains (own_commits r (shown f) cs (map snapshot_name cs)) c × (snapshot_object c ≡ o))

-- what projections a push makes: of the commit n; and where it may merge, of all commits
abbrev pub AreShownFor : Manner → Filter → Bytes → Rule → Graph → Object → Type 0
AreShownFor InLine f n r cs o = IsSeenOver f n r cs o
AreShownFor Merging f n r cs o = IsSeenOver f n r cs o ⊎ AreSeenOver f r cs o

-- the originals that it makes of these commits, and what laying their trees makes
abbrev pub AreMadeFor : Manner → Filter → Bytes → Rule → Graph → List Snapshot → Object → Type 0
AreMadeFor InLine f n r g cs o = IsMadeFor f n (tree_at g n) (shown f (tree_at g n)) cs o
AreMadeFor Merging f n r g cs o = IsMadeForMerges r f (begun r f g n) cs o

-- what a push of a stream to the commit n makes, by a rule over a graph: of projections, of the stream, and of its originals
abbrev pub IsMadeOver : Manner → Filter → Bytes → Bytes → Bytes → Rule → Graph → Object → Type 0
IsMadeOver m f refname n all r cs o =
    AreShownFor m f n r cs o
    ⊎ IsMadeBy (pushed_by m r f cs n refname all).base nothing_yet (pushed_by m r f cs n refname all).stream.tried o
    ⊎ AreMadeFor m f n r cs (pushed_by m r f cs n refname all).stream.state.commits o

-- What became of it: what it brings is in the state's store, or it is refused; and the state has what was held.
pub record IsPlannedUpon (m : Manner) (items : List Bytes) (h : Held) (f : Filter) (refname n all : Bytes) (s s' : Contents) (result : Result Plan Outcome) : Type 0 where
  pub given : IfOk result (λ p. IsPlanOf s'.basis.store p (pushed_upon m h f n refname all))
  pub refused : IfErr result
      (λ e. (w : PushFault) × (e ≡ fault_outcome m w)
      × IsPushFault (pushed_upon m h f n refname all).refusal (IsMadeOver m f refname n all (rule_by h.rule) (repo h).commits) s'.basis.store w)
  pub state : IsStateOf items h s'
  pub grown : IsGrownBy (IsMadeOver m f refname n all (rule_by h.rule) (repo h).commits) s.basis.store s'.basis.store
  pub same : s' ≡ record s { basis = s'.basis }

-- what a push brings, as a report and as what is to be committed, with its ref at that commit
pub record IsPushPrepared (w : Telling) (p : Plan) (refname n : Bytes) (report : Bytes) (b : Batch) : Type 0 where
  pub lines : report ≡ flat_map (λ c. told_digits w c.pushed.0 c.original.0) p.commits.items
  pub blobs : b.blobs.items ≡ p.blobs.items
  pub commits : b.commits.items ≡ map (λ c. c.original) p.commits.items
  pub refs : map setting_value b.refs.items ≡ (refname, n) ∷ []

-- What a push with merges stands upon over a ground, and what its replayed stream brings.
use Rattle.std.specs.Prelude.{◌≡◌, ◌⊎◌, List, map, None, IfErr, IfOk, Result}
use Rattle.std.specs.Option.{option_map}
use Rattle.std.specs.Result.{result_err}
use Rattle.git_objects.specs.Paths.{Bytes}
use Rattle.git_objects.specs.Snapshots.{Snapshot, tree_at}
use Rattle.object_store.specs.Objects.{Object}
use Rattle.object_store.specs.Unfolding.{flat}
use Rattle.filter_text.specs.Filters.{Filter}
use Rattle.workspace.specs.Workspaces.{shown}
use Rattle.projection_laws.specs.Projections.{projection}
use Rattle.projection_ground.specs.Grounds.{commits_of}
use Rattle.projection_ground.specs.declared.ground.Ground.{Ground}
use Rattle.history_ground.specs.Heads.{IsSeenObject}
use Rattle.history_ground.specs.Origins.{AreFirsts, IsProjectionObject}
use Rattle.history_ground.specs.declared.heads.Seen.{Seen}
use Rattle.fast_import.specs.declared.replayed.Replayed.{Replayed}
use Rattle.push_back.specs.Faults.{of_original}
use Rattle.push_back.specs.Grounds.{IsGroundIn, from_of}
use Rattle.push_back.specs.Grounds as pushes
use Rattle.push_back.specs.Originals.{AreNamedIn}
use Rattle.push_back.specs.declared.brought.Plan.{Plan}
use Rattle.push_back.specs.declared.fault.PushFault.{PushFault}
use Rattle.push_back.specs.declared.refusal.OriginalError.{OriginalError}
use Rattle.merge_laws.specs.MergeVerdicts.{begun, made_from, verdict_from}
use Rattle.merge_push.specs.Grounds as merges
use Rattle.merge_push.specs.Originals.{IsMadeOver, IsOriginalError}

-- what projecting the commit h and all others makes
abbrev pub IsBaseObject : Filter → Ground → Bytes → Object → Type 0
IsBaseObject f g h o = IsSeenObject f g h o ⊎ IsProjectionObject f g o

-- what a push stands upon, of what is shown
pub record IsPushBaseOf (refname : Bytes) (y : Seen) (S : List Object) (b : pushes.Ground) : Type 0 where
  pub refname_is : b.refname ≡ refname
  pub from_is : b.from ≡ y.from
  pub shown_is : b.shown ≡ y.tree
  pub there : IsGroundIn S b

-- What a push with merges stands upon, which is to a ref that is at the commit h: a store has all of it.
pub record IsMergeBaseOf (f : Filter) (refname h : Bytes) (g : Ground) (S : List Object) (b : merges.Ground) : Type 0 where
  pub refname_is : b.push.refname ≡ refname
  pub from_is : from_of b.push ≡ option_map (λ s. s.commit) (projection g.rule (shown f) (commits_of g) h)
  pub seen_is : flat S b.push.shown.0 ≡ shown f (tree_at (commits_of g) h)
  pub origins : AreFirsts f g S b.origins
  pub there : merges.IsGroundIn S b

-- None of these commits is refused, and the names stand for the blobs that were given, the commits and their originals.
pub record AreBroughtBy (f : Filter) (g : Ground) (h : Bytes) (cs : List Snapshot) (v : Replayed) (S : List Object) (p : Plan) : Type 0 where
  pub accepted : result_err (verdict_from g.rule f 1 (begun g.rule f (commits_of g) h) cs) ≡ None
  pub blobs : p.blobs.items ≡ v.blobs.items
  pub pushed : map (λ c. c.pushed) p.commits.items ≡ map (λ m. m.name) v.commits.items
  pub originals : AreNamedIn S (map (λ c. c.original) p.commits.items) (made_from g.rule f (begun g.rule f (commits_of g) h) cs)

-- What came of bringing a replayed stream's commits, or why it brings nothing.
pub record IsBroughtBy (f : Filter) (g : Ground) (h : Bytes) (cs : List Snapshot) (v : Replayed) (S : List Object) (result : Result Plan PushFault) : Type 0 where
  pub ok : IfOk result (AreBroughtBy f g h cs v S)
  pub err : IfErr result (λ w. (e : OriginalError) × (w ≡ of_original e.n e.refusal)
      × IsOriginalError g.rule f (begun g.rule f (commits_of g) h) cs (IsMadeOver f g h cs) S e)

-- Originals of pushed commits with merges that are worked out over a store.
use Rattle.std.specs.Prelude.{◌≡◌, ◌⊎◌, nat_le, Bool, List, [], ◌∷◌, length, None, Ok, Err, Result, IfOk, IfErr, IsOkAnd, Some}
use Rattle.std.specs.Global.{Vec}
use Rattle.std.specs.Result.{result_err}
use Rattle.git_objects.specs.CommitBodies.{commit_from}
use Rattle.git_objects.specs.Commits.{commit_body}
use Rattle.git_objects.specs.Lists.{Each}
use Rattle.git_objects.specs.Paths.{Bytes}
use Rattle.git_objects.specs.Results.{◌>>=◌, must}
use Rattle.git_objects.specs.Snapshots.{Snapshot, snapshot_commit}
use Rattle.git_objects.specs.Trees.{Flat}
use Rattle.git_objects.specs.declared.limits.TheConstants.{PARENTS}
use Rattle.git_objects.specs.declared.name.Name.{Name}
use Rattle.git_objects.specs.declared.quantity.Quantity.TheVariants.{Parents}
use Rattle.object_store.specs.Objects.{Object}
use Rattle.object_store.specs.StoredSnapshots.{snapshot_object}
use Rattle.filter_text.specs.Filters.{Filter}
use Rattle.filter_unapply.specs.Hands.{IsLaidMade}
use Rattle.workspace.specs.Workspaces.{next, shown}
use Rattle.commit_map.specs.declared.rule.Rule.{Rule}
use Rattle.projection_laws.specs.Projections.{projection, projections}
use Rattle.projection_ground.specs.Grounds.{IsShownOf, commits_of}
use Rattle.projection_ground.specs.declared.ground.Ground.{Ground}
use Rattle.fast_import.specs.Standing.{AreCommitsIn, IsCommitIn}
use Rattle.fast_import.specs.declared.replayed.Made.{Made}
use Rattle.push_laws.specs.PushLaws.{commit_of}
use Rattle.push_laws.specs.PushVerdicts.{NoChange, Refusal, TreeLimit, tree_upon}
use Rattle.push_back.specs.Originals.{AreNamedIn, Grows}
use Rattle.push_back.specs.Refusals.{IsRefusedBy}
use Rattle.push_back.specs.declared.refusal.OriginalError.{OriginalError}
use Rattle.push_back.specs.declared.refusal.TreeRefusal.{TreeRefusal}
use Rattle.merge_laws.specs.MergeLaws.{AreJoined, projected_names}
use Rattle.merge_laws.specs.MergeVerdicts.{Progress, after, begun, made_from, original, verdict_from}

-- ---- pushed commits

-- a commit that is read again from its body
abbrev pub IsReadAgain : Snapshot → Type 0
IsReadAgain c = commit_from (commit_body (snapshot_commit c)) ≡ Some (snapshot_commit c)

-- Names of the code stand for these commits over a ground's store, each of which is read again from its body; and they are in line
-- upon the projection of the commit h, joined with other projections or with commits before.
pub record ArePushed (f : Filter) (g : Ground) (h : Bytes) (ms : List Made) (cs : List Snapshot) : Type 0 where
  pub standing : AreCommitsIn g.store ms cs
  pub read_again : Each IsReadAgain cs
  pub joined : AreJoined (projected_names (projections g.rule (shown f) [] (commits_of g))) (commit_of (projection g.rule (shown f) (commits_of g) h)) cs

-- ---- one commit

-- The original of a pushed commit upon a tree and these parents, or why there is none; where the projection would be a commit of its
-- own or not.
abbrev pub original_upon : Filter → Bool → Flat → List Bytes → Snapshot → Result Snapshot Refusal
original_upon f own t ns c = do
  _ ← must NoChange own
  u ← tree_upon f t c.tree
  _ ← must (TreeLimit Parents) (nat_le (length ns) PARENTS)
  Ok (record { tree = u; parents = ns; letter = c.letter })

-- the original, where there is one, or what comes behind it
abbrev pub IsMadeUpon : Result Snapshot Refusal → (Snapshot → Type 0) → Object → Type 0
IsMadeUpon (Ok u) later o = (o ≡ snapshot_object u) ⊎ later u
IsMadeUpon (Err e) later o = ⊥

-- what laying a commit's tree makes, and the original that comes of it
abbrev pub IsMadeOne : Filter → Flat → Snapshot → Result Snapshot Refusal → Object → Type 0
IsMadeOne f t c x o = IsLaidMade (next f t c.tree) t c.tree o ⊎ IsMadeUpon x (λ u. ⊥) o

-- A commit was put into a ground's store, which has its tree and its parents.
pub record IsPut (o : Snapshot) (g g' : Ground) (result : Result Made TreeRefusal) : Type 0 where
  pub ok : IfOk result (λ m. IsCommitIn g'.store m o × IsReadAgain o)
  pub err : IfErr result (IsRefusedBy (λ r. ⊥) (λ x. x ≡ snapshot_object o) g'.store)
  pub same : Grows (λ x. x ≡ snapshot_object o) g g'

-- What came of working out the original of a commit upon a tree, which is this one or is refused so.
pub record IsOriginal (f : Filter) (t : Flat) (c : Snapshot) (x : Result Snapshot Refusal) (g g' : Ground) (result : Result Made TreeRefusal) : Type 0 where
  pub ok : IfOk result (λ m. IsOkAnd x (λ o. IsCommitIn g'.store m o × IsReadAgain o))
  pub err : IfErr result (IsRefusedBy (λ r. x ≡ Err r) (IsMadeOne f t c x) g'.store)
  pub same : Grows (IsMadeOne f t c x) g g'

-- ---- all commits

-- what is made for commits up to the first one that is refused: what laying their trees makes, and their originals
abbrev pub IsMadeFor : Rule → Filter → Progress → List Snapshot → Object → Type 0
IsMadeFor k f s [] o = ⊥
IsMadeFor k f s (c ∷ cs) o = IsLaidMade (next f s.tree c.tree) s.tree c.tree o ⊎ IsMadeUpon (original k f s c) (λ u. IsMadeFor k f (after s c u) cs o) o

-- the same upon the commit h of a ground
abbrev pub IsMadeUponHead : Filter → Ground → Bytes → List Snapshot → Object → Type 0
IsMadeUponHead f g h cs = IsMadeFor g.rule f (begun g.rule f (commits_of g) h) cs

-- and what projecting the graph's commits makes of trees
abbrev pub IsMadeOver : Filter → Ground → Bytes → List Snapshot → Object → Type 0
IsMadeOver f g h cs o = IsShownOf f (commits_of g) o ⊎ IsMadeUponHead f g h cs o

-- No commit is refused, and the names stand for the originals of all.
pub record AreOriginals (k : Rule) (f : Filter) (s : Progress) (cs : List Snapshot) (S : List Object) (ns : List Name) : Type 0 where
  pub accepted : result_err (verdict_from k f 1 s cs) ≡ None
  pub made : AreNamedIn S ns (made_from k f s cs)

-- Why commits have no originals: the number and the refusal of the first one that is refused, or why no more is made of such objects.
abbrev pub IsOriginalError : Rule → Filter → Progress → List Snapshot → (Object → Type 0) → List Object → OriginalError → Type 0
IsOriginalError k f s cs made S e = IsRefusedBy (λ r. verdict_from k f 1 s cs ≡ Err (e.n, r)) made S e.refusal

-- What came of working out the originals of commits upon the commit h of a ground, which makes objects of a kind.
pub record AreWorkedOut (f : Filter) (g : Ground) (h : Bytes) (cs : List Snapshot) (made : Object → Type 0) (S : List Object) (result : Result (Vec Name) OriginalError) : Type 0 where
  pub ok : IfOk result (λ names. AreOriginals g.rule f (begun g.rule f (commits_of g) h) cs S names.items)
  pub err : IfErr result (IsOriginalError g.rule f (begun g.rule f (commits_of g) h) cs made S)

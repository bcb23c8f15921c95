-- Originals that are worked out over a store.
use Rattle.std.specs.Prelude.{◌≡◌, ◌⊎◌, ⊤, List, [], ◌∷◌, None, Result, Ok, Err, IfOk, IfErr, IsOkAnd}
use Rattle.std.specs.Result.{result_err}
use Rattle.git_objects.specs.Names.{tree_name}
use Rattle.git_objects.specs.Paths.{Bytes}
use Rattle.git_objects.specs.Snapshots.{Snapshot, snapshot_name}
use Rattle.git_objects.specs.Trees.{Flat}
use Rattle.git_objects.specs.declared.name.Name.{Name}
use Rattle.object_store.specs.Objects.{Object}
use Rattle.object_store.specs.StoredSnapshots.{snapshot_object}
use Rattle.filter_text.specs.Filters.{Filter}
use Rattle.filter_routes.specs.Interned.{HasAt}
use Rattle.filter_routes.specs.TableValues.{Table}
use Rattle.filter_unapply.specs.Hands.{IsLaidMade}
use Rattle.workspace.specs.Workspaces.{next, resolve}
use Rattle.projection_ground.specs.Grounds.{Extends}
use Rattle.projection_ground.specs.declared.ground.Ground.{Ground}
use Rattle.fast_import.specs.Standing.{IsCommitIn}
use Rattle.fast_import.specs.declared.replayed.Made.{Made}
use Rattle.push_laws.specs.PushVerdicts.{Refusal, is_bad_workspace, original_of, original_tree, verdict_from}
use Rattle.push_laws.specs.Pushes.{made_from}
use Rattle.push_back.specs.Refusals.{IsRefusedBy}
use Rattle.push_back.specs.declared.refusal.OriginalError.{OriginalError}
use Rattle.push_back.specs.declared.refusal.TreeRefusal.{TreeRefusal}
use Rattle.push_back.specs.declared.ways.Way.{Way}

-- the tables of the filter for t, and of the one by which n is laid into t; and whether n changes the workspace's file to a bad one
pub record IsWay (f : Filter) (t n : Flat) (ts : List Table) (w : Way) : Type 0 where
  pub below : HasAt ts (resolve f t) w.old
  pub by : HasAt ts (next f t n) w.new
  pub bad : w.is_bad ≡ is_bad_workspace f t n

-- Of a ground only the tables and the store grew, the store by objects of a kind.
pub record Grows (made : Object → Type 0) (g g' : Ground) : Type 0 where
  pub extends : Extends made g g'
  pub map : g'.map ≡ g.map
  pub memo : g'.memo ≡ g.memo

-- ---- one commit

-- the original, where there is one, or what comes behind it
abbrev pub IsMadeUpon : Bytes → Snapshot → Result Flat Refusal → (Flat → Type 0) → Object → Type 0
IsMadeUpon h c (Ok u) later o = (o ≡ snapshot_object (original_of h c u)) ⊎ later u
IsMadeUpon h c (Err e) later o = ⊥

-- what laying its tree makes, and its original
abbrev pub IsMadeOne : Filter → Bytes → Flat → Flat → Snapshot → Object → Type 0
IsMadeOne f h t seen c o = IsLaidMade (next f t c.tree) t c.tree o ⊎ IsMadeUpon h c (original_tree f t seen c.tree) (λ u. ⊥) o

-- The original of a pushed commit upon the commit h, whose tree is t; the commit before the pushed one shows `seen`.
pub record IsOriginal (f : Filter) (h : Bytes) (t seen : Flat) (c : Snapshot) (g g' : Ground) (result : Result Made TreeRefusal) : Type 0 where
  pub ok : IfOk result (λ m. IsOkAnd (original_tree f t seen c.tree) (λ u. IsCommitIn g'.store m (original_of h c u)))
  pub err : IfErr result (IsRefusedBy (λ r. original_tree f t seen c.tree ≡ Err r) (IsMadeOne f h t seen c) g'.store)
  pub same : Grows (IsMadeOne f h t seen c) g g'

-- ---- all commits

-- what is made for commits up to the first one that is refused: what laying their trees makes, and their originals
abbrev pub IsMadeFor : Filter → Bytes → Flat → Flat → List Snapshot → Object → Type 0
IsMadeFor f h t seen [] o = ⊥
IsMadeFor f h t seen (c ∷ cs) o =
    IsLaidMade (next f t c.tree) t c.tree o
    ⊎ IsMadeUpon h c (original_tree f t seen c.tree) (λ u. IsMadeFor f (snapshot_name (original_of h c u)) u c.tree cs o) o

-- names of the code stand for these commits over a store: the commit has the name, and its tree is in the store
abbrev pub AreNamedIn : List Object → List Name → List Snapshot → Type 0
AreNamedIn S [] [] = ⊤
AreNamedIn S [] (c ∷ cs) = ⊥
AreNamedIn S (n ∷ ns) [] = ⊥
AreNamedIn S (n ∷ ns) (c ∷ cs) = IsCommitIn S (record { name = n; tree = record { 0 = tree_name c.tree } }) c × AreNamedIn S ns cs

-- Why commits have no originals: the number and the refusal of the first one that is refused, or why no more is made.
abbrev pub IsOriginalError : Filter → Bytes → Flat → Flat → List Snapshot → List Object → OriginalError → Type 0
IsOriginalError f h t seen cs S e =
    IsRefusedBy (λ r. verdict_from f 1 h t seen cs ≡ Err (e.n, r)) (IsMadeFor f h t seen cs) S e.refusal

-- No commit is refused, and the names stand for the originals of all.
pub record AreOriginals (f : Filter) (h : Bytes) (t seen : Flat) (cs : List Snapshot) (S : List Object) (ns : List Name) : Type 0 where
  pub accepted : result_err (verdict_from f 1 h t seen cs) ≡ None
  pub made : AreNamedIn S ns (made_from f h t seen cs)

-- What a history's commits leave that are taken in one after another.
use Rattle.std.specs.Prelude.{◌≡◌, ◌⊎◌, ◌<◌, ℕ, true, false, if◌then◌else◌, List, [], ◌∷◌, ◌++◌, length, Some, None, IsSome}
use Rattle.std.specs.List.{list_all}
use Rattle.std.specs.Option.{option_to_list}
use Rattle.git_objects.specs.Paths.{Bytes}
use Rattle.git_objects.specs.Names.{name}
use Rattle.git_objects.specs.Snapshots.{Snapshot, Graph, snapshot_name, add_all}
use Rattle.git_objects.specs.declared.kind.Kind.TheVariants.{Commit}
use Rattle.object_store.specs.Objects.{Object, find_named, has}
use Rattle.object_store.specs.Growth.{IsOnly}
use Rattle.object_store.specs.Puts.{of_body}
use Rattle.object_store.specs.StoredSnapshots.{snapshot_object}
use Rattle.commit_graph.specs.Graphs.{Reaches}
use Rattle.commit_map.specs.Shown.{Shown, Entries, kept_at}
use Rattle.filter_text.specs.Filters.{Filter}
use Rattle.projection_laws.specs.Projections.{Choice, New, own_commit, projected}
use Rattle.projection_laws.specs.StoredGraphs.{name_at, snapshot_named}
use Rattle.projection_laws.specs.Histories.{AreMade, is_among}
use Rattle.projection_ground.specs.Grounds.{IsShownOf, commits_of}
use Rattle.projection_ground.specs.Turns.{Becomes}
use Rattle.projection_ground.specs.declared.ground.Ground.{Ground}

-- with a name behind, where it isn't there
abbrev pub with_name : List Bytes → Bytes → List Bytes
with_name ns n = if is_among n ns then ns else ns ++ n ∷ []

-- the commit of a body, whose name isn't among these
abbrev pub IsAdded : List Bytes → Bytes → Object → Type 0
IsAdded ns b o = (is_among (name Commit b) ns ≡ false) × IsOnly Commit b o

-- the name of a commit whose tree and parents are there
pub record IsFit (S : List Object) (n b : Bytes) : Type 0 where
  pub body : of_body S Commit b None ≡ None
  pub named : n ≡ name Commit b

-- the commit has its name behind the others; if its name wasn't there, it is in the store now
pub record IsTakenIn (S : List Object) (ns ns' : List Bytes) (b : Bytes) : Type 0 where
  pub names : ns' ≡ with_name ns (name Commit b)
  pub found : is_among (name Commit b) ns ≡ false → find_named S (name Commit b) ≡ Some (record { kind = Commit; body = b })

-- the commits that are kept as projections are in the store
abbrev pub AreThere : List Object → Entries → Type 0
AreThere S es = (n : Bytes) (m : Shown) → kept_at n es ≡ Some (Some m) → has Commit S m.commit ≡ true

-- what the commit at the place becomes
abbrev pub IsBecome : Filter → Ground → ℕ → Choice → Type 0
IsBecome f g place x = (c : Snapshot) → snapshot_named g.store (name_at g.graph place) ≡ Some c → Becomes f g place c x

-- a tree that is shown, or a part of it, or the commit that the one at the place becomes, if its name isn't among these
abbrev pub IsTurnObject : Filter → Ground → ℕ → List Bytes → Object → Type 0
IsTurnObject f g place ns o = IsShownOf f (commits_of g) o
    ⊎ ((d : Snapshot) × IsBecome f g place (New d) × (is_among (snapshot_name d) ns ≡ false) × (snapshot_object d ≡ o))

-- Nothing is kept of the commit at the place, but of all others that it reaches. What is kept, and what has these names, is in the store.
pub record IsReady (g : Ground) (place : ℕ) (ns : List Bytes) : Type 0 where
  pub there : place < length g.graph
  pub lacked : kept_at (name_at g.graph place) g.map ≡ None
  pub kept : (q : ℕ) → Reaches g.graph place q → q < place → IsSome (kept_at (name_at g.graph q) g.map)
  pub held : AreThere g.store g.map
  pub named : list_all (has Commit g.store) ns ≡ true

-- The commit at the place is projected, which is kept; and what is kept is in the store.
pub record IsEntered (f : Filter) (place : ℕ) (g g' : Ground) : Type 0 where
  pub choice : Choice
  pub is : IsBecome f g place choice
  pub map : g'.map ≡ g.map ++ (name_at g.graph place, projected choice) ∷ []
  pub held : AreThere g'.store g'.map

-- the commit at the place is projected, and what it becomes is put behind the commits that have these names
pub record IsTaken (f : Filter) (place : ℕ) (g g' : Ground) (ns ns' : List Bytes) : Type 0 where
  pub entered : IsEntered f place g g'
  pub made : (M : Graph) → AreMade g.store M ns → AreMade g'.store (add_all M (option_to_list (own_commit entered.choice))) ns'

-- What is held after blobs and commits were brought, seen as a repository: nothing is there twice, and all else stays.
use Rattle.std.specs.Prelude.{◌≡◌, ⊤, true, Bool, ◌&&◌, nat_le, length, if◌then◌else◌, List, [], ◌∷◌, ◌++◌, Contains}
use Rattle.std.specs.List.{list_all, list_any}
use Rattle.std.specs.Option.{option_or}
use Rattle.std.specs.FinMap.{find as find_entry}
use Rattle.git_objects.specs.declared.limits.TheConstants.{BLOB_BYTES, MESSAGE_BYTES}
use Rattle.git_objects.specs.Paths.{Bytes, is_bytes, same_bytes}
use Rattle.git_objects.specs.Trees.{Flat, IsTree}
use Rattle.git_objects.specs.Commits.{commit_body}
use Rattle.git_objects.specs.CommitBodies.{IsCommitBody}
use Rattle.git_objects.specs.Refs.{Refs, bytes_cmp}
use Rattle.git_objects.specs.Snapshots.{Snapshot, snapshot_commit, snapshot_name}
use Rattle.path_names.specs.RefNames.{is_ref_name}
use Rattle.object_store.specs.Objects.{Object, IsStore, object_name}
use Rattle.object_store.specs.Fits.{tree_fits}
use Rattle.object_store.specs.TreeObjects.{leaf_objects}
use Rattle.state_items.specs.Items.{Held}
use Rattle.state_items.specs.Repos.{are_used, repo}
use Rattle.state_items.specs.Changes.{change_plan, held_after, objects_of, with_refs}
use Rattle.state_items.specs.Appending.{IsAddition}

-- ---- what is new

-- whether one of the commits has this name
abbrev pub is_among : List Snapshot → Bytes → Bool
is_among cs n = list_any (λ c. same_bytes (snapshot_name c) n) cs

-- commits from the newest to the oldest, with those in front whose names aren't there
abbrev pub with_commits : List Snapshot → List Snapshot → List Snapshot
with_commits known [] = known
with_commits known (c ∷ cs) = with_commits (if is_among known (snapshot_name c) then known else c ∷ known) cs

-- the same of blobs
abbrev pub with_blobs : List Bytes → List Bytes → List Bytes
with_blobs known [] = known
with_blobs known (b ∷ bs) = with_blobs (if list_any (same_bytes b) known then known else b ∷ known) bs

-- ---- what may be brought

-- a valid tree, and a body that is one of this commit
pub record IsWhole (c : Snapshot) : Type 0 where
  pub tree : IsTree c.tree
  pub body : IsCommitBody (snapshot_commit c) (commit_body (snapshot_commit c))
  pub bytes : is_bytes (commit_body (snapshot_commit c)) ≡ true

-- commits, each behind its parents
abbrev pub AreWhole : List Snapshot → List Snapshot → Type 0
AreWhole known [] = ⊤
AreWhole known (c ∷ cs) = IsWhole c × (list_all (is_among known) c.parents ≡ true) × AreWhole (c ∷ known) cs

-- each leaf's blob is one of these
abbrev pub has_leaves : List Bytes → Flat → Bool
has_leaves blobs t = list_all (λ e. list_all (λ o. list_any (same_bytes o.body) blobs) (leaf_objects e.1)) t

-- no two of these objects have one name
abbrev pub AreApart : List Object → Type 0
AreApart os = (o d : Object) → Contains os o → Contains os d → object_name o ≡ object_name d → o ≡ d

pub record IsBrought (h : Held) (blobs : List Bytes) (cs : List Snapshot) : Type 0 where
  pub store : IsStore h.objects
  pub apart : AreApart (h.objects ++ objects_of blobs cs)
  pub bytes : list_all is_bytes blobs ≡ true
  pub commits : AreWhole (repo h).commits cs
  pub leaves : list_all (λ c. has_leaves (blobs ++ (repo h).blobs) c.tree) cs ≡ true

-- within the limits of objects
pub record AreSmall (bs : List Bytes) (cs : List Snapshot) : Type 0 where
  pub blobs : list_all (λ b. nat_le (length b) BLOB_BYTES) bs ≡ true
  pub commits : list_all (λ c. tree_fits c.tree && nat_le (length c.letter.message) MESSAGE_BYTES) cs ≡ true

-- refs to these commits
pub record AreRefsTo (cs : List Snapshot) (es : Refs) : Type 0 where
  pub names : list_all (λ e. is_ref_name e.0) es ≡ true
  pub heads : list_all (λ e. is_among cs e.1) es ≡ true

-- ---- the state

-- the commits and the known blobs are those before with the new ones, and refs are as they were where they aren't set
pub record IsImported (h g : Held) (bs : List Bytes) (cs : List Snapshot) (es : Refs) : Type 0 where
  pub store : IsStore g.objects
  pub blobs : (repo g).blobs ≡ with_blobs (repo h).blobs bs
  pub commits : (repo g).commits ≡ with_commits (repo h).commits cs
  pub refs : (r : Bytes)
      → find_entry bytes_cmp r g.refs ≡ option_or (find_entry bytes_cmp r (with_refs [] es)) (find_entry bytes_cmp r h.refs)
  pub kept : g.kept ≡ h.kept
  pub rule : g.rule ≡ h.rule
  -- nothing is held beside the state's objects, where nothing was before
  pub nothing_more : are_used h.objects ≡ true → are_used g.objects ≡ true

abbrev pub ImportedLaw : Type 0
ImportedLaw = (h : Held) (blobs : List Bytes) (cs : List Snapshot) (refs : Refs) → IsBrought h blobs cs
    → IsImported h (held_after h (change_plan h (objects_of blobs cs) refs)) blobs cs refs

-- A change that brings whole commits, within the limits of objects, may be added.
abbrev pub ChangeLaw : Type 0
ChangeLaw = (h : Held) (blobs : List Bytes) (cs : List Snapshot) (refs : Refs) → IsBrought h blobs cs
    → AreSmall blobs cs → AreRefsTo (with_commits (repo h).commits cs) refs
    → IsAddition h (change_plan h (objects_of blobs cs) refs)

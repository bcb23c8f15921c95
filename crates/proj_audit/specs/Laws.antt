-- What a certificate proves.
use Rattle.std.specs.Prelude.{◌≡◌, ◌≢◌, ◌⊎◌, ◌<◌, ◌^◌, true, List, [], ◌∷◌, ◌++◌, if◌then◌else◌, length, Contains, Option, Some, None, Result, Ok, Err}
use Rattle.std.specs.Option.{option_map}
use Rattle.git_objects.specs.Lists.{Each}
use Rattle.git_objects.specs.Paths.{Bytes, Path, is_nil, is_path}
use Rattle.git_objects.specs.Trees.{Leaf, FileLeaf, ExecLeaf, LinkLeaf, ModuleLeaf, Flat, IsTree, at, under}
use Rattle.git_objects.specs.Names.{leaf_mode, leaf_name}
use Rattle.git_objects.specs.Commits.{Commit, commit_body}
use Rattle.git_objects.specs.CommitBodies.{commit_from}
use Rattle.git_objects.specs.Snapshots.{Snapshot, snapshot_commit, snapshot_name}
use Rattle.git_objects.specs.declared.kind.Kind.TheVariants.{Blob, Commit as CommitKind}
use Rattle.object_store.specs.Objects.{Object, object_name, find_named, has, has_name, body_of, IsStore}
use Rattle.object_store.specs.Hands.{tree_object}
use Rattle.object_store.specs.StoredSnapshots.{snapshot_object}
use Rattle.object_store.specs.TreeObjects.{leaf_objects}
use Rattle.object_store.specs.Unfolding.{flat}
use Rattle.filter_text.specs.Filters.{Filter}
use Rattle.filter_routes.specs.Origins.{origin}
use Rattle.workspace.specs.Laws.{IsUsable}
use Rattle.workspace.specs.Workspaces.{place, resolve, shown}
use Rattle.proj_audit.specs.Readings.{Found, once}
use Rattle.proj_audit.specs.Walks.{commit_leaf, needed}
use Rattle.proj_audit.specs.Texts.{objects}
use Rattle.proj_audit.specs.Certificates.{verify, audit}

-- a leaf as a tree's body has it
abbrev pub found_of : Leaf → Found
found_of x = record { mode = leaf_mode x; name = leaf_name x }

-- ---- the objects of a commit

-- an object of a tree: itself, the tree of a directory, or a leaf's blob
pub data IsPart (t : Flat) (o : Object) : Type 0 where
  Whole : o ≡ tree_object t → IsPart t o
  Directory : (p : Path) → under t p ≢ [] → o ≡ tree_object (under t p) → IsPart t o
  Content : (p : Path) (x : Leaf) → at t p ≡ Some x → leaf_objects x ≡ o ∷ [] → IsPart t o

-- an object of a commit: itself, or one of its tree
abbrev pub IsOf : Snapshot → Object → Type 0
IsOf c o = (o ≡ snapshot_object c) ⊎ IsPart c.tree o

-- One of these objects, and another that has this property, with one name.
pub record Collides (os : List Object) (Own : Object → Type 0) : Type 0 where
  pub read : Object
  pub own : Object
  pub is_read : Contains os read
  pub is_own : Own own
  pub differ : read ≢ own
  pub named : object_name read ≡ object_name own

-- ---- what is accepted

-- What is accepted for a commit's name is what the filter shows of each commit of this name, unless an object of the
-- certificate and another one of that commit have one name.
abbrev pub ProofLaw : Type 0
ProofLaw = (f : Filter) (q : Path) (text : Bytes) (os : List Object) (x : Option Found) (c : Snapshot) →
    IsUsable f → is_path q ≡ true → IsTree c.tree → objects text ≡ Ok os → verify (snapshot_name c) f q text ≡ Ok x →
    (x ≡ option_map found_of (at (shown f c.tree) q)) ⊎ Collides os (IsOf c)

-- What is written of objects that tell the leaf is accepted with this leaf, where the text is so small that each size has
-- at most 20 digits.
abbrev pub AuditLaw : Type 0
AuditLaw = (f : Filter) (q : Path) (os : List Object) (n : Bytes) (x : Option Found) →
    (commit_leaf os f q n).outcome ≡ Ok x → length (audit os f q n) < 2 ^ 64 → verify n f q (audit os f q n) ≡ Ok x

-- What is written of a commit in a store is accepted with the leaf that the filter shows of it.
abbrev pub StoreLaw : Type 0
StoreLaw = (f : Filter) (q : Path) (S : List Object) (n : Bytes) (c : Commit) →
    IsUsable f → is_path q ≡ true → IsStore S → has CommitKind S n ≡ true →
    commit_from (body_of CommitKind S n) ≡ Some c → length (audit S f q n) < 2 ^ 64 →
    verify n f q (audit S f q n) ≡ Ok (option_map found_of (at (shown f (flat S c.tree)) q))

-- Of a commit of a store the same is written by any objects of which each of the store is found under its name.
abbrev pub GrownLaw : Type 0
GrownLaw = (f : Filter) (q : Path) (S T : List Object) (n : Bytes) → IsStore S → has CommitKind S n ≡ true →
    ((o : Object) → Contains S o → find_named T (object_name o) ≡ Some o) → audit T f q n ≡ audit S f q n

-- ---- what is needed

-- The walk of a path in a tree: the tree itself, and then for each component but the last what lies below it, as long as
-- this is a directory.
abbrev pub walk : Path → Flat → List Object
walk [] t = tree_object t ∷ []
walk (c ∷ []) t = tree_object t ∷ []
walk (c ∷ d ∷ p) t =
    tree_object t ∷ (if is_nil (under t (c ∷ [])) then [] else walk (d ∷ p) (under t (c ∷ [])))

-- the blob of a file or executable
abbrev pub text_objects : Option Leaf → List Object
text_objects None = []
text_objects (Some (FileLeaf b)) = record { kind = Blob; body = b } ∷ []
text_objects (Some (ExecLeaf b)) = record { kind = Blob; body = b } ∷ []
text_objects (Some (LinkLeaf b)) = []
text_objects (Some (ModuleLeaf n)) = []

-- where there is a workspace place, its walk and the blob there
abbrev pub items_objects : Flat → Option Path → List Object
items_objects t None = []
items_objects t (Some p) = walk p t ++ text_objects (at t p)

-- the walk of a path, where there is one
abbrev pub walk_to : Flat → Option Path → List Object
walk_to t None = []
walk_to t (Some p) = walk p t

-- the commit, what tells the workspace's items, and the walk of the path that is shown as q
abbrev pub needed_of : Snapshot → Filter → Path → List Object
needed_of c f q = snapshot_object c ∷ (items_objects c.tree (place f) ++ walk_to c.tree (origin (resolve f c.tree) q))

-- Where each object of a commit is found under its name, what is written is what is needed, each once.
abbrev pub NeededLaw : Type 0
NeededLaw = (f : Filter) (q : Path) (os : List Object) (c : Snapshot) → IsUsable f → is_path q ≡ true → IsTree c.tree →
    commit_from (commit_body (snapshot_commit c)) ≡ Some (snapshot_commit c) →
    ((o : Object) → IsOf c o → find_named os (object_name o) ≡ Some o) →
    needed os f q (snapshot_name c) ≡ once (needed_of c f q)

-- ---- what isn't proved

-- the name of the first of these objects whose name no object has
abbrev pub first_missing : List Object → List Object → Option Bytes
first_missing os [] = None
first_missing os (o ∷ us) = if has_name os (object_name o) then first_missing os us else Some (object_name o)

-- what is told, unless a name is missing
abbrev pub unless_missing : {A : Type 0} → Option Bytes → A → Result A Bytes
unless_missing None x = Ok x
unless_missing (Some n) x = Err n

-- each is found under its name, or nothing is
abbrev pub HaveNoOther : List Object → List Object → Type 0
HaveNoOther os us = Each (λ o. (find_named os (object_name o) ≡ Some o) ⊎ (find_named os (object_name o) ≡ None)) us

-- Where no other object has the name of a needed one, the refusal names the first needed object that isn't there.
abbrev pub MissingLaw : Type 0
MissingLaw = (f : Filter) (q : Path) (os ps : List Object) (n : Bytes) (x : Option Found) →
    (commit_leaf os f q n).outcome ≡ Ok x → HaveNoOther ps (commit_leaf os f q n).used →
    (commit_leaf ps f q n).outcome ≡ unless_missing (first_missing ps (commit_leaf os f q n).used) x

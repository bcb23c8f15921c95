-- Objects, and the objects of a store from the newest to the oldest.
use Rattle.std.specs.Prelude.{◌≡◌, Bool, true, false, not, cond, ◌&&◌, ◌||◌, List, [], ◌∷◌, Option, Some, None, ⊤}
use Rattle.std.specs.Option.{is_none, option_map_or}
use Rattle.git_objects.specs.Paths.{Bytes, is_bytes, is_nil, same_bytes}
use Rattle.git_objects.specs.Names.{name}
use Rattle.git_objects.specs.Bodies.{tree_entries}
use Rattle.git_objects.specs.Commits.{Commit}
use Rattle.git_objects.specs.CommitBodies.{commit_from}
use Rattle.git_objects.specs.declared.entry.Entry.{Entry}
use Rattle.git_objects.specs.declared.kind.Kind.{Kind}
use Rattle.git_objects.specs.declared.kind.Kind.TheVariants.{Blob, Tree, Commit as CommitKind}
use Rattle.git_objects.specs.declared.mode.Mode.{Mode}
use Rattle.git_objects.specs.declared.mode.Mode.TheVariants.{File, Exec, Link, Module, Dir}

pub record Object : Type 0 where
  pub kind : Kind
  pub body : Bytes

abbrev pub object_name : Object → Bytes
object_name o = name o.kind o.body

abbrev pub same_kind : Kind → Kind → Bool
same_kind Blob Blob = true
same_kind Tree Tree = true
same_kind CommitKind CommitKind = true
same_kind _ _ = false

-- ---- what is held, from the newest to the oldest

-- the object of that name
unfoldable pub find_named : List Object → Bytes → Option Object
find_named [] n = None
find_named (o ∷ older) n = cond (same_bytes (object_name o) n) (Some o) (find_named older n)

abbrev pub is_named : Kind → Object → Bytes → Bool
is_named k o n = same_kind k o.kind && same_bytes (object_name o) n

-- whether an object of that kind has that name
unfoldable pub has : Kind → List Object → Bytes → Bool
has k [] n = false
has k (o ∷ older) n = is_named k o n || has k older n

-- whether an object of any kind has it
unfoldable pub has_name : List Object → Bytes → Bool
has_name [] n = false
has_name (o ∷ older) n = same_bytes (object_name o) n || has_name older n

-- the body of the object of that kind and name
unfoldable pub body_of : Kind → List Object → Bytes → Bytes
body_of k [] n = []
body_of k (o ∷ older) n = cond (is_named k o n) o.body (body_of k older n)

-- ---- children

-- Whether an entry's child is held: a blob, or a tree with a body. A module's commit is never looked for.
abbrev pub has_child : List Object → Mode → Bytes → Bool
has_child S File n = has Blob S n
has_child S Exec n = has Blob S n
has_child S Link n = has Blob S n
has_child S Module n = true
has_child S Dir n = has Tree S n && not (is_nil (body_of Tree S n))

-- the first entry whose child isn't held
abbrev pub missing_entry : List Object → List Entry → Option Bytes
missing_entry S [] = None
missing_entry S (e ∷ es) = cond (has_child S e.mode e.name.0) (missing_entry S es) (Some e.name.0)

abbrev pub missing_parent : List Object → List Bytes → Option Bytes
missing_parent S [] = None
missing_parent S (p ∷ ps) = cond (has CommitKind S p) (missing_parent S ps) (Some p)

-- a commit's tree, which may be empty, and then its parents
abbrev pub missing_of_commit : List Object → Commit → Option Bytes
missing_of_commit S c = cond (has Tree S c.tree) (missing_parent S c.parents) (Some c.tree)

-- ---- stores

-- whether these bytes are a body of that kind whose children are held
abbrev pub is_body : List Object → Kind → Bytes → Bool
is_body S Blob b = is_bytes b
is_body S Tree b = is_bytes b && option_map_or (λ es. is_none (missing_entry S es)) (tree_entries b) false
is_body S CommitKind b = is_bytes b && option_map_or (λ c. is_none (missing_of_commit S c)) (commit_from b) false

-- names distinct, children first
abbrev pub IsStore : List Object → Type 0
IsStore [] = Unit
IsStore (o ∷ older) = (is_body older o.kind o.body ≡ true) × (has_name older (object_name o) ≡ false) × IsStore older

abbrev pub HasChildren : List Object → List Entry → Type 0
HasChildren S [] = ⊤
HasChildren S (e ∷ es) = (has_child S e.mode e.name.0 ≡ true) × HasChildren S es

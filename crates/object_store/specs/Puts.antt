-- Why an object is not taken in.
use Rattle.std.specs.Prelude.{Bool, cond, ◌&&◌, List, ◌∷◌, Option, Some, None}
use Rattle.git_objects.specs.Paths.{Bytes, same_bytes}
use Rattle.git_objects.specs.Names.{name}
use Rattle.git_objects.specs.Bodies.{tree_entries}
use Rattle.git_objects.specs.CommitBodies.{commit_from}
use Rattle.git_objects.specs.declared.kind.Kind.{Kind}
use Rattle.git_objects.specs.declared.kind.Kind.TheVariants.{Blob, Tree, Commit as CommitKind}
use Rattle.git_objects.specs.Commits.{Commit}
use Rattle.git_objects.specs.declared.entry.Entry.{Entry}
use Rattle.object_store.specs.Objects.{Object, same_kind, find_named, has_name, missing_entry, missing_of_commit}

-- a refusal
pub data Refusal : Type 0 where
  -- the bytes are no body of that kind
  NotBody : Refusal
  -- a child of this name isn't held with its kind, or is an empty tree below another
  Missing : Bytes → Refusal
  -- another kind or body has the object's own name
  Collides : Bytes → Refusal

abbrev pub if_missing : Option Bytes → Option Refusal → Option Refusal
if_missing None later = later
if_missing (Some n) later = Some (Missing n)

abbrev pub same_object : Kind → Bytes → Object → Bool
same_object k b o = same_kind k o.kind && same_bytes b o.body

-- what is held under the name
abbrev pub collision : Kind → Bytes → Option Object → Option Refusal
collision k b None = None
collision k b (Some o) = cond (same_object k b o) None (Some (Collides (name k b)))

abbrev pub of_tree : List Object → Option (List Entry) → Option Refusal → Option Refusal
of_tree S None later = Some NotBody
of_tree S (Some es) later = if_missing (missing_entry S es) later

abbrev pub of_commit : List Object → Option Commit → Option Refusal → Option Refusal
of_commit S None later = Some NotBody
of_commit S (Some c) later = if_missing (missing_of_commit S c) later

abbrev pub of_body : List Object → Kind → Bytes → Option Refusal → Option Refusal
of_body S Blob b later = later
of_body S Tree b later = of_tree S (tree_entries b) later
of_body S CommitKind b later = of_commit S (commit_from b) later

-- the first fault in this order: the body, the first child in its order, the name
abbrev pub refusal : List Object → Kind → Bytes → Option Refusal
refusal S k b = of_body S k b (collision k b (find_named S (name k b)))

-- the objects, the newest first, after an object that is taken in: what is held already changes nothing
abbrev pub with_object : List Object → Kind → Bytes → List Object
with_object S k b = cond (has_name S (name k b)) S (record { kind = k; body = b } ∷ S)

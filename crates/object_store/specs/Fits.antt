-- What is within the limits of stored objects.
use Rattle.std.specs.Prelude.{Bool, false, ◌&&◌, nat_le, List, [], length, ◌||◌}
use Rattle.std.specs.Option.{option_map_or, unwrap_or}
use Rattle.git_objects.specs.declared.limits.TheConstants.{TREE_FILES, TREE_DEPTH, TREE_PATH_BYTES, BLOB_BYTES, MESSAGE_BYTES}
use Rattle.git_objects.specs.Paths.{Bytes, same_bytes}
use Rattle.git_objects.specs.Trees.{Flat}
use Rattle.git_objects.specs.Names.{depth}
use Rattle.git_objects.specs.Bodies.{tree_entries}
use Rattle.git_objects.specs.CommitBodies.{commit_from}
use Rattle.git_objects.specs.declared.kind.Kind.{Kind}
use Rattle.git_objects.specs.declared.kind.Kind.TheVariants.{Blob, Tree, Commit}
use Rattle.object_store.specs.Objects.{Object, same_kind, has, body_of, object_name}
use Rattle.object_store.specs.Unfolding.{joined, flat}
use Rattle.object_store.specs.Sizes.{longest}
use Rattle.std.specs.List.{list_any}

-- whether a tree has few files, and no path of many components or bytes
abbrev pub tree_fits : Flat → Bool
tree_fits t = nat_le (length t) TREE_FILES && nat_le (depth t) TREE_DEPTH && nat_le (longest t) TREE_PATH_BYTES

-- the flat map of a tree with this body
abbrev pub tree_map : List Object → Bytes → Flat
tree_map S b = joined (body_of Blob S) (flat S) (unwrap_or (tree_entries b) [])

-- whether a blob, a tree or a commit's message is within its limits
abbrev pub body_fits : List Object → Kind → Bytes → Bool
body_fits S Blob b = nat_le (length b) BLOB_BYTES
body_fits S Tree b = tree_fits (tree_map S b)
body_fits S Commit b = option_map_or (λ c. nat_le (length c.letter.message) MESSAGE_BYTES) (commit_from b) false

abbrev pub is_commit : Object → Bool
is_commit o = same_kind Commit o.kind

-- whether a leaf's blob is held or one of these
abbrev pub is_known : List Object → List Bytes → Object → Bool
is_known H blobs o = has Blob H (object_name o) || list_any (same_bytes (object_name o)) blobs

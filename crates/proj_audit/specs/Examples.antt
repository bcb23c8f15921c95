-- Worked examples.
use Rattle.std.specs.Prelude.{◌≡◌, refl, List, [], ◌∷◌, map, length, take, codes, Option, None, Result, Ok, Err}
use Rattle.std.specs.Fmt.{digits}
use Rattle.sha1.specs.Sha1.{sha1, first_words, schedule, rounds, compress, hash_after, digest_bytes}
use Rattle.hex.specs.Hex.{encode_with, decode_pairs}
use Rattle.git_objects.specs.Bodies.{tree_entries}
use Rattle.git_objects.specs.CommitBodies.{commit_from}
use Rattle.git_objects.specs.Commits.{commit_body, commit_name}
use Rattle.git_objects.specs.Idents.{is_ident}
use Rattle.git_objects.specs.Names.{name, body, line, tree_name}
use Rattle.git_objects.specs.Paths.{Bytes, Path}
use Rattle.git_objects.specs.Snapshots.{Snapshot, snapshot_name}
use Rattle.git_objects.specs.Trees.{FileLeaf, Flat}
use Rattle.git_objects.specs.declared.kind.Kind.TheVariants.{Blob}
use Rattle.object_store.specs.Hands.{tree_object}
use Rattle.object_store.specs.Objects.{Object, find_named, has_name}
use Rattle.object_store.specs.StoredSnapshots.{snapshot_object}
use Rattle.filter_text.specs.Filters.{Filter, sub}
use Rattle.workspace.specs.Workspaces.{with_leaf}
use Rattle.proj_audit.specs.Certificates.{Fault, Syntax, NotProved, found_text, audit, verify}
use Rattle.proj_audit.specs.Readings.{Found}
use Rattle.proj_audit.specs.Texts.{object_text, objects}

-- what a theorem about names unfolds, so that it computes
unfoldable naming : Option Path
unfolding commit_name commit_body encode_with body line name digits first_words schedule rounds compress hash_after digest_bytes sha1
naming = None

-- what one about certificates unfolds beside it
unfoldable proving : Option Path
unfolding find_named has_name tree_entries commit_from decode_pairs is_ident with_leaf
proving = None

abbrev hello : Bytes
hello = codes "hello\n"

abbrev f : Path
f = codes "f" ∷ []

-- one commit with the file `f` in the directory `a`
abbrev first : Snapshot
first = record {
  tree = (codes "a" ∷ f, FileLeaf hello) ∷ [];
  parents = [];
  letter = record { author = codes "A <a@x> 1700000000 +0000"; committer = codes "A <a@x> 1700000000 +0000"; message = codes "init\n" };
}

abbrev directory : Flat
directory = (f, FileLeaf hello) ∷ []

abbrev stored : List Object
stored = snapshot_object first ∷ tree_object first.tree ∷ tree_object directory ∷ record { kind = Blob; body = hello } ∷ []

abbrev view : Filter
view = sub (codes "a" ∷ [])

abbrev text : Bytes
text = audit stored view f (snapshot_name first)

-- what a check of a text writes
abbrev answer : Result (Option Found) Fault → Result Bytes Fault
answer (Ok x) = Ok (found_text x)
answer (Err e) = Err e

pub its_length : length text ≡ 214
unfolding naming proving
its_length = refl

-- the commit and the two trees, each with its first line and the LF behind it
pub its_parts : map (λ o. length (object_text o)) (snapshot_object first ∷ tree_object first.tree ∷ tree_object directory ∷ [])
    ≡ 131 ∷ 37 ∷ 38 ∷ []
unfolding naming
its_parts = refl

pub accepted : answer (verify (snapshot_name first) view f text) ≡ Ok (codes "100644 ce013625030ba8dba906f756967f9e9ca394464a\n")
unfolding naming proving
accepted = refl

pub nothing_there : answer (verify (snapshot_name first) view (codes "g" ∷ []) text) ≡ Ok (codes "absent\n")
unfolding naming proving
nothing_there = refl

pub without_a_tree : verify (snapshot_name first) view f (take 176 text) ≡ Err (NotProved (tree_name directory))
unfolding naming proving
without_a_tree = refl

-- the place of the second object's first line
pub cut_off : verify (snapshot_name first) view f (take 175 text) ≡ Err (Syntax 139)
unfolding naming proving
cut_off = refl

pub no_text : objects [] ≡ Err 0
no_text = refl

pub no_end_of_line : objects (codes "audit 1\nblob 0") ≡ Err 8
no_end_of_line = refl

pub no_size : objects (codes "audit 1\nblob \n\n") ≡ Err 8
no_size = refl

pub zeros_in_front : objects (codes "audit 1\nblob 00000000000000000001\nx\n")
    ≡ Ok (record { kind = Blob; body = codes "x" } ∷ [])
zeros_in_front = refl

pub long_size : objects (codes "audit 1\nblob 000000000000000000001\nx\n") ≡ Err 8
long_size = refl

pub great_size : objects (codes "audit 1\nblob 0\n\nblob 99999999999999999999\nx\n") ≡ Err 16
great_size = refl

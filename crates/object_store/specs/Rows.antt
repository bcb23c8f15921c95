-- Worked examples.
use Rattle.std.specs.Prelude.{◌≡◌, refl, List, [], ◌∷◌, ◌++◌, codes, Some, None}
use Rattle.std.specs.Fmt.{digits}
use Rattle.hex.specs.Hex.{encode_with, decode_pairs}
use Rattle.sha1.specs.Sha1.{sha1, first_words, schedule, rounds, compress, hash_after, digest_bytes}
use Rattle.git_objects.specs.Paths.{Bytes}
use Rattle.git_objects.specs.Trees.{FileLeaf, ModuleLeaf}
use Rattle.git_objects.specs.Names.{name, line}
use Rattle.git_objects.specs.Idents.{is_ident}
use Rattle.git_objects.specs.Commits.{commit_body}
use Rattle.git_objects.specs.Bodies.{tree_entries}
use Rattle.git_objects.specs.CommitBodies.{commit_from}
use Rattle.git_objects.specs.declared.kind.Kind.TheVariants.{Blob, Tree, Commit as CommitKind}
use Rattle.git_objects.specs.declared.mode.Mode.TheVariants.{File, Module, Dir}
use Rattle.object_store.specs.Objects.{Object, find_named, has, has_name, body_of}
use Rattle.object_store.specs.Puts.{NotBody, Missing, refusal, with_object}
use Rattle.object_store.specs.Unfolding.{flat}

abbrev hello : Bytes
hello = codes "hello" ++ 10 ∷ []

abbrev hello_name : Bytes
hello_name = name Blob hello

-- a directory with the file f
abbrev one_file : Bytes
one_file = line File (codes "f") hello_name

-- a directory with the directory d
abbrev nested : Bytes → Bytes
nested body = line Dir (codes "d") (name Tree body)

abbrev commit : Bytes → Bytes
commit tree = commit_body (record { tree = tree; parents = []; letter = record { author = codes "A <a@x> 1 +0"; committer = codes "A <a@x> 1 +0"; message = [] } })

-- the blob, and then the tree that has it
abbrev blob_stored : List Object
blob_stored = with_object [] Blob hello

abbrev tree_stored : List Object
tree_stored = with_object blob_stored Tree one_file

pub nothing_held : find_named [] hello_name ≡ None
unfolding find_named name digits first_words schedule rounds compress hash_after digest_bytes sha1
nothing_held = refl

pub blob_taken : refusal [] Blob hello ≡ None
unfolding find_named name digits first_words schedule rounds compress hash_after digest_bytes sha1
blob_taken = refl

pub blob_held : find_named blob_stored hello_name ≡ Some (record { kind = Blob; body = hello })
unfolding find_named has_name name digits first_words schedule rounds compress hash_after digest_bytes sha1
blob_held = refl

pub blob_again : with_object blob_stored Blob hello ≡ blob_stored
unfolding has_name name digits first_words schedule rounds compress hash_after digest_bytes sha1
blob_again = refl

pub blob_again_taken : refusal blob_stored Blob hello ≡ None
unfolding find_named has_name name digits first_words schedule rounds compress hash_after digest_bytes sha1
blob_again_taken = refl

pub absent_child : refusal [] Tree one_file ≡ Some (Missing hello_name)
unfolding tree_entries line find_named has name digits first_words schedule rounds compress hash_after digest_bytes sha1
absent_child = refl

pub child_of_another_kind : refusal blob_stored Tree (line Dir (codes "d") hello_name) ≡ Some (Missing hello_name)
unfolding tree_entries line find_named has has_name body_of name digits first_words schedule rounds compress hash_after digest_bytes sha1
child_of_another_kind = refl

pub tree_taken : refusal blob_stored Tree one_file ≡ None
unfolding tree_entries line find_named has has_name name digits first_words schedule rounds compress hash_after digest_bytes sha1
tree_taken = refl

pub tree_unfolded : flat tree_stored (name Tree one_file) ≡ (codes "f" ∷ [], FileLeaf hello) ∷ []
unfolding flat body_of tree_entries line has_name name digits first_words schedule rounds compress hash_after digest_bytes sha1
tree_unfolded = refl

pub nested_unfolded : flat (with_object tree_stored Tree (nested one_file)) (name Tree (nested one_file)) ≡ (codes "d" ∷ codes "f" ∷ [], FileLeaf hello) ∷ []
unfolding flat body_of tree_entries line has_name name digits first_words schedule rounds compress hash_after digest_bytes sha1
nested_unfolded = refl

-- a module's commit is never looked for
pub module_unfolded : flat (with_object [] Tree (line Module (codes "m") hello_name)) (name Tree (line Module (codes "m") hello_name)) ≡ (codes "m" ∷ [], ModuleLeaf hello_name) ∷ []
unfolding flat body_of tree_entries line has_name name digits first_words schedule rounds compress hash_after digest_bytes sha1
module_unfolded = refl

pub module_taken : refusal [] Tree (line Module (codes "m") hello_name) ≡ None
unfolding tree_entries line find_named has name digits first_words schedule rounds compress hash_after digest_bytes sha1
module_taken = refl

pub empty_subtree : refusal (with_object [] Tree []) Tree (nested []) ≡ Some (Missing (name Tree []))
unfolding tree_entries line find_named has has_name body_of name digits first_words schedule rounds compress hash_after digest_bytes sha1
empty_subtree = refl

pub no_tree : refusal [] Tree (codes "x") ≡ Some NotBody
unfolding tree_entries find_named name digits first_words schedule rounds compress hash_after digest_bytes sha1
no_tree = refl

pub commit_without_tree : refusal [] CommitKind (commit hello_name) ≡ Some (Missing hello_name)
unfolding commit_from decode_pairs is_ident commit_body encode_with find_named has name digits first_words schedule rounds compress hash_after digest_bytes sha1
commit_without_tree = refl

pub commit_of_empty_tree : refusal (with_object [] Tree []) CommitKind (commit (name Tree [])) ≡ None
unfolding commit_from decode_pairs is_ident commit_body encode_with find_named has has_name name digits first_words schedule rounds compress hash_after digest_bytes sha1
commit_of_empty_tree = refl

-- Worked examples.
use Rattle.std.specs.Prelude.{◌≡◌, ◌^◌, refl, [], ◌∷◌, ◌++◌, codes, true, false, length, replicate, Some, None}
use Rattle.std.specs.Fmt.{digits}
use Rattle.git_objects.specs.declared.limits.TheConstants.{TREE_FILES, COMMITS, OBJECTS, ITEM_BYTES, ITEMS, STORE_BYTES, STREAM_BYTES}
use Rattle.git_objects.specs.Paths.{Bytes, Path, is_component, is_path, comparable, before, text}
use Rattle.git_objects.specs.Trees.{Flat, FileLeaf, LeafNode, put, remove, under}
use Rattle.git_objects.specs.Names.{name, body, tree_name, tops, line}
use Rattle.git_objects.specs.Idents.{is_ident}
use Rattle.git_objects.specs.Commits.{Commit, commit_body, commit_name, hex}
use Rattle.git_objects.specs.declared.kind.Kind.TheVariants.{Blob}
use Rattle.git_objects.specs.Bodies.{tree_entries}
use Rattle.git_objects.specs.CommitBodies.{commit_from}
use Rattle.git_objects.specs.declared.mode.Mode.TheVariants.{File}
use Rattle.hex.specs.Hex.{encode_with, decode_pairs}
use Rattle.sha1.specs.Sha1.{sha1, first_words, schedule, rounds, compress, hash_after, digest_bytes}

-- ---- components and paths

pub git_is_no_component : is_component (codes ".git") ≡ false
git_is_no_component = refl

pub git_ignore_is_one : is_component (codes ".gitignore") ≡ true
git_ignore_is_one = refl

pub dots_are_none : is_component (codes "..") ≡ false
dots_are_none = refl

pub three_dots_are_one : is_component (codes "...") ≡ true
three_dots_are_one = refl

pub nothing_is_none : is_component [] ≡ false
nothing_is_none = refl

pub a_slash_is_none : is_component (codes "a/b") ≡ false
a_slash_is_none = refl

pub a_zero_byte_is_none : is_component (97 ∷ 0 ∷ []) ≡ false
a_zero_byte_is_none = refl

pub no_byte_is_none : is_component (97 ∷ 256 ∷ []) ≡ false
no_byte_is_none = refl

pub no_path_is_empty : is_path [] ≡ false
no_path_is_empty = refl

abbrev a : Path
a = codes "a" ∷ []

abbrev a_x : Path
a_x = codes "a" ∷ codes "x" ∷ []

abbrev a_txt : Path
a_txt = codes "a.txt" ∷ []

abbrev a0 : Path
a0 = codes "a0" ∷ []

pub joined_by_slashes : text a_x ≡ codes "a/x"
joined_by_slashes = refl

pub a_prefix_is_comparable : comparable a_x a ≡ true
a_prefix_is_comparable = refl

pub a_longer_component_is_not : comparable a a0 ≡ false
a_longer_component_is_not = refl

pub dot_before_slash : before a_txt a_x ≡ true
dot_before_slash = refl

pub slash_before_digit : before a_x a0 ≡ true
slash_before_digit = refl

pub a_prefix_before : before a a_txt ≡ true
a_prefix_before = refl

-- ---- trees

abbrev file_at : Flat → Path → Bytes → Flat
file_at t p b = put t p (LeafNode (FileLeaf b))

abbrev small : Flat
small = file_at (file_at (file_at [] a0 []) a_x []) a_txt []

pub in_git's_order : tops small ≡ codes "a.txt" ∷ codes "a" ∷ codes "a0" ∷ []
unfolding put
in_git's_order = refl

pub a_file_in_a_directory's_place : file_at small a [] ≡ (a, FileLeaf []) ∷ (a_txt, FileLeaf []) ∷ (a0, FileLeaf []) ∷ []
unfolding put
a_file_in_a_directory's_place = refl

pub a_file_below_a_file : file_at (file_at [] a []) a_x [] ≡ (a_x, FileLeaf []) ∷ []
unfolding put
a_file_below_a_file = refl

pub a_directory_removed : remove small a ≡ (a_txt, FileLeaf []) ∷ (a0, FileLeaf []) ∷ []
unfolding put remove
a_directory_removed = refl

pub below_a_directory : under small a ≡ (codes "x" ∷ [], FileLeaf []) ∷ []
unfolding put
below_a_directory = refl

pub nothing_below_a_file : under small a_txt ≡ []
unfolding put
nothing_below_a_file = refl

-- ---- names, as Git gives them

pub empty_blob : hex (name Blob []) ≡ codes "e69de29bb2d1d6434b8b29ae775ad8c2e48c5391"
unfolding name digits encode_with first_words schedule rounds compress hash_after digest_bytes sha1
empty_blob = refl

pub empty_tree : hex (tree_name []) ≡ codes "4b825dc642cb6eb9a060e54bf8d69288fbee4904"
unfolding body line name digits encode_with first_words schedule rounds compress hash_after digest_bytes sha1
empty_tree = refl

abbrev hello : Bytes
hello = codes "hello" ++ 10 ∷ []

pub hello_blob : hex (name Blob hello) ≡ codes "ce013625030ba8dba906f756967f9e9ca394464a"
unfolding name digits encode_with first_words schedule rounds compress hash_after digest_bytes sha1
hello_blob = refl

-- one file: the mode, a space, its component, a zero byte and 20 bytes
abbrev one_file : Flat
one_file = file_at [] (codes "f" ∷ []) hello

pub one_entry : body one_file ≡ codes "100644 f" ++ 0 ∷ [] ++ name Blob hello
unfolding body line name digits first_words schedule rounds compress hash_after digest_bytes sha1 put
one_entry = refl

pub one_entry_long : length (body one_file) ≡ 29
unfolding body line name digits first_words schedule rounds compress hash_after digest_bytes sha1 put
one_entry_long = refl

-- a nested tree with neighbours that sort around its slash
pub small_tree : hex (tree_name small) ≡ codes "9517d7028f8f6e1c62b008935435318145fdd832"
unfolding body line name digits encode_with first_words schedule rounds compress hash_after digest_bytes sha1 put
small_tree = refl

-- ---- idents

abbrev ident : Bytes
ident = codes "A <a@x> 1700000000 +0000"

pub an_ident : is_ident ident ≡ true
unfolding is_ident
an_ident = refl

pub no_name : is_ident (codes "<a@x> 1 +0") ≡ true
unfolding is_ident
no_name = refl

pub a_space_as_name : is_ident (codes " <> 1 -0") ≡ true
unfolding is_ident
a_space_as_name = refl

pub no_email : is_ident (codes "A a@x 1 +0000") ≡ false
unfolding is_ident
no_email = refl

pub no_space_behind_the_name : is_ident (codes "A<a@x> 1 +0000") ≡ false
unfolding is_ident
no_space_behind_the_name = refl

pub two_brackets : is_ident (codes "A <a<@x> 1 +0000") ≡ false
unfolding is_ident
two_brackets = refl

pub no_sign : is_ident (codes "A <a@x> 1 0000") ≡ false
unfolding is_ident
no_sign = refl

pub no_zone : is_ident (codes "A <a@x> 1 +") ≡ false
unfolding is_ident
no_zone = refl

pub eighteen_digits : is_ident (codes "A <a@x> 123456789012345678 +12345678") ≡ true
unfolding is_ident
eighteen_digits = refl

pub nineteen_digits : is_ident (codes "A <a@x> 1234567890123456789 +0") ≡ false
unfolding is_ident
nineteen_digits = refl

pub nine_digits_of_zone : is_ident (codes "A <a@x> 1 +123456789") ≡ false
unfolding is_ident
nine_digits_of_zone = refl

-- ---- commits

abbrev root : Commit
root = record { tree = tree_name one_file; parents = []; letter = record { author = ident; committer = ident; message = codes "init" ++ 10 ∷ [] } }

pub root_long : length (commit_body root) ≡ 119
unfolding commit_body encode_with body line name digits first_words schedule rounds compress hash_after digest_bytes sha1 put
root_long = refl

pub merge_body : commit_body (record { tree = 1 ∷ []; parents = (2 ∷ []) ∷ (171 ∷ []) ∷ []; letter = record { author = codes "a"; committer = codes "c"; message = codes "m" } })
    ≡ codes "tree 01\nparent 02\nparent ab\nauthor a\ncommitter c\n\nm"
unfolding commit_body encode_with
merge_body = refl

pub root_name : hex (commit_name root) ≡ codes "6a27ff6de5d45a65cc66723c6ae6227ea6004aa6"
unfolding commit_name commit_body encode_with body line name digits first_words schedule rounds compress hash_after digest_bytes sha1 put
root_name = refl

-- ---- bodies that are read

abbrev zeros : Bytes
zeros = replicate 20 0

pub one_entry_read : tree_entries (codes "100644 f" ++ 0 ∷ [] ++ zeros) ≡ Some (record { mode = File; component = codes "f"; name = record { 0 = zeros } } ∷ [])
unfolding tree_entries
one_entry_read = refl

pub nothing_read : tree_entries [] ≡ Some []
unfolding tree_entries
nothing_read = refl

pub cut_short : tree_entries (codes "100644 f" ++ 0 ∷ [] ++ replicate 19 0) ≡ None
unfolding tree_entries
cut_short = refl

pub six_digits_of_a_directory : tree_entries (codes "040000 f" ++ 0 ∷ [] ++ zeros) ≡ None
unfolding tree_entries
six_digits_of_a_directory = refl

pub wrong_order : tree_entries (codes "100644 b" ++ 0 ∷ [] ++ zeros ++ codes "100644 a" ++ 0 ∷ [] ++ zeros) ≡ None
unfolding tree_entries
wrong_order = refl

-- the same component as a file and as a directory, with another between them
pub one_component_twice : tree_entries (codes "100644 a" ++ 0 ∷ [] ++ zeros ++ codes "100644 a.b" ++ 0 ∷ [] ++ zeros ++ codes "40000 a" ++ 0 ∷ [] ++ zeros) ≡ None
unfolding tree_entries
one_component_twice = refl

pub root_read : commit_from (commit_body root) ≡ Some root
unfolding commit_from decode_pairs is_ident commit_body encode_with body line name digits first_words schedule rounds compress hash_after digest_bytes sha1 put
root_read = refl

pub upper_case_digits : commit_from (codes "tree AB00000000000000000000000000000000000000\nauthor <> 1 +0\ncommitter <> 1 +0\n\n") ≡ None
unfolding commit_from decode_pairs is_ident encode_with
upper_case_digits = refl

pub no_message : commit_from (codes "tree ab00000000000000000000000000000000000000\nauthor <> 1 +0\ncommitter <> 1 +0\n\n") ≡ Some (record { tree = 171 ∷ replicate 19 0; parents = []; letter = record { author = codes "<> 1 +0"; committer = codes "<> 1 +0"; message = [] } })
unfolding commit_from decode_pairs is_ident encode_with
no_message = refl

pub no_empty_line : commit_from (codes "tree ab00000000000000000000000000000000000000\nauthor <> 1 +0\ncommitter <> 1 +0\n") ≡ None
unfolding commit_from decode_pairs is_ident encode_with
no_empty_line = refl

-- the largest numbers as the rules have them
pub the_numbers : (TREE_FILES ≡ 2 ^ 20) × (COMMITS ≡ 2 ^ 20) × (OBJECTS ≡ 2 ^ 22) × (ITEM_BYTES ≡ 2 ^ 29) × (ITEMS ≡ 2 ^ 20) × (STORE_BYTES ≡ 2 ^ 31) × (STREAM_BYTES ≡ 2 ^ 28)
the_numbers = (refl, refl, refl, refl, refl, refl, refl)

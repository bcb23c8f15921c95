-- What a stored tree lists, and one entry of it changed.
use Rattle.std.specs.Prelude.{Bool, cond, List, [], ◌∷◌, Option, Some, None}
use Rattle.std.specs.Option.{option_map, option_and_then, unwrap_or}
use Rattle.std.specs.Ordering.{is_lt}
use Rattle.git_objects.specs.Paths.{Bytes, Path, same_bytes}
use Rattle.git_objects.specs.Entries.{is_dir, git_cmp, entry_component, entry_dir}
use Rattle.git_objects.specs.Bodies.{tree_entries}
use Rattle.git_objects.specs.Trees.{Flat, Node, put, remove}
use Rattle.git_objects.specs.declared.entry.Entry.{Entry}
use Rattle.git_objects.specs.declared.kind.Kind.TheVariants.{Tree}
use Rattle.git_objects.specs.declared.name.Name.{Name}
use Rattle.object_store.specs.Objects.{Object, find_named, same_kind}
use Rattle.path_trees.specs.declared.found.Found.{Found}

-- the entries of an object, unless it is no tree
abbrev pub entries_of : Object → Option (List Entry)
entries_of o = cond (same_kind Tree o.kind) (tree_entries o.body) None

-- what the tree of that name lists
abbrev pub listed : List Object → Bytes → Option (List Entry)
listed S n = option_and_then entries_of (find_named S n)

-- and nothing where there is no name
abbrev pub listed_at : List Object → Option Bytes → List Entry
listed_at S n = unwrap_or (option_and_then (listed S) n) []

-- the entry of a component
abbrev pub entry_at : Bytes → List Entry → Option Entry
entry_at c [] = None
entry_at c (e ∷ es) = cond (same_bytes c e.component) (Some e) (entry_at c es)

-- its mode and name
abbrev pub found : Entry → Found
found e = record { mode = e.mode; name = e.name }

abbrev pub found_at : Bytes → List Entry → Option Found
found_at c es = option_map found (entry_at c es)

-- the directory's name, where it is one
abbrev pub directory_of : Found → Option Name
directory_of f = cond (is_dir f.mode) (Some f.name) None

-- ---- one entry changed

abbrev pub named : Bytes → Found → Entry
named c f = record { mode = f.mode; component = c; name = f.name }

-- in Git's order
abbrev pub is_before : Entry → Entry → Bool
is_before a b = is_lt (git_cmp entry_component entry_dir a b)

abbrev pub dropped : Bytes → List Entry → List Entry
dropped c [] = []
dropped c (e ∷ es) = cond (same_bytes c e.component) (dropped c es) (e ∷ dropped c es)

abbrev pub inserted : Entry → List Entry → List Entry
inserted a [] = a ∷ []
inserted a (e ∷ es) = cond (is_before a e) (a ∷ e ∷ es) (e ∷ inserted a es)

abbrev pub with_found : Bytes → Option Found → List Entry → List Entry
with_found c None es = es
with_found c (Some f) es = inserted (named c f) es

-- the component has this, or nothing
abbrev pub changed : Bytes → Option Found → List Entry → List Entry
changed c o es = with_found c o (dropped c es)

-- ---- an edit of a whole tree

-- the path has this, or nothing
abbrev pub edited : Flat → Path → Option Node → Flat
edited t p None = remove t p
edited t p (Some x) = put t p x

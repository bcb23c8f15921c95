-- Names of objects: the SHA-1 of the kind, the length and the body (Git object format).
use Rattle.std.specs.Prelude.{ℕ, zero, suc, List, [], ◌∷◌, ◌++◌, length, max, cond, codes, Option, Some, None}
use Rattle.std.specs.List.{flat_map}
use Rattle.std.specs.Fmt.{decimal}
use Rattle.git_objects.specs.Paths.{Path, Bytes, same_bytes}
use Rattle.git_objects.specs.Trees.{Leaf, FileLeaf, ExecLeaf, LinkLeaf, ModuleLeaf, Flat, under, at}
use Rattle.git_objects.specs.declared.kind.Kind.{Kind}
use Rattle.git_objects.specs.declared.kind.Kind.TheVariants.{Blob, Tree, Commit}
use Rattle.git_objects.specs.declared.mode.Mode.{Mode}
use Rattle.git_objects.specs.declared.mode.Mode.TheVariants.{File, Exec, Link, Module, Dir}
use Rattle.sha1.specs.Sha1.{sha1}

abbrev pub kind_word : Kind → Bytes
kind_word Blob = codes "blob"
kind_word Tree = codes "tree"
kind_word Commit = codes "commit"

-- the kind, a space, the body's length in decimal and a zero byte
abbrev pub header : Kind → Bytes → Bytes
header k body = kind_word k ++ (32 ∷ []) ++ decimal (length body) ++ (0 ∷ [])

-- the 20 bytes
unfoldable pub name : Kind → Bytes → Bytes
name k body = sha1 (header k body ++ body)

abbrev pub mode_text : Mode → Bytes
mode_text File = codes "100644"
mode_text Exec = codes "100755"
mode_text Link = codes "120000"
mode_text Module = codes "160000"
mode_text Dir = codes "40000"

abbrev pub leaf_mode : Leaf → Mode
leaf_mode (FileLeaf b) = File
leaf_mode (ExecLeaf b) = Exec
leaf_mode (LinkLeaf b) = Link
leaf_mode (ModuleLeaf n) = Module

-- a blob's name, or the bytes of the module's
abbrev pub leaf_name : Leaf → Bytes
leaf_name (FileLeaf b) = name Blob b
leaf_name (ExecLeaf b) = name Blob b
leaf_name (LinkLeaf b) = name Blob b
leaf_name (ModuleLeaf n) = n

-- one entry of a body: the mode, a space, the component, a zero byte and the 20 bytes of a name
unfoldable pub line : Mode → Bytes → Bytes → Bytes
line mode c n = mode_text mode ++ (32 ∷ c) ++ (0 ∷ n)

-- the entry of a component with a leaf, or of one with the tree of that name
abbrev pub line_of : Bytes → Option Leaf → Bytes → Bytes
line_of c (Some x) n = line (leaf_mode x) c (leaf_name x)
line_of c None n = line Dir c n

-- the first components, each once, in the order of the paths, which is Git's order of entries
abbrev pub add_top : Bytes → List Bytes → List Bytes
add_top c [] = c ∷ []
add_top c (d ∷ ds) = cond (same_bytes c d) (d ∷ ds) (c ∷ d ∷ ds)

abbrev pub with_top : Path → List Bytes → List Bytes
with_top [] ds = ds
with_top (c ∷ p) ds = add_top c ds

abbrev pub tops : Flat → List Bytes
tops [] = []
tops (e ∷ es) = with_top e.0 (tops es)

-- the body of a tree whose paths have at most n components
abbrev pub body_within : ℕ → Flat → Bytes
body_within zero t = []
body_within (suc n) t = flat_map (λ c. line_of c (at t (c ∷ [])) (name Tree (body_within n (under t (c ∷ []))))) (tops t)

-- the components of the longest path
abbrev pub depth : Flat → ℕ
depth [] = 0
depth (e ∷ es) = max (length e.0) (depth es)

-- one entry for each first component
unfoldable pub body : Flat → Bytes
body t = body_within (depth t) t

abbrev pub tree_name : Flat → Bytes
tree_name t = name Tree (body t)

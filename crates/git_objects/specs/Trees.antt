-- Trees: finite maps from paths to leaves, in which no two paths are comparable.
use Rattle.std.specs.Prelude.{Bool, true, false, not, cond, ◌&&◌, ◌==◌, T, List, [], ◌∷◌, ◌++◌, Option, Some, None, filter, length}
use Rattle.std.specs.List.{list_all, filter_map}
use Rattle.std.specs.FinMap.{put as put_entry, is_sorted}
use Rattle.git_objects.specs.Paths.{Path, Bytes, is_bytes, is_path, path_cmp, comparable, is_prefix, same_bytes, same_path}
use Rattle.std.specs.Option.{option_map, option_or}

-- a file, an executable or a link with a blob's bytes, or a module with the 20 bytes of a name
pub data Leaf : Type 0 where
  FileLeaf : Bytes → Leaf
  ExecLeaf : Bytes → Leaf
  LinkLeaf : Bytes → Leaf
  ModuleLeaf : Bytes → Leaf

abbrev pub is_leaf : Leaf → Bool
is_leaf (FileLeaf b) = is_bytes b
is_leaf (ExecLeaf b) = is_bytes b
is_leaf (LinkLeaf b) = is_bytes b
is_leaf (ModuleLeaf n) = is_bytes n && length n == 20

-- whether both have one mode and the same bytes
abbrev pub same_leaf : Leaf → Leaf → Bool
same_leaf (FileLeaf a) (FileLeaf b) = same_bytes a b
same_leaf (ExecLeaf a) (ExecLeaf b) = same_bytes a b
same_leaf (LinkLeaf a) (LinkLeaf b) = same_bytes a b
same_leaf (ModuleLeaf a) (ModuleLeaf b) = same_bytes a b
same_leaf _ _ = false

-- a map from paths to leaves, as its pairs in path order
abbrev pub Flat : Type 0
Flat = List (Path × Leaf)

-- the leaf at a path
abbrev pub at : Flat → Path → Option Leaf
at [] p = None
at (e ∷ es) p = cond (same_path p e.0) (Some e.1) (at es p)

-- whether no path is comparable with a later one
abbrev pub no_comparable : Flat → Bool
no_comparable [] = true
no_comparable (e ∷ es) = list_all (λ d. not (comparable e.0 d.0)) es && no_comparable es

-- a tree: each path once, in path order, no two comparable
pub record IsTree (t : Flat) : Type 0 where
  pub sorted : T (is_sorted path_cmp t)
  pub paths : T (list_all (λ e. is_path e.0) t)
  pub leaves : T (list_all (λ e. is_leaf e.1) t)
  pub apart : T (no_comparable t)

-- ---- what lies below a path

-- q without p in front, where something is left
abbrev pub rest_below : Path → Path → Option Path
rest_below [] [] = None
rest_below [] (d ∷ q) = Some (d ∷ q)
rest_below (c ∷ p) [] = None
rest_below (c ∷ p) (d ∷ q) = cond (same_bytes c d) (rest_below p q) None

abbrev pub moved : Option Path → Leaf → Option (Path × Leaf)
moved None x = None
moved (Some q) x = Some (q, x)

-- the tree that maps each path q to the leaf of p followed by q
abbrev pub under : Flat → Path → Flat
under t p = filter_map (λ e. moved (rest_below p e.0) e.1) t

-- ---- edits

-- what stands at a path: a leaf, or the tree of all that lies below
pub data Node : Type 0 where
  LeafNode : Leaf → Node
  TreeNode : Flat → Node

-- its leaves by the rests of their paths, of which a leaf's is empty
abbrev pub rests : Node → Flat
rests (LeafNode x) = ([], x) ∷ []
rests (TreeNode t) = t

-- the map without the paths that are comparable with p
abbrev pub without : Flat → Path → Flat
without t p = filter (λ e. not (comparable p e.0)) t

abbrev pub put_all : Path → Flat → Flat → Flat
put_all p [] t = t
put_all p (e ∷ es) t = put_entry path_cmp (p ++ e.0) e.1 (put_all p es t)

-- removes every path that is comparable with p, then adds the leaf or the tree at p
unfoldable pub put : Flat → Path → Node → Flat
put t p x = put_all p (rests x) (without t p)

-- removes p and all below it
unfoldable pub remove : Flat → Path → Flat
remove t p = filter (λ e. not (is_prefix p e.0)) t

-- ---- what stands at a path, and the edits that move it

-- a tree with a path, or nothing
abbrev pub if_full : Flat → Option Node
if_full [] = None
if_full (e ∷ t) = Some (TreeNode (e ∷ t))

-- the leaf at a path, or the tree of all that lies below it, where that has a path
abbrev pub standing : Flat → Path → Option Node
standing t p = option_or (option_map LeafNode (at t p)) (if_full (under t p))

-- puts at p what stands at s. None: nothing does.
abbrev pub copy : Flat → Path → Path → Option Flat
copy t s p = option_map (put t p) (standing t s)

-- takes out what stands at s, and then puts it at p
abbrev pub rename : Flat → Path → Path → Option Flat
rename t s p = option_map (put (remove t s) p) (standing t s)

-- What a filter becomes for a tree, by the file in which the tree lists what the workspace holds.
use Rattle.std.specs.Prelude.{Bool, false, if◌then◌else◌, List, [], ◌∷◌, ◌++◌, map, codes, flat_map, unwrap_or, is_none, Option, Some, None}
use Rattle.std.specs.Option.{option_map, option_and_then, option_map_or}
use Rattle.git_objects.specs.Paths.{Bytes, Path}
use Rattle.git_objects.specs.Trees.{Leaf, FileLeaf, ExecLeaf, LinkLeaf, ModuleLeaf, Flat, at}
use Rattle.filter_text.specs.Filters.{Filter, Filters, nop, sub, onto, dir, file, exclude, join, chain, workspace, no_more, more, append, only, outermost}
use Rattle.filter_text.specs.Reading.{linked}
use Rattle.filter_text.specs.Items.{Item, items}
use Rattle.filter_routes.specs.Images.{image}
use Rattle.filter_routes.specs.Lenses.{seen_through}
use Rattle.filter_routes.specs.Origins.{origin, lens_of}
use Rattle.filter_routes.specs.SoundTests.{is_sound}

-- ---- where the workspace stands in a filter

-- the pieces before a workspace, its directory, and the pieces behind it
pub record Split : Type 0 where
  pub before : Filters
  pub directory : Path
  pub behind : Filters

-- the directory, where a piece is a workspace
abbrev pub directory_of : Filter → Option Path
directory_of nop = None
directory_of (sub a) = None
directory_of (onto a) = None
directory_of (dir a) = None
directory_of (file a) = None
directory_of (exclude f) = None
directory_of (join fs) = None
directory_of (chain fs) = None
directory_of (workspace w) = Some w

-- a split with one piece more in front
abbrev pub in_front : Filter → Split → Split
in_front f s = record { before = more f s.before; directory = s.directory; behind = s.behind }

-- a piece and those behind it, by the directory of the piece if it is a workspace, and by what becomes of those behind
abbrev pub split_at : Filter → Filters → Option Path → Option Split → Option Split
split_at f fs (Some w) later = Some (record { before = no_more; directory = w; behind = fs })
split_at f fs None later = option_map (in_front f) later

-- pieces around the first workspace among them
abbrev pub split_pieces : Filters → Option Split
split_pieces no_more = None
split_pieces (more f fs) = split_at f fs (directory_of f) (split_pieces fs)

-- the filter around its workspace, or none where it has none
abbrev pub split : Filter → Option Split
split f = split_pieces (outermost f)

-- the file in which a workspace lists its items, below the workspace's directory
abbrev pub file_name : Path
file_name = codes "workspace.josh" ∷ []

-- The workspace place: the original path of the workspace's file, which is the one that the pieces before the workspace
-- show as `workspace.josh` in its directory. None where there is no workspace or no such path.
abbrev pub place : Filter → Option Path
place f = option_and_then (λ s. origin (chain s.before) (s.directory ++ file_name)) (split f)

-- ---- the list that takes the workspace's place

-- the fronts of a path other than itself, from short to long
abbrev pub fronts : Path → List Path
fronts [] = []
fronts (c ∷ []) = []
fronts (c ∷ d ∷ p) = (c ∷ []) ∷ map (λ q. c ∷ q) (fronts (d ∷ p))

-- what keeps each path that is comparable with p: all below it, itself, and its fronts
abbrev pub around : Path → List Filter
around p = dir p ∷ file p ∷ map file (fronts p)

-- a list of filters as members of a filter
abbrev pub filters_of : List Filter → Filters
filters_of [] = no_more
filters_of (f ∷ fs) = more f (filters_of fs)

-- the workspace's own directory without each path that is comparable with an item's place
abbrev pub own_branch : Path → List Item → Filter
own_branch w is = chain (more (sub w) (only (exclude (join (filters_of (flat_map (λ i. around i.0) is))))))

-- one branch for each item, in order, and as last branch the workspace's own directory
unfoldable pub listed : Path → List Item → Filter
listed w is = join (append (filters_of (map (λ i. i.1) is)) (only (own_branch w is)))

-- ---- the items of a leaf

-- the bytes of a file or an executable
abbrev pub text_of : Leaf → Option Bytes
text_of (FileLeaf b) = Some b
text_of (ExecLeaf b) = Some b
text_of (LinkLeaf b) = None
text_of (ModuleLeaf n) = None

-- the items that a leaf gives: those of a text that can be read, where the list that they make is sound
abbrev pub readable_items : Path → Leaf → Option (List Item)
readable_items w x = option_and_then (λ is. if is_sound (listed w is) then Some is else None) (option_and_then items (text_of x))

-- the items of the leaf at the workspace place: none where there is no leaf, or one that gives none
abbrev pub leaf_items : Path → Option Leaf → List Item
leaf_items w x = unwrap_or (option_and_then (readable_items w) x) []

-- whether there is a leaf that gives no items
abbrev pub is_unreadable : Path → Option Leaf → Bool
is_unreadable w x = option_map_or (λ l. is_none (readable_items w l)) x false

-- whether there is a leaf at the workspace place that gives no items; false for a filter without a workspace
abbrev pub has_unreadable : Filter → Option Leaf → Bool
has_unreadable f x = option_map_or (λ s. is_unreadable s.directory x) (split f) false

-- ---- resolving

-- the filter with a list in the workspace's place
abbrev pub put_in : Split → Filter → Filter
put_in s f = linked (append s.before (more f s.behind))

-- the filter for a tree that has this leaf at the workspace place, or none there
unfoldable pub with_leaf : Filter → Option Leaf → Filter
with_leaf f x = option_map_or (λ s. put_in s (listed s.directory (leaf_items s.directory x))) (split f) f

-- the filter for a tree
unfoldable pub resolve : Filter → Flat → Filter
resolve f t = with_leaf f (option_and_then (at t) (place f))

-- what a filter shows of a tree
unfoldable pub shown : Filter → Flat → Flat
shown f t = seen_through (lens_of (resolve f t)) t

-- where the filter for t shows the workspace's file
abbrev pub shown_place : Filter → Flat → Option Path
shown_place f t = option_and_then (image (resolve f t)) (place f)

-- the filter for what is made of t by a push of n: by the file in n, where t's filter shows it at all
unfoldable pub next : Filter → Flat → Flat → Filter
next f t n = option_map_or (λ q. with_leaf f (at n q)) (shown_place f t) (resolve f t)

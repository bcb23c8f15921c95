-- Two stored trees that are compared.
use Rattle.std.specs.Prelude.{◌≡◌, true, List, [], ◌∷◌, ◌++◌, length, map, Option, Some, None}
use Rattle.git_objects.specs.Lists.{Each}
use Rattle.git_objects.specs.Paths.{Bytes, Path, text}
use Rattle.git_objects.specs.Trees.{Leaf, Flat}
use Rattle.git_objects.specs.declared.kind.Kind.TheVariants.{Blob, Tree}
use Rattle.git_objects.specs.declared.name.Name.{Name}
use Rattle.git_objects.specs.declared.tree_view.EntryView.{EntryView}
use Rattle.git_objects.specs.Entries.{is_dir}
use Rattle.git_objects.specs.Views.{entry_value}
use Rattle.object_store.specs.Objects.{Object, body_of, has, has_child}
use Rattle.object_store.specs.Unfolding.{entry_flat, flat}
use Rattle.path_trees.specs.Listed.{listed}
use Rattle.path_trees.specs.declared.pairs.Pair.{Pair}
use Rattle.path_trees.specs.declared.pairs.Pair.TheVariants.{Left, Right, Both}
use Rattle.path_trees.specs.Walked.{leaf_of}
use Rattle.incremental_export.specs.Changes.{changed, deleted}
use Rattle.incremental_export.specs.declared.compare.Changes.{Changes}
use Rattle.incremental_export.specs.declared.compare.Level.{Level}
use Rattle.incremental_export.specs.declared.compare.Placed.{Placed}

-- the tree of that name, and none where there is no name
abbrev pub tree_at : List Object → Option Name → Flat
tree_at S None = []
tree_at S (Some n) = flat S n.0

abbrev pub IsHeldTree : List Object → Option Name → Type 0
IsHeldTree S None = Unit
IsHeldTree S (Some n) = has Tree S n.0 ≡ true

-- the texts of paths behind a front
abbrev pub texts_behind : Bytes → List Path → List Bytes
texts_behind front ps = map (λ p. front ++ text p) ps

-- leaves with the texts of their paths behind a front
abbrev pub leaves_behind : Bytes → Flat → List (Bytes × Leaf)
leaves_behind front t = map (λ e. (front ++ text e.0, e.1)) t

-- a leaf that was found, with the text of its path
abbrev pub placed_leaf : List Object → Placed → Bytes × Leaf
placed_leaf S p = (p.path.items, leaf_of (body_of Blob S) p.leaf.mode p.leaf.name.0)

abbrev pub IsHeldLeaf : List Object → Placed → Type 0
IsHeldLeaf S p = has_child S p.leaf.mode p.leaf.name.0 ≡ true

-- what was found so far is that of these two trees behind a front, behind what was found before
pub record IsFound (S : List Object) (front : Bytes) (a b : Flat) (before after : Changes) : Type 0 where
  pub deleted : map (λ t. t.items) after.deleted.items ≡ map (λ t. t.items) before.deleted.items ++ texts_behind front (deleted a b)
  pub put : map (placed_leaf S) after.put.items ≡ map (placed_leaf S) before.put.items ++ leaves_behind front (changed a b)
  pub held : Each (IsHeldLeaf S) before.put.items → Each (IsHeldLeaf S) after.put.items

-- ---- one step

abbrev pub IsHeldEntry : List Object → EntryView → Type 0
IsHeldEntry S e = has_child S e.mode e.name.0 ≡ true

-- Of a pair the store has what its entries name; and two of one component are both leaves or both directories, and differ.
abbrev pub IsHeldPair : List Object → Pair → Type 0
IsHeldPair S (Left e) = IsHeldEntry S e
IsHeldPair S (Right e) = IsHeldEntry S e
IsHeldPair S (Both e f) =
    IsHeldEntry S e × IsHeldEntry S f × (e.component.now ≡ f.component.now) × (is_dir e.mode ≡ is_dir f.mode)
    × (entry_value e ≡ entry_value f → ⊥)

-- what a pair's entries stand for
abbrev pub left_flat : List Object → Pair → Flat
left_flat S (Left e) = entry_flat S (entry_value e)
left_flat S (Right e) = []
left_flat S (Both e f) = entry_flat S (entry_value e)

abbrev pub right_flat : List Object → Pair → Flat
right_flat S (Left e) = []
right_flat S (Right e) = entry_flat S (entry_value e)
right_flat S (Both e f) = entry_flat S (entry_value f)

-- What a pair gives: what turns one entry into the other is found; or they are two directories, into which the walk goes down.
abbrev pub IsPairDone : List Object → Pair → Bytes → Bytes → Option Level → Changes → Changes → Type 0
IsPairDone S pair front inner None before after = (inner ≡ front) × IsFound S front (left_flat S pair) (right_flat S pair) before after
IsPairDone S (Both e f) front inner (Some l) before after =
    (after ≡ before) × (inner ≡ (front ++ f.component.now) ++ 47 ∷ []) × (is_dir f.mode ≡ true) × (l.front ≡ length inner)
    × (listed S e.name.0 ≡ Some l.left) × (listed S f.name.0 ≡ Some l.right)
IsPairDone S pair front inner (Some l) before after = ⊥

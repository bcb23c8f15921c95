-- What contracts see of a stage: the leaves and the unexpanded directories, each by its path.
use Rattle.std.specs.Prelude.{◌≡◌, true, List, [], ◌∷◌, ◌++◌, map}
use Rattle.git_objects.specs.Paths.{Bytes, Path}
use Rattle.git_objects.specs.Trees.{Flat, rests, put_all}
use Rattle.object_store.specs.Objects.{Object}
use Rattle.path_trees.specs.Standing.{node}
use Rattle.path_trees.specs.declared.found.Found.{Found}
use Rattle.stage_nodes.specs.declared.nodes.Content.{Content}
use Rattle.stage_nodes.specs.declared.nodes.Content.TheVariants.{Held, Open}
use Rattle.stage_nodes.specs.Forests.{Forest, Nil, Bin}
use Rattle.stage_nodes.specs.Leaves.{is_held}

abbrev pub Items : Type 0
Items = List (Path × Found)

abbrev pub items_behind : Bytes → Items → Items
items_behind c xs = map (λ e. (c ∷ e.0, e.1)) xs

abbrev pub items_at : Content → Items → Items
items_at (Held f) children = ([], f) ∷ []
items_at Open children = children

abbrev pub items : Forest → Items
items Nil = []
items (Bin k c x l r) = items_behind c (items_at x (items l)) ++ items r

-- the flat tree that they stand for
abbrev pub tree_of : List Object → Items → Flat
tree_of S [] = []
tree_of S (e ∷ es) = put_all e.0 (rests (node S e.1)) (tree_of S es)

abbrev pub AreHeld : List Object → Items → Type 0
AreHeld S [] = Unit
AreHeld S (e ∷ es) = (is_held S (Held e.1) ≡ true) × AreHeld S es

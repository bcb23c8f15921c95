-- Trees that have no path in common, and what they have together.
use Rattle.std.specs.Prelude.{◌≡◌, ◌⊎◌, true, List, [], ◌∷◌, ◌++◌, Option, Some, None, ⊤, is_some}
use Rattle.std.specs.Option.{option_or}
use Rattle.git_objects.specs.Lists.{Each}
use Rattle.git_objects.specs.Paths.{Path, comparable}
use Rattle.git_objects.specs.Trees.{Leaf, Flat, at}
use Rattle.git_objects.specs.declared.kind.Kind.TheVariants.{Tree}
use Rattle.git_objects.specs.declared.name.Name.{Name}
use Rattle.object_store.specs.Objects.{Object, has}
use Rattle.object_store.specs.Unfolding.{flat}
use Rattle.path_trees.specs.Clashes.{clash}
use Rattle.filter_unapply.specs.StoredLeaves.{HasLeaves}

-- the leaf that the first of these trees with the path has there
abbrev pub any_at : List Object → List Name → Path → Option Leaf
any_at S [] p = None
any_at S (n ∷ ns) p = option_or (at (flat S n.0) p) (any_at S ns p)

-- no path is in two of the trees
abbrev pub AreApart : List Object → List Name → Type 0
AreApart S [] = ⊤
AreApart S (n ∷ ns) = ((p : Path) (x : Leaf) → at (flat S n.0) p ≡ Some x → any_at S ns p ≡ None) × AreApart S ns

-- trees of the store without a path in common, which have these leaves
pub record AreParts (S : List Object) (ns : List Name) (o : Path → Option Leaf) : Type 0 where
  pub trees : Each (λ n. has Tree S n.0 ≡ true) ns
  pub apart : AreApart S ns
  pub leaves : (p : Path) → any_at S ns p ≡ o p

-- a tree was added to others, or is the empty one
abbrev pub IsAdded : Name → Name → List Name → List Name → Type 0
IsAdded none n before after = (after ≡ before ++ n ∷ []) ⊎ ((n.0 ≡ none.0) × (after ≡ before))

-- a tree and others together
abbrev pub with_parts : List Object → Name → List Name → Path → Option Leaf
with_parts S k ns p = option_or (at (flat S k.0) p) (any_at S ns p)

-- a leaf of one of them
abbrev pub IsAmong : List Object → Name → List Name → Path → Leaf → Type 0
IsAmong S k ns p x = with_parts S k ns p ≡ Some x

-- a path of the parts, and another path that is comparable with it
pub record IsBlockIn (S : List Object) (k : Name) (ns : List Name) (p q : Path) : Type 0 where
  pub path : is_some (any_at S ns p) ≡ true
  pub by : is_some (with_parts S k ns q) ≡ true
  pub comparable : comparable p q ≡ true
  pub other : p ≡ q → ⊥

-- two different paths of the trees that are comparable
pub record IsNear (S : List Object) (ns : List Name) (p q : Path) : Type 0 where
  pub path : is_some (any_at S ns p) ≡ true
  pub by : is_some (any_at S ns q) ≡ true
  pub comparable : comparable p q ≡ true
  pub other : p ≡ q → ⊥

-- the tree of all their leaves, or two paths of them that are comparable
abbrev pub IsWhole : List Object → List Name → List Object → Option Name → Type 0
IsWhole S ns R (Some n) = HasLeaves R n.0 (any_at S ns)
IsWhole S ns R None = (p : Path) × (q : Path) × IsNear S ns p q

-- a leaf of one of the trees
abbrev pub IsOfAny : List Object → List Name → Path → Leaf → Type 0
IsOfAny S ns p x = any_at S ns p ≡ Some x

-- the tree of both, or a path of the one that is comparable with one of the other
abbrev pub IsPair : Flat → Flat → List Object → Option Name → Type 0
IsPair a b R (Some n) = HasLeaves R n.0 (λ p. option_or (at a p) (at b p))
IsPair a b R None = is_some (clash a b) ≡ true

-- The walk that is read from the vector.
use Rattle.std.proofs.Common.{◌≡◌, ℕ, zero, suc, ◌+◌, ◌≤◌, List, length, Option, Some, None, refl, sym, ap, subst, ◌∙◌, arith, max}
use Rattle.std.specs.Prelude.{slice_get}
use Rattle.git_objects.specs.Paths.{Bytes}
use Rattle.stage_nodes.specs.declared.nodes.Node.{Node}
use Rattle.stage_nodes.specs.Forests.{Forest, Nil, Bin, node_component, Reads, grown, grown_at, grown_node, forest, IsWalk}

-- the longest way through a forest
abbrev pub height : Forest → ℕ
height Nil = 0
height (Bin k c x l r) = max (height l) (height r) + 1

height_node : (rest : Option ℕ → Forest) (names : Bytes) (f k : ℕ) (o : Option Node) → ((i : Option ℕ) → height (rest i) ≤ f) → height (grown_node rest names k o) ≤ f + 1
height_node rest names f k None h = omega arith
height_node rest names f k (Some n) h = omega (arith, h n.first, h n.next)

height_at : (rest : Option ℕ → Forest) (names : Bytes) (ns : List Node) (f : ℕ) (i : Option ℕ) → ((i : Option ℕ) → height (rest i) ≤ f) → height (grown_at rest names ns i) ≤ f + 1
height_at rest names ns f None h = omega arith
height_at rest names ns f (Some k) h = height_node rest names f k (slice_get ns k) h

height_grown : (names : Bytes) (ns : List Node) (f : ℕ) (i : Option ℕ) → height (grown names ns f i) ≤ f
height_grown names ns zero i = omega arith
height_grown names ns (suc f) i = omega (arith, height_at (grown names ns f) names ns f i (λ j. height_grown names ns f j))

-- what is read is what grows
pub grown_read : (names : Bytes) (ns : List Node) (F : Forest) (f : ℕ) (i : Option ℕ) → Reads names ns i F → height F ≤ f → grown names ns f i ≡ F
grown_read names ns Nil zero i h g = refl
grown_read names ns Nil (suc f) i h g = ap (grown_at (grown names ns f) names ns) h
grown_read names ns (Bin k c x l r) zero i h g = absurd (omega arith)
grown_read names ns (Bin k c x l r) (suc f) i h g =
    ap (grown_at (grown names ns f) names ns) h.number
    ∙ ap (grown_node (grown names ns f) names k) h.there
    ∙ (λ j. Bin k (h.cell.component j) (h.cell.content j) (grown_read names ns l f h.node.first h.children (omega arith) j) (grown_read names ns r f h.node.next h.siblings (omega arith) j))

pub forest_read : (names : Bytes) (ns : List Node) (F : Forest) (i : Option ℕ) → Reads names ns i F → height F ≤ length ns → forest names ns i ≡ F
unfolding forest
forest_read names ns F i h g = grown_read names ns F (length ns) i h g

pub height_forest : (names : Bytes) (ns : List Node) (i : Option ℕ) → height (forest names ns i) ≤ length ns
unfolding forest
height_forest names ns i = height_grown names ns (length ns) i

-- one step of a walk
pub record IsStep (names : Bytes) (ns : List Node) (k : ℕ) : Type 0 where
  pub node : Node
  pub there : slice_get ns k ≡ Some node
  pub within : node.at + node.len ≤ length names
  pub opened : forest names ns (Some k) ≡ Bin k (node_component names node) node.content (forest names ns node.first) (forest names ns node.next)
  pub children : IsWalk names ns node.first
  pub siblings : IsWalk names ns node.next

step_of : (names : Bytes) (ns : List Node) (k : ℕ) (F : Forest) → F ≡ forest names ns (Some k) → Reads names ns (Some k) F → height F ≤ length ns → IsStep names ns k
step_of names ns k Nil e h g = absurd cc
step_of names ns k (Bin j c x l r) e h g =
    let same : k ≡ j = cc in
    let left : forest names ns h.node.first ≡ l = forest_read names ns l h.node.first h.children (omega arith) in
    let right : forest names ns h.node.next ≡ r = forest_read names ns r h.node.next h.siblings (omega arith) in
    record {
      node = h.node;
      there = ap (slice_get ns) same ∙ h.there;
      within = h.cell.within;
      opened = sym e ∙ (λ i. Bin (sym same i) (sym h.cell.component i) (sym h.cell.content i) (sym left i) (sym right i));
      children = subst (Reads names ns h.node.first) (sym left) h.children;
      siblings = subst (Reads names ns h.node.next) (sym right) h.siblings;
    }

pub step : (names : Bytes) (ns : List Node) (k : ℕ) → IsWalk names ns (Some k) → IsStep names ns k
step names ns k h = step_of names ns k (forest names ns (Some k)) refl h (height_forest names ns (Some k))

pub forest_none : (names : Bytes) (ns : List Node) → forest names ns None ≡ Nil
forest_none names ns = forest_read names ns Nil None refl (omega arith)

-- Steps counted for siblings.
use Rattle.std.proofs.Common.{◌≡◌, ℕ, ◌+◌, ◌<◌, true, [], Option, Some, None, sym, ap, subst, arith}
use Rattle.stage_nodes.specs.declared.nodes.Nodes.{Nodes}
use Rattle.stage_nodes.specs.declared.nodes.Link.{Link}
use Rattle.stage_nodes.specs.declared.nodes.Link.TheVariants.{First, Next}
use Rattle.stage_nodes.specs.Forests.{Forest, is_link, size, target}
use Rattle.stage_nodes.specs.Pools.{Walks, hanging}
use Rattle.stage_nodes.specs.Walks.{breadth}
use Rattle.stage_nodes.specs.Directories.{IsDirectory}
use Rattle.stage_nodes.proofs.Pools.{walk_is}
use Rattle.stage_nodes.proofs.Freeing.{first_of}
use Rattle.stage_nodes.proofs.Seeking.{passed_at, ended, passed_smaller, passed_link}

pub record IsSiblingPassed (s : Nodes) (link : Link) (k : ℕ) : Type 0 where
  pub inside : is_link s.cells.items (Next k) ≡ true
  pub walk : Walks s (target s.cells.items (Next k))
  pub smaller : size (hanging s (Next k)) < size (hanging s link)
  pub counted : breadth (hanging s link) ≡ breadth (hanging s (Next k)) + 1

pub sibling_passed : (s : Nodes) (link : Link) (k : ℕ) → Some k ≡ target s.cells.items link → Walks s (target s.cells.items link) → IsSiblingPassed s link k
sibling_passed s link k e w =
    let p = passed_at s.names.items s.cells.items link k (sym e) w in
    record {
      inside = passed_link s.names.items s.cells.items [] link k p.0 p.2;
      walk = p.2.walk;
      smaller = passed_smaller s.names.items s.cells.items [] link k p.0 p.2;
      counted = ap breadth p.2.opened;
    }

pub none_left : (s : Nodes) (link : Link) → None ≡ target s.cells.items link → breadth (hanging s link) ≡ 0
none_left s link e = ap breadth (ended s.names.items s.cells.items link (sym e))

pub directory_walk : (s : Nodes) (b : ℕ) (K : Forest) → IsDirectory s b K → Walks s (target s.cells.items (First b))
directory_walk s b K h =
    subst (λ (o : Option ℕ). Walks s o) (sym (first_of s.cells.items b h.node h.there))
    (walk_is s.names.items s.cells.items h.node.first K h.children (λ m. omega (arith, h.apart m)))

-- A stage with a node that is known.
use Rattle.std.proofs.Common.{◌≡◌, ℕ, List, Option, Some, None, IfSome, sym, subst}
use Rattle.git_objects.specs.Paths.{Path}
use Rattle.git_objects.specs.Trees.{Flat}
use Rattle.object_store.specs.Objects.{Object}
use Rattle.stage_nodes.specs.declared.nodes.Nodes.{Nodes}
use Rattle.stage_tree.specs.Sets.{IsChildOf}
use Rattle.stage_tree.specs.Stages.{Staged, Shows, staged}
use Rattle.stage_nodes.specs.Roots.{IsOpened, IsRooted, IsStage, items_of}
use Rattle.stage_tree.proofs.FromLast.{root_is_open}
use Rattle.stage_nodes.proofs.Rooting.{already_open}

pub child_in : (s : Nodes) (o : Option ℕ) (q r : Path) (ns : List ℕ) (k : ℕ) → IfSome o (IsChildOf s q ns) → o ≡ Some k → q ≡ r → IsChildOf s r ns k
child_in s o q r ns k h e f = subst (λ (x : Path). IsChildOf s x ns k) f (subst (λ (x : Option ℕ). IfSome x (IsChildOf s q ns)) e h)

pub none_known : (s : Nodes) (o : Option ℕ) (q : Path) (ns : List ℕ) → o ≡ None → IfSome o (IsChildOf s q ns)
none_known s o q ns e = subst (λ (x : Option ℕ). IfSome x (IsChildOf s q ns)) (sym e) tt

pub rooted_in : (S : List Object) (s : Nodes) (m : ℕ) (v : Staged) → staged s m ≡ v → (t : Flat) → Shows S v t → IsRooted S (items_of s)
rooted_in S s m v e t h = subst (λ (x : Staged). IsRooted S x.items) (sym e) h.held

pub opened_in : (S : List Object) (s : Nodes) (m : ℕ) (v : Staged) → staged s m ≡ v → IsStage s → (q : Path) (ns : List ℕ) (k : ℕ) → IsChildOf s q ns k → (t : Flat) → Shows S v t → IsOpened S s s
opened_in S s m v e stage q ns k h t g = already_open S s stage (rooted_in S s m v e t g) (root_is_open s stage q ns k h)

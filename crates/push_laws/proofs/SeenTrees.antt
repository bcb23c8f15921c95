-- What is shown of a tree is a tree, of blobs that are known where those of the tree are.
use Rattle.std.proofs.Common.{◌≡◌, true, false, ◌||◌, List, [], ◌∷◌, refl, ap, ◌∙◌}
use Rattle.std.specs.Cmp.{first_so, second_so}
use Rattle.std.specs.Cmp.Lexicographic.{bytes_decides}
use Rattle.std.specs.List.{list_all}
use Rattle.std.proofs.lemmas.Bool.{or_right}
use Rattle.git_objects.specs.Paths.{Bytes, is_bytes, same_bytes}
use Rattle.git_objects.specs.Trees.{Flat, IsTree}
use Rattle.git_objects.proofs.Basics.{and_both, same_bytes-self}
use Rattle.filter_text.specs.Filters.{Filter}
use Rattle.filter_unapply.proofs.LayingLemmas.{the_law as laying}
use Rattle.workspace.specs.Laws.{IsUsable}
use Rattle.workspace.specs.Workspaces.{resolve, shown}
use Rattle.state_items.specs.Imported.{has_leaves}
use Rattle.import_laws.proofs.EditLeaves.{is_in}
use Rattle.push_laws.specs.Given.{IsSeenTree, blobs_in}
use Rattle.push_laws.proofs.LaidLeaves.{in-blobs, shown-leaves}
use Rattle.push_laws.proofs.Stepping.{resolve-usable}

tree-of : (f : Filter) (t : Flat) → IsUsable f → IsTree t → IsTree (shown f t)
unfolding shown
tree-of f t u w = let g = resolve-usable f t u in laying.shown_tree (resolve f t) t g.paths g.sound w

in-bytes : (xs : List Bytes) (b : Bytes) → list_all is_bytes xs ≡ true → is_in xs b ≡ true → is_bytes b ≡ true
in-bytes [] b h e = cc
in-bytes (x ∷ xs) b h e =
    elim (same_bytes b x) as (λ t. same_bytes b x ≡ t → (t || is_in xs b) ≡ true → is_bytes b ≡ true) [
      | true ↦ λ g k. ap is_bytes ((bytes_decides b x).0 g) ∙ first_so (is_bytes x) (list_all is_bytes xs) h
      | false ↦ λ g k. in-bytes xs b (second_so (is_bytes x) (list_all is_bytes xs) h) k
    ] refl e

all-bytes : (xs known : List Bytes) → ((b : Bytes) → is_in xs b ≡ true → is_in known b ≡ true) → list_all is_bytes known ≡ true → list_all is_bytes xs ≡ true
all-bytes [] known f h = refl
all-bytes (x ∷ xs) known f h =
    and_both (in-bytes known x h (f x (ap (λ t. t || is_in xs x) (same_bytes-self x))))
    (all-bytes xs known (λ b e. f b (or_right (same_bytes b x) (is_in xs b) e)) h)

pub seen-tree : (f : Filter) (t : Flat) (known : List Bytes) → IsUsable f → IsTree t → has_leaves known t ≡ true → list_all is_bytes known ≡ true → IsSeenTree (shown f t)
seen-tree f t known u w h b = record { tree = tree-of f t u w; bytes = all-bytes (blobs_in (shown f t)) known (λ x e. in-blobs known x (shown f t) (shown-leaves known f t h) e) b }

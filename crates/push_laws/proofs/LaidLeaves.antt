-- The leaves of what is shown of a tree, and of a tree that was laid; and the blobs of a tree.
use Rattle.std.proofs.Common.{◌≡◌, Bool, true, false, ◌||◌, T, List, [], ◌∷◌, ◌++◌, Option, sym, ap, ◌∙◌, refl, true≢false}
use Rattle.std.specs.Cmp.{first_so, second_so}
use Rattle.std.specs.Cmp.Lexicographic.{bytes_decides}
use Rattle.std.specs.List.{cons_option, list_all}
use Rattle.std.specs.Option.{is_none}
use Rattle.git_objects.specs.Paths.{Bytes, Path, same_bytes}
use Rattle.git_objects.specs.Trees.{Leaf, FileLeaf, ExecLeaf, LinkLeaf, ModuleLeaf, Flat}
use Rattle.git_objects.proofs.Pointwise.{from-T}
use Rattle.filter_text.specs.Filters.{Filter}
use Rattle.filter_routes.specs.Lenses.{Lens, IsLens, carried, seen_through}
use Rattle.filter_routes.specs.Origins.{lens_of}
use Rattle.filter_routes.proofs.Carried.{all-carried, all-filter}
use Rattle.filter_unapply.specs.Laying.{LaidTree, hidden, laid_through}
use Rattle.filter_unapply.proofs.Lawful.{parts}
use Rattle.workspace.specs.Workspaces.{resolve, shown}
use Rattle.state_items.specs.Imported.{has_leaves}
use Rattle.state_items.proofs.Bringing.{T-from, any-back}
use Rattle.state_items.proofs.Imports.{any-cases, any-front}
use Rattle.import_laws.proofs.EditLeaves.{is_in, leaf_in}
use Rattle.push_laws.specs.Given.{blobs_in}
use Rattle.object_store.specs.TreeObjects.{blob_of}

-- ---- trees of leaves that are moved

module _ (pool : List Bytes) where
  abbrev of_pool : Path × Leaf → Bool
  of_pool e = leaf_in pool e.1

  carried-leaves : (to : Path → Option Path) (s t : Flat) → T (list_all of_pool s) → T (list_all of_pool t) → T (list_all of_pool (carried to s t))
  carried-leaves to s t h k = all-carried of_pool of_pool to (λ e p v i. v) s t h k

  seen-leaves : (f : Lens) (t : Flat) → has_leaves pool t ≡ true → has_leaves pool (seen_through f t) ≡ true
  seen-leaves f t h = from-T (has_leaves pool (seen_through f t)) (carried-leaves f.image t [] (T-from (has_leaves pool t) h) tt)

  -- what is shown of a tree has leaves of it alone
  pub shown-leaves : (f : Filter) (t : Flat) → has_leaves pool t ≡ true → has_leaves pool (shown f t) ≡ true
  unfolding shown
  shown-leaves f t h = seen-leaves (lens_of (resolve f t)) t h

  -- a tree that was laid has leaves of both trees alone
  pub laid-leaves : (f : Lens) (t n u : Flat) → IsLens f → laid_through f t n ≡ LaidTree u → has_leaves pool t ≡ true → has_leaves pool n ≡ true → has_leaves pool u ≡ true
  laid-leaves f t n u is e h k =
      let left : T (list_all of_pool (hidden f t)) = all-filter of_pool (λ d. is_none (f.image d.0)) t (T-from (has_leaves pool t) h) in
      let all : has_leaves pool (carried f.origin n (hidden f t)) ≡ true =
      from-T (has_leaves pool (carried f.origin n (hidden f t))) (carried-leaves f.origin n (hidden f t) (T-from (has_leaves pool n) k) left) in
      ap (has_leaves pool) (sym (parts f is t n u e).2) ∙ all

-- ---- the blobs of a tree

module _ (known : List Bytes) (b : Bytes) where
  in-first : (c : Bytes) (rest : List Bytes) → is_in known c ≡ true → (is_in rest b ≡ true → is_in known b ≡ true) → is_in (c ∷ rest) b ≡ true → is_in known b ≡ true
  in-first c rest h f e =
      elim (same_bytes b c) as (λ t. same_bytes b c ≡ t → (t || is_in rest b) ≡ true → is_in known b ≡ true) [
        | true ↦ λ g k. ap (is_in known) ((bytes_decides b c).0 g) ∙ h
        | false ↦ λ g k. f k
      ] refl e

  in-leaf : (x : Leaf) (rest : List Bytes) → leaf_in known x ≡ true → (is_in rest b ≡ true → is_in known b ≡ true) → is_in (cons_option (blob_of x) rest) b ≡ true → is_in known b ≡ true
  in-leaf (FileLeaf c) rest h f e = in-first c rest (first_so _ _ h) f e
  in-leaf (ExecLeaf c) rest h f e = in-first c rest (first_so _ _ h) f e
  in-leaf (LinkLeaf c) rest h f e = in-first c rest (first_so _ _ h) f e
  in-leaf (ModuleLeaf n) rest h f e = f e

  -- each is known where the leaves are
  pub in-blobs : (t : Flat) → has_leaves known t ≡ true → is_in (blobs_in t) b ≡ true → is_in known b ≡ true
  in-blobs [] h e = absurd (true≢false (sym e))
  in-blobs (d ∷ t) h e = in-leaf d.1 (blobs_in t) (first_so _ _ h) (λ k. in-blobs t (second_so (leaf_in known d.1) _ h) k) e

-- what is behind some blobs may be replaced by more
pub pool-more : (bs xs ys : List Bytes) → ((b : Bytes) → is_in xs b ≡ true → is_in ys b ≡ true) → (b : Bytes) → is_in (bs ++ xs) b ≡ true → is_in (bs ++ ys) b ≡ true
pool-more bs xs ys f b e =
    any-cases (same_bytes b) bs xs (is_in (bs ++ ys) b ≡ true) e (λ k. any-front (same_bytes b) bs ys k) (λ k. any-back (same_bytes b) bs ys (f b k))

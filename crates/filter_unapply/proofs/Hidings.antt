-- Leaves of stored trees, compared by their modes and names.
use Rattle.std.proofs.Common.{◌≡◌, ◌⊎◌, inl, inr, ℕ, ◌<◌, ◌+◌, Bool, true, false, cond, not, List, [], ◌∷◌, ◌++◌, drop, take, length, ◌-◌, Some, None, refl, sym, ap, ◌∙◌, true≢false, arith, length-append}
use Rattle.std.proofs.lemmas.Option.{none-some, same_Some}
use Rattle.std.specs.Prelude.{find}
use Rattle.std.specs.Option.{option_map, option_map_or, option_or}
use Rattle.std.specs.Cmp.Lexicographic.{bytes_decides}
use Rattle.git_objects.specs.Paths.{Bytes, Path, is_path, same_bytes}
use Rattle.git_objects.specs.Trees.{Leaf, FileLeaf, ExecLeaf, LinkLeaf, ModuleLeaf, Flat, at, LeafNode, TreeNode, standing, under, if_full, same_leaf}
use Rattle.git_objects.specs.Names.{name}
use Rattle.git_objects.specs.declared.kind.Kind.TheVariants.{Blob}
use denote.Enum.Bare.{sameb}
use Rattle.git_objects.specs.contracts.mode.Mode.{the_type}
use Rattle.git_objects.specs.declared.mode.Mode.{Mode}
use Rattle.git_objects.specs.declared.mode.Mode.TheVariants.{File, Exec, Link, Module, Dir}
use Rattle.object_store.specs.Objects.{Object, body_of, has, has_child}
use Rattle.object_store.specs.Unfolding.{flat}
use Rattle.object_store.proofs.Held.{body_named}
use Rattle.object_store.proofs.Unfolding.{node}
use Rattle.std.proofs.lemmas.List.{length-drop, take_all}
use Rattle.filter_text.specs.Filters.{Filter, has_paths}
use Rattle.filter_routes.specs.Images.{image}
use Rattle.filter_routes.proofs.ImagePaths.{image-path}
use Rattle.filter_unapply.specs.Laying.{differs_at, is_unseen, unseen}
use Rattle.filter_unapply.proofs.Places.{leaf_stands, nothing_stands}
use Rattle.filter_unapply.proofs.Sieves.{directory_stands}

leaf-standing : (t : Flat) (p : Path) (x : Leaf) → at t p ≡ Some x → standing t p ≡ Some (LeafNode x)
leaf-standing t p x e = ap (λ o. option_or (option_map LeafNode o) (if_full (under t p))) e

pub nothing-differs : (n : Flat) (x : Leaf) (q : Path) → None ≡ standing n q → true ≡ differs_at n x q
nothing-differs n x q e = ap (λ o. option_map_or (λ y. not (same_leaf x y)) o true) (sym (nothing_stands n q (sym e)).0)

pub not-there : (t : Flat) (x : Leaf) (p : Path) → None ≡ standing t p → at t p ≡ Some x → ⊥
not-there t x p e k = none-some x (sym (nothing_stands t p (sym e)).0 ∙ k)

module _ (S : List Object) where
  same-blob : (a b : Bytes) → has Blob S a ≡ true → has Blob S b ≡ true → same_bytes (body_of Blob S a) (body_of Blob S b) ≡ same_bytes a b
  same-blob a b h g =
      elim (same_bytes a b) as (λ v. same_bytes a b ≡ v → same_bytes (body_of Blob S a) (body_of Blob S b) ≡ v) [
        | true ↦ λ k. (bytes_decides (body_of Blob S a) (body_of Blob S b)).1 (ap (body_of Blob S) ((bytes_decides a b).0 k))
        | false ↦ λ k. other (same_bytes (body_of Blob S a) (body_of Blob S b)) refl k
      ] refl
    where
      other : (v : Bool) → same_bytes (body_of Blob S a) (body_of Blob S b) ≡ v → same_bytes a b ≡ false → same_bytes (body_of Blob S a) (body_of Blob S b) ≡ false
      other false i k = i
      other true i k =
          absurd (true≢false (sym ((bytes_decides a b).1 (sym (body_named Blob S a h) ∙ ap (name Blob) ((bytes_decides (body_of Blob S a) (body_of Blob S b)).0 i) ∙ body_named Blob S b g)) ∙ k))

  -- two stored leaves differ where their modes or names do
  differ-at : (m k : Mode) (a b : Bytes) (x : Leaf) → has_child S m a ≡ true → has_child S k b ≡ true → node S m a ≡ LeafNode x → (y : Leaf) → node S k b ≡ LeafNode y →
      cond (sameb the_type m k) (not (same_bytes a b)) true ≡ not (same_leaf x y)
  differ-at Dir k a b x h g e y f = cc
  differ-at File Dir a b x h g e y f = cc
  differ-at Exec Dir a b x h g e y f = cc
  differ-at Link Dir a b x h g e y f = cc
  differ-at Module Dir a b x h g e y f = cc
  differ-at File File a b x h g e y f = let i : FileLeaf (body_of Blob S a) ≡ x = cc in let j : FileLeaf (body_of Blob S b) ≡ y = cc in ap not (sym (same-blob a b h g)) ∙ (λ l. not (same_leaf (i l) (j l)))
  differ-at Exec Exec a b x h g e y f = let i : ExecLeaf (body_of Blob S a) ≡ x = cc in let j : ExecLeaf (body_of Blob S b) ≡ y = cc in ap not (sym (same-blob a b h g)) ∙ (λ l. not (same_leaf (i l) (j l)))
  differ-at Link Link a b x h g e y f = let i : LinkLeaf (body_of Blob S a) ≡ x = cc in let j : LinkLeaf (body_of Blob S b) ≡ y = cc in ap not (sym (same-blob a b h g)) ∙ (λ l. not (same_leaf (i l) (j l)))
  differ-at Module Module a b x h g e y f = let i : ModuleLeaf a ≡ x = cc in let j : ModuleLeaf b ≡ y = cc in (λ l. not (same_leaf (i l) (j l)))
  differ-at File Exec a b x h g e y f = let i : FileLeaf (body_of Blob S a) ≡ x = cc in let j : ExecLeaf (body_of Blob S b) ≡ y = cc in (λ l. not (same_leaf (i l) (j l)))
  differ-at File Link a b x h g e y f = let i : FileLeaf (body_of Blob S a) ≡ x = cc in let j : LinkLeaf (body_of Blob S b) ≡ y = cc in (λ l. not (same_leaf (i l) (j l)))
  differ-at File Module a b x h g e y f = let i : FileLeaf (body_of Blob S a) ≡ x = cc in let j : ModuleLeaf b ≡ y = cc in (λ l. not (same_leaf (i l) (j l)))
  differ-at Exec File a b x h g e y f = let i : ExecLeaf (body_of Blob S a) ≡ x = cc in let j : FileLeaf (body_of Blob S b) ≡ y = cc in (λ l. not (same_leaf (i l) (j l)))
  differ-at Exec Link a b x h g e y f = let i : ExecLeaf (body_of Blob S a) ≡ x = cc in let j : LinkLeaf (body_of Blob S b) ≡ y = cc in (λ l. not (same_leaf (i l) (j l)))
  differ-at Exec Module a b x h g e y f = let i : ExecLeaf (body_of Blob S a) ≡ x = cc in let j : ModuleLeaf b ≡ y = cc in (λ l. not (same_leaf (i l) (j l)))
  differ-at Link File a b x h g e y f = let i : LinkLeaf (body_of Blob S a) ≡ x = cc in let j : FileLeaf (body_of Blob S b) ≡ y = cc in (λ l. not (same_leaf (i l) (j l)))
  differ-at Link Exec a b x h g e y f = let i : LinkLeaf (body_of Blob S a) ≡ x = cc in let j : ExecLeaf (body_of Blob S b) ≡ y = cc in (λ l. not (same_leaf (i l) (j l)))
  differ-at Link Module a b x h g e y f = let i : LinkLeaf (body_of Blob S a) ≡ x = cc in let j : ModuleLeaf b ≡ y = cc in (λ l. not (same_leaf (i l) (j l)))
  differ-at Module File a b x h g e y f = let i : ModuleLeaf a ≡ x = cc in let j : FileLeaf (body_of Blob S b) ≡ y = cc in (λ l. not (same_leaf (i l) (j l)))
  differ-at Module Exec a b x h g e y f = let i : ModuleLeaf a ≡ x = cc in let j : ExecLeaf (body_of Blob S b) ≡ y = cc in (λ l. not (same_leaf (i l) (j l)))
  differ-at Module Link a b x h g e y f = let i : ModuleLeaf a ≡ x = cc in let j : LinkLeaf (body_of Blob S b) ≡ y = cc in (λ l. not (same_leaf (i l) (j l)))

  dir-other : (m : Mode) (a : Bytes) (x : Leaf) (b : Bytes) → node S m a ≡ LeafNode x → cond (sameb the_type m Dir) (not (same_bytes a b)) true ≡ true
  dir-other File a x b e = refl
  dir-other Exec a x b e = refl
  dir-other Link a x b e = refl
  dir-other Module a x b e = refl
  dir-other Dir a x b e = cc

  node-kind : (k : Mode) (b : Bytes) → ((k ≡ Dir) × (node S k b ≡ TreeNode (flat S b))) ⊎ ((y : Leaf) × (node S k b ≡ LeafNode y))
  node-kind File b = inr (_, refl)
  node-kind Exec b = inr (_, refl)
  node-kind Link b = inr (_, refl)
  node-kind Module b = inr (_, refl)
  node-kind Dir b = inl (refl, refl)

  pub found-differs : (t n : Flat) (p q : Path) (m k : Mode) (a b : Bytes) (x : Leaf) → has_child S m a ≡ true → has_child S k b ≡ true → Some (node S m a) ≡ standing t p → Some (node S k b) ≡ standing n q → at t p ≡ Some x →
      cond (sameb the_type m k) (not (same_bytes a b)) true ≡ differs_at n x q
  found-differs t n p q m k a b x h g e f w = by (node-kind k b)
    where
      own : node S m a ≡ LeafNode x
      own = same_Some (node S m a) (LeafNode x) (e ∙ leaf-standing t p x w)

      by : ((k ≡ Dir) × (node S k b ≡ TreeNode (flat S b))) ⊎ ((y : Leaf) × (node S k b ≡ LeafNode y)) → cond (sameb the_type m k) (not (same_bytes a b)) true ≡ differs_at n x q
      by (inl d) =
          ap (λ v. cond (sameb the_type m v) (not (same_bytes a b)) true) d.0 ∙ dir-other m a x b own
          ∙ ap (λ o. option_map_or (λ y. not (same_leaf x y)) o true) (sym (directory_stands n q (flat S b) (sym f ∙ ap Some d.1)).0)
      by (inr y) = differ-at m k a b x h g own y.0 y.1 ∙ ap (λ o. option_map_or (λ y. not (same_leaf x y)) o true) (sym (leaf_stands n q y.0 (sym f ∙ ap Some y.1)))

-- ---- a walk

pub unseen-none : (r r2 : Filter) (n : Flat) → None ≡ unseen r r2 [] n
unseen-none r r2 n = refl

pub unseen-skip : (r r2 : Filter) (e : Path × Leaf) (t n : Flat) → false ≡ is_unseen r r2 n e → unseen r r2 t n ≡ unseen r r2 (e ∷ t) n
unseen-skip r r2 e t n i = ap (λ b. option_map (λ (d : Path × Leaf). d.0) (cond b (Some e) (find (is_unseen r r2 n) t))) i

pub unseen-here : (r r2 : Filter) (e : Path × Leaf) (t n : Flat) → true ≡ is_unseen r r2 n e → Some e.0 ≡ unseen r r2 (e ∷ t) n
unseen-here r r2 e t n i = ap (λ b. option_map (λ (d : Path × Leaf). d.0) (cond b (Some e) (find (is_unseen r r2 n) t))) i

-- ---- images

positive : (q : Path) → is_path q ≡ true → 0 < length q
positive [] h = absurd (true≢false (sym h))
positive (c ∷ q) h = omega arith

pub image-long : (f : Filter) (p t : Path) (n : ℕ) → has_paths f ≡ true → is_path p ≡ true → Some (t ++ drop n p) ≡ image f p → 0 < length t + length (drop n p)
image-long f p t n v h e =
    let k = positive (t ++ drop n p) (image-path f p (t ++ drop n p) v h (sym e)) in
    let l = length-append t (drop n p) in
    omega (arith, k, l)

pub all-behind : (p : Path) (n : ℕ) → take (length p - n) (drop n p) ≡ drop n p
all-behind p n = take_all (length p - n) (drop n p) (omega (arith, length-drop n p))

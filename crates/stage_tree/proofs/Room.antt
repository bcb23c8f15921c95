-- How many files there are without the node at a place.
use Rattle.std.proofs.Common.{◌≡◌, ℕ, ◌+◌, Bool, true, false, cond, not, ◌==◌, List, length, Option, Some, None, refl, sym, ap, ◌∙◌, arith}
use Rattle.std.specs.Prelude.{nat_lt}
use Rattle.git_objects.specs.Paths.{Bytes, Path, same_bytes}
use Rattle.git_objects.specs.Entries.{is_dir}
use Rattle.git_objects.proofs.Basics.{same_bytes-self}
use Rattle.object_store.specs.Objects.{Object}
use Rattle.stage_nodes.specs.declared.nodes.Nodes.{Nodes}
use Rattle.stage_nodes.specs.declared.nodes.Content.{Content}
use Rattle.stage_nodes.specs.declared.nodes.Content.TheVariants.{Held, Open}
use Rattle.stage_nodes.specs.declared.nodes.Link.{Link}
use Rattle.stage_nodes.specs.Forests.{Forest, Nil, Bin, count}
use Rattle.stage_nodes.specs.Frames.{count_up}
use Rattle.stage_nodes.specs.Ways.{HasPlace, IsOpen, IsPlaceOf, kids_of, named_first}
use Rattle.stage_nodes.specs.Branches.{after_named}
use Rattle.stage_tree.specs.Counts.{content_files, files, files_but}
use Rattle.stage_tree.specs.Sets.{is_leaf, is_leaf_at, is_leaf_node}
use Rattle.stage_nodes.proofs.Framing.{count_plug}
use Rattle.stage_nodes.proofs.Pools.{own_count, one_most}
use Rattle.stage_tree.proofs.Fewer.{one_leaf}
use Rattle.stage_nodes.proofs.OnWay.{IsNamed, named_of}
use Rattle.stage_tree.proofs.CountLeaves.{files_up, files_plug, but_none, but_plug}

self_test : (k : ℕ) → (k == k) ≡ true
self_test k = grind (arith, Rattle.std.proofs.lemmas.Bool.Decides.nat_tests)

module _ (S : List Object) (s : Nodes) (o : IsOpen S s) where
  none_named : (c : Bytes) (X : Forest) → None ≡ named_first c X → after_named c X ≡ X
  none_named c Nil e = refl
  none_named c (Bin i d x l r) e = elim (same_bytes c d) as (λ t. None ≡ cond t (Some i) None → cond t r (Bin i d x l r) ≡ Bin i d x l r) [ true ↦ λ g. absurd cc | false ↦ λ g. refl ] e

  module _ (q : Path) (c : Bytes) (link : Link) (k : ℕ) (h : IsPlaceOf S s q c link (Some k)) where
    abbrev n : IsNamed S s q c h.frames k
    n = (named_of S s q c link k h).0

    rest_is : h.rest ≡ Bin k c n.content n.children n.siblings
    rest_is = (named_of S s q c link k h).1

    lone : count_up k h.frames + count k n.siblings ≡ 0
    lone = omega (arith, ap (count k) n.whole, count_plug k h.frames (Bin k c n.content n.children n.siblings), o.covers k, own_count k, one_most (nat_lt k (length s.cells.items)))

    named_rest : after_named c h.rest ≡ n.siblings
    named_rest = ap (after_named c) rest_is ∙ ap (λ b. cond b n.siblings (Bin k c n.content n.children n.siblings)) (same_bytes-self c)

    pub but_place : files_but S (Some k) (kids_of s) ≡ files_up S h.frames + files S (after_named c h.rest)
    but_place =
        omega (
          arith,
          ap (files_but S (Some k)) n.whole,
          but_plug S k h.frames (Bin k c n.content n.children n.siblings) (omega (arith, lone)),
          ap (λ b. cond b 0 (content_files S n.content (files_but S (Some k) n.children))) (self_test k),
          but_none S k n.siblings (omega (arith, lone)),
          ap (files S) named_rest,
        )

    pub all_place : files S (kids_of s) ≡ files_up S h.frames + content_files S n.content (files S n.children) + files S (after_named c h.rest)
    all_place = omega (arith, ap (files S) n.whole, files_plug S h.frames (Bin k c n.content n.children n.siblings), ap (files S) named_rest)

    pub leaf_place : is_leaf_at s.cells.items (Some k) ≡ true → files_but S (Some k) (kids_of s) + 1 ≡ files S (kids_of s)
    leaf_place e = omega (arith, but_place, all_place, one_file n.content (ap is_leaf (sym n.cell.content) ∙ ap is_leaf_node (sym n.there) ∙ e))
      where
        one_file : (x : Content) → is_leaf x ≡ true → content_files S x (files S n.children) ≡ 1
        one_file (Held f) h = one_leaf S f (back (is_dir f.mode) h)
          where
            back : (b : Bool) → not b ≡ true → b ≡ false
            back true h = absurd cc
            back false h = refl
        one_file Open h = absurd cc

  -- the files without the node at a place
  pub place_files : (q : Path) (c : Bytes) (link : Link) (child : Option ℕ) (h : IsPlaceOf S s q c link child) → files_but S child (kids_of s) ≡ files_up S h.frames + files S (after_named c h.rest)
  place_files q c link (Some k) h = but_place q c link k h
  place_files q c link None h = omega (arith, ap (files S) h.whole, files_plug S h.frames h.rest, ap (files S) (none_named c h.rest h.child_is))

  pub leaf_child : (child : Option ℕ) → HasPlace S s child → is_leaf_at s.cells.items child ≡ true → files_but S child (kids_of s) + 1 ≡ files S (kids_of s)
  leaf_child None h e = absurd cc
  leaf_child (Some k) h e = leaf_place h.path h.component h.link k h.place e

-- Files counted node by node.
use Rattle.std.proofs.Common.{◌≡◌, ℕ, ◌+◌, ◌*◌, Bool, true, false, cond, not, ◌==◌, List, [], ◌∷◌, ◌++◌, get_or, Option, Some, None, refl, sym, ap, subst, ◌∙◌, arith}
use Rattle.std.specs.Prelude.{slice_get, nat_eq}
use Rattle.std.specs.Option.{option_eq}
use Rattle.std.proofs.lemmas.Option.{get_or_from_slice_get}
use Rattle.git_objects.specs.Lists.{Each}
use Rattle.git_objects.specs.Paths.{Bytes}
use Rattle.object_store.specs.Objects.{Object}
use Rattle.stage_nodes.specs.declared.nodes.Node.{Node}
use Rattle.stage_nodes.specs.declared.nodes.Nodes.{Nodes}
use Rattle.stage_nodes.specs.declared.nodes.Content.{Content}
use Rattle.stage_nodes.specs.declared.nodes.Link.{Link}
use Rattle.stage_nodes.specs.declared.nodes.Link.TheVariants.{First, Next}
use Rattle.stage_nodes.specs.Forests.{Forest, Bin, size, forest, node_component, target, Sound}
use Rattle.stage_nodes.specs.Pools.{hanging}
use Rattle.stage_nodes.specs.Leaves.{is_held}
use Rattle.stage_tree.specs.Counts.{IsCountable, content_files, files_but, is_number}
use Rattle.stage_nodes.proofs.Seeking.{IsPassed, passed, passed_at, inside_link, ended}

module _ (S : List Object) (s : Nodes) (o : Option ℕ) where
  -- the files behind the directories that were entered
  abbrev pub due : List ℕ → ℕ
  due [] = 0
  due (k ∷ ks) = files_but S o (hanging s (Next k)) + due ks

  abbrev pub turns : List ℕ → ℕ
  turns [] = 0
  turns (k ∷ ks) = 2 * size (hanging s (Next k)) + 1 + turns ks

  abbrev pub AreCountable : List ℕ → Type 0
  AreCountable ks = Each (λ k. IsCountable S s (Next k)) ks

  pub due_more : (ks : List ℕ) (k : ℕ) → due (ks ++ k ∷ []) ≡ due ks + files_but S o (hanging s (Next k))
  due_more [] k = omega arith
  due_more (i ∷ ks) k = omega (arith, due_more ks k)

  pub turns_more : (ks : List ℕ) (k : ℕ) → turns (ks ++ k ∷ []) ≡ turns ks + 2 * size (hanging s (Next k)) + 1
  turns_more [] k = omega arith
  turns_more (i ∷ ks) k = omega (arith, turns_more ks k)

  pub all_more : (ks : List ℕ) (k : ℕ) → AreCountable ks → IsCountable S s (Next k) → AreCountable (ks ++ k ∷ [])
  all_more [] k h g = (g, tt)
  all_more (i ∷ ks) k h g = (h.0, all_more ks k h.1 g)

  pub all_less : (ks : List ℕ) (k : ℕ) → AreCountable (ks ++ k ∷ []) → AreCountable ks × IsCountable S s (Next k)
  all_less [] k h = (tt, h.0)
  all_less (i ∷ ks) k h = let r = all_less ks k h.1 in ((h.0, r.0), r.1)

  -- one node
  module _ (link : Link) (h : IsCountable S s link) (k : ℕ) (e : Some k ≡ target s.cells.items link) (n : Node) (read : n ≡ get_or s.cells.items k n) where
    pub count_passed : IsPassed s.names.items s.cells.items link k n
    count_passed = passed s.names.items s.cells.items link k n e h.walk read

    abbrev c : Bytes
    c = node_component s.names.items n

    sound_here : Sound (is_held S) (Bin k c n.content (forest s.names.items s.cells.items n.first) (hanging s (Next k)))
    sound_here = subst (Sound (is_held S)) count_passed.opened h.sound

    pub count_held : is_held S n.content ≡ true
    count_held = sound_here.0.content

    pub count_next : IsCountable S s (Next k)
    count_next = record { link_in = inside_link s.names.items s.cells.items k count_passed.inside; walk = count_passed.walk; sound = sound_here.3 }

    pub count_below : IsCountable S s (First k)
    count_below = record { link_in = inside_link s.names.items s.cells.items k count_passed.inside; walk = count_passed.children; sound = subst (Sound (is_held S)) count_passed.below sound_here.2 }

    files_here : files_but S o (hanging s link) ≡ cond (is_number o k) 0 (content_files S n.content (files_but S o (hanging s (First k)))) + files_but S o (hanging s (Next k))
    files_here = ap (files_but S o) count_passed.opened ∙ ap (λ (F : Forest). cond (is_number o k) 0 (content_files S n.content (files_but S o F)) + files_but S o (hanging s (Next k))) count_passed.below

    pub files_skipped : is_number o k ≡ true → files_but S o (hanging s link) ≡ files_but S o (hanging s (Next k))
    files_skipped g = omega (arith, files_here, ap (λ b. cond b 0 (content_files S n.content (files_but S o (hanging s (First k))))) g)

    pub files_taken : is_number o k ≡ false → (x : Content) → n.content ≡ x → files_but S o (hanging s link) ≡ content_files S x (files_but S o (hanging s (First k))) + files_but S o (hanging s (Next k))
    files_taken g x w = files_here ∙ (λ i. cond (g i) 0 (content_files S (w i) (files_but S o (hanging s (First k)))) + files_but S o (hanging s (Next k)))

    pub size_here : size (hanging s link) ≡ size (hanging s (First k)) + size (hanging s (Next k)) + 1
    size_here = omega (arith, ap size count_passed.opened, ap size count_passed.below)

  -- a node that wasn't read
  module _ (link : Link) (h : IsCountable S s link) (k : ℕ) (e : Some k ≡ target s.cells.items link) where
    at_node : (n : Node) × (slice_get s.cells.items k ≡ Some n) × IsPassed s.names.items s.cells.items link k n
    at_node = passed_at s.names.items s.cells.items link k (sym e) h.walk

    read : at_node.0 ≡ get_or s.cells.items k at_node.0
    read = sym (get_or_from_slice_get s.cells.items k at_node.0 at_node.0 at_node.1)

    pub next_at : IsCountable S s (Next k)
    next_at = count_next link h k e at_node.0 read

    pub skipped_at : is_number o k ≡ true → files_but S o (hanging s link) ≡ files_but S o (hanging s (Next k))
    skipped_at g = files_skipped link h k e at_node.0 read g

    pub size_at : size (hanging s link) ≡ size (hanging s (First k)) + size (hanging s (Next k)) + 1
    size_at = size_here link h k e at_node.0 read

  pub files_end : (link : Link) → target s.cells.items link ≡ None → files_but S o (hanging s link) ≡ 0
  files_end link e = ap (files_but S o) (ended s.names.items s.cells.items link e)

-- how the code compares a number with one that may be missing
pub number_eq : (o : Option ℕ) (k : ℕ) (b : Bool) → b ≡ not (option_eq nat_eq (Some k) o) → is_number o k ≡ not b
number_eq None k b e = ap not (sym e)
number_eq (Some j) k b e = sym (ap not e ∙ twice (k == j))
  where
    twice : (b : Bool) → not (not b) ≡ b
    twice true = refl
    twice false = refl

-- A copy and the files that are left.
use Rattle.std.proofs.Common.{◌≡◌, ℕ, suc, ◌+◌, ◌<◌, ◌≤◌, ◌⊎◌, inl, inr, true, false, not, List, [], ◌∷◌, ◌++◌, length, get_or, Result, IsOkAnd, Ok, Err, Option, Some, refl, sym, ap, subst, ◌∙◌, arith, append_assoc}
use Rattle.std.specs.Prelude.{nat_le, slice_get, if◌then◌else◌}
use Rattle.std.specs.List.{list_all}
use Rattle.std.specs.Cmp.{second_so}
use Rattle.std.proofs.lemmas.Bool.Decides.{nat_tests}
use Rattle.git_objects.specs.declared.limits.TheConstants.{TREE_FILES}
use Rattle.git_objects.specs.Paths.{Bytes, Path, is_component, is_nil, is_path}
use Rattle.git_objects.specs.Results.{◌>>=◌, or_refuse}
use Rattle.git_objects.specs.Trees.{Flat, IsTree, Node as FlatNode, at, put, rests, standing}
use Rattle.git_objects.proofs.Pointwise.{IsNode, put-tree}
use Rattle.git_objects.proofs.Standing.{standing_node}
use Rattle.object_store.specs.Objects.{Object, IsStore}
use Rattle.object_store.specs.Sizes.{held_number}
use Rattle.stage_tree.specs.declared.fault.StageFault.{StageFault}
use Rattle.stage_tree.specs.declared.fault.StageFault.TheVariants.{NoSource, OutOfMemory, TooMany}
use Rattle.stage_nodes.specs.declared.nodes.Node.{Node}
use Rattle.stage_nodes.specs.declared.nodes.Nodes.{Nodes}
use Rattle.stage_nodes.specs.declared.nodes.Content.{Content}
use Rattle.stage_nodes.specs.declared.nodes.Content.TheVariants.{Held, Open}
use Rattle.stage_nodes.specs.declared.nodes.Link.{Link}
use Rattle.stage_nodes.specs.declared.nodes.Link.TheVariants.{First}
use Rattle.stage_nodes.specs.Forests.{Forest, Bin, Sound}
use Rattle.stage_nodes.specs.Frames.{plug, path_of}
use Rattle.stage_nodes.specs.Pools.{hanging}
use Rattle.stage_nodes.specs.Leaves.{leaf_in, is_held}
use Rattle.stage_nodes.specs.Branches.{Stands, after_named}
use Rattle.stage_tree.specs.Copies.{IsCopyTo, node_files}
use Rattle.stage_tree.specs.Counts.{IsRoom, content_files, files, files_but}
use Rattle.stage_tree.specs.Edits.{copied, few_files, within_paths}
use Rattle.stage_nodes.specs.Walks.{IsStop, IsWalkable}
use Rattle.stage_tree.specs.Renames.{trunk, trunk_content}
use Rattle.stage_tree.specs.Standings.{Holds, IsNodeAt}
use Rattle.stage_nodes.specs.Ways.{HasPlace, IsOpen, kids_of}
use Rattle.path_trees.specs.Standing.{node}
use Rattle.path_trees.specs.declared.found.Found.{Found}
use Rattle.stage_nodes.proofs.Opening.{read_node}
use Rattle.stage_tree.proofs.CountLeaves.{length_files, files_plug}
use Rattle.stage_tree.proofs.MoveFlats.{standing_rests}
use Rattle.stage_nodes.proofs.Places.{sound_plug}
use Rattle.stage_tree.proofs.PutFits.{children_hang, holds_leaf}
use Rattle.stage_nodes.proofs.NodePlaces.{v}
use Rattle.stage_nodes.proofs.PutLeaves.{put_there}
use Rattle.stage_tree.proofs.Putting.{all_behind}
use Rattle.stage_nodes.proofs.Replacing.{sound_named}
use Rattle.stage_tree.proofs.Room.{place_files}
use Rattle.stage_tree.proofs.Staging.{as_test}
use Rattle.stage_tree.proofs.TrunkLeaves.{sound_trunk, trunk_new}

abbrev zeros : Path → List ℕ
zeros [] = []
zeros (c ∷ p) = 0 ∷ zeros p

zeros_long : (p : Path) → length (zeros p) ≡ length p
zeros_long [] = refl
zeros_long (c ∷ p) = ap suc (zeros_long p)

trunk_files : (S : List Object) (ks : List ℕ) (b : Path) (x : Content) (l : Forest) → length ks ≡ length b → content_files S (trunk_content b x) (files S (trunk ks b x l)) ≡ content_files S x (files S l)
trunk_files S ks [] x l e = refl
trunk_files S [] (d ∷ b) x l e = absurd (omega (arith, e))
trunk_files S (k ∷ ks) (d ∷ b) x l e = omega (arith, trunk_files S ks b x l (omega (arith, e)))

module _ (S : List Object) (st : IsStore S) (s : Nodes) (o : IsOpen S s) (k : ℕ) (h : HasPlace S s (Some k)) (t : Flat) (n : FlatNode) (g : Holds S s h t n) (p : Path) (valid : is_path p ≡ true) (level : ℕ) (link : Link) (child : Option ℕ) (w : IsStop S s p level link child) where
  abbrev c : Bytes
  c = w.component

  abbrev b : Path
  b = w.behind

  abbrev x : Content
  x = (v S s k h).content

  abbrev l : Forest
  l = (v S s k h).children

  path_is : path_of w.place.frames ++ c ∷ b ≡ p
  path_is = ap (λ (q : Path). q ++ c ∷ b) w.place.path ∙ w.path

  components : list_all is_component (c ∷ b) ≡ true
  components = all_behind w.before c b (ap (list_all is_component) w.path ∙ second_so (not (is_nil p)) (list_all is_component p) valid)

  abbrev Z : Forest
  Z = Bin 0 c (trunk_content b x) (trunk (zeros b) b x l) (after_named c w.place.rest)

  leaves : (y : Path) → leaf_in S (plug w.place.frames Z) y ≡ at (put t p n) y
  leaves y =
      put_there S (is_held S) w.place.frames w.place.rest c b 0 (trunk_content b x) (trunk (zeros b) b x l) n (trunk_new S (zeros b) b x l n (zeros_long b) (holds_leaf S st s k h t n g))
      w.place.here.sound_up w.place.fits w.place.here.sound w.place.next w.ended t (λ z. ap (λ (F : Forest). leaf_in S F z) w.place.whole ∙ g.stands z) y
      ∙ ap (λ (q : Path). at (put t q n) y) path_is

  node_tree : IsNode n
  node_tree = subst (λ (q : Option FlatNode). Rattle.std.proofs.Common.IfSome q IsNode) g.there (standing_node t (h.path ++ h.component ∷ []) g.tree)

  pub copied_tree : IsTree (put t p n)
  copied_tree = put-tree t p n g.tree (as_test (is_path p) valid) node_tree

  sound_all : Rattle.stage_nodes.specs.Forests.IsSound (is_held S) c (trunk_content b x) (trunk (zeros b) b x l) × Sound (is_held S) (trunk (zeros b) b x l)
  sound_all = sound_trunk S (zeros b) c b x l (zeros_long b) components (v S s k h).sound.0.filled (v S s k h).sound.0.content (v S s k h).sound.2

  sound_z : Sound (is_held S) (plug w.place.frames Z)
  sound_z = sound_plug (is_held S) w.place.frames Z w.place.here.sound_up w.place.fits tt (sound_named (is_held S) 0 c (trunk_content b x) (trunk (zeros b) b x l) w.place.rest w.place.here.sound w.place.next sound_all.0 sound_all.1)

  node_is : node_files S s k (slice_get s.cells.items k) ≡ content_files S x (files S l)
  node_is =
      ap (node_files S s k) (v S s k h).there
      ∙ (λ i. content_files S ((v S s k h).cell.content i) (files S (children_hang S s k h o i)))

  pub copied_files : length (put t p n) ≡ files_but S child (kids_of s) + node_files S s k (slice_get s.cells.items k)
  copied_files =
      omega (
        arith,
        length_files S st (plug w.place.frames Z) sound_z (put t p n) copied_tree leaves,
        files_plug S w.place.frames Z,
        trunk_files S (zeros b) b x l (zeros_long b),
        place_files S s o w.before c link child w.place,
        node_is,
      )

-- ---- what is left

few_is : (n : ℕ) → n ≤ TREE_FILES → nat_le n TREE_FILES ≡ true
few_is n l = grind (arith, nat_tests)

many_is : (n : ℕ) → TREE_FILES < n → nat_le n TREE_FILES ≡ false
many_is n l = grind (arith, nat_tests)

module _ (t : Flat) (s p : Path) where
  module _ (n : FlatNode) (e : standing t s ≡ Some n) where
    by_limits : copied t s p ≡ (within_paths p n >>= λ _. few_files (put t p n))
    by_limits = ap (λ (o : Option FlatNode). or_refuse NoSource o >>= λ x. within_paths p x >>= λ _. few_files (put t p x)) e

    module _ (ok : within_paths p n ≡ Ok tt) where
      counted : copied t s p ≡ few_files (put t p n)
      counted = by_limits ∙ ap (λ r. r >>= λ _. few_files (put t p n)) ok

      pub copy_left : length (put t p n) ≤ TREE_FILES → copied t s p ≡ Ok (put t p n)
      copy_left h = counted ∙ ap (λ z. if z then Ok (put t p n) else Err TooMany) (few_is (length (put t p n)) h)

      pub copy_many : TREE_FILES < length (put t p n) → copied t s p ≡ Err TooMany
      copy_many h = counted ∙ ap (λ z. if z then Ok (put t p n) else Err TooMany) (many_is (length (put t p n)) h)

pub same_copy : (S : List Object) (s0 s' : Nodes) (a b : Result Flat StageFault) (r : Result ℕ StageFault) → a ≡ b → IsCopyTo S s0 s' a r → IsCopyTo S s0 s' b r
same_copy S s0 s' a b r e = subst (λ x. IsCopyTo S s0 s' x r) e

pub copy_done : (S : List Object) (s0 s' : Nodes) (a : Result Flat StageFault) (t : Flat) (m : ℕ) → a ≡ Ok t → IsOpen S s' → Stands S s' t → length t ≤ m → IsCopyTo S s0 s' a (Ok m)
copy_done S s0 s' a t m e o st low = record { done = subst (λ x. IsOkAnd x (λ u. IsOpen S s' × Stands S s' u × (length u ≤ m))) (sym e) (o, st, low); refused = tt }

-- ---- the node that was read

module _ (S : List Object) (s : Nodes) (k : ℕ) (h : HasPlace S s (Some k)) (x : Node) (read : x ≡ get_or s.cells.items k x) where
  pub read_is : slice_get s.cells.items k ≡ Some x
  read_is = (v S s k h).there ∙ ap Some (sym (read_node s.cells.items k x (v S s k h).node read (v S s k h).there))

  pub held_files : (f : Found) → x.content ≡ Held f → node_files S s k (slice_get s.cells.items k) ≡ length (rests (node S f))
  held_files f e = ap (node_files S s k) read_is ∙ ap (λ (y : Content). content_files S y (files S (hanging s (First k)))) e

  pub open_files : x.content ≡ Open → node_files S s k (slice_get s.cells.items k) ≡ files S (hanging s (First k))
  open_files e = ap (node_files S s k) read_is ∙ ap (λ (y : Content). content_files S y (files S (hanging s (First k)))) e

-- ---- the answers

pub files_held : (S : List Object) → IsStore S → (s : Nodes) → IsOpen S s → (t : Flat) → IsTree t → Stands S s t → (m : ℕ) → held_number (length t) ≤ m → held_number (files S (kids_of s)) ≤ m
files_held S st s o t tree stands m low = omega (arith, low, length_files S st (kids_of s) o.sound t tree stands)

pub room_refused : (t : Flat) (s p : Path) (n : FlatNode) (e : standing t s ≡ Some n) → within_paths p n ≡ Ok tt → (f x : StageFault) → x ≡ f →
    (f ≡ OutOfMemory) ⊎ ((f ≡ TooMany) × (TREE_FILES < length (put t p n))) → (x ≡ OutOfMemory) ⊎ (copied t s p ≡ Err x)
room_refused t s p n e ok f x h (inl g) = inl (h ∙ g)
room_refused t s p n e ok f x h (inr g) = inr (copy_many t s p n e ok g.1 ∙ ap Err (sym (h ∙ g.0)))

-- room for so many more files is room for the tree that is left
pub roomy : (total left number m : ℕ) → total ≡ left + number → IsRoom (left + number) m → IsRoom total m
roomy total left number m count r = record { few = omega (arith, count, r.few); most = omega (arith, count, r.most) }

abbrev pub walkable : (S : List Object) (s : Nodes) → IsOpen S s → IsWalkable s
walkable S s o = record { objects = S; directory = o.directory; sound = o.sound }

-- a refusal of so many more files is one of the tree that is left
pub too_many : (f : StageFault) (left more number total : ℕ) → total ≡ left + number → more ≡ held_number number →
    (f ≡ OutOfMemory) ⊎ ((f ≡ TooMany) × ((k : ℕ) → more ≡ held_number k → TREE_FILES < left + k)) → (f ≡ OutOfMemory) ⊎ ((f ≡ TooMany) × (TREE_FILES < total))
too_many f left more number total count is (inl g) = inl g
too_many f left more number total count is (inr g) = inr (g.0, omega (arith, count, g.1 number is))

pub stands_copied : (S : List Object) (s : Nodes) (p : Path) (k : ℕ) (at_ : IsNodeAt S s p k) (u : Nodes) (to : Path) (t : Flat) → IsTree t → Stands S s t → (n : FlatNode) → standing t p ≡ Some n →
    ((t : Flat) → Stands S s t → (n : FlatNode) → ((r : Path) → at (rests n) r ≡ at t (at_.place.path ++ at_.place.component ∷ r)) → Stands S u (put t to n)) → Stands S u (put t to n)
stands_copied S s p k at_ u to t tree st n e puts =
    puts t st n (λ r. standing_rests t p tree n e r ∙ ap (λ (q : Path). at t (q ++ r)) (sym at_.path) ∙ ap (at t) (append_assoc at_.place.path (at_.place.component ∷ []) r))

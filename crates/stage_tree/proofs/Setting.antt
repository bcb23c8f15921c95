-- A leaf set in a stage.
use Rattle.std.proofs.Common.{◌≡◌, ℕ, suc, ◌+◌, ◌<◌, ◌≤◌, ◌⊎◌, inl, inr, true, false, not, List, [], ◌∷◌, ◌++◌, length, take, Result, Ok, Err, Option, Some, None, IfSome, refl, sym, ap, subst, ◌∙◌, arith}
use Rattle.std.specs.Prelude.{nat_le, IsOkAnd, if◌then◌else◌}
use Rattle.std.specs.List.{list_all}
use Rattle.std.specs.Cmp.{second_so}
use Rattle.git_objects.specs.declared.limits.TheConstants.{TREE_FILES}
use Rattle.git_objects.specs.Paths.{Bytes, Path, is_component, is_nil, is_path}
use Rattle.git_objects.specs.Trees.{Flat, IsTree, at, put, rests}
use Rattle.git_objects.specs.Entries.{is_dir}
use Rattle.git_objects.specs.Bodies.{is_name}
use Rattle.git_objects.proofs.Pointwise.{put-tree}
use Rattle.object_store.specs.Objects.{Object, IsStore, has_child}
use Rattle.object_store.specs.Sizes.{held_number}
use Rattle.path_trees.specs.Standing.{node}
use Rattle.path_trees.specs.declared.found.Found.{Found}
use Rattle.stage_tree.specs.declared.fault.StageFault.{StageFault}
use Rattle.stage_tree.specs.declared.fault.StageFault.TheVariants.{TooMany, OutOfMemory}
use Rattle.stage_nodes.specs.declared.nodes.Nodes.{Nodes}
use Rattle.stage_nodes.specs.declared.nodes.Content.TheVariants.{Held}
use Rattle.stage_nodes.specs.declared.nodes.Link.{Link}
use Rattle.stage_nodes.specs.Forests.{Forest, Bin, Sound}
use Rattle.stage_nodes.specs.Frames.{dirs_of, plug, path_of}
use Rattle.stage_nodes.specs.Leaves.{leaf_in, is_held}
use Rattle.stage_nodes.specs.Expanding.{IsWaste}
use Rattle.stage_nodes.specs.Ways.{IsOpen, IsWay, kids_of}
use Rattle.stage_nodes.specs.Branches.{Stands, after_named, stem, stem_content}
use Rattle.stage_tree.specs.Counts.{IsRoom, content_files, files, files_but}
use Rattle.stage_tree.specs.Edits.{IsEdited, set_in}
use Rattle.stage_nodes.specs.Items.{tree_of}
use Rattle.stage_tree.specs.Sets.{IsArrived, IsChildOf, IsPutAt, IsUnmoved}
use Rattle.stage_tree.specs.Stages.{Staged, Shows, staged}
use Rattle.stage_tree.proofs.CountLeaves.{length_files, files_plug}
use Rattle.stage_tree.proofs.Fewer.{one_leaf}
use Rattle.stage_tree.proofs.FromLast.{unmoved_open}
use Rattle.stage_nodes.proofs.Onward.{dirs_long}
use Rattle.stage_nodes.proofs.OnWay.{waste_still}
use Rattle.stage_nodes.proofs.Places.{sound_plug}
use Rattle.stage_nodes.proofs.PutLeaves.{put_there, stem_new}
use Rattle.stage_tree.proofs.Putting.{all_behind, sound_stem}
use Rattle.stage_nodes.proofs.Replacing.{sound_named}
use Rattle.stage_tree.proofs.Room.{place_files}
use Rattle.stage_tree.proofs.Staging.{as_test, most_stays, node_is, shows_open}

-- the components of a path
pub path_components : (p : Path) → is_path p ≡ true → list_all is_component p ≡ true
path_components p h = second_so (not (is_nil p)) (list_all is_component p) h

-- ---- how many files there are then

abbrev zeros : Path → List ℕ
zeros [] = []
zeros (c ∷ p) = 0 ∷ zeros p

zeros_long : (p : Path) → length (zeros p) ≡ length p
zeros_long [] = refl
zeros_long (c ∷ p) = ap suc (zeros_long p)

module _ (S : List Object) (st : IsStore S) (s : Nodes) (p : Path) (level : ℕ) (link : Link) (child : Option ℕ) (w : IsWay S s s p level link child) (valid : is_path p ≡ true) (f : Found) (own : has_child S f.mode f.name.0 ≡ true) (named : is_name f.name.0 ≡ true) (t : Flat) (tree : IsTree t) (stands : Stands S s t) where
  abbrev c : Bytes
  c = w.component

  abbrev b : Path
  b = w.behind

  held : is_held S (Held f) ≡ true
  held = Rattle.git_objects.proofs.Basics.and_both own named

  path_is : path_of w.place.frames ++ c ∷ b ≡ p
  path_is = ap (λ (q : Path). q ++ c ∷ b) w.place.path ∙ w.path

  components : list_all is_component (c ∷ b) ≡ true
  components = all_behind w.before c b (ap (list_all is_component) w.path ∙ second_so (not (is_nil p)) (list_all is_component p) valid)

  -- what stands there then, whatever the numbers and however the forest came to be
  pub set_leaves : (k : ℕ) (ks : List ℕ) → length ks ≡ length b → (y : Path) →
      leaf_in S (plug w.place.frames (Bin k c (stem_content b f) (stem ks b f) (after_named c w.place.rest))) y ≡ at (put t p (node S f)) y
  set_leaves k ks long y =
      put_there S (is_held S) w.place.frames w.place.rest c b k (stem_content b f) (stem ks b f) (node S f) (λ r. stem_new S ks b f r long) w.place.here.sound_up w.place.fits w.place.here.sound w.place.next w.ended t
      (λ z. ap (λ (F : Forest). leaf_in S F z) w.place.whole ∙ stands z) y
      ∙ ap (λ (q : Path). at (put t q (node S f)) y) path_is

  set_tree : IsTree (put t p (node S f))
  set_tree = put-tree t p (node S f) tree (as_test (is_path p) valid) (node_is S f st own named)

  abbrev Z : Forest
  Z = Bin 0 c (stem_content b f) (stem (zeros b) b f) (after_named c w.place.rest)

  sound_all : Sound (is_held S) (Bin 0 c (stem_content b f) (stem (zeros b) b f) Rattle.stage_nodes.specs.Forests.Nil)
  sound_all = sound_stem S (0 ∷ zeros b) (c ∷ b) f (ap suc (zeros_long b)) components held

  sound_set : Sound (is_held S) (plug w.place.frames Z)
  sound_set = sound_plug (is_held S) w.place.frames Z w.place.here.sound_up w.place.fits tt (sound_named (is_held S) 0 c (stem_content b f) (stem (zeros b) b f) w.place.rest w.place.here.sound w.place.next sound_all.0 sound_all.2)

  stem_files : (ks : List ℕ) (q : Path) → length ks ≡ length q → content_files S (stem_content q f) (files S (stem ks q f)) ≡ length (rests (node S f))
  stem_files ks [] e = refl
  stem_files [] (d ∷ q) e = absurd (omega (arith, e))
  stem_files (k ∷ ks) (d ∷ q) e = omega (arith, stem_files ks q (omega (arith, e)))

  pub set_files : length (put t p (node S f)) ≡ files_but S child (kids_of s) + length (rests (node S f))
  set_files =
      omega (
        arith,
        length_files S st (plug w.place.frames Z) sound_set (put t p (node S f)) set_tree (set_leaves 0 (zeros b) (zeros_long b)),
        files_plug S w.place.frames Z,
        stem_files (zeros b) b (zeros_long b),
        place_files S s w.still.opened w.before c link child w.place,
      )

  -- ---- put there

  module _ (s' : Nodes) (k : ℕ) (g : IsPutAt S s s' p level link child f k w) (m : ℕ) (few : held_number (length (put t p (node S f))) ≤ m) where
    pub set_shows : Shows S (staged s' m) (put t p (node S f))
    set_shows = shows_open S s' m (put t p (node S f)) st g.opened set_tree (λ y. ap (λ (F : Forest). leaf_in S F y) g.whole ∙ set_leaves k g.below g.long y) few

-- ---- what a stage shows

module _ (S : List Object) (s : Nodes) (m : ℕ) (v : Staged) (e : staged s m ≡ v) (t : Flat) (h : Shows S v t) where
  pub shows_unmoved : (s' : Nodes) → IsUnmoved S s s' → Shows S (staged s' m) t
  shows_unmoved s' u = record {
    store = h.store;
    tree = h.tree;
    held = u.held;
    leaves = λ p. u.leaves p ∙ ap (λ (x : Staged). at (tree_of S x.items) p) e ∙ h.leaves p;
    few = most_stays S s m v t t e h (omega arith);
  }

  module _ (s1 : Nodes) (p : Path) (ns : List ℕ) (level : ℕ) (link : Link) (child : Option ℕ) (a : IsArrived S s s1 p ns level link child) where
    arrived_open : IsOpen S s1
    arrived_open = a.way.still.opened

    arrived_stands : Stands S s1 t
    arrived_stands p = a.leaves p ∙ ap (λ (x : Staged). at (tree_of S x.items) p) e ∙ h.leaves p

    pub arrived_unmoved : IsUnmoved S s s1
    arrived_unmoved = unmoved_open S s s1 arrived_open a.leaves

    pub wasted_unmoved : (s2 : Nodes) → IsWaste s1 s2 → IsUnmoved S s s2
    wasted_unmoved s2 w =
        let i = waste_still S s1 s2 arrived_open w in
        unmoved_open S s s2 i.opened (λ y. i.leaves y ∙ a.leaves y)

    pub arrived_most : held_number (files S (kids_of s1)) ≤ m
    arrived_most = omega (arith, most_stays S s m v t t e h (omega arith), length_files S h.store (kids_of s1) arrived_open.sound t h.tree arrived_stands)

    -- whatever is put, where any number of files may be shown
    pub put_done : (valid : is_path p ≡ true) (f : Found) (own : has_child S f.mode f.name.0 ≡ true) (named : is_name f.name.0 ≡ true) (s2 : Nodes) (k : ℕ) → IsPutAt S s1 s2 p level link child f k a.way → Shows S (staged s2 4294967295) (put t p (node S f))
    put_done valid f own named s2 k g = set_shows S h.store s1 p level link child a.way valid f own named t h.tree arrived_stands s2 k g 4294967295 (omega arith)

    module _ (valid : is_path p ≡ true) (f : Found) (own : has_child S f.mode f.name.0 ≡ true) (named : is_name f.name.0 ≡ true) (leaf : is_dir f.mode ≡ false) where
      count : length (put t p (node S f)) ≡ files_but S child (kids_of s1) + 1
      count = omega (arith, set_files S h.store s1 p level link child a.way valid f own named t h.tree arrived_stands, one_leaf S f leaf)

      few_is : (n : ℕ) → n ≤ TREE_FILES → nat_le n TREE_FILES ≡ true
      few_is n l = grind (arith, Rattle.std.proofs.lemmas.Bool.Decides.nat_tests)

      many_is : (n : ℕ) → TREE_FILES < n → nat_le n TREE_FILES ≡ false
      many_is n l = grind (arith, Rattle.std.proofs.lemmas.Bool.Decides.nat_tests)

      pub set_done : {A : Type 0} (x : A) (s2 : Nodes) (k : ℕ) → IsPutAt S s1 s2 p level link child f k a.way → (m' : ℕ) → IsRoom (files_but S child (kids_of s1) + 1) m' → IsEdited {A = A} S (staged s2 m') t (set_in t p (node S f)) (Ok x)
      set_done x s2 k g m' r =
          let u = put t p (node S f) in
          let shows : Shows S (staged s2 m') u = set_shows S h.store s1 p level link child a.way valid f own named t h.tree arrived_stands s2 k g m' (omega (arith, count, r.most)) in
          record {
            done = subst (λ (w : Result Flat StageFault). IsOkAnd w (Shows S (staged s2 m'))) (sym (ap (λ v. if v then Ok u else Err TooMany) (few_is (length u) (omega (arith, count, r.few))))) shows;
            refused = tt;
          }

      pub set_refused : {A : Type 0} (s2 : Nodes) (x : StageFault) → IsUnmoved S s s2 → (x ≡ OutOfMemory) ⊎ ((x ≡ TooMany) × (TREE_FILES < files_but S child (kids_of s1) + 1)) → IsEdited {A = A} S (staged s2 m) t (set_in t p (node S f)) (Err x)
      set_refused s2 x u (inl g) = record { done = tt; refused = (shows_unmoved s2 u, inl g) }
      set_refused s2 x u (inr g) =
          let r = put t p (node S f) in
          record {
            done = tt;
            refused = (shows_unmoved s2 u, inr (ap (λ v. if v then Ok r else Err TooMany) (many_is (length r) (omega (arith, count, g.1))) ∙ ap Err (sym g.0)));
          }

  pub memory_refused : {A : Type 0} (s2 : Nodes) (x : StageFault) (left : Result Flat StageFault) → IsUnmoved S s s2 → x ≡ OutOfMemory → IsEdited {A = A} S (staged s2 m) t left (Err x)
  memory_refused s2 x left u g = record { done = tt; refused = (shows_unmoved s2 u, inl g) }

-- ---- the node that is known then

-- the components before the end of a way, and the numbers of their directories
module _ (S : List Object) (s s' : Nodes) (p : Path) (level : ℕ) (link : Link) (child : Option ℕ) (w : IsWay S s s' p level link child) where
  pub way_before : path_of w.place.frames ≡ take level p
  way_before = w.place.path ∙ sym (ap (take level) (sym w.path) ∙ front w.before (w.component ∷ w.behind) level w.level_is)
    where
      front : (a b : Path) (n : ℕ) → length a ≡ n → take n (a ++ b) ≡ a
      front a b n e = ap (λ i. take i (a ++ b)) (sym e) ∙ Rattle.std.proofs.Math.Seq.take-append_seam a b

  pub numbers_long : (ns : List ℕ) → dirs_of w.place.frames ≡ ns → length ns ≡ level
  numbers_long ns e = ap length (sym e) ∙ dirs_long w.place.frames ∙ ap length w.place.path ∙ w.level_is

pub child_set : (S : List Object) (s s' : Nodes) (p : Path) (ns : List ℕ) (level : ℕ) (link : Link) (child : Option ℕ) (f : Found) (k : ℕ) (w : IsWay S s s p level link child) → dirs_of w.place.frames ≡ ns → IsPutAt S s s' p level link child f k w → IsChildOf s' (take level p) ns k
child_set S s s' p ns level link child f k w e g = record {
  frames = w.place.frames;
  component = w.component;
  content = stem_content w.behind f;
  children = stem g.below w.behind f;
  siblings = after_named w.component w.place.rest;
  whole = sym g.whole;
  path = way_before S s s p level link child w;
  numbers = e;
}

pub remembered : (s : Nodes) (o : Option ℕ) (q r : Path) (ns ms : List ℕ) (k : ℕ) → IfSome o (λ j. (j ≡ k) × (q ≡ r)) → ns ≡ ms → IsChildOf s r ms k → IfSome o (IsChildOf s q ns)
remembered s None q r ns ms k h e g = tt
remembered s (Some j) q r ns ms k h e g =
    subst (λ (i : ℕ). IsChildOf s q ns i) (sym h.0) (subst (λ (x : Path). IsChildOf s x ns k) (sym h.1) (subst (λ (x : List ℕ). IsChildOf s r x k) (sym e) g))

-- the same way, where its path is spelled in another way
pub arrived_at : (S : List Object) (s s1 : Nodes) (p q : Path) (ns : List ℕ) (level : ℕ) (link : Link) (child : Option ℕ) → p ≡ q → IsArrived S s s1 p ns level link child → IsArrived S s s1 q ns level link child
arrived_at S s s1 p q ns level link child e a = subst (λ (x : Path). IsArrived S s s1 x ns level link child) e a

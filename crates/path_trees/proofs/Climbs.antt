-- The directories on the way made anew, from the deepest to the root's.
use Rattle.std.proofs.Common.{◌≡◌, ℕ, suc, ◌+◌, ◌<◌, true, false, not, T, List, [], ◌∷◌, ◌++◌, length, get_or, take, drop, IfSome, IfNone, IfOk, IfErr, Result, Ok, Err, Option, Some, None, refl, sym, ap, subst, ◌∙◌, arith, append_assoc}
use Rattle.std.specs.Prelude.{slice_get}
use Rattle.std.specs.Option.{option_map, unwrap_or}
use Rattle.std.proofs.lemmas.List.{take_more, length-take-le}
use Rattle.std.proofs.Math.Seq.{split_at, take-length}
use Rattle.git_objects.specs.Paths.{Bytes, Path, is_path, is_nil, is_component}
use Rattle.git_objects.specs.Trees.{Flat, IsTree, Node, LeafNode, TreeNode, at, under, put, remove}
use Rattle.git_objects.specs.Names.{name}
use Rattle.git_objects.specs.Entries.{body_text}
use Rattle.git_objects.specs.Parts.{name_bytes}
use Rattle.git_objects.specs.Bodies.{is_name, tree_entries}
use Rattle.git_objects.specs.declared.entry.Entry.{Entry}
use Rattle.git_objects.specs.declared.name.Name.{Name}
use Rattle.git_objects.specs.declared.kind.Kind.TheVariants.{Tree}
use Rattle.git_objects.specs.declared.mode.Mode.TheVariants.{Dir}
use Rattle.git_objects.proofs.Basics.{and_both}
use Rattle.git_objects.proofs.Digests.{name-is_name}
use Rattle.git_objects.proofs.Pointwise.{IsNode}
use Rattle.object_store.specs.Objects.{Object, has, has_child, IsStore}
use Rattle.object_store.specs.Puts.{of_body}
use Rattle.object_store.specs.Unfolding.{flat, StandsFor}
use Rattle.object_store.proofs.Held.{has-above}
use Rattle.object_store.proofs.Listings.{IsFullNode}
use Rattle.object_store.proofs.Unfolding.{growing_law, IsHeld, flat_good, node_good}
use Rattle.path_trees.specs.Standing.{node, IsClear}
use Rattle.path_trees.specs.Made.{IsOnWay, AreMade, IsGrown, IsTreeFault}
use Rattle.path_trees.specs.Listed.{listed_at, changed, edited}
use Rattle.path_trees.specs.Levels.{IsDirectory, AreDirectories, IsTaken, IsRefused, IsAbove}
use Rattle.path_trees.specs.declared.found.Found.{Found}
use Rattle.path_trees.specs.declared.found.TreeFault.{TreeFault}
use Rattle.path_trees.specs.declared.found.TreeFault.TheVariants.{Collision, OutOfMemory}
use Rattle.path_trees.proofs.Grown.{joined_in}
use Rattle.path_trees.proofs.Listings.{OnFound}
use Rattle.path_trees.proofs.Levels.{rests_of}
use Rattle.path_trees.proofs.Trees.{AreGood, good_fits, good_read, tree_listed}
use Rattle.path_trees.proofs.Taken.{IsIn, taken}
use Rattle.path_trees.proofs.Lookups.{under_nil, read_at}
use Rattle.path_trees.proofs.Editing.{IsEdit, put_edit, remove_edit, put_part, remove_part, new_good, level_map, level_body, level_part}

-- what is found has a held child
abbrev pub IsHeldChange : List Object → Option Found → Type 0
IsHeldChange S o = IfSome o (λ f. (has_child S f.mode f.name.0 ≡ true) × (is_name f.name.0 ≡ true))

-- the directories below the first k components are made, and this is what the path of these components has
pub record IsClimb (S0 : List Object) (p : Path) (u : Flat) (k : ℕ) (S : List Object) (change : Option Found) : Type 0 where
  pub grown : IsGrown (IsOnWay u p) S0 S
  pub held : IsHeldChange S change
  pub part : (x : Path) → at (rests_of S change) x ≡ at u (take k p ++ x)

-- ---- the first turn

pub full_node : (n : Node) → IsFullNode n → IsNode n
full_node (LeafNode x) h = h
full_node (TreeNode []) h = absurd h
full_node (TreeNode (e ∷ t)) h = h

module _ (S : List Object) (s : IsStore S) (t : Flat) (tree : IsTree t) (p : Path) (path : is_path p ≡ true) where
  pub is_edit : (o : Option Found) → IsHeldChange S o → IfNone o (IsClear t p) → IsEdit t p (edited t p (option_map (node S) o))
  is_edit None h c = remove_edit t p tree c
  is_edit (Some f) h c = put_edit t p (node S f) tree (subst T (sym path) tt) (full_node (node S f) (node_good S s (flat_good S s) f.mode f.name.0 h.0 h.1))

  first_part : (o : Option Found) (x : Path) → at (rests_of S o) x ≡ at (edited t p (option_map (node S) o)) (take (length p) p ++ x)
  first_part None x = remove_part t p x ∙ ap (λ q. at (remove t p) (q ++ x)) (sym (take-length p))
  first_part (Some f) x = put_part t p (node S f) x ∙ ap (λ q. at (put t p (node S f)) (q ++ x)) (sym (take-length p))

  pub first_turn : (o : Option Found) → IsHeldChange S o → IsClimb S p (edited t p (option_map (node S) o)) (length p) S o
  first_turn o h = record { grown = record { store = s; newer = []; above = refl; trees = tt }; held = h; part = first_part o }

-- ---- what a directory lists when the store has grown

pub directory_listed : (S0 S : List Object) (newer : List Object) (w : Flat) (o : Option Name) → newer ++ S0 ≡ S → IsStore S → IsDirectory S0 w o →
    AreGood S (listed_at S (option_map name_bytes o)) × (joined_in S (listed_at S (option_map name_bytes o)) ≡ w)
directory_listed S0 S newer w None a s d = (record { entries = tt; held = tt }, sym d)
directory_listed S0 S newer w (Some n) a s d =
    let s' : IsStore (newer ++ S0) = subst IsStore (sym a) s in
    let held : has Tree S n.0 ≡ true = subst (λ (R : List Object). has Tree R n.0 ≡ true) a (has-above newer S0 Tree n.0 d.held) in
    let map : flat S n.0 ≡ w = subst (λ (R : List Object). flat R n.0 ≡ flat S0 n.0) a (growing_law newer S0 n.0 s' d.held) ∙ d.map in
    let r = tree_listed S n.0 s held in
    subst (λ (l : Option (List Entry)). AreGood S (unwrap_or l []) × (joined_in S (unwrap_or l []) ≡ w)) (sym r.1) (r.2, sym r.3 ∙ map)

-- ---- one more tree

pub made_append : (made : Bytes → Type 0) (a b : List Object) → AreMade made a → AreMade made b → AreMade made (a ++ b)
made_append made [] b h g = g
made_append made (o ∷ a) b h g = (h.0, h.1, made_append made a b h.2 g)

pub grown_in : (made : Bytes → Type 0) (S0 S S' : List Object) (b : Bytes) (t : Flat) → IsGrown made S0 S → IsStore S' → IsIn made S S' b t → IsGrown made S0 S'
grown_in made S0 S S' b t g s i = record {
  store = s;
  newer = i.newer ++ g.newer;
  above = append_assoc i.newer g.newer S0 ∙ ap (λ (R : List Object). i.newer ++ R) g.above ∙ i.above;
  trees = made_append made i.newer g.newer i.trees g.trees;
}

held_change : (S : List Object) (c : Bytes) (o : Option Found) → IsHeldChange S o → OnFound (IsHeld S) c o
held_change S c None h = tt
held_change S c (Some f) h = record { child = h.0; name = h.1 }

pub no_entries : (es : List Entry) → Some es ≡ Some [] → es ≡ []
no_entries es e = cc

pub empty_read : tree_entries [] ≡ Some []
unfolding tree_entries
empty_read = refl

-- ---- one level

module _ (S0 : List Object) (t : Flat) (p : Path) (u : Flat) (edit : IsEdit t p u) (names : List Name) (dirs : AreDirectories S0 t p names) (k : ℕ) (within : k < length p) (S : List Object) (change : Option Found)
    (climb : IsClimb S0 p u (k + 1) S change) (c : Bytes) (own : c ≡ get_or p k c) (valid : is_component c ≡ true) (o : Option Name) (this : o ≡ slice_get names k) (b : Bytes)
    (text : b ≡ body_text (changed c change (listed_at S (option_map name_bytes o)))) where
  abbrev q : Path
  q = take k p

  abbrev r : Path
  r = drop (suc k) p

  abbrev es : List Entry
  es = listed_at S (option_map name_bytes o)

  abbrev new : List Entry
  new = changed c change es

  path : q ++ c ∷ r ≡ p
  path = (λ i. q ++ own i ∷ r) ∙ sym (split_at p k c within)

  directory : IsDirectory S0 (under t q) o
  directory = subst (IsDirectory S0 (under t q)) (ap (slice_get names) (length-take-le k p (omega arith)) ∙ sym this) (dirs q c r path)

  listing : AreGood S es × (joined_in S es ≡ under t q)
  listing = directory_listed S0 S climb.grown.newer (under t q) o climb.grown.above climb.grown.store directory

  part : (x : Path) → at (rests_of S change) x ≡ at u ((q ++ c ∷ []) ++ x)
  part x = climb.part x ∙ ap (λ (y : Path). at u (y ++ x)) (take_more p k c within ∙ (λ i. q ++ sym own i ∷ []))

  good : AreGood S new
  good = new_good t p u edit q c r path S climb.grown.store es listing.0 listing.1 valid change (held_change S c change climb.held) part

  map : joined_in S new ≡ under u q
  map = level_map t p u edit q c r path S climb.grown.store es listing.0 listing.1 valid change (held_change S c change climb.held) part

  below : (x : Path) → at (under u q) x ≡ at u (q ++ x)
  below = level_part t p u edit q c r path S climb.grown.store es listing.0 listing.1 valid change (held_change S c change climb.held) part

  pub fits : of_body S Tree b None ≡ None
  fits = ap (λ t. of_body S Tree t None) text ∙ good_fits S new good

  pub made : IsOnWay u p b
  made = record { above = q; component = c; rest = r; path = path; body = level_body t p u edit q c r path S climb.grown.store es listing.0 listing.1 valid change (held_change S c change climb.held) part ∙ sym text }

  is_in : (S' : List Object) → IsTaken S b S' → IsIn (IsOnWay u p) S S' b (joined_in S new)
  is_in S' h = taken (IsOnWay u p) S S' b new climb.grown.store text good made h

  pub grown_taken : (S' : List Object) → IsStore S' → IsTaken S b S' → IsGrown (IsOnWay u p) S0 S'
  grown_taken S' s h = grown_in (IsOnWay u p) S0 S S' b (joined_in S new) climb.grown s (is_in S' h)

  pub stands_taken : (S' : List Object) → IsTaken S b S' → StandsFor S' (name Tree b) (under u q)
  stands_taken S' h = let i = is_in S' h in record { held = i.held; map = i.map ∙ map }

  pub refused : (e : TreeFault) → IsRefused S b e → IsTreeFault (IsOnWay u p) S e
  refused (Collision n) h = record { body = b; is_made = made; held = h }
  refused OutOfMemory h = tt

  climb_empty : b ≡ [] → IsClimb S0 p u k S None
  climb_empty e = record {
    grown = climb.grown;
    held = tt;
    part = λ x. ap (λ (t : Flat). at t x) (sym (ap (joined_in S) (no_entries new (sym (good_read S new good) ∙ ap tree_entries (sym text ∙ e) ∙ empty_read))) ∙ map) ∙ below x;
  }

  climb_full : (S' : List Object) → IsStore S' → is_nil b ≡ false → IsTaken S b S' → IsClimb S0 p u k S' (Some (record { mode = Dir; name = record { 0 = name Tree b } }))
  climb_full S' s f h =
      let i = is_in S' h in
      record {
        grown = grown_taken S' s h;
        held = (and_both i.held (ap (λ (d : Bytes). not (is_nil d)) i.body ∙ ap not f), name-is_name Tree b);
        part = λ x. ap (λ (t : Flat). at t x) (i.map ∙ map) ∙ below x;
      }

  pub climb_on : (S' : List Object) (above : Option Found) → IsStore S' → IsAbove S b S' above → IsClimb S0 p u k S' above
  climb_on S' None s h = subst (λ (R : List Object). IsClimb S0 p u k R None) (sym h.1) (climb_empty h.0)
  climb_on S' (Some f) s h = subst (λ (x : Found). IsClimb S0 p u k S' (Some x)) (sym h.0) (climb_full S' s h.1 h.2)

-- ---- all that one level gives

pub record IsLevel (S0 : List Object) (p : Path) (u : Flat) (k : ℕ) (S : List Object) (b : Bytes) : Type 0 where
  pub fitting : of_body S Tree b None ≡ None
  pub refusing : (e : TreeFault) → IsRefused S b e → IsTreeFault (IsOnWay u p) S e
  pub climbing : (S' : List Object) (above : Option Found) → IsStore S' → IsAbove S b S' above → IsClimb S0 p u k S' above
  pub growing : (S' : List Object) → IsStore S' → IsTaken S b S' → IsGrown (IsOnWay u p) S0 S'
  pub standing_for : (S' : List Object) → IsTaken S b S' → StandsFor S' (name Tree b) (under u (take k p))

module _ (S0 : List Object) (s0 : IsStore S0) (root : Bytes) (held : has Tree S0 root ≡ true) (p : Path) (path : is_path p ≡ true) (first : Option Found) (h : IsHeldChange S0 first) (clear : IfNone first (IsClear (flat S0 root) p)) where
  abbrev pub result_of : Flat
  result_of = edited (flat S0 root) p (option_map (node S0) first)

  root_tree : IsTree (flat S0 root)
  root_tree = (flat_good S0 s0 root held).tree

  edit_of : IsEdit (flat S0 root) p result_of
  edit_of = is_edit S0 s0 (flat S0 root) root_tree p path first h clear

  pub whole : under result_of (take 0 p) ≡ result_of
  whole = under_nil result_of edit_of.tree

  pub level_up : (names : List Name) → AreDirectories S0 (flat S0 root) p names → (k : ℕ) → k < length p → (S : List Object) (change : Option Found) → IsClimb S0 p result_of (k + 1) S change →
      (q : Path) → q ≡ p → (x c : Bytes) → c ≡ x → x ≡ get_or q k x → is_component x ≡ true → (all : List Name) → all ≡ names → (o : Option Name) → o ≡ slice_get all k → (b : Bytes) → b ≡ body_text (changed c change (listed_at S (option_map name_bytes o))) →
      IsLevel S0 p result_of k S b
  level_up names dirs k within S change climb q same x c e own valid all names_same o this b text =
      let component : c ≡ get_or p k c = read_at q p k x c same e own in
      let valid_c : is_component c ≡ true = ap is_component e ∙ valid in
      let place : o ≡ slice_get names k = this ∙ ap (λ (l : List Name). slice_get l k) names_same in
      record {
        fitting = fits S0 (flat S0 root) p result_of edit_of names dirs k within S change climb c component valid_c o place b text;
        refusing = refused S0 (flat S0 root) p result_of edit_of names dirs k within S change climb c component valid_c o place b text;
        climbing = climb_on S0 (flat S0 root) p result_of edit_of names dirs k within S change climb c component valid_c o place b text;
        growing = grown_taken S0 (flat S0 root) p result_of edit_of names dirs k within S change climb c component valid_c o place b text;
        standing_for = stands_taken S0 (flat S0 root) p result_of edit_of names dirs k within S change climb c component valid_c o place b text;
      }

-- ---- the last turn, whatever it answers

module _ (S0 : List Object) (p : Path) (u : Flat) (new old : List Object) (b : Bytes) (level : IsLevel S0 p u 0 old b) where
  pub finish_ok : (r : Result Name TreeFault) → under u (take 0 p) ≡ u → IfOk r (λ n. (n.0 ≡ name Tree b) × IsTaken old b new) → IfOk r (λ n. StandsFor new n.0 u)
  finish_ok (Ok n) w h = subst (λ (m : Bytes). StandsFor new m u) (sym h.0) (subst (StandsFor new (name Tree b)) w (level.standing_for new h.1))
  finish_ok (Err e) w h = tt

  pub finish_err : (r : Result Name TreeFault) → IfErr r (λ e. (new ≡ old) × IsRefused old b e) → IfErr r (IsTreeFault (IsOnWay u p) new)
  finish_err (Ok n) h = tt
  finish_err (Err e) h = subst (λ (R : List Object). IsTreeFault (IsOnWay u p) R e) (sym h.0) (level.refusing e h.1)

  pub finish_store : (r : Result Name TreeFault) → IsGrown (IsOnWay u p) S0 old → IsStore new → IfOk r (λ n. (n.0 ≡ name Tree b) × IsTaken old b new) →
      IfErr r (λ e. (new ≡ old) × IsRefused old b e) → IsGrown (IsOnWay u p) S0 new
  finish_store (Ok n) g s h k = level.growing new s h.1
  finish_store (Err e) g s h k = subst (λ (R : List Object). IsGrown (IsOnWay u p) S0 R) (sym k.0) g

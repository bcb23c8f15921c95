-- The directories that two trees share made anew, from the last to the roots.
use Rattle.std.proofs.Common.{◌≡◌, ℕ, zero, suc, ◌+◌, ◌<◌, ◌≤◌, inl, inr, true, false, not, List, [], ◌∷◌, ◌++◌, length, drop, Option, Some, None, refl, sym, ap, subst, ◌∙◌, true≢false, arith, le_refl}
use Rattle.std.specs.Prelude.{slice_get}
use Rattle.std.proofs.lemmas.Bool.{cases_lt}
use Rattle.std.proofs.lemmas.Option.{slice_get_within}
use Rattle.git_objects.specs.Paths.{Bytes, Path, is_nil}
use Rattle.git_objects.specs.Trees.{Flat, IsTree, at, under}
use Rattle.git_objects.specs.Names.{name, body, depth}
use Rattle.git_objects.specs.Entries.{body_text}
use Rattle.git_objects.specs.Bodies.{is_name, tree_entries}
use Rattle.git_objects.specs.declared.entry.Entry.{Entry}
use Rattle.git_objects.specs.declared.name.Name.{Name}
use Rattle.git_objects.specs.declared.kind.Kind.TheVariants.{Tree}
use Rattle.git_objects.specs.declared.mode.Mode.TheVariants.{Dir}
use Rattle.git_objects.proofs.Basics.{and_both}
use Rattle.git_objects.proofs.Digests.{name-is_name}
use Rattle.git_objects.proofs.Maps.{first_some, same_flat}
use Rattle.git_objects.proofs.Order.{path_decides}
use Rattle.object_store.specs.Objects.{Object, IsStore, has, has_child, body_of}
use Rattle.object_store.specs.Puts.{of_body}
use Rattle.object_store.specs.Unfolding.{flat, StandsFor}
use Rattle.object_store.proofs.Held.{has-above}
use Rattle.object_store.proofs.Unfolding.{IsFlat, flat_good, growing_law}
use Rattle.path_trees.specs.Clashes.{IsShared, clash, together}
use Rattle.path_trees.specs.Joins.{IsPlaced, IsLinked, AreLinked, listing_of}
use Rattle.path_trees.specs.Levels.{IsTaken, IsRefused}
use Rattle.path_trees.specs.Listed.{listed}
use Rattle.path_trees.specs.Made.{IsGrown, IsTreeFault}
use Rattle.path_trees.specs.Merged.{Side, merged, shared, with_names}
use Rattle.path_trees.specs.declared.found.TreeFault.{TreeFault}
use Rattle.path_trees.specs.declared.found.TreeFault.TheVariants.{Collision, OutOfMemory}
use Rattle.path_trees.specs.declared.join.Shared.{Shared}
use Rattle.path_trees.proofs.Grown.{joined_in, body-above, child-above}
use Rattle.path_trees.proofs.Levels.{at-joined_nil}
use Rattle.path_trees.proofs.Trees.{AreGood, good_flat, good_fits, good_read, listed_tree}
use Rattle.path_trees.proofs.Taken.{IsIn, taken}
use Rattle.path_trees.proofs.Climbs.{grown_in, no_entries, empty_read}
use Rattle.path_trees.proofs.Walks.{held_dir}
use Rattle.path_trees.proofs.Clashing.{at-together}
use Rattle.path_trees.proofs.Merging.{AreJoined, merged_entries, merged_held, merged_map}
use Rattle.path_trees.proofs.Placed.{IsOpen, opened, drop_got}
use Rattle.path_trees.proofs.Together.{together_tree, under_together}

-- this name stands for the leaves of both
pub record IsMade (S0 S : List Object) (d : Shared) (n : Name) : Type 0 where
  pub child : has_child S Dir n.0 ≡ true
  pub name : is_name n.0 ≡ true
  pub map : flat S n.0 ≡ together (flat S0 d.left.0) (flat S0 d.right.0)

-- the directories from the k-th on are made
pub record AreRisen (S0 : List Object) (a b : Flat) (all : List Shared) (S : List Object) (names : List Name) (k : ℕ) : Type 0 where
  pub grown : IsGrown (IsShared a b) S0 S
  pub count : length names ≡ length all
  pub within : k ≤ length all
  pub made : (i : ℕ) (d : Shared) (n : Name) → k ≤ i → slice_get all i ≡ Some d → slice_get names i ≡ Some n → IsMade S0 S d n

pub none_risen : (S0 : List Object) (a b : Flat) (all : List Shared) (names : List Name) → IsStore S0 → length names ≡ length all → AreRisen S0 a b all S0 names (length all)
none_risen S0 a b all names s e = record {
  grown = record { store = s; newer = []; above = refl; trees = tt };
  count = e;
  within = le_refl _;
  made = λ i d n l g h. let w = slice_get_within all i d g in absurd (omega arith);
}

-- ---- what the store had stays

module _ (S0 S newer : List Object) (above : newer ++ S0 ≡ S) (s : IsStore S) where
  long : IsStore (newer ++ S0)
  long = subst IsStore (sym above) s

  pub old_held : (n : Bytes) → has Tree S0 n ≡ true → has Tree S n ≡ true
  old_held n h = subst (λ (R : List Object). has Tree R n ≡ true) above (has-above newer S0 Tree n h)

  pub old_flat : (n : Bytes) → has Tree S0 n ≡ true → flat S n ≡ flat S0 n
  old_flat n h = subst (λ (R : List Object). flat R n ≡ flat S0 n) above (growing_law newer S0 n long h)

  pub old_listed : (n : Bytes) → IsStore S0 → has Tree S0 n ≡ true → listed S n ≡ listed S0 n
  old_listed n s0 h =
      listed_tree S n s (old_held n h)
      ∙ ap tree_entries (subst (λ (R : List Object). body_of Tree R n ≡ body_of Tree S0 n) above (body-above newer S0 Tree n long h))
      ∙ sym (listed_tree S0 n s0 h)

  old_child : (n : Bytes) → has_child S0 Dir n ≡ true → has_child S Dir n ≡ true
  old_child n h = subst (λ (R : List Object). has_child R Dir n ≡ true) above (child-above newer S0 Dir n long h)

made_on : (S0 S S' newer : List Object) → newer ++ S ≡ S' → IsStore S' → (d : Shared) (n : Name) → IsMade S0 S d n → IsMade S0 S' d n
made_on S0 S S' newer above s d n m = record {
  child = old_child S S' newer above s n.0 m.child;
  name = m.name;
  map = old_flat S S' newer above s n.0 (held_dir S Dir n.0 refl m.child).0 ∙ m.map;
}

-- ---- lists

set_same : (xs : List Name) (k : ℕ) (x : Name) → k < length xs → slice_get (Rattle.std.specs.Prelude.slice_set xs k x) k ≡ Some x
set_same [] k x h = absurd (omega arith)
set_same (y ∷ xs) zero x h = refl
set_same (y ∷ xs) (suc k) x h = set_same xs k x (omega arith)

set_other : (xs : List Name) (k i : ℕ) (x : Name) → k < i → slice_get (Rattle.std.specs.Prelude.slice_set xs k x) i ≡ slice_get xs i
set_other [] k i x h = refl
set_other (y ∷ xs) zero zero x h = absurd (omega arith)
set_other (y ∷ xs) zero (suc i) x h = refl
set_other (y ∷ xs) (suc k) zero x h = absurd (omega arith)
set_other (y ∷ xs) (suc k) (suc i) x h = set_other xs k i x (omega arith)

set_length : (xs : List Name) (k : ℕ) (x : Name) → length (Rattle.std.specs.Prelude.slice_set xs k x) ≡ length xs
set_length [] k x = refl
set_length (y ∷ xs) zero x = refl
set_length (y ∷ xs) (suc k) x = let h = set_length xs k x in omega arith

first_of : (xs : List Shared) (i : ℕ) (d : Shared) (ds : List Shared) → drop i xs ≡ d ∷ ds → (slice_get xs i ≡ Some d) × (drop (suc i) xs ≡ ds)
first_of [] zero d ds h = cc
first_of [] (suc i) d ds h = cc
first_of (x ∷ xs) zero d ds h = let e : x ≡ d = cc in let f : xs ≡ ds = cc in (ap Some e, f)
first_of (x ∷ xs) (suc i) d ds h = first_of xs i d ds h

together_full : (a b : Flat) → is_nil a ≡ false → together a b ≡ [] → ⊥
together_full [] b h e = true≢false h
together_full (x ∷ a) b h e =
    let here : at (together (x ∷ a) b) x.0 ≡ Some x.1 =
    at-together (x ∷ a) b x.0 ∙ ap (λ v. first_some (Rattle.std.proofs.Common.cond v (Some x.1) (at a x.0)) (at b x.0)) ((path_decides x.0 x.0).1 refl) in
    let none : None ≡ Some x.1 = sym (ap (λ (t : Flat). at t x.0) e) ∙ here in
    cc

-- ---- one directory

module _ (S0 : List Object) (s0 : IsStore S0) (a b : Flat) (tree_a : IsTree a) (tree_b : IsTree b) (apart : clash a b ≡ None) (root : Shared) (all : List Shared) (firsts : List ℕ) (linked : AreLinked S0 a b root all firsts)
    (S : List Object) (names : List Name) (k : ℕ) (risen : AreRisen S0 a b all S names (k + 1)) (d : Shared) (this : slice_get all k ≡ Some d) (first : ℕ) (place : slice_get firsts k ≡ Some first) where
  s : IsStore S
  s = risen.grown.store

  placed : IsPlaced S0 a b d
  placed = linked.placed k d this

  link : IsLinked S0 all k d first
  link = linked.linked k d first this place

  pub left_held : has Tree S d.left.0 ≡ true
  left_held = old_held S0 S risen.grown.newer risen.grown.above s d.left.0 placed.left.held

  pub right_held : has Tree S d.right.0 ≡ true
  right_held = old_held S0 S risen.grown.newer risen.grown.above s d.right.0 placed.right.held

  same_flat_of : (n : Bytes) → has Tree S0 n ≡ true → flat S n ≡ flat S0 n
  same_flat_of n h = old_flat S0 S risen.grown.newer risen.grown.above s n h

  same_listing : listing_of S d ≡ listing_of S0 d
  same_listing = λ i. merged
      (Rattle.std.specs.Option.unwrap_or (old_listed S0 S risen.grown.newer risen.grown.above s d.left.0 s0 placed.left.held i) [])
      (Rattle.std.specs.Option.unwrap_or (old_listed S0 S risen.grown.newer risen.grown.above s d.right.0 s0 placed.right.held i) [])

  run : drop first all ≡ shared (listing_of S d) ++ link.others
  run = link.run ∙ ap (λ (ps : List Side). shared ps ++ link.others) (sym same_listing)

  pub enough : first + length (shared (listing_of S d)) ≤ length names
  enough =
      let n = ap length run in
      let m = Rattle.std.proofs.Common.length-append (shared (listing_of S d)) link.others in
      let o = Rattle.std.proofs.Common.length-drop first all in
      omega (arith, risen.count, link.within)

  joined_run : (ds others : List Shared) (i : ℕ) → k + 1 ≤ i → drop i all ≡ ds ++ others → AreJoined S ds (drop i names)
  joined_run [] others i l e = tt
  joined_run (e ∷ ds) others i l h = by (slice_get names i) refl (λ r. joined_run ds others (suc i) (omega arith) r)
    where
      here : (slice_get all i ≡ Some e) × (drop (suc i) all ≡ ds ++ others)
      here = first_of all i e (ds ++ others) h

      by : (o : Option Name) → slice_get names i ≡ o → (drop (suc i) all ≡ ds ++ others → AreJoined S ds (drop (suc i) names)) → AreJoined S (e ∷ ds) (drop i names)
      by None g more = absurd (nothing (get_within names i (omega (arith, risen.count, slice_get_within all i e here.0))) g)
        where
          nothing : {o : Option Name} → ((x : Name) × (o ≡ Some x)) → o ≡ None → ⊥
          nothing h e = let f : Some h.0 ≡ None = sym h.1 ∙ e in cc

          get_within : (xs : List Name) (j : ℕ) → j < length xs → (x : Name) × (slice_get xs j ≡ Some x)
          get_within [] j h = absurd (omega arith)
          get_within (x ∷ xs) zero h = (x, refl)
          get_within (x ∷ xs) (suc j) h = get_within xs j (omega arith)
      by (Some n) g more =
          let m = risen.made i e n l here.0 g in
          let p = linked.placed i e here.0 in
          subst (λ (ns : List Name). AreJoined S (e ∷ ds) ns) (sym (drop_got names i n g)) (
            record {
              child = m.child;
              name = m.name;
              map = m.map ∙ (λ j. together (sym (same_flat_of e.left.0 p.left.held) j) (sym (same_flat_of e.right.0 p.right.held) j));
            },
            more here.1,
          )

  is_joined : AreJoined S (shared (listing_of S d)) (drop first names)
  is_joined = joined_run (shared (listing_of S d)) link.others first (omega (arith, link.later)) run

  no_clash : clash (flat S d.left.0) (flat S d.right.0) ≡ None
  no_clash = (λ i. clash (same_flat_of d.left.0 placed.left.held i) (same_flat_of d.right.0 placed.right.held i)) ∙ (λ i. clash (placed.left.map i) (placed.right.map i)) ∙ placed.clear

  open_listings : (es : List Entry) × (fs : List Entry) × IsOpen S d es fs
  open_listings = opened S d s left_held right_held no_clash

  abbrev new : List Entry
  new = with_names (listing_of S d) (drop first names)

  -- what the directory is to have
  abbrev pub result_of : Flat
  result_of = together (flat S0 d.left.0) (flat S0 d.right.0)

  module _ (es fs : List Entry) (o : IsOpen S d es fs) where
    made_entries : List Entry
    made_entries = with_names (merged es fs) (drop first names)

    is_new : with_names (merged es fs) (drop first names) ≡ new
    is_new = ap (λ (ps : List Side). with_names ps (drop first names)) (sym o.listing)

    joined_now : AreJoined S (shared (merged es fs)) (drop first names)
    joined_now = subst (λ (ps : List Side). AreJoined S (shared ps) (drop first names)) o.listing is_joined

    good_now : AreGood S (with_names (merged es fs) (drop first names))
    good_now = record {
      entries = merged_entries S es fs o.left_good.entries o.right_good.entries o.pairs (drop first names);
      held = merged_held S es fs o.left_good.entries o.right_good.entries o.pairs o.left_good.held o.right_good.held (drop first names) joined_now;
    }

    old_trees : (IsTree (flat S0 d.left.0)) × (IsTree (flat S0 d.right.0)) × (clash (flat S0 d.left.0) (flat S0 d.right.0) ≡ None)
    old_trees = ((flat_good S0 s0 d.left.0 placed.left.held).tree, (flat_good S0 s0 d.right.0 placed.right.held).tree, (λ i. clash (placed.left.map i) (placed.right.map i)) ∙ placed.clear)

    left_map : flat S0 d.left.0 ≡ joined_in S es
    left_map = sym (same_flat_of d.left.0 placed.left.held) ∙ o.left_map

    right_map : flat S0 d.right.0 ≡ joined_in S fs
    right_map = sym (same_flat_of d.right.0 placed.right.held) ∙ o.right_map

    map_now : joined_in S (with_names (merged es fs) (drop first names)) ≡ result_of
    map_now =
        same_flat (joined_in S (with_names (merged es fs) (drop first names))) result_of (good_flat S (with_names (merged es fs) (drop first names)) s good_now).tree.sorted (together_tree (flat S0 d.left.0) (flat S0 d.right.0) old_trees.0 old_trees.1 old_trees.2).sorted by
      where
        by : (q : Path) → at (joined_in S (with_names (merged es fs) (drop first names))) q ≡ at result_of q
        by [] = at-joined_nil S (with_names (merged es fs) (drop first names)) ∙ sym (at-together (flat S0 d.left.0) (flat S0 d.right.0) [] ∙ (λ i. first_some (at (left_map i) []) (at (right_map i) [])) ∙ (λ i. first_some (at-joined_nil S es i) (at-joined_nil S fs i)))
        by (c ∷ r) =
            merged_map S es fs o.left_good.entries o.right_good.entries o.pairs (drop first names) joined_now c r
            ∙ sym (at-together (flat S0 d.left.0) (flat S0 d.right.0) (c ∷ r) ∙ (λ i. first_some (at (left_map i) (c ∷ r)) (at (right_map i) (c ∷ r))))

  good : AreGood S new
  good = let r = open_listings in subst (AreGood S) (is_new r.0 r.1 r.2) (good_now r.0 r.1 r.2)

  map : joined_in S new ≡ result_of
  map = let r = open_listings in ap (joined_in S) (sym (is_new r.0 r.1 r.2)) ∙ map_now r.0 r.1 r.2

  whole : under (together a b) placed.path ≡ result_of
  whole = under_together a b tree_a tree_b apart placed.path ∙ (λ i. together (sym placed.left.map i) (sym placed.right.map i))

  new_flat : IsFlat (joined_in S new) (body_text new)
  new_flat = good_flat S new s good

  whole_body : body (under (together a b) placed.path) ≡ body_text new
  unfolding body
  whole_body = ap body (whole ∙ sym map) ∙ new_flat.bodied (depth (joined_in S new)) (le_refl _)

  module _ (bytes : Bytes) (text : bytes ≡ body_text new) where
    pub fits : of_body S Tree bytes None ≡ None
    fits = ap (λ t. of_body S Tree t None) text ∙ good_fits S new good

    made_body : IsShared a b bytes
    made_body = record { above = placed.path; first = placed.left_full; second = placed.right_full; body = whole_body ∙ sym text }

    not_empty : is_nil bytes ≡ false
    not_empty = by bytes refl
      where
        by : (x : Bytes) → bytes ≡ x → is_nil x ≡ false
        by [] e = absurd (together_full (flat S0 d.left.0) (flat S0 d.right.0) (ap is_nil placed.left.map ∙ placed.left_full)
            (sym map ∙ ap (joined_in S) (no_entries new (sym (good_read S new good) ∙ ap tree_entries (sym text ∙ e) ∙ empty_read))))
        by (y ∷ x) e = refl

    pub refused : (e : TreeFault) → IsRefused S bytes e → IsTreeFault (IsShared a b) S e
    refused (Collision n) h = record { body = bytes; is_made = made_body; held = h }
    refused OutOfMemory h = tt

    is_in : (S' : List Object) → IsTaken S bytes S' → IsIn (IsShared a b) S S' bytes (joined_in S new)
    is_in S' h = taken (IsShared a b) S S' bytes new s text good made_body h

    own_made : (S' : List Object) → IsStore S' → IsTaken S bytes S' → (n : Name) → n.0 ≡ name Tree bytes → IsMade S0 S' d n
    own_made S' s' h n e =
        let i = is_in S' h in
        record {
          child = ap (has_child S' Dir) e ∙ and_both i.held (ap (λ (x : Bytes). not (is_nil x)) i.body ∙ ap not not_empty);
          name = ap is_name e ∙ name-is_name Tree bytes;
          map = ap (flat S') e ∙ i.map ∙ map;
        }

    pub rises : (S' : List Object) → IsStore S' → IsTaken S bytes S' → (n : Name) → n.0 ≡ name Tree bytes → (names' : List Name) → names' ≡ Rattle.std.specs.Prelude.slice_set names k n → AreRisen S0 a b all S' names' k
    rises S' s' h n e names' f =
        let i = is_in S' h in
        subst (λ (ns : List Name). AreRisen S0 a b all S' ns k) (sym f) (record {
          grown = grown_in (IsShared a b) S0 S S' bytes (joined_in S new) risen.grown s' i;
          count = set_length names k n ∙ risen.count;
          within = omega (arith, risen.within);
          made = made;
        })
      where
        within : k < length names
        within = omega (arith, risen.count, risen.within)

        made : (j : ℕ) (e' : Shared) (m : Name) → k ≤ j → slice_get all j ≡ Some e' → slice_get (Rattle.std.specs.Prelude.slice_set names k n) j ≡ Some m → IsMade S0 S' e' m
        made j e' m l g w = elim (cases_lt k j) [
          | inl less ↦ let i = is_in S' h in made_on S0 S S' i.newer i.above s' e' m (risen.made j e' m (omega arith) g (sym (set_other names k j n less) ∙ w))
          | inr more ↦
              let same : j ≡ k = omega arith in
              let is_own : Some e' ≡ Some d = sym g ∙ ap (slice_get all) same ∙ this in
              let is_name : Some m ≡ Some n = sym w ∙ ap (slice_get (Rattle.std.specs.Prelude.slice_set names k n)) same ∙ set_same names k n within in
              let p : e' ≡ d = cc in
              let q : m ≡ n = cc in
              subst (λ (x : Shared). IsMade S0 S' x m) (sym p) (subst (λ (x : Name). IsMade S0 S' d x) (sym q) (own_made S' s' h n e))
        ]

-- ---- the roots

pub all_risen : (S0 : List Object) (a b : Flat) (root : Shared) (all : List Shared) (firsts : List ℕ) → AreLinked S0 a b root all firsts → (S : List Object) (names : List Name) → AreRisen S0 a b all S names 0 → (n : Name) → slice_get names 0 ≡ Some n →
    StandsFor S n.0 (together (flat S0 root.left.0) (flat S0 root.right.0))
all_risen S0 a b root all firsts linked S names risen n e =
    let m = risen.made 0 root n (omega arith) linked.first e in
    record { held = (held_dir S Dir n.0 refl m.child).0; map = m.map }

-- What a pushed stream stands upon, by names.
use Rattle.std.proofs.Common.{◌≡◌, Bool, true, false, cond, ◌||◌, List, [], ◌∷◌, ◌++◌, map, Option, Some, None, IfSome, refl, sym, ap, subst, ◌∙◌, true≢false}
use Rattle.std.specs.List.{cons_option, list_any}
use Rattle.std.specs.Option.{is_some, option_map, option_to_list}
use Rattle.std.proofs.lemmas.List.{map-append}
use Rattle.std.proofs.lemmas.List.Elements.{filter_map-append}
use Rattle.git_objects.specs.Entries.{is_dir}
use Rattle.git_objects.specs.Lists.{Each}
use Rattle.git_objects.specs.Parts.{name_bytes}
use Rattle.git_objects.specs.Paths.{Bytes, Path, same_bytes}
use Rattle.git_objects.specs.Trees.{Leaf, Flat}
use Rattle.git_objects.specs.declared.kind.Kind.TheVariants.{Blob, Tree}
use Rattle.git_objects.specs.declared.mode.Mode.{Mode}
use Rattle.git_objects.specs.declared.mode.Mode.TheVariants.{File, Exec, Link, Module, Dir}
use Rattle.git_objects.specs.declared.name.Name.{Name}
use Rattle.git_objects.proofs.Basics.{same_bytes-self}
use Rattle.object_store.specs.Growth.{IsGrownBy}
use Rattle.object_store.specs.Objects.{Object, IsStore, body_of, has, has_child}
use Rattle.object_store.specs.StoredSnapshots.{IsTreeOf}
use Rattle.object_store.specs.Unfolding.{flat}
use Rattle.object_store.proofs.Growth.{flat-grown, has-grown}
use Rattle.path_trees.specs.Walked.{Walked, IsStep, leaf_of}
use Rattle.path_trees.specs.declared.found.Leaf.{Leaf as FoundLeaf}
use Rattle.fast_import.specs.Bases.{IsBaseIn}
use Rattle.fast_import.specs.Replaying.{is_named}
use Rattle.fast_import.specs.Replays.{Base, Replay}
use Rattle.stream_reader.specs.declared.command.Placed.{Placed}
use Rattle.fast_import.proofs.Growing.{base-grown, is_base-grown}
use Rattle.fast_import.proofs.WalkedLeaves.{IsPassed, all_passed, leaf_here, none_passed, stepped}
use Rattle.push_back.specs.Grounds.{Ground, AreBlobsOf, IsGroundIn, blob_names, blobs_of, commits_of, from_of, ground_in, push_base_in, refs_of}
use Rattle.object_store.specs.TreeObjects.{blob_of}
use Rattle.push_laws.specs.PushReplays.{push_base, push_step}
use Rattle.push_back.specs.Replaying.{step_in}

-- ---- the blobs of a tree

abbrev leaf_blob : Path × Leaf → Option Bytes
leaf_blob e = blob_of e.1

-- some leaves are passed, and their blobs are these
pub record AreCollected (S : List Object) (t done left : Flat) (names : List Name) : Type 0 where
  pub passed : IsPassed S t done left
  pub blobs : AreBlobsOf S done names

pub none_collected : (S : List Object) (n : Bytes) (w : Walked) (names : List Name) → IsStore S → has Tree S n ≡ true → w ≡ record { current = None; left = flat S n } → names ≡ [] → AreCollected S (flat S n) [] w.left names
none_collected S n w names s h e z = record {
  passed = none_passed S n w s h e;
  blobs = subst (AreBlobsOf S []) (sym z) (record { bodies = refl; held = tt });
}

-- the blob of one leaf, or none
module _ (S : List Object) where
  abbrev bodies : List Name → List Bytes
  bodies names = map (body_of Blob S) (map name_bytes names)

  abbrev AreHeld : List Name → Type 0
  AreHeld names = Each (λ n. has Blob S n ≡ true) (map name_bytes names)

  leaf_bodies : (m : Mode) (n : Name) → is_dir m ≡ false → has_child S m n.0 ≡ true → (bodies (blob_names m n) ≡ cons_option (blob_of (leaf_of (body_of Blob S) m n.0)) []) × AreHeld (blob_names m n)
  leaf_bodies File n d h = (refl, (h, tt))
  leaf_bodies Exec n d h = (refl, (h, tt))
  leaf_bodies Link n d h = (refl, (h, tt))
  leaf_bodies Module n d h = (refl, tt)
  leaf_bodies Dir n d h = absurd (true≢false d)

  each-append : (xs ys : List Name) → AreHeld xs → AreHeld ys → AreHeld (xs ++ ys)
  each-append [] ys h g = g
  each-append (x ∷ xs) ys h g = (h.0, each-append xs ys h.1 g)

  bodies-append : (xs ys : List Name) → bodies (xs ++ ys) ≡ bodies xs ++ bodies ys
  bodies-append xs ys = ap (map (body_of Blob S)) (map-append name_bytes xs ys) ∙ map-append (body_of Blob S) (map name_bytes xs) (map name_bytes ys)

  -- one leaf more
  blobs_more : (done : Flat) (e : Path × Leaf) (names more : List Name) (m : Mode) (n : Name) → is_dir m ≡ false → has_child S m n.0 ≡ true → leaf_of (body_of Blob S) m n.0 ≡ e.1
      → AreBlobsOf S done names → more ≡ names ++ blob_names m n → AreBlobsOf S (done ++ e ∷ []) more
  blobs_more done e names more m n d h same b z =
      let one = leaf_bodies m n d h in
      subst (AreBlobsOf S (done ++ e ∷ [])) (sym z) (record {
        bodies = bodies-append names (blob_names m n)
            ∙ (λ i. b.bodies i ++ (one.0 ∙ ap (λ (x : Leaf). cons_option (blob_of x) []) same) i)
            ∙ sym (filter_map-append leaf_blob done (e ∷ []));
        held = each-append names (blob_names m n) b.held one.1;
      })

pub more_collected : (S : List Object) (t done before : Flat) (names more : List Name) (is_more : Bool) (w : Walked) (leaf : FoundLeaf) → is_dir leaf.mode ≡ false → AreCollected S t done before names → IsStep before is_more w → is_more ≡ true
    → option_map (λ (e : Path × Leaf). Rattle.git_objects.specs.Names.leaf_mode e.1) w.current ≡ Some leaf.mode → option_map (λ (e : Path × Leaf). Rattle.git_objects.specs.Names.leaf_name e.1) w.current ≡ Some leaf.name.0
    → more ≡ names ++ blob_names leaf.mode leaf.name → (gone : Flat) × AreCollected S t gone w.left more
more_collected S t done before names more is_more w leaf d c s i m n z =
    let step = stepped S t done before is_more w c.passed s i in
    let here = leaf_here S w.current step.0 leaf step.1 m n step.3 in
    (done ++ step.0 ∷ [], record { passed = step.2; blobs = blobs_more S done step.0 names more leaf.mode leaf.name d here.0 here.1 c.blobs z })

pub all_collected : (S : List Object) (t done before : Flat) (names : List Name) (is_more : Bool) (w : Walked) → AreCollected S t done before names → IsStep before is_more w → is_more ≡ false → AreBlobsOf S t names
all_collected S t done before names is_more w c s i = subst (λ (u : Flat). AreBlobsOf S u names) (all_passed S t done before is_more w c.passed s i) c.blobs

-- ---- the base

module _ (S : List Object) (g : Ground) (b : AreBlobsOf S (flat S g.shown.0) g.blobs) where
  commits-same : (from : Option Name) → map {B = Bytes × Flat} (λ e. (e.0, flat S e.1)) (map {B = Bytes × Bytes} (λ n. (n.0, g.shown.0)) (option_to_list from)) ≡ map {B = Bytes × Flat} (λ n. (n, flat S g.shown.0)) (option_to_list (option_map name_bytes from))
  commits-same None = refl
  commits-same (Some n) = refl

  refs-same : (from : Option Name) → map {B = Bytes × Bytes} (λ n. (g.refname, n.0)) (option_to_list from) ≡ map {B = Bytes × Bytes} (λ n. (g.refname, n)) (option_to_list (option_map name_bytes from))
  refs-same None = refl
  refs-same (Some n) = refl

  pub ground-same : ground_in S g ≡ push_base_in S g
  ground-same = λ i. record { commits = commits-same g.from i; refs = refs-same g.from i; blobs = b.bodies i }

  there_at : (from : Option Name) → IfSome from (λ n. IsTreeOf S n.0 g.shown.0)
      → IsBaseIn S (map (λ n. (n.0, g.shown.0)) (option_to_list from)) (map (λ n. (g.refname, n.0)) (option_to_list from)) (blobs_of g)
  there_at None h = record { trees = tt; heads = tt; contents = b.held }
  there_at (Some n) h = record {
    trees = (h, tt);
    heads = (ap (λ t. is_some (cond t (Some g.shown.0) None)) (same_bytes-self n.0), tt);
    contents = b.held;
  }

  pub ground-there : has Tree S g.shown.0 ≡ true → IfSome g.from (λ n. IsTreeOf S n.0 g.shown.0) → IsGroundIn S g
  ground-there t h = record { tree = t; same = ground-same; there = there_at g.from h }

-- over a store that has grown
module _ {made : Object → Type 0} (S T : List Object) (grown : IsGrownBy made S T) (g : Ground) (h : IsGroundIn S g) where
  pub push-base-grown : push_base_in T g ≡ push_base_in S g
  push-base-grown = ap (λ (t : Flat). push_base g.refname (from_of g) t) (flat-grown S T g.shown.0 grown h.tree)

  pub step-grown : (r : Replay) (p : Placed) → step_in T g r p ≡ step_in S g r p
  step-grown r p = ap (λ (b : Base). push_step b g.refname (from_of g) r p) push-base-grown

  pub ground-grown : IsGroundIn T g
  ground-grown = record {
    tree = has-grown S T Tree g.shown.0 grown h.tree;
    same = base-grown S T grown (commits_of g) (refs_of g) (blobs_of g) h.there ∙ h.same ∙ sym push-base-grown;
    there = is_base-grown S T grown (commits_of g) (refs_of g) (blobs_of g) h.there;
  }

-- ---- its blobs by their names

pub any-named : (n : Name) (names : List Name) → list_any (is_named n) names ≡ list_any (same_bytes n.0) (map name_bytes names)
any-named n [] = refl
any-named n (m ∷ names) = ap (λ b. same_bytes n.0 m.0 || b) (any-named n names)

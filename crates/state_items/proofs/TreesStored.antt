-- A store that has a tree has all its objects.
use Rattle.std.proofs.Common.{◌≡◌, ℕ, zero, suc, ◌≤◌, true, List, [], ◌∷◌, ◌++◌, map, Contains, Option, Some, None, refl, sym, ap, subst, ◌∙◌, true≢false, le_refl}
use Rattle.std.specs.List.{flat_map}
use Rattle.std.specs.Option.{option_and_then, option_map, option_or}
use Rattle.std.proofs.lemmas.List.Elements.{All-contains}
use Rattle.git_objects.specs.Commits.{commit_name}
use Rattle.git_objects.specs.Lists.{Each}
use Rattle.git_objects.specs.Names.{body, depth, tops, tree_name}
use Rattle.git_objects.specs.Paths.{Bytes, Path}
use Rattle.git_objects.specs.Snapshots.{Snapshot}
use Rattle.git_objects.specs.Trees.{Leaf, FileLeaf, ExecLeaf, LinkLeaf, ModuleLeaf, Flat, IsTree, Node, LeafNode, TreeNode, at, if_full, standing, under}
use Rattle.git_objects.specs.declared.kind.Kind.TheVariants.{Blob, Tree}
use Rattle.git_objects.specs.declared.mode.Mode.{Mode}
use Rattle.git_objects.specs.declared.mode.Mode.TheVariants.{File, Exec, Link, Module, Dir}
use Rattle.git_objects.specs.declared.name.Name.{Name}
use Rattle.git_objects.proofs.Bodies.{depth-under}
use Rattle.git_objects.proofs.Under.{at-under}
use Rattle.object_store.specs.Objects.{Object, IsStore, body_of, find_named, has, has_child, object_name}
use Rattle.object_store.specs.StoredSnapshots.{snapshot_object}
use Rattle.object_store.specs.TreeObjects.{leaf_objects, objects_at, objects_within, tree_objects}
use Rattle.object_store.specs.Unfolding.{StandsFor, flat}
use Rattle.object_store.proofs.Held.{body_named}
use Rattle.object_store.proofs.Parts.{find-has}
use Rattle.object_store.proofs.Unfolding.{flat_good, unfolding_law}
use Rattle.path_trees.specs.Levels.{IsDirectory}
use Rattle.path_trees.specs.Listed.{directory_of, found_at, listed}
use Rattle.path_trees.specs.Standing.{node}
use Rattle.path_trees.specs.declared.found.Found.{Found}
use Rattle.path_trees.proofs.Lookups.{step_down, step_held}
use Rattle.state_items.specs.Items.{Held}
use Rattle.state_items.specs.Changes.{blob_object, commit_objects, objects_of}
use Rattle.state_items.specs.Imported.{AreApart}
use Rattle.state_items.specs.Stored.{IsStoredIn, StoredLaw}
use Rattle.state_items.proofs.TreeParts.{all-each, each-map, each-member}
use Rattle.state_items.proofs.TreesHeld.{among, begins, each-both, each-top, no-tops}

-- found under its own name
abbrev pub IsFound : List Object → Object → Type 0
IsFound S o = find_named S (object_name o) ≡ Some o

-- what stands at a path is a leaf or not
leaf-at : (t : Flat) (p : Path) (x : Leaf) → standing t p ≡ Some (LeafNode x) → at t p ≡ Some x
leaf-at t p x e =
    elim (at t p) as (λ o. option_or (option_map LeafNode o) (if_full (under t p)) ≡ Some (LeafNode x) → o ≡ Some x) [
      | Some y ↦ λ k. same y k
      | None ↦ λ k. absurd (tree-not (under t p) k)
    ] e
  where
    leaf-of : Node → Leaf
    leaf-of (LeafNode y) = y
    leaf-of (TreeNode u) = x

    same : (y : Leaf) → Some (LeafNode y) ≡ Some (LeafNode x) → Some y ≡ Some x
    same y k = ap (option_map leaf-of) k

    tree-not : (u : Flat) → if_full u ≡ Some (LeafNode x) → ⊥
    tree-not [] k = cc
    tree-not (d ∷ u) k = cc

none-at : (t : Flat) (p : Path) (u : Flat) → standing t p ≡ Some (TreeNode u) → at t p ≡ None
none-at t p u e =
    elim (at t p) as (λ o. option_or (option_map LeafNode o) (if_full (under t p)) ≡ Some (TreeNode u) → o ≡ None) [
      | Some y ↦ λ k. absurd (leaf-not y k)
      | None ↦ λ k. refl
    ] e
  where
    leaf-not : (y : Leaf) → Some (LeafNode y) ≡ Some (TreeNode u) → ⊥
    leaf-not y k = cc

module _ (S : List Object) (s : IsStore S) where
  body-flat : (n : Bytes) → has Tree S n ≡ true → body (flat S n) ≡ body_of Tree S n
  unfolding body
  body-flat n h = (flat_good S s n h).bodied (depth (flat S n)) (le_refl _)

  root-found : (n : Bytes) (t : Flat) → StandsFor S n t → IsFound S (record { kind = Tree; body = body t })
  root-found n t d =
      let same : body_of Tree S n ≡ body t = sym (body-flat n d.held) ∙ ap body d.map in
      let named : tree_name t ≡ n = ap tree_name (sym d.map) ∙ (unfolding_law S n s d.held).named in
      ap (find_named S) named ∙ find-has S Tree n s d.held ∙ ap (λ (b : Bytes). Some (record { kind = Tree; body = b })) same

  blob-found : (n : Bytes) → has Blob S n ≡ true → IsFound S (blob_object (body_of Blob S n))
  blob-found n h = ap (find_named S) (body_named Blob S n h) ∙ find-has S Blob n s h

  leaf-found : (t : Flat) (c : Bytes) (x : Leaf) (os : List Object) → standing t (c ∷ []) ≡ Some (LeafNode x) → Each (IsFound S) (leaf_objects x) → Each (IsFound S) (objects_at (at t (c ∷ [])) os)
  leaf-found t c x os e f = subst (λ o. Each (IsFound S) (objects_at o os)) (sym (leaf-at t (c ∷ []) x e)) f

  -- nothing stands there, so it is no first component
  no-place : (t : Flat) (c : Bytes) → IsTree t → among c (tops t) ≡ true → standing t (c ∷ []) ≡ None → under t (c ∷ []) ≡ [] → ⊥
  no-place t c h e none empty = let b = begins t c h e in by b.rest b.leaf b.there
    where
      none-leaf : (o : Option Leaf) (x : Leaf) → option_or (option_map LeafNode o) (if_full (under t (c ∷ []))) ≡ None → o ≡ Some x → ⊥
      none-leaf None x g k = cc
      none-leaf (Some y) x g k = cc

      by : (q : Path) (x : Leaf) → at t (c ∷ q) ≡ Some x → ⊥
      by [] x g = none-leaf (at t (c ∷ [])) x none g
      by (d ∷ q) x g = let no : None ≡ Some x = ap (λ (u : Flat). at u (d ∷ q)) (sym empty) ∙ at-under t (c ∷ []) d q ∙ g in cc

  -- what an entry stands for is found
  place-found : (k : ℕ) (t : Flat) (c : Bytes) (m : Mode) (n : Name) → has_child S m n.0 ≡ true → standing t (c ∷ []) ≡ Some (node S (record { mode = m; name = n })) →
      IsDirectory S (under t (c ∷ [])) (directory_of (record { mode = m; name = n })) → ((j : Bytes) → StandsFor S j (under t (c ∷ [])) → Each (IsFound S) (objects_within k (under t (c ∷ [])))) →
      Each (IsFound S) (objects_at (at t (c ∷ [])) (objects_within k (under t (c ∷ []))))
  place-found k t c File n h e d f = leaf-found t c (FileLeaf (body_of Blob S n.0)) (objects_within k (under t (c ∷ []))) e (blob-found n.0 h, tt)
  place-found k t c Exec n h e d f = leaf-found t c (ExecLeaf (body_of Blob S n.0)) (objects_within k (under t (c ∷ []))) e (blob-found n.0 h, tt)
  place-found k t c Link n h e d f = leaf-found t c (LinkLeaf (body_of Blob S n.0)) (objects_within k (under t (c ∷ []))) e (blob-found n.0 h, tt)
  place-found k t c Module n h e d f = leaf-found t c (ModuleLeaf n.0) (objects_within k (under t (c ∷ []))) e tt
  place-found k t c Dir n h e d f = subst (λ o. Each (IsFound S) (objects_at o (objects_within k (under t (c ∷ []))))) (sym (none-at t (c ∷ []) (flat S n.0) e)) (f n.0 d)

  option-found : (k : ℕ) (t : Flat) (c : Bytes) (o : Option Found) → IsTree t → among c (tops t) ≡ true → ((f : Found) → o ≡ Some f → has_child S f.mode f.name.0 ≡ true) → standing t (c ∷ []) ≡ option_map (node S) o →
      IsDirectory S (under t (c ∷ [])) (option_and_then directory_of o) → ((j : Bytes) → StandsFor S j (under t (c ∷ [])) → Each (IsFound S) (objects_within k (under t (c ∷ [])))) →
      Each (IsFound S) (objects_at (at t (c ∷ [])) (objects_within k (under t (c ∷ []))))
  option-found k t c None h e g st d f = absurd (no-place t c h e st d)
  option-found k t c (Some x) h e g st d f = place-found k t c x.mode x.name (g x refl) st d f

  tops-found : (f : Bytes → List Object) (all ds : List Bytes) → ((c : Bytes) → among c all ≡ true → Each (IsFound S) (f c)) → Each (λ c. among c all ≡ true) ds → Each (IsFound S) (flat_map f ds)
  tops-found f all [] one e = tt
  tops-found f all (c ∷ ds) one e = each-both (IsFound S) (f c) (flat_map f ds) (one c e.0) (tops-found f all ds one e.1)

  from-found : (k : ℕ) (t : Flat) (n : Bytes) → StandsFor S n t → ((c : Bytes) → among c (tops t) ≡ true → Each (IsFound S) (objects_at (at t (c ∷ [])) (objects_within k (under t (c ∷ []))))) → Each (IsFound S) (objects_within (suc k) t)
  from-found k t n d one =
      each-both (IsFound S) (flat_map (λ c. objects_at (at t (c ∷ [])) (objects_within k (under t (c ∷ [])))) (tops t)) (record { kind = Tree; body = body t } ∷ [])
      (tops-found (λ c. objects_at (at t (c ∷ [])) (objects_within k (under t (c ∷ [])))) (tops t) (tops t) one (each-top (tops t))) (root-found n t d, tt)

  within-found : (k : ℕ) (t : Flat) (n : Bytes) → StandsFor S n t → depth t ≤ k → Each (IsFound S) (objects_within (suc k) t)
  within-found zero t n d l = from-found zero t n d (λ c e. absurd (true≢false (sym e ∙ ap (among c) (no-tops t l))))
  within-found (suc k) t n d l =
      from-found (suc k) t n d (λ c e.
      let w = step_down S s n t c d in
      option-found (suc k) t c (option_and_then (found_at c) (listed S n)) (subst IsTree d.map (unfolding_law S n s d.held).tree) e (λ f g. step_held S s n c f d.held (sym g)) w.0 w.1
      (λ j v. within-found k (under t (c ∷ [])) j v (depth-under k t c l)))

  pub tree-found : (t : Flat) (n : Bytes) → StandsFor S n t → Each (IsFound S) (tree_objects t)
  unfolding tree_objects
  tree-found t n d = within-found (depth t) t n d (le_refl _)

module _ (S : List Object) (h : Held) (bs : List Bytes) (cs : List Snapshot) (w : IsStoredIn S h bs cs) where
  own-found : (c : Snapshot) → Contains cs c → IsFound S (snapshot_object c)
  unfolding commit_name
  own-found c m = w.commits c m

  commits-found : (ds : List Snapshot) → Each (Contains cs) ds → Each (IsFound S) (flat_map commit_objects ds)
  commits-found [] m = tt
  commits-found (c ∷ ds) m =
      let t = w.trees c m.0 in
      each-both (IsFound S) (commit_objects c) (flat_map commit_objects ds) (each-both (IsFound S) (tree_objects c.tree) (snapshot_object c ∷ []) (tree-found S w.store c.tree t.0 t.1) (own-found c m.0, tt)) (commits-found ds m.1)

  blobs-found : (xs : List Bytes) → Each (Contains bs) xs → Each (IsFound S) (map blob_object xs)
  blobs-found [] m = tt
  blobs-found (b ∷ xs) m = (w.contents b m.0, blobs-found xs m.1)

  all-found : Each (IsFound S) (h.objects ++ objects_of bs cs)
  all-found =
      each-both (IsFound S) h.objects (objects_of bs cs) (each-map (Contains h.objects) (IsFound S) h.objects (λ o m. w.objects o m) (each-member h.objects))
      (each-both (IsFound S) (map blob_object bs) (flat_map commit_objects cs) (blobs-found bs (each-member bs)) (commits-found cs (each-member cs)))

  pub one-found : (o : Object) → Contains (h.objects ++ objects_of bs cs) o → IsFound S o
  one-found o m = All-contains (IsFound S) (h.objects ++ objects_of bs cs) o (all-each (IsFound S) (h.objects ++ objects_of bs cs) all-found) m

  pub two-apart : AreApart (h.objects ++ objects_of bs cs)
  two-apart o d p q e = some-same o d (sym (one-found o p) ∙ ap (find_named S) e ∙ one-found d q)
    where
      some-same : (x y : Object) → Some x ≡ Some y → x ≡ y
      some-same x y k = cc

pub stored-law : StoredLaw
stored-law = record { found = one-found; apart = two-apart }

-- A store has each object of its commits under its name.
use Rattle.std.proofs.Common.{◌≡◌, Bool, true, false, cond, ◌||◌, List, [], ◌∷◌, refl, sym, ap, subst, ◌∙◌, Option, Some, None, true≢false, le_refl}
use Rattle.std.proofs.lemmas.Option.{none-some, same_Some}
use Rattle.std.specs.Option.{option_or, option_map, option_and_then, option_map_or, is_none}
use Rattle.std.specs.Prelude.{Result, Ok, Err}
use Rattle.std.specs.Cmp.{second_so}
use Rattle.std.specs.Cmp.Lexicographic.{bytes_decides}
use Rattle.git_objects.specs.Paths.{Bytes, Path, same_bytes, is_bytes, is_path}
use Rattle.git_objects.specs.Trees.{Leaf, FileLeaf, ExecLeaf, LinkLeaf, ModuleLeaf, Flat, LeafNode, IsTree, at, under}
use Rattle.git_objects.specs.Names.{name, body, tree_name, depth}
use Rattle.git_objects.specs.Commits.{Commit}
use Rattle.git_objects.specs.CommitBodies.{commit_from}
use Rattle.git_objects.specs.declared.kind.Kind.{Kind}
use Rattle.git_objects.specs.declared.kind.Kind.TheVariants.{Blob, Tree, Commit as CommitKind}
use Rattle.git_objects.specs.declared.mode.Mode.{Mode}
use Rattle.git_objects.specs.declared.mode.Mode.TheVariants.{File, Exec, Link, Module, Dir}
use Rattle.git_objects.specs.declared.name.Name.{Name}
use Rattle.git_objects.proofs.Under.{at-under, under_cons}
use Rattle.git_objects.proofs.Pointwise.{all_at}
use Rattle.object_store.specs.Objects.{Object, object_name, is_named, find_named, has, has_name, has_child, body_of, is_body, missing_of_commit, missing_parent, IsStore}
use Rattle.object_store.specs.Unfolding.{flat, node_of}
use Rattle.object_store.proofs.Held.{named_kind, named_name, body_named, has_name-from, has-above}
use Rattle.object_store.proofs.Unfolding.{flat_good, unfolding_law}
use Rattle.git_objects.specs.Trees.{standing, if_full}
use Rattle.path_trees.specs.Standing.{node}
use Rattle.object_store.specs.Unfolding.{StandsFor}
use Rattle.path_trees.specs.Levels.{IsDirectory}
use Rattle.path_trees.specs.Listed.{found_at, listed, directory_of}
use Rattle.path_trees.specs.declared.found.Found.{Found}
use Rattle.path_trees.proofs.Lookups.{under_nil, step_down, step_held}
use Rattle.object_store.specs.Hands.{tree_object}
use Rattle.object_store.specs.TreeObjects.{leaf_objects}
use Rattle.proj_audit.specs.Laws.{Whole, Directory, Content, StoreLaw}
use Rattle.object_store.proofs.StoredCommits.{stored-commit}
use Rattle.filter_text.specs.Filters.{Filter}
use Rattle.proj_audit.specs.Readings.{Found as Told}
use Rattle.proj_audit.specs.Walks.{commit_leaf}
use Rattle.proj_audit.proofs.Audited.{audit-law}
use Rattle.proj_audit.proofs.Telling.{Holds, told-commit, told-some-commit}

-- ---- objects by name

-- what is held with a kind is what is found
find-held : (k : Kind) (S : List Object) (n : Bytes) → IsStore S → has k S n ≡ true →
    find_named S n ≡ Some (record { kind = k; body = body_of k S n })
unfolding find_named has body_of
find-held k [] n s h = absurd (true≢false (sym h))
find-held k (o ∷ S) n s h = by (λ g. find-held k S n s.2 g) (is_named k o n) refl h
  where
    -- where the first object has the name, it is the one
    named : is_named k o n ≡ true → cond (same_bytes (object_name o) n) (Some o) (find_named S n) ≡ Some (record { kind = k; body = o.body })
    named e =
        ap (λ b. cond b (Some o) (find_named S n)) ((bytes_decides (object_name o) n).1 (named_name k o n e))
        ∙ (λ i. Some (record { kind = named_kind k o n e i; body = o.body }))

    later : (has k S n ≡ true → find_named S n ≡ Some (record { kind = k; body = body_of k S n })) → has k S n ≡ true → (b : Bool) →
        same_bytes (object_name o) n ≡ b → cond b (Some o) (find_named S n) ≡ Some (record { kind = k; body = body_of k S n })
    later rec g true e = absurd (true≢false (sym (ap (has_name S) ((bytes_decides (object_name o) n).0 e) ∙ has_name-from k S n g) ∙ s.1))
    later rec g false e = rec g

    by : (has k S n ≡ true → find_named S n ≡ Some (record { kind = k; body = body_of k S n })) → (b : Bool) → is_named k o n ≡ b →
        (b || has k S n) ≡ true →
        cond (same_bytes (object_name o) n) (Some o) (find_named S n) ≡ Some (record { kind = k; body = cond b o.body (body_of k S n) })
    by rec true e g = named e
    by rec false e g = later rec g (same_bytes (object_name o) n) refl

-- the same for an object of the body
held-object : (k : Kind) (S : List Object) (n : Bytes) → IsStore S → has k S n ≡ true →
    find_named S (name k (body_of k S n)) ≡ Some (record { kind = k; body = body_of k S n })
held-object k S n s h = ap (find_named S) (body_named k S n h) ∙ find-held k S n s h

-- a commit's tree is held
tree-of-commit : (S : List Object) (n : Bytes) (c : Commit) → IsStore S → has CommitKind S n ≡ true → commit_from (body_of CommitKind S n) ≡ Some c →
    has Tree S c.tree ≡ true
unfolding has body_of
tree-of-commit [] n c s h e = absurd (true≢false (sym h))
tree-of-commit (o ∷ S) n c s h e = by (λ g k. tree-of-commit S n c s.2 g k) (is_named CommitKind o n) refl h e
  where
    there : (b : Bool) → has Tree S c.tree ≡ b → is_none (cond b (missing_parent S c.parents) (Some c.tree)) ≡ true → has Tree S c.tree ≡ true
    there true i g = i
    there false i g = absurd (true≢false (sym g))

    newest : is_named CommitKind o n ≡ true → commit_from o.body ≡ Some c → has Tree S c.tree ≡ true
    newest i g =
        there (has Tree S c.tree) refl
        (sym (ap (λ w. option_map_or (λ d. is_none (missing_of_commit S d)) w false) g)
        ∙ second_so (is_bytes o.body) (option_map_or (λ d. is_none (missing_of_commit S d)) (commit_from o.body) false)
        (subst (λ k. is_body S k o.body ≡ true) (named_kind CommitKind o n i) s.0))

    by : (has CommitKind S n ≡ true → commit_from (body_of CommitKind S n) ≡ Some c → has Tree S c.tree ≡ true) → (b : Bool) →
        is_named CommitKind o n ≡ b → (b || has CommitKind S n) ≡ true → commit_from (cond b o.body (body_of CommitKind S n)) ≡ Some c →
        has Tree (o ∷ S) c.tree ≡ true
    by rec true i g k = has-above (o ∷ []) S Tree c.tree (newest i k)
    by rec false i g k = has-above (o ∷ []) S Tree c.tree (rec g k)

-- ---- trees

module _ (S : List Object) (s : IsStore S) where
  whole : (n : Bytes) (t : Flat) → StandsFor S n t → find_named S (tree_name t) ≡ Some (tree_object t)
  unfolding body
  whole n t d =
      subst (λ (b : Bytes). find_named S (name Tree b) ≡ Some (record { kind = Tree; body = b })) same (held-object Tree S n s d.held)
    where
      same : body_of Tree S n ≡ body t
      same = sym ((flat_good S s n d.held).bodied (depth (flat S n)) (le_refl _)) ∙ ap body d.map

  is_tree : (n : Bytes) (t : Flat) → StandsFor S n t → IsTree t
  is_tree n t d = subst IsTree d.map (flat_good S s n d.held).tree

  -- a directory below is empty, or a tree of the store
  down : (n : Bytes) (t : Flat) (c : Bytes) → StandsFor S n t →
      IsDirectory S (under t (c ∷ [])) (option_and_then directory_of (option_and_then (found_at c) (listed S n)))
  down n t c d = (step_down S s n t c d).1

  directory : (p : Path) (n : Bytes) (t : Flat) → StandsFor S n t → (under t p ≡ [] → ⊥) →
      find_named S (tree_name (under t p)) ≡ Some (tree_object (under t p))
  directory [] n t d some = whole n (under t []) (record { held = d.held; map = d.map ∙ sym (under_nil t (is_tree n t d)) })
  directory (c ∷ p) n t d some =
      by (λ m i e. directory p m (under t (c ∷ [])) i e) (option_and_then directory_of (option_and_then (found_at c) (listed S n))) (down n t c d)
    where
      by : ((m : Bytes) → StandsFor S m (under t (c ∷ [])) → (under (under t (c ∷ [])) p ≡ [] → ⊥) →
          find_named S (tree_name (under (under t (c ∷ [])) p)) ≡ Some (tree_object (under (under t (c ∷ [])) p))) →
          (o : Option Name) → IsDirectory S (under t (c ∷ [])) o → find_named S (tree_name (under t (c ∷ p))) ≡ Some (tree_object (under t (c ∷ p)))
      by rec None e = absurd (some (under_cons t c p ∙ ap (λ u. under u p) e))
      by rec (Some m) e =
          subst (λ u. find_named S (tree_name u) ≡ Some (tree_object u)) (sym (under_cons t c p))
          (rec m.0 e (λ z. some (under_cons t c p ∙ z)))

  -- ---- blobs

  leaf_same : (x y : Leaf) → LeafNode x ≡ LeafNode y → x ≡ y
  leaf_same x y e = cc

  same_blob : (a b : Object) → a ∷ [] ≡ b ∷ [] → a ≡ b
  same_blob a b e = cc

  held-blob : (n : Bytes) (x y : Leaf) (o : Object) → has Blob S n ≡ true → x ≡ y →
      leaf_objects x ≡ record { kind = Blob; body = body_of Blob S n } ∷ [] → leaf_objects y ≡ o ∷ [] → find_named S (object_name o) ≡ Some o
  held-blob n x y o h e b g =
      let same = same_blob (record { kind = Blob; body = body_of Blob S n }) o (sym b ∙ ap leaf_objects e ∙ g) in
      subst (λ (z : Object). find_named S (object_name z) ≡ Some z) same (held-object Blob S n s h)

  no_blob : (n : Bytes) (x : Leaf) (o : Object) → ModuleLeaf n ≡ x → leaf_objects x ≡ o ∷ [] → ⊥
  no_blob n x o e g = nothing (ap leaf_objects e ∙ g)
    where
      nothing : [] ≡ o ∷ [] → ⊥
      nothing k = cc

  blob : (m : Mode) (n : Bytes) (x : Leaf) (o : Object) → has_child S m n ≡ true → node_of (body_of Blob S) (flat S) m n ≡ LeafNode x →
      leaf_objects x ≡ o ∷ [] → find_named S (object_name o) ≡ Some o
  blob File n x o h e b = held-blob n (FileLeaf (body_of Blob S n)) x o h (leaf_same (FileLeaf (body_of Blob S n)) x e) refl b
  blob Exec n x o h e b = held-blob n (ExecLeaf (body_of Blob S n)) x o h (leaf_same (ExecLeaf (body_of Blob S n)) x e) refl b
  blob Link n x o h e b = held-blob n (LinkLeaf (body_of Blob S n)) x o h (leaf_same (LinkLeaf (body_of Blob S n)) x e) refl b
  blob Module n x o h e b = absurd (no_blob n x o (leaf_same (ModuleLeaf n) x e) b)
  blob Dir n x o h e b = cc

  content : (p : Path) (n : Bytes) (t : Flat) → StandsFor S n t → (x : Leaf) (o : Object) → at t p ≡ Some x → leaf_objects x ≡ o ∷ [] →
      find_named S (object_name o) ≡ Some o
  content [] n t d x o e b = absurd (all_at is_path t [] x (is_tree n t d).paths e)
  content (c ∷ []) n t d x o e b = by (option_and_then (found_at c) (listed S n)) refl
    where
      leaf_stands : standing t (c ∷ []) ≡ Some (LeafNode x)
      leaf_stands = ap (λ w. option_or (option_map LeafNode w) (if_full (under t (c ∷ [])))) e

      by : (w : Option Found) → option_and_then (found_at c) (listed S n) ≡ w → find_named S (object_name o) ≡ Some o
      by None i = absurd (none-some (LeafNode x) (sym (ap (option_map (node S)) i) ∙ sym (step_down S s n t c d).0 ∙ leaf_stands))
      by (Some f) i =
          blob f.mode f.name.0 x o (step_held S s n c f d.held (sym i))
          (same_Some (node S f) (LeafNode x) (sym (ap (option_map (node S)) i) ∙ sym (step_down S s n t c d).0 ∙ leaf_stands)) b
  content (c ∷ r ∷ p) n t d x o e b =
      by (λ m i k. content (r ∷ p) m (under t (c ∷ [])) i x o k b) (option_and_then directory_of (option_and_then (found_at c) (listed S n)))
      (down n t c d)
    where
      by : ((m : Bytes) → StandsFor S m (under t (c ∷ [])) → at (under t (c ∷ [])) (r ∷ p) ≡ Some x → find_named S (object_name o) ≡ Some o) →
          (w : Option Name) → IsDirectory S (under t (c ∷ [])) w → find_named S (object_name o) ≡ Some o
      by rec None i = absurd (none-some x (sym (ap (λ (u : Flat). at u (r ∷ p)) i) ∙ at-under t (c ∷ []) r p ∙ e))
      by rec (Some m) i = rec m.0 i (at-under t (c ∷ []) r p ∙ e)

  holds : (n : Bytes) → has Tree S n ≡ true → Holds S (flat S n)
  holds n h o (Whole e) = subst (λ (z : Object). find_named S (object_name z) ≡ Some z) (sym e) (whole n (flat S n) (record { held = h; map = refl }))
  holds n h o (Directory p some e) =
      subst (λ (z : Object). find_named S (object_name z) ≡ Some z) (sym e) (directory p n (flat S n) (record { held = h; map = refl }) some)
  holds n h o (Content p x e b) = content p n (flat S n) (record { held = h; map = refl }) x o e b

pub store-law : StoreLaw
store-law f q S n c u v s h e l =
    let tree = tree-of-commit S n c s h e in
    let good = unfolding_law S c.tree s tree in
    let here = find-held CommitKind S n s h in
    audit-law f q S n _
    (told-commit S f (flat S c.tree) good.tree (holds S s c.tree tree) q n (body_of CommitKind S n) c u v here e (sym good.named)) l

-- of a commit of a store it is told what stands at a path
pub told-stored : (f : Filter) (q : Path) (S : List Object) (n : Bytes) → IsStore S → has CommitKind S n ≡ true →
    (x : Option Told) × ((commit_leaf S f q n).outcome ≡ Ok x)
told-stored f q S n s h =
    let held = stored-commit S n s h in
    let tree = tree-of-commit S n held.commit s h held.read in
    let good = unfolding_law S held.commit.tree s tree in
    told-some-commit S f (flat S held.commit.tree) good.tree (holds S s held.commit.tree tree) q n (body_of CommitKind S n) held.commit
    (find-held CommitKind S n s h) held.read (sym good.named)

pub not-refused : (r : Result (Option Told) Bytes) (x : Option Told) (n : Bytes) → r ≡ Ok x → r ≡ Err n → ⊥
not-refused r x n e g = by (sym e ∙ g)
  where
    by : (let a : Result (Option Told) Bytes = Ok x in a ≡ Err n) → ⊥
    by h = cc

-- What is accepted of a certificate is what the filter shows.
use Rattle.std.proofs.Common.{◌≡◌, ℕ, true, ◌⊎◌, inl, inr, List, refl, sym, ap, subst, ◌∙◌, Option, Some, None}
use Rattle.std.specs.Prelude.{Result, Ok, Err, codes}
use Rattle.std.specs.Option.{option_map, option_and_then}
use Rattle.std.proofs.lemmas.Option.{same_Some}
use Rattle.git_objects.specs.Paths.{Bytes, Path, is_path}
use Rattle.git_objects.specs.Trees.{Leaf, FileLeaf, ExecLeaf, LinkLeaf, ModuleLeaf, Flat, IsTree, at}
use Rattle.git_objects.specs.Names.{name, body, tree_name}
use Rattle.git_objects.specs.Commits.{Commit, Letter, commit_body, commit_name, parent_lines, letter_text}
use Rattle.git_objects.specs.CommitBodies.{commit_from, rest_from, name_field}
use Rattle.git_objects.specs.declared.kind.Kind.TheVariants.{Blob, Tree, Commit as CommitKind}
use Rattle.git_objects.proofs.CommitReading.{name_field-read}
use Rattle.git_objects.proofs.Digests.{name-is_name}
use Rattle.git_objects.proofs.Maps.{at_rest}
use Rattle.git_objects.proofs.TreeReading.{map_some}
use Rattle.object_store.specs.Objects.{Object, object_name, find_named}
use Rattle.filter_text.specs.Filters.{Filter}
use Rattle.filter_routes.specs.Origins.{origin}
use Rattle.git_objects.specs.Snapshots.{Snapshot, snapshot_commit, snapshot_name}
use Rattle.workspace.specs.Workspaces.{place, with_leaf, resolve}
use Rattle.workspace.specs.Workspaces.{shown}
use Rattle.workspace.specs.Laws.{IsUsable}
use Rattle.proj_audit.proofs.Resolved.{at-shown}
use Rattle.git_objects.specs.Results.{◌>>=◌, refused_by}
use Rattle.proj_audit.specs.Readings.{Found, done, commit_named, blob_named, leaf_below, text_found}
use Rattle.proj_audit.specs.Walks.{items_leaf, leaf_at, shown_leaf, commit_leaf}
use Rattle.proj_audit.specs.Texts.{objects}
use Rattle.proj_audit.specs.Certificates.{Syntax, NotProved}
use Rattle.object_store.specs.StoredSnapshots.{snapshot_object}
use Rattle.proj_audit.specs.Laws.{found_of, IsPart, Content, IsOf, Collides, ProofLaw}
use Rattle.proj_audit.proofs.Parts.{both-done, read-done, same-or, wider}
use Rattle.proj_audit.proofs.Walked.{Told, walked}

-- ---- the commit

-- the tree that a commit's body names
commit-tree : (c : Snapshot) (k : Commit) → commit_from (commit_body (snapshot_commit c)) ≡ Some k → k.tree ≡ tree_name c.tree
unfolding commit_body commit_from
commit-tree c k e =
    by (map_some make (rest_from 16 rest) k (sym (ap (option_and_then (λ t. option_map (λ (r : List Bytes × Letter).
    record { tree = t.0; parents = r.0; letter = r.1 }) (rest_from 16 t.1))) read) ∙ e))
  where
    rest : Bytes
    rest = parent_lines c.parents (letter_text c.letter)

    make : List Bytes × Letter → Commit
    make r = record { tree = tree_name c.tree; parents = r.0; letter = r.1 }

    read : name_field (codes "tree") (commit_body (snapshot_commit c)) ≡ Some (tree_name c.tree, rest)
    read = name_field-read (codes "tree") (tree_name c.tree) rest (name-is_name Tree (body c.tree))

    by : (r : List Bytes × Letter) × (rest_from 16 rest ≡ Some r) × (make r ≡ k) → k.tree ≡ tree_name c.tree
    by (r, i, j) = sym (ap (λ (m : Commit). m.tree) j)

pub own-name : (c : Snapshot) → object_name (snapshot_object c) ≡ snapshot_name c
unfolding commit_name
own-name c = refl

-- ---- the workspace's file

abbrev ok : Option Leaf → Result (Option Leaf) Bytes
ok x = Ok x

same_ok : (x y : Option Leaf) → ok x ≡ ok y → x ≡ y
same_ok x y e = cc

module _ (os : List Object) (f : Filter) (t : Flat) (h : IsTree t) where
  -- what the filter becomes for the tree, by a leaf that was read
  abbrev Resolved : Option Leaf → Option Leaf → Type 0
  Resolved y w = (with_leaf f y ≡ with_leaf f w) ⊎ Collides os (IsPart t)

  -- a leaf with a blob
  blob-leaf : (make : Bytes → Leaf) (b : Bytes) (y : Option Leaf) → IsPart t (record { kind = Blob; body = b }) → (b2 : Bytes) →
      (blob_named os (name Blob b)).outcome ≡ Ok b2 → Some (make b2) ≡ y → Resolved y (Some (make b))
  blob-leaf make b y i b2 e g =
      let r = read-done Blob (λ (z : Bytes). Some z) (name Blob b) (find_named os (name Blob b)) b2 e in
      elim (same-or os (IsPart t) (record { kind = Blob; body = b }) r.object i r.is_it r.kind) [
        | inl s ↦ inl (ap (with_leaf f) (sym g ∙ ap (λ z. Some (make z)) (sym (same_Some r.object.body b2 r.value) ∙ s)))
        | inr x ↦ inr x
      ]

  text-leaf : (p : Path) (w : Option Leaf) (y : Option Leaf) → at t p ≡ w → (text_found os (option_map found_of w)).outcome ≡ Ok y → Resolved y w
  unfolding with_leaf
  text-leaf p None y i e = let same : None ≡ y = cc in inl (ap (with_leaf f) (sym same))
  text-leaf p (Some (FileLeaf b)) y i e =
      let r = both-done (blob_named os (name Blob b)) (λ z. done (Some (FileLeaf z))) y e in
      let same : Some (FileLeaf r.0) ≡ y = same_ok (Some (FileLeaf r.0)) y r.2 in
      blob-leaf FileLeaf b y (Content p (FileLeaf b) i refl) r.0 r.1 same
  text-leaf p (Some (ExecLeaf b)) y i e =
      let r = both-done (blob_named os (name Blob b)) (λ z. done (Some (ExecLeaf z))) y e in
      let same : Some (ExecLeaf r.0) ≡ y = same_ok (Some (ExecLeaf r.0)) y r.2 in
      blob-leaf ExecLeaf b y (Content p (ExecLeaf b) i refl) r.0 r.1 same
  text-leaf p (Some (LinkLeaf b)) y i e = let same : None ≡ y = cc in inl (ap (with_leaf f) (sym same))
  text-leaf p (Some (ModuleLeaf n)) y i e = let same : None ≡ y = cc in inl (ap (with_leaf f) (sym same))

  items-leaf : (o : Option Path) (y : Option Leaf) → (items_leaf os (tree_name t) o).outcome ≡ Ok y → Resolved y (option_and_then (at t) o)
  items-leaf None y e = let same : None ≡ y = cc in inl (ap (with_leaf f) (sym same))
  items-leaf (Some p) y e =
      let r = both-done (leaf_below os (tree_name t) p) (text_found os) y e in
      elim (walked os p t r.0 h r.1) [
        | inl s ↦ text-leaf p (at t p) y refl (subst (λ z. (text_found os z).outcome ≡ Ok y) s r.2)
        | inr x ↦ inr x
      ]

  -- ---- what is shown

  shown-leaf : (q : Path) (x : Option Found) → IsUsable f → is_path q ≡ true → (shown_leaf os f q (tree_name t)).outcome ≡ Ok x →
      Told os t (at (shown f t) q) x
  unfolding resolve
  shown-leaf q x u v e =
      let r = both-done (items_leaf os (tree_name t) (place f)) (λ y. leaf_at os (tree_name t) (origin (with_leaf f y) q)) x e in
      elim (items-leaf (place f) r.0 r.1) [
        | inl s ↦ by (origin (resolve f t) q) refl (subst (λ g. (leaf_at os (tree_name t) (origin g q)).outcome ≡ Ok x) s r.2)
        | inr c ↦ inr c
      ]
    where
      seen : at (shown f t) q ≡ at_rest t (origin (resolve f t) q)
      seen = at-shown f t u h q v

      by : (o : Option Path) → origin (resolve f t) q ≡ o → (leaf_at os (tree_name t) o).outcome ≡ Ok x → Told os t (at (shown f t) q) x
      by None i g = let same : None ≡ x = cc in inl (sym same ∙ ap (option_map found_of) (sym (seen ∙ ap (at_rest t) i)))
      by (Some p) i g = subst (λ w. Told os t w x) (sym (seen ∙ ap (at_rest t) i)) (walked os p t x h g)

-- ---- certificates

accepted : (r : Result (Option Found) Bytes) (x : Option Found) → refused_by NotProved r ≡ Ok x → r ≡ Ok x
accepted (Ok y) x e = let same : y ≡ x = cc in ap Ok same
accepted (Err n) x e = cc

checked : (n : Bytes) (f : Filter) (q : Path) (r : Result (List Object) ℕ) (os : List Object) (x : Option Found) → r ≡ Ok os →
    (refused_by Syntax r >>= λ ps. refused_by NotProved (commit_leaf ps f q n).outcome) ≡ Ok x → (commit_leaf os f q n).outcome ≡ Ok x
checked n f q r os x i e = accepted _ x (sym (ap (λ z. refused_by Syntax z >>= λ ps. refused_by NotProved (commit_leaf ps f q n).outcome) i) ∙ e)

pub proof-law : ProofLaw
proof-law f q text os x c u v h i e =
    let r = both-done (commit_named os (snapshot_name c)) (λ k. shown_leaf os f q k.tree) x (checked (snapshot_name c) f q (objects text) os x i e) in
    let o = read-done CommitKind commit_from (snapshot_name c) (find_named os (snapshot_name c)) r.0 r.1 in
    elim (same-or os (IsOf c) (snapshot_object c) o.object (inl refl) (ap (find_named os) (own-name c) ∙ o.is_it) o.kind) [
      | inl s ↦
          let tree = commit-tree c r.0 (ap commit_from (sym s) ∙ o.value) in
          elim (shown-leaf os f c.tree h q x u v (subst (λ n. (shown_leaf os f q n).outcome ≡ Ok x) tree r.2)) [
            | inl told ↦ inl told
            | inr w ↦ inr (wider os (IsPart c.tree) (IsOf c) (λ own p. inr p) w)
          ]
      | inr w ↦ inr w
    ]

-- What is read of a commit is what is needed.
use Rattle.std.proofs.Common.{◌≡◌, true, false, inl, inr, List, [], ◌∷◌, ◌++◌, refl, sym, ap, ◌∙◌, Option, Some, None, arith, true≢false}
use Rattle.std.specs.Prelude.{Contains, Ok, if◌then◌else◌}
use Rattle.std.specs.Option.{option_map, option_and_then}
use Rattle.git_objects.specs.Paths.{Bytes, Path, is_nil, is_path}
use Rattle.git_objects.specs.Trees.{Leaf, FileLeaf, ExecLeaf, LinkLeaf, ModuleLeaf, Flat, IsTree, at, under}
use Rattle.git_objects.specs.Names.{name, body, body_within, tree_name, tops, depth}
use Rattle.git_objects.specs.Bodies.{tree_entries}
use Rattle.git_objects.specs.Commits.{commit_body}
use Rattle.git_objects.specs.CommitBodies.{commit_from}
use Rattle.git_objects.specs.declared.kind.Kind.{Kind}
use Rattle.git_objects.specs.declared.kind.Kind.TheVariants.{Blob, Tree, Commit as CommitKind}
use Rattle.git_objects.proofs.Bodies.{depth-under, body-within}
use Rattle.git_objects.proofs.Tops.{mode_at, name_at, entry_of, entries, listed}
use Rattle.git_objects.proofs.TreeReading.{spelled_law}
use Rattle.git_objects.proofs.Under.{under-tree}
use Rattle.object_store.specs.Objects.{Object, find_named}
use Rattle.path_trees.proofs.Lookups.{empty_map}
use Rattle.filter_text.specs.Filters.{Filter}
use Rattle.filter_routes.specs.Origins.{origin}
use Rattle.git_objects.specs.Snapshots.{snapshot_commit, snapshot_name}
use Rattle.workspace.specs.Workspaces.{place, with_leaf, resolve}
use Rattle.workspace.specs.Laws.{IsUsable}
use Rattle.filter_routes.proofs.Inverse.{origin-path}
use Rattle.workspace.proofs.Usable.{place-path}
use Rattle.proj_audit.proofs.Resolved.{resolve-usable}
use Rattle.proj_audit.specs.Readings.{Reading, done, upon, ◌>>=◌, taken, read_as, entry_at, in_directory, at_entry, commit_named, tree_named, blob_named, leaf_below, text_found, once}
use Rattle.proj_audit.specs.Walks.{items_leaf, leaf_at, shown_leaf}
use Rattle.object_store.specs.Hands.{tree_object}
use Rattle.object_store.specs.StoredSnapshots.{snapshot_object}
use Rattle.proj_audit.specs.Laws.{found_of, Whole, Content, walk, text_objects, items_objects, walk_to, NeededLaw}
use Rattle.proj_audit.proofs.Parts.{part-under}
use Rattle.proj_audit.proofs.Proving.{own-name}
use Rattle.proj_audit.proofs.Walked.{IsLooked, looked, no_leaf-below, some-under, no_path}
use Rattle.proj_audit.proofs.Telling.{kind-self, read-told, Holds, told-below, told-items}

then-used : {A B : Type 0} (r : Reading A) (next : A → Reading B) (x : A) (us vs : List Object) → r.outcome ≡ Ok x → r.used ≡ us →
    (next x).used ≡ vs → (r >>= next).used ≡ us ++ vs
then-used r next x us vs i e g = ap (λ z. (upon r.used z next).used) i ∙ (λ j. e j ++ g j)

-- below a component nothing is that no path begins with
nothing-under : (t : Flat) (c : Bytes) → IsTree t → ((d : Bytes) (p : Path) → at t (c ∷ d ∷ p) ≡ None) → is_nil (under t (c ∷ [])) ≡ true
nothing-under t c h e = ap is_nil (empty_map [] tt t c h e)

something : (t : Flat) → (t ≡ [] → ⊥) → is_nil t ≡ false
something [] h = absurd (h refl)
something (e ∷ t) h = refl

module _ (os : List Object) where
  read-used : {A : Type 0} (k : Kind) (from : Bytes → Option A) (n b : Bytes) (y : A) → find_named os n ≡ Some (record { kind = k; body = b }) →
      from b ≡ Some y → (read_as k from n (find_named os n)).used ≡ record { kind = k; body = b } ∷ []
  read-used {A} k from n b y i e =
      ap (λ w. (read_as k from n w).used) i
      ∙ ap (λ c. (taken n o (option_and_then from (if c then Some b else None))).used) (kind-self k)
      ∙ ap (λ z. (taken n o z).used) e
    where
      o : Object
      o = record { kind = k; body = b }

  -- what the walk reads behind the first tree
  abbrev further : Bytes → Path → Flat → List Object
  further c [] t = []
  further c (d ∷ p) t = if is_nil (under t (c ∷ [])) then [] else walk (d ∷ p) (under t (c ∷ []))

  walk-first : (c : Bytes) (p : Path) (t : Flat) → tree_object t ∷ further c p t ≡ walk (c ∷ p) t
  walk-first c [] t = refl
  walk-first c (d ∷ p) t = refl

  no_further : (c : Bytes) (p : Path) (t : Flat) → is_nil (under t (c ∷ [])) ≡ true → [] ≡ further c p t
  no_further c [] t e = refl
  no_further c (d ∷ p) t e = sym (ap (λ b. if b then [] else walk (d ∷ p) (under t (c ∷ []))) e)

  abbrev Uses : Path → Type 0
  Uses [] = Unit {0}
  Uses (c ∷ p) = (t : Flat) → IsTree t → Holds os t → (leaf_below os (tree_name t) (c ∷ p)).used ≡ walk (c ∷ p) t

  used-there : (c : Bytes) (p : Path) (t : Flat) → IsTree t → Holds os t → Uses p → Contains (tops t) c →
      (at_entry (Some (entry_of (depth t) t c)) p (λ m. leaf_below os m p)).used ≡ further c p t
  used-there c [] t h g rec k = refl
  used-there c (d ∷ p) t h g rec k = by (at t (c ∷ [])) refl
    where
      named : name Tree (body_within (depth t) (under t (c ∷ []))) ≡ tree_name (under t (c ∷ []))
      named = ap (name Tree) (body-within (depth t) (under t (c ∷ [])) (depth-under (depth t) t c (omega arith)))

      nothing : (x : Leaf) (n : Bytes) → (in_directory (mode_at (Some x)) n (λ m. leaf_below os m (d ∷ p))).used ≡ []
      nothing (FileLeaf b) n = refl
      nothing (ExecLeaf b) n = refl
      nothing (LinkLeaf b) n = refl
      nothing (ModuleLeaf b) n = refl

      by : (w : Option Leaf) → at t (c ∷ []) ≡ w →
          (in_directory (mode_at w) (name_at w (name Tree (body_within (depth t) (under t (c ∷ []))))) (λ m. leaf_below os m (d ∷ p))).used
          ≡ further c (d ∷ p) t
      by (Some x) i =
          nothing x (name_at (Some x) (name Tree (body_within (depth t) (under t (c ∷ [])))))
          ∙ no_further c (d ∷ p) t (nothing-under t c h (λ e r. no_leaf-below t h c e r x i))
      by None i =
          let some = some-under t h c k i in
          ap (λ m. (leaf_below os m (d ∷ p)).used) named
          ∙ rec (under t (c ∷ [])) (under-tree t (c ∷ []) h) (λ o part. g o (part-under t c o some part))
          ∙ sym (ap (λ b. if b then [] else walk (d ∷ p) (under t (c ∷ []))) (something (under t (c ∷ [])) some))

  used-entries : (c : Bytes) (p : Path) (t : Flat) → IsTree t → Holds os t → Uses p →
      (at_entry (entry_at c (entries t)) p (λ m. leaf_below os m p)).used ≡ further c p t
  used-entries c p t h g rec = by (looked (depth t) t c (tops t))
    where
      by : IsLooked (depth t) t c (tops t) → (at_entry (entry_at c (entries t)) p (λ m. leaf_below os m p)).used ≡ further c p t
      by (inl k) = ap (λ w. (at_entry w p (λ m. leaf_below os m p)).used) k.1 ∙ used-there c p t h g rec k.0
      by (inr k) =
          ap (λ w. (at_entry w p (λ m. leaf_below os m p)).used) k.1
          ∙ no_further c p t (nothing-under t c h (λ d r. no_path t h c (d ∷ r) k.0))

  used-step : (c : Bytes) (p : Path) → Uses p → (t : Flat) → IsTree t → Holds os t → (leaf_below os (tree_name t) (c ∷ p)).used ≡ walk (c ∷ p) t
  used-step c p rec t h g =
      then-used (tree_named os (tree_name t)) (λ es. at_entry (entry_at c es) p (λ m. leaf_below os m p)) (entries t) (tree_object t ∷ [])
      (further c p t)
      (read-told os Tree tree_entries (tree_name t) (body t) (entries t) found spells)
      (read-used Tree tree_entries (tree_name t) (body t) (entries t) found spells)
      (used-entries c p t h g rec)
      ∙ walk-first c p t
    where
      found : find_named os (tree_name t) ≡ Some (tree_object t)
      found = g (tree_object t) (Whole refl)

      spells : tree_entries (body t) ≡ Some (entries t)
      spells = spelled_law (body t) (entries t) (listed t h).body

  used-below : (p : Path) → Uses p
  used-below [] = tt
  used-below (c ∷ p) = used-step c p (used-below p)

  used-path : (p : Path) (t : Flat) → is_path p ≡ true → IsTree t → Holds os t → (leaf_below os (tree_name t) p).used ≡ walk p t
  used-path [] t v h g = absurd (true≢false (sym v))
  used-path (c ∷ p) t v h g = used-below (c ∷ p) t h g

  module _ (f : Filter) (t : Flat) (h : IsTree t) (g : Holds os t) where
    used-text : (p : Path) (w : Option Leaf) → at t p ≡ w → (text_found os (option_map found_of w)).used ≡ text_objects w
    used-text p None i = refl
    used-text p (Some (FileLeaf b)) i =
        let found = g (record { kind = Blob; body = b }) (Content p (FileLeaf b) i refl) in
        then-used (blob_named os (name Blob b)) (λ z. done (Some (FileLeaf z))) b (record { kind = Blob; body = b } ∷ []) []
        (read-told os Blob (λ z. Some z) (name Blob b) b b found refl) (read-used Blob (λ z. Some z) (name Blob b) b b found refl) refl
    used-text p (Some (ExecLeaf b)) i =
        let found = g (record { kind = Blob; body = b }) (Content p (ExecLeaf b) i refl) in
        then-used (blob_named os (name Blob b)) (λ z. done (Some (ExecLeaf z))) b (record { kind = Blob; body = b } ∷ []) []
        (read-told os Blob (λ z. Some z) (name Blob b) b b found refl) (read-used Blob (λ z. Some z) (name Blob b) b b found refl) refl
    used-text p (Some (LinkLeaf b)) i = refl
    used-text p (Some (ModuleLeaf n)) i = refl

    used-items : (o : Option Path) → ((p : Path) → o ≡ Some p → is_path p ≡ true) → (items_leaf os (tree_name t) o).used ≡ items_objects t o
    used-items None v = refl
    used-items (Some p) v =
        then-used (leaf_below os (tree_name t) p) (text_found os) (option_map found_of (at t p)) (walk p t) (text_objects (at t p))
        (told-below os p t h g) (used-path p t (v p refl) h g) (used-text p (at t p) refl)

    used-to : (o : Option Path) → ((p : Path) → o ≡ Some p → is_path p ≡ true) → (leaf_at os (tree_name t) o).used ≡ walk_to t o
    used-to None v = refl
    used-to (Some p) v = used-path p t (v p refl) h g

    used-shown : (q : Path) → IsUsable f → is_path q ≡ true →
        (shown_leaf os f q (tree_name t)).used ≡ items_objects t (place f) ++ walk_to t (origin (resolve f t) q)
    unfolding resolve
    used-shown q u v =
        let x = told-items os f t h g (place f) in
        then-used (items_leaf os (tree_name t) (place f)) (λ y. leaf_at os (tree_name t) (origin (with_leaf f y) q)) x.leaf
        (items_objects t (place f)) (walk_to t (origin (resolve f t) q)) x.is_it
        (used-items (place f) (λ p i. place-path f p u i))
        (ap (λ r. (leaf_at os (tree_name t) (origin r q)).used) x.resolved
        ∙ used-to (origin (resolve f t) q) (λ p i. origin-path (resolve f t) q p (resolve-usable f t u).paths v i))

pub needed-law : NeededLaw
needed-law f q os c u v h e g =
    let found : find_named os (snapshot_name c) ≡ Some (snapshot_object c) = ap (find_named os) (sym (own-name c)) ∙ g (snapshot_object c) (inl refl) in
    ap once (then-used (commit_named os (snapshot_name c)) (λ x. shown_leaf os f q x.tree) (snapshot_commit c) (snapshot_object c ∷ [])
    (items_objects c.tree (place f) ++ walk_to c.tree (origin (resolve f c.tree) q))
    (read-told os CommitKind commit_from (snapshot_name c) (commit_body (snapshot_commit c)) (snapshot_commit c) found e)
    (read-used os CommitKind commit_from (snapshot_name c) (commit_body (snapshot_commit c)) (snapshot_commit c) found e)
    (used-shown os f c.tree h (λ o p. g o (inr p)) q u v))

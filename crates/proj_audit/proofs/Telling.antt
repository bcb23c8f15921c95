-- Where each object of a commit is found under its name, what is read is what the filter shows.
use Rattle.std.proofs.Common.{◌≡◌, true, inl, inr, List, [], ◌∷◌, refl, sym, ap, ◌∙◌, Option, Some, None, arith}
use Rattle.std.specs.Prelude.{Contains, Result, Ok, if◌then◌else◌}
use Rattle.std.specs.Option.{option_map, option_and_then}
use Rattle.git_objects.specs.Paths.{Bytes, Path, is_path}
use Rattle.git_objects.specs.Trees.{Leaf, FileLeaf, ExecLeaf, LinkLeaf, ModuleLeaf, Flat, IsTree, at, under}
use Rattle.git_objects.specs.Names.{name, body, body_within, tree_name, tops, depth}
use Rattle.git_objects.specs.Bodies.{tree_entries}
use Rattle.git_objects.specs.Commits.{Commit}
use Rattle.git_objects.specs.CommitBodies.{commit_from}
use Rattle.git_objects.specs.declared.kind.Kind.{Kind}
use Rattle.git_objects.specs.declared.kind.Kind.TheVariants.{Blob, Tree, Commit as CommitKind}
use Rattle.git_objects.proofs.Bodies.{depth-under, body-within}
use Rattle.git_objects.proofs.Maps.{at_rest}
use Rattle.git_objects.proofs.Tops.{mode_at, name_at, entry_of, entries, listed}
use Rattle.git_objects.proofs.TreeReading.{spelled_law}
use Rattle.git_objects.proofs.Under.{at-under, under-tree}
use Rattle.object_store.specs.Objects.{Object, object_name, same_kind, find_named}
use Rattle.filter_text.specs.Filters.{Filter}
use Rattle.filter_routes.specs.Origins.{origin}
use Rattle.workspace.specs.Workspaces.{place, with_leaf, resolve}
use Rattle.workspace.specs.Workspaces.{shown}
use Rattle.workspace.specs.Laws.{IsUsable}
use Rattle.proj_audit.proofs.Resolved.{at-shown}
use Rattle.proj_audit.specs.Readings.{Found, Reading, done, upon, ◌>>=◌, taken, read_as, entry_at, in_directory, at_entry, commit_named, tree_named, blob_named, leaf_below, text_found}
use Rattle.proj_audit.specs.Walks.{items_leaf, leaf_at, shown_leaf, commit_leaf}
use Rattle.object_store.specs.Hands.{tree_object}
use Rattle.proj_audit.specs.Laws.{found_of, IsPart, Whole, Content}
use Rattle.proj_audit.proofs.Parts.{part-under}
use Rattle.proj_audit.proofs.Walked.{IsLooked, looked, leaf-from, no_leaf-below, some-under, no_path, no_root}

pub then-told : {A B : Type 0} (r : Reading A) (next : A → Reading B) (x : A) (y : Result B Bytes) → r.outcome ≡ Ok x → (next x).outcome ≡ y →
    (r >>= next).outcome ≡ y
then-told r next x y i e = ap (λ z. (upon r.used z next).outcome) i ∙ e

pub kind-self : (k : Kind) → same_kind k k ≡ true
kind-self Blob = refl
kind-self Tree = refl
kind-self CommitKind = refl

module _ (os : List Object) where
  pub read-told : {A : Type 0} (k : Kind) (from : Bytes → Option A) (n b : Bytes) (y : A) → find_named os n ≡ Some (record { kind = k; body = b }) →
      from b ≡ Some y → (read_as k from n (find_named os n)).outcome ≡ Ok y
  read-told {A} k from n b y i e =
      ap (λ w. (read_as k from n w).outcome) i
      ∙ ap (λ c. (taken n o (option_and_then from (if c then Some b else None))).outcome) (kind-self k)
      ∙ ap (λ z. (taken n o z).outcome) e
    where
      o : Object
      o = record { kind = k; body = b }

  -- each object of a tree is found under its name
  abbrev pub Holds : Flat → Type 0
  Holds t = (o : Object) → IsPart t o → find_named os (object_name o) ≡ Some o

  abbrev Tells : Path → Type 0
  Tells p = (t : Flat) → IsTree t → Holds t → (leaf_below os (tree_name t) p).outcome ≡ Ok (option_map found_of (at t p))

  told-there : (c : Bytes) (p : Path) (t : Flat) → IsTree t → Holds t → Tells p → Contains (tops t) c →
      (at_entry (Some (entry_of (depth t) t c)) p (λ m. leaf_below os m p)).outcome ≡ Ok (option_map found_of (at t (c ∷ p)))
  told-there c [] t h g rec k = ap (λ x. Ok x) (leaf-from (at t (c ∷ [])) (name Tree (body_within (depth t) (under t (c ∷ [])))))
  told-there c (d ∷ p) t h g rec k = by (at t (c ∷ [])) refl
    where
      named : name Tree (body_within (depth t) (under t (c ∷ []))) ≡ tree_name (under t (c ∷ []))
      named = ap (name Tree) (body-within (depth t) (under t (c ∷ [])) (depth-under (depth t) t c (omega arith)))

      nothing : (x : Leaf) (n : Bytes) → (in_directory (mode_at (Some x)) n (λ m. leaf_below os m (d ∷ p))).outcome ≡ Ok None
      nothing (FileLeaf b) n = refl
      nothing (ExecLeaf b) n = refl
      nothing (LinkLeaf b) n = refl
      nothing (ModuleLeaf b) n = refl

      by : (w : Option Leaf) → at t (c ∷ []) ≡ w →
          (in_directory (mode_at w) (name_at w (name Tree (body_within (depth t) (under t (c ∷ []))))) (λ m. leaf_below os m (d ∷ p))).outcome
          ≡ Ok (option_map found_of (at t (c ∷ d ∷ p)))
      by (Some x) i =
          nothing x (name_at (Some x) (name Tree (body_within (depth t) (under t (c ∷ [])))))
          ∙ ap (λ w. Ok (option_map found_of w)) (sym (no_leaf-below t h c d p x i))
      by None i =
          ap (λ m. (leaf_below os m (d ∷ p)).outcome) named
          ∙ rec (under t (c ∷ [])) (under-tree t (c ∷ []) h) (λ o part. g o (part-under t c o (some-under t h c k i) part))
          ∙ ap (λ w. Ok (option_map found_of w)) (at-under t (c ∷ []) d p)

  told-entries : (c : Bytes) (p : Path) (t : Flat) → IsTree t → Holds t → Tells p →
      (at_entry (entry_at c (entries t)) p (λ m. leaf_below os m p)).outcome ≡ Ok (option_map found_of (at t (c ∷ p)))
  told-entries c p t h g rec = by (looked (depth t) t c (tops t))
    where
      by : IsLooked (depth t) t c (tops t) →
          (at_entry (entry_at c (entries t)) p (λ m. leaf_below os m p)).outcome ≡ Ok (option_map found_of (at t (c ∷ p)))
      by (inl k) = ap (λ w. (at_entry w p (λ m. leaf_below os m p)).outcome) k.1 ∙ told-there c p t h g rec k.0
      by (inr k) = ap (λ w. (at_entry w p (λ m. leaf_below os m p)).outcome) k.1 ∙ ap (λ w. Ok (option_map found_of w)) (sym (no_path t h c p k.0))

  pub told-below : (p : Path) (t : Flat) → IsTree t → Holds t → (leaf_below os (tree_name t) p).outcome ≡ Ok (option_map found_of (at t p))
  told-below [] t h g = ap (λ w. Ok (option_map found_of w)) (sym (no_root t h))
  told-below (c ∷ p) t h g =
      then-told (tree_named os (tree_name t)) (λ es. at_entry (entry_at c es) p (λ m. leaf_below os m p)) (entries t)
      (Ok (option_map found_of (at t (c ∷ p))))
      (read-told Tree tree_entries (tree_name t) (body t) (entries t) (g (tree_object t) (Whole refl))
      (spelled_law (body t) (entries t) (listed t h).body))
      (told-entries c p t h g (told-below p))

  module _ (f : Filter) (t : Flat) (h : IsTree t) (g : Holds t) where
    pub record IsTold (r : Reading (Option Leaf)) (w : Option Leaf) : Type 0 where
      pub leaf : Option Leaf
      pub is_it : r.outcome ≡ Ok leaf
      pub resolved : with_leaf f leaf ≡ with_leaf f w

    pub told-text : (p : Path) (w : Option Leaf) → at t p ≡ w → IsTold (text_found os (option_map found_of w)) w
    unfolding with_leaf
    told-text p None i = record { leaf = None; is_it = refl; resolved = refl }
    told-text p (Some (FileLeaf b)) i = record {
      leaf = Some (FileLeaf b);
      is_it = then-told (blob_named os (name Blob b)) (λ z. done (Some (FileLeaf z))) b (Ok (Some (FileLeaf b)))
          (read-told Blob (λ z. Some z) (name Blob b) b b (g (record { kind = Blob; body = b }) (Content p (FileLeaf b) i refl)) refl) refl;
      resolved = refl;
    }
    told-text p (Some (ExecLeaf b)) i = record {
      leaf = Some (ExecLeaf b);
      is_it = then-told (blob_named os (name Blob b)) (λ z. done (Some (ExecLeaf z))) b (Ok (Some (ExecLeaf b)))
          (read-told Blob (λ z. Some z) (name Blob b) b b (g (record { kind = Blob; body = b }) (Content p (ExecLeaf b) i refl)) refl) refl;
      resolved = refl;
    }
    told-text p (Some (LinkLeaf b)) i = record { leaf = None; is_it = refl; resolved = refl }
    told-text p (Some (ModuleLeaf n)) i = record { leaf = None; is_it = refl; resolved = refl }

    pub told-items : (o : Option Path) → IsTold (items_leaf os (tree_name t) o) (option_and_then (at t) o)
    told-items None = record { leaf = None; is_it = refl; resolved = refl }
    told-items (Some p) =
        let x = told-text p (at t p) refl in
        record {
          leaf = x.leaf;
          is_it = then-told (leaf_below os (tree_name t) p) (text_found os) (option_map found_of (at t p)) (Ok x.leaf) (told-below p t h g) x.is_it;
          resolved = x.resolved;
        }

    told-shown : (q : Path) → IsUsable f → is_path q ≡ true → (shown_leaf os f q (tree_name t)).outcome ≡ Ok (option_map found_of (at (shown f t) q))
    unfolding resolve
    told-shown q u v =
        let x = told-items (place f) in
        then-told (items_leaf os (tree_name t) (place f)) (λ y. leaf_at os (tree_name t) (origin (with_leaf f y) q)) x.leaf
        (Ok (option_map found_of (at (shown f t) q))) x.is_it
        (ap (λ r. (leaf_at os (tree_name t) (origin r q)).outcome) x.resolved ∙ by (origin (resolve f t) q) refl)
      where
        seen : at (shown f t) q ≡ at_rest t (origin (resolve f t) q)
        seen = at-shown f t u h q v

        by : (o : Option Path) → origin (resolve f t) q ≡ o → (leaf_at os (tree_name t) o).outcome ≡ Ok (option_map found_of (at (shown f t) q))
        by None i = ap (λ w. Ok (option_map found_of w)) (sym (seen ∙ ap (at_rest t) i))
        by (Some p) i = told-below p t h g ∙ ap (λ w. Ok (option_map found_of w)) (sym (seen ∙ ap (at_rest t) i))

    pub told-commit : (q : Path) (n b : Bytes) (c : Commit) → IsUsable f → is_path q ≡ true →
        find_named os n ≡ Some (record { kind = CommitKind; body = b }) → commit_from b ≡ Some c → c.tree ≡ tree_name t →
        (commit_leaf os f q n).outcome ≡ Ok (option_map found_of (at (shown f t) q))
    told-commit q n b c u v i e k =
        then-told (commit_named os n) (λ x. shown_leaf os f q x.tree) c (Ok (option_map found_of (at (shown f t) q)))
        (read-told CommitKind commit_from n b c i e)
        (ap (λ m. (shown_leaf os f q m).outcome) k ∙ told-shown q u v)

    -- whatever the path, there is an answer
    told-some : (q : Path) → (x : Option Found) × ((shown_leaf os f q (tree_name t)).outcome ≡ Ok x)
    told-some q =
        let x = told-items (place f) in
        let r = by (origin (with_leaf f x.leaf) q) in (
          r.0,
          then-told (items_leaf os (tree_name t) (place f)) (λ y. leaf_at os (tree_name t) (origin (with_leaf f y) q)) x.leaf
              (Ok r.0) x.is_it r.1,
        )
      where
        by : (o : Option Path) → (y : Option Found) × ((leaf_at os (tree_name t) o).outcome ≡ Ok y)
        by None = (None, refl)
        by (Some p) = (option_map found_of (at t p), told-below p t h g)

    pub told-some-commit : (q : Path) (n b : Bytes) (c : Commit) → find_named os n ≡ Some (record { kind = CommitKind; body = b }) →
        commit_from b ≡ Some c → c.tree ≡ tree_name t →
        (x : Option Found) × ((commit_leaf os f q n).outcome ≡ Ok x)
    told-some-commit q n b c i e k =
        let r = told-some q in (
          r.0,
          then-told (commit_named os n) (λ x. shown_leaf os f q x.tree) c (Ok r.0) (read-told CommitKind commit_from n b c i e)
              (ap (λ m. (shown_leaf os f q m).outcome) k ∙ r.1),
        )

-- What is read where some of the objects are missing.
use Rattle.std.proofs.Common.{◌≡◌, true, false, List, [], ◌∷◌, ◌++◌, refl, sym, ap, ◌∙◌, Option, Some, None}
use Rattle.std.specs.Prelude.{Result, Ok, Err, if◌then◌else◌, is_some}
use Rattle.std.specs.Option.{option_and_then}
use Rattle.git_objects.specs.Paths.{Bytes, Path}
use Rattle.git_objects.specs.Trees.{Leaf, FileLeaf, ExecLeaf}
use Rattle.git_objects.specs.Bodies.{tree_entries}
use Rattle.git_objects.specs.CommitBodies.{commit_from}
use Rattle.git_objects.specs.declared.entry.Entry.{Entry}
use Rattle.git_objects.specs.declared.kind.Kind.{Kind}
use Rattle.git_objects.specs.declared.kind.Kind.TheVariants.{Blob, Tree, Commit as CommitKind}
use Rattle.git_objects.specs.declared.mode.Mode.{Mode}
use Rattle.git_objects.specs.declared.mode.Mode.TheVariants.{File, Exec, Link, Module, Dir}
use Rattle.git_objects.proofs.Maps.{first_some}
use Rattle.object_store.specs.Objects.{Object, object_name, find_named, has_name}
use Rattle.object_store.proofs.Finding.{found_name}
use Rattle.filter_text.specs.Filters.{Filter}
use Rattle.filter_routes.specs.Origins.{origin}
use Rattle.workspace.specs.Workspaces.{place, with_leaf}
use Rattle.git_objects.specs.Lists.{Each}
use Rattle.std.proofs.Common.{◌⊎◌, inl, inr}
use Rattle.proj_audit.specs.Readings.{Found, Reading, done, upon, ◌>>=◌, taken, body_in, read_as, entry_at, in_directory, at_entry, commit_named, tree_named, blob_named, leaf_below, text_leaf, text_found}
use Rattle.proj_audit.specs.Walks.{items_leaf, leaf_at, shown_leaf, commit_leaf}
use Rattle.proj_audit.specs.Laws.{first_missing, unless_missing, HaveNoOther, MissingLaw}
use Rattle.proj_audit.proofs.Finds.{found}

-- what is told of objects of which none has a wrong body
module _ (os ps : List Object) where
  joined : (us vs : List Object) → first_missing ps (us ++ vs) ≡ first_some (first_missing ps us) (first_missing ps vs)
  joined [] vs = refl
  joined (o ∷ us) vs =
      elim (has_name ps (object_name o)) as (λ b. (if b then first_missing ps (us ++ vs) else Some (object_name o))
      ≡ first_some (if b then first_missing ps us else Some (object_name o)) (first_missing ps vs)) [ true ↦ joined us vs | false ↦ refl ]

  each-both : {A : Type 0} (P : A → Type 0) (xs ys : List A) → Each P (xs ++ ys) → Each P xs × Each P ys
  each-both P [] ys h = (tt, h)
  each-both P (x ∷ xs) ys h = let r = each-both P xs ys h.1 in ((h.0, r.0), r.1)

  abbrev IsSo : Object → Type 0
  IsSo o = (find_named ps (object_name o) ≡ Some o) ⊎ (find_named ps (object_name o) ≡ None)

  upon-missing : {A B : Type 0} (r s : Reading A) (f g : A → Reading B) (y : B) → (r >>= f).outcome ≡ Ok y → HaveNoOther ps (r >>= f).used →
      ((x : A) → r.outcome ≡ Ok x → HaveNoOther ps r.used → s.outcome ≡ unless_missing (first_missing ps r.used) x) →
      ((x : A) → (f x).outcome ≡ Ok y → HaveNoOther ps (f x).used → (g x).outcome ≡ unless_missing (first_missing ps (f x).used) y) →
      (s >>= g).outcome ≡ unless_missing (first_missing ps (r >>= f).used) y
  upon-missing {A} {B} r s f g y e w first next = by r.outcome refl e w
    where
      both : (x : A) (m : Option Bytes) → s.outcome ≡ unless_missing m x → (g x).outcome ≡ unless_missing (first_missing ps (f x).used) y →
          (upon s.used s.outcome g).outcome ≡ unless_missing (first_some m (first_missing ps (f x).used)) y
      both x None i k = ap (λ z. (upon s.used z g).outcome) i ∙ k
      both x (Some n) i k = ap (λ z. (upon s.used z g).outcome) i

      by : (z : Result A Bytes) → r.outcome ≡ z → (upon r.used z f).outcome ≡ Ok y → HaveNoOther ps (upon r.used z f).used →
          (s >>= g).outcome ≡ unless_missing (first_missing ps (upon r.used z f).used) y
      by (Ok x) i k h =
          let b = each-both IsSo r.used (f x).used h in
          both x (first_missing ps r.used) (first x i b.0) (next x k b.1) ∙ ap (λ m. unless_missing m y) (sym (joined r.used (f x).used))
      by (Err n) i k h = cc

  read-missing : {A : Type 0} (k : Kind) (from : Bytes → Option A) (n : Bytes) (y : A) → (read_as k from n (find_named os n)).outcome ≡ Ok y →
      HaveNoOther ps (read_as k from n (find_named os n)).used →
      (read_as k from n (find_named ps n)).outcome ≡ unless_missing (first_missing ps (read_as k from n (find_named os n)).used) y
  read-missing {A} k from n y e w = by (find_named os n) refl e w
    where
      some : (o : Object) (z : Option A) → option_and_then from (body_in k o) ≡ z → find_named os n ≡ Some o → (taken n o z).outcome ≡ Ok y →
          HaveNoOther ps (taken n o z).used →
          (read_as k from n (find_named ps n)).outcome ≡ unless_missing (first_missing ps (taken n o z).used) y
      some o None j i g h = cc
      some o (Some x) j i g h = either h.0
        where
          named : object_name o ≡ n
          named = (found os n o i).1

          has_it : (w : Option Object) → find_named ps (object_name o) ≡ w → has_name ps (object_name o) ≡ is_some w
          has_it w v = found_name ps (object_name o) ∙ ap is_some v

          either : (find_named ps (object_name o) ≡ Some o) ⊎ (find_named ps (object_name o) ≡ None) →
              (read_as k from n (find_named ps n)).outcome ≡ unless_missing (if has_name ps (object_name o) then None else Some (object_name o)) y
          either (inl v) =
              ap (λ u. (read_as k from n u).outcome) (ap (find_named ps) (sym named) ∙ v)
              ∙ ap (λ u. (taken n o u).outcome) j ∙ g
              ∙ ap (λ b. unless_missing (if b then None else Some (object_name o)) y) (sym (has_it (Some o) v))
          either (inr v) =
              ap (λ u. (read_as k from n u).outcome) (ap (find_named ps) (sym named) ∙ v)
              ∙ ap (λ m. Err m) (sym named)
              ∙ ap (λ b. unless_missing (if b then None else Some (object_name o)) y) (sym (has_it None v))

      by : (v : Option Object) → find_named os n ≡ v → (read_as k from n v).outcome ≡ Ok y → HaveNoOther ps (read_as k from n v).used →
          (read_as k from n (find_named ps n)).outcome ≡ unless_missing (first_missing ps (read_as k from n v).used) y
      by None i g h = cc
      by (Some o) i g h = some o (option_and_then from (body_in k o)) refl i g h

  entry-missing : (w : Option Entry) (p : Path) (walk new : Bytes → Reading (Option Found)) (y : Option Found) → (at_entry w p walk).outcome ≡ Ok y →
      HaveNoOther ps (at_entry w p walk).used →
      ((n : Bytes) → (walk n).outcome ≡ Ok y → HaveNoOther ps (walk n).used → (new n).outcome ≡ unless_missing (first_missing ps (walk n).used) y) →
      (at_entry w p new).outcome ≡ unless_missing (first_missing ps (at_entry w p walk).used) y
  entry-missing None p walk new y e h is = e
  entry-missing (Some x) [] walk new y e h is = e
  entry-missing (Some x) (d ∷ p) walk new y e h is = by x.mode e h
    where
      by : (m : Mode) → (in_directory m x.name.0 walk).outcome ≡ Ok y → HaveNoOther ps (in_directory m x.name.0 walk).used →
          (in_directory m x.name.0 new).outcome ≡ unless_missing (first_missing ps (in_directory m x.name.0 walk).used) y
      by Dir g k = is x.name.0 g k
      by File g k = g
      by Exec g k = g
      by Link g k = g
      by Module g k = g

  below-missing : (p : Path) (n : Bytes) (y : Option Found) → (leaf_below os n p).outcome ≡ Ok y → HaveNoOther ps (leaf_below os n p).used →
      (leaf_below ps n p).outcome ≡ unless_missing (first_missing ps (leaf_below os n p).used) y
  below-missing [] n y e h = e
  below-missing (c ∷ p) n y e h =
      upon-missing (tree_named os n) (tree_named ps n) (λ es. at_entry (entry_at c es) p (λ m. leaf_below os m p))
      (λ es. at_entry (entry_at c es) p (λ m. leaf_below ps m p)) y e h
      (λ es. read-missing Tree tree_entries n es)
      (λ es g k. entry-missing (entry_at c es) p (λ m. leaf_below os m p) (λ m. leaf_below ps m p) y g k (λ m. below-missing p m y))

  text-missing : (x : Option Found) (y : Option Leaf) → (text_found os x).outcome ≡ Ok y → HaveNoOther ps (text_found os x).used →
      (text_found ps x).outcome ≡ unless_missing (first_missing ps (text_found os x).used) y
  text-missing None y e h = e
  text-missing (Some x) y e h = by x.mode e h
    where
      by : (m : Mode) → (text_leaf os m x.name).outcome ≡ Ok y → HaveNoOther ps (text_leaf os m x.name).used →
          (text_leaf ps m x.name).outcome ≡ unless_missing (first_missing ps (text_leaf os m x.name).used) y
      by File g k =
          upon-missing (blob_named os x.name) (blob_named ps x.name) (λ b. done (Some (FileLeaf b))) (λ b. done (Some (FileLeaf b))) y g k
          (λ b. read-missing Blob (λ z. Some z) x.name b) (λ b i j. i)
      by Exec g k =
          upon-missing (blob_named os x.name) (blob_named ps x.name) (λ b. done (Some (ExecLeaf b))) (λ b. done (Some (ExecLeaf b))) y g k
          (λ b. read-missing Blob (λ z. Some z) x.name b) (λ b i j. i)
      by Link g k = g
      by Module g k = g
      by Dir g k = g

  items-missing : (n : Bytes) (o : Option Path) (y : Option Leaf) → (items_leaf os n o).outcome ≡ Ok y → HaveNoOther ps (items_leaf os n o).used →
      (items_leaf ps n o).outcome ≡ unless_missing (first_missing ps (items_leaf os n o).used) y
  items-missing n None y e h = e
  items-missing n (Some p) y e h =
      upon-missing (leaf_below os n p) (leaf_below ps n p) (text_found os) (text_found ps) y e h (λ x. below-missing p n x) (λ x. text-missing x y)

  at-missing : (n : Bytes) (o : Option Path) (y : Option Found) → (leaf_at os n o).outcome ≡ Ok y → HaveNoOther ps (leaf_at os n o).used →
      (leaf_at ps n o).outcome ≡ unless_missing (first_missing ps (leaf_at os n o).used) y
  at-missing n None y e h = e
  at-missing n (Some p) y e h = below-missing p n y e h

  shown-missing : (f : Filter) (q : Path) (n : Bytes) (y : Option Found) → (shown_leaf os f q n).outcome ≡ Ok y →
      HaveNoOther ps (shown_leaf os f q n).used → (shown_leaf ps f q n).outcome ≡ unless_missing (first_missing ps (shown_leaf os f q n).used) y
  shown-missing f q n y e h =
      upon-missing (items_leaf os n (place f)) (items_leaf ps n (place f)) (λ x. leaf_at os n (origin (with_leaf f x) q))
      (λ x. leaf_at ps n (origin (with_leaf f x) q)) y e h
      (λ x. items-missing n (place f) x) (λ x. at-missing n (origin (with_leaf f x) q) y)

  pub commit-missing : (f : Filter) (q : Path) (n : Bytes) (y : Option Found) → (commit_leaf os f q n).outcome ≡ Ok y →
      HaveNoOther ps (commit_leaf os f q n).used → (commit_leaf ps f q n).outcome ≡ unless_missing (first_missing ps (commit_leaf os f q n).used) y
  commit-missing f q n y e h =
      upon-missing (commit_named os n) (commit_named ps n) (λ c. shown_leaf os f q c.tree) (λ c. shown_leaf ps f q c.tree) y e h
      (λ c. read-missing CommitKind commit_from n c) (λ c. shown-missing f q c.tree y)

pub missing-law : MissingLaw
missing-law f q os ps n x e h = commit-missing os ps f q n x e h

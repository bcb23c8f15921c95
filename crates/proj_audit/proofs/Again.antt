-- What is read of a certificate is what was read of the objects that it was written of.
use Rattle.std.proofs.Common.{◌≡◌, zero, suc, arith, Bool, true, false, cond, List, [], ◌∷◌, ◌++◌, refl, sym, ap, ◌∙◌, Option, Some, None, true≢false}
use Rattle.std.specs.Prelude.{Contains, Result, Ok, Err, if◌then◌else◌, fold, is_some}
use Rattle.std.specs.Option.{option_and_then}
use Rattle.std.specs.Cmp.Lexicographic.{bytes_decides}
use Rattle.git_objects.specs.Paths.{Bytes, Path}
use Rattle.git_objects.specs.Trees.{Leaf, FileLeaf, ExecLeaf}
use Rattle.git_objects.specs.Bodies.{tree_entries}
use Rattle.git_objects.specs.CommitBodies.{commit_from}
use Rattle.git_objects.specs.declared.entry.Entry.{Entry}
use Rattle.git_objects.specs.declared.kind.Kind.{Kind}
use Rattle.git_objects.specs.declared.kind.Kind.TheVariants.{Blob, Tree, Commit as CommitKind}
use Rattle.git_objects.specs.declared.mode.Mode.{Mode}
use Rattle.git_objects.specs.declared.mode.Mode.TheVariants.{File, Exec, Link, Module, Dir}
use Rattle.git_objects.specs.Lists.{Each}
use Rattle.git_objects.proofs.Maps.{first_some}
use Rattle.object_store.specs.Objects.{Object, object_name, find_named, has_name}
use Rattle.object_store.proofs.Finding.{found_name}
use Rattle.filter_text.specs.Filters.{Filter}
use Rattle.filter_routes.specs.Origins.{origin}
use Rattle.workspace.specs.Workspaces.{place, with_leaf}
use Rattle.proj_audit.specs.Readings.{Found, Reading, done, behind, upon, ◌>>=◌, taken, body_in, read_as, entry_at, in_directory, at_entry, commit_named, tree_named, blob_named, leaf_below, text_leaf, text_found, add_object, once}
use Rattle.proj_audit.specs.Walks.{items_leaf, leaf_at, shown_leaf, commit_leaf}
use Rattle.proj_audit.proofs.Finds.{found, find-append}

each-both : {A : Type 0} (P : A → Type 0) (xs ys : List A) → Each P (xs ++ ys) → Each P xs × Each P ys
each-both P [] ys h = (tt, h)
each-both P (x ∷ xs) ys h = let r = each-both P xs ys h.1 in ((h.0, r.0), r.1)

each-append : {A : Type 0} (P : A → Type 0) (xs ys : List A) → Each P xs → Each P ys → Each P (xs ++ ys)
each-append P [] ys h g = g
each-append P (x ∷ xs) ys h g = (h.0, each-append P xs ys h.1 g)

-- each is the one that is found under its name
abbrev pub AreFound : List Object → List Object → Type 0
AreFound os us = Each (λ o. find_named os (object_name o) ≡ Some o) us

-- ---- what is used is found

module _ (os : List Object) where
  upon-found : {A B : Type 0} (us : List Object) (z : Result A Bytes) (next : A → Reading B) → AreFound os us →
      ((x : A) → AreFound os (next x).used) → AreFound os (upon us z next).used
  upon-found us (Ok x) next h g = each-append (λ o. find_named os (object_name o) ≡ Some o) us (next x).used h (g x)
  upon-found us (Err n) next h g = h

  read-found : {A : Type 0} (k : Kind) (from : Bytes → Option A) (n : Bytes) (w : Option Object) → find_named os n ≡ w →
      AreFound os (read_as k from n w).used
  read-found k from n None e = tt
  read-found {A} k from n (Some o) e = by (option_and_then from (body_in k o))
    where
      by : (z : Option A) → AreFound os (taken n o z).used
      by None = tt
      by (Some x) = (ap (find_named os) (found os n o e).1 ∙ e, tt)

  entry-found : (w : Option Entry) (p : Path) (walk : Bytes → Reading (Option Found)) → ((n : Bytes) → AreFound os (walk n).used) →
      AreFound os (at_entry w p walk).used
  entry-found None p walk h = tt
  entry-found (Some e) [] walk h = tt
  entry-found (Some e) (d ∷ p) walk h = by e.mode
    where
      by : (m : Mode) → AreFound os (in_directory m e.name.0 walk).used
      by Dir = h e.name.0
      by File = tt
      by Exec = tt
      by Link = tt
      by Module = tt

  below-found : (p : Path) (n : Bytes) → AreFound os (leaf_below os n p).used
  below-found [] n = tt
  below-found (c ∷ p) n =
      upon-found (tree_named os n).used (tree_named os n).outcome (λ es. at_entry (entry_at c es) p (λ m. leaf_below os m p))
      (read-found Tree tree_entries n (find_named os n) refl)
      (λ es. entry-found (entry_at c es) p (λ m. leaf_below os m p) (below-found p))

  text-found : (x : Option Found) → AreFound os (text_found os x).used
  text-found None = tt
  text-found (Some x) = by x.mode
    where
      by : (m : Mode) → AreFound os (text_leaf os m x.name).used
      by File =
          upon-found (blob_named os x.name).used (blob_named os x.name).outcome (λ b. done (Some (FileLeaf b)))
          (read-found Blob (λ b. Some b) x.name (find_named os x.name) refl) (λ b. tt)
      by Exec =
          upon-found (blob_named os x.name).used (blob_named os x.name).outcome (λ b. done (Some (ExecLeaf b)))
          (read-found Blob (λ b. Some b) x.name (find_named os x.name) refl) (λ b. tt)
      by Link = tt
      by Module = tt
      by Dir = tt

  items-found : (n : Bytes) (o : Option Path) → AreFound os (items_leaf os n o).used
  items-found n None = tt
  items-found n (Some p) = upon-found (leaf_below os n p).used (leaf_below os n p).outcome (text_found os) (below-found p n) text-found

  at-found : (n : Bytes) (o : Option Path) → AreFound os (leaf_at os n o).used
  at-found n None = tt
  at-found n (Some p) = below-found p n

  shown-found : (f : Filter) (q : Path) (n : Bytes) → AreFound os (shown_leaf os f q n).used
  shown-found f q n =
      upon-found (items_leaf os n (place f)).used (items_leaf os n (place f)).outcome (λ x. leaf_at os n (origin (with_leaf f x) q))
      (items-found n (place f))
      (λ x. at-found n (origin (with_leaf f x) q))

  pub commit-found : (f : Filter) (q : Path) (n : Bytes) → AreFound os (commit_leaf os f q n).used
  commit-found f q n =
      upon-found (commit_named os n).used (commit_named os n).outcome (λ c. shown_leaf os f q c.tree)
      (read-found CommitKind commit_from n (find_named os n) refl)
      (λ c. shown-found f q c.tree)

-- ---- each once

find-self : (o : Object) → find_named (o ∷ []) (object_name o) ≡ Some o
unfolding find_named
find-self o = ap (λ b. cond b (Some o) None) ((bytes_decides (object_name o) (object_name o)).1 refl)

module _ (os : List Object) where
  -- what is found in a list is what is found in os
  abbrev Agrees : List Object → Type 0
  Agrees us = (n : Bytes) (o : Object) → find_named us n ≡ Some o → find_named os n ≡ Some o

  -- what is found in the first list is found in the second
  abbrev Grows : List Object → List Object → Type 0
  Grows us vs = (n : Bytes) (o : Object) → find_named us n ≡ Some o → find_named vs n ≡ Some o

  record IsAdded (us : List Object) (o : Object) (vs : List Object) : Type 0 where
    agrees : Agrees vs
    grows : Grows us vs
    here : find_named vs (object_name o) ≡ Some o

  appended : (us : List Object) (o : Object) → Agrees us → find_named os (object_name o) ≡ Some o → find_named us (object_name o) ≡ None →
      IsAdded us o (us ++ o ∷ [])
  appended us o h e none = record {
    agrees = agrees;
    grows = λ n x g. find-append us (o ∷ []) n ∙ ap (λ w. first_some w (find_named (o ∷ []) n)) g;
    here = find-append us (o ∷ []) (object_name o) ∙ ap (λ w. first_some w (find_named (o ∷ []) (object_name o))) none ∙ find-self o;
  }
    where
      last : (n : Bytes) (x : Object) → find_named (o ∷ []) n ≡ Some x → find_named os n ≡ Some x
      last n x g = let r = found (o ∷ []) n x g in only r.0 r.1
        where
          only : Contains (o ∷ []) x → object_name x ≡ n → find_named os n ≡ Some x
          only (zero, l, s) i = ap (find_named os) (sym i ∙ ap object_name (sym s)) ∙ e ∙ ap Some s
          only (suc k, l, s) i = absurd (omega arith)

      agrees : Agrees (us ++ o ∷ [])
      agrees n x g = by (find_named us n) refl (sym (find-append us (o ∷ []) n) ∙ g)
        where
          by : (w : Option Object) → find_named us n ≡ w → first_some w (find_named (o ∷ []) n) ≡ Some x → find_named os n ≡ Some x
          by None i k = last n x k
          by (Some y) i k = h n x (i ∙ k)

  added : (us : List Object) (o : Object) → Agrees us → find_named os (object_name o) ≡ Some o → IsAdded us o (add_object us o)
  added us o h e = by (has_name us (object_name o)) (found_name us (object_name o))
    where
      is_there : (w : Option Object) → find_named us (object_name o) ≡ w → true ≡ is_some w → IsAdded us o us
      is_there None i k = absurd (true≢false k)
      is_there (Some x) i k =
          let same : Some x ≡ Some o = sym (h (object_name o) x i) ∙ e in
          record { agrees = h; grows = λ n y g. g; here = i ∙ same }

      not_there : (w : Option Object) → find_named us (object_name o) ≡ w → false ≡ is_some w → IsAdded us o (us ++ o ∷ [])
      not_there None i k = appended us o h e i
      not_there (Some x) i k = absurd (true≢false (sym k))

      by : (b : Bool) → b ≡ is_some (find_named us (object_name o)) → IsAdded us o (if b then us else us ++ o ∷ [])
      by true k = is_there (find_named us (object_name o)) refl k
      by false k = not_there (find_named us (object_name o)) refl k

  record IsOnce (us : List Object) (new : List Object) (vs : List Object) : Type 0 where
    grows : Grows us vs
    found : AreFound vs new

  kept : (us new : List Object) → Agrees us → AreFound os new → IsOnce us new (fold add_object us new)
  kept us [] h e = record { grows = λ n o g. g; found = tt }
  kept us (o ∷ new) h e =
      let a = added us o h e.0 in
      let r = kept (add_object us o) new a.agrees e.1 in
      record { grows = λ n x g. r.grows n x (a.grows n x g); found = (r.grows (object_name o) o a.here, r.found) }

  nothing : Agrees []
  unfolding find_named
  nothing n o e = cc

  pub once-found : (us : List Object) → AreFound os us → AreFound (once us) us
  once-found us h = (kept [] us nothing h).found

-- ---- read again

module _ (os ps : List Object) where
  upon-again : {A B : Type 0} (r s : Reading A) (f g : A → Reading B) (y : B) → (r >>= f).outcome ≡ Ok y → AreFound ps (r >>= f).used →
      ((x : A) → r.outcome ≡ Ok x → AreFound ps r.used → s ≡ r) → ((x : A) → (f x).outcome ≡ Ok y → AreFound ps (f x).used → g x ≡ f x) →
      (s >>= g) ≡ (r >>= f)
  upon-again {A} {B} r s f g y e w first next = by r.outcome refl e w
    where
      by : (z : Result A Bytes) → r.outcome ≡ z → (upon r.used z f).outcome ≡ Ok y → AreFound ps (upon r.used z f).used → (s >>= g) ≡ upon r.used z f
      by (Ok x) i k h =
          let b = each-both (λ o. find_named ps (object_name o) ≡ Some o) r.used (f x).used h in
          ap (λ (t : Reading A). t >>= g) (first x i b.0) ∙ ap (λ z. upon r.used z g) i ∙ ap (behind r.used) (next x k b.1)
      by (Err n) i k h = cc

  read-again : {A : Type 0} (k : Kind) (from : Bytes → Option A) (n : Bytes) (y : A) → (read_as k from n (find_named os n)).outcome ≡ Ok y →
      AreFound ps (read_as k from n (find_named os n)).used →
      read_as k from n (find_named ps n) ≡ read_as k from n (find_named os n)
  read-again {A} k from n y e w = by (find_named os n) refl e w
    where
      some : (o : Object) (z : Option A) → find_named os n ≡ Some o → (taken n o z).outcome ≡ Ok y → AreFound ps (taken n o z).used →
          find_named ps n ≡ Some o
      some o None i k h = cc
      some o (Some x) i k h = ap (find_named ps) (sym (found os n o i).1) ∙ h.0

      by : (v : Option Object) → find_named os n ≡ v → (read_as k from n v).outcome ≡ Ok y → AreFound ps (read_as k from n v).used →
          read_as k from n (find_named ps n) ≡ read_as k from n v
      by None i g h = cc
      by (Some o) i g h = ap (read_as k from n) (some o (option_and_then from (body_in k o)) i g h)

  entry-again : (w : Option Entry) (p : Path) (walk new : Bytes → Reading (Option Found)) (y : Option Found) → (at_entry w p walk).outcome ≡ Ok y →
      AreFound ps (at_entry w p walk).used →
      ((n : Bytes) → (walk n).outcome ≡ Ok y → AreFound ps (walk n).used → new n ≡ walk n) → at_entry w p new ≡ at_entry w p walk
  entry-again None p walk new y e h is = refl
  entry-again (Some x) [] walk new y e h is = refl
  entry-again (Some x) (d ∷ p) walk new y e h is = by x.mode e h
    where
      by : (m : Mode) → (in_directory m x.name.0 walk).outcome ≡ Ok y → AreFound ps (in_directory m x.name.0 walk).used →
          in_directory m x.name.0 new ≡ in_directory m x.name.0 walk
      by Dir g k = is x.name.0 g k
      by File g k = refl
      by Exec g k = refl
      by Link g k = refl
      by Module g k = refl

  below-again : (p : Path) (n : Bytes) (y : Option Found) → (leaf_below os n p).outcome ≡ Ok y → AreFound ps (leaf_below os n p).used →
      leaf_below ps n p ≡ leaf_below os n p
  below-again [] n y e h = refl
  below-again (c ∷ p) n y e h =
      upon-again (tree_named os n) (tree_named ps n) (λ es. at_entry (entry_at c es) p (λ m. leaf_below os m p))
      (λ es. at_entry (entry_at c es) p (λ m. leaf_below ps m p)) y e h
      (λ es. read-again Tree tree_entries n es)
      (λ es g k. entry-again (entry_at c es) p (λ m. leaf_below os m p) (λ m. leaf_below ps m p) y g k (λ m. below-again p m y))

  text-again : (x : Option Found) (y : Option Leaf) → (text_found os x).outcome ≡ Ok y → AreFound ps (text_found os x).used →
      text_found ps x ≡ text_found os x
  text-again None y e h = refl
  text-again (Some x) y e h = by x.mode e h
    where
      by : (m : Mode) → (text_leaf os m x.name).outcome ≡ Ok y → AreFound ps (text_leaf os m x.name).used →
          text_leaf ps m x.name ≡ text_leaf os m x.name
      by File g k =
          upon-again (blob_named os x.name) (blob_named ps x.name) (λ b. done (Some (FileLeaf b))) (λ b. done (Some (FileLeaf b))) y g k
          (λ b. read-again Blob (λ z. Some z) x.name b) (λ b i j. refl)
      by Exec g k =
          upon-again (blob_named os x.name) (blob_named ps x.name) (λ b. done (Some (ExecLeaf b))) (λ b. done (Some (ExecLeaf b))) y g k
          (λ b. read-again Blob (λ z. Some z) x.name b) (λ b i j. refl)
      by Link g k = refl
      by Module g k = refl
      by Dir g k = refl

  items-again : (n : Bytes) (o : Option Path) (y : Option Leaf) → (items_leaf os n o).outcome ≡ Ok y → AreFound ps (items_leaf os n o).used →
      items_leaf ps n o ≡ items_leaf os n o
  items-again n None y e h = refl
  items-again n (Some p) y e h =
      upon-again (leaf_below os n p) (leaf_below ps n p) (text_found os) (text_found ps) y e h (λ x. below-again p n x) (λ x. text-again x y)

  at-again : (n : Bytes) (o : Option Path) (y : Option Found) → (leaf_at os n o).outcome ≡ Ok y → AreFound ps (leaf_at os n o).used →
      leaf_at ps n o ≡ leaf_at os n o
  at-again n None y e h = refl
  at-again n (Some p) y e h = below-again p n y e h

  shown-again : (f : Filter) (q : Path) (n : Bytes) (y : Option Found) → (shown_leaf os f q n).outcome ≡ Ok y →
      AreFound ps (shown_leaf os f q n).used → shown_leaf ps f q n ≡ shown_leaf os f q n
  shown-again f q n y e h =
      upon-again (items_leaf os n (place f)) (items_leaf ps n (place f)) (λ x. leaf_at os n (origin (with_leaf f x) q))
      (λ x. leaf_at ps n (origin (with_leaf f x) q)) y e h
      (λ x. items-again n (place f) x) (λ x. at-again n (origin (with_leaf f x) q) y)

  -- where the other objects have what was used, they tell the same
  pub commit-again : (f : Filter) (q : Path) (n : Bytes) (y : Option Found) → (commit_leaf os f q n).outcome ≡ Ok y →
      AreFound ps (commit_leaf os f q n).used → commit_leaf ps f q n ≡ commit_leaf os f q n
  commit-again f q n y e h =
      upon-again (commit_named os n) (commit_named ps n) (λ c. shown_leaf os f q c.tree) (λ c. shown_leaf ps f q c.tree) y e h
      (λ c. read-again CommitKind commit_from n c) (λ c. shown-again f q c.tree y)

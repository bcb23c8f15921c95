-- The new blobs of a tree, leaf by leaf.
use Rattle.std.proofs.Common.{◌≡◌, ℕ, suc, ◌+◌, Bool, true, false, ◌||◌, List, [], ◌∷◌, ◌++◌, length, map, Some, refl, sym, ap, ◌∙◌, subst, append_assoc, append-nil, length-append, true≢false, arith}
use Rattle.std.specs.Prelude.{if◌then◌else◌, filter_map, flat_map}
use Rattle.std.specs.List.{enumerate_from, cons_option}
use Rattle.std.specs.Option.{is_some}
use Rattle.std.specs.Map.{lookup}
use Rattle.std.proofs.lemmas.List.{map-append}
use Rattle.std.proofs.lemmas.List.Elements.{filter_map-append}
use Rattle.std.proofs.lemmas.List.FromFn.{length-enumerate_from}
use Rattle.std.proofs.lemmas.List.Folds.{list_any-append}
use Rattle.std.proofs.lemmas.Grind.{flat_map-append}
use Rattle.git_objects.specs.Lists.{Each}
use Rattle.git_objects.specs.Paths.{Bytes, Path, same_bytes}
use Rattle.git_objects.specs.Trees.{Leaf, Flat}
use Rattle.git_objects.specs.Entries.{is_dir}
use Rattle.git_objects.specs.declared.kind.Kind.TheVariants.{Blob}
use Rattle.git_objects.specs.declared.mode.Mode.{Mode}
use Rattle.git_objects.specs.declared.mode.Mode.TheVariants.{File, Exec, Link, Module, Dir}
use Rattle.git_objects.specs.declared.name.Name.{Name}
use Rattle.object_store.specs.Objects.{Object, body_of, has, has_child}
use Rattle.path_trees.specs.Walked.{leaf_of}
use Rattle.object_store.specs.TreeObjects.{blob_of}
use Rattle.fast_export.specs.ExportTexts.{Marks, is_among, further, new_blobs, blob_text}
use Rattle.stream_reader.specs.Changes.{is_module}
use Rattle.fast_export.specs.Given.{Given, is_named, next_of, blob_mark, marks_in, AreHeldBlobs, with_blobs}
use Rattle.fast_export.proofs.Lookups.{second_of, blob_among}

-- ---- blobs that aren't among others

-- the same bytes are among both
abbrev Same : List Bytes → List Bytes → Type 0
Same a b = (x : Bytes) → is_among x a ≡ is_among x b

among_append : (x : Bytes) (a b : List Bytes) → is_among x (a ++ b) ≡ (is_among x a || is_among x b)
among_append x a b = list_any-append (same_bytes x) a b

further_same : (a b xs : List Bytes) → Same a b → further a xs ≡ further b xs
further_same a b [] h = refl
further_same a b (x ∷ xs) h =
    (λ i. if h x i then further_same a b xs h i else x ∷ further_same (x ∷ a) (x ∷ b) xs (λ y j. same_bytes y x || h y j) i)

moved : (p q r : Bool) → ((p || q) || r) ≡ (q || (p || r))
moved true true r = refl
moved true false r = refl
moved false q r = refl

same_moved : (x : Bytes) (a f : List Bytes) → Same ((x ∷ a) ++ f) (a ++ x ∷ f)
same_moved x a f y = among_append y (x ∷ a) f ∙ moved (same_bytes y x) (is_among y a) (is_among y f) ∙ sym (among_append y a (x ∷ f))

further_append : (a xs ys : List Bytes) → further a (xs ++ ys) ≡ further a xs ++ further (a ++ further a xs) ys
further_append a [] ys = ap (λ b. further b ys) (sym (append-nil a))
further_append a (x ∷ xs) ys =
    elim (is_among x a) as (λ t. (if t then further a (xs ++ ys) else x ∷ further (x ∷ a) (xs ++ ys)) ≡ (if t then further a xs else x ∷ further (x ∷ a) xs) ++ further (a ++ (if t then further a xs else x ∷ further (x ∷ a) xs)) ys) [
      | true ↦ further_append a xs ys
      | false ↦
          ap (λ (l : List Bytes). x ∷ l) (further_append (x ∷ a) xs ys)
          ∙ ap (λ (l : List Bytes). x ∷ (further (x ∷ a) xs ++ l)) (further_same _ _ ys (same_moved x a (further (x ∷ a) xs)))
    ]

-- ---- with their numbers

numbered_append : (n : ℕ) (xs ys : List Bytes) → enumerate_from n (xs ++ ys) ≡ enumerate_from n xs ++ enumerate_from (n + length xs) ys
numbered_append n [] ys = let e : n ≡ n + 0 = omega arith in ap (λ k. enumerate_from k ys) e
numbered_append n (x ∷ xs) ys =
    let e : n + 1 + length xs ≡ n + suc (length xs) = omega arith in
    ap (λ (l : List (ℕ × Bytes)). (n, x) ∷ l) (numbered_append (n + 1) xs ys ∙ ap (λ k. enumerate_from (n + 1) xs ++ enumerate_from k ys) e)

numbers_off : (n : ℕ) (xs : List Bytes) → map second_of (enumerate_from n xs) ≡ xs
numbers_off n [] = refl
numbers_off n (x ∷ xs) = ap (λ (l : List Bytes). x ∷ l) (numbers_off (n + 1) xs)

abbrev tree_blobs : Flat → List Bytes
tree_blobs t = filter_map (λ e. blob_of e.1) t

module _ (m : Marks) (t u : Flat) where
  abbrev before : List Bytes
  before = map second_of m.blobs

  after_is : map second_of (m.blobs ++ new_blobs m t) ≡ before ++ further before (tree_blobs t)
  after_is = map-append second_of m.blobs (new_blobs m t) ∙ ap (λ (l : List Bytes). before ++ l) (numbers_off m.next (further before (tree_blobs t)))

  -- the blobs of a tree, and then those that another has besides
  pub new_append : new_blobs m (t ++ u) ≡ new_blobs m t ++ new_blobs (with_blobs m t) u
  new_append =
      ap (λ l. enumerate_from m.next (further before l)) (filter_map-append (λ (e : Path × Leaf). blob_of e.1) t u)
      ∙ ap (enumerate_from m.next) (further_append before (tree_blobs t) (tree_blobs u))
      ∙ numbered_append m.next (further before (tree_blobs t)) _
      ∙ (λ i. new_blobs m t ++ enumerate_from (m.next + sym (length-enumerate_from m.next (further before (tree_blobs t))) i) (further (sym after_is i) (tree_blobs u)))

  pub with_append : with_blobs m (t ++ u) ≡ with_blobs (with_blobs m t) u
  with_append =
      let k = new_blobs m t in
      let l = new_blobs (with_blobs m t) u in
      let long : m.next + length (k ++ l) ≡ m.next + length k + length l = omega (arith, length-append k l) in
      (λ i. record { next = m.next + length (new_append i); blobs = m.blobs ++ new_append i; commits = m.commits })
      ∙ (λ i. record { next = long i; blobs = sym (append_assoc m.blobs k l) i; commits = m.commits })

  pub texts_append : flat_map blob_text (new_blobs m (t ++ u)) ≡ flat_map blob_text (new_blobs m t) ++ flat_map blob_text (new_blobs (with_blobs m t) u)
  texts_append = ap (flat_map blob_text) new_append ∙ flat_map-append blob_text (new_blobs m t) (new_blobs (with_blobs m t) u)

pub with_nothing : (m : Marks) (t : Flat) → new_blobs m t ≡ [] → with_blobs m t ≡ m
with_nothing m t e =
    let none : m.next + length (new_blobs m t) ≡ m.next = ap (λ (l : List (ℕ × Bytes)). m.next + length l) e ∙ (omega arith) in
    λ i. record { next = none i; blobs = (ap (λ (l : List (ℕ × Bytes)). m.blobs ++ l) e ∙ append-nil m.blobs) i; commits = m.commits }

-- ---- one leaf

-- a leaf that isn't a module is a blob's
pub leaf_blob : (S : List Object) (m : Mode) (n : Bytes) → is_dir m ≡ false → is_module m ≡ false → has_child S m n ≡ true → (has Blob S n ≡ true) × (blob_of (leaf_of (body_of Blob S) m n) ≡ Some (body_of Blob S n))
leaf_blob S File n d h g = (g, refl)
leaf_blob S Exec n d h g = (g, refl)
leaf_blob S Link n d h g = (g, refl)
leaf_blob S Module n d h g = absurd (true≢false h)
leaf_blob S Dir n d h g = absurd (true≢false d)

module _ (S : List Object) (g : Given) (p : Path) (m : Mode) (n : Name) (held : AreHeldBlobs S g) (dir : is_dir m ≡ false) (blob : is_module m ≡ false) (child : has_child S m n.0 ≡ true) where
  abbrev one : Flat
  one = (p, leaf_of (body_of Blob S) m n.0) ∷ []

  abbrev others : List Bytes
  others = map second_of (map (blob_mark S) g.blobs)

  new_is : new_blobs (marks_in S g) one ≡ enumerate_from (next_of g) (if is_some (lookup (is_named n) g.blobs) then [] else body_of Blob S n.0 ∷ [])
  new_is =
      let b = leaf_blob S m n.0 dir blob child in
      ap (λ o. enumerate_from (next_of g) (further others (cons_option o []))) b.1
      ∙ ap (λ t. enumerate_from (next_of g) (if t then [] else body_of Blob S n.0 ∷ [])) (blob_among S n b.0 g.blobs held)

  pub known_blob : is_some (lookup (is_named n) g.blobs) ≡ true → new_blobs (marks_in S g) one ≡ []
  known_blob e = new_is ∙ ap (λ t. enumerate_from (next_of g) (if t then [] else body_of Blob S n.0 ∷ [])) e

  pub new_blob : is_some (lookup (is_named n) g.blobs) ≡ false → new_blobs (marks_in S g) one ≡ (next_of g, body_of Blob S n.0) ∷ []
  new_blob e = new_is ∙ ap (λ t. enumerate_from (next_of g) (if t then [] else body_of Blob S n.0 ∷ [])) e

  -- with a mark, where it has none
  pub blob_given : (h : Given) → is_some (lookup (is_named n) g.blobs) ≡ false → h ≡ record g { blobs = g.blobs ++ (n, next_of g) ∷ [] } → marks_in S h ≡ with_blobs (marks_in S g) one
  blob_given h e same =
      let new = new_blob e in
      let long : length (g.blobs ++ (n, next_of g) ∷ []) + length g.commits + 1 ≡ next_of g + 1 = omega (arith, length-append g.blobs ((n, next_of g) ∷ [])) in
      ap (marks_in S) same
      ∙ (λ i. record { next = long i; blobs = map-append (blob_mark S) g.blobs ((n, next_of g) ∷ []) i; commits = (marks_in S g).commits })
      ∙ (λ i. record { next = next_of g + length (sym new i); blobs = (marks_in S g).blobs ++ sym new i; commits = (marks_in S g).commits })

  pub blob_held : (h : Given) → h ≡ record g { blobs = g.blobs ++ (n, next_of g) ∷ [] } → AreHeldBlobs S h
  blob_held h same = subst (AreHeldBlobs S) (sym same) (pushed g.blobs held)
    where
      has_it : has Blob S n.0 ≡ true
      has_it = (leaf_blob S m n.0 dir blob child).0

      pushed : (es : List (Name × ℕ)) → Each (λ e. has Blob S e.0.0 ≡ true) es → Each (λ e. has Blob S e.0.0 ≡ true) (es ++ (n, next_of g) ∷ [])
      pushed [] k = (has_it, tt)
      pushed (e ∷ es) k = (k.0, pushed es k.1)

-- a module has no blob
pub module_blob : (S : List Object) (g : Given) (p : Path) (m : Mode) (n : Bytes) → is_module m ≡ true → new_blobs (marks_in S g) ((p, leaf_of (body_of Blob S) m n) ∷ []) ≡ []
module_blob S g p File n e = absurd (true≢false (sym e))
module_blob S g p Exec n e = absurd (true≢false (sym e))
module_blob S g p Link n e = absurd (true≢false (sym e))
module_blob S g p Module n e = refl
module_blob S g p Dir n e = absurd (true≢false (sym e))

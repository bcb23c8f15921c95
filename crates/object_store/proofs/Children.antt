-- The children of stored trees are held.
use Rattle.std.proofs.Common.{◌≡◌, true, false, not, cond, ◌&&◌, ◌||◌, List, [], ◌∷◌, drop, slice_get, None, Some, refl, sym, ap, subst, ◌∙◌, true≢false}
use Rattle.std.specs.Cmp.{first_so, second_so}
use Rattle.std.specs.Option.{is_none, unwrap_or}
use Rattle.std.proofs.lemmas.Bool.{or_right, not-false}
use Rattle.git_objects.specs.Paths.{Bytes, is_nil}
use Rattle.git_objects.specs.Bodies.{tree_entries}
use Rattle.git_objects.specs.declared.entry.Entry.{Entry}
use Rattle.git_objects.specs.declared.kind.Kind.{Kind}
use Rattle.git_objects.specs.declared.kind.Kind.TheVariants.{Blob, Tree}
use Rattle.git_objects.specs.declared.mode.Mode.{Mode}
use Rattle.git_objects.specs.declared.mode.Mode.TheVariants.{File, Exec, Link, Module, Dir}
use Rattle.git_objects.proofs.SharedFronts.{listed}
use Rattle.object_store.specs.Objects.{Object, same_kind, is_named, find_named, has, has_child, body_of, missing_entry, is_body, IsStore, HasChildren}
use Rattle.object_store.proofs.Held.{named_kind, tree_held, not_named}
use denote.Enum.Bare.{sameb}
use Rattle.git_objects.specs.contracts.kind.Kind.{the_type}
use Rattle.object_store.proofs.Finding.{kind_test}
use Rattle.object_store.proofs.Parts.{found-has}

pub children-held : (S : List Object) (es : List Entry) → is_none (missing_entry S es) ≡ true → HasChildren S es
children-held S [] h = tt
children-held S (e ∷ es) h =
    elim (has_child S e.mode e.name.0) as (λ b. has_child S e.mode e.name.0 ≡ b → is_none (cond b (missing_entry S es) (Some e.name.0)) ≡ true → HasChildren S (e ∷ es)) [
      | true ↦ λ k l. (k, children-held S es l)
      | false ↦ λ k l. absurd (true≢false (sym l))
    ] refl h

body-children : (S : List Object) (b : Bytes) → is_body S Tree b ≡ true → HasChildren S (listed b)
body-children S b h =
    let t = tree_held S b h in
    subst (λ o. HasChildren S (unwrap_or o [])) (sym t.read) (children-held S t.entries t.held)

-- of an object that is a tree
pub object-children : (S : List Object) (o : Object) (n : Bytes) → is_body S o.kind o.body ≡ true → is_named Tree o n ≡ true → HasChildren S (listed o.body)
object-children S o n h e = body-children S o.body (ap (λ k. is_body S k o.body) (sym (named_kind Tree o n e)) ∙ h)

-- older objects stay as they were
module _ (o : Object) (S : List Object) (s : IsStore (o ∷ S)) where
  pub older-has : (k : Kind) (n : Bytes) → has k S n ≡ true → (has k (o ∷ S) n ≡ true) × (body_of k (o ∷ S) n ≡ body_of k S n)
  unfolding has body_of
  older-has k n h = (or_right (is_named k o n) (has k S n) h, ap (λ b. cond b o.body (body_of k S n)) (not_named k o S n s.1 h))

  older-child : (m : Mode) (n : Bytes) → has_child S m n ≡ true → has_child (o ∷ S) m n ≡ true
  older-child File n h = (older-has Blob n h).0
  older-child Exec n h = (older-has Blob n h).0
  older-child Link n h = (older-has Blob n h).0
  older-child Module n h = h
  older-child Dir n h =
      let tree = older-has Tree n (first_so _ _ h) in
      (λ i. tree.0 i && not (is_nil (tree.1 i))) ∙ second_so (has Tree S n) _ h

  older-children : (es : List Entry) → HasChildren S es → HasChildren (o ∷ S) es
  older-children [] h = tt
  older-children (e ∷ es) h = (older-child e.mode e.name.0 h.0, older-children es h.1)

pub tree-children : (S : List Object) (n : Bytes) → IsStore S → has Tree S n ≡ true → HasChildren S (listed (body_of Tree S n))
unfolding has body_of
tree-children [] n s h = absurd (true≢false (sym h))
tree-children (o ∷ S) n s h =
    elim (is_named Tree o n) as (λ t. is_named Tree o n ≡ t → (t || has Tree S n) ≡ true → HasChildren (o ∷ S) (listed (cond t o.body (body_of Tree S n)))) [
      | true ↦ λ e g. older-children o S s (listed o.body) (object-children S o n s.0 e)
      | false ↦ λ e g. older-children o S s (listed (body_of Tree S n)) (tree-children S n s.2 g)
    ] refl h

-- a stored tree's body is read
pub tree-read : (S : List Object) (n : Bytes) → IsStore S → has Tree S n ≡ true → tree_entries (body_of Tree S n) ≡ None → ⊥
unfolding has body_of
tree-read [] n s h e = absurd (true≢false (sym h))
tree-read (o ∷ S) n s h e =
    elim (is_named Tree o n) as (λ t. is_named Tree o n ≡ t → (t || has Tree S n) ≡ true → tree_entries (cond t o.body (body_of Tree S n)) ≡ None → ⊥) [
      | true ↦ λ k g l.
          let t = tree_held S o.body (ap (λ k. is_body S k o.body) (sym (named_kind Tree o n k)) ∙ s.0) in
          let no : Some t.entries ≡ None = sym t.read ∙ l in cc
      | false ↦ λ k g l. tree-read S n s.2 g l
    ] refl h e

-- the code's test of the kind
pub tree-found : (S : List Object) (n : Bytes) (o : Object) → IsStore S → Some o ≡ find_named S n → not (sameb the_type o.kind Tree) ≡ false → (has Tree S n ≡ true) × (body_of Tree S n ≡ o.body)
tree-found S n o s e t =
    let kind : same_kind Tree o.kind ≡ true = sym (kind_test o.kind Tree) ∙ not-false _ t in
    found-has S Tree n o (sym e) kind

pub first-child : (S : List Object) (es : List Entry) (e : Entry) → Some e ≡ slice_get es 0 → HasChildren S es → (has_child S e.mode e.name.0 ≡ true) × HasChildren S (drop 1 es)
first-child S [] e h g = cc
first-child S (d ∷ es) e h g = let same : d ≡ e = cc in (ap (λ (x : Entry). has_child S x.mode x.name.0) (sym same) ∙ g.0, g.1)

pub dir-child : (S : List Object) (m : Mode) (n : Bytes) → m ≡ Dir → has_child S m n ≡ true → has Tree S n ≡ true
dir-child S m n e h = first_so _ _ (ap (λ (k : Mode). has_child S k n) (sym e) ∙ h)

-- The flat map of a stored tree by its entries, and in a part of the store.
use Rattle.std.proofs.Common.{◌≡◌, true, false, cond, ◌||◌, List, [], ◌∷◌, ◌++◌, refl, sym, ap, ◌∙◌, true≢false}
use Rattle.std.specs.Cmp.{first_so}
use Rattle.git_objects.specs.Paths.{Bytes}
use Rattle.git_objects.specs.Trees.{Flat, rests}
use Rattle.git_objects.specs.declared.entry.Entry.{Entry}
use Rattle.git_objects.specs.declared.kind.Kind.TheVariants.{Blob, Tree}
use Rattle.git_objects.specs.declared.mode.Mode.{Mode}
use Rattle.git_objects.specs.declared.mode.Mode.TheVariants.{File, Exec, Link, Module, Dir}
use Rattle.git_objects.proofs.SharedFronts.{listed}
use Rattle.object_store.specs.Objects.{Object, is_named, has, has_child, body_of, IsStore, HasChildren}
use Rattle.object_store.specs.Unfolding.{below, joined, flat, node_of}
use Rattle.object_store.proofs.Held.{not_named}
use Rattle.object_store.proofs.Unfolding.{growing_law}
use Rattle.object_store.proofs.Parts.{AreIn, part-has}
use Rattle.object_store.proofs.Children.{object-children, tree-children}

abbrev pub part : List Object → Mode → Bytes → Bytes → Flat
part S m n c = below c (rests (node_of (body_of Blob S) (flat S) m n))

abbrev pub entries_map : List Object → List Entry → Flat
entries_map S es = joined (body_of Blob S) (flat S) es

module _ (R S : List Object) (blobs : (n : Bytes) → has Blob R n ≡ true → body_of Blob R n ≡ body_of Blob S n) (trees : (n : Bytes) → has Tree R n ≡ true → flat R n ≡ flat S n) where
  part-same : (m : Mode) (n c : Bytes) → has_child R m n ≡ true → part R m n c ≡ part S m n c
  part-same File n c h = ap (λ (b : Bytes). below c (rests (node_of (λ k. b) (flat R) File n))) (blobs n h)
  part-same Exec n c h = ap (λ (b : Bytes). below c (rests (node_of (λ k. b) (flat R) Exec n))) (blobs n h)
  part-same Link n c h = ap (λ (b : Bytes). below c (rests (node_of (λ k. b) (flat R) Link n))) (blobs n h)
  part-same Module n c h = refl
  part-same Dir n c h = ap (below c) (trees n (first_so _ _ h))

  pub map-same : (es : List Entry) → HasChildren R es → entries_map R es ≡ entries_map S es
  map-same [] h = refl
  map-same (e ∷ es) h = λ i. part-same e.mode e.name.0 e.component h.0 i ++ map-same es h.1 i

older-blob : (o : Object) (S : List Object) → IsStore (o ∷ S) → (n : Bytes) → has Blob S n ≡ true → body_of Blob S n ≡ body_of Blob (o ∷ S) n
unfolding body_of
older-blob o S s n h = sym (ap (λ b. cond b o.body (body_of Blob S n)) (not_named Blob o S n s.1 h))

older-flat : (o : Object) (S : List Object) → IsStore (o ∷ S) → (n : Bytes) → has Tree S n ≡ true → flat S n ≡ flat (o ∷ S) n
older-flat o S s n h = sym (growing_law (o ∷ []) S n s h)

pub flat-unfolds : (S : List Object) (n : Bytes) → IsStore S → has Tree S n ≡ true → flat S n ≡ entries_map S (listed (body_of Tree S n))
unfolding has body_of flat
flat-unfolds [] n s h = absurd (true≢false (sym h))
flat-unfolds (o ∷ S) n s h =
    elim (is_named Tree o n) as (λ t. is_named Tree o n ≡ t → (t || has Tree S n) ≡ true →
    cond t (entries_map S (listed o.body)) (flat S n) ≡ entries_map (o ∷ S) (listed (cond t o.body (body_of Tree S n)))) [
      | true ↦ λ e g. map-same S (o ∷ S) (older-blob o S s) (older-flat o S s) (listed o.body) (object-children S o n s.0 e)
      | false ↦ λ e g. flat-unfolds S n s.2 g ∙ map-same S (o ∷ S) (older-blob o S s) (older-flat o S s) (listed (body_of Tree S n)) (tree-children S n s.2 g)
    ] refl h

own-body : (o : Object) (H : List Object) (n : Bytes) → is_named Tree o n ≡ true → o.body ≡ body_of Tree (o ∷ H) n
unfolding body_of
own-body o H n e = sym (ap (λ b. cond b o.body (body_of Tree H n)) e)

-- a part that is a store of its own has the same maps
pub flat-part : (S H : List Object) (n : Bytes) → IsStore S → IsStore H → AreIn S H → has Tree H n ≡ true → flat H n ≡ flat S n
unfolding has flat
flat-part S [] n s h i t = absurd (true≢false (sym t))
flat-part S (o ∷ H) n s h i t =
    elim (is_named Tree o n) as (λ b. is_named Tree o n ≡ b → (b || has Tree H n) ≡ true → cond b (entries_map H (listed o.body)) (flat H n) ≡ flat S n) [
      | true ↦ λ e g.
          let f = part-has S (o ∷ H) Tree n i t in
          map-same H S (λ m k. (part-has S H Blob m i.1 k).1) (λ m k. flat-part S H m s h.2 i.1 k) (listed o.body) (object-children H o n h.0 e)
          ∙ ap (λ (b : Bytes). entries_map S (listed b)) (own-body o H n e ∙ f.1)
          ∙ sym (flat-unfolds S n s f.0)
      | false ↦ λ e g. flat-part S H n s h.2 i.1 g
    ] refl t

-- What is held stays as it is when objects are put in front.
use Rattle.std.proofs.Common.{◌≡◌, true, cond, not, List, [], ◌∷◌, ◌++◌, refl, ap, ◌∙◌}
use Rattle.std.specs.Cmp.{first_so, second_so}
use Rattle.git_objects.specs.Paths.{Bytes, is_nil}
use Rattle.git_objects.specs.Trees.{Flat, FileLeaf, ExecLeaf, LinkLeaf, LeafNode, TreeNode, rests}
use Rattle.git_objects.specs.declared.entry.Entry.{Entry}
use Rattle.git_objects.specs.declared.kind.Kind.{Kind}
use Rattle.git_objects.specs.declared.kind.Kind.TheVariants.{Blob, Tree}
use Rattle.git_objects.specs.declared.mode.Mode.{Mode}
use Rattle.git_objects.specs.declared.mode.Mode.TheVariants.{File, Exec, Link, Module, Dir}
use Rattle.git_objects.proofs.Basics.{and_both}
use Rattle.object_store.specs.Objects.{Object, body_of, has, has_child, IsStore}
use Rattle.object_store.specs.Unfolding.{flat, joined, below}
use Rattle.object_store.proofs.Held.{not_named, has-above}
use Rattle.object_store.proofs.Unfolding.{growing_law, node, AreHeld}

-- the map of these entries in a store
abbrev pub joined_in : List Object → List Entry → Flat
joined_in S es = joined (body_of Blob S) (flat S) es

pub body-above : (newer S : List Object) (k : Kind) (n : Bytes) → IsStore (newer ++ S) → has k S n ≡ true → body_of k (newer ++ S) n ≡ body_of k S n
unfolding body_of
body-above [] S k n s h = refl
body-above (o ∷ newer) S k n s h =
    ap (λ b. cond b o.body (body_of k (newer ++ S) n)) (not_named k o (newer ++ S) n s.1 (has-above newer S k n h)) ∙ body-above newer S k n s.2 h

pub child-above : (newer S : List Object) (m : Mode) (n : Bytes) → IsStore (newer ++ S) → has_child S m n ≡ true → has_child (newer ++ S) m n ≡ true
child-above newer S File n s h = has-above newer S Blob n h
child-above newer S Exec n s h = has-above newer S Blob n h
child-above newer S Link n s h = has-above newer S Blob n h
child-above newer S Module n s h = refl
child-above newer S Dir n s h =
    let held = first_so (has Tree S n) (not (is_nil (body_of Tree S n))) h in
    and_both (has-above newer S Tree n held) (ap (λ b. not (is_nil b)) (body-above newer S Tree n s held) ∙ second_so (has Tree S n) (not (is_nil (body_of Tree S n))) h)

pub node-above : (newer S : List Object) (m : Mode) (n : Bytes) → IsStore (newer ++ S) → has_child S m n ≡ true → node (newer ++ S) m n ≡ node S m n
node-above newer S File n s h = ap (λ b. LeafNode (FileLeaf b)) (body-above newer S Blob n s h)
node-above newer S Exec n s h = ap (λ b. LeafNode (ExecLeaf b)) (body-above newer S Blob n s h)
node-above newer S Link n s h = ap (λ b. LeafNode (LinkLeaf b)) (body-above newer S Blob n s h)
node-above newer S Module n s h = refl
node-above newer S Dir n s h = ap TreeNode (growing_law newer S n s (first_so (has Tree S n) (not (is_nil (body_of Tree S n))) h))

pub held-above : (newer S : List Object) (es : List Entry) → IsStore (newer ++ S) → AreHeld S es → AreHeld (newer ++ S) es
held-above newer S [] s h = tt
held-above newer S (e ∷ es) s h = (record { child = child-above newer S e.mode e.name.0 s h.0.child; name = h.0.name }, held-above newer S es s h.1)

pub joined-above : (newer S : List Object) (es : List Entry) → IsStore (newer ++ S) → AreHeld S es → joined_in (newer ++ S) es ≡ joined_in S es
joined-above newer S [] s h = refl
joined-above newer S (e ∷ es) s h = λ i. below e.component (rests (node-above newer S e.mode e.name.0 s h.0.child i)) ++ joined-above newer S es s h.1 i

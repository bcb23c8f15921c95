-- What a branch with children at its end stands for, and which ways it leaves clear.
use Rattle.std.proofs.Common.{◌≡◌, ℕ, true, false, cond, ◌||◌, ◌&&◌, List, [], ◌∷◌, ◌++◌, length, None, refl, sym, ap, ◌∙◌, arith, true≢false}
use Rattle.std.specs.Cmp.{first_so, second_so}
use Rattle.std.specs.Cmp.Lexicographic.{bytes_decides}
use Rattle.std.specs.List.{list_all}
use Rattle.git_objects.specs.Paths.{Bytes, Path, comparable, is_component, is_prefix, same_bytes}
use Rattle.git_objects.specs.Trees.{Node as FlatNode, at, rests}
use Rattle.git_objects.proofs.Basics.{same_bytes-back}
use Rattle.git_objects.proofs.Maps.{after, at_rest}
use Rattle.object_store.specs.Objects.{Object}
use Rattle.stage_nodes.specs.declared.nodes.Content.{Content}
use Rattle.stage_nodes.specs.Forests.{Forest, Nil, Bin, IsFilled, IsSound, Sound}
use Rattle.stage_nodes.specs.Frames.{Frame, plug, path_of}
use Rattle.stage_nodes.specs.Leaves.{leaf_below, leaf_in, is_held}
use Rattle.stage_nodes.specs.Branches.{after_named}
use Rattle.stage_nodes.specs.Walks.{clear_below, is_clear}
use Rattle.stage_tree.specs.Renames.{trunk, trunk_content}
use Rattle.stage_nodes.proofs.Clearing.{clear_apart}

pub trunk_new : (S : List Object) (ks : List ℕ) (b : Path) (x : Content) (l : Forest) (n : FlatNode) → length ks ≡ length b → ((r : Path) → leaf_below S x (leaf_in S l) r ≡ at (rests n) r) → (r : Path) → leaf_below S (trunk_content b x) (leaf_in S (trunk ks b x l)) r ≡ at_rest (rests n) (after b r)
trunk_new S ks [] x l n long h r = h r
trunk_new S [] (d ∷ b) x l n long h r = absurd (omega arith)
trunk_new S (j ∷ ks) (d ∷ b) x l n long h [] = refl
trunk_new S (j ∷ ks) (d ∷ b) x l n long h (e ∷ r) =
    ap (λ v. cond v (leaf_below S (trunk_content b x) (leaf_in S (trunk ks b x l)) r) None) (same_bytes-back e d)
    ∙ ap (λ o. cond (same_bytes d e) o None) (trunk_new S ks b x l n (omega arith) h r)
    ∙ elim (same_bytes d e) as (λ v. cond v (at_rest (rests n) (after b r)) None ≡ at_rest (rests n) (cond v (after b r) None)) [ true ↦ refl | false ↦ refl ]

pub sound_trunk : (S : List Object) (ks : List ℕ) (c : Bytes) (p : Path) (x : Content) (l : Forest) → length ks ≡ length p → list_all is_component (c ∷ p) ≡ true → IsFilled x l → is_held S x ≡ true → Sound (is_held S) l → IsSound (is_held S) c (trunk_content p x) (trunk ks p x l) × Sound (is_held S) (trunk ks p x l)
sound_trunk S ks c [] x l n v f h s = (record { component = first_so (is_component c) (list_all is_component []) v; filled = f; content = h }, s)
sound_trunk S [] c (d ∷ p) x l n v f h s = absurd (omega arith)
sound_trunk S (k ∷ ks) c (d ∷ p) x l n v f h s =
    let r = sound_trunk S ks d p x l (omega arith) (second_so (is_component c) (list_all is_component (d ∷ p)) v) f h s in
    (record { component = first_so (is_component c) (list_all is_component (d ∷ p)) v; filled = tt; content = refl }, (r.0, tt, r.1, tt))

-- ---- clear ways

-- a path that the branch isn't comparable with leaves it before the end
trunk_clear : (ks : List ℕ) (b : Path) (x : Content) (l : Forest) (e : Bytes) (q : Path) → length ks ≡ length b → comparable b (e ∷ q) ≡ false → clear_below (trunk_content b x) (is_clear (trunk ks b x l) (e ∷ q)) ≡ true
trunk_clear ks [] x l e q n h = absurd (true≢false h)
trunk_clear [] (d ∷ b) x l e q n h = absurd (omega arith)
trunk_clear (j ∷ ks) (d ∷ b) x l e [] n h = refl
trunk_clear (j ∷ ks) (d ∷ b) x l e (f ∷ q) n h =
    let shorter : length ks ≡ length b = omega arith in
    elim (same_bytes e d) as (λ v. same_bytes e d ≡ v → cond v (clear_below (trunk_content b x) (is_clear (trunk ks b x l) (f ∷ q))) true ≡ true) [
      | true ↦ λ w. trunk_clear ks b x l f q shorter (sym (λ i. ((same_bytes-back d e ∙ w) i && is_prefix b (f ∷ q)) || (w i && is_prefix (f ∷ q) b)) ∙ h)
      | false ↦ λ w. refl
    ] refl

named_clear : (c d : Bytes) (X : Forest) (e : Bytes) (q : Path) → same_bytes d c ≡ false → is_clear X (d ∷ e ∷ q) ≡ true → is_clear (after_named c X) (d ∷ e ∷ q) ≡ true
named_clear c d Nil e q n h = refl
named_clear c d (Bin i g y m r) e q n h =
    elim (same_bytes c g) as (λ v. same_bytes c g ≡ v → is_clear (cond v r (Bin i g y m r)) (d ∷ e ∷ q) ≡ true) [
      | true ↦ λ w. sym (ap (λ v. cond v (clear_below y (is_clear m (e ∷ q))) (is_clear r (d ∷ e ∷ q))) (ap (same_bytes d) (sym ((bytes_decides c g).0 w)) ∙ n)) ∙ h
      | false ↦ λ w. h
    ] refl

pub put_clear : (up : List Frame) (X : Forest) (c : Bytes) (b : Path) (k : ℕ) (ks : List ℕ) (x : Content) (l : Forest) → length ks ≡ length b → (q : Path) → comparable (path_of up ++ c ∷ b) q ≡ false → is_clear (plug up X) q ≡ true → is_clear (plug up (Bin k c (trunk_content b x) (trunk ks b x l) (after_named c X))) q ≡ true
put_clear up X c b k ks x l long = clear_apart up X (Bin k c (trunk_content b x) (trunk ks b x l) (after_named c X)) (c ∷ b) by
  where
    by : (q : Path) → comparable (c ∷ b) q ≡ false → is_clear X q ≡ true → is_clear (Bin k c (trunk_content b x) (trunk ks b x l) (after_named c X)) q ≡ true
    by [] n h = refl
    by (d ∷ []) n h = refl
    by (d ∷ e ∷ q) n h =
        elim (same_bytes d c) as (λ v. same_bytes d c ≡ v → cond v (clear_below (trunk_content b x) (is_clear (trunk ks b x l) (e ∷ q))) (is_clear (after_named c X) (d ∷ e ∷ q)) ≡ true) [
          | true ↦ λ w. trunk_clear ks b x l e q long (sym (λ i. ((same_bytes-back c d ∙ w) i && is_prefix b (e ∷ q)) || (w i && is_prefix (e ∷ q) b)) ∙ n)
          | false ↦ λ w. named_clear c d X e q w h
        ] refl

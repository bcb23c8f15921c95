-- What a node put at a place stands for.
use Rattle.std.proofs.Common.{◌≡◌, ℕ, ◌⊎◌, inl, inr, Bool, true, false, cond, ◌||◌, ◌&&◌, List, [], ◌∷◌, ◌++◌, length, Option, Some, None, refl, sym, ap, ◌∙◌, arith, true≢false, append_assoc}
use Rattle.std.specs.declared.cmp.Ordering.TheVariants.{Less}
use Rattle.std.specs.Cmp.Lexicographic.{bytes_decides}
use Rattle.git_objects.specs.Paths.{Bytes, Path, same_bytes, is_prefix, comparable}
use Rattle.git_objects.specs.Trees.{Leaf, Flat, Node as FlatNode, at, put, rests}
use Rattle.git_objects.specs.Entries.{is_dir}
use Rattle.git_objects.proofs.Basics.{same_bytes-self, same_bytes-back}
use Rattle.git_objects.proofs.Maps.{after, at_rest, first_some, at-put}
use Rattle.object_store.specs.Objects.{Object}
use Rattle.path_trees.specs.Standing.{node}
use Rattle.path_trees.specs.declared.found.Found.{Found}
use Rattle.git_objects.specs.declared.mode.Mode.TheVariants.{File, Exec, Link, Module, Dir}
use Rattle.stage_nodes.specs.declared.nodes.Content.{Content}
use Rattle.stage_nodes.specs.declared.nodes.Content.TheVariants.{Held, Open}
use Rattle.stage_nodes.specs.Forests.{Forest, Nil, Bin, Beyond, Sound, bytes_cmp}
use Rattle.stage_nodes.specs.Frames.{Frame, Below, Behind, plug, path_of, Fits, SoundUp}
use Rattle.stage_nodes.specs.Leaves.{leaf_in, leaf_below}
use Rattle.stage_nodes.specs.Ways.{NotBefore, IsBlocked}
use Rattle.stage_nodes.specs.Branches.{stem, stem_content, after_named}
use Rattle.stage_nodes.proofs.Order.{less_apart, less_back, less_trans}
use Rattle.stage_nodes.proofs.Leaves.{Alike, leaf_plug, leaf_beside, after_is}

-- ---- paths

pub after_split : (q x y : Path) → after (q ++ x) (q ++ y) ≡ after x y
after_split [] x y = refl
after_split (c ∷ q) x y = ap (λ b. cond b (after (q ++ x) (q ++ y)) None) (same_bytes-self c) ∙ after_split q x y

-- a path behind the way and the component begins with it
after_short : (q : Path) (c : Bytes) (b y : Path) → after (q ++ c ∷ []) y ≡ None → after (q ++ c ∷ b) y ≡ None
after_short [] c b [] h = refl
after_short [] c b (d ∷ y) h = elim (same_bytes c d) as (λ t. cond t (Some y) None ≡ None → cond t (after b y) None ≡ None) [ true ↦ λ g. absurd cc | false ↦ λ g. refl ] h
after_short (e ∷ q) c b [] h = refl
after_short (e ∷ q) c b (d ∷ y) h = elim (same_bytes e d) as (λ t. cond t (after (q ++ c ∷ []) y) None ≡ None → cond t (after (q ++ c ∷ b) y) None ≡ None) [ true ↦ λ g. after_short q c b y g | false ↦ λ g. refl ] h

prefix_after : (p y : Path) → is_prefix p y ≡ true → after p y ≡ None → ⊥
prefix_after [] y h g = cc
prefix_after (c ∷ p) [] h g = true≢false (sym h)
prefix_after (c ∷ p) (d ∷ y) h g = elim (same_bytes c d) as (λ t. (t && is_prefix p y) ≡ true → cond t (after p y) None ≡ None → ⊥) [ true ↦ λ u v. prefix_after p y u v | false ↦ λ u v. true≢false (sym u) ] h g

-- a prefix of the path that stops before the component is one of the way
prefix_way : (q : Path) (c : Bytes) (b y : Path) → is_prefix y (q ++ c ∷ b) ≡ true → after (q ++ c ∷ []) y ≡ None → is_prefix y q ≡ true
prefix_way [] c b [] h g = refl
prefix_way [] c b (d ∷ y) h g = elim (same_bytes d c) as (λ t. same_bytes d c ≡ t → (t && is_prefix y b) ≡ true → false ≡ true) [
  | true ↦ λ e u. absurd (let w : after (c ∷ []) (d ∷ y) ≡ Some y = ap (λ t. cond t (Some y) None) (same_bytes-back c d ∙ e) in let v : Some y ≡ None = sym w ∙ g in cc)
  | false ↦ λ e u. u
] refl h
prefix_way (e ∷ q) c b [] h g = refl
prefix_way (e ∷ q) c b (d ∷ y) h g = elim (same_bytes d e) as (λ t. same_bytes d e ≡ t → (t && is_prefix y (q ++ c ∷ b)) ≡ true → (t && is_prefix y q) ≡ true) [
  | true ↦ λ w u. prefix_way q c b y u (sym (ap (λ t. cond t (after (q ++ c ∷ []) y) None) (same_bytes-back e d ∙ w)) ∙ g)
  | false ↦ λ w u. u
] refl h

prefix_last : (y q : Path) (c : Bytes) → is_prefix y (q ++ c ∷ []) ≡ true → (is_prefix y q ≡ true) ⊎ (y ≡ q ++ c ∷ [])
prefix_last [] q c h = inl refl
prefix_last (d ∷ y) [] c h = elim (same_bytes d c) as (λ t. same_bytes d c ≡ t → (t && is_prefix y []) ≡ true → (false ≡ true) ⊎ (d ∷ y ≡ c ∷ [])) [
  | true ↦ λ e u. inr (λ i. (bytes_decides d c).0 e i ∷ short y u i)
  | false ↦ λ e u. inl u
] refl h
  where
    short : (y : Path) → is_prefix y [] ≡ true → y ≡ []
    short [] u = refl
    short (e ∷ y) u = absurd (true≢false (sym u))
prefix_last (d ∷ y) (e ∷ q) c h = elim (same_bytes d e) as (λ t. same_bytes d e ≡ t → (t && is_prefix y (q ++ c ∷ [])) ≡ true → ((t && is_prefix y q) ≡ true) ⊎ (d ∷ y ≡ e ∷ q ++ c ∷ [])) [
  | true ↦ λ w u. more w (prefix_last y q c u)
  | false ↦ λ w u. inl u
] refl h
  where
    more : same_bytes d e ≡ true → (is_prefix y q ≡ true) ⊎ (y ≡ q ++ c ∷ []) → (is_prefix y q ≡ true) ⊎ (d ∷ y ≡ e ∷ q ++ c ∷ [])
    more w (inl u) = inl u
    more w (inr u) = inr (λ i. (bytes_decides d e).0 w i ∷ u i)

prefix_front : (p r : Path) → is_prefix p (p ++ r) ≡ true
prefix_front [] r = refl
prefix_front (c ∷ p) r = ap (λ b. b && is_prefix p (p ++ r)) (same_bytes-self c) ∙ prefix_front p r

pub comparable_left : (p q : Path) → is_prefix p q ≡ true → comparable p q ≡ true
comparable_left p q h = ap (λ b. b || is_prefix q p) h

or_right : (a b : Bool) → b ≡ true → (a || b) ≡ true
or_right true b h = refl
or_right false b h = h

comparable_right : (p q : Path) → is_prefix q p ≡ true → comparable p q ≡ true
comparable_right p q h = or_right (is_prefix p q) (is_prefix q p) h

either : (a b : Bool) → (a || b) ≡ true → (a ≡ true) ⊎ (b ≡ true)
either true b h = inl refl
either false b h = inr h

-- ---- forests

module _ (S : List Object) where
  none_here : (F : Forest) → leaf_in S F [] ≡ None
  none_here Nil = refl
  none_here (Bin k c x l r) = refl

  pub leaf_stem : (k : ℕ) (ks : List ℕ) (c : Bytes) (p : Path) (f : Found) (y : Path) → length ks ≡ length p → leaf_in S (stem (k ∷ ks) (c ∷ p) f) y ≡ at_rest (rests (node S f)) (after (c ∷ p) y)
  leaf_stem k ks c p f [] n = refl
  leaf_stem k ks c [] f (d ∷ y) n = ap (λ b. cond b (at (rests (node S f)) y) None) (same_bytes-back d c) ∙ elim (same_bytes c d) as (λ b. cond b (at (rests (node S f)) y) None ≡ at_rest (rests (node S f)) (cond b (Some y) None)) [ true ↦ refl | false ↦ refl ]
  leaf_stem k [] c (e ∷ p) f (d ∷ y) n = absurd (omega arith)
  leaf_stem k (j ∷ ks) c (e ∷ p) f (d ∷ y) n =
      ap (λ b. cond b (leaf_in S (stem (j ∷ ks) (e ∷ p) f) y) None) (same_bytes-back d c)
      ∙ ap (λ o. cond (same_bytes c d) o None) (leaf_stem j ks e p f y (omega arith))
      ∙ elim (same_bytes c d) as (λ b. cond b (at_rest (rests (node S f)) (after (e ∷ p) y)) None ≡ at_rest (rests (node S f)) (cond b (after (e ∷ p) y) None)) [ true ↦ refl | false ↦ refl ]

  pub stem_new : (ks : List ℕ) (b : Path) (f : Found) (r : Path) → length ks ≡ length b → leaf_below S (stem_content b f) (leaf_in S (stem ks b f)) r ≡ at_rest (rests (node S f)) (after b r)
  stem_new ks [] f r n = refl
  stem_new [] (d ∷ b) f r n = absurd (omega arith)
  stem_new (j ∷ ks) (d ∷ b) f r n = leaf_stem j ks d b f r (omega arith)

  -- siblings behind a component don't have it
  pub beyond_none : (c : Bytes) (F : Forest) (p : Path) → Beyond c F → leaf_in S F (c ∷ p) ≡ None
  beyond_none c Nil p h = refl
  beyond_none c (Bin k d x l r) p h = ap (λ b. cond b (leaf_below S x (leaf_in S l) p) (leaf_in S r (c ∷ p))) (less_apart c d h.0) ∙ beyond_none c r p h.1

  module _ (P : Content → Bool) where
    beyond_far : (c d : Bytes) (F : Forest) → bytes_cmp c d ≡ Less → Beyond d F → Beyond c F
    beyond_far c d Nil g b = tt
    beyond_far c d (Bin i e x l r) g b = (less_trans c d e g b.0, beyond_far c d r g b.1)

    -- below a blocked place there is nothing but a leaf at it
    pub blocked_none : (c : Bytes) (X : Forest) (d : Bytes) (r : Path) → Sound P X → NotBefore c X → IsBlocked c X → leaf_in S X (c ∷ d ∷ r) ≡ None
    blocked_none c Nil d r s n b = refl
    blocked_none c (Bin k e Open l m) d r s n b =
        ap (λ t. cond t (leaf_in S l (d ∷ r)) (leaf_in S m (c ∷ d ∷ r))) b ∙ (let less = less_back c e n b in beyond_none c m (d ∷ r) (beyond_far c e m less s.1))
    blocked_none c (Bin k e (Held f) l m) d r s n (inl b) =
        ap (λ t. cond t (at (rests (node S f)) (d ∷ r)) (leaf_in S m (c ∷ d ∷ r))) b ∙ (let less = less_back c e n b in beyond_none c m (d ∷ r) (beyond_far c e m less s.1))
    blocked_none c (Bin k e (Held f) l m) d r s n (inr b) =
        elim (same_bytes c e) as (λ t. same_bytes c e ≡ t → cond t (at (rests (node S f)) (d ∷ r)) (leaf_in S m (c ∷ d ∷ r)) ≡ None) [
          | true ↦ λ g. leaf_only f.mode b
          | false ↦ λ g. let less = less_back c e n g in beyond_none c m (d ∷ r) (beyond_far c e m less s.1)
        ] refl
      where
        leaf_only : (m : Rattle.git_objects.specs.declared.mode.Mode.Mode) → is_dir m ≡ false → at (rests (node S (record { mode = m; name = f.name }))) (d ∷ r) ≡ None
        leaf_only File h = refl
        leaf_only Exec h = refl
        leaf_only Link h = refl
        leaf_only Module h = refl
        leaf_only Dir h = absurd (true≢false h)

    alike_named : (c : Bytes) (k : ℕ) (x : Content) (l X : Forest) → Alike S P c X (Bin k c x l (after_named c X))
    alike_named c k x l Nil d p h = sym (ap (λ b. cond b (leaf_below S x (leaf_in S l) p) None) h)
    alike_named c k x l (Bin i e y m r) d p h =
        elim (same_bytes c e) as (λ t. same_bytes c e ≡ t → cond (same_bytes d e) (leaf_below S y (leaf_in S m) p) (leaf_in S r (d ∷ p)) ≡ leaf_in S (Bin k c x l (cond t r (Bin i e y m r))) (d ∷ p)) [
          | true ↦ λ g. ap (λ b. cond b (leaf_below S y (leaf_in S m) p) (leaf_in S r (d ∷ p))) (ap (same_bytes d) (sym ((bytes_decides c e).0 g)) ∙ h) ∙ sym (ap (λ b. cond b (leaf_below S x (leaf_in S l) p) (leaf_in S r (d ∷ p))) h)
          | false ↦ λ g. sym (ap (λ b. cond b (leaf_below S x (leaf_in S l) p) (cond (same_bytes d e) (leaf_below S y (leaf_in S m) p) (leaf_in S r (d ∷ p)))) h)
        ] refl

    -- no leaf stands on the way
    pub leaf_on_way : (up : List Frame) (X : Forest) (y : Path) → SoundUp P up → is_prefix y (path_of up) ≡ true → leaf_in S (plug up X) y ≡ None
    leaf_on_way [] X [] u h = none_here X
    leaf_on_way [] X (d ∷ y) u h = absurd (true≢false (sym h))
    leaf_on_way (Behind k d x l ∷ up) X y u h = leaf_on_way up (Bin k d x l X) y u.3 h
    leaf_on_way (Below k c r ∷ up) X y u h = elim (prefix_last y (path_of up) c h) [
      | inl e ↦ leaf_on_way up (Bin k c Open X r) y u.5 e
      | inr e ↦ ap (leaf_in S (plug up (Bin k c Open X r))) e ∙ leaf_plug S P up (Bin k c Open X r) c [] u.5 u.4
          ∙ ap (λ b. cond b (leaf_in S X []) (leaf_in S r (c ∷ []))) (same_bytes-self c) ∙ none_here X
    ]

    -- ---- put

    module _ (up : List Frame) (X : Forest) (c : Bytes) (b : Path) (k : ℕ) (x : Content) (l : Forest) (new : FlatNode) (holds : (r : Path) → leaf_below S x (leaf_in S l) r ≡ at_rest (rests new) (after b r)) (u : SoundUp P up) (fits : Fits up c) (sound : Sound P X) (next : NotBefore c X) (ended : (b ≡ []) ⊎ IsBlocked c X) (t : Flat) (stood : (y : Path) → leaf_in S (plug up X) y ≡ at t y) where
      abbrev q : Path
      q = path_of up

      abbrev p : Path
      p = q ++ c ∷ b

      abbrev Z : Forest
      Z = Bin k c x l (after_named c X)

      first_none : {A : Type 0} (o d : Option A) → d ≡ None → o ≡ first_some o d
      first_none None d h = sym h
      first_none (Some x) d h = refl

      -- what the flat edit keeps there
      nothing_kept : (r : Path) → cond (comparable p (q ++ c ∷ r)) None (at t (q ++ c ∷ r)) ≡ None
      nothing_kept r = by r ended
        where
          none_by : (y : Path) → comparable p y ≡ true → cond (comparable p y) None (at t y) ≡ None
          none_by y e = ap (λ v. cond v None (at t y)) e

          cond_none : (v : Bool) (o : Option Leaf) → o ≡ None → cond v None o ≡ None
          cond_none true o e = refl
          cond_none false o e = e

          by : (r : Path) → (b ≡ []) ⊎ IsBlocked c X → cond (comparable p (q ++ c ∷ r)) None (at t (q ++ c ∷ r)) ≡ None
          by r (inl e) = none_by (q ++ c ∷ r) (comparable_left p (q ++ c ∷ r) (ap (λ (v : Path). is_prefix (q ++ c ∷ v) (q ++ c ∷ r)) e ∙ ap (is_prefix (q ++ c ∷ [])) (sym (append_assoc q (c ∷ []) r)) ∙ prefix_front (q ++ c ∷ []) r))
          by [] (inr e) = none_by (q ++ c ∷ []) (comparable_right p (q ++ c ∷ []) (ap (is_prefix (q ++ c ∷ [])) (sym (append_assoc q (c ∷ []) b)) ∙ prefix_front (q ++ c ∷ []) b))
          by (d ∷ r) (inr e) = cond_none (comparable p (q ++ c ∷ d ∷ r)) (at t (q ++ c ∷ d ∷ r)) (sym (stood (q ++ c ∷ d ∷ r)) ∙ leaf_plug S P up X c (d ∷ r) u fits ∙ blocked_none c X d r sound next e)

      inside_put : (r : Path) → leaf_in S (plug up Z) (q ++ c ∷ r) ≡ at (put t p new) (q ++ c ∷ r)
      inside_put r =
          leaf_plug S P up Z c r u fits
          ∙ ap (λ v. cond v (leaf_below S x (leaf_in S l) r) (leaf_in S (after_named c X) (c ∷ r))) (same_bytes-self c)
          ∙ holds r
          ∙ sym (ap (λ v. at_rest (rests new) (cond v (after b r) None)) (same_bytes-self c))
          ∙ ap (at_rest (rests new)) (sym (after_split q (c ∷ b) (c ∷ r)))
          ∙ first_none (at_rest (rests new) (after p (q ++ c ∷ r))) (cond (comparable p (q ++ c ∷ r)) None (at t (q ++ c ∷ r))) (nothing_kept r)
          ∙ sym (at-put t p new (q ++ c ∷ r))

      kept_beside : (y : Path) → after (q ++ c ∷ []) y ≡ None → at t y ≡ cond (comparable p y) None (at t y)
      kept_beside y n = by (comparable p y) refl
        where
          by : (v : Bool) → comparable p y ≡ v → at t y ≡ cond v None (at t y)
          by false e = refl
          by true e = elim (either (is_prefix p y) (is_prefix y p) e) [
            | inl g ↦ absurd (prefix_after p y g (after_short q c b y n))
            | inr g ↦ sym (stood y) ∙ leaf_on_way up X y u (prefix_way q c b y g n)
          ]

      beside_put : (y : Path) → after (q ++ c ∷ []) y ≡ None → leaf_in S (plug up Z) y ≡ at (put t p new) y
      beside_put y n =
          sym (leaf_beside S P up X Z c y u fits (alike_named c k x l X) n)
          ∙ stood y
          ∙ kept_beside y n
          ∙ sym (ap (λ o. first_some (at_rest (rests new) o) (cond (comparable p y) None (at t y))) (after_short q c b y n))
          ∙ sym (at-put t p new y)

      pub put_there : (y : Path) → leaf_in S (plug up Z) y ≡ at (put t p new) y
      put_there y = by (after (q ++ c ∷ []) y) refl
        where
          by : (o : Option Path) → after (q ++ c ∷ []) y ≡ o → leaf_in S (plug up Z) y ≡ at (put t p new) y
          by None e = beside_put y e
          by (Some r) e =
              let w : y ≡ q ++ c ∷ r = after_is S P (q ++ c ∷ []) y r e ∙ append_assoc q (c ∷ []) r in
              ap (leaf_in S (plug up Z)) w ∙ inside_put r ∙ ap (at (put t p new)) (sym w)

-- What a forest stands for, where something is put at a place.
use Rattle.std.proofs.Common.{◌≡◌, ℕ, ◌+◌, Bool, true, false, cond, List, [], ◌∷◌, ◌++◌, Some, None, refl, sym, ap, ◌∙◌, append_assoc}
use Rattle.std.specs.declared.cmp.Ordering.TheVariants.{Less}
use Rattle.std.specs.Cmp.Lexicographic.{bytes_decides}
use Rattle.git_objects.specs.Paths.{Bytes, Path, same_bytes}
use Rattle.git_objects.proofs.Basics.{same_bytes-self}
use Rattle.git_objects.proofs.Maps.{after}
use Rattle.object_store.specs.Objects.{Object}
use Rattle.stage_nodes.specs.declared.nodes.Content.{Content}
use Rattle.stage_nodes.specs.declared.nodes.Content.TheVariants.{Open}
use Rattle.stage_nodes.specs.Forests.{Forest, Nil, Bin, bytes_cmp}
use Rattle.stage_nodes.specs.Frames.{Frame, Below, Behind, plug, path_of, Fits, SoundUp}
use Rattle.stage_nodes.specs.Leaves.{leaf_in, leaf_below}
use Rattle.stage_nodes.proofs.Order.{less_apart_back, less_trans}

module _ (S : List Object) (P : Content → Bool) where
  -- a path that begins with the way and a component that fits is looked up at the place
  pub fits_far : (up : List Frame) (d c : Bytes) → Fits up d → bytes_cmp d c ≡ Less → Fits up c
  fits_far [] d c f h = tt
  fits_far (Below k e r ∷ up) d c f h = tt
  fits_far (Behind k e x l ∷ up) d c f h = less_trans e d c f h

  pub leaf_plug : (up : List Frame) (X : Forest) (c : Bytes) (p : Path) → SoundUp P up → Fits up c → leaf_in S (plug up X) (path_of up ++ c ∷ p) ≡ leaf_in S X (c ∷ p)
  leaf_plug [] X c p u f = refl
  leaf_plug (Below k d r ∷ up) X c p u f =
      ap (leaf_in S (plug up (Bin k d Open X r))) (append_assoc (path_of up) (d ∷ []) (c ∷ p))
      ∙ leaf_plug up (Bin k d Open X r) d (c ∷ p) u.5 u.4
      ∙ ap (λ b. cond b (leaf_in S X (c ∷ p)) (leaf_in S r (d ∷ c ∷ p))) (same_bytes-self d)
  leaf_plug (Behind k d x l ∷ up) X c p u f =
      leaf_plug up (Bin k d x l X) c p u.3 (fits_far up d c u.2 f)
      ∙ ap (λ b. cond b (leaf_below S x (leaf_in S l) p) (leaf_in S X (c ∷ p))) (less_apart_back d c f)

  -- two forests that differ in one component alone
  abbrev pub Alike : Bytes → Forest → Forest → Type 0
  Alike c X Y = (d : Bytes) (p : Path) → same_bytes d c ≡ false → leaf_in S X (d ∷ p) ≡ leaf_in S Y (d ∷ p)

  alike_below : (k : ℕ) (d : Bytes) (X Y r : Forest) → Alike d (Bin k d Open X r) (Bin k d Open Y r)
  alike_below k d X Y r e p h = ap (λ b. cond b (leaf_in S X p) (leaf_in S r (e ∷ p))) h ∙ sym (ap (λ b. cond b (leaf_in S Y p) (leaf_in S r (e ∷ p))) h)

  alike_behind : (k : ℕ) (d c : Bytes) (x : Content) (l X Y : Forest) → Alike c X Y → Alike c (Bin k d x l X) (Bin k d x l Y)
  alike_behind k d c x l X Y h e p n = ap (cond (same_bytes e d) (leaf_below S x (leaf_in S l) p)) (h e p n)

  leaf_nil : (X Y : Forest) → leaf_in S X [] ≡ leaf_in S Y []
  leaf_nil Nil Nil = refl
  leaf_nil Nil (Bin k c x l r) = refl
  leaf_nil (Bin k c x l r) Nil = refl
  leaf_nil (Bin k c x l r) (Bin j d y m w) = refl

  -- how a path goes on behind another and one component more
  after_more : (p : Path) (d : Bytes) (q r : Path) → after p q ≡ Some r → after (p ++ d ∷ []) q ≡ after (d ∷ []) r
  after_more [] d q r h = ap (after (d ∷ [])) (Rattle.std.proofs.Common.refl ∙ (let e : q ≡ r = cc in e))
  after_more (c ∷ p) d [] r h = absurd cc
  after_more (c ∷ p) d (e ∷ q) r h =
      elim (same_bytes c e) as (λ b. cond b (after p q) None ≡ Some r → cond b (after (p ++ d ∷ []) q) None ≡ after (d ∷ []) r) [ true ↦ λ g. after_more p d q r g | false ↦ λ g. absurd cc ] h

  pub after_is : (p q r : Path) → after p q ≡ Some r → q ≡ p ++ r
  after_is [] q r h = let e : q ≡ r = cc in e
  after_is (c ∷ p) [] r h = absurd cc
  after_is (c ∷ p) (d ∷ q) r h =
      elim (same_bytes c d) as (λ b. same_bytes c d ≡ b → cond b (after p q) None ≡ Some r → d ∷ q ≡ c ∷ p ++ r) [
        | true ↦ λ e g. λ i. sym ((bytes_decides c d).0 e) i ∷ after_is p q r g i
        | false ↦ λ e g. absurd cc
      ] refl h

  -- what does not begin with the way and the component is looked up elsewhere
  pub leaf_beside : (up : List Frame) (X Y : Forest) (c : Bytes) (q : Path) → SoundUp P up → Fits up c → Alike c X Y → after (path_of up ++ c ∷ []) q ≡ None → leaf_in S (plug up X) q ≡ leaf_in S (plug up Y) q
  leaf_beside [] X Y c [] u f h n = leaf_nil X Y
  leaf_beside [] X Y c (d ∷ p) u f h n = by (same_bytes c d) refl n
    where
      by : (b : Bool) → same_bytes c d ≡ b → cond b (Some p) None ≡ None → leaf_in S X (d ∷ p) ≡ leaf_in S Y (d ∷ p)
      by true e g = absurd cc
      by false e g = h d p (Rattle.git_objects.proofs.Basics.same_bytes-back d c ∙ e)
  leaf_beside (Behind k d x l ∷ up) X Y c q u f h n = leaf_beside up (Bin k d x l X) (Bin k d x l Y) c q u.3 (fits_far up d c u.2 f) (alike_behind k d c x l X Y h) n
  leaf_beside (Below k d r ∷ up) X Y c q u f h n =
      elim (after (path_of up ++ d ∷ []) q) as (λ o. after (path_of up ++ d ∷ []) q ≡ o → leaf_in S (plug up (Bin k d Open X r)) q ≡ leaf_in S (plug up (Bin k d Open Y r)) q) [
        | None ↦ λ e. leaf_beside up (Bin k d Open X r) (Bin k d Open Y r) d q u.5 u.4 (alike_below k d X Y r) e
        | Some p ↦ λ e. inside_it p e
      ] refl
    where
      same_in : (p : Path) → after (c ∷ []) p ≡ None → leaf_in S X p ≡ leaf_in S Y p
      same_in [] g = leaf_nil X Y
      same_in (b ∷ p) g = by (same_bytes c b) refl g
        where
          by : (t : Bool) → same_bytes c b ≡ t → cond t (Some p) None ≡ None → leaf_in S X (b ∷ p) ≡ leaf_in S Y (b ∷ p)
          by true e g = absurd cc
          by false e g = h b p (Rattle.git_objects.proofs.Basics.same_bytes-back b c ∙ e)

      seen : (Z : Forest) (p : Path) → q ≡ (path_of up ++ d ∷ []) ++ p → leaf_in S (plug up (Bin k d Open Z r)) q ≡ leaf_in S Z p
      seen Z p e =
          ap (leaf_in S (plug up (Bin k d Open Z r))) (e ∙ append_assoc (path_of up) (d ∷ []) p)
          ∙ leaf_plug up (Bin k d Open Z r) d p u.5 u.4
          ∙ ap (λ b. cond b (leaf_in S Z p) (leaf_in S r (d ∷ p))) (same_bytes-self d)

      inside_it : (p : Path) → after (path_of up ++ d ∷ []) q ≡ Some p → leaf_in S (plug up (Bin k d Open X r)) q ≡ leaf_in S (plug up (Bin k d Open Y r)) q
      inside_it p e =
          let at_p = after_is (path_of up ++ d ∷ []) q p e in
          seen X p at_p ∙ same_in p (sym (after_more (path_of up ++ d ∷ []) c q p e) ∙ n) ∙ sym (seen Y p at_p)

-- Places among siblings.
use Rattle.std.proofs.Common.{◌≡◌, ℕ, Bool, true, false, cond, List, [], ◌∷◌, ◌++◌, append_assoc, Option, refl, sym, ap, subst, ◌∙◌}
use Rattle.std.specs.declared.cmp.Ordering.TheVariants.{Less}
use Rattle.std.specs.Ordering.{is_lt}
use Rattle.git_objects.specs.Paths.{Bytes}
use Rattle.stage_nodes.specs.declared.nodes.Node.{Node}
use Rattle.stage_nodes.specs.declared.nodes.Content.{Content}
use Rattle.stage_nodes.specs.declared.nodes.Content.TheVariants.{Open}
use Rattle.stage_nodes.specs.declared.nodes.Link.TheVariants.{Next}
use Rattle.stage_nodes.specs.Forests.{Forest, Nil, Bin, Beyond, Sound, sought, inserted, bytes_cmp}
use Rattle.stage_nodes.specs.Frames.{Frame, Below, Behind, plug, link_of, path_of, ReadsUp, Fits, FitsTop, Fills, SoundUp, AreSiblings}
use Rattle.stage_nodes.specs.Ways.{IsHere, NotBefore}
use Rattle.path_trees.proofs.Gathering.{is_less}
use Rattle.stage_nodes.proofs.Order.{less_trans}

one_more : (fs : List Frame) (k : ℕ) (c : Bytes) (x : Content) (l : Forest) → AreSiblings fs → AreSiblings (fs ++ Behind k c x l ∷ [])
one_more [] k c x l h = tt
one_more (Below i d r ∷ fs) k c x l h = absurd h
one_more (Behind i d y m ∷ fs) k c x l h = one_more fs k c x l h

pub not_empty : (F : Forest) → Type 0
not_empty Nil = ⊥
not_empty (Bin k c x l r) = Unit

module _ (P : Content → Bool) where
  -- ---- a forest put at a place

  beyond_top : (up : List Frame) (k : ℕ) (d : Bytes) (x : Content) (l X : Forest) → FitsTop (Behind k d x l ∷ up) X → Sound P X → Beyond d X
  beyond_top up k d x l Nil f s = tt
  beyond_top up k d x l (Bin j e y m r) f s = (f, beyond_far e r f s.1)
    where
      beyond_far : (e : Bytes) (r : Forest) → bytes_cmp d e ≡ Less → Beyond e r → Beyond d r
      beyond_far e Nil h b = tt
      beyond_far e (Bin i g z u v) h b = (less_trans d e g h b.0, beyond_far e v h b.1)

  pub sound_plug : (up : List Frame) (X : Forest) → SoundUp P up → FitsTop up X → Fills up X → Sound P X → Sound P (plug up X)
  sound_plug [] X u f n s = s
  sound_plug (Below k c r ∷ up) Nil u f n s = absurd n
  sound_plug (Below k c r ∷ up) (Bin i d y m w) u f n s = sound_plug up (Bin k c Open (Bin i d y m w) r) u.5 u.4 tt (record { component = u.0; filled = tt; content = u.1 }, u.2, s, u.3)
  sound_plug (Behind k c x l ∷ up) X u f n s = sound_plug up (Bin k c x l X) u.3 u.2 tt (u.0, beyond_top up k c x l X f s, u.1, s)

  -- ---- the search among siblings, seen from where it stands

  pub record IsFound (names : Bytes) (ns : List Node) (b : ℕ) (c : Bytes) (up : List Frame) (X : Forest) : Type 0 where
    pub frames : List Frame
    pub number : Option ℕ
    pub rest : Forest
    pub here : IsHere P names ns b frames number rest
    pub link : link_of b frames ≡ sought c (link_of b up) X
    pub whole : plug frames rest ≡ plug up X
    pub path : path_of frames ≡ path_of up
    pub fits : Fits frames c
    pub next : NotBefore c rest
    -- the siblings that were passed
    pub passed : List Frame
    pub frames_are : frames ≡ passed ++ up
    pub siblings : AreSiblings passed
    pub put : (k : ℕ) (x : Content) (l : Forest) → plug frames (Bin k c x l rest) ≡ plug up (inserted c k x l X)

  first_fits : (up : List Frame) (k : ℕ) (c : Bytes) (x : Content) (l r : Forest) → Beyond c r → FitsTop (Behind k c x l ∷ up) r
  first_fits up k c x l Nil h = tt
  first_fits up k c x l (Bin i d y m w) h = h.0

  pub found_here : (names : Bytes) (ns : List Node) (b : ℕ) (c : Bytes) (X : Forest) (up : List Frame) (j : Option ℕ) → IsHere P names ns b up j X → Fits up c → IsFound names ns b c up X
  found_here names ns b c Nil up j h f = record { frames = up; number = j; rest = Nil; here = h; link = refl; whole = refl; path = refl; fits = f; next = tt; passed = []; frames_are = refl; siblings = tt; put = λ k x l. refl }
  found_here names ns b c (Bin k d x l r) up j h f =
      elim (is_lt (bytes_cmp d c)) as (λ t. is_lt (bytes_cmp d c) ≡ t → IsFound names ns b c up (Bin k d x l r)) [
        | true ↦ λ e.
            let g : IsFound names ns b c (Behind k d x l ∷ up) r = found_here names ns b c r (Behind k d x l ∷ up) h.reads.node.next (record {
              reads_up = record { node = h.reads.node; there = h.reads.there; cell = h.reads.cell; children = h.reads.children; next = refl; up = subst (λ (i : Option ℕ). ReadsUp names ns b up i) h.reads.number h.reads_up };
              reads = h.reads.siblings;
              sound_up = (h.sound.0, h.sound.2, h.fits, h.sound_up);
              sound = h.sound.3;
              fits = first_fits up k d x l r h.sound.1;
            }) (is_less (bytes_cmp d c) e) in
            record {
              frames = g.frames;
              number = g.number;
              rest = g.rest;
              here = g.here;
              link = g.link ∙ sym (ap (λ t. cond t (sought c (Next k) r) (link_of b up)) e);
              whole = g.whole;
              path = g.path;
              fits = g.fits;
              next = g.next;
              passed = g.passed ++ Behind k d x l ∷ [];
              frames_are = g.frames_are ∙ sym (append_assoc g.passed (Behind k d x l ∷ []) up);
              siblings = one_more g.passed k d x l g.siblings;
              put = λ i y m. g.put i y m ∙ ap (plug up) (sym (ap (λ t. cond t (Bin k d x l (inserted c i y m r)) (Bin i c y m (Bin k d x l r))) e));
            }
        | false ↦ λ e. record { frames = up; number = j; rest = Bin k d x l r; here = h; link = sym (ap (λ t. cond t (sought c (Next k) r) (link_of b up)) e); whole = refl; path = refl; fits = f; next = e; passed = []; frames_are = refl; siblings = tt; put = λ i y m. ap (plug up) (sym (ap (λ t. cond t (Bin k d x l (inserted c i y m r)) (Bin i c y m (Bin k d x l r))) e)) }
      ] refl

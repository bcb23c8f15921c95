-- A forest that is read, seen from a place in it.
use Rattle.std.proofs.Common.{ℕ, Bool, List, [], ◌∷◌, Option, refl, subst}
use Rattle.git_objects.specs.Paths.{Bytes}
use Rattle.stage_nodes.specs.declared.nodes.Node.{Node}
use Rattle.stage_nodes.specs.declared.nodes.Content.{Content}
use Rattle.stage_nodes.specs.declared.nodes.Content.TheVariants.{Open}
use Rattle.stage_nodes.specs.Forests.{Forest, Nil, Bin, Reads, Beyond, Sound}
use Rattle.stage_nodes.specs.Frames.{Frame, Below, Behind, plug, ReadsUp, FitsTop, SoundUp}
use Rattle.stage_nodes.specs.Ways.{IsHere}
use Rattle.stage_nodes.proofs.Framing.{ReadsAll}

-- what is read around the place and at it
pub record IsReadAt (names : Bytes) (ns : List Node) (b : ℕ) (up : List Frame) (X : Forest) : Type 0 where
  pub number : Option ℕ
  pub around : ReadsUp names ns b up number
  pub reads : Reads names ns number X

pub reads_at : (names : Bytes) (ns : List Node) (b : ℕ) (up : List Frame) (X : Forest) → ReadsAll names ns b (plug up X) → IsReadAt names ns b up X
reads_at names ns b [] X h = record { number = h.node.first; around = record { node = h.node; there = h.there; opened = h.opened; first = refl }; reads = h.children }
reads_at names ns b (Below k c r ∷ up) X h =
    let g = reads_at names ns b up (Bin k c Open X r) h in
    record {
      number = g.reads.node.first;
      around = record { node = g.reads.node; there = g.reads.there; cell = g.reads.cell; first = refl; siblings = g.reads.siblings; up = subst (λ (j : Option ℕ). ReadsUp names ns b up j) g.reads.number g.around };
      reads = g.reads.children;
    }
reads_at names ns b (Behind k c x l ∷ up) X h =
    let g = reads_at names ns b up (Bin k c x l X) h in
    record {
      number = g.reads.node.next;
      around = record { node = g.reads.node; there = g.reads.there; cell = g.reads.cell; children = g.reads.children; next = refl; up = subst (λ (j : Option ℕ). ReadsUp names ns b up j) g.reads.number g.around };
      reads = g.reads.siblings;
    }

module _ (p : Content → Bool) where
  beyond_fits : (up : List Frame) (k : ℕ) (c : Bytes) (x : Content) (l X : Forest) → Beyond c X → FitsTop (Behind k c x l ∷ up) X
  beyond_fits up k c x l Nil h = tt
  beyond_fits up k c x l (Bin i d y m r) h = h.0

  below_fits : (up : List Frame) (k : ℕ) (c : Bytes) (r X : Forest) → FitsTop (Below k c r ∷ up) X
  below_fits up k c r Nil = tt
  below_fits up k c r (Bin i d y m w) = tt

  root_fits : (X : Forest) → FitsTop [] X
  root_fits Nil = tt
  root_fits (Bin i d y m w) = tt

  pub sound_at : (up : List Frame) (X : Forest) → Sound p (plug up X) → SoundUp p up × Sound p X × FitsTop up X
  sound_at [] X h = (tt, h, root_fits X)
  sound_at (Below k c r ∷ up) X h = let g = sound_at up (Bin k c Open X r) h in ((g.1.0.component, g.1.0.content, g.1.1, g.1.3, g.2, g.0), g.1.2, below_fits up k c r X)
  sound_at (Behind k c x l ∷ up) X h = let g = sound_at up (Bin k c x l X) h in ((g.1.0, g.1.2, g.2, g.0), g.1.3, beyond_fits up k c x l X g.1.1)

  pub here_at : (names : Bytes) (ns : List Node) (b : ℕ) (up : List Frame) (X : Forest) → ReadsAll names ns b (plug up X) → Sound p (plug up X) → (j : Option ℕ) × IsHere p names ns b up j X
  here_at names ns b up X h s =
      let g = reads_at names ns b up X h in
      let u = sound_at up X s in
      (g.number, record { reads_up = g.around; reads = g.reads; sound_up = u.0; sound = u.1; fits = u.2 })

-- A directory below the root stored and closed.
use Rattle.std.proofs.Common.{◌≡◌, ℕ, inr, List, ◌∷◌, Option, refl, sym, ap, subst, ◌∙◌}
use Rattle.git_objects.specs.Paths.{Bytes}
use Rattle.git_objects.specs.Trees.{at}
use Rattle.git_objects.specs.Names.{name}
use Rattle.git_objects.specs.declared.kind.Kind.TheVariants.{Tree}
use Rattle.git_objects.specs.declared.mode.Mode.TheVariants.{Dir}
use Rattle.git_objects.specs.declared.name.Name.{Name}
use Rattle.object_store.specs.Objects.{Object, IsStore}
use Rattle.path_trees.specs.Levels.{IsRefused, IsTaken}
use Rattle.path_trees.specs.declared.found.TreeFault.{TreeFault}
use Rattle.stage_nodes.specs.declared.nodes.Nodes.{Nodes}
use Rattle.stage_nodes.specs.declared.nodes.Content.TheVariants.{Held, Open}
use Rattle.stage_nodes.specs.declared.nodes.Link.TheVariants.{First}
use Rattle.stage_nodes.specs.Forests.{Forest, Nil, Bin, IsFilled, Reads}
use Rattle.stage_nodes.specs.Frames.{Frame, Below, plug, ReadsUp}
use Rattle.stage_nodes.specs.Pools.{hanging}
use Rattle.stage_nodes.specs.Leaves.{leaf_in, is_held}
use Rattle.stage_nodes.specs.Ways.{IsHere, IsOpen, kids_of}
use Rattle.stage_nodes.specs.Closing.{AreTips, children_body, HasTips, CanClose, IsClosedAt, IsDeepest, IsStoring, IsStoringFault, IsStoredAt}
use Rattle.stage_nodes.proofs.OnWay.{place_hangs}
use Rattle.stage_nodes.proofs.Turning.{here_in}
use Rattle.stage_nodes.proofs.Storing.{IsFullForest, dir_tips, dir_fault, dir_storing, dir_open, dir_map, dir_held, storing_none}

module _ (S : List Object) (s : Nodes) (o : IsOpen S s) (st : IsStore S) (k : ℕ) (h : IsDeepest s k) where
  abbrev inner : List Frame
  inner = Below k h.component h.siblings ∷ h.frames

  inside_here : (j : Option ℕ) × IsHere (is_held S) s.names.items s.cells.items 0 inner j h.children
  inside_here = here_in S s o inner h.children h.whole

  hangs : hanging s (First k) ≡ h.children
  hangs = place_hangs S s o.directory inner inside_here.0 h.children inside_here.1.reads_up inside_here.1.reads h.whole

  whole : plug inner (hanging s (First k)) ≡ kids_of s
  whole = ap (plug inner) hangs ∙ h.whole

  tips : AreTips (hanging s (First k))
  tips = subst AreTips (sym hangs) h.tips

  outer : (j : Option ℕ) × IsHere (is_held S) s.names.items s.cells.items 0 h.frames j (Bin k h.component Open h.children h.siblings)
  outer = here_in S s o h.frames (Bin k h.component Open h.children h.siblings) h.whole

  filled : (K : Forest) → IsFilled Open K → IsFullForest K
  filled Nil g = g
  filled (Bin i c x l r) g = tt

  full : IsFullForest (hanging s (First k))
  full = subst IsFullForest (sym hangs) (filled h.children outer.1.sound.0.filled)

  pub deepest_tips : HasTips (is_held S) s k
  deepest_tips = dir_tips S s o st k inner refl whole (λ c. tt) tips

  pub deepest_fault : (S' : List Object) → S' ≡ S → (e : TreeFault) → IsRefused S (children_body (hanging s (First k))) e → IsStoringFault S S' s e
  deepest_fault = dir_fault S s o st k inner refl whole (λ c. tt) tips (inr full)

  pub deepest_refused : (S' : List Object) → S' ≡ S → IsStoring S S' s s
  deepest_refused S' same = subst (λ (R : List Object). IsStoring S R s s) (sym same) (storing_none S s st o)

  module _ (S' : List Object) (st' : IsStore S') (taken : IsTaken S (children_body (hanging s (First k))) S') (n : Name) (named : n.0 ≡ name Tree (children_body (hanging s (First k)))) where
    opened : IsOpen S' s
    opened = dir_open S s o st k inner refl whole (λ c. tt) tips (inr full) S' st' taken

    abbrev node : Forest
    node = Bin k h.component Open h.children h.siblings

    there : (j : Option ℕ) × IsHere (is_held S') s.names.items s.cells.items 0 h.frames j node
    there = here_in S' s opened h.frames node h.whole

    pub can_close : CanClose s k n
    can_close = record {
      objects = S';
      opened = opened;
      frames = h.frames;
      component = h.component;
      children = h.children;
      siblings = h.siblings;
      around = subst (λ (j : Option ℕ). ReadsUp s.names.items s.cells.items 0 h.frames j) there.1.reads.number there.1.reads_up;
      reads = subst (λ (j : Option ℕ). Reads s.names.items s.cells.items j node) there.1.reads.number there.1.reads;
      sound_up = there.1.sound_up;
      sound = there.1.sound;
      fits = there.1.fits;
      whole = h.whole;
      held = ap (λ (m : Bytes). is_held S' (Held (record { mode = Dir; name = record { 0 = m } }))) named ∙ dir_held S s o st k inner refl whole (λ c. tt) tips (inr full) S' st' taken full;
      leaves = λ p. ap (λ (F : Forest). leaf_in S' F p) (sym hangs) ∙ dir_map S s o st k inner refl whole (λ c. tt) tips (inr full) S' st' taken p ∙ ap (λ (m : Bytes). at (Rattle.object_store.specs.Unfolding.flat S' m) p) (sym named);
    }

    pub is_stored_at : (s' : Nodes) → IsClosedAt s s' k n can_close → IsStoredAt S S' s s' k h
    unfolding can_close
    is_stored_at s' g =
        let before = dir_storing S s o st k inner refl whole (λ c. tt) tips (inr full) S' st' taken in
        record {
          storing = record {
            store = st';
            newer = before.newer;
            above = before.above;
            trees = before.trees;
            opened = g.opened;
            leaves = λ p. g.leaves p ∙ before.leaves p;
          };
          name = n;
          whole = sym g.whole;
        }

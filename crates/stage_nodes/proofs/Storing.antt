-- A directory whose children are leaves and stored directories is taken in.
use Rattle.std.proofs.Common.{◌≡◌, ℕ, ◌⊎◌, inl, inr, true, false, cond, not, List, [], ◌∷◌, ◌++◌, Option, Some, None, refl, sym, ap, subst, ◌∙◌, append_assoc, le_refl}
use Rattle.git_objects.specs.Paths.{Bytes, Path, is_nil}
use Rattle.git_objects.specs.Trees.{Flat, IsTree, at, under}
use Rattle.git_objects.specs.Names.{name, body, depth, line}
use Rattle.git_objects.specs.Entries.{body_text}
use Rattle.git_objects.specs.declared.entry.Entry.{Entry}
use Rattle.git_objects.specs.declared.kind.Kind.TheVariants.{Tree}
use Rattle.git_objects.specs.declared.mode.Mode.{Mode}
use Rattle.git_objects.specs.declared.mode.Mode.TheVariants.{File, Exec, Link as LinkMode, Module, Dir}
use Rattle.git_objects.proofs.Basics.{and_both}
use Rattle.git_objects.proofs.Digests.{name-is_name}
use Rattle.git_objects.proofs.Maps.{same_flat}
use Rattle.git_objects.proofs.Under.{at-under, at-under_nil, under-tree}
use Rattle.object_store.specs.Objects.{Object, IsStore}
use Rattle.object_store.specs.Unfolding.{flat, StandsFor}
use Rattle.object_store.proofs.Unfolding.{IsFlat}
use Rattle.path_trees.specs.Listed.{changed, dropped, inserted, is_before, named}
use Rattle.path_trees.specs.Levels.{IsRefused, IsTaken}
use Rattle.path_trees.specs.Made.{AreMade, IsTreeFault}
use Rattle.path_trees.specs.declared.found.TreeFault.{TreeFault}
use Rattle.path_trees.specs.declared.found.TreeFault.TheVariants.{Collision, OutOfMemory}
use Rattle.path_trees.proofs.Climbs.{made_append}
use Rattle.path_trees.proofs.Grown.{joined_in}
use Rattle.path_trees.proofs.Levels.{at-joined_nil}
use Rattle.path_trees.proofs.Taken.{IsIn, taken}
use Rattle.path_trees.proofs.Trees.{AreGood, good_flat}
use Rattle.stage_nodes.specs.declared.nodes.Nodes.{Nodes}
use Rattle.stage_nodes.specs.declared.nodes.Content.TheVariants.{Held, Open}
use Rattle.stage_nodes.specs.declared.nodes.Link.{Link}
use Rattle.stage_nodes.specs.declared.nodes.Link.TheVariants.{First}
use Rattle.stage_nodes.specs.Forests.{Forest, Nil, Bin, Sound, is_link, target}
use Rattle.stage_nodes.specs.Frames.{Frame, plug, link_of, path_of, Fits}
use Rattle.stage_nodes.specs.Pools.{Walks, hanging}
use Rattle.stage_nodes.specs.Leaves.{leaf_in, is_held}
use Rattle.stage_nodes.specs.Ways.{IsHere, IsOpen, kids_of}
use Rattle.stage_nodes.specs.Branches.{Stands}
use Rattle.stage_nodes.specs.Closing.{HasDirectory, AreTips, gathered, children_body, HasTips, IsStoring, IsStoringFault}
use Rattle.stage_nodes.proofs.Closing.{gathered_good, gathered_leaf, sound-above, leaf-above}
use Rattle.stage_nodes.proofs.Leaves.{leaf_plug}
use Rattle.stage_nodes.proofs.OnWay.{place_link, place_walk}
use Rattle.stage_nodes.proofs.Turning.{here_in}

-- ---- the nodes over a store that has grown

pub open-above : (newer S : List Object) (s : Nodes) → IsStore (newer ++ S) → IsOpen S s → IsOpen (newer ++ S) s
open-above newer S s st o = record { alone = o.alone; directory = o.directory; sound = sound-above newer S st (kids_of s) o.sound; covers = o.covers }

pub storing_none : (S : List Object) (s : Nodes) → IsStore S → IsOpen S s → IsStoring S S s s
storing_none S s st o = record { store = st; newer = []; above = refl; trees = λ t h g. tt; opened = o; leaves = λ p. refl }

pub stands_on : (S S' : List Object) (s s' : Nodes) (t : Flat) → IsStoring S S' s s' → Stands S s t → Stands S' s' t
stands_on S S' s s' t h g p = h.leaves p ∙ g p

pub storing_on : (S S' S'' : List Object) (s s' s'' : Nodes) → IsStoring S S' s s' → IsStoring S' S'' s' s'' → IsStoring S S'' s s''
storing_on S S' S'' s s' s'' h g = record {
  store = g.store;
  newer = g.newer ++ h.newer;
  above = append_assoc g.newer h.newer S ∙ ap (λ (R : List Object). g.newer ++ R) h.above ∙ g.above;
  trees = λ t tree stands. made_append (HasDirectory t) g.newer h.newer (g.trees t tree (stands_on S S' s s' t h stands)) (h.trees t tree stands);
  opened = g.opened;
  leaves = λ p. g.leaves p ∙ h.leaves p;
}

-- ---- a body with an entry

line_full : (m : Mode) (c n more : Bytes) → is_nil (line m c n ++ more) ≡ false
unfolding line
line_full File c n more = refl
line_full Exec c n more = refl
line_full LinkMode c n more = refl
line_full Module c n more = refl
line_full Dir c n more = refl

abbrev IsListed : List Entry → Type 0
IsListed [] = ⊥
IsListed (e ∷ es) = Unit

listed_full : (es : List Entry) → IsListed es → is_nil (body_text es) ≡ false
listed_full [] h = absurd h
listed_full (e ∷ es) h = line_full e.mode e.component e.name.0 (body_text es)

listed_more : (a : Entry) (es : List Entry) → IsListed (inserted a es)
listed_more a [] = tt
listed_more a (e ∷ es) = elim (is_before a e) as (λ b. IsListed (cond b (a ∷ e ∷ es) (e ∷ inserted a es))) [ true ↦ tt | false ↦ tt ]

abbrev pub IsFullForest : Forest → Type 0
IsFullForest Nil = ⊥
IsFullForest (Bin k c x l r) = Unit

listed_on : (K : Forest) (es : List Entry) → AreTips K → IsListed es → IsListed (gathered es K)
listed_on Nil es t h = h
listed_on (Bin k c (Held f) l r) es t h = listed_on r (changed c (Some f) es) t (listed_more (named c f) (dropped c es))
listed_on (Bin k c Open l r) es t h = absurd t

gathered_full : (K : Forest) → AreTips K → IsFullForest K → IsListed (gathered [] K)
gathered_full Nil t h = absurd h
gathered_full (Bin k c (Held f) l r) t h = listed_on r (changed c (Some f) []) t (listed_more (named c f) [])
gathered_full (Bin k c Open l r) t h = absurd t

made_same : (P Q : Bytes → Type 0) (os : List Object) → ((b : Bytes) → P b → Q b) → AreMade P os → AreMade Q os
made_same P Q [] f h = tt
made_same P Q (o ∷ os) f h = (h.0, f o.body h.1, made_same P Q os f h.2)

-- ---- one directory

module _ (S : List Object) (s : Nodes) (o : IsOpen S s) (st : IsStore S) (d : ℕ) (frames : List Frame) (at_dir : First d ≡ link_of 0 frames) (whole : plug frames (hanging s (First d)) ≡ kids_of s) (fits : (c : Bytes) → Fits frames c) (tips : AreTips (hanging s (First d))) where
  abbrev K : Forest
  K = hanging s (First d)

  abbrev es : List Entry
  es = gathered [] K

  abbrev b : Bytes
  b = children_body K

  here : (j : Option ℕ) × IsHere (is_held S) s.names.items s.cells.items 0 frames j K
  here = here_in S s o frames K whole

  pub dir_tips : HasTips (is_held S) s d
  dir_tips = record {
    link = ap (is_link s.cells.items) at_dir ∙ place_link S s o.directory frames here.0 K here.1.reads_up here.1.reads whole;
    walk = subst (λ (l : Link). Walks s (target s.cells.items l)) (sym at_dir) (place_walk S s o.directory frames here.0 K here.1.reads_up here.1.reads whole);
    tips = tips;
    sound = here.1.sound;
  }

  pub dir_good : AreGood S es
  dir_good = gathered_good S K [] tips here.1.sound (record { entries = tt; held = tt })

  dir_flat : IsFlat (joined_in S es) b
  dir_flat = good_flat S es st dir_good

  -- its children's leaves are what its tree lists
  dir_leaf : (p : Path) → at (joined_in S es) p ≡ leaf_in S K p
  dir_leaf [] = at-joined_nil S es ∙ none_here K
    where
      none_here : (F : Forest) → None ≡ leaf_in S F []
      none_here Nil = refl
      none_here (Bin k c x l r) = refl
  dir_leaf (c ∷ p) = gathered_leaf S K [] tips here.1.sound (record { entries = tt; held = tt }) c p refl

  -- and so is what lies below its path
  pub dir_under : (t : Flat) → IsTree t → Stands S s t → under t (path_of frames) ≡ joined_in S es
  dir_under t tree stands = same_flat (under t (path_of frames)) (joined_in S es) (under-tree t (path_of frames) tree).sorted dir_flat.tree.sorted by
    where
      by : (p : Path) → at (under t (path_of frames)) p ≡ at (joined_in S es) p
      by [] = at-under_nil t (path_of frames) ∙ sym (at-joined_nil S es)
      by (c ∷ p) =
          at-under t (path_of frames) c p
          ∙ sym (stands (path_of frames ++ c ∷ p))
          ∙ ap (λ (F : Forest). leaf_in S F (path_of frames ++ c ∷ p)) (sym whole)
          ∙ leaf_plug S (is_held S) frames K c p here.1.sound_up (fits c)
          ∙ sym (dir_leaf (c ∷ p))

  pub has_dir : (path_of frames ≡ []) ⊎ IsFullForest K → (t : Flat) → IsTree t → Stands S s t → HasDirectory t b
  unfolding body
  has_dir full t tree stands = record {
    path = path_of frames;
    there = by full;
    body = ap body (dir_under t tree stands) ∙ dir_flat.bodied (depth (joined_in S es)) (le_refl (depth (joined_in S es)));
  }
    where
      not_nil : (u : Flat) → Rattle.object_store.proofs.Unfolding.IsFull u → is_nil u ≡ false
      not_nil [] h = absurd h
      not_nil (e ∷ u) h = refl

      by : (path_of frames ≡ []) ⊎ IsFullForest K → (path_of frames ≡ []) ⊎ (is_nil (under t (path_of frames)) ≡ false)
      by (inl e) = inl e
      by (inr f) = inr (ap is_nil (dir_under t tree stands) ∙ not_nil (joined_in S es) (dir_flat.full (listed_full es (gathered_full K tips f))))

  pub dir_fault : (path_of frames ≡ []) ⊎ IsFullForest K → (S' : List Object) → S' ≡ S → (e : TreeFault) → IsRefused S b e → IsStoringFault S S' s e
  dir_fault full S' same e h t tree stands = subst (λ (R : List Object). IsTreeFault (HasDirectory t) R e) (sym same) (by e h)
    where
      by : (e : TreeFault) → IsRefused S b e → IsTreeFault (HasDirectory t) S e
      by (Collision n) h = record { body = b; is_made = has_dir full t tree stands; held = h }
      by OutOfMemory h = tt

  module _ (full : (path_of frames ≡ []) ⊎ IsFullForest K) (S' : List Object) (st' : IsStore S') (h : IsTaken S b S') where
    pub dir_in : IsIn (λ v. v ≡ b) S S' b (joined_in S es)
    dir_in = taken (λ v. v ≡ b) S S' b es st refl dir_good refl h

    store_above : IsStore (dir_in.newer ++ S)
    store_above = subst IsStore (sym dir_in.above) st'

    pub dir_open : IsOpen S' s
    dir_open = subst (λ (R : List Object). IsOpen R s) dir_in.above (open-above dir_in.newer S s store_above o)

    pub leaf_grown : (F : Forest) (p : Path) → Sound (is_held S) F → leaf_in S' F p ≡ leaf_in S F p
    leaf_grown F p g = subst (λ (R : List Object). leaf_in R F p ≡ leaf_in S F p) dir_in.above (leaf-above dir_in.newer S store_above F p g)

    pub dir_storing : IsStoring S S' s s
    dir_storing = record {
      store = st';
      newer = dir_in.newer;
      above = dir_in.above;
      trees = λ t tree stands. made_same (λ v. v ≡ b) (HasDirectory t) dir_in.newer (λ v e. subst (HasDirectory t) (sym e) (has_dir full t tree stands)) dir_in.trees;
      opened = dir_open;
      leaves = λ p. leaf_grown (kids_of s) p o.sound;
    }

    pub dir_stands : (t : Flat) → IsTree t → Stands S s t → StandsFor S' (name Tree b) (under t (path_of frames))
    dir_stands t tree stands = record { held = dir_in.held; map = dir_in.map ∙ sym (dir_under t tree stands) }

    pub dir_map : (p : Path) → leaf_in S' K p ≡ at (flat S' (name Tree b)) p
    dir_map p = leaf_grown K p here.1.sound ∙ sym (dir_leaf p) ∙ ap (λ (u : Flat). at u p) (sym dir_in.map)

    pub dir_held : IsFullForest K → is_held S' (Held (record { mode = Dir; name = record { 0 = name Tree b } })) ≡ true
    dir_held f = and_both (and_both dir_in.held (ap (λ (v : Bytes). not (is_nil v)) dir_in.body ∙ ap not (listed_full es (gathered_full K tips f)))) (name-is_name Tree b)

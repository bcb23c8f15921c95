-- What is found, put at a place of its own, from the innermost directory out.
use Rattle.std.proofs.Common.{◌≡◌, ℕ, zero, suc, ◌+◌, ◌<◌, ◌≤◌, true, ◌⊎◌, inl, inr, List, [], ◌∷◌, ◌++◌, length, drop, get_or, Contains, Some, None, refl, sym, ap, subst, ◌∙◌, arith, append-nil, add-one}
use Rattle.std.proofs.Math.Seq.{drop-cons}
use Rattle.git_objects.specs.Lists.{Each}
use Rattle.git_objects.specs.Paths.{Bytes, Path, is_component}
use Rattle.git_objects.specs.Trees.{Leaf, Flat, IsTree, rests}
use Rattle.git_objects.specs.Names.{name, body, depth}
use Rattle.git_objects.specs.Entries.{body_text, is_dir}
use Rattle.git_objects.specs.Bodies.{is_name}
use Rattle.git_objects.specs.declared.entry.Entry.{Entry}
use Rattle.git_objects.specs.declared.kind.Kind.TheVariants.{Tree}
use Rattle.git_objects.specs.declared.mode.Mode.TheVariants.{Dir}
use Rattle.git_objects.specs.declared.name.Name.{Name}
use Rattle.git_objects.proofs.Digests.{name-is_name}
use Rattle.object_store.specs.Objects.{Object, IsStore, has, has_child}
use Rattle.object_store.specs.Puts.{of_body}
use Rattle.object_store.specs.Unfolding.{flat, below, StandsFor}
use Rattle.object_store.specs.Hands.{IsTreeOver, IsLeafOf, IsComponentOf}
use Rattle.object_store.specs.Growth.{IsGrownBy}
use Rattle.object_store.proofs.Growth.{grown_self, grown_then}
use Rattle.object_store.proofs.Unfolding.{IsFull}
use Rattle.path_trees.specs.Standing.{node}
use Rattle.path_trees.specs.Levels.{IsTaken, IsRefused}
use Rattle.path_trees.specs.Listed.{named}
use Rattle.path_trees.specs.Made.{IsTreeFault}
use Rattle.path_trees.specs.Walked.{behind}
use Rattle.path_trees.specs.declared.found.Found.{Found}
use Rattle.path_trees.specs.declared.found.TreeFault.{TreeFault}
use Rattle.path_trees.specs.declared.found.TreeFault.TheVariants.{Collision, OutOfMemory}
use Rattle.path_trees.proofs.Apart.{rests_full}
use Rattle.path_trees.proofs.Grown.{joined_in}
use Rattle.path_trees.proofs.Trees.{AreGood, good-changed, good_fits, good_flat}
use Rattle.path_trees.proofs.Taken.{taken}
use Rattle.filter_apply.specs.Faults.{IsApplyFault, fault_of}
use Rattle.filter_apply.specs.Hands.{IsPlacedObject}
use Rattle.filter_apply.proofs.Members.{later_in, in-each, each-app, in-map, in-flat_map}
use Rattle.filter_apply.proofs.Overs.{AreOver, fault_over, grown_over}
use Rattle.filter_apply.proofs.Places.{dir_node, dir_held, full-child}

-- ---- maps behind a path

below-behind : (c : Bytes) (q : Path) (t : Flat) → below c (behind q t) ≡ behind (c ∷ q) t
below-behind c q [] = refl
below-behind c q (e ∷ t) = ap (λ (us : Flat). (c ∷ (q ++ e.0), e.1) ∷ us) (below-behind c q t)

behind-nothing : (t : Flat) → behind [] t ≡ t
behind-nothing [] = refl
behind-nothing (e ∷ t) = ap (λ (us : Flat). e ∷ us) (behind-nothing t)

full-below : (c : Bytes) (t : Flat) → IsFull t → IsFull (below c t)
full-below c [] f = f
full-below c (e ∷ t) f = tt

-- the parts of what is put behind the ends of a path
each-behind : (P : Path × Leaf → Type 0) (q : Path) (t : Flat) → Each (λ e. P (q ++ e.0, e.1)) t → Each P (behind q t)
each-behind P q [] h = tt
each-behind P q (e ∷ t) h = (h.0, each-behind P q t h.1)

pub in_drop : (k : ℕ) (p : Path) (c : Bytes) → Contains (drop k p) c → Contains p c
in_drop zero p c h = h
in_drop (suc k) [] c h = h
in_drop (suc k) (d ∷ p) c h = later_in d p c (in_drop k p c h)

behind_over : (p : Path) (t : Flat) (k : ℕ) → IsTree (behind (drop k p) t) → IsTreeOver (IsLeafOf t) (λ c. IsComponentOf t c ⊎ Contains p c) (behind (drop k p) t)
behind_over p t k h = record {
  tree = h;
  all_leaves = each-behind (λ e. IsLeafOf t e.1) (drop k p) t (in-each (λ e. IsLeafOf t e.1) t (λ e i. in-map (λ (d : Path × Leaf). d.1) t e i));
  all_components = each-behind (λ e. Each (λ c. IsComponentOf t c ⊎ Contains p c) e.0) (drop k p) t (in-each (λ e. Each (λ c. IsComponentOf t c ⊎ Contains p c) (drop k p ++ e.0)) t (λ e i.
      each-app (λ c. IsComponentOf t c ⊎ Contains p c) (drop k p) e.0
      (in-each (λ c. IsComponentOf t c ⊎ Contains p c) (drop k p) (λ c j. inr (in_drop k p c j)))
      (in-each (λ c. IsComponentOf t c ⊎ Contains p c) e.0 (λ c j. inl (in-flat_map (λ (d : Path × Leaf). d.0) t e c i j)))));
}

-- ---- one turn

pub record IsPlacing (S0 : List Object) (p : Path) (t : Flat) (level : ℕ) (S : List Object) (f : Found) : Type 0 where
  pub grown : IsGrownBy (IsPlacedObject p t) S0 S
  pub held : has_child S f.mode f.name.0 ≡ true
  pub name : is_name f.name.0 ≡ true
  pub map : rests (node S f) ≡ behind (drop level p) t

drop-all : (q : Path) (k : ℕ) → length q ≤ k → drop k q ≡ []
drop-all [] zero h = refl
drop-all [] (suc k) h = refl
drop-all (c ∷ q) zero h = absurd (omega arith)
drop-all (c ∷ q) (suc k) h = drop-all q k (omega arith)

pub first_placing : (S : List Object) (p : Path) (f : Found) → IsStore S → has_child S f.mode f.name.0 ≡ true → is_name f.name.0 ≡ true → IsPlacing S p (rests (node S f)) (length p) S f
first_placing S p f s h n = record {
  grown = grown_self (IsPlacedObject p (rests (node S f))) S s;
  held = h;
  name = n;
  map = sym (ap (λ q. behind q (rests (node S f))) (drop-all p (length p) (omega arith)) ∙ behind-nothing (rests (node S f)));
}

module _ (S0 : List Object) (p : Path) (t : Flat) (level : ℕ) (S : List Object) (f : Found) (placing : IsPlacing S0 p t level S f) (k : ℕ) (next : level ≡ k + 1) (l : k < length p) (c : Bytes) (valid : is_component c ≡ true) (e : c ≡ get_or p k c) (b : Bytes) (text : b ≡ body_text (named c f ∷ [])) where
  abbrev es : List Entry
  es = named c f ∷ []

  good : AreGood S es
  good = good-changed S c (Some f) [] valid (record { child = placing.held; name = placing.name }) (record { entries = tt; held = tt })

  pub line_fits : of_body S Tree b None ≡ None
  line_fits = ap (λ t. of_body S Tree t None) text ∙ good_fits S es good

  part-map : joined_in S es ≡ behind (drop k p) t
  part-map =
      append-nil (below c (rests (node S f)))
      ∙ ap (below c) placing.map
      ∙ below-behind c (drop level p) t
      ∙ ap (λ q. behind q t) (sym (drop-cons p k c l ∙ (λ i. sym e i ∷ drop ((sym (add-one k) ∙ sym next) i) p)))

  part-tree : IsTree (behind (drop k p) t)
  part-tree = subst IsTree part-map (good_flat S es placing.grown.store good).tree

  part-body : body (behind (drop k p) t) ≡ b
  unfolding body
  part-body =
      ap body (sym part-map)
      ∙ (good_flat S es placing.grown.store good).bodied (depth (joined_in S es)) (omega arith)
      ∙ sym text

  hand : AreOver (IsLeafOf t) (λ c. IsComponentOf t c ⊎ Contains p c) (λ a. a ≡ b)
  hand a same = (behind (drop k p) t, behind_over p t k part-tree, part-body ∙ sym same)

  pub line_grown : (S' : List Object) → IsStore S' → IsTaken S b S' → IsGrownBy (IsPlacedObject p t) S0 S'
  line_grown S' s h =
      let i = taken (λ a. a ≡ b) S S' b es placing.grown.store text good refl h in
      grown_then (IsPlacedObject p t) S0 S S' placing.grown
      (grown_over (IsLeafOf t) (λ c. IsComponentOf t c ⊎ Contains p c) (λ a. a ≡ b) S S' hand (record { store = s; newer = i.newer; above = i.above; trees = i.trees }))

  pub line_placed : (S' : List Object) → IsStore S' → IsTaken S b S' → (n : Name) → n.0 ≡ name Tree b → IsPlacing S0 p t k S' (record { mode = Dir; name = n })
  line_placed S' s h n same =
      let i = taken (λ a. a ≡ b) S S' b es placing.grown.store text good refl h in
      let there : has Tree S' n.0 ≡ true = ap (has Tree S') same ∙ i.held in
      let map : flat S' n.0 ≡ joined_in S es = ap (flat S') same ∙ i.map in
      let full : IsFull (flat S' n.0) = subst IsFull (sym (map ∙ append-nil (below c (rests (node S f))))) (full-below c (rests (node S f)) (rests_full S placing.grown.store f.mode f.name.0 placing.held)) in
      record {
        grown = line_grown S' s h;
        held = full-child S' n.0 s there full;
        name = ap is_name same ∙ name-is_name Tree b;
        map = map ∙ part-map;
      }

  pub line_refused : (S' : List Object) (x : TreeFault) → S' ≡ S → IsRefused S b x → IsApplyFault (IsPlacedObject p t) S' (fault_of x)
  line_refused S' x same r = subst (λ (R : List Object). IsApplyFault (IsPlacedObject p t) R (fault_of x)) (sym same) (fault_over (IsLeafOf t) (λ c. IsComponentOf t c ⊎ Contains p c) (λ a. a ≡ b) S x hand (by x r))
    where
      by : (x : TreeFault) → IsRefused S b x → IsTreeFault (λ a. a ≡ b) S x
      by (Collision n) r = record { body = b; is_made = refl; held = r }
      by OutOfMemory r = tt

  pub line_kept : (S' : List Object) → S' ≡ S → IsGrownBy (IsPlacedObject p t) S0 S'
  line_kept S' same = subst (IsGrownBy (IsPlacedObject p t) S0) (sym same) placing.grown

-- the end
pub all_placed : (S0 : List Object) (p : Path) (t : Flat) (S : List Object) (f : Found) → IsPlacing S0 p t 0 S f → is_dir f.mode ≡ true → StandsFor S f.name.0 (behind p t)
all_placed S0 p t S f g d = record {
  held = dir_held S f.mode f.name.0 d g.held;
  map = ap rests (sym (dir_node S f.mode f.name.0 d)) ∙ g.map;
}

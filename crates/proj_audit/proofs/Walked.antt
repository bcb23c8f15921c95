-- What a walk reads of objects is what the tree has, unless two objects have one name.
use Rattle.std.proofs.Common.{◌≡◌, ℕ, zero, suc, Bool, true, false, cond, ◌&&◌, ◌||◌, ◌⊎◌, inl, inr, List, [], ◌∷◌, map, refl, sym, ap, subst, ◌∙◌, Option, Some, None, arith, true≢false}
use Rattle.std.specs.Prelude.{Contains, Ok}
use Rattle.std.specs.Option.{option_map}
use Rattle.std.specs.Cmp.Lexicographic.{bytes_decides}
use Rattle.std.proofs.lemmas.List.Elements.{Contains-append_right}
use Rattle.std.proofs.lemmas.Option.{none-some, same_Some}
use Rattle.git_objects.specs.Paths.{Bytes, Path, same_bytes, is_path}
use Rattle.git_objects.specs.Trees.{Leaf, FileLeaf, ExecLeaf, LinkLeaf, ModuleLeaf, Flat, IsTree, at, under}
use Rattle.git_objects.specs.Names.{name, body, body_within, tree_name, tops, depth}
use Rattle.git_objects.specs.Bodies.{tree_entries}
use Rattle.git_objects.specs.declared.kind.Kind.TheVariants.{Tree}
use Rattle.git_objects.proofs.Basics.{same_bytes-self}
use Rattle.git_objects.proofs.Bodies.{depth-under, body-within}
use Rattle.git_objects.proofs.Pointwise.{all_at, at_apart, each_at}
use Rattle.git_objects.proofs.Tops.{mode_at, name_at, entry_of, entries, listed}
use Rattle.git_objects.proofs.TreeReading.{spelled_law}
use Rattle.git_objects.proofs.Under.{at-under, under-tree}
use Rattle.object_store.specs.Objects.{Object, find_named}
use Rattle.proj_audit.specs.Readings.{Found, Reading, entry_at, leaf_from, in_directory, at_entry, tree_named, leaf_below}
use Rattle.object_store.specs.Hands.{tree_object}
use Rattle.proj_audit.specs.Laws.{found_of, IsPart, Whole, Collides}
use Rattle.proj_audit.proofs.Parts.{both-done, read-done, same-or, wider, part-under, at-contains, each-in}

-- ---- the entry of a component

none_in : {A : Type 0} (d : A) → Contains [] d → ⊥
none_in d (k, h, e) = omega arith

module _ (n : ℕ) (t : Flat) (c : Bytes) where
  -- it is there exactly where the component is
  abbrev pub IsLooked : List Bytes → Type 0
  IsLooked ds =
      ((Contains ds c) × (entry_at c (map (entry_of n t) ds) ≡ Some (entry_of n t c)))
      ⊎ ((Contains ds c → ⊥) × (entry_at c (map (entry_of n t) ds) ≡ None))

  pub looked : (ds : List Bytes) → IsLooked ds
  looked [] = inr (none_in c, refl)
  looked (d ∷ ds) = by (same_bytes c d) refl (looked ds)
    where
      first_or : (b : Bool) → same_bytes c d ≡ b → (Contains ds c → ⊥) → b ≡ false → Contains (d ∷ ds) c → ⊥
      first_or b h g e (zero, l, s) = true≢false (sym ((bytes_decides c d).1 (sym s)) ∙ h ∙ e)
      first_or b h g e (suc k, l, s) = g (k, omega arith, s)

      by : (b : Bool) → same_bytes c d ≡ b → IsLooked ds →
          ((Contains (d ∷ ds) c) × (cond b (Some (entry_of n t d)) (entry_at c (map (entry_of n t) ds)) ≡ Some (entry_of n t c)))
          ⊎ ((Contains (d ∷ ds) c → ⊥) × (cond b (Some (entry_of n t d)) (entry_at c (map (entry_of n t) ds)) ≡ None))
      by true h later = let same = (bytes_decides c d).0 h in inl ((0, omega arith, sym same), ap (λ x. Some (entry_of n t x)) (sym same))
      by false h (inl g) = inl (Contains-append_right (d ∷ []) ds c g.0, g.1)
      by false h (inr g) = inr (first_or false h g.0 refl, g.1)

-- ---- leaves

pub leaf-from : (w : Option Leaf) (n : Bytes) → leaf_from (mode_at w) (name_at w n) ≡ option_map found_of w
leaf-from None n = refl
leaf-from (Some (FileLeaf b)) n = refl
leaf-from (Some (ExecLeaf b)) n = refl
leaf-from (Some (LinkLeaf b)) n = refl
leaf-from (Some (ModuleLeaf m)) n = refl

-- below a leaf nothing is
below-leaf : (x : Leaf) (n : Bytes) (walk : Bytes → Reading (Option Found)) (o : Option Found) →
    (in_directory (mode_at (Some x)) n walk).outcome ≡ Ok o → o ≡ None
below-leaf (FileLeaf b) n walk o e = let same : None ≡ o = cc in sym same
below-leaf (ExecLeaf b) n walk o e = let same : None ≡ o = cc in sym same
below-leaf (LinkLeaf b) n walk o e = let same : None ≡ o = cc in sym same
below-leaf (ModuleLeaf m) n walk o e = let same : None ≡ o = cc in sym same

pub no_leaf-below : (t : Flat) → IsTree t → (c d : Bytes) (p : Path) (x : Leaf) → at t (c ∷ []) ≡ Some x → at t (c ∷ d ∷ p) ≡ None
no_leaf-below t h c d p x e = by (at t (c ∷ d ∷ p)) refl
  where
    longer : c ∷ [] ≡ c ∷ d ∷ p → ⊥
    longer k = cc

    by : (o : Option Leaf) → at t (c ∷ d ∷ p) ≡ o → o ≡ None
    by None g = refl
    by (Some y) g =
        absurd (longer (at_apart t h.apart (c ∷ []) (c ∷ d ∷ p) x y e g (ap (λ b. (b && true) || (same_bytes c c && false)) (same_bytes-self c))))

-- a directory has a path
pub some-under : (t : Flat) → IsTree t → (c : Bytes) → Contains (tops t) c → at t (c ∷ []) ≡ None → under t (c ∷ []) ≡ [] → ⊥
some-under t h c k e z = by (((listed t h).firsts c).0 k)
  where
    by : (q : Path) × (x : Leaf) × Contains t (c ∷ q, x) → ⊥
    by ([], x, g) = none-some x (sym e ∙ each-in (λ d. at t d.0 ≡ Some d.1) t (c ∷ [], x) (each_at t h.sorted) g)
    by (f ∷ q, x, g) =
        none-some x (sym (ap (λ (s : Flat). at s (f ∷ q)) z) ∙ at-under t (c ∷ []) f q
        ∙ each-in (λ d. at t d.0 ≡ Some d.1) t (c ∷ f ∷ q, x) (each_at t h.sorted) g)

pub no_path : (t : Flat) → IsTree t → (c : Bytes) (p : Path) → (Contains (tops t) c → ⊥) → at t (c ∷ p) ≡ None
no_path t h c p k = by (at t (c ∷ p)) refl
  where
    by : (o : Option Leaf) → at t (c ∷ p) ≡ o → o ≡ None
    by None e = refl
    by (Some x) e = absurd (k (((listed t h).firsts c).1 (p, x, at-contains t (c ∷ p) x e)))

pub no_root : (t : Flat) → IsTree t → at t [] ≡ None
no_root t h = by (at t []) refl
  where
    by : (o : Option Leaf) → at t [] ≡ o → o ≡ None
    by None e = refl
    by (Some x) e = absurd (all_at is_path t [] x h.paths e)

-- ---- walks

module _ (os : List Object) where
  -- what was told is what is there, or two objects collide
  abbrev pub Told : Flat → Option Leaf → Option Found → Type 0
  Told t w o = (o ≡ option_map found_of w) ⊎ Collides os (IsPart t)

  abbrev Walks : Path → Type 0
  Walks p = (t : Flat) (o : Option Found) → IsTree t → (leaf_below os (tree_name t) p).outcome ≡ Ok o → Told t (at t p) o

  -- where the first component is a directory's or a leaf's
  there : (c : Bytes) (p : Path) (t : Flat) (o : Option Found) → IsTree t → Walks p → Contains (tops t) c →
      (at_entry (Some (entry_of (depth t) t c)) p (λ m. leaf_below os m p)).outcome ≡ Ok o → Told t (at t (c ∷ p)) o
  there c [] t o h rec k e =
      let same : leaf_from (mode_at (at t (c ∷ []))) (name_at (at t (c ∷ [])) (name Tree (body_within (depth t) (under t (c ∷ []))))) ≡ o = cc in
      inl (sym same ∙ leaf-from (at t (c ∷ [])) (name Tree (body_within (depth t) (under t (c ∷ [])))))
  there c (d ∷ p) t o h rec k e = by (at t (c ∷ [])) refl e
    where
      named : name Tree (body_within (depth t) (under t (c ∷ []))) ≡ tree_name (under t (c ∷ []))
      named = ap (name Tree) (body-within (depth t) (under t (c ∷ [])) (depth-under (depth t) t c (omega arith)))

      by : (w : Option Leaf) → at t (c ∷ []) ≡ w →
          (in_directory (mode_at w) (name_at w (name Tree (body_within (depth t) (under t (c ∷ []))))) (λ m. leaf_below os m (d ∷ p))).outcome
          ≡ Ok o →
          Told t (at t (c ∷ d ∷ p)) o
      by (Some x) i g = inl (below-leaf x _ _ o g ∙ ap (option_map found_of) (sym (no_leaf-below t h c d p x i)))
      by None i g = elim (rec (under t (c ∷ [])) o (under-tree t (c ∷ []) h) (subst (λ m. (leaf_below os m (d ∷ p)).outcome ≡ Ok o) named g)) [
        | inl s ↦ inl (s ∙ ap (option_map found_of) (at-under t (c ∷ []) d p))
        | inr x ↦ inr (wider os (IsPart (under t (c ∷ []))) (IsPart t) (λ own. part-under t c own (some-under t h c k i)) x)
      ]

  at-entries : (c : Bytes) (p : Path) (t : Flat) (o : Option Found) → IsTree t → Walks p →
      (at_entry (entry_at c (entries t)) p (λ m. leaf_below os m p)).outcome ≡ Ok o → Told t (at t (c ∷ p)) o
  at-entries c p t o h rec e = by (looked (depth t) t c (tops t))
    where
      by : IsLooked (depth t) t c (tops t) → Told t (at t (c ∷ p)) o
      by (inl g) = there c p t o h rec g.0 (subst (λ w. (at_entry w p (λ m. leaf_below os m p)).outcome ≡ Ok o) g.1 e)
      by (inr g) =
          let nothing : Ok None ≡ Ok o = subst (λ w. (at_entry w p (λ m. leaf_below os m p)).outcome ≡ Ok o) g.1 e in
          let same : None ≡ o = cc in
          inl (sym same ∙ ap (option_map found_of) (sym (no_path t h c p g.0)))

  pub walked : (p : Path) (t : Flat) (o : Option Found) → IsTree t → (leaf_below os (tree_name t) p).outcome ≡ Ok o → Told t (at t p) o
  walked [] t o h e = let same : None ≡ o = cc in inl (sym same ∙ ap (option_map found_of) (sym (no_root t h)))
  walked (c ∷ p) t o h e =
      let b = both-done (tree_named os (tree_name t)) (λ es. at_entry (entry_at c es) p (λ m. leaf_below os m p)) o e in
      let r = read-done Tree tree_entries (tree_name t) (find_named os (tree_name t)) b.0 b.1 in
      elim (same-or os (IsPart t) (tree_object t) r.object (Whole refl) r.is_it r.kind) [
        | inl s ↦
            let same = same_Some b.0 (entries t) (sym r.value ∙ ap tree_entries s ∙ spelled_law (body t) (entries t) (listed t h).body) in
            at-entries c p t o h (walked p) (subst (λ es. (at_entry (entry_at c es) p (λ m. leaf_below os m p)).outcome ≡ Ok o) same b.2)
        | inr x ↦ inr x
      ]

-- From one directory that is stored to the next, and the root's last.
use Rattle.std.proofs.Common.{◌≡◌, ℕ, ◌+◌, ◌<◌, inl, true, false, true≢false, length, List, [], ◌∷◌, ◌++◌, IfOk, IfErr, Result, Ok, Err, refl, sym, ap, subst, ◌∙◌, arith}
use Rattle.git_objects.specs.Paths.{Bytes}
use Rattle.git_objects.specs.Trees.{Flat, IsTree}
use Rattle.git_objects.specs.Names.{name}
use Rattle.git_objects.specs.declared.kind.Kind.TheVariants.{Tree}
use Rattle.git_objects.specs.declared.mode.Mode.TheVariants.{Dir}
use Rattle.git_objects.specs.declared.name.Name.{Name}
use Rattle.object_store.specs.Objects.{Object, IsStore}
use Rattle.object_store.specs.Unfolding.{StandsFor}
use Rattle.path_trees.specs.Levels.{IsRefused, IsTaken}
use Rattle.path_trees.specs.declared.found.TreeFault.{TreeFault}
use Rattle.path_trees.proofs.Lookups.{under_nil}
use Rattle.stage_nodes.specs.declared.nodes.Nodes.{Nodes}
use Rattle.stage_nodes.specs.declared.nodes.Content.TheVariants.{Held, Open}
use Rattle.stage_nodes.specs.declared.nodes.Link.TheVariants.{Next}
use Rattle.stage_nodes.specs.Forests.{Forest, Nil, Bin}
use Rattle.stage_nodes.specs.Frames.{Frame, Below, Behind, plug}
use Rattle.stage_nodes.specs.Leaves.{is_held}
use Rattle.stage_nodes.specs.Ways.{kids_of}
use Rattle.stage_nodes.specs.Branches.{Stands}
use Rattle.stage_nodes.specs.Closing.{AreTips, TipsUp, HasTips, IsTurn, IsTurned, IsDeepest, IsStoring, IsStoringFault, IsStoredAt, children_body, numbers_of, opens}
use Rattle.stage_nodes.proofs.Storing.{dir_tips, dir_fault, dir_storing, dir_stands, storing_on, stands_on}

-- ---- the last directory that was entered

pub record IsLast (s : Nodes) (front : List ℕ) (k : ℕ) : Type 0 where
  pub deepest : IsDeepest s k
  pub entered : numbers_of deepest.frames ≡ front
  pub passed : TipsUp deepest.frames

nothing_in : {A : Type 0} (xs : List A) (x : A) → xs ++ x ∷ [] ≡ [] → ⊥
nothing_in [] x h = cc
nothing_in (y ∷ xs) x h = cc

same_last : (xs ys : List ℕ) (x y : ℕ) → xs ++ x ∷ [] ≡ ys ++ y ∷ [] → (xs ≡ ys) × (x ≡ y)
same_last [] [] x y h = (refl, cc)
same_last [] (z ∷ ys) x y h = absurd (nothing_in ys y (let e : [] ≡ ys ++ y ∷ [] = cc in sym e))
same_last (z ∷ xs) [] x y h = absurd (nothing_in xs x (let e : xs ++ x ∷ [] ≡ [] = cc in e))
same_last (z ∷ xs) (w ∷ ys) x y h =
    let r = same_last xs ys x y (let e : xs ++ x ∷ [] ≡ ys ++ y ∷ [] = cc in e) in
    let f : z ≡ w = cc in
    ((λ i. f i ∷ r.0 i), r.1)

climb : (s : Nodes) (up : List Frame) (X : Forest) (front : List ℕ) (k : ℕ) → plug up X ≡ kids_of s → TipsUp up → AreTips X → front ++ k ∷ [] ≡ numbers_of up → IsLast s front k
climb s [] X front k w t x e = absurd (nothing_in front k e)
climb s (Below i c r ∷ up) X front k w t x e =
    let m = same_last front (numbers_of up) k i e in
    record {
      deepest = record { frames = up; component = c; children = X; siblings = r; whole = (λ j. plug up (Bin (m.1 j) c Open X r)) ∙ w; tips = x };
      entered = sym m.0;
      passed = t;
    }
climb s (Behind i c (Held f) l ∷ up) X front k w t x e = climb s up (Bin i c (Held f) l X) front k w t x e
climb s (Behind i c Open l ∷ up) X front k w t x e = absurd t

pub turned_last : (s : Nodes) (entered front : List ℕ) (k : ℕ) → IsTurned s entered → entered ≡ front ++ k ∷ [] → IsLast s front k
turned_last s entered front k t e = climb s t.turn.frames Nil front k (ap (plug t.turn.frames) (sym t.end) ∙ t.turn.whole) t.turn.tips tt (sym e ∙ t.turn.entered_are)

pub turn_closed : (S S' : List Object) (s s' : Nodes) (front : List ℕ) (k : ℕ) (l : IsLast s front k) → IsStoredAt S S' s s' k l.deepest → IsTurn s' front (Next k)
turn_closed S S' s s' front k l g = record {
  frames = Behind k l.deepest.component (Held (record { mode = Dir; name = g.name })) Nil ∷ l.deepest.frames;
  rest = l.deepest.siblings;
  whole = g.whole;
  link_is = refl;
  entered_are = sym l.entered;
  tips = l.passed;
}

-- ---- fewer directories are open

abbrev opens_up : List Frame → ℕ
opens_up [] = 0
opens_up (Below k c r ∷ up) = opens r + 1 + opens_up up
opens_up (Behind k c (Held f) l ∷ up) = opens_up up
opens_up (Behind k c Open l ∷ up) = opens l + 1 + opens_up up

opens_plug : (up : List Frame) (X : Forest) → opens (plug up X) ≡ opens_up up + opens X
opens_plug [] X = omega arith
opens_plug (Below k c r ∷ up) X = opens_plug up (Bin k c Open X r) ∙ omega arith
opens_plug (Behind k c (Held f) l ∷ up) X = opens_plug up (Bin k c (Held f) l X) ∙ omega arith
opens_plug (Behind k c Open l ∷ up) X = opens_plug up (Bin k c Open l X) ∙ omega arith

tips_closed : (K : Forest) → AreTips K → opens K ≡ 0
tips_closed Nil t = refl
tips_closed (Bin k c (Held f) l r) t = tips_closed r t
tips_closed (Bin k c Open l r) t = absurd t

pub fewer_open : (S S' : List Object) (s s' : Nodes) (k : ℕ) (h : IsDeepest s k) → IsStoredAt S S' s s' k h → opens (kids_of s') < opens (kids_of s)
fewer_open S S' s s' k h g =
    omega (arith, tips_closed h.children h.tips, opens_plug h.frames (Bin k h.component (Held (record { mode = Dir; name = g.name })) Nil h.siblings), opens_plug h.frames (Bin k h.component Open h.children h.siblings), ap opens g.whole, ap opens h.whole)

-- ---- the root

root_tips : (up : List Frame) (X : Forest) → TipsUp up → AreTips X → [] ≡ numbers_of up → AreTips (plug up X)
root_tips [] X t x e = x
root_tips (Below k c r ∷ up) X t x e = absurd (nothing_in (numbers_of up) k (sym e))
root_tips (Behind k c (Held f) l ∷ up) X t x e = root_tips up (Bin k c (Held f) l X) t x e
root_tips (Behind k c Open l ∷ up) X t x e = absurd t

pub turned_root : (s : Nodes) (entered : List ℕ) → IsTurned s entered → entered ≡ [] → AreTips (kids_of s)
turned_root s entered t e = subst AreTips (ap (plug t.turn.frames) (sym t.end) ∙ t.turn.whole) (root_tips t.turn.frames Nil t.turn.tips tt (sym e ∙ t.turn.entered_are))

module _ (S0 S : List Object) (s0 s : Nodes) (g : IsStoring S0 S s0 s) (tips : AreTips (kids_of s)) where
  pub root_has_tips : HasTips (is_held S) s 0
  root_has_tips = dir_tips S s g.opened g.store 0 [] refl refl (λ c. tt) tips

  pub root_fault : (S' : List Object) → S' ≡ S → (e : TreeFault) → IsRefused S (children_body (kids_of s)) e → IsStoringFault S0 S' s0 e
  root_fault S' same e h t tree stands = dir_fault S s g.opened g.store 0 [] refl refl (λ c. tt) tips (inl refl) S' same e h t tree (stands_on S0 S s0 s t g stands)

  pub root_storing : (S' : List Object) → IsStore S' → IsTaken S (children_body (kids_of s)) S' → IsStoring S0 S' s0 s
  root_storing S' st h = storing_on S0 S S' s0 s s g (dir_storing S s g.opened g.store 0 [] refl refl (λ c. tt) tips (inl refl) S' st h)

  pub root_stands : (S' : List Object) → IsStore S' → IsTaken S (children_body (kids_of s)) S' → (n : Name) → n.0 ≡ name Tree (children_body (kids_of s)) → (t : Flat) → IsTree t → Stands S0 s0 t → StandsFor S' n.0 t
  root_stands S' st h n e t tree stands =
      subst (λ (m : Bytes). StandsFor S' m t) (sym e)
      (subst (StandsFor S' (name Tree (children_body (kids_of s)))) (under_nil t tree)
      (dir_stands S s g.opened g.store 0 [] refl refl (λ c. tt) tips (inl refl) S' st h t tree (stands_on S0 S s0 s t g stands)))

-- nothing was popped
pub none_popped : (xs : List ℕ) (n : ℕ) → n ≡ length xs → (0 < n → false ≡ true) → xs ≡ []
none_popped [] n e h = refl
none_popped (x ∷ xs) n e h = absurd (true≢false (sym (h (omega (arith, e)))))

-- ---- whatever was answered

pub on_ok : {A E : Type 0} (r : Result A E) {P Q : A → Type 0} → ((x : A) → P x → Q x) → IfOk r P → IfOk r Q
on_ok (Ok x) f h = f x h
on_ok (Err e) f h = tt

pub on_err : {A E : Type 0} (r : Result A E) {P Q : E → Type 0} → ((e : E) → P e → Q e) → IfErr r P → IfErr r Q
on_err (Ok x) f h = tt
on_err (Err e) f h = f e h

pub either : {A E : Type 0} (r : Result A E) {P : A → Type 0} {Q : E → Type 0} {R : Type 0} → ((x : A) → P x → R) → ((e : E) → Q e → R) → IfOk r P → IfErr r Q → R
either (Ok x) f g h i = f x h
either (Err e) f g h i = g e i

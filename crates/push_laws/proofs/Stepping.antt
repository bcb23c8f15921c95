-- One accepted commit of a push.
use Rattle.std.specs.Prelude.{◌≡◌, refl, Bool, true, false, not, ◌&&◌, cond, [], ◌∷◌, find, is_some, is_none, Option, Some, None, Ok, Err}
use Rattle.std.specs.Option.{option_map, option_and_then, option_map_or}
use Rattle.std.proofs.Common.{ap, ◌∙◌, sym, true≢false}
use Rattle.std.proofs.lemmas.Bool.{or_parts}
use Rattle.std.proofs.lemmas.Option.{none-some, same_Some}
use Rattle.git_objects.specs.Paths.{Path, is_path, same_bytes, same_path}
use Rattle.git_objects.specs.Trees.{Leaf, Flat, IsTree, at, same_leaf}
use Rattle.git_objects.proofs.Pointwise.{leaf-is}
use Rattle.git_objects.specs.Names.{tree_name}
use Rattle.git_objects.specs.declared.quantity.Quantity.{Quantity}
use Rattle.git_objects.proofs.Order.{path_decides}
use Rattle.git_objects.proofs.Pointwise.{from-T, all_at}
use Rattle.filter_text.specs.Filters.{Filter}
use Rattle.filter_routes.specs.Images.{image}
use Rattle.filter_routes.specs.Lenses.{seen_through}
use Rattle.filter_routes.specs.Origins.{lens_of}
use Rattle.workspace.specs.Laws.{IsUsable}
use Rattle.workspace.specs.Workspaces.{place, with_leaf, resolve, shown, shown_place, next}
use Rattle.filter_unapply.specs.Laying.{differs_at, is_unseen, unseen, laid, Laid, LaidTree, NotHeld, Blocked}
use Rattle.push_laws.specs.PushVerdicts.{NoChange, BadWorkspace, same_found, same_place, is_changed, is_bad, is_bad_workspace, passed, judged, original_tree, tree_upon, TreeLimit}
use Rattle.push_laws.specs.PushLaws.{next_place, NextLaw, IsStep, StepLaw}
use Rattle.filter_unapply.proofs.LayingLemmas.{the_law as laying}
use Rattle.workspace.proofs.Usable.{place-path, with-usable}

-- ---- filters for trees are usable

pub resolve-usable : (f : Filter) (t : Flat) → IsUsable f → IsUsable (resolve f t)
unfolding resolve
resolve-usable f t h = with-usable f (option_and_then (at t) (place f)) h

pub next-usable : (f : Filter) (t n : Flat) → IsUsable f → IsUsable (next f t n)
unfolding next
next-usable f t n h = by (shown_place f t)
  where
    by : (o : Option Path) → IsUsable (option_map_or (λ q. with_leaf f (at n q)) o (resolve f t))
    by None = resolve-usable f t h
    by (Some q) = with-usable f (at n q) h

-- ---- the filter that is asked for next

-- the leaf that u has at the workspace place is the one by which the next filter was made
next-at : (f : Filter) (t n u : Flat) → IsUsable f → IsTree t → IsTree n → laid f t n ≡ LaidTree u → next_place f t n ≡ shown_place f t →
    (p : Path) → place f ≡ Some p → (o : Option Path) → shown_place f t ≡ o → with_leaf f (at u p) ≡ option_map_or (λ q. with_leaf f (at n q)) o (resolve f t)
unfolding resolve next
next-at f t n u h v w e k p i None j =
    let same : next f t n ≡ resolve f t = ap (λ o. option_map_or (λ q. with_leaf f (at n q)) o (resolve f t)) j in
    let none : image (next f t n) p ≡ None = ap (option_and_then (image (next f t n))) (sym i) ∙ k ∙ j in
    ap (with_leaf f) (laying.hidden (next f t n) t n u p (next-usable f t n h).paths (next-usable f t n h).sound v w e none) ∙ ap (λ o. with_leaf f (option_and_then (at t) o)) (sym i)
next-at f t n u h v w e k p i (Some q) j =
    let some : image (next f t n) p ≡ Some q = ap (option_and_then (image (next f t n))) (sym i) ∙ k ∙ j in
    ap (with_leaf f) (laying.laid_at (next f t n) t n u p q (next-usable f t n h).paths (next-usable f t n h).sound v w e (place-path f p h i) some)

pub next-law : NextLaw
unfolding resolve next
next-law f t n u h v w e k = by (place f) refl
  where
    by : (o : Option Path) → place f ≡ o → resolve f u ≡ next f t n
    by None i =
        ap (λ o. with_leaf f (option_and_then (at u) o)) i ∙ ap (λ o. with_leaf f (option_and_then (at t) o)) (sym i)
        ∙ ap (λ o. option_map_or (λ q. with_leaf f (at n q)) (option_and_then (image (resolve f t)) o) (resolve f t)) (sym i)
    by (Some p) i = ap (λ o. with_leaf f (option_and_then (at u) o)) i ∙ next-at f t n u h v w e k p i (shown_place f t) refl

-- ---- tests as equations

found-is : (o o' : Option Leaf) → same_found o o' ≡ true → o ≡ o'
found-is None None e = refl
found-is (Some x) (Some y) e = ap Some (leaf-is x y e)
found-is None (Some y) e = absurd (true≢false (sym e))
found-is (Some x) None e = absurd (true≢false (sym e))

place-is : (o o' : Option Path) → same_place o o' ≡ true → o ≡ o'
place-is None None e = refl
place-is (Some p) (Some q) e = ap Some ((path_decides p q).0 e)
place-is None (Some q) e = absurd (true≢false (sym e))
place-is (Some p) None e = absurd (true≢false (sym e))

not-false-is : (b : Bool) → not b ≡ false → b ≡ true
not-false-is true e = refl
not-false-is false e = absurd (true≢false e)

-- ---- a step

-- the parts of an acceptance
pub record IsAccepted (f : Filter) (t n u : Flat) : Type 0 where
  pub workspace : is_bad_workspace f t n ≡ false
  pub whole : unseen (resolve f t) (next f t n) t n ≡ None
  pub is_laid : laid f t n ≡ LaidTree u
  pub small : passed u ≡ None

limits-are : (u v : Flat) (o : Option Quantity) → option_map_or (λ q. Err (TreeLimit q)) o (Ok u) ≡ Ok v → (u ≡ v) × (o ≡ None)
limits-are u v None e = (cc, refl)
limits-are u v (Some q) e = cc

judged-are : (o : Option Path) (l : Laid) (u : Flat) → judged o l ≡ Ok u → (o ≡ None) × (l ≡ LaidTree u) × (passed u ≡ None)
judged-are (Some p) l u e = cc
judged-are None (NotHeld q) u e = cc
judged-are None (Blocked p q) u e = cc
judged-are None (LaidTree v) u e =
    let k : (v ≡ u) × (passed v ≡ None) = limits-are v u (passed v) e in
    (refl, ap LaidTree k.0, ap passed (sym k.0) ∙ k.1)

pub accepted : (f : Filter) (t seen n u : Flat) → original_tree f t seen n ≡ Ok u → IsAccepted f t n u
accepted f t seen n u = by (same_bytes (tree_name n) (tree_name seen)) (is_bad_workspace f t n) refl
  where
    by : (a b : Bool) → is_bad_workspace f t n ≡ b → cond a (Err NoChange) (cond b (Err BadWorkspace) (judged (unseen (resolve f t) (next f t n) t n) (laid f t n))) ≡ Ok u → IsAccepted f t n u
    by true b i e = cc
    by false true i e = cc
    by false false i e =
        let k : (unseen (resolve f t) (next f t n) t n ≡ None) × (laid f t n ≡ LaidTree u) × (passed u ≡ None) = judged-are (unseen (resolve f t) (next f t n) t n) (laid f t n) u e in
        record { workspace = i; whole = k.0; is_laid = k.1; small = k.2 }

-- the workspace's file is shown where it was
stays-at : (f : Filter) (t n : Flat) (o : Option Path) → shown_place f t ≡ o → option_map_or (λ q. is_changed f t n q && is_bad f t n q) o false ≡ false → next_place f t n ≡ shown_place f t
unfolding resolve next
stays-at f t n None i e = ap (λ o. option_and_then (image (option_map_or (λ q. with_leaf f (at n q)) o (resolve f t))) (place f)) i
stays-at f t n (Some q) i e = by (is_changed f t n q) refl e
  where
    by : (b : Bool) → is_changed f t n q ≡ b → (b && is_bad f t n q) ≡ false → next_place f t n ≡ shown_place f t
    by true j k = place-is (next_place f t n) (Some q) (not-false-is (same_place (next_place f t n) (Some q)) (or_parts _ (not (same_place (next_place f t n) (Some q))) k).1) ∙ sym i
    by false j k =
        let same : at n q ≡ option_and_then (at t) (place f) = found-is (at n q) (option_and_then (at t) (place f)) (not-false-is (same_found (at n q) (option_and_then (at t) (place f))) j) in
        let again : next f t n ≡ resolve f t = ap (λ o. option_map_or (λ q. with_leaf f (at n q)) o (resolve f t)) i ∙ ap (with_leaf f) same in
        ap (λ r. option_and_then (image r) (place f)) again

-- nothing passes where none is found
none-found : {A : Type 0} (g : A → Path) (o : Option A) → option_map g o ≡ None → o ≡ None
none-found g None e = refl
none-found g (Some x) e = absurd (none-some (g x) (sym e))

passes-at : (test : Path × Leaf → Bool) (d : Path × Leaf) (t : Flat) (p : Path) (x : Leaf) → (find test t ≡ None → at t p ≡ Some x → test (p, x) ≡ false)
    → (b : Bool) → test d ≡ b → (c : Bool) → same_path p d.0 ≡ c → cond b (Some d) (find test t) ≡ None → cond c (Some d.1) (at t p) ≡ Some x → test (p, x) ≡ false
passes-at test d t p x h true i c j e k = absurd (none-some d (sym e))
passes-at test d t p x h false i true j e k = (λ l. test ((path_decides p d.0).0 j l, sym (same_Some d.1 x k) l)) ∙ i
passes-at test d t p x h false i false j e k = h e k

passes-none : (test : Path × Leaf → Bool) (t : Flat) → find test t ≡ None → (p : Path) (x : Leaf) → at t p ≡ Some x → test (p, x) ≡ false
passes-none test [] e p x k = absurd (none-some x k)
passes-none test (d ∷ t) e p x k = passes-at test d t p x (λ f g. passes-none test t f p x g) (test d) refl (same_path p d.0) refl e k

-- what only the next filter shows is pushed as it stands
seen-at : (r r2 : Filter) (t n : Flat) → unseen r r2 t n ≡ None → (p q : Path) (x : Leaf) → at t p ≡ Some x → image r p ≡ None → image r2 p ≡ Some q → at n q ≡ Some x
seen-at r r2 t n e p q x k i j =
    by (at n q) refl
    (sym (ap (λ o. option_map_or (differs_at n x) o false) j) ∙ sym (ap (λ o. is_none o && option_map_or (differs_at n x) (image r2 p) false) i)
    ∙ passes-none (is_unseen r r2 n) t (none-found {A = Path × Leaf} (λ d. d.0) (find (is_unseen r r2 n) t) e) p x k)
  where
    by : (o : Option Leaf) → at n q ≡ o → differs_at n x q ≡ false → o ≡ Some x
    by None l m = absurd (true≢false (sym (ap (λ o. option_map_or (λ y. not (same_leaf x y)) o true) l) ∙ m))
    by (Some y) l m = ap Some (sym (leaf-is x y (not-false-is (same_leaf x y) (sym (ap (λ o. option_map_or (λ y. not (same_leaf x y)) o true) l) ∙ m))))

there : {A : Type 0} (o : Option A) → is_some o ≡ true → (x : A) × (o ≡ Some x)
there None e = absurd (true≢false (sym e))
there (Some x) e = (x, refl)

-- what is accepted is a step
pub accepted-step : (f : Filter) (t n u : Flat) → IsUsable f → IsTree t → IsTree n → IsAccepted f t n u → IsStep f t n u
unfolding shown
accepted-step f t n u h v w k =
    let r2 : Filter = next f t n in
    let g : IsUsable r2 = next-usable f t n h in
    let again : resolve f u ≡ r2 = next-law f t n u h v w k.is_laid (stays-at f t n (shown_place f t) refl k.workspace) in
    record {
      resolved = again;
      tree = laying.tree r2 t n u g.paths g.sound v w k.is_laid;
      shown_again = ap (λ r. seen_through (lens_of r) u) again ∙ laying.shown_again r2 t n u g.paths g.sound v w k.is_laid;
      hidden_now = λ p i. laying.hidden r2 t n u p g.paths g.sound v w k.is_laid (ap (λ r. image r p) (sym again) ∙ i);
      hidden_before = λ p s i. before k g p (there (at t p) s) i (image r2 p) refl;
    }
  where
    before : IsAccepted f t n u → IsUsable (next f t n) → (p : Path) → (x : Leaf) × (at t p ≡ Some x) → image (resolve f t) p ≡ None → (o : Option Path) → image (next f t n) p ≡ o → at u p ≡ at t p
    before k g p x i None j = laying.hidden (next f t n) t n u p g.paths g.sound v w k.is_laid j
    before k g p x i (Some q) j =
        laying.laid_at (next f t n) t n u p q g.paths g.sound v w k.is_laid (from-T (is_path p) (all_at is_path t p x.0 v.paths x.1)) j
        ∙ seen-at (resolve f t) (next f t n) t n k.whole p q x.0 x.1 i j ∙ sym x.1

pub step-law : StepLaw
step-law f t seen n u h v w e = accepted-step f t n u h v w (accepted f t seen n u e)

-- the same where the change itself wasn't asked for
pub accepted-upon : (f : Filter) (t n u : Flat) → tree_upon f t n ≡ Ok u → IsAccepted f t n u
accepted-upon f t n u = by (is_bad_workspace f t n) refl
  where
    by : (b : Bool) → is_bad_workspace f t n ≡ b → cond b (Err BadWorkspace) (judged (unseen (resolve f t) (next f t n) t n) (laid f t n)) ≡ Ok u → IsAccepted f t n u
    by true i e = cc
    by false i e =
        let k : (unseen (resolve f t) (next f t n) t n ≡ None) × (laid f t n ≡ LaidTree u) × (passed u ≡ None) = judged-are (unseen (resolve f t) (next f t n) t n) (laid f t n) u e in
        record { workspace = i; whole = k.0; is_laid = k.1; small = k.2 }

pub upon-step : (f : Filter) (t n u : Flat) → IsUsable f → IsTree t → IsTree n → tree_upon f t n ≡ Ok u → IsStep f t n u
upon-step f t n u h v w e = accepted-step f t n u h v w (accepted-upon f t n u e)

-- What comes of laying a pushed tree, and what a ground keeps.
use Rattle.std.proofs.Common.{◌≡◌, Bool, true, false, cond, List, [], ◌∷◌, Option, Some, None, Result, Ok, Err, IfOk, IfErr, IsOkAnd, refl, sym, ap, subst, ◌∙◌}
use Rattle.std.specs.Option.{is_none, option_map, option_map_or}
use Rattle.std.proofs.lemmas.Option.{same_Some}
use Rattle.git_objects.specs.Paths.{Bytes, Path, same_bytes}
use Rattle.git_objects.specs.Trees.{Flat, Leaf}
use Rattle.git_objects.specs.Names.{tree_name}
use Rattle.git_objects.specs.declared.kind.Kind.TheVariants.{Tree}
use Rattle.git_objects.specs.declared.name.Name.{Name}
use Rattle.git_objects.specs.declared.quantity.Quantity.{Quantity}
use Rattle.object_store.specs.Growth.{IsGrownBy}
use Rattle.object_store.specs.Objects.{Object, IsStore, has}
use Rattle.object_store.specs.Unfolding.{StandsFor, flat}
use Rattle.object_store.proofs.Growth.{clash_as, grown_self}
use Rattle.object_store.proofs.Unfolding.{unfolding_law}
use Rattle.filter_text.specs.Filters.{Filter}
use Rattle.filter_text.specs.Shapes.{shape}
use Rattle.filter_routes.specs.Images.{image}
use Rattle.filter_routes.specs.Interned.{HasAt}
use Rattle.filter_routes.specs.TableValues.{Table}
use Rattle.filter_routes.specs.Origins.{lens_of}
use Rattle.std.specs.Prelude.{find, slice_get, ℕ, ◌&&◌}
use Rattle.filter_unapply.specs.Hands.{IsFaultBy, IsLaidMade}
use Rattle.filter_unapply.specs.Laying.{Laid, LaidTree, NotHeld as LaidNotHeld, Blocked as LaidBlocked, differs_at, is_unseen, laid_through, unseen}
use Rattle.filter_unapply.specs.Stored.{IsLaidTree}
use Rattle.filter_unapply.specs.declared.fault.LayFault.{LayFault}
use Rattle.filter_unapply.specs.declared.fault.LayFault.TheVariants as lay
use Rattle.projection_ground.specs.Grounds.{AreInFront, IsGround}
use Rattle.projection_ground.specs.declared.ground.Ground.{Ground}
use Rattle.projection_ground.proofs.Growing.{extends-as, extends-self, extends-then, ground-tables}
use Rattle.history_ground.proofs.TakenTurns.{extends-store}
use Rattle.workspace.specs.Workspaces.{next, resolve}
use Rattle.push_laws.specs.PushVerdicts.{Refusal, is_bad_workspace, judged, original_tree, passed, tree_upon}
use Rattle.push_laws.specs.PushVerdicts as verdicts
use Rattle.push_back.specs.Originals.{Grows}
use Rattle.push_back.specs.Refusals.{IsRefusedBy, IsTreeAnswer, of_lay}
use Rattle.push_back.specs.declared.refusal.TreeRefusal.{TreeRefusal}
use Rattle.push_back.specs.declared.refusal.TreeRefusal.TheVariants.{NoChange, BadWorkspace, Unseen, NotHeld, Blocked, TreeLimit, Collision, OutOfMemory}

-- ---- refusals

pub refused-as : (P Q : Refusal → Type 0) (made more : Object → Type 0) (S : List Object) → ((r : Refusal) → P r → Q r) → ((o : Object) → made o → more o)
    → (e : TreeRefusal) → IsRefusedBy P made S e → IsRefusedBy Q more S e
refused-as P Q made more S f g NoChange h = f verdicts.NoChange h
refused-as P Q made more S f g BadWorkspace h = f verdicts.BadWorkspace h
refused-as P Q made more S f g (Unseen p) h = f (verdicts.Unseen p) h
refused-as P Q made more S f g (NotHeld q) h = f (verdicts.NotHeld q) h
refused-as P Q made more S f g (Blocked p q) h = f (verdicts.Blocked p q) h
refused-as P Q made more S f g (TreeLimit q) h = f (verdicts.TreeLimit q) h
refused-as P Q made more S f g (Collision n) h = clash_as made more S n.0 g h
refused-as P Q made more S f g OutOfMemory h = tt

-- a call that ended at once
pub nothing-made : (v : Result Flat Refusal) (made : Object → Type 0) (S : List Object) (r : Result Name TreeRefusal) (e : TreeRefusal) → IsStore S → r ≡ Err e → IsRefusedBy (λ x. v ≡ Err x) made S e → IsTreeAnswer v made S S r
nothing-made v made S r e s q h = record {
  ok = subst (λ x. IfOk x (λ n. IsOkAnd v (StandsFor S n.0))) (sym q) tt;
  err = subst (λ x. IfErr x (IsRefusedBy (λ x. v ≡ Err x) made S)) (sym q) h;
  grown = grown_self made S s;
}

-- ---- nothing is unseen through one filter

is-seen : (r : Filter) (n : Flat) (e : Path × Leaf) → is_unseen r r n e ≡ false
is-seen r n e = by (image r e.0)
  where
    by : (o : Option Path) → (is_none o && option_map_or (differs_at n e.1) o false) ≡ false
    by None = refl
    by (Some q) = refl

none-found : (r : Filter) (t n : Flat) → find (is_unseen r r n) t ≡ None
none-found r [] n = refl
none-found r (e ∷ t) n = ap (λ (b : Bool). cond b (Some e) (find (is_unseen r r n) t)) (is-seen r n e) ∙ none-found r t n

pub unseen-self : (r : Filter) (t n : Flat) → unseen r r t n ≡ None
unseen-self r t n = ap (λ (o : Option (Path × Leaf)). option_map (λ (e : Path × Leaf). e.0) o) (none-found r t n)

-- ---- laying

module _ (made : Object → Type 0) (S : List Object) (o : Option Path) (none : o ≡ None) where
  refused-lay : (l : Laid) (e : LayFault) → IsFaultBy l made S e → IsRefusedBy (λ r. judged o l ≡ Err r) made S (of_lay e)
  refused-lay l (lay.NotHeld q) h = λ i. judged (none i) (h i)
  refused-lay l (lay.Blocked p q) h = λ i. judged (none i) (h i)
  refused-lay l (lay.Collision n) h = h
  refused-lay l lay.OutOfMemory h = tt

  pub lay-failed : (l : Laid) (S' : List Object) (r : Result Name TreeRefusal) (e : LayFault) → IsGrownBy made S' S → r ≡ Err (of_lay e) → IsFaultBy l made S e → IsTreeAnswer (judged o l) made S' S r
  lay-failed l S' r e g q h = record {
    ok = subst (λ x. IfOk x (λ n. IsOkAnd (judged o l) (StandsFor S n.0))) (sym q) tt;
    err = subst (λ x. IfErr x (IsRefusedBy (λ y. judged o l ≡ Err y) made S)) (sym q) (refused-lay l e h);
    grown = g;
  }

  abbrev limited : Option Quantity → Flat → Result Flat Refusal
  limited q u = option_map_or (λ q. Err (verdicts.TreeLimit q)) q (Ok u)

  within : (l : Laid) (n : Name) → IsLaidTree S l n → None ≡ passed (flat S n.0) → IsOkAnd (judged o l) (StandsFor S n.0)
  within (LaidTree u) n h k =
      let e : judged o (LaidTree u) ≡ Ok u = ap (λ (x : Option Path). judged x (LaidTree u)) none ∙ ap (λ x. limited x u) (ap passed (sym h.map) ∙ sym k) in
      subst (λ v. IsOkAnd v (StandsFor S n.0)) (sym e) h
  within (LaidNotHeld q) n h k = absurd h
  within (LaidBlocked p q) n h k = absurd h

  beyond : (l : Laid) (n : Name) (q : Quantity) → IsLaidTree S l n → Some q ≡ passed (flat S n.0) → judged o l ≡ Err (verdicts.TreeLimit q)
  beyond (LaidTree u) n q h k = ap (λ (x : Option Path). judged x (LaidTree u)) none ∙ ap (λ x. limited x u) (ap passed (sym h.map) ∙ sym k)
  beyond (LaidNotHeld p) n q h k = absurd h
  beyond (LaidBlocked p r) n q h k = absurd h

  pub lay-within : (l : Laid) (S' : List Object) (n : Name) → IsGrownBy made S' S → IsLaidTree S l n → None ≡ passed (flat S n.0) → IsTreeAnswer (judged o l) made S' S (Ok n)
  lay-within l S' n g h k = record { ok = within l n h k; err = tt; grown = g }

  pub lay-beyond : (l : Laid) (S' : List Object) (n : Name) (q : Quantity) → IsGrownBy made S' S → IsLaidTree S l n → Some q ≡ passed (flat S n.0) → IsTreeAnswer (judged o l) made S' S (Err (TreeLimit q))
  lay-beyond l S' n q g h k = record { ok = tt; err = beyond l n q h k; grown = g }

pub judged-unseen : (o : Option Path) (l : Laid) (p : Path) → Some p ≡ o → judged o l ≡ Err (verdicts.Unseen p)
judged-unseen o l p e = ap (λ (x : Option Path). judged x l) (sym e)

-- the store has a tree by the laying
pub laid-held : (S : List Object) (l : Laid) (n : Name) → IsLaidTree S l n → has Tree S n.0 ≡ true
laid-held S (LaidTree u) n h = h.held
laid-held S (LaidNotHeld q) n h = absurd h
laid-held S (LaidBlocked p q) n h = absurd h

-- ---- by tables

pub table-is : (ts : List Table) (f : Filter) (n : ℕ) (t : Table) → HasAt ts f n → Some t ≡ slice_get ts n → shape t.filter ≡ f
table-is ts f n t h e = ap (λ (x : Table). shape x.filter) (same_Some t h.0 (e ∙ h.1)) ∙ h.2

abbrev pub laying : Filter → Filter → Flat → Flat → Result Flat Refusal
laying r r2 t n = judged (unseen r r2 t n) (laid_through (lens_of r2) t n)

pub answer-by : (r r2 k k2 : Filter) (t n : Flat) (S S' : List Object) (x : Result Name TreeRefusal) → k ≡ r → k2 ≡ r2 → IsTreeAnswer (laying k k2 t n) (IsLaidMade k2 t n) S S' x → IsTreeAnswer (laying r r2 t n) (IsLaidMade r2 t n) S S' x
answer-by r r2 k k2 t n S S' x e e2 h = subst (λ (f : Filter). IsTreeAnswer (laying f r2 t n) (IsLaidMade r2 t n) S S' x) e (subst (λ (f : Filter). IsTreeAnswer (laying k f t n) (IsLaidMade f t n) S S' x) e2 h)

-- through one filter nothing is unseen
pub answer-one : (r r2 k : Filter) (t n : Flat) (S S' : List Object) (x : Result Name TreeRefusal) → k ≡ r → k ≡ r2
    → IsTreeAnswer (judged None (laid_through (lens_of k) t n)) (IsLaidMade k t n) S S' x → IsTreeAnswer (laying r r2 t n) (IsLaidMade r2 t n) S S' x
answer-one r r2 k t n S S' x e e2 h =
    answer-by r r2 k k t n S S' x e e2
    (subst (λ (o : Option Path). IsTreeAnswer (judged o (laid_through (lens_of k) t n)) (IsLaidMade k t n) S S' x) (sym (unseen-self k t n)) h)

-- ---- names of trees

pub tree-names : (S : List Object) (a b : Bytes) → IsStore S → has Tree S a ≡ true → has Tree S b ≡ true → same_bytes (tree_name (flat S a)) (tree_name (flat S b)) ≡ same_bytes a b
tree-names S a b s h k = λ i. same_bytes ((unfolding_law S a s h).named i) ((unfolding_law S b s k).named i)

-- ---- grounds

pub grows-self : (made : Object → Type 0) (g : Ground) → IsGround g → Grows made g g
grows-self made g w = record { extends = extends-self made g w; map = refl; memo = refl }

pub grows-then : (made : Object → Type 0) (g h k : Ground) → Grows made g h → Grows made h k → Grows made g k
grows-then made g h k a b = record { extends = extends-then made g h k a.extends b.extends; map = b.map ∙ a.map; memo = b.memo ∙ a.memo }

pub grows-as : (made more : Object → Type 0) (g h : Ground) → ((o : Object) → made o → more o) → Grows made g h → Grows more g h
grows-as made more g h f a = record { extends = extends-as made more g h f a.extends; map = a.map; memo = a.memo }

pub grows-tables : (made : Object → Type 0) (g : Ground) (ts : List Table) → IsGround g → AreInFront g.tables ts → Grows made g (record g { tables = ts })
grows-tables made g ts w a = record { extends = ground-tables made g ts w a; map = refl; memo = refl }

pub grows-store : (made : Object → Type 0) (g k : Ground) → IsGround g → k ≡ record g { store = k.store } → IsGrownBy made g.store k.store → Grows made g k
grows-store made g k w e a =
    subst (λ (x : Ground). Grows made g x) (sym e) (record { extends = extends-store made g k.store w a; map = refl; memo = refl })

-- ---- the tests before laying

module _ (f : Filter) (t n : Flat) where
  abbrev by_file : Bool → Result Flat Refusal
  by_file b = cond b (Err verdicts.BadWorkspace) (laying (resolve f t) (next f t n) t n)

  pub upon-bad : is_bad_workspace f t n ≡ true → tree_upon f t n ≡ Err verdicts.BadWorkspace
  upon-bad e = ap by_file e

  pub upon-laid : is_bad_workspace f t n ≡ false → tree_upon f t n ≡ laying (resolve f t) (next f t n) t n
  upon-laid e = ap by_file e

-- where the tree is another than the one before
pub tree-changed : (f : Filter) (t seen n : Flat) → same_bytes (tree_name n) (tree_name seen) ≡ false → original_tree f t seen n ≡ tree_upon f t n
tree-changed f t seen n e = ap (λ b. cond b (Err verdicts.NoChange) (tree_upon f t n)) e

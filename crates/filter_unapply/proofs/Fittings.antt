-- What stands at a cone's base, put into a part of a tree or taken out of it.
use mathlib.Core.Bool.{beq}
use Rattle.std.proofs.Common.{◌≡◌, Bool, true, false, cond, not, T, List, [], ◌∷◌, Option, Some, None, Result, Ok, Err, refl, sym, ap, ◌∙◌, true≢false}
use Rattle.std.proofs.lemmas.Option.{none-some}
use Rattle.std.specs.Prelude.{filter, if◌then◌else◌, IfOk}
use Rattle.std.specs.FinMap.Entries.{is_sorted-where_key}
use Rattle.git_objects.specs.Names.{body}
use Rattle.object_store.specs.Growth.{IsOnly}
use Rattle.filter_unapply.specs.declared.fault.LayFault.{LayFault}
use Rattle.std.specs.FinMap.{is_sorted}
use Rattle.git_objects.specs.Paths.{Bytes, Path, path_cmp}
use Rattle.git_objects.specs.Trees.{Leaf, Flat, at, IsTree, put, remove, standing}
use Rattle.git_objects.specs.Entries.{is_dir}
use Rattle.git_objects.specs.declared.kind.Kind.TheVariants.{Tree}
use Rattle.git_objects.specs.declared.name.Name.{Name}
use Rattle.git_objects.proofs.Maps.{at-where}
use Rattle.object_store.specs.Objects.{Object}
use Rattle.object_store.specs.Unfolding.{flat, StandsFor}
use Rattle.path_trees.specs.Standing.{node}
use Rattle.path_trees.specs.declared.found.Found.{Found}
use Rattle.decision_lists.specs.Entries.{Entry, cone_of, decide, run}
use Rattle.filter_unapply.specs.StoredLeaves.{HasLeaves}
use Rattle.filter_unapply.specs.Hands.{IsMadeOf}
use Rattle.filter_apply.specs.Founds.{IsFoundAt}
use Rattle.filter_unapply.specs.Sifted.{IsFitting, chosen, fitted, put_back, sifted, stays, taken_out}
use Rattle.filter_unapply.proofs.Places.{leaf_stands}
use Rattle.filter_unapply.proofs.Sieves.{back-directory, back-leaf, directory-absent, leaf-absent, nothing-absent, out-directory, out-leaf}
use Rattle.filter_unapply.proofs.Told.{dir_node, leaf_node}

-- ---- what is found

pub nothing-fits : (S : List Object) (t : Flat) (b : Bool) (s : Path) → None ≡ standing t s → IsFitting S t b s None
nothing-fits S t b s e = nothing-absent b t s (sym e)

pub other-kind : (S : List Object) (t : Flat) (b : Bool) (s : Path) (f : Found) → IsTree t → Some (node S f) ≡ standing t s → is_dir f.mode ≡ b → IsFitting S t b s None
other-kind S t true s f h e i = directory-absent t s (flat S f.name.0) (sym e ∙ ap Some (dir_node S f.mode f.name.0 i))
other-kind S t false s f h e i =
    let x = leaf_node S f.mode f.name.0 i in
    leaf-absent t s x.0 h (leaf_stands t s x.0 (sym e ∙ ap Some x.1))

pub fits : (S : List Object) (t : Flat) (b : Bool) (s : Path) (o : Option Found) → IsTree t → IsFoundAt S t s o → IsFitting S t b s (fitted b o)
fits S t b s None h w = nothing-fits S t b s w.stands
fits S t b s (Some f) h w = by b (is_dir f.mode) refl
  where
    by : (b d : Bool) → is_dir f.mode ≡ d → IsFitting S t b s (if d then (if b then None else Some f) else (if b then Some f else None))
    by true true e = other-kind S t true s f h w.stands e
    by true false e = (sym w.stands, w.held, e)
    by false true e = (sym w.stands, w.held, e)
    by false false e = other-kind S t false s f h w.stands e

-- ---- put into a part of a tree, and taken out of a tree

module _ (S : List Object) (b : Bool) (s : Path) (f : Found) where
  pub put-fits : (t u : Flat) → IsTree t → ((p : Path) (x : Leaf) → at u p ≡ Some x → at t p ≡ Some x) → IsFitting S t b s (Some f) → (q : Path) → at (put u s (node S f)) q ≡ put_back (cone_of b s) t u q
  put-fits t u h w k q = by b k.0 k.2
    where
      by : (b : Bool) → standing t s ≡ Some (node S f) → is_dir f.mode ≡ not b → at (put u s (node S f)) q ≡ put_back (cone_of b s) t u q
      by true e i =
          let x = leaf_node S f.mode f.name.0 i in
          ap (λ n. at (put u s n) q) x.1 ∙ back-leaf t u h w s x.0 (leaf_stands t s x.0 (e ∙ ap Some x.1)) q
      by false e i =
          let n = dir_node S f.mode f.name.0 i in
          ap (λ n. at (put u s n) q) n ∙ back-directory t u h w s (flat S f.name.0) (e ∙ ap Some n) q

  pub out-fits : (u : Flat) → IsTree u → IsFitting S u b s (Some f) → (q : Path) → at (remove u s) q ≡ taken_out (cone_of b s) u q
  out-fits u h k q = by b k.0 k.2
    where
      by : (b : Bool) → standing u s ≡ Some (node S f) → is_dir f.mode ≡ not b → at (remove u s) q ≡ taken_out (cone_of b s) u q
      by true e i =
          let x = leaf_node S f.mode f.name.0 i in
          out-leaf u s x.0 h (leaf_stands u s x.0 (e ∙ ap Some x.1)) q
      by false e i = out-directory u s (flat S f.name.0) (e ∙ ap Some (dir_node S f.mode f.name.0 i)) q

pub leaves-of : (S : List Object) (n : Bytes) (t : Flat) (o : Path → Option Leaf) → StandsFor S n t → ((q : Path) → at t q ≡ o q) → HasLeaves S n o
leaves-of S n t o h f = record { held = h.held; leaves = λ q. ap (λ u. at u q) h.map ∙ f q }

-- ---- the empty tree, in any hand

empty-body : body [] ≡ []
unfolding body
empty-body = refl

pub empty-made : (known : Path → Leaf → Type 0) (o : Object) → IsOnly Tree [] o → IsMadeOf known o
empty-made known o e = record { tree = []; above = []; is_tree = nothing; all_known = λ p x i. absurd (none-some x i); is_object = e ∙ ap (λ b. record { kind = Tree; body = b }) (sym empty-body) }
  where
    nothing : IsTree []
    nothing = record { sorted = tt; paths = tt; leaves = tt; apart = tt }

-- ---- a list asked from its end

pub asked-is : (b : Bool) (o a x : Option Path) (y : Option Leaf) → chosen b a o y (cond (stays b x) y None) ≡ cond (stays b (decide o a x)) y None
asked-is b None a x y = refl
asked-is b (Some r) None x y = refl
asked-is true (Some r) (Some t) x y = refl
asked-is false (Some r) (Some t) x y = refl

pub at-sifted : (b : Bool) (es : List Entry) (t : Flat) (q : Path) → at (sifted b es t) q ≡ cond (stays b (run None es q)) (at t q) None
at-sifted b es t q = at-where (λ p. stays b (run None es p)) t q

pub sorted-sifted : (b : Bool) (es : List Entry) (t : Flat) → T (is_sorted path_cmp t) → T (is_sorted path_cmp (sifted b es t))
sorted-sifted b es t h = is_sorted-where_key path_cmp (λ p. stays b (run None es p)) t h

pub sifted-within : (b : Bool) (es : List Entry) (t : Flat) (q : Path) (x : Leaf) → at (sifted b es t) q ≡ Some x → at t q ≡ Some x
sifted-within b es t q x e = by (stays b (run None es q)) (sym (at-sifted b es t q) ∙ e)
  where
    by : (b : Bool) → cond b (at t q) None ≡ Some x → at t q ≡ Some x
    by true e = e
    by false e = absurd (none-some x e)

sift-all : (t : Flat) → filter (λ e. true) t ≡ t
sift-all [] = refl
sift-all (e ∷ t) = ap (λ u. e ∷ u) (sift-all t)

sift-none : (t : Flat) → filter (λ e. false) t ≡ []
sift-none [] = refl
sift-none (e ∷ t) = sift-none t

pub started : (b : Bool) (t : Flat) → sifted b [] t ≡ (if b then [] else t)
started true t = sift-none t
started false t = sift-all t

pub kind-is : (a b : Bool) → not (beq a b) ≡ false → a ≡ b
kind-is true true e = refl
kind-is false false e = refl
kind-is true false e = absurd (true≢false e)
kind-is false true e = absurd (true≢false e)

pub leaves-as : (S : List Object) (r : Result Name LayFault) (o more : Path → Option Leaf) → ((p : Path) → o p ≡ more p) → IfOk r (λ n. HasLeaves S n.0 o) → IfOk r (λ n. HasLeaves S n.0 more)
leaves-as S (Ok n) o more f h = record { held = h.held; leaves = λ p. h.leaves p ∙ f p }
leaves-as S (Err e) o more f h = tt

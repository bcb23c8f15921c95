-- The filter by which a pushed tree is laid, and whether its workspace's file is bad.
use Rattle.std.proofs.Common.{◌≡◌, ℕ, Bool, true, false, not, ◌&&◌, ◌||◌, List, Option, Some, None, Result, Ok, Err, IfOk, OnErr, [], refl, sym, ap, subst, ◌∙◌, append-nil, append_assoc, ◌++◌}
use Rattle.std.specs.Option.{is_some, option_and_then, option_map_or}
use Rattle.std.specs.Ordering.{is_eq}
use Rattle.std.specs.declared.alloc.AllocError.{AllocError}
use Rattle.git_objects.specs.Paths.{Path, path_cmp}
use Rattle.git_objects.specs.Trees.{Flat, at, same_leaf}
use Rattle.git_objects.specs.Trees as trees
use Rattle.git_objects.proofs.Order.{path_ties}
use Rattle.object_store.specs.Objects.{Object}
use Rattle.path_trees.specs.declared.found.Leaf.{Leaf}
use Rattle.filter_text.specs.Filters.{Filter}
use Rattle.filter_routes.specs.Images.{image}
use Rattle.filter_routes.specs.Interned.{HasAt, Interns}
use Rattle.filter_routes.specs.TableValues.{Table}
use Rattle.filter_unapply.specs.Laying.{differs_at}
use Rattle.workspace.specs.Views.{found_value}
use Rattle.workspace.specs.Workspaces.{has_unreadable, next, place, resolve, shown_place, with_leaf}
use Rattle.projection_ground.specs.Grounds.{AreInFront}
use Rattle.projection_ground.proofs.Growing.{has-front, interned-front}
use Rattle.push_laws.specs.PushVerdicts.{is_bad, is_changed, same_found, same_place}
use Rattle.push_back.specs.Originals.{IsWay}

-- ---- leaves

pub changed-none : (S : List Object) (x : Option Leaf) (o : Option trees.Leaf) → found_value S x ≡ o → is_some x ≡ not (same_found o None)
changed-none S None o e = ap (λ o. not (same_found o None)) e
changed-none S (Some x) o e = ap (λ o. not (same_found o None)) e

pub changed-new : (S : List Object) (x : Option Leaf) (o : Option trees.Leaf) → found_value S x ≡ o → is_some x ≡ not (same_found None o)
changed-new S None o e = ap (λ o. not (same_found None o)) e
changed-new S (Some x) o e = ap (λ o. not (same_found None o)) e

differs-is : (x : trees.Leaf) (o : Option trees.Leaf) → option_map_or (λ y. not (same_leaf x y)) o true ≡ not (same_found (Some x) o)
differs-is x None = refl
differs-is x (Some y) = refl

pub changed-both : (t n : Flat) (p q : Path) (x : trees.Leaf) (b : Bool) → at n q ≡ Some x → ((y : trees.Leaf) → at n q ≡ Some y → b ≡ differs_at t y p) → b ≡ not (same_found (at n q) (at t p))
changed-both t n p q x b e h = h x e ∙ differs-is x (at t p) ∙ ap (λ o. not (same_found o (at t p))) (sym e)

-- ---- places

pub shown-same : (p q : Path) (b : Bool) → b ≡ is_eq (path_cmp p q) → (o : Option Path) → Some p ≡ o → b ≡ same_place o (Some q)
shown-same p q b h o e = h ∙ path_ties p q ∙ ap (λ o. same_place o (Some q)) e

-- ---- the next filter

module _ (f : Filter) (t n : Flat) where
  next-none : shown_place f t ≡ None → next f t n ≡ resolve f t
  unfolding next
  next-none e = ap (λ o. option_map_or (λ q. with_leaf f (at n q)) o (resolve f t)) e

  next-some : (q : Path) → shown_place f t ≡ Some q → next f t n ≡ with_leaf f (at n q)
  unfolding next
  next-some q e = ap (λ o. option_map_or (λ q. with_leaf f (at n q)) o (resolve f t)) e

  abbrev bad_at : Option Path → Bool
  bad_at o = option_map_or (λ q. is_changed f t n q && is_bad f t n q) o false

  pub way-none : (ts : List Table) (number : ℕ) → None ≡ shown_place f t → HasAt ts (resolve f t) number → IsWay f t n ts (record { old = number; new = number; is_bad = false })
  way-none ts number e h = record {
    below = h;
    by = subst (λ (r : Filter). HasAt ts r number) (sym (next-none (sym e))) h;
    bad = ap bad_at e;
  }

  not-not : (b : Bool) → not (not b) ≡ b
  not-not true = refl
  not-not false = refl

  abbrev bad_of : Bool → Filter → Path → Bool
  bad_of readable r q = is_changed f t n q && (not readable || not (same_place (option_and_then (image r) (place f)) (Some q)))

  pub way-some : (ts us : List Table) (q : Path) (old new : ℕ) (readable b : Bool) (x : Option trees.Leaf) → shown_place f t ≡ Some q → AreInFront ts us → HasAt ts (resolve f t) old
      → x ≡ at n q → HasAt us (with_leaf f x) new → readable ≡ not (has_unreadable f x) → ((r : Filter) → HasAt us r new → b ≡ bad_of readable r q)
      → IsWay f t n us (record { old = old; new = new; is_bad = b })
  way-some ts us q old new readable b x e a h v k u w =
      let is : next f t n ≡ with_leaf f (at n q) = next-some q e in
      let known : HasAt us (next f t n) new = subst (λ (r : Filter). HasAt us r new) (ap (with_leaf f) v ∙ sym is) k in
      let told : readable ≡ not (has_unreadable f (at n q)) = u ∙ ap (λ o. not (has_unreadable f o)) v in
      record {
        below = has-front ts us (resolve f t) old a h;
        by = known;
        bad =
            w (next f t n) known
            ∙ ap (λ c. is_changed f t n q && (c || not (same_place (option_and_then (image (next f t n)) (place f)) (Some q)))) (ap not told ∙ not-not (has_unreadable f (at n q)))
            ∙ ap bad_at (sym e);
      }

-- ---- tables

pub front-after : {A : Type 0} (old new : List Table) (f : Filter) (number : A → ℕ) (r : Result A AllocError) → IfOk r (λ a. Interns old new f (number a)) → OnErr r (new ≡ old) → AreInFront old new
front-after old new f number (Ok a) h e = interned-front old new f (number a) h
front-after old new f number (Err d) h e = subst (λ (us : List Table). AreInFront old us) (sym e) ([], append-nil old)

pub front-then : (ts us vs : List Table) → AreInFront ts us → AreInFront us vs → AreInFront ts vs
front-then ts us vs a b = (a.0 ++ b.0, sym (append_assoc ts a.0 b.0) ∙ ap (λ (xs : List Table). xs ++ b.0) a.1 ∙ b.1)

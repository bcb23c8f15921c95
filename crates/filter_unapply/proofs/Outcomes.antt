-- When each answer of laying comes.
use Rattle.std.proofs.Common.{◌≡◌, true, false, not, ◌&&◌, refl, sym, ap, ◌∙◌, Option, Some, None, true≢false}
use Rattle.std.specs.Prelude.{is_some}
use Rattle.std.specs.Option.{is_none}
use Rattle.std.specs.Cmp.{first_so, second_so}
use Rattle.git_objects.specs.Paths.{Path, same_path, comparable}
use Rattle.git_objects.specs.Trees.{Leaf, Flat, at, IsTree}
use Rattle.git_objects.proofs.Order.{path_decides}
use Rattle.filter_routes.specs.Lenses.{Lens}
use Rattle.filter_unapply.specs.Laying.{hidden, pre, first_path, first_lost, is_other, is_blocked, first_blocked, NotHeld, Blocked, LaidTree, laid_from, laid_through}
use Rattle.filter_unapply.specs.Laws.{IsFirst, IsLost, IsBlock}
use Rattle.filter_routes.proofs.TreeEntries.{each_entry}
use Rattle.filter_unapply.proofs.Firsts.{first-none, first-passes, first-first, is_stopped}
use Rattle.filter_routes.proofs.Carried.{sorted-carried}
use Rattle.filter_unapply.proofs.HiddenLeaves.{sorted-hidden}
use Rattle.filter_unapply.proofs.Lawful.{free, none_lost}

-- ---- tests as facts

leaf_of : (o : Option Leaf) → is_some o ≡ true → (x : Leaf) × (o ≡ Some x)
leaf_of None h = absurd (true≢false (sym h))
leaf_of (Some x) h = (x, refl)

none_of : {A : Type 0} (o : Option A) → is_none o ≡ true → o ≡ None
none_of None h = refl
none_of (Some x) h = absurd (true≢false (sym h))

some_of : {A : Type 0} (o : Option A) → (o ≡ None → ⊥) → is_some o ≡ true
some_of None h = absurd (h refl)
some_of (Some x) h = refl

differs : (p q : Path) → not (same_path p q) ≡ true → p ≡ q → ⊥
differs p q h e = true≢false (sym h ∙ ap not ((path_decides p q).1 e))

other_test : (p q : Path) → comparable p q ≡ true → (p ≡ q → ⊥) → is_other p q ≡ true
other_test p q c n = (λ i. c i && not (same i))
  where
    same : same_path p q ≡ false
    same = elim (same_path p q) as (λ b. same_path p q ≡ b → b ≡ false) [ true ↦ λ k. absurd (n ((path_decides p q).0 k)) | false ↦ λ k. refl ] refl

-- ---- answers

pub lost_of : (o : Option Path) (b : Option (Path × Path)) (u : Flat) (q : Path) → laid_from o b u ≡ NotHeld q → o ≡ Some q
lost_of (Some p) b u q e = cc
lost_of None (Some b) u q e = cc
lost_of None None u q e = cc

blocked_of : (o : Option Path) (b : Option (Path × Path)) (u : Flat) (p q : Path) → laid_from o b u ≡ Blocked p q → (o ≡ None) × (b ≡ Some (p, q))
blocked_of (Some r) b u p q e = cc
blocked_of None (Some b) u p q e = let x : b.0 ≡ p = cc in let y : b.1 ≡ q = cc in (refl, λ i. Some (x i, y i))
blocked_of None None u p q e = cc

module _ (f : Lens) where
  pub first-lost : (t n : Flat) (q : Path) → IsTree n → laid_through f t n ≡ NotHeld q → IsFirst (IsLost f n) q
  first-lost t n q h e =
      let l = lost_of (first_lost f n) (first_blocked f (pre f t n)) (pre f t n) q e in
      let r = first-passes (λ p. is_none (f.origin p)) n q l in
      record {
        holds = (r.0, none_of (f.origin q) r.1);
        first = λ p g. let x = leaf_of (at n p) g.0 in first-first (λ p. is_none (f.origin p)) n h.sorted q l p x.0 x.1 (ap is_none g.1);
      }

  pub none-is_lost : (t n : Flat) (p q : Path) → laid_through f t n ≡ Blocked p q → (s : Path) → IsLost f n s → ⊥
  none-is_lost t n p q e s g =
      let b = blocked_of (first_lost f n) (first_blocked f (pre f t n)) (pre f t n) p q e in
      let x = leaf_of (at n s) g.0 in
      true≢false (sym (ap is_none g.1) ∙ first-none (λ p. is_none (f.origin p)) n b.0 s x.0 x.1)

  module _ (t n : Flat) (p q : Path) (h : IsTree t) (e : laid_through f t n ≡ Blocked p q) where
    abbrev u : Flat
    u = pre f t n

    stopped : (first_path (is_blocked f u) u ≡ Some p) × (first_path (is_other p) u ≡ Some q)
    stopped = is_stopped f u p q (blocked_of (first_lost f n) (first_blocked f u) u p q e).1

    passes : (is_some (at u p) ≡ true) × (is_blocked f u p ≡ true)
    passes = first-passes (is_blocked f u) u p stopped.0

    seen : is_some (f.image p) ≡ true
    seen = first_so (is_some (f.image p)) (is_some (first_path (is_other p) u)) passes.1

    block : IsBlock f u p q
    block =
        let o = first-passes (is_other p) u q stopped.1 in
        record {
          path = passes.0;
          image = seen;
          by = o.0;
          comparable = first_so (comparable p q) (not (same_path p q)) o.1;
          other = differs p q (second_so (comparable p q) (not (same_path p q)) o.1);
        }

    -- a path with another passes the test
    is_block : (r s : Path) → IsBlock f u r s → is_blocked f u r ≡ true
    is_block r s b = (λ i. b.image i && some_of (first_path (is_other r) u) none i)
      where
        none : first_path (is_other r) u ≡ None → ⊥
        none k = let x = leaf_of (at u s) b.by in true≢false (sym (other_test r s b.comparable b.other) ∙ first-none (is_other r) u k s x.0 x.1)

    pub first-block : IsFirst (λ r. (s : Path) × IsBlock f u r s) p
    first-block = record {
      holds = (q, block);
      first = λ r b. let x = leaf_of (at u r) b.1.path in first-first (is_blocked f u) u (sorted-carried f.origin n (hidden f t) (sorted-hidden f t h.sorted)) p stopped.0 r x.0 x.1 (is_block r b.0 b.1);
    }

    pub first-way : IsFirst (IsBlock f u p) q
    first-way = record {
      holds = block;
      first = λ s b. let x = leaf_of (at u s) b.by in first-first (is_other p) u (sorted-carried f.origin n (hidden f t) (sorted-hidden f t h.sorted)) q stopped.1 s x.0 x.1 (other_test p s b.comparable b.other);
    }

  pub else-tree : (t n : Flat) → IsTree n → ((s : Path) → IsLost f n s → ⊥) → IsTree (pre f t n) → laid_through f t n ≡ LaidTree (pre f t n)
  else-tree t n h is g =
      (λ i. laid_from (none_lost f n (each_entry (λ d. is_some (f.origin d.0) ≡ true) n h.sorted by) i) (free f (pre f t n) g i) (pre f t n))
    where
      by : (d : Path × Leaf) → at n d.0 ≡ Some d.1 → is_some (f.origin d.0) ≡ true
      by d k = some_of (f.origin d.0) (λ o. is d.0 (ap is_some k, o))

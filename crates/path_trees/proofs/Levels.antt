-- What the map of a listing has below a component.
use Rattle.std.proofs.Common.{◌≡◌, Bool, true, false, cond, ◌&&◌, List, [], ◌∷◌, ◌++◌, Option, Some, None, refl, sym, ap, subst, ◌∙◌}
use Rattle.std.specs.Option.{option_map}
use Rattle.std.specs.Cmp.Lexicographic.{bytes_decides}
use Rattle.git_objects.specs.Paths.{Bytes, Path, same_bytes, same_path}
use Rattle.git_objects.specs.Trees.{Leaf, Flat, at, rests}
use Rattle.git_objects.specs.Entries.{AreEntries}
use Rattle.git_objects.specs.declared.entry.Entry.{Entry}
use Rattle.git_objects.proofs.Maps.{first_some}
use Rattle.object_store.specs.Objects.{Object}
use Rattle.object_store.specs.Unfolding.{below}
use Rattle.object_store.proofs.Unfolding.{node}
use Rattle.path_trees.specs.Listed.{entry_at, found, found_at, changed}
use Rattle.path_trees.specs.declared.found.Found.{Found}
use Rattle.path_trees.proofs.Grown.{joined_in}
use Rattle.path_trees.proofs.Listings.{Away, away_before, found-changed}

-- the leaves of what is found, by the rests of their paths
abbrev pub rests_of : List Object → Option Found → Flat
rests_of S None = []
rests_of S (Some f) = rests (node S f.mode f.name.0)

first_cond : (b : Bool) (x : Leaf) (y z : Option Leaf) → cond b (Some x) (first_some y z) ≡ first_some (cond b (Some x) y) z
first_cond true x y z = refl
first_cond false x y z = refl

pub at-block : (c d : Bytes) (t s : Flat) (r : Path) → at (below d t ++ s) (c ∷ r) ≡ cond (same_bytes c d) (first_some (at t r) (at s (c ∷ r))) (at s (c ∷ r))
at-block c d [] s r = elim (same_bytes c d) as (λ b. at s (c ∷ r) ≡ cond b (at s (c ∷ r)) (at s (c ∷ r))) [ true ↦ refl | false ↦ refl ]
at-block c d (e ∷ t) s r =
    ap (cond (same_bytes c d && same_path r e.0) (Some e.1)) (at-block c d t s r)
    ∙ elim (same_bytes c d) as (λ b. cond (b && same_path r e.0) (Some e.1) (cond b (first_some (at t r) (at s (c ∷ r))) (at s (c ∷ r))) ≡ cond b (first_some (cond (same_path r e.0) (Some e.1) (at t r)) (at s (c ∷ r))) (at s (c ∷ r))) [
      | true ↦ first_cond (same_path r e.0) e.1 (at t r) (at s (c ∷ r))
      | false ↦ refl
    ]

first_none : (o : Option Leaf) → first_some o None ≡ o
first_none None = refl
first_none (Some x) = refl

block_nil : (c : Bytes) (t s : Flat) → at (below c t ++ s) [] ≡ at s []
block_nil c [] s = refl
block_nil c (e ∷ t) s = block_nil c t s

module _ (S : List Object) where
  pub at-joined_nil : (es : List Entry) → at (joined_in S es) [] ≡ None
  at-joined_nil [] = refl
  at-joined_nil (e ∷ es) = block_nil e.component (rests (node S e.mode e.name.0)) (joined_in S es) ∙ at-joined_nil es

  pub at-away : (c : Bytes) (r : Path) (es : List Entry) → Away c es → at (joined_in S es) (c ∷ r) ≡ None
  at-away c r [] h = refl
  at-away c r (e ∷ es) h =
      at-block c e.component (rests (node S e.mode e.name.0)) (joined_in S es) r
      ∙ ap (λ b. cond b (first_some (at (rests (node S e.mode e.name.0)) r) (at (joined_in S es) (c ∷ r))) (at (joined_in S es) (c ∷ r))) h.0
      ∙ at-away c r es h.1

  -- below a component stands what its entry stands for
  pub at-joined : (c : Bytes) (r : Path) (es : List Entry) → AreEntries es → at (joined_in S es) (c ∷ r) ≡ at (rests_of S (found_at c es)) r
  at-joined c r [] h = refl
  at-joined c r (e ∷ es) h =
      let t = rests (node S e.mode e.name.0) in
      at-block c e.component t (joined_in S es) r
      ∙ elim (same_bytes c e.component) as (λ b. same_bytes c e.component ≡ b → cond b (first_some (at t r) (at (joined_in S es) (c ∷ r))) (at (joined_in S es) (c ∷ r)) ≡ at (rests_of S (option_map found (cond b (Some e) (entry_at c es)))) r) [
        | true ↦ λ k. ap (first_some (at t r)) (subst (λ d. at (joined_in S es) (d ∷ r) ≡ None) (sym ((bytes_decides c e.component).0 k)) (at-away e.component r es (away_before e es h.1))) ∙ first_none (at t r)
        | false ↦ λ k. at-joined c r es h.2
      ] refl

  -- and a change touches nothing else
  pub at-changed : (c : Bytes) (o : Option Found) (es : List Entry) → AreEntries es → AreEntries (changed c o es) → (d : Bytes) (r : Path) →
      at (joined_in S (changed c o es)) (d ∷ r) ≡ cond (same_bytes d c) (at (rests_of S o) r) (at (joined_in S es) (d ∷ r))
  at-changed c o es h g d r =
      at-joined d r (changed c o es) g
      ∙ ap (λ f. at (rests_of S f) r) (found-changed d c o es)
      ∙ elim (same_bytes d c) as (λ b. at (rests_of S (cond b o (found_at d es))) r ≡ cond b (at (rests_of S o) r) (at (joined_in S es) (d ∷ r))) [
        | true ↦ refl
        | false ↦ sym (at-joined d r es h)
      ]

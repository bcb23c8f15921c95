-- The directories on the way to a path, from the root's on.
use Rattle.std.proofs.Common.{◌≡◌, ℕ, ◌+◌, ◌<◌, ◌≤◌, ◌⊎◌, inl, inr, true, List, [], ◌∷◌, ◌++◌, length, get_or, take, drop, Option, Some, None, refl, sym, ap, subst, ◌∙◌, arith, length-append}
use Rattle.std.specs.Prelude.{slice_get}
use Rattle.std.specs.Option.{option_and_then}
use Rattle.std.proofs.lemmas.Bool.{cases_lt}
use Rattle.std.proofs.lemmas.List.{take_more, take-append-le, take-append-drop}
use Rattle.std.proofs.lemmas.Option.{slice_get-get_or, slice_get_past}
use Rattle.std.proofs.Math.ListN.{get_or-append}
use Rattle.std.proofs.Math.Seq.{get_or-append_seam, take-append_seam}
use Rattle.git_objects.specs.Paths.{Bytes, Path}
use Rattle.git_objects.specs.Trees.{Flat, IsTree, under}
use Rattle.git_objects.specs.declared.name.Name.{Name}
use Rattle.git_objects.specs.declared.kind.Kind.TheVariants.{Tree}
use Rattle.object_store.specs.Objects.{Object, has, IsStore}
use Rattle.object_store.specs.Unfolding.{flat, StandsFor}
use Rattle.object_store.proofs.Unfolding.{flat_good}
use Rattle.path_trees.specs.Listed.{found_at, listed, directory_of}
use Rattle.path_trees.specs.Levels.{IsDirectory, AreDirectories}
use Rattle.path_trees.proofs.Lookups.{under_nil, under_front, step_down}

-- so many directories, and the next one
pub record IsSoFar (S : List Object) (t : Flat) (p : Path) (names : List Name) (k : ℕ) (next : Name) : Type 0 where
  pub count : length names ≡ k
  pub directories : (q : Path) (c : Bytes) (r : Path) → q ++ c ∷ r ≡ p → length q < k → IsDirectory S (under t q) (slice_get names (length q))
  pub here : StandsFor S next.0 (under t (take k p))

pub at_first : (S : List Object) (root : Name) (p : Path) → IsStore S → has Tree S root.0 ≡ true → IsSoFar S (flat S root.0) p [] 0 root
at_first S root p s h = record {
  count = refl;
  directories = λ q c r e l. absurd (omega arith);
  here = record { held = h; map = sym (under_nil (flat S root.0) (flat_good S s root.0 h).tree) };
}

-- ---- lists

get_front : {A : Type 0} (xs : List A) (y : A) (k : ℕ) → k < length xs → slice_get (xs ++ y ∷ []) k ≡ slice_get xs k
get_front xs y k h =
    slice_get-get_or (xs ++ y ∷ []) k y (omega (arith, length-append xs (y ∷ [])))
    ∙ ap Some (get_or-append xs (y ∷ []) y k h)
    ∙ sym (slice_get-get_or xs k y h)

get_last : {A : Type 0} (xs : List A) (y : A) → slice_get (xs ++ y ∷ []) (length xs) ≡ Some y
get_last xs y = slice_get-get_or (xs ++ y ∷ []) (length xs) y (omega (arith, length-append xs (y ∷ []))) ∙ ap Some (get_or-append_seam xs y [] y)

front_is : (q r p : Path) → q ++ r ≡ p → take (length q) p ≡ q
front_is q r p e = ap (take (length q)) (sym e) ∙ take-append_seam q r

longer : (q : Path) (c : Bytes) (r p : Path) → q ++ c ∷ r ≡ p → length q < length p
longer q c r p e = let n = length-append q (c ∷ r) in let m = ap length e in omega arith

-- ---- one more

module _ (S : List Object) (s : IsStore S) (t : Flat) (h : IsTree t) (p : Path) (names : List Name) (k : ℕ) (next : Name) (so : IsSoFar S t p names k next) where
  added : (q : Path) (c : Bytes) (r : Path) → q ++ c ∷ r ≡ p → length q < k + 1 → IsDirectory S (under t q) (slice_get (names ++ next ∷ []) (length q))
  added q c r e l = by (cases_lt (length q) k)
    where
      by : (length q < k) ⊎ (k ≤ length q) → IsDirectory S (under t q) (slice_get (names ++ next ∷ []) (length q))
      by (inl less) = subst (IsDirectory S (under t q)) (sym (get_front names next (length q) (omega (arith, so.count)))) (so.directories q c r e less)
      by (inr more) =
          let same : length q ≡ k = omega arith in
          subst (IsDirectory S (under t q)) (sym (ap (slice_get (names ++ next ∷ [])) (same ∙ sym so.count) ∙ get_last names next))
          (subst (λ x. StandsFor S next.0 (under t x)) (ap (λ n. take n p) (sym same) ∙ front_is q (c ∷ r) p e) so.here)

  below_next : (c : Bytes) → k < length p → c ≡ get_or p k c → under t (take (k + 1) p) ≡ under (under t (take k p)) (c ∷ [])
  below_next c l e = ap (under t) (take_more p k c l ∙ (λ i. take k p ++ sym e i ∷ [])) ∙ under_front t (take k p) (c ∷ []) h

  answer : (c : Bytes) (o : Option Name) → o ≡ option_and_then directory_of (option_and_then (found_at c) (listed S next.0)) → k < length p → c ≡ get_or p k c → IsDirectory S (under t (take (k + 1) p)) o
  answer c o f l e = subst (λ (u : Flat). IsDirectory S u o) (sym (below_next c l e)) (subst (IsDirectory S (under (under t (take k p)) (c ∷ []))) (sym f) (step_down S s next.0 (under t (take k p)) c so.here).1)

  pub one_more : (c : Bytes) (m : Name) → Some m ≡ option_and_then directory_of (option_and_then (found_at c) (listed S next.0)) → k < length p → c ≡ get_or p k c → (all : List Name) → all ≡ names ++ next ∷ [] → IsSoFar S t p all (k + 1) m
  one_more c m f l e all a = subst (λ (ns : List Name). IsSoFar S t p ns (k + 1) m) (sym a) (record {
    count = omega (arith, length-append names (next ∷ []), so.count);
    directories = added;
    here = answer c (Some m) f l e;
  })

  pub last_one : (c : Bytes) → None ≡ option_and_then directory_of (option_and_then (found_at c) (listed S next.0)) → k < length p → c ≡ get_or p k c → (all : List Name) → all ≡ names ++ next ∷ [] → AreDirectories S t p all
  last_one c f l e all a = subst (AreDirectories S t p) (sym a) by
    where
      past : (q : Path) (d : Bytes) (r : Path) → q ++ d ∷ r ≡ p → k + 1 ≤ length q → under t q ≡ []
      past q d r g j =
          ap (under t) (sym (take-append-drop (k + 1) q))
          ∙ under_front t (take (k + 1) q) (drop (k + 1) q) h
          ∙ ap (λ x. under (under t x) (drop (k + 1) q)) (sym (take-append-le (k + 1) q (d ∷ r) j) ∙ ap (take (k + 1)) g)
          ∙ ap (λ u. under u (drop (k + 1) q)) (answer c None f l e)

      by : AreDirectories S t p (names ++ next ∷ [])
      by q d r g = elim (cases_lt (length q) (k + 1)) [
        | inl less ↦ added q d r g less
        | inr more ↦ subst (IsDirectory S (under t q)) (sym (slice_get_past (names ++ next ∷ []) (length q) (omega (arith, length-append names (next ∷ []), so.count)))) (past q d r g more)
      ]

  pub all_of_them : k ≡ length p → AreDirectories S t p names
  all_of_them e q c r g = so.directories q c r g (let l = longer q c r p g in omega arith)

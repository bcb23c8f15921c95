-- Runs of entries, and what stands at the bases of entries.
use mathlib.Core.Bool.{beq}
use Rattle.std.proofs.Common.{◌≡◌, ℕ, zero, suc, ◌+◌, ◌-◌, ◌<◌, ◌≤◌, Bool, true, false, List, [], ◌∷◌, ◌++◌, length, take, drop, get_or, Option, Some, refl, sym, ap, subst, subst₂, ◌∙◌, arith, true≢false, length-drop, get_or-drop, drop-drop, take-append-drop}
use Rattle.std.proofs.lemmas.List.{drop_more, take_more}
use Rattle.std.proofs.lemmas.Option.{slice_get-get_or}
use Rattle.std.specs.Prelude.{is_some}
use Rattle.git_objects.specs.Trees.{Flat}
use Rattle.object_store.specs.Objects.{Object}
use Rattle.path_trees.specs.declared.found.Found.{Found}
use Rattle.decision_lists.specs.Entries.{Entry, base}
use Rattle.filter_apply.specs.Founds.{AreFoundAt, IsFoundAt}
use Rattle.filter_apply.specs.Parts.{base_in}
use Rattle.filter_unapply.specs.Sifted.{AreAlike}

pub both-so : (a b : Bool) → beq a b ≡ true → a ≡ b
both-so true true e = refl
both-so false false e = refl
both-so true false e = absurd (true≢false (sym e))
both-so false true e = absurd (true≢false (sym e))

-- of entries that are alike some are alike, and each is
alike-fewer : (k : Bool) (es : List Entry) (i j : ℕ) → i ≤ j → AreAlike k (take j es) → AreAlike k (take i es)
alike-fewer k es zero j l h = tt
alike-fewer k [] (suc i) j l h = tt
alike-fewer k (e ∷ es) (suc i) zero l h = absurd (omega arith)
alike-fewer k (e ∷ es) (suc i) (suc j) l h = (h.0, alike-fewer k es i j (omega arith) h.1)

alike-at : (k : Bool) (es : List Entry) (i j : ℕ) (e : Entry) → AreAlike k (take j es) → i < j → i < length es → e ≡ get_or es i e → is_some e.1 ≡ k
alike-at k [] i j e h m l is = absurd (omega arith)
alike-at k (d ∷ es) i zero e h m l is = absurd (omega arith)
alike-at k (d ∷ es) zero (suc j) e h m l is = ap (λ (x : Entry). is_some x.1) is ∙ h.0
alike-at k (d ∷ es) (suc i) (suc j) e h m l is = alike-at k es i j e h.1 (omega arith) (omega arith) is

module _ (k : Bool) (es : List Entry) (i j : ℕ) (e : Entry) (some : 0 < i) (within : i ≤ length es) (is : e ≡ get_or es (i - 1) e) (like : is_some e.1 ≡ k) where
  listed : drop (i - 1) es ≡ e ∷ drop i es
  listed =
      let less : i - 1 < length es = omega (arith, some, within) in
      let back : i - 1 + 1 ≡ i = omega (arith, some) in
      drop_more es (i - 1) e less ∙ (λ n. sym is n ∷ drop (back n) es)

  -- a run with the entry before it is a run
  pub run-more : i ≤ j → AreAlike k (take (j - i) (drop i es)) → AreAlike k (take (j - (i - 1)) (drop (i - 1) es))
  run-more h run =
      let longer : j - (i - 1) ≡ suc (j - i) = omega (arith, h, some) in
      subst₂ (λ n (ds : List Entry). AreAlike k (take n ds)) (sym longer) (sym listed) (like, run)

  -- one entry is a run
  pub run-one : AreAlike k (take (i - (i - 1)) (drop (i - 1) es))
  run-one =
      let one : i - (i - 1) ≡ suc 0 = omega (arith, some) in
      subst₂ (λ n (ds : List Entry). AreAlike k (take n ds)) (sym one) (sym listed) (like, tt)

module _ (es : List Entry) (f i : ℕ) (h : f ≤ i) where
  -- one more of a run's entries
  pub run-next : (e : Entry) → i < length es → e ≡ get_or es i e → take (i + 1 - f) (drop f es) ≡ take (i - f) (drop f es) ++ e ∷ []
  run-next e l is =
      let some : i + 1 - f ≡ i - f + 1 = omega (arith, h) in
      let place : f + (i - f) ≡ i = omega (arith, h) in
      let long : i - f < length (drop f es) = omega (arith, h, l, length-drop f es) in
      let there : get_or (drop f es) (i - f) e ≡ e = get_or-drop f es (i - f) e ∙ ap (λ n. get_or es n e) place ∙ sym is in
      ap (λ n. take n (drop f es)) some ∙ take_more (drop f es) (i - f) e long ∙ ap (λ (x : Entry). take (i - f) (drop f es) ++ x ∷ []) there

  -- an entry of a run
  pub run-at : (k : Bool) (j : ℕ) (e : Entry) → i < j → i < length es → e ≡ get_or es i e → AreAlike k (take (j - f) (drop f es)) → is_some e.1 ≡ k
  run-at k j e less l is run =
      let place : f + (i - f) ≡ i = omega (arith, h) in
      let long : i - f < length (drop f es) = omega (arith, h, l, length-drop f es) in
      let there : e ≡ get_or (drop f es) (i - f) e = is ∙ sym (get_or-drop f es (i - f) e ∙ ap (λ n. get_or es n e) place) in
      let fewer : i - f < j - f = omega (arith, h, less) in
      alike-at k (drop f es) (i - f) (j - f) e run fewer long there

  -- those before it
  pub run-before : (k : Bool) (j : ℕ) → i < j → AreAlike k (take (j - f) (drop f es)) → AreAlike k (take (i - f) (drop f es))
  run-before k j less run = let fewer : i - f ≤ j - f = omega (arith, less) in alike-fewer k (drop f es) (i - f) (j - f) fewer run

  -- and all of it with what follows
  pub run-whole : take (i - f) (drop f es) ++ drop i es ≡ drop f es
  run-whole =
      let place : f + (i - f) ≡ i = omega (arith, h) in
      ap (λ n. take (i - f) (drop f es) ++ drop n es) (sym place)
      ∙ ap (λ (ds : List Entry). take (i - f) (drop f es) ++ ds) (sym (drop-drop (i - f) f es))
      ∙ take-append-drop (i - f) (drop f es)

-- what stands at the base of an entry, by its place in the list
module _ (S : List Object) (t : Flat) (es : List Entry) (fs : List (Option Found)) (w : AreFoundAt S t es fs) (i : ℕ) (e : Entry) (l : i < length es) (is : e ≡ get_or es i e) where
  pub found-in : (o d : Option Found) → o ≡ get_or fs i d → IsFoundAt S t (base e.0) o
  found-in o d h =
      let many = w.as_many in
      subst (λ x. IsFoundAt S t (base_in x) o) (slice_get-get_or es i e l ∙ ap Some (sym is)) (w.each i o (slice_get-get_or fs i d (omega arith) ∙ ap Some (sym h)))

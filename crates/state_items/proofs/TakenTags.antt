-- The first tag whose name is taken, found in one walk along two lists that rise.
use Rattle.std.proofs.Common.{◌≡◌, Bool, true, false, not, cond, ◌&&◌, List, [], ◌∷◌, find, Some, None, refl, sym, ap, ◌∙◌}
use Rattle.std.specs.Cmp.{first_so, second_so}
use Rattle.std.specs.Option.{option_map, option_map_or}
use Rattle.std.specs.Ordering.{is_eq, is_lt}
use Rattle.std.specs.declared.cmp.Ordering.TheVariants.{Less}
use Rattle.git_objects.specs.Paths.{same_bytes}
use Rattle.git_objects.specs.Refs.{bytes_cmp}
use Rattle.tag_objects.specs.TagLists.{first_taken, is_taken, rise, says_same, tag_named}
use Rattle.tag_objects.specs.declared.tag.Tag.{Tag}
use Rattle.tag_objects.proofs.TagLists.{apart, later_none, less, rise_from}
use Rattle.state_items.specs.ChangedTags.{from_name, has_other}
use Rattle.state_items.proofs.TagWalks.{IsFrom, above, from-first, from-rises}

-- ---- tags that are passed by

-- a tag whose name is below those of all that are asked for
one-passed : (u : Tag) (us ts : List Tag) → rise (Some u.name) ts ≡ true → find (is_taken (u ∷ us)) ts ≡ find (is_taken us) ts
one-passed u us [] r = refl
one-passed u us (t ∷ ts) r =
    let l : bytes_cmp u.name t.name ≡ Less = less (bytes_cmp u.name t.name) (first_so _ _ r) in
    let other : same_bytes u.name t.name ≡ false = apart u.name t.name (ap is_eq l) in
    let later = one-passed u us ts (rise_from u.name t.name ts l (second_so _ _ r)) in
    (λ i. cond (option_map_or (λ v. not (says_same t v)) (cond (other i) (Some u) (tag_named t.name us)) false) (Some t) (later i))

passed : (t : Tag) (us ts : List Tag) → rise (Some t.name) ts ≡ true → find (is_taken us) (t ∷ ts) ≡ find (is_taken (from_name t.name us)) (t ∷ ts)
passed t [] ts r = refl
passed t (u ∷ us) ts r =
    elim (is_lt (bytes_cmp u.name t.name)) as (λ b. is_lt (bytes_cmp u.name t.name) ≡ b → find (is_taken (u ∷ us)) (t ∷ ts) ≡ find (is_taken (cond b (from_name t.name us) (u ∷ us))) (t ∷ ts)) [
      | true ↦ λ e. one-passed u us (t ∷ ts) (λ i. e i && r i) ∙ passed t us ts r
      | false ↦ λ e. refl
    ] refl

-- ---- the first that isn't passed by

first-other : (t : Tag) (us : List Tag) → rise None us ≡ true → IsFrom t.name us → is_taken us t ≡ has_other us t
first-other t [] r f = refl
first-other t (u ∷ us) r f =
    elim (same_bytes u.name t.name) as (λ b. same_bytes u.name t.name ≡ b → option_map_or (λ v. not (says_same t v)) (cond b (Some u) (tag_named t.name us)) false ≡ (b && not (says_same t u))) [
      | true ↦ λ e. refl
      | false ↦ λ e. ap (λ o. option_map_or (λ v. not (says_same t v)) o false) (later_none t.name u.name us (above u.name t.name f e) r)
    ] refl

-- ---- one tag more

pub walked : (t : Tag) (us vs ts : List Tag) (b : Bool) → rise None us ≡ true → rise None (t ∷ ts) ≡ true → vs ≡ from_name t.name us → b ≡ has_other vs t → first_taken us (t ∷ ts) ≡ cond b (Some t.name) (first_taken vs ts)
walked t us vs ts b r s e f = ap (option_map (λ u. u.name)) found ∙ named b
  where
    found : find (is_taken us) (t ∷ ts) ≡ cond b (Some t) (find (is_taken vs) ts)
    found =
        passed t us ts s
        ∙ ap (λ d. cond d (Some t) (find (is_taken (from_name t.name us)) ts)) (first-other t (from_name t.name us) (from-rises t.name us r) (from-first t.name us))
        ∙ (λ i. cond (has_other (sym e i) t) (Some t) (find (is_taken (sym e i)) ts))
        ∙ ap (λ d. cond d (Some t) (find (is_taken vs) ts)) (sym f)

    named : (d : Bool) → option_map (λ u. u.name) (cond d (Some t) (find (is_taken vs) ts)) ≡ cond d (Some t.name) (first_taken vs ts)
    named true = refl
    named false = refl

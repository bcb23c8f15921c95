-- Tags that change, found in one walk along two lists that rise.
use Rattle.std.proofs.Common.{◌≡◌, Bool, true, false, not, cond, ◌&&◌, List, [], ◌∷◌, Option, Some, None, refl, sym, ap, ◌∙◌}
use Rattle.std.specs.Cmp.{first_so, second_so}
use Rattle.std.specs.Cmp.Lexicographic.{bytes_decides, nat_list_cmp_total}
use Rattle.std.specs.Option.{option_map_or}
use Rattle.std.specs.Ordering.{is_eq, is_lt, ordering_reverse}
use Rattle.std.specs.declared.cmp.Ordering.{Ordering}
use Rattle.std.specs.declared.cmp.Ordering.TheVariants.{Less, Equal, Greater}
use Rattle.git_objects.specs.Paths.{Bytes, same_bytes}
use Rattle.git_objects.specs.Refs.{bytes_cmp}
use Rattle.tag_objects.specs.TagLists.{changed, is_changed, rise, says_same, tag_named}
use Rattle.tag_objects.specs.declared.tag.Tag.{Tag}
use Rattle.tag_objects.proofs.TagLists.{apart, later_none, less, one_name, rise_from}
use Rattle.state_items.specs.ChangedTags.{from_name, is_new}

tail-rises : (before : Option Bytes) (t : Tag) (ts : List Tag) → rise before (t ∷ ts) ≡ true → rise (Some t.name) ts ≡ true
tail-rises None t ts r = r
tail-rises (Some n) t ts r = second_so _ _ r

pub rest-rises : (t : Tag) (ts : List Tag) → rise (Some t.name) ts ≡ true → rise None ts ≡ true
rest-rises t [] r = refl
rest-rises t (u ∷ ts) r = second_so _ _ r

-- ---- tags that are passed by

-- a tag whose name is below those of all that are asked for
one-passed : (u : Tag) (us ts : List Tag) → rise (Some u.name) ts ≡ true → changed (u ∷ us) ts ≡ changed us ts
one-passed u us [] r = refl
one-passed u us (t ∷ ts) r =
    let l : bytes_cmp u.name t.name ≡ Less = less (bytes_cmp u.name t.name) (first_so _ _ r) in
    let other : same_bytes u.name t.name ≡ false = apart u.name t.name (ap is_eq l) in
    let later = one-passed u us ts (rise_from u.name t.name ts l (second_so _ _ r)) in
    (λ i. cond (option_map_or (λ v. not (says_same t v)) (cond (other i) (Some u) (tag_named t.name us)) true) (t ∷ later i) (later i))

pub passed : (t : Tag) (us ts : List Tag) → rise (Some t.name) ts ≡ true → changed us (t ∷ ts) ≡ changed (from_name t.name us) (t ∷ ts)
passed t [] ts r = refl
passed t (u ∷ us) ts r =
    elim (is_lt (bytes_cmp u.name t.name)) as (λ b. is_lt (bytes_cmp u.name t.name) ≡ b → changed (u ∷ us) (t ∷ ts) ≡ changed (cond b (from_name t.name us) (u ∷ us)) (t ∷ ts)) [
      | true ↦ λ e. one-passed u us (t ∷ ts) (λ i. e i && r i) ∙ passed t us ts r
      | false ↦ λ e. refl
    ] refl

pub from-rises : (n : Bytes) (us : List Tag) → rise None us ≡ true → rise None (from_name n us) ≡ true
from-rises n [] r = refl
from-rises n (u ∷ us) r =
    elim (is_lt (bytes_cmp u.name n)) as (λ b. rise None (cond b (from_name n us) (u ∷ us)) ≡ true) [
      | true ↦ from-rises n us (rest-rises u us r)
      | false ↦ r
    ]

-- ---- the first that isn't passed by

-- whether the first of them isn't below
abbrev pub IsFrom : Bytes → List Tag → Type 0
IsFrom n [] = Unit {0}
IsFrom n (u ∷ us) = is_lt (bytes_cmp u.name n) ≡ false

pub from-first : (n : Bytes) (us : List Tag) → IsFrom n (from_name n us)
from-first n [] = tt
from-first n (u ∷ us) =
    elim (is_lt (bytes_cmp u.name n)) as (λ b. is_lt (bytes_cmp u.name n) ≡ b → IsFrom n (cond b (from_name n us) (u ∷ us))) [
      | true ↦ λ e. from-first n us
      | false ↦ λ e. e
    ] refl

-- a name that isn't below and is another is above
pub above : (a b : Bytes) → is_lt (bytes_cmp a b) ≡ false → same_bytes a b ≡ false → bytes_cmp b a ≡ Less
above a b e f = nat_list_cmp_total.antisymm b a ∙ ap ordering_reverse (by (bytes_cmp a b) refl)
  where
    no : same_bytes a b ≡ true → ⊥
    no g = let k : true ≡ false = sym g ∙ f in absurd cc

    by : (o : Ordering) → bytes_cmp a b ≡ o → bytes_cmp a b ≡ Greater
    by Less g = absurd (let k : true ≡ false = ap is_lt (sym g) ∙ e in cc)
    by Equal g = absurd (no ((bytes_decides a b).1 (one_name a b g)))
    by Greater g = g

pub first-new : (t : Tag) (us : List Tag) → rise None us ≡ true → IsFrom t.name us → is_changed us t ≡ is_new us t
first-new t [] r f = refl
first-new t (u ∷ us) r f =
    elim (same_bytes u.name t.name) as (λ b. same_bytes u.name t.name ≡ b → option_map_or (λ v. not (says_same t v)) (cond b (Some u) (tag_named t.name us)) true ≡ not (b && says_same t u)) [
      | true ↦ λ e. refl
      | false ↦ λ e. ap (λ o. option_map_or (λ v. not (says_same t v)) o true) (later_none t.name u.name us (above u.name t.name f e) r)
    ] refl

-- ---- one tag more

pub walked : (t : Tag) (us vs ts : List Tag) (b : Bool) → rise None us ≡ true → rise None (t ∷ ts) ≡ true → vs ≡ from_name t.name us → b ≡ is_new vs t → changed us (t ∷ ts) ≡ cond b (t ∷ changed vs ts) (changed vs ts)
walked t us vs ts b r s e f =
    passed t us ts s
    ∙ ap (λ d. cond d (t ∷ changed (from_name t.name us) ts) (changed (from_name t.name us) ts)) (first-new t (from_name t.name us) (from-rises t.name us r) (from-first t.name us))
    ∙ (λ i. cond (is_new (sym e i) t) (t ∷ changed (sym e i) ts) (changed (sym e i) ts))
    ∙ ap (λ d. cond d (t ∷ changed vs ts) (changed vs ts)) (sym f)

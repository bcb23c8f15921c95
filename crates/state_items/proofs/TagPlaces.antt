-- Where a tag is put behind those of lower names.
use Rattle.std.proofs.Common.{◌≡◌, ℕ, zero, suc, ◌++◌, ◌≤◌, ◌<◌, List, [], ◌∷◌, length, take, drop, slice_get, slice_index_or, slice_set, Some, refl, ap, ◌∙◌, subst, arith}
use Rattle.std.proofs.lemmas.Option.{slice_get-get_or}
use Rattle.std.specs.Cmp.Lexicographic.{nat_list_cmp_total}
use Rattle.std.specs.Ordering.{ordering_reverse}
use Rattle.std.specs.declared.cmp.Ordering.TheVariants.{Less, Equal, Greater}
use Rattle.git_objects.specs.Paths.{Bytes}
use Rattle.git_objects.specs.Refs.{bytes_cmp}
use Rattle.tag_objects.specs.TagLists.{put_tag}
use Rattle.tag_objects.specs.declared.tag.Tag.{Tag}
use Rattle.tag_objects.proofs.TagLists.{over}
use Rattle.state_items.specs.TagPlaces.{AreLower, IsHighest}

-- ---- lower names

pub one-lower : (n : Bytes) (us : List Tag) (i : ℕ) (u : Tag) → AreLower n i us → i < length us → bytes_cmp n (slice_index_or us i u).name ≡ Greater → AreLower n (suc i) us
one-lower n [] i u h l e = absurd (omega arith)
one-lower n (v ∷ us) zero u h l e = (e, tt)
one-lower n (v ∷ us) (suc i) u h l e = (h.0, one-lower n us i u h.1 (omega (arith, l)) e)

pub first-within : (n : Bytes) (us : List Tag) (i : ℕ) → AreLower n i us → i ≤ length us
first-within n us zero h = omega arith
first-within n [] (suc i) h = absurd h
first-within n (u ∷ us) (suc i) h = omega (arith, first-within n us i h.1)

over-lower : (a b : Bytes) → bytes_cmp a b ≡ Less → bytes_cmp b a ≡ Greater
over-lower a b e = nat_list_cmp_total.antisymm b a ∙ ap ordering_reverse e

-- a higher name has the lower ones of a name too
lower-yet : (m n : Bytes) (i : ℕ) (us : List Tag) → bytes_cmp n m ≡ Less → AreLower n i us → AreLower m i us
lower-yet m n zero us e h = tt
lower-yet m n (suc i) [] e h = h
lower-yet m n (suc i) (u ∷ us) e h = (over-lower u.name m (nat_list_cmp_total.trans u.name n m (over n u.name h.0) e), lower-yet m n i us e h.1)

pub behind-lower : (n : Bytes) (us : List Tag) (at : ℕ) (u : Tag) → IsHighest at us → slice_index_or us at u ≡ u → bytes_cmp u.name n ≡ Less → AreLower n (suc at) us
behind-lower n us at u h e l =
    let there : slice_get us at ≡ Some u = slice_get-get_or us at u h.within ∙ ap Some e in
    one-lower n us at u (lower-yet n u.name at us l (h.higher u there)) h.within (ap (λ (x : Tag). bytes_cmp n x.name) e ∙ over-lower u.name n l)

-- ---- the place of a tag

pub put-same : (t : Tag) (us : List Tag) (i : ℕ) (u : Tag) → AreLower t.name i us → i < length us → bytes_cmp t.name (slice_index_or us i u).name ≡ Equal → slice_set us i t ≡ put_tag t us
put-same t [] i u h l e = absurd (omega arith)
put-same t (v ∷ us) zero u h l e = rw e refl
put-same t (v ∷ us) (suc i) u h l e = rw (h.0) (ap (λ x. v ∷ x) (put-same t us i u h.1 (omega (arith, l)) e))

pub put-before : (t : Tag) (us : List Tag) (i : ℕ) (u : Tag) → AreLower t.name i us → i < length us → bytes_cmp t.name (slice_index_or us i u).name ≡ Less → take i us ++ t ∷ drop i us ≡ put_tag t us
put-before t [] i u h l e = absurd (omega arith)
put-before t (v ∷ us) zero u h l e = rw e refl
put-before t (v ∷ us) (suc i) u h l e = rw (h.0) (ap (λ x. v ∷ x) (put-before t us i u h.1 (omega (arith, l)) e))

pub put-last : (t : Tag) (us : List Tag) (i : ℕ) → AreLower t.name i us → length us ≤ i → take i us ++ t ∷ drop i us ≡ put_tag t us
put-last t [] zero h l = refl
put-last t [] (suc i) h l = absurd h
put-last t (v ∷ us) zero h l = absurd (omega arith)
put-last t (v ∷ us) (suc i) h l = rw (h.0) (ap (λ x. v ∷ x) (put-last t us i h.1 (omega (arith, l))))

-- ---- the tag that was put has the highest name so far

highest : (t : Tag) (us : List Tag) (at : ℕ) → at < length us → slice_get us at ≡ Some t → AreLower t.name at us → IsHighest at us
highest t us at l e h = record {
  within = l;
  higher = λ u f. let same : t ≡ u = cc in subst (λ (v : Tag). AreLower v.name at us) same h;
}

set-there : (t : Tag) (us : List Tag) (i : ℕ) → i < length us → (i < length (slice_set us i t)) × (slice_get (slice_set us i t) i ≡ Some t)
set-there t [] i l = absurd (omega arith)
set-there t (u ∷ us) zero l = (omega arith, refl)
set-there t (u ∷ us) (suc i) l = let h = set-there t us i (omega (arith, l)) in (omega (arith, h.0), h.1)

set-lower : (n : Bytes) (t : Tag) (us : List Tag) (i : ℕ) → AreLower n i us → AreLower n i (slice_set us i t)
set-lower n t us zero h = tt
set-lower n t [] (suc i) h = h
set-lower n t (u ∷ us) (suc i) h = (h.0, set-lower n t us i h.1)

pub highest-set : (t : Tag) (us : List Tag) (at : ℕ) → at < length us → AreLower t.name at us → IsHighest at (slice_set us at t)
highest-set t us at l h =
    let there = set-there t us at l in
    highest t (slice_set us at t) at there.0 there.1 (set-lower t.name t us at h)

put-there : (t : Tag) (us : List Tag) (i : ℕ) → i ≤ length us → (i < length (take i us ++ t ∷ drop i us)) × (slice_get (take i us ++ t ∷ drop i us) i ≡ Some t)
put-there t us zero l = (omega arith, refl)
put-there t [] (suc i) l = absurd (omega arith)
put-there t (u ∷ us) (suc i) l = let h = put-there t us i (omega (arith, l)) in (omega (arith, h.0), h.1)

put-lower : (n : Bytes) (t : Tag) (us : List Tag) (i : ℕ) → AreLower n i us → AreLower n i (take i us ++ t ∷ drop i us)
put-lower n t us zero h = tt
put-lower n t [] (suc i) h = absurd h
put-lower n t (u ∷ us) (suc i) h = (h.0, put-lower n t us i h.1)

pub highest-put : (t : Tag) (us : List Tag) (at : ℕ) → at ≤ length us → AreLower t.name at us → IsHighest at (take at us ++ t ∷ drop at us)
highest-put t us at l h =
    let there = put-there t us at l in
    highest t (take at us ++ t ∷ drop at us) at there.0 there.1 (put-lower t.name t us at h)

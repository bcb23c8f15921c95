-- Entries whose neighbours are in order are a listing, and the other way round.
use Rattle.std.proofs.Common.{◌≡◌, Bool, true, false, not, ◌&&◌, ◌||◌, List, [], ◌∷◌, ◌++◌, refl, sym, ap, subst, ◌∙◌, true≢false}
use Rattle.std.specs.Ordering.{nat_cmp, is_lt, is_gt, ordering_then, ordering_reverse}
use Rattle.std.specs.declared.cmp.Ordering.{Ordering}
use Rattle.std.specs.declared.cmp.Ordering.TheVariants.{Less, Equal, Greater}
use Rattle.std.specs.Cmp.{first_so, second_so, both_ways, tied_itself, nat_cmp_total}
use Rattle.std.specs.Cmp.Lexicographic.{slice_cmp, nat_list_cmp_total, bytes_decides}
use Rattle.git_objects.specs.Paths.{Bytes, same_bytes}
use Rattle.git_objects.specs.Entries.{AreEntries, Before, dir_key, entry_component, entry_dir}
use Rattle.git_objects.specs.Bodies.{is_first, is_listing}
use Rattle.git_objects.specs.Neighbours.{before_dir, is_alone, fits_before, in_order}
use Rattle.git_objects.specs.declared.entry.Entry.{Entry}
use Rattle.git_objects.proofs.Basics.{and_both}

-- ---- orderings

is_lt-Less : (r : Ordering) → is_lt r ≡ true → r ≡ Less
is_lt-Less Less e = refl
is_lt-Less Equal e = absurd (true≢false (sym e))
is_lt-Less Greater e = absurd (true≢false (sym e))

-- at least
not_lt : (r : Ordering) → not (is_lt r) ≡ true → is_gt (ordering_reverse r) ≡ false
not_lt Less e = absurd (true≢false (sym e))
not_lt Equal e = refl
not_lt Greater e = refl

abbrev cmp : Bytes → Bytes → Ordering
cmp x y = slice_cmp nat_cmp x y

-- x ≤ y and y < z
upto_less : (x y z : Bytes) (r : Ordering) → cmp x y ≡ r → is_gt r ≡ false → cmp y z ≡ Less → cmp x z ≡ Less
upto_less x y z Less e h f = nat_list_cmp_total.trans x y z e f
upto_less x y z Equal e h f = nat_list_cmp_total.congr x y z e ∙ f
upto_less x y z Greater e h f = absurd (true≢false h)

never : (x : Bytes) → cmp x x ≡ Less → ⊥
never x e = true≢false (ap is_lt (sym e ∙ tied_itself nat_list_cmp_total x))

-- a component before itself with a slash
slash_after : (c : Bytes) → cmp c (c ++ 47 ∷ []) ≡ Less
slash_after [] = refl
slash_after (x ∷ c) = (λ i. ordering_then (tied_itself nat_cmp_total x i) (slash_after c i))

abbrev key : Entry → Bytes
key e = dir_key e.component (entry_dir e)

false_from : (b : Bool) → (b ≡ true → ⊥) → b ≡ false
false_from true h = absurd (h refl)
false_from false h = refl

not_from : (b : Bool) → (b ≡ true → ⊥) → not b ≡ true
not_from true h = absurd (h refl)
not_from false h = refl

or_right : (x y : Bool) → y ≡ true → (x || y) ≡ true
or_right true y e = refl
or_right false y e = e

-- ---- what stands behind a key, and what has another component

abbrev all_after : Bytes → List Entry → Bool
all_after k [] = true
all_after k (b ∷ bs) = is_lt (cmp k (key b)) && all_after k bs

abbrev distinct : Bytes → List Entry → Bool
distinct c [] = true
distinct c (b ∷ bs) = not (same_bytes c b.component) && distinct c bs

first_after : (a : Entry) (es : List Entry) → is_first a es ≡ true → all_after (key a) es ≡ true
first_after a [] h = refl
first_after a (b ∷ bs) h = and_both (first_so _ _ (first_so _ _ h)) (first_after a bs (second_so _ _ h))

first_distinct : (a : Entry) (es : List Entry) → is_first a es ≡ true → distinct a.component es ≡ true
first_distinct a [] h = refl
first_distinct a (b ∷ bs) h = and_both (second_so _ _ (first_so _ _ h)) (first_distinct a bs (second_so _ _ h))

to_first : (a : Entry) (es : List Entry) → all_after (key a) es ≡ true → distinct a.component es ≡ true → is_first a es ≡ true
to_first a [] h k = refl
to_first a (b ∷ bs) h k =
    let lt : is_lt (cmp (key a) (key b)) ≡ true = first_so _ _ h in
    let other : not (same_bytes a.component b.component) ≡ true = first_so _ _ k in
    let after : all_after (key a) bs ≡ true = second_so _ _ h in
    let rest : distinct a.component bs ≡ true = second_so _ _ k in
    and_both (and_both lt other) (to_first a bs after rest)

-- what stands behind l stands behind each key up to l
after_up : (k l : Bytes) (es : List Entry) → is_gt (cmp k l) ≡ false → all_after l es ≡ true → all_after k es ≡ true
after_up k l [] e h = refl
after_up k l (b ∷ bs) e h =
    and_both (ap is_lt (upto_less k l (key b) (cmp k l) refl e (is_lt-Less _ (first_so _ _ h)))) (after_up k l bs e (second_so _ _ h))

-- nothing behind a directory has its component
dir_less : (c d : Bytes) (v : Bool) → c ≡ d → cmp (c ++ 47 ∷ []) (dir_key d v) ≡ Less → ⊥
dir_less c d true p h = never (d ++ 47 ∷ []) (subst (λ x. cmp (x ++ 47 ∷ []) (d ++ 47 ∷ []) ≡ Less) p h)
dir_less c d false p h =
    never d (nat_list_cmp_total.trans d (d ++ 47 ∷ []) d (slash_after d) (subst (λ x. cmp (x ++ 47 ∷ []) d ≡ Less) p h))

distinct_dir : (c : Bytes) (es : List Entry) → all_after (c ++ 47 ∷ []) es ≡ true → distinct c es ≡ true
distinct_dir c [] h = refl
distinct_dir c (b ∷ bs) h =
    and_both
    (not_from (same_bytes c b.component) (λ e. dir_less c b.component (entry_dir b) ((bytes_decides c b.component).0 e) (is_lt-Less _ (first_so _ _ h))))
    (distinct_dir c bs (second_so _ _ h))

-- ---- the test of neighbours

alone_rest : (c : Bytes) (b : Entry) (bs : List Entry) (v : Bool) → before_dir c b ≡ v → all_after (key b) bs ≡ true → (is_alone c bs ≡ true → distinct c bs ≡ true) → (not v || is_alone c bs) ≡ true → distinct c bs ≡ true
alone_rest c b bs true e h k g = k g
alone_rest c b bs false e h k g =
    distinct_dir c bs
    (after_up (c ++ 47 ∷ []) (key b) bs (ap is_gt (nat_list_cmp_total.antisymm (c ++ 47 ∷ []) (key b)) ∙ not_lt (cmp (key b) (c ++ 47 ∷ [])) (ap not e)) h)

alone_distinct : (c : Bytes) (es : List Entry) → is_listing es ≡ true → is_alone c es ≡ true → distinct c es ≡ true
alone_distinct c [] l h = refl
alone_distinct c (b ∷ bs) l h =
    and_both (first_so _ _ h)
    (alone_rest c b bs (before_dir c b) refl (first_after b bs (second_so _ _ (first_so _ _ l))) (alone_distinct c bs (second_so _ _ l)) (second_so _ _ h))

distinct_alone : (c : Bytes) (es : List Entry) → distinct c es ≡ true → is_alone c es ≡ true
distinct_alone c [] h = refl
distinct_alone c (b ∷ bs) h = and_both (first_so _ _ h) (or_right (not (before_dir c b)) (is_alone c bs) (distinct_alone c bs (second_so _ _ h)))

other_distinct : (c : Bytes) (v : Bool) (es : List Entry) → is_listing es ≡ true → all_after (dir_key c v) es ≡ true → (v || is_alone c es) ≡ true → distinct c es ≡ true
other_distinct c true es l h k = distinct_dir c es h
other_distinct c false es l h k = alone_distinct c es l k

fits_first : (a : Entry) (es : List Entry) → is_listing es ≡ true → fits_before a es ≡ true → is_first a es ≡ true
fits_first a [] l h = refl
fits_first a (b ∷ bs) l h =
    let lt = first_so _ _ h in
    let up : is_gt (cmp (key a) (key b)) ≡ false = ap is_gt (is_lt-Less _ lt) in
    let after : all_after (key a) (b ∷ bs) ≡ true = and_both lt (after_up (key a) (key b) bs up (first_after b bs (second_so _ _ (first_so _ _ l)))) in
    to_first a (b ∷ bs) after (other_distinct a.component (entry_dir a) (b ∷ bs) l after (second_so _ _ h))

first_fits : (a : Entry) (es : List Entry) → is_first a es ≡ true → fits_before a es ≡ true
first_fits a [] h = refl
first_fits a (b ∷ bs) h =
    and_both (first_so _ _ (first_so _ _ h)) (or_right (entry_dir a) (is_alone a.component (b ∷ bs)) (distinct_alone a.component (b ∷ bs) (first_distinct a (b ∷ bs) h)))

order_listing : (es : List Entry) → in_order es ≡ true → is_listing es ≡ true
order_listing [] h = refl
order_listing (a ∷ es) h =
    let rest = order_listing es (second_so _ _ h) in
    let here = first_so _ _ h in
    and_both (and_both (first_so _ _ here) (fits_first a es rest (second_so _ _ here))) rest

listing_order : (es : List Entry) → is_listing es ≡ true → in_order es ≡ true
listing_order [] h = refl
listing_order (a ∷ es) h =
    let here = first_so _ _ h in
    and_both (and_both (first_so _ _ here) (first_fits a es (second_so _ _ here))) (listing_order es (second_so _ _ h))

-- entries are a listing exactly where each stands before its neighbours
pub in_order-listing : (es : List Entry) → in_order es ≡ is_listing es
in_order-listing es = both_ways (in_order es) (is_listing es) (order_listing es) (listing_order es)

-- ---- the test and the relation of a listing

before_first : (a : Entry) (es : List Entry) → Before entry_component entry_dir a es → is_first a es ≡ true
before_first a [] h = refl
before_first a (b ∷ bs) h = and_both (and_both (ap is_lt h.0) (ap not h.1)) (before_first a bs h.2)

false_of : (b : Bool) → not b ≡ true → b ≡ false
false_of true e = absurd (true≢false (sym e))
false_of false e = refl

first_before : (a : Entry) (es : List Entry) → is_first a es ≡ true → Before entry_component entry_dir a es
first_before a [] h = tt
first_before a (b ∷ bs) h =
    let here = first_so _ _ h in
    (is_lt-Less _ (first_so _ _ here), false_of _ (second_so _ _ here), first_before a bs (second_so _ _ h))

pub entries_listing : (es : List Entry) → AreEntries es → is_listing es ≡ true
entries_listing [] h = refl
entries_listing (a ∷ es) h = and_both (and_both h.0 (before_first a es h.1)) (entries_listing es h.2)

pub listing_entries : (es : List Entry) → is_listing es ≡ true → AreEntries es
listing_entries [] h = tt
listing_entries (a ∷ es) h =
    let here = first_so _ _ h in
    (first_so _ _ here, first_before a es (second_so _ _ here), listing_entries es (second_so _ _ h))

-- What is seen of a tree's body, entry by entry.
use Rattle.std.proofs.Common.{◌≡◌, ◌<◌, Bool, true, false, cond, not, ◌&&◌, ◌||◌, List, [], ◌∷◌, length, Option, Some, None, refl, sym, ap, subst, ◌∙◌, true≢false, arith, nat_eq}
use Rattle.std.specs.Prelude.{IsSome, unwrap_or, slice_get}
use Rattle.std.specs.Option.{option_map, option_and_then, is_some, ForSome}
use Rattle.std.proofs.lemmas.Bool.{eqb-true}
use Rattle.std.specs.Ordering.{is_lt}
use Rattle.std.specs.Cmp.{second_so}
use Rattle.git_objects.specs.Paths.{Bytes, same_bytes, is_component}
use Rattle.git_objects.specs.Entries.{git_cmp, entry_component, entry_dir, body_text}
use Rattle.git_objects.specs.Bodies.{entry_from, is_first, is_listing, if_listed, tree_entries}
use Rattle.git_objects.specs.Neighbours.{spelled_entries, before_dir, is_alone, fits_before, stands}
use Rattle.git_objects.specs.declared.entry.Entry.{Entry}
use Rattle.git_objects.proofs.IdentSpelling.{some_same}
use Rattle.git_objects.proofs.Neighbours.{in_order-listing}
use Rattle.git_objects.proofs.TreeReading.{read_text, spelled-entry, spelled-none}

-- ---- whether a component stands alone

abbrev alone_in : Bytes → Option (List Entry) → Option Bool
alone_in c o = option_map (is_alone c) o

pub for_same : {A : Type 0} (f : A → Bool) (o p : Option A) (v : Bool) → option_map f o ≡ option_map f p → ForSome o (λ x. v ≡ f x) → ForSome p (λ x. v ≡ f x)
for_same f None p v e h y q = let k : None ≡ Some (f y) = e ∙ ap (option_map f) q in cc
for_same f (Some x) p v e h y q = h x refl ∙ some_same (f x) (f y) (e ∙ ap (option_map f) q)

alone_cons : (c : Bytes) (e : Entry) (o : Option (List Entry)) → same_bytes c e.component ≡ false → before_dir c e ≡ true → alone_in c (option_map (λ es. e ∷ es) o) ≡ alone_in c o
alone_cons c e None s d = refl
alone_cons c e (Some es) s d = λ i. Some (not (s i) && (not (d i) || is_alone c es))

pub alone_step : (c b : Bytes) (e : Entry) (r : Bytes) → entry_from b ≡ Some (e, r) → same_bytes c e.component ≡ false → before_dir c e ≡ true → alone_in c (spelled_entries r) ≡ alone_in c (spelled_entries b)
alone_step c b e r h s d = sym (ap (alone_in c) (spelled-entry b e r h) ∙ alone_cons c e (spelled_entries r) s d)

for_cons : (e : Entry) (o : Option (List Entry)) (f : List Entry → Bool) (v : Bool) → ((es : List Entry) → o ≡ Some es → v ≡ f (e ∷ es)) → ForSome (option_map (λ es. e ∷ es) o) (λ es. v ≡ f es)
for_cons e None f v h x q = cc
for_cons e (Some es) f v h x q = h es refl ∙ ap f (some_same (e ∷ es) x q)

-- what holds of each list that begins with the first entry
pub for_entry : (b : Bytes) (e : Entry) (r : Bytes) (f : List Entry → Bool) (v : Bool) → entry_from b ≡ Some (e, r) → ((es : List Entry) → spelled_entries b ≡ Some (e ∷ es) → v ≡ f (e ∷ es)) → ForSome (spelled_entries b) (λ es. v ≡ f es)
for_entry b e r f v h k =
    subst (λ (o : Option (List Entry)). ForSome o (λ es. v ≡ f es)) (sym (spelled-entry b e r h))
    (for_cons e (spelled_entries r) f v (λ es q. k es (spelled-entry b e r h ∙ ap (option_map (λ (ds : List Entry). e ∷ ds)) q)))

-- ---- whether an entry fits before the next

abbrev lt : Entry → Entry → Bool
lt a b = is_lt (git_cmp entry_component entry_dir a b)

fits-is : (a b : Entry) (es : List Entry) (d w : Bool) → lt a b ≡ true → entry_dir a ≡ d → is_alone a.component (b ∷ es) ≡ w → fits_before a (b ∷ es) ≡ (d || w)
fits-is a b es d w l e f = λ i. l i && (e i || f i)

module _ (a b : Entry) (after r : Bytes) (next : entry_from after ≡ Some (b, r)) (v : Bool) where
  pub fits_dir : lt a b ≡ true → v ≡ entry_dir a → v ≡ true → ForSome (spelled_entries after) (λ es. v ≡ fits_before a es)
  fits_dir l d t = for_entry after b r (fits_before a) v next (λ es q. t ∙ sym (fits-is a b es true (is_alone a.component (b ∷ es)) l (sym d ∙ t) refl))

  pub fits_file : lt a b ≡ true → entry_dir a ≡ false → ForSome (spelled_entries r) (λ es. v ≡ is_alone a.component (b ∷ es)) → ForSome (spelled_entries after) (λ es. v ≡ fits_before a es)
  fits_file l d h =
      subst (λ (o : Option (List Entry)). ForSome o (λ es. v ≡ fits_before a es)) (sym (spelled-entry after b r next))
      (for_cons b (spelled_entries r) (fits_before a) v (λ es q. h es q ∙ sym (fits-is a b es false (is_alone a.component (b ∷ es)) l d refl)))

  pub fits_not : v ≡ lt a b → v ≡ false → ForSome (spelled_entries after) (λ es. v ≡ fits_before a es)
  fits_not l n = for_entry after b r (fits_before a) v next (λ es q. n ∙ sym (λ i. (sym l ∙ n) i && (entry_dir a || is_alone a.component (b ∷ es))))

-- ---- bodies, entry by entry

pub none_of : {A : Type 0} (o : Option A) → is_some o ≡ false → None ≡ o
none_of None e = refl
none_of (Some x) e = absurd (true≢false e)

pub value_of : {A : Type 0} (o : Option A) (d : A) → IsSome o → Some (unwrap_or o d) ≡ o
value_of None d e = absurd (true≢false (sym e))
value_of (Some x) d e = refl

listed_some : (es : List Entry) → is_some (if_listed es) ≡ is_listing es
listed_some es = elim (is_listing es) as (λ v. is_some (cond v (Some es) None) ≡ v) [ true ↦ refl | false ↦ refl ]

and_false : (v : Bool) → false ≡ (v && false)
and_false true = refl
and_false false = refl

stands_cons : (e : Entry) (o : Option (List Entry)) (v : Bool) → ForSome o (λ es. v ≡ stands e es) → is_some (option_and_then if_listed (option_map (λ es. e ∷ es) o)) ≡ (v && is_some (option_and_then if_listed o))
stands_cons e None v h = and_false v
stands_cons e (Some es) v h =
    listed_some (e ∷ es)
    ∙ sym (in_order-listing (e ∷ es))
    ∙ (λ i. sym (h es refl) i && in_order-listing es i)
    ∙ ap (λ w. v && w) (sym (listed_some es))

-- a body whose first entry stands is one exactly where the rest is one
pub step_stands : (b : Bytes) (e : Entry) (r : Bytes) (v : Bool) → entry_from b ≡ Some (e, r) → ForSome (spelled_entries r) (λ es. v ≡ stands e es) → is_some (tree_entries b) ≡ (v && is_some (tree_entries r))
unfolding tree_entries
step_stands b e r v h k = ap (λ o. is_some (option_and_then if_listed o)) (spelled-entry b e r h) ∙ stands_cons e (spelled_entries r) v k

-- no body begins without an entry
pub tree_none : (b : Bytes) → 0 < length b → entry_from b ≡ None → is_some (tree_entries b) ≡ false
unfolding tree_entries
tree_none b p h = ap (λ o. is_some (option_and_then if_listed o)) (spelled-none b p h)

pub tree_empty : is_some (tree_entries []) ≡ true
unfolding tree_entries
tree_empty = refl

pub none_listed : unwrap_or (tree_entries []) [] ≡ []
unfolding tree_entries
none_listed = refl

next_cons : (e : Entry) (o : Option (List Entry)) → IsSome (option_and_then if_listed (option_map (λ es. e ∷ es) o)) → (es : List Entry) × (option_and_then if_listed (option_map (λ es. e ∷ es) o) ≡ Some (e ∷ es)) × (option_and_then if_listed o ≡ Some es)
next_cons e None h = absurd (true≢false (sym h))
next_cons e (Some es) h =
    let listed : is_listing (e ∷ es) ≡ true = sym (listed_some (e ∷ es)) ∙ h in
    (es, ap (λ v. cond v (Some (e ∷ es)) None) listed, ap (λ v. cond v (Some es) None) (second_so (is_component e.component && is_first e es) (is_listing es) listed))

-- the first entry of a body, and the entries that are left
pub tree_next : (b : Bytes) (e : Entry) (r : Bytes) → entry_from b ≡ Some (e, r) → IsSome (tree_entries b) → (es : List Entry) × (tree_entries b ≡ Some (e ∷ es)) × (tree_entries r ≡ Some es)
unfolding tree_entries
tree_next b e r h k =
    let n = next_cons e (spelled_entries r) (ap (λ o. is_some (option_and_then if_listed o)) (sym (spelled-entry b e r h)) ∙ k) in
    (n.0, ap (option_and_then if_listed) (spelled-entry b e r h) ∙ n.1, n.2)

pub tree_end : (b : Bytes) → entry_from b ≡ None → IsSome (tree_entries b) → tree_entries b ≡ Some []
unfolding tree_entries
tree_end [] h k = refl
tree_end (x ∷ b) h k = absurd (true≢false (sym k ∙ tree_none (x ∷ b) (omega arith) h))

-- a body that lists an entry first begins with it
pub tree_first : (b : Bytes) (e : Entry) → IsSome (tree_entries b) → slice_get (unwrap_or (tree_entries b) []) 0 ≡ Some e → (r : Bytes) × (entry_from b ≡ Some (e, r))
tree_first b e k h = found (entry_from b) refl
  where
    found : (o : Option (Entry × Bytes)) → entry_from b ≡ o → (r : Bytes) × (entry_from b ≡ Some (e, r))
    found None f = let none = sym h ∙ ap (λ (o : Option (List Entry)). slice_get (unwrap_or o []) 0) (tree_end b f k) in cc
    found (Some p) f =
        let n = tree_next b p.0 p.1 f k in
        let same : Some e ≡ Some p.0 = sym h ∙ ap (λ (o : Option (List Entry)). slice_get (unwrap_or o []) 0) n.1 in
        (p.1, f ∙ ap (λ (x : Entry). Some (x, p.1)) (sym (some_same e p.0 same)))

pub nothing_left : (b : Bytes) → true ≡ nat_eq (length b) 0 → is_some (tree_entries b) ≡ true
nothing_left [] e = tree_empty
nothing_left (x ∷ b) e = let none : length (x ∷ b) ≡ 0 = eqb-true (length (x ∷ b)) 0 (sym e) in absurd (omega arith)

-- the bytes that are left spell the entries that are left
pub tree_text : (b : Bytes) → IsSome (tree_entries b) → b ≡ body_text (unwrap_or (tree_entries b) [])
tree_text b h = by (tree_entries b) refl h
  where
    by : (o : Option (List Entry)) → tree_entries b ≡ o → IsSome o → b ≡ body_text (unwrap_or o [])
    by None e g = absurd (true≢false (sym g))
    by (Some es) e g = sym (read_text b es e)

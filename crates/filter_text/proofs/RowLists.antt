-- Filters made of a vector of members.
use Rattle.std.proofs.Common.{◌≡◌, rules, refl, ap, ◌∙◌, sym, List, [], ◌∷◌, ◌++◌, length, arith, ◌≢◌, length-append}
use Rattle.std.specs.Global.{Vec}
use Rattle.filter_text.specs.Filters as plain
use Rattle.filter_text.specs.Filters.{append, only}
use Rattle.filter_text.specs.Reading.{inside, linked}
use Rattle.filter_text.specs.Shapes.{shape, shape_row, shapes}
use Rattle.filter_text.specs.declared.filter.Filter.{Filter, Join, Chain, Row_of-Filter, end_of-Filter, more_of-Filter, items-the_row-Filter}
use Rattle.filter_text.specs.declared.filter.Filter.TheViews.{the_lemmas}

pub row-list : (n : _) (k : Row_of-Filter n) → shape_row k ≡ shapes (items-the_row-Filter n k)
row-list n end_of-Filter = refl
row-list n (more_of-Filter f rest) = ap (plain.more (shape f)) (row-list _ rest)

pub shape-join : (v : Vec Filter) → shape (Join v) ≡ plain.join (shapes v.items)
shape-join v = search (rules, the_lemmas, row-list)

pub shape-chain : (v : Vec Filter) → shape (Chain v) ≡ plain.chain (shapes v.items)
shape-chain v = search (rules, the_lemmas, row-list)

pub shapes-append : (xs ys : List Filter) → shapes (xs ++ ys) ≡ append (shapes xs) (shapes ys)
shapes-append [] ys = refl
shapes-append (x ∷ xs) ys = ap (plain.more (shape x)) (shapes-append xs ys)

-- lists of other than one, and of one
pub inside-join : (xs : List Filter) → length xs ≢ 1 → plain.join (shapes xs) ≡ inside (shapes xs)
inside-join [] h = refl
inside-join (x ∷ []) h = absurd (h refl)
inside-join (x ∷ y ∷ xs) h = refl

pub linked-chain : (xs : List Filter) → length xs ≢ 1 → plain.chain (shapes xs) ≡ linked (shapes xs)
linked-chain [] h = refl
linked-chain (x ∷ []) h = absurd (h refl)
linked-chain (x ∷ y ∷ xs) h = refl

one_left : (xs ys : List Filter) (x : Filter) → xs ≡ ys ++ x ∷ [] → length xs ≡ 1 → xs ≡ x ∷ []
one_left xs [] x e l = e
one_left xs (y ∷ ys) x e l = absurd (omega (arith, ap length e, length-append ys (x ∷ [])))

pub inside-one : (xs ys : List Filter) (x : Filter) → xs ≡ ys ++ x ∷ [] → length xs ≡ 1 → shape x ≡ inside (shapes xs)
inside-one xs ys x e l = sym (ap (λ zs. inside (shapes zs)) (one_left xs ys x e l))

pub linked-one : (xs ys : List Filter) (x : Filter) → xs ≡ ys ++ x ∷ [] → length xs ≡ 1 → shape x ≡ linked (shapes xs)
linked-one xs ys x e l = sym (ap (λ zs. linked (shapes zs)) (one_left xs ys x e l))

pub row_join : (v : Vec Filter) → shape (Join v) ≡ plain.join (shapes v.items)
row_join v = shape-join v

-- one filter more
pub pushed : (xs ys : List Filter) (x : Filter) → ys ≡ xs ++ x ∷ [] → shapes ys ≡ append (shapes xs) (only (shape x))
pushed xs ys x e = ap shapes e ∙ shapes-append xs (x ∷ [])

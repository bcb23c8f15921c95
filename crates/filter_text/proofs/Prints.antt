-- Texts of filters that grow at their end.
use Rattle.std.proofs.Common.{◌≡◌, ◌≢◌, Bool, true, false, List, [], ◌∷◌, ◌++◌, length, refl, sym, ap, ◌∙◌, append_assoc, append-nil, arith}
use Rattle.std.specs.Prelude.{codes}
use Rattle.std.specs.Prelude.{Result, Ok, Err, OnOk, is_ok, cond}
use Rattle.std.specs.Global.{Vec}
use Rattle.git_objects.specs.Paths.{Bytes}
use Rattle.filter_text.specs.Filters as plain
use Rattle.filter_text.specs.Shapes.{shape, shapes}
use Rattle.filter_text.specs.Printing.{list_text, printed, printed_inside, printed_listed, printed_members, printed_further, printed_pieces}
use Rattle.filter_text.specs.Views.{comma}
use Rattle.filter_text.specs.declared.filter.Filter.{Filter, Join, Chain}
use Rattle.filter_text.proofs.RowLists.{shape-join, shape-chain}

pub on_ok : {A E : Type 0} (r : Result A E) (x a b : Bytes) → a ≡ b → OnOk r (x ≡ a) → OnOk r (x ≡ b)
on_ok (Ok y) x a b e h = h ∙ e
on_ok (Err y) x a b e h = tt

pub on_ok_if : {A E : Type 0} (r : Result A E) (x a b d : Bytes) → a ≡ b → x ≡ cond (is_ok r) a d → OnOk r (x ≡ b)
on_ok_if (Ok y) x a b d e h = h ∙ e
on_ok_if (Err y) x a b d e h = tt

pub join-text : (f : Filter) (v : Vec Filter) → f ≡ Join v → printed (shape f) ≡ list_text (printed_members (shapes v.items))
join-text f v e = ap (λ g. printed (shape g)) e ∙ ap printed (shape-join v)

pub chain-text : (f : Filter) (v : Vec Filter) → f ≡ Chain v → printed (shape f) ≡ printed_pieces (shapes v.items)
chain-text f v e = ap (λ g. printed (shape g)) e ∙ ap printed (shape-chain v)

listed-one : (xs : List Filter) → length xs ≡ 1 → printed_listed (shapes xs) ≡ list_text (printed_members (shapes xs))
listed-one [] h = absurd (omega arith)
listed-one (x ∷ []) h = ap list_text (sym (append-nil (printed (shape x))))
listed-one (x ∷ y ∷ xs) h = absurd (omega arith)

listed-other : (xs : List Filter) → length xs ≢ 1 → printed_listed (shapes xs) ≡ printed_members (shapes xs)
listed-other [] h = refl
listed-other (x ∷ []) h = absurd (h refl)
listed-other (x ∷ y ∷ xs) h = refl

pub inside-one-text : (f : Filter) (v : Vec Filter) → f ≡ Join v → length v.items ≡ 1 → printed_inside (shape f) ≡ printed (shape f)
inside-one-text f v e l =
    ap (λ g. printed_inside (shape g)) e ∙ ap printed_inside (shape-join v) ∙ listed-one v.items l ∙ sym (join-text f v e)

pub inside-other-text : (f : Filter) (v : Vec Filter) → f ≡ Join v → length v.items ≢ 1 → printed_inside (shape f) ≡ printed_members (shapes v.items)
inside-other-text f v e l =
    ap (λ g. printed_inside (shape g)) e ∙ ap printed_inside (shape-join v) ∙ listed-other v.items l

pub list-put : (out pm : Bytes) → ((out ++ codes ":[") ++ pm) ++ 93 ∷ [] ≡ out ++ list_text pm
list-put out pm = simp append_assoc

-- members behind others or not
abbrev pub printed_from : Bool → plain.Filters → Bytes
printed_from false fs = printed_members fs
printed_from true fs = printed_further fs

pub from-more : (b : Bool) (f : plain.Filter) (fs : plain.Filters) (out : Bytes) →
    ((out ++ comma b) ++ printed f) ++ printed_from true fs ≡ out ++ printed_from b (plain.more f fs)
from-more true f fs out = simp append_assoc
from-more false f fs out = simp (append_assoc, append-nil)

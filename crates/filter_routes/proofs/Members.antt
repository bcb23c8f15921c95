-- The members before a place, the one there, and those behind.
use Rattle.std.specs.Prelude.{◌≡◌, ℕ, ◌+◌, ◌<◌, List, [], ◌∷◌, ◌++◌, length, drop, take}
use Rattle.std.proofs.Common.{ap, ◌∙◌, sym, get_or}
use Rattle.std.proofs.lemmas.List.{drop_more, take_more, take-append-drop}
use Rattle.filter_text.specs.Filters.{append, more, only}
use Rattle.filter_text.specs.Shapes.{shape, shapes}
use Rattle.filter_text.specs.declared.filter.Filter as code
use Rattle.filter_text.proofs.RowLists.{shapes-append}

pub members-split : (ms : List code.Filter) (i : ℕ) (m : code.Filter) → i < length ms → m ≡ get_or ms i m → shapes ms ≡ append (shapes (take i ms)) (more (shape m) (shapes (drop (i + 1) ms)))
members-split ms i m l e =
    ap shapes (sym (take-append-drop i ms)) ∙ shapes-append (take i ms) (drop i ms)
    ∙ ap (λ xs. append (shapes (take i ms)) (shapes xs)) (drop_more ms i m l ∙ ap (λ x. x ∷ drop (i + 1) ms) (sym e))

pub members-next : (ms : List code.Filter) (i : ℕ) (m : code.Filter) → i < length ms → m ≡ get_or ms i m → shapes (take (i + 1) ms) ≡ append (shapes (take i ms)) (only (shape m))
members-next ms i m l e =
    ap shapes (take_more ms i m l ∙ ap (λ x. take i ms ++ x ∷ []) (sym e)) ∙ shapes-append (take i ms) (m ∷ [])

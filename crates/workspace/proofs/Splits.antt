-- A filter around its workspace, by the places of its pieces.
use Rattle.std.specs.Prelude.{◌≡◌, refl, ℕ, zero, suc, false, eqb, ◌+◌, ◌-◌, ◌<◌, List, [], ◌∷◌, length, drop, take, Option, Some, None}
use Rattle.std.specs.Option.{option_map}
use Rattle.std.proofs.Common.{ap, ◌∙◌, get_or, arith, true≢false}
use Rattle.std.proofs.lemmas.List.{take_all, length-drop}
use Rattle.git_objects.specs.Paths.{Path}
use Rattle.filter_text.specs.Filters.{Filter, Filters, no_more, more, append, only, chain}
use Rattle.filter_text.specs.Reading.{linked}
use Rattle.filter_text.specs.Shapes.{shape, shapes}
use Rattle.filter_text.specs.declared.filter.Filter as code
use Rattle.filter_routes.proofs.Members.{members-split, members-next}
use Rattle.workspace.specs.Workspaces.{Split, directory_of, in_front, split_at, split_pieces}

none-front : (f : Filter) (o : Option Split) → option_map (in_front f) o ≡ None → o ≡ None
none-front f None e = refl
none-front f (Some s) e = cc

-- where there is no workspace, neither the first piece is one nor a later one
none-parts : (f : Filter) (fs : Filters) (o : Option Path) (later : Option Split) → split_at f fs o later ≡ None → (o ≡ None) × (later ≡ None)
none-parts f fs None later e = (refl, none-front f later e)
none-parts f fs (Some w) later e = cc

at-workspace : (fs gs : Filters) (g : Filter) (w : Path) → split_pieces fs ≡ None → directory_of g ≡ Some w → split_pieces (append fs (more g gs)) ≡ Some (record { before = fs; directory = w; behind = gs })
at-workspace no_more gs g w e h = ap (λ o. split_at g gs o (split_pieces gs)) h
at-workspace (more f fs) gs g w e h =
    let p = none-parts f fs (directory_of f) (split_pieces fs) e in
    ap (λ o. split_at f (append fs (more g gs)) o (split_pieces (append fs (more g gs)))) p.0
    ∙ ap (option_map (in_front f)) (at-workspace fs gs g w p.1 h)

no-workspace : (fs : Filters) (g : Filter) → split_pieces fs ≡ None → directory_of g ≡ None → split_pieces (append fs (only g)) ≡ None
no-workspace no_more g e h = ap (λ o. split_at g no_more o None) h
no-workspace (more f fs) g e h =
    let p = none-parts f fs (directory_of f) (split_pieces fs) e in
    ap (λ o. split_at f (append fs (only g)) o (split_pieces (append fs (only g)))) p.0
    ∙ ap (option_map (in_front f)) (no-workspace fs g p.1 h)

pub split-here : (ms : List code.Filter) (i : ℕ) (m : code.Filter) (w : Path) → i < length ms → m ≡ get_or ms i m → split_pieces (shapes (take i ms)) ≡ None → directory_of (shape m) ≡ Some w
    → split_pieces (shapes ms) ≡ Some (record { before = shapes (take i ms); directory = w; behind = shapes (drop (i + 1) ms) })
split-here ms i m w l e n h = ap split_pieces (members-split ms i m l e) ∙ at-workspace (shapes (take i ms)) (shapes (drop (i + 1) ms)) (shape m) w n h

pub split-past : (ms : List code.Filter) (i : ℕ) (m : code.Filter) → i < length ms → m ≡ get_or ms i m → split_pieces (shapes (take i ms)) ≡ None → directory_of (shape m) ≡ None
    → split_pieces (shapes (take (i + 1) ms)) ≡ None
split-past ms i m l e n h = ap split_pieces (members-next ms i m l e) ∙ no-workspace (shapes (take i ms)) (shape m) n h

-- all from a place on
pub from-place : {A : Type 0} (xs : List A) (n : ℕ) → take (length xs - n) (drop n xs) ≡ drop n xs
from-place xs n = take_all (length xs - n) (drop n xs) (omega (arith, length-drop n xs))

-- ---- pieces around a list

pub linked-around : (xs ys : List code.Filter) (l : Filter) → 0 < length xs + length ys → chain (append (shapes xs) (more l (shapes ys))) ≡ linked (append (shapes xs) (more l (shapes ys)))
linked-around [] [] l h = absurd (omega (arith, h))
linked-around [] (y ∷ ys) l h = refl
linked-around (x ∷ []) ys l h = refl
linked-around (x ∷ y ∷ xs) ys l h = refl

pub linked-alone : (xs ys : List code.Filter) (l : Filter) → length xs ≡ 0 → length ys ≡ 0 → l ≡ linked (append (shapes xs) (more l (shapes ys)))
linked-alone [] [] l h k = refl
linked-alone [] (y ∷ ys) l h k = absurd (omega (arith, k))
linked-alone (x ∷ xs) ys l h k = absurd (omega (arith, h))

pub filled : (n : ℕ) → eqb n 0 ≡ false → 0 < n
filled zero h = absurd (true≢false h)
filled (suc n) h = omega arith

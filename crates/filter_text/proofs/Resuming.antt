-- Reading with open brackets, step by step.
use Rattle.std.proofs.Common.{◌≡◌, ◌≢◌, ◌<◌, ◌≤◌, ℕ, true, false, cond, List, [], ◌∷◌, ◌++◌, length, drop, Option, Some, None, refl, sym, ap, ◌∙◌, arith}
use Rattle.std.proofs.lemmas.List.{reverse-append}
use Rattle.std.specs.Prelude.{reverse}
use Rattle.std.specs.Option.{option_map, option_and_then}
use Rattle.git_objects.specs.Paths.{Bytes, Path}
use Rattle.filter_text.specs.Filters.{Filter, Filters, no_more, more, append, only}
use Rattle.filter_text.specs.Shapes.{shapes}
use Rattle.filter_text.specs.Texts.{Read, begins, gap, target_at}
use Rattle.filter_text.specs.Reading.{word_at, bracketed, piece_of, with_first, more_pieces, made, member_of, goes_on, more_members, pieces_at, list_at}
use Rattle.filter_text.specs.Nesting.{enclosed, leaf_of, with_front, after_list, nested, HasMember, resumed, answer, left}
use Rattle.filter_text.specs.declared.word.Word.{Word}
use Rattle.filter_text.specs.declared.word.Word.TheVariants as words
use Rattle.filter_text.specs.declared.frame.Bracket.{Bracket}
use Rattle.filter_text.specs.declared.frame.Frame.{Frame}
use Rattle.filter_text.specs.declared.frame.At.{At}
use Rattle.filter_text.specs.declared.frame.At.TheVariants as places
use Rattle.std.specs.Prelude.{Result, Ok, Err, IfOk}
use Rattle.std.specs.Borrow.{Bor}
use Rattle.std.specs.declared.alloc.AllocError.{AllocError}
use Rattle.filter_text.proofs.Steps.{pieces_step, list_step}

-- ---- the brackets, the innermost first

pub nested-push : (xs ys : List Frame) (x : Frame) → ys ≡ xs ++ x ∷ [] → nested ys ≡ x ∷ nested xs
unfolding nested
nested-push xs ys x e = ap reverse e ∙ reverse-append xs (x ∷ [])

pub nested-nil : nested [] ≡ []
unfolding nested
nested-nil = refl

pub nested-empty : (xs : List Frame) → length xs ≡ 0 → nested xs ≡ []
nested-empty [] e = nested-nil
nested-empty (x ∷ xs) e = absurd (omega arith)

-- what was read before a step is what is read after it, also seen in another way
pub told : (a b : Read Filters) (frames : List Frame) (fs : Filters) (r : Result (At × Bor Bytes) AllocError) → b ≡ a →
    IfOk r (λ x. a ≡ answer frames fs x.0 x.1.now) → IfOk r (λ x. b ≡ answer frames fs x.0 x.1.now)
told a b frames fs (Ok x) e h = e ∙ h
told a b frames fs (Err x) e h = tt

-- and less is left
pub nearer : (a b : ℕ) (r : Result (At × Bor Bytes) AllocError) → a < b → IfOk r (λ x. left x.0 x.1.now ≤ a) → IfOk r (λ x. left x.0 x.1.now < b)
nearer a b (Ok x) e h = omega arith
nearer a b (Err x) e h = tt

pub near : (a b : ℕ) (r : Result (At × Bor Bytes) AllocError) → a ≤ b → IfOk r (λ x. left x.0 x.1.now ≤ a) → IfOk r (λ x. left x.0 x.1.now ≤ b)
near a b (Ok x) e h = omega arith
near a b (Err x) e h = tt

-- ---- pieces in front

pub append-one : (fs gs : Filters) (g : Filter) → append fs (more g gs) ≡ append (append fs (only g)) gs
append-one no_more gs g = refl
append-one (more f fs) gs g = ap (more f) (append-one fs gs g)

front-first : (fs : Filters) (g : Filter) (x : Read Filters) → with_front fs (with_first g x) ≡ with_front (append fs (only g)) x
front-first fs g None = refl
front-first fs g (Some x) = ap (λ gs. Some (gs, x.1)) (append-one fs x.0 g)

front-none : (x : Read Filters) → with_front no_more x ≡ x
front-none None = refl
front-none (Some x) = refl

-- ---- where nothing is read

pub resumed-none : (frames : List Frame) → resumed frames None ≡ None
resumed-none [] = refl
resumed-none (f ∷ outer) = resumed-none outer

-- ---- behind a piece

module _ (frames : List Frame) (fs : Filters) (f : Filter) (t : Bytes) where
  pub piece_more : begins 58 t ≡ true →
      resumed frames (with_front fs (more_pieces pieces_at (f, t))) ≡ answer frames (append fs (only f)) places.Piece t
  piece_more h =
      ap (λ b. resumed frames (with_front fs (cond b (with_first f (pieces_at t)) (Some (only f, t))))) h
      ∙ ap (resumed frames) (front-first fs f (pieces_at t))

  pub piece_last : begins 58 t ≡ false →
      resumed frames (with_front fs (more_pieces pieces_at (f, t))) ≡ resumed frames (Some (append fs (only f), t))
  piece_last h = ap (λ b. resumed frames (with_front fs (cond b (with_first f (pieces_at t)) (Some (only f, t))))) h

-- ---- behind a chain

pub chain_refused : (f : Frame) (outer : List Frame) (fs : Filters) (t : Bytes) → goes_on t ≡ false →
    resumed (f ∷ outer) (Some (fs, t)) ≡ None
chain_refused f outer fs t h =
    ap (λ b. resumed outer (after_list f (cond b (with_first (made f.target fs) (list_at t)) None))) h
    ∙ resumed-none outer

list_with : (f g : Frame) (chain : Filters) (x : Read Filters) → HasMember f chain g →
    after_list f (with_first (made f.target chain) x) ≡ after_list g x
list_with f g chain x h =
    ap (λ y. with_front (shapes f.before.items) (option_and_then (more_pieces pieces_at) (bracketed (enclosed f.bracket) y)))
    (front-first (shapes f.members.items) (made f.target chain) x)
    ∙ (λ i. with_front (sym h.before i) (option_and_then (more_pieces pieces_at) (bracketed (enclosed (sym h.bracket i)) (with_front (sym h.members i) x))))

pub chain_goes_on : (f g : Frame) (outer : List Frame) (fs : Filters) (chain : Filters) (t : Bytes) → goes_on t ≡ true → HasMember f fs g →
    resumed (f ∷ outer) (Some (fs, t)) ≡ answer (g ∷ outer) chain places.Inside t
chain_goes_on f g outer fs chain t h m =
    ap (λ b. resumed outer (after_list f (cond b (with_first (made f.target fs) (list_at t)) None))) h
    ∙ ap (resumed outer) (list_with f g fs (list_at t) m)

-- ---- brackets

pub bracket_opens : (f : Frame) (outer : List Frame) (bracket : Bracket) (before chain : Filters) (t : Bytes) →
    f.bracket ≡ bracket → shapes f.before.items ≡ before → shapes f.members.items ≡ no_more →
    resumed outer (with_front before (option_and_then (more_pieces pieces_at) (bracketed (enclosed bracket) (list_at t))))
    ≡ answer (f ∷ outer) chain places.Inside t
bracket_opens f outer bracket before chain t b p m =
    ap (resumed outer)
    (sym ((λ i. with_front (p i) (option_and_then (more_pieces pieces_at) (bracketed (enclosed (b i)) (with_front (m i) (list_at t)))))
    ∙ ap (λ y. with_front before (option_and_then (more_pieces pieces_at) (bracketed (enclosed bracket) y))) (front-none (list_at t))))

pub append-none : (fs : Filters) → append fs no_more ≡ fs
append-none no_more = refl
append-none (more f fs) = ap (more f) (append-none fs)

pub bracket_closes : (f : Frame) (outer : List Frame) (t : Bytes) →
    resumed outer (after_list f (Some (no_more, t)))
    ≡ resumed outer (with_front (shapes f.before.items) (more_pieces pieces_at (enclosed f.bracket (shapes f.members.items), t)))
bracket_closes f outer t =
    ap (λ fs. resumed outer (with_front (shapes f.before.items) (more_pieces pieces_at (enclosed f.bracket fs, t))))
    (append-none (shapes f.members.items))

-- ---- at a piece

pub at_none : (frames : List Frame) (fs : Filters) (t : Bytes) → word_at t ≡ None → answer frames fs places.Piece t ≡ None
at_none frames fs t h =
    ap (λ x. resumed frames (with_front fs x)) (pieces_step t)
    ∙ ap (λ x. resumed frames (with_front fs (option_and_then (more_pieces pieces_at) (option_and_then (piece_of list_at) x)))) h
    ∙ resumed-none frames

pub at_word : (frames : List Frame) (fs : Filters) (t r : Bytes) (w : Word) → word_at t ≡ Some (w, r) →
    answer frames fs places.Piece t ≡ resumed frames (with_front fs (option_and_then (more_pieces pieces_at) (piece_of list_at (w, r))))
at_word frames fs t r w h =
    ap (λ x. resumed frames (with_front fs x)) (pieces_step t)
    ∙ ap (λ x. resumed frames (with_front fs (option_and_then (more_pieces pieces_at) (option_and_then (piece_of list_at) x)))) h

pub leaf-is : (w : Word) (list : Bytes → Read Filters) (t : Bytes) → w ≢ words.Exclude → w ≢ words.Join → piece_of list (w, t) ≡ leaf_of w t
leaf-is words.Nop list t h k = refl
leaf-is words.Sub list t h k = refl
leaf-is words.Prefix list t h k = refl
leaf-is words.Kept list t h k = refl
leaf-is words.Exclude list t h k = absurd (h refl)
leaf-is words.Join list t h k = absurd (k refl)
leaf-is words.Workspace list t h k = refl

-- ---- in a list

pub at_close : (f : Frame) (outer : List Frame) (fs : Filters) (t : Bytes) → begins 93 (gap t).1 ≡ true →
    answer (f ∷ outer) fs places.Inside t ≡ resumed outer (after_list f (Some (no_more, drop 1 (gap t).1)))
at_close f outer fs t h =
    ap (λ x. resumed outer (after_list f x)) (list_step t)
    ∙ ap (λ b. resumed outer (after_list f (cond b (Some (no_more, drop 1 (gap t).1)) (option_and_then (more_members list_at) (option_and_then (member_of pieces_at) (target_at (gap t).1)))))) h

pub at_member : (f : Frame) (outer : List Frame) (fs : Filters) (t : Bytes) → begins 93 (gap t).1 ≡ false →
    answer (f ∷ outer) fs places.Inside t
    ≡ resumed outer (after_list f (option_and_then (more_members list_at) (option_and_then (member_of pieces_at) (target_at (gap t).1))))
at_member f outer fs t h =
    ap (λ x. resumed outer (after_list f x)) (list_step t)
    ∙ ap (λ b. resumed outer (after_list f (cond b (Some (no_more, drop 1 (gap t).1)) (option_and_then (more_members list_at) (option_and_then (member_of pieces_at) (target_at (gap t).1)))))) h

pub member_begins : (f g : Frame) (outer : List Frame) (fs : Filters) (target : Option Path) (t r : Bytes) →
    target_at t ≡ Some (target, r) → g.bracket ≡ f.bracket → shapes g.before.items ≡ shapes f.before.items →
    shapes g.members.items ≡ shapes f.members.items → g.target ≡ target → fs ≡ no_more →
    resumed outer (after_list f (option_and_then (more_members list_at) (option_and_then (member_of pieces_at) (target_at t))))
    ≡ answer (g ∷ outer) fs places.Piece r
member_begins f g outer fs target t r h b p m e n =
    ap (λ x. resumed outer (after_list f (option_and_then (more_members list_at) (option_and_then (member_of pieces_at) x)))) h
    ∙ (λ i. resumed outer (with_front (sym p i) (option_and_then (more_pieces pieces_at) (bracketed (enclosed (sym b i)) (with_front (sym m i)
    (option_and_then (more_members list_at) (option_map (λ y. (made (sym e i) y.0, y.1)) (sym (front-none (pieces_at r)) i))))))))
    ∙ ap (λ c. resumed (g ∷ outer) (with_front c (pieces_at r))) (sym n)

pub member_refused : (f : Frame) (outer : List Frame) (t : Bytes) → target_at t ≡ None →
    resumed outer (after_list f (option_and_then (more_members list_at) (option_and_then (member_of pieces_at) (target_at t)))) ≡ None
member_refused f outer t h =
    ap (λ x. resumed outer (after_list f (option_and_then (more_members list_at) (option_and_then (member_of pieces_at) x)))) h
    ∙ resumed-none outer

-- ---- behind a word

module _ (frames : List Frame) (fs : Filters) (w : Word) (t : Bytes) where
  pub leaf_refused : piece_of list_at (w, t) ≡ None →
      resumed frames (with_front fs (option_and_then (more_pieces pieces_at) (piece_of list_at (w, t)))) ≡ None
  leaf_refused h =
      ap (λ x. resumed frames (with_front fs (option_and_then (more_pieces pieces_at) x))) h ∙ resumed-none frames

  pub leaf_read : (f : Filter) (r : Bytes) → piece_of list_at (w, t) ≡ Some (f, r) →
      resumed frames (with_front fs (option_and_then (more_pieces pieces_at) (piece_of list_at (w, t))))
      ≡ resumed frames (with_front fs (more_pieces pieces_at (f, r)))
  leaf_read f r h = ap (λ x. resumed frames (with_front fs (option_and_then (more_pieces pieces_at) x))) h

-- ---- at the beginning and at the end

pub begun : (frames : List Frame) (fs : Filters) (t : Bytes) → frames ≡ [] → fs ≡ no_more → answer (nested frames) fs places.Piece t ≡ pieces_at t
begun frames fs t e h =
    (λ i. resumed (nested (e i)) (with_front (h i) (pieces_at t)))
    ∙ ap (λ n. resumed n (with_front no_more (pieces_at t))) nested-nil
    ∙ front-none (pieces_at t)

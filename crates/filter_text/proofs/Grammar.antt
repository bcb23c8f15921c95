-- What is read of a filter text is spelled so, and what is spelled so is read.
use Rattle.std.proofs.Common.{◌≡◌, ℕ, Bool, true, false, cond, ◌||◌, [], ◌∷◌, ◌++◌, drop, Option, Some, None, refl, sym, ap, ◌∙◌, eqb, append_assoc, append-nil}
use Rattle.std.specs.Option.{option_map, option_and_then}
use Rattle.std.proofs.lemmas.Bool.{or_right}
use Rattle.git_objects.specs.Paths.{Bytes, Path}
use Rattle.filter_text.specs.Filters.{Filter, Filters, sub, onto, dir, file, exclude, join, workspace, no_more, only}
use Rattle.filter_text.specs.Texts.{Read, begins, kept_name_at, target_at}
use Rattle.filter_text.specs.Reading.{word_at, kept, inside, bracketed, piece_of, with_first, more_pieces, made, member_of, goes_on, more_members, list_of, pieces_at, list_at, whole, filter_of}
use Rattle.filter_text.specs.Spelling.{IsGap, SpellsTarget, SpellsPiece, a_nop, a_sub, a_prefix, a_dir, a_file, an_exclude, a_list, a_workspace, SpellsPieces, a_piece, pieces, SpellsMember, member, SpellsMembers, a_member, members, SpellsList, no_members, some_members, SpellsFilter, without, target}
use Rattle.filter_text.proofs.Steps.{pieces_step, list_step}
use Rattle.filter_text.proofs.PathNames.{stops, name-read, file-read, dir-read}
use Rattle.filter_text.proofs.GapSpelling.{firm, firm-from, gap-read, gap-stops, gap-no-colon, break-stops, break-no-colon, stops-not, begins-one, begins-stops, name-first, target-read}

-- ---- what is spelled so is read

abbrev pub head : Bytes → Read Filter
head t = option_and_then (piece_of list_at) (word_at t)

-- a list of members behind a gap
abbrev pub inner : Bytes → Read Filters
inner t = list_of pieces_at list_at t

piece_begins : {w : Bytes} {f : Filter} → SpellsPiece w f → (r : Bytes) → begins 58 (w ++ r) ≡ true
piece_begins a_nop r = refl
piece_begins (a_sub w p n) r = refl
piece_begins (a_prefix w p n) r = refl
piece_begins (a_dir w p n) r = refl
piece_begins (a_file w p n) r = refl
piece_begins (an_exclude w fs l) r = refl
piece_begins (a_list w fs l) r = refl
piece_begins (a_workspace w p n) r = refl

pub pieces_begin : {w : Bytes} {fs : Filters} → SpellsPieces w fs → (r : Bytes) → begins 58 (w ++ r) ≡ true
pieces_begin (a_piece w f q) r = piece_begins q r
pieces_begin (pieces w v f fs q qs) r = ap (begins 58) (append_assoc w v r) ∙ piece_begins q (v ++ r)

-- a target and pieces begin with no gap and with no closing bracket
pub member_other : {w v : Bytes} {t : Option Path} {fs : Filters} → SpellsTarget w t → SpellsPieces v fs → (r : Bytes) (k : ℕ) →
    eqb 58 k ≡ false → eqb 34 k ≡ false → stops (k ∷ []) ≡ true → begins k (w ++ (v ++ r)) ≡ false
member_other {v = v} without ps r k a b c = begins-one 58 k (v ++ r) a (pieces_begin ps r)
member_other {v = v} (target w u x p n bu bx) ps r k a b c =
    ap (begins k) (append_assoc (w ++ u) (61 ∷ x) (v ++ r) ∙ append_assoc w u (61 ∷ (x ++ (v ++ r))))
    ∙ name-first n k (u ++ 61 ∷ (x ++ (v ++ r))) c b

pub member_firm : {w v : Bytes} {t : Option Path} {fs : Filters} → SpellsTarget w t → SpellsPieces v fs → (r : Bytes) → firm (w ++ (v ++ r)) ≡ true
member_firm {w} {v} t ps r =
    let other = member_other t ps r in
    firm-from (w ++ (v ++ r)) (other 44 refl refl refl) (other 10 refl refl refl) (other 32 refl refl refl) (other 9 refl refl refl) (other 13 refl refl refl) (other 35 refl refl refl)

members_firm : {w : Bytes} {fs : Filters} → SpellsMembers w fs → (r : Bytes) → firm (w ++ r) ≡ true
members_firm (a_member w f (member x v t fs st sp)) r = ap firm (append_assoc x v r) ∙ member_firm st sp r
members_firm (members w g v f fs (member x y t ps st sp) h ms) r =
    ap firm (append_assoc (x ++ y) (g ++ v) r ∙ append_assoc x y ((g ++ v) ++ r)) ∙ member_firm st sp ((g ++ v) ++ r)

members_open : {w : Bytes} {fs : Filters} → SpellsMembers w fs → (r : Bytes) → begins 93 (w ++ r) ≡ false
members_open (a_member w f (member x v t fs st sp)) r = ap (begins 93) (append_assoc x v r) ∙ member_other st sp r 93 refl refl refl
members_open (members w g v f fs (member x y t ps st sp) h ms) r =
    ap (begins 93) (append_assoc (x ++ y) (g ++ v) r ∙ append_assoc x y ((g ++ v) ++ r)) ∙ member_other st sp ((g ++ v) ++ r) 93 refl refl refl

member_open : {w : Bytes} {f : Filter} → SpellsMember w f → (r : Bytes) → begins 93 (w ++ r) ≡ false
member_open (member x v t fs st sp) r = ap (begins 93) (append_assoc x v r) ∙ member_other st sp r 93 refl refl refl

closing : {h : Bytes} {c : Bool} → IsGap h c → (r : Bytes) → list_at (h ++ 93 ∷ r) ≡ Some (no_more, r)
closing {h} g r = list_step (h ++ 93 ∷ r) ∙ ap (λ x. inner x.1) (gap-read g false (93 ∷ r) refl)

closing_goes_on : {h : Bytes} {c : Bool} → IsGap h c → (r : Bytes) → goes_on (h ++ 93 ∷ r) ≡ true
closing_goes_on {h} {c} g r = ap (λ x. x.0 || begins 93 x.1) (gap-read g false (93 ∷ r) refl) ∙ or_right c true refl

module _ (w : Bytes) (fs : Filters) (r : Bytes) (ih : list_at (w ++ 93 ∷ r) ≡ Some (fs, r)) where
  bracket_read : list_at ((w ++ 93 ∷ []) ++ r) ≡ Some (fs, r)
  bracket_read = ap list_at (append_assoc w (93 ∷ []) r) ∙ ih

mutual
  unfolding word_at

  pub piece_read : {w : Bytes} {f : Filter} → SpellsPiece w f → (r : Bytes) → stops r ≡ true → head (w ++ r) ≡ Some (f, r)
  piece_read a_nop r s = refl
  piece_read (a_sub w p n) r s = ap (option_map (λ x. (sub x.0, x.1))) (name-read n r s)
  piece_read (a_prefix w p n) r s = ap (option_map (λ x. (onto x.0, x.1))) (name-read n r s)
  piece_read (a_dir w p n) r s = ap (λ t. option_map kept (kept_name_at t)) (append_assoc w (47 ∷ []) r) ∙ ap (option_map kept) (dir-read n r s)
  piece_read (a_file w p n) r s = ap (option_map kept) (file-read n r s) ∙ ap (λ b. Some (cond b (dir p, drop 1 r) (file p, r))) (stops-not 47 r refl s)
  piece_read (an_exclude w fs l) r s = ap (bracketed (λ gs. exclude (inside gs))) (bracket_read w fs r (list_read l r))
  piece_read (a_list w fs l) r s = ap (bracketed join) (bracket_read w fs r (list_read l r))
  piece_read (a_workspace w p n) r s = ap (option_map (λ x. (workspace x.0, x.1))) (name-read n r s)

  pub pieces_read : {w : Bytes} {fs : Filters} → SpellsPieces w fs → (r : Bytes) → stops r ≡ true → begins 58 r ≡ false → pieces_at (w ++ r) ≡ Some (fs, r)
  pieces_read (a_piece w f q) r s k =
      pieces_step (w ++ r) ∙ ap (option_and_then (more_pieces pieces_at)) (piece_read q r s)
      ∙ ap (λ b. cond b (with_first f (pieces_at r)) (Some (only f, r))) k
  pieces_read (pieces w v f fs q qs) r s k =
      ap pieces_at (append_assoc w v r)
      ∙ pieces_step (w ++ (v ++ r))
      ∙ ap (option_and_then (more_pieces pieces_at)) (piece_read q (v ++ r) (begins-stops 58 (v ++ r) refl (pieces_begin qs r)))
      ∙ ap (λ b. cond b (with_first f (pieces_at (v ++ r))) (Some (only f, v ++ r))) (pieces_begin qs r)
      ∙ ap (with_first f) (pieces_read qs r s k)

  pub member_read : {w : Bytes} {f : Filter} → SpellsMember w f → (r : Bytes) → stops r ≡ true → begins 58 r ≡ false →
      option_and_then (member_of pieces_at) (target_at (w ++ r)) ≡ Some (f, r)
  member_read (member w v t fs st sp) r s k =
      ap (λ x. option_and_then (member_of pieces_at) (target_at x)) (append_assoc w v r)
      ∙ ap (option_and_then (member_of pieces_at)) (target-read st (v ++ r) (pieces_begin sp r))
      ∙ ap (option_map (λ y. (made t y.0, y.1))) (pieces_read sp r s k)

  members_read : {w : Bytes} {fs : Filters} → SpellsMembers w fs → (h : Bytes) (c : Bool) → IsGap h c → (r : Bytes) → inner (w ++ (h ++ 93 ∷ r)) ≡ Some (fs, r)
  members_read (a_member w f m) h c g r =
      let t = h ++ 93 ∷ r in
      ap (λ b. cond b (Some (no_more, drop 1 (w ++ t))) (option_and_then (more_members list_at) (option_and_then (member_of pieces_at) (target_at (w ++ t))))) (members_open (a_member w f m) t)
      ∙ ap (option_and_then (more_members list_at)) (member_read m t (gap-stops g (93 ∷ r) refl) (gap-no-colon g (93 ∷ r) refl))
      ∙ ap (λ b. cond b (with_first f (list_at t)) None) (closing_goes_on g r)
      ∙ ap (with_first f) (closing g r)
  members_read (members w j v f fs m k ms) h c g r =
      let t = h ++ 93 ∷ r in
      let rest = j ++ (v ++ t) in
      let between = gap-read k false (v ++ t) (members_firm ms t) in
      ap inner (append_assoc w (j ++ v) t ∙ ap (λ x. w ++ x) (append_assoc j v t))
      ∙ ap (λ b. cond b (Some (no_more, drop 1 (w ++ rest))) (option_and_then (more_members list_at) (option_and_then (member_of pieces_at) (target_at (w ++ rest)))))
      (member_open m rest)
      ∙ ap (option_and_then (more_members list_at)) (member_read m rest (break-stops k refl (v ++ t)) (break-no-colon k refl (v ++ t)))
      ∙ ap (λ x. cond (x.0 || begins 93 x.1) (with_first f (list_at rest)) None) between
      ∙ ap (with_first f) (list_step rest ∙ ap (λ x. inner x.1) between ∙ members_read ms h c g r)

  pub list_read : {w : Bytes} {fs : Filters} → SpellsList w fs → (r : Bytes) → list_at (w ++ 93 ∷ r) ≡ Some (fs, r)
  list_read (no_members g b h) r = closing h r
  list_read (some_members g w h b c fs i ms j) r =
      ap list_at (append_assoc g (w ++ h) (93 ∷ r) ∙ ap (λ x. g ++ x) (append_assoc w h (93 ∷ r)))
      ∙ list_step (g ++ (w ++ (h ++ 93 ∷ r)))
      ∙ ap (λ x. inner x.1) (gap-read i false (w ++ (h ++ 93 ∷ r)) (members_firm ms (h ++ 93 ∷ r)))
      ∙ members_read ms h c j r

pub filter_read : (t : Bytes) (f : Filter) → SpellsFilter t f → filter_of t ≡ Some f
filter_read t f s =
    ap (λ x. whole (pieces_at x)) (sym (append-nil t))
    ∙ ap whole (pieces_read s.1 [] refl refl)
    ∙ ap Some s.2

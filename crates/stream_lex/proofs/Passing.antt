-- Comments that were looked at are not looked at again.
use Rattle.std.proofs.Common.{◌≡◌, ◌+◌, ◌-◌, ◌≤◌, ℕ, Bool, true, false, [], ◌++◌, length, take, drop, Option, Some, Ok, Err, refl, sym, ap, ◌∙◌, arith, subst, append_assoc, append-nil, length-drop}
use Rattle.std.proofs.lemmas.List.{drop-drop, take_rest}
use Rattle.git_objects.specs.Paths.{Bytes}
use Rattle.stream_lex.specs.Lines.{Input, Line, Lex, any_line, line_at, is_comment}
use Rattle.stream_lex.specs.Cutting.{grown, Agrees, Advances}
use Rattle.stream_lex.specs.Passed.{IsPast}
use Rattle.stream_lex.specs.declared.stop.Stop.TheVariants.{Fault}
use Rattle.stream_lex.specs.declared.stop.LimitFault.{LimitFault}
use Rattle.stream_lex.specs.declared.stop.LimitFault.TheVariants.{LongLine, StreamTooLong}
use Rattle.stream_lex.specs.Lexing.{Lexed, lex_fault, Refuses}
use Rattle.stream_lex.proofs.Settling.{any_line-settles}
use Rattle.stream_lex.proofs.Fuel.{line_skip}

pub past_none : (i : Input) → IsPast i i
past_none i ended more = refl

pub past_then : (i j k : Input) → IsPast i j → IsPast j k → IsPast i k
past_then i j k p q ended more = p ended more ∙ q ended more

-- behind one comment
pub past_one : (i j : Input) (l : Line) → any_line false i ≡ Ok (Some l, j) → is_comment l.bytes ≡ true → IsPast i j
past_one i j l e c ended more =
    let told : any_line ended (grown more i) ≡ Ok (Some l, grown more j) =
    subst (λ r. Agrees more r (any_line ended (grown more i))) e (any_line-settles ended more i) in
    line_skip ended (grown more i) (grown more j) l told c

pub grown_none : (i : Input) → grown [] i ≡ i
grown_none i = λ k. record { at = i.at; rest = append-nil i.rest k }

pub grown_twice : (a b : Bytes) (i : Input) → grown b (grown a i) ≡ grown (a ++ b) i
grown_twice a b i = λ k. record { at = i.at; rest = append_assoc i.rest a b k }

pub past_now : (ended : Bool) (i j : Input) → IsPast i j → line_at ended i ≡ line_at ended j
past_now ended i j p = ap (line_at ended) (sym (grown_none i)) ∙ p ended [] ∙ ap (line_at ended) (grown_none j)

pub past_grown : (more : Bytes) (i j : Input) → IsPast i j → IsPast (grown more i) (grown more j)
past_grown more i j p ended after =
    ap (line_at ended) (grown_twice more after i) ∙ p ended (more ++ after) ∙ ap (line_at ended) (sym (grown_twice more after j))

-- ---- what stands behind the first bytes

-- what stands behind n of the bytes from the place base on
abbrev pub at_offset : ℕ → Bytes → ℕ → Input
at_offset base bytes n = record { at = base + n; rest = drop n bytes }

-- as a slice has it
pub slice_at : (base : ℕ) (bytes all : Bytes) (n : ℕ) → all ≡ bytes →
    record { at = base + n; rest = take (length all - n) (drop n all) } ≡ at_offset base bytes n
slice_at base bytes all n e = (λ k. record { at = base + n; rest = take_rest all n k }) ∙ ap (λ b. at_offset base b n) e

-- behind what was read from there on
pub reached : (base : ℕ) (bytes : Bytes) (used from : ℕ) (j k : Input) → j ≡ at_offset base bytes from → used ≤ from → Advances j k →
    k ≡ at_offset base bytes (used + (k.at - (base + used)))
reached base bytes used from j k e h s =
    let a : k.at ≡ base + from + s.by = omega (arith, s.at, ap (λ (i : Input). i.at) e) in
    let n : from + s.by ≡ used + (k.at - (base + used)) = omega arith in
    let b : k.at ≡ base + (used + (k.at - (base + used))) = omega arith in
    let r : k.rest ≡ drop (used + (k.at - (base + used))) bytes =
    s.rest ∙ ap (λ (i : Input). drop s.by i.rest) e ∙ drop-drop s.by from bytes ∙ ap (λ m. drop m bytes) n in
    λ i. record { at = b i; rest = r i }

pub reached_room : (base : ℕ) (bytes : Bytes) (used from : ℕ) (j k : Input) → j ≡ at_offset base bytes from → used ≤ from → from ≤ length bytes → Advances j k →
    (used + (k.at - (base + used)) ≤ length bytes) × (k.at ≡ base + (used + (k.at - (base + used))))
reached_room base bytes used from j k e h room s =
    let a : k.at ≡ base + from + s.by = omega (arith, s.at, ap (λ (i : Input). i.at) e) in
    let l : length j.rest + from ≡ length bytes = omega (arith, ap (λ (i : Input). length i.rest) e, length-drop from bytes) in
    (omega (arith, s.within), omega arith)

-- ---- a lexer's next line is read behind the comments that it passed

abbrev pub lexed : ℕ → Bytes → ℕ → Bool → Lexed
lexed base bytes used ended = record { input = at_offset base bytes used; ended = ended }

module _ (base : ℕ) (bytes all : Bytes) (used from : ℕ) (ended : Bool) (same : all ≡ bytes) (past : IsPast (at_offset base bytes used) (at_offset base bytes from)) (now : Lexed) (view : lexed base bytes used ended ≡ now) where
  abbrev there : Input
  there = record { at = base + from; rest = take (length all - from) (drop from all) }

  pub told_here : (r : Lex (Option Line)) → line_at ended there ≡ r → line_at now.ended now.input ≡ r
  told_here r e =
      (λ k. line_at (sym view k).ended (sym view k).input)
      ∙ past_now ended (at_offset base bytes used) (at_offset base bytes from) past
      ∙ ap (line_at ended) (sym (slice_at base bytes all from same)) ∙ e

  -- with what is left behind the line
  module _ (least : used ≤ from) (x : Option Line) (k : Input) (steps : Advances there k) where
    pub told_left : line_at ended there ≡ Ok (x, k) → line_at now.ended now.input ≡ Ok (x, at_offset base bytes (used + (k.at - (base + used))))
    told_left e = told_here (Ok (x, k)) e ∙ ap (λ j. Ok (x, j)) (reached base bytes used from there k (slice_at base bytes all from same) least steps)

    pub left_within : from ≤ length bytes → (used + (k.at - (base + used)) ≤ length bytes) × (k.at ≡ base + (used + (k.at - (base + used))))
    left_within room = reached_room base bytes used from there k (slice_at base bytes all from same) least room steps

-- a fault of reading is told
pub refused : {A : Type 0} {read : Lex A} (f : LimitFault) (l : Lexed) → read ≡ Err (Fault f) → Refuses (lex_fault f) l l read
refused (LongLine at) l e = (e, refl)
refused StreamTooLong l e = (e, refl)

-- ---- what was handed out is given up

pub given_up : (base : ℕ) (bytes : Bytes) (used m n : ℕ) → used + m ≡ n → at_offset base bytes n ≡ at_offset (base + used) (drop used bytes) m
given_up base bytes used m n e =
    let a : base + n ≡ base + used + m = omega arith in
    let r : drop n bytes ≡ drop m (drop used bytes) = ap (λ k. drop k bytes) (sym e) ∙ sym (drop-drop m used bytes) in
    λ i. record { at = a i; rest = r i }

pub past_along : {i j k m : Input} → i ≡ k → j ≡ m → IsPast i j → IsPast k m
past_along {i = i} {j = j} {k = k} {m = m} e f p = subst (λ a. IsPast a m) e (subst (λ b. IsPast i b) f p)

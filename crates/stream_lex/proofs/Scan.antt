-- Where the first line ends.
use Rattle.std.proofs.Common.{◌≡◌, ◌+◌, ◌-◌, ◌<◌, ◌≤◌, ◌≢◌, ◌⊎◌, inl, inr, ℕ, zero, suc, Bool, true, false, cond, [], ◌∷◌, length, get_or, take, drop, Option, Some, None, Ok, Err, refl, sym, ap, ◌∙◌, arith, eqb, leb, le-leb}
use Rattle.std.specs.Option.{option_map}
use Rattle.std.specs.Prelude.{◌&&◌, min}
use Rattle.std.proofs.lemmas.Bool.{ne_eqb, lt-leb, cases_lt, eqb-true, eq-eqb}
use Rattle.std.proofs.lemmas.List.{length-take}
use Rattle.std.proofs.lemmas.List.Edits.{get_or-between}
use Rattle.std.proofs.lemmas.List.Edits.{length-between}
use Rattle.git_objects.specs.declared.limits.TheConstants.{LINE_BYTES, STREAM_BYTES}
use Rattle.memchr.specs.Find.{Nowhere, Passes, is_byte}
use Rattle.stream_lex.specs.declared.stop.Stop.TheVariants.{Fault}
use Rattle.stream_lex.specs.declared.stop.LimitFault.TheVariants.{LongLine, StreamTooLong}
use Rattle.git_objects.specs.Paths.{Bytes}
use Rattle.stream_lex.specs.Lines.{Input, Line, Lex, split_line, HasNone, is_long, line_from, last_line, any_line}

not_lf : (x : ℕ) → x ≢ 10 → eqb x 10 ≡ false
not_lf x h = ne_eqb x 10 h

pub split_here : (xs : Bytes) (n : ℕ) → n < length xs → ((k : ℕ) → k < n → get_or xs k 0 ≢ 10) → get_or xs n 0 ≡ 10 → split_line xs ≡ Some (take n xs, drop (n + 1) xs)
split_here [] n h f e = absurd (omega arith)
split_here (x ∷ xs) zero h f e = rw e refl
split_here (x ∷ xs) (suc n) h f e = let k : suc n + 1 ≡ suc (n + 1) = omega arith in
    rw (k, not_lf x (f 0 (omega arith)), split_here xs n (omega arith) (λ k g. f (suc k) (omega arith)) e) refl

pub split_none : (xs : Bytes) → ((k : ℕ) → k < length xs → get_or xs k 0 ≢ 10) → split_line xs ≡ None
split_none [] f = refl
split_none (x ∷ xs) f = rw (not_lf x (f 0 (omega arith)), split_none xs (λ k g. f (suc k) (omega arith))) refl

pub and-false : (b : Bool) → (b && false) ≡ false
and-false true = refl
and-false false = refl

-- no line ends among the first n bytes
abbrev pub EndsLater : ℕ → Bytes → Option (Bytes × Bytes) → Type 0
EndsLater n xs None = Unit
EndsLater n xs (Some r) = (n ≤ length r.0) × (length r.0 < length xs)

later : (x n : ℕ) (xs : Bytes) (o : Option (Bytes × Bytes)) → EndsLater n xs o → EndsLater (suc n) (x ∷ xs) (option_map (λ (r : Bytes × Bytes). (x ∷ r.0, r.1)) o)
later x n xs None h = tt
later x n xs (Some r) h = (omega arith, omega arith)

later0 : (x : ℕ) (xs : Bytes) (o : Option (Bytes × Bytes)) → EndsLater 0 xs o → EndsLater 0 (x ∷ xs) (option_map (λ (r : Bytes × Bytes). (x ∷ r.0, r.1)) o)
later0 x xs None h = tt
later0 x xs (Some r) h = (omega arith, omega arith)

ends_somewhere : (xs : Bytes) → EndsLater 0 xs (split_line xs)
ends_somewhere [] = tt
ends_somewhere (x ∷ xs) =
    elim (eqb x 10) as (λ b. EndsLater 0 (x ∷ xs) (cond b (Some ([], xs)) (option_map (λ (r : Bytes × Bytes). (x ∷ r.0, r.1)) (split_line xs)))) [
      | true ↦ (omega arith, omega arith)
      | false ↦ later0 x xs (split_line xs) (ends_somewhere xs)
    ]

pub ends_later : (xs : Bytes) (n : ℕ) → HasNone xs n → EndsLater n xs (split_line xs)
ends_later [] n f = tt
ends_later (x ∷ xs) zero f = ends_somewhere (x ∷ xs)
ends_later (x ∷ xs) (suc n) f =
    rw (not_lf x (f 0 (omega arith) (omega arith))) (later x n xs (split_line xs) (ends_later xs n (λ k g h. f (suc k) (omega arith) (omega arith))))

-- ---- a line that an LF ends

pub long_false : (at n : ℕ) → n ≤ LINE_BYTES → is_long at n ≡ false
long_false at n h = rw (lt-leb (LINE_BYTES + 1) n (let k : n < LINE_BYTES + 1 = omega (arith, h) in k)) refl

module _ (ended : Bool) (at : ℕ) (xs : Bytes) where
  abbrev here : Input
  here = record { at = at; rest = xs }

  pub whole : (n : ℕ) (r : Bytes × Bytes) → length r.0 ≡ n → n ≤ LINE_BYTES → at + (n + 1) ≤ STREAM_BYTES →
      line_from ended here (Some r) ≡ Ok (Some (record { place = at; bytes = r.0 }), record { at = at + (n + 1); rest = r.1 })
  whole n r e h g = rw (e, long_false at n h, le-leb (at + (n + 1)) STREAM_BYTES g) refl

  beyond : (n : ℕ) (r : Bytes × Bytes) → length r.0 ≡ n → n ≤ LINE_BYTES → STREAM_BYTES < at + (n + 1) → line_from ended here (Some r) ≡ Err (Fault StreamTooLong)
  beyond n r e h g = rw (e, long_false at n h, lt-leb (at + (n + 1)) STREAM_BYTES g) refl

  pub line_whole : (n : ℕ) → split_line xs ≡ Some (take n xs, drop (n + 1) xs) → (n < length xs) × (n ≤ LINE_BYTES) → at + (n + 1) ≤ STREAM_BYTES →
      any_line ended here ≡ Ok (Some (record { place = at; bytes = take n xs }), record { at = at + (n + 1); rest = drop (n + 1) xs })
  unfolding any_line
  line_whole n e h g = ap (line_from ended here) e ∙ whole n (take n xs, drop (n + 1) xs) (omega (arith, length-take n xs)) h.1 g

  pub line_beyond : (n : ℕ) → split_line xs ≡ Some (take n xs, drop (n + 1) xs) → (n < length xs) × (n ≤ LINE_BYTES) → STREAM_BYTES < at + (n + 1) →
      any_line ended here ≡ Err (Fault StreamTooLong)
  unfolding any_line
  line_beyond n e h g = ap (line_from ended here) e ∙ beyond n (take n xs, drop (n + 1) xs) (omega (arith, length-take n xs)) h.1 g

  -- ---- a line that none ends

  long_line : (o : Option (Bytes × Bytes)) → EndsLater (LINE_BYTES + 1) xs o → LINE_BYTES < length xs → at + LINE_BYTES + 1 ≤ STREAM_BYTES → line_from ended here o ≡ Err (Fault (LongLine at))
  long_line None h l g = rw (le-leb (LINE_BYTES + 1) (length xs) (omega arith), le-leb (at + LINE_BYTES + 1) STREAM_BYTES g) refl
  long_line (Some r) h l g = rw (le-leb (LINE_BYTES + 1) (length r.0) h.0, le-leb (at + LINE_BYTES + 1) STREAM_BYTES g) refl

  pub line_long : HasNone xs (LINE_BYTES + 1) → LINE_BYTES < length xs → at + LINE_BYTES + 1 ≤ STREAM_BYTES → any_line ended here ≡ Err (Fault (LongLine at))
  unfolding any_line
  line_long f l g = long_line (split_line xs) (ends_later xs (LINE_BYTES + 1) f) l g

  cut_line : (o : Option (Bytes × Bytes)) → EndsLater (LINE_BYTES + 1) xs o → LINE_BYTES < length xs → STREAM_BYTES < at + LINE_BYTES + 1 → line_from ended here o ≡ Err (Fault StreamTooLong)
  cut_line None h l g = rw (lt-leb (at + LINE_BYTES + 1) STREAM_BYTES g, and-false (leb (LINE_BYTES + 1) (length xs)), lt-leb (at + length xs) STREAM_BYTES (omega arith)) refl
  cut_line (Some r) h l g = rw (lt-leb (at + LINE_BYTES + 1) STREAM_BYTES g, and-false (leb (LINE_BYTES + 1) (length r.0)), lt-leb (at + (length r.0 + 1)) STREAM_BYTES (omega arith)) refl

  pub line_cut : HasNone xs (LINE_BYTES + 1) → LINE_BYTES < length xs → STREAM_BYTES < at + LINE_BYTES + 1 → any_line ended here ≡ Err (Fault StreamTooLong)
  unfolding any_line
  line_cut f l g = cut_line (split_line xs) (ends_later xs (LINE_BYTES + 1) f) l g

  short : HasNone xs (LINE_BYTES + 1) → length xs ≤ LINE_BYTES → split_line xs ≡ None
  short f l = split_none xs (λ k h. f k h (omega arith))

  pub line_last : HasNone xs (LINE_BYTES + 1) → length xs ≤ LINE_BYTES → at + length xs ≤ STREAM_BYTES → any_line ended here ≡ last_line ended here xs
  unfolding any_line
  line_last f l g = ap (line_from ended here) (short f l) ∙ rw (long_false at (length xs) l, le-leb (at + length xs) STREAM_BYTES g) refl

  pub line_over : HasNone xs (LINE_BYTES + 1) → length xs ≤ LINE_BYTES → STREAM_BYTES < at + length xs → any_line ended here ≡ Err (Fault StreamTooLong)
  unfolding any_line
  line_over f l g = ap (line_from ended here) (short f l) ∙ rw (long_false at (length xs) l, lt-leb (at + length xs) STREAM_BYTES g) refl

pub last_some : (i : Input) (xs : Bytes) → 0 < length xs → last_line true i xs ≡ Ok (Some (record { place = i.at; bytes = xs }), record { at = i.at + length xs; rest = [] })
last_some i [] h = absurd (omega arith)
last_some i (x ∷ xs) h = refl

pub last_none : (i : Input) (xs : Bytes) → length xs ≡ 0 → last_line true i xs ≡ Ok (None, i)
last_none i [] h = refl
last_none i (x ∷ xs) h = absurd (omega arith)

abbrev pub got_line : ℕ → Bytes → ℕ → Bytes → Lex (Option Line)
got_line place text at rest = Ok (Some (record { place = place; bytes = text }), record { at = at; rest = rest })

pub eqb_pos : (n : ℕ) → eqb n 0 ≡ false → 0 < n
eqb_pos zero h = cc
eqb_pos (suc n) h = omega arith

pub nothing_left : (xs : Bytes) → [] ≡ take (length xs - length xs) (drop (length xs) xs)
nothing_left xs = let k : length xs - length xs ≡ 0 = omega arith in rw k refl

abbrev pub got_block : Bytes → ℕ → Bytes → Lex (Option Bytes)
got_block b at rest = Ok (Some b, record { at = at; rest = rest })

-- ---- a search in a window of the bytes

module _ (xs : Bytes) (from end : ℕ) (least : from ≤ end) (room : end ≤ length xs) (clear : HasNone xs from) where
  abbrev window : Bytes
  window = take (end - from) (drop from xs)

  in_window : (k : ℕ) → from + k < end → get_or window k 0 ≡ get_or xs (from + k) 0
  in_window k h = get_or-between xs from end k 0 h

  -- no LF before the place n of the window
  none_before : (n : ℕ) → from + n ≤ end → Nowhere (Passes (is_byte 10) window) 0 n → (k : ℕ) → k < from + n → get_or xs k 0 ≢ 10
  none_before n h f k g e =
      elim (cases_lt k from) [
        | inl lt ↦ clear k (omega arith) lt e
        | inr le ↦
            let is : from + (k - from) ≡ k = omega arith in
            f (k - from) (omega arith) (omega arith)
            (eq-eqb (get_or window (k - from) 0) 10 (in_window (k - from) (omega arith) ∙ ap (λ j. get_or xs j 0) is ∙ e))
      ]

  pub found_behind : (n : ℕ) → n < length window → Nowhere (Passes (is_byte 10) window) 0 n → Passes (is_byte 10) window n → split_line xs ≡ Some (take (from + n) xs, drop (from + n + 1) xs)
  found_behind n h f p =
      let long : length window ≡ end - from = length-between xs from end room in
      split_here xs (from + n) (omega (arith, long)) (none_before n (omega (arith, long)) f)
      (sym (in_window n (omega (arith, long))) ∙ eqb-true (get_or window n 0) 10 p)

  pub none_behind : Nowhere (Passes (is_byte 10) window) 0 (length window) → HasNone xs end
  none_behind f k h g =
      let long : length window ≡ end - from = length-between xs from end room in
      none_before (length window) (omega (arith, long)) f k (omega (arith, long))

pub fewer : (xs : Bytes) (n m : ℕ) → m ≤ n → HasNone xs n → HasNone xs m
fewer xs n m h f k a b = f k a (omega arith)

-- a window that ends at the bytes' end or at the most that a line may have and one more
pub at_most : (xs : Bytes) (n : ℕ) → (length xs ≤ n) ⊎ (n ≡ LINE_BYTES + 1) → HasNone xs n → HasNone xs (LINE_BYTES + 1)
at_most xs n h f k a b = f k a (elim h [ inl le ↦ omega arith | inr e ↦ omega arith ])

pub min_cases : (xs : Bytes) (n : ℕ) → n ≡ min (length xs) (LINE_BYTES + 1) → (length xs ≤ n) ⊎ (n ≡ LINE_BYTES + 1)
min_cases xs n e = elim (cases_lt (length xs) (LINE_BYTES + 1)) [ inl lt ↦ inl (omega arith) | inr le ↦ inr (omega arith) ]

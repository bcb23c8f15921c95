-- Reading the entries of a batch one behind another.
use Rattle.std.proofs.Common.{◌≡◌, ◌<◌, ◌≤◌, ◌^◌, ℕ, zero, suc, true, false, ◌&&◌, List, [], ◌∷◌, ◌++◌, length, take, Some, None, Result, Ok, Err, refl, sym, ap, ◌∙◌, arith, append_assoc, append-nil, le-leb}
use Rattle.git_objects.specs.Paths.{Bytes}
use Rattle.git_objects.specs.Results.{◌>>=◌, refused_by}
use Rattle.proj_words.specs.Entries.{Entry, Spot, TextLine, behind, byte_count, entries, entries_by, entries_within, has_bytes, line_at, start}
use Rattle.proj_words.specs.Views.{GivesEntry, IsLineFault}
use Rattle.proj_words.specs.declared.outcome.Outcome.TheVariants.{Syntax}

-- ---- one entry

module _ (w : TextLine) where
  pub no_line : None ≡ line_at w.next → IsLineFault w w.next.at
  no_line e next = rw (sym e) refl

  pub no_count : (b : TextLine) → Some b ≡ line_at w.next → None ≡ byte_count b.bytes → IsLineFault w w.next.at
  no_count b e f next = rw (sym e, sym f) refl

  pub no_bytes : (b : TextLine) (n : ℕ) → Some b ≡ line_at w.next → Some n ≡ byte_count b.bytes →
      (b.ended && has_bytes n b.next.rest) ≡ false → IsLineFault w w.next.at
  no_bytes b n e f g next = rw (sym e, sym f, g) refl

  pub an_entry : (b : TextLine) (n : ℕ) → Some b ≡ line_at w.next → Some n ≡ byte_count b.bytes →
      (b.ended && has_bytes n b.next.rest) ≡ true →
      GivesEntry w (record { words = w.bytes; input = take n b.next.rest }) (behind n b.next)
  an_entry b n e f g next = rw (sym e, sym f, g) refl

-- ---- one behind another

-- those that were found, and those that follow
abbrev following : List Entry → Result (List Entry) ℕ → Result (List Entry) ℕ
following found r = r >>= λ es. Ok (found ++ es)

abbrev pub all : Bytes → Result (List Entry) ℕ
all input = entries_within (length input) (start input)

-- The entries of the input are those that were found, and those that a place has, in turns that are enough.
pub record IsRead (input : Bytes) (found : List Entry) (s : Spot) : Type 0 where
  pub turns : ℕ
  pub enough : length s.rest ≤ turns
  pub same : all input ≡ (entries_within turns s >>= λ es. Ok (found ++ es))

none_found : (r : Result (List Entry) ℕ) → r ≡ following [] r
none_found (Ok es) = refl
none_found (Err at) = refl

pub begun : (input : Bytes) → IsRead input [] (start input)
begun input = record { turns = length input; enough = omega arith; same = none_found (all input) }

one_more : (found : List Entry) (e : Entry) (r : Result (List Entry) ℕ) →
    following found (r >>= λ es. Ok (e ∷ es)) ≡ following (found ++ e ∷ []) r
one_more found e (Ok es) = ap Ok (sym (append_assoc found (e ∷ []) es))
one_more found e (Err at) = refl

pub renamed : (input : Bytes) (found other : List Entry) (s : Spot) → other ≡ found → IsRead input found s → IsRead input other s
renamed input found other s e r = record {
  turns = r.turns;
  enough = r.enough;
  same = r.same ∙ ap (λ f. following f (entries_within r.turns s)) (sym e);
}

module _ (input : Bytes) (found : List Entry) (s : Spot) where
  with_turns : (turns : ℕ) → length s.rest ≤ turns → all input ≡ following found (entries_within turns s) →
      (w : TextLine) (e : Entry) (next : Spot) → Some w ≡ line_at s → GivesEntry w e next →
      length next.rest < length s.rest → IsRead input (found ++ e ∷ []) next
  with_turns zero enough same w e next line gives less = absurd (omega arith)
  with_turns (suc m) enough same w e next line gives less = record {
    turns = m;
    enough = omega arith;
    same = same ∙ ap (λ o. following found (entries_by (entries_within m) o)) (sym line)
        ∙ ap (following found) (gives (entries_within m))
        ∙ one_more found e (entries_within m next);
  }

  pub gone_on : IsRead input found s → (w : TextLine) (e : Entry) (next : Spot) → Some w ≡ line_at s →
      GivesEntry w e next → length next.rest < length s.rest → IsRead input (found ++ e ∷ []) next
  gone_on r w e next line gives less = with_turns r.turns r.enough r.same w e next line gives less

  faulty_turns : (turns : ℕ) → length s.rest ≤ turns → all input ≡ following found (entries_within turns s) →
      (w : TextLine) (at : ℕ) → Some w ≡ line_at s → 0 < length s.rest → IsLineFault w at → all input ≡ Err at
  faulty_turns zero enough same w at line some fault = absurd (omega arith)
  faulty_turns (suc m) enough same w at line some fault =
      same ∙ ap (λ o. following found (entries_by (entries_within m) o)) (sym line)
      ∙ ap (following found) (fault (entries_within m))

  no_turn : (turns : ℕ) → None ≡ line_at s → entries_within turns s ≡ Ok []
  no_turn zero line = refl
  no_turn (suc m) line = ap (entries_by (entries_within m)) (sym line)

  pub told : length input ≤ 2 ^ 29 → entries input ≡ refused_by Syntax (all input)
  unfolding entries
  told h = rw (le-leb (length input) (2 ^ 29) h) refl

  pub ended : length input ≤ 2 ^ 29 → IsRead input found s → None ≡ line_at s → entries input ≡ Ok found
  ended h r line =
      told h ∙ ap (refused_by Syntax) (r.same ∙ ap (following found) (no_turn r.turns line))
      ∙ ap Ok (append-nil found)

  pub faulty : length input ≤ 2 ^ 29 → IsRead input found s → (w : TextLine) (at : ℕ) → Some w ≡ line_at s →
      0 < length s.rest → IsLineFault w at → entries input ≡ Err (Syntax at)
  faulty h r w at line some fault =
      told h ∙ ap (refused_by Syntax) (faulty_turns r.turns r.enough r.same w at line some fault)

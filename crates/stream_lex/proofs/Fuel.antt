-- Reading a line ends, and goes on behind each comment.
use Rattle.std.proofs.Common.{◌≡◌, ◌+◌, ◌<◌, ◌≤◌, ℕ, zero, suc, Bool, true, false, cond, [], ◌∷◌, length, Option, Some, None, Ok, Err, refl, ap, ◌∙◌, arith, eqb, leb, leb-true, subst}
use Rattle.std.specs.Option.{option_map}
use Rattle.git_objects.specs.declared.limits.TheConstants.{STREAM_BYTES}
use Rattle.stream_lex.specs.declared.stop.Stop.{Stop}
use Rattle.stream_lex.specs.declared.stop.LimitFault.{LimitFault}
use Rattle.stream_lex.specs.declared.stop.Stop.TheVariants.{Fault}
use Rattle.stream_lex.specs.declared.stop.LimitFault.TheVariants.{LongLine, StreamTooLong}
use Rattle.git_objects.specs.Paths.{Bytes}
use Rattle.git_objects.specs.Results.{◌>>=◌}
use Rattle.stream_lex.specs.Lines.{Input, Line, Lex, split_line, is_long, line_from, last_line, any_line, line_at, line_within, past_comment, is_comment}
use Rattle.stream_lex.proofs.Scan.{got_line}

-- the bytes of a line and those behind it
abbrev Parts : Bytes → Option (Bytes × Bytes) → Type 0
Parts xs None = Unit
Parts xs (Some r) = length r.0 + 1 + length r.1 ≡ length xs

parts_more : (x : ℕ) (xs : Bytes) (o : Option (Bytes × Bytes)) → Parts xs o → Parts (x ∷ xs) (option_map (λ (r : Bytes × Bytes). (x ∷ r.0, r.1)) o)
parts_more x xs None h = tt
parts_more x xs (Some r) h = omega arith

parts : (xs : Bytes) → Parts xs (split_line xs)
parts [] = tt
parts (x ∷ xs) =
    elim (eqb x 10) as (λ b. Parts (x ∷ xs) (cond b (Some ([], xs)) (option_map (λ (r : Bytes × Bytes). (x ∷ r.0, r.1)) (split_line xs)))) [
      | true ↦ omega arith
      | false ↦ parts_more x xs (split_line xs) (parts xs)
    ]

-- a line takes bytes, and ends within the limit
abbrev pub Moves : Input → Lex (Option Line) → Type 0
Moves i (Ok (Some l, j)) = (length j.rest < length i.rest) × (j.at ≤ STREAM_BYTES)
Moves i (Ok (None, j)) = (length j.rest ≤ length i.rest) × (j.at ≤ STREAM_BYTES)
Moves i (Err e) = Unit

last_moves : (ended : Bool) (i : Input) (xs : Bytes) → length xs ≤ length i.rest → i.at + length xs ≤ STREAM_BYTES → Moves i (last_line ended i xs)
last_moves false i xs h g = tt
last_moves true i [] h g = (omega arith, omega arith)
last_moves true i (x ∷ xs) h g = (omega arith, g)

from_moves : (ended : Bool) (i : Input) (o : Option (Bytes × Bytes)) → Parts i.rest o → Moves i (line_from ended i o)
from_moves ended i (Some r) h =
    elim (is_long i.at (length r.0)) as (λ b. Moves i (cond b (Err (Fault (LongLine i.at))) (cond (leb (i.at + (length r.0 + 1)) STREAM_BYTES) (got_line i.at r.0 (i.at + (length r.0 + 1)) r.1) (Err (Fault StreamTooLong))))) [
      | true ↦ tt
      | false ↦ elim (leb (i.at + (length r.0 + 1)) STREAM_BYTES) as (λ b. leb (i.at + (length r.0 + 1)) STREAM_BYTES ≡ b → Moves i (cond b (got_line i.at r.0 (i.at + (length r.0 + 1)) r.1) (Err (Fault StreamTooLong)))) [
        | true ↦ λ e. (omega arith, leb-true (i.at + (length r.0 + 1)) STREAM_BYTES e)
        | false ↦ λ e. tt
      ] refl
    ]
from_moves ended i None h =
    elim (is_long i.at (length i.rest)) as (λ b. Moves i (cond b (Err (Fault (LongLine i.at))) (cond (leb (i.at + length i.rest) STREAM_BYTES) (last_line ended i i.rest) (Err (Fault StreamTooLong))))) [
      | true ↦ tt
      | false ↦ elim (leb (i.at + length i.rest) STREAM_BYTES) as (λ b. leb (i.at + length i.rest) STREAM_BYTES ≡ b → Moves i (cond b (last_line ended i i.rest) (Err (Fault StreamTooLong)))) [
        | true ↦ λ e. last_moves ended i i.rest (omega arith) (leb-true (i.at + length i.rest) STREAM_BYTES e)
        | false ↦ λ e. tt
      ] refl
    ]

pub any_line-moves : (ended : Bool) (i : Input) → Moves i (any_line ended i)
unfolding any_line
any_line-moves ended i = from_moves ended i (split_line i.rest) (parts i.rest)

-- enough comments are allowed for
comment_same : (f g : Input → Lex (Option Line)) (i : Input) (r : Lex (Option Line)) → Moves i r → ((j : Input) → length j.rest < length i.rest → f j ≡ g j) → (r >>= past_comment f) ≡ (r >>= past_comment g)
comment_same f g i (Ok (Some l, j)) h k = ap (λ s. cond (is_comment l.bytes) s (Ok (Some l, j))) (k j h.0)
comment_same f g i (Ok (None, j)) h k = refl
comment_same f g i (Err e) h k = refl

same_within : (n m : ℕ) (ended : Bool) (i : Input) → length i.rest < n → length i.rest < m → line_within n ended i ≡ line_within m ended i
same_within zero m ended i h g = absurd (omega arith)
same_within (suc n) zero ended i h g = absurd (omega arith)
same_within (suc n) (suc m) ended i h g =
    comment_same (line_within n ended) (line_within m ended) i (any_line ended i) (any_line-moves ended i) (λ j k. same_within n m ended j (omega arith) (omega arith))

-- the next line that isn't a comment
pub line_at-is : (ended : Bool) (i : Input) → line_at ended i ≡ any_line ended i >>= past_comment (line_at ended)
unfolding line_at
line_at-is ended i =
    ap (λ n. line_within n ended i) (let k : length i.rest + 1 ≡ suc (length i.rest) = omega arith in k)
    ∙ comment_same (line_within (length i.rest) ended) (line_at ended) i (any_line ended i) (any_line-moves ended i)
    (λ j k. same_within (length i.rest) (length j.rest + 1) ended j (omega arith) (omega arith))

module _ (ended : Bool) (i j : Input) where
  pub line_err : (s : Stop LimitFault) → any_line ended i ≡ Err s → line_at ended i ≡ Err s
  line_err s e = line_at-is ended i ∙ ap (λ r. r >>= past_comment (line_at ended)) e

  pub line_none : any_line ended i ≡ Ok (None, j) → line_at ended i ≡ Ok (None, j)
  line_none e = line_at-is ended i ∙ ap (λ r. r >>= past_comment (line_at ended)) e

  pub line_some : (l : Line) → any_line ended i ≡ Ok (Some l, j) → is_comment l.bytes ≡ false → line_at ended i ≡ Ok (Some l, j)
  line_some l e h = line_at-is ended i ∙ ap (λ r. r >>= past_comment (line_at ended)) e ∙ ap (λ b. cond b (line_at ended j) (Ok (Some l, j))) h

  pub line_skip : (l : Line) → any_line ended i ≡ Ok (Some l, j) → is_comment l.bytes ≡ true → line_at ended i ≡ line_at ended j
  line_skip l e h = line_at-is ended i ∙ ap (λ r. r >>= past_comment (line_at ended)) e ∙ ap (λ b. cond b (line_at ended j) (Ok (Some l, j))) h

  pub moves_none : any_line ended i ≡ Ok (None, j) → j.at ≤ STREAM_BYTES
  moves_none e = (subst (Moves i) e (any_line-moves ended i)).1

  pub moves_some : (l : Line) → any_line ended i ≡ Ok (Some l, j) → (length j.rest < length i.rest) × (j.at ≤ STREAM_BYTES)
  moves_some l e = subst (Moves i) e (any_line-moves ended i)

-- ---- the next line takes bytes too

weaker : (i j : Input) (r : Lex (Option Line)) → length j.rest ≤ length i.rest → Moves j r → Moves i r
weaker i j (Ok (Some l, k)) h g = (omega (arith, g.0), g.1)
weaker i j (Ok (None, k)) h g = (omega (arith, g.0), g.1)
weaker i j (Err e) h g = tt

comment_moves : (f : Input → Lex (Option Line)) → ((j : Input) → Moves j (f j)) → (i : Input) (r : Lex (Option Line)) → Moves i r → Moves i (r >>= past_comment f)
comment_moves f k i (Ok (Some l, j)) h =
    elim (is_comment l.bytes) as (λ b. Moves i (cond b (f j) (Ok (Some l, j)))) [ true ↦ weaker i j (f j) (omega (arith, h.0)) (k j) | false ↦ h ]
comment_moves f k i (Ok (None, j)) h = h
comment_moves f k i (Err e) h = tt

within_moves : (n : ℕ) (ended : Bool) (i : Input) → Moves i (line_within n ended i)
within_moves zero ended i = tt
within_moves (suc n) ended i = comment_moves (line_within n ended) (within_moves n ended) i (any_line ended i) (any_line-moves ended i)

pub line_at-moves : (ended : Bool) (i : Input) → Moves i (line_at ended i)
unfolding line_at
line_at-moves ended i = within_moves (length i.rest + 1) ended i

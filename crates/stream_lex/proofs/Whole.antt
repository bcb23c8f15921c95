-- Of a whole input nothing is left open.
use Rattle.std.proofs.Common.{◌+◌, ◌<◌, ℕ, zero, suc, true, false, cond, [], ◌∷◌, length, take, drop, Option, Some, None, Ok, Err, arith, eqb, leb}
use Rattle.git_objects.specs.declared.limits.TheConstants.{STREAM_BYTES}
use Rattle.stream_lex.specs.declared.stop.Stop.TheVariants.{More, Fault}
use Rattle.stream_lex.specs.declared.stop.LimitFault.TheVariants.{LongLine, StreamTooLong}
use Rattle.git_objects.specs.Paths.{Bytes}
use Rattle.git_objects.specs.Results.{◌>>=◌}
use Rattle.stream_lex.specs.Lines.{Input, Line, Lex, split_line, is_long, line_from, last_line, any_line, line_at, line_within, past_comment, is_comment, block_at, block_end, short_block}
use Rattle.stream_lex.specs.Cutting.{IsTold}
use Rattle.stream_lex.proofs.Scan.{got_line, got_block}
use Rattle.stream_lex.proofs.Fuel.{Moves, any_line-moves}

last_told : (i : Input) (xs : Bytes) → IsTold (last_line true i xs)
last_told i [] = tt
last_told i (x ∷ xs) = tt

from_told : (i : Input) (o : Option (Bytes × Bytes)) → IsTold (line_from true i o)
from_told i (Some r) =
    elim (is_long i.at (length r.0)) as (λ b. IsTold (cond b (Err (Fault (LongLine i.at))) (cond (leb (i.at + (length r.0 + 1)) STREAM_BYTES) (got_line i.at r.0 (i.at + (length r.0 + 1)) r.1) (Err (Fault StreamTooLong))))) [
      | true ↦ tt
      | false ↦ elim (leb (i.at + (length r.0 + 1)) STREAM_BYTES) as (λ b. IsTold (cond b (got_line i.at r.0 (i.at + (length r.0 + 1)) r.1) (Err (Fault StreamTooLong)))) [ true ↦ tt | false ↦ tt ]
    ]
from_told i None =
    elim (is_long i.at (length i.rest)) as (λ b. IsTold (cond b (Err (Fault (LongLine i.at))) (cond (leb (i.at + length i.rest) STREAM_BYTES) (last_line true i i.rest) (Err (Fault StreamTooLong))))) [
      | true ↦ tt
      | false ↦ elim (leb (i.at + length i.rest) STREAM_BYTES) as (λ b. IsTold (cond b (last_line true i i.rest) (Err (Fault StreamTooLong)))) [ true ↦ last_told i i.rest | false ↦ tt ]
    ]

any_line-told : (i : Input) → IsTold (any_line true i)
unfolding any_line
any_line-told i = from_told i (split_line i.rest)

comment_told : (f : Input → Lex (Option Line)) (i : Input) → ((j : Input) → length j.rest < length i.rest → IsTold (f j)) → (r : Lex (Option Line)) → Moves i r → IsTold r → IsTold (r >>= past_comment f)
comment_told f i k (Ok (Some l, j)) h g = elim (is_comment l.bytes) as (λ b. IsTold (cond b (f j) (Ok (Some l, j)))) [ true ↦ k j h.0 | false ↦ tt ]
comment_told f i k (Ok (None, j)) h g = tt
comment_told f i k (Err (More w)) h g = g
comment_told f i k (Err (Fault e)) h g = tt

within_told : (n : ℕ) (i : Input) → length i.rest < n → IsTold (line_within n true i)
within_told zero i h = absurd (omega arith)
within_told (suc n) i h = comment_told (line_within n true) i (λ j k. within_told n j (omega arith)) (any_line true i) (any_line-moves true i) (any_line-told i)

pub line_at-whole : (i : Input) → IsTold (line_at true i)
unfolding line_at
line_at-whole i = within_told (length i.rest + 1) i (omega arith)

end_told : (n : ℕ) (b xs : Bytes) (i : Input) → IsTold (block_end true n b xs i)
end_told n b [] i = tt
end_told n b (x ∷ xs) i =
    elim (eqb x 10) as (λ t. IsTold (cond t (cond (leb (i.at + (n + 1)) STREAM_BYTES) (got_block b (i.at + (n + 1)) xs) (Err (Fault StreamTooLong))) (got_block b (i.at + n) (x ∷ xs)))) [
      | true ↦ elim (leb (i.at + (n + 1)) STREAM_BYTES) as (λ t. IsTold (cond t (got_block b (i.at + (n + 1)) xs) (Err (Fault StreamTooLong)))) [ true ↦ tt | false ↦ tt ]
      | false ↦ tt
    ]

pub block_at-whole : (n : ℕ) (i : Input) → IsTold (block_at n true i)
unfolding block_at
block_at-whole n i =
    elim (leb n (length i.rest)) as (λ t. IsTold
    (cond t (cond (leb (i.at + n) STREAM_BYTES) (block_end true n (take n i.rest) (drop n i.rest) i) (Err (Fault StreamTooLong))) (cond (leb (i.at + length i.rest) STREAM_BYTES) (short_block n true i) (Err (Fault StreamTooLong))))) [
      | true ↦ elim (leb (i.at + n) STREAM_BYTES) as (λ t. IsTold (cond t (block_end true n (take n i.rest) (drop n i.rest) i) (Err (Fault StreamTooLong)))) [ true ↦ end_told n (take n i.rest) (drop n i.rest) i | false ↦ tt ]
      | false ↦ elim (leb (i.at + length i.rest) STREAM_BYTES) as (λ t. IsTold (cond t (short_block n true i) (Err (Fault StreamTooLong)))) [ true ↦ tt | false ↦ tt ]
    ]

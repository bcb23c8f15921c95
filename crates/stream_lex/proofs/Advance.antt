-- What is left is what was there behind some bytes.
use Rattle.std.proofs.Common.{◌≡◌, ◌+◌, ◌≤◌, ℕ, zero, suc, Bool, true, false, cond, [], ◌∷◌, length, take, drop, Option, Some, None, Ok, Err, refl, sym, ap, ◌∙◌, arith, eqb, leb, leb-true}
use Rattle.std.specs.Option.{option_map}
use Rattle.std.proofs.lemmas.List.{drop-drop, length-drop}
use Rattle.git_objects.specs.declared.limits.TheConstants.{STREAM_BYTES}
use Rattle.stream_lex.specs.declared.stop.Stop.TheVariants.{Fault}
use Rattle.stream_lex.specs.declared.stop.LimitFault.TheVariants.{LongLine, StreamTooLong}
use Rattle.git_objects.specs.Paths.{Bytes}
use Rattle.stream_lex.specs.Lines.{Input, Line, Lex, split_line, is_long, line_from, last_line, any_line, line_at, line_within, past_comment, is_comment, block_at, block_end, short_block}
use Rattle.stream_lex.specs.Cutting.{Steps}
use Rattle.stream_lex.proofs.Combining.{stays, bind_steps}
use Rattle.stream_lex.proofs.Scan.{got_line, got_block}

-- the bytes of a line and those behind it
abbrev Behind : Bytes → Option (Bytes × Bytes) → Type 0
Behind xs None = Unit
Behind xs (Some r) = (r.1 ≡ drop (length r.0 + 1) xs) × (length r.0 + 1 ≤ length xs)

behind_more : (x : ℕ) (xs : Bytes) (o : Option (Bytes × Bytes)) → Behind xs o → Behind (x ∷ xs) (option_map (λ (r : Bytes × Bytes). (x ∷ r.0, r.1)) o)
behind_more x xs None h = tt
behind_more x xs (Some r) h = let k : suc (length r.0) + 1 ≡ suc (length r.0 + 1) = omega arith in (h.0 ∙ sym (ap (λ n. drop n (x ∷ xs)) k), omega (arith, h.1))

line_behind : (xs : Bytes) → Behind xs (split_line xs)
line_behind [] = tt
line_behind (x ∷ xs) =
    elim (eqb x 10) as (λ b. Behind (x ∷ xs) (cond b (Some ([], xs)) (option_map (λ (r : Bytes × Bytes). (x ∷ r.0, r.1)) (split_line xs)))) [
      | true ↦ (refl, omega arith)
      | false ↦ behind_more x xs (split_line xs) (line_behind xs)
    ]

drop_all : (xs : Bytes) → [] ≡ drop (length xs) xs
drop_all [] = refl
drop_all (x ∷ xs) = drop_all xs

last_steps : (ended : Bool) (i : Input) (xs : Bytes) → xs ≡ i.rest → Steps i (last_line ended i xs)
last_steps false i xs h = tt
last_steps true i [] h = stays i
last_steps true i (x ∷ xs) h = record { by = length (x ∷ xs); at = refl; rest = drop_all (x ∷ xs) ∙ ap (drop (length (x ∷ xs))) h; within = omega (arith, ap length h) }

from_steps : (ended : Bool) (i : Input) (o : Option (Bytes × Bytes)) → Behind i.rest o → Steps i (line_from ended i o)
from_steps ended i (Some r) h =
    elim (is_long i.at (length r.0)) as (λ b. Steps i (cond b (Err (Fault (LongLine i.at))) (cond (leb (i.at + (length r.0 + 1)) STREAM_BYTES) (got_line i.at r.0 (i.at + (length r.0 + 1)) r.1) (Err (Fault StreamTooLong))))) [
      | true ↦ tt
      | false ↦ elim (leb (i.at + (length r.0 + 1)) STREAM_BYTES) as (λ b. Steps i (cond b (got_line i.at r.0 (i.at + (length r.0 + 1)) r.1) (Err (Fault StreamTooLong)))) [
        | true ↦ record { by = length r.0 + 1; at = refl; rest = h.0; within = h.1 }
        | false ↦ tt
      ]
    ]
from_steps ended i None h =
    elim (is_long i.at (length i.rest)) as (λ b. Steps i (cond b (Err (Fault (LongLine i.at))) (cond (leb (i.at + length i.rest) STREAM_BYTES) (last_line ended i i.rest) (Err (Fault StreamTooLong))))) [
      | true ↦ tt
      | false ↦ elim (leb (i.at + length i.rest) STREAM_BYTES) as (λ b. Steps i (cond b (last_line ended i i.rest) (Err (Fault StreamTooLong)))) [
        | true ↦ last_steps ended i i.rest refl
        | false ↦ tt
      ]
    ]

pub any_line-steps : (ended : Bool) (i : Input) → Steps i (any_line ended i)
unfolding any_line
any_line-steps ended i = from_steps ended i (split_line i.rest) (line_behind i.rest)

comment_steps : (f : Input → Lex (Option Line)) → ((j : Input) → Steps j (f j)) → (x : Option Line) (j : Input) → Steps j (past_comment f (x, j))
comment_steps f h None j = stays j
comment_steps f h (Some l) j =
    elim (is_comment l.bytes) as (λ b. Steps j (cond b (f j) (Ok (Some l, j)))) [ true ↦ h j | false ↦ stays j ]

within_steps : (n : ℕ) (ended : Bool) (i : Input) → Steps i (line_within n ended i)
within_steps zero ended i = tt
within_steps (suc n) ended i = bind_steps i (any_line ended i) (past_comment (line_within n ended)) (any_line-steps ended i) (comment_steps (line_within n ended) (within_steps n ended))

pub line_at-steps : (ended : Bool) (i : Input) → Steps i (line_at ended i)
unfolding line_at
line_at-steps ended i = within_steps (length i.rest + 1) ended i

-- the LF behind a block
end_here : (n : ℕ) (b : Bytes) (x : ℕ) (xs : Bytes) (i : Input) → n ≤ length i.rest → x ∷ xs ≡ drop n i.rest →
    Steps i (cond (eqb x 10) (cond (leb (i.at + (n + 1)) STREAM_BYTES) (got_block b (i.at + (n + 1)) xs) (Err (Fault StreamTooLong))) (got_block b (i.at + n) (x ∷ xs)))
end_here n b x xs i h g =
    elim (eqb x 10) as (λ t. Steps i (cond t (cond (leb (i.at + (n + 1)) STREAM_BYTES) (got_block b (i.at + (n + 1)) xs) (Err (Fault StreamTooLong))) (got_block b (i.at + n) (x ∷ xs)))) [
      | false ↦ record { by = n; at = refl; rest = g; within = h }
      | true ↦ elim (leb (i.at + (n + 1)) STREAM_BYTES) as (λ t. Steps i (cond t (got_block b (i.at + (n + 1)) xs) (Err (Fault StreamTooLong)))) [
        | true ↦ record { by = n + 1; at = refl; rest = ap (drop 1) g ∙ drop-drop 1 n i.rest; within = omega (arith, ap length g, length-drop n i.rest) }
        | false ↦ tt
      ]
    ]

short_steps : (n : ℕ) (ended : Bool) (i : Input) → Steps i (short_block n ended i)
short_steps n false i = tt
short_steps n true i = stays i

end_steps : (ended : Bool) (n : ℕ) (b xs : Bytes) (i : Input) → n ≤ length i.rest → xs ≡ drop n i.rest → Steps i (block_end ended n b xs i)
end_steps false n b [] i h g = tt
end_steps true n b [] i h g = record { by = n; at = refl; rest = g; within = h }
end_steps false n b (x ∷ xs) i h g = end_here n b x xs i h g
end_steps true n b (x ∷ xs) i h g = end_here n b x xs i h g

pub block_at-steps : (n : ℕ) (ended : Bool) (i : Input) → Steps i (block_at n ended i)
unfolding block_at
block_at-steps n ended i =
    elim (leb n (length i.rest)) as (λ t. leb n (length i.rest) ≡ t → Steps i
    (cond t (cond (leb (i.at + n) STREAM_BYTES) (block_end ended n (take n i.rest) (drop n i.rest) i) (Err (Fault StreamTooLong))) (cond (leb (i.at + length i.rest) STREAM_BYTES) (short_block n ended i) (Err (Fault StreamTooLong))))) [
      | true ↦ λ e. elim (leb (i.at + n) STREAM_BYTES) as (λ t. Steps i (cond t (block_end ended n (take n i.rest) (drop n i.rest) i) (Err (Fault StreamTooLong)))) [
        | true ↦ end_steps ended n (take n i.rest) (drop n i.rest) i (leb-true n (length i.rest) e) refl
        | false ↦ tt
      ]
      | false ↦ λ e. elim (leb (i.at + length i.rest) STREAM_BYTES) as (λ t. Steps i (cond t (short_block n ended i) (Err (Fault StreamTooLong)))) [ true ↦ short_steps n ended i | false ↦ tt ]
    ] refl

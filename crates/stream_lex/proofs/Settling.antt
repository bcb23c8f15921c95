-- Readers whose answers more of the input doesn't change.
use Rattle.std.proofs.Common.{◌≡◌, ◌+◌, ◌<◌, ◌≤◌, ℕ, zero, suc, Bool, true, false, cond, [], ◌∷◌, ◌++◌, length, take, drop, Option, Some, None, Ok, Err, refl, sym, ap, ◌∙◌, arith, eqb, leb, le-leb, leb-true, subst, length-append}
use Rattle.std.specs.Option.{option_map}
use Rattle.std.specs.Cmp.{first_so, second_so}
use Rattle.std.proofs.Common.{true≢false}
use Rattle.std.proofs.lemmas.List.{take-append-le, drop-append-le}
use Rattle.stream_lex.proofs.Scan.{and-false, got_line, got_block}
use Rattle.std.specs.Prelude.{◌&&◌}
use Rattle.std.proofs.lemmas.Bool.{lt-leb, leb-false}
use Rattle.git_objects.specs.declared.limits.TheConstants.{LINE_BYTES, STREAM_BYTES}
use Rattle.stream_lex.specs.declared.stop.Wanted.TheVariants as wants
use Rattle.stream_lex.specs.declared.stop.Stop.TheVariants.{More, Fault}
use Rattle.stream_lex.specs.declared.stop.LimitFault.TheVariants.{LongLine, StreamTooLong}
use Rattle.git_objects.specs.Paths.{Bytes}
use Rattle.stream_lex.specs.Lines.{Input, Line, Lex, split_line, is_long, line_from, any_line, line_at, line_within, past_comment, is_comment, block_at, block_end, short_block}
use Rattle.stream_lex.specs.Cutting.{grown, Agrees, Settles}
use Rattle.stream_lex.proofs.Combining.{bind_agrees}

-- ---- lines

abbrev longer : Bytes → Option (Bytes × Bytes) → Option (Bytes × Bytes)
longer more o = option_map (λ (r : Bytes × Bytes). (r.0, r.1 ++ more)) o

-- where a line ends, it ends there in more
abbrev EndsSame : Bytes → Bytes → Option (Bytes × Bytes) → Option (Bytes × Bytes) → Type 0
EndsSame xs more (Some r) o = o ≡ Some (r.0, r.1 ++ more)
EndsSame xs more None None = Unit
EndsSame xs more None (Some r) = length xs ≤ length r.0

behind_one : (x : ℕ) (xs more : Bytes) (o p : Option (Bytes × Bytes)) → EndsSame xs more o p → EndsSame (x ∷ xs) more (option_map (λ (r : Bytes × Bytes). (x ∷ r.0, r.1)) o) (option_map (λ (r : Bytes × Bytes). (x ∷ r.0, r.1)) p)
behind_one x xs more (Some r) p h = ap (option_map (λ (r : Bytes × Bytes). (x ∷ r.0, r.1))) h
behind_one x xs more None None h = tt
behind_one x xs more None (Some r) h = omega arith

nothing_before : (more : Bytes) (o : Option (Bytes × Bytes)) → EndsSame [] more None o
nothing_before more None = tt
nothing_before more (Some r) = omega arith

ends_same : (xs more : Bytes) → EndsSame xs more (split_line xs) (split_line (xs ++ more))
ends_same [] more = nothing_before more (split_line more)
ends_same (x ∷ xs) more =
    elim (eqb x 10) as (λ b. EndsSame (x ∷ xs) more (cond b (Some ([], xs)) (option_map (λ (r : Bytes × Bytes). (x ∷ r.0, r.1)) (split_line xs))) (cond b (Some ([], xs ++ more)) (option_map (λ (r : Bytes × Bytes). (x ∷ r.0, r.1)) (split_line (xs ++ more))))) [
      | true ↦ refl
      | false ↦ behind_one x xs more (split_line xs) (split_line (xs ++ more)) (ends_same xs more)
    ]

module _ (ended : Bool) (more : Bytes) (i : Input) where
  some_agrees : (r : Bytes × Bytes) → Agrees more (line_from false i (Some r)) (line_from ended (grown more i) (Some (r.0, r.1 ++ more)))
  some_agrees r =
      elim (is_long i.at (length r.0)) as (λ b. Agrees more
      (cond b (Err (Fault (LongLine i.at))) (cond (leb (i.at + (length r.0 + 1)) STREAM_BYTES) (got_line i.at r.0 (i.at + (length r.0 + 1)) r.1) (Err (Fault StreamTooLong))))
      (cond b (Err (Fault (LongLine i.at))) (cond (leb (i.at + (length r.0 + 1)) STREAM_BYTES) (got_line i.at r.0 (i.at + (length r.0 + 1)) (r.1 ++ more)) (Err (Fault StreamTooLong))))) [
        | true ↦ refl
        | false ↦ elim (leb (i.at + (length r.0 + 1)) STREAM_BYTES) as (λ b. Agrees more
            (cond b (got_line i.at r.0 (i.at + (length r.0 + 1)) r.1) (Err (Fault StreamTooLong)))
            (cond b (got_line i.at r.0 (i.at + (length r.0 + 1)) (r.1 ++ more)) (Err (Fault StreamTooLong)))) [ true ↦ refl | false ↦ refl ]
      ]

  -- the line has n bytes so far
  still_long : (n m : ℕ) → n ≤ m → is_long i.at n ≡ true → is_long i.at m ≡ true
  still_long n m h e =
      let a : LINE_BYTES + 1 ≤ n = leb-true (LINE_BYTES + 1) n (first_so _ _ e) in
      rw (le-leb (LINE_BYTES + 1) m (omega arith)) (second_so (leb (LINE_BYTES + 1) n) _ e)

  still_long_line : (o : Option (Bytes × Bytes)) → EndsSame i.rest more None o → is_long i.at (length i.rest) ≡ true → line_from ended (grown more i) o ≡ Err (Fault (LongLine i.at))
  still_long_line None h e = rw (still_long (length i.rest) (length (i.rest ++ more)) (omega (arith, length-append i.rest more)) e) refl
  still_long_line (Some r) h e = rw (still_long (length i.rest) (length r.0) h e) refl

  not_long : (n m : ℕ) → n ≤ m → is_long i.at n ≡ false → STREAM_BYTES < i.at + n → is_long i.at m ≡ false
  not_long n m h e g =
      elim (leb (i.at + LINE_BYTES + 1) STREAM_BYTES) as (λ b. leb (i.at + LINE_BYTES + 1) STREAM_BYTES ≡ b → (leb (LINE_BYTES + 1) n && b) ≡ false → (leb (LINE_BYTES + 1) m && b) ≡ false) [
        | false ↦ λ p q. and-false (leb (LINE_BYTES + 1) m)
        | true ↦ λ p q.
            let a : i.at + LINE_BYTES + 1 ≤ STREAM_BYTES = leb-true (i.at + LINE_BYTES + 1) STREAM_BYTES p in
            let b : LINE_BYTES + 1 ≤ n = omega arith in
            absurd (true≢false (sym (rw (le-leb (LINE_BYTES + 1) n b) refl) ∙ q))
      ] refl e

  still_over : (o : Option (Bytes × Bytes)) → EndsSame i.rest more None o → is_long i.at (length i.rest) ≡ false → STREAM_BYTES < i.at + length i.rest → line_from ended (grown more i) o ≡ Err (Fault StreamTooLong)
  still_over None h e g =
      let k : length i.rest ≤ length (i.rest ++ more) = omega (arith, length-append i.rest more) in
      rw (not_long (length i.rest) (length (i.rest ++ more)) k e g, lt-leb (i.at + length (i.rest ++ more)) STREAM_BYTES (omega arith)) refl
  still_over (Some r) h e g =
      rw (not_long (length i.rest) (length r.0) h e g, lt-leb (i.at + (length r.0 + 1)) STREAM_BYTES (omega arith)) refl

  none_agrees : (o : Option (Bytes × Bytes)) → EndsSame i.rest more None o → Agrees more (line_from false i None) (line_from ended (grown more i) o)
  none_agrees o h =
      elim (is_long i.at (length i.rest)) as (λ b. is_long i.at (length i.rest) ≡ b → Agrees more (cond b (Err (Fault (LongLine i.at))) (cond (leb (i.at + length i.rest) STREAM_BYTES) (Err (More (wants.Line i.at))) (Err (Fault StreamTooLong)))) (line_from ended (grown more i) o)) [
        | true ↦ λ e. still_long_line o h e
        | false ↦ λ e. elim (leb (i.at + length i.rest) STREAM_BYTES) as (λ b. leb (i.at + length i.rest) STREAM_BYTES ≡ b → Agrees {A = Option Line} more (cond b (Err (More (wants.Line i.at))) (Err (Fault StreamTooLong))) (line_from ended (grown more i) o)) [
          | true ↦ λ g. tt
          | false ↦ λ g. still_over o h e (leb-false (i.at + length i.rest) STREAM_BYTES g)
        ] refl
      ] refl

  from_agrees : (o p : Option (Bytes × Bytes)) → EndsSame i.rest more o p → Agrees more (line_from false i o) (line_from ended (grown more i) p)
  from_agrees (Some r) p h = subst (λ q. Agrees more (line_from false i (Some r)) (line_from ended (grown more i) q)) (sym h) (some_agrees r)
  from_agrees None p h = none_agrees p h

pub any_line-settles : Settles any_line
unfolding any_line
any_line-settles ended more i = from_agrees ended more i (split_line i.rest) (split_line (i.rest ++ more)) (ends_same i.rest more)

-- ---- behind comments

comment_agrees : (more : Bytes) (f g : Input → Lex (Option Line)) → ((i : Input) → Agrees more (f i) (g (grown more i))) → (x : Option Line) (i : Input) → Agrees more (past_comment f (x, i)) (past_comment g (x, grown more i))
comment_agrees more f g h None i = refl
comment_agrees more f g h (Some l) i =
    elim (is_comment l.bytes) as (λ b. Agrees more (cond b (f i) (Ok (Some l, i))) (cond b (g (grown more i)) (Ok (Some l, grown more i)))) [ true ↦ h i | false ↦ refl ]

within_agrees : (n m : ℕ) → n ≤ m → (ended : Bool) (more : Bytes) (i : Input) → Agrees more (line_within n false i) (line_within m ended (grown more i))
within_agrees zero m h ended more i = tt
within_agrees (suc n) zero h ended more i = absurd (omega arith)
within_agrees (suc n) (suc m) h ended more i =
    bind_agrees more (any_line false i) (any_line ended (grown more i)) (past_comment (line_within n false)) (past_comment (line_within m ended)) (any_line-settles ended more i)
    (comment_agrees more (line_within n false) (line_within m ended) (λ j. within_agrees n m (omega arith) ended more j))

pub line_at-settles : Settles line_at
unfolding line_at
line_at-settles ended more i = within_agrees (length i.rest + 1) (length (i.rest ++ more) + 1) (omega (arith, length-append i.rest more)) ended more i

-- ---- blocks

module _ (ended : Bool) (more : Bytes) (i : Input) (n : ℕ) where
  end_agrees : (b xs : Bytes) → Agrees more (block_end false n b xs i) (block_end ended n b (xs ++ more) (grown more i))
  end_agrees b [] = tt
  end_agrees b (x ∷ xs) = end_here ended
    where
      end_here : (e : Bool) → Agrees more (block_end false n b (x ∷ xs) i) (block_end e n b (x ∷ xs ++ more) (grown more i))
      end_here e =
          elim (eqb x 10) as (λ t. Agrees more
          (cond t (cond (leb (i.at + (n + 1)) STREAM_BYTES) (got_block b (i.at + (n + 1)) xs) (Err (Fault StreamTooLong))) (got_block b (i.at + n) (x ∷ xs)))
          (cond t (cond (leb (i.at + (n + 1)) STREAM_BYTES) (got_block b (i.at + (n + 1)) (xs ++ more)) (Err (Fault StreamTooLong))) (got_block b (i.at + n) (x ∷ xs ++ more)))) [
            | false ↦ refl
            | true ↦ elim (leb (i.at + (n + 1)) STREAM_BYTES) as (λ t. Agrees more
                (cond t (got_block b (i.at + (n + 1)) xs) (Err (Fault StreamTooLong)))
                (cond t (got_block b (i.at + (n + 1)) (xs ++ more)) (Err (Fault StreamTooLong)))) [ true ↦ refl | false ↦ refl ]
          ]

  enough : n ≤ length i.rest → block_at n ended (grown more i) ≡ cond (leb (i.at + n) STREAM_BYTES) (block_end ended n (take n i.rest) (drop n i.rest ++ more) (grown more i)) (Err (Fault StreamTooLong))
  unfolding block_at
  enough h = rw (le-leb n (length (i.rest ++ more)) (omega (arith, length-append i.rest more)), take-append-le, drop-append-le) refl

  too_few : length i.rest < n → STREAM_BYTES < i.at + length i.rest → block_at n ended (grown more i) ≡ Err (Fault StreamTooLong)
  unfolding block_at
  too_few h g =
      let long = length-append i.rest more in
      elim (leb n (length (i.rest ++ more))) as (λ t. cond t (cond (leb (i.at + n) STREAM_BYTES) (block_end ended n (take n (i.rest ++ more)) (drop n (i.rest ++ more)) (grown more i)) (Err (Fault StreamTooLong))) (cond (leb (i.at + length (i.rest ++ more)) STREAM_BYTES) (short_block n ended (grown more i)) (Err (Fault StreamTooLong))) ≡ Err (Fault StreamTooLong)) [
        | true ↦ rw (lt-leb (i.at + n) STREAM_BYTES (omega arith)) refl
        | false ↦ rw (lt-leb (i.at + length (i.rest ++ more)) STREAM_BYTES (omega arith)) refl
      ]

pub block_at-settles : (n : ℕ) → Settles (block_at n)
unfolding block_at
block_at-settles n ended more i =
    elim (leb n (length i.rest)) as (λ t. leb n (length i.rest) ≡ t → Agrees more
    (cond t (cond (leb (i.at + n) STREAM_BYTES) (block_end false n (take n i.rest) (drop n i.rest) i) (Err (Fault StreamTooLong))) (cond (leb (i.at + length i.rest) STREAM_BYTES) (Err (More (wants.Block i.at n))) (Err (Fault StreamTooLong))))
    (block_at n ended (grown more i))) [
      | true ↦ λ e. subst (Agrees more _) (sym (enough ended more i n (leb-true n (length i.rest) e)))
          (elim (leb (i.at + n) STREAM_BYTES) as (λ t. Agrees more
          (cond t (block_end false n (take n i.rest) (drop n i.rest) i) (Err (Fault StreamTooLong)))
          (cond t (block_end ended n (take n i.rest) (drop n i.rest ++ more) (grown more i)) (Err (Fault StreamTooLong)))) [ true ↦ end_agrees ended more i n (take n i.rest) (drop n i.rest) | false ↦ refl ])
      | false ↦ λ e.
          elim (leb (i.at + length i.rest) STREAM_BYTES) as (λ t. leb (i.at + length i.rest) STREAM_BYTES ≡ t → Agrees {A = Option Bytes} more (cond t (Err (More (wants.Block i.at n))) (Err (Fault StreamTooLong))) (block_at n ended (grown more i))) [
            | true ↦ λ g. tt
            | false ↦ λ g. too_few ended more i n (leb-false n (length i.rest) e) (leb-false (i.at + length i.rest) STREAM_BYTES g)
          ] refl
    ] refl

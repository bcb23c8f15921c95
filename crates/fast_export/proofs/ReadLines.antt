-- What is read of a line, or of data, that stands first in what is left.
use Rattle.std.proofs.Common.{◌≡◌, inl, inr, ℕ, ◌+◌, ◌-◌, ◌^◌, ◌<◌, ◌≤◌, true, false, cond, leb, [], ◌∷◌, ◌++◌, length, Option, Some, None, Ok, Err, refl, sym, ap, ◌∙◌, subst, arith, length-append}
use borrow.Author.Tests.{leb-true, leb-false}
use Rattle.std.specs.Prelude.{codes, nat_le}
use Rattle.std.specs.Fmt.{decimal}
use Rattle.git_objects.specs.declared.quantity.Quantity.{Quantity}
use Rattle.git_objects.specs.declared.quantity.Quantity.TheVariants as limits
use Rattle.git_objects.specs.Paths.{Bytes}
use Rattle.git_objects.specs.CommitBodies.{strip}
use Rattle.git_objects.proofs.CommitReading.{strip-read}
use Rattle.stream_lex.specs.declared.stop.LimitFault.TheVariants.{LongLine}
use Rattle.stream_lex.specs.Lines.{Input, Line, line_at, is_comment}
use Rattle.stream_lex.specs.Spelling.{no_lf, TakesLine, NextLine, IsLong, NextIsLong, TakesBlock}
use Rattle.stream_lex.proofs.Spelled.{plain_at, line_at-again, long-again}
use Rattle.stream_lex.proofs.BlockSpelled.{block_at-sized}
use Rattle.stream_reader.specs.declared.fault.StreamFault.TheVariants.{Syntax, Limit, Unsupported}
use Rattle.stream_reader.specs.declared.fault.Feature.TheVariants.{Delimiter}
use Rattle.stream_lex.specs.declared.stop.Stop.TheVariants as stops
use Rattle.git_objects.specs.Results.{◌>>=◌}
use Rattle.stream_lex.specs.Cutting.{◌then◌, judged, refuse}
use Rattle.stream_reader.specs.Reading.{Judged, lifted, line_text, line_behind, option_line, must, need_line, or_fault}
use Rattle.path_names.specs.Words.{number}
use Rattle.git_objects.specs.declared.limits.TheConstants.{BLOB_BYTES, MESSAGE_BYTES, LINE_BYTES}
use Rattle.stream_reader.specs.Blocks.{block_in, whole_block, sized_block, data_behind, blob_data, message_behind, message_data}
use Rattle.stream_reader.specs.Heads.{if_some, said}
use Rattle.fast_export.proofs.Goings.{Reads, Read, Limited, Says, Said, Over, then_reads, judged_reads}
use Rattle.fast_export.proofs.Numbers.{number_again, digits_plain, sized_plain}

-- ---- what is left of n bytes

abbrev pub left : ℕ → Bytes → Input
left n t = record { at = n - length t; rest = t }

pub record Room (n : ℕ) (t : Bytes) : Type 0 where
  pub fits : length t ≤ n
  pub most : n ≤ 2 ^ 28

pub room_behind : (n : ℕ) (a b : Bytes) → Room n (a ++ b) → Room n b
room_behind n a b r = let f = r.fits in record { fits = omega (arith, length-append a b); most = r.most }

pub room_along : (n : ℕ) (a b : Bytes) → a ≡ b → Room n a → Room n b
room_along n a b e r = subst (Room n) e r

-- the text of a line
pub record IsLine (l : Bytes) : Type 0 where
  pub plain : no_lf l ≡ true
  pub seen : is_comment l ≡ false

-- ---- the next line

pub data LineTold (n : ℕ) (l rest : Bytes) : Type 0 where
  LineIs : line_at true (left n (l ++ 10 ∷ rest)) ≡ Ok (Some (record { place = n - length (l ++ 10 ∷ rest); bytes = l }), left n rest) → LineTold n l rest
  LineLong : (at : ℕ) → line_at true (left n (l ++ 10 ∷ rest)) ≡ Err (stops.Fault (LongLine at)) → LineTold n l rest

pub line_told : (n : ℕ) (l rest : Bytes) → Room n (l ++ 10 ∷ rest) → IsLine l → LineTold n l rest
line_told n l rest r k =
    elim (leb (length l) LINE_BYTES) as (λ b. leb (length l) LINE_BYTES ≡ b → LineTold n l rest) [
      | true ↦ λ e. LineIs (line_at-again (left n text) (record { place = n - length text; bytes = l }) (left n rest) (next (leb-true (length l) LINE_BYTES e)))
      | false ↦ λ e. LineLong (n - length text) (long-again true (left n text) (n - length text) (long (leb-false (length l) LINE_BYTES e)))
    ] refl
  where
    text : Bytes
    text = l ++ 10 ∷ rest

    size : length (l ++ 10 ∷ rest) ≡ length l + (length rest + 1)
    size = omega (arith, length-append l (10 ∷ rest))

    ends : n - length rest ≡ n - length (l ++ 10 ∷ rest) + (length l + 1)
    ends = let f = r.fits in let s = size in omega arith

    takes : length l ≤ LINE_BYTES → TakesLine (left n (l ++ 10 ∷ rest)) (record { place = n - length (l ++ 10 ∷ rest); bytes = l }) (left n rest)
    takes h = let m = r.most in record { place = refl; plain = k.plain; short = h; within = omega arith; ends = inl (refl, ends) }

    next : length l ≤ LINE_BYTES → NextLine (left n (l ++ 10 ∷ rest)) (record { place = n - length (l ++ 10 ∷ rest); bytes = l }) (left n rest)
    next h = record { comments = []; from = left n (l ++ 10 ∷ rest); skips = refl; takes = takes h; plain = k.seen }

    is_long : LINE_BYTES < length l → IsLong (left n (l ++ 10 ∷ rest))
    is_long h = let f = r.fits in let m = r.most in let s = size in
        record { some = omega arith; plain = λ i a b. plain_at l (10 ∷ rest) i k.plain (omega arith); within = omega arith }

    long : LINE_BYTES < length l → NextIsLong (left n (l ++ 10 ∷ rest)) (n - length (l ++ 10 ∷ rest))
    long h = record { comments = []; from = left n (l ++ 10 ∷ rest); skips = refl; place = refl; long = is_long h }

-- ---- a line that begins with a word

abbrev pub is_text : Bytes → Option Line → Type 0
is_text v o = (at : ℕ) × (o ≡ Some (record { place = at; bytes = v }))

pub word_reads : (word v : Bytes) (n : ℕ) (rest : Bytes) → Room n ((word ++ v) ++ 10 ∷ rest) → IsLine (word ++ v) → Reads (option_line word true (left n ((word ++ v) ++ 10 ∷ rest))) (is_text v) (left n rest)
unfolding option_line
word_reads word v n rest r k = by (line_told n (word ++ v) rest r k)
  where
    by : LineTold n (word ++ v) rest → Reads (lifted (line_at true (left n ((word ++ v) ++ 10 ∷ rest))) >>= line_behind word (left n ((word ++ v) ++ 10 ∷ rest))) (is_text v) (left n rest)
    by (LineIs e) = Read (Some (record { place = n - length ((word ++ v) ++ 10 ∷ rest); bytes = v }))
        (ap (λ r. lifted r >>= line_behind word (left n ((word ++ v) ++ 10 ∷ rest))) e
        ∙ ap (λ s. line_text (record { place = n - length ((word ++ v) ++ 10 ∷ rest); bytes = word ++ v }) (left n ((word ++ v) ++ 10 ∷ rest)) s (left n rest)) (strip-read word v))
        (n - length ((word ++ v) ++ 10 ∷ rest), refl)
    by (LineLong at e) = Limited at limits.Line (ap (λ r. lifted r >>= line_behind word (left n ((word ++ v) ++ 10 ∷ rest))) e)

-- and one that doesn't
pub other_reads : (word l : Bytes) (n : ℕ) (rest : Bytes) → Room n (l ++ 10 ∷ rest) → IsLine l → strip word l ≡ None → Reads (option_line word true (left n (l ++ 10 ∷ rest))) (λ o. o ≡ None) (left n (l ++ 10 ∷ rest))
unfolding option_line
other_reads word l n rest r k h = by (line_told n l rest r k)
  where
    by : LineTold n l rest → Reads (lifted (line_at true (left n (l ++ 10 ∷ rest))) >>= line_behind word (left n (l ++ 10 ∷ rest))) (λ o. o ≡ None) (left n (l ++ 10 ∷ rest))
    by (LineIs e) = Read None
        (ap (λ r. lifted r >>= line_behind word (left n (l ++ 10 ∷ rest))) e
        ∙ ap (λ s. line_text (record { place = n - length (l ++ 10 ∷ rest); bytes = l }) (left n (l ++ 10 ∷ rest)) s (left n rest)) h)
        refl
    by (LineLong at e) = Limited at limits.Line (ap (λ r. lifted r >>= line_behind word (left n (l ++ 10 ∷ rest))) e)

-- a line that must be there
pub need_reads : (l : Bytes) (n : ℕ) (rest : Bytes) → Room n (l ++ 10 ∷ rest) → IsLine l → Reads (need_line true (left n (l ++ 10 ∷ rest))) (λ x. x.bytes ≡ l) (left n rest)
unfolding need_line
need_reads l n rest r k = by (line_told n l rest r k)
  where
    by : LineTold n l rest → Reads (lifted (line_at true (left n (l ++ 10 ∷ rest))) >>= must) (λ x. x.bytes ≡ l) (left n rest)
    by (LineIs e) = Read (record { place = n - length (l ++ 10 ∷ rest); bytes = l }) (ap (λ r. lifted r >>= must) e) refl
    by (LineLong at e) = Limited at limits.Line (ap (λ r. lifted r >>= must) e)

-- a line that may be missing, and what its text says
pub said_reads : {A : Type 0} (word v : Bytes) (says : Line → Judged A) (n : ℕ) (rest : Bytes) (P : A → Type 0) → Room n ((word ++ v) ++ 10 ∷ rest) → IsLine (word ++ v) →
    ((at : ℕ) → Says (says (record { place = at; bytes = v })) P) → Reads (said word says true (left n ((word ++ v) ++ 10 ∷ rest))) (λ o. (x : A) × (o ≡ Some x) × P x) (left n rest)
said_reads {A = A} word v says n rest P r k h =
    then_reads (option_line word) (λ o. judged (if_some says o)) (left n ((word ++ v) ++ 10 ∷ rest)) (left n rest) (left n rest) (is_text v) (λ o. (x : A) × (o ≡ Some x) × P x)
    (word_reads word v n rest r k)
    (λ o p. judged_reads (if_some says o) (left n rest) (λ o. (x : A) × (o ≡ Some x) × P x) (given o p.0 p.1 (h p.0)))
  where
    given : (o : Option Line) (at : ℕ) → o ≡ Some (record { place = at; bytes = v }) → Says (says (record { place = at; bytes = v })) P → Says (if_some says o) (λ o. (x : A) × (o ≡ Some x) × P x)
    given o at e (Said x d p) = Said (Some x) (ap (if_some says) e ∙ ap (λ s. s >>= λ x. Ok (Some x)) d) (x, refl, p)
    given o at e (Over a which d) = Over a which (ap (if_some says) e ∙ ap (λ s. s >>= λ x. Ok (Some x)) d)

pub missing_reads : {A : Type 0} (word l : Bytes) (says : Line → Judged A) (n : ℕ) (rest : Bytes) → Room n (l ++ 10 ∷ rest) → IsLine l → strip word l ≡ None →
    Reads (said word says true (left n (l ++ 10 ∷ rest))) (λ o. o ≡ None) (left n (l ++ 10 ∷ rest))
missing_reads word l says n rest r k h =
    then_reads (option_line word) (λ o. judged (if_some says o)) (left n (l ++ 10 ∷ rest)) (left n (l ++ 10 ∷ rest)) (left n (l ++ 10 ∷ rest)) (λ o. o ≡ None) (λ o. o ≡ None)
    (other_reads word l n rest r k h) (λ o p. judged_reads (if_some says o) (left n (l ++ 10 ∷ rest)) (λ o. o ≡ None) (Said None (ap (if_some says) p) refl))

-- ---- data

abbrev pub data_text : Bytes → Bytes → Bytes
data_text b rest = (codes "data " ++ decimal (length b)) ++ 10 ∷ (b ++ 10 ∷ rest)

pub data_line : (n : ℕ) → n < 2 ^ 30 → IsLine (codes "data " ++ decimal n)
data_line n h = record { plain = digits_plain n h; seen = refl }

pub data_short : (n : ℕ) (b rest : Bytes) → Room n (data_text b rest) → length b < 2 ^ 30
data_short n b rest r =
    let f = r.fits in let m = r.most in
    omega (arith, length-append (codes "data " ++ decimal (length b)) (10 ∷ (b ++ 10 ∷ rest)), length-append b (10 ∷ rest))

block_taken : (n : ℕ) (b rest : Bytes) → Room n (b ++ 10 ∷ rest) → TakesBlock (left n (b ++ 10 ∷ rest)) b (left n rest)
block_taken n b rest r =
    let f = r.fits in let m = r.most in
    let s : length (b ++ 10 ∷ rest) ≡ length b + (length rest + 1) = omega (arith, length-append b (10 ∷ rest)) in
    let e : n - length rest ≡ n - length (b ++ 10 ∷ rest) + length b + 1 = omega arith in
    record { rest = 10 ∷ rest; front = refl; past = inl (refl, λ k. record { at = e k; rest = rest }); within = omega arith }

block_reads : (which : Quantity) (most at n : ℕ) (b rest : Bytes) → Room n (b ++ 10 ∷ rest) → Reads (sized_block which most at (length b) true (left n (b ++ 10 ∷ rest))) (λ x. x ≡ b) (left n rest)
block_reads which most at n b rest r =
    elim (nat_le (length b) most) as (λ v. Reads (cond v (whole_block at (length b)) (λ e i. Err (stops.Fault (Limit at which))) true (left n (b ++ 10 ∷ rest))) (λ x. x ≡ b) (left n rest)) [
      | true ↦ Read b (ap (λ r. lifted r >>= block_in at) (block_at-sized (length b) true (left n (b ++ 10 ∷ rest)) b (left n rest) (block_taken n b rest r) refl (inr refl))) refl
      | false ↦ Limited at which refl
    ]

behind_reads : (which : Quantity) (most at n : ℕ) (b rest : Bytes) → Room n (b ++ 10 ∷ rest) → length b < 2 ^ 30 →
    Reads (data_behind which most (record { place = at; bytes = codes "data " ++ decimal (length b) }) true (left n (b ++ 10 ∷ rest))) (λ x. x ≡ b) (left n rest)
unfolding data_behind
behind_reads which most at n b rest r h =
    subst (λ v. Reads (cond v (refuse (Unsupported at Delimiter)) (judged (or_fault (Syntax at) (number (decimal (length b)))) then sized_block which most at) true (left n (b ++ 10 ∷ rest))) (λ x. x ≡ b) (left n rest)) (sym (sized_plain (length b) h))
    (subst (λ o. Reads ((judged (or_fault (Syntax at) o) then sized_block which most at) true (left n (b ++ 10 ∷ rest))) (λ x. x ≡ b) (left n rest)) (sym (number_again (length b) h))
    (block_reads which most at n b rest r))

along_line : (which : Quantity) (most n : ℕ) (b rest : Bytes) (l : Line) → l.bytes ≡ codes "data " ++ decimal (length b) →
    Reads (data_behind which most (record { place = l.place; bytes = codes "data " ++ decimal (length b) }) true (left n (b ++ 10 ∷ rest))) (λ x. x ≡ b) (left n rest) →
    Reads (data_behind which most l true (left n (b ++ 10 ∷ rest))) (λ x. x ≡ b) (left n rest)
along_line which most n b rest l e h = subst (λ (t : Bytes). Reads (data_behind which most (record { place = l.place; bytes = t }) true (left n (b ++ 10 ∷ rest))) (λ x. x ≡ b) (left n rest)) (sym e) h

pub blob_data_reads : (n : ℕ) (b rest : Bytes) → Room n (data_text b rest) → Reads (blob_data true (left n (data_text b rest))) (λ x. x ≡ b) (left n rest)
unfolding blob_data
blob_data_reads n b rest r =
    let s = data_short n b rest r in
    let q = room_behind n (10 ∷ []) (b ++ 10 ∷ rest) (room_behind n (codes "data " ++ decimal (length b)) (10 ∷ (b ++ 10 ∷ rest)) r) in
    then_reads need_line (data_behind limits.Blob BLOB_BYTES) (left n (data_text b rest)) (left n (b ++ 10 ∷ rest)) (left n rest) (λ x. x.bytes ≡ codes "data " ++ decimal (length b)) (λ x. x ≡ b)
    (need_reads (codes "data " ++ decimal (length b)) n (b ++ 10 ∷ rest) r (data_line (length b) s))
    (λ l e. along_line limits.Blob BLOB_BYTES n b rest l e (behind_reads limits.Blob BLOB_BYTES l.place n b rest q s))

pub message_data_reads : (n : ℕ) (b rest : Bytes) → Room n (data_text b rest) → Reads (message_data true (left n (data_text b rest))) (λ x. x ≡ b) (left n rest)
unfolding message_data
message_data_reads n b rest r =
    let s = data_short n b rest r in
    let q = room_behind n (10 ∷ []) (b ++ 10 ∷ rest) (room_behind n (codes "data " ++ decimal (length b)) (10 ∷ (b ++ 10 ∷ rest)) r) in
    then_reads need_line message_behind (left n (data_text b rest)) (left n (b ++ 10 ∷ rest)) (left n rest) (λ x. x.bytes ≡ codes "data " ++ decimal (length b)) (λ x. x ≡ b)
    (need_reads (codes "data " ++ decimal (length b)) n (b ++ 10 ∷ rest) r (data_line (length b) s))
    (λ l e. subst (λ (t : Bytes). Reads (message_behind (record { place = l.place; bytes = t }) true (left n (b ++ 10 ∷ rest))) (λ x. x ≡ b) (left n rest)) (sym e)
    (behind_reads limits.Message MESSAGE_BYTES l.place n b rest q s))

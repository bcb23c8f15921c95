-- The bytes of a disk after a record is added.
use Rattle.std.proofs.Common.{◌≡◌, ◌≤◌, ◌+◌, ◌++◌, [], ◌∷◌, ℕ, suc, List, length, take, drop, Some, None, sym, ◌∙◌, ap, subst, arith, length-append, append_assoc}
use Rattle.std.proofs.lemmas.List.{drop_at, length-take, take-append-le, take-take}
use Rattle.std.specs.declared.option.Option.{Option}
use Rattle.std.specs.Int.{w32, to_be_bytes}
use Rattle.std.specs.Prelude.{IfSome}
use Rattle.std.specs.Option.{option_map}
use Rattle.proj_disk.specs.Disks.{DiskView, IsImage, put, stable}
use Rattle.proj_journal.specs.Spelling.{listed, record_of}
use Rattle.proj_journal.specs.Spelled.{length-size}
use Rattle.proj_journal.specs.Rest.{IsAtRest, Puts, behind_gate, record_and_gate}
use Rattle.proj_journal.specs.Resting.{room_behind}
use Rattle.proj_journal.proofs.Gathered.{puts_on}
use Rattle.proj_journal.proofs.Staging.{puts_none}

inside_rest : (end : ℕ) (o : Option DiskView) → IsAtRest end o → IfSome o (λ d. IsImage d d.bytes) → IfSome o (λ d. end + 1 ≤ length d.bytes)
inside_rest end None rest reads = tt
inside_rest end (Some d) rest reads = room_behind end (listed d.bytes) d rest reads

-- a sync changes no bytes
pub puts_synced : (at : ℕ) (piece : List ℕ) (o p q : Option DiskView) → Puts at piece o p → q ≡ option_map (λ d. stable d.bytes) p → Puts at piece o q
puts_synced at piece None p q puts is = is ∙ ap (option_map (λ (d : DiskView). stable d.bytes)) puts
puts_synced at piece (Some d) None q puts is = absurd puts
puts_synced at piece (Some d) (Some e) None puts is = cc
puts_synced at piece (Some d) (Some e) (Some f) puts is =
    let same : f ≡ stable e.bytes = cc in
    ap (λ (v : DiskView). v.bytes) same ∙ puts

-- three pieces behind the gate at the end
pub puts_staged : (end : ℕ) (item : List ℕ) (o a b p q : Option DiskView) → IsAtRest end o → IfSome o (λ d. IsImage d d.bytes)
    → Puts (end + 1) (to_be_bytes w32 (length item)) o a → Puts (end + 5) item a b → Puts (end + 5 + length item) (0 ∷ []) b p
    → q ≡ option_map (λ d. stable d.bytes) p → Puts (end + 1) (behind_gate item) o q
puts_staged end item o a b p q rest reads x y z sync =
    let size = to_be_bytes w32 (length item) in
    let inside = inside_rest end o rest reads in
    let four : length size ≡ 4 = length-size (length item) in
    let next : end + 5 ≡ end + 1 + length size = omega (arith, four) in
    let last : end + 5 + length item ≡ end + 1 + length (size ++ item) = omega (arith, four, length-append size item) in
    let two : Puts (end + 1) (size ++ item) o b = puts_on (end + 1) size item o a b inside x (subst (λ (n : ℕ). Puts n item a b) next y) in
    let three : Puts (end + 1) ((size ++ item) ++ 0 ∷ []) o p = puts_on (end + 1) (size ++ item) (0 ∷ []) o b p inside two (subst (λ (n : ℕ). Puts n (0 ∷ []) b p) last z) in
    puts_synced (end + 1) (behind_gate item) o p q (subst (λ (l : List ℕ). Puts (end + 1) l o p) (append_assoc size item (0 ∷ [])) three) sync

-- the gate of a record, put before what stands behind it
put_before : (end : ℕ) (piece bytes : List ℕ) → end + 1 ≤ length bytes → put end (1 ∷ []) (put (end + 1) piece bytes) ≡ put end (1 ∷ piece) bytes
put_before end piece bytes le =
    let front = take (end + 1) bytes in
    let rest = piece ++ drop (end + 1 + length piece) bytes in
    let long : length front ≡ end + 1 = omega (arith, length-take (end + 1) bytes, le) in
    let first : take end (front ++ rest) ≡ take end bytes = take-append-le end front rest (omega (arith, long)) ∙ take-take end (end + 1) bytes (omega arith) in
    let behind : drop (end + 1) (front ++ rest) ≡ rest = drop_at front rest (end + 1) long in
    let far : end + 1 + length piece ≡ end + suc (length piece) = omega arith in
    (λ i. first i ++ (1 ∷ behind i)) ∙ ap (λ (n : ℕ). take end bytes ++ (1 ∷ (piece ++ drop n bytes))) far

record_is : (item : List ℕ) → 1 ∷ behind_gate item ≡ record_and_gate item
unfolding record_of
record_is item = ap (λ (l : List ℕ). 1 ∷ l) (sym (append_assoc (to_be_bytes w32 (length item)) item (0 ∷ [])))

pub puts_record : (end : ℕ) (item : List ℕ) (o p q : Option DiskView) → IsAtRest end o → IfSome o (λ d. IsImage d d.bytes)
    → Puts (end + 1) (behind_gate item) o p → Puts end (1 ∷ []) p q → Puts end (record_and_gate item) o q
puts_record end item None p q rest reads first second = puts_none end (1 ∷ []) p q first second
puts_record end item (Some d) None q rest reads first second = absurd first
puts_record end item (Some d) (Some e) None rest reads first second = second
puts_record end item (Some d) (Some e) (Some f) rest reads first second =
    second ∙ ap (put end (1 ∷ [])) first ∙ put_before end (behind_gate item) d.bytes (room_behind end (listed d.bytes) d rest reads)
    ∙ ap (λ (l : List ℕ). put end l d.bytes) (record_is item)

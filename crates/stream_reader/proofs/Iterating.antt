-- The verdict is the commands one by one, and the same for every cutting.
use Rattle.std.proofs.Common.{◌≡◌, ◌+◌, ◌<◌, ℕ, zero, suc, true, false, List, [], ◌∷◌, ◌++◌, length, Option, Some, None, Ok, Err, refl, sym, ap, ◌∙◌, arith, length-append, subst}
use Rattle.std.specs.List.{concat}
use Rattle.git_objects.specs.Paths.{Bytes}
use Rattle.stream_lex.specs.Lines.{Input}
use Rattle.stream_lex.specs.Cutting.{grown}
use Rattle.stream_lex.proofs.Passing.{grown_none, grown_twice}
use Rattle.stream_lex.specs.declared.stop.Stop.TheVariants as stops
use Rattle.stream_reader.specs.declared.command.Placed.{Placed}
use Rattle.stream_reader.specs.declared.progress.Progress.{Progress}
use Rattle.stream_reader.specs.Reading.{Read}
use Rattle.stream_reader.specs.Commands.{Told, read_command}
use Rattle.stream_reader.specs.Verdicts.{Verdict, with_command, told_then, go_on, verdict_within, size, verdict_from, from_start, verdict, or_next, told_within, turns, told}
use Rattle.stream_lex.specs.Cutting.{Agrees}
use Rattle.stream_reader.proofs.Commanding.{IfCommand, CommandLowers, command_lowers, command-reader}

then_same : (p : Progress) (i : Input) (f g : Progress → Input → Verdict) → ((q : Progress) (j : Input) → size q j < size p i → f q j ≡ g q j) →
    (c : Option Placed) (q : Progress) (j : Input) → IfCommand c (size q j < size p i) → told_then f c q j ≡ told_then g c q j
then_same p i f g h (Some c) q j l = ap (with_command c) (h q j l)
then_same p i f g h None q j l = refl

go_same : (p : Progress) (i : Input) (f g : Progress → Input → Verdict) → ((q : Progress) (j : Input) → size q j < size p i → f q j ≡ g q j) →
    (r : Read Told) → CommandLowers p i r → go_on f r ≡ go_on g r
go_same p i f g h (Ok x) l = then_same p i f g h x.0.command x.0.progress x.1 l
go_same p i f g h (Err e) l = refl

same_verdict : (n m : ℕ) (p : Progress) (i : Input) → size p i < n → size p i < m → verdict_within n p i ≡ verdict_within m p i
same_verdict zero m p i h g = absurd (omega arith)
same_verdict (suc n) zero p i h g = absurd (omega arith)
same_verdict (suc n) (suc m) p i h g =
    go_same p i (verdict_within n) (verdict_within m) (λ q j k. same_verdict n m q j (omega arith) (omega arith)) (read_command p true i) (command_lowers p true i)

pub verdict-is : (p : Progress) (i : Input) → verdict_from p i ≡ go_on verdict_from (read_command p true i)
unfolding verdict_from
verdict-is p i =
    ap (λ n. verdict_within n p i) (let k : size p i + 1 ≡ suc (size p i) = omega arith in k)
    ∙ go_same p i (verdict_within (size p i)) (λ q j. verdict_within (size q j + 1) q j)
    (λ q j k. same_verdict (size p i) (size q j + 1) q j k (omega arith)) (read_command p true i) (command_lowers p true i)

-- ---- in pieces

module _ (more : Bytes) (p : Progress) (i : Input) (f : Progress → Input → Verdict) (next : Verdict) (h : (q : Progress) (j : Input) → size q (grown more j) < size p (grown more i) → f q j ≡ verdict_from q (grown more j)) (g : next ≡ go_on verdict_from (read_command p true (grown more i))) where
  told_same : (c : Option Placed) (q : Progress) (j : Input) → IfCommand c (size q (grown more j) < size p (grown more i)) → told_then f c q j ≡ told_then verdict_from c q (grown more j)
  told_same (Some c) q j l = ap (with_command c) (h q j l)
  told_same None q j l = refl

  piece_same : (r : Read Told) → Agrees more r (read_command p true (grown more i)) → or_next (go_on f r) next r ≡ go_on verdict_from (read_command p true (grown more i))
  piece_same (Ok x) a =
      told_same x.0.command x.0.progress x.1 (subst (CommandLowers p (grown more i)) a (command_lowers p true (grown more i))) ∙ ap (go_on verdict_from) (sym a)
  piece_same (Err (stops.More w)) a = g
  piece_same (Err (stops.Fault e)) a = ap (go_on verdict_from) (sym a)

pieces_within : (n : ℕ) (ps : List Bytes) (p : Progress) (i : Input) → turns ps p i < n → told_within n ps p i ≡ verdict_from p (grown (concat ps) i)
pieces_within zero ps p i h = absurd (omega arith)
pieces_within (suc n) [] p i h =
    go_same p i (told_within n []) verdict_from
    (λ q j k. pieces_within n [] q j (omega (arith, length-append i.rest [], length-append j.rest [])) ∙ ap (verdict_from q) (grown_none j)) (read_command p true i) (command_lowers p true i)
    ∙ sym (verdict-is p i) ∙ ap (verdict_from p) (sym (grown_none i))
pieces_within (suc n) (x ∷ ps) p i h =
    let more : Bytes = x ++ concat ps in
    let s : length (grown (concat ps) (grown x i)).rest ≡ length (grown more i).rest = ap (λ (j : Input). length j.rest) (grown_twice x (concat ps) i) in
    piece_same more p i (told_within n (x ∷ ps)) (told_within n ps p (grown x i))
    (λ q j k. pieces_within n (x ∷ ps) q j (omega (arith, h, k)))
    (pieces_within n ps p (grown x i) (omega (arith, h, s)) ∙ ap (verdict_from p) (grown_twice x (concat ps) i) ∙ verdict-is p (grown more i))
    (read_command p false i) ((command-reader p).settles true more i)
    ∙ sym (verdict-is p (grown more i))

pub pieces_same : (p : Progress) (ps : List Bytes) → told p ps ≡ verdict p (concat ps)
pieces_same p ps = pieces_within (turns ps p (from_start []) + 1) ps p (from_start []) (omega arith)

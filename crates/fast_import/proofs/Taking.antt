-- How far a stream is read.
use Rattle.std.proofs.Common.{◌≡◌, ◌+◌, ◌<◌, ◌≤◌, ℕ, zero, suc, true, Option, Some, None, Result, Ok, Err, refl, sym, ap, ◌∙◌, arith, subst}
use Rattle.git_objects.specs.declared.limits.TheConstants.{LINE_BYTES}
use Rattle.stream_lex.specs.Cutting.{IsTold}
use Rattle.stream_lex.specs.Lines.{Input}
use Rattle.stream_lex.specs.declared.stop.Stop.TheVariants.{More, Fault}
use Rattle.stream_reader.specs.Commands.{Told, read_command}
use Rattle.stream_reader.specs.Reading.{Read}
use Rattle.stream_reader.specs.Verdicts.{size}
use Rattle.stream_reader.specs.Waited.{awaited, place_behind, told_place}
use Rattle.stream_reader.specs.declared.command.Placed.{Placed}
use Rattle.stream_reader.specs.declared.fault.StreamFault.{StreamFault}
use Rattle.stream_reader.specs.declared.progress.Progress.{Progress}
use Rattle.stream_reader.proofs.Commanding.{CommandLowers, IfCommand, command-reader, command_lowers}
use Rattle.stream_reader.proofs.Prompting.{From}
use Rattle.stream_reader.proofs.PromptTurns.{ToldLater, command_later}
use Rattle.fast_import.specs.Replays.{Replay}
use Rattle.fast_import.specs.Waited.{Step, waited_behind, waited_from, waited_on, waited_told, waited_within}

-- ---- enough commands are allowed for

module _ (one : Step) where
  on_same : (f g : Replay → Progress → Input → ℕ) (q : Progress) (j : Input) → ((r : Replay) → f r q j ≡ g r q j) → (x : Result Replay StreamFault) → waited_on f q j x ≡ waited_on g q j x
  on_same f g q j h (Ok r) = h r
  on_same f g q j h (Err e) = refl

  behind_same : (f g : Replay → Progress → Input → ℕ) (n : ℕ) → ((r : Replay) (q : Progress) (j : Input) → size q j < n → f r q j ≡ g r q j) →
      (r : Replay) (c : Option Placed) (q : Progress) (j : Input) → IfCommand c (size q j < n) → waited_behind f one r c q j ≡ waited_behind g one r c q j
  behind_same f g n h r (Some c) q j l = on_same f g q j (λ s. h s q j l) (one r c)
  behind_same f g n h r None q j l = refl

  told_same : (f g : Replay → Progress → Input → ℕ) (p : Progress) (i : Input) → ((r : Replay) (q : Progress) (j : Input) → size q j < size p i → f r q j ≡ g r q j) →
      (r : Replay) (x : Read Told) → CommandLowers p i x → waited_told f one r x ≡ waited_told g one r x
  told_same f g p i h r (Ok x) l = behind_same f g (size p i) h r x.0.command x.0.progress x.1 l
  told_same f g p i h r (Err (More w)) l = refl
  told_same f g p i h r (Err (Fault e)) l = refl

  same_within : (n m : ℕ) (r : Replay) (p : Progress) (i : Input) → size p i < n → size p i < m → waited_within n one r p i ≡ waited_within m one r p i
  same_within zero m r p i h g = absurd (omega arith)
  same_within (suc n) zero r p i h g = absurd (omega arith)
  same_within (suc n) (suc m) r p i h g =
      told_same (waited_within n one) (waited_within m one) p i (λ s q j k. same_within n m s q j (omega arith) (omega arith)) r (read_command p true i) (command_lowers p true i)

  pub waited-is : (r : Replay) (p : Progress) (i : Input) → waited_from one r p i ≡ waited_told (waited_from one) one r (read_command p true i)
  unfolding waited_from
  waited-is r p i =
      ap (λ n. waited_within n one r p i) (let k : size p i + 1 ≡ suc (size p i) = omega arith in k)
      ∙ told_same (waited_within (size p i) one) (λ s q j. waited_within (size q j + 1) one s q j) p i
      (λ s q j k. same_within (size p i) (size q j + 1) s q j k (omega arith)) r (read_command p true i) (command_lowers p true i)

  -- ---- what is looked at isn't behind the place up to which is read

  on_later : (b : ℕ) (q : Progress) (j : Input) → ((s : Replay) → b ≤ waited_from one s q j + (LINE_BYTES + 1)) → b ≤ awaited q.phase j → (x : Result Replay StreamFault) → b ≤ waited_on (waited_from one) q j x + (LINE_BYTES + 1)
  on_later b q j h l (Ok s) = h s
  on_later b q j h l (Err f) = omega (arith, l)

  behind_later : (b n : ℕ) → ((s : Replay) (q : Progress) (j : Input) → size q j < n → b ≤ awaited q.phase j → b ≤ waited_from one s q j + (LINE_BYTES + 1)) →
      (r : Replay) (c : Option Placed) (q : Progress) (j : Input) → IfCommand c (size q j < n) → b ≤ place_behind c q j → b ≤ waited_behind (waited_from one) one r c q j + (LINE_BYTES + 1)
  behind_later b n h r (Some c) q j m l = on_later b q j (λ s. h s q j m l) l (one r c)
  behind_later b n h r None q j m l = omega (arith, l)

  told_later : (b : ℕ) (p : Progress) (i : Input) → ((s : Replay) (q : Progress) (j : Input) → size q j < size p i → b ≤ awaited q.phase j → b ≤ waited_from one s q j + (LINE_BYTES + 1)) →
      (r : Replay) (x : Read Told) → CommandLowers p i x → IsTold x → From b (ToldLater b) x → b ≤ waited_told (waited_from one) one r x + (LINE_BYTES + 1)
  told_later b p i h r (Ok x) m t l = behind_later b (size p i) h r x.0.command x.0.progress x.1 m l
  told_later b p i h r (Err (More w)) m t l = absurd t
  told_later b p i h r (Err (Fault f)) m t l = l

  later_within : (n : ℕ) (b : ℕ) (r : Replay) (p : Progress) (i : Input) → size p i < n → b ≤ awaited p.phase i → b ≤ waited_from one r p i + (LINE_BYTES + 1)
  later_within zero b r p i k l = absurd (omega arith)
  later_within (suc n) b r p i k l =
      subst (λ m. b ≤ m + (LINE_BYTES + 1)) (sym (waited-is r p i))
      (told_later b p i (λ s q j g. later_within n b s q j (omega (arith, k, g))) r (read_command p true i) (command_lowers p true i) ((command-reader p).told i) (command_later p b i l))

  waited_later : (b : ℕ) (r : Replay) (p : Progress) (i : Input) → b ≤ awaited p.phase i → b ≤ waited_from one r p i + (LINE_BYTES + 1)
  waited_later b r p i l = later_within (size p i + 1) b r p i (omega arith) l

  behind_near : (r : Replay) (c : Option Placed) (q : Progress) (j : Input) → place_behind c q j ≤ waited_behind (waited_from one) one r c q j + (LINE_BYTES + 1)
  behind_near r (Some c) q j = on_later (awaited q.phase j) q j (λ s. waited_later (awaited q.phase j) s q j (omega arith)) (omega arith) (one r c)
  behind_near r None q j = omega arith

  told_near : (r : Replay) (x : Read Told) → told_place x ≤ waited_told (waited_from one) one r x + (LINE_BYTES + 1)
  told_near r (Ok x) = behind_near r x.0.command x.0.progress x.1
  told_near r (Err (More w)) = omega arith
  told_near r (Err (Fault f)) = omega arith

  -- what the next command is told by isn't far behind that place
  pub next_near : (r : Replay) (p : Progress) (i : Input) → told_place (read_command p true i) ≤ waited_from one r p i + (LINE_BYTES + 1)
  next_near r p i = subst (λ m. told_place (read_command p true i) ≤ m + (LINE_BYTES + 1)) (sym (waited-is r p i)) (told_near r (read_command p true i))

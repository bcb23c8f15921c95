-- A count of faults that is always 0, and what a write to a sink in memory does.
use Rattle.std.specs.Prelude.{◌≡◌, ◌≤◌, ◌-◌, ◌^◌, ◌++◌, ℕ, List, Result, Ok, Err, length}
use Rattle.std.proofs.Common.{arith}
use Rattle.proj_io.specs.Counts.{Counts, one_more}
use Rattle.proj_io.specs.declared.source.SinkError.{SinkError}
use Rattle.proj_io.specs.declared.source.SinkError.TheVariants.{Failed, OutOfMemory}

-- it is a u64
pub in_range : 0 ≤ 2 ^ 64 - 1
in_range = omega arith

-- a fault of a device that counts none isn't answered
pub no_fault : {Answered : Type 0} → Counts 0 0 Answered → ¬ Answered
no_fault counts answered = omega (arith, counts.rose answered)

-- a sink: what it has got, and how often it had no memory
pub record SinkState : Type 0 where
  pub bytes : List ℕ
  pub refusals : ℕ

-- a write of a piece: the whole piece is taken, or there is no memory, and that is counted
abbrev pub WriteTurn : SinkState → SinkState → List ℕ → Result ℕ SinkError → Type 0
WriteTurn old new piece (Ok n) = (n ≡ length piece) × (new ≡ record old { bytes = old.bytes ++ piece })
WriteTurn old new piece (Err Failed) = ⊥
WriteTurn old new piece (Err OutOfMemory) = new ≡ record old { refusals = one_more old.refusals }

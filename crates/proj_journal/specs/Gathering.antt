-- Writing behind the gate piece by piece.
use Rattle.std.specs.Prelude.{◌≡◌, ◌+◌, ◌++◌, ℕ, List, length}
use Rattle.std.specs.declared.option.Option.{Option}
use Rattle.proj_io.specs.Counts.{Counts}
use Rattle.proj_io.specs.Stops.{OnlyAdds}
use Rattle.proj_disk.specs.Disks.{DiskView}
use Rattle.proj_journal.specs.Rest.{KeepsList, KeepsRest, Puts, SpellsSame}

-- What writes behind the gate at the end do to a disk, of which the ghost members are given: it has the same list, which a stop leaves.
-- Unless they have failed it is at rest, and its count of faults is the same.
pub record WritesBehind {D : Type 0} (content : D → Option DiskView) (moment : D → ℕ) (left_since : D → ℕ → List ℕ → Type 0) (faults : D → ℕ) (end : ℕ) (old new : D) (HasFailed : Type 0) : Type 0 where
  pub rest : (HasFailed → ⊥) → KeepsRest end (content old) (content new)
  pub list : KeepsList (content old) (content new)
  pub stops : OnlyAdds (moment old) (moment new) (left_since old) (left_since new) (SpellsSame (content old))
  pub cause : Counts (faults old) (faults new) HasFailed
  pub calm : (HasFailed → ⊥) → faults new ≡ faults old

-- These bytes are written from a place up to the next, but for those that are gathered behind them.
pub record IsGathered (at next : ℕ) (bytes gathered : List ℕ) (old new : Option DiskView) : Type 0 where
  pub written : List ℕ
  pub split : bytes ≡ written ++ gathered
  pub ends : next ≡ at + length written
  pub puts : Puts at written old new

-- What a sink gets of a text that is gathered before it is sent.
use Rattle.std.specs.Prelude.{◌≡◌, ◌↔◌, ◌≤◌, ℕ, ◌++◌, take, Option, Result, Ok, Err, OnOk, OnErr, IsErrOf}
use Rattle.std.specs.Io.KnownBytes.{Appends}
use Rattle.git_objects.specs.Paths.{Bytes}
use Rattle.proj_io.specs.Counts.{Counts}
use Rattle.fast_export.specs.declared.error.ExportError.{ExportError}
use Rattle.fast_export.specs.declared.error.ExportError.TheVariants.{Fault}

-- a text was sent or kept behind what was kept before
pub record IsSent (before after : Option Bytes) (kept left text : Bytes) : Type 0 where
  pub sent : Bytes
  pub got : Appends before after sent
  pub all : sent ++ left ≡ kept ++ text

-- a front of a text was sent
pub record IsFront (before after : Option Bytes) (text : Bytes) : Type 0 where
  pub count : ℕ
  pub got : Appends before after (take count text)

-- A call that is given a text for a sink: in front of it stands what is kept already, and what is left is kept for the next call.
-- After an error a front of it was sent. A fault is told only where the sink counted one.
pub record IsPut {O : Type 0} (tells : O → Type 0) (written : O → Option Bytes) (faults refusals : O → ℕ) (old new : O)
    (kept left text : Bytes) (result : Result Unit ExportError) : Type 0 where
  pub sent : OnOk result (IsSent (written old) (written new) kept left text)
  pub front : OnErr result (IsFront (written old) (written new) (kept ++ text))
  pub told : tells new ↔ tells old
  pub fault : Counts (faults old) (faults new) (IsErrOf result Fault)
  pub memory : refusals old ≤ refusals new

-- whether there was an error
abbrev pub unit_of : {A : Type 0} → Result A ExportError → Result Unit ExportError
unit_of (Ok x) = Ok tt
unit_of (Err e) = Err e

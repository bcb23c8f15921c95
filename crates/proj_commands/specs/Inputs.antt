-- What is said of an input, and one that isn't read whole.
use Rattle.std.specs.Prelude.{◌≡◌, ◌⊎◌, ◌<◌, ◌^◌, length, Option, None, IfSome}
use Rattle.git_objects.specs.Paths.{Bytes}
use Rattle.git_objects.specs.declared.quantity.Quantity.TheVariants as limits
use Rattle.proj_words.specs.declared.outcome.Outcome.{Outcome}
use Rattle.proj_words.specs.declared.outcome.Outcome.TheVariants.{Limit, OutOfMemory, ReadFault}

-- what is said of an input: the one that the source told, or else some input
pub record ForInput (left : Option Bytes) (Says : Bytes → Type 0) : Type 0 where
  pub all : Bytes
  pub told : IfSome left (λ l. all ≡ l)
  pub says : Says all

-- why an input isn't read: want of memory, a fault of the source, or that it has more than 2^29 bytes
abbrev pub IsUnread : Option Bytes → Outcome → Type 0
IsUnread left e = (e ≡ OutOfMemory) ⊎ (e ≡ ReadFault) ⊎ ((e ≡ Limit limits.Input None) × ForInput left (λ all. 2 ^ 29 < length all))

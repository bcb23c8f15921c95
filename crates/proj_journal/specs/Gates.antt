-- What stands at the place of a gate.
use Rattle.std.specs.Prelude.{◌≡◌, ◌≢◌, ◌<◌, ◌≤◌, ◌⊎◌, ◌+◌, [], ◌∷◌, ℕ, List, length, take, None, ⊤}
use Rattle.std.specs.Int.{w32, to_be_bytes}
use Rattle.git_objects.specs.declared.limits.TheConstants.{ITEM_BYTES, ITEMS}
use Rattle.proj_journal.specs.declared.gate.Gate.{Gate}
use Rattle.proj_journal.specs.declared.gate.Gate.TheVariants.{Shut, Open, Broken}
use Rattle.proj_journal.specs.Spelling.{size_at}

-- an open gate before an item of this size, as the record with this number
pub record OpensItem (number size : ℕ) (rest : List ℕ) : Type 0 where
  pub behind : List ℕ
  pub is : rest ≡ 1 ∷ behind
  pub bytes : take 4 behind ≡ to_be_bytes w32 size
  pub few : number < ITEMS
  pub some : 0 < size
  pub small : size ≤ ITEM_BYTES
  pub room : 4 + size ≤ length behind

-- a gate that isn't 1
pub record EndsList (rest : List ℕ) : Type 0 where
  pub gate : ℕ
  pub behind : List ℕ
  pub is : rest ≡ gate ∷ behind
  pub shut : gate ≢ 1

-- an open gate before no item that may stand there
pub record OpensNothing (number : ℕ) (rest : List ℕ) : Type 0 where
  pub behind : List ℕ
  pub is : rest ≡ 1 ∷ behind
  pub none : size_at number behind ≡ None

abbrev pub IsGate : ℕ → List ℕ → Gate → Type 0
IsGate number rest Shut = EndsList rest
IsGate number rest (Open size) = OpensItem number size rest
IsGate number rest Broken = (rest ≡ []) ⊎ OpensNothing number rest

-- what is known of an open gate where the bytes aren't
abbrev pub MayBeOpen : ℕ → ℕ → Gate → Type 0
MayBeOpen number room Shut = ⊤
MayBeOpen number room (Open size) = (number < ITEMS) × (0 < size) × (size ≤ ITEM_BYTES) × (5 + size ≤ room)
MayBeOpen number room Broken = ⊤

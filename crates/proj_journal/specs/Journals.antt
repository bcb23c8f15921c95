-- A journal over a disk, as a keeper of items.
use Rattle.std.specs.Prelude.{◌≡◌, ◌≤◌, ◌⊎◌, ◌+◌, ◌*◌, ◌^◌, ℕ, List, [], ◌∷◌, false, length, slice_get, unwrap_or, take, drop, ◌++◌, Result, Ok, Err, Some, None, ⊤, IsSome, IfSome}
use Rattle.std.proofs.Common.{refl}
use Rattle.std.specs.Option.{option_map}
use Rattle.std.specs.declared.option.Option.{Option}
use Rattle.git_objects.specs.declared.limits.TheConstants.{ITEM_BYTES, ITEMS}
use Rattle.proj_disk.specs.Disks.{DiskView, stable}
use Rattle.proj_journal.specs.declared.place.Place.{Place}
use Rattle.proj_journal.specs.declared.journal.Journal.{Journal}
use Rattle.proj_journal.specs.declared.journal.NoJournal.{NoJournal}
use Rattle.proj_journal.specs.declared.opening.JournalError.{JournalError}
use Rattle.proj_journal.specs.declared.opening.JournalError.TheVariants.{Failed, Broken, OutOfMemory}
use Rattle.proj_journal.specs.Spelling.{header, records_of, AreItems, listed, spelled, placed}
use Rattle.proj_journal.specs.declared.gate.Gate.{Gate}
use Rattle.proj_journal.specs.Gates.{IsGate}
use Rattle.proj_journal.specs.Rest.{StandsAt, Leaves, new_bytes}

-- the disk under a journal
abbrev pub disk_of : {D : Type 0} → Journal D → D
disk_of journal = journal.disk

-- the items of a disk that is known
abbrev pub items_of : Option DiskView → Option (List (List ℕ))
items_of None = None
items_of (Some disk) = Some (listed disk.bytes)

-- how many they are; of a disk that isn't known the places tell it
abbrev pub number_of : Option DiskView → List Place → ℕ
number_of None places = length places
number_of (Some disk) places = length (listed disk.bytes)

-- the items of a journal, where its disk is known, and how many they are
abbrev pub items_in : {D : Type 0} → (D → Option DiskView) → Journal D → Option (List (List ℕ))
items_in content journal = items_of (content journal.disk)

abbrev pub number_in : {D : Type 0} → (D → Option DiskView) → Journal D → ℕ
number_in content journal = number_of (content journal.disk) journal.places.items

-- each item has a length that may be kept, and stands below a bound that no journal reaches
abbrev pub AllFit : List Place → Type 0
AllFit [] = ⊤
AllFit (place ∷ places) = (place.size ≤ ITEM_BYTES) × (place.at + place.size ≤ 2 ^ 50) × AllFit places

-- where an item stands; one that there isn't has no bytes
abbrev pub place_at : List Place → ℕ → Place
place_at places k = unwrap_or (slice_get places k) (record { at = 0; size = 0 })

-- a known disk is at rest, with its items in these places
abbrev pub StandsIn : Option DiskView → ℕ → List Place → Type 0
StandsIn None end places = ⊤
StandsIn (Some disk) end places = StandsAt end (listed disk.bytes) disk × (places ≡ placed 8 (listed disk.bytes))

-- a journal of which calls may be made
pub record IsOpen {D : Type 0} (content : D → Option DiskView) (journal : Journal D) : Type 0 where
  pub is_open : journal.closed ≡ false
  pub few : length journal.places.items ≤ ITEMS
  pub room : journal.end ≤ 8 + length journal.places.items * (ITEM_BYTES + 5)
  pub fit : AllFit journal.places.items
  pub told : StandsIn (content journal.disk) journal.end journal.places.items

-- the lists that a stop leaves are those of the images that it leaves of the disk
abbrev pub ListsLeft : (ℕ → List ℕ → Type 0) → ℕ → List (List ℕ) → Type 0
ListsLeft left_since t list = (image : List ℕ) × left_since t image × Leaves image list

pub items_known : (o : Option DiskView) → IsSome o → IsSome (items_of o)
items_known None is = is
items_known (Some disk) is = refl

pub items_counted : (o : Option DiskView) (places : List Place) → IfSome (items_of o) (λ all. length all ≡ number_of o places)
items_counted None places = tt
items_counted (Some disk) places = refl

-- the records of a known disk are read up to this place, and their items stand in these places
pub record IsReached (at : ℕ) (places : List Place) (bytes : List ℕ) : Type 0 where
  pub items : List (List ℕ)
  pub front : take at bytes ≡ header ++ records_of items
  pub ends : at ≡ 8 + length (records_of items)
  pub within : at ≤ length bytes
  pub sized : AreItems items
  pub few : length items ≤ ITEMS
  pub stand : places ≡ placed 8 items

-- the same where the disk is known and its bytes are stable
abbrev pub Reaches : ℕ → List Place → Option DiskView → Type 0
Reaches at places None = ⊤
Reaches at places (Some disk) = IsReached at places disk.bytes × (disk ≡ stable disk.bytes)

-- at a place of a known disk stands this
abbrev pub GateAt : ℕ → ℕ → Gate → Option DiskView → Type 0
GateAt number at gate None = ⊤
GateAt number at gate (Some disk) = IsGate number (drop at disk.bytes) gate

-- the whole list of a known disk was read: it is at rest, with its items in these places
abbrev pub IsRead : Option DiskView → ℕ → List Place → Type 0
IsRead None end places = ⊤
IsRead (Some disk) end places = StandsAt end (listed disk.bytes) disk × (places ≡ placed 8 (listed disk.bytes)) × (spelled disk.bytes ≡ Ok (listed disk.bytes))

-- the bytes of a known disk are broken at a place
abbrev pub IsBrokenAt : ℕ → Option DiskView → Type 0
IsBrokenAt place None = ⊤
IsBrokenAt place (Some disk) = spelled disk.bytes ≡ Err place

-- the bytes of a known disk spell its items, and aren't broken
abbrev pub SpellsItsItems : Option DiskView → Type 0
SpellsItsItems None = ⊤
SpellsItsItems (Some disk) = spelled disk.bytes ≡ Ok (listed disk.bytes)

-- what it says of a known disk that no journal was opened
abbrev pub TellsWhy : Option DiskView → JournalError → Type 0
TellsWhy disk Failed = ⊤
TellsWhy disk (Broken place) = IsBrokenAt place disk
TellsWhy disk OutOfMemory = ⊤

-- A known disk was read: where there is a journal its bytes spell a list, and where it is called broken they spell none, and are broken
-- at that place.
abbrev pub IsReadAs : {D : Type 0} → Option DiskView → Result (Journal D) (NoJournal D) → Type 0
IsReadAs disk (Ok journal) = SpellsItsItems disk
IsReadAs disk (Err none) = TellsWhy disk none.error

-- a disk as it was, or as after a sync: with the same bytes, all of them stable
abbrev pub IsSameOrSynced : Option DiskView → Option DiskView → Type 0
IsSameOrSynced old new = (new ≡ old) ⊎ (new ≡ option_map (λ disk. stable disk.bytes) old)

-- a journal with the bytes of a new one, where the disk is known
abbrev pub IsNew : Option DiskView → Type 0
IsNew None = ⊤
IsNew (Some disk) = disk.bytes ≡ new_bytes

-- a journal without items
abbrev pub IsEmpty : Option DiskView → Type 0
IsEmpty None = ⊤
IsEmpty (Some disk) = listed disk.bytes ≡ []

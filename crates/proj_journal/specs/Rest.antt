-- A disk on which a list stands, and what a stop leaves of it.
use Rattle.std.specs.Prelude.{◌≡◌, ◌≢◌, ◌<◌, ◌≤◌, ◌⊎◌, ◌+◌, ◌++◌, [], ◌∷◌, ℕ, List, length, take, Ok, Some, None, MatchResult, ⊤}
use Rattle.std.specs.declared.option.Option.{Option}
use Rattle.std.specs.Int.{w32, to_be_bytes}
use Rattle.git_objects.specs.declared.limits.TheConstants.{ITEM_BYTES, ITEMS}
use Rattle.proj_disk.specs.Disks.{DiskView, stable, put}
use Rattle.proj_journal.specs.Spelling.{header, record_of, records_of, spelled, listed, AreItems}

-- each range begins there or further on
abbrev pub AllBehind : ℕ → List (ℕ × ℕ) → Type 0
AllBehind place [] = ⊤
AllBehind place (range ∷ ranges) = (place ≤ range.0) × AllBehind place ranges

-- the records of these items are stable up to the end, where a gate that isn't 1 is stable too, and only behind it has anything been written
pub record StandsAt (end : ℕ) (items : List (List ℕ)) (disk : DiskView) : Type 0 where
  pub gate : ℕ
  pub shut : gate ≢ 1
  pub front : take (end + 1) disk.synced ≡ header ++ (records_of items ++ gate ∷ [])
  pub ends : end ≡ 8 + length (records_of items)
  pub sized : AreItems items
  pub few : length items ≤ ITEMS
  pub behind : AllBehind (end + 1) disk.ranges

-- the disk is at rest: its own items stand there
abbrev pub IsAtRest : ℕ → Option DiskView → Type 0
IsAtRest end None = ⊤
IsAtRest end (Some disk) = StandsAt end (listed disk.bytes) disk

-- a further record stands whole and stable behind the shut gate, and another shut gate behind it
pub record StagedAt (end : ℕ) (item : List ℕ) (items : List (List ℕ)) (disk : DiskView) : Type 0 where
  pub gate : ℕ
  pub shut : gate ≢ 1
  pub rest : List ℕ
  pub bytes : disk.bytes ≡ header ++ (records_of items ++ (gate ∷ (to_be_bytes w32 (length item) ++ (item ++ (0 ∷ rest)))))
  pub settled : disk ≡ stable disk.bytes
  pub ends : end ≡ 8 + length (records_of items)
  pub sized : AreItems items
  pub some : 0 < length item
  pub small : length item ≤ ITEM_BYTES
  pub few : length items < ITEMS

-- the same where the disk is known
abbrev pub IsStaged : ℕ → List ℕ → Option DiskView → Type 0
IsStaged end item None = ⊤
IsStaged end item (Some disk) = StagedAt end item (listed disk.bytes) disk

-- what is said of a known disk; one that isn't known stays unknown
abbrev pub IfKnown : Option DiskView → Option DiskView → (DiskView → DiskView → Type 0) → Type 0
IfKnown None new Says = new ≡ None
IfKnown (Some old) None Says = ⊥
IfKnown (Some old) (Some new) Says = Says old new

-- the bytes spell the list that the disk had
abbrev pub SpellsSame : Option DiskView → List ℕ → Type 0
SpellsSame None image = ⊤
SpellsSame (Some disk) image = spelled image ≡ Ok (listed disk.bytes)

-- or that list with an item behind it
abbrev pub SpellsOneMore : List ℕ → Option DiskView → List ℕ → Type 0
SpellsOneMore item None image = ⊤
SpellsOneMore item (Some disk) image = (spelled image ≡ Ok (listed disk.bytes)) ⊎ (spelled image ≡ Ok (listed disk.bytes ++ item ∷ []))

-- a call left the disk at rest, with the same list
abbrev pub KeepsRest : ℕ → Option DiskView → Option DiskView → Type 0
KeepsRest end old new = IfKnown old new (λ d e. StandsAt end (listed d.bytes) e × (listed e.bytes ≡ listed d.bytes))

-- a call left the same list
abbrev pub KeepsList : Option DiskView → Option DiskView → Type 0
KeepsList old new = IfKnown old new (λ d e. listed e.bytes ≡ listed d.bytes)

-- a call staged an item, with the same list
abbrev pub Stages : ℕ → List ℕ → Option DiskView → Option DiskView → Type 0
Stages end item old new = IfKnown old new (λ d e. StagedAt end item (listed e.bytes) e × (listed e.bytes ≡ listed d.bytes))

-- a call put these bytes at a place
abbrev pub Puts : ℕ → List ℕ → Option DiskView → Option DiskView → Type 0
Puts at piece old new = IfKnown old new (λ d e. e.bytes ≡ put at piece d.bytes)

-- a call opened the gate before the staged item: the disk is at rest, with one item more
abbrev pub AddsItem : ℕ → List ℕ → Option DiskView → Option DiskView → Type 0
AddsItem end item old new = IfKnown old new (λ d e. StandsAt (end + 5 + length item) (listed e.bytes) e × (listed e.bytes ≡ listed d.bytes ++ item ∷ []))

-- a call left the list as it was or with the item
abbrev pub MayAddItem : List ℕ → Option DiskView → Option DiskView → Type 0
MayAddItem item old new = IfKnown old new (λ d e. (listed e.bytes ≡ listed d.bytes) ⊎ (listed e.bytes ≡ listed d.bytes ++ item ∷ []))

-- a stop leaves this list; where its bytes are broken it stands for every list, so that a clause which names the lists rules it out
abbrev pub Leaves : List ℕ → List (List ℕ) → Type 0
Leaves image list = MatchResult (spelled image) (λ items. items ≡ list) (λ _. ⊤)

-- the bytes of a new journal: the header and a gate 0
abbrev pub new_bytes : List ℕ
new_bytes = header ++ 0 ∷ []

-- a known disk is at rest without items, and has these bytes
abbrev pub IsEmptyList : Option DiskView → Type 0
IsEmptyList None = ⊤
IsEmptyList (Some disk) = StandsAt 8 (listed disk.bytes) disk × (listed disk.bytes ≡ []) × (disk.bytes ≡ new_bytes)

-- what stands at the end behind an append: the record of the item, and a gate 0
abbrev pub record_and_gate : List ℕ → List ℕ
record_and_gate item = record_of item ++ 0 ∷ []

-- a known disk got the record of an item where its list ended, and a gate 0 behind it
abbrev pub GetsRecord : List ℕ → Option DiskView → Option DiskView → Type 0
GetsRecord item old new =
    IfKnown old new (λ d e. e.bytes ≡ put (8 + length (records_of (listed d.bytes))) (record_and_gate item) d.bytes)

-- the same without the gate of the record, which is opened last
abbrev pub behind_gate : List ℕ → List ℕ
behind_gate item = to_be_bytes w32 (length item) ++ (item ++ 0 ∷ [])

-- The list of items that the bytes of a journal spell.
use Rattle.std.specs.Prelude.{◌<◌, ◌≤◌, ◌+◌, ◌++◌, [], ◌∷◌, ◌==◌, ◌&&◌, nat_le, nat_lt, nat_eq, ℕ, List, length, take, drop, Result, Ok, Err, Some, None, if◌then◌else◌, unwrap_or, ⊤}
use Rattle.std.proofs.Common.{zero, suc}
use Rattle.std.specs.declared.option.Option.{Option}
use Rattle.std.specs.Int.{w32, to_be_bytes, from_be_bytes}
use Rattle.std.specs.List.{starts_with}
use Rattle.git_objects.specs.declared.limits.TheConstants.{ITEM_BYTES, ITEMS}
use Rattle.proj_journal.specs.declared.place.Place.{Place}

-- the first eight bytes, `proj 01` and a line feed
abbrev pub header : List ℕ
header = 112 ∷ 114 ∷ 111 ∷ 106 ∷ 32 ∷ 48 ∷ 49 ∷ 10 ∷ []

-- an item behind an open gate and its length
unfoldable pub record_of : List ℕ → List ℕ
record_of item = 1 ∷ (to_be_bytes w32 (length item) ++ item)

unfoldable pub records_of : List (List ℕ) → List ℕ
records_of [] = []
records_of (item ∷ items) = record_of item ++ records_of items

-- the size that stands behind an open gate, where a record of that size may stand there as the one with this number
unfoldable pub size_at : ℕ → List ℕ → Option ℕ
size_at number behind =
    let size = from_be_bytes w32 (take 4 behind) in
    if nat_lt number (ITEMS) && (nat_le 4 (length behind) && (nat_le 1 size && (nat_le size (ITEM_BYTES) && nat_le (4 + size) (length behind)))) then Some size else None

-- an item before others, where these are known
abbrev pub before : List ℕ → Result (List (List ℕ)) ℕ → Result (List (List ℕ)) ℕ
before item (Ok items) = Ok (item ∷ items)
before item (Err place) = Err place

-- an item of this size, if there is one, and then others
abbrev pub item_then : ℕ → List ℕ → Option ℕ → Result (List (List ℕ)) ℕ → Result (List (List ℕ)) ℕ
item_then place behind None others = Err place
item_then place behind (Some size) others = before (take size (drop 4 behind)) others

-- the items from a place on, so many bytes further, or the place of the gate at which no list can be read. The first gate that isn't 1 ends
-- the list.
unfoldable pub items_from : ℕ → ℕ → ℕ → List ℕ → Result (List (List ℕ)) ℕ
items_from place number skip [] = Err place
items_from place number zero (gate ∷ behind) =
    if gate == 1 then item_then place behind (size_at number behind) (items_from (place + 1) (number + 1) (4 + unwrap_or (size_at number behind) 0) behind) else Ok []
items_from place number (suc skip) (byte ∷ bytes) = items_from (place + 1) number skip bytes

-- the list that bytes spell, or the place where they are broken
unfoldable pub spelled : List ℕ → Result (List (List ℕ)) ℕ
spelled bytes = if starts_with nat_eq bytes header then items_from 8 0 0 (drop 8 bytes) else Err 0

abbrev pub list_in : Result (List (List ℕ)) ℕ → List (List ℕ)
list_in (Ok items) = items
list_in (Err place) = []

-- the list that bytes spell, where they aren't broken
abbrev pub listed : List ℕ → List (List ℕ)
listed bytes = list_in (spelled bytes)

-- each may be kept
abbrev pub AreItems : List (List ℕ) → Type 0
AreItems [] = ⊤
AreItems (item ∷ items) = (0 < length item) × (length item ≤ ITEM_BYTES) × AreItems items

-- where the bytes of each item stand, and how many they are, the first record at this place
abbrev pub placed : ℕ → List (List ℕ) → List Place
placed place [] = []
placed place (item ∷ items) = record { at = place + 5; size = length item } ∷ placed (place + (5 + length item)) items

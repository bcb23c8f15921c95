-- Loading one item more, and those that are loaded so far.
use Rattle.std.specs.Prelude.{◌≡◌, ⊤, ◌+◌, ℕ, Bool, true, false, List, length, take, sum_by, Option, Ok, IfSome}
use Rattle.git_objects.specs.Paths.{Bytes}
use Rattle.proj_io.specs.Items.{item_of}
use Rattle.state_items.specs.declared.fault.ItemFault.{ItemFault}
use Rattle.state_items.specs.declared.fault.ItemFault.TheVariants.{Broken, Collision as Clashes, OutOfMemory as NoMemory}
use Rattle.state_items.specs.Items.{Held, item_fits, read_items, read_one}
use Rattle.state_items.specs.Readings.{Gathered, Holds, with_piece}
use Rattle.repo_ground.specs.declared.state.LoadError.{LoadError}
use Rattle.repo_ground.specs.declared.state.LoadError.TheVariants.{StoreFault, Damaged, Collision, OutOfMemory}

-- the error of an item that isn't read to its end
abbrev pub load_error : ℕ → ItemFault → LoadError
load_error item (Broken at) = Damaged item at
load_error item (Clashes n) = Collision n
load_error item NoMemory = OutOfMemory

-- why the bytes of an item of this number aren't there: a fault, want of memory, or that the item doesn't fit
abbrev pub IsUnread : ℕ → LoadError → Bool → Type 0
IsUnread number StoreFault fits = ⊤
IsUnread number OutOfMemory fits = ⊤
IsUnread number (Damaged item at) fits = (item ≡ number) × (at ≡ 0) × (fits ≡ false)
IsUnread number (Collision n) fits = ⊥

-- The piece has the item of this number, which fits behind so many bytes: the keeper's where it tells its items. Else what was read is
-- as before.
pub record IsFetched (told : Option (List Bytes)) (number before : ℕ) (was v : Gathered) (now : ℕ) : Type 0 where
  pub piece : v ≡ with_piece was v.piece
  pub fits : item_fits number before v.piece ≡ true
  pub size : now ≡ before + length v.piece
  pub keeps : IfSome told (λ all. v.piece ≡ item_of all number)

-- the item of this number is read behind what is held of so many bytes: the keeper's where it tells its items
pub record IsReadNext (told : Option (List Bytes)) (number before : ℕ) (h : Held) (now : ℕ) (v : Gathered) : Type 0 where
  pub item : Bytes
  pub keeps : IfSome told (λ all. item ≡ item_of all number)
  pub after : Held
  pub read : read_one number before h item ≡ Ok after
  pub gathered : Holds after v
  pub size : now ≡ before + length item

-- so many first items are read, which have so many bytes together
pub record AreRead (told : Option (List Bytes)) (number size : ℕ) (v : Gathered) : Type 0 where
  pub items : List Bytes
  pub keeps : IfSome told (λ all. items ≡ take number all)
  pub held : Held
  pub read : read_items items ≡ Ok held
  pub gathered : Holds held v
  pub many : number ≡ length items
  pub long : size ≡ sum_by length items

-- A piece of a disk that was read ahead.
use Rattle.std.specs.Prelude.{◌≡◌, ◌≤◌, ℕ, length, take, drop, None, Some, ⊤}
use Rattle.std.specs.declared.option.Option.{Option}
use Rattle.proj_disk.specs.Disks.{DiskView}
use Rattle.proj_journal.specs.declared.window.Window.{Window}

-- it shows bytes that stand on the disk, where that is known
abbrev pub Shows : Option DiskView → Window → Type 0
Shows None window = ⊤
Shows (Some disk) window = take window.count window.bytes.items ≡ take window.count (drop window.from disk.bytes)

-- a window on a disk, with room for five bytes
pub record IsWindow (disk : Option DiskView) (window : Window) : Type 0 where
  pub within : window.count ≤ length window.bytes.items
  pub room : 5 ≤ length window.bytes.items
  pub shows : Shows disk window

-- behind the first so many bytes of it come the five that stand at a place, or as many as stand there
abbrev pub ShowsAt : Option DiskView → ℕ → ℕ → Window → Type 0
ShowsAt None at skip window = ⊤
ShowsAt (Some disk) at skip window = take 5 (drop skip (take window.count window.bytes.items)) ≡ take 5 (drop at disk.bytes)
